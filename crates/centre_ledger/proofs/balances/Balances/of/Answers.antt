use Rattle.std.proofs.Common.{rules, ◌≡◌, ℕ, ◌+◌, ◌<◌, List, [], ◌∷◌, ◌++◌, take, set, get_or, map, length, length-set, sym, ap, ◌∙◌}
use Rattle.std.specs.Prelude.{IfSome}
use Rattle.std.proofs.lemmas.List.{take_more_set, map_more, take_all}
use Rattle.std.proofs.lemmas.List.Elements.{All-more}
use Rattle.centre_ledger.specs.Books.{IsCovered, left_of, balances_by}
use Rattle.centre_ledger.proofs.balances.Balances.of.Goals as goal

-- a loop that writes f of each element at its place
written : {X : Type 0} (f : X → ℕ) (xs : List X) (left : List ℕ) (k v : ℕ) (x : X) → k < length xs → k < length left → x ≡ get_or xs k x → v ≡ f x
    → take k left ≡ map f (take k xs) → take (k + 1) (set left k v) ≡ map f (take (k + 1) xs)
written f xs left k v x in_xs in_left is value h =
    take_more_set left k v in_left
    ∙ (λ i. h i ++ (value ∙ ap f is) i ∷ [])
    ∙ sym (map_more f xs k x in_xs)

pub loop-place-preserved : goal.loop-place-preserved
loop-place-preserved c =
    let devices = c.args.devices.now in
    let k = c.loop-place.place in
    let x = c.index-customers-place.result in
    record {
      size = search (rules, length-set);
      left = written (left_of devices) c.args.customers.now c.loop-place.left k c.in_ok-left.field-0 x (search rules) (search rules) (search rules) (search rules) c.loop-place.invariant.left;
      covered = All-more (λ o. IfSome o (IsCovered devices)) c.args.customers.now k x (search rules) c.loop-place.invariant.covered (search (rules, c.in_ok-left.ensures, c.in_ok-left.was));
    }

pub returns-clause-value : goal.returns-clause-value
returns-clause-value c =
    let n = c.loop-place.place in
    sym (take_all n c.loop-place.left (search rules)) ∙ c.loop-place.invariant.left ∙ ap (balances_by c.args.devices.now) (take_all n c.args.customers.now (search rules))
