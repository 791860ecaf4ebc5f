-- The sums by recursion are those of the lists, and natural numbers cut nothing off in a lawful ledger.
use Rattle.std.proofs.Common.{◌≡◌, ℕ, pos, ◌+◌, ◌-◌, ◌≤◌, ◌+ℤ◌, ◌-ℤ◌, ◌↔◌, Bool, true, false, cond, List, [], ◌∷◌, ◌++◌, sum, refl, sym, ap, ◌∙◌, arith, eqb, ◌&&◌}
use Rattle.std.proofs.lemmas.Int.{ints}
use Rattle.std.proofs.lemmas.List.Sums.{sum_by-cons}
use Rattle.bench_base.specs.declared.{words.Kind.TheVariants.Reset, words.Verdict.Verdict, ledger.Commit.Commit, ledger.Commit.TheVariants.Applied, ledger.Commit.TheVariants.Debited, ledger.Commit.TheVariants.Ruled}
use Rattle.bench_base.specs.Kinds.{same_kind, empties, is_granted}
use Rattle.psd_wire.specs.declared.message.Request.{Request}
use Rattle.ledger_terms.specs.Requests.{request_in, request_of}
use Rattle.ledger_terms.specs.Centres.{deposits, customer_bought, customer_returned, balance, whole_balance}
use Rattle.ledger_terms.specs.Sums.{buy_of, return_of, adds, takes, applied_list, ruled_list, applied_sum, ruled_sum, buys, returns, loads, clears, spent, bought, returned, loaded, refunded, ascending, descending, whole_descending}

abbrev Sums : (Verdict → Request → List ℕ) → (Verdict → Request → ℕ) → Type 0
Sums f g = (v : Verdict) (q : Request) (xs : List ℕ) → sum (f v q ++ xs) ≡ sum xs + g v q

sum_cons : (x : ℕ) (xs : List ℕ) → sum (x ∷ xs) ≡ sum xs + x
sum_cons x xs = omega (arith, sum_by-cons (λ y. y) x xs)

one_or_none : (b : Bool) (a : ℕ) (xs : List ℕ) → sum (cond b (a ∷ []) [] ++ xs) ≡ sum xs + cond b a 0
one_or_none true a xs = sum_cons a xs
one_or_none false a xs = omega arith

buy_sums : Sums buy_of adds
unfolding buy_of adds
buy_sums v q xs = one_or_none (is_granted v && same_kind q.kind Reset) q.amount xs

return_sums : Sums return_of takes
unfolding return_of takes
return_sums v q xs = one_or_none (is_granted v && empties q.kind) q.amount xs

sum_if : (b : Bool) (xs ys : List ℕ) (m n : ℕ) → sum xs ≡ m → sum ys ≡ n → sum (cond b xs ys) ≡ cond b m n
sum_if true xs ys m n h k = h
sum_if false xs ys m n h k = k

applied_sums : (f : Verdict → Request → List ℕ) (g : Verdict → Request → ℕ) → Sums f g → (d : ℕ) (C : List Commit) → sum (applied_list f d C) ≡ applied_sum g d C
applied_sums f g h d [] = refl
applied_sums f g h d (Applied e n v ∷ C) =
    let same = applied_sums f g h d C in
    sum_if (eqb e d) _ _ _ _ (h v (request_of d n C) (applied_list f d C) ∙ ap (λ m. m + g v (request_of d n C)) same) same
applied_sums f g h d (_ ∷ C) = applied_sums f g h d C

ruled_sums : (f : Verdict → Request → List ℕ) (g : Verdict → Request → ℕ) → Sums f g → (d : ℕ) (C : List Commit) → sum (ruled_list f d C) ≡ ruled_sum g d C
ruled_sums f g h d [] = refl
ruled_sums f g h d (Ruled e n v note ∷ C) =
    let same = ruled_sums f g h d C in
    sum_if (eqb e d) _ _ _ _ (h v (request_in note) (ruled_list f d C) ∙ ap (λ m. m + g v (request_in note)) same) same
ruled_sums f g h d (_ ∷ C) = ruled_sums f g h d C

pub bought_sum : (d : ℕ) (C : List Commit) → bought d C ≡ sum (buys d C)
bought_sum d C = sym (ruled_sums buy_of adds buy_sums d C)

pub returned_sum : (d : ℕ) (C : List Commit) → returned d C ≡ sum (returns d C)
returned_sum d C = sym (ruled_sums return_of takes return_sums d C)

pub loaded_sum : (d : ℕ) (C : List Commit) → loaded d C ≡ sum (loads d C)
loaded_sum d C = sym (applied_sums buy_of adds buy_sums d C)

pub refunded_sum : (d : ℕ) (C : List Commit) → refunded d C ≡ sum (clears d C)
refunded_sum d C = sym (applied_sums return_of takes return_sums d C)

pub ascending_sum : (d : ℕ) (C : List Commit) → ascending d C ≡ sum (spent d C)
ascending_sum d [] = refl
ascending_sum d (Debited e p a k t w ∷ C) =
    let same = sym (ascending_sum d C) in
    sym (sum_if (eqb e d) _ _ _ _ (sum_cons a (spent d C) ∙ ap (λ m. m + a) same) same)
ascending_sum d (_ ∷ C) = ascending_sum d C

-- descending is the whole number where no more was spent and refunded than loaded
pub descending_whole : (d : ℕ) (C : List Commit) → ascending d C + refunded d C ≤ loaded d C → whole_descending d C ≡ pos (descending d C)
descending_whole d C h = omega (arith, ints)

account_numbers : (spent left back resets refunds adds takes loaded : ℕ) → spent + back ≤ loaded → left ≡ loaded - (spent + back)
    → (spent + left + (refunds + takes) ≡ resets + adds) ↔ ((pos spent +ℤ (pos loaded -ℤ pos spent -ℤ pos back)) ≡ ((pos resets -ℤ pos refunds) +ℤ (pos adds -ℤ pos takes)))
account_numbers spent left back resets refunds adds takes loaded h e = (λ k. omega (arith, ints), λ k. omega (arith, ints))

-- the account of the registers in whole numbers
pub account_whole : (d resets refunds adds takes : ℕ) (C : List Commit) → ascending d C + refunded d C ≤ loaded d C
    → (ascending d C + descending d C + (refunds + takes) ≡ resets + adds) ↔ ((pos (ascending d C) +ℤ whole_descending d C) ≡ ((pos resets -ℤ pos refunds) +ℤ (pos adds -ℤ pos takes)))
account_whole d resets refunds adds takes C h =
    account_numbers (ascending d C) (descending d C) (refunded d C) resets refunds adds takes (loaded d C) h refl

balance_numbers : (deposits bought returned : ℕ) → bought ≤ deposits + returned → (pos deposits -ℤ pos bought +ℤ pos returned) ≡ pos ((deposits + returned) - bought)
balance_numbers deposits bought returned h = omega (arith, ints)

-- a balance is the whole number where no more was bought than deposited and returned
pub balance_whole : (w : ℕ) (C : List Commit) → customer_bought w C ≤ deposits w C + customer_returned w C → whole_balance w C ≡ pos (balance w C)
balance_whole w C h = balance_numbers (deposits w C) (customer_bought w C) (customer_returned w C) h
