use Rattle.std.proofs.Common.{◌≡◌, ◌++◌, ℕ, List, length, drop, replicate, append-nil, ap, ◌∙◌}
use Rattle.std.proofs.lemmas.List.{take_at, drop_at}
use borrow.Rule.Slice.PartMut.{put_mid}
use Rattle.indicium.specs.Marks.{body}
use Rattle.indicium.proofs.Readings.{length_body}
use Rattle.indicium.proofs.writing.write_coded.Goals as goal

-- two halves written over zeros
joined : (x y : List ℕ) → length x ≡ 32 → put_mid 32 32 (x ++ replicate 32 0) y ≡ x ++ y
joined x y long =
    let rest : drop 32 (x ++ replicate 32 0) ≡ replicate 32 0 = drop_at {A = ℕ} x (replicate 32 0) 32 long in
    let front = take_at {A = ℕ} x (replicate 32 0) 32 long in
    ap (λ f. f ++ (y ++ drop 32 (drop 32 (x ++ replicate 32 0)))) front
    ∙ ap (λ r. x ++ (y ++ drop 32 r)) rest ∙ ap (λ t. x ++ t) (append-nil y)

pub returns : goal.returns
returns c =
    let first = c.copy_from_slice.ensures.after ∙ c.body_of-body.ensures in
    joined _ _ (ap length first ∙ length_body c.args.mark.now c.requires) ∙ ap (λ x. x ++ c.copy_from_slice-2.new.self) first
    ∙ ap (λ y. body c.args.mark.now ++ y) c.copy_from_slice-2.ensures.after
