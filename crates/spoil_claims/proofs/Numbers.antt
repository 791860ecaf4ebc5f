-- Each claim lies in the cell of its number, and stays there through each line of a run.
use Rattle.std.proofs.Common.{◌≡◌, inl, inr, ℕ, ◌+◌, ◌-◌, ◌<◌, ◌≤◌, List, [], ◌∷◌, length, Option, Some, None, Bool, true, false, ◌==◌, sym, ap, ◌∙◌, subst, arith}
use Rattle.std.specs.Prelude.{is_some}
use Rattle.std.proofs.lemmas.Bool.{cases_eq, cases_lt}
use Rattle.std.proofs.lemmas.List.{get_or_past, set_past}
use Rattle.std.proofs.lemmas.Option.{same_Some}
use Rattle.bench_base.proofs.Facts.{some_none}
use Rattle.nv_model.specs.declared.nv.Nv as nv
use Rattle.nv_store.specs.RoomView.{cells_of, kept_in}
use Rattle.node_acts.specs.RowList.{row_at, row_of, commits_at, put}
use Rattle.node_acts.specs.RowLaws.{put_other}
use Rattle.line_extensions.specs.Trace.{StepRecord, Skipped, Did}
use Rattle.line_extensions.specs.SideTrace.{SideStep, Plain, Own, Broken}
use Rattle.spoil_claims.specs.Answers.{IsScanned, IsNewTold, IsClaimTold, IsAnswered, IsNewCut, IsClaimCut, IsCutShort, AreAnswered}
use Rattle.spoil_claims.specs.Claims.{Claims, IsHere, AreNumbered, kept, last_claim}
use Rattle.spoil_claims.specs.Courses.{Either, row_for, as_credited}
use Rattle.spoil_claims.specs.View.{rows_of}
use Rattle.spoil_claims.specs.declared.{claim.ClaimLine.ClaimLine, claim.ClaimLine.TheVariants.Claim, claim.ClaimLine.TheVariants.Credits, claim.ClaimLine.TheVariants.Reserved, claim.ClaimRow.ClaimRow, desk.Desk.Desk}
use Rattle.spoil_claims.proofs.Keeping.{here_by, kept_inside, put_claim}

pub either_any : {P Q X : Type 0} (b : Bool) → (P → X) → (Q → X) → Either b P Q → X
either_any true f h either = f either
either_any false f h either = h either

-- a desk has them so from its storage
pub desk_numbers : {N : Type 0} (g : nv.Ghosts N) (desk : Desk N g) → AreNumbered (rows_of desk)
desk_numbers g desk c x first is =
    let cells = cells_of desk.room in
    let held = kept_in desk.room in
    let inside = kept_inside cells held c (ap (λ (o : Option ClaimRow). is_some o) is) in
    (here_by cells held desk.read desk.cells c first (omega (arith, inside, desk.cells)) (Some x) (sym is)).0

-- == a commit ==

pub inside : (rows : Claims) (x : ClaimRow) → IsHere rows x → x.claim - 1 < length rows
inside rows x is = elim (cases_lt (x.claim - 1) (length rows)) [
  | inl lt ↦ lt
  | inr le ↦ absurd (some_none (sym is.here ∙ ap (λ o. row_of o) (get_or_past rows (x.claim - 1) None le)))
]

pub outside : (rows : Claims) (x : ClaimRow) → length rows ≤ x.claim - 1 → put rows (x.claim - 1) x ≡ rows
outside rows x le = set_past rows (x.claim - 1) (Some (commits_at (row_at rows (x.claim - 1)) + 1, x)) le

-- the claim may be scanned: it is counted from 1, and no other is kept under its number
pub record MayScan (rows : Claims) (x : ClaimRow) : Type 0 where
  pub first : 1 ≤ x.claim
  pub only : (y : ClaimRow) → kept rows x.claim ≡ Some y → y ≡ x

pub kept_only : (rows : Claims) (x : ClaimRow) → kept rows x.claim ≡ Some x → (y : ClaimRow) → kept rows x.claim ≡ Some y → y ≡ x
kept_only rows x here y is = same_Some y x (sym is ∙ here)

pub put_only : (rows : Claims) (x y : ClaimRow) → kept (put rows (x.claim - 1) x) x.claim ≡ Some y → y ≡ x
put_only rows x y is = elim (cases_lt (x.claim - 1) (length rows)) [
  | inl lt ↦ kept_only (put rows (x.claim - 1) x) x (put_claim rows (x.claim - 1) x lt) y is
  | inr le ↦
      let past = ap (λ (r : Claims). kept r x.claim) (outside rows x le) ∙ ap (λ o. row_of o) (get_or_past rows (x.claim - 1) None le) in
      absurd (some_none (sym is ∙ past))
]

put_numbers : (rows : Claims) (x : ClaimRow) → 1 ≤ x.claim → AreNumbered rows → AreNumbered (put rows (x.claim - 1) x)
put_numbers rows x from_1 numbers c y first is = elim (cases_eq (c - 1) (x.claim - 1)) [
  | inl same ↦
      let number : x.claim ≡ c = omega (arith, first, from_1, same) in
      let row = put_only rows x y (ap (λ (n : ℕ). kept (put rows (x.claim - 1) x) n) number ∙ is) in
      ap (λ (z : ClaimRow). z.claim) row ∙ number
  | inr differs ↦ numbers c y first (sym (ap (λ o. row_of o) (put_other rows (x.claim - 1) x (c - 1) differs)) ∙ is)
]

-- == a line ==

module _ (rows : Claims) (numbers : AreNumbered rows) (steps : List StepRecord) (after : Claims) where
  same_numbers : after ≡ rows → AreNumbered after
  same_numbers same = subst AreNumbered (sym same) numbers

  scanned_numbers : (x : ClaimRow) (texts : List (List ℕ)) → IsScanned x rows steps texts after → AreNumbered after
  scanned_numbers x texts is = elim is.did [
    | inl accepted ↦ elim accepted.1 [
      | inl worn ↦ same_numbers worn.2
      | inr now ↦ subst AreNumbered (sym now.2) (put_numbers rows (as_credited x) is.claim.first numbers)
    ]
    | inr other ↦ same_numbers other.2
  ]

module _ (rows : Claims) (numbers : AreNumbered rows) (steps : List StepRecord) (after : Claims) where
  new_numbers : (c w : ℕ) (mark : List ℕ) (texts : List (List ℕ)) → IsNewTold c w mark rows steps texts after → AreNumbered after
  new_numbers c w mark texts (inl worn) = same_numbers rows numbers steps after worn.1.rests
  new_numbers c w mark texts (inr new) =
      scanned_numbers (put rows (c - 1) (row_for c w mark)) (put_numbers rows (row_for c w mark) new.1.claim.first numbers) steps after (row_for c w mark) texts new.1

  claim_numbers : (o : Option ClaimRow) (c w : ℕ) (mark : List ℕ) (texts : List (List ℕ)) → IsClaimTold o c w mark rows steps texts after → AreNumbered after
  claim_numbers (Some x) c w mark texts (inl known) =
      either_any x.credited (λ again. same_numbers rows numbers steps after again.told.rests) (λ scans. scanned_numbers rows numbers steps after x texts scans) known.1
  claim_numbers (Some x) c w mark texts (inr other) = same_numbers rows numbers steps after other.1.rests
  claim_numbers None c w mark texts answer =
      either_any (c == last_claim rows + 1)
      (λ next. either_any (c == 1025) (λ full. same_numbers rows numbers steps after full.rests) (λ new. new_numbers c w mark texts new) next)
      (λ wrong. same_numbers rows numbers steps after wrong.rests) answer

  pub told_numbers : (own : ClaimLine) (texts : List (List ℕ)) → IsAnswered own rows steps texts after → AreNumbered after
  told_numbers (Claim c w mark) texts answer = claim_numbers (kept rows c) c w mark texts answer
  told_numbers (Credits w) texts answer = same_numbers rows numbers steps after answer.rests
  told_numbers Reserved texts answer = same_numbers rows numbers steps after answer.rests

  new_cut_numbers : (x : ClaimRow) → IsNewCut x rows steps after → AreNumbered after
  new_cut_numbers x (inl none) = same_numbers rows numbers steps after none.1
  new_cut_numbers x (inr credit) = subst AreNumbered (sym credit.1) (put_numbers rows x credit.0.claim.first numbers)

  claim_cut_numbers : (o : Option ClaimRow) (c w : ℕ) (mark : List ℕ) → IsClaimCut o c w mark rows steps after → AreNumbered after
  claim_cut_numbers (Some x) c w mark cut =
      either_any x.credited (λ none. absurd none) (λ credit. same_numbers rows numbers steps after credit.1) cut.1
  claim_cut_numbers None c w mark cut =
      either_any (c == last_claim rows + 1)
      (λ next. either_any (c == 1025) (λ none. absurd none) (λ new. new_cut_numbers (row_for c w mark) new) next) (λ none. absurd none) cut

  pub cut_numbers : (own : ClaimLine) → IsCutShort own rows steps after → AreNumbered after
  cut_numbers (Claim c w mark) cut = claim_cut_numbers (kept rows c) c w mark cut
  cut_numbers (Credits w) cut = absurd cut
  cut_numbers Reserved cut = absurd cut

-- == all lines ==

pub all_numbers : (rows : Claims) (trace : List (SideStep ClaimLine)) (after : Claims) → AreNumbered rows → AreAnswered rows trace after → AreNumbered after
all_numbers rows [] after numbers answers = subst AreNumbered (sym answers) numbers
all_numbers rows (Plain (Skipped line) ∷ rest) after numbers answers = all_numbers rows rest after numbers answers
all_numbers rows (Plain (Did line d) ∷ rest) after numbers answers = all_numbers rows rest after numbers answers.1
all_numbers rows (Own line own steps texts ∷ rest) after numbers answers =
    all_numbers answers.0 rest after (told_numbers rows numbers steps answers.0 own texts answers.1) answers.2
all_numbers rows (Broken line own steps ∷ rest) after numbers answers = all_numbers answers.0 rest after (cut_numbers rows numbers steps answers.0 own answers.1) answers.2
