-- The 73 bytes of a claim: what they read as, and what is written.
use Rattle.std.proofs.Common.{◌≡◌, ◌⊎◌, inl, inr, ℕ, ◌+◌, List, [], ◌∷◌, ◌++◌, length, take, drop, get_or, Option, Some, None, Bool, true, false, ◌==◌, ◌&&◌, ◌||◌, refl, sym, ap, ◌∙◌, subst, arith, length-append}
use Rattle.std.specs.Prelude.{IfSome, IfNone, is_ok, nat_lt, if◌then◌else◌}
use Rattle.std.proofs.lemmas.Bool.Decides.{nat_tests}
use Rattle.std.proofs.lemmas.Bool.{cases_Bool}
use Rattle.std.proofs.lemmas.List.{drop_at, take_at, take_all, length-drop, append-nil}
use Rattle.std.proofs.Math.Seq.{drop-length}
use Rattle.bench_base.specs.Ranges.{IsCustomer}
use Rattle.bench_base.specs.Table.{values, row, Fit}
use Rattle.bench_base.proofs.Tables.{values_row, length_row}
use Rattle.indicium.specs.Marks.{read_mark}
use Rattle.spoil_claims.specs.Payload.{claim_table, state_byte, head, head_part, claim_from, is_claim_of, claim_in, decoded, IsFit, AreClaim}
use Rattle.spoil_claims.specs.declared.claim.ClaimRow.{ClaimRow}

-- the last 64 bytes
pub end_of : (bytes : List ℕ) → length bytes ≡ 73 → take 64 (drop 9 bytes) ≡ drop 9 bytes
end_of bytes l = let long : length (drop 9 bytes) ≡ 64 = length-drop 9 bytes ∙ omega (arith, l) in take_all 64 (drop 9 bytes) (omega (arith, long))

record Tested (a b c d : ℕ) (ok : Bool) : Type 0 where
  number : a ≡ b
  customer : IsCustomer c
  state : (d ≡ 1) ⊎ (d ≡ 2)
  reads : ok ≡ true

module _ (k : ℕ) (vs mark : List ℕ) where
  test : (a b c d : ℕ) (ok : Bool) → ((a == b) && ((nat_lt 0 c && nat_lt c 65) && (((d == 1) || (d == 2)) && ok))) ≡ true
      → Tested a b c d ok
  test a b c d ok is = record { number = grind (arith, nat_tests); customer = (grind (arith, nat_tests), grind (arith, nat_tests)); state = grind (arith, nat_tests); reads = grind (arith, nat_tests) }

  tested : (a b c d : ℕ) (ok : Bool) → a ≡ b → IsCustomer c → (d ≡ 1) ⊎ (d ≡ 2) → ok ≡ true
      → ((a == b) && ((nat_lt 0 c && nat_lt c 65) && (((d == 1) || (d == 2)) && ok))) ≡ true
  tested a b c d ok same customer state is = grind (arith, nat_tests)

  are : is_claim_of k vs mark ≡ true → AreClaim k vs mark
  are is = let all = test (get_or vs 0 0) (k + 1) (get_or vs 1 0) (get_or vs 2 0) (is_ok (read_mark mark)) is in record { number = all.number; customer = all.customer; state = all.state; reads = all.reads }

  is_by : AreClaim k vs mark → is_claim_of k vs mark ≡ true
  is_by a = tested (get_or vs 0 0) (k + 1) (get_or vs 1 0) (get_or vs 2 0) (is_ok (read_mark mark)) a.number a.customer a.state a.reads

  by_test : (b : Bool) → is_claim_of k vs mark ≡ b → claim_in k vs mark ≡ (if b then Some (claim_from vs mark) else None)
  unfolding claim_in
  by_test b is = ap (λ (t : Bool). if t then Some (claim_from vs mark) else None) is

  pub none_unless : (AreClaim k vs mark → ⊥) → claim_in k vs mark ≡ None
  none_unless not = elim (cases_Bool (is_claim_of k vs mark)) [
    | inl is ↦ absurd (not (are is))
    | inr is ↦ by_test false is
  ]

  pub some_where : AreClaim k vs mark → claim_in k vs mark ≡ Some (claim_from vs mark)
  some_where a = by_test true (is_by a)

  -- what is read is what the bytes hold
  pub read_is : (r : Option ClaimRow) → IfSome r (λ x. AreClaim k vs mark × (x ≡ claim_from vs mark)) → IfNone r (AreClaim k vs mark → ⊥) → r ≡ claim_in k vs mark
  read_is None found none = sym (none_unless none)
  read_is (Some x) found none = ap (λ (y : ClaimRow). Some y) found.1 ∙ sym (some_where found.0)

  -- and fits its cell
  pub claim_fits : (x : ClaimRow) → claim_in k vs mark ≡ Some x → IsFit k x
  claim_fits x is = elim (cases_Bool (is_claim_of k vs mark)) [
    | inl true_is ↦
        let a = are true_is in
        let same : claim_from vs mark ≡ x = let both : Some (claim_from vs mark) ≡ Some x = sym (by_test true true_is) ∙ is in cc in
        subst (λ (y : ClaimRow). IsFit k y) same (record { number = a.number; customer = a.customer; reads = a.reads })
    | inr false_is ↦ let both : None ≡ Some x = sym (by_test false false_is) ∙ is in cc
  ]

pub decoded_fits : (k : ℕ) (payload : List ℕ) (x : ClaimRow) → decoded k payload ≡ Some x → IsFit k x
unfolding decoded
decoded_fits k payload x is = claim_fits k (values 0 claim_table payload) (drop 9 payload) x is

pub decoded_is : (k : ℕ) (payload : List ℕ) → decoded k payload ≡ claim_in k (values 0 claim_table payload) (drop 9 payload)
unfolding decoded
decoded_is k payload = refl

state_back : (b : Bool) → (state_byte b == 2) ≡ b
state_back false = refl
state_back true = refl

state_one : (b : Bool) → (state_byte b ≡ 1) ⊎ (state_byte b ≡ 2)
state_one false = inl refl
state_one true = inr refl

-- what is written reads as the claim
pub written : (k : ℕ) (x : ClaimRow) → IsFit k x → Fit claim_table (head x) → (bytes : List ℕ) → bytes ≡ head_part x ++ x.mark → decoded k bytes ≡ Some x
unfolding decoded head_part
written k x fits fit bytes is =
    let numbers : values 0 claim_table bytes ≡ head x = ap (values 0 claim_table) is ∙ values_row claim_table (head x) [] x.mark 0 refl fit in
    let mark : drop 9 bytes ≡ x.mark = ap (drop 9) is ∙ drop_at (row claim_table (head x)) x.mark 9 (length_row claim_table (head x) fit) in
    ap (λ (vs : List ℕ). claim_in k vs (drop 9 bytes)) numbers ∙ ap (λ (m : List ℕ). claim_in k (head x) m) mark
    ∙ some_where k (head x) x.mark (record { number = fits.number; customer = fits.customer; state = state_one x.credited; reads = fits.reads })
    ∙ ap (λ (b : Bool). Some (record x { credited = b })) (state_back x.credited)

take_none : (l : List ℕ) → take 0 l ≡ []
take_none [] = refl
take_none (x ∷ l) = refl

-- two parts at their places are the parts in a row
pub laid : (zeros head mark one two : List ℕ) → length head ≡ 9 → length mark ≡ 64 → length zeros ≡ 73
    → one ≡ take 0 zeros ++ (head ++ drop (0 + length head) zeros) → two ≡ take 9 one ++ (mark ++ drop (9 + length mark) one) → two ≡ head ++ mark
laid zeros head mark one two nine long all first second =
    let at : 0 + length head ≡ 9 = omega (arith, nine) in
    let one_is : one ≡ head ++ drop 9 zeros = first ∙ ap (λ (prefix : List ℕ). prefix ++ (head ++ drop (0 + length head) zeros)) (take_none zeros) ∙ ap (λ (n : ℕ). head ++ drop n zeros) at in
    let prefix : take 9 one ≡ head = ap (take 9) one_is ∙ take_at head (drop 9 zeros) 9 nine in
    let sum : length one ≡ length head + length (drop 9 zeros) = ap length one_is ∙ length-append head (drop 9 zeros) in
    let one_long : length one ≡ 73 = omega (arith, sum, nine, length-drop 9 zeros, all) in
    let end : drop (9 + length mark) one ≡ [] = ap (λ (n : ℕ). drop (9 + n) one) long ∙ ap (λ (n : ℕ). drop n one) (sym one_long) ∙ drop-length one in
    second ∙ ap (λ (x : List ℕ). x ++ (mark ++ drop (9 + length mark) one)) prefix ∙ ap (λ (x : List ℕ). head ++ (mark ++ x)) end ∙ ap (λ (x : List ℕ). head ++ x) (append-nil mark)
