-- The mark of a debit that keeps the registers within their limit has a spelling.
use Rattle.std.proofs.Common.{◌≡◌, Bool, true, false, ℕ, ℤ, pos, ◌≤ℤ◌, ◌%◌, ◌/◌, ◌==◌, if◌then◌else◌, ap₂, ◌+◌, ◌^◌, ◌<◌, ◌≤◌, List, [], ◌∷◌, ◌++◌, replicate, refl, sym, ap, subst, arith, lit<, FitsSigned, Fits, eqb}
use Rattle.std.specs.Int.{w32, cast_unsigned, cast_signed}
use Rattle.std.proofs.lemmas.Int.{to_z-of_z, ints}
use Rattle.std.proofs.lemmas.Bool.{eq-eqb}
use Rattle.std.proofs.Math.Facts.{Fits-of_z}
use Rattle.hmac_core.specs.Hmac.{hmac}
use Rattle.indicium.specs.declared.Mark.{Mark}
use Rattle.bench_base.specs.Table.{One, Two, Four, Fit, row, spelled}
use Rattle.indicium.specs.Marks.{IsWhole, spell, body, mark_fields}
use Rattle.ledger_book.specs.Carried.{carried, carried_sum}
use Rattle.bench_base.specs.declared.{ledger.Commit.Commit, ledger.Commit.TheVariants.Debited}
use Rattle.bench_base.specs.Rules.{todays_rules, IsVersion}
use Rattle.ledger_terms.specs.Sums.{ascending, descending}
use Rattle.ledger_terms.specs.Lawful.{Debits}

-- a debit of a after the sums x and y, with a mark of version w
pub record FitsMark (a w x y : ℕ) : Type 0 where
  pub version : IsVersion w
  pub ascending : x + a < 2 ^ 40
  pub descending : y < 2 ^ 40

pub fits_debited : (d p a k w : ℕ) (t : ℤ) (C : List Commit) → 1 ≤ d → d ≤ 8 → Debits todays_rules (Debited d p a k t w ∷ C) → FitsMark a w (ascending d C) (descending d C)
fits_debited d p a k w t C low high h =
    let next = h.0 in
    let from_1 = next.from_1 in
    let known = next.known in
    let same : eqb d d ≡ true = eq-eqb d d refl in
    let all = rw same at (h.1 d low high) in
    let covered = all.covered in
    let within = all.within in
    record { version = (from_1, known); ascending = omega arith; descending = omega arith }

-- what a mark's fields hold of it is whole
pub whole_mark : (m : Mark) → IsVersion m.version → m.device < 2 ^ 16 → m.piece < 2 ^ 32 → m.postage < 2 ^ 32 → m.ascending < 2 ^ 40 → m.descending < 2 ^ 40
    → FitsSigned w32 m.day → m.origin < 2 ^ 32 → m.class < 2 ^ 16 → IsWhole (carried m)
whole_mark m v d p a x y t o k =
    record {
      version = v;
      fit = (omega (arith, v.1), (lit< tt, go (m.version == 1)));
      day = t;
    }
  where
    go : (b : Bool) → Fit (if b then mark_fields 1 else mark_fields 2) (m.device ∷ m.piece ∷ m.postage ∷ (if b then m.ascending % 2 ^ 32 else m.ascending) ∷ (if b then m.descending % 2 ^ 32 else m.descending) ∷ cast_unsigned w32 m.day ∷ m.origin ∷ m.class ∷ [])
    go true = let small : Fits w32 (cast_unsigned w32 m.day) = Fits-of_z t in (omega (arith, d), (p, (a, (omega arith, (omega arith, (omega (arith, small), (o, (k, tt))))))))
    go false = let small : Fits w32 (cast_unsigned w32 m.day) = Fits-of_z t in (d, (p, (a, (x, (y, (omega (arith, small), (o, (k, tt))))))))

pub whole_held : (m : Mark) (x y : ℕ) → x ≡ carried_sum m.version m.ascending → y ≡ carried_sum m.version m.descending → IsWhole (carried m)
    → IsWhole (record m { ascending = x; descending = y })
whole_held m x y e f w = rw (e, f) w

-- a field of four bytes holds the last four of a sum
low_four : (n : ℕ) → spelled Four (n % 2 ^ 32) ≡ spelled Four n
unfolding spelled
low_four n =
    let a : n % 2 ^ 32 / 16777216 % 256 ≡ n / 16777216 % 256 = omega arith in
    let b : n % 2 ^ 32 / 65536 % 256 ≡ n / 65536 % 256 = omega arith in
    let c : n % 2 ^ 32 / 256 % 256 ≡ n / 256 % 256 = omega arith in
    let d : n % 2 ^ 32 % 256 ≡ n % 256 = omega arith in
    ap₂ (λ x y. x ∷ y) a (ap₂ (λ x y. x ∷ y) b (ap₂ (λ x y. x ∷ y ∷ []) c d))

-- so the mark is spelled alike
body_carried : (m : Mark) → body (carried m) ≡ body m
unfolding body spelled
body_carried m = go (m.version == 1)
  where
    tail : List ℕ
    tail = cast_unsigned w32 m.day ∷ m.origin ∷ m.class ∷ []

    go : (b : Bool) → row (One ∷ One ∷ (if b then mark_fields 1 else mark_fields 2)) (m.version ∷ 1 ∷ m.device ∷ m.piece ∷ m.postage ∷ (if b then m.ascending % 2 ^ 32 else m.ascending) ∷ (if b then m.descending % 2 ^ 32 else m.descending) ∷ cast_unsigned w32 m.day ∷ m.origin ∷ m.class ∷ [])
        ≡ row (One ∷ One ∷ (if b then mark_fields 1 else mark_fields 2)) (m.version ∷ 1 ∷ m.device ∷ m.piece ∷ m.postage ∷ m.ascending ∷ m.descending ∷ cast_unsigned w32 m.day ∷ m.origin ∷ m.class ∷ [])
    go true =
        ap₂ (λ x y. row (One ∷ One ∷ Four ∷ Four ∷ Four ∷ []) (m.version ∷ 1 ∷ m.device ∷ m.piece ∷ m.postage ∷ []) ++ (x ++ (y ++ row (Four ∷ Four ∷ Two ∷ []) tail))) (low_four m.ascending) (low_four m.descending)
    go false = refl

pub spell_carried : (m : Mark) (key : List ℕ) → spell (carried m) key ≡ spell m key
unfolding spell
spell_carried m key = ap (λ b. b ++ hmac key b) (body_carried m)

-- a day of the calendar is read back from its bits, and fits
pub fits_again : (t : ℤ) → pos 10957 ≤ℤ t → t ≤ℤ pos 84005 → FitsSigned w32 (cast_signed w32 (cast_unsigned w32 t))
fits_again t low high =
    let fits : FitsSigned w32 t = search (arith, ints, low, high) in
    subst (FitsSigned w32) (sym (to_z-of_z w32 t fits)) fits

-- HMAC fills a key with zeros
hmac_no_key : (text : List ℕ) → hmac [] text ≡ hmac (replicate 32 0) text
unfolding hmac
hmac_no_key text = refl

pub spell_no_key : (m : Mark) → spell m [] ≡ spell m (replicate 32 0)
unfolding spell
spell_no_key m = ap (λ code. body m ++ code) (hmac_no_key (body m))
