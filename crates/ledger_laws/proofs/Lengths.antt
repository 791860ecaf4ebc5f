-- Only a Release has 64 bytes from its third byte on.
use Rattle.std.proofs.Common.{if◌then◌else◌, ◌≡◌, ℕ, Bool, true, false, List, length, drop, get_or, Option, Some, None, Result, Ok, Err, cond, refl, sym, ap, ◌∙◌, length-drop, arith}
use Rattle.std.specs.Prelude.{◌==◌}
use Rattle.std.proofs.lemmas.Bool.{eqb-true}
use Rattle.std.proofs.lemmas.Option.{same_Some}
use Rattle.bench_base.proofs.Facts.{ok_same, unlike}
use Rattle.indicium.specs.Marks.{read_mark}
use Rattle.indicium.proofs.Readings.{let_through}
use Rattle.psd_wire.specs.declared.message.Message.{Message}
use Rattle.psd_wire.specs.declared.message.Message.TheVariants as m
use Rattle.psd_wire.specs.Grammar.{read, size_of, by_tag, release_at, if_mark}
use Rattle.psd_wire.proofs.Readings.{held_back, there}

-- a test that would give another size doesn't hold
other : {A : Type 0} (b : Bool) (x y : A) (rest : Option A) → (x ≡ y → ⊥) → cond b (Some x) rest ≡ Some y → (b ≡ false) × (rest ≡ Some y)
other true x y rest apart h = absurd (apart (same_Some _ _ h))
other false x y rest apart h = (refl, h)

release_tag : (v t : ℕ) (bytes : List ℕ) → size_of v t ≡ Some 66 → by_tag t bytes ≡ release_at bytes
unfolding size_of
release_tag v t bytes h = go (v == 1) h
  where
    first : Option ℕ
    first = if t == 1 then Some 71 else if t == 2 then Some 56 else if t == 3 then Some 42 else if t == 16 then Some 16 else if t == 17 then Some 66 else None

    second : Option ℕ
    second = if t == 1 then Some 87 else if t == 2 then Some 60 else None

    go : (b : Bool) → (if b then first else second) ≡ Some 66 → by_tag t bytes ≡ release_at bytes
    go true h =
        let a = other (t == 1) 71 66 _ (unlike 71 66 refl) h in
        let b = other (t == 2) 56 66 _ (unlike 56 66 refl) a.1 in
        let c = other (t == 3) 42 66 _ (unlike 42 66 refl) b.1 in
        let d = other (t == 16) 16 66 _ (unlike 16 66 refl) c.1 in
        rw (a.0, b.0, c.0, d.0) refl
    go false h =
        let a = other (t == 1) 87 66 _ (unlike 87 66 refl) h in
        let b = other (t == 2) 60 66 _ (unlike 60 66 refl) a.1 in
        absurd (cc)

marked : {A F : Type 0} (o : Result A F) (bytes : List ℕ) (x : Message) → if_mark o bytes ≡ Ok x → x ≡ m.Release bytes
marked (Ok a) bytes x h = sym (ok_same h)
marked (Err e) bytes x h = absurd (cc)

-- a message of 66 bytes is a Release
pub long_release : (bytes : List ℕ) (x : Message) → read bytes ≡ Ok x → length bytes ≡ 66 → x ≡ m.Release (drop 2 bytes)
unfolding read release_at
long_release bytes x h l =
    let some = held_back _ _ _ _ h in
    let version = let_through _ _ _ _ some.1 in
    let size = there _ _ _ _ version.1 in
    let fits = let_through _ _ _ _ size.2 in
    let is : size.0 ≡ 66 = sym (eqb-true (length bytes) size.0 fits.0) ∙ l in
    let tag : size_of (get_or bytes 0 0) (get_or bytes 1 0) ≡ Some 66 = size.1 ∙ ap (λ n. Some n) is in
    marked (read_mark (drop 2 bytes)) (drop 2 bytes) x (sym (release_tag (get_or bytes 0 0) (get_or bytes 1 0) bytes tag) ∙ fits.1)

-- what is a mark from the third byte on has 66 bytes
pub mark_behind : (bytes : List ℕ) → length (drop 2 bytes) ≡ 64 → length bytes ≡ 66
mark_behind bytes h = omega (arith, length-drop 2 bytes)
