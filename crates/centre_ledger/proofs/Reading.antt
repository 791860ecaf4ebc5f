-- What the reader of a device's payload found makes the payload, and the reader misses no row.
use Rattle.std.proofs.Common.{◌≡◌, ℕ, ◌+◌, ◌^◌, ◌<◌, ◌≤◌, ◌==◌, if◌then◌else◌, Bool, true, false, List, [], ◌∷◌, length, take, drop, get_or, refl, sym, ap, ◌∙◌, subst, arith, Option, Some, None, IfSome}
use Rattle.std.proofs.lemmas.Bool.{eqb-true}
use Rattle.std.proofs.lemmas.List.{length-take-le, length-drop}
use Rattle.bench_base.specs.Rules.{IsVersion}
use Rattle.bench_base.specs.Table.{Four, Eight, room, IsBytes}
use Rattle.bench_base.proofs.Tables.{values_fit}
use Rattle.psd_wire.specs.declared.{message.Request.Request, message.ReplyMsg.ReplyMsg}
use Rattle.psd_wire.specs.Grammar.{request_table}
use Rattle.psd_wire.proofs.Readings.{request_room, length_request}
use Rattle.centre_ledger.specs.declared.rows.DeviceRow.{DeviceRow}
use Rattle.centre_ledger.specs.Soundness.{IsRuling, IsSoundDevice}
use Rattle.centre_ledger.specs.Payload.{sums_table, request_size, reply_size, message_part, end_part, device_spelled, IsOld}
use Rattle.centre_ledger.specs.Parts.{HeadIs, bare, bare_at, request_place, reply_place, end_place, Parts, KeepMessages, IsSpelling}
use Rattle.centre_ledger.proofs.Notes.{by_version, first_request, fits_filled}
use Rattle.centre_ledger.proofs.OneRow.{spells_old, spells_new}
use Rattle.centre_ledger.proofs.Parted.{Spells, parts_of, assembled, fits_made}

-- what two clauses say of one row
pub both_found : {A : Type 0} (o : Option A) (P Q R : A → Type 0) → ((a : A) → P a → Q a → R a) → IfSome o P → IfSome o Q → IfSome o R
both_found None P Q R f p q = tt
both_found (Some a) P Q R f p q = f a p q

-- == what was found makes the payload ==

pub bare_again : (v : ℕ) (bytes : List ℕ) (row : DeviceRow) → row ≡ bare_at v bytes → bare row ≡ row
unfolding bare_at
bare_again v bytes row e = ap bare e ∙ sym e

pub parts_made : (v : ℕ) (bytes : List ℕ) (row r : DeviceRow) → row ≡ bare_at v bytes → HeadIs v row bytes → bare r ≡ row
    → KeepMessages v (take (request_size v) (drop (request_place v) bytes)) (take (reply_size v) (drop (reply_place v) bytes)) r
    → drop (end_place v) bytes ≡ end_part v → Parts v r bytes
parts_made v bytes row r stand headed same messages z = record {
  head = subst (λ x. HeadIs v x bytes) (sym same) headed;
  fields = sym (same ∙ stand);
  request = sym messages.first;
  reply = sym messages.second;
  end = z;
}

pub row_made : (v : ℕ) (bytes : List ℕ) (r : DeviceRow) → IsVersion v → length bytes ≡ 192 → IsBytes bytes → Parts v r bytes → device_spelled v r ≡ bytes
row_made v bytes r h l bs p = assembled v r bytes (within v) bs p
  where
    within : (k : ℕ) → 45 + room (sums_table k) ≤ length bytes
    within k = go (k == 1)
      where
        go : (b : Bool) → 45 + (4 + (4 + room ((if b then Four else Eight) ∷ (if b then Four else Eight) ∷ []))) ≤ length bytes
        go true = omega (arith, l)
        go false = omega (arith, l)

buys_small : (bytes : List ℕ) → IsBytes bytes → (bare_at 1 bytes).buys < 2 ^ 32
unfolding bare_at
buys_small bytes h = (values_fit (sums_table 1) 45 bytes h).1.1.0

-- a row of version 1 is one that version 1 can spell
pub old_made : (bytes : List ℕ) (r : DeviceRow) → IsBytes bytes → length bytes ≡ 192 → IsSoundDevice r → Parts 1 r bytes → IsOld r
unfolding message_part
old_made bytes r h l sound p = record {
  buys = subst (λ (x : DeviceRow). x.buys < 2 ^ 32) p.fields (buys_small bytes h);
  request = λ some. of (sound.ruling some);
}
  where
    version : (v : ℕ) → request_room v + 32 ≤ 71 → v ≡ 1
    version v short = go (v == 1) (λ yes. eqb-true v 1 yes) short
      where
        go : (b : Bool) → (b ≡ true → v ≡ 1) → room (request_table (if b then Four else Eight)) + 32 ≤ 71 → v ≡ 1
        go true f s = f refl
        go false f s = absurd (omega (arith, s))

    long : length (take 71 (drop 61 bytes)) ≡ 71
    long = length-take-le 71 (drop 61 bytes) (omega (arith, l, length-drop 61 bytes))

    of : (q : Request) × (y : ReplyMsg) × IsRuling r q y → get_or r.request 0 0 ≡ 1
    of (q, y, g) =
        let short : length r.request ≤ 71 = fits_first r.request (sym p.request) in
        ap (λ b. get_or b 0 0) g.request ∙ first_request q r.key ∙ version q.version (omega (arith, short, ap length g.request, length_request q r.key g.request_whole))
      where
        fits_first : (note : List ℕ) → message_part 1 71 note ≡ take 71 (drop 61 bytes) → length note ≤ 71
        fits_first note e = fits_filled 71 note (take 71 (drop 61 bytes)) e long

-- == the reader misses no row ==

module _ (v : ℕ) (bytes : List ℕ) (r : DeviceRow) (spells : Spells v r) (e : device_spelled v r ≡ bytes) where
  parts_are : Parts v r bytes
  parts_are = parts_of v r bytes spells e

  -- the payload begins as the row does
  pub head_is : HeadIs v r bytes
  head_is = parts_are.head

  pub end_is : drop (end_place v) bytes ≡ end_part v
  end_is = parts_are.end

  -- the fields and the messages are in the payload
  pub not_missed : (row : DeviceRow) → row ≡ bare_at v bytes
      → ((x : DeviceRow) → IsSoundDevice x → bare x ≡ row
      → KeepMessages v (take (request_size v) (drop (request_place v) bytes)) (take (reply_size v) (drop (reply_place v) bytes)) x → ⊥) → ⊥
  not_missed row stand none = none r spells.sound (sym parts_are.fields ∙ sym stand) (record { first = sym parts_are.request; second = sym parts_are.reply })

-- what was found is the spelling of the row
pub spelling_made : (v : ℕ) (bytes : List ℕ) (r : DeviceRow) → IsVersion v → length bytes ≡ 192 → IsBytes bytes → IsSoundDevice r → Parts v r bytes → IsSpelling v bytes r
spelling_made v bytes r h l bs sound p = record {
  sound = sound;
  fits = fits_made v r bytes h l bs sound p;
  old = λ one. old_made bytes r bs l sound (subst (λ k. Parts k r bytes) one p);
  reads = row_made v bytes r h l bs p;
}

-- a spelling, and what is needed for it
pub spells : (v : ℕ) (bytes : List ℕ) (r : DeviceRow) → IsVersion v → IsSpelling v bytes r → Spells v r
spells v bytes r h s = by_version (λ k. (k ≡ 1 → IsOld r) → Spells k r) v h (λ old. spells_old r s.sound s.fits (old refl)) (λ old. spells_new r s.sound s.fits) s.old
