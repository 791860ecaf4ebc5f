-- A payload reads as one row, whatever its version, and a row that is written reads as itself.
use Rattle.std.proofs.Common.{◌≡◌, ℕ, ◌+◌, ◌<◌, ◌≤◌, List, ◌++◌, length, get_or, refl, sym, ap, ◌∙◌, arith, inl, inr, length-append}
use Rattle.std.specs.Prelude.{◌⊎◌}
use Rattle.bench_base.specs.Table.{room}
use Rattle.centre_ledger.specs.declared.{rows.DeviceRow.DeviceRow, rows.Row.Row, rows.Row.TheVariants.Device, rows.Row.TheVariants.Customer}
use Rattle.centre_ledger.specs.Soundness.{IsSoundDevice}
use Rattle.centre_ledger.specs.Payload.{sums_table, request_size, reply_size, end_size, head_part, sums_part, request_part, reply_part, end_part, device_spelled, device_bytes, DeviceFits, IsOld, DeviceReadsAs, RowReadsAs}
use Rattle.centre_ledger.proofs.Parted.{Spells, state_low, state_is, parts_of, row_of_parts, size_request, size_reply, length_head, length_sums}
use Rattle.centre_ledger.specs.PayloadLaws.{PayloadLaws}
use Rattle.centre_ledger.proofs.CustomerBytes.{one_customer_row, written_customer, length_customer}
use Rattle.std.proofs.lemmas.List.{length-replicate}

-- == what a version can spell ==

-- what version 1 can spell fits its fields
old_fits : (r : DeviceRow) → IsSoundDevice r → DeviceFits 2 r → IsOld r → DeviceFits 1 r
old_fits r sound fits old = record {
  head = (fits.head.0, (omega (arith, state_low r.enrolment), fits.head.1.1));
  key = fits.key;
  sums = (fits.sums.0, (fits.sums.1.0, (old.buys, (omega (arith, old.buys, sound.returns_le), tt))));
}

pub spells_old : (r : DeviceRow) → IsSoundDevice r → DeviceFits 2 r → IsOld r → Spells 1 r
spells_old r sound fits old = record { version = (omega arith, omega arith); sound = sound; fits = old_fits r sound fits old; old = λ _. old }

pub spells_new : (r : DeviceRow) → IsSoundDevice r → DeviceFits 2 r → Spells 2 r
spells_new r sound fits = record { version = (omega arith, omega arith); sound = sound; fits = fits; old = λ e. absurd (omega (arith, e)) }

-- the byte of the state shows the version
pub byte_old : (r : DeviceRow) (bytes : List ℕ) → Spells 1 r → device_spelled 1 r ≡ bytes → get_or bytes 4 0 < 16
byte_old r bytes g e = omega (arith, state_is 1 r bytes (parts_of 1 r bytes g e).head, state_low r.enrolment)

pub byte_new : (r : DeviceRow) (bytes : List ℕ) → Spells 2 r → device_spelled 2 r ≡ bytes → 16 ≤ get_or bytes 4 0
byte_new r bytes g e = omega (arith, state_is 2 r bytes (parts_of 2 r bytes g e).head)

-- == one row ==

-- no two rows have one spelling in a version
one_spelled : (v : ℕ) (r s : DeviceRow) (bytes : List ℕ) → Spells v r → Spells v s → device_spelled v r ≡ bytes → device_spelled v s ≡ bytes → r ≡ s
one_spelled v r s bytes gr gs er es =
    let pr = parts_of v r bytes gr er in
    let ps = parts_of v s bytes gs es in
    row_of_parts v r s (request_part v r) (reply_part v r) gr.version gr.sound gs.sound (sym pr.fields ∙ ps.fields) (size_request v r gr) (size_reply v r gr)
    refl (sym ps.request ∙ pr.request) refl (sym ps.reply ∙ pr.reply)

-- A PAYLOAD READS AS ONE DEVICE'S ROW
pub one_device_row : (payload : List ℕ) (r s : DeviceRow) → DeviceReadsAs payload r → DeviceReadsAs payload s → r ≡ s
one_device_row payload r s a b = go a.reads b.reads
  where
    new : (x : DeviceRow) → DeviceReadsAs payload x → Spells 2 x
    new x h = spells_new x h.sound h.fits

    old : (x : DeviceRow) → DeviceReadsAs payload x → IsOld x → Spells 1 x
    old x h o = spells_old x h.sound h.fits o

    go : (device_bytes r ≡ payload) ⊎ (IsOld r × (device_spelled 1 r ≡ payload)) → (device_bytes s ≡ payload) ⊎ (IsOld s × (device_spelled 1 s ≡ payload)) → r ≡ s
    go (inl x) (inl y) = one_spelled 2 r s payload (new r a) (new s b) x y
    go (inl x) (inr y) = absurd (omega (arith, byte_new r payload (new r a) x, byte_old s payload (old s b y.0) y.1))
    go (inr x) (inl y) = absurd (omega (arith, byte_new s payload (new s b) y, byte_old r payload (old r a x.0) x.1))
    go (inr x) (inr y) = one_spelled 1 r s payload (old r a x.0) (old s b y.0) x.1 y.1

-- a row that is written reads as itself
pub written_device : (r : DeviceRow) → IsSoundDevice r → DeviceFits 2 r → DeviceReadsAs (device_bytes r) r
written_device r sound fits = record { sound = sound; fits = fits; reads = inl refl }

-- the byte of the state is not low in a payload of version 2, and not high in one of version 1
pub not_second : (payload : List ℕ) (r : DeviceRow) → get_or payload 4 0 < 16 → DeviceReadsAs payload r → (IsOld r → device_spelled 1 r ≡ payload → ⊥) → ⊥
not_second payload r low h none = go h.reads
  where
    go : (device_bytes r ≡ payload) ⊎ (IsOld r × (device_spelled 1 r ≡ payload)) → ⊥
    go (inl e) = absurd (omega (arith, low, byte_new r payload (spells_new r h.sound h.fits) e))
    go (inr e) = none e.0 e.1

pub not_first : (payload : List ℕ) (r : DeviceRow) → 16 ≤ get_or payload 4 0 → DeviceReadsAs payload r → (device_bytes r ≡ payload → ⊥) → ⊥
not_first payload r high h none = go h.reads
  where
    go : (device_bytes r ≡ payload) ⊎ (IsOld r × (device_spelled 1 r ≡ payload)) → ⊥
    go (inl e) = none e
    go (inr e) = absurd (omega (arith, high, byte_old r payload (spells_old r h.sound h.fits e.0) e.1))

-- == its length ==

length_spelled : (v : ℕ) (r : DeviceRow) → Spells v r → length (device_spelled v r) ≡ 45 + room (sums_table v) + request_size v + reply_size v + end_size v
unfolding device_spelled
length_spelled v r g =
    let q : List ℕ = request_part v r in
    let p : List ℕ = reply_part v r in
    let z : List ℕ = end_part v in
    let a = length-append (head_part v r) (r.key ++ (sums_part v r ++ (q ++ (p ++ z)))) in
    let b = length-append r.key (sums_part v r ++ (q ++ (p ++ z))) in
    let c = length-append (sums_part v r) (q ++ (p ++ z)) in
    let d = length-append q (p ++ z) in
    let e = length-append p z in
    omega (arith, a, b, c, d, e, length_head v r g.fits, g.fits.key, length_sums v r g.fits, size_request v r g, size_reply v r g, length-replicate {A = ℕ} (end_size v) 0)

pub length_device : (payload : List ℕ) (r : DeviceRow) → DeviceReadsAs payload r → length payload ≡ 192
length_device payload r h = go h.reads
  where
    go : (device_bytes r ≡ payload) ⊎ (IsOld r × (device_spelled 1 r ≡ payload)) → length payload ≡ 192
    go (inl e) = ap length (sym e) ∙ length_spelled 2 r (spells_new r h.sound h.fits)
    go (inr e) = ap length (sym e.1) ∙ length_spelled 1 r (spells_old r h.sound h.fits e.0)

pub length_either : (x : Row) (payload : List ℕ) → RowReadsAs x payload → length payload ≡ 192
length_either (Device r) payload h = length_device payload r h
length_either (Customer r) payload h = length_customer payload r h

pub payload_laws : PayloadLaws
payload_laws = record {
  one_device = one_device_row;
  one_customer = one_customer_row;
  device_written = written_device;
  customer_written = written_customer;
  length = length_either;
}
