-- The numbers of a payload, as they are read one by one, and the zeros after them.
use Rattle.std.proofs.Common.{◌≡◌, ℕ, ◌+◌, if◌then◌else◌, List, [], ◌∷◌, length, take, drop, get_or, replicate, refl, sym, ap, ap₂, ◌∙◌, subst, arith, ◌↔◌, ne_eqb}
use Rattle.std.proofs.lemmas.List.{take_all, length-drop}
use Rattle.bench_base.specs.Table.{One, Four, Eight, number, bytes_in, values}
use Rattle.psd_wire.specs.Grammar.{sum_size}
use Rattle.psd_wire.proofs.Readings.{byte_of}
use Rattle.centre_ledger.specs.declared.{rows.DeviceRow.DeviceRow, rows.Enrolment.Enrolment, rows.Enrolment.TheVariants.Registered, rows.Enrolment.TheVariants.Enrolled, rows.Enrolment.TheVariants.Withdrawn}
use Rattle.centre_ledger.specs.Rows.{customer_number}
use Rattle.centre_ledger.specs.Payload.{state_byte, state_number, head_table}
use Rattle.centre_ledger.specs.Parts.{state_from, enrolment_from, IsToldBy, HeadIs, bare_at, sum_at}
use Rattle.centre_ledger.proofs.Parted.{state_again, state_is}

-- sums of four bytes in version 1, and of eight in version 2
pub buys_four : (v a : ℕ) (bytes : List ℕ) → v ≡ 1 → a ≡ number Four (take 4 (drop 53 bytes)) → a ≡ sum_at v 53 bytes
buys_four v a bytes e h = subst (λ k. a ≡ sum_at k 53 bytes) (sym e) h

pub returns_four : (v a : ℕ) (bytes : List ℕ) → v ≡ 1 → a ≡ number Four (take 4 (drop 57 bytes)) → a ≡ sum_at v (53 + bytes_in (sum_size v)) bytes
returns_four v a bytes e h = subst (λ k. a ≡ sum_at k (53 + bytes_in (sum_size k)) bytes) (sym e) h

pub buys_eight : (v a : ℕ) (bytes : List ℕ) → (v ≡ 1 → ⊥) → a ≡ number Eight (take 8 (drop 53 bytes)) → a ≡ sum_at v 53 bytes
buys_eight v a bytes n h = subst (λ b. let s = if b then Four else Eight in a ≡ number s (take (bytes_in s) (drop 53 bytes))) (sym (ne_eqb v 1 n)) h

pub returns_eight : (v a : ℕ) (bytes : List ℕ) → (v ≡ 1 → ⊥) → a ≡ number Eight (take 8 (drop 61 bytes)) → a ≡ sum_at v (53 + bytes_in (sum_size v)) bytes
returns_eight v a bytes n h =
    subst (λ b. let s = if b then Four else Eight in a ≡ number s (take (bytes_in s) (drop (53 + bytes_in s) bytes))) (sym (ne_eqb v 1 n)) h

-- the enrolment that two numbers encode
told_from : (state customer : ℕ) (e : Enrolment) → IsToldBy state customer e → e ≡ enrolment_from state customer
told_from state customer e told = own e ∙ ap₂ enrolment_from told.state told.customer
  where
    own : (x : Enrolment) → x ≡ enrolment_from (state_number x) (customer_number x)
    own Registered = refl
    own (Enrolled w) = refl
    own (Withdrawn w) = refl

-- the fields, read one by one
pub bare_read : (v : ℕ) (bytes key request reply : List ℕ) (device state : ℕ) (enrolment : Enrolment) (origin ruled settled buys returns : ℕ)
    → device ≡ number Four (take 4 bytes) → state_byte v state ≡ get_or bytes 4 0 → IsToldBy state (number Four (take 4 (drop 5 bytes))) enrolment → origin ≡ number Four (take 4 (drop 9 bytes))
    → key ≡ take 32 (drop 13 bytes) → ruled ≡ number Four (take 4 (drop 45 bytes)) → settled ≡ number Four (take 4 (drop 49 bytes))
    → buys ≡ sum_at v 53 bytes → returns ≡ sum_at v (53 + bytes_in (sum_size v)) bytes → request ≡ [] → reply ≡ []
    → ◌≡◌ {A = DeviceRow} (record { device = device; enrolment = enrolment; origin = origin; key = key; ruled = ruled; settled = settled; buys = buys; returns = returns; request = request; reply = reply }) (bare_at v bytes)
unfolding bare_at
bare_read v bytes key q p d s e o r t b n hd hs he ho hk hr ht hb hn hq hp =
    let byte : s ≡ state_from v (number One (take 1 (drop 4 bytes))) = sym (state_again v s) ∙ ap (state_from v) (hs ∙ sym (byte_of 4 bytes)) in
    let told : e ≡ enrolment_from (state_from v (number One (take 1 (drop 4 bytes)))) (number Four (take 4 (drop 5 bytes))) =
    told_from s (number Four (take 4 (drop 5 bytes))) e he ∙ ap (λ x. enrolment_from x (number Four (take 4 (drop 5 bytes)))) byte in
    cc

pub head_read : (v : ℕ) (bytes : List ℕ) (device state origin : ℕ) (enrolment : Enrolment) → device ≡ number Four (take 4 bytes) → state_byte v state ≡ get_or bytes 4 0
    → IsToldBy state (number Four (take 4 (drop 5 bytes))) enrolment → origin ≡ number Four (take 4 (drop 9 bytes))
    → values 0 head_table bytes ≡ device ∷ state_byte v (state_number enrolment) ∷ customer_number enrolment ∷ origin ∷ []
head_read v bytes d s o e device byte told origin =
    let second : number One (take 1 (drop 4 bytes)) ≡ state_byte v (state_number e) = byte_of 4 bytes ∙ sym byte ∙ ap (state_byte v) (sym told.state) in
    let third : number Four (take 4 (drop 5 bytes)) ≡ customer_number e = sym told.customer in
    cc

-- and the beginning of such bytes encodes the enrolment of the row
pub told_so : (v : ℕ) (bytes : List ℕ) (r : DeviceRow) (state : ℕ) → state_byte v state ≡ get_or bytes 4 0 → HeadIs v r bytes → IsToldBy state (number Four (take 4 (drop 5 bytes))) r.enrolment
told_so v bytes r state byte head = record {
  state = sym (state_again v (state_number r.enrolment)) ∙ ap (state_from v) (sym (byte ∙ state_is v r bytes head)) ∙ state_again v state;
  customer = sym (ap (λ h. get_or h 2 0) head);
}

pub device_so : (v : ℕ) (bytes : List ℕ) (r : DeviceRow) → HeadIs v r bytes → number Four (take 4 bytes) ≡ r.device
device_so v bytes r head = ap (λ h. get_or h 0 0) head

-- the bytes after it are zeros
pub zeros_behind : (at n : ℕ) (bytes : List ℕ) → length bytes ≡ at + n
    → (replicate (length (take n (drop at bytes))) 0 ≡ take n (drop at bytes)) ↔ (drop at bytes ≡ replicate n 0)
zeros_behind at n bytes l =
    let long : length (drop at bytes) ≡ n = length-drop at bytes ∙ omega (arith, l) in
    let all : take n (drop at bytes) ≡ drop at bytes = take_all n (drop at bytes) (omega (arith, long)) in
    let same : replicate (length (take n (drop at bytes))) 0 ≡ replicate n 0 = ap (λ k. replicate k 0) (ap length all ∙ long) in
    (λ h. sym all ∙ sym h ∙ same, λ h. same ∙ sym h ∙ sym all)
