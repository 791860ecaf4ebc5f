-- A row's bytes fall into its parts, and the parts make its bytes, in each version.
use Rattle.std.proofs.Common.{◌≡◌, ℕ, ◌+◌, ◌-◌, ◌≤◌, ◌==◌, if◌then◌else◌, Bool, true, false, List, [], ◌∷◌, ◌++◌, length, take, drop, get_or, replicate, refl, sym, ap, ap₂, ◌∙◌, subst, arith, length-append, length-drop, length-take-le, append_assoc}
use Rattle.std.proofs.lemmas.Bool.{eqb-true, eqb-false}
use Rattle.std.proofs.lemmas.List.{take_at, drop_at, drop-drop}
use Rattle.bench_base.specs.Rules.{IsVersion}
use Rattle.bench_base.specs.Table.{Size, Four, Eight, room, row, values, Fit, IsBytes}
use Rattle.bench_base.proofs.Tables.{values_fit, row_values, values_row, length_row}
use Rattle.bench_base.proofs.Facts.{behind}
use Rattle.psd_wire.specs.declared.{message.Request.Request, message.ReplyMsg.ReplyMsg}
use Rattle.psd_wire.specs.declared.message.Message.TheVariants as m
use Rattle.psd_wire.specs.Grammar.{IsWhole, spell, reply_table}
use Rattle.psd_wire.proofs.Readings.{byte_of, request_room, reply_room, request_room_le, length_body_of, length_request, length_reply}
use Rattle.centre_ledger.specs.declared.{rows.DeviceRow.DeviceRow, rows.Enrolment.Enrolment, rows.Enrolment.TheVariants.Registered, rows.Enrolment.TheVariants.Enrolled, rows.Enrolment.TheVariants.Withdrawn}
use Rattle.centre_ledger.specs.Rows.{customer_number}
use Rattle.centre_ledger.specs.Soundness.{IsRuling, IsSoundDevice}
use Rattle.centre_ledger.specs.Payload.{state_byte, state_number, head_table, head, sums_table, sums, request_size, reply_size, uncoded, kept, filled, message_part, head_part, sums_part, request_part, reply_part, end_part, device_spelled, DeviceFits, IsOld}
use Rattle.centre_ledger.specs.Parts.{state_from, enrolment_from, HeadIs, bare, bare_from, bare_at, request_place, reply_place, Parts, IsNoted, IsStored, request_front, reply_front}
use Rattle.centre_ledger.proofs.Notes.{by_version, uncoded_spell, first_request, length_body_reply, length_filled, request_kept, reply_kept, kept_part, one_kept}

-- == a row falls into these parts ==

pub length_head : (v : ℕ) (r : DeviceRow) → DeviceFits v r → length (head_part v r) ≡ 13
unfolding head_part
length_head v r f = length_row head_table (head v r) f.head

pub length_sums : (v : ℕ) (r : DeviceRow) → DeviceFits v r → length (sums_part v r) ≡ room (sums_table v)
unfolding sums_part
length_sums v r f = length_row (sums_table v) (sums r) f.sums

-- a part is taken off the front of what is left
falls_apart : (x y rest bytes : List ℕ) (n at : ℕ) → length x ≡ n → drop at bytes ≡ x ++ (y ++ rest) → (drop (at + n) bytes ≡ y ++ rest) × (take n (drop at bytes) ≡ x)
falls_apart x y rest bytes n at lx e =
    (sym (drop-drop n at bytes) ∙ ap (drop n) e ∙ drop_at x (y ++ rest) n lx, ap (take n) e ∙ take_at x (y ++ rest) n lx)

head_values : (v : ℕ) (r : DeviceRow) (rest : List ℕ) → DeviceFits v r → values 0 head_table (head_part v r ++ rest) ≡ head v r
unfolding head_part
head_values v r rest f = values_row head_table (head v r) [] rest 0 refl f.head

sums_values : (v : ℕ) (r : DeviceRow) (front rest : List ℕ) → DeviceFits v r → length front ≡ 45 → values 45 (sums_table v) (front ++ (sums_part v r ++ rest)) ≡ sums r
unfolding sums_part
sums_values v r front rest f l = values_row (sums_table v) (sums r) front rest 45 l f.sums

-- the byte of the state shows the state
pub state_again : (v s : ℕ) → state_from v (state_byte v s) ≡ s
state_again v s = go (v == 1)
  where
    go : (b : Bool) → (if b then (if b then s else s + 16) else (if b then s else s + 16) - 16) ≡ s
    go true = refl
    go false = omega arith

-- and with the customer's number the enrolment
enrolment_again : (v : ℕ) (e : Enrolment) → enrolment_from (state_from v (state_byte v (state_number e))) (customer_number e) ≡ e
enrolment_again v Registered = ap (λ n. enrolment_from n 0) (state_again v 1)
enrolment_again v (Enrolled w) = ap (λ n. enrolment_from n w) (state_again v 2)
enrolment_again v (Withdrawn w) = ap (λ n. enrolment_from n w) (state_again v 3)

pub state_low : (e : Enrolment) → state_number e ≤ 3
state_low Registered = omega arith
state_low (Enrolled w) = omega arith
state_low (Withdrawn w) = omega arith

pub parts : (v : ℕ) (r : DeviceRow) (bytes : List ℕ) → DeviceFits v r → length (request_part v r) ≡ request_size v → length (reply_part v r) ≡ reply_size v
    → device_spelled v r ≡ bytes → Parts v r bytes
unfolding device_spelled bare_at
parts v r bytes f lq lp e =
    let q : List ℕ = request_part v r in
    let p : List ℕ = reply_part v r in
    let z : List ℕ = end_part v in
    let lh = length_head v r f in
    let lc = length_sums v r f in
    let all : drop 0 bytes ≡ head_part v r ++ (r.key ++ (sums_part v r ++ (q ++ (p ++ z)))) = sym e in
    let s1 = falls_apart (head_part v r) r.key (sums_part v r ++ (q ++ (p ++ z))) bytes 13 0 lh all in
    let s2 = falls_apart r.key (sums_part v r) (q ++ (p ++ z)) bytes 32 13 f.key s1.0 in
    let s3 = falls_apart (sums_part v r) q (p ++ z) bytes (room (sums_table v)) 45 lc s2.0 in
    let s4 = falls_apart q p z bytes (request_size v) (request_place v) lq s3.0 in
    let hs : values 0 head_table bytes ≡ head v r = ap (values 0 head_table) (sym e) ∙ head_values v r (r.key ++ (sums_part v r ++ (q ++ (p ++ z)))) f in
    let vs : values 45 (sums_table v) bytes ≡ sums r =
    ap (values 45 (sums_table v)) (sym e ∙ sym (append_assoc (head_part v r) r.key (sums_part v r ++ (q ++ (p ++ z)))))
    ∙ sums_values v r (head_part v r ++ r.key) (q ++ (p ++ z)) f (length-append (head_part v r) r.key ∙ ap₂ (λ x y. x + y) lh f.key) in
    record {
      head = hs;
      fields = ap₂ (λ h w. bare_from v h (take 32 (drop 13 bytes)) w) hs vs ∙ ap (λ x. bare_from v (head v r) x (sums r)) s2.1 ∙ ap (λ e. record (bare r) { enrolment = e }) (enrolment_again v r.enrolment);
      request = s4.1;
      reply = ap (take (reply_size v)) s4.0 ∙ take_at p z (reply_size v) lp;
      end = sym (drop-drop (reply_size v) (reply_place v) bytes) ∙ ap (drop (reply_size v)) s4.0 ∙ drop_at p z (reply_size v) lp;
    }

-- == the parts make the bytes ==

-- the byte of the state
pub state_is : (v : ℕ) (r : DeviceRow) (bytes : List ℕ) → HeadIs v r bytes → get_or bytes 4 0 ≡ state_byte v (state_number r.enrolment)
state_is v r bytes head = sym (byte_of 4 bytes) ∙ ap (λ h. get_or h 1 0) head

sums_row : (v : ℕ) (r : DeviceRow) (bytes : List ℕ) → Parts v r bytes → values 45 (sums_table v) bytes ≡ sums r
unfolding bare_at
sums_row v r bytes p = ap (λ (f : DeviceRow). f.ruled ∷ f.settled ∷ f.buys ∷ f.returns ∷ []) p.fields

key_part : (v : ℕ) (r : DeviceRow) (bytes : List ℕ) → Parts v r bytes → take 32 (drop 13 bytes) ≡ r.key
unfolding bare_at
key_part v r bytes p = ap (λ (f : DeviceRow). f.key) p.fields

pub assembled : (v : ℕ) (r : DeviceRow) (bytes : List ℕ) → 45 + room (sums_table v) ≤ length bytes → IsBytes bytes → Parts v r bytes → device_spelled v r ≡ bytes
unfolding device_spelled head_part sums_part
assembled v r bytes l h p =
    let table : List Size = sums_table v in
    let a : row head_table (head v r) ≡ take 13 (drop 0 bytes) = ap (row head_table) (sym p.head) ∙ row_values head_table 0 bytes (omega (arith, l)) h in
    let b : r.key ≡ take 32 (drop 13 bytes) = sym (key_part v r bytes p) in
    let c : row table (sums r) ≡ take (room table) (drop 45 bytes) = ap (row table) (sym (sums_row v r bytes p)) ∙ row_values table 45 bytes l h in
    let from_reply = ap₂ (λ x y. x ++ y) (sym p.reply) (sym p.end) ∙ behind (reply_place v) (reply_size v) bytes in
    let from_request = ap₂ (λ x y. x ++ y) (sym p.request) from_reply ∙ behind (request_place v) (request_size v) bytes in
    let from_sums = ap₂ (λ x y. x ++ y) c from_request ∙ behind 45 (room table) bytes in
    let from_key = ap₂ (λ x y. x ++ y) b from_sums ∙ behind 13 32 bytes in
    ap₂ (λ x y. x ++ y) a from_key ∙ behind 0 13 bytes

-- the numbers fit the fields of version 2, whatever version they were read from
pub fits_made : (v : ℕ) (r : DeviceRow) (bytes : List ℕ) → IsVersion v → length bytes ≡ 192 → IsBytes bytes → IsSoundDevice r → Parts v r bytes → DeviceFits 2 r
fits_made v r bytes h l bs sound p =
    let front : Fit head_table (head v r) = subst (Fit head_table) p.head (values_fit head_table 0 bytes bs) in
    let numbers : Fit (sums_table v) (sums r) = subst (Fit (sums_table v)) (sums_row v r bytes p) (values_fit (sums_table v) 45 bytes bs) in
    let long : length (drop 13 bytes) ≡ 179 = length-drop 13 bytes ∙ omega (arith, l) in
    record {
      head = (front.0, (omega (arith, state_low r.enrolment), front.1.1));
      key = ap length (sym (key_part v r bytes p)) ∙ length-take-le 32 (drop 13 bytes) (omega (arith, long));
      sums = by_version (λ k. Fit (sums_table k) (sums r) → Fit (sums_table 2) (sums r)) v h (λ f. (f.0, (f.1.0, (omega (arith, f.1.1.0), (omega (arith, f.1.1.1.0), tt))))) (λ f. f) numbers;
    }

-- == the messages of a sound row fit their parts ==

-- what is needed of a row to be spelled in a version
pub record Spells (v : ℕ) (r : DeviceRow) : Type 0 where
  pub version : IsVersion v
  pub sound : IsSoundDevice r
  pub fits : DeviceFits v r
  pub old : v ≡ 1 → IsOld r

kept_none : (v : ℕ) → kept v [] ≡ []
kept_none v = go (v == 1)
  where
    go : (b : Bool) → (if b then [] else uncoded []) ≡ []
    go true = refl
    go false = refl

-- no message is kept as zeros
pub part_none : (v size : ℕ) (note : List ℕ) → note ≡ [] → message_part v size note ≡ replicate size 0
unfolding message_part
part_none v size note e =
    let none : kept v note ≡ [] = ap (kept v) e ∙ kept_none v in
    let all : size - length (kept v note) ≡ size = omega (arith, ap length none) in
    ap₂ (λ x n. x ++ replicate n 0) none all

length_part : (v size : ℕ) (note : List ℕ) → length (kept v note) ≤ size → length (message_part v size note) ≡ size
unfolding message_part
length_part v size note h = length_filled size (kept v note) h

short_request : (v : ℕ) (q : Request) (key : List ℕ) → IsVersion v → IsWhole (m.Request q) → (v ≡ 1 → q.version ≡ 1) → length (kept v (spell (m.Request q) key)) ≤ request_size v
short_request v q key h w old = by_version (λ k. (k ≡ 1 → q.version ≡ 1) → length (kept k (spell (m.Request q) key)) ≤ request_size k) v h
    (λ one. omega (arith, length_request q key w ∙ ap (λ n. request_room n + 32) (one refl)))
    (λ _. omega (arith, ap length (uncoded_spell (m.Request q) key refl), length_body_of q w, request_room_le q.version)) old

reply_room_most : (v : ℕ) → reply_room v ≤ 28
reply_room_most v = go (v == 1)
  where
    go : (b : Bool) → room (reply_table (if b then Four else Eight)) ≤ 28
    go true = omega arith
    go false = omega arith

short_reply : (v : ℕ) (p : ReplyMsg) (key : List ℕ) → IsVersion v → IsWhole (m.Reply p) → (v ≡ 1 → p.version ≡ 1) → length (kept v (spell (m.Reply p) key)) ≤ reply_size v
short_reply v p key h w old = by_version (λ k. (k ≡ 1 → p.version ≡ 1) → length (kept k (spell (m.Reply p) key)) ≤ reply_size k) v h
    (λ one. omega (arith, length_reply p key w ∙ ap (λ n. reply_room n + 32) (one refl)))
    (λ _. omega (arith, ap length (uncoded_spell (m.Reply p) key refl), length_body_reply p w, reply_room_most p.version)) old

old_version : (r : DeviceRow) (q : Request) (p : ReplyMsg) → IsRuling r q p → 1 ≤ r.ruled → IsOld r → q.version ≡ 1
old_version r q p h some old = sym (first_request q r.key) ∙ ap (λ b. get_or b 0 0) (sym h.request) ∙ old.request some

-- what is kept of the messages fits
pub request_le : (v : ℕ) (r : DeviceRow) → IsVersion v → IsSoundDevice r → (v ≡ 1 → IsOld r) → length (kept v r.request) ≤ request_size v
request_le v r version sound old = go (r.ruled == 0) refl
  where
    ruled : 1 ≤ r.ruled → (q : Request) × (p : ReplyMsg) × IsRuling r q p → length (kept v r.request) ≤ request_size v
    ruled some (q, p, h) =
        let short = short_request v q r.key version h.request_whole (λ one. old_version r q p h some (old one)) in
        subst (λ x. length (kept v x) ≤ request_size v) (sym h.request) short

    go : (b : Bool) → (r.ruled == 0) ≡ b → length (kept v r.request) ≤ request_size v
    go true e = omega (arith, ap length (ap (kept v) (sound.unruled (eqb-true r.ruled 0 e)).0 ∙ kept_none v))
    go false e = let some : 1 ≤ r.ruled = omega (arith, eqb-false r.ruled 0 e) in ruled some (sound.ruling some)

pub reply_le : (v : ℕ) (r : DeviceRow) → IsVersion v → IsSoundDevice r → (v ≡ 1 → IsOld r) → length (kept v r.reply) ≤ reply_size v
reply_le v r version sound old = go (r.ruled == 0) refl
  where
    ruled : 1 ≤ r.ruled → (q : Request) × (p : ReplyMsg) × IsRuling r q p → length (kept v r.reply) ≤ reply_size v
    ruled some (q, p, h) =
        let short = short_reply v p r.key version h.reply_whole (λ one. sym h.version ∙ old_version r q p h some (old one)) in
        subst (λ x. length (kept v x) ≤ reply_size v) (sym h.reply) short

    go : (b : Bool) → (r.ruled == 0) ≡ b → length (kept v r.reply) ≤ reply_size v
    go true e = omega (arith, ap length (ap (kept v) (sound.unruled (eqb-true r.ruled 0 e)).1 ∙ kept_none v))
    go false e = let some : 1 ≤ r.ruled = omega (arith, eqb-false r.ruled 0 e) in ruled some (sound.ruling some)

pub size_request : (v : ℕ) (r : DeviceRow) → Spells v r → length (request_part v r) ≡ request_size v
size_request v r g = length_part v (request_size v) r.request (request_le v r g.version g.sound g.old)

pub size_reply : (v : ℕ) (r : DeviceRow) → Spells v r → length (reply_part v r) ≡ reply_size v
size_reply v r g = length_part v (reply_size v) r.reply (reply_le v r g.version g.sound g.old)

pub parts_of : (v : ℕ) (r : DeviceRow) (bytes : List ℕ) → Spells v r → device_spelled v r ≡ bytes → Parts v r bytes
parts_of v r bytes g e = parts v r bytes g.fits (size_request v r g) (size_reply v r g) e

-- what is written, part by part
pub spelled_of : (r : DeviceRow) (front numbers request reply : List ℕ) → front ≡ head_part 2 r → numbers ≡ sums_part 2 r → request ≡ uncoded r.request → reply ≡ uncoded r.reply
    → front ++ (r.key ++ (numbers ++ (filled 55 request ++ (filled 28 reply ++ replicate 40 0)))) ≡ device_spelled 2 r
unfolding device_spelled message_part
spelled_of r front numbers request reply h s q p =
    ap₂ (λ x y. x ++ (r.key ++ y)) h (ap₂ (λ x y. x ++ y) s (ap₂ (λ x y. filled 55 x ++ (filled 28 y ++ replicate 40 0)) q p))

-- == what the part of a message stores ==

pub stored_request : (v : ℕ) (r : DeviceRow) (bytes : List ℕ) → IsVersion v → IsSoundDevice r → length bytes ≡ request_size v
    → message_part v (request_size v) r.request ≡ bytes → IsStored v r.ruled (request_front v (get_or bytes 0 0)) r.key bytes r.request
stored_request v r bytes h sound l e = record {
  unruled = λ zero. ((sound.unruled zero).0, ap (λ n. replicate n 0) l ∙ sym (part_none v (request_size v) r.request (sound.unruled zero).0) ∙ e);
  kept = λ some. of (sound.ruling some);
}
  where
    of : (q : Request) × (p : ReplyMsg) × IsRuling r q p → IsNoted v (request_front v (get_or bytes 0 0)) r.key bytes r.request
    of (q, p, g) = subst (λ x. message_part v (request_size v) x ≡ bytes → IsNoted v (request_front v (get_or bytes 0 0)) r.key bytes x) (sym g.request) (request_kept v q r.key bytes h g.request_whole l) e

pub stored_reply : (v : ℕ) (r : DeviceRow) (bytes : List ℕ) → IsVersion v → IsSoundDevice r → length bytes ≡ reply_size v
    → message_part v (reply_size v) r.reply ≡ bytes → IsStored v r.ruled (reply_front v (get_or bytes 0 0)) r.key bytes r.reply
stored_reply v r bytes h sound l e = record {
  unruled = λ zero. ((sound.unruled zero).1, ap (λ n. replicate n 0) l ∙ sym (part_none v (reply_size v) r.reply (sound.unruled zero).1) ∙ e);
  kept = λ some. of (sound.ruling some);
}
  where
    of : (q : Request) × (p : ReplyMsg) × IsRuling r q p → IsNoted v (reply_front v (get_or bytes 0 0)) r.key bytes r.reply
    of (q, p, g) = subst (λ x. message_part v (reply_size v) x ≡ bytes → IsNoted v (reply_front v (get_or bytes 0 0)) r.key bytes x) (sym g.reply) (reply_kept v p r.key bytes h g.reply_whole l) e

-- by the fields of the row alone, and where the message was found to end
pub bare_request : (v n : ℕ) (x r : DeviceRow) (bytes : List ℕ) → IsVersion v → n ≡ request_front v (get_or bytes 0 0) → IsSoundDevice r → bare r ≡ x → length bytes ≡ request_size v
    → message_part v (request_size v) r.request ≡ bytes → IsStored v x.ruled n x.key bytes r.request
bare_request v n x r bytes h front sound e l part =
    subst (λ k. IsStored v x.ruled k x.key bytes r.request) (sym front)
    (subst (λ (y : DeviceRow). IsStored v y.ruled (request_front v (get_or bytes 0 0)) y.key bytes r.request) e (stored_request v r bytes h sound l part))

pub bare_reply : (v n : ℕ) (x r : DeviceRow) (bytes : List ℕ) → IsVersion v → n ≡ reply_front v (get_or bytes 0 0) → IsSoundDevice r → bare r ≡ x → length bytes ≡ reply_size v
    → message_part v (reply_size v) r.reply ≡ bytes → IsStored v x.ruled n x.key bytes r.reply
bare_reply v n x r bytes h front sound e l part =
    subst (λ k. IsStored v x.ruled k x.key bytes r.reply) (sym front)
    (subst (λ (y : DeviceRow). IsStored v y.ruled (reply_front v (get_or bytes 0 0)) y.key bytes r.reply) e (stored_reply v r bytes h sound l part))

-- and that is all of the part
pub stored_part : (v ruled front : ℕ) (key bytes note : List ℕ) → front ≤ length bytes → IsStored v ruled front key bytes note → message_part v (length bytes) note ≡ bytes
stored_part v ruled front key bytes note h s = go (ruled == 0) refl
  where
    go : (b : Bool) → (ruled == 0) ≡ b → message_part v (length bytes) note ≡ bytes
    go true e = let none = s.unruled (eqb-true ruled 0 e) in part_none v (length bytes) note none.0 ∙ none.1
    go false e = kept_part v front key bytes note h (s.kept (omega (arith, eqb-false ruled 0 e)))

pub one_stored : (v ruled front : ℕ) (key bytes a b : List ℕ) → IsVersion v → IsStored v ruled front key bytes a → IsStored v ruled front key bytes b → a ≡ b
one_stored v ruled front key bytes a b h s t = go (ruled == 0) refl
  where
    go : (f : Bool) → (ruled == 0) ≡ f → a ≡ b
    go true e = let none = eqb-true ruled 0 e in (s.unruled none).0 ∙ sym (t.unruled none).0
    go false e = let some : 1 ≤ ruled = omega (arith, eqb-false ruled 0 e) in one_kept v front key bytes a b h (s.kept some) (t.kept some)

-- == rows with the same fields ==

with_messages : DeviceRow → List ℕ → List ℕ → DeviceRow
with_messages r q p = record r { request = q; reply = p }

-- a row is its fields and its messages
pub same_row : (r s : DeviceRow) → bare r ≡ bare s → r.request ≡ s.request → r.reply ≡ s.reply → r ≡ s
unfolding with_messages
same_row r s e q p = ap (λ x. with_messages x r.request r.reply) e ∙ ap₂ (λ a b. with_messages (bare s) a b) q p

-- fields and parts determine the messages, hence the row
pub row_of_parts : (v : ℕ) (r s : DeviceRow) (request reply : List ℕ) → IsVersion v → IsSoundDevice r → IsSoundDevice s → bare r ≡ bare s
    → length request ≡ request_size v → length reply ≡ reply_size v
    → message_part v (request_size v) r.request ≡ request → message_part v (request_size v) s.request ≡ request
    → message_part v (reply_size v) r.reply ≡ reply → message_part v (reply_size v) s.reply ≡ reply → r ≡ s
row_of_parts v r s request reply h sr ss e lq lp rq sq rp sp =
    let front = λ (x : DeviceRow). IsStored v x.ruled (request_front v (get_or request 0 0)) x.key request s.request in
    let behind = λ (x : DeviceRow). IsStored v x.ruled (reply_front v (get_or reply 0 0)) x.key reply s.reply in
    let first = one_stored v r.ruled (request_front v (get_or request 0 0)) r.key request r.request s.request h (stored_request v r request h sr lq rq) (subst front (sym e) (stored_request v s request h ss lq sq)) in
    let second = one_stored v r.ruled (reply_front v (get_or reply 0 0)) r.key reply r.reply s.reply h (stored_reply v r reply h sr lp rp) (subst behind (sym e) (stored_reply v s reply h ss lp sp)) in
    same_row r s e first second
