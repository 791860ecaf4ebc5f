-- What the row of a device shows of its last ruling, of the ruling in flight, and of what is acknowledged.
use Rattle.std.proofs.Common.{◌≡◌, ℕ, ◌+◌, ◌-◌, ◌<◌, ◌≤◌, true, false, List, [], ◌∷◌, ◌++◌, take, drop, get_or, Bool, Option, Some, None, Ok, cond, refl, sym, ap, subst, ◌∙◌, ⊎_elim, arith}
use Rattle.std.specs.Prelude.{nat_lt, max, ◌==◌}
use Rattle.std.proofs.lemmas.Bool.{cases_Bool, cases_lt, eq-eqb, ne_eqb, le-leb, lt-leb, ltb-true, ltb-false}
use Rattle.std.proofs.lemmas.Option.{same_Some}
use Rattle.std.proofs.Math.Nat.{min-eq_left}
use Rattle.bench_base.specs.declared.{words.Verdict.Verdict, ledger.Commit.Commit, ledger.Commit.TheVariants.Ruled}
use Rattle.bench_base.specs.Kinds.{is_granted}
use Rattle.bench_base.specs.Table.{Size, One, Two, Four, Five, Eight, IsNumber, bytes_in, number, row, spelled}
use Rattle.bench_base.proofs.Facts.{either}
use Rattle.bench_base.proofs.Tables.{number_spelled}
use Rattle.hmac_core.specs.Hmac.{hmac}
use Rattle.psd_wire.specs.declared.{message.Request.Request, message.ReplyMsg.ReplyMsg}
use Rattle.psd_wire.specs.declared.message.Message.TheVariants as m
use Rattle.psd_wire.specs.Grammar.{IsWhole, read, spell, body, sum_size, reply_table, reply_values, verdict_code, verdict_of}
use Rattle.psd_wire.proofs.Readings.{read_spell, verdict_of_code}
use Rattle.ledger_terms.specs.Requests.{request_in, request_or_none}
use Rattle.ledger_terms.specs.Sums.{adds, takes, ruled_sum}
use Rattle.ledger_terms.specs.Centres.{registered, key_in, ruled, settled}
use Rattle.ledger_terms.specs.InFlight.{ruling_of, ruled_sum_to, in_flight, acknowledged_resets, acknowledged_refunds}
use Rattle.ledger_terms.specs.Rulings.{account_of, verdict, written_amount, stored_reply, reply_to}
use Rattle.centre_ledger.proofs.Passed.{granted_amount}
use Rattle.centre_ledger.specs.declared.rows.DeviceRow.{DeviceRow}
use Rattle.centre_ledger.specs.Order.{InOrder}
use Rattle.centre_ledger.specs.Soundness.{IsRuling, IsSoundDevice}
use Rattle.centre_ledger.specs.Records.{last_ruling, stored_note, IsRowOf, note_or_none}
use Rattle.centre_ledger.specs.Standing.{ruling_in, ruling_read, granted_in, granted_read, flight_in, flight_told, flight_shown, by_ruling, told_of, resets_in, refunds_in}
use Rattle.centre_ledger.specs.Laws.{StandingByRows}

-- == the rulings of a device have rising numbers ==

-- no ruling has a number above the greatest
above_none : (d n : ℕ) (C : List Commit) → ruled d C < n → ruling_of d n C ≡ None
above_none d n [] h = refl
above_none d n (Ruled e k v note ∷ C) h = either e d
    (λ t y. let top : max k (ruled d C) < n = rw t at h in rw (t, ne_eqb k n (λ z. omega arith)) (above_none d n C (omega arith)))
    (λ t. rw t (above_none d n C (rw t at h)))
above_none d n (_ ∷ C) h = above_none d n C h

-- the ruling of the greatest number is the last one
last_is : (d n : ℕ) (C : List Commit) → InOrder C → ruled d C ≡ n → 1 ≤ n → ruling_of d n C ≡ last_ruling d C
last_is d n [] o h from_1 = absurd (omega arith)
last_is d n (Ruled e k v note ∷ C) o h from_1 = either e d
    (λ t y.
    let top : max k (ruled d C) ≡ n = rw t at h in
    let less : ruled d C < k = subst (λ z. ruled z C < k) y o.0.1 in
    rw (t, eq-eqb k n (omega arith), above_none d n C (omega arith)) refl)
    (λ t. rw t (last_is d n C o.1 (rw t at h) from_1))
last_is d n (_ ∷ C) o h from_1 = last_is d n C o.1 h from_1

-- where no number was ruled there is no ruling
none_last : (d : ℕ) (C : List Commit) → InOrder C → ruled d C ≡ 0 → last_ruling d C ≡ None
none_last d [] o h = refl
none_last d (Ruled e k v note ∷ C) o h = either e d
    (λ t y. let top : max k (ruled d C) ≡ 0 = rw t at h in let less = o.0.1 in absurd (omega arith))
    (λ t. rw t (none_last d C o.1 (rw t at h)))
none_last d (_ ∷ C) o h = none_last d C o.1 h

last_none : (d : ℕ) (C : List Commit) → last_ruling d C ≡ None → ruled d C ≡ 0
last_none d [] h = refl
last_none d (Ruled e k v note ∷ C) h = either e d
    (λ t y. let no : Some (v, note) ≡ None = rw t at h in absurd (cc))
    (λ t. rw t (last_none d C (rw t at h)))
last_none d (_ ∷ C) h = last_none d C h

-- up to the greatest number the sum is that of all rulings
pub sum_to_all : (f : Verdict → Request → ℕ) (d s : ℕ) (C : List Commit) → ruled d C ≤ s → ruled_sum_to f d s C ≡ ruled_sum f d C
sum_to_all f d s [] h = refl
sum_to_all f d s (Ruled e k v note ∷ C) h = either e d
    (λ t y. let top : max k (ruled d C) ≤ s = rw t at h in rw (t, le-leb k s (omega arith)) (ap (λ n. n + f v (request_in note)) (sum_to_all f d s C (omega arith))))
    (λ t. rw t (sum_to_all f d s C (rw t at h)))
sum_to_all f d s (_ ∷ C) h = sum_to_all f d s C h

-- a ruling with its Request as it was asked
abbrev as_asked : Option (Verdict × List ℕ) → Option (Verdict × Request)
as_asked None = None
as_asked (Some x) = Some (x.0, request_in x.1)

-- up to the number before it, all but the last
sum_to_last : (f : Verdict → Request → ℕ) (d s : ℕ) (C : List Commit) → InOrder C → ruled d C ≡ s + 1 → ruled_sum_to f d s C + by_ruling 0 f (as_asked (last_ruling d C)) ≡ ruled_sum f d C
sum_to_last f d s [] o h = absurd (omega arith)
sum_to_last f d s (Ruled e k v note ∷ C) o h = either e d
    (λ t y.
    let top : max k (ruled d C) ≡ s + 1 = rw t at h in
    let less : ruled d C < k = subst (λ z. ruled z C < k) y o.0.1 in
    rw (t, lt-leb k s (omega arith)) (ap (λ n. n + f v (request_in note)) (sum_to_all f d s C (omega arith))))
    (λ t. rw t (sum_to_last f d s C o.1 (rw t at h)))
sum_to_last f d s (_ ∷ C) o h = sum_to_last f d s C o.1 h

-- == the verdict in a Reply ==

-- the byte of the verdict is at one place, whatever the version
verdict_byte : (p : ReplyMsg) (key : List ℕ) → get_or (spell (m.Reply p) key) 11 0 ≡ verdict_code p.verdict
unfolding spell body spelled
verdict_byte p key = refl

same_verdict : (p x : ReplyMsg) (key other : List ℕ) → spell (m.Reply p) key ≡ spell (m.Reply x) other → p.verdict ≡ x.verdict
same_verdict p x key other h =
    let codes : verdict_code p.verdict ≡ verdict_code x.verdict = sym (verdict_byte p key) ∙ ap (λ b. get_or b 11 0) h ∙ verdict_byte x other in
    same_Some _ _ (sym (verdict_of_code p.verdict) ∙ ap verdict_of codes ∙ verdict_of_code x.verdict)

-- the amount is at one place, in as many bytes as the version has
amount_bytes : (s : Size) (p : ReplyMsg) (rest : List ℕ) → take (bytes_in s) (drop 12 (row (reply_table s) (reply_values p) ++ rest)) ≡ spelled s p.amount
unfolding spelled
amount_bytes One p rest = refl
amount_bytes Two p rest = refl
amount_bytes Four p rest = refl
amount_bytes Five p rest = refl
amount_bytes Eight p rest = refl

amount_in : (s : Size) (p : ReplyMsg) (key : List ℕ) → sum_size p.version ≡ s → IsNumber s p.amount → number s (take (bytes_in s) (drop 12 (spell (m.Reply p) key))) ≡ p.amount
unfolding spell body
amount_in s p key size fits =
    ap (λ z. number s (take (bytes_in s) (drop 12 (row (reply_table z) (reply_values p) ++ hmac key (row (reply_table z) (reply_values p)))))) size
    ∙ ap (number s) (amount_bytes s p (hmac key (row (reply_table s) (reply_values p))))
    ∙ number_spelled s p.amount fits

same_amount : (s : Size) (p x : ReplyMsg) (key other : List ℕ) → sum_size p.version ≡ s → sum_size x.version ≡ s → IsNumber s p.amount → IsNumber s x.amount
    → spell (m.Reply p) key ≡ spell (m.Reply x) other → p.amount ≡ x.amount
same_amount s p x key other size_p size_x fits_p fits_x h =
    sym (amount_in s p key size_p fits_p) ∙ ap (λ bytes. number s (take (bytes_in s) (drop 12 bytes))) h ∙ amount_in s x other size_x fits_x

-- the stored Reply is the one to the Request of the last ruling, and has its verdict
pub record KeepsReply (d : ℕ) (C : List Commit) (x : Verdict × List ℕ) : Type 0 where
  pub key : List ℕ
  pub before : List Commit
  pub stored : stored_reply d C ≡ Some (spell (m.Reply (reply_to before (request_in x.1))) key)
  pub verdict : (verdict before (request_in x.1)).0 ≡ x.0

keeps_reply : (d : ℕ) (C : List Commit) (x : Verdict × List ℕ) → InOrder C → last_ruling d C ≡ Some x → KeepsReply d C x
keeps_reply d [] x o h = let no : None ≡ Some x = h in absurd (cc)
keeps_reply d (Ruled e k v note ∷ C) x o h = either e d
    (λ t y.
    let same : Some (v, note) ≡ Some x = rw t at h in
    subst (λ z. KeepsReply d (Ruled e k v note ∷ C) z) (same_Some _ _ same)
    (record { key = key_in (registered (request_in note).device C); before = C; stored = rw t refl; verdict = sym o.0.2 }))
    (λ t. let was = keeps_reply d C x o.1 (rw t at h) in record { key = was.key; before = was.before; stored = rw t was.stored; verdict = was.verdict })
keeps_reply d (_ ∷ C) x o h = let was = keeps_reply d C x o.1 h in record { key = was.key; before = was.before; stored = was.stored; verdict = was.verdict }

-- == what was granted ==

-- an amount that fits its version is written as it is
written_as : (q : Request) → IsNumber (sum_size q.version) q.amount → written_amount q.version q.amount ≡ q.amount
written_as q fits = by_size (q.version == 1) refl fits
  where
    by_size : (b : Bool) → (q.version == 1) ≡ b → IsNumber (sum_size q.version) q.amount → written_amount q.version q.amount ≡ q.amount
    by_size true is fit = rw is (let low : IsNumber Four q.amount = rw is at fit in min-eq_left (omega (arith, low)))
    by_size false is fit = rw is refl

granted_reply : (before : List Commit) (q : Request) → IsNumber (sum_size q.version) q.amount → is_granted (verdict before q).0 ≡ true → (reply_to before q).amount ≡ q.amount
unfolding verdict reply_to
granted_reply before q fits granted = ap (written_amount q.version) (granted_amount (account_of before q) q granted) ∙ written_as q fits

-- what f gives of a Request that was not granted doesn't turn on its amount
abbrev OfGranted : {A : Type 0} → (Verdict → Request → A) → Type 0
OfGranted f = (v : Verdict) (q : Request) (n : ℕ) → is_granted v ≡ false → f v q ≡ f v (record q { amount = n })

of_adds : OfGranted adds
unfolding adds
of_adds v q n denied = rw denied refl

of_takes : OfGranted takes
unfolding takes
of_takes v q n denied = rw denied refl

of_told : OfGranted told_of
of_told v q n denied = rw denied refl

as_granted : {A : Type 0} (f : Verdict → Request → A) → OfGranted f → (v : Verdict) (q : Request) (n : ℕ) → (is_granted v ≡ true → n ≡ q.amount) → f v q ≡ f v (record q { amount = n })
as_granted f of v q n amount = ⊎_elim
    (λ (yes : is_granted v ≡ true). ap (λ k. f v (record q { amount = k })) (sym (amount yes)))
    (λ (denied : is_granted v ≡ false). of v q n denied)
    (cases_Bool (is_granted v))

-- == the row ==

reads_none : (note : List ℕ) → ruling_read (read []) note ≡ None
unfolding read
reads_none note = refl

grants_none : (note : List ℕ) → granted_read (read []) note ≡ None
unfolding read
grants_none note = refl

-- the last ruling, as it is kept and as it was granted
pub record IsLast (r : DeviceRow) (o : Option (Verdict × List ℕ)) : Type 1 where
  pub kept : o ≡ ruling_in r
  pub granted : {A : Type 0} (otherwise : A) (f : Verdict → Request → A) → OfGranted f → by_ruling otherwise f (as_asked o) ≡ by_ruling otherwise f (granted_in r)

none_is : (r : DeviceRow) → r.reply ≡ [] → IsLast r None
unfolding ruling_in granted_in
none_is r empty = record {
  kept = sym (ap (λ b. ruling_read (read b) r.request) empty ∙ reads_none r.request);
  granted = λ otherwise f of. sym (ap (λ b. by_ruling otherwise f (granted_read (read b) r.request)) empty ∙ ap (by_ruling otherwise f) (grants_none r.request));
}

some_is : (r : DeviceRow) (p : ReplyMsg) → read r.reply ≡ Ok (m.Reply p) → (is_granted p.verdict ≡ true → p.amount ≡ (request_in r.request).amount) → IsLast r (Some (p.verdict, r.request))
unfolding ruling_in granted_in
some_is r p reads amount = record {
  kept = sym (ap (λ x. ruling_read x r.request) reads);
  granted = λ otherwise f of. as_granted f of p.verdict (request_in r.request) p.amount amount ∙ sym (ap (λ x. by_ruling otherwise f (granted_read x r.request)) reads);
}

-- the Request that is kept is read back
request_read : (q : Request) (key note : List ℕ) → IsWhole (m.Request q) → note ≡ spell (m.Request q) key → request_in note ≡ q
unfolding request_in
request_read q key note whole is = ap request_or_none (ap read is ∙ read_spell (m.Request q) key whole)

verdict_to : (before : List Commit) (q : Request) → (verdict before q).0 ≡ (reply_to before q).verdict
unfolding reply_to
verdict_to before q = refl

version_to : (before : List Commit) (q : Request) → (reply_to before q).version ≡ q.version
unfolding reply_to
version_to before q = refl

ruling_last : (r : DeviceRow) (C : List Commit) → InOrder C → IsSoundDevice r → IsRowOf r C → IsLast r (last_ruling r.device C)
ruling_last r C o sound is = ⊎_elim
    (λ (none : r.ruled < 1).
    let empty = sound.unruled (omega arith) in
    subst (λ (x : Option (Verdict × List ℕ)). IsLast r x) (sym (none_last r.device C o (let n = is.ruled in omega arith))) (none_is r empty.1))
    (λ (some : 1 ≤ r.ruled).
    let was = sound.ruling some in
    let p = was.1 in
    let read_so : read r.reply ≡ Ok (m.Reply p) = ap read was.2.reply ∙ read_spell (m.Reply p) r.key was.2.reply_whole in
    let kept = go was.0 p was.2 some (last_ruling r.device C) refl in
    subst (λ (x : Option (Verdict × List ℕ)). IsLast r x) (sym kept.0) (some_is r p read_so kept.1))
    (cases_lt r.ruled 1)
  where
    go : (q : Request) (p : ReplyMsg) → IsRuling r q p → 1 ≤ r.ruled → (x : Option (Verdict × List ℕ)) → last_ruling r.device C ≡ x
        → (x ≡ Some (p.verdict, r.request)) × (is_granted p.verdict ≡ true → p.amount ≡ (request_in r.request).amount)
    go q p ruling some None h = let n = is.ruled in let z = last_none r.device C h in absurd (omega arith)
    go q p ruling some (Some x) h =
        let k = keeps_reply r.device C x o h in
        let kept = reply_to k.before (request_in x.1) in
        let same : spell (m.Reply kept) k.key ≡ spell (m.Reply p) r.key = sym (ap note_or_none k.stored) ∙ is.reply ∙ ruling.reply in
        let v : x.0 ≡ p.verdict = sym k.verdict ∙ verdict_to k.before (request_in x.1) ∙ same_verdict kept p k.key r.key same in
        let note : x.1 ≡ r.request = sym (ap stored_note h) ∙ is.request in
        let asked : request_in x.1 ≡ q = ap request_in note ∙ request_read q r.key r.request ruling.request_whole ruling.request in (
          λ i. Some (v i, note i),
          λ granted. let given : is_granted (verdict k.before (request_in x.1)).0 ≡ true = ap is_granted (k.verdict ∙ v) ∙ granted in
              let fits : IsNumber (sum_size (request_in x.1).version) (request_in x.1).amount = subst (λ (y : Request). IsNumber (sum_size y.version) y.amount) (sym asked) ruling.request_whole.1.1.1.1.1.1.1.0 in
              let amount : kept.amount ≡ (request_in x.1).amount = granted_reply k.before (request_in x.1) fits given in
              let size : sum_size kept.version ≡ sum_size p.version = ap sum_size (version_to k.before (request_in x.1) ∙ ap (λ (y : Request). y.version) asked ∙ ruling.version) in
              sym (same_amount (sum_size p.version) kept p k.key r.key size refl
              (subst (λ n. IsNumber (sum_size p.version) n) (sym amount) (subst (λ z. IsNumber z (request_in x.1).amount) (ap sum_size (ap (λ (y : Request). y.version) asked ∙ ruling.version)) fits))
              ruling.reply_whole.1.1.1.1.1.1.1.0 same)
              ∙ amount ∙ ap (λ b. (request_in b).amount) note,
        )

shown_asked : (o : Option (Verdict × List ℕ)) → flight_shown o ≡ flight_told (as_asked o)
shown_asked None = refl
shown_asked (Some x) = refl

flight_is : (r : DeviceRow) (C : List Commit) → InOrder C → IsSoundDevice r → IsRowOf r C → flight_shown (in_flight r.device C) ≡ flight_told (flight_in r)
flight_is r C o sound is =
    let top = is.ruled in
    let done = is.settled in
    let le = sound.ruled_le in
    ⊎_elim
    (λ (t : nat_lt r.settled r.ruled ≡ true).
    let less = ltb-true r.settled r.ruled t in
    ap flight_shown (last_is r.device (settled r.device C + 1) C o (omega arith) (omega arith)) ∙ shown_asked (last_ruling r.device C)
    ∙ (ruling_last r C o sound is).granted None told_of of_told ∙ sym (ap (λ b. flight_told (cond b (granted_in r) None)) t))
    (λ (t : nat_lt r.settled r.ruled ≡ false).
    let most = ltb-false r.settled r.ruled t in
    ap flight_shown (above_none r.device (settled r.device C + 1) C (omega arith)) ∙ sym (ap (λ b. flight_told (cond b (granted_in r) None)) t))
    (cases_Bool (nat_lt r.settled r.ruled))

sum_is : (f : Verdict → Request → ℕ) → OfGranted f → (sum : ℕ) (r : DeviceRow) (C : List Commit) → InOrder C → IsSoundDevice r → IsRowOf r C → ruled_sum f r.device C ≡ sum
    → ruled_sum_to f r.device (settled r.device C) C ≡ sum - by_ruling 0 f (flight_in r)
sum_is f of sum r C o sound is all =
    let top = is.ruled in
    let done = is.settled in
    let le = sound.ruled_le in
    ⊎_elim
    (λ (t : nat_lt r.settled r.ruled ≡ true).
    let less = ltb-true r.settled r.ruled t in
    let flies : flight_in r ≡ granted_in r = ap (λ b. cond b (granted_in r) None) t in
    let last : by_ruling 0 f (as_asked (last_ruling r.device C)) ≡ by_ruling 0 f (flight_in r) = (ruling_last r C o sound is).granted 0 f of ∙ ap (by_ruling 0 f) (sym flies) in
    let parts = sum_to_last f r.device (settled r.device C) C o (omega arith) in
    omega (arith, last, parts, all))
    (λ (t : nat_lt r.settled r.ruled ≡ false).
    let most = ltb-false r.settled r.ruled t in
    let lands : by_ruling 0 f (flight_in r) ≡ 0 = ap (λ b. by_ruling 0 f (cond b (granted_in r) None)) t in
    let whole = sum_to_all f r.device (settled r.device C) C (omega arith) in
    omega (arith, lands, whole, all))
    (cases_Bool (nat_lt r.settled r.ruled))

repeated_is : (r : DeviceRow) (C : List Commit) → InOrder C → IsRowOf r C → last_ruling r.device C ≡ ruling_in r → (p : ReplyMsg) → read r.reply ≡ Ok (m.Reply p)
    → (last_ruling r.device C ≡ Some (p.verdict, r.request)) × (stored_reply r.device C ≡ Some r.reply)
unfolding ruling_in
repeated_is r C o is last p reads =
    let here : last_ruling r.device C ≡ Some (p.verdict, r.request) = last ∙ ap (λ x. ruling_read x r.request) reads in
    let kept = keeps_reply r.device C (p.verdict, r.request) o here in
    let reply : spell (m.Reply (reply_to kept.before (request_in r.request))) kept.key ≡ r.reply = sym (ap note_or_none kept.stored) ∙ is.reply in
    (here, kept.stored ∙ ap (λ (x : List ℕ). Some x) reply)

pub standing : StandingByRows
standing r C o sound is =
    let last = (ruling_last r C o sound is).kept in
    let flies = flight_is r C o sound is in
    let resets : acknowledged_resets r.device C ≡ resets_in r = sum_is adds of_adds r.buys r C o sound is is.bought in
    let refunds : acknowledged_refunds r.device C ≡ refunds_in r = sum_is takes of_takes r.returns r C o sound is is.returned in
    record {
      last = last;
      in_flight = flies;
      resets = resets;
      refunds = refunds;
      standing = λ i. record { centre = resets i - refunds i; in_flight = flies i };
      repeated = repeated_is r C o is last;
    }
