-- The acts of sound books leave sound books.
use Rattle.std.proofs.Common.{◌≡◌, ℕ, ◌+◌, ◌≤◌, Bool, true, false, List, Option, Some, None, Ok, Err, cond, refl, sym, ap, subst, ◌∙◌, arith}
use Rattle.std.specs.Prelude.{Result}
use Rattle.bench_base.specs.Ranges.{IsCustomer, IsDevice, IsWord}
use Rattle.bench_base.specs.Table.{IsBytes}
use Rattle.bench_base.specs.declared.{refusals.Unread.Unread, refusals.CentreRefusal.CentreRefusal, words.Verdict.Verdict}
use Rattle.bench_base.specs.declared.refusals.CentreRefusal.TheVariants as no
use Rattle.node_acts.specs.declared.act.Act.TheVariants.{Refuse}
use Rattle.psd_wire.specs.declared.{message.Request.Request, message.DoneMsg.DoneMsg, message.Message.Message}
use Rattle.psd_wire.specs.declared.message.Message.TheVariants as m
use Rattle.psd_wire.specs.Codes.{has_code}
use Rattle.psd_wire.specs.Grammar.{read}
use Rattle.centre_ledger.specs.declared.{rows.DeviceRow.DeviceRow, rows.CustomerRow.CustomerRow, standing.Standing.Standing}
use Rattle.centre_ledger.specs.declared.rows.Row.TheVariants as row
use Rattle.centre_ledger.specs.Answers.{settle_answer, deposit_answer, turn_answer}
use Rattle.centre_ledger.specs.Records.{registered_row, opened_row}
use Rattle.centre_ledger.specs.Rows.{deposited_row, settled_row, buys_in, returns_in}
use Rattle.centre_ledger.specs.Soundness.{IsSoundDevice}
use Rattle.centre_ledger.specs.Standing.{ruling_in}
use Rattle.centre_ledger.specs.Books.{Books, device_at, customer_at, put_row, left_in, deposits_in, AreSound}
use Rattle.centre_ledger.specs.Acts.{in_books, opened_act, flagged_act, taken_act, deposited_act, left_act, registered_act, stood_act, turn_act, repeated_act, request_act, settled_act, done_act, message_act, payer_in, own_left, verdict_in, ruled_in}
use Rattle.centre_ledger.specs.ActLaws.{LeavesSound, ActsLeaveSound}
use Rattle.centre_ledger.proofs.Asked.{code_has, asked, turn_next}
use Rattle.centre_ledger.proofs.Keeping.{ruled_sound}
use Rattle.centre_ledger.proofs.RuledBooks.{ruled_can_pay}
use Rattle.centre_ledger.proofs.Payers.{found_device, found_owned, found_customer, payer_is}
use Rattle.centre_ledger.proofs.Puts.{CanPay, device_put, customer_put}
use Rattle.centre_ledger.proofs.Passed.{deposit_taken}
use Rattle.centre_ledger.proofs.Slots.{sound}

-- == customers ==

opened_sound : (b : Books) (w : ℕ) → AreSound b → IsCustomer w → (o : Option CustomerRow) → customer_at b w ≡ o → LeavesSound b (opened_act w o)
opened_sound b w s in_w None at = (customer_put b (opened_row w) s in_w (sound.opened w) (let none : deposits_in (customer_at b w) ≡ 0 = ap deposits_in at in omega arith), refl)
opened_sound b w s in_w (Some r) at = tt

flagged_sound : (b : Books) (w : ℕ) (flag : Bool) → AreSound b → (o : Option CustomerRow) → customer_at b w ≡ o → LeavesSound b (flagged_act w flag o)
flagged_sound b w flag s None at = tt
flagged_sound b w flag s (Some r) at =
    let found = found_customer b w r s at in
    let here : customer_at b r.customer ≡ Some r = ap (customer_at b) found.0.customer ∙ at in
    let same : deposits_in (customer_at b r.customer) ≡ r.deposits = ap deposits_in here in
    (customer_put b (record r { suspended = flag }) s (subst IsCustomer (sym found.0.customer) found.1) (sound.flagged r flag found.0.sound) (omega arith), refl)

deposited_sound : (b : Books) (w receipt amount : ℕ) → AreSound b → (o : Option CustomerRow) → customer_at b w ≡ o → LeavesSound b (deposited_act w receipt amount o)
deposited_sound b w receipt amount s None at = tt
deposited_sound b w receipt amount s (Some r) at = go (deposit_answer (r.receipt, r.amount) r.deposits receipt amount) refl
  where
    go : (a : Result (Option ℕ) CentreRefusal) → deposit_answer (r.receipt, r.amount) r.deposits receipt amount ≡ a → LeavesSound b (taken_act w receipt amount r (deposited_row r receipt amount a))
    go (Err x) h = tt
    go (Ok None) h = tt
    go (Ok (Some after)) h =
        let found = found_customer b w r s at in
        let here : customer_at b r.customer ≡ Some r = ap (customer_at b) found.0.customer ∙ at in
        let same : deposits_in (customer_at b r.customer) ≡ r.deposits = ap deposits_in here in
        let is = deposit_taken (r.receipt, r.amount) r.deposits receipt amount after h in
        let more : deposits_in (customer_at b r.customer) ≤ after = omega (arith, is.sum) in
        (customer_put b (record r { deposits = after; receipt = receipt; amount = amount }) s (subst IsCustomer (sym found.0.customer) found.1) (sound.deposited r receipt amount after found.0.sound h) more, refl)

left_sound : (b : Books) (w left : ℕ) (o : Option CustomerRow) → LeavesSound b (left_act w left o)
left_sound b w left None = tt
left_sound b w left (Some r) = tt

-- == devices ==

registered_sound : (b : Books) (d origin : ℕ) (key : List ℕ) → AreSound b → IsDevice d → IsWord origin → (o : Option DeviceRow) → device_at b d ≡ o → LeavesSound b (registered_act d origin key o)
registered_sound b d origin key s in_d word None at =
    let r = registered_row d origin key in
    let can : CanPay b r = record {
      owned = tt;
      paid = λ w c h. let before : returns_in w (device_at b d) ≡ 0 = ap (returns_in w) at in omega arith;
    } in
    (device_put b r s in_d word (sound.registered d origin key) can, refl)
registered_sound b d origin key s in_d word (Some r) at = tt

stood_sound : (b : Books) (d : ℕ) (o : Option Standing) → LeavesSound b (stood_act d o)
stood_sound b d None = tt
stood_sound b d (Some a) = tt

settled_sound : (b : Books) (d : ℕ) (bytes : List ℕ) (q : DoneMsg) → AreSound b → (o : Option DeviceRow) → device_at b d ≡ o → LeavesSound b (done_act bytes q o)
settled_sound b d bytes q s None at = tt
settled_sound b d bytes q s (Some r) at = either (has_code r.key bytes)
  where
    settle : (a : Result (Option ℕ) CentreRefusal) → settle_answer r.settled r.ruled q.number ≡ a → LeavesSound b (settled_act r q.number (settled_row r a))
    settle (Err x) h = tt
    settle (Ok None) h = tt
    settle (Ok (Some now)) h =
        let found = found_device b d r s at in
        let here : device_at b r.device ≡ Some r = ap (device_at b) found.0.device ∙ at in
        let can : CanPay b (record r { settled = now }) = record {
          owned = found_owned b d r s at;
          paid = λ w c is. let buys : buys_in w (device_at b r.device) ≡ buys_in w (Some r) = ap (buys_in w) here in let returns : returns_in w (device_at b r.device) ≡ returns_in w (Some r) = ap (returns_in w) here in omega arith;
        } in
        (device_put b (record r { settled = now }) s (subst IsDevice (sym found.0.device) found.1) found.0.origin (sound.settled r q.number now found.0.sound h) can, refl)

    either : (t : Bool) → LeavesSound b (cond t (settled_act r q.number (settled_row r (settle_answer r.settled r.ruled q.number))) (Refuse no.BadCode))
    either true = settle (settle_answer r.settled r.ruled q.number) refl
    either false = tt

-- == what is taken ==

pub ruled_sound_row : (b : Books) (r : DeviceRow) (q : Request) (bytes : List ℕ) → AreSound b → device_at b r.device ≡ Some r → q.device ≡ r.device → IsBytes bytes → read bytes ≡ Ok (m.Request q) → has_code r.key bytes ≡ true
    → q.number ≡ r.ruled + 1 → IsSoundDevice (ruled_in (in_books b) r q bytes)
ruled_sound_row b r q bytes s at same in_bytes reads own next =
    let found = found_device b r.device r s at in
    let is = asked q r.key bytes in_bytes reads (code_has r.key bytes own) in
    ruled_sound r (verdict_in (in_books b) r q) (own_left (in_books b) r) q bytes found.0.sound found.0.origin is.0 is.1 same next (payer_in (in_books b) r q, payer_is b r q s, refl)

ruled_leaves : (b : Books) (r : DeviceRow) (q : Request) (bytes : List ℕ) → AreSound b → device_at b r.device ≡ Some r → IsSoundDevice (ruled_in (in_books b) r q bytes) → AreSound (put_row b (row.Device (ruled_in (in_books b) r q bytes)))
ruled_leaves b r q bytes s at sound_next =
    let found = found_device b r.device r s at in
    device_put b (ruled_in (in_books b) r q bytes) s found.1 found.0.origin sound_next (ruled_can_pay b r q bytes s at)

requested_sound : (b : Books) (q : Request) (bytes : List ℕ) → AreSound b → IsBytes bytes → read bytes ≡ Ok (m.Request q) → (o : Option DeviceRow) → device_at b q.device ≡ o → LeavesSound b (request_act bytes q o (in_books b))
requested_sound b q bytes s in_bytes reads None at = tt
requested_sound b q bytes s in_bytes reads (Some r) at = keyed (has_code r.key bytes) refl
  where
    again : (o : Option (Verdict × List ℕ)) → LeavesSound b (repeated_act r o)
    again None = tt
    again (Some x) = tt

    turn : has_code r.key bytes ≡ true → (a : Result Bool CentreRefusal) → turn_answer r.ruled r.request q.number bytes ≡ a → LeavesSound b (turn_act bytes q r (in_books b) a)
    turn own (Err x) h = tt
    turn own (Ok true) h = again (ruling_in r)
    turn own (Ok false) h =
        let same : q.device ≡ r.device = sym (found_device b q.device r s at).0.device in
        let here = ap (device_at b) (sym same) ∙ at in
        (ruled_leaves b r q bytes s here (ruled_sound_row b r q bytes s here same in_bytes reads own (turn_next r.ruled r.request q.number bytes h)), refl)

    keyed : (t : Bool) → has_code r.key bytes ≡ t → LeavesSound b (cond t (turn_act bytes q r (in_books b) (turn_answer r.ruled r.request q.number bytes)) (Refuse no.BadCode))
    keyed true own = turn own (turn_answer r.ruled r.request q.number bytes) refl
    keyed false own = tt

taken_sound : (b : Books) (bytes : List ℕ) → AreSound b → IsBytes bytes → (x : Result Message Unread) → read bytes ≡ x → LeavesSound b (message_act bytes (in_books b) x)
taken_sound b bytes s in_bytes (Ok (m.Request q)) reads = requested_sound b q bytes s in_bytes reads (device_at b q.device) refl
taken_sound b bytes s in_bytes (Ok (m.Done q)) reads = settled_sound b q.device bytes q s (device_at b q.device) refl
taken_sound b bytes s in_bytes (Ok (m.Reply q)) reads = tt
taken_sound b bytes s in_bytes (Ok (m.Debit q)) reads = tt
taken_sound b bytes s in_bytes (Ok (m.Release q)) reads = tt
taken_sound b bytes s in_bytes (Err x) reads = tt

pub leaves : ActsLeaveSound
leaves b s = record {
  registered = λ d origin key in_d word. registered_sound b d origin key s in_d word (device_at b d) refl;
  opened = λ w in_w. opened_sound b w s in_w (customer_at b w) refl;
  flagged = λ w flag. flagged_sound b w flag s (customer_at b w) refl;
  deposited = λ w receipt amount. deposited_sound b w receipt amount s (customer_at b w) refl;
  balanced = λ w. left_sound b w (left_in b w) (customer_at b w);
  stood = λ d. stood_sound b d ((in_books b).standing d);
  taken = λ bytes in_bytes. taken_sound b bytes s in_bytes (read bytes) refl;
}
