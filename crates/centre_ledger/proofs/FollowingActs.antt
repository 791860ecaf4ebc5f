-- If the rows are those of the commits, they are so after the commit of an act too.
use Rattle.std.proofs.Common.{◌≡◌, ℕ, ◌+◌, Bool, true, false, List, [], ◌∷◌, Option, Some, None, Ok, Err, cond, refl, sym, ap, subst, ◌∙◌, arith}
use Rattle.std.specs.Prelude.{Result, ◌==◌}
use Rattle.std.proofs.lemmas.Bool.{ne_eqb}
use Rattle.bench_base.specs.Ranges.{IsCustomer, IsDevice}
use Rattle.bench_base.specs.Table.{IsBytes}
use Rattle.bench_base.specs.declared.{refusals.Unread.Unread, refusals.CentreRefusal.CentreRefusal, words.Verdict.Verdict, ledger.Commit.Commit, ledger.Commit.TheVariants.Registered, ledger.Commit.TheVariants.Opened, ledger.Commit.TheVariants.Deposited, ledger.Commit.TheVariants.Flagged, ledger.Commit.TheVariants.Ruled, ledger.Commit.TheVariants.Settled}
use Rattle.bench_base.specs.declared.refusals.CentreRefusal.TheVariants as no
use Rattle.node_acts.specs.declared.act.Act.TheVariants.{Refuse}
use Rattle.psd_wire.specs.declared.{message.Request.Request, message.DoneMsg.DoneMsg, message.Message.Message}
use Rattle.psd_wire.specs.declared.message.Message.TheVariants as m
use Rattle.psd_wire.specs.Codes.{has_code}
use Rattle.psd_wire.specs.Grammar.{read}
use Rattle.ledger_terms.specs.Requests.{request_in, request_or_none}
use Rattle.centre_ledger.specs.declared.{rows.DeviceRow.DeviceRow, rows.CustomerRow.CustomerRow}
use Rattle.centre_ledger.specs.declared.rows.Row.TheVariants as row
use Rattle.centre_ledger.specs.Answers.{settle_answer, deposit_answer, turn_answer}
use Rattle.centre_ledger.specs.Order.{InOrder}
use Rattle.centre_ledger.specs.Records.{IsRowOf, IsCustomerOf, registered_row, opened_row}
use Rattle.centre_ledger.specs.Rows.{deposited_row, settled_row}
use Rattle.centre_ledger.specs.Soundness.{IsSoundDevice, IsSoundCustomer, IsNext}
use Rattle.centre_ledger.specs.Standing.{ruling_in}
use Rattle.centre_ledger.specs.Laws.{touches_device, touches_customer, IsSlotOf, IsCustomerSlotOf}
use Rattle.centre_ledger.specs.Books.{Books, device_at, customer_at, put_row, AreSound}
use Rattle.centre_ledger.specs.Acts.{in_books, opened_act, flagged_act, taken_act, deposited_act, registered_act, turn_act, repeated_act, request_act, settled_act, done_act, message_act, payer_in, own_left, verdict_in, ruled_in}
use Rattle.centre_ledger.specs.ActLaws.{AreBooksOf, FollowsCommits, ActsFollow}
use Rattle.centre_ledger.proofs.Asked.{code_has, turn_next}
use Rattle.centre_ledger.proofs.Following.{registering, settling, settled_number, opening, depositing, flagging, ruling_keeps}
use Rattle.centre_ledger.proofs.Kept.{nothing_at}
use Rattle.centre_ledger.proofs.Paying.{pays}
use Rattle.centre_ledger.proofs.Payers.{found_device, found_customer}
use Rattle.centre_ledger.proofs.Puts.{put_all}
use Rattle.centre_ledger.proofs.Slots.{slots, in_order, sound}
use Rattle.centre_ledger.proofs.SoundActs.{ruled_sound_row}

-- == one row ==

device_follows : (b : Books) (r : DeviceRow) (c : Commit) (C : List Commit) → AreSound b → AreBooksOf b C → IsDevice r.device → InOrder (c ∷ C)
    → ((d : ℕ) → (d ≡ r.device → ⊥) → touches_device d c ≡ false) → ((w : ℕ) → touches_customer w c ≡ false)
    → IsSoundDevice r → IsRowOf r (c ∷ C) → AreBooksOf (put_row b (row.Device r)) (c ∷ C)
device_follows b r c C s books in_d order apart none sound_r is = record {
  order = order;
  devices = put_all (λ d o. IsSlotOf o d (c ∷ C)) b.devices r.device (Some r) in_d.0 (omega (arith, s.placed.device_count)) (refl, sound_r, is)
      (λ d other. slots.other_devices (device_at b d) d C c (apart d other) (books.devices d));
  customers = λ w. slots.other_customers (customer_at b w) w C c (none w) (books.customers w);
}

customer_follows : (b : Books) (r : CustomerRow) (c : Commit) (C : List Commit) → AreSound b → AreBooksOf b C → IsCustomer r.customer → InOrder (c ∷ C)
    → ((w : ℕ) → (w ≡ r.customer → ⊥) → touches_customer w c ≡ false) → ((d : ℕ) → touches_device d c ≡ false)
    → IsSoundCustomer r → IsCustomerOf r (c ∷ C) → AreBooksOf (put_row b (row.Customer r)) (c ∷ C)
customer_follows b r c C s books in_w order apart none sound_r is = record {
  order = order;
  devices = λ d. slots.other_devices (device_at b d) d C c (none d) (books.devices d);
  customers = put_all (λ w o. IsCustomerSlotOf o w (c ∷ C)) b.customers r.customer (Some r) in_w.0 (omega (arith, s.placed.customer_count)) (refl, sound_r, is)
      (λ w other. slots.other_customers (customer_at b w) w C c (apart w other) (books.customers w));
}

-- a number that is another's
apart_from : (e d : ℕ) → (d ≡ e → ⊥) → (e == d) ≡ false
apart_from e d other = ne_eqb e d (λ same. other (sym same))

pub row_of : (b : Books) (C : List Commit) (d : ℕ) (r : DeviceRow) → AreBooksOf b C → device_at b d ≡ Some r → IsRowOf r C
row_of b C d r books at = let slot : IsSlotOf (Some r) d C = subst (λ o. IsSlotOf o d C) at (books.devices d) in slot.2

pub customer_in_books : (b : Books) (C : List Commit) (w : ℕ) (r : CustomerRow) → AreBooksOf b C → customer_at b w ≡ Some r → IsCustomerOf r C
customer_in_books b C w r books at = let slot : IsCustomerSlotOf (Some r) w C = subst (λ o. IsCustomerSlotOf o w C) at (books.customers w) in slot.2

-- == customers ==

opened_follows : (b : Books) (C : List Commit) (w : ℕ) → AreSound b → AreBooksOf b C → IsCustomer w → (o : Option CustomerRow) → customer_at b w ≡ o → FollowsCommits b C (opened_act w o)
opened_follows b C w s books in_w None at =
    let slot : IsCustomerSlotOf None w C = subst (λ o. IsCustomerSlotOf o w C) at (books.customers w) in
    customer_follows b (opened_row w) (Opened w) C s books in_w (in_order.opened w C books.order slot) (λ v other. apart_from w v other) (λ d. refl) (sound.opened w) (opening w C books.order slot)
opened_follows b C w s books in_w (Some r) at = tt

flagged_follows : (b : Books) (C : List Commit) (w : ℕ) (flag : Bool) → AreSound b → AreBooksOf b C → (o : Option CustomerRow) → customer_at b w ≡ o → FollowsCommits b C (flagged_act w flag o)
flagged_follows b C w flag s books None at = tt
flagged_follows b C w flag s books (Some r) at =
    let found = found_customer b w r s at in
    let is = customer_in_books b C w r books at in
    subst (λ v. AreBooksOf (put_row b (row.Customer (record r { suspended = flag }))) (Flagged v flag ∷ C)) found.0.customer
    (customer_follows b (record r { suspended = flag }) (Flagged r.customer flag) C s books (subst IsCustomer (sym found.0.customer) found.1) (in_order.flagged r C flag books.order is) (λ v other. apart_from r.customer v other) (λ d. refl) (sound.flagged r flag found.0.sound) (flagging r C flag is))

deposited_follows : (b : Books) (C : List Commit) (w receipt amount : ℕ) → AreSound b → AreBooksOf b C → (o : Option CustomerRow) → customer_at b w ≡ o → FollowsCommits b C (deposited_act w receipt amount o)
deposited_follows b C w receipt amount s books None at = tt
deposited_follows b C w receipt amount s books (Some r) at = go (deposit_answer (r.receipt, r.amount) r.deposits receipt amount) refl
  where
    go : (a : Result (Option ℕ) CentreRefusal) → deposit_answer (r.receipt, r.amount) r.deposits receipt amount ≡ a → FollowsCommits b C (taken_act w receipt amount r (deposited_row r receipt amount a))
    go (Err x) h = tt
    go (Ok None) h = tt
    go (Ok (Some after)) h =
        let found = found_customer b w r s at in
        let is = customer_in_books b C w r books at in
        let next : CustomerRow = record r { deposits = after; receipt = receipt; amount = amount } in
        subst (λ v. AreBooksOf (put_row b (row.Customer next)) (Deposited v receipt amount ∷ C)) found.0.customer
        (customer_follows b next (Deposited r.customer receipt amount) C s books (subst IsCustomer (sym found.0.customer) found.1) (in_order.deposited r C receipt amount after books.order is h) (λ v other. apart_from r.customer v other) (λ d. refl) (sound.deposited r receipt amount after found.0.sound h) (depositing r C receipt amount after is h))

-- == devices ==

registered_follows : (b : Books) (C : List Commit) (d origin : ℕ) (key : List ℕ) → AreSound b → AreBooksOf b C → IsDevice d → (o : Option DeviceRow) → device_at b d ≡ o → FollowsCommits b C (registered_act d origin key o)
registered_follows b C d origin key s books in_d None at =
    let slot : IsSlotOf None d C = subst (λ o. IsSlotOf o d C) at (books.devices d) in
    device_follows b (registered_row d origin key) (Registered d origin key) C s books in_d (in_order.registered d origin key C books.order slot) (λ e other. apart_from d e other) (λ w. refl) (sound.registered d origin key) (registering d origin key C books.order slot)
registered_follows b C d origin key s books in_d (Some r) at = tt

settled_follows : (b : Books) (C : List Commit) (d : ℕ) (bytes : List ℕ) (q : DoneMsg) → AreSound b → AreBooksOf b C → (o : Option DeviceRow) → device_at b d ≡ o → FollowsCommits b C (done_act bytes q o)
settled_follows b C d bytes q s books None at = tt
settled_follows b C d bytes q s books (Some r) at = keyed (has_code r.key bytes)
  where
    settle : (a : Result (Option ℕ) CentreRefusal) → settle_answer r.settled r.ruled q.number ≡ a → FollowsCommits b C (settled_act r q.number (settled_row r a))
    settle (Err x) h = tt
    settle (Ok None) h = tt
    settle (Ok (Some now)) h =
        let found = found_device b d r s at in
        let is = row_of b C d r books at in
        let number : now ≡ q.number = settled_number r.settled r.ruled q.number now h in
        subst (λ n. AreBooksOf (put_row b (row.Device (record r { settled = now }))) (Settled r.device n ∷ C)) number
        (device_follows b (record r { settled = now }) (Settled r.device now) C s books (subst IsDevice (sym found.0.device) found.1) (in_order.settled r C q.number now books.order is h) (λ e other. apart_from r.device e other) (λ w. refl) (sound.settled r q.number now found.0.sound h) (settling r C q.number now found.0.sound is h))

    keyed : (t : Bool) → FollowsCommits b C (cond t (settled_act r q.number (settled_row r (settle_answer r.settled r.ruled q.number))) (Refuse no.BadCode))
    keyed true = settle (settle_answer r.settled r.ruled q.number) refl
    keyed false = tt

-- == a ruling ==

-- the ruling on bytes that read as a Request of the device
pub ruled_follows : (b : Books) (C : List Commit) (r : DeviceRow) (bytes : List ℕ) → AreSound b → AreBooksOf b C → device_at b r.device ≡ Some r → IsBytes bytes → read bytes ≡ Ok (m.Request (request_in bytes)) → has_code r.key bytes ≡ true
    → (request_in bytes).device ≡ r.device → (request_in bytes).number ≡ r.ruled + 1
    → AreBooksOf (put_row b (row.Device (ruled_in (in_books b) r (request_in bytes) bytes))) (Ruled r.device (request_in bytes).number (verdict_in (in_books b) r (request_in bytes)) bytes ∷ C)
ruled_follows b C r bytes s books at in_bytes reads own same next =
    let q = request_in bytes in
    let found = found_device b r.device r s at in
    let is = row_of b C r.device r books at in
    let paid = pays b C r q s books at same in
    let is_next : IsNext r bytes = record { reads = reads; code = code_has r.key bytes own; device = same; number = next } in
    device_follows b (ruled_in (in_books b) r q bytes) (Ruled r.device q.number (verdict_in (in_books b) r q) bytes) C s books found.1
    (in_order.ruled r (payer_in (in_books b) r q) (own_left (in_books b) r) bytes C (verdict_in (in_books b) r q) books.order is is_next paid refl)
    (λ e other. apart_from r.device e other) (λ w. refl)
    (ruled_sound_row b r q bytes s at same in_bytes reads own next)
    (ruling_keeps r (payer_in (in_books b) r q) (own_left (in_books b) r) bytes C found.0.sound is same next paid (verdict_in (in_books b) r q) refl)

requested_follows : (b : Books) (C : List Commit) (q : Request) (bytes : List ℕ) → AreSound b → AreBooksOf b C → IsBytes bytes → read bytes ≡ Ok (m.Request q) → request_in bytes ≡ q
    → (o : Option DeviceRow) → device_at b q.device ≡ o → FollowsCommits b C (request_act bytes q o (in_books b))
requested_follows b C q bytes s books in_bytes reads is None at = tt
requested_follows b C q bytes s books in_bytes reads is (Some r) at = keyed (has_code r.key bytes) refl
  where
    again : (o : Option (Verdict × List ℕ)) → FollowsCommits b C (repeated_act r o)
    again None = tt
    again (Some x) = tt

    turn : has_code r.key bytes ≡ true → (a : Result Bool CentreRefusal) → turn_answer r.ruled r.request q.number bytes ≡ a → FollowsCommits b C (turn_act bytes q r (in_books b) a)
    turn own (Err x) h = tt
    turn own (Ok true) h = again (ruling_in r)
    turn own (Ok false) h =
        let same : q.device ≡ r.device = sym (found_device b q.device r s at).0.device in
        let next = turn_next r.ruled r.request q.number bytes h in
        subst (λ x. AreBooksOf (put_row b (row.Device (ruled_in (in_books b) r x bytes))) (Ruled r.device x.number (verdict_in (in_books b) r x) bytes ∷ C)) is
        (ruled_follows b C r bytes s books (ap (device_at b) (sym same) ∙ at) in_bytes (reads ∙ ap (λ x. Ok (m.Request x)) (sym is)) own (ap (λ (x : Request). x.device) is ∙ same) (ap (λ (x : Request). x.number) is ∙ next))

    keyed : (t : Bool) → has_code r.key bytes ≡ t → FollowsCommits b C (cond t (turn_act bytes q r (in_books b) (turn_answer r.ruled r.request q.number bytes)) (Refuse no.BadCode))
    keyed true own = turn own (turn_answer r.ruled r.request q.number bytes) refl
    keyed false own = tt

taken_follows : (b : Books) (C : List Commit) (bytes : List ℕ) → AreSound b → AreBooksOf b C → IsBytes bytes → (x : Result Message Unread) → read bytes ≡ x → FollowsCommits b C (message_act bytes (in_books b) x)
unfolding request_in
taken_follows b C bytes s books in_bytes (Ok (m.Request q)) reads = requested_follows b C q bytes s books in_bytes reads (ap request_or_none reads) (device_at b q.device) refl
taken_follows b C bytes s books in_bytes (Ok (m.Done q)) reads = settled_follows b C q.device bytes q s books (device_at b q.device) refl
taken_follows b C bytes s books in_bytes (Ok (m.Reply q)) reads = tt
taken_follows b C bytes s books in_bytes (Ok (m.Debit q)) reads = tt
taken_follows b C bytes s books in_bytes (Ok (m.Release q)) reads = tt
taken_follows b C bytes s books in_bytes (Err x) reads = tt

pub follows : ActsFollow
follows = record {
  none = record {
    order = tt;
    devices = λ d. subst (λ o. IsSlotOf o d []) (sym (nothing_at 8 d)) refl;
    customers = λ w. subst (λ o. IsCustomerSlotOf o w []) (sym (nothing_at 64 w)) refl;
  };
  each = λ b C s books. record {
    registered = λ d origin key in_d. registered_follows b C d origin key s books in_d (device_at b d) refl;
    opened = λ w in_w. opened_follows b C w s books in_w (customer_at b w) refl;
    flagged = λ w flag. flagged_follows b C w flag s books (customer_at b w) refl;
    deposited = λ w receipt amount. deposited_follows b C w receipt amount s books (customer_at b w) refl;
    taken = λ bytes in_bytes. taken_follows b C bytes s books in_bytes (read bytes) refl;
  };
}
