-- Which rows there are, that the commit of each call comes in order, and that each new row meets the conditions of a row.
use Rattle.std.proofs.Common.{◌≡◌, ℕ, false, List, ◌∷◌, Option, Some, None, Ok, refl, sym, ap, ◌∙◌, true≢false, arith}
use Rattle.std.specs.Prelude.{is_some}
use Rattle.bench_base.specs.declared.{words.Verdict.Verdict, words.Node.TheVariants.Centre, ledger.Commit.Commit, ledger.Commit.TheVariants.Registered, ledger.Commit.TheVariants.Opened, ledger.Commit.TheVariants.Deposited, ledger.Commit.TheVariants.Flagged, ledger.Commit.TheVariants.Ruled, ledger.Commit.TheVariants.Settled}
use Rattle.bench_base.specs.Nodes.{node_of, same_node}
use Rattle.bench_base.specs.Ranges.{IsWord}
use Rattle.bench_base.specs.Table.{IsBytes}
use Rattle.bench_base.proofs.Facts.{some_by}
use Rattle.psd_wire.specs.declared.message.Message.TheVariants as m
use Rattle.psd_wire.proofs.Readings.{spell_back}
use Rattle.ledger_terms.specs.Requests.{request_in}
use Rattle.ledger_terms.specs.Centres.{registered, enrolled, opened, suspended, balance}
use Rattle.ledger_terms.specs.Rulings.{payer, own_customer, verdict_by}
use Rattle.centre_ledger.specs.declared.{rows.DeviceRow.DeviceRow, rows.CustomerRow.CustomerRow}
use Rattle.centre_ledger.specs.Answers.{settle_answer, deposit_answer}
use Rattle.centre_ledger.specs.Order.{InOrder}
use Rattle.centre_ledger.specs.Soundness.{IsSoundDevice, IsSoundCustomer, IsNext, IsVerdict}
use Rattle.centre_ledger.specs.Rows.{account, enrolled_in, is_suspended, ruled_row}
use Rattle.centre_ledger.specs.Records.{IsRowOf, IsCustomerOf, registered_row, PaysBy}
use Rattle.centre_ledger.specs.Laws.{touches_device, touches_customer, IsSlotOf, IsCustomerSlotOf, SlotLaws, OrderLaws, SoundLaws, PayingByRows, BalanceByRows}
use Rattle.centre_ledger.proofs.Keeping.{ruled_sound}
use Rattle.centre_ledger.proofs.Passed.{deposit_taken}
use Rattle.centre_ledger.proofs.Following.{ruling, balancing, no_money, settles, other_devices, other_customers}

-- == which rows there are ==

device_there : (o : Option DeviceRow) (d : ℕ) (C : List Commit) → IsSlotOf o d C → is_some o ≡ is_some (registered d C)
device_there None d C h = ap is_some (sym h)
device_there (Some r) d C h = ap is_some (sym h.2.registered) ∙ ap (λ e. is_some (registered e C)) h.0

customer_there : (o : Option CustomerRow) (c : ℕ) (C : List Commit) → IsCustomerSlotOf o c C → is_some o ≡ opened c C
customer_there None c C h = sym h
customer_there (Some r) c C h = sym h.2.opened ∙ ap (λ e. opened e C) h.0

unregistered : (d : ℕ) (C : List Commit) (c : Commit) → touches_device d c ≡ false → registered d C ≡ None → registered d (c ∷ C) ≡ None
unregistered d C (Registered e origin key) t h = rw t h
unregistered d C _ t h = h

unopened : (w : ℕ) (C : List Commit) (c : Commit) → touches_customer w c ≡ false → opened w C ≡ false → opened w (c ∷ C) ≡ false
unopened w C (Opened e) t h = rw t h
unopened w C _ t h = h

other_slots : (o : Option DeviceRow) (d : ℕ) (C : List Commit) (c : Commit) → touches_device d c ≡ false → IsSlotOf o d C → IsSlotOf o d (c ∷ C)
other_slots None d C c t h = unregistered d C c t h
other_slots (Some r) d C c t h = (h.0, h.1, other_devices r C c (ap (λ e. touches_device e c) h.0 ∙ t) h.2)

other_customer_slots : (o : Option CustomerRow) (w : ℕ) (C : List Commit) (c : Commit) → touches_customer w c ≡ false → IsCustomerSlotOf o w C → IsCustomerSlotOf o w (c ∷ C)
other_customer_slots None w C c t h = unopened w C c t h
other_customer_slots (Some r) w C c t h = (h.0, h.1, other_customers r C c (ap (λ e. touches_customer e c) h.0 ∙ t) h.2)

pub slots : SlotLaws
slots = record {
  no_device = λ d. refl;
  no_customer = λ c. refl;
  device_there = device_there;
  customer_there = customer_there;
  other_devices = other_slots;
  other_customers = other_customer_slots;
}

-- == the order ==

others_in_order : (c : Commit) (C : List Commit) → same_node (node_of c) Centre ≡ false → InOrder C → InOrder (c ∷ C)
others_in_order (Registered d origin key) C h o = absurd (true≢false h)
others_in_order (Opened w) C h o = absurd (true≢false h)
others_in_order (Deposited w n a) C h o = absurd (true≢false h)
others_in_order (Flagged w s) C h o = absurd (true≢false h)
others_in_order (Ruled d n v note) C h o = absurd (true≢false h)
others_in_order (Settled d n) C h o = absurd (true≢false h)
others_in_order _ C h o = (tt, o)

ruled_in_order : (r : DeviceRow) (o : Option CustomerRow) (left : ℕ) (note : List ℕ) (C : List Commit) (v : Verdict) → InOrder C → IsRowOf r C → IsNext r note
    → PaysBy (request_in note) o left C → v ≡ (verdict_by (account r o left) (request_in note)).0 → InOrder (Ruled r.device (request_in note).number v note ∷ C)
ruled_in_order r o left note C v order is next pays says =
    let was = is.ruled in
    let n = next.number in
    let same = ruling r o left (request_in note) C is next.device pays in
    ((some_by (registered r.device C) (r.origin, r.key) is.registered, omega arith, says ∙ ap (λ (x : Verdict × ℕ). x.0) same), order)

deposited_in_order : (r : CustomerRow) (C : List Commit) (receipt amount after : ℕ) → InOrder C → IsCustomerOf r C
    → deposit_answer (r.receipt, r.amount) r.deposits receipt amount ≡ Ok (Some after) → InOrder (Deposited r.customer receipt amount ∷ C)
deposited_in_order r C n a after order is h =
    let was = is.deposits in
    let room = (deposit_taken (r.receipt, r.amount) r.deposits n a after h).room in
    ((is.opened, omega arith), order)

pub in_order : OrderLaws
in_order = record {
  registered = λ d origin key C order slot. (slot, order);
  opened = λ c C order slot. (slot, order);
  deposited = deposited_in_order;
  flagged = λ r C flag order is. (is.opened, order);
  ruled = ruled_in_order;
  settled = λ r C n now order is h. (some_by (registered r.device C) (r.origin, r.key) is.registered, order);
  others = others_in_order;
}

-- == the conditions of a row ==

registered_sound : (d origin : ℕ) (key : List ℕ) → IsSoundDevice (registered_row d origin key)
registered_sound d origin key = record {
  registered = λ none. refl;
  enrolled = tt;
  settled_le = omega arith;
  ruled_le = omega arith;
  returns_le = omega arith;
  limit = omega arith;
  unruled = λ h. (refl, refl);
  ruling = λ h. absurd (omega arith);
}

next_sound : (r : DeviceRow) (balance : ℕ) (note : List ℕ) (v : Verdict) → IsSoundDevice r → IsWord r.origin → IsBytes note → IsNext r note
    → IsVerdict r balance (request_in note) v → IsSoundDevice (ruled_row r v balance (request_in note) note)
next_sound r balance note v sound origin bytes next says =
    let back = spell_back (m.Request (request_in note)) r.key note refl bytes next.reads next.code in
    ruled_sound r v balance (request_in note) note sound origin back.0 back.1 next.device next.number says

settled_sound : (r : DeviceRow) (number now : ℕ) → IsSoundDevice r → settle_answer r.settled r.ruled number ≡ Ok (Some now) → IsSoundDevice (record r { settled = now })
settled_sound r number now sound h =
    let same = settles r.settled r.ruled number now h in
    record {
      registered = sound.registered;
      enrolled = sound.enrolled;
      settled_le = omega arith;
      ruled_le = omega arith;
      returns_le = sound.returns_le;
      limit = sound.limit;
      unruled = sound.unruled;
      ruling = λ one. let was = sound.ruling one in (
        was.0,
        was.1,
        record {
          request = was.2.request;
          request_whole = was.2.request_whole;
          request_device = was.2.request_device;
          request_number = was.2.request_number;
          reply = was.2.reply;
          reply_whole = was.2.reply_whole;
          reply_device = was.2.reply_device;
          reply_number = was.2.reply_number;
          kind = was.2.kind;
          version = was.2.version;
          buys = λ flies. absurd (omega arith);
          returns = λ flies. absurd (omega arith);
        },
      );
    }

deposited_sound : (r : CustomerRow) (receipt amount after : ℕ) → IsSoundCustomer r → deposit_answer (r.receipt, r.amount) r.deposits receipt amount ≡ Ok (Some after)
    → IsSoundCustomer (record r { deposits = after; receipt = receipt; amount = amount })
deposited_sound r n a after sound h =
    let is = deposit_taken (r.receipt, r.amount) r.deposits n a after h in
    let from_1 = is.from_1 in
    let most = is.most in
    let room = is.room in
    let sum = is.sum in
    let next = is.receipt in
    record {
      limit = omega arith;
      last = is.most;
      amount_le = omega arith;
      receipt = (λ x. omega arith, λ x. omega arith);
      amount = (λ x. omega arith, λ x. is.from_1);
    }

pub sound : SoundLaws
sound = record {
  registered = registered_sound;
  ruled = next_sound;
  settled = settled_sound;
  opened = λ c. record { limit = omega arith; last = omega arith; amount_le = omega arith; receipt = (λ x. x, λ x. x); amount = (λ x. x, λ x. x) };
  deposited = deposited_sound;
  flagged = λ r flag s. record { limit = s.limit; last = s.last; amount_le = s.amount_le; receipt = s.receipt; amount = s.amount };
}

-- == who pays ==

pays_suspended : (o : Option CustomerRow) (w : ℕ) (C : List Commit) → InOrder C → IsCustomerSlotOf o w C → suspended w C ≡ is_suspended o
pays_suspended None w C order slot = (no_money w C order slot).suspended
pays_suspended (Some c) w C order slot = ap (λ x. suspended x C) (sym slot.0) ∙ slot.2.suspended

pub paying : PayingByRows
paying r o q C order is device slot =
    let own : enrolled q.device C ≡ enrolled_in r = ap (λ d. enrolled d C) device ∙ is.enrolled in
    record {
      opened = ap (λ x. opened (payer q x) C) own ∙ sym (customer_there o (payer q (enrolled_in r)) C slot);
      suspended = ap (λ x. suspended (payer q x) C) own ∙ pays_suspended o (payer q (enrolled_in r)) C order slot;
      balance = ap (λ x. balance (own_customer x) C) own;
    }

pub left_is : BalanceByRows
left_is os w left C order customer rows is sum =
    let sums = balancing os w.customer C order customer rows in
    let bought = sums.0 in
    let returned = sums.1 in
    let had = is.deposits in
    omega arith
