-- What one commit does to the rows of the centre, and what they show. The lists of commits have the newest first.
use Rattle.std.specs.Prelude.{◌≡◌, ℕ, ◌+◌, Bool, false, List, [], ◌∷◌, Option, Some, None, Ok, ◌==◌, is_some, sum_by}
use Rattle.bench_base.specs.declared.{words.Verdict.Verdict, words.Node.TheVariants.Centre, ledger.Commit.Commit, ledger.Commit.TheVariants.Registered, ledger.Commit.TheVariants.Opened, ledger.Commit.TheVariants.Deposited, ledger.Commit.TheVariants.Flagged, ledger.Commit.TheVariants.Ruled, ledger.Commit.TheVariants.Settled}
use Rattle.bench_base.specs.Nodes.{node_of, same_node}
use Rattle.bench_base.specs.Ranges.{IsWord, IsCustomer}
use Rattle.bench_base.specs.Table.{IsBytes}
use Rattle.psd_wire.specs.declared.{message.Request.Request, message.ReplyMsg.ReplyMsg}
use Rattle.psd_wire.specs.declared.message.Message.TheVariants as m
use Rattle.psd_wire.specs.Grammar.{read}
use Rattle.ledger_terms.specs.Requests.{request_in}
use Rattle.ledger_terms.specs.Centres.{registered, opened, device_numbers, customer_bought, customer_returned, balance}
use Rattle.ledger_terms.specs.InFlight.{in_flight, acknowledged_resets, acknowledged_refunds}
use Rattle.ledger_terms.specs.Rulings.{verdict, verdict_by, payer, own_customer, stored_reply, reply_note}
use Rattle.centre_ledger.specs.declared.{rows.DeviceRow.DeviceRow, rows.CustomerRow.CustomerRow}
use Rattle.centre_ledger.specs.Acts.{verdict_in, ruled_in, standing_of}
use Rattle.centre_ledger.specs.Answers.{settle_answer, deposit_answer}
use Rattle.centre_ledger.specs.Order.{InOrder}
use Rattle.centre_ledger.specs.Soundness.{IsSoundDevice, IsSoundCustomer, IsNext, IsVerdict}
use Rattle.centre_ledger.specs.Rows.{account, enrolled_in, ruled_row, buys_in, returns_in}
use Rattle.centre_ledger.specs.Plans.{in_commits, standing_after}
use Rattle.centre_ledger.specs.Records.{IsRowOf, IsCustomerOf, registered_row, opened_row, last_ruling, device_row_with, PaysBy}
use Rattle.centre_ledger.specs.Standing.{ruling_in, flight_in, flight_told, flight_shown, resets_in, refunds_in}

-- whether the commit is one of the centre about the device
abbrev pub touches_device : ℕ → Commit → Bool
touches_device d (Registered e origin key) = e == d
touches_device d (Ruled e n v note) = e == d
touches_device d (Settled e n) = e == d
touches_device d _ = false

-- whether the commit is one about the customer
abbrev pub touches_customer : ℕ → Commit → Bool
touches_customer c (Opened e) = e == c
touches_customer c (Deposited e receipt amount) = e == c
touches_customer c (Flagged e flag) = e == c
touches_customer c _ = false

-- the row of a device, or none where it isn't registered
abbrev pub IsSlotOf : Option DeviceRow → ℕ → List Commit → Type 0
IsSlotOf None d C = registered d C ≡ None
IsSlotOf (Some r) d C = (r.device ≡ d) × IsSoundDevice r × IsRowOf r C

abbrev pub AreSlots : List (Option DeviceRow) → List ℕ → List Commit → Type 0
AreSlots [] [] C = Unit {0}
AreSlots (o ∷ os) (d ∷ ds) C = IsSlotOf o d C × AreSlots os ds C
AreSlots _ _ C = ⊥

-- the row of a customer, or none where it isn't open
abbrev pub IsCustomerSlotOf : Option CustomerRow → ℕ → List Commit → Type 0
IsCustomerSlotOf None c C = opened c C ≡ false
IsCustomerSlotOf (Some r) c C = (r.customer ≡ c) × IsSoundCustomer r × IsCustomerOf r C

-- == one commit and the row of a device ==

-- a device that is registered has the row of its Registered, whatever the others did before
abbrev pub RegisteringStarts : Type 0
RegisteringStarts = (d origin : ℕ) (key : List ℕ) (C : List Commit) → InOrder C → registered d C ≡ None
    → IsRowOf (registered_row d origin key) (Registered d origin key ∷ C)

-- the row after a ruling is that of the commits and the Ruled
abbrev pub RulingKeeps : Type 0
RulingKeeps = (r : DeviceRow) (o : Option CustomerRow) (left : ℕ) (note : List ℕ) (C : List Commit)
    → IsSoundDevice r → IsRowOf r C → (request_in note).device ≡ r.device → (request_in note).number ≡ r.ruled + 1
    → PaysBy (request_in note) o left C
    → (v : Verdict) → v ≡ (verdict_by (account r o left) (request_in note)).0
    → IsRowOf (ruled_row r v left (request_in note) note) (Ruled r.device (request_in note).number v note ∷ C)

-- where a Done settles a ruling, the new row is that of the commits and the Settled
abbrev pub SettlingKeeps : Type 0
SettlingKeeps = (r : DeviceRow) (C : List Commit) (number now : ℕ) → IsSoundDevice r → IsRowOf r C
    → settle_answer r.settled r.ruled number ≡ Ok (Some now)
    → IsRowOf (record r { settled = now }) (Settled r.device now ∷ C)

-- a commit about another device, or of another node, leaves the row
abbrev pub OtherDevicesKeep : Type 0
OtherDevicesKeep = (r : DeviceRow) (C : List Commit) (c : Commit) → touches_device r.device c ≡ false
    → IsRowOf r C → IsRowOf r (c ∷ C)

pub record DeviceRows : Type 0 where
  pub registered : RegisteringStarts
  pub ruled : RulingKeeps
  pub settled : SettlingKeeps
  pub others : OtherDevicesKeep

-- == one commit and the row of a customer ==

abbrev pub OpeningStarts : Type 0
OpeningStarts = (c : ℕ) (C : List Commit) → InOrder C → opened c C ≡ false → IsCustomerOf (opened_row c) (Opened c ∷ C)

-- where a deposit is new, the new row is that of the commits and the Deposited
abbrev pub DepositingKeeps : Type 0
DepositingKeeps = (r : CustomerRow) (C : List Commit) (receipt amount after : ℕ) → IsCustomerOf r C
    → deposit_answer (r.receipt, r.amount) r.deposits receipt amount ≡ Ok (Some after)
    → IsCustomerOf (record r { deposits = after; receipt = receipt; amount = amount })
    (Deposited r.customer receipt amount ∷ C)

abbrev pub FlaggingKeeps : Type 0
FlaggingKeeps = (r : CustomerRow) (C : List Commit) (flag : Bool) → IsCustomerOf r C
    → IsCustomerOf (record r { suspended = flag }) (Flagged r.customer flag ∷ C)

abbrev pub OtherCustomersKeep : Type 0
OtherCustomersKeep = (r : CustomerRow) (C : List Commit) (c : Commit) → touches_customer r.customer c ≡ false
    → IsCustomerOf r C → IsCustomerOf r (c ∷ C)

pub record CustomerRows : Type 0 where
  pub opened : OpeningStarts
  pub deposited : DepositingKeeps
  pub flagged : FlaggingKeeps
  pub others : OtherCustomersKeep

-- == which rows there are ==

pub record SlotLaws : Type 0 where
  -- at the start there is no row
  pub no_device : (d : ℕ) → IsSlotOf None d []
  pub no_customer : (c : ℕ) → IsCustomerSlotOf None c []
  -- there is a row of a device if and only if it is registered, and of a customer if and only if it is open
  pub device_there : (o : Option DeviceRow) (d : ℕ) (C : List Commit) → IsSlotOf o d C → is_some o ≡ is_some (registered d C)
  pub customer_there : (o : Option CustomerRow) (c : ℕ) (C : List Commit) → IsCustomerSlotOf o c C
      → is_some o ≡ opened c C
  -- and so it stays, after a commit about another or of another node
  pub other_devices : (o : Option DeviceRow) (d : ℕ) (C : List Commit) (c : Commit) → touches_device d c ≡ false
      → IsSlotOf o d C → IsSlotOf o d (c ∷ C)
  pub other_customers : (o : Option CustomerRow) (w : ℕ) (C : List Commit) (c : Commit) → touches_customer w c ≡ false
      → IsCustomerSlotOf o w C → IsCustomerSlotOf o w (c ∷ C)

-- == the commit of each call comes in order, from what the call's refusals leave ==

pub record OrderLaws : Type 0 where
  pub registered : (d origin : ℕ) (key : List ℕ) (C : List Commit) → InOrder C → IsSlotOf None d C
      → InOrder (Registered d origin key ∷ C)
  pub opened : (c : ℕ) (C : List Commit) → InOrder C → IsCustomerSlotOf None c C → InOrder (Opened c ∷ C)
  pub deposited : (r : CustomerRow) (C : List Commit) (receipt amount after : ℕ) → InOrder C → IsCustomerOf r C
      → deposit_answer (r.receipt, r.amount) r.deposits receipt amount ≡ Ok (Some after)
      → InOrder (Deposited r.customer receipt amount ∷ C)
  pub flagged : (r : CustomerRow) (C : List Commit) (flag : Bool) → InOrder C → IsCustomerOf r C
      → InOrder (Flagged r.customer flag ∷ C)
  pub ruled : (r : DeviceRow) (o : Option CustomerRow) (left : ℕ) (note : List ℕ) (C : List Commit) (v : Verdict)
      → InOrder C → IsRowOf r C → IsNext r note → PaysBy (request_in note) o left C
      → v ≡ (verdict_by (account r o left) (request_in note)).0
      → InOrder (Ruled r.device (request_in note).number v note ∷ C)
  pub settled : (r : DeviceRow) (C : List Commit) (number now : ℕ) → InOrder C → IsRowOf r C
      → settle_answer r.settled r.ruled number ≡ Ok (Some now) → InOrder (Settled r.device now ∷ C)
  -- the other nodes' commits leave the order
  pub others : (c : Commit) (C : List Commit) → same_node (node_of c) Centre ≡ false → InOrder C → InOrder (c ∷ C)

-- == each new row meets the conditions of a row ==

pub record SoundLaws : Type 0 where
  pub registered : (d origin : ℕ) (key : List ℕ) → IsSoundDevice (registered_row d origin key)
  pub ruled : (r : DeviceRow) (balance : ℕ) (note : List ℕ) (v : Verdict) → IsSoundDevice r → IsWord r.origin → IsBytes note
      → IsNext r note → IsVerdict r balance (request_in note) v
      → IsSoundDevice (ruled_row r v balance (request_in note) note)
  pub settled : (r : DeviceRow) (number now : ℕ) → IsSoundDevice r → settle_answer r.settled r.ruled number ≡ Ok (Some now)
      → IsSoundDevice (record r { settled = now })
  pub opened : (c : ℕ) → IsSoundCustomer (opened_row c)
  pub deposited : (r : CustomerRow) (receipt amount after : ℕ) → IsSoundCustomer r
      → deposit_answer (r.receipt, r.amount) r.deposits receipt amount ≡ Ok (Some after)
      → IsSoundCustomer (record r { deposits = after; receipt = receipt; amount = amount })
  pub flagged : (r : CustomerRow) (flag : Bool) → IsSoundCustomer r → IsSoundCustomer (record r { suspended = flag })

-- == what the rows show ==

-- the verdict by the rows is the one that follows from the commits
abbrev pub RulingByRows : Type 0
RulingByRows = (r : DeviceRow) (o : Option CustomerRow) (left : ℕ) (q : Request) (C : List Commit) → IsRowOf r C
    → q.device ≡ r.device → PaysBy q o left C → verdict_by (account r o left) q ≡ verdict C q

-- the sums over the rows of all devices are those of the commits
abbrev pub BalancingByRows : Type 0
BalancingByRows = (os : List (Option DeviceRow)) (c : ℕ) (C : List Commit) → InOrder C → IsCustomer c
    → AreSlots os device_numbers C
    → (sum_by (buys_in c) os ≡ customer_bought c C) × (sum_by (returns_in c) os ≡ customer_returned c C)

-- the row of the customer who pays, and the balance of the device's own, say what a ruling asks of the commits
abbrev pub PayingByRows : Type 0
PayingByRows = (r : DeviceRow) (o : Option CustomerRow) (q : Request) (C : List Commit) → InOrder C → IsRowOf r C → q.device ≡ r.device
    → IsCustomerSlotOf o (payer q (enrolled_in r)) C → PaysBy q o (balance (own_customer (enrolled_in r)) C) C

-- the balance by the rows of a customer and of all devices is that of the commits
abbrev pub BalanceByRows : Type 0
BalanceByRows = (os : List (Option DeviceRow)) (w : CustomerRow) (left : ℕ) (C : List Commit) → InOrder C → IsCustomer w.customer
    → AreSlots os device_numbers C → IsCustomerOf w C
    → left + sum_by (buys_in w.customer) os ≡ w.deposits + sum_by (returns_in w.customer) os → left ≡ balance w.customer C

-- the verdict and the Reply by the row of the commits are those that the ledger plans
abbrev pub RulingByCommits : Type 0
RulingByCommits = (C : List Commit) (q : Request) (x : ℕ × List ℕ) (bytes : List ℕ) → InOrder C → registered q.device C ≡ Some x
    → (verdict_in (in_commits C) (device_row_with q.device C x) q ≡ (verdict C q).0)
    × ((ruled_in (in_commits C) (device_row_with q.device C x) q bytes).reply ≡ reply_note C q)

pub record Rulings : Type 0 where
  pub ruled : RulingByRows
  pub planned : RulingByCommits
  pub paid : PayingByRows
  pub balanced : BalancingByRows
  pub left : BalanceByRows

-- the row of a device shows what the commits show: what is acknowledged, what is in flight, and what is answered again
pub record Stands (r : DeviceRow) (C : List Commit) : Type 0 where
  pub last : last_ruling r.device C ≡ ruling_in r
  pub in_flight : flight_shown (in_flight r.device C) ≡ flight_told (flight_in r)
  pub resets : acknowledged_resets r.device C ≡ resets_in r
  pub refunds : acknowledged_refunds r.device C ≡ refunds_in r
  pub standing : standing_after r.device C ≡ standing_of r
  -- the verdict of a repeat is that of the Reply that is kept and sent again
  pub repeated : (p : ReplyMsg) → read r.reply ≡ Ok (m.Reply p)
      → (last_ruling r.device C ≡ Some (p.verdict, r.request)) × (stored_reply r.device C ≡ Some r.reply)

abbrev pub StandingByRows : Type 0
StandingByRows = (r : DeviceRow) (C : List Commit) → InOrder C → IsSoundDevice r → IsRowOf r C → Stands r C
