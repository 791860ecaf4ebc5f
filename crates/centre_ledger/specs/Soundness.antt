-- What holds of each row that the centre keeps. Amounts are in mills.
use Rattle.std.specs.Prelude.{◌≡◌, ℕ, ◌+◌, ◌^◌, ◌<◌, ◌≤◌, ◌↔◌, true, List, [], Option, Some, None, IfSome, Ok}
use Rattle.bench_base.specs.declared.{words.Kind.TheVariants.Reset, words.Verdict.Verdict}
use Rattle.bench_base.specs.Kinds.{same_kind, empties, is_granted}
use Rattle.bench_base.specs.Ranges.{IsCustomer}
use Rattle.psd_wire.specs.declared.{message.Request.Request, message.ReplyMsg.ReplyMsg}
use Rattle.psd_wire.specs.declared.message.Message.TheVariants as m
use Rattle.psd_wire.specs.Grammar.{IsWhole, HasCode, spell, read}
use Rattle.ledger_terms.specs.Requests.{request_in}
use Rattle.ledger_terms.specs.Rulings.{payer, verdict_by}
use Rattle.centre_ledger.specs.declared.{rows.DeviceRow.DeviceRow, rows.CustomerRow.CustomerRow}
use Rattle.centre_ledger.specs.Rows.{enrolled_in, account}

-- the last Request and the Reply to it, under the device's key
pub record IsRuling (r : DeviceRow) (q : Request) (p : ReplyMsg) : Type 0 where
  pub request : r.request ≡ spell (m.Request q) r.key
  pub request_whole : IsWhole (m.Request q)
  pub request_device : q.device ≡ r.device
  pub request_number : q.number ≡ r.ruled
  pub reply : r.reply ≡ spell (m.Reply p) r.key
  pub reply_whole : IsWhole (m.Reply p)
  pub reply_device : p.device ≡ r.device
  pub reply_number : p.number ≡ r.ruled
  pub kind : q.kind ≡ p.kind
  pub version : q.version ≡ p.version
  -- without the ruling in flight, what is acknowledged is not below 0
  pub buys : r.ruled ≡ r.settled + 1 → is_granted p.verdict ≡ true → same_kind p.kind Reset ≡ true → r.returns + p.amount ≤ r.buys
  pub returns : r.ruled ≡ r.settled + 1 → is_granted p.verdict ≡ true → empties p.kind ≡ true → p.amount ≤ r.returns

pub record IsSoundDevice (r : DeviceRow) : Type 0 where
  -- a device that was never enrolled bought nothing
  pub registered : enrolled_in r ≡ None → r.buys ≡ 0
  pub enrolled : IfSome (enrolled_in r) IsCustomer
  pub settled_le : r.settled ≤ r.ruled
  pub ruled_le : r.ruled ≤ r.settled + 1
  pub returns_le : r.returns ≤ r.buys
  pub limit : r.buys < 2 ^ 64
  pub unruled : r.ruled ≡ 0 → (r.request ≡ []) × (r.reply ≡ [])
  pub ruling : 1 ≤ r.ruled → (q : Request) × (p : ReplyMsg) × IsRuling r q p

pub record IsSoundCustomer (r : CustomerRow) : Type 0 where
  pub limit : r.deposits ≤ 1000000000000000
  pub last : r.amount ≤ 1000000000
  pub amount_le : r.amount ≤ r.deposits
  -- with the first receipt come the first deposit and its amount
  pub receipt : (1 ≤ r.receipt) ↔ (1 ≤ r.deposits)
  pub amount : (1 ≤ r.amount) ↔ (1 ≤ r.deposits)

-- the bytes are the device's next Request, under its key
pub record IsNext (r : DeviceRow) (note : List ℕ) : Type 0 where
  pub reads : read note ≡ Ok (m.Request (request_in note))
  pub code : HasCode note r.key
  pub device : (request_in note).device ≡ r.device
  pub number : (request_in note).number ≡ r.ruled + 1

-- the row, where there is one, is of the customer who pays
abbrev pub IsPayer : DeviceRow → Request → Option CustomerRow → Type 0
IsPayer r q None = Unit {0}
IsPayer r q (Some c) = (c.customer ≡ payer q (enrolled_in r)) × IsCustomer c.customer

-- the verdict is the one by the rows
abbrev pub IsVerdict : DeviceRow → ℕ → Request → Verdict → Type 0
IsVerdict r balance q v = (o : Option CustomerRow) × IsPayer r q o × (v ≡ (verdict_by (account r o balance) q).0)
