-- What a device's row shows of its last ruling, of the one in flight, and of what is acknowledged. Amounts are in mills.
use Rattle.std.specs.Prelude.{ℕ, ◌-◌, List, Option, Some, None, Result, Ok, nat_lt, if◌then◌else◌}
use Rattle.bench_base.specs.declared.{words.Kind.Kind, words.Verdict.Verdict, refusals.Unread.Unread}
use Rattle.bench_base.specs.Kinds.{is_granted}
use Rattle.psd_wire.specs.declared.{message.Request.Request, message.Message.Message}
use Rattle.psd_wire.specs.declared.message.Message.TheVariants as m
use Rattle.psd_wire.specs.Grammar.{read}
use Rattle.ledger_terms.specs.Requests.{request_in}
use Rattle.ledger_terms.specs.Sums.{adds, takes}
use Rattle.centre_ledger.specs.declared.rows.DeviceRow.{DeviceRow}

-- the verdict in what was read as a Reply, with the Request
abbrev pub ruling_read : Result Message Unread → List ℕ → Option (Verdict × List ℕ)
ruling_read (Ok (m.Reply p)) request = Some (p.verdict, request)
ruling_read _ request = None

-- verdict and Request of the last ruling: the verdict is in the Reply that is kept
unfoldable pub ruling_in : DeviceRow → Option (Verdict × List ℕ)
ruling_in r = ruling_read (read r.reply) r.request

-- what was read as a Reply, with the Request as it was granted: with the amount of the Reply
abbrev pub granted_read : Result Message Unread → List ℕ → Option (Verdict × Request)
granted_read (Ok (m.Reply p)) request = Some (p.verdict, record (request_in request) { amount = p.amount })
granted_read _ request = None

-- the last ruling as it was granted
unfoldable pub granted_in : DeviceRow → Option (Verdict × Request)
granted_in r = granted_read (read r.reply) r.request

-- the last ruling is in flight until it is settled
abbrev pub flight_in : DeviceRow → Option (Verdict × Request)
flight_in r = if nat_lt r.settled r.ruled then granted_in r else None

-- what f gives of a ruling, and otherwise this
abbrev pub by_ruling : {A : Type 0} → A → (Verdict → Request → A) → Option (Verdict × Request) → A
by_ruling otherwise f None = otherwise
by_ruling otherwise f (Some x) = f x.0 x.1

-- kind and granted amount, as they are reported
abbrev pub told_of : Verdict → Request → Option (Kind × ℕ)
told_of v q = Some (q.kind, if is_granted v then q.amount else 0)

-- those of a ruling in flight
abbrev pub flight_told : Option (Verdict × Request) → Option (Kind × ℕ)
flight_told flight = by_ruling None told_of flight

-- the acknowledged resets: all buys except for the reset in flight
abbrev pub resets_in : DeviceRow → ℕ
resets_in r = r.buys - by_ruling 0 adds (flight_in r)

-- the acknowledged refunds and withdrawals
abbrev pub refunds_in : DeviceRow → ℕ
refunds_in r = r.returns - by_ruling 0 takes (flight_in r)

-- those of a ruling in flight by the commits
abbrev pub flight_shown : Option (Verdict × List ℕ) → Option (Kind × ℕ)
flight_shown None = None
flight_shown (Some x) = told_of x.0 (request_in x.1)
