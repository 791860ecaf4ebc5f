-- What is heard of the step that sends the message of a job.
use Rattle.std.specs.Prelude.{◌≡◌, ◌≤◌, ℕ, List, Option, Some, None, Result, Ok, Err}
use Rattle.bench_base.specs.Questions.{IsSentDebit}
use Rattle.bench_base.specs.Ranges.{IsPostage}
use Rattle.bench_base.specs.declared.{events.Reply.Reply, refusals.Unread.Unread}
use Rattle.psd_wire.specs.Grammar.{read}
use Rattle.psd_wire.specs.declared.message.Message.{Message}
use Rattle.psd_wire.specs.declared.message.Message.TheVariants as m

-- the postage in a message that asks a device for a mark
abbrev pub debit_postage : Result Message Unread → Option ℕ
debit_postage (Ok (m.Debit debit)) = Some debit.postage
debit_postage (Ok (m.Request request)) = None
debit_postage (Ok (m.Reply reply)) = None
debit_postage (Ok (m.Done done)) = None
debit_postage (Ok (m.Release mark)) = None
debit_postage (Err fault) = None

abbrev pub postage_sent : Option (List ℕ) → Option ℕ
postage_sent None = None
postage_sent (Some note) = debit_postage (read note)

-- The message of job j was sent, and this is the postage in it. A host sends one for a job that it keeps, with number and postage in these ranges.
pub record IsTaken (j : ℕ) (reply : Reply) (sent : Option (List ℕ)) (p : ℕ) : Type 0 where
  pub is_sent : IsSentDebit reply
  pub postage : postage_sent sent ≡ Some p
  pub job : 1 ≤ j
  pub in_range : IsPostage p
