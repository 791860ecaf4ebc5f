-- The postage of an order, and the message that is sent for it.
use Rattle.std.specs.Prelude.{◌≡◌, ℕ, List, [], ◌∷◌, Option, Some, None, Ok}
use Rattle.bench_base.specs.declared.{ledger.Commit.Commit, ledger.Entry.TheVariants.Sent}
use Rattle.bench_base.specs.Jobs.{Job, job_of}
use Rattle.bench_base.specs.Ledger.{Ledger, counted}
use Rattle.psd_wire.specs.declared.message.DebitMsg.{DebitMsg}
use Rattle.psd_wire.specs.declared.message.Message.TheVariants as m
use Rattle.psd_wire.specs.Grammar.{read}

abbrev pub postage_in : Option Job → Option ℕ
postage_in None = None
postage_in (Some job) = Some job.postage

-- the postage in the Ordered of job j
abbrev pub ordered_postage : ℕ → List Commit → Option ℕ
ordered_postage j C = postage_in (job_of j C)

-- what was added to the ledger is one message, which asks a device for a mark with the postage in the Ordered of job j
pub record IsSentFor (j : ℕ) (added H : Ledger) : Type 0 where
  pub bytes : List ℕ
  pub debit : DebitMsg
  pub only : added ≡ Sent bytes ∷ []
  pub reads : read bytes ≡ Ok (m.Debit debit)
  pub postage : ordered_postage j (counted H) ≡ Some debit.postage
