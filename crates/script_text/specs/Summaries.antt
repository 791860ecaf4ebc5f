-- The summary of a generated run: how many replies of each kind it had.
use Rattle.std.specs.Prelude.{ℕ, ◌+◌, ◌≤◌, List, [], ◌∷◌, Bool, true, false, codes, decimal}
use Rattle.bench_base.specs.declared.{events.Reply.Reply, questions.Report.Report}
use Rattle.bench_base.specs.declared.questions.Report.TheVariants as report
use Rattle.bench_base.specs.Replies.{report_of}
use Rattle.script_words.specs.Words.{joined}
use Rattle.script_text.specs.declared.{column.Column.Column, column.Column.TheVariants.Refused, column.Column.TheVariants.Power, column.Column.TheVariants.Fault, column.Column.TheVariants.Released, column.Column.TheVariants.Accepted, column.Column.TheVariants.Uncounted}

-- an acceptance counts where it is new
abbrev pub accepted_as : Bool → Column
accepted_as true = Uncounted
accepted_as false = Accepted

-- a refusal counts where its text begins with `refused`; a mark that is released counts each time
abbrev pub column_by : Report → Column
column_by (report.Refusal why) = Refused
column_by (report.Power n) = Power
column_by (report.Fault n) = Fault
column_by (report.Release d piece again k) = Released
column_by (report.Acceptance again) = accepted_as again
column_by _ = Uncounted

abbrev pub column_of : Reply → Column
column_of reply = column_by (report_of reply)

pub record Tally : Type 0 where
  pub events : ℕ
  pub refused : ℕ
  pub power : ℕ
  pub fault : ℕ
  pub released : ℕ
  pub accepted : ℕ

abbrev pub nothing : Tally
nothing = record { events = 0; refused = 0; power = 0; fault = 0; released = 0; accepted = 0 }

-- what an event adds if its reply is counted in this column
abbrev pub one_in : Column → Tally
one_in Refused = record { events = 1; refused = 1; power = 0; fault = 0; released = 0; accepted = 0 }
one_in Power = record { events = 1; refused = 0; power = 1; fault = 0; released = 0; accepted = 0 }
one_in Fault = record { events = 1; refused = 0; power = 0; fault = 1; released = 0; accepted = 0 }
one_in Released = record { events = 1; refused = 0; power = 0; fault = 0; released = 1; accepted = 0 }
one_in Accepted = record { events = 1; refused = 0; power = 0; fault = 0; released = 0; accepted = 1 }
one_in Uncounted = record { events = 1; refused = 0; power = 0; fault = 0; released = 0; accepted = 0 }

abbrev pub together : Tally → Tally → Tally
together s t = record {
  events = s.events + t.events;
  refused = s.refused + t.refused;
  power = s.power + t.power;
  fault = s.fault + t.fault;
  released = s.released + t.released;
  accepted = s.accepted + t.accepted;
}

-- the tally of replies: what each of them adds
abbrev pub tally_of : List Reply → Tally
tally_of [] = nothing
tally_of (reply ∷ replies) = together (one_in (column_of reply)) (tally_of replies)

-- no column has more than all events
pub record IsTally (s : Tally) : Type 0 where
  pub refused : s.refused ≤ s.events
  pub power : s.power ≤ s.events
  pub fault : s.fault ≤ s.events
  pub released : s.released ≤ s.events
  pub accepted : s.accepted ≤ s.events

-- the words of the summary of a run, by its seed and its number of turns
abbrev pub summary_words : ℕ → ℕ → Tally → List (List ℕ)
summary_words seed count s =
    codes "generated" ∷ decimal seed ∷ decimal count
    ∷ codes "lines" ∷ decimal s.events
    ∷ codes "refused" ∷ decimal s.refused
    ∷ codes "power" ∷ decimal s.power
    ∷ codes "fault" ∷ decimal s.fault
    ∷ codes "released" ∷ decimal s.released
    ∷ codes "accepted" ∷ decimal s.accepted
    ∷ []

-- its text, without a line end
unfoldable pub summary_text : ℕ → ℕ → Tally → List ℕ
summary_text seed count s = joined (summary_words seed count s)
