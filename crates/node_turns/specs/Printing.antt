-- What a call gives to the printer, and what the printer takes.
use Rattle.std.specs.Prelude.{◌≡◌, ◌≢◌, ◌<◌, ◌≤◌, ℕ, ℤ, List, [], ◌∷◌, length, take, Option, Some, None}
use Rattle.std.specs.Io.KnownBytes.{Appends}
use Rattle.bench_base.specs.Causes.{Rose}
use Rattle.bench_base.specs.declared.stream.Sink as sink
use Rattle.bench_base.specs.declared.{words.Node.Node, ledger.Commit.Commit, ledger.Entry.Entry, events.Reply.Reply}
use Rattle.bench_base.specs.declared.ledger.Entry.TheVariants as entry
use Rattle.bench_base.specs.declared.events.Reply.TheVariants as r
use Rattle.node_acts.specs.declared.{act.Act.Act, act.Outcome.Outcome, said.Said.Said, said.Printed.Printed as Print, said.GivenOut.GivenOut, said.GivenOut.TheVariants.Released, said.GivenOut.TheVariants.Printed, asked.Asked.Asked}
use Rattle.node_acts.specs.declared.act.Outcome.TheVariants as o
use Rattle.node_acts.specs.Plans.{with_commit}
use Rattle.node_acts.specs.Said.{planned_commit}
use Rattle.text_streams.specs.Texts.{print_line}
use Rattle.nv_model.specs.declared.nv.Nv as nv
use Rattle.node_acts.specs.Views.{View}
use Rattle.node_acts.specs.Kinds.{Kind}
use Rattle.node_storage.specs.declared.node.Node.{Ghosts}
use Rattle.node_storage.specs.Stands.{Stands}
use Rattle.node_turns.specs.declared.turn.Turn.{Turn}
use Rattle.node_turns.specs.NodeTurns.{plan_by}
use Rattle.node_turns.specs.Turns.{turn_of, call_turn}

-- the bytes that a printer took, if they are known, and its faults
pub record Printer : Type 0 where
  pub taken : Option (List ℕ)
  pub faults : ℕ

abbrev pub printer_of : {P : Type 0} → sink.Ghosts P → P → Printer
printer_of g printer = record { taken = g.taken printer; faults = g.faults printer }

-- == of a call ==

-- the mark that is printed, with its job
abbrev pub print_in : Option GivenOut → Option Print
print_in None = None
print_in (Some (Released x)) = None
print_in (Some (Printed x)) = Some x

-- where the call came to this
abbrev pub to_print : Outcome Reply Said → Option Print
to_print o.Off = None
to_print (o.Refused x) = None
to_print (o.Done a) = print_in a.given
to_print o.Worn = None
to_print (o.Power c) = None
to_print (o.Fault c) = None

-- if the printer fails, the commit alone is reported
abbrev pub unprinted_turn : Option Commit → ℕ → Turn
unprinted_turn commit job = turn_of (r.PrinterFault job) (with_commit commit [])

-- How a call with this act, which came to this, is reported by what the printer takes. It takes nothing, the whole line of
-- the call's mark, or a part of that line if it fails.
pub data PrintsCall {X : Type 0} (m : Node) (act : Act X Reply Said) (x : Outcome Reply Said) (before now : Printer) : Turn → Type 0 where
  prints_nothing : to_print x ≡ None → now ≡ before → PrintsCall m act x before now (call_turn m act x)
  prints : (p : Print) → to_print x ≡ Some p → Appends before.taken now.taken (print_line p.mark) → before.faults ≤ now.faults
      → PrintsCall m act x before now (call_turn m act x)
  fails : (p : Print) (n : ℕ) → to_print x ≡ Some p → n < length (print_line p.mark) → Appends before.taken now.taken (take n (print_line p.mark))
      → Rose before.faults now.faults
      → before.faults ≤ now.faults → PrintsCall m act x before now (unprinted_turn (planned_commit act) p.job)

-- == of an event ==

-- the mark that is printed by these entries
abbrev pub print_of : List Entry → Option (List ℕ)
print_of [] = None
print_of (entry.Printed job mark ∷ T) = Some mark
print_of (_ ∷ T) = print_of T

-- What the printer took in an event with this reply: the whole line of this mark if it was printed, a part of the line if
-- the printer failed, and otherwise nothing. A failure raised the printer's count of faults.
pub record PrinterDid (reply : Reply) (mark : Option (List ℕ)) (before now : Printer) : Type 0 where
  pub whole : (job : ℕ) → reply ≡ r.Printed job → (x : List ℕ) × (mark ≡ Some x) × Appends before.taken now.taken (print_line x)
  pub cut : (job : ℕ) → reply ≡ r.PrinterFault job → (x : List ℕ) × (n : ℕ) × (mark ≡ Some x) × (n < length (print_line x))
      × Appends before.taken now.taken (take n (print_line x)) × Rose before.faults now.faults
  pub rests : ((job : ℕ) → reply ≢ r.Printed job) → ((job : ℕ) → reply ≢ r.PrinterFault job) → now ≡ before
  pub later : before.faults ≤ now.faults

-- the same of an event that was asked of node m, which is d of its kind: the mark is the one that the plan prints by any
-- view that the node represented
pub record NodePrints {K S N C R X : Type 0} (n : Ghosts K S N C R) (g : nv.Ghosts S) (kind : Kind N n.Seen X) (m : Node) (d : N) (today : ℤ)
    (asked : Asked X) (s : K) (reply : Reply)
    (before now : Printer) : Type 0 where
  pub by_view : (v : View n.Seen) → Stands n g d v s → g.tells → PrinterDid reply (print_of (plan_by n kind m d today v asked).after) before now
  pub mark : Option (List ℕ)
  pub alone : PrinterDid reply mark before now
