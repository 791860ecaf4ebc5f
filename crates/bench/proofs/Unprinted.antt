-- What prints nothing.
use Rattle.std.proofs.Common.{◌≡◌, ◌≢◌, ℕ, ℤ, List, Option, None, ◌≤◌, refl, subst, sym, ap, arith}
use Rattle.bench_base.specs.declared.{words.Node.Node, events.Event.Event, events.Reply.Reply}
use Rattle.bench_base.specs.declared.events.Event.TheVariants as ev
use Rattle.bench_base.specs.declared.events.Reply.TheVariants as r
use Rattle.bench_base.specs.Replies.{MayGet}
use Rattle.nv_model.specs.declared.nv.Nv as nv
use Rattle.node_acts.specs.declared.asked.Asked.{Asked}
use Rattle.node_acts.specs.Kinds.{Kind}
use Rattle.node_storage.specs.declared.node.Node.{Ghosts}
use Rattle.node_turns.specs.Printing.{Printer, PrinterDid, NodePrints}

-- a reply that reports nothing of the printer
pub record IsUnprinted (reply : Reply) : Type 0 where
  pub whole : (job : ℕ) → reply ≢ r.Printed job
  pub cut : (job : ℕ) → reply ≢ r.PrinterFault job

pub prints_nothing : (reply : Reply) (mark : Option (List ℕ)) (p q : Printer) → q ≡ p → IsUnprinted reply → PrinterDid reply mark p q
prints_nothing reply mark p q same un = record {
  whole = λ j is. absurd (un.whole j is);
  cut = λ j is. absurd (un.cut j is);
  rests = λ none none'. same;
  later = subst (λ (k : ℕ). p.faults ≤ k) (ap (λ (x : Printer). x.faults) (sym same)) (omega arith);
}

-- nothing is printed but by a `print`
pub unprinted : (e : Event) (reply : Reply) → ((j : ℕ) → e ≢ ev.Print j) → MayGet e reply → IsUnprinted reply
unprinted e reply other gets = record { whole = λ j is. absurd (other j (subst (MayGet e) is gets)); cut = λ j is. absurd (other j (subst (MayGet e) is gets)) }

-- so the printer takes nothing
pub none_printed : {K S N C R X : Type 0} (n : Ghosts K S N C R) (g : nv.Ghosts S) (kind : Kind N n.Seen X) (m : Node) (d : N) (today : ℤ) (asked : Asked X) (s : K) (reply : Reply) (printer : Printer)
    → IsUnprinted reply → NodePrints n g kind m d today asked s reply printer printer
none_printed n g kind m d today asked s reply printer quiet = record {
  by_view = λ v st tells. prints_nothing reply _ printer printer refl quiet;
  mark = None;
  alone = prints_nothing reply None printer printer refl quiet;
}
