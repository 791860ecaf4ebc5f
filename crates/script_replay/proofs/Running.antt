-- A run: it begins, does the steps, and what it leaves is lawful.
use Rattle.std.proofs.Common.{◌≡◌, List, [], ◌∷◌, None, refl, sym, subst}
use Rattle.std.specs.Io.KnownBytes.{Appends}
use Rattle.bench_base.specs.declared.ledger.Entry.TheVariants.{Begin}
use Rattle.bench_base.specs.Ledger.{Ledger}
use Rattle.bench_base.specs.Rules.{todays_rules, editions}
use Rattle.node_turns.specs.Printing.{Printer}
use Rattle.ledger_terms.specs.Editions.{Editions}
use Rattle.ledger_laws.specs.Laws.{ForHistories, Holds}
use Rattle.ledger_moves.specs.Tariffs.{Tariff}
use Rattle.ledger_moves.specs.Histories.{History}
use Rattle.bench_abstraction.specs.Tariff.{IsOfTexts}
use Rattle.bench.specs.Benches.{Nodes, IsReady, Stands, BenchOf}
use Rattle.bench.specs.Places.{Begun}
use Rattle.script_replay.specs.Chains.{scene, DidEvents, SceneOf}
use Rattle.line_extensions.specs.Trace.{StepRecord}
use Rattle.script_replay.specs.Trace.{printed_of, ledger_after, AreUnforged}
use Rattle.script_replay.specs.Fresh.{DidFresh}
use Rattle.script_replay.specs.Run.{Unforged, Leaves, DidOver, DidRun}
use Rattle.script_replay.specs.Throughout.{StandsFor}
use Rattle.line_runs.specs.Turns.{Ended}
use Rattle.line_runs.specs.declared.{status.Status.Status, status.SideStatus.TheVariants.Run}
use Rattle.script_replay.proofs.Answering.{no_failure, all_answered, all_exact}
use Rattle.script_replay.proofs.Chains.{runs, sane_while, stands_after}
use Rattle.script_replay.proofs.Counting.{LeftSo, left_so, run_balanced}
use Rattle.script_replay.proofs.Printing.{all_taken, all_printed, prints_while}
use Rattle.script_replay.proofs.Moments.{throughout}

module _ (n : Nodes) (today : Editions editions) (holds : ForHistories Holds)
    (old : SceneOf n) (begun : BenchOf n) (ready : IsReady old.bench) (ready' : IsReady begun) (begins : Begun n old.bench begun) (no_day : begun.day ≡ None)
    (no_messages : begun.messages ≡ []) (no_rates : begun.rates ≡ None) (begins_stands : (L : Ledger) → Stands n old.bench L → Stands n begun (Begin ∷ L)) where
  still_ready : (b new : SceneOf n) (trace : List StepRecord) → IsReady b.bench → DidEvents n b new trace → IsReady new.bench
  still_ready b new [] is did = subst (λ (x : SceneOf n). IsReady x.bench) (sym did) is
  still_ready b new (d ∷ rest) is did = still_ready did.0 new rest did.1.ready did.2

  begun_for : (τ : Tariff) (L : Ledger) → StandsFor n τ old.bench L → StandsFor n τ begun (Begin ∷ L)
  begun_for τ L s = record { history = History.begins s.history; stands = begins_stands L s.stands }

  module _ (behind new : SceneOf n) (trace : List StepRecord) (did : DidEvents n (scene begun old.outside) behind trace) (left : LeftSo behind new) where
    ready_now : IsReady new.bench
    ready_now = subst (λ (b : BenchOf n). IsReady b) (sym left.bench) (still_ready (scene begun old.outside) behind trace ready' did)

    over : (τ : Tariff) (L : Ledger) → IsOfTexts τ → StandsFor n τ old.bench L → n.storage.tells → DidOver n τ L old new trace
    over τ L texts s tells =
        let from = scene begun old.outside in
        let s' = begun_for τ L s in
        let balanced = run_balanced n old begun behind new trace ready ready' begins did left in
        let after : AreUnforged τ Unforged (Begin ∷ L) trace → StandsFor n τ new.bench (ledger_after τ (Begin ∷ L) trace) =
        λ u. subst (λ (b : BenchOf n). StandsFor n τ b (ledger_after τ (Begin ∷ L) trace)) (sym left.bench) (stands_after n τ texts tells from behind trace (Begin ∷ L) did s' u) in
        record {
          run = runs n τ texts tells from behind trace (Begin ∷ L) did s';
          stands = after;
          lawful = λ u. (holds τ todays_rules _ _ today (after u).history).lawful;
          paid = λ u. (holds τ todays_rules _ _ today (after u).history).paid;
          sane = sane_while n τ texts tells (λ K d history u may. (holds τ todays_rules _ K today history).sane d.event d.text d.reply u may) from behind trace (Begin ∷ L) did s';
          prints = λ told. prints_while n τ texts tells from behind trace (Begin ∷ L) told did s';
          answers = λ quiet. all_answered n τ texts tells from behind trace (Begin ∷ L) did s' (no_failure n old new trace ready.eight ready_now.eight balanced quiet);
          exact = λ quiet none. all_exact n τ texts tells from behind trace (Begin ∷ L) did s' (no_failure n old new trace ready.eight ready_now.eight balanced quiet) none;
        }

  pub did_run : (outcome : Status) (new : SceneOf n) (trace : List StepRecord) → Ended (DidEvents n) (λ s. Leaves s) (Run outcome) (scene begun old.outside) new trace → DidRun n old new outcome trace
  did_run outcome new trace e =
      let left = left_so (Run outcome) e.behind new e.leaves in
      record {
        begun = begun;
        begins = begins;
        no_day = no_day;
        no_messages = no_messages;
        no_rates = no_rates;
        behind = e.behind;
        steps = e.did;
        leaves = e.leaves;
        taken = all_taken n (scene begun old.outside) e.behind trace e.did;
        printed = subst (λ (p : Printer). Appends old.outside.printer.taken p.taken (printed_of trace)) (sym left.printer) (all_printed n (scene begun old.outside) e.behind trace e.did);
        balanced = run_balanced n old begun e.behind new trace ready ready' begins e.did left;
        over = over e.behind new trace e.did left;
        throughout = λ τ L texts s tells. throughout n today holds τ texts tells (scene begun old.outside) e.behind trace (Begin ∷ L) e.did ready' (begun_for τ L s);
      }

  -- it began so
  pub began_so : (outcome : Status) (new : SceneOf n) (trace : List StepRecord) (e : Ended (DidEvents n) (λ s. Leaves s) (Run outcome) (scene begun old.outside) new trace) → (did_run outcome new trace e).begun ≡ begun
  unfolding did_run
  began_so outcome new trace e = refl

-- from nothing nothing is asked of a ledger
pub from_nothing : (n : Nodes) (old new : SceneOf n) (outcome : Status) (trace : List StepRecord) → DidRun n old new outcome trace → Stands n old.bench [] → n.storage.tells → DidFresh n old new outcome trace
from_nothing n old new outcome trace did stands tells =
    let none : (τ : Tariff) → StandsFor n τ old.bench [] = λ τ. record { history = History.nothing; stands = stands } in
    record {
      did = did;
      over = λ τ texts. did.over τ [] texts (none τ) tells;
      throughout = λ τ texts. did.throughout τ [] texts (none τ) tells;
    }
