-- What a run with statements did, by what desk and bench did of its lines.
use Rattle.std.proofs.Common.{◌≡◌, ℕ, List, [], ◌∷◌, ◌++◌, ◌+◌, length, Option, None, inl, inr, sym, ◌∙◌, subst}
use Rattle.std.specs.Io.KnownBytes.{IsAtEnd}
use Rattle.std.specs.List.{AllByRecursion}
use Rattle.bench_base.specs.declared.ledger.Entry.TheVariants.{Begin}
use Rattle.bench_base.specs.Ledger.{Ledger}
use Rattle.ledger_moves.specs.Tariffs.{Tariff}
use Rattle.bench.specs.Benches.{Nodes, BenchOf}
use Rattle.line_runs.specs.Trace.{Lines, Reads}
use Rattle.line_runs.specs.Runs.{EndsIn, Replayed}
use Rattle.line_runs.specs.declared.status.Status.TheVariants as status
use Rattle.line_runs.specs.declared.{status.SideStatus.SideStatus, status.SideStatus.TheVariants.Run, status.SideStatus.TheVariants.Stopped}
use Rattle.line_extensions.specs.Trace.{StepRecord}
use Rattle.line_extensions.specs.Desks.{world, side_lines, Does}
use Rattle.line_extensions.specs.SideTrace.{SideStep, steps_of}
use Rattle.script_replay.specs.Chains.{SceneOf, scene, DidEvents}
use Rattle.script_replay.specs.Sides.{StepsBy, DidSide, RanSide, EndsSide}
use Rattle.script_replay.specs.Streams.{Streams}
use Rattle.script_replay.specs.Throughout.{StandsFor, Throughout}
use Rattle.centre_statement.specs.Desk.{view_of, fresh}
use Rattle.centre_statement.specs.Ran.{DidStatements}
use Rattle.centre_statement.specs.StatementsDesk.{statements_desk}
use Rattle.centre_statement.specs.declared.{desk.StatementDesk.StatementDesk, lines.OwnLine.OwnLine}
use Rattle.centre_statement.proofs.Stating.{Laws, none_broken, all_stated, starts_with}
use Rattle.line_extensions.proofs.Wanting.{no_words}

-- == each line of a run is what its step says ==

module _ {D : Type 0} (l : Lines D) where
  one_read : (done : List D) (last : D) → done ≡ last ∷ [] → Reads l last → AllByRecursion (Reads l) done
  one_read done last only reads = subst (λ (x : List D). AllByRecursion (Reads l) x) (sym only) (reads, tt)

  none_read : (done : List D) → done ≡ [] → AllByRecursion (Reads l) done
  none_read done none = subst (λ (x : List D). AllByRecursion (Reads l) x) (sym none) tt

  last_read : (outcome : SideStatus) (number : ℕ) (bytes : List ℕ) (end : Type 0) (text : List ℕ) (done : List D) → EndsIn l outcome number bytes end text done → AllByRecursion (Reads l) done
  last_read (Run status.Done) number bytes end text done is = one_read done is.0.last is.0.only is.0.reads
  last_read (Run (status.Script line)) number bytes end text done (few, inl bad) = none_read done bad.1
  last_read (Run (status.Script line)) number bytes end text done (few, inr out) = one_read done out.1.last out.1.only out.1.reads
  last_read (Run status.TooLong) number bytes end text done (inl none) = none_read done none.2
  last_read (Run status.TooLong) number bytes end text done (inr out) = one_read done out.1.last out.1.only out.1.reads
  last_read (Run status.ReadFault) number bytes end text done is = none_read done is.0
  last_read (Run status.WriteFault) number bytes end text done is = one_read done is.0.last is.0.only is.0.reads
  last_read (Run status.Memory) number bytes end text done is = none_read done is.0
  last_read (Run status.Words) number bytes end text done is = absurd is
  last_read Stopped number bytes end text done is = one_read done is.0.last is.0.only is.0.reads

  both_read : (a b : List D) → AllByRecursion (Reads l) a → AllByRecursion (Reads l) b → AllByRecursion (Reads l) (a ++ b)
  both_read [] b first second = second
  both_read (d ∷ a) b first second = (first.0, both_read a b first.1 second)

  -- the same steps, with what their lines say of them
  pub said_read : (P Q : List D → Type 0) (outcome : SideStatus) (a b t u : Option (List ℕ)) → ((trace : List D) → AllByRecursion (Reads l) trace → P trace → Q trace)
      → Replayed l outcome P a b t u → Replayed l outcome Q a b t u
  said_read P Q outcome a b t u more r = record {
    trace = r.trace;
    each = r.each;
    go_on = r.go_on;
    rest = r.rest;
    done = r.done;
    text = r.text;
    few = r.few;
    ends = r.ends;
    consumed = r.consumed;
    appended = r.appended;
    did = more (r.trace ++ r.done) (both_read r.trace r.done r.each (last_read outcome _ _ _ _ r.done r.ends)) r.did;
  }

-- == what was done ==

-- at the beginning the bench represents the ledger
stands_first : (n : Nodes) (τ : Tariff) (L : Ledger) (old new : SceneOf n) (trace : List StepRecord) (did : DidEvents n old new trace) → Throughout n τ L old new trace did → StandsFor n τ old.bench L
stands_first n τ L old new [] did through = through.stands
stands_first n τ L old new (d ∷ rest) did through = through.0.stands

module _ (n : Nodes) (laws : Laws) (old new : SceneOf n) (desk after : StatementDesk) (starts : view_of desk ≡ fresh) (outcome : SideStatus) where
  pub did_statements : (trace : List (SideStep OwnLine)) → AllByRecursion (Reads (side_lines statements_desk)) trace → DidSide n statements_desk (world old desk) (world new after) outcome trace
      → DidStatements n old new desk after outcome trace
  did_statements trace reads side = record {
    side = side;
    stated = λ τ L read_as stands tells unforged.
        let first = stands_first n τ (Begin ∷ L) (scene side.bench.begun old.outside) side.bench.behind (steps_of trace) side.bench.steps (side.bench.throughout τ L read_as stands tells) in
        all_stated n τ laws read_as tells None (world (scene side.begun old.outside) desk) side.behind trace (Begin ∷ L) reads side.did
        (subst (λ (b : BenchOf n). StandsFor n τ b (Begin ∷ L)) side.same first) unforged (starts_with (view_of desk) L starts);
  }

-- == no run is stopped ==

module _ (n : Nodes) (old new : SceneOf n) (desk after : StatementDesk) (outcome : SideStatus) (stopped : outcome ≡ Stopped) where
  never_broken : (a b t u : Option (List ℕ)) → Replayed (side_lines statements_desk) outcome (DidStatements n old new desk after outcome) a b t u → ⊥
  never_broken a b t u r =
      let ends = subst (λ (o : SideStatus). EndsIn (side_lines statements_desk) o (length r.trace + 1) r.rest (IsAtEnd b) r.text r.done) stopped r.ends in
      let side = r.did.side in
      none_broken n (world (scene side.begun old.outside) desk) side.behind r.trace ends.0.last
      (subst (λ (done : List (SideStep OwnLine)). Does statements_desk (StepsBy n) (world (scene side.begun old.outside) desk) side.behind (r.trace ++ done)) ends.0.only side.did) ends.1

  pub never_stops : (word : List ℕ) (given : List (List ℕ)) (before now : Streams) → RanSide statements_desk word outcome given (DidStatements n old new desk after outcome) before now
      → EndsSide statements_desk word outcome given before now → ⊥
  never_stops word given before now ran ends = no_words (sym (ends.words.1 (λ called. never_broken _ _ _ _ (ran.replays called))) ∙ stopped)
