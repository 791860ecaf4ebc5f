-- A run whose report ended within an answer is, at each history, one that may have been stopped so.
use Rattle.std.proofs.Common.{◌≡◌, ℕ, ◌+◌, ◌≤◌, List, [], ◌∷◌, ◌++◌, Option, refl, sym, ◌∙◌, subst}
use Rattle.std.specs.Io.KnownBytes.{Consumes, IsAtEnd}
use Rattle.std.proofs.KnownBytes.{Consumes-trans}
use Rattle.bench_base.specs.declared.ledger.Entry.TheVariants.{Begin}
use Rattle.bench_base.specs.Ledger.{Ledger}
use Rattle.bench_base.specs.Rules.{editions}
use Rattle.bench_abstraction.specs.Tariff.{IsOfTexts}
use Rattle.ledger_moves.specs.Tariffs.{Tariff}
use Rattle.ledger_moves.specs.Histories.{History, begins}
use Rattle.line_runs.specs.Runs.{DidLast, Replayed}
use Rattle.line_runs.specs.Turns as turns
use Rattle.line_runs.specs.declared.status.SideStatus.TheVariants.{Stopped}
use Rattle.line_extensions.specs.Desks.{World, world}
use Rattle.line_extensions.specs.declared.extension.Extension.{Ghosts}
use Rattle.trace_bench.specs.Seeing.{Audit, Sees}
use Rattle.trace_runs.specs.Between.{SeesBetween}
use Rattle.trace_extensions.specs.Models.{Model}
use Rattle.trace_extensions.specs.Places.{Place, place}
use Rattle.trace_extensions.specs.Sides.{MayHaveLeft, StoppedAt, MayHaveStopped}
use Rattle.trace_extensions.specs.Stops.{LeftAt}
use Rattle.trace_extensions.specs.Steps.{AuditWorld, IsStop, AuditStep, Passed, Heard, Own, Begun, Ended, audit_lines, AuditEnds}
use Rattle.trace_extensions.specs.Worlds.{stop_fits, AuditLeaves, IsSeenAt, DidAudit}
use Rattle.trace_extensions.proofs.Translated.{NoneEnds, Done, done, may_split, same_length, same_script, same_report, texts_of, all_read, all_go_on, going, took, took_split}

module _ {K T : Type 0} (k : Ghosts K T) {V : Type 0} (view : K → V) (m : Model V) (left0 left1 t0 t1 : Option (List ℕ)) (w0 w1 : AuditWorld K)
    (r : Replayed (audit_lines k) Stopped (turns.Ended (DidAudit k view m) AuditLeaves Stopped w0 w1) left0 left1 t0 t1)
    (old : Audit) (rates : List ℕ) (same : w0.rates ≡ rates) (begun : (H : Ledger) → SeesBetween old H → Sees w0.audit (Begin ∷ H)) where
  pub none_ends : NoneEnds k r.trace
  none_ends = going k r.trace r.go_on

  -- what it did, up to the last line
  with_last : (did : DidLast (audit_lines k) r.rest (IsAtEnd left1) r.done) → DidAudit k view m w0 r.did.behind (r.trace ++ did.last ∷ [])
  with_last did = subst (λ (d : List (AuditStep k.Own K)). DidAudit k view m w0 r.did.behind (r.trace ++ d)) did.only r.did.did

  module _ (did : DidLast (audit_lines k) r.rest (IsAtEnd left1) r.done) (line told : List ℕ) (left : AuditWorld K) (last : did.last ≡ Begun line told left) where
    pub whole : DidAudit k view m w0 r.did.behind (r.trace ++ Begun line told left ∷ [])
    whole = subst (λ (d : AuditStep k.Own K). DidAudit k view m w0 r.did.behind (r.trace ++ d ∷ [])) last (with_last did)

    -- the lines before, at a history
    pub lines_done : (τ : Tariff) (H : Ledger) → IsOfTexts τ → History τ editions H → Sees w0.audit H
        → Done k τ (λ at. History τ editions at.scene.ledger × LeftAt k τ at line told left.audit left.desk × stop_fits view m τ at line told left) (world (place H w0.rates) w0.desk) r.trace
    lines_done τ H texts history sees =
        let at : World Place K = world (place H w0.rates) w0.desk in
        let P : World Place K → Type 0 = IsSeenAt τ r.did.behind.audit r.did.behind.rates r.did.behind.desk in
        done k τ (stop_fits view m τ) (λ mid. History τ editions mid.scene.ledger × LeftAt k τ mid line told left.audit left.desk × stop_fits view m τ mid line told left) r.trace none_ends at
        (may_split k τ (stop_fits view m τ) P r.trace (Begun line told left ∷ []) none_ends at (whole.may τ H texts history sees))

    -- the audit left what the last step says
    pub is_left : left ≡ w1
    is_left = let split = took_split k w0 r.did.behind r.trace (Begun line told left ∷ []) whole.took in sym (r.did.leaves ∙ split.2.2)

    left_so : (τ : Tariff) (H : Ledger) (w : Done k τ (λ at. History τ editions at.scene.ledger × LeftAt k τ at line told left.audit left.desk × stop_fits view m τ at line told left) (world (place H w0.rates) w0.desk) r.trace)
        → MayHaveLeft k τ H w0.rates w0.desk w1.desk w1.audit line told w.steps
    left_so τ H w = record {
      behind = w.new;
      does = w.does;
      history = w.that.0;
      left = subst (λ (x : AuditWorld K). LeftAt k τ w.new line told x.audit x.desk) is_left w.that.1;
    }

    stopped_so : (τ : Tariff) (H : Ledger) → IsOfTexts τ → History τ editions H → Sees w0.audit H
        → StoppedAt k left0 left1 line (texts_of k r.trace) (MayHaveLeft k τ H w0.rates w0.desk w1.desk w1.audit line told)
    stopped_so τ H texts history sees =
        let w = lines_done τ H texts history sees in
        record {
          trace = w.steps;
          each = all_read k r.trace w.steps w.are r.each;
          go_on = all_go_on k r.trace w.steps w.are r.go_on;
          few = subst (λ (n : ℕ). n + 1 ≤ 1000000) (sym (same_length k r.trace w.steps w.are)) (r.few (λ is. absurd (cc is)));
          rest = r.rest;
          is_ended = did.is_ended;
          last = rw last at did.line;
          consumed = subst (λ (l : List ℕ). Consumes left0 left1 (l ++ r.rest)) (sym (same_script k r.trace w.steps w.are)) r.consumed;
          written = same_report k r.trace w.steps w.are;
          did = left_so τ H w;
        }

    at_begun : MayHaveStopped k left0 left1 w0.report w1.report rates w0.desk w1.desk old w1.audit
    at_begun =
        let split = took_split k w0 r.did.behind r.trace (Begun line told left ∷ []) whole.took in
        record {
          line = line;
          report = texts_of k r.trace;
          told = told;
          read = subst (λ (x : AuditWorld K). Consumes w0.report x.report (texts_of k r.trace ++ told)) is_left
              (Consumes-trans w0.report split.0.report left.report (texts_of k r.trace) told (took k w0 split.0 r.trace none_ends split.1) split.2.0);
          all = subst (λ (x : AuditWorld K). IsAtEnd x.report) is_left split.2.1;
          run = λ τ H texts history between.
              subst (λ (l : List ℕ). StoppedAt k left0 left1 line (texts_of k r.trace) (MayHaveLeft k τ (Begin ∷ H) l w0.desk w1.desk w1.audit line told)) same
              (stopped_so τ (Begin ∷ H) texts (begins history) (begun H between));
        }

  -- the audit ended elsewhere
  pub elsewhere : (did : DidLast (audit_lines k) r.rest (IsAtEnd left1) r.done) (line : List ℕ) (left : AuditWorld K) → did.last ≡ Ended line left → IsStop w1 → ⊥
  elsewhere did line left last stop =
      let whole = subst (λ (d : AuditStep k.Own K). DidAudit k view m w0 r.did.behind (r.trace ++ d ∷ [])) last (with_last did) in
      let split = took_split k w0 r.did.behind r.trace (Ended line left ∷ []) whole.took in
      let none : IsStop left → ⊥ = (rw last at did.reads.is).0 in
      none (subst (λ (x : AuditWorld K). IsStop x) (r.did.leaves ∙ split.2) stop)

  by_last : (did : DidLast (audit_lines k) r.rest (IsAtEnd left1) r.done) (last : AuditStep k.Own K) → did.last ≡ last → AuditEnds last → IsStop w1
      → MayHaveStopped k left0 left1 w0.report w1.report rates w0.desk w1.desk old w1.audit
  by_last did (Passed line) is ends stop = absurd ends
  by_last did (Heard line e answer) is ends stop = absurd ends
  by_last did (Own line own texts) is ends stop = absurd ends
  by_last did (Begun line told left) is ends stop = at_begun did line told left is
  by_last did (Ended line left) is ends stop = absurd (elsewhere did line left is stop)

  pub may_have_stopped : IsStop w1 → MayHaveStopped k left0 left1 w0.report w1.report rates w0.desk w1.desk old w1.audit
  may_have_stopped stop = by_last r.ends.0 r.ends.0.last refl r.ends.1 stop
