use Rattle.std.proofs.Common.{inl, inr, ℕ, List, [], refl, sym, ◌∙◌, subst, true≢false}
use Rattle.bench_base.specs.declared.events.Event.{Event}
use Rattle.bench_base.specs.Ledger.{Ledger}
use Rattle.ledger_moves.specs.Tariffs.{Tariff}
use Rattle.ledger_moves.specs.Histories.{Unforged}
use Rattle.trace_bench.specs.Seeing.{Sees, audit_of}
use Rattle.trace_bench.proofs.Same.{same_sees}
use Rattle.trace_runs.specs.Fitting.{BeginsTold}
use Rattle.trace_runs.proofs.Alike.{between}
use Rattle.trace_extensions.proofs.EventStops.{begun_seen, may_leave}
use Rattle.trace_extensions.proofs.stopping.step_open.Goals as goal

-- an event that may get a reply has no forged bytes
unforged_in : (τ : Tariff) (H : Ledger) (left : List ℕ) (e : Event) → BeginsTold τ H left e [] → Unforged e H
unforged_in τ H left e begins = subst (λ (x : Event). Unforged x H) begins.1 begins.2.unforged

pub returns-in-Ok-clause-in_own : goal.returns-in-Ok-clause-in_own
returns-in-Ok-clause-in_own g c = λ n stop τ H texts history sees.
    let begun = c.in-Ok.ensures.begun τ H texts history sees in
    let w = may_leave c.histories.ensures.today τ H c.args.event.now _ [] _ history begun in
    (inl begun, (w.0, inl (w.1, w.2), w.3, w.4))

pub returns-then-is_forged-clause-in_own : goal.returns-then-is_forged-clause-in_own
returns-then-is_forged-clause-in_own g c = λ n stop τ H texts history sees.
    let forged = c.is_forged.ensures.0 c.if-is_forged.true in
    let here = same_sees (audit_of c.args.auditor.now) (audit_of c.take_prefix.new.auditor) (c.in-Err.ensures.forged forged) H sees in
    let never = c.in-Err.ensures.not_unforged forged τ H texts history sees in
    (inr here, (H, inr (never, refl), history, between _ H here))

pub returns-in-Ok-clause-stops : goal.returns-in-Ok-clause-stops
returns-in-Ok-clause-stops g c = λ τ H texts history sees K left.
    let begun = c.in-Ok.ensures.begun τ H texts history sees in
    elim left [
      | inl done ↦ inl (c.end.ensures.verdict, begun_seen c.histories.ensures.today τ H c.args.event.now _ [] _ K history begun done.1)
      | inr never ↦ absurd (never.0 begun.0)
    ]

pub returns-then-is_forged-clause-stops : goal.returns-then-is_forged-clause-stops
returns-then-is_forged-clause-stops g c = λ τ H texts history sees K left.
    let forged = c.is_forged.ensures.0 c.if-is_forged.true in
    let here = same_sees (audit_of c.args.auditor.now) (audit_of c.take_prefix.new.auditor) (c.in-Err.ensures.forged forged) H sees in
    let never = c.in-Err.ensures.not_unforged forged τ H texts history sees in
    elim left [
      | inl done ↦ absurd (never (unforged_in τ H _ c.args.event.now done.0))
      | inr none ↦ inl (c.end-then-is_forged.ensures.verdict, between _ K (subst (λ (X : Ledger). Sees (audit_of c.take_prefix.new.auditor) X) (sym none.1) here))
    ]

pub returns-else-is_forged-clause-stops : goal.returns-else-is_forged-clause-stops
returns-else-is_forged-clause-stops g c = λ τ H texts history sees K left. inr (c.miss.ensures.open (elim left [
  | inl done ↦ c.in-Err.ensures.missed τ H texts history sees done.0.0 done.0.1 done.0.2 done.0.3
  | inr none ↦ elim (c.in-Err.ensures.only_forged τ H texts history sees none.0) [
    | inl forged ↦ absurd (true≢false (sym (c.is_forged.ensures.1 forged) ∙ c.if-is_forged.false))
    | inr is_open ↦ is_open
  ]
]))
