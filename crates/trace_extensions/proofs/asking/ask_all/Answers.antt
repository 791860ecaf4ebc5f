use Rattle.std.proofs.Common.{◌∙◌, ℕ, length, refl, sym, subst, arith}
use Rattle.trace_bench.specs.Seeing.{audit_of}
use Rattle.line_extensions.specs.Desks.{world}
use Rattle.line_extensions.specs.declared.{extension.Next.TheVariants.Say}
use Rattle.trace_extensions.specs.Places.{place}
use Rattle.trace_extensions.specs.Rates.{left_of}
use Rattle.trace_extensions.specs.Models.{IsToldOf}
use Rattle.trace_extensions.proofs.Asked.{asked_none, asked_more}
use Rattle.trace_extensions.proofs.OnlySteps.{LeftToAsk, none_asked, left_next, after_next, all_asked}
use Rattle.trace_extensions.proofs.asking.ask_all.Goals as goal

pub loop-next-init : goal.loop-next-init
loop-next-init g c = record {
  ready = c.requires.ready;
  may = c.requires.may;
  few = omega arith;
  sent = c.message_count-sent.ensures;
  kept = refl;
  asked = λ τ H texts history sees. asked_none g.D.Extension τ H (left_of c.args.rates.now) (audit_of c.args.auditor.now) c.args.desk.now c.args.first history sees;
  only = λ τ H texts history sees mid steps asks told goes. none_asked g.D.TracedExtension.view g.D.TracedExtension.model g.D.TracedExtension.Fails τ c.args.line.now H (left_of c.args.rates.now) (audit_of c.args.auditor.now)
      c.args.desk.now c.args.first Say mid steps history sees asks told;
}

pub loop-next-preserved : goal.loop-next-preserved
loop-next-preserved g c = record {
  ready = c.in-Ok.ensures.ready;
  may = c.in-Ok.ensures.may;
  few = omega (arith, c.in-Ok.ensures.few, c.loop-next.invariant.sent, c.message_count.ensures, c.if-message_count-sent.false);
  sent = c.loop-next.invariant.sent;
  kept = c.in-Ok.ensures.kept ∙ c.loop-next.invariant.kept;
  asked = λ τ H texts history sees. asked_more g.D.Extension τ texts (world (place H (left_of c.args.rates.now)) c.args.desk.now) (audit_of c.loop-next.auditor) (left_of c.loop-next.rates) c.loop-next.desk
      (audit_of c.ask_one.new.auditor) (left_of c.ask_one.new.rates) c.ask_one.new.desk c.args.first c.in-Step.event c.loop-next.next c.in-Ok.more c.in-Step.is
      (c.loop-next.invariant.asked τ H texts history sees) c.in-Ok.ensures.asked;
  only = λ τ H texts history sees mid steps asks told goes.
      let n = left_next g.D.TracedExtension.view g.D.TracedExtension.model g.D.TracedExtension.Fails τ c.args.line.now (length steps) c.loop-next.number (audit_of c.loop-next.auditor) (left_of c.loop-next.rates) c.loop-next.desk c.loop-next.next Say
      c.in-Step.event mid c.in-Step.is (λ same all. cc (same)) (c.loop-next.invariant.only τ H texts history sees mid steps asks told) in
      subst (λ (k : ℕ). LeftToAsk g.D.TracedExtension.view g.D.TracedExtension.model g.D.TracedExtension.Fails τ c.args.line.now (length steps) k (audit_of c.ask_one.new.auditor) (left_of c.ask_one.new.rates) c.ask_one.new.desk c.in-Ok.more Say mid) (sym c.in-Some.ensures.1)
      (after_next g.D.TracedExtension.view g.D.TracedExtension.model g.D.TracedExtension.Fails τ c.args.line.now (length steps) c.loop-next.number (audit_of c.loop-next.auditor) (audit_of c.ask_one.new.auditor) (left_of c.loop-next.rates)
      (left_of c.ask_one.new.rates) c.loop-next.desk c.ask_one.new.desk c.in-Step.event c.in-Ok.more Say mid n (c.in-Ok.ensures.only τ n.ledger texts n.history n.sees n.behind n.d n.more n.asked (subst (λ (k : ℕ). IsToldOf g.D.TracedExtension.Fails k c.args.line.now n.d) (sym c.in-Some.ensures.1) n.told) goes));
}

pub returns-in-Err-clause-only : goal.returns-in-Err-clause-only
returns-in-Err-clause-only g c = λ τ H texts history sees mid steps asks told.
    let n = left_next g.D.TracedExtension.view g.D.TracedExtension.model g.D.TracedExtension.Fails τ c.args.line.now (length steps) c.loop-next.number (audit_of c.loop-next.auditor) (left_of c.loop-next.rates) c.loop-next.desk c.loop-next.next Say
    c.in-Step.event mid c.in-Step.is (λ same all. cc (same)) (c.loop-next.invariant.only τ H texts history sees mid steps asks told) in
    c.in-Err.ensures.only τ n.ledger texts n.history n.sees n.behind n.d n.more n.asked (subst (λ (k : ℕ). IsToldOf g.D.TracedExtension.Fails k c.args.line.now n.d) (sym c.in-Some.ensures.1) n.told)

pub returns-clause-only : goal.returns-clause-only
returns-clause-only g c = λ τ H texts history sees mid steps asks told goes.
    all_asked g.D.TracedExtension.view g.D.TracedExtension.model g.D.TracedExtension.Fails τ c.args.line.now (length steps) c.loop-next.number (audit_of c.loop-next.auditor) (left_of c.loop-next.rates) c.loop-next.desk c.loop-next.next Say mid
    (λ e is. c.in_default.not-Step e is) (c.loop-next.invariant.only τ H texts history sees mid steps asks told goes)
