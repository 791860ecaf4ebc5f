use Rattle.std.proofs.Common.{◌∙◌, ℕ, [], refl, subst, arith}
use Rattle.trace_bench.specs.Seeing.{audit_of}
use Rattle.line_extensions.specs.Desks.{world}
use Rattle.trace_extensions.specs.Places.{place}
use Rattle.trace_extensions.specs.Rates.{left_of}
use Rattle.trace_extensions.proofs.Asked.{asked_none, asked_more}
use Rattle.trace_extensions.proofs.OnlySteps.{LeftToAsk, none_asked, left_next, after_next, all_taken, still_asks}
use Rattle.trace_extensions.proofs.asking.ask_some.Goals as goal

pub loop-number-init : goal.loop-number-init
loop-number-init g c = record {
  ready = c.requires.ready;
  may = c.requires.may;
  few = omega arith;
  sent = c.message_count-sent.ensures;
  kept = refl;
  asked = λ τ H texts history sees. asked_none g.D.Extension τ H (left_of c.args.rates.now) (audit_of c.args.auditor.now) c.args.desk.now c.args.first history sees;
  only = λ τ H texts history sees mid steps last asks told many goes.
      subst (λ (n : ℕ). LeftToAsk g.D.TracedExtension.view g.D.TracedExtension.model g.D.TracedExtension.Fails τ [] n 0 (audit_of c.args.auditor.now) (left_of c.args.rates.now) c.args.desk.now c.args.first last mid) many
      (none_asked g.D.TracedExtension.view g.D.TracedExtension.model g.D.TracedExtension.Fails τ [] H (left_of c.args.rates.now) (audit_of c.args.auditor.now) c.args.desk.now c.args.first last mid steps history sees asks told);
}

pub loop-number-preserved : goal.loop-number-preserved
loop-number-preserved g c = record {
  ready = c.in-Ok.ensures.ready;
  may = c.in-Ok.ensures.may;
  few = omega (arith, c.in-Ok.ensures.few, c.loop-number.invariant.sent, c.message_count.ensures, c.if-sent-message_count.false);
  sent = c.loop-number.invariant.sent;
  kept = c.in-Ok.ensures.kept ∙ c.loop-number.invariant.kept;
  asked = λ τ H texts history sees. asked_more g.D.Extension τ texts (world (place H (left_of c.args.rates.now)) c.args.desk.now) (audit_of c.loop-number.auditor) (left_of c.loop-number.rates) c.loop-number.desk
      (audit_of c.ask_one.new.auditor) (left_of c.ask_one.new.rates) c.ask_one.new.desk c.args.first c.in-Step.event c.loop-number.next c.in-Ok.more c.in-Step.is
      (c.loop-number.invariant.asked τ H texts history sees) c.in-Ok.ensures.asked;
  only = λ τ H texts history sees mid steps last asks told many goes.
      let n = left_next g.D.TracedExtension.view g.D.TracedExtension.model g.D.TracedExtension.Fails τ [] c.args.count c.loop-number.number (audit_of c.loop-number.auditor) (left_of c.loop-number.rates) c.loop-number.desk c.loop-number.next last
      c.in-Step.event mid c.in-Step.is (λ same all. omega (arith, all, c.loop-number-test.true)) (c.loop-number.invariant.only τ H texts history sees mid steps last asks told many) in
      after_next g.D.TracedExtension.view g.D.TracedExtension.model g.D.TracedExtension.Fails τ [] c.args.count c.loop-number.number (audit_of c.loop-number.auditor) (audit_of c.ask_one.new.auditor) (left_of c.loop-number.rates) (left_of c.ask_one.new.rates)
      c.loop-number.desk c.ask_one.new.desk c.in-Step.event c.in-Ok.more last mid n (c.in-Ok.ensures.only τ n.ledger texts n.history n.sees n.behind n.d n.more n.asked n.told goes);
}

pub returns-in-Err-clause-only : goal.returns-in-Err-clause-only
returns-in-Err-clause-only g c = λ τ H texts history sees mid steps last asks told many.
    let n = left_next g.D.TracedExtension.view g.D.TracedExtension.model g.D.TracedExtension.Fails τ [] c.args.count c.loop-number.number (audit_of c.loop-number.auditor) (left_of c.loop-number.rates) c.loop-number.desk c.loop-number.next last
    c.in-Step.event mid c.in-Step.is (λ same all. omega (arith, all, c.loop-number-test.true)) (c.loop-number.invariant.only τ H texts history sees mid steps last asks told many) in
    c.in-Err.ensures.only τ n.ledger texts n.history n.sees n.behind n.d n.more n.asked n.told

pub returns-in-Say-clause-only : goal.returns-in-Say-clause-only
returns-in-Say-clause-only g c = λ τ H texts history sees mid steps last asks told many.
    let w = still_asks g.D.TracedExtension.view g.D.TracedExtension.model g.D.TracedExtension.Fails τ [] c.args.count c.loop-number.number (audit_of c.loop-number.auditor) (left_of c.loop-number.rates) c.loop-number.desk c.loop-number.next last mid (omega (arith, c.loop-number-test.true))
    (c.loop-number.invariant.only τ H texts history sees mid steps last asks told many (λ stop. absurd (cc (stop, c.in-Say.is)))) in
    absurd (cc (w.1, c.in-Say.is))

pub returns-clause-only : goal.returns-clause-only
returns-clause-only g c = λ τ H texts history sees mid steps last asks told many. (
  refl,
  λ goes. all_taken g.D.TracedExtension.view g.D.TracedExtension.model g.D.TracedExtension.Fails τ [] c.args.count c.loop-number.number (audit_of c.loop-number.auditor) (left_of c.loop-number.rates) c.loop-number.desk c.loop-number.next last mid (omega (arith, c.loop-number-test.false, c.loop-number.auto.number-end))
      (c.loop-number.invariant.only τ H texts history sees mid steps last asks told many goes),
)
