use Rattle.std.proofs.Common.{[], ◌∷◌, ◌++◌, ◌∙◌, sym, ap, subst, arith}
use Rattle.bench_base.specs.declared.events.Event.{Event}
use Rattle.line_extensions.specs.declared.{extension.Next.Next, extension.Next.TheVariants.Step}
use Rattle.line_extensions.specs.Wants.{IsQuiet, MayAsk, IsStep}
use Rattle.line_extensions.proofs.Asking.{asks_none, asks_more, still_quiet}
use Rattle.line_extensions.proofs.side.ask_all.Goals as goal

pub loop-next-init : goal.loop-next-init
loop-next-init g c = record {
  ready = c.requires.ready;
  may = c.requires.may;
  quiet = λ is. omega arith;
  most = omega arith;
  asked = ([], asks_none g.D.Extension g.B.Stepper.Steps _ _);
}

pub loop-next-preserved : goal.loop-next-preserved
loop-next-preserved g c =
    let w = c.in-Ok.ensures.did in
    let inv = c.loop-next.invariant in
    let was_quiet = inv.quiet (subst (λ (n : Next). IsStep n) (sym c.in-Step.is) tt) in
    let sends = g.met.B.Stepper.sends _ _ w.0 w.1 w.3 in
    record {
      ready = c.in-Ok.ensures.ready;
      may = c.go_on-next.ensures.may;
      quiet = λ is. still_quiet c.in-Step.event c.go_on-next.result (g.D.Extension.left c.loop-next.desk) (g.D.Extension.left c.go_on-next.new.self) (subst (λ (n : Next). MayAsk n (g.D.Extension.left c.loop-next.desk)) c.in-Step.is inv.may) c.go_on-next.ensures.fewer
          _ _ _ was_quiet (λ q. g.met.B.Stepper.quiet _ _ w.0 w.1 w.3 (subst (λ (e : Event). IsQuiet e) (sym w.2) q)) is;
      most = omega (arith, sends, was_quiet);
      asked = (
        inv.asked.0 ++ w.0 ∷ [],
        asks_more g.D.Extension g.B.Stepper.Steps _ _ _ _ _ _ _ w.0 inv.asked.1 (record { asks = c.in-Step.is ∙ ap Step (sym w.2); turn = w.1; did = w.3; goes = c.go_on-next.ensures.goes w.1 w.4 }),
      );
    }
