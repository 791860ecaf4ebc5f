use Rattle.std.proofs.Common.{[], ◌≡◌, refl, sym, ◌∙◌, ap, subst}
use Rattle.bench_base.specs.declared.words.Node.{Node}
use Rattle.bench_base.specs.declared.events.Reply.TheVariants as r
use Rattle.node_acts.specs.declared.act.Act.{Act}
use Rattle.node_acts.specs.declared.act.Outcome.TheVariants as o
use Rattle.node_acts.specs.Said.{saying}
use Rattle.node_storage.proofs.Called.{off_call}
use Rattle.node_turns.specs.Calling.{said_outcome}
use Rattle.node_turns.specs.Turns.{turn_of}
use Rattle.node_turns.proofs.Saying.{off_called, says_called, told_said}
use Rattle.node_turns.proofs.calling.call_node.Goals as goal

pub returns-then-not-is_on : goal.returns-then-not-is_on
returns-then-not-is_on g c = record {
  did = λ by is. (
    o.Off,
    off_called g.K.Node g.K.Storage.Nv by c.args.place.now (off_call g.K.Node g.K.Storage.Nv by c.args.place.now (sym c.if-not-is_on.ensures)),
    subst (λ (node : Node). g.T.Tell.IsOf c.silent.result (turn_of (r.OffNode node) [])) c.name.ensures c.silent.ensures,
  );
}

pub returns : goal.returns
returns g c =
    let refuses = g.E.Callee.refuses c.args.callee.now in
    let says = g.C.Call.says c.args.call.now c.args.callee.now in
    let outcome = c.perform-outcome.result in
    record {
      did = λ by is.
          let made : by (g.K.Node.seen c.args.place.now) ≡ saying refuses says c.act-act.result =
          is ∙ sym (ap (λ (a : Act g.row.K-Change.Denot g.row.E-Refusal.Denot g.row.C-Answer.Denot). saying refuses says a) c.act-act.ensures.value) in
          let did = c.perform-outcome.ensures.did (λ k. c.act-act.result) refl in (
            said_outcome refuses says outcome,
            says_called refuses says g.K.Node g.K.Storage.Nv by c.args.place.now c.perform-outcome.new.node (sym c.if-not-is_on.ensures) c.act-act.result made outcome did c.perform-outcome.ensures.wrote,
            told_said refuses says (λ turn. g.T.Tell.IsOf c.told.result turn) (g.E.Callee.named c.args.callee.now) c.act-act.result (by (g.K.Node.seen c.args.place.now)) outcome made did.came c.told.ensures,
          );
    }
