use Rattle.std.proofs.Common.{[], ◌≡◌, refl, sym, ◌∙◌, ap, subst, Option}
use Rattle.bench_base.specs.declared.{words.Node.Node, ledger.Commit.Commit, events.Reply.Reply}
use Rattle.bench_base.specs.declared.events.Reply.TheVariants as r
use Rattle.node_acts.specs.declared.{act.Act.Act, said.Said.Said}
use Rattle.node_acts.specs.declared.act.Outcome.TheVariants as o
use Rattle.node_acts.specs.Said.{saying, planned_commit}
use Rattle.node_storage.proofs.Called.{off_call}
use Rattle.node_turns.specs.Printing.{PrintsCall, prints_nothing, prints, fails, unprinted_turn, printer_of}
use Rattle.node_turns.specs.Calling.{said_outcome}
use Rattle.node_turns.specs.Turns.{call_turn, turn_of}
use Rattle.node_turns.proofs.Saying.{off_called, says_called, told_said, planned_says}
use Rattle.node_turns.proofs.calling.call_printing.Given.{Over}
use Rattle.node_turns.proofs.calling.call_printing.Goals as goal

-- what the node does by its record is what was decided, said
said_is : (g : Over) (by : g.K.Node.Seen → Act g.row.K-Change.Denot Reply Said) (seen : g.K.Node.Seen) (refuses : g.row.E-Refusal.Denot → Reply) (says : g.row.C-Answer.Denot → Said)
    (does act : Act g.row.K-Change.Denot g.row.E-Refusal.Denot g.row.C-Answer.Denot) → by seen ≡ saying refuses says does → act ≡ does → by seen ≡ saying refuses says act
said_is g by seen refuses says does act is same = is ∙ sym (ap (λ (a : Act g.row.K-Change.Denot g.row.E-Refusal.Denot g.row.C-Answer.Denot). saying refuses says a) same)

pub returns-then-not-is_on : goal.returns-then-not-is_on
returns-then-not-is_on g c = record {
  did = λ by is. (
    o.Off,
    off_called g.K.Node g.K.Storage.Nv by c.args.place.now (off_call g.K.Node g.K.Storage.Nv by c.args.place.now (sym c.if-not-is_on.ensures)),
    call_turn (g.E.Callee.named c.args.callee.now) (by (g.K.Node.seen c.args.place.now)) o.Off,
    subst (λ (node : Node). g.T.Tell.IsOf c.silent.result (turn_of (r.OffNode node) [])) c.name.ensures c.silent.ensures,
    prints_nothing refl refl,
  );
}

pub returns-in-None : goal.returns-in-None
returns-in-None g c =
    let node = g.E.Callee.named c.args.callee.now in
    let refuses = g.E.Callee.refuses c.args.callee.now in
    let says = g.C.Call.says c.args.call.now c.args.callee.now in
    let outcome = c.perform-outcome.result in
    let seen = g.K.Node.seen c.args.place.now in
    record {
      did = λ by is.
          let made : by seen ≡ saying refuses says c.act-act.result = said_is g by seen refuses says _ c.act-act.result is c.act-act.ensures.value in
          let did = c.perform-outcome.ensures.did (λ k. c.act-act.result) refl in (
            said_outcome refuses says outcome,
            says_called refuses says g.K.Node g.K.Storage.Nv by c.args.place.now c.perform-outcome.new.node (sym c.if-not-is_on.ensures) c.act-act.result made outcome did c.perform-outcome.ensures.wrote,
            call_turn node (by seen) (said_outcome refuses says outcome),
            told_said refuses says (λ turn. g.T.Tell.IsOf c.told.result turn) node c.act-act.result (by seen) outcome made did.came c.told.ensures,
            prints_nothing (sym c.to_print.ensures ∙ c.in-None.is) refl,
          );
    }

pub returns-in-Ok : goal.returns-in-Ok
returns-in-Ok g c =
    let node = g.E.Callee.named c.args.callee.now in
    let refuses = g.E.Callee.refuses c.args.callee.now in
    let says = g.C.Call.says c.args.call.now c.args.callee.now in
    let outcome = c.perform-outcome.result in
    let seen = g.K.Node.seen c.args.place.now in
    record {
      did = λ by is.
          let made : by seen ≡ saying refuses says c.act-act.result = said_is g by seen refuses says _ c.act-act.result is c.act-act.ensures.value in
          let did = c.perform-outcome.ensures.did (λ k. c.act-act.result) refl in (
            said_outcome refuses says outcome,
            says_called refuses says g.K.Node g.K.Storage.Nv by c.args.place.now c.perform-outcome.new.node (sym c.if-not-is_on.ensures) c.act-act.result made outcome did c.perform-outcome.ensures.wrote,
            call_turn node (by seen) (said_outcome refuses says outcome),
            told_said refuses says (λ turn. g.T.Tell.IsOf c.told-in-Ok.result turn) node c.act-act.result (by seen) outcome made did.came c.told-in-Ok.ensures,
            prints c.in-Some.printed (sym c.to_print.ensures ∙ c.in-Some.is) c.in-Ok.ensures.ok c.print_mark.ensures.cause.later,
          );
    }

pub returns-in-Err : goal.returns-in-Err
returns-in-Err g c =
    let node = g.E.Callee.named c.args.callee.now in
    let refuses = g.E.Callee.refuses c.args.callee.now in
    let says = g.C.Call.says c.args.call.now c.args.callee.now in
    let outcome = c.perform-outcome.result in
    let before = printer_of g.P.Sink c.args.printer.now in
    let now = printer_of g.P.Sink c.print_mark.new.printer in
    let job = c.in-Some.printed.job in
    let seen = g.K.Node.seen c.args.place.now in
    record {
      did = λ by is.
          let made : by seen ≡ saying refuses says c.act-act.result = said_is g by seen refuses says _ c.act-act.result is c.act-act.ensures.value in
          let did = c.perform-outcome.ensures.did (λ k. c.act-act.result) refl in
          let commit : c.commit_in.result ≡ planned_commit (by seen) = c.commit_in.ensures ∙ sym (planned_says refuses says c.act-act.result) ∙ ap planned_commit (sym made) in (
            said_outcome refuses says outcome,
            says_called refuses says g.K.Node g.K.Storage.Nv by c.args.place.now c.perform-outcome.new.node (sym c.if-not-is_on.ensures) c.act-act.result made outcome did c.perform-outcome.ensures.wrote,
            unprinted_turn c.commit_in.result job,
            c.unprinted.ensures,
            subst (λ (o : Option Commit). PrintsCall node (by seen) (said_outcome refuses says outcome) before now (unprinted_turn o job)) (sym commit)
                (fails c.in-Some.printed c.in-Err.ensures.err.0 (sym c.to_print.ensures ∙ c.in-Some.is) c.in-Err.ensures.err.1 c.in-Err.ensures.err.2 c.in-Err.ensures.cause.failed c.in-Err.ensures.cause.later),
          );
    }
