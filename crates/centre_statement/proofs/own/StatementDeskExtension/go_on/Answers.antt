use Rattle.std.proofs.Common.{◌≡◌, refl, subst}
use Rattle.node_turns.specs.declared.turn.Turn.{Turn}
use Rattle.centre_statement.specs.Courses.{Answers}
use Rattle.centre_statement.specs.Desk.{View, view_of, seen}
use Rattle.centre_statement.proofs.Kept.{said_kept}
use Rattle.centre_statement.proofs.own.StatementDeskExtension.go_on.Goals as goal

answered : (v mid t : View) (turn : Turn) → mid ≡ seen v turn.entries → Answers mid.said turn.reply mid t → Answers v.said turn.reply (seen v turn.entries) t
answered v mid t turn is did =
    let at : Answers (seen v turn.entries).said turn.reply (seen v turn.entries) t = subst (λ (m : View). Answers m.said turn.reply m t) is did in
    subst (λ s. Answers s turn.reply (seen v turn.entries) t) (said_kept v turn.entries) at

pub returns-clause-goes : goal.returns-clause-goes
returns-clause-goes c = λ turn is. (
  refl,
  subst (λ (u : Turn). Answers (view_of c.args.self.now).said u.reply (seen (view_of c.args.self.now) u.entries) (view_of c.answer.new.self)) is
      (answered (view_of c.args.self.now) (view_of c.see_all.new.self) (view_of c.answer.new.self) c.args.told.now c.see_all.ensures c.answer.ensures),
)
