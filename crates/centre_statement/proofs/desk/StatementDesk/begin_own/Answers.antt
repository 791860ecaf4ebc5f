use Rattle.std.proofs.Common.{Option, inr, refl, subst}
use Rattle.std.specs.Vec.{vec_capacity}
use Rattle.centre_statement.specs.Room.{HasRoom}
use Rattle.centre_statement.proofs.Kept.{has_room}
use Rattle.centre_statement.proofs.desk.StatementDesk.begin_own.Goals as goal

pub returns-in-Some-clause-may : goal.returns-in-Some-clause-may
returns-in-Some-clause-may c =
    let room = subst (λ (o : Option _). HasRoom o c.args.self.now.said (vec_capacity c.args.self.now.movements)) c.in-Some.is c.args.self.now.room in
    ((has_room _ _ _ room).0, λ is. cc, inr refl)
