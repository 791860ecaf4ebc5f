use Rattle.std.proofs.Common.{ℕ, List, Option, sym, subst}
use Rattle.bench_base.specs.declared.events.Reply.{Reply}
use Rattle.node_turns.specs.Turns.{sent_in}
use Rattle.host_departments.specs.Courses.{Hears, GoesOn}
use Rattle.host_departments.specs.declared.answer.Answer.{Answer}
use Rattle.host_departments.proofs.own.DepartmentsExtension.go_on.Goals as goal

pub returns-in-Sending-clause-goes : goal.returns-in-Sending-clause-goes
returns-in-Sending-clause-goes g c turn is =
    let s = c.args.self.now in
    let d = c.in-Sending.department in
    let j = c.in-Sending.job in
    subst (λ (w : Answer). GoesOn w turn.reply (sent_in turn.entries) s c.hears.result c.hears.new.self) (sym c.in-Sending.is)
    (subst (λ (sent : Option (List ℕ)). Hears d j turn.reply sent s c.hears.result c.hears.new.self) is.1
    (subst (λ (reply : Reply). Hears d j reply c.args.told.now.sent s c.hears.result c.hears.new.self) is.0 c.hears.ensures.hears))
