use Rattle.std.proofs.Common.{◌≢◌, length, rules}
use Rattle.centre_statement.proofs.Kept.{added}
use Rattle.centre_statement.proofs.desk.StatementDesk.add.Goals as goal

pub returns : goal.returns
returns c =
    let other : length c.args.self.now.movements.items ≢ 10000 = search (rules, c.if-len-eq-MOST_MOVEMENTS.false, c.len.ensures) in
    added _ _ _ c.args.customer _ _ _ _ _ _ c.args.change.now c.requires.is_open c.args.self.now.room c.left_after-self.ensures other c.in-Ok.ensures.items
