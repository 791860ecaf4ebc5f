use Rattle.std.proofs.Common.{◌<◌, sym, arith}
use Rattle.generator.proofs.Opened.{debit_at}
use Rattle.generator.proofs.opening.debit_event.Goals as goal

pub returns : goal.returns
returns c =
    let inside : c.args.place < 10 = omega (arith, c.if-place-gt9.false) in
    record { value = rw c.first_device.ensures (sym (debit_at c.args.place inside)) }
