use Rattle.std.proofs.Common.{true, sym}
use Rattle.trace_seen.specs.declared.marks.Seen.{Seen}
use Rattle.trace_seen.proofs.Writing.{ticks_written}
use Rattle.trace_seen.proofs.marks.SeenMarks.tick.Goals as goal

pub returns-in-Some : goal.returns-in-Some
returns-in-Some c =
    let seen : Seen = c.in-Some.seen.now in
    ticks_written c.args.mark.now c.args.self.now _ seen (sym c.in-Some.ensures.value) (c.get_mut.follows.holds (record { line = seen.line; is_debited = true }))
