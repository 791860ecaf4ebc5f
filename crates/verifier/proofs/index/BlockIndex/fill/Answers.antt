use Rattle.std.proofs.Common.{◌≤◌, length, take, arith}
use Rattle.bench_base.specs.declared.sizes.TheConstants.{MOST_BLOCKS}
use Rattle.verifier.proofs.Settled.{words_written, cells_written, settled_ordered, settled_blocks, settled_twice}
use Rattle.verifier.proofs.index.BlockIndex.fill.Goals as goal

pub invariant_of-self : goal.invariant_of-self
invariant_of-self g c =
    let len = c.write_entries-len.result in
    let xs = c.write_entries-len.new.entries in
    let was = c.write_entries-len.ensures in
    let words = words_written (goal.F-post g c.args.block_of) xs len c.args.end was.many (omega (arith, was.many, was.size, c.requires.room)) was.written in
    record {
      size = c.if-settle.ensures.size;
      room = omega (arith, was.many, c.requires.room);
      ordered = settled_ordered (take len xs) (take len c.settle.new.entries) c.if-settle.ensures.moved words c.if-settle.ensures.apart;
    }

pub returns-then-settle : goal.returns-then-settle
returns-then-settle g c blocks given =
    let len = c.write_entries-len.result in
    let xs = c.write_entries-len.new.entries in
    let was = c.write_entries-len.ensures in
    let room : len ≤ length xs = omega (arith, was.many, was.size, c.requires.room) in
    let words = words_written (goal.F-post g c.args.block_of) xs len c.args.end was.many room was.written in
    let are = cells_written (goal.F-post g c.args.block_of) xs len c.args.end was.many room was.written blocks given in
    settled_blocks (take len xs) (take len c.settle.new.entries) c.if-settle.ensures.moved words blocks c.args.end are c.if-settle.ensures.apart

pub returns-else-settle : goal.returns-else-settle
returns-else-settle g c blocks given =
    let len = c.write_entries-len.result in
    let xs = c.write_entries-len.new.entries in
    let was = c.write_entries-len.ensures in
    let room : len ≤ length xs = omega (arith, was.many, was.size, c.requires.room) in
    let words = words_written (goal.F-post g c.args.block_of) xs len c.args.end was.many room was.written in
    let are = cells_written (goal.F-post g c.args.block_of) xs len c.args.end was.many room was.written blocks given in
    settled_twice (take len xs) (take len c.settle.new.entries) c.if-settle.ensures.moved words blocks c.args.end are c.if-settle.ensures.apart
