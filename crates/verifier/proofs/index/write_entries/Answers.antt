use Rattle.std.proofs.Common.{◌-◌, ◌∙◌, arith, of_calls, refl}
use Rattle.std.proofs.lemmas.List.{length-set}
use Rattle.bench_base.specs.declared.sizes.TheConstants.{FIRST_BLOCK}
use Rattle.verifier.specs.declared.index.Entry.{Entry}
use Rattle.verifier.specs.Index.{IsEntryOf}
use Rattle.verifier.proofs.Settled.{entry_more}
use Rattle.verifier.proofs.index.write_entries.Goals as goal

pub block_of-block-requires : goal.block_of-block-requires
block_of-block-requires g c = search (of_calls, c.requires.callable c.loop-cell.cell c.loop-cell-test.true)

pub loop-cell-preserved : goal.loop-cell-preserved
loop-cell-preserved g c =
    let k = c.loop-cell.cell in
    let b = c.block_of-block.result in
    let e : Entry = record { device = b.0; block = b.1; cell = k } in
    record {
      size = length-set c.loop-cell.entries (k - FIRST_BLOCK) e ∙ c.loop-cell.invariant.size;
      written = entry_more (IsEntryOf (goal.F-post g c.args.block_of)) c.loop-cell.entries k e (omega arith) (omega (arith, c.loop-cell.invariant.size)) c.loop-cell.invariant.written
          (record { block = c.block_of-block.ensures; cell = refl; word = omega arith });
    }

pub returns-clause-written : goal.returns-clause-written
returns-clause-written g c i lt = c.loop-cell.invariant.written i (omega (arith, lt))
