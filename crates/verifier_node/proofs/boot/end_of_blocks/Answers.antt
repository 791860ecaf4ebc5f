use Rattle.std.proofs.Common.{◌≡◌, ℕ, sym, subst, arith}
use Rattle.bench_base.specs.declared.sizes.TheConstants.{VERIFIER_CELLS}
use Rattle.nv_store.specs.RoomView.{kept_in}
use Rattle.verifier_node.specs.Boots.{AreListed}
use Rattle.verifier_node.proofs.Booted.{read_rows, start_listed}
use Rattle.verifier_node.proofs.Reading.{payload_none}
use Rattle.verifier_node.proofs.boot.end_of_blocks.Goals as goal

pub loop-cell-init : goal.loop-cell-init
loop-cell-init c = start_listed (kept_in c.args.room.now)

pub loop-cell-preserved : goal.loop-cell-preserved
loop-cell-preserved c = c.if-not-is_listed.ensures

pub is_listed-requires : goal.is_listed-requires
is_listed-requires c = record {
  cells = c.requires.cells;
  filled = read_rows (kept_in c.args.room.now) c.requires.read;
  inside = c.loop-cell-test.true;
  payload = sym c.in-Some.ensures.payload;
  listed = c.loop-cell.invariant;
}

pub returns-in_default-clause-listed : goal.returns-in_default-clause-listed
returns-in_default-clause-listed c = c.loop-cell.invariant

pub returns-in_default-clause-inside : goal.returns-in_default-clause-inside
returns-in_default-clause-inside c = omega arith

pub returns-in_default-clause-blank : goal.returns-in_default-clause-blank
returns-in_default-clause-blank c lt = payload_none (kept_in c.args.room.now c.loop-cell.cell) c.in_default.ensures.payload

pub returns-then-not-is_listed : goal.returns-then-not-is_listed
returns-then-not-is_listed c = record { listed = tt; inside = tt; blank = tt; breaks = c.if-not-is_listed.ensures }

pub returns : goal.returns
returns c =
    let end : c.loop-cell.cell ≡ VERIFIER_CELLS = omega arith in
    record {
      listed = subst (λ (n : ℕ). AreListed (kept_in c.args.room.now) n) end c.loop-cell.invariant;
      inside = omega arith;
      blank = λ lt. absurd (omega (arith, lt));
      breaks = tt;
    }
