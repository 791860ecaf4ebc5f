use Rattle.std.proofs.Common.{◌≤◌, inl, inr, false, true, rules, arith}
use Rattle.std.proofs.lemmas.Bool.{MatchBool-at_true, MatchBool-at_false}
use Rattle.bench_base.specs.declared.sizes.TheConstants.{VERIFIER_CELLS}
use Rattle.nv_store.specs.RoomView.{kept_in}
use Rattle.verifier.specs.Index.{HasBlocks, HasTwice}
use Rattle.verifier_node.specs.Boots.{block_held}
use Rattle.verifier_node.proofs.Booted.{read_rows, listed_indexed, twice_breaks, joined, gap_breaks}
use Rattle.verifier_node.proofs.boot.index_rows.Goals as goal

pub returns-then-not-are_read : goal.returns-then-not-are_read
returns-then-not-are_read c = record { sound = tt; none = inl c.if-not-are_read.ensures }

pub returns-in_default : goal.returns-in_default
returns-in_default c = record { sound = tt; none = inr (read_rows (kept_in c.args.room.now) c.if-not-are_read.ensures, c.in_default.ensures.breaks) }

pub returns-then-not-fill : goal.returns-then-not-fill
returns-then-not-fill c =
    let held = kept_in c.args.room.now in
    let filled = read_rows held c.if-not-are_read.ensures in
    let twice : HasTwice (block_held held) c.in-Ok.end = c.if-not-fill.ensures (block_held held) (λ k b lt p. search rules) in
    record { sound = tt; none = inr (filled, twice_breaks held filled c.in-Ok.end c.in-Ok.ensures.listed twice) }

pub returns-then-are_blank : goal.returns-then-are_blank
returns-then-are_blank c =
    let held = kept_in c.args.room.now in
    let e = c.in-Ok.ensures in
    let filled = read_rows held c.if-not-are_read.ensures in
    let has : HasBlocks c.fill.new.self (block_held held) c.in-Ok.end = c.if-not-fill.ensures (block_held held) (λ k b lt p. search rules) in
    record {
      sound = record {
        read = c.if-not-are_read.ensures;
        joined = joined held filled c.fill.new.self c.in-Ok.end (listed_indexed held filled c.in-Ok.end e.listed c.fill.new.self has) e.inside c.if-are_blank.ensures;
      };
      none = tt;
    }

pub returns-else-are_blank : goal.returns-else-are_blank
returns-else-are_blank c =
    let held = kept_in c.args.room.now in
    let e = c.in-Ok.ensures in
    let filled = read_rows held c.if-not-are_read.ensures in
    let has : HasBlocks c.fill.new.self (block_held held) c.in-Ok.end = c.if-not-fill.ensures (block_held held) (λ k b lt p. search rules) in
    record {
      sound = tt;
      none = inr (filled, gap_breaks held filled c.fill.new.self c.in-Ok.end (listed_indexed held filled c.in-Ok.end e.listed c.fill.new.self has) e.blank c.if-are_blank.ensures);
    }
