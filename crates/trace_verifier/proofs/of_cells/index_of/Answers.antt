use Rattle.std.proofs.Common.{rules}
use Rattle.verifier.specs.Index.{HasBlocks, HasTwice}
use Rattle.trace_verifier.specs.Helds.{seen_by}
use Rattle.trace_verifier.specs.Listed.{block_shown}
use Rattle.trace_verifier.proofs.Listed.{listed_indexed, twice_breaks, joined, gap_breaks}
use Rattle.trace_verifier.proofs.of_cells.index_of.Goals as goal

pub returns-then-not-fill-clause-none : goal.returns-then-not-fill-clause-none
returns-then-not-fill-clause-none c =
    let s = seen_by c.args.cells.now in
    let twice : HasTwice (block_shown s) c.in_ok-end.end = c.if-not-fill.ensures (block_shown s) (λ k b lt p. search rules) in
    twice_breaks s c.requires c.in_ok-end.end c.in_ok-end.ensures.listed twice

pub returns-then-are_blank-clause-some : goal.returns-then-are_blank-clause-some
returns-then-are_blank-clause-some c =
    let s = seen_by c.args.cells.now in
    let e = c.in_ok-end.ensures in
    let has : HasBlocks c.fill.new.self (block_shown s) c.in_ok-end.end = c.if-not-fill.ensures (block_shown s) (λ k b lt p. search rules) in
    joined s c.requires c.fill.new.self c.in_ok-end.end (listed_indexed s c.requires c.in_ok-end.end e.listed c.fill.new.self has) e.inside c.if-are_blank.ensures

pub returns-else-are_blank-clause-none : goal.returns-else-are_blank-clause-none
returns-else-are_blank-clause-none c =
    let s = seen_by c.args.cells.now in
    let e = c.in_ok-end.ensures in
    let has : HasBlocks c.fill.new.self (block_shown s) c.in_ok-end.end = c.if-not-fill.ensures (block_shown s) (λ k b lt p. search rules) in
    gap_breaks s c.requires c.fill.new.self c.in_ok-end.end (listed_indexed s c.requires c.in_ok-end.end e.listed c.fill.new.self has) e.blank c.if-are_blank.ensures
