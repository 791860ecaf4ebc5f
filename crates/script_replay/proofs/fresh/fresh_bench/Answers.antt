use Rattle.script_replay.proofs.Stores.{fresh_at, all_work, all_blank}
use Rattle.script_replay.proofs.fresh.fresh_bench.Goals as goal

pub new-requires-clause-eight : goal.new-requires-clause-eight
new-requires-clause-eight c = c.in_ok-blanks.ensures.eight

pub new-requires-clause-fresh : goal.new-requires-clause-fresh
new-requires-clause-fresh c = all_work _ _ c.in_ok-blanks.ensures.fresh c.in_ok-fresh_store.ensures c.in_ok-fresh_store-2.ensures c.in_ok-fresh_store-3.ensures

pub returns-in-Ok-clause-stands : goal.returns-in-Ok-clause-stands
returns-in-Ok-clause-stands c = c.in-Ok.ensures.blank (all_blank _ _ c.in_ok-blanks.ensures.fresh c.in_ok-fresh_store.ensures c.in_ok-fresh_store-2.ensures c.in_ok-fresh_store-3.ensures)

pub returns-in-Ok-clause-made : goal.returns-in-Ok-clause-made
returns-in-Ok-clause-made c = record {
  stores = _;
  over = c.in-Ok.ensures.over;
  fresh = fresh_at _ _ c.in_ok-blanks.ensures.fresh c.in_ok-fresh_store.ensures c.in_ok-fresh_store-2.ensures c.in_ok-fresh_store-3.ensures;
}
