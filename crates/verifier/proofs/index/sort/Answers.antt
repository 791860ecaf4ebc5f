use Rattle.std.proofs.Common.{rules}
use Rattle.std.proofs.lemmas.List.Sorted.{IsNonDecreasingBy-from_sort_by_key}
use Rattle.verifier.specs.Index.{rank_of}
use Rattle.verifier.specs.declared.index.Entry.{Entry}
use Rattle.verifier.proofs.index.sort.Goals as goal

pub returns-clause-sorted : goal.returns-clause-sorted
returns-clause-sorted c = IsNonDecreasingBy-from_sort_by_key (λ (e : Entry). rank_of e) _ c.sort_unstable_by_key.ensures.sorted (λ a r q k. search rules)
