use Rattle.std.proofs.Common.{◌≢◌, ℕ, ◌<◌, map, get_or}
use Rattle.std.specs.Prelude.{string_bytes}
use Rattle.audit_words.proofs.reading.has_word.Given as goal

abbrev pub invariant-loop-at : goal.invariant-loop-at
invariant-loop-at l = (k : ℕ) → k < l.at → get_or (map string_bytes l.words) k l.wanted ≢ l.wanted
