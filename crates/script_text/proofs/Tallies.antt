-- Tallies of replies.
use Rattle.std.proofs.Common.{◌≡◌, List, [], ◌∷◌, ◌++◌, ap, ◌∙◌, arith}
use Rattle.bench_base.specs.declared.events.Reply.{Reply}
use Rattle.script_text.specs.Summaries.{Tally, column_of, one_in, nothing, together, tally_of}

together_assoc : (s t u : Tally) → together s (together t u) ≡ together (together s t) u
together_assoc s t u = grind arith

together_nothing : (s : Tally) → together s nothing ≡ together nothing s
together_nothing s = grind arith

-- one reply more
pub tally_push : (replies : List Reply) (reply : Reply) → tally_of (replies ++ reply ∷ []) ≡ together (tally_of replies) (one_in (column_of reply))
tally_push [] reply = together_nothing (one_in (column_of reply))
tally_push (r ∷ replies) reply =
    ap (λ t. together (one_in (column_of r)) t) (tally_push replies reply) ∙ together_assoc (one_in (column_of r)) (tally_of replies) (one_in (column_of reply))
