use Rattle.std.proofs.Common.{◌⊎◌, inl, inr, ℕ}
use Rattle.bench_base.specs.declared.events.Event.{Event}
use Rattle.bench_base.specs.Ledger.{Ledger}
use Rattle.bench_base.specs.Replies.{class_of}
use Rattle.bench_base.specs.Rules.{todays_rules}
use Rattle.ledger_moves.specs.Moves.{plan}
use Rattle.scan_laws.specs.Acceptances.{EachAccepted, HasAccepted, IsScanOf}
use Rattle.scan_laws.proofs.Accepting.{by_move}
use Rattle.scan_laws.proofs.Entries.{each_of, of_each, told_each}
use Rattle.scan_laws.proofs.Marked.{released_postage, one_number}
use Rattle.scan_laws.proofs.Plans.{plan_brings}
use Rattle.scan_laws.proofs.laws.scans.Goals as goal

-- there before, or of this scan
abbrev IsHere : Ledger → Event → ℕ → ℕ → ℕ → Type 0
IsHere H x d p n = HasAccepted H d p n ⊎ IsScanOf d p n x

pub returns-clause-others : goal.returns-clause-others
returns-clause-others c τ H x text reply =
    let before : EachAccepted (IsHere H x) H = record { counts = λ d p n within. inl (inl within); torn = λ m d p n is. inl (inr (m, is)) } in
    of_each (IsHere H x) _ (told_each (IsHere H x) (plan τ todays_rules H x text) (class_of reply) H (plan_brings (IsHere H x) H τ x text (λ d p n scan. inr scan)) (each_of (IsHere H x) H before))

pub returns-clause-accepted : goal.returns-clause-accepted
returns-clause-accepted c τ H text n bytes d p m again moves = by_move n bytes H τ text d p m again moves

pub returns-clause-postage : goal.returns-clause-postage
returns-clause-postage c τ ρ ρs H E h x k code released reads = released_postage τ ρ ρs H E h x k code released reads

pub returns-clause-once : goal.returns-clause-once
returns-clause-once c τ ρ ρs H E h d p n within = one_number τ ρ ρs H E h d p n within
