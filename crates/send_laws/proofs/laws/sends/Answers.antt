use Rattle.bench_base.specs.Replies.{class_of}
use Rattle.bench_base.specs.Rules.{todays_rules}
use Rattle.ledger_moves.specs.Moves.{plan}
use Rattle.send_laws.proofs.Kept.{ordered_kept}
use Rattle.send_laws.proofs.Sending.{sent_for, order_of}
use Rattle.send_laws.proofs.laws.sends.Goals as goal

pub returns-clause-kept : goal.returns-clause-kept
returns-clause-kept c τ H x text reply j a is = ordered_kept j a (plan τ todays_rules H x text) (class_of reply) H is

pub returns-clause-sent : goal.returns-clause-sent
returns-clause-sent c τ ρ ρs H E h j i k text moved = sent_for τ ρ ρs H E h j i k text moved

pub returns-clause-one : goal.returns-clause-one
returns-clause-one c τ ρ ρs H E h j d p a k within = order_of τ ρ ρs H E h j d p a k within
