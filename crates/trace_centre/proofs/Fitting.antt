-- The acts of the centre's calls: what they commit, and which replies they may get.
use Rattle.std.proofs.Common.{◌≡◌, ℕ, refl}
use Rattle.std.specs.Prelude.{IfSome}
use Rattle.bench_base.specs.declared.{words.Node.TheVariants.Centre, events.Reply.Reply}
use Rattle.bench_base.specs.Replies.{Did, class_of}
use Rattle.node_acts.specs.declared.{act.Act.Act, said.Said.Said}
use Rattle.node_acts.specs.Acts.{commit_of}
use Rattle.node_acts.specs.Plans.{IsOfNode}
use Rattle.node_acts.specs.Said.{IsPlain}
use Rattle.node_acts.specs.Views.{View}
use Rattle.node_acts.proofs.OfCommits.{of_commit, commit_says, of_both}
use Rattle.trace_nodes.proofs.Acts as each
use Rattle.trace_nodes.proofs.Acts.{plain_says}
use Rattle.centre_ledger.specs.declared.{rows.Row.Row, taking.CentreAnswer.CentreAnswer}
use Rattle.centre_ledger.specs.declared.taking.CentreAnswer.TheVariants as answer
use Rattle.centre_ledger.specs.Acts as acts
use Rattle.centre_ledger.specs.ActLaws.{LeavesSound, SoundActs}
use Rattle.centre_ledger.specs.Books.{Books}
use Rattle.centre_ledger.specs.Plans.{told_taken}
use Rattle.centre_ledger.specs.Seen.{Seen, books_in, counting, IsKnown}
use Rattle.bench_abstraction.specs.declared.calls.CentreCall.{CentreCall}
use Rattle.bench_abstraction.specs.declared.calls.CentreCall.TheVariants as call
use Rattle.bench_abstraction.specs.Centre.{centre_act}
use Rattle.trace_nodes.specs.TracedNodes.{FitsAct}
use Rattle.trace_centre.specs.Placed.{PlacesAct}
use Rattle.trace_centre.specs.Records.{IsFit, IsRanged}
use Rattle.trace_centre.proofs.Kept.{put_known}

pub leaves_by : (b : Books) → SoundActs b → (c : CentreCall) → IsRanged c → LeavesSound b (centre_act c b)
leaves_by b sound (call.Register c) ranged = commit_says _ _ _ (acts.register_act c.device c.origin c.key b) (sound.registered c.device c.origin c.key ranged.0 ranged.1)
leaves_by b sound (call.Open c) ranged = commit_says _ _ _ (acts.open_act c.customer b) (sound.opened c.customer ranged)
leaves_by b sound (call.Deposit c) ranged = commit_says _ _ _ (acts.deposit_act c.customer c.receipt c.amount b) (sound.deposited c.customer c.receipt c.amount)
leaves_by b sound (call.Flag c) ranged = commit_says _ _ _ (acts.flag_act c.customer c.suspended b) (sound.flagged c.customer c.suspended)
leaves_by b sound (call.Balance c) ranged = commit_says _ _ _ (acts.balance_act c.customer b) (sound.balanced c.customer)
leaves_by b sound (call.Take c) ranged = commit_says _ _ _ (acts.take_act c.bytes b) (sound.taken c.bytes ranged)

pub fits_by : {F A : Type 0} (s : Seen) (act : Act Row F A) → LeavesSound (books_in s) act → PlacesAct act → FitsAct (λ t x. IsFit t x) s act
fits_by s act leaves has = of_commit _ _ act (of_both _ _ act leaves has) (λ c x both. record { has = both.1; sound = both.0.0 })

pub own_by : {F A : Type 0} (b : Books) (act : Act Row F A) → LeavesSound b act → IsOfNode Centre act
own_by b act leaves = of_commit _ _ act leaves (λ c x left. left.1)

-- == what it says ==

took_did : (k : ℕ) (a : CentreAnswer) → class_of (told_taken k a).reply ≡ Did
took_did k (answer.Ruled d n v note again) = refl
took_did k (answer.Settled d n again) = refl

pub call_plain : (c : CentreCall) (b : Books) → IsPlain (centre_act c b)
call_plain (call.Register c) b = plain_says _ _ (λ x. refl) (λ a. refl) (acts.register_act c.device c.origin c.key b)
call_plain (call.Open c) b = plain_says _ _ (λ x. refl) (λ a. refl) (acts.open_act c.customer b)
call_plain (call.Deposit c) b = plain_says _ _ (λ x. refl) (λ x. refl) (acts.deposit_act c.customer c.receipt c.amount b)
call_plain (call.Flag c) b = plain_says _ _ (λ x. refl) (λ a. refl) (acts.flag_act c.customer c.suspended b)
call_plain (call.Balance c) b = plain_says _ _ (λ x. refl) (λ a. refl) (acts.balance_act c.customer b)
call_plain (call.Take c) b = plain_says _ _ (λ x. refl) (took_did c.message) (acts.take_act c.bytes b)

-- == the record after it ==

pub commit_known : (v : View Seen) (act : Act Row Reply Said) → IsKnown v.state → LeavesSound (books_in v.state) act → PlacesAct act → IfSome (commit_of counting v act) (λ y. IsKnown y.1)
commit_known v act known leaves has = each.commit_known counting IsKnown v act (of_commit _ _ act (of_both _ _ act leaves has) (λ c x both worn. put_known v.state x known both.1 worn both.0.0))
