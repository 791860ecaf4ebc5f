-- The acts of the verifier's calls: what they commit, and which replies they may get.
use Rattle.std.proofs.Common.{◌≡◌, ℤ, ◌<◌, false, length, refl, arith}
use Rattle.std.specs.Prelude.{IfSome}
use Rattle.bench_base.specs.declared.{words.Node.TheVariants.Verifier, events.Reply.Reply}
use Rattle.node_acts.specs.declared.{act.Act.Act, said.Said.Said}
use Rattle.node_acts.specs.Acts.{commit_of}
use Rattle.node_acts.specs.Plans.{IsOfNode}
use Rattle.node_acts.specs.Said.{IsPlain}
use Rattle.node_acts.specs.Views.{View}
use Rattle.node_acts.specs.RowList.{is_worn}
use Rattle.node_acts.proofs.OfCommits.{of_commit, commit_says}
use Rattle.trace_nodes.proofs.Acts as each
use Rattle.trace_nodes.proofs.Acts.{plain_says}
use Rattle.verifier.specs.declared.acts.Change.{Change}
use Rattle.verifier.specs.Acts as acts
use Rattle.verifier.specs.ActLaws.{IsFit, LeavesSound, SoundActs}
use Rattle.verifier.specs.Seen.{Seen, cell_of, counting, IsKnown}
use Rattle.bench_abstraction.specs.declared.calls.VerifierCall.{VerifierCall}
use Rattle.bench_abstraction.specs.declared.calls.VerifierCall.TheVariants as call
use Rattle.bench_abstraction.specs.Verifier.{verifier_act}
use Rattle.trace_nodes.specs.TracedNodes.{FitsAct}
use Rattle.trace_verifier.specs.Records.{IsRanged}
use Rattle.trace_verifier.proofs.Kept.{few_put}

pub leaves_by : (s : Seen) → SoundActs s → (today : ℤ) (c : VerifierCall) → IsRanged c → LeavesSound s (verifier_act today c s)
leaves_by s sound today (call.Trust c) ranged = commit_says _ _ _ (acts.trust_act c.device c.key s) (sound.trusted c.device c.key ranged.0 ranged.1)
leaves_by s sound today (call.Scan c) ranged = commit_says _ _ _ (acts.scan_act c.number c.bytes today s) (sound.scanned c.number c.bytes today ranged.0 ranged.1)

pub fits_by : {F A : Type 0} (s : Seen) (act : Act Change F A) → LeavesSound s act → FitsAct (λ t x. IsFit t x) s act
fits_by s act leaves = of_commit _ _ act leaves (λ c x left. left.0)

pub own_by : {F A : Type 0} (s : Seen) (act : Act Change F A) → LeavesSound s act → IsOfNode Verifier act
own_by s act leaves = of_commit _ _ act leaves (λ c x left. left.1)

-- == what it says ==

pub call_plain : (today : ℤ) (c : VerifierCall) (s : Seen) → IsPlain (verifier_act today c s)
call_plain today (call.Trust c) s = plain_says _ _ (λ x. refl) (λ a. refl) (acts.trust_act c.device c.key s)
call_plain today (call.Scan c) s = plain_says _ _ (λ x. refl) (λ a. refl) (acts.scan_act c.number c.bytes today s)

-- == the record after it ==

-- of a change that its rows can take
put_known : (s : Seen) (x : Change) → IsKnown s → IsFit s x → counting.is_worn s x ≡ false → IsKnown (counting.after s x)
put_known s x known fits worn =
    let inside : cell_of x < length s = omega (arith, fits.inside, known.sound.long) in
    record { sound = fits.sound; few = few_put s x inside known.few worn }

pub commit_known : (v : View Seen) (act : Act Change Reply Said) → IsKnown v.state → LeavesSound v.state act → IfSome (commit_of counting v act) (λ y. IsKnown y.1)
commit_known v act known leaves = each.commit_known counting IsKnown v act (of_commit _ _ act leaves (λ c x left worn. put_known v.state x known left.0 worn))
