-- The acts of the verifier's calls: what they change, and how they are reported.
use Rattle.std.proofs.Common.{◌≢◌, ℕ, ℤ, List, Bool, true, false, Option, Some, None, Result, Ok, Err, refl, inr, arith}
use Rattle.std.specs.Prelude.{is_some}
use Rattle.bench_base.specs.declared.{words.Node.TheVariants.Verifier, refusals.MarkFault.MarkFault, refusals.ScanRefusal.ScanRefusal}
use Rattle.bench_base.specs.declared.events.Event.TheVariants as ev
use Rattle.bench_base.specs.declared.events.Reply.TheVariants as r
use Rattle.bench_base.proofs.Rows.{chosen}
use Rattle.node_acts.specs.Plans.{IsOfNode}
use Rattle.node_acts.proofs.OfCommits.{of_commit, commit_says}
use Rattle.node_storage.specs.declared.node.Node.{Ghosts}
use Rattle.node_storage.specs.Shown.{IsFitting}
use Rattle.node_turns.proofs.Calls.{IsCallOf, IsToldBy, MayRefuse}
use Rattle.indicium.specs.declared.Mark.{Mark}
use Rattle.indicium.specs.Marks.{read_mark}
use Rattle.psd_wire.specs.Codes.{has_code}
use Rattle.verifier.specs.declared.{acts.Accepted.Accepted, acts.Change.Change, acts.Spot.Spot}
use Rattle.verifier.specs.Acts as acts
use Rattle.verifier.specs.Acts.{ScanAct}
use Rattle.verifier.specs.ActLaws.{IsFit, LeavesSound, SoundActs}
use Rattle.verifier.specs.Seen.{Seen, AreSound, key_at, spot_in}
use Rattle.verifier.specs.Plans.{told_trusted, told_accepted}
use Rattle.verifier.proofs.LawActs.{leaves}
use Rattle.bench_abstraction.specs.declared.calls.VerifierCall.{VerifierCall}
use Rattle.bench_abstraction.specs.declared.calls.VerifierCall.TheVariants as call
use Rattle.bench_abstraction.specs.Verifier.{verifier_act, IsBytesCall}
use Rattle.bench.specs.Calls.{verifier_call_event, IsRangedScan}
use Rattle.bench.proofs.Calls.{polite_says, told_made}

-- == what a call changes ==

module _ {K S R : Type 0} (n : Ghosts K S (Unit {0}) Change R) (rows : Seen) (sound : AreSound rows) (s : n.Seen) (from : (x : Change) → IsFit rows x → n.IsFrom tt s x) where
  sound_acts : SoundActs rows
  sound_acts = leaves rows sound

  by : {A : Type 0} (act : ScanAct A) → LeavesSound rows act → IsFitting n tt s act
  by act left = of_commit _ _ act left (λ c x leaves. from x leaves.0)

  -- it leaves sound rows
  pub call_fits : (today : ℤ) (c : VerifierCall) → IsRangedScan c → IsBytesCall c → IsFitting n tt s (verifier_act today c rows)
  call_fits today (call.Trust c) ranged bytes = commit_says _ _ _ (acts.trust_act c.device c.key rows) (by (acts.trust_act c.device c.key rows) (sound_acts.trusted c.device c.key ranged.0 ranged.1))
  call_fits today (call.Scan c) ranged bytes = commit_says _ _ _ (acts.scan_act c.number c.bytes today rows) (by (acts.scan_act c.number c.bytes today rows) (sound_acts.scanned c.number c.bytes today ranged bytes))

-- == the node of each commit ==

trust_own : (d : ℕ) (key : List ℕ) (known : Bool) → IsOfNode Verifier (acts.trusted_act d key known)
trust_own d key true = tt
trust_own d key false = refl

answer_own : (n : ℕ) (k : Mark) (cell : ℕ) (result : Result Bool ScanRefusal) → IsOfNode Verifier (acts.answered_act n k cell result)
answer_own n k cell (Err x) = tt
answer_own n k cell (Ok true) = tt
answer_own n k cell (Ok false) = refl

marked_own : (n : ℕ) (bytes : List ℕ) (k : Mark) (today : ℤ) (key : Option (List ℕ)) (spot : Spot) → IsOfNode Verifier (acts.marked_act n bytes k today key spot)
marked_own n bytes k today None spot = tt
marked_own n bytes k today (Some key) spot = chosen (λ (a : ScanAct Accepted). IsOfNode Verifier a) (has_code key bytes) _ _ (λ _. answer_own n k spot.cell _) (λ _. tt)

read_own : (n : ℕ) (bytes : List ℕ) (today : ℤ) (s : Seen) (result : Result (Mark × List ℕ) MarkFault) → IsOfNode Verifier (acts.read_act n bytes today (acts.in_rows s) result)
read_own n bytes today s (Err fault) = tt
read_own n bytes today s (Ok k) = marked_own n bytes k.0 today (key_at s k.0.device) (spot_in s k.0.device k.0.piece)

-- == how they are reported ==

pub call_of : (c : VerifierCall) → IsCallOf Verifier (verifier_call_event c)
call_of (call.Trust c) = record { on = refl; at = refl; no_switch = λ e. cc; no_cut = λ calls keep byte e. cc }
call_of (call.Scan c) = record { on = refl; at = refl; no_switch = λ e. cc; no_cut = λ calls keep byte e. cc }

no_off : (c : VerifierCall) → verifier_call_event c ≢ ev.Off Verifier
no_off (call.Trust c) = λ e. cc
no_off (call.Scan c) = λ e. cc

refused : (c : VerifierCall) (x : ScanRefusal) → MayRefuse Verifier (verifier_call_event c) (r.ScanRefused x)
refused c x = record {
  told = refl;
  on_day = λ e. cc;
  not_off = λ e. cc;
  gets = record { on = (call_of c).on; at = (call_of c).at; no_switch = no_off c };
}

pub call_told : (today : ℤ) (c : VerifierCall) (s : Seen) → IsToldBy Verifier (verifier_call_event c) (verifier_act today c s)
call_told today (call.Trust c) s = told_made Verifier _ refl (omega arith) _ (commit_says _ _ _ (acts.trust_act c.device c.key s) (trust_own c.device c.key (is_some (key_at s c.device))))
    (polite_says Verifier (ev.Trust c.device c.key) r.ScanRefused (told_trusted c.device) (refused (call.Trust c)) (λ u. record { told = refl; gets = (c.key, refl); adds = λ made none. (made, none, refl) }) (acts.trust_act c.device c.key s))
call_told today (call.Scan c) s = told_made Verifier _ refl (omega arith) _ (commit_says _ _ _ (acts.scan_act c.number c.bytes today s) (read_own c.number c.bytes today s (read_mark c.bytes)))
    (polite_says Verifier (ev.ScanHex c.number c.bytes) r.ScanRefused (told_accepted c.number) (refused (call.Scan c)) (λ a. record { told = refl; gets = inr (c.bytes, refl); adds = λ made none. (made, none, refl) }) (acts.scan_act c.number c.bytes today s))
