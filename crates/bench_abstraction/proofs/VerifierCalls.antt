-- What the verifier is called for: its plan, its commit, and what is seen of it afterwards.
use Rattle.std.proofs.Common.{◌≡◌, ℕ, ℤ, List, [], Option, Some, refl, sym, ◌∙◌, ap}
use Rattle.std.specs.Prelude.{drop, nat_le}
use Rattle.bench_base.specs.declared.{words.Node.TheVariants.Verifier, sizes.TheConstants.MOST_COMMITS, refusals.ScanRefusal.ScanRefusal, ledger.Commit.Commit, events.Event.Event}
use Rattle.bench_base.specs.declared.events.Reply.TheVariants as r
use Rattle.bench_base.specs.Rules.{todays_rules}
use Rattle.bench_base.specs.Plans.{Plan}
use Rattle.bench_base.specs.Table.{IsBytes}
use Rattle.bench_base.specs.Ranges.{IsDevice, IsKey, IsCount}
use Rattle.bench_base.specs.Cells as cells
use Rattle.bench_base.specs.Ledger.{Ledger, day_in, count_of, counted}
use Rattle.bench_base.specs.Events.{IsWholeEvent}
use Rattle.node_acts.specs.declared.{asked.Asked.Asked, asked.Asked.TheVariants.Call, said.Said.Said}
use Rattle.node_acts.specs.Plans.{IsOfNode}
use Rattle.node_acts.specs.Kinds.{node_plan, OfCall}
use Rattle.node_acts.specs.RowList.{row_at, commits_at, commits_in}
use Rattle.node_acts.specs.RowList as rows
use Rattle.node_acts.specs.Said.{said_plan, seen_plan}
use Rattle.node_acts.proofs.OfCommits.{of_commit, of_both, commit_says}
use Rattle.ledger_moves.specs.Tariffs.{Tariff}
use Rattle.ledger_moves.specs.Moves.{plan, at_node, scan_plan, scan_sent}
use Rattle.verifier.specs.declared.acts.Change.{Change}
use Rattle.verifier.specs.Acts.{ScanAct, trust_by, trust_act, scan_by, scan_act}
use Rattle.verifier.specs.Plans.{says, told_trusted, told_accepted, in_commits}
use Rattle.verifier.specs.ActLaws.{LeavesSound, SoundActs, ActsLeaveSound, IsNext, FollowsCommits, FollowingActs, ActsFollow, PlannedActs, ActsArePlanned}
use Rattle.verifier.specs.Records.{seen_after, IsRecorded}
use Rattle.verifier.specs.Seen.{Seen, cell_of, counting, IsKnown}
use Rattle.bench_abstraction.specs.declared.calls.VerifierCall.{VerifierCall}
use Rattle.bench_abstraction.specs.declared.calls.VerifierCall.TheVariants as call
use Rattle.bench_abstraction.specs.declared.routing.Routed.TheVariants as route
use Rattle.bench_abstraction.specs.declared.routing.OfDay.TheVariants as of_day
use Rattle.bench_abstraction.specs.Routing.{routed}
use Rattle.bench_abstraction.specs.Tariff.{Quote}
use Rattle.bench_abstraction.specs.Verifier.{verifier_act, verifier_kind, AreBytes}
use Rattle.bench_abstraction.specs.Messages.{sent_in}
use Rattle.bench_abstraction.proofs.Calling.{at_seen, IsWornAlike}
use Rattle.bench_abstraction.proofs.Counts.{top_is}
use Rattle.bench_abstraction.proofs.Events.{each_of_verifier}
use Rattle.bench_abstraction.proofs.Sent.{sent_at}
use Rattle.bench_abstraction.proofs.Shown.{verifier_view}
use Rattle.bench_abstraction.proofs.Steps.{IsQuiet, IsQuietAct, IsRight, quiet_says}

-- the numbers of the call fit their fields
abbrev pub IsWholeCall : VerifierCall → Type 0
IsWholeCall (call.Trust c) = IsDevice c.device × IsKey c.key
IsWholeCall (call.Scan c) = IsCount c.number × IsBytes c.bytes

-- == what is said ==

refused_quiet : (y : ScanRefusal) → IsQuiet (r.ScanRefused y)
refused_quiet y = tt

pub call_quiet : (today : ℤ) (c : VerifierCall) (s : Seen) → IsQuietAct (verifier_act today c s)
call_quiet today (call.Trust c) s = quiet_says r.ScanRefused _ refused_quiet (λ u. refl) (trust_act c.device c.key s)
call_quiet today (call.Scan c) s = quiet_says r.ScanRefused (told_accepted c.number) refused_quiet (λ a. refl) (scan_act c.number c.bytes today s)

-- == at a ledger ==

module _ (H : Ledger) (recorded : IsRecorded (counted H)) (known : IsKnown (seen_after (counted H))) (sound : ActsLeaveSound) (follow : ActsFollow) (planned : ActsArePlanned) where
  abbrev C : List Commit
  C = counted H

  abbrev s : Seen
  s = seen_after C

  leaving : SoundActs s
  leaving = sound s known.sound

  following : FollowingActs C
  following = follow.each C recorded

  plans : PlannedActs C
  plans = planned C recorded

  -- an act of these rows: its commit, if it makes one, is the verifier's, and leads to the rows after it
  abbrev IsGood : {A : Type 0} → ScanAct A → Type 0
  IsGood act = LeavesSound s act × FollowsCommits C act

  own : {A : Type 0} (act : ScanAct A) → IsGood act → IsOfNode Verifier act
  own act good = of_commit _ _ act good.0 (λ c x leaves. leaves.1)

  right : {A : Type 0} (act : ScanAct A) → IsGood act → IsRight counting Verifier seen_after H act
  right act good = of_commit _ _ act (of_both _ _ act good.0 good.1) (λ c x both. (both.0.1, λ on fresh. sym both.1.seen))

  -- the cell of a change is worn where the ledger says so
  worn : (c : Commit) (x : Change) → IsNext C c x → cells.is_worn c C ≡ rows.is_worn s (cell_of x)
  unfolding cells.is_worn
  worn c x next = ap (λ (n : ℕ). nat_le MOST_COMMITS n) (sym next.count) ∙ top_is (commits_at (row_at s (cell_of x))) MOST_COMMITS (known.few (cell_of x))

  worn_alike : {A : Type 0} (act : ScanAct A) → IsGood act → IsWornAlike counting Verifier seen_after H act
  worn_alike act good = of_commit _ _ act good.1 worn

  -- == each call ==

  trust_good : (d : ℕ) (key : List ℕ) → IsDevice d → IsKey key → IsGood (trust_act d key s)
  trust_good d key device fits = (leaving.trusted d key device fits, following.trusted d key device fits)

  scan_good : (n : ℕ) (bytes : List ℕ) (today : ℤ) → IsCount n → IsBytes bytes → IsGood (scan_act n bytes today s)
  scan_good n bytes today count are = (leaving.scanned n bytes today count are, following.scanned n bytes today count are)

  pub call_own : (today : ℤ) (c : VerifierCall) → IsWholeCall c → IsOfNode Verifier (verifier_act today c s)
  call_own today (call.Trust c) whole = commit_says _ _ _ (trust_act c.device c.key s) (own (trust_act c.device c.key s) (trust_good c.device c.key whole.0 whole.1))
  call_own today (call.Scan c) whole = commit_says _ _ _ (scan_act c.number c.bytes today s) (own (scan_act c.number c.bytes today s) (scan_good c.number c.bytes today whole.0 whole.1))

  pub call_right : (today : ℤ) (c : VerifierCall) → IsWholeCall c → IsRight counting Verifier seen_after H (verifier_act today c s)
  call_right today (call.Trust c) whole = commit_says _ _ _ (trust_act c.device c.key s) (right (trust_act c.device c.key s) (trust_good c.device c.key whole.0 whole.1))
  call_right today (call.Scan c) whole = commit_says _ _ _ (scan_act c.number c.bytes today s) (right (scan_act c.number c.bytes today s) (scan_good c.number c.bytes today whole.0 whole.1))

  -- == its plan ==

  -- at the verifier, the plan of an act is what is seen, by how it says what it answers
  at : {A : Type 0} (say : A → Said) (act : ScanAct A) → IsGood act → (planned_as : ScanAct A) → act ≡ planned_as → at_node Verifier H (said_plan (says say planned_as)) ≡ seen_plan counting Verifier (verifier_view H) (says say act)
  at {A} say act good planned_as is =
      ap (λ (x : ScanAct A). at_node Verifier H (said_plan (says say x))) (sym is)
      ∙ at_seen counting Verifier seen_after H (says say act) (commit_says _ r.ScanRefused say act (own act good)) (commit_says _ r.ScanRefused say act (worn_alike act good))

  -- bytes that are scanned
  scans : (today : ℤ) (n : ℕ) (bytes : List ℕ) → IsCount n → IsBytes bytes → scan_plan n today bytes H ≡ seen_plan counting Verifier (verifier_view H) (verifier_act today (call.Scan (record { number = n; bytes = bytes })) s)
  scans today n bytes count are = at (told_accepted n) (scan_act n bytes today s) (scan_good n bytes today count are) (scan_by n bytes today (in_commits C)) (plans.scanned n bytes today)

  abbrev ByView : ℤ → Asked VerifierCall → Plan
  ByView today asked = node_plan counting Verifier (verifier_kind.plan tt today (verifier_view H)) (verifier_view H) asked

  pub planned_call : (τ : Tariff) (today : ℤ) (quote : Quote) → day_in H ≡ Some today → commits_in (seen_after C) ≡ count_of Verifier C → (e : Event) (asked : Asked VerifierCall)
      → routed (sent_in H) quote e ≡ Some (route.OfDay (of_day.Verifier asked)) → IsWholeEvent e → AreBytes asked → plan τ todays_rules H e [] ≡ ByView today asked
  unfolding plan
  planned_call τ today quote day counts = each_of_verifier (sent_in H) quote (λ e asked. IsWholeEvent e → AreBytes asked → plan τ todays_rules H e [] ≡ ByView today asked) (record {
    on = λ whole bytes. rw (day, sym counts) refl;
    off = λ whole bytes. rw day refl;
    cut = λ calls keep byte whole bytes. rw day refl;
    trust = λ d key whole bytes. rw day (at (told_trusted d) (trust_act d key s) (trust_good d key whole.0 whole.1) (trust_by d key (in_commits C)) (plans.trusted d key));
    scan = λ n bytes whole are. rw day (scans today n bytes (whole.0, whole.1) are);
    message = λ n k bytes there whole are. rw day (ap (λ (o : Option (List ℕ)). scan_sent n today k o H) (sym (sent_at H k) ∙ there) ∙ scans today n (drop 2 bytes) (whole.0, whole.1) are);
  })

-- == the numbers of a call ==

abbrev IsWholeAsked : Asked VerifierCall → Type 0
IsWholeAsked = OfCall IsWholeCall

-- they are those of its event, and of what is scanned
pub whole_call : (H : Ledger) (quote : Quote) (e : Event) (c : VerifierCall) → routed (sent_in H) quote e ≡ Some (route.OfDay (of_day.Verifier (Call c))) → IsWholeEvent e → AreBytes (Call c) → IsWholeCall c
whole_call H quote e c of = each_of_verifier (sent_in H) quote (λ i asked. IsWholeEvent i → AreBytes asked → IsWholeAsked asked) (record {
  on = λ whole bytes. tt;
  off = λ whole bytes. tt;
  cut = λ calls keep byte whole bytes. tt;
  trust = λ d key whole bytes. whole;
  scan = λ n bytes whole are. ((whole.0, whole.1), are);
  message = λ n k bytes there whole are. ((whole.0, whole.1), are);
}) e (Call c) of
