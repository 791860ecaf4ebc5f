-- The desk of claims moves as its model does, each move of the model is determined, it asks for scans, and its answer tells whether the verifier failed.
use Rattle.std.proofs.Common.{◌≡◌, ◌≢◌, ◌⊎◌, inl, inr, ℕ, ◌+◌, ◌-◌, List, [], ◌∷◌, get_or, Option, Some, None, Bool, true, false, ◌==◌, refl, sym, ap, ◌∙◌, subst, arith}
use Rattle.std.specs.Prelude.{codes}
use Rattle.std.proofs.lemmas.Option.{same_Some}
use Rattle.bench_base.specs.declared.{words.Node.Node, words.Node.TheVariants.Verifier, events.Event.Event, events.Reply.Reply, questions.Refusal.TheVariants.Verifier as OfVerifier, questions.Report.Report}
use Rattle.bench_base.specs.declared.events.Event.TheVariants as ev
use Rattle.bench_base.specs.declared.events.Reply.TheVariants as r
use Rattle.bench_base.specs.declared.questions.Report.TheVariants as report
use Rattle.bench_base.specs.Questions.{IsAccepted}
use Rattle.bench_base.specs.Replies.{report_of}
use Rattle.indicium.specs.declared.Mark.{Mark}
use Rattle.nv_model.specs.declared.nv.Nv as nv
use Rattle.node_acts.specs.RowList.{is_worn, put}
use Rattle.node_turns.specs.declared.turn.Turn.{Turn}
use Rattle.ledger_moves.specs.Tariffs.{Tariff}
use Rattle.script_text.specs.Texts.{reply_words, text_of, IsWholeReply, told_as, told, told_refusal}
use Rattle.line_extensions.specs.Trace.{StepRecord}
use Rattle.line_extensions.specs.Desks.{World, world, Asks, DidOwn}
use Rattle.line_extensions.specs.declared.{extension.Next.Next, extension.Next.TheVariants.Step, extension.Next.TheVariants.Say, extension.Next.TheVariants.Stop}
use Rattle.line_extensions.proofs.Wanting.{no_step, step_event, ends_at}
use Rattle.spoil_claims.specs.Claims.{Claims, kept, last_claim, credits, mark_of, scan_number}
use Rattle.spoil_claims.specs.ClaimsDesk.{claims_desk}
use Rattle.spoil_claims.specs.Courses as desk
use Rattle.spoil_claims.specs.Moves.{Either, row_for, as_credited, scan_of, Says, Scans, Repeats, ByKept, Begins, Credited, Scanned, GoesOn}
use Rattle.spoil_claims.specs.Texts.{said_texts, credited_text, credits_text, wrong_claim_text}
use Rattle.spoil_claims.specs.View.{said_of, has_failed, rows_of}
use Rattle.spoil_claims.specs.declared.{claim.ClaimLine.ClaimLine, claim.ClaimLine.TheVariants.Claim, claim.ClaimLine.TheVariants.Credits, claim.ClaimLine.TheVariants.Reserved, claim.ClaimRow.ClaimRow, desk.Desk.Desk, answer.Answer.Answer}
use Rattle.spoil_claims.specs.declared.answer.Answer.TheVariants as answers
use Rattle.spoil_claims.proofs.Answering.{CameOut, Done_, Worn_, Broke, either_by, rests_rows, tried}
use Rattle.spoil_claims.proofs.Reading.{one_own}
use Rattle.trace_bench.specs.Prefixes.{IsFailure}
use Rattle.trace_extensions.specs.Models.{IsModelOf, IsDetermined, IsSure, AsksSurely, EndsByFailure, AreFailures, AreToldOf, IsToldOf, TellsFailures, by_model}
use Rattle.trace_extensions.specs.Places.{Place, MayStep}
use Rattle.trace_extensions.specs.ClaimsModel.{Standing, standing, claims_view, ByWorn, standing_keeper, claims_model, ClaimFails}
use Rattle.trace_extensions.proofs.Failures.{no_event, same_event, accepted_fine, text_failures}
use Rattle.trace_extensions.proofs.Sure.{FailsAt, failure_or_none}

-- == the desk moves as the model does ==

module _ {N : Type 0} (g : nv.Ghosts N) where
  view_is : (k : Desk N g) (rows : Claims) (said : Answer) → rows_of k ≡ rows → said_of k ≡ said → claims_view k ≡ standing rows said
  view_is k rows said keeps says = ap (λ (c : Claims). standing c (said_of k)) keeps ∙ ap (λ (s : Answer). standing rows s) says

  says_modelled : (answer : Answer) (a : Desk N g) (next : Next) (b : Desk N g) → desk.Says answer a next b → Says standing_keeper answer (claims_view a) next (claims_view b)
  says_modelled answer a next b says = record { ends = says.ends; answers = says.answers; rests = rests_rows a b says.rests }

  scans_modelled : (x : ClaimRow) (a : Desk N g) (next : Next) (b : Desk N g) → desk.Scans x a next b → Scans standing_keeper x (claims_view a) next (claims_view b)
  scans_modelled x a next b scans = record { here = scans.here; asks = scans.asks; waits = scans.waits; rests = rests_rows a b scans.rests }

  repeats_modelled : (c : ℕ) (x : ClaimRow) (a : Desk N g) (next : Next) (b : Desk N g) → desk.Repeats c x a next b → Repeats standing_keeper c x (claims_view a) next (claims_view b)
  repeats_modelled c x a next b again = record { mark = again.mark; is = again.is; says = says_modelled (answers.Credited c again.mark true) a next b again.says }

  came_modelled : (x : ClaimRow) (meant : Answer) (then : Next) (a : Desk N g) (next : Next) (b : Desk N g) → CameOut x meant then (rows_of a) (rows_of b) (said_of b) next → next ≢ Stop
      → ByWorn (is_worn (rows_of a) (x.claim - 1)) x meant then (claims_view a) next (claims_view b)
  came_modelled x meant then a next b (Done_ fresh now is after) runs =
      subst (λ (w : Bool). ByWorn w x meant then (claims_view a) next (claims_view b)) (sym fresh) (is, view_is b (put (rows_of a) (x.claim - 1) x) meant after now)
  came_modelled x meant then a next b (Worn_ worn now is after) runs =
      subst (λ (w : Bool). ByWorn w x meant then (claims_view a) next (claims_view b)) (sym worn) (is, view_is b (rows_of a) answers.Worn after now)
  came_modelled x meant then a next b (Broke stop after) runs = absurd (runs stop)

  tries_modelled : (x : ClaimRow) (meant : Answer) (then : Next) (a : Desk N g) (next : Next) (b : Desk N g) → desk.Tries x meant then a next b → next ≢ Stop
      → ByWorn (is_worn (rows_of a) (x.claim - 1)) x meant then (claims_view a) next (claims_view b)
  tries_modelled x meant then a next b tries runs = came_modelled x meant then a next b (tried (has_failed a) x meant then a next b tries) runs

  kept_modelled : (o : Option ClaimRow) (c w : ℕ) (mark : List ℕ) (a : Desk N g) (next : Next) (b : Desk N g) → desk.ByKept o c w mark a next b → next ≢ Stop
      → ByKept standing_keeper o c w mark (claims_view a) next (claims_view b)
  kept_modelled (Some x) c w mark a next b (inl known) runs =
      inl (known.0, either_by x.credited (λ again. repeats_modelled c x a next b again) (λ scans. scans_modelled x a next b scans) known.1)
  kept_modelled (Some x) c w mark a next b (inr other) runs = inr (other.0, says_modelled answers.Conflict a next b other.1)
  kept_modelled None c w mark a next b did runs =
      either_by (c == last_claim (rows_of a) + 1)
      (λ fits. either_by (c == 1025) (λ full. says_modelled answers.Full a next b full)
      (λ tries. tries_modelled (row_for c w mark) (answers.Scanning c) (scan_of (row_for c w mark)) a next b tries runs) fits)
      (λ wrong. says_modelled (answers.WrongClaim (last_claim (rows_of a))) a next b wrong) did

  begins_modelled : (own : ClaimLine) (a : Desk N g) (next : Next) (b : Desk N g) → desk.Begins a own next b → next ≢ Stop → Begins standing_keeper (claims_view a) own next (claims_view b)
  begins_modelled (Claim c w mark) a next b begins runs = kept_modelled (kept (rows_of a) c) c w mark a next b begins runs
  begins_modelled (Credits w) a next b begins runs = says_modelled (answers.Credits w (credits w (rows_of a))) a next b begins
  begins_modelled Reserved a next b begins runs = says_modelled answers.Reserved a next b begins

  scanned_modelled : (c : ℕ) (reply : Reply) (a : Desk N g) (next : Next) (b : Desk N g) → desk.Scanned c reply a next b → next ≢ Stop
      → Scanned standing_keeper c reply (claims_view a) next (claims_view b)
  scanned_modelled c reply a next b scanned runs = record { row = scanned.row; is = scanned.is; number = scanned.number; did = by_reply scanned.did }
    where
      by_reply : ((IsAccepted reply × desk.Credited scanned.row a next b) ⊎ ((IsAccepted reply → ⊥) × desk.Says (answers.Scan reply) a next b))
          → (IsAccepted reply × Credited standing_keeper scanned.row (claims_view a) next (claims_view b))
          ⊎ ((IsAccepted reply → ⊥) × Says standing_keeper (answers.Scan reply) (claims_view a) next (claims_view b))
      by_reply (inl credit) =
          inl (
            credit.0,
            record {
              mark = credit.1.mark;
              is = credit.1.is;
              tries = tries_modelled (as_credited scanned.row) (answers.Credited scanned.row.claim credit.1.mark false) Say a next b credit.1.tries runs;
            },
          )
      by_reply (inr other) = inr (other.0, says_modelled (answers.Scan reply) a next b other.1)

  view_same : (a b : Desk N g) → b ≡ a → claims_view b ≡ claims_view a
  view_same a b same = ap (λ (k : Desk N g). claims_view k) same

  goes_modelled : (s : Answer) (reply : Reply) (a : Desk N g) (next : Next) (b : Desk N g) → desk.GoesOn s reply a next b → next ≢ Stop
      → GoesOn standing_keeper s reply (claims_view a) next (claims_view b)
  goes_modelled (answers.Scanning c) reply a next b goes runs = scanned_modelled c reply a next b goes runs
  goes_modelled answers.Nothing reply a next b goes runs = (goes.0, view_same a b goes.1)
  goes_modelled (answers.Credited c mark again) reply a next b goes runs = (goes.0, view_same a b goes.1)
  goes_modelled (answers.Credits w sum) reply a next b goes runs = (goes.0, view_same a b goes.1)
  goes_modelled answers.Conflict reply a next b goes runs = (goes.0, view_same a b goes.1)
  goes_modelled (answers.WrongClaim last) reply a next b goes runs = (goes.0, view_same a b goes.1)
  goes_modelled answers.Full reply a next b goes runs = (goes.0, view_same a b goes.1)
  goes_modelled answers.Reserved reply a next b goes runs = (goes.0, view_same a b goes.1)
  goes_modelled answers.Worn reply a next b goes runs = (goes.0, view_same a b goes.1)
  goes_modelled (answers.Scan t) reply a next b goes runs = (goes.0, view_same a b goes.1)

  pub claims_modelled : IsModelOf (claims_desk g) (λ k. claims_view k) claims_model
  claims_modelled = record {
    own = λ line. (λ is. is, λ is. is);
    passes = λ a line passes. passes;
    begins = λ a b own line next is begins runs. (own, is, begins_modelled own a next b begins runs);
    goes = λ a b turn next goes runs. goes_modelled (said_of a) turn.reply a next b goes runs;
    sees = λ a b e turn sees. view_same a b sees;
    texts = λ a. refl;
  }

-- == each move of the model is determined ==

one_either : {P Q R S X : Type 0} (b : Bool) → (P → R → X) → (Q → S → X) → Either b P Q → Either b R S → X
one_either true f h p q = f p q
one_either false f h p q = h p q

standing_is : (v : Standing) (rows : Claims) (said : Answer) → v.rows ≡ rows → v.said ≡ said → v ≡ standing rows said
standing_is v rows said keeps says = ap (λ (c : Claims). standing c v.said) keeps ∙ ap (λ (s : Answer). standing rows s) says

module _ (v : Standing) (next more : Next) (w z : Standing) where
  -- the two moves are one
  abbrev Agree : Type 0
  Agree = (next ≡ more) × (w ≡ z)

  one_place : (last : Next) (rows : Claims) (said : Answer) → (next ≡ last) × (w ≡ standing rows said) → (more ≡ last) × (z ≡ standing rows said) → Agree
  one_place last rows said p q = (p.0 ∙ sym q.0, p.1 ∙ sym q.1)

  one_says : (answer : Answer) → Says standing_keeper answer v next w → Says standing_keeper answer v more z → Agree
  one_says answer p q =
      one_place Say v.rows answer (p.ends, standing_is w v.rows answer p.rests p.answers) (q.ends, standing_is z v.rows answer q.rests q.answers)

  one_scans : (x : ClaimRow) → Scans standing_keeper x v next w → Scans standing_keeper x v more z → Agree
  one_scans x p q =
      one_place (scan_of x) v.rows (answers.Scanning x.claim) (p.asks, standing_is w v.rows (answers.Scanning x.claim) p.rests p.waits)
      (q.asks, standing_is z v.rows (answers.Scanning x.claim) q.rests q.waits)

  one_mark : (x : ClaimRow) (m n : Mark) → mark_of x.mark ≡ Some m → mark_of x.mark ≡ Some n → n ≡ m
  one_mark x m n is too = same_Some n m (sym too ∙ is)

  one_repeats : (c : ℕ) (x : ClaimRow) → Repeats standing_keeper c x v next w → Repeats standing_keeper c x v more z → Agree
  one_repeats c x p q =
      one_says (answers.Credited c p.mark true) p.says (subst (λ (m : Mark). Says standing_keeper (answers.Credited c m true) v more z) (one_mark x p.mark q.mark p.is q.is) q.says)

  one_tries : (b : Bool) (x : ClaimRow) (meant : Answer) (then : Next) → ByWorn b x meant then v next w → ByWorn b x meant then v more z → Agree
  one_tries true x meant then p q = one_place Say v.rows answers.Worn p q
  one_tries false x meant then p q = one_place then (put v.rows (x.claim - 1) x) meant p q

  one_kept : (o : Option ClaimRow) (c u : ℕ) (mark : List ℕ) → ByKept standing_keeper o c u mark v next w → ByKept standing_keeper o c u mark v more z → Agree
  one_kept (Some x) c u mark (inl p) (inl q) = one_either x.credited (λ s t. one_repeats c x s t) (λ s t. one_scans x s t) p.1 q.1
  one_kept (Some x) c u mark (inl p) (inr q) = absurd (q.0 p.0)
  one_kept (Some x) c u mark (inr p) (inl q) = absurd (p.0 q.0)
  one_kept (Some x) c u mark (inr p) (inr q) = one_says answers.Conflict p.1 q.1
  one_kept None c u mark p q =
      one_either (c == last_claim v.rows + 1)
      (λ s t. one_either (c == 1025) (λ h k. one_says answers.Full h k)
      (λ h k. one_tries (is_worn v.rows (c - 1)) (row_for c u mark) (answers.Scanning c) (scan_of (row_for c u mark)) h k) s t)
      (λ s t. one_says (answers.WrongClaim (last_claim v.rows)) s t) p q

  one_begins : (own : ClaimLine) → Begins standing_keeper v own next w → Begins standing_keeper v own more z → Agree
  one_begins (Claim c u mark) p q = one_kept (kept v.rows c) c u mark p q
  one_begins (Credits u) p q = one_says (answers.Credits u (credits u v.rows)) p q
  one_begins Reserved p q = one_says answers.Reserved p q

  one_credited : (x : ClaimRow) → Credited standing_keeper x v next w → Credited standing_keeper x v more z → Agree
  one_credited x p q =
      one_tries (is_worn v.rows (x.claim - 1)) (as_credited x) (answers.Credited x.claim p.mark false) Say p.tries
      (subst (λ (m : Mark). ByWorn (is_worn v.rows (x.claim - 1)) (as_credited x) (answers.Credited x.claim m false) Say v more z) (one_mark x p.mark q.mark p.is q.is) q.tries)

  one_scanned : (c : ℕ) (reply : Reply) → Scanned standing_keeper c reply v next w → Scanned standing_keeper c reply v more z → Agree
  one_scanned c reply p q = by_reply p.did q.did
    where
      by_reply : ((IsAccepted reply × Credited standing_keeper p.row v next w) ⊎ ((IsAccepted reply → ⊥) × Says standing_keeper (answers.Scan reply) v next w))
          → ((IsAccepted reply × Credited standing_keeper q.row v more z) ⊎ ((IsAccepted reply → ⊥) × Says standing_keeper (answers.Scan reply) v more z)) → Agree
      by_reply (inl s) (inl t) = one_credited p.row s.1 (subst (λ (x : ClaimRow). Credited standing_keeper x v more z) (same_Some q.row p.row (sym q.is ∙ p.is)) t.1)
      by_reply (inl s) (inr t) = absurd (t.0 s.0)
      by_reply (inr s) (inl t) = absurd (s.0 t.0)
      by_reply (inr s) (inr t) = one_says (answers.Scan reply) s.1 t.1

  still : (next ≡ Say) × (w ≡ v) → (more ≡ Say) × (z ≡ v) → Agree
  still p q = (p.0 ∙ sym q.0, p.1 ∙ sym q.1)

  one_goes : (s : Answer) (reply : Reply) → GoesOn standing_keeper s reply v next w → GoesOn standing_keeper s reply v more z → Agree
  one_goes (answers.Scanning c) reply p q = one_scanned c reply p q
  one_goes answers.Nothing reply p q = still p q
  one_goes (answers.Credited c mark again) reply p q = still p q
  one_goes (answers.Credits u sum) reply p q = still p q
  one_goes answers.Conflict reply p q = still p q
  one_goes (answers.WrongClaim last) reply p q = still p q
  one_goes answers.Full reply p q = still p q
  one_goes answers.Reserved reply p q = still p q
  one_goes answers.Worn reply p q = still p q
  one_goes (answers.Scan t) reply p q = still p q

pub claims_determined : IsDetermined claims_model
claims_determined = record {
  apart = λ v w line next begins passes. passes begins.0 begins.1;
  begins = λ v w z line next more p q.
      one_begins v next more w z p.0 p.2 (subst (λ (own : ClaimLine). Begins standing_keeper v own more z) (one_own q.0 p.0 line q.1 p.1) q.2);
  goes = λ v w z turn next more p q. one_goes v next more w z v.said turn.reply p q;
  sees = λ v w z turn p q. p ∙ sym q;
}

-- == what it asks for ==

module _ (v w : Standing) (e : Event) where
  none_said : Step e ≡ Say → IsSure e
  none_said says = absurd (no_event e says)

  scan_sure : (x : ClaimRow) → Step e ≡ scan_of x → IsSure e
  scan_sure x is = inl (scan_number x.claim, x.mark, same_event e (ev.ScanHex (scan_number x.claim) x.mark) is)

  tries_sure : (b : Bool) (x : ClaimRow) (meant : Answer) → ByWorn b x meant (scan_of x) v (Step e) w → IsSure e
  tries_sure true x meant did = none_said did.0
  tries_sure false x meant did = scan_sure x did.0

  either_sure : {P Q : Type 0} (b : Bool) → (P → IsSure e) → (Q → IsSure e) → Either b P Q → IsSure e
  either_sure true f h did = f did
  either_sure false f h did = h did

  kept_sure : (o : Option ClaimRow) (c u : ℕ) (mark : List ℕ) → ByKept standing_keeper o c u mark v (Step e) w → IsSure e
  kept_sure (Some x) c u mark (inl known) = either_sure x.credited (λ again. none_said again.says.ends) (λ scans. scan_sure x scans.asks) known.1
  kept_sure (Some x) c u mark (inr other) = none_said other.1.ends
  kept_sure None c u mark did =
      either_sure (c == last_claim v.rows + 1)
      (λ fits. either_sure (c == 1025) (λ full. none_said full.ends)
      (λ tries. tries_sure (is_worn v.rows (c - 1)) (row_for c u mark) (answers.Scanning c) tries) fits)
      (λ wrong. none_said wrong.ends) did

  begins_sure : (own : ClaimLine) → Begins standing_keeper v own (Step e) w → IsSure e
  begins_sure (Claim c u mark) begins = kept_sure (kept v.rows c) c u mark begins
  begins_sure (Credits u) begins = none_said begins.ends
  begins_sure Reserved begins = none_said begins.ends

module _ (v w : Standing) (next : Next) where
  -- after a scan it answers
  credit_ends : (b : Bool) (x : ClaimRow) (meant : Answer) → ByWorn b x meant Say v next w → next ≡ Say
  credit_ends true x meant did = did.0
  credit_ends false x meant did = did.0

  scanned_ends : (c : ℕ) (reply : Reply) → Scanned standing_keeper c reply v next w → next ≡ Say
  scanned_ends c reply scanned = elim scanned.did [
    | inl did ↦ credit_ends (is_worn v.rows (scanned.row.claim - 1)) (as_credited scanned.row) (answers.Credited scanned.row.claim did.1.mark false) did.1.tries
    | inr other ↦ other.1.ends
  ]

  goes_ends : (s : Answer) (reply : Reply) → GoesOn standing_keeper s reply v next w → next ≡ Say
  goes_ends (answers.Scanning c) reply goes = scanned_ends c reply goes
  goes_ends _ reply goes = goes.0

  -- a scan that failed keeps nothing
  scanned_rests : (c : ℕ) (reply : Reply) (n : Node) → IsFailure reply n → Scanned standing_keeper c reply v next w → w.rows ≡ v.rows
  scanned_rests c reply n fails scanned = elim scanned.did [
    | inl did ↦ absurd (accepted_fine reply did.0 n fails)
    | inr other ↦ other.1.rests
  ]

  failed_rests : (s : Answer) (reply : Reply) (n : Node) → IsFailure reply n → GoesOn standing_keeper s reply v next w → w.rows ≡ v.rows
  failed_rests (answers.Scanning c) reply n fails goes = scanned_rests c reply n fails goes
  failed_rests _ reply n fails goes = ap (λ (z : Standing). z.rows) goes.1

-- it asks for scans alone
pub claims_asks : AsksSurely claims_model
claims_asks = record {
  first = λ v w line e begins. begins_sure v w e begins.0 begins.2;
  then = λ v w turn e goes. absurd (no_event e (goes_ends v w (Step e) v.said turn.reply goes));
}

-- a failure ends its line, and the claims are as they were before it
pub claims_ends : EndsByFailure claims_model
claims_ends = λ v w turn next n fails goes. (goes_ends v w next v.said turn.reply goes, failed_rests v w next v.said turn.reply n fails goes)

-- what a line tells are failures of the verifier
pub claims_failures : AreFailures ClaimFails
claims_failures = text_failures Verifier

-- == what an answer tells ==

first_of_power : (m : Node) → get_or (text_of (r.Power m)) 0 0 ≡ 112
unfolding reply_words
first_of_power m = refl

first_of_fault : (m : Node) → get_or (text_of (r.Fault m)) 0 0 ≡ 102
unfolding reply_words
first_of_fault m = refl

first_byte : {x y : Reply} → x ≡ y → get_or (text_of x) 0 0 ≡ get_or (text_of y) 0 0
first_byte same = ap (λ (t : Reply). get_or (text_of t) 0 0) same

apart_by : (line : List ℕ) → get_or line 0 0 ≡ 112 → get_or line 0 0 ≡ 102 → ⊥
apart_by line power fault = omega (arith, power, fault)

-- a text of a failure begins so
as_power : (m : Node) (line : List ℕ) (x : Reply) → line ≡ text_of x → x ≡ r.Power m → get_or line 0 0 ≡ 112
as_power m line x is same = ap (λ (l : List ℕ). get_or l 0 0) is ∙ first_byte same ∙ first_of_power m

as_fault : (m : Node) (line : List ℕ) (x : Reply) → line ≡ text_of x → x ≡ r.Fault m → get_or line 0 0 ≡ 102
as_fault m line x is same = ap (λ (l : List ℕ). get_or l 0 0) is ∙ first_byte same ∙ first_of_fault m

pub claims_one_failure : (number : ℕ) (line : List ℕ) (x y : Reply) → ClaimFails number line x → ClaimFails number line y → x ≡ y
claims_one_failure number line x y (is, inl p) (too, inl q) = p ∙ sym q
claims_one_failure number line x y (is, inl p) (too, inr q) = absurd (apart_by line (as_power Verifier line x is p) (as_fault Verifier line y too q))
claims_one_failure number line x y (is, inr p) (too, inl q) = absurd (apart_by line (as_power Verifier line y too q) (as_fault Verifier line x is p))
claims_one_failure number line x y (is, inr p) (too, inr q) = p ∙ sym q

-- the line is that of no failure
record IsSound (line : List ℕ) : Type 0 where
  no_power : get_or line 0 0 ≢ 112
  no_fault : get_or line 0 0 ≢ 102

no_failure : (number : ℕ) (line : List ℕ) → IsSound line → (reply : Reply) → ClaimFails number line reply → ⊥
no_failure number line sound reply (is, inl p) = sound.no_power (as_power Verifier line reply is p)
no_failure number line sound reply (is, inr p) = sound.no_fault (as_fault Verifier line reply is p)

credited_sound : (c : ℕ) (mark : Mark) (again : Bool) → IsSound (credited_text c mark again)
unfolding credited_text
credited_sound c mark again = record { no_power = λ is. omega (arith, is); no_fault = λ is. omega (arith, is) }

worn_sound : IsSound (codes "worn desk")
worn_sound = record { no_power = λ is. omega (arith, is); no_fault = λ is. omega (arith, is) }

-- a reply that is told as a failure is that failure
power_by : (p : Report) (x : Reply) (m : Node) → told_as p x ≡ r.Power m → x ≡ r.Power m
power_by (report.Refusal (OfVerifier q)) x m is = absurd (let two : r.ScanRefused (told_refusal q) ≡ r.Power m = is in cc)
power_by p x m is = is

fault_by : (p : Report) (x : Reply) (m : Node) → told_as p x ≡ r.Fault m → x ≡ r.Fault m
fault_by (report.Refusal (OfVerifier q)) x m is = absurd (let two : r.ScanRefused (told_refusal q) ≡ r.Fault m = is in cc)
fault_by p x m is = is

module _ (one : (x y : Reply) → IsWholeReply x → IsWholeReply y → text_of x ≡ text_of y → told x ≡ told y) where
  -- a reply that has the text of a failure of the verifier is one
  failure_by : (number : ℕ) (d reply : Reply) → IsWholeReply d → ClaimFails number (text_of d) reply → IsFailure d Verifier
  failure_by number d reply whole (is, inl p) =
      inl (power_by (report_of d) d Verifier (one d (r.Power Verifier) whole tt (is ∙ ap (λ (t : Reply). text_of t) p)))
  failure_by number d reply whole (is, inr p) =
      inr (fault_by (report_of d) d Verifier (one d (r.Fault Verifier) whole tt (is ∙ ap (λ (t : Reply). text_of t) p)))

  module _ (τ : Tariff) (new : World Place Standing) where
    abbrev TellsAll : List StepRecord → Type 0
    TellsAll steps = TellsFailures ClaimFails steps (said_texts new.desk.said)

    -- where it answers at once
    says_tells : (answer : Answer) (text : List ℕ) → said_texts answer ≡ text ∷ [] → (at : Place) (first : Next) (w : Standing) (steps : List StepRecord) → first ≡ Say → w.said ≡ answer
        → Asks (by_model claims_model) (MayStep τ) (world at w) new first steps Say → TellsAll steps
    says_tells answer text are at first w steps ends says asks =
        let end = ends_at (by_model claims_model) (MayStep τ) (world at w) new first steps Say asks (inl ends) in
        record {
          first = text;
          more = [];
          are = ap (λ (x : World Place Standing). said_texts x.desk.said) end.2 ∙ ap (λ (s : Answer). said_texts s) says ∙ are;
          told = subst (λ (l : List StepRecord). AreToldOf ClaimFails 1 text l) (sym end.0) tt;
        }

    -- one scan was done, and this is the answer
    told_once : (text : List ℕ) (answer : Answer) → said_texts answer ≡ text ∷ [] → (m : World Place Standing) (more : Next) (d : StepRecord) (rest : List StepRecord) → more ≡ Say → m.desk.said ≡ answer
        → Asks (by_model claims_model) (MayStep τ) m new more rest Say → IsToldOf ClaimFails 1 text d → TellsAll (d ∷ rest)
    told_once text answer are m more d rest ends says asks one_told =
        let end = ends_at (by_model claims_model) (MayStep τ) m new more rest Say asks (inl ends) in
        record {
          first = text;
          more = [];
          are = ap (λ (x : World Place Standing). said_texts x.desk.said) end.2 ∙ ap (λ (s : Answer). said_texts s) says ∙ are;
          told = (one_told, subst (λ (l : List StepRecord). AreToldOf ClaimFails 2 text l) (sym end.0) tt);
        }

    -- after Accepted
    credit_tells : (b : Bool) (x : ClaimRow) (c : ℕ) (mark : Mark) (w : Standing) (m : World Place Standing) (more : Next) (d : StepRecord) (rest : List StepRecord)
        → ByWorn b x (answers.Credited c mark false) Say w more m.desk → Asks (by_model claims_model) (MayStep τ) m new more rest Say
        → ((text : List ℕ) → IsSound text → IsToldOf ClaimFails 1 text d) → TellsAll (d ∷ rest)
    credit_tells true x c mark w m more d rest did asks tells =
        told_once (codes "worn desk") answers.Worn refl m more d rest did.0 (ap (λ (v : Standing). v.said) did.1) asks (tells (codes "worn desk") worn_sound)
    credit_tells false x c mark w m more d rest did asks tells =
        told_once (credited_text c mark false) (answers.Credited c mark false) refl m more d rest did.0 (ap (λ (v : Standing). v.said) did.1) asks
        (tells (credited_text c mark false) (credited_sound c mark false))

    scan_tells : (x : ClaimRow) (at : Place) (w : Standing) (steps : List StepRecord) → w.said ≡ answers.Scanning x.claim
        → Asks (by_model claims_model) (MayStep τ) (world at w) new (scan_of x) steps Say → TellsAll steps
    scan_tells x at w [] waits asks = absurd (no_step (scan_of x) (inl (sym asks.0)) tt)
    scan_tells x at w (d ∷ rest) waits asks =
        let goes : Scanned standing_keeper x.claim asks.2.turn.reply w asks.1 asks.0.desk =
        subst (λ (t : Answer). GoesOn standing_keeper t asks.2.turn.reply w asks.1 asks.0.desk) waits asks.2.goes in
        let reply : asks.2.turn.reply ≡ d.reply = ap (λ (t : Turn). t.reply) asks.2.did.turn_is in
        let event : d.event ≡ ev.ScanHex (scan_number x.claim) x.mark = sym (ap (λ (n : Next). step_event d.event n) asks.2.asks) in
        by_reply goes reply event goes.did
      where
        sure_of : (text : List ℕ) → d.event ≡ ev.ScanHex (scan_number x.claim) x.mark
            → ClaimFails 1 text d.reply ⊎ (((reply : Reply) → ClaimFails 1 text reply → ⊥) × ((m : Node) → IsFailure d.reply m → ⊥)) → IsToldOf ClaimFails 1 text d
        sure_of text event told = record { sure = inl (scan_number x.claim, x.mark, event); told = told }

        by_sure : (text : List ℕ) → text ≡ text_of d.reply → FailsAt d.event d.reply ⊎ ((m : Node) → IsFailure d.reply m → ⊥) → d.event ≡ ev.ScanHex (scan_number x.claim) x.mark
            → ClaimFails 1 text d.reply ⊎ (((reply : Reply) → ClaimFails 1 text reply → ⊥) × ((m : Node) → IsFailure d.reply m → ⊥))
        by_sure text is (inl fails) event = inl (is, subst (λ (e : Event). FailsAt e d.reply) event fails)
        by_sure text is (inr none) event =
            inr (λ reply fails. none Verifier (failure_by 1 d.reply reply asks.2.did.may.whole (subst (λ (t : List ℕ). ClaimFails 1 t reply) is fails)), none)

        by_reply : (goes : Scanned standing_keeper x.claim asks.2.turn.reply w asks.1 asks.0.desk) → asks.2.turn.reply ≡ d.reply → d.event ≡ ev.ScanHex (scan_number x.claim) x.mark
            → ((IsAccepted asks.2.turn.reply × Credited standing_keeper goes.row w asks.1 asks.0.desk) ⊎ ((IsAccepted asks.2.turn.reply → ⊥) × Says standing_keeper (answers.Scan asks.2.turn.reply) w asks.1 asks.0.desk))
            → TellsAll (d ∷ rest)
        by_reply goes reply event (inl did) =
            let fine = accepted_fine d.reply (subst (λ (t : Reply). IsAccepted t) reply did.0) in
            credit_tells (is_worn w.rows (goes.row.claim - 1)) (as_credited goes.row) goes.row.claim did.1.mark w asks.0 asks.1 d rest did.1.tries asks.3
            (λ text sound. sure_of text event (inr (λ other fails. no_failure 1 text sound other fails, fine)))
        by_reply goes reply event (inr did) =
            let sure = inl (scan_number x.claim, x.mark, event) in
            told_once (text_of asks.2.turn.reply) (answers.Scan asks.2.turn.reply) refl asks.0 asks.1 d rest did.1.ends did.1.answers asks.3
            (sure_of (text_of asks.2.turn.reply) event
            (by_sure (text_of asks.2.turn.reply) (ap (λ (t : Reply). text_of t) reply) (failure_or_none τ at.ledger at.left d sure asks.2.did.may) event))

    module _ (at : Place) (v : Standing) (first : Next) (w : Standing) (steps : List StepRecord) (asks : Asks (by_model claims_model) (MayStep τ) (world at w) new first steps Say) where
      said_tells : (answer : Answer) (text : List ℕ) → said_texts answer ≡ text ∷ [] → Says standing_keeper answer v first w → TellsAll steps
      said_tells answer text are says = says_tells answer text are at first w steps says.ends says.answers asks

      asked_tells : (x : ClaimRow) → first ≡ scan_of x → w.said ≡ answers.Scanning x.claim → TellsAll steps
      asked_tells x is waits = scan_tells x at w steps waits (subst (λ (n : Next). Asks (by_model claims_model) (MayStep τ) (world at w) new n steps Say) is asks)

      tries_tells : (b : Bool) (c u : ℕ) (mark : List ℕ) → ByWorn b (row_for c u mark) (answers.Scanning c) (scan_of (row_for c u mark)) v first w → TellsAll steps
      tries_tells true c u mark did = says_tells answers.Worn (codes "worn desk") refl at first w steps did.0 (ap (λ (z : Standing). z.said) did.1) asks
      tries_tells false c u mark did = asked_tells (row_for c u mark) did.0 (ap (λ (z : Standing). z.said) did.1)

      either_tells : {P Q : Type 0} (b : Bool) → (P → TellsAll steps) → (Q → TellsAll steps) → Either b P Q → TellsAll steps
      either_tells true f h did = f did
      either_tells false f h did = h did

      kept_tells : (o : Option ClaimRow) (c u : ℕ) (mark : List ℕ) → ByKept standing_keeper o c u mark v first w → TellsAll steps
      kept_tells (Some x) c u mark (inl known) =
          either_tells x.credited (λ again. said_tells (answers.Credited c again.mark true) (credited_text c again.mark true) refl again.says) (λ scans. asked_tells x scans.asks scans.waits) known.1
      kept_tells (Some x) c u mark (inr other) = said_tells answers.Conflict (codes "refused claim conflict") refl other.1
      kept_tells None c u mark did =
          either_tells (c == last_claim v.rows + 1)
          (λ fits. either_tells (c == 1025) (λ full. said_tells answers.Full (codes "refused claim full") refl full)
          (λ tries. tries_tells (is_worn v.rows (c - 1)) c u mark tries) fits)
          (λ wrong. said_tells (answers.WrongClaim (last_claim v.rows)) (wrong_claim_text (last_claim v.rows)) refl wrong) did

      own_tells : (own : ClaimLine) → Begins standing_keeper v own first w → TellsAll steps
      own_tells (Claim c u mark) begins = kept_tells (kept v.rows c) c u mark begins
      own_tells (Credits u) begins = said_tells (answers.Credits u (credits u v.rows)) (credits_text u (credits u v.rows)) refl begins
      own_tells Reserved begins = said_tells answers.Reserved (codes "refused claim reserved") refl begins

-- the answer to an own line tells whether the verifier failed in its scan
pub claims_tells : (one : (x y : Reply) → IsWholeReply x → IsWholeReply y → text_of x ≡ text_of y → told x ≡ told y) (τ : Tariff) (old new : World Place Standing) (line : List ℕ)
    (steps : List StepRecord) → DidOwn (by_model claims_model) (MayStep τ) old new line steps Say → TellsFailures ClaimFails steps (claims_model.texts new.desk)
claims_tells one τ old new line steps did = own_tells one τ new old.scene old.desk did.first did.desk steps did.asks did.begins.0 did.begins.2
