-- The checker of manifests has its model, whose moves are determined and which asks for scans; and the answer to a check tells of each scan whether the verifier failed in it.
use Rattle.std.proofs.Common.{◌≡◌, inl, inr, ℕ, ◌+◌, ◌-◌, ◌<◌, ◌≤◌, ◌^◌, List, [], ◌∷◌, ◌++◌, length, get_or, Option, Some, None, ◌==◌, refl, sym, ap, ◌∙◌, subst, arith, append_assoc, append-nil}
use Rattle.std.specs.Prelude.{codes, decimal}
use Rattle.bench_base.specs.declared.{words.Node.Node, words.Node.TheVariants.Verifier, refusals.ScanRefusal.ScanRefusal, events.Event.Event, events.Reply.Reply, questions.Refusal.TheVariants.Verifier as OfVerifier, questions.Report.Report}
use Rattle.bench_base.specs.declared.events.Reply.TheVariants as r
use Rattle.bench_base.specs.declared.questions.Report.TheVariants as report
use Rattle.bench_base.specs.Events.{IsWholeEvent}
use Rattle.bench_base.specs.Ledger.{Ledger}
use Rattle.bench_base.specs.Questions.{IsAccepted}
use Rattle.bench_base.specs.Replies.{report_of}
use Rattle.node_turns.specs.declared.turn.Turn.{Turn}
use Rattle.ledger_moves.specs.Tariffs.{Tariff}
use Rattle.script_text.specs.Texts.{reply_words, text_of, told, told_as, IsWholeReply}
use Rattle.scan_laws.proofs.Accepting.{accepted_by}
use Rattle.line_extensions.specs.Trace.{StepRecord}
use Rattle.line_extensions.specs.Desks.{World, world, Asks, DidOwn}
use Rattle.line_extensions.specs.declared.{extension.Next.Next, extension.Next.TheVariants.Step, extension.Next.TheVariants.Say}
use Rattle.line_extensions.proofs.Wanting.{IsSay, step_event, ends_at}
use Rattle.mail_manifest.specs.Causes.{Finds}
use Rattle.mail_manifest.specs.CheckerDesk.{checker_desk}
use Rattle.mail_manifest.specs.Courses as course
use Rattle.mail_manifest.specs.Listings.{Listing, opened, with_mark, mark_at, code_of}
use Rattle.mail_manifest.specs.Moves.{scan_of, yes_of, Answers, Scans, ByCause, BeginsOn, BeginsBare, BeginsWith, Begins, GoesBy, GoesOn}
use Rattle.mail_manifest.specs.Texts.{said_texts, open_text, piece_text, code_text, yes_text, no_piece_text}
use Rattle.mail_manifest.specs.View.{listing_of}
use Rattle.mail_manifest.specs.declared.{checker.Checker.Checker, opening.ManifestLine.ManifestLine, opening.ManifestLine.TheVariants.Open, opening.ManifestLine.TheVariants.Piece, opening.ManifestLine.TheVariants.Code, opening.ManifestLine.TheVariants.Check, answer.Answer.Answer}
use Rattle.mail_manifest.specs.declared.answer.Answer.TheVariants as answers
use Rattle.mail_manifest.proofs.Judging.{either_by, either_any, cause_text, piece_is_no_yes}
use Rattle.mail_manifest.proofs.OneLine.{one_manifest_line}
use Rattle.mail_manifest.proofs.OneMove.{begins_one, goes_one, goes_by}
use Rattle.mail_manifest.proofs.PieceTexts.{one_piece, one_reply_text}
use Rattle.trace_bench.specs.Prefixes.{IsFailure}
use Rattle.trace_runs.specs.Audits.{MayTell}
use Rattle.trace_extensions.specs.Models.{by_model, IsModelOf, IsDetermined, IsSure, AsksSurely, EndsByFailure, AreFailures, IsToldOf, AreToldOf, TellsFailures}
use Rattle.trace_extensions.specs.ManifestModel.{ManifestView, view_listing, view_said, manifest_view, manifest_model, ManifestFails, no_piece_front}
use Rattle.trace_extensions.specs.Places.{Place, MayStep}
use Rattle.trace_extensions.proofs.Failures.{no_event, same_event, accepted_fine}
use Rattle.trace_extensions.proofs.Sure.{FailsAt, failure_or_none}

-- == the checker moves as its model does ==

module _ (next : Next) (new : Checker) where
  answers_seen : (answer : Answer) (after : Option Listing) → course.Answers answer after next new → Answers view_listing view_said answer after next (manifest_view new)
  answers_seen answer after says = record { ends = says.ends; answers = says.answers; leaves = says.leaves }

  scans_seen : (m : Listing) (number : ℕ) → course.Scans m number next new → Scans view_listing view_said m number next (manifest_view new)
  scans_seen m number scans = record { asks = scans.asks; waits = scans.waits; leaves = scans.leaves }

  cause_seen : (m : Listing) (cause : Option Answer) → course.ByCause m cause next new → ByCause view_listing view_said m cause next (manifest_view new)
  cause_seen m (Some cause) does = answers_seen cause (Some m) does
  cause_seen m None does = scans_seen m 1 does

  on_seen : (m : Listing) (own : ManifestLine) → course.BeginsOn m own next new → BeginsOn view_listing view_said m own next (manifest_view new)
  on_seen m (Open o) begins = answers_seen _ _ begins
  on_seen m (Piece mark) begins = either_by (length m.marks == m.opening.count) (λ full. answers_seen _ _ full) (λ room. answers_seen _ _ room) begins
  on_seen m Code begins = answers_seen _ _ begins
  on_seen m (Check code) begins = record { cause = begins.cause; finds = begins.finds; does = cause_seen m begins.cause begins.does }

  bare_seen : (own : ManifestLine) → course.BeginsBare own next new → BeginsBare view_listing view_said own next (manifest_view new)
  bare_seen (Open o) begins = answers_seen _ _ begins
  bare_seen (Piece mark) begins = answers_seen _ _ begins
  bare_seen Code begins = answers_seen _ _ begins
  bare_seen (Check code) begins = answers_seen _ _ begins

  with_seen : (m : Option Listing) (own : ManifestLine) → course.BeginsWith m own next new → BeginsWith view_listing view_said m own next (manifest_view new)
  with_seen (Some m) own begins = on_seen m own begins
  with_seen None own begins = bare_seen own begins

  by_seen : (m : Listing) (number : ℕ) (reply : Reply) → course.GoesBy m number reply next new → GoesBy view_listing view_said m number reply next (manifest_view new)
  by_seen m number reply (inl did) =
      inl (did.0, either_by (number == length m.marks) (λ last. answers_seen (yes_of m) (Some m) last) (λ on. scans_seen m (number + 1) on) did.1)
  by_seen m number reply (inr other) = inr (other.0, answers_seen (answers.NoPiece number reply) (Some m) other.1)

  goes_seen : (s : Answer) (reply : Reply) (old : Checker) → course.GoesOn s reply old next new → GoesOn view_listing view_said s reply (manifest_view old) next (manifest_view new)
  goes_seen (answers.Scanning number) reply old goes = record { listing = goes.listing; here = goes.here; goes = by_seen goes.listing number reply goes.goes }
  goes_seen _ reply old goes = (goes.0, ap (λ (k : Checker). manifest_view k) goes.1)

pub manifest_modelled : IsModelOf checker_desk manifest_view manifest_model
manifest_modelled = record {
  own = λ line. (λ own. own, λ own. own);
  passes = λ a line passes. passes;
  begins = λ a b x line next own begins goes_on. (x, own, with_seen next b (listing_of a) x begins);
  goes = λ a b turn next goes goes_on. goes_seen next b a.said turn.reply a goes;
  sees = λ a b e turn sees. ap (λ (k : Checker). manifest_view k) sees;
  texts = λ a. refl;
}

-- == its moves are determined ==

abbrev view : Option Listing → Answer → ManifestView
view listing said = record { listing = listing; said = said }

-- a view is what it keeps and says
whole : (v w : ManifestView) → v.listing ≡ w.listing → v.said ≡ w.said → v ≡ w
whole v w one other = ap (λ (l : Option Listing). view l v.said) one ∙ ap (λ (s : Answer). view w.listing s) other

pub manifest_determined : IsDetermined manifest_model
manifest_determined = record {
  apart = λ v w line next begins passes. passes begins.0 begins.1;
  begins = λ v w x line next more one other.
      let same : other.0 ≡ one.0 = one_manifest_line other.0 one.0 line other.1 one.1 in
      begins_one view_listing view_said whole next more w x v one.0 one.2 (subst (λ (own : ManifestLine). Begins view_listing view_said v own more x) same other.2);
  goes = λ v w x turn next more one other. goes_one view_listing view_said whole next more w x v.said turn.reply v one other;
  sees = λ v w x turn one other. one ∙ sym other;
}

-- == what it asks for ==

module _ (v w : ManifestView) (e : Event) where
  none_said : (answer : Answer) (after : Option Listing) → Answers view_listing view_said answer after (Step e) w → IsSure e
  none_said answer after says = absurd (no_event e says.ends)

  scan_sure : (m : Listing) (number : ℕ) → Scans view_listing view_said m number (Step e) w → IsSure e
  scan_sure m number scans = inl (m.opening.first + (number - 1), mark_at m (number - 1), same_event e (scan_of m number) scans.asks)

  cause_sure : (m : Listing) (cause : Option Answer) → ByCause view_listing view_said m cause (Step e) w → IsSure e
  cause_sure m (Some cause) does = none_said cause (Some m) does
  cause_sure m None does = scan_sure m 1 does

  on_sure : (m : Listing) (own : ManifestLine) → BeginsOn view_listing view_said m own (Step e) w → IsSure e
  on_sure m (Open o) begins = none_said _ _ begins
  on_sure m (Piece mark) begins = either_any (length m.marks == m.opening.count) (λ full says. none_said _ _ says) (λ room says. none_said _ _ says) begins
  on_sure m Code begins = none_said _ _ begins
  on_sure m (Check code) begins = cause_sure m begins.cause begins.does

  bare_sure : (own : ManifestLine) → BeginsBare view_listing view_said own (Step e) w → IsSure e
  bare_sure (Open o) begins = none_said _ _ begins
  bare_sure (Piece mark) begins = none_said _ _ begins
  bare_sure Code begins = none_said _ _ begins
  bare_sure (Check code) begins = none_said _ _ begins

  with_sure : (m : Option Listing) (own : ManifestLine) → BeginsWith view_listing view_said m own (Step e) w → IsSure e
  with_sure (Some m) own begins = on_sure m own begins
  with_sure None own begins = bare_sure own begins

  by_sure : (m : Listing) (number : ℕ) (reply : Reply) → GoesBy view_listing view_said m number reply (Step e) w → IsSure e
  by_sure m number reply (inl did) = either_any (number == length m.marks) (λ last says. none_said (yes_of m) (Some m) says) (λ more on. scan_sure m (number + 1) on) did.1
  by_sure m number reply (inr other) = none_said (answers.NoPiece number reply) (Some m) other.1

  goes_sure : (s : Answer) (reply : Reply) → GoesOn view_listing view_said s reply v (Step e) w → IsSure e
  goes_sure (answers.Scanning number) reply goes = by_sure goes.listing number reply goes.goes
  goes_sure _ reply goes = absurd (no_event e goes.0)

-- it asks for scans alone
pub manifest_asks : AsksSurely manifest_model
manifest_asks = record {
  first = λ v w line e begins. with_sure v w e v.listing begins.0 begins.2;
  then = λ v w turn e goes. goes_sure v w e v.said turn.reply goes;
}

-- after a failure it answers
failed_by : (m : Listing) (number : ℕ) (reply : Reply) (n : Node) (w : ManifestView) (next : Next) → IsFailure reply n → GoesBy view_listing view_said m number reply next w → next ≡ Say
failed_by m number reply n w next fails (inl did) = absurd (accepted_fine reply did.0 n fails)
failed_by m number reply n w next fails (inr other) = other.1.ends

failed_ends : (s : Answer) (reply : Reply) (n : Node) (v w : ManifestView) (next : Next) → IsFailure reply n → GoesOn view_listing view_said s reply v next w → next ≡ Say
failed_ends (answers.Scanning number) reply n v w next fails goes = failed_by goes.listing number reply n w next fails goes.goes
failed_ends _ reply n v w next fails goes = goes.0

-- a failure ends its line
pub manifest_ends : EndsByFailure manifest_model
manifest_ends = λ v w turn next n fails goes. (failed_ends v.said turn.reply n v w next fails goes, tt)

-- == a failure is told by its text ==

-- a reply that is told as another reply, which is no refusal of a scan, is that reply
told_is : (of : Report) (x y : Reply) → ((why : ScanRefusal) → r.ScanRefused why ≡ y → ⊥) → told_as of x ≡ y → x ≡ y
told_is (report.Refusal (OfVerifier why)) x y other is = absurd (other _ is)
told_is _ x y other is = is

two_failures : text_of (r.Power Verifier) ≡ text_of (r.Fault Verifier) → ⊥
unfolding reply_words
two_failures same = let first : 112 ≡ 102 = ap (λ (l : List ℕ). get_or l 0 0) same in omega (arith, first)

pub manifest_one_failure : (number : ℕ) (line : List ℕ) (x y : Reply) → ManifestFails number line x → ManifestFails number line y → x ≡ y
manifest_one_failure number line x y one other =
    same_failure x y one.1 other.1 (one_reply_text number x y (sym one.0 ∙ other.0))
  where
    same_failure : (a b : Reply) → IsFailure a Verifier → IsFailure b Verifier → text_of a ≡ text_of b → a ≡ b
    same_failure a b (inl is) (inl is') same = is ∙ sym is'
    same_failure a b (inl is) (inr is') same = absurd (two_failures (sym (ap text_of is) ∙ same ∙ ap text_of is'))
    same_failure a b (inr is) (inl is') same = absurd (two_failures (sym (ap text_of is') ∙ sym same ∙ ap text_of is))
    same_failure a b (inr is) (inr is') same = is ∙ sym is'

-- the line that tells one is not empty
no_empty : (number : ℕ) (reply : Reply) → [] ≡ no_piece_text number reply → ⊥
unfolding no_piece_text
no_empty number reply is = let first : 0 ≡ 109 = ap (λ (l : List ℕ). get_or l 0 0) is in omega (arith, first)

-- what a line tells are failures of the verifier
pub manifest_failures : AreFailures ManifestFails
manifest_failures = record {
  node = Verifier;
  fails = λ number line reply told. told.1;
  one_line = λ number line other reply one two. one.0 ∙ sym two.0;
  none = λ number reply told. no_empty number reply told.0;
}

-- == what the answer to a check tells ==

-- The line that answers a check: it is yes, or it tells of a piece from this one on.
data Tells (number : ℕ) (line : List ℕ) : Type 0 where
  Yes : (count total : ℕ) → line ≡ yes_text count total → Tells number line
  Ended : (n : ℕ) (reply : Reply) → number ≤ n → n < 2 ^ 64 → line ≡ no_piece_text n reply → Tells number line

earlier : (number : ℕ) (line : List ℕ) → Tells (number + 1) line → Tells number line
earlier number line (Yes count total is) = Yes count total is
earlier number line (Ended n reply from short is) = Ended n reply (omega (arith, from)) short is

-- it tells of no failure of an earlier piece
none_before : (number : ℕ) (line : List ℕ) → number < 2 ^ 64 → Tells (number + 1) line → (reply : Reply) → ManifestFails number line reply → ⊥
none_before number line small (Yes count total is) reply fails = piece_is_no_yes count total number reply (sym fails.0 ∙ is)
none_before number line small (Ended n other from short is) reply fails = omega (arith, from, one_piece number n reply other small short (sym fails.0 ∙ is))

module _ (one : (x y : Reply) → IsWholeReply x → IsWholeReply y → text_of x ≡ text_of y → told x ≡ told y) (τ : Tariff) where
  -- a whole reply with the text of a failure of the verifier is that failure
  failure_again : (x y : Reply) → IsWholeReply x → IsFailure y Verifier → text_of x ≡ text_of y → IsFailure x Verifier
  failure_again x y is (inl power) same =
      inl (told_is (report_of x) x (r.Power Verifier) (λ why wrong. cc) (one x (r.Power Verifier) is tt (same ∙ ap text_of power)))
  failure_again x y is (inr fault) same =
      inr (told_is (report_of x) x (r.Fault Verifier) (λ why wrong. cc) (one x (r.Fault Verifier) is tt (same ∙ ap text_of fault)))

  -- == one scan ==

  module _ (H : Ledger) (left : List ℕ) (d : StepRecord) (m : Listing) (number : ℕ) (event : d.event ≡ scan_of m number) (may : MayTell τ H left d) where
    small : number < 2 ^ 64
    small = let scan : IsWholeEvent (scan_of m number) = subst (λ (e : Event). IsWholeEvent e) event may.moves.0 in omega (arith, scan.1)

    sure : IsSure d.event
    sure = inl (m.opening.first + (number - 1), mark_at m (number - 1), event)

    -- it was accepted, and the check went on
    accepted_told : (line : List ℕ) → IsAccepted d.reply → Tells (number + 1) line → IsToldOf ManifestFails number line d
    accepted_told line accepted tells = record { sure = sure; told = inr (none_before number line small tells, λ n fails. accepted_fine d.reply accepted n fails) }

    -- the check ended at it
    ended_told : IsToldOf ManifestFails number (no_piece_text number d.reply) d
    ended_told = record {
      sure = sure;
      told = elim (failure_or_none τ H left d sure may) [
        | inl fails ↦ inl (refl, subst (λ (e : Event). FailsAt e d.reply) event fails)
        | inr none ↦ inr (λ reply fails. none Verifier (failure_again d.reply reply may.whole fails.1 (one_reply_text number d.reply reply fails.0)), none)
      ];
    }

  -- == all scans ==

  -- what the texts tell of the scans from the piece of this number on
  record Told (number : ℕ) (steps : List StepRecord) (texts : List (List ℕ)) : Type 0 where
    first : List ℕ
    are : texts ≡ first ∷ []
    tells : Tells number first
    told : AreToldOf ManifestFails number first steps

  abbrev AsksSo : World Place ManifestView → World Place ManifestView → Next → List StepRecord → Type 0
  AsksSo old new next steps = Asks (by_model manifest_model) (MayStep τ) old new next steps Say

  -- what is said first is answered
  says_texts : (answer : Answer) (after : Option Listing) (old new : World Place ManifestView) (next : Next) (steps : List StepRecord)
      → Answers view_listing view_said answer after next old.desk → AsksSo old new next steps → (steps ≡ []) × (said_texts new.desk.said ≡ said_texts answer)
  says_texts answer after old new next steps says asks =
      let end = ends_at (by_model manifest_model) (MayStep τ) old new next steps Say asks (inl says.ends) in
      (end.0, ap (λ (w : World Place ManifestView). said_texts w.desk.said) end.2 ∙ ap (λ (s : Answer). said_texts s) says.answers)

  scans_told : (m : Listing) (number : ℕ) (old new : World Place ManifestView) (next : Next) (steps : List StepRecord)
      → Scans view_listing view_said m number next old.desk → AsksSo old new next steps → Told number steps (said_texts new.desk.said)
  scans_told m number old new next [] scans asks = absurd (subst (λ (x : Next). IsSay x) (asks.0 ∙ scans.asks) tt)
  scans_told m number old new next (d ∷ rest) scans asks =
      let event : d.event ≡ scan_of m number = sym (ap (λ (n : Next). step_event d.event n) asks.2.asks) ∙ ap (λ (n : Next). step_event d.event n) scans.asks in
      let may : MayTell τ old.scene.ledger old.scene.left d = asks.2.did.may in
      let reply : d.reply ≡ asks.2.turn.reply = sym (ap (λ (t : Turn). t.reply) asks.2.did.turn_is) in
      elim (goes_by view_listing view_said m number old.desk asks.2.turn.reply asks.1 asks.0.desk scans.waits scans.leaves asks.2.goes) [
        | inl did ↦
            let accepted : IsAccepted d.reply = accepted_by d.reply asks.2.turn.reply reply did.0 in
            either_any (number == length m.marks)
            (λ last says.
            let end = says_texts (yes_of m) (Some m) asks.0 new asks.1 rest says asks.3 in
            let line = yes_text m.opening.count m.opening.total in
            let tells : Tells (number + 1) line = Yes m.opening.count m.opening.total refl in
            record {
              first = line;
              are = end.1;
              tells = earlier number line tells;
              told = (accepted_told old.scene.ledger old.scene.left d m number event may line accepted tells, subst (λ (l : List StepRecord). AreToldOf ManifestFails (number + 1) line l) (sym end.0) tt);
            })
            (λ more on.
            let further = scans_told m (number + 1) asks.0 new asks.1 rest on asks.3 in
            record {
              first = further.first;
              are = further.are;
              tells = earlier number further.first further.tells;
              told = (accepted_told old.scene.ledger old.scene.left d m number event may further.first accepted further.tells, further.told);
            })
            did.1
        | inr other ↦
            let end = says_texts (answers.NoPiece number asks.2.turn.reply) (Some m) asks.0 new asks.1 rest other.1 asks.3 in
            let line = no_piece_text number d.reply in
            record {
              first = line;
              are = end.1 ∙ ap (λ (x : Reply). no_piece_text number x ∷ []) (sym reply);
              tells = Ended number d.reply (omega arith) (small old.scene.ledger old.scene.left d m number event may) refl;
              told = (ended_told old.scene.ledger old.scene.left d m number event may, subst (λ (l : List StepRecord). AreToldOf ManifestFails (number + 1) line l) (sym end.0) tt);
            }
      ]

  -- == one line ==

  module _ (s : Place) (v : ManifestView) (new : World Place ManifestView) (first : Next) (steps : List StepRecord) (asks : AsksSo (world s v) new first steps) where
    says_told : (answer : Answer) (text : List ℕ) (after : Option Listing) → said_texts answer ≡ text ∷ [] → Answers view_listing view_said answer after first v → TellsFailures ManifestFails steps (said_texts new.desk.said)
    says_told answer text after is says =
        let end = says_texts answer after (world s v) new first steps says asks in
        record { first = text; more = []; are = end.1 ∙ is; told = subst (λ (l : List StepRecord). AreToldOf ManifestFails 1 text l) (sym end.0) tt }

    cause_told : (m : Listing) (code : List ℕ) (cause : Option Answer) → Finds m code cause → ByCause view_listing view_said m cause first v → TellsFailures ManifestFails steps (said_texts new.desk.said)
    cause_told m code (Some cause) finds does = let text = cause_text m code cause finds in says_told cause text.0 (Some m) text.1 does
    cause_told m code None finds does =
        let all = scans_told m 1 (world s v) new first steps does asks in
        record { first = all.first; more = []; are = all.are; told = all.told }

    on_told : (m : Listing) (own : ManifestLine) → BeginsOn view_listing view_said m own first v → TellsFailures ManifestFails steps (said_texts new.desk.said)
    on_told m (Open o) begins = says_told (answers.Opened o.count) (open_text o.count) (Some (opened o)) refl begins
    on_told m (Piece mark) begins =
        either_any (length m.marks == m.opening.count) (λ full says. says_told answers.Full (codes "refused manifest full") (Some m) refl says)
        (λ room says. says_told (answers.Piece (length m.marks + 1)) (piece_text (length m.marks + 1)) (Some (with_mark m mark)) refl says) begins
    on_told m Code begins = says_told (answers.Code (code_of m)) (code_text (code_of m)) (Some m) refl begins
    on_told m (Check code) begins = cause_told m code begins.cause begins.finds begins.does

    bare_told : (own : ManifestLine) → BeginsBare view_listing view_said own first v → TellsFailures ManifestFails steps (said_texts new.desk.said)
    bare_told (Open o) begins = says_told (answers.Opened o.count) (open_text o.count) (Some (opened o)) refl begins
    bare_told (Piece mark) begins = says_told answers.NoManifest (codes "refused manifest none") None refl begins
    bare_told Code begins = says_told answers.NoManifest (codes "refused manifest none") None refl begins
    bare_told (Check code) begins = says_told answers.NoManifest (codes "refused manifest none") None refl begins

    with_told : (m : Option Listing) (own : ManifestLine) → BeginsWith view_listing view_said m own first v → TellsFailures ManifestFails steps (said_texts new.desk.said)
    with_told (Some m) own begins = on_told m own begins
    with_told None own begins = bare_told own begins

pub manifest_tells : (one : (x y : Reply) → IsWholeReply x → IsWholeReply y → text_of x ≡ text_of y → told x ≡ told y) (τ : Tariff) (old new : World Place ManifestView) (line : List ℕ) (steps : List StepRecord)
    → DidOwn (by_model manifest_model) (MayStep τ) old new line steps Say → TellsFailures ManifestFails steps (manifest_model.texts new.desk)
manifest_tells one τ old new line steps did =
    with_told one τ old.scene did.desk new did.first steps did.asks old.desk.listing did.begins.0 did.begins.2

-- what the answer begins with, and the text of the reply
pub front_text : (number : ℕ) (reply : Reply) → no_piece_text number reply ≡ no_piece_front number ++ text_of reply
unfolding no_piece_text
front_text number reply =
    ap (λ (l : List ℕ). codes "manifest no piece " ++ l) (ap (λ (t : List ℕ). decimal number ++ 32 ∷ t) (append-nil (text_of reply)) ∙ sym (append_assoc (decimal number) (32 ∷ []) (text_of reply)))
