-- The desk of statements has its model. Each move of the model is determined. An answer has a first text, and no node failed in the step before it.
use Rattle.std.proofs.Common.{◌≡◌, inl, inr, ℕ, Bool, true, false, List, [], ◌∷◌, Option, Some, None, get_or, refl, sym, ◌∙◌, ap, subst, arith}
use Rattle.std.specs.Prelude.{codes, decimal}
use Rattle.bench_base.specs.declared.{words.Node.TheVariants.Centre, events.Event.Event, events.Reply.Reply}
use Rattle.bench_base.specs.declared.events.Event.TheVariants as ev
use Rattle.bench_base.specs.declared.events.Reply.TheVariants as r
use Rattle.node_turns.specs.declared.turn.Turn.{Turn}
use Rattle.ledger_moves.specs.Tariffs.{Tariff}
use Rattle.script_words.specs.Words.{words_in}
use Rattle.script_text.proofs.ReadBack.{one_number}
use Rattle.line_extensions.specs.Desks.{World, world, Asks, DidOwn}
use Rattle.line_extensions.specs.Trace.{StepRecord}
use Rattle.line_extensions.specs.declared.{extension.Next.Next, extension.Next.TheVariants.Step, extension.Next.TheVariants.Say}
use Rattle.centre_statement.specs.Courses.{Begins, BeginsClose, Answers, Closes, ByBalance, closed_with}
use Rattle.centre_statement.specs.Desk.{View, Opened, seen, view_of}
use Rattle.centre_statement.specs.OwnLines.{IsOwnLine}
use Rattle.centre_statement.specs.StatementsDesk.{statements_desk}
use Rattle.centre_statement.specs.Texts.{said_texts, closed_texts}
use Rattle.centre_statement.specs.declared.{lines.OwnLine.OwnLine, lines.OwnLine.TheVariants.Open, lines.OwnLine.TheVariants.Close, answer.Answer.Answer}
use Rattle.centre_statement.specs.declared.answer.Answer.TheVariants as answers
use Rattle.trace_extensions.specs.Models.{by_model, IsModelOf, IsDetermined, IsIdle, IsSure, AsksSurely, EndsByFailure, AreFailures, IsToldOf, AreToldOf, TellsFailures}
use Rattle.trace_extensions.specs.Places.{Place, MayStep}
use Rattle.trace_extensions.specs.StatementModel.{statement_model, Fails}
use Rattle.line_extensions.proofs.Wanting.{ends_at}
use Rattle.trace_extensions.proofs.Failures.{no_event, same_event}
use Rattle.trace_extensions.proofs.Idle.{balance_keeps}
use Rattle.trace_extensions.proofs.Sure.{FailsAt, failure_or_none}

-- THE DESK MOVES AS ITS MODEL
pub statement_modelled : IsModelOf statements_desk view_of statement_model
statement_modelled = record {
  own = λ line. (λ own. own, λ own. own);
  passes = λ a line passes. passes;
  begins = λ a b own line next is begins goes_on. (own, is, begins);
  goes = λ a b turn next goes goes_on. goes;
  sees = λ a b e turn sees. sees;
  texts = λ a. refl;
}

-- == its moves are determined ==

-- a line is one own line
one_line : (x y : OwnLine) (line : List ℕ) → IsOwnLine x line → IsOwnLine y line → x ≡ y
one_line (Open w) (Open u) line is other = ap Open (one_number (get_or (words_in line) 2 [] ∷ []) w u [] [] (omega (arith, is.0)) (omega (arith, other.0)) (behind w is.1) (behind u other.1))
  where
    behind : (n : ℕ) → words_in line ≡ codes "statement" ∷ codes "open" ∷ decimal n ∷ [] → get_or (words_in line) 2 [] ∷ [] ≡ decimal n ∷ []
    behind n words = ap (λ (ws : List (List ℕ)). get_or ws 2 [] ∷ []) words
one_line (Open w) Close line is other = let wrong : 111 ≡ 99 = ap (λ (ws : List (List ℕ)). get_or (get_or ws 1 []) 0 0) (sym is.1 ∙ other) in absurd (omega (arith, wrong))
one_line Close (Open u) line is other = let wrong : 99 ≡ 111 = ap (λ (ws : List (List ℕ)). get_or (get_or ws 1 []) 0 0) (sym is ∙ other.1) in absurd (omega (arith, wrong))
one_line Close Close line is other = refl

begun_close : (now : Option Opened) (v w x : View) (next more : Next) → BeginsClose now v next w → BeginsClose now v more x → (next ≡ more) × (w ≡ x)
begun_close None v w x next more one other = (one.0 ∙ sym other.0, one.1 ∙ sym other.1)
begun_close (Some s) v w x next more one other = (one.0 ∙ sym other.0, one.1 ∙ sym other.1)

begun : (v w x : View) (own : OwnLine) (next more : Next) → Begins v own next w → Begins v own more x → (next ≡ more) × (w ≡ x)
begun v w x (Open u) next more one other = (one.0 ∙ sym other.0, one.1 ∙ sym other.1)
begun v w x Close next more one other = begun_close v.current v w x next more one other

by_balance : (u : ℕ) (reply : Reply) (then : ℕ → View) (v w x : View) → ByBalance u reply then v w → ByBalance u reply then v x → w ≡ x
by_balance u reply then v w x (inl one) (inl other) =
    let same : r.Balance u one.0 ≡ r.Balance u other.0 = sym one.1 ∙ other.1 in
    let amount : one.0 ≡ other.0 = cc in
    one.2 ∙ ap then amount ∙ sym other.2
by_balance u reply then v w x (inl one) (inr other) = absurd (other.0 one.0 one.1)
by_balance u reply then v w x (inr one) (inl other) = absurd (one.0 other.0 other.1)
by_balance u reply then v w x (inr one) (inr other) = one.1 ∙ sym other.1

closed : (now : Option Opened) (reply : Reply) (v w x : View) → Closes now reply v w → Closes now reply v x → w ≡ x
closed None reply v w x one other = one ∙ sym other
closed (Some s) reply v w x one other = by_balance s.customer reply _ v w x one other

answered : (said : Answer) (reply : Reply) (v w x : View) → Answers said reply v w → Answers said reply v x → w ≡ x
answered (answers.Opening u) reply v w x one other = by_balance u reply _ v w x one other
answered answers.Closing reply v w x one other = closed v.current reply v w x one other
answered _ reply v w x one other = one ∙ sym other

-- EACH MOVE OF THE MODEL IS DETERMINED
pub statement_determined : IsDetermined statement_model
statement_determined = record {
  apart = λ v w line next begins passes. passes begins.0 begins.1;
  begins = λ v w x line next more one other.
      begun v w x one.0 next more one.2 (subst (λ (own : OwnLine). Begins v own more x) (one_line other.0 one.0 line other.1 one.1) other.2);
  goes = λ v w x turn next more one other. (one.0 ∙ sym other.0, answered v.said turn.reply _ w x one.1 other.1);
  sees = λ v w x turn one other. one ∙ sym other;
}

-- == what it asks for ==

balance_sure : (u : ℕ) (e : Event) → Step e ≡ Step (ev.Balance u) → IsSure e
balance_sure u e is = inr (inr (u, same_event e (ev.Balance u) is))

close_sure : (now : Option Opened) (v w : View) (e : Event) → BeginsClose now v (Step e) w → IsSure e
close_sure None v w e begins = absurd (no_event e begins.0)
close_sure (Some s) v w e begins = balance_sure s.customer e begins.0

begins_sure : (own : OwnLine) (v w : View) (e : Event) → Begins v own (Step e) w → IsSure e
begins_sure (Open u) v w e begins = balance_sure u e begins.0
begins_sure Close v w e begins = close_sure v.current v w e begins

-- it asks for balances alone
pub statement_asks : AsksSurely statement_model
statement_asks = record {
  first = λ v w line e begins. begins_sure begins.0 v w e begins.2;
  then = λ v w turn e goes. absurd (no_event e goes.0);
}

-- each reply ends its line
pub statement_ends : EndsByFailure statement_model
statement_ends = λ v w turn next n fails goes. (goes.0, tt)

-- no line tells a failure
pub statement_failures : AreFailures Fails
statement_failures = record {
  node = Centre;
  fails = λ number line reply told. absurd told;
  one_line = λ number line other reply one two. absurd one;
  none = λ number reply told. told;
}

pub statement_one_failure : (number : ℕ) (line : List ℕ) (x y : Reply) → Fails number line x → Fails number line y → x ≡ y
statement_one_failure number line x y one other = absurd one

-- == what an answer tells ==

-- there is a first text
record HasText (texts : List (List ℕ)) : Type 0 where
  first : List ℕ
  rest : List (List ℕ)
  are : texts ≡ first ∷ rest

abbrev Says : View → Type 0
Says v = HasText (said_texts v.said v.listed)

says_close : (full : Bool) (s : Opened) (v : View) (b : ℕ) → Says (closed_with full s.movements v b)
says_close true s v b = record { first = codes "refused statement full"; rest = []; are = refl }
says_close false s v b = elim s.movements as (λ movements. HasText (closed_texts movements b)) [
  | [] ↦ record { first = _; rest = _; are = refl }
  | m ∷ more ↦ record { first = _; rest = _; are = refl }
]

says_balance : (u : ℕ) (reply : Reply) (then : ℕ → View) (v w : View) → ((b : ℕ) → Says (then b)) → ByBalance u reply then v w → Says w
says_balance u reply then v w says (inl is) = subst Says (sym is.2) (says is.0)
says_balance u reply then v w says (inr is) = subst Says (sym is.1) (record { first = _; rest = []; are = refl })

says_closed : (now : Option Opened) (reply : Reply) (v w : View) → Closes now reply v w → Says w
says_closed None reply v w is = subst Says (sym is) (record { first = _; rest = []; are = refl })
says_closed (Some s) reply v w is = says_balance s.customer reply _ v w (says_close s.full s v) is

says_opened : (u : ℕ) (reply : Reply) (v w : View) → Answers (answers.Opening u) reply v w → Says w
says_opened u reply v w is = says_balance u reply _ v w (λ b. record { first = _; rest = []; are = refl }) is

module _ (τ : Tariff) where
  -- in a balance no node fails
  balance_told : (w : ℕ) (old new : Place) (d : StepRecord) (turn : Turn) (number : ℕ) (line : List ℕ) → d.event ≡ ev.Balance w → MayStep τ old new d turn → IsToldOf Fails number line d
  balance_told w old new d turn number line is step =
      let sure : IsSure d.event = inr (inr (w, is)) in
      record {
        sure = sure;
        told = elim (failure_or_none τ old.ledger old.left d sure step.may) [
          | inl fails ↦ absurd (subst (λ (e : Event). FailsAt e d.reply) is fails)
          | inr none ↦ inr ((λ reply fails. fails), none)
        ];
      }

  -- one balance was asked for, and the desk answered after it
  record IsOnce (old new : World Place View) (w : ℕ) (steps : List StepRecord) : Type 0 where
    d : StepRecord
    turn : Turn
    steps_are : steps ≡ d ∷ []
    event : d.event ≡ ev.Balance w
    did : MayStep τ old.scene new.scene d turn
    answers_so : Answers old.desk.said turn.reply (seen old.desk turn.entries) new.desk

  once : (old new : World Place View) (w : ℕ) (next : Next) (steps : List StepRecord) → next ≡ Step (ev.Balance w) → Asks (by_model statement_model) (MayStep τ) old new next steps Say → IsOnce old new w steps
  once old new w next [] is asks = let wrong : Say ≡ Step (ev.Balance w) = asks.0 ∙ is in absurd (cc)
  once old new w next (d ∷ []) is asks =
      let asked : next ≡ Step d.event = asks.2.asks in
      let same : Step (ev.Balance w) ≡ Step d.event = sym is ∙ asked in
      let end : asks.0 ≡ new = sym asks.3.1 in
      record {
        d = d;
        turn = asks.2.turn;
        steps_are = refl;
        event = cc;
        did = subst (λ (x : World Place View). MayStep τ old.scene x.scene d asks.2.turn) end asks.2.did;
        answers_so = subst (λ (x : World Place View). Answers old.desk.said asks.2.turn.reply (seen old.desk asks.2.turn.entries) x.desk) end asks.2.goes.1;
      }
  once old new w next (d ∷ f ∷ rest) is asks = let wrong : Say ≡ Step f.event = sym asks.2.goes.0 ∙ asks.3.2.asks in absurd (cc)

  told_once : (old new : World Place View) (w : ℕ) (steps : List StepRecord) → IsOnce old new w steps → Says new.desk → TellsFailures Fails steps (said_texts new.desk.said new.desk.listed)
  told_once old new w steps is says = record {
    first = says.first;
    more = says.rest;
    are = says.are;
    told = subst (λ (l : List StepRecord). AreToldOf Fails 1 says.first l) (sym is.steps_are) (balance_told w old.scene new.scene is.d is.turn 1 says.first is.event is.did, tt);
  }

  told_none : (old new : World Place View) (next : Next) (steps : List StepRecord) → next ≡ Say → Says old.desk → Asks (by_model statement_model) (MayStep τ) old new next steps Say → TellsFailures Fails steps (said_texts new.desk.said new.desk.listed)
  told_none old new next [] is says asks =
      let now : Says new.desk = subst (λ (x : World Place View). Says x.desk) (sym asks.1) says in
      record { first = now.first; more = now.rest; are = now.are; told = tt }
  told_none old new next (d ∷ rest) is says asks = let wrong : Say ≡ Step d.event = sym is ∙ asks.2.asks in absurd (cc)

  module _ (old new : World Place View) (line : List ℕ) (steps : List StepRecord) where
    abbrev Tells : Type 0
    Tells = TellsFailures Fails steps (said_texts new.desk.said new.desk.listed)

    -- by what was said before the step
    by_said : (w : ℕ) (said : Answer) (desk : View) (next : Next) → next ≡ Step (ev.Balance w) → desk.said ≡ said → Asks (by_model statement_model) (MayStep τ) (world old.scene desk) new next steps Say
        → ((reply : Reply) (v x : View) → Answers said reply v x → Says x) → Tells
    by_said w said desk next is waits asks says =
        let done : IsOnce (world old.scene desk) new w steps = once (world old.scene desk) new w next steps is asks in
        told_once (world old.scene desk) new w steps done
        (says done.turn.reply _ new.desk (subst (λ (s : Answer). Answers s done.turn.reply (seen desk done.turn.entries) new.desk) waits done.answers_so))

    closing : (now : Option Opened) (next : Next) (desk : View) → BeginsClose now old.desk next desk → Asks (by_model statement_model) (MayStep τ) (world old.scene desk) new next steps Say → Tells
    closing None next desk begins asks =
        told_none (world old.scene desk) new next steps begins.0 (subst Says (sym begins.1) (record { first = codes "refused statement none"; rest = []; are = refl })) asks
    closing (Some s) next desk begins asks = by_said s.customer answers.Closing desk next begins.0 (ap (λ (v : View). v.said) begins.1) asks (λ reply v x is. says_closed v.current reply v x is)

    by_line : (own : OwnLine) (next : Next) (desk : View) → Begins old.desk own next desk → Asks (by_model statement_model) (MayStep τ) (world old.scene desk) new next steps Say → Tells
    by_line (Open w) next desk begins asks = by_said w (answers.Opening w) desk next begins.0 (ap (λ (v : View). v.said) begins.1) asks (λ reply v x is. says_opened w reply v x is)
    by_line Close next desk begins asks = closing old.desk.current next desk begins asks

-- ITS ANSWER HAS A FIRST TEXT, AND NO NODE FAILED IN THE STEP BEFORE IT
pub statement_tells : (τ : Tariff) (old new : World Place View) (line : List ℕ) (steps : List StepRecord) → DidOwn (by_model statement_model) (MayStep τ) old new line steps Say → TellsFailures Fails steps (statement_model.texts new.desk)
statement_tells τ old new line steps did = by_line τ old new line steps did.begins.0 did.first did.desk did.begins.2 did.asks

-- WHAT IT ASKS FOR CHANGES NOTHING
module _ (τ : Tariff) (old new : World Place View) (line : List ℕ) (steps : List StepRecord) (last : Next) where
  -- the one balance was asked for
  asked_balance : (w : ℕ) (desk : View) (next : Next) (steps : List StepRecord) → next ≡ Step (ev.Balance w) → Asks (by_model statement_model) (MayStep τ) (world old.scene desk) new next steps last → IsIdle statement_model old new last
  asked_balance w desk next [] is asks = record {
    ledger = ap (λ (x : World Place View). x.scene.ledger) asks.1;
    alike = tt;
    asks = λ e step. (w, step_same e (sym step ∙ asks.0 ∙ is));
  }
    where
      step_same : (e : Event) → Step e ≡ Step (ev.Balance w) → e ≡ ev.Balance w
      step_same e same = cc same
  asked_balance w desk next (d ∷ []) is asks =
      let same : Step (ev.Balance w) ≡ Step d.event = sym is ∙ asks.2.asks in
      let event : d.event ≡ ev.Balance w = cc same in
      record {
        ledger = ap (λ (x : World Place View). x.scene.ledger) asks.3.1 ∙ ap (λ (s : Place). s.ledger) asks.2.did.new_is ∙ balance_keeps τ old.scene.ledger old.scene.left d w event asks.2.did.may;
        alike = tt;
        asks = λ e step. absurd (said e (sym asks.2.goes.0 ∙ sym asks.3.0 ∙ step));
      }
    where
      said : (e : Event) → Say ≡ Step e → ⊥
      said e wrong = cc wrong
  asked_balance w desk next (d ∷ f ∷ rest) is asks = let wrong : Say ≡ Step f.event = sym asks.2.goes.0 ∙ asks.3.2.asks in absurd (cc)

  asked_none : (desk : View) (next : Next) → next ≡ Say → Asks (by_model statement_model) (MayStep τ) (world old.scene desk) new next steps last → IsIdle statement_model old new last
  asked_none desk next is asks =
      let end = ends_at (by_model statement_model) (MayStep τ) (world old.scene desk) new next steps last asks (inl is) in
      record {
        ledger = ap (λ (x : World Place View). x.scene.ledger) end.2;
        alike = tt;
        asks = λ e step. absurd (said e (sym is ∙ sym end.1 ∙ step));
      }
    where
      said : (e : Event) → Say ≡ Step e → ⊥
      said e wrong = cc wrong

  by_own : (own : OwnLine) (next : Next) (desk : View) → Begins old.desk own next desk → Asks (by_model statement_model) (MayStep τ) (world old.scene desk) new next steps last → IsIdle statement_model old new last
  by_own (Open w) next desk begins asks = asked_balance w desk next steps begins.0 asks
  by_own Close next desk begins asks = closes old.desk.current begins
    where
      closes : (now : Option Opened) → BeginsClose now old.desk next desk → IsIdle statement_model old new last
      closes None begun = asked_none desk next begun.0 asks
      closes (Some s) begun = asked_balance s.customer desk next steps begun.0 asks

  pub statement_idle : DidOwn (by_model statement_model) (MayStep τ) old new line steps last → IsIdle statement_model old new last
  statement_idle did = by_own did.begins.0 did.first did.desk did.begins.2 did.asks
