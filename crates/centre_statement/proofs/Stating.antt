-- Each statement of a run has the movements that were counted while it was open.
use Rattle.std.proofs.Common.{◌≡◌, ◌≢◌, ◌⊎◌, inl, inr, ℕ, Bool, true, false, true≢false, arith, List, [], ◌∷◌, ◌++◌, Option, Some, None, refl, sym, ap, subst, ◌∙◌}
use Rattle.std.specs.List.{AllByRecursion}
use Rattle.std.specs.Prelude.{codes}
use Rattle.script_text.specs.Texts.{IsWholeReply}
use Rattle.bench_base.specs.declared.{events.Event.Event, events.Reply.Reply, ledger.Entry.Entry, ledger.Entry.TheVariants.Begin, ledger.Commit.Commit, words.Node.Node}
use Rattle.bench_base.specs.declared.events.Event.TheVariants as ev
use Rattle.bench_base.specs.declared.events.Reply.TheVariants as r
use Rattle.bench_base.specs.Ledger.{Ledger, counted, torn_of}
use Rattle.bench_base.specs.Ranges.{IsCustomer}
use Rattle.bench_base.specs.Rules.{todays_rules, editions}
use Rattle.bench_base.specs.Replies.{class_of}
use Rattle.node_acts.specs.Plans.{after}
use Rattle.node_turns.specs.declared.turn.Turn.{Turn}
use Rattle.node_turns.specs.Turns.{in_order}
use Rattle.line_runs.specs.Trace.{Reads}
use Rattle.line_extensions.specs.Trace.{StepRecord, Skipped, Did}
use Rattle.line_extensions.specs.Desks.{World, world, Asks, Does, DidOwn, side_lines}
use Rattle.line_extensions.specs.SideTrace.{SideStep, Plain, Own, Broken, IsBroken, steps_of}
use Rattle.line_extensions.specs.Wants.{IsStep}
use Rattle.line_extensions.specs.declared.{extension.Next.Next, extension.Next.TheVariants.Step, extension.Next.TheVariants.Say, extension.Next.TheVariants.Stop}
use Rattle.ledger_terms.specs.Editions.{Editions}
use Rattle.ledger_laws.specs.Laws.{ForHistories}
use Rattle.ledger_moves.specs.Histories.{History}
use Rattle.ledger_moves.specs.Moves.{Moves, plan, entries}
use Rattle.ledger_moves.specs.Tariffs.{Tariff}
use Rattle.ledger_terms.specs.Centres.{balance}
use Rattle.ledger_laws.specs.Nexts.{IsOpen}
use Rattle.bench.specs.Benches.{Nodes, Stands}
use Rattle.bench.specs.Steps.{StepsOn}
use Rattle.bench_abstraction.specs.Tariff.{IsOfTexts}
use Rattle.script_replay.specs.Chains.{SceneOf, DidEvent}
use Rattle.script_replay.specs.Trace.{ledger_by, ledger_after, AreUnforged}
use Rattle.script_replay.specs.Run.{Unforged}
use Rattle.script_replay.specs.Sides.{StepsBy}
use Rattle.script_replay.specs.Throughout.{StandsFor}
use Rattle.statement_check.specs.declared.line.Movement.{Movement}
use Rattle.centre_statement.specs.Balances.{BalancesFollow, BalancesFit}
use Rattle.centre_statement.specs.Courses as course
use Rattle.centre_statement.specs.Desk.{View, Opened, view_of, seen, fresh}
use Rattle.centre_statement.specs.Movements.{OpenedAt, AsksBalance, IsRefused, TellsOpening, AllTold, TellsMovements, IsStated, AreStated, movements}
use Rattle.centre_statement.specs.StatementsDesk.{statements_desk}
use Rattle.centre_statement.specs.Texts.{said_texts, closed_texts}
use Rattle.centre_statement.specs.declared.{desk.StatementDesk.StatementDesk, lines.OwnLine.OwnLine, lines.OwnLine.TheVariants.Open, lines.OwnLine.TheVariants.Close, answer.Answer.Answer}
use Rattle.centre_statement.specs.declared.answer.Answer.TheVariants as answers
use Rattle.centre_statement.proofs.Asking as asking
use Rattle.centre_statement.proofs.Counting.{GoesWith, Lists, Listed, Kept, Sound}
use Rattle.centre_statement.proofs.Turns.{IsSmall, turn_seen}
use Rattle.line_extensions.proofs.Wanting.{step_event, ends_at}

-- the texts of the desk's answer
abbrev pub texts_in : View → List (List ℕ)
texts_in v = said_texts v.said v.listed

-- == a balance is reported ==

one_balance : (w a b : ℕ) → r.Balance w a ≡ r.Balance w b → a ≡ b
one_balance w a b is = cc

-- what an own line leaves, by the ledger
record Leaves (P : Option OpenedAt → Type 0) (t : View) (H : Ledger) : Type 0 where
  now : Option OpenedAt
  stated : P now
  goes : GoesWith now t H

-- `statement open`
opens : (o : Option OpenedAt) (v t : View) (H : Ledger) (w : ℕ) (reply : Reply) → IsCustomer w → GoesWith o v H → asking.IsItsBalance w H reply
    → course.ByBalance w reply (course.opened w (course.saying (answers.Opening w) v)) (course.saying (answers.Opening w) v) t
    → Leaves (λ now. TellsOpening w (counted H) reply (texts_in t) now ⊎ (IsRefused w reply (texts_in t) × (now ≡ o))) t H
opens o v t H w reply range with_it (inl exact) (inl (b, is, then)) =
    let same : b ≡ balance w (counted H) = one_balance w b (balance w (counted H)) (sym is ∙ exact.0) in
    let view : t ≡ course.opened w (course.saying (answers.Opening w) v) (balance w (counted H)) = then ∙ ap (λ (x : ℕ). course.opened w (course.saying (answers.Opening w) v) x) same in
    let at : OpenedAt = record { customer = w; counted = counted H } in
    record {
      now = Some at;
      stated = inl (record { reply_is = exact.0; texts_are = ap texts_in view; now_is = refl });
      goes = subst (λ (x : View). GoesWith (Some at) x H) (sym view) (
        λ h. with_it.0 (inl exact.1),
        record { customer = refl; range = range; since = []; counts = refl; balance_is = refl; kept = inl (omega arith, refl, refl) },
      );
    }
opens o v t H w reply range with_it (inl exact) (inr other) = absurd (other.0 (balance w (counted H)) exact.0)
opens o v t H w reply range with_it (inr other) (inl (b, is, then)) = absurd (other b is)
opens o v t H w reply range with_it (inr other) (inr (none, then)) = record {
  now = o;
  stated = inr (record { other = other; texts_are = ap texts_in then }, refl);
  goes = subst (λ (x : View). GoesWith o x H) (sym then) with_it;
}

-- `statement close`, of the statement that is open
closes : (o : OpenedAt) (v t : View) (H : Ledger) (s : Opened) (reply : Reply) → v.current ≡ Some s → GoesWith (Some o) v H → asking.IsItsBalance s.customer H reply
    → course.ByBalance s.customer reply (course.closed_with s.full s.movements (course.saying answers.Closing v)) (course.saying answers.Closing v) t
    → Leaves (λ now. TellsMovements o (counted H) reply (texts_in t) now ⊎ (IsRefused o.customer reply (texts_in t) × (now ≡ Some o))) t H
closes o v t H s reply here with_it told did = by told did
  where
    l : Listed o s (counted H)
    l = subst (λ (x : Option Opened). Lists (Some o) x (counted H)) here with_it.1

    closed : View
    closed = course.saying answers.Closing v

    ms : List Movement
    ms = movements o.customer l.since o.counted

    b : ℕ
    b = balance o.customer (counted H)

    -- nothing is open after it
    none_open : (full : Bool) (kept : List Movement) → GoesWith None (course.closed_with full kept closed b) H
    none_open true kept = (λ h. with_it.0 (inr refl), tt)
    none_open false kept = (λ h. with_it.0 (inr refl), tt)

    all_told : Kept ms s.full s.movements → AllTold ms b (texts_in (course.closed_with s.full s.movements closed b))
    all_told (inl fits) = inl (
      fits.0,
      subst (λ (full : Bool). texts_in (course.closed_with full s.movements closed b) ≡ closed_texts ms b) (sym fits.1)
          (ap (λ (x : List Movement). closed_texts x b) fits.2),
    )
    all_told (inr over) = inr (over.0, subst (λ (full : Bool). texts_in (course.closed_with full s.movements closed b) ≡ codes "refused statement full" ∷ []) (sym over.1) refl)

    by : asking.IsItsBalance s.customer H reply → course.ByBalance s.customer reply (course.closed_with s.full s.movements closed) closed t
        → Leaves (λ now. TellsMovements o (counted H) reply (texts_in t) now ⊎ (IsRefused o.customer reply (texts_in t) × (now ≡ Some o))) t H
    by (inl exact) (inl (x, is, then)) =
        let same : x ≡ b = one_balance s.customer x (balance s.customer (counted H)) (sym is ∙ exact.0) ∙ ap (λ (w : ℕ). balance w (counted H)) l.customer in
        let view : t ≡ course.closed_with s.full s.movements closed b = then ∙ ap (λ (y : ℕ). course.closed_with s.full s.movements closed y) same in
        record {
          now = None;
          stated = inl (record {
            since = l.since;
            counts = l.counts;
            reply_is = exact.0 ∙ ap (λ (w : ℕ). r.Balance w (balance w (counted H))) l.customer;
            told = subst (λ (y : View). AllTold ms b (texts_in y)) (sym view) (all_told l.kept);
            now_is = refl;
          });
          goes = subst (λ (y : View). GoesWith None y H) (sym view) (none_open s.full s.movements);
        }
    by (inl exact) (inr other) = absurd (other.0 (balance s.customer (counted H)) exact.0)
    by (inr other) (inl (x, is, then)) = absurd (other x is)
    by (inr other) (inr (none, then)) = record {
      now = Some o;
      stated = inr (record { other = subst (λ (w : ℕ). (x : ℕ) → reply ≢ r.Balance w x) l.customer other; texts_are = ap texts_in then }, refl);
      goes = subst (λ (y : View). GoesWith (Some o) y H) (sym then) with_it;
    }

-- == the steps of an own line ==

abbrev ItsWorld : Nodes → Type 0
ItsWorld n = World (SceneOf n) StatementDesk

no_step : (e : Event) → Say ≡ Step e → ⊥
no_step e is = subst (λ (x : Next). IsStep x → ⊥) is (λ none. none) tt

no_stop : Stop ≡ Say → ⊥
no_stop is = cc

module _ (n : Nodes) where
  -- the last request, if it is no step
  ended : (old new : ItsWorld n) (next last : Next) (steps : List StepRecord) → next ≡ Say → Asks statements_desk (StepsBy n) old new next steps last → (steps ≡ []) × (last ≡ Say) × (new ≡ old)
  ended old new next last steps say asks = let end = ends_at statements_desk (StepsBy n) old new next steps last asks (inl say) in (end.0, end.1 ∙ say, end.2)

  -- one step was done, and then it said its answer
  record OneStep (old new : ItsWorld n) (desk : StatementDesk) (e : Event) (steps : List StepRecord) (last : Next) : Type 0 where
    step : StepRecord
    only : steps ≡ step ∷ []
    event : step.event ≡ e
    turn : Turn
    did : StepsBy n old.scene new.scene step turn
    ends : last ≡ Say
    answers : course.Answers (view_of desk).said turn.reply (seen (view_of desk) turn.entries) (view_of new.desk)

  one_step : (old new : ItsWorld n) (desk : StatementDesk) (e : Event) (first last : Next) (steps : List StepRecord) → first ≡ Step e → (last ≡ Say) ⊎ (last ≡ Stop)
      → Asks statements_desk (StepsBy n) (world old.scene desk) new first steps last → OneStep old new desk e steps last
  one_step old new desk e first last [] is (inl say) asks = absurd (no_step e (sym say ∙ (asks.0 ∙ is)))
  one_step old new desk e first last [] is (inr stop) asks = absurd (let wrong : Stop ≡ Step e = sym stop ∙ (asks.0 ∙ is) in subst (λ (x : Next). IsStep x → ⊥) wrong (λ none. none) tt)
  one_step old new desk e first last (d ∷ rest) is lasts asks =
      let goes = asks.2.goes in
      let end = ended asks.0 new asks.1 last rest goes.0 asks.3 in
      record {
        step = d;
        only = ap (λ (l : List StepRecord). d ∷ l) end.0;
        event = sym (ap (λ (x : Next). step_event d.event x) (sym is ∙ asks.2.asks));
        turn = asks.2.turn;
        did = subst (λ (x : ItsWorld n). StepsBy n old.scene x.scene d asks.2.turn) (sym end.2) asks.2.did;
        ends = end.1;
        answers = subst (λ (x : ItsWorld n). course.Answers (view_of desk).said asks.2.turn.reply (seen (view_of desk) asks.2.turn.entries) (view_of x.desk)) (sym end.2) goes.1;
      }

  -- no line breaks off
  close_goes_on : (old new : ItsWorld n) (steps : List StepRecord) (current : Option Opened) (desk : StatementDesk) (first : Next) → course.BeginsClose current (view_of old.desk) first (view_of desk)
      → Asks statements_desk (StepsBy n) (world old.scene desk) new first steps Stop → ⊥
  close_goes_on old new steps None desk first begins asks = no_stop (ended (world old.scene desk) new first Stop steps begins.0 asks).1
  close_goes_on old new steps (Some t) desk first begins asks = no_stop (one_step old new desk (ev.Balance t.customer) first Stop steps begins.0 (inr refl) asks).ends

  pub goes_on : (own : OwnLine) (old new : ItsWorld n) (steps : List StepRecord) → DidOwn statements_desk (StepsBy n) old new own steps Stop → ⊥
  goes_on (Open w) old new steps did = no_stop (one_step old new did.desk (ev.Balance w) did.first Stop steps did.begins.0 (inr refl) did.asks).ends
  goes_on Close old new steps did = close_goes_on old new steps (view_of old.desk).current did.desk did.first did.begins did.asks

  pub none_broken : (old new : ItsWorld n) (a : List (SideStep OwnLine)) (x : SideStep OwnLine) → Does statements_desk (StepsBy n) old new (a ++ x ∷ []) → IsBroken x → ⊥
  none_broken old new [] (Plain d) did broken = broken
  none_broken old new [] (Own line own steps texts) did broken = broken
  none_broken old new [] (Broken line own steps) did broken = goes_on own old did.0 steps did.1
  none_broken old new (d ∷ a) x did broken = none_broken did.0 new a x did.2 broken

-- the laws of histories that it rests on
pub record Laws : Type 0 where
  pub today : Editions editions
  pub opens : ForHistories (λ τ ρ ρs H. (n : Node) (c : Commit) → torn_of n H ≡ Some c → IsOpen n c H)
  pub follow : ForHistories (λ τ ρ ρs H. BalancesFollow (counted H))
  pub fit : ForHistories (λ τ ρ ρs H. BalancesFit (counted H))

module _ (n : Nodes) (τ : Tariff) (laws : Laws) (read_as : IsOfTexts τ) (tells : n.storage.tells) where
  -- what the step of an event does
  step_of : (old new : SceneOf n) (d : StepRecord) (H : Ledger) (did : DidEvent n old new d) → StandsFor n τ old.bench H → Unforged H d.event
      → StepsOn n τ H d.event d.text did.turn old.bench new.bench old.outside new.outside
  step_of old new d H did s u = did.steps.history τ H read_as s.history u s.stands tells

  moved : (old new : SceneOf n) (d : StepRecord) (H : Ledger) → DidEvent n old new d → StandsFor n τ old.bench H → Unforged H d.event → Moves τ todays_rules H d.event d.text d.reply
  moved old new d H did s u = subst (λ (x : Reply). Moves τ todays_rules H d.event d.text x) (sym did.told) (step_of old new d H did s u).moves

  stands_then : (old new : SceneOf n) (d : StepRecord) (H : Ledger) → DidEvent n old new d → StandsFor n τ old.bench H → Unforged H d.event → StandsFor n τ new.bench (ledger_by τ H d)
  stands_then old new d H did s u = record {
    history = History.moves d.event d.text d.reply s.history u (moved old new d H did s u);
    stands = subst (λ (x : Reply). Stands n new.bench (entries τ todays_rules H d.event d.text x)) (sym did.told) (step_of old new d H did s u).stands;
  }

  sound : (bench : SceneOf n) (H : Ledger) → StandsFor n τ bench.bench H → Sound (counted H)
  sound bench H s = (laws.follow τ todays_rules _ H laws.today s.history, laws.fit τ todays_rules _ H laws.today s.history)

  -- the entries of a turn are those of the ledger
  entries_are : (old new : SceneOf n) (d : StepRecord) (turn : Turn) (H : Ledger) → StepsBy n old new d turn → StandsFor n τ old.bench H → Unforged H d.event
      → turn.entries ≡ in_order (after (plan τ todays_rules H d.event d.text) d.reply [])
  entries_are old new d turn H steps s u =
      ap (λ (t : Turn). t.entries) (sym steps.1) ∙ (step_of old new d H steps.0 s u).entries
      ∙ ap (λ (x : Reply). in_order (after (plan τ todays_rules H d.event d.text) x [])) (sym steps.0.told)

  -- == a step that asked for a balance ==

  record AfterBalance (w : ℕ) (new : SceneOf n) (H : Ledger) (d : StepRecord) (turn : Turn) : Type 0 where
    ledger : ledger_by τ H d ≡ H
    sees_none : (v : View) → seen v turn.entries ≡ v
    reply : turn.reply ≡ d.reply
    range : IsCustomer w
    told : asking.IsItsBalance w H d.reply
    stands : StandsFor n τ new.bench H

  after_balance : (w : ℕ) (old new : SceneOf n) (d : StepRecord) (turn : Turn) (H : Ledger) → d.event ≡ ev.Balance w → StepsBy n old new d turn → StandsFor n τ old.bench H → Unforged H d.event
      → AfterBalance w new H d turn
  after_balance w old new d turn H event steps s u =
      let moves = moved old new d H steps.0 s u in
      let a = asking.asked w H τ d.text d.reply (subst (λ (x : Event). Moves τ todays_rules H x d.text d.reply) event moves) in
      let plain : (K : Ledger) → after (plan τ todays_rules H d.event d.text) d.reply K ≡ K =
      λ K. subst (λ (x : Event). after (plan τ todays_rules H x d.text) d.reply K ≡ K) (sym event) (a.plain K) in
      record {
        ledger = plain H;
        sees_none = λ v. ap (λ (l : List (Option Entry)). seen v l) (entries_are old new d turn H steps s u ∙ ap in_order (plain []));
        reply = ap (λ (t : Turn). t.reply) (sym steps.1) ∙ sym steps.0.told;
        range = a.range;
        told = a.told;
        stands = subst (λ (K : Ledger). StandsFor n τ new.bench K) (plain H) (stands_then old new d H steps.0 s u);
      }

  -- == an own line ==

  record OwnStated (own : OwnLine) (o : Option OpenedAt) (new : ItsWorld n) (K : Ledger) (steps : List StepRecord) : Type 0 where
    now : Option OpenedAt
    stated : IsStated own o (counted K) steps (texts_in (view_of new.desk)) now
    stands : StandsFor n τ new.scene.bench K
    goes : GoesWith now (view_of new.desk) K

  module _ (old new : ItsWorld n) (H : Ledger) (s : StandsFor n τ old.scene.bench H) (steps : List StepRecord) (unforged : AreUnforged τ Unforged H steps) where
    abbrev v : View
    v = view_of old.desk

    -- the balance of w was asked for, while the desk awaited it so
    record Balanced (w : ℕ) (answer : Answer) : Type 0 where
      asks : AsksBalance w steps
      ledger : ledger_after τ H steps ≡ H
      range : IsCustomer w
      told : asking.IsItsBalance w H asks.step.reply
      stands : StandsFor n τ new.scene.bench H
      answers : course.Answers answer asks.step.reply (course.saying answer v) (view_of new.desk)

    balanced : (w : ℕ) (answer : Answer) (desk : StatementDesk) (first : Next) → first ≡ Step (ev.Balance w) → view_of desk ≡ course.saying answer v
        → Asks statements_desk (StepsBy n) (world old.scene desk) new first steps Say → Balanced w answer
    balanced w answer desk first is view asks =
        let one = one_step n old new desk (ev.Balance w) first Say steps is (inl refl) asks in
        let u : Unforged H one.step.event = (subst (λ (l : List StepRecord). AreUnforged τ Unforged H l) one.only unforged).0 in
        let a = after_balance w old.scene new.scene one.step one.turn H one.event one.did s u in
        record {
          asks = record { step = one.step; only = one.only; event = one.event };
          ledger = ap (λ (l : List StepRecord). ledger_after τ H l) one.only ∙ a.ledger;
          range = a.range;
          told = a.told;
          stands = a.stands;
          answers = subst (λ (x : View). course.Answers x.said one.step.reply x (view_of new.desk)) view
              (subst (λ (x : View). course.Answers (view_of desk).said one.step.reply x (view_of new.desk)) (a.sees_none (view_of desk))
              (subst (λ (x : Reply). course.Answers (view_of desk).said x (seen (view_of desk) one.turn.entries) (view_of new.desk)) a.reply one.answers));
        }

    open_stated : (o : Option OpenedAt) (w : ℕ) (desk : StatementDesk) (first : Next) → first ≡ Step (ev.Balance w) → view_of desk ≡ course.saying (answers.Opening w) v
        → Asks statements_desk (StepsBy n) (world old.scene desk) new first steps Say → GoesWith o v H → OwnStated (Open w) o new (ledger_after τ H steps) steps
    open_stated o w desk first is view asks with_it =
        let b = balanced w (answers.Opening w) desk first is view asks in
        let left = opens o v (view_of new.desk) H w b.asks.step.reply b.range with_it b.told b.answers in
        subst (λ (K : Ledger). OwnStated (Open w) o new K steps) (sym b.ledger) (record { now = left.now; stated = (b.asks, left.stated); stands = b.stands; goes = left.goes })

    close_stated : (current : Option Opened) → v.current ≡ current → (o : Option OpenedAt) (desk : StatementDesk) (first : Next) → course.BeginsClose current v first (view_of desk)
        → Asks statements_desk (StepsBy n) (world old.scene desk) new first steps Say → GoesWith o v H → OwnStated Close o new (ledger_after τ H steps) steps
    close_stated None is None desk first begins asks with_it =
        let end = ended n (world old.scene desk) new first Say steps begins.0 asks in
        let view : view_of new.desk ≡ course.saying answers.NoneOpen v = ap (λ (x : ItsWorld n). view_of x.desk) end.2 ∙ begins.1 in
        subst (λ (K : Ledger). OwnStated Close None new K steps) (sym (ap (λ (l : List StepRecord). ledger_after τ H l) end.0)) (record {
          now = None;
          stated = (end.0, ap texts_in view, refl);
          stands = subst (λ (x : ItsWorld n). StandsFor n τ x.scene.bench H) (sym end.2) s;
          goes = subst (λ (x : View). GoesWith None x H) (sym view) with_it;
        })
    close_stated None is (Some o) desk first begins asks with_it = absurd (subst (λ (x : Option Opened). Lists (Some o) x (counted H)) is with_it.1)
    close_stated (Some t) is None desk first begins asks with_it = absurd (subst (λ (x : Option Opened). Lists None x (counted H)) is with_it.1)
    close_stated (Some t) is (Some o) desk first begins asks with_it =
        let l : Listed o t (counted H) = subst (λ (x : Option Opened). Lists (Some o) x (counted H)) is with_it.1 in
        let b = balanced t.customer answers.Closing desk first begins.0 begins.1 asks in
        let answers = subst (λ (x : Option Opened). course.Closes x b.asks.step.reply (course.saying answers.Closing v) (view_of new.desk)) is b.answers in
        let left = closes o v (view_of new.desk) H t b.asks.step.reply is with_it b.told answers in
        let asks' : AsksBalance o.customer steps = record { step = b.asks.step; only = b.asks.only; event = b.asks.event ∙ ap (λ (w : ℕ). ev.Balance w) l.customer } in
        subst (λ (K : Ledger). OwnStated Close (Some o) new K steps) (sym b.ledger) (record { now = left.now; stated = (asks', left.stated); stands = b.stands; goes = left.goes })

    own_stated : (own : OwnLine) (o : Option OpenedAt) → DidOwn statements_desk (StepsBy n) old new own steps Say → GoesWith o v H → OwnStated own o new (ledger_after τ H steps) steps
    own_stated (Open w) o did with_it = open_stated o w did.desk did.first did.begins.0 did.begins.1 did.asks with_it
    own_stated Close o did with_it = close_stated v.current refl o did.desk did.first did.begins did.asks with_it

  -- == a line that is left to the bench ==

  small_told : (reply : Reply) → IsWholeReply reply → IsSmall (class_of reply)
  small_told (r.Up m k) whole = whole.1
  small_told _ whole = tt

  passed : (o : Option OpenedAt) (v t : View) (old new : SceneOf n) (d : StepRecord) (turn : Turn) (H : Ledger) → IsWholeReply d.reply → StepsBy n old new d turn → t ≡ seen v turn.entries → StandsFor n τ old.bench H
      → Unforged H d.event → GoesWith o v H → GoesWith o t (ledger_by τ H d)
  passed o v t old new d turn H whole steps sees s u with_it =
      let now = turn_seen o v τ H d.event d.text d.reply (λ m c is. (laws.opens τ todays_rules _ H laws.today s.history m c is).node) (small_told d.reply whole)
      (moved old new d H steps.0 s u) (sound new (ledger_by τ H d) (stands_then old new d H steps.0 s u)) with_it in
      subst (λ (x : View). GoesWith o x (ledger_by τ H d)) (sym (sees ∙ ap (λ (l : List (Option Entry)). seen v l) (entries_are old new d turn H steps s u))) now

  -- == all lines ==

  first_unforged : (H : Ledger) (a b : List StepRecord) → AreUnforged τ Unforged H (a ++ b) → AreUnforged τ Unforged H a
  first_unforged H [] b u = tt
  first_unforged H (d ∷ a) b u = (u.0, first_unforged (ledger_by τ H d) a b u.1)

  rest_unforged : (H : Ledger) (a b : List StepRecord) → AreUnforged τ Unforged H (a ++ b) → AreUnforged τ Unforged (ledger_after τ H a) b
  rest_unforged H [] b u = u
  rest_unforged H (d ∷ a) b u = rest_unforged (ledger_by τ H d) a b u.1

  -- EACH LINE OF A RUN IS STATED BY THE LEDGER
  pub all_stated : (o : Option OpenedAt) (old new : ItsWorld n) (trace : List (SideStep OwnLine)) (H : Ledger) → AllByRecursion (Reads (side_lines statements_desk)) trace
      → Does statements_desk (StepsBy n) old new trace → StandsFor n τ old.scene.bench H → AreUnforged τ Unforged H (steps_of trace) → GoesWith o (view_of old.desk) H → AreStated τ o H trace
  all_stated o old new [] H reads did s u with_it = tt
  all_stated o old new (Plain (Skipped line) ∷ rest) H reads did s u with_it =
      all_stated o did.0 new rest H reads.1 did.2 (subst (λ (x : ItsWorld n). StandsFor n τ x.scene.bench H) (sym did.1) s) u
      (subst (λ (x : ItsWorld n). GoesWith o (view_of x.desk) H) (sym did.1) with_it)
  all_stated o old new (Plain (Did line d) ∷ rest) H reads did s u with_it =
      let one = did.1 in
      all_stated o did.0 new rest (ledger_by τ H d) reads.1 did.2 (stands_then old.scene did.0.scene d H one.did.0 s u.0) u.1
      (passed o (view_of old.desk) (view_of did.0.desk) old.scene did.0.scene d one.turn H reads.0.is.1 one.did one.sees s u.0 with_it)
  all_stated o old new (Own line own steps texts ∷ rest) H reads did s u with_it =
      let one = own_stated old did.0 H s steps (first_unforged H steps (steps_of rest) u) own o did.1.did with_it in (
        one.now,
        subst (λ (t : List (List ℕ)). IsStated own o (counted (ledger_after τ H steps)) steps t one.now) (sym did.1.answer) one.stated,
        all_stated one.now did.0 new rest (ledger_after τ H steps) reads.1 did.2 one.stands (rest_unforged H steps (steps_of rest) u) one.goes,
      )
  all_stated o old new (Broken line own steps ∷ rest) H reads did s u with_it = absurd (goes_on n own old did.0 steps did.1)

-- a desk that has seen nothing goes with a ledger at the begin of a run
pub starts_with : (v : View) (L : Ledger) → v ≡ fresh → GoesWith None v (Begin ∷ L)
starts_with v L is = subst (λ (x : View). GoesWith None x (Begin ∷ L)) (sym is) (
  λ h. elim h [
    | inl on ↦ absurd (true≢false (sym on))
    | inr some ↦ absurd (true≢false (sym some))
  ],
  tt,
)
