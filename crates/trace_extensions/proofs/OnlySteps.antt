-- A step that an own line may have been answered with is the one that the auditor took.
use Rattle.std.proofs.Common.{arith, ◌≡◌, ◌≢◌, ◌⊎◌, inl, inr, ℕ, ◌+◌, ◌<◌, ℤ, List, [], ◌∷◌, length, Option, refl, sym, ◌∙◌, ap, subst}
use Rattle.bench_base.specs.declared.{words.Node.Node, words.Node.TheVariants.Host, words.Node.TheVariants.Verifier, events.Event.Event, events.Reply.Reply}
use Rattle.bench_base.specs.Ledger.{Ledger, day_in}
use Rattle.bench_base.specs.Replies.{ReplyClass, Did, class_of}
use Rattle.bench_base.specs.Rules.{todays_rules, editions}
use Rattle.node_turns.specs.declared.turn.Turn.{Turn}
use Rattle.ledger_moves.specs.Tariffs.{Tariff}
use Rattle.ledger_moves.specs.Moves.{answer}
use Rattle.ledger_moves.specs.Histories.{History, moves}
use Rattle.script_text.specs.Texts.{text_of}
use Rattle.line_extensions.specs.Trace.{StepRecord}
use Rattle.line_extensions.specs.Desks.{World, world, Asked, Asks}
use Rattle.line_extensions.specs.declared.{extension.Extension.Ghosts, extension.Next.Next, extension.Next.TheVariants.Step, extension.Next.TheVariants.Stop}
use Rattle.trace_bench.specs.Judging.{taken_by}
use Rattle.trace_bench.specs.Prefixes.{IsDue, IsFailure}
use Rattle.trace_bench.specs.Seeing.{Audit, Sees}
use Rattle.trace_runs.specs.Audits.{MayTell}
use Rattle.trace_extensions.specs.Exact.{IsMet}
use Rattle.trace_extensions.specs.Models.{Model, by_model, IsModelOf, IsDetermined, IsSure, IsToldOf, AreToldOf}
use Rattle.trace_extensions.specs.Places.{Place, place, turn_at, MayStep}
use Rattle.trace_extensions.specs.Takes.{TakesAt}
use Rattle.trace_extensions.specs.Worlds.{AskedOne}
use Rattle.trace_extensions.proofs.SameStep.{same_turn, ledgers, lefts}
use Rattle.trace_extensions.proofs.Sure.{FailsAt, sure_reply}

-- such an event takes nothing of the rates
pub sure_taken : (e : Event) → IsSure e → (day : Option ℤ) (x : ReplyClass) (left : List ℕ) → taken_by e day x left ≡ []
sure_taken e (inl s) day x left = ap (λ (f : Event). taken_by f day x left) s.2
sure_taken e (inr (inl s)) day x left = ap (λ (f : Event). taken_by f day x left) s.1
sure_taken e (inr (inr s)) day x left = ap (λ (f : Event). taken_by f day x left) s.1

-- if it fails at its node, a node fails
failing : (e : Event) (x : Reply) → IsSure e → FailsAt e x → ((m : Node) → IsFailure x m → ⊥) → ⊥
failing e x (inl s) fails fine = fine Verifier (subst (λ (y : Event). FailsAt y x) s.2 fails)
failing e x (inr (inl s)) fails fine = fine Host (subst (λ (y : Event). FailsAt y x) s.1 fails)
failing e x (inr (inr s)) fails fine = subst (λ (y : Event). FailsAt y x) s.1 fails

-- the reply that was chosen has the text of the one that came
pub chosen_text : (Fails : ℕ → List ℕ → Reply → Type 0) (number : ℕ) (line : List ℕ) (τ : Tariff) (H : Ledger) (left : List ℕ) (d : StepRecord) (e : Event) (due reply : Reply) → d.event ≡ e
    → MayTell τ H left d → IsToldOf Fails number line d → IsDue τ H e left due → ((x : Reply) → Fails number line x → reply ≡ x) → (((x : Reply) → Fails number line x → ⊥) → reply ≡ due) → reply ≡ d.reply
chosen_text Fails number line τ H left d e due reply event may told due_is failed fine = by told.told
  where
    by : Fails number line d.reply ⊎ (((x : Reply) → Fails number line x → ⊥) × ((m : Node) → IsFailure d.reply m → ⊥)) → reply ≡ d.reply
    by (inl fails) = failed d.reply fails
    by (inr (none, no_failure)) = elim (sure_reply τ H left d told.sure may) [
      | inl is ↦
          let taken : d.text ≡ taken_by e (day_in H) Did left =
          may.takes ∙ sure_taken d.event told.sure (day_in H) (class_of d.reply) left ∙ sym (sure_taken e (subst (λ (x : Event). IsSure x) event told.sure) (day_in H) Did left) in
          fine none ∙ due_is ∙ ap (λ (t : List ℕ). answer τ todays_rules H e t) (sym taken) ∙ ap (λ (x : Event). answer τ todays_rules H x d.text) (sym event) ∙ sym is
      | inr fails ↦ absurd (failing d.event d.reply told.sure fails no_failure)
    ]

module _ {K T : Type 0} (k : Ghosts K T) where
  -- a step that was asked for is one that was taken
  pub asked_takes : (τ : Tariff) (H : Ledger) (e : Event) (left left1 text : List ℕ) (new : Audit) (desk desk1 : K) (next : Next) → (one : AskedOne k τ e (world (place H left) desk) new left1 desk1 next)
      → text_of one.d.reply ≡ text → TakesAt τ H e text new left left1 one.d × k.Goes desk (turn_at τ H one.d) next desk1
  asked_takes τ H e left left1 text new desk desk1 next one is = (
    record {
      event = one.event;
      text = is;
      may = one.did.may;
      sees = subst (λ (s : Place). Sees new s.ledger) one.did.new_is one.seen.sees;
      left = sym one.seen.left ∙ ap (λ (s : Place). s.left) one.did.new_is;
    },
    subst (λ (t : Turn). k.Goes desk t next desk1) one.did.turn_is (subst (λ (d : K). k.Goes desk one.turn next d) one.seen.desk one.goes),
  )

module _ {K T : Type 0} (k : Ghosts K T) {V : Type 0} (view : K → V) (m : Model V) (modelled : IsModelOf k view m) (det : IsDetermined m) where
  -- one step, which the extension heard of
  pub taken_step : (τ : Tariff) (H : Ledger) (e : Event) (line left left1 : List ℕ) (new : Audit) (desk desk1 : K) (next more : Next) (mid : World Place V) (d f : StepRecord) → History τ editions H
      → Asked (by_model m) (MayStep τ) (world (place H left) (view desk)) mid (Step e) d more → line ≡ text_of d.reply → TakesAt τ H e line new left left1 f → k.Goes desk (turn_at τ H f) next desk1 → next ≢ Stop
      → (more ≡ next) × IsMet view τ new left1 desk1 mid
  taken_step τ H e line left left1 new desk desk1 next more mid d f history asked is took goes on =
      let event : f.event ≡ d.event = took.event ∙ same_event asked.asks in
      let text : text_of f.reply ≡ text_of d.reply = took.text ∙ is in
      let may = asked.did.may in
      let turn : turn_at τ H f ≡ asked.turn = same_turn τ H left f d took.may may event text ∙ sym asked.did.turn_is in
      let ours : m.Goes (view desk) asked.turn next (view desk1) = subst (λ (t : Turn). m.Goes (view desk) t next (view desk1)) turn (modelled.goes desk desk1 (turn_at τ H f) next goes on) in
      let same = det.goes (view desk) mid.desk (view desk1) asked.turn more next asked.goes ours in (
        same.0,
        record {
          history = subst (λ (s : Place). History τ editions s.ledger) (sym asked.did.new_is) (moves d.event d.text d.reply history may.unforged may.moves);
          sees = subst (λ (s : Place). Sees new s.ledger) (sym asked.did.new_is) (subst (λ (l : Ledger). Sees new l) (ledgers τ H left f d took.may may event text) took.sees);
          left = ap (λ (s : Place). s.left) asked.did.new_is ∙ sym (lefts τ H left f d took.may may event text) ∙ sym took.left;
          kept = same.1;
        },
      )
    where
      same_event : Step e ≡ Step d.event → e ≡ d.event
      same_event is = cc (is)

module _ {K V : Type 0} (view : K → V) (m : Model V) where
  module _ (Fails : ℕ → List ℕ → Reply → Type 0) (τ : Tariff) (line : List ℕ) where
    -- steps one after the other: from where some of them were taken, those that are left may be done, and then this is asked for
    pub record LeftToAsk (count taken : ℕ) (audit : Audit) (rates : List ℕ) (desk : K) (next last : Next) (mid : World Place V) : Type 0 where
      pub at : World Place V
      pub met : IsMet view τ audit rates desk at
      pub steps : List StepRecord
      pub asks : Asks (by_model m) (MayStep τ) at mid next steps last
      pub told : AreToldOf Fails (taken + 1) line steps
      pub many : taken + length steps ≡ count

    pub none_asked : (H : Ledger) (rates : List ℕ) (audit : Audit) (desk : K) (first last : Next) (mid : World Place V) (steps : List StepRecord)
        → History τ editions H → Sees audit H → Asks (by_model m) (MayStep τ) (world (place H rates) (view desk)) mid first steps last → AreToldOf Fails 1 line steps → LeftToAsk (length steps) 0 audit rates desk first last mid
    none_asked H rates audit desk first last mid steps history sees asks told =
        record { at = world (place H rates) (view desk); met = record { history = history; sees = sees; left = refl; kept = refl }; steps = steps; asks = asks; told = told; many = omega arith }

    -- the place where the auditor is
    met_at : (audit : Audit) (rates : List ℕ) (desk : K) (at : World Place V) → IsMet view τ audit rates desk at → at ≡ world (place at.scene.ledger rates) (view desk)
    met_at audit rates desk at met =
        ap (λ (r : List ℕ). world (place at.scene.ledger r) at.desk) met.left ∙ ap (λ (v : V). world (place at.scene.ledger rates) v) met.kept

    -- the next step that is left, and those after it
    pub record NextAsked (count taken : ℕ) (audit : Audit) (rates : List ℕ) (desk : K) (e : Event) (last : Next) (mid : World Place V) : Type 0 where
      pub ledger : Ledger
      pub history : History τ editions ledger
      pub sees : Sees audit ledger
      pub behind : World Place V
      pub more : Next
      pub d : StepRecord
      pub asked : Asked (by_model m) (MayStep τ) (world (place ledger rates) (view desk)) behind (Step e) d more
      pub told : IsToldOf Fails (taken + 1) line d
      pub steps : List StepRecord
      pub asks : Asks (by_model m) (MayStep τ) behind mid more steps last
      pub are : AreToldOf Fails (taken + 1 + 1) line steps
      pub many : taken + 1 + length steps ≡ count

    -- a step that is asked for is left, unless all were taken
    pub next_asked : (count taken : ℕ) (audit : Audit) (rates : List ℕ) (desk : K) (next last : Next) (e : Event) (mid : World Place V)
        → next ≡ Step e → (last ≡ Step e → taken ≡ count → ⊥) → LeftToAsk count taken audit rates desk next last mid → NextAsked count taken audit rates desk e last mid
    next_asked count taken audit rates desk next last e mid is some left = by left.steps left.asks left.told left.many
      where
        by : (steps : List StepRecord) → Asks (by_model m) (MayStep τ) left.at mid next steps last → AreToldOf Fails (taken + 1) line steps → taken + length steps ≡ count → NextAsked count taken audit rates desk e last mid
        by [] asks told many = absurd (some (asks.0 ∙ is) (omega (arith, many)))
        by (d ∷ steps) asks told many = record {
          ledger = left.at.scene.ledger;
          history = left.met.history;
          sees = left.met.sees;
          behind = asks.0;
          more = asks.1;
          d = d;
          asked = subst (λ (x : World Place V). Asked (by_model m) (MayStep τ) x asks.0 (Step e) d asks.1) (met_at audit rates desk left.at left.met)
              (subst (λ (n : Next). Asked (by_model m) (MayStep τ) left.at asks.0 n d asks.1) is asks.2);
          told = told.0;
          steps = steps;
          asks = asks.3;
          are = told.1;
          many = omega (arith, many);
        }

    -- the same, where what is asked for is no stop
    pub left_next : (count taken : ℕ) (audit : Audit) (rates : List ℕ) (desk : K) (next last : Next) (e : Event) (mid : World Place V)
        → next ≡ Step e → (last ≡ Step e → taken ≡ count → ⊥) → (next ≢ Stop → LeftToAsk count taken audit rates desk next last mid) → NextAsked count taken audit rates desk e last mid
    left_next count taken audit rates desk next last e mid is some left = next_asked count taken audit rates desk next last e mid is some (left (λ stop. absurd (cc (is, stop))))

    -- what is left behind the next step
    pub after_next : (count taken : ℕ) (audit audit1 : Audit) (rates rates1 : List ℕ) (desk desk1 : K) (e : Event) (next last : Next) (mid : World Place V)
        → (n : NextAsked count taken audit rates desk e last mid) → (n.more ≡ next) × IsMet view τ audit1 rates1 desk1 n.behind → LeftToAsk count (taken + 1) audit1 rates1 desk1 next last mid
    after_next count taken audit audit1 rates rates1 desk desk1 e next last mid n met = record {
      at = n.behind;
      met = met.1;
      steps = n.steps;
      asks = subst (λ (x : Next). Asks (by_model m) (MayStep τ) n.behind mid x n.steps last) met.0 n.asks;
      told = n.are;
      many = n.many;
    }

    -- nothing is left to ask for
    pub all_asked : (count taken : ℕ) (audit : Audit) (rates : List ℕ) (desk : K) (next last : Next) (mid : World Place V)
        → ((e : Event) → next ≡ Step e → ⊥) → LeftToAsk count taken audit rates desk next last mid → IsMet view τ audit rates desk mid
    all_asked count taken audit rates desk next last mid none left = by left.steps left.asks
      where
        by : (steps : List StepRecord) → Asks (by_model m) (MayStep τ) left.at mid next steps last → IsMet view τ audit rates desk mid
        by [] asks = subst (λ (x : World Place V). IsMet view τ audit rates desk x) (sym asks.1) left.met
        by (d ∷ steps) asks = absurd (none d.event asks.2.asks)

    -- all were taken
    pub all_taken : (count taken : ℕ) (audit : Audit) (rates : List ℕ) (desk : K) (next last : Next) (mid : World Place V)
        → taken ≡ count → LeftToAsk count taken audit rates desk next last mid → (last ≡ next) × IsMet view τ audit rates desk mid
    all_taken count taken audit rates desk next last mid all left = by left.steps left.asks left.many
      where
        by : (steps : List StepRecord) → Asks (by_model m) (MayStep τ) left.at mid next steps last → taken + length steps ≡ count → (last ≡ next) × IsMet view τ audit rates desk mid
        by [] asks many = (asks.0, subst (λ (x : World Place V). IsMet view τ audit rates desk x) (sym asks.1) left.met)
        by (d ∷ steps) asks many = absurd (omega (arith, many, all))

    -- some are left, so a step is asked for
    pub still_asks : (count taken : ℕ) (audit : Audit) (rates : List ℕ) (desk : K) (next last : Next) (mid : World Place V)
        → taken < count → LeftToAsk count taken audit rates desk next last mid → (e : Event) × (next ≡ Step e)
    still_asks count taken audit rates desk next last mid fewer left = by left.steps left.asks left.many
      where
        by : (steps : List StepRecord) → Asks (by_model m) (MayStep τ) left.at mid next steps last → taken + length steps ≡ count → (e : Event) × (next ≡ Step e)
        by [] asks many = absurd (omega (arith, many, fewer))
        by (d ∷ steps) asks many = (d.event, asks.2.asks)
