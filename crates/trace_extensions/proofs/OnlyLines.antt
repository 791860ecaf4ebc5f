-- What may have been done for a line, by the model: by what the line is, and whether the extension leaves it to the bench.
use Rattle.std.proofs.Common.{◌≡◌, ℕ, List, ◌∷◌, ◌++◌, flat_map, Option, Some, sym, ◌∙◌, ap, subst, append_assoc}
use Rattle.std.specs.Io.KnownBytes.{Consumes}
use Rattle.std.specs.List.{AllByRecursion}
use Rattle.bench_base.specs.declared.{events.Event.Event, events.Reply.Reply}
use Rattle.bench_base.specs.Ledger.{Ledger}
use Rattle.bench_base.specs.Rules.{editions}
use Rattle.node_turns.specs.declared.turn.Turn.{Turn}
use Rattle.ledger_moves.specs.Tariffs.{Tariff}
use Rattle.ledger_moves.specs.Histories.{History, moves}
use Rattle.script_text.specs.Grammar.{Spells, IsSkipped}
use Rattle.script_text.specs.Texts.{text_of}
use Rattle.script_text.proofs.EachEvent.{one_event_of, no_event_skipped}
use Rattle.line_runs.specs.Lines.{IsOneLine, ended}
use Rattle.line_extensions.specs.Trace.{StepRecord, Skipped, Did}
use Rattle.line_extensions.specs.Desks.{World, world, DidOwn, DidPlain, Asks}
use Rattle.line_extensions.specs.Events.{IsLineOf}
use Rattle.line_extensions.specs.SideTrace.{SideStep, Plain, Own, Broken}
use Rattle.line_extensions.specs.Wants.{IsAlone}
use Rattle.line_extensions.specs.declared.{extension.Extension.Ghosts, extension.Next.Next, extension.Next.TheVariants.Say}
use Rattle.trace_bench.specs.Seeing.{Audit, Sees}
use Rattle.trace_extensions.specs.Exact.{MayBe, MayAnswer, IsMet, HasNext}
use Rattle.trace_extensions.specs.Fits.{IsText}
use Rattle.trace_extensions.specs.Models.{Model, by_model, IsModelOf, IsDetermined, TellsFailures}
use Rattle.trace_extensions.specs.Places.{Place, place, turn_at, MayStep}
use Rattle.trace_extensions.specs.Takes.{TakesAt}
use Rattle.trace_extensions.proofs.Lines.{known, one_split, one_text_line}
use Rattle.trace_extensions.proofs.SameStep.{same_turn, ledgers, lefts}

module _ {K T : Type 0} (k : Ghosts K T) {V : Type 0} (view : K → V) (m : Model V) (modelled : IsModelOf k view m) (det : IsDetermined m) (alone : (own : k.Own) (line : List ℕ) → k.IsOwn own line → IsAlone line)
    (τ : Tariff) (at mid : World Place V) (line : List ℕ) (report : Option (List ℕ)) (told : List ℕ) where
  on_line : (x : List ℕ) → x ≡ line → (P : List ℕ → Type 0) → P line → P x
  on_line x is P p = subst P (sym is) p

  not_own : m.IsOwn line → IsSkipped line → ⊥
  not_own own skipped = let w = (modelled.own line).0 own in (alone w.0 line w.1).not_skipped skipped

  -- the line is skipped
  pub if_skipped : IsSkipped line → (b : SideStep (List ℕ)) → MayBe m τ at mid line report told b → (mid ≡ at) × (report ≡ Some told)
  if_skipped skipped (Plain (Skipped x)) may = (may.did, may.report_is)
  if_skipped skipped (Plain (Did x d)) may = absurd (no_event_skipped d.event x may.is.0.spells (on_line x may.line_is (λ l. IsSkipped l) skipped))
  if_skipped skipped (Own x own steps texts) may = absurd (not_own (subst (λ (l : List ℕ). m.IsOwn l) may.line_is may.is.1) skipped)
  if_skipped skipped (Broken x own steps) may = absurd (may.whole tt)

  -- it is the line of an event, and left to the bench
  pub record EventMayBe (e : Event) : Type 0 where
    pub d : StepRecord
    pub event : d.event ≡ e
    pub did : DidPlain (by_model m) (MayStep τ) at mid line d
    pub next : HasNext report (text_of d.reply) told

  pub if_passed : (e : Event) → IsLineOf e line → m.Passes at.desk line → (b : SideStep (List ℕ)) → MayBe m τ at mid line report told b → EventMayBe e
  if_passed e is passes (Plain (Skipped x)) may = absurd (no_event_skipped e line is.spells (subst (λ (l : List ℕ). IsSkipped l) may.line_is may.is))
  if_passed e is passes (Plain (Did x d)) may = record {
    d = d;
    event = one_event_of d.event e line may.is.0.whole is.whole (subst (λ (l : List ℕ). Spells d.event l) may.line_is may.is.0.spells) is.spells;
    did = subst (λ (l : List ℕ). DidPlain (by_model m) (MayStep τ) at mid l d) may.line_is may.did;
    next = may.report_is;
  }
  if_passed e is passes (Own x own steps texts) may =
      let begins = may.did.did.begins in
      absurd (det.apart at.desk may.did.did.desk line may.did.did.first (subst (λ (l : List ℕ). m.Begins at.desk l may.did.did.first may.did.did.desk) (may.is.0 ∙ may.line_is) begins) passes)
  if_passed e is passes (Broken x own steps) may = absurd (may.whole tt)

  -- it is an own line, of which this was asked first
  pub record OwnMayBe (Fails : ℕ → List ℕ → Reply → Type 0) (first : Next) (v : V) : Type 0 where
    pub text : List ℕ
    pub more : List (List ℕ)
    pub steps : List StepRecord
    pub may : MayAnswer m Fails τ (world at.scene v) mid first text more steps
    pub next : HasNext report text (flat_map ended more ++ told)

  pub if_own : (Fails : ℕ → List ℕ → Reply → Type 0) → ((old new : World Place V) (own : List ℕ) (steps : List StepRecord) → DidOwn (by_model m) (MayStep τ) old new own steps Say → TellsFailures Fails steps (m.texts new.desk))
      → (own : k.Own) → k.IsOwn own line → (first : Next) (v : V) → m.Begins at.desk line first v → (b : SideStep (List ℕ)) → MayBe m τ at mid line report told b → OwnMayBe Fails first v
  if_own Fails tells own is first v begins (Plain (Skipped x)) may = absurd ((alone own line is).not_skipped (subst (λ (l : List ℕ). IsSkipped l) may.line_is may.is))
  if_own Fails tells own is first v begins (Plain (Did x d)) may =
      absurd (det.apart at.desk v line first begins (subst (λ (l : List ℕ). m.Passes at.desk l) may.line_is may.did.passes))
  if_own Fails tells own is first v begins (Own x y steps texts) may =
      let did = may.did.did in
      let theirs : m.Begins at.desk line did.first did.desk = subst (λ (l : List ℕ). m.Begins at.desk l did.first did.desk) (may.is.0 ∙ may.line_is) did.begins in
      let same = det.begins at.desk did.desk v line did.first first theirs begins in
      let t = tells at mid y steps did in
      let are : texts ≡ t.first ∷ t.more = may.did.answer ∙ t.are in
      record {
        text = t.first;
        more = t.more;
        steps = steps;
        may = record {
          asks = subst (λ (n : Next). Asks (by_model m) (MayStep τ) (world at.scene v) mid n steps Say) same.0
              (subst (λ (w : V). Asks (by_model m) (MayStep τ) (world at.scene w) mid did.first steps Say) same.1 did.asks);
          texts = t.are;
          are = subst (λ (l : List (List ℕ)). AllByRecursion IsText l) are may.texts;
          tells = t.told;
        };
        next = may.report_is ∙ ap (λ (l : List (List ℕ)). Some (flat_map ended l ++ told)) are ∙ ap (λ (l : List ℕ). Some l) (append_assoc (ended t.first) (flat_map ended t.more) told);
      }
  if_own Fails tells own is first v begins (Broken x y steps) may = absurd (may.whole tt)

-- a line of the report was taken for the answer to the event: what may have been done is what was taken
module _ {V : Type 0} (m : Model V) (det : IsDetermined m) where
  pub met_event : {K : Type 0} (view : K → V) (τ : Tariff) (H : Ledger) (e : Event) (line answer left left1 : List ℕ) (new : Audit) (desk desk1 : K) (mid : World Place V) (report0 report1 : Option (List ℕ)) (told : List ℕ) (d f : StepRecord)
      → History τ editions H → d.event ≡ e → DidPlain (by_model m) (MayStep τ) (world (place H left) (view desk)) mid line d → HasNext report0 (text_of d.reply) told → IsOneLine answer → Consumes report0 report1 (ended answer)
      → TakesAt τ H e answer new left left1 f → m.Sees (view desk) (turn_at τ H f) (view desk1) → IsMet view τ new left1 desk1 mid × (report1 ≡ Some told)
  met_event {K} view τ H e line answer left left1 new desk desk1 mid report0 report1 told d f history event did next answer_one read took sees =
      let may = did.did.may in
      let w = known report0 report1 (ended answer) (ended (text_of d.reply) ++ told) read next in
      let split = one_split (text_of d.reply) answer told w.0 (one_text_line d.reply may.whole) answer_one w.2 in
      let events : f.event ≡ d.event = took.event ∙ sym event in
      let text : text_of f.reply ≡ text_of d.reply = took.text ∙ sym split.0 in
      let turn : turn_at τ H f ≡ did.turn = same_turn τ H left f d took.may may events text ∙ sym did.did.turn_is in (
        record {
          history = subst (λ (s : Place). History τ editions s.ledger) (sym did.did.new_is) (moves d.event d.text d.reply history may.unforged may.moves);
          sees = subst (λ (s : Place). Sees new s.ledger) (sym did.did.new_is) (subst (λ (l : Ledger). Sees new l) (ledgers τ H left f d took.may may events text) took.sees);
          left = ap (λ (s : Place). s.left) did.did.new_is ∙ sym (lefts τ H left f d took.may may events text) ∙ sym took.left;
          kept = det.sees (view desk) mid.desk (view desk1) did.turn did.sees (subst (λ (t : Turn). m.Sees (view desk) t (view desk1)) turn sees);
        },
        w.1 ∙ ap (λ (l : List ℕ). Some l) (sym split.1),
      )
