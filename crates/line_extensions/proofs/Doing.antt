-- What became of one line beside an extension.
use Rattle.std.proofs.Common.{◌≡◌, ◌≢◌, ◌⊎◌, inl, inr, ℕ, List, flat_map, Option, Some, None, refl, sym, ◌∙◌, ap, subst}
use Rattle.std.proofs.KnownBytes.{Appends-nil}
use Rattle.bench_base.specs.declared.events.Event.{Event}
use Rattle.bench_base.specs.declared.events.Event.TheVariants as ev
use Rattle.bench_base.specs.Events.{IsWholeEvent}
use Rattle.node_turns.specs.declared.turn.Turn.{Turn}
use Rattle.script_text.specs.Grammar.{Spells, IsSkipped}
use Rattle.script_text.specs.Texts.{IsWholeReply}
use Rattle.line_runs.specs.Lines.{ended}
use Rattle.line_runs.specs.Turns.{Reported, LineEnd}
use Rattle.line_runs.specs.declared.status.Status.TheVariants as status
use Rattle.line_runs.specs.declared.{status.SideStatus.SideStatus, status.SideStatus.TheVariants.Run, status.SideStatus.TheVariants.Stopped}
use Rattle.line_extensions.specs.Trace.{StepRecord, Skipped, Did, line_of}
use Rattle.line_extensions.specs.Desks.{World, world, SideLeaves, side_lines, Asks, Does}
use Rattle.line_extensions.specs.Events.{IsLineOf}
use Rattle.line_extensions.specs.SideTrace.{Plain, Own, Broken}
use Rattle.line_extensions.specs.Wants.{IsEvent}
use Rattle.line_extensions.specs.declared.{extension.Extension.Ghosts, extension.Next.Next, extension.Next.TheVariants.Say, extension.Next.TheVariants.Stop}

module _ {K T : Type 0} (k : Ghosts K T) {B : Type 0} (Steps : B → B → StepRecord → Turn → Type 0) (Wants : B → B → Type 0) (number : ℕ) (line : List ℕ) where
  abbrev pub End : Option SideStatus → World B K → World B K → Option (List ℕ) → Option (List ℕ) → Type 0
  End outcome old new taken0 taken1 = LineEnd (side_lines k) (Does k Steps) (SideLeaves Wants) number line outcome old new taken0 taken1

  pub skipped : (w : World B K) (taken : Option (List ℕ)) → IsSkipped line → End None w w taken taken
  skipped w taken is = LineEnd.did (record { trace_step = Plain (Skipped line); line_is = refl; is = is; did = (w, refl, refl); reported = (tt, Appends-nil taken) })

  -- the extension answered
  pub answered : (outcome : Option SideStatus) (b : B) (desk mid : K) (new : World B K) (taken0 taken1 : Option (List ℕ)) (own : k.Own) (first last : Next) (steps : List StepRecord) → k.IsOwn own line
      → k.Begins desk own first mid → Asks k Steps (world b mid) new first steps last → last ≡ Say → Reported outcome (Unit {0}) ⊥ ⊥ (flat_map ended (k.texts new.desk)) taken0 taken1
      → End outcome (world b desk) new taken0 taken1
  answered outcome b desk mid new taken0 taken1 own first last steps is begins asks say reported = LineEnd.did (record {
    trace_step = Own line own steps (k.texts new.desk);
    line_is = refl;
    is = is;
    did = (new, record { did = record { first = first; desk = mid; begins = begins; asks = subst (λ (n : Next). Asks k Steps (world b mid) new first steps n) say asks }; answer = refl }, refl);
    reported = reported;
  })

  -- a commit of its storage failed
  pub broken : (b : B) (desk mid : K) (new : World B K) (taken : Option (List ℕ)) (own : k.Own) (first last : Next) (steps : List StepRecord) → k.IsOwn own line → k.Begins desk own first mid
      → Asks k Steps (world b mid) new first steps last → last ≡ Stop → End (Some Stopped) (world b desk) new taken taken
  broken b desk mid new taken own first last steps is begins asks stop = LineEnd.did (record {
    trace_step = Broken line own steps;
    line_is = refl;
    is = is;
    did = (new, record { first = first; desk = mid; begins = begins; asks = subst (λ (n : Next). Asks k Steps (world b mid) new first steps n) stop asks }, refl);
    reported = (tt, refl);
  })

  -- the line is not valid
  pub refused : (b : B) (desk now : K) (taken : Option (List ℕ)) → (IsSkipped line → ⊥) → ((own : k.Own) → k.IsOwn own line → IsEvent line) → now ≡ desk
      → ((e : Event) → IsWholeEvent e → Spells e line → ⊥) → End (Some (Run (status.Script number))) (world b desk) (world b now) taken taken
  refused b desk now taken not_skipped events same none = LineEnd.refused (record {
    outcome_is = refl;
    bad = (record { no_event = λ e is. none e is.whole is.spells; not_skipped = not_skipped }, λ own is. let w = events own is in none w.0 w.1.whole w.1.spells);
    world = ap (λ (d : K). world b d) same;
    report = refl;
  })

  wants_memory : (outcome : Option SideStatus) → (outcome ≡ Some (Run status.Memory)) ⊎ (outcome ≢ Some (Run status.Memory))
  wants_memory (Some (Run status.Memory)) = inl refl
  wants_memory _ = inr (λ is. cc)

  -- an event that the extension left to the bench
  pub plain : (outcome : Option SideStatus) (old new : B) (desk mid now : K) (taken0 taken1 : Option (List ℕ)) (e : Event) → IsLineOf e line → k.Passes desk line → mid ≡ desk
      → (outcome ≢ Some (Run status.Memory) → (d : StepRecord) × (turn : Turn) × (d.event ≡ e) × Steps old new d turn × k.Sees mid e turn now × IsWholeReply d.reply × Reported outcome (e ≢ ev.End) (e ≡ ev.End) ⊥ (line_of d.reply) taken0 taken1)
      → (outcome ≡ Some (Run status.Memory) → (e ≡ ev.Rates) × Wants old new × (taken1 ≡ taken0) × (now ≡ mid))
      → End outcome (world old desk) (world new now) taken0 taken1
  plain outcome old new desk mid now taken0 taken1 e is passes same done wanted = elim (wants_memory outcome) [
    | inl memory ↦
        let w = wanted memory in
        LineEnd.wanted (record { outcome_is = memory; wants = inl (subst (λ (x : Event). IsLineOf x line) w.0 is); leaves = (w.3 ∙ same, inr w.1); report = w.2 })
    | inr other ↦
        let w = done other in
        LineEnd.did (record {
          trace_step = Plain (Did line w.0);
          line_is = refl;
          is = (subst (λ (x : Event). IsLineOf x line) (sym w.2) is, w.5);
          did = (world new now, record { passes = passes; turn = w.1; did = w.3; sees = subst (λ (x : Event). k.Sees desk x w.1 now) (sym w.2) (subst (λ (d : K). k.Sees d e w.1 now) same w.4) }, refl);
          reported = subst (λ (x : Event). Reported outcome (x ≢ ev.End) (x ≡ ev.End) ⊥ (line_of w.0.reply) taken0 taken1) (sym w.2) w.6;
        })
  ]
