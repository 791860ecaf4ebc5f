-- Where it is known what was done: no node failed in the steps that the answer begins to tell of; and if nothing was written, nothing was changed.
use Rattle.std.proofs.Common.{◌≡◌, ◌⊎◌, inl, inr, ℕ, ◌+◌, List, [], ◌∷◌, ◌++◌, Option, Some, None, IfSome, IfNone, refl, sym, ap, ◌∙◌, subst, append-nil}
use Rattle.bench_base.specs.declared.{words.Node.Node, events.Event.Event, events.Reply.Reply}
use Rattle.bench_base.specs.declared.events.Reply.TheVariants as r
use Rattle.line_extensions.specs.Trace.{StepRecord}
use Rattle.line_extensions.specs.Desks.{World, world, DidOwn}
use Rattle.line_extensions.specs.declared.{extension.Next.Next, extension.Next.TheVariants.Step, extension.Next.TheVariants.Say, extension.Next.TheVariants.Stop}
use Rattle.line_extensions.proofs.Wanting.{ends_at}
use Rattle.ledger_moves.specs.Tariffs.{Tariff}
use Rattle.script_text.specs.Texts.{text_of}
use Rattle.trace_bench.specs.Prefixes.{BeginsFailure, IsFailure}
use Rattle.trace_bench.specs.Stopping.{IsPrefixOf}
use Rattle.trace_extensions.specs.Models.{Model, by_model, AreToldOf, IsIdle, TellsFailures}
use Rattle.trace_extensions.specs.Places.{Place, MayStep}

-- == by a front of the first text ==

module _ (Fails : ℕ → List ℕ → Reply → Type 0) (text prefix : List ℕ) (never : (n : ℕ) (x : Reply) → Fails n text x → ⊥) (none : (n : ℕ) (x : Reply) → Fails n prefix x → ⊥) where
  -- a text that tells of no failure, and a front of it that tells of none
  pub settle : (n : ℕ) (steps : List StepRecord) → AreToldOf Fails n text steps → AreToldOf Fails n prefix steps
  settle n [] told = tt
  settle n (d ∷ steps) (one, more) = (
    record {
      sure = one.sure;
      told = elim one.told [
        | inl fails ↦ absurd (never n d.reply fails)
        | inr fine ↦ inr (λ x fails. none n x fails, fine.1)
      ];
    },
    settle (n + 1) steps more,
  )

-- == of a node ==

-- the text of a failure
abbrev pub TellsOf : Node → List ℕ → Reply → Type 0
TellsOf m line x = (line ≡ text_of x) × IsFailure x m

pub begins_failing : (m : Node) (text prefix : List ℕ) (x : Reply) → IsPrefixOf prefix text → TellsOf m text x → BeginsFailure prefix m
begins_failing m text prefix x p (is, inl power) = inl (p.0, sym (ap (λ (y : Reply). text_of y) power) ∙ sym is ∙ p.1)
begins_failing m text prefix x p (is, inr fault) = inr (p.0, sym (ap (λ (y : Reply). text_of y) fault) ∙ sym is ∙ p.1)

pub is_failing : (m : Node) (prefix : List ℕ) (x : Reply) → TellsOf m prefix x → BeginsFailure prefix m
is_failing m prefix x told = begins_failing m prefix prefix x ([], sym (append-nil prefix)) told

-- == two fronts of one text ==

pub fronts : (a b x y : List ℕ) → a ++ x ≡ b ++ y → IsPrefixOf a b ⊎ IsPrefixOf b a
fronts [] b x y is = inl (b, refl)
fronts (c ∷ a) [] x y is = inr (c ∷ a, refl)
fronts (c ∷ a) (d ∷ b) x y is =
    let head : c ≡ d = cc is in
    elim (fronts a b x y (cc is)) [
      | inl p ↦ inl (p.0, ap (λ (n : ℕ). n ∷ b) (sym head) ∙ ap (λ (l : List ℕ). c ∷ l) p.1)
      | inr p ↦ inr (p.0, ap (λ (n : ℕ). n ∷ a) head ∙ ap (λ (l : List ℕ). d ∷ l) p.1)
    ]

-- == where nothing is asked for ==

pub still_by : (x y : Next) → x ≡ y → (y ≡ Say) ⊎ (y ≡ Stop) → (x ≡ Say) ⊎ (x ≡ Stop)
still_by x y is (inl say) = inl (is ∙ say)
still_by x y is (inr stop) = inr (is ∙ stop)

module _ {V : Type 0} (m : Model V) (τ : Tariff) (old new : World Place V) (line : List ℕ) (steps : List StepRecord) (first : Next) where
  -- an own line that asks for no step
  pub no_steps : (next : Next) → (did : DidOwn (by_model m) (MayStep τ) old new line steps next) → did.first ≡ first → (first ≡ Say) ⊎ (first ≡ Stop) → (steps ≡ []) × (next ≡ first) × (new ≡ world old.scene did.desk)
  no_steps next did is (inl say) = let w = ends_at (by_model m) (MayStep τ) (world old.scene did.desk) new did.first steps next did.asks (inl (is ∙ say)) in (w.0, w.1 ∙ is, w.2)
  no_steps next did is (inr stop) = let w = ends_at (by_model m) (MayStep τ) (world old.scene did.desk) new did.first steps next did.asks (inr (is ∙ stop)) in (w.0, w.1 ∙ is, w.2)

  -- it changes nothing, if what it keeps is alike
  pub idle_say : (next : Next) → (did : DidOwn (by_model m) (MayStep τ) old new line steps next) → did.first ≡ first → (first ≡ Say) ⊎ (first ≡ Stop) → m.Alike did.desk old.desk → IsIdle m old new next
  idle_say next did is ends like =
      let w = no_steps next did is ends in
      record {
        ledger = ap (λ (x : World Place V). x.scene.ledger) w.2;
        alike = subst (λ (x : World Place V). m.Alike x.desk old.desk) (sym w.2) like;
        asks = λ e asked. absurd (no_event first e ends (sym w.1 ∙ asked));
      }
    where
      no_event : (n : Next) (e : Event) → (n ≡ Say) ⊎ (n ≡ Stop) → n ≡ Step e → ⊥
      no_event n e (inl say) step = cc (say, step)
      no_event n e (inr stop) step = cc (stop, step)

  pub told_none : (Fails : ℕ → List ℕ → Reply → Type 0) (prefix : List ℕ) (next : Next) → (did : DidOwn (by_model m) (MayStep τ) old new line steps next) → did.first ≡ first → (first ≡ Say) ⊎ (first ≡ Stop) → AreToldOf Fails 1 prefix steps
  told_none Fails prefix next did is ends = subst (λ (l : List StepRecord). AreToldOf Fails 1 prefix l) (sym (no_steps next did is ends).0) tt

-- no bytes begin each failure
pub none_begins : (m : Node) (prefix : List ℕ) → prefix ≡ [] → BeginsFailure prefix m
none_begins m prefix none = inl (text_of (r.Power m), ap (λ (l : List ℕ). l ++ text_of (r.Power m)) (sym none))

-- the same of an answer whose first text tells of failures
pub settled_by : (Fails : ℕ → List ℕ → Reply → Type 0) (texts : List (List ℕ)) (text prefix : List ℕ) (more : List (List ℕ)) (steps : List StepRecord) → texts ≡ text ∷ more → ((n : ℕ) (x : Reply) → Fails n text x → ⊥)
    → ((n : ℕ) (x : Reply) → Fails n prefix x → ⊥) → TellsFailures Fails steps texts → AreToldOf Fails 1 prefix steps
settled_by Fails texts text prefix more steps are never none tells =
    let first : tells.first ≡ text = cc (tells.are, are) in
    settle Fails text prefix never none 1 steps (subst (λ (l : List ℕ). AreToldOf Fails 1 l steps) first tells.told)

-- == results ==

pub if_some : {X : Type 0} (o : Option X) (P Q : X → Type 0) → ((x : X) → P x → Q x) → IfSome o P → IfSome o Q
if_some None P Q f p = tt
if_some (Some x) P Q f p = f x p

pub if_none : {X : Type 0} (o : Option X) (P Q : Type 0) → (P → Q) → IfNone o P → IfNone o Q
if_none None P Q f p = f p
if_none (Some x) P Q f p = tt

-- == failures with which an answer begins ==

module _ (m : Node) (prefix : List ℕ) (o : Option Reply) where
  -- of an answer that is the text of the failure
  pub text_found : IfSome o (λ reply. IsPrefixOf prefix (text_of reply) × IsFailure reply m) → IfSome o (λ reply. (line : List ℕ) × TellsOf m line reply × IsPrefixOf prefix line)
  text_found found = if_some o _ _ (λ reply w. (text_of reply, (refl, w.1), w.0)) found

  pub text_none : IfNone o ((reply : Reply) → IsPrefixOf prefix (text_of reply) → IsFailure reply m → ⊥) → IfNone o ((line : List ℕ) (reply : Reply) → TellsOf m line reply → IsPrefixOf prefix line → ⊥)
  text_none none = if_none o _ _ (λ never line reply tells p. never reply (subst (λ (l : List ℕ). IsPrefixOf prefix l) tells.0 p) tells.1) none
