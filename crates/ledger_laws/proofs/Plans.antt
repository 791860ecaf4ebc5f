-- What a plan adds keeps the invariant, whatever reply the event gets. A plan is right if its commit fits and its node is on,
-- if what it records afterwards keeps the invariant, and if its answer is one that honest devices and centres give.
use Rattle.std.proofs.Common.{◌≡◌, ◌+◌, ℕ, ℤ, Bool, true, List, [], ◌∷◌, ◌++◌, Option, Some, None, Result, Ok, Err, refl, sym, ap, subst, ◌∙◌, ◌⊎◌, ⊎_elim}
use Rattle.std.proofs.lemmas.Option.{same_Some, none-some}
use Rattle.bench_base.specs.declared.{words.Node.Node, ledger.Commit.Commit, events.Event.Event, events.Reply.Reply}
use Rattle.bench_base.specs.declared.events.Reply.TheVariants as r
use Rattle.bench_base.specs.Rules.{Rules}
use Rattle.bench_base.specs.Nodes.{node_of}
use Rattle.bench_base.specs.Plans.{Plan, refuse, made}
use Rattle.bench_base.specs.Ranges.{InRange}
use Rattle.bench_base.specs.Cells.{is_worn}
use Rattle.bench_base.specs.Ledger.{Ledger, counted, is_on, day_in}
use Rattle.ledger_terms.specs.Sane.{IsSane}
use Rattle.bench_base.specs.Replies.{ReplyClass, LostPower, Faulted, PrinterFailed, class_of}
use Rattle.bench_base.proofs.Facts.{some_none}
use Rattle.node_acts.specs.Plans.{with_commit, with_torn, after, after_told, MayFail, Fails, FailsTold}
use Rattle.ledger_moves.specs.Moves.{OtherUp, FailsToRead, unless_worn, at_node}
use Rattle.bench_base.specs.Rows.{first_holding}
use Rattle.bench_base.proofs.Rows.{chosen, AllFalse, AllRows, first}
use Rattle.ledger_laws.proofs.Good.{Fits}
use Rattle.ledger_laws.proofs.Grown.{Inv, Sure, inv_commit, inv_torn, inv_up}

-- the commit may be made
pub record IsFit (ρ : Rules) (H : Ledger) (c : Commit) : Type 0 where
  pub fits : Fits ρ c (counted H)
  pub on : is_on (node_of c) H ≡ true
  pub range : InRange c
  pub sure : Sure c H

pub record PlanOk (ρ : Rules) (H : Ledger) (p : Plan) : Type 0 where
  pub sane : IsSane p.reply
  pub plain : after p p.reply H ≡ p.after ++ with_commit p.commit H
  pub no_up : (n : Node) (k : ℕ) → p.reply ≡ r.Up n k → p.commit ≡ None
  pub fit : (c : Commit) → p.commit ≡ Some c → IsFit ρ H c
  pub keeps : Inv ρ (with_commit p.commit H) → Inv ρ (p.after ++ with_commit p.commit H)

pub ok_refuse : (ρ : Rules) (H : Ledger) (x : Reply) → after (refuse x) x H ≡ H → IsSane x → PlanOk ρ H (refuse x)
ok_refuse ρ H x e s = record { sane = s; plain = e; no_up = λ n k h. refl; fit = λ c h. absurd (none-some _ h); keeps = λ i. i }

-- == tables whose rows refuse ==

-- it refuses, and this holds of the refusal
abbrev pub RefusesBy : {A F : Type 0} → (F → Type 0) → Result A F → Type 0
RefusesBy Sane (Err x) = Sane x
RefusesBy Sane (Ok a) = ⊥

all_refuse : {A F : Type 0} (P : Result A F → Type 0) (Sane : F → Type 0) (rows : List (Bool × Result A F)) → ((x : F) → Sane x → P (Err x)) → AllRows (RefusesBy Sane) rows → AllRows P rows
all_refuse P Sane [] right each = tt
all_refuse P Sane ((b, Err x) ∷ rows) right each = (right x each.0, all_refuse P Sane rows right each.1)
all_refuse P Sane ((b, Ok a) ∷ rows) right each = absurd each.0

-- what holds of each such refusal, and of the last value where no row holds, holds of what a table of refusals gives
pub first_refusal : {A F : Type 0} (P : Result A F → Type 0) (Sane : F → Type 0) (rows : List (Bool × Result A F)) (a : Result A F) → AllRows (RefusesBy Sane) rows → ((x : F) → Sane x → P (Err x)) → (AllFalse rows → P a) → P (first_holding rows a)
first_refusal P Sane rows a each right last = first P rows a (all_refuse P Sane rows right each) last

-- == plans that commit, and nodes that are on ==

-- a plan that commits and says no more than that
pub ok_made : (ρ : Rules) (H : Ledger) (x : Reply) (c : Commit) → after (made x c []) x H ≡ with_commit (Some c) H → IsSane x → ((n : Node) (k : ℕ) → x ≡ r.Up n k → ⊥) → IsFit ρ H c → PlanOk ρ H (made x c [])
ok_made ρ H x c e s no_up f = record { sane = s; plain = e; no_up = λ n k h. absurd (no_up n k h); fit = λ o h. subst (IsFit ρ H) (same_Some _ _ h) f; keeps = λ i. i }

-- a worn cell refuses what a right plan would commit
pub ok_worn : (ρ : Rules) (H : Ledger) (p : Plan) → PlanOk ρ H p → PlanOk ρ H (unless_worn (counted H) p p.commit)
ok_worn ρ H p ok = go p.commit
  where
    go : (w : Option Commit) → PlanOk ρ H (unless_worn (counted H) p w)
    go None = ok
    go (Some c) = chosen (PlanOk ρ H) (is_worn c (counted H)) (refuse (r.Worn (node_of c))) p (λ _. ok_refuse ρ H (r.Worn (node_of c)) refl tt) (λ _. ok)

pub ok_at : (ρ : Rules) (H : Ledger) (n : Node) (p : Plan) → (is_on n H ≡ true → PlanOk ρ H p) → PlanOk ρ H (at_node n H p)
ok_at ρ H n p f = chosen (PlanOk ρ H) (is_on n H) (unless_worn (counted H) p p.commit) (refuse (r.OffNode n)) (λ on. ok_worn ρ H p (f on)) (λ _. ok_refuse ρ H (r.OffNode n) refl tt)

module _ (ρ : Rules) (H : Ledger) (i : Inv ρ H) where
  committed : (w : Option Commit) → ((c : Commit) → w ≡ Some c → IsFit ρ H c) → Inv ρ (with_commit w H)
  committed None f = i
  committed (Some c) f = let h = f c refl in inv_commit ρ H c h.fits h.on h.range h.sure i

  torn : (w : Option Commit) (n : Node) → ((c : Commit) → w ≡ Some c → IsFit ρ H c) → ((c : Commit) → w ≡ Some c → node_of c ≡ n) → Inv ρ (with_torn w n H)
  torn None n f own = i
  torn (Some c) n f own = let h = f c refl in subst (λ (k : Node). Inv ρ (with_torn (Some c) k H)) (own c refl) (inv_torn ρ H c h.fits h.range h.sure i)

  failed : (p : Plan) → PlanOk ρ H p → (n : Node) → MayFail p n → Inv ρ (with_torn p.commit n H)
  failed p ok n may = torn p.commit n ok.fit (λ c e. ⊎_elim
      (λ (h : (k : ℕ) × (p.reply ≡ r.Up n k)). let none = ok.no_up n h.0 h.1 in absurd (some_none (sym e ∙ none)))
      (λ (h : (x : Commit) × (p.commit ≡ Some x) × (node_of x ≡ n)). ap node_of (same_Some _ _ (sym e ∙ h.1)) ∙ h.2)
      may)

  other_up : (p : Plan) (was x : Reply) → OtherUp was x H → Inv ρ (after p x H)
  other_up p was x h = subst (λ (y : Reply). Inv ρ (after p y H)) (sym h.more) (inv_up ρ H h.node (h.count + 1) i)

  fails_told : (p : Plan) → PlanOk ρ H p → (x : ReplyClass) → FailsTold p x → Inv ρ (after_told p x H)
  fails_told p ok (LostPower n) h = failed p ok n h
  fails_told p ok (Faulted n) h = failed p ok n h
  fails_told p ok (PrinterFailed j) h = committed p.commit ok.fit
  fails_told p ok _ h = absurd h

  fails : (p : Plan) → PlanOk ρ H p → (x : Reply) → Fails p x → Inv ρ (after p x H)
  fails p ok x h = fails_told p ok (class_of x) h

  unread : (p : Plan) (x : Event) (y : Reply) (day : Option ℤ) → FailsToRead x y day → Inv ρ (after p y H)
  unread p x y day h = subst (λ (z : Reply). Inv ρ (after p z H)) (sym h.reply_is) i

  pub moved : (p : Plan) → PlanOk ρ H p → (x : Event) (y : Reply) → ((y ≡ p.reply) ⊎ (OtherUp p.reply y H ⊎ (Fails p y ⊎ FailsToRead x y (day_in H)))) → Inv ρ (after p y H)
  moved p ok x y m = ⊎_elim
      (λ (h : y ≡ p.reply). subst (λ z. Inv ρ (after p z H)) (sym h) (subst (Inv ρ) (sym ok.plain) (ok.keeps (committed p.commit ok.fit))))
      (λ (h : OtherUp p.reply y H ⊎ (Fails p y ⊎ FailsToRead x y (day_in H))). ⊎_elim
      (other_up p p.reply y)
      (λ (k : Fails p y ⊎ FailsToRead x y (day_in H)). ⊎_elim (fails p ok y) (unread p x y (day_in H)) k)
      h)
      m
