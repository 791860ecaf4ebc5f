-- A step that an extension asked for, taken with the reply that it hears of.
use Rattle.std.proofs.Common.{◌≡◌, ℕ, List, [], ◌∷◌, ◌++◌, drop, Ok, refl, sym, ◌∙◌, ap, subst}
use Rattle.bench_base.specs.declared.events.Event.{Event}
use Rattle.bench_base.specs.Ledger.{Ledger, day_in}
use Rattle.bench_base.specs.Replies.{class_of}
use Rattle.bench_base.specs.Rules.{editions}
use Rattle.bench_abstraction.specs.Tariff.{IsOfTexts}
use Rattle.ledger_moves.specs.Tariffs.{Tariff}
use Rattle.ledger_moves.specs.Histories.{History, Unforged, moves}
use Rattle.script_text.specs.Texts.{text_of}
use Rattle.line_extensions.specs.Trace.{StepRecord, done}
use Rattle.line_extensions.specs.Desks.{World, world, Asks, Asked}
use Rattle.line_extensions.specs.declared.{extension.Extension.Ghosts, extension.Next.Next, extension.Next.TheVariants.Step}
use Rattle.script_replay.specs.Trace.{ledger_by}
use Rattle.node_turns.specs.declared.turn.Turn.{Turn}
use Rattle.trace_bench.specs.declared.judging.Judged.{Judged}
use Rattle.trace_bench.specs.Judging.{IsJudged, taken_by}
use Rattle.trace_bench.specs.Seeing.{Audit, Sees}
use Rattle.trace_extensions.specs.Places.{Place, place, turn_at, MayStep}
use Rattle.trace_extensions.specs.Takes.{AtEachSeen, TakesAt}
use Rattle.trace_extensions.specs.Worlds.{AskedOne, AskedSo, OneAsked}

-- what is judged of a line is taken
pub judged_line : {T : Type 0} (IsOf : T → Turn → Type 0) (τ : Tariff) (H : Ledger) (e : Event) (line left left1 : List ℕ) (now : Audit) (judged : Judged T) → Unforged e H
    → IsJudged IsOf τ H e left line now (Ok judged) → left1 ≡ drop judged.taken left
    → (d : StepRecord) × TakesAt τ H e line now left left1 d × IsOf judged.told (turn_at τ H d)
judged_line IsOf τ H e line left left1 now judged free (reply, told, count, is) rest = (
  done e (taken_by e (day_in H) (class_of reply) left) reply [],
  record {
    event = refl;
    text = told.text;
    may = record { unforged = free; moves = told.moves; whole = told.whole; takes = refl };
    sees = told.sees;
    left = rest ∙ ap (λ (n : ℕ). drop n left) count;
  },
  is,
)

-- == steps one after the other ==

module _ {K T : Type 0} (k : Ghosts K T) (τ : Tariff) where
  asks_more : (x y z : World Place K) (first next last : Next) (steps : List StepRecord) (d : StepRecord) → Asks k (MayStep τ) x y first steps next → Asked k (MayStep τ) y z next d last
      → Asks k (MayStep τ) x z first (steps ++ d ∷ []) last
  asks_more x y z first next last [] d p q =
      let from : Asked k (MayStep τ) x z first d last = subst (λ (w : World Place K). Asked k (MayStep τ) w z first d last) p.1 (subst (λ (m : Next). Asked k (MayStep τ) y z m d last) p.0 q) in
      (z, last, from, (refl, refl))
  asks_more x y z first next last (e ∷ steps) d p q = (p.0, p.1, p.2, asks_more p.0 y z p.1 next last steps d p.3 q)

module _ {K T : Type 0} (k : Ghosts K T) where
  -- one step, of which the extension heard
  pub asked_with : (τ : Tariff) (H : Ledger) (e : Event) (line left left1 : List ℕ) (new : Audit) (desk desk1 : K) (next : Next) → History τ editions H
      → (d : StepRecord) → TakesAt τ H e line new left left1 d → k.Goes desk (turn_at τ H d) next desk1
      → (one : AskedOne k τ e (world (place H left) desk) new left1 desk1 next) × (text_of one.d.reply ≡ line)
  asked_with τ H e line left left1 new desk desk1 next history d t goes = (
    record {
      d = d;
      turn = turn_at τ H d;
      new = world (place (ledger_by τ H d) left1) desk1;
      event = t.event;
      did = record { may = t.may; turn_is = refl; new_is = ap (λ (l : List ℕ). place (ledger_by τ H d) l) t.left };
      goes = goes;
      seen = record { history = moves d.event d.text d.reply history t.may.unforged t.may.moves; sees = t.sees; left = refl; desk = refl };
    },
    t.text,
  )

  -- nothing was asked for yet
  pub asked_none : (τ : Tariff) (H : Ledger) (left : List ℕ) (a : Audit) (desk : K) (first : Next) → History τ editions H → Sees a H
      → AskedSo k τ (world (place H left) desk) a left desk first first
  asked_none τ H left a desk first history sees = record {
    steps = [];
    new = world (place H left) desk;
    asks = (refl, refl);
    seen = record { history = history; sees = sees; left = refl; desk = refl };
  }

  -- one step more
  pub asked_more : (τ : Tariff) (texts : IsOfTexts τ) (old : World Place K) (mid : Audit) (left : List ℕ) (desk : K) (a : Audit) (rates : List ℕ) (desk1 : K) (first : Next) (e : Event) (next last : Next)
      → next ≡ Step e → AskedSo k τ old mid left desk first next
      → AtEachSeen mid (λ τ H. AskedOne k τ e (world (place H left) desk) a rates desk1 last) → AskedSo k τ old a rates desk1 first last
  asked_more τ texts old mid left desk a rates desk1 first e next last is so more =
      let here = so.seen in
      let next_step = more τ so.new.scene.ledger texts here.history here.sees in
      let there : world (place so.new.scene.ledger left) desk ≡ so.new =
      ap (λ (l : List ℕ). world (place so.new.scene.ledger l) desk) (sym here.left) ∙ ap (λ (x : K). world (place so.new.scene.ledger so.new.scene.left) x) (sym here.desk) in
      let one = subst (λ (at : World Place K). AskedOne k τ e at a rates desk1 last) there next_step in
      record {
        steps = so.steps ++ one.d ∷ [];
        new = one.new;
        asks = asks_more k τ old so.new one.new first next last so.steps one.d so.asks
            (record { asks = is ∙ ap Step (sym one.event); turn = one.turn; did = one.did; goes = one.goes });
        seen = one.seen;
      }

  -- one step more was asked for, and nothing was answered: Q of the event, at the place of each history
  pub asked_after : (Q : Tariff → Place → Event → Type 0) (τ : Tariff) (texts : IsOfTexts τ) (old : World Place K) (mid : Audit) (left : List ℕ) (desk : K) (first next : Next) (e : Event) (told : List ℕ) → next ≡ Step e
      → told ≡ [] → AskedSo k τ old mid left desk first next → AtEachSeen mid (λ τ H. Q τ (place H left) e) → OneAsked k (λ at event. Q τ at event) τ old first told desk
  asked_after Q τ texts old mid left desk first next e told is none so begun = record {
    steps = so.steps;
    new = so.new;
    event = e;
    asks = subst (λ (n : Next). Asks k (MayStep τ) old so.new first so.steps n) is so.asks;
    silent = none;
    history = so.seen.history;
    begun = subst (λ (l : List ℕ). Q τ (place so.new.scene.ledger l) e) (sym so.seen.left) (begun τ so.new.scene.ledger texts so.seen.history so.seen.sees);
    left = sym so.seen.desk;
  }
