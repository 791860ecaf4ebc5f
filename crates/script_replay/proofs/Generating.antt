-- Generated runs: how far they came, and that they leave the rates and the printer alone.
use Rattle.std.proofs.Common.{◌≡◌, ◌≢◌, inl, inr, ℕ, ◌+◌, ◌*◌, ◌≤◌, ◌<◌, List, [], ◌∷◌, ◌++◌, length, map, Option, Some, None, refl, sym, ◌∙◌, ap, subst, arith, append_assoc, append-nil}
use Rattle.std.specs.List.{AllByRecursion}
use Rattle.std.specs.Prelude.{slice_get}
use Rattle.std.specs.Io.KnownBytes.{Appends}
use Rattle.std.proofs.lemmas.List.{length-append, length-map}
use Rattle.bench_base.specs.declared.{events.Event.Event, events.Reply.Reply, questions.Brought.Brought, questions.Brought.TheVariants.Nothing, questions.Brought.TheVariants.Handed, questions.Brought.TheVariants.Scanned}
use Rattle.bench_base.specs.declared.events.Event.TheVariants as ev
use Rattle.bench_base.specs.declared.events.Reply.TheVariants as r
use Rattle.bench_base.specs.Ledger.{Ledger}
use Rattle.bench_base.specs.Replies.{MayGet}
use Rattle.node_turns.specs.Printing.{Printer}
use Rattle.bench_base.specs.Events.{brought_by}
use Rattle.ledger_moves.specs.Histories.{IsKnown, AreKnown}
use Rattle.ledger_moves.specs.Tariffs.{Tariff}
use Rattle.bench_abstraction.specs.Routing.{as_given, as_given_by, as_scanned_by}
use Rattle.bench.specs.Benches.{Nodes}
use Rattle.bench.specs.Outside.{Outside, Feed}
use Rattle.generator.specs.Events.{generated}
use Rattle.generator.specs.Given.{AreOnlyDebits, GivesOnlyDebits, NeedsNoStream}
use Rattle.script_text.specs.Summaries.{Tally, tally_of, one_in, column_of}
use Rattle.script_text.specs.declared.column.Column.{Column}
use Rattle.script_text.specs.declared.column.Column.TheVariants as column
use Rattle.script_replay.specs.Chains.{DidEvent, DidEvents, SceneOf}
use Rattle.line_extensions.specs.Trace.{StepRecord}
use Rattle.script_replay.specs.Trace.{ledger_by, AreUnforged}
use Rattle.script_replay.specs.Generated.{events_of, replies_of, summary_line, EndsWith, InTheMidst, Generated}
use Rattle.script_replay.specs.Run.{Unforged}
use Rattle.line_runs.specs.Turns.{AreDone, Ended}
use Rattle.line_runs.specs.declared.{status.Status.Status, status.SideStatus.SideStatus, status.SideStatus.TheVariants.Run}
use Rattle.line_runs.specs.declared.status.Status.TheVariants as status
use Rattle.script_replay.proofs.Faults.{given_as}

-- == one event more ==

one_more : {X Y : Type 0} (f : X → Y) (xs : List X) (x : X) → map f (xs ++ x ∷ []) ≡ map f xs ++ f x ∷ []
one_more f [] x = refl
one_more f (y ∷ xs) x = ap (λ l. f y ∷ l) (one_more f xs x)

all_of : (P : Event → Type 0) (a b : List Event) → AllByRecursion P (a ++ b) → AllByRecursion P a
all_of P [] b each = tt
all_of P (e ∷ a) b each = (each.0, all_of P a b each.1)

next_of : (P : Event → Type 0) (a : List Event) (e : Event) (b : List Event) → AllByRecursion P (a ++ e ∷ b) → P e
next_of P [] e b each = each.0
next_of P (x ∷ a) e b each = next_of P a e b each.1

-- == nothing is forged ==

known : (H : Ledger) (x : Brought) → AreOnlyDebits x → AreKnown x H
known H Nothing debit = tt
known H (Handed n bytes) debit = subst (λ x. IsKnown bytes x n H) (sym debit.1) (λ to. tt)
known H (Scanned bytes) debit = absurd debit

pub none_forged : (τ : Tariff) (H : Ledger) (done : List StepRecord) → AllByRecursion GivesOnlyDebits (events_of done) → AreUnforged τ Unforged H done
none_forged τ H [] each = tt
none_forged τ H (d ∷ rest) each = (known H (brought_by d.event) each.0, none_forged τ (ledger_by τ H d) rest each.1)

-- == so far ==

module _ {B : Type 0} (Does : B → B → List StepRecord → Type 0) (Leaves : SideStatus → B → B → Type 0) (chain : AreDone Does Leaves) (seed count : ℕ) where
  -- the next event is one of them
  pub next_is : (P : Event → Type 0) → AllByRecursion P (generated seed count) → (to_come : List Event) (tally : Tally) (old new : B) → InTheMidst Does seed count to_come tally old new
      → (e : Event) (rest : List Event) → to_come ≡ e ∷ rest → P e
  next_is P each to_come tally old new midst e rest is =
      next_of P (events_of midst.done) e rest (subst (AllByRecursion P) (sym midst.all ∙ ap (λ (l : List Event). events_of midst.done ++ l) is) each)

  pub midst_more : (to_come rest : List Event) (tally now : Tally) (old mid new : B) (e : Event) (d : StepRecord) → InTheMidst Does seed count to_come tally old mid → to_come ≡ e ∷ rest → d.event ≡ e
      → Does mid new (d ∷ []) → ((replies : List Reply) → tally ≡ tally_of replies → now ≡ tally_of (replies ++ d.reply ∷ [])) → InTheMidst Does seed count rest now old new
  midst_more to_come rest tally now old mid new e d midst is same did counted =
      let events : events_of (midst.done ++ d ∷ []) ≡ events_of midst.done ++ d.event ∷ [] = one_more (λ (x : StepRecord). x.event) midst.done d in
      record {
        done = midst.done ++ d ∷ [];
        all = ap (λ (l : List Event). l ++ rest) events ∙ append_assoc (events_of midst.done) (d.event ∷ []) rest ∙ ap (λ (x : Event). events_of midst.done ++ x ∷ rest) same
            ∙ ap (λ (l : List Event). events_of midst.done ++ l) (sym is) ∙ midst.all;
        did = chain.both old mid new midst.done (d ∷ []) midst.did did;
        tally_is = counted (replies_of midst.done) midst.tally_is ∙ ap tally_of (sym (one_more (λ (x : StepRecord). x.reply) midst.done d));
      }

  not_for_memory : (outcome : Status) (text line : List ℕ) → EndsWith outcome text line → Run outcome ≢ Run status.Memory
  not_for_memory outcome text line ends is = let same : outcome ≡ status.Memory = cc in subst (λ (s : Status). EndsWith s text line) same ends

  -- all events were done, and the summary of the replies was written
  pub all_generated : (outcome : Status) (tally : Tally) (old new : B) (taken0 taken1 : Option (List ℕ)) (midst : InTheMidst Does seed count [] tally old new)
      → AllByRecursion GivesOnlyDebits (generated seed count)
      → ((replies : List Reply) → tally ≡ tally_of replies → (text : List ℕ) × EndsWith outcome text (summary_line seed count replies) × Appends taken0 taken1 text)
      → Generated outcome seed count (Ended Does Leaves (Run outcome) old new) taken0 taken1
  all_generated outcome tally old new taken0 taken1 midst debits written =
      let w = written (replies_of midst.done) midst.tally_is in
      let all : events_of midst.done ≡ generated seed count = sym (append-nil (events_of midst.done)) ∙ midst.all in
      record {
        done = midst.done;
        all = all;
        unforged = λ τ H. none_forged τ H midst.done (subst (AllByRecursion GivesOnlyDebits) (sym all) debits);
        text = w.0;
        ends = w.1;
        appended = w.2;
        did = record { behind = new; did = midst.did; leaves = chain.rests (Run outcome) new (not_for_memory outcome w.0 (summary_line seed count (replies_of midst.done)) w.1) };
      }

-- == how many there were ==

-- fewer than all, while there are some to come
pub few_done : {B : Type 0} (Does : B → B → List StepRecord → Type 0) (seed count : ℕ) (to_come rest : List Event) (tally : Tally) (old new : B) (midst : InTheMidst Does seed count to_come tally old new)
    (e : Event) → to_come ≡ e ∷ rest → length (generated seed count) ≤ 28 + count * 5 → length midst.done < 28 + count * 5
few_done Does seed count to_come rest tally old new midst e is few =
    let all = ap (λ (l : List Event). length l) (sym midst.all) ∙ length-append (events_of midst.done) to_come in
    let some = ap (λ (l : List Event). length l) is in
    let same = length-map midst.done (λ (x : StepRecord). x.event) in
    omega (arith, all, some, same, few)

one_event : (c : Column) → (one_in c).events ≡ 1
one_event column.Refused = refl
one_event column.Power = refl
one_event column.Fault = refl
one_event column.Released = refl
one_event column.Accepted = refl
one_event column.Uncounted = refl

-- the tally shows how many replies there were
pub tally_events : (replies : List Reply) → (tally_of replies).events ≡ length replies
tally_events [] = refl
tally_events (reply ∷ rest) = let more = tally_events rest in let one = one_event (column_of reply) in omega (arith, more, one)

pub replies_length : (done : List StepRecord) → length (replies_of done) ≡ length done
replies_length done = length-map done (λ (x : StepRecord). x.reply)

-- == the streams rest ==

given_print : (k : ℕ) (o : Option (List ℕ)) (j : ℕ) → as_given_by k o ≡ ev.Print j → ⊥
given_print k None j is = cc
given_print k (Some bytes) j is = cc

scanned_print : (scan k : ℕ) (o : Option (List ℕ)) (j : ℕ) → as_scanned_by scan k o ≡ ev.Print j → ⊥
scanned_print scan k None j is = cc
scanned_print scan k (Some bytes) j is = cc

only_print : (pool : List (List ℕ)) (e : Event) (j : ℕ) → as_given pool e ≡ ev.Print j → e ≡ ev.Print j
only_print pool e j is = elim (given_as pool e) [
  | inl w ↦ absurd (given_print w.0 (slice_get pool w.0) j (ap (as_given pool) (sym w.1) ∙ is))
  | inr more ↦ elim more [
    | inl w ↦ absurd (scanned_print w.0 w.1 (slice_get pool w.1) j (ap (as_given pool) (sym w.2) ∙ is))
    | inr same ↦ sym same.1 ∙ is
  ]
]

abbrev both_streams : Feed → Printer → Outside
both_streams rates printer = record { rates = rates; printer = printer }

outside_same : (a b : Outside) → b.rates ≡ a.rates → b.printer ≡ a.printer → b ≡ a
outside_same a b rates printer = ap (λ (x : Feed). both_streams x b.printer) rates ∙ ap (λ (x : Printer). both_streams a.rates x) printer

module _ (n : Nodes) where
  printer_rests : (old new : SceneOf n) (d : StepRecord) → DidEvent n old new d → NeedsNoStream d.event → new.outside.printer ≡ old.outside.printer
  printer_rests old new d did alone =
      let gets = λ (x : Reply) (is : did.turn.reply ≡ x). subst (λ (y : Reply). MayGet (as_given old.bench.messages d.event) y) is did.steps.always.reply in
      did.steps.always.printer.1.rests (λ j is. alone.printer j (only_print old.bench.messages d.event j (gets (r.Printed j) is)))
      (λ j is. alone.printer j (only_print old.bench.messages d.event j (gets (r.PrinterFault j) is)))

  pub streams_rest : (old new : SceneOf n) (done : List StepRecord) → DidEvents n old new done → AllByRecursion NeedsNoStream (events_of done) → new.outside ≡ old.outside
  streams_rest old new [] did each = ap (λ (x : SceneOf n). x.outside) did
  streams_rest old new (d ∷ rest) did each =
      let mid = did.0 in
      let rates : mid.outside.rates ≡ old.outside.rates = (did.1.steps.always.rates.others each.0.rates).rests in
      let printer : mid.outside.printer ≡ old.outside.printer = printer_rests old mid d did.1 each.0 in
      streams_rest mid new rest did.2 each.1 ∙ outside_same old.outside mid.outside rates printer

  -- of a run with nothing to come
  pub all_rest : (seed count : ℕ) (to_come : List Event) (tally : Tally) (old new : SceneOf n) → InTheMidst (DidEvents n) seed count to_come tally old new → to_come ≡ []
      → AllByRecursion NeedsNoStream (generated seed count) → new.outside ≡ old.outside
  all_rest seed count to_come tally old new midst is each = streams_rest old new midst.done midst.did (all_of NeedsNoStream (events_of midst.done) to_come (subst (AllByRecursion NeedsNoStream) (sym midst.all) each))
