-- A run by a model is one of an extension that moves as the model does, and whose own lines say more than their bytes; and what its steps leave.
use Rattle.std.proofs.Common.{◌≡◌, inl, inr, suc, ℕ, ◌+◌, ◌≤◌, List, [], ◌∷◌, ◌++◌, length, Option, false, refl, sym, ◌∙◌, ap, ap₂, subst}
use Rattle.std.specs.Io.KnownBytes.{Consumes, Appends, IsAtEnd}
use Rattle.std.specs.List.{AllByRecursion}
use Rattle.bench_base.specs.declared.events.Event.{Event}
use Rattle.bench_base.specs.Ledger.{Ledger}
use Rattle.bench_base.specs.Rules.{editions}
use Rattle.ledger_moves.specs.Histories.{History, moves}
use Rattle.ledger_moves.specs.Tariffs.{Tariff}
use Rattle.line_runs.specs.Lines.{IsOneLine, IsLineIn, ended}
use Rattle.line_runs.specs.Runs.{EndsIn, IsBadPlace, Replayed}
use Rattle.line_runs.specs.Trace.{Reads, script_of, report_of}
use Rattle.line_runs.specs.declared.status.Status.{Status}
use Rattle.line_runs.specs.declared.status.Status.TheVariants as status
use Rattle.line_runs.specs.declared.{status.SideStatus.TheVariants.Run}
use Rattle.line_extensions.specs.Trace.{StepRecord, Skipped, Did}
use Rattle.line_extensions.specs.DeskLaws.{side_done}
use Rattle.line_extensions.specs.Desks.{World, world, side_lines, Asks, DidOwn, DoesOne, Does}
use Rattle.line_extensions.specs.SideTrace.{SideStep, Plain, Own, Broken, side_line, side_text, SideIsOf, SideIsEnd, SideGoesOn, steps_in, steps_of}
use Rattle.line_extensions.specs.declared.{extension.Extension.Ghosts, extension.Next.Next, extension.Next.TheVariants.Say, extension.Next.TheVariants.Stop}
use Rattle.node_turns.specs.declared.turn.Turn.{Turn}
use Rattle.script_replay.specs.Run.{Unforged, Moves}
use Rattle.script_replay.specs.Trace.{ledger_by, ledger_after, RunWhile, AreUnforged}
use Rattle.script_replay.proofs.Whiles.{AreHistories}
use Rattle.trace_runs.specs.Audits.{MayTell}
use Rattle.trace_extensions.specs.Models.{Model, by_model}
use Rattle.trace_extensions.specs.Places.{Place, MayStep}
use Rattle.trace_extensions.proofs.Ran.{IsWhole}

-- == a run, read as one of the extension ==

module _ {V T : Type 0} (m : Model V) (k : Ghosts V T) where
  -- the extension moves as the model does
  pub record MovesSo : Type 0 where
    pub own : (x : k.Own) (line : List ℕ) → k.IsOwn x line → m.IsOwn line
    pub passes : (v : V) (line : List ℕ) → m.Passes v line → k.Passes v line
    pub begins : (v w : V) (line : List ℕ) (next : Next) → m.Begins v line next w → (x : k.Own) × k.IsOwn x line × k.Begins v x next w
    pub goes : (v w : V) (turn : Turn) (next : Next) → m.Goes v turn next w → k.Goes v turn next w
    pub sees : (v w : V) (e : Event) (turn : Turn) → m.Sees v turn w → k.Sees v e turn w
    pub texts : (v : V) → m.texts v ≡ k.texts v

  -- the step of the one is that of the other
  record IsRead (a : SideStep (List ℕ)) (b : SideStep k.Own) : Type 0 where
    line : side_line b ≡ side_line a
    text : side_text b ≡ side_text a
    is : SideIsOf k.IsOwn b
    goes : SideGoesOn a → SideGoesOn b
    end : SideIsEnd a → SideIsEnd b

  reads_so : (a : SideStep (List ℕ)) (b : SideStep k.Own) → IsRead a b → Reads (side_lines (by_model m)) a → Reads (side_lines k) b
  reads_so a b is reads = record {
    one = subst (λ (l : List ℕ). IsOneLine l) (sym is.line) reads.one;
    short = subst (λ (l : List ℕ). length l ≤ 600) (sym is.line) reads.short;
    is = is.is;
  }

  reads_both : (xs ys : List (SideStep k.Own)) → AllByRecursion (Reads (side_lines k)) xs → AllByRecursion (Reads (side_lines k)) ys → AllByRecursion (Reads (side_lines k)) (xs ++ ys)
  reads_both [] ys one two = two
  reads_both (b ∷ xs) ys one two = (one.0, reads_both xs ys one.1 two)

  module _ (so : MovesSo) {B : Type 0} (Steps : B → B → StepRecord → Turn → Type 0) where
    -- == one line ==

    asks_read : (old new : World B V) (next last : Next) (steps : List StepRecord) → Asks (by_model m) Steps old new next steps last → Asks k Steps old new next steps last
    asks_read old new next last [] asks = asks
    asks_read old new next last (d ∷ rest) asks = (
      asks.0,
      asks.1,
      record { asks = asks.2.asks; turn = asks.2.turn; did = asks.2.did; goes = so.goes old.desk asks.0.desk asks.2.turn asks.1 asks.2.goes },
      asks_read asks.0 new asks.1 last rest asks.3,
    )

    own_read : (old new : World B V) (own line : List ℕ) (steps : List StepRecord) (last : Next) → own ≡ line → DidOwn (by_model m) Steps old new own steps last
        → (x : k.Own) × k.IsOwn x line × DidOwn k Steps old new x steps last
    own_read old new own line steps last same did =
        let begun = so.begins old.desk did.desk own did.first did.begins in (
          begun.0,
          subst (λ (l : List ℕ). k.IsOwn begun.0 l) same begun.1,
          record { first = did.first; desk = did.desk; begins = begun.2; asks = asks_read (world old.scene did.desk) new did.first last steps did.asks },
        )

    one_read : (old new : World B V) (a : SideStep (List ℕ)) → SideIsOf (by_model m).IsOwn a → DoesOne (by_model m) Steps old new a → (b : SideStep k.Own) × IsRead a b × DoesOne k Steps old new b
    one_read old new (Plain (Skipped line)) is did = (Plain (Skipped line), record { line = refl; text = refl; is = is; goes = λ goes. goes; end = λ end. end }, did)
    one_read old new (Plain (Did line d)) is did = (
      Plain (Did line d),
      record { line = refl; text = refl; is = is; goes = λ goes. goes; end = λ end. end },
      record { passes = so.passes old.desk line did.passes; turn = did.turn; did = did.did; sees = so.sees old.desk new.desk d.event did.turn did.sees },
    )
    one_read old new (Own line own steps texts) is did =
        let x = own_read old new own line steps Say is.0 did.did in (
          Own line x.0 steps texts,
          record { line = refl; text = refl; is = x.1; goes = λ goes. goes; end = λ end. end },
          record { did = x.2; answer = did.answer ∙ so.texts new.desk },
        )
    one_read old new (Broken line own steps) is did =
        let x = own_read old new own line steps Stop is.0 did in
        (Broken line x.0 steps, record { line = refl; text = refl; is = x.1; goes = λ goes. goes; end = λ end. end }, x.2)

    -- == the lines before the last ==

    record AreRead (old new : World B V) (xs : List (SideStep (List ℕ))) (ys : List (SideStep k.Own)) : Type 0 where
      does : Does k Steps old new ys
      each : AllByRecursion (Reads (side_lines k)) ys
      go_on : AllByRecursion (side_lines (by_model m)).GoesOn xs → AllByRecursion (side_lines k).GoesOn ys
      long : length ys ≡ length xs
      script : script_of (side_lines k) ys ≡ script_of (side_lines (by_model m)) xs
      report : report_of (side_lines k) ys ≡ report_of (side_lines (by_model m)) xs

    all_read : (old new : World B V) (xs : List (SideStep (List ℕ))) → AllByRecursion (Reads (side_lines (by_model m))) xs → Does (by_model m) Steps old new xs → (ys : List (SideStep k.Own)) × AreRead old new xs ys
    all_read old new [] reads did = ([], record { does = did; each = tt; go_on = λ goes. goes; long = refl; script = refl; report = refl })
    all_read old new (a ∷ xs) reads did =
        let one = one_read old did.0 a reads.0.is did.1 in
        let more = all_read did.0 new xs reads.1 did.2 in (
          one.0 ∷ more.0,
          record {
            does = (did.0, one.2, more.1.does);
            each = (reads_so a one.0 one.1 reads.0, more.1.each);
            go_on = λ goes. (one.1.goes goes.0, more.1.go_on goes.1);
            long = ap suc more.1.long;
            script = ap₂ (λ (l r : List ℕ). ended l ++ r) one.1.line more.1.script;
            report = ap₂ (λ (l r : List ℕ). l ++ r) one.1.text more.1.report;
          },
        )

    two_parts : (old new : World B V) (xs ys : List (SideStep (List ℕ))) → Does (by_model m) Steps old new (xs ++ ys) → (mid : World B V) × Does (by_model m) Steps old mid xs × Does (by_model m) Steps mid new ys
    two_parts old new [] ys did = (old, refl, did)
    two_parts old new (a ∷ xs) ys did = let rest = two_parts did.0 new xs ys did.2 in (rest.0, (did.0, did.1, rest.1), rest.2)

    -- == the last line ==

    bad_read : (bytes : List ℕ) (end : Type 0) → IsBadPlace (side_lines (by_model m)) bytes end → IsBadPlace (side_lines k) bytes end
    bad_read bytes end (inl line) = inl (record {
      line = line.line;
      is_ended = line.is_ended;
      one = line.one;
      short = line.short;
      is = line.is;
      that = (line.that.0, λ x is. line.that.1 line.line (refl, so.own x line.line is));
    })
    bad_read bytes end (inr other) = inr other

    record EndsRead (s : Status) (number : ℕ) (bytes : List ℕ) (end : Type 0) (text : List ℕ) (old new : World B V) : Type 0 where
      done : List (SideStep k.Own)
      ends : EndsIn (side_lines k) (Run s) number bytes end text done
      does : Does k Steps old new done
      each : AllByRecursion (Reads (side_lines k)) done

    module _ (number : ℕ) (bytes : List ℕ) (end : Type 0) (text : List ℕ) (old new : World B V) (done : List (SideStep (List ℕ))) (did : Does (by_model m) Steps old new done) where
      -- it is this step
      last_read : (a : SideStep (List ℕ)) → done ≡ a ∷ [] → Reads (side_lines (by_model m)) a → (b : SideStep k.Own) × IsRead a b × Does k Steps old new (b ∷ [])
      last_read a only reads =
          let one : Does (by_model m) Steps old new (a ∷ []) = subst (λ (l : List (SideStep (List ℕ))). Does (by_model m) Steps old new l) only did in
          let read = one_read old one.0 a reads.is one.1 in
          (read.0, read.1, (one.0, read.2, one.2))

      none_read : done ≡ [] → new ≡ old
      none_read none = subst (λ (l : List (SideStep (List ℕ))). Does (by_model m) Steps old new l) none did

      ends_read : (s : Status) → IsWhole s → EndsIn (side_lines (by_model m)) (Run s) number bytes end text done → EndsRead s number bytes end text old new
      ends_read status.Done whole (last, is_end, told) =
          let b = last_read last.last last.only last.reads in
          let reads = reads_so last.last b.0 b.1 last.reads in
          record {
            done = b.0 ∷ [];
            ends = (
              record { last = b.0; is_ended = last.is_ended; only = refl; reads = reads; line = subst (λ (l : List ℕ). IsLineIn last.is_ended l bytes end) (sym b.1.line) last.line },
              b.1.end is_end,
              told ∙ sym b.1.text,
            );
            does = b.2;
            each = (reads, tt);
          }
      ends_read (status.Script n) whole (few, inl (is, none, told, bad)) = record { done = []; ends = (few, inl (is, refl, told, bad_read bytes end bad)); does = none_read none; each = tt }
      ends_read (status.Script n) whole (few, inr (is, out)) =
          let b = last_read out.last out.only out.reads in
          let reads = reads_so out.last b.0 b.1 out.reads in
          record {
            done = b.0 ∷ [];
            ends = (few, inr (is, record { last = b.0; only = refl; reads = reads; line = subst (λ (l : List ℕ). IsLineIn false l bytes end) (sym b.1.line) out.line; goes_on = b.1.goes out.goes_on; told = out.told ∙ sym b.1.text }));
            does = b.2;
            each = (reads, tt);
          }
      ends_read status.TooLong whole (inl (is, none, no_done, told)) = record { done = []; ends = inl (is, none, refl, told); does = none_read no_done; each = tt }
      ends_read status.TooLong whole (inr (is, out)) =
          let b = last_read out.last out.only out.reads in
          let reads = reads_so out.last b.0 b.1 out.reads in
          record {
            done = b.0 ∷ [];
            ends = inr (is, record { last = b.0; only = refl; reads = reads; line = subst (λ (l : List ℕ). IsLineIn false l bytes end) (sym b.1.line) out.line; goes_on = b.1.goes out.goes_on; told = out.told ∙ sym b.1.text });
            does = b.2;
            each = (reads, tt);
          }
      ends_read status.Words whole ends = absurd whole
      ends_read status.ReadFault whole ends = absurd whole
      ends_read status.WriteFault whole ends = absurd whole
      ends_read status.Memory whole ends = absurd whole

    -- A RUN BY THE MODEL, read as one of the extension
    pub run_read : (s : Status) → IsWhole s → (P : List (SideStep (List ℕ)) → Type 0) (Q : List (SideStep k.Own) → Type 0) (left0 left1 t0 t1 : Option (List ℕ)) (old new : World B V)
        (r : Replayed (side_lines (by_model m)) (Run s) P left0 left1 t0 t1) → Does (by_model m) Steps old new (r.trace ++ r.done)
        → ((ys : List (SideStep k.Own)) → AllByRecursion (Reads (side_lines k)) ys → Does k Steps old new ys → Q ys) → Replayed (side_lines k) (Run s) Q left0 left1 t0 t1
    run_read s whole P Q left0 left1 t0 t1 old new r did that =
        let parts = two_parts old new r.trace r.done did in
        let front = all_read old parts.0 r.trace r.each parts.1 in
        let last = ends_read (length r.trace + 1) r.rest (IsAtEnd left1) r.text parts.0 new r.done parts.2 s whole r.ends in
        record {
          trace = front.0;
          each = front.1.each;
          go_on = front.1.go_on r.go_on;
          rest = r.rest;
          done = last.done;
          text = r.text;
          few = λ other. subst (λ (n : ℕ). n + 1 ≤ 1000000) (sym front.1.long) (r.few other);
          ends = subst (λ (n : ℕ). EndsIn (side_lines k) (Run s) (n + 1) r.rest (IsAtEnd left1) r.text last.done) (sym front.1.long) last.ends;
          consumed = subst (λ (l : List ℕ). Consumes left0 left1 (l ++ r.rest)) (sym front.1.script) r.consumed;
          appended = subst (λ (l : List ℕ). Appends t0 t1 (l ++ r.text)) (sym front.1.report) r.appended;
          did = that (front.0 ++ last.done) (reads_both front.0 last.done front.1.each last.each)
              ((side_done k Steps (λ s t. ⊥)).both old parts.0 new front.0 last.done front.1.does last.does);
        }

-- == what its steps leave ==

module _ (τ : Tariff) where
  -- each step was unforged at its place and may be done there, each ledger so far is a history, and M is the last
  pub record AreMoves (H : Ledger) (steps : List StepRecord) (M : Ledger) : Type 0 where
    pub unforged : AreUnforged τ Unforged H steps
    pub run : RunWhile τ Unforged (Moves τ) H steps
    pub histories : AreHistories τ H steps
    pub history : History τ editions M
    pub ledger : M ≡ ledger_after τ H steps

  no_moves : (H M : Ledger) → History τ editions H → M ≡ H → AreMoves H [] M
  no_moves H M history same = record { unforged = tt; run = tt; histories = history; history = subst (λ (L : Ledger). History τ editions L) (sym same) history; ledger = same }

  more_moves : (H : Ledger) (d : StepRecord) (left : List ℕ) (rest : List StepRecord) (N M : Ledger) → History τ editions H → MayTell τ H left d → N ≡ ledger_by τ H d → (History τ editions N → AreMoves N rest M) → AreMoves H (d ∷ rest) M
  more_moves H d left rest N M history may is then =
      let next : History τ editions (ledger_by τ H d) = moves d.event d.text d.reply history may.unforged may.moves in
      let more : AreMoves (ledger_by τ H d) rest M = subst (λ (L : Ledger). AreMoves L rest M) is (then (subst (λ (L : Ledger). History τ editions L) (sym is) next)) in
      record { unforged = (may.unforged, more.unforged); run = λ u. (may.moves, more.run); histories = (history, λ u. more.histories); history = more.history; ledger = more.ledger }

  both_moves : (H N M : Ledger) (a b : List StepRecord) → AreMoves H a N → AreMoves N b M → AreMoves H (a ++ b) M
  both_moves H N M [] b one two = subst (λ (L : Ledger). AreMoves L b M) one.ledger two
  both_moves H N M (d ∷ a) b one two =
      let u = one.unforged in
      let rest : AreMoves (ledger_by τ H d) a N = record { unforged = u.1; run = (one.run u.0).1; histories = one.histories.1 u.0; history = one.history; ledger = one.ledger } in
      let more = both_moves (ledger_by τ H d) N M a b rest two in
      record { unforged = (u.0, more.unforged); run = λ v. ((one.run v).0, more.run); histories = (one.histories.0, λ v. more.histories); history = more.history; ledger = more.ledger }

  module _ {K T : Type 0} (k : Ghosts K T) where
    asks_move : (old new : World Place K) (next last : Next) (steps : List StepRecord) → History τ editions old.scene.ledger → Asks k (MayStep τ) old new next steps last → AreMoves old.scene.ledger steps new.scene.ledger
    asks_move old new next last [] history asks = no_moves old.scene.ledger new.scene.ledger history (ap (λ (w : World Place K). w.scene.ledger) asks.1)
    asks_move old new next last (d ∷ rest) history asks =
        more_moves old.scene.ledger d old.scene.left rest asks.0.scene.ledger new.scene.ledger history asks.2.did.may (ap (λ (p : Place). p.ledger) asks.2.did.new_is)
        (λ then. asks_move asks.0 new asks.1 last rest then asks.3)

    one_moves : (old new : World Place K) (b : SideStep k.Own) → History τ editions old.scene.ledger → DoesOne k (MayStep τ) old new b → AreMoves old.scene.ledger (steps_in b) new.scene.ledger
    one_moves old new (Plain (Skipped line)) history did = no_moves old.scene.ledger new.scene.ledger history (ap (λ (w : World Place K). w.scene.ledger) did)
    one_moves old new (Plain (Did line d)) history did =
        more_moves old.scene.ledger d old.scene.left [] new.scene.ledger new.scene.ledger history did.did.may (ap (λ (p : Place). p.ledger) did.did.new_is)
        (λ then. no_moves new.scene.ledger new.scene.ledger then refl)
    one_moves old new (Own line own steps texts) history did = asks_move (world old.scene did.did.desk) new did.did.first Say steps history did.did.asks
    one_moves old new (Broken line own steps) history did = asks_move (world old.scene did.desk) new did.first Stop steps history did.asks

    pub all_moves : (old new : World Place K) (trace : List (SideStep k.Own)) → History τ editions old.scene.ledger → Does k (MayStep τ) old new trace → AreMoves old.scene.ledger (steps_of trace) new.scene.ledger
    all_moves old new [] history did = no_moves old.scene.ledger new.scene.ledger history (ap (λ (w : World Place K). w.scene.ledger) did)
    all_moves old new (b ∷ rest) history did =
        let one = one_moves old did.0 b history did.1 in
        both_moves old.scene.ledger did.0.scene.ledger new.scene.ledger (steps_in b) (steps_of rest) one (all_moves did.0 new rest one.history did.2)
