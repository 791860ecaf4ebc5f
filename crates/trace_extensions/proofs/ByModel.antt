-- What an extension did in a run, its model may have done.
use Rattle.std.proofs.Common.{◌≡◌, ◌≢◌, ◌⊎◌, inl, inr, false, suc, ℕ, ◌+◌, ◌≤◌, List, [], ◌∷◌, ◌++◌, length, Option, refl, sym, ◌∙◌, ap, subst}
use Rattle.std.specs.Io.KnownBytes.{Consumes, Appends, IsAtEnd}
use Rattle.std.specs.List.{AllByRecursion}
use Rattle.line_runs.specs.Lines.{IsOneLine, IsLineIn, ended}
use Rattle.line_runs.specs.Runs.{DidLast, RanOut, EndsIn, IsBadPlace, Replayed}
use Rattle.line_runs.specs.Trace.{Reads, script_of, report_of}
use Rattle.line_runs.specs.declared.status.Status.{Status}
use Rattle.line_runs.specs.declared.status.Status.TheVariants as status
use Rattle.line_runs.specs.declared.{status.SideStatus.TheVariants.Run}
use Rattle.line_extensions.specs.Trace.{StepRecord, Skipped, Did}
use Rattle.line_extensions.specs.Desks.{World, world, side_lines, Asks, DoesOne, Does}
use Rattle.line_extensions.specs.SideTrace.{SideStep, Plain, Own, Broken, side_line, side_text, SideIsOf, SideIsEnd, SideGoesOn}
use Rattle.line_extensions.specs.declared.{extension.Extension.Ghosts, extension.Next.Next, extension.Next.TheVariants.Say, extension.Next.TheVariants.Stop}
use Rattle.node_turns.specs.declared.turn.Turn.{Turn}
use Rattle.trace_extensions.specs.Fits.{HasTexts}
use Rattle.trace_extensions.specs.Models.{Model, by_model, IsModelOf}
use Rattle.trace_extensions.proofs.Ran.{IsWhole}

module _ {K T : Type 0} (k : Ghosts K T) {V : Type 0} (view : K → V) (m : Model V) (modelled : IsModelOf k view m) where
  -- == steps ==

  abbrev pub of_model : SideStep k.Own → SideStep (List ℕ)
  of_model (Plain d) = Plain d
  of_model (Own line own steps texts) = Own line line steps texts
  of_model (Broken line own steps) = Broken line line steps

  abbrev pub all_of : List (SideStep k.Own) → List (SideStep (List ℕ))
  all_of [] = []
  all_of (b ∷ ys) = of_model b ∷ all_of ys

  pub line_same : (b : SideStep k.Own) → side_line (of_model b) ≡ side_line b
  line_same (Plain d) = refl
  line_same (Own line own steps texts) = refl
  line_same (Broken line own steps) = refl

  text_same : (b : SideStep k.Own) → side_text (of_model b) ≡ side_text b
  text_same (Plain d) = refl
  text_same (Own line own steps texts) = refl
  text_same (Broken line own steps) = refl

  is_own : (own : k.Own) (line : List ℕ) → k.IsOwn own line → (line ≡ line) × m.IsOwn line
  is_own own line is = (refl, (modelled.own line).1 (own, is))

  is_of : (b : SideStep k.Own) → SideIsOf k.IsOwn b → SideIsOf (by_model m).IsOwn (of_model b)
  is_of (Plain d) is = is
  is_of (Own line own steps texts) is = is_own own line is
  is_of (Broken line own steps) is = is_own own line is

  end_of : (b : SideStep k.Own) → SideIsEnd b → SideIsEnd (of_model b)
  end_of (Plain d) is = is
  end_of (Own line own steps texts) is = is
  end_of (Broken line own steps) is = is

  goes_of : (b : SideStep k.Own) → SideGoesOn b → SideGoesOn (of_model b)
  goes_of (Plain d) is = is
  goes_of (Own line own steps texts) is = is
  goes_of (Broken line own steps) is = is

  texts_of : (b : SideStep k.Own) → HasTexts b → HasTexts (of_model b)
  texts_of (Plain d) is = is
  texts_of (Own line own steps texts) is = is
  texts_of (Broken line own steps) is = is

  reads_of : (b : SideStep k.Own) → Reads (side_lines k) b → Reads (side_lines (by_model m)) (of_model b)
  reads_of b reads = record {
    one = subst (λ (l : List ℕ). IsOneLine l) (sym (line_same b)) reads.one;
    short = subst (λ (l : List ℕ). length l ≤ 600) (sym (line_same b)) reads.short;
    is = is_of b reads.is;
  }

  pub each_of : (ys : List (SideStep k.Own)) → AllByRecursion (Reads (side_lines k)) ys → AllByRecursion (Reads (side_lines (by_model m))) (all_of ys)
  each_of [] each = tt
  each_of (b ∷ ys) each = (reads_of b each.0, each_of ys each.1)

  pub go_on_of : (ys : List (SideStep k.Own)) → AllByRecursion (side_lines k).GoesOn ys → AllByRecursion (side_lines (by_model m)).GoesOn (all_of ys)
  go_on_of [] each = tt
  go_on_of (b ∷ ys) each = (goes_of b each.0, go_on_of ys each.1)

  pub all_texts_of : (ys : List (SideStep k.Own)) → AllByRecursion HasTexts ys → AllByRecursion HasTexts (all_of ys)
  all_texts_of [] each = tt
  all_texts_of (b ∷ ys) each = (texts_of b each.0, all_texts_of ys each.1)

  pub long_same : (ys : List (SideStep k.Own)) → length (all_of ys) ≡ length ys
  long_same [] = refl
  long_same (b ∷ ys) = ap suc (long_same ys)

  pub script_same : (ys : List (SideStep k.Own)) → script_of (side_lines (by_model m)) (all_of ys) ≡ script_of (side_lines k) ys
  script_same [] = refl
  script_same (b ∷ ys) = ap (λ (l : List ℕ). ended l ++ script_of (side_lines (by_model m)) (all_of ys)) (line_same b) ∙ ap (λ (l : List ℕ). ended (side_line b) ++ l) (script_same ys)

  pub report_same : (ys : List (SideStep k.Own)) → report_of (side_lines (by_model m)) (all_of ys) ≡ report_of (side_lines k) ys
  report_same [] = refl
  report_same (b ∷ ys) = ap (λ (l : List ℕ). l ++ report_of (side_lines (by_model m)) (all_of ys)) (text_same b) ∙ ap (λ (l : List ℕ). side_text b ++ l) (report_same ys)

  pub both_of : (xs ys : List (SideStep k.Own)) → all_of (xs ++ ys) ≡ all_of xs ++ all_of ys
  both_of [] ys = refl
  both_of (b ∷ xs) ys = ap (λ (l : List (SideStep (List ℕ))). of_model b ∷ l) (both_of xs ys)

  -- == what was done ==

  module _ {B : Type 0} (Steps : B → B → StepRecord → Turn → Type 0) where
    abbrev pub seen_by : World B K → World B V
    seen_by w = world w.scene (view w.desk)

    -- what ends with an answer doesn't stop before
    no_stop : (old new : World B K) (next : Next) (steps : List StepRecord) → Asks k Steps old new next steps Say → next ≢ Stop
    no_stop old new next [] asks is = cc (asks.0, is)
    no_stop old new next (d ∷ steps) asks is = cc (asks.2.asks, is)

    runs_on : (old new : World B K) (next : Next) (steps : List StepRecord) (last : Next) → last ≢ Stop → Asks k Steps old new next steps last → next ≢ Stop
    runs_on old new next [] last runs asks = λ is. runs (asks.0 ∙ is)
    runs_on old new next (d ∷ steps) last runs asks = λ is. cc (asks.2.asks, is)

    -- steps up to something else than a failed commit are those of the model
    pub asks_to : (old new : World B K) (next : Next) (steps : List StepRecord) (last : Next) → last ≢ Stop → Asks k Steps old new next steps last → Asks (by_model m) Steps (seen_by old) (seen_by new) next steps last
    asks_to old new next [] last runs asks = (asks.0, ap (λ (w : World B K). seen_by w) asks.1)
    asks_to old new next (d ∷ steps) last runs asks = (
      seen_by asks.0,
      asks.1,
      record {
        asks = asks.2.asks;
        turn = asks.2.turn;
        did = asks.2.did;
        goes = modelled.goes old.desk asks.0.desk asks.2.turn asks.1 asks.2.goes (runs_on asks.0 new asks.1 steps last runs asks.3);
      },
      asks_to asks.0 new asks.1 steps last runs asks.3,
    )

    pub asks_of : (old new : World B K) (next : Next) (steps : List StepRecord) → Asks k Steps old new next steps Say → Asks (by_model m) Steps (seen_by old) (seen_by new) next steps Say
    asks_of old new next steps asks = asks_to old new next steps Say (λ stop. cc) asks

    does_one_of : (old new : World B K) (b : SideStep k.Own) → SideIsOf k.IsOwn b → (SideGoesOn b ⊎ SideIsEnd b) → DoesOne k Steps old new b → DoesOne (by_model m) Steps (seen_by old) (seen_by new) (of_model b)
    does_one_of old new (Plain (Skipped line)) is goes did = ap (λ (w : World B K). seen_by w) did
    does_one_of old new (Plain (Did line d)) is goes did = record {
      passes = modelled.passes old.desk line did.passes;
      turn = did.turn;
      did = did.did;
      sees = modelled.sees old.desk new.desk d.event did.turn did.sees;
    }
    does_one_of old new (Own line own steps texts) is goes did = record {
      did = record {
        first = did.did.first;
        desk = view did.did.desk;
        begins = modelled.begins old.desk did.did.desk own line did.did.first is did.did.begins (no_stop (world old.scene did.did.desk) new did.did.first steps did.did.asks);
        asks = asks_of (world old.scene did.did.desk) new did.did.first steps did.did.asks;
      };
      answer = did.answer ∙ modelled.texts new.desk;
    }
    does_one_of old new (Broken line own steps) is (inl goes) did = absurd goes
    does_one_of old new (Broken line own steps) is (inr end) did = absurd end

    -- each step is what it says, and goes on or ends
    abbrev pub IsGood : SideStep k.Own → Type 0
    IsGood b = SideIsOf k.IsOwn b × (SideGoesOn b ⊎ SideIsEnd b)

    pub does_of : (old new : World B K) (ys : List (SideStep k.Own)) → AllByRecursion IsGood ys → Does k Steps old new ys → Does (by_model m) Steps (seen_by old) (seen_by new) (all_of ys)
    does_of old new [] good did = ap (λ (w : World B K). seen_by w) did
    does_of old new (b ∷ ys) good did = (seen_by did.0, does_one_of old did.0 b good.0.0 good.0.1 did.1, does_of did.0 new ys good.1 did.2)

    good_trace : (ys zs : List (SideStep k.Own)) → AllByRecursion (Reads (side_lines k)) ys → AllByRecursion (side_lines k).GoesOn ys → AllByRecursion IsGood zs → AllByRecursion IsGood (ys ++ zs)
    good_trace [] zs each goes rest = rest
    good_trace (b ∷ ys) zs each goes rest = ((each.0.is, inl goes.0), good_trace ys zs each.1 goes.1 rest)

    one_good : (b : SideStep k.Own) (zs : List (SideStep k.Own)) → zs ≡ b ∷ [] → IsGood b → AllByRecursion IsGood zs
    one_good b zs only good = subst (λ (l : List (SideStep k.Own)). AllByRecursion IsGood l) (sym only) (good, tt)

    none_good : (zs : List (SideStep k.Own)) → zs ≡ [] → AllByRecursion IsGood zs
    none_good zs none = subst (λ (l : List (SideStep k.Own)). AllByRecursion IsGood l) (sym none) tt

    last_good : (s : Status) → IsWhole s → (number : ℕ) (bytes : List ℕ) (end : Type 0) (text : List ℕ) (zs : List (SideStep k.Own)) → EndsIn (side_lines k) (Run s) number bytes end text zs → AllByRecursion IsGood zs
    last_good status.Done whole number bytes end text zs (did, is_end, told) = one_good did.last zs did.only (did.reads.is, inr is_end)
    last_good (status.Script n) whole number bytes end text zs (few, inl (is, none, told, bad)) = none_good zs none
    last_good (status.Script n) whole number bytes end text zs (few, inr (is, out)) = one_good out.last zs out.only (out.reads.is, inl out.goes_on)
    last_good status.TooLong whole number bytes end text zs (inl (is, none, no_done, told)) = none_good zs no_done
    last_good status.TooLong whole number bytes end text zs (inr (is, out)) = one_good out.last zs out.only (out.reads.is, inl out.goes_on)
    last_good status.Words whole number bytes end text zs ends = absurd whole
    last_good status.ReadFault whole number bytes end text zs ends = absurd whole
    last_good status.WriteFault whole number bytes end text zs ends = absurd whole
    last_good status.Memory whole number bytes end text zs ends = absurd whole

    -- WHAT THE EXTENSION DID, its model may have done
    pub did_by_model : (s : Status) → IsWhole s → (old new : World B K) (trace done : List (SideStep k.Own)) (number : ℕ) (bytes : List ℕ) (end : Type 0) (text : List ℕ) → AllByRecursion (Reads (side_lines k)) trace
        → AllByRecursion (side_lines k).GoesOn trace → EndsIn (side_lines k) (Run s) number bytes end text done → Does k Steps old new (trace ++ done)
        → Does (by_model m) Steps (seen_by old) (seen_by new) (all_of trace ++ all_of done)
    did_by_model s whole old new trace done number bytes end text each goes ends did =
        subst (λ (l : List (SideStep (List ℕ))). Does (by_model m) Steps (seen_by old) (seen_by new) l) (both_of trace done)
        (does_of old new (trace ++ done) (good_trace trace done each goes (last_good s whole number bytes end text done ends)) did)

  -- == how the run ends ==

  last_of : (bytes : List ℕ) (end : Type 0) (done : List (SideStep k.Own)) → (did : DidLast (side_lines k) bytes end done) → DidLast (side_lines (by_model m)) bytes end (all_of done)
  last_of bytes end done did = record {
    last = of_model did.last;
    is_ended = did.is_ended;
    only = ap (λ (l : List (SideStep k.Own)). all_of l) did.only;
    reads = reads_of did.last did.reads;
    line = subst (λ (l : List ℕ). IsLineIn did.is_ended l bytes end) (sym (line_same did.last)) did.line;
  }

  out_of : (bytes : List ℕ) (end : Type 0) (text : List ℕ) (done : List (SideStep k.Own)) → RanOut (side_lines k) bytes end text done → RanOut (side_lines (by_model m)) bytes end text (all_of done)
  out_of bytes end text done out = record {
    last = of_model out.last;
    only = ap (λ (l : List (SideStep k.Own)). all_of l) out.only;
    reads = reads_of out.last out.reads;
    line = subst (λ (l : List ℕ). IsLineIn false l bytes end) (sym (line_same out.last)) out.line;
    goes_on = goes_of out.last out.goes_on;
    told = out.told ∙ sym (text_same out.last);
  }

  bad_of : (bytes : List ℕ) (end : Type 0) → IsBadPlace (side_lines k) bytes end → IsBadPlace (side_lines (by_model m)) bytes end
  bad_of bytes end (inl line) = inl (record { line = line.line; is_ended = line.is_ended; one = line.one; short = line.short; is = line.is; that = (line.that.0, λ own is. let w = (modelled.own line.line).0 is.1 in line.that.1 w.0 w.1) })
  bad_of bytes end (inr other) = inr other

  pub ends_of : (s : Status) → IsWhole s → (number : ℕ) (bytes : List ℕ) (end : Type 0) (text : List ℕ) (done : List (SideStep k.Own)) → EndsIn (side_lines k) (Run s) number bytes end text done
      → EndsIn (side_lines (by_model m)) (Run s) number bytes end text (all_of done)
  unfolding last_of
  ends_of status.Done whole number bytes end text done (did, is_end, told) = (last_of bytes end done did, end_of did.last is_end, told ∙ sym (text_same did.last))
  ends_of (status.Script n) whole number bytes end text done (few, inl (is, none, told, bad)) = (few, inl (is, ap (λ (l : List (SideStep k.Own)). all_of l) none, told, bad_of bytes end bad))
  ends_of (status.Script n) whole number bytes end text done (few, inr (is, out)) = (few, inr (is, out_of bytes end text done out))
  ends_of status.TooLong whole number bytes end text done (inl (is, none, no_done, told)) = inl (is, none, ap (λ (l : List (SideStep k.Own)). all_of l) no_done, told)
  ends_of status.TooLong whole number bytes end text done (inr (is, out)) = inr (is, out_of bytes end text done out)
  ends_of status.Words whole number bytes end text done ends = absurd whole
  ends_of status.ReadFault whole number bytes end text done ends = absurd whole
  ends_of status.WriteFault whole number bytes end text done ends = absurd whole
  ends_of status.Memory whole number bytes end text done ends = absurd whole

  -- A RUN WITH THE EXTENSION is one by its model
  unfoldable pub run_by_model : (s : Status) → IsWhole s → (P : List (SideStep k.Own) → Type 0) (Q : List (SideStep (List ℕ)) → Type 0) (left0 left1 t0 t1 : Option (List ℕ)) (r : Replayed (side_lines k) (Run s) P left0 left1 t0 t1)
      → (P (r.trace ++ r.done) → Q (all_of r.trace ++ all_of r.done)) → Replayed (side_lines (by_model m)) (Run s) Q left0 left1 t0 t1
  run_by_model s whole P Q left0 left1 t0 t1 r did = record {
    trace = all_of r.trace;
    each = each_of r.trace r.each;
    go_on = go_on_of r.trace r.go_on;
    rest = r.rest;
    done = all_of r.done;
    text = r.text;
    few = λ other. subst (λ (n : ℕ). n + 1 ≤ 1000000) (sym (long_same r.trace)) (r.few other);
    ends = subst (λ (n : ℕ). EndsIn (side_lines (by_model m)) (Run s) (n + 1) r.rest (IsAtEnd left1) r.text (all_of r.done)) (sym (long_same r.trace))
        (ends_of s whole (length r.trace + 1) r.rest (IsAtEnd left1) r.text r.done r.ends);
    consumed = subst (λ (l : List ℕ). Consumes left0 left1 (l ++ r.rest)) (sym (script_same r.trace)) r.consumed;
    appended = subst (λ (l : List ℕ). Appends t0 t1 (l ++ r.text)) (sym (report_same r.trace)) r.appended;
    did = did r.did;
  }
