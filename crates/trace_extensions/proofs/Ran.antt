-- A run that an audit went over is, at each history, one that may have been so.
use Rattle.std.proofs.Common.{◌≡◌, inl, inr, ℕ, ◌+◌, ◌≤◌, List, [], ◌∷◌, ◌++◌, length, Option, Some, refl, sym, ◌∙◌, ap, subst, append-nil, append_assoc, false}
use Rattle.std.specs.Io.KnownBytes.{Consumes, IsAtEnd}
use Rattle.std.proofs.KnownBytes.{Consumes-trans}
use Rattle.bench_base.specs.declared.ledger.Entry.TheVariants.{Begin}
use Rattle.bench_base.specs.Ledger.{Ledger}
use Rattle.bench_base.specs.Rules.{editions}
use Rattle.bench_abstraction.specs.Tariff.{IsOfTexts}
use Rattle.ledger_moves.specs.Tariffs.{Tariff}
use Rattle.ledger_moves.specs.Histories.{History, begins}
use Rattle.line_runs.specs.Lines.{IsLineIn}
use Rattle.std.specs.List.{AllByRecursion}
use Rattle.line_runs.specs.Trace.{Reads, report_of}
use Rattle.line_runs.specs.Runs.{DidLast, RanOut, EndsIn, Replayed}
use Rattle.line_runs.specs.Turns as turns
use Rattle.line_runs.specs.declared.status.Status.{Status}
use Rattle.line_runs.specs.declared.status.Status.TheVariants as status
use Rattle.line_runs.specs.declared.{status.SideStatus.TheVariants.Run}
use Rattle.line_extensions.specs.Desks.{World, world, side_lines, Does}
use Rattle.line_extensions.specs.SideTrace.{SideStep, side_text}
use Rattle.line_extensions.specs.declared.extension.Extension.{Ghosts}
use Rattle.trace_bench.specs.Seeing.{Audit, Sees}
use Rattle.trace_runs.specs.Between.{SeesBetween}
use Rattle.trace_runs.specs.Verdicts.{status_of}
use Rattle.trace_runs.specs.declared.verdict.Ending.{Ending}
use Rattle.trace_runs.specs.declared.verdict.Ending.TheVariants as ends
use Rattle.trace_extensions.specs.Fits.{HasTexts}
use Rattle.trace_extensions.specs.Models.{Model}
use Rattle.trace_extensions.specs.Places.{Place, place, MayStep}
use Rattle.trace_extensions.specs.Sides.{MayHaveDone, MayHaveRun}
use Rattle.trace_extensions.specs.Steps.{AuditWorld, AuditStep, Heard, Own, Passed, audit_lines, AuditIsEnd, AuditGoesOn, AuditEnds}
use Rattle.trace_extensions.specs.Steps as audit
use Rattle.trace_extensions.specs.Worlds.{stop_fits, AuditLeaves, IsSeenAt, DidAudit}
use Rattle.trace_extensions.proofs.Translated.{IsStepOf, AreStepsOf, NoneEnds, DoneTwice, done_twice, same_length, same_script, same_report, texts_of, read_step, all_read, all_go_on, all_texts, going, took}

-- the run came to the end of its script
abbrev pub IsWhole : Status → Type 0
IsWhole status.Done = Unit {0}
IsWhole (status.Script line) = Unit {0}
IsWhole status.TooLong = Unit {0}
IsWhole status.Words = ⊥
IsWhole status.ReadFault = ⊥
IsWhole status.WriteFault = ⊥
IsWhole status.Memory = ⊥

module _ {K T : Type 0} (k : Ghosts K T) where
  -- == the last line ==

  last_one : (a : AuditStep k.Own K) (ys : List (SideStep k.Own)) → AreStepsOf k (a ∷ []) ys → (b : SideStep k.Own) × (ys ≡ b ∷ []) × IsStepOf k a b
  last_one a [] are = absurd are
  last_one a (b ∷ []) are = (b, refl, are.0)
  last_one a (b ∷ (c ∷ ys)) are = absurd are.1

  no_steps : (ys : List (SideStep k.Own)) → AreStepsOf k [] ys → ys ≡ []
  no_steps [] are = refl
  no_steps (b ∷ ys) are = absurd are

  one_text : (b : SideStep k.Own) (ys : List (SideStep k.Own)) → ys ≡ b ∷ [] → report_of (side_lines k) ys ≡ side_text b
  one_text b ys is = ap (λ (l : List (SideStep k.Own)). report_of (side_lines k) l) is ∙ append-nil (side_text b)

  no_text : (ys : List (SideStep k.Own)) → ys ≡ [] → report_of (side_lines k) ys ≡ []
  no_text ys is = ap (λ (l : List (SideStep k.Own)). report_of (side_lines k) l) is

  did_last : (bytes : List ℕ) (end : Type 0) (done : List (AuditStep k.Own K)) (ys : List (SideStep k.Own)) → AreStepsOf k done ys → (did : DidLast (audit_lines k) bytes end done) → AuditIsEnd did.last
      → (is : DidLast (side_lines k) bytes end ys) × (side_lines k).IsEnd is.last × (report_of (side_lines k) ys ≡ side_text is.last)
  did_last bytes end done ys are did is_end =
      let one = last_one did.last ys (subst (λ (l : List (AuditStep k.Own K)). AreStepsOf k l ys) did.only are) in (
        record {
          last = one.0;
          is_ended = did.is_ended;
          only = one.1;
          reads = read_step k did.last one.0 one.2 did.reads;
          line = subst (λ (l : List ℕ). IsLineIn did.is_ended l bytes end) (sym one.2.line) did.line;
        },
        one.2.end is_end,
        one_text one.0 ys one.1,
      )

  ran_out : (bytes : List ℕ) (end : Type 0) (text : List ℕ) (done : List (AuditStep k.Own K)) (ys : List (SideStep k.Own)) → AreStepsOf k done ys → RanOut (audit_lines k) bytes end text done
      → RanOut (side_lines k) bytes end (report_of (side_lines k) ys) ys
  ran_out bytes end text done ys are out =
      let one = last_one out.last ys (subst (λ (l : List (AuditStep k.Own K)). AreStepsOf k l ys) out.only are) in
      record {
        last = one.0;
        only = one.1;
        reads = read_step k out.last one.0 one.2 out.reads;
        line = subst (λ (l : List ℕ). IsLineIn false l bytes end) (sym one.2.line) out.line;
        goes_on = one.2.goes out.goes_on;
        told = one_text one.0 ys one.1;
      }

  none_done : (done : List (AuditStep k.Own K)) (ys : List (SideStep k.Own)) → AreStepsOf k done ys → done ≡ [] → ys ≡ []
  none_done done ys are none = no_steps ys (subst (λ (l : List (AuditStep k.Own K)). AreStepsOf k l ys) none are)

  ends_in : (s : Status) → IsWhole s → (number : ℕ) (bytes : List ℕ) (end : Type 0) (text : List ℕ) (done : List (AuditStep k.Own K)) (ys : List (SideStep k.Own)) → AreStepsOf k done ys
      → EndsIn (audit_lines k) (Run s) number bytes end text done → EndsIn (side_lines k) (Run s) number bytes end (report_of (side_lines k) ys) ys
  ends_in status.Done whole number bytes end text done ys are (did, is_end, told) = did_last bytes end done ys are did is_end
  ends_in (status.Script line) whole number bytes end text done ys are (few, inl (is, none, told, bad)) =
      let empty = none_done done ys are none in
      (few, inl (is, empty, no_text ys empty, bad))
  ends_in (status.Script line) whole number bytes end text done ys are (few, inr (is, out)) = (few, inr (is, ran_out bytes end text done ys are out))
  ends_in status.TooLong whole number bytes end text done ys are (inl (is, none, no_done, told)) =
      let empty = none_done done ys are no_done in
      inl (is, none, empty, no_text ys empty)
  ends_in status.TooLong whole number bytes end text done ys are (inr (is, out)) = inr (is, ran_out bytes end text done ys are out)
  ends_in status.Words whole number bytes end text done ys are is = absurd whole
  ends_in status.ReadFault whole number bytes end text done ys are is = absurd whole
  ends_in status.WriteFault whole number bytes end text done ys are is = absurd whole
  ends_in status.Memory whole number bytes end text done ys are is = absurd whole

  -- the audit didn't end in the last line
  end_goes : (a : AuditStep k.Own K) → AuditIsEnd a → AuditEnds a → ⊥
  end_goes (Passed line) end ends = ends
  end_goes (Heard line e answer) end ends = ends
  end_goes (Own line own texts) end ends = ends
  end_goes (audit.Begun line told left) end ends = end
  end_goes (audit.Ended line left) end ends = end

  on_goes : (a : AuditStep k.Own K) → AuditGoesOn a → AuditEnds a → ⊥
  on_goes (Passed line) goes ends = ends
  on_goes (Heard line e answer) goes ends = ends
  on_goes (Own line own texts) goes ends = ends
  on_goes (audit.Begun line told left) goes ends = goes
  on_goes (audit.Ended line left) goes ends = goes

  one_goes : (a : AuditStep k.Own K) (done : List (AuditStep k.Own K)) → done ≡ a ∷ [] → (AuditEnds a → ⊥) → NoneEnds k done
  one_goes a done is never = subst (λ (l : List (AuditStep k.Own K)). NoneEnds k l) (sym is) (never, tt)

  none_goes : (done : List (AuditStep k.Own K)) → done ≡ [] → NoneEnds k done
  none_goes done is = subst (λ (l : List (AuditStep k.Own K)). NoneEnds k l) (sym is) tt

  pub last_goes : (s : Status) → IsWhole s → (number : ℕ) (bytes : List ℕ) (end : Type 0) (text : List ℕ) (done : List (AuditStep k.Own K)) → EndsIn (audit_lines k) (Run s) number bytes end text done
      → NoneEnds k done
  last_goes status.Done whole number bytes end text done (did, is_end, told) = one_goes did.last done did.only (end_goes did.last is_end)
  last_goes (status.Script line) whole number bytes end text done (few, inl (is, none, told, bad)) = none_goes done none
  last_goes (status.Script line) whole number bytes end text done (few, inr (is, out)) = one_goes out.last done out.only (on_goes out.last out.goes_on)
  last_goes status.TooLong whole number bytes end text done (inl (is, none, no_done, told)) = none_goes done no_done
  last_goes status.TooLong whole number bytes end text done (inr (is, out)) = one_goes out.last done out.only (on_goes out.last out.goes_on)
  last_goes status.Words whole number bytes end text done is = absurd whole
  last_goes status.ReadFault whole number bytes end text done is = absurd whole
  last_goes status.WriteFault whole number bytes end text done is = absurd whole
  last_goes status.Memory whole number bytes end text done is = absurd whole

  pub both_go : (xs ys : List (AuditStep k.Own K)) → NoneEnds k xs → NoneEnds k ys → NoneEnds k (xs ++ ys)
  both_go [] ys one two = two
  both_go (a ∷ xs) ys one two = (one.0, both_go xs ys one.1 two)

  texts_both : (xs ys : List (AuditStep k.Own K)) → texts_of k (xs ++ ys) ≡ texts_of k xs ++ texts_of k ys
  texts_both [] ys = refl
  texts_both (a ∷ xs) ys = ap (λ (l : List ℕ). audit.audit_text a ++ l) (texts_both xs ys) ∙ sym (append_assoc (audit.audit_text a) (texts_of k xs) (texts_of k ys))

  both_texts : (xs ys : List (SideStep k.Own)) → AllByRecursion HasTexts xs → AllByRecursion HasTexts ys → AllByRecursion HasTexts (xs ++ ys)
  both_texts [] ys one two = two
  both_texts (x ∷ xs) ys one two = (one.0, both_texts xs ys one.1 two)

  one_texts : (a : AuditStep k.Own K) (done : List (AuditStep k.Own K)) (ys : List (SideStep k.Own)) → AreStepsOf k done ys → done ≡ a ∷ [] → Reads (audit_lines k) a → AllByRecursion HasTexts ys
  one_texts a done ys are is reads = all_texts k (a ∷ []) ys (subst (λ (l : List (AuditStep k.Own K)). AreStepsOf k l ys) is are) (reads, tt)

  no_texts : (done : List (AuditStep k.Own K)) (ys : List (SideStep k.Own)) → AreStepsOf k done ys → done ≡ [] → AllByRecursion HasTexts ys
  no_texts done ys are is = all_texts k [] ys (subst (λ (l : List (AuditStep k.Own K)). AreStepsOf k l ys) is are) tt

  last_texts : (s : Status) → IsWhole s → (number : ℕ) (bytes : List ℕ) (end : Type 0) (text : List ℕ) (done : List (AuditStep k.Own K)) (ys : List (SideStep k.Own)) → AreStepsOf k done ys
      → EndsIn (audit_lines k) (Run s) number bytes end text done → AllByRecursion HasTexts ys
  last_texts status.Done whole number bytes end text done ys are (did, is_end, told) = one_texts did.last done ys are did.only did.reads
  last_texts (status.Script line) whole number bytes end text done ys are (few, inl (is, none, told, bad)) = no_texts done ys are none
  last_texts (status.Script line) whole number bytes end text done ys are (few, inr (is, out)) = one_texts out.last done ys are out.only out.reads
  last_texts status.TooLong whole number bytes end text done ys are (inl (is, none, no_done, told)) = no_texts done ys are no_done
  last_texts status.TooLong whole number bytes end text done ys are (inr (is, out)) = one_texts out.last done ys are out.only out.reads
  last_texts status.Words whole number bytes end text done ys are is = absurd whole
  last_texts status.ReadFault whole number bytes end text done ys are is = absurd whole
  last_texts status.WriteFault whole number bytes end text done ys are is = absurd whole
  last_texts status.Memory whole number bytes end text done ys are is = absurd whole

  -- == the whole run ==

  module _ {V : Type 0} (view : K → V) (m : Model V) (s : Status) (whole : IsWhole s) (left0 left1 t0 t1 : Option (List ℕ)) (w0 w1 : AuditWorld K)
      (r : Replayed (audit_lines k) (Run s) (turns.Ended (DidAudit k view m) AuditLeaves (Run s) w0 w1) left0 left1 t0 t1) where
    none_ends : NoneEnds k r.trace
    none_ends = going k r.trace r.go_on

    none_last : NoneEnds k r.done
    none_last = last_goes s whole _ _ _ _ r.done r.ends

    -- what it read of the report
    abbrev pub report : List ℕ
    report = texts_of k (r.trace ++ r.done)

    pub read_report : Consumes w0.report w1.report report
    read_report = subst (λ (w : AuditWorld K). Consumes w0.report w.report report) (sym r.did.leaves)
        (took k w0 r.did.behind (r.trace ++ r.done) (both_go r.trace r.done none_ends none_last) r.did.did.took)

    pub may_have_done : (τ : Tariff) (H : Ledger) → IsOfTexts τ → History τ editions H → Sees w0.audit H
        → Replayed (side_lines k) (Run s) (MayHaveDone k τ H w0.rates w0.desk w1.desk w1.audit) left0 left1 (Some []) (Some report)
    may_have_done τ H texts history sees =
        let w = done_twice k τ (stop_fits view m τ) (IsSeenAt τ r.did.behind.audit r.did.behind.rates r.did.behind.desk) r.trace r.done none_ends none_last (world (place H w0.rates) w0.desk) (r.did.did.may τ H texts history sees) in
        let long = same_length k r.trace w.first w.are_first in
        record {
          trace = w.first;
          each = all_read k r.trace w.first w.are_first r.each;
          go_on = all_go_on k r.trace w.first w.are_first r.go_on;
          rest = r.rest;
          done = w.last;
          text = report_of (side_lines k) w.last;
          few = λ other. subst (λ (n : ℕ). n + 1 ≤ 1000000) (sym long) (r.few other);
          ends = subst (λ (n : ℕ). EndsIn (side_lines k) (Run s) (n + 1) r.rest (IsAtEnd left1) (report_of (side_lines k) w.last) w.last) (sym long)
              (ends_in s whole (length r.trace + 1) r.rest (IsAtEnd left1) r.text r.done w.last w.are_last r.ends);
          consumed = subst (λ (l : List ℕ). Consumes left0 left1 (l ++ r.rest)) (sym (same_script k r.trace w.first w.are_first)) r.consumed;
          appended = texts_both r.trace r.done
              ∙ ap (λ (l : List ℕ). l ++ texts_of k r.done) (sym (same_report k r.trace w.first w.are_first))
              ∙ ap (λ (l : List ℕ). report_of (side_lines k) w.first ++ l) (sym (same_report k r.done w.last w.are_last));
          did = done_so w;
        }
      where
        done_so : (w : DoneTwice k τ (IsSeenAt τ r.did.behind.audit r.did.behind.rates r.did.behind.desk) (world (place H w0.rates) w0.desk) r.trace r.done) → MayHaveDone k τ H w0.rates w0.desk w1.desk w1.audit (w.first ++ w.last)
        done_so w = record {
          behind = w.new.scene;
          does = subst (λ (x : World Place K). Does k (MayStep τ) (world (place H w0.rates) w0.desk) x (w.first ++ w.last))
              (ap (λ (d : K). world w.new.scene d) (w.that.desk ∙ sym (ap (λ (x : AuditWorld K). x.desk) r.did.leaves))) w.does;
          history = w.that.history;
          sees = subst (λ (x : AuditWorld K). Sees x.audit w.new.scene.ledger) (sym r.did.leaves) w.that.sees;
          texts = both_texts w.first w.last (all_texts k r.trace w.first w.are_first r.each) (last_texts s whole _ _ _ _ r.done w.last w.are_last r.ends);
        }

    -- the audit began after the runs before, and the report ended there
    pub may_have_run : (old : Audit) (rates : List ℕ) (report2 : Option (List ℕ)) → w0.rates ≡ rates → ((H : Ledger) → SeesBetween old H → Sees w0.audit (Begin ∷ H)) → Consumes w1.report report2 []
        → IsAtEnd report2 → MayHaveRun k s left0 left1 w0.report report2 rates w0.desk w1.desk old w1.audit
    may_have_run old rates report2 is begun more end = record {
      report = report;
      read = subst (λ (l : List ℕ). Consumes w0.report report2 l) (append-nil report) (Consumes-trans w0.report w1.report report2 report [] read_report more);
      all = end;
      run = λ τ H texts history between.
          subst (λ (l : List ℕ). Replayed (side_lines k) (Run s) (MayHaveDone k τ (Begin ∷ H) l w0.desk w1.desk w1.audit) left0 left1 (Some []) (Some report)) is
          (may_have_done τ (Begin ∷ H) texts (begins history) (begun H between));
    }

  pub whole_end : (end : Ending) → IsWhole (status_of end)
  whole_end ends.Done = tt
  whole_end (ends.Script line) = tt
  whole_end ends.TooLong = tt

  -- the script ended so, and the report with it
  pub may_have_ended : {V : Type 0} (view : K → V) (m : Model V) (end e : Ending) (left0 left1 t0 t1 : Option (List ℕ)) (w0 w1 : AuditWorld K)
      → Replayed (audit_lines k) (Run (status_of end)) (turns.Ended (DidAudit k view m) AuditLeaves (Run (status_of end)) w0 w1) left0 left1 t0 t1 → e ≡ end
      → (old : Audit) (rates : List ℕ) (report2 : Option (List ℕ)) → w0.rates ≡ rates → ((H : Ledger) → SeesBetween old H → Sees w0.audit (Begin ∷ H)) → Consumes w1.report report2 [] → IsAtEnd report2
      → MayHaveRun k (status_of e) left0 left1 w0.report report2 rates w0.desk w1.desk old w1.audit
  may_have_ended view m end e left0 left1 t0 t1 w0 w1 r is old rates report2 same begun more at_end =
      subst (λ (x : Ending). MayHaveRun k (status_of x) left0 left1 w0.report report2 rates w0.desk w1.desk old w1.audit) (sym is)
      (may_have_run view m (status_of end) (whole_end end) left0 left1 t0 t1 w0 w1 r old rates report2 same begun more at_end)
