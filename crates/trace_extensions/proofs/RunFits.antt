-- If a run fits to the end, the audit came to the end of its script with nothing left of the report, or its verdict leaves it is_open.
use Rattle.std.proofs.Common.{◌≡◌, ◌⊎◌, inl, inr, ℕ, ◌+◌, ◌<◌, ◌≤◌, List, [], ◌∷◌, ◌++◌, length, map, Option, Some, None, IfSome, refl, sym, ◌∙◌, ap, subst, arith, append_assoc, append-nil}
use Rattle.std.proofs.lemmas.List.{length-append, length-map}
use Rattle.std.proofs.lemmas.Option.{same_Some}
use Rattle.std.specs.Io.KnownBytes.{Consumes, IsAtEnd}
use Rattle.std.specs.List.{AllByRecursion}
use Rattle.bench_base.specs.declared.ledger.Entry.TheVariants.{Begin}
use Rattle.bench_base.specs.Ledger.{Ledger}
use Rattle.bench_base.specs.Rules.{editions}
use Rattle.bench_abstraction.specs.Tariff.{IsOfTexts}
use Rattle.ledger_moves.specs.Tariffs.{Tariff}
use Rattle.ledger_moves.specs.Histories.{History, begins}
use Rattle.line_runs.specs.Ends.{EndsAt, EndsAs, IsPassed, IsByScript}
use Rattle.line_runs.specs.Runs.{EndsIn, Replayed}
use Rattle.line_runs.specs.Trace.{Grammar, IsGrammar, Lines, FitsGrammar, Reads, report_of}
use Rattle.line_runs.specs.Turns as turns
use Rattle.line_runs.specs.declared.status.Status.{Status}
use Rattle.line_runs.specs.declared.status.Status.TheVariants as status
use Rattle.line_runs.specs.declared.{status.SideStatus.SideStatus, status.SideStatus.TheVariants.Run, status.SideStatus.TheVariants.Stopped}
use Rattle.line_runs.proofs.EndLaws.{exact_end, one_ending_of, all_passed}
use Rattle.line_extensions.specs.DeskLaws.{side_fits}
use Rattle.line_extensions.specs.Desks.{world, side_grammar, side_lines, Does}
use Rattle.line_extensions.specs.SideTrace.{SideStep, Plain, Own, Broken, side_line, side_text, SideIsEnd, SideGoesOn, IsBroken}
use Rattle.line_extensions.specs.Wants.{IsAlone}
use Rattle.line_extensions.specs.declared.extension.Extension.{Ghosts}
use Rattle.trace_bench.specs.Seeing.{Audit, Sees}
use Rattle.trace_runs.specs.Between.{SeesBetween}
use Rattle.trace_runs.specs.Verdicts.{status_of}
use Rattle.trace_runs.specs.declared.verdict.Ending.{Ending}
use Rattle.trace_runs.specs.declared.verdict.Ending.TheVariants as ends
use Rattle.trace_extensions.specs.declared.{papers.Reach.Reach, papers.SideVerdict.SideVerdict, papers.SideVerdict.TheVariants.Lawful}
use Rattle.trace_extensions.specs.AuditLaws.{audit_fits}
use Rattle.trace_extensions.specs.Exact.{IsMetIn}
use Rattle.trace_extensions.specs.Fits.{IsCutShort, IsOpen, HasTexts, MayDoAll, FitsSo, IsLeftSo, FitsIfLawful, LawfulIfFits}
use Rattle.trace_extensions.specs.Models.{Model, by_model, IsModelOf}
use Rattle.trace_extensions.specs.Places.{place, MayStep}
use Rattle.trace_extensions.specs.Steps.{AuditWorld, AuditStep, Passed, Heard, Begun, Ended, audit_line, audit_grammar, audit_lines, AuditIsOf, IsKnown, AuditEnds}
use Rattle.trace_extensions.specs.Steps as audit
use Rattle.trace_extensions.specs.Worlds.{AuditLeaves, DidAudit}
use Rattle.trace_extensions.specs.Sides.{MayHaveDone, MayHaveRun}
use Rattle.trace_extensions.proofs.ByModel.{all_texts_of, both_of, did_by_model, run_by_model}
use Rattle.trace_extensions.proofs.Covered.{Covers, same_front, longer_front, one_end, reaches, covers, last_follows}
use Rattle.trace_extensions.proofs.Ran.{IsWhole, last_goes, both_go, whole_end}
use Rattle.trace_extensions.proofs.Translated.{NoneEnds, going, took_split}
use Rattle.trace_extensions.proofs.Walked.{IsSound, early_open, walk, walk_past, EndedAt}

-- a run that came to the end of its script ends by it
pub by_script : (s : Status) → IsWhole s → IsByScript (Run s)
by_script status.Done whole = tt
by_script (status.Script n) whole = tt
by_script status.TooLong whole = tt
by_script status.Words whole = absurd whole
by_script status.ReadFault whole = absurd whole
by_script status.WriteFault whole = absurd whole
by_script status.Memory whole = absurd whole

-- how many lines a run has, by its end
module _ {D : Type 0} (l : Lines D) (fits : FitsGrammar l) where
  pub lines_by : (s : Status) → IsWhole s → (P : List D → Type 0) (script left : List ℕ) (t0 t1 : Option (List ℕ)) (r : Replayed l (Run s) P (Some script) (Some left) t0 t1)
      → (e : EndsAs l.grammar s script) → ((s ≡ status.Done → ⊥) → length (r.trace ++ r.done) ≡ length e.passed) × (s ≡ status.Done → length (r.trace ++ r.done) ≡ length e.passed + 1)
  lines_by status.Done whole P script left t0 t1 r e =
      let w = last_follows l P script t0 t1 (Run status.Done) left r r.ends.0 in
      let same = one_end l.grammar fits.grammar (map l.line_in r.trace) e.passed (l.line_in r.ends.0.last ∷ w.0) e.rest 1 (length e.passed + 1) (sym w.1 ∙ e.are) (all_passed l fits r.trace r.each r.go_on)
      e.each (omega arith, fits.ends r.ends.0.last r.ends.0.reads.is r.ends.1) e.last in
      let long : length (r.trace ++ r.done) ≡ length r.trace + 1 = length-append r.trace r.done ∙ ap (λ (x : List D). length r.trace + length x) r.ends.0.only in
      (λ other. absurd (other refl), λ is. omega (arith, long, same, length-map r.trace l.line_in))
  lines_by (status.Script n) whole P script left t0 t1 r e = (λ other. script_lines r.ends, λ is. absurd (cc (is)))
    where
      number : (rest : List (List ℕ)) → EndsAt l.grammar (status.Script n) (length e.passed + 1) rest → n ≡ length e.passed + 1
      number [] at = at.1
      number (line ∷ rest) at = at.1

      script_lines : EndsIn l (Run (status.Script n)) (length r.trace + 1) r.rest (left ≡ []) r.text r.done → length (r.trace ++ r.done) ≡ length e.passed
      script_lines (few, inl (is, none, told, bad)) =
          let at = number e.rest e.last in
          let long = length-append r.trace r.done in
          let zero : length r.done ≡ 0 = ap (λ (x : List D). length x) none in
          omega (arith, at, is, long, zero)
      script_lines (few, inr (is, out)) =
          let at = number e.rest e.last in
          let long = length-append r.trace r.done in
          let only : length r.done ≡ 1 = ap (λ (x : List D). length x) out.only in
          omega (arith, at, is, long, only)
  lines_by status.TooLong whole P script left t0 t1 r e = (λ other. too_many r.ends, λ is. absurd (cc (is)))
    where
      too_many : EndsIn l (Run status.TooLong) (length r.trace + 1) r.rest (left ≡ []) r.text r.done → length (r.trace ++ r.done) ≡ length e.passed
      too_many (inl (is, none, no_done, told)) =
          let long = length-append r.trace r.done in
          let zero : length r.done ≡ 0 = ap (λ (x : List D). length x) no_done in
          omega (arith, is, long, zero, e.last)
      too_many (inr (is, out)) =
          let long = length-append r.trace r.done in
          let only : length r.done ≡ 1 = ap (λ (x : List D). length x) out.only in
          omega (arith, is, long, only, e.last)
  lines_by status.Words whole P script left t0 t1 r e = absurd whole
  lines_by status.ReadFault whole P script left t0 t1 r e = absurd whole
  lines_by status.WriteFault whole P script left t0 t1 r e = absurd whole
  lines_by status.Memory whole P script left t0 t1 r e = absurd whole

-- two accounts of how a script ends have as many lines before the end
same_passed : (g : Grammar) → IsGrammar g → (s : Status) → IsWhole s → (script : List ℕ) (d e : EndsAs g s script) → length d.passed ≡ length e.passed
same_passed g is status.Done whole script d e = one_end g is d.passed e.passed d.rest e.rest (length d.passed + 1) (length e.passed + 1) (sym d.are ∙ e.are) d.each e.each d.last e.last
same_passed g is (status.Script n) whole script d e = let x = number d.rest (length d.passed + 1) d.last in let y = number e.rest (length e.passed + 1) e.last in omega (arith, x, y)
  where
    number : (rest : List (List ℕ)) (k : ℕ) → EndsAt g (status.Script n) k rest → n ≡ k
    number [] k at = at.1
    number (line ∷ rest) k at = at.1
same_passed g is status.TooLong whole script d e = omega (arith, d.last, e.last)
same_passed g is status.Words whole script d e = absurd whole
same_passed g is status.ReadFault whole script d e = absurd whole
same_passed g is status.WriteFault whole script d e = absurd whole
same_passed g is status.Memory whole script d e = absurd whole

-- it is done, or not
pub is_done : (s : Status) → (s ≡ status.Done) ⊎ (s ≡ status.Done → ⊥)
is_done status.Done = inl refl
is_done (status.Script n) = inr (λ is. cc (is))
is_done status.TooLong = inr (λ is. cc (is))
is_done status.Words = inr (λ is. cc (is))
is_done status.ReadFault = inr (λ is. cc (is))
is_done status.WriteFault = inr (λ is. cc (is))
is_done status.Memory = inr (λ is. cc (is))

module _ {K T : Type 0} (k : Ghosts K T) {V : Type 0} (view : K → V) (m : Model V) (modelled : IsModelOf k view m) (alone : (own : k.Own) (line : List ℕ) → k.IsOwn own line → IsAlone line) where
  -- == the lines of both are the same ==

  abbrev pub gM : Grammar
  gM = side_grammar (by_model m)

  pub fits_model : FitsGrammar (side_lines (by_model m))
  fits_model = side_fits (by_model m) (λ own line is. let w = (modelled.own line).0 is.1 in alone w.0 line w.1)

  as_passed : (line : List ℕ) → IsPassed (audit_grammar k) line → IsPassed gM line
  as_passed line (short, inl passing) = (short, inl passing)
  as_passed line (short, inr own) = (short, inr (line, (refl, (modelled.own line).1 own)))

  pub all_as : (lines : List (List ℕ)) → AllByRecursion (IsPassed (audit_grammar k)) lines → AllByRecursion (IsPassed gM) lines
  all_as [] each = tt
  all_as (line ∷ lines) each = (as_passed line each.0, all_as lines each.1)

  as_bad : (line : List ℕ) → (audit_grammar k).IsBad line → gM.IsBad line
  as_bad line bad = (bad.0, λ own is. let w = (modelled.own line).0 is.1 in bad.1 w.0 w.1)

  pub ends_at : (s : Status) (n : ℕ) (rest : List (List ℕ)) → EndsAt (audit_grammar k) s n rest → EndsAt gM s n rest
  ends_at status.Done n [] at = at
  ends_at status.Done n (line ∷ rest) at = at
  ends_at (status.Script x) n [] at = at
  ends_at (status.Script x) n (line ∷ rest) (inside, is, inl long) = (inside, is, inl long)
  ends_at (status.Script x) n (line ∷ rest) (inside, is, inr bad) = (inside, is, inr (as_bad line bad))
  ends_at status.TooLong n rest at = at
  ends_at status.Words n rest at = at
  ends_at status.ReadFault n rest at = at
  ends_at status.WriteFault n rest at = at
  ends_at status.Memory n rest at = at

  abbrev pub ends_as : (s : Status) (script : List ℕ) → EndsAs (audit_grammar k) s script → EndsAs gM s script
  ends_as s script e = record { passed = e.passed; rest = e.rest; are = e.are; each = all_as e.passed e.each; last = ends_at s (length e.passed + 1) e.rest e.last }

  -- a line of an event or an own one is not bad
  known_fine : (line : List ℕ) → IsKnown k.IsOwn line → gM.IsBad line → ⊥
  known_fine line (inl e) bad = bad.0.no_event e.0 e.1
  known_fine line (inr own) bad = bad.1 line (refl, (modelled.own line).1 own)

  -- == the run that fits ==

  -- its steps
  pub goes_whole : (b : SideStep (List ℕ)) → SideGoesOn b → IsBroken b → ⊥
  goes_whole (Plain d) goes broken = broken
  goes_whole (Own line own steps texts) goes broken = broken
  goes_whole (Broken line own steps) goes broken = goes

  end_whole : (b : SideStep (List ℕ)) → SideIsEnd b → IsBroken b → ⊥
  end_whole (Plain d) end broken = broken
  end_whole (Own line own steps texts) end broken = broken
  end_whole (Broken line own steps) end broken = end

  sound_trace : (ys zs : List (SideStep (List ℕ))) → AllByRecursion (Reads (side_lines (by_model m))) ys → AllByRecursion (side_lines (by_model m)).GoesOn ys → AllByRecursion HasTexts (ys ++ zs)
      → (AllByRecursion HasTexts zs → AllByRecursion (IsSound k view m) zs) → AllByRecursion (IsSound k view m) (ys ++ zs)
  sound_trace [] zs each goes texts rest = rest texts
  sound_trace (b ∷ ys) zs each goes texts rest = (record { is = each.0.is; whole = goes_whole b goes.0; texts = texts.0 }, sound_trace ys zs each.1 goes.1 texts.1 rest)

  one_sound : (b : SideStep (List ℕ)) (zs : List (SideStep (List ℕ))) → zs ≡ b ∷ [] → Reads (side_lines (by_model m)) b → (IsBroken b → ⊥) → AllByRecursion HasTexts zs → AllByRecursion (IsSound k view m) zs
  one_sound b zs only reads whole texts =
      subst (λ (l : List (SideStep (List ℕ))). AllByRecursion (IsSound k view m) l) (sym only)
      (record { is = reads.is; whole = whole; texts = (subst (λ (l : List (SideStep (List ℕ))). AllByRecursion HasTexts l) only texts).0 }, tt)

  no_sound : (zs : List (SideStep (List ℕ))) → zs ≡ [] → AllByRecursion (IsSound k view m) zs
  no_sound zs none = subst (λ (l : List (SideStep (List ℕ))). AllByRecursion (IsSound k view m) l) (sym none) tt

  last_sound : (s : Status) → IsWhole s → (number : ℕ) (bytes : List ℕ) (end : Type 0) (text : List ℕ) (zs : List (SideStep (List ℕ))) → EndsIn (side_lines (by_model m)) (Run s) number bytes end text zs → AllByRecursion HasTexts zs
      → AllByRecursion (IsSound k view m) zs
  last_sound status.Done whole number bytes end text zs (did, is_end, told) texts = one_sound did.last zs did.only did.reads (end_whole did.last is_end) texts
  last_sound (status.Script n) whole number bytes end text zs (few, inl (is, none, told, bad)) texts = no_sound zs none
  last_sound (status.Script n) whole number bytes end text zs (few, inr (is, out)) texts = one_sound out.last zs out.only out.reads (goes_whole out.last out.goes_on) texts
  last_sound status.TooLong whole number bytes end text zs (inl (is, none, no_done, told)) texts = no_sound zs no_done
  last_sound status.TooLong whole number bytes end text zs (inr (is, out)) texts = one_sound out.last zs out.only out.reads (goes_whole out.last out.goes_on) texts
  last_sound status.Words whole number bytes end text zs ends texts = absurd whole
  last_sound status.ReadFault whole number bytes end text zs ends texts = absurd whole
  last_sound status.WriteFault whole number bytes end text zs ends texts = absurd whole
  last_sound status.Memory whole number bytes end text zs ends texts = absurd whole

  one_text : (b : SideStep (List ℕ)) (zs : List (SideStep (List ℕ))) → zs ≡ b ∷ [] → side_text b ≡ report_of (side_lines (by_model m)) zs
  one_text b zs is = sym (append-nil (side_text b)) ∙ ap (λ (l : List (SideStep (List ℕ))). report_of (side_lines (by_model m)) l) (sym is)

  texts_both : (ys zs : List (SideStep (List ℕ))) → report_of (side_lines (by_model m)) (ys ++ zs) ≡ report_of (side_lines (by_model m)) ys ++ report_of (side_lines (by_model m)) zs
  texts_both [] zs = refl
  texts_both (b ∷ ys) zs =
      ap (λ (l : List ℕ). side_text b ++ l) (texts_both ys zs) ∙ sym (append_assoc (side_text b) (report_of (side_lines (by_model m)) ys) (report_of (side_lines (by_model m)) zs))

  -- its texts are the report
  text_is : (s : Status) → IsWhole s → (number : ℕ) (bytes : List ℕ) (end : Type 0) (text : List ℕ) (zs : List (SideStep (List ℕ))) → EndsIn (side_lines (by_model m)) (Run s) number bytes end text zs
      → text ≡ report_of (side_lines (by_model m)) zs
  text_is status.Done whole number bytes end text zs (did, is_end, told) = told ∙ one_text did.last zs did.only
  text_is (status.Script n) whole number bytes end text zs (few, inl (is, none, told, bad)) = told ∙ ap (λ (l : List (SideStep (List ℕ))). report_of (side_lines (by_model m)) l) (sym none)
  text_is (status.Script n) whole number bytes end text zs (few, inr (is, out)) = out.told ∙ one_text out.last zs out.only
  text_is status.TooLong whole number bytes end text zs (inl (is, none, no_done, told)) = told ∙ ap (λ (l : List (SideStep (List ℕ))). report_of (side_lines (by_model m)) l) (sym no_done)
  text_is status.TooLong whole number bytes end text zs (inr (is, out)) = out.told ∙ one_text out.last zs out.only
  text_is status.Words whole number bytes end text zs ends = absurd whole
  text_is status.ReadFault whole number bytes end text zs ends = absurd whole
  text_is status.WriteFault whole number bytes end text zs ends = absurd whole
  text_is status.Memory whole number bytes end text zs ends = absurd whole

  -- == side by side ==

  module _ (τ : Tariff) (H : Ledger) (script report rates : List ℕ) (s : Status) (whole : IsWhole s) (v : V) (f : FitsSo m τ H script report rates v s) where
    abbrev ys : List (SideStep (List ℕ))
    ys = f.run.trace ++ f.run.done

    sound : AllByRecursion (IsSound k view m) ys
    sound = sound_trace f.run.trace f.run.done f.run.each f.run.go_on f.run.did.texts (last_sound s whole _ _ _ f.run.text f.run.done f.run.ends)

    report_is : report ≡ report_of (side_lines (by_model m)) ys ++ []
    report_is =
        f.run.appended ∙ ap (λ (l : List ℕ). report_of (side_lines (by_model m)) f.run.trace ++ l) (text_is s whole _ _ _ f.run.text f.run.done f.run.ends)
        ∙ sym (texts_both f.run.trace f.run.done) ∙ sym (append-nil (report_of (side_lines (by_model m)) ys))

    abbrev their_end : EndsAs gM s script
    their_end = (exact_end (side_lines (by_model m)) fits_model (Run s) (MayDoAll m τ H rates v) (Some script) (Some f.left) (Some []) (Some report) f.run (by_script s whole) s).0 refl

    -- how many lines it has
    counts : ((s ≡ status.Done → ⊥) → length ys ≡ length their_end.passed) × (s ≡ status.Done → length ys ≡ length their_end.passed + 1)
    counts = lines_by (side_lines (by_model m)) fits_model s whole (MayDoAll m τ H rates v) script f.left (Some []) (Some report) f.run their_end

    at_least : length their_end.passed ≤ length ys
    at_least = elim (is_done s) [
      | inl done ↦ let w = counts.1 done in omega (arith, w)
      | inr other ↦ let w = counts.0 other in omega (arith, w)
    ]

    their_lines : Covers (side_lines (by_model m)) script (map side_line ys)
    their_lines = covers (side_lines (by_model m)) (MayDoAll m τ H rates v) script (Some []) (Some report) s whole f.left f.run

    -- an audit of the same script and report, at this ledger
    module _ (texts : IsOfTexts τ) (history : History τ editions H) (left : List ℕ) (t0 t1 : Option (List ℕ)) (w0 w1 : AuditWorld K) (sees : Sees w0.audit H) (same_rates : w0.rates ≡ rates) (same_view : view w0.desk ≡ v) (same_report : w0.report ≡ Some report) where
      does : Does (by_model m) (MayStep τ) (world (place H w0.rates) (view w0.desk)) f.run.did.behind ys
      does = subst (λ (x : V). Does (by_model m) (MayStep τ) (world (place H w0.rates) x) f.run.did.behind ys) (sym same_view)
          (subst (λ (x : List ℕ). Does (by_model m) (MayStep τ) (world (place H x) v) f.run.did.behind ys) (sym same_rates) f.run.did.does)

      -- it came to an end of the script, which is the same
      same_end : (e : Status) → IsWhole e → Replayed (audit_lines k) (Run e) (turns.Ended (DidAudit k view m) AuditLeaves (Run e) w0 w1) (Some script) (Some left) t0 t1 → e ≡ s
      same_end e ended r =
          one_ending_of gM fits_model.grammar e s script
          (ends_as e script ((exact_end (audit_lines k) (audit_fits k alone) (Run e) (turns.Ended (DidAudit k view m) AuditLeaves (Run e) w0 w1) (Some script) (Some left) t0 t1 r (by_script e ended) e).0 refl)) their_end

      module _ (r : Replayed (audit_lines k) (Run s) (turns.Ended (DidAudit k view m) AuditLeaves (Run s) w0 w1) (Some script) (Some left) t0 t1) where
        abbrev xs : List (AuditStep k.Own K)
        xs = r.trace ++ r.done

        pub none_ends : NoneEnds k xs
        none_ends = both_go k r.trace r.done (going k r.trace r.go_on) (last_goes k s whole _ _ _ _ r.done r.ends)

        -- as many lines
        same_length : length xs ≡ length ys
        same_length =
            let ours = (exact_end (audit_lines k) (audit_fits k alone) (Run s) (turns.Ended (DidAudit k view m) AuditLeaves (Run s) w0 w1) (Some script) (Some left) t0 t1 r (by_script s whole) s).0 refl in
            let same = same_passed gM fits_model.grammar s whole script (ends_as s script ours) their_end in
            let mine = lines_by (audit_lines k) (audit_fits k alone) s whole (turns.Ended (DidAudit k view m) AuditLeaves (Run s) w0 w1) script left t0 t1 r ours in
            elim (is_done s) [
              | inl done ↦ let x = mine.1 done in let y = counts.1 done in omega (arith, same, x, y)
              | inr other ↦ let x = mine.0 other in let y = counts.0 other in omega (arith, same, x, y)
            ]

        lines : map audit_line xs ≡ map side_line ys
        lines =
            let ours = covers (audit_lines k) (turns.Ended (DidAudit k view m) AuditLeaves (Run s) w0 w1) script t0 t1 s whole left r in
            same_front (map audit_line xs) (map side_line ys) ours.more their_lines.more (sym ours.are ∙ their_lines.are) (length-map xs (λ d. audit_line d) ∙ same_length ∙ sym (length-map ys (λ b. side_line b)))

        nothing_left : (w1.report ≡ Some []) × IsLeftSo τ w1.audit (view w1.desk) f.run.did.behind
        nothing_left =
            let met = walk k view m τ (IsMetIn view τ r.did.behind) xs ys (world (place H w0.rates) (view w0.desk)) f.run.did.behind w0.report [] lines none_ends sound does
            (same_report ∙ ap (λ (l : List ℕ). Some l) report_is) (r.did.did.only τ H texts history sees) in (
              ap (λ (w : AuditWorld K). w.report) r.did.leaves ∙ met.1,
              subst (λ (w : AuditWorld K). IsLeftSo τ w.audit (view w.desk) f.run.did.behind) (sym r.did.leaves) (record { history = met.0.history; sees = met.0.sees; kept = met.0.kept }),
            )

      -- it ended at a line
      module _ (r : Replayed (audit_lines k) Stopped (turns.Ended (DidAudit k view m) AuditLeaves Stopped w0 w1) (Some script) (Some left) t0 t1) where
        abbrev last : AuditStep k.Own K
        last = r.ends.0.last

        with_last : DidAudit k view m w0 r.did.behind (r.trace ++ last ∷ [])
        with_last = subst (λ (d : List (AuditStep k.Own K)). DidAudit k view m w0 r.did.behind (r.trace ++ d)) r.ends.0.only r.did.did

        -- the verdict there leaves it open
        abbrev OpenAt : AuditStep k.Own K → Type 0
        OpenAt (Passed line) = ⊥
        OpenAt (Heard line e answer) = ⊥
        OpenAt (audit.Own line own texts) = ⊥
        OpenAt (Begun line told at) = IsOpen at.reach at.verdict
        OpenAt (Ended line at) = IsOpen at.reach at.verdict

        open_early : (d : AuditStep k.Own K) → EndedAt k view m τ (IsMetIn view τ r.did.behind) d → OpenAt d
        open_early (Passed line) early = early
        open_early (Heard line e answer) early = early
        open_early (audit.Own line own texts) early = early
        open_early (Begun line told at) early = early_open at.reach at.verdict early
        open_early (Ended line at) early = early_open at.reach at.verdict early

        -- what it left there
        left_there : (d : AuditStep k.Own K) → AuditEnds d → DidAudit k view m w0 r.did.behind (r.trace ++ d ∷ []) → OpenAt d → IsOpen w1.reach w1.verdict
        left_there (Passed line) ends did is_open = absurd ends
        left_there (Heard line e answer) ends did is_open = absurd ends
        left_there (audit.Own line own texts) ends did is_open = absurd ends
        left_there (Begun line told at) ends did is_open =
            let split = took_split k w0 r.did.behind r.trace (Begun line told at ∷ []) did.took in
            subst (λ (w : AuditWorld K). IsOpen w.reach w.verdict) (sym (r.did.leaves ∙ split.2.2)) is_open
        left_there (Ended line at) ends did is_open =
            let split = took_split k w0 r.did.behind r.trace (Ended line at ∷ []) did.took in
            subst (λ (w : AuditWorld K). IsOpen w.reach w.verdict) (sym (r.did.leaves ∙ split.2)) is_open

        pub past : (more : List (List ℕ)) → map audit_line r.trace ++ (audit_line last ∷ more) ≡ map side_line ys → IsOpen w1.reach w1.verdict
        past more lines = left_there last r.ends.1 with_last (open_early last
            (walk_past k view m τ (IsMetIn view τ r.did.behind) r.trace last more ys (world (place H w0.rates) (view w0.desk)) f.run.did.behind w0.report [] lines (going k r.trace r.go_on) r.ends.1 sound does
            (same_report ∙ ap (λ (l : List ℕ). Some l) report_is) (with_last.only τ H texts history sees)))

        -- the verdict leaves it is_open, or the line is known
        open_or_known : (d : AuditStep k.Own K) → AuditEnds d → AuditIsOf k.IsOwn d → OpenAt d ⊎ IsKnown k.IsOwn (audit_line d)
        open_or_known (Passed line) ends is = absurd ends
        open_or_known (Heard line e answer) ends is = absurd ends
        open_or_known (audit.Own line own texts) ends is = absurd ends
        open_or_known (Begun line told at) ends is = is.1
        open_or_known (Ended line at) ends is = is.1

        pub at_last : (IsKnown k.IsOwn (audit_line last) → IsOpen w1.reach w1.verdict) → IsOpen w1.reach w1.verdict
        at_last known = elim (open_or_known last r.ends.1 r.ends.0.reads.is) [
          | inl is_open ↦ left_there last r.ends.1 with_last is_open
          | inr is ↦ known is
        ]

        -- the run that fits has that line
        goes_past : IsKnown k.IsOwn (audit_line last) → IsOpen w1.reach w1.verdict
        goes_past is_known =
            let w = last_follows (audit_lines k) (turns.Ended (DidAudit k view m) AuditLeaves Stopped w0 w1) script t0 t1 Stopped left r r.ends.0 in
            let a : List (List ℕ) = map audit_line r.trace in
            let same_length : length a ≡ length r.trace = length-map r.trace (λ d. audit_line d) in
            let few = r.few (λ is. absurd (cc is)) in
            let reach = reaches gM fits_model.grammar s a (audit_line last) w.0 their_end.passed their_end.rest 0 (sym w.1 ∙ their_end.are) (all_as a (all_passed (audit_lines k) (audit_fits k alone) r.trace r.each r.go_on))
            r.ends.0.reads.short (known_fine (audit_line last) is_known) (omega (arith, few, same_length)) (subst (λ (n : ℕ). EndsAt gM s n their_end.rest) (omega arith) their_end.last) in
            let long = by_reach a reach in
            let front = longer_front (a ++ audit_line last ∷ []) (map side_line ys) w.0 their_lines.more
            (append_assoc a (audit_line last ∷ []) w.0 ∙ sym w.1 ∙ their_lines.are) (omega (arith, long, length-append a (audit_line last ∷ []), length-map ys (λ b. side_line b))) in
            past front.0 (sym (append_assoc a (audit_line last ∷ []) front.0) ∙ front.1)
          where
            by_reach : (a : List (List ℕ)) → (length a < length their_end.passed) ⊎ ((s ≡ status.Done) × (length a ≡ length their_end.passed)) → length a + 1 ≤ length ys
            by_reach a (inl fewer) = omega (arith, fewer, at_least)
            by_reach a (inr done) = let w = counts.1 done.0 in omega (arith, w, done.1)

        pub stopped_open : IsOpen w1.reach w1.verdict
        stopped_open = elim (open_or_known last r.ends.1 r.ends.0.reads.is) [
          | inl is_open ↦ left_there last r.ends.1 with_last is_open
          | inr is ↦ goes_past is
        ]

  -- == what is said of the run ==

  -- what the auditor had as the run began
  pub record Beginning (τ : Tariff) (H : Ledger) (script report rates : List ℕ) (v : V) (w0 : AuditWorld K) : Type 0 where
    pub texts : IsOfTexts τ
    pub history : History τ editions H
    pub sees : Sees w0.audit H
    pub rates_are : w0.rates ≡ rates
    pub view_is : view w0.desk ≡ v
    pub report_is : w0.report ≡ Some report

  -- the audit came to an end of the script
  pub whole_audit : (τ : Tariff) (H : Ledger) (script report rates : List ℕ) (s : Status) (whole : IsWhole s) (v : V) (w0 w1 : AuditWorld K) (left t0 t1 : Option (List ℕ)) → (f : FitsSo m τ H script report rates v s)
      → Beginning τ H script report rates v w0 → (e : Status) → IsWhole e → Replayed (audit_lines k) (Run e) (turns.Ended (DidAudit k view m) AuditLeaves (Run e) w0 w1) (Some script) left t0 t1
      → (e ≡ s) × (w1.report ≡ Some []) × IsLeftSo τ w1.audit (view w1.desk) f.run.did.behind
  whole_audit τ H script report rates s whole v w0 w1 None t0 t1 f b e ended r = absurd r.consumed
  whole_audit τ H script report rates s whole v w0 w1 (Some left) t0 t1 f b e ended r =
      let is = same_end τ H script report rates s whole v f b.texts b.history left t0 t1 w0 w1 b.sees b.rates_are b.view_is b.report_is e ended r in
      let none = nothing_left τ H script report rates s whole v f b.texts b.history left t0 t1 w0 w1 b.sees b.rates_are b.view_is b.report_is
      (subst (λ (x : Status). Replayed (audit_lines k) (Run x) (turns.Ended (DidAudit k view m) AuditLeaves (Run x) w0 w1) (Some script) (Some left) t0 t1) is r) in
      (is, none.0, none.1)

  -- it ended at a line
  pub stopped_audit : (τ : Tariff) (H : Ledger) (script report rates : List ℕ) (s : Status) (whole : IsWhole s) (v : V) (w0 w1 : AuditWorld K) (left t0 t1 : Option (List ℕ)) → FitsSo m τ H script report rates v s
      → Beginning τ H script report rates v w0 → Replayed (audit_lines k) Stopped (turns.Ended (DidAudit k view m) AuditLeaves Stopped w0 w1) (Some script) left t0 t1 → IsOpen w1.reach w1.verdict
  stopped_audit τ H script report rates s whole v w0 w1 None t0 t1 f b r = absurd r.consumed
  stopped_audit τ H script report rates s whole v w0 w1 (Some left) t0 t1 f b r =
      stopped_open τ H script report rates s whole v f b.texts b.history left t0 t1 w0 w1 b.sees b.rates_are b.view_is b.report_is r

  -- == by what is known of the sources ==

  pub if_known : (a b : Option (List ℕ)) (P : List ℕ → List ℕ → Type 0) → ((x y : List ℕ) → a ≡ Some x → b ≡ Some y → P x y) → IfSome a (λ x. IfSome b (λ y. P x y))
  if_known None b P each = tt
  if_known (Some x) None P each = tt
  if_known (Some x) (Some y) P each = each x y refl refl

  same_ending : (x y : Ending) → status_of x ≡ status_of y → x ≡ y
  same_ending ends.Done ends.Done is = refl
  same_ending ends.Done (ends.Script n) is = absurd (cc (is))
  same_ending ends.Done ends.TooLong is = absurd (cc (is))
  same_ending (ends.Script n) ends.Done is = absurd (cc (is))
  same_ending (ends.Script n) (ends.Script j) is = cc (is)
  same_ending (ends.Script n) ends.TooLong is = absurd (cc (is))
  same_ending ends.TooLong ends.Done is = absurd (cc (is))
  same_ending ends.TooLong (ends.Script n) is = absurd (cc (is))
  same_ending ends.TooLong ends.TooLong is = refl

  -- the reach is the one that was given
  pub reach_kept : {outcome : SideStatus} {w0 w1 : AuditWorld K} {d : List (AuditStep k.Own K)} → turns.Ended (DidAudit k view m) AuditLeaves outcome w0 w1 d → w1.reach ≡ w0.reach
  reach_kept ended = ap (λ (w : AuditWorld K). w.reach) ended.leaves ∙ ended.did.reach

  as_said : (w0 w1 : AuditWorld K) (verdict : SideVerdict) → w1.reach ≡ w0.reach → (verdict ≡ w1.verdict) ⊎ IsCutShort verdict → IsOpen w1.reach w1.verdict → IsOpen w0.reach verdict
  as_said w0 w1 verdict reach (inl same) is_open = subst (λ (v : SideVerdict). IsOpen w0.reach v) (sym same) (subst (λ (r : Option Reach). IsOpen r w1.verdict) reach is_open)
  as_said w0 w1 verdict reach (inr cut) is_open = inl cut

  pub complete_open : (script report : Option (List ℕ)) (rates : List ℕ) (v w : V) (old audit : Audit) (verdict : SideVerdict) (reach : Option Reach) → IsCutShort verdict → LawfulIfFits m script report rates v w old audit verdict reach
  complete_open script report rates v w old audit verdict reach cut = if_known script report _ (λ text told script_is report_is end τ H texts history between fits. inr (inl cut))

  module _ (left0 left1 t0 t1 : Option (List ℕ)) (w0 w1 : AuditWorld K) (old : Audit) (rates : List ℕ) (same : w0.rates ≡ rates) (begun : (H : Ledger) → SeesBetween old H → Sees w0.audit (Begin ∷ H)) (verdict : SideVerdict) where
    beginning : (τ : Tariff) (H : Ledger) (script report : List ℕ) → IsOfTexts τ → History τ editions H → SeesBetween old H → w0.report ≡ Some report → Beginning τ (Begin ∷ H) script report rates (view w0.desk) w0
    beginning τ H script report texts history between is = record { texts = texts; history = begins history; sees = begun H between; rates_are = same; view_is = refl; report_is = is }

    pub complete_whole : (x : Ending) → Replayed (audit_lines k) (Run (status_of x)) (turns.Ended (DidAudit k view m) AuditLeaves (Run (status_of x)) w0 w1) left0 left1 t0 t1 → (w1.report ≡ Some [] → (verdict ≡ Lawful x) ⊎ IsCutShort verdict)
        → LawfulIfFits m left0 w0.report rates (view w0.desk) (view w1.desk) old w1.audit verdict w0.reach
    complete_whole x r over = if_known left0 w0.report _ (λ script report script_is report_is end τ H texts history between fits.
        let so = whole_audit τ (Begin ∷ H) script report rates (status_of end) (whole_end k end) (view w0.desk) w0 w1 left1 t0 t1 fits (beginning τ H script report texts history between report_is) (status_of x) (whole_end k x)
        (subst (λ (o : Option (List ℕ)). Replayed (audit_lines k) (Run (status_of x)) (turns.Ended (DidAudit k view m) AuditLeaves (Run (status_of x)) w0 w1) o left1 t0 t1) script_is r) in
        elim (over so.1) [
          | inl is ↦ inl (is ∙ ap (λ (y : Ending). Lawful y) (same_ending x end so.0), so.2)
          | inr cut ↦ inr (inl cut)
        ])

    pub complete_stopped : Replayed (audit_lines k) Stopped (turns.Ended (DidAudit k view m) AuditLeaves Stopped w0 w1) left0 left1 t0 t1 → (verdict ≡ w1.verdict) ⊎ IsCutShort verdict → LawfulIfFits m left0 w0.report rates (view w0.desk) (view w1.desk) old w1.audit verdict w0.reach
    complete_stopped r only = if_known left0 w0.report _ (λ script report script_is report_is end τ H texts history between fits.
        inr (as_said w0 w1 verdict (reach_kept r.did) only (stopped_audit τ (Begin ∷ H) script report rates (status_of end) (whole_end k end) (view w0.desk) w0 w1 left1 t0 t1 fits (beginning τ H script report texts history between report_is)
        (subst (λ (o : Option (List ℕ)). Replayed (audit_lines k) Stopped (turns.Ended (DidAudit k view m) AuditLeaves Stopped w0 w1) o left1 t0 t1) script_is r))))

  -- a run that is lawful fits
  at_end : (a b : Option (List ℕ)) (bytes all : List ℕ) → Consumes a b bytes → IsAtEnd b → a ≡ Some all → bytes ≡ all
  at_end None b bytes all took end is = absurd (cc (is))
  at_end (Some x) None bytes all took end is = absurd took
  at_end (Some x) (Some left) bytes all took end is = sym (append-nil bytes) ∙ ap (λ (l : List ℕ). bytes ++ l) (sym end) ∙ sym took ∙ same_Some x all is

  fitted : (end : Ending) (script report rates : List ℕ) (left1 : Option (List ℕ)) (desk0 desk1 : K) (new : Audit) (τ : Tariff) (H : Ledger)
      → Replayed (side_lines k) (Run (status_of end)) (MayHaveDone k τ H rates desk0 desk1 new) (Some script) left1 (Some []) (Some report)
      → (fits : FitsSo m τ H script report rates (view desk0) (status_of end)) × IsLeftSo τ new (view desk1) fits.run.did.behind
  unfolding run_by_model
  fitted end script report rates None desk0 desk1 new τ H r = absurd r.consumed
  fitted end script report rates (Some left) desk0 desk1 new τ H r =
      let run = run_by_model k view m modelled (status_of end) (whole_end k end) (MayHaveDone k τ H rates desk0 desk1 new) (MayDoAll m τ H rates (view desk0)) (Some script) (Some left) (Some []) (Some report) r
      (λ d. record {
        behind = world d.behind (view desk1);
        does = did_by_model k view m modelled (MayStep τ) (status_of end) (whole_end k end) (world (place H rates) desk0) (world d.behind desk1) r.trace r.done (length r.trace + 1) r.rest (left ≡ []) r.text r.each r.go_on r.ends d.does;
        texts = subst (λ (l : List (SideStep (List ℕ))). AllByRecursion HasTexts l) (both_of k view m modelled r.trace r.done) (all_texts_of k view m modelled (r.trace ++ r.done) d.texts);
      }) in (
        record { left = left; run = run },
        record { history = r.did.history; sees = r.did.sees; kept = refl },
      )

  pub fitting : (script report : Option (List ℕ)) (left1 report1 : Option (List ℕ)) (rates : List ℕ) (desk0 desk1 : K) (old new : Audit) (verdict : SideVerdict)
      → ((end : Ending) → verdict ≡ Lawful end → MayHaveRun k (status_of end) script left1 report report1 rates desk0 desk1 old new) → FitsIfLawful m script report rates (view desk0) (view desk1) old new verdict
  fitting script report left1 report1 rates desk0 desk1 old new verdict sound = if_known script report _ (λ text told script_is report_is end lawful τ H texts history between.
      let run = sound end lawful in
      let same = at_end report report1 run.report told run.read run.all report_is in
      fitted end text told rates left1 desk0 desk1 new τ (Begin ∷ H)
      (subst (λ (o : Option (List ℕ)). Replayed (side_lines k) (Run (status_of end)) (MayHaveDone k τ (Begin ∷ H) rates desk0 desk1 new) o left1 (Some []) (Some told)) script_is
      (subst (λ (l : List ℕ). Replayed (side_lines k) (Run (status_of end)) (MayHaveDone k τ (Begin ∷ H) rates desk0 desk1 new) script left1 (Some []) (Some l)) same (run.run τ H texts history between))))

  pub never_lawful : (script report : Option (List ℕ)) (rates : List ℕ) (v w : V) (old new : Audit) (verdict : SideVerdict) → ((end : Ending) → verdict ≡ Lawful end → ⊥) → FitsIfLawful m script report rates v w old new verdict
  never_lawful script report rates v w old new verdict never = if_known script report _ (λ text told script_is report_is end lawful τ H texts history between. absurd (never end lawful))
