-- If a run may have been stopped, the audit says so.
use Rattle.std.proofs.Common.{◌≡◌, ◌⊎◌, inl, inr, ℕ, ◌+◌, ◌<◌, ◌≤◌, List, [], ◌∷◌, ◌++◌, length, map, Option, Some, None, refl, sym, ◌∙◌, ap, subst, arith, append_assoc}
use Rattle.std.proofs.lemmas.Bool.{cases_lt}
use Rattle.std.proofs.lemmas.List.{length-append, length-map}
use Rattle.std.specs.List.{AllByRecursion}
use Rattle.bench_base.specs.declared.ledger.Entry.TheVariants.{Begin}
use Rattle.bench_base.specs.Ledger.{Ledger}
use Rattle.bench_base.specs.Rules.{editions}
use Rattle.bench_abstraction.specs.Tariff.{IsOfTexts}
use Rattle.ledger_moves.specs.Tariffs.{Tariff}
use Rattle.ledger_moves.specs.Histories.{History, begins}
use Rattle.line_runs.specs.Ends.{EndsAt, lines_of}
use Rattle.line_runs.specs.Runs.{Replayed}
use Rattle.line_runs.specs.Trace.{Reads}
use Rattle.line_runs.specs.Turns as turns
use Rattle.line_runs.specs.declared.status.Status.{Status}
use Rattle.line_runs.specs.declared.status.Status.TheVariants as status
use Rattle.line_runs.specs.declared.{status.SideStatus.TheVariants.Run, status.SideStatus.TheVariants.Stopped}
use Rattle.line_runs.proofs.EndLaws.{exact_end, all_passed}
use Rattle.line_extensions.specs.Desks.{World, world, side_grammar, side_lines, Does}
use Rattle.line_extensions.specs.SideTrace.{SideStep, side_line}
use Rattle.line_extensions.specs.Wants.{IsAlone}
use Rattle.line_extensions.specs.declared.extension.Extension.{Ghosts}
use Rattle.trace_bench.specs.Seeing.{Audit, Sees}
use Rattle.trace_runs.specs.Between.{SeesBetween}
use Rattle.trace_runs.specs.Fitting.{AtSeen}
use Rattle.trace_extensions.specs.AuditLaws.{audit_fits}
use Rattle.trace_extensions.specs.Exact.{Only, IsMetIn}
use Rattle.trace_extensions.specs.Fits.{AtKnown, IsCutShort, HasTexts}
use Rattle.trace_extensions.specs.FitsStopped.{AgreedStop, EventStopped, OwnStopped, not_begun, all_of_it, part_of_it, FitsStopped, TellsStop, TellsOwnStop, StoppedIfFits, StoppedInOwnIfFits}
use Rattle.trace_extensions.specs.Models.{Model, by_model, IsModelOf}
use Rattle.trace_extensions.specs.Places.{Place, place, MayStep}
use Rattle.trace_extensions.specs.Steps.{AuditWorld, AuditStep, Passed, Heard, Begun, Ended, audit_line, audit_lines, AuditEnds}
use Rattle.trace_extensions.specs.Steps as audit
use Rattle.trace_extensions.specs.Worlds.{AuditLeaves, DidAudit}
use Rattle.trace_extensions.specs.declared.{papers.Reach.Reach, papers.SideVerdict.SideVerdict}
use Rattle.trace_extensions.proofs.Covered.{same_front, longer_front, reaches, covers, last_follows}
use Rattle.trace_extensions.proofs.Ran.{IsWhole, last_goes, both_go}
use Rattle.trace_extensions.proofs.RunFits.{by_script, lines_by, is_done, gM, fits_model, ends_as, goes_whole, Beginning, if_known, reach_kept}
use Rattle.trace_extensions.proofs.StopWalk.{StopWay, walk_none, walk_stop, ToldAt}
use Rattle.trace_extensions.proofs.Translated.{NoneEnds, going, took_split}
use Rattle.trace_extensions.proofs.Walked.{IsSound, early_open, texts_in, walk_past, EndedAt}

-- what follows two beginnings of one list with the same length is the same
same_last : (xs ys a b : List (List ℕ)) (x y : List ℕ) → xs ++ (x ∷ a) ≡ ys ++ (y ∷ b) → length xs ≡ length ys → x ≡ y
same_last [] [] a b x y is long = cc is
same_last [] (z ∷ ys) a b x y is long = absurd (omega (arith, long))
same_last (z ∷ xs) [] a b x y is long = absurd (omega (arith, long))
same_last (z ∷ xs) (u ∷ ys) a b x y is long = same_last xs ys a b x y (cc is) (omega (arith, long))

module _ {K T : Type 0} (k : Ghosts K T) {V : Type 0} (view : K → V) (m : Model V) where
  -- what is so of some steps and those after them is so of the first ones
  only_front : (τ : Tariff) (P : World Place V → Option (List ℕ) → Type 0) (xs ys : List (AuditStep k.Own K)) (at : World Place V) (report : Option (List ℕ)) → Only k view m τ P at report (xs ++ ys)
      → NoneEnds k xs → Only k view m τ (λ w r. Only k view m τ P w r ys) at report xs
  only_front τ P [] ys at report only none = only
  only_front τ P (Passed line ∷ xs) ys at report only none = (only.0, λ mid told b may. only_front τ P xs ys mid (Some told) (only.1 mid told b may) none.1)
  only_front τ P (Heard line e answer ∷ xs) ys at report only none = (only.0, λ mid told b may. only_front τ P xs ys mid (Some told) (only.1 mid told b may) none.1)
  only_front τ P (audit.Own line own texts ∷ xs) ys at report only none = (only.0, λ mid told b may. only_front τ P xs ys mid (Some told) (only.1 mid told b may) none.1)
  only_front τ P (Begun line begun left ∷ xs) ys at report only none = absurd (none.0 tt)
  only_front τ P (Ended line left ∷ xs) ys at report only none = absurd (none.0 tt)

module _ {K T : Type 0} (k : Ghosts K T) {V : Type 0} (view : K → V) (m : Model V) (modelled : IsModelOf k view m) (alone : (own : k.Own) (line : List ℕ) → k.IsOwn own line → IsAlone line) where
  -- the steps of the run
  sound_steps : (ys : List (SideStep (List ℕ))) → AllByRecursion (Reads (side_lines (by_model m))) ys → AllByRecursion (side_lines (by_model m)).GoesOn ys → AllByRecursion HasTexts ys → AllByRecursion (IsSound k view m) ys
  sound_steps [] each goes texts = tt
  sound_steps (b ∷ ys) each goes texts = (record { is = each.0.is; whole = goes_whole k view m modelled alone b goes.0; texts = texts.0 }, sound_steps ys each.1 goes.1 texts.1)

  module _ (τ : Tariff) (way : StopWay view m τ) (H : Ledger) (script report rates : List ℕ) (v : V) (f : FitsStopped m (λ at line told L kept. way.AtLine at line told L kept) τ H script report rates v)
      (w0 w1 : AuditWorld K) (b : Beginning k view m modelled alone τ H script report rates v w0) (left : List ℕ) (t0 t1 : Option (List ℕ)) where
    abbrev their : List (List ℕ)
    their = map side_line f.trace

    sound : AllByRecursion (IsSound k view m) f.trace
    sound = sound_steps f.trace f.each f.go_on f.texts

    does : Does (by_model m) (MayStep τ) (world (place H w0.rates) (view w0.desk)) f.behind f.trace
    does = subst (λ (x : V). Does (by_model m) (MayStep τ) (world (place H w0.rates) x) f.behind f.trace) (sym b.view_is)
        (subst (λ (x : List ℕ). Does (by_model m) (MayStep τ) (world (place H x) v) f.behind f.trace) (sym b.rates_are) f.does)

    report_is : w0.report ≡ Some (texts_in k view m f.trace ++ f.told)
    report_is = b.report_is ∙ ap (λ (l : List ℕ). Some l) f.report_is

    -- the line of the stop and those before it are the first ones of the script
    front_is : lines_of script ≡ (their ++ f.line ∷ []) ++ f.rest
    front_is = f.script_is ∙ sym (append_assoc their (f.line ∷ []) f.rest)

    front_long : length (their ++ f.line ∷ []) ≡ length f.trace + 1
    front_long = length-append their (f.line ∷ []) ∙ ap (λ (n : ℕ). n + 1) (length-map f.trace (λ d. side_line d))

    -- the audit doesn't go past the line of the stop
    module _ (P : World Place V → Option (List ℕ) → Type 0) (xs : List (AuditStep k.Own K)) (none : NoneEnds k xs) (only : Only k view m τ P (world (place H w0.rates) (view w0.desk)) w0.report xs) where
      not_past : (more : List (List ℕ)) → lines_of script ≡ map audit_line xs ++ more → length f.trace + 1 ≤ length xs → ⊥
      not_past more lines long =
          let front = longer_front (their ++ f.line ∷ []) (map audit_line xs) f.rest more (sym front_is ∙ lines) (omega (arith, front_long, long, length-map xs (λ d. audit_line d))) in
          walk_none k view m τ way P f.line f.told f.ledger f.kept f.behind f.stop xs front.0 f.trace (world (place H w0.rates) (view w0.desk)) w0.report
          (sym front.1 ∙ append_assoc their (f.line ∷ []) front.0) none sound does report_is only

    -- it doesn't come to the end of the script
    pub no_end : (s : Status) → IsWhole s → Replayed (audit_lines k) (Run s) (turns.Ended (DidAudit k view m) AuditLeaves (Run s) w0 w1) (Some script) (Some left) t0 t1 → ⊥
    no_end s whole r =
        let P = turns.Ended (DidAudit k view m) AuditLeaves (Run s) w0 w1 in
        let ours = (exact_end (audit_lines k) (audit_fits k alone) (Run s) P (Some script) (Some left) t0 t1 r (by_script s whole) s).0 refl in
        let theirs = ends_as k view m modelled alone s script ours in
        let count = lines_by (audit_lines k) (audit_fits k alone) s whole P script left t0 t1 r ours in
        let cover = covers (audit_lines k) P script t0 t1 s whole left r in
        let few = f.few in
        let size : length their ≡ length f.trace = length-map f.trace (λ d. side_line d) in
        let reach = reaches (gM k view m modelled alone) (fits_model k view m modelled alone).grammar s their f.line f.rest theirs.passed theirs.rest 0 (sym f.script_is ∙ theirs.are)
        (all_passed (side_lines (by_model m)) (fits_model k view m modelled alone) f.trace f.each f.go_on) f.short (way.fine f.behind f.line f.told f.ledger f.kept f.stop) (omega (arith, few, size))
        (subst (λ (n : ℕ). EndsAt (gM k view m modelled alone) s n theirs.rest) (omega arith) theirs.last) in
        not_past (IsMetIn view τ r.did.behind) (r.trace ++ r.done) (both_go k r.trace r.done (going k r.trace r.go_on) (last_goes k s whole _ _ _ _ r.done r.ends))
        (r.did.did.only τ H b.texts b.history b.sees) cover.more cover.are (long s count size reach)
      where
        long : (s : Status) {p x : ℕ} → ((s ≡ status.Done → ⊥) → x ≡ p) × (s ≡ status.Done → x ≡ p + 1) → length their ≡ length f.trace → (length their < p) ⊎ ((s ≡ status.Done) × (length their ≡ p)) → length f.trace + 1 ≤ x
        long s count size (inl fewer) = elim (is_done s) [
          | inl done ↦ let w = count.1 done in omega (arith, w, fewer, size)
          | inr other ↦ let w = count.0 other in omega (arith, w, fewer, size)
        ]
        long s count size (inr done) = let w = count.1 done.0 in omega (arith, w, done.1, size)

    -- it ended at a line
    module _ (r : Replayed (audit_lines k) Stopped (turns.Ended (DidAudit k view m) AuditLeaves Stopped w0 w1) (Some script) (Some left) t0 t1) where
      abbrev last : AuditStep k.Own K
      last = r.ends.0.last

      with_last : DidAudit k view m w0 r.did.behind (r.trace ++ last ∷ [])
      with_last = subst (λ (d : List (AuditStep k.Own K)). DidAudit k view m w0 r.did.behind (r.trace ++ d)) r.ends.0.only r.did.did

      only : Only k view m τ (IsMetIn view τ r.did.behind) (world (place H w0.rates) (view w0.desk)) w0.report (r.trace ++ last ∷ [])
      only = with_last.only τ H b.texts b.history b.sees

      follows : (more : List (List ℕ)) × (lines_of script ≡ map audit_line r.trace ++ (audit_line last ∷ more))
      follows = last_follows (audit_lines k) (turns.Ended (DidAudit k view m) AuditLeaves Stopped w0 w1) script t0 t1 Stopped left r r.ends.0

      size : length (map audit_line r.trace) ≡ length r.trace
      size = length-map r.trace (λ d. audit_line d)

      -- what it left there
      told_there : (d : AuditStep k.Own K) → AuditEnds d → DidAudit k view m w0 r.did.behind (r.trace ++ d ∷ []) → ToldAt k view m τ way (IsMetIn view τ r.did.behind) f.line f.told f.ledger f.kept f.behind f.stop d
          → way.Told w1 f.ledger f.kept
      told_there (Passed line) ends did told = absurd ends
      told_there (Heard line e answer) ends did told = absurd ends
      told_there (audit.Own line own texts) ends did told = absurd ends
      told_there (Begun line begun at) ends did told =
          let split = took_split k w0 r.did.behind r.trace (Begun line begun at ∷ []) did.took in
          subst (λ (w : AuditWorld K). way.Told w f.ledger f.kept) (sym (r.did.leaves ∙ split.2.2)) told
      told_there (Ended line at) ends did told =
          let split = took_split k w0 r.did.behind r.trace (Ended line at ∷ []) did.took in
          subst (λ (w : AuditWorld K). way.Told w f.ledger f.kept) (sym (r.did.leaves ∙ split.2)) told

      open_told : (d : AuditStep k.Own K) → EndedAt k view m τ (IsMetIn view τ r.did.behind) d → ToldAt k view m τ way (IsMetIn view τ r.did.behind) f.line f.told f.ledger f.kept f.behind f.stop d
      open_told (Passed line) is = is
      open_told (Heard line e answer) is = is
      open_told (audit.Own line own texts) is = is
      open_told (Begun line begun at) is = way.early at f.ledger f.kept is
      open_told (Ended line at) is = way.early at f.ledger f.kept is

      -- before the line of the stop
      before : length r.trace < length f.trace → way.Told w1 f.ledger f.kept
      before fewer =
          let front = longer_front (map audit_line r.trace ++ audit_line last ∷ []) their follows.0 (f.line ∷ f.rest)
          (append_assoc (map audit_line r.trace) (audit_line last ∷ []) follows.0 ∙ sym follows.1 ∙ f.script_is)
          (omega (arith, fewer, size, length-append (map audit_line r.trace) (audit_line last ∷ []), length-map f.trace (λ d. side_line d))) in
          told_there last r.ends.1 with_last (open_told last
          (walk_past k view m τ (IsMetIn view τ r.did.behind) r.trace last front.0 f.trace (world (place H w0.rates) (view w0.desk)) f.behind w0.report f.told
          (sym (append_assoc (map audit_line r.trace) (audit_line last ∷ []) front.0) ∙ front.1) (going k r.trace r.go_on) r.ends.1 sound does report_is only))

      -- at it
      there : length r.trace ≡ length f.trace → way.Told w1 f.ledger f.kept
      there same =
          let both : map audit_line r.trace ++ (audit_line last ∷ follows.0) ≡ their ++ (f.line ∷ f.rest) = sym follows.1 ∙ f.script_is in
          let long : length (map audit_line r.trace) ≡ length their = size ∙ same ∙ sym (length-map f.trace (λ d. side_line d)) in
          told_there last r.ends.1 with_last
          (walk_stop k view m τ way (IsMetIn view τ r.did.behind) f.line f.told f.ledger f.kept f.behind f.stop r.trace last f.trace (world (place H w0.rates) (view w0.desk)) w0.report
          (same_front (map audit_line r.trace) their (audit_line last ∷ follows.0) (f.line ∷ f.rest) both long)
          (same_last (map audit_line r.trace) their follows.0 f.rest (audit_line last) f.line both long) (going k r.trace r.go_on) r.ends.1 sound does report_is only)

      -- it didn't go past it
      behind_it : length f.trace < length r.trace → ⊥
      behind_it more =
          not_past (λ w r'. Only k view m τ (IsMetIn view τ r.did.behind) w r' (last ∷ [])) r.trace (going k r.trace r.go_on)
          (only_front k view m τ (IsMetIn view τ r.did.behind) r.trace (last ∷ []) (world (place H w0.rates) (view w0.desk)) w0.report only (going k r.trace r.go_on)) (audit_line last ∷ follows.0) follows.1 (omega (arith, more))

      pub told_stop : way.Told w1 f.ledger f.kept
      told_stop = elim (cases_lt (length r.trace) (length f.trace)) [
        | inl fewer ↦ before fewer
        | inr many ↦ elim (cases_lt (length f.trace) (length r.trace)) [
          | inl more ↦ absurd (behind_it more)
          | inr few ↦ there (omega (arith, many, few))
        ]
      ]

  -- == the two ways ==

  abbrev event_way : (τ : Tariff) → StopWay view m τ
  event_way τ = record {
    AtLine = λ at line told L kept. EventStopped m τ at line told L kept;
    Told = λ left L kept. TellsStop m left.reach left.verdict left.audit (view left.desk) L kept;
    none = λ at line report none. none.event;
    some = λ at line report left tells. tells.event;
    early = λ left L kept early. inr (early_open left.reach left.verdict early);
    fine = λ at line told L kept stop bad. bad.0.no_event stop.event stop.is;
  }

  own_fine : (τ : Tariff) (at : World Place V) (line told : List ℕ) (L : Ledger) (kept : V) → OwnStopped m τ at line told L kept → (side_grammar (by_model m)).IsBad line → ⊥
  own_fine τ at line told L kept (not_begun own x) bad = bad.1 line (refl, own)
  own_fine τ at line told L kept (all_of_it own x) bad = bad.1 line (refl, own)
  own_fine τ at line told L kept (part_of_it own x) bad = bad.1 line (refl, own)

  -- at an own line, as this reach says
  abbrev own_way : Option Reach → (τ : Tariff) → StopWay view m τ
  own_way reach τ = record {
    AtLine = λ at line told L kept. AgreedStop m τ at line told L kept reach;
    Told = λ left L kept. left.reach ≡ reach → TellsOwnStop m left.reach left.verdict left.audit (view left.desk) L kept;
    none = λ at line report none told L kept stop report_is. none.own told L kept (stop.0, tt) report_is;
    some = λ at line report left tells told L kept stop report_is same. tells.own told L kept (subst (λ (r : Option Reach). AgreedStop m τ at line told L kept r) (sym same) stop) report_is;
    early = λ left L kept early same. inr (inl early);
    fine = λ at line told L kept stop bad. own_fine τ at line told L kept stop.0 bad;
  }

  -- == what is said of the run ==

  module _ (left0 left1 t0 t1 : Option (List ℕ)) (w0 w1 : AuditWorld K) (old : Audit) (rates : List ℕ) (same : w0.rates ≡ rates) (begun : (H : Ledger) → SeesBetween old H → Sees w0.audit (Begin ∷ H)) where
    -- Q of whatever a stop leaves
    abbrev EachWay : ((τ : Tariff) → StopWay view m τ) → (Ledger → V → Type 0) → Type 0
    EachWay way Q = AtKnown m left0 w0.report (λ script report. AtSeen old (λ τ H. (f : FitsStopped m (λ at line told L kept. (way τ).AtLine at line told L kept) τ H script report rates (view w0.desk)) → Q f.ledger f.kept))

    beginning : (τ : Tariff) (H : Ledger) (script report : List ℕ) → IsOfTexts τ → History τ editions H → SeesBetween old H → w0.report ≡ Some report → Beginning k view m modelled alone τ (Begin ∷ H) script report rates (view w0.desk) w0
    beginning τ H script report texts history between is = record { texts = texts; history = begins history; sees = begun H between; rates_are = same; view_is = refl; report_is = is }

    at_end : (way : (τ : Tariff) → StopWay view m τ) (Q : Ledger → V → Type 0) (s : Status) → IsWhole s → Replayed (audit_lines k) (Run s) (turns.Ended (DidAudit k view m) AuditLeaves (Run s) w0 w1) left0 left1 t0 t1 → EachWay way Q
    at_end way Q s whole r = if_known k view m modelled alone left0 w0.report _ (λ script report script_is report_is τ H texts history between f. by script report τ H f (beginning τ H script report texts history between report_is) left1
        (subst (λ (o : Option (List ℕ)). Replayed (audit_lines k) (Run s) (turns.Ended (DidAudit k view m) AuditLeaves (Run s) w0 w1) o left1 t0 t1) script_is r))
      where
        by : (script report : List ℕ) (τ : Tariff) (H : Ledger) (f : FitsStopped m (λ at line told L kept. (way τ).AtLine at line told L kept) τ (Begin ∷ H) script report rates (view w0.desk))
            → Beginning k view m modelled alone τ (Begin ∷ H) script report rates (view w0.desk) w0 → (left : Option (List ℕ)) → Replayed (audit_lines k) (Run s) (turns.Ended (DidAudit k view m) AuditLeaves (Run s) w0 w1) (Some script) left t0 t1 → Q f.ledger f.kept
        by script report τ H f b None r = absurd r.consumed
        by script report τ H f b (Some left) r = absurd (no_end τ (way τ) (Begin ∷ H) script report rates (view w0.desk) f w0 w1 b left t0 t1 s whole r)

    at_stop : (way : (τ : Tariff) → StopWay view m τ) (Q : Ledger → V → Type 0) → ((τ : Tariff) (L : Ledger) (kept : V) → (way τ).Told w1 L kept → Q L kept)
        → Replayed (audit_lines k) Stopped (turns.Ended (DidAudit k view m) AuditLeaves Stopped w0 w1) left0 left1 t0 t1 → EachWay way Q
    at_stop way Q said r = if_known k view m modelled alone left0 w0.report _ (λ script report script_is report_is τ H texts history between f. by script report τ H f (beginning τ H script report texts history between report_is) left1
        (subst (λ (o : Option (List ℕ)). Replayed (audit_lines k) Stopped (turns.Ended (DidAudit k view m) AuditLeaves Stopped w0 w1) o left1 t0 t1) script_is r))
      where
        by : (script report : List ℕ) (τ : Tariff) (H : Ledger) (f : FitsStopped m (λ at line told L kept. (way τ).AtLine at line told L kept) τ (Begin ∷ H) script report rates (view w0.desk))
            → Beginning k view m modelled alone τ (Begin ∷ H) script report rates (view w0.desk) w0 → (left : Option (List ℕ)) → Replayed (audit_lines k) Stopped (turns.Ended (DidAudit k view m) AuditLeaves Stopped w0 w1) (Some script) left t0 t1 → Q f.ledger f.kept
        by script report τ H f b None r = absurd r.consumed
        by script report τ H f b (Some left) r = said τ f.ledger f.kept (told_stop τ (way τ) (Begin ∷ H) script report rates (view w0.desk) f w0 w1 b left t0 t1 r)

    -- == by what is said of the run ==

    module _ (verdict : SideVerdict) where
      -- the audit came to the end of the script
      pub end_stops : (s : Status) → IsWhole s → Replayed (audit_lines k) (Run s) (turns.Ended (DidAudit k view m) AuditLeaves (Run s) w0 w1) left0 left1 t0 t1
          → StoppedIfFits m left0 w0.report rates (view w0.desk) (view w1.desk) old w1.audit verdict w0.reach
      end_stops s whole r = at_end event_way _ s whole r

      pub end_own_stops : (s : Status) → IsWhole s → Replayed (audit_lines k) (Run s) (turns.Ended (DidAudit k view m) AuditLeaves (Run s) w0 w1) left0 left1 t0 t1
          → StoppedInOwnIfFits m left0 w0.report rates (view w0.desk) (view w1.desk) old w1.audit verdict w0.reach
      end_own_stops s whole r = at_end (own_way w0.reach) _ s whole r

      -- it ended at a line
      module _ (r : Replayed (audit_lines k) Stopped (turns.Ended (DidAudit k view m) AuditLeaves Stopped w0 w1) left0 left1 t0 t1) (only : (verdict ≡ w1.verdict) ⊎ IsCutShort verdict) where
        told_so : (L : Ledger) (kept : V) → (verdict ≡ w1.verdict) ⊎ IsCutShort verdict → TellsStop m w1.reach w1.verdict w1.audit (view w1.desk) L kept → TellsStop m w0.reach verdict w1.audit (view w1.desk) L kept
        told_so L kept (inl is) told = subst (λ (v : SideVerdict). TellsStop m w0.reach v w1.audit (view w1.desk) L kept) (sym is)
            (subst (λ (x : Option Reach). TellsStop m x w1.verdict w1.audit (view w1.desk) L kept) (reach_kept k view m modelled alone r.did) told)
        told_so L kept (inr cut) told = inr (inl cut)

        own_so : (L : Ledger) (kept : V) → (verdict ≡ w1.verdict) ⊎ IsCutShort verdict → TellsOwnStop m w1.reach w1.verdict w1.audit (view w1.desk) L kept → TellsOwnStop m w0.reach verdict w1.audit (view w1.desk) L kept
        own_so L kept (inl is) told = subst (λ (v : SideVerdict). TellsOwnStop m w0.reach v w1.audit (view w1.desk) L kept) (sym is)
            (subst (λ (x : Option Reach). TellsOwnStop m x w1.verdict w1.audit (view w1.desk) L kept) (reach_kept k view m modelled alone r.did) told)
        own_so L kept (inr cut) told = inr (inl (inl cut))

        pub line_stops : StoppedIfFits m left0 w0.report rates (view w0.desk) (view w1.desk) old w1.audit verdict w0.reach
        line_stops = at_stop event_way _ (λ τ L kept told. told_so L kept only told) r

        pub line_own_stops : StoppedInOwnIfFits m left0 w0.report rates (view w0.desk) (view w1.desk) old w1.audit verdict w0.reach
        line_own_stops = at_stop (own_way w0.reach) _ (λ τ L kept told. own_so L kept only (told (reach_kept k view m modelled alone r.did))) r

  -- the audit was cut short
  module _ (script report : Option (List ℕ)) (rates : List ℕ) (v w : V) (old new : Audit) (verdict : SideVerdict) (reach : Option Reach) (cut : IsCutShort verdict) where
    pub cut_stops : StoppedIfFits m script report rates v w old new verdict reach
    cut_stops = if_known k view m modelled alone script report _ (λ text told script_is report_is τ H texts history between f. inr (inl cut))

    pub cut_own_stops : StoppedInOwnIfFits m script report rates v w old new verdict reach
    cut_own_stops = if_known k view m modelled alone script report _ (λ text told script_is report_is τ H texts history between f. inr (inl (inl cut)))
