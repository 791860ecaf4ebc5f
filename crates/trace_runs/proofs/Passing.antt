-- Turns one after another, by what was read for them.
use Rattle.std.proofs.Common.{◌≡◌, ℕ, ◌+◌, ◌≤◌, List, [], ◌∷◌, ◌++◌, true, false, Option, Ok, Err, sym, ◌∙◌, subst, arith, append_assoc}
use Rattle.std.specs.Prelude.{drop}
use Rattle.std.proofs.KnownBytes.{Consumes-nil, Consumes-trans}
use Rattle.bench_base.specs.declared.ledger.Entry.TheVariants.{Begin}
use Rattle.bench_base.specs.Ledger.{Ledger}
use Rattle.line_runs.specs.Ends.{EndsAt}
use Rattle.line_extensions.specs.Scripts.{script_grammar}
use Rattle.trace_bench.specs.Seeing.{Audit, Sees}
use Rattle.trace_runs.specs.Reads.{IsRead, OfTexts}
use Rattle.trace_runs.specs.Turns.{Turned, FellPut, IsOver, IsTurn, IsProgress, Progress}
use Rattle.trace_runs.specs.Verdicts.{status_of, Audited, AuditedOf}
use Rattle.trace_runs.specs.declared.{audit.Step.Step, imprint.Imprint.Imprint, verdict.Ending.Ending, verdict.Ending.TheVariants.TooLong, verdict.Verdict.Verdict}
use Rattle.trace_runs.proofs.Paired.{begun, progress_more, fallen}
use Rattle.trace_runs.proofs.WasRead.{of_map, of_end, of_any, some, then_read}
use Rattle.trace_runs.proofs.Turning.{ends_missing, ends_long}

pub begins : (rates : List ℕ) (old new : Audit) (before : List Imprint) (script report : Option (List ℕ)) → ((H : Ledger) → Sees old H → Sees new (Begin ∷ H)) → IsProgress 0 rates rates old new before before script script report report
begins rates old new before script report sees = record {
  script = [];
  report = [];
  script_read = Consumes-nil script;
  report_read = Consumes-nil report;
  so = λ lines told. begun lines told rates old new before sees;
}

-- so many lines were paired
module _ (count : ℕ) (rates0 rates : List ℕ) (old mid new : Audit) (before half after : List Imprint) (s0 s1 s2 r0 r1 r2 : Option (List ℕ)) (p : IsProgress count rates0 rates old mid before half s0 s1 r0 r1) where
  -- what was read before and this is one prefix of the text
  joined : (a b x : List ℕ) (P : List ℕ → Type 0) → P (a ++ (b ++ x)) → P ((a ++ b) ++ x)
  joined a b x P = subst P (sym (append_assoc a b x))

  -- the lines of the next turn and then these were paired
  module _ (step : Step) (t : IsTurn (count + 1) rates mid new half after s1 s2 r1 r2 (Ok step)) (left : List ℕ) (are : left ≡ drop step.rates rates) where
    more_at : (lines told : List ℕ) → Turned (count + 1) step.rates (t.script.bytes ++ lines) lines (t.report.bytes ++ told) told rates mid new half after
        → Progress (count + 1) ((p.script ++ t.script.bytes) ++ lines) ((p.report ++ t.report.bytes) ++ told) rates0 lines told left old new before after
    more_at lines told turned =
        joined p.script t.script.bytes lines (λ (x : List ℕ). Progress (count + 1) x ((p.report ++ t.report.bytes) ++ told) rates0 lines told left old new before after)
        (joined p.report t.report.bytes told (λ (y : List ℕ). Progress (count + 1) (p.script ++ (t.script.bytes ++ lines)) y rates0 lines told left old new before after)
        (progress_more (p.script ++ (t.script.bytes ++ lines)) (p.report ++ (t.report.bytes ++ told)) rates0 count (t.script.bytes ++ lines) (t.report.bytes ++ told) rates old mid new before half after
        (p.so (t.script.bytes ++ lines) (t.report.bytes ++ told)) step.rates lines told left are turned))

    pub goes : step.is_last ≡ false → IsProgress (count + 1) rates0 left old new before after s0 s2 r0 r2
    goes is = record {
      script = p.script ++ t.script.bytes;
      report = p.report ++ t.report.bytes;
      script_read = Consumes-trans s0 s1 s2 p.script t.script.bytes p.script_read t.script.consumed;
      report_read = Consumes-trans r0 r1 r2 p.report t.report.bytes p.report_read t.report.consumed;
      so = λ lines told. more_at lines told (of_any t.report.is_all _ t.goes_on.1 (of_any t.script.is_all _ (t.goes_on.0 ∙ is) t.so lines) told);
    }

    -- the script has ended after the line, without a line end
    pub ends : step.is_last ≡ true → count + 1 ≤ 1000000 → (end : Ending) (v : Verdict) → EndsAt script_grammar (status_of end) (count + 2) [] → (r3 : Option (List ℕ))
        → (o : IsRead r2 r3) × OfTexts o (λ behind told. IsOver end (count + 2) behind v) → AuditedOf v s0 s2 r0 r3 rates0 old new before after
    ends is few end v at r3 over = record {
      script = record {
        bytes = p.script ++ t.script.bytes;
        is_all = true;
        consumed = Consumes-trans s0 s1 s2 p.script t.script.bytes p.script_read t.script.consumed;
        ended = λ same. t.script.ended (t.goes_on.0 ∙ is);
      };
      report = then_read (p.report ++ t.report.bytes) (Consumes-trans r0 r1 r2 p.report t.report.bytes p.report_read t.report.consumed) over.0;
      so = of_map over.0.is_all _ _ (λ told o.
          let turned = of_any t.report.is_all _ t.goes_on.1 (of_end t.script.is_all _ (t.goes_on.0 ∙ is) t.so) (over.0.bytes ++ told) in
          joined (p.report ++ t.report.bytes) over.0.bytes told (λ (y : List ℕ). Audited v ((p.script ++ t.script.bytes) ++ []) y rates0 old new before after)
          (fallen ((p.script ++ t.script.bytes) ++ []) ((p.report ++ t.report.bytes) ++ (over.0.bytes ++ told)) rates0 (count + 1) [] (over.0.bytes ++ told) left old new new before after after
          (more_at [] (over.0.bytes ++ told) turned) v few
          (subst (λ (n : ℕ). FellPut n [] (over.0.bytes ++ told) left new new after after v) (omega arith) (ends_missing (count + 2) (over.0.bytes ++ told) left new end v after at o)))) over.1;
    }

  -- the verdict falls in the next turn
  pub falls : (v : Verdict) → count ≤ 1000000 → IsTurn (count + 1) rates mid new half after s1 s2 r1 r2 (Err v) → AuditedOf v s0 s2 r0 r2 rates0 old new before after
  falls v few t = record {
    script = then_read p.script p.script_read t.script;
    report = then_read p.report p.report_read t.report;
    so = of_map t.script.is_all _ _ (λ lines. of_map t.report.is_all _ _ (λ told fell.
        joined p.script t.script.bytes lines (λ (x : List ℕ). Audited v x ((p.report ++ t.report.bytes) ++ told) rates0 old new before after)
        (joined p.report t.report.bytes told (λ (y : List ℕ). Audited v (p.script ++ (t.script.bytes ++ lines)) y rates0 old new before after)
        (fallen (p.script ++ (t.script.bytes ++ lines)) (p.report ++ (t.report.bytes ++ told)) rates0 count (t.script.bytes ++ lines) (t.report.bytes ++ told) rates old mid new before half after
        (p.so (t.script.bytes ++ lines) (t.report.bytes ++ told)) v few fell)))) t.so;
  }

-- so many lines were paired that no more is looked at
pub too_many : (count : ℕ) (rates0 rates : List ℕ) (old new : Audit) (before after : List Imprint) (s0 s1 r0 r1 r2 : Option (List ℕ)) (p : IsProgress count rates0 rates old new before after s0 s1 r0 r1) → count ≡ 1000000 → (v : Verdict)
    → (o : IsRead r1 r2) × OfTexts o (λ behind told. IsOver TooLong 1000001 behind v) → AuditedOf v s0 s1 r0 r2 rates0 old new before after
too_many count rates0 rates old new before after s0 s1 r0 r1 r2 p all v over = record {
  script = some p.script p.script_read;
  report = then_read p.report p.report_read over.0;
  so = λ lines. of_map over.0.is_all (λ x. IsOver TooLong 1000001 (over.0.bytes ++ x) v) _ (λ told o.
      subst (λ (y : List ℕ). Audited v (p.script ++ lines) y rates0 old new before after) (sym (append_assoc p.report over.0.bytes told))
      (fallen (p.script ++ lines) (p.report ++ (over.0.bytes ++ told)) rates0 count lines (over.0.bytes ++ told) rates old new new before after after
      (p.so lines (over.0.bytes ++ told)) v (omega (arith, all)) (ends_long (count + 1) lines (over.0.bytes ++ told) rates new v after (omega (arith, all))
      (subst (λ (n : ℕ). IsOver TooLong n (over.0.bytes ++ told) v) (omega (arith, all)) o)))) over.1;
}
