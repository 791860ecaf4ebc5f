-- How a run of `recompute` ends, by the verdict.
use Rattle.std.proofs.Common.{◌≡◌, ◌≢◌, ℕ, ◌<◌, List, length, take, drop, Option, Some, None, refl, sym, subst, ◌∙◌, arith, length-drop, take-append-drop}
use Rattle.std.specs.Prelude.{IfSome}
use Rattle.std.specs.Io.KnownBytes.{Appends}
use Rattle.line_runs.specs.declared.status.Status.{Status}
use Rattle.line_runs.specs.declared.status.Status.TheVariants as status
use Rattle.statement_check.specs.Runs.{EndsWith, Recomputed, IsAnswered}
use Rattle.statement_check.specs.Turns.{IsJudged}
use Rattle.statement_check.specs.Verdicts.{HasVerdict, status_for, report_for}
use Rattle.statement_check.specs.declared.{verdict.Verdict.Verdict, verdict.Verdict.TheVariants.Good}
use Rattle.statement_check.proofs.Statements.{is_statement, is_good}
use Rattle.statement_check.proofs.Verdicts.{one_verdict, taken_has}

pub told : (v : Verdict) (outcome : Status) (text : List ℕ) (a b t u : Option (List ℕ)) → IsJudged v a b → outcome ≡ status_for v → text ≡ report_for v → Appends t u text
    → Recomputed outcome a b t u
told v outcome text a b t u j is same appended =
    record { bytes = j.bytes; text = text; consumed = j.consumed; appended = appended; ends = EndsWith.told v is j.takes same }

pub cut : (v : Verdict) (text : List ℕ) (a b t u : Option (List ℕ)) → IsJudged v a b → text ≡ report_for v → ((n : ℕ) × (n < length text) × Appends t u (take n text))
    → Recomputed status.WriteFault a b t u
cut v text a b t u j same part = record {
  bytes = j.bytes;
  text = take part.0 text;
  consumed = j.consumed;
  appended = part.2;
  ends = EndsWith.cut_off v refl j.takes (drop part.0 text, sym same ∙ sym (take-append-drop part.0 text), omega (arith, length-drop part.0 text, part.1));
}

pub answered : (v : Verdict) (outcome : Status) (text : List ℕ) (a b t u : Option (List ℕ)) → IsJudged v a b → outcome ≡ status_for v → text ≡ report_for v → Appends t u text
    → IfSome a (λ bytes. outcome ≢ status.Words → outcome ≢ status.ReadFault → outcome ≢ status.WriteFault → IsAnswered outcome bytes t u)
answered v outcome text None b t u j is same appended = tt
answered v outcome text (Some bytes) None t u j is same appended = absurd j.consumed
answered v outcome text (Some bytes) (Some left) t u j is same appended = λ words read write.
    let has : HasVerdict v bytes = subst (HasVerdict v) (sym j.consumed) (taken_has v j.bytes left j.takes) in
    record {
      verdict = v;
      has = has;
      only = λ other h. one_verdict other v bytes h has;
      good = λ b. (λ is_good_one. is_statement b bytes (subst (λ (w : Verdict). HasVerdict w bytes) is_good_one has), λ s. one_verdict v (Good b) bytes has (is_good b bytes s));
      status_is = is;
      written = subst (Appends t u) same appended;
    }
