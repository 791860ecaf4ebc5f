use Rattle.std.proofs.Common.{◌≡◌, ℕ, ◌+◌, List, [], ◌++◌, Option, length, append-nil, sym, ◌∙◌, ap, subst}
use Rattle.std.proofs.lemmas.List.Elements.{recursion_from_All}
use Rattle.bench_base.specs.declared.events.Reply.{Reply}
use Rattle.script_text.specs.Texts.{text_of, IsWholeReply}
use Rattle.trace_runs.specs.declared.{imprint.Imprint.Imprint, imprint.Given.Given, verdict.Ending.Ending, verdict.Verdict.Verdict, verdict.Verdict.TheVariants.Lawful}
use Rattle.trace_bench.specs.Seeing.{Audit}
use Rattle.trace_runs.specs.Imprints.{imprint_at}
use Rattle.trace_runs.specs.Prints.{ArePrinted}
use Rattle.trace_runs.specs.Fitting.{IsCutShort}
use Rattle.trace_runs.specs.Verdicts.{Audited, imprints_from, last_given}
use Rattle.line_runs.proofs.Held.{from_all}
use Rattle.trace_runs.proofs.Exact.{fits_printed, printed_back}
use Rattle.trace_runs.proofs.Fitted.{none_open}
use Rattle.trace_runs.proofs.laws.prints_fit.Goals as goal

-- nothing more was given than in the lines that were paired
paired : (v : Verdict) (script report rates : List ℕ) (old new : Audit) (given : List Imprint) (a : Audited v script report rates old new [] given) (end : Ending) → v ≡ Lawful end
    → imprints_from 1 a.says.pairs ++ imprint_at (length a.says.pairs + 1) (last_given (length a.says.pairs + 1) a.says.rest a.says.told v a.says.falls) ≡ imprints_from 1 a.says.pairs
paired v script report rates old new all a end is =
    let given = imprints_from 1 a.says.pairs in
    ap (λ (o : Option Given). given ++ imprint_at (length a.says.pairs + 1) o) (none_open (length a.says.pairs + 1) a.says.rest a.says.told v a.says.falls end is) ∙ append-nil given

-- it was not cut short
uncut : (v : Verdict) (end : Ending) → v ≡ Lawful end → IsCutShort v → ⊥
uncut v end is cut = subst (λ (x : Verdict). IsCutShort x) is cut

pub returns : goal.returns
returns c = λ v script report rates old new given a end prints is τ H texts history seen.
    let one = c.one_reply.ensures.law in
    let line = λ (r : Reply) (whole : IsWholeReply r). from_all (text_of r) (recursion_from_All _ (text_of r) (c.one_line.ensures.law r whole)) in
    let so = a.says.so τ H texts history seen in
    let same = a.prints ∙ paired v script report rates old new given a end is in (
      λ printed. fits_printed one line v script report rates old new a.says τ H end prints is so (subst (λ (l : List Imprint). ArePrinted l prints) same printed),
      λ w. subst (λ (l : List Imprint). ArePrinted l prints) (sym same) (printed_back one line v script report rates old new a.says τ H prints (uncut v end is) so w.0 w.1),
    )
