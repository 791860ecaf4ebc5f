use Rattle.std.proofs.Common.{refl, subst, sym}
use Rattle.std.proofs.lemmas.List.Elements.{recursion_from_All}
use Rattle.bench_base.specs.Ledger.{Ledger}
use Rattle.script_text.specs.Texts.{text_of}
use Rattle.line_runs.proofs.Held.{from_all}
use Rattle.trace_bench.specs.Seeing.{Sees}
use Rattle.trace_runs.proofs.Alike.{between}
use Rattle.trace_runs.proofs.AllRuns.{runs_exact}
use Rattle.trace_runs.proofs.laws.runs_are_exact.Goals as goal

pub returns-clause-begins : goal.returns-clause-begins
returns-clause-begins c start = record {
  fit = λ τ H texts history sees. (H, refl);
  sees = λ τ H texts history sees K is. between start K (subst (λ (X : Ledger). Sees start X) (sym is) sees);
}

pub returns-clause-exact : goal.returns-clause-exact
returns-clause-exact c start audits are =
    runs_exact c.one_reply.ensures.law (λ r whole. from_all (text_of r) (recursion_from_All _ (text_of r) (c.one_line.ensures.law r whole))) c.histories.ensures.today
    start audits are
