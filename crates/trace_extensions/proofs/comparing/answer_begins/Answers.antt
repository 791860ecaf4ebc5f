use Rattle.std.proofs.Common.{◌≡◌, ℕ, List, length, drop, true≢false, sym, ◌∙◌, subst}
use Rattle.std.proofs.lemmas.Bool.Decides.{Decides-eqb}
use Rattle.std.proofs.lemmas.Slice.Eq.{starts_is}
use Rattle.trace_bench.specs.Stopping.{IsPrefixOf}
use Rattle.trace_extensions.proofs.Compared.{cut_begins}
use Rattle.trace_extensions.proofs.Texts.{first_text, not_empty}
use Rattle.trace_extensions.proofs.comparing.answer_begins.Goals as goal

pub returns-then-starts_with-clause-stopped : goal.returns-then-starts_with-clause-stopped
returns-then-starts_with-clause-stopped g c = λ n stop.
    let d = starts_is Decides-eqb c.as_slice.result.now c.args.prefix.now c.starts_with.result c.starts_with.ensures.value in (
      sym c.end-then-starts_with.ensures.verdict ∙ stop,
      λ is. cut_begins (g.D.Extension.texts c.args.desk.now) c.put.new.line c.args.prefix.now c.put.ensures.text
          (drop (length c.args.prefix.now) c.as_slice.result.now, sym c.as_slice.ensures ∙ d.0 c.if-starts_with.true) is,
    )

pub returns-then-starts_with-clause-in_own : goal.returns-then-starts_with-clause-in_own
returns-then-starts_with-clause-in_own g c = λ n stop.
    let d = starts_is Decides-eqb c.as_slice.result.now c.args.prefix.now c.starts_with.result c.starts_with.ensures.value in (
      sym c.end-then-starts_with.ensures.verdict ∙ stop,
      λ is. cut_begins (g.D.Extension.texts c.args.desk.now) c.put.new.line c.args.prefix.now c.put.ensures.text
          (drop (length c.args.prefix.now) c.as_slice.result.now, sym c.as_slice.ensures ∙ d.0 c.if-starts_with.true) is,
    )

pub returns-else-starts_with-clause-begins : goal.returns-else-starts_with-clause-begins
returns-else-starts_with-clause-begins g c = λ text more are begins.
    let d = starts_is Decides-eqb c.as_slice.result.now c.args.prefix.now c.starts_with.result c.starts_with.ensures.value in
    let same : text ≡ c.as_slice.result.now = sym (first_text (g.D.Extension.texts c.args.desk.now) c.put.new.line text more c.put.ensures.text are) ∙ sym c.as_slice.ensures in
    let p = subst (λ (l : List ℕ). IsPrefixOf c.args.prefix.now l) same begins in
    absurd (true≢false (sym (d.1 p.0 p.1) ∙ c.if-starts_with.false))

pub returns-then-count-eq0-clause-begins : goal.returns-then-count-eq0-clause-begins
returns-then-count-eq0-clause-begins g c = λ text more are begins. absurd (not_empty (g.D.Extension.texts c.args.desk.now) text more are (sym c.count.ensures ∙ c.if-count-eq0.true))
