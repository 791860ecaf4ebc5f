use Rattle.std.proofs.Common.{◌≡◌, ℕ, List, drop, length, true≢false, sym, ◌∙◌, subst}
use Rattle.std.proofs.lemmas.Bool.Decides.{Decides-eqb}
use Rattle.std.proofs.lemmas.Slice.Eq.{starts_is}
use Rattle.trace_bench.specs.Stopping.{IsPrefixOf}
use Rattle.trace_extensions.proofs.Compared.{cut_begins}
use Rattle.trace_extensions.proofs.Texts.{first_text, not_empty}
use Rattle.trace_extensions.proofs.comparing.says.Goals as goal

pub returns-then-count-eq0 : goal.returns-then-count-eq0
returns-then-count-eq0 g c = record { cut = λ yes. absurd (cc yes); never = λ no text more are begins. not_empty (g.D.Extension.texts c.args.desk.now) text more are (sym c.count.ensures ∙ c.if-count-eq0.true) }

pub returns : goal.returns
returns g c = record {
  cut = λ yes is.
      let d = starts_is Decides-eqb c.as_slice.result.now c.args.front.now c.starts_with.result c.starts_with.ensures.value in
      cut_begins (g.D.Extension.texts c.args.desk.now) c.put.new.line c.args.front.now c.put.ensures.text
      (drop (length c.args.front.now) c.as_slice.result.now, sym c.as_slice.ensures ∙ d.0 yes) is;
  never = λ no text more are begins.
      let d = starts_is Decides-eqb c.as_slice.result.now c.args.front.now c.starts_with.result c.starts_with.ensures.value in
      let same : text ≡ c.as_slice.result.now = sym (first_text (g.D.Extension.texts c.args.desk.now) c.put.new.line text more c.put.ensures.text are) ∙ sym c.as_slice.ensures in
      let p = subst (λ (l : List ℕ). IsPrefixOf c.args.front.now l) same begins in
      true≢false (sym (d.1 p.0 p.1) ∙ no);
}
