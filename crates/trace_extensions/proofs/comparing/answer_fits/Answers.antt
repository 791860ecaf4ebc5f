use Rattle.std.proofs.Common.{◌≡◌, ◌∙◌, refl, sym}
use Rattle.std.proofs.lemmas.Bool.Decides.{Decides-eqb}
use Rattle.std.proofs.lemmas.Slice.Eq.{slice_eq-Decides}
use Rattle.trace_extensions.proofs.Compared.{cut_behind}
use Rattle.trace_extensions.proofs.Texts.{lines_first, first_text, not_empty, differ_not, no_difference}
use Rattle.trace_extensions.proofs.comparing.answer_fits.Goals as goal

pub returns-then-count-eq0-clause-only : goal.returns-then-count-eq0-clause-only
returns-then-count-eq0-clause-only g c = λ more told are each is. absurd (not_empty (g.D.Extension.texts c.args.desk.now) c.args.first.now more are (sym c.count.ensures ∙ c.if-count-eq0.true))

pub returns-then-ne-clause-only : goal.returns-then-ne-clause-only
returns-then-ne-clause-only g c = λ more told are each is.
    absurd (differ_not (c.as_slice.result.now ≡ c.args.first.now) _ c.ne.result (slice_eq-Decides Decides-eqb c.as_slice.result.now c.args.first.now _ refl) c.ne.ensures c.if-ne.true
    (c.as_slice.ensures ∙ first_text (g.D.Extension.texts c.args.desk.now) c.put.new.line c.args.first.now more c.put.ensures.text are))

pub returns-clause-only : goal.returns-clause-only
returns-clause-only g c = λ more told are each is. c.rest_fits.ensures.only c.args.first.now more told are each is

pub returns-clause-texts : goal.returns-clause-texts
returns-clause-texts g c = λ same first.
    lines_first (g.D.Extension.texts c.args.desk.now) c.put.new.line c.args.first.now c.put.ensures.text
    (sym c.as_slice.ensures ∙ no_difference (c.as_slice.result.now ≡ c.args.first.now) _ c.ne.result (slice_eq-Decides Decides-eqb c.as_slice.result.now c.args.first.now _ refl) c.ne.ensures c.if-ne.false) first (c.rest_fits.ensures.texts same)

pub returns-then-count-eq0-clause-stops : goal.returns-then-count-eq0-clause-stops
returns-then-count-eq0-clause-stops g c = λ more told are cut is. absurd (not_empty (g.D.Extension.texts c.args.desk.now) c.args.first.now more are (sym c.count.ensures ∙ c.if-count-eq0.true))

pub returns-then-ne-clause-stops : goal.returns-then-ne-clause-stops
returns-then-ne-clause-stops g c = λ more told are cut is.
    absurd (differ_not (c.as_slice.result.now ≡ c.args.first.now) _ c.ne.result (slice_eq-Decides Decides-eqb c.as_slice.result.now c.args.first.now _ refl) c.ne.ensures c.if-ne.true
    (c.as_slice.ensures ∙ first_text (g.D.Extension.texts c.args.desk.now) c.put.new.line c.args.first.now more c.put.ensures.text are))

pub returns-clause-stops : goal.returns-clause-stops
returns-clause-stops g c = λ more told are cut is. c.rest_fits.ensures.stops c.args.first.now more told are cut is

pub returns-clause-open : goal.returns-clause-open
returns-clause-open g c = λ no n stop first.
    let w = c.rest_fits.ensures.open no n stop in
    let same = sym c.as_slice.ensures ∙ no_difference (c.as_slice.result.now ≡ c.args.first.now) _ c.ne.result (slice_eq-Decides Decides-eqb c.as_slice.result.now c.args.first.now _ refl) c.ne.ensures c.if-ne.false in
    (w.0, cut_behind (g.D.Extension.texts c.args.desk.now) c.put.new.line c.args.first.now w.0 c.put.ensures.text same first w.1, w.2, w.3)
