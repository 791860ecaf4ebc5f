use Rattle.std.proofs.Common.{◌≡◌, ◌⊎◌, inl, inr, ◌-◌, ◌+◌, ◌++◌, ℕ, List, Option, Some, flat_map, sym, ◌∙◌, subst, take, drop, arith}
use Rattle.std.specs.Io.KnownBytes.{Consumes, IsAtEnd, prepend_known}
use Rattle.line_runs.specs.Lines.{ended}
use Rattle.trace_bench.specs.Stopping.{IsPrefixOf}
use Rattle.trace_extensions.proofs.Compared.{ReadTo, read_more, read_within}
use Rattle.trace_extensions.proofs.Cuts.{CutFrom, NextCut, next_cut, cut_more, cut_all}
use Rattle.trace_extensions.specs.Exact.{HasNext, IsCalledStopped}
use Rattle.trace_extensions.specs.Fits.{IsCutShort, IsText}
use Rattle.trace_extensions.specs.FitsStopped.{IsCutOf}
use Rattle.trace_extensions.specs.declared.{comparing.Compared.Compared, papers.SideVerdict.SideVerdict, papers.SideVerdict.TheVariants.Stopped}
use Rattle.trace_extensions.proofs.Texts.{LeftFrom, next_text, left_more, left_all, lines_more, lines_all}
use Rattle.trace_extensions.proofs.comparing.rest_fits.Goals as goal

-- it was the same, and not a fault
same_next : (x : Compared) (b : Option (List ℕ)) (left : List ℕ) → x ≡ Compared.Same → ((x ≡ Compared.Same) × (b ≡ Some left)) ⊎ (x ≡ Compared.Fault) → b ≡ Some left
same_next x b left is (inl w) = w.1
same_next x b left is (inr fault) = absurd (cc (is, fault))

-- it was no fault, or the verdict leaves it open
other : (x : Compared) (P : Type 0) (v : SideVerdict) → (x ≡ Compared.Same → ⊥) → (x ≡ Compared.Fault → IsCutShort v) → ((x ≡ Compared.Same) × P) ⊎ (x ≡ Compared.Fault) → IsCutShort v
other x P v not_same fault (inl w) = absurd (not_same w.0)
other x P v not_same fault (inr is) = fault is

-- a text that was read whole goes on behind it
goes_on : (more : List (List ℕ)) (t line : List ℕ) (a b : Option (List ℕ)) (x : Compared) → line ≡ t → x ≡ Compared.Same
    → ((told : List ℕ) → IsText told → a ≡ Some told → IsPrefixOf told line → (x ≡ Compared.Open) ⊎ (x ≡ Compared.Fault))
    → ((told : List ℕ) → IsText line → HasNext a line told → ((x ≡ Compared.Same) × (b ≡ Some told)) ⊎ (x ≡ Compared.Fault))
    → NextCut t more a → (rest : List ℕ) × (b ≡ Some rest) × IsCutOf rest more
goes_on more t line a b x same is stops only (inl (told, report, begins, text)) = elim (stops told text report (subst (λ (l : List ℕ). IsPrefixOf told l) (sym same) begins)) [
  | inl ended ↦ absurd (cc (is, ended))
  | inr fault ↦ absurd (cc (is, fault))
]
goes_on more t line a b x same is stops only (inr (told, next, text, cut)) =
    (told, same_next x b told is (only told (subst (λ (l : List ℕ). IsText l) (sym same) text) (subst (λ (l : List ℕ). HasNext a l told) (sym same) next)), cut)

-- the report ended within it, or a fault came
ends_there : (number : ℕ) (more : List (List ℕ)) (t line : List ℕ) (a b : Option (List ℕ)) (x : Compared) (v : SideVerdict) → line ≡ t → (x ≡ Compared.Same → ⊥) → (x ≡ Compared.Open → v ≡ Stopped number) → (x ≡ Compared.Fault → IsCutShort v)
    → ((told : List ℕ) → IsText told → a ≡ Some told → IsPrefixOf told line → (x ≡ Compared.Open) ⊎ (x ≡ Compared.Fault))
    → ((told : List ℕ) → IsText line → HasNext a line told → ((x ≡ Compared.Same) × (b ≡ Some told)) ⊎ (x ≡ Compared.Fault))
    → NextCut t more a → IsCalledStopped number v
ends_there number more t line a b x v same not_same opens fault stops only (inl (told, report, begins, text)) = elim (stops told text report (subst (λ (l : List ℕ). IsPrefixOf told l) (sym same) begins)) [
  | inl ended ↦ inl (opens ended)
  | inr is ↦ inr (fault is)
]
ends_there number more t line a b x v same not_same opens fault stops only (inr (told, next, text, cut)) =
    inr (other x _ v not_same fault (only told (subst (λ (l : List ℕ). IsText l) (sym same) text) (subst (λ (l : List ℕ). HasNext a l told) (sym same) next)))

pub loop-at-preserved : goal.loop-at-preserved
loop-at-preserved g c = record {
  some = omega (arith, c.loop-at.invariant.some);
  read = subst (λ r. ReadTo (g.D.Extension.texts c.args.desk.now) (c.loop-at.at + 1)
      (prepend_known (take (c.args.papers.now.report.end - c.args.papers.now.report.at) (drop c.args.papers.now.report.at c.args.papers.now.report.buffer.items)) (g.R.Source.left c.args.papers.now.report.inner))
      (prepend_known (take (r.end - r.at) (drop r.at r.buffer.items)) (g.R.Source.left r.inner))) (sym c.is_same.ensures.report)
      (read_more (g.D.Extension.texts c.args.desk.now) c.loop-at.at c.put.new.line c.as_slice.result.now _ _ _ c.put.ensures.text c.as_slice.ensures c.loop-at.invariant.read
      (c.compare_next-compared.ensures.same (c.is_same.ensures.same c.if-not-is_same.false)));
  only = subst (λ r. LeftFrom (g.D.Extension.texts c.args.desk.now) (c.loop-at.at + 1)
      (prepend_known (take (c.args.papers.now.report.end - c.args.papers.now.report.at) (drop c.args.papers.now.report.at c.args.papers.now.report.buffer.items)) (g.R.Source.left c.args.papers.now.report.inner))
      (prepend_known (take (r.end - r.at) (drop r.at r.buffer.items)) (g.R.Source.left r.inner))) (sym c.is_same.ensures.report)
      (left_more (g.D.Extension.texts c.args.desk.now) c.loop-at.at _ _ (λ first more told are each is.
      let n = next_text (g.D.Extension.texts c.args.desk.now) c.loop-at.at c.put.new.line _ _ c.loop-at.invariant.some c.put.ensures.text c.loop-at.invariant.only first more told are each is in
      same_next _ _ _ (c.is_same.ensures.same c.if-not-is_same.false) (c.compare_next-compared.ensures.only _ (subst (λ (t : List ℕ). IsText t) (sym c.as_slice.ensures) n.is)
      (subst (λ (t : List ℕ). HasNext (prepend_known (take (c.loop-at.papers.report.end - c.loop-at.papers.report.at) (drop c.loop-at.papers.report.at c.loop-at.papers.report.buffer.items)) (g.R.Source.left c.loop-at.papers.report.inner)) t (flat_map ended (drop c.loop-at.at more) ++ told)) (sym c.as_slice.ensures) n.next))));
  lines = lines_more (g.D.Extension.texts c.args.desk.now) c.loop-at.at c.put.new.line c.loop-at.invariant.some c.put.ensures.text
      (subst (λ (t : List ℕ). IsText t) c.as_slice.ensures (c.compare_next-compared.ensures.text (c.is_same.ensures.same c.if-not-is_same.false))) c.loop-at.invariant.lines;
  cut = subst (λ r. CutFrom (g.D.Extension.texts c.args.desk.now) (c.loop-at.at + 1)
      (prepend_known (take (c.args.papers.now.report.end - c.args.papers.now.report.at) (drop c.args.papers.now.report.at c.args.papers.now.report.buffer.items)) (g.R.Source.left c.args.papers.now.report.inner))
      (prepend_known (take (r.end - r.at) (drop r.at r.buffer.items)) (g.R.Source.left r.inner))) (sym c.is_same.ensures.report)
      (cut_more (g.D.Extension.texts c.args.desk.now) c.loop-at.at _ _ (λ first more told are cut is.
      goes_on (drop c.loop-at.at more) c.put.new.line c.as_slice.result.now _ _ c.compare_next-compared.result c.as_slice.ensures (c.is_same.ensures.same c.if-not-is_same.false) c.compare_next-compared.ensures.stops
      c.compare_next-compared.ensures.only (next_cut (g.D.Extension.texts c.args.desk.now) c.loop-at.at c.put.new.line _ _ c.loop-at.invariant.some c.put.ensures.text c.loop-at.invariant.cut first more told are cut is)));
  reach = c.is_same.ensures.reach ∙ c.compare_next-compared.ensures.reach ∙ c.loop-at.invariant.reach;
  line = c.is_same.ensures.line ∙ c.compare_next-compared.ensures.line ∙ c.loop-at.invariant.line;
}

pub returns-then-not-is_same-clause-open : goal.returns-then-not-is_same-clause-open
returns-then-not-is_same-clause-open g c = λ no n stop.
    let texts = g.D.Extension.texts c.args.desk.now in
    let o = c.compare_next-compared.ensures.open (c.is_same.ensures.open c.if-not-is_same.true n stop) in
    let w = read_within texts c.loop-at.at c.put.new.line c.as_slice.result.now o.0 _ _ _ c.put.ensures.text c.as_slice.ensures c.loop-at.invariant.some c.loop-at.invariant.lines c.loop-at.invariant.read o.1 o.2 o.3 in
    subst (λ r. (rest : List ℕ) × IsCutOf rest (drop 1 texts)
    × Consumes (prepend_known (take (c.args.papers.now.report.end - c.args.papers.now.report.at) (drop c.args.papers.now.report.at c.args.papers.now.report.buffer.items)) (g.R.Source.left c.args.papers.now.report.inner))
    (prepend_known (take (r.end - r.at) (drop r.at r.buffer.items)) (g.R.Source.left r.inner)) rest
    × IsAtEnd (prepend_known (take (r.end - r.at) (drop r.at r.buffer.items)) (g.R.Source.left r.inner))) (sym c.is_same.ensures.report)
    (w.0, w.1, w.2, o.4)

pub returns-then-not-is_same-clause-only : goal.returns-then-not-is_same-clause-only
returns-then-not-is_same-clause-only g c = λ first more told are each is.
    let n = next_text (g.D.Extension.texts c.args.desk.now) c.loop-at.at c.put.new.line _ _ c.loop-at.invariant.some c.put.ensures.text c.loop-at.invariant.only first more told are each is in
    other c.compare_next-compared.result _ c.is_same.new.papers.verdict (λ same. cc (c.is_same.ensures.goes_on same, c.if-not-is_same.true)) (λ fault. rw c.if-not-is_same.true at c.is_same.ensures.fault fault) (c.compare_next-compared.ensures.only _ (subst (λ (t : List ℕ). IsText t) (sym c.as_slice.ensures) n.is)
    (subst (λ (t : List ℕ). HasNext (prepend_known (take (c.loop-at.papers.report.end - c.loop-at.papers.report.at) (drop c.loop-at.papers.report.at c.loop-at.papers.report.buffer.items)) (g.R.Source.left c.loop-at.papers.report.inner)) t (flat_map ended (drop c.loop-at.at more) ++ told)) (sym c.as_slice.ensures) n.next))

pub returns-clause-only : goal.returns-clause-only
returns-clause-only g c = λ first more told are each is.
    left_all (g.D.Extension.texts c.args.desk.now) c.loop-at.at _ _ (omega (arith, c.count-at-end.ensures, c.loop-at-test.false)) c.loop-at.invariant.only first more told are each is

pub returns-clause-texts : goal.returns-clause-texts
returns-clause-texts g c = λ same first more are.
    lines_all (g.D.Extension.texts c.args.desk.now) c.loop-at.at (omega (arith, c.count-at-end.ensures, c.loop-at-test.false)) c.loop-at.invariant.lines first more are

pub returns-then-not-is_same-clause-stops : goal.returns-then-not-is_same-clause-stops
returns-then-not-is_same-clause-stops g c = λ first more told are cut is.
    ends_there c.args.number (drop c.loop-at.at more) c.put.new.line c.as_slice.result.now _ _ c.compare_next-compared.result c.is_same.new.papers.verdict c.as_slice.ensures
    (λ same. cc (c.is_same.ensures.goes_on same, c.if-not-is_same.true)) (λ ended. (c.is_same.ensures.stops ended).1) (λ fault. rw c.if-not-is_same.true at c.is_same.ensures.fault fault)
    c.compare_next-compared.ensures.stops c.compare_next-compared.ensures.only
    (next_cut (g.D.Extension.texts c.args.desk.now) c.loop-at.at c.put.new.line _ _ c.loop-at.invariant.some c.put.ensures.text c.loop-at.invariant.cut first more told are cut is)

pub returns-then-not-is_same-clause-reach : goal.returns-then-not-is_same-clause-reach
returns-then-not-is_same-clause-reach g c = c.is_same.ensures.reach ∙ c.compare_next-compared.ensures.reach ∙ c.loop-at.invariant.reach

pub returns-clause-stops : goal.returns-clause-stops
returns-clause-stops g c = λ first more told are cut is.
    cut_all (g.D.Extension.texts c.args.desk.now) c.loop-at.at _ _ (omega (arith, c.count-at-end.ensures, c.loop-at-test.false)) c.loop-at.invariant.cut first more told are cut is

pub returns-clause-reach : goal.returns-clause-reach
returns-clause-reach g c = c.loop-at.invariant.reach

pub returns-then-not-is_same-clause-line : goal.returns-then-not-is_same-clause-line
returns-then-not-is_same-clause-line g c = c.is_same.ensures.line ∙ c.compare_next-compared.ensures.line ∙ c.loop-at.invariant.line

pub returns-clause-line : goal.returns-clause-line
returns-clause-line g c = c.loop-at.invariant.line
