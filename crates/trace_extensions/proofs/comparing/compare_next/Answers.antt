use Rattle.std.proofs.Common.{inl, ℕ, List, [], arith, subst, length, take, drop, true≢false, refl, sym, ◌∙◌}
use Rattle.std.proofs.lemmas.Bool.Decides.{Decides-eqb}
use Rattle.std.proofs.lemmas.Slice.Eq.{slice_eq-Decides, starts_is}
use Rattle.trace_bench.specs.Stopping.{IsPrefixOf}
use Rattle.trace_extensions.specs.Fits.{IsText}
use Rattle.trace_extensions.proofs.Compared.{cut_line, no_line}
use Rattle.trace_extensions.proofs.Cuts.{within_line, not_whole, not_so_long}
use Rattle.trace_extensions.proofs.Lines.{take_short, same_line, not_within, not_at_end, not_long}
use Rattle.trace_extensions.proofs.comparing.compare_next.Goals as goal

pub returns-then-starts_with-clause-open : goal.returns-then-starts_with-clause-open
returns-then-starts_with-clause-open g c = λ same.
    let t = c.in-Line-default-false.ensures.taken in
    let line = take c.in-Line-default-false.len c.read_line.new.buf in
    let w = cut_line _ _ c.in-Line-default-false.field-1 line t.0 c.in-Line-default-false.field-1-test t.2.2 t.1 in
    let d = starts_is Decides-eqb c.args.text.now line c.starts_with.result c.starts_with.ensures.value in
    (line, (drop (length line) c.args.text.now, d.0 c.if-starts_with.true), record { one = t.2.1; short = take_short c.in-Line-default-false.len c.read_line.new.buf t.2.0 }, w.0, w.1)

pub returns-in-End-clause-open : goal.returns-in-End-clause-open
returns-in-End-clause-open g c = λ same.
    let t = c.in-End.ensures.taken in
    let w = no_line _ _ t.0 t.2.0 t.1 t.2.1 in
    ([], (c.args.text.now, refl), record { one = tt; short = omega arith }, w.0, w.1)

pub returns-then-eq-clause-only : goal.returns-then-eq-clause-only
returns-then-eq-clause-only g c = λ told text has.
    let t = c.in-Line-default-true.ensures.taken in
    let w = same_line _ _ c.args.text.now told text.one has c.in-Line-default-true.field-1 (take c.in-Line-default-true.len c.read_line.new.buf) t.0 c.in-Line-default-true.field-1-test t.2.1 t.2.2 t.1 in
    inl (refl, w.1)

pub returns-else-eq-clause-only : goal.returns-else-eq-clause-only
returns-else-eq-clause-only g c = λ told text has.
    let t = c.in-Line-default-true.ensures.taken in
    let w = same_line _ _ c.args.text.now told text.one has c.in-Line-default-true.field-1 (take c.in-Line-default-true.len c.read_line.new.buf) t.0 c.in-Line-default-true.field-1-test t.2.1 t.2.2 t.1 in
    let d = slice_eq-Decides Decides-eqb (take c.in-Line-default-true.len c.read_line.new.buf) c.args.text.now c.eq.result c.eq.ensures in
    absurd (true≢false (sym (d.1 w.0) ∙ c.if-eq.false))

pub returns-then-starts_with-clause-only : goal.returns-then-starts_with-clause-only
returns-then-starts_with-clause-only g c = λ told text has.
    let t = c.in-Line-default-false.ensures.taken in
    absurd (not_within _ _ c.args.text.now told text.one has c.in-Line-default-false.field-1 (take c.in-Line-default-false.len c.read_line.new.buf) t.0 c.in-Line-default-false.field-1-test t.2.1 t.2.2 t.1)

pub returns-else-starts_with-clause-only : goal.returns-else-starts_with-clause-only
returns-else-starts_with-clause-only g c = λ told text has.
    let t = c.in-Line-default-false.ensures.taken in
    absurd (not_within _ _ c.args.text.now told text.one has c.in-Line-default-false.field-1 (take c.in-Line-default-false.len c.read_line.new.buf) t.0 c.in-Line-default-false.field-1-test t.2.1 t.2.2 t.1)

pub returns-in-End-clause-only : goal.returns-in-End-clause-only
returns-in-End-clause-only g c = λ told text has.
    let t = c.in-End.ensures.taken in
    absurd (not_at_end _ _ c.args.text.now told text.one has t.0 t.2.0 t.2.1 t.1)

pub returns-in-Long-clause-only : goal.returns-in-Long-clause-only
returns-in-Long-clause-only g c = λ told text has.
    let t = c.in-Long.ensures.taken in
    absurd (not_long _ _ c.args.text.now told text.one has t.0 t.2.0 t.2.1 text.short t.1)

pub returns-then-eq-clause-text : goal.returns-then-eq-clause-text
returns-then-eq-clause-text g c = λ same.
    let t = c.in-Line-default-true.ensures.taken in
    let d = slice_eq-Decides Decides-eqb (take c.in-Line-default-true.len c.read_line.new.buf) c.args.text.now c.eq.result c.eq.ensures in
    subst (λ (l : List ℕ). IsText l) (d.0 c.if-eq.true) (record { one = t.2.1; short = take_short c.in-Line-default-true.len c.read_line.new.buf t.2.0 })

pub returns-else-eq-clause-stops : goal.returns-else-eq-clause-stops
returns-else-eq-clause-stops g c = λ told is report begins.
    let t = c.in-Line-default-true.ensures.taken in
    absurd (not_whole _ _ told report c.in-Line-default-true.field-1 (take c.in-Line-default-true.len c.read_line.new.buf) t.0 c.in-Line-default-true.field-1-test t.2.2 t.1 is.one)

pub returns-else-starts_with-clause-stops : goal.returns-else-starts_with-clause-stops
returns-else-starts_with-clause-stops g c = λ told is report begins.
    let t = c.in-Line-default-false.ensures.taken in
    let line = take c.in-Line-default-false.len c.read_line.new.buf in
    let same = within_line _ _ told report c.in-Line-default-false.field-1 line t.0 c.in-Line-default-false.field-1-test t.2.2 t.1 in
    let d = starts_is Decides-eqb c.args.text.now line c.starts_with.result c.starts_with.ensures.value in
    let p = subst (λ (l : List ℕ). IsPrefixOf l c.args.text.now) same begins in
    absurd (true≢false (sym (d.1 p.0 p.1) ∙ c.if-starts_with.false))

pub returns-in-Long-clause-stops : goal.returns-in-Long-clause-stops
returns-in-Long-clause-stops g c = λ told is report begins.
    let t = c.in-Long.ensures.taken in
    absurd (not_so_long _ _ told report t.0 t.1 t.2.1 is.short)
