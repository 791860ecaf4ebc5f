use Rattle.std.specs.Io.KnownBytes.{Consumes, IsAtEnd, prepend_known}
use Rattle.std.proofs.Common.{inr, ℕ, ◌-◌, List, ◌++◌, take, drop, sym, ap, ◌∙◌, subst, append_assoc}
use Rattle.script_text.specs.Texts.{text_of}
use Rattle.trace_bench.specs.Stopping.{IsPrefixOf}
use Rattle.trace_runs.specs.Fitting.{BeginsTold}
use Rattle.trace_runs.specs.Runs.{StopLeaves}
use Rattle.trace_extensions.specs.Rates.{left_of}
use Rattle.trace_extensions.proofs.Compared.{cut_line}
use Rattle.trace_extensions.proofs.Cuts.{within_line, none_left, not_whole, long_front}
use Rattle.trace_extensions.proofs.EventStops.{told_one}
use Rattle.trace_extensions.proofs.Lines.{one_text_line, same_line, not_within, not_at_end, begins_line, long_missed}
use Rattle.trace_extensions.proofs.plain.answer.Goals as goal

pub returns-in-None-clause-missed : goal.returns-in-None-clause-missed
returns-in-None-clause-missed g c = λ τ H texts history sees d event may next.
    let t = c.in-Line-default-true.ensures.taken in
    let one = one_text_line d.reply may.whole in
    let w = same_line _ _ (text_of d.reply) next.0 one next.1 c.in-Line-default-true.field-1 (take c.in-Line-default-true.len c.read_line.new.buf) t.0 c.in-Line-default-true.field-1-test t.2.1 t.2.2 t.1 in
    c.in-None.ensures.missed τ H texts history sees d event may (sym w.0)

pub returns-in-Line-default-false-clause-missed : goal.returns-in-Line-default-false-clause-missed
returns-in-Line-default-false-clause-missed g c = λ τ H texts history sees d event may next.
    let t = c.in-Line-default-false.ensures.taken in
    let one = one_text_line d.reply may.whole in
    absurd (not_within _ _ (text_of d.reply) next.0 one next.1 c.in-Line-default-false.field-1 (take c.in-Line-default-false.len c.read_line.new.buf) t.0 c.in-Line-default-false.field-1-test t.2.1 t.2.2 t.1)

pub returns-in-End-clause-missed : goal.returns-in-End-clause-missed
returns-in-End-clause-missed g c = λ τ H texts history sees d event may next.
    let t = c.in-End.ensures.taken in
    let one = one_text_line d.reply may.whole in
    absurd (not_at_end _ _ (text_of d.reply) next.0 one next.1 t.0 t.2.0 t.2.1 t.1)

pub returns-in-Long-clause-missed : goal.returns-in-Long-clause-missed
returns-in-Long-clause-missed g c = λ τ H texts history sees d event may next.
    let t = c.in-Long.ensures.taken in
    let one = one_text_line d.reply may.whole in
    let begins = begins_line _ _ (text_of d.reply) next.0 one next.1 t.0 t.2.0 t.1 in
    long_missed _ t.0 c.read_line.new.buf (text_of d.reply) begins t.2.1 t.2.2 (λ front. c.stopped-in-Long.ensures.missed τ H texts history sees d event may front)

pub returns-in-Some-clause-unstopped : goal.returns-in-Some-clause-unstopped
returns-in-Some-clause-unstopped g c = λ told report τ H texts history sees K begins leaves.
    let t = c.in-Line-default-true.ensures.taken in
    not_whole _ _ told report c.in-Line-default-true.field-1 (take c.in-Line-default-true.len c.read_line.new.buf) t.0 c.in-Line-default-true.field-1-test t.2.2 t.1 (told_one τ H c.args.event.now _ told begins)

pub returns-in-None-clause-stops : goal.returns-in-None-clause-stops
returns-in-None-clause-stops g c = λ told report τ H texts history sees K begins leaves.
    let t = c.in-Line-default-true.ensures.taken in
    absurd (not_whole _ _ told report c.in-Line-default-true.field-1 (take c.in-Line-default-true.len c.read_line.new.buf) t.0 c.in-Line-default-true.field-1-test t.2.2 t.1 (told_one τ H c.args.event.now _ told begins))

pub returns-in-Line-default-false-clause-stops : goal.returns-in-Line-default-false-clause-stops
returns-in-Line-default-false-clause-stops g c = λ told report τ H texts history sees K begins leaves.
    let t = c.in-Line-default-false.ensures.taken in
    let same = within_line _ _ told report c.in-Line-default-false.field-1 (take c.in-Line-default-false.len c.read_line.new.buf) t.0 c.in-Line-default-false.field-1-test t.2.2 t.1 in
    c.stopped.ensures.stops τ H texts history sees K (subst (λ (l : List ℕ). BeginsTold τ H (left_of c.args.rates.now) c.args.event.now l) same begins)
    (subst (λ (l : List ℕ). StopLeaves τ H c.args.event.now (left_of c.args.rates.now) l K) same leaves)

pub returns-in-End-clause-stops : goal.returns-in-End-clause-stops
returns-in-End-clause-stops g c = λ told report τ H texts history sees K begins leaves.
    let t = c.in-End.ensures.taken in
    let same = none_left _ _ told report t.0 t.2.0 t.2.1 t.1 in
    c.stopped-in-End.ensures.stops τ H texts history sees K (subst (λ (l : List ℕ). BeginsTold τ H (left_of c.args.rates.now) c.args.event.now l) same begins)
    (subst (λ (l : List ℕ). StopLeaves τ H c.args.event.now (left_of c.args.rates.now) l K) same leaves)

pub returns-in-Long-clause-stops : goal.returns-in-Long-clause-stops
returns-in-Long-clause-stops g c = λ told report τ H texts history sees K begins leaves.
    let t = c.in-Long.ensures.taken in
    let w = long_front _ _ told report t.0 t.1 in
    let front : IsPrefixOf t.0 (text_of begins.0.reply) = (w.0 ++ begins.3.0, begins.3.1 ∙ ap (λ (l : List ℕ). l ++ begins.3.0) w.1 ∙ append_assoc t.0 w.0 begins.3.0) in
    inr (long_missed _ t.0 c.read_line.new.buf (text_of begins.0.reply) front t.2.1 t.2.2 (λ short. c.stopped-in-Long.ensures.missed τ H texts history sees begins.0 begins.1 begins.2 short))

pub returns-in-Line-default-false-clause-begun : goal.returns-in-Line-default-false-clause-begun
returns-in-Line-default-false-clause-begun g c = λ n is.
    let t = c.in-Line-default-false.ensures.taken in
    let line = take c.in-Line-default-false.len c.read_line.new.buf in
    let w = cut_line _ _ c.in-Line-default-false.field-1 line t.0 c.in-Line-default-false.field-1-test t.2.2 t.1 in
    let same = (subst (λ r. Consumes (prepend_known (take (c.args.papers.now.report.end - c.args.papers.now.report.at) (drop c.args.papers.now.report.at c.args.papers.now.report.buffer.items)) (g.R.Source.left c.args.papers.now.report.inner))
    (prepend_known (take (r.end - r.at) (drop r.at r.buffer.items)) (g.R.Source.left r.inner)) line × IsAtEnd (prepend_known (take (r.end - r.at) (drop r.at r.buffer.items)) (g.R.Source.left r.inner))) (sym c.stopped.ensures.report) w) in
    let begun = c.stopped.ensures.begun n is in
    (line, begun.0, begun.1, same.0, same.1)
