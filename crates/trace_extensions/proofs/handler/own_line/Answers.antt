use Rattle.std.proofs.Common.{arith, ◌≡◌, ◌-◌, ◌++◌, List, [], ℕ, Bool, true, false, Option, None, take, drop, flat_map, refl, sym, subst}
use Rattle.std.specs.Prelude.{MatchBool}
use Rattle.std.specs.Io.KnownBytes.{Consumes, IsAtEnd, prepend_known}
use Rattle.std.proofs.KnownBytes.{Consumes-trans}
use Rattle.line_runs.specs.Lines.{ended, IsLineIn}
use Rattle.bench_base.specs.Ledger.{Ledger}
use Rattle.ledger_moves.specs.Tariffs.{Tariff}
use Rattle.line_extensions.specs.Desks.{world}
use Rattle.line_extensions.specs.declared.extension.Next.{Next}
use Rattle.trace_extensions.specs.declared.papers.Reach.{Reach}
use Rattle.trace_extensions.specs.Exact.{EachOwnLeft, MayAnswer}
use Rattle.trace_extensions.specs.Models.{Model}
use Rattle.trace_extensions.specs.Places.{Place, place}
use Rattle.trace_extensions.specs.Rates.{left_of}
use Rattle.trace_extensions.proofs.Compared.{cut_line, no_line}
use Rattle.trace_extensions.proofs.Cuts.{long_front, none_left, whole_line, within_line}
use Rattle.trace_extensions.proofs.OwnStops.{no_long}
use Rattle.trace_extensions.proofs.Lines.{take_short, same_line, not_within, not_at_end, not_long}
use Rattle.trace_extensions.proofs.handler.own_line.Goals as goal

-- a whole line was read, and then the rest of the answer
then_rest : (a b c : Option (List ℕ)) (is_ended : Bool) (line bytes rest texts : List ℕ) (end : Type 0) → is_ended ≡ true → IsLineIn is_ended line bytes end → Consumes a b bytes
    → texts ≡ ended line ++ rest → Consumes b c rest → Consumes a c texts
then_rest a b c true line bytes rest texts end is inside first same more =
    subst (λ (l : List ℕ). Consumes a c l) (sym same) (Consumes-trans a b c (ended line) rest (subst (λ (l : List ℕ). Consumes a b l) inside first) more)
then_rest a b c _ line bytes rest texts end is inside first same more = absurd (cc is)

pub returns-in-Line-default-true-clause-fits : goal.returns-in-Line-default-true-clause-fits
returns-in-Line-default-true-clause-fits g c = λ fits.
    let w = c.own_fits.ensures.fits fits in
    let line = c.in-Line-default-true.ensures.taken in
    then_rest _ _ _ c.in-Line-default-true.field-1 (take c.in-Line-default-true.len c.read_line.new.buf) line.0 w.0 (flat_map ended (g.D.Extension.texts c.own_fits.new.desk)) _
    c.in-Line-default-true.field-1-test line.2.2 line.1 w.1 w.2

pub returns-in-Line-default-true-clause-stopped : goal.returns-in-Line-default-true-clause-stopped
returns-in-Line-default-true-clause-stopped g c = λ no n stop.
    let w = c.own_fits.ensures.stopped no n stop (record { one = c.in-Line-default-true.ensures.taken.2.1; short = take_short c.in-Line-default-true.len c.read_line.new.buf c.in-Line-default-true.ensures.taken.2.0 }) in
    let read = c.in-Line-default-true.ensures.taken in
    let line = take c.in-Line-default-true.len c.read_line.new.buf in (
      ended line ++ w.0,
      then_rest _ _ _ c.in-Line-default-true.field-1 line read.0 w.0 (ended line ++ w.0) _ c.in-Line-default-true.field-1-test read.2.2 read.1 refl w.1,
      w.2,
      w.3,
    )

pub returns-in-Line-default-false-clause-stopped : goal.returns-in-Line-default-false-clause-stopped
returns-in-Line-default-false-clause-stopped g c = λ no n stop.
    let read = c.in-Line-default-false.ensures.taken in
    let line = take c.in-Line-default-false.len c.read_line.new.buf in
    let w = cut_line _ _ c.in-Line-default-false.field-1 line read.0 c.in-Line-default-false.field-1-test read.2.2 read.1 in
    let same = (subst (λ r. Consumes (prepend_known (take (c.args.papers.now.report.end - c.args.papers.now.report.at) (drop c.args.papers.now.report.at c.args.papers.now.report.buffer.items)) (g.R.Source.left c.args.papers.now.report.inner))
    (prepend_known (take (r.end - r.at) (drop r.at r.buffer.items)) (g.R.Source.left r.inner)) line × IsAtEnd (prepend_known (take (r.end - r.at) (drop r.at r.buffer.items)) (g.R.Source.left r.inner))) (sym c.own_begun.ensures.report) w) in
    (line, same.0, same.1, c.own_begun.ensures.stopped n stop (record { one = read.2.1; short = take_short c.in-Line-default-false.len c.read_line.new.buf read.2.0 }))

pub returns-in-End-clause-stopped : goal.returns-in-End-clause-stopped
returns-in-End-clause-stopped g c = λ no n stop.
    let read = c.in-End.ensures.taken in
    let same = (subst (λ r. Consumes (prepend_known (take (c.args.papers.now.report.end - c.args.papers.now.report.at) (drop c.args.papers.now.report.at c.args.papers.now.report.buffer.items)) (g.R.Source.left c.args.papers.now.report.inner))
    (prepend_known (take (r.end - r.at) (drop r.at r.buffer.items)) (g.R.Source.left r.inner)) [] × IsAtEnd (prepend_known (take (r.end - r.at) (drop r.at r.buffer.items)) (g.R.Source.left r.inner))) (sym c.own_begun-in-End.ensures.report)
    (no_line _ _ read.0 read.2.0 read.1 read.2.1)) in
    ([], same.0, same.1, c.own_begun-in-End.ensures.stopped n stop (record { one = tt; short = omega arith }))

pub returns-in-Line-default-false-clause-in_own : goal.returns-in-Line-default-false-clause-in_own
returns-in-Line-default-false-clause-in_own g c = λ no n stop.
    let read = c.in-Line-default-false.ensures.taken in
    let line = take c.in-Line-default-false.len c.read_line.new.buf in
    let w = cut_line _ _ c.in-Line-default-false.field-1 line read.0 c.in-Line-default-false.field-1-test read.2.2 read.1 in
    let same = (subst (λ r. Consumes (prepend_known (take (c.args.papers.now.report.end - c.args.papers.now.report.at) (drop c.args.papers.now.report.at c.args.papers.now.report.buffer.items)) (g.R.Source.left c.args.papers.now.report.inner))
    (prepend_known (take (r.end - r.at) (drop r.at r.buffer.items)) (g.R.Source.left r.inner)) line × IsAtEnd (prepend_known (take (r.end - r.at) (drop r.at r.buffer.items)) (g.R.Source.left r.inner))) (sym c.own_begun.ensures.report) w) in
    (line, same.0, same.1, c.own_begun.ensures.in_own n stop (record { one = read.2.1; short = take_short c.in-Line-default-false.len c.read_line.new.buf read.2.0 }))

pub returns-in-End-clause-in_own : goal.returns-in-End-clause-in_own
returns-in-End-clause-in_own g c = λ no n stop.
    let read = c.in-End.ensures.taken in
    let same = (subst (λ r. Consumes (prepend_known (take (c.args.papers.now.report.end - c.args.papers.now.report.at) (drop c.args.papers.now.report.at c.args.papers.now.report.buffer.items)) (g.R.Source.left c.args.papers.now.report.inner))
    (prepend_known (take (r.end - r.at) (drop r.at r.buffer.items)) (g.R.Source.left r.inner)) [] × IsAtEnd (prepend_known (take (r.end - r.at) (drop r.at r.buffer.items)) (g.R.Source.left r.inner))) (sym c.own_begun-in-End.ensures.report)
    (no_line _ _ read.0 read.2.0 read.1 read.2.1)) in
    ([], same.0, same.1, c.own_begun-in-End.ensures.in_own n stop (record { one = tt; short = omega arith }))

pub returns-in-Line-default-true-clause-only : goal.returns-in-Line-default-true-clause-only
returns-in-Line-default-true-clause-only g c = λ τ H texts history sees mid text more told steps may next.
    let read = c.in-Line-default-true.ensures.taken in
    let line = take c.in-Line-default-true.len c.read_line.new.buf in
    let w = same_line _ _ text _ may.are.0.one next c.in-Line-default-true.field-1 line read.0 c.in-Line-default-true.field-1-test read.2.1 read.2.2 read.1 in
    c.own_fits.ensures.only τ H texts history sees mid more told steps (subst (λ (l : List ℕ). MayAnswer g.D.TracedExtension.model g.D.TracedExtension.Fails τ (world (place H (left_of c.args.rates.now)) (g.D.TracedExtension.view c.args.desk.now)) mid c.args.first l more steps) (sym w.0) may) w.1

pub returns-in-Line-default-false-clause-only : goal.returns-in-Line-default-false-clause-only
returns-in-Line-default-false-clause-only g c = λ τ H texts history sees mid text more told steps may next.
    let read = c.in-Line-default-false.ensures.taken in
    absurd (not_within _ _ text _ may.are.0.one next c.in-Line-default-false.field-1 (take c.in-Line-default-false.len c.read_line.new.buf) read.0 c.in-Line-default-false.field-1-test read.2.1 read.2.2 read.1)

pub returns-in-End-clause-only : goal.returns-in-End-clause-only
returns-in-End-clause-only g c = λ τ H texts history sees mid text more told steps may next.
    let read = c.in-End.ensures.taken in
    absurd (not_at_end _ _ text _ may.are.0.one next read.0 read.2.0 read.2.1 read.1)

pub returns-in-Long-clause-only : goal.returns-in-Long-clause-only
returns-in-Long-clause-only g c = λ τ H texts history sees mid text more told steps may next.
    let read = c.in-Long.ensures.taken in
    absurd (not_long _ _ text _ may.are.0.one next read.0 read.2.0 read.2.1 may.are.0.short read.1)

pub returns-in-Line-default-true-clause-texts : goal.returns-in-Line-default-true-clause-texts
returns-in-Line-default-true-clause-texts g c = λ fits.
    let read = c.in-Line-default-true.ensures.taken in
    c.own_fits.ensures.texts fits (record { one = read.2.1; short = take_short c.in-Line-default-true.len c.read_line.new.buf read.2.0 })

-- by whether the run goes on
by_goes_on : {V : Type 0} (m : Model V) (τ : Tariff) (scene : Place) (desk : V) (first : Next) (told : List ℕ) (reach : Option Reach) (b : Bool) (Q : Ledger → V → Type 0)
    → EachOwnLeft m τ scene desk first told None (λ K kept. MatchBool b ⊥ (Q K kept)) → MatchBool b (EachOwnLeft m τ scene desk first told None (λ K kept. ⊥)) (EachOwnLeft m τ scene desk first told reach Q)
by_goes_on m τ scene desk first told reach true Q all = all
by_goes_on m τ scene desk first told reach false Q all = λ v line K kept begins goes stop. all v line K kept begins goes (stop.0, tt)

-- a stop that agrees, where the bytes that were written are these
agreed_bytes : {V : Type 0} (m : Model V) (τ : Tariff) (scene : Place) (desk : V) (first : Next) (told bytes : List ℕ) (reach : Option Reach) (Q : Ledger → V → Type 0) → told ≡ bytes
    → EachOwnLeft m τ scene desk first bytes reach Q → EachOwnLeft m τ scene desk first told reach Q
agreed_bytes m τ scene desk first told bytes reach Q same each = subst (λ (l : List ℕ). EachOwnLeft m τ scene desk first l reach Q) (sym same) each

pub returns-in-Line-default-true-clause-stops : goal.returns-in-Line-default-true-clause-stops
returns-in-Line-default-true-clause-stops g c = λ τ H texts history sees told report.
    let read = c.in-Line-default-true.ensures.taken in
    let first = take c.in-Line-default-true.len c.read_line.new.buf in
    let w = whole_line _ _ told report c.in-Line-default-true.field-1 first read.0 c.in-Line-default-true.field-1-test read.2.2 read.1 in
    by_goes_on g.D.TracedExtension.model τ (place H (left_of c.args.rates.now)) (g.D.TracedExtension.view c.args.desk.now) c.args.first told _ c.own_fits.result _
    (agreed_bytes g.D.TracedExtension.model τ (place H (left_of c.args.rates.now)) (g.D.TracedExtension.view c.args.desk.now) c.args.first told (ended first ++ w.0) None _ w.2
    (c.own_fits.ensures.stops τ H texts history sees w.0 (record { one = read.2.1; short = take_short c.in-Line-default-true.len c.read_line.new.buf read.2.0 }) w.1))

pub returns-in-Line-default-false-clause-stops : goal.returns-in-Line-default-false-clause-stops
returns-in-Line-default-false-clause-stops g c = λ τ H texts history sees told report.
    let read = c.in-Line-default-false.ensures.taken in
    let first = take c.in-Line-default-false.len c.read_line.new.buf in
    let same = within_line _ _ told report c.in-Line-default-false.field-1 first read.0 c.in-Line-default-false.field-1-test read.2.2 read.1 in
    agreed_bytes g.D.TracedExtension.model τ (place H (left_of c.args.rates.now)) (g.D.TracedExtension.view c.args.desk.now) c.args.first told first _ _ same
    (c.own_begun.ensures.stops read.2.1 τ H texts history sees)

pub returns-in-End-clause-stops : goal.returns-in-End-clause-stops
returns-in-End-clause-stops g c = λ τ H texts history sees told report.
    let read = c.in-End.ensures.taken in
    let same = none_left _ _ told report read.0 read.2.0 read.2.1 read.1 in
    agreed_bytes g.D.TracedExtension.model τ (place H (left_of c.args.rates.now)) (g.D.TracedExtension.view c.args.desk.now) c.args.first told [] _ _ same
    (c.own_begun-in-End.ensures.stops tt τ H texts history sees)

pub returns-in-Long-clause-stops : goal.returns-in-Long-clause-stops
returns-in-Long-clause-stops g c = λ τ H texts history sees told report v line K kept begins goes stop.
    let read = c.in-Long.ensures.taken in
    let w = long_front _ _ told report read.0 read.1 in
    absurd (no_long g.D.TracedExtension.model τ (place H (left_of c.args.rates.now)) v line told read.0 w.0 K kept w.1 read.2.0 read.2.1 stop.0)
