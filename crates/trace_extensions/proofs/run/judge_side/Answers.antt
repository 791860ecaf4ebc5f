use Rattle.std.proofs.Common.{inl, inr, refl}
use Rattle.trace_bench.specs.Seeing.{audit_of}
use Rattle.line_runs.specs.declared.status.Status.TheVariants as status
use Rattle.trace_runs.specs.declared.verdict.Ending.TheVariants as ends
use Rattle.trace_extensions.proofs.Stopped.{may_have_stopped}
use Rattle.trace_extensions.proofs.Ran.{may_have_ended}
use Rattle.trace_extensions.proofs.RunFits.{complete_open, complete_whole, complete_stopped, fitting, never_lawful}
use Rattle.trace_extensions.proofs.StoppedFits.{end_stops, end_own_stops, line_stops, line_own_stops, cut_stops, cut_own_stops}
use Rattle.trace_extensions.proofs.StoppedRuns.{never_said, never_stopped, stop_fitted}
use Rattle.trace_extensions.proofs.run.judge_side.Goals as goal

pub returns-in-Run-Done-clause-sound : goal.returns-in-Run-Done-clause-sound
returns-in-Run-Done-clause-sound g c = λ end lawful.
    let o = c.over.ensures.lawful end lawful in
    may_have_ended g.D.Extension g.D.TracedExtension.view g.D.TracedExtension.model ends.Done end _ _ _ _ _ _ (rw c.in-Run-Done.field-0-is at c.in-Run-Done.ensures.ran) o.0 (audit_of c.args.auditor.now) c.args.rates.items _ c.new-left.ensures
    (λ H between. between.alike (audit_of c.begin.new.self) (c.begin.ensures.sees between.ledger between.sees)) o.2 o.1

pub returns-in-Run-Script-clause-sound : goal.returns-in-Run-Script-clause-sound
returns-in-Run-Script-clause-sound g c = λ end lawful.
    let o = c.over-in-Run-Script.ensures.lawful end lawful in
    may_have_ended g.D.Extension g.D.TracedExtension.view g.D.TracedExtension.model (ends.Script c.in-Run-Script.line) end _ _ _ _ _ _ (rw c.in-Run-Script.field-0-is at c.in-Run-Script.ensures.ran) o.0 (audit_of c.args.auditor.now) c.args.rates.items _ c.new-left.ensures
    (λ H between. between.alike (audit_of c.begin.new.self) (c.begin.ensures.sees between.ledger between.sees)) o.2 o.1

pub returns-in-Run-TooLong-clause-sound : goal.returns-in-Run-TooLong-clause-sound
returns-in-Run-TooLong-clause-sound g c = λ end lawful.
    let o = c.over-in-Run-TooLong.ensures.lawful end lawful in
    may_have_ended g.D.Extension g.D.TracedExtension.view g.D.TracedExtension.model ends.TooLong end _ _ _ _ _ _ (rw c.in-Run-TooLong.field-0-is at c.in-Run-TooLong.ensures.ran) o.0 (audit_of c.args.auditor.now) c.args.rates.items _ c.new-left.ensures
    (λ H between. between.alike (audit_of c.begin.new.self) (c.begin.ensures.sees between.ledger between.sees)) o.2 o.1

pub returns-clause-stopped : goal.returns-clause-stopped
returns-clause-stopped g c = λ n is.
    may_have_stopped g.D.Extension g.D.TracedExtension.view g.D.TracedExtension.model _ _ _ _ _ _ c.in-Stopped.ensures.ran (audit_of c.args.auditor.now) c.args.rates.items c.new-left.ensures
    (λ H between. between.alike (audit_of c.begin.new.self) (c.begin.ensures.sees between.ledger between.sees)) (n, inl (c.unlawful.ensures.stopped n is))

pub returns-clause-in_own : goal.returns-clause-in_own
returns-clause-in_own g c = λ n is.
    may_have_stopped g.D.Extension g.D.TracedExtension.view g.D.TracedExtension.model _ _ _ _ _ _ c.in-Stopped.ensures.ran (audit_of c.args.auditor.now) c.args.rates.items c.new-left.ensures
    (λ H between. between.alike (audit_of c.begin.new.self) (c.begin.ensures.sees between.ledger between.sees)) (n, inr (c.unlawful.ensures.in_own n is))

pub returns-in-Run-Done-clause-complete : goal.returns-in-Run-Done-clause-complete
returns-in-Run-Done-clause-complete g c =
    complete_whole g.D.Extension g.D.TracedExtension.view g.D.TracedExtension.model c.laws.ensures.modelled g.met.D.Extension.alone _ _ _ _ _ _ (audit_of c.args.auditor.now) c.args.rates.items c.new-left.ensures
    (λ H between. between.alike (audit_of c.begin.new.self) (c.begin.ensures.sees between.ledger between.sees)) c.over.result ends.Done (rw c.in-Run-Done.field-0-is at c.in-Run-Done.ensures.ran) c.over.ensures.only

pub returns-in-Run-Script-clause-complete : goal.returns-in-Run-Script-clause-complete
returns-in-Run-Script-clause-complete g c =
    complete_whole g.D.Extension g.D.TracedExtension.view g.D.TracedExtension.model c.laws.ensures.modelled g.met.D.Extension.alone _ _ _ _ _ _ (audit_of c.args.auditor.now) c.args.rates.items c.new-left.ensures
    (λ H between. between.alike (audit_of c.begin.new.self) (c.begin.ensures.sees between.ledger between.sees)) c.over-in-Run-Script.result (ends.Script c.in-Run-Script.line) (rw c.in-Run-Script.field-0-is at c.in-Run-Script.ensures.ran) c.over-in-Run-Script.ensures.only

pub returns-in-Run-TooLong-clause-complete : goal.returns-in-Run-TooLong-clause-complete
returns-in-Run-TooLong-clause-complete g c =
    complete_whole g.D.Extension g.D.TracedExtension.view g.D.TracedExtension.model c.laws.ensures.modelled g.met.D.Extension.alone _ _ _ _ _ _ (audit_of c.args.auditor.now) c.args.rates.items c.new-left.ensures
    (λ H between. between.alike (audit_of c.begin.new.self) (c.begin.ensures.sees between.ledger between.sees)) c.over-in-Run-TooLong.result ends.TooLong (rw c.in-Run-TooLong.field-0-is at c.in-Run-TooLong.ensures.ran) c.over-in-Run-TooLong.ensures.only

pub returns-clause-complete : goal.returns-clause-complete
returns-clause-complete g c =
    complete_stopped g.D.Extension g.D.TracedExtension.view g.D.TracedExtension.model c.laws.ensures.modelled g.met.D.Extension.alone _ _ _ _ _ _ (audit_of c.args.auditor.now) c.args.rates.items c.new-left.ensures
    (λ H between. between.alike (audit_of c.begin.new.self) (c.begin.ensures.sees between.ledger between.sees)) c.unlawful.result c.in-Stopped.ensures.ran c.unlawful.ensures.only

pub returns-in-Run-ReadFault-clause-complete : goal.returns-in-Run-ReadFault-clause-complete
returns-in-Run-ReadFault-clause-complete g c = complete_open g.D.Extension g.D.TracedExtension.view g.D.TracedExtension.model c.laws.ensures.modelled g.met.D.Extension.alone _ _ c.args.rates.items (g.D.TracedExtension.view c.args.desk.now) _ (audit_of c.args.auditor.now) _ _ _ tt

pub returns-in-Run-Words-clause-complete : goal.returns-in-Run-Words-clause-complete
returns-in-Run-Words-clause-complete g c = complete_open g.D.Extension g.D.TracedExtension.view g.D.TracedExtension.model c.laws.ensures.modelled g.met.D.Extension.alone _ _ c.args.rates.items (g.D.TracedExtension.view c.args.desk.now) _ (audit_of c.args.auditor.now) _ _ _ tt

pub returns-in-Run-Done-clause-fits : goal.returns-in-Run-Done-clause-fits
returns-in-Run-Done-clause-fits g c =
    fitting g.D.Extension g.D.TracedExtension.view g.D.TracedExtension.model c.laws.ensures.modelled g.met.D.Extension.alone _ _ _ _ c.args.rates.items c.args.desk.now _ (audit_of c.args.auditor.now) _ c.over.result (returns-in-Run-Done-clause-sound g c)

pub returns-in-Run-Script-clause-fits : goal.returns-in-Run-Script-clause-fits
returns-in-Run-Script-clause-fits g c =
    fitting g.D.Extension g.D.TracedExtension.view g.D.TracedExtension.model c.laws.ensures.modelled g.met.D.Extension.alone _ _ _ _ c.args.rates.items c.args.desk.now _ (audit_of c.args.auditor.now) _ c.over-in-Run-Script.result (returns-in-Run-Script-clause-sound g c)

pub returns-in-Run-TooLong-clause-fits : goal.returns-in-Run-TooLong-clause-fits
returns-in-Run-TooLong-clause-fits g c =
    fitting g.D.Extension g.D.TracedExtension.view g.D.TracedExtension.model c.laws.ensures.modelled g.met.D.Extension.alone _ _ _ _ c.args.rates.items c.args.desk.now _ (audit_of c.args.auditor.now) _ c.over-in-Run-TooLong.result (returns-in-Run-TooLong-clause-sound g c)

pub returns-clause-fits : goal.returns-clause-fits
returns-clause-fits g c = never_lawful g.D.Extension g.D.TracedExtension.view g.D.TracedExtension.model c.laws.ensures.modelled g.met.D.Extension.alone _ _ c.args.rates.items (g.D.TracedExtension.view c.args.desk.now) _ (audit_of c.args.auditor.now) _ c.unlawful.result c.unlawful.ensures.unlawful

pub returns-in-Run-ReadFault-clause-fits : goal.returns-in-Run-ReadFault-clause-fits
returns-in-Run-ReadFault-clause-fits g c = never_lawful g.D.Extension g.D.TracedExtension.view g.D.TracedExtension.model c.laws.ensures.modelled g.met.D.Extension.alone _ _ c.args.rates.items (g.D.TracedExtension.view c.args.desk.now) _ (audit_of c.args.auditor.now) _ _ (λ end is. absurd (cc (is)))

pub returns-in-Run-Words-clause-fits : goal.returns-in-Run-Words-clause-fits
returns-in-Run-Words-clause-fits g c = never_lawful g.D.Extension g.D.TracedExtension.view g.D.TracedExtension.model c.laws.ensures.modelled g.met.D.Extension.alone _ _ c.args.rates.items (g.D.TracedExtension.view c.args.desk.now) _ (audit_of c.args.auditor.now) _ _ (λ end is. absurd (cc (is)))

pub returns-in-Run-Done-clause-stops : goal.returns-in-Run-Done-clause-stops
returns-in-Run-Done-clause-stops g c =
    end_stops g.D.Extension g.D.TracedExtension.view g.D.TracedExtension.model c.laws.ensures.modelled g.met.D.Extension.alone _ _ _ _ _ _ (audit_of c.args.auditor.now) c.args.rates.items c.new-left.ensures
    (λ H between. between.alike (audit_of c.begin.new.self) (c.begin.ensures.sees between.ledger between.sees)) c.over.result status.Done tt (rw c.in-Run-Done.field-0-is at c.in-Run-Done.ensures.ran)

pub returns-in-Run-Done-clause-own_stops : goal.returns-in-Run-Done-clause-own_stops
returns-in-Run-Done-clause-own_stops g c =
    end_own_stops g.D.Extension g.D.TracedExtension.view g.D.TracedExtension.model c.laws.ensures.modelled g.met.D.Extension.alone _ _ _ _ _ _ (audit_of c.args.auditor.now) c.args.rates.items c.new-left.ensures
    (λ H between. between.alike (audit_of c.begin.new.self) (c.begin.ensures.sees between.ledger between.sees)) c.over.result status.Done tt (rw c.in-Run-Done.field-0-is at c.in-Run-Done.ensures.ran)

pub returns-in-Run-Script-clause-stops : goal.returns-in-Run-Script-clause-stops
returns-in-Run-Script-clause-stops g c =
    end_stops g.D.Extension g.D.TracedExtension.view g.D.TracedExtension.model c.laws.ensures.modelled g.met.D.Extension.alone _ _ _ _ _ _ (audit_of c.args.auditor.now) c.args.rates.items c.new-left.ensures
    (λ H between. between.alike (audit_of c.begin.new.self) (c.begin.ensures.sees between.ledger between.sees)) c.over-in-Run-Script.result (status.Script c.in-Run-Script.line) tt (rw c.in-Run-Script.field-0-is at c.in-Run-Script.ensures.ran)

pub returns-in-Run-Script-clause-own_stops : goal.returns-in-Run-Script-clause-own_stops
returns-in-Run-Script-clause-own_stops g c =
    end_own_stops g.D.Extension g.D.TracedExtension.view g.D.TracedExtension.model c.laws.ensures.modelled g.met.D.Extension.alone _ _ _ _ _ _ (audit_of c.args.auditor.now) c.args.rates.items c.new-left.ensures
    (λ H between. between.alike (audit_of c.begin.new.self) (c.begin.ensures.sees between.ledger between.sees)) c.over-in-Run-Script.result (status.Script c.in-Run-Script.line) tt (rw c.in-Run-Script.field-0-is at c.in-Run-Script.ensures.ran)

pub returns-in-Run-TooLong-clause-stops : goal.returns-in-Run-TooLong-clause-stops
returns-in-Run-TooLong-clause-stops g c =
    end_stops g.D.Extension g.D.TracedExtension.view g.D.TracedExtension.model c.laws.ensures.modelled g.met.D.Extension.alone _ _ _ _ _ _ (audit_of c.args.auditor.now) c.args.rates.items c.new-left.ensures
    (λ H between. between.alike (audit_of c.begin.new.self) (c.begin.ensures.sees between.ledger between.sees)) c.over-in-Run-TooLong.result status.TooLong tt (rw c.in-Run-TooLong.field-0-is at c.in-Run-TooLong.ensures.ran)

pub returns-in-Run-TooLong-clause-own_stops : goal.returns-in-Run-TooLong-clause-own_stops
returns-in-Run-TooLong-clause-own_stops g c =
    end_own_stops g.D.Extension g.D.TracedExtension.view g.D.TracedExtension.model c.laws.ensures.modelled g.met.D.Extension.alone _ _ _ _ _ _ (audit_of c.args.auditor.now) c.args.rates.items c.new-left.ensures
    (λ H between. between.alike (audit_of c.begin.new.self) (c.begin.ensures.sees between.ledger between.sees)) c.over-in-Run-TooLong.result status.TooLong tt (rw c.in-Run-TooLong.field-0-is at c.in-Run-TooLong.ensures.ran)

pub returns-clause-stops : goal.returns-clause-stops
returns-clause-stops g c =
    line_stops g.D.Extension g.D.TracedExtension.view g.D.TracedExtension.model c.laws.ensures.modelled g.met.D.Extension.alone _ _ _ _ _ _ (audit_of c.args.auditor.now) c.args.rates.items c.new-left.ensures
    (λ H between. between.alike (audit_of c.begin.new.self) (c.begin.ensures.sees between.ledger between.sees)) c.unlawful.result c.in-Stopped.ensures.ran c.unlawful.ensures.only

pub returns-clause-own_stops : goal.returns-clause-own_stops
returns-clause-own_stops g c =
    line_own_stops g.D.Extension g.D.TracedExtension.view g.D.TracedExtension.model c.laws.ensures.modelled g.met.D.Extension.alone _ _ _ _ _ _ (audit_of c.args.auditor.now) c.args.rates.items c.new-left.ensures
    (λ H between. between.alike (audit_of c.begin.new.self) (c.begin.ensures.sees between.ledger between.sees)) c.unlawful.result c.in-Stopped.ensures.ran c.unlawful.ensures.only

pub returns-in-Run-ReadFault-clause-stops : goal.returns-in-Run-ReadFault-clause-stops
returns-in-Run-ReadFault-clause-stops g c = cut_stops g.D.Extension g.D.TracedExtension.view g.D.TracedExtension.model c.laws.ensures.modelled g.met.D.Extension.alone _ _ c.args.rates.items (g.D.TracedExtension.view c.args.desk.now) _ (audit_of c.args.auditor.now) _ _ _ tt

pub returns-in-Run-ReadFault-clause-own_stops : goal.returns-in-Run-ReadFault-clause-own_stops
returns-in-Run-ReadFault-clause-own_stops g c = cut_own_stops g.D.Extension g.D.TracedExtension.view g.D.TracedExtension.model c.laws.ensures.modelled g.met.D.Extension.alone _ _ c.args.rates.items (g.D.TracedExtension.view c.args.desk.now) _ (audit_of c.args.auditor.now) _ _ _ tt

pub returns-in-Run-Words-clause-stops : goal.returns-in-Run-Words-clause-stops
returns-in-Run-Words-clause-stops g c = cut_stops g.D.Extension g.D.TracedExtension.view g.D.TracedExtension.model c.laws.ensures.modelled g.met.D.Extension.alone _ _ c.args.rates.items (g.D.TracedExtension.view c.args.desk.now) _ (audit_of c.args.auditor.now) _ _ _ tt

pub returns-in-Run-Words-clause-own_stops : goal.returns-in-Run-Words-clause-own_stops
returns-in-Run-Words-clause-own_stops g c = cut_own_stops g.D.Extension g.D.TracedExtension.view g.D.TracedExtension.model c.laws.ensures.modelled g.met.D.Extension.alone _ _ c.args.rates.items (g.D.TracedExtension.view c.args.desk.now) _ (audit_of c.args.auditor.now) _ _ _ tt

pub returns-in-Run-Done-clause-fits_stopped : goal.returns-in-Run-Done-clause-fits_stopped
returns-in-Run-Done-clause-fits_stopped g c = never_stopped g.D.Extension g.D.TracedExtension.view g.D.TracedExtension.model c.laws.ensures.modelled g.met.D.Extension.alone _ _ c.args.rates.items (g.D.TracedExtension.view c.args.desk.now) _ (audit_of c.args.auditor.now) _ _ c.args.papers.now.reach (never_said c.over.result c.over.ensures.unstopped c.over.ensures.in_own)

pub returns-in-Run-Script-clause-fits_stopped : goal.returns-in-Run-Script-clause-fits_stopped
returns-in-Run-Script-clause-fits_stopped g c = never_stopped g.D.Extension g.D.TracedExtension.view g.D.TracedExtension.model c.laws.ensures.modelled g.met.D.Extension.alone _ _ c.args.rates.items (g.D.TracedExtension.view c.args.desk.now) _ (audit_of c.args.auditor.now) _ _ c.args.papers.now.reach (never_said c.over-in-Run-Script.result c.over-in-Run-Script.ensures.unstopped c.over-in-Run-Script.ensures.in_own)

pub returns-in-Run-TooLong-clause-fits_stopped : goal.returns-in-Run-TooLong-clause-fits_stopped
returns-in-Run-TooLong-clause-fits_stopped g c = never_stopped g.D.Extension g.D.TracedExtension.view g.D.TracedExtension.model c.laws.ensures.modelled g.met.D.Extension.alone _ _ c.args.rates.items (g.D.TracedExtension.view c.args.desk.now) _ (audit_of c.args.auditor.now) _ _ c.args.papers.now.reach (never_said c.over-in-Run-TooLong.result c.over-in-Run-TooLong.ensures.unstopped c.over-in-Run-TooLong.ensures.in_own)

pub returns-clause-fits_stopped : goal.returns-clause-fits_stopped
returns-clause-fits_stopped g c =
    stop_fitted g.D.Extension g.D.TracedExtension.view g.D.TracedExtension.model c.laws.ensures.modelled g.met.D.Extension.alone _ _ _ _ _ _ c.in-Stopped.ensures.ran (audit_of c.args.auditor.now) c.args.rates.items c.new-left.ensures
    (λ H between. between.alike (audit_of c.begin.new.self) (c.begin.ensures.sees between.ledger between.sees)) refl c.unlawful.result c.unlawful.ensures.stopped c.unlawful.ensures.in_own

pub returns-in-Run-ReadFault-clause-fits_stopped : goal.returns-in-Run-ReadFault-clause-fits_stopped
returns-in-Run-ReadFault-clause-fits_stopped g c = never_stopped g.D.Extension g.D.TracedExtension.view g.D.TracedExtension.model c.laws.ensures.modelled g.met.D.Extension.alone _ _ c.args.rates.items (g.D.TracedExtension.view c.args.desk.now) _ (audit_of c.args.auditor.now) _ _ c.args.papers.now.reach (never_said _ (λ n is. absurd (cc (is))) (λ n is. absurd (cc (is))))

pub returns-in-Run-Words-clause-fits_stopped : goal.returns-in-Run-Words-clause-fits_stopped
returns-in-Run-Words-clause-fits_stopped g c = never_stopped g.D.Extension g.D.TracedExtension.view g.D.TracedExtension.model c.laws.ensures.modelled g.met.D.Extension.alone _ _ c.args.rates.items (g.D.TracedExtension.view c.args.desk.now) _ (audit_of c.args.auditor.now) _ _ c.args.papers.now.reach (never_said _ (λ n is. absurd (cc (is))) (λ n is. absurd (cc (is))))
