use Rattle.std.proofs.Common.{◌≡◌, inr, ℕ, List, Option, Some, None, refl, sym, subst, ◌∙◌, true≢false}
use Rattle.bench_base.specs.Ledger.{Ledger}
use Rattle.ledger_moves.specs.Tariffs.{Tariff}
use Rattle.line_extensions.specs.Desks.{World, world}
use Rattle.trace_bench.specs.Seeing.{audit_of}
use Rattle.trace_extensions.specs.Exact.{reached}
use Rattle.trace_extensions.specs.Fits.{IsReachOf}
use Rattle.trace_extensions.specs.FitsStopped.{AgreedStop, ComesTo}
use Rattle.trace_extensions.specs.Models.{Model}
use Rattle.trace_extensions.specs.Places.{Place, place}
use Rattle.trace_extensions.specs.declared.papers.Reach.{Reach}
use Rattle.trace_extensions.specs.declared.papers.SideVerdict.TheVariants.{Stopped}
use Rattle.trace_extensions.specs.Rates.{left_of}
use Rattle.trace_extensions.proofs.OwnStops.{first_alike, idle_stop, known_stop, no_bytes, some_bytes}
use Rattle.trace_extensions.proofs.stopping.own_begun.Goals.{else-is_empty-via-then-is_empty+else-is_step, else-is_empty-via-else-is_empty}
use Rattle.trace_extensions.proofs.stopping.own_begun.Goals as goal

-- a stop that agrees with a reach of so many steps
reached_so : {V : Type 0} (m : Model V) (τ : Tariff) (at : World Place V) (line told : List ℕ) (K : Ledger) (kept : V) (reach : Option Reach) (number steps : ℕ) (r : Reach) → reach ≡ Some r → r.steps ≡ Some steps
    → AgreedStop m τ at line told K kept reach → AgreedStop m τ at line told K kept (Some (reached number steps))
reached_so m τ at line told K kept reach number steps r is so stop =
    let w = subst (λ (o : Option Reach). AgreedStop m τ at line told K kept o) is stop in
    (w.0, subst (λ (o : Option ℕ). ComesTo m τ at line told K kept o w.0) so w.1)

pub returns-then-is_step-clause-stops : goal.returns-then-is_step-clause-stops
returns-then-is_step-clause-stops g c = λ one τ H texts history sees v line K kept begins goes stop.
    idle_stop g.D.TracedExtension.model c.laws.ensures.determined c.laws.ensures.alike g.D.TracedExtension.Fails (λ τ old new own steps did. c.laws.ensures.tells τ old new own steps did) g.D.TracedExtension.view c.args.number _ _ (audit_of c.args.auditor.now)
    τ (place H (left_of c.args.rates.now)) (g.D.TracedExtension.view c.args.desk.now) c.args.first c.args.prefix.now
    (λ none old new line steps next did first desk. c.is_in_doubt.ensures.idle c.if-not-is_in_doubt.true none τ old new line steps next did first desk) (no_bytes c.args.prefix.now (c.if-is_empty.ensures)) sees c.end.ensures.verdict v line K kept begins goes stop

pub returns-then-is_step-clause-stopped : goal.returns-then-is_step-clause-stopped
returns-then-is_step-clause-stopped g c = λ n is text τ H texts history sees.
    let none = no_bytes c.args.prefix.now c.if-is_empty.ensures in
    inr (record {
      step = c.if-is_step.ensures.0 refl;
      silent = none;
      sees = sees;
      stays = refl;
      alike = λ v line begins. first_alike g.D.TracedExtension.model c.laws.ensures.determined c.laws.ensures.alike g.D.TracedExtension.Fails (λ τ old new own steps did. c.laws.ensures.tells τ old new own steps did) g.D.TracedExtension.view c.args.number None
          (Stopped n) (audit_of c.args.auditor.now) τ (place H (left_of c.args.rates.now)) (g.D.TracedExtension.view c.args.desk.now) c.args.first c.args.prefix.now
          (λ none old new line steps next did first desk. c.is_in_doubt.ensures.idle c.if-not-is_in_doubt.true none τ old new line steps next did first desk) none v line begins;
    })

pub returns-then-not-is_in_doubt-clause-stops : goal.returns-then-not-is_in_doubt-clause-stops
returns-then-not-is_in_doubt-clause-stops g c = λ one τ H texts history sees v line K kept begins goes stop.
    known_stop g.D.TracedExtension.model c.laws.ensures.determined c.laws.ensures.alike g.D.TracedExtension.Fails (λ τ old new own steps did. c.laws.ensures.tells τ old new own steps did) g.D.TracedExtension.view c.args.number _ _ (audit_of c.own_done.new.auditor)
    τ (place H (left_of c.args.rates.now)) (g.D.TracedExtension.view c.args.desk.now) c.args.first c.args.prefix.now
    (λ none old new line steps next did first desk. c.is_in_doubt.ensures.idle c.if-not-is_in_doubt.true none τ old new line steps next did first desk) (left_of c.own_done.new.rates) c.own_done.new.desk
    (elim c.else-is_empty.branch [
      | else-is_empty-via-then-is_empty+else-is_step w ↦ λ none step. true≢false (sym (w.is_step.ensures.1 step) ∙ w.if-is_step.false)
      | else-is_empty-via-else-is_empty w ↦ λ none step. some_bytes c.args.prefix.now w.if-is_empty.ensures none
    ]) one (λ old new line text more steps did first desk are p. c.is_in_doubt.ensures.settled c.if-not-is_in_doubt.true τ old new line text more steps did first desk are p)
    (λ behind text more steps asks told are p. c.own_done.ensures.stops τ H texts history sees behind text more steps asks told are p) v line K kept begins goes stop

pub returns-in_default-clause-stops : goal.returns-in_default-clause-stops
returns-in_default-clause-stops g c = λ one τ H texts history sees v line K kept begins goes stop.
    inr (inr (c.args.number, c.end-in_default.ensures.verdict, λ here. c.requires.begun (c.in_default.ensures.none (subst (λ r. IsReachOf r c.args.number) c.end-in_default.ensures.reach here))))

pub returns-clause-stops : goal.returns-clause-stops
returns-clause-stops g c = λ one τ H texts history sees v line K kept begins goes stop.
    let some = c.in-Some.ensures.some in
    c.own_reached.ensures.stops one τ H texts history sees v line K kept begins goes
    (reached_so g.D.TracedExtension.model τ (world (place H (left_of c.args.rates.now)) v) line c.args.prefix.now K kept _ c.args.number c.in-Some.steps some.0 (c.own_reached.ensures.reach ∙ some.1) some.3 stop)
