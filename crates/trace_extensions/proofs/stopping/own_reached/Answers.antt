use Rattle.std.proofs.Common.{◌∙◌, inl, inr, ℕ, sym, subst}
use Rattle.trace_bench.specs.Seeing.{audit_of}
use Rattle.line_extensions.specs.Desks.{world}
use Rattle.trace_extensions.specs.Exact.{FailsAt}
use Rattle.trace_extensions.specs.Places.{place}
use Rattle.trace_extensions.specs.Rates.{left_of}
use Rattle.trace_extensions.specs.Worlds.{StepLeft}
use Rattle.trace_extensions.proofs.Asked.{asked_after, asked_more}
use Rattle.trace_extensions.proofs.OwnStops.{no_bytes, some_bytes}
use Rattle.trace_extensions.proofs.Reached.{came, at_say, at_open, at_failure}
use Rattle.trace_extensions.proofs.stopping.own_reached.Goals as goal

pub returns-then-is_empty-clause-in_own : goal.returns-then-is_empty-clause-in_own
returns-then-is_empty-clause-in_own g c = λ n stop text τ H texts history sees.
    let asked = rw c.in-Ok-Some-Step.field-0-is at c.in-Ok-Some-Step.ensures.asked in
    inr (asked_after g.D.Extension (λ σ at e. StepLeft σ at e (audit_of c.step_open.new.auditor)) τ texts (world (place H (left_of c.args.rates.now)) c.args.desk.now) (audit_of c.ask_some.new.auditor)
    (left_of c.ask_some.new.rates) c.ask_some.new.desk c.args.first c.in-Ok-Some-Step.field-0-0 c.in-Ok-Some-Step.event c.args.prefix.now c.in-Ok-Some-Step.field-0-0-is
    (no_bytes c.args.prefix.now c.if-is_empty.ensures) (asked τ H texts history sees) (c.step_open.ensures.in_own n stop))

pub returns-in-Some-clause-in_own : goal.returns-in-Some-clause-in_own
returns-in-Some-clause-in_own g c = λ n stop text τ H texts history sees.
    let asked = rw c.in-Ok-Some-Step.field-0-is at c.in-Ok-Some-Step.ensures.asked in
    inl (record {
      rates = left_of c.step_failed.new.rates;
      asked = asked_more g.D.Extension τ texts (world (place H (left_of c.args.rates.now)) c.args.desk.now) (audit_of c.ask_some.new.auditor) (left_of c.ask_some.new.rates) c.ask_some.new.desk
          (audit_of c.step_failed.new.auditor) (left_of c.step_failed.new.rates) c.step_failed.new.desk c.args.first c.in-Ok-Some-Step.event c.in-Ok-Some-Step.field-0-0 _ c.in-Ok-Some-Step.field-0-0-is
          (asked τ H texts history sees) (c.step_failed.ensures.asked n stop);
      cut = c.step_failed.ensures.cut n stop text;
    })

pub returns-in-Err-clause-stops : goal.returns-in-Err-clause-stops
returns-in-Err-clause-stops g c = λ one τ H texts history sees v line K kept begins goes stop.
    let x = came g.D.TracedExtension.model c.laws.ensures.determined c.laws.ensures.asks c.laws.ensures.ends g.D.TracedExtension.Fails c.laws.ensures.failures (λ τ old new own steps did. c.laws.ensures.tells τ old new own steps did) τ (place H (left_of c.args.rates.now)) (g.D.TracedExtension.view c.args.desk.now) c.args.first c.args.prefix.now c.args.steps v line K kept begins one stop.0 stop.1 in
    inr (inl (inl (c.miss.ensures.open (c.in-Err.ensures.only τ H texts history sees x.mid x.steps x.next x.asks x.tells x.many))))

pub returns-in-Ok-None-clause-stops : goal.returns-in-Ok-None-clause-stops
returns-in-Ok-None-clause-stops g c = λ one τ H texts history sees v line K kept begins goes stop.
    let x = came g.D.TracedExtension.model c.laws.ensures.determined c.laws.ensures.asks c.laws.ensures.ends g.D.TracedExtension.Fails c.laws.ensures.failures (λ τ old new own steps did. c.laws.ensures.tells τ old new own steps did) τ (place H (left_of c.args.rates.now)) (g.D.TracedExtension.view c.args.desk.now) c.args.first c.args.prefix.now c.args.steps v line K kept begins one stop.0 stop.1 in
    let some = ((rw c.in-Ok-None.field-0-is at c.in-Ok-None.ensures.only) τ H texts history sees x.mid x.steps x.next x.asks x.tells x.many).0 in
    absurd (cc (some))

pub returns-then-is_empty-clause-stops : goal.returns-then-is_empty-clause-stops
returns-then-is_empty-clause-stops g c = λ one τ H texts history sees v line K kept begins goes stop.
    let x = came g.D.TracedExtension.model c.laws.ensures.determined c.laws.ensures.asks c.laws.ensures.ends g.D.TracedExtension.Fails c.laws.ensures.failures (λ τ old new own steps did. c.laws.ensures.tells τ old new own steps did) τ (place H (left_of c.args.rates.now)) (g.D.TracedExtension.view c.args.desk.now) c.args.first c.args.prefix.now c.args.steps v line K kept begins one stop.0 stop.1 in
    let met = (rw c.in-Ok-Some-Step.field-0-is at c.in-Ok-Some-Step.ensures.only) τ H texts history sees x.mid x.steps x.next x.asks x.tells x.many in
    let w = met.1 (λ stops. absurd (cc (stops, c.in-Ok-Some-Step.field-0-0-is))) in
    at_open g.D.TracedExtension.model c.laws.ensures.determined c.laws.ensures.asks c.laws.ensures.ends g.D.TracedExtension.Fails c.laws.ensures.failures (λ τ old new own steps did. c.laws.ensures.tells τ old new own steps did) τ (place H (left_of c.args.rates.now)) (g.D.TracedExtension.view c.args.desk.now) c.args.first c.args.prefix.now c.args.steps g.D.TracedExtension.view c.laws.ensures.alike c.args.number _ _ K kept x (left_of c.ask_some.new.rates) (audit_of c.ask_some.new.auditor) c.ask_some.new.desk w.1
    c.in-Ok-Some-Step.event (audit_of c.step_open.new.auditor) (w.0 ∙ c.in-Ok-Some-Step.field-0-0-is) (λ X left. c.step_open.ensures.stops τ x.mid.scene.ledger texts w.1.history w.1.sees X left)

pub returns-in-Some-clause-stops : goal.returns-in-Some-clause-stops
returns-in-Some-clause-stops g c = λ one τ H texts history sees v line K kept begins goes stop.
    let x = came g.D.TracedExtension.model c.laws.ensures.determined c.laws.ensures.asks c.laws.ensures.ends g.D.TracedExtension.Fails c.laws.ensures.failures (λ τ old new own steps did. c.laws.ensures.tells τ old new own steps did) τ (place H (left_of c.args.rates.now)) (g.D.TracedExtension.view c.args.desk.now) c.args.first c.args.prefix.now c.args.steps v line K kept begins one stop.0 stop.1 in
    let met = (rw c.in-Ok-Some-Step.field-0-is at c.in-Ok-Some-Step.ensures.only) τ H texts history sees x.mid x.steps x.next x.asks x.tells x.many in
    let w = met.1 (λ stops. absurd (cc (stops, c.in-Ok-Some-Step.field-0-0-is))) in
    at_failure g.D.TracedExtension.model c.laws.ensures.determined c.laws.ensures.asks c.laws.ensures.ends g.D.TracedExtension.Fails c.laws.ensures.failures (λ τ old new own steps did. c.laws.ensures.tells τ old new own steps did) τ (place H (left_of c.args.rates.now)) (g.D.TracedExtension.view c.args.desk.now) c.args.first c.args.prefix.now c.args.steps g.D.TracedExtension.view c.laws.ensures.alike c.args.number _ _ K kept x (left_of c.ask_some.new.rates) (audit_of c.ask_some.new.auditor) c.ask_some.new.desk w.1
    c.in-Ok-Some-Step.event (audit_of c.step_failed.new.auditor) (g.D.TracedExtension.view c.step_failed.new.desk) (w.0 ∙ c.in-Ok-Some-Step.field-0-0-is) (λ none. some_bytes c.args.prefix.now c.if-is_empty.ensures none)
    (λ behind text fails prefix. c.step_failed.ensures.stops τ x.mid.scene.ledger texts w.1.history w.1.sees behind text
    (subst (λ (n : ℕ). FailsAt g.D.TracedExtension.model g.D.TracedExtension.Fails τ
    (world (place x.mid.scene.ledger (left_of c.ask_some.new.rates)) (g.D.TracedExtension.view c.ask_some.new.desk)) behind c.in-Ok-Some-Step.event n text) (sym c.in-Some.ensures.1) fails) prefix)

pub returns-in-Ok-Some-Say-clause-stops : goal.returns-in-Ok-Some-Say-clause-stops
returns-in-Ok-Some-Say-clause-stops g c = λ one τ H texts history sees v line K kept begins goes stop.
    let x = came g.D.TracedExtension.model c.laws.ensures.determined c.laws.ensures.asks c.laws.ensures.ends g.D.TracedExtension.Fails c.laws.ensures.failures (λ τ old new own steps did. c.laws.ensures.tells τ old new own steps did) τ (place H (left_of c.args.rates.now)) (g.D.TracedExtension.view c.args.desk.now) c.args.first c.args.prefix.now c.args.steps v line K kept begins one stop.0 stop.1 in
    let met = (rw c.in-Ok-Some-Say.field-0-is at c.in-Ok-Some-Say.ensures.only) τ H texts history sees x.mid x.steps x.next x.asks x.tells x.many in
    let w = met.1 (λ stops. absurd (cc (stops, c.in-Ok-Some-Say.field-0-0-is))) in
    at_say g.D.TracedExtension.model c.laws.ensures.determined c.laws.ensures.asks c.laws.ensures.ends g.D.TracedExtension.Fails c.laws.ensures.failures (λ τ old new own steps did. c.laws.ensures.tells τ old new own steps did) τ (place H (left_of c.args.rates.now)) (g.D.TracedExtension.view c.args.desk.now) c.args.first c.args.prefix.now c.args.steps g.D.TracedExtension.view c.laws.ensures.alike c.args.number _ _ K kept x (left_of c.ask_some.new.rates) (audit_of c.ask_some.new.auditor) c.ask_some.new.desk w.1
    (w.0 ∙ c.in-Ok-Some-Say.field-0-0-is) (λ text more are prefix. c.answer_begins.ensures.begins text more (c.laws.ensures.modelled.texts c.ask_some.new.desk ∙ are) prefix)
