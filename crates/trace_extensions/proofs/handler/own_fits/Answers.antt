use Rattle.std.proofs.Common.{◌∙◌, inl, inr, Bool, true, false, sym, ap}
use Rattle.std.specs.Prelude.{MatchBool}
use Rattle.trace_bench.specs.Seeing.{audit_of}
use Rattle.trace_extensions.specs.Places.{place}
use Rattle.trace_extensions.specs.Rates.{left_of}
use Rattle.trace_extensions.proofs.OwnStops.{first_read, first_told}
use Rattle.trace_extensions.proofs.handler.own_fits.Goals as goal

-- with what is so however it compares
with_both : (X P Q : Type 0) (b : Bool) → X → MatchBool b P Q → MatchBool b (X × P) Q
with_both X P Q true x p = (x, p)
with_both X P Q false x q = q

-- by what the verdict says, where they are not the same
told_if : (b : Bool) (P Q : Type 0) → (P → Q) → MatchBool b ⊥ P → MatchBool b ⊥ Q
told_if true P Q f none = none
told_if false P Q f p = f p

pub returns-in-Err-clause-only : goal.returns-in-Err-clause-only
returns-in-Err-clause-only g c = λ τ H texts history sees mid more told steps may is. c.miss.ensures.open (c.in-Err.ensures.only τ H texts history sees mid steps may.asks may.tells)

pub returns-in-Ok-Say-clause-only : goal.returns-in-Ok-Say-clause-only
returns-in-Ok-Say-clause-only g c = λ τ H texts history sees mid more told steps may is.
    let met = (rw c.in-Ok-Say.field-0-is at c.in-Ok-Say.ensures.only) τ H texts history sees mid steps may.asks may.tells (λ stop. absurd (cc (stop))) in
    let same = c.laws.ensures.modelled.texts c.ask_all.new.desk ∙ ap (λ v. g.D.TracedExtension.model.texts v) (sym met.kept) ∙ may.texts in
    with_both _ _ _ c.answer_fits-fits.result met (c.answer_fits-fits.ensures.only more told same may.are.1 is)

pub returns-in-Ok-Say-clause-texts : goal.returns-in-Ok-Say-clause-texts
returns-in-Ok-Say-clause-texts g c = λ fits line. c.answer_fits-fits.ensures.texts fits line

pub returns-in-Err-clause-stops : goal.returns-in-Err-clause-stops
returns-in-Err-clause-stops g c = λ τ H texts history sees told one report v line K kept begins goes stop.
    let r = first_read g.D.TracedExtension.model c.laws.ensures.determined c.laws.ensures.alike g.D.TracedExtension.Fails (λ τ old new own steps did. c.laws.ensures.tells τ old new own steps did) τ (place H (left_of c.args.rates.now)) v
    (g.D.TracedExtension.view c.args.desk.now) line c.args.answer.now told c.args.first K kept one.one begins stop.0 in
    inr (inl (inl (c.miss.ensures.open (c.in-Err.ensures.only τ H texts history sees r.behind r.steps r.asks r.tells))))

pub returns-in-Ok-Say-clause-stops : goal.returns-in-Ok-Say-clause-stops
returns-in-Ok-Say-clause-stops g c = λ τ H texts history sees told one report v line K kept begins goes stop.
    let r = first_read g.D.TracedExtension.model c.laws.ensures.determined c.laws.ensures.alike g.D.TracedExtension.Fails (λ τ old new own steps did. c.laws.ensures.tells τ old new own steps did) τ (place H (left_of c.args.rates.now)) v
    (g.D.TracedExtension.view c.args.desk.now) line c.args.answer.now told c.args.first K kept one.one begins stop.0 in
    let met = (rw c.in-Ok-Say.field-0-is at c.in-Ok-Say.ensures.only) τ H texts history sees r.behind r.steps r.asks r.tells (λ stop. absurd (cc (stop))) in
    let same = c.laws.ensures.modelled.texts c.ask_all.new.desk ∙ ap (λ v. g.D.TracedExtension.model.texts v) (sym met.kept) ∙ r.texts in
    told_if c.answer_fits-fits.result _ _ (λ called. first_told g.D.TracedExtension.model c.laws.ensures.determined c.laws.ensures.alike g.D.TracedExtension.Fails (λ τ old new own steps did. c.laws.ensures.tells τ old new own steps did)
    g.D.TracedExtension.view c.args.number _ _ (audit_of c.ask_all.new.auditor) τ (place H (left_of c.args.rates.now)) (g.D.TracedExtension.view c.args.desk.now) c.args.first c.args.answer.now told (left_of c.ask_all.new.rates) K kept c.ask_all.new.desk r met called)
    (c.answer_fits-fits.ensures.stops r.more told same r.cut report)
