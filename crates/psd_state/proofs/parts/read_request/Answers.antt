use Rattle.std.proofs.Common.{◌≡◌, sym, subst, IfSome, IfNone}
use Rattle.psd_wire.specs.declared.message.Request.{Request}
use Rattle.psd_wire.specs.declared.message.Message.TheVariants as m
use Rattle.psd_wire.specs.Grammar as grammar
use Rattle.psd_state.proofs.Under.{under_request}
use Rattle.psd_state.proofs.parts.read_request.Goals as goal

pub returns-clause-found : goal.returns-clause-found
returns-clause-found c =
    let is = under_request c.read_under.result c.args.key.now c.args.bytes.now c.read_under.ensures.found c.read_under.ensures.none in
    subst (λ o. IfSome o (λ q. grammar.IsWhole (m.Request q) × (grammar.spell (m.Request q) c.args.key.now ≡ c.args.bytes.now))) (sym c.request_of.ensures) is.0

pub returns-clause-none : goal.returns-clause-none
returns-clause-none c =
    let is = under_request c.read_under.result c.args.key.now c.args.bytes.now c.read_under.ensures.found c.read_under.ensures.none in
    subst (λ o. IfNone o ((q : Request) → grammar.IsWhole (m.Request q) → grammar.spell (m.Request q) c.args.key.now ≡ c.args.bytes.now → ⊥)) (sym c.request_of.ensures) is.1
