use Rattle.std.proofs.Common.{◌≡◌, ◌≢◌, Option, IfSome, IfNone, sym, ◌∙◌, ap, subst, arith}
use Rattle.bench_base.specs.Table.{IsBytes}
use Rattle.psd_wire.specs.declared.message.Message.{Message}
use Rattle.psd_wire.specs.Grammar.{IsCoded, IsWhole, spell, read, coded_in}
use Rattle.psd_wire.proofs.Readings as laws
use Rattle.psd_wire.proofs.reading.read_under_by.Goals as goal

-- what holds of the definition holds of the answer
at : (P : Option Message → Type 0) (answer read : Option Message) → answer ≡ read → P read → P answer
at P answer read e h = subst P (sym e) h

pub returns-then-code_matches_by-clause-found : goal.returns-then-code_matches_by-clause-found
returns-then-code_matches_by-clause-found c =
    let bytes : IsBytes c.args.bytes.now = λ i. omega (arith, c.type_inv.bytes i) in
    at (λ o. IfSome o (λ x. IsCoded x × IsWhole x × (spell x c.args.key.now ≡ c.args.bytes.now))) _ (coded_in (read c.args.bytes.now))
    (c.coded_of.ensures ∙ ap coded_in c.read_message.ensures.exact)
    (laws.under_found c.args.bytes.now c.args.key.now bytes (c.code_matches_by.ensures.0 c.if-code_matches_by.true))

pub returns-then-code_matches_by-clause-none : goal.returns-then-code_matches_by-clause-none
returns-then-code_matches_by-clause-none c =
    at (λ o. IfNone o ((x : Message) → IsCoded x → IsWhole x → spell x c.args.key.now ≢ c.args.bytes.now)) _ (coded_in (read c.args.bytes.now))
    (c.coded_of.ensures ∙ ap coded_in c.read_message.ensures.exact)
    (laws.under_none c.args.bytes.now c.args.key.now)

pub returns-else-code_matches_by-clause-none : goal.returns-else-code_matches_by-clause-none
returns-else-code_matches_by-clause-none c x coded whole spelled =
    let right = c.code_matches_by.ensures.1 (laws.matches_spell x c.args.key.now c.args.bytes.now coded spelled) in
    let wrong = c.if-code_matches_by.false in absurd (cc)
