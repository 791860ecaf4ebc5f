use Rattle.std.proofs.Common.{◌≡◌, ◌↔◌, Result, IfOk, IsErrOf, sym, ◌∙◌, subst, arith}
use Rattle.bench_base.specs.Table.{IsBytes}
use Rattle.bench_base.specs.declared.refusals.Unread.{Unread}
use Rattle.psd_wire.specs.declared.message.Message.{Message}
use Rattle.psd_wire.specs.Grammar.{IsReading}
use Rattle.psd_wire.specs.Faults.{HasFault}
use Rattle.psd_wire.proofs.Readings as laws
use Rattle.psd_wire.proofs.FaultLemmas.{fault}
use Rattle.psd_wire.proofs.reading.read_message.Goals as goal

-- what holds of the definition holds of the answer
at : (P : Result Message Unread → Type 0) (answer read : Result Message Unread) → answer ≡ read → P read → P answer
at P answer read e h = subst P (sym e) h

pub returns-clause-found : goal.returns-clause-found
returns-clause-found c =
    let bytes : IsBytes c.args.bytes.now = λ i. omega (arith, c.type_inv.bytes i) in
    at (λ r. IfOk r (λ x. IsReading c.args.bytes.now x)) _ _ c.message_of.ensures.exact (laws.found c.args.bytes.now bytes)

pub returns-clause-only : goal.returns-clause-only
returns-clause-only c message reading = c.message_of.ensures.exact ∙ laws.only c.args.bytes.now message reading

pub returns-clause-refused : goal.returns-clause-refused
returns-clause-refused c e = at (λ r. IsErrOf r e ↔ HasFault e c.args.bytes.now) _ _ c.message_of.ensures.exact (fault c.args.bytes.now e)
