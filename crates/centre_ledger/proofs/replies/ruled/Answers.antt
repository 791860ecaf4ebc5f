use Rattle.std.proofs.Common.{subst}
use Rattle.psd_wire.specs.Grammar.{ReadsAs}
use Rattle.psd_wire.specs.declared.message.Message.TheVariants as m
use Rattle.centre_ledger.proofs.Keeping.{spelled_so}
use Rattle.centre_ledger.proofs.replies.ruled.Goals as goal

pub ruled_on-requires-clause-spelled : goal.ruled_on-requires-clause-spelled
ruled_on-requires-clause-spelled c =
    let q = c.in-Ok-Request.asked in
    let found = c.in-Ok-Request.ensures.found in
    let read_so : ReadsAs c.as_slice.result.now (m.Request q) found.0 = subst (λ x. ReadsAs c.as_slice.result.now x found.0) c.in-Ok-Request.field-0-is found.1 in
    let here : ReadsAs c.args.request.now (m.Request q) found.0 = subst (λ b. ReadsAs b (m.Request q) found.0) c.as_slice.ensures read_so in
    spelled_so q c.args.row.now.key c.args.request.now found.0 here c.requires.next.code
