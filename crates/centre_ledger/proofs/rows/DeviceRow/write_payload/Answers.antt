use Rattle.std.proofs.Common.{length, sym, ap, subst, ◌∙◌, arith}
use Rattle.centre_ledger.specs.Payload.{DeviceReadsAs}
use Rattle.centre_ledger.proofs.Parted.{request_le, reply_le, spelled_of}
use Rattle.centre_ledger.proofs.OneRow.{written_device}
use Rattle.centre_ledger.proofs.rows.DeviceRow.write_payload.Goals as goal

pub joined-requires-clause-request : goal.joined-requires-clause-request
joined-requires-clause-request c = omega (arith, ap length c.uncoded.ensures, request_le 2 c.args.self.now (omega arith, omega arith) c.requires (λ e. absurd (omega (arith, e))))

pub joined-requires-clause-reply : goal.joined-requires-clause-reply
joined-requires-clause-reply c = omega (arith, ap length c.uncoded-2.ensures, reply_le 2 c.args.self.now (omega arith, omega arith) c.requires (λ e. absurd (omega (arith, e))))

pub returns-clause-value : goal.returns-clause-value
returns-clause-value c = c.joined.ensures.value ∙ spelled_of c.args.self.now _ _ _ _ c.head_bytes-head.ensures.value c.sums_bytes-sums.ensures.value c.uncoded.ensures c.uncoded-2.ensures

pub returns-clause-reads : goal.returns-clause-reads
returns-clause-reads c =
    subst (λ b. DeviceReadsAs b c.args.self.now) (sym (c.joined.ensures.value ∙ spelled_of c.args.self.now _ _ _ _ c.head_bytes-head.ensures.value c.sums_bytes-sums.ensures.value c.uncoded.ensures c.uncoded-2.ensures))
    (written_device c.args.self.now c.requires (record { head = c.head_bytes-head.ensures.fits; key = c.joined.ensures.key; sums = c.sums_bytes-sums.ensures.fits }))
