use Rattle.std.proofs.Common.{sym, ap, ◌∙◌, arith, true≢false}
use Rattle.bench_base.proofs.Facts.{none_by}
use Rattle.centre_ledger.specs.declared.rows.DeviceRow.{DeviceRow}
use Rattle.centre_ledger.proofs.Fields.{zeros_behind}
use Rattle.centre_ledger.proofs.Reading.{both_found, bare_again, parts_made, spelling_made, spells, head_is, end_is, not_missed}
use Rattle.centre_ledger.proofs.payload.read_first.Goals as goal

pub returns-in_default-clause-none : goal.returns-in_default-clause-none
returns-in_default-clause-none c =
    λ r d h. c.in_default.ensures.none r d h.sound.enrolled (head_is 1 c.args.payload.now r (spells 1 c.args.payload.now r (omega arith, omega arith) h) h.reads)

pub returns-then-not-is_zero-clause-none : goal.returns-then-not-is_zero-clause-none
returns-then-not-is_zero-clause-none c =
    λ r d h.
    let end = end_is 1 c.args.payload.now r (spells 1 c.args.payload.now r (omega arith, omega arith) h) h.reads in
    absurd (true≢false (sym (c.is_zero.ensures.1 ((zeros_behind 188 4 c.args.payload.now c.requires.long).1 end)) ∙ c.if-not-is_zero.true))

pub with_messages-requires-clause-bare : goal.with_messages-requires-clause-bare
with_messages-requires-clause-bare c = bare_again 1 c.args.payload.now c.in-Some.row c.in-Some.ensures.found.0

pub returns-clause-found : goal.returns-clause-found
returns-clause-found c =
    let end = (zeros_behind 188 4 c.args.payload.now c.requires.long).0 (c.is_zero.ensures.0 c.if-not-is_zero.false) in
    let row = c.in-Some.ensures.found in
    both_found c.with_messages.result _ _ _
    (λ r found sound. (
      ap (λ (x : DeviceRow). x.device) found.0 ∙ row.1,
      spelling_made 1 c.args.payload.now r (omega arith, omega arith) c.requires.long (λ i. omega (arith, c.type_inv.payload i)) sound
          (parts_made 1 c.args.payload.now c.in-Some.row r row.0 row.2 found.0 found.1 end),
    )) c.with_messages.ensures.found c.with_messages.ensures.sound

pub returns-clause-none : goal.returns-clause-none
returns-clause-none c =
    none_by c.with_messages.result _ _
    (λ none r d h. not_missed 1 c.args.payload.now r (spells 1 c.args.payload.now r (omega arith, omega arith) h) h.reads c.in-Some.row c.in-Some.ensures.found.0 none) c.with_messages.ensures.none
