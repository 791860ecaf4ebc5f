use Rattle.std.proofs.Common.{arith}
use Rattle.bench_base.proofs.Facts.{none_by, is_so, not_so}
use Rattle.psd_state.proofs.Parted.{assembled, spells_new}
use Rattle.psd_state.proofs.Read.{some_by, fields_are, no_pending, no_mark, no_end, pending_is, mark_is, parts_made, zeros_behind, zeros_are}
use Rattle.psd_state.proofs.payload.read_second.Goals as goal

pub returns-in_default-clause-none : goal.returns-in_default-clause-none
returns-in_default-clause-none c =
    λ s h r d e. no_pending 2 _ _ c.second_fields-fields.ensures s (spells_new s h r) e (λ o. c.in_default.ensures.none o _)

pub returns-in_default-read_kept-clause-none : goal.returns-in_default-read_kept-clause-none
returns-in_default-read_kept-clause-none c =
    λ s h r d e. no_mark 2 _ _ c.second_fields-fields.ensures s (spells_new s h r) e c.in_default-read_kept.ensures.none

pub returns-then-not-is_zero-clause-none : goal.returns-then-not-is_zero-clause-none
returns-then-not-is_zero-clause-none c =
    λ s h r d e. no_end 2 _ _ c.second_fields-fields.ensures s (spells_new s h r) e
    (λ end. not_so _ _ c.is_zero.ensures c.if-not-is_zero.true (zeros_are c.args.payload.now c.requires end))

pub returns-clause-found : goal.returns-clause-found
returns-clause-found c =
    let pending = c.in-Some.ensures.found in
    let kept = c.in-Some-read_kept.ensures.found in
    let zeros = is_so _ _ c.is_zero.ensures c.if-not-is_zero.false in
    some_by c.record_of.result _ _
    (λ s found. (
      found.0,
      assembled 2 s c.args.payload.now (omega (arith, c.requires)) (λ i. omega (arith, c.type_inv.payload i))
          (parts_made 2 _ _ s _ _ c.second_fields-fields.ensures found.1 found.2 found.3 (pending.2 _) kept.2 (zeros_behind c.args.payload.now c.requires zeros)),
    )) c.record_of.ensures.found

pub returns-clause-none : goal.returns-clause-none
returns-clause-none c =
    let fields = c.second_fields-fields.ensures in
    let pending = c.in-Some.ensures.found in
    let kept = c.in-Some-read_kept.ensures.found in
    none_by c.record_of.result _ _
    (λ none s h r d e.
    let spells = spells_new s h r in
    none s h d (fields_are 2 _ _ fields s spells e) (pending_is 2 _ _ fields s spells e _ pending.0 pending.1 (pending.2 _)) (mark_is 2 _ _ fields s spells e _ kept.0 kept.1 kept.2)) c.record_of.ensures.none
