use Rattle.std.proofs.Common.{◌≡◌, ◌≤◌, sym, arith, drop, subst, IfSome}
use Rattle.registers.specs.Sums.{total}
use Rattle.psd_state.specs.declared.parts.Fields.{Fields}
use Rattle.std.proofs.lemmas.List.{length-take, length-drop}
use Rattle.bench_base.proofs.Facts.{none_by, is_so}
use Rattle.psd_state.specs.Payload.{sums_of}
use Rattle.psd_state.proofs.Parted.{assembled, spells_old}
use Rattle.psd_state.proofs.Read.{some_by, fields_are, no_pending, no_mark, pending_is, mark_is, not_old, parts_made, nothing_behind, first_alone}
use Rattle.psd_state.proofs.payload.read_first.Goals as goal

pub returns-in_default-clause-none : goal.returns-in_default-clause-none
returns-in_default-clause-none c =
    λ s h r old d e. no_pending 1 _ _ c.first_fields-fields.ensures s (spells_old s h r old) e c.in_default.ensures.none

pub returns-in_default-read_kept-clause-none : goal.returns-in_default-read_kept-clause-none
returns-in_default-read_kept-clause-none c =
    λ s h r old d e. no_mark 1 _ _ c.first_fields-fields.ensures s (spells_old s h r old) e c.in_default-read_kept.ensures.none

pub returns-then-not-is_old-clause-none : goal.returns-then-not-is_old-clause-none
returns-then-not-is_old-clause-none c =
    λ s h r old d e.
    let fields = c.first_fields-fields.ensures in
    let kept = c.in-Some-read_kept.ensures.found in
    not_old _ s _ _ (fields_are 1 _ _ fields s (spells_old s h r old) e) (mark_is 1 _ _ fields s (spells_old s h r old) e _ kept.0 kept.1 kept.2) old c.is_old.ensures c.if-not-is_old.true

pub returns-clause-found : goal.returns-clause-found
returns-clause-found c =
    let pending = c.in-Some.ensures.found in
    let kept = c.in-Some-read_kept.ensures.found in
    let old = is_so _ _ c.is_old.ensures c.if-not-is_old.false in
    some_by c.record_of.result _ _
    (λ s found. (
      found.0,
      record {
        total = subst (λ (x : Fields). total (sums_of x) ≤ 4294967295) found.1 old.0;
        pending = subst (λ o. IfSome o (λ q. q.version ≡ 1)) (sym found.2) (first_alone _ _ _ pending.0 pending.2 (omega (arith, c.requires, length-take 71 (drop 74 c.args.payload.now), length-drop 74 c.args.payload.now)));
        mark = subst (λ o. IfSome o (λ k. k.version ≡ 1)) (sym found.3) old.1;
      },
      assembled 1 s c.args.payload.now (omega (arith, c.requires)) (λ i. omega (arith, c.type_inv.payload i))
          (parts_made 1 _ _ s _ _ c.first_fields-fields.ensures found.1 found.2 found.3 pending.2 kept.2 (nothing_behind c.args.payload.now c.requires)),
    )) c.record_of.ensures.found

pub returns-clause-none : goal.returns-clause-none
returns-clause-none c =
    let fields = c.first_fields-fields.ensures in
    let pending = c.in-Some.ensures.found in
    let kept = c.in-Some-read_kept.ensures.found in
    none_by c.record_of.result _ _
    (λ none s h r old d e.
    let spells = spells_old s h r old in
    none s h d (fields_are 1 _ _ fields s spells e) (pending_is 1 _ _ fields s spells e _ pending.0 pending.1 pending.2) (mark_is 1 _ _ fields s spells e _ kept.0 kept.1 kept.2)) c.record_of.ensures.none
