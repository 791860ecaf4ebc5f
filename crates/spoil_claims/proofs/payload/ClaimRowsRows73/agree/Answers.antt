use Rattle.std.proofs.Common.{ℕ, ◌+◌, inl, inr, sym, ap, subst, ◌∙◌, refl, arith, true≢false}
use Rattle.std.specs.Prelude.{IsSome, is_some}
use Rattle.std.proofs.lemmas.Bool.{cases_eq}
use Rattle.nv_store.specs.RoomView.{kept_in}
use Rattle.nv_store.specs.Store.{payload_of}
use Rattle.spoil_claims.proofs.Keeping.{some_by, some_by_not, all_packed, gap_found}
use Rattle.spoil_claims.proofs.payload.ClaimRowsRows73.agree.Goals as goal
use Rattle.spoil_claims.proofs.payload.ClaimRowsRows73.agree.Goals.{else-is_some-via-then-is_some+else-is_none, else-is_some-via-else-is_some}

pub returns-then-is_none : goal.returns-then-is_none
returns-then-is_none c = (
  λ wrong. absurd (true≢false (sym wrong)),
  λ packed. absurd (gap_found _ _ c.requires.filled c.loop-cell.cell c.loop-cell.auto.cell (omega (arith, c.requires.all, c.loop-cell-test.true))
      (some_by _ c.get_room.result _ c.is_some.result _ c.get_room.ensures.payload c.is_some.ensures c.if-is_some.true)
      (some_by_not _ c.get_room-then-is_some.result _ c.is_none.result _ c.get_room-then-is_some.ensures.payload c.is_none.ensures c.if-is_none.true) packed),
)

pub loop-cell-preserved : goal.loop-cell-preserved
loop-cell-preserved c = record {
  packed = λ k lt some. elim (cases_eq (k + 1) c.loop-cell.cell) [
    | inr differs ↦ c.loop-cell.invariant.packed k (omega (arith, lt, differs)) some
    | inl is ↦ elim c.else-is_some.branch [
      | else-is_some-via-then-is_some+else-is_none w ↦
          subst (λ (n : ℕ). IsSome (payload_of (kept_in c.args.room.now n))) (omega (arith, is))
          (some_by_not _ w.get_room-then-is_some.result _ w.is_none.result _ w.get_room-then-is_some.ensures.payload w.is_none.ensures w.if-is_none.false)
      | else-is_some-via-else-is_some w ↦
          absurd (true≢false (sym some ∙ ap (λ (n : ℕ). is_some (payload_of (kept_in c.args.room.now n))) is
          ∙ some_by _ c.get_room.result _ c.is_some.result _ c.get_room.ensures.payload c.is_some.ensures w.if-is_some.false))
    ]
  ];
}

pub returns : goal.returns
returns c = (
  λ yes. all_packed _ _ c.requires.filled (λ k lt some. c.loop-cell.invariant.packed k (omega (arith, lt, c.requires.all, c.loop-cell-test.false)) some),
  λ packed. refl,
)
