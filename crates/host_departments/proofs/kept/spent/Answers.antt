use Rattle.std.proofs.Common.{◌≡◌, ◌+◌, ℕ, Option, sym, ap, ◌∙◌, arith}
use Rattle.host_departments.specs.Kept.{rows_in}
use Rattle.host_departments.specs.Rows.{row_in, postage_in, postage_at}
use Rattle.host_departments.specs.declared.row.DepartmentRow.{DepartmentRow}
use Rattle.host_departments.proofs.Sums.{sum_none, sum_next}
use Rattle.host_departments.proofs.kept.spent.Goals as goal

pub loop-place-init : goal.loop-place-init
loop-place-init c = record { summed = sym (sum_none (postage_at (rows_in c.args.room.now) c.args.department)); few = omega arith }

pub loop-place-preserved : goal.loop-place-preserved
loop-place-preserved c =
    let here : c.from-sum.result ≡ postage_at (rows_in c.args.room.now) c.args.department c.loop-place.place =
    c.from-sum.ensures ∙ c.postage_in.ensures ∙ ap (λ (o : Option DepartmentRow). postage_in o) c.row_in.ensures
    ∙ ap (λ (n : ℕ). postage_in (row_in (rows_in c.args.room.now) (n + c.loop-place.place))) c.first_cell-first.ensures.is in
    record {
      summed = omega (arith, sum_next c.loop-place.place (postage_at (rows_in c.args.room.now) c.args.department), here, c.loop-place.invariant.summed);
      few = omega (arith, c.loop-place.invariant.few, c.from-sum.ensures, c.postage_in.type_inv);
    }
