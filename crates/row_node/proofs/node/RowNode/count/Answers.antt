use Rattle.std.proofs.Common.{ℕ, sym, ◌∙◌, ap}
use Rattle.nv_store.specs.Store.{count_sum}
use Rattle.row_node.specs.Kept.{seen_counts}
use Rattle.row_node.specs.NodeView.{held_in}
use Rattle.row_node.proofs.node.RowNode.count.Goals as goal

pub returns : goal.returns
returns g c =
    let k = c.args.self.now in
    let t = g.R.Rows.table in
    c.count.ensures ∙ ap (λ (n : ℕ). count_sum n (held_in k)) k.many ∙ sym (seen_counts t.cells t.reads (t.kept k.rows (held_in k)) (held_in k) k.filled)
