-- A node of rows meets the laws of a node.
use Rattle.std.proofs.Common.{◌≡◌, ℕ, ◌+◌, List, arith}
use Rattle.nv_model.specs.declared.nv.Nv.{Ghosts}
use Rattle.node_acts.specs.RowList.{RowList}
use Rattle.node_acts.specs.RowLaws.{put_counts}
use Rattle.row_node.specs.ShowsLaws as table
use Rattle.row_node.specs.Tables.{Table, IsShown, IsDamaged, bytes_of, counting}
use Rattle.row_node.specs.Laws.{Laws}

module _ {S X : Type 0} {L : ℕ} {t : Table S X} (laws : Laws L t) where
  pub one_shown : (a b : RowList t.Row) (c : List ℕ) → t.IsSound a → t.IsSound b → IsShown t L a c → IsShown t L b c → a ≡ b
  one_shown a b c sound sound' shown shown' = table.one_shown L t.cells t.reads laws.one_row a b c (laws.long a sound) (laws.long b sound') shown shown'

  pub counts : (s : RowList t.Row) (x : X) → t.IsSound s → t.HasCell x → (counting t).count ((counting t).after s x) ≡ (counting t).count s + 1
  counts s x sound has = put_counts s (t.cell x) (t.row s x) (omega (arith, laws.inside x has, laws.long s sound))

  pub intact : {N : Type 0} (g : Ghosts N) (s : RowList t.Row) (nv : N) → t.IsSound s → IsShown t L s (g.content nv) → g.size nv ≡ bytes_of t L
      → IsDamaged t L g nv → ⊥
  intact g s nv sound shown size damaged = table.intact L t.cells t.reads laws.one_row t.Agree g s nv (laws.long s sound)
      (laws.agree s sound) shown size damaged
