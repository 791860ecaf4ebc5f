-- What a call wrote.
use Rattle.std.proofs.Common.{◌≡◌, refl, sym, subst, not}
use Rattle.bench_base.specs.declared.ledger.Commit.{Commit}
use Rattle.nv_model.specs.declared.nv.Nv as nv
use Rattle.node_acts.specs.declared.{act.Act.Act, act.Act.TheVariants.Refuse, act.Act.TheVariants.Tell, act.Act.TheVariants.Commits, act.Outcome.Outcome}
use Rattle.node_acts.specs.declared.act.Outcome.TheVariants as o
use Rattle.node_acts.specs.Acts.{is_refusal}
use Rattle.node_storage.specs.declared.node.Node.{Ghosts}
use Rattle.node_storage.specs.Calls.{Wrote}
use Rattle.node_storage.specs.Does.{Writes}
use Rattle.node_storage.specs.Ends.{is_done}

module _ {K S N C R : Type 0} (n : Ghosts K S N C R) (g : nv.Ghosts S) {F A : Type 0} where
  -- a node that is off
  pub wrote_off : (act : Act C F A) (k : K) → Wrote n g act k k o.Off
  wrote_off (Refuse x) k = refl
  wrote_off (Tell a) k = refl
  wrote_off (Commits c x a) k = record { fills = λ tells began. cc; calls = λ made. cc }

  pub wrote_commit : (act : Act C F A) (c : Commit) (x : C) (a : A) → act ≡ Commits c x a → (k k' : K) (result : Outcome F A)
      → Writes g (n.fill (n.seen k) x) (n.storage k) (n.storage k') (not (is_refusal result)) (is_done result) → Wrote n g act k k' result
  wrote_commit act c x a is k k' result writes = subst (λ (b : Act C F A). Wrote n g b k k' result) (sym is) writes
