-- A device keeps what an act of it commits.
use Rattle.std.proofs.Common.{◌≡◌, Bool, Some, None, true, false, refl, if◌then◌else◌}
use Rattle.std.specs.Prelude.{IfSome}
use Rattle.bench_base.specs.declared.ledger.Commit.{Commit}
use Rattle.node_acts.specs.declared.act.Act.TheVariants.{Refuse, Tell, Commits}
use Rattle.node_acts.specs.Acts.{commit_in}
use Rattle.psd_state.specs.Acts.{DeviceAct}
use Rattle.psd_state.specs.State.{State}
use Rattle.psd_state.specs.Seen.{Seen, counting}
use Rattle.psd_device.specs.Shown.{IsStorable}

pub keeps_next : {A : Type 0} (s : Seen) (act : DeviceAct A) → ((c : Commit) (x : State) (a : A) → act ≡ Commits c x a → counting.is_worn s x ≡ false → IsStorable x)
    → IfSome (commit_in counting s act) (λ x. IfSome x.1.state IsStorable)
keeps_next s (Refuse x) kept = tt
keeps_next s (Tell a) kept = tt
keeps_next s (Commits c x a) kept = by (counting.is_worn s x) (kept c x a refl)
  where
    by : (worn : Bool) → (worn ≡ false → IsStorable x) → IfSome {T = Commit × Seen} (if worn then None else Some (c, counting.after s x)) (λ y. IfSome y.1.state IsStorable)
    by true keeps = tt
    by false keeps = keeps refl
