-- Arming a fuse changes only the fuse.
use Rattle.std.proofs.Common.{◌≡◌, ℕ, Some, ◌∙◌, ap, subst}
use Rattle.nv_model.specs.declared.nv.Nv as nv
use Rattle.nv_model.specs.declared.fuse.Fuse as fuse
use Rattle.nv_model.specs.Fuses.{FuseState}
use Rattle.nv_model.specs.Still.{SameTimes}
use Rattle.node_storage.specs.declared.node.Node.{Ghosts}
use Rattle.node_storage.specs.Stands.{HasFuse}
use Rattle.node_storage.specs.Starts.{ArmDoes}
use Rattle.node_storage.proofs.Rests.{mounts_same}

has_fuse : (was is : FuseState) (calls keep byte : ℕ) → is ≡ record was { fuse = Some calls; keep = keep; byte = byte } → HasFuse is calls keep byte
has_fuse was is calls keep byte e = record { fuse = ap (λ (s : FuseState). s.fuse) e; keep = ap (λ (s : FuseState). s.keep) e; byte = ap (λ (s : FuseState). s.byte) e }

module _ {K S N C R : Type 0} (n : Ghosts K S N C R) (g : nv.Ghosts S) (f : fuse.Ghosts S) (calls keep byte : ℕ) where
  pub armed_does : (k k' : K) → f.fuse_of (n.storage k') ≡ record (f.fuse_of (n.storage k)) { fuse = Some calls; keep = keep; byte = byte }
      → SameTimes (g.times (n.storage k)) (g.times (n.storage k')) → g.size (n.storage k') ≡ g.size (n.storage k)
      → g.meters (n.storage k') ≡ record (g.meters (n.storage k)) { fuse = Some calls }
      → n.name k' ≡ n.name k → n.seen k' ≡ n.seen k → n.is_on k' ≡ n.is_on k → ArmDoes n g f calls keep byte k k'
  armed_does k k' armed times size meters name seen on = record {
    leaves = on;
    stands = λ d v st. record {
      on = on ∙ st.on;
      store = record {
        size = size ∙ st.store.size;
        sound = st.store.sound;
        shows = λ t image now. st.store.shows t image
            (subst (λ (m : ℕ). (g.times (n.storage k)).since m image) times.moment (times.since (g.times (n.storage k')).moment image now));
      };
      runs = λ is. let r = st.runs is in record { closed = r.closed; name = name ∙ r.name; seen = λ t. seen ∙ r.seen t };
    };
    mounts = λ tells. mounts_same (g.times (n.storage k)) (g.times (n.storage k')) times;
    armed = has_fuse (f.fuse_of (n.storage k)) (f.fuse_of (n.storage k')) calls keep byte armed;
    meters = meters;
  }
