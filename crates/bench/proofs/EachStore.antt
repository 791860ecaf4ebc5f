-- What holds of each storage in its place holds of the storage of each node.
use Rattle.std.proofs.Common.{◌≡◌, ℕ, zero, suc, Some, subst}
use Rattle.std.specs.List.{All}
use Rattle.std.proofs.lemmas.Option.{slice_get_within, get_or_from_slice_get, same_Some}
use Rattle.std.proofs.lemmas.List.Elements.{All-get_or}
use Rattle.bench_base.specs.declared.{words.Node.Node, words.Node.TheVariants.Device, words.Node.TheVariants.Centre, words.Node.TheVariants.Host, words.Node.TheVariants.Verifier}
use Rattle.bench.specs.Benches.{Places, store_of}

pub each_store : {N : Type 0} (P : Node → N → Type 0) (stores : Places N) → ((d : ℕ) → All (P (Device d)) stores.devices) → P Centre stores.centre → P Host stores.host → P Verifier stores.verifier
    → (m : Node) (store : N) → store_of stores m ≡ Some store → P m store
each_store P stores devices centre host verifier (Device zero) store at = absurd (cc)
each_store P stores devices centre host verifier (Device (suc i)) store at =
    subst (P (Device (suc i))) (get_or_from_slice_get stores.devices i store store at)
    (All-get_or (P (Device (suc i))) stores.devices i store (slice_get_within stores.devices i store at) (devices (suc i)))
each_store P stores devices centre host verifier Centre store at = subst (P Centre) (same_Some stores.centre store at) centre
each_store P stores devices centre host verifier Host store at = subst (P Host) (same_Some stores.host store at) host
each_store P stores devices centre host verifier Verifier store at = subst (P Verifier) (same_Some stores.verifier store at) verifier
