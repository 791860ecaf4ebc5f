use Rattle.std.proofs.Common.{refl, ◌+◌, get_or, [], arith}
use Rattle.std.proofs.lemmas.Option.{slice_get_within}
use Rattle.bench_base.specs.declared.{words.Node.TheVariants.Device, words.Node.TheVariants.Centre, words.Node.TheVariants.Host, words.Node.TheVariants.Verifier}
use Rattle.psd_device.specs.NodeLaws as device_laws
use Rattle.row_node.specs.NodeLaws as row_laws
use Rattle.centre_protocol.specs.Table.{centre_laws}
use Rattle.host_node.specs.Table.{host_laws}
use Rattle.verifier_node.specs.Table.{verifier_laws}
use Rattle.bench_abstraction.specs.Kinds.{bench_kinds}
use Rattle.trace_device.specs.Records as device
use Rattle.trace_centre.specs.Cells as centre
use Rattle.trace_host.specs.Cells as host
use Rattle.trace_verifier.specs.Cells as verifier
use Rattle.trace_starts.specs.Standing.{no_device, no_centre, no_host, no_verifier}
use Rattle.trace_starts.proofs.Stand.{node_seen, node_shown, store_at, device_off, sees}
use Rattle.trace_starts.proofs.laws.sees_what_stands.Goals as goal

pub returns-clause-sees : goal.returns-clause-sees
returns-clause-sees g c images devices centre_record host_record scan_record a shown starts stores H stands =
    let stand = stands.stand in
    let have = stands.have in
    sees devices centre_record host_record scan_record a starts H stand.day
    (λ i r at.
    let store = store_at stores.devices i (omega (arith, have.eight, shown.eight, slice_get_within devices i r at)) in
    let is = shown.devices i r at in
    node_seen _ _ (bench_kinds.devices.seen (i + 1)) (Device (i + 1)) (i + 1) (get_or images.devices i []) store.0 H stands.tells (have.devices i store.0 store.1) (stands.closed (Device (i + 1)))
    (device_off _ stores H stand i store.0 store.1) (λ a b. device_laws.one_shown (i + 1) a b (get_or images.devices i [])) (device.seen_of r) is.sound is.shows)
    (node_seen _ _ (bench_kinds.centre.seen tt) Centre tt images.centre stores.centre H stands.tells have.centre (stands.closed Centre) (stand.nodes Centre stores.centre refl)
    (λ a b. row_laws.one_shown centre_laws a b images.centre) (centre.cells_of centre_record) shown.centre.sound shown.centre.shows)
    (node_seen _ _ (bench_kinds.host.seen tt) Host tt images.host stores.host H stands.tells have.host (stands.closed Host) (stand.nodes Host stores.host refl)
    (λ a b. row_laws.one_shown host_laws a b images.host) (host.cells_of host_record) shown.host.sound shown.host.shows)
    (node_seen _ _ (bench_kinds.verifier.seen tt) Verifier tt images.verifier stores.verifier H stands.tells have.verifier (stands.closed Verifier) (stand.nodes Verifier stores.verifier refl)
    (λ a b. row_laws.one_shown verifier_laws a b images.verifier) (verifier.cells_of scan_record) shown.verifier.sound shown.verifier.shows)

pub returns-clause-none : goal.returns-clause-none
returns-clause-none g c images (no_device i inside none) stores H stands =
    let store = store_at stores.devices i (omega (arith, stands.have.eight, inside)) in
    node_shown _ _ (bench_kinds.devices.seen (i + 1)) (Device (i + 1)) (i + 1) (get_or images.devices i []) store.0 H stands.tells (stands.have.devices i store.0 store.1) (stands.closed (Device (i + 1)))
    (device_off _ stores H stands.stand i store.0 store.1) (λ s sound shows. none s (record { sound = sound; shows = shows }))
returns-clause-none g c images (no_centre none) stores H stands =
    node_shown _ _ (bench_kinds.centre.seen tt) Centre tt images.centre stores.centre H stands.tells stands.have.centre (stands.closed Centre) (stands.stand.nodes Centre stores.centre refl)
    (λ s sound shows. none s (record { sound = sound; shows = shows }))
returns-clause-none g c images (no_host none) stores H stands =
    node_shown _ _ (bench_kinds.host.seen tt) Host tt images.host stores.host H stands.tells stands.have.host (stands.closed Host) (stands.stand.nodes Host stores.host refl)
    (λ s sound shows. none s (record { sound = sound; shows = shows }))
returns-clause-none g c images (no_verifier none) stores H stands =
    node_shown _ _ (bench_kinds.verifier.seen tt) Verifier tt images.verifier stores.verifier H stands.tells stands.have.verifier (stands.closed Verifier) (stands.stand.nodes Verifier stores.verifier refl)
    (λ s sound shows. none s (record { sound = sound; shows = shows }))
