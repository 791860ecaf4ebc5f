use Rattle.std.proofs.Common.{List, Option, sym, subst}
use Rattle.std.specs.List.{All}
use Rattle.std.specs.Option.{IfSome}
use Rattle.centre_ledger.specs.declared.rows.DeviceRow.{DeviceRow}
use Rattle.centre_ledger.specs.Soundness.{IsSoundDevice}
use Rattle.centre_ledger.proofs.Kept.{sound_devices, sound_customers}
use Rattle.centre_ledger.proofs.accounts.Accounts.of.Goals as goal

pub are_owned-requires : goal.are_owned-requires
are_owned-requires c =
    subst (λ (rows : List (Option DeviceRow)). All (λ o. IfSome o IsSoundDevice) rows) (sym c.plain_rows-rows.ensures)
    (sound_devices (record { devices = c.args.devices; customers = c.args.customers }) c.requires.placed)

pub of-requires-clause-sound_devices : goal.of-requires-clause-sound_devices
of-requires-clause-sound_devices c =
    subst (λ (rows : List (Option DeviceRow)). All (λ o. IfSome o IsSoundDevice) rows) (sym c.plain_rows-rows.ensures)
    (sound_devices (record { devices = c.args.devices; customers = c.args.customers }) c.requires.placed)

pub of-requires-clause-sound_customers : goal.of-requires-clause-sound_customers
of-requires-clause-sound_customers c = sound_customers (record { devices = c.args.devices; customers = c.args.customers }) c.requires.placed
