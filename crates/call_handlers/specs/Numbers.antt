-- What a device sends, under the number of its transaction.
use Rattle.std.specs.Prelude.{ℕ, List}
use Rattle.node_acts.specs.declared.act.Act.TheVariants.{Refuse, Tell, Commits}
use Rattle.psd_state.specs.Acts.{DeviceAct}
use Rattle.call_handlers.specs.declared.device_calls.Numbered.{Numbered}

abbrev pub under_number : ℕ → DeviceAct (List ℕ) → DeviceAct Numbered
under_number n (Refuse x) = Refuse x
under_number n (Tell note) = Tell (record { number = n; note = note })
under_number n (Commits c s note) = Commits c s (record { number = n; note = note })
