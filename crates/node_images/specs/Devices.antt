-- What an image of a device's storage shows, by the device's commits and its record, and by the commit in doubt.
use Rattle.std.specs.Prelude.{ℕ, List, Option, Some, None, IfSome}
use Rattle.psd_state.specs.State.{State}
use Rattle.psd_state.specs.Seen.{Seen, counting}
use Rattle.psd_device.specs.Shown.{ShowsSeen}
use Rattle.psd_device.specs.Sound.{IsSound}
use Rattle.node_images.specs.declared.cell.CellShows.{CellShows}
use Rattle.node_images.specs.Cells.{IsWhat}

-- the record, and that with the change in doubt, are ones of device d that its storage can show
pub record AreSound (d : ℕ) (s : Seen) (changed : Option State) : Type 0 where
  pub state : IsSound d s
  pub next : IfSome changed (λ x. IsSound d (counting.after s x))

-- the image shows that with the change in doubt, if there is one
abbrev pub ShowsChanged : Seen → Option State → List ℕ → Type 0
ShowsChanged s None image = ⊥
ShowsChanged s (Some x) image = ShowsSeen (counting.after s x) image

abbrev pub DeviceIs : ℕ → Seen → Option State → List ℕ → CellShows → Type 0
DeviceIs d s changed image shows = IsWhat (AreSound d s changed × ShowsSeen s image) (AreSound d s changed × ShowsChanged s changed image) shows
