-- The event that compares a device with the centre, by what is seen of the two. The device answers before the centre.
use Rattle.std.specs.Prelude.{ℕ, ◌+◌, Option, Some, None, if◌then◌else◌}
use Rattle.bench_base.specs.declared.{words.Node.TheVariants.Device, words.Node.TheVariants.Centre, refusals.DevRefusal.TheVariants.Blank, events.Reply.Reply}
use Rattle.bench_base.specs.declared.events.Reply.TheVariants as r
use Rattle.node_acts.specs.declared.act.Act.TheVariants.{Refuse, Tell, Commits}
use Rattle.node_acts.specs.Views.{View}
use Rattle.psd_state.specs.State.{State}
use Rattle.psd_state.specs.Seen as device
use Rattle.centre_ledger.specs.Seen as centre
use Rattle.centre_ledger.specs.Seen.{books_in}
use Rattle.centre_ledger.specs.Acts.{CentreAct, standing_act}
use Rattle.centre_ledger.specs.declared.standing.Standing.{Standing}

-- what the device holds, beside what the centre says of it
abbrev pub stood : ℕ → ℕ → CentreAct Standing → Reply
stood d held (Refuse x) = r.CentreRefused x
stood d held (Tell a) = r.Reconciled d held a.centre a.in_flight
stood d held (Commits c x a) = r.Reconciled d held a.centre a.in_flight

abbrev pub compared : ℕ → Option State → CentreAct Standing → Reply
compared d None act = r.DevRefused d Blank
compared d (Some s) act = stood d (s.registers.ascending + s.registers.descending) act

abbrev pub compare : ℕ → View device.Seen → View centre.Seen → Reply
compare d v w =
    if v.on
    then (if w.on then compared d v.state.state (standing_act d (books_in w.state)) else r.OffNode Centre)
    else r.OffNode (Device d)
