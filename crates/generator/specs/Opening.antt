-- The 28 events that each generated run begins with.
use Rattle.std.specs.Prelude.{ℕ, pos, List, [], ◌∷◌, ◌++◌, map, replicate}
use Rattle.std.specs.List.{range_with_len}
use Rattle.bench_base.specs.declared.{words.Kind.TheVariants.Enrol, words.Kind.TheVariants.Audit, words.Kind.TheVariants.Reset, words.Node.TheVariants.Device, words.Node.TheVariants.Centre, words.Node.TheVariants.Verifier, events.Event.Event}
use Rattle.bench_base.specs.declared.events.Event.TheVariants as ev

-- the key of device 1
abbrev pub first_key : List ℕ
first_key = replicate 32 1

-- on 2026-03-01 centre, verifier and device 1 are switched on, and they and a customer with money get to know each other
abbrev pub introductions : List Event
introductions =
    ev.Day (pos 20513)
    ∷ ev.On Centre
    ∷ ev.On Verifier
    ∷ ev.On (Device 1)
    ∷ ev.Make 1 first_key
    ∷ ev.Register 1 94105 first_key
    ∷ ev.Trust 1 first_key
    ∷ ev.OpenCustomer 1
    ∷ ev.Deposit 1 1 1000000000
    ∷ []

-- the device is enrolled, inspected and gets its first money: messages 0 to 5
abbrev pub first_transactions : List Event
first_transactions =
    ev.Ask 1 Enrol 1 0
    ∷ ev.Deliver 0
    ∷ ev.Deliver 1
    ∷ ev.Ask 1 Audit 0 0
    ∷ ev.Deliver 2
    ∷ ev.Deliver 3
    ∷ ev.Ask 1 Reset 0 1000000
    ∷ ev.Deliver 4
    ∷ ev.Deliver 5
    ∷ []

-- a piece of one mill and class 1
abbrev pub first_debit : ℕ → Event
first_debit piece = ev.Debit 1 piece 1 1

-- pieces 1 to 10
abbrev pub first_debits : List Event
first_debits = map first_debit (range_with_len 1 10)

abbrev pub opening : List Event
opening = introductions ++ first_transactions ++ first_debits
