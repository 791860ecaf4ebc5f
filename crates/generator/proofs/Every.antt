-- What holds of each generated event.
use Rattle.std.proofs.Common.{ℕ, zero, suc, ◌+◌, ◌*◌, ◌%◌, ◌<◌, ◌≤◌, List, [], ◌∷◌, ◌++◌, length, refl, arith, length-append, if◌then◌else◌, ◌==◌, rules, Bool, true, false}
use Rattle.std.specs.List.{AllByRecursion}
use Rattle.bench_base.specs.Ranges.{IsWord, IsKey}
use Rattle.bench_base.specs.Events.{IsWholeEvent}
use Rattle.bench_base.specs.declared.events.Event.{Event}
use Rattle.generator.specs.declared.{turns.Counts.Counts, turns.Turn.Turn, turns.Turn.TheVariants.Scan, turns.Turn.TheVariants.Cut, turns.Turn.TheVariants.Reset}
use Rattle.generator.specs.Draws.{draw, number_after}
use Rattle.generator.specs.Given.{GivesOnlyDebits, NeedsNoStream}
use Rattle.generator.specs.Turns.{gives, turn_from, draws_of, events_of, counted, kind_from, postage_from, HasRoom}
use Rattle.generator.specs.Opening.{first_key, introductions, first_transactions, first_debits, opening}
use Rattle.generator.specs.Events.{turns, opened, generated}
use Rattle.generator.proofs.Debits.{IsBytes-ones, gives_whole, gives_debit}

each_append : (P : Event → Type 0) (a b : List Event) → AllByRecursion P a → AllByRecursion P b → AllByRecursion P (a ++ b)
each_append P [] b p q = q
each_append P (e ∷ a) b p q = (p.0, each_append P a b p.1 q)

-- what a turn draws fits its types
abbrev IsTurn : Turn → Type 0
IsTurn (Scan postage) = IsWord postage
IsTurn (Cut postage calls keep byte) = IsWord postage × IsWord calls × IsWord keep × (byte < 256)
IsTurn Reset = Unit {0}

if_turn : (b : Bool) (t u : Turn) → IsTurn t → IsTurn u → IsTurn (if b then t else u)
if_turn true t u h k = h
if_turn false t u h k = k

is_turn : (x : ℕ) → IsTurn (turn_from x)
unfolding turn_from
is_turn x =
    if_turn (kind_from x == 2) (Cut (postage_from x) (draw 3 x % 6) (draw 4 x % 300) (draw 5 x % 256)) _ (omega arith, omega arith, omega arith, omega arith)
    (if_turn (kind_from x == 3) Reset (Scan (postage_from x)) tt (omega arith))

-- room for a turn and more is room for the rest after it
room_counted : (n : ℕ) (c : Counts) (t : Turn) → HasRoom (suc n) c → HasRoom n (counted c t)
room_counted n c (Scan postage) h = record { pieces = omega (arith, h.pieces); messages = omega (arith, h.messages); scans = omega (arith, h.scans) }
room_counted n c (Cut postage calls keep byte) h = record { pieces = omega (arith, h.pieces); messages = omega (arith, h.messages); scans = omega (arith, h.scans) }
room_counted n c Reset h = record { pieces = omega (arith, h.pieces); messages = omega (arith, h.messages); scans = omega (arith, h.scans) }

-- what holds of the events of each turn holds of those of all turns
each_turn : (P : Event → Type 0) → ((n : ℕ) (c : Counts) (t : Turn) → HasRoom (suc n) c → IsTurn t → AllByRecursion P (events_of c t))
    → (n x : ℕ) (c : Counts) → HasRoom n c → AllByRecursion P (turns n x c)
each_turn P each zero x c h = tt
each_turn P each (suc n) x c h =
    each_append P (events_of c (turn_from x)) _ (each n c (turn_from x) h (is_turn x))
    (each_turn P each n (number_after (draws_of (turn_from x)) x) (counted c (turn_from x)) (room_counted n c (turn_from x) h))

whole_turn : (n : ℕ) (c : Counts) (t : Turn) → HasRoom (suc n) c → IsTurn t → AllByRecursion IsWholeEvent (events_of c t)
whole_turn n c (Scan postage) h k =
    (gives_whole (c.pieces + 1) postage (omega (arith, h.pieces)) k, ((omega arith, omega (arith, h.scans), omega (arith, h.messages)), tt))
whole_turn n c (Cut postage calls keep byte) h k =
    let given = gives_whole (c.pieces + 1) postage (omega (arith, h.pieces)) k.0 in
    (((omega arith, omega arith), k.1, k.2, k.3), (given, ((omega arith, omega arith), (given, tt))))
whole_turn n c Reset h k =
    (((omega arith, omega arith), (refl, omega arith)), (omega (arith, h.messages), (omega (arith, h.messages), (omega (arith, h.messages), (omega (arith, h.messages), tt)))))

debits_turn : (n : ℕ) (c : Counts) (t : Turn) → HasRoom (suc n) c → IsTurn t → AllByRecursion GivesOnlyDebits (events_of c t)
debits_turn n c (Scan postage) h k = (gives_debit (c.pieces + 1) postage (omega (arith, h.pieces)) k, (tt, tt))
debits_turn n c (Cut postage calls keep byte) h k =
    let given = gives_debit (c.pieces + 1) postage (omega (arith, h.pieces)) k.0 in
    (tt, (given, (tt, (given, tt))))
debits_turn n c Reset h k = (tt, (tt, (tt, (tt, (tt, tt)))))

has_room : (count : ℕ) → count ≤ 90000 → HasRoom count opened
has_room count few = record { pieces = omega (arith, few); messages = omega (arith, few); scans = omega (arith, few) }

pub whole_turns : (seed count : ℕ) → count ≤ 90000 → AllByRecursion IsWholeEvent (turns count seed opened)
whole_turns seed count few = each_turn IsWholeEvent whole_turn count seed opened (has_room count few)

pub debits_turns : (seed count : ℕ) → count ≤ 90000 → AllByRecursion GivesOnlyDebits (turns count seed opened)
debits_turns seed count few = each_turn GivesOnlyDebits debits_turn count seed opened (has_room count few)

few_of : (c : Counts) (t : Turn) → length (events_of c t) ≤ 5
few_of c (Scan postage) = omega arith
few_of c (Cut postage calls keep byte) = omega arith
few_of c Reset = omega arith

pub few_turns : (n x : ℕ) (c : Counts) → length (turns n x c) ≤ n * 5
few_turns zero x c = omega arith
few_turns (suc n) x c =
    omega (
      arith,
      length-append (events_of c (turn_from x)) (turns n (number_after (draws_of (turn_from x)) x) (counted c (turn_from x))),
      few_of c (turn_from x),
      few_turns n (number_after (draws_of (turn_from x)) x) (counted c (turn_from x)),
    )

whole_key : IsKey first_key
whole_key = (refl, IsBytes-ones 32)

whole_introductions : AllByRecursion IsWholeEvent introductions
whole_introductions = search (rules, whole_key)

whole_transactions : AllByRecursion IsWholeEvent first_transactions
whole_transactions = search rules

whole_debits : AllByRecursion IsWholeEvent first_debits
whole_debits = search rules

pub all_whole : (seed count : ℕ) → IsWord seed → count ≤ 90000 → AllByRecursion IsWholeEvent (generated seed count)
all_whole seed count word few =
    each_append IsWholeEvent opening (turns count seed opened)
    (each_append IsWholeEvent introductions (first_transactions ++ first_debits) whole_introductions (each_append IsWholeEvent first_transactions first_debits whole_transactions whole_debits))
    (whole_turns seed count few)

debits_opening : AllByRecursion GivesOnlyDebits opening
debits_opening = search rules

pub all_debits : (seed count : ℕ) → IsWord seed → count ≤ 90000 → AllByRecursion GivesOnlyDebits (generated seed count)
all_debits seed count word few = each_append GivesOnlyDebits opening (turns count seed opened) debits_opening (debits_turns seed count few)

alone_gives : (piece postage : ℕ) → NeedsNoStream (gives piece postage)
unfolding gives
alone_gives piece postage = record { rates = λ is. cc; printer = λ job is. cc }

alone_turn : (c : Counts) (t : Turn) → AllByRecursion NeedsNoStream (events_of c t)
alone_turn c (Scan postage) = (alone_gives (c.pieces + 1) postage, (record { rates = λ is. cc; printer = λ job is. cc }, tt))
alone_turn c (Cut postage calls keep byte) =
    let given = alone_gives (c.pieces + 1) postage in
    (record { rates = λ is. cc; printer = λ job is. cc }, (given, (record { rates = λ is. cc; printer = λ job is. cc }, (given, tt))))
alone_turn c Reset = search rules

alone_turns : (n x : ℕ) (c : Counts) → AllByRecursion NeedsNoStream (turns n x c)
alone_turns zero x c = tt
alone_turns (suc n) x c =
    each_append NeedsNoStream (events_of c (turn_from x)) _ (alone_turn c (turn_from x)) (alone_turns n (number_after (draws_of (turn_from x)) x) (counted c (turn_from x)))

alone_opening : AllByRecursion NeedsNoStream opening
alone_opening = search rules

pub all_alone : (seed count : ℕ) → AllByRecursion NeedsNoStream (generated seed count)
all_alone seed count = each_append NeedsNoStream opening (turns count seed opened) alone_opening (alone_turns count seed opened)
