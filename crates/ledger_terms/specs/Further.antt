-- What holds of every history beside that it is lawful.
use Rattle.std.specs.Prelude.{◌≡◌, ℕ, ◌+◌, ◌≤◌, false, List, [], ◌∷◌, ◌++◌, length, Option, Some, None, Ok, IsSomeAnd, ◌==◌, ◌&&◌, if◌then◌else◌}
use Rattle.bench_base.specs.declared.{words.Kind.TheVariants.Enrol, ledger.Commit.Commit, ledger.Commit.TheVariants.Debited, ledger.Commit.TheVariants.Ruled, ledger.Commit.TheVariants.Accepted}
use Rattle.bench_base.specs.Kinds.{same_kind}
use Rattle.bench_base.specs.Ranges.{IsDevice, InRange}
use Rattle.bench_base.specs.Ledger.{Ledger, IsSent, counted}
use Rattle.bench_base.specs.Rows.{first_of}
use Rattle.psd_wire.specs.declared.{message.ReplyMsg.ReplyMsg, message.Message.Message}
use Rattle.psd_wire.specs.declared.message.Message.TheVariants as m
use Rattle.psd_wire.specs.Grammar.{read}
use Rattle.ledger_terms.specs.Requests.{request_in}
use Rattle.ledger_terms.specs.Sums.{adds, ascending, loads, clears, buys, returns}
use Rattle.ledger_terms.specs.Centres.{enrolled}
use Rattle.ledger_terms.specs.Rulings.{ruled_reply}
use Rattle.ledger_terms.specs.InFlight.{acknowledged_resets, acknowledged_refunds, flight}
use Rattle.ledger_terms.specs.Sane.{is_imbalance}

-- a ruled Request that is no enrolment has the customer under which the centre enrolled its device
abbrev pub HasOwner : List Commit → Type 0
HasOwner (Ruled d n v note ∷ C) = same_kind (request_in note).kind Enrol ≡ false → enrolled d C ≡ Some (request_in note).customer
HasOwner C = Unit {0}

-- no ruling is that the sums disagree
abbrev pub NoImbalance : List Commit → Type 0
NoImbalance (Ruled d n v note ∷ C) = is_imbalance v ≡ false
NoImbalance C = Unit {0}

-- the numbers of the newest commit fit their fields; each device is one of 1 to 8
abbrev pub IsFitting : List Commit → Type 0
IsFitting [] = Unit {0}
IsFitting (c ∷ C) = InRange c

-- a message but a Release names one of the devices
abbrev pub IsAddressed : Message → Type 0
IsAddressed (m.Request q) = IsDevice q.device
IsAddressed (m.Reply p) = IsDevice p.device
IsAddressed (m.Done q) = IsDevice q.device
IsAddressed (m.Debit q) = IsDevice q.device
IsAddressed (m.Release x) = Unit {0}

-- what was sent reads as a message that is addressed
abbrev pub SentAreRead : Ledger → Type 0
SentAreRead H = (bytes : List ℕ) → IsSent bytes H → (x : Message) × (read bytes ≡ Ok x) × IsAddressed x

-- a Reply that was sent is, whole, the one to its ruling: its verdict and amount, its deadline and its origin
abbrev pub RepliesAreRuled : Ledger → Type 0
RepliesAreRuled H = (bytes : List ℕ) (p : ReplyMsg) → IsSent bytes H → read bytes ≡ Ok (m.Reply p) → ruled_reply p.device p.number (counted H) ≡ Some p

-- what was loaded is the beginning of what was bought, and what was cleared of what was returned, except for at most one amount; the newest comes first
pub record IsBeginning (loaded cleared buys returns : List ℕ) : Type 0 where
  pub bought : List ℕ
  pub returned : List ℕ
  pub loads : bought ++ loaded ≡ buys
  pub clears : returned ++ cleared ≡ returns
  pub one : length bought + length returned ≤ 1

abbrev pub Begins : List Commit → ℕ → Type 0
Begins C d = IsBeginning (loads d C) (clears d C) (buys d C) (returns d C)

-- no more is acknowledged as refunded than as bought
abbrev pub IsCovered : List Commit → ℕ → Type 0
IsCovered C d = acknowledged_refunds d C ≤ acknowledged_resets d C

-- == money to the letter box ==

-- the postage of the first Debited of this piece
abbrev pub postage_of : ℕ → ℕ → List Commit → Option ℕ
postage_of d p [] = None
postage_of d p (Debited e q postage class day version ∷ C) = if (e == d) && (q == p) then first_of (postage_of d p C) (Some postage) else postage_of d p C
postage_of d p (_ ∷ C) = postage_of d p C

-- the sum of both, where there are both
abbrev pub sum_of : Option ℕ → Option ℕ → Option ℕ
sum_of (Some a) (Some b) = Some (a + b)
sum_of a b = None

-- the postage of each acceptance, by the debits before it: a piece counts as often as it was accepted, and there is no sum where one was
-- accepted without a debit
abbrev pub accepted_postage : ℕ → List Commit → Option ℕ
accepted_postage d [] = Some 0
accepted_postage d (Accepted e piece scan ∷ C) = if e == d then sum_of (accepted_postage d C) (postage_of d piece C) else accepted_postage d C
accepted_postage d (_ ∷ C) = accepted_postage d C

-- mail that was accepted was franked, and what was franked was bought: by resets that are acknowledged, or by the one that is in flight and applied
pub record IsPaid (accepted : Option ℕ) (ascending resets flight : ℕ) : Type 0 where
  pub franked : IsSomeAnd accepted (λ postage. postage ≤ ascending)
  pub bought : ascending ≤ resets + flight

-- what was accepted of the device was franked, and what it franked was bought
abbrev pub Paid : List Commit → ℕ → Type 0
Paid C d = IsPaid (accepted_postage d C) (ascending d C) (acknowledged_resets d C) (flight adds d C)
