-- What every history meets: nine clauses that hold of each prefix of the ledger. They say what the newest of its counted commits may be
-- after those before it.
use Rattle.std.specs.Prelude.{◌≡◌, ℕ, ℤ, pos, ◌+◌, ◌-◌, ◌+ℤ◌, ◌≤◌, ◌≤ℤ◌, ◌<ℤ◌, Bool, true, false, List, [], ◌∷◌, Option, Some, None, IsSome, ◌==◌, ◌&&◌, ◌⊎◌, if◌then◌else◌}
use Rattle.bench_base.specs.declared.{words.Phase.TheVariants.InService, ledger.Commit.Commit, ledger.Commit.TheVariants.Asked, ledger.Commit.TheVariants.Applied, ledger.Commit.TheVariants.Debited, ledger.Commit.TheVariants.Ruled, ledger.Commit.TheVariants.Settled, ledger.Commit.TheVariants.Held, ledger.Commit.TheVariants.Accepted, ledger.Entry.TheVariants.Released, ledger.Entry.TheVariants.Printed}
use Rattle.bench_base.specs.Rules.{Rules}
use Rattle.bench_base.specs.Kinds.{is_granted, empties}
use Rattle.bench_base.specs.Ledger.{Ledger, counted, IsReleased, IsReleasedAs, IsPrinted}
use Rattle.bench_base.specs.Jobs.{Job, job_of, held_of, begun}
use Rattle.bench_base.specs.Scans.{accepted}
use Rattle.ledger_terms.specs.Requests.{request_in, note_of, request_of}
use Rattle.ledger_terms.specs.Sums.{adds, takes, loaded, refunded, ascending, descending, pieces}
use Rattle.ledger_terms.specs.Devices.{key_of, applied_of, pending, frozen, phase, deadline, last_day}
use Rattle.ledger_terms.specs.Centres.{ruled, settled, deposits, customer_bought, customer_returned}
use Rattle.ledger_terms.specs.Franking.{marked}
use Rattle.ledger_terms.specs.InFlight.{ruling_of, acknowledged_resets, acknowledged_refunds, flight}

-- P holds of the list and of each list that it grew from; lists grow at the front, so a list of what happened begins with the newest
abbrev pub Always : {A : Type 0} → (List A → Type 0) → List A → Type 0
Always P [] = P []
Always P (x ∷ xs) = P (x ∷ xs) × Always P xs

-- P holds of each device
abbrev pub AllDevices : (ℕ → Type 0) → Type 0
AllDevices P = (d : ℕ) → 1 ≤ d → d ≤ 8 → P d

-- P holds of each customer
abbrev pub AllCustomers : (ℕ → Type 0) → Type 0
AllCustomers P = (c : ℕ) → 1 ≤ c → c ≤ 64 → P c

-- == numbering ==

-- how many transactions the device asked for
abbrev pub asks : ℕ → List Commit → ℕ
asks d [] = 0
asks d (Asked e n note ∷ C) = if e == d then asks d C + 1 else asks d C
asks d (_ ∷ C) = asks d C

-- The k-th Asked has number k, and comes after the Applied of the number before.
-- A Ruled comes once for each number, after the Asked of that number with the same Request.
-- An Applied comes once for each number, after the Ruled of that number with the same verdict.
abbrev pub Numbering : List Commit → Type 0
Numbering (Asked d n note ∷ C) = (n ≡ asks d C + 1) × ((n ≡ 1) ⊎ IsSome (applied_of d (n - 1) C))
Numbering (Ruled d n v note ∷ C) = (ruling_of d n C ≡ None) × (note_of d n C ≡ Some note)
Numbering (Applied d n v ∷ C) = (applied_of d n C ≡ None) × (note : List ℕ) × (ruling_of d n C ≡ Some (v, note))
Numbering C = Unit {0}

-- == debits ==

-- the next piece is debited in order, at 1 to 100,000 mills, and no more than what is left
pub record IsNextDebit (ρ : Rules) (piece postage version pieces descending : ℕ) : Type 0 where
  pub next : piece ≡ pieces + 1
  pub low : 1 ≤ postage
  pub high : postage ≤ 100000
  pub funded : postage ≤ descending
  pub from_1 : 1 ≤ version
  pub known : version ≤ ρ.version

-- the k-th Debited has piece k; its postage is from 1 to 100,000 mills, and at most descending before it;
-- its mark has a version that the rules write, or wrote before
abbrev pub NextDebit : Rules → List Commit → Type 0
NextDebit ρ (Debited d piece postage class day version ∷ C) = IsNextDebit ρ piece postage version (pieces d C) (descending d C)
NextDebit ρ C = Unit {0}

-- no more was spent and refunded than loaded, and the registers together are within the limit
pub record IsWithin (total ascending descending refunded loaded : ℕ) : Type 0 where
  pub covered : ascending + refunded ≤ loaded
  pub within : ascending + descending + refunded ≤ total

-- the sums of the device stay within the greatest total
abbrev pub Totals : Rules → List Commit → ℕ → Type 0
Totals ρ C d = IsWithin ρ.total (ascending d C) (descending d C) (refunded d C) (loaded d C)

-- the newest debit was allowed, and the sums of every device are within the greatest total
abbrev pub Debits : Rules → List Commit → Type 0
Debits ρ C = NextDebit ρ C × AllDevices (Totals ρ C)

-- == releases ==

-- a released mark is the spelling of the mark of a Debited of that device and piece that counts before it; the device was made
abbrev pub Releases : Ledger → Type 0
Releases (Released d piece mark ∷ H) = IsSome (key_of d (counted H)) × (marked d piece (counted H) ≡ Some mark)
Releases H = Unit {0}

-- == refunds ==

-- a Debited of the device came after the Asked of this number
abbrev pub debited_since : ℕ → ℕ → List Commit → Bool
debited_since d n [] = false
debited_since d n (Asked e m note ∷ C) = if (e == d) && (m == n) then false else debited_since d n C
debited_since d n (Debited e piece postage class day version ∷ C) = if e == d then true else debited_since d n C
debited_since d n (_ ∷ C) = debited_since d n C

-- a granted refund or withdrawal is ruled with the amount that descending has;
-- no Debited stands between its Asked and its Applied, and just after the Applied descending is 0
abbrev pub Refunds : List Commit → Type 0
Refunds (Ruled d n v note ∷ C) = is_granted v ≡ true → empties (request_in note).kind ≡ true → (request_in note).amount ≡ descending d C
Refunds (Applied d n v ∷ C) = is_granted v ≡ true → empties (request_of d n C).kind ≡ true → (debited_since d n C ≡ false)
    × (descending d (Applied d n v ∷ C) ≡ 0)
Refunds C = Unit {0}

-- == registers ==

-- a Settled comes after the Applied of its number
abbrev pub AfterApplied : List Commit → Type 0
AfterApplied (Settled d n ∷ C) = IsSome (applied_of d n C)
AfterApplied C = Unit {0}

-- at most one ruling is in flight; ascending and descending together are the acknowledged resets less the refunds,
-- with what the ruling in flight adds and takes off where it is applied
pub record IsBalanced (settled ruled ascending descending resets refunds adds takes : ℕ) : Type 0 where
  pub one_in_flight : ruled ≤ settled + 1
  pub equal : ascending + descending + (refunds + takes) ≡ resets + adds

-- the registers of the device are its acknowledged resets less its refunds, with the one ruling that is in flight
abbrev pub Accounts : List Commit → ℕ → Type 0
Accounts C d = IsBalanced (settled d C) (ruled d C) (ascending d C) (descending d C) (acknowledged_resets d C) (acknowledged_refunds d C)
    (flight adds d C) (flight takes d C)

-- so it is of every device, and after an application
abbrev pub Registers : List Commit → Type 0
Registers C = AfterApplied C × AllDevices (Accounts C)

-- == balances ==

-- a balance is not below 0, and deposits are within their limit
pub record IsSolvent (deposits bought returned : ℕ) : Type 0 where
  pub balance : bought ≤ deposits + returned
  pub limit : deposits ≤ 1000000000000000

-- the customer's resets are covered by its deposits and refunds
abbrev pub Solvent : List Commit → ℕ → Type 0
Solvent C c = IsSolvent (deposits c C) (customer_bought c C) (customer_returned c C)

-- so it is of every customer
abbrev pub Balances : List Commit → Type 0
Balances C = AllCustomers (Solvent C)

-- == days ==

-- not before the last day, and not past the deadline; days of grace are for small postage alone
pub record IsInTime (ρ : Rules) (postage : ℕ) (day last_day deadline : ℤ) : Type 0 where
  pub forward : last_day ≤ℤ day
  pub due : day ≤ℤ (deadline +ℤ pos ρ.grace)
  pub small : deadline <ℤ day → postage ≤ ρ.small

-- a Debited is in time; the stored phase before it is in service, and no refund or withdrawal is pending
abbrev pub Days : Rules → List Commit → Type 0
Days ρ (Debited d piece postage class day version ∷ C) =
    IsInTime ρ postage day (last_day d C) (deadline d C) × (phase d C ≡ InService) × (frozen (pending d C) ≡ false)
Days ρ C = Unit {0}

-- == acceptances ==

-- in the ledger P, an Accepted comes once for each piece, after a Released of that piece
abbrev pub AcceptedOnce : Ledger → List Commit → Type 0
AcceptedOnce P (Accepted d piece scan ∷ C) = (accepted d piece C ≡ None) × IsReleasedAs d piece P
AcceptedOnce P C = Unit {0}

-- no piece is accepted twice, and each was released before
abbrev pub Acceptances : Ledger → Type 0
Acceptances P = AcceptedOnce P (counted P)

-- == prints ==

-- the job is there, and is for this piece of the device
abbrev pub is_of_piece : ℕ → ℕ → Option Job → Bool
is_of_piece d piece None = false
is_of_piece d piece (Some job) = (job.device == d) && (job.piece == piece)

-- a Held names this device and piece, by its job
abbrev pub held_piece : ℕ → ℕ → List Commit → Bool
held_piece d piece [] = false
held_piece d piece (Held j mark ∷ C) = if is_of_piece d piece (job_of j C) then true else held_piece d piece C
held_piece d piece (_ ∷ C) = held_piece d piece C

-- a Printed comes once for each job, after a Held with the same mark and a Began
abbrev pub PrintedOnce : Ledger → Type 0
PrintedOnce (Printed j mark ∷ H) = (held_of j (counted H) ≡ Some mark) × (begun j (counted H) ≡ true) × (IsPrinted j H → ⊥)
PrintedOnce H = Unit {0}

-- in the ledger P, no two Held are of one piece of a device, and the mark of each was released before
abbrev pub HeldOnce : Ledger → List Commit → Type 0
HeldOnce P (Held j mark ∷ C) = ((job : Job) × (job_of j C ≡ Some job) × (held_piece job.device job.piece C ≡ false)) × IsReleased mark P
HeldOnce P C = Unit {0}

-- no job is printed twice, and no two jobs hold one piece
abbrev pub Prints : Ledger → Type 0
Prints P = PrintedOnce P × HeldOnce P (counted P)

-- == the whole ==

-- what holds of P, all that had happened at some moment
pub record LawfulAt (ρ : Rules) (P : Ledger) : Type 0 where
  pub numbering : Numbering (counted P)
  pub debits : Debits ρ (counted P)
  pub releases : Releases P
  pub refunds : Refunds (counted P)
  pub registers : Registers (counted P)
  pub balances : Balances (counted P)
  pub days : Days ρ (counted P)
  pub acceptances : Acceptances P
  pub prints : Prints P

-- a ledger is lawful if the clauses held at each moment, from the first entry on
abbrev pub Lawful : Rules → Ledger → Type 0
Lawful ρ H = Always (LawfulAt ρ) H
