-- What the commits show of a device: its key, phase, dates, customer and the transaction that is outstanding. Days are since 1970-01-01.
use Rattle.std.specs.Prelude.{ℕ, ℤ, pos, ◌+ℤ◌, Bool, true, false, ◌&&◌, ◌||◌, List, [], ◌∷◌, Option, Some, None, ◌==◌, if◌then◌else◌}
use lib.Signed.{lt_z}
use Rattle.bench_base.specs.declared.{words.Kind.Kind, words.Kind.TheVariants.Enrol, words.Kind.TheVariants.Audit, words.Kind.TheVariants.Withdraw, words.Verdict.Verdict, words.Phase.Phase, words.Phase.TheVariants.Manufactured, words.Phase.TheVariants.Authorised, words.Phase.TheVariants.InService, words.Phase.TheVariants.Locked, words.Phase.TheVariants.Withdrawn, ledger.Commit.Commit, ledger.Commit.TheVariants.Made, ledger.Commit.TheVariants.Asked, ledger.Commit.TheVariants.Applied, ledger.Commit.TheVariants.Debited}
use Rattle.bench_base.specs.Kinds.{same_kind, empties, is_granted, is_dated}
use Rattle.bench_base.specs.Rows.{first_of}
use Rattle.psd_wire.specs.declared.message.Request.{Request}
use Rattle.ledger_terms.specs.Requests.{request_in, request_of}
use Rattle.ledger_terms.specs.Centres.{registered, origin_in}

-- the key that the device was made with
abbrev pub key_of : ℕ → List Commit → Option (List ℕ)
key_of d [] = None
key_of d (Made e key ∷ C) = if e == d then Some key else key_of d C
key_of d (_ ∷ C) = key_of d C

-- == transactions ==

-- the number in the last Asked
abbrev pub asked : ℕ → List Commit → ℕ
asked d [] = 0
asked d (Asked e n note ∷ C) = if e == d then n else asked d C
asked d (_ ∷ C) = asked d C

-- the number in the last Applied
abbrev pub number : ℕ → List Commit → ℕ
number d [] = 0
number d (Applied e n v ∷ C) = if e == d then n else number d C
number d (_ ∷ C) = number d C

-- the verdict in the first Applied of number n
abbrev pub applied_of : ℕ → ℕ → List Commit → Option Verdict
applied_of d n [] = None
applied_of d n (Applied e m v ∷ C) = if (e == d) && (m == n) then first_of (applied_of d n C) (Some v) else applied_of d n C
applied_of d n (_ ∷ C) = applied_of d n C

-- the request that is outstanding, unless this number was applied
abbrev pub unless_applied : ℕ → Option (ℕ × List ℕ) → Option (ℕ × List ℕ)
unless_applied n None = None
unless_applied n (Some p) = if p.0 == n then None else Some p

-- number and note of the last Asked, where no Applied of its number follows it
abbrev pub pending : ℕ → List Commit → Option (ℕ × List ℕ)
pending d [] = None
pending d (Asked e n note ∷ C) = if e == d then Some (n, note) else pending d C
pending d (Applied e n v ∷ C) = if e == d then unless_applied n (pending d C) else pending d C
pending d (_ ∷ C) = pending d C

-- the Request that is pending
abbrev pub waiting : Option (ℕ × List ℕ) → Option Request
waiting None = None
waiting (Some p) = Some (request_in p.1)

-- a refund or withdrawal is pending
abbrev pub frozen : Option (ℕ × List ℕ) → Bool
frozen None = false
frozen (Some p) = empties (request_in p.1).kind

-- == phase, dates and customer ==

-- a transaction of this kind was granted and applied
abbrev pub applied_kind : Kind → ℕ → List Commit → Bool
applied_kind k d [] = false
applied_kind k d (Applied e n v ∷ C) = if e == d then (is_granted v && same_kind (request_of d n C).kind k) || applied_kind k d C else applied_kind k d C
applied_kind k d (_ ∷ C) = applied_kind k d C

-- the phase, depending on whether a withdrawal, a first audit and an enrolment were applied
abbrev pub phase_of : Bool → Bool → Bool → Phase
phase_of true audit enrol = Withdrawn
phase_of false true enrol = InService
phase_of false false true = Authorised
phase_of false false false = Manufactured

-- the stored phase: withdrawn, otherwise in service, otherwise authorised, after the granted transaction that makes it so
abbrev pub phase : ℕ → List Commit → Phase
phase d C = phase_of (applied_kind Withdraw d C) (applied_kind Audit d C) (applied_kind Enrol d C)

-- The device franks any postage up to this day, inclusive: 92 days after the day in the Request of its last granted and applied reset or
-- audit, and 0 before the first. It franks small postage for the days of grace after it.
abbrev pub deadline : ℕ → List Commit → ℤ
deadline d [] = pos 0
deadline d (Applied e n v ∷ C) = if e == d then (if is_dated v (request_of d n C).kind then (request_of d n C).day +ℤ pos 92 else deadline d C)
    else deadline d C
deadline d (_ ∷ C) = deadline d C

-- the day of the last Debited or Asked, and 0 before the first
abbrev pub last_day : ℕ → List Commit → ℤ
last_day d [] = pos 0
last_day d (Asked e n note ∷ C) = if e == d then (request_in note).day else last_day d C
last_day d (Debited e piece postage class day version ∷ C) = if e == d then day else last_day d C
last_day d (_ ∷ C) = last_day d C

-- the customer in the Request of the granted applied enrolment, and 0 before it
abbrev pub customer : ℕ → List Commit → ℕ
customer d [] = 0
customer d (Applied e n v ∷ C) = if e == d then (if is_granted v && same_kind (request_of d n C).kind Enrol then (request_of d n C).customer
    else customer d C) else customer d C
customer d (_ ∷ C) = customer d C

-- the registered origin after a granted applied enrolment, and 0 before it
abbrev pub origin : ℕ → List Commit → ℕ
origin d C = if applied_kind Enrol d C then origin_in (registered d C) else 0

-- a device in service is locked after its deadline
abbrev pub lock : ℤ → ℤ → Phase → Phase
lock today deadline InService = if lt_z deadline today then Locked else InService
lock today deadline p = p
