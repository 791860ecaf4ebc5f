-- The ranges of numbers: of the small types, of the parts of a commit, and of what an event asks or contains.
use Rattle.std.specs.Prelude.{◌≡◌, ℕ, ℤ, pos, ◌<◌, ◌≤◌, ◌≤ℤ◌, ◌^◌, List, length}
use Rattle.bench_base.specs.declared.{words.Kind.Kind, words.Kind.TheVariants.Enrol, words.Kind.TheVariants.Reset, words.Node.Node, words.Node.TheVariants.Device, words.Node.TheVariants.Centre, words.Node.TheVariants.Host, words.Node.TheVariants.Verifier, ledger.Commit.Commit, ledger.Commit.TheVariants.Made, ledger.Commit.TheVariants.Asked, ledger.Commit.TheVariants.Applied, ledger.Commit.TheVariants.Debited, ledger.Commit.TheVariants.Registered, ledger.Commit.TheVariants.Opened, ledger.Commit.TheVariants.Deposited, ledger.Commit.TheVariants.Flagged, ledger.Commit.TheVariants.Ruled, ledger.Commit.TheVariants.Settled, ledger.Commit.TheVariants.Ordered, ledger.Commit.TheVariants.Held, ledger.Commit.TheVariants.Began, ledger.Commit.TheVariants.Closed, ledger.Commit.TheVariants.Trusted, ledger.Commit.TheVariants.Accepted}
use Rattle.bench_base.specs.Table.{IsBytes}

-- a device's number is 1 to 8
abbrev pub IsDevice : ℕ → Type 0
IsDevice d = (1 ≤ d) × (d ≤ 8)

-- a customer's number is 1 to 64
abbrev pub IsCustomer : ℕ → Type 0
IsCustomer c = (1 ≤ c) × (c ≤ 64)

-- a day from 2000-01-01 to 2199-12-31
abbrev pub IsDay : ℤ → Type 0
IsDay z = (pos 10957 ≤ℤ z) × (z ≤ℤ pos 84005)

-- a number of 32 bits
abbrev pub IsWord : ℕ → Type 0
IsWord n = n < 2 ^ 32

-- a number of 32 bits that is counted from 1
abbrev pub IsCount : ℕ → Type 0
IsCount n = (1 ≤ n) × IsWord n

-- what a piece may be franked with, in mills
abbrev pub IsPostage : ℕ → Type 0
IsPostage a = (1 ≤ a) × (a ≤ 100000)

-- what may be deposited at once, in mills
abbrev pub IsDeposit : ℕ → Type 0
IsDeposit a = (1 ≤ a) × (a ≤ 1000000000)

-- a key has 32 bytes
abbrev pub IsKey : List ℕ → Type 0
IsKey key = (length key ≡ 32) × IsBytes key

-- a node is a device of such a number, or one of the other three
abbrev pub IsNode : Node → Type 0
IsNode (Device d) = IsDevice d
IsNode Centre = Unit {0}
IsNode Host = Unit {0}
IsNode Verifier = Unit {0}

-- each number of the commit is one that an event makes; a note and a mark are left to what they read as
abbrev pub InRange : Commit → Type 0
InRange (Made d key) = IsDevice d × IsKey key
InRange (Asked d n note) = IsDevice d × IsWord n
InRange (Applied d n v) = IsDevice d × IsWord n
InRange (Debited d piece postage class day version) = IsDevice d × IsWord piece × IsWord postage × (class < 2 ^ 16) × IsDay day × (version < 2 ^ 8)
InRange (Registered d origin key) = IsDevice d × IsWord origin × IsKey key
InRange (Opened c) = IsCustomer c
InRange (Deposited c receipt amount) = IsCustomer c × IsCount receipt × IsDeposit amount
InRange (Flagged c suspended) = IsCustomer c
InRange (Ruled d n v note) = IsDevice d × IsWord n
InRange (Settled d n) = IsDevice d × IsWord n
InRange (Ordered j d piece postage class) = IsCount j × IsDevice d × IsCount piece × IsPostage postage × (class < 2 ^ 16)
InRange (Held j mark) = IsWord j × (length mark ≡ 64)
InRange (Began j) = IsWord j
InRange (Closed j) = IsWord j
InRange (Trusted d key) = IsDevice d × IsKey key
InRange (Accepted d piece scan) = IsDevice d × IsWord piece × IsCount scan

-- == events ==

-- the customer counts for an enrolment and the amount for a reset; what doesn't count is 0
abbrev pub IsAsk : Kind → ℕ → ℕ → Type 0
IsAsk Enrol customer amount = IsWord customer × (amount ≡ 0)
IsAsk Reset customer amount = (customer ≡ 0) × IsWord amount
IsAsk kind customer amount = (customer ≡ 0) × (amount ≡ 0)

-- bytes from outside
abbrev pub IsGiven : List ℕ → Type 0
IsGiven bytes = (length bytes ≤ 256) × IsBytes bytes

-- bytes may be given to each node but the verifier
abbrev pub TakesBytes : Node → Type 0
TakesBytes (Device d) = IsDevice d
TakesBytes Centre = Unit {0}
TakesBytes Host = Unit {0}
TakesBytes Verifier = ⊥
