-- A device's record, as its callers see it, and what holds of each. Money is in mills, days are since 1970-01-01.
use Rattle.std.specs.Prelude.{◌≡◌, ℕ, ℤ, ◌+◌, ◌≤◌, ◌<◌, Bool, true, false, List, replicate, Option, Some, None, option_map}
use Rattle.bench_base.specs.declared.{words.Kind.Kind, words.Kind.TheVariants.Enrol, words.Kind.TheVariants.Reset, words.Kind.TheVariants.Audit, words.Kind.TheVariants.Refund, words.Kind.TheVariants.Withdraw, words.Phase.Phase, words.Phase.TheVariants.Manufactured, words.Phase.TheVariants.Authorised, words.Phase.TheVariants.InService, words.Phase.TheVariants.Withdrawn}
use Rattle.bench_base.specs.Kinds.{is_allowed}
use Rattle.hmac_core.specs.Hmac.{hmac}
use Rattle.indicium.specs.declared.Mark.{Mark}
use Rattle.indicium.specs.Marks as marks
use Rattle.psd_wire.specs.declared.message.Request.{Request}
use Rattle.psd_wire.specs.declared.message.Message.TheVariants as m
use Rattle.psd_wire.specs.Grammar as grammar
use Rattle.ledger_terms.specs.Rulings.{buys_limit}
use Rattle.registers.specs.Sums.{Sums, Sound, total}

-- the record of a device
pub record State : Type 0 where
  pub device : ℕ
  -- the stored phase: a device in service is locked after its deadline, and stored as in service
  pub phase : Phase
  pub key : List ℕ
  pub registers : Sums
  -- of the last transaction that was applied, and 0 before the first
  pub number : ℕ
  -- the last day that the device franks any postage; 0 before it is set
  pub deadline : ℤ
  -- of the last debit or request, and 0 before the first
  pub last_day : ℤ
  pub customer : ℕ
  pub origin : ℕ
  -- the request that is outstanding
  pub pending : Option Request
  -- of the last debit
  pub mark : Option Mark

-- the phases that are stored
abbrev pub is_stored : Phase → Bool
is_stored Manufactured = true
is_stored Authorised = true
is_stored InService = true
is_stored Withdrawn = true
is_stored _ = false

-- the amount that a request of this version may ask for
abbrev pub IsAmount : Kind → ℕ → ℕ → Sums → Type 0
IsAmount Reset version a s = (1 ≤ a) × (a ≤ 10000000) × (total s + a ≤ buys_limit version)
IsAmount Refund version a s = a ≡ s.descending
IsAmount Withdraw version a s = a ≡ s.descending
IsAmount Enrol version a s = a ≡ 0
IsAmount Audit version a s = a ≡ 0

-- a request that may be outstanding on the device d with last transaction n, in this phase and with these registers
pub record IsPending (d n : ℕ) (p : Phase) (s : Sums) (q : Request) : Type 0 where
  pub whole : grammar.IsWhole (m.Request q)
  pub device : q.device ≡ d
  pub number : q.number ≡ n + 1
  pub kind : is_allowed q.kind p ≡ true
  pub amount : IsAmount q.kind q.version q.amount s

-- a mark of the device's last piece
pub record IsLastMark (d : ℕ) (s : Sums) (k : Mark) : Type 0 where
  pub whole : marks.IsWhole k
  pub device : k.device ≡ d
  pub piece : k.piece ≡ s.pieces
  pub ascending : k.ascending ≡ s.ascending

-- what holds of what is outstanding
abbrev pub PendingOk : ℕ → ℕ → Phase → Sums → Option Request → Type 0
PendingOk device number phase s None = Unit {0}
PendingOk device number phase s (Some q) = IsPending device number phase s q

-- what holds of the kept mark: there is one if and only if there are pieces
abbrev pub MarkOk : ℕ → Sums → Option Mark → Type 0
MarkOk device s None = s.pieces ≡ 0
MarkOk device s (Some k) = (0 < s.pieces) × IsLastMark device s k

-- what holds of each record
pub record Holds (s : State) : Type 0 where
  pub phase : is_stored s.phase ≡ true
  pub registers : Sound s.registers
  pub pending : PendingOk s.device s.number s.phase s.registers s.pending
  pub mark : MarkOk s.device s.registers s.mark

-- the mark of the last debit, if there is one
abbrev pub mark_in : Option State → Option (List ℕ)
mark_in None = None
mark_in (Some s) = option_map (λ k. marks.spell k s.key) s.mark

-- the code of the kept mark, or zeros if no mark is kept
abbrev pub kept_code : List ℕ → Option Mark → List ℕ
kept_code key None = replicate 32 0
kept_code key (Some k) = hmac key (marks.body k)
