-- The 209 bytes of a device's record, in two versions. Both are read, and version 2 is written.
use Rattle.std.specs.Prelude.{◌≡◌, ℕ, ℤ, ◌+◌, ◌-◌, ◌<◌, ◌≤◌, ◌⊎◌, List, [], ◌∷◌, ◌++◌, Option, Some, None, IfSome, ◌==◌, if◌then◌else◌, length, take, drop, get_or, replicate, FitsSigned}
use Rattle.std.specs.Int.{w32, cast_unsigned, cast_signed}
use Rattle.bench_base.specs.Table.{Size, One, Four, room, row, values, Fit}
use Rattle.bench_base.specs.declared.{words.Phase.Phase, words.Phase.TheVariants.Blank, words.Phase.TheVariants.Manufactured, words.Phase.TheVariants.Authorised, words.Phase.TheVariants.InService, words.Phase.TheVariants.Locked, words.Phase.TheVariants.Withdrawn}
use Rattle.indicium.specs.declared.Mark.{Mark}
use Rattle.indicium.specs.Marks as marks
use Rattle.psd_wire.specs.declared.{message.Request.Request, message.Message.Message}
use Rattle.psd_wire.specs.declared.message.Message.TheVariants as m
use Rattle.psd_wire.specs.Grammar as grammar
use Rattle.psd_wire.specs.Grammar.{sum_size}
use Rattle.registers.specs.Sums.{Sums, total}
use Rattle.psd_state.specs.State.{State, Holds}
use Rattle.psd_state.specs.declared.parts.Fields.{Fields}

-- the byte of a stored phase in version 1; the two others are never stored
abbrev pub phase_code : Phase → ℕ
phase_code Manufactured = 1
phase_code Authorised = 2
phase_code InService = 3
phase_code Withdrawn = 4
phase_code Blank = 0
phase_code Locked = 0

-- in version 2 it is 16 more, so this byte shows the version
abbrev pub phase_byte : ℕ → Phase → ℕ
phase_byte version p = if version == 1 then phase_code p else phase_code p + 16

abbrev pub flag_of : Option Request → ℕ
flag_of None = 0
flag_of (Some q) = 1

-- device, phase
abbrev pub head_table : List Size
head_table = Four ∷ One ∷ []

abbrev pub head : ℕ → State → List ℕ
head version s = s.device ∷ phase_byte version s.phase ∷ []

-- ascending, descending, refunded, pieces, number, deadline, last day, customer, origin, pending
abbrev pub middle_table : ℕ → List Size
middle_table version =
    sum_size version ∷ sum_size version ∷ sum_size version ∷ Four ∷ Four ∷ Four ∷ Four ∷ Four ∷ Four ∷ One ∷ []

abbrev pub middle_row : Sums → ℕ → ℤ → ℤ → ℕ → ℕ → ℕ → List ℕ
middle_row r number deadline last_day customer origin pending =
    r.ascending ∷ r.descending ∷ r.refunded ∷ r.pieces ∷ number ∷ cast_unsigned w32 deadline ∷ cast_unsigned w32 last_day ∷ customer ∷ origin ∷ pending ∷ []

abbrev pub middle : State → List ℕ
middle s = middle_row s.registers s.number s.deadline s.last_day s.customer s.origin (flag_of s.pending)

-- a request without its code, filled with zeros
unfoldable pub filled : Request → List ℕ
filled q = grammar.body (m.Request q) ++ replicate (55 - length (grammar.body (m.Request q))) 0

-- how many of these bytes are the request
abbrev pub body_room : ℕ → ℕ
body_room version = if version == 1 then 39 else 55

-- how many bytes what is outstanding has
abbrev pub pending_room : ℕ → ℕ
pending_room version = if version == 1 then 71 else 55

-- zeros, or the request that is outstanding: its spelling in version 1, and without its code in version 2
unfoldable pub pending_part : ℕ → List ℕ → Option Request → List ℕ
pending_part version key None = replicate (pending_room version) 0
pending_part version key (Some q) = if version == 1 then grammar.spell (m.Request q) key else filled q

-- zeros, or the spelling of the kept mark
unfoldable pub mark_part : List ℕ → Option Mark → List ℕ
mark_part key None = replicate 64 0
mark_part key (Some k) = marks.spell k key

-- what is left of the 209 bytes
abbrev pub end_part : ℕ → List ℕ
end_part version = if version == 1 then [] else replicate 4 0

unfoldable pub head_part : ℕ → State → List ℕ
head_part version s = row head_table (head version s)

unfoldable pub middle_part : ℕ → State → List ℕ
middle_part version s = row (middle_table version) (middle s)

-- the one spelling of a record in a version, 209 bytes
unfoldable pub spelled : ℕ → State → List ℕ
spelled version s =
    head_part version s ++ (s.key ++ (middle_part version s ++ (pending_part version s.key s.pending ++ (mark_part s.key s.mark ++ end_part version))))

-- the spelling that is written
abbrev pub bytes_of : State → List ℕ
bytes_of s = spelled 2 s

-- the numbers of a record fit their fields in a version
pub record RangesIn (version : ℕ) (s : State) : Type 0 where
  pub head : Fit head_table (head version s)
  pub key : length s.key ≡ 32
  pub middle : Fit (middle_table version) (middle s)
  pub deadline : FitsSigned w32 s.deadline
  pub last_day : FitsSigned w32 s.last_day

abbrev pub Ranges : State → Type 0
Ranges s = RangesIn 2 s

-- what version 1 can spell: sums within its limit, a request and a mark of version 1
pub record IsOld (s : State) : Type 0 where
  pub total : total s.registers ≤ 4294967295
  pub pending : IfSome s.pending (λ q. q.version ≡ 1)
  pub mark : IfSome s.mark (λ k. k.version ≡ 1)

-- THE PAYLOAD READS AS THE RECORD: it is a spelling of it, in version 2 or in version 1
pub record ReadsAs (payload : List ℕ) (s : State) : Type 0 where
  pub holds : Holds s
  pub fits : Ranges s
  pub reads : (bytes_of s ≡ payload) ⊎ (IsOld s × (spelled 1 s ≡ payload))

-- == the parts of a payload ==

-- the numbers as they stand
abbrev pub fields_from : List ℕ → List ℕ → List ℕ → Fields
fields_from hs key vs = record {
  device = get_or hs 0 0;
  phase = get_or hs 1 0;
  key = key;
  ascending = get_or vs 0 0;
  descending = get_or vs 1 0;
  refunded = get_or vs 2 0;
  pieces = get_or vs 3 0;
  number = get_or vs 4 0;
  deadline = cast_signed w32 (get_or vs 5 0);
  last_day = cast_signed w32 (get_or vs 6 0);
  customer = get_or vs 7 0;
  origin = get_or vs 8 0;
  pending = get_or vs 9 0;
}

unfoldable pub fields_at : ℕ → List ℕ → Fields
fields_at version bytes = fields_from (values 0 head_table bytes) (take 32 (drop 5 bytes)) (values 37 (middle_table version) bytes)

-- the fields of a record
abbrev pub fields_of : ℕ → State → Fields
fields_of version s = record {
  device = s.device;
  phase = phase_byte version s.phase;
  key = s.key;
  ascending = s.registers.ascending;
  descending = s.registers.descending;
  refunded = s.registers.refunded;
  pieces = s.registers.pieces;
  number = s.number;
  deadline = s.deadline;
  last_day = s.last_day;
  customer = s.customer;
  origin = s.origin;
  pending = flag_of s.pending;
}

-- where what is outstanding begins, and where the kept mark
abbrev pub pending_place : ℕ → ℕ
pending_place version = 37 + room (middle_table version)

abbrev pub mark_place : ℕ → ℕ
mark_place version = pending_place version + pending_room version

-- the parts, as they stand
pub record Parts (version : ℕ) (s : State) (bytes : List ℕ) : Type 0 where
  pub fields : fields_at version bytes ≡ fields_of version s
  pub pending : take (pending_room version) (drop (pending_place version) bytes) ≡ pending_part version s.key s.pending
  pub mark : take 64 (drop (mark_place version) bytes) ≡ mark_part s.key s.mark
  pub end : drop (mark_place version + 64) bytes ≡ end_part version

-- the Request, if the message is one
abbrev pub request_part : Option Message → Option Request
request_part (Some (m.Request q)) = Some q
request_part _ = None

-- what has a spelling
abbrev pub PendingWhole : Option Request → Type 0
PendingWhole None = Unit {0}
PendingWhole (Some q) = grammar.IsWhole (m.Request q)

abbrev pub MarkWhole : Option Mark → Type 0
MarkWhole None = Unit {0}
MarkWhole (Some k) = marks.IsWhole k

-- a mark is kept if and only if there are pieces
abbrev pub IsKeptAt : ℕ → Option Mark → Type 0
IsKeptAt n None = n ≡ 0
IsKeptAt n (Some k) = 0 < n

-- the kept mark with this code
abbrev pub coded_part : List ℕ → Option Mark → List ℕ
coded_part code None = replicate 64 0
coded_part code (Some k) = marks.body k ++ code

-- the sums of the fields
abbrev pub sums_of : Fields → Sums
sums_of f = record { ascending = f.ascending; descending = f.descending; refunded = f.refunded; pieces = f.pieces }
