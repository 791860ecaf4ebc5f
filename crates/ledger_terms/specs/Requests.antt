-- The Request that has a number of a device.
use Rattle.std.specs.Prelude.{ℕ, pos, ◌&&◌, List, [], ◌∷◌, Option, Some, None, Result, Ok, ◌==◌, if◌then◌else◌}
use Rattle.bench_base.specs.declared.{words.Kind.TheVariants.Audit, refusals.Unread.Unread, ledger.Commit.Commit, ledger.Commit.TheVariants.Asked}
use Rattle.bench_base.specs.Rows.{first_of}
use Rattle.psd_wire.specs.declared.{message.Request.Request, message.Message.Message}
use Rattle.psd_wire.specs.declared.message.Message.TheVariants as m
use Rattle.psd_wire.specs.Grammar.{read}

-- an audit of nothing on the first day that the product knows: it stands where there is no Request, and adds nothing to any sum
abbrev pub no_request : Request
no_request = record {
  version = 1;
  device = 0;
  number = 0;
  kind = Audit;
  customer = 0;
  amount = 0;
  ascending = 0;
  descending = 0;
  refunded = 0;
  pieces = 0;
  day = pos 10957;
}

-- the Request that was read, or an empty one
abbrev pub request_or_none : Result Message Unread → Request
request_or_none (Ok (m.Request q)) = q
request_or_none _ = no_request

-- the Request that a note reads as
unfoldable pub request_in : List ℕ → Request
request_in note = request_or_none (read note)

-- the note in the first Asked of this number
abbrev pub note_of : ℕ → ℕ → List Commit → Option (List ℕ)
note_of d n [] = None
note_of d n (Asked e m note ∷ C) = if (e == d) && (m == n) then first_of (note_of d n C) (Some note) else note_of d n C
note_of d n (_ ∷ C) = note_of d n C

-- the Request of a note, or an empty one
abbrev pub in_note : Option (List ℕ) → Request
in_note None = no_request
in_note (Some note) = request_in note

-- the Request of number n is the one in the first Asked of that number
abbrev pub request_of : ℕ → ℕ → List Commit → Request
request_of d n C = in_note (note_of d n C)
