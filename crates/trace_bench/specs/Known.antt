-- What was sent and released in all runs, and which of the marks that were seen were debited, as the auditor keeps it.
use Rattle.std.specs.Prelude.{◌≡◌, ◌⊎◌, ◌↔◌, ◌||◌, ℕ, List, [], Bool, IsTrue, Option, Some, None, bytes_eq}
use Rattle.std.specs.List.{list_any}
use Rattle.bench_base.specs.Ledger.{Ledger, IsSent, IsReleased}
use Rattle.trace_seen.specs.Marks.{asked, seen_as}
use Rattle.trace_bench.specs.Debits.{TellsDebits}
use Rattle.trace_bench.specs.declared.{known.ByteSet.ByteSet, known.Known.Known}

-- == bytes that are kept, of values of any kind ==

-- whether one of the values has these bytes
abbrev pub is_among : {V : Type 0} → (V → List ℕ) → List ℕ → List V → Bool
is_among bytes_of bytes values = list_any (λ v. bytes_eq bytes (bytes_of v)) values

-- the bytes of a value
module _ {K : Type 0} (bytes_of : K → List ℕ) where
  -- whether the bytes are among those that are kept: in the list or in the set
  abbrev pub has_by : List ℕ → ByteSet K → Bool
  has_by bytes s = is_among bytes_of bytes s.list.items || is_among (λ k. k.items) bytes s.set.keys

  abbrev pub HasBy : List ℕ → ByteSet K → Type 0
  HasBy bytes s = IsTrue (has_by bytes s)

  abbrev pub IsEmpty : ByteSet K → Type 0
  IsEmpty s = (bytes : List ℕ) → HasBy bytes s → ⊥

  -- these bytes are kept too
  abbrev pub Puts : List ℕ → ByteSet K → ByteSet K → Type 0
  Puts bytes old new = (q : List ℕ) → HasBy q new ↔ ((bytes ≡ q) ⊎ HasBy q old)

  -- the same bytes are kept
  abbrev pub HasSame : ByteSet K → ByteSet K → Type 0
  HasSame old new = (q : List ℕ) → HasBy q new ↔ HasBy q old

-- none is left in the list: each is found by its hash
abbrev pub IsAllFound : {K : Type 0} → ByteSet K → Type 0
IsAllFound s = s.list.items ≡ []

-- == messages and marks, each the same as its bytes ==

abbrev pub has : List ℕ → ByteSet (List ℕ) → Bool
has = has_by (λ v. v)

abbrev pub Has : List ℕ → ByteSet (List ℕ) → Type 0
Has bytes s = IsTrue (has bytes s)

-- what is kept of all runs: whether all that was sent and released, and which marks were seen, each with the first line that contains it
pub record Kept : Type 0 where
  pub all : Bool
  pub seen : List (List ℕ × ℕ)

abbrev pub kept_of : Known → Kept
kept_of k = record { all = k.is_kept; seen = asked k.seen }

-- nothing was sent, released or seen
pub record IsBlank (k : Known) : Type 0 where
  pub sent : (bytes : List ℕ) → Has bytes k.sent → ⊥
  pub released : (mark : List ℕ) → Has mark k.released → ⊥
  pub unseen : (mark : List ℕ) → seen_as k.seen mark ≡ None

-- if it is kept, this message and this mark are kept too, if there are any
pub record Learns (sent released : Option (List ℕ)) (old new : Known) : Type 0 where
  pub kept : new.is_kept ≡ old.is_kept
  pub sends : IsTrue old.is_kept → (bytes : List ℕ) → Has bytes new.sent ↔ ((sent ≡ Some bytes) ⊎ Has bytes old.sent)
  pub releases : IsTrue old.is_kept → (mark : List ℕ) → Has mark new.released ↔ ((released ≡ Some mark) ⊎ Has mark old.released)

-- the same messages and marks are kept, and the same is recorded of the marks that were seen
pub record KeepsSame (old new : Known) : Type 0 where
  pub kept : new.is_kept ≡ old.is_kept
  pub seen : new.seen ≡ old.seen
  pub sent : (bytes : List ℕ) → Has bytes new.sent ↔ Has bytes old.sent
  pub released : (mark : List ℕ) → Has mark new.released ↔ Has mark old.released

-- WHAT IS KEPT is what was sent and released at the ledger, in any run, if it is kept at all. A mark that was seen is recorded as debited if and
-- only if its debit counts at the ledger.
pub record Knows (k : Known) (H : Ledger) : Type 0 where
  pub sent : IsTrue k.is_kept → (bytes : List ℕ) → Has bytes k.sent ↔ IsSent bytes H
  pub released : IsTrue k.is_kept → (mark : List ℕ) → Has mark k.released ↔ IsReleased mark H
  pub debited : TellsDebits k.seen H
