-- Manifests: what one was opened with, and its marks so far.
use Rattle.std.specs.Prelude.{◌≡◌, ◌<◌, ◌≤◌, ◌+◌, ◌^◌, ℕ, List, [], ◌∷◌, ◌++◌, length, get_or, sum_by, Bool, true, false, Result, Ok, Err, is_ok}
use Rattle.bench_base.specs.Table.{Size, Two, Four, Eight, row}
use Rattle.bench_base.specs.declared.refusals.MarkFault.{MarkFault}
use Rattle.hmac_core.specs.Hmac.{hmac}
use Rattle.indicium.specs.Marks.{read_mark}
use Rattle.indicium.specs.declared.Mark.{Mark}
use Rattle.mail_manifest.specs.declared.opening.Opening.{Opening}

-- a manifest that was opened, and the marks of its pieces so far, 64 bytes each
pub record Listing : Type 0 where
  pub opening : Opening
  pub marks : List (List ℕ)

-- its numbers: there is a piece, there are at most 512, and the number of the last is one of 32 bits
pub record IsOpening (o : Opening) : Type 0 where
  pub first : 1 ≤ o.first
  pub some : 1 ≤ o.count
  pub most : o.count ≤ 512
  pub last : o.first + o.count ≤ 2 ^ 32

abbrev pub listing : Opening → List (List ℕ) → Listing
listing o marks = record { opening = o; marks = marks }

abbrev pub opened : Opening → Listing
opened o = listing o []

abbrev pub with_mark : Listing → List ℕ → Listing
with_mark m mark = listing m.opening (m.marks ++ mark ∷ [])

-- the mark at this place, counted from 0
abbrev pub mark_at : Listing → ℕ → List ℕ
mark_at m at = get_or m.marks at []

-- == its code ==

-- count, total and first number
abbrev pub head_table : List Size
head_table = Two ∷ Eight ∷ Four ∷ []

unfoldable pub head_part : Opening → List ℕ
head_part o = row head_table (o.count ∷ o.total ∷ o.first ∷ [])

-- one after the other
abbrev pub marks_text : List (List ℕ) → List ℕ
marks_text [] = []
marks_text (mark ∷ rest) = mark ++ marks_text rest

-- the text of a manifest
abbrev pub listing_text : Listing → List ℕ
listing_text m = head_part m.opening ++ marks_text m.marks

abbrev pub code_of : Listing → List ℕ
code_of m = hmac m.opening.key (listing_text m)

-- == what its marks read as ==

abbrev pub does_read : List ℕ → Bool
does_read mark = is_ok (read_mark mark)

abbrev pub postage_in : Result (Mark × List ℕ) MarkFault → ℕ
postage_in (Ok m) = m.0.postage
postage_in (Err fault) = 0

-- the postage that a mark shows
abbrev pub postage_of : List ℕ → ℕ
postage_of mark = postage_in (read_mark mark)

-- what the pieces cost, in mills
abbrev pub postage_in_all : Listing → ℕ
postage_in_all m = sum_by postage_of m.marks

-- the marks at the prefix, so many of them, read
abbrev pub ReadTo : ℕ → Listing → Type 0
ReadTo to m = (at : ℕ) → at < to → does_read (mark_at m at) ≡ true

abbrev pub AllRead : Listing → Type 0
AllRead m = ReadTo (length m.marks) m

-- the first mark that does not read is that of the piece of this number, counted from 1
pub record IsFirstUnread (number : ℕ) (m : Listing) : Type 0 where
  pub at : ℕ
  pub number_is : number ≡ at + 1
  pub inside : at < length m.marks
  pub unread : does_read (mark_at m at) ≡ false
  pub before : ReadTo at m
