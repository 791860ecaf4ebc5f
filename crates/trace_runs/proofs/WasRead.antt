-- What follows from what was read of a source, whatever follows those bytes.
use Rattle.std.proofs.Common.{◌≡◌, ℕ, ◌≤◌, List, [], ◌∷◌, ◌++◌, length, take, Bool, true, false, not, Option, Some, None, refl, sym, ◌∙◌, ap, subst, append-nil, true≢false, arith}
use Rattle.std.proofs.lemmas.List.{length-append, length-take}
use Rattle.std.proofs.KnownBytes.{Consumes-nil, Consumes-trans}
use Rattle.std.specs.Io.KnownBytes.{Consumes, IsAtEnd}
use Rattle.line_runs.specs.declared.lines.LineRead.{LineRead}
use Rattle.line_runs.specs.declared.lines.LineRead.TheVariants as read
use Rattle.line_runs.specs.Ends.{lines_of}
use Rattle.line_runs.specs.Lines.{IsOneLine, ended, IsLineIn, ReadsLine}
use Rattle.line_runs.proofs.EndLaws.{lines_of_ended, lines_of_last, long_prefix}
use Rattle.trace_runs.specs.Reads.{IsRead, OfBehind, OfTexts}

-- == whatever follows those bytes ==

pub of_map : (all : Bool) (P Q : List ℕ → Type 0) → ((x : List ℕ) → P x → Q x) → OfBehind all P → OfBehind all Q
of_map true P Q then p = then [] p
of_map false P Q then p = λ x. then x (p x)

-- of nothing, where the end was seen
pub of_end : (all : Bool) (P : List ℕ → Type 0) → all ≡ true → OfBehind all P → P []
of_end true P is p = p
of_end false P is p = absurd (true≢false (sym is))

pub of_any : (all : Bool) (P : List ℕ → Type 0) → all ≡ false → OfBehind all P → (x : List ℕ) → P x
of_any true P is p = absurd (true≢false is)
of_any false P is p = p

-- == what was read ==

-- nothing
abbrev pub nothing : (left : Option (List ℕ)) → IsRead left left
nothing left = record { bytes = []; is_all = false; consumed = Consumes-nil left; ended = λ wrong. absurd (true≢false (sym wrong)) }

-- these bytes, which more bytes may follow
abbrev pub some : {left0 left1 : Option (List ℕ)} (bytes : List ℕ) → Consumes left0 left1 bytes → IsRead left0 left1
some bytes consumed = record { bytes = bytes; is_all = false; consumed = consumed; ended = λ wrong. absurd (true≢false (sym wrong)) }

-- these bytes, after which the end was seen
abbrev pub whole : {left0 left1 : Option (List ℕ)} (bytes : List ℕ) → Consumes left0 left1 bytes → IsAtEnd left1 → IsRead left0 left1
whole bytes consumed end = record { bytes = bytes; is_all = true; consumed = consumed; ended = λ is. end }

-- these bytes, and then what was read
abbrev pub then_read : {left0 left1 left2 : Option (List ℕ)} (bytes : List ℕ) → Consumes left0 left1 bytes → IsRead left1 left2 → IsRead left0 left2
then_read {left0} {left1} {left2} bytes consumed r = record { bytes = bytes ++ r.bytes; is_all = r.is_all; consumed = Consumes-trans left0 left1 left2 bytes r.bytes consumed r.consumed; ended = r.ended }

-- a source with contents that can be observed had what was read, and what follows it
pub told_all : (text : List ℕ) (left : Option (List ℕ)) (r : IsRead (Some text) left) (P : List ℕ → List ℕ → Type 0) → OfTexts r P → (behind : List ℕ) × P text behind
told_all text None r P p = absurd r.consumed
told_all text (Some behind) r P p = by r.is_all refl p
  where
    by : (all : Bool) → r.is_all ≡ all → OfBehind all (λ x. P (r.bytes ++ x) x) → (x : List ℕ) × P text x
    by true is q = ([], subst (λ (t : List ℕ). P t []) (sym (r.consumed ∙ ap (λ (x : List ℕ). r.bytes ++ x) (r.ended is))) q)
    by false is q = (behind, subst (λ (t : List ℕ). P t behind) (sym r.consumed) (q behind))

-- == a line ==

-- The first line of the source was read, and whether it is the last, without a line end.
pub record FirstLine (left0 left1 : Option (List ℕ)) (line : List ℕ) (is_last : Bool) : Type 0 where
  pub read : IsRead left0 left1
  pub last : read.is_all ≡ is_last
  pub one : IsOneLine line
  pub short : length line ≤ 600
  pub first : OfTexts read (λ text lines. lines_of text ≡ line ∷ lines_of lines)

first_line_of : (left0 left1 : Option (List ℕ)) (line bytes : List ℕ) (is_ended : Bool) → Consumes left0 left1 bytes → IsOneLine line → length line ≤ 600 → IsLineIn is_ended line bytes (IsAtEnd left1)
    → FirstLine left0 left1 line (not is_ended)
first_line_of left0 left1 line bytes true consumed one short is = record {
  read = some bytes consumed;
  last = refl;
  one = one;
  short = short;
  first = λ lines. ap (λ (l : List ℕ). lines_of (l ++ lines)) is ∙ lines_of_ended line lines one;
}
first_line_of left0 left1 line bytes false consumed one short is = record {
  read = whole bytes consumed is.2;
  last = refl;
  one = one;
  short = short;
  first = ap lines_of (append-nil bytes ∙ is.0) ∙ lines_of_last line one is.1;
}

-- what was taken of a source for a line that was read so
abbrev pub ReadAs : Option (List ℕ) → Option (List ℕ) → List ℕ → LineRead → Type 0
ReadAs left0 left1 buf r = (bytes : List ℕ) × Consumes left0 left1 bytes × ReadsLine r bytes buf (IsAtEnd left1)

pub first_line : (left0 left1 : Option (List ℕ)) (buf : List ℕ) (len : ℕ) (is_ended : Bool) → ReadAs left0 left1 buf (read.Line len is_ended) → FirstLine left0 left1 (take len buf) (not is_ended)
first_line left0 left1 buf len is_ended r = first_line_of left0 left1 (take len buf) r.0 is_ended r.1 r.2.1 (omega (arith, r.2.0, length-take len buf)) r.2.2

-- more than 600 bytes without a line end are the prefix of a line that is too long
pub long_line : (bytes lines : List ℕ) → IsOneLine bytes → length bytes ≡ 601 → (line : List ℕ) × (more : List (List ℕ)) × (lines_of (bytes ++ lines) ≡ line ∷ more) × (601 ≤ length line)
long_line bytes lines one long =
    let w = long_prefix bytes lines one (omega (arith, long)) in
    (bytes ++ w.0, w.1, w.2, omega (arith, long, length-append bytes w.0))
