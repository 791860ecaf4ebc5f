-- A line writes at most one mark.
use Rattle.std.proofs.Common.{◌≡◌, ℕ, List, length, Result, Ok, Err, true≢false, sym, ◌∙◌, ap, arith}
use Rattle.std.specs.Prelude.{IsOk}
use Rattle.std.specs.Char.{to_ascii_lowercase}
use Rattle.std.proofs.lemmas.List.{length-map}
use Rattle.hex.specs.Hex.{decode_of}
use Rattle.hex.proofs.HexLemmas.{decode_of-encode_lower}
use Rattle.bench_base.specs.declared.refusals.MarkFault.{MarkFault}
use Rattle.bench_base.proofs.Facts.{ok_same}
use Rattle.indicium.specs.Marks as marks
use Rattle.script_words.proofs.HexDigits.{no_twice}
use Rattle.audit_seen.specs.Lines.{IsMarkOf, IsWritten}

-- a line of another length writes none
pub none_of_length : (line : List ℕ) → (length line ≡ 128 → ⊥) → (mark : List ℕ) → IsWritten line mark → ⊥
none_of_length line other mark is =
    let same = length-map line to_ascii_lowercase in
    no_twice _ 64 (λ twice. other (omega (arith, same, twice))) mark is.long is.digits

-- two marks that a line writes are the same
pub written_once : (line mark other : List ℕ) → IsWritten line mark → IsWritten line other → mark ≡ other
written_once line mark other is too = ok_same (sym (decode_of-encode_lower mark is.bytes) ∙ ap decode_of (sym is.digits ∙ too.digits) ∙ decode_of-encode_lower other too.bytes)

-- an error is no `Ok`
failed : {A E : Type 0} (r : Result A E) (e : E) → r ≡ Err e → IsOk r → ⊥
failed (Ok x) e is fine = cc is
failed (Err x) e is fine = absurd (true≢false (sym fine))

-- a line is no mark if the bytes that it writes read as none
pub none_by_bytes : (line mark : List ℕ) → IsWritten line mark → (e : MarkFault) → marks.read_mark mark ≡ Err e → (other : List ℕ) → IsMarkOf line other → ⊥
none_by_bytes line mark is e fails other of = failed _ e (ap marks.read_mark (written_once line other mark of.written is) ∙ fails) of.reads
