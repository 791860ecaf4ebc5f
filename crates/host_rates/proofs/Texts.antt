-- A text and its document.
use Rattle.std.proofs.Common.{◌≡◌, IfOk, ◌≤◌, ℕ, List, length, Option, Some, None, Result, Ok, Err, false, ok_or, inl, inr, arith, nat_lt, IsUtf8}
use Rattle.std.proofs.lemmas.Bool.{cases_Bool}
use Rattle.std.proofs.lemmas.Str.{is_utf8-from_IsUtf8, IsUtf8-from_is_utf8}
use Rattle.std.specs.Str.{is_utf8}
use Rattle.toml.specs.Data.{Members}
use Rattle.toml.specs.Parse.{parse_document}
use Rattle.host_rates.specs.declared.reading.RatesFail.{RatesFail}
use Rattle.host_rates.specs.declared.reading.RatesFail.TheVariants as fail
use Rattle.host_rates.specs.Answers.{AreRatesOf, Reads, UnlessMemory, answer, answer_of}
use Rattle.host_rates.specs.Reading.{document, rates_in}
use Rattle.host_rates.specs.Tables.{RateTable, IsRates}
use Rattle.host_rates.proofs.Sound.{IfSome-at, rates_in_sound}

-- a text that isn't too long is answered by its document
pub answer_short : (text : List ℕ) (o : Option Members) → length text ≤ 65536 → document text ≡ o → answer text ≡ answer_of fail.Toml fail.Form o
answer_short text o short is =
    let no : nat_lt 65536 (length text) ≡ false = grind arith in rw (no, is)

pub document_some : (text : List ℕ) (ms : Members) → IsUtf8 text → parse_document text ≡ Some ms → document text ≡ Some ms
document_some text ms utf8 is = rw (is_utf8-from_IsUtf8 text utf8) is

pub document_none : (text : List ℕ) → (IsUtf8 text → parse_document text ≡ None) → document text ≡ None
document_none text none =
    elim (cases_Bool (is_utf8 text)) [
      | inl is_text ↦ rw is_text (none (IsUtf8-from_is_utf8 text is_text))
      | inr is_none ↦ rw is_none
    ]

-- what was read of a document is answered
pub read_unless : {A : Type 0} → (r : Result A RatesFail) (o : Option A) → Reads (λ x. x) r o → UnlessMemory r (ok_or o fail.Form)
read_unless (Ok a) o is = rw is
read_unless (Err fail.Form) o is = rw is
read_unless (Err (fail.Memory e)) o is = tt
read_unless (Err (fail.Length n)) o is = absurd is
read_unless (Err fail.Toml) o is = absurd is

-- what was read of the document of a text are the rates of the text
pub AreRatesOf-read : (r : Result RateTable RatesFail) (text : List ℕ) (ms : Members) → document text ≡ Some ms → Reads (λ x. x) r (rates_in ms) → IfOk r (AreRatesOf text)
AreRatesOf-read (Ok a) text ms is read = rw is read
AreRatesOf-read (Err x) text ms is read = tt

pub IsRates-read : (r : Result RateTable RatesFail) (ms : Members) → Reads (λ x. x) r (rates_in ms) → IfOk r IsRates
IsRates-read (Ok a) ms read = IfSome-at IsRates (rates_in ms) a read (rates_in_sound ms)
IsRates-read (Err x) ms read = tt
