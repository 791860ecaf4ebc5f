-- What is answered to a text of rates.
use Rattle.std.specs.Prelude.{◌≡◌, ℕ, List, length, Option, Some, None, ok_or, Result, Ok, Err, nat_lt, if◌then◌else◌}
use Rattle.toml.specs.Data.{Members}
use Rattle.host_rates.specs.declared.reading.RatesFail.{RatesFail}
use Rattle.host_rates.specs.declared.reading.RatesFail.TheVariants as fail
use Rattle.host_rates.specs.Tables.{RateTable}
use Rattle.host_rates.specs.Reading.{document, rates_in, rates_of}

-- these are the rates of the text
abbrev pub AreRatesOf : List ℕ → RateTable → Type 0
AreRatesOf text r = rates_of text ≡ Some r

-- == the answer of a reading ==

-- the rates of a document, or which of the two faults it has: no TOML, or not the form
abbrev pub answer_of : {F : Type 0} → F → F → Option Members → Result RateTable F
answer_of no_toml no_form None = Err no_toml
answer_of no_toml no_form (Some ms) = ok_or (rates_in ms) no_form

-- the rates of the text, or why it has none: it is no document, or one of another form
abbrev pub rates_or : {F : Type 0} → F → F → List ℕ → Result RateTable F
rates_or no_toml no_form text = answer_of no_toml no_form (document text)

-- what is answered where there is memory
abbrev pub answer : List ℕ → Result RateTable RatesFail
answer text = if nat_lt 65536 (length text) then Err (fail.Length (length text)) else rates_or fail.Toml fail.Form text

-- this is the answer, or memory ran out
abbrev pub UnlessMemory : {A : Type 0} → Result A RatesFail → Result A RatesFail → Type 0
UnlessMemory (Err (fail.Memory _)) x = Unit {0}
UnlessMemory r x = r ≡ x

-- what was read of a part, seen as `view` says, is this; Form says that there is nothing, and lack of memory says nothing
abbrev pub Reads : {A B : Type 0} → (A → B) → Result A RatesFail → Option B → Type 0
Reads view (Ok a) x = x ≡ Some (view a)
Reads view (Err fail.Form) x = x ≡ None
Reads view (Err (fail.Memory _)) x = Unit {0}
Reads view (Err _) x = ⊥
