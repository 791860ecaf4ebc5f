-- The laws of marks and their spellings.
use Rattle.std.specs.Prelude.{◌≡◌, ℕ, List, take, Ok}
use Rattle.hmac_core.specs.Hmac.{hmac}
use Rattle.bench_base.specs.Table.{IsBytes}
use Rattle.indicium.specs.declared.Mark.{Mark}
use Rattle.indicium.specs.Marks.{body, spell, read_mark, IsWhole, ReadsAs}

-- what is written is read back, with the code of its fields
abbrev pub ReadsBack : Type 0
ReadsBack = (mark : Mark) (key : List ℕ) → IsWhole mark → read_mark (spell mark key) ≡ Ok (mark, hmac key (body mark))

-- what is read and has its code is spelled so, each byte of it
abbrev pub SpellsBack : Type 0
SpellsBack = (bytes key : List ℕ) (mark : Mark) (code : List ℕ) → IsBytes bytes → read_mark bytes ≡ Ok (mark, code)
    → code ≡ hmac key (take 32 bytes) → spell mark key ≡ bytes

-- marks of one spelling are one mark
abbrev pub OneSpelling : Type 0
OneSpelling = (m n : Mark) (key : List ℕ) → IsWhole m → IsWhole n → spell m key ≡ spell n key → m ≡ n

-- bytes read as one mark at most, with one code
abbrev pub OneReading : Type 0
OneReading = (bytes : List ℕ) (m n : Mark) (c d : List ℕ) → ReadsAs bytes m c → ReadsAs bytes n d → (m ≡ n) × (c ≡ d)
