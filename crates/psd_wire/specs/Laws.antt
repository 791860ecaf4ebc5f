-- The laws of messages and their spellings.
use Rattle.std.specs.Prelude.{◌≡◌, List, ℕ, ◌++◌, true, false, Ok}
use Rattle.hmac_core.specs.Hmac.{hmac}
use Rattle.bench_base.specs.Table.{IsBytes}
use Rattle.psd_wire.specs.declared.message.Message.{Message}
use Rattle.psd_wire.specs.Grammar.{body, spell, is_coded, IsWhole, read, IsReading, HasCode}

-- what is written is read back as the same message
abbrev pub ReadsBack : Type 0
ReadsBack = (x : Message) (key : List ℕ) → IsWhole x → read (spell x key) ≡ Ok x

-- what is read and has its code is spelled so, each byte of it
abbrev pub SpellsBack : Type 0
SpellsBack = (x : Message) (key bytes : List ℕ) → IsBytes bytes → is_coded x ≡ true → read bytes ≡ Ok x → HasCode bytes key → spell x key ≡ bytes

-- what is read and needs no code is spelled so under any key
abbrev pub SpellsBackUncoded : Type 0
SpellsBackUncoded = (x : Message) (key bytes : List ℕ) → IsBytes bytes → is_coded x ≡ false → read bytes ≡ Ok x → spell x key ≡ bytes

-- what is written has its code
abbrev pub WritesCode : Type 0
WritesCode = (x : Message) (key : List ℕ) → is_coded x ≡ true → HasCode (spell x key) key

-- messages of one spelling under a key are one message
abbrev pub OneSpelling : Type 0
OneSpelling = (x y : Message) (key : List ℕ) → IsWhole x → IsWhole y → spell x key ≡ spell y key → x ≡ y

-- bytes read as one message at most, whatever their code
abbrev pub OneReading : Type 0
OneReading = (bytes : List ℕ) (x y : Message) → IsReading bytes x → IsReading bytes y → x ≡ y

-- a body followed by its code under a key reads as the message
abbrev pub ReadsBody : Type 0
ReadsBody = (x : Message) (key : List ℕ) → is_coded x ≡ true → IsWhole x → read (body x ++ hmac key (body x)) ≡ Ok x

-- messages of one body are one message
abbrev pub OneBody : Type 0
OneBody = (x y : Message) → is_coded x ≡ true → is_coded y ≡ true → IsWhole x → IsWhole y → body x ≡ body y → x ≡ y
