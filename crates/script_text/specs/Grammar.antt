-- The lines of a script, and the events that they spell.
use Rattle.std.specs.Prelude.{◌≡◌, ℕ, ℤ, Option, Some, None, List, [], ◌∷◌, ◌++◌, Bool, true, false, codes, decimal}
use Rattle.psd_audit.specs.Dates.{IsDateText}
use Rattle.bench_base.specs.declared.{words.Kind.Kind, words.Kind.TheVariants.Enrol, words.Kind.TheVariants.Reset, events.Event.Event}
use Rattle.bench_base.specs.declared.events.Event.TheVariants as ev
use Rattle.bench_base.specs.Events.{needs}
use Rattle.script_words.specs.Words.{joined, device_word, node_word, hex_word, byte_word, given_word, kind_word}

-- the kind of what is asked for, and the one number that counts for it
abbrev pub ask_words : Kind → ℕ → ℕ → List (List ℕ)
ask_words Enrol customer amount = kind_word Enrol ∷ decimal customer ∷ []
ask_words Reset customer amount = kind_word Reset ∷ decimal amount ∷ []
ask_words kind customer amount = kind_word kind ∷ []

-- the keyword for a suspension, and for its end
abbrev pub flag_word : Bool → List ℕ
flag_word true = codes "suspend"
flag_word false = codes "resume"

-- the words of an event; a day has its date after this word
abbrev pub words_of : Event → List (List ℕ)
words_of (ev.Day t) = codes "day" ∷ []
words_of ev.Rates = codes "rates" ∷ []
words_of (ev.Make d key) = codes "make" ∷ device_word d ∷ hex_word key ∷ []
words_of (ev.On n) = codes "on" ∷ node_word n ∷ []
words_of (ev.Off n) = codes "off" ∷ node_word n ∷ []
words_of (ev.Cut n calls keep byte) = codes "cut" ∷ node_word n ∷ decimal calls ∷ decimal keep ∷ byte_word byte ∷ []
words_of (ev.Debit d piece postage class) = codes "debit" ∷ device_word d ∷ decimal piece ∷ decimal postage ∷ decimal class ∷ []
words_of (ev.Ask d kind customer amount) = codes "ask" ∷ device_word d ∷ ask_words kind customer amount
words_of (ev.Resend d) = codes "resend" ∷ device_word d ∷ []
words_of (ev.Ack d) = codes "ack" ∷ device_word d ∷ []
words_of (ev.Status d) = codes "status" ∷ device_word d ∷ []
words_of (ev.Register d origin key) = codes "register" ∷ device_word d ∷ decimal origin ∷ hex_word key ∷ []
words_of (ev.OpenCustomer c) = codes "customer" ∷ decimal c ∷ []
words_of (ev.Deposit c receipt amount) = codes "deposit" ∷ decimal c ∷ decimal receipt ∷ decimal amount ∷ []
words_of (ev.Flag c suspended) = flag_word suspended ∷ decimal c ∷ []
words_of (ev.Balance c) = codes "balance" ∷ decimal c ∷ []
words_of (ev.Deliver k) = codes "deliver" ∷ decimal k ∷ []
words_of (ev.Give n bytes) = codes "give" ∷ node_word n ∷ given_word bytes ∷ []
words_of (ev.Order d piece class grams zone) =
    codes "order" ∷ device_word d ∷ decimal piece ∷ decimal class ∷ decimal grams ∷ decimal zone ∷ []
words_of (ev.Send j) = codes "send" ∷ decimal j ∷ []
words_of (ev.Print j) = codes "print" ∷ decimal j ∷ []
words_of (ev.Close j) = codes "close" ∷ decimal j ∷ []
words_of (ev.Trust d key) = codes "trust" ∷ device_word d ∷ hex_word key ∷ []
words_of (ev.ScanMsg scan k) = codes "scan" ∷ decimal scan ∷ codes "msg" ∷ decimal k ∷ []
words_of (ev.ScanHex scan bytes) = codes "scan" ∷ decimal scan ∷ codes "hex" ∷ given_word bytes ∷ []
words_of (ev.Reconcile d) = codes "reconcile" ∷ device_word d ∷ []
words_of ev.End = codes "end" ∷ []

-- these words, and after them the date of the day that an event sets
abbrev pub AreDated : Option ℤ → List (List ℕ) → List (List ℕ) → Type 0
AreDated None front ws = ws ≡ front
AreDated (Some t) front ws = (date : List ℕ) × IsDateText t date × (ws ≡ front ++ date ∷ [])

-- these are the words of the event
abbrev pub AreWordsOf : Event → List (List ℕ) → Type 0
AreWordsOf e ws = AreDated (needs e).sets (words_of e) ws

-- the line is that of the event: its words, joined
abbrev pub Spells : Event → List ℕ → Type 0
Spells e line = (ws : List (List ℕ)) × AreWordsOf e ws × (line ≡ joined ws)

-- the line does nothing: it is empty, or begins with `#`
abbrev pub IsSkipped : List ℕ → Type 0
IsSkipped [] = Unit {0}
IsSkipped (c ∷ line) = c ≡ 35
