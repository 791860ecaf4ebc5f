-- What a word is at its place after the first word of a line.
use Rattle.std.specs.Prelude.{◌≡◌, ℕ, ℤ, ◌<◌, ◌≤◌, ◌^◌, ◌⊎◌, List, codes, decimal}
use Rattle.psd_audit.specs.Dates.{IsDateText}
use Rattle.bench_base.specs.declared.words.Node.{Node}
use Rattle.bench_base.specs.Ranges.{IsDay, IsDevice, IsCustomer, IsNode, IsKey, IsGiven, TakesBytes, IsWord}
use Rattle.script_words.specs.Words.{device_word, node_word, hex_word, byte_word, given_word}
use Rattle.script_check.specs.declared.slots.Slot.{Slot}
use Rattle.script_check.specs.declared.slots.Slot.TheVariants as slot

-- the word may be at this place
abbrev pub Takes : Slot → List ℕ → Type 0
Takes slot.Date w = (t : ℤ) × IsDay t × IsDateText t w
Takes slot.Device w = (d : ℕ) × IsDevice d × (w ≡ device_word d)
Takes slot.Node w = (n : Node) × IsNode n × (w ≡ node_word n)
Takes slot.Taker w = (n : Node) × TakesBytes n × (w ≡ node_word n)
Takes slot.Key w = (key : List ℕ) × IsKey key × (w ≡ hex_word key)
Takes slot.Number w = (n : ℕ) × IsWord n × (w ≡ decimal n)
Takes slot.Class w = (n : ℕ) × (n < 2 ^ 16) × (w ≡ decimal n)
Takes slot.Customer w = (c : ℕ) × IsCustomer c × (w ≡ decimal c)
Takes slot.Byte w = (b : ℕ) × (b < 2 ^ 8) × (w ≡ byte_word b)
Takes slot.Bytes w = (bytes : List ℕ) × IsGiven bytes × (w ≡ given_word bytes)
Takes slot.Scan w = (n : ℕ) × (1 ≤ n) × (n < 2 ^ 32) × (w ≡ decimal n)
Takes slot.Numbered w = (w ≡ codes "enrol") ⊎ (w ≡ codes "reset")
Takes slot.Plain w = (w ≡ codes "audit") ⊎ (w ≡ codes "refund") ⊎ (w ≡ codes "withdraw")
Takes slot.Msg w = w ≡ codes "msg"
Takes slot.Hex w = w ≡ codes "hex"
