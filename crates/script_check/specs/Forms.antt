-- The words that may follow the first word of a line.
use Rattle.std.specs.Prelude.{ℕ, suc, ◌<◌, ◌≤◌, List, [], ◌∷◌, length, take}
use Rattle.script_check.specs.Slots.{Takes}
use Rattle.script_text.specs.declared.keyword.Keyword.{Keyword}
use Rattle.script_text.specs.declared.keyword.Keyword.TheVariants as kw
use Rattle.script_check.specs.declared.slots.Slot.{Slot}
use Rattle.script_check.specs.declared.slots.Slot.TheVariants as slot

-- what follows the keyword
abbrev pub first_form : Keyword → List Slot
first_form kw.Day = slot.Date ∷ []
first_form kw.Rates = []
first_form kw.Make = slot.Device ∷ slot.Key ∷ []
first_form kw.On = slot.Node ∷ []
first_form kw.Off = slot.Node ∷ []
first_form kw.Cut = slot.Node ∷ slot.Number ∷ slot.Number ∷ slot.Byte ∷ []
first_form kw.Debit = slot.Device ∷ slot.Number ∷ slot.Number ∷ slot.Class ∷ []
first_form kw.Ask = slot.Device ∷ slot.Numbered ∷ slot.Number ∷ []
first_form kw.Resend = slot.Device ∷ []
first_form kw.Ack = slot.Device ∷ []
first_form kw.Status = slot.Device ∷ []
first_form kw.Register = slot.Device ∷ slot.Number ∷ slot.Key ∷ []
first_form kw.Customer = slot.Customer ∷ []
first_form kw.Deposit = slot.Customer ∷ slot.Number ∷ slot.Number ∷ []
first_form kw.Suspend = slot.Customer ∷ []
first_form kw.Resume = slot.Customer ∷ []
first_form kw.Balance = slot.Customer ∷ []
first_form kw.Deliver = slot.Number ∷ []
first_form kw.Give = slot.Taker ∷ slot.Bytes ∷ []
first_form kw.Order = slot.Device ∷ slot.Number ∷ slot.Class ∷ slot.Number ∷ slot.Number ∷ []
first_form kw.Send = slot.Number ∷ []
first_form kw.Print = slot.Number ∷ []
first_form kw.Close = slot.Number ∷ []
first_form kw.Trust = slot.Device ∷ slot.Key ∷ []
first_form kw.Scan = slot.Scan ∷ slot.Msg ∷ slot.Number ∷ []
first_form kw.Reconcile = slot.Device ∷ []
first_form kw.End = []

-- the second form that may follow it; the first form again, if there is only one
abbrev pub second_form : Keyword → List Slot
second_form kw.Ask = slot.Device ∷ slot.Plain ∷ []
second_form kw.Scan = slot.Scan ∷ slot.Hex ∷ slot.Bytes ∷ []
second_form k = first_form k

-- the words fit the first places of the form
abbrev pub AreInPlace : List Slot → List (List ℕ) → Type 0
AreInPlace form [] = Unit {0}
AreInPlace [] (w ∷ ws) = ⊥
AreInPlace (s ∷ form) (w ∷ ws) = Takes s w × AreInPlace form ws

-- so many of the words, from the first one on, fit the first places of the form, and no more
pub record IsTaken (form : List Slot) (ws : List (List ℕ)) (count : ℕ) : Type 0 where
  pub inside : count ≤ length ws
  pub are : AreInPlace form (take count ws)
  pub no_more : count < length ws → AreInPlace form (take (suc count) ws) → ⊥
