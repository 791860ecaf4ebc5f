-- The rates that a text gives: the form that its TOML table has to have.
use Rattle.std.specs.Prelude.{ℕ, suc, pos, List, [], ◌∷◌, codes, length, Option, Some, None, option_map, option_and_then, Bool, true, false, not, ◌&&◌, ◌==◌, nat_le, nat_lt, if◌then◌else◌}
use Rattle.std.specs.List.{list_any}
use Rattle.std.specs.Str.{is_utf8}
use Rattle.toml.specs.Data.{Data, Items, Members, integer, array, table, no_items, item, no_members, member, get_member}
use Rattle.toml.specs.Parse.{parse_document}
use Rattle.host_rates.specs.Tables.{StepTable, ClassTable, RateTable}

infixl 10 ◌>>=◌
abbrev ◌>>=◌ : {A B : Type 0} → Option A → (A → Option B) → Option B
o >>= f = option_and_then f o

-- the value, where the test holds
abbrev pub where_holds : {A : Type 0} → Bool → A → Option A
where_holds true x = Some x
where_holds false x = None

-- == whole numbers, tables of two keys, arrays ==

-- a whole number from 1 to the greatest
abbrev pub whole : ℕ → Data → Option ℕ
whole greatest (integer (pos n)) = where_holds (nat_le 1 n && nat_le n greatest) n
whole greatest _ = None

-- how many keys a table has
abbrev pub key_count : Members → ℕ
key_count no_members = 0
key_count (member k d ms) = suc (key_count ms)

-- the two of them, if both are there
abbrev pub both : {A B : Type 0} → Option A → Option B → Option (A × B)
both None o = None
both (Some a) o = option_map (λ b. (a, b)) o

-- the values of a table that has exactly these two keys
abbrev pub two_in : List ℕ → List ℕ → Members → Option (Data × Data)
two_in k l ms = if key_count ms == 2 then both (get_member k ms) (get_member l ms) else None

-- the values of these two keys, if this is a table that has them and no others
abbrev pub two : List ℕ → List ℕ → Data → Option (Data × Data)
two k l (table ms) = two_in k l ms
two k l _ = None

-- each item, where f takes all of them
abbrev pub each : {A : Type 0} → (Data → Option A) → Items → Option (List A)
each f no_items = Some []
each f (item d ds) = f d >>= (λ a. option_map (λ more. a ∷ more) (each f ds))

-- the items of an array
abbrev pub listed : {A : Type 0} → (Data → Option A) → Data → Option (List A)
listed f (array ds) = each f ds
listed f _ = None

-- at least one item, and at most 64
abbrev pub is_few : {A : Type 0} → List A → Bool
is_few xs = nat_le 1 (length xs) && nat_le (length xs) 64

-- == the rate file ==

-- one price for each zone
abbrev pub mills_of : ℕ → Data → Option (List ℕ)
mills_of zones d = listed (whole 100000) d >>= (λ ms. where_holds (length ms == zones) ms)

-- a step of weight: a limit in grams, and a price in mills for each zone
abbrev pub step_of : ℕ → Data → Option StepTable
step_of zones d = two (codes "grams") (codes "mills") d
    >>= (λ p. both (whole 100000 p.0) (mills_of zones p.1))
    >>= (λ q. Some (record { grams = q.0; mills = q.1 }))

-- each step is for more grams than the one before it
abbrev pub rises_above : ℕ → List StepTable → Bool
rises_above grams [] = true
rises_above grams (s ∷ steps) = nat_lt grams s.grams && rises_above s.grams steps

-- a few steps, each heavier than the one before
abbrev pub steps_of : ℕ → Data → Option (List StepTable)
steps_of zones d = listed (step_of zones) d >>= (λ steps. where_holds (is_few steps && rises_above 0 steps) steps)

-- a class of mail: its number and its steps
abbrev pub class_of : ℕ → Data → Option ClassTable
class_of zones d = two (codes "number") (codes "steps") d
    >>= (λ p. both (whole 65535 p.0) (steps_of zones p.1))
    >>= (λ q. Some (record { number = q.0; steps = q.1 }))

-- one of the classes has this number
abbrev pub has_number : ℕ → List ClassTable → Bool
has_number n cs = list_any (λ c. c.number == n) cs

-- no two classes have one number
abbrev pub differ : List ClassTable → Bool
differ [] = true
differ (c ∷ cs) = not (has_number c.number cs) && differ cs

-- a few classes, no two of one number
abbrev pub classes_of : ℕ → Data → Option (List ClassTable)
classes_of zones d = listed (class_of zones) d >>= (λ cs. where_holds (is_few cs && differ cs) cs)

-- the rates in a document
abbrev pub rates_in : Members → Option RateTable
rates_in ms = two_in (codes "zones") (codes "class") ms
    >>= (λ p. whole 9 p.0 >>= (λ zones. option_map (λ cs. record { zones = zones; classes = cs }) (classes_of zones p.1)))

-- the document of a text, which has to be UTF-8
abbrev pub document : List ℕ → Option Members
document text = if is_utf8 text then parse_document text else None

-- the rates of a text, where it has any
abbrev pub rates_of : List ℕ → Option RateTable
rates_of text = document text >>= rates_in
