-- What a later edition of the rules may change. Each definition that turns on one of these takes the record.
use Rattle.std.specs.Prelude.{ℕ, ◌≤◌, Bool, ◌||◌, ◌==◌, List, [], ◌∷◌}

-- the numbers of an edition
pub record Rules : Type 0 where
  -- the greatest sum of ascending, descending and refunded, in mills
  pub total : ℕ
  -- the version of the marks, requests and replies that are written
  pub version : ℕ
  -- how many days past its deadline a device still franks, and up to which postage
  pub grace : ℕ
  pub small : ℕ

-- == versions ==

-- marks, requests and replies are read in two versions, under all rules
abbrev pub is_version : ℕ → Bool
is_version v = (v == 1) || (v == 2)

-- the version is 1 or 2
abbrev pub IsVersion : ℕ → Type 0
IsVersion v = (1 ≤ v) × (v ≤ 2)

-- == the editions ==

abbrev pub first_rules : Rules
first_rules = record { total = 4294967295; version = 1; grace = 0; small = 0 }

-- totals up to a million million, with marks and messages of version 2
abbrev pub wide_rules : Rules
wide_rules = record { total = 1000000000000; version = 2; grace = 0; small = 0 }

-- small postage is franked for seven days past the deadline: the edition in use
abbrev pub todays_rules : Rules
todays_rules = record { total = 1000000000000; version = 2; grace = 7; small = 1000 }

-- all editions, the newest first
abbrev pub editions : List Rules
editions = todays_rules ∷ wide_rules ∷ first_rules ∷ []
