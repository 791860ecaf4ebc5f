-- What the commits show of the centre: its devices, its customers and their money, in mills.
use Rattle.std.specs.Prelude.{ℕ, ℤ, pos, ◌+◌, ◌-◌, ◌+ℤ◌, ◌-ℤ◌, Bool, true, false, ◌&&◌, List, [], ◌∷◌, Option, Some, None, ◌==◌, max, if◌then◌else◌}
use Rattle.bench_base.specs.declared.{words.Kind.TheVariants.Enrol, words.Kind.TheVariants.Withdraw, words.Verdict.Verdict, ledger.Commit.Commit, ledger.Commit.TheVariants.Registered, ledger.Commit.TheVariants.Opened, ledger.Commit.TheVariants.Deposited, ledger.Commit.TheVariants.Flagged, ledger.Commit.TheVariants.Ruled, ledger.Commit.TheVariants.Settled}
use Rattle.bench_base.specs.Kinds.{same_kind, is_granted}
use Rattle.bench_base.specs.Rows.{first_of}
use Rattle.psd_wire.specs.declared.message.Request.{Request}
use Rattle.ledger_terms.specs.Requests.{request_in}
use Rattle.ledger_terms.specs.Sums.{adds, takes, ruled_sum}

-- == devices ==

-- the origin and the key under which the device is registered
abbrev pub registered : ℕ → List Commit → Option (ℕ × List ℕ)
registered d [] = None
registered d (Registered e origin key ∷ C) = if e == d then Some (origin, key) else registered d C
registered d (_ ∷ C) = registered d C

-- the postal code of a registration, or 0
abbrev pub origin_in : Option (ℕ × List ℕ) → ℕ
origin_in None = 0
origin_in (Some x) = x.0

-- the key of a registration, or no bytes
abbrev pub key_in : Option (ℕ × List ℕ) → List ℕ
key_in None = []
key_in (Some x) = x.1

-- the customer of the first granted ruling on an enrolment
abbrev pub enrolled : ℕ → List Commit → Option ℕ
enrolled d [] = None
enrolled d (Ruled e n v note ∷ C) = if (e == d) && (is_granted v && same_kind (request_in note).kind Enrol)
    then first_of (enrolled d C) (Some (request_in note).customer) else enrolled d C
enrolled d (_ ∷ C) = enrolled d C

-- a withdrawal of the device was granted
abbrev pub withdrawn : ℕ → List Commit → Bool
withdrawn d [] = false
withdrawn d (Ruled e n v note ∷ C) = if (e == d) && (is_granted v && same_kind (request_in note).kind Withdraw) then true else withdrawn d C
withdrawn d (_ ∷ C) = withdrawn d C

-- the greatest number in a Ruled
abbrev pub ruled : ℕ → List Commit → ℕ
ruled d [] = 0
ruled d (Ruled e n v note ∷ C) = if e == d then max n (ruled d C) else ruled d C
ruled d (_ ∷ C) = ruled d C

-- the greatest number in a Settled
abbrev pub done : ℕ → List Commit → ℕ
done d [] = 0
done d (Settled e n ∷ C) = if e == d then max n (done d C) else done d C
done d (_ ∷ C) = done d C

-- up to which number rulings are settled: a ruling settles those before it, and a Settled its own
abbrev pub settled : ℕ → List Commit → ℕ
settled d C = max (ruled d C - 1) (done d C)

-- the Request in the last Ruled
abbrev pub stored_request : ℕ → List Commit → Option (List ℕ)
stored_request d [] = None
stored_request d (Ruled e n v note ∷ C) = if e == d then Some note else stored_request d C
stored_request d (_ ∷ C) = stored_request d C

-- == customers ==

-- the customer was opened
abbrev pub opened : ℕ → List Commit → Bool
opened c [] = false
opened c (Opened e ∷ C) = if e == c then true else opened c C
opened c (_ ∷ C) = opened c C

-- what the last Flagged says
abbrev pub suspended : ℕ → List Commit → Bool
suspended c [] = false
suspended c (Flagged e flag ∷ C) = if e == c then flag else suspended c C
suspended c (_ ∷ C) = suspended c C

-- the sum of the deposits
abbrev pub deposits : ℕ → List Commit → ℕ
deposits c [] = 0
deposits c (Deposited e receipt amount ∷ C) = if e == c then deposits c C + amount else deposits c C
deposits c (_ ∷ C) = deposits c C

-- the last receipt and its amount
abbrev pub receipt : ℕ → List Commit → ℕ × ℕ
receipt c [] = (0, 0)
receipt c (Deposited e n amount ∷ C) = if e == c then (n, amount) else receipt c C
receipt c (_ ∷ C) = receipt c C

-- the devices that there are
abbrev pub device_numbers : List ℕ
device_numbers = 1 ∷ 2 ∷ 3 ∷ 4 ∷ 5 ∷ 6 ∷ 7 ∷ 8 ∷ []

-- this is the customer
abbrev pub is_some_at : Option ℕ → ℕ → Bool
is_some_at None c = false
is_some_at (Some e) c = e == c

-- the sum of f over a list
abbrev pub sum_over : (ℕ → ℕ) → List ℕ → ℕ
sum_over f [] = 0
sum_over f (x ∷ xs) = f x + sum_over f xs

-- what the rulings of one device add to the sum of a customer under which it was ever enrolled
abbrev pub device_share : (Verdict → Request → ℕ) → ℕ → List Commit → ℕ → ℕ
device_share f c C d = if is_some_at (enrolled d C) c then ruled_sum f d C else 0

-- the sum of f over the rulings of all devices that were ever enrolled under the customer
unfoldable pub customer_sum : (Verdict → Request → ℕ) → ℕ → List Commit → ℕ
customer_sum f c C = sum_over (device_share f c C) device_numbers

-- the sum of buys of all devices ever enrolled under the customer
abbrev pub customer_bought : ℕ → List Commit → ℕ
customer_bought c C = customer_sum adds c C

-- the sum of their returns
abbrev pub customer_returned : ℕ → List Commit → ℕ
customer_returned c C = customer_sum takes c C

-- deposits less buys plus returns, and 0 where buys are more
abbrev pub balance : ℕ → List Commit → ℕ
balance c C = (deposits c C + customer_returned c C) - customer_bought c C

-- the same as a whole number that may be below 0; in a lawful ledger the two are equal
abbrev pub whole_balance : ℕ → List Commit → ℤ
whole_balance c C = pos (deposits c C) -ℤ pos (customer_bought c C) +ℤ pos (customer_returned c C)
