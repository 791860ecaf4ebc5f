-- The sums of a device, in mills. The commits, and the lists of amounts, have the newest first.
use Rattle.std.specs.Prelude.{ℕ, ℤ, pos, ◌+◌, ◌-◌, ◌-ℤ◌, ◌&&◌, List, [], ◌∷◌, ◌++◌, ◌==◌, if◌then◌else◌}
use Rattle.bench_base.specs.declared.{words.Kind.TheVariants.Reset, words.Verdict.Verdict, ledger.Commit.Commit, ledger.Commit.TheVariants.Applied, ledger.Commit.TheVariants.Debited, ledger.Commit.TheVariants.Ruled}
use Rattle.bench_base.specs.Kinds.{same_kind, empties, is_granted}
use Rattle.psd_wire.specs.declared.message.Request.{Request}
use Rattle.ledger_terms.specs.Requests.{request_in, request_of}

-- == the amounts as lists ==

-- the amount of a granted reset
unfoldable pub buy_of : Verdict → Request → List ℕ
buy_of v q = if is_granted v && same_kind q.kind Reset then q.amount ∷ [] else []

-- the amount of a granted refund or withdrawal
unfoldable pub return_of : Verdict → Request → List ℕ
return_of v q = if is_granted v && empties q.kind then q.amount ∷ [] else []

-- what f gives of each Applied of the device, by the Request of its number among the commits before it
abbrev pub applied_list : (Verdict → Request → List ℕ) → ℕ → List Commit → List ℕ
applied_list f d [] = []
applied_list f d (Applied e n v ∷ C) = if e == d then f v (request_of d n C) ++ applied_list f d C else applied_list f d C
applied_list f d (_ ∷ C) = applied_list f d C

-- what f gives of each Ruled of the device, by its own Request
abbrev pub ruled_list : (Verdict → Request → List ℕ) → ℕ → List Commit → List ℕ
ruled_list f d [] = []
ruled_list f d (Ruled e n v note ∷ C) = if e == d then f v (request_in note) ++ ruled_list f d C else ruled_list f d C
ruled_list f d (_ ∷ C) = ruled_list f d C

-- the amounts of the resets that the centre granted
abbrev pub buys : ℕ → List Commit → List ℕ
buys d C = ruled_list buy_of d C

-- the amounts of the refunds and withdrawals that the centre granted
abbrev pub returns : ℕ → List Commit → List ℕ
returns d C = ruled_list return_of d C

-- the amounts of the granted resets that the device applied
abbrev pub loads : ℕ → List Commit → List ℕ
loads d C = applied_list buy_of d C

-- the amounts of the granted refunds and withdrawals that the device applied
abbrev pub clears : ℕ → List Commit → List ℕ
clears d C = applied_list return_of d C

-- the postage of each debit
abbrev pub spent : ℕ → List Commit → List ℕ
spent d [] = []
spent d (Debited e piece postage class day version ∷ C) = if e == d then postage ∷ spent d C else spent d C
spent d (_ ∷ C) = spent d C

-- == their sums, each by recursion; that they are the sums of the lists is a law ==

-- what a granted reset adds
unfoldable pub adds : Verdict → Request → ℕ
adds v q = if is_granted v && same_kind q.kind Reset then q.amount else 0

-- what a granted refund or withdrawal takes off
unfoldable pub takes : Verdict → Request → ℕ
takes v q = if is_granted v && empties q.kind then q.amount else 0

-- the sum of f over the Applied of a device, each with the Request of its number among the commits before it
abbrev pub applied_sum : (Verdict → Request → ℕ) → ℕ → List Commit → ℕ
applied_sum f d [] = 0
applied_sum f d (Applied e n v ∷ C) = if e == d then applied_sum f d C + f v (request_of d n C) else applied_sum f d C
applied_sum f d (_ ∷ C) = applied_sum f d C

-- the sum of f over the Ruled of a device, each with its own Request
abbrev pub ruled_sum : (Verdict → Request → ℕ) → ℕ → List Commit → ℕ
ruled_sum f d [] = 0
ruled_sum f d (Ruled e n v note ∷ C) = if e == d then ruled_sum f d C + f v (request_in note) else ruled_sum f d C
ruled_sum f d (_ ∷ C) = ruled_sum f d C

-- the sum of buys
abbrev pub bought : ℕ → List Commit → ℕ
bought d C = ruled_sum adds d C

-- the sum of returns
abbrev pub returned : ℕ → List Commit → ℕ
returned d C = ruled_sum takes d C

-- the sum of loads
abbrev pub loaded : ℕ → List Commit → ℕ
loaded d C = applied_sum adds d C

-- the sum of clears
abbrev pub refunded : ℕ → List Commit → ℕ
refunded d C = applied_sum takes d C

-- the sum of spent
abbrev pub ascending : ℕ → List Commit → ℕ
ascending d [] = 0
ascending d (Debited e piece postage class day version ∷ C) = if e == d then ascending d C + postage else ascending d C
ascending d (_ ∷ C) = ascending d C

-- how many debits
abbrev pub pieces : ℕ → List Commit → ℕ
pieces d [] = 0
pieces d (Debited e piece postage class day version ∷ C) = if e == d then pieces d C + 1 else pieces d C
pieces d (_ ∷ C) = pieces d C

-- what is left to spend, and 0 where more was spent and refunded than loaded
abbrev pub descending : ℕ → List Commit → ℕ
descending d C = loaded d C - (ascending d C + refunded d C)

-- the same as a whole number that may be below 0; in a lawful ledger the two are equal
abbrev pub whole_descending : ℕ → List Commit → ℤ
whole_descending d C = pos (loaded d C) -ℤ pos (ascending d C) -ℤ pos (refunded d C)
