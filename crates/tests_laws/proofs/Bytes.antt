-- Lists of bytes, tested.
use Rattle.std.proofs.Common.{◌≡◌, ℕ, zero, suc, Bool, true, List, [], ◌∷◌, arith}
use Rattle.std.specs.Prelude.{◌&&◌, nat_lt}
use Rattle.std.proofs.lemmas.Bool.{and_parts, ltb-true}
use Rattle.bench_base.specs.Table.{IsBytes}

abbrev pub all_below : List ℕ → Bool
all_below [] = true
all_below (x ∷ xs) = nat_lt x 256 && all_below xs

pub bytes_below : (xs : List ℕ) → all_below xs ≡ true → IsBytes xs
bytes_below [] h i = omega arith
bytes_below (x ∷ xs) h zero = ltb-true x 256 (and_parts (nat_lt x 256) (all_below xs) h).0
bytes_below (x ∷ xs) h (suc i) = bytes_below xs (and_parts (nat_lt x 256) (all_below xs) h).1 i
