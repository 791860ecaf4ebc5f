-- What a reader found, by what is known of what it found.
use Rattle.std.proofs.Common.{Option, Some, None, Result, Ok, Err, IfOk, IfSome, IfNone}
use Rattle.bench_base.proofs.Facts.{none_by}

-- if something is found, a fact of it follows from another
pub some_by : {A : Type 0} (found : Option A) (P Q : A → Type 0) → ((x : A) → P x → Q x) → IfSome found P → IfSome found Q
some_by None P Q by holds = tt
some_by (Some x) P Q by holds = by x holds

-- the same unless memory is out
pub found_by : {A E : Type 0} (result : Result (Option A) E) (P Q : A → Type 0) → ((x : A) → P x → Q x) → IfOk result (λ found. IfSome found P)
    → IfOk result (λ found. IfSome found Q)
found_by (Err e) P Q by holds = tt
found_by (Ok found) P Q by holds = some_by found P Q by holds

-- and if nothing is found
pub missing_by : {A E : Type 0} (result : Result (Option A) E) (P Q : Type 0) → (P → Q) → IfOk result (λ found. IfNone found P) → IfOk result (λ found. IfNone found Q)
missing_by (Err e) P Q by holds = tt
missing_by (Ok found) P Q by holds = none_by found P Q by holds
