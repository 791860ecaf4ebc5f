-- A write and a sync.
use Rattle.std.proofs.Common.{ℕ, List, subst}
use Rattle.nv_model.specs.Bytes.{SameOutside}
use Rattle.nv_model.specs.Moments.{Times, Nested, Only, Elapses, Tears, Stays}
use Rattle.nv_model.proofs.Runs.{stays_behind}

-- what a write of n bytes leaves, where the content was the only image
pub torn_alone : (at n : ℕ) (content : List ℕ) (old new : Times) → Only old content → Tears at n old new → (c : List ℕ) → new.since old.moment c → SameOutside at n content c
torn_alone at n content old new alone tears c now =
    let from = tears c now in
    subst (λ d. SameOutside at n d c) (alone from.0 from.1) from.2

pub torn_synced : (at n : ℕ) (content : List ℕ) (old mid new : Times) → Nested mid → Only old content → Tears at n old mid → Elapses old mid → Elapses mid new → Stays mid new
    → (c : List ℕ) → new.since old.moment c → SameOutside at n content c
torn_synced at n content old mid new nested alone tears first second stays c now =
    torn_alone at n content old mid alone tears c (stays_behind old mid new nested first second stays c now)
