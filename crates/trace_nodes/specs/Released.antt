-- The marks that an event releases.
use Rattle.std.specs.Prelude.{◌≡◌, ◌↔◌, ℕ, List, [], ◌∷◌, Option, Some, None}
use Rattle.bench_base.specs.declared.ledger.Entry.{Entry}
use Rattle.bench_base.specs.declared.ledger.Entry.TheVariants as entry
use Rattle.bench_base.specs.Ledger.{Ledger, IsReleased}

-- the mark among these entries, if one was released
abbrev pub released_in : List (Option Entry) → Option (List ℕ)
released_in [] = None
released_in (Some (entry.Released d piece mark) ∷ rest) = Some mark
released_in (_ ∷ rest) = released_in rest

-- of these entries it is the one mark that was released
abbrev pub IsOnlyRelease : Option (List ℕ) → Ledger → Type 0
IsOnlyRelease released T = (mark : List ℕ) → IsReleased mark T ↔ (released ≡ Some mark)
