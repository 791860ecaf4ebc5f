-- The source of the bytes of a read.
use Rattle.std.proofs.Common.{◌≡◌, ℕ, List, Bool, true, false, None, refl}
use Rattle.nv_file.specs.Aheads.{Fetched}
use Rattle.nv_file.specs.declared.ahead.Ahead.{Ahead}

-- where nothing was kept the system was asked
pub asked_where_none : (before now : Ahead) (at : ℕ) (old new : List ℕ) (went : Bool) → Fetched before now at old new went → before.window ≡ None → now.asked ≡ true
asked_where_none before now at old new went fetched none = by_asked now.asked refl
  where
    by_asked : (b : Bool) → now.asked ≡ b → b ≡ true
    by_asked true is = refl
    by_asked false is = cc (none, (fetched.kept is).1.1)
