-- The test of a message's code, and what it says.
use Rattle.std.proofs.Common.{◌≡◌, ℕ, ◌↔◌, List, Bool, IsTrue}
use Rattle.std.proofs.lemmas.Bool.{leb-true, le-leb}
use Rattle.std.proofs.lemmas.Bool.Decides.{same_from_decides, Decides-and}
use Rattle.std.proofs.lemmas.Slice.Eq.{bytes_eq-Decides}
use Rattle.psd_wire.specs.Codes.{has_code}
use Rattle.psd_wire.specs.Grammar.{HasCode}

pub code_is : (key bytes : List ℕ) (b : Bool) → (IsTrue b ↔ HasCode bytes key) → b ≡ has_code key bytes
unfolding has_code
code_is key bytes b h = same_from_decides b (has_code key bytes) h (Decides-and _ _ (leb-true 32 _, le-leb 32 _) (bytes_eq-Decides _ _))
