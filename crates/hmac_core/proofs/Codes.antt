-- A code has 32 bytes.
use Rattle.std.proofs.Common.{◌≡◌, ℕ, List, length}
use Rattle.hmac_core.specs.Hmac.{hmac}
use Rattle.sha2.proofs.Facts256.{length-sha256}

pub length_hmac : (key text : List ℕ) → length (hmac key text) ≡ 32
unfolding hmac
length_hmac key text = length-sha256 _
