-- The code at the end of a message or a mark.
use Rattle.std.specs.Prelude.{ℕ, ◌-◌, Bool, ◌&&◌, List, length, take, drop, nat_le, bytes_eq}
use Rattle.hmac_core.specs.Hmac.{hmac}

-- the last 32 bytes are the code, under the key, of all before them
unfoldable pub has_code : List ℕ → List ℕ → Bool
has_code key bytes = nat_le 32 (length bytes) && bytes_eq (drop (length bytes - 32) bytes) (hmac key (take (length bytes - 32) bytes))
