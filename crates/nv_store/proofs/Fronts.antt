-- The first bytes of a slot, and its payload.
use Rattle.std.proofs.Common.{◌≡◌, ℕ, ◌+◌, List, [], ◌∷◌, take, drop, Bool, true, false, Option, Some, None, if◌then◌else◌, ◌==◌, ◌∙◌, ap, arith}
use Rattle.std.specs.Int.{from_be_bytes, w32}
use Rattle.std.proofs.lemmas.List.{drop-take, drop-drop}
use Rattle.nv_model.specs.Bytes.{range}
use Rattle.nv_store.specs.Slot.{Held, slot, slot_at}

payload_if : (b : Bool) (n : ℕ) (payload : List ℕ) (held : Held) → ◌≡◌ {A = Option Held} (if b then Some (n, payload) else None) (Some held) → held.1 ≡ payload
payload_if true n payload held is = cc is
payload_if false n payload held is = cc is

payload_of : (bytes : List ℕ) (held : Held) → slot bytes ≡ Some held → held.1 ≡ drop 5 bytes
payload_of [] held is = cc is
payload_of (g ∷ []) held is = cc is
payload_of (g ∷ a ∷ []) held is = cc is
payload_of (g ∷ a ∷ b ∷ []) held is = cc is
payload_of (g ∷ a ∷ b ∷ c ∷ []) held is = cc is
payload_of (g ∷ a ∷ b ∷ c ∷ d ∷ payload) held is = payload_if (g == 165) (from_be_bytes w32 (a ∷ b ∷ c ∷ d ∷ [])) payload held is

pub payload_at : (size at : ℕ) (image : List ℕ) (held : Held) → slot_at size at image ≡ Some held → held.1 ≡ range image (at + 5) size
payload_at size at image held is =
    payload_of (range image at (1 + (4 + size))) held is
    ∙ ap (λ (n : ℕ). drop 5 (take n (drop at image))) (omega arith)
    ∙ drop-take 5 size (drop at image)
    ∙ ap (λ (l : List ℕ). take size l) (drop-drop 5 at image ∙ ap (λ (n : ℕ). drop n image) (omega arith))
