-- What the text of a check tells that ended at a piece: the number of the piece, and the text of the reply to its scan.
use Rattle.std.proofs.Common.{◌≡◌, ℕ, ◌<◌, ◌^◌, List, [], ◌∷◌, ◌++◌, length, get_or, drop, refl, sym, ap, ◌∙◌}
use Rattle.std.specs.Prelude.{decimal}
use Rattle.std.proofs.Math.Seq.{drop-append_seam}
use Rattle.std.proofs.lemmas.List.{append-nil}
use Rattle.bench_base.specs.declared.events.Reply.{Reply}
use Rattle.script_words.specs.Words.{words_in}
use Rattle.script_words.proofs.Numbers.{Printed-decimal}
use Rattle.script_words.proofs.Splits.{AreSolid-printed, words_in_first}
use Rattle.script_text.specs.Texts.{text_of}
use Rattle.mail_manifest.specs.Texts.{no_piece_text}
use Rattle.mail_manifest.proofs.Reading.{one_number}

-- what follows `manifest no piece `
piece_rest : (number : ℕ) (reply : Reply) → drop 18 (no_piece_text number reply) ≡ decimal number ++ 32 ∷ (text_of reply ++ [])
unfolding no_piece_text
piece_rest number reply = refl

same_rest : (n k : ℕ) (r s : Reply) → no_piece_text n r ≡ no_piece_text k s → decimal n ++ 32 ∷ (text_of r ++ []) ≡ decimal k ++ 32 ∷ (text_of s ++ [])
same_rest n k r s same = sym (piece_rest n r) ∙ ap (λ (t : List ℕ). drop 18 t) same ∙ piece_rest k s

first_of : (n : ℕ) (line : List ℕ) → n < 2 ^ 64 → get_or (words_in (decimal n ++ 32 ∷ line)) 0 [] ≡ decimal n
first_of n line small = ap (λ (ws : List (List ℕ)). get_or ws 0 []) (words_in_first (decimal n) line (AreSolid-printed (decimal n ∷ []) (Printed-decimal n small, tt)).0)

-- it has one number
pub one_piece : (n k : ℕ) (r s : Reply) → n < 2 ^ 64 → k < 2 ^ 64 → no_piece_text n r ≡ no_piece_text k s → n ≡ k
one_piece n k r s small small' same =
    one_number n k small small'
    (sym (first_of n (text_of r ++ []) small) ∙ ap (λ (l : List ℕ). get_or (words_in l) 0 []) (same_rest n k r s same) ∙ first_of k (text_of s ++ []) small')

-- and one text of the reply
pub one_reply_text : (n : ℕ) (r s : Reply) → no_piece_text n r ≡ no_piece_text n s → text_of r ≡ text_of s
one_reply_text n r s same =
    let behind : 32 ∷ (text_of r ++ []) ≡ 32 ∷ (text_of s ++ []) =
    sym (drop-append_seam (decimal n) (32 ∷ (text_of r ++ []))) ∙ ap (λ (t : List ℕ). drop (length (decimal n)) t) (same_rest n n r s same) ∙ drop-append_seam (decimal n) (32 ∷ (text_of s ++ [])) in
    sym (append-nil (text_of r)) ∙ ap (λ (t : List ℕ). drop 1 t) behind ∙ append-nil (text_of s)
