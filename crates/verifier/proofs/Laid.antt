-- The payloads of rows: what is laid down, and what is read back.
use Rattle.std.proofs.Common.{◌≡◌, ◌↔◌, ℕ, zero, suc, ◌∷◌, ◌+◌, ◌-◌, ◌*◌, ◌<◌, ◌≤◌, ◌^◌, List, ◌++◌, length, get_or, set, take, drop, replicate, refl, sym, ap, ap₂, subst, ◌∙◌, arith, length-append, Some, None, Bool, IsTrue, inl, inr, true, false, true≢false}
use Rattle.std.specs.Int.{w32, to_be_bytes, from_be_bytes}
use Rattle.std.specs.Prelude.{◌==◌, MatchBool, if◌then◌else◌}
use Rattle.std.proofs.lemmas.Bool.{cases_lt, ne_eqb}
use Rattle.std.proofs.lemmas.List.{take_at, drop_at, drop-drop, take-append-drop, length-take, length-drop, drop-replicate, length-replicate, get_or-replicate, get_or_past, take_all}
use Rattle.bench_base.specs.Table.{Four, spelled, number, IsBytes}
use Rattle.bench_base.specs.declared.sizes.TheConstants.{BLOCK_BYTES, BLOCK_PIECES, LAST_BLOCK}
use Rattle.bench_base.proofs.Tables.{IsBytes-drop, IsBytes-take, length_spelled, number_spelled, spelled_number}
use Rattle.node_acts.specs.RowList.{listed}
use Rattle.node_acts.specs.RowLaws.{listed_same, listed_is, listed_long, listed_at}
use Rattle.verifier.specs.Rows.{Row, TrustRow, BlockRow}
use Rattle.verifier.specs.Payload.{words, word_at, trust_bytes, block_bytes, scans_of, key_of, row_of, RowReadsAs, IsPayloadOf}
use Rattle.verifier.specs.PayloadLaws.{PayloadLaws}
use Rattle.verifier.specs.Seen.{scan_shown}
use Rattle.verifier.proofs.Basics.{trust_low, block_high}
use Rattle.verifier.proofs.Words.{length_words, word_words, word_next, word_fits, words_back, zero_word, words_zeros, all_zeros, put_word}

-- == blocks, of any number of pieces ==

-- the numbers of a payload: device, block, and n scans
all_words : (n : ℕ) (payload : List ℕ) → listed (suc (suc n)) (λ i. word_at i payload) ≡ word_at 0 payload ∷ (word_at 1 payload ∷ listed n (λ j. word_at (2 + j) payload))
unfolding listed
all_words n payload =
    ap (λ (l : List ℕ). word_at 0 payload ∷ (word_at 1 payload ∷ l))
    (listed_same n (λ j. word_at (suc (suc j)) payload) (λ j. word_at (2 + j) payload) (λ j lt. ap (λ i. word_at i payload) (two j)))
  where
    two : (j : ℕ) → suc (suc j) ≡ 2 + j
    two j = omega arith

pub block_back : (n : ℕ) (payload : List ℕ) → length payload ≡ 8 + 4 * n → IsBytes payload
    → words (word_at 0 payload ∷ (word_at 1 payload ∷ listed n (λ j. word_at (2 + j) payload))) ≡ payload
block_back n payload long h = ap words (sym (all_words n payload)) ∙ words_back (suc (suc n)) payload (omega arith) h

-- a block's bytes once the piece at a place is accepted
pub block_laid : (n : ℕ) (old one two three : List ℕ) (d b place scan at : ℕ) → length old ≡ 8 + 4 * n → IsBytes old → place < n → at ≡ 8 + 4 * place
    → one ≡ (take 0 old ++ to_be_bytes w32 d) ++ drop 4 old → two ≡ (take 4 one ++ to_be_bytes w32 b) ++ drop 8 one
    → three ≡ (take at two ++ to_be_bytes w32 scan) ++ drop (at + 4) two
    → three ≡ words (d ∷ (b ∷ set (listed n (λ j. word_at (2 + j) old)) place scan))
block_laid n old one two three d b place scan at long h lt where_is first second third =
    put_word (d ∷ (b ∷ scans)) (2 + place) scan at two three (omega (arith, listed_long n (λ j. word_at (2 + j) old), lt)) (omega (arith, where_is)) (sym (put_word (d ∷ (w1 ∷ scans)) 1 b 4 one two (omega arith) refl (sym (put_word (w0 ∷ (w1 ∷ scans)) 0 d 0 old one (omega arith) refl (block_back n old long h) first)) second)) third
    ∙ ap (λ i. words (set (d ∷ (b ∷ scans)) i scan)) (two_more place)
  where
    scans : List ℕ
    scans = listed n (λ j. word_at (2 + j) old)

    w0 : ℕ
    w0 = word_at 0 old

    w1 : ℕ
    w1 = word_at 1 old

    two_more : (i : ℕ) → 2 + i ≡ suc (suc i)
    two_more i = omega arith

-- no piece is accepted in a payload of zeros
pub zero_scans : (n m : ℕ) → m ≡ 8 + 4 * n → listed n (λ j. word_at (2 + j) (replicate m 0)) ≡ replicate n 0
zero_scans n m long =
    listed_is n (λ j. word_at (2 + j) (replicate m 0)) 0 (replicate n 0) (length-replicate n 0) (λ k lt. get_or-replicate n k 0 0 lt ∙ sym (zero_word (2 + k) m (omega arith)))

-- the scans follow device and number
pub scans_behind : (n : ℕ) (payload : List ℕ) → length payload ≡ 8 + 4 * n → IsBytes payload → words (listed n (λ j. word_at (2 + j) payload)) ≡ drop 8 payload
scans_behind n payload long h =
    ap words (listed_same n (λ j. word_at (2 + j) payload) (λ j. word_at j (drop 8 payload)) (λ j lt. ap (λ i. word_at i payload) (two j) ∙ word_next (suc j) payload ∙ word_next j (drop 4 payload) ∙ ap (word_at j) (drop-drop 4 4 payload)))
    ∙ words_back n (drop 8 payload) (omega (arith, length-drop 8 payload)) (IsBytes-drop 8 payload h)
  where
    two : (j : ℕ) → 2 + j ≡ suc (suc j)
    two j = omega arith

abbrev zeros_of : ℕ → List ℕ
zeros_of n = replicate n 0

-- they are zeros if and only if no piece is accepted
pub none_accepted : (n : ℕ) (payload : List ℕ) → length payload ≡ 8 + 4 * n → IsBytes payload → ((j : ℕ) → get_or (listed n (λ i. word_at (2 + i) payload)) j 0 ≡ 0)
    → replicate (length (drop 8 payload)) 0 ≡ drop 8 payload
none_accepted n payload long h none =
    let scans : List ℕ = listed n (λ i. word_at (2 + i) payload) in
    ap (λ k. replicate k 0) (omega (arith, length-drop 8 payload, listed_long n (λ i. word_at (2 + i) payload)))
    ∙ sym (words_zeros (length scans)) ∙ ap words (all_zeros scans none) ∙ scans_behind n payload long h

pub zeros_accepted : (n : ℕ) (payload : List ℕ) → length payload ≡ 8 + 4 * n → replicate (length (drop 8 payload)) 0 ≡ drop 8 payload
    → (j : ℕ) → get_or (listed n (λ i. word_at (2 + i) payload)) j 0 ≡ 0
zeros_accepted n payload long zeros j =
    ap (λ (l : List ℕ). get_or l j 0) (listed_same n (λ i. word_at (2 + i) payload) (λ i. word_at (2 + i) (zeros_of (8 + 4 * n))) (λ i lt. same i lt) ∙ zero_scans n (8 + 4 * n) refl) ∙ at_zeros n j
  where
    at_zeros : (n j : ℕ) → get_or (zeros_of n) j 0 ≡ 0
    at_zeros zero j = refl
    at_zeros (suc n) zero = refl
    at_zeros (suc n) (suc j) = at_zeros n j

    two : (i : ℕ) → 2 + i ≡ suc (suc i)
    two i = omega arith

    deep : (i : ℕ) (bytes : List ℕ) → word_at (2 + i) bytes ≡ word_at i (drop 8 bytes)
    deep i bytes = ap (λ k. word_at k bytes) (two i) ∙ word_next (suc i) bytes ∙ word_next i (drop 4 bytes) ∙ ap (word_at i) (drop-drop 4 4 bytes)

    same : (i : ℕ) → i < n → word_at (2 + i) payload ≡ word_at (2 + i) (zeros_of (8 + 4 * n))
    same i lt =
        deep i payload ∙ ap (word_at i) (sym zeros)
        ∙ zero_word i (length (drop 8 payload)) (omega (arith, length-drop 8 payload)) ∙ sym (zero_word (2 + i) (8 + 4 * n) (omega arith))

-- the scans of what was written
pub scans_written : (n d b : ℕ) (scans : List ℕ) → length scans ≡ n → ((j : ℕ) → get_or scans j 0 < 2 ^ 32) → listed n (λ j. word_at (2 + j) (words (d ∷ (b ∷ scans)))) ≡ scans
scans_written n d b scans long small =
    listed_is n (λ j. word_at (2 + j) (words (d ∷ (b ∷ scans)))) 0 scans long (λ k lt. sym (ap (λ i. word_at i (words (d ∷ (b ∷ scans)))) (two k) ∙ word_words (d ∷ (b ∷ scans)) (suc (suc k)) (omega (arith, long)) (small k)))
  where
    two : (j : ℕ) → 2 + j ≡ suc (suc j)
    two j = omega arith

-- == the key of a device, with any number of zeros after it ==

key_laid : (m : ℕ) (d : ℕ) (key : List ℕ) → length key ≡ 32 → take 32 (drop 4 (spelled Four d ++ (key ++ replicate m 0))) ≡ key
key_laid m d key long =
    ap (take 32) (drop_at (spelled Four d) (key ++ replicate m 0) 4 (length_spelled Four d)) ∙ take_at key (replicate m 0) 32 long

pub trust_laid : (m : ℕ) (old one two : List ℕ) (d : ℕ) (key : List ℕ) → old ≡ replicate (36 + m) 0 → length key ≡ 32 → one ≡ (take 0 old ++ to_be_bytes w32 d) ++ drop 4 old
    → two ≡ take 4 one ++ (key ++ drop 36 one) → two ≡ spelled Four d ++ (key ++ replicate m 0)
unfolding spelled
trust_laid m old one two d key zeros long first second =
    second ∙ ap₂ (λ x y. x ++ (key ++ y))
    (ap (take 4) first ∙ take_at (to_be_bytes w32 d) (drop 4 old) 4 (length_spelled Four d))
    (ap (drop 36) first ∙ sym (drop-drop 32 4 (to_be_bytes w32 d ++ drop 4 old)) ∙ ap (drop 32) (drop_at (to_be_bytes w32 d) (drop 4 old) 4 (length_spelled Four d)) ∙ drop-drop 32 4 old
    ∙ ap (drop 36) zeros ∙ drop-replicate 36 (36 + m) 0 ∙ ap (λ k. replicate k 0) (back m))
  where
    back : (m : ℕ) → 36 + m - 36 ≡ m
    back m = omega arith

-- device, key and zeros are the payload
pub trust_back : (m : ℕ) (payload : List ℕ) → length payload ≡ 36 + m → IsBytes payload → replicate (length (drop 36 payload)) 0 ≡ drop 36 payload
    → spelled Four (word_at 0 payload) ++ (take 32 (drop 4 payload) ++ replicate m 0) ≡ payload
unfolding word_at
trust_back m payload long h zeros =
    ap₂ (λ x y. x ++ (take 32 (drop 4 payload) ++ y))
    (spelled_number Four (take 4 payload) (omega (arith, length-take 4 payload)) (IsBytes-take 4 payload h))
    (ap (λ k. replicate k 0) (omega (arith, length-drop 36 payload)) ∙ zeros ∙ sym (drop-drop 32 4 payload))
    ∙ ap (λ x. take 4 payload ++ x) (take-append-drop 32 (drop 4 payload)) ∙ take-append-drop 4 payload

pub zeros_laid : (m d : ℕ) (key : List ℕ) → length key ≡ 32 → drop 36 (spelled Four d ++ (key ++ replicate m 0)) ≡ replicate m 0
zeros_laid m d key long =
    sym (drop-drop 32 4 (spelled Four d ++ (key ++ replicate m 0))) ∙ ap (drop 32) (drop_at (spelled Four d) (key ++ replicate m 0) 4 (length_spelled Four d)) ∙ drop_at key (replicate m 0) 32 long

device_laid : (d : ℕ) (rest : List ℕ) → d < 2 ^ 32 → word_at 0 (spelled Four d ++ rest) ≡ d
unfolding word_at
device_laid d rest small = ap (λ x. number Four x) (take_at (spelled Four d) rest 4 (length_spelled Four d)) ∙ number_spelled Four d small

-- == the laws of payloads ==

pub trust_parts : (d : ℕ) (key payload : List ℕ) → RowReadsAs (TrustRow d key) payload → (word_at 0 payload ≡ d) × (key_of payload ≡ key) × (replicate (length (drop 36 payload)) 0 ≡ drop 36 payload)
unfolding trust_bytes
trust_parts d key payload reads = (
  ap (word_at 0) (sym reads.reads) ∙ device_laid d (key ++ replicate (BLOCK_BYTES - 36) 0) reads.sound.0,
  ap (λ (l : List ℕ). take 32 (drop 4 l)) (sym reads.reads) ∙ key_laid (BLOCK_BYTES - 36) d key reads.sound.1.0,
  ap (λ (l : List ℕ). replicate (length l) 0) rest ∙ ap (λ k. replicate k 0) (length-replicate {A = ℕ} (BLOCK_BYTES - 36) 0) ∙ sym rest,
)
  where
    rest : drop 36 payload ≡ replicate (BLOCK_BYTES - 36) 0
    rest = ap (drop 36) (sym reads.reads) ∙ zeros_laid (BLOCK_BYTES - 36) d key reads.sound.1.0

pub block_parts : (d b : ℕ) (scans payload : List ℕ) → RowReadsAs (BlockRow d b scans) payload → (word_at 0 payload ≡ d) × (word_at 1 payload ≡ b) × (scans_of payload ≡ scans)
unfolding block_bytes
block_parts d b scans payload reads = (
  ap (word_at 0) (sym reads.reads) ∙ word_words (d ∷ (b ∷ scans)) 0 (omega arith) reads.sound.device,
  ap (word_at 1) (sym reads.reads) ∙ word_words (d ∷ (b ∷ scans)) 1 (omega arith) (omega (arith, reads.sound.number)),
  ap (λ (p : List ℕ). scans_of p) (sym reads.reads) ∙ scans_written BLOCK_PIECES d b scans reads.sound.long reads.sound.words,
)

one_row : (k : ℕ) (x : Row) (payload : List ℕ) → IsPayloadOf k x payload → row_of k payload ≡ x
one_row k (TrustRow d key) payload is =
    let parts = trust_parts d key payload is.row in
    ap (λ t. if t then TrustRow (word_at 0 payload) (key_of payload) else BlockRow (word_at 0 payload) (word_at 1 payload) (scans_of payload)) (trust_low k is.place.1)
    ∙ ap₂ (λ e l. TrustRow e l) parts.0 parts.1
one_row k (BlockRow d b scans) payload is =
    let parts = block_parts d b scans payload is.row in
    ap (λ t. if t then TrustRow (word_at 0 payload) (key_of payload) else BlockRow (word_at 0 payload) (word_at 1 payload) (scans_of payload)) (block_high k is.place)
    ∙ (λ i. BlockRow (parts.0 i) (parts.1 i) (parts.2 i))

one_length : (x : Row) (payload : List ℕ) → RowReadsAs x payload → length payload ≡ BLOCK_BYTES
unfolding trust_bytes block_bytes
one_length (TrustRow d key) payload reads =
    ap length (sym reads.reads)
    ∙ omega (arith, length-append (spelled Four d) (key ++ replicate (BLOCK_BYTES - 36) 0), length-append key (replicate (BLOCK_BYTES - 36) 0), length_spelled Four d, reads.sound.1.0, length-replicate {A = ℕ} (BLOCK_BYTES - 36) 0)
one_length (BlockRow d b scans) payload reads = ap length (sym reads.reads) ∙ omega (arith, length_words (d ∷ (b ∷ scans)), reads.sound.long)

pub payload_laws : PayloadLaws
payload_laws = record {
  one_row = one_row;
  written = λ x sound. record { sound = sound; reads = refl };
  length = one_length;
}

-- == what the calls read and write ==

scan_at : (payload : List ℕ) (place : ℕ) → place < BLOCK_PIECES → get_or (scans_of payload) place 0 ≡ from_be_bytes w32 (take 4 (drop (8 + 4 * place) payload))
unfolding word_at number
scan_at payload place lt =
    listed_at BLOCK_PIECES (λ j. word_at (2 + j) payload) 0 place lt ∙ ap (λ k. number Four (take 4 (drop k payload))) (omega arith)

pub scan_none : (payload : List ℕ) (place scan : ℕ) → place < BLOCK_PIECES → scan ≡ from_be_bytes w32 (take 4 (drop (8 + 4 * place) payload)) → scan ≡ 0
    → None ≡ scan_shown (get_or (scans_of payload) place 0)
scan_none payload place scan lt read is = sym (ap scan_shown (scan_at payload place lt ∙ sym read ∙ is))

pub scan_some : (payload : List ℕ) (place scan : ℕ) → place < BLOCK_PIECES → scan ≡ from_be_bytes w32 (take 4 (drop (8 + 4 * place) payload)) → (scan ≡ 0 → ⊥)
    → Some scan ≡ scan_shown (get_or (scans_of payload) place 0)
scan_some payload place scan lt read isnt =
    sym (ap (λ t. if t then None else Some scan) (ne_eqb scan 0 isnt)) ∙ sym (ap scan_shown (scan_at payload place lt ∙ sym read))

word_read : (i : ℕ) (payload : List ℕ) (word : ℕ) → word ≡ from_be_bytes w32 (take 4 (drop (4 * i) payload)) → word ≡ word_at i payload
unfolding word_at number
word_read i payload word read = read

pub not_number : (payload : List ℕ) (number : ℕ) → number ≡ from_be_bytes w32 (take 4 (drop 4 payload)) → LAST_BLOCK < number
    → (d b : ℕ) (scans : List ℕ) → RowReadsAs (BlockRow d b scans) payload → ⊥
not_number payload number read more d b scans reads = omega (arith, word_read 1 payload number read, (block_parts d b scans payload reads).1, reads.sound.number)

mid_zeros : (a n : ℕ) (payload : List ℕ) → length payload ≡ a + n → take n (drop a payload) ≡ drop a payload
mid_zeros a n payload long = take_all n (drop a payload) (omega (arith, length-drop a payload))

pub not_used : (payload : List ℕ) → length payload ≡ BLOCK_BYTES → replicate (length (take 2048 (drop 8 payload))) 0 ≡ take 2048 (drop 8 payload)
    → (d b : ℕ) (scans : List ℕ) → RowReadsAs (BlockRow d b scans) payload → ⊥
not_used payload long zeros d b scans reads =
    let all : replicate (length (drop 8 payload)) 0 ≡ drop 8 payload = subst (λ (l : List ℕ). replicate (length l) 0 ≡ l) (mid_zeros 8 2048 payload long) zeros in
    reads.sound.used (λ j. ap (λ (l : List ℕ). get_or l j 0) (sym (block_parts d b scans payload reads).2) ∙ zeros_accepted BLOCK_PIECES payload long all j)

pub read_block : (payload : List ℕ) (d b : ℕ) → length payload ≡ BLOCK_BYTES → IsBytes payload → d ≡ from_be_bytes w32 (take 4 (drop 0 payload)) → b ≡ from_be_bytes w32 (take 4 (drop 4 payload))
    → b ≤ LAST_BLOCK → (replicate (length (take 2048 (drop 8 payload))) 0 ≡ take 2048 (drop 8 payload) → ⊥) → RowReadsAs (BlockRow d b (scans_of payload)) payload
unfolding block_bytes
read_block payload d b long h read_d read_b small used = record {
  sound = record {
    device = subst (λ n. n < 2 ^ 32) (sym (word_read 0 payload d read_d)) (word_fits 0 payload h);
    number = small;
    long = listed_long BLOCK_PIECES (λ j. word_at (2 + j) payload);
    words = λ j. elim (cases_lt j BLOCK_PIECES) [
      | inl lt ↦ subst (λ n. n < 2 ^ 32) (sym (listed_at BLOCK_PIECES (λ j. word_at (2 + j) payload) 0 j lt)) (word_fits (2 + j) payload h)
      | inr past ↦ subst (λ n. n < 2 ^ 32) (sym (get_or_past (scans_of payload) j 0 (omega (arith, listed_long BLOCK_PIECES (λ j. word_at (2 + j) payload), past)))) (omega arith)
    ];
    used = λ none. used (subst (λ (l : List ℕ). replicate (length l) 0 ≡ l) (sym (mid_zeros 8 2048 payload long)) (none_accepted BLOCK_PIECES payload long h none));
  };
  reads = ap₂ (λ x y. words (x ∷ (y ∷ scans_of payload))) (word_read 0 payload d read_d) (word_read 1 payload b read_b) ∙ block_back BLOCK_PIECES payload long h;
}

key_long : (payload : List ℕ) → length payload ≡ BLOCK_BYTES → length (key_of payload) ≡ 32
key_long payload long = omega (arith, length-take 32 (drop 4 payload), length-drop 4 payload)

pub read_trust : (d : ℕ) (payload : List ℕ) (word : ℕ) (zero : Bool) → length payload ≡ BLOCK_BYTES → IsBytes payload → word ≡ from_be_bytes w32 (take 4 (drop 0 payload)) → word ≡ d
    → d ≤ 8 → (IsTrue zero ↔ (replicate (length (take 2020 (drop 36 payload))) 0 ≡ take 2020 (drop 36 payload)))
    → MatchBool zero (RowReadsAs (TrustRow d (key_of payload)) payload) ((key : List ℕ) → RowReadsAs (TrustRow d key) payload → ⊥)
unfolding trust_bytes
read_trust d payload word true long h read is small zeros = record {
  sound = (omega (arith, small), (key_long payload long, IsBytes-take 32 (drop 4 payload) (IsBytes-drop 4 payload h)));
  reads = ap (λ n. spelled Four n ++ (key_of payload ++ replicate (BLOCK_BYTES - 36) 0)) (sym is ∙ word_read 0 payload word read)
      ∙ trust_back (BLOCK_BYTES - 36) payload long h (subst (λ (l : List ℕ). replicate (length l) 0 ≡ l) (mid_zeros 36 2020 payload long) (zeros.0 refl));
}
read_trust d payload word false long h read is small zeros = λ key reads.
    let all : replicate (length (take 2020 (drop 36 payload))) 0 ≡ take 2020 (drop 36 payload) = subst (λ (l : List ℕ). replicate (length l) 0 ≡ l) (sym (mid_zeros 36 2020 payload long)) (trust_parts d key payload reads).2 in
    true≢false (sym (zeros.1 all))

pub other_device : (d : ℕ) (payload : List ℕ) (word own : ℕ) → word ≡ from_be_bytes w32 (take 4 (drop 0 payload)) → own ≡ d → (word ≡ own → ⊥)
    → MatchBool (word == own) (RowReadsAs (TrustRow d (key_of payload)) payload) ((key : List ℕ) → RowReadsAs (TrustRow d key) payload → ⊥)
other_device d payload word own read is other =
    subst (λ t. MatchBool t (RowReadsAs (TrustRow d (key_of payload)) payload) ((key : List ℕ) → RowReadsAs (TrustRow d key) payload → ⊥)) (sym (ne_eqb word own other))
    (λ key reads. other (word_read 0 payload word read ∙ (trust_parts d key payload reads).0 ∙ sym is))

pub trust_written : (old : List ℕ) (own d : ℕ) (key one two : List ℕ) → old ≡ replicate BLOCK_BYTES 0 → own ≡ d → own ≤ 8 → length key ≡ 32 → IsBytes key → one ≡ (take 0 old ++ to_be_bytes w32 own) ++ drop 4 old
    → two ≡ take 4 one ++ (key ++ drop 36 one) → RowReadsAs (TrustRow d key) two
unfolding trust_bytes
trust_written old own d key one two zeros is small long h first second = record {
  sound = (omega (arith, is, small), (long, h));
  reads = sym (trust_laid (BLOCK_BYTES - 36) old one two own key zeros long first second ∙ ap (λ n. spelled Four n ++ (key ++ replicate (BLOCK_BYTES - 36) 0)) is);
}
