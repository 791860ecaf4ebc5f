-- The lines of the desk, and the words that they are read from.
use Rattle.std.proofs.Common.{◌≡◌, inl, inr, ℕ, ◌<◌, ◌^◌, List, [], ◌∷◌, length, get_or, Option, Some, None, refl, sym, subst, ◌∙◌, ap, arith}
use Rattle.std.specs.Prelude.{codes, decimal, IfNone, IfSome, IsTrue, nat_lt}
use Rattle.std.proofs.lemmas.Bool.Decides.{nat_tests}
use Rattle.bench_base.specs.Questions.{IsScanUnder}
use Rattle.bench_base.specs.Ranges.{IsCustomer}
use Rattle.bench_base.specs.Table.{IsBytes}
use Rattle.bench_base.specs.Events.{IsWholeEvent}
use Rattle.bench_base.specs.declared.events.Event.{Event}
use Rattle.bench_base.specs.declared.events.Event.TheVariants as ev
use Rattle.script_text.specs.Grammar.{Spells}
use Rattle.script_words.specs.Words.{words_in, hex_word, given_word}
use Rattle.script_text.proofs.EachEvent.{words_spelled, one_event_of}
use Rattle.script_text.proofs.ReadBack.{number_in, hex_in, given_in, word_again, hex_again, given_again, given_is}
use Rattle.line_extensions.specs.Events.{IsLineOf}
use Rattle.spoil_claims.specs.ClaimLines.{IsClaim, IsClaimLine, IsScan}
use Rattle.spoil_claims.specs.declared.{claim.ClaimLine.ClaimLine, claim.ClaimLine.TheVariants.Claim, claim.ClaimLine.TheVariants.Credits, claim.ClaimLine.TheVariants.Reserved}

-- == a claim's words ==

-- the mark is the same too
pub one_mark : (ws : List (List ℕ)) (c d x y : List ℕ) (g mark : List ℕ) → IsBytes g → IsBytes mark → length mark ≡ 64
    → ws ≡ c ∷ x ∷ given_word g ∷ [] → ws ≡ d ∷ y ∷ hex_word mark ∷ [] → g ≡ mark
one_mark ws c d x y g mark bytes bytes' long is is' =
    let same : given_word g ≡ hex_word mark = cc in
    sym (given_again g bytes) ∙ ap (λ (w : List ℕ). given_in w) (same ∙ sym (given_is mark long)) ∙ given_again mark bytes'

-- == a scan's number ==

pub above : (n : ℕ) → IsTrue (nat_lt 3000000000 n) → 3000000000 < n
above n is = grind (arith, nat_tests)

pub is_above : (n : ℕ) → 3000000000 < n → IsTrue (nat_lt 3000000000 n)
is_above n lt = grind (arith, nat_tests)

-- a line that is this scan
scan_event : (m : ℕ) (line : List ℕ) → IsScan m line → (e : Event) × IsLineOf e line × IsScanUnder m e
scan_event m line scan = elim scan [
  | inl s ↦ (ev.ScanMsg m s.0, s.1, inl (s.0, refl))
  | inr s ↦ (ev.ScanHex m s.0, s.1, inr (s.0, refl))
]

one_event_number : (e : Event) (m n : ℕ) → IsScanUnder m e → IsScanUnder n e → m ≡ n
one_event_number e m n (inl a) (inl b) = let same : ev.ScanMsg m a.0 ≡ ev.ScanMsg n b.0 = sym a.1 ∙ b.1 in cc
one_event_number e m n (inl a) (inr b) = let same : ev.ScanMsg m a.0 ≡ ev.ScanHex n b.0 = sym a.1 ∙ b.1 in cc
one_event_number e m n (inr a) (inl b) = let same : ev.ScanHex m a.0 ≡ ev.ScanMsg n b.0 = sym a.1 ∙ b.1 in cc
one_event_number e m n (inr a) (inr b) = let same : ev.ScanHex m a.0 ≡ ev.ScanHex n b.0 = sym a.1 ∙ b.1 in cc

module _ (e : Event) (line : List ℕ) (is : IsWholeEvent e × Spells e line) where
  -- the scan of the line is that of its event
  of_event : (m : ℕ) → IsScan m line → IsScanUnder m e
  of_event m scan =
      let s = scan_event m line scan in
      subst (λ (x : Event). IsScanUnder m x) (one_event_of s.0 e line s.1.whole is.0 s.1.spells is.1) s.2

  of_line : (n : ℕ) → IsScanUnder n e → IsScan n line
  of_line n (inl a) = inl (a.0, subst (λ (x : Event). IsLineOf x line) a.1 (record { whole = is.0; spells = is.1 }))
  of_line n (inr a) = inr (a.0, subst (λ (x : Event). IsLineOf x line) a.1 (record { whole = is.0; spells = is.1 }))

  pub scan_found : (r : Option ℕ) → IfSome r (λ n. IsScanUnder n e) → IfSome r (λ n. IsScan n line × ((m : ℕ) → IsScan m line → m ≡ n))
  scan_found None found = tt
  scan_found (Some n) found = (of_line n found, λ m scan. one_event_number e m n (of_event m scan) found)

  pub scan_none : (r : Option ℕ) → IfNone r ((n : ℕ) → IsScanUnder n e → ⊥) → IfNone r ((n : ℕ) → IsScan n line → ⊥)
  scan_none None none = λ n scan. none n (of_event n scan)
  scan_none (Some n) none = tt

pub no_event_scan : (line : List ℕ) → ((e : Event) → IsWholeEvent e → Spells e line → ⊥) → (n : ℕ) → IsScan n line → ⊥
no_event_scan line none n scan = let s = scan_event n line scan in none s.0 s.1.whole s.1.spells

-- == a line's first word ==

abbrev pub word_for : ClaimLine → List ℕ
word_for (Claim c w mark) = codes "claim"
word_for (Credits w) = codes "credits"
word_for Reserved = codes "scan"

scan_words : (n : ℕ) (line : List ℕ) → IsScan n line → (v : List ℕ) × (ws : List (List ℕ)) × (words_in line ≡ codes "scan" ∷ v ∷ ws)
scan_words n line scan = elim scan [
  | inl s ↦ (_, _, words_spelled (ev.ScanMsg n s.0) line s.1.whole s.1.spells)
  | inr s ↦ (_, _, words_spelled (ev.ScanHex n s.0) line s.1.whole s.1.spells)
]

-- it has that word, and another after it
pub words_for : (own : ClaimLine) (line : List ℕ) → IsClaimLine own line → (v : List ℕ) × (ws : List (List ℕ)) × (words_in line ≡ word_for own ∷ v ∷ ws)
words_for (Claim c w mark) line is = (_, _, is.1)
words_for (Credits w) line is = (_, _, is.1)
words_for Reserved line is = scan_words is.0 line is.2

pub none_alone : (line word : List ℕ) → words_in line ≡ word ∷ [] → (own : ClaimLine) → IsClaimLine own line → ⊥
none_alone line word is own here = let words = words_for own line here in let two : word ∷ [] ≡ word_for own ∷ words.0 ∷ words.1 = sym is ∙ words.2 in cc

pub only_word : (line word : List ℕ) (rest : List (List ℕ)) → words_in line ≡ word ∷ rest → (own : ClaimLine) → IsClaimLine own line → word ≡ word_for own
only_word line word rest is own here = let words = words_for own line here in let two : word ∷ rest ≡ word_for own ∷ words.0 ∷ words.1 = sym is ∙ words.2 in cc

pub none_of : {A : Type 0} {P Q : Type 0} (o : Option A) → (P → Q) → IfNone o P → IfNone o Q
none_of None f h = f h
none_of (Some x) f h = h

-- the words after the first
pub tail_is : (line word : List ℕ) (rest ws : List (List ℕ)) (first : List ℕ) → words_in line ≡ word ∷ rest → words_in line ≡ first ∷ ws → rest ≡ ws
tail_is line word rest ws first is other = let two : word ∷ rest ≡ first ∷ ws = sym is ∙ other in cc

-- the first word distinguishes the lines
credits_differ : codes "claim" ≡ codes "credits" → ⊥
credits_differ is = let at : 108 ≡ 114 = ap (λ (l : List ℕ). get_or l 1 0) is in omega (arith, at)

scan_differs : codes "claim" ≡ codes "scan" → ⊥
scan_differs is = let at : 99 ≡ 115 = ap (λ (l : List ℕ). get_or l 0 0) is in omega (arith, at)

scan_credits_differ : codes "credits" ≡ codes "scan" → ⊥
scan_credits_differ is = let at : 99 ≡ 115 = ap (λ (l : List ℕ). get_or l 0 0) is in omega (arith, at)

module _ (line word rest : List ℕ) (split : words_in line ≡ word ∷ words_in rest) where
  -- after `claim`
  pub claim_none : word ≡ codes "claim" → ((c w : ℕ) (mark : List ℕ) → IsClaim c w mark → words_in rest ≡ decimal c ∷ decimal w ∷ hex_word mark ∷ [] → ⊥)
      → (own : ClaimLine) → IsClaimLine own line → ⊥
  claim_none is none (Claim c w mark) here = none c w mark here.0 (tail_is line word (words_in rest) _ _ split here.1)
  claim_none is none (Credits w) here = credits_differ (sym is ∙ only_word line word (words_in rest) split (Credits w) here)
  claim_none is none Reserved here = scan_differs (sym is ∙ only_word line word (words_in rest) split Reserved here)

  -- after `credits`
  pub credits_none : word ≡ codes "credits" → ((w : ℕ) → IsCustomer w → words_in rest ≡ decimal w ∷ [] → ⊥) → (own : ClaimLine) → IsClaimLine own line → ⊥
  credits_none is none (Claim c w mark) here = credits_differ (sym (only_word line word (words_in rest) split (Claim c w mark) here) ∙ is)
  credits_none is none (Credits w) here = none w here.0 (tail_is line word (words_in rest) _ _ split here.1)
  credits_none is none Reserved here = scan_credits_differ (sym is ∙ only_word line word (words_in rest) split Reserved here)

  -- after another word
  pub others_none : (word ≡ codes "claim" → ⊥) → (word ≡ codes "credits" → ⊥) → (word ≡ codes "scan" → ((n : ℕ) × (3000000000 < n) × IsScan n line) → ⊥)
      → (own : ClaimLine) → IsClaimLine own line → ⊥
  others_none no_claims no_credits no_scan (Claim c w mark) here = no_claims (only_word line word (words_in rest) split (Claim c w mark) here)
  others_none no_claims no_credits no_scan (Credits w) here = no_credits (only_word line word (words_in rest) split (Credits w) here)
  others_none no_claims no_credits no_scan Reserved here = no_scan (only_word line word (words_in rest) split Reserved here) here

-- == one line of the desk at most ==

one_decimal : (c d : ℕ) → c < 2 ^ 32 → d < 2 ^ 32 → decimal c ≡ decimal d → c ≡ d
one_decimal c d short short' same = sym (word_again c short) ∙ ap (λ (w : List ℕ). number_in w) same ∙ word_again d short'

one_hex : (x y : List ℕ) → IsBytes x → IsBytes y → hex_word x ≡ hex_word y → x ≡ y
one_hex x y bytes bytes' same = sym (hex_again x bytes) ∙ ap (λ (w : List ℕ). hex_in w) same ∙ hex_again y bytes'

one_claim : (c d w v : ℕ) (x y : List ℕ) → c ≡ d → w ≡ v → x ≡ y → Claim c w x ≡ Claim d v y
one_claim c d w v x y number customer mark = cc

-- a line is one line of the desk at most
pub one_own : (own other : ClaimLine) (line : List ℕ) → IsClaimLine own line → IsClaimLine other line → own ≡ other
one_own (Claim c w x) (Claim d v y) line is too =
    let two : codes "claim" ∷ decimal c ∷ decimal w ∷ hex_word x ∷ [] ≡ codes "claim" ∷ decimal d ∷ decimal v ∷ hex_word y ∷ [] = sym is.1 ∙ too.1 in
    let number : decimal c ≡ decimal d = ap (λ (ws : List (List ℕ)). get_or ws 1 []) two in
    let customer : decimal w ≡ decimal v = ap (λ (ws : List (List ℕ)). get_or ws 2 []) two in
    let mark : hex_word x ≡ hex_word y = ap (λ (ws : List (List ℕ)). get_or ws 3 []) two in
    one_claim c d w v x y (one_decimal c d is.0.word too.0.word number)
    (one_decimal w v (omega (arith, is.0.customer.1)) (omega (arith, too.0.customer.1)) customer) (one_hex x y is.0.bytes too.0.bytes mark)
one_own (Claim c w x) (Credits v) line is too = absurd (credits_differ (only_word line (codes "claim") _ is.1 (Credits v) too))
one_own (Claim c w x) Reserved line is too = absurd (scan_differs (only_word line (codes "claim") _ is.1 Reserved too))
one_own (Credits w) (Claim d v y) line is too = absurd (credits_differ (only_word line (codes "claim") _ too.1 (Credits w) is))
one_own (Credits w) (Credits v) line is too =
    let two : codes "credits" ∷ decimal w ∷ [] ≡ codes "credits" ∷ decimal v ∷ [] = sym is.1 ∙ too.1 in
    ap Credits (one_decimal w v (omega (arith, is.0.1)) (omega (arith, too.0.1)) (ap (λ (ws : List (List ℕ)). get_or ws 1 []) two))
one_own (Credits w) Reserved line is too = absurd (scan_credits_differ (only_word line (codes "credits") _ is.1 Reserved too))
one_own Reserved (Claim d v y) line is too = absurd (scan_differs (only_word line (codes "claim") _ too.1 Reserved is))
one_own Reserved (Credits v) line is too = absurd (scan_credits_differ (only_word line (codes "credits") _ too.1 Reserved is))
one_own Reserved Reserved line is too = refl
