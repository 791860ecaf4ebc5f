-- Words after a keyword that no event has.
use Rattle.std.proofs.Common.{◌≡◌, ◌≢◌, ℕ, ◌≤◌, ◌<◌, ◌^◌, List, [], ◌∷◌, get_or, Result, Ok, Err, refl, sym, ap, subst, ◌∙◌, arith, inl, inr, ◌⊎◌, decimal, codes}
use Rattle.std.specs.Prelude.{IfOk, OnErr}
use Rattle.std.specs.Result.{IsErr}
use Rattle.bench_base.specs.declared.{words.Kind.Kind, words.Kind.TheVariants.Enrol, words.Kind.TheVariants.Reset, words.Kind.TheVariants.Audit, words.Kind.TheVariants.Refund, words.Kind.TheVariants.Withdraw, words.Node.Node, words.Node.TheVariants.Device, words.Node.TheVariants.Centre, words.Node.TheVariants.Host, words.Node.TheVariants.Verifier, events.Event.Event}
use Rattle.bench_base.specs.Ranges.{IsNode, IsGiven, TakesBytes, IsDevice, IsAsk}
use Rattle.script_words.specs.declared.{word.LineFault.LineFault, values.Byte.Byte, values.Msg.Msg, values.Hex.Hex}
use Rattle.script_text.specs.declared.keyword.Keyword.TheVariants as kw
use Rattle.script_text.specs.Grammar.{ask_words}
use Rattle.script_text.specs.Reading.{AreNoWords, IsEventOf, IsEventBehind}
use Rattle.script_words.specs.Words.{words_in, node_word, given_word, byte_word, device_word, kind_word}
use Rattle.script_text.proofs.EachEvent.{no_event}
use Rattle.script_words.proofs.Numbers.{same_number}
use Rattle.script_words.proofs.Splits.{HasFirst, not_one, words_in_some}

behind : (v w : List ℕ) (vs ws : List (List ℕ)) → v ∷ vs ≡ w ∷ ws → vs ≡ ws
behind v w vs ws e = cc

pub none_of : (ws : List (List ℕ)) (r : Result Event LineFault) → IsErr r → AreNoWords ws → IsEventOf ws r
none_of ws (Err fault) is h = h
none_of ws (Ok e) is h = absurd (cc is)

pub no_day : (bytes word rest : List ℕ) → words_in bytes ≡ word ∷ words_in rest → AreNoWords (codes "day" ∷ words_in bytes)
no_day bytes word rest h = no_event kw.Day (words_in bytes) (λ t whole are. not_one bytes word rest h are.0 (behind _ _ _ _ are.2))

node_taking : (n : Node) → TakesBytes n → IsNode n
node_taking (Device d) h = h
node_taking Centre h = tt
node_taking Host h = tt
node_taking Verifier h = tt

pub no_give : (ws : List (List ℕ)) → ((n : Node) (g : List ℕ) → IsNode n → IsGiven g → ws ≢ node_word n ∷ given_word g ∷ []) → AreNoWords (codes "give" ∷ ws)
no_give ws none = no_event kw.Give ws (λ n g whole are. none n g (node_taking n whole.0) whole.1 (behind _ _ _ _ are))

pub no_cut : (ws : List (List ℕ)) → ((n : Node) (calls keep : ℕ) (b : Byte) → IsNode n → calls < 2 ^ 32 → keep < 2 ^ 32 → b.0 < 2 ^ 8
    → ws ≢ node_word n ∷ decimal calls ∷ decimal keep ∷ byte_word b.0 ∷ []) → AreNoWords (codes "cut" ∷ ws)
no_cut ws none = no_event kw.Cut ws (λ n calls keep b whole are. none n calls keep (record { 0 = b }) whole.0 whole.1 whole.2 whole.3 (behind _ _ _ _ are))

pub no_ask : (ws : List (List ℕ)) (r : Result Event LineFault)
    → ((d : ℕ) (kind : Kind) (n : ℕ) → IsDevice d → Unit {0} → n < 2 ^ 32 → ws ≢ device_word d ∷ kind_word kind ∷ decimal n ∷ [])
    → IfOk r (λ e. IsEventBehind kw.Ask ws (Ok e))
    → OnErr r ((d : ℕ) (kind : Kind) → IsDevice d → ws ≡ device_word d ∷ kind_word kind ∷ [] → (kind ≡ Enrol) ⊎ (kind ≡ Reset)) → IsEventBehind kw.Ask ws r
no_ask ws (Ok e) none some alone = some
no_ask ws (Err fault) none some alone = no_event kw.Ask ws (λ d kind customer amount whole are. by_kind d kind customer amount whole.0 whole.1 (behind _ _ _ _ are))
  where
    by_kind : (d : ℕ) (kind : Kind) (c a : ℕ) → IsDevice d → IsAsk kind c a → ws ≡ device_word d ∷ ask_words kind c a → ⊥
    by_kind d Enrol c a fits part e = none d Enrol c fits tt part.0 e
    by_kind d Reset c a fits part e = none d Reset a fits tt part.1 e
    by_kind d Audit c a fits part e = elim (alone d Audit fits e) [ inl e ↦ absurd (cc e) | inr e ↦ absurd (cc e) ]
    by_kind d Refund c a fits part e = elim (alone d Refund fits e) [ inl e ↦ absurd (cc e) | inr e ↦ absurd (cc e) ]
    by_kind d Withdraw c a fits part e = elim (alone d Withdraw fits e) [ inl e ↦ absurd (cc e) | inr e ↦ absurd (cc e) ]

same_cells : (u v w x : List ℕ) (us vs : List (List ℕ)) → w ∷ u ∷ us ≡ x ∷ v ∷ vs → (w ≡ x) × (u ≡ v)
same_cells u v w x us vs e = (cc, cc)

msg_or_hex : codes "msg" ≡ codes "hex" → ⊥
msg_or_hex e = let apart : 109 ≡ 104 = ap (λ (w : List ℕ). get_or w 0 0) e in omega (arith, apart)

not_numbered : (z n : ℕ) → z < 1 → 1 ≤ n → n < 2 ^ 32 → decimal z ≡ decimal n → ⊥
not_numbered z n small one fits e =
    let same = same_number (decimal z) z n (omega (arith, small)) (omega (arith, fits)) refl e in omega (arith, same, small, one)

-- a scan that is numbered 0
pub no_scan_msg : (ws : List (List ℕ)) (z : ℕ) (k : List ℕ) → z < 1 → ws ≡ decimal z ∷ codes "msg" ∷ k ∷ [] → AreNoWords (codes "scan" ∷ ws)
no_scan_msg ws z k small is = no_event kw.Scan ws (
  (λ n j whole are. not_numbered z n small whole.0 whole.1 (same_cells _ _ _ _ _ _ (sym is ∙ behind _ _ _ _ are)).0),
  (λ n g whole are. msg_or_hex (same_cells _ _ _ _ _ _ (sym is ∙ behind _ _ _ _ are)).1),
)

pub no_scan_hex : (ws : List (List ℕ)) (z : ℕ) (k : List ℕ) → z < 1 → ws ≡ decimal z ∷ codes "hex" ∷ k ∷ [] → AreNoWords (codes "scan" ∷ ws)
no_scan_hex ws z k small is = no_event kw.Scan ws (
  (λ n j whole are. msg_or_hex (sym (same_cells _ _ _ _ _ _ (sym is ∙ behind _ _ _ _ are)).1)),
  (λ n g whole are. not_numbered z n small whole.0 whole.1 (same_cells _ _ _ _ _ _ (sym is ∙ behind _ _ _ _ are)).0),
)

pub no_scan : (ws : List (List ℕ)) → ((n : ℕ) (m : Msg) (k : ℕ) → n < 2 ^ 32 → Unit {0} → k < 2 ^ 32 → ws ≢ decimal n ∷ codes "msg" ∷ decimal k ∷ [])
    → ((n : ℕ) (m : Hex) (g : List ℕ) → n < 2 ^ 32 → Unit {0} → IsGiven g → ws ≢ decimal n ∷ codes "hex" ∷ given_word g ∷ []) → AreNoWords (codes "scan" ∷ ws)
no_scan ws msg hex = no_event kw.Scan ws (
  (λ n k whole are. msg n (record {}) k whole.1 tt whole.2 (behind _ _ _ _ are)),
  (λ n g whole are. hex n (record {}) g whole.1 tt whole.2 (behind _ _ _ _ are)),
)

-- words after a word that is a line alone
pub not_alone : (word line : List ℕ) → word ∷ words_in line ≡ word ∷ [] → ⊥
not_alone word line are = subst HasFirst (behind word word (words_in line) [] are) (words_in_some line)
