-- Steps that fit beside the pairs of an audit: they are the same, one by one.
use Rattle.std.proofs.Common.{◌≡◌, ℕ, ◌+◌, List, [], ◌∷◌, ◌++◌, length, map, drop, flat_map, refl, sym, ◌∙◌, ap, subst, arith, append_assoc}
use Rattle.std.specs.List.{AllByRecursion}
use Rattle.bench_base.specs.declared.events.Reply.{Reply}
use Rattle.bench_base.specs.Ledger.{Ledger}
use Rattle.ledger_moves.specs.Tariffs.{Tariff}
use Rattle.script_text.specs.Grammar.{Spells, IsSkipped}
use Rattle.script_text.specs.Texts.{text_of, IsWholeReply, told}
use Rattle.script_text.proofs.EachEvent.{one_event_of, no_event_skipped}
use Rattle.line_runs.specs.Trace.{Reads, report_of}
use Rattle.line_runs.specs.Lines.{IsOneLine, ended}
use Rattle.line_extensions.specs.Trace as traces
use Rattle.line_extensions.specs.Trace.{TraceStep, Did, GoesOn, done_in, line_of}
use Rattle.line_extensions.specs.Scripts.{script_lines}
use Rattle.script_replay.specs.Trace.{ledger_by, ledger_after}
use Rattle.trace_runs.specs.Verdicts.{Pair, Skipped, Answered, IsPair, line_in, text_for, TellsSo}
use Rattle.trace_runs.specs.Fitting.{AreTold, rates_after}
use Rattle.trace_runs.proofs.One.{same_ledger, same_left}

-- two lines with what follows them are the same in one way
pub one_split : (a b x y : List ℕ) → IsOneLine a → IsOneLine b → ended a ++ x ≡ ended b ++ y → (a ≡ b) × (x ≡ y)
one_split [] [] x y one two is = (refl, cc)
one_split [] (d ∷ b) x y one two is = let same : 10 ≡ d = cc in absurd (two.0 (sym same))
one_split (c ∷ a) [] x y one two is = let same : c ≡ 10 = cc in absurd (one.0 same)
one_split (c ∷ a) (d ∷ b) x y one two is =
    let heads : c ≡ d = cc in
    let w = one_split a b x y one.1 two.1 (cc) in
    (ap (λ (l : List ℕ). c ∷ l) w.0 ∙ ap (λ (n : ℕ). n ∷ b) heads, w.1)

-- the prefix of a line has no line end
pub prefix_one : (prefix more : List ℕ) → IsOneLine (prefix ++ more) → IsOneLine prefix
prefix_one [] more one = tt
prefix_one (c ∷ prefix) more one = (one.0, prefix_one prefix more one.1)

-- How the pairs a relate to the steps b, each with what is left after them. Either the steps go on after the pairs, at a ledger with P; or the pairs
-- go on after the steps.
pub data Compared (τ : Tariff) (P : Ledger → List ℕ → Type 0) (H : Ledger) (left : List ℕ) (a : List Pair) (b : List TraceStep) (ra rb : List (List ℕ)) (ta tb : List ℕ) : Type 0 where
  longer : (more : List TraceStep) (K : Ledger) (l : List ℕ) → length b ≡ length a + length more → P K l → AllByRecursion (Reads script_lines) more → AllByRecursion GoesOn more
      → ra ≡ map traces.line_in more ++ rb → ta ≡ report_of script_lines more ++ tb → AreTold τ K l (done_in more)
      → ledger_after τ K (done_in more) ≡ ledger_after τ H (done_in b) → rates_after l (done_in more) ≡ rates_after left (done_in b) → Compared τ P H left a b ra rb ta tb
  shorter : (p : Pair) (more : List Pair) → length a ≡ length b + (length more + 1) → IsPair p → rb ≡ line_in p ∷ (map line_in more ++ ra) → tb ≡ text_for p ++ (flat_map text_for more ++ ta) → Compared τ P H left a b ra rb ta tb

-- one pair and its step before them
one_more : (τ : Tariff) (P : Ledger → List ℕ → Type 0) (H : Ledger) (left : List ℕ) (p : Pair) (d : TraceStep) (a : List Pair) (b : List TraceStep) (ra rb : List (List ℕ)) (ta tb : List ℕ) (K : Ledger) (l : List ℕ)
    → ledger_after τ H (done_in (d ∷ b)) ≡ ledger_after τ K (done_in b) → rates_after left (done_in (d ∷ b)) ≡ rates_after l (done_in b)
    → Compared τ P K l a b ra rb ta tb → Compared τ P H left (p ∷ a) (d ∷ b) ra rb ta tb
one_more τ P H left p d a b ra rb ta tb K l ledgers lefts (longer more M r size holds reads goes lines texts are behind left_is) =
    longer more M r (omega (arith, size)) holds reads goes lines texts are (behind ∙ sym ledgers) (left_is ∙ sym lefts)
one_more τ P H left p d a b ra rb ta tb K l ledgers lefts (shorter q more size is lines texts) = shorter q more (omega (arith, size)) is lines texts

module _ (one : (x y : Reply) → IsWholeReply x → IsWholeReply y → text_of x ≡ text_of y → told x ≡ told y) (line : (r : Reply) → IsWholeReply r → IsOneLine (text_of r)) (τ : Tariff) (P : Ledger → List ℕ → Type 0) where
  pub compare : (H : Ledger) (left : List ℕ) (a : List Pair) (b : List TraceStep) (ra rb : List (List ℕ)) (ta tb : List ℕ) → AllByRecursion IsPair a → AllByRecursion (Reads script_lines) b → AllByRecursion GoesOn b
      → map line_in a ++ ra ≡ map traces.line_in b ++ rb → flat_map text_for a ++ ta ≡ report_of script_lines b ++ tb → TellsSo τ P H left a → AreTold τ H left (done_in b)
      → Compared τ P H left a b ra rb ta tb
  compare H left [] b ra rb ta tb pairs reads goes lines texts tells are = longer b H left (omega arith) tells reads goes lines texts are refl refl
  compare H left (p ∷ a) [] ra rb ta tb pairs reads goes lines texts tells are = shorter p a (omega arith) pairs.0 (sym lines) (sym texts ∙ append_assoc (text_for p) (flat_map text_for a) ta)
  compare H left (Skipped x ∷ a) (traces.Skipped y ∷ b) ra rb ta tb pairs reads goes lines texts tells are =
      one_more τ P H left (Skipped x) (traces.Skipped y) a b ra rb ta tb H left refl refl (compare H left a b ra rb ta tb pairs.1 reads.1 goes.1 (cc) texts tells are)
  compare H left (Skipped x ∷ a) (Did y d ∷ b) ra rb ta tb pairs reads goes lines texts tells are =
      let same : x ≡ y = cc in
      absurd (no_event_skipped d.event x (subst (λ (l : List ℕ). Spells d.event l) (sym same) reads.0.is.0.spells) pairs.0.is)
  compare H left (Answered x e answer given ∷ a) (traces.Skipped y ∷ b) ra rb ta tb pairs reads goes lines texts tells are =
      let same : x ≡ y = cc in
      absurd (no_event_skipped e x pairs.0.is.0.spells (subst (λ (l : List ℕ). IsSkipped l) (sym same) reads.0.is))
  compare H left (Answered x e answer given ∷ a) (Did y d ∷ b) ra rb ta tb pairs reads goes lines texts tells are =
      let same : x ≡ y = cc in
      let event : d.event ≡ e = one_event_of d.event e x reads.0.is.0.whole pairs.0.is.0.whole (subst (λ (l : List ℕ). Spells d.event l) (sym same) reads.0.is.0.spells) pairs.0.is.0.spells in
      let split = one_split answer (text_of d.reply) (flat_map text_for a ++ ta) (report_of script_lines b ++ tb) pairs.0.is.1 (line d.reply reads.0.is.1)
      (sym (append_assoc (ended answer) (flat_map text_for a) ta) ∙ texts ∙ append_assoc (line_of d.reply) (report_of script_lines b) tb) in
      let w = tells in
      let alike : w.0.event ≡ d.event = w.1.event ∙ sym event in
      let text : text_of w.0.reply ≡ text_of d.reply = w.1.text ∙ split.0 in
      let ledgers = same_ledger one τ H left w.0 d w.1.may are.0 alike text in
      let lefts = same_left one τ H left w.0 d w.1.may are.0 alike text in
      one_more τ P H left (Answered x e answer given) (Did y d) a b ra rb ta tb (ledger_by τ H d) (drop (length d.text) left) refl refl (
      compare (ledger_by τ H d) (drop (length d.text) left) a b ra rb ta tb pairs.1 reads.1 goes.1 (cc) split.1
      (subst (λ (K : Ledger). TellsSo τ P K (drop (length d.text) left) a) ledgers (subst (λ (l : List ℕ). TellsSo τ P (ledger_by τ H w.0) l a) lefts w.2)) are.1
      )
