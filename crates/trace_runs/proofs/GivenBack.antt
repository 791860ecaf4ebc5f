-- Prints of steps that fit beside the pairs of an audit: they are those of what was given in the pairs.
use Rattle.std.proofs.Common.{◌≡◌, ◌≢◌, inl, inr, ℕ, ◌+◌, ◌<◌, List, [], ◌∷◌, ◌++◌, length, map, drop, flat_map, Option, Some, None, refl, sym, ◌∙◌, ap, subst, arith, append_assoc, append-nil}
use Rattle.std.proofs.lemmas.List.{length-append}
use Rattle.std.specs.List.{AllByRecursion}
use Rattle.bench_base.specs.declared.events.Event.{Event}
use Rattle.bench_base.specs.declared.events.Reply.{Reply}
use Rattle.bench_base.specs.declared.events.Reply.TheVariants as r
use Rattle.bench_base.specs.Ledger.{Ledger}
use Rattle.bench_base.specs.Rules.{todays_rules}
use Rattle.ledger_moves.specs.Tariffs.{Tariff}
use Rattle.ledger_moves.specs.Moves.{plan}
use Rattle.node_turns.specs.Printing.{print_of}
use Rattle.hex.specs.Hex.{encode_lower}
use Rattle.text_streams.specs.Texts.{print_line}
use Rattle.script_text.specs.Grammar.{Spells, IsSkipped}
use Rattle.script_text.specs.Texts.{text_of, IsWholeReply, told}
use Rattle.script_text.proofs.EachEvent.{one_event_of, no_event_skipped}
use Rattle.line_runs.specs.Trace.{Reads, report_of}
use Rattle.line_runs.specs.Lines.{IsOneLine, IsCutOff, ended}
use Rattle.line_extensions.specs.Trace as traces
use Rattle.line_extensions.specs.Trace.{TraceStep, Did, GoesOn, done_in, line_of}
use Rattle.line_extensions.specs.Scripts.{script_lines}
use Rattle.script_replay.specs.Trace.{ledger_by}
use Rattle.script_replay.specs.Marks.{IsPrinted}
use Rattle.trace_bench.specs.Stopping.{IsPrefixOf}
use Rattle.trace_runs.specs.declared.{imprint.Given.Given, imprint.Imprint.Imprint}
use Rattle.trace_runs.specs.Audits.{IsRun}
use Rattle.trace_runs.specs.Imprints.{IsGiven, imprint_at}
use Rattle.trace_runs.specs.Prints.{IsPart, ArePrinted}
use Rattle.trace_runs.specs.Verdicts.{Pair, Skipped, Answered, IsPair, line_in, text_for, TellsSo, imprints_from}
use Rattle.trace_runs.specs.Fitting.{IsByHand, HavePrints}
use Rattle.trace_runs.proofs.One.{same_ledger, same_left, same_text}
use Rattle.trace_runs.proofs.Comparing.{one_split}
use Rattle.trace_runs.proofs.Giving.{printed_back, fault_back}
use Rattle.trace_runs.proofs.MadePrinted.{kind}

-- a prefix of the line that is not all of it is some of the digits
digits_of : (digits part more : List ℕ) → ended digits ≡ part ++ more → 0 < length more → IsPrefixOf part digits
digits_of digits [] more is some = (digits, refl)
digits_of [] (c ∷ part) more is some =
    let none : [] ≡ part ++ more = cc is in
    let long : 0 ≡ length part + length more = ap (λ (l : List ℕ). length l) none ∙ length-append part more in
    absurd (omega (arith, long, some))
digits_of (d ∷ digits) (c ∷ part) more is some =
    let head : d ≡ c = cc is in
    let w = digits_of digits part more (cc is) some in
    (w.0, ap (λ (n : ℕ). n ∷ digits) head ∙ ap (λ (l : List ℕ). c ∷ l) w.1)

-- of one job
same_mark : (mark : Option (List ℕ)) (x y : List ℕ) → mark ≡ Some x → mark ≡ Some y → x ≡ y
same_mark mark x y one two = let both : Some x ≡ Some y = sym one ∙ two in cc both

module _ (number : ℕ) (x y : Reply) (mark : Option (List ℕ)) (given : Option Given) (printed hand rest bytes : List ℕ) (more : List Imprint) (same : told x ≡ told y)
    (gives : IsGiven x mark given) (prints : IsPrinted y mark printed) (by_hand : IsByHand y hand) (are : bytes ≡ printed ++ (hand ++ rest)) (others : ArePrinted more rest) where
  no_hand : ((j : ℕ) → y ≢ r.PrinterFault j) → hand ≡ []
  no_hand other = elim by_hand [ inl is ↦ is | inr w ↦ absurd (other w.0 w.1) ]

  whole_back : (j : ℕ) → y ≡ r.Printed j → ArePrinted (imprint_at number given ++ more) bytes
  whole_back j is =
      let g = gives.whole j (printed_back x j (same ∙ ap told is)) in
      let p = prints.whole j is in
      let none = no_hand (λ k other. let wrong : r.Printed j ≡ r.PrinterFault k = sym is ∙ other in cc wrong) in
      subst (λ (o : Option Given). ArePrinted (imprint_at number o ++ more) bytes) (sym g.2) (
        printed,
        rest,
        are ∙ ap (λ (l : List ℕ). printed ++ (l ++ rest)) none,
        p.2 ∙ ap (λ (m : List ℕ). print_line m) (same_mark mark p.0 g.0 p.1 g.1),
        others,
      )

  part_back : (j : ℕ) → y ≡ r.PrinterFault j → ArePrinted (imprint_at number given ++ more) bytes
  part_back j is =
      let g = gives.cut j (fault_back x j (same ∙ ap told is)) in
      let p = prints.cut j is in
      let cut : IsCutOff printed (print_line g.0) = subst (λ (m : List ℕ). IsCutOff printed (print_line m)) (same_mark mark p.0 g.0 p.1 g.1) p.2 in
      let prefix = digits_of (encode_lower g.0) printed cut.0 cut.1 cut.2 in
      let part : IsPart (encode_lower g.0) (printed ++ hand) = elim by_hand [
        | inl none ↦ (printed, prefix, inl (ap (λ (l : List ℕ). printed ++ l) none ∙ append-nil printed))
        | inr w ↦ (printed, prefix, inr (ap (λ (l : List ℕ). printed ++ l) w.2))
      ] in
      subst (λ (o : Option Given). ArePrinted (imprint_at number o ++ more) bytes) (sym g.2) (printed ++ hand, rest, are ∙ sym (append_assoc printed hand rest), part, others)

  none_back : ((j : ℕ) → y ≢ r.Printed j) → ((j : ℕ) → y ≢ r.PrinterFault j) → ArePrinted (imprint_at number given ++ more) bytes
  none_back unprinted uncut =
      let none : given ≡ None =
      gives.none (λ j is. unprinted j (printed_back y j (sym same ∙ ap told is))) (λ j is. uncut j (fault_back y j (sym same ∙ ap told is))) in
      let left : bytes ≡ rest = are ∙ ap (λ (l : List ℕ). l ++ (hand ++ rest)) (prints.none unprinted uncut) ∙ ap (λ (l : List ℕ). l ++ rest) (no_hand uncut) in
      subst (λ (o : Option Given). ArePrinted (imprint_at number o ++ more) bytes) (sym none) (subst (λ (l : List ℕ). ArePrinted more l) (sym left) others)

  pub piece_back : ArePrinted (imprint_at number given ++ more) bytes
  piece_back = elim (kind y) [
    | inl (j, is) ↦ whole_back j is
    | inr (inl (j, is)) ↦ part_back j is
    | inr (inr (a, b)) ↦ none_back a b
  ]

module _ (one : (x y : Reply) → IsWholeReply x → IsWholeReply y → text_of x ≡ text_of y → told x ≡ told y) (line : (r : Reply) → IsWholeReply r → IsOneLine (text_of r)) (τ : Tariff) (P : Ledger → List ℕ → Type 0) where
  pub given_back : (H : Ledger) (left : List ℕ) (a : List Pair) (b : List TraceStep) (number : ℕ) (ra rb : List (List ℕ)) (ta tb prints : List ℕ) → AllByRecursion IsPair a → AllByRecursion (Reads script_lines) b → AllByRecursion GoesOn b
      → length b ≡ length a → map line_in a ++ ra ≡ map traces.line_in b ++ rb → flat_map text_for a ++ ta ≡ report_of script_lines b ++ tb → TellsSo τ P H left a → IsRun τ H left (done_in b)
      → HavePrints (done_in b) prints → ArePrinted (imprints_from number a) prints
  given_back H left [] [] number ra rb ta tb prints pairs reads goes size lines texts tells run are = are
  given_back H left [] (d ∷ b) number ra rb ta tb prints pairs reads goes size lines texts tells run are = absurd (omega (arith, size))
  given_back H left (p ∷ a) [] number ra rb ta tb prints pairs reads goes size lines texts tells run are = absurd (omega (arith, size))
  given_back H left (Skipped x ∷ a) (traces.Skipped y ∷ b) number ra rb ta tb prints pairs reads goes size lines texts tells run are =
      given_back H left a b (number + 1) ra rb ta tb prints pairs.1 reads.1 goes.1 (omega (arith, size)) (cc) texts tells run are
  given_back H left (Skipped x ∷ a) (Did y d ∷ b) number ra rb ta tb prints pairs reads goes size lines texts tells run are =
      let same : x ≡ y = cc in
      absurd (no_event_skipped d.event x (subst (λ (l : List ℕ). Spells d.event l) (sym same) reads.0.is.0.spells) pairs.0.is)
  given_back H left (Answered x e answer given ∷ a) (traces.Skipped y ∷ b) number ra rb ta tb prints pairs reads goes size lines texts tells run are =
      let same : x ≡ y = cc in
      absurd (no_event_skipped e x pairs.0.is.0.spells (subst (λ (l : List ℕ). IsSkipped l) (sym same) reads.0.is))
  given_back H left (Answered x e answer given ∷ a) (Did y d ∷ b) number ra rb ta tb prints pairs reads goes size lines texts tells run are =
      let same : x ≡ y = cc in
      let event : d.event ≡ e = one_event_of d.event e x reads.0.is.0.whole pairs.0.is.0.whole (subst (λ (l : List ℕ). Spells d.event l) (sym same) reads.0.is.0.spells) pairs.0.is.0.spells in
      let split = one_split answer (text_of d.reply) (flat_map text_for a ++ ta) (report_of script_lines b ++ tb) pairs.0.is.1 (line d.reply reads.0.is.1)
      (sym (append_assoc (ended answer) (flat_map text_for a) ta) ∙ texts ∙ append_assoc (line_of d.reply) (report_of script_lines b) tb) in
      let w = tells in
      let alike : w.0.event ≡ d.event = w.1.event ∙ sym event in
      let text : text_of w.0.reply ≡ text_of d.reply = w.1.text ∙ split.0 in
      let ledgers = same_ledger one τ H left w.0 d w.1.may run.0.tells alike text in
      let lefts = same_left one τ H left w.0 d w.1.may run.0.tells alike text in
      let marks : print_of (plan τ todays_rules H w.0.event w.0.text).after ≡ print_of (plan τ todays_rules H d.event d.text).after =
      ap (λ (f : Event). print_of (plan τ todays_rules H f w.0.text).after) alike
      ∙ ap (λ (t : List ℕ). print_of (plan τ todays_rules H d.event t).after) (same_text one τ H left w.0 d w.1.may run.0.tells alike text) in
      let others = given_back (ledger_by τ H d) (drop (length d.text) left) a b (number + 1) ra rb ta tb are.1 pairs.1 reads.1 goes.1 (omega (arith, size)) (cc) split.1
      (subst (λ (K : Ledger). TellsSo τ P K (drop (length d.text) left) a) ledgers (subst (λ (l : List ℕ). TellsSo τ P (ledger_by τ H w.0) l a) lefts w.2)) run.1 are.4 in
      piece_back number w.0.reply d.reply (print_of (plan τ todays_rules H d.event d.text).after) given d.printed are.0 are.1 prints (imprints_from (number + 1) a)
      (one w.0.reply d.reply w.1.may.whole run.0.tells.whole text) (subst (λ (m : Option (List ℕ)). IsGiven w.0.reply m given) marks w.1.gives) run.0.prints are.3 are.2 others
