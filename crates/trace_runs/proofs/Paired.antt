-- Lines that are paired one after another, and where the verdict falls.
use Rattle.std.proofs.Common.{◌≡◌, inl, inr, ℕ, ◌+◌, ◌≤◌, List, [], ◌∷◌, ◌++◌, length, map, drop, flat_map, refl, sym, ◌∙◌, ap, subst, arith, append_assoc, append-nil}
use Rattle.std.proofs.lemmas.Grind.{flat_map-append}
use Rattle.std.proofs.lemmas.List.{length-append, map-append}
use Rattle.std.specs.List.{AllByRecursion}
use Rattle.bench_base.specs.declared.ledger.Entry.TheVariants.{Begin}
use Rattle.bench_base.specs.Ledger.{Ledger}
use Rattle.ledger_moves.specs.Tariffs.{Tariff}
use Rattle.ledger_moves.specs.Histories.{begins}
use Rattle.line_runs.specs.Ends.{lines_of}
use Rattle.script_replay.specs.Trace.{ledger_by}
use Rattle.trace_bench.specs.Seeing.{Audit, Sees}
use Rattle.trace_runs.specs.Verdicts.{Pair, Skipped, Answered, IsPair, line_in, text_for, EndsSo, TellsSo, MayEnd, IsSo, Says, Audited, imprints_from, last_given}
use Rattle.trace_runs.specs.Imprints.{imprint_at}
use Rattle.trace_runs.specs.Turns.{AtHistories, StandsAt, Turned, Fell, FellPut, Progress, IsOver}
use Rattle.trace_runs.specs.declared.{imprint.Imprint.Imprint, verdict.Ending.Ending, verdict.Verdict.Verdict, verdict.Verdict.TheVariants.Lawful}

each_more : (P : Pair → Type 0) (a : List Pair) (p : Pair) → AllByRecursion P a → P p → AllByRecursion P (a ++ p ∷ [])
each_more P [] p all is = (is, tt)
each_more P (x ∷ a) p all is = (all.0, each_more P a p all.1 is)

-- more pairs, at the ledger after some
tells_more : (τ : Tariff) (P Q : Ledger → List ℕ → Type 0) (b : List Pair) → ((K : Ledger) (l : List ℕ) → P K l → TellsSo τ Q K l b)
    → (H : Ledger) (left : List ℕ) (a : List Pair) → TellsSo τ P H left a → TellsSo τ Q H left (a ++ b)
tells_more τ P Q b then H left [] tells = then H left tells
tells_more τ P Q b then H left (Skipped line ∷ a) tells = tells_more τ P Q b then H left a tells
tells_more τ P Q b then H left (Answered line e answer given ∷ a) tells =
    let w = tells in
    (w.0, w.1, tells_more τ P Q b then (ledger_by τ H w.0) (drop (length w.0.text) left) a w.2)

-- the same pairs, and what follows from the ledger after them
tells_then : (τ : Tariff) (P Q : Ledger → List ℕ → Type 0) → ((K : Ledger) (l : List ℕ) → P K l → Q K l) → (H : Ledger) (left : List ℕ) (a : List Pair) → TellsSo τ P H left a → TellsSo τ Q H left a
tells_then τ P Q then H left a tells = subst (λ (b : List Pair). TellsSo τ Q H left b) (append-nil a) (tells_more τ P Q [] then H left a tells)

imprints_both : (number : ℕ) (a b : List Pair) → imprints_from number (a ++ b) ≡ imprints_from number a ++ imprints_from (number + length a) b
imprints_both number [] b = ap (λ (n : ℕ). imprints_from n b) (omega arith)
imprints_both number (Skipped line ∷ a) b = imprints_both (number + 1) a b ∙ ap (λ (n : ℕ). imprints_from (number + 1) a ++ imprints_from n b) (omega arith)
imprints_both number (Answered line e answer given ∷ a) b =
    ap (λ (l : List Imprint). imprint_at number given ++ l) (imprints_both (number + 1) a b ∙ ap (λ (n : ℕ). imprints_from (number + 1) a ++ imprints_from n b) (omega arith))
    ∙ sym (append_assoc (imprint_at number given) (imprints_from (number + 1) a) (imprints_from (number + length (Answered line e answer given ∷ a)) b))

pub begun : (script report rates : List ℕ) (old new : Audit) (before : List Imprint) → ((H : Ledger) → Sees old H → Sees new (Begin ∷ H)) → Progress 0 script report rates script report rates old new before before
begun script report rates old new before sees = record {
  pairs = [];
  number = refl;
  each = tt;
  script_is = refl;
  report_is = refl;
  so = λ τ H texts history seen. record { history = begins history; sees = seen.alike new (sees seen.ledger seen.sees); are = refl };
  prints = sym (append-nil before);
}

module _ (script0 report0 rates0 : List ℕ) (count : ℕ) (script report rates : List ℕ) (old mid new : Audit) (before half after : List Imprint) (p : Progress count script0 report0 rates0 script report rates old mid before half) where
  pub progress_more : (used : ℕ) (lines told left : List ℕ) → left ≡ drop used rates → Turned (count + 1) used script lines report told rates mid new half after
      → Progress (count + 1) script0 report0 rates0 lines told left old new before after
  progress_more used lines told left is t = subst (λ (l : List ℕ). Progress (count + 1) script0 report0 rates0 lines told l old new before after) (sym is) (record {
    pairs = p.pairs ++ t.pair ∷ [];
    number = length-append p.pairs (t.pair ∷ []) ∙ ap (λ (n : ℕ). n + 1) p.number;
    each = each_more IsPair p.pairs t.pair p.each t.is;
    script_is =
        p.script_is ∙ ap (λ (l : List (List ℕ)). map line_in p.pairs ++ l) t.script_is
        ∙ sym (append_assoc (map line_in p.pairs) (line_in t.pair ∷ []) (lines_of lines))
        ∙ ap (λ (l : List (List ℕ)). l ++ lines_of lines) (sym (map-append line_in p.pairs (t.pair ∷ [])));
    report_is =
        p.report_is ∙ ap (λ (l : List ℕ). flat_map text_for p.pairs ++ l) t.report_is
        ∙ sym (append_assoc (flat_map text_for p.pairs) (text_for t.pair) told)
        ∙ ap (λ (l : List ℕ). l ++ told) (ap (λ (l : List ℕ). flat_map text_for p.pairs ++ l) (sym (append-nil (text_for t.pair))) ∙ sym (flat_map-append text_for p.pairs (t.pair ∷ [])));
    so = λ τ H texts history seen.
        tells_more τ (StandsAt τ mid rates) (StandsAt τ new (drop used rates)) (t.pair ∷ [])
        (λ K l at. subst (λ (r : List ℕ). TellsSo τ (StandsAt τ new (drop used rates)) K r (t.pair ∷ [])) (sym at.are) (t.so τ K texts at.history at.sees))
        (Begin ∷ H) rates0 p.pairs (p.so τ H texts history seen);
    prints =
        t.prints ∙ ap (λ (l : List Imprint). l ++ imprints_from (count + 1) (t.pair ∷ [])) p.prints
        ∙ append_assoc before (imprints_from 1 p.pairs) (imprints_from (count + 1) (t.pair ∷ []))
        ∙ ap (λ (l : List Imprint). before ++ l) (ap (λ (n : ℕ). imprints_from 1 p.pairs ++ imprints_from n (t.pair ∷ [])) (omega (arith, p.number)) ∙ sym (imprints_both 1 p.pairs (t.pair ∷ [])));
  })

  said : (v : Verdict) → count ≤ 1000000 → Fell (length p.pairs + 1) script report rates mid new v → Says v script0 report0 rates0 old new
  said v few f = record {
    pairs = p.pairs;
    rest = lines_of script;
    told = report;
    prefix = record { each = p.each; few = omega (arith, few, p.number); script_is = p.script_is; report_is = p.report_is };
    falls = f.falls;
    so = λ τ H texts history seen.
        tells_then τ (StandsAt τ mid rates) (λ K left. IsSo τ K left new (length p.pairs + 1) (lines_of script) report v f.falls)
        (λ K l at. subst (λ (r : List ℕ). IsSo τ K r new (length p.pairs + 1) (lines_of script) report v f.falls) (sym at.are) (f.so τ K texts at.history at.sees))
        (Begin ∷ H) rates0 p.pairs (p.so τ H texts history seen);
  }

  pub fallen : (v : Verdict) → count ≤ 1000000 → FellPut (count + 1) script report rates mid new half after v → Audited v script0 report0 rates0 old new before after
  unfolding said
  fallen v few fell =
      let f : FellPut (length p.pairs + 1) script report rates mid new half after v = subst (λ (n : ℕ). FellPut (n + 1) script report rates mid new half after v) (sym p.number) fell in
      let last = imprint_at (length p.pairs + 1) (last_given (length p.pairs + 1) (lines_of script) report v f.0.falls) in
      record { says = said v few f.0; prints = f.1 ∙ ap (λ (l : List Imprint). l ++ last) p.prints ∙ append_assoc before (imprints_from 1 p.pairs) last }

-- the script ends at the line of this number
module _ (number : ℕ) (script report rates : List ℕ) (old new : Audit) (end : Ending) where
  abbrev pub EndsWith : List ℕ → Type 0
  EndsWith behind = (e : EndsSo number (lines_of script) report end behind) × AtHistories old (λ τ H. MayEnd τ H rates new end report behind e.report)

  lawful : EndsWith [] → Fell number script report rates old new (Lawful end)
  lawful w = record { falls = w.0; so = w.1 }

  pub over_falls : (behind : List ℕ) (v : Verdict) (before : List Imprint) → EndsWith behind → IsOver end number behind v → FellPut number script report rates old new before before v
  over_falls behind v before w over = elim over [
    | inl o ↦ subst (λ (x : Verdict). FellPut number script report rates old new before before x) (sym o.1) (lawful (subst (λ (b : List ℕ). EndsWith b) o.0 w), sym (append-nil before))
    | inr (inl o) ↦ subst (λ (x : Verdict). FellPut number script report rates old new before before x) (sym o.1) (record { falls = (refl, behind, w.0, o.0); so = w.1 }, sym (append-nil before))
    | inr (inr o) ↦ subst (λ (x : Verdict). FellPut number script report rates old new before before x) (sym o) (record { falls = refl; so = λ τ H texts history seen. tt }, sym (append-nil before))
  ]
