-- Steps of pairs that print what the prints have.
use Rattle.std.proofs.Common.{◌≡◌, ◌≢◌, ◌⊎◌, inl, inr, ℕ, ◌+◌, List, [], ◌∷◌, ◌++◌, length, drop, Option, Some, None, refl, sym, ◌∙◌, ap, subst, arith, append_assoc, append-nil}
use Rattle.std.proofs.lemmas.List.{length-append}
use Rattle.std.specs.List.{AllByRecursion}
use Rattle.bench_base.specs.declared.{events.Event.Event, events.Reply.Reply}
use Rattle.bench_base.specs.declared.events.Reply.TheVariants as r
use Rattle.bench_base.specs.Ledger.{Ledger}
use Rattle.bench_base.specs.Rules.{todays_rules}
use Rattle.ledger_moves.specs.Tariffs.{Tariff}
use Rattle.ledger_moves.specs.Moves.{plan}
use Rattle.node_turns.specs.Printing.{print_of}
use Rattle.line_runs.specs.Trace.{report_of}
use Rattle.hex.specs.Hex.{encode_lower}
use Rattle.text_streams.specs.Texts.{print_line}
use Rattle.line_runs.specs.Lines.{IsCutOff, ended}
use Rattle.line_extensions.specs.Trace as traces
use Rattle.line_extensions.specs.Trace.{StepRecord, Did, done_in}
use Rattle.line_extensions.specs.Events.{IsLineOf}
use Rattle.line_extensions.specs.Scripts.{script_lines}
use Rattle.script_replay.specs.Trace.{ledger_by}
use Rattle.script_replay.specs.Marks.{IsPrinted}
use Rattle.trace_runs.specs.declared.imprint.Given.{Given}
use Rattle.trace_runs.specs.Audits.{IsRun, MayTell}
use Rattle.trace_bench.specs.Stopping.{IsPrefixOf}
use Rattle.trace_runs.specs.Fitting.{IsByHand, HavePrints}
use Rattle.trace_runs.specs.Imprints.{IsGiven, taken_whole, taken_in_part}
use Rattle.trace_runs.specs.Prints.{IsPart, Took, ArePrinted}
use Rattle.trace_runs.specs.Verdicts.{Pair, Skipped, Answered, IsPair, IsAnswered, TellsSo, imprints_from}
use Rattle.trace_runs.proofs.Fitted.{Made}

gave_nothing : (reply : Reply) (mark : Option (List ℕ)) → IsGiven reply mark None → IsPrinted reply mark []
gave_nothing reply mark g = record {
  whole = λ j is. let w = g.whole j is in let wrong : None ≡ Some (taken_whole w.0) = w.2 in cc;
  cut = λ j is. let w = g.cut j is in let wrong : None ≡ Some (taken_in_part w.0) = w.2 in cc;
  none = λ a b. refl;
}

-- a reply to a print is one of two, and any other is neither
pub kind : (x : Reply) → ((j : ℕ) × (x ≡ r.Printed j)) ⊎ (((j : ℕ) × (x ≡ r.PrinterFault j)) ⊎ (((j : ℕ) → x ≢ r.Printed j) × ((j : ℕ) → x ≢ r.PrinterFault j)))
kind (r.Printed j) = inl (j, refl)
kind (r.PrinterFault j) = inr (inl (j, refl))
kind _ = inr (inr (λ j is. cc is, λ j is. cc is))

-- what the printer took, and what was put there by hand
record IsPiece (reply : Reply) (mark : Option (List ℕ)) (piece : List ℕ) : Type 0 where
  pub printed : List ℕ
  pub hand : List ℕ
  pub is : piece ≡ printed ++ hand
  pub took : IsPrinted reply mark printed
  pub by_hand : IsByHand reply hand

took_given : (g f : Given) (piece : List ℕ) → Some g ≡ Some f → Took g.taken g.mark piece → Took f.taken f.mark piece
took_given g f piece is took = let same : g ≡ f = cc in subst (λ (x : Given). Took x.taken x.mark piece) same took

-- some of the digits are not the whole line
cut_off : (x part : List ℕ) → IsPrefixOf part (encode_lower x) → IsCutOff part (print_line x)
cut_off x part (more, is) = (
  more ++ 10 ∷ [],
  ap (λ (l : List ℕ). l ++ 10 ∷ []) is ∙ append_assoc part more (10 ∷ []),
  let long : length (more ++ 10 ∷ []) ≡ length more + 1 = length-append more (10 ∷ []) in omega (arith, long),
)

gave : (reply : Reply) (mark : Option (List ℕ)) (g : Given) (piece : List ℕ) → IsGiven reply mark (Some g) → Took g.taken g.mark piece → IsPiece reply mark piece
gave reply mark g piece given took = elim (kind reply) [
  | inl (job, is) ↦
      let w = given.whole job is in
      record {
        printed = piece;
        hand = [];
        is = sym (append-nil piece);
        took = record {
          whole = λ j same. (w.0, w.1, took_given g (taken_whole w.0) piece w.2 took);
          cut = λ j same. let wrong : r.Printed job ≡ r.PrinterFault j = sym is ∙ same in absurd (cc wrong);
          none = λ a b. absurd (a job is);
        };
        by_hand = inl refl;
      }
  | inr (inl (job, is)) ↦ let w = given.cut job is in in_part job is w.0 w.1 (took_given g (taken_in_part w.0) piece w.2 took)
  | inr (inr (a, b)) ↦ let wrong : Some g ≡ None = given.none a b in absurd (cc wrong)
]
  where
    of_part : (job : ℕ) → reply ≡ r.PrinterFault job → (x part : List ℕ) → mark ≡ Some x → IsPrefixOf part (encode_lower x) → IsPrinted reply mark part
    of_part job is x part same prefix = record {
      whole = λ j other. let wrong : r.PrinterFault job ≡ r.Printed j = sym is ∙ other in absurd (cc wrong);
      cut = λ j other. (x, same, cut_off x part prefix);
      none = λ a b. absurd (b job is);
    }

    in_part : (job : ℕ) → reply ≡ r.PrinterFault job → (x : List ℕ) → mark ≡ Some x → IsPart (encode_lower x) piece → IsPiece reply mark piece
    in_part job is x same (part, prefix, inl end) = record { printed = part; hand = []; is = end ∙ sym (append-nil part); took = of_part job is x part same prefix; by_hand = inl refl }
    in_part job is x same (part, prefix, inr end) = record { printed = part; hand = 10 ∷ []; is = end; took = of_part job is x part same prefix; by_hand = inr (job, is, refl) }

-- steps of these pairs, with P after them, that print these bytes
pub record MadePrinted (τ : Tariff) (P : Ledger → List ℕ → Type 0) (H : Ledger) (left : List ℕ) (a : List Pair) (bytes : List ℕ) : Type 0 where
  pub made : Made τ P H left a
  pub run : IsRun τ H left (done_in made.trace)
  pub prints : HavePrints (done_in made.trace) bytes

-- one more step before them, which prints this
before : (τ : Tariff) (P : Ledger → List ℕ → Type 0) (H : Ledger) (left x : List ℕ) (e : Event) (answer : List ℕ) (given : Option Given) (a : List Pair) (piece hand rest : List ℕ) (d : StepRecord)
    → IsPair (Answered x e answer given) → IsAnswered τ H left e answer given d → IsPrinted d.reply (print_of (plan τ todays_rules H d.event d.text).after) piece → IsByHand d.reply hand
    → MadePrinted τ P (ledger_by τ H d) (drop (length d.text) left) a rest → MadePrinted τ P H left (Answered x e answer given ∷ a) (piece ++ (hand ++ rest))
before τ P H left x e answer given a piece hand rest d is w printed by_hand m = record {
  made = record {
    trace = Did x (record d { printed = piece }) ∷ m.made.trace;
    each = (record { one = is.one; short = is.short; is = (subst (λ (f : Event). IsLineOf f x) (sym w.event) is.is.0, w.may.whole) }, m.made.each);
    go_on = (λ same. is.is.2 (sym w.event ∙ same), m.made.go_on);
    size = omega (arith, m.made.size);
    lines = ap (λ (l : List (List ℕ)). x ∷ l) m.made.lines;
    texts = ap (λ (t : List ℕ). ended t ++ report_of script_lines m.made.trace) w.text ∙ ap (λ (l : List ℕ). ended answer ++ l) m.made.texts;
    are = (told, m.made.are);
    holds = m.made.holds;
  };
  run = (record { tells = told; prints = printed }, m.run);
  prints = (hand, rest, refl, by_hand, m.prints);
}
  where
    told : MayTell τ H left (record d { printed = piece })
    told = record { unforged = w.may.unforged; moves = w.may.moves; whole = w.may.whole; takes = w.may.takes }

pub made_printed : (τ : Tariff) (P : Ledger → List ℕ → Type 0) (H : Ledger) (left : List ℕ) (a : List Pair) (number : ℕ) (bytes : List ℕ) → AllByRecursion IsPair a → TellsSo τ P H left a
    → ArePrinted (imprints_from number a) bytes → MadePrinted τ P H left a bytes
made_printed τ P H left [] number bytes each tells printed = record {
  made = record { trace = []; each = tt; go_on = tt; size = refl; lines = refl; texts = refl; are = tt; holds = tells };
  run = tt;
  prints = printed;
}
made_printed τ P H left (Skipped x ∷ a) number bytes each tells printed =
    let m = made_printed τ P H left a (number + 1) bytes each.1 tells printed in
    record {
      made = record {
        trace = traces.Skipped x ∷ m.made.trace;
        each = (record { one = each.0.one; short = each.0.short; is = each.0.is }, m.made.each);
        go_on = (tt, m.made.go_on);
        size = omega (arith, m.made.size);
        lines = ap (λ (l : List (List ℕ)). x ∷ l) m.made.lines;
        texts = m.made.texts;
        are = m.made.are;
        holds = m.made.holds;
      };
      run = m.run;
      prints = m.prints;
    }
made_printed τ P H left (Answered x e answer None ∷ a) number bytes each tells printed =
    let w = tells in
    before τ P H left x e answer None a [] [] bytes w.0 each.0 w.1 (gave_nothing w.0.reply (print_of (plan τ todays_rules H w.0.event w.0.text).after) w.1.gives) (inl refl)
    (made_printed τ P (ledger_by τ H w.0) (drop (length w.0.text) left) a (number + 1) bytes each.1 w.2 printed)
made_printed τ P H left (Answered x e answer (Some g) ∷ a) number bytes each tells printed =
    let w = tells in
    let p = gave w.0.reply (print_of (plan τ todays_rules H w.0.event w.0.text).after) g printed.0 w.1.gives printed.3 in
    subst (λ (l : List ℕ). MadePrinted τ P H left (Answered x e answer (Some g) ∷ a) l)
    (sym (printed.2 ∙ ap (λ (l : List ℕ). l ++ printed.1) p.is ∙ append_assoc p.printed p.hand printed.1)) (
    before τ P H left x e answer (Some g) a p.printed p.hand printed.1 w.0 each.0 w.1 p.took p.by_hand
    (made_printed τ P (ledger_by τ H w.0) (drop (length w.0.text) left) a (number + 1) printed.1 each.1 w.2 printed.4))
