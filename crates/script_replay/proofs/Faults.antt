-- What one event takes of the rates and prints, and how often the faults of both streams are reported.
use Rattle.std.proofs.Common.{◌≡◌, ◌⊎◌, inl, inr, ℕ, ℤ, ◌+◌, ◌≤◌, List, [], take, Option, Some, None, Result, Ok, Err, true, refl, sym, ◌∙◌, ap, subst, arith}
use Rattle.std.specs.Prelude.{slice_get, ◌↔◌}
use Rattle.std.specs.Io.KnownBytes.{Consumes, Appends}
use Rattle.std.proofs.KnownBytes.{Consumes-nil, Appends-nil}
use Rattle.bench_base.specs.Causes.{Rose}
use Rattle.bench_base.specs.declared.{events.Event.Event, events.Reply.Reply}
use Rattle.bench_base.specs.declared.events.Event.TheVariants as ev
use Rattle.bench_base.specs.declared.events.Reply.TheVariants as r
use Rattle.bench_base.specs.Events.{needs_day}
use Rattle.bench_base.specs.Replies.{MayGet, tells_printer, tells_rates}
use Rattle.host_rates.specs.declared.reading.RatesFail.{RatesFail}
use Rattle.host_rates.specs.declared.reading.RatesFail.TheVariants as fail
use Rattle.host_rates.specs.Tables.{RateTable}
use Rattle.host_rates.specs.Answers.{answer}
use Rattle.text_streams.specs.Texts.{print_line}
use Rattle.node_turns.specs.declared.turn.Turn.{Turn}
use Rattle.node_turns.specs.Printing.{Printer, PrinterDid}
use Rattle.bench_abstraction.specs.Routing.{as_given, as_given_by, as_scanned_by}
use Rattle.bench.specs.Costs.{one_if}
use Rattle.bench.specs.Outside.{Feed, rates_turn, ReadsText, ReadsNothing, ReadsRates}
use Rattle.script_replay.specs.Counts.{FaultsTold}
use Rattle.script_replay.specs.Marks.{IsPrinted}
use Rattle.line_extensions.proofs.Texts.{cut_off}

-- == to deliver a message is to give its bytes, and to scan one is to scan its bytes; any other event is given as it is ==

pub given_as : (pool : List (List ℕ)) (e : Event) → ((k : ℕ) × (e ≡ ev.Deliver k)) ⊎ (((scan k : ℕ) × (e ≡ ev.ScanMsg scan k)) ⊎ (((k : ℕ) → e ≡ ev.Deliver k → ⊥) × (as_given pool e ≡ e)))
given_as pool (ev.Deliver k) = inl (k, refl)
given_as pool (ev.ScanMsg scan k) = inr (inl (scan, k, refl))
given_as pool _ = inr (inr (λ k is. cc, refl))

given_rates : (k : ℕ) (o : Option (List ℕ)) → as_given_by k o ≡ ev.Rates → ⊥
given_rates k None is = cc
given_rates k (Some bytes) is = cc

scanned_rates : (scan k : ℕ) (o : Option (List ℕ)) → as_scanned_by scan k o ≡ ev.Rates → ⊥
scanned_rates scan k None is = cc
scanned_rates scan k (Some bytes) is = cc

pub only_rates : (pool : List (List ℕ)) (e : Event) → as_given pool e ≡ ev.Rates → e ≡ ev.Rates
only_rates pool e is = elim (given_as pool e) [
  | inl w ↦ absurd (given_rates w.0 (slice_get pool w.0) (ap (as_given pool) (sym w.1) ∙ is))
  | inr more ↦ elim more [
    | inl w ↦ absurd (scanned_rates w.0 w.1 (slice_get pool w.1) (ap (as_given pool) (sym w.2) ∙ is))
    | inr same ↦ sym same.1 ∙ is
  ]
]

-- == what is taken of the rates ==

nothing_taken : (text : List ℕ) (kept kept' : Option RateTable) (before now : Feed) → ReadsNothing text kept kept' before now → Consumes before.left now.left text
nothing_taken text kept kept' before now nothing =
    subst (Consumes before.left now.left) (sym nothing.nothing) (subst (λ (f : Feed). Consumes before.left f.left []) (sym nothing.rests) (Consumes-nil before.left))

text_taken : (text : List ℕ) (turn : Turn) (kept kept' : Option RateTable) (before now : Feed) → ReadsText text turn kept kept' before now → Consumes before.left now.left text
text_taken text turn kept kept' before now (ReadsText.failed told keeps taken short rose) = taken
text_taken text turn kept kept' before now (ReadsText.read taken told keeps) = taken.taken

pub taken_by : (e : Event) (text : List ℕ) (turn : Turn) (today : Option ℤ) (kept kept' : Option RateTable) (before now : Feed) → ReadsRates e text turn today kept kept' before now
    → Consumes before.left now.left text
taken_by ev.Rates text turn None kept kept' before now reads = nothing_taken text kept kept' before now (reads.no_day refl)
taken_by ev.Rates text turn (Some t) kept kept' before now reads = text_taken text turn kept kept' before now (reads.reads refl refl)
taken_by _ text turn today kept kept' before now reads = nothing_taken text kept kept' before now (reads.others (λ is. cc))

not_fault : (text : List ℕ) (x : Result RateTable RatesFail) → (rates_turn text x).reply ≡ r.RatesFault → ⊥
not_fault text (Ok x) is = cc
not_fault text (Err (fail.Length n)) is = cc
not_fault text (Err fail.Toml) is = cc
not_fault text (Err fail.Form) is = cc
not_fault text (Err (fail.Memory x)) is = cc

fault_rose : (text : List ℕ) (turn : Turn) (kept kept' : Option RateTable) (before now : Feed) → ReadsText text turn kept kept' before now → turn.reply ≡ r.RatesFault → Rose before.faults now.faults
fault_rose text turn kept kept' before now (ReadsText.failed told keeps taken short rose) is = rose
fault_rose text turn kept kept' before now (ReadsText.read taken told keeps) is = absurd (not_fault text (answer text) (sym (ap (λ (t : Turn). t.reply) told) ∙ is))

rates_rose : (e : Event) (text : List ℕ) (turn : Turn) (today : Option ℤ) (kept kept' : Option RateTable) (before now : Feed) → ReadsRates e text turn today kept kept' before now
    → (needs_day e ≡ true → (turn.reply ≡ r.NoDay) ↔ (today ≡ None)) → e ≡ ev.Rates → turn.reply ≡ r.RatesFault → Rose before.faults now.faults
rates_rose e text turn None kept kept' before now reads day is told = let other = sym told ∙ (day (ap needs_day is)).1 refl in absurd (cc)
rates_rose e text turn (Some t) kept kept' before now reads day is told = fault_rose text turn kept kept' before now (reads.reads is refl) told

pub rates_told : (pool : List (List ℕ)) (e : Event) (reply : Reply) (text : List ℕ) (turn : Turn) (today : Option ℤ) (kept kept' : Option RateTable) (before now : Feed) → reply ≡ turn.reply
    → ReadsRates e text turn today kept kept' before now → (needs_day e ≡ true → (turn.reply ≡ r.NoDay) ↔ (today ≡ None)) → MayGet (as_given pool e) reply
    → FaultsTold (one_if (tells_rates reply)) before.faults now.faults
rates_told pool e r.RatesFault text turn today kept kept' before now told reads day gets =
    let rose = rates_rose e text turn today kept kept' before now reads day (only_rates pool e gets) (sym told) in
    record { later = reads.later; faults = λ few. omega (arith, rose, few) }
rates_told pool e _ text turn today kept kept' before now told reads day gets = let later = reads.later in record { later = later; faults = λ few. omega (arith, later) }

-- == what is printed ==

-- what the printer took
pub record WasPrinted (reply : Reply) (mark : Option (List ℕ)) (before now : Printer) : Type 0 where
  pub printed : List ℕ
  pub is : IsPrinted reply mark printed
  pub appended : Appends before.taken now.taken printed

pub printed_by : (reply : Reply) (mark : Option (List ℕ)) (before now : Printer) → PrinterDid reply mark before now → WasPrinted reply mark before now
printed_by (r.Printed job) mark before now did =
    let w = did.whole job refl in
    record {
      printed = print_line w.0;
      is = record { whole = λ j is. (w.0, w.1, refl); cut = λ j is. absurd (cc); none = λ not_printed other. absurd (not_printed job refl) };
      appended = w.2;
    }
printed_by (r.PrinterFault job) mark before now did =
    let w = did.cut job refl in
    record {
      printed = take w.1 (print_line w.0);
      is = record { whole = λ j is. absurd (cc); cut = λ j is. (w.0, w.2, cut_off (print_line w.0) (print_line w.0) w.1 w.3 refl); none = λ not_printed other. absurd (other job refl) };
      appended = w.4;
    }
printed_by _ mark before now did = record {
  printed = [];
  is = record { whole = λ j is. absurd (cc); cut = λ j is. absurd (cc); none = λ not_printed other. refl };
  appended = subst (λ (p : Printer). Appends before.taken p.taken []) (sym (did.rests (λ j is. cc) (λ j is. cc))) (Appends-nil before.taken);
}

pub printer_told : (reply : Reply) (mark : Option (List ℕ)) (before now : Printer) → PrinterDid reply mark before now → FaultsTold (one_if (tells_printer reply)) before.faults now.faults
printer_told (r.PrinterFault job) mark before now did = let w = did.cut job refl in let rose = w.5 in record { later = did.later; faults = λ few. omega (arith, rose, few) }
printer_told _ mark before now did = let later = did.later in record { later = later; faults = λ few. omega (arith, later) }

-- == several ==

pub none_told : (count : ℕ) → FaultsTold 0 count count
none_told count = record { later = omega arith; faults = λ few. omega arith }

pub more_told : (a b was mid is : ℕ) → FaultsTold a was mid → FaultsTold b mid is → FaultsTold (a + b) was is
more_told a b was mid is first second =
    let later = first.later in
    let more = second.later in
    record {
      later = omega (arith, later, more);
      faults = λ few. let y = second.faults few in let x = first.faults (omega (arith, few, more)) in omega (arith, x, y);
    }

pub told_still : (a was mid is : ℕ) → FaultsTold a was mid → mid ≤ is → FaultsTold a was is
told_still a was mid is first more =
    let later = first.later in
    record { later = omega (arith, later, more); faults = λ few. let x = first.faults (omega (arith, few, more)) in omega (arith, x, more) }
