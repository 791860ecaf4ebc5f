-- No line of a script of events is two things.
use Rattle.std.proofs.Common.{◌≡◌, ◌≢◌, ◌⊎◌, inl, inr, ℕ, ◌≤◌, List, [], ◌∷◌, ◌++◌, length, refl, ap, ◌∙◌, subst, arith}
use Rattle.bench_base.specs.declared.events.Event.{Event}
use Rattle.bench_base.specs.declared.events.Event.TheVariants as event
use Rattle.script_words.specs.Words.{joined}
use Rattle.script_text.specs.Grammar.{Spells, IsSkipped}
use Rattle.script_text.proofs.EachEvent.{one_event_of, no_event_skipped}
use Rattle.line_runs.specs.Trace.{IsGrammar, FitsGrammar}
use Rattle.line_extensions.specs.Trace.{StepRecord, TraceStep, Skipped, Did, done_in, IsOf, IsEnd, GoesOn, line_in}
use Rattle.line_extensions.specs.Events.{IsLineOf, IsBad}
use Rattle.line_extensions.specs.Scripts.{script_grammar, script_lines}

abbrev IsEndLine : List ℕ → Type 0
IsEndLine line = Spells event.End line

abbrev IsPassing : List ℕ → Type 0
IsPassing line = IsSkipped line ⊎ ((e : Event) × IsLineOf e line × (e ≢ event.End))

end_short : (line : List ℕ) → IsEndLine line → length line ≤ 600
end_short line l = let three : length line ≡ 3 = ap length l.2 ∙ ap (λ (ws : List (List ℕ)). length (joined ws)) l.1 in omega (arith, three)

end_not_passing : (line : List ℕ) → IsEndLine line → IsPassing line → ⊥
end_not_passing line l p = elim p [
  | inl skipped ↦ no_event_skipped event.End line l skipped
  | inr w ↦ w.2 (one_event_of w.0 event.End line w.1.whole tt w.1.spells l)
]

end_not_bad : (line : List ℕ) → IsEndLine line → IsBad line → ⊥
end_not_bad line l bad = bad.no_event event.End (record { whole = tt; spells = l })

passing_not_bad : (line : List ℕ) → IsPassing line → IsBad line → ⊥
passing_not_bad line p bad = elim p [ inl skipped ↦ bad.not_skipped skipped | inr w ↦ bad.no_event w.0 w.1 ]

end_wants_none : (line : List ℕ) → IsEndLine line → IsLineOf event.Rates line → ⊥
end_wants_none line l rates = let same : event.Rates ≡ event.End = one_event_of event.Rates event.End line rates.whole tt rates.spells l in cc

pub is_grammar : IsGrammar script_grammar
is_grammar = record {
  end_short = end_short;
  end_not_passing = end_not_passing;
  end_not_bad = end_not_bad;
  passing_not_bad = passing_not_bad;
  end_wants_none = end_wants_none;
}

passing : (d : TraceStep) → IsOf d → GoesOn d → IsPassing (line_in d)
passing (Skipped line) is goes = inl is
passing (Did line d) is goes = inr (d.event, is.0, goes)

ending : (d : TraceStep) → IsOf d → IsEnd d → IsEndLine (line_in d)
ending (Skipped line) is end = absurd end
ending (Did line d) is end = subst (λ (y : Event). Spells y line) end is.0.spells

pub script_fits : FitsGrammar script_lines
script_fits = record { grammar = is_grammar; goes_on = passing; ends = ending }

-- what was done for some lines and more
pub done_both : (a b : List TraceStep) → done_in (a ++ b) ≡ done_in a ++ done_in b
done_both [] b = refl
done_both (Skipped line ∷ a) b = done_both a b
done_both (Did line d ∷ a) b = ap (λ (l : List StepRecord). d ∷ l) (done_both a b)
