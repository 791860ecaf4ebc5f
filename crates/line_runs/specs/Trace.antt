-- Steps: what was done for a script, one step a line. What a line may be, what a step is and what it writes is the line handler's own.
use Rattle.std.specs.Prelude.{ℕ, ◌≤◌, List, length, flat_map}
use Rattle.line_runs.specs.Lines.{IsOneLine, ended}

-- what a line of a script may be
pub record Grammar : Type 1 where
  -- the line of `end`
  pub IsEndLine : List ℕ → Type 0
  -- a line after which a run goes on
  pub IsPassing : List ℕ → Type 0
  pub IsBad : List ℕ → Type 0
  -- memory may run out at the line
  pub MayWant : List ℕ → Type 0

-- no line is two of them, except that memory may run out at a line after which a run goes on
pub record IsGrammar (g : Grammar) : Type 0 where
  pub end_short : (line : List ℕ) → g.IsEndLine line → length line ≤ 600
  pub end_not_passing : (line : List ℕ) → g.IsEndLine line → g.IsPassing line → ⊥
  pub end_not_bad : (line : List ℕ) → g.IsEndLine line → g.IsBad line → ⊥
  pub passing_not_bad : (line : List ℕ) → g.IsPassing line → g.IsBad line → ⊥
  pub end_wants_none : (line : List ℕ) → g.IsEndLine line → g.MayWant line → ⊥

-- how the steps of a line handler are read and written
pub record Lines (D : Type 0) : Type 1 where
  pub grammar : Grammar
  pub line_in : D → List ℕ
  -- what the report has for it: its answers, each with its line end
  pub text_for : D → List ℕ
  -- the line is what the step says it is
  pub IsOf : D → Type 0
  -- it is the step of `end`; the run goes on after it; it was broken off, since a commit of a storage of the line handler's failed
  pub IsEnd : D → Type 0
  pub GoesOn : D → Type 0
  pub IsBroken : D → Type 0

module _ {D : Type 0} (l : Lines D) where
  -- the step's line is one line of at most 600 bytes, and says what the step did
  pub record Reads (d : D) : Type 0 where
    pub one : IsOneLine (l.line_in d)
    pub short : length (l.line_in d) ≤ 600
    pub is : l.IsOf d

  -- the steps' lines, each with its line end
  abbrev pub script_of : List D → List ℕ
  script_of trace = flat_map (λ d. ended (l.line_in d)) trace

  -- the steps' lines of the report
  abbrev pub report_of : List D → List ℕ
  report_of trace = flat_map l.text_for trace

  -- the steps fit the grammar
  pub record FitsGrammar : Type 0 where
    pub grammar : IsGrammar l.grammar
    pub goes_on : (d : D) → l.IsOf d → l.GoesOn d → l.grammar.IsPassing (l.line_in d)
    pub ends : (d : D) → l.IsOf d → l.IsEnd d → l.grammar.IsEndLine (l.line_in d)
