-- What a line about departments is answered, by the quotas and jobs that are kept and by what was heard of its message; and those that are kept then.
use Rattle.std.specs.Prelude.{◌≡◌, ◌<◌, ◌⊎◌, ℕ, ◌+◌, ◌-◌, List, [], ◌∷◌, true, false, Option, Some, None, codes, nat_lt}
use Rattle.bench_base.specs.declared.events.Event.{Event}
use Rattle.bench_base.specs.declared.events.Event.TheVariants as ev
use Rattle.node_acts.specs.RowList.{is_worn, put}
use Rattle.node_turns.specs.Turns.{sent_in}
use Rattle.node_turns.specs.declared.turn.Turn.{Turn}
use Rattle.script_text.specs.Texts.{text_of}
use Rattle.line_extensions.specs.Trace.{StepRecord, Skipped, Did}
use Rattle.line_extensions.specs.SideTrace.{SideStep, Plain, Own, Broken}
use Rattle.line_extensions.specs.Stops.{RowCommit}
use Rattle.host_departments.specs.Moves.{Either}
use Rattle.host_departments.specs.DepartmentLines.{IsLine}
use Rattle.host_departments.specs.Heard.{IsTaken}
use Rattle.host_departments.specs.Passes.{Passes}
use Rattle.host_departments.specs.Rows.{Rows, quota, spent, first_cell, Has, AnotherHas, IsAssigned, HasJobs}
use Rattle.host_departments.specs.Texts.{numbered, quota_text, assigned_text, again_text, spent_text}
use Rattle.host_departments.specs.declared.{row.DepartmentLine.DepartmentLine, row.DepartmentLine.TheVariants.Quota, row.DepartmentLine.TheVariants.Assign, row.DepartmentLine.TheVariants.Spent, row.DepartmentLine.TheVariants.Print, row.DepartmentRow.DepartmentRow}
use Rattle.host_departments.specs.declared.row.DepartmentRow.TheVariants as row

-- an event that was asked for, and what it came to
pub record Asked : Type 0 where
  pub event : Event
  pub turn : Turn

-- what an answer is of: the steps that were asked for, the texts, and what is kept then
pub record Answered : Type 0 where
  pub asked : List Asked
  pub texts : List (List ℕ)
  pub after : Rows

-- it was answered so, and nothing was done
pub record IsTold (text : List ℕ) (rows : Rows) (x : Answered) : Type 0 where
  pub none : x.asked ≡ []
  pub texts : x.texts ≡ text ∷ []
  pub rests : x.after ≡ rows

-- the row is committed to its cell and this is answered, unless that is worn
abbrev pub IsCommitted : ℕ → DepartmentRow → List ℕ → Rows → Answered → Type 0
IsCommitted k x text rows a =
    ((is_worn rows k ≡ true) × (a.texts ≡ codes "worn desk" ∷ []) × (a.after ≡ rows))
    ⊎ ((is_worn rows k ≡ false) × (a.texts ≡ text ∷ []) × (a.after ≡ put rows k x))

-- == a quota ==

abbrev pub IsQuotaTold : ℕ → ℕ → Rows → Answered → Type 0
IsQuotaTold d q rows a =
    Either (nat_lt q (spent rows d)) (IsTold (numbered (codes "refused dept below spent") (spent rows d)) rows a)
    ((a.asked ≡ []) × IsCommitted (d - 1) (row.Quota q) (quota_text d q) rows a)

-- == a job ==

-- the job lies after those that the department has
pub record IsTakenIn (d j p left : ℕ) (rows : Rows) (a : Answered) : Type 0 where
  pub place : ℕ
  pub jobs : HasJobs rows d place
  pub room : place < 64
  pub is : IsCommitted (first_cell d + place) (row.Job j p) (assigned_text j d (left - p)) rows a

-- by what is left of the quota: its postage is above it, or the job is taken
abbrev pub IsLimited : ℕ → ℕ → ℕ → ℕ → Rows → Answered → Type 0
IsLimited d j p left rows a =
    Either (nat_lt left p) ((a.texts ≡ numbered (codes "refused dept quota") left ∷ []) × (a.after ≡ rows)) (IsTakenIn d j p left rows a)

-- the message of the job was asked for; each reply but that it was sent is the answer
pub record IsSent (d j q : ℕ) (rows : Rows) (a : Answered) : Type 0 where
  pub turn : Turn
  pub only : a.asked ≡ record { event = ev.Send j; turn = turn } ∷ []
  pub did : ((p : ℕ) × IsTaken j turn.reply (sent_in turn.entries) p × IsLimited d j p (q - spent rows d) rows a)
      ⊎ (((p : ℕ) → IsTaken j turn.reply (sent_in turn.entries) p → ⊥) × (a.texts ≡ text_of turn.reply ∷ []) × (a.after ≡ rows))

-- no department has the job, and this one has room for it
abbrev pub IsFree : Rows → ℕ → ℕ → Type 0
IsFree rows d j = (Has rows d j → ⊥) × (AnotherHas rows d j → ⊥) × (HasJobs rows d 64 → ⊥)

-- if the department has a quota: it has the job; another has the job; it has 64 jobs; or the message is asked for
abbrev pub IsAssignTold : ℕ → ℕ → ℕ → Rows → Answered → Type 0
IsAssignTold d j q rows a =
    (Has rows d j × IsTold (again_text j d) rows a)
    ⊎ ((Has rows d j → ⊥) × ((AnotherHas rows d j × IsTold (numbered (codes "refused dept assigned") j) rows a)
    ⊎ ((AnotherHas rows d j → ⊥) × ((HasJobs rows d 64 × IsTold (codes "refused dept full") rows a)
    ⊎ ((HasJobs rows d 64 → ⊥) × IsSent d j q rows a)))))

-- by the quota, without which the department is unknown
abbrev pub ByQuota : Option ℕ → ℕ → Rows → (ℕ → Answered → Type 0) → Answered → Type 0
ByQuota None d rows known a = IsTold (numbered (codes "refused dept unknown") d) rows a
ByQuota (Some q) d rows known a = known q a

-- THE ANSWER OF AN OWN LINE
abbrev pub IsAnswered : DepartmentLine → Rows → Answered → Type 0
IsAnswered (Quota d q) rows a = IsQuotaTold d q rows a
IsAnswered (Assign d j) rows a = ByQuota (quota rows d) d rows (λ q x. IsAssignTold d j q rows x) a
IsAnswered (Spent d) rows a = ByQuota (quota rows d) d rows (λ q x. IsTold (spent_text d (spent rows d) q) rows x) a
IsAnswered (Print j) rows a = (IsAssigned rows j → ⊥) × IsTold (numbered (codes "refused dept unassigned") j) rows a

-- == a line where a commit failed ==

-- a commit of a quota or a job to a cell
abbrev pub CellCommit : Type 0
CellCommit = RowCommit DepartmentRow

-- the commit of job j after those that department d has; the message of job j was sent
pub record IsCutJob (d j q : ℕ) (rows : Rows) (asked : List Asked) (c : CellCommit) : Type 0 where
  pub turn : Turn
  pub only : asked ≡ record { event = ev.Send j; turn = turn } ∷ []
  pub postage : ℕ
  pub taken : IsTaken j turn.reply (sent_in turn.entries) postage
  pub fits : nat_lt (q - spent rows d) postage ≡ false
  pub place : ℕ
  pub jobs : HasJobs rows d place
  pub room : place < 64
  pub cell : c.cell ≡ first_cell d + place
  pub kept : c.kept ≡ row.Job j postage

-- nothing was committed before it, and this commit failed
abbrev pub IsCutShort : DepartmentLine → Rows → List Asked → CellCommit → Type 0
IsCutShort (Quota d q) rows asked c = (nat_lt q (spent rows d) ≡ false) × (asked ≡ []) × (c ≡ record { cell = d - 1; kept = row.Quota q })
IsCutShort (Assign d j) rows asked c = (q : ℕ) × (quota rows d ≡ Some q) × IsFree rows d j × IsCutJob d j q rows asked c
IsCutShort (Spent d) rows asked c = ⊥
IsCutShort (Print j) rows asked c = ⊥

-- == a script ==

-- `Steps s t d turn` says that the bench, which was s and is t, did this by one step with this turn.
module _ {B : Type 0} (Steps : B → B → StepRecord → Turn → Type 0) where
  -- what was asked for is what the bench did, one step after the other
  abbrev pub AreDone : B → List StepRecord → List Asked → B → Type 0
  AreDone s [] [] t = t ≡ s
  AreDone s [] (x ∷ asked) t = ⊥
  AreDone s (d ∷ steps) [] t = ⊥
  AreDone s (d ∷ steps) (x ∷ asked) t = (mid : B) × (d.event ≡ x.event) × Steps s mid d x.turn × AreDone mid steps asked t

  -- a line that is left to the bench, and the turn of its step
  pub record IsLeft (rows : Rows) (line : List ℕ) (s : B) (d : StepRecord) (t : B) : Type 0 where
    pub passes : Passes rows line
    pub turn : Turn
    pub did : Steps s t d turn

  -- an own line was answered by these texts
  pub record IsOwnTold (own : DepartmentLine) (rows : Rows) (s : B) (steps : List StepRecord) (texts : List (List ℕ)) (t : B) (after : Rows) : Type 0 where
    pub line : IsLine own
    pub asked : List Asked
    pub done : AreDone s steps asked t
    pub answered : IsAnswered own rows (record { asked = asked; texts = texts; after = after })

  -- an own line where this commit failed
  pub record IsOwnCut (own : DepartmentLine) (rows : Rows) (s : B) (steps : List StepRecord) (t : B) (c : CellCommit) : Type 0 where
    pub line : IsLine own
    pub asked : List Asked
    pub done : AreDone s steps asked t
    pub cut : IsCutShort own rows asked c

  -- each line in turn, and the commit that failed, if one did
  abbrev pub AreAnswered : B → Rows → List (SideStep DepartmentLine) → B → Rows → Option CellCommit → Type 0
  AreAnswered s rows [] t after failed = (t ≡ s) × (after ≡ rows) × (failed ≡ None)
  AreAnswered s rows (Plain (Skipped line) ∷ rest) t after failed = AreAnswered s rows rest t after failed
  AreAnswered s rows (Plain (Did line d) ∷ rest) t after failed = (m : B) × IsLeft rows line s d m × AreAnswered m rows rest t after failed
  AreAnswered s rows (Own line own steps texts ∷ rest) t after failed =
      (m : B) × (mid : Rows) × IsOwnTold own rows s steps texts m mid × AreAnswered m mid rest t after failed
  AreAnswered s rows (Broken line own steps ∷ rest) t after failed =
      (m : B) × (c : CellCommit) × IsOwnCut own rows s steps m c × (failed ≡ Some c) × AreAnswered m rows rest t after None
