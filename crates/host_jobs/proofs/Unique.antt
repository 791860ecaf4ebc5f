-- The statement that what is kept is that of the rows has one proof at most.
use Rattle.std.proofs.Common.{ℕ, List, Option, Some, None}
use Rattle.std.proofs.Props.{props}
use Rattle.std.specs.Prelude.{IfSome}
use Rattle.bench_base.specs.declared.words.JobState.{JobState}
use Rattle.bench_base.specs.declared.words.JobState.TheVariants as state
use Rattle.host_jobs.specs.declared.{rows.JobRow.JobRow, kept.Kept.Kept}
use Rattle.host_jobs.specs.Rows.{Jobs, row_in}
use Rattle.host_jobs.specs.Soundness.{IsMarked, Holds, IsSoundJob, IsJobAt, IsFresh, ArePlaced, AreJoined, AreSound, IsDerived}

if_some_prop : {A : Type 0} (P : A → Type 0) → ((a : A) → IsProp (P a)) → (o : Option A) → IsProp (IfSome o P)
if_some_prop P one None = hlevel
if_some_prop P one (Some a) = one a

marked_prop : (s : JobState) (o : Option (List ℕ)) → IsProp (IsMarked s o)
marked_prop state.Ordered None = hlevel
marked_prop state.Ordered (Some x) = hlevel
marked_prop state.Held None = hlevel
marked_prop state.Held (Some x) = hlevel
marked_prop state.Begun None = hlevel
marked_prop state.Begun (Some x) = hlevel
marked_prop state.Closed o = hlevel

holds_prop : (r : JobRow) (x : List ℕ) → IsProp (Holds r x)
holds_prop r x = hlevel props

sound_prop : (r : JobRow) → IsProp (IsSoundJob r)
sound_prop r =
    let marked = marked_prop r.state r.indicium in
    let holds = if_some_prop (Holds r) (holds_prop r) r.indicium in
    hlevel (marked, holds, props)

at_prop : (k : ℕ) (r : JobRow) → IsProp (IsJobAt k r)
at_prop k r = let sound = sound_prop r in hlevel (sound, props)

placed_prop : (rows : Jobs) → IsProp (ArePlaced rows)
placed_prop rows = let each : (k : ℕ) → IsProp (IfSome (row_in rows k) (IsJobAt k)) = λ k. if_some_prop (IsJobAt k) (at_prop k) (row_in rows k) in hlevel (each, props)

fresh_prop : (rows : Jobs) (r : JobRow) → IsProp (IsFresh rows r)
fresh_prop rows r = hlevel props

joined_prop : (rows : Jobs) → IsProp (AreJoined rows)
joined_prop rows =
    let each : (k : ℕ) → IsProp (IfSome (row_in rows k) (IsFresh rows)) = λ k. if_some_prop (IsFresh rows) (fresh_prop rows) (row_in rows k) in
    hlevel (each, props)

sound_rows_prop : (rows : Jobs) → IsProp (AreSound rows)
sound_rows_prop rows = let placed = placed_prop rows in let joined = joined_prop rows in hlevel (placed, joined, props)

pub kept_unique : (rows : Jobs) (kept : Kept) → IsProp (IsDerived rows kept)
kept_unique rows kept = let sound = sound_rows_prop rows in hlevel (sound, props)
