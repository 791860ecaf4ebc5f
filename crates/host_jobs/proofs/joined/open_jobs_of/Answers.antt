use Rattle.std.proofs.lemmas.List.{get_or-replicate}
use Rattle.std.proofs.Common.{◌<◌, ◌+◌, ℕ, List, Option, None, length, refl, sym, subst, ◌∙◌, true≢false, arith}
use Rattle.host_jobs.proofs.Walks.{Walked, walked_blank, walked_row, walked_fits, walked_all}
use Rattle.host_jobs.proofs.joined.open_jobs_of.Goals as goal
use Rattle.host_jobs.proofs.joined.open_jobs_of.Goals.{in-Some+else-not-keep_open, in_default}

pub loop-cell-init : goal.loop-cell-init
loop-cell-init c = record {
  long = refl;
  opens = λ i lt. get_or-replicate 8 i None None lt;
  once = λ d i k lt lt' some some'. absurd (omega arith);
  fresh = λ k lt. absurd (omega arith);
}

pub returns-then-not-keep_open-clause-joined : goal.returns-then-not-keep_open-clause-joined
returns-then-not-keep_open-clause-joined c =
    let rows = c.args.rows.now in
    let inside : c.loop-cell.cell < length rows = omega (arith, c.requires.long, c.loop-cell-test.true) in (
      λ t. absurd (true≢false (sym t)),
      λ agree.
          sym c.if-not-keep_open.true
          ∙ c.keep_open.ensures.fits.1 (walked_fits rows c.loop-cell.cell inside c.loop-cell.open_jobs c.loop-cell.invariant c.in-Some.row.now (sym c.in-Some.ensures) c.keep_open.ensures.device c.args.tops.now c.requires.tops agree.0 agree.1),
    )

pub loop-cell-preserved : goal.loop-cell-preserved
loop-cell-preserved c =
    let rows = c.args.rows.now in
    let inside : c.loop-cell.cell < length rows = omega (arith, c.requires.long, c.loop-cell-test.true) in
    elim c.match-get.branch [
      | in-Some+else-not-keep_open w ↦
          subst (λ (l : List (Option ℕ)). Walked rows (c.loop-cell.cell + 1) l) (sym w.open_jobs-is)
          (walked_row rows c.loop-cell.cell inside c.loop-cell.open_jobs c.loop-cell.invariant w.in-Some.row.now (sym w.in-Some.ensures) w.keep_open.ensures.device c.args.tops.now c.requires.tops
          w.keep_open.new.open_jobs w.keep_open.array_long (w.keep_open.ensures.kept w.if-not-keep_open.false) (w.keep_open.ensures.fits.0 w.if-not-keep_open.false))
      | in_default w ↦
          subst (λ (l : List (Option ℕ)). Walked rows (c.loop-cell.cell + 1) l) (sym w.open_jobs-is)
          (walked_blank rows c.loop-cell.cell inside c.loop-cell.open_jobs c.loop-cell.invariant (sym w.in_default.ensures))
    ]

pub returns-clause-joined : goal.returns-clause-joined
returns-clause-joined c =
    let all = walked_all c.args.rows.now c.loop-cell.cell c.loop-cell.open_jobs (omega (arith, c.requires.long, c.loop-cell-test.false)) c.loop-cell.invariant in
    (λ t. (all.0, all.1), λ agree. refl)

pub returns-clause-value : goal.returns-clause-value
returns-clause-value c = (walked_all c.args.rows.now c.loop-cell.cell c.loop-cell.open_jobs (omega (arith, c.requires.long, c.loop-cell-test.false)) c.loop-cell.invariant).2
