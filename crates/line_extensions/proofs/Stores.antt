-- What a run leaves of an extension's own storage, by what each of its commits left.
use Rattle.std.proofs.Common.{◌≡◌, ◌⊎◌, ◌↔◌, inl, inr, ℕ, ◌≤◌, List, Option, Some, None, Result, Ok, Err, Bool, true, false, refl, sym, ap, ◌∙◌, subst, arith, true≢false}
use Rattle.std.specs.Prelude.{IsSome, IsNone}
use Rattle.bench_base.specs.Causes.{Rose}
use Rattle.bench_base.specs.declared.refusals.StoreFail.{StoreFail}
use Rattle.bench_base.specs.declared.refusals.StoreFail.TheVariants as fail
use Rattle.nv_model.specs.Meters.{Meters, WasCut, Uses, Counts}
use Rattle.nv_model.specs.Moments.{Image, Nested, Stays}
use Rattle.nv_model.specs.declared.nv.Nv as nv
use Rattle.nv_store.specs.Fails.{ends_failed}
use Rattle.node_acts.specs.RowList.{RowList, put}
use Rattle.row_node.specs.Shows.{ShowsRows}
use Rattle.row_store.specs.Commits.{CommitsRow}
use Rattle.row_store.specs.Seen.{ReadsAs}
use Rattle.line_runs.specs.declared.{status.SideStatus.SideStatus, status.SideStatus.TheVariants.Stopped}
use Rattle.line_extensions.specs.SideTrace.{SideStep}
use Rattle.line_extensions.specs.Stops as stops
use Rattle.line_extensions.specs.Stops.{HasBroken, RowCommit, DeskView, rows_seen, meters_seen, row_view}

-- == counts ==

rose_later : (a b c : ℕ) → a ≤ b → Rose b c → Rose a c
rose_later a b c le rose = omega (arith, le, rose)

none_uses : (calls : ℕ) (f h : Option ℕ) → Uses calls f h → f ≡ None → h ≡ None
none_uses calls None h uses is = uses
none_uses calls (Some left) h uses is = absurd (cc)

burnt : (f h i : Option ℕ) → (f ≡ None → h ≡ None) → IsSome h × IsNone i → IsSome f × IsNone i
burnt None h i counts cut = absurd (no_some h (counts refl) cut.0)
  where
    no_some : (h : Option ℕ) → h ≡ None → IsSome h → ⊥
    no_some None is some = absurd (true≢false (sym some))
    no_some (Some x) is some = absurd (cc)
burnt (Some left) h i counts cut = (refl, cut.1)

counts_refl : (m : Meters) → Counts m m
counts_refl m = record { cuts = omega arith; faults = omega arith; fuse = λ is. is }

counts_then : (a b c : Meters) → Counts a b → Counts b c → Counts a c
counts_then a b c first second =
    let cuts = first.cuts in
    let cuts' = second.cuts in
    let faults = first.faults in
    let faults' = second.faults in
    record { cuts = omega (arith, cuts, cuts'); faults = omega (arith, faults, faults'); fuse = λ is. second.fuse (first.fuse is) }

abbrev Caused : Meters → Meters → Type 0
Caused a c = WasCut a c ⊎ Rose a.faults c.faults

caused_later : (a b c : Meters) → Counts a b → Caused b c → Caused a c
caused_later a b c counts (inl (inl cut)) = inl (inl (rose_later a.cuts b.cuts c.cuts counts.cuts cut))
caused_later a b c counts (inl (inr fuse)) = inl (inr (burnt a.fuse b.fuse c.fuse counts.fuse fuse))
caused_later a b c counts (inr fault) = inr (rose_later a.faults b.faults c.faults counts.faults fault)

module _ {N R : Type 0} (g : nv.Ghosts N) (decoded : ℕ → List ℕ → Option R) (size cells : ℕ) where
  abbrev View : Type 0
  View = DeskView N

  abbrev rows : View → RowList R
  rows v = rows_seen g decoded v

  abbrev meters : View → Meters
  meters v = meters_seen g decoded v

  abbrev Untouched : View → View → Type 0
  Untouched old new = stops.IsUntouched g decoded old new

  abbrev Shows : RowList R → List ℕ → Type 0
  Shows seen image = ShowsRows size cells (ReadsAs decoded) seen image

  -- no commit failed
  pub record Goes (old new : View) : Type 0 where
    pub failed : new.failed ≡ old.failed
    pub before : old.failed ≡ true → Untouched old new
    pub counts : Counts (meters old) (meters new)

  -- this one was torn
  pub record Tears (c : RowCommit R) (old new : View) : Type 0 where
    pub cause : Caused (meters old) (meters new)
    pub shows : g.tells → (i : List ℕ) → Image (g.times new.storage) i → Shows (rows new) i ⊎ Shows (put (rows new) c.cell c.kept) i

  -- by whether one had failed before
  abbrev pub BreaksBy : Bool → RowCommit R → View → View → Type 0
  BreaksBy true c old new = Untouched old new
  BreaksBy false c old new = Tears c old new

  -- this one failed
  pub record Breaks (c : RowCommit R) (old new : View) : Type 0 where
    pub failed : new.failed ≡ true
    pub by : BreaksBy old.failed c old new

  touched_none : (old mid new : View) → Untouched old mid → Untouched mid new → Untouched old new
  touched_none old mid new first second = record { storage = second.storage ∙ first.storage; rows = second.rows ∙ first.rows }

  -- where failure, storage and rows are as they were
  pub goes_rests : (old new : View) → new.failed ≡ old.failed → Untouched old new → Goes old new
  goes_rests old new failed same = record {
    failed = failed;
    before = λ is. same;
    counts = subst (λ (s : N). Counts (meters old) (g.meters s)) (sym same.storage) (counts_refl (meters old));
  }

  pub goes_same : (old new : View) → new ≡ old → Goes old new
  goes_same old new same =
      goes_rests old new (ap (λ (v : View). v.failed) same) (record { storage = ap (λ (v : View). v.storage) same; rows = ap (λ (v : View). rows v) same })

  pub goes_on : (old mid new : View) → Goes old mid → Goes mid new → Goes old new
  goes_on old mid new first second = record {
    failed = second.failed ∙ first.failed;
    before = λ is. touched_none old mid new (first.before is) (second.before (first.failed ∙ is));
    counts = counts_then (meters old) (meters mid) (meters new) first.counts second.counts;
  }

  lift : (c : RowCommit R) (old mid new : View) → Goes old mid → (a b : Bool) → old.failed ≡ a → b ≡ a → BreaksBy b c mid new → BreaksBy a c old new
  lift c old mid new goes true true is same breaks = touched_none old mid new (goes.before is) breaks
  lift c old mid new goes false false is same breaks = record { cause = caused_later (meters old) (meters mid) (meters new) goes.counts breaks.cause; shows = breaks.shows }
  lift c old mid new goes true false is same breaks = absurd (true≢false (sym same))
  lift c old mid new goes false true is same breaks = absurd (true≢false same)

  pub breaks_later : (c : RowCommit R) (old mid new : View) → Goes old mid → Breaks c mid new → Breaks c old new
  breaks_later c old mid new goes breaks = record { failed = breaks.failed; by = lift c old mid new goes old.failed mid.failed refl goes.failed breaks.by }

  -- where one had failed before
  pub breaks_before : (c : RowCommit R) (old new : View) → old.failed ≡ true → new.failed ≡ old.failed → Untouched old new → Breaks c old new
  breaks_before c old new is failed same = record { failed = failed ∙ is; by = subst (λ (b : Bool). BreaksBy b c old new) (sym is) same }

  -- == one commit ==

  module _ (spelled : ℕ → R → List ℕ) (nested : (s : N) → g.tells → Nested (g.times s)) (c : RowCommit R) (old new : View) (long : old.cells ≡ cells) (works : old.failed ≡ false) where
    abbrev Commits : Result (Unit {0}) StoreFail → Type 0
    Commits result = CommitsRow g.tells decoded spelled size c.cell c.kept (row_view g decoded old) (row_view g decoded new) result

    torn : (result : Result (Unit {0}) StoreFail) → new.failed ≡ true → (result ≡ Err fail.Worn → ⊥) → Caused (meters old) (meters new) → rows new ≡ rows old → Commits result → Breaks c old new
    torn result broke fresh cause stays did = record {
      failed = broke;
      by = subst (λ (b : Bool). BreaksBy b c old new) (sym works) (record {
        cause = cause;
        shows = λ tells i image.
            subst (λ (r : RowList R). Shows r i ⊎ Shows (put r c.cell c.kept) i) (sym stays)
            (subst (λ (n : ℕ). ShowsRows size n (ReadsAs decoded) (rows old) i ⊎ ShowsRows size n (ReadsAs decoded) (put (rows old) c.cell c.kept) i) long
            (did.any_moment tells fresh i (nested new.storage tells (g.times old.storage).moment (g.times new.storage).moment i (did.time tells).later image)));
      });
    }

    went : new.failed ≡ false → (result : Result (Unit {0}) StoreFail) → Commits result → Goes old new
    went still result did = record {
      failed = still ∙ sym works;
      before = λ is. absurd (true≢false (sym is ∙ works));
      counts = record { cuts = did.cuts; faults = did.faults; fuse = none_uses 6 (meters old).fuse (meters new).fuse did.fuse };
    }

    -- by how it ended
    abbrev pub CameBy : Result (Unit {0}) StoreFail → Type 0
    CameBy (Ok u) = Goes old new
    CameBy (Err fail.Worn) = Goes old new
    CameBy (Err fail.Power) = Breaks c old new
    CameBy (Err fail.Fault) = Breaks c old new
    CameBy (Err fail.Failed) = Breaks c old new

    pub came_by : (result : Result (Unit {0}) StoreFail) → Commits result → new.failed ≡ ends_failed result → CameBy result
    came_by (Ok u) did failed = went failed (Ok u) did
    came_by (Err fail.Worn) did failed = went failed (Err fail.Worn) did
    came_by (Err fail.Power) did failed = torn (Err fail.Power) failed (λ is. cc) (inl (did.power refl)) did.stays did
    came_by (Err fail.Fault) did failed = torn (Err fail.Fault) failed (λ is. cc) (inr (did.fault refl)) did.stays did
    came_by (Err fail.Failed) did failed = absurd (did.not_failed refl)

  -- == meanwhile ==

  abbrev pub Meanwhile : View → View → Type 0
  Meanwhile old new = stops.ShownMeanwhile g decoded size cells old new

  module _ (old new : View) (shown : old.failed ≡ false → g.tells → (i : List ℕ) → Image (g.times old.storage) i → Shows (rows old) i) where
    -- where the storage is as it was
    pub shown_still : new.storage ≡ old.storage → Meanwhile old new
    shown_still same = record {
      images = λ tells works i since. inl (shown works tells i (subst (λ (s : N). Stays (g.times old.storage) (g.times s)) (sym same) (λ j here. here) i since));
    }

    -- where a commit came out
    module _ (spelled : ℕ → R → List ℕ) (c : RowCommit R) (long : old.cells ≡ cells) where
      abbrev Tried : Result (Unit {0}) StoreFail → Type 0
      Tried result = CommitsRow g.tells decoded spelled size c.cell c.kept (row_view g decoded old) (row_view g decoded new) result

      one_of : (result : Result (Unit {0}) StoreFail) → Tried result → (result ≡ Err fail.Worn → ⊥) → (new.failed ≡ false → rows new ≡ put (rows old) c.cell c.kept) → Meanwhile old new
      one_of result did fresh made = record {
        images = λ tells works i since.
            elim (subst (λ (n : ℕ). ShowsRows size n (ReadsAs decoded) (rows old) i ⊎ ShowsRows size n (ReadsAs decoded) (put (rows old) c.cell c.kept) i) long (did.any_moment tells fresh i since)) [
              | inl before ↦ inl before
              | inr after ↦ inr (c, made, after)
            ];
      }

      pub shown_commit : (result : Result (Unit {0}) StoreFail) → Tried result → new.failed ≡ ends_failed result → Meanwhile old new
      shown_commit (Ok u) did failed = one_of (Ok u) did (λ is. cc) (λ works. did.done)
      shown_commit (Err fail.Worn) did failed = record { images = λ tells works i since. inl (shown works tells i ((did.untouched refl).2 i since)) }
      shown_commit (Err fail.Power) did failed = one_of (Err fail.Power) did (λ is. cc) (λ works. absurd (true≢false (sym failed ∙ works)))
      shown_commit (Err fail.Fault) did failed = one_of (Err fail.Fault) did (λ is. cc) (λ works. absurd (true≢false (sym failed ∙ works)))
      shown_commit (Err fail.Failed) did failed = absurd (did.not_failed refl)

  -- == a run ==

  module _ {L : Type 0} where
    -- how lines end: no commit failed, or one did in the last
    abbrev pub Ends : View → View → List (SideStep L) → Option (RowCommit R) → Type 0
    Ends old new trace commit = (Goes old new × (HasBroken trace → ⊥) × (commit ≡ None)) ⊎ (HasBroken trace × (c : RowCommit R) × (commit ≡ Some c) × Breaks c old new)

    module _ (old new : View) (outcome : SideStatus) (trace : List (SideStep L)) (stops_at : (outcome ≡ Stopped) ↔ HasBroken trace) where
      abbrev Leaves : Option (RowCommit R) → Type 0
      Leaves commit = stops.LeavesStorage g decoded size cells old new outcome trace commit

      went_well : (new.failed ≡ false → g.tells → (i : List ℕ) → Image (g.times new.storage) i → Shows (rows new) i) → Goes old new → (HasBroken trace → ⊥) → Leaves None
      went_well shown goes none = record {
        stops = stops_at;
        which = (λ is. absurd (none (stops_at.0 is)), λ some. absurd (true≢false (sym some)));
        failed = (
          λ is. inl (sym goes.failed ∙ is),
          λ either. elim either [
            | inl was ↦ goes.failed ∙ was
            | inr stopped ↦ absurd (none (stops_at.0 stopped))
          ],
        );
        before = goes.before;
        why = λ works stopped. absurd (none (stops_at.0 stopped));
        shows = λ tells works i image. inl (shown (goes.failed ∙ works) tells i image);
      }

      broke_by : (b : Bool) (c : RowCommit R) → old.failed ≡ b → BreaksBy b c old new → new.failed ≡ true → HasBroken trace → Leaves (Some c)
      broke_by true c was by failed broke = record {
        stops = stops_at;
        which = (λ is. refl, λ some. stops_at.1 broke);
        failed = (λ is. inl was, λ either. failed);
        before = λ is. by;
        why = λ works stopped. absurd (true≢false (sym was ∙ works));
        shows = λ tells works i image. absurd (true≢false (sym was ∙ works));
      }
      broke_by false c was by failed broke = record {
        stops = stops_at;
        which = (λ is. refl, λ some. stops_at.1 broke);
        failed = (λ is. inr (stops_at.1 broke), λ either. failed);
        before = λ is. absurd (true≢false (sym is ∙ was));
        why = λ works stopped. by.cause;
        shows = λ tells works i image. by.shows tells i image;
      }

      pub leaves : (new.failed ≡ false → g.tells → (i : List ℕ) → Image (g.times new.storage) i → Shows (rows new) i) → (commit : Option (RowCommit R)) → Ends old new trace commit → Leaves commit
      leaves shown commit (inl goes) = subst (λ (o : Option (RowCommit R)). Leaves o) (sym goes.2) (went_well shown goes.0 goes.1)
      leaves shown commit (inr broke) = subst (λ (o : Option (RowCommit R)). Leaves o) (sym broke.2) (broke_by old.failed broke.1 refl broke.3.by broke.3.failed broke.0)
