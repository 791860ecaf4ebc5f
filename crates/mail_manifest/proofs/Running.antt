-- What a run with a manifest did, by what checker and bench did of its lines.
use Rattle.std.proofs.Common.{◌≡◌, ℕ, List, [], ◌∷◌, ◌++◌, ◌+◌, length, Option, None, sym, ap, ◌∙◌, subst}
use Rattle.std.specs.Io.KnownBytes.{IsAtEnd}
use Rattle.bench_base.specs.declared.ledger.Entry.TheVariants.{Begin}
use Rattle.bench_base.specs.Rules.{editions}
use Rattle.ledger_terms.specs.Editions.{Editions}
use Rattle.run_laws.proofs.Going.{all_moved}
use Rattle.bench.specs.Benches.{Nodes}
use Rattle.line_runs.specs.declared.status.Status.TheVariants as status
use Rattle.line_runs.specs.declared.{status.SideStatus.SideStatus, status.SideStatus.TheVariants.Run, status.SideStatus.TheVariants.Stopped}
use Rattle.line_runs.specs.Runs.{EndsIn, Replayed}
use Rattle.line_extensions.specs.Trace.{Skipped, Did}
use Rattle.line_extensions.specs.Desks.{world, side_lines}
use Rattle.line_extensions.specs.SideTrace.{SideStep, Plain, Own, Broken, IsBroken, steps_of}
use Rattle.script_replay.specs.Chains.{SceneOf, scene}
use Rattle.script_replay.specs.Run.{Leaves}
use Rattle.script_replay.specs.SideLaws.{told}
use Rattle.script_replay.specs.Sides.{StepsBy, DidSide, RanSide, EndsSide}
use Rattle.script_replay.specs.Streams.{Streams}
use Rattle.mail_manifest.specs.Answers.{AreAnswered}
use Rattle.mail_manifest.specs.CheckerDesk.{checker_desk}
use Rattle.mail_manifest.specs.Listings.{Listing}
use Rattle.mail_manifest.specs.Ran.{DidManifest}
use Rattle.mail_manifest.specs.View.{listing_of}
use Rattle.mail_manifest.specs.declared.{checker.Checker.Checker, opening.ManifestLine.ManifestLine}
use Rattle.mail_manifest.proofs.Answering.{all_answered}
use Rattle.mail_manifest.proofs.Holding.{yes_holds}
use Rattle.line_extensions.proofs.Wanting.{desk_left, no_words}

module _ (n : Nodes) (today : Editions editions) (old new : SceneOf n) (before after : Checker) (outcome : SideStatus) (none : listing_of before ≡ None) where
  pub did_manifest : (trace : List (SideStep ManifestLine)) → DidSide n checker_desk (world old before) (world new after) outcome trace → DidManifest n old new outcome trace
  did_manifest trace did =
      let answers : AreAnswered None trace (listing_of after) = subst (λ (m : Option Listing). AreAnswered m trace (listing_of after)) none
      (subst (λ (m : Option Listing). AreAnswered (listing_of before) trace m)
      (sym (ap (λ (k : Checker). listing_of k) (desk_left (λ s t. Leaves (Run status.Memory) s t) outcome did.behind (world new after) did.leaves)))
      (all_answered (StepsBy n) (told n) (world (scene did.begun old.outside) before) did.behind trace did.did)) in
      record {
        before = before;
        after = after;
        none = none;
        side = did;
        answers = answers;
        holds = λ τ L texts stands tells unforged.
            let over = did.bench.over τ L texts stands tells in
            yes_holds today τ (Begin ∷ L) trace (listing_of after) answers (all_moved τ (Begin ∷ L) (steps_of trace) unforged over.run) (over.stands unforged).history;
      }

-- no line about a manifest is broken off
none_broken : (m : Option Listing) (a : List (SideStep ManifestLine)) (x : SideStep ManifestLine) (after : Option Listing) → AreAnswered m (a ++ x ∷ []) after → IsBroken x → ⊥
none_broken m [] (Plain d) after answered broken = broken
none_broken m [] (Own line own steps texts) after answered broken = broken
none_broken m [] (Broken line own steps) after answered broken = answered
none_broken m (Plain (Skipped line) ∷ a) x after answered broken = none_broken m a x after answered broken
none_broken m (Plain (Did line d) ∷ a) x after answered broken = none_broken m a x after answered.1 broken
none_broken m (Own line own steps texts ∷ a) x after answered broken = none_broken answered.0 a x after answered.2 broken
none_broken m (Broken line own steps ∷ a) x after answered broken = answered

-- so no run is
module _ (n : Nodes) (old new : SceneOf n) (outcome : SideStatus) (stopped : outcome ≡ Stopped) where
  never_broken : (a b t u : Option (List ℕ)) → Replayed (side_lines checker_desk) outcome (DidManifest n old new outcome) a b t u → ⊥
  never_broken a b t u r =
      let ends = subst (λ (o : SideStatus). EndsIn (side_lines checker_desk) o (length r.trace + 1) r.rest (IsAtEnd b) r.text r.done) stopped r.ends in
      none_broken None r.trace ends.0.last (listing_of r.did.after)
      (subst (λ (done : List (SideStep ManifestLine)). AreAnswered None (r.trace ++ done) (listing_of r.did.after)) ends.0.only r.did.answers) ends.1

  pub never_stops : (word : List ℕ) (given : List (List ℕ)) (before now : Streams) → RanSide checker_desk word outcome given (DidManifest n old new outcome) before now
      → EndsSide checker_desk word outcome given before now → ⊥
  never_stops word given before now ran ends = no_words (sym (ends.words.1 (λ called. never_broken _ _ _ _ (ran.replays called))) ∙ stopped)
