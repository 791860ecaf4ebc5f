-- An own line at which a run was stopped, if it is known what was done for it: it fits, and this is left.
use Rattle.std.proofs.Common.{◌≢◌, inl, inr, ℕ, List, refl, sym, ◌∙◌, ap, subst}
use Rattle.bench_base.specs.Rules.{editions}
use Rattle.ledger_moves.specs.Tariffs.{Tariff}
use Rattle.ledger_moves.specs.Histories.{History}
use Rattle.line_extensions.specs.Desks.{world}
use Rattle.line_extensions.specs.declared.{extension.Extension.Ghosts, extension.Next.Next, extension.Next.TheVariants.Step, extension.Next.TheVariants.Stop}
use Rattle.trace_bench.specs.Seeing.{Audit}
use Rattle.trace_runs.proofs.Alike.{between}
use Rattle.trace_extensions.specs.FitsStopped.{IsCutOf, StopFits, at_own_line, not_begun, all_of_it, part_of_it}
use Rattle.trace_extensions.specs.Models.{Model, AreAlike, IsModelOf}
use Rattle.trace_extensions.specs.Places.{Place, MayStep}
use Rattle.trace_extensions.specs.Worlds.{AllAsked, LeftSo, all_asked, one_begun, KnownSo, ReachedSo}
use Rattle.trace_extensions.proofs.ByModel.{asks_of, asks_to}
use Rattle.trace_extensions.proofs.OwnStops.{idle_left}

module _ {K T : Type 0} (k : Ghosts K T) {V : Type 0} (view : K → V) (m : Model V) where
  -- by the extension
  pub known_left : (τ : Tariff) (scene : Place) (mid : K) (first : Next) (told : List ℕ) (audit : Audit) (desk : K) → History τ editions scene.ledger → KnownSo k view m τ (world scene mid) first told audit desk
      → LeftSo k τ (world scene mid) first told audit desk
  known_left τ scene mid first told audit desk history (inl all) = all_asked all
  known_left τ scene mid first told audit desk history (inr rested) =
      subst (λ (d : K). LeftSo k τ (world scene mid) first told audit d) (sym rested.stays) (idle_left k τ scene mid first told audit rested.step rested.silent history rested.sees)

  -- and where it is open whether one step more was done
  pub reached_left : (τ : Tariff) (scene : Place) (mid : K) (first : Next) (told : List ℕ) (audit : Audit) (desk : K) → ReachedSo k τ (world scene mid) first told audit desk → LeftSo k τ (world scene mid) first told audit desk
  reached_left τ scene mid first told audit desk (inl all) = all_asked all
  reached_left τ scene mid first told audit desk (inr one) =
      one_begun (record { steps = one.steps; new = one.new; event = one.event; asks = one.asks; silent = one.silent; history = one.history; begun = one.begun.0; left = one.left })

  module _ (modelled : IsModelOf k view m) (alike : AreAlike m) where
    -- by its model
    -- all was done
    all_fits : (τ : Tariff) (scene : Place) (desk mid : K) (line : List ℕ) (own : k.Own) (first : Next) (told : List ℕ) (audit : Audit) (desk1 : K) → k.IsOwn own line → k.Begins desk own first mid
        → first ≢ Stop → AllAsked k τ (world scene mid) first told audit desk1 → StopFits m τ (world scene (view desk)) line told audit (view desk1)
    all_fits τ scene desk mid line own first told audit desk1 is begins goes all =
        let new = all.asked.new in record {
          ledger = new.scene.ledger;
          kept = view new.desk;
          stop = at_own_line (all_of_it ((modelled.own line).1 (own, is)) (record {
            steps = all.asked.steps;
            behind = world new.scene (view new.desk);
            did = record {
              first = first;
              desk = view mid;
              begins = modelled.begins desk mid own line first is begins goes;
              asks = asks_of k view m modelled (MayStep τ) (world scene mid) new first all.asked.steps all.asked.asks;
            };
            cut = subst (λ l. IsCutOf told l) (ap (λ (d : K). k.texts d) (sym all.asked.seen.desk) ∙ modelled.texts new.desk) all.cut;
            ledger = refl;
            keeps = refl;
          }));
          history = all.asked.seen.history;
          sees = between audit new.scene.ledger all.asked.seen.sees;
          alike = subst (λ (d : K). m.Alike (view desk1) (view d)) (sym all.asked.seen.desk) (alike.same (view desk1));
        }

    pub known_fits : (τ : Tariff) (scene : Place) (desk mid : K) (line : List ℕ) (own : k.Own) (first : Next) (told : List ℕ) (audit : Audit) (desk1 : K) → History τ editions scene.ledger → k.IsOwn own line → k.Begins desk own first mid
        → first ≢ Stop → KnownSo k view m τ (world scene mid) first told audit desk1 → StopFits m τ (world scene (view desk)) line told audit (view desk1)
    known_fits τ scene desk mid line own first told audit desk1 history is begins goes (inl all) = all_fits τ scene desk mid line own first told audit desk1 is begins goes all
    known_fits τ scene desk mid line own first told audit desk1 history is begins goes (inr rested) =
        let began : m.Begins (view desk) line first (view mid) = modelled.begins desk mid own line first is begins goes in record {
          ledger = scene.ledger;
          kept = view desk;
          stop = at_own_line (not_begun ((modelled.own line).1 (own, is)) (record { first = first; desk = view mid; begins = began; silent = rested.silent; ledger = refl; stays = refl }));
          history = history;
          sees = between audit scene.ledger rested.sees;
          alike = subst (λ (d : K). m.Alike (view d) (view desk)) (sym rested.stays) (rested.alike (view desk) line began);
        }

    -- and where it is open whether one step more was done
    pub reached_fits : (τ : Tariff) (scene : Place) (desk mid : K) (line : List ℕ) (own : k.Own) (first : Next) (told : List ℕ) (audit : Audit) (desk1 : K) → k.IsOwn own line → k.Begins desk own first mid
        → first ≢ Stop → ReachedSo k τ (world scene mid) first told audit desk1 → StopFits m τ (world scene (view desk)) line told audit (view desk1)
    reached_fits τ scene desk mid line own first told audit desk1 is begins goes (inl all) = all_fits τ scene desk mid line own first told audit desk1 is begins goes all
    reached_fits τ scene desk mid line own first told audit desk1 is begins goes (inr one) =
        let left = one.begun.1 in record {
          ledger = left.0;
          kept = view one.new.desk;
          stop = at_own_line (part_of_it ((modelled.own line).1 (own, is)) (record {
            steps = one.steps;
            behind = world one.new.scene (view one.new.desk);
            event = one.event;
            did = record {
              first = first;
              desk = view mid;
              begins = modelled.begins desk mid own line first is begins goes;
              asks = asks_to k view m modelled (MayStep τ) (world scene mid) one.new first one.steps (Step one.event) (λ stop. cc) one.asks;
            };
            silent = one.silent;
            leaves = left.1;
            keeps = refl;
          }));
          history = left.2;
          sees = left.3;
          alike = subst (λ (d : K). m.Alike (view desk1) (view d)) one.left (alike.same (view desk1));
        }
