-- A commit over lent parts is that of a store of one cell.
use Rattle.std.proofs.Common.{◌≡◌, inl, ℕ, ◌+◌, ◌*◌, ◌<◌, sym, ap, ◌∙◌, List, Bool, false, Result, subst, arith, rules}
use Rattle.bench_base.specs.declared.refusals.StoreFail.{StoreFail}
use Rattle.nv_model.specs.declared.nv.Nv.{Ghosts}
use Rattle.nv_store.specs.Fails.{ends_failed}
use Rattle.nv_store.specs.Lent.{Parts, CommitsParts}
use Rattle.std.specs.Prelude.{is_ok}
use Rattle.std.proofs.Math.Nat.{zero-mul}
use Rattle.nv_store.specs.Fills.{Fills, FillsCell, fill, told}
use Rattle.nv_store.specs.Store.{Between, CommitsCell, count_of, one_held, one_view}
use Rattle.nv_store.proofs.Between.{count_of_one_held}

pub one_commits : {N : Type 0} (g : Ghosts N) (L n cell : ℕ) (before now : Parts N) (payload : List ℕ) (result : Result (Unit {0}) StoreFail) (had_failed : Bool) → had_failed ≡ false → (has_failed : Bool) → cell < 1 → has_failed ≡ ends_failed result
    → CommitsParts g L n before now payload result
    → CommitsCell g.tells L n cell payload (one_view g n before.nv before.head before.kept had_failed) (one_view g n now.nv now.head now.kept has_failed) result
one_commits g L n cell before now payload result had_failed works has_failed inside ends did = record {
  held = search rules;
  images = record {
    any_moment = λ tells works' i now.
        subst (λ (k : ℕ). Between L n 1 k (λ j. one_held before.head.count before.kept) payload i) (omega (arith, inside)) (did.images.any_moment tells i now);
    time = search rules;
    shows = search rules;
    untouched = search rules;
  };
  size = search rules;
  causes = search rules;
  calls = search rules;
  free = search rules;
}

pub one_fills : {N : Type 0} (g : Ghosts N) (L n cell : ℕ) (before now : Parts N) (payload : List ℕ) (result : Result (Unit {0}) StoreFail) (had_failed has_failed : Bool) → cell < 1
    → CommitsParts g L n before now payload result
    → FillsCell g.tells L n cell payload (one_view g n before.nv before.head before.kept had_failed) (one_view g n now.nv now.head now.kept has_failed) result
one_fills g L n cell before now payload result had_failed has_failed inside did tells fresh =
    let none : cell ≡ 0 = omega (arith, inside) in
    let front : 0 ≡ cell * (n * (5 + L)) = sym (ap (λ (k : ℕ). k * (n * (5 + L))) none ∙ zero-mul (n * (5 + L))) in
    subst (λ (at : ℕ). Fills (fill L n at (count_of (one_held before.head.count before.kept) + 1, payload)) (told g before.nv) (told g now.nv) (is_ok result)) front
    (subst (λ (c : ℕ). Fills (fill L n 0 (c + 1, payload)) (told g before.nv) (told g now.nv) (is_ok result)) (sym (count_of_one_held before.head.count before.kept)) (did.fills tells (λ worn. fresh (inl worn))))
