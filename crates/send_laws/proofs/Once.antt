-- A job has one order.
use Rattle.std.proofs.Common.{◌≡◌, ℕ, List, [], ◌∷◌, Some, None, refl, arith}
use Rattle.std.specs.Prelude.{All, Contains}
use Rattle.std.proofs.lemmas.Bool.{eq-eqb}
use Rattle.std.proofs.lemmas.List.Elements.{All-nil, All-cons, All-contains, All-weaker}
use Rattle.bench_base.specs.declared.{ledger.Commit.Commit, ledger.Commit.TheVariants.Ordered}
use Rattle.bench_base.specs.Jobs.{job_of}
use Rattle.bench_base.specs.Rules.{Rules}
use Rattle.bench_base.proofs.Facts.{none_if}
use Rattle.ledger_laws.proofs.Good.{Good}
use Rattle.ledger_laws.proofs.Jobs.{jobs}
use Rattle.send_laws.specs.Orders.{ordered_postage}
use Rattle.send_laws.proofs.Kept.{ordered_more}

module _ (ρ : Rules) where
  -- an order is the one that its job has among these commits
  abbrev IsTheOrder : List Commit → Commit → Type 0
  IsTheOrder C (Ordered j d p a k) = ordered_postage j C ≡ Some a
  IsTheOrder C _ = Unit {0}

  new_order : (c : Commit) (C : List Commit) → Good ρ (c ∷ C) → IsTheOrder (c ∷ C) c
  new_order (Ordered j d p a k) C good =
      let next = good.0.next in
      let none : job_of j C ≡ None = none_if (job_of j C) (λ b is. let le = (jobs ρ C good.1).job_le j b is in omega (arith, le, next)) in
      rw (eq-eqb j j refl, none) refl
  new_order _ C good = tt

  still_it : (c x : Commit) (C : List Commit) → IsTheOrder C x → IsTheOrder (c ∷ C) x
  still_it c (Ordered j d p a k) C is = ordered_more j a c C is
  still_it c _ C is = tt

  all_orders : (C : List Commit) → Good ρ C → All (IsTheOrder C) C
  all_orders [] good = All-nil (IsTheOrder [])
  all_orders (c ∷ C) good =
      All-cons (IsTheOrder (c ∷ C)) c C (new_order c C good) (All-weaker (IsTheOrder C) (IsTheOrder (c ∷ C)) (λ x is. still_it c x C is) C (all_orders C good.1))

  pub one_order : (C : List Commit) → Good ρ C → (j d p a k : ℕ) → Contains C (Ordered j d p a k) → ordered_postage j C ≡ Some a
  one_order C good j d p a k within = All-contains (IsTheOrder C) C (Ordered j d p a k) (all_orders C good) within
