use Rattle.std.proofs.Common.{inl, List, refl, sym, subst}
use Rattle.trace_runs.specs.declared.places.Places.{Places}
use Rattle.trace_runs.specs.Places.{Has}
use Rattle.trace_runs.proofs.Reaching.{has_drop}
use Rattle.trace_runs.proofs.places.has.Goals as goal

pub returns-then-place-places : goal.returns-then-place-places
returns-then-place-places c = (
  λ yes. has_drop c.args.all.now c.loop-at.at c.args.place
      (subst (λ (l : List Places). Has l c.args.place) (sym c.places_in-places.ensures) (inl (c.if-places-place.true, c.if-place-places.true))),
  λ has. refl,
)
