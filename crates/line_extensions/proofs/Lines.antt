-- A run with an extension stops at the line where a commit of the extension's storage failed, which is the last; and each line is what its step says.
use Rattle.std.proofs.Common.{◌≡◌, ◌↔◌, ◌<◌, inl, inr, List, [], ◌∷◌, ◌++◌, length, refl, sym, ap, ◌∙◌, subst, arith, Option, ℕ}
use Rattle.std.specs.List.{AllByRecursion}
use Rattle.line_runs.specs.Trace.{Lines, Reads}
use Rattle.line_runs.specs.Lines.{IsCutOff}
use Rattle.line_runs.specs.Runs.{EndsIn, Replayed}
use Rattle.line_runs.specs.declared.status.Status.TheVariants as status
use Rattle.line_runs.specs.declared.{status.SideStatus.SideStatus, status.SideStatus.TheVariants.Run, status.SideStatus.TheVariants.Stopped}
use Rattle.line_extensions.specs.Desks.{side_lines}
use Rattle.line_extensions.specs.SideTrace.{SideStep, Plain, Own, Broken, IsBroken}
use Rattle.line_extensions.specs.declared.extension.Extension.{Ghosts}
use Rattle.line_extensions.specs.Stops.{HasBroken}

-- == each line of a run is what its step says ==

module _ {D : Type 0} (l : Lines D) where
  only_read : (done : List D) (last : D) → done ≡ last ∷ [] → Reads l last → AllByRecursion (Reads l) done
  only_read done last only reads = subst (λ (x : List D). AllByRecursion (Reads l) x) (sym only) (reads, tt)

  none_read : (done : List D) → done ≡ [] → AllByRecursion (Reads l) done
  none_read done none = subst (λ (x : List D). AllByRecursion (Reads l) x) (sym none) tt

  last_read : (outcome : SideStatus) (number : ℕ) (bytes : List ℕ) (end : Type 0) (text : List ℕ) (done : List D) → EndsIn l outcome number bytes end text done → AllByRecursion (Reads l) done
  last_read (Run status.Done) number bytes end text done is = only_read done is.0.last is.0.only is.0.reads
  last_read (Run (status.Script line)) number bytes end text done (few, inl bad) = none_read done bad.1
  last_read (Run (status.Script line)) number bytes end text done (few, inr out) = only_read done out.1.last out.1.only out.1.reads
  last_read (Run status.TooLong) number bytes end text done (inl none) = none_read done none.2
  last_read (Run status.TooLong) number bytes end text done (inr out) = only_read done out.1.last out.1.only out.1.reads
  last_read (Run status.ReadFault) number bytes end text done is = none_read done is.0
  last_read (Run status.WriteFault) number bytes end text done is = only_read done is.0.last is.0.only is.0.reads
  last_read (Run status.Memory) number bytes end text done is = none_read done is.0
  last_read (Run status.Words) number bytes end text done is = absurd is
  last_read Stopped number bytes end text done is = only_read done is.0.last is.0.only is.0.reads

  both_read : (a b : List D) → AllByRecursion (Reads l) a → AllByRecursion (Reads l) b → AllByRecursion (Reads l) (a ++ b)
  both_read [] b first second = second
  both_read (d ∷ a) b first second = (first.0, both_read a b first.1 second)

-- == where a commit failed ==

-- a line where one failed is the last
abbrev pub BrokenLast : {L : Type 0} → List (SideStep L) → Type 0
BrokenLast [] = Unit {0}
BrokenLast (Plain d ∷ rest) = BrokenLast rest
BrokenLast (Own line own steps texts ∷ rest) = BrokenLast rest
BrokenLast (Broken line own steps ∷ rest) = rest ≡ []

module _ {K T : Type 0} (k : Ghosts K T) where
  abbrev Side : Type 0
  Side = SideStep k.Own

  abbrev Read : Lines Side
  Read = side_lines k

  goes_last : (a b : List Side) → AllByRecursion Read.GoesOn a → BrokenLast b → BrokenLast (a ++ b)
  goes_last [] b goes last = last
  goes_last (Plain d ∷ a) b goes last = goes_last a b goes.1 last
  goes_last (Own line own' steps texts ∷ a) b goes last = goes_last a b goes.1 last
  goes_last (Broken line own' steps ∷ a) b goes last = absurd goes.0

  either_broken : (a b : List Side) → AllByRecursion Read.GoesOn a → HasBroken (a ++ b) → HasBroken b
  either_broken [] b goes broke = broke
  either_broken (Plain d ∷ a) b goes broke = either_broken a b goes.1 broke
  either_broken (Own line own' steps texts ∷ a) b goes broke = either_broken a b goes.1 broke
  either_broken (Broken line own' steps ∷ a) b goes broke = absurd goes.0

  later_broken : (a b : List Side) → HasBroken b → HasBroken (a ++ b)
  later_broken [] b broke = broke
  later_broken (Plain d ∷ a) b broke = later_broken a b broke
  later_broken (Own line own' steps texts ∷ a) b broke = later_broken a b broke
  later_broken (Broken line own' steps ∷ a) b broke = tt

  one_last : (d : Side) → BrokenLast (d ∷ [])
  one_last (Plain d) = tt
  one_last (Own line own' steps texts) = tt
  one_last (Broken line own' steps) = refl

  one_broken : (d : Side) → HasBroken (d ∷ []) → IsBroken d
  one_broken (Plain d) broke = broke
  one_broken (Own line own' steps texts) broke = broke
  one_broken (Broken line own' steps) broke = tt

  is_broken : (d : Side) → IsBroken d → HasBroken (d ∷ [])
  is_broken (Plain d) broke = broke
  is_broken (Own line own' steps texts) broke = broke
  is_broken (Broken line own' steps) broke = tt

  end_whole : (d : Side) → IsBroken d → Read.IsEnd d → ⊥
  end_whole (Plain d) broke end = broke
  end_whole (Own line own' steps texts) broke end = broke
  end_whole (Broken line own' steps) broke end = end

  goes_one : (d : Side) → IsBroken d → Read.GoesOn d → ⊥
  goes_one (Plain d) broke goes = broke
  goes_one (Own line own' steps texts) broke goes = broke
  goes_one (Broken line own' steps) broke goes = goes

  no_more : (part more : List ℕ) → [] ≡ part ++ more → 0 < length more → ⊥
  no_more [] more is some = let none : length more ≡ 0 = sym (ap (λ (l : List ℕ). length l) is) in omega (arith, none, some)
  no_more (c ∷ part) more is some = absurd (cc)

  told_one : (d : Side) → IsBroken d → (text : List ℕ) → IsCutOff text (Read.text_for d) → ⊥
  told_one (Plain d) broke text cut = broke
  told_one (Own line own' steps texts) broke text cut = broke
  told_one (Broken line own' steps) broke text cut = no_more text cut.0 cut.1 cut.2

  -- what the last line says of it
  record LastBreaks (outcome : SideStatus) (done : List Side) : Type 0 where
    last : BrokenLast done
    stopped : outcome ≡ Stopped → HasBroken done
    only : HasBroken done → outcome ≡ Stopped

  none_breaks : (outcome : SideStatus) (done : List Side) → (outcome ≡ Stopped → ⊥) → done ≡ [] → LastBreaks outcome done
  none_breaks outcome done other none = subst (λ (x : List Side). LastBreaks outcome x) (sym none) (record { last = tt; stopped = λ is. other is; only = λ broke. absurd broke })

  one_breaks : (outcome : SideStatus) (done : List Side) (d : Side) → (outcome ≡ Stopped → ⊥) → done ≡ d ∷ [] → (IsBroken d → ⊥) → LastBreaks outcome done
  one_breaks outcome done d other only whole =
      subst (λ (x : List Side). LastBreaks outcome x) (sym only) (record { last = one_last d; stopped = λ is. absurd (other is); only = λ broke. absurd (whole (one_broken d broke)) })

  last_breaks : (outcome : SideStatus) (number : ℕ) (bytes : List ℕ) (end : Type 0) (text : List ℕ) (done : List Side) → EndsIn Read outcome number bytes end text done → LastBreaks outcome done
  last_breaks (Run status.Done) number bytes end text done is = one_breaks _ done is.0.last (λ e. cc) is.0.only (λ broke. end_whole is.0.last broke is.1)
  last_breaks (Run (status.Script line)) number bytes end text done (few, inl bad) = none_breaks _ done (λ e. cc) bad.1
  last_breaks (Run (status.Script line)) number bytes end text done (few, inr out) = one_breaks _ done out.1.last (λ e. cc) out.1.only (λ broke. goes_one out.1.last broke out.1.goes_on)
  last_breaks (Run status.TooLong) number bytes end text done (inl none) = none_breaks _ done (λ e. cc) none.2
  last_breaks (Run status.TooLong) number bytes end text done (inr out) = one_breaks _ done out.1.last (λ e. cc) out.1.only (λ broke. goes_one out.1.last broke out.1.goes_on)
  last_breaks (Run status.ReadFault) number bytes end text done is = none_breaks _ done (λ e. cc) is.0
  last_breaks (Run status.WriteFault) number bytes end text done is = one_breaks _ done is.0.last (λ e. cc) is.0.only (λ broke. told_one is.0.last broke text is.1)
  last_breaks (Run status.Memory) number bytes end text done is = none_breaks _ done (λ e. cc) is.0
  last_breaks (Run status.Words) number bytes end text done is = absurd is
  last_breaks Stopped number bytes end text done is =
      subst (λ (x : List Side). LastBreaks Stopped x) (sym is.0.only) (record { last = one_last is.0.last; stopped = λ e. is_broken is.0.last is.1; only = λ broke. refl })

  -- a run is stopped at a line where a commit failed, which is the last
  pub record AtLast (outcome : SideStatus) (trace : List Side) : Type 0 where
    pub last : BrokenLast trace
    pub stops : (outcome ≡ Stopped) ↔ HasBroken trace

  at_last : (outcome : SideStatus) (trace done : List Side) → AllByRecursion Read.GoesOn trace → LastBreaks outcome done → AtLast outcome (trace ++ done)
  at_last outcome trace done goes breaks = record {
    last = goes_last trace done goes breaks.last;
    stops = (λ is. later_broken trace done (breaks.stopped is), λ broke. breaks.only (either_broken trace done goes broke));
  }

  -- the same steps, with more said of them by their lines
  pub said_of_lines : (P Q : List Side → Type 0) (outcome : SideStatus) (a b t u : Option (List ℕ))
      → ((trace : List Side) → AllByRecursion (Reads Read) trace → AtLast outcome trace → P trace → Q trace) → Replayed Read outcome P a b t u → Replayed Read outcome Q a b t u
  said_of_lines P Q outcome a b t u more r = record {
    trace = r.trace;
    each = r.each;
    go_on = r.go_on;
    rest = r.rest;
    done = r.done;
    text = r.text;
    few = r.few;
    ends = r.ends;
    consumed = r.consumed;
    appended = r.appended;
    did = more (r.trace ++ r.done) (both_read Read r.trace r.done r.each (last_read Read outcome _ _ _ _ r.done r.ends))
        (at_last outcome r.trace r.done r.go_on (last_breaks outcome _ _ _ _ r.done r.ends)) r.did;
  }

  pub nothing_done : (outcome : SideStatus) → outcome ≡ Run status.Words → AtLast outcome []
  nothing_done outcome is = record { last = tt; stops = (λ stopped. absurd (other outcome is stopped), λ broke. absurd broke) }
    where
      other : (o : SideStatus) → o ≡ Run status.Words → o ≡ Stopped → ⊥
      other o is stopped = let wrong : Run status.Words ≡ Stopped = sym is ∙ stopped in cc
