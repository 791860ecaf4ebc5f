-- The contents that a storage in memory has had, from its record.
use Rattle.std.specs.Prelude.{◌⊎◌, ℕ, ◌+◌, ◌≤◌, ◌<◌, List, [], ◌∷◌, length, take, replicate, get_or, Bool, true, false, ◌||◌, ◌&&◌, nat_le, nat_lt}
use Rattle.nv_model.specs.Bytes.{laid, range}
use Rattle.nv_model.specs.Moments.{IsImage}
use Rattle.nv_model.specs.declared.{step.Step.Step, step.Step.TheVariants.Written, step.Step.TheVariants.Torn, step.Step.TheVariants.Synced}

-- the state at a moment: what a read gives, the content after the last sync or restart, and the places written since
pub record Stand : Type 0 where
  pub content : List ℕ
  pub base : List ℕ
  pub written : ℕ → Bool

-- a place of a range
abbrev pub within : ℕ → ℕ → ℕ → Bool
within at n i = nat_le at i && nat_lt i (at + n)

-- one call of the record: a write left these of the written bytes in its range, a sync that failed filled a range, or a sync or restart succeeded
abbrev pub after_step : List ℕ → Step → Stand → Stand
after_step bytes (Written at n first) s = record
    { content = laid s.content at (range bytes first n); base = s.base; written = λ i. s.written i || within at n i }
after_step bytes (Torn at n byte) s = record { content = laid s.content at (replicate n byte); base = s.base; written = s.written }
after_step bytes Synced s = record { content = s.content; base = s.content; written = λ i. false }

abbrev pub replay : List ℕ → List Step → Stand → Stand
replay bytes [] s = s
replay bytes (step ∷ steps) s = replay bytes steps (after_step bytes step s)

-- at first
abbrev pub at_first : List ℕ → Stand
at_first start = record { content = start; base = start; written = λ i. false }

-- the state after k calls of the record
abbrev pub stood : List ℕ → List Step → List ℕ → ℕ → Stand
stood bytes steps start k = replay bytes (take k steps) (at_first start)

-- the images of the moment after k calls of the record; at its end the marks count too
abbrev pub marked : (ℕ → Bool) → List Bool → ℕ → Bool
marked written marks i = written i || get_or marks i false

-- an image since the moment t: one of a moment from t on that the record passed, or one of now
pub record Passed (bytes : List ℕ) (steps : List Step) (start : List ℕ) (t : ℕ) (c : List ℕ) : Type 0 where
  pub k : ℕ
  pub from : t ≤ k
  pub passed : k < length steps
  pub image : IsImage (stood bytes steps start k).base (stood bytes steps start k).written c

pub record Stands (bytes : List ℕ) (steps : List Step) (start : List ℕ) (marks : List Bool) (t : ℕ) (c : List ℕ) : Type 0 where
  pub from : t ≤ length steps
  pub image : IsImage (replay bytes steps (at_first start)).base (marked (replay bytes steps (at_first start)).written marks) c

abbrev pub SinceMoment : List ℕ → List Step → List ℕ → List Bool → ℕ → List ℕ → Type 0
SinceMoment bytes steps start marks t c = Passed bytes steps start t c ⊎ Stands bytes steps start marks t c

-- whether the bytes of each write stand among the first n of the record
abbrev pub fits_all : ℕ → List Step → Bool
fits_all n [] = true
fits_all n (Written at len first ∷ steps) = nat_le (first + len) n && fits_all n steps
fits_all n (Torn at len byte ∷ steps) = fits_all n steps
fits_all n (Synced ∷ steps) = fits_all n steps
