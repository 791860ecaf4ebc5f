-- The index of jobs, by places for the cells of jobs.
use Rattle.std.specs.Prelude.{◌≡◌, ◌≢◌, ◌<◌, ℕ, ◌+◌, ◌%◌, List, get_or}
use Rattle.host_departments.specs.Rows.{Rows, Keeps}

-- the d-th place for job j
abbrev pub place_of : ℕ → ℕ → ℕ
place_of j d = (j % 2048 + d) % 2048

-- what is there: 0, or one more than a cell
abbrev pub at_place : List ℕ → ℕ → ℕ → ℕ
at_place index j d = get_or index (place_of j d) 0

-- who goes from place to place, as far as none is empty, finds cell k for job j
abbrev pub IsFound : List ℕ → ℕ → ℕ → Type 0
IsFound index j k = (d : ℕ) → d < 2048 → ((e : ℕ) → e < d → at_place index j e ≢ k + 1) → at_place index j d ≢ 0

-- THE INDEX IS WHAT THE ROWS SAY: so each job that is kept is found
abbrev pub IsIndexed : List ℕ → Rows → Type 0
IsIndexed index rows = (k j : ℕ) → Keeps rows k j → IsFound index j k

-- what is at a place stays there
abbrev pub Keep : List ℕ → List ℕ → Type 0
Keep old new = (i : ℕ) → get_or old i 0 ≢ 0 → get_or new i 0 ≡ get_or old i 0
