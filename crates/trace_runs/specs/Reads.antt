-- What was read of a source, and what may follow it.
use Rattle.std.specs.Prelude.{◌≡◌, ◌≢◌, ℕ, List, [], ◌++◌, Bool, true, false, Option}
use Rattle.std.specs.Io.KnownBytes.{Consumes, IsAtEnd}
use Rattle.bench_base.specs.Causes.{Rose}
use Rattle.trace_runs.specs.declared.{verdict.Input.Input, verdict.Input.TheVariants.Script, verdict.Verdict.Verdict, verdict.Verdict.TheVariants.Unread}

-- these bytes were read of a source; is_all says that its end was seen after them
pub record IsRead (left0 left1 : Option (List ℕ)) : Type 0 where
  pub bytes : List ℕ
  pub is_all : Bool
  pub consumed : Consumes left0 left1 bytes
  pub ended : is_all ≡ true → IsAtEnd left1

-- P of whatever may follow what was read: of nothing, if the end was seen
abbrev pub OfBehind : Bool → (List ℕ → Type 0) → Type 0
OfBehind true P = P []
OfBehind false P = (behind : List ℕ) → P behind

-- P of each text that begins with what was read, and of what follows that
abbrev pub OfTexts : {left0 left1 : Option (List ℕ)} → IsRead left0 left1 → (List ℕ → List ℕ → Type 0) → Type 0
OfTexts r P = OfBehind r.is_all (λ behind. P (r.bytes ++ behind) behind)

-- where the verdict says that this could not be read, its count of faults rose
abbrev pub FailsSo : Input → ℕ → ℕ → Verdict → Type 0
FailsSo input before now v = (n : ℕ) → v ≡ Unread input n → Rose before now

-- it doesn't say that of the script
abbrev pub HasScript : Verdict → Type 0
HasScript v = (n : ℕ) → v ≢ Unread Script n
