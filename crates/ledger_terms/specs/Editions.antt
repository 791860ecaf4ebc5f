-- Versions of the rules: each allows what the one before it does.
use Rattle.std.specs.Prelude.{◌≤◌, List, [], ◌∷◌}
use Rattle.bench_base.specs.Rules.{Rules, IsVersion}
use Rattle.ledger_terms.specs.Rulings.{buys_limit}

-- the rules are ones that today's marks and messages can carry
pub record IsCarried (ρ : Rules) : Type 0 where
  pub version : IsVersion ρ.version
  pub total : ρ.total ≤ buys_limit ρ.version

-- the second allows what the first does
pub record Allows (first second : Rules) : Type 0 where
  pub total : first.total ≤ second.total
  pub version : first.version ≤ second.version
  pub grace : first.grace ≤ second.grace
  pub small : first.small ≤ second.small

-- the rules follow these versions, the newest first
abbrev pub Follows : List Rules → Rules → Type 0
Follows [] ρ = IsCarried ρ
Follows (σ ∷ σs) ρ = IsCarried ρ × Allows σ ρ

abbrev pub Editions : List Rules → Type 0
Editions [] = Unit {0}
Editions (ρ ∷ ρs) = Follows ρs ρ × Editions ρs
