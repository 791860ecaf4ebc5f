-- The empty ledger is lawful.
use Rattle.std.proofs.Common.{[], refl, arith}
use Rattle.bench_base.specs.Rules.{Rules}
use Rattle.ledger_terms.specs.Centres.{customer_sum}
use Rattle.ledger_terms.specs.Lawful.{LawfulAt}

pub lawful_nothing : (ρ : Rules) → LawfulAt ρ []
unfolding customer_sum
lawful_nothing ρ = record {
  numbering = tt;
  debits = (tt, λ d low high. record { covered = omega arith; within = omega arith });
  releases = tt;
  refunds = tt;
  registers = (tt, λ d low high. record { one_in_flight = omega arith; equal = refl });
  balances = λ c low high. record { balance = omega arith; limit = omega arith };
  days = tt;
  acceptances = tt;
  prints = (tt, tt);
}
