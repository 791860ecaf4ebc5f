-- What the record's answers say of the act.
use Rattle.std.proofs.Common.{◌≡◌, ℕ, ℤ, ◌<◌, List, Ok, rules}
use Rattle.bench_base.specs.Rules.{Rules}
use Rattle.bench_base.specs.declared.words.Kind.{Kind}
use Rattle.bench_base.specs.declared.refusals.DevRefusal.TheVariants as no
use Rattle.psd_state.specs.State.{State}
use Rattle.psd_state.specs.Answers.{ask_answer, ask_rows, waiting_kind}
use Rattle.bench_base.proofs.Rows.{passes}
use Rattle.psd_state.proofs.Keeping.{unless_passes}
use Rattle.psd_state.proofs.Passed.{may_ask}

-- a request is numbered only below the last number
pub asks_below : (ρ : Rules) (s : State) (k : Kind) (who a : ℕ) (today : ℤ) (x : State × List ℕ) → ask_answer ρ s k who a today ≡ Ok x → s.number < 4294967295
asks_below ρ s k who a today x e =
    let idle = unless_passes (waiting_kind s.pending) no.Busy _ x e in
    (may_ask ρ s k a today (passes (ask_rows ρ s k a today) _ x (search rules) idle.1).0).number
