-- What an auditor notes of a turn.
use Rattle.std.specs.Prelude.{◌≡◌}
use Rattle.node_turns.specs.Turns.{sent_in}
use Rattle.node_turns.specs.declared.turn.Turn.{Turn}
use Rattle.trace_nodes.specs.Released.{released_in}
use Rattle.trace_bench.specs.declared.noting.Noted.{Noted}

-- the turn is reported so, and this is what it sent and released
abbrev pub IsNoted : {T : Type 0} → (T → Turn → Type 0) → Noted T → Turn → Type 0
IsNoted IsOf noted turn = IsOf noted.told turn × (noted.sent ≡ sent_in turn.entries) × (noted.released ≡ released_in turn.entries)
