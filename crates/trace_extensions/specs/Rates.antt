-- The rates that are left.
use Rattle.std.specs.Prelude.{ℕ, List, drop}
use Rattle.trace_extensions.specs.declared.rates.RatesLeft.{RatesLeft}

abbrev pub left_of : RatesLeft → List ℕ
left_of r = drop r.taken r.bytes.items
