use Rattle.std.proofs.Common.{◌≡◌, take}
use Rattle.std.specs.Prelude.{All, string_bytes}
use Rattle.audit_words.specs.Shown.{IsPrintable, shown_bytes}
use Rattle.audit_words.proofs.showing.shown.Given as goal

abbrev pub invariant-loop-at : goal.invariant-loop-at
invariant-loop-at l = record {
  exact : string_bytes l.text ≡ shown_bytes (take l.at l.bytes);
  printable : All IsPrintable (string_bytes l.text);
}
