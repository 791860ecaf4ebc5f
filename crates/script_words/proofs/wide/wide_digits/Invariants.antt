use Rattle.std.proofs.Common.{◌≡◌, ◌^◌, ◌<◌, drop}
use Rattle.std.specs.Str.{all_ascii_digits}
use Rattle.psd_audit.specs.Dates.{read_on}
use Rattle.script_words.proofs.wide.wide_digits.Given as goal

abbrev pub invariant-loop-i : goal.invariant-loop-i
invariant-loop-i l = record {
  small : l.value < 10 ^ l.i;
  value : read_on l.value (drop l.i l.word) ≡ read_on 0 l.word;
  digits : all_ascii_digits (drop l.i l.word) ≡ all_ascii_digits l.word;
}
