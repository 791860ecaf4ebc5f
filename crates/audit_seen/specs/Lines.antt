-- Which lines are marks.
use Rattle.std.specs.Prelude.{◌≡◌, ℕ, List, length, map, IsOk}
use Rattle.std.specs.Char.{to_ascii_lowercase}
use Rattle.bench_base.specs.Table.{IsBytes}
use Rattle.indicium.specs.Marks as marks
use Rattle.script_words.specs.Words.{hex_word}

-- the line writes these 64 bytes, two hexadecimal digits each, in either case
pub record IsWritten (line mark : List ℕ) : Type 0 where
  pub digits : map to_ascii_lowercase line ≡ hex_word mark
  pub long : length mark ≡ 64
  pub bytes : IsBytes mark

-- THE LINE IS THIS MARK: it writes its bytes, and these read as a mark of either version
pub record IsMarkOf (line mark : List ℕ) : Type 0 where
  pub written : IsWritten line mark
  pub reads : IsOk (marks.read_mark mark)
