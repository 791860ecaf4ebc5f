-- What contracts see of storages that start together.
use Rattle.std.specs.Prelude.{Bool, List}
use Rattle.nv_file.specs.declared.{file.FileNv.FileNv, starting.Starting.Starting}

-- the storages, in the order of their files
abbrev pub stores_of : Starting → List FileNv
stores_of s = s.stores.items

-- whether the storages are used as they are, after a clean end
abbrev pub are_reused : Starting → Bool
are_reused s = s.are_reused
