-- Rates as a document: the same table as TOML data.
use Rattle.std.specs.Prelude.{ℕ, pos, List, map, codes}
use Rattle.toml.specs.Data.{Data, Members, integer, array, table, member, no_members}
use Rattle.toml.specs.View.{items_of}
use Rattle.host_rates.specs.Tables.{StepTable, ClassTable, RateTable}

abbrev pub number_data : ℕ → Data
number_data n = integer (pos n)

abbrev pub array_data : {A : Type 0} → (A → Data) → List A → Data
array_data f xs = array (items_of (map f xs))

-- a table has its keys in the order of their letters
abbrev pub step_data : StepTable → Data
step_data s = table (member (codes "grams") (number_data s.grams) (member (codes "mills") (array_data number_data s.mills) no_members))

abbrev pub class_data : ClassTable → Data
class_data c = table (member (codes "number") (number_data c.number) (member (codes "steps") (array_data step_data c.steps) no_members))

abbrev pub document_data : RateTable → Members
document_data r = member (codes "class") (array_data class_data r.classes) (member (codes "zones") (number_data r.zones) no_members)
