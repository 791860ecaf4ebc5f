-- What a call of a node on its storage answers, by its act.
use Rattle.std.specs.Prelude.{Result, Ok, Err, if◌then◌else◌}
use Rattle.bench_base.specs.declared.{refusals.Fail.Fail, refusals.Fail.TheVariants.Refused, refusals.Fail.TheVariants.Store, refusals.StoreFail.TheVariants.Worn}
use Rattle.node_acts.specs.declared.{act.Act.Act, act.Act.TheVariants.Refuse, act.Act.TheVariants.Tell, act.Act.TheVariants.Commits}
use Rattle.node_acts.specs.Views.{Counting}
use Rattle.node_acts.specs.Acts.{is_full}

-- where its commit, if it has one, is made
abbrev pub answer_of : {X F A : Type 0} → Act X F A → Result A (Fail F)
answer_of (Refuse x) = Err (Refused x)
answer_of (Tell a) = Ok a
answer_of (Commits c x a) = Ok a

-- where the storage does not fail
abbrev pub result_in : {S X F A : Type 0} → Counting S X → S → Act X F A → Result A (Fail F)
result_in n s act = if is_full n s act then Err (Store Worn) else answer_of act
