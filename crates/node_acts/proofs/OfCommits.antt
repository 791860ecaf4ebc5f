-- What holds of an act's commit holds of it however the act is reported.
use Rattle.bench_base.specs.declared.{ledger.Commit.Commit, events.Reply.Reply}
use Rattle.node_acts.specs.declared.{act.Act.Act, act.Act.TheVariants.Refuse, act.Act.TheVariants.Tell, act.Act.TheVariants.Commits, said.Said.Said}
use Rattle.node_acts.specs.Acts.{OfCommit}
use Rattle.node_acts.specs.Said.{saying}

-- what follows of each commit
pub of_commit : {X F A : Type 0} (P Q : Commit → X → Type 0) (act : Act X F A) → OfCommit P act → ((c : Commit) (x : X) → P c x → Q c x) → OfCommit Q act
of_commit P Q (Refuse x) holds follows = tt
of_commit P Q (Tell a) holds follows = tt
of_commit P Q (Commits c x a) holds follows = follows c x holds

pub of_both : {X F A : Type 0} (P Q : Commit → X → Type 0) (act : Act X F A) → OfCommit P act → OfCommit Q act → OfCommit (λ c x. P c x × Q c x) act
of_both P Q (Refuse x) one other = tt
of_both P Q (Tell a) one other = tt
of_both P Q (Commits c x a) one other = (one, other)

pub commit_says : {X F A : Type 0} (P : Commit → X → Type 0) (refusal : F → Reply) (say : A → Said) (act : Act X F A) → OfCommit P act → OfCommit P (saying refusal say act)
commit_says P refusal say (Refuse x) holds = tt
commit_says P refusal say (Tell a) holds = tt
commit_says P refusal say (Commits c x a) holds = holds

pub said_commit : {X F A : Type 0} (P : Commit → X → Type 0) (refusal : F → Reply) (say : A → Said) (act : Act X F A) → OfCommit P (saying refusal say act) → OfCommit P act
said_commit P refusal say (Refuse x) holds = tt
said_commit P refusal say (Tell a) holds = tt
said_commit P refusal say (Commits c x a) holds = holds
