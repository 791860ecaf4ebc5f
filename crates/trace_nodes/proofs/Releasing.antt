-- The marks that an event of a node releases: at most one, whatever is replied.
use Rattle.std.proofs.Common.{◌≡◌, ◌⊎◌, inl, inr, ℕ, List, [], ◌∷◌, ◌++◌, Option, Some, None, Bool, true, false, if◌then◌else◌, ap}
use Rattle.bench_base.specs.declared.{words.Node.Node, ledger.Commit.Commit, ledger.Entry.Entry, events.Reply.Reply}
use Rattle.bench_base.specs.declared.ledger.Entry.TheVariants as entry
use Rattle.bench_base.specs.declared.events.Reply.TheVariants as r
use Rattle.bench_base.specs.Plans.{Plan, refuse, told}
use Rattle.bench_base.specs.Replies.{ReplyClass, Did, Refused, Armed, CameOn, WentOff, LostPower, Faulted, WasDamaged, PrinterFailed, RatesFailed, class_of}
use Rattle.node_acts.specs.declared.{act.Act.Act, act.Act.TheVariants.Refuse, act.Act.TheVariants.Tell, act.Act.TheVariants.Commits, said.Said.Said, said.GivenOut.GivenOut, said.GivenOut.TheVariants.Released, said.GivenOut.TheVariants.Printed}
use Rattle.node_acts.specs.Acts.{is_full}
use Rattle.node_acts.specs.Views.{Counting, View}
use Rattle.node_acts.specs.Plans.{with_commit, with_torn, after, after_told}
use Rattle.node_acts.specs.Said.{with_sent, with_given, said_plan, seen_plan}
use Rattle.node_turns.specs.Turns.{in_order}
use Rattle.trace_nodes.specs.Released.{released_in, IsOnlyRelease}

-- the turn of these entries shows all that they release
abbrev pub Shows : List Entry → Type 0
Shows T = IsOnlyRelease (released_in (in_order T)) T

none_shown : Shows []
none_shown mark = (λ is. absurd is, λ is. cc)

-- a plan whose entries show so, with a commit or without
abbrev pub ShowsAll : List Entry → Type 0
ShowsAll T = (o : Option Commit) → Shows (T ++ with_commit o [])

only : (x : List ℕ) (mark : List ℕ) → (x ≡ mark) ⊎ ⊥ → Some x ≡ Some mark
only x mark (inl same) = ap (λ (y : List ℕ). Some y) same
only x mark (inr none) = absurd none

back : (x : List ℕ) (mark : List ℕ) → Some x ≡ Some mark → (x ≡ mark) ⊎ ⊥
back x mark is = let same : x ≡ mark = cc in inl same

said_all : (s : Option (List ℕ)) (g : Option GivenOut) → ShowsAll (with_sent s ++ with_given g)
said_all None None None = none_shown
said_all None None (Some c) = λ mark. (λ is. absurd is, λ is. cc)
said_all None (Some (Printed x)) None = λ mark. (λ is. absurd is, λ is. cc)
said_all None (Some (Printed x)) (Some c) = λ mark. (λ is. absurd is, λ is. cc)
said_all None (Some (Released x)) None = λ mark. (only x.mark mark, back x.mark mark)
said_all None (Some (Released x)) (Some c) = λ mark. (only x.mark mark, back x.mark mark)
said_all (Some note) None None = λ mark. (λ is. absurd is, λ is. cc)
said_all (Some note) None (Some c) = λ mark. (λ is. absurd is, λ is. cc)
said_all (Some note) (Some (Printed x)) None = λ mark. (λ is. absurd is, λ is. cc)
said_all (Some note) (Some (Printed x)) (Some c) = λ mark. (λ is. absurd is, λ is. cc)
said_all (Some note) (Some (Released x)) None = λ mark. (only x.mark mark, back x.mark mark)
said_all (Some note) (Some (Released x)) (Some c) = λ mark. (only x.mark mark, back x.mark mark)

none_all : ShowsAll []
none_all o = said_all None None o

torn_shown : (o : Option Commit) (m : Node) → Shows (with_torn o m [])
torn_shown None m = none_shown
torn_shown (Some c) m = λ mark. (λ is. absurd is, λ is. cc)

-- so does what is added, whatever is replied
pub plan_shows : (p : Plan) → ShowsAll p.after → (reply : Reply) → Shows (after p reply [])
plan_shows p all reply = by (class_of reply)
  where
    by : (t : ReplyClass) → Shows (after_told p t [])
    by Did = all p.commit
    by Refused = all p.commit
    by (Armed m) = all p.commit
    by (CameOn m k) = λ mark. (λ is. absurd is, λ is. cc)
    by (WentOff m) = all p.commit
    by (LostPower m) = torn_shown p.commit m
    by (Faulted m) = torn_shown p.commit m
    by (WasDamaged m) = all p.commit
    by (PrinterFailed j) = none_all p.commit
    by RatesFailed = none_shown

-- the plan of a call, of an `on`, of an `off`
pub call_shows : {S X : Type 0} (n : Counting S X) (m : Node) (v : View S) (act : Act X Reply Said) → ShowsAll (seen_plan n m v act).after
call_shows {X = X} n m v act = by v.on (is_full n v.state act)
  where
    said : (a : Act X Reply Said) → ShowsAll (said_plan a).after
    said (Refuse x) = none_all
    said (Tell a) = said_all a.sent a.given
    said (Commits c x a) = said_all a.sent a.given

    by : (on full : Bool) → ShowsAll (if on then (if full then refuse (r.Worn m) else said_plan act) else refuse (r.OffNode m)).after
    by true true = none_all
    by true false = said act
    by false full = none_all

pub on_shows : (m : Node) (on : Bool) (k : ℕ) → ShowsAll (if on then refuse (r.OnAlready m) else told (r.Up m k) (entry.Up m k ∷ [])).after
on_shows m true k o = none_all o
on_shows m false k None = λ mark. (λ is. absurd is, λ is. cc)
on_shows m false k (Some c) = λ mark. (λ is. absurd is, λ is. cc)

pub off_shows : (m : Node) (on : Bool) → ShowsAll (if on then told (r.Down m) (entry.Down m ∷ []) else refuse (r.OffNode m)).after
off_shows m true None = λ mark. (λ is. absurd is, λ is. cc)
off_shows m true (Some c) = λ mark. (λ is. absurd is, λ is. cc)
off_shows m false o = none_all o

pub cut_shows : (m : Node) → ShowsAll (refuse (r.CutSet m)).after
cut_shows m = none_all
