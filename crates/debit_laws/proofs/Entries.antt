-- How many commits more count after a reply: none or one.
use Rattle.std.proofs.Common.{◌≡◌, ◌⊎◌, inl, inr, ℕ, ◌+◌, Bool, true, false, cond, List, [], ◌∷◌, ◌++◌, Option, Some, None, refl, ◌∙◌}
use Rattle.std.specs.Prelude.{◌==◌}
use Rattle.bench_base.specs.declared.{words.Node.Node, ledger.Commit.Commit, ledger.Entry.Entry}
use Rattle.bench_base.specs.declared.ledger.Entry.TheVariants as e
use Rattle.bench_base.specs.Plans.{Plan}
use Rattle.bench_base.specs.Ledger.{Ledger, count_of, torn_of, at_up, counted}
use Rattle.bench_base.specs.Replies.{ReplyClass, Did, Refused, Armed, CameOn, WentOff, LostPower, Faulted, WasDamaged, PrinterFailed, RatesFailed}
use Rattle.node_acts.specs.Plans.{with_commit, with_torn, after_told}
use Rattle.debit_laws.specs.Debits.{IsOneMore}

-- no commit counts by this entry, and none by any of these
abbrev pub IsQuiet : Entry → Type 0
IsQuiet (e.Commit c) = ⊥
IsQuiet (e.Up n k) = ⊥
IsQuiet _ = Unit {0}

abbrev pub AllQuiet : List Entry → Type 0
AllQuiet [] = Unit {0}
AllQuiet (k ∷ l) = IsQuiet k × AllQuiet l

quiet_same : (k : Entry) (H : Ledger) → IsQuiet k → counted (k ∷ H) ≡ counted H
quiet_same (e.Commit c) H quiet = absurd quiet
quiet_same (e.Up n k) H quiet = absurd quiet
quiet_same _ H quiet = refl

all_same : (l : List Entry) (H : Ledger) → AllQuiet l → counted (l ++ H) ≡ counted H
all_same [] H quiet = refl
all_same (k ∷ l) H quiet = quiet_same k (l ++ H) quiet.0 ∙ all_same l H quiet.1

pub up_more : (w : Option Commit) (n : Node) (k : ℕ) (C : List Commit) → IsOneMore C (at_up w n k C)
up_more None n k C = inl refl
up_more (Some c) n k C = go (k == count_of n C + 1)
  where
    go : (b : Bool) → IsOneMore C (cond b (c ∷ C) C)
    go true = inr (c, refl)
    go false = inl refl

commit_more : (w : Option Commit) (H : Ledger) → IsOneMore (counted H) (counted (with_commit w H))
commit_more None H = inl refl
commit_more (Some c) H = inr (c, refl)

torn_same : (w : Option Commit) (m : Node) (H : Ledger) → counted (with_torn w m H) ≡ counted H
torn_same None m H = refl
torn_same (Some c) m H = refl

as_many : (before after counts : List Commit) → after ≡ counts → IsOneMore before counts → IsOneMore before after
as_many before after counts same (inl is) = inl (same ∙ is)
as_many before after counts same (inr more) = inr (more.0, same ∙ more.1)

-- after what the plan does where nothing fails, none or one commit more counts
abbrev pub IsTame : Ledger → Plan → Type 0
IsTame H p = IsOneMore (counted H) (counted (p.after ++ with_commit p.commit H))

pub quiet_tame : (H : Ledger) (p : Plan) → AllQuiet p.after → IsTame H p
quiet_tame H p quiet = as_many (counted H) (counted (p.after ++ with_commit p.commit H)) (counted (with_commit p.commit H)) (all_same p.after (with_commit p.commit H) quiet) (commit_more p.commit H)

-- whatever the event is reported as
pub class_more : (p : Plan) (t : ReplyClass) (H : Ledger) → IsTame H p → IsOneMore (counted H) (counted (after_told p t H))
class_more p Did H tame = tame
class_more p Refused H tame = tame
class_more p (Armed m) H tame = tame
class_more p (CameOn m k) H tame = up_more (torn_of m H) m k (counted H)
class_more p (WentOff m) H tame = tame
class_more p (LostPower m) H tame = inl (torn_same p.commit m H)
class_more p (Faulted m) H tame = inl (torn_same p.commit m H)
class_more p (WasDamaged m) H tame = tame
class_more p (PrinterFailed j) H tame = commit_more p.commit H
class_more p RatesFailed H tame = inl refl
