-- What a plan records beside its commit: entries that count nothing and open nothing, two at most; or an Up, with the count of the ledger.
-- It answers no failure, and no print but one of a given job.
use Rattle.std.proofs.Common.{◌≡◌, ℕ, List, [], ◌∷◌, Option, Some, None, Bool, true, false, true≢false, refl, sym, ◌∙◌, ap}
use Rattle.std.specs.Prelude.{◌&&◌, not}
use Rattle.std.proofs.lemmas.Bool.{and_parts}
use Rattle.std.proofs.lemmas.Option.{same_Some, none-some}
use Rattle.bench_base.specs.declared.{words.Node.Node, ledger.Entry.Entry, events.Event.Event, events.Reply.Reply, questions.Report.Report}
use Rattle.bench_base.specs.declared.ledger.Entry.TheVariants as e
use Rattle.bench_base.specs.declared.events.Event.TheVariants as ev
use Rattle.bench_base.specs.declared.events.Reply.TheVariants as r
use Rattle.bench_base.specs.declared.questions.Report.TheVariants as report
use Rattle.bench_base.specs.Ledger.{Ledger, count_of, counted}
use Rattle.bench_base.specs.Replies.{ReplyClass, Did, Refused, Armed, CameOn, WentOff, LostPower, Faulted, WasDamaged, PrinterFailed, RatesFailed, class_of, report_of}

-- == entries ==

-- an entry that neither counts, opens nor settles a commit
abbrev pub IsCalm : Entry → Type 0
IsCalm (e.Commit c) = ⊥
IsCalm (e.Torn m c) = ⊥
IsCalm e.Begin = ⊥
IsCalm (e.Day t) = Unit {0}
IsCalm (e.Rates text) = Unit {0}
IsCalm (e.Sent note) = Unit {0}
IsCalm (e.Released d p mark) = Unit {0}
IsCalm (e.Printed j mark) = Unit {0}
IsCalm (e.Up m k) = ⊥
IsCalm (e.Down m) = Unit {0}

-- two of them at most
abbrev pub AreCalm : List Entry → Type 0
AreCalm [] = Unit {0}
AreCalm (x ∷ []) = IsCalm x
AreCalm (x ∷ y ∷ []) = IsCalm x × IsCalm y
AreCalm (x ∷ y ∷ z ∷ more) = ⊥

-- none of them is a commit, counted or open
abbrev pub NoCommits : List Entry → Type 0
NoCommits [] = Unit {0}
NoCommits (e.Commit c ∷ l) = ⊥
NoCommits (e.Torn m c ∷ l) = ⊥
NoCommits (_ ∷ l) = NoCommits l

-- what is recorded after a commit, by the class of the reply, and what an Up shows; a failure needs nothing, since nothing is recorded then
abbrev pub ByTold : (Node → ℕ → Type 0) → ReplyClass → List Entry → Type 0
ByTold Shows Did after = AreCalm after
ByTold Shows Refused after = AreCalm after
ByTold Shows (Armed m) after = AreCalm after
ByTold Shows (CameOn m k) after = Shows m k
ByTold Shows (WentOff m) after = AreCalm after
ByTold Shows (LostPower m) after = Unit {0}
ByTold Shows (Faulted m) after = Unit {0}
ByTold Shows (WasDamaged m) after = AreCalm after
ByTold Shows (PrinterFailed j) after = Unit {0}
ByTold Shows RatesFailed after = Unit {0}

-- == replies ==

-- a node, the printer or the rates failed
abbrev pub is_failure : Reply → Bool
is_failure (r.PrinterFault j) = true
is_failure (r.Power m) = true
is_failure (r.Fault m) = true
is_failure r.RatesFault = true
is_failure _ = false

-- the job whose mark the event is to print
abbrev pub job_printed : Event → Option ℕ
job_printed (ev.Print j) = Some j
job_printed _ = None

pub only_job : (x : Event) (j : ℕ) → job_printed x ≡ Some j → x ≡ ev.Print j
only_job (ev.Print i) j is = ap ev.Print (same_Some _ _ is)
only_job _ j is = absurd (none-some _ is)

-- == a test for most answers ==

abbrev is_calm : Entry → Bool
is_calm (e.Commit c) = false
is_calm (e.Torn m c) = false
is_calm e.Begin = false
is_calm (e.Up m k) = false
is_calm _ = true

abbrev are_calm : List Entry → Bool
are_calm [] = true
are_calm (x ∷ []) = is_calm x
are_calm (x ∷ y ∷ []) = is_calm x && is_calm y
are_calm (x ∷ y ∷ z ∷ more) = false

-- it was done or refused, and no node came on
abbrev is_plain : ReplyClass → Bool
is_plain Did = true
is_plain Refused = true
is_plain (Armed m) = true
is_plain (WentOff m) = true
is_plain (WasDamaged m) = true
is_plain _ = false

abbrev is_print : Report → Bool
is_print (report.Print j) = true
is_print _ = false

-- an answer that is plain and prints nothing, with what is recorded after it
abbrev pub is_clean : Reply → List Entry → Bool
is_clean x after = is_plain (class_of x) && (are_calm after && not (is_print (report_of x)))

calm_is : (x : Entry) → is_calm x ≡ true → IsCalm x
calm_is (e.Commit c) is = true≢false (sym is)
calm_is (e.Torn m c) is = true≢false (sym is)
calm_is e.Begin is = true≢false (sym is)
calm_is (e.Up m k) is = true≢false (sym is)
calm_is _ is = tt

calm_are : (l : List Entry) → are_calm l ≡ true → AreCalm l
calm_are [] is = tt
calm_are (x ∷ []) is = calm_is x is
calm_are (x ∷ y ∷ []) is = let both = and_parts (is_calm x) (is_calm y) is in (calm_is x both.0, calm_is y both.1)
calm_are (x ∷ y ∷ z ∷ more) is = true≢false (sym is)

-- calm entries and no commits
calm_more : (x : Entry) (l : List Entry) → is_calm x ≡ true → NoCommits l → NoCommits (x ∷ l)
calm_more (e.Commit c) l is none = true≢false (sym is)
calm_more (e.Torn m c) l is none = true≢false (sym is)
calm_more _ l is none = none

calm_none : (l : List Entry) → are_calm l ≡ true → NoCommits l
calm_none [] is = tt
calm_none (x ∷ []) is = calm_more x [] is tt
calm_none (x ∷ y ∷ []) is = let both = and_parts (is_calm x) (is_calm y) is in calm_more x (y ∷ []) both.0 (calm_more y [] both.1 tt)
calm_none (x ∷ y ∷ z ∷ more) is = absurd (true≢false (sym is))

plainly : (Shows : Node → ℕ → Type 0) (t : ReplyClass) (after : List Entry) → is_plain t ≡ true → AreCalm after → ByTold Shows t after
plainly Shows Did after is calm = calm
plainly Shows Refused after is calm = calm
plainly Shows (Armed m) after is calm = calm
plainly Shows (WentOff m) after is calm = calm
plainly Shows (WasDamaged m) after is calm = calm
plainly Shows _ after is calm = absurd (true≢false (sym is))

unfailing : (x : Reply) → is_plain (class_of x) ≡ true → is_failure x ≡ false
unfailing (r.PrinterFault j) is = sym is
unfailing (r.Power m) is = sym is
unfailing (r.Fault m) is = sym is
unfailing r.RatesFault is = sym is
unfailing _ is = refl

no_print : (x : Reply) (j : ℕ) → not (is_print (report_of x)) ≡ true → x ≡ r.Printed j → ⊥
no_print x j is same = true≢false (sym is ∙ ap (λ (y : Reply). not (is_print (report_of y))) same)

-- == what is answered and recorded ==

module _ (H : Ledger) where
  -- it shows the count of the ledger
  abbrev pub ShowsItsCount : Node → ℕ → Type 0
  ShowsItsCount m k = k ≡ count_of m (counted H)

  -- the answer of an event that is to print this job, or no job, and what is recorded after its commit
  pub record Says (o : Option ℕ) (reply : Reply) (after : List Entry) : Type 0 where
    pub told : ByTold ShowsItsCount (class_of reply) after
    pub none : NoCommits after
    pub prints : (j : ℕ) → reply ≡ r.Printed j → (o ≡ Some j) × ((mark : List ℕ) × (after ≡ e.Printed j mark ∷ []))
    pub unfailed : is_failure reply ≡ false

  pub cleanly : (o : Option ℕ) (x : Reply) (after : List Entry) → is_clean x after ≡ true → Says o x after
  cleanly o x after is =
      let parts = and_parts (is_plain (class_of x)) (are_calm after && not (is_print (report_of x))) is in
      let rest = and_parts (are_calm after) (not (is_print (report_of x))) parts.1 in
      record {
        told = plainly ShowsItsCount (class_of x) after parts.0 (calm_are after rest.0);
        none = calm_none after rest.0;
        prints = λ j same. absurd (no_print x j rest.1 same);
        unfailed = unfailing x parts.0;
      }

  -- a node came on
  pub ups : (o : Option ℕ) (m : Node) → Says o (r.Up m (count_of m (counted H))) (e.Up m (count_of m (counted H)) ∷ [])
  ups o m = record { told = refl; none = tt; prints = λ j same. absurd (cc); unfailed = refl }

  -- a mark was printed
  pub printed : (j : ℕ) (mark : List ℕ) → Says (Some j) (r.Printed j) (e.Printed j mark ∷ [])
  printed j mark = record { told = tt; none = tt; prints = λ i same. (ap (λ (n : ℕ). Some n) (one_job j i same), (mark, ap (λ (n : ℕ). e.Printed n mark ∷ []) (one_job j i same))); unfailed = refl }
    where
      one_job : (j i : ℕ) → r.Printed j ≡ r.Printed i → j ≡ i
      one_job j i same = cc
