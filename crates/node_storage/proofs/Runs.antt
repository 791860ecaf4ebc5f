-- What a call of a running node did, by how its commit ended.
use Rattle.std.proofs.Common.{◌≡◌, ◌≢◌, List, ℕ, Option, Some, None, Ok, Err, Result, Bool, true, false, not, is_some, is_ok, refl, sym, ◌∙◌, ap, subst}
use Rattle.bench_base.specs.declared.{ledger.Commit.Commit, refusals.Fail.Fail, refusals.Fail.TheVariants.Refused, refusals.Fail.TheVariants.Store, refusals.StoreFail.StoreFail, refusals.StoreFail.TheVariants.Power, refusals.StoreFail.TheVariants.Fault, refusals.StoreFail.TheVariants.Worn, refusals.StoreFail.TheVariants.Failed}
use Rattle.nv_model.specs.declared.nv.Nv as nv
use Rattle.nv_model.specs.Moments.{Image}
use Rattle.nv_store.specs.Turns.{End, Kept, Made, Turn, Spent}
use Rattle.node_acts.specs.declared.{act.Act.Act, act.Act.TheVariants.Refuse, act.Act.TheVariants.Tell, act.Act.TheVariants.Commits}
use Rattle.node_acts.specs.Acts.{commit_in, cost}
use Rattle.node_acts.specs.Results.{result_in}
use Rattle.node_storage.specs.declared.{node.Node.Ghosts, running.Running.Running}
use Rattle.node_storage.specs.Does.{Stores, Writes}
use Rattle.node_storage.specs.Ends.{begins, begins_to_write, end_of_commit, end_of_result, leaves_running}
use Rattle.node_storage.specs.Performed.{seen_with, ShowsAfter, Tore, Does, Wrote}
use Rattle.node_storage.specs.Runs.{node_of, torn_of, seen_of, storage_of, Runs, KeepsNext, Performs}
use Rattle.node_storage.proofs.Called.{if_true, if_false}
use Rattle.node_storage.proofs.Rests.{turn_none, spent_none}

pub none_torn : (o : Option Commit) → is_some o ≡ false → o ≡ None
none_torn None is = refl
none_torn (Some c) is = cc

-- by whether the node is on after a commit that was not made
pub only_worn : (fail : StoreFail) → true ≡ leaves_running (Err fail) → fail ≢ Failed → fail ≡ Worn
only_worn Power on not_failed = cc
only_worn Fault on not_failed = cc
only_worn Worn on not_failed = refl
only_worn Failed on not_failed = absurd (not_failed refl)

pub not_worn : (fail : StoreFail) → false ≡ leaves_running (Err fail) → fail ≢ Worn
not_worn Power off = λ is. cc
not_worn Fault off = λ is. cc
not_worn Worn off = λ is. cc
not_worn Failed off = λ is. cc

pub same_fail : (fail other : StoreFail) → ◌≡◌ {A = Result (Unit {0}) StoreFail} (Err fail) (Err other) → fail ≡ other
same_fail fail other is = cc

module _ {K S N C R : Type 0} (n : Ghosts K S N C R) (g : nv.Ghosts S)
    (knows : (k : K) → g.tells → n.is_on k ≡ true → (c : List ℕ) → Image (g.times (n.storage k)) c → n.IsShown (n.seen k) c)
    (stays_same : (k : K) → n.Stays k k) {F A : Type 0} (act : Act C F A) (d : Running K S N C R) (runs : Runs n g d) (works : torn_of d ≡ None) where
  abbrev Node : Type 0
  Node = Running K S N C R

  -- what the act commits
  abbrev commits : Option (Commit × n.Seen)
  commits = commit_in n.counting (seen_of n d) act

  abbrev DoesIt : Node → Result A (Fail F) → Type 0
  DoesIt e result = Does g n.counting n.fill n.IsShown (storage_of n) (seen_of n) torn_of act d e result

  -- what it wrote, if its act is this one
  abbrev WroteAs : Act C F A → Node → Result A (Fail F) → Type 0
  WroteAs b e result = Wrote g n.counting n.fill n.IsShown (storage_of n) (seen_of n) torn_of b d e result

  -- the turn and the cost of a call that makes this commit, if it makes one
  abbrev TurnIs : Node → End → Option (Commit × n.Seen) → Type 0
  TurnIs e end m = Turn (n.IsShown (seen_of n d)) (ShowsAfter g n.counting n.fill n.IsShown (storage_of n) (seen_of n) torn_of act m) (g.times (storage_of n d)) (g.times (storage_of n e)) end

  abbrev SpentIs : Node → End → ℕ → Type 0
  SpentIs e end calls = Spent calls (g.meters (storage_of n d)) (g.meters (storage_of n e)) end

  -- one that has not failed shows its record
  shows : (e : Node) → Runs n g e → torn_of e ≡ None → g.tells → (c : List ℕ) → Image (g.times (storage_of n e)) c → n.IsShown (seen_of n e) c
  shows e on none tells c now = knows e.node tells (on.on ∙ ap (λ (o : Option Commit). not (is_some o)) none) c now

  -- a call that commits nothing
  quiet : (result : Result A (Fail F)) → commits ≡ None → end_of_result {S = n.Seen} result None ≡ Kept → KeepsNext n act d → DoesIt d result → WroteAs act d result
      → Performs n g act d d result
  quiet result none ends next does wrote = record {
    performed = record {
      failed = λ was. absurd (was works);
      does = λ w. does;
      turn = λ w tells.
          subst (λ (m : Option (Commit × n.Seen)). TurnIs d (end_of_result result m) m) (sym none)
          (subst (λ (x : End). TurnIs d x None) (sym ends) (turn_none _ _ _ (λ c is. shows d runs works tells c is)));
      spent = λ w.
          subst (λ (m : Option (Commit × n.Seen)). SpentIs d (end_of_result result m) (cost act)) (sym none)
          (subst (λ (x : End). SpentIs d x (cost act)) (sym ends) (spent_none (cost act) (g.meters (storage_of n d))));
      wrote = λ w. wrote;
      rests = λ m. refl;
    };
    next = next;
    name = refl;
    beside = stays_same d.node;
    size = runs.size;
  }

  pub refuses : (x : F) → act ≡ Refuse x → Performs n g act d d (Err (Refused x))
  refuses x is = quiet (Err (Refused x)) (ap (commit_in n.counting (seen_of n d)) is) refl (λ c y a w commits. cc)
      (record { answer = sym (ap (result_in n.counting (seen_of n d)) is); works = works; after = ap (λ (b : Act C F A). seen_with (commit_in n.counting (seen_of n d) b) (seen_of n d)) (sym is) })
      (subst (λ (b : Act C F A). WroteAs b d (Err (Refused x))) (sym is) tt)

  pub tells_only : (a : A) → act ≡ Tell a → Performs n g act d d (Ok a)
  tells_only a is = quiet (Ok a) (ap (commit_in n.counting (seen_of n d)) is) refl (λ c y b w commits. cc)
      (record { answer = sym (ap (result_in n.counting (seen_of n d)) is); works = works; after = ap (λ (b : Act C F A). seen_with (commit_in n.counting (seen_of n d) b) (seen_of n d)) (sym is) })
      (subst (λ (b : Act C F A). WroteAs b d (Ok a)) (sym is) tt)

  -- one in a cell that has all its commits; the node is as it was
  pub worn : (c : Commit) (x : C) (a : A) → act ≡ Commits c x a → n.counting.is_worn (seen_of n d) x ≡ true → (fail : StoreFail) → fail ≡ Worn
      → (k : K) → k ≡ d.node → Performs n g act d (record { node = k; torn = d.torn }) (Err (Store fail))
  worn c x a is full fail was k same = subst (λ (f : StoreFail). Performs n g act d (record { node = k; torn = d.torn }) (Err (Store f))) (sym was)
      (subst (λ (j : K). Performs n g act d (record { node = j; torn = d.torn }) (Err (Store Worn))) (sym same)
      (quiet (Err (Store Worn)) none refl (λ b y o w commits fresh. cc) (record {
        answer = sym (ap (result_in n.counting (seen_of n d)) is ∙ if_true (n.counting.is_worn (seen_of n d) x) (Err (Store Worn)) (Ok a) full);
        works = works;
        after = ap (λ (m : Option (Commit × n.Seen)). seen_with m (seen_of n d)) (sym none);
      }) (subst (λ (b : Act C F A). WroteAs b d (Err (Store Worn))) (sym is) (record { fills = λ tells began. cc; calls = λ made. cc }))))
    where
      none : commits ≡ None
      none = ap (commit_in n.counting (seen_of n d)) is ∙ if_true (n.counting.is_worn (seen_of n d) x) None _ full

  -- a call that commits
  module _ (c : Commit) (x : C) (a : A) (e : Node) (on : Runs n g e) (is : act ≡ Commits c x a) (fresh : n.counting.is_worn (seen_of n d) x ≡ false)
      (name : n.name (node_of e) ≡ n.name (node_of d)) (kept : n.IsStorable x) (beside : n.Stays (node_of d) (node_of e)) (end : End)
      (stores : Stores g (n.IsShown (seen_of n d)) (n.IsShown (n.counting.after (seen_of n d) x)) (storage_of n d) (storage_of n e) end) where
    abbrev next : n.Seen
    next = n.counting.after (seen_of n d) x

    -- what it wrote, if it began to write and if it was made
    abbrev WritesIt : Bool → Bool → Type 0
    WritesIt began whole = Writes g (n.fill (seen_of n d) x) (storage_of n d) (storage_of n e) began whole

    made_is : commits ≡ Some (c, next)
    made_is = ap (commit_in n.counting (seen_of n d)) is ∙ if_false (n.counting.is_worn (seen_of n d) x) None (Some (c, next)) fresh

    committed : (result : Result A (Fail F)) → end ≡ end_of_result result (Some (c, next)) → (end ≡ Kept → ⊥)
        → (g.tells → end ≡ Made → (i : List ℕ) → Image (g.times (storage_of n e)) i → n.IsShown next i) → DoesIt e result
        → WritesIt (begins_to_write result) (is_ok result) → Performs n g act d e result
    committed result ends not_kept made does wrote = record {
      performed = record {
        failed = λ was. absurd (was works);
        does = λ w. does;
        turn = λ w tells.
            subst (λ (m : Option (Commit × n.Seen)). TurnIs e (end_of_result result m) m) (sym made_is) (subst (λ (i : End). TurnIs e i (Some (c, next))) ends (record {
              time = stores.time tells;
              any_moment = stores.any_moment tells;
              kept = λ k. absurd (not_kept k);
              made = λ m i now. made tells m i now;
            }));
        spent = λ w.
            subst (λ (m : Option (Commit × n.Seen)). SpentIs e (end_of_result result m) (cost act)) (sym made_is)
            (subst (λ (i : End). SpentIs e i (cost act)) ends (subst (λ (b : Act C F A). SpentIs e end (cost b)) (sym is) stores.spent));
        wrote = λ w. subst (λ (b : Act C F A). WroteAs b e result) (sym is) wrote;
        rests = λ none. absurd (differs (sym made_is ∙ none));
      };
      next = λ b y o w commits fresh. subst (λ (z : C). n.IsStorable z) (one b y o commits) kept;
      name = name;
      beside = beside;
      size = on.size;
    }
      where
        differs : ◌≡◌ {A = Option (Commit × n.Seen)} (Some (c, next)) None → ⊥
        differs same = cc

        one : (b : Commit) (y : C) (o : A) → act ≡ Commits b y o → x ≡ y
        one b y o commits = let same : ◌≡◌ {A = Act C F A} (Commits c x a) (Commits b y o) = sym is ∙ commits in cc

    -- it is made
    pub done : end ≡ Made → torn_of e ≡ None → seen_of n e ≡ next → WritesIt true true → Performs n g act d e (Ok a)
    done ends whole same wrote = committed (Ok a) ends (λ k. cc) (λ tells m i now. subst (λ (s : n.Seen). n.IsShown s i) same (shows e on whole tells i now))
        (record { answer = answered; works = whole; after = same ∙ ap (λ (m : Option (Commit × n.Seen)). seen_with m (seen_of n d)) (sym made_is) })
        wrote
      where
        answered : Ok a ≡ result_in n.counting (seen_of n d) act
        answered = sym (ap (result_in n.counting (seen_of n d)) is ∙ if_false (n.counting.is_worn (seen_of n d) x) (Err (Store Worn)) (Ok a) fresh)

    is_torn : torn_of e ≡ Some c → seen_of n e ≡ seen_of n d → Tore g n.counting n.fill n.IsShown (storage_of n) (seen_of n) torn_of act commits d e
    is_torn was same = subst (λ (m : Option (Commit × n.Seen)). Tore g n.counting n.fill n.IsShown (storage_of n) (seen_of n) torn_of act m d e) (sym made_is) (was, same)

    -- it failed
    pub tore : (fail : StoreFail) → fail ≢ Worn → fail ≢ Failed → end ≡ end_of_commit (Err fail) → torn_of e ≡ Some c → seen_of n e ≡ seen_of n d
        → WritesIt (begins (Err fail)) false → Performs n g act d e (Err (Store fail))
    tore Power not_worn not_failed ends was same wrote = committed (Err (Store Power)) ends (λ k. cc) (λ tells m. cc) (is_torn was same) wrote
    tore Fault not_worn not_failed ends was same wrote = committed (Err (Store Fault)) ends (λ k. cc) (λ tells m. cc) (is_torn was same) wrote
    tore Worn not_worn not_failed ends was same wrote = absurd (not_worn refl)
    tore Failed not_worn not_failed ends was same wrote = absurd (not_failed refl)
