-- What the desk sees goes with what the ledger counts, entry by entry.
use Rattle.std.proofs.Common.{◌≡◌, ◌≢◌, ◌⊎◌, inl, inr, ℕ, pos, ◌+◌, ◌-◌, ◌<◌, ◌≤◌, ◌^◌, min, Bool, true, false, cond, List, [], ◌∷◌, ◌++◌, length, length-append, Option, Some, None, IsSome, refl, sym, ap, subst, ◌∙◌, true≢false, arith}
use Rattle.std.specs.Prelude.{◌==◌, if◌then◌else◌}
use Rattle.std.proofs.lemmas.Bool.{cases_eq, eqb-true, eq-eqb, ne_eqb, cond-true}
use Rattle.std.proofs.lemmas.Int.{ints}
use Rattle.std.proofs.lemmas.List.{append-nil}
use Rattle.bench_base.specs.declared.{words.Node.Node, words.Node.TheVariants.Device, words.Node.TheVariants.Centre, words.Node.TheVariants.Host, words.Node.TheVariants.Verifier, ledger.Commit.Commit, ledger.Commit.TheVariants.Deposited, ledger.Commit.TheVariants.Ruled, ledger.Entry.Entry}
use Rattle.bench_base.specs.declared.ledger.Entry.TheVariants as e
use Rattle.bench_base.specs.Ledger.{Ledger, is_on, count_of, torn_of, at_up, counted}
use Rattle.bench_base.specs.Nodes.{is_centre, node_of, same_node}
use Rattle.bench_base.specs.Ranges.{IsCustomer}
use Rattle.ledger_terms.specs.Centres.{balance}
use Rattle.statement_check.specs.Places.{moved}
use Rattle.statement_check.specs.declared.{line.Cause.Cause, line.Movement.Movement}
use Rattle.statement_check.specs.declared.line.Cause.TheVariants as causes
use Rattle.centre_statement.specs.Balances.{Follows, BalancesFollow, BalancesFit}
use Rattle.centre_statement.specs.Changes.{change_in, left_after}
use Rattle.centre_statement.specs.Desk.{View, Opened, moved_by, changed_by, noted, seen_entry}
use Rattle.centre_statement.specs.Movements.{OpenedAt, movement_of, movements}
use Rattle.centre_statement.specs.Watching.{one_more, settled_at, watched}
use Rattle.centre_statement.specs.declared.{change.Change.Change, watch.Watch.Watch}
use Rattle.scan_laws.proofs.Tells.{IsCalm}

-- == what goes together ==

-- the watch has the centre's count, within 64 bits, and its open commit
pub record Agrees (w : Watch) (count : ℕ) (torn : Option Commit) : Type 0 where
  pub commits : w.commits ≡ min count (2 ^ 64 - 1)
  pub torn_is : w.torn ≡ torn

-- so it is where the centre is on, and while a statement is open
abbrev pub Knows : Option OpenedAt → Watch → Bool → ℕ → Option Commit → Type 0
Knows o w on count torn = ((on ≡ true) ⊎ IsSome o) → Agrees w count torn

-- the movements that are kept: all, as long as there is room for them
abbrev pub Kept : List Movement → Bool → List Movement → Type 0
Kept ms full movements = ((length ms ≤ 10000) × (full ≡ false) × (movements ≡ ms)) ⊎ ((10000 < length ms) × (full ≡ true))

-- the statement that is open has the movements since its opening, and the balance after them
pub record Listed (o : OpenedAt) (s : Opened) (C : List Commit) : Type 0 where
  pub customer : s.customer ≡ o.customer
  pub range : IsCustomer o.customer
  pub since : List Commit
  pub counts : C ≡ since ++ o.counted
  pub balance_is : s.balance ≡ balance o.customer C
  pub kept : Kept (movements o.customer since o.counted) s.full s.movements

abbrev pub Lists : Option OpenedAt → Option Opened → List Commit → Type 0
Lists None None C = Unit {0}
Lists None (Some s) C = ⊥
Lists (Some o) None C = ⊥
Lists (Some o) (Some s) C = Listed o s C

-- the desk goes with the ledger
abbrev pub GoesWith : Option OpenedAt → View → Ledger → Type 0
GoesWith o v H = Knows o v.watch (is_on Centre H) (count_of Centre (counted H)) (torn_of Centre H) × Lists o v.current (counted H)

-- each balance follows from the one before it, within 64 bits
abbrev pub Sound : List Commit → Type 0
Sound C = BalancesFollow C × BalancesFit C

-- == a movement more ==

left_is : (before after : ℕ) (x : Change) → moved before x.cause x.amount ≡ pos after → after ≤ 1000000000000000 → left_after before x.cause x.amount ≡ after
left_is before after x follows fits = by x.cause follows
  where
    by : (cause : Cause) → moved before cause x.amount ≡ pos after → left_after before cause x.amount ≡ after
    by (causes.Deposit receipt) is = omega (arith, ints, is, fits)
    by (causes.Reset d n) is = omega (arith, ints, is)
    by (causes.Refund d n) is = omega (arith, ints, is, fits)
    by (causes.Withdraw d n) is = omega (arith, ints, is, fits)

one_longer : (ms : List Movement) (x : Movement) → length (ms ++ x ∷ []) ≡ length ms + 1
one_longer ms x = length-append ms (x ∷ [])

module _ (o : OpenedAt) (s : Opened) (c : Commit) (C : List Commit) (l : Listed o s C) where
  abbrev w : ℕ
  w = o.customer

  abbrev were : List Movement
  were = movements w l.since o.counted

  behind : (x : Option Change) → change_in c w ≡ x → movements w (c ∷ l.since) o.counted ≡ were ++ movement_of x (balance w (c ∷ C))
  behind x is =
      ap (λ (y : Option Change). were ++ movement_of y (balance w (c ∷ (l.since ++ o.counted)))) is
      ∙ ap (λ (D : List Commit). were ++ movement_of x (balance w (c ∷ D))) (sym l.counts)

  unchanged : change_in c w ≡ None → balance w (c ∷ C) ≡ balance w C → Listed o s (c ∷ C)
  unchanged none same = record {
    customer = l.customer;
    range = l.range;
    since = c ∷ l.since;
    counts = ap (λ (D : List Commit). c ∷ D) l.counts;
    balance_is = l.balance_is ∙ sym same;
    kept = subst (λ (ms : List Movement). Kept ms s.full s.movements) (sym (behind None none ∙ append-nil were)) l.kept;
  }

  abbrev now : Change → Movement
  now x = record { cause = x.cause; amount = x.amount; balance = left_after s.balance x.cause x.amount }

  more_kept : (x : Change) → Kept were s.full s.movements → (b : Bool) → (length s.movements == 10000) ≡ b
      → Kept (were ++ now x ∷ []) (cond b true s.full) (cond b s.movements (s.movements ++ now x ∷ []))
  more_kept x (inl fits) true full =
      let is = eqb-true (length s.movements) 10000 full in
      let same = ap (λ (ms : List Movement). length ms) fits.2 in
      let longer = one_longer were (now x) in
      inr (omega (arith, is, same, longer), refl)
  more_kept x (inl fits) false room =
      let other : length s.movements ≢ 10000 = λ is. true≢false (sym (eq-eqb (length s.movements) 10000 is) ∙ room) in
      let same = ap (λ (ms : List Movement). length ms) fits.2 in
      let longer = one_longer were (now x) in
      let few = fits.0 in
      inl (omega (arith, other, same, longer, few), fits.1, ap (λ (ms : List Movement). ms ++ now x ∷ []) fits.2)
  more_kept x (inr over) b is =
      let longer = one_longer were (now x) in
      let many = over.0 in
      inr (omega (arith, many, longer), still b)
    where
      still : (t : Bool) → cond t true s.full ≡ true
      still true = refl
      still false = over.1

  changed : (x : Change) → change_in c w ≡ Some x → left_after s.balance x.cause x.amount ≡ balance w (c ∷ C) → Listed o (moved_by x s) (c ∷ C)
  changed x is left = by (length s.movements == 10000) refl
    where
      ms_are : movements w (c ∷ l.since) o.counted ≡ were ++ now x ∷ []
      ms_are = behind (Some x) is ∙ ap (λ (b : ℕ). were ++ movement_of (Some x) b) (sym left)

      by : (b : Bool) → (length s.movements == 10000) ≡ b → Listed o
          (if b then record s { balance = left_after s.balance x.cause x.amount; full = true }
          else record s { balance = left_after s.balance x.cause x.amount; movements = s.movements ++ (record { cause = x.cause; amount = x.amount; balance = left_after s.balance x.cause x.amount }) ∷ [] }) (c ∷ C)
      by true full = record {
        customer = l.customer;
        range = l.range;
        since = c ∷ l.since;
        counts = ap (λ (D : List Commit). c ∷ D) l.counts;
        balance_is = left;
        kept = subst (λ (ms : List Movement). Kept ms true s.movements) (sym ms_are) (more_kept x l.kept true full);
      }
      by false room = record {
        customer = l.customer;
        range = l.range;
        since = c ∷ l.since;
        counts = ap (λ (D : List Commit). c ∷ D) l.counts;
        balance_is = left;
        kept = subst (λ (ms : List Movement). Kept ms s.full (s.movements ++ now x ∷ [])) (sym ms_are) (more_kept x l.kept false room);
      }

  by_change : Sound (c ∷ C) → (x : Option Change) → change_in c w ≡ x → Listed o (changed_by x s) (c ∷ C)
  by_change sound None is = unchanged is (subst (λ (y : Option Change). Follows y (balance w C) (balance w (c ∷ C))) is (sound.0.0 w l.range))
  by_change sound (Some x) is =
      let follows : Follows (Some x) (balance w C) (balance w (c ∷ C)) = subst (λ (y : Option Change). Follows y (balance w C) (balance w (c ∷ C))) is (sound.0.0 w l.range) in
      changed x is (ap (λ (b : ℕ). left_after b x.cause x.amount) l.balance_is ∙ left_is (balance w C) (balance w (c ∷ C)) x follows (sound.1.0 w l.range))

  pub listed_more : Sound (c ∷ C) → Listed o (changed_by (change_in c s.customer) s) (c ∷ C)
  listed_more sound = subst (λ (who : ℕ). Listed o (changed_by (change_in c who) s) (c ∷ C)) (sym l.customer) (by_change sound (change_in c w) refl)

-- a commit that counts
lists_more : (o : Option OpenedAt) (current : Option Opened) (c : Commit) (C : List Commit) → Sound (c ∷ C) → Lists o current C → Lists o (noted (Some c) current) (c ∷ C)
lists_more None None c C sound l = l
lists_more None (Some s) c C sound l = absurd l
lists_more (Some o) None c C sound l = absurd l
lists_more (Some o) (Some s) c C sound l = listed_more o s c C l sound

-- of another node than the centre it changes nothing
other_change : (c : Commit) (w : ℕ) → is_centre (node_of c) ≡ false → change_in c w ≡ None
other_change (Deposited who receipt amount) w other = absurd (true≢false other)
other_change (Ruled d n v note) w other = absurd (true≢false other)
other_change _ w other = refl

not_noted : (c : Commit) (current : Option Opened) → is_centre (node_of c) ≡ false → noted (Some c) current ≡ current
not_noted c None other = refl
not_noted c (Some s) other = ap (λ (x : Option Change). Some (changed_by x s)) (other_change c s.customer other)

lists_other : (o : Option OpenedAt) (current : Option Opened) (c : Commit) (C : List Commit) → is_centre (node_of c) ≡ false → Sound (c ∷ C) → Lists o current C → Lists o current (c ∷ C)
lists_other o current c C other sound l = subst (λ (x : Option Opened). Lists o x (c ∷ C)) (not_noted c current other) (lists_more o current c C sound l)

-- == entries ==

centre_only : (m : Node) → same_node m Centre ≡ is_centre m
centre_only (Device d) = refl
centre_only Centre = refl
centre_only Host = refl
centre_only Verifier = refl

-- a node that goes off leaves what was known while it was on
earlier : (o : Option OpenedAt) (b on : Bool) → ((cond b false on ≡ true) ⊎ IsSome o) → (on ≡ true) ⊎ IsSome o
earlier o b on (inr open_now) = inr open_now
earlier o true on (inl is) = absurd (true≢false (sym is))
earlier o false on (inl is) = inl is

pub calm_entry : (o : Option OpenedAt) (v : View) (H : Ledger) (x : Entry) → IsCalm x → GoesWith o v H → GoesWith o (seen_entry v (Some x)) (x ∷ H)
calm_entry o v H (e.Day t) calm with_it = with_it
calm_entry o v H (e.Rates text) calm with_it = with_it
calm_entry o v H (e.Sent note) calm with_it = with_it
calm_entry o v H (e.Released d p mark) calm with_it = with_it
calm_entry o v H (e.Printed j mark) calm with_it = with_it
calm_entry o v H (e.Down m) calm with_it = (λ h. with_it.0 (earlier o (same_node m Centre) (is_on Centre H) h), with_it.1)
calm_entry o v H (e.Commit c) calm with_it = absurd calm
calm_entry o v H (e.Torn m c) calm with_it = absurd calm
calm_entry o v H (e.Up m k) calm with_it = absurd calm
calm_entry o v H e.Begin calm with_it = absurd calm

-- a commit

counts_more : (b : Bool) (w : Watch) (count : ℕ) (torn : Option Commit) → Agrees w count torn
    → Agrees (if b then record { commits = one_more w.commits; torn = w.torn } else w) (cond b (count + 1) count) torn
counts_more true w count torn a = record { commits = let is = a.commits in omega (arith, is); torn_is = a.torn_is }
counts_more false w count torn a = a

noted_by_node : (o : Option OpenedAt) (current : Option Opened) (c : Commit) (C : List Commit) (b : Bool) → is_centre (node_of c) ≡ b → Sound (c ∷ C) → Lists o current C
    → Lists o (noted (if b then Some c else None) current) (c ∷ C)
noted_by_node o current c C true is sound l = lists_more o current c C sound l
noted_by_node o current c C false is sound l = lists_other o current c C is sound l

pub commit_entry : (o : Option OpenedAt) (v : View) (H : Ledger) (c : Commit) → Sound (c ∷ counted H) → GoesWith o v H → GoesWith o (seen_entry v (Some (e.Commit c))) (e.Commit c ∷ H)
commit_entry o v H c sound with_it = (
  λ h. subst (λ (b : Bool). Agrees (watched v.watch (e.Commit c)) (cond b (count_of Centre (counted H) + 1) (count_of Centre (counted H))) (torn_of Centre H)) (sym (centre_only (node_of c)))
      (counts_more (is_centre (node_of c)) v.watch (count_of Centre (counted H)) (torn_of Centre H) (with_it.0 h)),
  noted_by_node o v.current c (counted H) (is_centre (node_of c)) refl sound with_it.1,
)

-- one that is torn

tears : (b : Bool) (w : Watch) (count : ℕ) (torn : Option Commit) (c : Commit) → Agrees w count torn
    → Agrees (if b then record { commits = w.commits; torn = Some c } else w) count (cond b (Some c) torn)
tears true w count torn c a = record { commits = a.commits; torn_is = refl }
tears false w count torn c a = a

pub torn_entry : (o : Option OpenedAt) (v : View) (H : Ledger) (m : Node) (c : Commit) → GoesWith o v H → GoesWith o (seen_entry v (Some (e.Torn m c))) (e.Torn m c ∷ H)
torn_entry o v H m c with_it = (
  λ h. subst (λ (b : Bool). Agrees (watched v.watch (e.Torn m c)) (count_of Centre (counted H)) (cond b (Some c) (torn_of Centre H))) (sym (centre_only m))
      (tears (is_centre m) v.watch (count_of Centre (counted H)) (torn_of Centre H) c (with_it.0 (earlier o (same_node m Centre) (is_on Centre H) h))),
  with_it.1,
)

-- an Up of the centre

-- an Up shows the count of the ledger, or one more where a commit is open
abbrev pub ShowsCount : Ledger → Node → ℕ → Type 0
ShowsCount H m k = (k ≡ count_of m (counted H)) ⊎ ((k ≡ count_of m (counted H) + 1) × IsSome (torn_of m H))

one_count : (c : Commit) (C : List Commit) → node_of c ≡ Centre → count_of Centre (c ∷ C) ≡ count_of Centre C + 1
one_count c C own = cond-true (same_node (node_of c) Centre) (count_of Centre C + 1) (count_of Centre C) (ap (λ (m : Node). same_node m Centre) own)

apart_by_one : (k n : ℕ) → k ≡ n → k ≢ n + 1
apart_by_one k n is more = omega (arith, is, more)

-- the count that it shows is that of the ledger after it
shown_is : (k : ℕ) (C : List Commit) (t : Option Commit) → ((c : Commit) → t ≡ Some c → node_of c ≡ Centre) → (k ≡ count_of Centre C) ⊎ ((k ≡ count_of Centre C + 1) × IsSome t)
    → k ≡ count_of Centre (at_up t Centre k C)
shown_is k C None own (inl is) = is
shown_is k C None own (inr more) = absurd (true≢false (sym more.1))
shown_is k C (Some c) own (inl is) =
    subst (λ (b : Bool). k ≡ count_of Centre (if b then c ∷ C else C)) (sym (ne_eqb k (count_of Centre C + 1) (apart_by_one k (count_of Centre C) is))) is
shown_is k C (Some c) own (inr more) =
    subst (λ (b : Bool). k ≡ count_of Centre (if b then c ∷ C else C)) (sym (eq-eqb k (count_of Centre C + 1) more.0)) (more.0 ∙ sym (one_count c C (own c refl)))

within_64 : (k n : ℕ) → k < 2 ^ 64 → k ≡ n → k ≡ min n (2 ^ 64 - 1)
within_64 k n small is = omega (arith, small, is)

-- the desk finds one more if and only if the ledger does
same_test : (k commits count : ℕ) → k < 2 ^ 64 → commits ≡ min count (2 ^ 64 - 1) → (k == commits + 1) ≡ (k == count + 1)
same_test k commits count small is = elim (cases_eq k (count + 1)) [
  | inl more ↦ let too : k ≡ commits + 1 = omega (arith, small, is, more) in eq-eqb k (commits + 1) too ∙ sym (eq-eqb k (count + 1) more)
  | inr other ↦ let too : k ≢ commits + 1 = λ same. other (omega (arith, small, is, same)) in ne_eqb k (commits + 1) too ∙ sym (ne_eqb k (count + 1) other)
]

lists_if : (o : Option OpenedAt) (current : Option Opened) (c : Commit) (C : List Commit) (b : Bool) → Sound (if b then c ∷ C else C) → Lists o current C
    → Lists o (noted (if b then Some c else None) current) (if b then c ∷ C else C)
lists_if o current c C true sound l = lists_more o current c C sound l
lists_if o current c C false sound l = l

settles : (o : Option OpenedAt) (current : Option Opened) (k : ℕ) (C : List Commit) (t : Option Commit) (commits : ℕ) → (k == commits + 1) ≡ (k == count_of Centre C + 1) → Sound (at_up t Centre k C) → Lists o current C
    → Lists o (noted (settled_at t commits k) current) (at_up t Centre k C)
settles o current k C None commits same sound l = subst (λ (x : Option Commit). Lists o (noted x current) C) (none_either (k == commits + 1)) l
  where
    none_either : (b : Bool) → ◌≡◌ {A = Option Commit} None (if b then None else None)
    none_either true = refl
    none_either false = refl
settles o current k C (Some c) commits same sound l =
    subst (λ (b : Bool). Lists o (noted (if b then Some c else None) current) (at_up (Some c) Centre k C)) (sym same) (lists_if o current c C (k == count_of Centre C + 1) sound l)

-- if no statement is open, none is open after it
none_open : (current : Option Opened) (x : Option Commit) (C D : List Commit) → Lists None current C → Lists None (noted x current) D
none_open None None C D l = l
none_open None (Some c) C D l = l
none_open (Some s) x C D l = absurd l

up_current : (o : Option OpenedAt) (w : Watch) (current : Option Opened) (on : Bool) (k : ℕ) (C : List Commit) (t : Option Commit) → k < 2 ^ 64 → Sound (at_up t Centre k C)
    → Knows o w on (count_of Centre C) t → Lists o current C → Lists o (noted (settled_at w.torn w.commits k) current) (at_up t Centre k C)
up_current None w current on k C t small sound knows l = none_open current (settled_at w.torn w.commits k) C (at_up t Centre k C) l
up_current (Some o) w current on k C t small sound knows l =
    let a = knows (inr refl) in
    subst (λ (x : Option Commit). Lists (Some o) (noted (settled_at x w.commits k) current) (at_up t Centre k C)) (sym a.torn_is)
    (settles (Some o) current k C t w.commits (same_test k w.commits (count_of Centre C) small a.commits) sound l)

-- an Up of another node

other_up : (o : Option OpenedAt) (w : Watch) (current : Option Opened) (on : Bool) (torn : Option Commit) (m : Node) (k : ℕ) (C : List Commit) (t : Option Commit)
    → ((c : Commit) → t ≡ Some c → is_centre (node_of c) ≡ false) → Sound (at_up t m k C) → Knows o w on (count_of Centre C) torn → Lists o current C
    → Knows o w on (count_of Centre (at_up t m k C)) torn × Lists o current (at_up t m k C)
other_up o w current on torn m k C None other sound knows l = (knows, l)
other_up o w current on torn m k C (Some c) other sound knows l = by (k == count_of m C + 1) sound
  where
    not_own : same_node (node_of c) Centre ≡ false
    not_own = centre_only (node_of c) ∙ other c refl

    by : (b : Bool) → Sound (if b then c ∷ C else C) → Knows o w on (count_of Centre (if b then c ∷ C else C)) torn × Lists o current (if b then c ∷ C else C)
    by true sound' = (
      λ h. subst (λ (b : Bool). Agrees w (cond b (count_of Centre C + 1) (count_of Centre C)) torn) (sym not_own) (knows h),
      lists_other o current c C (other c refl) sound' l,
    )
    by false sound' = (knows, l)

by_node : (n : Node) → is_centre n ≡ false → (c : Commit) → node_of c ≡ n → is_centre (node_of c) ≡ false
by_node n other c own = ap (λ (m : Node). is_centre m) own ∙ other

pub up_entry : (o : Option OpenedAt) (v : View) (H : Ledger) (m : Node) (k : ℕ) → ShowsCount H m k → k < 2 ^ 64 → ((c : Commit) → torn_of m H ≡ Some c → node_of c ≡ m) → Sound (counted (e.Up m k ∷ H))
    → GoesWith o v H → GoesWith o (seen_entry v (Some (e.Up m k))) (e.Up m k ∷ H)
up_entry o v H Centre k shows small own sound with_it = (
  λ h. record { commits = within_64 k _ small (shown_is k (counted H) (torn_of Centre H) own shows); torn_is = refl },
  up_current o v.watch v.current (is_on Centre H) k (counted H) (torn_of Centre H) small sound with_it.0 with_it.1,
)
up_entry o v H (Device d) k shows small own sound with_it =
    other_up o v.watch v.current (is_on Centre H) (torn_of Centre H) (Device d) k (counted H) (torn_of (Device d) H) (λ c is. by_node (Device d) refl c (own c is)) sound with_it.0 with_it.1
up_entry o v H Host k shows small own sound with_it =
    other_up o v.watch v.current (is_on Centre H) (torn_of Centre H) Host k (counted H) (torn_of Host H) (λ c is. by_node Host refl c (own c is)) sound with_it.0 with_it.1
up_entry o v H Verifier k shows small own sound with_it =
    other_up o v.watch v.current (is_on Centre H) (torn_of Centre H) Verifier k (counted H) (torn_of Verifier H) (λ c is. by_node Verifier refl c (own c is)) sound with_it.0 with_it.1
