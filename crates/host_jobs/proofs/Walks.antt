-- What is kept of rows, as far as a walk over them has come.
use Rattle.std.proofs.Common.{◌≡◌, ◌≢◌, ℕ, ◌+◌, ◌-◌, ◌<◌, ◌≤◌, true, List, length, take, get_or, Option, Some, None, refl, sym, ap, subst, ◌∙◌, ⊎_elim, arith}
use Rattle.std.specs.Prelude.{max, IfSome, IsSome}
use Rattle.std.proofs.lemmas.Bool.{cases_eq, cases_lt}
use Rattle.std.proofs.lemmas.List.{take_more, take_all, get_or-take, get_or_past, length-take}
use Rattle.std.proofs.lemmas.Option.{same_Some}
use Rattle.bench_base.specs.Ranges.{IsDevice}
use Rattle.bench_base.specs.Rows.{first_of}
use Rattle.bench_base.proofs.Facts.{some_by, not_none}
use Rattle.node_acts.specs.RowLaws.{listed_is}
use Rattle.host_jobs.specs.declared.rows.JobRow.{JobRow}
use Rattle.host_jobs.specs.Rows.{Jobs, is_ordered, waiting, row_in, greatest, first_found, top_in, open_in, tops_in, opens_in}
use Rattle.host_jobs.specs.Soundness.{IsFresh, WaitOnce, AreFresh}
use Rattle.host_jobs.proofs.Lists.{greatest_snoc, found_none, found_snoc, found_nothing}
use Rattle.host_jobs.proofs.Found.{waiting_is, some_waits, tops_at}

module _ (rows : Jobs) (n : ℕ) (inside : n < length rows) where
  pub greatest_more : (f : Option JobRow → ℕ) → greatest f (take (n + 1) rows) ≡ max (greatest f (take n rows)) (f (row_in rows n))
  greatest_more f = ap (greatest f) (take_more rows n None inside) ∙ greatest_snoc f (take n rows) (row_in rows n)

  pub open_more : (d : ℕ) → open_in d (take (n + 1) rows) ≡ first_of (open_in d (take n rows)) (waiting d (row_in rows n))
  open_more d = ap (first_found (waiting d)) (take_more rows n None inside) ∙ found_snoc (waiting d) (take n rows) (row_in rows n)

pub tops_are : (rows : Jobs) (l : List ℕ) → length l ≡ 8 → ((i : ℕ) → i < 8 → get_or l i 0 ≡ top_in (i + 1) rows) → l ≡ tops_in rows
tops_are rows l long each = sym (listed_is 8 (λ i. top_in (i + 1) rows) 0 l long each)

pub opens_are : (rows : Jobs) (l : List (Option ℕ)) → length l ≡ 8 → ((i : ℕ) → i < 8 → get_or l i None ≡ open_in (i + 1) rows) → l ≡ opens_in rows
opens_are rows l long each = sym (listed_is 8 (λ i. open_in (i + 1) rows) None l long each)

-- no two of the first rows wait for a mark of one device
abbrev pub OnceBelow : Jobs → ℕ → Type 0
OnceBelow rows n = (d i k : ℕ) → i < n → k < n → IsSome (waiting d (row_in rows i)) → IsSome (waiting d (row_in rows k)) → i ≡ k

pub once_more : (rows : Jobs) (n : ℕ) → OnceBelow rows n → ((d i : ℕ) → i < n → IsSome (waiting d (row_in rows n)) → IsSome (waiting d (row_in rows i)) → ⊥) → OnceBelow rows (n + 1)
once_more rows n below alone d i k lt lt' some some' = ⊎_elim
    (λ (is : i ≡ n). ⊎_elim
    (λ (is' : k ≡ n). is ∙ sym is')
    (λ (differs : k ≢ n). absurd (alone d k (omega (arith, lt', differs)) (subst (λ (j : ℕ). IsSome (waiting d (row_in rows j))) is some) some'))
    (cases_eq k n))
    (λ (differs : i ≢ n). ⊎_elim
    (λ (is' : k ≡ n). absurd (alone d i (omega (arith, lt, differs)) (subst (λ (j : ℕ). IsSome (waiting d (row_in rows j))) is' some') some))
    (λ (differs' : k ≢ n). below d i k (omega (arith, lt, differs)) (omega (arith, lt', differs')) some some')
    (cases_eq k n))
    (cases_eq i n)

module _ (rows : Jobs) (n : ℕ) (inside : n < length rows) where
  -- a cell that is blank
  pub once_blank : OnceBelow rows n → row_in rows n ≡ None → OnceBelow rows (n + 1)
  once_blank below blank = once_more rows n below (λ d i lt some some'. not_none (waiting d (row_in rows n)) some (ap (waiting d) blank))

  module _ (r : JobRow) (at : row_in rows n ≡ Some r) where
    -- a row whose device has no open job before it
    pub once_row : OnceBelow rows n → (is_ordered r.state ≡ true → open_in r.device (take n rows) ≡ None) → OnceBelow rows (n + 1)
    once_row below idle = once_more rows n below (λ d i lt some some'.
        let it = some_waits d (row_in rows n) some in
        let same : it.0 ≡ r = same_Some _ _ (sym it.1 ∙ at) in
        let device : r.device ≡ d = ap (λ (y : JobRow). y.device) (sym same) ∙ it.2.device in
        let none : open_in d (take n rows) ≡ None = ap (λ (e : ℕ). open_in e (take n rows)) (sym device) ∙ idle (ap (λ (y : JobRow). is_ordered y.state) (sym same) ∙ it.2.state) in
        not_none (waiting d (row_in rows i)) some'
        (ap (waiting d) (sym (get_or-take n rows i None lt)) ∙ found_nothing (waiting d) (take n rows) None refl none i))

    -- where the rows agree, it has none, and its piece is above the top
    pub fits_row : WaitOnce rows → AreFresh rows → is_ordered r.state ≡ true → (open_in r.device (take n rows) ≡ None) × (top_in r.device rows < r.piece)
    fits_row once fresh state = (
      found_none (waiting r.device) (take n rows) None (λ k lt. none k (omega (arith, lt, length-take n rows)) (waiting r.device (row_in rows k)) refl),
      subst (λ (o : Option JobRow). IfSome o (IsFresh rows)) at (fresh n) state,
    )
      where
        here : IsSome (waiting r.device (row_in rows n))
        here = some_by (waiting r.device (row_in rows n)) r.job (ap (waiting r.device) at ∙ waiting_is r.device r state refl)

        none : (k : ℕ) → k < n → (o : Option ℕ) → waiting r.device (row_in rows k) ≡ o → waiting r.device (get_or (take n rows) k None) ≡ None
        none k lt None is = ap (waiting r.device) (get_or-take n rows k None lt) ∙ is
        none k lt (Some j) is = let same = once r.device k n (some_by (waiting r.device (row_in rows k)) j is) here in absurd (omega (arith, same, lt))

    pub fresh_row : (is_ordered r.state ≡ true → top_in r.device rows < r.piece) → IfSome (row_in rows n) (IsFresh rows)
    fresh_row fits = subst (λ (o : Option JobRow). IfSome o (IsFresh rows)) (sym at) fits

pub fresh_blank : (rows : Jobs) (n : ℕ) → row_in rows n ≡ None → IfSome (row_in rows n) (IsFresh rows)
fresh_blank rows n blank = subst (λ (o : Option JobRow). IfSome o (IsFresh rows)) (sym blank) tt

pub fresh_more : (rows : Jobs) (n : ℕ) → ((k : ℕ) → k < n → IfSome (row_in rows k) (IsFresh rows)) → IfSome (row_in rows n) (IsFresh rows) → (k : ℕ) → k < n + 1 → IfSome (row_in rows k) (IsFresh rows)
fresh_more rows n below here k lt = ⊎_elim
    (λ (is : k ≡ n). subst (λ (j : ℕ). IfSome (row_in rows j) (IsFresh rows)) (sym is) here)
    (λ (differs : k ≢ n). below k (omega (arith, lt, differs)))
    (cases_eq k n)

-- how far a walk for open jobs has come
pub record Walked (rows : Jobs) (n : ℕ) (open_jobs : List (Option ℕ)) : Type 0 where
  pub long : length open_jobs ≡ 8
  pub opens : (i : ℕ) → i < 8 → get_or open_jobs i None ≡ open_in (i + 1) (take n rows)
  pub once : OnceBelow rows n
  pub fresh : (k : ℕ) → k < n → IfSome (row_in rows k) (IsFresh rows)

-- what a row has to meet that waits for a mark
abbrev pub Fits : JobRow → List (Option ℕ) → List ℕ → Type 0
Fits r open_jobs tops = is_ordered r.state ≡ true → (get_or open_jobs (r.device - 1) None ≡ None) × (get_or tops (r.device - 1) 0 < r.piece)

module _ (rows : Jobs) (n : ℕ) (inside : n < length rows) (l : List (Option ℕ)) (walked : Walked rows n l) where
  pub walked_blank : row_in rows n ≡ None → Walked rows (n + 1) l
  walked_blank blank = record {
    long = walked.long;
    opens = λ i lt. walked.opens i lt ∙ sym (open_more rows n inside (i + 1) ∙ ap (λ (o : Option JobRow). first_of (open_in (i + 1) (take n rows)) (waiting (i + 1) o)) blank ∙ last (open_in (i + 1) (take n rows)));
    once = once_blank rows n inside walked.once blank;
    fresh = fresh_more rows n walked.fresh (fresh_blank rows n blank);
  }
    where
      last : (o : Option ℕ) → first_of o None ≡ o
      last None = refl
      last (Some j) = refl

  module _ (r : JobRow) (at : row_in rows n ≡ Some r) (device : IsDevice r.device) (tops : List ℕ) (are : tops ≡ tops_in rows) where
    open_of : get_or l (r.device - 1) None ≡ open_in r.device (take n rows)
    open_of = walked.opens (r.device - 1) (omega (arith, device)) ∙ ap (λ (d : ℕ). open_in d (take n rows)) (omega (arith, device))

    top_of : get_or tops (r.device - 1) 0 ≡ top_in r.device rows
    top_of = ap (λ (l : List ℕ). get_or l (r.device - 1) 0) are ∙ tops_at rows r.device device

    pub walked_row : (m : List (Option ℕ)) → length m ≡ 8 → ((i : ℕ) → i < 8 → get_or m i None ≡ first_of (get_or l i None) (waiting (i + 1) (Some r))) → Fits r l tops → Walked rows (n + 1) m
    walked_row m long each fits = record {
      long = long;
      opens = λ i lt.
          each i lt ∙ ap (λ (o : Option ℕ). first_of o (waiting (i + 1) (Some r))) (walked.opens i lt)
          ∙ sym (open_more rows n inside (i + 1) ∙ ap (λ (o : Option JobRow). first_of (open_in (i + 1) (take n rows)) (waiting (i + 1) o)) at);
      once = once_row rows n inside r at walked.once (λ state. sym open_of ∙ (fits state).0);
      fresh = fresh_more rows n walked.fresh (fresh_row rows n inside r at (λ state. omega (arith, (fits state).1, top_of)));
    }

    pub walked_fits : WaitOnce rows → AreFresh rows → Fits r l tops
    walked_fits once fresh state = let it = fits_row rows n inside r at once fresh state in (open_of ∙ it.0, omega (arith, it.1, top_of))

-- at the end the rows agree
pub walked_all : (rows : Jobs) (n : ℕ) (l : List (Option ℕ)) → length rows ≤ n → Walked rows n l → WaitOnce rows × AreFresh rows × (l ≡ opens_in rows)
walked_all rows n l most walked = (
  λ d i k some some'. walked.once d i k (inside d i some) (inside d k some') some some',
  λ k. ⊎_elim
      (λ (lt : k < length rows). walked.fresh k (omega (arith, lt, most)))
      (λ (past : length rows ≤ k). fresh_blank rows k (get_or_past rows k None past))
      (cases_lt k (length rows)),
  opens_are rows l walked.long (λ i lt. walked.opens i lt ∙ ap (λ (m : Jobs). open_in (i + 1) m) (take_all n rows most)),
)
  where
    inside : (d k : ℕ) → IsSome (waiting d (row_in rows k)) → k < n
    inside d k some = ⊎_elim
        (λ (lt : k < length rows). omega (arith, lt, most))
        (λ (past : length rows ≤ k). not_none (waiting d (row_in rows k)) some (ap (waiting d) (get_or_past rows k None past)))
        (cases_lt k (length rows))
