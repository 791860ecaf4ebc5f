-- Cells that are read one after the other.
use Rattle.std.proofs.Common.{◌≡◌, inl, inr, ℕ, ◌+◌, ◌-◌, ◌*◌, ◌<◌, ◌≤◌, List, [], ◌++◌, length, take, drop, Option, Some, None, IfSome, sym, ◌∙◌, ap, subst, arith}
use Rattle.std.proofs.Math.Nat.{mul-le-mul_right}
use Rattle.std.proofs.lemmas.Bool.{cases_eq}
use Rattle.std.proofs.lemmas.List.{length-append, length-drop, take-append-le, take-take, drop-take, drop-append-le, drop_all, take_all}
use Rattle.std.proofs.KnownBytes.{Consumes-nil, Consumes-trans}
use Rattle.std.specs.Io.KnownBytes.{Consumes}
use Rattle.node_images.specs.declared.cell.CellShows.{CellShows}
use Rattle.node_images.specs.declared.cell.CellShows.TheVariants as cell
use Rattle.node_images.specs.Cells.{IsWhat}
use Rattle.trace_folder.specs.declared.shows.Shows.{Shows}
use Rattle.trace_folder.specs.declared.shows.Shows.TheVariants as shows
use Rattle.trace_folder.specs.Walks.{cell_in, IsReadCell, ShowsEither, CellsAre}

-- no cell was found that shows neither
abbrev pub NoOther : Shows → Type 0
NoOther shows.Counted = Unit {0}
NoOther shows.Open = Unit {0}
NoOther (shows.Other k) = ⊥

-- == cells that are the same ==

module _ (C O : ℕ → List ℕ → Type 0) (a b : ℕ → List ℕ) (n : ℕ) (same : (k : ℕ) → k < n → a k ≡ b k) where
  either_same : (k : ℕ) → k < n → ShowsEither C O a k → ShowsEither C O b k
  either_same k lt e = subst (λ (l : List ℕ). ShowsIn k l) (same k lt) e
    where
      ShowsIn : ℕ → List ℕ → Type 0
      ShowsIn k l = ShowsEither C O (λ j. l) k

  pub cells_same : (s : Shows) → CellsAre C O a n s → CellsAre C O b n s
  cells_same shows.Counted each = λ k lt. subst (C k) (same k lt) (each k lt)
  cells_same shows.Open found = (
    λ k lt. either_same k lt (found.0 k lt),
    record {
      place = found.1.place;
      inside = found.1.inside;
      shown = subst (O found.1.place) (same found.1.place found.1.inside) found.1.shown;
      not = λ c. found.1.not (subst (C found.1.place) (sym (same found.1.place found.1.inside)) c);
    },
  )
  cells_same (shows.Other k) found = (
    found.0,
    λ c. found.1 (subst (C k) (sym (same k found.0)) c),
    λ o. found.2 (subst (O k) (sym (same k found.0)) o),
    λ j lt. either_same j (omega (arith, lt, found.0)) (found.3 j lt),
  )

-- == one cell more ==

module _ (C O : ℕ → List ℕ → Type 0) (a : ℕ → List ℕ) (n : ℕ) where
  counted_more : ((k : ℕ) → k < n → C k (a k)) → C n (a n) → (k : ℕ) → k < n + 1 → C k (a k)
  counted_more each c k lt = elim (cases_eq k n) [
    | inl is ↦ subst (λ (j : ℕ). C j (a j)) (sym is) c
    | inr differs ↦ each k (omega (arith, lt, differs))
  ]

  either_more : ((k : ℕ) → k < n → ShowsEither C O a k) → ShowsEither C O a n → (k : ℕ) → k < n + 1 → ShowsEither C O a k
  either_more each e k lt = elim (cases_eq k n) [
    | inl is ↦ subst (λ (j : ℕ). ShowsEither C O a j) (sym is) e
    | inr differs ↦ each k (omega (arith, lt, differs))
  ]

  eithers : (s : Shows) → NoOther s → CellsAre C O a n s → (k : ℕ) → k < n → ShowsEither C O a k
  eithers shows.Counted clear each k lt = inl (each k lt)
  eithers shows.Open clear found k lt = found.0 k lt
  eithers (shows.Other j) clear found k lt = absurd clear

  pub counted_step : (s : Shows) → NoOther s → CellsAre C O a n s → C n (a n) → CellsAre C O a (n + 1) s
  counted_step shows.Counted clear each c = counted_more each c
  counted_step shows.Open clear found c = (
    either_more found.0 (inl c),
    record { place = found.1.place; inside = omega (arith, found.1.inside); shown = found.1.shown; not = found.1.not },
  )
  counted_step (shows.Other k) clear found c = absurd clear

  pub open_step : (s : Shows) → NoOther s → CellsAre C O a n s → O n (a n) → (C n (a n) → ⊥) → CellsAre C O a (n + 1) shows.Open
  open_step s clear found o not = (
    either_more (eithers s clear found) (inr o),
    record { place = n; inside = omega arith; shown = o; not = not },
  )

  pub other_step : (m : ℕ) (s : Shows) → n < m → NoOther s → CellsAre C O a n s → (C n (a n) → ⊥) → (O n (a n) → ⊥) → CellsAre C O a m (shows.Other n)
  other_step m s inside clear found not closed = (inside, not, closed, λ j lt. eithers s clear found j lt)

-- == cells of bytes ==

-- where cells of so many bytes lie
cell_end : (m n size k : ℕ) → k < m → m ≤ n → k * size + size ≤ m * size × (m * size ≤ n * size)
cell_end m n size k lt le = (
  (let step : (k + 1) * size ≡ k * size + size = omega arith in omega (arith, step, mul-le-mul_right {m = k + 1} {n = m} size (omega (arith, lt)))),
  mul-le-mul_right {m = m} {n = n} size le,
)

module _ (size m : ℕ) (front : List ℕ) (long : length front ≡ m * size) where
  -- the cells of a front of bytes stay the same if more follows
  front_same : (rest : List ℕ) (k : ℕ) → k < m → cell_in size front k ≡ cell_in size (front ++ rest) k
  front_same rest k lt =
      let end = (cell_end m m size k lt (omega arith)).0 in
      sym (ap (λ (l : List ℕ). take size l) (drop-append-le (k * size) front rest (omega (arith, end, long)))
      ∙ take-append-le size (drop (k * size) front) rest (omega (arith, end, long, length-drop (k * size) front)))

  next_same : (cell : List ℕ) → length cell ≡ size → cell_in size (front ++ cell) m ≡ cell
  next_same cell is =
      ap (λ (l : List ℕ). take size l) (drop-append-le (m * size) front cell (omega (arith, long)) ∙ ap (λ (l : List ℕ). l ++ cell) (drop_all (m * size) front (omega (arith, long))))
      ∙ take_all size cell (omega (arith, is))

  -- and they are those of an image that begins so
  image_same : (n : ℕ) (bytes rest : List ℕ) → m ≤ n → bytes ≡ front ++ rest → (k : ℕ) → k < m → cell_in size front k ≡ cell_in size (take (n * size) bytes) k
  image_same n bytes rest le is k lt =
      let end = cell_end m n size k lt le in
      let room : n * size ≡ k * size + (n * size - k * size) = omega (arith, end.0, end.1) in
      front_same rest k lt
      ∙ sym (ap (λ (l : List ℕ). cell_in size (take (n * size) l) k) is
      ∙ ap (λ (j : ℕ). take size (drop (k * size) (take j (front ++ rest)))) room
      ∙ ap (λ (l : List ℕ). take size l) (drop-take (k * size) (n * size - k * size) (front ++ rest))
      ∙ take-take size (n * size - k * size) (drop (k * size) (front ++ rest)) (omega (arith, end.0, end.1)))

-- == the image so far ==

module _ (C O : ℕ → List ℕ → Type 0) (size : ℕ) where
  -- so many cells were read, and they show this
  pub record Walked (place : ℕ) (a b : Option (List ℕ)) (seen : Shows) : Type 0 where
    pub front : List ℕ
    pub taken : Consumes a b front
    pub long : length front ≡ place * size
    pub no_other : NoOther seen
    pub are : CellsAre C O (cell_in size front) place seen

  pub walked_none : (a : Option (List ℕ)) → Walked 0 a a shows.Counted
  walked_none a = record { front = []; taken = Consumes-nil a; long = omega arith; no_other = tt; are = λ k lt. absurd (omega (arith, lt)) }

  module _ (place : ℕ) (a b c : Option (List ℕ)) (seen : Shows) (walked : Walked place a b seen) where
    module _ (cell : List ℕ) (taken : Consumes b c cell) (long : length cell ≡ size) where
      abbrev front_more : List ℕ
      front_more = walked.front ++ cell

      taken_more : Consumes a c front_more
      taken_more = Consumes-trans a b c walked.front cell walked.taken taken

      long_more : length front_more ≡ (place + 1) * size
      long_more =
          let step : (place + 1) * size ≡ place * size + size = omega arith in
          omega (arith, step, walked.long, long, length-append walked.front cell)

      here : cell ≡ cell_in size front_more place
      here = sym (next_same size place walked.front walked.long cell long)

      before : CellsAre C O (cell_in size front_more) place seen
      before = cells_same C O (cell_in size walked.front) (cell_in size front_more) place (front_same size place walked.front walked.long cell) seen walked.are

      with_counted : C place cell → Walked (place + 1) a c seen
      with_counted is = record {
        front = front_more;
        taken = taken_more;
        long = long_more;
        no_other = walked.no_other;
        are = counted_step C O (cell_in size front_more) place seen walked.no_other before (subst (C place) here is);
      }

      with_open : O place cell → (C place cell → ⊥) → Walked (place + 1) a c shows.Open
      with_open is not = record {
        front = front_more;
        taken = taken_more;
        long = long_more;
        no_other = tt;
        are = open_step C O (cell_in size front_more) place seen walked.no_other before (subst (O place) here is) (λ counted. not (subst (C place) (sym here) counted));
      }

      -- an image that begins with these cells, of which the last shows neither
      with_other : (n : ℕ) → place < n → (C place cell → ⊥) → (O place cell → ⊥) → IfSome a (λ bytes. CellsAre C O (cell_in size (take (n * size) bytes)) n (shows.Other place))
      with_other n inside not closed = by a c taken_more
        where
          found : CellsAre C O (cell_in size front_more) (place + 1) (shows.Other place)
          found = other_step C O (cell_in size front_more) place (place + 1) seen (omega arith) walked.no_other before (λ counted. not (subst (C place) (sym here) counted)) (λ o. closed (subst (O place) (sym here) o))

          wider : (bytes : ℕ → List ℕ) → CellsAre C O bytes (place + 1) (shows.Other place) → CellsAre C O bytes n (shows.Other place)
          wider bytes is = (inside, is.1, is.2, is.3)

          by : (x y : Option (List ℕ)) → Consumes x y front_more → IfSome x (λ bytes. CellsAre C O (cell_in size (take (n * size) bytes)) n (shows.Other place))
          by None y is = tt
          by (Some x) None is = absurd is
          by (Some x) (Some y) is =
              wider (cell_in size (take (n * size) x))
              (cells_same C O (cell_in size front_more) (cell_in size (take (n * size) x)) (place + 1) (image_same size (place + 1) front_more long_more n x y (omega (arith, inside)) is) (shows.Other place) found)

    -- a cell was read that shows this
    module _ (found : CellShows) (read : IsReadCell size (C place) (O place) b c found) where
      is_so : (to : CellShows) → found ≡ to → IsWhat (C place read.cell) (O place read.cell) to
      is_so to is = subst (λ (x : CellShows). IsWhat (C place read.cell) (O place read.cell) x) is read.is

      pub more_counted : (next : Shows) → next ≡ seen → found ≡ cell.Counted → Walked (place + 1) a c next
      more_counted next same is = subst (λ (x : Shows). Walked (place + 1) a c x) (sym same) (with_counted read.cell read.taken read.long (is_so cell.Counted is))

      pub more_open : (next : Shows) → next ≡ shows.Open → found ≡ cell.Open → Walked (place + 1) a c next
      more_open next same is =
          let what = is_so cell.Open is in
          subst (λ (x : Shows). Walked (place + 1) a c x) (sym same) (with_open read.cell read.taken read.long what.0 what.1)

      pub more_other : (n : ℕ) → place < n → found ≡ cell.Other → IfSome a (λ bytes. CellsAre C O (cell_in size (take (n * size) bytes)) n (shows.Other place))
      more_other n inside is =
          let what = is_so cell.Other is in
          with_other read.cell read.taken read.long n inside what.0 what.1

  -- all cells were read
  pub walked_all : (n : ℕ) (a b : Option (List ℕ)) (seen : Shows) → Walked n a b seen → IfSome a (λ bytes. CellsAre C O (cell_in size (take (n * size) bytes)) n seen)
  walked_all n a b seen walked = by a b walked.taken
    where
      by : (x y : Option (List ℕ)) → Consumes x y walked.front → IfSome x (λ bytes. CellsAre C O (cell_in size (take (n * size) bytes)) n seen)
      by None y is = tt
      by (Some x) None is = absurd is
      by (Some x) (Some y) is =
          cells_same C O (cell_in size walked.front) (cell_in size (take (n * size) x)) n (image_same size n walked.front walked.long n x y (omega arith) is) seen walked.are
