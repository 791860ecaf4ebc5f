-- Entries of cells that were sorted: the blocks that are found among them, and two cells of one block.
use Rattle.std.proofs.Common.{◌≡◌, inl, inr, ℕ, zero, suc, [], ◌∷◌, ◌+◌, ◌-◌, ◌<◌, ◌≤◌, ◌^◌, List, length, get_or, set, take, Some, Bool, true, false, All, Contains, sum_by, IsPermutation, refl, sym, ap, subst, ◌∙◌, arith}
use Rattle.std.specs.Prelude.{◌==◌, if◌then◌else◌}
use Rattle.std.specs.List.Sorted.{IsNonDecreasingBy}
use Rattle.std.proofs.lemmas.Bool.{cases_eq, cases_lt, cases_Bool, eqb-true, and_parts}
use Rattle.std.proofs.lemmas.List.{length-take-le, get_or-take, get_or_past, get_or_default, get_or-set_same, get_or-set_other}
use Rattle.std.proofs.lemmas.List.Elements.{All-from_get_or, Contains-get_or, Contains-append_right}
use Rattle.std.proofs.lemmas.List.Sorted.{All-permutation, Contains-permutation, IsPermutation-sym, length_permutation, sum_by-IsPermutation}
use Rattle.std.proofs.lemmas.List.Sums.{sum_by-cons}
use Rattle.std.proofs.lemmas.Option.{same_Some}
use Rattle.bench_base.specs.declared.sizes.TheConstants.{FIRST_BLOCK}
use Rattle.bench_base.proofs.Facts.{some_none}
use Rattle.verifier.specs.declared.index.Entry.{Entry}
use Rattle.verifier.specs.Index.{is_of, cell_in, rank_of, nothing, AreRising, HaveTie, AreOrdered, IsEntryOf, entry_in, HasBlocks, HasTwice}
use Rattle.verifier.proofs.Blocks.{is_block}
use Rattle.verifier.proofs.Cells.{behind}
use Rattle.verifier.proofs.Indexed.{of_block, not_less, found_in}

-- == the entries as they are written ==

-- one more
pub entry_more : (P : ℕ → Entry → Type 0) (es : List Entry) (k : ℕ) (e : Entry) → FIRST_BLOCK ≤ k → k - FIRST_BLOCK < length es
    → ((i : ℕ) → FIRST_BLOCK + i < k → P (FIRST_BLOCK + i) (get_or es i nothing)) → P k e
    → (i : ℕ) → FIRST_BLOCK + i < k + 1 → P (FIRST_BLOCK + i) (get_or (set es (k - FIRST_BLOCK) e) i nothing)
entry_more P es k e from inside before here i lt = elim (cases_eq i (k - FIRST_BLOCK)) [
  | inl same ↦
      subst (λ (j : ℕ). P (FIRST_BLOCK + j) (get_or (set es (k - FIRST_BLOCK) e) j nothing)) (sym same)
      (subst (λ (j : ℕ). P j (get_or (set es (k - FIRST_BLOCK) e) (k - FIRST_BLOCK) nothing)) (sym (behind k from))
      (subst (λ (x : Entry). P k x) (sym (get_or-set_same es (k - FIRST_BLOCK) e nothing inside)) here))
  | inr differs ↦ subst (λ (x : Entry). P (FIRST_BLOCK + i) x) (sym (get_or-set_other es (k - FIRST_BLOCK) i e nothing differs)) (before i (omega (arith, lt, differs, from)))
]

-- each device has 32 bits
abbrev pub AreWords : List Entry → Type 0
AreWords es = All (λ (e : Entry). e.device < 2 ^ 32) es

-- they are those of the cells before n, in their order
pub record AreOfCells (es : List Entry) (blocks : ℕ → ℕ × ℕ) (n : ℕ) : Type 0 where
  pub many : FIRST_BLOCK + length es ≡ n
  pub each : (i : ℕ) → i < length es → get_or es i nothing ≡ entry_in blocks (FIRST_BLOCK + i)

entry_is : (x : Entry) (d b k : ℕ) → x.device ≡ d → x.block ≡ b → x.cell ≡ k → ◌≡◌ {A = Entry} x (record { device = d; block = b; cell = k })
entry_is x d b k device block cell = λ i. record { device = device i; block = block i; cell = cell i }

module _ (holds : ℕ → ℕ × ℕ → Type 0) (es : List Entry) (len n : ℕ) (many : FIRST_BLOCK + len ≡ n) (room : len ≤ length es)
    (written : (i : ℕ) → i < len → IsEntryOf holds (FIRST_BLOCK + i) (get_or es i nothing)) where
  taken : length (take len es) ≡ len
  taken = length-take-le len es room

  read : (i : ℕ) → i < length (take len es) → get_or (take len es) i nothing ≡ get_or es i nothing
  read i lt = get_or-take len es i nothing (omega (arith, lt, taken))

  pub words_written : AreWords (take len es)
  words_written = All-from_get_or (λ (e : Entry). e.device < 2 ^ 32) (take len es) nothing (λ i lt. subst (λ (e : Entry). e.device < 2 ^ 32) (sym (read i lt)) (written i (omega (arith, lt, taken))).word)

  pub cells_written : (blocks : ℕ → ℕ × ℕ) → ((k : ℕ) (block : ℕ × ℕ) → k < n → holds k block → block ≡ blocks k) → AreOfCells (take len es) blocks n
  cells_written blocks given = record {
    many = omega (arith, many, taken);
    each = λ i lt. read i lt ∙ of_cell i (omega (arith, lt, taken));
  }
    where
      of_cell : (i : ℕ) → i < len → get_or es i nothing ≡ entry_in blocks (FIRST_BLOCK + i)
      of_cell i lt =
          let x : Entry = get_or es i nothing in
          let is = given (FIRST_BLOCK + i) (x.device, x.block) (omega (arith, lt, many)) (written i lt).block in
          entry_is x (blocks (FIRST_BLOCK + i)).0 (blocks (FIRST_BLOCK + i)).1 (FIRST_BLOCK + i) (ap (λ (y : ℕ × ℕ). y.0) is) (ap (λ (y : ℕ × ℕ). y.1) is) (written i lt).cell

-- == in order ==

-- one more entry that is not of the block before it
pub rising_more : (es : List Entry) (later : ℕ) → IsNonDecreasingBy rank_of es → 1 ≤ later → later < length es
    → (rank_of (get_or es (later - 1) nothing) ≡ rank_of (get_or es later nothing) → ⊥)
    → ((i j : ℕ) → i < j → j < later → rank_of (get_or es i nothing) < rank_of (get_or es j nothing))
    → (i j : ℕ) → i < j → j < later + 1 → rank_of (get_or es i nothing) < rank_of (get_or es j nothing)
rising_more es later sorted from inside apart before i j lt low = elim (cases_eq j later) [
  | inl last ↦
      let up : rank_of (get_or es i nothing) ≤ rank_of (get_or es (later - 1) nothing) = sorted i (later - 1) nothing (omega (arith, lt, last, from)) (omega (arith, inside, from)) in
      let step : rank_of (get_or es (later - 1) nothing) ≤ rank_of (get_or es later nothing) = sorted (later - 1) later nothing (omega arith) inside in
      subst (λ (k : ℕ). rank_of (get_or es i nothing) < rank_of (get_or es k nothing)) (sym last) (omega (arith, up, step, apart))
  | inr differs ↦ before i j lt (omega (arith, low, differs))
]

-- entries of one rank are of one block
same_rank : (x y : Entry) → x.device < 2 ^ 32 → y.device < 2 ^ 32 → rank_of x ≡ rank_of y → (x.device ≡ y.device) × (x.block ≡ y.block)
same_rank x y small small' same =
    let device : x.device ≡ y.device = omega (arith, same, small, small') in
    let block : x.block ≡ y.block = omega (arith, same, small, small') in
    (device, block)

-- what is found is an entry
found_is : (es : List Entry) (d b k : ℕ) → cell_in es d b ≡ Some k → Contains es (record { device = d; block = b; cell = k })
found_is [] d b k found = absurd (some_none (sym found))
found_is (x ∷ es) d b k found = elim (cases_Bool (is_of d b x)) [
  | inl own ↦
      let parts = and_parts (x.device == d) (x.block == b) own in
      let cell : x.cell ≡ k = same_Some _ _ (sym (ap (λ (t : Bool). if t then Some x.cell else cell_in es d b) own) ∙ found) in
      (0, omega arith, entry_is x d b k (eqb-true x.device d parts.0) (eqb-true x.block b parts.1) cell)
  | inr isnt ↦
      Contains-append_right (x ∷ []) es (record { device = d; block = b; cell = k }) (found_is es d b k (sym (ap (λ (t : Bool). if t then Some x.cell else cell_in es d b) isnt) ∙ found))
]

-- and each entry is found
rising_found : (es : List Entry) → AreRising es → (x : Entry) → Contains es x → cell_in es x.device x.block ≡ Some x.cell
rising_found es rising x has =
    let k : ℕ = has.0 in
    let inside : k < length es = has.1 in
    let at : get_or es k nothing ≡ x = get_or_default es k nothing x inside ∙ has.2 in
    found_in es x.device x.block k inside (of_block x.device x.block (get_or es k nothing) (ap (λ (y : Entry). y.device) at) (ap (λ (y : Entry). y.block) at))
    (λ j lt. not_less x.device x.block (get_or es j nothing) (subst (λ (y : Entry). rank_of (get_or es j nothing) < rank_of y) at (rising j k lt inside)))
    ∙ ap (λ (y : Entry). Some y.cell) at

-- == how many entries pass a test ==

abbrev hits : (Entry → Bool) → Entry → ℕ
hits p x = if p x then 1 else 0

-- two that do
record AreTwo (p : Entry → Bool) (xs : List Entry) : Type 0 where
  one : ℕ
  other : ℕ
  before : one < other
  inside : other < length xs
  first : p (get_or xs one nothing) ≡ true
  second : p (get_or xs other nothing) ≡ true

module _ (p : Entry → Bool) where
  hit : (x : Entry) → p x ≡ true → hits p x ≡ 1
  hit x is = ap (λ (t : Bool). if t then 1 else 0) is

  missed : (x : Entry) → p x ≡ false → hits p x ≡ 0
  missed x isnt = ap (λ (t : Bool). if t then 1 else 0) isnt

  one_hit : (xs : List Entry) (i : ℕ) → i < length xs → p (get_or xs i nothing) ≡ true → 1 ≤ sum_by (hits p) xs
  one_hit [] i lt is = absurd (omega arith)
  one_hit (x ∷ xs) zero lt is = omega (arith, sum_by-cons (hits p) x xs, hit x is)
  one_hit (x ∷ xs) (suc i) lt is = omega (arith, sum_by-cons (hits p) x xs, one_hit xs i (omega arith) is)

  two_hits : (xs : List Entry) (i j : ℕ) → i < j → j < length xs → p (get_or xs i nothing) ≡ true → p (get_or xs j nothing) ≡ true → 2 ≤ sum_by (hits p) xs
  two_hits [] i j lt inside is is' = absurd (omega arith)
  two_hits (x ∷ xs) i zero lt inside is is' = absurd (omega arith)
  two_hits (x ∷ xs) zero (suc j) lt inside is is' = omega (arith, sum_by-cons (hits p) x xs, hit x is, one_hit xs j (omega arith) is')
  two_hits (x ∷ xs) (suc i) (suc j) lt inside is is' = omega (arith, sum_by-cons (hits p) x xs, two_hits xs i j (omega arith) (omega arith) is is')

  one_of : (xs : List Entry) → 1 ≤ sum_by (hits p) xs → (k : ℕ) × ((k < length xs) × (p (get_or xs k nothing) ≡ true))
  one_of [] some = absurd (omega arith)
  one_of (x ∷ xs) some = elim (cases_Bool (p x)) [
    | inl is ↦ (0, (omega arith, is))
    | inr isnt ↦ let rest = one_of xs (omega (arith, some, sum_by-cons (hits p) x xs, missed x isnt)) in (suc rest.0, (omega (arith, rest.1.0), rest.1.1))
  ]

  two_of : (xs : List Entry) → 2 ≤ sum_by (hits p) xs → AreTwo p xs
  two_of [] some = absurd (omega arith)
  two_of (x ∷ xs) some = elim (cases_Bool (p x)) [
    | inl is ↦
        let rest = one_of xs (omega (arith, some, sum_by-cons (hits p) x xs, hit x is)) in
        record { one = 0; other = suc rest.0; before = omega arith; inside = omega (arith, rest.1.0); first = is; second = rest.1.1 }
    | inr isnt ↦
        let rest : AreTwo p xs = two_of xs (omega (arith, some, sum_by-cons (hits p) x xs, missed x isnt)) in
        record { one = suc rest.one; other = suc rest.other; before = omega (arith, rest.before); inside = omega (arith, rest.inside); first = rest.first; second = rest.second }
  ]

-- == once they are settled ==

module _ (xs ys : List Entry) (moved : IsPermutation xs ys) (words : AreWords xs) where
  words_moved : AreWords ys
  words_moved = All-permutation (λ (e : Entry). e.device < 2 ^ 32) xs ys moved words

  pub settled_ordered : AreRising ys → AreOrdered ys
  settled_ordered rising = record {
    rising = rising;
    words = λ i. elim (cases_lt i (length ys)) [
      | inl lt ↦ words_moved i nothing lt
      | inr past ↦ subst (λ (e : Entry). e.device < 2 ^ 32) (sym (get_or_past ys i nothing past)) (omega arith)
    ];
  }

  module _ (blocks : ℕ → ℕ × ℕ) (n : ℕ) (are : AreOfCells xs blocks n) where
    long : length ys ≡ length xs
    long = length_permutation xs ys moved

    -- the entry of a cell
    has_cell : (k : ℕ) → FIRST_BLOCK ≤ k → k < n → Contains ys (entry_in blocks k)
    has_cell k from lt =
        let inside : k - FIRST_BLOCK < length xs = omega (arith, are.many, from, lt) in
        let at : get_or xs (k - FIRST_BLOCK) nothing ≡ entry_in blocks k = are.each (k - FIRST_BLOCK) inside ∙ ap (λ j. entry_in blocks j) (behind k from) in
        Contains-permutation xs ys (entry_in blocks k) moved (subst (λ (x : Entry). Contains xs x) at (Contains-get_or xs (k - FIRST_BLOCK) nothing inside))

    -- the cell of an entry
    own_cell : (x : Entry) → Contains ys x → (k : ℕ) × ((FIRST_BLOCK ≤ k) × ((k < n) × (x ≡ entry_in blocks k)))
    own_cell x has =
        let was = Contains-permutation ys xs x (IsPermutation-sym xs ys moved) has in
        let inside : was.0 < length xs = was.1 in
        (FIRST_BLOCK + was.0, (omega arith, (omega (arith, inside, are.many), sym was.2 ∙ get_or_default xs was.0 x nothing inside ∙ are.each was.0 inside)))

    found_cell : (d b k : ℕ) → cell_in ys d b ≡ Some k → (FIRST_BLOCK ≤ k) × ((k < n) × (blocks k ≡ (d, b)))
    found_cell d b k found =
        let own = own_cell (record { device = d; block = b; cell = k }) (found_is ys d b k found) in
        let cell : k ≡ own.0 = ap (λ (x : Entry). x.cell) own.1.1.1 in
        let device : d ≡ (blocks own.0).0 = ap (λ (x : Entry). x.device) own.1.1.1 in
        let block : b ≡ (blocks own.0).1 = ap (λ (x : Entry). x.block) own.1.1.1 in
        (omega (arith, cell, own.1.0), (omega (arith, cell, own.1.1.0), ap blocks cell ∙ (λ i. (sym device i, sym block i))))

    pub settled_blocks : AreRising ys → HasBlocks ys blocks n
    settled_blocks rising = record {
      many = omega (arith, are.many, long);
      found = λ k from lt. rising_found ys rising (entry_in blocks k) (has_cell k from lt);
      only = found_cell;
    }

    block_is : (i d b : ℕ) → i < length xs → is_of d b (get_or xs i nothing) ≡ true → blocks (FIRST_BLOCK + i) ≡ (d, b)
    block_is i d b lt is = is_block (blocks (FIRST_BLOCK + i)) d b (sym (ap (λ (x : Entry). is_of d b x) (are.each i lt)) ∙ is)

    pub settled_twice : HaveTie ys → HasTwice blocks n
    settled_twice tie =
        let x : Entry = get_or ys (tie.later - 1) nothing in
        let y : Entry = get_or ys tie.later nothing in
        let before : tie.later - 1 < length ys = omega (arith, tie.inside) in
        let same = same_rank x y (words_moved (tie.later - 1) nothing before) (words_moved tie.later nothing tie.inside) tie.same in
        let many : 2 ≤ sum_by (hits (is_of y.device y.block)) ys =
        two_hits (is_of y.device y.block) ys (tie.later - 1) tie.later (omega (arith, tie.second)) tie.inside (of_block y.device y.block x same.0 same.1) (of_block y.device y.block y refl refl) in
        let two = two_of (is_of y.device y.block) xs (omega (arith, many, sum_by-IsPermutation (hits (is_of y.device y.block)) xs ys moved)) in
        record {
          one = FIRST_BLOCK + two.one;
          other = FIRST_BLOCK + two.other;
          from = omega arith;
          before = omega (arith, two.before);
          inside = omega (arith, two.inside, are.many);
          same =
              block_is two.one y.device y.block (omega (arith, two.before, two.inside)) two.first
              ∙ sym (block_is two.other y.device y.block two.inside two.second);
        }
