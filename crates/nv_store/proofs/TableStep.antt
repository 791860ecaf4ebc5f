-- A commit's step on a table.
use Rattle.std.proofs.Common.{◌≡◌, ◌≢◌, ◌⊎◌, inl, inr, ⊎_elim, ℕ, zero, suc, ◌+◌, ◌*◌, ◌≤◌, ◌<◌, List, [], ◌∷◌, length, set, get_or, Result, Ok, Err, OnOk, Option, Some, is_some, Bool, refl, sym, ◌∙◌, ap, subst, arith}
use Rattle.std.specs.Prelude.{slice_get, OnErr}
use Rattle.std.proofs.lemmas.Bool.{cases_eq}
use Rattle.std.proofs.Math.Nat.{mul-le-mul_right}
use Rattle.nv_model.specs.Bytes.{SameOutside}
use Rattle.nv_model.proofs.Ranges.{range_apart}
use Rattle.nv_store.specs.Slot.{Held, slot, slots_at, IsClear}
use Rattle.nv_store.specs.Cells.{Known, Commits, shown}
use Rattle.nv_store.specs.Current.{apart, clear_same}
use Rattle.nv_store.specs.Store.{Shows, Between, one_held, count_of, after_commit}
use Rattle.nv_store.specs.Knows.{known_shown, some_held}
use Rattle.nv_store.specs.Tables.{TableKnown, PlacesInside, table_held, row_held}
use Rattle.nv_store.specs.TableKnows.{item_at, held_at}
use Rattle.nv_store.proofs.Between.{count_of_one_held}
use Rattle.nv_store.specs.declared.head.Head.{Head}

module _ (size n cell : ℕ) (old c : List ℕ) (others : SameOutside (cell * (n * (5 + size))) (n * (5 + size)) old c) where
  -- the slots of another cell
  pub other_cell : (k : ℕ) → k ≢ cell → (i : ℕ) → i < n → slots_at size (k * (n * (5 + size))) c i ≡ slots_at size (k * (n * (5 + size))) old i
  other_cell k differs i lt =
      let w = n * (5 + size) in
      let inside : suc i * (5 + size) ≤ n * (5 + size) = mul-le-mul_right {m = suc i} {n = n} (5 + size) (omega arith) in
      let step : suc i * (5 + size) ≡ i * (5 + size) + (5 + size) = grind arith in
      let gap : (k * w + i * (5 + size) + (1 + (4 + size)) ≤ cell * w) ⊎ (cell * w + w ≤ k * w + i * (5 + size)) =
      ⊎_elim (λ le. inl (omega (arith, le, inside, step))) (λ le. inr (omega (arith, le))) (apart k cell w differs) in
      ap slot (range_apart (cell * w) w old c (k * w + i * (5 + size)) (1 + (4 + size)) others gap)

  pub known_elsewhere : (k : ℕ) → k ≢ cell → (count place : ℕ) (gates : List Bool) (payload : List ℕ) → Known n (slots_at size (k * (n * (5 + size))) old) count place gates payload → Known n (slots_at size (k * (n * (5 + size))) c) count place gates payload
  known_elsewhere k differs count place gates payload known =
      let same = other_cell k differs in
      record {
        clear = clear_same n (slots_at size (k * (n * (5 + size))) old) (slots_at size (k * (n * (5 + size))) c) same known.clear;
        gates_are = λ i lt. ap is_some (same i lt) ∙ known.gates_are i lt;
        blank = λ none i lt. same i lt ∙ known.blank none i lt;
        top = λ some. let top = known.top some in record {
          inside = top.inside;
          here = same place top.inside ∙ top.here;
          below = λ i a lt differs' is. top.below i a lt differs' (sym (same i lt) ∙ is);
        };
      }

pub get_set_same : {A : Type 0} (items : List A) (k : ℕ) (item : A) → k < length items → slice_get (set items k item) k ≡ Some item
get_set_same [] k item lt = absurd (omega arith)
get_set_same (r ∷ items) zero item lt = refl
get_set_same (r ∷ items) (suc k) item lt = get_set_same items k item (omega arith)

pub get_set_other : {A : Type 0} (items : List A) (k j : ℕ) (item : A) → j ≢ k → slice_get (set items k item) j ≡ slice_get items j
get_set_other [] k j item differs = refl
get_set_other (r ∷ items) zero zero item differs = absurd (differs refl)
get_set_other (r ∷ items) zero (suc j) item differs = refl
get_set_other (r ∷ items) (suc k) zero item differs = refl
get_set_other (r ∷ items) (suc k) (suc j) item differs = get_set_other items k j item (λ e. differs (ap suc e))

same_item : {A : Type 0} (a b : A) (o : Option A) → o ≡ Some a → o ≡ Some b → a ≡ b
same_item a b o is is' = cc (is, is')

-- a cell of a table gets a head and a payload
pub held_here : (heads : List Head) (payloads : List (List ℕ)) (cell : ℕ) (head : Head) (payload : List ℕ) → cell < length heads → cell < length payloads → table_held (set heads cell head) (set payloads cell payload) cell ≡ one_held head.count payload
held_here heads payloads cell head payload lt lt' = held_at (set heads cell head) (set payloads cell payload) cell head payload (get_set_same heads cell head lt) (get_set_same payloads cell payload lt')

pub held_other : (heads : List Head) (payloads : List (List ℕ)) (cell : ℕ) (head : Head) (payload : List ℕ) (k : ℕ) → k ≢ cell → table_held (set heads cell head) (set payloads cell payload) k ≡ table_held heads payloads k
held_other heads payloads cell head payload k differs =
    ap (λ (o : Option Head). row_held o (slice_get (set payloads cell payload) k)) (get_set_other heads cell k head differs)
    ∙ ap (λ (o : Option (List ℕ)). row_held (slice_get heads k) o) (get_set_other payloads cell k payload differs)

pub next_held : (head : Head) (payload new : List ℕ) (held : Option Held) → held ≡ one_held head.count payload → Some (head.count + 1, new) ≡ after_commit held new
next_held head payload new held is = ap (λ (k : ℕ). Some (k + 1, new)) (sym (count_of_one_held head.count payload)) ∙ ap (λ (o : Option Held). after_commit o new) (sym is)

module _ (size n cell : ℕ) (heads : List Head) (payloads : List (List ℕ)) (same : length payloads ≡ length heads) (head : Head) (payload : List ℕ) (inside : cell < length heads) (at : slice_get heads cell ≡ Some head) (at' : slice_get payloads cell ≡ Some payload) (old : List ℕ) (known : TableKnown size n (length heads) old heads payloads) where
  -- at every moment
  pub table_between : (new : List ℕ) (c : List ℕ) → Commits size n (cell * (n * (5 + size))) (shown size n (cell * (n * (5 + size))) old) (head.count + 1, new) old c → Between size n (length heads) cell (table_held heads payloads) new c
  table_between new c commits =
      let own = known.each cell head payload inside at at' in
      let holds : table_held heads payloads cell ≡ one_held head.count payload = held_at heads payloads cell head payload at at' in
      let before : shown size n (cell * (n * (5 + size))) old ≡ table_held heads payloads cell =
      known_shown n (slots_at size (cell * (n * (5 + size))) old) head.count head.place head.gates payload own ∙ sym holds in
      let next : Some (head.count + 1, new) ≡ after_commit (table_held heads payloads cell) new = next_held head payload new (table_held heads payloads cell) holds in
      record {
        here = ⊎_elim (λ was. inl (was ∙ before)) (λ is. inr (is ∙ next)) commits.shows;
        others = λ k lt differs.
            let h = item_at heads k lt in
            let p = item_at payloads k (omega (arith, same)) in
            let its = known_elsewhere size n cell old c commits.others k differs h.0.count h.0.place h.0.gates p.0 (known.each k h.0 p.0 lt h.1 p.1) in
            known_shown n (slots_at size (k * (n * (5 + size))) c) h.0.count h.0.place h.0.gates p.0 its ∙ sym (held_at heads payloads k h.0 p.0 h.1 p.1);
        clear = λ k lt. elim (cases_eq k cell) [
          | inl is ↦ subst (λ (j : ℕ). IsClear n (slots_at size (j * (n * (5 + size))) c)) (sym is) commits.clear
          | inr differs ↦
              let h = item_at heads k lt in
              let p = item_at payloads k (omega (arith, same)) in
              (known_elsewhere size n cell old c commits.others k differs h.0.count h.0.place h.0.gates p.0 (known.each k h.0 p.0 lt h.1 p.1)).clear
        ];
      }

  -- once it is done
  pub table_known : (head' : Head) (payload' : List ℕ) (c : List ℕ) → SameOutside (cell * (n * (5 + size))) (n * (5 + size)) old c → Known n (slots_at size (cell * (n * (5 + size))) c) head'.count head'.place head'.gates payload' → TableKnown size n (length heads) c (set heads cell head') (set payloads cell payload')
  table_known head' payload' c others own = record {
    each = λ k h p lt is is'. elim (cases_eq k cell) [
      | inl eq ↦
          let eh : h ≡ head' = same_item h head' (slice_get (set heads cell head') cell) (ap (λ (j : ℕ). slice_get (set heads cell head') j) (sym eq) ∙ is) (get_set_same heads cell head' inside) in
          let ep : p ≡ payload' = same_item p payload' (slice_get (set payloads cell payload') cell) (ap (λ (j : ℕ). slice_get (set payloads cell payload') j) (sym eq) ∙ is') (get_set_same payloads cell payload' (omega (arith, same, inside))) in
          subst (λ (j : ℕ). Known n (slots_at size (j * (n * (5 + size))) c) h.count h.place h.gates p) (sym eq)
          (subst (λ (q : Head). Known n (slots_at size (cell * (n * (5 + size))) c) q.count q.place q.gates p) (sym eh)
          (subst (λ (q : List ℕ). Known n (slots_at size (cell * (n * (5 + size))) c) head'.count head'.place head'.gates q) (sym ep) own))
      | inr differs ↦
          known_elsewhere size n cell old c others k differs h.count h.place h.gates p (known.each k h p lt (sym (get_set_other heads cell k head' differs) ∙ is) (sym (get_set_other payloads cell k payload' differs) ∙ is'))
    ];
  }

-- the first cells, and one more
pub known_more : (size n cell : ℕ) (heads : List Head) (payloads : List (List ℕ)) (head : Head) (payload : List ℕ) (image : List ℕ) → cell < length heads → cell < length payloads → TableKnown size n cell image heads payloads
    → Known n (slots_at size (cell * (n * (5 + size))) image) head.count head.place head.gates payload → TableKnown size n (cell + 1) image (set heads cell head) (set payloads cell payload)
known_more size n cell heads payloads head payload image inside inside' known own = record {
  each = λ k h p lt is is'. elim (cases_eq k cell) [
    | inl eq ↦
        let eh : h ≡ head = same_item h head (slice_get (set heads cell head) cell) (ap (λ (j : ℕ). slice_get (set heads cell head) j) (sym eq) ∙ is) (get_set_same heads cell head inside) in
        let ep : p ≡ payload = same_item p payload (slice_get (set payloads cell payload) cell) (ap (λ (j : ℕ). slice_get (set payloads cell payload) j) (sym eq) ∙ is') (get_set_same payloads cell payload inside') in
        subst (λ (j : ℕ). Known n (slots_at size (j * (n * (5 + size))) image) h.count h.place h.gates p) (sym eq)
        (subst (λ (q : Head). Known n (slots_at size (cell * (n * (5 + size))) image) q.count q.place q.gates p) (sym eh)
        (subst (λ (q : List ℕ). Known n (slots_at size (cell * (n * (5 + size))) image) head.count head.place head.gates q) (sym ep) own))
    | inr differs ↦ known.each k h p (omega (arith, lt, differs)) (sym (get_set_other heads cell k head differs) ∙ is) (sym (get_set_other payloads cell k payload differs) ∙ is')
  ];
}

-- the places lie inside, also once a head is set
pub places_more : (n cells cells' cell : ℕ) (heads : List Head) (head : Head) → cell < length heads → ((k : ℕ) → k < cells' → k ≢ cell → k < cells) → PlacesInside n cells heads → (0 < head.count → head.place < n) → PlacesInside n cells' (set heads cell head)
places_more n cells cells' cell heads head inside others places lt = record {
  each = λ k h below is some. elim (cases_eq k cell) [
    | inl eq ↦
        let eh : h ≡ head = same_item h head (slice_get (set heads cell head) cell) (ap (λ (j : ℕ). slice_get (set heads cell head) j) (sym eq) ∙ is) (get_set_same heads cell head inside) in
        subst (λ (q : Head). 0 < q.count → q.place < n) (sym eh) lt some
    | inr differs ↦ places.each k h (others k below differs) (sym (get_set_other heads cell k head differs) ∙ is) some
  ];
}

pub at_item : {A : Type 0} (items : List A) (k : ℕ) (item : A) → k < length items → item ≡ get_or items k item → slice_get items k ≡ Some item
at_item [] k item lt is = absurd (omega arith)
at_item (r ∷ items) zero item lt is = ap Some (sym is)
at_item (r ∷ items) (suc k) item lt is = at_item items k item (omega arith) is

pub either_way : {T E P : Type 0} (r : Result T E) → OnOk r P → OnErr r P → P
either_way (Ok x) p q = p
either_way (Err e) p q = q

pub both : {T E P Q R : Type 0} (r : Result T E) → OnOk r P → OnOk r Q → (P → Q → R) → OnOk r R
both (Ok x) p q f = f p q
both (Err e) p q f = tt

pub err_weaker : {T E P Q : Type 0} (r : Result T E) → (P → Q) → OnErr r P → OnErr r Q
err_weaker (Ok x) f p = tt
err_weaker (Err e) f p = f p

pub count_at : (heads : List Head) (payloads : List (List ℕ)) (k : ℕ) (head : Head) (payload : List ℕ) → slice_get heads k ≡ Some head → slice_get payloads k ≡ Some payload → count_of (table_held heads payloads k) ≡ head.count
count_at heads payloads k head payload at at' = ap count_of (held_at heads payloads k head payload at at') ∙ count_of_one_held head.count payload

pub held_next : (count count' : ℕ) (p p' : List ℕ) → count' ≡ count + 1 → p' ≡ p → one_held count' p' ≡ Some (count + 1, p)
held_next count count' p p' e e' = ap (λ (c : ℕ). one_held c p') e ∙ ap (λ (l : List ℕ). one_held (count + 1) l) e' ∙ some_held (count + 1) p (omega arith)

-- a cell's range lies within the table's
pub cell_room : (cell cells w : ℕ) → cell < cells → cell * w + w ≤ cells * w
cell_room cell cells w lt =
    let le : suc cell * w ≤ cells * w = mul-le-mul_right {m = suc cell} {n = cells} w (omega arith) in
    let step : suc cell * w ≡ cell * w + w = grind arith in
    omega (arith, le, step)

-- what is shown is between what was and what is to be
pub shows_between : (size n cells cell : ℕ) (held : ℕ → Option Held) (new c : List ℕ) → cell < cells → Shows size n cells held c → Between size n cells cell held new c
shows_between size n cells cell held new c inside shows = record { here = inl (shows.each cell inside); others = λ k lt differs. shows.each k lt; clear = shows.clear }
