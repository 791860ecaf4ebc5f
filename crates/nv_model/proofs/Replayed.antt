-- One call more in the record.
use Rattle.std.proofs.Common.{◌≡◌, ◌⊎◌, inl, inr, ⊎_elim, ℕ, zero, suc, ◌+◌, ◌-◌, ◌≤◌, ◌<◌, List, [], ◌∷◌, ◌++◌, length, take, drop, get_or, Bool, true, false, ◌||◌, nat_le, nat_lt, sym, ◌∙◌, ap, subst, arith, refl, length-append}
use Rattle.std.proofs.lemmas.Bool.{cases_eq, cases_lt, and_parts, and_from, leb-true, le-leb, lt-ltb, lt-leb, le-ltb, and_left, and_right, or_from, or_right}
use Rattle.std.proofs.lemmas.List.{take-append-le, drop-append-le, take_all, get_or-take, get_or-drop, length-drop, length-take-le, drop_at, append-nil}
use Rattle.nv_model.specs.Bytes.{SameOutside, laid, range}
use Rattle.nv_model.specs.Moments.{IsImage, Writes}
use Rattle.nv_model.specs.Replay.{Stand, after_step, replay, at_first, stood, marked, Passed, Stands, SinceMoment, fits_all, within}
use Rattle.nv_model.specs.declared.{step.Step.Step, step.Step.TheVariants.Written, step.Step.TheVariants.Torn, step.Step.TheVariants.Synced}
use Rattle.nv_model.proofs.Ranges.{laid_outside, laid_range}
use Rattle.nv_model.proofs.Images.{byte_outside, image_alone}

fits_first : (n : ℕ) (at len first : ℕ) (steps : List Step) → fits_all n (Written at len first ∷ steps) ≡ true → (first + len ≤ n) × (fits_all n steps ≡ true)
fits_first n at len first steps fits = let both = and_parts (nat_le (first + len) n) (fits_all n steps) fits in (leb-true (first + len) n both.0, both.1)

pub fits_take : (n k : ℕ) (steps : List Step) → fits_all n steps ≡ true → fits_all n (take k steps) ≡ true
fits_take n zero steps fits = refl
fits_take n (suc k) [] fits = refl
fits_take n (suc k) (Written at len first ∷ steps) fits = let both = and_parts (nat_le (first + len) n) (fits_all n steps) fits in and_from (nat_le (first + len) n) (fits_all n (take k steps)) both.0 (fits_take n k steps both.1)
fits_take n (suc k) (Torn at len byte ∷ steps) fits = fits_take n k steps fits
fits_take n (suc k) (Synced ∷ steps) fits = fits_take n k steps fits

pub fits_push : (n m : ℕ) (steps : List Step) (at len first : ℕ) → n ≤ m → first + len ≤ m → fits_all n steps ≡ true → fits_all m (steps ++ Written at len first ∷ []) ≡ true
fits_push n m [] at len first le room fits = and_from (nat_le (first + len) m) true (le-leb (first + len) m room) refl
fits_push n m (Written at' len' first' ∷ steps) at len first le room fits = let both = fits_first n at' len' first' steps fits in
    and_from (nat_le (first' + len') m) (fits_all m (steps ++ Written at len first ∷ [])) (le-leb (first' + len') m (omega (arith, both.0))) (fits_push n m steps at len first le room both.1)
fits_push n m (Torn at' len' byte ∷ steps) at len first le room fits = fits_push n m steps at len first le room fits
fits_push n m (Synced ∷ steps) at len first le room fits = fits_push n m steps at len first le room fits

range_more : (bytes more : List ℕ) (first n : ℕ) → first + n ≤ length bytes → range (bytes ++ more) first n ≡ range bytes first n
range_more bytes more first n le =
    ap (λ (l : List ℕ). take n l) (drop-append-le first bytes more (omega arith)) ∙ take-append-le n (drop first bytes) more (omega (arith, length-drop first bytes))

pub replay_more : (bytes more : List ℕ) (steps : List Step) (s : Stand) → fits_all (length bytes) steps ≡ true → replay (bytes ++ more) steps s ≡ replay bytes steps s
replay_more bytes more [] s fits = refl
replay_more bytes more (Written at len first ∷ steps) s fits =
    replay_more bytes more steps (after_step (bytes ++ more) (Written at len first) s) (fits_first (length bytes) at len first steps fits).1
    ∙ ap (λ (l : List ℕ). replay bytes steps (record { content = laid s.content at l; base = s.base; written = (after_step bytes (Written at len first) s).written })) (range_more bytes more first len (fits_first (length bytes) at len first steps fits).0)
replay_more bytes more (Torn at len byte ∷ steps) s fits = replay_more bytes more steps (after_step bytes (Torn at len byte) s) fits
replay_more bytes more (Synced ∷ steps) s fits = replay_more bytes more steps (after_step bytes Synced s) fits

pub replay_push : (bytes : List ℕ) (steps : List Step) (x : Step) (s : Stand) → replay bytes (steps ++ x ∷ []) s ≡ after_step bytes x (replay bytes steps s)
replay_push bytes [] x s = refl
replay_push bytes (step ∷ steps) x s = replay_push bytes steps x (after_step bytes step s)

-- a moment that the record has passed stays as it was
pub stood_more : (bytes more : List ℕ) (steps : List Step) (x : Step) (start : List ℕ) (k : ℕ) → k ≤ length steps → fits_all (length bytes) steps ≡ true → stood (bytes ++ more) (steps ++ x ∷ []) start k ≡ stood bytes steps start k
stood_more bytes more steps x start k le fits =
    ap (λ (l : List Step). replay (bytes ++ more) l (at_first start)) (take-append-le k steps (x ∷ []) le) ∙ replay_more bytes more (take k steps) (at_first start) (fits_take (length bytes) k steps fits)

-- the end of the record
pub stood_end : (bytes : List ℕ) (steps : List Step) (start : List ℕ) → stood bytes steps start (length steps) ≡ replay bytes steps (at_first start)
stood_end bytes steps start = ap (λ (l : List Step). replay bytes l (at_first start)) (take_all (length steps) steps (omega arith))

left_false : (a b : Bool) → (a || b) ≡ false → a ≡ false
left_false true b p = cc p
left_false false b p = refl

module _ (bytes more : List ℕ) (steps : List Step) (x : Step) (start : List ℕ) (marks : List Bool) (fits : fits_all (length bytes) steps ≡ true) (none : (i : ℕ) → get_or marks i false ≡ false) where
  abbrev new : ℕ → List ℕ → Type 0
  new = SinceMoment (bytes ++ more) (steps ++ x ∷ []) start marks

  abbrev old : ℕ → List ℕ → Type 0
  old = SinceMoment bytes steps start marks

  long : length (steps ++ x ∷ []) ≡ length steps + 1
  long = length-append steps (x ∷ [])

  -- an image of the moment that was the last is now one of a moment that the record passed
  passes : (t : ℕ) (c : List ℕ) → Stands bytes steps start marks t c → Passed (bytes ++ more) (steps ++ x ∷ []) start t c
  passes t c stands =
      let same = stood_more bytes more steps x start (length steps) (omega arith) fits ∙ stood_end bytes steps start in
      record {
        k = length steps;
        from = stands.from;
        passed = omega (arith, long);
        image = subst (λ (s : Stand). IsImage s.base s.written c) (sym same) (record {
          size = stands.image.size;
          same = λ i not. stands.image.same i (or_from ((replay bytes steps (at_first start)).written i) (get_or marks i false) not (none i));
        });
      }

  pub pushed_keeps : (t : ℕ) (c : List ℕ) → t ≤ length steps → old t c → new t c
  pushed_keeps t c le (inl passed) = inl (record {
    k = passed.k;
    from = passed.from;
    passed = omega (arith, passed.passed, long);
    image = subst (λ (s : Stand). IsImage s.base s.written c) (sym (stood_more bytes more steps x start passed.k (omega (arith, passed.passed)) fits)) passed.image;
  })
  pushed_keeps t c le (inr stands) = inl (passes t c stands)

  -- an image of the new record is one of now or one of the old record
  pub pushed_else : (t : ℕ) (c : List ℕ) → new t c → old t c ⊎ Stands (bytes ++ more) (steps ++ x ∷ []) start marks (length (steps ++ x ∷ [])) c
  pushed_else t c (inr stands) = inr (record { from = omega arith; image = stands.image })
  pushed_else t c (inl passed) =
      let k = passed.k in
      let le : k ≤ length steps = omega (arith, passed.passed, long) in
      let was = subst (λ (s : Stand). IsImage s.base s.written c) (stood_more bytes more steps x start k le fits) passed.image in
      elim (cases_eq k (length steps)) [
        | inl end ↦
            let now = subst (λ (s : Stand). IsImage s.base s.written c) (ap (λ (j : ℕ). stood bytes steps start j) end ∙ stood_end bytes steps start) was in
            inl (inr (record {
              from = omega (arith, passed.from, end);
              image = record { size = now.size; same = λ i not. now.same i (left_false ((replay bytes steps (at_first start)).written i) (get_or marks i false) not) };
            }))
        | inr before ↦ inl (inl (record { k = k; from = passed.from; passed = omega (arith, le, before); image = was }))
      ]

-- a write's new images come from old ones by a change of its range
pub within_in : (at n i : ℕ) → at ≤ i → i < at + n → within at n i ≡ true
within_in at n i le lt = and_from (nat_le at i) (nat_lt i (at + n)) (le-leb at i le) (lt-ltb i (at + n) lt)

within_out : (at n i : ℕ) → (i < at) ⊎ (at + n ≤ i) → within at n i ≡ false
within_out at n i (inl lt) = and_left (nat_le at i) (nat_lt i (at + n)) (lt-leb at i lt)
within_out at n i (inr le) = and_right (nat_le at i) (nat_lt i (at + n)) (le-ltb i (at + n) le)

swapped : (at n : ℕ) (a b : List ℕ) → SameOutside at n a b → SameOutside at n b a
swapped at n a b same = record { size = sym same.size; before = sym same.before; after = sym same.after }

byte_laid : (c base : List ℕ) (at n i : ℕ) → length c ≡ length base → at + n ≤ length base → at ≤ i → i < at + n → get_or (laid c at (range base at n)) i 0 ≡ get_or base i 0
byte_laid c base at n i same room le lt =
    let bytes = range base at n in
    let long : length bytes ≡ n = length-take-le n (drop at base) (omega (arith, length-drop at base)) in
    let at_k : (l : List ℕ) → get_or (range l at n) (i - at) 0 ≡ get_or l i 0 = λ l. get_or-take n (drop at l) (i - at) 0 (omega arith) ∙ get_or-drop at l (i - at) 0 ∙ ap (λ (j : ℕ). get_or l j 0) (omega arith) in
    let is : range (laid c at bytes) at n ≡ bytes = ap (λ (k : ℕ). range (laid c at bytes) at k) (sym long) ∙ laid_range c at bytes (omega (arith, long, same)) in
    sym (at_k (laid c at bytes)) ∙ ap (λ (l : List ℕ). get_or l (i - at) 0) is ∙ at_k base

pub image_before : (base c : List ℕ) (at n : ℕ) (old new : ℕ → Bool) → Writes at n old new → at + n ≤ length base → IsImage base new c → (d : List ℕ) × IsImage base old d × SameOutside at n d c
image_before base c at n old new writes room image =
    let bytes = range base at n in
    let long : length bytes ≡ n = length-take-le n (drop at base) (omega (arith, length-drop at base)) in
    let torn : SameOutside at n c (laid c at bytes) = subst (λ (k : ℕ). SameOutside at k c (laid c at bytes)) long (laid_outside c at bytes (omega (arith, long, image.size))) in
    (laid c at bytes, record { size = torn.size ∙ image.size; same = λ i not. place i not torn }, swapped at n c (laid c at bytes) torn)
  where
    place : (i : ℕ) → old i ≡ false → SameOutside at n c (laid c at (range base at n)) → get_or (laid c at (range base at n)) i 0 ≡ get_or base i 0
    place i not torn = elim (cases_lt i at) [
      | inl lt ↦ byte_outside at n c (laid c at (range base at n)) i torn (inl lt) ∙ image.same i (writes.outside i (inl lt) ∙ not)
      | inr ge ↦ elim (cases_lt i (at + n)) [
        | inl lt ↦ byte_laid c base at n i image.size room ge lt
        | inr past ↦ byte_outside at n c (laid c at (range base at n)) i torn (inr past) ∙ image.same i (writes.outside i (inr past) ∙ not)
      ]
    ]

module _ (bytes more : List ℕ) (steps : List Step) (at : ℕ) (start : List ℕ) (fits : fits_all (length bytes) steps ≡ true) where
  abbrev write : Step
  write = Written at (length more) (length bytes)

  write_stand : replay (bytes ++ more) (steps ++ write ∷ []) (at_first start) ≡ after_step (bytes ++ more) write (replay bytes steps (at_first start))
  write_stand = replay_push (bytes ++ more) steps write (at_first start) ∙ ap (λ (s : Stand). after_step (bytes ++ more) write s) (replay_more bytes more steps (at_first start) fits)

  written_bytes : range (bytes ++ more) (length bytes) (length more) ≡ more
  written_bytes = ap (λ (l : List ℕ). take (length more) l) (drop_at bytes more (length bytes) refl) ∙ take_all (length more) more (omega arith)

  pub write_content : (content : List ℕ) → (replay bytes steps (at_first start)).content ≡ content → (replay (bytes ++ more) (steps ++ write ∷ []) (at_first start)).content ≡ laid content at more
  write_content content is = ap (λ (s : Stand). s.content) write_stand ∙ ap (λ (l : List ℕ). laid (replay bytes steps (at_first start)).content at l) written_bytes ∙ ap (λ (l : List ℕ). laid l at more) is

  pub write_base : (replay (bytes ++ more) (steps ++ write ∷ []) (at_first start)).base ≡ (replay bytes steps (at_first start)).base
  write_base = ap (λ (s : Stand). s.base) write_stand

  pub write_written : (replay (bytes ++ more) (steps ++ write ∷ []) (at_first start)).written ≡ (λ i. (replay bytes steps (at_first start)).written i || within at (length more) i)
  write_written = ap (λ (s : Stand). s.written) write_stand

  pub write_fits : fits_all (length (bytes ++ more)) (steps ++ write ∷ []) ≡ true
  write_fits = fits_push (length bytes) (length (bytes ++ more)) steps at (length more) (length bytes) (omega (arith, length-append bytes more)) (omega (arith, length-append bytes more)) fits

  or_either : (a b c : Bool) → (a || b) ≡ true → (a || b || c) ≡ true
  or_either true b c is = refl
  or_either false true c is = refl
  or_either false false c is = cc is

  or_middle : (a b c : Bool) → b ≡ false → (a || b || c) ≡ (a || c)
  or_middle true b c is = refl
  or_middle false true c is = cc is
  or_middle false false c is = refl

  abbrev before : Stand
  before = replay bytes steps (at_first start)

  abbrev after : Stand
  after = replay (bytes ++ more) (steps ++ write ∷ []) (at_first start)

  pub write_places : (marks : List Bool) → Writes at (length more) (marked before.written marks) (marked after.written marks)
  write_places marks = record {
    inside = λ i le lt. ap (λ (s : Stand). s.written i || get_or marks i false) write_stand ∙ or_either (before.written i) (within at (length more) i) (get_or marks i false) (or_right (before.written i) (within at (length more) i) (within_in at (length more) i le lt));
    outside = λ i out. ap (λ (s : Stand). s.written i || get_or marks i false) write_stand ∙ or_middle (before.written i) (within at (length more) i) (get_or marks i false) (within_out at (length more) i out);
  }

  pub write_image : (content : List ℕ) → at + length more ≤ length content → IsImage before.base before.written content → IsImage after.base after.written (laid content at more)
  write_image content room image = subst (λ (s : Stand). IsImage s.base s.written (laid content at more)) (sym write_stand) (record {
    size = (laid_outside content at more room).size ∙ image.size;
    same = λ i not. byte_outside at (length more) content (laid content at more) i (laid_outside content at more room) (place i not) ∙ image.same i (left_false (before.written i) (within at (length more) i) not);
  })
    where
      place : (i : ℕ) → (before.written i || within at (length more) i) ≡ false → (i < at) ⊎ (at + length more ≤ i)
      place i not = elim (cases_lt i at) [
        | inl lt ↦ inl lt
        | inr ge ↦ elim (cases_lt i (at + length more)) [
          | inl lt ↦ absurd (cc (or_right (before.written i) (within at (length more) i) (within_in at (length more) i ge lt), not))
          | inr past ↦ inr past
        ]
      ]

  pub write_bases : (size : ℕ) → ((k : ℕ) → length (stood bytes steps start k).base ≡ size) → (k : ℕ) → length (stood (bytes ++ more) (steps ++ write ∷ []) start k).base ≡ size
  write_bases size all k = elim (cases_lt (length steps) k) [
    | inl lt ↦ ap (λ (l : List Step). length (replay (bytes ++ more) l (at_first start)).base) (take_all k (steps ++ write ∷ []) (omega (arith, length-append steps (write ∷ []))))
        ∙ ap length write_base ∙ sym (ap (λ (s : Stand). length s.base) (stood_end bytes steps start)) ∙ all (length steps)
    | inr ge ↦ ap (λ (s : Stand). length s.base) (stood_more bytes more steps write start k ge fits) ∙ all k
  ]

  module _ (marks : List Bool) (none : (i : ℕ) → get_or marks i false ≡ false) where
    pub write_elapses_else : (t : ℕ) (c : List ℕ) → t ≤ length steps → SinceMoment (bytes ++ more) (steps ++ write ∷ []) start marks t c → SinceMoment bytes steps start marks t c ⊎ SinceMoment (bytes ++ more) (steps ++ write ∷ []) start marks (length steps) c
    write_elapses_else t c le now = ⊎_elim (λ was. inl was) (λ stands. inr (inr (record { from = omega (arith, length-append steps (write ∷ [])); image = stands.image }))) (pushed_else bytes more steps write start marks fits none t c now)

    pub write_tears : (size : ℕ) → at + length more ≤ size → length before.base ≡ size → (c : List ℕ) → SinceMoment (bytes ++ more) (steps ++ write ∷ []) start marks (length steps) c
        → (d : List ℕ) × SinceMoment bytes steps start marks (length steps) d × SameOutside at (length more) d c
    write_tears size room long c now = ⊎_elim
        (λ was. (c, was, record { size = refl; before = refl; after = refl }))
        (λ stands.
        let image : IsImage before.base (marked after.written marks) c = subst (λ (l : List ℕ). IsImage l (marked after.written marks) c) write_base stands.image in
        let old = image_before before.base c at (length more) (marked before.written marks) (marked after.written marks) (write_places marks) (omega (arith, long)) image in
        (old.0, inr (record { from = omega arith; image = old.1 }), old.2))
        (pushed_else bytes more steps write start marks fits none (length steps) c now)

-- a sync or a restart that succeeded
module _ (bytes : List ℕ) (steps : List Step) (start : List ℕ) (fits : fits_all (length bytes) steps ≡ true) where
  pub settled : replay bytes (steps ++ Synced ∷ []) (at_first start) ≡ after_step bytes Synced (replay bytes steps (at_first start))
  settled = replay_push bytes steps Synced (at_first start)

  pub settled_bases : (size : ℕ) → length (replay bytes steps (at_first start)).content ≡ size → ((k : ℕ) → length (stood bytes steps start k).base ≡ size) → (k : ℕ) → length (stood bytes (steps ++ Synced ∷ []) start k).base ≡ size
  settled_bases size long all k = elim (cases_lt (length steps) k) [
    | inl lt ↦ ap (λ (l : List Step). length (replay bytes l (at_first start)).base) (take_all k (steps ++ Synced ∷ []) (omega (arith, length-append steps (Synced ∷ [])))) ∙ ap (λ (s : Stand). length s.base) settled ∙ long
    | inr ge ↦ ap (λ (l : List Step). length (replay bytes l (at_first start)).base) (take-append-le k steps (Synced ∷ []) ge) ∙ all k
  ]

  pub settled_fits : fits_all (length bytes) (steps ++ Synced ∷ []) ≡ true
  settled_fits = go steps fits
    where
      go : (l : List Step) → fits_all (length bytes) l ≡ true → fits_all (length bytes) (l ++ Synced ∷ []) ≡ true
      go [] f = refl
      go (Written at len first ∷ l) f = let both = fits_first (length bytes) at len first l f in and_from (nat_le (first + len) (length bytes)) (fits_all (length bytes) (l ++ Synced ∷ [])) (le-leb (first + len) (length bytes) both.0) (go l both.1)
      go (Torn at len byte ∷ l) f = go l f
      go (Synced ∷ l) f = go l f

  module _ (marks : List Bool) (none : (i : ℕ) → get_or marks i false ≡ false) (content : List ℕ) (is : (replay bytes steps (at_first start)).content ≡ content) (image : IsImage (replay bytes steps (at_first start)).base (replay bytes steps (at_first start)).written content) where
    abbrev later : ℕ → List ℕ → Type 0
    later = SinceMoment (bytes ++ []) (steps ++ Synced ∷ []) start marks

    pub settled_only : (c : List ℕ) → later (length (steps ++ Synced ∷ [])) c → c ≡ content
    settled_only c (inl passed) = absurd (omega (arith, passed.from, passed.passed))
    settled_only c (inr stands) =
        let now : IsImage content (λ i. get_or marks i false) c = subst (λ (s : Stand). IsImage s.base (marked s.written marks) c) (ap (λ (b : List ℕ). replay b (steps ++ Synced ∷ []) (at_first start)) (append-nil bytes) ∙ settled ∙ ap (λ (l : List ℕ). after_step bytes Synced (record { content = l; base = (replay bytes steps (at_first start)).base; written = (replay bytes steps (at_first start)).written })) is) stands.image in
        image_alone content c (λ i. get_or marks i false) none now

    pub settled_stays : (c : List ℕ) → later (length steps) c → SinceMoment bytes steps start marks (length steps) c
    settled_stays c now = ⊎_elim (λ was. was)
        (λ stands. inr (record {
          from = omega arith;
          image = subst (λ (l : List ℕ). IsImage (replay bytes steps (at_first start)).base (marked (replay bytes steps (at_first start)).written marks) l) (sym (settled_only c (inr stands)))
              (record { size = image.size; same = λ i not. image.same i (left_false ((replay bytes steps (at_first start)).written i) (get_or marks i false) not) });
        }))
        (pushed_else bytes [] steps Synced start marks fits none (length steps) c now)

    pub settled_else : (t : ℕ) (c : List ℕ) → t ≤ length steps → later t c → SinceMoment bytes steps start marks t c ⊎ later (length steps) c
    settled_else t c le now = ⊎_elim (λ was. inl was) (λ stands. inr (inr (record { from = omega (arith, length-append steps (Synced ∷ [])); image = stands.image }))) (pushed_else bytes [] steps Synced start marks fits none t c now)
