-- How calls go on, one after the other.
use Rattle.std.proofs.Common.{◌⊎◌, inl, inr, ⊎_elim, ℕ, ◌+◌, ◌≤◌, List, sym, ◌∙◌, arith, refl}
use Rattle.nv_model.specs.Bytes.{SameOutside}
use Rattle.nv_model.proofs.Ranges.{outside_wider}
use Rattle.nv_model.specs.Moments.{Times, Nested, Only, Elapses, Tears, Stays, Rests, Part}

-- an image that is changed in the range alone, twice
pub outside_twice : (at n : ℕ) (a b c : List ℕ) → SameOutside at n a b → SameOutside at n b c → SameOutside at n a c
outside_twice at n a b c first second = record {
  size = second.size ∙ first.size;
  before = second.before ∙ first.before;
  after = second.after ∙ first.after;
}

pub outside_none : (at n : ℕ) (a : List ℕ) → SameOutside at n a a
outside_none at n a = record { size = refl; before = refl; after = refl }

-- one call after another
pub elapses_twice : (old mid new : Times) → Nested new → Elapses old mid → Elapses mid new → Elapses old new
elapses_twice old mid new nested first second = record {
  later = omega (arith, first.later, second.later);
  nothing_else = λ t c le now. ⊎_elim
      (λ was. ⊎_elim (λ before. inl before) (λ during. inr (second.keeps old.moment c first.later during)) (first.nothing_else t c le was))
      (λ later. inr (nested old.moment mid.moment c first.later later))
      (second.nothing_else t c (omega (arith, le, first.later)) now);
  keeps = λ t c le was. second.keeps t c (omega (arith, le, first.later)) (first.keeps t c le was);
}

-- the images since the first of two calls began
pub since_twice : (old mid new : Times) (c : List ℕ) → Elapses old mid → Elapses mid new → new.since old.moment c → mid.since old.moment c ⊎ new.since mid.moment c
since_twice old mid new c first second now = second.nothing_else old.moment c first.later now

-- a call that changes no image, after another call
pub stays_behind : (old mid new : Times) → Nested mid → Elapses old mid → Elapses mid new → Stays mid new → (c : List ℕ) → new.since old.moment c → mid.since old.moment c
stays_behind old mid new nested first second stays c now =
    ⊎_elim (λ was. was) (λ later. nested old.moment mid.moment c first.later (stays c later)) (second.nothing_else old.moment c first.later now)

pub stays_twice : (old mid new : Times) → Nested mid → Elapses old mid → Elapses mid new → Stays old mid → Stays mid new → Stays old new
stays_twice old mid new nested first second stays stays' c now = stays c (stays_behind old mid new nested first second stays' c now)

-- no call at all
pub elapses_none : (s : Times) → Elapses s s
elapses_none s = record { later = omega arith; nothing_else = λ t c le now. inl now; keeps = λ t c le now. now }

pub rests_twice : {a b c : List ℕ} {old mid new : Times} → Nested mid → Nested new → Rests a b old mid → Rests b c mid new → Rests a c old new
rests_twice {a} {b} {c} {old} {mid} {new} nested nested' first second = record {
  same = second.same ∙ first.same;
  images = stays_twice old mid new nested first.time second.time first.images second.images;
  time = elapses_twice old mid new nested' first.time second.time;
}

-- the only image is still the only one
pub rests_alone : {a b : List ℕ} {old new : Times} → Nested new → Rests a b old new → Only old a → Only new b
rests_alone {a} {b} {old} {new} nested rests alone c now = alone c (rests.images c (nested old.moment new.moment c rests.time.later now)) ∙ sym rests.same

tears_stays : (at n : ℕ) (old new : Times) → Stays old new → Tears at n old new
tears_stays at n old new stays c now = (c, stays c now, outside_none at n c)

pub tears_twice : (at n : ℕ) (old mid new : Times) → Nested mid → Elapses old mid → Elapses mid new → Tears at n old mid → Tears at n mid new → Tears at n old new
tears_twice at n old mid new nested first second tears tears' c now = ⊎_elim
    (λ was. tears c was)
    (λ later.
    let half = tears' c later in
    let from = tears half.0 (nested old.moment mid.moment half.0 first.later half.1) in
    (from.0, from.1, outside_twice at n from.0 half.0 c from.2 half.2))
    (since_twice old mid new c first second now)

-- a change of a smaller range
pub tears_wider : (at n o m : ℕ) (old new : Times) → at ≤ o → o + m ≤ at + n → Tears o m old new → Tears at n old new
tears_wider at n o m old new le ge tears c now = let from = tears c now in (from.0, from.1, outside_wider at n o m from.0 c from.2 le ge)

pub part_twice : {at n : ℕ} {old mid new : Times} → Nested mid → Nested new → Part at n old mid → Part at n mid new → Part at n old new
part_twice {at} {n} {old} {mid} {new} nested nested' first second = record {
  images = tears_twice at n old mid new nested first.time second.time first.images second.images;
  time = elapses_twice old mid new nested' first.time second.time;
}

pub part_wider : {o m : ℕ} {old new : Times} (at n : ℕ) → at ≤ o → o + m ≤ at + n → Part o m old new → Part at n old new
part_wider {o} {m} {old} {new} at n le ge part = record { images = tears_wider at n o m old new le ge part.images; time = part.time }

pub part_stays : {old new : Times} (at n : ℕ) → Stays old new → Elapses old new → Part at n old new
part_stays {old} {new} at n stays time = record { images = tears_stays at n old new stays; time = time }

pub tears_then_stays : (at n : ℕ) (old mid new : Times) → Nested mid → Elapses old mid → Elapses mid new → Tears at n old mid → Stays mid new → Tears at n old new
tears_then_stays at n old mid new nested first second tears stays = tears_twice at n old mid new nested first second tears (tears_stays at n mid new stays)
