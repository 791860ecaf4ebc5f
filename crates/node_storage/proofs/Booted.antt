-- What a boot finds of a node.
use Rattle.std.proofs.Common.{◌≡◌, ◌⊎◌, inl, inr, ℕ, ◌+◌, ◌==◌, if◌then◌else◌, List, Option, Some, None, true, false, refl, sym, ◌∙◌, ap, subst, arith}
use Rattle.std.specs.Prelude.{IfSome, IsSome}
use Rattle.std.proofs.lemmas.Bool.Decides.{nat_tests}
use Rattle.nv_model.specs.declared.nv.Nv as nv
use Rattle.nv_model.specs.Moments.{Image, Nested}
use Rattle.nv_store.specs.Turns.{Kept, Cut, Faulted, Spent}
use Rattle.node_acts.specs.declared.act.Started.TheVariants as start
use Rattle.node_acts.specs.Starts.{MayStart}
use Rattle.node_acts.specs.Views.{View, up, up_with, started}
use Rattle.node_storage.specs.declared.node.Node.{Ghosts}
use Rattle.node_storage.specs.Does.{Reads, SpendsOne}
use Rattle.node_storage.specs.Shown.{Allowed, ShowsNext, Sound}
use Rattle.node_storage.specs.Stands.{StoreStands, Stands}
use Rattle.node_storage.specs.Starts.{StartDoes}
use Rattle.node_storage.proofs.Rests.{store_stays}

pub if_is : {A : Type 0} (P : A → Type 0) (o : Option A) (x : A) → o ≡ Some x → IfSome o P → P x
if_is P o x is held = subst (λ (p : Option _). IfSome p P) is held

pick_same : {A : Type 0} (k : ℕ) (a b : A) → (if k == k + 1 then a else b) ≡ b
pick_same k a b = grind (arith, nat_tests)

pick_more : {A : Type 0} (k : ℕ) (a b : A) → (if k + 1 == k + 1 then a else b) ≡ a
pick_more k a b = grind (arith, nat_tests)

module _ {K S N C R : Type 0} (n : Ghosts K S N C R) where
  abbrev count : n.Seen → ℕ
  count s = n.counting.count s

  next_is : (o : Option n.Seen) (image : List ℕ) → ShowsNext n o image → (s : n.Seen) × (o ≡ Some s) × n.IsShown s image
  next_is None image shown = absurd shown
  next_is (Some s) image shown = (s, refl, shown)

  up_same : (o : Option n.Seen) (v : View n.Seen) → up_with n.counting o (count v.state) v ≡ started v.state
  up_same None v = refl
  up_same (Some s) v = pick_same (count v.state) (started s) (started v.state)

  up_more : (s : n.Seen) (v : View n.Seen) → up_with n.counting (Some s) (count v.state + 1) v ≡ started s
  up_more s v = pick_more (count v.state) (started s) (started v.state)

  -- what is seen of a node that came on with this record
  pub record Ups (d : N) (s : n.Seen) (v : View n.Seen) : Type 0 where
    pub on : v.on ≡ true
    pub closed : v.next ≡ None
    pub state_is : s ≡ v.state
    pub sound : Sound n d v

  -- what an image of the storage shows is no damage
  pub undamaged : (g : nv.Ghosts S) → ((d : N) (s : n.Seen) (nv : S) → n.IsSound d s → n.IsShown s (g.content nv) → g.size nv ≡ n.bytes → n.IsDamaged d nv → ⊥)
      → (d : N) (v : View n.Seen) (store : S) → StoreStands n g d v store → g.tells → Image (g.times store) (g.content store) → n.IsDamaged d store → ⊥
  undamaged g intact d v store stands tells content damage =
      by_image (stands.shows tells (g.content store) content)
    where
      by_image : Allowed n v (g.content store) → ⊥
      by_image (inl old) = intact d v.state store (stands.sound tells).state old stands.size damage
      by_image (inr new) =
          let x = next_is v.next (g.content store) new in
          intact d x.0 store (if_is (n.IsSound d) v.next x.0 x.1 (stands.sound tells).next) x.2 stands.size damage

  module _ (one : (d : N) (a b : n.Seen) (c : List ℕ) → n.IsSound d a → n.IsSound d b → n.IsShown a c → n.IsShown b c → a ≡ b) where
    -- a boot finds the commits that count, or these and the open one
    pub booted : (d : N) (v : View n.Seen) (s : n.Seen) (image : List ℕ) → Sound n d v → n.IsSound d s → n.IsShown s image → Allowed n v image → (s ≡ v.state) ⊎ (v.next ≡ Some s)
    booted d v s image sound own shown (inl old) = inl (one d s v.state image own sound.state shown old)
    booted d v s image sound own shown (inr new) =
        let x = next_is v.next image new in
        inr (x.1 ∙ ap (λ (t : n.Seen). Some t) (sym (one d s x.0 image own (if_is (n.IsSound d) v.next x.0 x.1 sound.next) shown x.2)))

  booted_moves : (d : N) (v : View n.Seen) (s : n.Seen) → Sound n d v → (s ≡ v.state) ⊎ (v.next ≡ Some s)
      → (count s ≡ count v.state) ⊎ (IsSome v.next × (count s ≡ count v.state + 1))
  booted_moves d v s sound (inl is) = inl (ap count is)
  booted_moves d v s sound (inr is) =
      inr (subst (λ (o : Option n.Seen). IsSome o) (sym is) refl, if_is (λ (t : n.Seen). count t ≡ count v.state + 1) v.next s is sound.more)

  pub may_start : (d : N) (v : View n.Seen) (s : n.Seen) (k : ℕ) → v.on ≡ false → Sound n d v → (s ≡ v.state) ⊎ (v.next ≡ Some s) → k ≡ count s → MayStart n.counting v (start.Up k)
  may_start d v s k off sound found is = (off, subst (λ (j : ℕ). (j ≡ count v.state) ⊎ (IsSome v.next × (j ≡ count v.state + 1))) (sym is) (booted_moves d v s sound found))

  booted_ups : (d : N) (v : View n.Seen) (s : n.Seen) → Sound n d v → (s ≡ v.state) ⊎ (v.next ≡ Some s) → Ups d s (up n.counting (count s) v)
  booted_ups d v s sound (inl is) =
      subst (λ (w : View n.Seen). Ups d s w) (sym (ap (λ (k : ℕ). up n.counting k v) (ap count is) ∙ up_same v.next v))
      (record { on = refl; closed = refl; state_is = is; sound = record { state = sound.state; next = tt; more = tt } })
  booted_ups d v s sound (inr is) =
      let more : count s ≡ count v.state + 1 = if_is (λ (t : n.Seen). count t ≡ count v.state + 1) v.next s is sound.more in
      subst (λ (w : View n.Seen). Ups d s w) (sym (ap (λ (k : ℕ). up n.counting k v) more ∙ ap (λ (o : Option n.Seen). up_with n.counting o (count v.state + 1) v) is ∙ up_more s v))
      (record { on = refl; closed = refl; state_is = refl; sound = record { state = if_is (n.IsSound d) v.next s is sound.next; next = tt; more = tt } })

  -- a node that came on with this record represents it
  pub came_on : (g : nv.Ghosts S) (d : N) (v : View n.Seen) (k : K) (i : ℕ) → n.is_on k ≡ true → n.name k ≡ d → g.size (n.storage k) ≡ n.bytes → i ≡ count (n.seen k)
      → (g.tells → (c : List ℕ) → Image (g.times (n.storage k)) c → n.IsShown (n.seen k) c)
      → Sound n d v → (n.seen k ≡ v.state) ⊎ (v.next ≡ Some (n.seen k)) → Stands n g d (up n.counting i v) k
  came_on g d v k i on name size is knows sound found =
      let ups = booted_ups d v (n.seen k) sound found in
      subst (λ (j : ℕ). Stands n g d (up n.counting j v) k) (sym is) (record {
        on = on ∙ sym ups.on;
        store = record {
          size = size;
          sound = λ t. ups.sound;
          shows = λ t c now. inl (subst (λ (s : n.Seen). n.IsShown s c) ups.state_is (knows t c now));
        };
        runs = λ o. record { closed = ups.closed; name = name; seen = λ t. ups.state_is };
      })

module _ {K S N C R : Type 0} (n : Ghosts K S N C R) (g : nv.Ghosts S) (d : N) (s t : K) (off : n.is_on s ≡ false)
    (nested : (i : S) → g.tells → Nested (g.times i)) (reads : Reads g (n.storage s) (n.storage t)) where
  pub store_left : (v : View n.Seen) → Stands n g d v s → StoreStands n g d v (n.storage t)
  store_left v st = store_stays n g nested d v (n.storage s) (n.storage t) st.store reads.size reads.mounts

  -- a node that was to be switched on, and is off
  stays_off : n.is_on t ≡ false → (v : View n.Seen) → Stands n g d v s → Stands n g d v t
  stays_off goes v st = record { on = goes ∙ sym off ∙ st.on; store = store_left v st; runs = λ on. absurd (cc (on, st.on, off)) }

  -- power was cut, or the storage failed
  pub cut : n.is_on t ≡ false → Spent 1 (g.meters (n.storage s)) (g.meters (n.storage t)) Cut → StartDoes n g d s t start.Power
  cut goes spent = record {
    already = (λ e. cc, λ on. cc (on, off));
    leaves = goes;
    comes = λ v st tells. sym st.on ∙ off;
    stands = λ v st tells. stays_off goes v st;
    mounts = reads.mounts;
    damaged = λ tells read. absurd read;
    refused = λ e. cc;
    spent = spent;
    once = tt;
  }

  pub faulted : n.is_on t ≡ false → Spent 1 (g.meters (n.storage s)) (g.meters (n.storage t)) Faulted → StartDoes n g d s t start.Fault
  faulted goes spent = record {
    already = (λ e. cc, λ on. cc (on, off));
    leaves = goes;
    comes = λ v st tells. sym st.on ∙ off;
    stands = λ v st tells. stays_off goes v st;
    mounts = reads.mounts;
    damaged = λ tells read. absurd read;
    refused = λ e. cc;
    spent = spent;
    once = tt;
  }

  -- what the storage holds is read
  module _ (intact : (e : N) (r : n.Seen) (nv : S) → n.IsSound e r → n.IsShown r (g.content nv) → g.size nv ≡ n.bytes → n.IsDamaged e nv → ⊥)
      (content_is : (i : S) → g.tells → Image (g.times i) (g.content i)) (spent : Spent 1 (g.meters (n.storage s)) (g.meters (n.storage t)) Kept) where
    pub is_foreign : n.is_on t ≡ false → (g.tells → n.IsDamaged d (n.storage t)) → (g.size (n.storage s) ≡ n.bytes → SpendsOne g (n.storage s) (n.storage t))
        → StartDoes n g d s t start.Damaged
    is_foreign goes damage once = record {
      already = (λ e. cc, λ on. cc (on, off));
      leaves = goes;
      comes = λ v st tells. undamaged n g intact d v (n.storage t) (store_left v st) tells (content_is (n.storage t) tells) (damage tells);
      stands = λ v st tells. stays_off goes v st;
      mounts = reads.mounts;
      damaged = λ tells read. (λ e. damage tells, λ e. refl);
      refused = λ e. cc;
      spent = spent;
      once = once;
    }

    pub comes_on : (one : (e : N) (a b : n.Seen) (c : List ℕ) → n.IsSound e a → n.IsSound e b → n.IsShown a c → n.IsShown b c → a ≡ b)
        → (sized : n.is_on t ≡ true → g.size (n.storage t) ≡ n.bytes) → n.is_on t ≡ true → n.name t ≡ d → n.IsSound d (n.seen t)
        → (knows : g.tells → (c : List ℕ) → Image (g.times (n.storage t)) c → n.IsShown (n.seen t) c) → (k : ℕ) → k ≡ count n (n.seen t)
        → SpendsOne g (n.storage s) (n.storage t) → StartDoes n g d s t (start.Up k)
    comes_on one sized on name own knows k is once = record {
      already = (λ e. cc, λ was. cc (was, off));
      leaves = on;
      comes = λ v st tells. may_start n d v (n.seen t) k (sym st.on ∙ off) (st.store.sound tells) (found v st tells) is;
      stands = λ v st tells. came_on n g d v t k on name (sized on) is knows (st.store.sound tells) (found v st tells);
      mounts = reads.mounts;
      damaged = λ tells read. (λ e. cc, λ damage. absurd (intact d (n.seen t) (n.storage t) own (shown tells) (sized on) damage));
      refused = λ e. cc;
      spent = spent;
      once = once;
    }
      where
        shown : g.tells → n.IsShown (n.seen t) (g.content (n.storage t))
        shown tells = knows tells (g.content (n.storage t)) (content_is (n.storage t) tells)

        found : (v : View n.Seen) → Stands n g d v s → g.tells → (n.seen t ≡ v.state) ⊎ (v.next ≡ Some (n.seen t))
        found v st tells = booted n one d v (n.seen t) (g.content (n.storage t)) (st.store.sound tells) own (shown tells)
            ((store_left v st).shows tells (g.content (n.storage t)) (content_is (n.storage t) tells))
