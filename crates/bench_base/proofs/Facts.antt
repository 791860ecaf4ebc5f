-- Small facts that all subjects share: of the variant that an Option or a Result has, of a test, of the first that is found, and of nodes and versions.
use Rattle.std.proofs.Common.{◌≡◌, ◌≢◌, ◌⊎◌, inl, inr, ℕ, ◌+◌, ◌≤◌, Bool, true, false, cond, List, ◌++◌, take, drop, take-append-drop, drop-drop, Option, Some, None, IsSome, IfNone, Result, Ok, Err, refl, sym, ap, ◌∙◌, ⊎_elim, true≢false, arith}
use Rattle.std.specs.Prelude.{◌==◌, ◌&&◌, ◌↔◌, IsTrue}
pub use borrow.Author.Gap.{read_sfits}
use Rattle.std.proofs.lemmas.Bool.{eqb-true, eq-eqb, cases_Bool}
use Rattle.std.proofs.lemmas.Bool.Decides.{nat_tests}
use Rattle.bench_base.specs.declared.{words.Kind.Kind, words.Kind.TheVariants.Enrol, words.Kind.TheVariants.Reset, words.Kind.TheVariants.Audit, words.Kind.TheVariants.Refund, words.Kind.TheVariants.Withdraw, words.Node.Node, words.Node.TheVariants.Device, words.Node.TheVariants.Centre, words.Node.TheVariants.Host, words.Node.TheVariants.Verifier, sizes.TheConstants.MOST_COMMITS}
use Rattle.bench_base.specs.Kinds.{same_kind}
use Rattle.bench_base.specs.Nodes.{same_node}
use Rattle.bench_base.specs.Rows.{first_of}
use Rattle.bench_base.specs.Rules.{is_version, IsVersion}

-- == the variant of an Option or a Result ==

pub some_none : {A : Type 0} {a : A} → Some a ≡ None → ⊥
some_none h = cc

pub some_by : {A : Type 0} (o : Option A) (a : A) → o ≡ Some a → IsSome o
some_by None a h = absurd (cc)
some_by (Some b) a h = refl

pub not_none : {A P : Type 0} (o : Option A) → IsSome o → o ≡ None → P
not_none None some none = absurd (cc)
not_none (Some a) some none = absurd (cc)

pub none_if : {A : Type 0} (o : Option A) → ((x : A) → o ≡ Some x → ⊥) → o ≡ None
none_if None h = refl
none_if (Some x) h = absurd (h x refl)

pub none_by : {A : Type 0} (o : Option A) (P Q : Type 0) → (P → Q) → IfNone o P → IfNone o Q
none_by None P Q f h = f h
none_by (Some a) P Q f h = tt

pub ok_same : {A F : Type 0} {a b : A} → ◌≡◌ {A = Result A F} (Ok a) (Ok b) → a ≡ b
ok_same h = cc

pub ok_err : {A F : Type 0} {x : A} {e : F} → ◌≡◌ {A = Result A F} (Ok x) (Err e) → ⊥
ok_err h = cc

pub err_ok : {A F : Type 0} {x : A} {e : F} → ◌≡◌ {A = Result A F} (Err e) (Ok x) → ⊥
err_ok h = cc

-- == a test ==

-- the same number, or another
pub either : (e d : ℕ) {P : Type 0} → ((e == d) ≡ true → e ≡ d → P) → ((e == d) ≡ false → P) → P
either e d same other = ⊎_elim (λ (h : (e == d) ≡ true). same h (eqb-true e d h)) other (cases_Bool (e == d))

pub and_false : (x y : Bool) → (x && y) ≡ false → x ≡ true → y ≡ false
and_false true y h e = h
and_false false y h e = absurd (true≢false (sym e))

-- a choice that is not 0
pub when : (t : Bool) (x : ℕ) → (cond t x 0 ≡ 0) ⊎ ((t ≡ true) × (cond t x 0 ≡ x))
when true x = inr (refl, refl)
when false x = inl refl

-- another number
pub unlike : (a b : ℕ) → (a == b) ≡ false → a ≢ b
unlike a b other same = true≢false (sym (eq-eqb a b same) ∙ other)

-- a test that says whether something holds
pub is_so : (b : Bool) (P : Type 0) → (IsTrue b ↔ P) → b ≡ true → P
is_so b P h e = h.0 e

pub not_so : (b : Bool) (P : Type 0) → (IsTrue b ↔ P) → b ≡ false → P → ⊥
not_so b P h e p = true≢false (sym (h.1 p) ∙ e)

-- a count that isn't full has room for one more
pub room_left : (n : ℕ) → n ≤ MOST_COMMITS → (n == MOST_COMMITS) ≡ false → n + 1 ≤ MOST_COMMITS
room_left n within not_full = grind (arith, nat_tests)

-- == look-ups that take the first in time ==

-- what is found is new, or was found before
pub found : {A : Type 0} (t : Bool) (o : Option A) (a b : A) → cond t (first_of o (Some a)) o ≡ Some b → ((t ≡ true) × (a ≡ b)) ⊎ (o ≡ Some b)
found true None a b e = inl (refl, cc)
found true (Some y) a b e = inr e
found false o a b e = inr e

pub first_of_some : {A : Type 0} (o : Option A) (a : A) → (b : A) × (first_of o (Some a) ≡ Some b)
first_of_some None a = (a, refl)
first_of_some (Some b) a = (b, refl)

-- what was found stays
pub kept_first : {A : Type 0} (t : Bool) (o : Option A) (a b : A) → o ≡ Some b → cond t (first_of o (Some a)) o ≡ Some b
kept_first true o a b e = rw e refl
kept_first false o a b e = e

-- what was not found before is found now
pub first_of_none : {A : Type 0} (o : Option A) (b : Option A) → ((x : A) → o ≡ Some x → ⊥) → first_of o b ≡ b
first_of_none None b h = refl
first_of_none (Some x) b h = absurd (h x refl)

-- == bytes ==

-- a part, and what follows it
pub behind : (at n : ℕ) (bytes : List ℕ) → take n (drop at bytes) ++ drop (at + n) bytes ≡ drop at bytes
behind at n bytes = ap (λ r. take n (drop at bytes) ++ r) (sym (drop-drop n at bytes)) ∙ take-append-drop n (drop at bytes)

-- == nodes ==

pub same_node_true : (m n : Node) → same_node m n ≡ true → m ≡ n
same_node_true (Device d) (Device e) h = ap Device (eqb-true d e h)
same_node_true Centre Centre h = refl
same_node_true Host Host h = refl
same_node_true Verifier Verifier h = refl
same_node_true _ _ h = absurd (true≢false (sym h))

pub same_node_self : (m : Node) → same_node m m ≡ true
same_node_self (Device d) = eq-eqb d d refl
same_node_self Centre = refl
same_node_self Host = refl
same_node_self Verifier = refl

-- == versions and counts ==

pub known : (v : ℕ) → is_version v ≡ true → IsVersion v
known v h = grind arith

pub known_is : (v : ℕ) → IsVersion v → is_version v ≡ true
known_is v h = grind arith

-- a count that has not come to its end can grow
pub few_more : (count : ℕ) → count ≤ MOST_COMMITS → (count == MOST_COMMITS) ≡ false → count + 1 ≤ MOST_COMMITS
few_more count few fresh = grind (arith, nat_tests)

-- == kinds of transactions ==

-- an enrolment is no reset
pub no_reset : (k : Kind) → same_kind k Enrol ≡ true → same_kind k Reset ≡ false
unfolding same_kind
no_reset Enrol h = refl
no_reset Reset h = absurd (true≢false (sym h))
no_reset Audit h = refl
no_reset Refund h = refl
no_reset Withdraw h = refl
