-- Tables and arrays of a document, beside the data that they represent.
use Rattle.std.proofs.Common.{◌≡◌, ℕ, suc, ◌+◌, ◌<◌, ◌≤◌, List, [], ◌∷◌, ◌++◌, length, drop, Option, Some, None, option_map, option_and_then, Result, Ok, Err, IsErrAnd, refl, sym, ◌∙◌, ap, add-one}
use Rattle.std.proofs.Math.ListN.{get_or, drop_of_length-le}
use Rattle.std.proofs.Math.Seq.{drop-cons}
use Rattle.std.proofs.lemmas.List.{append_assoc, append-nil}
use Rattle.toml.specs.Data.{Data, as_array}
use Rattle.toml.specs.View.{view, items_view, members_view}
use Rattle.toml.specs.declared.value.Value.{Value}
use Rattle.toml.proofs.Lines.{data_of_array}
use Rattle.toml.proofs.Views.{Entry}
use Rattle.host_rates.specs.Answers.{Reads}
use Rattle.host_rates.specs.Reading.{key_count, each, listed}
use Rattle.host_rates.specs.declared.reading.RatesFail.{RatesFail}
use Rattle.host_rates.specs.declared.reading.RatesFail.TheVariants as fail

-- as many keys as entries
pub key_count_members_view : (es : List Entry) → key_count (members_view es) ≡ length es
key_count_members_view [] = refl
key_count_members_view (e ∷ es) = ap suc (key_count_members_view es)

-- == a list read item by item ==

-- the list of a value that is an array of these
pub listed_each : {A V : Type 0} → (f : Data → Option A) (d : Data) (o : Option V) (items_in : V → List Value) {v : V} {vs : List Value} → option_map (λ x. items_view (items_in x)) o ≡ as_array d → o ≡ Some v → vs ≡ items_in v → listed f d ≡ each f (items_view vs)
listed_each f d o items_in seen is same =
    ap (listed f) (data_of_array d _ (sym seen ∙ ap (option_map (λ x. items_view (items_in x))) is ∙ ap (λ vs. Some (items_view vs)) (sym same)))

-- what was read of the items before i, and what stands from i on, make the whole
pub record IsReadUpTo {A : Type 0} (f : Data → Option A) (vs : List Value) (i : ℕ) (done : List A) : Type 0 where
  whole : each f (items_view vs) ≡ option_map (λ more. done ++ more) (each f (items_view (drop i vs)))

none_before : {A : Type 0} → (o : Option (List A)) → o ≡ option_map (λ more. [] ++ more) o
none_before None = refl
none_before (Some more) = refl

one_before : {A : Type 0} → (done : List A) (a : A) (o : Option (List A)) → option_map (λ more. done ++ more) (option_map (λ more. a ∷ more) o) ≡ option_map (λ more. (done ++ (a ∷ [])) ++ more) o
one_before done a None = refl
one_before done a (Some more) = ap Some (sym (append_assoc done (a ∷ []) more))

-- what is read of the items from i on
from : {A : Type 0} → (f : Data → Option A) (vs : List Value) (i : ℕ) (v : Value) (o : Option A) → i < length vs → v ≡ get_or vs i v → f (view v) ≡ o → each f (items_view (drop i vs)) ≡ option_and_then (λ a. option_map (λ more. a ∷ more) (each f (items_view (drop (i + 1) vs)))) o
from f vs i v o lt here is = rw (drop-cons vs i v lt, ← here, is, add-one) refl

pub read_none : {A : Type 0} → (f : Data → Option A) (vs : List Value) → IsReadUpTo f vs 0 []
read_none f vs = record { whole = none_before (each f (items_view vs)) }

pub read_one : {A : Type 0} → {f : Data → Option A} {vs : List Value} {i : ℕ} {done : List A} {v : Value} {a : A} → IsReadUpTo f vs i done → i < length vs → v ≡ get_or vs i v → f (view v) ≡ Some a → IsReadUpTo f vs (i + 1) (done ++ (a ∷ []))
read_one {f} {vs} {i} {done} {v} {a} upto lt here is =
    record { whole = upto.whole ∙ ap (option_map (λ more. done ++ more)) (from f vs i v (Some a) lt here is) ∙ one_before done a (each f (items_view (drop (i + 1) vs))) }

pub read_stop : {A : Type 0} → {f : Data → Option A} {vs : List Value} {i : ℕ} {done : List A} {v : Value} → IsReadUpTo f vs i done → i < length vs → v ≡ get_or vs i v → f (view v) ≡ None → each f (items_view vs) ≡ None
read_stop {f} {vs} {i} {done} {v} upto lt here is = upto.whole ∙ ap (option_map (λ more. done ++ more)) (from f vs i v None lt here is)

pub read_all : {A : Type 0} → {f : Data → Option A} {vs : List Value} {i : ℕ} {done : List A} → IsReadUpTo f vs i done → length vs ≤ i → each f (items_view vs) ≡ Some done
read_all {vs = vs} upto ge = upto.whole ∙ (rw (drop_of_length-le vs ge, append-nil) refl)

-- a part that failed to be read fails the whole, and leaves nothing of it
pub failed : {A B D : Type 0} → (v : A → B) (r : Result A RatesFail) (e : RatesFail) (x : Option B) (o : Option D) → IsErrAnd r (λ f. f ≡ e) → Reads {A = D} (λ y. y) (Err e) o → (o ≡ None → x ≡ None) → Reads v r x
failed v (Ok a) e x o err reads none = absurd err
failed v (Err f) fail.Form x o err reads none = rw err (none reads)
failed v (Err f) (fail.Memory m) x o err reads none = rw err tt
failed v (Err f) (fail.Length n) x o err reads none = absurd reads
failed v (Err f) fail.Toml x o err reads none = absurd reads
