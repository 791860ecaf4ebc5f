-- What a scan of slots that aren't mixed makes known.
use Rattle.std.proofs.Common.{◌≡◌, inl, inr, ℕ, ◌<◌, List, Bool, Option, Some, None, Result, Ok, Err, OnOk, sym, ◌∙◌, ap, arith, refl}
use Rattle.std.proofs.lemmas.Bool.{cases_eq}
use Rattle.nv_store.specs.Slot.{Held, IsClear}
use Rattle.nv_store.specs.Store.{count_of}
use Rattle.nv_store.specs.Cells.{Known}
use Rattle.nv_store.specs.Scans.{Scanned, Reads}

pub scanned_reads : (n : ℕ) (slots : ℕ → Option Held) (count place : ℕ) (gates : List Bool) (counts : List ℕ) → Scanned n slots count place gates counts → Reads n slots gates counts
scanned_reads n slots count place gates counts scanned = record { gates_are = scanned.gates_are; counts_are = scanned.counts_are }

module _ (n : ℕ) (slots : ℕ → Option Held) (count place : ℕ) (gates : List Bool) (payload counts : List ℕ) (scanned : Scanned n slots count place gates counts) (clear : IsClear n slots)
    (read : (held : Held) → 0 < count → slots place ≡ Some held → held.1 ≡ payload) where
  empty : (i : ℕ) → i < n → count ≡ 0 → (o : Option Held) → slots i ≡ o → slots i ≡ None
  empty i lt none None is = is
  empty i lt none (Some a) is = absurd (omega (arith, clear.counted i a lt is, ap count_of is, scanned.at_most i lt))

  here : 0 < count → (o : Option Held) → slots place ≡ o → ◌≡◌ {A = Option Held} (slots place) (Some (count, payload))
  here some None is = absurd (omega (arith, some, ap count_of is, (scanned.best some).1))
  here some (Some a) is =
      let e : a.0 ≡ count = sym (ap count_of is) ∙ (scanned.best some).1 in
      let f : a.1 ≡ payload = read a some is in
      is ∙ (λ i. Some (e i, f i))

  pub scanned_known : Known n slots count place gates payload
  scanned_known = record {
    clear = clear;
    gates_are = scanned.gates_are;
    blank = λ none i lt. empty i lt none (slots i) refl;
    top = λ some. let best = scanned.best some in record {
      inside = best.0;
      here = here some (slots place) refl;
      below = λ i a lt differs is. elim (cases_eq a.0 count) [
        | inl same ↦ absurd (differs (clear.distinct i place a (count, payload) lt best.0 is (here some (slots place) refl) same))
        | inr less ↦ omega (arith, less, ap count_of is, scanned.at_most i lt)
      ];
    };
  }

pub on_ok_always : {T E P : Type 0} (r : Result T E) → P → OnOk r P
on_ok_always (Ok x) p = p
on_ok_always (Err e) p = tt
