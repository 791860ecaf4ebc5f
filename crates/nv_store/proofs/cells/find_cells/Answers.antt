use Rattle.std.proofs.Common.{◌≡◌, inl, inr, ℕ, ◌+◌, ◌*◌, ◌≤◌, List, length, true, Result, Ok, Err, arith, rules, sym, ◌∙◌, subst}
use Rattle.std.proofs.lemmas.Bool.{cases_eq}
use Rattle.std.specs.Prelude.{IsErr, IfOk}
use Rattle.nv_model.proofs.Runs.{rests_twice}
use Rattle.nv_store.specs.Slot.{slots_at, IsClear}
use Rattle.nv_store.specs.Scans.{IsMixed}
use Rattle.nv_store.specs.Tables.{TableKnown, PlacesInside}
use Rattle.nv_store.proofs.cells.find_cells.Goals as goal

-- whatever is said of an Ok holds of an error
ok_of_none : {T E : Type 0} (P : T → Type 0) (r : Result T E) → IsErr r → IfOk r P
ok_of_none P (Ok v) none = cc
ok_of_none P (Err e) none = tt

same_number : (a b : ℕ) → a ≤ b → b ≤ a → a ≡ b
same_number a b le ge = omega arith

pub returns-in_err-read_cell : goal.returns-in_err-read_cell
returns-in_err-read_cell g c =
    let was = c.loop-cell.invariant in
    let none = c.from_residual.ensures.0 in
    let read = c.in_err-read_cell.ensures in
    record {
      rests = λ tells. rests_twice (g.met.N.Nv.nested c.loop-cell.nv tells) (g.met.N.Nv.nested c.read_cell.new.nv tells) (was.rests tells) (read.rests tells);
      went = search rules;
      size = read.size ∙ was.size;
      long = read.long ∙ was.long;
      same = read.same ∙ was.same;
      places = ok_of_none _ _ none;
      known = λ tells. ok_of_none _ _ none;
      mixed = λ tells. ok_of_none _ _ none;
      least = λ tells. ok_of_none _ _ none;
    }

pub returns-then-not-branch : goal.returns-then-not-branch
returns-then-not-branch g c =
    let was = c.loop-cell.invariant in
    let read = c.in_ok-read_cell.ensures in
    record {
      rests = λ tells. rests_twice (g.met.N.Nv.nested c.loop-cell.nv tells) (g.met.N.Nv.nested c.read_cell.new.nv tells) (was.rests tells) (read.rests tells);
      went = search rules;
      size = read.size ∙ was.size;
      long = read.long ∙ was.long;
      same = read.same ∙ was.same;
      places = tt;
      known = λ tells. tt;
      mixed = λ tells. (
        omega (arith, c.loop-cell-test.true),
        subst (λ (image : List ℕ). IsMixed 2 (slots_at g.row.L (c.loop-cell.cell * (2 * (5 + g.row.L))) image)) (was.rests tells).same (read.mixed tells c.if-not-branch.true),
      );
      least = was.clear;
    }

pub loop-cell-preserved : goal.loop-cell-preserved
loop-cell-preserved g c =
    let L = g.row.L in
    let was = c.loop-cell.invariant in
    let cell = c.loop-cell.cell in
    let image = g.N.Nv.content c.args.nv.now in
    let read = c.in_ok-read_cell.ensures in
    let is : c.in_ok-read_cell.field-0 ≡ true = c.if-not-branch.false in
    record {
      rests = λ tells. rests_twice (g.met.N.Nv.nested c.loop-cell.nv tells) (g.met.N.Nv.nested c.read_cell.new.nv tells) (was.rests tells) (read.rests tells);
      went = search rules;
      size = read.size ∙ was.size;
      long = read.long ∙ was.long;
      same = read.same ∙ was.same;
      places = read.places is was.places;
      known = λ tells.
          let before = (was.rests tells).same in
          subst (λ (i : List ℕ). TableKnown L 2 (cell + 1) i c.read_cell.new.heads.items c.read_cell.new.payloads.items) before
          (read.known tells is (subst (λ (i : List ℕ). TableKnown L 2 cell i c.loop-cell.heads.items c.loop-cell.payloads.items) (sym before) (was.known tells)));
      clear = λ tells j lt. elim (cases_eq j cell) [
        | inl at ↦
            subst (λ (k : ℕ). IsClear 2 (slots_at L (k * (2 * (5 + L))) image)) (sym at)
            (subst (λ (i : List ℕ). IsClear 2 (slots_at L (cell * (2 * (5 + L))) i)) (was.rests tells).same (read.clear tells is))
        | inr differs ↦ was.clear tells j (omega (arith, lt, differs))
      ];
    }

pub returns : goal.returns
returns g c =
    let was = c.loop-cell.invariant in
    let all : c.loop-cell.cell ≡ length c.args.heads.now.items = same_number _ _ c.loop-cell.auto.cell-end c.loop-cell-test.false ∙ c.len-cells.ensures ∙ c.args.heads.now.ok.0 in
    record {
      rests = was.rests;
      went = search rules;
      size = was.size;
      long = was.long;
      same = was.same;
      places = subst (λ (n : ℕ). PlacesInside 2 n c.loop-cell.heads.items) all was.places;
      known = λ tells. subst (λ (n : ℕ). TableKnown g.row.L 2 n (g.N.Nv.content c.args.nv.now) c.loop-cell.heads.items c.loop-cell.payloads.items) all (was.known tells);
      mixed = λ tells. tt;
      least = λ tells. tt;
    }
