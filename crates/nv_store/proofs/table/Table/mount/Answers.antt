use Rattle.std.proofs.Common.{◌≡◌, ℕ, ◌+◌, ◌*◌, ◌<◌, length, Option, Some, None, Result, Ok, OnOk, arith, rules, sym, subst}
use Rattle.std.specs.Prelude.{IfOk, IfNone, IfSome}
use Rattle.nv_model.specs.Moments.{Only}
use Rattle.nv_store.specs.Slot.{slots_at, IsClear}
use Rattle.nv_store.specs.Scans.{IsMixed}
use Rattle.nv_store.specs.declared.causes.MountCause.TheVariants.{Mixed}
use Rattle.nv_store.specs.Tables.{TableKnown}
use Rattle.nv_store.specs.TableKnows.{table_only}
use Rattle.nv_store.proofs.table.Table.mount.Goals as goal

ok_none : {E : Type 0} (P : Type 0) (r : Result (Option ℕ) E) → r ≡ Ok None → IfOk r (λ m. IfNone m P) → P
ok_none {E} P r is p = subst (λ (q : Result (Option ℕ) E). IfOk q (λ m. IfNone m P)) is p

ok_some : {E : Type 0} (P : ℕ → Type 0) (r : Result (Option ℕ) E) (k : ℕ) → r ≡ Ok (Some k) → IfOk r (λ m. IfSome m P) → P k
ok_some {E} P r k is p = subst (λ (q : Result (Option ℕ) E). IfOk q (λ m. IfSome m P)) is p

on_ok : {T E : Type 0} (P : Type 0) (r : Result T E) (x : T) → r ≡ Ok x → OnOk r P → P
on_ok {T} {E} P r x is p = subst (λ (q : Result T E). OnOk q P) is p

same_cell : (j k : ℕ) → Mixed j ≡ Mixed k → j ≡ k
same_cell j k is = cc is

pub returns-in-Ok-Some : goal.returns-in-Ok-Some
returns-in-Ok-Some g c =
    let found = c.settle-found in
    let n = length c.args.room.heads.items in
    let image = g.N.Nv.content found.new.nv in
    let ok : found.result ≡ Ok (Some c.in-Ok-Some.cell) = first_of (cc (c.in-Ok-Some.is, c.in-Ok-Some.field-0-is), search rules, grind rules) in
    record {
      size = search rules;
      of_size = search rules;
      mixed = λ tells k is.
          let here = ok_some (λ j. (j < n) × IsMixed 2 (slots_at g.row.L (j * (2 * (5 + g.row.L))) image)) found.result c.in-Ok-Some.cell ok (found.ensures.mixed tells) in
          let moved = subst (λ (j : ℕ). (j < n) × IsMixed 2 (slots_at g.row.L (j * (2 * (5 + g.row.L))) image)) (same_cell _ _ is) here in
          (on_ok (Only (g.N.Nv.times found.new.nv) image) found.result (Some c.in-Ok-Some.cell) ok (found.ensures.alone tells), moved.0, moved.1);
      least = λ tells k is.
          let clear = λ (m : ℕ). (j : ℕ) → j < m → IsClear 2 (slots_at g.row.L (j * (2 * (5 + g.row.L))) image) in
          subst clear (same_cell _ _ is) (ok_some clear found.result c.in-Ok-Some.cell ok (found.ensures.least tells));
      cells = search rules;
      mounts = search rules;
      shows = search rules;
      works = search rules;
      causes = search rules;
      bytes = search rules;
    }

pub returns-in-Ok-None : goal.returns-in-Ok-None
returns-in-Ok-None g c =
    let found = c.settle-found in
    let heads = found.new.heads.items in
    let payloads = found.new.payloads.items in
    let image = g.N.Nv.content found.new.nv in
    let ok : found.result ≡ Ok None = first_of (cc (c.in-Ok-None.is, c.in-Ok-None.field-0-is), search rules, grind rules) in
    record {
      size = search rules;
      of_size = search rules;
      mixed = search rules;
      least = search rules;
      cells = search rules;
      mounts = search rules;
      shows = λ tells.
          let known : TableKnown g.row.L 2 (length c.args.room.heads.items) image heads payloads = ok_none (TableKnown g.row.L 2 (length c.args.room.heads.items) image heads payloads) found.result ok (found.ensures.known tells) in
          let size = subst (λ (m : ℕ). TableKnown g.row.L 2 m image heads payloads) (sym found.ensures.long) known in
          table_only (omega (arith, found.ensures.same, found.ensures.long, c.args.room.same)) (record { only = on_ok (Only (g.N.Nv.times found.new.nv) image) found.result None ok (found.ensures.alone tells); known = size });
      works = search rules;
      causes = search rules;
      bytes = search rules;
    }
