use Rattle.std.proofs.Common.{ℕ, Ok, Err, rules, inl, refl, sym, ◌∙◌, ap, subst}
use Rattle.nv_store.specs.Rooms.{RoomCommits}
use Rattle.node_acts.specs.RowList.{is_worn}
use Rattle.row_node.specs.Knows.{keeps, shows}
use Rattle.row_node.specs.NodeView.{held_in, seen_in}
use Rattle.row_node.proofs.Commits.{next_at, writes, stores, committed, seen_after, filled_after, not_found_worn, fails_off, fails_fresh, fails_spent, keeps_still, seen_still}
use Rattle.row_node.proofs.node.RowNode.commit_change.Goals as goal

pub returns-then-is_worn : goal.returns-then-is_worn
returns-then-is_worn g c =
    let e = c.cell_of-cell.ensures in
    record {
      leaves = c.requires.on;
      kept = e.has (seen_in c.args.self.now) c.requires.fits;
      rests = λ is. refl;
      stays = refl;
      answers = record { worn = (λ is. ap (is_worn (seen_in c.args.self.now)) (sym e.value) ∙ sym c.if-is_worn.ensures, λ is. refl); not_failed = λ is. cc; done = tt };
      stores = record {
        any_moment = λ tells i now. inl (shows c.args.self.now tells c.requires.on i now);
        time = search rules;
        spent = search rules;
        size = search rules;
      };
      writes = search rules;
    }

pub take-requires : goal.take-requires
take-requires g c =
    let k = c.args.self.now in
    let x = c.args.change.now in
    let t = g.R.Rows.table in
    let e = c.cell_of-cell.ensures in
    let payload = g.R.Memory.Cells.bytes c.payload_with-payload.result in
    let room = g.R.Memory.Cells.room k.cells in
    let new = g.R.Memory.Cells.room c.commit.new.self in
    let next = next_at t k.rows (held_in k) x payload c.is_blank-blank.result c.cell_of-cell.result e.value (keeps k) c.requires.fits (e.has (seen_in k) c.requires.fits) c.is_blank-blank.ensures c.payload_with-payload.ensures.reads in
    let did = subst (λ (j : ℕ). RoomCommits g.N.Nv j payload room new k.nv c.commit.new.nv (Ok tt)) e.value c.in-Ok.ensures in
    record { many = did.puts.cells ∙ k.many; committed = (_, _, committed g.met.R.Rows.laws g.N.Nv k.rows room x k.many next new did) }

pub invariant_of-self : goal.invariant_of-self
invariant_of-self g c =
    let k = c.args.self.now in
    let x = c.args.change.now in
    let t = g.R.Rows.table in
    let e = c.cell_of-cell.ensures in
    let payload = g.R.Memory.Cells.bytes c.payload_with-payload.result in
    let room = g.R.Memory.Cells.room k.cells in
    let new = g.R.Memory.Cells.room c.commit.new.self in
    let next = next_at t k.rows (held_in k) x payload c.is_blank-blank.result c.cell_of-cell.result e.value (keeps k) c.requires.fits (e.has (seen_in k) c.requires.fits) c.is_blank-blank.ensures c.payload_with-payload.ensures.reads in
    let did = subst (λ (j : ℕ). RoomCommits g.N.Nv j payload room new k.nv c.commit.new.nv (Ok tt)) e.value c.in-Ok.ensures in
    let takes = c.take.ensures _ _ (committed g.met.R.Rows.laws g.N.Nv k.rows room x k.many next new did) in
    record {
      many = did.puts.cells ∙ k.many;
      filled = filled_after g.met.R.Rows.laws g.N.Nv k.rows room x k.many next new did takes;
      follows = takes.follows;
      size = λ on. did.size ∙ k.size on;
      runs = λ on. did.runs refl;
    }

pub returns-in-Ok : goal.returns-in-Ok
returns-in-Ok g c =
    let k = c.args.self.now in
    let x = c.args.change.now in
    let t = g.R.Rows.table in
    let e = c.cell_of-cell.ensures in
    let payload = g.R.Memory.Cells.bytes c.payload_with-payload.result in
    let room = g.R.Memory.Cells.room k.cells in
    let new = g.R.Memory.Cells.room c.commit.new.self in
    let next = next_at t k.rows (held_in k) x payload c.is_blank-blank.result c.cell_of-cell.result e.value (keeps k) c.requires.fits (e.has (seen_in k) c.requires.fits) c.is_blank-blank.ensures c.payload_with-payload.ensures.reads in
    let did = subst (λ (j : ℕ). RoomCommits g.N.Nv j payload room new k.nv c.commit.new.nv (Ok tt)) e.value c.in-Ok.ensures in
    record {
      leaves = c.requires.on;
      kept = next.has;
      rests = λ is. cc;
      stays = tt;
      answers = record {
        worn = (λ is. cc, λ full. let fresh = ap (is_worn (seen_in k)) (sym e.value) ∙ sym c.if-is_worn.ensures in cc);
        not_failed = λ is. cc;
        done = seen_after g.met.R.Rows.laws g.N.Nv k.rows room x k.many next new did (c.take.ensures _ _ (committed g.met.R.Rows.laws g.N.Nv k.rows room x k.many next new did));
      };
      stores = stores g.met.R.Rows.laws g.N.Nv k.rows room x k.many next did (λ is. cc) (search rules);
      writes = writes g.met.R.Rows.laws g.N.Nv k.rows room x k.many next did c.payload_with-payload.ensures.value;
    }

pub invariant_of-self-in-Err : goal.invariant_of-self-in-Err
invariant_of-self-in-Err g c =
    let k = c.args.self.now in
    let x = c.args.change.now in
    let t = g.R.Rows.table in
    let e = c.cell_of-cell.ensures in
    let payload = g.R.Memory.Cells.bytes c.payload_with-payload.result in
    let room = g.R.Memory.Cells.room k.cells in
    let new = g.R.Memory.Cells.room c.commit.new.self in
    let next = next_at t k.rows (held_in k) x payload c.is_blank-blank.result c.cell_of-cell.result e.value (keeps k) c.requires.fits (e.has (seen_in k) c.requires.fits) c.is_blank-blank.ensures c.payload_with-payload.ensures.reads in
    let did = subst (λ (j : ℕ). RoomCommits g.N.Nv j payload room new k.nv c.commit.new.nv (Err c.in-Err.fail)) e.value c.in-Err.ensures in
    let fresh = ap (is_worn (seen_in k)) (sym e.value) ∙ sym c.if-is_worn.ensures in
    let kept = keeps_still g.met.R.Rows.laws g.N.Nv k.rows room x k.many next did fresh in
    record {
      many = did.puts.cells ∙ k.many;
      filled = kept.filled;
      follows = kept.follows;
      size = λ on. cc;
      runs = λ on. cc;
    }

pub returns-in-Err : goal.returns-in-Err
returns-in-Err g c =
    let k = c.args.self.now in
    let x = c.args.change.now in
    let t = g.R.Rows.table in
    let e = c.cell_of-cell.ensures in
    let payload = g.R.Memory.Cells.bytes c.payload_with-payload.result in
    let room = g.R.Memory.Cells.room k.cells in
    let new = g.R.Memory.Cells.room c.commit.new.self in
    let next = next_at t k.rows (held_in k) x payload c.is_blank-blank.result c.cell_of-cell.result e.value (keeps k) c.requires.fits (e.has (seen_in k) c.requires.fits) c.is_blank-blank.ensures c.payload_with-payload.ensures.reads in
    let did = subst (λ (j : ℕ). RoomCommits g.N.Nv j payload room new k.nv c.commit.new.nv (Err c.in-Err.fail)) e.value c.in-Err.ensures in
    let fresh = ap (is_worn (seen_in k)) (sym e.value) ∙ sym c.if-is_worn.ensures in
    let not_worn = not_found_worn g.met.R.Rows.laws g.N.Nv k.rows room x k.many next did fresh in
    record {
      leaves = fails_off g.met.R.Rows.laws g.N.Nv k.rows room x k.many next did fresh;
      kept = next.has;
      rests = λ is. absurd (not_worn is);
      stays = seen_still g.met.R.Rows.laws g.N.Nv k.rows room x k.many next did fresh;
      answers = fails_fresh g.met.R.Rows.laws g.N.Nv k.rows room x k.many next did fresh _;
      stores = stores g.met.R.Rows.laws g.N.Nv k.rows room x k.many next did not_worn (fails_spent g.met.R.Rows.laws g.N.Nv k.rows room x k.many next did fresh);
      writes = writes g.met.R.Rows.laws g.N.Nv k.rows room x k.many next did c.payload_with-payload.ensures.value;
    }
