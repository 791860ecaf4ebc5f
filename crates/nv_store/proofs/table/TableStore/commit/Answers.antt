use Rattle.std.proofs.Common.{ℕ, List, length, arith, rules, sym, subst}
use Rattle.nv_store.specs.Store.{Between}
use Rattle.nv_store.specs.Tables.{TableKnown, table_held}
use Rattle.nv_store.specs.TableKnows.{table_shows, table_only}
use Rattle.nv_store.proofs.TableStep.{shows_between}
use Rattle.nv_store.proofs.table.TableStore.commit.Goals as goal

pub returns-then-is_worn-clause-commits : goal.returns-then-is_worn-clause-commits
returns-then-is_worn-clause-commits g c =
    let s = c.args.self.now in
    let heads = s.room.heads.items in
    let payloads = s.room.payloads.items in
    let n = length heads in
    record {
      held = search rules;
      images = record {
        any_moment = λ tells works i now.
            let holds = s.holds works tells in
            subst (λ (image : List ℕ). Between g.row.L 2 n c.args.cell (table_held heads payloads) c.args.payload.now image) (sym (holds.only i now))
            (shows_between g.row.L 2 n c.args.cell (table_held heads payloads) c.args.payload.now (g.N.Nv.content s.nv) c.requires (table_shows g.row.L 2 heads payloads (g.N.Nv.content s.nv) s.room.same holds.known));
        time = search rules;
        shows = search rules;
        untouched = search rules;
      };
      size = search rules;
      causes = search rules;
      calls = search rules;
      free = search rules;
    }

pub commit_cell-done-requires : goal.commit_cell-done-requires
commit_cell-done-requires g c =
    let s = c.args.self.now in
    let works = c.if-self.false in
    (first_of (omega (arith, s.small), grind (arith, s.small), search rules), (s.small, (c.requires, (s.room.same, (s.size, (s.fits, (s.powered works, (c.is_worn.ensures.less c.if-is_worn.false, (s.places, (λ tells. (s.holds works tells).only, λ tells. (s.holds works tells).known))))))))))

pub returns-in-Ok-clause-commits : goal.returns-in-Ok-clause-commits
returns-in-Ok-clause-commits g c =
    let s = c.args.self.now in
    let done = c.commit_cell-done in
    let heads = done.new.heads.items in
    let payloads = done.new.payloads.items in
    let image = g.N.Nv.content done.new.nv in
    record {
      held = search rules;
      images = record {
        any_moment = λ tells works i now. c.commit_cell-done.ensures.any_moment tells i now;
        time = search rules;
        shows = λ tells. table_only (omega (arith, done.ensures.same, done.ensures.long, s.room.same)) (record {
          only = c.in-Ok.ensures.durable tells;
          known = subst (λ (n : ℕ). TableKnown g.row.L 2 n image heads payloads) (sym done.ensures.long) (c.in-Ok.ensures.known tells);
        });
        untouched = search rules;
      };
      size = search rules;
      causes = search rules;
      calls = search rules;
      free = search rules;
    }

pub returns-in-Err-clause-commits : goal.returns-in-Err-clause-commits
returns-in-Err-clause-commits g c = record {
  held = search rules;
  images = record { any_moment = λ tells works i now. c.commit_cell-done.ensures.any_moment tells i now; time = search rules; shows = search rules; untouched = search rules };
  size = search rules;
  causes = search rules;
  calls = search rules;
  free = search rules;
}
