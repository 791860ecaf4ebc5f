use Rattle.std.proofs.Common.{arith, rules}
use Rattle.nv_store.specs.Knows.{holds_shows}
use Rattle.nv_store.proofs.Between.{between_same, between_commits}
use Rattle.nv_store.proofs.lent.commit_lent.Goals as goal

pub returns-then-head : goal.returns-then-head
returns-then-head g c =
    let head = c.args.head.now in
    record {
      keeps = search rules;
      images = record {
        any_moment = λ tells i now.
            let holds = c.requires.holds tells in
            between_same g.row.L c.args.slots 0 (omega arith) head.count head.place head.gates c.args.kept.now c.args.payload.now (g.N.Nv.content c.args.nv.now) holds.known i (holds.only i now);
        time = search rules;
        shows = search rules;
      };
      powered = search rules;
      holds = search rules;
      causes = search rules;
      calls = search rules;
      fills = search rules;
      worn = search rules;
      size = search rules;
    }

pub returns-in-Ok : goal.returns-in-Ok
returns-in-Ok g c =
    let head = c.args.head.now in
    let holds = c.requires.holds in
    record {
      keeps = search rules;
      images = record {
        any_moment = λ tells i now.
            between_commits g.row.L c.args.slots 0 (omega arith) head.count head.place head.gates c.args.kept.now c.args.payload.now (g.N.Nv.content c.args.nv.now) (holds tells).known i (c.commit_at.ensures.any_moment tells i now);
        time = search rules;
        shows = λ tells. holds_shows {head = c.commit_at.new.head} {payload = c.commit_at.new.kept} {now = g.N.Nv.times c.commit_at.new.nv} (record { only = c.in-Ok.ensures.durable tells; known = c.in-Ok.ensures.known tells });
      };
      powered = search rules;
      holds = λ tells works. record { only = c.in-Ok.ensures.durable tells; known = c.in-Ok.ensures.known tells };
      causes = search rules;
      calls = search rules;
      fills = λ tells fresh. c.in-Ok.ensures.fills tells;
      worn = search rules;
      size = search rules;
    }

pub returns-in-Err : goal.returns-in-Err
returns-in-Err g c =
    let head = c.args.head.now in
    let holds = c.requires.holds in
    record {
      keeps = search rules;
      images = record {
        any_moment = λ tells i now.
            between_commits g.row.L c.args.slots 0 (omega arith) head.count head.place head.gates c.args.kept.now c.args.payload.now (g.N.Nv.content c.args.nv.now) (holds tells).known i (c.commit_at.ensures.any_moment tells i now);
        time = search rules;
        shows = search rules;
      };
      powered = search rules;
      holds = search rules;
      causes = search rules;
      calls = search rules;
      fills = λ tells fresh. c.in-Err.ensures.fills tells;
      worn = search rules;
      size = search rules;
    }
