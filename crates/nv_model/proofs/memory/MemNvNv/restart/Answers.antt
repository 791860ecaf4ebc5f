use Rattle.std.proofs.Common.{ℕ, List, sym, subst, rules}
use Rattle.nv_model.specs.Laws.{content_image}
use Rattle.nv_model.specs.Media.{times_of}
use Rattle.nv_model.specs.Moments.{Image}
use Rattle.nv_model.proofs.memory.MemNvNv.restart.Goals as goal

pub returns-clause-did : goal.returns-clause-did
returns-clause-did c =
    let m = c.args.self.now.medium in
    record {
      durable = search rules;
      found = λ tells. subst (λ (l : List ℕ). Image (times_of m) l) (sym c.settle.ensures.content) (content_image m.bytes.items m.steps.items m.start.items m.marks.items m.content.items m.image);
      synced = search rules;
      kept = search rules;
      images = search rules;
      time = search rules;
      size = search rules;
      answer = search rules;
    }
