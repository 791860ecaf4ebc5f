use Rattle.std.proofs.Common.{ap, rules, ◌∙◌}
use Rattle.nv_model.specs.Memories.{Memory}
use Rattle.script_replay.proofs.fresh.fresh_store.Goals as goal

pub returns-in-Ok : goal.returns-in-Ok
returns-in-Ok c =
    let made = c.in-Ok.ensures.starts in
    record {
      tells = search rules;
      works = search rules;
      size = search rules;
      blank = search rules;
      room = record {
        calls = ap (λ (m : Memory). m.calls) made;
        bytes = ap (λ (m : Memory). m.bytes) made;
        uncalled = ap (λ (m : Memory). m.used_calls) made;
        unwritten = ap (λ (m : Memory). m.used_bytes) made;
        roomy = ap (λ (m : Memory). m.full) made;
        unplanned = ap (λ (m : Memory). m.plan) made ∙ c.new.ensures.items;
      };
    }
