use Rattle.std.proofs.Common.{◌∙◌, ap, List, length, take, arith, ◌<◌, ◌≤◌}
use Rattle.std.proofs.lemmas.List.{length-take, length-set}
use Rattle.verifier.specs.declared.index.Entry.{Entry}
use Rattle.verifier.specs.Index.{cell_in, with_cell}
use Rattle.verifier.proofs.Indexed.{copied_put, put_ordered, put_found, fresh_behind}
use Rattle.verifier.proofs.index.BlockIndex.insert.Goals as goal

pub invariant_of-self : goal.invariant_of-self
invariant_of-self c =
    let i = c.self.inside in
    let own = c.rank_in-place.result in
    let e : Entry = record { device = c.args.device; block = c.args.block; cell = c.args.cell } in
    let room : i.len < length i.entries = omega (arith, ap (λ (es : List Entry). length es) c.self.view_is, length-take i.len i.entries, c.self.invariant.room, c.self.invariant.size, c.requires.room) in
    let inside : own ≤ i.len = omega (arith, c.rank_in-place.ensures.inside, length-take i.len i.entries) in
    let put = copied_put i.entries c.copy_within.new.self i.len own e room inside c.copy_within.ensures.len c.copy_within.ensures.by_index.0 c.copy_within.ensures.by_index.1 in
    record {
      size = length-set c.copy_within.new.self own e ∙ c.copy_within.ensures.len ∙ c.self.invariant.size;
      room = omega (arith, room, c.self.invariant.size);
      ordered = put_ordered _ _ _ _ put c.self.invariant.ordered c.rank_in-place.ensures.before
          (fresh_behind (take i.len i.entries) own e c.self.invariant.ordered (ap (λ (l : List Entry). cell_in l c.args.device c.args.block) c.self.view_is ∙ c.requires.fresh) c.ranges.device.fits c.rank_in-place.ensures.behind)
          c.ranges.device.fits;
    }

pub returns-clause-added : goal.returns-clause-added
returns-clause-added c =
    let i = c.self.inside in
    let own = c.rank_in-place.result in
    let e : Entry = record { device = c.args.device; block = c.args.block; cell = c.args.cell } in
    let room : i.len < length i.entries = omega (arith, ap (λ (es : List Entry). length es) c.self.view_is, length-take i.len i.entries, c.self.invariant.room, c.self.invariant.size, c.requires.room) in
    let inside : own ≤ i.len = omega (arith, c.rank_in-place.ensures.inside, length-take i.len i.entries) in
    let put = copied_put i.entries c.copy_within.new.self i.len own e room inside c.copy_within.ensures.len c.copy_within.ensures.by_index.0 c.copy_within.ensures.by_index.1 in
    λ d b. put_found _ _ _ _ put c.rank_in-place.ensures.before d b ∙ ap (λ (l : List Entry). with_cell c.args.device c.args.block c.args.cell l d b) c.self.view_is
