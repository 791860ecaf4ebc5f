use Rattle.std.proofs.Common.{◌∙◌, sym, ap, List, take, get_or}
use Rattle.verifier.specs.declared.index.Entry.{Entry}
use Rattle.verifier.specs.Index.{cell_in, nothing}
use Rattle.verifier.proofs.Indexed.{found_in, found_none, none_past, not_less}
use Rattle.verifier.proofs.index.BlockIndex.find.Goals as goal
use Rattle.verifier.proofs.index.BlockIndex.find.Goals.{else-place-entries-via-then-place-entries+else-is_of, else-place-entries-via-else-place-entries}

pub returns-then-is_of : goal.returns-then-is_of
returns-then-is_of c =
    let es = take c.self.inside.len c.self.inside.entries in
    sym (ap (λ (l : List Entry). cell_in l c.args.device c.args.block) (sym c.self.view_is)
    ∙ found_in es c.args.device c.args.block c.rank_in-place.result c.if-place-entries.true (sym c.is_of.ensures ∙ c.if-is_of.true)
    (λ j lt. not_less c.args.device c.args.block (get_or es j nothing) (c.rank_in-place.ensures.before j lt)))

pub returns-else-place-entries : goal.returns-else-place-entries
returns-else-place-entries c =
    let es = take c.self.inside.len c.self.inside.entries in
    let seen = ap (λ (l : List Entry). cell_in l c.args.device c.args.block) (sym c.self.view_is) in
    elim c.else-place-entries.branch [
      | else-place-entries-via-then-place-entries+else-is_of w ↦
          sym (seen ∙ found_none es c.args.device c.args.block c.rank_in-place.result c.self.invariant.ordered w.if-place-entries.true (sym w.is_of.ensures ∙ w.if-is_of.false) c.rank_in-place.ensures.before c.rank_in-place.ensures.behind)
      | else-place-entries-via-else-place-entries w ↦
          sym (seen ∙ none_past es c.args.device c.args.block c.rank_in-place.result w.if-place-entries.false c.rank_in-place.ensures.before)
    ]
