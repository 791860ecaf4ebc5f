use Rattle.std.proofs.Common.{◌≡◌, ◌+◌, List, drop, take, refl, sym, ◌∙◌, ap, subst}
use Rattle.text_streams.specs.Texts.{print_line}
use Rattle.trace_runs.specs.declared.{imprint.Printed.TheVariants.Whole, places.Places.Places}
use Rattle.trace_runs.specs.Places.{Adds, Has}
use Rattle.bench_base.proofs.Facts.{is_so, not_so}
use Rattle.trace_runs.proofs.Reaching.{no_line, had_line, new_line}
use Rattle.trace_runs.proofs.places.add_line.Goals as goal

pub returns-then-not-begins_whole : goal.returns-then-not-begins_whole
returns-then-not-begins_whole c =
    no_line c.args.mark.now c.args.prints.now c.args.place c.begins_whole.ensures.long
    (λ is. not_so c.begins_whole.result _ c.begins_whole.ensures.exact c.if-not-begins_whole.true (ap (take 129) c.behind.ensures ∙ is)) c.args.found.now.items

pub returns-then-has : goal.returns-then-has
returns-then-has c =
    let is : take 129 (drop c.args.place c.args.prints.now) ≡ print_line c.args.mark.now =
    sym (ap (take 129) c.behind.ensures) ∙ is_so c.begins_whole.result _ c.begins_whole.ensures.exact c.if-not-begins_whole.false in
    had_line c.args.mark.now c.args.prints.now c.args.place c.begins_whole.ensures.long is c.args.found.now.items
    (subst (λ (l : List Places). Has l (c.args.place + 129)) c.as_slice.ensures.value (is_so c.has.result _ c.has.ensures c.if-has.true))

pub returns : goal.returns
returns c =
    let is : take 129 (drop c.args.place c.args.prints.now) ≡ print_line c.args.mark.now =
    sym (ap (take 129) c.behind.ensures) ∙ is_so c.begins_whole.result _ c.begins_whole.ensures.exact c.if-not-begins_whole.false in
    subst (λ (l : List Places). Adds Whole c.args.mark.now c.args.prints.now c.args.place (c.args.place + 1) c.args.found.now.items l) (sym c.in_ok-push.ensures.items)
    (new_line c.args.mark.now c.args.prints.now c.args.place c.begins_whole.ensures.long is c.args.found.now.items _ refl refl)
