use Rattle.std.proofs.Common.{ap, sym, ◌∙◌, true≢false}
use Rattle.std.specs.Option.{option_copied, is_some}
use Rattle.verifier.proofs.acts.scan_act.Goals as goal

pub unreachable-requires : goal.unreachable-requires
unreachable-requires c =
    let device = c.requires _ (ap (λ o. option_copied o) c.in-Some.is) in
    let some = c.new.ensures.valid.1 device in
    true≢false (sym some ∙ ap is_some c.in_default-new.is)
