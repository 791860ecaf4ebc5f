use Rattle.std.proofs.Common.{◌+◌, arith, sym, ◌∙◌, true≢false}
use Rattle.bench_base.specs.Rules.{todays_rules}
use Rattle.bench_base.specs.declared.ledger.Entry.TheVariants.{Begin}
use Rattle.ledger_terms.specs.Lawful.{LawfulAt}
use Rattle.ledger_book.proofs.Prefixes.{always_now, always_front, always_more}
use Rattle.ledger_book.proofs.Nothing.{lawful_nothing}
use Rattle.ledger_book.proofs.lawfulness.lawful.Goals as goal

pub loop-end-init : goal.loop-end-init
loop-end-init c = lawful_nothing todays_rules

pub returns-then-not-branch : goal.returns-then-not-branch
returns-then-not-branch c = (
  λ h. absurd (true≢false (sym h)),
  λ h. sym c.if-not-branch.true ∙ c.in_ok-lawful_at.ensures.1 (always_now (LawfulAt todays_rules) _ (always_front (LawfulAt todays_rules) c.args.book.now (c.loop-end.end + 1) h)),
)

pub loop-end-preserved : goal.loop-end-preserved
loop-end-preserved c =
    always_more (LawfulAt todays_rules) c.args.book.now c.loop-end.end Begin (omega arith) (c.in_ok-lawful_at.ensures.0 c.if-not-branch.false) c.loop-end.invariant
