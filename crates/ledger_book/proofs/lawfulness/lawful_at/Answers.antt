use Rattle.std.proofs.Common.{◌≡◌, ◌∙◌, sym, ap, subst, reverse, take}
use Rattle.bench_base.specs.Rules.{todays_rules}
use Rattle.bench_base.specs.Ledger.{counted}
use Rattle.ledger_terms.specs.Lawful.{Always, LawfulAt, Debits}
use Rattle.ledger_book.proofs.Prefixes.{always_weaker}
use Rattle.ledger_book.proofs.Growing.{always_counted}
use Rattle.ledger_book.proofs.lawfulness.lawful_at.Goals as goal

pub releases-requires : goal.releases-requires
releases-requires c =
    let before = reverse (take c.args.end c.args.book.now) in
    let kept = always_weaker (LawfulAt todays_rules) (λ P. Debits todays_rules (counted P)) (λ P h. h.debits) before c.requires.earlier in
    let is : counted before ≡ reverse c.deref-then-lawful_commits.result.now = sym (ap reverse c.deref-then-lawful_commits.ensures.value ∙ c.in_ok-earlier.ensures) in
    subst (Always (Debits todays_rules)) is (always_counted (Debits todays_rules) before kept)
