-- What is done for a line about the manifest, and after a scan, is determined.
use Rattle.std.proofs.Common.{◌≡◌, inl, inr, ℕ, ◌+◌, ◌<◌, List, length, Option, Some, None, Bool, true, false, ◌==◌, sym, ap, ◌∙◌, subst, arith, true≢false}
use Rattle.std.proofs.lemmas.Option.{same_Some}
use Rattle.bench_base.specs.declared.events.Reply.{Reply}
use Rattle.line_extensions.specs.declared.extension.Next.{Next}
use Rattle.mail_manifest.specs.Causes.{Either, FindsTotal, FindsMarks, FindsCode, Finds}
use Rattle.mail_manifest.specs.Listings.{Listing, postage_in_all, AllRead, IsFirstUnread}
use Rattle.mail_manifest.specs.Moves.{Answers, Scans, ByCause, BeginsOn, BeginsBare, BeginsWith, Begins, GoesBy, Scanned, GoesOn, yes_of}
use Rattle.mail_manifest.specs.declared.{opening.ManifestLine.ManifestLine, opening.ManifestLine.TheVariants.Open, opening.ManifestLine.TheVariants.Piece, opening.ManifestLine.TheVariants.Code, opening.ManifestLine.TheVariants.Check, answer.Answer.Answer}
use Rattle.mail_manifest.specs.declared.answer.Answer.TheVariants as answers

-- the one twice, or the other twice
both_by : {P Q R S X : Type 0} (b : Bool) → (P → R → X) → (Q → S → X) → Either b P Q → Either b R S → X
both_by true f h p r = f p r
both_by false f h q s = h q s

-- == the cause ==

module _ (m : Listing) where
  one_total : (a b : Option Answer) → FindsTotal m a → FindsTotal m b → a ≡ b
  one_total a b finds finds' = both_by (postage_in_all m == m.opening.total) (λ none none'. none ∙ sym none') (λ is is'. is ∙ sym is') finds finds'

  none_below : (n k : ℕ) → (one : IsFirstUnread n m) → (other : IsFirstUnread k m) → one.at < other.at → ⊥
  none_below n k one other below = true≢false (sym (other.before one.at below) ∙ one.unread)

  one_unread : (n k : ℕ) → IsFirstUnread n m → IsFirstUnread k m → n ≡ k
  one_unread n k one other =
      let no_less : one.at < other.at → ⊥ = none_below n k one other in
      let no_more : other.at < one.at → ⊥ = none_below k n other one in
      omega (arith, no_less, no_more, one.number_is, other.number_is)

  some_unread : (n : ℕ) → AllRead m → IsFirstUnread n m → ⊥
  some_unread n read one = true≢false (sym (read one.at one.inside) ∙ one.unread)

  one_of_marks : (a b : Option Answer) → FindsMarks m a → FindsMarks m b → a ≡ b
  one_of_marks a b (inl read) (inl read') = one_total a b read.1 read'.1
  one_of_marks a b (inl read) (inr unread) = absurd (some_unread unread.0 read.0 unread.1)
  one_of_marks a b (inr unread) (inl read) = absurd (some_unread unread.0 read.0 unread.1)
  one_of_marks a b (inr unread) (inr unread') = unread.2 ∙ ap (λ (n : ℕ). Some (answers.Unread n)) (one_unread unread.0 unread'.0 unread.1 unread'.1) ∙ sym unread'.2

  one_of_code : (code : List ℕ) (a b : Option Answer) → FindsCode m code a → FindsCode m code b → a ≡ b
  one_of_code code a b (inl right) (inl right') = one_of_marks a b right.1 right'.1
  one_of_code code a b (inl right) (inr wrong) = absurd (wrong.0 right.0)
  one_of_code code a b (inr wrong) (inl right) = absurd (wrong.0 right.0)
  one_of_code code a b (inr wrong) (inr wrong') = wrong.1 ∙ sym wrong'.1

  -- there is one first cause at most
  pub one_cause : (code : List ℕ) (a b : Option Answer) → Finds m code a → Finds m code b → a ≡ b
  one_cause code a b finds finds' = both_by (length m.marks == m.opening.count) (λ coded coded'. one_of_code code a b coded coded') (λ is is'. is ∙ sym is') finds finds'

-- == the moves, of one that is no more than what it keeps and says ==

module _ {S : Type 0} (kept : S → Option Listing) (said : S → Answer) where
  -- what follows the scan of this piece
  pub goes_by : (m : Listing) (number : ℕ) (k : S) (reply : Reply) (next : Next) (new : S) → said k ≡ answers.Scanning number → kept k ≡ Some m → GoesOn kept said (said k) reply k next new
      → GoesBy kept said m number reply next new
  goes_by m number k reply next new waits here goes =
      let scanned : Scanned kept said number reply k next new = subst (λ (s : Answer). GoesOn kept said s reply k next new) waits goes in
      subst (λ (l : Listing). GoesBy kept said l number reply next new) (same_Some scanned.listing m (sym scanned.here ∙ here)) scanned.goes

  module _ (whole : (a b : S) → kept a ≡ kept b → said a ≡ said b → a ≡ b) where
    module _ (next more : Next) (w x : S) where
      answers_one : (a : Answer) (l : Option Listing) → Answers kept said a l next w → Answers kept said a l more x → (next ≡ more) × (w ≡ x)
      answers_one a l one other = (one.ends ∙ sym other.ends, whole w x (one.leaves ∙ sym other.leaves) (one.answers ∙ sym other.answers))

      scans_one : (m : Listing) (number : ℕ) → Scans kept said m number next w → Scans kept said m number more x → (next ≡ more) × (w ≡ x)
      scans_one m number one other = (one.asks ∙ sym other.asks, whole w x (one.leaves ∙ sym other.leaves) (one.waits ∙ sym other.waits))

      cause_one : (m : Listing) (cause : Option Answer) → ByCause kept said m cause next w → ByCause kept said m cause more x → (next ≡ more) × (w ≡ x)
      cause_one m (Some cause) one other = answers_one cause (Some m) one other
      cause_one m None one other = scans_one m 1 one other

      begins_on : (m : Listing) (own : ManifestLine) → BeginsOn kept said m own next w → BeginsOn kept said m own more x → (next ≡ more) × (w ≡ x)
      begins_on m (Open o) one other = answers_one _ _ one other
      begins_on m (Piece mark) one other = both_by (length m.marks == m.opening.count) (λ full full'. answers_one _ _ full full') (λ room room'. answers_one _ _ room room') one other
      begins_on m Code one other = answers_one _ _ one other
      begins_on m (Check code) one other =
          cause_one m one.cause one.does (subst (λ (c : Option Answer). ByCause kept said m c more x) (one_cause m code other.cause one.cause other.finds one.finds) other.does)

      begins_bare : (own : ManifestLine) → BeginsBare kept said own next w → BeginsBare kept said own more x → (next ≡ more) × (w ≡ x)
      begins_bare (Open o) one other = answers_one _ _ one other
      begins_bare (Piece mark) one other = answers_one _ _ one other
      begins_bare Code one other = answers_one _ _ one other
      begins_bare (Check code) one other = answers_one _ _ one other

      begins_with : (m : Option Listing) (own : ManifestLine) → BeginsWith kept said m own next w → BeginsWith kept said m own more x → (next ≡ more) × (w ≡ x)
      begins_with (Some m) own one other = begins_on m own one other
      begins_with None own one other = begins_bare own one other

      -- at first
      pub begins_one : (v : S) (own : ManifestLine) → Begins kept said v own next w → Begins kept said v own more x → (next ≡ more) × (w ≡ x)
      begins_one v own one other = begins_with (kept v) own one other

      goes_by_one : (m : Listing) (number : ℕ) (reply : Reply) → GoesBy kept said m number reply next w → GoesBy kept said m number reply more x → (next ≡ more) × (w ≡ x)
      goes_by_one m number reply (inl did) (inl did') =
          both_by (number == length m.marks) (λ last last'. answers_one (yes_of m) (Some m) last last') (λ on on'. scans_one m (number + 1) on on') did.1 did'.1
      goes_by_one m number reply (inl did) (inr other) = absurd (other.0 did.0)
      goes_by_one m number reply (inr other) (inl did) = absurd (other.0 did.0)
      goes_by_one m number reply (inr other) (inr other') = answers_one (answers.NoPiece number reply) (Some m) other.1 other'.1

      -- after a scan
      pub goes_one : (s : Answer) (reply : Reply) (v : S) → GoesOn kept said s reply v next w → GoesOn kept said s reply v more x → (next ≡ more) × (w ≡ x)
      goes_one (answers.Scanning number) reply v one other =
          goes_by_one one.listing number reply one.goes
          (subst (λ (l : Listing). GoesBy kept said l number reply more x) (same_Some other.listing one.listing (sym other.here ∙ one.here)) other.goes)
      goes_one _ reply v one other = (one.0 ∙ sym other.0, one.1 ∙ sym other.1)
