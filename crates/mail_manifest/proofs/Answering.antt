-- What the checker and the bench did for a line is its answer.
use Rattle.std.proofs.Common.{◌≡◌, ◌⊎◌, inl, inr, ℕ, ◌+◌, List, [], ◌∷◌, length, Option, Some, None, Bool, true, false, ◌==◌, refl, sym, ap, ◌∙◌, subst}
use Rattle.std.specs.Prelude.{codes}
use Rattle.bench_base.specs.declared.{events.Event.Event, events.Reply.Reply}
use Rattle.bench_base.specs.Questions.{IsAccepted}
use Rattle.node_turns.specs.declared.turn.Turn.{Turn}
use Rattle.line_extensions.specs.Trace.{StepRecord, Skipped, Did}
use Rattle.line_extensions.specs.Desks.{World, world, Asks, Does}
use Rattle.line_extensions.specs.SideTrace.{SideStep, Plain, Own, Broken}
use Rattle.line_extensions.specs.declared.{extension.Next.Next, extension.Next.TheVariants.Step, extension.Next.TheVariants.Say, extension.Next.TheVariants.Stop}
use Rattle.mail_manifest.specs.Answers.{IsTold, AreScanned, IsChecked, IsAnsweredOn, IsAnsweredBare, IsAnswered, AreAnswered}
use Rattle.mail_manifest.specs.Causes.{Either, Finds}
use Rattle.mail_manifest.specs.CheckerDesk.{checker_desk}
use Rattle.mail_manifest.specs.Courses.{scan_of, yes_of, Answers, Scans, ByCause, BeginsOn, BeginsBare, BeginsWith}
use Rattle.scan_laws.proofs.Accepting.{accepted_by}
use Rattle.mail_manifest.specs.Listings.{Listing, opened, with_mark, code_of}
use Rattle.mail_manifest.specs.Texts.{said_texts, open_text, piece_text, code_text, yes_text, no_piece_text}
use Rattle.mail_manifest.specs.View.{listing_of, said_of}
use Rattle.mail_manifest.specs.declared.{checker.Checker.Checker, opening.ManifestLine.ManifestLine, opening.ManifestLine.TheVariants.Open, opening.ManifestLine.TheVariants.Piece, opening.ManifestLine.TheVariants.Code, opening.ManifestLine.TheVariants.Check, answer.Answer.Answer}
use Rattle.mail_manifest.specs.declared.answer.Answer.TheVariants as answers
use Rattle.mail_manifest.proofs.Judging.{either_by, either_any, yes_is_good}
use Rattle.mail_manifest.proofs.OneMove.{goes_by}
use Rattle.line_extensions.proofs.Wanting.{IsSay, step_event, ends_at}

-- the next request, by its kind
abbrev IsStop : Next → Type 0
IsStop (Step e) = ⊥
IsStop Say = ⊥
IsStop Stop = Unit {0}

no_step : (n : Next) (e : Event) → n ≡ Step e → IsSay n → ⊥
no_step n e is say = subst (λ (x : Next). IsSay x) is say

no_stop : (n : Next) (e : Event) → n ≡ Step e → IsStop n → ⊥
no_stop n e is stop = subst (λ (x : Next). IsStop x) is stop

module _ {B : Type 0} (Steps : B → B → StepRecord → Turn → Type 0) (told : (s t : B) (d : StepRecord) (turn : Turn) → Steps s t d turn → d.reply ≡ turn.reply) where
  -- what the checker says first it says last
  says_end : (old new : World B Checker) (next : Next) (steps : List StepRecord) (last : Next) → Asks checker_desk Steps old new next steps last → next ≡ Say
      → (steps ≡ []) × (last ≡ Say) × (new ≡ old)
  says_end old new next steps last asks say = let end = ends_at checker_desk Steps old new next steps last asks (inl say) in (end.0, end.1 ∙ say, end.2)

  module _ (answer : Answer) (left : Option Listing) (old new : World B Checker) (next : Next) (steps : List StepRecord) (says : Answers answer left next old.desk) where
    -- the texts are those of its answer
    says_texts : Asks checker_desk Steps old new next steps Say → (steps ≡ []) × (said_texts (said_of new.desk) ≡ said_texts answer) × (listing_of new.desk ≡ left)
    says_texts asks =
        let end = says_end old new next steps Say asks says.ends in
        let same : new.desk ≡ old.desk = ap (λ (w : World B Checker). w.desk) end.2 in (
          end.0,
          ap (λ (k : Checker). said_texts (said_of k)) same ∙ ap (λ (s : Answer). said_texts s) says.answers,
          ap (λ (k : Checker). listing_of k) same ∙ says.leaves,
        )

    says_told : (text : List ℕ) → said_texts answer ≡ text ∷ [] → Asks checker_desk Steps old new next steps Say → IsTold text left steps (said_texts (said_of new.desk)) (listing_of new.desk)
    says_told text is asks = let end = says_texts asks in record { none = end.0; texts_are = end.1 ∙ is; leaves = end.2 }

    says_no_stop : Asks checker_desk Steps old new next steps Stop → ⊥
    says_no_stop asks = let end = says_end old new next steps Stop asks says.ends in subst (λ (x : Next). IsSay x) (sym end.1) tt

  -- == the scans ==

  scans_told : (m : Listing) (number : ℕ) (old new : World B Checker) (next : Next) (steps : List StepRecord) → Scans m number next old.desk → Asks checker_desk Steps old new next steps Say
      → AreScanned m number steps (said_texts (said_of new.desk)) × (listing_of new.desk ≡ Some m)
  scans_told m number old new next [] scans asks = absurd (no_step next _ scans.asks (subst (λ (x : Next). IsSay x) asks.0 tt))
  scans_told m number old new next (d ∷ rest) scans asks =
      let event : d.event ≡ scan_of m number = sym (ap (λ (n : Next). step_event d.event n) asks.2.asks) ∙ ap (λ (n : Next). step_event d.event n) scans.asks in
      let reply : d.reply ≡ asks.2.turn.reply = told old.scene asks.0.scene d asks.2.turn asks.2.did in
      elim (goes_by listing_of said_of m number old.desk asks.2.turn.reply asks.1 asks.0.desk scans.waits scans.leaves asks.2.goes) [
        | inl did ↦ by_place event (accepted_by d.reply asks.2.turn.reply reply did.0) (number == length m.marks) did.1 (λ on. scans_told m (number + 1) asks.0 new asks.1 rest on asks.3)
        | inr other ↦
            let end = says_texts (answers.NoPiece number asks.2.turn.reply) (Some m) asks.0 new asks.1 rest other.1 asks.3 in (
              (event, inr (λ is. other.0 (accepted_by asks.2.turn.reply d.reply (sym reply) is), end.0, end.1 ∙ ap (λ (r : Reply). no_piece_text number r ∷ []) (sym reply))),
              end.2,
            )
      ]
    where
      by_place : d.event ≡ scan_of m number → IsAccepted d.reply → (b : Bool) → Either b (Answers (yes_of m) (Some m) asks.1 asks.0.desk) (Scans m (number + 1) asks.1 asks.0.desk)
          → (Scans m (number + 1) asks.1 asks.0.desk → AreScanned m (number + 1) rest (said_texts (said_of new.desk)) × (listing_of new.desk ≡ Some m))
          → ((d.event ≡ scan_of m number)
          × ((IsAccepted d.reply × Either b ((rest ≡ []) × (said_texts (said_of new.desk) ≡ yes_text m.opening.count m.opening.total ∷ [])) (AreScanned m (number + 1) rest (said_texts (said_of new.desk))))
          ⊎ ((IsAccepted d.reply → ⊥) × (rest ≡ []) × (said_texts (said_of new.desk) ≡ no_piece_text number d.reply ∷ [])))) × (listing_of new.desk ≡ Some m)
      by_place event accepted true says on =
          let end = says_texts (yes_of m) (Some m) asks.0 new asks.1 rest says asks.3 in ((event, inl (accepted, (end.0, end.1))), end.2)
      by_place event accepted false scans' on = let further = on scans' in ((event, inl (accepted, further.0)), further.1)

  -- no scan breaks the line off
  scans_no_stop : (m : Listing) (number : ℕ) (old new : World B Checker) (next : Next) (steps : List StepRecord) → Scans m number next old.desk → Asks checker_desk Steps old new next steps Stop → ⊥
  scans_no_stop m number old new next [] scans asks = no_stop next _ scans.asks (subst (λ (x : Next). IsStop x) asks.0 tt)
  scans_no_stop m number old new next (d ∷ rest) scans asks =
      elim (goes_by listing_of said_of m number old.desk asks.2.turn.reply asks.1 asks.0.desk scans.waits scans.leaves asks.2.goes) [
        | inl did ↦ either_any (number == length m.marks) (λ last says. says_no_stop (yes_of m) (Some m) asks.0 new asks.1 rest says asks.3)
            (λ more on. scans_no_stop m (number + 1) asks.0 new asks.1 rest on asks.3) did.1
        | inr other ↦ says_no_stop (answers.NoPiece number asks.2.turn.reply) (Some m) asks.0 new asks.1 rest other.1 asks.3
      ]

  -- == one line ==

  module _ (s : B) (k : Checker) (new : World B Checker) (first : Next) (steps : List StepRecord) where
    module _ (asks : Asks checker_desk Steps (world s k) new first steps Say) where
      told_by : (answer : Answer) (text : List ℕ) (left : Option Listing) → said_texts answer ≡ text ∷ [] → Answers answer left first k → IsTold text left steps (said_texts (said_of new.desk)) (listing_of new.desk)
      told_by answer text left is says = says_told answer left (world s k) new first steps says text is asks

      by_cause : (m : Listing) (code : List ℕ) (cause : Option Answer) → Finds m code cause → ByCause m cause first k → IsChecked m code steps (said_texts (said_of new.desk)) (listing_of new.desk)
      by_cause m code (Some cause) finds does =
          let end = says_texts cause (Some m) (world s k) new first steps does asks in
          record { cause = Some cause; finds = finds; judged = (end.0, end.1); good = yes_is_good m code (Some cause) steps _ finds (end.0, end.1); leaves = end.2 }
      by_cause m code None finds does =
          let end = scans_told m 1 (world s k) new first steps does asks in
          record { cause = None; finds = finds; judged = end.0; good = yes_is_good m code None steps _ finds end.0; leaves = end.1 }

      on_told : (m : Listing) (own : ManifestLine) → BeginsOn m own first k → IsAnsweredOn m own steps (said_texts (said_of new.desk)) (listing_of new.desk)
      on_told m (Open o) begins = told_by (answers.Opened o.count) (open_text o.count) (Some (opened o)) refl begins
      on_told m (Piece mark) begins =
          either_by (length m.marks == m.opening.count) (λ says. told_by answers.Full (codes "refused manifest full") (Some m) refl says)
          (λ says. told_by (answers.Piece (length m.marks + 1)) (piece_text (length m.marks + 1)) (Some (with_mark m mark)) refl says) begins
      on_told m Code begins = told_by (answers.Code (code_of m)) (code_text (code_of m)) (Some m) refl begins
      on_told m (Check code) begins = by_cause m code begins.cause begins.finds begins.does

      bare_told : (own : ManifestLine) → BeginsBare own first k → IsAnsweredBare own steps (said_texts (said_of new.desk)) (listing_of new.desk)
      bare_told (Open o) begins = told_by (answers.Opened o.count) (open_text o.count) (Some (opened o)) refl begins
      bare_told (Piece mark) begins = told_by answers.NoManifest (codes "refused manifest none") None refl begins
      bare_told Code begins = told_by answers.NoManifest (codes "refused manifest none") None refl begins
      bare_told (Check code) begins = told_by answers.NoManifest (codes "refused manifest none") None refl begins

      own_told : (m : Option Listing) (own : ManifestLine) → BeginsWith m own first k → IsAnswered m own steps (said_texts (said_of new.desk)) (listing_of new.desk)
      own_told (Some m) own begins = on_told m own begins
      own_told None own begins = bare_told own begins

    -- no line about the manifest is broken off
    module _ (asks : Asks checker_desk Steps (world s k) new first steps Stop) where
      whole : (answer : Answer) (left : Option Listing) → Answers answer left first k → ⊥
      whole answer left says = says_no_stop answer left (world s k) new first steps says asks

      cause_whole : (m : Listing) (cause : Option Answer) → ByCause m cause first k → ⊥
      cause_whole m (Some cause) does = whole cause (Some m) does
      cause_whole m None does = scans_no_stop m 1 (world s k) new first steps does asks

      on_whole : (m : Listing) (own : ManifestLine) → BeginsOn m own first k → ⊥
      on_whole m (Open o) begins = whole _ _ begins
      on_whole m (Piece mark) begins = either_any (length m.marks == m.opening.count) (λ full says. whole _ _ says) (λ room says. whole _ _ says) begins
      on_whole m Code begins = whole _ _ begins
      on_whole m (Check code) begins = cause_whole m begins.cause begins.does

      bare_whole : (own : ManifestLine) → BeginsBare own first k → ⊥
      bare_whole (Open o) begins = whole _ _ begins
      bare_whole (Piece mark) begins = whole _ _ begins
      bare_whole Code begins = whole _ _ begins
      bare_whole (Check code) begins = whole _ _ begins

      own_whole : (m : Option Listing) (own : ManifestLine) → BeginsWith m own first k → ⊥
      own_whole (Some m) own begins = on_whole m own begins
      own_whole None own begins = bare_whole own begins

  -- == each line ==

  pub all_answered : (old new : World B Checker) (trace : List (SideStep ManifestLine)) → Does checker_desk Steps old new trace → AreAnswered (listing_of old.desk) trace (listing_of new.desk)
  all_answered old new [] did = ap (λ (w : World B Checker). listing_of w.desk) did
  all_answered old new (Plain (Skipped line) ∷ rest) did =
      subst (λ (m : Option Listing). AreAnswered m rest (listing_of new.desk)) (ap (λ (w : World B Checker). listing_of w.desk) did.1) (all_answered did.0 new rest did.2)
  all_answered old new (Plain (Did line d) ∷ rest) did =
      (did.1.passes, subst (λ (m : Option Listing). AreAnswered m rest (listing_of new.desk)) (ap (λ (k : Checker). listing_of k) did.1.sees) (all_answered did.0 new rest did.2))
  all_answered old new (Own line own steps texts ∷ rest) did = (
    listing_of did.0.desk,
    subst (λ (t : List (List ℕ)). IsAnswered (listing_of old.desk) own steps t (listing_of did.0.desk)) (sym did.1.answer)
        (own_told old.scene did.1.did.desk did.0 did.1.did.first steps did.1.did.asks (listing_of old.desk) own did.1.did.begins),
    all_answered did.0 new rest did.2,
  )
  all_answered old new (Broken line own steps ∷ rest) did = own_whole old.scene did.1.desk did.0 did.1.first steps did.1.asks (listing_of old.desk) own did.1.begins
