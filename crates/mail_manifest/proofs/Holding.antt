-- A manifest holds by the ledger if its check was answered yes.
use Rattle.std.proofs.Common.{◌≡◌, inl, inr, ℕ, ◌+◌, ◌-◌, ◌<◌, ◌≤◌, List, [], ◌∷◌, ◌++◌, length, Option, Some, None, Result, refl, sym, ap, ◌∙◌, subst, arith}
use Rattle.std.specs.Prelude.{Contains, unwrap_or}
use Rattle.std.proofs.lemmas.Bool.{cases_eq}
use Rattle.std.proofs.lemmas.Grind.{flat_map-append}
use Rattle.std.proofs.lemmas.List.Elements.{Contains-append_left, Contains-append_right}
use Rattle.std.proofs.lemmas.Option.{same_Some}
use Rattle.bench_base.specs.declared.events.Event.TheVariants as ev
use Rattle.bench_base.specs.declared.{ledger.Commit.TheVariants.Accepted, refusals.MarkFault.MarkFault}
use Rattle.bench_base.specs.Ledger.{Ledger, counted}
use Rattle.bench_base.specs.Rules.{editions}
use Rattle.bench_base.specs.Scans.{accepted}
use Rattle.bench_base.specs.Questions.{IsAccepted}
use Rattle.bench_base.proofs.Facts.{ok_same}
use Rattle.line_extensions.specs.Trace.{StepRecord, Skipped, Did}
use Rattle.line_extensions.specs.SideTrace.{SideStep, Plain, Own, Broken, steps_in, steps_of}
use Rattle.indicium.specs.declared.Mark.{Mark}
use Rattle.indicium.specs.Marks.{read_mark}
use Rattle.ledger_terms.specs.Editions.{Editions}
use Rattle.ledger_moves.specs.Histories.{History}
use Rattle.ledger_moves.specs.Tariffs.{Tariff}
use Rattle.run_laws.specs.Trace.{AllMoved, IsAcceptedAs}
use Rattle.run_laws.proofs.Going.{scanned_among}
use Rattle.run_laws.proofs.Sums.{sums_alike}
use Rattle.scan_laws.specs.Acceptances.{IsOfPiece}
use Rattle.scan_laws.proofs.Entries.{accepted_within}
use Rattle.scan_laws.proofs.Marked.{released_postage, one_number}
use Rattle.script_replay.specs.Trace.{ledger_after}
use Rattle.mail_manifest.specs.Answers.{AreAccepted, IsGood, IsAnswered, AreAnswered}
use Rattle.mail_manifest.specs.Holds.{IsMail, debit_in, debited_in_all, ManifestHolds, IsYes, IsGoodBehind, YesHolds}
use Rattle.mail_manifest.specs.Listings.{Listing, mark_at, postage_in, postage_of, postage_in_all}
use Rattle.mail_manifest.specs.declared.{opening.ManifestLine.ManifestLine, opening.ManifestLine.TheVariants.Check}
use Rattle.mail_manifest.proofs.Judging.{yes_told, none_is_no_yes}

-- == the scans of a check ==

-- the scan of the piece at this place was accepted
record WasScanned (m : Listing) (at : ℕ) (steps : List StepRecord) : Type 0 where
  scan : StepRecord
  within : Contains steps scan
  event : scan.event ≡ ev.ScanHex (m.opening.first + at) (mark_at m at)
  accepts : IsAccepted scan.reply

was_later : (m : Listing) (at : ℕ) (d : StepRecord) (rest : List StepRecord) → WasScanned m at rest → WasScanned m at (d ∷ rest)
was_later m at d rest is = record { scan = is.scan; within = Contains-append_right (d ∷ []) rest is.scan is.within; event = is.event; accepts = is.accepts }

was_scanned : (m : Listing) (number : ℕ) (steps : List StepRecord) → AreAccepted m number steps → (at : ℕ) → number ≤ at + 1 → at < length m.marks → WasScanned m at steps
was_scanned m number [] accepted at from lt = absurd (omega (arith, accepted, from, lt))
was_scanned m number (d ∷ rest) accepted at from lt = elim (cases_eq number (at + 1)) [
  | inl same ↦
      let place : number - 1 ≡ at = omega (arith, same) in
      record {
        scan = d;
        within = (0, omega arith, refl);
        event = accepted.0 ∙ ap (λ (j : ℕ). ev.ScanHex (m.opening.first + j) (mark_at m j)) place;
        accepts = accepted.1;
      }
  | inr differs ↦ was_later m at d rest (was_scanned m (number + 1) rest accepted.2 at (omega (arith, from, differs)) lt)
]

-- == by a history ==

module _ (today : Editions editions) (τ : Tariff) (H : Ledger) (history : History τ editions H) where
  mail_by : (n : ℕ) (bytes : List ℕ) → IsAcceptedAs n bytes H → IsMail n bytes H
  mail_by n bytes is = record {
    mark = is.mark;
    code = is.code;
    reads = is.reads;
    released = is.released;
    accepted = accepted_within is.mark.device is.mark.piece n (counted H) is.accepted;
    no_other = λ k within. same_Some _ _ (sym (one_number τ _ _ H today history is.mark.device is.mark.piece k within) ∙ is.accepted);
    debited = released_postage τ _ _ H today history bytes is.mark is.code is.released is.reads;
  }

  -- what a mark shows is what was debited
  debit_alike : (n : ℕ) (bytes : List ℕ) → IsMail n bytes H → postage_of bytes ≡ debit_in (counted H) (read_mark bytes)
  debit_alike n bytes is =
      let shown : postage_of bytes ≡ is.mark.postage = ap (λ (o : Result (Mark × List ℕ) MarkFault). postage_in o) is.reads in
      let paid : debit_in (counted H) (read_mark bytes) ≡ is.mark.postage = ap (λ (o : Result (Mark × List ℕ) MarkFault). debit_in (counted H) o) is.reads ∙ ap (λ (o : Option ℕ). unwrap_or o 0) is.debited in
      shown ∙ sym paid

  -- the piece is accepted under that number and no other
  of_piece : (d p n : ℕ) (bytes : List ℕ) → IsMail n bytes H → IsOfPiece d p bytes → Contains (counted H) (Accepted d p n) × ((k : ℕ) → Contains (counted H) (Accepted d p k) → k ≡ n)
  of_piece d p n bytes is of =
      let same : is.mark ≡ of.mark = ap (λ (m : Mark × List ℕ). m.0) (ok_same (sym is.reads ∙ of.reads)) in
      let device : is.mark.device ≡ d = ap (λ (k : Mark). k.device) same ∙ of.device in
      let piece : is.mark.piece ≡ p = ap (λ (k : Mark). k.piece) same ∙ of.piece in (
        subst (λ (e : ℕ). Contains (counted H) (Accepted e p n)) device (subst (λ (q : ℕ). Contains (counted H) (Accepted is.mark.device q n)) piece is.accepted),
        λ k within. is.no_other k
            (subst (λ (q : ℕ). Contains (counted H) (Accepted is.mark.device q k)) (sym piece) (subst (λ (e : ℕ). Contains (counted H) (Accepted e p k)) (sym device) within)),
      )

  -- a manifest with pieces that are mail, each under its own number
  module _ (m : Listing) (mail : (at : ℕ) → at < length m.marks → IsMail (m.opening.first + at) (mark_at m at) H) where
    differ : (d p i j : ℕ) → i < length m.marks → j < length m.marks → IsOfPiece d p (mark_at m i) → IsOfPiece d p (mark_at m j) → i ≡ j
    differ d p i j first second of of' =
        let here = of_piece d p (m.opening.first + i) (mark_at m i) (mail i first) of in
        let there = of_piece d p (m.opening.first + j) (mark_at m j) (mail j second) of' in
        let same = here.1 (m.opening.first + j) there.0 in omega (arith, same)

    debited : postage_in_all m ≡ debited_in_all m (counted H)
    debited = sums_alike [] postage_of (λ bytes. debit_in (counted H) (read_mark bytes)) m.marks (λ j lt. debit_alike (m.opening.first + j) (mark_at m j) (mail j lt))

-- == each check of a run ==

split_answers : (m : Option Listing) (a rest : List (SideStep ManifestLine)) (after : Option Listing) → AreAnswered m (a ++ rest) after → (mid : Option Listing) × AreAnswered m a mid × AreAnswered mid rest after
split_answers m [] rest after answers = (m, refl, answers)
split_answers m (Plain (Skipped line) ∷ a) rest after answers = split_answers m a rest after answers
split_answers m (Plain (Did line d) ∷ a) rest after answers = let later = split_answers m a rest after answers.1 in (later.0, (answers.0, later.1), later.2)
split_answers m (Own line own steps texts ∷ a) rest after answers =
    let later = split_answers answers.0 a rest after answers.2 in (later.0, (answers.0, answers.1, later.1), later.2)
split_answers m (Broken line own steps ∷ a) rest after answers = absurd answers

module _ (today : Editions editions) (τ : Tariff) (H : Ledger) where
  module _ (all : List StepRecord) (did : AllMoved τ H all) (history : History τ editions (ledger_after τ H all)) where
    -- a good manifest holds by the ledger after its scans and all other steps
    good_holds : (m : Listing) (code : List ℕ) (steps : List StepRecord) → ((d : StepRecord) → Contains steps d → Contains all d) → IsGood m code steps → ManifestHolds m (ledger_after τ H all)
    good_holds m code steps among good =
        let mail = λ (at : ℕ) (lt : at < length m.marks).
        let was = was_scanned m 1 steps good.accepted at (omega arith) lt in
        mail_by today τ (ledger_after τ H all) history (m.opening.first + at) (mark_at m at)
        (scanned_among τ (m.opening.first + at) (mark_at m at) was.scan was.event was.accepts H all did (among was.scan was.within)) in
        record {
          complete = good.complete;
          mail = mail;
          differ = differ today τ (ledger_after τ H all) history m mail;
          total = sym good.total ∙ debited today τ (ledger_after τ H all) history m mail;
        }

    module _ (before : List (SideStep ManifestLine)) (code : List ℕ) (steps : List StepRecord) (texts : List (List ℕ)) (among : (d : StepRecord) → Contains steps d → Contains all d) (told : IsYes texts) where
      by_listing : (mid after : Option Listing) → AreAnswered None before mid → IsAnswered mid (Check code) steps texts after → IsGoodBehind before texts (ledger_after τ H all)
      by_listing None after here answer = absurd (none_is_no_yes texts answer.texts_are told)
      by_listing (Some m) after here answer =
          let tells = yes_told m code answer.cause steps texts answer.finds answer.judged told in
          record { listing = m; here = here; tells = tells; holds = good_holds m code steps among (answer.good.0 tells) }

  -- EACH MANIFEST THAT WAS FOUND GOOD HOLDS BY THE LEDGER
  pub yes_holds : (trace : List (SideStep ManifestLine)) (after : Option Listing) → AreAnswered None trace after → AllMoved τ H (steps_of trace) → History τ editions (ledger_after τ H (steps_of trace))
      → YesHolds trace (ledger_after τ H (steps_of trace))
  yes_holds trace after answers did history before behind line code steps texts are told =
      let split = split_answers None before (Own line (Check code) steps texts ∷ behind) after (subst (λ (l : List (SideStep ManifestLine)). AreAnswered None l after) are answers) in
      by_listing (steps_of trace) did history before code steps texts among told split.0 split.2.0 split.1 split.2.1
    where
      parts : steps_of trace ≡ steps_of before ++ (steps ++ steps_of behind)
      parts = ap (λ (l : List (SideStep ManifestLine)). steps_of l) are ∙ flat_map-append (λ (x : SideStep ManifestLine). steps_in x) before (Own line (Check code) steps texts ∷ behind)

      among : (d : StepRecord) → Contains steps d → Contains (steps_of trace) d
      among d within = subst (λ (l : List StepRecord). Contains l d) (sym parts) (Contains-append_right (steps_of before) (steps ++ steps_of behind) d (Contains-append_left steps (steps_of behind) d within))
