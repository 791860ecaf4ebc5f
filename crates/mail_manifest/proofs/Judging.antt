-- A manifest is good if and only if no cause comes before its scans and all of them were accepted.
use Rattle.std.proofs.Common.{◌≡◌, inl, inr, ℕ, ◌+◌, List, [], ◌∷◌, length, get_or, Option, Some, None, Bool, true, false, ◌==◌, refl, sym, ap, ◌∙◌, subst, arith, true≢false}
use Rattle.std.specs.Prelude.{codes, ◌↔◌}
use Rattle.std.proofs.lemmas.Option.{same_Some}
use Rattle.bench_base.specs.declared.events.Reply.{Reply}
use Rattle.bench_base.proofs.Facts.{some_none, unlike}
use Rattle.line_extensions.specs.Trace.{StepRecord}
use Rattle.mail_manifest.specs.Answers.{AreScanned, IsJudged, AreAccepted, IsGood}
use Rattle.mail_manifest.specs.Causes.{Either, Finds}
use Rattle.mail_manifest.specs.Holds.{IsYes}
use Rattle.mail_manifest.specs.Listings.{Listing, code_of, postage_in_all, AllRead}
use Rattle.mail_manifest.specs.Texts.{said_texts, yes_text, no_count_text, unread_text, no_total_text, no_piece_text}
use Rattle.mail_manifest.specs.declared.answer.Answer.{Answer}
use Rattle.mail_manifest.specs.declared.answer.Answer.TheVariants as answers
use Rattle.std.proofs.lemmas.Bool.{eqb-true}

-- == the one or the other ==

pub either_by : {P Q X Y : Type 0} (b : Bool) → (P → X) → (Q → Y) → Either b P Q → Either b X Y
either_by true f h either = f either
either_by false f h either = h either

pub either_any : {P Q X : Type 0} (b : Bool) → (b ≡ true → P → X) → (b ≡ false → Q → X) → Either b P Q → X
either_any true f h either = f refl either
either_any false f h either = h refl either

-- == no other answer reads as yes ==

one_text : (a b : List ℕ) → a ∷ [] ≡ b ∷ [] → a ≡ b
one_text a b is = cc

-- the byte after `manifest `
abbrev tenth : List ℕ → ℕ
tenth text = get_or text 9 0

piece_tenth : (number : ℕ) (reply : Reply) → tenth (no_piece_text number reply) ≡ 110
unfolding no_piece_text
piece_tenth number reply = refl

count_tenth : (count : ℕ) → tenth (no_count_text count) ≡ 110
unfolding no_count_text
count_tenth count = refl

unread_tenth : (number : ℕ) → tenth (unread_text number) ≡ 110
unfolding unread_text
unread_tenth number = refl

total_tenth : (sum : ℕ) → tenth (no_total_text sum) ≡ 110
unfolding no_total_text
total_tenth sum = refl

yes_tenth : (count total : ℕ) → tenth (yes_text count total) ≡ 121
unfolding yes_text
yes_tenth count total = refl

other_text : (count total : ℕ) (text : List ℕ) → tenth text ≡ 110 → text ∷ [] ≡ yes_text count total ∷ [] → ⊥
other_text count total text at_n is =
    let at = sym at_n ∙ ap (λ (t : List ℕ). tenth t) (one_text text (yes_text count total) is) ∙ yes_tenth count total in omega (arith, at)

-- nor does that of a check that ended at a piece
pub piece_is_no_yes : (count total number : ℕ) (reply : Reply) → no_piece_text number reply ≡ yes_text count total → ⊥
piece_is_no_yes count total number reply is =
    let at = sym (piece_tenth number reply) ∙ ap (λ (t : List ℕ). tenth t) is ∙ yes_tenth count total in omega (arith, at)

-- nor does one where no manifest was opened
pub none_is_no_yes : (texts : List (List ℕ)) → texts ≡ codes "refused manifest none" ∷ [] → IsYes texts → ⊥
none_is_no_yes texts told is =
    let at : 97 ≡ 121 = ap (λ (t : List ℕ). tenth t) (one_text (codes "refused manifest none") (yes_text is.0 is.1) (sym told ∙ is.2)) ∙ yes_tenth is.0 is.1 in omega (arith, at)

-- == the scans ==

module _ (m : Listing) where
  abbrev pub yes : List (List ℕ)
  yes = yes_text m.opening.count m.opening.total ∷ []

  accepted_yes : (number : ℕ) (steps : List StepRecord) (texts : List (List ℕ)) → AreScanned m number steps texts → AreAccepted m number steps → texts ≡ yes
  accepted_yes number [] texts scanned accepted = absurd scanned
  accepted_yes number (d ∷ rest) texts scanned accepted = elim scanned.1 [
    | inl did ↦ either_any (number == length m.marks) (λ last end. end.1) (λ more on. accepted_yes (number + 1) rest texts on accepted.2) did.1
    | inr other ↦ absurd (other.0 accepted.1)
  ]

  yes_accepted : (number : ℕ) (steps : List StepRecord) (texts : List (List ℕ)) → AreScanned m number steps texts → texts ≡ yes → AreAccepted m number steps
  yes_accepted number [] texts scanned is = absurd scanned
  yes_accepted number (d ∷ rest) texts scanned is = elim scanned.1 [
    | inl did ↦ either_any (number == length m.marks)
        (λ last end. (scanned.0, did.0, subst (λ (l : List StepRecord). AreAccepted m (number + 1) l) (sym end.0) (ap (λ (k : ℕ). k + 1) (eqb-true number (length m.marks) last))))
        (λ more on. (scanned.0, did.0, yes_accepted (number + 1) rest texts on is)) did.1
    | inr other ↦ absurd (other_text m.opening.count m.opening.total (no_piece_text number d.reply) (piece_tenth number d.reply) (sym other.2 ∙ is))
  ]

  -- a yes has the numbers of this manifest
  scanned_yes : (number : ℕ) (steps : List StepRecord) (texts : List (List ℕ)) → AreScanned m number steps texts → IsYes texts → texts ≡ yes
  scanned_yes number [] texts scanned is = absurd scanned
  scanned_yes number (d ∷ rest) texts scanned is = elim scanned.1 [
    | inl did ↦ either_any (number == length m.marks) (λ last end. end.1) (λ more on. scanned_yes (number + 1) rest texts on is) did.1
    | inr other ↦ absurd (other_text is.0 is.1 (no_piece_text number d.reply) (piece_tenth number d.reply) (sym other.2 ∙ is.2))
  ]

  -- == what comes before them ==

  -- the first cause is one of four
  data IsCause (cause : Answer) : Type 0 where
    Counted : (n : ℕ) → cause ≡ answers.NoCount n → IsCause cause
    Coded : cause ≡ answers.NoCode → IsCause cause
    Read : (n : ℕ) → cause ≡ answers.Unread n → IsCause cause
    Summed : (n : ℕ) → cause ≡ answers.NoTotal n → IsCause cause

  cause_is : (code : List ℕ) (cause : Answer) → Finds m code (Some cause) → IsCause cause
  cause_is code cause finds =
      either_any (length m.marks == m.opening.count)
      (λ complete coded. elim coded [
        | inl right ↦ elim right.1 [
          | inl read ↦ either_any (postage_in_all m == m.opening.total) (λ total none. absurd (some_none none)) (λ other is. Summed (postage_in_all m) (same_Some cause _ is)) read.1
          | inr unread ↦ Read unread.0 (same_Some cause _ unread.2)
        ]
        | inr wrong ↦ Coded (same_Some cause _ wrong.1)
      ])
      (λ other is. Counted (length m.marks) (same_Some cause _ is)) finds

  -- so it has a text
  text_by : (cause : Answer) → IsCause cause → (text : List ℕ) × (said_texts cause ≡ text ∷ [])
  text_by cause (Counted n is) = (no_count_text n, ap (λ (s : Answer). said_texts s) is)
  text_by cause (Coded is) = (codes "manifest no code", ap (λ (s : Answer). said_texts s) is)
  text_by cause (Read n is) = (unread_text n, ap (λ (s : Answer). said_texts s) is)
  text_by cause (Summed n is) = (no_total_text n, ap (λ (s : Answer). said_texts s) is)

  pub cause_text : (code : List ℕ) (cause : Answer) → Finds m code (Some cause) → (text : List ℕ) × (said_texts cause ≡ text ∷ [])
  cause_text code cause finds = text_by cause (cause_is code cause finds)

  not_yes : (count total : ℕ) (cause : Answer) → IsCause cause → said_texts cause ≡ yes_text count total ∷ [] → ⊥
  not_yes count total cause (Counted n is) same = other_text count total (no_count_text n) (count_tenth n) (sym (ap (λ (s : Answer). said_texts s) is) ∙ same)
  not_yes count total cause (Coded is) same = other_text count total (codes "manifest no code") refl (sym (ap (λ (s : Answer). said_texts s) is) ∙ same)
  not_yes count total cause (Read n is) same = other_text count total (unread_text n) (unread_tenth n) (sym (ap (λ (s : Answer). said_texts s) is) ∙ same)
  not_yes count total cause (Summed n is) same = other_text count total (no_total_text n) (total_tenth n) (sym (ap (λ (s : Answer). said_texts s) is) ∙ same)

  -- what holds if there is no cause
  record IsSound (code : List ℕ) : Type 0 where
    complete : length m.marks ≡ m.opening.count
    coded : code ≡ code_of m
    read : AllRead m
    total : postage_in_all m ≡ m.opening.total

  sound_by : (code : List ℕ) → Finds m code None → IsSound code
  sound_by code finds =
      either_any (length m.marks == m.opening.count)
      (λ complete coded. elim coded [
        | inl right ↦ elim right.1 [
          | inl read ↦ either_any (postage_in_all m == m.opening.total)
              (λ total none. record { complete = eqb-true _ _ complete; coded = right.0; read = read.0; total = eqb-true _ _ total }) (λ other is. absurd (some_none (sym is))) read.1
          | inr unread ↦ absurd (some_none (sym unread.2))
        ]
        | inr wrong ↦ absurd (some_none (sym wrong.1))
      ])
      (λ other is. absurd (some_none (sym is))) finds

  none_by : (code : List ℕ) (cause : Option Answer) → IsSound code → Finds m code cause → cause ≡ None
  none_by code cause sound finds =
      either_any (length m.marks == m.opening.count)
      (λ complete coded. elim coded [
        | inl right ↦ elim right.1 [
          | inl read ↦ either_any (postage_in_all m == m.opening.total) (λ total none. none) (λ other is. absurd (unlike _ _ other sound.total)) read.1
          | inr unread ↦ absurd (true≢false (sym (sound.read unread.1.at unread.1.inside) ∙ unread.1.unread))
        ]
        | inr wrong ↦ absurd (wrong.0 sound.coded)
      ])
      (λ other is. absurd (unlike _ _ other sound.complete)) finds

  -- == the answer ==

  good_by : (code : List ℕ) (cause : Option Answer) (steps : List StepRecord) (texts : List (List ℕ)) → Finds m code cause → IsJudged m cause steps texts → texts ≡ yes → IsGood m code steps
  good_by code (Some cause) steps texts finds judged is = absurd (not_yes m.opening.count m.opening.total cause (cause_is code cause finds) (sym judged.1 ∙ is))
  good_by code None steps texts finds judged is =
      let sound = sound_by code finds in
      record { complete = sound.complete; coded = sound.coded; read = sound.read; total = sound.total; accepted = yes_accepted 1 steps texts judged is }

  pub yes_told : (code : List ℕ) (cause : Option Answer) (steps : List StepRecord) (texts : List (List ℕ)) → Finds m code cause → IsJudged m cause steps texts → IsYes texts → texts ≡ yes
  yes_told code (Some cause) steps texts finds judged is = absurd (not_yes is.0 is.1 cause (cause_is code cause finds) (sym judged.1 ∙ is.2))
  yes_told code None steps texts finds judged is = scanned_yes 1 steps texts judged is

  yes_by : (code : List ℕ) (cause : Option Answer) (steps : List StepRecord) (texts : List (List ℕ)) → Finds m code cause → IsJudged m cause steps texts → IsGood m code steps → texts ≡ yes
  yes_by code cause steps texts finds judged good =
      let sound : IsSound code = record { complete = good.complete; coded = good.coded; read = good.read; total = good.total } in
      accepted_yes 1 steps texts (subst (λ (c : Option Answer). IsJudged m c steps texts) (none_by code cause sound finds) judged) good.accepted

  pub yes_is_good : (code : List ℕ) (cause : Option Answer) (steps : List StepRecord) (texts : List (List ℕ)) → Finds m code cause → IsJudged m cause steps texts → (texts ≡ yes) ↔ IsGood m code steps
  yes_is_good code cause steps texts finds judged = (good_by code cause steps texts finds judged, yes_by code cause steps texts finds judged)
