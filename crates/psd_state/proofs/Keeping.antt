-- If a record is that of a list of commits, the record afterwards is that of the list and the commit.
use Rattle.std.proofs.Common.{◌≡◌, ℕ, pos, ◌+◌, ◌≤◌, ◌+ℤ◌, refl, rules, arith, Option, Some, None, Result, Ok, Err, Bool, true, false, cond, List, [], ◌∷◌, ap, sym, ◌∙◌, subst, eq-eqb, ◌==◌, if◌then◌else◌, ◌&&◌, inl, inr}
use Rattle.std.proofs.lemmas.Int.{ints}
use Rattle.std.proofs.lemmas.Option.{none-some, same_Some}
use Rattle.bench_base.specs.declared.{words.Kind.Kind, words.Kind.TheVariants.Enrol, words.Kind.TheVariants.Reset, words.Kind.TheVariants.Audit, words.Kind.TheVariants.Refund, words.Kind.TheVariants.Withdraw, words.Verdict.Verdict, words.Phase.TheVariants.Manufactured, refusals.DevRefusal.DevRefusal, ledger.Commit.Commit, ledger.Commit.TheVariants.Made, ledger.Commit.TheVariants.Asked, ledger.Commit.TheVariants.Applied, ledger.Commit.TheVariants.Debited, ledger.Commit.TheVariants.Registered}
use Rattle.bench_base.specs.declared.refusals.DevRefusal.TheVariants as no
use Rattle.bench_base.specs.Kinds.{same_kind, empties, is_granted, is_dated, is_allowed}
use Rattle.bench_base.proofs.Rows.{passes}
use Rattle.bench_base.proofs.Facts.{not_none, some_by, either, ok_same, err_ok}
use Rattle.indicium.specs.declared.Mark.{Mark}
use Rattle.indicium.specs.Marks as marks
use Rattle.indicium.proofs.Readings.{let_through}
use Rattle.psd_wire.specs.declared.{message.Request.Request, message.DebitMsg.DebitMsg}
use Rattle.psd_wire.specs.declared.message.Message.TheVariants as m
use Rattle.psd_wire.specs.Grammar as grammar
use Rattle.ledger_terms.specs.Requests.{request_in, request_of, in_note, note_of}
use Rattle.ledger_terms.specs.Sums.{takes, loaded, refunded, ascending, descending, whole_descending}
use Rattle.ledger_terms.specs.Devices.{key_of, number, pending, unless_applied, waiting, applied_kind, phase_of, phase}
use Rattle.registers.specs.Sums.{Sums}
use Rattle.psd_state.specs.declared.{debiting.Debited.Debited as Answer, debiting.Debited.TheVariants.New, debiting.Debited.TheVariants.Again}
use Rattle.psd_state.specs.State.{State, Holds, PendingOk, IsAmount}
use Rattle.psd_state.specs.Answers.{unless, waiting_kind, frozen_kind, made_state, ask_rows, request_made, after_ask, note_for, piece_rows, debit_rows, after_debit, repeated, unless_again, again, apply_answer, apply_rows, after_apply, resend_answer}
use Rattle.psd_state.specs.Records.{state_of, IsOutstanding, IsRecordOf, asks, InOrder}
use Rattle.psd_state.specs.Laws.{MakingStarts, AskingKeeps, DebitingKeeps, ApplyingKeeps, OthersKeep, ResendingRepeats}
use Rattle.psd_state.proofs.Passed.{may_debit}
use Rattle.psd_state.proofs.Steps.{request_in_spell, asked_state, debited_state, applied_state, other_state, other_rest}
use Rattle.psd_state.proofs.Ordered.{last, asked_asks, pending_note, pending_unapplied, reply_of, quiet}

-- == an answer that is no refusal ==

pub unless_passes : {A : Type 0} (o : Option Kind) (refusal : Kind → DevRefusal) (x : Result A DevRefusal) (y : A) → unless o refusal x ≡ Ok y → (o ≡ None) × (x ≡ Ok y)
unless_passes None refusal x y h = (refl, h)
unless_passes (Some k) refusal x y h = absurd (err_ok h)

-- == sums as whole numbers ==

-- a descending register that is not cut off
funds_of : (d : ℕ) (s : State) (C : List Commit) → pos s.registers.descending ≡ whole_descending d C → ascending d C + refunded d C ≤ loaded d C
funds_of d s C h = omega (arith, ints, h)

whole_of : (d : ℕ) (C : List Commit) → ascending d C + refunded d C ≤ loaded d C → pos (descending d C) ≡ whole_descending d C
whole_of d C h = omega (arith, ints, h)

-- the record that follows from the commits is theirs, where nothing is cut off
record_of : (s : State) (d : ℕ) (key : List ℕ) (C : List Commit) → state_of d key C ≡ s → key_of d C ≡ Some key → ascending d C + refunded d C ≤ loaded d C
    → IsOutstanding key s.pending (pending d C) → IsRecordOf s d C
record_of s d key C e made funds out =
    let same : key ≡ s.key = ap (λ (x : State). x.key) e in
    record {
      made = made ∙ ap (λ k. Some k) same;
      state = sym e ∙ ap (λ k. state_of d k C) same;
      descending = ap (λ (x : State). pos x.registers.descending) (sym e) ∙ whole_of d C funds;
      outstanding = subst (λ k. IsOutstanding k s.pending (pending d C)) same out;
    }

-- what is outstanding was asked, under its number
asked_of : (key : List ℕ) (o : Option Request) (q : Request) (w : Option (ℕ × List ℕ)) → IsOutstanding key o w → o ≡ Some q → w ≡ Some (q.number, grammar.spell (m.Request q) key)
asked_of key o q w h e = let h' : IsOutstanding key (Some q) w = subst (λ x. IsOutstanding key x w) e h in h'

idle_of : (key : List ℕ) (o : Option Request) (w : Option (ℕ × List ℕ)) → IsOutstanding key o w → waiting_kind o ≡ None → w ≡ None
idle_of key None w h e = h
idle_of key (Some q) w h e = absurd (none-some _ (sym e))

-- == ask ==

pair_first : {A B : Type 0} {a c : A} {b d : B} → ◌≡◌ {A = A × B} (a, b) (c, d) → a ≡ c
pair_first {A = A} {B = B} h = ap (λ (p : A × B). p.0) h

pair_second : {A B : Type 0} {a c : A} {b d : B} → ◌≡◌ {A = A × B} (a, b) (c, d) → b ≡ d
pair_second {A = A} {B = B} h = ap (λ (p : A × B). p.1) h

pub asking_keeps : AskingKeeps
asking_keeps ρ d C s after kind who amount today note order of e holds =
    let q : Request = request_made ρ s kind who amount today in
    let idle = unless_passes (waiting_kind s.pending) no.Busy _ (after, note) e in
    let through = passes (ask_rows ρ s kind amount today) _ (after, note) (search rules) idle.1 in
    let same : (after_ask s q, note_for s q) ≡ (after, note) = ok_same through.1 in
    let is : after_ask s q ≡ after = pair_first same in
    let text : note_for s q ≡ note = pair_second same in
    let whole : Holds (after_ask s q) = subst Holds (sym is) holds in
    let nothing : pending d C ≡ None = idle_of s.key s.pending (pending d C) of.outstanding idle.0 in
    let own : (d == d) ≡ true = eq-eqb d d refl in
    let step : state_of d s.key (Asked d (s.number + 1) (note_for s q) ∷ C) ≡ after_ask s q =
    asked_state d (s.number + 1) s.key q C whole.pending.whole ∙ ap (λ (x : State). after_ask x q) (sym of.state) in
    let applied : number d C ≡ asks d C = let l = last d C order in l.0 nothing in
    let next : s.number + 1 ≡ asks d C + 1 = ap (λ (x : State). x.number + 1) of.state ∙ ap (λ n. n + 1) applied in
    let out : IsOutstanding s.key (Some q) (pending d (Asked d (s.number + 1) (note_for s q) ∷ C)) = rw own refl in
    let kept : IsRecordOf (after_ask s q) d (Asked d (s.number + 1) (note_for s q) ∷ C) =
    record_of (after_ask s q) d s.key (Asked d (s.number + 1) (note_for s q) ∷ C) step of.made (funds_of d s C of.descending) out in (
      subst (λ n. IsRecordOf after d (Asked d (s.number + 1) n ∷ C)) text (subst (λ x. IsRecordOf x d (Asked d (s.number + 1) (note_for s q) ∷ C)) is kept),
      (λ _. (some_by (key_of d C) s.key of.made, next), order),
    )

-- == debit ==

new_same : {s t : State} {x y : List ℕ} → New s x ≡ New t y → s ≡ t
new_same h = cc

again_new : {s : State} {x y : List ℕ} → Again x ≡ New s y → ⊥
again_new h = cc

chosen : (b : Bool) (key : List ℕ) (k : Mark) (after : State) (x : List ℕ) (f : DevRefusal) → (if b then Ok (Again (marks.spell k key)) else Err f) ≡ Ok (New after x) → ⊥
chosen true key k after x f h = again_new (ok_same h)
chosen false key k after x f h = err_ok h

not_again : (c : DebitMsg) (key : List ℕ) (k : Mark) (after : State) (x : List ℕ) → again c key k ≡ Ok (New after x) → ⊥
not_again c key k after x h = chosen ((k.postage == c.postage) && (k.class == c.class)) key k after x (no.Conflict k.postage k.class) h

is_new : (o : Option Mark) (c : DebitMsg) (key : List ℕ) (other : Result Answer DevRefusal) (after : State) (x : List ℕ)
    → unless_again o c key other ≡ Ok (New after x) → other ≡ Ok (New after x)
is_new None c key other after x h = h
is_new (Some k) c key other after x h = absurd (not_again c key k after x h)

pub debiting_keeps : DebitingKeeps
debiting_keeps ρ d C s after c today mark order of e =
    let new = is_new (repeated s.mark c.piece) c s.key _ after mark (let_through (c.device == s.device) _ _ _ e).1 in
    let piece = passes (piece_rows s c) _ (New after mark) (search rules) new in
    let free = unless_passes (frozen_kind s.pending) no.Frozen _ (New after mark) piece.1 in
    let through = passes (debit_rows ρ s c today) _ (New after mark) (search rules) free.1 in
    let is : after_debit ρ s c today ≡ after = new_same (ok_same through.1) in
    let within : c.postage ≤ s.registers.descending = (may_debit ρ s c today through.0).funded in
    let left : s.registers.descending ≡ descending d C = ap (λ (x : State). x.registers.descending) of.state in
    let funds = funds_of d s C of.descending in
    let own : (d == d) ≡ true = eq-eqb d d refl in
    let next : List Commit = Debited d c.piece c.postage c.class today ρ.version ∷ C in
    let step : state_of d s.key next ≡ after_debit ρ s c today = debited_state ρ d s.key c today C ∙ ap (λ (x : State). after_debit ρ x c today) (sym of.state) in
    let funds' : ascending d next + refunded d next ≤ loaded d next = rw own (omega (arith, within, left, funds)) in
    let kept : IsRecordOf (after_debit ρ s c today) d next = record_of (after_debit ρ s c today) d s.key next step of.made funds' of.outstanding in
    (subst (λ x. IsRecordOf x d next) is kept, (λ _. some_by (key_of d C) s.key of.made, order))

-- == apply ==

taken : (g : Bool) (k : Kind) (version a : ℕ) (r : Sums) → IsAmount k version a r → (if g && empties k then a else 0) ≤ r.descending
unfolding same_kind
taken false k version a r h = omega arith
taken true Enrol version a r h = omega arith
taken true Reset version a r h = omega arith
taken true Audit version a r h = omega arith
taken true Refund version a r h = omega (arith, h)
taken true Withdraw version a r h = omega (arith, h)

-- a refund or withdrawal takes off no more than is left
takes_left : (v : Verdict) (q : Request) (r : Sums) → IsAmount q.kind q.version q.amount r → takes v q ≤ r.descending
unfolding takes
takes_left v q r h = taken (is_granted v) q.kind q.version q.amount r h

pub applying_keeps : ApplyingKeeps
applying_keeps d C s after q r order of holds pends ruling reply e =
    let own : (d == d) ≡ true = eq-eqb d d refl in
    let n : ℕ = q.number in
    let note : List ℕ = grammar.spell (m.Request q) s.key in
    let held : PendingOk s.device s.number s.phase s.registers (Some q) = subst (PendingOk s.device s.number s.phase s.registers) pends holds.pending in
    let reads : request_in note ≡ q = request_in_spell q s.key held.whole in
    let waits : pending d C ≡ Some (n, note) = asked_of s.key s.pending q (pending d C) of.outstanding pends in
    let noted : note_of d n C ≡ Some note = pending_note d n note C order waits in
    let note_is : ruling.note ≡ note = same_Some _ _ (sym ruling.request ∙ noted) in
    let told = reply_of d n r.verdict ruling.note r C order ruling.ruling reply in
    let request : request_in ruling.note ≡ q = ap request_in note_is ∙ reads in
    let device : (request_in ruling.note).device ≡ d = ap (λ (x : Request). x.device) request ∙ held.device ∙ ap (λ (x : State). x.device) of.state in
    let deadline = λ (dated : is_dated r.verdict q.kind ≡ true). told.1 (ap (λ (x : Request). is_dated r.verdict x.kind) request ∙ dated) ∙ ap (λ (x : Request). x.day +ℤ pos 92) request in
    let funds = funds_of d s C of.descending in
    let same : state_of d s.key C ≡ s = sym of.state in
    let allowed : is_allowed q.kind (phase d C) ≡ true = subst (λ (x : State). is_allowed q.kind x.phase ≡ true) of.state held.kind in
    let amount : IsAmount q.kind q.version q.amount (state_of d s.key C).registers = subst (λ (x : State). IsAmount q.kind q.version q.amount x.registers) of.state held.amount in
    let next : List Commit = Applied d n r.verdict ∷ C in
    let answer : apply_answer s (Some q) r ≡ Ok after = ap (λ o. apply_answer s o r) (sym pends) ∙ e in
    let through = passes (apply_rows r q) _ after (search rules) answer in
    let step : state_of d s.key next ≡ after_apply (state_of d s.key C) q r =
    applied_state d n s.key r.verdict q r C (record {
      number = refl;
      outstanding = (note, waits, noted, reads);
      verdict = refl;
      deadline = deadline;
      origin = told.0 device;
      allowed = allowed;
      amount = amount;
      funds = funds;
    }) in
    let is : state_of d s.key next ≡ after = step ∙ ap (λ (x : State). after_apply x q r) same ∙ ok_same through.1 in
    let over : pending d next ≡ None = rw own (ap (unless_applied n) waits ∙ ap (λ b. cond b None (Some (n, note))) (eq-eqb n n refl)) in
    let idle : after.pending ≡ None = ap (λ (x : State). x.pending) (sym is) ∙ ap waiting over in
    let number_of : request_of d n C ≡ q = ap in_note noted ∙ reads in
    let less : takes r.verdict (request_of d n C) ≤ descending d C = subst (λ x. takes r.verdict x ≤ descending d C) (sym number_of) (takes_left r.verdict q (state_of d s.key C).registers amount) in
    let funds' : ascending d next + refunded d next ≤ loaded d next = rw own (omega (arith, less, funds)) in
    let out : IsOutstanding s.key after.pending (pending d next) = subst (λ o. IsOutstanding s.key o (pending d next)) (sym idle) over in
    let l = last d C order in (
      record_of after d s.key next is of.made funds' out,
      (λ _. (some_by (key_of d C) s.key of.made, l.1 n note waits ∙ sym (asked_asks d C order), pending_unapplied d n note C order waits, ruling), order),
    )

-- == a new device ==

manufactured : (w a e : Bool) → phase_of w a e ≡ Manufactured → e ≡ false
manufactured true a e h = absurd (cc)
manufactured false true e h = absurd (cc)
manufactured false false true h = absurd (cc)
manufactured false false false h = refl

unenrolled : (d : ℕ) (key : List ℕ) (C : List Commit) → state_of d key C ≡ made_state d key → applied_kind Enrol d C ≡ false
unenrolled d key C h = manufactured (applied_kind Withdraw d C) (applied_kind Audit d C) (applied_kind Enrol d C) (ap (λ (x : State). x.phase) h)

-- a device that was not made has no commits
blank : (d : ℕ) (key : List ℕ) (C : List Commit) → InOrder d C → key_of d C ≡ None → state_of d key C ≡ made_state d key
blank d key [] o h = refl
blank d key (Made e k ∷ C) o h =
    either e d
    (λ own is. absurd (none-some _ (sym h ∙ ap (λ b. cond b (Some k) (key_of d C)) own)))
    (λ not. blank d key C o.1 (sym (ap (λ b. cond b (Some k) (key_of d C)) not) ∙ h))
blank d key (Asked e n note ∷ C) o h =
    either e d
    (λ own is. let f = o.0 is in absurd (not_none (key_of d C) f.0 h))
    (λ not. other_state d key (Asked e n note) C not (inl refl) ∙ blank d key C o.1 h)
blank d key (Applied e n v ∷ C) o h =
    either e d
    (λ own is. let f = o.0 is in absurd (not_none (key_of d C) f.0 h))
    (λ not. other_state d key (Applied e n v) C not (inl refl) ∙ blank d key C o.1 h)
blank d key (Debited e p a k t v ∷ C) o h =
    either e d
    (λ own is. absurd (not_none (key_of d C) (o.0 is) h))
    (λ not. other_state d key (Debited e p a k t v) C not (inl refl) ∙ blank d key C o.1 h)
blank d key (Registered e x k ∷ C) o h =
    let before = blank d key C o.1 h in
    other_state d key (Registered e x k) C refl (inr (unenrolled d key C before)) ∙ before
blank d key (c ∷ C) o h = other_state d key c C refl (inl refl) ∙ blank d key C o.1 h

not_waiting : (w : Option (ℕ × List ℕ)) → waiting w ≡ None → w ≡ None
not_waiting None h = refl
not_waiting (Some p) h = absurd (none-some _ (sym h))

pub making_starts : MakingStarts
making_starts d key C order none =
    let own : (d == d) ≡ true = eq-eqb d d refl in
    let is = blank d key C order none in
    let spent : ascending d C ≡ 0 = ap (λ (x : State). x.registers.ascending) is in
    let back : refunded d C ≡ 0 = ap (λ (x : State). x.registers.refunded) is in
    let next : List Commit = Made d key ∷ C in
    let made : key_of d next ≡ Some key = rw own refl in (
      record_of (made_state d key) d key next is made (omega (arith, spent, back)) (not_waiting (pending d C) (ap (λ (x : State). x.pending) is)),
      (λ _. none, order),
    )

-- == others ==

pub others_keep : OthersKeep
others_keep d C s c other order of =
    let rest = other_rest d c C other in
    let same : state_of d s.key (c ∷ C) ≡ state_of d s.key C = other_state d s.key c C other (quiet d c C order) in
    record {
      made = rest.0 ∙ of.made;
      state = of.state ∙ sym same;
      descending = of.descending ∙ sym rest.2;
      outstanding = subst (λ w. IsOutstanding s.key s.pending w) (sym rest.1) of.outstanding;
    }

-- == what is sent again ==

sent_again : (s : State) (o : Option Request) (n : ℕ) (note : List ℕ) (w : Option (ℕ × List ℕ)) → IsOutstanding s.key o w → w ≡ Some (n, note) → resend_answer s o ≡ Ok note
sent_again s None n note w h e = absurd (none-some _ (sym h ∙ e))
sent_again s (Some q) n note w h e =
    let same : ◌≡◌ {A = ℕ × List ℕ} (q.number, note_for s q) (n, note) = same_Some _ _ (sym h ∙ e) in ap (λ x. Ok x) (pair_second same)

pub resending_repeats : ResendingRepeats
resending_repeats d n C s note of e = sent_again s s.pending n note (pending d C) of.outstanding e
