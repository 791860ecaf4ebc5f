-- What one commit does to what follows from the commits for a device.
use Rattle.std.proofs.Common.{◌≡◌, ℕ, ℤ, pos, ◌+◌, ◌-◌, ◌≤◌, ◌+ℤ◌, refl, arith, Option, Some, None, Bool, true, false, cond, List, [], ◌∷◌, ap, ap₂, sym, ◌∙◌, eq-eqb, ◌==◌, if◌then◌else◌, ◌&&◌, ◌||◌, true≢false, ◌⊎◌, inl, inr}
use Rattle.bench_base.specs.declared.{words.Kind.Kind, words.Kind.TheVariants.Enrol, words.Kind.TheVariants.Reset, words.Kind.TheVariants.Audit, words.Kind.TheVariants.Refund, words.Kind.TheVariants.Withdraw, words.Verdict.Verdict, words.Node.TheVariants.Device, words.Phase.TheVariants.Authorised, ledger.Commit.Commit, ledger.Commit.TheVariants.Made, ledger.Commit.TheVariants.Asked, ledger.Commit.TheVariants.Applied, ledger.Commit.TheVariants.Debited, ledger.Commit.TheVariants.Registered, ledger.Commit.TheVariants.Opened, ledger.Commit.TheVariants.Deposited, ledger.Commit.TheVariants.Flagged, ledger.Commit.TheVariants.Ruled, ledger.Commit.TheVariants.Settled, ledger.Commit.TheVariants.Ordered, ledger.Commit.TheVariants.Held, ledger.Commit.TheVariants.Began, ledger.Commit.TheVariants.Closed, ledger.Commit.TheVariants.Trusted, ledger.Commit.TheVariants.Accepted}
use Rattle.bench_base.specs.Nodes.{same_node, node_of}
use Rattle.bench_base.specs.Kinds.{same_kind, empties, is_granted, is_dated, is_allowed}
use Rattle.bench_base.specs.Rules.{Rules}
use Rattle.psd_wire.specs.declared.{message.Request.Request, message.ReplyMsg.ReplyMsg, message.DebitMsg.DebitMsg}
use Rattle.psd_wire.specs.declared.message.Message.TheVariants as m
use Rattle.psd_wire.specs.Grammar as grammar
use Rattle.ledger_terms.specs.Requests.{request_or_none, request_in, note_of, in_note, request_of}
use Rattle.ledger_terms.specs.Sums.{adds, takes, loaded, refunded, ascending, pieces, descending, whole_descending}
use Rattle.ledger_terms.specs.Devices.{pending, unless_applied, waiting, applied_kind, phase_of, phase, deadline, last_day, customer, key_of}
use Rattle.ledger_terms.specs.Centres.{registered, origin_in}
use Rattle.ledger_terms.specs.Franking.{mark_after, kept}
use Rattle.psd_wire.proofs.Readings.{read_spell}
use Rattle.psd_state.specs.State.{State, IsAmount}
use Rattle.psd_state.specs.Answers as answers
use Rattle.psd_state.specs.Answers.{after_ask, after_debit, after_apply}
use Rattle.psd_state.specs.Records.{state_of}

pub request_in_spell : (q : Request) (key : List ℕ) → grammar.IsWhole (m.Request q) → request_in (grammar.spell (m.Request q) key) ≡ q
unfolding request_in
request_in_spell q key w = ap request_or_none (read_spell (m.Request q) key w)

-- what was asked is outstanding, and its day is the last
pub asked_state : (d n : ℕ) (key : List ℕ) (q : Request) (C : List Commit) → grammar.IsWhole (m.Request q)
    → state_of d key (Asked d n (grammar.spell (m.Request q) key) ∷ C) ≡ after_ask (state_of d key C) q
asked_state d n key q C w =
    let own : (d == d) ≡ true = eq-eqb d d refl in
    let is = request_in_spell q key w in
    rw own (ap (λ (x : Request). record (state_of d key C) { last_day = x.day; pending = Some x }) is)

-- a debit moves the postage, and its mark is kept
pub debited_state : (ρ : Rules) (d : ℕ) (key : List ℕ) (c : DebitMsg) (t : ℤ) (C : List Commit)
    → state_of d key (Debited d c.piece c.postage c.class t ρ.version ∷ C) ≡ after_debit ρ (state_of d key C) c t
unfolding mark_after
debited_state ρ d key c t C =
    let own : (d == d) ≡ true = eq-eqb d d refl in
    let left : loaded d C - (ascending d C + c.postage + refunded d C) ≡ descending d C - c.postage = omega arith in
    rw own (ap (λ x. record (after_debit ρ (state_of d key C) c t) { registers = record { ascending = ascending d C + c.postage; descending = x; refunded = refunded d C; pieces = pieces d C + 1 } }) left)

-- the end of a transaction, over the quantities: what the Applied finds
pub record Ends (d n : ℕ) (v : Verdict) (q : Request) (r : ReplyMsg) (C : List Commit) : Type 0 where
  pub number : q.number ≡ n
  pub outstanding : (note : List ℕ) × (pending d C ≡ Some (n, note)) × (note_of d n C ≡ Some note) × (request_in note ≡ q)
  pub verdict : r.verdict ≡ v
  -- the Reply is the one of the ruling
  pub deadline : is_dated v q.kind ≡ true → r.deadline ≡ q.day +ℤ pos 92
  pub origin : r.origin ≡ origin_in (registered d C)
  -- what the record keeps of what is outstanding
  pub allowed : is_allowed q.kind (phase d C) ≡ true
  pub amount : IsAmount q.kind q.version q.amount (state_of d [] C).registers
  -- nothing is cut off
  pub funds : ascending d C + refunded d C ≤ loaded d C

-- the record after an Applied, by whether it was granted and the kind
abbrev applied_to : ℕ → List ℕ → List Commit → ℕ → Bool → Kind → Request → Option (ℕ × List ℕ) → State
applied_to d key C n g k q w =
    let add : ℕ = if g && same_kind k Reset then q.amount else 0 in
    let take : ℕ = if g && empties k then q.amount else 0 in
    record {
      device = d;
      phase = phase_of ((g && same_kind k Withdraw) || applied_kind Withdraw d C) ((g && same_kind k Audit) || applied_kind Audit d C) ((g && same_kind k Enrol) || applied_kind Enrol d C);
      key = key;
      registers = record { ascending = ascending d C; descending = (loaded d C + add) - (ascending d C + (refunded d C + take)); refunded = refunded d C + take; pieces = pieces d C };
      number = n;
      deadline = if g && (same_kind k Reset || same_kind k Audit) then q.day +ℤ pos 92 else deadline d C;
      last_day = last_day d C;
      customer = if g && same_kind k Enrol then q.customer else customer d C;
      origin = if (g && same_kind k Enrol) || applied_kind Enrol d C then origin_in (registered d C) else 0;
      pending = waiting w;
      mark = kept d C;
    }

abbrev ended_to : Bool → Kind → State → Request → ReplyMsg → State
ended_to g k s q r = if g then answers.ended (answers.granted k s q r) q else answers.ended s q

phase_audit : (w a e : Bool) → is_allowed Audit (phase_of w a e) ≡ true → phase_of w true e ≡ answers.served (phase_of w a e)
phase_audit true a e h = absurd (true≢false (sym h))
phase_audit false true e h = refl
phase_audit false false true h = refl
phase_audit false false false h = absurd (true≢false (sym h))

phase_enrol : (w a e : Bool) → is_allowed Enrol (phase_of w a e) ≡ true → phase_of w a true ≡ Authorised
phase_enrol true a e h = absurd (true≢false (sym h))
phase_enrol false true e h = absurd (true≢false (sym h))
phase_enrol false false true h = absurd (true≢false (sym h))
phase_enrol false false false h = refl

by_kind : (d n : ℕ) (key : List ℕ) (C : List Commit) (g : Bool) (k : Kind) (q : Request) (r : ReplyMsg) → q.number ≡ n
    → ((g && (same_kind k Reset || same_kind k Audit)) ≡ true → r.deadline ≡ q.day +ℤ pos 92) → r.origin ≡ origin_in (registered d C)
    → is_allowed k (phase d C) ≡ true → IsAmount k q.version q.amount (state_of d [] C).registers → ascending d C + refunded d C ≤ loaded d C
    → applied_to d key C n g k q None ≡ ended_to g k (state_of d key C) q r
unfolding same_kind
by_kind d n key C false k q r i t o a x f =
    let left : (loaded d C + 0) - (ascending d C + (refunded d C + 0)) ≡ descending d C = omega arith in
    let gone : refunded d C + 0 ≡ refunded d C = omega arith in
    cc
by_kind d n key C true Enrol q r i t o a x f =
    let left : (loaded d C + 0) - (ascending d C + (refunded d C + 0)) ≡ descending d C = omega arith in
    let gone : refunded d C + 0 ≡ refunded d C = omega arith in
    let p = phase_enrol _ _ _ a in
    cc
by_kind d n key C true Audit q r i t o a x f =
    let left : (loaded d C + 0) - (ascending d C + (refunded d C + 0)) ≡ descending d C = omega arith in
    let gone : refunded d C + 0 ≡ refunded d C = omega arith in
    let p = phase_audit _ _ _ a in
    let day = t refl in
    cc
by_kind d n key C true Reset q r i t o a x f =
    let left : (loaded d C + q.amount) - (ascending d C + (refunded d C + 0)) ≡ descending d C + q.amount = omega arith in
    let gone : refunded d C + 0 ≡ refunded d C = omega arith in
    let day = t refl in
    cc
by_kind d n key C true Refund q r i t o a x f =
    let left : (loaded d C + 0) - (ascending d C + (refunded d C + q.amount)) ≡ 0 = omega (arith, x) in
    let gone : refunded d C + q.amount ≡ refunded d C + descending d C = ap (λ y. refunded d C + y) x in
    cc
by_kind d n key C true Withdraw q r i t o a x f =
    let left : (loaded d C + 0) - (ascending d C + (refunded d C + q.amount)) ≡ 0 = omega (arith, x) in
    let gone : refunded d C + q.amount ≡ refunded d C + descending d C = ap (λ y. refunded d C + y) x in
    cc

-- an Applied ends what is outstanding
pub applied_state : (d n : ℕ) (key : List ℕ) (v : Verdict) (q : Request) (r : ReplyMsg) (C : List Commit) → Ends d n v q r C
    → state_of d key (Applied d n v ∷ C) ≡ after_apply (state_of d key C) q r
unfolding adds takes
applied_state d n key v q r C e =
    let own : (d == d) ≡ true = eq-eqb d d refl in
    let is : request_of d n C ≡ q = ap in_note e.outstanding.2 ∙ e.outstanding.3 in
    let over : unless_applied n (pending d C) ≡ None = ap (unless_applied n) e.outstanding.1 ∙ ap (λ b. cond b None (Some (n, e.outstanding.0))) (eq-eqb n n refl) in
    let step : state_of d key (Applied d n v ∷ C) ≡ applied_to d key C n (is_granted v) (request_of d n C).kind (request_of d n C) (unless_applied n (pending d C)) = rw own refl in
    step ∙ ap₂ (λ x w. applied_to d key C n (is_granted v) x.kind x w) is over
    ∙ by_kind d n key C (is_granted v) q.kind q r e.number e.deadline e.origin e.allowed e.amount e.funds
    ∙ ap (λ u. ended_to (is_granted u) q.kind (state_of d key C) q r) (sym e.verdict)

-- a commit of another device or node, except for a Registered after the enrolment
pub other_state : (d : ℕ) (key : List ℕ) (c : Commit) (C : List Commit) → same_node (node_of c) (Device d) ≡ false
    → (registered d (c ∷ C) ≡ registered d C) ⊎ (applied_kind Enrol d C ≡ false) → state_of d key (c ∷ C) ≡ state_of d key C
other_state d key (Made e k) C h o = refl
other_state d key (Asked e n r) C h o = rw h refl
other_state d key (Applied e n v) C h o = rw h refl
other_state d key (Debited e p a k t v) C h o = rw h refl
other_state d key (Registered e x k) C h (inl same) = ap (λ w. record (state_of d key C) { origin = if applied_kind Enrol d C then origin_in w else 0 }) same
other_state d key (Registered e x k) C h (inr none) = rw none refl
other_state d key (Opened c) C h o = refl
other_state d key (Deposited c n a) C h o = refl
other_state d key (Flagged c b) C h o = refl
other_state d key (Ruled e n v note) C h o = refl
other_state d key (Settled e n) C h o = refl
other_state d key (Ordered j e p a k) C h o = refl
other_state d key (Held j x) C h o = refl
other_state d key (Began j) C h o = refl
other_state d key (Closed j) C h o = refl
other_state d key (Trusted e k) C h o = refl
other_state d key (Accepted e p n) C h o = refl

-- and the other parts of the commits that a record rests on
pub other_rest : (d : ℕ) (c : Commit) (C : List Commit) → same_node (node_of c) (Device d) ≡ false
    → (key_of d (c ∷ C) ≡ key_of d C) × (pending d (c ∷ C) ≡ pending d C) × (whole_descending d (c ∷ C) ≡ whole_descending d C)
other_rest d (Made e k) C h = (rw h refl, refl, refl)
other_rest d (Asked e n r) C h = (refl, rw h refl, refl)
other_rest d (Applied e n v) C h = (refl, rw h refl, rw h refl)
other_rest d (Debited e p a k t v) C h = (refl, refl, rw h refl)
other_rest d (Registered e x k) C h = (refl, refl, refl)
other_rest d (Opened c) C h = (refl, refl, refl)
other_rest d (Deposited c n a) C h = (refl, refl, refl)
other_rest d (Flagged c b) C h = (refl, refl, refl)
other_rest d (Ruled e n v note) C h = (refl, refl, refl)
other_rest d (Settled e n) C h = (refl, refl, refl)
other_rest d (Ordered j e p a k) C h = (refl, refl, refl)
other_rest d (Held j x) C h = (refl, refl, refl)
other_rest d (Began j) C h = (refl, refl, refl)
other_rest d (Closed j) C h = (refl, refl, refl)
other_rest d (Trusted e k) C h = (refl, refl, refl)
other_rest d (Accepted e p n) C h = (refl, refl, refl)
