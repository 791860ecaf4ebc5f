-- The device's part of a plan is right: what it commits fits, what it sends is genuine, and it never answers `stray`.
use Rattle.std.proofs.Common.{◌≡◌, ℕ, ℤ, ◌+◌, ◌<◌, ◌≤◌, ◌≤ℤ◌, Bool, true, false, List, [], ◌∷◌, ◌++◌, Option, Some, None, Result, Ok, Err, cond, refl, sym, ap, subst, ◌∙◌, true≢false, inl, ⊎_elim, not, arith, rules}
use Rattle.std.specs.Prelude.{◌==◌, ◌&&◌, ◌||◌}
use Rattle.std.proofs.lemmas.Bool.{eqb-true, eqb-false, not-false, cases_Bool, eq-eqb}
use Rattle.std.proofs.lemmas.Option.{same_Some, none-some}
use Rattle.bench_base.specs.declared.{words.Node.Node, words.Node.TheVariants.Device, words.Kind.Kind, words.Kind.TheVariants.Enrol, words.Kind.TheVariants.Reset, words.Kind.TheVariants.Audit, words.Kind.TheVariants.Refund, words.Kind.TheVariants.Withdraw, words.Verdict.TheVariants.Granted, refusals.Unread.Unread, refusals.DevRefusal.DevRefusal}
use Rattle.bench_base.specs.declared.refusals.Unread.TheVariants as unread
use Rattle.bench_base.specs.declared.refusals.DevRefusal.TheVariants as no
use Rattle.bench_base.specs.declared.ledger.Commit.TheVariants as c
use Rattle.bench_base.specs.declared.ledger.Entry.TheVariants as e
use Rattle.bench_base.specs.declared.events.Reply.TheVariants as r
use Rattle.bench_base.specs.Rules.{Rules}
use Rattle.bench_base.specs.Rows.{first_holding}
use Rattle.bench_base.specs.Kinds.{same_kind, empties, is_granted, is_allowed}
use Rattle.bench_base.specs.Plans.{Plan, made, told}
use Rattle.bench_base.specs.Ranges.{IsDevice, IsWord, IsDay, IsKey, IsAsk, InRange}
use Rattle.bench_base.specs.Ledger.{Ledger, counted, is_on}
use Rattle.indicium.specs.declared.Mark.{Mark}
use Rattle.indicium.specs.Marks as marks
use Rattle.psd_wire.specs.declared.{message.Request.Request, message.ReplyMsg.ReplyMsg, message.DebitMsg.DebitMsg, message.Message.Message}
use Rattle.psd_wire.specs.declared.message.Message.TheVariants as m
use Rattle.psd_wire.specs.Grammar.{read, spell, IsWhole, sum_size}
use Rattle.psd_wire.proofs.Readings.{read_spell}
use Rattle.ledger_terms.specs.Requests.{request_in, request_or_none, note_of}
use Rattle.ledger_terms.specs.Sums.{adds, loaded, refunded, ascending, descending}
use Rattle.ledger_terms.specs.Devices.{key_of, asked, number, pending, waiting, frozen, phase, last_day, customer}
use Rattle.ledger_terms.specs.InFlight.{ruling_of}
use Rattle.ledger_terms.specs.Rulings.{buys_limit}
use Rattle.ledger_terms.specs.Franking.{key_or_none, mark_after, indicium_after, kept, marked}
use Rattle.ledger_moves.specs.Devices
use Rattle.ledger_moves.specs.Devices.{Teller}
use Rattle.registers.specs.Sums.{total}
use Rattle.psd_state.specs.State.{State}
use Rattle.psd_state.specs.Records.{state_of}
use Rattle.node_acts.specs.declared.act.Act.TheVariants.{Refuse, Tell, Commits}
use Rattle.psd_state.specs.Acts as acts
use Rattle.psd_state.specs.Acts.{DeviceAct}
use Rattle.psd_state.specs.declared.{acts.Franked.Franked, debiting.Debited.Debited, debiting.Debited.TheVariants.New, debiting.Debited.TheVariants.Again}
use Rattle.psd_state.specs.Answers as answers
use Rattle.psd_state.specs.Answers.{request_made, mark_made, amount_for, customer_for, is_stray}
use Rattle.ledger_terms.specs.Editions.{IsCarried}
use Rattle.ledger_moves.specs.Histories.{IsKnown}
use Rattle.node_acts.specs.Plans.{with_commit, after}
use Rattle.ledger_terms.specs.Sane.{IsSane, IsSaneDevice}
use Rattle.bench_base.proofs.Rows.{chosen, first}
use Rattle.psd_state.proofs.Passed.{MayMark, may_mark, MayDebit, may_debit, MayAsk, may_ask, own_reply}
use Rattle.bench_base.specs.Table.{IsNumber}
use Rattle.ledger_laws.proofs.Whole.{sum_fits, word_fits, whole_request, whole_done}
use Rattle.ledger_laws.proofs.Good.{Fits}
use Rattle.ledger_laws.proofs.Links.{waits, waits_none, note_le}
use Rattle.ledger_laws.proofs.Money.{funds, applied_some, ruling_asked}
use Rattle.ledger_laws.proofs.Asked.{note_new, pending_asked, note_reads, applied_asked}
use Rattle.ledger_laws.proofs.Franked.{device_word, pieces_word, marked_made, customer_word, marked_reads, marked_new, kept_marked}
use Rattle.ledger_laws.proofs.Requests.{ruling_sane}
use Rattle.ledger_laws.proofs.Grown.{IsCommand, Inv, Genuine, GenuineReply, genuine_at, inv_sent, inv_released}
use Rattle.ledger_laws.proofs.Plans.{PlanOk, IsFit, first_refusal, ok_refuse, ok_made}

pub request_in_spell : (q : Request) (key : List ℕ) → IsWhole (m.Request q) → request_in (spell (m.Request q) key) ≡ q
unfolding request_in
request_in_spell q key w = ap request_or_none (read_spell (m.Request q) key w)

-- == amounts ==

all_amount : (k : Kind) (a left : ℕ) → empties k ≡ true → amount_for k a left ≡ left
unfolding same_kind
all_amount Enrol a left h = absurd (true≢false (sym h))
all_amount Reset a left h = absurd (true≢false (sym h))
all_amount Audit a left h = absurd (true≢false (sym h))
all_amount Refund a left h = refl
all_amount Withdraw a left h = refl

reset_amount : (k : Kind) (a left loaded top : ℕ) → loaded ≤ top → (same_kind k Reset ≡ true → loaded + a ≤ top) → loaded + (cond (true && same_kind k Reset) (amount_for k a left) 0) ≤ top
unfolding same_kind
reset_amount Enrol a left loaded top h f = omega arith
reset_amount Reset a left loaded top h f = f refl
reset_amount Audit a left loaded top h f = omega arith
reset_amount Refund a left loaded top h f = omega arith
reset_amount Withdraw a left loaded top h f = omega arith

size_amount : (k : Kind) (a left : ℕ) → same_kind k Reset ≡ true → amount_for k a left ≡ a
unfolding same_kind
size_amount Reset a left h = refl
size_amount Enrol a left h = absurd (true≢false (sym h))
size_amount Audit a left h = absurd (true≢false (sym h))
size_amount Refund a left h = absurd (true≢false (sym h))
size_amount Withdraw a left h = absurd (true≢false (sym h))

own_customer : (k : Kind) (who own : ℕ) → same_kind k Enrol ≡ false → customer_for k who own ≡ own
unfolding same_kind
own_customer Reset who own h = refl
own_customer Enrol who own h = absurd (true≢false h)
own_customer Audit who own h = refl
own_customer Refund who own h = refl
own_customer Withdraw who own h = refl

no_amount : (k : Kind) (a left : ℕ) → (same_kind k Enrol || same_kind k Audit) ≡ true → amount_for k a left ≡ 0
unfolding same_kind
no_amount Reset a left h = absurd (true≢false (sym h))
no_amount Enrol a left h = refl
no_amount Audit a left h = refl
no_amount Refund a left h = absurd (true≢false (sym h))
no_amount Withdraw a left h = absurd (true≢false (sym h))

amount_fits : (v : ℕ) (k : Kind) (who a left : ℕ) → IsAsk k who a → IsNumber (sum_size v) left → IsNumber (sum_size v) (amount_for k a left)
amount_fits v Enrol who a left h l = word_fits v 0 (omega arith)
amount_fits v Reset who a left h l = word_fits v a h.1
amount_fits v Audit who a left h l = word_fits v 0 (omega arith)
amount_fits v Refund who a left h l = l
amount_fits v Withdraw who a left h l = l

customer_for_word : (k : Kind) (who a own : ℕ) → IsAsk k who a → IsWord own → IsWord (customer_for k who own)
customer_for_word Enrol who a own h o = h.0
customer_for_word Reset who a own h o = o
customer_for_word Audit who a own h o = o
customer_for_word Refund who a own h o = o
customer_for_word Withdraw who a own h o = o

same_kind_same : (k : Kind) → same_kind k k ≡ true
unfolding same_kind
same_kind_same Enrol = refl
same_kind_same Reset = refl
same_kind_same Audit = refl
same_kind_same Refund = refl
same_kind_same Withdraw = refl

not_both : (x y : Bool) → x ≡ false → y ≡ false → (x || y) ≡ true → ⊥
not_both x y a b h = true≢false (sym h ∙ (rw (a, b) refl))

-- a Reply of the pending kind, and of its amount where it is granted, isn't stray
not_stray : (p : ReplyMsg) (q : Request) → p.kind ≡ q.kind → (is_granted p.verdict ≡ true → p.amount ≡ q.amount) → is_stray p q ≡ true → ⊥
not_stray p q kind amount h =
    let same : same_kind p.kind q.kind ≡ true = subst (λ z. same_kind p.kind z ≡ true) kind (same_kind_same p.kind) in
    not_both (not (same_kind p.kind q.kind)) (is_granted p.verdict && not (p.amount == q.amount)) (rw same refl)
    (⊎_elim
    (λ (g : is_granted p.verdict ≡ true). rw (g, eq-eqb p.amount q.amount (amount g)) refl)
    (λ (g : is_granted p.verdict ≡ false). rw g refl)
    (cases_Bool (is_granted p.verdict)))
    h

-- how a debit is reported: the answer is a plain one, and what is recorded needs no more than that the mark is the device's
pub record TellerOk (ρ : Rules) (T : Teller) (d piece : ℕ) : Type 0 where
  pub sane : (again : Bool) (x : List ℕ) → IsSane (T.reply again x)
  pub plain : (p : Plan) (again : Bool) (x : List ℕ) (H : Ledger) → after p (T.reply again x) H ≡ p.after ++ with_commit p.commit H
  pub no_up : (again : Bool) (x : List ℕ) (n : Node) (k : ℕ) → T.reply again x ≡ r.Up n k → ⊥
  pub keeps : (x : List ℕ) (H : Ledger) → marked d piece (counted H) ≡ Some x → Inv ρ H → Inv ρ (T.tell x ++ H)

module _ (ρ : Rules) (carried : IsCarried ρ) where
  pub ok_shown : (d piece : ℕ) → TellerOk ρ (Devices.shown d piece) d piece
  ok_shown d piece = record { sane = λ again x. tt; plain = λ p again x H. refl; no_up = λ again x n k h. absurd (cc); keeps = λ x H there i. inv_released ρ H d piece x (marked_made ρ d piece x (counted H) i.good there) there i }

  pub ok_sent : (d piece k : ℕ) → TellerOk ρ (Devices.sent d piece k) d piece
  ok_sent d piece k = record {
    sane = λ again x. tt;
    plain = λ p again x H. refl;
    no_up = λ again x n l h. absurd (cc);
    keeps = λ x H there i.
        let it = marked_reads ρ carried d piece x (counted H) i.good there in
        inv_sent ρ (e.Released d piece x ∷ H) (spell (m.Release x) [])
        (record { what = m.Release x; reads = read_spell (m.Release x) [] ((it.mark_is, it.code), it.reads); vouched = inl refl })
        (inv_released ρ H d piece x (marked_made ρ d piece x (counted H) i.good there) there i);
  }

module _ (ρ : Rules) (carried : IsCarried ρ) (H : Ledger) (i : Inv ρ H) where
  refuse_ok : (d : ℕ) (x : DevRefusal) → IsSaneDevice x → PlanOk ρ H (Devices.no_device d x)
  refuse_ok d x s = ok_refuse ρ H (r.DevRefused d x) refl s

  -- == ask ==

  request_whole : (d : ℕ) (key : List ℕ) (k : Kind) (who a : ℕ) (t : ℤ) → IsDevice d → IsAsk k who a → IsDay t → number d (counted H) < 4294967295 → IsWhole (m.Request (request_made ρ (state_of d key (counted H)) k who a t))
  request_whole d key k who a t device ask day below =
      let C = counted H in
      let f = funds ρ d C i.good in
      let covered = f.covered in
      let within = f.within in
      let top = carried.total in
      let left = sum_fits ρ.version (descending d C) (omega arith) in
      whole_request _ carried.version (device_word d device) (omega arith) (customer_for_word k who a (customer d C) ask (customer_word ρ d C i.good)) (amount_fits ρ.version k who a (descending d C) ask left)
      (sum_fits ρ.version (ascending d C) (omega arith)) left (sum_fits ρ.version (refunded d C) (omega arith)) (pieces_word ρ d C i.good) day

  ask_fits : (d : ℕ) (k : Kind) (who a : ℕ) (t : ℤ) (key : List ℕ) → IsDevice d → IsAsk k who a → IsDay t → key_of d (counted H) ≡ Some key → pending d (counted H) ≡ None → MayAsk ρ (state_of d key (counted H)) k a t
      → Fits ρ (c.Asked d (number d (counted H) + 1) (spell (m.Request (request_made ρ (state_of d key (counted H)) k who a t)) key)) (counted H)
  unfolding adds
  ask_fits d k who a t key device ask day has idle may =
      let C = counted H in
      let q = request_made ρ (state_of d key C) k who a t in
      let note = spell (m.Request q) key in
      let whole = request_whole d key k who a t device ask day may.number in
      let is : request_in note ≡ q = request_in_spell q key whole in
      let f = funds ρ d C i.good in
      let covered = f.covered in
      let within = f.within in
      let sum : ℕ = ascending d C + descending d C + refunded d C in
      let size : same_kind k Reset ≡ true → (1 ≤ amount_for k a (descending d C)) × (amount_for k a (descending d C) ≤ 10000000) = λ h.
      let low = may.low h in
      let high = may.high h in
      let it = size_amount k a (descending d C) h in
      (omega arith, omega arith) in
      let in_total : loaded d C + adds Granted q ≤ ρ.total = reset_amount k a (descending d C) (loaded d C) ρ.total within (λ h. let le : sum + a ≤ ρ.total = may.within h in omega arith) in
      let limit = carried.total in
      let in_version : loaded d C + adds Granted q ≤ buys_limit ρ.version = omega arith in
      record {
        made = (key, has, ap (λ (z : Request). spell (m.Request z) key) (sym is));
        whole = subst (λ (z : Request). IsWhole (m.Request z)) (sym is) whole;
        reads = read_spell (m.Request q) key whole ∙ ap (λ (z : Request). Ok (m.Request z)) (sym is);
        idle = idle;
        next = refl;
        device = ap (λ (z : Request). z.device) is;
        number = ap (λ (z : Request). z.number) is;
        ascending = ap (λ (z : Request). z.ascending) is;
        descending = ap (λ (z : Request). z.descending) is;
        refunded = ap (λ (z : Request). z.refunded) is;
        day = subst (λ (z : Request). last_day d C ≤ℤ z.day) (sym is) may.day;
        all = subst (λ (z : Request). empties z.kind ≡ true → z.amount ≡ descending d C) (sym is) (all_amount k a (descending d C));
        within = subst (λ (z : Request). loaded d C + adds Granted z ≤ ρ.total) (sym is) in_total;
        bound = subst (λ (z : Request). loaded d C + adds Granted z ≤ buys_limit z.version) (sym is) in_version;
        size = subst (λ (z : Request). same_kind z.kind Reset ≡ true → (1 ≤ z.amount) × (z.amount ≤ 10000000)) (sym is) size;
        allowed = subst (λ (z : Request). is_allowed z.kind (phase d C) ≡ true) (sym is) may.allowed;
        owner = subst (λ (z : Request). same_kind z.kind Enrol ≡ false → z.customer ≡ customer d C) (sym is) (own_customer k who (customer d C));
        nothing = subst (λ (z : Request). (same_kind z.kind Enrol || same_kind z.kind Audit) ≡ true → z.amount ≡ 0) (sym is) (no_amount k a (descending d C));
      }

  -- a note that is asked is genuine from then on
  asked_sent : (d n : ℕ) (key : List ℕ) (q : Request) → IsWhole (m.Request q) → q.device ≡ d → q.number ≡ n → ((x : List ℕ) → note_of d n (counted H) ≡ Some x → ⊥)
      → Genuine (spell (m.Request q) key) (e.Commit (c.Asked d n (spell (m.Request q) key)) ∷ H) (c.Asked d n (spell (m.Request q) key) ∷ counted H)
  asked_sent d n key q whole same number none =
      let note = spell (m.Request q) key in
      record {
        what = m.Request q;
        reads = read_spell (m.Request q) key whole;
        vouched = subst (λ (z : ℕ × ℕ). note_of z.0 z.1 (c.Asked d n note ∷ counted H) ≡ Some note) (λ j. (sym same j, sym number j)) (note_new d n note (counted H) none);
      }

  asked_ok : (d : ℕ) (k : Kind) (who a : ℕ) (t : ℤ) (l : ℕ) (key : List ℕ) → is_on (Device d) H ≡ true → IsDevice d → IsAsk k who a → IsDay t → key_of d (counted H) ≡ Some key → pending d (counted H) ≡ None
      → MayAsk ρ (state_of d key (counted H)) k a t
      → PlanOk ρ H (Devices.asked_plan d (number d (counted H) + 1) l (acts.asked_act d (number d (counted H) + 1) (Ok (answers.after_ask (state_of d key (counted H)) (request_made ρ (state_of d key (counted H)) k who a t), spell (m.Request (request_made ρ (state_of d key (counted H)) k who a t)) key))))
  asked_ok d k who a t l key on device ask day has idle may =
      let C = counted H in
      let q = request_made ρ (state_of d key C) k who a t in
      let note = spell (m.Request q) key in
      let f = ask_fits d k who a t key device ask day has idle may in
      let below : number d C < 4294967295 = may.number in
      record {
        sane = tt;
        plain = refl;
        no_up = λ n j h. absurd (cc);
        fit = λ x h. subst (IsFit ρ H) (same_Some _ _ h) (record { fits = f; on = on; range = (device, omega arith); sure = tt });
        keeps = λ j. inv_sent ρ (e.Commit (c.Asked d (number d C + 1) note) ∷ H) note
            (asked_sent d (number d C + 1) key q (request_whole d key k who a t device ask day below) refl refl (λ x s.
            let le = note_le ρ d (number d C + 1) x C i.good s in
            let none = waits_none ρ (pending d C) (asked d C) (number d C) idle (waits ρ d C i.good) in
            omega arith)) j;
      }

  pub ask_ok : (d : ℕ) (k : Kind) (who a : ℕ) (t : ℤ) (l : ℕ) → is_on (Device d) H ≡ true → IsDevice d → IsAsk k who a → IsDay t → (w : Option (List ℕ)) → key_of d (counted H) ≡ w
      → PlanOk ρ H (Devices.ask_plan ρ d k who a t l (counted H) w)
  ask_ok d k who a t l on device ask day None has = refuse_ok d no.Blank tt
  ask_ok d k who a t l on device ask day (Some key) has = by_pending (pending d (counted H)) refl
    where
      P : Result (State × List ℕ) DevRefusal → Type 0
      P z = PlanOk ρ H (Devices.asked_plan d (number d (counted H) + 1) l (acts.asked_act d (number d (counted H) + 1) z))

      S : State
      S = state_of d key (counted H)

      by_pending : (o : Option (ℕ × List ℕ)) → pending d (counted H) ≡ o
          → P (answers.unless (answers.waiting_kind (waiting o)) no.Busy (first_holding (answers.ask_rows ρ S k a t) (Ok (answers.after_ask S (request_made ρ S k who a t), spell (m.Request (request_made ρ S k who a t)) key))))
      by_pending (Some p) h = refuse_ok d (no.Busy (request_in p.1).kind) tt
      by_pending None h = first_refusal P IsSaneDevice (answers.ask_rows ρ S k a t) (Ok (answers.after_ask S (request_made ρ S k who a t), spell (m.Request (request_made ρ S k who a t)) key)) (search rules) (refuse_ok d)
          (λ rows. asked_ok d k who a t l key on device ask day has h (may_ask ρ S k a t rows))

  -- == debit ==

  debit_fits : (d : ℕ) (q : DebitMsg) (t : ℤ) (key : List ℕ) → key_of d (counted H) ≡ Some key → frozen (pending d (counted H)) ≡ false
      → MayMark (state_of d key (counted H)) q → MayDebit ρ (state_of d key (counted H)) q t → Fits ρ (c.Debited d q.piece q.postage q.class t ρ.version) (counted H)
  debit_fits d q t key has free piece may =
      let C = counted H in
      let sums = funds ρ d C i.good in
      record {
        made = (key, has);
        free = free;
        next = piece.next;
        low = may.low;
        high = may.high;
        funded = may.funded;
        serves = piece.serves;
        day = may.day;
        due = may.due;
        small = may.small;
        from_1 = carried.version.0;
        known = omega arith;
        bound = omega (arith, carried.total, sums.within);
      }

  -- the mark that is reported is the one of the debit
  same_mark : (d : ℕ) (q : DebitMsg) (t : ℤ) (key : List ℕ) → key_of d (counted H) ≡ Some key → indicium_after d q.piece q.postage q.class t ρ.version (counted H) ≡ marks.spell (mark_made ρ (state_of d key (counted H)) q t) key
  unfolding indicium_after mark_after
  same_mark d q t key has = ap (λ o. marks.spell (mark_after d q.piece q.postage q.class t ρ.version (counted H)) (key_or_none o)) has

  franked_ok : (T : Teller) (d : ℕ) (q : DebitMsg) (t : ℤ) (key : List ℕ) → TellerOk ρ T d q.piece → is_on (Device d) H ≡ true → IsDevice d → IsCommand q → IsDay t → key_of d (counted H) ≡ Some key → frozen (pending d (counted H)) ≡ false
      → MayMark (state_of d key (counted H)) q → MayDebit ρ (state_of d key (counted H)) q t
      → PlanOk ρ H (Devices.franked_plan T d (acts.franked_act ρ d q t (Ok (New (answers.after_debit ρ (state_of d key (counted H)) q t) (marks.spell (mark_made ρ (state_of d key (counted H)) q t) key)))))
  franked_ok T d q t key ok on device class day has free piece may =
      let C = counted H in
      let x = marks.spell (mark_made ρ (state_of d key C) q t) key in
      let f = debit_fits d q t key has free piece may in
      let next = f.next in
      let low = f.low in
      let high = f.high in
      let funded = f.funded in
      let sums = funds ρ d C i.good in
      let covered = sums.covered in
      let within = sums.within in
      let range : InRange (c.Debited d q.piece q.postage q.class t ρ.version) = (device, class.0, omega arith, class.1, day, omega (arith, carried.version.1)) in
      record {
        sane = ok.sane false x;
        plain = ok.plain (made (T.reply false x) (c.Debited d q.piece q.postage q.class t ρ.version) (T.tell x)) false x H;
        no_up = λ n k h. absurd (ok.no_up false x n k h);
        fit = λ y h. subst (IsFit ρ H) (same_Some _ _ h) (record { fits = f; on = on; range = range; sure = tt });
        keeps = λ j. ok.keeps x (e.Commit (c.Debited d q.piece q.postage q.class t ρ.version) ∷ H)
            (marked_new ρ d q.piece q.postage q.class t ρ.version C (f, i.good, range) ∙ ap (λ (z : List ℕ). Some z) (same_mark d q t key has)) j;
      }

  new_ok : (T : Teller) (d : ℕ) (q : DebitMsg) (t : ℤ) (key : List ℕ) → TellerOk ρ T d q.piece → is_on (Device d) H ≡ true → IsDevice d → IsCommand q → IsDay t → key_of d (counted H) ≡ Some key
      → PlanOk ρ H (Devices.franked_plan T d (acts.franked_act ρ d q t (answers.new_answer ρ (state_of d key (counted H)) q t)))
  new_ok T d q t key ok on device class day has =
      first_refusal P IsSaneDevice (answers.piece_rows S q) _ (search rules) (refuse_ok d)
      (λ rows. by_pending (may_mark S q rows) (pending d (counted H)) refl)
    where
      P : Result Debited DevRefusal → Type 0
      P z = PlanOk ρ H (Devices.franked_plan T d (acts.franked_act ρ d q t z))

      S : State
      S = state_of d key (counted H)

      act : Result Debited DevRefusal
      act = Ok (New (answers.after_debit ρ S q t) (marks.spell (mark_made ρ S q t) key))

      free_ok : MayMark S q → frozen (pending d (counted H)) ≡ false → P (first_holding (answers.debit_rows ρ S q t) act)
      free_ok piece free = first_refusal P IsSaneDevice (answers.debit_rows ρ S q t) act (search rules) (refuse_ok d)
          (λ rows. franked_ok T d q t key ok on device class day has free piece (may_debit ρ S q t rows))

      by_pending : MayMark S q → (o : Option (ℕ × List ℕ)) → pending d (counted H) ≡ o → P (answers.unless (answers.frozen_kind (waiting o)) no.Frozen (first_holding (answers.debit_rows ρ S q t) act))
      by_pending piece None h = free_ok piece (ap frozen h)
      by_pending piece (Some p) h = chosen (λ (z : Option Kind). P (answers.unless z no.Frozen (first_holding (answers.debit_rows ρ S q t) act))) (empties (request_in p.1).kind) (Some (request_in p.1).kind) None
          (λ _. refuse_ok d (no.Frozen (request_in p.1).kind) tt)
          (λ free. free_ok piece (ap frozen h ∙ free))

  again_ok : (T : Teller) (d : ℕ) (q : DebitMsg) (t : ℤ) (k : Mark) (key : List ℕ) → TellerOk ρ T d q.piece → marked d q.piece (counted H) ≡ Some (marks.spell k key) → PlanOk ρ H (Devices.franked_plan T d (acts.franked_act ρ d q t (answers.again q key k)))
  again_ok T d q t k key ok there =
      let x = marks.spell k key in
      chosen (λ (z : Result Debited DevRefusal). PlanOk ρ H (Devices.franked_plan T d (acts.franked_act ρ d q t z))) ((k.postage == q.postage) && (k.class == q.class)) (Ok (Again x)) (Err (no.Conflict k.postage k.class))
      (λ _. record {
        sane = ok.sane true x;
        plain = ok.plain (told (T.reply true x) (T.tell x)) true x H;
        no_up = λ n j h. refl;
        fit = λ y h. absurd (none-some _ h);
        keeps = λ j. ok.keeps x H there j;
      })
      (λ _. refuse_ok d (no.Conflict k.postage k.class) tt)

  repeated_is : (o : Option Mark) (piece : ℕ) (k : Mark) → answers.repeated o piece ≡ Some k → (o ≡ Some k) × (k.piece ≡ piece)
  repeated_is None piece k h = absurd (none-some _ h)
  repeated_is (Some j) piece k h = ⊎_elim
      (λ (t : (j.piece == piece) ≡ true).
      let is : j ≡ k = same_Some _ _ (rw t at h) in
      (ap (λ (z : Mark). Some z) is, ap (λ (z : Mark). z.piece) (sym is) ∙ eqb-true j.piece piece t))
      (λ (t : (j.piece == piece) ≡ false). absurd (none-some _ (rw t at h)))
      (cases_Bool (j.piece == piece))

  pub debit_ok : (T : Teller) (d : ℕ) (q : DebitMsg) (t : ℤ) → TellerOk ρ T d q.piece → is_on (Device d) H ≡ true → IsDevice d → IsCommand q → IsDay t → (w : Option (List ℕ)) → key_of d (counted H) ≡ w
      → PlanOk ρ H (Devices.debit_plan ρ T d q t (counted H) w)
  debit_ok T d q t ok on device class day None has = refuse_ok d no.Blank tt
  debit_ok T d q t ok on device class day (Some key) has = chosen P (q.device == d) _ _
      (λ _. by_mark (answers.repeated (kept d (counted H)) q.piece) refl)
      (λ _. refuse_ok d (no.WrongDevice q.device) tt)
    where
      P : Result Debited DevRefusal → Type 0
      P z = PlanOk ρ H (Devices.franked_plan T d (acts.franked_act ρ d q t z))

      by_mark : (o : Option Mark) → answers.repeated (kept d (counted H)) q.piece ≡ o → P (answers.unless_again o q key (answers.new_answer ρ (state_of d key (counted H)) q t))
      by_mark None h = new_ok T d q t key ok on device class day has
      by_mark (Some k) h =
          let it = repeated_is (kept d (counted H)) q.piece k h in
          let there = kept_marked ρ d k key (counted H) i.good it.0 has in
          again_ok T d q t k key ok (subst (λ z. marked d z (counted H) ≡ Some (marks.spell k key)) it.1 there)

  -- == make, resend, ack, status ==

  pub make_ok : (d : ℕ) (key : List ℕ) → is_on (Device d) H ≡ true → IsDevice d → IsKey key → (w : Option (List ℕ)) → key_of d (counted H) ≡ w → PlanOk ρ H (Devices.make_plan d key (counted H) w)
  make_ok d key on device fits None has = ok_made ρ H (r.Made d) (c.Made d key) refl tt (λ n k h. absurd (cc)) (record { fits = has; on = on; range = (device, fits); sure = tt })
  make_ok d key on device fits (Some k) has = refuse_ok d no.Made tt

  -- what was asked is sent as it was
  pub asked_genuine : (d n : ℕ) (x : List ℕ) → note_of d n (counted H) ≡ Some x → Genuine x H (counted H)
  asked_genuine d n x at =
      let it = note_reads ρ d n x (counted H) i.good at in
      record {
        what = m.Request (request_in x);
        reads = it.reads;
        vouched = subst (λ (z : ℕ × ℕ). note_of z.0 z.1 (counted H) ≡ Some x) (λ j. (sym it.device j, sym it.number j)) at;
      }

  pub resend_ok : (d k : ℕ) (key : Option (List ℕ)) (w : Option (ℕ × List ℕ)) → pending d (counted H) ≡ w → PlanOk ρ H (Devices.resend_plan d k key w)
  resend_ok d k None w has = refuse_ok d no.Blank tt
  resend_ok d k (Some key) None has = refuse_ok d no.NothingPending tt
  resend_ok d k (Some key) (Some p) has = record {
    sane = tt;
    plain = refl;
    no_up = λ n j h. refl;
    fit = λ x h. absurd (none-some _ h);
    keeps = λ j. inv_sent ρ H p.1 (asked_genuine d p.0 p.1 (pending_asked ρ d p (counted H) i.good has)) j;
  }

  pub ack_ok : (d k : ℕ) (w : Option (List ℕ)) → PlanOk ρ H (Devices.ack_plan d k (counted H) w)
  ack_ok d k None = refuse_ok d no.Blank tt
  ack_ok d k (Some key) = chosen (λ (z : Result (List ℕ) DevRefusal). PlanOk ρ H (Devices.done_plan d n k (acts.told_act z))) (n == 0) (Err no.NothingDone) (Ok note)
      (λ _. refuse_ok d no.NothingDone tt)
      (λ t. record {
        sane = tt;
        plain = refl;
        no_up = λ l j h. refl;
        fit = λ x h. absurd (none-some _ h);
        keeps = λ j. inv_sent ρ H note (genuine t) j;
      })
    where
      n : ℕ
      n = number d (counted H)

      note : List ℕ
      note = spell (m.Done (record { device = d; number = n })) key

      genuine : (n == 0) ≡ false → Genuine note H (counted H)
      genuine t =
          let some : n ≡ 0 → ⊥ = eqb-false n 0 t in
          let v = applied_some ρ d n (counted H) refl (omega arith) in
          let asked = applied_asked ρ d n v.0 (counted H) i.good v.1 in
          let it = note_reads ρ d n asked.0 (counted H) i.good asked.1 in
          record {
            what = m.Done (record { device = d; number = n });
            reads = read_spell (m.Done (record { device = d; number = n })) key (whole_done (record { device = d; number = n }) (device_word d it.range.0) it.range.1);
            vouched = v;
          }

  pub status_ok : (d : ℕ) (t : ℤ) (w : Option (List ℕ)) → PlanOk ρ H (Devices.status_plan d t (counted H) w)
  status_ok d t None = refuse_ok d no.Blank tt
  status_ok d t (Some key) = record { sane = tt; plain = refl; no_up = λ n k h. refl; fit = λ x h. absurd (none-some _ h); keeps = λ j. j }

  -- == a Reply, a Debit ==

  -- a Reply that the device takes comes from a ruling on what is pending
  apply_ok : (d k : ℕ) (p : ReplyMsg) (s : State) → is_on (Device d) H ≡ true → p.device ≡ d → GenuineReply p (counted H) → (w : Option (ℕ × List ℕ)) → pending d (counted H) ≡ w → PlanOk ρ H (Devices.taken_plan d k (acts.applied_act d p (answers.apply_answer s (waiting w) p)))
  apply_ok d k p s on same from None has = refuse_ok d no.NothingPending tt
  apply_ok d k p s on same from (Some w) has =
      let q = request_in w.1 in
      let pends = pending_asked ρ d w (counted H) i.good has in
      let was = note_reads ρ d w.0 w.1 (counted H) i.good pends in
      let P = λ (z : Result State DevRefusal). PlanOk ρ H (Devices.taken_plan d k (acts.applied_act d p z)) in
      chosen P (not (p.number == q.number)) _ _
      (λ _. refuse_ok d (no.Stale q.number) tt)
      (λ row.
      let number : p.number ≡ w.0 = eqb-true p.number q.number (not-false (p.number == q.number) row) ∙ was.number in
      let ruling : ruling_of d p.number (counted H) ≡ Some (p.verdict, from.note) = subst (λ z. ruling_of z p.number (counted H) ≡ Some (p.verdict, from.note)) same from.ruled_as in
      let one = ruling_asked ρ d p.number (p.verdict, from.note) (counted H) i.good ruling in
      let two = subst (λ z. note_of d z (counted H) ≡ Some w.1) (sym number) pends in
      let note : from.note ≡ w.1 = same_Some _ _ (sym one ∙ two) in
      let waits : pending d (counted H) ≡ Some (p.number, w.1) = has ∙ ap (λ z. Some (z, w.1)) (sym number) in
      let kind : p.kind ≡ q.kind = from.kind ∙ ap (λ (z : List ℕ). (request_in z).kind) note in
      let amount : is_granted p.verdict ≡ true → p.amount ≡ q.amount = λ h. from.amount h ∙ ap (λ (z : List ℕ). (request_in z).amount) note in
      let it = note_reads ρ d p.number from.note (counted H) i.good one in
      chosen P (is_stray p q) _ _
      (λ t. absurd (not_stray p q kind amount t))
      (λ _. ok_made ρ H (r.Applied d p.number p.verdict) (c.Applied d p.number p.verdict) refl (ruling_sane ρ d p.number (p.verdict, from.note) (counted H) i.good ruling) (λ n k h. absurd (cc)) (record {
        fits = record { note = w.1; waits = waits; ruled_as = ruling ∙ ap (λ (z : List ℕ). Some (p.verdict, z)) note };
        on = on;
        range = it.range;
        sure = tt;
      })))

  -- a debit that came as a message is reported by its message
  released_plan : (d k piece : ℕ) (act : DeviceAct Franked) → Devices.franked_plan (Devices.sent d piece k) d act ≡ Devices.taken_plan d k (acts.released piece act)
  released_plan d k piece (Refuse x) = refl
  released_plan d k piece (Tell f) = refl
  released_plan d k piece (Commits c s f) = refl

  pub device_ok : (d k : ℕ) (t : ℤ) (bytes : List ℕ) → is_on (Device d) H ≡ true → IsDevice d → IsDay t → (x : Result Message Unread) → read bytes ≡ x → IsKnown bytes x (Device d) H
      → ((q : DebitMsg) → x ≡ Ok (m.Debit q) → IsCommand q) → PlanOk ρ H (Devices.device_take ρ k t d bytes x (counted H) (key_of d (counted H)))
  device_ok d k t bytes on device day (Ok (m.Reply p)) reads known fits = keyed (key_of d (counted H)) refl
    where
      keyed : (w : Option (List ℕ)) → key_of d (counted H) ≡ w → PlanOk ρ H (Devices.device_take ρ k t d bytes (Ok (m.Reply p)) (counted H) w)
      keyed None has = refuse_ok d no.Blank tt
      keyed (Some key) has = first (λ act. PlanOk ρ H (Devices.taken_plan d k act)) (acts.reply_rows d bytes p key) (acts.applied_act d p (answers.apply_answer (state_of d key (counted H)) (state_of d key (counted H)).pending p))
          (refuse_ok d (no.WrongDevice p.device) tt, (refuse_ok d no.BadCode tt, tt))
          (λ rows.
          let own = own_reply d bytes p key rows in
          let sent = known (ap Device (sym own.device)) key (ap (λ (e : ℕ). key_of e (counted H)) own.device ∙ has) own.code in
          apply_ok d k p (state_of d key (counted H)) on own.device (genuine_at bytes (m.Reply p) H (counted H) (i.sents bytes sent) reads) (pending d (counted H)) refl)
  device_ok d k t bytes on device day (Ok (m.Debit q)) reads known fits =
      subst (PlanOk ρ H) (released_plan d k q.piece (acts.debit_act ρ d q t (Devices.record_in d (counted H))))
      (debit_ok (Devices.sent d q.piece k) d q t (ok_sent ρ carried d q.piece k) on device (fits q refl) day (key_of d (counted H)) refl)
  device_ok d k t bytes on device day (Ok (m.Request q)) reads known fits = refuse_ok d (no.Unread unread.Tag) tt
  device_ok d k t bytes on device day (Ok (m.Done q)) reads known fits = refuse_ok d (no.Unread unread.Tag) tt
  device_ok d k t bytes on device day (Ok (m.Release x)) reads known fits = refuse_ok d (no.Unread unread.Tag) tt
  device_ok d k t bytes on device day (Err x) reads known fits = refuse_ok d (no.Unread x) tt
