-- The centre's part of a plan is right: a Request that it rules on was asked and not ruled before, and shows what the centre
-- holds; what it settles was applied; and it never answers `ahead` or `changed`.
use Rattle.std.proofs.Common.{◌≡◌, ℕ, pos, ◌+◌, ◌<◌, ◌≤◌, ◌+ℤ◌, Bool, true, false, List, [], ◌∷◌, Option, Some, None, Result, Ok, Err, cond, refl, sym, ap, subst, ◌∙◌, true≢false, arith, FitsSigned, rules}
use Rattle.std.specs.Prelude.{◌==◌, ◌&&◌, ◌||◌, nat_lt, nat_le, bytes_eq, option_map, if◌then◌else◌, min}
use Rattle.std.specs.Int.{w32}
use Rattle.std.proofs.lemmas.Bool.{eqb-true, eqb-false, ltb-false, ltb-true, leb-false, eq-eqb, and_parts, or_parts}
use Rattle.std.proofs.lemmas.Slice.Eq.{bytes_eq-Decides}
use Rattle.bench_base.specs.declared.{words.Node.TheVariants.Centre, words.Kind.TheVariants.Reset, words.Verdict.Verdict, words.Verdict.TheVariants.Granted, refusals.Unread.Unread, refusals.CentreRefusal.CentreRefusal, ledger.Commit.Commit, events.Reply.Reply}
use Rattle.bench_base.specs.declared.refusals.Unread.TheVariants as unread
use Rattle.bench_base.specs.declared.refusals.CentreRefusal.TheVariants as no
use Rattle.bench_base.specs.declared.ledger.Commit.TheVariants as c
use Rattle.bench_base.specs.declared.ledger.Entry.TheVariants as e
use Rattle.bench_base.specs.declared.events.Reply.TheVariants as r
use Rattle.bench_base.specs.Rules.{Rules}
use Rattle.bench_base.specs.Plans.{refuse, made, told}
use Rattle.bench_base.specs.Kinds.{is_dated, same_kind}
use Rattle.bench_base.specs.Ranges.{IsDevice, IsCustomer, IsWord, IsDay, IsKey}
use Rattle.bench_base.specs.Ledger.{Ledger, counted, is_on, IsSent}
use Rattle.node_acts.specs.declared.said.Said.{Said}
use Rattle.node_acts.specs.Plans.{after}
use Rattle.node_acts.specs.Said.{said_plan}
use Rattle.psd_wire.specs.declared.{message.Request.Request, message.ReplyMsg.ReplyMsg, message.DoneMsg.DoneMsg, message.Message.Message}
use Rattle.psd_wire.specs.declared.message.Message.TheVariants as m
use Rattle.psd_wire.specs.Grammar.{read, IsWhole, sum_size}
use Rattle.psd_wire.proofs.Readings.{read_spell}
use Rattle.psd_wire.specs.Codes.{has_code}
use Rattle.ledger_terms.specs.Requests.{request_in, request_or_none, note_of}
use Rattle.ledger_terms.specs.Sums.{bought, returned}
use Rattle.ledger_terms.specs.Devices.{applied_of}
use Rattle.ledger_terms.specs.Centres.{registered, key_in, ruled, settled, opened, receipt, deposits, balance}
use Rattle.ledger_terms.specs.InFlight.{ruling_of}
use Rattle.ledger_terms.specs.Rulings.{verdict, verdict_by, verdict_rows, account_of, Account, reply_to, reply_note, stored_reply, ruled_reply, written_amount}
use Rattle.centre_ledger.specs.declared.{rows.DeviceRow.DeviceRow, rows.CustomerRow.CustomerRow, taking.CentreAnswer.CentreAnswer}
use Rattle.centre_ledger.specs.Acts.{CentreAct, registered_act, opened_act, flagged_act, taken_act, deposited_act, left_act, stood_act, repeated_act, turn_act, request_act, settled_act, done_act, message_act}
use Rattle.centre_ledger.specs.Answers.{deposit_rows, deposit_answer, turn_answer, settle_answer}
use Rattle.centre_ledger.specs.Plans as centre
use Rattle.centre_ledger.specs.Records.{last_ruling, stored_note, note_or_none, device_row_with, customer_row_with}
use Rattle.centre_ledger.specs.Rows.{deposited_row, settled_row}
use Rattle.centre_ledger.specs.Standing.{ruling_in, ruling_read}
use Rattle.centre_ledger.proofs.ByCommits.{verdict_is, reply_is}
use Rattle.centre_ledger.proofs.Passed.{may_deposit, granted_amount}
use Rattle.ledger_moves.specs.Histories.{IsKnown}
use Rattle.ledger_terms.specs.Sane.{IsSane, IsSaneCentre, is_imbalance}
use Rattle.bench_base.proofs.Rows.{chosen, first_that}
use Rattle.std.proofs.Math.Nat.{min-le_right, min-eq_left}
use Rattle.std.proofs.lemmas.Option.{same_Some, none-some}
use Rattle.bench_base.specs.Table.{Four, Eight, IsNumber}
use Rattle.bench_base.proofs.Facts.{some_none, either}
use Rattle.ledger_laws.proofs.Whole.{whole_reply, deadline_signed, no_deadline}
use Rattle.ledger_laws.proofs.Good.{Good}
use Rattle.ledger_laws.proofs.Links.{link, note_le, applied_le}
use Rattle.ledger_laws.proofs.Money.{added, reply_added, last_is, last_some, ruling_asked}
use Rattle.ledger_laws.proofs.Asked.{note_reads, applied_asked}
use Rattle.ledger_laws.proofs.Franked.{registered_word}
use Rattle.ledger_laws.proofs.Requests.{Shown, new_shown, never_imbalance, ruling_sane}
use Rattle.ledger_laws.proofs.Grown.{Inv, GenuineReply, genuine_at, reply_kept, inv_sent}
use Rattle.ledger_laws.proofs.Orders.{centre_order}
use Rattle.ledger_laws.proofs.Plans.{PlanOk, IsFit, first_refusal, ok_refuse, ok_made}

request_in_read : (note : List ℕ) (q : Request) → read note ≡ Ok (m.Request q) → request_in note ≡ q
unfolding request_in
request_in_read note q h = ap request_or_none h

bytes_eq_same : (xs : List ℕ) → bytes_eq xs xs ≡ true
bytes_eq_same xs = (bytes_eq-Decides xs xs).1 refl

-- an amount in a Reply is 0, the Request's, or a balance below it; except for a disagreement of the sums
amount_le : (a : Account) (q : Request) → is_imbalance (verdict_by a q).0 ≡ false → (verdict_by a q).1 ≤ q.amount
unfolding verdict_by
amount_le a q = first_that (λ (x : Verdict × ℕ). is_imbalance x.0 ≡ false → x.1 ≤ q.amount) (verdict_rows a q) (Granted, q.amount)
    ((λ _ _. omega arith), ((λ _ _. omega arith), ((λ _ t. absurd (true≢false t)), ((λ _ _. omega arith), ((λ _ _. omega arith), ((λ t _. let less = ltb-true a.balance q.amount (and_parts (same_kind q.kind Reset) (nat_lt a.balance q.amount) t).1 in omega arith), tt))))))
    (λ _ _. omega arith)

-- what is written of an amount that is no more than what was asked fits its field, and is all of what was asked
written_fits : (v asked amount : ℕ) → IsNumber (sum_size v) asked → amount ≤ asked → IsNumber (sum_size v) (written_amount v amount)
written_fits v asked amount h le = go (v == 1) h
  where
    go : (b : Bool) → IsNumber (cond b Four Eight) asked → IsNumber (cond b Four Eight) (cond b (min amount 4294967295) amount)
    go true k = omega (arith, min-le_right amount 4294967295)
    go false k = omega (arith, k, le)

written_same : (v asked : ℕ) → IsNumber (sum_size v) asked → written_amount v asked ≡ asked
written_same v asked h = go (v == 1) h
  where
    go : (b : Bool) → IsNumber (cond b Four Eight) asked → cond b (min asked 4294967295) asked ≡ asked
    go true k = min-eq_left (omega (arith, k))
    go false k = refl

dated_signed : (t : Bool) (q : Request) → IsDay q.day → FitsSigned w32 (cond t (q.day +ℤ pos 92) (pos 0))
dated_signed true q h = deadline_signed q.day h
dated_signed false q h = no_deadline

-- == the last ruling ==

stored_is : (d : ℕ) (x : Verdict × List ℕ) (C : List Commit) → last_ruling d C ≡ Some x → stored_reply d C ≡ None → ⊥
stored_is d x [] h k = some_none (sym h)
stored_is d x (c.Ruled f n v note ∷ C) h k = either f d
    (λ t y. some_none (rw t at k))
    (λ t. stored_is d x C (rw t at h) (rw t at k))
stored_is d x (_ ∷ C) h k = stored_is d x C h k

module _ (ρ : Rules) where
  -- the Reply to a Request that shows what the centre holds fits its fields
  pub reply_whole : (q : Request) (C : List Commit) → Good ρ C → IsWhole (m.Request q) → Shown q (bought q.device C) (returned q.device C) → IsWhole (m.Reply (reply_to C q))
  unfolding reply_to verdict
  reply_whole q C g w shown =
      whole_reply _ w.0 w.1.1.1.0 w.1.1.1.1.0 (written_fits q.version q.amount _ w.1.1.1.1.1.1.1.0 (amount_le (account_of C q) q (never_imbalance ρ C q shown)))
      (dated_signed (is_dated (verdict C q).0 q.kind) q w.2) (registered_word ρ q.device C g)

  -- and says what the ruling says
  reply_vouched : (d n : ℕ) (v : Verdict) (note : List ℕ) (q : Request) (C : List Commit) → request_in note ≡ q → IsWhole (m.Request q) → q.device ≡ d → q.number ≡ n → v ≡ (verdict C q).0 → ruled d C < n → GenuineReply (reply_to C q) (c.Ruled d n v note ∷ C)
  unfolding reply_to verdict
  reply_vouched d n v note q C is_note fits same number says above =
      let at = added ρ d d n v note C (eq-eqb d d refl) above in
      let there : ruling_of q.device q.number (c.Ruled d n v note ∷ C) ≡ Some (v, note) = subst (λ (z : ℕ × ℕ). ruling_of z.0 z.1 (c.Ruled d n v note ∷ C) ≡ Some (v, note)) (λ j. (sym same j, sym number j)) at in
      record {
        note = note;
        ruled_as = there ∙ ap (λ (z : Verdict). Some (z, note)) says;
        kind = ap (λ (z : Request). z.kind) (sym is_note);
        amount = λ h. ap (written_amount q.version) (granted_amount (account_of C q) q h) ∙ written_same q.version q.amount fits.1.1.1.1.1.1.1.0 ∙ ap (λ (z : Request). z.amount) (sym is_note);
        whole = subst (λ (z : ℕ × ℕ). ruled_reply z.0 z.1 (c.Ruled d n v note ∷ C) ≡ Some (reply_to C q)) (λ j. (sym same j, sym number j))
            (reply_added ρ d d n v note C (eq-eqb d d refl) above ∙ ap (λ (z : Request). Some (reply_to C z)) is_note);
      }

  record StoredReply (x : List ℕ) (C : List Commit) : Type 0 where
    reply : ReplyMsg
    reads : read x ≡ Ok (m.Reply reply)
    vouched : GenuineReply reply C

  -- the stored Reply reads as one that the ruling vouches for
  stored_vouched : (d : ℕ) (x : List ℕ) (C : List Commit) → Good ρ C → stored_reply d C ≡ Some x → StoredReply x C
  stored_vouched d x [] g h = absurd (none-some _ h)
  stored_vouched d x (c.Ruled f n v note ∷ C) g h = either f d
      (λ t s.
      let it = note_reads ρ f n note C g.1 g.0.asked_as in
      let is : reply_note C (request_in note) ≡ x = same_Some _ _ (rw t at h) in
      let next = g.0.next in
      let q = request_in note in
      record {
        reply = reply_to C q;
        reads = ap read (sym is) ∙ read_spell (m.Reply (reply_to C q)) (key_in (registered q.device C)) g.0.whole;
        vouched = reply_vouched f n v note q C refl it.whole it.device it.number g.0.verdict (omega arith);
      })
      (λ t. let was = stored_vouched d x C g.1 (rw t at h) in record { reply = was.reply; reads = was.reads; vouched = reply_kept was.reply (c.Ruled f n v note) C was.vouched })
  stored_vouched d x (k ∷ C) g h = let was = stored_vouched d x C g.1 h in record { reply = was.reply; reads = was.reads; vouched = reply_kept was.reply k C was.vouched }

module _ (ρ : Rules) (H : Ledger) (i : Inv ρ H) (on : is_on Centre H ≡ true) where
  abbrev C : List Commit
  C = counted H

  -- the plan of an act of the centre that is reported so
  abbrev OkTold : {A : Type 0} → (A → Said) → CentreAct A → Type 0
  OkTold say act = PlanOk ρ H (said_plan (centre.says say act))

  no_ok : (x : CentreRefusal) → IsSaneCentre x → PlanOk ρ H (refuse (r.CentreRefused x))
  no_ok x s = ok_refuse ρ H (r.CentreRefused x) refl s

  -- what is only reported
  told_ok : (x : Reply) → IsSane x → after (told x []) x H ≡ H → PlanOk ρ H (told x [])
  told_ok x s plain = record { sane = s; plain = plain; no_up = λ l k h. refl; fit = λ y h. absurd (none-some _ h); keeps = λ j. j }

  pub register_ok : (d o : ℕ) (key : List ℕ) → IsDevice d → IsWord o → IsKey key → PlanOk ρ H (centre.register_plan d o key C)
  register_ok d o key device origin fits = by (registered d C) refl
    where
      by : (w : Option (ℕ × List ℕ)) → registered d C ≡ w → OkTold (centre.told_registered d) (registered_act d o key (option_map (λ x. device_row_with d C x) w))
      by None has = ok_made ρ H (r.Registered d) (c.Registered d o key) refl tt (λ n k h. absurd (cc)) (record { fits = has; on = on; range = (device, origin, fits); sure = tt })
      by (Some x) has = no_ok no.Known tt

  -- the row of a customer, where it is open
  abbrev if_open : ℕ → Bool → Option CustomerRow
  if_open w t = if t then Some (customer_row_with w C) else None

  pub open_ok : (w : ℕ) → IsCustomer w → PlanOk ρ H (centre.open_plan w C)
  open_ok w range = by (opened w C) refl
    where
      by : (t : Bool) → opened w C ≡ t → OkTold (centre.told_opened w) (opened_act w (if_open w t))
      by true has = no_ok no.Known tt
      by false has = ok_made ρ H (r.Opened w) (c.Opened w) refl tt (λ n k h. absurd (cc)) (record { fits = has; on = on; range = range; sure = tt })

  pub flag_ok : (w : ℕ) (s : Bool) → IsCustomer w → PlanOk ρ H (centre.flag_plan w s C)
  flag_ok w s range = by (opened w C) refl
    where
      by : (t : Bool) → opened w C ≡ t → OkTold (centre.told_flagged w s) (flagged_act w s (if_open w t))
      by true has = ok_made ρ H (r.Flagged w s) (c.Flagged w s) refl tt (λ n k h. absurd (cc)) (record { fits = has; on = on; range = range; sure = tt })
      by false has = no_ok (no.UnknownCustomer w) tt

  pub balance_ok : (w : ℕ) → PlanOk ρ H (centre.balance_plan w C)
  balance_ok w = by (opened w C)
    where
      by : (t : Bool) → OkTold (centre.told_balance w) (left_act w (balance w C) (if_open w t))
      by true = told_ok (r.Balance w (balance w C)) tt refl
      by false = no_ok (no.UnknownCustomer w) tt

  deposited_ok : (w n a : ℕ) → IsCustomer w → IsWord n → IsWord a → opened w C ≡ true
      → OkTold (centre.told_deposited w n) (taken_act w n a (customer_row_with w C) (deposited_row (customer_row_with w C) n a (deposit_answer (receipt w C) (deposits w C) n a)))
  deposited_ok w n a range receipts amounts has =
      let last = receipt w C in
      let sum = deposits w C in
      let P = λ (z : Result (Option ℕ) CentreRefusal). OkTold (centre.told_deposited w n) (taken_act w n a (customer_row_with w C) (deposited_row (customer_row_with w C) n a z)) in
      chosen P ((n == last.0) && nat_lt 0 n) _ _
      (λ _. chosen P (a == last.1) (Ok None) (Err (no.Conflict last.1))
      (λ _. told_ok (r.Deposited w n true sum) tt refl)
      (λ _. no_ok (no.Conflict last.1) tt))
      (λ _. first_refusal P IsSaneCentre (deposit_rows last sum n a) (Ok (Some (sum + a))) (search rules) no_ok
      (λ rows.
      let may = may_deposit last sum n a rows in
      ok_made ρ H (r.Deposited w n false (sum + a)) (c.Deposited w n a) refl tt (λ l k h. absurd (cc)) (record {
        fits = record {
          known = has;
          next = may.receipt;
          low = may.from_1;
          high = may.most;
          room = may.room;
        };
        on = on;
        range = (range, (omega (arith, may.receipt), receipts), (may.from_1, may.most));
        sure = tt;
      })))

  pub deposit_ok : (w n a : ℕ) → IsCustomer w → IsWord n → IsWord a → PlanOk ρ H (centre.deposit_plan w n a C)
  deposit_ok w n a range receipts amounts = by (opened w C) refl
    where
      by : (t : Bool) → opened w C ≡ t → OkTold (centre.told_deposited w n) (deposited_act w n a (if_open w t))
      by false has = no_ok (no.UnknownCustomer w) tt
      by true has = deposited_ok w n a range receipts amounts has

  -- == a Request ==

  -- a Request that was ruled last is the stored one
  stored_same : (bytes : List ℕ) (q : Request) → read bytes ≡ Ok (m.Request q) → IsSent bytes H → q.number ≡ ruled q.device C → 0 < ruled q.device C
      → bytes_eq (stored_note (last_ruling q.device C)) bytes ≡ true
  stored_same bytes q reads sent same some =
      let last = last_some ρ q.device C some in
      let asked : note_of q.device q.number C ≡ Some bytes = genuine_at bytes (m.Request q) H C (i.sents bytes sent) reads in
      let one = ruling_asked ρ q.device (ruled q.device C) last.0 C i.good (last_is ρ q.device last.0 C i.good last.1) in
      let two = subst (λ z. note_of q.device z C ≡ Some bytes) same asked in
      let note : last.0.1 ≡ bytes = same_Some _ _ (sym one ∙ two) in
      subst (λ z. bytes_eq (stored_note z) bytes ≡ true) (sym last.1) (subst (λ z. bytes_eq z bytes ≡ true) (sym note) (bytes_eq_same bytes))

  -- the row of the device, which is registered so
  module _ (d k : ℕ) (x : ℕ × List ℕ) where
    abbrev row : DeviceRow
    row = device_row_with d C x

    -- what is given again is the stored Reply, with its verdict
    again_ok : (y : List ℕ) → stored_reply d C ≡ Some y → OkTold (centre.told_taken k) (repeated_act row (ruling_in row))
    unfolding ruling_in
    again_ok y stored =
        let it = stored_vouched ρ d y C i.good stored in
        let reads : read row.reply ≡ Ok (m.Reply it.reply) = ap (λ o. read (note_or_none o)) stored ∙ it.reads in
        subst (λ o. OkTold (centre.told_taken k) (repeated_act row o)) (sym (ap (λ z. ruling_read z row.request) reads)) (record {
          sane = ruling_sane ρ it.reply.device it.reply.number (it.reply.verdict, it.vouched.note) C i.good it.vouched.ruled_as;
          plain = refl;
          no_up = λ l j h. refl;
          fit = λ z h. absurd (none-some _ h);
          keeps = λ j. inv_sent ρ H row.reply (record { what = m.Reply it.reply; reads = reads; vouched = it.vouched }) j;
        })

    repeat_ok : 0 < ruled d C → OkTold (centre.told_taken k) (repeated_act row (ruling_in row))
    repeat_ok some = by (stored_reply d C) refl
      where
        by : (y : Option (List ℕ)) → stored_reply d C ≡ y → OkTold (centre.told_taken k) (repeated_act row (ruling_in row))
        by None none = let last = last_some ρ d C some in absurd (stored_is d last.0 C last.1 none)
        by (Some y) stored = again_ok y stored

  module _ (bytes : List ℕ) (q : Request) (k : ℕ) (reads : read bytes ≡ Ok (m.Request q)) (x : ℕ × List ℕ) (has : registered q.device C ≡ Some x) where
    abbrev OkTurn : Result Bool CentreRefusal → Type 0
    OkTurn z = OkTold (centre.told_taken k) (turn_act bytes q (row q.device k x) (centre.in_commits C) z)

    -- a Request of the next number is ruled
    new_ok : note_of q.device q.number C ≡ Some bytes → q.number ≡ ruled q.device C + 1 → OkTurn (Ok false)
    new_ok asked next =
        let d = q.device in
        let n = q.number in
        let it = note_reads ρ d n bytes C i.good asked in
        let is : request_in bytes ≡ q = request_in_read bytes q reads in
        let shown : Shown q (bought d C) (returned d C) = subst (λ (z : Request). Shown z (bought d C) (returned d C)) is (new_shown ρ d n bytes C i.good asked (omega arith)) in
        let whole : IsWhole (m.Request q) = subst (λ (z : Request). IsWhole (m.Request z)) is it.whole in
        let reply = reply_whole ρ q C i.good whole shown in
        let order = centre_order ρ C i.good in
        subst (PlanOk ρ H) (λ j. let v = sym (verdict_is C order q x) j in made (r.Ruled d n v false k) (c.Ruled d n v bytes) (e.Sent (sym (reply_is C order q x bytes has) j) ∷ [])) (record {
          sane = never_imbalance ρ C q shown;
          plain = refl;
          no_up = λ l j h. absurd (cc);
          fit = λ y h. subst (IsFit ρ H) (same_Some _ _ h) (record {
            fits = record {
              next = next;
              asked_as = asked;
              known = (x, has);
              verdict = ap (λ (z : Request). (verdict C z).0) (sym is);
              whole = subst (λ (z : Request). IsWhole (m.Reply (reply_to C z))) (sym is) reply;
            };
            on = on;
            range = it.range;
            sure = tt;
          });
          keeps = λ j. inv_sent ρ (e.Commit (c.Ruled d n (verdict C q).0 bytes) ∷ H) (reply_note C q) (record {
            what = m.Reply (reply_to C q);
            reads = read_spell (m.Reply (reply_to C q)) (key_in (registered d C)) reply;
            vouched = reply_vouched ρ d n (verdict C q).0 bytes q C is whole refl refl refl (omega arith);
          }) j;
        })

    rule_ok : IsSent bytes H → OkTurn (turn_answer (ruled q.device C) (stored_note (last_ruling q.device C)) q.number bytes)
    rule_ok sent =
        let d = q.device in
        let n = q.number in
        let g = ruled d C in
        let asked : note_of d n C ≡ Some bytes = genuine_at bytes (m.Request q) H C (i.sents bytes sent) reads in
        chosen OkTurn (nat_lt n g || (n == 0)) _ _
        (λ _. no_ok (no.Old g) tt)
        (λ old.
        let parts = or_parts (nat_lt n g) (n == 0) old in
        let low : g ≤ n = ltb-false n g parts.0 in
        let some : n ≡ 0 → ⊥ = eqb-false n 0 parts.1 in
        chosen OkTurn (n == g) _ _
        (λ same.
        let is : n ≡ g = eqb-true n g same in
        chosen OkTurn (bytes_eq (stored_note (last_ruling d C)) bytes) (Ok true) (Err (no.Changed g))
        (λ _. repeat_ok d k x (omega arith))
        (λ t. absurd (true≢false (sym (stored_same bytes q reads sent is (omega arith)) ∙ t))))
        (λ not_same.
        let apart : n ≡ g → ⊥ = eqb-false n g not_same in
        chosen OkTurn (nat_lt (g + 1) n) (Err (no.Ahead g)) (Ok false)
        (λ t. absurd (let up = ltb-true (g + 1) n t in let l = link ρ d C i.good in let le = note_le ρ d n bytes C i.good asked in omega arith))
        (λ ahead. let high : n ≤ g + 1 = ltb-false (g + 1) n ahead in new_ok asked (omega arith))))

  -- == a Done ==

  settle_ok : (q : DoneMsg) (bytes : List ℕ) (k : ℕ) (x : ℕ × List ℕ) → read bytes ≡ Ok (m.Done q) → IsSent bytes H
      → OkTold (centre.told_taken k) (settled_act (row q.device k x) q.number (settled_row (row q.device k x) (settle_answer (settled q.device C) (ruled q.device C) q.number)))
  settle_ok q bytes k x reads sent =
      let d = q.device in
      let n = q.number in
      let P = λ (z : Result (Option ℕ) CentreRefusal). OkTold (centre.told_taken k) (settled_act (row d k x) n (settled_row (row d k x) z)) in
      let applied : (v : Verdict) × (applied_of d n C ≡ Some v) = genuine_at bytes (m.Done q) H C (i.sents bytes sent) reads in
      chosen P (nat_le n (settled d C)) _ _
      (λ _. told_ok (r.Settled d n true) tt refl)
      (λ new. chosen P (n == ruled d C) (Ok (Some n)) (Err (no.Ahead (ruled d C)))
      (λ same.
      let is : n ≡ ruled d C = eqb-true n (ruled d C) same in
      let note = applied_asked ρ d n applied.0 C i.good applied.1 in
      ok_made ρ H (r.Settled d n false) (c.Settled d n) refl tt (λ l k h. absurd (cc)) (record {
        fits = record { new = leb-false n (settled d C) new; known = omega arith; v = applied.0; applied_as = applied.1 };
        on = on;
        range = (note_reads ρ d n note.0 C i.good note.1).range;
        sure = tt;
      }))
      (λ t. no_ok (no.Ahead (ruled d C)) (absurd (
      let l = link ρ d C i.good in
      let up = leb-false n (settled d C) new in
      let le = applied_le ρ d n applied.0 C i.good applied.1 in
      let apart : n ≡ ruled d C → ⊥ = eqb-false n (ruled d C) t in
      omega arith))))

  taken_ok : (k : ℕ) (bytes : List ℕ) (x : Result Message Unread) → read bytes ≡ x → IsKnown bytes x Centre H → OkTold (centre.told_taken k) (message_act bytes (centre.in_commits C) x)
  taken_ok k bytes (Ok (m.Request q)) reads known = keyed (registered q.device C) refl
    where
      keyed : (w : Option (ℕ × List ℕ)) → registered q.device C ≡ w → OkTold (centre.told_taken k) (request_act bytes q (option_map (λ x. device_row_with q.device C x) w) (centre.in_commits C))
      keyed None has = no_ok (no.UnknownDevice q.device) tt
      keyed (Some x) has = chosen (λ (act : CentreAct CentreAnswer). OkTold (centre.told_taken k) act) (has_code x.1 bytes) _ _
          (λ t. rule_ok bytes q k reads x has (known refl x has t))
          (λ _. no_ok no.BadCode tt)
  taken_ok k bytes (Ok (m.Done q)) reads known = keyed (registered q.device C) refl
    where
      keyed : (w : Option (ℕ × List ℕ)) → registered q.device C ≡ w → OkTold (centre.told_taken k) (done_act bytes q (option_map (λ x. device_row_with q.device C x) w))
      keyed None has = no_ok (no.UnknownDevice q.device) tt
      keyed (Some x) has = chosen (λ (act : CentreAct CentreAnswer). OkTold (centre.told_taken k) act) (has_code x.1 bytes) _ _
          (λ t. settle_ok q bytes k x reads (known refl x has t))
          (λ _. no_ok no.BadCode tt)
  taken_ok k bytes (Ok (m.Reply p)) reads known = no_ok (no.Unread unread.Tag) tt
  taken_ok k bytes (Ok (m.Debit p)) reads known = no_ok (no.Unread unread.Tag) tt
  taken_ok k bytes (Ok (m.Release x)) reads known = no_ok (no.Unread unread.Tag) tt
  taken_ok k bytes (Err x) reads known = no_ok (no.Unread x) tt

  pub centre_ok : (k : ℕ) (bytes : List ℕ) → IsKnown bytes (read bytes) Centre H → PlanOk ρ H (centre.take_plan k bytes C)
  centre_ok k bytes known = taken_ok k bytes (read bytes) refl known

  pub reconcile_ok : (d total : ℕ) → PlanOk ρ H (centre.reconcile_plan d total C)
  reconcile_ok d total = by (registered d C)
    where
      by : (w : Option (ℕ × List ℕ)) → OkTold (centre.told_standing d total) (stood_act d (option_map (λ x. centre.standing_after d C) w))
      by None = no_ok (no.UnknownDevice d) tt
      by (Some x) = let a = centre.standing_after d C in told_ok (r.Reconciled d total a.centre a.in_flight) tt refl
