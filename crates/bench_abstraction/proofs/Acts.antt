-- After the commit of a call of a device, its record is that of the commits and the new one.
use Rattle.std.proofs.Common.{◌≡◌, ℕ, ℤ, true, false, List, ◌∷◌, Option, Some, None, Result, Ok, Err, refl, sym, subst, rules}
use Rattle.std.specs.Prelude.{◌+◌, IfSome}
use Rattle.std.proofs.lemmas.Bool.{eq-eqb}
use Rattle.bench_base.specs.declared.{words.Kind.Kind, words.Verdict.Verdict, words.Node.TheVariants.Device, refusals.DevRefusal.DevRefusal, refusals.Unread.Unread, ledger.Commit.Commit}
use Rattle.bench_base.specs.declared.ledger.Commit.TheVariants as c
use Rattle.bench_base.specs.declared.events.Reply.TheVariants as r
use Rattle.bench_base.specs.Rules.{todays_rules}
use Rattle.bench_base.specs.Nodes.{node_of}
use Rattle.bench_base.specs.Ledger.{Ledger, is_on, counted, count_of}
use Rattle.psd_wire.specs.declared.{message.Request.Request, message.DebitMsg.DebitMsg, message.ReplyMsg.ReplyMsg, message.Message.Message}
use Rattle.psd_wire.specs.declared.message.Message.TheVariants as m
use Rattle.psd_wire.specs.Grammar.{read}
use Rattle.ledger_terms.specs.Devices.{key_of}
use Rattle.ledger_terms.specs.Rulings.{ruled_reply}
use Rattle.node_acts.specs.declared.act.Act.{Act}
use Rattle.node_acts.proofs.OfCommits.{commit_says, said_commit}
use Rattle.bench_base.proofs.Rows.{first, none_holds, passes}
use Rattle.psd_state.proofs.Passed.{own_reply, may_apply}
use Rattle.psd_state.proofs.Released.{commit_released}
use Rattle.psd_state.specs.State.{State, Holds}
use Rattle.psd_state.specs.Records.{IsRecordOf, IsRuled as HasRuling, state_of}
use Rattle.psd_state.specs.Answers.{debit_answer, ask_answer, apply_answer, apply_rows, resend_answer, done_answer}
use Rattle.psd_state.specs.Seen.{counting}
use Rattle.psd_state.specs.Acts.{DeviceAct, make_act, franked_act, debit_act, asked_act, ask_act, applied_act, reply_rows, reply_act, message_act, take_act, told_act, resend_act, ack_act, status_act}
use Rattle.psd_state.specs.Laws.{MakingStarts, DebitingKeeps, AskingKeeps, ApplyingKeeps}
use Rattle.psd_state.specs.declared.{debiting.Debited.Debited, debiting.Debited.TheVariants.New, debiting.Debited.TheVariants.Again, acts.Taken.Taken}
use Rattle.psd_state.specs.declared.acts.Taken.TheVariants as taken_as
use Rattle.ledger_moves.specs.Moves.{debit_by}
use Rattle.ledger_laws.specs.Nexts.{AreOrdered}
use Rattle.bench_abstraction.specs.declared.{calls.DeviceCall.DeviceCall, calls.DeviceCall.TheVariants.Make, calls.DeviceCall.TheVariants.Debit, calls.DeviceCall.TheVariants.Ask, calls.DeviceCall.TheVariants.Resend, calls.DeviceCall.TheVariants.Ack, calls.DeviceCall.TheVariants.Status, calls.DeviceCall.TheVariants.Take}
use Rattle.ledger_moves.specs.Devices.{record_in, record_with}
use Rattle.bench_abstraction.specs.Devices.{seen_in, marked, took, device_act, IsKnown}
use Rattle.bench_abstraction.proofs.Calling.{IsMade}
use Rattle.bench_abstraction.proofs.Genuine.{IsRuled, IsGenuine}
use Rattle.bench_abstraction.proofs.Steps.{IsQuiet, IsSaid, IsQuietAct, IsRight, quiet_says}

-- == what is said ==

refused_quiet : (d : ℕ) (y : DevRefusal) → IsQuiet (r.DevRefused d y)
refused_quiet d y = tt

took_said : (d k : ℕ) (a : Taken) → IsSaid (took d k a)
took_said d k (taken_as.Applied n v) = refl
took_said d k (taken_as.Released piece x again) = refl

pub call_quiet : (d : ℕ) (today : ℤ) (call : DeviceCall) (s : Option State) → IsQuietAct (device_act d today call s)
call_quiet d today (Make c) s = quiet_says (r.DevRefused d) _ (refused_quiet d) (λ u. refl) (make_act d c.key s)
call_quiet d today (Debit c) s =
    quiet_says (r.DevRefused d) (marked d c.piece) (refused_quiet d) (λ f. refl) (debit_act todays_rules d (debit_by d c.piece c.postage c.class) today s)
call_quiet d today (Ask c) s = quiet_says (r.DevRefused d) _ (refused_quiet d) (λ note. refl) (ask_act todays_rules d c.kind c.customer c.amount today s)
call_quiet d today (Resend c) s = quiet_says (r.DevRefused d) _ (refused_quiet d) (λ note. refl) (resend_act s)
call_quiet d today (Ack c) s = quiet_says (r.DevRefused d) _ (refused_quiet d) (λ note. refl) (ack_act s)
call_quiet d today Status s = quiet_says (r.DevRefused d) _ (refused_quiet d) (λ shown. refl) (status_act today s)
call_quiet d today (Take c) s = quiet_says (r.DevRefused d) (took d c.message) (refused_quiet d) (took_said d c.message) (take_act todays_rules d c.bytes today s)

-- == its record ==

module _ (H : Ledger) (ordered : AreOrdered (counted H)) (making : MakingStarts) (debiting : DebitingKeeps) (asking : AskingKeeps) (applying : ApplyingKeeps) (d : ℕ) (known : IsKnown (seen_in d (counted H))) where
  abbrev C : List Commit
  C = counted H

  -- what is known of the commit that an act makes, where it is made
  abbrev pub IsNextMade : {F A : Type 0} → Act State F A → Type 0
  IsNextMade act = IsMade counting (Device d) (seen_in d) H (λ c s. AreOrdered (c ∷ counted H) × IsKnown s) act

  abbrev pub IsRightAct : {F A : Type 0} → Act State F A → Type 0
  IsRightAct act = IsRight counting (Device d) (seen_in d) H act

  -- after a commit of the device that its record follows
  seen_is : (s : State) (c : Commit) → node_of c ≡ Device d → IsRecordOf s d (c ∷ C) → seen_in d (c ∷ C) ≡ record { count = count_of (Device d) C + 1; state = Some s }
  seen_is s c own is = rw (own, eq-eqb d d refl, is.made, sym is.state) refl

  holds_of : (key : List ℕ) → key_of d C ≡ Some key → Holds (state_of d key C)
  holds_of key is = subst (λ (o : Option (List ℕ)). IfSome (record_with d C o) Holds) is known.holds

  make_right : (key : List ℕ) (k : Option (List ℕ)) → key_of d C ≡ k → IsRightAct (make_act d key (record_with d C k))
  make_right key None h = (refl, λ on fresh. seen_is _ _ refl (making d key C (ordered.devices d) h).0)
  make_right key (Some old) h = tt

  franked_right : (q : DebitMsg) (today : ℤ) (s : State) (result : Result Debited DevRefusal) → IsRecordOf s d C → debit_answer todays_rules s q today ≡ result
      → IsRightAct (franked_act todays_rules d q today result)
  franked_right q today s (Err x) is h = tt
  franked_right q today s (Ok (New t mark)) is h = (refl, λ on fresh. seen_is t _ refl (debiting todays_rules d C s t q today mark (ordered.devices d) is h).0)
  franked_right q today s (Ok (Again mark)) is h = tt

  debit_right : (q : DebitMsg) (today : ℤ) (k : Option (List ℕ)) → key_of d C ≡ k → IsRightAct (debit_act todays_rules d q today (record_with d C k))
  debit_right q today None h = tt
  debit_right q today (Some key) h = franked_right q today (state_of d key C) _ (ordered.records d key h) refl

  asked_right : (kind : Kind) (who amount : ℕ) (today : ℤ) (s : State) (result : Result (State × List ℕ) DevRefusal) → IsRecordOf s d C → ask_answer todays_rules s kind who amount today ≡ result
      → IsNextMade (asked_act d (s.number + 1) result) → IsRightAct (asked_act d (s.number + 1) result)
  asked_right kind who amount today s (Err x) is h made = tt
  asked_right kind who amount today s (Ok x) is h made =
      (refl, λ on fresh. seen_is x.0 _ refl (asking todays_rules d C s x.0 kind who amount today x.1 (ordered.devices d) is h (made on fresh).1.holds).0)

  ask_right : (kind : Kind) (who amount : ℕ) (today : ℤ) (k : Option (List ℕ)) → key_of d C ≡ k → IsNextMade (ask_act todays_rules d kind who amount today (record_with d C k))
      → IsRightAct (ask_act todays_rules d kind who amount today (record_with d C k))
  ask_right kind who amount today None h made = tt
  ask_right kind who amount today (Some key) h made = asked_right kind who amount today (state_of d key C) _ (ordered.records d key h) refl made

  told_right : {A : Type 0} (result : Result A DevRefusal) → IsRightAct (told_act result)
  told_right (Ok a) = tt
  told_right (Err x) = tt

  resend_right : (k : Option (List ℕ)) → IsRightAct (resend_act (record_with d C k))
  resend_right None = tt
  resend_right (Some key) = told_right (resend_answer (state_of d key C) (state_of d key C).pending)

  ack_right : (k : Option (List ℕ)) → IsRightAct (ack_act (record_with d C k))
  ack_right None = tt
  ack_right (Some key) = told_right (done_answer (state_of d key C))

  status_right : (today : ℤ) (k : Option (List ℕ)) → IsRightAct (status_act today (record_with d C k))
  status_right today None = tt
  status_right today (Some key) = tt

  -- == a Reply ==

  -- it ends what is outstanding
  ended : (s after : State) (p : ReplyMsg) (o : Option Request) → apply_answer s o p ≡ Ok after → (q : Request) × (o ≡ Some q) × (p.number ≡ q.number)
  ended s after p None is = cc
  ended s after p (Some q) is =
      (q, refl, (may_apply p q (passes (apply_rows p q) _ after (search rules) is).0).number)

  -- the Applied comes after a ruling of its number, with its verdict
  is_ruled : (n : ℕ) (v : Verdict) → AreOrdered (c.Applied d n v ∷ C) → HasRuling d n v C
  is_ruled n v next = ((next.devices d).0 refl).3

  applied_right : (p : ReplyMsg) (s : State) (result : Result State DevRefusal) → IsRecordOf s d C → Holds s → ruled_reply d p.number C ≡ Some p → apply_answer s s.pending p ≡ result
      → IsNextMade (applied_act d p result) → IsRightAct (applied_act d p result)
  applied_right p s (Err x) is holds whole h made = tt
  applied_right p s (Ok after) is holds whole h made = (refl, λ on fresh. seen_is after _ refl (kept on fresh))
    where
      kept : is_on (Device d) H ≡ true → counting.is_worn (seen_in d C) after ≡ false → IsRecordOf after d (c.Applied d p.number p.verdict ∷ C)
      kept on fresh =
          let q = ended s after p s.pending h in
          let ruled = subst (λ (n : ℕ). HasRuling d n p.verdict C) q.2 (is_ruled p.number p.verdict (made on fresh).0) in
          let reply = subst (λ (n : ℕ). ruled_reply d n C ≡ Some p) q.2 whole in
          subst (λ (n : ℕ). IsRecordOf after d (c.Applied d n p.verdict ∷ C)) (sym q.2) (applying d C s after q.0 p (ordered.devices d) is holds q.1 ruled reply h).0

  module _ (bytes : List ℕ) (genuine : IsRuled H d bytes) where
    reply_right : (p : ReplyMsg) → read bytes ≡ Ok (m.Reply p) → (k : Option (List ℕ)) → key_of d C ≡ k → IsNextMade (reply_act d bytes p (record_with d C k)) → IsRightAct (reply_act d bytes p (record_with d C k))
    reply_right p reads None h made = tt
    reply_right p reads (Some key) h made =
        let s = state_of d key C in
        let act = applied_act d p (apply_answer s s.pending p) in
        first (λ (a : DeviceAct Taken). IsRightAct a) (reply_rows d bytes p key) act (search rules)
        (λ rows.
        let own = own_reply d bytes p key rows in
        let whole = genuine p reads own.device key h own.code in
        applied_right p s (apply_answer s s.pending p) (ordered.records d key h) (holds_of key h) (subst (λ (e : ℕ). ruled_reply e p.number C ≡ Some p) own.device whole) refl
        (subst (λ (a : DeviceAct Taken). IsNextMade a) (none_holds (reply_rows d bytes p key) act rows) made))

    message_right : (today : ℤ) (x : Result Message Unread) → read bytes ≡ x → IsNextMade (message_act todays_rules d bytes today (record_in d C) x) → IsRightAct (message_act todays_rules d bytes today (record_in d C) x)
    message_right today (Ok (m.Reply p)) reads made = reply_right p reads (key_of d C) refl made
    message_right today (Ok (m.Debit q)) reads made = commit_released _ q.piece (debit_act todays_rules d q today (record_in d C)) (debit_right q today (key_of d C) refl)
    message_right today (Ok (m.Request q)) reads made = tt
    message_right today (Ok (m.Done q)) reads made = tt
    message_right today (Ok (m.Release x)) reads made = tt
    message_right today (Err x) reads made = tt

  -- == each call ==

  pub call_right : (today : ℤ) (call : DeviceCall) → IsGenuine H d call → IsNextMade (device_act d today call (record_in d C)) → IsRightAct (device_act d today call (record_in d C))
  call_right today (Make c) genuine made = commit_says _ _ _ (make_act d c.key (record_in d C)) (make_right c.key (key_of d C) refl)
  call_right today (Debit c) genuine made =
      commit_says _ _ _ (debit_act todays_rules d (debit_by d c.piece c.postage c.class) today (record_in d C)) (debit_right (debit_by d c.piece c.postage c.class) today (key_of d C) refl)
  call_right today (Ask q) genuine made =
      let act = ask_act todays_rules d q.kind q.customer q.amount today (record_in d C) in
      commit_says _ _ _ act (ask_right q.kind q.customer q.amount today (key_of d C) refl (said_commit _ _ _ act made))
  call_right today (Resend c) genuine made = commit_says _ _ _ (resend_act (record_in d C)) (resend_right (key_of d C))
  call_right today (Ack c) genuine made = commit_says _ _ _ (ack_act (record_in d C)) (ack_right (key_of d C))
  call_right today Status genuine made = commit_says _ _ _ (status_act today (record_in d C)) (status_right today (key_of d C))
  call_right today (Take q) genuine made =
      let act = take_act todays_rules d q.bytes today (record_in d C) in
      commit_says _ _ _ act (message_right q.bytes genuine today (read q.bytes) refl (said_commit _ _ _ act made))
