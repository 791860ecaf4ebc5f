-- A scan of bytes, a send and a balance get one answer, unless the verifier fails in the scan, or the host in the send.
use Rattle.std.proofs.Common.{◌≡◌, ◌⊎◌, inl, inr, ℕ, ℤ, List, Bool, true, false, Option, Some, None, Result, Ok, Err, true≢false, refl, sym, ◌∙◌, ap, subst}
use Rattle.std.proofs.lemmas.Option.{same_Some, none-some}
use Rattle.bench_base.specs.declared.{words.Node.Node, words.Node.TheVariants.Centre, words.Node.TheVariants.Host, words.Node.TheVariants.Verifier, refusals.MarkFault.MarkFault, refusals.ScanRefusal.ScanRefusal, ledger.Commit.Commit, events.Event.Event, events.Reply.Reply}
use Rattle.bench_base.specs.declared.events.Event.TheVariants as ev
use Rattle.bench_base.specs.declared.events.Reply.TheVariants as r
use Rattle.bench_base.specs.Cells.{is_worn}
use Rattle.bench_base.specs.Ledger.{Ledger, day_in, is_on, counted, messages}
use Rattle.bench_base.specs.Nodes.{node_of}
use Rattle.bench_base.specs.Plans.{Plan, refuse}
use Rattle.bench_base.specs.Replies.{class_of}
use Rattle.bench_base.specs.Rules.{todays_rules}
use Rattle.bench_base.proofs.Rows.{chosen}
use Rattle.node_acts.specs.declared.{act.Act.Act, act.Act.TheVariants.Refuse, act.Act.TheVariants.Tell, act.Act.TheVariants.Commits, said.Said.Said}
use Rattle.node_acts.specs.Acts.{OfCommit}
use Rattle.node_acts.specs.Plans.{FailsTold}
use Rattle.node_acts.specs.Said.{saying, said_plan}
use Rattle.indicium.specs.declared.Mark.{Mark}
use Rattle.indicium.specs.Marks.{read_mark}
use Rattle.psd_wire.specs.Codes.{has_code}
use Rattle.centre_ledger.specs.declared.rows.CustomerRow.{CustomerRow}
use Rattle.centre_ledger.specs.Acts.{left_act}
use Rattle.centre_ledger.specs.Plans as centre
use Rattle.host_jobs.specs.Acts.{debit_message_by}
use Rattle.host_jobs.specs.Plans as host
use Rattle.host_jobs.proofs.Own.{send_own}
use Rattle.verifier.specs.declared.{acts.Accepted.Accepted, acts.Spot.Spot}
use Rattle.verifier.specs.Acts.{ScanAct, answered_act, marked_act, read_act}
use Rattle.verifier.specs.Plans as scans
use Rattle.ledger_moves.specs.Tariffs.{Tariff}
use Rattle.ledger_moves.specs.Moves as moves
use Rattle.ledger_moves.specs.Moves.{Moves, plan, answer, at_node, unless_worn}
use Rattle.scan_laws.proofs.Tells.{is_failure}
use Rattle.scan_laws.proofs.Plans.{plan_says}
use Rattle.line_extensions.specs.Trace.{StepRecord}
use Rattle.trace_bench.specs.Prefixes.{IsFailure}
use Rattle.trace_runs.specs.Audits.{MayTell}
use Rattle.trace_extensions.specs.Models.{IsSure}

-- the reply is a failure of the node of this event
abbrev pub FailsAt : Event → Reply → Type 0
FailsAt (ev.ScanHex scan bytes) reply = IsFailure reply Verifier
FailsAt (ev.Send job) reply = IsFailure reply Host
FailsAt _ reply = ⊥

-- == plans in which no node fails but of those that Mine holds of ==

module _ (Mine : Node → Type 0) where
  -- no node comes on, no mark is printed, and a commit is such a node's
  pub record IsFirm (p : Plan) : Type 0 where
    pub no_up : (m : Node) (k : ℕ) → p.reply ≡ r.Up m k → ⊥
    no_print : (j : ℕ) → p.reply ≡ r.Printed j → ⊥
    pub own : (c : Commit) → p.commit ≡ Some c → Mine (node_of c)

  -- a failure is of such a node
  only_mine : (p : Plan) → IsFirm p → (reply : Reply) → FailsTold p (class_of reply) → (m : Node) × Mine m × IsFailure reply m
  only_mine p firm (r.Power m) (inl up) = absurd (firm.no_up m up.0 up.1)
  only_mine p firm (r.Power m) (inr made) = (m, subst Mine made.2 (firm.own made.0 made.1), inl refl)
  only_mine p firm (r.Fault m) (inl up) = absurd (firm.no_up m up.0 up.1)
  only_mine p firm (r.Fault m) (inr made) = (m, subst Mine made.2 (firm.own made.0 made.1), inr refl)
  only_mine p firm (r.PrinterFault j) fails = absurd (firm.no_print j fails)
  only_mine p firm _ fails = absurd fails

  -- a reply alone
  record IsCalm (x : Reply) : Type 0 where
    no_up : (m : Node) (k : ℕ) → x ≡ r.Up m k → ⊥
    no_print : (j : ℕ) → x ≡ r.Printed j → ⊥

  alone : (x : Reply) → IsCalm x → IsFirm (refuse x)
  alone x calm = record { no_up = calm.no_up; no_print = calm.no_print; own = λ c is. absurd (none-some _ is) }

  off : (n : Node) → IsFirm (refuse (r.OffNode n))
  off n = alone (r.OffNode n) (record { no_up = λ m k is. cc; no_print = λ j is. cc })

  -- an act, with its answers in words
  said : {X F A : Type 0} (refusal : F → Reply) (say : A → Said) (act : Act X F A) → ((x : F) → IsCalm (refusal x)) → ((a : A) → IsCalm (say a).reply) → OfCommit (λ c x. Mine (node_of c)) act → IsFirm (said_plan (saying refusal say act))
  said refusal say (Refuse x) refused done own = alone (refusal x) (refused x)
  said refusal say (Tell a) refused done own = record { no_up = (done a).no_up; no_print = (done a).no_print; own = λ c is. absurd (none-some _ is) }
  said refusal say (Commits c x a) refused done own = record { no_up = (done a).no_up; no_print = (done a).no_print; own = λ d is. subst (λ (b : Commit). Mine (node_of b)) (same_Some _ _ is) own }

  at : (n : Node) (H : Ledger) (p : Plan) → IsFirm p → IsFirm (at_node n H p)
  at n H p firm = chosen IsFirm (is_on n H) (unless_worn (counted H) p p.commit) (refuse (r.OffNode n)) (λ on. fresh p.commit) (λ none. off n)
    where
      fresh : (c : Option Commit) → IsFirm (unless_worn (counted H) p c)
      fresh None = firm
      fresh (Some c) = chosen IsFirm (is_worn c (counted H)) (refuse (r.Worn (node_of c))) p (λ worn. alone (r.Worn (node_of c)) (record { no_up = λ m k is. cc; no_print = λ j is. cc })) (λ whole. firm)

  dated : (p : ℤ → Plan) → ((today : ℤ) → IsFirm (p today)) → (day : Option ℤ) → IsFirm (moves.on_day p day)
  dated p firm None = alone r.NoDay (record { no_up = λ m k is. cc; no_print = λ j is. cc })
  dated p firm (Some today) = firm today

-- == the three events ==

-- the customer's balance commits nothing
balance_own : (w left : ℕ) (row : Option CustomerRow) → OfCommit (λ c x. ⊥) (left_act w left row)
balance_own w left None = tt
balance_own w left (Some row) = tt

-- a scan commits at the verifier
abbrev IsVerifiers : ScanAct Accepted → Type 0
IsVerifiers act = OfCommit (λ c x. node_of c ≡ Verifier) act

scanned_own : (n : ℕ) (k : Mark) (cell : ℕ) (x : Result Bool ScanRefusal) → IsVerifiers (answered_act n k cell x)
scanned_own n k cell (Err x) = tt
scanned_own n k cell (Ok true) = tt
scanned_own n k cell (Ok false) = refl

marked_own : (n : ℕ) (bytes : List ℕ) (k : Mark) (today : ℤ) (key : Option (List ℕ)) (spot : Spot) → IsVerifiers (marked_act n bytes k today key spot)
marked_own n bytes k today None spot = tt
marked_own n bytes k today (Some key) spot = chosen IsVerifiers (has_code key bytes) _ _ (λ good. scanned_own n k spot.cell _) (λ bad. tt)

read_own : (n : ℕ) (bytes : List ℕ) (today : ℤ) (C : List Commit) (x : Result (Mark × List ℕ) MarkFault) → IsVerifiers (read_act n bytes today (scans.in_commits C) x)
read_own n bytes today C (Err fault) = tt
read_own n bytes today C (Ok k) = marked_own n bytes k.0 today _ _

module _ (τ : Tariff) (H : Ledger) where
  pub balance_firm : (w : ℕ) (text : List ℕ) → IsFirm (λ m. ⊥) (plan τ todays_rules H (ev.Balance w) text)
  unfolding plan
  balance_firm w text = dated (λ m. ⊥) _ (λ today. at (λ m. ⊥) Centre H _ (said (λ m. ⊥) r.CentreRefused (centre.told_balance w) (left_act w _ _)
      (λ x. record { no_up = λ m k is. cc; no_print = λ j is. cc }) (λ left. record { no_up = λ m k is. cc; no_print = λ j is. cc }) (balance_own w _ _))) (day_in H)

  pub send_firm : (job : ℕ) (text : List ℕ) → IsFirm (λ m. m ≡ Host) (plan τ todays_rules H (ev.Send job) text)
  unfolding plan
  send_firm job text = dated (λ m. m ≡ Host) _ (λ today. at (λ m. m ≡ Host) Host H _ (said (λ m. m ≡ Host) r.HostRefused (host.told_sent job (messages H)) (debit_message_by job (host.in_commits (counted H)))
      (λ x. record { no_up = λ m k is. cc; no_print = λ j is. cc }) (λ note. record { no_up = λ m k is. cc; no_print = λ j is. cc }) (send_own _))) (day_in H)

  pub scan_firm : (n : ℕ) (bytes text : List ℕ) → IsFirm (λ m. m ≡ Verifier) (plan τ todays_rules H (ev.ScanHex n bytes) text)
  unfolding plan
  scan_firm n bytes text = dated (λ m. m ≡ Verifier) _ (λ today. at (λ m. m ≡ Verifier) Verifier H _ (said (λ m. m ≡ Verifier) r.ScanRefused (scans.told_accepted n) (read_act n bytes today (scans.in_commits (counted H)) (read_mark bytes))
      (λ x. record { no_up = λ m k is. cc; no_print = λ j is. cc }) (λ told. record { no_up = λ m k is. cc; no_print = λ j is. cc }) (read_own n bytes today (counted H) (read_mark bytes)))) (day_in H)

  -- of a plan that is firm: the answer, or a failure of a node that is meant
  replied : (Mine : Node → Type 0) (e : Event) (text : List ℕ) (reply : Reply) → (e ≡ ev.Rates → ⊥) → IsFirm Mine (plan τ todays_rules H e text) → Moves τ todays_rules H e text reply
      → (reply ≡ answer τ todays_rules H e text) ⊎ ((m : Node) × Mine m × IsFailure reply m)
  replied Mine e text reply other firm (whole, inl is) = inl is
  replied Mine e text reply other firm (whole, inr (inl up)) = absurd (firm.no_up up.node up.count up.answer_is)
  replied Mine e text reply other firm (whole, inr (inr (inl fails))) = inr (only_mine Mine (plan τ todays_rules H e text) firm reply fails)
  replied Mine e text reply other firm (whole, inr (inr (inr unread))) = absurd (other unread.event)

  -- the reply is the answer, or a failure of the node of the event
  abbrev IsSureReply : Event → List ℕ → Reply → Type 0
  IsSureReply e text reply = (reply ≡ answer τ todays_rules H e text) ⊎ FailsAt e reply

  scan_sure : (n : ℕ) (bytes text : List ℕ) (reply : Reply) → Moves τ todays_rules H (ev.ScanHex n bytes) text reply → IsSureReply (ev.ScanHex n bytes) text reply
  scan_sure n bytes text reply gets = elim (replied (λ m. m ≡ Verifier) (ev.ScanHex n bytes) text reply (λ wrong. cc) (scan_firm n bytes text) gets) [
    | inl is ↦ inl is
    | inr fails ↦ inr (subst (λ (m : Node). IsFailure reply m) fails.1 fails.2)
  ]

  send_sure : (job : ℕ) (text : List ℕ) (reply : Reply) → Moves τ todays_rules H (ev.Send job) text reply → IsSureReply (ev.Send job) text reply
  send_sure job text reply gets = elim (replied (λ m. m ≡ Host) (ev.Send job) text reply (λ wrong. cc) (send_firm job text) gets) [
    | inl is ↦ inl is
    | inr fails ↦ inr (subst (λ (m : Node). IsFailure reply m) fails.1 fails.2)
  ]

  balance_sure : (w : ℕ) (text : List ℕ) (reply : Reply) → Moves τ todays_rules H (ev.Balance w) text reply → IsSureReply (ev.Balance w) text reply
  balance_sure w text reply gets = elim (replied (λ m. ⊥) (ev.Balance w) text reply (λ wrong. cc) (balance_firm w text) gets) [
    | inl is ↦ inl is
    | inr fails ↦ absurd fails.1
  ]

  sure : (e : Event) (text : List ℕ) (reply : Reply) → IsSure e → Moves τ todays_rules H e text reply → IsSureReply e text reply
  sure e text reply (inl scans) = subst (λ (f : Event). Moves τ todays_rules H f text reply → IsSureReply f text reply) (sym scans.2) (scan_sure scans.0 scans.1 text reply)
  sure e text reply (inr (inl sends)) = subst (λ (f : Event). Moves τ todays_rules H f text reply → IsSureReply f text reply) (sym sends.1) (send_sure sends.0 text reply)
  sure e text reply (inr (inr asks)) = subst (λ (f : Event). Moves τ todays_rules H f text reply → IsSureReply f text reply) (sym asks.1) (balance_sure asks.0 text reply)

-- == what a step may get ==

-- the reply is the answer, or a failure of the node of the event
pub sure_reply : (τ : Tariff) (H : Ledger) (left : List ℕ) (d : StepRecord) → IsSure d.event → MayTell τ H left d → (d.reply ≡ answer τ todays_rules H d.event d.text) ⊎ FailsAt d.event d.reply
sure_reply τ H left d is may = sure τ H d.event d.text d.reply is may.moves

-- no answer is a failure
pub answer_fine : (τ : Tariff) (H : Ledger) (e : Event) (text : List ℕ) (m : Node) → IsFailure (answer τ todays_rules H e text) m → ⊥
answer_fine τ H e text m (inl is) = true≢false (sym (ap is_failure is) ∙ (plan_says H τ e text).unfailed)
answer_fine τ H e text m (inr is) = true≢false (sym (ap is_failure is) ∙ (plan_says H τ e text).unfailed)

-- so it is a failure of that node, or no failure at all
pub failure_or_none : (τ : Tariff) (H : Ledger) (left : List ℕ) (d : StepRecord) → IsSure d.event → MayTell τ H left d → FailsAt d.event d.reply ⊎ ((m : Node) → IsFailure d.reply m → ⊥)
failure_or_none τ H left d is may = elim (sure_reply τ H left d is may) [
  | inl answered ↦ inr (λ m fails. answer_fine τ H d.event d.text m (subst (λ (x : Reply). IsFailure x m) answered fails))
  | inr fails ↦ inl fails
]
