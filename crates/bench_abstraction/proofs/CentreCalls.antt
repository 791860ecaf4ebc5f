-- What the centre is called for: its plan, its commit, and what is seen of it afterwards.
use Rattle.std.proofs.Common.{◌≡◌, ℕ, ℤ, ◌+◌, List, [], Option, Some, None, Bool, true, false, Result, Ok, Err, refl, sym, ◌∙◌, ap, subst, arith}
use Rattle.std.specs.Prelude.{◌-◌, length, IfSome, if◌then◌else◌}
use Rattle.std.proofs.lemmas.Bool.{lt-ltb, le-ltb}
use Rattle.bench_base.specs.declared.{words.Node.Node, words.Verdict.Verdict, words.Node.TheVariants.Device, words.Node.TheVariants.Centre, refusals.CentreRefusal.CentreRefusal, refusals.Unread.Unread, ledger.Commit.Commit, events.Event.Event}
use Rattle.bench_base.specs.declared.events.Reply.TheVariants as r
use Rattle.bench_base.specs.Rules.{todays_rules}
use Rattle.bench_base.specs.Nodes.{node_of}
use Rattle.bench_base.specs.Plans.{Plan}
use Rattle.bench_base.specs.Table.{IsBytes}
use Rattle.bench_base.specs.Ranges.{IsDevice, IsCustomer}
use Rattle.bench_base.specs.Cells.{place_of}
use Rattle.bench_base.specs.Cells as cells
use Rattle.bench_base.specs.Ledger.{Ledger, day_in, count_of, counted, message}
use Rattle.bench_base.specs.Events.{IsWholeEvent}
use Rattle.node_acts.specs.declared.{said.Said.Said, asked.Asked.Asked, asked.Asked.TheVariants.Call}
use Rattle.node_acts.specs.Plans.{IsOfNode}
use Rattle.node_acts.specs.Kinds.{node_plan, OfCall}
use Rattle.node_acts.specs.RowList.{commits_in}
use Rattle.node_acts.specs.Said.{said_plan, seen_plan}
use Rattle.psd_wire.specs.declared.{message.Request.Request, message.DoneMsg.DoneMsg, message.Message.Message}
use Rattle.psd_wire.specs.declared.message.Message.TheVariants as m
use Rattle.psd_wire.specs.Grammar.{read}
use Rattle.psd_wire.specs.Codes.{has_code}
use Rattle.ledger_terms.specs.Further.{SentAreRead, IsAddressed}
use Rattle.ledger_laws.proofs.Histories.{message_sent}
use Rattle.ledger_moves.specs.Tariffs.{Tariff}
use Rattle.ledger_moves.specs.Moves.{plan, at_node, addressee, deliver_plan, give_plan}
use Rattle.centre_ledger.specs.declared.{rows.DeviceRow.DeviceRow, rows.CustomerRow.CustomerRow, taking.CentreAnswer.CentreAnswer}
use Rattle.centre_ledger.specs.declared.taking.CentreAnswer.TheVariants as answer
use Rattle.centre_ledger.specs.Rows.{deposited_row, settled_row}
use Rattle.centre_ledger.specs.Answers.{deposit_answer, turn_answer, settle_answer}
use Rattle.centre_ledger.specs.Books.{Books, AreSound, IsCustomerAt, device_at, customer_at}
use Rattle.centre_ledger.specs.Books as books
use Rattle.centre_ledger.specs.Standing.{ruling_in}
use Rattle.centre_ledger.specs.Acts.{CentreAct, LookUps, in_books, registered_act, opened_act, flagged_act, taken_act, deposited_act, left_act, settled_act, turn_act, repeated_act, request_act, done_act, message_act}
use Rattle.centre_ledger.specs.Acts as acts
use Rattle.centre_ledger.specs.ActLaws as law
use Rattle.centre_ledger.specs.ActLaws.{AreBooksOf, FollowsCommits, ActsFollow, ActsArePlanned}
use Rattle.centre_ledger.specs.Plans as told
use Rattle.centre_ledger.specs.Plans.{says, in_commits, take_plan}
use Rattle.centre_ledger.specs.Seen.{counting, cell_of, books_in, IsKnown}
use Rattle.centre_ledger.proofs.Payers.{found_device}
use Rattle.node_acts.specs.Acts.{OfCommit}
use Rattle.node_acts.proofs.OfCommits.{of_commit, of_both, commit_says}
use Rattle.bench_abstraction.specs.declared.calls.CentreCall.{CentreCall}
use Rattle.bench_abstraction.specs.declared.calls.CentreCall.TheVariants as call
use Rattle.bench_abstraction.specs.declared.routing.Routed.TheVariants as route
use Rattle.bench_abstraction.specs.declared.routing.OfDay.TheVariants as of_day
use Rattle.bench_abstraction.specs.Routing as routing
use Rattle.bench_abstraction.specs.Routing.{routed}
use Rattle.bench_abstraction.specs.Tariff.{Quote}
use Rattle.bench_abstraction.specs.Centre.{seen_in, centre_act, centre_kind, place_in, AreBytes}
use Rattle.bench_abstraction.specs.Messages.{sent_in}
use Rattle.bench_abstraction.proofs.Calling.{at_seen, IsWornAlike}
use Rattle.bench_abstraction.proofs.Events.{each_of_centre, one_of_eight}
use Rattle.bench_abstraction.proofs.CentreCommits.{HasCell, seen_put, worn}
use Rattle.bench_abstraction.proofs.Sent.{sent_many, sent_at}
use Rattle.bench_abstraction.proofs.Shown.{centre_view}
use Rattle.bench_abstraction.proofs.Steps.{IsQuiet, IsSaid, IsQuietAct, IsRight, quiet_says}

-- == the node and the cell of each commit ==

-- the commit of the act, if it makes one, is the centre's, and lies in the cell of its row
abbrev IsPlacedAct : {A : Type 0} → CentreAct A → Type 0
IsPlacedAct = OfCommit (λ c x. (node_of c ≡ Centre) × HasCell x × (place_of c ≡ place_in (cell_of x)))

device_place : (d : ℕ) → IsDevice d → place_in (d - 1) ≡ cells.OfRow d
device_place d is = rw (lt-ltb (d - 1) 8 (omega (arith, is))) (ap cells.OfRow (omega (arith, is)))

customer_place : (w : ℕ) → IsCustomer w → place_in (7 + w) ≡ cells.OfCustomer w
customer_place w is = rw (le-ltb (7 + w) 8 (omega (arith, is))) (ap cells.OfCustomer (omega arith))

register_placed : (d origin : ℕ) (key : List ℕ) (o : Option DeviceRow) → IsDevice d → IsPlacedAct (registered_act d origin key o)
register_placed d origin key None is = (refl, is, sym (device_place d is))
register_placed d origin key (Some x) is = tt

open_placed : (w : ℕ) (o : Option CustomerRow) → IsCustomer w → IsPlacedAct (opened_act w o)
open_placed w None is = (refl, is, sym (customer_place w is))
open_placed w (Some x) is = tt

-- of a customer in its place
flag_placed : (w : ℕ) (flag : Bool) (o : Option CustomerRow) → IsCustomer w → IfSome o (IsCustomerAt w) → IsPlacedAct (flagged_act w flag o)
flag_placed w flag None is at = tt
flag_placed w flag (Some x) is at = (refl, subst IsCustomer (sym at.customer) is, sym (ap (λ (k : ℕ). place_in (7 + k)) at.customer ∙ customer_place w is))

taken_placed : (w n a : ℕ) (x : CustomerRow) (result : Result (Option ℕ) CentreRefusal) → IsCustomer w → x.customer ≡ w → IsPlacedAct (taken_act w n a x (deposited_row x n a result))
taken_placed w n a x (Err y) is at = tt
taken_placed w n a x (Ok None) is at = tt
taken_placed w n a x (Ok (Some total)) is at = (refl, subst IsCustomer (sym at) is, sym (ap (λ (k : ℕ). place_in (7 + k)) at ∙ customer_place w is))

deposit_placed : (w n a : ℕ) (o : Option CustomerRow) → IsCustomer w → IfSome o (IsCustomerAt w) → IsPlacedAct (deposited_act w n a o)
deposit_placed w n a None is at = tt
deposit_placed w n a (Some x) is at = taken_placed w n a x (deposit_answer (x.receipt, x.amount) x.deposits n a) is at.customer

balance_placed : (w left : ℕ) (o : Option CustomerRow) → IsPlacedAct (left_act w left o)
balance_placed w left None = tt
balance_placed w left (Some x) = tt

settle_placed : (r : DeviceRow) (n : ℕ) (result : Result (Option ℕ) CentreRefusal) → IsDevice r.device → IsPlacedAct (settled_act r n (settled_row r result))
settle_placed r n (Err x) is = tt
settle_placed r n (Ok None) is = tt
settle_placed r n (Ok (Some now)) is = (refl, is, sym (device_place r.device is))

turn_placed : (at : LookUps) (bytes : List ℕ) (q : Request) (r : DeviceRow) (result : Result Bool CentreRefusal) → IsDevice r.device → IsPlacedAct (turn_act bytes q r at result)
turn_placed at bytes q r (Err x) is = tt
turn_placed at bytes q r (Ok true) is = again (ruling_in r)
  where
    again : (o : Option (Verdict × List ℕ)) → IsPlacedAct (repeated_act r o)
    again None = tt
    again (Some x) = tt
turn_placed at bytes q r (Ok false) is = (refl, is, sym (device_place r.device is))

checked : {A : Type 0} (P : A → Type 0) (t : Bool) (x y : A) → P x → P y → P (if t then x else y)
checked P true x y p q = p
checked P false x y p q = q

module _ (b : Books) (sound : AreSound b) (bytes : List ℕ) where
  -- a device that has a row is one of its own
  own_device : (d : ℕ) (r : DeviceRow) → device_at b d ≡ Some r → IsDevice r.device
  own_device d r at = let found = found_device b d r sound at in subst IsDevice (sym found.0.device) found.1

  request_placed : (q : Request) (o : Option DeviceRow) → device_at b q.device ≡ o → IsPlacedAct (request_act bytes q o (in_books b))
  request_placed q None at = tt
  request_placed q (Some r) at = checked (λ (act : CentreAct CentreAnswer). IsPlacedAct act) (has_code r.key bytes) _ _ (turn_placed (in_books b) bytes q r (turn_answer r.ruled r.request q.number bytes) (own_device q.device r at)) tt

  done_placed : (q : DoneMsg) (o : Option DeviceRow) → device_at b q.device ≡ o → IsPlacedAct (done_act bytes q o)
  done_placed q None at = tt
  done_placed q (Some r) at = checked (λ (act : CentreAct CentreAnswer). IsPlacedAct act) (has_code r.key bytes) _ _ (settle_placed r q.number (settle_answer r.settled r.ruled q.number) (own_device q.device r at)) tt

  take_placed : (x : Result Message Unread) → IsPlacedAct (message_act bytes (in_books b) x)
  take_placed (Ok (m.Request q)) = request_placed q (device_at b q.device) refl
  take_placed (Ok (m.Done q)) = done_placed q (device_at b q.device) refl
  take_placed (Ok (m.Reply p)) = tt
  take_placed (Ok (m.Debit q)) = tt
  take_placed (Ok (m.Release x)) = tt
  take_placed (Err x) = tt

-- the numbers of the call fit their fields
abbrev pub IsWholeCall : CentreCall → Type 0
IsWholeCall (call.Register c) = IsDevice c.device
IsWholeCall (call.Open c) = IsCustomer c.customer
IsWholeCall (call.Deposit c) = IsCustomer c.customer
IsWholeCall (call.Flag c) = IsCustomer c.customer
IsWholeCall (call.Balance c) = IsCustomer c.customer
IsWholeCall (call.Take c) = IsBytes c.bytes

-- == what is said ==

refused_quiet : (y : CentreRefusal) → IsQuiet (r.CentreRefused y)
refused_quiet y = tt

took_said : (k : ℕ) (a : CentreAnswer) → IsSaid (told.told_taken k a)
took_said k (answer.Ruled d n v note again) = refl
took_said k (answer.Settled d n again) = refl

pub call_quiet : (c : CentreCall) (b : Books) → IsQuietAct (centre_act c b)
call_quiet (call.Register c) b = quiet_says r.CentreRefused _ refused_quiet (λ u. refl) (acts.register_act c.device c.origin c.key b)
call_quiet (call.Open c) b = quiet_says r.CentreRefused _ refused_quiet (λ u. refl) (acts.open_act c.customer b)
call_quiet (call.Deposit c) b = quiet_says r.CentreRefused _ refused_quiet (λ done. refl) (acts.deposit_act c.customer c.receipt c.amount b)
call_quiet (call.Flag c) b = quiet_says r.CentreRefused _ refused_quiet (λ u. refl) (acts.flag_act c.customer c.suspended b)
call_quiet (call.Balance c) b = quiet_says r.CentreRefused _ refused_quiet (λ left. refl) (acts.balance_act c.customer b)
call_quiet (call.Take c) b = quiet_says r.CentreRefused (told.told_taken c.message) refused_quiet (took_said c.message) (acts.take_act c.bytes b)

-- == what it is handed ==

-- a message that was sent names a device that is there, so the centre takes only what is for it
for_device : (d : ℕ) → IsDevice d → routing.device_node d ≡ Centre → Device d ≡ Centre
for_device d own is = subst (λ (there : Bool). (if there then Device d else Centre) ≡ Centre) (one_of_eight d own) is

for_centre : (x : Message) → IsAddressed x → routing.stand_in (addressee (Ok x)) ≡ Centre → addressee (Ok x) ≡ Centre
for_centre (m.Request q) own is = is
for_centre (m.Done q) own is = is
for_centre (m.Release x) own is = is
for_centre (m.Reply p) own is = for_device p.device own is
for_centre (m.Debit q) own is = for_device q.device own is

-- == at a ledger ==

module _ (H : Ledger) (known : IsKnown (seen_in (counted H))) (are : AreBooksOf (books_in (seen_in (counted H))) (counted H)) (follow : ActsFollow) (planned : ActsArePlanned) (sent : SentAreRead H) where
  abbrev C : List Commit
  C = counted H

  abbrev b : Books
  b = books_in (seen_in C)

  following : law.FollowingActs b C
  following = follow.each b C known.sound are

  plans : in_books b ≡ in_commits C
  plans = planned b C known.sound are

  -- an act of these rows: its commit, if it makes one, is the centre's, and leads to the rows after it
  abbrev IsGood : {A : Type 0} → CentreAct A → Type 0
  IsGood act = IsPlacedAct act × FollowsCommits b C act

  own : {A : Type 0} (act : CentreAct A) → IsGood act → IsOfNode Centre act
  own act good = of_commit _ _ act good.0 (λ c x placed. placed.0)

  right : {A : Type 0} (act : CentreAct A) → IsGood act → IsRight counting Centre seen_in H act
  right act good = of_commit _ _ act (of_both _ _ act good.0 good.1) (λ c x both. (both.0.0, λ on fresh. seen_put C b are known.sound.placed c x both.0.1 both.1 both.0.2))

  worn_alike : {A : Type 0} (act : CentreAct A) → IsGood act → IsWornAlike counting Centre seen_in H act
  worn_alike act good = of_commit _ _ act (of_both _ _ act good.0 good.1) (λ c x both. worn C b are known.sound.placed c x both.0.1 both.1 both.0.2 known)

  -- == each call ==

  balance_follows : (w : ℕ) (o : Option CustomerRow) → FollowsCommits b C (left_act w (books.left_in b w) o)
  balance_follows w None = tt
  balance_follows w (Some y) = tt

  register_good : (d origin : ℕ) (key : List ℕ) → IsDevice d → IsGood (acts.register_act d origin key b)
  register_good d origin key is = (register_placed d origin key (device_at b d) is, following.registered d origin key is)

  open_good : (w : ℕ) → IsCustomer w → IsGood (acts.open_act w b)
  open_good w is = (open_placed w (customer_at b w) is, following.opened w is)

  deposit_good : (w n a : ℕ) → IsCustomer w → IsGood (acts.deposit_act w n a b)
  deposit_good w n a is = (deposit_placed w n a (customer_at b w) is (known.sound.placed.customers w), following.deposited w n a)

  flag_good : (w : ℕ) (flag : Bool) → IsCustomer w → IsGood (acts.flag_act w flag b)
  flag_good w flag is = (flag_placed w flag (customer_at b w) is (known.sound.placed.customers w), following.flagged w flag)

  balance_good : (w : ℕ) → IsGood (acts.balance_act w b)
  balance_good w = (balance_placed w (books.left_in b w) (customer_at b w), balance_follows w (customer_at b w))

  take_good : (bytes : List ℕ) → IsBytes bytes → IsGood (acts.take_act bytes b)
  take_good bytes is = (take_placed b known.sound bytes (read bytes), following.taken bytes is)

  pub call_own : (c : CentreCall) → IsWholeCall c → IsOfNode Centre (centre_act c b)
  call_own (call.Register c) whole = commit_says _ _ _ (acts.register_act c.device c.origin c.key b) (own (acts.register_act c.device c.origin c.key b) (register_good c.device c.origin c.key whole))
  call_own (call.Open c) whole = commit_says _ _ _ (acts.open_act c.customer b) (own (acts.open_act c.customer b) (open_good c.customer whole))
  call_own (call.Deposit c) whole = commit_says _ _ _ (acts.deposit_act c.customer c.receipt c.amount b) (own (acts.deposit_act c.customer c.receipt c.amount b) (deposit_good c.customer c.receipt c.amount whole))
  call_own (call.Flag c) whole = commit_says _ _ _ (acts.flag_act c.customer c.suspended b) (own (acts.flag_act c.customer c.suspended b) (flag_good c.customer c.suspended whole))
  call_own (call.Balance c) whole = commit_says _ _ _ (acts.balance_act c.customer b) (own (acts.balance_act c.customer b) (balance_good c.customer))
  call_own (call.Take c) whole = commit_says _ _ _ (acts.take_act c.bytes b) (own (acts.take_act c.bytes b) (take_good c.bytes whole))

  pub call_right : (c : CentreCall) → IsWholeCall c → IsRight counting Centre seen_in H (centre_act c b)
  call_right (call.Register c) whole = commit_says _ _ _ (acts.register_act c.device c.origin c.key b) (right (acts.register_act c.device c.origin c.key b) (register_good c.device c.origin c.key whole))
  call_right (call.Open c) whole = commit_says _ _ _ (acts.open_act c.customer b) (right (acts.open_act c.customer b) (open_good c.customer whole))
  call_right (call.Deposit c) whole = commit_says _ _ _ (acts.deposit_act c.customer c.receipt c.amount b) (right (acts.deposit_act c.customer c.receipt c.amount b) (deposit_good c.customer c.receipt c.amount whole))
  call_right (call.Flag c) whole = commit_says _ _ _ (acts.flag_act c.customer c.suspended b) (right (acts.flag_act c.customer c.suspended b) (flag_good c.customer c.suspended whole))
  call_right (call.Balance c) whole = commit_says _ _ _ (acts.balance_act c.customer b) (right (acts.balance_act c.customer b) (balance_good c.customer))
  call_right (call.Take c) whole = commit_says _ _ _ (acts.take_act c.bytes b) (right (acts.take_act c.bytes b) (take_good c.bytes whole))

  -- == its plan ==

  -- at the centre, the plan of an act is what is seen, by how it says what it answers
  at : {A : Type 0} (say : A → Said) (act : LookUps → CentreAct A) → IsGood (act (in_books b)) → at_node Centre H (said_plan (says say (act (in_commits C)))) ≡ seen_plan counting Centre (centre_view H) (says say (act (in_books b)))
  at say act good =
      let seen = act (in_books b) in
      ap (λ (x : LookUps). at_node Centre H (said_plan (says say (act x)))) (sym plans)
      ∙ at_seen counting Centre seen_in H (says say seen) (commit_says _ r.CentreRefused say seen (own seen good)) (commit_says _ r.CentreRefused say seen (worn_alike seen good))

  -- what it is handed, by the next message
  handed : (today : ℤ) (bytes : List ℕ) → IsBytes bytes → give_plan todays_rules today Centre bytes H ≡ seen_plan counting Centre (centre_view H) (centre_act (call.Take (record { bytes = bytes; message = length (sent_in H) })) b)
  handed today bytes is =
      ap (λ (k : ℕ). at_node Centre H (take_plan k bytes C)) (sym (sent_many H)) ∙ at (told.told_taken (length (sent_in H))) (acts.take_by bytes) (take_good bytes is)

  -- a message that the centre takes is for it
  delivered : (today : ℤ) (k : ℕ) (bytes : List ℕ) → message k H ≡ Some bytes → routing.taker bytes ≡ Centre → deliver_plan todays_rules today k (message k H) H ≡ give_plan todays_rules today Centre bytes H
  delivered today k bytes there to =
      let x = sent bytes (message_sent k bytes H there) in
      let named : addressee (read bytes) ≡ Centre = ap addressee x.1 ∙ for_centre x.0 x.2 (subst (λ (y : Result Message Unread). routing.stand_in (addressee y) ≡ Centre) x.1 to) in
      ap (λ (o : Option (List ℕ)). deliver_plan todays_rules today k o H) there ∙ ap (λ (n : Node). give_plan todays_rules today n bytes H) named

  abbrev ByView : ℤ → Asked CentreCall → Plan
  ByView today asked = node_plan counting Centre (centre_kind.plan tt today (centre_view H)) (centre_view H) asked

  pub planned_call : (τ : Tariff) (today : ℤ) (quote : Quote) → day_in H ≡ Some today → commits_in (seen_in C) ≡ count_of Centre C → (e : Event) (asked : Asked CentreCall)
      → routed (sent_in H) quote e ≡ Some (route.OfDay (of_day.Centre asked)) → IsWholeEvent e → AreBytes asked → plan τ todays_rules H e [] ≡ ByView today asked
  unfolding plan
  planned_call τ today quote day counts = each_of_centre (sent_in H) quote (λ e asked. IsWholeEvent e → AreBytes asked → plan τ todays_rules H e [] ≡ ByView today asked) (record {
    on = λ whole bytes. rw (day, sym counts) refl;
    off = λ whole bytes. rw day refl;
    cut = λ calls keep byte whole bytes. rw day refl;
    register = λ d origin key whole bytes. rw day (at (told.told_registered d) (acts.register_by d origin key) (register_good d origin key whole.0));
    opens = λ w whole bytes. rw day (at (told.told_opened w) (acts.open_by w) (open_good w whole));
    deposit = λ w n a whole bytes. rw day (at (told.told_deposited w n) (acts.deposit_by w n a) (deposit_good w n a whole.0));
    flag = λ w flag whole bytes. rw day (at (told.told_flagged w flag) (acts.flag_by w flag) (flag_good w flag whole));
    balance = λ w whole bytes. rw day (at (told.told_balance w) (acts.balance_by w) (balance_good w));
    give = λ bytes whole are_bytes. rw day (handed today bytes are_bytes);
    deliver = λ k bytes there to whole are_bytes. rw day (delivered today k bytes (sym (sent_at H k) ∙ there) to ∙ handed today bytes are_bytes);
  })

-- == the numbers of a call ==

abbrev IsWholeAsked : Asked CentreCall → Type 0
IsWholeAsked = OfCall IsWholeCall

-- they are those of its event, and of what it hands over
pub whole_call : (H : Ledger) (quote : Quote) (e : Event) (c : CentreCall) → routed (sent_in H) quote e ≡ Some (route.OfDay (of_day.Centre (Call c))) → IsWholeEvent e → AreBytes (Call c) → IsWholeCall c
whole_call H quote e c of = each_of_centre (sent_in H) quote (λ i asked. IsWholeEvent i → AreBytes asked → IsWholeAsked asked) (record {
  on = λ whole bytes. tt;
  off = λ whole bytes. tt;
  cut = λ calls keep byte whole bytes. tt;
  register = λ d origin key whole bytes. whole.0;
  opens = λ w whole bytes. whole;
  deposit = λ w n a whole bytes. whole.0;
  flag = λ w flag whole bytes. whole;
  balance = λ w whole bytes. whole;
  give = λ bytes whole are_bytes. are_bytes;
  deliver = λ k bytes there to whole are_bytes. are_bytes;
}) e (Call c) of
