-- What the host is called for: its plan, its commit, and what is seen of it afterwards.
use Rattle.std.proofs.Common.{◌≡◌, ℕ, ℤ, List, [], Option, Some, None, Result, Ok, Err, refl, sym, ◌∙◌, ap}
use Rattle.std.specs.Prelude.{length, slice_get}
use Rattle.bench_base.specs.declared.{words.Node.Node, words.Node.TheVariants.Host, refusals.HostRefusal.HostRefusal, refusals.RateRefusal.RateRefusal, ledger.Commit.Commit, events.Event.Event}
use Rattle.bench_base.specs.declared.events.Reply.TheVariants as r
use Rattle.bench_base.specs.Rules.{todays_rules}
use Rattle.bench_base.specs.Nodes.{node_of}
use Rattle.bench_base.specs.Plans.{Plan}
use Rattle.bench_base.specs.Ranges.{IsDevice}
use Rattle.bench_base.specs.Cells.{OfJob, place_of}
use Rattle.bench_base.specs.Ledger.{Ledger, day_in, count_of, counted, message}
use Rattle.bench_base.specs.Events.{IsWholeEvent}
use Rattle.node_acts.specs.declared.{act.Act.TheVariants.Tell, asked.Asked.Asked, asked.Asked.TheVariants.Call, said.Said.Said}
use Rattle.node_acts.specs.Plans.{IsOfNode}
use Rattle.node_acts.specs.Kinds.{node_plan, OfCall}
use Rattle.node_acts.specs.RowList.{commits_in}
use Rattle.node_acts.specs.Said.{said_plan, seen_plan}
use Rattle.node_acts.specs.Acts.{OfCommit}
use Rattle.node_acts.proofs.OfCommits.{of_commit, of_both, commit_says}
use Rattle.psd_wire.specs.Grammar.{read}
use Rattle.ledger_moves.specs.Tariffs.{Tariff}
use Rattle.ledger_moves.specs.Moves.{plan, at_node, addressee, deliver_plan, give_plan}
use Rattle.host_jobs.specs.declared.rows.JobRow.{JobRow}
use Rattle.host_jobs.specs.Answers.{order_answer, send_answer}
use Rattle.host_jobs.specs.Acts.{HostAct, shelf_in, ordered_act, unless, debit_note, sent_act}
use Rattle.host_jobs.specs.Acts as acts
use Rattle.host_jobs.specs.Plans as told
use Rattle.host_jobs.specs.Plans.{says}
use Rattle.host_jobs.specs.ActLaws.{LeavesSound, ActsLeaveSound, AreRowsOf, FollowsCommits, ActsFollow, ActsArePlanned}
use Rattle.host_jobs.specs.ActLaws as law
use Rattle.host_jobs.specs.Records.{seen_after}
use Rattle.host_jobs.specs.Rows.{Jobs, open_in, job_row, tops_in}
use Rattle.host_jobs.specs.Seen.{counting, cell_of, rows_in, IsKnown}
use Rattle.host_jobs.specs.SeenLaws.{SeenLaws}
use Rattle.host_jobs.specs.Turns.{InTurn}
use Rattle.bench_abstraction.specs.declared.calls.HostCall.{HostCall}
use Rattle.bench_abstraction.specs.declared.calls.HostCall.TheVariants as call
use Rattle.bench_abstraction.specs.declared.routing.Routed.TheVariants as route
use Rattle.bench_abstraction.specs.declared.routing.OfDay.TheVariants as of_day
use Rattle.bench_abstraction.specs.Routing as routing
use Rattle.bench_abstraction.specs.Routing.{routed}
use Rattle.bench_abstraction.specs.Tariff.{Quote, quote_in}
use Rattle.bench_abstraction.specs.Host.{host_act, host_kind}
use Rattle.bench_abstraction.specs.Messages.{sent_in}
use Rattle.bench_abstraction.proofs.Calling.{at_seen, IsWornAlike}
use Rattle.bench_abstraction.proofs.Events.{each_of_host, same_taker}
use Rattle.bench_abstraction.proofs.HostCommits.{worn}
use Rattle.bench_abstraction.proofs.Sent.{sent_many, sent_at}
use Rattle.bench_abstraction.proofs.Shown.{host_view}
use Rattle.bench_abstraction.proofs.Steps.{IsQuiet, IsQuietAct, IsRight, quiet_says}

-- == the node and the cell of each commit ==

-- the commit of the act, if it makes one, is the host's, and lies in the cell of its row
abbrev IsPlacedAct : {A : Type 0} → HostAct A → Type 0
IsPlacedAct = OfCommit (λ c x. (node_of c ≡ Host) × (place_of c ≡ OfJob (cell_of x)))

sound_placed : {A : Type 0} (rows : Jobs) (act : HostAct A) → LeavesSound rows act → IsPlacedAct act
sound_placed rows act leaves = of_commit _ _ act leaves (λ c x left. (left.1, left.2))

-- whatever the price
order_placed : (d piece class : ℕ) (price : Option (Result ℕ RateRefusal)) (rows : Jobs) → IsPlacedAct (acts.order_act d piece class price rows)
order_placed d piece class None rows = tt
order_placed d piece class (Some (Err x)) rows = tt
order_placed d piece class (Some (Ok postage)) rows = by (order_answer piece (shelf_in d rows) (open_in d rows))
  where
    by : (o : Result ℕ HostRefusal) → IsPlacedAct (ordered_act d piece class postage (tops_in rows) o)
    by (Err x) = tt
    by (Ok j) = (refl, refl)

-- == what is said ==

refused_quiet : (y : HostRefusal) → IsQuiet (r.HostRefused y)
refused_quiet y = tt

pub call_quiet : (c : HostCall) (rows : Jobs) → IsQuietAct (host_act c rows)
call_quiet (call.Order c) rows = quiet_says r.HostRefused told.told_ordered refused_quiet (λ a. refl) (acts.order_act c.device c.piece c.class c.price rows)
call_quiet (call.Send c) rows = quiet_says r.HostRefused (told.told_sent c.job c.message) refused_quiet (λ note. refl) (acts.debit_message_act c.job rows)
call_quiet (call.Print c) rows = quiet_says r.HostRefused (told.told_printed c.job) refused_quiet (λ mark. refl) (acts.begin_print_act c.job rows)
call_quiet (call.Close c) rows = quiet_says r.HostRefused _ refused_quiet (λ u. refl) (acts.close_act c.job rows)
call_quiet (call.Take c) rows = quiet_says r.HostRefused told.told_held refused_quiet (λ j. refl) (acts.take_act c.bytes rows)

-- == what it is handed ==

-- the device of an order is one of 1 to 8
abbrev pub IsWholeCall : HostCall → Type 0
IsWholeCall (call.Order c) = IsDevice c.device
IsWholeCall (call.Send c) = Unit {0}
IsWholeCall (call.Print c) = Unit {0}
IsWholeCall (call.Close c) = Unit {0}
IsWholeCall (call.Take c) = Unit {0}

-- == at a ledger ==

module _ (H : Ledger) (known : IsKnown (seen_after (counted H))) (turn : InTurn (counted H)) (laws : SeenLaws) (leave : ActsLeaveSound) (follow : ActsFollow) (planned : ActsArePlanned) where
  abbrev C : List Commit
  C = counted H

  abbrev rows : Jobs
  rows = rows_in (seen_after C)

  are : AreRowsOf rows C
  are = record { order = turn; are = laws.rows C }

  leaving : law.SoundActs rows
  leaving = leave rows known.sound

  following : law.FollowingActs rows C
  following = follow.each rows C known.sound are

  plans : law.PlannedActs rows C
  plans = planned rows C known.sound are

  -- an act of these rows: its commit, if it makes one, is the host's, and leads to the rows after it
  abbrev IsGood : {A : Type 0} → HostAct A → Type 0
  IsGood act = IsPlacedAct act × FollowsCommits rows C act

  own : {A : Type 0} (act : HostAct A) → IsGood act → IsOfNode Host act
  own act good = of_commit _ _ act good.0 (λ c x placed. placed.0)

  right : {A : Type 0} (act : HostAct A) → IsGood act → IsRight counting Host seen_after H act
  right act good = of_commit _ _ act (of_both _ _ act good.0 good.1) (λ c x both. (both.0.0, λ on fresh. laws.puts rows C c x are both.1 both.0.1))

  worn_alike : {A : Type 0} (act : HostAct A) → IsGood act → IsWornAlike counting Host seen_after H act
  worn_alike act good = of_commit _ _ act good.0 (λ c x placed. worn laws C turn c x placed.1 known)

  -- == each call ==

  -- to send a message commits nothing
  send_follows : (o : Option JobRow) → FollowsCommits rows C (sent_act o)
  send_follows None = tt
  send_follows (Some x) = by (send_answer (Some x.state))
    where
      by : (o : Option HostRefusal) → FollowsCommits rows C (unless o (Tell (debit_note x)))
      by None = tt
      by (Some y) = tt

  order_good : (d piece class : ℕ) (price : Option (Result ℕ RateRefusal)) → IsDevice d → IsGood (acts.order_act d piece class price rows)
  order_good d piece class price is = (order_placed d piece class price rows, following.ordered d piece class price is)

  send_good : (j : ℕ) → IsGood (acts.debit_message_act j rows)
  send_good j = (sound_placed rows (acts.debit_message_act j rows) (leaving.sent j), send_follows (job_row rows j))

  print_good : (j : ℕ) → IsGood (acts.begin_print_act j rows)
  print_good j = (sound_placed rows (acts.begin_print_act j rows) (leaving.begun j), following.begun j)

  close_good : (j : ℕ) → IsGood (acts.close_act j rows)
  close_good j = (sound_placed rows (acts.close_act j rows) (leaving.closed j), following.closed j)

  take_good : (bytes : List ℕ) → IsGood (acts.take_act bytes rows)
  take_good bytes = (sound_placed rows (acts.take_act bytes rows) (leaving.taken bytes), following.taken bytes)

  pub call_own : (c : HostCall) → IsWholeCall c → IsOfNode Host (host_act c rows)
  call_own (call.Order c) whole = commit_says _ _ _ (acts.order_act c.device c.piece c.class c.price rows) (own (acts.order_act c.device c.piece c.class c.price rows) (order_good c.device c.piece c.class c.price whole))
  call_own (call.Send c) whole = commit_says _ _ _ (acts.debit_message_act c.job rows) (own (acts.debit_message_act c.job rows) (send_good c.job))
  call_own (call.Print c) whole = commit_says _ _ _ (acts.begin_print_act c.job rows) (own (acts.begin_print_act c.job rows) (print_good c.job))
  call_own (call.Close c) whole = commit_says _ _ _ (acts.close_act c.job rows) (own (acts.close_act c.job rows) (close_good c.job))
  call_own (call.Take c) whole = commit_says _ _ _ (acts.take_act c.bytes rows) (own (acts.take_act c.bytes rows) (take_good c.bytes))

  pub call_right : (c : HostCall) → IsWholeCall c → IsRight counting Host seen_after H (host_act c rows)
  call_right (call.Order c) whole =
      commit_says _ _ _ (acts.order_act c.device c.piece c.class c.price rows) (right (acts.order_act c.device c.piece c.class c.price rows) (order_good c.device c.piece c.class c.price whole))
  call_right (call.Send c) whole = commit_says _ _ _ (acts.debit_message_act c.job rows) (right (acts.debit_message_act c.job rows) (send_good c.job))
  call_right (call.Print c) whole = commit_says _ _ _ (acts.begin_print_act c.job rows) (right (acts.begin_print_act c.job rows) (print_good c.job))
  call_right (call.Close c) whole = commit_says _ _ _ (acts.close_act c.job rows) (right (acts.close_act c.job rows) (close_good c.job))
  call_right (call.Take c) whole = commit_says _ _ _ (acts.take_act c.bytes rows) (right (acts.take_act c.bytes rows) (take_good c.bytes))

  -- == its plan ==

  -- at the host, the plan of an act is what is seen, by how it says what it answers
  at : {A : Type 0} (say : A → Said) (act : HostAct A) → IsGood act → (planned_as : HostAct A) → act ≡ planned_as → at_node Host H (said_plan (says say planned_as)) ≡ seen_plan counting Host (host_view H) (says say act)
  at {A} say act good planned_as is =
      ap (λ (x : HostAct A). at_node Host H (said_plan (says say x))) (sym is)
      ∙ at_seen counting Host seen_after H (says say act) (commit_says _ r.HostRefused say act (own act good)) (commit_says _ r.HostRefused say act (worn_alike act good))

  -- by the next message
  sends : (j : ℕ) → at_node Host H (told.send_plan (length (sent_in H)) j C) ≡ seen_plan counting Host (host_view H) (host_act (call.Send (record { job = j; message = length (sent_in H) })) rows)
  sends j = at (told.told_sent j (length (sent_in H))) (acts.debit_message_act j rows) (send_good j) (acts.debit_message_by j (told.in_commits C)) (plans.sent j)

  handed : (today : ℤ) (bytes : List ℕ) → give_plan todays_rules today Host bytes H ≡ seen_plan counting Host (host_view H) (host_act (call.Take (record { bytes = bytes })) rows)
  handed today bytes = at told.told_held (acts.take_act bytes rows) (take_good bytes) (acts.take_by bytes (told.in_commits C)) (plans.taken bytes)

  -- a message that the host takes is for it
  delivered : (today : ℤ) (k : ℕ) (bytes : List ℕ) → slice_get (sent_in H) k ≡ Some bytes → routing.taker bytes ≡ Host → deliver_plan todays_rules today k (message k H) H ≡ give_plan todays_rules today Host bytes H
  delivered today k bytes there to =
      ap (λ (o : Option (List ℕ)). deliver_plan todays_rules today k o H) (sym (sent_at H k) ∙ there)
      ∙ ap (λ (n : Node). give_plan todays_rules today n bytes H) (same_taker (addressee (read bytes)) Host (λ same. cc) to)

  abbrev ByView : ℤ → Asked HostCall → Plan
  ByView today asked = node_plan counting Host (host_kind.plan tt today (host_view H)) (host_view H) asked

  pub planned_call : (τ : Tariff) (today : ℤ) → day_in H ≡ Some today → commits_in (seen_after C) ≡ count_of Host C → (e : Event) (asked : Asked HostCall)
      → routed (sent_in H) (quote_in τ H) e ≡ Some (route.OfDay (of_day.Host asked)) → IsWholeEvent e → plan τ todays_rules H e [] ≡ ByView today asked
  unfolding plan
  planned_call τ today day counts = each_of_host (sent_in H) (quote_in τ H) (λ e asked. IsWholeEvent e → plan τ todays_rules H e [] ≡ ByView today asked) (record {
    on = λ whole. rw (day, sym counts) refl;
    off = λ whole. rw day refl;
    cut = λ calls keep byte whole. rw day refl;
    order = λ d piece class grams zone whole. rw day (
        let price = quote_in τ H class grams zone in
        at told.told_ordered (acts.order_act d piece class price rows) (order_good d piece class price whole.0) (acts.order_by d piece class price (told.in_commits C)) (plans.ordered d piece class price whole.0));
    send = λ j whole. rw (day, sym (sent_many H)) (sends j);
    print = λ j whole. rw day (at (told.told_printed j) (acts.begin_print_act j rows) (print_good j) (acts.begin_print_by j (told.in_commits C)) (plans.begun j));
    close = λ j whole. rw day (at (told.told_closed j) (acts.close_act j rows) (close_good j) (acts.close_by j (told.in_commits C)) (plans.closed j));
    give = λ bytes whole. rw day (handed today bytes);
    deliver = λ k bytes there to whole. rw day (delivered today k bytes there to ∙ handed today bytes);
  })

-- == the numbers of a call ==

abbrev IsWholeAsked : Asked HostCall → Type 0
IsWholeAsked = OfCall IsWholeCall

-- they are those of its event
pub whole_call : (H : Ledger) (quote : Quote) (e : Event) (c : HostCall) → routed (sent_in H) quote e ≡ Some (route.OfDay (of_day.Host (Call c))) → IsWholeEvent e → IsWholeCall c
whole_call H quote e c of = each_of_host (sent_in H) quote (λ i asked. IsWholeEvent i → IsWholeAsked asked) (record {
  on = λ whole. tt;
  off = λ whole. tt;
  cut = λ calls keep byte whole. tt;
  order = λ d piece class grams zone whole. whole.0;
  send = λ j whole. tt;
  print = λ j whole. tt;
  close = λ j whole. tt;
  give = λ bytes whole. tt;
  deliver = λ k bytes there to whole. tt;
}) e (Call c) of
