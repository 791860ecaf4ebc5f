-- The acts of the host's calls: what they change, how they are reported, and what is printed of them.
use Rattle.std.proofs.Common.{◌≢◌, ℕ, List, Option, Some, None, refl, inr, ap, subst, arith}
use Rattle.std.proofs.lemmas.Option.{same_Some}
use Rattle.bench_base.specs.declared.{words.Node.TheVariants.Host, refusals.HostRefusal.HostRefusal}
use Rattle.bench_base.specs.declared.events.Event.TheVariants as ev
use Rattle.bench_base.specs.declared.events.Reply.TheVariants as r
use Rattle.node_acts.specs.declared.{act.Act.TheVariants.Refuse, act.Act.TheVariants.Tell, act.Act.TheVariants.Commits, said.Said.Said, said.Printed.Printed as Print}
use Rattle.node_acts.specs.Acts.{TellsOf}
use Rattle.node_acts.proofs.OfCommits.{of_commit, commit_says}
use Rattle.node_storage.specs.declared.node.Node.{Ghosts}
use Rattle.node_storage.specs.Shown.{IsFitting}
use Rattle.node_turns.proofs.Calls.{IsCallOf, IsToldBy, MayRefuse}
use Rattle.node_turns.proofs.Printed.{PrintsSo}
use Rattle.psd_wire.specs.Grammar.{read}
use Rattle.host_jobs.specs.declared.rows.JobRow.{JobRow}
use Rattle.host_jobs.specs.Acts as acts
use Rattle.host_jobs.specs.Acts.{HostAct, in_rows}
use Rattle.host_jobs.specs.Plans.{says, told_ordered, told_sent, told_printed, told_closed, told_held}
use Rattle.host_jobs.specs.ActLaws.{LeavesSound, SoundActs}
use Rattle.host_jobs.specs.Answers.{send_answer}
use Rattle.host_jobs.specs.Rows.{Jobs, job_row, tops_in}
use Rattle.host_jobs.specs.Soundness.{AreSound, IsNext}
use Rattle.host_jobs.proofs.Own.{order_own, print_own, close_own, take_own}
use Rattle.host_jobs.proofs.SoundActs.{leaves}
use Rattle.bench_abstraction.specs.declared.calls.HostCall.{HostCall}
use Rattle.bench_abstraction.specs.declared.calls.HostCall.TheVariants as call
use Rattle.bench_abstraction.specs.Host.{host_act}
use Rattle.bench.specs.Calls.{host_call_event, IsRangedJob}
use Rattle.bench.proofs.Calls.{polite_says, CommitsNone, told_made, told_none}

-- == what a call changes ==

module _ {K S R : Type 0} (n : Ghosts K S (Unit {0}) JobRow R) (rows : Jobs) (sound : AreSound rows) (s : n.Seen) (from : (x : JobRow) → IsNext rows x → n.IsFrom tt s x) where
  sound_acts : SoundActs rows
  sound_acts = leaves rows sound

  by : {A : Type 0} (act : HostAct A) → LeavesSound rows act → IsFitting n tt s act
  by act left = of_commit _ _ act left (λ c x leaves. from x leaves.0)

  -- it leaves sound jobs
  pub call_fits : (c : HostCall) → IsRangedJob c → IsFitting n tt s (host_act c rows)
  call_fits (call.Order c) ranged =
      commit_says _ _ _ (acts.order_act c.device c.piece c.class c.price rows) (by (acts.order_act c.device c.piece c.class c.price rows) (sound_acts.ordered c.device c.piece c.class c.price ranged.0 ranged.1))
  call_fits (call.Send c) ranged = commit_says _ _ _ (acts.debit_message_act c.job rows) (by (acts.debit_message_act c.job rows) (sound_acts.sent c.job))
  call_fits (call.Print c) ranged = commit_says _ _ _ (acts.begin_print_act c.job rows) (by (acts.begin_print_act c.job rows) (sound_acts.begun c.job))
  call_fits (call.Close c) ranged = commit_says _ _ _ (acts.close_act c.job rows) (by (acts.close_act c.job rows) (sound_acts.closed c.job))
  call_fits (call.Take c) ranged = commit_says _ _ _ (acts.take_act c.bytes rows) (by (acts.take_act c.bytes rows) (sound_acts.taken c.bytes))

-- == how they are reported ==

pub call_of : (c : HostCall) → IsCallOf Host (host_call_event c)
call_of (call.Order c) = record { on = refl; at = refl; no_switch = λ e. cc; no_cut = λ calls keep byte e. cc }
call_of (call.Send c) = record { on = refl; at = refl; no_switch = λ e. cc; no_cut = λ calls keep byte e. cc }
call_of (call.Print c) = record { on = refl; at = refl; no_switch = λ e. cc; no_cut = λ calls keep byte e. cc }
call_of (call.Close c) = record { on = refl; at = refl; no_switch = λ e. cc; no_cut = λ calls keep byte e. cc }
call_of (call.Take c) = record { on = refl; at = refl; no_switch = λ e. cc; no_cut = λ calls keep byte e. cc }

no_off : (c : HostCall) → host_call_event c ≢ ev.Off Host
no_off (call.Order c) = λ e. cc
no_off (call.Send c) = λ e. cc
no_off (call.Print c) = λ e. cc
no_off (call.Close c) = λ e. cc
no_off (call.Take c) = λ e. cc

refused : (c : HostCall) (x : HostRefusal) → MayRefuse Host (host_call_event c) (r.HostRefused x)
refused c x = record {
  told = refl;
  on_day = λ e. cc;
  not_off = λ e. cc;
  gets = record { on = (call_of c).on; at = (call_of c).at; no_switch = no_off c };
}

-- to send a message commits nothing
unless_none : {A : Type 0} (o : Option HostRefusal) (act : HostAct A) → CommitsNone act → CommitsNone (acts.unless o act)
unless_none None act none = none
unless_none (Some x) act none = tt

send_free : (o : Option JobRow) → CommitsNone (acts.sent_act o)
send_free None = tt
send_free (Some x) = unless_none (send_answer (Some x.state)) (Tell (acts.debit_note x)) tt

pub call_told : (c : HostCall) (rows : Jobs) → IsToldBy Host (host_call_event c) (host_act c rows)
call_told (call.Order c) rows = told_made Host _ refl (omega arith) _ (commit_says _ _ _ (acts.order_act c.device c.piece c.class c.price rows) (order_own c.device c.piece c.class c.price (in_rows rows)))
    (polite_says Host (ev.Order c.device c.piece c.class c.grams c.zone) r.HostRefused told_ordered (refused (call.Order c)) (λ a. record { told = refl; gets = (c.device, c.piece, c.class, c.grams, c.zone, refl); adds = λ made none. (made, none, refl) })
    (acts.order_act c.device c.piece c.class c.price rows))
call_told (call.Send c) rows = told_none Host _ _ (commit_says _ _ _ (acts.debit_message_act c.job rows) (send_free (job_row rows c.job)))
    (polite_says Host (ev.Send c.job) r.HostRefused (told_sent c.job c.message) (refused (call.Send c)) (λ note. record { told = refl; gets = refl; adds = λ made none. (note, (made, none, refl)) }) (acts.debit_message_act c.job rows))
call_told (call.Print c) rows = told_made Host _ refl (omega arith) _ (commit_says _ _ _ (acts.begin_print_act c.job rows) (print_own (job_row rows c.job) (tops_in rows)))
    (polite_says Host (ev.Print c.job) r.HostRefused (told_printed c.job) (refused (call.Print c)) (λ mark. record { told = refl; gets = refl; adds = λ made none. (mark, (made, none, refl)) }) (acts.begin_print_act c.job rows))
call_told (call.Close c) rows = told_made Host _ refl (omega arith) _ (commit_says _ _ _ (acts.close_act c.job rows) (close_own (job_row rows c.job) (tops_in rows)))
    (polite_says Host (ev.Close c.job) r.HostRefused (told_closed c.job) (refused (call.Close c)) (λ u. record { told = refl; gets = refl; adds = λ made none. (made, none, refl) }) (acts.close_act c.job rows))
call_told (call.Take c) rows = told_made Host _ refl (omega arith) _ (commit_says _ _ _ (acts.take_act c.bytes rows) (take_own (read c.bytes) (in_rows rows)))
    (polite_says Host (ev.Give Host c.bytes) r.HostRefused told_held (refused (call.Take c)) (λ j. record { told = refl; gets = inr (c.bytes, refl); adds = λ made none. (made, none, refl) }) (acts.take_act c.bytes rows))

-- == what is printed of them ==

so_says : {A : Type 0} (say : A → Said) → ((x : A) → PrintsSo (say x)) → (act : HostAct A) (a : Said) → TellsOf a (says say act) → PrintsSo a
so_says say so (Refuse x) a of = absurd of
so_says say so (Tell b) a of = subst PrintsSo of (so b)
so_says say so (Commits c x b) a of = subst PrintsSo of (so b)

printed_so : (j : ℕ) (mark : List ℕ) → PrintsSo (told_printed j mark)
printed_so j mark = record { given = λ p is. ap (λ (q : Print). r.Printed q.job) (same_Some _ _ is); says = λ job is. (record { job = j; mark = mark }, refl) }

-- a job is said to be printed where its mark is given to the printer
pub call_prints : (c : HostCall) (rows : Jobs) (a : Said) → TellsOf a (host_act c rows) → PrintsSo a
call_prints (call.Order c) rows = so_says told_ordered (λ x. record { given = λ p is. cc; says = λ job is. cc }) (acts.order_act c.device c.piece c.class c.price rows)
call_prints (call.Send c) rows = so_says (told_sent c.job c.message) (λ note. record { given = λ p is. cc; says = λ job is. cc }) (acts.debit_message_act c.job rows)
call_prints (call.Print c) rows = so_says (told_printed c.job) (printed_so c.job) (acts.begin_print_act c.job rows)
call_prints (call.Close c) rows = so_says (told_closed c.job) (λ u. record { given = λ p is. cc; says = λ job is. cc }) (acts.close_act c.job rows)
call_prints (call.Take c) rows = so_says told_held (λ j. record { given = λ p is. cc; says = λ job is. cc }) (acts.take_act c.bytes rows)
