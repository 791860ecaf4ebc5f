-- The commit of each act is the host's own, whatever is looked up.
use Rattle.std.proofs.Common.{ℕ, List, Option, Some, None, Result, Ok, Err, refl}
use Rattle.bench_base.specs.declared.{words.Node.TheVariants.Host, refusals.Unread.Unread, refusals.MarkFault.MarkFault, refusals.RateRefusal.RateRefusal, refusals.HostRefusal.HostRefusal}
use Rattle.node_acts.specs.Plans.{IsOfNode}
use Rattle.indicium.specs.declared.Mark.{Mark}
use Rattle.indicium.specs.Marks.{read_mark}
use Rattle.psd_wire.specs.declared.message.Message.{Message}
use Rattle.psd_wire.specs.declared.message.Message.TheVariants as m
use Rattle.host_jobs.specs.declared.rows.JobRow.{JobRow}
use Rattle.host_jobs.specs.Answers.{order_answer, send_answer, print_answer, close_answer, hold_answer}
use Rattle.host_jobs.specs.Acts.{HostAct, LookUps, unless, ordered_act, order_by, sent_act, begun_act, printed_act, closed_act, held_act, open_act, mark_act, message_act}

unless_own : {A : Type 0} (o : Option HostRefusal) (act : HostAct A) → IsOfNode Host act → IsOfNode Host (unless o act)
unless_own None act own = own
unless_own (Some x) act own = tt

ordered_own : (d piece class postage : ℕ) (tops : List ℕ) (result : Result ℕ HostRefusal) → IsOfNode Host (ordered_act d piece class postage tops result)
ordered_own d piece class postage tops (Err x) = tt
ordered_own d piece class postage tops (Ok j) = refl

pub order_own : (d piece class : ℕ) (price : Option (Result ℕ RateRefusal)) (at : LookUps) → IsOfNode Host (order_by d piece class price at)
order_own d piece class None at = tt
order_own d piece class (Some (Err x)) at = tt
order_own d piece class (Some (Ok postage)) at = ordered_own d piece class postage at.tops (order_answer piece (at.shelf d) (at.shelf d).open_job)

pub send_own : (o : Option JobRow) → IsOfNode Host (sent_act o)
send_own None = tt
send_own (Some r) = unless_own (send_answer (Some r.state)) _ tt

begun_own : (r : JobRow) (mark : Option (List ℕ)) (tops : List ℕ) → IsOfNode Host (begun_act r mark tops)
begun_own r None tops = tt
begun_own r (Some mark) tops = refl

pub print_own : (o : Option JobRow) (tops : List ℕ) → IsOfNode Host (printed_act o tops)
print_own None tops = tt
print_own (Some r) tops = unless_own (print_answer (Some r.state)) (begun_act r r.indicium tops) (begun_own r r.indicium tops)

pub close_own : (o : Option JobRow) (tops : List ℕ) → IsOfNode Host (closed_act o tops)
close_own None tops = tt
close_own (Some r) tops = unless_own (close_answer (Some r.state)) _ refl

held_own : (bytes : List ℕ) (mark : Mark) (o : Option JobRow) (tops : List ℕ) → IsOfNode Host (held_act bytes mark o tops)
held_own bytes mark None tops = tt
held_own bytes mark (Some r) tops = unless_own (hold_answer mark r.piece r.postage r.class) _ refl

open_own : (bytes : List ℕ) (mark : Mark) (o : Option ℕ) (at : LookUps) → IsOfNode Host (open_act bytes mark o at)
open_own bytes mark None at = tt
open_own bytes mark (Some j) at = held_own bytes mark (at.job j) at.tops

mark_own : (bytes : List ℕ) (result : Result (Mark × List ℕ) MarkFault) (at : LookUps) → IsOfNode Host (mark_act bytes result at)
mark_own bytes (Err fault) at = tt
mark_own bytes (Ok mark) at = open_own bytes mark.0 (at.shelf mark.0.device).open_job at

pub take_own : (x : Result Message Unread) (at : LookUps) → IsOfNode Host (message_act x at)
take_own (Ok (m.Release bytes)) at = mark_own bytes (read_mark bytes) at
take_own (Ok (m.Request q)) at = tt
take_own (Ok (m.Reply p)) at = tt
take_own (Ok (m.Done q)) at = tt
take_own (Ok (m.Debit q)) at = tt
take_own (Err x) at = tt
