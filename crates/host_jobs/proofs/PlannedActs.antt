-- The acts by sound rows are the acts by the commits of these rows.
use Rattle.std.proofs.Common.{◌≡◌, ℕ, ◌+◌, ◌-◌, ◌≤◌, Bool, true, false, List, Option, Some, None, Result, Ok, Err, refl, sym, ap, ◌∙◌}
use Rattle.std.specs.Prelude.{◌&&◌, nat_le, if◌then◌else◌}
use Rattle.std.proofs.lemmas.Bool.{leb-true}
use Rattle.bench_base.specs.declared.{words.JobState.JobState, refusals.Unread.Unread, refusals.MarkFault.MarkFault, refusals.RateRefusal.RateRefusal, refusals.HostRefusal.HostRefusal, ledger.Commit.Commit}
use Rattle.bench_base.specs.declared.refusals.HostRefusal.TheVariants as no
use Rattle.bench_base.specs.Ranges.{IsDevice}
use Rattle.bench_base.specs.Jobs.{open_job}
use Rattle.indicium.specs.declared.Mark.{Mark}
use Rattle.indicium.specs.Marks.{read_mark}
use Rattle.psd_wire.specs.declared.message.Message.{Message}
use Rattle.psd_wire.specs.declared.message.Message.TheVariants as m
use Rattle.psd_wire.specs.Grammar.{read}
use Rattle.host_jobs.specs.declared.{orders.Shelf.Shelf, rows.JobRow.JobRow}
use Rattle.host_jobs.specs.Answers.{is_open, order_answer, print_answer}
use Rattle.host_jobs.specs.Rows.{Jobs, job_row, open_in, tops_in}
use Rattle.host_jobs.specs.Records.{tops_after}
use Rattle.host_jobs.specs.Soundness.{AreSound}
use Rattle.host_jobs.specs.Acts.{HostAct, in_rows, shelf_in, ordered_act, order_by, unless, sent_act, begun_act, printed_act, closed_act, held_act, open_act, mark_act, message_act}
use Rattle.host_jobs.specs.Plans.{shelf_of, shown_job, in_commits}
use Rattle.host_jobs.specs.ActLaws.{AreRowsOf, ActsArePlanned}
use Rattle.host_jobs.proofs.ByRows.{Tells, tells, tops_are, last_is, top_is, open_is, oldest_is, shown_in, shown_out}

-- == order ==

-- the answer is by the top, the last job, and the oldest one where the cells are full
same_answer : (piece : ℕ) (h g : Shelf) → h.top ≡ g.top → h.last ≡ g.last → (1024 ≤ g.last → h.oldest ≡ g.oldest) → order_answer piece h None ≡ order_answer piece g None
same_answer piece h g top last oldest =
    ap (λ (t : ℕ). answer t h.last (nat_le 1024 h.last && is_open h.oldest)) top
    ∙ ap (λ (n : ℕ). answer g.top n (nat_le 1024 n && is_open h.oldest)) last
    ∙ ap (λ (b : Bool). answer g.top g.last b) (by (nat_le 1024 g.last) refl)
  where
    answer : ℕ → ℕ → Bool → Result ℕ HostRefusal
    answer t n full =
        if nat_le piece t then Err (no.Used t) else if nat_le 4294967295 n then Err no.NumberFull else if full then Err (no.JobsFull (n - 1023)) else Ok (n + 1)

    by : (b : Bool) → nat_le 1024 g.last ≡ b → (nat_le 1024 g.last && is_open h.oldest) ≡ (nat_le 1024 g.last && is_open g.oldest)
    by true is = ap (λ (o : Option JobState). nat_le 1024 g.last && is_open o) (oldest (leb-true 1024 g.last is))
    by false is = ap (λ (b : Bool). b && is_open h.oldest) is ∙ ap (λ (b : Bool). b && is_open g.oldest) (sym is)

module _ (rows : Jobs) (C : List Commit) (sound : AreSound rows) (are : AreRowsOf rows C) where
  tops_now : tops_in rows ≡ tops_after C
  tops_now = tops_are rows C sound are

  same_order : (d piece : ℕ) → IsDevice d → (o : Option ℕ) → order_answer piece (shelf_in d rows) o ≡ order_answer piece (shelf_of d C) o
  same_order d piece device (Some j) = refl
  same_order d piece device None = same_answer piece (shelf_in d rows) (shelf_of d C) (top_is rows C sound are d device) (last_is rows C sound are) (oldest_is rows C sound are)

  order_alike : (d piece class : ℕ) (price : Option (Result ℕ RateRefusal)) → IsDevice d → order_by d piece class price (in_rows rows) ≡ order_by d piece class price (in_commits C)
  order_alike d piece class None device = refl
  order_alike d piece class (Some (Err x)) device = refl
  order_alike d piece class (Some (Ok postage)) device =
      ap (λ (tops : List ℕ). ordered_act d piece class postage tops (order_answer piece (shelf_in d rows) (open_in d rows))) tops_now
      ∙ ap (λ (o : Option ℕ). ordered_act d piece class postage (tops_after C) (order_answer piece (shelf_in d rows) o)) (open_is rows C sound are d)
      ∙ ap (λ (o : Result ℕ HostRefusal). ordered_act d piece class postage (tops_after C) o) (same_order d piece device (open_job d C))

  -- == a job in its cell ==

  -- what is done with a row doesn't depend on the tops of its time
  job_alike : {A : Type 0} (act : Option JobRow → HostAct A) → ((r : JobRow) (tops : List ℕ) → act (Some r) ≡ act (Some (record r { tops = tops }))) → (j : ℕ) → act (job_row rows j) ≡ act (shown_job j C)
  job_alike {A} act same j = by (job_row rows j) (tells rows C sound are j (job_row rows j) refl)
    where
      by : (o : Option JobRow) → Tells j C o → act o ≡ act (shown_job j C)
      by None it = sym (ap act (shown_out j C it))
      by (Some r) it = same r (tops_after C) ∙ sym (ap act (shown_in j C r it.0 it.1))

  begun_alike : (r : JobRow) (tops now : List ℕ) (mark : Option (List ℕ)) → begun_act r mark now ≡ begun_act (record r { tops = tops }) mark now
  begun_alike r tops now None = refl
  begun_alike r tops now (Some x) = refl

  send_alike : (j : ℕ) → sent_act (job_row rows j) ≡ sent_act (shown_job j C)
  send_alike j = job_alike sent_act (λ r tops. refl) j

  print_alike : (j : ℕ) → printed_act (job_row rows j) (tops_in rows) ≡ printed_act (shown_job j C) (tops_after C)
  print_alike j =
      job_alike (λ (o : Option JobRow). printed_act o (tops_in rows)) (λ r tops. ap (unless (print_answer (Some r.state))) (begun_alike r tops (tops_in rows) r.indicium)) j
      ∙ ap (printed_act (shown_job j C)) tops_now

  close_alike : (j : ℕ) → closed_act (job_row rows j) (tops_in rows) ≡ closed_act (shown_job j C) (tops_after C)
  close_alike j = job_alike (λ (o : Option JobRow). closed_act o (tops_in rows)) (λ r tops. refl) j ∙ ap (closed_act (shown_job j C)) tops_now

  -- == a Release ==

  open_alike : (x : List ℕ) (k : Mark) (o : Option ℕ) → open_act x k o (in_rows rows) ≡ open_act x k o (in_commits C)
  open_alike x k None = refl
  open_alike x k (Some j) = job_alike (λ (o : Option JobRow). held_act x k o (tops_in rows)) (λ r tops. refl) j ∙ ap (held_act x k (shown_job j C)) tops_now

  mark_alike : (x : List ℕ) (o : Result (Mark × List ℕ) MarkFault) → mark_act x o (in_rows rows) ≡ mark_act x o (in_commits C)
  mark_alike x (Err fault) = refl
  mark_alike x (Ok k) = ap (λ (o : Option ℕ). open_act x k.0 o (in_rows rows)) (open_is rows C sound are k.0.device) ∙ open_alike x k.0 (open_job k.0.device C)

  take_alike : (o : Result Message Unread) → message_act o (in_rows rows) ≡ message_act o (in_commits C)
  take_alike (Ok (m.Release x)) = mark_alike x (read_mark x)
  take_alike (Ok (m.Request q)) = refl
  take_alike (Ok (m.Reply q)) = refl
  take_alike (Ok (m.Done q)) = refl
  take_alike (Ok (m.Debit q)) = refl
  take_alike (Err x) = refl

pub planned : ActsArePlanned
planned rows C sound are = record {
  ordered = order_alike rows C sound are;
  sent = send_alike rows C sound are;
  taken = λ bytes. take_alike rows C sound are (read bytes);
  begun = print_alike rows C sound are;
  closed = close_alike rows C sound are;
}
