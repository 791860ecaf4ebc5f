-- The acts of sound rows leave sound rows.
use Rattle.std.proofs.Common.{◌≡◌, ◌≢◌, inl, inr, ℕ, ◌+◌, ◌-◌, ◌≤◌, false, List, [], get_or, Option, Some, None, Result, Ok, Err, refl, sym, ap, subst, ◌∙◌, ⊎_elim, arith}
use Rattle.std.specs.Prelude.{max, IfSome}
use Rattle.std.proofs.lemmas.Bool.{cases_eq}
use Rattle.std.proofs.lemmas.List.{get_or-set_same, get_or-set_other, length-set}
use Rattle.std.proofs.lemmas.Option.{same_Some}
use Rattle.bench_base.specs.declared.{words.JobState.JobState, refusals.Unread.Unread, refusals.MarkFault.MarkFault, refusals.RateRefusal.RateRefusal, refusals.HostRefusal.HostRefusal}
use Rattle.bench_base.specs.declared.words.JobState.TheVariants as state
use Rattle.bench_base.specs.declared.ledger.Commit.TheVariants as c
use Rattle.bench_base.specs.Rows.{first_holding}
use Rattle.bench_base.specs.Ranges.{IsDevice, IsPostage}
use Rattle.bench_base.specs.Jobs.{cell_of}
use Rattle.node_acts.specs.declared.act.Act.TheVariants.{Tell, Commits}
use Rattle.node_acts.specs.RowLaws.{listed_long}
use Rattle.indicium.specs.declared.Mark.{Mark}
use Rattle.indicium.specs.Marks.{read_mark}
use Rattle.psd_wire.specs.declared.message.Message.{Message}
use Rattle.psd_wire.specs.declared.message.Message.TheVariants as m
use Rattle.psd_wire.specs.Grammar.{read, spell}
use Rattle.host_jobs.specs.declared.rows.JobRow.{JobRow}
use Rattle.host_jobs.specs.Answers.{is_open, order_rows, order_answer, send_answer, print_answer, close_answer, hold_answer, debit_of}
use Rattle.host_jobs.specs.Order.{IsMarkOf}
use Rattle.host_jobs.specs.Rows.{Jobs, job_in, is_ordered, top_at, row_in, state_in, job_row, last_in, top_in, open_in, oldest_in, tops_in}
use Rattle.host_jobs.specs.Soundness.{IsMarked, Holds, IsSoundJob, AreSound, IsNext}
use Rattle.host_jobs.specs.Acts.{HostAct, in_rows, shelf_in, ordered_row, ordered_act, order_act, moved, unless, sent_act, begun_act, printed_act, closed_act, raised, held_row, held_act, open_act, mark_act, message_act}
use Rattle.host_jobs.specs.ActLaws.{LeavesSound, IsPrice, ActsLeaveSound}
use Rattle.host_jobs.proofs.Cells.{cell_next}
use Rattle.host_jobs.proofs.Found.{Waits, found_row, row_at, row_top, opened, tops_at}
use Rattle.host_jobs.proofs.Answered.{OrderOk, order_ok, HoldOk, hold_ok, is_closed, no_room}
use Rattle.host_jobs.proofs.Puts.{on_next, Begins, new_next, oldest_closed}

module _ (rows : Jobs) (sound : AreSound rows) where
  -- == a job that goes on ==

  module _ (j : ℕ) (r : JobRow) (is : job_row rows j ≡ Some r) where
    here : row_in rows (cell_of r.job) ≡ Some r
    here = let it = found_row rows j r is in ap (λ (i : ℕ). row_in rows (cell_of i)) it.1 ∙ it.0

    pub sound_row : IsSoundJob r
    sound_row = (row_at rows sound.placed (cell_of r.job) r here).sound

    -- its own top is at most the present one
    own_top : get_or r.tops (r.device - 1) 0 ≤ top_in r.device rows
    own_top = omega (arith, row_top rows sound.placed r.device (cell_of r.job), ap (top_at r.device) here)

    moved_sound : (s : JobState) → IsMarked s r.indicium → IsSoundJob (moved r s (tops_in rows))
    moved_sound s marked = record {
      job = sound_row.job;
      device = sound_row.device;
      piece = sound_row.piece;
      postage = sound_row.postage;
      tops = listed_long 8 (λ i. top_in (i + 1) rows);
      marked = marked;
      holds = holds r.indicium sound_row.holds;
    }
      where
        holds : (o : Option (List ℕ)) → IfSome o (Holds r) → IfSome o (Holds (moved r s (tops_in rows)))
        holds None h = tt
        holds (Some x) h = record { mark = h.mark; top = omega (arith, h.top, own_top, tops_at rows r.device sound_row.device) }

    moved_next : (s : JobState) → IsMarked s r.indicium → is_ordered s ≡ false → IsNext rows (moved r s (tops_in rows))
    moved_next s marked ordered = on_next rows sound r (moved r s (tops_in rows)) here (record {
      sound = moved_sound s marked;
      job = refl;
      device = refl;
      state = ordered;
      tops = λ d device. inl (tops_at rows d device);
    })

    begun_marked : (o : Option (List ℕ)) → IsMarked state.Held o → IsMarked state.Begun o
    begun_marked None h = h
    begun_marked (Some x) h = h

    pub prints : (s : JobState) → r.state ≡ s → LeavesSound rows (unless (print_answer (Some s)) (begun_act r r.indicium (tops_in rows)))
    prints state.Ordered at = tt
    prints state.Begun at = tt
    prints state.Closed at = tt
    prints state.Held at = by r.indicium (moved_next state.Begun (begun_marked r.indicium (subst (λ (s : JobState). IsMarked s r.indicium) at sound_row.marked)) refl)
      where
        by : (o : Option (List ℕ)) → IsNext rows (moved r state.Begun (tops_in rows)) → LeavesSound rows (begun_act r o (tops_in rows))
        by None next = tt
        by (Some x) next = (next, refl, refl)

    abbrev closing : HostAct (Unit {0})
    closing = Commits (c.Closed r.job) (moved r state.Closed (tops_in rows)) tt

    pub closes : (o : Option HostRefusal) → LeavesSound rows (unless o closing)
    closes None = (moved_next state.Closed tt refl, refl, refl)
    closes (Some x) = tt

    -- it takes a mark
    module _ (x : List ℕ) (k : Mark × List ℕ) (reads : read_mark x ≡ Ok k) (waits : Waits k.0.device r j) where
      pub held_mark : HoldOk k.0 r.piece r.postage r.class → IsMarkOf (job_in r) x
      held_mark ok = record {
        mark = k.0;
        code = k.1;
        reads = reads;
        device = sym waits.device;
        piece = ok.piece_is;
        postage = ok.postage_is;
        class = ok.class_is;
      }

      raised_here : get_or (raised r.device r.piece (tops_in rows)) (r.device - 1) 0 ≡ max r.piece (top_in r.device rows)
      raised_here =
          get_or-set_same (tops_in rows) (r.device - 1) (max r.piece (get_or (tops_in rows) (r.device - 1) 0)) 0 (omega (arith, sound_row.device, listed_long 8 (λ i. top_in (i + 1) rows)))
          ∙ ap (λ (n : ℕ). max r.piece n) (tops_at rows r.device sound_row.device)

      raised_other : (d : ℕ) → IsDevice d → d ≢ r.device → get_or (raised r.device r.piece (tops_in rows)) (d - 1) 0 ≡ top_in d rows
      raised_other d device differs =
          get_or-set_other (tops_in rows) (r.device - 1) (d - 1) (max r.piece (get_or (tops_in rows) (r.device - 1) 0)) 0 (λ same. differs (omega (arith, same, device, sound_row.device)))
          ∙ tops_at rows d device

      pub held_next : HoldOk k.0 r.piece r.postage r.class → IsNext rows (held_row r x (tops_in rows))
      held_next ok = on_next rows sound r (held_row r x (tops_in rows)) here (record {
        sound = record {
          job = sound_row.job;
          device = sound_row.device;
          piece = sound_row.piece;
          postage = sound_row.postage;
          tops = length-set (tops_in rows) (r.device - 1) (max r.piece (get_or (tops_in rows) (r.device - 1) 0)) ∙ listed_long 8 (λ i. top_in (i + 1) rows);
          marked = tt;
          holds = record { mark = ∣ held_mark ok ∣₁; top = omega (arith, raised_here) };
        };
        job = refl;
        device = refl;
        state = refl;
        tops = λ d device. ⊎_elim
            (λ (same : d ≡ r.device). inr (same, waits.state, omega (arith, ap (λ (e : ℕ). top_in e rows) same, ap (λ (e : ℕ). get_or (raised r.device r.piece (tops_in rows)) (e - 1) 0) same, raised_here)))
            (λ (differs : d ≢ r.device). inl (raised_other d device differs))
            (cases_eq d r.device);
      })

      pub holds : (o : Option HostRefusal) → hold_answer k.0 r.piece r.postage r.class ≡ o
          → LeavesSound rows (unless o (Commits (c.Held r.job x) (held_row r x (tops_in rows)) r.job))
      holds None at = (held_next (hold_ok k.0 r.piece r.postage r.class at), refl, refl)
      holds (Some y) at = tt

  -- == order ==

  module _ (d piece class postage : ℕ) (device : IsDevice d) (fits : IsPostage postage) (idle : open_in d rows ≡ None) where
    pub begins : (j : ℕ) → OrderOk piece (shelf_in d rows) j → Begins rows (ordered_row j d piece class postage (tops_in rows))
    begins j ok = record {
      sound = record {
        job = omega (arith, ok.next);
        device = device;
        piece = omega (arith, ok.fresh);
        postage = fits;
        tops = listed_long 8 (λ i. top_in (i + 1) rows);
        marked = tt;
        holds = tt;
      };
      job = ok.next;
      waits = refl;
      idle = idle;
      fresh = ok.fresh;
      tops = tops_at rows;
      room = λ r is.
          let at = ap (λ (i : ℕ). row_in rows (cell_of i)) (sym ok.next) ∙ is in
          is_closed r.state
          (ap (λ (o : Option JobRow). is_open (state_in o)) (sym (ap (row_in rows) (sym (cell_next (last_in rows))) ∙ at))
          ∙ no_room (last_in rows) (oldest_in rows) ok.room (oldest_closed rows r sound at));
    }

    pub orders : (o : Result ℕ HostRefusal) → first_holding (order_rows piece (shelf_in d rows)) (Ok (last_in rows + 1)) ≡ o → LeavesSound rows (ordered_act d piece class postage (tops_in rows) o)
    orders (Err x) at = tt
    orders (Ok j) at = (new_next rows sound (ordered_row j d piece class postage (tops_in rows)) (begins j (order_ok piece (shelf_in d rows) j at)), refl, refl)

  order_any : (d piece class postage : ℕ) → IsDevice d → IsPostage postage → (o : Option ℕ) → open_in d rows ≡ o → LeavesSound rows (ordered_act d piece class postage (tops_in rows) (order_answer piece (shelf_in d rows) o))
  order_any d piece class postage device fits (Some j) at = tt
  order_any d piece class postage device fits None at =
      orders d piece class postage device fits at (first_holding (order_rows piece (shelf_in d rows)) (Ok (last_in rows + 1))) refl

  order_leaves : (d piece class : ℕ) (price : Option (Result ℕ RateRefusal)) → IsDevice d → IsPrice price → LeavesSound rows (order_act d piece class price rows)
  order_leaves d piece class None device fits = tt
  order_leaves d piece class (Some (Err x)) device fits = tt
  order_leaves d piece class (Some (Ok postage)) device fits = order_any d piece class postage device fits (open_in d rows) refl

  -- == a job in its cell ==

  send_leaves : (o : Option JobRow) → LeavesSound rows (sent_act o)
  send_leaves None = tt
  send_leaves (Some r) = by r.state
    where
      by : (s : JobState) → LeavesSound rows (unless (send_answer (Some s)) (Tell (spell (m.Debit (debit_of (job_in r))) [])))
      by state.Ordered = tt
      by state.Held = tt
      by state.Begun = tt
      by state.Closed = tt

  print_leaves : (j : ℕ) (o : Option JobRow) → job_row rows j ≡ o → LeavesSound rows (printed_act o (tops_in rows))
  print_leaves j None at = tt
  print_leaves j (Some r) at = prints j r at r.state refl

  close_leaves : (j : ℕ) (o : Option JobRow) → job_row rows j ≡ o → LeavesSound rows (closed_act o (tops_in rows))
  close_leaves j None at = tt
  close_leaves j (Some r) at = closes j r at (close_answer (Some r.state))

  -- == a Release ==

  held_leaves : (x : List ℕ) (k : Mark × List ℕ) → read_mark x ≡ Ok k → (j : ℕ) → open_in k.0.device rows ≡ Some j → (o : Option JobRow) → job_row rows j ≡ o → LeavesSound rows (held_act x k.0 o (tops_in rows))
  held_leaves x k reads j open_is None at = tt
  held_leaves x k reads j open_is (Some r) at =
      let it = opened rows sound.placed k.0.device j open_is in
      let same : it.row ≡ r = same_Some _ _ (sym it.is ∙ (found_row rows j r at).0) in
      holds j r at x k reads (subst (λ (y : JobRow). Waits k.0.device y j) same it.waits) (hold_answer k.0 r.piece r.postage r.class) refl

  open_leaves : (x : List ℕ) (k : Mark × List ℕ) → read_mark x ≡ Ok k → (o : Option ℕ) → open_in k.0.device rows ≡ o → LeavesSound rows (open_act x k.0 o (in_rows rows))
  open_leaves x k reads None at = tt
  open_leaves x k reads (Some j) at = held_leaves x k reads j at (job_row rows j) refl

  mark_leaves : (x : List ℕ) (o : Result (Mark × List ℕ) MarkFault) → read_mark x ≡ o → LeavesSound rows (mark_act x o (in_rows rows))
  mark_leaves x (Err fault) reads = tt
  mark_leaves x (Ok k) reads = open_leaves x k reads (open_in k.0.device rows) refl

  message_leaves : (o : Result Message Unread) → LeavesSound rows (message_act o (in_rows rows))
  message_leaves (Ok (m.Release x)) = mark_leaves x (read_mark x) refl
  message_leaves (Ok (m.Request q)) = tt
  message_leaves (Ok (m.Reply q)) = tt
  message_leaves (Ok (m.Done q)) = tt
  message_leaves (Ok (m.Debit q)) = tt
  message_leaves (Err x) = tt

pub leaves : ActsLeaveSound
leaves rows sound = record {
  ordered = order_leaves rows sound;
  sent = λ j. send_leaves rows sound (job_row rows j);
  taken = λ bytes. message_leaves rows sound (read bytes);
  begun = λ j. print_leaves rows sound j (job_row rows j) refl;
  closed = λ j. close_leaves rows sound j (job_row rows j) refl;
}
