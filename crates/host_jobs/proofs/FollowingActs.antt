-- The rows of the commits stay those of the commits.
use Rattle.std.proofs.Common.{◌≡◌, ◌≢◌, ℕ, ◌+◌, ◌-◌, ◌<◌, Bool, true, false, List, ◌∷◌, length-set, get_or, Option, Some, None, Result, Ok, Err, refl, sym, ap, subst, ◌∙◌, ⊎_elim, arith, []}
use Rattle.std.specs.Prelude.{max, if◌then◌else◌}
use Rattle.std.proofs.lemmas.Bool.{cases_eq, eq-eqb, ne_eqb}
use Rattle.std.proofs.lemmas.List.{get_or-set_same, get_or-set_other}
use Rattle.std.proofs.lemmas.Option.{same_Some, none-some}
use Rattle.bench_base.specs.declared.{words.JobState.JobState, refusals.Unread.Unread, refusals.MarkFault.MarkFault, refusals.RateRefusal.RateRefusal, refusals.HostRefusal.HostRefusal, ledger.Commit.Commit}
use Rattle.bench_base.specs.declared.words.JobState.TheVariants as state
use Rattle.bench_base.specs.declared.ledger.Commit.TheVariants as c
use Rattle.bench_base.specs.Rows.{first_of, first_holding}
use Rattle.bench_base.specs.Ranges.{IsDevice}
use Rattle.bench_base.specs.Cells.{Place, OfJob, same_place, place_of}
use Rattle.bench_base.specs.Jobs.{Job, cell_of, last_job, job_of, state_of, held_of, open_job, piece_at, top}
use Rattle.bench_base.proofs.Facts.{none_if}
use Rattle.node_acts.specs.declared.act.Act.TheVariants.{Commits}
use Rattle.node_acts.specs.RowLaws.{listed_at, listed_long, listed_is}
use Rattle.indicium.specs.declared.Mark.{Mark}
use Rattle.indicium.specs.Marks.{read_mark}
use Rattle.psd_wire.specs.declared.message.Message.{Message}
use Rattle.psd_wire.specs.declared.message.Message.TheVariants as m
use Rattle.psd_wire.specs.Grammar.{read}
use Rattle.host_jobs.specs.declared.{rows.JobRow.JobRow, sizes.TheConstants.HOST_CELLS}
use Rattle.host_jobs.specs.Answers.{is_open, order_rows, order_answer, print_answer, close_answer, hold_answer}
use Rattle.host_jobs.specs.Rows.{Jobs, job_in, row_in, put_row, job_row, last_in, top_in, open_in, oldest_in, tops_in, no_jobs}
use Rattle.host_jobs.specs.Soundness.{AreSound}
use Rattle.host_jobs.specs.Records.{tops_after, record_by, record_of, job_no, cell_row, rows_after, seen_after}
use Rattle.host_jobs.specs.Seen.{rows_in}
use Rattle.host_jobs.specs.Acts.{HostAct, in_rows, shelf_in, ordered_row, ordered_act, order_act, moved, unless, begun_act, printed_act, closed_act, raised, held_row, held_act, open_act, mark_act, message_act}
use Rattle.host_jobs.specs.ActLaws.{AreRowsOf, FollowsCommits, ActsFollow}
use Rattle.host_jobs.proofs.Found.{found_row, opened, Waits, tops_at}
use Rattle.host_jobs.proofs.Answered.{OrderOk, order_ok, HoldOk, hold_ok, is_closed, no_room}
use Rattle.host_jobs.proofs.Puts.{put_here, put_other}
use Rattle.host_jobs.proofs.Seeing.{seen_laws}
use Rattle.host_jobs.proofs.SoundActs.{sound_row, held_mark}
use Rattle.host_jobs.proofs.CellFacts.{IsRowOf}
use Rattle.host_jobs.proofs.ByRows.{job_facts, row_is, last_is, top_is, tops_are, open_is, oldest_is, told}

first_none : {A : Type 0} (o p : Option A) → o ≡ None → first_of o p ≡ p
first_none None p h = refl
first_none (Some a) p h = absurd (none-some _ (sym h))

module _ (rows : Jobs) (C : List Commit) (sound : AreSound rows) (are : AreRowsOf rows C) where
  -- a row that is put, if it is the one that the commits record of its job
  put_after : (d : Commit) (x : JobRow) → place_of d ≡ OfJob (cell_of x.job) → record_of (job_no d) (d ∷ C) ≡ Some x → put_row rows x ≡ rows_after (d ∷ C)
  put_after d x place is =
      sym (listed_is HOST_CELLS (λ k. cell_row k (d ∷ C)) None (put_row rows x) (length-set rows (cell_of x.job) (Some x) ∙ sound.placed.long) (λ k lt. ⊎_elim
      (λ (here : k ≡ cell_of x.job).
      let same : same_place (place_of d) (OfJob k) ≡ true = ap (λ (p : Place). same_place p (OfJob k)) place ∙ eq-eqb (cell_of x.job) k (sym here) in
      ap (row_in (put_row rows x)) here ∙ put_here rows sound.placed x ∙ sym is ∙ sym (ap (λ (t : Bool). if t then record_of (job_no d) (d ∷ C) else cell_row k C) same))
      (λ (differs : k ≢ cell_of x.job).
      let apart : same_place (place_of d) (OfJob k) ≡ false = ap (λ (p : Place). same_place p (OfJob k)) place ∙ ne_eqb (cell_of x.job) k (λ e. differs (sym e)) in
      put_other rows sound.placed x k differs ∙ row_is rows C sound are k lt ∙ sym (ap (λ (t : Bool). if t then record_of (job_no d) (d ∷ C) else cell_row k C) apart))
      (cases_eq k (cell_of x.job))))

  -- == order ==

  module _ (d piece class postage : ℕ) (device : IsDevice d) (idle : open_in d rows ≡ None) (j : ℕ) (ok : OrderOk piece (shelf_in d rows) j) where
    abbrev what : Job
    what = record { device = d; piece = piece; postage = postage; class = class }

    abbrev D : List Commit
    D = c.Ordered j d piece postage class ∷ C

    next : j ≡ last_job C + 1
    next = ok.next ∙ ap (λ (n : ℕ). n + 1) (last_is rows C sound are)

    new_job : job_of j D ≡ Some what
    new_job =
        let before = none_if (job_of j C) (λ b is. let le = (job_facts rows C sound are).job_le j b is in omega (arith, le.1, next)) in
        rw (eq-eqb j j refl) (first_none (job_of j C) (Some what) before)

    new_held : held_of j D ≡ None
    new_held = none_if (held_of j C) (λ x is. let le = (job_facts rows C sound are).held_le j x is in omega (arith, le.1, next))

    abbrev with_tops : List ℕ → Option (List ℕ) → Option JobRow
    with_tops tops mark = Some (record { job = j; device = d; piece = piece; postage = postage; class = class; state = state.Ordered; tops = tops; indicium = mark })

    new_record : record_of j D ≡ Some (ordered_row j d piece class postage (tops_in rows))
    new_record =
        let stands : state_of j D ≡ Some state.Ordered = rw (eq-eqb j j refl) refl in
        ap (λ (o : Option Job). record_by j D o (state_of j D)) new_job ∙ ap (λ (o : Option JobState). record_by j D (Some what) o) stands
        ∙ ap (λ (o : Option (List ℕ)). with_tops (tops_after C) o) new_held ∙ ap (λ (l : List ℕ). with_tops l None) (sym (tops_are rows C sound are))

    order_follows : AreRowsOf (put_row rows (ordered_row j d piece class postage (tops_in rows))) D
    order_follows = record {
      order = (
        record {
          next = next;
          idle = sym (open_is rows C sound are d) ∙ idle;
          fresh = omega (arith, ok.fresh, top_is rows C sound are d device);
          room = λ le.
              let oldest = oldest_is rows C sound are le in
              let it = (job_facts rows C sound are).has_state (last_job C - 1023) (omega (arith, le), omega arith) in
              let free = no_room (last_in rows) (oldest_in rows) ok.room (omega (arith, le, last_is rows C sound are)) in
              it.1 ∙ ap (λ (s : JobState). Some s) (is_closed it.0 (ap is_open (sym (oldest ∙ it.1)) ∙ free));
        },
        are.order,
      );
      are = put_after (c.Ordered j d piece postage class) (ordered_row j d piece class postage (tops_in rows)) refl new_record;
    }

  ordered_follows : (d piece class postage : ℕ) → IsDevice d → open_in d rows ≡ None → (o : Result ℕ HostRefusal) → first_holding (order_rows piece (shelf_in d rows)) (Ok (last_in rows + 1)) ≡ o
      → FollowsCommits rows C (ordered_act d piece class postage (tops_in rows) o)
  ordered_follows d piece class postage device idle (Err x) at = tt
  ordered_follows d piece class postage device idle (Ok j) at = order_follows d piece class postage device idle j (order_ok piece (shelf_in d rows) j at)

  answered_follows : (d piece class postage : ℕ) → IsDevice d → (o : Option ℕ) → open_in d rows ≡ o → FollowsCommits rows C (ordered_act d piece class postage (tops_in rows) (order_answer piece (shelf_in d rows) o))
  answered_follows d piece class postage device (Some j) at = tt
  answered_follows d piece class postage device None at = ordered_follows d piece class postage device at (first_holding (order_rows piece (shelf_in d rows)) (Ok (last_in rows + 1))) refl

  priced_follows : (d piece class : ℕ) (price : Option (Result ℕ RateRefusal)) → IsDevice d → FollowsCommits rows C (order_act d piece class price rows)
  priced_follows d piece class None device = tt
  priced_follows d piece class (Some (Err x)) device = tt
  priced_follows d piece class (Some (Ok postage)) device = answered_follows d piece class postage device (open_in d rows) refl

  -- == a job that goes on ==

  module _ (j : ℕ) (r : JobRow) (is : job_row rows j ≡ Some r) where
    it : IsRowOf r r.job C
    it = let found = found_row rows j r is in (told rows C sound are (cell_of j) r found.0).1

    abbrev with_both : JobState → List ℕ → Option (List ℕ) → Option JobRow
    with_both s tops mark = Some (record r { state = s; tops = tops; indicium = mark })

    -- what the commits record of the job after one more, if its job and its state are then known
    record_after : (d : Commit) (s : JobState) → job_of r.job (d ∷ C) ≡ Some (job_in r) → state_of r.job (d ∷ C) ≡ Some s
        → record_of r.job (d ∷ C) ≡ with_both s (tops_after (d ∷ C)) (held_of r.job (d ∷ C))
    record_after d s job stands =
        ap (λ (o : Option Job). record_by r.job (d ∷ C) o (state_of r.job (d ∷ C))) job ∙ ap (λ (o : Option JobState). record_by r.job (d ∷ C) (Some (job_in r)) o) stands

    begun_follows : r.state ≡ state.Held → AreRowsOf (put_row rows (moved r state.Begun (tops_in rows))) (c.Began r.job ∷ C)
    begun_follows at = record {
      order = (it.state ∙ ap (λ (s : JobState). Some s) at, are.order);
      are = put_after (c.Began r.job) (moved r state.Begun (tops_in rows)) refl
          (record_after (c.Began r.job) state.Begun it.job (rw (eq-eqb r.job r.job refl) refl)
          ∙ ap (λ (o : Option (List ℕ)). with_both state.Begun (tops_after C) o) it.held ∙ ap (λ (l : List ℕ). with_both state.Begun l r.indicium) (sym (tops_are rows C sound are)));
    }

    prints : (s : JobState) → r.state ≡ s → FollowsCommits rows C (unless (print_answer (Some s)) (begun_act r r.indicium (tops_in rows)))
    prints state.Ordered at = tt
    prints state.Begun at = tt
    prints state.Closed at = tt
    prints state.Held at = by r.indicium (begun_follows at)
      where
        by : (o : Option (List ℕ)) → AreRowsOf (put_row rows (moved r state.Begun (tops_in rows))) (c.Began r.job ∷ C) → FollowsCommits rows C (begun_act r o (tops_in rows))
        by None follows = tt
        by (Some x) follows = follows

    closed_follows : is_open (Some r.state) ≡ true → AreRowsOf (put_row rows (moved r state.Closed (tops_in rows))) (c.Closed r.job ∷ C)
    closed_follows live = record {
      order = (ap is_open it.state ∙ live, are.order);
      are = put_after (c.Closed r.job) (moved r state.Closed (tops_in rows)) refl
          (record_after (c.Closed r.job) state.Closed it.job (rw (eq-eqb r.job r.job refl) refl)
          ∙ ap (λ (o : Option (List ℕ)). with_both state.Closed (tops_after C) o) it.held ∙ ap (λ (l : List ℕ). with_both state.Closed l r.indicium) (sym (tops_are rows C sound are)));
    }

    abbrev closing : HostAct (Unit {0})
    closing = Commits (c.Closed r.job) (moved r state.Closed (tops_in rows)) tt

    closes : (s : JobState) → r.state ≡ s → FollowsCommits rows C (unless (close_answer (Some s)) closing)
    closes state.Ordered at = closed_follows (ap (λ (s : JobState). is_open (Some s)) at)
    closes state.Held at = closed_follows (ap (λ (s : JobState). is_open (Some s)) at)
    closes state.Begun at = closed_follows (ap (λ (s : JobState). is_open (Some s)) at)
    closes state.Closed at = tt

    -- it takes a mark
    module _ (x : List ℕ) (k : Mark × List ℕ) (reads : read_mark x ≡ Ok k) (has : open_in k.0.device rows ≡ Some j) (waits : Waits k.0.device r j) (ok : HoldOk k.0 r.piece r.postage r.class) where
      open_now : open_job r.device C ≡ Some r.job
      open_now = ap (λ (e : ℕ). open_job e C) waits.device ∙ sym (open_is rows C sound are k.0.device) ∙ has ∙ ap (λ (i : ℕ). Some i) (sym waits.job)

      held_none : held_of r.job C ≡ None
      held_none = (job_facts rows C sound are).unheld r.job ((job_facts rows C sound are).open_is r.device r.job open_now).state

      held_now : held_of r.job (c.Held r.job x ∷ C) ≡ Some x
      held_now = rw (eq-eqb r.job r.job refl) (first_none (held_of r.job C) (Some x) held_none)

      device_is : IsDevice r.device
      device_is = (sound_row rows sound j r is).device

      -- the piece is raised among the tops
      raised_at : (i : ℕ) → i < 8 → get_or (raised r.device r.piece (tops_in rows)) i 0 ≡ max (piece_at (i + 1) (job_of r.job C)) (top (i + 1) C)
      raised_at i lt = ⊎_elim
          (λ (here : i ≡ r.device - 1).
          let same : r.device ≡ i + 1 = omega (arith, here, device_is) in
          let piece : piece_at (i + 1) (job_of r.job C) ≡ r.piece = ap (piece_at (i + 1)) it.job ∙ (rw (eq-eqb r.device (i + 1) same) refl) in
          let top_now : get_or (tops_in rows) (r.device - 1) 0 ≡ top (i + 1) C = tops_at rows r.device device_is ∙ top_is rows C sound are r.device device_is ∙ ap (λ (e : ℕ). top e C) same in
          ap (λ (n : ℕ). get_or (raised r.device r.piece (tops_in rows)) n 0) here
          ∙ get_or-set_same (tops_in rows) (r.device - 1) (max r.piece (get_or (tops_in rows) (r.device - 1) 0)) 0 (omega (arith, device_is, listed_long 8 (λ n. top_in (n + 1) rows)))
          ∙ ap (λ (n : ℕ). max r.piece n) top_now ∙ ap (λ (n : ℕ). max n (top (i + 1) C)) (sym piece))
          (λ (differs : i ≢ r.device - 1).
          let piece : piece_at (i + 1) (job_of r.job C) ≡ 0 = ap (piece_at (i + 1)) it.job ∙ (rw (ne_eqb r.device (i + 1) (λ e. differs (omega (arith, e)))) refl) in
          let other = get_or-set_other (tops_in rows) (r.device - 1) i (max r.piece (get_or (tops_in rows) (r.device - 1) 0)) 0 differs in
          let now = ap (λ (l : List ℕ). get_or l i 0) (tops_are rows C sound are) ∙ listed_at 8 (λ n. top (n + 1) C) 0 i lt in
          omega (arith, other, now, piece))
          (cases_eq i (r.device - 1))

      raised_are : tops_after (c.Held r.job x ∷ C) ≡ raised r.device r.piece (tops_in rows)
      raised_are = listed_is 8 (λ i. max (piece_at (i + 1) (job_of r.job C)) (top (i + 1) C)) 0 (raised r.device r.piece (tops_in rows))
          (length-set (tops_in rows) (r.device - 1) (max r.piece (get_or (tops_in rows) (r.device - 1) 0)) ∙ listed_long 8 (λ n. top_in (n + 1) rows)) raised_at

      held_follows : AreRowsOf (put_row rows (held_row r x (tops_in rows))) (c.Held r.job x ∷ C)
      held_follows = record {
        order = (record { at = job_in r; job_is = it.job; open_is = open_now; mark = held_mark rows sound j r is x k reads waits ok }, are.order);
        are = put_after (c.Held r.job x) (held_row r x (tops_in rows)) refl
            (record_after (c.Held r.job x) state.Held it.job (rw (eq-eqb r.job r.job refl) refl)
            ∙ ap (λ (o : Option (List ℕ)). with_both state.Held (tops_after (c.Held r.job x ∷ C)) o) held_now ∙ ap (λ (l : List ℕ). with_both state.Held l (Some x)) raised_are);
      }

    holds : (x : List ℕ) (k : Mark × List ℕ) → read_mark x ≡ Ok k → open_in k.0.device rows ≡ Some j → Waits k.0.device r j → (o : Option HostRefusal) → hold_answer k.0 r.piece r.postage r.class ≡ o
        → FollowsCommits rows C (unless o (Commits (c.Held r.job x) (held_row r x (tops_in rows)) r.job))
    holds x k reads has waits None at = held_follows x k reads has waits (hold_ok k.0 r.piece r.postage r.class at)
    holds x k reads has waits (Some y) at = tt

  print_follows : (j : ℕ) (o : Option JobRow) → job_row rows j ≡ o → FollowsCommits rows C (printed_act o (tops_in rows))
  print_follows j None at = tt
  print_follows j (Some r) at = prints j r at r.state refl

  close_follows : (j : ℕ) (o : Option JobRow) → job_row rows j ≡ o → FollowsCommits rows C (closed_act o (tops_in rows))
  close_follows j None at = tt
  close_follows j (Some r) at = closes j r at r.state refl

  hold_follows : (x : List ℕ) (k : Mark × List ℕ) → read_mark x ≡ Ok k → (j : ℕ) → open_in k.0.device rows ≡ Some j → (o : Option JobRow) → job_row rows j ≡ o → FollowsCommits rows C (held_act x k.0 o (tops_in rows))
  hold_follows x k reads j has None at = tt
  hold_follows x k reads j has (Some r) at =
      let row = opened rows sound.placed k.0.device j has in
      let same : row.row ≡ r = same_Some _ _ (sym row.is ∙ (found_row rows j r at).0) in
      holds j r at x k reads has (subst (λ (y : JobRow). Waits k.0.device y j) same row.waits) (hold_answer k.0 r.piece r.postage r.class) refl

  open_follows : (x : List ℕ) (k : Mark × List ℕ) → read_mark x ≡ Ok k → (o : Option ℕ) → open_in k.0.device rows ≡ o → FollowsCommits rows C (open_act x k.0 o (in_rows rows))
  open_follows x k reads None at = tt
  open_follows x k reads (Some j) at = hold_follows x k reads j at (job_row rows j) refl

  mark_follows : (x : List ℕ) (o : Result (Mark × List ℕ) MarkFault) → read_mark x ≡ o → FollowsCommits rows C (mark_act x o (in_rows rows))
  mark_follows x (Err fault) reads = tt
  mark_follows x (Ok k) reads = open_follows x k reads (open_in k.0.device rows) refl

  message_follows : (o : Result Message Unread) → FollowsCommits rows C (message_act o (in_rows rows))
  message_follows (Ok (m.Release x)) = mark_follows x (read_mark x) refl
  message_follows (Ok (m.Request q)) = tt
  message_follows (Ok (m.Reply q)) = tt
  message_follows (Ok (m.Done q)) = tt
  message_follows (Ok (m.Debit q)) = tt
  message_follows (Err x) = tt

pub follows : ActsFollow
follows = record {
  none = record { order = tt; are = refl };
  each = λ rows C sound are. record {
    ordered = priced_follows rows C sound are;
    taken = λ bytes. message_follows rows C sound are (read bytes);
    begun = λ j. print_follows rows C sound are j (job_row rows j) refl;
    closed = λ j. close_follows rows C sound are j (job_row rows j) refl;
  };
}

-- before the first commit there are no jobs
pub none_seen : rows_in (seen_after []) ≡ no_jobs
none_seen = seen_laws.rows [] ∙ sym follows.none.are
