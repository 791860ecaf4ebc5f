-- The host's and the verifier's parts of a plan are right: a mark that is held or accepted was released, a job is begun once,
-- and what the host sends fits its fields.
use Rattle.std.proofs.Common.{◌≡◌, ℕ, ℤ, ◌+◌, ◌-◌, ◌<◌, ◌^◌, Bool, true, false, List, [], ◌∷◌, Option, Some, None, Result, Ok, Err, cond, refl, sym, ap, subst, ◌∙◌, inl, inr, ⊎_elim, true≢false, arith, rules}
use Rattle.std.specs.Prelude.{◌==◌, ◌&&◌, length, unwrap_or, is_some, is_none, nat_le}
use Rattle.std.proofs.lemmas.Bool.{eqb-true, leb-true, le-leb, eq-eqb}
use Rattle.std.proofs.Math.Bool.{and-false}
use Rattle.std.proofs.lemmas.Option.{same_Some, none-some}
use Rattle.bench_base.specs.declared.{sizes.TheConstants.VERIFIER_CELLS, sizes.TheConstants.FIRST_BLOCK, words.Node.Node, words.Node.TheVariants.Host, words.Node.TheVariants.Verifier, words.JobState.JobState, refusals.Unread.Unread, refusals.MarkFault.MarkFault, refusals.RateRefusal.RateRefusal, refusals.HostRefusal.HostRefusal, refusals.ScanRefusal.ScanRefusal, ledger.Commit.Commit, ledger.Entry.Entry}
use Rattle.bench_base.specs.declared.words.JobState.TheVariants as state
use Rattle.bench_base.specs.declared.refusals.Unread.TheVariants as unread
use Rattle.bench_base.specs.declared.refusals.HostRefusal.TheVariants as no
use Rattle.bench_base.specs.declared.refusals.ScanRefusal.TheVariants as not_v
use Rattle.bench_base.specs.declared.ledger.Commit.TheVariants as c
use Rattle.bench_base.specs.declared.ledger.Entry.TheVariants as e
use Rattle.bench_base.specs.declared.events.Reply.TheVariants as r
use Rattle.bench_base.specs.Rules.{Rules}
use Rattle.bench_base.specs.Plans.{refuse, made, told}
use Rattle.bench_base.specs.Ranges.{IsDevice, IsWord, IsCount, IsPostage, IsKey}
use Rattle.bench_base.specs.Ledger.{Ledger, counted, is_on, torn_of, at_up, count_of, IsReleased, IsReleasedAs}
use Rattle.bench_base.specs.Jobs.{Job, last_job, job_of, state_of, open_job, begun}
use Rattle.bench_base.specs.Scans.{trusted, accepted, block_of, block_place, blocks}
use Rattle.bench_base.proofs.Facts.{ok_same, either, found}
use Rattle.node_acts.specs.declared.{act.Act.TheVariants.Tell, act.Act.TheVariants.Commits, said.Said.Said}
use Rattle.node_acts.specs.Said.{said_plan}
use Rattle.indicium.specs.declared.Mark.{Mark}
use Rattle.indicium.specs.Marks.{read_mark}
use Rattle.psd_wire.specs.declared.message.Message.{Message}
use Rattle.psd_wire.specs.declared.message.Message.TheVariants as m
use Rattle.psd_wire.specs.Grammar.{spell}
use Rattle.psd_wire.proofs.Readings.{read_spell, mark_long}
use Rattle.psd_wire.specs.Codes.{has_code}
use Rattle.ledger_terms.specs.Lawful.{Always}
use Rattle.host_jobs.specs.declared.rows.JobRow.{JobRow}
use Rattle.host_jobs.specs.Answers.{is_open, order_rows, order_answer, send_answer, print_answer, close_answer, hold_rows, debit_of}
use Rattle.host_jobs.specs.Acts.{HostAct, unless, ordered_act, moved, debit_note, sent_act, begun_act, printed_act, closed_act, held_row, held_act, open_act, mark_act, message_act}
use Rattle.host_jobs.specs.Plans as host
use Rattle.host_jobs.specs.Records.{tops_after}
use Rattle.host_jobs.specs.Rows.{job_in}
use Rattle.host_jobs.proofs.Answered.{may_order, may_hold}
use Rattle.host_jobs.proofs.ByRows.{shown_is}
use Rattle.host_jobs.proofs.CellFacts.{IsRowOf}
use Rattle.verifier.specs.declared.{acts.Accepted.Accepted, acts.Spot.Spot}
use Rattle.verifier.specs.Answers.{scan_rows, scan_answer}
use Rattle.verifier.specs.Acts.{ScanAct, trusted_act, answered_act, marked_act, read_act}
use Rattle.verifier.specs.Plans as scans
use Rattle.verifier.proofs.Passed.{may_accept}
use Rattle.ledger_terms.specs.Editions.{IsCarried}
use Rattle.ledger_moves.specs.Histories.{IsKnown, IsKnownMark}
use Rattle.bench_base.proofs.Rows.{chosen, first}
use Rattle.ledger_laws.proofs.Whole.{whole_debit}
use Rattle.ledger_laws.proofs.Good.{Good, is_full}
use Rattle.ledger_laws.proofs.Franked.{marked_reads, MarkOf, device_word}
use Rattle.ledger_laws.proofs.Jobs.{jobs}
use Rattle.ledger_laws.proofs.Grown.{Inv, Told, inv_sent, inv_printed}
use Rattle.ledger_laws.proofs.Plans.{PlanOk, IsFit, first_refusal, ok_refuse, ok_made}

-- a ledger's counted commits are those of any ledger that it grows to, without the last
at_up_good : (ρ : Rules) (w : Option Commit) (n : Node) (k : ℕ) (C : List Commit) → Good ρ (at_up w n k C) → Good ρ C
at_up_good ρ None n k C g = g
at_up_good ρ (Some x) n k C g = go (k == count_of n C + 1) g
  where
    go : (t : Bool) → Good ρ (cond t (x ∷ C) C) → Good ρ C
    go true h = h.1
    go false h = h

pub good_before : (ρ : Rules) (k : Entry) (H : Ledger) → Good ρ (counted (k ∷ H)) → Good ρ (counted H)
good_before ρ (e.Commit x) H g = g.1
good_before ρ (e.Up n k) H g = at_up_good ρ (torn_of n H) n k (counted H) g
good_before ρ _ H g = g

-- what the numbers of a job are
pub record JobRange (b : Job) : Type 0 where
  pub device : IsDevice b.device
  pub piece : IsCount b.piece
  pub postage : IsPostage b.postage
  pub class : b.class < 2 ^ 16

pub job_range : (ρ : Rules) (j : ℕ) (b : Job) (C : List Commit) → Good ρ C → job_of j C ≡ Some b → JobRange b
job_range ρ j b [] g h = absurd (none-some _ h)
job_range ρ j b (c.Ordered i d p a k ∷ C) g h = ⊎_elim
    (λ (t : ((i == j) ≡ true) × (record { device = d; piece = p; postage = a; class = k } ≡ b)). subst JobRange t.1 (record { device = g.2.1; piece = g.2.2; postage = g.2.3; class = g.2.4 }))
    (λ (o : job_of j C ≡ Some b). job_range ρ j b C g.1 o)
    (found (i == j) (job_of j C) (record { device = d; piece = p; postage = a; class = k }) b h)
job_range ρ j b (_ ∷ C) g h = job_range ρ j b C g.1 h

-- the number of an open job fits
job_word : (ρ : Rules) (j : ℕ) (b : Job) (C : List Commit) → Good ρ C → job_of j C ≡ Some b → IsWord j
job_word ρ j b [] g h = absurd (none-some _ h)
job_word ρ j b (c.Ordered i d p a k ∷ C) g h = ⊎_elim
    (λ (t : ((i == j) ≡ true) × (record { device = d; piece = p; postage = a; class = k } ≡ b)). subst IsWord (eqb-true i j t.0) g.2.0.1)
    (λ (o : job_of j C ≡ Some b). job_word ρ j b C g.1 o)
    (found (i == j) (job_of j C) (record { device = d; piece = p; postage = a; class = k }) b h)
job_word ρ j b (_ ∷ C) g h = job_word ρ j b C g.1 h

trusted_device : (ρ : Rules) (d : ℕ) (key : List ℕ) (C : List Commit) → Good ρ C → trusted d C ≡ Some key → IsDevice d
trusted_device ρ d key [] g h = absurd (none-some _ h)
trusted_device ρ d key (c.Trusted f k ∷ C) g h = either f d
    (λ t y. subst IsDevice y g.2.0)
    (λ t. trusted_device ρ d key C g.1 (rw t at h))
trusted_device ρ d key (_ ∷ C) g h = trusted_device ρ d key C g.1 h

-- a mark that was released was released as its device's and piece's
released_as : (ρ : Rules) → IsCarried ρ → (x : List ℕ) (k : Mark × List ℕ) (I : Ledger) → Good ρ (counted I) → Always Told I → IsReleased x I → read_mark x ≡ Ok k → IsReleasedAs k.0.device k.0.piece I × IsWord k.0.piece
released_as ρ carried x k [] g told h reads = absurd h
released_as ρ carried x k (e.Released d p y ∷ I) g told h reads = ⊎_elim
    (λ (s : y ≡ x).
    let it : MarkOf d p y = marked_reads ρ carried d p y (counted I) g told.0.releases.1 in
    let same : (it.mark_is, it.code) ≡ k = ok_same (sym it.reads ∙ (ap read_mark s ∙ reads)) in
    let piece : p ≡ k.0.piece = sym it.piece ∙ ap (λ (z : Mark × List ℕ). z.0.piece) same in
    (inl (sym it.device ∙ ap (λ (z : Mark × List ℕ). z.0.device) same, piece), subst IsWord piece it.range.1))
    (λ (s : IsReleased x I). let was = released_as ρ carried x k I g told.1 s reads in (inr was.0, was.1))
    h
released_as ρ carried x k (e.Commit o ∷ I) g told h reads = released_as ρ carried x k I g.1 told.1 h reads
released_as ρ carried x k (e.Up n count ∷ I) g told h reads = released_as ρ carried x k I (at_up_good ρ (torn_of n I) n count (counted I) g) told.1 h reads
released_as ρ carried x k (_ ∷ I) g told h reads = released_as ρ carried x k I g told.1 h reads

module _ (ρ : Rules) (carried : IsCarried ρ) (H : Ledger) (i : Inv ρ H) where
  no_host : (x : HostRefusal) → PlanOk ρ H (refuse (r.HostRefused x))
  no_host x = ok_refuse ρ H (r.HostRefused x) refl tt

  -- == the host ==

  -- the plan of an act of the host that is reported so
  abbrev OkTold : {A : Type 0} → (A → Said) → HostAct A → Type 0
  OkTold say act = PlanOk ρ H (said_plan (host.says say act))

  priced_ok : (d p a k : ℕ) (tops : List ℕ) → is_on Host H ≡ true → IsDevice d → IsWord p → IsPostage a → (k < 2 ^ 16) → (w : Option ℕ) → open_job d (counted H) ≡ w
      → OkTold host.told_ordered (ordered_act d p k a tops (order_answer p (host.shelf_of d (counted H)) w))
  priced_ok d p a k tops on device piece postage class (Some j) has = no_host (no.OpenJob j)
  priced_ok d p a k tops on device piece postage class None has =
      let C = counted H in
      let h = host.shelf_of d C in
      first_refusal (λ (z : Result ℕ HostRefusal). OkTold host.told_ordered (ordered_act d p k a tops z)) (λ x. Unit {0}) (order_rows p h) (Ok (last_job C + 1)) (search rules) (λ x s. no_host x)
      (λ rows.
      let may = may_order p h rows in
      let below : last_job C < 4294967295 = may.number in
      ok_made ρ H (r.Ordered (last_job C + 1) a) (c.Ordered (last_job C + 1) d p a k) refl tt (λ n l x. absurd (cc)) (record {
        fits = record { next = refl; idle = has; fresh = may.fresh; room = may.room };
        on = on;
        range = ((omega arith, omega arith), device, (omega (arith, may.fresh), piece), postage, class);
        sure = tt;
      }))

  pub order_ok : (d p k : ℕ) → is_on Host H ≡ true → IsDevice d → IsWord p → (k < 2 ^ 16) → (o : Option (Result ℕ RateRefusal)) → ((a : ℕ) → o ≡ Some (Ok a) → IsPostage a) → PlanOk ρ H (host.order_plan d p k o (counted H))
  order_ok d p k on device piece class None price = no_host no.NoRates
  order_ok d p k on device piece class (Some (Err x)) price = no_host (no.Rate x)
  order_ok d p k on device piece class (Some (Ok a)) price = priced_ok d p a k (tops_after (counted H)) on device piece (price a refl) class (open_job d (counted H)) refl

  -- the message for a job keeps what is reported true
  sends : (l j : ℕ) (x : JobRow) → job_of j (counted H) ≡ Some (job_in x) → OkTold (host.told_sent j l) (Tell (debit_note x))
  sends l j x at =
      let b = job_in x in
      let it = job_range ρ j b (counted H) i.good at in
      let q = debit_of b in
      record {
        sane = tt;
        plain = refl;
        no_up = λ n k h. refl;
        fit = λ x h. absurd (none-some _ h);
        keeps = λ k. inv_sent ρ H (spell (m.Debit q) []) (record {
          what = m.Debit q;
          reads = read_spell (m.Debit q) [] (whole_debit q (device_word b.device it.device) it.piece.1 (omega (arith, it.postage.1)) it.class);
          vouched = (it.device, (it.piece.1, it.class));
        }) k;
      }

  pub send_ok : (l j : ℕ) → PlanOk ρ H (host.send_plan l j (counted H))
  send_ok l j = by (host.shown_job j (counted H)) refl
    where
      by : (o : Option JobRow) → host.shown_job j (counted H) ≡ o → OkTold (host.told_sent j l) (sent_act o)
      by None at = no_host no.NoJob
      by (Some x) at = state_by x.state
        where
          state_by : (s : JobState) → OkTold (host.told_sent j l) (unless (send_answer (Some s)) (Tell (debit_note x)))
          state_by state.Ordered = sends l j x (shown_is j (counted H) x at).job
          state_by state.Held = no_host (no.State state.Held)
          state_by state.Begun = no_host (no.State state.Begun)
          state_by state.Closed = no_host (no.State state.Closed)

  -- the open job of a device takes a mark of its own
  hold_ok : (x : List ℕ) (k : Mark × List ℕ) → read_mark x ≡ Ok k → is_on Host H ≡ true → IsReleased x H → (w : Option ℕ) → open_job k.0.device (counted H) ≡ w → OkTold host.told_held (open_act x k.0 w (host.in_commits (counted H)))
  hold_ok x k reads on sure None has = no_host no.NoJob
  hold_ok x k reads on sure (Some j) has = job (host.shown_job j (counted H)) refl
    where
      job : (o : Option JobRow) → host.shown_job j (counted H) ≡ o → OkTold host.told_held (held_act x k.0 o (tops_after (counted H)))
      job None at = no_host no.NoJob
      job (Some y) at =
          let is = shown_is j (counted H) y at in
          let b = job_in y in
          let it = (jobs ρ (counted H) i.good).open_is k.0.device j has in
          let same : it.at ≡ b = same_Some _ _ (sym it.job_is ∙ is.job) in
          let device : k.0.device ≡ b.device = sym it.device ∙ ap (λ (z : Job). z.device) same in
          first (λ (z : Option HostRefusal). OkTold host.told_held (unless z (Commits (c.Held y.job x) (held_row y x (tops_after (counted H))) y.job))) (hold_rows k.0 y.piece y.postage y.class) None
          (no_host (no.OtherPiece y.piece), (no_host (no.OtherPostage y.postage), (no_host (no.OtherClass y.class), tt)))
          (λ rows. let may = may_hold k.0 b.piece b.postage b.class rows in subst (λ (n : ℕ). PlanOk ρ H (made (r.Held n) (c.Held n x) [])) (sym is.number) (ok_made ρ H (r.Held j) (c.Held j x) refl tt (λ n l h. absurd (cc)) (record {
            fits = record {
              at = b;
              job_is = is.job;
              open_is = subst (λ z. open_job z (counted H) ≡ Some j) device has;
              mark = record {
                mark = k.0;
                code = k.1;
                reads = reads;
                device = device;
                piece = may.piece_is;
                postage = may.postage_is;
                class = may.class_is;
              };
            };
            on = on;
            range = (job_word ρ j b (counted H) i.good is.job, mark_long x k reads);
            sure = sure;
          })))

  release_ok : (x : List ℕ) → is_on Host H ≡ true → IsReleased x H → (o : Result (Mark × List ℕ) MarkFault) → read_mark x ≡ o → OkTold host.told_held (mark_act x o (host.in_commits (counted H)))
  release_ok x on sure (Err fault) reads = no_host (no.Unread unread.Mark)
  release_ok x on sure (Ok k) reads = hold_ok x k reads on sure (open_job k.0.device (counted H)) refl

  pub host_ok : (bytes : List ℕ) (x : Result Message Unread) → is_on Host H ≡ true → IsKnown bytes x Host H → OkTold host.told_held (message_act x (host.in_commits (counted H)))
  host_ok bytes (Ok (m.Release x)) on known = release_ok x on (known refl) (read_mark x) refl
  host_ok bytes (Ok (m.Request q)) on known = no_host (no.Unread unread.Tag)
  host_ok bytes (Ok (m.Reply q)) on known = no_host (no.Unread unread.Tag)
  host_ok bytes (Ok (m.Done q)) on known = no_host (no.Unread unread.Tag)
  host_ok bytes (Ok (m.Debit q)) on known = no_host (no.Unread unread.Tag)
  host_ok bytes (Err x) on known = no_host (no.Unread x)

  print_mark_ok : (j : ℕ) (y : JobRow) → is_on Host H ≡ true → IsWord j → IsRowOf y j (counted H) → y.state ≡ state.Held → (x : Option (List ℕ)) → y.indicium ≡ x → OkTold (host.told_printed j) (begun_act y x (tops_after (counted H)))
  print_mark_ok j y on word is held None has = no_host no.NoJob
  print_mark_ok j y on word is held (Some x) has = subst (λ (n : ℕ). PlanOk ρ H (made (r.Printed j) (c.Began n) (e.Printed j x ∷ []))) (sym is.number) (record {
    sane = tt;
    plain = refl;
    no_up = λ n k h. absurd (cc);
    fit = λ z h. subst (IsFit ρ H) (same_Some _ _ h) (record { fits = at; on = on; range = word; sure = tt });
    keeps = λ k. inv_printed ρ (e.Commit (c.Began j) ∷ H) j x (is.held ∙ has) (rw (eq-eqb j j refl) refl) (λ p. never (i.printed j p)) k;
  })
    where
      at : state_of j (counted H) ≡ Some state.Held
      at = is.state ∙ ap (λ (s : JobState). Some s) held

      held_begun : state.Held ≡ state.Begun → ⊥
      held_begun h = cc

      held_closed : state.Held ≡ state.Closed → ⊥
      held_closed h = cc

      never : begun j (counted H) ≡ true → ⊥
      never b = ⊎_elim
          (λ (s : state_of j (counted H) ≡ Some state.Begun). held_begun (same_Some _ _ (sym at ∙ s)))
          (λ (s : state_of j (counted H) ≡ Some state.Closed). held_closed (same_Some _ _ (sym at ∙ s)))
          ((jobs ρ (counted H) i.good).begun_is j b)

  pub print_ok : (j : ℕ) → is_on Host H ≡ true → IsWord j → PlanOk ρ H (host.print_plan j (counted H))
  print_ok j on word = by (host.shown_job j (counted H)) refl
    where
      by : (o : Option JobRow) → host.shown_job j (counted H) ≡ o → OkTold (host.told_printed j) (printed_act o (tops_after (counted H)))
      by None at = no_host no.NoJob
      by (Some y) at = state_by y.state refl
        where
          state_by : (s : JobState) → y.state ≡ s → OkTold (host.told_printed j) (unless (print_answer (Some s)) (begun_act y y.indicium (tops_after (counted H))))
          state_by state.Held held = print_mark_ok j y on word (shown_is j (counted H) y at) held y.indicium refl
          state_by state.Ordered other = no_host (no.State state.Ordered)
          state_by state.Begun other = no_host (no.State state.Begun)
          state_by state.Closed other = no_host (no.State state.Closed)

  closes : (j : ℕ) (s : JobState) → is_on Host H ≡ true → IsWord j → state_of j (counted H) ≡ Some s → is_open (Some s) ≡ true → PlanOk ρ H (made (r.Closed j) (c.Closed j) [])
  closes j s on word at live = ok_made ρ H (r.Closed j) (c.Closed j) refl tt (λ n l h. absurd (cc)) (record { fits = (s, at, live); on = on; range = word; sure = tt })

  pub close_ok : (j : ℕ) → is_on Host H ≡ true → IsWord j → PlanOk ρ H (host.close_plan j (counted H))
  close_ok j on word = by (host.shown_job j (counted H)) refl
    where
      by : (o : Option JobRow) → host.shown_job j (counted H) ≡ o → OkTold (host.told_closed j) (closed_act o (tops_after (counted H)))
      by None at = no_host no.NoJob
      by (Some y) at = state_by y.state refl
        where
          is : IsRowOf y j (counted H)
          is = shown_is j (counted H) y at

          closing : (s : JobState) → y.state ≡ s → is_open (Some s) ≡ true → PlanOk ρ H (made (r.Closed j) (c.Closed y.job) [])
          closing s same live = subst (λ (n : ℕ). PlanOk ρ H (made (r.Closed j) (c.Closed n) [])) (sym is.number) (closes j s on word (is.state ∙ ap (λ (z : JobState). Some z) same) live)

          state_by : (s : JobState) → y.state ≡ s → OkTold (host.told_closed j) (unless (close_answer (Some s)) (Commits (c.Closed y.job) (moved y state.Closed (tops_after (counted H))) tt))
          state_by state.Closed same = no_host (no.State state.Closed)
          state_by state.Ordered same = closing state.Ordered same refl
          state_by state.Held same = closing state.Held same refl
          state_by state.Begun same = closing state.Begun same refl

  -- == the verifier ==

  -- what the plan of a scan is, by its act
  abbrev Scanned : ℕ → ScanAct Accepted → Type 0
  Scanned n act = PlanOk ρ H (said_plan (scans.says (scans.told_accepted n) act))

  no_scan : (x : ScanRefusal) → PlanOk ρ H (refuse (r.ScanRefused x))
  no_scan x = ok_refuse ρ H (r.ScanRefused x) refl tt

  pub trust_ok : (d : ℕ) (key : List ℕ) → is_on Verifier H ≡ true → IsDevice d → IsKey key → (w : Option (List ℕ)) → trusted d (counted H) ≡ w
      → PlanOk ρ H (said_plan (scans.says (scans.told_trusted d) (trusted_act d key (is_some w))))
  trust_ok d key on device fits (Some k) has = no_scan not_v.Known
  trust_ok d key on device fits None has = ok_made ρ H (r.Trusted d) (c.Trusted d key) refl tt (λ n l h. absurd (cc)) (record { fits = has; on = on; range = (device, fits); sure = tt })

  -- there is a cell for the block of the piece
  has_room : (d p : ℕ) (xs : List (ℕ × ℕ)) (place : Option ℕ) → nat_le VERIFIER_CELLS (FIRST_BLOCK + unwrap_or place (length xs)) ≡ false → (nat_le 1024 (length xs) && is_none place) ≡ false
  has_room d p xs (Some i) room = and-false (nat_le 1024 (length xs))
  has_room d p xs None room = ap (λ (t : Bool). t && true) (few (nat_le 1024 (length xs)) refl)
    where
      few : (t : Bool) → nat_le 1024 (length xs) ≡ t → nat_le 1024 (length xs) ≡ false
      few false is = is
      few true is = absurd (true≢false (sym (le-leb VERIFIER_CELLS (FIRST_BLOCK + length xs) (omega (arith, leb-true 1024 (length xs) is))) ∙ room))

  accept_ok : (n : ℕ) (k : Mark) (today : ℤ) → is_on Verifier H ≡ true → IsDevice k.device → IsWord k.piece → IsCount n → IsReleasedAs k.device k.piece H → (key : List ℕ) → trusted k.device (counted H) ≡ Some key
      → (w : Option ℕ) → accepted k.device k.piece (counted H) ≡ w → (cell : ℕ) → (nat_le VERIFIER_CELLS cell ≡ false → is_full k.device k.piece (blocks (counted H)) ≡ false)
      → Scanned n (answered_act n k cell (scan_answer n k.day today (nat_le VERIFIER_CELLS cell) w))
  accept_ok n k today on device piece scan sure key trust (Some s) has cell room = chosen (λ (z : Result Bool ScanRefusal). Scanned n (answered_act n k cell z)) (s == n) _ _
      (λ _. record { sane = tt; plain = refl; no_up = λ l j h. refl; fit = λ y h. absurd (none-some _ h); keeps = λ j. j })
      (λ _. no_scan (not_v.Duplicate s))
  accept_ok n k today on device piece scan sure key trust None has cell room =
      first_refusal (λ (z : Result Bool ScanRefusal). Scanned n (answered_act n k cell z)) (λ x. Unit {0}) (scan_rows k.day today (nat_le VERIFIER_CELLS cell)) (Ok false) (search rules) (λ x s. no_scan x)
      (λ rows. ok_made ρ H (r.Accepted k.device k.piece n false) (c.Accepted k.device k.piece n) refl tt (λ l j h. absurd (cc))
      (record { fits = record { new = has; known = (key, trust); room = room (may_accept k.day today (nat_le VERIFIER_CELLS cell) rows).room }; on = on; range = (device, piece, scan); sure = sure }))

  pub scan_ok : (n : ℕ) (bytes : List ℕ) (today : ℤ) → is_on Verifier H ≡ true → IsCount n → (o : Result (Mark × List ℕ) MarkFault) → read_mark bytes ≡ o → IsKnownMark bytes o H
      → Scanned n (read_act n bytes today (scans.in_commits (counted H)) o)
  scan_ok n bytes today on scan (Err fault) reads known = no_scan (not_v.Unread fault)
  scan_ok n bytes today on scan (Ok k) reads known = keyed (trusted k.0.device (counted H)) refl
    where
      xs : List (ℕ × ℕ)
      xs = blocks (counted H)

      spot : Spot
      spot = scans.spot_after (blocks (counted H)) (block_place k.0.device (block_of k.0.piece) (blocks (counted H))) (accepted k.0.device k.0.piece (counted H))

      keyed : (w : Option (List ℕ)) → trusted k.0.device (counted H) ≡ w
          → Scanned n (marked_act n bytes k.0 today w (scans.spot_after (blocks (counted H)) (block_place k.0.device (block_of k.0.piece) (blocks (counted H))) (accepted k.0.device k.0.piece (counted H))))
      keyed None has = no_scan (not_v.Unknown k.0.device)
      keyed (Some key) has = chosen (λ (z : ScanAct Accepted). Scanned n z) (has_code key bytes) _ _
          (λ t.
          let it = released_as ρ carried bytes k H i.good i.told (known key has t) reads in
          accept_ok n k.0 today on (trusted_device ρ k.0.device key (counted H) i.good has) it.1 scan it.0 key has (accepted k.0.device k.0.piece (counted H)) refl spot.cell
          (has_room k.0.device k.0.piece xs (block_place k.0.device (block_of k.0.piece) xs)))
          (λ _. no_scan not_v.BadCode)
