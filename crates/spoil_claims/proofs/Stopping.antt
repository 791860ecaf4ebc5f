-- What a run leaves of the storage of the claims: whether a commit failed, and why.
use Rattle.std.proofs.Common.{◌≡◌, ◌⊎◌, inl, inr, ℕ, ◌+◌, ◌-◌, ◌<◌, List, [], ◌∷◌, ◌++◌, length, Option, Some, None, Result, Ok, Err, Bool, true, false, ◌==◌, refl, sym, ap, ◌∙◌, subst, arith}
use Rattle.std.proofs.lemmas.List.{append_assoc, append-nil}
use Rattle.std.proofs.lemmas.Option.{same_Some}
use Rattle.bench_base.specs.declared.{events.Reply.Reply, refusals.StoreFail.StoreFail}
use Rattle.bench_base.specs.declared.refusals.StoreFail.TheVariants as fail
use Rattle.bench_base.specs.Questions.{IsAccepted}
use Rattle.nv_model.specs.Moments.{Image, Nested}
use Rattle.nv_model.specs.declared.nv.Nv as nv
use Rattle.nv_store.specs.Fails.{ends_failed}
use Rattle.nv_store.specs.RoomView.{cells_of, kept_in}
use Rattle.nv_store.specs.TableKnows.{table_only}
use Rattle.node_acts.specs.RowList.{put}
use Rattle.node_turns.specs.declared.turn.Turn.{Turn}
use Rattle.row_node.specs.Kept.{seen_shown}
use Rattle.row_node.specs.Shows.{ShowsRows}
use Rattle.row_store.specs.Commits.{CommitsRow}
use Rattle.row_store.specs.Seen.{ReadsAs, row_held}
use Rattle.row_store.proofs.Kept.{filled_of}
use Rattle.line_extensions.specs.Trace.{StepRecord, Skipped, Did}
use Rattle.line_extensions.specs.Desks.{World, world, Asks, Does}
use Rattle.line_extensions.specs.SideTrace.{SideStep, Plain, Own, Broken, steps_in, steps_of}
use Rattle.line_extensions.specs.Wants.{IsStep}
use Rattle.line_extensions.specs.declared.{extension.Next.Next, extension.Next.TheVariants.Say, extension.Next.TheVariants.Stop}
use Rattle.line_extensions.specs.Stops.{HasBroken, RowCommit}
use Rattle.line_extensions.proofs.Stores as stores
use Rattle.line_extensions.proofs.Lines.{BrokenLast}
use Rattle.spoil_claims.specs.Answers.{IsCutCredit}
use Rattle.spoil_claims.specs.Claims.{Claims, claim_at, kept, last_claim, credits}
use Rattle.spoil_claims.specs.ClaimsDesk.{claims_desk}
use Rattle.spoil_claims.specs.Courses.{row_for, as_credited, scan_of, Follows, Says, ByFailed, Scans, ByKept, Begins, Credited, Scanned, GoesOn, stored}
use Rattle.spoil_claims.specs.Payload.{decoded, spelled}
use Rattle.spoil_claims.specs.Storage.{IsUntouched}
use Rattle.spoil_claims.specs.View.{said_of, has_failed, rows_of, storage_of, store_of, view_of, Rests}
use Rattle.spoil_claims.specs.Waits.{IsWaiting}
use Rattle.spoil_claims.specs.declared.{claim.ClaimLine.ClaimLine, claim.ClaimLine.TheVariants.Claim, claim.ClaimLine.TheVariants.Credits, claim.ClaimLine.TheVariants.Reserved, claim.ClaimRow.ClaimRow, claim.TheConstants.CLAIM_CELLS, desk.Desk.Desk, answer.Answer.Answer}
use Rattle.spoil_claims.specs.declared.answer.Answer.TheVariants as answers
use Rattle.spoil_claims.proofs.Answering.{rests_rows, stored_keeps, scan_cut}
use Rattle.spoil_claims.proofs.Keeping.{rows_long, kept_inside, put_claim}
use Rattle.spoil_claims.proofs.Numbers.{either_any, kept_only}
use Rattle.line_extensions.proofs.Wanting.{no_step, no_say, ends_at}

no_stop : (next : Next) → next ≡ Say → next ≡ Stop → ⊥
no_stop next say stop = no_say next stop (sym say)

no_scan_stop : (x : ClaimRow) (next : Next) → next ≡ scan_of x → next ≡ Stop → ⊥
no_scan_stop x next asks stop = no_step next (inr stop) (subst (λ (n : Next). IsStep n) (sym asks) tt)

no_say_step : (next : Next) → next ≡ Say → IsStep next → ⊥
no_say_step next say step = no_step next (inl say) step

one_number : (c e : ℕ) → answers.Scanning c ≡ answers.Scanning e → c ≡ e
one_number c e is = cc

-- == a commit that failed ==

-- it was of a new claim as open, or of one as credited after its scan was accepted
abbrev pub IsCut : ClaimRow → Claims → List StepRecord → Type 0
IsCut x rows steps = ((kept rows x.claim ≡ None) × (x.credited ≡ false)) ⊎ ((y : ClaimRow) × (x ≡ as_credited y) × IsCutCredit y rows steps)

-- by the last of these steps
abbrev pub IsCutAfter : ClaimRow → Claims → List StepRecord → Type 0
IsCutAfter x rows all = (before steps : List StepRecord) × (all ≡ before ++ steps) × IsCut x rows steps

-- the commit of a claim to its cell
abbrev pub commit_of : ClaimRow → RowCommit ClaimRow
commit_of x = record { cell = x.claim - 1; kept = x }

module _ {N : Type 0} {g : nv.Ghosts N} where
  -- a desk that has not failed is shown by its storage
  pub shows_now : (desk : Desk N g) → has_failed desk ≡ false → g.tells → (c : List ℕ) → Image (g.times (storage_of desk)) c → ShowsRows 73 CLAIM_CELLS (ReadsAs decoded) (rows_of desk) c
  shows_now desk works tells c image =
      let only = table_only desk.room.same ((desk.runs works).holds tells) in
      let cells = cells_of desk.room in
      let held = kept_in desk.room in
      subst (λ (n : ℕ). ShowsRows 73 n (ReadsAs decoded) (rows_of desk) c) desk.cells
      (subst (λ (d : List ℕ). ShowsRows 73 cells (ReadsAs decoded) (rows_of desk) d) (sym (only.only c image))
      (seen_shown cells (ReadsAs decoded) (λ j. row_held decoded j (held j)) held (filled_of decoded cells held desk.read) 73 _ only.shows))

  -- == no commit failed, or one did ==

  -- none did
  abbrev pub Goes : Desk N g → Desk N g → Type 0
  Goes old new = stores.Goes g decoded 73 CLAIM_CELLS (view_of old) (view_of new)

  -- by whether one had failed before
  abbrev pub BreaksBy : Bool → ClaimRow → Desk N g → Desk N g → Type 0
  BreaksBy b x old new = stores.BreaksBy g decoded 73 CLAIM_CELLS b (commit_of x) (view_of old) (view_of new)

  -- one of this claim did
  abbrev pub Breaks : ClaimRow → Desk N g → Desk N g → Type 0
  Breaks x old new = stores.Breaks g decoded 73 CLAIM_CELLS (commit_of x) (view_of old) (view_of new)

  -- a new claim that was committed as open is kept
  open_kept : (c w : ℕ) (mark : List ℕ) (old desk : Desk N g) → said_of desk ≡ answers.Scanning c → rows_of desk ≡ put (rows_of old) (c - 1) (row_for c w mark) → kept (rows_of desk) c ≡ Some (row_for c w mark)
  open_kept c w mark old desk now after =
      let waits = subst (λ (s : Answer). IsWaiting (rows_of desk) s) now desk.waits in
      let inside = kept_inside (cells_of desk.room) (kept_in desk.room) c waits.1 in
      let first = waits.0 in
      let lt : c - 1 < length (rows_of old) = omega (arith, rows_long (cells_of old.room) (kept_in old.room), old.cells, desk.cells, inside, first) in
      ap (λ (r : Claims). claim_at r (c - 1)) after ∙ put_claim (rows_of old) (c - 1) (row_for c w mark) lt

  untouched : (old new : Desk N g) → Rests old new → IsUntouched old new
  untouched old new rests = record { storage = rests.storage; rows = rests_rows old new rests }

  goes_same : (old new : Desk N g) → new ≡ old → Goes old new
  goes_same old new same = stores.goes_same g decoded 73 CLAIM_CELLS (view_of old) (view_of new) (ap (λ (k : Desk N g). view_of k) same)

  goes_rests : (old new : Desk N g) → Rests old new → Goes old new
  goes_rests old new rests = stores.goes_rests g decoded 73 CLAIM_CELLS (view_of old) (view_of new) rests.failed (untouched old new rests)

  goes_on : (old mid new : Desk N g) → Goes old mid → Goes mid new → Goes old new
  goes_on old mid new first second = stores.goes_on g decoded 73 CLAIM_CELLS (view_of old) (view_of mid) (view_of new) first second

  breaks_later : (x : ClaimRow) (old mid new : Desk N g) → Goes old mid → Breaks x mid new → Breaks x old new
  breaks_later x old mid new goes breaks = stores.breaks_later g decoded 73 CLAIM_CELLS (commit_of x) (view_of old) (view_of mid) (view_of new) goes breaks

  -- how lines end: no commit failed, or one did in the last
  abbrev pub Ends : Desk N g → Desk N g → List (SideStep ClaimLine) → Type 0
  Ends old new trace = (Goes old new × (HasBroken trace → ⊥)) ⊎ (HasBroken trace × (x : ClaimRow) × Breaks x old new × IsCutAfter x (rows_of new) (steps_of trace))

  -- == one commit ==

  module _ (nested : (s : N) → g.tells → Nested (g.times s)) where
    -- how a commit of this claim came out
    abbrev Came : ClaimRow → Answer → Next → Desk N g → Next → Desk N g → Type 0
    Came x meant then old next new =
        (Goes old new × (((next ≡ then) × (said_of new ≡ meant) × (rows_of new ≡ put (rows_of old) (x.claim - 1) x)) ⊎ (next ≡ Say)))
        ⊎ ((next ≡ Stop) × Breaks x old new × (rows_of new ≡ rows_of old))

    by_result : (x : ClaimRow) (meant : Answer) (then : Next) (old : Desk N g) (next : Next) (new : Desk N g) → has_failed old ≡ false → (result : Result (Unit {0}) StoreFail)
        → CommitsRow g.tells decoded spelled 73 (x.claim - 1) x (store_of old) (store_of new) result → has_failed new ≡ ends_failed result → Follows result meant then (said_of new) next → Came x meant then old next new
    by_result x meant then old next new works (Ok u) did failed follows =
        inl (stores.came_by g decoded 73 CLAIM_CELLS spelled nested (commit_of x) (view_of old) (view_of new) old.cells works (Ok u) did failed, inl (follows.1, follows.0, did.done))
    by_result x meant then old next new works (Err fail.Worn) did failed follows =
        inl (stores.came_by g decoded 73 CLAIM_CELLS spelled nested (commit_of x) (view_of old) (view_of new) old.cells works (Err fail.Worn) did failed, inr follows.1)
    by_result x meant then old next new works (Err fail.Power) did failed follows =
        inr (follows, stores.came_by g decoded 73 CLAIM_CELLS spelled nested (commit_of x) (view_of old) (view_of new) old.cells works (Err fail.Power) did failed, did.stays)
    by_result x meant then old next new works (Err fail.Fault) did failed follows =
        inr (follows, stores.came_by g decoded 73 CLAIM_CELLS spelled nested (commit_of x) (view_of old) (view_of new) old.cells works (Err fail.Fault) did failed, did.stays)
    by_result x meant then old next new works (Err fail.Failed) did failed follows = absurd (did.not_failed refl)

    tried : (b : Bool) (x : ClaimRow) (meant : Answer) (then : Next) (old : Desk N g) (next : Next) (new : Desk N g) → has_failed old ≡ b → ByFailed b x meant then old next new → Came x meant then old next new
    tried true x meant then old next new is did =
        inr (did.0, stores.breaks_before g decoded 73 CLAIM_CELLS (commit_of x) (view_of old) (view_of new) is did.1.failed (untouched old new did.1), rests_rows old new did.1)
    tried false x meant then old next new is did = by_result x meant then old next new is did.result did.commits did.failed did.follows

    -- == after its scan ==

    -- the commit as credited may fail
    abbrev Closes : Desk N g → Next → Desk N g → Type 0
    Closes old next new =
        (Goes old new × (next ≡ Say))
        ⊎ ((next ≡ Stop) × (c : ℕ) × (y : ClaimRow) × (said_of old ≡ answers.Scanning c) × (kept (rows_of old) c ≡ Some y) × Breaks (as_credited y) old new)

    closes_credit : (c : ℕ) (y : ClaimRow) (meant : Answer) (old : Desk N g) (next : Next) (new : Desk N g) → said_of old ≡ answers.Scanning c → kept (rows_of old) c ≡ Some y → Came (as_credited y) meant Say old next new → Closes old next new
    closes_credit c y meant old next new waits here (inl (goes, inl say)) = inl (goes, say.0)
    closes_credit c y meant old next new waits here (inl (goes, inr say)) = inl (goes, say)
    closes_credit c y meant old next new waits here (inr (stop, breaks, rows)) = inr (stop, c, y, waits, here, breaks)

    closes_scan : (c : ℕ) (reply : Reply) (old : Desk N g) (next : Next) (new : Desk N g) → said_of old ≡ answers.Scanning c → Scanned c reply old next new → Closes old next new
    closes_scan c reply old next new waits did = by_reply did.did
      where
        by_reply : ((IsAccepted reply × Credited did.row old next new) ⊎ ((IsAccepted reply → ⊥) × Says (answers.Scan reply) old next new)) → Closes old next new
        by_reply (inl credit) =
            let meant = answers.Credited did.row.claim credit.1.mark false in
            closes_credit c did.row meant old next new waits did.is (tried (has_failed old) (as_credited did.row) meant Say old next new refl credit.1.tries)
        by_reply (inr other) = inl (goes_rests old new other.1.rests, other.1.ends)

    closes : (s : Answer) (reply : Reply) (old : Desk N g) (next : Next) (new : Desk N g) → said_of old ≡ s → GoesOn s reply old next new → Closes old next new
    closes (answers.Scanning c) reply old next new waits did = closes_scan c reply old next new waits did
    closes answers.Nothing reply old next new waits did = inl (goes_same old new did.1, did.0)
    closes (answers.Credited c mark again) reply old next new waits did = inl (goes_same old new did.1, did.0)
    closes (answers.Credits w sum) reply old next new waits did = inl (goes_same old new did.1, did.0)
    closes answers.Conflict reply old next new waits did = inl (goes_same old new did.1, did.0)
    closes (answers.WrongClaim last) reply old next new waits did = inl (goes_same old new did.1, did.0)
    closes answers.Full reply old next new waits did = inl (goes_same old new did.1, did.0)
    closes answers.Reserved reply old next new waits did = inl (goes_same old new did.1, did.0)
    closes answers.Worn reply old next new waits did = inl (goes_same old new did.1, did.0)
    closes (answers.Scan r) reply old next new waits did = inl (goes_same old new did.1, did.0)

    module _ {B : Type 0} (Steps : B → B → StepRecord → Turn → Type 0) (told : (s t : B) (d : StepRecord) (turn : Turn) → Steps s t d turn → d.reply ≡ turn.reply) where
      -- == before it ==

      -- what is scanned is kept
      abbrev Waits : Next → Desk N g → Type 0
      Waits next new = IsStep next → (x : ClaimRow) × (next ≡ scan_of x) × (said_of new ≡ answers.Scanning x.claim) × (kept (rows_of new) x.claim ≡ Some x)

      -- the commit of a new claim may fail
      abbrev Opens : Desk N g → Next → Desk N g → Type 0
      Opens old next new =
          (Goes old new × (next ≡ Stop → ⊥) × Waits next new)
          ⊎ ((next ≡ Stop) × (x : ClaimRow) × Breaks x old new × (kept (rows_of new) x.claim ≡ None) × (x.credited ≡ false))

      opens_says : (answer : Answer) (old : Desk N g) (next : Next) (new : Desk N g) → Says answer old next new → Opens old next new
      opens_says answer old next new did = inl (goes_rests old new did.rests, λ stop. no_stop next did.ends stop, λ step. absurd (no_say_step next did.ends step))

      opens_scan : (x : ClaimRow) (old : Desk N g) (next : Next) (new : Desk N g) → Scans x old next new → Opens old next new
      opens_scan x old next new did =
          inl (
            goes_rests old new did.rests,
            no_scan_stop x next did.asks,
            λ step. (x, did.asks, did.waits, ap (λ (r : Claims). kept r x.claim) (rests_rows old new did.rests) ∙ did.here),
          )

      opens_new : (c w : ℕ) (mark : List ℕ) (old : Desk N g) (next : Next) (new : Desk N g) → kept (rows_of old) c ≡ None
          → Came (row_for c w mark) (answers.Scanning c) (scan_of (row_for c w mark)) old next new → Opens old next new
      opens_new c w mark old next new none (inl (goes, inl done)) =
          inl (goes, no_scan_stop (row_for c w mark) next done.0, λ step. (row_for c w mark, done.0, done.1, open_kept c w mark old new done.1 done.2))
      opens_new c w mark old next new none (inl (goes, inr say)) = inl (goes, no_stop next say, λ step. absurd (no_say_step next say step))
      opens_new c w mark old next new none (inr (stop, breaks, rows)) = inr (stop, row_for c w mark, breaks, ap (λ (r : Claims). kept r c) rows ∙ none, refl)

      opens_kept : (o : Option ClaimRow) (c w : ℕ) (mark : List ℕ) (old : Desk N g) (next : Next) (new : Desk N g) → kept (rows_of old) c ≡ o → ByKept o c w mark old next new → Opens old next new
      opens_kept (Some x) c w mark old next new is (inl known) =
          either_any x.credited (λ again. opens_says (answers.Credited c again.mark true) old next new again.says) (λ scans. opens_scan x old next new scans) known.1
      opens_kept (Some x) c w mark old next new is (inr other) = opens_says answers.Conflict old next new other.1
      opens_kept None c w mark old next new is did =
          either_any (c == last_claim (rows_of old) + 1)
          (λ here. either_any (c == 1025) (λ full. opens_says answers.Full old next new full)
          (λ tries. opens_new c w mark old next new is (tried (has_failed old) (row_for c w mark) (answers.Scanning c) (scan_of (row_for c w mark)) old next new refl tries)) here)
          (λ wrong. opens_says (answers.WrongClaim (last_claim (rows_of old))) old next new wrong) did

      opens : (own : ClaimLine) (old : Desk N g) (next : Next) (new : Desk N g) → Begins old own next new → Opens old next new
      opens (Claim c w mark) old next new begins = opens_kept (kept (rows_of old) c) c w mark old next new refl begins
      opens (Credits w) old next new begins = opens_says (answers.Credits w (credits w (rows_of old))) old next new begins
      opens Reserved old next new begins = opens_says answers.Reserved old next new begins

      -- == an own line ==

      -- to its answer
      to_say : (old : Desk N g) (s : B) (next : Next) (desk : Desk N g) (new : World B (Desk N g)) (steps : List StepRecord) → Opens old next desk → Asks (claims_desk g) Steps (world s desk) new next steps Say → Goes old new.desk
      to_say old s next desk new [] (inl opens) asks = subst (λ (w : World B (Desk N g)). Goes old w.desk) (sym asks.1) opens.0
      to_say old s next desk new [] (inr broke) asks = absurd (no_say next broke.0 asks.0)
      to_say old s next desk new (d ∷ rest) (inr broke) asks = absurd (no_step next (inr broke.0) (subst (λ (n : Next). IsStep n) (sym asks.2.asks) tt))
      to_say old s next desk new (d ∷ rest) (inl opens) asks = after (closes (said_of desk) asks.2.turn.reply desk asks.1 asks.0.desk refl asks.2.goes)
        where
          after : Closes desk asks.1 asks.0.desk → Goes old new.desk
          after (inl (more, say)) =
              let end = ends_at (claims_desk g) Steps asks.0 new asks.1 rest Say asks.3 (inl say) in
              subst (λ (w : World B (Desk N g)). Goes old w.desk) (sym end.2) (goes_on old desk asks.0.desk opens.0 more)
          after (inr broke) = absurd (no_say asks.1 broke.0 (ends_at (claims_desk g) Steps asks.0 new asks.1 rest Say asks.3 (inr broke.0)).1)

      to_stop : (old : Desk N g) (s : B) (next : Next) (desk : Desk N g) (new : World B (Desk N g)) (steps : List StepRecord) → Opens old next desk → Asks (claims_desk g) Steps (world s desk) new next steps Stop
          → (x : ClaimRow) × Breaks x old new.desk × IsCut x (rows_of new.desk) steps
      to_stop old s next desk new [] (inl opens) asks = absurd (opens.1 (sym asks.0))
      to_stop old s next desk new [] (inr broke) asks =
          subst (λ (w : World B (Desk N g)). (x : ClaimRow) × Breaks x old w.desk × IsCut x (rows_of w.desk) []) (sym asks.1) (broke.1, broke.2, inl (broke.3, broke.4))
      to_stop old s next desk new (d ∷ rest) (inr broke) asks = absurd (no_step next (inr broke.0) (subst (λ (n : Next). IsStep n) (sym asks.2.asks) tt))
      to_stop old s next desk new (d ∷ rest) (inl opens) asks = after (closes (said_of desk) asks.2.turn.reply desk asks.1 asks.0.desk refl asks.2.goes)
        where
          after : Closes desk asks.1 asks.0.desk → (x : ClaimRow) × Breaks x old new.desk × IsCut x (rows_of new.desk) (d ∷ rest)
          after (inl (more, say)) = absurd (no_say Stop refl (sym say ∙ sym (ends_at (claims_desk g) Steps asks.0 new asks.1 rest Stop asks.3 (inl say)).1))
          after (inr (stop, c, y, now, kept_y, breaks)) =
              let waits = opens.2 (subst (λ (n : Next). IsStep n) (sym asks.2.asks) tt) in
              let x = waits.0 in
              let number : c ≡ x.claim = one_number c x.claim (sym now ∙ waits.2) in
              let row : y ≡ x = same_Some y x (sym kept_y ∙ (ap (λ (j : ℕ). kept (rows_of desk) j) number ∙ waits.3)) in
              let end = ends_at (claims_desk g) Steps asks.0 new asks.1 rest Stop asks.3 (inr stop) in
              let first = (subst (λ (a : Answer). IsWaiting (rows_of desk) a) waits.2 desk.waits).0 in
              let cut = scan_cut (stored g) (stored_keeps g) Steps told x desk s new (d ∷ rest) waits.2 (record { first = first; only = kept_only (rows_of desk) x waits.3 }) (subst (λ (n : Next). Asks (claims_desk g) Steps (world s desk) new n (d ∷ rest) Stop) waits.1 asks) in (
                as_credited y,
                subst (λ (w : World B (Desk N g)). Breaks (as_credited y) old w.desk) (sym end.2) (breaks_later (as_credited y) old desk asks.0.desk opens.0 breaks),
                inr (x, ap as_credited row, subst (λ (r : Claims). IsCutCredit x r (d ∷ rest)) (sym cut.1) cut.0),
              )

      -- == all lines ==

      with_line : (d : SideStep ClaimLine) (old mid new : Desk N g) (rest : List (SideStep ClaimLine)) → (HasBroken (d ∷ rest) → HasBroken rest) → (HasBroken rest → HasBroken (d ∷ rest)) → Goes old mid → Ends mid new rest → Ends old new (d ∷ rest)
      with_line d old mid new rest down up goes (inl (more, none)) = inl (goes_on old mid new goes more, λ broke. none (down broke))
      with_line d old mid new rest down up goes (inr (broke, x, breaks, (before, steps, are, cut))) =
          inr (up broke, x, breaks_later x old mid new goes breaks, (steps_in d ++ before, steps, ap (λ (l : List StepRecord). steps_in d ++ l) are ∙ sym (append_assoc (steps_in d) before steps), cut))

      pub all_end : (old new : World B (Desk N g)) (trace : List (SideStep ClaimLine)) → BrokenLast trace → Does (claims_desk g) Steps old new trace → Ends old.desk new.desk trace
      all_end old new [] last did = inl (goes_same old.desk new.desk (ap (λ (w : World B (Desk N g)). w.desk) did), λ broke. broke)
      all_end old new (Plain (Skipped line) ∷ rest) last did =
          with_line (Plain (Skipped line)) old.desk did.0.desk new.desk rest (λ b. b) (λ b. b) (goes_same old.desk did.0.desk (ap (λ (w : World B (Desk N g)). w.desk) did.1)) (all_end did.0 new rest last did.2)
      all_end old new (Plain (Did line d) ∷ rest) last did =
          with_line (Plain (Did line d)) old.desk did.0.desk new.desk rest (λ b. b) (λ b. b) (goes_same old.desk did.0.desk did.1.sees) (all_end did.0 new rest last did.2)
      all_end old new (Own line own steps texts ∷ rest) last did =
          with_line (Own line own steps texts) old.desk did.0.desk new.desk rest (λ b. b) (λ b. b)
          (to_say old.desk old.scene did.1.did.first did.1.did.desk did.0 steps (opens own old.desk did.1.did.first did.1.did.desk did.1.did.begins) did.1.did.asks) (all_end did.0 new rest last did.2)
      all_end old new (Broken line own steps ∷ rest) last did =
          let cut = to_stop old.desk old.scene did.1.first did.1.desk did.0 steps (opens own old.desk did.1.first did.1.desk did.1.begins) did.1.asks in
          let now : (x : ClaimRow) × Breaks x old.desk new.desk × IsCutAfter x (rows_of new.desk) (steps ++ []) =
          subst (λ (w : World B (Desk N g)). (x : ClaimRow) × Breaks x old.desk w.desk × IsCutAfter x (rows_of w.desk) (steps ++ []))
          (sym (subst (λ (l : List (SideStep ClaimLine)). Does (claims_desk g) Steps did.0 new l) last did.2))
          (cut.0, cut.1, ([], steps, append-nil steps, cut.2)) in
          subst (λ (l : List (SideStep ClaimLine)). Ends old.desk new.desk (Broken line own steps ∷ l)) (sym last) (inr (tt, now.0, now.1, now.2))
