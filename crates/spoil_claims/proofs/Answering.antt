-- What the desk and the bench did for a line is its answer.
use Rattle.std.proofs.Common.{◌≡◌, ◌⊎◌, inl, inr, ℕ, ◌+◌, ◌-◌, ◌≤◌, List, [], ◌∷◌, Option, Some, None, Result, Ok, Err, Bool, true, false, ◌==◌, refl, sym, ap, ◌∙◌, subst}
use Rattle.std.specs.Prelude.{codes}
use Rattle.std.specs.List.{AllByRecursion}
use Rattle.std.proofs.lemmas.Bool.{false_from_ne_true}
use Rattle.bench_base.specs.declared.events.Event.TheVariants as ev
use Rattle.bench_base.specs.declared.{events.Reply.Reply, refusals.StoreFail.StoreFail}
use Rattle.bench_base.specs.declared.refusals.StoreFail.TheVariants as fail
use Rattle.bench_base.specs.Questions.{IsAccepted}
use Rattle.indicium.specs.declared.Mark.{Mark}
use Rattle.nv_model.specs.declared.nv.Nv as nv
use Rattle.nv_store.specs.RoomView.{cells_of, kept_in}
use Rattle.nv_store.specs.declared.room.Room.{Room}
use Rattle.node_acts.specs.RowList.{is_worn, put}
use Rattle.node_turns.specs.declared.turn.Turn.{Turn}
use Rattle.script_text.specs.Texts.{text_of}
use Rattle.line_extensions.specs.Trace.{StepRecord, Skipped, Did}
use Rattle.line_runs.specs.Trace.{Reads}
use Rattle.line_extensions.specs.Desks.{World, world, Asks, Does, side_lines}
use Rattle.line_extensions.specs.SideTrace.{SideStep, Plain, Own, Broken}
use Rattle.line_extensions.specs.declared.{extension.Next.Next, extension.Next.TheVariants.Say, extension.Next.TheVariants.Stop}
use Rattle.row_store.specs.Commits.{CommitsRow}
use Rattle.row_store.specs.Seen.{seen_in}
use Rattle.spoil_claims.specs.Answers.{IsTold, IsCreditedNow, IsScanned, IsAgain, IsNewTold, IsClaimTold, IsAnswered, IsCutCredit, IsNewCut, IsClaimCut, IsCutShort, AreAnswered}
use Rattle.spoil_claims.specs.ClaimLines.{IsClaimLine}
use Rattle.spoil_claims.specs.Claims.{Claims, IsHere, AreNumbered, kept, last_claim, credits, mark_of, scan_number}
use Rattle.spoil_claims.specs.ClaimsDesk.{by_keeper}
use Rattle.spoil_claims.specs.Courses.{Follows, ByFailed, stored}
use Rattle.spoil_claims.specs.Moves.{Keeper, Either, row_for, as_credited, scan_of, Says, Scans, Repeats, ByKept, Begins, Credited, Scanned, GoesOn}
use Rattle.scan_laws.proofs.Accepting.{accepted_by}
use Rattle.spoil_claims.specs.Payload.{decoded, spelled}
use Rattle.spoil_claims.specs.Texts.{said_texts, credited_text, credits_text, wrong_claim_text}
use Rattle.spoil_claims.specs.View.{said_of, has_failed, rows_of, store_of, Rests}
use Rattle.spoil_claims.specs.declared.{claim.ClaimLine.ClaimLine, claim.ClaimLine.TheVariants.Claim, claim.ClaimLine.TheVariants.Credits, claim.ClaimLine.TheVariants.Reserved, claim.ClaimRow.ClaimRow, desk.Desk.Desk, answer.Answer.Answer}
use Rattle.spoil_claims.specs.declared.answer.Answer.TheVariants as answers
use Rattle.spoil_claims.proofs.Numbers.{MayScan, kept_only, put_only, told_numbers, cut_numbers}
use Rattle.line_extensions.proofs.Wanting.{no_step, no_say, step_event, ends_at}

pub either_by : {P Q X Y : Type 0} (b : Bool) → (P → X) → (Q → Y) → Either b P Q → Either b X Y
either_by true f h either = f either
either_by false f h either = h either

-- how a commit came out, by the claims before and after it
pub data CameOut (x : ClaimRow) (meant : Answer) (then : Next) (rows after : Claims) (now : Answer) (next : Next) : Type 0 where
  Done_ : is_worn rows (x.claim - 1) ≡ false → now ≡ meant → next ≡ then → after ≡ put rows (x.claim - 1) x → CameOut x meant then rows after now next
  Worn_ : is_worn rows (x.claim - 1) ≡ true → now ≡ answers.Worn → next ≡ Say → after ≡ rows → CameOut x meant then rows after now next
  Broke : next ≡ Stop → after ≡ rows → CameOut x meant then rows after now next

-- what is asked of a keeper of claims: at rest it keeps them, and a commit comes out so
pub record Keeps {S : Type 0} (f : Keeper S) : Type 0 where
  pub rests : (old new : S) → f.Rests old new → f.rows new ≡ f.rows old
  pub tries : (x : ClaimRow) (meant : Answer) (then : Next) (old : S) (next : Next) (new : S) → f.Tries x meant then old next new
      → CameOut x meant then (f.rows old) (f.rows new) (f.said new) next

-- == the desk in its storage ==

module _ {N : Type 0} {g : nv.Ghosts N} where
  pub rests_rows : (old new : Desk N g) → Rests old new → rows_of new ≡ rows_of old
  rests_rows old new rests = ap (λ (room : Room 73). seen_in decoded (cells_of room) (kept_in room)) rests.room

  pub came_out : (x : ClaimRow) (meant : Answer) (then : Next) (old : Desk N g) (next : Next) (new : Desk N g) (result : Result (Unit {0}) StoreFail)
      → CommitsRow g.tells decoded spelled 73 (x.claim - 1) x (store_of old) (store_of new) result → Follows result meant then (said_of new) next
      → CameOut x meant then (rows_of old) (rows_of new) (said_of new) next
  came_out x meant then old next new (Ok u) did follows =
      Done_ (false_from_ne_true (is_worn (rows_of old) (x.claim - 1)) (λ worn. let wrong : Ok u ≡ Err fail.Worn = did.worn.1 worn in cc)) follows.0 follows.1 did.done
  came_out x meant then old next new (Err fail.Worn) did follows = Worn_ (did.worn.0 refl) follows.0 follows.1 did.stays
  came_out x meant then old next new (Err fail.Power) did follows = Broke follows did.stays
  came_out x meant then old next new (Err fail.Fault) did follows = Broke follows did.stays
  came_out x meant then old next new (Err fail.Failed) did follows = absurd (did.not_failed refl)

  pub tried : (b : Bool) (x : ClaimRow) (meant : Answer) (then : Next) (old : Desk N g) (next : Next) (new : Desk N g) → ByFailed b x meant then old next new
      → CameOut x meant then (rows_of old) (rows_of new) (said_of new) next
  tried true x meant then old next new did = Broke did.0 (rests_rows old new did.1)
  tried false x meant then old next new did = came_out x meant then old next new did.result did.commits did.follows

pub stored_keeps : {N : Type 0} (g : nv.Ghosts N) → Keeps (stored g)
stored_keeps g = record { rests = rests_rows; tries = λ x meant then old next new did. tried (has_failed old) x meant then old next new did }

-- == whoever keeps them ==

module _ {S : Type 0} (f : Keeper S) (keeps : Keeps f) {B : Type 0} (Steps : B → B → StepRecord → Turn → Type 0) (told : (s t : B) (d : StepRecord) (turn : Turn) → Steps s t d turn → d.reply ≡ turn.reply) where
  -- where it says its answer at once
  says_told : (answer : Answer) (text : List ℕ) → said_texts answer ≡ text ∷ [] → (old : World B S) (first : Next) (desk : S) (new : World B S) (steps : List StepRecord)
      → Says f answer old.desk first desk → Asks (by_keeper f) Steps (world old.scene desk) new first steps Say
      → IsTold text (f.rows old.desk) steps (said_texts (f.said new.desk)) (f.rows new.desk)
  says_told answer text texts old first desk new steps says asks =
      let end = ends_at (by_keeper f) Steps (world old.scene desk) new first steps Say asks (inl says.ends) in
      let same : new.desk ≡ desk = ap (λ (w : World B S). w.desk) end.2 in
      record {
        none = end.0;
        texts_are = ap (λ (k : S). said_texts (f.said k)) same ∙ ap (λ (s : Answer). said_texts s) says.answers ∙ texts;
        rests = ap (λ (k : S). f.rows k) same ∙ keeps.rests old.desk desk says.rests;
      }

  module _ (new m : World B S) (same : new ≡ m) where
    desk_is : new.desk ≡ m.desk
    desk_is = ap (λ (w : World B S). w.desk) same

    texts_by : (answer : Answer) → f.said m.desk ≡ answer → said_texts (f.said new.desk) ≡ said_texts answer
    texts_by answer is = ap (λ (k : S). said_texts (f.said k)) desk_is ∙ ap (λ (s : Answer). said_texts s) is

    rows_by : (rows : Claims) → f.rows m.desk ≡ rows → f.rows new.desk ≡ rows
    rows_by rows is = ap (λ (k : S). f.rows k) desk_is ∙ is

  -- the commit as credited came out
  credited_now : (x : ClaimRow) (mark : Mark) → mark_of x.mark ≡ Some mark → (mid : S) (m new : World B S) (more : Next) (rest : List StepRecord) → Asks (by_keeper f) Steps m new more rest Say
      → CameOut (as_credited x) (answers.Credited x.claim mark false) Say (f.rows mid) (f.rows m.desk) (f.said m.desk) more
      → (rest ≡ []) × IsCreditedNow x (f.rows mid) (said_texts (f.said new.desk)) (f.rows new.desk)
  credited_now x mark is mid m new more rest asks (Done_ fresh now next after) =
      let end = ends_at (by_keeper f) Steps m new more rest Say asks (inl next) in
      (end.0, inr (fresh, record { mark = mark; is = is; texts_are = texts_by new m end.2 (answers.Credited x.claim mark false) now }, rows_by new m end.2 (put (f.rows mid) (x.claim - 1) (as_credited x)) after))
  credited_now x mark is mid m new more rest asks (Worn_ worn now next after) =
      let end = ends_at (by_keeper f) Steps m new more rest Say asks (inl next) in
      (end.0, inl (worn, texts_by new m end.2 answers.Worn now, rows_by new m end.2 (f.rows mid) after))
  credited_now x mark is mid m new more rest asks (Broke next after) =
      let end = ends_at (by_keeper f) Steps m new more rest Say asks (inr next) in
      absurd (no_say more next end.1)

  -- after the scan of an open claim
  scan_told : (x : ClaimRow) (mid : S) (s : B) (new : World B S) (steps : List StepRecord) → f.said mid ≡ answers.Scanning x.claim → MayScan (f.rows mid) x
      → Asks (by_keeper f) Steps (world s mid) new (scan_of x) steps Say → IsScanned x (f.rows mid) steps (said_texts (f.said new.desk)) (f.rows new.desk)
  scan_told x mid s new [] waits may asks = absurd (no_step (scan_of x) (inl (sym asks.0)) tt)
  scan_told x mid s new (d ∷ rest) waits may asks =
      let goes : Scanned f x.claim asks.2.turn.reply mid asks.1 asks.0.desk = subst (λ (t : Answer). GoesOn f t asks.2.turn.reply mid asks.1 asks.0.desk) waits asks.2.goes in
      let row = may.only goes.row goes.is in
      let here : IsHere (f.rows mid) x = record { first = may.first; here = goes.is ∙ ap (λ (y : ClaimRow). Some y) row } in
      let reply : d.reply ≡ asks.2.turn.reply = told s asks.0.scene d asks.2.turn asks.2.did in
      let event : d.event ≡ ev.ScanHex (scan_number x.claim) x.mark = sym (ap (λ (n : Next). step_event d.event n) asks.2.asks) in
      by_reply goes row here reply event goes.did
    where
      by_reply : (goes : Scanned f x.claim asks.2.turn.reply mid asks.1 asks.0.desk) → goes.row ≡ x → IsHere (f.rows mid) x → d.reply ≡ asks.2.turn.reply → d.event ≡ ev.ScanHex (scan_number x.claim) x.mark
          → ((IsAccepted asks.2.turn.reply × Credited f goes.row mid asks.1 asks.0.desk) ⊎ ((IsAccepted asks.2.turn.reply → ⊥) × Says f (answers.Scan asks.2.turn.reply) mid asks.1 asks.0.desk))
          → IsScanned x (f.rows mid) (d ∷ rest) (said_texts (f.said new.desk)) (f.rows new.desk)
      by_reply goes row here reply event (inl did) =
          let out = credited_now goes.row did.1.mark did.1.is mid asks.0 new asks.1 rest asks.3 (keeps.tries (as_credited goes.row) (answers.Credited goes.row.claim did.1.mark false) Say mid asks.1 asks.0.desk did.1.tries) in
          record {
            claim = here;
            scan = d;
            only = ap (λ (l : List StepRecord). d ∷ l) out.0;
            event = event;
            did = inl (accepted_by d.reply asks.2.turn.reply reply did.0, subst (λ (y : ClaimRow). IsCreditedNow y (f.rows mid) (said_texts (f.said new.desk)) (f.rows new.desk)) row out.1);
          }
      by_reply goes row here reply event (inr did) =
          let end = ends_at (by_keeper f) Steps asks.0 new asks.1 rest Say asks.3 (inl did.1.ends) in
          record {
            claim = here;
            scan = d;
            only = ap (λ (l : List StepRecord). d ∷ l) end.0;
            event = event;
            did = inr (
              λ is. did.0 (accepted_by asks.2.turn.reply d.reply (sym reply) is),
              texts_by new asks.0 end.2 (answers.Scan asks.2.turn.reply) did.1.answers ∙ ap (λ (r : Reply). text_of r ∷ []) (sym reply),
              rows_by new asks.0 end.2 (f.rows mid) (keeps.rests mid asks.0.desk did.1.rests),
            );
          }

  -- where the run ends in it
  cut_now : (x : ClaimRow) (mark : Mark) (mid : S) (m new : World B S) (more : Next) (rest : List StepRecord) → Asks (by_keeper f) Steps m new more rest Stop
      → CameOut (as_credited x) (answers.Credited x.claim mark false) Say (f.rows mid) (f.rows m.desk) (f.said m.desk) more → (rest ≡ []) × (f.rows new.desk ≡ f.rows mid)
  cut_now x mark mid m new more rest asks (Done_ fresh now next after) =
      let end = ends_at (by_keeper f) Steps m new more rest Stop asks (inl next) in absurd (no_say Stop refl (sym (end.1 ∙ next)))
  cut_now x mark mid m new more rest asks (Worn_ worn now next after) =
      let end = ends_at (by_keeper f) Steps m new more rest Stop asks (inl next) in absurd (no_say Stop refl (sym (end.1 ∙ next)))
  cut_now x mark mid m new more rest asks (Broke next after) =
      let end = ends_at (by_keeper f) Steps m new more rest Stop asks (inr next) in (end.0, rows_by new m end.2 (f.rows mid) after)

  pub scan_cut : (x : ClaimRow) (mid : S) (s : B) (new : World B S) (steps : List StepRecord) → f.said mid ≡ answers.Scanning x.claim → MayScan (f.rows mid) x
      → Asks (by_keeper f) Steps (world s mid) new (scan_of x) steps Stop → IsCutCredit x (f.rows mid) steps × (f.rows new.desk ≡ f.rows mid)
  scan_cut x mid s new [] waits may asks = absurd (no_step (scan_of x) (inr (sym asks.0)) tt)
  scan_cut x mid s new (d ∷ rest) waits may asks =
      let goes : Scanned f x.claim asks.2.turn.reply mid asks.1 asks.0.desk = subst (λ (t : Answer). GoesOn f t asks.2.turn.reply mid asks.1 asks.0.desk) waits asks.2.goes in
      let here : IsHere (f.rows mid) x = record { first = may.first; here = goes.is ∙ ap (λ (y : ClaimRow). Some y) (may.only goes.row goes.is) } in
      let reply : d.reply ≡ asks.2.turn.reply = told s asks.0.scene d asks.2.turn asks.2.did in
      let event : d.event ≡ ev.ScanHex (scan_number x.claim) x.mark = sym (ap (λ (n : Next). step_event d.event n) asks.2.asks) in
      by_reply goes here reply event goes.did
    where
      by_reply : (goes : Scanned f x.claim asks.2.turn.reply mid asks.1 asks.0.desk) → IsHere (f.rows mid) x → d.reply ≡ asks.2.turn.reply → d.event ≡ ev.ScanHex (scan_number x.claim) x.mark
          → ((IsAccepted asks.2.turn.reply × Credited f goes.row mid asks.1 asks.0.desk) ⊎ ((IsAccepted asks.2.turn.reply → ⊥) × Says f (answers.Scan asks.2.turn.reply) mid asks.1 asks.0.desk))
          → IsCutCredit x (f.rows mid) (d ∷ rest) × (f.rows new.desk ≡ f.rows mid)
      by_reply goes here reply event (inl did) =
          let out = cut_now goes.row did.1.mark mid asks.0 new asks.1 rest asks.3 (keeps.tries (as_credited goes.row) (answers.Credited goes.row.claim did.1.mark false) Say mid asks.1 asks.0.desk did.1.tries) in
          (record { claim = here; scan = d; only = ap (λ (l : List StepRecord). d ∷ l) out.0; event = event; accepted = accepted_by d.reply asks.2.turn.reply reply did.0 }, out.1)
      by_reply goes here reply event (inr did) =
          let end = ends_at (by_keeper f) Steps asks.0 new asks.1 rest Stop asks.3 (inl did.1.ends) in absurd (no_say Stop refl (sym (end.1 ∙ did.1.ends)))

  module _ (old new : World B S) (numbers : AreNumbered (f.rows old.desk)) (first : Next) (desk : S) (steps : List StepRecord) where
    -- a claim that is kept may be scanned
    known_scan : (c : ℕ) (x : ClaimRow) → 1 ≤ c → kept (f.rows old.desk) c ≡ Some x → Scans f x old.desk first desk → MayScan (f.rows desk) x
    known_scan c x from_1 is scans = record {
      first = subst (λ (n : ℕ). 1 ≤ n) (sym (numbers c x from_1 is)) from_1;
      only = kept_only (f.rows desk) x (ap (λ (r : Claims). kept r x.claim) (keeps.rests old.desk desk scans.rests) ∙ scans.here);
    }

    -- and so may a new one, once it is committed as open
    new_scan : (c w : ℕ) (mark : List ℕ) → 1 ≤ c → f.rows desk ≡ put (f.rows old.desk) (c - 1) (row_for c w mark) → MayScan (f.rows desk) (row_for c w mark)
    new_scan c w mark from_1 after =
        subst (λ (r : Claims). MayScan r (row_for c w mark)) (sym after) (record { first = from_1; only = put_only (f.rows old.desk) (row_for c w mark) })

    -- == to its answer ==

    module _ (asks : Asks (by_keeper f) Steps (world old.scene desk) new first steps Say) where
      scans_told : (x : ClaimRow) → MayScan (f.rows desk) x → Scans f x old.desk first desk → IsScanned x (f.rows old.desk) steps (said_texts (f.said new.desk)) (f.rows new.desk)
      scans_told x may scans =
          let rows = keeps.rests old.desk desk scans.rests in
          subst (λ (r : Claims). IsScanned x r steps (said_texts (f.said new.desk)) (f.rows new.desk)) rows
          (scan_told x desk old.scene new steps scans.waits may (subst (λ (n : Next). Asks (by_keeper f) Steps (world old.scene desk) new n steps Say) scans.asks asks))

      again_told : (c : ℕ) (x : ClaimRow) → Repeats f c x old.desk first desk → IsAgain c x (f.rows old.desk) steps (said_texts (f.said new.desk)) (f.rows new.desk)
      again_told c x again = record {
        mark = again.mark;
        is = again.is;
        told = says_told (answers.Credited c again.mark true) (credited_text c again.mark true) refl old first desk new steps again.says asks;
      }

      new_told : (c w : ℕ) (mark : List ℕ) → 1 ≤ c → CameOut (row_for c w mark) (answers.Scanning c) (scan_of (row_for c w mark)) (f.rows old.desk) (f.rows desk) (f.said desk) first
          → IsNewTold c w mark (f.rows old.desk) steps (said_texts (f.said new.desk)) (f.rows new.desk)
      new_told c w mark from_1 (Done_ fresh now next after) =
          inr (
            fresh,
            subst (λ (r : Claims). IsScanned (row_for c w mark) r steps (said_texts (f.said new.desk)) (f.rows new.desk)) after
                (scan_told (row_for c w mark) desk old.scene new steps now (new_scan c w mark from_1 after) (subst (λ (n : Next). Asks (by_keeper f) Steps (world old.scene desk) new n steps Say) next asks)),
          )
      new_told c w mark from_1 (Worn_ worn now next after) =
          let end = ends_at (by_keeper f) Steps (world old.scene desk) new first steps Say asks (inl next) in
          inl (worn, record { none = end.0; texts_are = texts_by new (world old.scene desk) end.2 answers.Worn now; rests = rows_by new (world old.scene desk) end.2 (f.rows old.desk) after })
      new_told c w mark from_1 (Broke next after) =
          let end = ends_at (by_keeper f) Steps (world old.scene desk) new first steps Say asks (inr next) in
          absurd (no_say first next end.1)

      claim_told : (o : Option ClaimRow) (c w : ℕ) (mark : List ℕ) → 1 ≤ c → kept (f.rows old.desk) c ≡ o → ByKept f o c w mark old.desk first desk → IsClaimTold o c w mark (f.rows old.desk) steps (said_texts (f.said new.desk)) (f.rows new.desk)
      claim_told (Some x) c w mark from_1 is (inl known) = inl (known.0, either_by x.credited (λ again. again_told c x again) (λ scans. scans_told x (known_scan c x from_1 is scans) scans) known.1)
      claim_told (Some x) c w mark from_1 is (inr other) = inr (other.0, says_told answers.Conflict (codes "refused claim conflict") refl old first desk new steps other.1 asks)
      claim_told None c w mark from_1 is did =
          either_by (c == last_claim (f.rows old.desk) + 1)
          (λ next. either_by (c == 1025) (λ full. says_told answers.Full (codes "refused claim full") refl old first desk new steps full asks)
          (λ tries. new_told c w mark from_1 (keeps.tries (row_for c w mark) (answers.Scanning c) (scan_of (row_for c w mark)) old.desk first desk tries)) next)
          (λ wrong. says_told (answers.WrongClaim (last_claim (f.rows old.desk))) (wrong_claim_text (last_claim (f.rows old.desk))) refl old first desk new steps wrong asks) did

      own_told : (own : ClaimLine) (line : List ℕ) → IsClaimLine own line → Begins f old.desk own first desk → IsAnswered own (f.rows old.desk) steps (said_texts (f.said new.desk)) (f.rows new.desk)
      own_told (Claim c w mark) line is begins = claim_told (kept (f.rows old.desk) c) c w mark is.0.first refl begins
      own_told (Credits w) line is begins = says_told (answers.Credits w (credits w (f.rows old.desk))) (credits_text w (credits w (f.rows old.desk))) refl old first desk new steps begins asks
      own_told Reserved line is begins = says_told answers.Reserved (codes "refused claim reserved") refl old first desk new steps begins asks

    -- == to its end by a commit that failed ==

    module _ (asks : Asks (by_keeper f) Steps (world old.scene desk) new first steps Stop) where
      says_none : (answer : Answer) → Says f answer old.desk first desk → ⊥
      says_none answer says = let end = ends_at (by_keeper f) Steps (world old.scene desk) new first steps Stop asks (inl says.ends) in no_say Stop refl (sym (end.1 ∙ says.ends))

      scans_cut : (x : ClaimRow) → MayScan (f.rows desk) x → Scans f x old.desk first desk → IsCutCredit x (f.rows old.desk) steps × (f.rows new.desk ≡ f.rows old.desk)
      scans_cut x may scans =
          let rows = keeps.rests old.desk desk scans.rests in
          subst (λ (r : Claims). IsCutCredit x r steps × (f.rows new.desk ≡ r)) rows
          (scan_cut x desk old.scene new steps scans.waits may (subst (λ (n : Next). Asks (by_keeper f) Steps (world old.scene desk) new n steps Stop) scans.asks asks))

      new_cut : (c w : ℕ) (mark : List ℕ) → 1 ≤ c → CameOut (row_for c w mark) (answers.Scanning c) (scan_of (row_for c w mark)) (f.rows old.desk) (f.rows desk) (f.said desk) first
          → IsNewCut (row_for c w mark) (f.rows old.desk) steps (f.rows new.desk)
      new_cut c w mark from_1 (Done_ fresh now next after) =
          let cut = scan_cut (row_for c w mark) desk old.scene new steps now (new_scan c w mark from_1 after) (subst (λ (n : Next). Asks (by_keeper f) Steps (world old.scene desk) new n steps Stop) next asks) in
          inr (subst (λ (r : Claims). IsCutCredit (row_for c w mark) r steps) (sym cut.1) cut.0, cut.1 ∙ after)
      new_cut c w mark from_1 (Worn_ worn now next after) =
          let end = ends_at (by_keeper f) Steps (world old.scene desk) new first steps Stop asks (inl next) in
          absurd (no_say Stop refl (sym (end.1 ∙ next)))
      new_cut c w mark from_1 (Broke next after) =
          let end = ends_at (by_keeper f) Steps (world old.scene desk) new first steps Stop asks (inr next) in
          inl (end.0, rows_by new (world old.scene desk) end.2 (f.rows old.desk) after)

      claim_cut : (o : Option ClaimRow) (c w : ℕ) (mark : List ℕ) → 1 ≤ c → kept (f.rows old.desk) c ≡ o → ByKept f o c w mark old.desk first desk → IsClaimCut o c w mark (f.rows old.desk) steps (f.rows new.desk)
      claim_cut (Some x) c w mark from_1 is (inl known) =
          (known.0, either_by x.credited (λ again. says_none (answers.Credited c again.mark true) again.says) (λ scans. scans_cut x (known_scan c x from_1 is scans) scans) known.1)
      claim_cut (Some x) c w mark from_1 is (inr other) = absurd (says_none answers.Conflict other.1)
      claim_cut None c w mark from_1 is did =
          either_by (c == last_claim (f.rows old.desk) + 1)
          (λ next. either_by (c == 1025) (λ full. says_none answers.Full full)
          (λ tries. new_cut c w mark from_1 (keeps.tries (row_for c w mark) (answers.Scanning c) (scan_of (row_for c w mark)) old.desk first desk tries)) next)
          (λ wrong. says_none (answers.WrongClaim (last_claim (f.rows old.desk))) wrong) did

      own_cut : (own : ClaimLine) (line : List ℕ) → IsClaimLine own line → Begins f old.desk own first desk → IsCutShort own (f.rows old.desk) steps (f.rows new.desk)
      own_cut (Claim c w mark) line is begins = claim_cut (kept (f.rows old.desk) c) c w mark is.0.first refl begins
      own_cut (Credits w) line is begins = says_none (answers.Credits w (credits w (f.rows old.desk))) begins
      own_cut Reserved line is begins = says_none answers.Reserved begins

  -- == each line ==

  pub all_answered : (old new : World B S) (trace : List (SideStep ClaimLine)) → AreNumbered (f.rows old.desk) → AllByRecursion (Reads (side_lines (by_keeper f))) trace
      → Does (by_keeper f) Steps old new trace → AreAnswered (f.rows old.desk) trace (f.rows new.desk)
  all_answered old new [] numbers reads did = ap (λ (w : World B S). f.rows w.desk) did
  all_answered old new (Plain (Skipped line) ∷ rest) numbers reads did =
      let same = ap (λ (w : World B S). f.rows w.desk) did.1 in
      subst (λ (r : Claims). AreAnswered r rest (f.rows new.desk)) same (all_answered did.0 new rest (subst AreNumbered (sym same) numbers) reads.1 did.2)
  all_answered old new (Plain (Did line d) ∷ rest) numbers reads did =
      let same = ap (λ (k : S). f.rows k) did.1.sees in
      (did.1.passes, subst (λ (r : Claims). AreAnswered r rest (f.rows new.desk)) same (all_answered did.0 new rest (subst AreNumbered (sym same) numbers) reads.1 did.2))
  all_answered old new (Own line own steps texts ∷ rest) numbers reads did =
      let answered = subst (λ (t : List (List ℕ)). IsAnswered own (f.rows old.desk) steps t (f.rows did.0.desk)) (sym did.1.answer)
      (own_told old did.0 numbers did.1.did.first did.1.did.desk steps did.1.did.asks own line reads.0.is did.1.did.begins) in
      (f.rows did.0.desk, answered, all_answered did.0 new rest (told_numbers (f.rows old.desk) numbers steps (f.rows did.0.desk) own texts answered) reads.1 did.2)
  all_answered old new (Broken line own steps ∷ rest) numbers reads did =
      let cut = own_cut old did.0 numbers did.1.first did.1.desk steps did.1.asks own line reads.0.is did.1.begins in
      (f.rows did.0.desk, cut, all_answered did.0 new rest (cut_numbers (f.rows old.desk) numbers steps (f.rows did.0.desk) own cut) reads.1 did.2)
