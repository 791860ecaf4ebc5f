-- What the departments and the bench did for a line is its answer, whoever keeps the quotas and jobs.
use Rattle.std.proofs.Common.{◌≡◌, inl, inr, ℕ, ◌+◌, ◌-◌, List, [], ◌∷◌, Option, Some, None, Bool, true, false, refl, sym, ap, ◌∙◌, subst}
use Rattle.std.specs.Prelude.{codes, nat_lt}
use Rattle.std.proofs.lemmas.Option.{same_Some}
use Rattle.bench_base.specs.declared.events.Event.TheVariants as ev
use Rattle.node_acts.specs.RowList.{put}
use Rattle.node_turns.specs.Turns.{sent_in}
use Rattle.node_turns.specs.declared.turn.Turn.{Turn}
use Rattle.line_extensions.specs.Trace.{StepRecord, Skipped, Did}
use Rattle.line_extensions.specs.Desks.{World, world, Asks, Does}
use Rattle.line_extensions.specs.SideTrace.{SideStep, Plain, Own, Broken}
use Rattle.line_extensions.specs.declared.{extension.Next.Next, extension.Next.TheVariants.Step, extension.Next.TheVariants.Say, extension.Next.TheVariants.Stop}
use Rattle.line_extensions.specs.Stops.{HasBroken}
use Rattle.line_extensions.proofs.Lines.{BrokenLast}
use Rattle.host_departments.specs.Answers.{Asked, Answered, IsTold, IsCommitted, IsTakenIn, IsLimited, IsSent, IsAssignTold, ByQuota, IsAnswered, CellCommit, IsCutJob, AreDone, IsOwnTold, IsOwnCut, AreAnswered}
use Rattle.host_departments.specs.Heard.{IsTaken}
use Rattle.host_departments.specs.ByKeeper.{by_keeper}
use Rattle.host_departments.specs.Moves.{Either, Keeper, Says, Sends, Assigns, AssignsBy, SpentBy, Begins, Takes, TakesBy, Hears, GoesOn}
use Rattle.host_departments.specs.DepartmentLines.{IsLine}
use Rattle.host_departments.specs.Rows.{Rows, quota, spent, first_cell}
use Rattle.host_departments.specs.Texts.{said_texts, numbered, quota_text, assigned_text, again_text, spent_text}
use Rattle.host_departments.specs.declared.{row.DepartmentLine.DepartmentLine, row.DepartmentLine.TheVariants.Quota, row.DepartmentLine.TheVariants.Assign, row.DepartmentLine.TheVariants.Spent, row.DepartmentLine.TheVariants.Print, row.DepartmentRow.DepartmentRow, answer.Answer.Answer}
use Rattle.host_departments.specs.declared.row.DepartmentRow.TheVariants as row
use Rattle.host_departments.specs.declared.answer.Answer.TheVariants as answers
use Rattle.line_extensions.proofs.Wanting.{no_step, no_say, step_event, ends_at}
use Rattle.host_departments.proofs.Tracking.{CameOut, EndSo, Tracks}

abbrev commit_of : ℕ → DepartmentRow → CellCommit
commit_of k x = record { cell = k; kept = x }

module _ {S : Type 0} (keep : Keeper S) (tracks : Tracks keep) where
  module _ {B : Type 0} (Steps : B → B → StepRecord → Turn → Type 0) where
    module _ (new m : World B S) (same : new ≡ m) where
      desk_is : new.desk ≡ m.desk
      desk_is = ap (λ (w : World B S). w.desk) same

      texts_by : (answer : Answer) → keep.said m.desk ≡ answer → said_texts (keep.said new.desk) ≡ said_texts answer
      texts_by answer is = ap (λ (s : S). said_texts (keep.said s)) desk_is ∙ ap (λ (s : Answer). said_texts s) is

      rows_by : (rows : Rows) → keep.rows m.desk ≡ rows → keep.rows new.desk ≡ rows
      rows_by rows is = ap (λ (s : S). keep.rows s) desk_is ∙ is

    -- the answer that an extension shows, to what was asked
    abbrev answer_of : List Asked → S → Answered
    answer_of asked desk = record { asked = asked; texts = said_texts (keep.said desk); after = keep.rows desk }

    -- no more was done
    abbrev Rest : List StepRecord → World B S → World B S → Type 0
    Rest rest m new = (rest ≡ []) × (new ≡ m)

    -- nothing was asked
    unasked_done : (s : B) (desk : S) (steps : List StepRecord) (new : World B S) → Rest steps (world s desk) new → AreDone Steps s steps [] new.scene
    unasked_done s desk steps new rest = subst (λ (l : List StepRecord). AreDone Steps s l [] new.scene) (sym rest.0) (ap (λ (w : World B S). w.scene) rest.1)

    -- the one step was done
    asked_done : (s : B) (d : StepRecord) (j : ℕ) (turn : Turn) (rest : List StepRecord) (m new : World B S) → d.event ≡ ev.Send j → Steps s m.scene d turn → Rest rest m new
        → AreDone Steps s (d ∷ rest) (record { event = ev.Send j; turn = turn } ∷ []) new.scene
    asked_done s d j turn rest m new event did is =
        (m.scene, event, did, subst (λ (l : List StepRecord). AreDone Steps m.scene l [] new.scene) (sym is.0) (ap (λ (w : World B S). w.scene) is.1))

    -- and the departments went on from these
    abbrev Ended : S → List StepRecord → World B S → World B S → Type 0
    Ended from rest m new = Rest rest m new × tracks.Went from new.desk

    ended : (from : S) (rest : List StepRecord) (m new : World B S) → Rest rest m new → tracks.Went from m.desk → Ended from rest m new
    ended from rest m new is went = (is, subst (λ (w : World B S). tracks.Went from w.desk) (sym is.1) went)

    says_ended : (answer : Answer) (from : S) (m new : World B S) (more : Next) (rest : List StepRecord) → Asks (by_keeper keep) Steps m new more rest Say → Says keep answer from more m.desk → Ended from rest m new
    says_ended answer from m new more rest asks says =
        let end = ends_at (by_keeper keep) Steps m new more rest Say asks (inl says.ends) in ended from rest m new (end.0, end.2) (tracks.rests_went from m.desk says.rests)

    -- the commit came out
    committed : (k : ℕ) (x : DepartmentRow) (meant : Answer) (text : List ℕ) → said_texts meant ≡ text ∷ [] → (from : S) (m new : World B S) (more : Next) (rest : List StepRecord)
        → (asked : List Asked) → Asks (by_keeper keep) Steps m new more rest Say → CameOut keep tracks.Went tracks.Failed k x meant from more m.desk → Ended from rest m new × IsCommitted k x text (keep.rows from) (answer_of asked new.desk)
    committed k x meant text texts from m new more rest asked asks (inl (next, went, inl (fresh, now, after))) =
        let end = ends_at (by_keeper keep) Steps m new more rest Say asks (inl next) in
        (ended from rest m new (end.0, end.2) went, inr (fresh, texts_by new m end.2 meant now ∙ texts, rows_by new m end.2 (put (keep.rows from) k x) after))
    committed k x meant text texts from m new more rest asked asks (inl (next, went, inr (worn, now, after))) =
        let end = ends_at (by_keeper keep) Steps m new more rest Say asks (inl next) in
        (ended from rest m new (end.0, end.2) went, inl (worn, texts_by new m end.2 answers.Worn now, rows_by new m end.2 (keep.rows from) after))
    committed k x meant text texts from m new more rest asked asks (inr (next, failed, after)) =
        let end = ends_at (by_keeper keep) Steps m new more rest Say asks (inr next) in absurd (no_say more next end.1)

    -- the commit broke off
    cut_off : (k : ℕ) (x : DepartmentRow) (meant : Answer) (from : S) (m new : World B S) (more : Next) (rest : List StepRecord)
        → Asks (by_keeper keep) Steps m new more rest Stop → CameOut keep tracks.Went tracks.Failed k x meant from more m.desk → Rest rest m new × (keep.rows new.desk ≡ keep.rows from) × tracks.Failed (commit_of k x) from new.desk
    cut_off k x meant from m new more rest asks (inl (next, went, out)) =
        let end = ends_at (by_keeper keep) Steps m new more rest Stop asks (inl next) in absurd (no_say Stop refl (sym (end.1 ∙ next)))
    cut_off k x meant from m new more rest asks (inr (next, failed, after)) =
        let end = ends_at (by_keeper keep) Steps m new more rest Stop asks (inr next) in
        ((end.0, end.2), rows_by new m end.2 (keep.rows from) after, subst (λ (w : World B S). tracks.Failed (commit_of k x) from w.desk) (sym end.2) failed)

    -- == after the message ==

    module _ (d j q : ℕ) (mid : S) (limit : quota (keep.rows mid) d ≡ Some q) (m new : World B S) (more : Next) (rest : List StepRecord) (asked : List Asked) where
      -- to its answer
      module _ (asks : Asks (by_keeper keep) Steps m new more rest Say) where
        took : (p left : ℕ) → TakesBy keep d j p left mid more m.desk → Ended mid rest m new × IsLimited d j p left (keep.rows mid) (answer_of asked new.desk)
        took p left did = by_test (nat_lt left p) did
          where
            by_test : (b : Bool) → Either b (Says keep (answers.OverQuota left) mid more m.desk) (Takes keep d j p left mid more m.desk)
                → Ended mid rest m new × Either b ((said_texts (keep.said new.desk) ≡ numbered (codes "refused dept quota") left ∷ []) × (keep.rows new.desk ≡ keep.rows mid)) (IsTakenIn d j p left (keep.rows mid) (answer_of asked new.desk))
            by_test true says =
                let end = ends_at (by_keeper keep) Steps m new more rest Say asks (inl says.ends) in
                (says_ended (answers.OverQuota left) mid m new more rest asks says, (texts_by new m end.2 (answers.OverQuota left) says.answers, rows_by new m end.2 (keep.rows mid) (tracks.rests_rows mid m.desk says.rests)))
            by_test false takes =
                let out = committed (first_cell d + takes.place) (row.Job j p) (answers.Assigned j d (left - p)) (assigned_text j d (left - p)) refl mid m new more rest asked asks
                (tracks.tried (first_cell d + takes.place) (row.Job j p) (answers.Assigned j d (left - p)) mid more m.desk takes.tries) in
                (out.0, record { place = takes.place; jobs = takes.jobs; room = takes.room; is = out.1 })

        heard : (turn : Turn) → Hears keep d j turn.reply (sent_in turn.entries) mid more m.desk → asked ≡ record { event = ev.Send j; turn = turn } ∷ []
            → Ended mid rest m new × IsSent d j q (keep.rows mid) (answer_of asked new.desk)
        heard turn (inl did) only =
            let same : did.2.limit ≡ q = same_Some did.2.limit q (sym did.2.is ∙ limit) in
            let out = took did.0 (q - spent (keep.rows mid) d) (subst (λ (n : ℕ). TakesBy keep d j did.0 (n - spent (keep.rows mid) d) mid more m.desk) same did.2.takes) in
            (out.0, record { turn = turn; only = only; did = inl (did.0, did.1, out.1) })
        heard turn (inr did) only =
            let end = ends_at (by_keeper keep) Steps m new more rest Say asks (inl did.1.ends) in (
              says_ended (answers.Sent turn.reply) mid m new more rest asks did.1,
              record { turn = turn; only = only; did = inr (did.0, texts_by new m end.2 (answers.Sent turn.reply) did.1.answers, rows_by new m end.2 (keep.rows mid) (tracks.rests_rows mid m.desk did.1.rests)) },
            )

      -- to its end by a commit that failed
      module _ (asks : Asks (by_keeper keep) Steps m new more rest Stop) where
        not_said : (answer : Answer) → Says keep answer mid more m.desk → ⊥
        not_said answer says = let end = ends_at (by_keeper keep) Steps m new more rest Stop asks (inl says.ends) in no_say Stop refl (sym (end.1 ∙ says.ends))

        abbrev IsCutHere : Type 0
        IsCutHere = Rest rest m new × (keep.rows new.desk ≡ keep.rows mid) × (c : CellCommit) × tracks.Failed c mid new.desk × IsCutJob d j q (keep.rows mid) asked c

        took_none : (turn : Turn) → asked ≡ record { event = ev.Send j; turn = turn } ∷ [] → (p : ℕ) → IsTaken j turn.reply (sent_in turn.entries) p → (b : Bool) → nat_lt (q - spent (keep.rows mid) d) p ≡ b
            → Either b (Says keep (answers.OverQuota (q - spent (keep.rows mid) d)) mid more m.desk) (Takes keep d j p (q - spent (keep.rows mid) d) mid more m.desk) → IsCutHere
        took_none turn only p taken true is says = absurd (not_said (answers.OverQuota (q - spent (keep.rows mid) d)) says)
        took_none turn only p taken false is takes =
            let left = q - spent (keep.rows mid) d in
            let out = cut_off (first_cell d + takes.place) (row.Job j p) (answers.Assigned j d (left - p)) mid m new more rest asks
            (tracks.tried (first_cell d + takes.place) (row.Job j p) (answers.Assigned j d (left - p)) mid more m.desk takes.tries) in (
              out.0,
              out.1,
              commit_of (first_cell d + takes.place) (row.Job j p),
              out.2,
              record { turn = turn; only = only; postage = p; taken = taken; fits = is; place = takes.place; jobs = takes.jobs; room = takes.room; cell = refl; kept = refl },
            )

        heard_none : (turn : Turn) → asked ≡ record { event = ev.Send j; turn = turn } ∷ [] → Hears keep d j turn.reply (sent_in turn.entries) mid more m.desk → IsCutHere
        heard_none turn only (inl did) =
            let same : did.2.limit ≡ q = same_Some did.2.limit q (sym did.2.is ∙ limit) in
            took_none turn only did.0 did.1 (nat_lt (q - spent (keep.rows mid) d) did.0) refl (subst (λ (n : ℕ). TakesBy keep d j did.0 (n - spent (keep.rows mid) d) mid more m.desk) same did.2.takes)
        heard_none turn only (inr did) = absurd (not_said (answers.Sent turn.reply) did.1)

    -- the message of a job was asked for
    sent_told : (d j q : ℕ) (mid : S) → quota (keep.rows mid) d ≡ Some q → keep.said mid ≡ answers.Sending d j → (s : B) (new : World B S) (steps : List StepRecord)
        → Asks (by_keeper keep) Steps (world s mid) new (Step (ev.Send j)) steps Say
        → (asked : List Asked) × AreDone Steps s steps asked new.scene × tracks.Went mid new.desk × IsSent d j q (keep.rows mid) (answer_of asked new.desk)
    sent_told d j q mid limit waits s new [] asks = absurd (no_step (Step (ev.Send j)) (inl (sym asks.0)) tt)
    sent_told d j q mid limit waits s new (x ∷ rest) asks =
        let turn = asks.2.turn in
        let hears : Hears keep d j turn.reply (sent_in turn.entries) mid asks.1 asks.0.desk = subst (λ (t : Answer). GoesOn keep t turn.reply (sent_in turn.entries) mid asks.1 asks.0.desk) waits asks.2.goes in
        let event : x.event ≡ ev.Send j = sym (ap (λ (n : Next). step_event x.event n) asks.2.asks) in
        let out = heard d j q mid limit asks.0 new asks.1 rest (record { event = ev.Send j; turn = turn } ∷ []) asks.3 turn hears refl in
        (record { event = ev.Send j; turn = turn } ∷ [], asked_done s x j turn rest asks.0 new event asks.2.did out.0.0, out.0.1, out.1)

    sent_cut : (d j q : ℕ) (mid : S) → quota (keep.rows mid) d ≡ Some q → keep.said mid ≡ answers.Sending d j → (s : B) (new : World B S) (steps : List StepRecord)
        → Asks (by_keeper keep) Steps (world s mid) new (Step (ev.Send j)) steps Stop
        → (keep.rows new.desk ≡ keep.rows mid) × (asked : List Asked) × AreDone Steps s steps asked new.scene × (c : CellCommit) × tracks.Failed c mid new.desk × IsCutJob d j q (keep.rows mid) asked c
    sent_cut d j q mid limit waits s new [] asks = absurd (no_step (Step (ev.Send j)) (inr (sym asks.0)) tt)
    sent_cut d j q mid limit waits s new (x ∷ rest) asks =
        let turn = asks.2.turn in
        let hears : Hears keep d j turn.reply (sent_in turn.entries) mid asks.1 asks.0.desk = subst (λ (t : Answer). GoesOn keep t turn.reply (sent_in turn.entries) mid asks.1 asks.0.desk) waits asks.2.goes in
        let event : x.event ≡ ev.Send j = sym (ap (λ (n : Next). step_event x.event n) asks.2.asks) in
        let out = heard_none d j q mid limit asks.0 new asks.1 rest (record { event = ev.Send j; turn = turn } ∷ []) asks.3 turn refl hears in
        (out.1, record { event = ev.Send j; turn = turn } ∷ [], asked_done s x j turn rest asks.0 new event asks.2.did out.0, out.2, out.3, out.4)

    module _ (old new : World B S) (first : Next) (desk : S) (steps : List StepRecord) where
      -- == to its answer ==

      module _ (asks : Asks (by_keeper keep) Steps (world old.scene desk) new first steps Say) where
        abbrev IsOwn : DepartmentLine → Type 0
        IsOwn own = IsOwnTold Steps own (keep.rows old.desk) old.scene steps (said_texts (keep.said new.desk)) new.scene (keep.rows new.desk)

        abbrev shown : Answered
        shown = answer_of [] new.desk

        -- nothing was asked, and this was answered
        unasked : (own : DepartmentLine) → IsLine own → Ended old.desk steps (world old.scene desk) new → IsAnswered own (keep.rows old.desk) shown → IsOwn own × tracks.Went old.desk new.desk
        unasked own line end answered = (record { line = line; asked = []; done = unasked_done old.scene desk steps new end.0; answered = answered }, end.1)

        -- where it says its answer at once
        says_told : (answer : Answer) (text : List ℕ) → said_texts answer ≡ text ∷ [] → Says keep answer old.desk first desk → Ended old.desk steps (world old.scene desk) new × IsTold text (keep.rows old.desk) shown
        says_told answer text texts says =
            let end = ends_at (by_keeper keep) Steps (world old.scene desk) new first steps Say asks (inl says.ends) in (
              says_ended answer old.desk (world old.scene desk) new first steps asks says,
              record {
                none = refl;
                texts = texts_by new (world old.scene desk) end.2 answer says.answers ∙ texts;
                rests = rows_by new (world old.scene desk) end.2 (keep.rows old.desk) (tracks.rests_rows old.desk desk says.rests);
              },
            )

        quota_told : (d q : ℕ) (b : Bool) → Either b (Says keep (answers.Below (spent (keep.rows old.desk) d)) old.desk first desk) (keep.Tries (d - 1) (row.Quota q) (answers.Quota d q) old.desk first desk)
            → Ended old.desk steps (world old.scene desk) new × Either b (IsTold (numbered (codes "refused dept below spent") (spent (keep.rows old.desk) d)) (keep.rows old.desk) shown)
            ((shown.asked ≡ []) × IsCommitted (d - 1) (row.Quota q) (quota_text d q) (keep.rows old.desk) shown)
        quota_told d q true says = says_told (answers.Below (spent (keep.rows old.desk) d)) (numbered (codes "refused dept below spent") (spent (keep.rows old.desk) d)) refl says
        quota_told d q false tries =
            let out = committed (d - 1) (row.Quota q) (answers.Quota d q) (quota_text d q) refl old.desk (world old.scene desk) new first steps [] asks
            (tracks.tried (d - 1) (row.Quota q) (answers.Quota d q) old.desk first desk tries) in
            (out.0, (refl, out.1))

        -- the message of a job
        sends_told : (d j q : ℕ) → quota (keep.rows old.desk) d ≡ Some q → Sends keep d j old.desk first desk
            → (asked : List Asked) × AreDone Steps old.scene steps asked new.scene × tracks.Went old.desk new.desk × IsSent d j q (keep.rows old.desk) (answer_of asked new.desk)
        sends_told d j q limit sends =
            let rows = tracks.rests_rows old.desk desk sends.rests in
            let out = sent_told d j q desk (ap (λ (r : Rows). quota r d) rows ∙ limit) sends.waits old.scene new steps
            (subst (λ (n : Next). Asks (by_keeper keep) Steps (world old.scene desk) new n steps Say) sends.asks asks) in
            (out.0, out.1, tracks.went_on old.desk desk new.desk (tracks.rests_went old.desk desk sends.rests) out.2, subst (λ (r : Rows). IsSent d j q r (answer_of out.0 new.desk)) rows out.3)

        assigns_told : (d j q : ℕ) → quota (keep.rows old.desk) d ≡ Some q → Assigns keep d j old.desk first desk
            → (asked : List Asked) × AreDone Steps old.scene steps asked new.scene × tracks.Went old.desk new.desk × IsAssignTold d j q (keep.rows old.desk) (answer_of asked new.desk)
        assigns_told d j q limit (inl again) =
            let out = says_told (answers.Again j d) (again_text j d) refl again.1 in
            ([], unasked_done old.scene desk steps new out.0.0, out.0.1, inl (again.0, out.1))
        assigns_told d j q limit (inr (not_here, inl taken)) =
            let out = says_told (answers.Taken j) (numbered (codes "refused dept assigned") j) refl taken.1 in
            ([], unasked_done old.scene desk steps new out.0.0, out.0.1, inr (not_here, inl (taken.0, out.1)))
        assigns_told d j q limit (inr (not_here, inr (not_there, inl full))) =
            let out = says_told answers.Full (codes "refused dept full") refl full.1 in
            ([], unasked_done old.scene desk steps new out.0.0, out.0.1, inr (not_here, inr (not_there, inl (full.0, out.1))))
        assigns_told d j q limit (inr (not_here, inr (not_there, inr room))) =
            let out = sends_told d j q limit room.1 in
            (out.0, out.1, out.2, inr (not_here, inr (not_there, inr (room.0, out.3))))

        assign_told : (d j : ℕ) (o : Option ℕ) → quota (keep.rows old.desk) d ≡ o → AssignsBy keep o d j old.desk first desk
            → (asked : List Asked) × AreDone Steps old.scene steps asked new.scene × tracks.Went old.desk new.desk × ByQuota o d (keep.rows old.desk) (λ q x. IsAssignTold d j q (keep.rows old.desk) x) (answer_of asked new.desk)
        assign_told d j None limit says =
            let out = says_told (answers.Unknown d) (numbered (codes "refused dept unknown") d) refl says in
            ([], unasked_done old.scene desk steps new out.0.0, out.0.1, out.1)
        assign_told d j (Some q) limit assigns = assigns_told d j q limit assigns

        spent_told : (d : ℕ) (o : Option ℕ) → SpentBy keep o d old.desk first desk
            → Ended old.desk steps (world old.scene desk) new × ByQuota o d (keep.rows old.desk) (λ q x. IsTold (spent_text d (spent (keep.rows old.desk) d) q) (keep.rows old.desk) x) shown
        spent_told d None says = says_told (answers.Unknown d) (numbered (codes "refused dept unknown") d) refl says
        spent_told d (Some q) says = says_told (answers.Spent d (spent (keep.rows old.desk) d) q) (spent_text d (spent (keep.rows old.desk) d) q) refl says

        own_told : (own : DepartmentLine) → IsLine own → Begins keep old.desk own first desk → IsOwn own × tracks.Went old.desk new.desk
        own_told (Quota d q) line begins = let out = quota_told d q (nat_lt q (spent (keep.rows old.desk) d)) begins in unasked (Quota d q) line out.0 out.1
        own_told (Assign d j) line begins =
            let out = assign_told d j (quota (keep.rows old.desk) d) refl begins in (record { line = line; asked = out.0; done = out.1; answered = out.3 }, out.2)
        own_told (Spent d) line begins = let out = spent_told d (quota (keep.rows old.desk) d) begins in unasked (Spent d) line out.0 out.1
        own_told (Print j) line begins =
            let out = says_told (answers.Unassigned j) (numbered (codes "refused dept unassigned") j) refl begins.1 in
            unasked (Print j) line out.0 (begins.0, out.1)

      -- == to its end by a commit that failed ==

      module _ (asks : Asks (by_keeper keep) Steps (world old.scene desk) new first steps Stop) where
        says_none : (answer : Answer) → Says keep answer old.desk first desk → ⊥
        says_none answer says = let end = ends_at (by_keeper keep) Steps (world old.scene desk) new first steps Stop asks (inl says.ends) in no_say Stop refl (sym (end.1 ∙ says.ends))

        abbrev IsCut : DepartmentLine → Type 0
        IsCut own = (keep.rows new.desk ≡ keep.rows old.desk) × (c : CellCommit) × tracks.Failed c old.desk new.desk × IsOwnCut Steps own (keep.rows old.desk) old.scene steps new.scene c

        quota_cut : (d q : ℕ) → IsLine (Quota d q) → (b : Bool) → nat_lt q (spent (keep.rows old.desk) d) ≡ b
            → Either b (Says keep (answers.Below (spent (keep.rows old.desk) d)) old.desk first desk) (keep.Tries (d - 1) (row.Quota q) (answers.Quota d q) old.desk first desk) → IsCut (Quota d q)
        quota_cut d q line true is says = absurd (says_none (answers.Below (spent (keep.rows old.desk) d)) says)
        quota_cut d q line false is tries =
            let out = cut_off (d - 1) (row.Quota q) (answers.Quota d q) old.desk (world old.scene desk) new first steps asks
            (tracks.tried (d - 1) (row.Quota q) (answers.Quota d q) old.desk first desk tries) in (
              out.1,
              commit_of (d - 1) (row.Quota q),
              out.2,
              record { line = line; asked = []; done = unasked_done old.scene desk steps new out.0; cut = (is, refl, refl) },
            )

        assigns_cut : (d j q : ℕ) → IsLine (Assign d j) → quota (keep.rows old.desk) d ≡ Some q → Assigns keep d j old.desk first desk → IsCut (Assign d j)
        assigns_cut d j q line limit (inl again) = absurd (says_none (answers.Again j d) again.1)
        assigns_cut d j q line limit (inr (not_here, inl taken)) = absurd (says_none (answers.Taken j) taken.1)
        assigns_cut d j q line limit (inr (not_here, inr (not_there, inl full))) = absurd (says_none answers.Full full.1)
        assigns_cut d j q line limit (inr (not_here, inr (not_there, inr room))) =
            let rows = tracks.rests_rows old.desk desk room.1.rests in
            let out = sent_cut d j q desk (ap (λ (r : Rows). quota r d) rows ∙ limit) room.1.waits old.scene new steps
            (subst (λ (n : Next). Asks (by_keeper keep) Steps (world old.scene desk) new n steps Stop) room.1.asks asks) in (
              out.0 ∙ rows,
              out.3,
              tracks.failed_later out.3 old.desk desk new.desk (tracks.rests_went old.desk desk room.1.rests) out.4,
              record { line = line; asked = out.1; done = out.2; cut = (q, limit, (not_here, not_there, room.0), subst (λ (r : Rows). IsCutJob d j q r out.1 out.3) rows out.5) },
            )

        assign_cut : (d j : ℕ) → IsLine (Assign d j) → (o : Option ℕ) → quota (keep.rows old.desk) d ≡ o → AssignsBy keep o d j old.desk first desk → IsCut (Assign d j)
        assign_cut d j line None limit says = absurd (says_none (answers.Unknown d) says)
        assign_cut d j line (Some q) limit assigns = assigns_cut d j q line limit assigns

        spent_cut : (d : ℕ) (o : Option ℕ) → SpentBy keep o d old.desk first desk → ⊥
        spent_cut d None says = says_none (answers.Unknown d) says
        spent_cut d (Some q) says = says_none (answers.Spent d (spent (keep.rows old.desk) d) q) says

        own_cut : (own : DepartmentLine) → IsLine own → Begins keep old.desk own first desk → IsCut own
        own_cut (Quota d q) line begins = quota_cut d q line (nat_lt q (spent (keep.rows old.desk) d)) refl begins
        own_cut (Assign d j) line begins = assign_cut d j line (quota (keep.rows old.desk) d) refl begins
        own_cut (Spent d) line begins = absurd (spent_cut d (quota (keep.rows old.desk) d) begins)
        own_cut (Print j) line begins = absurd (says_none (answers.Unassigned j) begins.1)

    -- == each line ==

    -- what is said of lines: each has its answer; and no commit failed, or one did in the last
    abbrev AreAll : World B S → List (SideStep DepartmentLine) → World B S → Type 0
    AreAll old trace new =
        (failed : Option CellCommit) × EndSo keep tracks.Went tracks.Failed old.desk new.desk trace failed
        × AreAnswered Steps old.scene (keep.rows old.desk) trace new.scene (keep.rows new.desk) failed

    -- with a line more, and no failure at it
    with_line : (d : SideStep DepartmentLine) (old mid new : S) (rest : List (SideStep DepartmentLine)) (failed : Option CellCommit) → (HasBroken (d ∷ rest) → HasBroken rest) → (HasBroken rest → HasBroken (d ∷ rest))
        → tracks.Went old mid → EndSo keep tracks.Went tracks.Failed mid new rest failed → EndSo keep tracks.Went tracks.Failed old new (d ∷ rest) failed
    with_line d old mid new rest failed down up went (inl (more, whole, none)) = inl (tracks.went_on old mid new went more, λ broke. whole (down broke), none)
    with_line d old mid new rest failed down up went (inr (broke, c, is, breaks)) = inr (up broke, c, is, tracks.failed_later c old mid new went breaks)

    pub all_answered : (old new : World B S) (trace : List (SideStep DepartmentLine)) → BrokenLast trace → Does (by_keeper keep) Steps old new trace → AreAll old trace new
    all_answered old new [] last did = (
      None,
      inl (tracks.went_to old.desk new.desk (ap (λ (w : World B S). w.desk) did), λ broke. broke, refl),
      (ap (λ (w : World B S). w.scene) did, ap (λ (w : World B S). keep.rows w.desk) did, refl),
    )
    all_answered old new (Plain (Skipped line) ∷ rest) last did =
        subst (λ (w : World B S). AreAll w (Plain (Skipped line) ∷ rest) new) did.1 (all_answered did.0 new rest last did.2)
    all_answered old new (Plain (Did line d) ∷ rest) last did =
        let more = all_answered did.0 new rest last did.2 in (
          more.0,
          with_line (Plain (Did line d)) old.desk did.0.desk new.desk rest more.0 (λ b. b) (λ b. b) (tracks.went_to old.desk did.0.desk did.1.sees) more.1,
          (
            did.0.scene,
            record { passes = did.1.passes; turn = did.1.turn; did = did.1.did },
            subst (λ (r : Rows). AreAnswered Steps did.0.scene r rest new.scene (keep.rows new.desk) more.0) (ap (λ (s : S). keep.rows s) did.1.sees) more.2,
          ),
        )
    all_answered old new (Own line own steps texts ∷ rest) last did =
        let more = all_answered did.0 new rest last did.2 in
        let told = own_told old did.0 did.1.did.first did.1.did.desk steps did.1.did.asks own did.1.did.begins.0 did.1.did.begins.1 in (
          more.0,
          with_line (Own line own steps texts) old.desk did.0.desk new.desk rest more.0 (λ b. b) (λ b. b) told.1 more.1,
          (
            did.0.scene,
            keep.rows did.0.desk,
            subst (λ (t : List (List ℕ)). IsOwnTold Steps own (keep.rows old.desk) old.scene steps t did.0.scene (keep.rows did.0.desk)) (sym did.1.answer) told.0,
            more.2,
          ),
        )
    all_answered old new (Broken line own steps ∷ rest) last did =
        let cut = own_cut old did.0 did.1.first did.1.desk steps did.1.asks own did.1.begins.0 did.1.begins.1 in
        let end : new ≡ did.0 = subst (λ (l : List (SideStep DepartmentLine)). Does (by_keeper keep) Steps did.0 new l) last did.2 in (
          Some cut.1,
          inr (tt, cut.1, refl, subst (λ (w : World B S). tracks.Failed cut.1 old.desk w.desk) (sym end) cut.2),
          (
            did.0.scene,
            cut.1,
            cut.3,
            refl,
            subst (λ (l : List (SideStep DepartmentLine)). AreAnswered Steps did.0.scene (keep.rows old.desk) l new.scene (keep.rows new.desk) None) (sym last)
                (ap (λ (w : World B S). w.scene) end, ap (λ (w : World B S). keep.rows w.desk) end ∙ cut.0, refl),
          ),
        )
