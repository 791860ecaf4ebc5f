-- What became of one line of an audit.
use Rattle.std.proofs.Common.{◌≡◌, ◌≢◌, ◌⊎◌, inl, inr, ℕ, ◌+◌, ◌<◌, ◌^◌, List, [], ◌∷◌, ◌++◌, flat_map, append_assoc, Option, Some, None, IfNone, IfSome, refl, sym, ap, ◌∙◌, subst}
use Rattle.std.proofs.KnownBytes.{Appends-nil, Consumes-nil}
use Rattle.std.specs.Io.KnownBytes.{Consumes, IsAtEnd}
use Rattle.std.specs.List.{AllByRecursion}
use Rattle.bench_base.specs.declared.{events.Event.Event, events.Reply.Reply}
use Rattle.bench_base.specs.declared.events.Event.TheVariants as ev
use Rattle.bench_base.specs.Events.{IsWholeEvent}
use Rattle.bench_base.specs.Ledger.{Ledger}
use Rattle.ledger_moves.specs.Tariffs.{Tariff}
use Rattle.ledger_moves.specs.Histories.{moves}
use Rattle.node_turns.specs.declared.turn.Turn.{Turn}
use Rattle.script_text.specs.Grammar.{Spells, IsSkipped}
use Rattle.script_text.specs.Texts.{text_of}
use Rattle.script_text.proofs.EachEvent.{one_event_of, no_event_skipped}
use Rattle.line_runs.specs.Lines.{IsOneLine, ended}
use Rattle.line_runs.specs.Turns.{Reported, LineEnd}
use Rattle.line_runs.specs.declared.status.Status.TheVariants as status
use Rattle.line_runs.specs.declared.{status.SideStatus.SideStatus, status.SideStatus.TheVariants.Run, status.SideStatus.TheVariants.Stopped}
use Rattle.line_extensions.specs.Trace.{StepRecord, Skipped, Did}
use Rattle.line_extensions.specs.Desks.{World, world, DidOwn}
use Rattle.line_extensions.specs.Events.{IsLineOf}
use Rattle.line_extensions.specs.SideTrace.{SideStep, Plain, Broken}
use Rattle.line_extensions.specs.SideTrace.{Own as OwnStep}
use Rattle.line_extensions.specs.Wants.{IsAlone, IsEvent}
use Rattle.line_extensions.specs.declared.{extension.Extension.Ghosts, extension.Next.Next, extension.Next.TheVariants.Say, extension.Next.TheVariants.Stop}
use Rattle.script_replay.specs.Trace.{ledger_by}
use Rattle.trace_bench.specs.Seeing.{Audit, Sees, keeps}
use Rattle.trace_runs.specs.Between.{SeesBetween}
use Rattle.trace_runs.specs.Fitting.{BeginsTold}
use Rattle.trace_runs.specs.Runs.{StopLeaves}
use Rattle.trace_runs.proofs.Alike.{between}
use Rattle.trace_extensions.specs.Exact.{EachReply, HasNext, MayBe, EachMayBe, MayAnswer, IsMet, EachLeft, EachOwnLeft, NoStop, TellsStops}
use Rattle.trace_extensions.specs.Fits.{EndsEarly, IsCutShort, IsOpen, IsText, IsUnbegun}
use Rattle.trace_extensions.specs.FitsStopped.{AgreedStop, ComesTo, IsCutOf, IsNumbered, at_event, before_it, EventStopped, OwnStopped, Unbegun, not_begun, all_of_it, part_of_it, TellsStop, TellsOwnStop}
use Rattle.trace_extensions.specs.Models.{Model, by_model, AreAlike, IsModelOf, IsDetermined, TellsFailures}
use Rattle.trace_extensions.specs.Places.{Place, place, turn_at, MayStep}
use Rattle.trace_extensions.specs.Steps.{AuditWorld, audit_world, IsStop, IsKnown, Passed, Heard, Own, Begun, Ended, audit_lines}
use Rattle.trace_extensions.specs.Takes.{AtEachSeen, TakesLine, EndsWithin}
use Rattle.trace_extensions.specs.Worlds.{AuditLeaves, AskedSo, DidAudit, LeftSo, all_asked, one_begun, ReadsInOwn, ReadsStop, stop_fits}
use Rattle.trace_extensions.specs.Stops.{LeftAt, event_begun, none_begun, own_done, own_begun}
use Rattle.trace_extensions.proofs.Known.{known_left, known_fits, reached_left, reached_fits}
use Rattle.trace_extensions.proofs.OnlyLines.{OwnMayBe, if_skipped, if_passed, if_own, met_event}
use Rattle.trace_extensions.specs.declared.papers.{Reach.Reach, SideVerdict.SideVerdict}
use Rattle.trace_extensions.specs.declared.papers.SideVerdict.TheVariants as verdict

-- what goes on with a line has a first byte
first_byte : (report : Option (List ℕ)) (line told : List ℕ) → report ≡ Some (ended line ++ told) → (byte : ℕ) × (more : List ℕ) × (report ≡ Some (byte ∷ more))
first_byte report [] told is = (10, told, is)
first_byte report (b ∷ line) told is = (b, ended line ++ told, is)

neither : (v : SideVerdict) → ((n : ℕ) → v ≡ verdict.Stopped n → ⊥) → ((n : ℕ) → v ≡ verdict.StoppedInOwn n → ⊥) → ((n : ℕ) × ((v ≡ verdict.Stopped n) ⊎ (v ≡ verdict.StoppedInOwn n))) → ⊥
neither v none own (n, inl is) = none n is
neither v none own (n, inr is) = own n is

-- the line that is named, if a stop is said
numbered_by : (v : SideVerdict) (number : ℕ) → ((n : ℕ) → v ≡ verdict.Stopped n → n ≡ number) → ((n : ℕ) → v ≡ verdict.StoppedInOwn n → n ≡ number) → IsNumbered v number
numbered_by v number one two n (inl is) = one n is
numbered_by v number one two n (inr is) = two n is

never_numbered : (v : SideVerdict) (number : ℕ) → ((n : ℕ) → v ≡ verdict.Stopped n → ⊥) → ((n : ℕ) → v ≡ verdict.StoppedInOwn n → ⊥) → IsNumbered v number
never_numbered v number none own = numbered_by v number (λ n is. absurd (none n is)) (λ n is. absurd (own n is))

-- whether the verdict is a stop, with what may have been done told
is_stop : (v : SideVerdict) → ((n : ℕ) × ((v ≡ verdict.Stopped n) ⊎ (v ≡ verdict.StoppedInOwn n))) ⊎ (((n : ℕ) × ((v ≡ verdict.Stopped n) ⊎ (v ≡ verdict.StoppedInOwn n))) → ⊥)
is_stop (verdict.Stopped n) = inl (n, inl refl)
is_stop (verdict.StoppedInOwn n) = inl (n, inr refl)
is_stop (verdict.Wrong m) = inr (neither (verdict.Wrong m) (λ n is. absurd (cc is)) (λ n is. absurd (cc is)))
is_stop (verdict.Forged m) = inr (neither (verdict.Forged m) (λ n is. absurd (cc is)) (λ n is. absurd (cc is)))
is_stop (verdict.Unkept m) = inr (neither (verdict.Unkept m) (λ n is. absurd (cc is)) (λ n is. absurd (cc is)))
is_stop (verdict.PastReach m) = inr (neither (verdict.PastReach m) (λ n is. absurd (cc is)) (λ n is. absurd (cc is)))
is_stop (verdict.InDoubt m) = inr (neither (verdict.InDoubt m) (λ n is. absurd (cc is)) (λ n is. absurd (cc is)))
is_stop (verdict.More m end) = inr (neither (verdict.More m end) (λ n is. absurd (cc is)) (λ n is. absurd (cc is)))
is_stop (verdict.Lawful end) = inr (neither (verdict.Lawful end) (λ n is. absurd (cc is)) (λ n is. absurd (cc is)))
is_stop (verdict.Unread input) = inr (neither (verdict.Unread input) (λ n is. absurd (cc is)) (λ n is. absurd (cc is)))
is_stop verdict.Memory = inr (neither verdict.Memory (λ n is. absurd (cc is)) (λ n is. absurd (cc is)))

module _ {K T : Type 0} (k : Ghosts K T) {V : Type 0} (view : K → V) (m : Model V) (modelled : IsModelOf k view m) (det : IsDetermined m) (alike : AreAlike m) (alone : (own : k.Own) (line : List ℕ) → k.IsOwn own line → IsAlone line)
    (number : ℕ) (line : List ℕ) where
  abbrev pub End : Option SideStatus → AuditWorld K → AuditWorld K → Option (List ℕ) → Option (List ℕ) → Type 0
  End outcome old new taken0 taken1 = LineEnd (audit_lines k) (DidAudit k view m) AuditLeaves number line outcome old new taken0 taken1

  -- == where no run was stopped ==

  -- an own line at which a run was stopped is one
  own_of : (τ : Tariff) (at : World Place V) (told : List ℕ) (L : Ledger) (kept : V) → OwnStopped m τ at line told L kept → m.IsOwn line
  own_of τ at told L kept (not_begun own x) = own
  own_of τ at told L kept (all_of_it own x) = own
  own_of τ at told L kept (part_of_it own x) = own

  -- and the extension began it
  began : (τ : Tariff) (at : World Place V) (told : List ℕ) (L : Ledger) (kept : V) → OwnStopped m τ at line told L kept → (first : Next) × (desk : V) × m.Begins at.desk line first desk
  began τ at told L kept (not_begun own x) = (x.first, x.desk, x.begins)
  began τ at told L kept (all_of_it own x) = (x.did.first, x.did.desk, x.did.begins)
  began τ at told L kept (part_of_it own x) = (x.did.first, x.did.desk, x.did.begins)

  -- at a line that is skipped
  skipped_stops : (τ : Tariff) (at : World Place V) (report : Option (List ℕ)) → IsSkipped line → NoStop m τ at line report
  skipped_stops τ at report is = record {
    event = λ told L kept stop report_is. no_event_skipped stop.event line stop.is.spells is;
    own = λ told L kept stop report_is. let w = (modelled.own line).0 (own_of τ at told L kept stop.0) in (alone w.0 line w.1).not_skipped is;
  }

  -- a line that is left to the bench is no own one
  passed_not_own : (τ : Tariff) (at : World Place V) (told : List ℕ) (L : Ledger) (kept : V) → m.Passes at.desk line → OwnStopped m τ at line told L kept → ⊥
  passed_not_own τ at told L kept passes stop = let w = began τ at told L kept stop in det.apart at.desk w.1 line w.0 w.2 passes

  -- a line that was begun is not left to the bench
  begun_not_passed : (τ : Tariff) (at : World Place V) (told : List ℕ) (L : Ledger) (kept : V) (first : Next) (desk : V) → m.Begins at.desk line first desk → EventStopped m τ at line told L kept → ⊥
  begun_not_passed τ at told L kept first desk begins stop = det.apart at.desk desk line first begins stop.passes

  -- the event at which a run was stopped is that of the line
  stopped_event : (τ : Tariff) (at : World Place V) (told : List ℕ) (L : Ledger) (kept : V) (e : Event) → IsLineOf e line → (stop : EventStopped m τ at line told L kept)
      → BeginsTold τ at.scene.ledger at.scene.left e told × StopLeaves τ at.scene.ledger e at.scene.left told L
  stopped_event τ at told L kept e is stop =
      let same : stop.event ≡ e = one_event_of stop.event e line stop.is.whole is.whole stop.is.spells is.spells in (
        subst (λ (x : Event). BeginsTold τ at.scene.ledger at.scene.left x told) same stop.begins,
        subst (λ (x : Event). StopLeaves τ at.scene.ledger x at.scene.left told L) same stop.leaves,
      )

  -- == lines ==

  -- the first text of an answer tells of the failures of nodes
  abbrev pub Tells : (ℕ → List ℕ → Reply → Type 0) → Type 0
  Tells Fails = (τ : Tariff) (old new : World Place V) (own : List ℕ) (steps : List StepRecord) → DidOwn (by_model m) (MayStep τ) old new own steps Say → TellsFailures Fails steps (m.texts new.desk)

  -- one line more was judged, as long as there is a number for it
  abbrev pub OneMore : ℕ → ℕ → Type 0
  OneMore before now = before + 1 < 2 ^ 32 → now ≡ before + 1

  pub skipped : (w : AuditWorld K) (now : ℕ) (taken : Option (List ℕ)) → OneMore w.line now → IsSkipped line → End None w (record w { line = now }) taken taken
  skipped w now taken one is = LineEnd.did (record {
    trace_step = Passed line;
    line_is = refl;
    is = is;
    did = record {
      kept = refl;
      reach = refl;
      lines = one;
      took = (record w { line = now }, Consumes-nil w.report, refl);
      may = λ τ H texts history sees. record { history = history; sees = sees; left = refl; desk = refl };
      only = λ τ H texts history sees. (
        skipped_stops τ (world (place H w.rates) (view w.desk)) w.report is,
        λ mid told b may.
            let so = if_skipped k view m modelled det alone τ (world (place H w.rates) (view w.desk)) mid line w.report told is b may in
            (subst (λ (at : World Place V). IsMet view τ w.audit w.rates w.desk at) (sym so.0) (record { history = history; sees = sees; left = refl; kept = refl }), so.1),
      );
    };
    reported = (tt, Appends-nil taken);
  })

  -- the report was read to its end, and what may have been done for the line is left
  abbrev pub EndsAt : AuditWorld K → AuditWorld K → Type 0
  EndsAt old new = (told : List ℕ) × Consumes old.report new.report told × IsAtEnd new.report
      × AtEachSeen old.audit (λ τ H. LeftAt k τ (world (place H old.rates) old.desk) line told new.audit new.desk × stop_fits view m τ (world (place H old.rates) old.desk) line told new)

  -- if something may have been done for the line, the audit ended early
  abbrev pub Missed : AuditWorld K → AuditWorld K → Type 0
  Missed old new = AtEachSeen old.audit (λ τ H. EachMayBe m τ (world (place H old.rates) (view old.desk)) line old.report (λ mid told. EndsEarly new.reach new.verdict))

  -- if a run was stopped there, that is told
  abbrev pub Told : AuditWorld K → AuditWorld K → Type 0
  Told old new = AtEachSeen old.audit (λ τ H. TellsStops m τ (world (place H old.rates) (view old.desk)) line old.report view new)

  -- the audit ended
  pub ends : (old new : AuditWorld K) (taken : Option (List ℕ)) → OneMore old.line new.line → IsNumbered new.verdict new.line → keeps new.audit ≡ keeps old.audit → new.reach ≡ old.reach → IsOpen new.reach new.verdict ⊎ IsKnown k.IsOwn line → Missed old new → Told old new
      → (IsStop new → EndsAt old new) → End (Some Stopped) old new taken taken
  ends old new taken one numbered kept reach known missed told stops = by (is_stop new.verdict)
    where
      by : ((n : ℕ) × ((new.verdict ≡ verdict.Stopped n) ⊎ (new.verdict ≡ verdict.StoppedInOwn n))) ⊎ (((n : ℕ) × ((new.verdict ≡ verdict.Stopped n) ⊎ (new.verdict ≡ verdict.StoppedInOwn n))) → ⊥)
          → End (Some Stopped) old new taken taken
      by (inl stop) =
          let at = stops stop in
          LineEnd.did (record {
            trace_step = Begun line at.0 new;
            line_is = refl;
            is = (numbered, known);
            did = record {
              kept = kept;
              reach = reach;
              lines = one;
              took = (at.1, at.2, refl);
              may = λ τ H texts history sees. let left = at.3 τ H texts history sees in (history, left.0, left.1);
              only = λ τ H texts history sees. (told τ H texts history sees, missed τ H texts history sees);
            };
            reported = (tt, refl);
          })
      by (inr none) = LineEnd.did (record {
        trace_step = Ended line new;
        line_is = refl;
        is = (none, known);
        did = record {
          kept = kept;
          reach = reach;
          lines = one;
          took = refl;
          may = λ τ H texts history sees. tt;
          only = λ τ H texts history sees. (told τ H texts history sees, missed τ H texts history sees);
        };
        reported = (tt, refl);
      })

  -- an audit that was cut short tells of each stop
  cut_told : (old new : AuditWorld K) → IsCutShort new.verdict → Told old new
  cut_told old new cut = λ τ H texts history sees. record {
    event = λ told L kept stop report_is. inr (inl cut);
    own = λ told L kept stop report_is. inr (inl (inl cut));
  }

  -- no stop is said
  pub ends_without : (old new : AuditWorld K) (taken : Option (List ℕ)) → OneMore old.line new.line → keeps new.audit ≡ keeps old.audit → new.reach ≡ old.reach → IsCutShort new.verdict → ((n : ℕ) → new.verdict ≡ verdict.Stopped n → ⊥)
      → ((n : ℕ) → new.verdict ≡ verdict.StoppedInOwn n → ⊥) → End (Some Stopped) old new taken taken
  ends_without old new taken one kept reach cut none own = ends old new taken one (never_numbered new.verdict new.line none own) kept reach (inl (inl cut)) (λ τ H texts history sees mid told b may. inl cut) (cut_told old new cut) by
    where
      by : IsStop new → EndsAt old new
      by (n, inl is) = absurd (none n is)
      by (n, inr is) = absurd (own n is)

  -- the answer to an event was not taken
  pub untaken : (old new : AuditWorld K) (taken : Option (List ℕ)) (e : Event) (number : ℕ) → OneMore old.line new.line → ((n : ℕ) → new.verdict ≡ verdict.Stopped n → n ≡ new.line) → keeps new.audit ≡ keeps old.audit → new.reach ≡ old.reach → IsLineOf e line → k.Passes old.desk line → new.desk ≡ old.desk
      → ((n : ℕ) → new.verdict ≡ verdict.Stopped n → EndsWithin e old.rates old.audit new.audit old.report new.report) → ((n : ℕ) → new.verdict ≡ verdict.StoppedInOwn n → ⊥)
      → EachReply e old.rates old.audit (λ text. (told : List ℕ) × HasNext old.report text told) (IsCutShort new.verdict)
      → ((told : List ℕ) → old.report ≡ Some told → EachLeft e old.rates told old.audit (λ L. ((new.verdict ≡ verdict.Stopped number) × SeesBetween new.audit L) ⊎ IsCutShort new.verdict))
      → End (Some Stopped) old new taken taken
  untaken old new taken e number one named kept reach is passes same within own missed stops = ends old new taken one (numbered_by new.verdict new.line named (λ n is. absurd (own n is))) kept reach (inr (inl (e, is)))
      (λ τ H texts history sees mid told b may.
      let so = if_passed k view m modelled det alone τ (world (place H old.rates) (view old.desk)) mid line old.report told e is (modelled.passes old.desk line passes) b may in
      inl (missed τ H texts history sees so.d so.event so.did.did.may (told, so.next))) tells by
    where
      called : (L : Ledger) (kept : V) → kept ≡ view old.desk → ((new.verdict ≡ verdict.Stopped number) × SeesBetween new.audit L) ⊎ IsCutShort new.verdict → TellsStop m new.reach new.verdict new.audit (view new.desk) L kept
      called L kept stays (inl said) = inl (number, said.0, said.1, subst (λ (v : V). m.Alike (view new.desk) v) (ap (λ (d : K). view d) same ∙ sym stays) (alike.same (view new.desk)))
      called L kept stays (inr cut) = inr (inl cut)

      tells : Told old new
      tells = λ τ H texts history sees. record {
        event = λ told L kept stop report_is.
            let w = stopped_event τ (world (place H old.rates) (view old.desk)) told L kept e is stop in
            called L kept stop.stays (stops told report_is τ H texts history sees L w.0 w.1);
        own = λ told L kept stop report_is. absurd (passed_not_own τ (world (place H old.rates) (view old.desk)) told L kept (modelled.passes old.desk line passes) stop.0);
      }

      by : IsStop new → EndsAt old new
      by (n, inl stop) =
          let w = within n stop in (
            w.0,
            w.3,
            w.4,
            λ τ H texts history sees.
                let it = w.1 τ H texts history sees in
                let x = w.2 τ H texts history sees in (
                  event_begun (record { event = e; is = is; passes = passes; unforged = it.0; begun = it.1; stays = same }),
                  λ said. record {
                    ledger = x.0;
                    kept = view old.desk;
                    stop = at_event (record { event = e; is = is; passes = modelled.passes old.desk line passes; begins = x.1; leaves = x.2; stays = refl });
                    history = x.3;
                    sees = x.4;
                    alike = subst (λ (d : K). m.Alike (view d) (view old.desk)) (sym same) (alike.same (view old.desk));
                  },
                ),
          )
      by (n, inr stop) = absurd (own n stop)

  -- whatever may have been done for a line that is not skipped, the report has some of its answer
  some_text : (Fails : ℕ → List ℕ → Reply → Type 0) → Tells Fails → (IsSkipped line → ⊥) → (τ : Tariff) (at mid : World Place V) (report : Option (List ℕ)) (told : List ℕ) (b : SideStep (List ℕ)) → MayBe m τ at mid line report told b
      → (byte : ℕ) × (more : List ℕ) × (report ≡ Some (byte ∷ more))
  some_text Fails tells some τ at mid report told (Plain (Skipped x)) may = absurd (some (subst (λ (l : List ℕ). IsSkipped l) may.line_is may.is))
  some_text Fails tells some τ at mid report told (Plain (Did x d)) may = first_byte report (text_of d.reply) told may.report_is
  some_text Fails tells some τ at mid report told (OwnStep x own steps texts) may =
      let t = tells τ at mid own steps may.did.did in
      let are : texts ≡ t.first ∷ t.more = may.did.answer ∙ t.are in
      first_byte report t.first (flat_map ended t.more ++ told)
      (may.report_is ∙ ap (λ (l : List (List ℕ)). Some (flat_map ended l ++ told)) are ∙ ap (λ (l : List ℕ). Some l) (append_assoc (ended t.first) (flat_map ended t.more) told))
  some_text Fails tells some τ at mid report told (Broken x own steps) may = absurd (may.whole tt)

  -- a run of which nothing was begun there, as the reach says
  none_begun_so : (here : ℕ) (reach : Option Reach) → IsUnbegun reach here → (τ : Tariff) (at : World Place V) (told : List ℕ) (L : Ledger) (kept : V) → AgreedStop m τ at line told L kept reach → Unbegun m τ at line told L kept
  none_begun_so here None is τ at told L kept stop = absurd is
  none_begun_so here (Some reach) is τ at told L kept (stop, agrees) = by stop (subst (λ (s : Option ℕ). ComesTo m τ at line told L kept s stop) is.1 agrees)
    where
      by : (stop : OwnStopped m τ at line told L kept) → ComesTo m τ at line told L kept None stop → Unbegun m τ at line told L kept
      by (not_begun own x) comes = record { silent = x.silent; ledger = x.ledger; stays = x.stays }
      by (all_of_it own x) comes = absurd comes
      by (part_of_it own x) comes = absurd comes

  -- nothing of the line was begun
  pub unbegun : (old new : AuditWorld K) (taken : Option (List ℕ)) (here : ℕ) (Fails : ℕ → List ℕ → Reply → Type 0) → Tells Fails → (IsSkipped line → ⊥) → OneMore old.line new.line → ((n : ℕ) → new.verdict ≡ verdict.StoppedInOwn n → n ≡ new.line) → new.audit ≡ old.audit → new.desk ≡ old.desk → new.reach ≡ old.reach
      → IsUnbegun new.reach here → IsOpen new.reach new.verdict → ((byte : ℕ) (more : List ℕ) → old.report ≡ Some (byte ∷ more) → (new.verdict ≡ verdict.PastReach here) ⊎ IsCutShort new.verdict)
      → (old.report ≡ Some [] → (new.verdict ≡ verdict.StoppedInOwn here) ⊎ IsCutShort new.verdict) → ((n : ℕ) → new.verdict ≡ verdict.Stopped n → ⊥)
      → ((n : ℕ) → new.verdict ≡ verdict.StoppedInOwn n → Consumes old.report new.report [] × IsAtEnd new.report) → End (Some Stopped) old new taken taken
  unbegun old new taken here Fails tells some one named audit same reach none_of_it is_open past stops none own =
      ends old new taken one (numbered_by new.verdict new.line (λ n is. absurd (none n is)) named) (ap (λ (a : Audit). keeps a) audit) reach (inl is_open) early told by
    where
      early : Missed old new
      early = λ τ H texts history sees mid told b may.
          let w = some_text Fails tells some τ (world (place H old.rates) (view old.desk)) mid old.report told b may in
          elim (past w.0 w.1 w.2) [
            | inl is ↦ inr (here, none_of_it, is)
            | inr cut ↦ inl cut
          ]

      told : Told old new
      told = λ τ H texts history sees. record {
        event = λ told L kept stop report_is. inr is_open;
        own = λ told L kept stop report_is.
            let x = none_begun_so here new.reach none_of_it τ (world (place H old.rates) (view old.desk)) told L kept stop in
            elim (stops (report_is ∙ ap (λ (l : List ℕ). Some l) x.silent)) [
              | inl is ↦ inl (
                (here, inr is),
                between new.audit L (subst (λ (X : Ledger). Sees new.audit X) (sym x.ledger) (subst (λ (a : Audit). Sees a H) (sym audit) sees)),
                subst (λ (v : V). m.Alike (view new.desk) v) (ap (λ (d : K). view d) same ∙ sym x.stays) (alike.same (view new.desk)),
              )
              | inr cut ↦ inr (inl (inl cut))
            ];
      }

      by : IsStop new → EndsAt old new
      by (n, inl stop) = absurd (none n stop)
      by (n, inr stop) =
          let w = own n stop in (
            [],
            w.0,
            w.1,
            λ τ H texts history sees.
                let here : Sees new.audit H = subst (λ (a : Audit). Sees a H) (sym audit) sees in (
                  none_begun (record { silent = refl; sees = here; stays = same }),
                  λ said. record {
                    ledger = H;
                    kept = view old.desk;
                    stop = before_it (record { silent = refl; ledger = refl; stays = refl });
                    history = history;
                    sees = between new.audit H here;
                    alike = subst (λ (d : K). m.Alike (view d) (view old.desk)) (sym same) (alike.same (view old.desk));
                  },
                ),
          )

  -- what the report has of an own line's answer, whatever may have been done for it
  abbrev pub OwnLeaves : (ℕ → List ℕ → Reply → Type 0) → Audit → List ℕ → K → Next → Option (List ℕ) → (Tariff → World Place V → List ℕ → Type 0) → Type 0
  OwnLeaves Fails audit left mid first report P = AtEachSeen audit (λ τ H. (new : World Place V) (text : List ℕ) (more : List (List ℕ)) (told : List ℕ) (steps : List StepRecord)
      → MayAnswer m Fails τ (world (place H left) (view mid)) new first text more steps → HasNext report text (flat_map ended more ++ told) → P τ new told)

  -- Q of what a stop may leave of an own line of which this was asked first
  abbrev pub StopsLeave : Audit → List ℕ → K → Next → Option (List ℕ) → Option Reach → (Ledger → V → Type 0) → Type 0
  StopsLeave audit left mid first report reach Q = AtEachSeen audit (λ τ H. (told : List ℕ) → report ≡ Some told → EachOwnLeft m τ (place H left) (view mid) first told reach Q)

  -- of an own line that was begun
  own_left : (τ : Tariff) (H : Ledger) (rates : List ℕ) (desk mid desk1 : K) (audit1 : Audit) (own : k.Own) (first : Next) (told : List ℕ) → k.IsOwn own line → k.Begins desk own first mid
      → LeftSo k τ (world (place H rates) mid) first told audit1 desk1 → LeftAt k τ (world (place H rates) desk) line told audit1 desk1
  own_left τ H rates desk mid desk1 audit1 own first told is begins (all_asked all) = own_done (record {
    own = own;
    is = is;
    steps = all.asked.steps;
    behind = all.asked.new;
    did = record { first = first; desk = mid; begins = begins; asks = all.asked.asks };
    cut = subst (λ (d : K). IsCutOf told (k.texts d)) (sym all.asked.seen.desk) all.cut;
    history = all.asked.seen.history;
    sees = all.asked.seen.sees;
    left = sym all.asked.seen.desk;
  })
  own_left τ H rates desk mid desk1 audit1 own first told is begins (one_begun one) = own_begun (record {
    own = own;
    is = is;
    steps = one.steps;
    behind = one.new;
    event = one.event;
    did = record { first = first; desk = mid; begins = begins; asks = one.asks };
    silent = one.silent;
    history = one.history;
    begun = one.begun;
    left = one.left;
  })

  -- what may have been done for an own line of which this was asked first
  own_may : (Fails : ℕ → List ℕ → Reply → Type 0) → Tells Fails → (τ : Tariff) (H : Ledger) (left : List ℕ) (desk mid : K) (own : k.Own) (first : Next) → k.IsOwn own line → k.Begins desk own first mid → first ≢ Stop
      → (new : World Place V) (report : Option (List ℕ)) (told : List ℕ) (b : SideStep (List ℕ)) → MayBe m τ (world (place H left) (view desk)) new line report told b
      → OwnMayBe k view m modelled det alone τ (world (place H left) (view desk)) new line report told Fails first (view mid)
  own_may Fails tells τ H left desk mid own first is begins goes new report told b may =
      if_own k view m modelled det alone τ (world (place H left) (view desk)) new line report told Fails (λ old x y steps did. tells τ old x y steps did) own is first (view mid)
      (modelled.begins desk mid own line first is begins goes) b may

  -- the report ended within the answer to an own line
  pub own_stopped : (line0 line1 : ℕ) (audit0 audit1 : Audit) (left0 left1 : List ℕ) (desk mid desk1 : K) (report0 report1 : Option (List ℕ)) (v0 v1 : SideVerdict) (reach0 reach1 : Option Reach) (taken : Option (List ℕ)) (own : k.Own) (first : Next)
      → (Fails : ℕ → List ℕ → Reply → Type 0) → Tells Fails → OneMore line0 line1 → ((n : ℕ) → v1 ≡ verdict.Stopped n → n ≡ line1) → ((n : ℕ) → v1 ≡ verdict.StoppedInOwn n → n ≡ line1)
      → keeps audit1 ≡ keeps audit0 → k.IsOwn own line → k.Begins desk own first mid → first ≢ Stop
      → reach1 ≡ reach0 → OwnLeaves Fails audit0 left0 mid first report0 (λ τ new told. IsCutShort v1)
      → StopsLeave audit0 left0 mid first report0 reach1 (TellsOwnStop m reach1 v1 audit1 (view desk1))
      → ((n : ℕ) → v1 ≡ verdict.Stopped n → ReadsStop k view m audit0 left0 mid first report0 audit1 desk1 report1)
      → ((n : ℕ) → v1 ≡ verdict.StoppedInOwn n → ReadsInOwn k audit0 left0 mid first report0 audit1 desk1 report1)
      → End (Some Stopped) (audit_world audit0 left0 desk report0 v0 reach0 line0) (audit_world audit1 left1 desk1 report1 v1 reach1 line1) taken taken
  own_stopped line0 line1 audit0 audit1 left0 left1 desk mid desk1 report0 report1 v0 v1 reach0 reach1 taken own first Fails tells more named own_named kept is begins goes reach leaves stops one two =
      ends (audit_world audit0 left0 desk report0 v0 reach0 line0) (audit_world audit1 left1 desk1 report1 v1 reach1 line1) taken more (numbered_by v1 line1 named own_named) kept reach (inr (inr (own, is)))
      (λ τ H texts history sees new told b may.
      let so = own_may Fails tells τ H left0 desk mid own first is begins goes new report0 told b may in
      inl (leaves τ H texts history sees new so.text so.more told so.steps so.may so.next)) told by
    where
      told : Told (audit_world audit0 left0 desk report0 v0 reach0 line0) (audit_world audit1 left1 desk1 report1 v1 reach1 line1)
      told = λ τ H texts history sees. record {
        event = λ bytes L kept stop report_is. absurd (begun_not_passed τ (world (place H left0) (view desk)) bytes L kept first (view mid) (modelled.begins desk mid own line first is begins goes) stop);
        own = λ bytes L kept stop report_is. stops τ H texts history sees bytes report_is (view desk) line L kept (modelled.begins desk mid own line first is begins goes) goes stop;
      }

      left_so : (τ : Tariff) (H : Ledger) (bytes : List ℕ) → LeftSo k τ (world (place H left0) mid) first bytes audit1 desk1 → LeftAt k τ (world (place H left0) desk) line bytes audit1 desk1
      left_so τ H bytes left = own_left τ H left0 desk mid desk1 audit1 own first bytes is begins left

      known : ReadsStop k view m audit0 left0 mid first report0 audit1 desk1 report1 → EndsAt (audit_world audit0 left0 desk report0 v0 reach0 line0) (audit_world audit1 left1 desk1 report1 v1 reach1 line1)
      known r = (
        r.0,
        r.1,
        r.2,
        λ τ H texts history sees.
            let so = r.3 τ H texts history sees in (
              left_so τ H r.0 (known_left k view m τ (place H left0) mid first r.0 audit1 desk1 history so),
              λ said. known_fits k view m modelled alike τ (place H left0) desk mid line own first r.0 audit1 desk1 history is begins goes so,
            ),
      )

      reached : ReadsInOwn k audit0 left0 mid first report0 audit1 desk1 report1 → EndsAt (audit_world audit0 left0 desk report0 v0 reach0 line0) (audit_world audit1 left1 desk1 report1 v1 reach1 line1)
      reached r = (
        r.0,
        r.1,
        r.2,
        λ τ H texts history sees.
            let so = r.3 τ H texts history sees in (
              left_so τ H r.0 (reached_left k view m τ (place H left0) mid first r.0 audit1 desk1 so),
              λ said. reached_fits k view m modelled alike τ (place H left0) desk mid line own first r.0 audit1 desk1 is begins goes so,
            ),
      )

      by : IsStop (audit_world audit1 left1 desk1 report1 v1 reach1 line1) → EndsAt (audit_world audit0 left0 desk report0 v0 reach0 line0) (audit_world audit1 left1 desk1 report1 v1 reach1 line1)
      by (n, inl stop) = known (one n stop)
      by (n, inr stop) = reached (two n stop)

  -- the extension answered, and the report has its texts
  pub answered : (line0 line1 : ℕ) (audit0 audit1 : Audit) (left0 left1 : List ℕ) (desk mid desk1 : K) (report0 report1 : Option (List ℕ)) (v0 v1 : SideVerdict) (reach0 reach1 : Option Reach) (taken : Option (List ℕ)) (own : k.Own) (first : Next)
      → (Fails : ℕ → List ℕ → Reply → Type 0) → Tells Fails → OneMore line0 line1 → keeps audit1 ≡ keeps audit0 → k.IsOwn own line → k.Begins desk own first mid → first ≢ Stop
      → reach1 ≡ reach0 → OwnLeaves Fails audit0 left0 mid first report0 (λ τ new told. IsMet view τ audit1 left1 desk1 new × (report1 ≡ Some told))
      → StopsLeave audit0 left0 mid first report0 None (λ L kept. ⊥)
      → AtEachSeen audit0 (λ τ H. AskedSo k τ (world (place H left0) mid) audit1 left1 desk1 first Say)
      → Consumes report0 report1 (flat_map ended (k.texts desk1)) → AllByRecursion IsText (k.texts desk1) → End None (audit_world audit0 left0 desk report0 v0 reach0 line0) (audit_world audit1 left1 desk1 report1 v1 reach1 line1) taken taken
  answered line0 line1 audit0 audit1 left0 left1 desk mid desk1 report0 report1 v0 v1 reach0 reach1 taken own first Fails tells one kept is begins goes reach leaves stops asked read each = LineEnd.did (record {
    trace_step = Own line own (k.texts desk1);
    line_is = refl;
    is = (is, each);
    did = record {
      kept = kept;
      reach = reach;
      lines = one;
      took = (audit_world audit1 left1 desk1 report1 v1 reach1 line1, read, refl);
      may = λ τ H texts history sees.
          let so = asked τ H texts history sees in (
            so.steps,
            so.new,
            record { did = record { first = first; desk = mid; begins = begins; asks = so.asks }; answer = ap (λ (x : K). k.texts x) (sym so.seen.desk) },
            record { history = so.seen.history; sees = so.seen.sees; left = so.seen.left; desk = so.seen.desk },
          );
      only = λ τ H texts history sees. (
        record {
          event = λ bytes L kept stop report_is. begun_not_passed τ (world (place H left0) (view desk)) bytes L kept first (view mid) (modelled.begins desk mid own line first is begins goes) stop;
          own = λ bytes L kept stop report_is. stops τ H texts history sees bytes report_is (view desk) line L kept (modelled.begins desk mid own line first is begins goes) goes stop;
        },
        λ new told b may.
            let so = own_may Fails tells τ H left0 desk mid own first is begins goes new report0 told b may in
            leaves τ H texts history sees new so.text so.more told so.steps so.may so.next,
      );
    };
    reported = (tt, Appends-nil taken);
  })

  ended_reported : (e : Event) (outcome : Option SideStatus) (taken : Option (List ℕ)) → IfNone outcome (e ≢ ev.End) → IfSome outcome (λ s. (s ≡ Run status.Done) × (e ≡ ev.End))
      → Reported outcome (e ≢ ev.End) (e ≡ ev.End) ⊥ [] taken taken
  ended_reported e None taken goes end = (goes, Appends-nil taken)
  ended_reported e (Some s) taken goes end =
      subst (λ (o : SideStatus). Reported (Some o) (e ≢ ev.End) (e ≡ ev.End) ⊥ [] taken taken) (sym end.0) (end.1, Appends-nil taken)

  -- an event got an answer that the auditor took
  pub heard : {A : Type 0} (IsOf : A → Turn → Type 0) (told : A) (line0 line1 : ℕ) (audit0 audit1 : Audit) (left0 left1 : List ℕ) (desk desk1 : K) (report0 report1 : Option (List ℕ)) (v0 v1 : SideVerdict) (reach0 reach1 : Option Reach) (taken : Option (List ℕ)) (e : Event) (answer : List ℕ) (outcome : Option SideStatus)
      → OneMore line0 line1 → IsOneLine answer → reach1 ≡ reach0
      → ((bytes : List ℕ) → report0 ≡ Some bytes → EachLeft e left0 bytes audit0 (λ L. ⊥))
      → keeps audit1 ≡ keeps audit0 → IsLineOf e line → k.Passes desk line → ((turn : Turn) → IsOf told turn → k.Sees desk e turn desk1)
      → TakesLine IsOf told e answer audit0 audit1 left0 left1 → Consumes report0 report1 (ended answer)
      → IfNone outcome (e ≢ ev.End) → IfSome outcome (λ s. (s ≡ Run status.Done) × (e ≡ ev.End))
      → End outcome (audit_world audit0 left0 desk report0 v0 reach0 line0) (audit_world audit1 left1 desk1 report1 v1 reach1 line1) taken taken
  heard IsOf told line0 line1 audit0 audit1 left0 left1 desk desk1 report0 report1 v0 v1 reach0 reach1 taken e answer outcome one answer_one reach unstopped kept is passes sees_it takes read goes end = LineEnd.did (record {
    trace_step = Heard line e answer;
    line_is = refl;
    is = is;
    did = record {
      kept = kept;
      reach = reach;
      lines = one;
      took = (audit_world audit1 left1 desk1 report1 v1 reach1 line1, read, refl);
      may = λ τ H texts history sees.
          let w = takes τ H texts history sees in
          let d = w.0 in
          let t = w.1 in (
            d,
            world (place (ledger_by τ H d) left1) desk1,
            record {
              event = t.event;
              text = t.text;
              did = record {
                passes = passes;
                turn = turn_at τ H d;
                did = record { may = t.may; turn_is = refl; new_is = ap (λ (l : List ℕ). place (ledger_by τ H d) l) t.left };
                sees = subst (λ (x : Event). k.Sees desk x (turn_at τ H d) desk1) (sym t.event) (sees_it (turn_at τ H d) w.2);
              };
            },
            record { history = moves d.event d.text d.reply history t.may.unforged t.may.moves; sees = t.sees; left = refl; desk = refl },
          );
      only = λ τ H texts history sees. (
        record {
          event = λ bytes L kept stop report_is.
              let w = stopped_event τ (world (place H left0) (view desk)) bytes L kept e is stop in
              unstopped bytes report_is τ H texts history sees L w.0 w.1;
          own = λ bytes L kept stop report_is. passed_not_own τ (world (place H left0) (view desk)) bytes L kept (modelled.passes desk line passes) stop.0;
        },
        λ mid rest b may.
            let w = takes τ H texts history sees in
            let so = if_passed k view m modelled det alone τ (world (place H left0) (view desk)) mid line report0 rest e is (modelled.passes desk line passes) b may in
            met_event m det view τ H e line answer left0 left1 audit1 desk desk1 mid report0 report1 rest so.d w.0 history so.event so.did so.next answer_one read w.1
            (modelled.sees desk desk1 e (turn_at τ H w.0) (sees_it (turn_at τ H w.0) w.2)),
      );
    };
    reported = ended_reported e outcome taken goes end;
  })

  -- the line is not valid
  pub refused : (w0 w1 : AuditWorld K) (taken : Option (List ℕ)) → w1 ≡ w0 → (IsSkipped line → ⊥) → ((own : k.Own) → k.IsOwn own line → IsEvent line)
      → ((e : Event) → IsWholeEvent e → Spells e line → ⊥) → End (Some (Run (status.Script number))) w0 w1 taken taken
  refused w0 w1 taken same not_skipped events none = LineEnd.refused (record {
    outcome_is = refl;
    bad = (record { no_event = λ e is. none e is.whole is.spells; not_skipped = not_skipped }, λ own is. let w = events own is in none w.0 w.1.whole w.1.spells);
    world = same;
    report = refl;
  })
