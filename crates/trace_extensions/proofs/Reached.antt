-- A run that was stopped at an own line of which so many steps were done: what the audit finds by that reach.
use Rattle.std.proofs.Common.{arith, ◌≡◌, ◌≢◌, ◌⊎◌, inl, inr, ℕ, ◌+◌, List, [], ◌∷◌, ◌++◌, length, Option, Some, refl, sym, ap, ◌∙◌, subst}
use Rattle.std.specs.List.{AllByRecursion}
use Rattle.bench_base.specs.declared.{words.Node.Node, events.Event.Event, events.Reply.Reply}
use Rattle.bench_base.specs.Ledger.{Ledger}
use Rattle.ledger_moves.specs.Tariffs.{Tariff}
use Rattle.node_turns.specs.declared.turn.Turn.{Turn}
use Rattle.script_text.specs.Texts.{text_of}
use Rattle.line_runs.specs.Lines.{IsOneLine}
use Rattle.line_extensions.specs.Trace.{StepRecord}
use Rattle.line_extensions.specs.Desks.{World, world, Asked, Asks, DidOwn}
use Rattle.line_extensions.specs.declared.{extension.Extension.Ghosts, extension.Next.Next, extension.Next.TheVariants.Step, extension.Next.TheVariants.Say, extension.Next.TheVariants.Stop}
use Rattle.script_replay.specs.Trace.{ledger_by}
use Rattle.trace_bench.specs.Prefixes.{IsFailure}
use Rattle.trace_bench.specs.Seeing.{Audit, Sees}
use Rattle.trace_bench.specs.Stopping.{IsPrefixOf}
use Rattle.trace_runs.specs.Audits.{MayTell}
use Rattle.trace_runs.specs.Between.{SeesBetween}
use Rattle.trace_runs.proofs.Alike.{between}
use Rattle.trace_extensions.specs.Exact.{FailsAt, IsMet}
use Rattle.trace_extensions.specs.Fits.{IsCutShort}
use Rattle.trace_extensions.specs.FitsStopped.{ComesTo, HasDone, IsCutOf, IsFine, IsFailing, LeftByStep, OwnStopped, not_begun, all_of_it, part_of_it, TellsOwnStop}
use Rattle.trace_extensions.specs.Models.{Model, by_model, AreAlike, AreFailures, AreToldOf, AsksSurely, EndsByFailure, IsDetermined, IsModelOf, IsSure, TellsFailures}
use Rattle.trace_extensions.specs.Places.{Place, place, turn_at, MayStep}
use Rattle.trace_extensions.specs.Worlds.{AskedOne}
use Rattle.trace_extensions.specs.declared.{papers.Reach.Reach, papers.SideVerdict.SideVerdict, papers.SideVerdict.TheVariants.StoppedInOwn}
use Rattle.trace_extensions.proofs.Cuts.{cut_first}
use Rattle.trace_extensions.proofs.FailedSteps.{failed_left, other_failure, with_failure}
use Rattle.trace_extensions.proofs.OnlySteps.{asked_takes}
use Rattle.trace_extensions.proofs.OwnStops.{begun_so}
use Rattle.trace_extensions.proofs.SameStep.{same_turn, ledgers}

-- == steps one after the other ==

module _ {V : Type 0} (m : Model V) (τ : Tariff) where
  -- where they are cut in two
  pub record SplitAt (at new : World Place V) (first : Next) (xs ys : List StepRecord) (last : Next) : Type 0 where
    pub mid : World Place V
    pub next : Next
    pub before : Asks (by_model m) (MayStep τ) at mid first xs next
    pub behind : Asks (by_model m) (MayStep τ) mid new next ys last

  pub split : (at new : World Place V) (first : Next) (xs ys : List StepRecord) (last : Next) → Asks (by_model m) (MayStep τ) at new first (xs ++ ys) last → SplitAt at new first xs ys last
  split at new first [] ys last asks = record { mid = at; next = first; before = (refl, refl); behind = asks }
  split at new first (d ∷ xs) ys last asks =
      let w = split asks.0 new asks.1 xs ys last asks.3 in
      record { mid = w.mid; next = w.next; before = (asks.0, asks.1, asks.2, w.before); behind = w.behind }

  -- one more behind them
  pub one_more : (at mid new : World Place V) (first next : Next) (xs : List StepRecord) (d : StepRecord) (last : Next) → Asks (by_model m) (MayStep τ) at mid first xs next → Asked (by_model m) (MayStep τ) mid new next d last
      → Asks (by_model m) (MayStep τ) at new first (xs ++ d ∷ []) last
  one_more at mid new first next [] d last asks asked =
      (new, last, subst (λ (n : Next). Asked (by_model m) (MayStep τ) at new n d last) asks.0 (subst (λ (w : World Place V). Asked (by_model m) (MayStep τ) w new next d last) asks.1 asked), (refl, refl))
  one_more at mid new first next (c ∷ xs) d last asks asked = (asks.0, asks.1, asks.2, one_more asks.0 mid new asks.1 next xs d last asks.3 asked)

  -- the reply of a step is that of its turn
  pub turn_reply : (at new : World Place V) (next more : Next) (d : StepRecord) (n : Node) → (asked : Asked (by_model m) (MayStep τ) at new next d more) → IsFailure d.reply n → IsFailure asked.turn.reply n
  turn_reply at new next more d n asked fails = subst (λ (x : Reply). IsFailure x n) (sym (ap (λ (t : Turn). t.reply) asked.did.turn_is)) fails

  module _ (surely : AsksSurely m) where
    -- what is asked for behind steps is sure, if what was asked for first is
    pub sure_behind : (at mid : World Place V) (first : Next) (xs : List StepRecord) (next : Next) → ((e : Event) → first ≡ Step e → IsSure e) → Asks (by_model m) (MayStep τ) at mid first xs next → (e : Event) → next ≡ Step e → IsSure e
    sure_behind at mid first [] next sure asks e is = sure e (sym asks.0 ∙ is)
    sure_behind at mid first (d ∷ xs) next sure asks e is =
        sure_behind asks.0 mid asks.1 xs next (λ f first_is. surely.then at.desk asks.0.desk asks.2.turn f (subst (λ (n : Next). m.Goes at.desk asks.2.turn n asks.0.desk) first_is asks.2.goes)) asks.3 e is

    -- no line is told of steps in which no node failed
    pub fine_told : (Fails : ℕ → List ℕ → Reply → Type 0) → AreFailures Fails → (number : ℕ) (at mid : World Place V) (first : Next) (xs : List StepRecord) (next : Next) → ((e : Event) → first ≡ Step e → IsSure e)
        → Asks (by_model m) (MayStep τ) at mid first xs next → AllByRecursion IsFine xs → AreToldOf Fails number [] xs
    fine_told Fails failures number at mid first [] next sure asks fine = tt
    fine_told Fails failures number at mid first (d ∷ xs) next sure asks fine = (
      record { sure = sure d.event asks.2.asks; told = inr (λ reply fails. failures.none number reply fails, fine.0) },
      fine_told Fails failures (number + 1) asks.0 mid asks.1 xs next (λ f first_is. surely.then at.desk asks.0.desk asks.2.turn f (subst (λ (n : Next). m.Goes at.desk asks.2.turn n asks.0.desk) first_is asks.2.goes)) asks.3 fine.1,
    )

-- the last step, in which a node failed, is told
last_told : (Fails : ℕ → List ℕ → Reply → Type 0) (number : ℕ) (line : List ℕ) (xs : List StepRecord) (d : StepRecord) (n : Node) → AreToldOf Fails number line (xs ++ d ∷ []) → IsFailure d.reply n → Fails (number + length xs) line d.reply
last_told Fails number line [] d n told fails = subst (λ (k : ℕ). Fails k line d.reply) (omega arith) (by told.0.told)
  where
    by : Fails number line d.reply ⊎ (((reply : Reply) → Fails number line reply → ⊥) × ((m : Node) → IsFailure d.reply m → ⊥)) → Fails number line d.reply
    by (inl is) = is
    by (inr none) = absurd (none.1 n fails)
last_told Fails number line (c ∷ xs) d n told fails = subst (λ (k : ℕ). Fails k line d.reply) (omega arith) (last_told Fails (number + 1) line xs d n told.1 fails)

-- == how far the run came ==

module _ {V : Type 0} (m : Model V) (det : IsDetermined m) (surely : AsksSurely m) (ends : EndsByFailure m) (Fails : ℕ → List ℕ → Reply → Type 0) (failures : AreFailures Fails)
    (telling : (τ : Tariff) (old new : World Place V) (own : List ℕ) (steps : List StepRecord) → DidOwn (by_model m) (MayStep τ) old new own steps Say → TellsFailures Fails steps (m.texts new.desk)) where
  module _ (τ : Tariff) (scene : Place) (desk : V) (first : Next) (told : List ℕ) (count : ℕ) where
    -- it was over; or one step more was asked for, and that may have been done, or a node failed in it
    pub data Then (mid : World Place V) (next : Next) (K : Ledger) (kept : V) : Type 0 where
      was_over : next ≡ Say → (text : List ℕ) (more : List (List ℕ)) → m.texts mid.desk ≡ text ∷ more → IsPrefixOf told text → K ≡ mid.scene.ledger → kept ≡ mid.desk → Then mid next K kept
      was_asked : (e : Event) → next ≡ Step e → told ≡ [] → LeftByStep τ mid.scene e K → kept ≡ mid.desk → Then mid next K kept
      has_failed : (e : Event) → next ≡ Step e → (behind : World Place V) (line : List ℕ) → FailsAt m Fails τ mid behind e (count + 1) line → IsPrefixOf told line → K ≡ behind.scene.ledger → kept ≡ behind.desk
          → Then mid next K kept

    pub record Came (K : Ledger) (kept : V) : Type 0 where
      pub mid : World Place V
      pub next : Next
      pub steps : List StepRecord
      pub asks : Asks (by_model m) (MayStep τ) (world scene desk) mid first steps next
      pub tells : AreToldOf Fails 1 [] steps
      pub many : length steps ≡ count
      pub then : Then mid next K kept

    module _ (v : V) (line : List ℕ) (K : Ledger) (kept : V) (begins : m.Begins v line first desk) (one : IsOneLine told) where
      first_sure : (e : Event) → first ≡ Step e → IsSure e
      first_sure e is = surely.first v desk line e (subst (λ (n : Next). m.Begins v line n desk) is begins)

      module _ (steps : List StepRecord) (done : HasDone count steps) (new : World Place V) (last : Next) (asks : Asks (by_model m) (MayStep τ) (world scene desk) new first steps last) where
        cut_in_two : SplitAt m τ (world scene desk) new first done.fine done.last last
        cut_in_two = split m τ (world scene desk) new first done.fine done.last last (subst (λ (l : List StepRecord). Asks (by_model m) (MayStep τ) (world scene desk) new first l last) done.are asks)

        came_with : Then cut_in_two.mid cut_in_two.next K kept → Came K kept
        came_with then = record {
          mid = cut_in_two.mid;
          next = cut_in_two.next;
          steps = done.fine;
          asks = cut_in_two.before;
          tells = fine_told m τ surely Fails failures 1 (world scene desk) cut_in_two.mid first done.fine cut_in_two.next first_sure cut_in_two.before done.each;
          many = done.many;
          then = then;
        }

      -- all was done
      came_over : (steps : List StepRecord) (done : HasDone count steps) (new : World Place V) (asks : Asks (by_model m) (MayStep τ) (world scene desk) new first steps Say) → IsCutOf told (m.texts new.desk)
          → K ≡ new.scene.ledger → kept ≡ new.desk → Came K kept
      came_over steps done new asks cut ledger keeps = by done.last refl
        where
          w : SplitAt m τ (world scene desk) new first done.fine done.last Say
          w = cut_in_two steps done new Say asks

          t : TellsFailures Fails steps (m.texts new.desk)
          t = telling τ (world scene v) new line steps (record { first = first; desk = desk; begins = begins; asks = asks })

          prefix : IsPrefixOf told t.first
          prefix = cut_first t.first t.more told one (subst (λ (l : List (List ℕ)). IsCutOf told l) t.are cut)

          by : (last : List StepRecord) → done.last ≡ last → Came K kept
          by [] none =
              let a = subst (λ (l : List StepRecord). Asks (by_model m) (MayStep τ) w.mid new w.next l Say) none w.behind in
              came_with steps done new Say asks (was_over (sym a.0) t.first t.more (ap (λ (x : World Place V). m.texts x.desk) (sym a.1) ∙ t.are) prefix (ledger ∙ ap (λ (x : World Place V). x.scene.ledger) a.1)
              (keeps ∙ ap (λ (x : World Place V). x.desk) a.1))
          by (d ∷ []) one_is =
              let a = subst (λ (l : List StepRecord). Asks (by_model m) (MayStep τ) w.mid new w.next l Say) one_is w.behind in
              let f = subst (λ (l : List StepRecord). IsFailing l) one_is done.fails in
              let are : steps ≡ done.fine ++ d ∷ [] = done.are ∙ ap (λ (l : List StepRecord). done.fine ++ l) one_is in
              let number : 1 + length done.fine ≡ count + 1 = omega (arith, done.many) in
              let asked : Asked (by_model m) (MayStep τ) w.mid new (Step d.event) d Say =
              subst (λ (n : Next). Asked (by_model m) (MayStep τ) w.mid new n d Say) a.2.asks (subst (λ (n : Next). Asked (by_model m) (MayStep τ) w.mid new w.next d n) (sym a.3.0)
              (subst (λ (x : World Place V). Asked (by_model m) (MayStep τ) w.mid x w.next d a.1) (sym a.3.1) a.2)) in
              came_with steps done new Say asks (has_failed d.event a.2.asks new t.first (record {
                step = d;
                sure = sure_behind m τ surely (world scene desk) w.mid first done.fine w.next first_sure w.before d.event a.2.asks;
                asked = asked;
                fails = subst (λ (k : ℕ). Fails k t.first d.reply) number (last_told Fails 1 t.first done.fine d f.0 (subst (λ (l : List StepRecord). AreToldOf Fails 1 t.first l) are t.told) f.1);
                tells = λ other c n asked_then fails.
                    let s = telling τ (world scene v) other line (done.fine ++ c ∷ []) (record {
                      first = first;
                      desk = desk;
                      begins = begins;
                      asks = one_more m τ (world scene desk) w.mid other first w.next done.fine c Say w.before (subst (λ (x : Next). Asked (by_model m) (MayStep τ) w.mid other x c Say) (sym a.2.asks) asked_then);
                    }) in
                    (s.first, s.more, s.are, subst (λ (k : ℕ). Fails k s.first c.reply) number (last_told Fails 1 s.first done.fine c n s.told fails));
              }) prefix ledger keeps)
          by (d ∷ e ∷ more) two = absurd (subst (λ (l : List StepRecord). IsFailing l) two done.fails)

      -- one step more was asked for
      came_asked : (steps : List StepRecord) (done : HasDone count steps) (new : World Place V) (e : Event) (asks : Asks (by_model m) (MayStep τ) (world scene desk) new first steps (Step e)) → told ≡ []
          → LeftByStep τ new.scene e K → kept ≡ new.desk → Came K kept
      came_asked steps done new e asks silent leaves keeps = by done.last refl
        where
          w : SplitAt m τ (world scene desk) new first done.fine done.last (Step e)
          w = cut_in_two steps done new (Step e) asks

          by : (last : List StepRecord) → done.last ≡ last → Came K kept
          by [] none =
              let a = subst (λ (l : List StepRecord). Asks (by_model m) (MayStep τ) w.mid new w.next l (Step e)) none w.behind in
              came_with steps done new (Step e) asks (was_asked e (sym a.0) silent (subst (λ (x : World Place V). LeftByStep τ x.scene e K) a.1 leaves) (keeps ∙ ap (λ (x : World Place V). x.desk) a.1))
          by (d ∷ []) one_is =
              let a = subst (λ (l : List StepRecord). Asks (by_model m) (MayStep τ) w.mid new w.next l (Step e)) one_is w.behind in
              let f = subst (λ (l : List StepRecord). IsFailing l) one_is done.fails in
              let over = ends w.mid.desk a.0.desk a.2.turn a.1 f.0 (turn_reply m τ w.mid a.0 w.next a.1 d f.0 a.2 f.1) a.2.goes in
              absurd (cc (a.3.0, over.0))
          by (d ∷ c ∷ more) two = absurd (subst (λ (l : List StepRecord). IsFailing l) two done.fails)

      -- A STOP THAT CAME SO FAR
      pub came : (stop : OwnStopped m τ (world scene v) line told K kept) → ComesTo m τ (world scene v) line told K kept (Some count) stop → Came K kept
      came (not_begun here x) comes = absurd comes
      came (all_of_it here x) comes =
          let so = begun_so m det τ scene v desk line first x.behind x.steps Say begins x.did in
          came_over x.steps comes x.behind so.asks x.cut x.ledger x.keeps
      came (part_of_it here x) comes =
          let so = begun_so m det τ scene v desk line first x.behind x.steps (Step x.event) begins x.did in
          came_asked x.steps comes x.behind x.event so.asks x.silent x.leaves x.keeps

    -- == what the audit finds of it ==

    module _ {K : Type 0} (view : K → V) (alike : AreAlike m) (number : ℕ) (reach : Option Reach) (verdict : SideVerdict) (L : Ledger) (kept : V) (c : Came L kept) (rates : List ℕ) (audit : Audit) (held : K)
        (met : IsMet view τ audit rates held c.mid) where
      abbrev Called : Type 0
      Called = verdict ≡ StoppedInOwn number

      here : c.mid ≡ world (place c.mid.scene.ledger rates) (view held)
      here = ap (λ (r : List ℕ). world (place c.mid.scene.ledger r) c.mid.desk) met.left ∙ ap (λ (x : V). world (place c.mid.scene.ledger rates) x) met.kept

      -- it called for its answer
      pub at_say : c.next ≡ Say → ((text : List ℕ) (more : List (List ℕ)) → m.texts (view held) ≡ text ∷ more → IsPrefixOf told text → Called) → TellsOwnStop m reach verdict audit (view held) L kept
      at_say is found = by c.then
        where
          by : Then c.mid c.next L kept → TellsOwnStop m reach verdict audit (view held) L kept
          by (was_over over text more are prefix ledger keeps) =
              inl (
                (number, inr (found text more (ap (λ (x : V). m.texts x) (sym met.kept) ∙ are) prefix)),
                between audit L (subst (λ (X : Ledger). Sees audit X) (sym ledger) met.sees),
                subst (λ (x : V). m.Alike (view held) x) (sym (keeps ∙ met.kept)) (alike.same (view held)),
              )
          by (was_asked e asks silent leaves keeps) = absurd (cc (is, asks))
          by (has_failed e asks behind line fails prefix ledger keeps) = absurd (cc (is, asks))

      -- it asked for a step, and nothing was answered
      pub at_open : (e : Event) (audit1 : Audit) → c.next ≡ Step e → ((X : Ledger) → LeftByStep τ (place c.mid.scene.ledger rates) e X → (Called × SeesBetween audit1 X) ⊎ IsCutShort verdict)
          → TellsOwnStop m reach verdict audit1 (view held) L kept
      at_open e audit1 is found = by c.then
        where
          told_by : m.Alike (view held) kept → (Called × SeesBetween audit1 L) ⊎ IsCutShort verdict → TellsOwnStop m reach verdict audit1 (view held) L kept
          told_by like (inl so) = inl ((number, inr so.0), so.1, like)
          told_by like (inr cut) = inr (inl (inl cut))

          left_here : (f : Event) → c.next ≡ Step f → LeftByStep τ c.mid.scene f L → LeftByStep τ (place c.mid.scene.ledger rates) e L
          left_here f asks leaves =
              let same : f ≡ e = cc (is, asks) in
              subst (λ (x : Event). LeftByStep τ (place c.mid.scene.ledger rates) x L) same (subst (λ (s : World Place V). LeftByStep τ s.scene f L) here leaves)

          by : Then c.mid c.next L kept → TellsOwnStop m reach verdict audit1 (view held) L kept
          by (was_over over text more are prefix ledger keeps) = absurd (cc (is, over))
          by (was_asked f asks silent leaves keeps) = told_by (subst (λ (x : V). m.Alike (view held) x) (sym (keeps ∙ met.kept)) (alike.same (view held))) (found L (left_here f asks leaves))
          by (has_failed f asks behind line fails prefix ledger keeps) =
              let d = fails.step in
              let event : d.event ≡ f = cc (fails.asked.asks) in
              let failure = failures.fails (count + 1) line d.reply fails.fails in
              let left = failed_left τ c.mid.scene.ledger c.mid.scene.left d failures.node (subst (λ (x : Event). IsSure x) (sym event) fails.sure) fails.asked.did.may failure in
              let leaves : ledger_by τ c.mid.scene.ledger d ≡ L = ap (λ (s : Place). s.ledger) (sym fails.asked.did.new_is) ∙ sym ledger in
              let over = ends c.mid.desk behind.desk fails.asked.turn Say failures.node (turn_reply m τ c.mid behind (Step f) Say d failures.node fails.asked failure) fails.asked.goes in
              told_by (alike.joined (view held) kept c.mid.desk (subst (λ (x : V). m.Alike (view held) x) (sym met.kept) (alike.same (view held))) (subst (λ (x : V). m.Alike x c.mid.desk) (sym keeps) over.1))
              (found L (left_here f asks (subst (λ (x : Event). LeftByStep τ c.mid.scene x L) event (subst (λ (X : Ledger). LeftByStep τ c.mid.scene d.event X) leaves left))))

      -- it asked for a step, and the answer was begun
      pub at_failure : (e : Event) (audit1 : Audit) (desk1 : V) → c.next ≡ Step e → (told ≡ [] → ⊥)
          → ((behind : World Place V) (line : List ℕ) → FailsAt m Fails τ (world (place c.mid.scene.ledger rates) (view held)) behind e (count + 1) line → IsPrefixOf told line
          → (Called × SeesBetween audit1 behind.scene.ledger × m.Alike desk1 behind.desk) ⊎ IsCutShort verdict)
          → TellsOwnStop m reach verdict audit1 desk1 L kept
      at_failure e audit1 desk1 is some found = by c.then
        where
          told_by : (behind : World Place V) → L ≡ behind.scene.ledger → kept ≡ behind.desk → (Called × SeesBetween audit1 behind.scene.ledger × m.Alike desk1 behind.desk) ⊎ IsCutShort verdict
              → TellsOwnStop m reach verdict audit1 desk1 L kept
          told_by behind ledger keeps (inl so) =
              inl ((number, inr so.0), subst (λ (X : Ledger). SeesBetween audit1 X) (sym ledger) so.1, subst (λ (x : V). m.Alike desk1 x) (sym keeps) so.2)
          told_by behind ledger keeps (inr cut) = inr (inl (inl cut))

          by : Then c.mid c.next L kept → TellsOwnStop m reach verdict audit1 desk1 L kept
          by (was_over over text more are prefix ledger keeps) = absurd (cc (is, over))
          by (was_asked f asks silent leaves keeps) = absurd (some silent)
          by (has_failed f asks behind line fails prefix ledger keeps) =
              let same : f ≡ e = cc (is, asks) in
              told_by behind ledger keeps
              (found behind line (subst (λ (x : Event). FailsAt m Fails τ (world (place c.mid.scene.ledger rates) (view held)) behind x (count + 1) line) same
              (subst (λ (s : World Place V). FailsAt m Fails τ s behind f (count + 1) line) here fails)) prefix)

-- == another failure was taken for the one that came ==

module _ {K T : Type 0} (k : Ghosts K T) {V : Type 0} (view : K → V) (m : Model V) (modelled : IsModelOf k view m) (alike : AreAlike m) (ends : EndsByFailure m) (Fails : ℕ → List ℕ → Reply → Type 0) (failures : AreFailures Fails)
    (τ : Tariff) (H : Ledger) (left : List ℕ) (desk : K) (e : Event) (number : ℕ) (line : List ℕ) (mid : World Place V) (f : FailsAt m Fails τ (world (place H left) (view desk)) mid e number line)
    (other : List ℕ) (y : Reply) (fails : Fails number other y) where
  -- the step with that failure
  abbrev pub replaced : StepRecord
  replaced = with_failure f.step y

  event_is : f.step.event ≡ e
  event_is = cc (f.asked.asks)

  may_replace : MayTell τ H left replaced × (ledger_by τ H replaced ≡ ledger_by τ H f.step)
  may_replace = other_failure τ H left f.step y failures.node (subst (λ (x : Event). IsSure x) (sym event_is) f.sure) f.asked.did.may (failures.fails number line f.step.reply f.fails) (failures.fails number other y fails)

  -- it may be taken
  pub replaced_comes : (replaced.event ≡ e) × MayTell τ H left replaced
  replaced_comes = (event_is, may_replace.0)

  -- what it leaves, and what is said then
  pub record Replaced (left1 : List ℕ) (new : Audit) (desk1 : K) (next : Next) (prefix : List ℕ) : Type 0 where
    pub over : next ≡ Say
    pub sees : SeesBetween new mid.scene.ledger
    pub like : m.Alike (view desk1) mid.desk
    pub text : List ℕ
    pub more : List (List ℕ)
    pub are : k.texts desk1 ≡ text ∷ more
    pub begins : IsPrefixOf prefix text

  pub replaced_taken : (left1 : List ℕ) (new : Audit) (desk1 : K) (next : Next) (prefix : List ℕ) → IsPrefixOf prefix other → (one : AskedOne k τ e (world (place H left) desk) new left1 desk1 next)
      → text_of one.d.reply ≡ text_of y → next ≢ Stop → Replaced left1 new desk1 next prefix
  replaced_taken left1 new desk1 next prefix begins one is on =
      let took = asked_takes k τ H e left left1 (text_of y) new desk desk1 next one is in
      let event : one.d.event ≡ replaced.event = took.0.event ∙ sym event_is in
      let ledger : ledger_by τ H one.d ≡ mid.scene.ledger =
      ledgers τ H left one.d replaced took.0.may may_replace.0 event is ∙ may_replace.1 ∙ ap (λ (s : Place). s.ledger) (sym f.asked.did.new_is) in
      let turn : turn_at τ H one.d ≡ turn_at τ H replaced = same_turn τ H left one.d replaced took.0.may may_replace.0 event is in
      let failure = failures.fails number other y fails in
      let goes : m.Goes (view desk) (turn_at τ H replaced) next (view desk1) =
      subst (λ (t : Turn). m.Goes (view desk) t next (view desk1)) turn (modelled.goes desk desk1 (turn_at τ H one.d) next took.1 on) in
      let ours = ends (view desk) (view desk1) (turn_at τ H replaced) next failures.node failure goes in
      let theirs = ends (view desk) mid.desk f.asked.turn Say failures.node
      (turn_reply m τ (world (place H left) (view desk)) mid (Step e) Say f.step failures.node f.asked (failures.fails number line f.step.reply f.fails)) f.asked.goes in
      let t = f.tells (world (place (ledger_by τ H replaced) _) (view desk1)) replaced failures.node (record {
        asks = f.asked.asks;
        turn = turn_at τ H replaced;
        did = record { may = may_replace.0; turn_is = refl; new_is = refl };
        goes = subst (λ (n : Next). m.Goes (view desk) (turn_at τ H replaced) n (view desk1)) ours.0 goes;
      }) failure in
      record {
        over = ours.0;
        sees = between new mid.scene.ledger (subst (λ (X : Ledger). Sees new X) ledger took.0.sees);
        like = alike.joined (view desk1) mid.desk (view desk) ours.1 theirs.1;
        text = t.0;
        more = t.1;
        are = modelled.texts desk1 ∙ t.2;
        begins = subst (λ (l : List ℕ). IsPrefixOf prefix l) (failures.one_line number other t.0 y fails t.3) begins;
      }
