-- A run that was stopped at an own line: what the audit finds there.
use Rattle.std.proofs.Common.{◌≡◌, ◌≢◌, ◌⊎◌, inl, inr, ℕ, List, [], ◌∷◌, ◌++◌, length, Option, true, false, true≢false, refl, sym, ap, ◌∙◌, subst}
use Rattle.std.specs.Prelude.{◌==◌}
use Rattle.std.proofs.lemmas.Bool.Decides.{Decides-eqb}
use Rattle.std.proofs.lemmas.List.{nil_from_length}
use Rattle.bench_base.specs.declared.{events.Event.Event, events.Reply.Reply}
use Rattle.bench_base.specs.Ledger.{Ledger}
use Rattle.bench_base.specs.Rules.{editions}
use Rattle.ledger_moves.specs.Tariffs.{Tariff}
use Rattle.ledger_moves.specs.Histories.{History}
use Rattle.line_runs.specs.Lines.{IsOneLine, ended}
use Rattle.line_extensions.specs.Trace.{StepRecord}
use Rattle.line_extensions.specs.Desks.{World, world, Asks, DidOwn}
use Rattle.line_extensions.specs.Wants.{IsStep}
use Rattle.line_extensions.specs.declared.{extension.Extension.Ghosts, extension.Next.Next, extension.Next.TheVariants.Step, extension.Next.TheVariants.Say, extension.Next.TheVariants.Stop}
use Rattle.trace_bench.specs.Seeing.{Audit, Sees}
use Rattle.trace_bench.specs.Stopping.{IsPrefixOf}
use Rattle.trace_runs.proofs.Alike.{between}
use Rattle.trace_extensions.specs.Exact.{EachOwnLeft, IsCalledStopped, IsMet}
use Rattle.trace_extensions.specs.Fits.{IsCutShort}
use Rattle.trace_extensions.specs.FitsStopped.{IsCutOf, OwnStopped, not_begun, all_of_it, part_of_it, TellsOwnStop}
use Rattle.trace_extensions.specs.Models.{Model, by_model, AreAlike, AreToldOf, IsDetermined, IsIdle, TellsFailures}
use Rattle.trace_extensions.specs.Places.{Place, MayStep}
use Rattle.trace_extensions.specs.Worlds.{LeftSo, one_begun}
use Rattle.trace_extensions.specs.declared.{papers.Reach.Reach, papers.SideVerdict.SideVerdict, papers.SideVerdict.TheVariants.Stopped}
use Rattle.trace_extensions.proofs.Cuts.{cut_first, ended_some, none_long, not_long_cut}
use Rattle.trace_extensions.proofs.Idle.{balance_kept}
use Rattle.trace_extensions.proofs.Lines.{not_one, one_split}

-- what is asked for first is a step, or there is none
say_first : (first : Next) → (IsStep first → ⊥) → first ≢ Stop → first ≡ Say
say_first Say still goes = refl
say_first Stop still goes = absurd (goes refl)
say_first (Step e) still goes = absurd (still tt)

is_step : (first : Next) (e : Event) → first ≡ Step e → IsStep first
is_step first e is = subst (λ (n : Next). IsStep n) (sym is) tt

-- a step that was asked for and changes nothing may have been begun
pub idle_left : {K T : Type 0} (k : Ghosts K T) (τ : Tariff) (scene : Place) (desk : K) (first : Next) (told : List ℕ) (a : Audit) → IsStep first → told ≡ [] → History τ editions scene.ledger → Sees a scene.ledger
    → LeftSo k τ (world scene desk) first told a desk
idle_left k τ scene desk Say told a step none history sees = absurd step
idle_left k τ scene desk Stop told a step none history sees = absurd step
idle_left k τ scene desk (Step e) told a step none history sees =
    one_begun (record { steps = []; new = world scene desk; event = e; asks = (refl, refl); silent = none; history = history; begun = inr sees; left = refl })

pub no_bytes : (l : List ℕ) → true ≡ (length l == 0) → l ≡ []
no_bytes l is = nil_from_length l ((Decides-eqb (length l) 0).0 (sym is))

pub some_bytes : (l : List ℕ) → false ≡ (length l == 0) → l ≡ [] → ⊥
some_bytes l is none = true≢false (sym (is ∙ ap (λ (x : List ℕ). length x == 0) none))

-- where steps were done or one is asked for, the first thing asked for is a step
stepped : {V : Type 0} (m : Model V) (τ : Tariff) (at mid : World Place V) (first : Next) (steps : List StepRecord) (e : Event) → Asks (by_model m) (MayStep τ) at mid first steps (Step e) → IsStep first
stepped m τ at mid first [] e asks = is_step first e (sym asks.0)
stepped m τ at mid first (d ∷ steps) e asks = is_step first d.event asks.2.asks

module _ {V : Type 0} (m : Model V) where
  -- no answer begins with so long a line
  pub no_long : (τ : Tariff) (scene : Place) (v : V) (own told bytes rest : List ℕ) (L : Ledger) (kept : V) → told ≡ bytes ++ rest → IsOneLine bytes → length bytes ≡ 601 → OwnStopped m τ (world scene v) own told L kept → ⊥
  no_long τ scene v own told bytes rest L kept is one long (not_begun here x) = none_long bytes rest (sym is ∙ x.silent) long
  no_long τ scene v own told bytes rest L kept is one long (part_of_it here x) = none_long bytes rest (sym is ∙ x.silent) long
  no_long τ scene v own told bytes rest L kept is one long (all_of_it here x) = not_long_cut (m.texts x.behind.desk) bytes rest one long (subst (λ (l : List ℕ). IsCutOf l (m.texts x.behind.desk)) is x.cut)

module _ {V : Type 0} (m : Model V) (det : IsDetermined m) where
  -- an own line was begun in one way
  pub record BegunSo (τ : Tariff) (scene : Place) (desk : V) (first : Next) (behind : World Place V) (steps : List StepRecord) (next begun : Next) (held : V) : Type 0 where
    pub first_is : begun ≡ first
    pub desk_is : held ≡ desk
    pub asks : Asks (by_model m) (MayStep τ) (world scene desk) behind first steps next

  pub begun_so : (τ : Tariff) (scene : Place) (v desk : V) (line : List ℕ) (first : Next) (behind : World Place V) (steps : List StepRecord) (next : Next) → m.Begins v line first desk
      → (did : DidOwn (by_model m) (MayStep τ) (world scene v) behind line steps next) → BegunSo τ scene desk first behind steps next did.first did.desk
  begun_so τ scene v desk line first behind steps next begins did =
      let same = det.begins v did.desk desk line did.first first did.begins begins in
      record {
        first_is = same.0;
        desk_is = same.1;
        asks = subst (λ (n : Next). Asks (by_model m) (MayStep τ) (world scene desk) behind n steps next) same.0
            (subst (λ (w : V). Asks (by_model m) (MayStep τ) (world scene w) behind did.first steps next) same.1 did.asks);
      }

  module _ (alike : AreAlike m) (Fails : ℕ → List ℕ → Reply → Type 0)
      (telling : (τ : Tariff) (old new : World Place V) (own : List ℕ) (steps : List StepRecord) → DidOwn (by_model m) (MayStep τ) old new own steps Say → TellsFailures Fails steps (m.texts new.desk)) where
    -- == a whole line was read of its answer ==

    -- that is the first text, and the report ends within those after it
    pub record FirstRead (τ : Tariff) (scene : Place) (desk : V) (first : Next) (line told : List ℕ) (L : Ledger) (kept : V) : Type 0 where
      pub behind : World Place V
      pub more : List (List ℕ)
      pub steps : List StepRecord
      pub asks : Asks (by_model m) (MayStep τ) (world scene desk) behind first steps Say
      pub texts : m.texts behind.desk ≡ line ∷ more
      pub tells : AreToldOf Fails 1 line steps
      pub cut : IsCutOf told more
      pub ledger : L ≡ behind.scene.ledger
      pub keeps : kept ≡ behind.desk

    pub first_read : (τ : Tariff) (scene : Place) (v desk : V) (own line told : List ℕ) (first : Next) (L : Ledger) (kept : V) → IsOneLine line → m.Begins v own first desk
        → OwnStopped m τ (world scene v) own (ended line ++ told) L kept → FirstRead τ scene desk first line told L kept
    first_read τ scene v desk own line told first L kept one begins (not_begun is x) = absurd (ended_some line told x.silent)
    first_read τ scene v desk own line told first L kept one begins (part_of_it is x) = absurd (ended_some line told x.silent)
    first_read τ scene v desk own line told first L kept one begins (all_of_it is x) =
        let so = begun_so τ scene v desk own first x.behind x.steps Say begins x.did in
        let t = telling τ (world scene v) x.behind own x.steps x.did in
        elim (subst (λ (l : List (List ℕ)). IsCutOf (ended line ++ told) l) t.are x.cut) [
          | inl p ↦ absurd (not_one line told p.1.one)
          | inr w ↦
              let same = one_split line t.first told w.0 one w.2.one w.1 in
              record {
                behind = x.behind;
                more = t.more;
                steps = x.steps;
                asks = so.asks;
                texts = t.are ∙ ap (λ (l : List ℕ). l ∷ t.more) (sym same.0);
                tells = subst (λ (l : List ℕ). AreToldOf Fails 1 l x.steps) (sym same.0) t.told;
                cut = subst (λ (l : List ℕ). IsCutOf l t.more) (sym same.1) w.3;
                ledger = x.ledger;
                keeps = x.keeps;
              }
        ]

    -- == it is known what was done ==

    module _ {K : Type 0} (view : K → V) (number : ℕ) (reach : Option Reach) (verdict : SideVerdict) (audit : Audit) where
      -- it is called stopped, and what the stop leaves is seen and kept
      pub told_so : (desk : V) (ledger L : Ledger) (kept : V) → IsCalledStopped number verdict → Sees audit ledger → L ≡ ledger → m.Alike desk kept → TellsOwnStop m reach verdict audit desk L kept
      told_so desk ledger L kept (inl is) sees same like = inl ((number, inl is), between audit L (subst (λ (X : Ledger). Sees audit X) (sym same) sees), like)
      told_so desk ledger L kept (inr cut) sees same like = inr (inl (inl cut))

      -- the first line was read, and the steps were taken
      pub first_told : (τ : Tariff) (scene : Place) (desk : V) (first : Next) (line told rates : List ℕ) (L : Ledger) (kept : V) (desk1 : K) → (r : FirstRead τ scene desk first line told L kept) → IsMet view τ audit rates desk1 r.behind
          → IsCalledStopped number verdict → TellsOwnStop m reach verdict audit (view desk1) L kept
      first_told τ scene desk first line told rates L kept desk1 r met called =
          told_so (view desk1) r.behind.scene.ledger L kept called met.sees r.ledger
          (subst (λ (w : V). m.Alike (view desk1) w) (sym met.kept ∙ sym r.keeps) (alike.same (view desk1)))

      module _ (τ : Tariff) (scene : Place) (desk : V) (first : Next) (prefix : List ℕ)
          (idle : prefix ≡ [] → (old new : World Place V) (line : List ℕ) (steps : List StepRecord) (next : Next) (did : DidOwn (by_model m) (MayStep τ) old new line steps next) → did.first ≡ first → did.desk ≡ desk → IsIdle m old new next) where
        -- if nothing was written, what the line begins with changes nothing
        pub first_alike : prefix ≡ [] → (v : V) (line : List ℕ) → m.Begins v line first desk → m.Alike desk v
        first_alike none v line begins =
            (idle none (world scene v) (world scene desk) line [] first (record { first = first; desk = desk; begins = begins; asks = (refl, refl) }) refl refl).alike

        -- nothing that it would have done changes anything
        pub idle_stop : prefix ≡ [] → Sees audit scene.ledger → verdict ≡ Stopped number → EachOwnLeft m τ scene desk first prefix reach (TellsOwnStop m reach verdict audit desk)
        idle_stop none sees is v line L kept begins goes (not_begun here x, agrees) =
            told_so desk scene.ledger L kept (inl is) sees x.ledger (subst (λ (w : V). m.Alike desk w) (sym x.stays) (first_alike none v line begins))
        idle_stop none sees is v line L kept begins goes (all_of_it here x, agrees) =
            let so = begun_so τ scene v desk line first x.behind x.steps Say begins x.did in
            let still = idle none (world scene v) x.behind line x.steps Say x.did so.first_is so.desk_is in
            told_so desk scene.ledger L kept (inl is) sees (x.ledger ∙ still.ledger)
            (subst (λ (w : V). m.Alike desk w) (sym x.keeps) (alike.joined desk x.behind.desk v (first_alike none v line begins) still.alike))
        idle_stop none sees is v line L kept begins goes (part_of_it here x, agrees) =
            let so = begun_so τ scene v desk line first x.behind x.steps (Step x.event) begins x.did in
            let still = idle none (world scene v) x.behind line x.steps (Step x.event) x.did so.first_is so.desk_is in
            let asks = still.asks x.event refl in
            told_so desk scene.ledger L kept (inl is) sees (balance_kept τ x.behind.scene x.event asks.0 L asks.1 x.leaves ∙ still.ledger)
            (subst (λ (w : V). m.Alike desk w) (sym x.keeps) (alike.joined desk x.behind.desk v (first_alike none v line begins) still.alike))

        -- all was done, or nothing, which comes to the same
        module _ (rates : List ℕ) (desk1 : K) (still : prefix ≡ [] → IsStep first → ⊥) (one : IsOneLine prefix)
            (settled : (old new : World Place V) (line text : List ℕ) (more : List (List ℕ)) (steps : List StepRecord) (did : DidOwn (by_model m) (MayStep τ) old new line steps Say) → did.first ≡ first → did.desk ≡ desk
            → m.texts new.desk ≡ text ∷ more → IsPrefixOf prefix text → AreToldOf Fails 1 prefix steps)
            (done : (behind : World Place V) (text : List ℕ) (more : List (List ℕ)) (steps : List StepRecord) → Asks (by_model m) (MayStep τ) (world scene desk) behind first steps Say → AreToldOf Fails 1 prefix steps
            → m.texts behind.desk ≡ text ∷ more → IsPrefixOf prefix text → ((verdict ≡ Stopped number) × IsMet view τ audit rates desk1 behind) ⊎ IsCutShort verdict) where
          met_told : (behind : World Place V) (L : Ledger) (kept : V) → ((verdict ≡ Stopped number) × IsMet view τ audit rates desk1 behind) ⊎ IsCutShort verdict → L ≡ behind.scene.ledger
              → (behind.desk ≡ view desk1 → m.Alike (view desk1) kept) → TellsOwnStop m reach verdict audit (view desk1) L kept
          met_told behind L kept (inl met) same like = told_so (view desk1) behind.scene.ledger L kept (inl met.0) met.1.sees same (like met.1.kept)
          met_told behind L kept (inr cut) same like = inr (inl (inl cut))

          pub known_stop : EachOwnLeft m τ scene desk first prefix reach (TellsOwnStop m reach verdict audit (view desk1))
          known_stop v line L kept begins goes (not_begun here x, agrees) =
              let say : first ≡ Say = say_first first (still x.silent) goes in
              let t = telling τ (world scene v) (world scene desk) line [] (record { first = first; desk = desk; begins = begins; asks = (sym say, refl) }) in
              met_told (world scene desk) L kept
              (done (world scene desk) t.first t.more [] (sym say, refl) tt t.are (t.first, ap (λ (l : List ℕ). l ++ t.first) (sym x.silent))) x.ledger
              (λ same. subst (λ (w : V). m.Alike w kept) same (subst (λ (w : V). m.Alike desk w) (sym x.stays) (first_alike x.silent v line begins)))
          known_stop v line L kept begins goes (all_of_it here x, agrees) =
              let so = begun_so τ scene v desk line first x.behind x.steps Say begins x.did in
              let t = telling τ (world scene v) x.behind line x.steps x.did in
              let p = cut_first t.first t.more prefix one (subst (λ (l : List (List ℕ)). IsCutOf prefix l) t.are x.cut) in
              let told = settled (world scene v) x.behind line t.first t.more x.steps x.did so.first_is so.desk_is t.are p in
              met_told x.behind L kept (done x.behind t.first t.more x.steps so.asks told t.are p) x.ledger
              (λ same. subst (λ (w : V). m.Alike (view desk1) w) (sym same ∙ sym x.keeps) (alike.same (view desk1)))
          known_stop v line L kept begins goes (part_of_it here x, agrees) =
              let so = begun_so τ scene v desk line first x.behind x.steps (Step x.event) begins x.did in
              absurd (still x.silent (stepped m τ (world scene desk) x.behind first x.steps x.event so.asks))
