-- What an audit did for the lines of a run is, at each history, what a bench and the extension may have done.
use Rattle.std.proofs.Common.{◌≡◌, suc, ℕ, ◌≤◌, List, [], ◌∷◌, ◌++◌, length, flat_map, refl, sym, ◌∙◌, ap, subst}
use Rattle.std.specs.List.{AllByRecursion}
use Rattle.std.specs.Io.KnownBytes.{Consumes}
use Rattle.std.proofs.KnownBytes.{Consumes-nil, Consumes-trans}
use Rattle.ledger_moves.specs.Tariffs.{Tariff}
use Rattle.line_runs.specs.Lines.{ended, IsOneLine}
use Rattle.line_runs.specs.Trace.{Reads, script_of, report_of}
use Rattle.line_extensions.specs.Trace.{Skipped, Did}
use Rattle.line_extensions.specs.Desks.{World, side_lines, DoesOne, Does}
use Rattle.line_extensions.specs.DeskLaws.{side_done}
use Rattle.line_extensions.specs.Events.{IsLineOf}
use Rattle.line_extensions.specs.SideTrace.{SideStep, Plain, side_line, side_text, SideIsOf, SideIsEnd, SideGoesOn}
use Rattle.line_extensions.specs.SideTrace as side
use Rattle.line_extensions.specs.declared.extension.Extension.{Ghosts}
use Rattle.bench_base.specs.declared.events.Event.{Event}
use Rattle.trace_extensions.specs.Fits.{HasTexts}
use Rattle.trace_extensions.specs.Places.{Place, MayStep}
use Rattle.trace_extensions.specs.Steps.{AuditWorld, AuditStep, Passed, Heard, Own, Begun, Ended, audit_line, audit_text, audit_lines, AuditIsOf, AuditIsEnd, AuditGoesOn, AuditEnds}
use Rattle.trace_extensions.specs.Worlds.{MayDo, StopSays, Took}

module _ {K T : Type 0} (k : Ghosts K T) where
  -- the step of the audit is that of a run
  pub record IsStepOf (a : AuditStep k.Own K) (b : SideStep k.Own) : Type 0 where
    pub line : side_line b ≡ audit_line a
    pub text : side_text b ≡ audit_text a
    pub is : AuditIsOf k.IsOwn a → SideIsOf k.IsOwn b
    pub texts : AuditIsOf k.IsOwn a → HasTexts b
    pub goes : AuditGoesOn a → SideGoesOn b
    pub end : AuditIsEnd a → SideIsEnd b

  abbrev pub AreStepsOf : List (AuditStep k.Own K) → List (SideStep k.Own) → Type 0
  AreStepsOf [] [] = Unit {0}
  AreStepsOf [] (b ∷ ys) = ⊥
  AreStepsOf (a ∷ xs) [] = ⊥
  AreStepsOf (a ∷ xs) (b ∷ ys) = IsStepOf a b × AreStepsOf xs ys

  -- the audit didn't end in them
  abbrev pub NoneEnds : List (AuditStep k.Own K) → Type 0
  NoneEnds [] = Unit {0}
  NoneEnds (a ∷ xs) = (AuditEnds a → ⊥) × NoneEnds xs

  -- == what was done ==

  pub may_split : (τ : Tariff) (S : StopSays K) (P : World Place K → Type 0) (xs ys : List (AuditStep k.Own K)) → NoneEnds xs → (at : World Place K) → MayDo k τ S P at (xs ++ ys)
      → MayDo k τ S (λ mid. MayDo k τ S P mid ys) at xs
  may_split τ S P [] ys none at may = may
  may_split τ S P (Passed line ∷ xs) ys none at may = may_split τ S P xs ys none.1 at may
  may_split τ S P (Heard line e answer ∷ xs) ys none at may = (may.0, may.1, may.2, may_split τ S P xs ys none.1 may.1 may.3)
  may_split τ S P (Own line own texts ∷ xs) ys none at may = (may.0, may.1, may.2, may_split τ S P xs ys none.1 may.1 may.3)
  may_split τ S P (Begun line told left ∷ xs) ys none at may = absurd (none.0 tt)
  may_split τ S P (Ended line left ∷ xs) ys none at may = absurd (none.0 tt)

  -- some steps of a run did them, and P holds of what they leave
  pub record Done (τ : Tariff) (P : World Place K → Type 0) (at : World Place K) (xs : List (AuditStep k.Own K)) : Type 0 where
    pub steps : List (SideStep k.Own)
    pub new : World Place K
    pub are : AreStepsOf xs steps
    pub does : Does k (MayStep τ) at new steps
    pub that : P new

  one_more : (τ : Tariff) (P : World Place K → Type 0) (at mid : World Place K) (a : AuditStep k.Own K) (xs : List (AuditStep k.Own K)) (b : SideStep k.Own) → IsStepOf a b → DoesOne k (MayStep τ) at mid b
      → Done τ P mid xs → Done τ P at (a ∷ xs)
  one_more τ P at mid a xs b is does w = record { steps = b ∷ w.steps; new = w.new; are = (is, w.are); does = (mid, does, w.does); that = w.that }

  pub done : (τ : Tariff) (S : StopSays K) (P : World Place K → Type 0) (xs : List (AuditStep k.Own K)) → NoneEnds xs → (at : World Place K) → MayDo k τ S P at xs → Done τ P at xs
  done τ S P [] none at may = record { steps = []; new = at; are = tt; does = refl; that = may }
  done τ S P (Passed line ∷ xs) none at may =
      one_more τ P at at (Passed line) xs (Plain (Skipped line)) (record { line = refl; text = refl; is = λ is. is; texts = λ is. tt; goes = λ goes. goes; end = λ end. end }) refl (done τ S P xs none.1 at may)
  done τ S P (Heard line e answer ∷ xs) none at (d, mid, h, may) =
      one_more τ P at mid (Heard line e answer) xs (Plain (Did line d)) (record {
        line = refl;
        text = ap (λ (l : List ℕ). ended l) h.text;
        is = λ is. (subst (λ (x : Event). IsLineOf x line) (sym h.event) is, h.did.did.may.whole);
        texts = λ is. tt;
        goes = λ goes end. goes (sym h.event ∙ end);
        end = λ end. h.event ∙ end;
      }) h.did (done τ S P xs none.1 mid may)
  done τ S P (Own line own texts ∷ xs) none at (steps, mid, answered, may) =
      one_more τ P at mid (Own line own texts) xs (side.Own line own steps texts) (record { line = refl; text = refl; is = λ is. is.0; texts = λ is. is.1; goes = λ goes. goes; end = λ end. end }) answered
      (done τ S P xs none.1 mid may)
  done τ S P (Begun line told left ∷ xs) none at may = absurd (none.0 tt)
  done τ S P (Ended line left ∷ xs) none at may = absurd (none.0 tt)

  -- of the lines before the last, and of the last
  pub record DoneTwice (τ : Tariff) (P : World Place K → Type 0) (at : World Place K) (xs ys : List (AuditStep k.Own K)) : Type 0 where
    pub first : List (SideStep k.Own)
    pub last : List (SideStep k.Own)
    pub new : World Place K
    pub are_first : AreStepsOf xs first
    pub are_last : AreStepsOf ys last
    pub does : Does k (MayStep τ) at new (first ++ last)
    pub that : P new

  pub done_twice : (τ : Tariff) (S : StopSays K) (P : World Place K → Type 0) (xs ys : List (AuditStep k.Own K)) → NoneEnds xs → NoneEnds ys → (at : World Place K) → MayDo k τ S P at (xs ++ ys) → DoneTwice τ P at xs ys
  done_twice τ S P xs ys none none' at may =
      let one = done τ S (λ mid. MayDo k τ S P mid ys) xs none at (may_split τ S P xs ys none at may) in
      let two = done τ S P ys none' one.new one.that in
      record {
        first = one.steps;
        last = two.steps;
        new = two.new;
        are_first = one.are;
        are_last = two.are;
        does = (side_done k (MayStep τ) (λ s t. ⊥)).both at one.new two.new one.steps two.steps one.does two.does;
        that = two.that;
      }

  -- == the same lines and texts ==

  pub same_length : (xs : List (AuditStep k.Own K)) (ys : List (SideStep k.Own)) → AreStepsOf xs ys → length ys ≡ length xs
  same_length [] [] are = refl
  same_length [] (b ∷ ys) are = absurd are
  same_length (a ∷ xs) [] are = absurd are
  same_length (a ∷ xs) (b ∷ ys) are = ap suc (same_length xs ys are.1)

  pub same_script : (xs : List (AuditStep k.Own K)) (ys : List (SideStep k.Own)) → AreStepsOf xs ys → script_of (side_lines k) ys ≡ script_of (audit_lines k) xs
  same_script [] [] are = refl
  same_script [] (b ∷ ys) are = absurd are
  same_script (a ∷ xs) [] are = absurd are
  same_script (a ∷ xs) (b ∷ ys) are =
      ap (λ (l : List ℕ). ended l ++ script_of (side_lines k) ys) are.0.line ∙ ap (λ (l : List ℕ). ended (audit_line a) ++ l) (same_script xs ys are.1)

  abbrev pub texts_of : List (AuditStep k.Own K) → List ℕ
  texts_of xs = flat_map (λ a. audit_text a) xs

  pub same_report : (xs : List (AuditStep k.Own K)) (ys : List (SideStep k.Own)) → AreStepsOf xs ys → report_of (side_lines k) ys ≡ texts_of xs
  same_report [] [] are = refl
  same_report [] (b ∷ ys) are = absurd are
  same_report (a ∷ xs) [] are = absurd are
  same_report (a ∷ xs) (b ∷ ys) are =
      ap (λ (l : List ℕ). l ++ report_of (side_lines k) ys) are.0.text ∙ ap (λ (l : List ℕ). audit_text a ++ l) (same_report xs ys are.1)

  pub read_step : (a : AuditStep k.Own K) (b : SideStep k.Own) → IsStepOf a b → Reads (audit_lines k) a → Reads (side_lines k) b
  read_step a b is reads = record {
    one = subst (λ (l : List ℕ). IsOneLine l) (sym is.line) reads.one;
    short = subst (λ (l : List ℕ). length l ≤ 600) (sym is.line) reads.short;
    is = is.is reads.is;
  }

  pub all_read : (xs : List (AuditStep k.Own K)) (ys : List (SideStep k.Own)) → AreStepsOf xs ys → AllByRecursion (Reads (audit_lines k)) xs → AllByRecursion (Reads (side_lines k)) ys
  all_read [] [] are each = tt
  all_read [] (b ∷ ys) are each = absurd are
  all_read (a ∷ xs) [] are each = absurd are
  all_read (a ∷ xs) (b ∷ ys) are each = (read_step a b are.0 each.0, all_read xs ys are.1 each.1)

  pub all_go_on : (xs : List (AuditStep k.Own K)) (ys : List (SideStep k.Own)) → AreStepsOf xs ys → AllByRecursion (audit_lines k).GoesOn xs → AllByRecursion (side_lines k).GoesOn ys
  all_go_on [] [] are each = tt
  all_go_on [] (b ∷ ys) are each = absurd are
  all_go_on (a ∷ xs) [] are each = absurd are
  all_go_on (a ∷ xs) (b ∷ ys) are each = (are.0.goes each.0, all_go_on xs ys are.1 each.1)

  pub all_texts : (xs : List (AuditStep k.Own K)) (ys : List (SideStep k.Own)) → AreStepsOf xs ys → AllByRecursion (Reads (audit_lines k)) xs → AllByRecursion HasTexts ys
  all_texts [] [] are each = tt
  all_texts [] (b ∷ ys) are each = absurd are
  all_texts (a ∷ xs) [] are each = absurd are
  all_texts (a ∷ xs) (b ∷ ys) are each = (are.0.texts each.0.is, all_texts xs ys are.1 each.1)

  -- what goes on doesn't end the audit
  pub going : (xs : List (AuditStep k.Own K)) → AllByRecursion (audit_lines k).GoesOn xs → NoneEnds xs
  going [] each = tt
  going (Passed line ∷ xs) each = (λ ends. ends, going xs each.1)
  going (Heard line e answer ∷ xs) each = (λ ends. ends, going xs each.1)
  going (Own line own texts ∷ xs) each = (λ ends. ends, going xs each.1)
  going (Begun line told left ∷ xs) each = absurd each.0
  going (Ended line left ∷ xs) each = absurd each.0

  pub took_split : (x z : AuditWorld K) (xs ys : List (AuditStep k.Own K)) → Took k x z (xs ++ ys) → (y : AuditWorld K) × Took k x y xs × Took k y z ys
  took_split x z [] ys t = (x, refl, t)
  took_split x z (Passed line ∷ xs) ys t = let w = took_split t.0 z xs ys t.2 in (w.0, (t.0, t.1, w.1), w.2)
  took_split x z (Heard line e answer ∷ xs) ys t = let w = took_split t.0 z xs ys t.2 in (w.0, (t.0, t.1, w.1), w.2)
  took_split x z (Own line own texts ∷ xs) ys t = let w = took_split t.0 z xs ys t.2 in (w.0, (t.0, t.1, w.1), w.2)
  took_split x z (Begun line told left ∷ xs) ys t = let w = took_split left z xs ys t.2 in (w.0, (t.0, t.1, w.1), w.2)
  took_split x z (Ended line left ∷ xs) ys t = let w = took_split left z xs ys t in (w.0, w.1, w.2)

  pub took : (x y : AuditWorld K) (xs : List (AuditStep k.Own K)) → NoneEnds xs → Took k x y xs → Consumes x.report y.report (texts_of xs)
  took x y [] none t = subst (λ (w : AuditWorld K). Consumes x.report w.report []) (sym t) (Consumes-nil x.report)
  took x y (Passed line ∷ xs) none t = Consumes-trans x.report t.0.report y.report [] (texts_of xs) t.1 (took t.0 y xs none.1 t.2)
  took x y (Heard line e answer ∷ xs) none t = Consumes-trans x.report t.0.report y.report (ended answer) (texts_of xs) t.1 (took t.0 y xs none.1 t.2)
  took x y (Own line own texts ∷ xs) none t = Consumes-trans x.report t.0.report y.report (flat_map ended texts) (texts_of xs) t.1 (took t.0 y xs none.1 t.2)
  took x y (Begun line told left ∷ xs) none t = absurd (none.0 tt)
  took x y (Ended line left ∷ xs) none t = absurd (none.0 tt)
