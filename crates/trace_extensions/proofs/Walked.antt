-- A run that fits goes the way of the audit, line by line.
use Rattle.std.proofs.Common.{◌≡◌, inl, inr, ℕ, List, [], ◌∷◌, ◌++◌, map, Option, Some, refl, sym, ◌∙◌, ap, subst, append_assoc}
use Rattle.std.specs.List.{AllByRecursion}
use Rattle.ledger_moves.specs.Tariffs.{Tariff}
use Rattle.line_runs.specs.Trace.{report_of}
use Rattle.line_extensions.specs.Desks.{World, side_lines, Does}
use Rattle.line_extensions.specs.SideTrace.{SideStep, side_line, side_text, SideIsOf, IsBroken}
use Rattle.line_extensions.specs.declared.extension.Extension.{Ghosts}
use Rattle.trace_extensions.specs.Exact.{MayBe, Only}
use Rattle.trace_extensions.specs.declared.{papers.Reach.Reach, papers.SideVerdict.SideVerdict}
use Rattle.trace_extensions.specs.Fits.{EndsEarly, IsOpen, HasTexts}
use Rattle.trace_extensions.specs.Models.{Model, by_model}
use Rattle.trace_extensions.specs.Places.{Place, MayStep}
use Rattle.trace_extensions.specs.Steps.{AuditStep, Passed, Heard, Own, Begun, Ended, audit_line, AuditEnds}
use Rattle.trace_extensions.proofs.Translated.{NoneEnds}

-- an audit that ended early leaves it open
pub early_open : (reach : Option Reach) (verdict : SideVerdict) → EndsEarly reach verdict → IsOpen reach verdict
early_open reach verdict (inl cut) = inl cut
early_open reach verdict (inr past) = inr (past.0, past.1, inr past.2)

module _ {K T : Type 0} (k : Ghosts K T) {V : Type 0} (view : K → V) (m : Model V) where
  -- a step of a run that goes on or ends by its script
  pub record IsSound (b : SideStep (List ℕ)) : Type 0 where
    pub is : SideIsOf (by_model m).IsOwn b
    pub whole : IsBroken b → ⊥
    pub texts : HasTexts b

  abbrev pub texts_in : List (SideStep (List ℕ)) → List ℕ
  texts_in ys = report_of (side_lines (by_model m)) ys

  pub may_be : (τ : Tariff) (at : World Place V) (line : List ℕ) (report : Option (List ℕ)) (told : List ℕ) (b : SideStep (List ℕ)) (ys : List (SideStep (List ℕ))) (new : World Place V) → IsSound b → side_line b ≡ line
      → (does : Does (by_model m) (MayStep τ) at new (b ∷ ys)) → report ≡ Some ((side_text b ++ texts_in ys) ++ told) → MayBe m τ at does.0 line report (texts_in ys ++ told) b
  may_be τ at line report told b ys new sound is does report_is = record {
    line_is = is;
    is = sound.is;
    whole = sound.whole;
    texts = sound.texts;
    did = does.1;
    report_is = report_is ∙ ap (λ (l : List ℕ). Some l) (append_assoc (side_text b) (texts_in ys) told);
  }

  pub heads : (x y : List ℕ) (xs ys : List (List ℕ)) → x ∷ xs ≡ y ∷ ys → y ≡ x
  heads x y xs ys is = cc (is)

  pub tails : (x y : List ℕ) (xs ys : List (List ℕ)) → x ∷ xs ≡ y ∷ ys → xs ≡ ys
  tails x y xs ys is = cc (is)

  module _ (τ : Tariff) (P : World Place V → Option (List ℕ) → Type 0) where
    -- the same lines, up to the end of both
    pub walk : (xs : List (AuditStep k.Own K)) (ys : List (SideStep (List ℕ))) (at new : World Place V) (report : Option (List ℕ)) (told : List ℕ) → map audit_line xs ≡ map side_line ys → NoneEnds k xs → AllByRecursion IsSound ys
        → Does (by_model m) (MayStep τ) at new ys → report ≡ Some (texts_in ys ++ told) → Only k view m τ P at report xs → P new (Some told)
    walk [] [] at new report told lines none sound does is only = subst (λ (r : Option (List ℕ)). P new r) is (subst (λ (w : World Place V). P w report) (sym does) only)
    walk [] (b ∷ ys) at new report told lines none sound does is only = absurd (cc (lines))
    walk (a ∷ xs) [] at new report told lines none sound does is only = absurd (cc (lines))
    walk (Passed line ∷ xs) (b ∷ ys) at new report told lines none sound does is only =
        walk xs ys does.0 new (Some (texts_in ys ++ told)) told (tails _ _ _ _ lines) none.1 sound.1 does.2 refl (only.1 does.0 (texts_in ys ++ told) b (may_be τ at line report told b ys new sound.0 (heads _ _ _ _ lines) does is))
    walk (Heard line e answer ∷ xs) (b ∷ ys) at new report told lines none sound does is only =
        walk xs ys does.0 new (Some (texts_in ys ++ told)) told (tails _ _ _ _ lines) none.1 sound.1 does.2 refl (only.1 does.0 (texts_in ys ++ told) b (may_be τ at line report told b ys new sound.0 (heads _ _ _ _ lines) does is))
    walk (Own line own texts ∷ xs) (b ∷ ys) at new report told lines none sound does is only =
        walk xs ys does.0 new (Some (texts_in ys ++ told)) told (tails _ _ _ _ lines) none.1 sound.1 does.2 refl (only.1 does.0 (texts_in ys ++ told) b (may_be τ at line report told b ys new sound.0 (heads _ _ _ _ lines) does is))
    walk (Begun line begun left ∷ xs) (b ∷ ys) at new report told lines none sound does is only = absurd (none.0 tt)
    walk (Ended line left ∷ xs) (b ∷ ys) at new report told lines none sound does is only = absurd (none.0 tt)

    -- what the audit left where it ended
    abbrev pub EndedAt : AuditStep k.Own K → Type 0
    EndedAt (Passed line) = ⊥
    EndedAt (Heard line e answer) = ⊥
    EndedAt (Own line own texts) = ⊥
    EndedAt (Begun line told left) = EndsEarly left.reach left.verdict
    EndedAt (Ended line left) = EndsEarly left.reach left.verdict

    -- the run goes on at the line at which the audit ended
    pub walk_past : (xs : List (AuditStep k.Own K)) (last : AuditStep k.Own K) (more : List (List ℕ)) (ys : List (SideStep (List ℕ))) (at new : World Place V) (report : Option (List ℕ)) (told : List ℕ)
        → map audit_line xs ++ (audit_line last ∷ more) ≡ map side_line ys → NoneEnds k xs → AuditEnds last → AllByRecursion IsSound ys → Does (by_model m) (MayStep τ) at new ys → report ≡ Some (texts_in ys ++ told)
        → Only k view m τ P at report (xs ++ last ∷ []) → EndedAt last
    walk_past [] last more [] at new report told lines none ends sound does is only = absurd (cc (lines))
    walk_past [] (Passed line) more (b ∷ ys) at new report told lines none ends sound does is only = absurd ends
    walk_past [] (Heard line e answer) more (b ∷ ys) at new report told lines none ends sound does is only = absurd ends
    walk_past [] (Own line own texts) more (b ∷ ys) at new report told lines none ends sound does is only = absurd ends
    walk_past [] (Begun line begun left) more (b ∷ ys) at new report told lines none ends sound does is only =
        only.1 does.0 (texts_in ys ++ told) b (may_be τ at line report told b ys new sound.0 (heads _ _ _ _ lines) does is)
    walk_past [] (Ended line left) more (b ∷ ys) at new report told lines none ends sound does is only =
        only.1 does.0 (texts_in ys ++ told) b (may_be τ at line report told b ys new sound.0 (heads _ _ _ _ lines) does is)
    walk_past (a ∷ xs) last more [] at new report told lines none ends sound does is only = absurd (cc (lines))
    walk_past (Passed line ∷ xs) last more (b ∷ ys) at new report told lines none ends sound does is only =
        walk_past xs last more ys does.0 new (Some (texts_in ys ++ told)) told (tails _ _ _ _ lines) none.1 ends sound.1 does.2 refl
        (only.1 does.0 (texts_in ys ++ told) b (may_be τ at line report told b ys new sound.0 (heads _ _ _ _ lines) does is))
    walk_past (Heard line e answer ∷ xs) last more (b ∷ ys) at new report told lines none ends sound does is only =
        walk_past xs last more ys does.0 new (Some (texts_in ys ++ told)) told (tails _ _ _ _ lines) none.1 ends sound.1 does.2 refl
        (only.1 does.0 (texts_in ys ++ told) b (may_be τ at line report told b ys new sound.0 (heads _ _ _ _ lines) does is))
    walk_past (Own line own texts ∷ xs) last more (b ∷ ys) at new report told lines none ends sound does is only =
        walk_past xs last more ys does.0 new (Some (texts_in ys ++ told)) told (tails _ _ _ _ lines) none.1 ends sound.1 does.2 refl
        (only.1 does.0 (texts_in ys ++ told) b (may_be τ at line report told b ys new sound.0 (heads _ _ _ _ lines) does is))
    walk_past (Begun line begun left ∷ xs) last more (b ∷ ys) at new report told lines none ends sound does is only = absurd (none.0 tt)
    walk_past (Ended line left ∷ xs) last more (b ∷ ys) at new report told lines none ends sound does is only = absurd (none.0 tt)
