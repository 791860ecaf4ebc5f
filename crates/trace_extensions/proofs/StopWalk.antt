-- A run that was stopped goes the way of the audit, up to the line of the stop.
use Rattle.std.proofs.Common.{◌≡◌, ℕ, List, [], ◌∷◌, ◌++◌, map, Option, Some, refl, sym, subst}
use Rattle.std.specs.List.{AllByRecursion}
use Rattle.bench_base.specs.Ledger.{Ledger}
use Rattle.ledger_moves.specs.Tariffs.{Tariff}
use Rattle.line_extensions.specs.Desks.{World, side_grammar, Does}
use Rattle.line_extensions.specs.SideTrace.{SideStep, side_line}
use Rattle.line_extensions.specs.declared.extension.Extension.{Ghosts}
use Rattle.trace_extensions.specs.Exact.{NoStop, TellsStops, EachStop, Only}
use Rattle.trace_extensions.specs.Fits.{EndsEarly}
use Rattle.trace_extensions.specs.Models.{Model, by_model}
use Rattle.trace_extensions.specs.Places.{Place, MayStep}
use Rattle.trace_extensions.specs.Steps.{AuditWorld, AuditStep, Passed, Heard, Own, Begun, Ended, audit_line, AuditEnds}
use Rattle.trace_extensions.proofs.Translated.{NoneEnds}
use Rattle.trace_extensions.proofs.Walked.{IsSound, texts_in, may_be, heads, tails}

-- a way in which a run is stopped at a line, and what an audit tells of it that ended there
pub record StopWay {K V : Type 0} (view : K → V) (m : Model V) (τ : Tariff) : Type 1 where
  pub AtLine : World Place V → List ℕ → List ℕ → Ledger → V → Type 0
  pub Told : AuditWorld K → Ledger → V → Type 0
  pub none : (at : World Place V) (line : List ℕ) (report : Option (List ℕ)) → NoStop m τ at line report → EachStop AtLine at line report (λ L kept. ⊥)
  pub some : (at : World Place V) (line : List ℕ) (report : Option (List ℕ)) (left : AuditWorld K) → TellsStops m τ at line report view left → EachStop AtLine at line report (Told left)
  pub early : (left : AuditWorld K) (L : Ledger) (kept : V) → EndsEarly left.reach left.verdict → Told left L kept
  pub fine : (at : World Place V) (line told : List ℕ) (L : Ledger) (kept : V) → AtLine at line told L kept → (side_grammar (by_model m)).IsBad line → ⊥

module _ {K T : Type 0} (k : Ghosts K T) {V : Type 0} (view : K → V) (m : Model V) (τ : Tariff) (way : StopWay view m τ) (P : World Place V → Option (List ℕ) → Type 0)
    (line told : List ℕ) (L : Ledger) (kept : V) (new : World Place V) (stop : way.AtLine new line told L kept) where
  -- the stop at the line of the audit
  moved : (at : World Place V) (l : List ℕ) → new ≡ at → l ≡ line → way.AtLine at l told L kept
  moved at l place same = subst (λ (w : World Place V). way.AtLine w l told L kept) place (subst (λ (x : List ℕ). way.AtLine new x told L kept) (sym same) stop)

  no_stop : (at : World Place V) (l : List ℕ) (report : Option (List ℕ)) → NoStop m τ at l report → new ≡ at → l ≡ line → report ≡ Some told → ⊥
  no_stop at l report none place same is = way.none at l report none told L kept (moved at l place same) is

  -- where the audit went on, no run was stopped
  pub walk_none : (xs : List (AuditStep k.Own K)) (more : List (List ℕ)) (ys : List (SideStep (List ℕ))) (at : World Place V) (report : Option (List ℕ)) → map audit_line xs ≡ map side_line ys ++ (line ∷ more) → NoneEnds k xs
      → AllByRecursion (IsSound k view m) ys → Does (by_model m) (MayStep τ) at new ys → report ≡ Some (texts_in k view m ys ++ told) → Only k view m τ P at report xs → ⊥
  walk_none [] more [] at report lines none sound does is only = cc (lines)
  walk_none [] more (b ∷ ys) at report lines none sound does is only = cc (lines)
  walk_none (Passed l ∷ xs) more [] at report lines none sound does is only = no_stop at l report only.0 does (heads k view m line l more (map audit_line xs) (sym lines)) is
  walk_none (Heard l e answer ∷ xs) more [] at report lines none sound does is only = no_stop at l report only.0 does (heads k view m line l more (map audit_line xs) (sym lines)) is
  walk_none (Own l own texts ∷ xs) more [] at report lines none sound does is only = no_stop at l report only.0 does (heads k view m line l more (map audit_line xs) (sym lines)) is
  walk_none (Begun l begun left ∷ xs) more ys at report lines none sound does is only = none.0 tt
  walk_none (Ended l left ∷ xs) more ys at report lines none sound does is only = none.0 tt
  walk_none (Passed l ∷ xs) more (b ∷ ys) at report lines none sound does is only =
      walk_none xs more ys does.0 (Some (texts_in k view m ys ++ told)) (tails k view m _ _ _ _ lines) none.1 sound.1 does.2 refl
      (only.1 does.0 (texts_in k view m ys ++ told) b (may_be k view m τ at l report told b ys new sound.0 (heads k view m _ _ _ _ lines) does is))
  walk_none (Heard l e answer ∷ xs) more (b ∷ ys) at report lines none sound does is only =
      walk_none xs more ys does.0 (Some (texts_in k view m ys ++ told)) (tails k view m _ _ _ _ lines) none.1 sound.1 does.2 refl
      (only.1 does.0 (texts_in k view m ys ++ told) b (may_be k view m τ at l report told b ys new sound.0 (heads k view m _ _ _ _ lines) does is))
  walk_none (Own l own texts ∷ xs) more (b ∷ ys) at report lines none sound does is only =
      walk_none xs more ys does.0 (Some (texts_in k view m ys ++ told)) (tails k view m _ _ _ _ lines) none.1 sound.1 does.2 refl
      (only.1 does.0 (texts_in k view m ys ++ told) b (may_be k view m τ at l report told b ys new sound.0 (heads k view m _ _ _ _ lines) does is))

  -- what is told where the audit ended
  abbrev pub ToldAt : AuditStep k.Own K → Type 0
  ToldAt (Passed l) = ⊥
  ToldAt (Heard l e answer) = ⊥
  ToldAt (Own l own texts) = ⊥
  ToldAt (Begun l begun left) = way.Told left L kept
  ToldAt (Ended l left) = way.Told left L kept

  -- the audit ended at the line of the stop
  pub walk_stop : (xs : List (AuditStep k.Own K)) (last : AuditStep k.Own K) (ys : List (SideStep (List ℕ))) (at : World Place V) (report : Option (List ℕ)) → map audit_line xs ≡ map side_line ys → audit_line last ≡ line
      → NoneEnds k xs → AuditEnds last → AllByRecursion (IsSound k view m) ys → Does (by_model m) (MayStep τ) at new ys → report ≡ Some (texts_in k view m ys ++ told) → Only k view m τ P at report (xs ++ last ∷ []) → ToldAt last
  walk_stop [] (Passed l) ys at report lines same none ends sound does is only = absurd ends
  walk_stop [] (Heard l e answer) ys at report lines same none ends sound does is only = absurd ends
  walk_stop [] (Own l own texts) ys at report lines same none ends sound does is only = absurd ends
  walk_stop [] (Begun l begun left) [] at report lines same none ends sound does is only = way.some at l report left only.0 told L kept (moved at l does same) is
  walk_stop [] (Ended l left) [] at report lines same none ends sound does is only = way.some at l report left only.0 told L kept (moved at l does same) is
  walk_stop [] last (b ∷ ys) at report lines same none ends sound does is only = absurd (cc (lines))
  walk_stop (a ∷ xs) last [] at report lines same none ends sound does is only = absurd (cc (lines))
  walk_stop (Begun l begun left ∷ xs) last ys at report lines same none ends sound does is only = absurd (none.0 tt)
  walk_stop (Ended l left ∷ xs) last ys at report lines same none ends sound does is only = absurd (none.0 tt)
  walk_stop (Passed l ∷ xs) last (b ∷ ys) at report lines same none ends sound does is only =
      walk_stop xs last ys does.0 (Some (texts_in k view m ys ++ told)) (tails k view m _ _ _ _ lines) same none.1 ends sound.1 does.2 refl
      (only.1 does.0 (texts_in k view m ys ++ told) b (may_be k view m τ at l report told b ys new sound.0 (heads k view m _ _ _ _ lines) does is))
  walk_stop (Heard l e answer ∷ xs) last (b ∷ ys) at report lines same none ends sound does is only =
      walk_stop xs last ys does.0 (Some (texts_in k view m ys ++ told)) (tails k view m _ _ _ _ lines) same none.1 ends sound.1 does.2 refl
      (only.1 does.0 (texts_in k view m ys ++ told) b (may_be k view m τ at l report told b ys new sound.0 (heads k view m _ _ _ _ lines) does is))
  walk_stop (Own l own texts ∷ xs) last (b ∷ ys) at report lines same none ends sound does is only =
      walk_stop xs last ys does.0 (Some (texts_in k view m ys ++ told)) (tails k view m _ _ _ _ lines) same none.1 ends sound.1 does.2 refl
      (only.1 does.0 (texts_in k view m ys ++ told) b (may_be k view m τ at l report told b ys new sound.0 (heads k view m _ _ _ _ lines) does is))
