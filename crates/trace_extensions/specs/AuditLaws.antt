-- An audit has the lines of a line handler.
use Rattle.std.proofs.Common.{◌≡◌, inl, inr, ℕ, List, [], ◌∷◌, ◌++◌, Option, Some, refl, sym, ◌∙◌, ap, subst, arith}
use Rattle.std.proofs.lemmas.List.{length-append}
use Rattle.bench_base.specs.Ledger.{Ledger}
use Rattle.ledger_moves.specs.Tariffs.{Tariff}
use Rattle.line_runs.specs.Trace.{FitsGrammar}
use Rattle.line_runs.specs.Turns.{AreDone}
use Rattle.line_extensions.specs.DeskLaws.{side_fits}
use Rattle.line_extensions.specs.Wants.{IsAlone}
use Rattle.line_extensions.specs.Desks.{World, world}
use Rattle.line_extensions.specs.declared.extension.Extension.{Ghosts}
use Rattle.trace_extensions.specs.Places.{Place, place}
use Rattle.trace_extensions.specs.Steps.{AuditWorld, AuditStep, Passed, Heard, Own, Begun, Ended, audit_grammar, audit_lines, AuditIsOf, AuditGoesOn, AuditIsEnd, audit_line}
use Rattle.trace_extensions.specs.Exact.{IsMetIn, Only}
use Rattle.trace_extensions.specs.Models.{Model}
use Rattle.trace_extensions.specs.Worlds.{AuditLeaves, IsSeenAt, MayDo, StopSays, Took, DidAudit, stop_fits}

module _ {K T : Type 0} (k : Ghosts K T) where
  took_both : (x y z : AuditWorld K) (a b : List (AuditStep k.Own K)) → Took k x y a → Took k y z b → Took k x z (a ++ b)
  took_both x y z [] b p q = subst (λ (w : AuditWorld K). Took k w z b) p q
  took_both x y z (Passed line ∷ a) b p q = (p.0, p.1, took_both p.0 y z a b p.2 q)
  took_both x y z (Heard line e answer ∷ a) b p q = (p.0, p.1, took_both p.0 y z a b p.2 q)
  took_both x y z (Own line own texts ∷ a) b p q = (p.0, p.1, took_both p.0 y z a b p.2 q)
  took_both x y z (Begun line told left ∷ a) b p q = (p.0, p.1, took_both left y z a b p.2 q)
  took_both x y z (Ended line left ∷ a) b p q = took_both left y z a b p q

  may_both : (τ : Tariff) (S : StopSays K) (P Q : World Place K → Type 0) (xs ys : List (AuditStep k.Own K)) → ((at : World Place K) → P at → MayDo k τ S Q at ys)
      → (at : World Place K) → MayDo k τ S P at xs → MayDo k τ S Q at (xs ++ ys)
  may_both τ S P Q [] ys next at p = next at p
  may_both τ S P Q (Passed line ∷ xs) ys next at p = may_both τ S P Q xs ys next at p
  may_both τ S P Q (Heard line e answer ∷ xs) ys next at p = (p.0, p.1, p.2, may_both τ S P Q xs ys next p.1 p.3)
  may_both τ S P Q (Own line own texts ∷ xs) ys next at p = (p.0, p.1, p.2, may_both τ S P Q xs ys next p.1 p.3)
  may_both τ S P Q (Begun line told left ∷ xs) ys next at p = p
  may_both τ S P Q (Ended line left ∷ xs) ys next at p = tt

  -- an audit of one who has the same
  at_same : {X : Type 0} (at : World Place X) (ledger : Ledger) (rates : List ℕ) (desk : X) → at.scene.ledger ≡ ledger → at.scene.left ≡ rates
      → at.desk ≡ desk → world (place ledger rates) desk ≡ at
  at_same {X} at ledger rates desk one two three =
      ap (λ (l : Ledger). world (place l rates) desk) (sym one) ∙ ap (λ (r : List ℕ). world (place at.scene.ledger r) desk) (sym two)
      ∙ ap (λ (x : X). world (place at.scene.ledger at.scene.left) x) (sym three)

  module _ {V : Type 0} (view : K → V) (m : Model V) where
    abbrev Met : Tariff → AuditWorld K → World Place V → Option (List ℕ) → Type 0
    Met τ w at report = IsMetIn view τ w at report

    only_both : (τ : Tariff) (P Q : World Place V → Option (List ℕ) → Type 0) (xs ys : List (AuditStep k.Own K))
        → ((at : World Place V) (report : Option (List ℕ)) → P at report → Only k view m τ Q at report ys)
        → (at : World Place V) (report : Option (List ℕ)) → Only k view m τ P at report xs → Only k view m τ Q at report (xs ++ ys)
    only_both τ P Q [] ys next at report p = next at report p
    only_both τ P Q (Passed line ∷ xs) ys next at report p =
        (p.0, λ mid told b may. only_both τ P Q xs ys next mid (Some told) (p.1 mid told b may))
    only_both τ P Q (Heard line e answer ∷ xs) ys next at report p =
        (p.0, λ mid told b may. only_both τ P Q xs ys next mid (Some told) (p.1 mid told b may))
    only_both τ P Q (Own line own texts ∷ xs) ys next at report p =
        (p.0, λ mid told b may. only_both τ P Q xs ys next mid (Some told) (p.1 mid told b may))
    only_both τ P Q (Begun line begun left ∷ xs) ys next at report p = p
    only_both τ P Q (Ended line left ∷ xs) ys next at report p = p

    both : (x y z : AuditWorld K) (a b : List (AuditStep k.Own K)) → DidAudit k view m x y a → DidAudit k view m y z b → DidAudit k view m x z (a ++ b)
    both x y z a b p q = record {
      kept = q.kept ∙ p.kept;
      reach = q.reach ∙ p.reach;
      lines = λ few. omega (arith, few, length-append a b, p.lines (omega (arith, few, length-append a b)), q.lines (omega (arith, few, length-append a b, p.lines (omega (arith, few, length-append a b)))));
      took = took_both x y z a b p.took q.took;
      may = λ τ H texts history sees. may_both τ (stop_fits view m τ) (IsSeenAt τ y.audit y.rates y.desk) (IsSeenAt τ z.audit z.rates z.desk) a b
          (λ at seen. subst (λ (w : World Place K). MayDo k τ (stop_fits view m τ) (IsSeenAt τ z.audit z.rates z.desk) w b)
          (at_same at at.scene.ledger y.rates y.desk refl seen.left seen.desk)
          (q.may τ at.scene.ledger texts seen.history seen.sees)) (world (place H x.rates) x.desk) (p.may τ H texts history sees);
      only = λ τ H texts history sees. only_both τ (Met τ y) (Met τ z) a b
          (λ at report met. subst (λ (r : Option (List ℕ)). Only k view m τ (Met τ z) at r b) met.1
          (subst (λ (w : World Place V). Only k view m τ (Met τ z) w y.report b)
          (at_same at at.scene.ledger y.rates (view y.desk) refl met.0.left met.0.kept)
          (q.only τ at.scene.ledger texts met.0.history met.0.sees)))
          (world (place H x.rates) (view x.desk)) x.report (p.only τ H texts history sees);
    }

    pub audit_done : AreDone (DidAudit k view m) AuditLeaves
    audit_done = record {
      nothing = λ w. record {
        kept = refl;
        reach = refl;
        lines = λ few. omega arith;
        took = refl;
        may = λ τ H texts history sees. record { history = history; sees = sees; left = refl; desk = refl };
        only = λ τ H texts history sees. (record { history = history; sees = sees; left = refl; kept = refl }, refl);
      };
      both = both;
      rests = λ s b other. refl;
    }

  module _ (alone : (own : k.Own) (line : List ℕ) → k.IsOwn own line → IsAlone line) where
    goes_on : (d : AuditStep k.Own K) → AuditIsOf k.IsOwn d → AuditGoesOn d → (audit_grammar k).IsPassing (audit_line d)
    goes_on (Passed line) is goes = inl (inl is)
    goes_on (Heard line e answer) is goes = inl (inr (e, is, goes))
    goes_on (Own line own texts) is goes = inr (own, is.0)
    goes_on (Begun line told left) is goes = absurd goes
    goes_on (Ended line left) is goes = absurd goes

    ends : (d : AuditStep k.Own K) → AuditIsOf k.IsOwn d → AuditIsEnd d → (audit_grammar k).IsEndLine (audit_line d)
    ends (Passed line) is end = absurd end
    ends (Heard line e answer) is end = rw end at is.spells
    ends (Own line own texts) is end = absurd end
    ends (Begun line told left) is end = absurd end
    ends (Ended line left) is end = absurd end

    pub audit_fits : FitsGrammar (audit_lines k)
    audit_fits = record {
      grammar = record {
        end_short = (side_fits k alone).grammar.end_short;
        end_not_passing = (side_fits k alone).grammar.end_not_passing;
        end_not_bad = (side_fits k alone).grammar.end_not_bad;
        passing_not_bad = (side_fits k alone).grammar.passing_not_bad;
        end_wants_none = λ line l wants. wants;
      };
      goes_on = goes_on;
      ends = ends;
    }
