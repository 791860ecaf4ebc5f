-- A line of the desk is neither skipped nor the line of `end`.
use Rattle.std.proofs.Common.{◌≡◌, ◌≢◌, inl, inr, ℕ, List, [], ◌∷◌, get_or, arith, sym, subst, ◌∙◌, ap}
use Rattle.std.specs.Prelude.{codes, decimal}
use Rattle.bench_base.specs.declared.events.Event.{Event}
use Rattle.bench_base.specs.declared.events.Event.TheVariants as ev
use Rattle.script_words.specs.Words.{joined, hex_word}
use Rattle.script_text.specs.Grammar.{IsSkipped}
use Rattle.script_text.proofs.EachEvent.{one_event_of, no_event_skipped}
use Rattle.line_extensions.specs.Events.{IsLineOf}
use Rattle.line_extensions.specs.Wants.{IsAlone}
use Rattle.spoil_claims.specs.ClaimLines.{IsClaimLine}
use Rattle.spoil_claims.specs.declared.{claim.ClaimLine.ClaimLine, claim.ClaimLine.TheVariants.Claim, claim.ClaimLine.TheVariants.Credits, claim.ClaimLine.TheVariants.Reserved}
use Rattle.script_words.proofs.Splits.{begins_with}

-- a line that is that of another event than `end`
event_alone : (e : Event) (line : List ℕ) → IsLineOf e line → e ≢ ev.End → IsAlone line
event_alone e line is other = record {
  not_skipped = λ skipped. no_event_skipped e line is.spells skipped;
  not_end = λ end. other (one_event_of e ev.End line is.whole tt is.spells end);
}

-- a line that begins with c
first_alone : (tail line : List ℕ) → line ≡ 99 ∷ tail → IsAlone line
first_alone tail line is = record {
  not_skipped = λ skipped. let at : 99 ≡ 35 = subst (λ (l : List ℕ). IsSkipped l) is skipped in omega (arith, at);
  not_end = λ end. let two : 99 ∷ tail ≡ codes "end" = sym is ∙ end.2
      ∙ ap (λ (ws : List (List ℕ)). joined ws) end.1 in let first : 99 ≡ 101 = ap (λ (l : List ℕ). get_or l 0 0) two in omega (arith, first);
}

pub claim_alone : (own : ClaimLine) (line : List ℕ) → IsClaimLine own line → IsAlone line
claim_alone (Claim c w mark) line is = let at = begins_with 99 (codes "laim") (decimal c ∷ decimal w ∷ hex_word mark ∷ []) line is.1 in
    first_alone at.0 line at.1
claim_alone (Credits w) line is = let at = begins_with 99 (codes "redits") (decimal w ∷ []) line is.1 in first_alone at.0 line at.1
claim_alone Reserved line is = elim is.2 [
  | inl scan ↦ event_alone (ev.ScanMsg is.0 scan.0) line scan.1 (λ same. cc)
  | inr scan ↦ event_alone (ev.ScanHex is.0 scan.0) line scan.1 (λ same. cc)
]
