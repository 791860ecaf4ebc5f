-- Claims that are backed by a history hold by it.
use Rattle.std.proofs.Common.{◌≡◌, ℕ, ◌+◌, ◌-◌, List, Option, Some, None, Result, Ok, Err, Bool, true, false, cond, refl, sym, ap, ap₂, ◌∙◌, arith}
use Rattle.std.specs.Prelude.{unwrap_or, ◌==◌, ◌&&◌}
use Rattle.std.proofs.lemmas.Option.{same_Some}
use Rattle.bench_base.specs.declared.refusals.MarkFault.{MarkFault}
use Rattle.bench_base.specs.Ledger.{Ledger, counted}
use Rattle.bench_base.specs.Rules.{editions}
use Rattle.bench_base.specs.Scans.{accepted}
use Rattle.indicium.specs.declared.Mark.{Mark}
use Rattle.indicium.specs.Marks.{read_mark}
use Rattle.node_acts.specs.RowList.{row_at, row_of}
use Rattle.ledger_terms.specs.Editions.{Editions}
use Rattle.ledger_terms.specs.Further.{postage_of}
use Rattle.ledger_moves.specs.Histories.{History}
use Rattle.ledger_moves.specs.Tariffs.{Tariff}
use Rattle.scan_laws.proofs.Marked.{released_postage, one_number}
use Rattle.run_laws.proofs.Sums.{sums_alike}
use Rattle.spoil_claims.specs.Claims.{Claims, claim_at, kept, mark_in, mark_of, postage_in, scan_number, credit_of}
use Rattle.spoil_claims.specs.Holds.{IsCredited, AreBacked, debit_in, debit_of, ClaimsHold}
use Rattle.spoil_claims.specs.declared.claim.ClaimRow.{ClaimRow}

-- what reads as a mark has its MAC after it
with_code : (o : Result (Mark × List ℕ) MarkFault) (k : Mark) → mark_in o ≡ Some k → (code : List ℕ) × (o ≡ Ok (k, code))
with_code (Ok m) k is = (m.1, let same : m.0 ≡ k = same_Some _ _ is in ap (λ (x : Mark). Ok (x, m.1)) same)
with_code (Err fault) k is = absurd (cc)

one_sum : (b c e : ℕ) → b + c ≡ b + e → c ≡ e
one_sum b c e is = omega (arith, is)

module _ (today : Editions editions) (τ : Tariff) (H : Ledger) (history : History τ editions H) (rows : Claims) (b : AreBacked rows H) where
  debited : (c : ℕ) (x : ClaimRow) (k : Mark) → IsCredited rows c x k → postage_of k.device k.piece (counted H) ≡ Some k.postage
  debited c x k is =
      let coded = with_code (read_mark x.mark) k is.reads in
      released_postage τ _ _ H today history x.mark k coded.0 (b.credited c x k is).released coded.1

  once : (c e : ℕ) (x y : ClaimRow) (k l : Mark) → IsCredited rows c x k → IsCredited rows e y l → k.device ≡ l.device → k.piece ≡ l.piece → c ≡ e
  once c e x y k l is is' device piece =
      let here = (b.credited c x k is).accepted in
      let there = (b.credited e y l is').accepted in
      let same : Some (scan_number c) ≡ Some (scan_number e) = sym here ∙ (ap₂ (λ (d p : ℕ). accepted d p (counted H)) device piece ∙ there) in
      one_sum 3000000000 c e (same_Some _ _ same)

  in_cell : (j : ℕ) → kept rows (j + 1) ≡ claim_at rows j
  in_cell j = let back : j + 1 - 1 ≡ j = omega arith in ap (λ (i : ℕ). claim_at rows i) back

  -- one claim
  credit_alike : (w : ℕ) (x : ClaimRow) → ((k : Mark) → x.credited ≡ true → mark_of x.mark ≡ Some k → postage_of k.device k.piece (counted H) ≡ Some k.postage) → credit_of w (Some x) ≡ debit_of w (counted H) (Some x)
  credit_alike w x paid = go x.credited (x.customer == w) refl
    where
      by_mark : x.credited ≡ true → (m : Option Mark) → mark_of x.mark ≡ m → postage_in m ≡ debit_in (counted H) m
      by_mark credited None reads = refl
      by_mark credited (Some k) reads = sym (ap (λ (o : Option ℕ). unwrap_or o 0) (paid k credited reads))

      go : (t u : Bool) → x.credited ≡ t → cond (t && u) (postage_in (mark_of x.mark)) 0 ≡ cond (t && u) (debit_in (counted H) (mark_of x.mark)) 0
      go true true credited = by_mark credited (mark_of x.mark) refl
      go true false credited = refl
      go false u credited = refl

  cell_alike : (w j : ℕ) (o : Option ClaimRow) → claim_at rows j ≡ o → credit_of w o ≡ debit_of w (counted H) o
  cell_alike w j None is = refl
  cell_alike w j (Some x) is = credit_alike w x (λ k credited reads. debited (j + 1) x k (record { first = omega arith; here = in_cell j ∙ is; credited = credited; reads = reads }))

  pub claims_hold : ClaimsHold rows H
  claims_hold = record {
    used = λ c x k is. (b.credited c x k is).accepted;
    once = once;
    no_mail = λ c x k is n within. same_Some _ _ (sym (one_number τ _ _ H today history k.device k.piece n within) ∙ (b.credited c x k is).accepted);
    debited = debited;
    sums = λ w. sums_alike None (λ o. credit_of w (row_of o)) (λ o. debit_of w (counted H) (row_of o)) rows (λ j lt. cell_alike w j (row_of (row_at rows j)) refl);
    backed = b;
  }
