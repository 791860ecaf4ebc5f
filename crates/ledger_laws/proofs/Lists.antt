-- What was applied is the beginning of what was ruled, except for at most one ruling. The lists have the newest first, so their
-- beginning in time is their end.

use Rattle.std.proofs.Common.{◌≡◌, ℕ, ◌+◌, ◌≤◌, List, [], ◌∷◌, ◌++◌, Option, Some, refl, sym, ap, subst, ◌∙◌, arith}
use Rattle.std.proofs.lemmas.Option.{same_Some}
use Rattle.bench_base.specs.declared.{words.Verdict.Verdict, ledger.Commit.Commit, ledger.Commit.TheVariants.Applied, ledger.Commit.TheVariants.Ruled}
use Rattle.bench_base.specs.Rules.{Rules}
use Rattle.bench_base.proofs.Facts.{either}
use Rattle.psd_wire.specs.declared.message.Request.{Request}
use Rattle.ledger_terms.specs.Requests.{request_in, in_note, request_of}
use Rattle.ledger_terms.specs.Sums.{applied_list, ruled_list}
use Rattle.ledger_terms.specs.Devices.{asked, number, pending}
use Rattle.ledger_terms.specs.Centres.{ruled}
use Rattle.ledger_terms.specs.InFlight.{ruling_of}
use Rattle.centre_ledger.specs.Records.{last_ruling}
use Rattle.ledger_laws.proofs.Good.{Good, Fits}
use Rattle.ledger_laws.proofs.Links.{link, waits, waits_some, ruling_le, note_le}
use Rattle.ledger_laws.proofs.Money.{last_is, ruling_asked}

-- the lists are the newest first, so what was applied is the end of what was ruled
pub record Trails (applied ruled : List ℕ) (now most : ℕ) (f : Verdict → Request → List ℕ) (last : Option (Verdict × List ℕ)) : Type 0 where
  pub even : now ≡ most → applied ≡ ruled
  pub odd : most ≡ now + 1 → (x : Verdict × List ℕ) × (last ≡ Some x) × (f x.0 (request_in x.1) ++ applied ≡ ruled)

module _ (ρ : Rules) where
  pub trails : (f : Verdict → Request → List ℕ) (d : ℕ) (C : List Commit) → Good ρ C → Trails (applied_list f d C) (ruled_list f d C) (number d C) (ruled d C) f (last_ruling d C)
  trails f d [] g = record { even = λ _. refl; odd = λ h. absurd (omega arith) }
  trails f d (Applied e n v ∷ C) g =
      let h = trails f d C g.1 in
      let l = link ρ d C g.1 in
      either e d
      (λ t y.
      let fits = subst (λ z. Fits ρ (Applied z n v) C) y g.0 in
      let w = waits_some ρ (pending d C) (asked d C) (number d C) n fits.note fits.waits (waits ρ d C g.1) in
      let le : n ≤ ruled d C = ruling_le ρ d n (v, fits.note) C fits.ruled_as in
      let same : ruled d C ≡ n = omega arith in
      let o = h.odd (omega arith) in
      let is = subst (λ z. ruling_of d z C ≡ Some o.0) same (last_is ρ d o.0 C g.1 o.1) in
      let which : (v, fits.note) ≡ o.0 = same_Some _ _ (sym fits.ruled_as ∙ is) in
      let asked : request_of d n C ≡ request_in fits.note = ap in_note (ruling_asked ρ d n (v, fits.note) C g.1 fits.ruled_as) in
      let part : f v (request_of d n C) ≡ f o.0.0 (request_in o.0.1) = ap (f v) asked ∙ ap (λ (z : Verdict × List ℕ). f z.0 (request_in z.1)) which in
      rw t (record { even = λ _. ap (λ z. z ++ applied_list f d C) part ∙ o.2; odd = λ k. absurd (omega arith) }))
      (λ t. rw t h)
  trails f d (Ruled e n v r ∷ C) g =
      let h = trails f d C g.1 in
      let l = link ρ d C g.1 in
      either e d
      (λ t y.
      let fits = subst (λ z. Fits ρ (Ruled z n v r) C) y g.0 in
      let next = fits.next in
      let le = note_le ρ d n r C g.1 fits.asked_as in
      let ev = h.even (omega arith) in
      rw t (record { even = λ k. absurd (omega arith); odd = λ _. ((v, r), refl, ap (λ z. f v (request_in r) ++ z) ev) }))
      (λ t. rw t h)
  trails f d (_ ∷ C) g = trails f d C g.1
