-- Blank storage shows no claim, and an empty list of claims is backed by what was accepted before.
use Rattle.std.proofs.Common.{◌≡◌, ℕ, ◌-◌, ◌<◌, ◌≤◌, List, [], length, replicate, None, sym, ap, ◌∙◌, subst, arith}
use Rattle.bench_base.specs.Ledger.{Ledger}
use Rattle.bench_base.proofs.Facts.{some_none}
use Rattle.scan_laws.specs.Acceptances.{EachAccepted}
use Rattle.node_acts.specs.RowList.{row_of}
use Rattle.nv_model.specs.Moments.{Image, Nested, Only}
use Rattle.nv_model.specs.declared.nv.Nv as nv
use Rattle.nv_store.specs.Mounts.{Mounts}
use Rattle.row_node.specs.Shows.{ShowsRows}
use Rattle.row_node.proofs.Blank.{zeros_show}
use Rattle.row_store.proofs.Blank.{none_seen, still_only}
use Rattle.row_store.specs.Seen.{ReadsAs}
use Rattle.spoil_claims.specs.Claims.{Claims, kept}
use Rattle.spoil_claims.specs.Holds.{AreBacked}
use Rattle.spoil_claims.specs.Payload.{decoded}

-- == storage ==

-- zeros show none
pub no_claim : (cells bytes : ℕ) (rows : Claims) → length rows ≡ cells → ShowsRows 73 cells (ReadsAs decoded) rows (replicate bytes 0) → (c : ℕ) → kept rows c ≡ None
no_claim cells bytes rows long shows c = ap (λ o. row_of o) (none_seen 73 cells (ReadsAs decoded) rows (replicate bytes 0) long (zeros_show 73 2 cells bytes) shows (c - 1))

-- so a desk that was booted from zeros keeps none
pub none_kept : {N : Type 0} (g : nv.Ghosts N) (before now : N) (cells bytes : ℕ) (rows : Claims) → length rows ≡ cells → Mounts (g.times before) (g.times now) → Nested (g.times now)
    → Image (g.times now) (g.content now) → Only (g.times before) (replicate bytes 0) → ((i : List ℕ) → Image (g.times now) i → ShowsRows 73 cells (ReadsAs decoded) rows i)
    → (c : ℕ) → kept rows c ≡ None
none_kept g before now cells bytes rows long mounts nested image only shows c =
    let same : g.content now ≡ replicate bytes 0 = still_only (g.times before) (g.times now) (replicate bytes 0) (g.content now) mounts nested only image in
    no_claim cells bytes rows long (subst (λ (i : List ℕ). ShowsRows 73 cells (ReadsAs decoded) rows i) same (shows (g.content now) image)) c

-- == ledgers ==

not_above : (a n : ℕ) → n ≤ a → a < n → ⊥
not_above a n le lt = omega (arith, le, lt)

pub none_backed : (rows : Claims) (L : Ledger) → ((c : ℕ) → kept rows c ≡ None) → EachAccepted (λ d p n. n ≤ 3000000000) L → AreBacked rows L
none_backed rows L none all = record {
  reserved = record {
    counts = λ d p n within above. absurd (not_above 3000000000 n (all.counts d p n within) above);
    torn = λ m d p n is above. absurd (not_above 3000000000 n (all.torn m d p n is) above);
  };
  credited = λ c x k is. absurd (some_none (sym is.here ∙ none c));
}

pub nothing_accepted : EachAccepted (λ d p n. n ≤ 3000000000) []
nothing_accepted = record {
  counts = λ d p n within. absurd (let lt = within.1 in omega (arith, lt));
  torn = λ m d p n is. absurd (some_none (sym is));
}
