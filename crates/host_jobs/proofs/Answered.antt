-- What the host's answers say where they refuse nothing. Only here is a row of its tables taken by its place: others take what it says by its name.
use Rattle.std.proofs.Common.{◌≡◌, ℕ, ◌+◌, ◌<◌, ◌≤◌, Bool, false, Option, Some, None, Ok, refl, sym, ap, subst, ◌∙◌, true≢false, rules}
use Rattle.std.specs.Prelude.{◌==◌, ◌&&◌, nat_le}
use Rattle.std.proofs.lemmas.Bool.{eqb-true, leb-false, le-leb, not-false}
use Rattle.bench_base.specs.declared.{words.JobState.JobState, refusals.HostRefusal.HostRefusal}
use Rattle.bench_base.specs.declared.words.JobState.TheVariants as state
use Rattle.bench_base.specs.Rows.{first_holding}
use Rattle.bench_base.proofs.Facts.{some_none, ok_same}
use Rattle.bench_base.proofs.Rows.{AllFalse, first, passes}
use Rattle.indicium.specs.declared.Mark.{Mark}
use Rattle.host_jobs.specs.declared.orders.Shelf.{Shelf}
use Rattle.host_jobs.specs.Answers.{is_open, order_rows, hold_rows, hold_answer}

pub record OrderOk (piece : ℕ) (h : Shelf) (j : ℕ) : Type 0 where
  pub fresh : h.top < piece
  pub number : h.last < 4294967295
  pub room : (nat_le 1024 h.last && is_open h.oldest) ≡ false
  pub next : j ≡ h.last + 1

pub may_order : (piece : ℕ) (h : Shelf) → AllFalse (order_rows piece h) → OrderOk piece h (h.last + 1)
may_order piece h rows = record { fresh = leb-false piece h.top rows.0; number = leb-false 4294967295 h.last rows.1.0; room = rows.1.1.0; next = refl }

pub order_ok : (piece : ℕ) (h : Shelf) (j : ℕ) → first_holding (order_rows piece h) (Ok (h.last + 1)) ≡ Ok j → OrderOk piece h j
order_ok piece h j is =
    let through = passes (order_rows piece h) _ j (search rules) is in
    subst (OrderOk piece h) (ok_same through.1) (may_order piece h through.0)

pub record HoldOk (k : Mark) (piece postage class : ℕ) : Type 0 where
  pub piece_is : k.piece ≡ piece
  pub postage_is : k.postage ≡ postage
  pub class_is : k.class ≡ class

pub may_hold : (k : Mark) (piece postage class : ℕ) → AllFalse (hold_rows k piece postage class) → HoldOk k piece postage class
may_hold k piece postage class rows = record {
  piece_is = eqb-true k.piece piece (not-false (k.piece == piece) rows.0);
  postage_is = eqb-true k.postage postage (not-false (k.postage == postage) rows.1.0);
  class_is = eqb-true k.class class (not-false (k.class == class) rows.1.1.0);
}

pub hold_ok : (k : Mark) (piece postage class : ℕ) → hold_answer k piece postage class ≡ None → HoldOk k piece postage class
hold_ok k piece postage class = first (λ (x : Option HostRefusal). x ≡ None → HoldOk k piece postage class) (hold_rows k piece postage class) None
    ((λ h. absurd (some_none h)), ((λ h. absurd (some_none h)), ((λ h. absurd (some_none h)), tt)))
    (λ rows _. may_hold k piece postage class rows)

pub is_closed : (s : JobState) → is_open (Some s) ≡ false → s ≡ state.Closed
is_closed state.Ordered h = absurd (true≢false h)
is_closed state.Held h = absurd (true≢false h)
is_closed state.Begun h = absurd (true≢false h)
is_closed state.Closed h = refl

pub no_room : (last : ℕ) (o : Option JobState) → (nat_le 1024 last && is_open o) ≡ false → 1024 ≤ last → is_open o ≡ false
no_room last o h le = ap (λ (b : Bool). b && is_open o) (sym (le-leb 1024 last le)) ∙ h
