-- Each balance follows from the one before it, in every history.
use Rattle.std.proofs.Common.{◌≡◌, inl, inr, ℕ, pos, ◌+◌, ◌-◌, ◌+ℤ◌, ◌-ℤ◌, ◌≤◌, Bool, true, false, List, [], ◌∷◌, Option, Some, None, refl, sym, subst, ◌∙◌, true≢false, arith}
use Rattle.std.proofs.lemmas.Int.{ints}
use Rattle.std.specs.Prelude.{◌==◌, ◌&&◌, if◌then◌else◌}
use Rattle.std.proofs.lemmas.Bool.{cases_Bool}
use Rattle.bench_base.specs.declared.{words.Kind.Kind, words.Kind.TheVariants.Enrol, words.Kind.TheVariants.Reset, words.Kind.TheVariants.Audit, words.Kind.TheVariants.Refund, words.Kind.TheVariants.Withdraw, words.Node.Node, words.Verdict.Verdict, ledger.Commit.Commit, ledger.Commit.TheVariants.Made, ledger.Commit.TheVariants.Asked, ledger.Commit.TheVariants.Applied, ledger.Commit.TheVariants.Debited, ledger.Commit.TheVariants.Registered, ledger.Commit.TheVariants.Opened, ledger.Commit.TheVariants.Deposited, ledger.Commit.TheVariants.Flagged, ledger.Commit.TheVariants.Ruled, ledger.Commit.TheVariants.Settled, ledger.Commit.TheVariants.Ordered, ledger.Commit.TheVariants.Held, ledger.Commit.TheVariants.Began, ledger.Commit.TheVariants.Closed, ledger.Commit.TheVariants.Trusted, ledger.Commit.TheVariants.Accepted}
use Rattle.bench_base.specs.declared.ledger.Entry.TheVariants as entry
use Rattle.bench_base.specs.Kinds.{same_kind, is_granted, empties}
use Rattle.bench_base.specs.Ledger.{Ledger, counted, at_up, torn_of, count_of}
use Rattle.bench_base.specs.Rules.{Rules}
use Rattle.psd_wire.specs.declared.message.Request.{Request}
use Rattle.ledger_terms.specs.Requests.{request_in}
use Rattle.ledger_terms.specs.Sums.{adds, takes}
use Rattle.ledger_terms.specs.Centres.{deposits, customer_sum, customer_bought, customer_returned, balance}
use Rattle.ledger_terms.specs.Further.{HasOwner, IsFitting}
use Rattle.ledger_terms.specs.Lawful.{Always, Lawful, LawfulAt, Balances, Solvent}
use Rattle.ledger_laws.specs.Laws.{OfCounted}
use Rattle.centre_statement.specs.Balances.{Follows, BalancesFollow}
use Rattle.centre_statement.specs.Changes.{change_of, granted_change, change_in}
use Rattle.centre_statement.proofs.Balances.{Owned, ruled_more, adds_moves, takes_moves}

-- ---- sums of numbers

chosen : (s : Bool) (x : ℕ) → s ≡ true → (if s then x else 0) ≡ x
chosen true x h = refl
chosen false x h = absurd (true≢false (sym h))

unchosen : (s : Bool) (x : ℕ) → s ≡ false → (if s then x else 0) ≡ 0
unchosen true x h = absurd (true≢false h)
unchosen false x h = refl

zero_chosen : (s : Bool) (x : ℕ) → x ≡ 0 → (if s then x else 0) ≡ 0
zero_chosen true x h = h
zero_chosen false x h = refl

pos_less : (x a y : ℕ) → y + a ≡ x → pos x -ℤ pos a ≡ pos y
pos_less x a y h = omega (arith, ints)

pos_more : (x a y : ℕ) → y ≡ x + a → pos x +ℤ pos a ≡ pos y
pos_more x a y h = omega (arith, ints)

-- ---- one ruling

-- a balance before and after a ruling, by deposits, returns and buys, and by what the ruling adds to returns and buys
record Sums (before after deposited returned bought back out : ℕ) : Type 0 where
  was : before ≡ (deposited + returned) - bought
  is : after ≡ (deposited + (returned + back)) - (bought + out)
  solvent : bought ≤ deposited + returned
  still : bought + out ≤ deposited + (returned + back)

rests : (before after dep r b back out : ℕ) → Sums before after dep r b back out → back ≡ 0 → out ≡ 0 → after ≡ before
rests before after dep r b back out h t a = let was = h.was in let is = h.is in omega (arith, was, is, t, a)

less : (before after dep r b back out amount : ℕ) → Sums before after dep r b back out → back ≡ 0 → out ≡ amount → after + amount ≡ before
less before after dep r b back out amount h t a = let was = h.was in let is = h.is in let still = h.still in omega (arith, was, is, still, t, a)

more : (before after dep r b back out amount : ℕ) → Sums before after dep r b back out → back ≡ amount → out ≡ 0 → after ≡ before + amount
more before after dep r b back out amount h t a = let was = h.was in let is = h.is in let solvent = h.solvent in omega (arith, was, is, solvent, t, a)

-- what a granted ruling of a kind adds
adds_of : Kind → ℕ → ℕ
adds_of Enrol a = 0
adds_of Reset a = a
adds_of Audit a = 0
adds_of Refund a = 0
adds_of Withdraw a = 0

takes_of : Kind → ℕ → ℕ
takes_of Enrol a = 0
takes_of Reset a = 0
takes_of Audit a = 0
takes_of Refund a = a
takes_of Withdraw a = a

adds_plain : (k : Kind) (a : ℕ) → (if true && same_kind k Reset then a else 0) ≡ adds_of k a
unfolding same_kind adds_of
adds_plain Enrol a = refl
adds_plain Reset a = refl
adds_plain Audit a = refl
adds_plain Refund a = refl
adds_plain Withdraw a = refl

takes_plain : (k : Kind) (a : ℕ) → (if true && empties k then a else 0) ≡ takes_of k a
unfolding same_kind takes_of
takes_plain Enrol a = refl
takes_plain Reset a = refl
takes_plain Audit a = refl
takes_plain Refund a = refl
takes_plain Withdraw a = refl

adds_granted : (v : Verdict) (q : Request) → is_granted v ≡ true → adds v q ≡ adds_of q.kind q.amount
unfolding adds
adds_granted v q h = rw h (adds_plain q.kind q.amount)

takes_granted : (v : Verdict) (q : Request) → is_granted v ≡ true → takes v q ≡ takes_of q.kind q.amount
unfolding takes
takes_granted v q h = rw h (takes_plain q.kind q.amount)

by_kind : (k : Kind) (d n before after dep r b back out amount : ℕ) → Sums before after dep r b back out → back ≡ takes_of k amount → out ≡ adds_of k amount
    → Follows (change_of k d n amount) before after
unfolding adds_of takes_of
by_kind Enrol d n before after dep r b back out amount h t a = rests before after dep r b back out h t a
by_kind Reset d n before after dep r b back out amount h t a = pos_less before amount after (less before after dep r b back out amount h t a)
by_kind Audit d n before after dep r b back out amount h t a = rests before after dep r b back out h t a
by_kind Refund d n before after dep r b back out amount h t a = pos_more before amount after (more before after dep r b back out amount h t a)
by_kind Withdraw d n before after dep r b back out amount h t a = pos_more before amount after (more before after dep r b back out amount h t a)

-- what a ruling adds for a customer, where the request is the customer's
abbrev mine : ℕ → (Verdict → Request → ℕ) → Verdict → Request → ℕ
mine w f v q = if q.customer == w then f v q else 0

ruled_follows : (w d n : ℕ) (v : Verdict) (q : Request) (before after dep r b : ℕ) → Sums before after dep r b (mine w takes v q) (mine w adds v q)
    → Follows (if is_granted v then granted_change d n q w else None) before after
ruled_follows w d n v q before after dep r b h = elim (cases_Bool (is_granted v)) [
  | inr not ↦
      let t = zero_chosen (q.customer == w) (takes v q) (takes_moves.granted v q not) in
      let a = zero_chosen (q.customer == w) (adds v q) (adds_moves.granted v q not) in
      subst (λ (g : Bool). Follows (if g then granted_change d n q w else None) before after) (sym not) (rests before after dep r b _ _ h t a)
  | inl granted ↦
      subst (λ (g : Bool). Follows (if g then granted_change d n q w else None) before after) (sym granted) (elim (cases_Bool (q.customer == w)) [
        | inl own ↦
            subst (λ (g : Bool). Follows (if g then change_of q.kind d n q.amount else None) before after) (sym own)
            (by_kind q.kind d n before after dep r b _ _ q.amount h (chosen (q.customer == w) (takes v q) own ∙ takes_granted v q granted)
            (chosen (q.customer == w) (adds v q) own ∙ adds_granted v q granted))
        | inr other ↦
            subst (λ (g : Bool). Follows (if g then change_of q.kind d n q.amount else None) before after) (sym other)
            (rests before after dep r b _ _ h (unchosen (q.customer == w) (takes v q) other) (unchosen (q.customer == w) (adds v q) other))
      ])
]

-- ---- one commit

deposit_follows : (w who receipt amount : ℕ) (C : List Commit) → customer_bought w C ≤ deposits w C + customer_returned w C
    → Follows (change_in (Deposited who receipt amount) w) (balance w C) (balance w (Deposited who receipt amount ∷ C))
unfolding customer_sum
deposit_follows w who receipt amount C solvent = elim (cases_Bool (who == w)) [
  | inl is ↦ rw is (pos_more (balance w C) amount _ (omega (arith, solvent)))
  | inr other ↦ rw other refl
]

commit_follows : (w : ℕ) (c : Commit) (C : List Commit) → Owned (c ∷ C) → IsFitting (c ∷ C) → Solvent C w → Solvent (c ∷ C) w → Follows (change_in c w) (balance w C) (balance w (c ∷ C))
unfolding customer_sum
commit_follows w (Ruled d n v note) C owned fits before after =
    let back = ruled_more takes takes_moves d n v note C w fits.0 owned in
    let out = ruled_more adds adds_moves d n v note C w fits.0 owned in
    ruled_follows w d n v (request_in note) (balance w C) (balance w (Ruled d n v note ∷ C)) (deposits w C) (customer_returned w C) (customer_bought w C) (record {
      was = refl;
      is = omega (arith, back, out);
      solvent = before.balance;
      still = let still = after.balance in omega (arith, still, back, out);
    })
commit_follows w (Deposited who receipt amount) C owned fits before after = deposit_follows w who receipt amount C before.balance
commit_follows w (Made d key) C owned fits before after = refl
commit_follows w (Asked d n note) C owned fits before after = refl
commit_follows w (Applied d n v) C owned fits before after = refl
commit_follows w (Debited d p a k t v) C owned fits before after = refl
commit_follows w (Registered d o key) C owned fits before after = refl
commit_follows w (Opened x) C owned fits before after = refl
commit_follows w (Flagged x s) C owned fits before after = refl
commit_follows w (Settled d n) C owned fits before after = refl
commit_follows w (Ordered j d p a k) C owned fits before after = refl
commit_follows w (Held j m) C owned fits before after = refl
commit_follows w (Began j) C owned fits before after = refl
commit_follows w (Closed j) C owned fits before after = refl
commit_follows w (Trusted d key) C owned fits before after = refl
commit_follows w (Accepted d p n) C owned fits before after = refl

-- ---- each commit of a history

pub always_head : {A : Type 0} (P : List A → Type 0) (xs : List A) → Always P xs → P xs
always_head P [] h = h
always_head P (x ∷ xs) h = h.0

pub always_map : {A : Type 0} (P Q : List A → Type 0) → ((xs : List A) → P xs → Q xs) → (xs : List A) → Always P xs → Always Q xs
always_map P Q f [] h = f [] h
always_map P Q f (x ∷ xs) h = (f (x ∷ xs) h.0, always_map P Q f xs h.1)

owned_of : (C : List Commit) → Always HasOwner C → Owned C
owned_of [] h = tt
owned_of (c ∷ C) h = (h.0, owned_of C h.1)

up_always : (P : List Commit → Type 0) (o : Option Commit) (n : Node) (k : ℕ) (C : List Commit) → P (at_up o n k C) → Always P C → Always P (at_up o n k C)
up_always P None n k C h rest = rest
up_always P (Some c) n k C h rest = by_count (k == count_of n C + 1) h
  where
    by_count : (b : Bool) → P (if b then c ∷ C else C) → Always P (if b then c ∷ C else C)
    by_count true p = (p, rest)
    by_count false p = rest

pub counted_always : (P : List Commit → Type 0) (H : Ledger) → Always (λ B. P (counted B)) H → Always P (counted H)
counted_always P [] h = h
counted_always P (entry.Commit c ∷ H) h = (h.0, counted_always P H h.1)
counted_always P (entry.Up n k ∷ H) h = up_always P (torn_of n H) n k (counted H) h.0 (counted_always P H h.1)
counted_always P (entry.Torn n c ∷ H) h = counted_always P H h.1
counted_always P (entry.Begin ∷ H) h = counted_always P H h.1
counted_always P (entry.Day t ∷ H) h = counted_always P H h.1
counted_always P (entry.Rates text ∷ H) h = counted_always P H h.1
counted_always P (entry.Sent note ∷ H) h = counted_always P H h.1
counted_always P (entry.Released d p m ∷ H) h = counted_always P H h.1
counted_always P (entry.Printed j m ∷ H) h = counted_always P H h.1
counted_always P (entry.Down n ∷ H) h = counted_always P H h.1

follow_lists : (C : List Commit) → Owned C → Always IsFitting C → Always Balances C → BalancesFollow C
follow_lists [] owned fits solvent = tt
follow_lists (c ∷ C) owned fits solvent = (
  λ w range. commit_follows w c C owned fits.0 (always_head Balances C solvent.1 w range.0 range.1) (solvent.0 w range.0 range.1),
  follow_lists C owned.1 fits.1 solvent.1,
)

pub all_follow : (ρ : Rules) (H : Ledger) → Lawful ρ H → OfCounted HasOwner H → OfCounted IsFitting H → BalancesFollow (counted H)
all_follow ρ H lawful owners fitting =
    follow_lists (counted H) (owned_of (counted H) (counted_always HasOwner H owners)) (counted_always IsFitting H fitting)
    (counted_always Balances H (always_map (LawfulAt ρ) (λ B. Balances (counted B)) (λ B at. at.balances) H lawful))
