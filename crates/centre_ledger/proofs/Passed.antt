-- What holds where no row of a table of the centre refuses. Only here is a row taken by its place: others take what it says by its name.
use Rattle.std.proofs.Common.{◌≡◌, ℕ, ◌+◌, ◌≤◌, Bool, true, false, Option, Some, None, Result, Ok, Err, refl, sym, ap, subst, true≢false, arith, rules}
use Rattle.std.specs.Prelude.{◌==◌, ◌&&◌, ◌||◌, not, nat_lt, if◌then◌else◌}
use Rattle.std.proofs.lemmas.Bool.{eqb-true, eqb-false, ltb-false, not-false, or_parts}
use Rattle.std.proofs.lemmas.Option.{same_Some}
use Rattle.bench_base.specs.declared.{words.Kind.TheVariants.Enrol, words.Kind.TheVariants.Reset, words.Verdict.Verdict, words.Verdict.TheVariants.Granted, refusals.CentreRefusal.CentreRefusal}
use Rattle.bench_base.specs.declared.refusals.CentreRefusal.TheVariants as no
use Rattle.bench_base.specs.Kinds.{same_kind, is_granted}
use Rattle.bench_base.specs.Rows.{first_holding}
use Rattle.bench_base.proofs.Facts.{and_false, ok_same}
use Rattle.bench_base.proofs.Rows.{AllFalse, first, none_holds, passes}
use Rattle.psd_wire.specs.declared.message.Request.{Request}
use Rattle.ledger_terms.specs.Rulings.{Account, verdict_by, verdict_rows, has_left, is_enrolled, out_of_balance}
use Rattle.centre_ledger.specs.Answers.{deposit_rows, deposit_answer}

-- == deposits ==

pub record MayDeposit (last total n a after : ℕ) : Type 0 where
  pub receipt : n ≡ last + 1
  pub from_1 : 1 ≤ a
  pub most : a ≤ 1000000000
  pub room : total + a ≤ 1000000000000000
  pub sum : after ≡ total + a

pub may_deposit : (last : ℕ × ℕ) (total n a : ℕ) → AllFalse (deposit_rows last total n a) → MayDeposit last.0 total n a (total + a)
may_deposit last total n a rows =
    let amount = or_parts (a == 0) (nat_lt 1000000000 a) rows.1.0 in
    let some : a ≡ 0 → ⊥ = eqb-false a 0 amount.0 in
    record {
      receipt = eqb-true n (last.0 + 1) (not-false (n == last.0 + 1) rows.0);
      from_1 = omega arith;
      most = ltb-false 1000000000 a amount.1;
      room = ltb-false 1000000000000000 (total + a) rows.1.1.0;
      sum = refl;
    }

-- what a deposit that is taken was found to be
pub deposit_taken : (last : ℕ × ℕ) (total n a after : ℕ) → deposit_answer last total n a ≡ Ok (Some after) → MayDeposit last.0 total n a after
deposit_taken last total n a after h = go ((n == last.0) && nat_lt 0 n) (a == last.1) h
  where
    new : Result (Option ℕ) CentreRefusal
    new = first_holding (deposit_rows last total n a) (Ok (Some (total + a)))

    go : (t u : Bool) → (if t then (if u then Ok None else Err (no.Conflict last.1)) else new) ≡ Ok (Some after) → MayDeposit last.0 total n a after
    go true true k = absurd (cc)
    go true false k = absurd (cc)
    go false u k =
        let through = passes (deposit_rows last total n a) _ (Some after) (search rules) k in
        subst (MayDeposit last.0 total n a) (same_Some _ _ (ok_same through.1)) (may_deposit last total n a through.0)

-- == verdicts ==

-- what a granted Request was found to be
pub record WasGranted (a : Account) (q : Request) : Type 0 where
  -- except for an enrolment, the device is enrolled and not withdrawn
  pub left : not (same_kind q.kind Enrol) ≡ true → has_left a.enrolled a.withdrawn ≡ false
  pub new : same_kind q.kind Enrol ≡ true → is_enrolled a.enrolled ≡ false
  pub sums : out_of_balance q a.bought a.returned ≡ false
  pub opened : same_kind q.kind Enrol ≡ true → a.opened ≡ true
  pub paying : (same_kind q.kind Enrol || same_kind q.kind Reset) ≡ true → a.suspended ≡ false
  -- a reset is within the balance
  pub funded : same_kind q.kind Reset ≡ true → q.amount ≤ a.balance

none_refuses : (a : Account) (q : Request) → is_granted (verdict_by a q).0 ≡ true → AllFalse (verdict_rows a q)
unfolding verdict_by
none_refuses a q = first (λ (x : Verdict × ℕ). is_granted x.0 ≡ true → AllFalse (verdict_rows a q)) (verdict_rows a q) (Granted, q.amount)
    (refuses, (refuses, (refuses, (refuses, (refuses, (refuses, tt))))))
    (λ rows _. rows)
  where
    refuses : {P : Type 0} → false ≡ true → P
    refuses h = absurd (true≢false (sym h))

pub granted : (a : Account) (q : Request) → is_granted (verdict_by a q).0 ≡ true → WasGranted a q
granted a q h =
    let rows = none_refuses a q h in
    record {
      left = and_false (not (same_kind q.kind Enrol)) (has_left a.enrolled a.withdrawn) rows.0;
      new = and_false (same_kind q.kind Enrol) (is_enrolled a.enrolled) rows.1.0;
      sums = rows.1.1.0;
      opened = λ k. not-false a.opened (and_false (same_kind q.kind Enrol) (not a.opened) rows.1.1.1.0 k);
      paying = and_false (same_kind q.kind Enrol || same_kind q.kind Reset) a.suspended rows.1.1.1.1.0;
      funded = λ k. ltb-false a.balance q.amount (and_false (same_kind q.kind Reset) (nat_lt a.balance q.amount) rows.1.1.1.1.1.0 k);
    }

-- a granted Request has its own amount in the Reply
pub granted_amount : (a : Account) (q : Request) → is_granted (verdict_by a q).0 ≡ true → (verdict_by a q).1 ≡ q.amount
unfolding verdict_by
granted_amount a q h = ap (λ (x : Verdict × ℕ). x.1) (none_holds (verdict_rows a q) (Granted, q.amount) (none_refuses a q h))
