-- What holds where no row of a table of the device refuses. Only here is a row taken by its place: others take what it says by its name.
use Rattle.std.proofs.Common.{◌≡◌, ℕ, ℤ, pos, ◌+◌, ◌<◌, ◌≤◌, ◌+ℤ◌, ◌≤ℤ◌, true, false, List, refl, sym, true≢false, arith}
use Rattle.std.specs.Prelude.{◌==◌, ◌&&◌, ◌<ℤ◌, nat_lt}
use lib.Signed.{lt_z}
use Rattle.std.proofs.lemmas.Bool.{eqb-true, eqb-false, ltb-false, leb-false, not-false, or_parts}
use Rattle.std.proofs.lemmas.Int.{ints}
use Rattle.bench_base.specs.declared.{words.Kind.Kind, words.Kind.TheVariants.Reset, words.Phase.Phase, words.Phase.TheVariants.InService}
use Rattle.bench_base.specs.Rules.{Rules}
use Rattle.bench_base.specs.Kinds.{same_kind, is_allowed}
use Rattle.bench_base.proofs.Facts.{and_false}
use Rattle.bench_base.proofs.Rows.{AllFalse}
use Rattle.psd_wire.specs.declared.{message.Request.Request, message.ReplyMsg.ReplyMsg, message.DebitMsg.DebitMsg}
use Rattle.psd_wire.specs.Codes.{has_code}
use Rattle.registers.specs.Sums.{total}
use Rattle.psd_state.specs.State.{State}
use Rattle.psd_state.specs.Answers.{in_service, piece_rows, debit_rows, is_late, ask_rows, is_stray, apply_rows}
use Rattle.psd_state.specs.Acts.{reply_rows}

not_before : (a b : ℤ) → lt_z a b ≡ false → b ≤ℤ a
not_before a b h = grind (arith, ints)

before : (a b : ℤ) → a <ℤ b → lt_z a b ≡ true
before a b h = grind (arith, ints)

-- == debit ==

serving : (p : Phase) → in_service p ≡ true → p ≡ InService
serving InService h = refl
serving _ h = absurd (true≢false (sym h))

-- a new mark may be made of the piece
pub record MayMark (s : State) (q : DebitMsg) : Type 0 where
  pub next : q.piece ≡ s.registers.pieces + 1
  pub serves : s.phase ≡ InService

pub may_mark : (s : State) (q : DebitMsg) → AllFalse (piece_rows s q) → MayMark s q
may_mark s q rows = record {
  next = eqb-true q.piece (s.registers.pieces + 1) (not-false (q.piece == s.registers.pieces + 1) rows.0);
  serves = serving s.phase (not-false (in_service s.phase) rows.1.0);
}

-- its postage may be taken on this day
pub record MayDebit (ρ : Rules) (s : State) (q : DebitMsg) (t : ℤ) : Type 0 where
  pub day : s.last_day ≤ℤ t
  pub due : t ≤ℤ (s.deadline +ℤ pos ρ.grace)
  pub small : s.deadline <ℤ t → q.postage ≤ ρ.small
  pub low : 1 ≤ q.postage
  pub high : q.postage ≤ 100000
  pub funded : q.postage ≤ s.registers.descending

pub may_debit : (ρ : Rules) (s : State) (q : DebitMsg) (t : ℤ) → AllFalse (debit_rows ρ s q t) → MayDebit ρ s q t
may_debit ρ s q t rows =
    let over = or_parts (lt_z (s.deadline +ℤ pos ρ.grace) t) (lt_z s.deadline t && nat_lt ρ.small q.postage) rows.1.0 in
    let amount = or_parts (q.postage == 0) (nat_lt 100000 q.postage) rows.1.1.0 in
    let some : q.postage ≡ 0 → ⊥ = eqb-false q.postage 0 amount.0 in
    record {
      day = not_before t s.last_day rows.0;
      due = not_before (s.deadline +ℤ pos ρ.grace) t over.0;
      small = λ h. ltb-false ρ.small q.postage (and_false (lt_z s.deadline t) (nat_lt ρ.small q.postage) over.1 (before s.deadline t h));
      low = omega arith;
      high = ltb-false 100000 q.postage amount.1;
      funded = ltb-false s.registers.descending q.postage rows.1.1.1.0;
    }

-- == ask ==

-- a transaction of this kind may be asked for, with this amount, on this day
pub record MayAsk (ρ : Rules) (s : State) (k : Kind) (a : ℕ) (t : ℤ) : Type 0 where
  pub allowed : is_allowed k s.phase ≡ true
  pub day : s.last_day ≤ℤ t
  pub in_time : same_kind k Reset ≡ true → is_late ρ t s.deadline ≡ false
  pub low : same_kind k Reset ≡ true → 1 ≤ a
  pub high : same_kind k Reset ≡ true → a ≤ 10000000
  pub within : same_kind k Reset ≡ true → total s.registers + a ≤ ρ.total
  pub number : s.number < 4294967295

pub may_ask : (ρ : Rules) (s : State) (k : Kind) (a : ℕ) (t : ℤ) → AllFalse (ask_rows ρ s k a t) → MayAsk ρ s k a t
may_ask ρ s k a t rows =
    let amount = λ (h : same_kind k Reset ≡ true). or_parts (a == 0) (nat_lt 10000000 a) (and_false (same_kind k Reset) _ rows.1.1.1.0 h) in
    record {
      allowed = not-false (is_allowed k s.phase) rows.0;
      day = not_before t s.last_day rows.1.0;
      in_time = and_false (same_kind k Reset) (is_late ρ t s.deadline) rows.1.1.0;
      low = λ h. let some : a ≡ 0 → ⊥ = eqb-false a 0 (amount h).0 in omega arith;
      high = λ h. ltb-false 10000000 a (amount h).1;
      within = λ h. ltb-false ρ.total (total s.registers + a) (and_false (same_kind k Reset) _ rows.1.1.1.1.0 h);
      number = leb-false 4294967295 s.number rows.1.1.1.1.1.0;
    }

-- == a Reply ==

-- it is for this device, under its key
pub record IsOwnReply (d : ℕ) (bytes : List ℕ) (p : ReplyMsg) (key : List ℕ) : Type 0 where
  pub device : p.device ≡ d
  pub code : has_code key bytes ≡ true

pub own_reply : (d : ℕ) (bytes : List ℕ) (p : ReplyMsg) (key : List ℕ) → AllFalse (reply_rows d bytes p key) → IsOwnReply d bytes p key
own_reply d bytes p key rows = record {
  device = eqb-true p.device d (not-false (p.device == d) rows.0);
  code = not-false (has_code key bytes) rows.1.0;
}

-- it ends what is outstanding
pub record MayApply (p : ReplyMsg) (q : Request) : Type 0 where
  pub number : p.number ≡ q.number
  pub own : is_stray p q ≡ false

pub may_apply : (p : ReplyMsg) (q : Request) → AllFalse (apply_rows p q) → MayApply p q
may_apply p q rows = record { number = eqb-true p.number q.number (not-false (p.number == q.number) rows.0); own = rows.1.0 }
