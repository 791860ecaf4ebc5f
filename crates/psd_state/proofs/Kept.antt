-- What a debit keeps of a record.
use Rattle.std.proofs.Common.{◌≡◌, ℕ, ℤ, ◌+◌, ◌^◌, ◌<◌, ◌≤◌, refl, arith, Option, Some, None, Bool, true, false, FitsSigned, Fits as Fits32, true≢false, lit<, if◌then◌else◌, Ok, Err, nat_lt, ltb-false, ap, ap₂, sym, ◌∙◌, List, ◌++◌, ◌==◌, ◌&&◌, eq-eqb}
use Rattle.std.specs.Int.{w32, cast_unsigned}
use Rattle.std.proofs.Math.Facts.{Fits-of_z}
use Rattle.bench_base.specs.declared.{words.Kind.Kind, words.Kind.TheVariants.Enrol, words.Kind.TheVariants.Reset, words.Kind.TheVariants.Audit, words.Kind.TheVariants.Refund, words.Kind.TheVariants.Withdraw, words.Phase.Phase}
use Rattle.indicium.specs.declared.Mark.{Mark}
use Rattle.indicium.specs.Marks as marks
use Rattle.psd_wire.specs.declared.{message.Request.Request, message.DebitMsg.DebitMsg}
use Rattle.registers.specs.Sums.{Sums, Sound, debited, debit_answer}
use Rattle.psd_state.specs.State.{State, Holds, IsAmount, PendingOk, MarkOk, kept_code}
use Rattle.bench_base.specs.Kinds.{same_kind, empties}
use Rattle.hmac_core.specs.Hmac.{hmac}
use Rattle.bench_base.specs.declared.refusals.DevRefusal.TheVariants as no
use Rattle.bench_base.proofs.Facts.{ok_err, some_none}
use Rattle.psd_state.specs.declared.debiting.Debited.TheVariants.{Again}
use Rattle.psd_state.specs.Answers.{frozen_kind, again}

amount_kept : (k : Kind) (version n : ℕ) (s : Sums) (a : ℕ) → IsAmount k version n s → empties k ≡ false → a ≤ s.descending → IsAmount k version n (debited s a)
unfolding same_kind
amount_kept Enrol version n s a h f l = h
amount_kept Reset version n s a h f l = (h.0, h.1, omega (arith, h.2, l))
amount_kept Audit version n s a h f l = h
amount_kept Refund version n s a h f l = absurd (true≢false f)
amount_kept Withdraw version n s a h f l = absurd (true≢false f)

not_when : {A : Type 0} (b : Bool) (x : A) → (if b then Some x else None) ≡ None → b ≡ false
not_when true x h = absurd (some_none h)
not_when false x h = refl

thawed : (q : Request) → frozen_kind (Some q) ≡ None → empties q.kind ≡ false
thawed q h = not_when (empties q.kind) _ h

pub pending_debited : (d n : ℕ) (p : Phase) (s : Sums) (o : Option Request) (a : ℕ) → PendingOk d n p s o → frozen_kind o ≡ None → a ≤ s.descending → PendingOk d n p (debited s a) o
pending_debited d n p s None a h f l = tt
pending_debited d n p s (Some q) a h f l = record { whole = h.whole; device = h.device; number = h.number; kind = h.kind; amount = amount_kept q.kind q.version q.amount s a h.amount (thawed q f) l }

pub whole_mark : (d p a x y : ℕ) (t : ℤ) (o k : ℕ) → d < 2 ^ 16 → p < 2 ^ 32 → a < 2 ^ 32 → x < 2 ^ 40 → y < 2 ^ 40 → FitsSigned w32 t → o < 2 ^ 32 → k < 2 ^ 16
    → marks.IsWhole (record { version = 2; device = d; piece = p; postage = a; ascending = x; descending = y; day = t; origin = o; class = k })
whole_mark d p a x y t o k hd hp ha hx hy ht ho hk =
    let small : Fits32 w32 (cast_unsigned w32 t) = Fits-of_z ht in
    record {
      version = (omega arith, omega arith);
      fit = (lit< tt, (lit< tt, (hd, (hp, (ha, (hx, (hy, (omega (arith, small), (ho, (hk, tt))))))))));
      day = ht;
    }

chosen : {P : Type 0} (b : Bool) (s r : Sums) (n : ℕ) → (b ≡ false → P) → Ok r ≡ (if b then Err s.descending else Ok (debited s n)) → (r ≡ debited s n) × P
chosen true s r n f h = absurd (ok_err h)
chosen false s r n f h = (cc, f refl)

pub debit_ok : (s r : Sums) (n : ℕ) → Ok r ≡ debit_answer s n → (r ≡ debited s n) × (n ≤ s.descending)
debit_ok s r n h = chosen (nat_lt s.descending n) s r n (ltb-false s.descending n) h

pub mark_debited : (d p a : ℕ) (s r : Sums) (k : Mark) → marks.IsWhole k → r ≡ debited s a → k.device ≡ d → k.piece ≡ s.pieces + 1 → k.ascending ≡ r.ascending → MarkOk d r (Some k)
mark_debited d p a s r k w e h i j =
    let more : r.pieces ≡ s.pieces + 1 = ap (λ (x : Sums). x.pieces) e in
    (omega (arith, more), record { whole = w; device = h; piece = i ∙ sym more; ascending = j })

-- a record after a debit holds
pub debit_holds : (s x : State) (a : ℕ) (k : Mark) → Holds s → frozen_kind s.pending ≡ None → Ok x.registers ≡ debit_answer s.registers a → Sound x.registers
    → x.device ≡ s.device → x.number ≡ s.number → x.phase ≡ s.phase → x.pending ≡ s.pending → x.mark ≡ Some k
    → marks.IsWhole k → k.device ≡ s.device → k.piece ≡ s.registers.pieces + 1 → k.ascending ≡ x.registers.ascending → Holds x
debit_holds s x a k h free moved sound device number phase pending mark whole kd kp ka =
    let r = debit_ok s.registers x.registers a moved in
    record {
      phase = rw phase h.phase;
      registers = sound;
      pending = rw (device, number, phase, pending, r.0) (pending_debited s.device s.number s.phase s.registers s.pending a h.pending free r.1);
      mark = rw (device, mark) (mark_debited s.device s.registers.pieces a s.registers x.registers k whole r.0 kd kp ka);
    }

-- == what is given again ==

-- the kept mark with its code is its spelling
pub kept_again : (s : State) (code : List ℕ) (k : Mark) (bytes : List ℕ) → s.mark ≡ Some k → kept_code s.key s.mark ≡ code → bytes ≡ marks.body k ++ code → bytes ≡ marks.spell k s.key
unfolding marks.spell
kept_again s code k bytes is same made =
    let sign : hmac s.key (marks.body k) ≡ code = sym (ap (kept_code s.key) is) ∙ same in
    made ∙ ap (λ x. marks.body k ++ x) (sym sign)

pub given_again : (c : DebitMsg) (key : List ℕ) (k : Mark) (bytes : List ℕ) → k.postage ≡ c.postage → k.class ≡ c.class → bytes ≡ marks.spell k key → Ok (Again bytes) ≡ again c key k
given_again c key k bytes p l e =
    let yes : ((k.postage == c.postage) && (k.class == c.class)) ≡ true = ap₂ (λ a b. a && b) (eq-eqb k.postage c.postage p) (eq-eqb k.class c.class l) in
    ap (λ b. Ok (Again b)) e ∙ ap (λ b. if b then Ok (Again (marks.spell k key)) else Err (no.Conflict k.postage k.class)) (sym yes)
