-- What has a spelling: messages and marks whose numbers fit their fields.
use Rattle.std.proofs.Common.{ℕ, ℤ, pos, ◌^◌, ◌<◌, ◌≤◌, ◌==◌, Bool, true, false, cond, [], ◌∷◌, ◌+ℤ◌, arith, FitsSigned, Fits as Fits32, lit<}
use Rattle.std.specs.Int.{w32, cast_unsigned}
use Rattle.std.proofs.lemmas.Int.{ints}
use Rattle.std.proofs.Math.Facts.{Fits-of_z}
use Rattle.bench_base.specs.Ranges.{IsDevice, IsWord, IsDay}
use Rattle.bench_base.specs.Rules.{IsVersion}
use Rattle.bench_base.specs.Table.{Four, Eight, IsNumber, Fit}
use Rattle.ledger_terms.specs.Rulings.{buys_limit}
use Rattle.indicium.specs.declared.Mark.{Mark}
use Rattle.indicium.specs.Marks as marks
use Rattle.indicium.specs.Marks.{mark_fields}
use Rattle.psd_wire.specs.declared.{message.Request.Request, message.ReplyMsg.ReplyMsg, message.DoneMsg.DoneMsg, message.DebitMsg.DebitMsg}
use Rattle.psd_wire.specs.declared.message.Message.TheVariants as m
use Rattle.psd_wire.specs.Grammar.{IsWhole, sum_size}
use Rattle.psd_wire.proofs.Readings.{kind_byte, verdict_byte, day_fits}

one_byte : (v : ℕ) → IsVersion v → v < 2 ^ 8
one_byte v h = omega (arith, h.1)

-- what a version's messages and marks hold: a sum within its limit, and any number of 32 bits
pub sum_fits : (v n : ℕ) → n ≤ buys_limit v → IsNumber (sum_size v) n
sum_fits v n h = go (v == 1) (v == 2) h
  where
    go : (a b : Bool) → n ≤ cond a 4294967295 (cond b 1000000000000 0) → IsNumber (cond a Four Eight) n
    go true b k = omega (arith, k)
    go false true k = omega (arith, k)
    go false false k = omega (arith, k)

pub word_fits : (v n : ℕ) → IsWord n → IsNumber (sum_size v) n
word_fits v n h = go (v == 1)
  where
    go : (b : Bool) → IsNumber (cond b Four Eight) n
    go true = h
    go false = omega (arith, h)

pub deadline_signed : (z : ℤ) → IsDay z → FitsSigned w32 (z +ℤ pos 92)
deadline_signed z h = search (arith, ints, h.0, h.1)

pub no_deadline : FitsSigned w32 (pos 0)
no_deadline = search (arith, ints)

pub whole_request : (q : Request) → IsVersion q.version → IsWord q.device → IsWord q.number → IsWord q.customer → IsNumber (sum_size q.version) q.amount → IsNumber (sum_size q.version) q.ascending
    → IsNumber (sum_size q.version) q.descending → IsNumber (sum_size q.version) q.refunded → IsWord q.pieces → IsDay q.day → IsWhole (m.Request q)
whole_request q v d n c a x y z p t =
    let small : Fits32 w32 (cast_unsigned w32 q.day) = Fits-of_z (day_fits q.day t) in
    (v, (one_byte q.version v, (lit< tt, (d, (n, (kind_byte q.kind, (c, (a, (x, (y, (z, (p, (omega (arith, small), tt)))))))))))), t)

pub whole_reply : (p : ReplyMsg) → IsVersion p.version → IsWord p.device → IsWord p.number → IsNumber (sum_size p.version) p.amount → FitsSigned w32 p.deadline → IsWord p.origin → IsWhole (m.Reply p)
whole_reply p v d n a t o =
    let small : Fits32 w32 (cast_unsigned w32 p.deadline) = Fits-of_z t in
    (v, (one_byte p.version v, (lit< tt, (d, (n, (kind_byte p.kind, (verdict_byte p.verdict, (a, (omega (arith, small), (o, tt))))))))), t)

pub whole_done : (q : DoneMsg) → IsWord q.device → IsWord q.number → IsWhole (m.Done q)
whole_done q d n = (lit< tt, (lit< tt, (d, (n, tt))))

pub whole_debit : (q : DebitMsg) → IsWord q.device → IsWord q.piece → IsWord q.postage → q.class < 2 ^ 16 → IsWhole (m.Debit q)
whole_debit q d p a k = (lit< tt, (lit< tt, (d, (p, (a, (k, tt))))))

pub whole_mark : (k : Mark) → IsVersion k.version → IsDevice k.device → IsWord k.piece → IsWord k.postage → k.ascending ≤ buys_limit k.version → k.descending ≤ buys_limit k.version → IsDay k.day → IsWord k.origin
    → k.class < 2 ^ 16 → marks.IsWhole k
whole_mark k v d p a x y t o c =
    record {
      version = v;
      fit = (one_byte k.version v, (lit< tt, fields (k.version == 1) (k.version == 2) x y));
      day = day_fits k.day t;
    }
  where
    small : Fits32 w32 (cast_unsigned w32 k.day)
    small = Fits-of_z (day_fits k.day t)

    limit : Bool → Bool → ℕ
    limit one two = cond one 4294967295 (cond two 1000000000000 0)

    fields : (one two : Bool) → k.ascending ≤ limit one two → k.descending ≤ limit one two
        → Fit (cond one (mark_fields 1) (mark_fields 2)) (k.device ∷ k.piece ∷ k.postage ∷ k.ascending ∷ k.descending ∷ cast_unsigned w32 k.day ∷ k.origin ∷ k.class ∷ [])
    fields true two x y = (omega (arith, d.1), (p, (a, (omega (arith, x), (omega (arith, y), (omega (arith, small), (o, (c, tt))))))))
    fields false true x y = (omega (arith, d.1), (p, (a, (omega (arith, x), (omega (arith, y), (omega (arith, small), (o, (c, tt))))))))
    fields false false x y = (omega (arith, d.1), (p, (a, (omega (arith, x), (omega (arith, y), (omega (arith, small), (o, (c, tt))))))))
