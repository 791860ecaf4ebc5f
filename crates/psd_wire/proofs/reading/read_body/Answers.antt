use Rattle.std.proofs.Common.{◌≡◌, ◌≢◌, ℕ, List, Option, IfSome, IfNone, Result, length, replicate, sym, ◌∙◌, ap, subst, arith, refl}
use Rattle.bench_base.specs.Table.{IsBytes}
use Rattle.bench_base.proofs.Tables.{IsBytes-append, IsBytes-zeros}
use Rattle.bench_base.specs.declared.refusals.Unread.{Unread}
use Rattle.psd_wire.specs.declared.message.Message.{Message}
use Rattle.psd_wire.specs.Grammar.{IsCoded, IsWhole, body, read, coded_in}
use Rattle.psd_wire.proofs.Readings as laws
use Rattle.psd_wire.proofs.reading.read_body.Goals as goal

pub returns-then-bytes-gt55-clause-none : goal.returns-then-bytes-gt55-clause-none
returns-then-bytes-gt55-clause-none c x coded whole same =
    let long = c.if-bytes-gt55.true in
    absurd (omega (arith, laws.length_coded_body x coded whole, ap length same, long))

-- what holds of the definition holds of the answer
at : (P : Option Message → Type 0) (answer : Option Message) (x y : Result Message Unread) (a b : List ℕ) → answer ≡ coded_in x → x ≡ y → y ≡ read a → a ≡ b
    → P (coded_in (read b)) → P answer
at P answer x y a b e f g same h = subst P (sym (e ∙ ap coded_in (f ∙ g ∙ ap read same))) h

pub returns-clause-found : goal.returns-clause-found
returns-clause-found c =
    let bytes : IsBytes c.args.bytes.now = λ i. omega (arith, c.type_inv.bytes i) in
    let short = c.if-bytes-gt55.false in
    at (λ o. IfSome o (λ x. IsCoded x × IsWhole x × (body x ≡ c.args.bytes.now))) _ _ _ _ _ c.coded_of.ensures refl c.read_message.ensures.exact
    (laws.filled c.args.bytes.now c.copy_from_slice.new.self (omega (arith, short)) c.copy_from_slice.ensures.after)
    (laws.body_found c.args.bytes.now (IsBytes-append c.args.bytes.now (replicate 32 0) bytes (IsBytes-zeros 32)))

pub returns-clause-none : goal.returns-clause-none
returns-clause-none c =
    let short = c.if-bytes-gt55.false in
    at (λ o. IfNone o ((x : Message) → IsCoded x → IsWhole x → body x ≢ c.args.bytes.now)) _ _ _ _ _ c.coded_of.ensures refl c.read_message.ensures.exact
    (laws.filled c.args.bytes.now c.copy_from_slice.new.self (omega (arith, short)) c.copy_from_slice.ensures.after)
    (laws.body_none c.args.bytes.now)
