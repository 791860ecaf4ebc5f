use Rattle.std.proofs.Common.{◌≡◌, ℕ, List, IfSome, IfNone, take, drop, replicate, get_or, ◌-◌, sym, subst, arith}
use Rattle.bench_base.proofs.Facts.{none_by, not_so, is_so}
use Rattle.psd_wire.specs.declared.message.Request.{Request}
use Rattle.psd_wire.specs.declared.message.Message.TheVariants as m
use Rattle.psd_wire.specs.Grammar as grammar
use Rattle.psd_state.specs.Payload.{filled, body_room}
use Rattle.psd_state.proofs.Under.{body_request, filled_front, front_filled, zeros_slice, slice_zeros}
use Rattle.psd_state.proofs.Read.{some_by}
use Rattle.psd_state.proofs.parts.read_filled.Goals as goal

-- the request, and the zeros after it, if it ends after n bytes
at : (q : Request) (bytes : List ℕ) (n : ℕ) → n ≡ body_room (get_or bytes 0 0) → grammar.IsWhole (m.Request q) → filled q ≡ bytes
    → (grammar.body (m.Request q) ≡ take n bytes) × (replicate (55 - n) 0 ≡ drop n bytes)
at q bytes n e w is = subst (λ k. (grammar.body (m.Request q) ≡ take k bytes) × (replicate (55 - k) 0 ≡ drop k bytes)) (sym e) (filled_front q bytes w is)

pub returns-then-not-is_zero-clause-none : goal.returns-then-not-is_zero-clause-none
returns-then-not-is_zero-clause-none c =
    λ q w e. not_so _ _ c.is_zero.ensures c.if-not-is_zero.true
    (zeros_slice c.args.bytes.now c.room_of_body-front.result c.requires (at q c.args.bytes.now _ c.room_of_body-front.ensures.value w e).1)

pub returns-clause-found : goal.returns-clause-found
returns-clause-found c =
    let bytes : List ℕ = c.args.bytes.now in
    let n : ℕ = c.room_of_body-front.result in
    let zeros = slice_zeros bytes n c.requires (is_so _ _ c.is_zero.ensures c.if-not-is_zero.false) in
    let known = body_request c.read_body.result (take n bytes) c.read_body.ensures.found c.read_body.ensures.none in
    subst (λ o. IfSome o (λ q. grammar.IsWhole (m.Request q) × (filled q ≡ bytes))) (sym c.request_of.ensures)
    (some_by _ (λ q. grammar.IsWhole (m.Request q) × (grammar.body (m.Request q) ≡ take n bytes)) (λ q. grammar.IsWhole (m.Request q) × (filled q ≡ bytes)) (λ q found. (found.0, front_filled q bytes n (omega (arith, c.requires, c.room_of_body-front.ensures.most)) found.1 zeros)) known.0)

pub returns-clause-none : goal.returns-clause-none
returns-clause-none c =
    let bytes : List ℕ = c.args.bytes.now in
    let n : ℕ = c.room_of_body-front.result in
    let known = body_request c.read_body.result (take n bytes) c.read_body.ensures.found c.read_body.ensures.none in
    subst (λ o. IfNone o ((q : Request) → grammar.IsWhole (m.Request q) → filled q ≡ bytes → ⊥)) (sym c.request_of.ensures)
    (none_by _ ((q : Request) → grammar.IsWhole (m.Request q) → grammar.body (m.Request q) ≡ take n bytes → ⊥)
    ((q : Request) → grammar.IsWhole (m.Request q) → filled q ≡ bytes → ⊥) (λ none q w e. none q w (at q bytes n c.room_of_body-front.ensures.value w e).0) known.1)
