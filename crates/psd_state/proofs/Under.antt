-- What is read under a key, and what the parts of a payload spell.
use Rattle.std.proofs.Common.{◌≡◌, ℕ, ◌-◌, ◌≤◌, ◌==◌, if◌then◌else◌, ◌++◌, List, length, take, drop, get_or, ap₂, Err, sym, ap, ◌∙◌, refl, Option, Some, None, Bool, true, false, IfSome, IfNone, true≢false, ◌≢◌, subst, arith, replicate}
use Rattle.indicium.specs.declared.Mark.{Mark}
use Rattle.indicium.specs.Marks as marks
use Rattle.indicium.proofs.Readings as mark_laws
use Rattle.psd_wire.specs.declared.{message.Request.Request, message.Message.Message, message.ReplyMsg.ReplyMsg, message.DoneMsg.DoneMsg}
use Rattle.psd_wire.specs.declared.message.Message.TheVariants as m
use Rattle.psd_wire.specs.Grammar as grammar
use Rattle.bench_base.specs.Table.{Four, Eight, room}
use Rattle.bench_base.specs.declared.refusals.MarkFault.{MarkFault}
use Rattle.bench_base.proofs.Facts.{ok_same, ok_err}
use Rattle.hmac_core.specs.Hmac.{hmac}
use Rattle.std.proofs.lemmas.List.{take_at, drop_at, take-append-drop, length-take-le, take_rest, length-drop}
use Rattle.psd_wire.specs.Grammar.{request_table}
use Rattle.psd_wire.proofs.Readings.{one_spelling, one_body, request_room, request_version, length_body_of}
use Rattle.psd_state.specs.Payload.{request_part, filled, body_room, pending_room, pending_part, mark_part, flag_of, PendingWhole, MarkWhole, IsKeptAt}

not_request : {q : Request} {r : ReplyMsg} → m.Request q ≡ m.Reply r → ⊥
not_request h = cc

not_done : {q : Request} {r : DoneMsg} → m.Request q ≡ m.Done r → ⊥
not_done h = cc

-- of the messages under a key, the Request
pub under_request : (o : Option Message) (key bytes : List ℕ) → IfSome o (λ x. grammar.IsCoded x × grammar.IsWhole x × (grammar.spell x key ≡ bytes))
    → IfNone o ((x : Message) → grammar.IsCoded x → grammar.IsWhole x → grammar.spell x key ≢ bytes)
    → IfSome (request_part o) (λ q. grammar.IsWhole (m.Request q) × (grammar.spell (m.Request q) key ≡ bytes))
    × IfNone (request_part o) ((q : Request) → grammar.IsWhole (m.Request q) → grammar.spell (m.Request q) key ≡ bytes → ⊥)
under_request None key bytes f n = (tt, λ q w e. n (m.Request q) refl w e)
under_request (Some (m.Request q)) key bytes f n = ((f.1, f.2), tt)
under_request (Some (m.Reply r)) key bytes f n = (tt, λ q w e. absurd (not_request (one_spelling (m.Request q) (m.Reply r) key w f.1 (e ∙ sym f.2))))
under_request (Some (m.Done r)) key bytes f n = (tt, λ q w e. absurd (not_done (one_spelling (m.Request q) (m.Done r) key w f.1 (e ∙ sym f.2))))
under_request (Some (m.Debit r)) key bytes f n = absurd (true≢false (sym f.0))
under_request (Some (m.Release y)) key bytes f n = absurd (true≢false (sym f.0))

-- a genuine mark is what is read, with its code
pub genuine_found : (bytes key : List ℕ) (x : Mark × List ℕ) → marks.ReadsAs bytes x.0 x.1 → marks.IsSpelled bytes key
    → marks.IsWhole x.0 × (marks.spell x.0 key ≡ bytes) × (hmac key (marks.body x.0) ≡ x.1)
genuine_found bytes key x reads (k, whole, e) =
    let pairs : (k, hmac key (marks.body k)) ≡ x =
    ok_same (sym (mark_laws.read_spell k key whole) ∙ ap marks.read_mark (sym e) ∙ mark_laws.only bytes x.0 x.1 reads) in
    subst (λ y. marks.IsWhole y.0 × (marks.spell y.0 key ≡ bytes) × (hmac key (marks.body y.0) ≡ y.1)) pairs (whole, sym e, refl)

-- what reads as no mark is no genuine one
pub genuine_read : (bytes key : List ℕ) (fault : MarkFault) → marks.read_mark bytes ≡ Err fault → marks.IsSpelled bytes key → ⊥
genuine_read bytes key fault read spelled =
    let code = mark_laws.code_of bytes key spelled in
    absurd (ok_err (sym code.0.1 ∙ read))

-- of the bodies, the Request
pub body_request : (o : Option Message) (bytes : List ℕ) → IfSome o (λ x. grammar.IsCoded x × grammar.IsWhole x × (grammar.body x ≡ bytes))
    → IfNone o ((x : Message) → grammar.IsCoded x → grammar.IsWhole x → grammar.body x ≢ bytes)
    → IfSome (request_part o) (λ q. grammar.IsWhole (m.Request q) × (grammar.body (m.Request q) ≡ bytes))
    × IfNone (request_part o) ((q : Request) → grammar.IsWhole (m.Request q) → grammar.body (m.Request q) ≡ bytes → ⊥)
body_request None bytes f n = (tt, λ q w e. n (m.Request q) refl w e)
body_request (Some (m.Request q)) bytes f n = ((f.1, f.2), tt)
body_request (Some (m.Reply r)) bytes f n = (tt, λ q w e. absurd (not_request (one_body (m.Request q) (m.Reply r) refl refl w f.1 (e ∙ sym f.2))))
body_request (Some (m.Done r)) bytes f n = (tt, λ q w e. absurd (not_done (one_body (m.Request q) (m.Done r) refl refl w f.1 (e ∙ sym f.2))))
body_request (Some (m.Debit r)) bytes f n = absurd (true≢false (sym f.0))
body_request (Some (m.Release y)) bytes f n = absurd (true≢false (sym f.0))

-- the body of a filled request ends where its version says
front_room : (v : ℕ) → body_room v ≡ request_room v
front_room v = go (v == 1)
  where
    go : (b : Bool) → (if b then 39 else 55) ≡ room (request_table (if b then Four else Eight))
    go true = refl
    go false = refl

pub filled_front : (q : Request) (bytes : List ℕ) → grammar.IsWhole (m.Request q) → filled q ≡ bytes
    → (grammar.body (m.Request q) ≡ take (body_room (get_or bytes 0 0)) bytes) × (replicate (55 - body_room (get_or bytes 0 0)) 0 ≡ drop (body_room (get_or bytes 0 0)) bytes)
unfolding filled
filled_front q bytes w e =
    let b : List ℕ = grammar.body (m.Request q) in
    let zeros : List ℕ = replicate (55 - length b) 0 in
    let version : get_or bytes 0 0 ≡ q.version = ap (λ x. get_or x 0 0) (sym e) ∙ request_version q zeros in
    let long : length b ≡ body_room (get_or bytes 0 0) = length_body_of q w ∙ sym (front_room q.version) ∙ ap body_room (sym version) in (
      sym (take_at b zeros (body_room (get_or bytes 0 0)) long) ∙ ap (take (body_room (get_or bytes 0 0))) e,
      ap (λ n. replicate (55 - n) 0) (sym long) ∙ sym (drop_at b zeros (body_room (get_or bytes 0 0)) long) ∙ ap (drop (body_room (get_or bytes 0 0))) e,
    )

pub front_filled : (q : Request) (bytes : List ℕ) (n : ℕ) → n ≤ length bytes → grammar.body (m.Request q) ≡ take n bytes → replicate (55 - n) 0 ≡ drop n bytes → filled q ≡ bytes
unfolding filled
front_filled q bytes n l front zeros =
    let long : length (grammar.body (m.Request q)) ≡ n = ap length front ∙ length-take-le n bytes l in
    ap₂ (λ x k. x ++ replicate (55 - k) 0) front long ∙ ap (λ r. take n bytes ++ r) zeros ∙ take-append-drop n bytes

-- == what is outstanding, and what is kept ==

pub zero_pending : (v : ℕ) (key bytes : List ℕ) → length bytes ≡ pending_room v → replicate (length bytes) 0 ≡ bytes → pending_part v key None ≡ bytes
unfolding pending_part
zero_pending v key bytes l e = ap (λ n. replicate n 0) (sym l) ∙ e

pub some_first : (key bytes : List ℕ) (q : Request) → grammar.spell (m.Request q) key ≡ bytes → pending_part 1 key (Some q) ≡ bytes
unfolding pending_part
some_first key bytes q e = e

pub some_second : (key bytes : List ℕ) (q : Request) → filled q ≡ bytes → pending_part 2 key (Some q) ≡ bytes
unfolding pending_part
some_second key bytes q e = e

pub not_zero_pending : (v : ℕ) (key bytes : List ℕ) (flag : ℕ) → flag ≡ 0 → length bytes ≡ pending_room v → (replicate (length bytes) 0 ≡ bytes → ⊥)
    → (o : Option Request) → PendingWhole o → flag_of o ≡ flag → pending_part v key o ≡ bytes → ⊥
unfolding pending_part
not_zero_pending v key bytes flag z l n None w f e = n (ap (λ k. replicate k 0) l ∙ e)
not_zero_pending v key bytes flag z l n (Some q) w f e = absurd (omega (arith, f, z))

pub not_some_first : (key bytes : List ℕ) (flag : ℕ) → flag ≡ 1 → ((q : Request) → grammar.IsWhole (m.Request q) → grammar.spell (m.Request q) key ≡ bytes → ⊥)
    → (o : Option Request) → PendingWhole o → flag_of o ≡ flag → pending_part 1 key o ≡ bytes → ⊥
unfolding pending_part
not_some_first key bytes flag z n None w f e = absurd (omega (arith, f, z))
not_some_first key bytes flag z n (Some q) w f e = n q w e

pub not_some_second : (key bytes : List ℕ) (flag : ℕ) → flag ≡ 1 → ((q : Request) → grammar.IsWhole (m.Request q) → filled q ≡ bytes → ⊥)
    → (o : Option Request) → PendingWhole o → flag_of o ≡ flag → pending_part 2 key o ≡ bytes → ⊥
unfolding pending_part
not_some_second key bytes flag z n None w f e = absurd (omega (arith, f, z))
not_some_second key bytes flag z n (Some q) w f e = n q w e

pub zero_mark : (key bytes : List ℕ) → length bytes ≡ 64 → replicate (length bytes) 0 ≡ bytes → mark_part key None ≡ bytes
unfolding mark_part
zero_mark key bytes l e = ap (λ n. replicate n 0) (sym l) ∙ e

pub some_mark : (key bytes : List ℕ) (k : Mark) → marks.spell k key ≡ bytes → mark_part key (Some k) ≡ bytes
unfolding mark_part
some_mark key bytes k e = e

pub not_zero_mark : (key bytes : List ℕ) (pieces : ℕ) → pieces ≡ 0 → length bytes ≡ 64 → (replicate (length bytes) 0 ≡ bytes → ⊥)
    → (o : Option Mark) → MarkWhole o → IsKeptAt pieces o → mark_part key o ≡ bytes → ⊥
unfolding mark_part
not_zero_mark key bytes p z l n None w f e = n (ap (λ k. replicate k 0) l ∙ e)
not_zero_mark key bytes p z l n (Some k) w f e = absurd (omega (arith, f, z))

pub not_some_mark : (key bytes : List ℕ) (pieces : ℕ) → (pieces ≡ 0 → ⊥) → ((k : Mark) → marks.IsWhole k → marks.spell k key ≡ bytes → ⊥)
    → (o : Option Mark) → MarkWhole o → IsKeptAt pieces o → mark_part key o ≡ bytes → ⊥
unfolding mark_part
not_some_mark key bytes p z n None w f e = z f
not_some_mark key bytes p z n (Some k) w f e = n k w e

-- == the zeros after a request ==

rest_zeros : (bytes : List ℕ) (n : ℕ) → length bytes ≡ 55 → length (take (length bytes - n) (drop n bytes)) ≡ 55 - n
rest_zeros bytes n l = ap length (take_rest bytes n) ∙ length-drop n bytes ∙ ap (λ k. k - n) l

pub zeros_slice : (bytes : List ℕ) (n : ℕ) → length bytes ≡ 55 → replicate (55 - n) 0 ≡ drop n bytes
    → replicate (length (take (length bytes - n) (drop n bytes))) 0 ≡ take (length bytes - n) (drop n bytes)
zeros_slice bytes n l h = ap (λ k. replicate k 0) (rest_zeros bytes n l) ∙ h ∙ sym (take_rest bytes n)

pub slice_zeros : (bytes : List ℕ) (n : ℕ) → length bytes ≡ 55 → replicate (length (take (length bytes - n) (drop n bytes))) 0 ≡ take (length bytes - n) (drop n bytes)
    → replicate (55 - n) 0 ≡ drop n bytes
slice_zeros bytes n l h = ap (λ k. replicate k 0) (sym (rest_zeros bytes n l)) ∙ h ∙ take_rest bytes n
