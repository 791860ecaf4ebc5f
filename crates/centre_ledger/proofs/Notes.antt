-- What a payload keeps of a message: its length, where it ends, and that it is of one message.
use Rattle.std.proofs.Common.{◌≡◌, ℕ, ◌+◌, ◌-◌, ◌≤◌, ◌==◌, if◌then◌else◌, cond, Bool, true, false, List, [], ◌++◌, length, take, drop, get_or, replicate, refl, sym, ap, ap₂, ◌∙◌, subst, arith, length-append}
use Rattle.std.proofs.lemmas.Bool.{eqb-true, eqb-false}
use Rattle.std.proofs.lemmas.List.{take_at, drop_at, take-append-drop, length-replicate, length-take-le}
use Rattle.hmac_core.specs.Hmac.{hmac}
use Rattle.hmac_core.proofs.Codes.{length_hmac}
use Rattle.bench_base.specs.Rules.{IsVersion}
use Rattle.bench_base.specs.Table.{Four, Eight, room}
use Rattle.psd_wire.specs.declared.{message.Request.Request, message.ReplyMsg.ReplyMsg, message.Message.Message}
use Rattle.psd_wire.specs.declared.message.Message.TheVariants as m
use Rattle.psd_wire.specs.Grammar.{IsWhole, IsCoded, body, spell, request_table, reply_table}
use Rattle.psd_wire.proofs.Readings.{cut, one_body, request_room, reply_room, request_version, length_body_of, length_request, length_reply, reply_version}
use Rattle.centre_ledger.specs.Payload.{uncoded, kept, filled, message_part, request_size, reply_size}
use Rattle.centre_ledger.specs.Parts.{IsSpelled, IsNoted, request_front, reply_front}

-- a fact of both versions
pub by_version : (P : ℕ → Type 0) (v : ℕ) → IsVersion v → P 1 → P 2 → P v
by_version P v h one two = go (v == 1) refl
  where
    go : (b : Bool) → (v == 1) ≡ b → P v
    go true e = subst P (sym (eqb-true v 1 e)) one
    go false e = let other = eqb-false v 1 e in let is : 2 ≡ v = grind (arith, h, other) in subst P is two

-- == a spelling and its body ==

spell_coded : (x : Message) (key : List ℕ) → IsCoded x → spell x key ≡ body x ++ hmac key (body x)
unfolding spell
spell_coded x key c = ap (λ b. cond b (body x ++ hmac key (body x)) (body x)) c

pub uncoded_spell : (x : Message) (key : List ℕ) → IsCoded x → uncoded (spell x key) ≡ body x
uncoded_spell x key c = (cut (body x) (hmac key (body x)) (spell x key) (length_hmac key (body x)) (spell_coded x key c)).0

pub length_body_reply : (r : ReplyMsg) → IsWhole (m.Reply r) → length (body (m.Reply r)) ≡ reply_room r.version
length_body_reply r w = omega (arith, length_reply r [] w, ap length (spell_coded (m.Reply r) [] refl), length-append (body (m.Reply r)) (hmac [] (body (m.Reply r))), length_hmac [] (body (m.Reply r)))

-- the first byte of a spelling is its version
pub first_request : (q : Request) (key : List ℕ) → get_or (spell (m.Request q) key) 0 0 ≡ q.version
first_request q key = ap (λ b. get_or b 0 0) (spell_coded (m.Request q) key refl) ∙ request_version q (hmac key (body (m.Request q)))

-- == filled bytes ==

pub length_filled : (size : ℕ) (xs : List ℕ) → length xs ≤ size → length (filled size xs) ≡ size
length_filled size xs h = omega (arith, h, length-append xs (replicate (size - length xs) 0), length-replicate {A = ℕ} (size - length xs) 0)

-- what is filled to a size is no longer than the size
pub fits_filled : (size : ℕ) (xs bytes : List ℕ) → filled size xs ≡ bytes → length bytes ≡ size → length xs ≤ size
fits_filled size xs bytes e l = omega (arith, l, ap length e, length-append xs (replicate (size - length xs) 0))

pub filled_front : (size n : ℕ) (xs bytes : List ℕ) → filled size xs ≡ bytes → length bytes ≡ size → length xs ≡ n
    → (xs ≡ take n bytes) × (replicate (length bytes - n) 0 ≡ drop n bytes)
filled_front size n xs bytes e l long =
    let zeros : List ℕ = replicate (size - length xs) 0 in (
      sym (take_at xs zeros n long) ∙ ap (take n) e,
      ap₂ (λ a b. replicate (a - b) 0) l (sym long) ∙ sym (drop_at xs zeros n long) ∙ ap (drop n) e,
    )

-- the first bytes and the zeros after them are what is filled
pub kept_part : (v front : ℕ) (key bytes note : List ℕ) → front ≤ length bytes → IsNoted v front key bytes note → message_part v (length bytes) note ≡ bytes
unfolding message_part
kept_part v front key bytes note h k =
    let long : length (kept v note) ≡ front = ap length k.first ∙ length-take-le front bytes h in
    ap₂ (λ x n. x ++ replicate (length bytes - n) 0) k.first long ∙ ap (λ z. take front bytes ++ z) k.zeros ∙ take-append-drop front bytes

-- == where the two messages end ==

-- what is kept of the Request
kept_request : (v : ℕ) (q : Request) (key bytes : List ℕ) → IsVersion v → IsWhole (m.Request q) → length bytes ≡ request_size v
    → message_part v (request_size v) (spell (m.Request q) key) ≡ bytes → length (kept v (spell (m.Request q) key)) ≡ request_front v (get_or bytes 0 0)
unfolding message_part
kept_request v q key bytes h w = by_version
    (λ k. length bytes ≡ request_size k → message_part k (request_size k) (spell (m.Request q) key) ≡ bytes → length (kept k (spell (m.Request q) key)) ≡ request_front k (get_or bytes 0 0))
    v h (λ l e. first q.version (length_request q key w) (fits_filled 71 (spell (m.Request q) key) bytes e l)) second
  where
    first : (k : ℕ) → length (spell (m.Request q) key) ≡ request_room k + 32 → length (spell (m.Request q) key) ≤ 71 → length (spell (m.Request q) key) ≡ 71
    first k long short = go (k == 1) long
      where
        go : (b : Bool) → length (spell (m.Request q) key) ≡ room (request_table (if b then Four else Eight)) + 32 → length (spell (m.Request q) key) ≡ 71
        go true l = l
        go false l = absurd (omega (arith, l, short))

    by_first : (k : ℕ) → request_room k ≡ (if k == 1 then 39 else 55)
    by_first k = go (k == 1)
      where
        go : (b : Bool) → room (request_table (if b then Four else Eight)) ≡ (if b then 39 else 55)
        go true = refl
        go false = refl

    second : length bytes ≡ 55 → filled 55 (uncoded (spell (m.Request q) key)) ≡ bytes → length (uncoded (spell (m.Request q) key)) ≡ (if get_or bytes 0 0 == 1 then 39 else 55)
    second l e =
        let is : uncoded (spell (m.Request q) key) ≡ body (m.Request q) = uncoded_spell (m.Request q) key refl in
        let version : get_or bytes 0 0 ≡ q.version = ap (λ b. get_or b 0 0) (sym e ∙ ap (filled 55) is) ∙ request_version q _ in
        ap length is ∙ length_body_of q w ∙ by_first q.version ∙ ap (λ k. if k == 1 then 39 else 55) (sym version)

kept_reply : (v : ℕ) (r : ReplyMsg) (key bytes : List ℕ) → IsVersion v → IsWhole (m.Reply r) → length bytes ≡ reply_size v
    → message_part v (reply_size v) (spell (m.Reply r) key) ≡ bytes → length (kept v (spell (m.Reply r) key)) ≡ reply_front v (get_or bytes 0 0)
unfolding message_part
kept_reply v r key bytes h w = by_version
    (λ k. length bytes ≡ reply_size k → message_part k (reply_size k) (spell (m.Reply r) key) ≡ bytes → length (kept k (spell (m.Reply r) key)) ≡ reply_front k (get_or bytes 0 0))
    v h (λ l e. first r.version (length_reply r key w) (fits_filled 56 (spell (m.Reply r) key) bytes e l)) second
  where
    first : (k : ℕ) → length (spell (m.Reply r) key) ≡ reply_room k + 32 → length (spell (m.Reply r) key) ≤ 56 → length (spell (m.Reply r) key) ≡ 56
    first k long short = go (k == 1) long
      where
        go : (b : Bool) → length (spell (m.Reply r) key) ≡ room (reply_table (if b then Four else Eight)) + 32 → length (spell (m.Reply r) key) ≡ 56
        go true l = l
        go false l = absurd (omega (arith, l, short))

    by_first : (k : ℕ) → reply_room k ≡ (if k == 1 then 24 else 28)
    by_first k = go (k == 1)
      where
        go : (b : Bool) → room (reply_table (if b then Four else Eight)) ≡ (if b then 24 else 28)
        go true = refl
        go false = refl

    second : length bytes ≡ 28 → filled 28 (uncoded (spell (m.Reply r) key)) ≡ bytes → length (uncoded (spell (m.Reply r) key)) ≡ (if get_or bytes 0 0 == 1 then 24 else 28)
    second l e =
        let is : uncoded (spell (m.Reply r) key) ≡ body (m.Reply r) = uncoded_spell (m.Reply r) key refl in
        let version : get_or bytes 0 0 ≡ r.version = ap (λ b. get_or b 0 0) (sym e ∙ ap (filled 28) is) ∙ reply_version r _ in
        ap length is ∙ length_body_reply r w ∙ by_first r.version ∙ ap (λ k. if k == 1 then 24 else 28) (sym version)

-- the part of a Request keeps it
pub request_kept : (v : ℕ) (q : Request) (key bytes : List ℕ) → IsVersion v → IsWhole (m.Request q) → length bytes ≡ request_size v
    → message_part v (request_size v) (spell (m.Request q) key) ≡ bytes → IsNoted v (request_front v (get_or bytes 0 0)) key bytes (spell (m.Request q) key)
unfolding message_part
request_kept v q key bytes h w l e =
    let parts = filled_front (request_size v) (request_front v (get_or bytes 0 0)) (kept v (spell (m.Request q) key)) bytes e l (kept_request v q key bytes h w l e) in
    record { spelled = (m.Request q, refl, w, refl); first = parts.0; zeros = parts.1 }

pub reply_kept : (v : ℕ) (r : ReplyMsg) (key bytes : List ℕ) → IsVersion v → IsWhole (m.Reply r) → length bytes ≡ reply_size v
    → message_part v (reply_size v) (spell (m.Reply r) key) ≡ bytes → IsNoted v (reply_front v (get_or bytes 0 0)) key bytes (spell (m.Reply r) key)
unfolding message_part
reply_kept v r key bytes h w l e =
    let parts = filled_front (reply_size v) (reply_front v (get_or bytes 0 0)) (kept v (spell (m.Reply r) key)) bytes e l (kept_reply v r key bytes h w l e) in
    record { spelled = (m.Reply r, refl, w, refl); first = parts.0; zeros = parts.1 }

-- == one message is kept ==

pub one_kept : (v front : ℕ) (key bytes a b : List ℕ) → IsVersion v → IsNoted v front key bytes a → IsNoted v front key bytes b → a ≡ b
one_kept v front key bytes a b h k l = by_version (λ n. kept n a ≡ kept n b → a ≡ b) v h (λ e. e) bodies (k.first ∙ sym l.first)
  where
    bodies : uncoded a ≡ uncoded b → a ≡ b
    bodies e = same k.spelled l.spelled
      where
        same : IsSpelled key a → IsSpelled key b → a ≡ b
        same (x, c, w, s) (y, d, u, t) =
            let x_is : uncoded a ≡ body x = ap uncoded (sym s) ∙ uncoded_spell x key c in
            let y_is : uncoded b ≡ body y = ap uncoded (sym t) ∙ uncoded_spell y key d in
            sym s ∙ ap (λ z. spell z key) (one_body x y c d w u (sym x_is ∙ e ∙ y_is)) ∙ t
