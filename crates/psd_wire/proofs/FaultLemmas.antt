-- A fault is answered if and only if it is the first that holds.
use Rattle.std.proofs.Common.{◌≡◌, ◌≢◌, ◌↔◌, ℕ, ◌+◌, List, length, get_or, take, drop, sym, ap, ◌∙◌, refl, arith, subst, Result, Ok, Err, Option, Some, None, IsSome, IsErr, Bool, true, false, inl, inr, eqb-true, eq-eqb, ne_eqb, ◌==◌, if◌then◌else◌, nat_lt}
use Rattle.std.specs.Int.{w32, cast_signed}
use Rattle.std.proofs.lemmas.Bool.{ltb-false, ltb-true}
use Rattle.bench_base.specs.Table.{One, Four, Eight, bytes_in, number}
use Rattle.bench_base.specs.declared.refusals.Unread.{Unread}
use Rattle.bench_base.specs.declared.refusals.Unread.TheVariants as unread
use Rattle.bench_base.specs.Rules.{is_version}
use Rattle.bench_base.proofs.Facts.{known, known_is, some_by, unlike}
use Rattle.indicium.specs.Marks.{read_mark}
use Rattle.psd_wire.specs.declared.message.Message.{Message}
use Rattle.psd_wire.specs.Grammar.{kind_of, verdict_of, day_of, sum_size, size_of, given, request_at, reply_at, release_at, if_mark, by_tag, read}
use Rattle.psd_wire.specs.Faults.{IsTagged, IsFramed, kind_at, verdict_at, day_place, day_at, HasFault}
use Rattle.psd_wire.proofs.Readings.{byte_of, last_tag, by_flag}

-- == the fields as the reader sees them ==

kind_is : (bytes : List ℕ) → kind_of (number One (take 1 (drop 10 bytes))) ≡ kind_at bytes
kind_is bytes = ap kind_of (byte_of 10 bytes)

verdict_is : (bytes : List ℕ) → verdict_of (number One (take 1 (drop 11 bytes))) ≡ verdict_at bytes
verdict_is bytes = ap verdict_of (byte_of 11 bytes)

-- the day follows device, number, kind, customer, four sums and pieces
abbrev day_behind : ℕ → ℕ
day_behind sum = 15 + sum + sum + sum + sum + 4

place_is : (v : ℕ) → day_behind (bytes_in (sum_size v)) ≡ day_place v
place_is v = by_flag (λ b. day_behind (bytes_in (if b then Four else Eight)) ≡ (if b then 35 else 51)) (v == 1) refl refl

day_is : (bytes : List ℕ) → day_of (cast_signed w32 (number Four (take 4 (drop (day_behind (bytes_in (sum_size (get_or bytes 0 0)))) bytes)))) ≡ day_at bytes
unfolding number
day_is bytes = ap (λ n. day_of (cast_signed w32 (number Four (take 4 (drop n bytes))))) (place_is (get_or bytes 0 0))

-- == what is answered ==

wrong : {e f : Unread} → ◌≡◌ {A = Result Message Unread} (Err e) (Err f) → e ≡ f
wrong h = cc

told : (bytes : List ℕ) (e f : Unread) → HasFault e bytes → ◌≡◌ {A = Result Message Unread} (Err e) (Err f) → HasFault f bytes
told bytes e f holds h = subst (λ x. HasFault x bytes) (wrong h) holds

-- one way of an if, or the other
ways : {A P : Type 0} (b : Bool) (x y z : A) → (b ≡ true → x ≡ z → P) → (b ≡ false → y ≡ z → P) → (if b then x else y) ≡ z → P
ways true x y z one other h = one refl h
ways false x y z one other h = other refl h

-- what is given is there, or its fault is answered
missing : {A B P : Type 0} (e : Unread) (o : Option A) (f : A → Result B Unread) (z : Result B Unread)
    → (o ≡ None → Err e ≡ z → P) → ((a : A) → o ≡ Some a → f a ≡ z → P) → given e o f ≡ z → P
missing e None f z one other h = one refl h
missing e (Some a) f z one other h = other a refl h

request_fault : (bytes : List ℕ) (e : Unread) → IsFramed bytes 1 → request_at bytes ≡ Err e → HasFault e bytes
unfolding request_at
request_fault bytes e framed h =
    missing unread.Kind _ _ (Err e)
    (λ kind r. told bytes unread.Kind e (inl framed, sym (kind_is bytes) ∙ kind) r)
    (λ k kind h. missing unread.Day _ _ (Err e)
    (λ day r. told bytes unread.Day e (framed, some_by _ k (sym (kind_is bytes) ∙ kind), sym (day_is bytes) ∙ day) r)
    (λ t day r. absurd (cc)) h) h

reply_fault : (bytes : List ℕ) (e : Unread) → IsFramed bytes 2 → reply_at bytes ≡ Err e → HasFault e bytes
unfolding reply_at
reply_fault bytes e framed h =
    missing unread.Kind _ _ (Err e)
    (λ kind r. told bytes unread.Kind e (inr framed, sym (kind_is bytes) ∙ kind) r)
    (λ k kind h. missing unread.Verdict _ _ (Err e)
    (λ verdict r. told bytes unread.Verdict e (framed, some_by _ k (sym (kind_is bytes) ∙ kind), sym (verdict_is bytes) ∙ verdict) r)
    (λ v verdict r. absurd (cc)) h) h

unmarked : {A F : Type 0} (m : Result A F) (bytes : List ℕ) (e : Unread) → if_mark m bytes ≡ Err e → IsErr m × (unread.Mark ≡ e)
unmarked (Ok x) bytes e h = absurd (cc)
unmarked (Err f) bytes e h = (refl, wrong h)

release_fault : (bytes : List ℕ) (e : Unread) → IsFramed bytes 17 → release_at bytes ≡ Err e → HasFault e bytes
unfolding release_at
release_fault bytes e framed h =
    let is = unmarked (read_mark (drop 2 bytes)) (drop 2 bytes) e h in
    subst (λ x. HasFault x bytes) is.1 (framed, is.0)

by_tag_fault : (bytes : List ℕ) (t : ℕ) (e : Unread) → IsFramed bytes t → by_tag t bytes ≡ Err e → HasFault e bytes
by_tag_fault bytes t e framed h =
    ways (t == 1) _ _ _ (λ is r. request_fault bytes e (subst (IsFramed bytes) (eqb-true t 1 is) framed) r)
    (λ not1 r. ways (t == 2) _ _ _ (λ is r. reply_fault bytes e (subst (IsFramed bytes) (eqb-true t 2 is) framed) r)
    (λ not2 r. ways (t == 3) _ _ _ (λ is r. absurd (cc))
    (λ not3 r. ways (t == 16) _ _ _ (λ is r. absurd (cc))
    (λ not16 r.
    let last = last_tag (get_or bytes 0 0) t (length bytes) (unlike t 1 not1) (unlike t 2 not2) (unlike t 3 not3) (unlike t 16 not16) framed.size in
    release_fault bytes e (subst (IsFramed bytes) last.0 framed) r) r) r) r) h

unknown : (v : ℕ) → is_version v ≡ false → (v ≢ 1) × (v ≢ 2)
unknown v h = grind arith

unknown_is : (v : ℕ) → v ≢ 1 → v ≢ 2 → is_version v ≡ false
unknown_is v a b = grind arith

-- what is answered holds
pub fault_found : (bytes : List ℕ) (e : Unread) → read bytes ≡ Err e → HasFault e bytes
unfolding read
fault_found bytes e h =
    let v : ℕ = get_or bytes 0 0 in
    let t : ℕ = get_or bytes 1 0 in
    ways (nat_lt (length bytes) 2) _ _ _ (λ few r. told bytes unread.Length e (inl (ltb-true _ _ few)) r)
    (λ two r. ways (is_version v) _ _ _
    (λ one r. missing unread.Tag (size_of v t) _ _
    (λ none r. told bytes unread.Tag e (ltb-false _ _ two, known v one, none) r)
    (λ n size r.
    let tagged : IsTagged bytes t n = record { two = ltb-false _ _ two; version = known v one; tag = refl; size = size } in
    ways (length bytes == n) _ _ _
    (λ is r. by_tag_fault bytes t e (subst (IsTagged bytes t) (sym (eqb-true _ _ is)) tagged) r)
    (λ other r. told bytes unread.Length e (inr (t, n, tagged, unlike _ _ other)) r) r) r)
    (λ other r. let un = unknown v other in told bytes unread.Version e (ltb-false _ _ two, un.0, un.1) r) r) h

-- == what holds is answered ==

framed_read : (bytes : List ℕ) (t : ℕ) → IsFramed bytes t → read bytes ≡ by_tag t bytes
unfolding read
framed_read bytes t f =
    let two : nat_lt (length bytes) 2 ≡ false = grind (arith, f.two) in
    rw (two, known_is (get_or bytes 0 0) f.version, f.tag, f.size, eq-eqb (length bytes) (length bytes) refl) refl

other_length : (bytes : List ℕ) (t n : ℕ) → IsTagged bytes t n → length bytes ≢ n → read bytes ≡ Err unread.Length
unfolding read
other_length bytes t n f other =
    let two : nat_lt (length bytes) 2 ≡ false = grind (arith, f.two) in
    rw (two, known_is (get_or bytes 0 0) f.version, f.tag, f.size, ne_eqb (length bytes) n other) refl

kindless_request : (bytes : List ℕ) → kind_at bytes ≡ None → request_at bytes ≡ Err unread.Kind
unfolding request_at
kindless_request bytes none = rw (kind_is bytes, none) refl

kindless_reply : (bytes : List ℕ) → kind_at bytes ≡ None → reply_at bytes ≡ Err unread.Kind
unfolding reply_at
kindless_reply bytes none = rw (kind_is bytes, none) refl

some_of : {A : Type 0} (o : Option A) → IsSome o → (a : A) × (o ≡ Some a)
some_of None h = absurd (cc)
some_of (Some a) h = (a, refl)

dayless : (bytes : List ℕ) → IsSome (kind_at bytes) → day_at bytes ≡ None → request_at bytes ≡ Err unread.Day
unfolding request_at
dayless bytes kind none = let k = some_of _ kind in rw (kind_is bytes, k.1, day_is bytes, none) refl

verdictless : (bytes : List ℕ) → IsSome (kind_at bytes) → verdict_at bytes ≡ None → reply_at bytes ≡ Err unread.Verdict
unfolding reply_at
verdictless bytes kind none = let k = some_of _ kind in rw (kind_is bytes, k.1, verdict_is bytes, none) refl

markless : {A F : Type 0} (m : Result A F) (bytes : List ℕ) → IsErr m → if_mark m bytes ≡ Err unread.Mark
markless (Ok x) bytes h = absurd (cc)
markless (Err f) bytes h = refl

releaseless : (bytes : List ℕ) → IsErr (read_mark (drop 2 bytes)) → release_at bytes ≡ Err unread.Mark
unfolding release_at
releaseless bytes h = markless (read_mark (drop 2 bytes)) (drop 2 bytes) h

pub fault_read : (bytes : List ℕ) (e : Unread) → HasFault e bytes → read bytes ≡ Err e
unfolding read
fault_read bytes unread.Length (inl few) = let is : nat_lt (length bytes) 2 ≡ true = grind (arith, few) in rw is refl
fault_read bytes unread.Length (inr (t, n, tagged, other)) = other_length bytes t n tagged other
fault_read bytes unread.Version (two, one, other) =
    let is : nat_lt (length bytes) 2 ≡ false = grind (arith, two) in rw (is, unknown_is (get_or bytes 0 0) one other) refl
fault_read bytes unread.Tag (two, one, none) =
    let is : nat_lt (length bytes) 2 ≡ false = grind (arith, two) in rw (is, known_is (get_or bytes 0 0) one, none) refl
fault_read bytes unread.Kind (inl framed, none) = framed_read bytes 1 framed ∙ kindless_request bytes none
fault_read bytes unread.Kind (inr framed, none) = framed_read bytes 2 framed ∙ kindless_reply bytes none
fault_read bytes unread.Verdict (framed, kind, none) = framed_read bytes 2 framed ∙ verdictless bytes kind none
fault_read bytes unread.Day (framed, kind, none) = framed_read bytes 1 framed ∙ dayless bytes kind none
fault_read bytes unread.Mark (framed, bad) = framed_read bytes 17 framed ∙ releaseless bytes bad

pub fault : (bytes : List ℕ) (e : Unread) → (read bytes ≡ Err e) ↔ HasFault e bytes
fault bytes e = (fault_found bytes e, fault_read bytes e)
