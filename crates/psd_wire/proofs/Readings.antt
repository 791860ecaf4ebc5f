-- A message that is spelled is read, and what is read is a message that is spelled so.
use Rattle.std.proofs.Common.{◌≡◌, ℕ, ℤ, [], ◌∷◌, ◌+◌, ◌-◌, ◌^◌, ◌<◌, ◌≤◌, List, ◌++◌, length, get_or, take, drop, replicate, sym, ap, ap₂, ◌∙◌, refl, arith, subst, Result, Ok, Err, Option, Some, None, Bool, true, false, cond, length-append, append-nil, eqb-true, eq-eqb, ne_eqb, inl, inr, length-drop, ◌==◌, if◌then◌else◌, nat_lt, FitsSigned, IfOk, IfSome, IfNone, ◌≢◌, lit<}
use Rattle.std.specs.Int.{w32, cast_signed, cast_unsigned}
use Rattle.std.proofs.lemmas.Int.{of_z-to_z, to_z-of_z, ints}
use Rattle.std.proofs.lemmas.Bool.{cases_eq}
use Rattle.std.proofs.lemmas.List.{take_at, drop_at, take-append-drop, get_or-take, get_or-drop, drop-replicate, take-replicate, nil_from_length}
use Rattle.std.proofs.lemmas.Option.{same_Some, none-some}
use Rattle.bench_base.specs.Table.{Size, One, Four, Eight, number, row, values, Fit, IsBytes, room}
use Rattle.bench_base.specs.Rules.{is_version, IsVersion}
use Rattle.bench_base.proofs.Tables.{row_values, values_row, values_fit, length_row, joined, first_number, second_number, first_cell, second_cell}
use Rattle.bench_base.specs.declared.{words.Kind.Kind, words.Kind.TheVariants.Enrol, words.Kind.TheVariants.Reset, words.Kind.TheVariants.Audit, words.Kind.TheVariants.Refund, words.Kind.TheVariants.Withdraw, words.Verdict.Verdict, words.Verdict.TheVariants.Granted, words.Verdict.TheVariants.NotEnrolled, words.Verdict.TheVariants.EnrolledAlready, words.Verdict.TheVariants.NoCustomer, words.Verdict.TheVariants.Suspended, words.Verdict.TheVariants.NoFunds, words.Verdict.TheVariants.Imbalance, refusals.Unread.Unread}
use Rattle.bench_base.specs.declared.refusals.Unread.TheVariants as unread
use Rattle.bench_base.proofs.Facts.{read_sfits, ok_same, known, known_is}
use Rattle.hmac_core.specs.Hmac.{hmac}
use Rattle.hmac_core.proofs.Codes.{length_hmac}
use Rattle.indicium.specs.Marks.{read_mark}
use Rattle.indicium.specs.declared.Mark.{Mark}
use Rattle.indicium.proofs.Readings.{let_through, if_ok}
use Rattle.psd_wire.specs.declared.{message.Request.Request, message.ReplyMsg.ReplyMsg, message.DoneMsg.DoneMsg, message.DebitMsg.DebitMsg, message.Message.Message}
use Rattle.psd_wire.specs.declared.message.Message.TheVariants as m
use Rattle.psd_wire.specs.Grammar.{kind_code, kind_of, verdict_code, verdict_of, sum_size, request_table, request_values, reply_table, reply_values, done_table, done_values, debit_table, debit_values, body, spell, is_coded, IsDay, IsWhole, size_of, given, day_of, request_from, request_in, request_at, reply_from, reply_in, reply_at, done_from, done_at, debit_from, debit_at, release_at, if_mark, by_tag, read, HasCode, IsReading, IsCoded, coded_in}
pub use Rattle.psd_wire.specs.Grammar.{ReadsAs, code_room}

-- == codes of words ==

pub kind_of_code : (k : Kind) → kind_of (kind_code k) ≡ Some k
unfolding kind_of
kind_of_code Enrol = refl
kind_of_code Reset = refl
kind_of_code Audit = refl
kind_of_code Refund = refl
kind_of_code Withdraw = refl

-- a row of a table of codes is the one, or the code is found further down
row_or : {A : Type 0} (f : A → ℕ) (n c : ℕ) (a b : A) (rest : Option A) → f a ≡ c → (rest ≡ Some b → f b ≡ n) → (if n == c then Some a else rest) ≡ Some b → f b ≡ n
row_or f n c a b rest code more h =
    elim (cases_eq n c) [
      | inl e ↦ let same : a ≡ b = same_Some _ _ (sym (ap (λ t. cond t (Some a) rest) (eq-eqb n c e)) ∙ h) in ap f (sym same) ∙ code ∙ sym e
      | inr d ↦ more (sym (ap (λ t. cond t (Some a) rest) (ne_eqb n c d)) ∙ h)
    ]

none_left : {A : Type 0} {b : A} (n m : ℕ) → None ≡ Some b → n ≡ m
none_left n m h = cc

pub kind_code_of : (n : ℕ) (k : Kind) → kind_of n ≡ Some k → kind_code k ≡ n
unfolding kind_of
kind_code_of n k h =
    row_or kind_code n 1 Enrol k _ refl (row_or kind_code n 2 Reset k _ refl (row_or kind_code n 3 Audit k _ refl
    (row_or kind_code n 4 Refund k _ refl (row_or kind_code n 5 Withdraw k _ refl (none_left _ _))))) h

pub verdict_of_code : (v : Verdict) → verdict_of (verdict_code v) ≡ Some v
unfolding verdict_of
verdict_of_code Granted = refl
verdict_of_code NotEnrolled = refl
verdict_of_code EnrolledAlready = refl
verdict_of_code NoCustomer = refl
verdict_of_code Suspended = refl
verdict_of_code NoFunds = refl
verdict_of_code Imbalance = refl

pub verdict_code_of : (n : ℕ) (v : Verdict) → verdict_of n ≡ Some v → verdict_code v ≡ n
unfolding verdict_of
verdict_code_of n v h =
    row_or verdict_code n 0 Granted v _ refl (row_or verdict_code n 1 NotEnrolled v _ refl (row_or verdict_code n 2 EnrolledAlready v _ refl
    (row_or verdict_code n 3 NoCustomer v _ refl (row_or verdict_code n 4 Suspended v _ refl (row_or verdict_code n 5 NoFunds v _ refl
    (row_or verdict_code n 6 Imbalance v _ refl (none_left _ _))))))) h

pub kind_byte : (k : Kind) → kind_code k < 2 ^ 8
kind_byte Enrol = lit< tt
kind_byte Reset = lit< tt
kind_byte Audit = lit< tt
kind_byte Refund = lit< tt
kind_byte Withdraw = lit< tt

pub verdict_byte : (v : Verdict) → verdict_code v < 2 ^ 8
verdict_byte Granted = lit< tt
verdict_byte NotEnrolled = lit< tt
verdict_byte EnrolledAlready = lit< tt
verdict_byte NoCustomer = lit< tt
verdict_byte Suspended = lit< tt
verdict_byte NoFunds = lit< tt
verdict_byte Imbalance = lit< tt

-- what is given is there
pub there : {A B : Type 0} (e : Unread) (o : Option A) (f : A → Result B Unread) (y : B) → given e o f ≡ Ok y → (a : A) × (o ≡ Some a) × (f a ≡ Ok y)
there e None f y h = absurd (cc)
there e (Some a) f y h = (a, refl, h)

pub day_of_found : (z t : ℤ) → day_of z ≡ Some t → (z ≡ t) × IsDay t
unfolding day_of
day_of_found z t h = grind (arith, ints)

pub day_of_day : (z : ℤ) → IsDay z → day_of z ≡ Some z
unfolding day_of
day_of_day z h = grind (arith, ints)

pub day_fits : (z : ℤ) → IsDay z → FitsSigned w32 z
day_fits z h = search (arith, ints, h.0, h.1)

-- == the fields of bytes ==

pub byte_of : (at : ℕ) (bytes : List ℕ) → number One (take 1 (drop at bytes)) ≡ get_or bytes at 0
unfolding number
byte_of at bytes = get_or-take 1 (drop at bytes) 0 0 (omega arith) ∙ get_or-drop at bytes 0 0 ∙ ap (λ i. get_or bytes i 0) (omega arith)

-- == versions ==

-- a fact of each of the two sizes of sums
pub by_flag : (P : Bool → Type 0) (b : Bool) → P true → P false → P b
by_flag P true one two = one
by_flag P false one two = two

-- how many bytes stand before the code
abbrev pub request_room : ℕ → ℕ
request_room v = room (request_table (sum_size v))

abbrev pub reply_room : ℕ → ℕ
reply_room v = room (reply_table (sum_size v))

size_request : (v : ℕ) → size_of v 1 ≡ Some (request_room v + 32)
unfolding size_of
size_request v = by_flag (λ b. (if b then Some 71 else Some 87) ≡ Some (room (request_table (if b then Four else Eight)) + 32)) (v == 1) refl refl

size_reply : (v : ℕ) → size_of v 2 ≡ Some (reply_room v + 32)
unfolding size_of
size_reply v = by_flag (λ b. (if b then Some 56 else Some 60) ≡ Some (room (reply_table (if b then Four else Eight)) + 32)) (v == 1) refl refl

-- at most 55 bytes stand before the code
pub request_room_le : (v : ℕ) → request_room v ≤ 55
request_room_le v = by_flag (λ b. room (request_table (if b then Four else Eight)) ≤ 55) (v == 1) (omega arith) (omega arith)

pub reply_room_le : (v : ℕ) → reply_room v ≤ 55
reply_room_le v = by_flag (λ b. room (reply_table (if b then Four else Eight)) ≤ 55) (v == 1) (omega arith) (omega arith)

-- == a Request ==

request_again : (v t d n k c a x y z p s : ℕ) (kind : Kind) (day : ℤ) → t ≡ 1 → kind_code kind ≡ k → cast_signed w32 s ≡ day → s < 2 ^ 32
    → request_values (request_from (v ∷ t ∷ d ∷ n ∷ k ∷ c ∷ a ∷ x ∷ y ∷ z ∷ p ∷ s ∷ []) kind day) ≡ v ∷ t ∷ d ∷ n ∷ k ∷ c ∷ a ∷ x ∷ y ∷ z ∷ p ∷ s ∷ []
request_again v t d n k c a x y z p s kind day one code is fits =
    let back : cast_unsigned w32 day ≡ s = ap (cast_unsigned w32) (sym is) ∙ of_z-to_z w32 s fits in
    let one' : 1 ≡ t = sym one in
    cc

pub request_at_found : (bytes : List ℕ) (x : Message) → IsVersion (get_or bytes 0 0) → get_or bytes 1 0 ≡ 1 → request_room (get_or bytes 0 0) ≤ length bytes
    → IsBytes bytes → request_at bytes ≡ Ok x → IsWhole x × (body x ≡ take (request_room (get_or bytes 0 0)) bytes) × (code_room x ≡ 32)
unfolding request_at body
request_at_found bytes x v t l h e =
    let table : List Size = request_table (sum_size (get_or bytes 0 0)) in
    let vs : List ℕ = values 0 table bytes in
    let fit : Fit table vs = values_fit table 0 bytes h in
    let kind = there _ _ _ _ e in
    let day = there _ _ _ _ kind.2 in
    let today = day_of_found _ _ day.1 in
    let q : Request = request_from vs kind.0 day.0 in
    let is : m.Request q ≡ x = ok_same day.2 in
    let same : request_values q ≡ vs =
    request_again _ _ _ _ _ _ _ _ _ _ _ _ kind.0 day.0 (second_number bytes ∙ t) (kind_code_of _ _ kind.1) today.0 fit.1.1.1.1.1.1.1.1.1.1.1.0 in
    let version : q.version ≡ get_or bytes 0 0 = first_number bytes in
    subst (λ y. IsWhole y × (body y ≡ take (room table) bytes) × (code_room y ≡ 32)) is (
      (subst IsVersion (sym version) v, subst (λ n. Fit (request_table (sum_size n)) (request_values q)) (sym version) (subst (Fit table) (sym same) fit), today.1),
      ap (λ n. row (request_table (sum_size n)) (request_values q)) version ∙ ap (row table) same ∙ row_values table 0 bytes (omega (arith, l)) h,
      refl,
    )

-- == a Reply ==

reply_again : (v t d n k w a s o : ℕ) (kind : Kind) (verdict : Verdict) → t ≡ 2 → kind_code kind ≡ k → verdict_code verdict ≡ w → s < 2 ^ 32
    → reply_values (reply_from (v ∷ t ∷ d ∷ n ∷ k ∷ w ∷ a ∷ s ∷ o ∷ []) kind verdict) ≡ v ∷ t ∷ d ∷ n ∷ k ∷ w ∷ a ∷ s ∷ o ∷ []
reply_again v t d n k w a s o kind verdict two code word fits =
    let back : cast_unsigned w32 (cast_signed w32 s) ≡ s = of_z-to_z w32 s fits in
    let two' : 2 ≡ t = sym two in
    cc

pub reply_at_found : (bytes : List ℕ) (x : Message) → IsVersion (get_or bytes 0 0) → get_or bytes 1 0 ≡ 2 → reply_room (get_or bytes 0 0) ≤ length bytes
    → IsBytes bytes → reply_at bytes ≡ Ok x → IsWhole x × (body x ≡ take (reply_room (get_or bytes 0 0)) bytes) × (code_room x ≡ 32)
unfolding reply_at body
reply_at_found bytes x v t l h e =
    let table : List Size = reply_table (sum_size (get_or bytes 0 0)) in
    let vs : List ℕ = values 0 table bytes in
    let fit : Fit table vs = values_fit table 0 bytes h in
    let kind = there _ _ _ _ e in
    let verdict = there _ _ _ _ kind.2 in
    let r : ReplyMsg = reply_from vs kind.0 verdict.0 in
    let is : m.Reply r ≡ x = ok_same verdict.2 in
    let same : reply_values r ≡ vs =
    reply_again _ _ _ _ _ _ _ _ _ kind.0 verdict.0 (second_number bytes ∙ t) (kind_code_of _ _ kind.1) (verdict_code_of _ _ verdict.1) fit.1.1.1.1.1.1.1.0 in
    let version : r.version ≡ get_or bytes 0 0 = first_number bytes in
    subst (λ y. IsWhole y × (body y ≡ take (room table) bytes) × (code_room y ≡ 32)) is (
      (subst IsVersion (sym version) v, subst (λ n. Fit (reply_table (sum_size n)) (reply_values r)) (sym version) (subst (Fit table) (sym same) fit), read_sfits w32 _),
      ap (λ n. row (reply_table (sum_size n)) (reply_values r)) version ∙ ap (row table) same ∙ row_values table 0 bytes (omega (arith, l)) h,
      refl,
    )

-- == a Done, a Debit ==

done_again : (v t d n : ℕ) → v ≡ 1 → t ≡ 3 → done_values (done_from (v ∷ t ∷ d ∷ n ∷ [])) ≡ v ∷ t ∷ d ∷ n ∷ []
done_again v t d n one three = ap₂ (λ a b. a ∷ b ∷ d ∷ n ∷ []) (sym one) (sym three)

pub done_at_found : (bytes : List ℕ) → get_or bytes 0 0 ≡ 1 → get_or bytes 1 0 ≡ 3 → 10 ≤ length bytes → IsBytes bytes
    → IsWhole (done_at bytes) × (body (done_at bytes) ≡ take 10 bytes) × (code_room (done_at bytes) ≡ 32)
unfolding done_at body
done_at_found bytes v t l h =
    let same = done_again _ _ _ _ (first_number bytes ∙ v) (second_number bytes ∙ t) in (
      subst (Fit done_table) (sym same) (values_fit done_table 0 bytes h),
      ap (row done_table) same ∙ row_values done_table 0 bytes l h,
      refl,
    )

debit_again : (v t d p a k : ℕ) → v ≡ 1 → t ≡ 16 → debit_values (debit_from (v ∷ t ∷ d ∷ p ∷ a ∷ k ∷ [])) ≡ v ∷ t ∷ d ∷ p ∷ a ∷ k ∷ []
debit_again v t d p a k one tag = ap₂ (λ x y. x ∷ y ∷ d ∷ p ∷ a ∷ k ∷ []) (sym one) (sym tag)

pub debit_at_found : (bytes : List ℕ) → get_or bytes 0 0 ≡ 1 → get_or bytes 1 0 ≡ 16 → 16 ≤ length bytes → IsBytes bytes
    → IsWhole (debit_at bytes) × (body (debit_at bytes) ≡ take 16 bytes) × (code_room (debit_at bytes) ≡ 0)
unfolding debit_at body
debit_at_found bytes v t l h =
    let same = debit_again _ _ _ _ _ _ (first_number bytes ∙ v) (second_number bytes ∙ t) in (
      subst (Fit debit_table) (sym same) (values_fit debit_table 0 bytes h),
      ap (row debit_table) same ∙ row_values debit_table 0 bytes l h,
      refl,
    )

-- == a Release ==

two_front : (bytes : List ℕ) (t : ℕ) → 2 ≤ length bytes → get_or bytes 0 0 ≡ 1 → get_or bytes 1 0 ≡ t → 1 ∷ t ∷ drop 2 bytes ≡ bytes
two_front [] t h v a = absurd (omega (arith, h))
two_front (x ∷ []) t h v a = absurd (omega (arith, h))
two_front (x ∷ y ∷ rest) t h v a = cc

marked : {A F : Type 0} (r : Result A F) (bytes : List ℕ) (x : Message) → if_mark r bytes ≡ Ok x → (found : A) × (r ≡ Ok found) × (m.Release bytes ≡ x)
marked (Ok a) bytes x h = (a, refl, ok_same h)
marked (Err e) bytes x h = absurd (cc)

pub release_at_found : (bytes : List ℕ) (x : Message) → get_or bytes 0 0 ≡ 1 → get_or bytes 1 0 ≡ 17 → 2 ≤ length bytes → release_at bytes ≡ Ok x
    → IsWhole x × (body x ≡ bytes) × (code_room x ≡ 0)
unfolding release_at body
release_at_found bytes x v t l e =
    let found = marked _ _ _ e in
    subst (λ y. IsWhole y × (body y ≡ bytes) × (code_room y ≡ 0)) found.2 ((found.0, found.1), two_front bytes 17 l v t, refl)

-- == whatever follows a body, it is read ==

-- the version stands first
pub request_version : (q : Request) (rest : List ℕ) → get_or (body (m.Request q) ++ rest) 0 0 ≡ q.version
unfolding body
request_version q rest = first_cell q.version (drop 1 (request_table (sum_size q.version))) (drop 1 (request_values q)) rest

pub reply_version : (r : ReplyMsg) (rest : List ℕ) → get_or (body (m.Reply r) ++ rest) 0 0 ≡ r.version
unfolding body
reply_version r rest = first_cell r.version (drop 1 (reply_table (sum_size r.version))) (drop 1 (reply_values r)) rest

pub length_body_of : (q : Request) → IsWhole (m.Request q) → length (body (m.Request q)) ≡ request_room q.version
unfolding body
length_body_of q w = length_row (request_table (sum_size q.version)) (request_values q) w.1

request_at_row : (q : Request) (rest : List ℕ) → IsWhole (m.Request q)
    → request_in (values 0 (request_table (sum_size q.version)) (row (request_table (sum_size q.version)) (request_values q) ++ rest)) ≡ Ok (m.Request q)
request_at_row q rest w =
    let day : cast_signed w32 (cast_unsigned w32 q.day) ≡ q.day = to_z-of_z w32 q.day (day_fits q.day w.2) in
    ap request_in (values_row (request_table (sum_size q.version)) (request_values q) [] rest 0 refl w.1)
    ∙ ap (λ k. given unread.Kind k (λ kind. given unread.Day (day_of (cast_signed w32 (cast_unsigned w32 q.day))) (λ day. Ok (m.Request (request_from (request_values q) kind day))))) (kind_of_code q.kind)
    ∙ ap (λ d. given unread.Day d (λ day. Ok (m.Request (request_from (request_values q) q.kind day)))) (ap day_of day ∙ day_of_day q.day w.2)

pub request_at_body : (q : Request) (rest : List ℕ) → IsWhole (m.Request q) → request_at (body (m.Request q) ++ rest) ≡ Ok (m.Request q)
unfolding request_at body
request_at_body q rest w =
    ap (λ v. request_in (values 0 (request_table (sum_size v)) (body (m.Request q) ++ rest))) (request_version q rest) ∙ request_at_row q rest w

reply_at_row : (r : ReplyMsg) (rest : List ℕ) → IsWhole (m.Reply r)
    → reply_in (values 0 (reply_table (sum_size r.version)) (row (reply_table (sum_size r.version)) (reply_values r) ++ rest)) ≡ Ok (m.Reply r)
reply_at_row r rest w =
    ap reply_in (values_row (reply_table (sum_size r.version)) (reply_values r) [] rest 0 refl w.1)
    ∙ ap (λ k. given unread.Kind k (λ kind. given unread.Verdict (verdict_of (verdict_code r.verdict)) (λ verdict. Ok (m.Reply (reply_from (reply_values r) kind verdict))))) (kind_of_code r.kind)
    ∙ ap (λ v. given unread.Verdict v (λ verdict. Ok (m.Reply (reply_from (reply_values r) r.kind verdict)))) (verdict_of_code r.verdict)
    ∙ ap (λ (z : ℤ). Ok (m.Reply (record r { deadline = z }))) (to_z-of_z w32 r.deadline w.2)

pub reply_at_body : (r : ReplyMsg) (rest : List ℕ) → IsWhole (m.Reply r) → reply_at (body (m.Reply r) ++ rest) ≡ Ok (m.Reply r)
unfolding reply_at body
reply_at_body r rest w =
    ap (λ v. reply_in (values 0 (reply_table (sum_size v)) (body (m.Reply r) ++ rest))) (reply_version r rest) ∙ reply_at_row r rest w

pub done_at_body : (r : DoneMsg) (rest : List ℕ) → IsWhole (m.Done r) → done_at (body (m.Done r) ++ rest) ≡ m.Done r
unfolding done_at body
done_at_body r rest w = ap (λ vs. m.Done (done_from vs)) (values_row done_table (done_values r) [] rest 0 refl w)

pub debit_at_body : (r : DebitMsg) (rest : List ℕ) → IsWhole (m.Debit r) → debit_at (body (m.Debit r) ++ rest) ≡ m.Debit r
unfolding debit_at body
debit_at_body r rest w = ap (λ vs. m.Debit (debit_from vs)) (values_row debit_table (debit_values r) [] rest 0 refl w)

-- == all tags ==

-- one way of an if, or the other
branch : {A P : Type 0} (n c : ℕ) (a b y : A) → (n ≡ c → a ≡ y → P) → ((n ≡ c → ⊥) → b ≡ y → P) → (if n == c then a else b) ≡ y → P
branch n c a b y one other h =
    elim (cases_eq n c) [
      | inl e ↦ one e (sym (ap (λ t. cond t a b) (eq-eqb n c e)) ∙ h)
      | inr d ↦ other d (sym (ap (λ t. cond t a b) (ne_eqb n c d)) ∙ h)
    ]

pub held_back : {A F : Type 0} (b : Bool) (r : Result A F) (e : F) (y : A) → (if b then Err e else r) ≡ Ok y → (b ≡ false) × (r ≡ Ok y)
held_back true r e y h = absurd (cc)
held_back false r e y h = (refl, h)

behind : (bytes : List ℕ) (n k : ℕ) (front : List ℕ) → length bytes ≡ n + k → front ≡ take n bytes → (bytes ≡ front ++ drop n bytes) × (length (drop n bytes) ≡ k)
behind bytes n k front l e = (sym (take-append-drop n bytes) ∙ ap (λ f. f ++ drop n bytes) (sym e), omega (arith, length-drop n bytes, l))

-- a body that was found, and the rest after it
reads : (bytes : List ℕ) (x : Message) (n k : ℕ) → IsWhole x × (body x ≡ take n bytes) × (code_room x ≡ k) → length bytes ≡ n + k → (code : List ℕ) × ReadsAs bytes x code
reads bytes x n k found l =
    let rest = behind bytes n k (body x) l found.1 in
    (drop n bytes, record { whole = found.0; spelled = rest.0; long = rest.1 ∙ sym found.2 })

-- a message of another tag has version 1, and its size
first_alone : (v t n m : ℕ) → (t ≡ 1 → ⊥) → (t ≡ 2 → ⊥) → size_of 1 t ≡ Some m → size_of v t ≡ Some n → (v ≡ 1) × (n ≡ m)
unfolding size_of
first_alone v t n m a b one h =
    branch v 1 _ _ _ (λ e h. (e, same_Some _ _ (sym h ∙ one)))
    (λ _ h. branch t 1 _ _ _ (λ e _. absurd (a e)) (λ _ h. branch t 2 _ _ _ (λ e _. absurd (b e)) (λ _ h. absurd (none-some _ h)) h) h) h

size_3 : size_of 1 3 ≡ Some 42
unfolding size_of
size_3 = refl

size_16 : size_of 1 16 ≡ Some 16
unfolding size_of
size_16 = refl

size_17 : size_of 1 17 ≡ Some 66
unfolding size_of
size_17 = refl

pub last_tag : (v t n : ℕ) → (t ≡ 1 → ⊥) → (t ≡ 2 → ⊥) → (t ≡ 3 → ⊥) → (t ≡ 16 → ⊥) → size_of v t ≡ Some n → (t ≡ 17) × (v ≡ 1) × (n ≡ 66)
unfolding size_of
last_tag v t n a b c d h =
    branch v 1 _ _ _
    (λ one h. branch t 1 _ _ _ (λ e _. absurd (a e)) (λ _ h. branch t 2 _ _ _ (λ e _. absurd (b e)) (λ _ h. branch t 3 _ _ _ (λ e _. absurd (c e))
    (λ _ h. branch t 16 _ _ _ (λ e _. absurd (d e)) (λ _ h. branch t 17 _ _ _ (λ e h. (e, one, sym (same_Some _ _ h))) (λ _ h. absurd (none-some _ h)) h) h) h) h) h)
    (λ _ h. branch t 1 _ _ _ (λ e _. absurd (a e)) (λ _ h. branch t 2 _ _ _ (λ e _. absurd (b e)) (λ _ h. absurd (none-some _ h)) h) h) h

-- a message that has version 1 alone
first_found : (bytes : List ℕ) (x y : Message) (t n k : ℕ) → get_or bytes 1 0 ≡ t → (t ≡ 1 → ⊥) → (t ≡ 2 → ⊥) → size_of 1 t ≡ Some (n + k)
    → size_of (get_or bytes 0 0) t ≡ Some (length bytes) → (get_or bytes 0 0 ≡ 1 → n ≤ length bytes → IsWhole y × (body y ≡ take n bytes) × (code_room y ≡ k))
    → y ≡ x → (code : List ℕ) × ReadsAs bytes x code
first_found bytes x y t n k tag a b one size found is =
    let alone = first_alone (get_or bytes 0 0) t (length bytes) (n + k) a b one size in
    reads bytes x n k (subst (λ z. IsWhole z × (body z ≡ take n bytes) × (code_room z ≡ k)) is (found alone.0 (omega (arith, alone.1)))) alone.1

by_tag_found : (bytes : List ℕ) (x : Message) → IsBytes bytes → IsVersion (get_or bytes 0 0) → size_of (get_or bytes 0 0) (get_or bytes 1 0) ≡ Some (length bytes)
    → by_tag (get_or bytes 1 0) bytes ≡ Ok x → (code : List ℕ) × ReadsAs bytes x code
by_tag_found bytes x h version size r =
    let v : ℕ = get_or bytes 0 0 in
    let t : ℕ = get_or bytes 1 0 in
    let at : (n : ℕ) → t ≡ n → size_of v n ≡ Some (length bytes) = λ n is. ap (size_of v) (sym is) ∙ size in
    branch t 1 _ _ _
    (λ is r.
    let n : length bytes ≡ request_room v + 32 = same_Some _ _ (sym (at 1 is) ∙ size_request v) in
    reads bytes x (request_room v) 32 (request_at_found bytes x version is (omega (arith, n)) h r) n)
    (λ not1 r. branch t 2 _ _ _
    (λ is r.
    let n : length bytes ≡ reply_room v + 32 = same_Some _ _ (sym (at 2 is) ∙ size_reply v) in
    reads bytes x (reply_room v) 32 (reply_at_found bytes x version is (omega (arith, n)) h r) n)
    (λ not2 r. branch t 3 _ _ _
    (λ is r. first_found bytes x (done_at bytes) t 10 32 refl not1 not2 (ap (size_of 1) is ∙ size_3) size (λ one l. done_at_found bytes one is l h) (ok_same r))
    (λ not3 r. branch t 16 _ _ _
    (λ is r. first_found bytes x (debit_at bytes) t 16 0 refl not1 not2 (ap (size_of 1) is ∙ size_16) size (λ one l. debit_at_found bytes one is l h) (ok_same r))
    (λ not16 r.
    let last = last_tag v t (length bytes) not1 not2 not3 not16 size in
    let found = release_at_found bytes x last.1 last.0 (omega (arith, last.2)) r in
    ([], record { whole = found.0; spelled = sym found.1 ∙ sym (append-nil (body x)); long = sym found.2 })) r) r) r) r

-- WHAT IS READ IS SPELLED SO, each number in its range
pub read_found : (bytes : List ℕ) (x : Message) → IsBytes bytes → read bytes ≡ Ok x → (code : List ℕ) × ReadsAs bytes x code
unfolding read
read_found bytes x h e =
    let long = held_back (nat_lt (length bytes) 2) _ unread.Length x e in
    let version = let_through (is_version (get_or bytes 0 0)) _ unread.Version x long.1 in
    let tag = there unread.Tag (size_of (get_or bytes 0 0) (get_or bytes 1 0)) (λ n. if length bytes == n then by_tag (get_or bytes 1 0) bytes else Err unread.Length) x version.1 in
    let size = let_through (length bytes == tag.0) (by_tag (get_or bytes 1 0) bytes) unread.Length x tag.2 in
    let count : length bytes ≡ tag.0 = eqb-true _ _ size.0 in
    by_tag_found bytes x h (known _ version.0) (tag.1 ∙ ap (λ n. Some n) (sym count)) size.1

read_through : (bytes : List ℕ) (v t n : ℕ) → get_or bytes 0 0 ≡ v → IsVersion v → get_or bytes 1 0 ≡ t → size_of v t ≡ Some n → length bytes ≡ n → 2 ≤ n → read bytes ≡ by_tag t bytes
unfolding read
read_through bytes v t n version known tag s l two =
    let long : nat_lt n 2 ≡ false = grind (arith, two) in
    rw (l, long, version, known_is v known, tag, s, eq-eqb n n refl) refl

cells : (v t : ℕ) (ss : List Size) (vs code : List ℕ) (b : List ℕ) → b ≡ row (One ∷ One ∷ ss) (v ∷ t ∷ vs) → (get_or (b ++ code) 0 0 ≡ v) × (get_or (b ++ code) 1 0 ≡ t)
cells v t ss vs code b e =
    (ap (λ x. get_or (x ++ code) 0 0) e ∙ first_cell v (One ∷ ss) (t ∷ vs) code, ap (λ x. get_or (x ++ code) 1 0) e ∙ second_cell v t ss vs code)

long_body : (ss : List Size) (vs code b : List ℕ) (n k : ℕ) → Fit ss vs → b ≡ row ss vs → room ss ≡ n → length code ≡ k → length (b ++ code) ≡ n + k
long_body ss vs code b n k fit e r l = length-append b code ∙ ap₂ (λ x y. x + y) (ap length e ∙ length_row ss vs fit ∙ r) l

release_at_body : (x : List ℕ) (found : Mark × List ℕ) → read_mark x ≡ Ok found → release_at (1 ∷ 17 ∷ x) ≡ Ok (m.Release x)
unfolding release_at
release_at_body x found e = ap (λ r. if_mark r x) e

pub mark_long : (x : List ℕ) (found : Mark × List ℕ) → read_mark x ≡ Ok found → length x ≡ 64
unfolding read_mark
mark_long x found e = let l = let_through _ _ _ _ e in eqb-true _ _ l.0

-- WHAT IS SPELLED SO IS READ
pub read_body : (x : Message) (code : List ℕ) → IsWhole x → length code ≡ code_room x → read (body x ++ code) ≡ Ok x
unfolding body
read_body (m.Request q) code w l =
    let c = cells q.version 1 (drop 2 (request_table (sum_size q.version))) (drop 2 (request_values q)) code (body (m.Request q)) refl in
    let long = long_body (request_table (sum_size q.version)) (request_values q) code (body (m.Request q)) _ 32 w.1 refl refl l in
    read_through (body (m.Request q) ++ code) q.version 1 _ c.0 w.0 c.1 (size_request q.version) long (omega arith) ∙ request_at_body q code w
read_body (m.Reply r) code w l =
    let c = cells r.version 2 (drop 2 (reply_table (sum_size r.version))) (drop 2 (reply_values r)) code (body (m.Reply r)) refl in
    let long = long_body (reply_table (sum_size r.version)) (reply_values r) code (body (m.Reply r)) _ 32 w.1 refl refl l in
    read_through (body (m.Reply r) ++ code) r.version 2 _ c.0 w.0 c.1 (size_reply r.version) long (omega arith) ∙ reply_at_body r code w
read_body (m.Done r) code w l =
    let c = cells 1 3 (drop 2 done_table) (drop 2 (done_values r)) code (body (m.Done r)) refl in
    read_through (body (m.Done r) ++ code) 1 3 42 c.0 (omega arith, omega arith) c.1 size_3 (long_body done_table (done_values r) code _ 10 32 w refl refl l) (omega arith)
    ∙ ap (λ y. Ok y) (done_at_body r code w)
read_body (m.Debit r) code w l =
    let c = cells 1 16 (drop 2 debit_table) (drop 2 (debit_values r)) code (body (m.Debit r)) refl in
    read_through (body (m.Debit r) ++ code) 1 16 16 c.0 (omega arith, omega arith) c.1 size_16 (long_body debit_table (debit_values r) code _ 16 0 w refl refl l) (omega arith)
    ∙ ap (λ y. Ok y) (debit_at_body r code w)
read_body (m.Release x) code w l =
    let none : code ≡ [] = nil_from_length code l in
    let long : length x ≡ 64 = mark_long x w.0 w.1 in
    ap (λ k. read (1 ∷ 17 ∷ x ++ k)) none ∙ ap read (append-nil (1 ∷ 17 ∷ x))
    ∙ read_through (1 ∷ 17 ∷ x) 1 17 66 refl (omega arith, omega arith) refl size_17 (omega (arith, long)) (omega arith) ∙ release_at_body x w.0 w.1

pub read_spell : (x : Message) (key : List ℕ) → IsWhole x → read (spell x key) ≡ Ok x
unfolding spell
read_spell (m.Request q) key w = read_body (m.Request q) (hmac key (body (m.Request q))) w (length_hmac key (body (m.Request q)))
read_spell (m.Reply r) key w = read_body (m.Reply r) (hmac key (body (m.Reply r))) w (length_hmac key (body (m.Reply r)))
read_spell (m.Done r) key w = read_body (m.Done r) (hmac key (body (m.Done r))) w (length_hmac key (body (m.Done r)))
read_spell (m.Debit r) key w = ap read (sym (append-nil (body (m.Debit r)))) ∙ read_body (m.Debit r) [] w refl
read_spell (m.Release x) key w = ap read (sym (append-nil (body (m.Release x)))) ∙ read_body (m.Release x) [] w refl

-- one spelling
pub one_spelling : (x y : Message) (key : List ℕ) → IsWhole x → IsWhole y → spell x key ≡ spell y key → x ≡ y
one_spelling x y key v w e = ok_same (sym (read_spell x key v) ∙ ap read e ∙ read_spell y key w)

-- == codes ==

pub cut : (front code bytes : List ℕ) → length code ≡ 32 → bytes ≡ front ++ code → (take (length bytes - 32) bytes ≡ front) × (drop (length bytes - 32) bytes ≡ code) × (32 ≤ length bytes)
cut front code bytes l e =
    let n : length bytes ≡ length front + 32 = ap length e ∙ length-append front code ∙ ap (λ k. length front + k) l in
    let at : length bytes - 32 ≡ length front = omega arith in (
      ap₂ (λ k b. take k b) at e ∙ take_at front code (length front) refl,
      ap₂ (λ k b. drop k b) at e ∙ drop_at front code (length front) refl,
      omega arith,
    )

spell_coded : (x : Message) (key : List ℕ) → is_coded x ≡ true → spell x key ≡ body x ++ hmac key (body x)
unfolding spell
spell_coded x key c = ap (λ b. cond b (body x ++ hmac key (body x)) (body x)) c

-- what is spelled under a key matches under it
pub matches_spell : (x : Message) (key bytes : List ℕ) → is_coded x ≡ true → spell x key ≡ bytes → HasCode bytes key
matches_spell x key bytes c e =
    let parts = cut (body x) (hmac key (body x)) bytes (length_hmac key (body x)) (sym e ∙ spell_coded x key c) in
    (parts.2, parts.1 ∙ ap (hmac key) (sym parts.0))

-- what is read and matches under a key is spelled under it
pub spell_back : (x : Message) (key bytes : List ℕ) → is_coded x ≡ true → IsBytes bytes → read bytes ≡ Ok x → HasCode bytes key → IsWhole x × (spell x key ≡ bytes)
spell_back x key bytes c h e w =
    let found = read_found bytes x h e in
    let r = found.1 in
    let long : length found.0 ≡ 32 = r.long ∙ ap (λ b. cond b 32 0) c in
    let parts = cut (body x) found.0 bytes long r.spelled in
    let code : found.0 ≡ hmac key (body x) = sym parts.1 ∙ w.1 ∙ ap (hmac key) parts.0 in
    (r.whole, spell_coded x key c ∙ ap (λ k. body x ++ k) (sym code) ∙ sym r.spelled)

pub length_spell : (x : Message) (key : List ℕ) → is_coded x ≡ true → length (spell x key) ≡ length (body x) + 32
length_spell x key c = ap length (spell_coded x key c) ∙ length-append (body x) (hmac key (body x)) ∙ ap (λ k. length (body x) + k) (length_hmac key (body x))

pub length_request : (q : Request) (key : List ℕ) → IsWhole (m.Request q) → length (spell (m.Request q) key) ≡ request_room q.version + 32
unfolding body
length_request q key w = length_spell (m.Request q) key refl ∙ ap (λ n. n + 32) (length_row (request_table (sum_size q.version)) (request_values q) w.1)

-- a message without a code is its body
pub spell_uncoded : (x : Message) (key bytes : List ℕ) → is_coded x ≡ false → IsBytes bytes → read bytes ≡ Ok x → spell x key ≡ bytes
unfolding spell
spell_uncoded x key bytes c h e =
    let found = read_found bytes x h e in
    let r = found.1 in
    let none : found.0 ≡ [] = nil_from_length found.0 (r.long ∙ ap (λ b. cond b 32 0) c) in
    ap (λ b. cond b (body x ++ hmac key (body x)) (body x)) c ∙ sym (append-nil (body x)) ∙ ap (λ k. body x ++ k) (sym none) ∙ sym r.spelled

pub length_reply : (r : ReplyMsg) (key : List ℕ) → IsWhole (m.Reply r) → length (spell (m.Reply r) key) ≡ reply_room r.version + 32
unfolding body
length_reply r key w = length_spell (m.Reply r) key refl ∙ ap (λ n. n + 32) (length_row (reply_table (sum_size r.version)) (reply_values r) w.1)

pub length_done : (r : DoneMsg) (key : List ℕ) → IsWhole (m.Done r) → length (spell (m.Done r) key) ≡ 42
unfolding body
length_done r key w = length_spell (m.Done r) key refl ∙ ap (λ n. n + 32) (length_row done_table (done_values r) w)

-- == what the public calls promise, of the list alone ==

pub found : (bytes : List ℕ) → IsBytes bytes → IfOk (read bytes) (λ x. IsReading bytes x)
found bytes h = if_ok (read bytes) _ (λ x e. read_found bytes x h e)

pub only : (bytes : List ℕ) (x : Message) → IsReading bytes x → read bytes ≡ Ok x
only bytes x (code, r) = ap read r.spelled ∙ read_body x code r.whole r.long

pub one_reading : (bytes : List ℕ) (x y : Message) → IsReading bytes x → IsReading bytes y → x ≡ y
one_reading bytes x y r s = ok_same (sym (only bytes x r) ∙ only bytes y s)

-- == the message that the bytes spell ==

coded_found : (r : Result Message Unread) (x : Message) → coded_in r ≡ Some x → (r ≡ Ok x) × IsCoded x
coded_found (Ok (m.Request q)) x h = let is = same_Some _ _ h in (ap (λ y. Ok y) is, subst IsCoded is refl)
coded_found (Ok (m.Reply r)) x h = let is = same_Some _ _ h in (ap (λ y. Ok y) is, subst IsCoded is refl)
coded_found (Ok (m.Done r)) x h = let is = same_Some _ _ h in (ap (λ y. Ok y) is, subst IsCoded is refl)
coded_found (Ok (m.Debit r)) x h = absurd (cc)
coded_found (Ok (m.Release y)) x h = absurd (cc)
coded_found (Err e) x h = absurd (cc)

coded_some : (x : Message) → IsCoded x → coded_in (Ok x) ≡ Some x
coded_some (m.Request q) h = refl
coded_some (m.Reply r) h = refl
coded_some (m.Done r) h = refl
coded_some (m.Debit r) h = absurd (cc)
coded_some (m.Release y) h = absurd (cc)

if_some : {A : Type 0} (o : Option A) (P : A → Type 0) → ((x : A) → o ≡ Some x → P x) → IfSome o P
if_some None P h = tt
if_some (Some x) P h = h x refl

if_none : {A : Type 0} (o : Option A) (P : Type 0) → (o ≡ None → P) → IfNone o P
if_none None P h = h refl
if_none (Some x) P h = tt

-- what is read, coded and matches is spelled so
pub under_found : (bytes key : List ℕ) → IsBytes bytes → HasCode bytes key → IfSome (coded_in (read bytes)) (λ x. IsCoded x × IsWhole x × (spell x key ≡ bytes))
under_found bytes key h c = if_some (coded_in (read bytes)) _
    (λ x e. let is = coded_found (read bytes) x e in let back = spell_back x key bytes is.1 h is.0 c in (is.1, back.0, back.1))

pub under_none : (bytes key : List ℕ) → IfNone (coded_in (read bytes)) ((x : Message) → IsCoded x → IsWhole x → spell x key ≢ bytes)
under_none bytes key = if_none (coded_in (read bytes)) _
    (λ none x c w e. let is : coded_in (read bytes) ≡ Some x = ap (λ b. coded_in (read b)) (sym e) ∙ ap coded_in (read_spell x key w) ∙ coded_some x c in
    absurd (none-some _ (sym none ∙ is)))

-- == a body without its code ==

-- a body with its code under a key reads as the message
pub reads_body : (x : Message) (key : List ℕ) → is_coded x ≡ true → IsWhole x → read (body x ++ hmac key (body x)) ≡ Ok x
reads_body x key coded w = ap read (sym (spell_coded x key coded)) ∙ read_spell x key w

room_coded : (x : Message) → is_coded x ≡ true → code_room x ≡ 32
room_coded x c = ap (λ b. cond b 32 0) c

-- messages of one body are one message
pub one_body : (x y : Message) → is_coded x ≡ true → is_coded y ≡ true → IsWhole x → IsWhole y → body x ≡ body y → x ≡ y
one_body x y c d v w e =
    let zeros : List ℕ = replicate 32 0 in
    ok_same (sym (read_body x zeros v (sym (room_coded x c))) ∙ ap (λ b. read (b ++ zeros)) e ∙ read_body y zeros w (sym (room_coded y d)))

pub length_coded_body : (x : Message) → is_coded x ≡ true → IsWhole x → length (body x) ≤ 55
unfolding body
length_coded_body (m.Request q) c w = let long = length_row (request_table (sum_size q.version)) (request_values q) w.1 in rw long (request_room_le q.version)
length_coded_body (m.Reply r) c w = let long = length_row (reply_table (sum_size r.version)) (reply_values r) w.1 in rw long (reply_room_le r.version)
length_coded_body (m.Done r) c w = omega (arith, length_row done_table (done_values r) w)
length_coded_body (m.Debit r) c w = absurd (cc)
length_coded_body (m.Release x) c w = absurd (cc)

-- bytes laid into zeros, and the 32 zeros after them
pub filled : (bytes new : List ℕ) → length bytes ≤ 55 → new ≡ bytes → take (length bytes + 32) (new ++ drop (length bytes) (replicate 87 0)) ≡ bytes ++ replicate 32 0
filled bytes new short same =
    let rest : List ℕ = drop (length bytes) (replicate 87 0) in
    ap (λ f. take (length bytes + 32) (f ++ rest)) same
    ∙ sym (joined 0 (length bytes) 32 (bytes ++ rest))
    ∙ ap₂ (λ a b. a ++ b) (take_at bytes rest (length bytes) refl)
    (ap (take 32) (drop_at bytes rest (0 + length bytes) (omega arith) ∙ drop-replicate (length bytes) 87 0) ∙ take-replicate 32 (87 - length bytes) 0 (omega (arith, short)))

-- bytes with 32 zeros after them read as a message if and only if they are its body
pub body_found : (bytes : List ℕ) → IsBytes (bytes ++ replicate 32 0)
    → IfSome (coded_in (read (bytes ++ replicate 32 0))) (λ x. IsCoded x × IsWhole x × (body x ≡ bytes))
body_found bytes h = if_some (coded_in (read (bytes ++ replicate 32 0))) _
    (λ x e.
    let is = coded_found (read (bytes ++ replicate 32 0)) x e in
    let found = read_found (bytes ++ replicate 32 0) x h is.0 in
    let parts = cut bytes (replicate 32 0) (bytes ++ replicate 32 0) refl refl in
    let front = cut (body x) found.0 (bytes ++ replicate 32 0) (found.1.long ∙ room_coded x is.1) found.1.spelled in
    (is.1, found.1.whole, sym front.0 ∙ parts.0))

pub body_none : (bytes : List ℕ) → IfNone (coded_in (read (bytes ++ replicate 32 0))) ((x : Message) → IsCoded x → IsWhole x → body x ≢ bytes)
body_none bytes = if_none (coded_in (read (bytes ++ replicate 32 0))) _
    (λ none x c w e.
    let reads : coded_in (read (bytes ++ replicate 32 0)) ≡ Some x =
    ap (λ b. coded_in (read (b ++ replicate 32 0))) (sym e) ∙ ap coded_in (read_body x (replicate 32 0) w (sym (room_coded x c))) ∙ coded_some x c in
    absurd (none-some _ (sym none ∙ reads)))
