-- A mark that is spelled is read, and what is read is a mark that is spelled so.
use Rattle.std.proofs.Common.{◌≡◌, ◌==◌, ℕ, ℤ, [], ◌∷◌, ◌+◌, ◌^◌, ◌<◌, List, ◌++◌, length, get_or, take, drop, sym, ap, ap₂, ◌∙◌, refl, arith, subst, Result, Ok, Err, Bool, true, false, length-append, ◌↔◌, ◌≢◌, IfOk, IsErrOf, slice_index, eqb-true, length-drop, if◌then◌else◌, FitsSigned}
use Rattle.std.specs.Int.{w32}
use Rattle.std.proofs.lemmas.Int.{of_z-to_z, to_z-of_z}
use Rattle.std.proofs.lemmas.List.{take_at, drop_at, take-append-drop}
use Rattle.bench_base.specs.Table.{Size, One, room, row, values, Fit, IsBytes, spelled}
use Rattle.bench_base.specs.Rules.{is_version, IsVersion}
use Rattle.bench_base.proofs.Tables.{row_values, values_row, values_fit, length_row, first_number, second_number, first_cell}
use Rattle.hmac_core.specs.Hmac.{hmac}
use Rattle.hmac_core.proofs.Codes.{length_hmac}
use Rattle.indicium.specs.declared.Mark.{Mark}
use Rattle.bench_base.specs.declared.{refusals.MarkFault.MarkFault, refusals.MarkFault.TheVariants.Length, refusals.MarkFault.TheVariants.Version, refusals.MarkFault.TheVariants.Algorithm}
use Rattle.bench_base.proofs.Facts.{read_sfits, ok_same, known, known_is}
use Rattle.indicium.specs.Marks.{mark_fields, mark_table, mark_values, mark_from, body, spell, IsWhole, mark_at, read_mark, ReadsAs, IsSpelled}

-- a fact of each of the two tables
by_flag : (P : List Size → Type 0) (b : Bool) (first second : List Size) → P first → P second → P (if b then first else second)
by_flag P true first second one two = one
by_flag P false first second one two = two

either_table : (P : List Size → Type 0) (v : ℕ) → P (mark_fields 1) → P (mark_fields 2) → P (mark_fields v)
either_table P v one two = by_flag P (v == 1) (mark_fields 1) (mark_fields 2) one two

room_table : (v : ℕ) → room (mark_table v) ≡ 32
room_table v = either_table (λ fields. room (One ∷ One ∷ fields) ≡ 32) v refl refl

from_values : (m : Mark) → FitsSigned w32 m.day → mark_from (mark_values m) ≡ m
from_values m h = ap (λ (d : ℤ). record m { day = d }) (to_z-of_z w32 m.day h)

pub length_body : (m : Mark) → IsWhole m → length (body m) ≡ 32
unfolding body
length_body m w = length_row (mark_table m.version) (mark_values m) w.fit ∙ room_table m.version

-- the version stands first
version_of : (m : Mark) (rest : List ℕ) → get_or (body m ++ rest) 0 0 ≡ m.version
unfolding body
version_of m rest = first_cell m.version (One ∷ mark_fields m.version) (drop 1 (mark_values m)) rest

values_body : (m : Mark) (rest : List ℕ) → IsWhole m → values 0 (mark_table m.version) (body m ++ rest) ≡ mark_values m
unfolding body
values_body m rest w = values_row (mark_table m.version) (mark_values m) [] rest 0 refl w.fit

-- a whole mark's bytes, whatever follows them, read as it
pub mark_at_body : (m : Mark) (rest : List ℕ) → IsWhole m → mark_at (body m ++ rest) ≡ m
unfolding mark_at
mark_at_body m rest w =
    ap (λ v. mark_from (values 0 (mark_table v) (body m ++ rest))) (version_of m rest)
    ∙ ap mark_from (values_body m rest w) ∙ from_values m w.day

-- a test that lets through
pub let_through : {A F : Type 0} (b : Bool) (r : Result A F) (e : F) (y : A) → (if b then r else Err e) ≡ Ok y → (b ≡ true) × (r ≡ Ok y)
let_through true r e y h = (refl, h)
let_through false r e y h = absurd (cc)

pub read_mark_ok : (bytes : List ℕ) → length bytes ≡ 64 → is_version (get_or bytes 0 0) ≡ true → get_or bytes 1 0 ≡ 1 → read_mark bytes ≡ Ok (mark_at bytes, drop 32 bytes)
unfolding read_mark
read_mark_ok bytes l v a = rw (l, v, a) refl

-- what is read: the numbers are those of the bytes
values_again : (v a d p m x y t o k : ℕ) → a ≡ 1 → t < 2 ^ 32 → mark_values (mark_from (v ∷ a ∷ d ∷ p ∷ m ∷ x ∷ y ∷ t ∷ o ∷ k ∷ [])) ≡ v ∷ a ∷ d ∷ p ∷ m ∷ x ∷ y ∷ t ∷ o ∷ k ∷ []
values_again v a d p m x y t o k one fits =
    ap₂ (λ b s. v ∷ b ∷ d ∷ p ∷ m ∷ x ∷ y ∷ s ∷ o ∷ k ∷ []) (sym one) (of_z-to_z w32 t fits)

values_from : (v : ℕ) (bytes : List ℕ) → get_or bytes 1 0 ≡ 1 → IsBytes bytes
    → mark_values (mark_from (values 0 (mark_table v) bytes)) ≡ values 0 (mark_table v) bytes
values_from v bytes a h =
    either_table (λ fields. Fit (One ∷ One ∷ fields) (values 0 (One ∷ One ∷ fields) bytes)
    → mark_values (mark_from (values 0 (One ∷ One ∷ fields) bytes)) ≡ values 0 (One ∷ One ∷ fields) bytes) v
    (λ fit. values_again _ _ _ _ _ _ _ _ _ _ (second_number bytes ∙ a) fit.1.1.1.1.1.1.1.0)
    (λ fit. values_again _ _ _ _ _ _ _ _ _ _ (second_number bytes ∙ a) fit.1.1.1.1.1.1.1.0)
    (values_fit (mark_table v) 0 bytes h)

pub body_mark_at : (bytes : List ℕ) → length bytes ≡ 64 → is_version (get_or bytes 0 0) ≡ true → get_or bytes 1 0 ≡ 1 → IsBytes bytes
    → IsWhole (mark_at bytes) × (body (mark_at bytes) ≡ take 32 bytes)
unfolding mark_at body
body_mark_at bytes l v a h =
    let version : ℕ = get_or bytes 0 0 in
    let table : List Size = mark_table version in
    let same = values_from version bytes a h in
    let stands : (mark_at bytes).version ≡ version = first_number bytes in
    let fit : Fit table (values 0 table bytes) = values_fit table 0 bytes h in
    let long : room table ≡ 32 = room_table version in (
      record {
        version = subst IsVersion (sym stands) (known version v);
        fit = subst (λ n. Fit (mark_table n) (mark_values (mark_at bytes))) (sym stands) (subst (Fit table) (sym same) fit);
        day = read_sfits w32 _;
      },
      ap (λ n. row (mark_table n) (mark_values (mark_at bytes))) stands ∙ ap (row table) same
          ∙ row_values table 0 bytes (omega (arith, l, long)) h ∙ ap (λ n. take n bytes) long,
    )

-- what is read is spelled so
pub read_mark_found : (bytes : List ℕ) (x : Mark × List ℕ) → IsBytes bytes → read_mark bytes ≡ Ok x → IsWhole x.0 × (bytes ≡ body x.0 ++ x.1) × (length x.1 ≡ 32)
unfolding read_mark
read_mark_found bytes x h e =
    let l = let_through _ _ _ _ e in
    let v = let_through _ _ _ _ l.1 in
    let a = let_through _ _ _ _ v.1 in
    let long : length bytes ≡ 64 = eqb-true _ _ l.0 in
    let found = body_mark_at bytes long v.0 (eqb-true _ _ a.0) h in
    let same : (mark_at bytes, drop 32 bytes) ≡ x = cc in
    let mark : mark_at bytes ≡ x.0 = ap (λ (y : Mark × List ℕ). y.0) same in
    let code : drop 32 bytes ≡ x.1 = ap (λ (y : Mark × List ℕ). y.1) same in (
      subst IsWhole mark found.0,
      sym (take-append-drop 32 bytes) ∙ ap₂ (λ s t. s ++ t) (sym found.1 ∙ ap body mark) code,
      ap length (sym code) ∙ omega (arith, long, length-drop 32 bytes),
    )

algorithm_of : (m : Mark) (code : List ℕ) → get_or (body m ++ code) 1 0 ≡ 1
unfolding body spelled
algorithm_of m code = refl

-- what is spelled is read
pub read_mark_spell : (m : Mark) (code : List ℕ) → IsWhole m → length code ≡ 32 → read_mark (body m ++ code) ≡ Ok (m, code)
read_mark_spell m code w long =
    let size : length (body m ++ code) ≡ 64 = omega (arith, length-append (body m) code, length_body m w, long) in
    read_mark_ok (body m ++ code) size (ap is_version (version_of m code) ∙ known_is m.version w.version) (algorithm_of m code)
    ∙ ap₂ (λ a b. Ok (a, b)) (mark_at_body m code w) (drop_at (body m) code 32 (length_body m w))

pub length_spell : (m : Mark) (key : List ℕ) → IsWhole m → length (spell m key) ≡ 64
unfolding spell
length_spell m key w = length-append (body m) (hmac key (body m)) ∙ ap₂ (λ a b. a + b) (length_body m w) (length_hmac key (body m))

-- what is read and has its code is spelled under the key
pub spell_back : (bytes key : List ℕ) (x : Mark × List ℕ) → IsBytes bytes → read_mark bytes ≡ Ok x → x.1 ≡ hmac key (take 32 bytes) → IsWhole x.0 × (spell x.0 key ≡ bytes)
unfolding spell
spell_back bytes key x h e c =
    let found = read_mark_found bytes x h e in
    let front : take 32 bytes ≡ body x.0 = ap (take 32) found.1 ∙ take_at (body x.0) x.1 32 (length_body x.0 found.0) in
    (found.0, ap (λ k. body x.0 ++ k) (sym (c ∙ ap (hmac key) front)) ∙ sym found.1)

pub read_spell : (m : Mark) (key : List ℕ) → IsWhole m → read_mark (spell m key) ≡ Ok (m, hmac key (body m))
unfolding spell
read_spell m key w = read_mark_spell m (hmac key (body m)) w (length_hmac key (body m))

-- == what the public calls promise, of the list alone ==

pub if_ok : {A F : Type 0} (r : Result A F) (P : A → Type 0) → ((x : A) → r ≡ Ok x → P x) → IfOk r P
if_ok (Ok x) P h = h x refl
if_ok (Err e) P h = tt

pub reads_as : (bytes : List ℕ) (x : Mark × List ℕ) → IsBytes bytes → read_mark bytes ≡ Ok x → ReadsAs bytes x.0 x.1
reads_as bytes x h e = let found = read_mark_found bytes x h e in record { whole = found.0; spelled = found.1; long = found.2 }

pub found : (bytes : List ℕ) → IsBytes bytes → IfOk (read_mark bytes) (λ x. ReadsAs bytes x.0 x.1)
found bytes h = if_ok (read_mark bytes) _ (λ x e. reads_as bytes x h e)

pub only : (bytes : List ℕ) (m : Mark) (code : List ℕ) → ReadsAs bytes m code → read_mark bytes ≡ Ok (m, code)
only bytes m code r = ap read_mark r.spelled ∙ read_mark_spell m code r.whole r.long

pub length_fault : (bytes : List ℕ) → IsErrOf (read_mark bytes) (Length (length bytes)) ↔ (length bytes ≢ 64)
unfolding read_mark
length_fault bytes = grind arith

pub version_fault : (bytes : List ℕ) → IsErrOf (read_mark bytes) (Version (slice_index bytes 0))
    ↔ ((length bytes ≡ 64) × (slice_index bytes 0 ≢ 1) × (slice_index bytes 0 ≢ 2))
unfolding read_mark
version_fault bytes = grind arith

pub algorithm_fault : (bytes : List ℕ) → IsErrOf (read_mark bytes) (Algorithm (slice_index bytes 1))
    ↔ ((length bytes ≡ 64) × IsVersion (slice_index bytes 0) × (slice_index bytes 1 ≢ 1))
unfolding read_mark
algorithm_fault bytes = grind arith

-- no two marks have one spelling
pub one_spelling : (m n : Mark) (key : List ℕ) → IsWhole m → IsWhole n → spell m key ≡ spell n key → m ≡ n
one_spelling m n key v w e =
    let same : ◌≡◌ {A = Result (Mark × List ℕ) MarkFault} (Ok (m, hmac key (body m))) (Ok (n, hmac key (body n))) = sym (read_spell m key v) ∙ ap read_mark e ∙ read_spell n key w in
    ap (λ (x : Mark × List ℕ). x.0) (ok_same same)

pub one_reading : (bytes : List ℕ) (m n : Mark) (c d : List ℕ) → ReadsAs bytes m c → ReadsAs bytes n d → (m ≡ n) × (c ≡ d)
one_reading bytes m n c d r s =
    let same : ◌≡◌ {A = Result (Mark × List ℕ) MarkFault} (Ok (m, c)) (Ok (n, d)) = sym (only bytes m c r) ∙ only bytes n d s in
    (ap (λ (x : Mark × List ℕ). x.0) (ok_same same), ap (λ (x : Mark × List ℕ). x.1) (ok_same same))

-- what is read and has its code is some mark's spelling, and the other way round
pub genuine : (bytes key : List ℕ) (x : Mark × List ℕ) → IsBytes bytes → read_mark bytes ≡ Ok x → drop 32 bytes ≡ hmac key (take 32 bytes) → IsSpelled bytes key
genuine bytes key x h e c =
    let r = reads_as bytes x h e in
    let code : x.1 ≡ drop 32 bytes = sym (drop_at (body x.0) x.1 32 (length_body x.0 r.whole)) ∙ ap (drop 32) (sym r.spelled) in
    let back = spell_back bytes key x h e (code ∙ c) in
    (x.0, back.0, sym back.1)

pub code_of : (bytes key : List ℕ) → IsSpelled bytes key → ((found : Mark × List ℕ) × (read_mark bytes ≡ Ok found)) × (drop 32 bytes ≡ hmac key (take 32 bytes))
unfolding spell
code_of bytes key (m, w, e) =
    let front : take 32 bytes ≡ body m = ap (take 32) e ∙ take_at (body m) (hmac key (body m)) 32 (length_body m w) in
    (((m, hmac key (body m)), ap read_mark e ∙ read_spell m key w), ap (drop 32) e ∙ drop_at (body m) (hmac key (body m)) 32 (length_body m w) ∙ ap (hmac key) (sym front))

pub long : (bytes : List ℕ) → IfOk (read_mark bytes) (λ _. length bytes ≡ 64)
unfolding read_mark
long bytes = if_ok (read_mark bytes) (λ _. length bytes ≡ 64) (λ x e. let l = let_through _ _ _ _ e in eqb-true _ _ l.0)
