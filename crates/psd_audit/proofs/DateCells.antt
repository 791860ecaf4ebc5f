-- The text of a day determines its year, month and day, and they determine the text.
use Rattle.std.proofs.Common.{◌≡◌, ℕ, ℤ, pos, ◌≤ℤ◌, ◌+◌, ◌-◌, ◌*◌, ◌/◌, ◌%◌, ◌≤◌, List, [], ◌∷◌, ◌++◌, length, get_or, take, drop, Option, Some, None, Bool, true, false, refl, sym, ap, ◌∙◌, arith, subst, ◌↔◌, IsSome, FitsSigned, neg_ℤ, cond}
use Rattle.std.specs.Prelude.{IfSome, IfNone}
use Rattle.std.specs.Str.{all_ascii_digits}
use Rattle.std.proofs.lemmas.Str.Parse.{tells_all_ascii_digits}
use Rattle.jiff_core.specs.Calendar.{IsDate, days_from_civil, days_in_month}
use Rattle.std.proofs.lemmas.Int.{ints, to_z-of_z}
use Rattle.std.specs.Int.{w32, cast_signed, cast_unsigned}
use Rattle.psd_audit.specs.Dates.{read_on, IsDateText, four_digits, two_digits}

abbrev pub date_cells : ℕ → ℕ → ℕ → List ℕ
date_cells y m d = four_digits y ++ 45 ∷ two_digits m ++ 45 ∷ two_digits d

year_again : (y : ℕ) → y ≤ 9999 → read_on 0 (four_digits y) ≡ y
year_again y h = omega arith

two_again : (n : ℕ) → n ≤ 99 → read_on 0 (two_digits n) ≡ n
two_again n h = omega arith

one_of : (b : Bool) (x y n : ℕ) → x ≤ n → y ≤ n → cond b x y ≤ n
one_of true x y n h k = h
one_of false x y n h k = k

month_short : (y : ℤ) (m : ℕ) → days_in_month y m ≤ 31
month_short y m = one_of _ _ _ 31 (one_of _ 29 28 31 (omega arith) (omega arith)) (one_of _ 30 31 31 (omega arith) (omega arith))

-- the numbers that a text has
pub numbers_of : (text : List ℕ) (y m d : ℕ) → y ≤ 9999 → m ≤ 99 → d ≤ 99 → text ≡ date_cells y m d
    → (read_on 0 (take 4 text) ≡ y) × (read_on 0 (take 2 (drop 5 text)) ≡ m) × (read_on 0 (take 2 (drop 8 text)) ≡ d)
numbers_of text y m d hy hm hd is = (
  ap (λ t. read_on 0 (take 4 t)) is ∙ year_again y hy,
  ap (λ t. read_on 0 (take 2 (drop 5 t))) is ∙ two_again m hm,
  ap (λ t. read_on 0 (take 2 (drop 8 t))) is ∙ two_again d hd,
)

pub bounds_of : (y m d : ℕ) → IsDate (pos y) (pos m) (pos d) → (y ≤ 9999) × (m ≤ 99) × (d ≤ 99)
bounds_of y m d h =
    let short = month_short (pos y) m in
    (omega (arith, ints, h.0.1), omega (arith, ints, h.1.1), omega (arith, ints, h.2.1, short))

-- ---- reading

pub cells_of : (text : List ℕ) → length text ≡ 10
    → text ≡ get_or text 0 0 ∷ get_or text 1 0 ∷ get_or text 2 0 ∷ get_or text 3 0 ∷ get_or text 4 0 ∷ get_or text 5 0 ∷ get_or text 6 0 ∷ get_or text 7 0 ∷ get_or text 8 0 ∷ get_or text 9 0 ∷ []
cells_of (a ∷ b ∷ c ∷ d ∷ e ∷ f ∷ g ∷ h ∷ i ∷ j ∷ []) n = refl
cells_of [] n = absurd (omega (arith, n))
cells_of (a ∷ []) n = absurd (omega (arith, n))
cells_of (a ∷ b ∷ []) n = absurd (omega (arith, n))
cells_of (a ∷ b ∷ c ∷ []) n = absurd (omega (arith, n))
cells_of (a ∷ b ∷ c ∷ d ∷ []) n = absurd (omega (arith, n))
cells_of (a ∷ b ∷ c ∷ d ∷ e ∷ []) n = absurd (omega (arith, n))
cells_of (a ∷ b ∷ c ∷ d ∷ e ∷ f ∷ []) n = absurd (omega (arith, n))
cells_of (a ∷ b ∷ c ∷ d ∷ e ∷ f ∷ g ∷ []) n = absurd (omega (arith, n))
cells_of (a ∷ b ∷ c ∷ d ∷ e ∷ f ∷ g ∷ h ∷ []) n = absurd (omega (arith, n))
cells_of (a ∷ b ∷ c ∷ d ∷ e ∷ f ∷ g ∷ h ∷ i ∷ []) n = absurd (omega (arith, n))
cells_of (a ∷ b ∷ c ∷ d ∷ e ∷ f ∷ g ∷ h ∷ i ∷ j ∷ k ∷ rest) n = absurd (omega (arith, n))

-- the digits of two cells
pub two_cells : (a b n : ℕ) → 48 ≤ a → a ≤ 57 → 48 ≤ b → b ≤ 57 → n ≡ (a - 48) * 10 + (b - 48) → two_digits n ≡ a ∷ b ∷ []
two_cells a b n h k i j e =
    let first : 48 + n / 10 % 10 ≡ a = omega (arith, h, k, i, j, e) in
    let second : 48 + n % 10 ≡ b = omega (arith, h, k, i, j, e) in
    ap (λ x. x ∷ (48 + n % 10) ∷ []) first ∙ ap (λ y. a ∷ y ∷ []) second

-- the text is that of the day where its cells are these numbers' digits
pub IsDateText-none : (text : List ℕ) (y m d : ℕ) (z : ℤ) → y ≡ read_on 0 (take 4 text) → m ≡ read_on 0 (take 2 (drop 5 text)) → d ≡ read_on 0 (take 2 (drop 8 text))
    → IsDateText z text → (IsDate (pos y) (pos m) (pos d)) × (z ≡ days_from_civil (pos y) m d)
IsDateText-none text y m d z ey em ed t =
    let bounds = bounds_of t.year t.month t.date t.civil in
    let numbers = numbers_of text t.year t.month t.date bounds.0 bounds.1 bounds.2 t.spelled in
    let same_y : t.year ≡ y = sym numbers.0 ∙ sym ey in
    let same_m : t.month ≡ m = sym numbers.1 ∙ sym em in
    let same_d : t.date ≡ d = sym numbers.2 ∙ sym ed in (
      subst (λ (n : ℕ). IsDate (pos y) (pos m) (pos n)) same_d (subst (λ (n : ℕ). IsDate (pos y) (pos n) (pos t.date)) same_m (subst (λ (n : ℕ). IsDate (pos n) (pos t.month) (pos t.date)) same_y t.civil)),
      sym t.number ∙ ap (λ (n : ℕ). days_from_civil (pos n) t.month t.date) same_y ∙ ap (λ (n : ℕ). days_from_civil (pos y) n t.date) same_m ∙ ap (λ (n : ℕ). days_from_civil (pos y) m n) same_d,
    )

last_two : (c d y : ℕ) → 48 ≤ c → c ≤ 57 → 48 ≤ d → d ≤ 57 → (h : ℕ) → y ≡ h * 100 + ((c - 48) * 10 + (d - 48)) → two_digits y ≡ c ∷ d ∷ []
last_two c d y hc kc hd kd h e =
    let first : 48 + y / 10 % 10 ≡ c = omega (arith, hc, kc, hd, kd, e) in
    let second : 48 + y % 10 ≡ d = omega (arith, hc, kc, hd, kd, e) in
    ap (λ x. x ∷ (48 + y % 10) ∷ []) first ∙ ap (λ x. c ∷ x ∷ []) second

-- a text with digits and dashes in its cells is the one of its numbers
abbrev Spelled : List ℕ → Type 0
Spelled text = (y m d : ℕ) → get_or text 4 0 ≡ 45 → get_or text 7 0 ≡ 45
    → all_ascii_digits (take 4 text) ≡ true → all_ascii_digits (take 2 (drop 5 text)) ≡ true → all_ascii_digits (take 2 (drop 8 text)) ≡ true
    → y ≡ read_on 0 (take 4 text) → m ≡ read_on 0 (take 2 (drop 5 text)) → d ≡ read_on 0 (take 2 (drop 8 text)) → text ≡ date_cells y m d

spelled_at : (a b c d e f g h i j : ℕ) → Spelled (a ∷ b ∷ c ∷ d ∷ e ∷ f ∷ g ∷ h ∷ i ∷ j ∷ [])
spelled_at a b c d e f g h i j y m n de dh py pm pn ey em en =
    let t = tells_all_ascii_digits in
    let ra = t.parts a (b ∷ c ∷ d ∷ []) py in
    let rb = t.parts b (c ∷ d ∷ []) ra.1 in
    let rc = t.parts c (d ∷ []) rb.1 in
    let rd = t.parts d [] rc.1 in
    let rf = t.parts f (g ∷ []) pm in
    let rg = t.parts g [] rf.1 in
    let ri = t.parts i (j ∷ []) pn in
    let rj = t.parts j [] ri.1 in
    let high : two_digits (y / 100) ≡ a ∷ b ∷ [] = two_cells a b (y / 100) ra.0.0 ra.0.1 rb.0.0 rb.0.1 (omega (arith, ey, ra.0.0, ra.0.1, rb.0.0, rb.0.1, rc.0.0, rc.0.1, rd.0.0, rd.0.1)) in
    let low : two_digits y ≡ c ∷ d ∷ [] = last_two c d y rc.0.0 rc.0.1 rd.0.0 rd.0.1 ((a - 48) * 10 + (b - 48)) (omega (arith, ey)) in
    let month : two_digits m ≡ f ∷ g ∷ [] = two_cells f g m rf.0.0 rf.0.1 rg.0.0 rg.0.1 (omega (arith, em)) in
    let day : two_digits n ≡ i ∷ j ∷ [] = two_cells i j n ri.0.0 ri.0.1 rj.0.0 rj.0.1 (omega (arith, en)) in
    let year : four_digits y ≡ a ∷ b ∷ c ∷ d ∷ [] = ap (λ x. x ++ two_digits y) high ∙ ap (λ x. (a ∷ b ∷ []) ++ x) low in
    sym (ap (λ x. x ++ 45 ∷ two_digits m ++ 45 ∷ two_digits n) year
    ∙ ap (λ x. (a ∷ b ∷ c ∷ d ∷ []) ++ 45 ∷ x ++ 45 ∷ two_digits n) month
    ∙ ap (λ x. (a ∷ b ∷ c ∷ d ∷ []) ++ 45 ∷ (f ∷ g ∷ []) ++ 45 ∷ x) day
    ∙ ap (λ x. a ∷ b ∷ c ∷ d ∷ x ∷ f ∷ g ∷ 45 ∷ i ∷ j ∷ []) (sym de)
    ∙ ap (λ x. a ∷ b ∷ c ∷ d ∷ e ∷ f ∷ g ∷ x ∷ i ∷ j ∷ []) (sym dh))

pub spelled_of : (text : List ℕ) → length text ≡ 10 → Spelled text
spelled_of text long = subst Spelled (sym (cells_of text long)) (spelled_at _ _ _ _ _ _ _ _ _ _)

-- ---- the day that was read

pub date_found : (r : Option ℤ) (text : List ℕ) (y m d : ℕ) (z : ℤ) → IfSome r (λ x. x ≡ z) → IsDate (pos y) (pos m) (pos d) × (z ≡ days_from_civil (pos y) m d) → text ≡ date_cells y m d
    → IfSome r (λ x. IsDateText x text)
date_found None text y m d z v f e = tt
date_found (Some x) text y m d z v f e = record { year = y; month = m; date = d; civil = f.0; number = sym (v ∙ f.1); spelled = e }

abbrev pub NoDay : List ℕ → Type 0
NoDay text = (x : ℤ) → pos 10957 ≤ℤ x → x ≤ℤ pos 84005 → IsDateText x text → ⊥

pub date_out : (r : Option ℤ) (text : List ℕ) (y m d : ℕ) (z : ℤ) → (IsSome r ↔ ((pos 10957 ≤ℤ z) × (z ≤ℤ pos 84005))) → z ≡ days_from_civil (pos y) m d
    → y ≡ read_on 0 (take 4 text) → m ≡ read_on 0 (take 2 (drop 5 text)) → d ≡ read_on 0 (take 2 (drop 8 text)) → IfNone r (NoDay text)
date_out (Some x) text y m d z v f ey em ed = tt
date_out None text y m d z v f ey em ed = λ x low high t.
    let told = IsDateText-none text y m d x ey em ed t in
    let same : x ≡ z = told.1 ∙ sym f in
    let none : Option ℤ = None in
    let some : IsSome none = v.1 (subst (λ (n : ℤ). pos 10957 ≤ℤ n) same low, subst (λ (n : ℤ). n ≤ℤ pos 84005) same high) in
    absurd cc

pub date_none : (text : List ℕ) (y m d : ℕ) → (IsDate (pos y) (pos m) (pos d) → ⊥)
    → y ≡ read_on 0 (take 4 text) → m ≡ read_on 0 (take 2 (drop 5 text)) → d ≡ read_on 0 (take 2 (drop 8 text)) → NoDay text
date_none text y m d bad ey em ed = λ x low high t. bad (IsDateText-none text y m d x ey em ed t).0

-- a small signed number is kept in 32 bits
pub kept : (z : ℤ) → (neg_ℤ (pos 4371587) ≤ℤ z) × (z ≤ℤ pos 2932896) → cast_signed w32 (cast_unsigned w32 z) ≡ z
kept z h = let fits : FitsSigned w32 z = omega (arith, ints, h.0, h.1) in to_z-of_z w32 z fits
