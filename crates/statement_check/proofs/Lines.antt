-- The lines of a statement, and the words that they are read from.
use Rattle.std.proofs.Common.{◌≡◌, ◌≢◌, ℕ, ◌*◌, ◌<◌, ◌≤◌, ◌^◌, ◌==◌, if◌then◌else◌, List, [], ◌∷◌, ◌++◌, length, get_or, drop, Option, Some, None, sym, ap, ◌∙◌, arith, length-append}
use Rattle.std.specs.Prelude.{codes, decimal, IfSome, IfNone}
use Rattle.bench_base.specs.Ranges.{IsDevice, IsCustomer, IsWord}
use Rattle.std.specs.List.{AllByRecursion}
use Rattle.std.proofs.lemmas.Fmt.{digits_value-decimal}
use Rattle.psd_audit.specs.Dates.{read_on}
use Rattle.line_runs.specs.Lines.{Without, IsOneLine}
use Rattle.script_words.specs.Words.{words_in, joined, spaced, device_word}
use Rattle.script_words.proofs.Splits.{ArePrinted, AreSolid-printed, Printed, joined_words_in, words_in_joined}
use Rattle.script_words.proofs.Numbers.{own, Printed-decimal}
use Rattle.statement_check.proofs.Numbers.{short_digits}
use Rattle.statement_check.specs.Lines.{IsMills, IsCauseInRange, IsInRange, cause_words, line_words, line_text, IsLineOf}
use Rattle.statement_check.specs.declared.{line.Cause.Cause, line.Cause.TheVariants.Deposit, line.Cause.TheVariants.Reset, line.Cause.TheVariants.Refund, line.Cause.TheVariants.Withdraw, line.StatementLine.StatementLine, line.StatementLine.TheVariants.Opening, line.StatementLine.TheVariants.Moved, line.StatementLine.TheVariants.Closing}

-- ---- a line has its words

by_digits : (b : ℕ) → IsMills b → Printed (decimal b)
by_digits b small = Printed-decimal b small

by_word : (n : ℕ) → IsWord n → Printed (decimal n)
by_word n small = Printed-decimal n (omega (arith, small))

by_customer : (c : ℕ) → IsCustomer c → Printed (decimal c)
by_customer c range = Printed-decimal c (omega (arith, range.1))

by_device : (d : ℕ) → IsDevice d → Printed (device_word d)
by_device d range = (omega arith, Printed-decimal d (omega (arith, range.1)))

pub amount_printed : (a b : ℕ) → IsMills a → IsMills b → ArePrinted (decimal a ∷ codes "balance" ∷ decimal b ∷ [])
amount_printed a b h k = (by_digits a h, (search arith, (by_digits b k, tt)))

cause_printed : (cause : Cause) (more : List (List ℕ)) → IsCauseInRange cause → ArePrinted more → ArePrinted (cause_words cause more)
cause_printed (Deposit r) more range rest = (search arith, (by_word r range, rest))
cause_printed (Reset d n) more range rest = (search arith, (by_device d range.0, (by_word n range.1, rest)))
cause_printed (Refund d n) more range rest = (search arith, (by_device d range.0, (by_word n range.1, rest)))
cause_printed (Withdraw d n) more range rest = (search arith, (by_device d range.0, (by_word n range.1, rest)))

pub line_printed : (line : StatementLine) → IsInRange line → ArePrinted (line_words line)
line_printed (Opening c b) r = (search arith, (by_customer c r.0, (search arith, (by_digits b r.1, tt))))
line_printed (Moved m) r = cause_printed m.cause _ r.0 (amount_printed m.amount m.balance r.1 r.2)
line_printed (Closing b) r = (search arith, (by_digits b r, tt))

pub words_again : (line : StatementLine) → IsInRange line → words_in (line_text line) ≡ line_words line
words_again line range = again (line_words line) (line_some line) (line_printed line range)
  where
    again : (ws : List (List ℕ)) → 0 < length ws → ArePrinted ws → words_in (joined ws) ≡ ws
    again [] some printed = absurd (omega (arith, some))
    again (w ∷ ws) some printed = words_in_joined w ws (AreSolid-printed (w ∷ ws) printed)

    line_some : (line : StatementLine) → 0 < length (line_words line)
    line_some (Opening c b) = omega arith
    line_some (Moved m) = cause_some m.cause _
      where
        cause_some : (cause : Cause) (more : List (List ℕ)) → 0 < length (cause_words cause more)
        cause_some (Deposit r) more = omega arith
        cause_some (Reset d n) more = omega arith
        cause_some (Refund d n) more = omega arith
        cause_some (Withdraw d n) more = omega arith
    line_some (Closing b) = omega arith

-- ---- a line that was read

pub line_found : (r : Option StatementLine) (bytes word : List ℕ) (rest : List (List ℕ)) → words_in bytes ≡ word ∷ rest
    → IfSome r (λ line. IsInRange line × (line_words line ≡ word ∷ rest)) → IfSome r (λ line. IsLineOf line bytes)
line_found None bytes word rest split h = tt
line_found (Some line) bytes word rest split h = record { ranges = h.0; text = sym (joined_words_in bytes) ∙ ap joined (split ∙ sym h.1) }

pub line_none : (r : Option StatementLine) (bytes word : List ℕ) (rest : List (List ℕ)) → words_in bytes ≡ word ∷ rest
    → IfNone r ((line : StatementLine) → IsInRange line → line_words line ≢ word ∷ rest) → IfNone r ((line : StatementLine) → IsLineOf line bytes → ⊥)
line_none (Some found) bytes word rest split h = tt
line_none None bytes word rest split h = λ line is. h line is.ranges (sym (words_again line is.ranges) ∙ ap words_in (sym is.text) ∙ split)

-- no line has one word
two_words : (line : StatementLine) (word : List ℕ) → line_words line ≢ word ∷ []
two_words (Opening c b) word is = cc
two_words (Moved m) word is = cause_two m.cause _ is
  where
    cause_two : (cause : Cause) (more : List (List ℕ)) → cause_words cause more ≢ word ∷ []
    cause_two (Deposit r) more same = cc
    cause_two (Reset d n) more same = cc
    cause_two (Refund d n) more same = cc
    cause_two (Withdraw d n) more same = cc
two_words (Closing b) word is = cc

pub none_alone : (bytes : List ℕ) → words_in bytes ≡ bytes ∷ [] → (line : StatementLine) → IsLineOf line bytes → ⊥
none_alone bytes alone line is = two_words line bytes (sym (words_again line is.ranges) ∙ ap words_in (sym is.text) ∙ alone)

-- ---- the bytes of a line decide the line

abbrev value_in : List ℕ → ℕ
value_in w = read_on 0 w

abbrev device_in : List ℕ → ℕ
device_in w = read_on 0 (drop 1 w)

abbrev cause_in : ℕ → ℕ → ℕ → Cause
cause_in c d n = if c == 115 then Reset d n else (if c == 102 then Refund d n else Withdraw d n)

-- what the words of a line say; the third letter of the first word shows which line it is
abbrev line_in : List (List ℕ) → StatementLine
line_in ws =
    if get_or (get_or ws 0 []) 2 0 == 97 then Opening (value_in (get_or ws 1 [])) (value_in (get_or ws 3 []))
    else (if get_or (get_or ws 0 []) 2 0 == 111 then Closing (value_in (get_or ws 1 []))
    else (if get_or (get_or ws 0 []) 2 0 == 112 then Moved (record { cause = Deposit (value_in (get_or ws 1 [])); amount = value_in (get_or ws 2 []); balance = value_in (get_or ws 4 []) })
    else Moved (record { cause = cause_in (get_or (get_or ws 0 []) 2 0) (device_in (get_or ws 1 [])) (value_in (get_or ws 2 [])); amount = value_in (get_or ws 3 []); balance = value_in (get_or ws 5 []) })))

read_digits : (n : ℕ) → n < 2 ^ 64 → value_in (decimal n) ≡ n
read_digits n small = digits_value-decimal own n small

deposit_again : (r a b : ℕ) → IsWord r → IsMills a → IsMills b
    → line_in (cause_words (Deposit r) (decimal a ∷ codes "balance" ∷ decimal b ∷ [])) ≡ Moved (record { cause = Deposit r; amount = a; balance = b })
deposit_again r a b h k l =
    let at_r = read_digits r (omega (arith, h)) in let at_a = read_digits a k in let at_b = read_digits b l in cc

module _ (d n a b : ℕ) (range : IsDevice d) (word : IsWord n) (amount : IsMills a) (last : IsMills b) where
  reset_again : line_in (cause_words (Reset d n) (decimal a ∷ codes "balance" ∷ decimal b ∷ [])) ≡ Moved (record { cause = Reset d n; amount = a; balance = b })
  reset_again = let at_d = read_digits d (omega (arith, range.1)) in let at_n = read_digits n (omega (arith, word)) in let at_a = read_digits a amount in let at_b = read_digits b last in cc

  refund_again : line_in (cause_words (Refund d n) (decimal a ∷ codes "balance" ∷ decimal b ∷ [])) ≡ Moved (record { cause = Refund d n; amount = a; balance = b })
  refund_again = let at_d = read_digits d (omega (arith, range.1)) in let at_n = read_digits n (omega (arith, word)) in let at_a = read_digits a amount in let at_b = read_digits b last in cc

  withdraw_again : line_in (cause_words (Withdraw d n) (decimal a ∷ codes "balance" ∷ decimal b ∷ [])) ≡ Moved (record { cause = Withdraw d n; amount = a; balance = b })
  withdraw_again = let at_d = read_digits d (omega (arith, range.1)) in let at_n = read_digits n (omega (arith, word)) in let at_a = read_digits a amount in let at_b = read_digits b last in cc

moved_again : (cause : Cause) (a b : ℕ) → IsCauseInRange cause → IsMills a → IsMills b
    → line_in (cause_words cause (decimal a ∷ codes "balance" ∷ decimal b ∷ [])) ≡ Moved (record { cause = cause; amount = a; balance = b })
moved_again (Deposit r) a b range amount last = deposit_again r a b range amount last
moved_again (Reset d n) a b range amount last = reset_again d n a b range.0 range.1 amount last
moved_again (Refund d n) a b range amount last = refund_again d n a b range.0 range.1 amount last
moved_again (Withdraw d n) a b range amount last = withdraw_again d n a b range.0 range.1 amount last

line_again : (line : StatementLine) → IsInRange line → line_in (line_words line) ≡ line
line_again (Opening c b) range = let at_c = read_digits c (omega (arith, range.0.1)) in let at_b = read_digits b range.1 in cc
line_again (Moved m) range = moved_again m.cause m.amount m.balance range.0 range.1 range.2
line_again (Closing b) range = let at_b = read_digits b range in cc

pub one_line : (line other : StatementLine) → IsInRange line → IsInRange other → line_text line ≡ line_text other → line ≡ other
one_line line other range range' same =
    let words : line_words line ≡ line_words other = sym (words_again line range) ∙ ap words_in same ∙ words_again other range' in
    sym (line_again line range) ∙ ap line_in words ∙ line_again other range'

-- ---- a line is one short line

without_printed : (w : List ℕ) → Printed w → Without 10 w
without_printed [] h = tt
without_printed (b ∷ w) h = (above b h.0, without_printed w h.1)
  where
    above : (c : ℕ) → 32 < c → c ≢ 10
    above c low is = omega (arith, low, is)

without_append : (a b : List ℕ) → Without 10 a → Without 10 b → Without 10 (a ++ b)
without_append [] b h k = k
without_append (x ∷ a) b h k = (h.0, without_append a b h.1 k)

without_spaced : (ws : List (List ℕ)) → ArePrinted ws → Without 10 (spaced ws)
without_spaced [] h = tt
without_spaced (w ∷ ws) h = ((λ is. omega (arith, is)), without_append w (spaced ws) (without_printed w h.0) (without_spaced ws h.1))

joined_one : (ws : List (List ℕ)) → ArePrinted ws → IsOneLine (joined ws)
joined_one [] h = tt
joined_one (w ∷ ws) h = without_append w (spaced ws) (without_printed w h.0) (without_spaced ws h.1)

pub line_one : (line : StatementLine) → IsInRange line → IsOneLine (line_text line)
line_one line range = joined_one (line_words line) (line_printed line range)

abbrev AreShort : List (List ℕ) → Type 0
AreShort ws = AllByRecursion (λ w. length w ≤ 21) ws

spaced_short : (ws : List (List ℕ)) → AreShort ws → length (spaced ws) ≤ 22 * length ws
spaced_short [] h = omega arith
spaced_short (w ∷ ws) h = omega (arith, h.0, spaced_short ws h.1, length-append w (spaced ws))

joined_short : (ws : List (List ℕ)) → AreShort ws → length (joined ws) ≤ 22 * length ws
joined_short [] h = omega arith
joined_short (w ∷ ws) h = omega (arith, h.0, spaced_short ws h.1, length-append w (spaced ws))

short_word : (n : ℕ) → n < 2 ^ 64 → length (decimal n) ≤ 21
short_word n h = omega (arith, short_digits n h)

short_device : (d : ℕ) → IsDevice d → length (device_word d) ≤ 21
short_device d h = omega (arith, short_digits d (omega (arith, h.1)))

amount_short : (a b : ℕ) → IsMills a → IsMills b → AreShort (decimal a ∷ codes "balance" ∷ decimal b ∷ [])
amount_short a b h k = (short_word a h, (omega arith, (short_word b k, tt)))

cause_short : (cause : Cause) (more : List (List ℕ)) → IsCauseInRange cause → AreShort more → AreShort (cause_words cause more)
cause_short (Deposit r) more range rest = (omega arith, (short_word r (omega (arith, range)), rest))
cause_short (Reset d n) more range rest = (omega arith, (short_device d range.0, (short_word n (omega (arith, range.1)), rest)))
cause_short (Refund d n) more range rest = (omega arith, (short_device d range.0, (short_word n (omega (arith, range.1)), rest)))
cause_short (Withdraw d n) more range rest = (omega arith, (short_device d range.0, (short_word n (omega (arith, range.1)), rest)))

few_words : (cause : Cause) (more : List (List ℕ)) → length more ≡ 3 → length (cause_words cause more) ≤ 6
few_words (Deposit r) more three = omega (arith, three)
few_words (Reset d n) more three = omega (arith, three)
few_words (Refund d n) more three = omega (arith, three)
few_words (Withdraw d n) more three = omega (arith, three)

pub line_short : (line : StatementLine) → IsInRange line → length (line_text line) ≤ 600
line_short (Opening c b) range = let short = joined_short (line_words (Opening c b)) (omega arith, (short_word c (omega (arith, range.0.1)), (omega arith, (short_word b range.1, tt)))) in omega (arith, short)
line_short (Moved m) range =
    let ws = cause_words m.cause (decimal m.amount ∷ codes "balance" ∷ decimal m.balance ∷ []) in
    let short = joined_short ws (cause_short m.cause _ range.0 (amount_short m.amount m.balance range.1 range.2)) in
    let few : length ws ≤ 6 = few_words m.cause _ (omega arith) in omega (arith, short, few)
line_short (Closing b) range = let short = joined_short (line_words (Closing b)) (omega arith, (short_word b range, tt)) in omega (arith, short)

pub line_long : (line : StatementLine) → IsInRange line → 0 < length (line_text line)
line_long (Opening c b) range = omega arith
line_long (Moved m) range = cause_long m.cause _
  where
    cause_long : (cause : Cause) (more : List (List ℕ)) → 0 < length (joined (cause_words cause more))
    cause_long (Deposit r) more = omega arith
    cause_long (Reset d n) more = omega arith
    cause_long (Refund d n) more = omega arith
    cause_long (Withdraw d n) more = omega arith
line_long (Closing b) range = omega arith
