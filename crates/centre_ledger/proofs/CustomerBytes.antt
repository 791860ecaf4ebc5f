-- A customer's row and its bytes: they fall into the numbers and zeros, and these make them.
use Rattle.std.proofs.Common.{◌≡◌, ℕ, suc, zero, ◌+◌, ◌-◌, ◌≤◌, ◌==◌, Bool, true, false, List, [], ◌++◌, length, take, drop, get_or, replicate, refl, sym, ap, ap₂, ◌∙◌, subst, arith, length-append}
use Rattle.std.proofs.lemmas.List.{drop_at, take-append-drop}
use Rattle.bench_base.specs.Table.{One, Four, Eight, number, row, values, Fit, IsBytes}
use Rattle.bench_base.proofs.Tables.{row_values, values_row, values_fit, length_row}
use Rattle.psd_wire.proofs.Readings.{byte_of}
use Rattle.centre_ledger.specs.declared.rows.CustomerRow.{CustomerRow}
use Rattle.centre_ledger.specs.Soundness.{IsSoundCustomer}
use Rattle.centre_ledger.specs.Payload.{flag, customer_table, customer_values, customer_part, customer_bytes, CustomerReadsAs}
use Rattle.centre_ledger.proofs.Joined.{laid}

-- the numbers of the bytes are those of the row
pub customer_numbers : (r : CustomerRow) (bytes : List ℕ) → CustomerReadsAs bytes r → values 0 customer_table bytes ≡ customer_values r
unfolding customer_bytes customer_part
customer_numbers r bytes h =
    ap (values 0 customer_table) (sym h.reads) ∙ values_row customer_table (customer_values r) [] (replicate 171 0) 0 refl h.fits

pub customer_end : (r : CustomerRow) (bytes : List ℕ) → CustomerReadsAs bytes r → drop 21 bytes ≡ replicate 171 0
unfolding customer_bytes customer_part
customer_end r bytes h = ap (drop 21) (sym h.reads) ∙ drop_at (row customer_table (customer_values r)) (replicate 171 0) 21 (length_row customer_table (customer_values r) h.fits)

pub customer_made : (r : CustomerRow) (bytes : List ℕ) → length bytes ≡ 192 → IsBytes bytes → IsSoundCustomer r
    → values 0 customer_table bytes ≡ customer_values r → drop 21 bytes ≡ replicate 171 0 → CustomerReadsAs bytes r
unfolding customer_bytes customer_part
customer_made r bytes l h sound e z = record {
  sound = sound;
  fits = subst (Fit customer_table) e (values_fit customer_table 0 bytes h);
  reads = ap₂ (λ x y. x ++ y) (ap (row customer_table) (sym e) ∙ row_values customer_table 0 bytes (omega (arith, l)) h) (sym z) ∙ take-append-drop 21 bytes;
}

flag_byte : (b : Bool) → flag b ≤ 1
flag_byte true = omega arith
flag_byte false = omega arith

pub customer_device : (r : CustomerRow) (bytes : List ℕ) → CustomerReadsAs bytes r → number Four (take 4 bytes) ≡ r.customer
customer_device r bytes h = ap (λ vs. get_or vs 0 0) (customer_numbers r bytes h)

pub customer_flag : (r : CustomerRow) (bytes : List ℕ) → CustomerReadsAs bytes r → get_or bytes 4 0 ≤ 1
customer_flag r bytes h = omega (arith, sym (byte_of 4 bytes) ∙ ap (λ vs. get_or vs 1 0) (customer_numbers r bytes h), flag_byte r.suspended)

flag_again : (n : ℕ) → n ≤ 1 → flag (n == 1) ≡ n
flag_again zero h = refl
flag_again (suc zero) h = refl
flag_again (suc (suc n)) h = absurd (omega (arith, h))

same_flag : (a b : Bool) → flag a ≡ flag b → a ≡ b
same_flag true true e = refl
same_flag false false e = refl
same_flag true false e = absurd (omega (arith, e))
same_flag false true e = absurd (omega (arith, e))

-- the numbers, read one by one
pub customer_read : (bytes : List ℕ) (w d r a : ℕ) → w ≡ number Four (take 4 bytes) → get_or bytes 4 0 ≤ 1 → d ≡ number Eight (take 8 (drop 5 bytes))
    → r ≡ number Four (take 4 (drop 13 bytes)) → a ≡ number Four (take 4 (drop 17 bytes))
    → values 0 customer_table bytes ≡ customer_values (record { customer = w; suspended = get_or bytes 4 0 == 1; deposits = d; receipt = r; amount = a })
customer_read bytes w d r a hw hf hd hr ha =
    let byte : number One (take 1 (drop 4 bytes)) ≡ flag (get_or bytes 4 0 == 1) = byte_of 4 bytes ∙ sym (flag_again (get_or bytes 4 0) hf) in
    cc

-- rows of the same numbers are one row
pub same_customer : (r s : CustomerRow) → customer_values r ≡ customer_values s → r ≡ s
same_customer r s e =
    let suspended : r.suspended ≡ s.suspended = same_flag r.suspended s.suspended (ap (λ vs. get_or vs 1 0) e) in
    let customer : r.customer ≡ s.customer = ap (λ vs. get_or vs 0 0) e in
    let deposits : r.deposits ≡ s.deposits = ap (λ vs. get_or vs 2 0) e in
    let receipt : r.receipt ≡ s.receipt = ap (λ vs. get_or vs 3 0) e in
    let amount : r.amount ≡ s.amount = ap (λ vs. get_or vs 4 0) e in
    let whole : ◌≡◌ {A = CustomerRow} (record { customer = r.customer; suspended = r.suspended; deposits = r.deposits; receipt = r.receipt; amount = r.amount })
    (record { customer = s.customer; suspended = s.suspended; deposits = s.deposits; receipt = s.receipt; amount = s.amount }) = cc in
    whole

-- A PAYLOAD READS AS ONE CUSTOMER'S ROW
pub one_customer_row : (payload : List ℕ) (r s : CustomerRow) → CustomerReadsAs payload r → CustomerReadsAs payload s → r ≡ s
one_customer_row payload r s a b = same_customer r s (sym (customer_numbers r payload a) ∙ customer_numbers s payload b)

pub length_customer : (payload : List ℕ) (r : CustomerRow) → CustomerReadsAs payload r → length payload ≡ 192
unfolding customer_bytes customer_part
length_customer payload r h = ap length (sym h.reads) ∙ length-append (row customer_table (customer_values r)) (replicate 171 0) ∙ ap (λ n. n + 171) (length_row customer_table (customer_values r) h.fits)

pub written_customer : (r : CustomerRow) → IsSoundCustomer r → Fit customer_table (customer_values r) → CustomerReadsAs (customer_bytes r) r
written_customer r sound fits = record { sound = sound; fits = fits; reads = refl }

-- the numbers are laid into zeros
pub customer_laid : (r : CustomerRow) (part bytes : List ℕ) → Fit customer_table (customer_values r) → part ≡ customer_part r
    → bytes ≡ take 0 (replicate 192 0) ++ (part ++ drop (0 + length part) (replicate 192 0)) → bytes ≡ customer_bytes r
unfolding customer_bytes customer_part
customer_laid r part bytes fits is e =
    let long : length part ≡ 21 = ap length is ∙ length_row customer_table (customer_values r) fits in
    let zeros : 192 - length part ≡ 171 = omega (arith, long) in
    laid [] part (replicate 192 0) bytes 0 192 refl refl e ∙ ap₂ (λ x n. x ++ replicate n 0) is zeros
