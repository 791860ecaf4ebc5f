-- A record's bytes fall into its parts, and the parts make its bytes, in each version.
use Rattle.std.proofs.Common.{◌≡◌, ℕ, ℤ, [], ◌∷◌, ◌+◌, ◌-◌, ◌^◌, ◌<◌, ◌≤◌, ◌==◌, if◌then◌else◌, Bool, true, false, replicate, List, ◌++◌, length, take, drop, get_or, sym, ap, ap₂, ◌∙◌, refl, arith, subst, Option, Some, None, length-append, append_assoc, FitsSigned, Fits as Fits32, true≢false, inl, inr}
use Rattle.std.specs.Int.{w32, cast_signed, cast_unsigned}
use Rattle.std.proofs.lemmas.Int.{of_z-to_z, to_z-of_z}
use Rattle.std.proofs.lemmas.List.{take_at, drop_at, drop-drop, length-replicate}
use Rattle.std.proofs.Math.Facts.{Fits-of_z}
use Rattle.bench_base.specs.Table.{Size, One, room, number, row, values, Fit, IsBytes}
use Rattle.bench_base.proofs.Tables.{row_values, values_row, values_fit, length_row}
use Rattle.indicium.specs.declared.Mark.{Mark}
use Rattle.indicium.specs.Marks as marks
use Rattle.indicium.proofs.Readings.{length_spell, read_spell}
use Rattle.psd_wire.specs.Grammar.{body}
use Rattle.psd_wire.proofs.Readings.{length_request, one_spelling, request_room, request_room_le, length_body_of, one_body, request_version, byte_of}
use Rattle.registers.specs.Sums.{Sums}
use Rattle.bench_base.specs.declared.{words.Phase.Phase, words.Phase.TheVariants.Blank, words.Phase.TheVariants.Manufactured, words.Phase.TheVariants.Authorised, words.Phase.TheVariants.InService, words.Phase.TheVariants.Locked, words.Phase.TheVariants.Withdrawn}
use Rattle.bench_base.proofs.Facts.{read_sfits, ok_same, behind}
use Rattle.psd_wire.specs.declared.message.Request.{Request}
use Rattle.psd_wire.specs.declared.message.Message.TheVariants as m
use Rattle.psd_wire.specs.Grammar as grammar
use Rattle.std.specs.Prelude.{◌⊎◌, IfSome}
use Rattle.std.proofs.lemmas.Bool.{eqb-true}
use Rattle.psd_state.specs.State.{State, Holds, PendingOk, MarkOk, is_stored}
use Rattle.psd_state.specs.declared.parts.Fields.{Fields}
use Rattle.psd_state.specs.Payload.{phase_code, phase_byte, flag_of, head_table, head, middle_table, middle, filled, pending_room, pending_part, mark_part, end_part, head_part, middle_part, spelled, bytes_of, RangesIn, Ranges, IsOld, ReadsAs, fields_from, fields_at, fields_of, pending_place, mark_place, Parts, PendingWhole, MarkWhole, IsKeptAt}

length_head : (v : ℕ) (s : State) → RangesIn v s → length (head_part v s) ≡ 5
unfolding head_part
length_head v s r = length_row head_table (head v s) r.head

length_middle : (v : ℕ) (s : State) → RangesIn v s → length (middle_part v s) ≡ room (middle_table v)
unfolding middle_part
length_middle v s r = length_row (middle_table v) (middle s) r.middle

-- a part is taken off the front of what is left
falls_apart : (x y rest bytes : List ℕ) (n k at : ℕ) → length x ≡ n → length y ≡ k → drop at bytes ≡ x ++ (y ++ rest) → (drop (at + n) bytes ≡ y ++ rest) × (take n (drop at bytes) ≡ x)
falls_apart x y rest bytes n k at lx ly e =
    (sym (drop-drop n at bytes) ∙ ap (drop n) e ∙ drop_at x (y ++ rest) n lx, ap (take n) e ∙ take_at x (y ++ rest) n lx)

fields_again : (v : ℕ) (s : State) → RangesIn v s → fields_from (head v s) s.key (middle s) ≡ fields_of v s
fields_again v s r =
    ap₂ (λ (x y : ℤ). record (fields_of v s) { deadline = x; last_day = y }) (to_z-of_z w32 s.deadline r.deadline) (to_z-of_z w32 s.last_day r.last_day)

head_values : (v : ℕ) (s : State) (rest : List ℕ) → RangesIn v s → values 0 head_table (head_part v s ++ rest) ≡ head v s
unfolding head_part
head_values v s rest r = values_row head_table (head v s) [] rest 0 refl r.head

middle_values : (v : ℕ) (s : State) (front rest : List ℕ) → RangesIn v s → length front ≡ 37 → values 37 (middle_table v) (front ++ (middle_part v s ++ rest)) ≡ middle s
unfolding middle_part
middle_values v s front rest r l = values_row (middle_table v) (middle s) front rest 37 l r.middle

-- WHAT IS SPELLED SO FALLS INTO THESE PARTS
pub parts : (v : ℕ) (s : State) (bytes : List ℕ) → RangesIn v s → length (pending_part v s.key s.pending) ≡ pending_room v → length (mark_part s.key s.mark) ≡ 64
    → spelled v s ≡ bytes → Parts v s bytes
unfolding spelled fields_at
parts v s bytes r lp lm e =
    let p : List ℕ = pending_part v s.key s.pending in
    let k : List ℕ = mark_part s.key s.mark in
    let z : List ℕ = end_part v in
    let lh = length_head v s r in
    let lc = length_middle v s r in
    let all : drop 0 bytes ≡ head_part v s ++ (s.key ++ (middle_part v s ++ (p ++ (k ++ z)))) = sym e in
    let s1 = falls_apart (head_part v s) s.key (middle_part v s ++ (p ++ (k ++ z))) bytes 5 32 0 lh r.key all in
    let s2 = falls_apart s.key (middle_part v s) (p ++ (k ++ z)) bytes 32 (room (middle_table v)) 5 r.key lc s1.0 in
    let s3 = falls_apart (middle_part v s) p (k ++ z) bytes (room (middle_table v)) (pending_room v) 37 lc lp s2.0 in
    let s4 = falls_apart p k z bytes (pending_room v) 64 (pending_place v) lp lm s3.0 in
    let hs : values 0 head_table bytes ≡ head v s = ap (values 0 head_table) (sym e) ∙ head_values v s (s.key ++ (middle_part v s ++ (p ++ (k ++ z)))) r in
    let vs : values 37 (middle_table v) bytes ≡ middle s =
    ap (values 37 (middle_table v)) (sym e ∙ sym (append_assoc (head_part v s) s.key (middle_part v s ++ (p ++ (k ++ z)))))
    ∙ middle_values v s (head_part v s ++ s.key) (p ++ (k ++ z)) r (length-append (head_part v s) s.key ∙ ap₂ (λ x y. x + y) lh r.key) in
    record {
      fields = ap₂ (λ h w. fields_from h (take 32 (drop 5 bytes)) w) hs vs ∙ ap (λ x. fields_from (head v s) x (middle s)) s2.1 ∙ fields_again v s r;
      pending = s4.1;
      mark = ap (take 64) s4.0 ∙ take_at k z 64 lm;
      end = sym (drop-drop 64 (mark_place v) bytes) ∙ ap (drop 64) s4.0 ∙ drop_at k z 64 lm;
    }

abbrev number_list : Fields → ℕ → ℕ → List ℕ
number_list f x y = f.ascending ∷ f.descending ∷ f.refunded ∷ f.pieces ∷ f.number ∷ x ∷ y ∷ f.customer ∷ f.origin ∷ f.pending ∷ []

middle_row : (v : ℕ) (bytes : List ℕ) (s : State) → IsBytes bytes → fields_at v bytes ≡ fields_of v s → values 37 (middle_table v) bytes ≡ middle s
unfolding fields_at
middle_row v bytes s h e =
    let table : List Size = middle_table v in
    let fit : Fit table (values 37 table bytes) = values_fit table 37 bytes h in
    let d = of_z-to_z w32 (get_or (values 37 table bytes) 5 0) fit.1.1.1.1.1.0 in
    let t = of_z-to_z w32 (get_or (values 37 table bytes) 6 0) fit.1.1.1.1.1.1.0 in
    ap₂ (λ x y. number_list (fields_from (values 0 head_table bytes) (take 32 (drop 5 bytes)) (values 37 table bytes)) x y) (sym d) (sym t)
    ∙ ap (λ (f : Fields). number_list f (cast_unsigned w32 f.deadline) (cast_unsigned w32 f.last_day)) e

head_row : (v : ℕ) (bytes : List ℕ) (s : State) → fields_at v bytes ≡ fields_of v s → values 0 head_table bytes ≡ head v s
unfolding fields_at
head_row v bytes s e = ap (λ (f : Fields). f.device ∷ f.phase ∷ []) e

key_part : (v : ℕ) (bytes : List ℕ) (s : State) → fields_at v bytes ≡ fields_of v s → take 32 (drop 5 bytes) ≡ s.key
unfolding fields_at
key_part v bytes s e = ap (λ (f : Fields). f.key) e

-- THE PARTS MAKE THE BYTES
pub assembled : (v : ℕ) (s : State) (bytes : List ℕ) → 37 + room (middle_table v) ≤ length bytes → IsBytes bytes → Parts v s bytes → spelled v s ≡ bytes
unfolding spelled head_part middle_part
assembled v s bytes l h p =
    let table : List Size = middle_table v in
    let a : row head_table (head v s) ≡ take 5 (drop 0 bytes) =
    ap (row head_table) (sym (head_row v bytes s p.fields)) ∙ row_values head_table 0 bytes (omega (arith, l)) h in
    let b : s.key ≡ take 32 (drop 5 bytes) = sym (key_part v bytes s p.fields) in
    let c : row table (middle s) ≡ take (room table) (drop 37 bytes) = ap (row table) (sym (middle_row v bytes s h p.fields)) ∙ row_values table 37 bytes l h in
    let from_mark = ap₂ (λ x y. x ++ y) (sym p.mark) (sym p.end) ∙ behind (mark_place v) 64 bytes in
    let from_pending = ap₂ (λ x y. x ++ y) (sym p.pending) from_mark ∙ behind (pending_place v) (pending_room v) bytes in
    let from_middle = ap₂ (λ x y. x ++ y) c from_pending ∙ behind 37 (room table) bytes in
    let from_key = ap₂ (λ x y. x ++ y) b from_middle ∙ behind 5 32 bytes in
    ap₂ (λ x y. x ++ y) a from_key ∙ behind 0 5 bytes

-- == what a record that holds gives ==

-- a request without its code fits its room
room_filled : (q : Request) → PendingWhole (Some q) → length (filled q) ≡ 55
unfolding filled
room_filled q w =
    let front = length_body_of q w in
    let rest = length-replicate {A = ℕ} (55 - length (body (m.Request q))) 0 in
    let fits : length (body (m.Request q)) ≤ 55 = rw front (request_room_le q.version) in
    length-append (body (m.Request q)) (replicate (55 - length (body (m.Request q))) 0) ∙ omega (arith, fits, rest)

pub length_pending : (v : ℕ) (key : List ℕ) (o : Option Request) → PendingWhole o → (v ≡ 1 → (q : Request) → o ≡ Some q → q.version ≡ 1)
    → length (pending_part v key o) ≡ pending_room v
unfolding pending_part
length_pending v key None w old = length-replicate {A = ℕ} (pending_room v) 0
length_pending v key (Some q) w old = go (v == 1) (λ e. old (eqb-true v 1 e) q refl)
  where
    go : (b : Bool) → (b ≡ true → q.version ≡ 1) → length (if b then grammar.spell (m.Request q) key else filled q) ≡ (if b then 71 else 55)
    go true first = length_request q key w ∙ ap (λ n. request_room n + 32) (first refl)
    go false first = room_filled q w

pub length_mark : (key : List ℕ) (o : Option Mark) → MarkWhole o → length (mark_part key o) ≡ 64
unfolding mark_part
length_mark key None w = refl
length_mark key (Some k) w = length_spell k key w

pub whole_pending : (d n : ℕ) (p : Phase) (s : Sums) (o : Option Request) → PendingOk d n p s o → PendingWhole o
whole_pending d n p s None h = tt
whole_pending d n p s (Some q) h = h.whole

pub whole_mark : (d : ℕ) (s : Sums) (o : Option Mark) → MarkOk d s o → MarkWhole o
whole_mark d s None h = tt
whole_mark d s (Some k) h = h.1.whole

pub mark_kept_at : (d : ℕ) (s : Sums) (o : Option Mark) → MarkOk d s o → IsKeptAt s.pieces o
mark_kept_at d s None h = h
mark_kept_at d s (Some k) h = h.0

old_pending : (o : Option Request) → IfSome o (λ q. q.version ≡ 1) → (q : Request) → o ≡ Some q → q.version ≡ 1
old_pending None h q e = absurd (cc)
old_pending (Some r) h q e = let same : r ≡ q = cc in ap (λ (x : Request). x.version) (sym same) ∙ h

-- what is needed of a record to be spelled in a version
pub record Spells (v : ℕ) (s : State) : Type 0 where
  pub holds : Holds s
  pub fits : RangesIn v s
  pub old : v ≡ 1 → IsOld s

pub parts_of : (v : ℕ) (s : State) (bytes : List ℕ) → Spells v s → spelled v s ≡ bytes → Parts v s bytes
parts_of v s bytes h e =
    parts v s bytes h.fits
    (length_pending v s.key s.pending (whole_pending s.device s.number s.phase s.registers s.pending h.holds.pending) (λ one. old_pending s.pending (h.old one).pending))
    (length_mark s.key s.mark (whole_mark s.device s.registers s.mark h.holds.mark)) e

-- == each part has one spelling ==

pub same_phase : (p q : Phase) → is_stored p ≡ true → is_stored q ≡ true → phase_code p ≡ phase_code q → p ≡ q
same_phase Manufactured Manufactured a b e = refl
same_phase Authorised Authorised a b e = refl
same_phase InService InService a b e = refl
same_phase Withdrawn Withdrawn a b e = refl
same_phase Blank q a b e = absurd (true≢false (sym a))
same_phase Locked q a b e = absurd (true≢false (sym a))
same_phase p Blank a b e = absurd (true≢false (sym b))
same_phase p Locked a b e = absurd (true≢false (sym b))
same_phase Manufactured Authorised a b e = absurd (omega (arith, e))
same_phase Manufactured InService a b e = absurd (omega (arith, e))
same_phase Manufactured Withdrawn a b e = absurd (omega (arith, e))
same_phase Authorised Manufactured a b e = absurd (omega (arith, e))
same_phase Authorised InService a b e = absurd (omega (arith, e))
same_phase Authorised Withdrawn a b e = absurd (omega (arith, e))
same_phase InService Manufactured a b e = absurd (omega (arith, e))
same_phase InService Authorised a b e = absurd (omega (arith, e))
same_phase InService Withdrawn a b e = absurd (omega (arith, e))
same_phase Withdrawn Manufactured a b e = absurd (omega (arith, e))
same_phase Withdrawn Authorised a b e = absurd (omega (arith, e))
same_phase Withdrawn InService a b e = absurd (omega (arith, e))

pub same_byte : (v : ℕ) (p q : Phase) → is_stored p ≡ true → is_stored q ≡ true → phase_byte v p ≡ phase_byte v q → p ≡ q
same_byte v p q a b e = same_phase p q a b (go (v == 1) e)
  where
    go : (f : Bool) → (if f then phase_code p else phase_code p + 16) ≡ (if f then phase_code q else phase_code q + 16) → phase_code p ≡ phase_code q
    go true h = h
    go false h = omega (arith, h)

request_same : {x y : Request} → m.Request x ≡ m.Request y → x ≡ y
request_same h = cc

-- bytes without their code, filled with zeros, are of one request
same_filled : (q r : Request) → PendingWhole (Some q) → PendingWhole (Some r) → filled q ≡ filled r → q ≡ r
unfolding filled
same_filled q r v w e =
    let version : q.version ≡ r.version = sym (request_version q _) ∙ ap (λ b. get_or b 0 0) e ∙ request_version r _ in
    let long : length (body (m.Request q)) ≡ length (body (m.Request r)) = length_body_of q v ∙ ap request_room version ∙ sym (length_body_of r w) in
    let bodies : body (m.Request q) ≡ body (m.Request r) =
    sym (take_at (body (m.Request q)) _ (length (body (m.Request q))) refl) ∙ ap₂ (λ n b. take n b) long e ∙ take_at (body (m.Request r)) _ (length (body (m.Request r))) refl in
    request_same (one_body (m.Request q) (m.Request r) refl refl v w bodies)

pub same_pending : (v : ℕ) (key : List ℕ) (o p : Option Request) → PendingWhole o → PendingWhole p → flag_of o ≡ flag_of p → pending_part v key o ≡ pending_part v key p → o ≡ p
unfolding pending_part
same_pending n key None None v w f e = refl
same_pending n key None (Some q) v w f e = absurd (omega (arith, f))
same_pending n key (Some q) None v w f e = absurd (omega (arith, f))
same_pending n key (Some q) (Some r) v w f e = ap (λ x. Some x) (go (n == 1) e)
  where
    go : (b : Bool) → (if b then grammar.spell (m.Request q) key else filled q) ≡ (if b then grammar.spell (m.Request r) key else filled r) → q ≡ r
    go true h = request_same (one_spelling (m.Request q) (m.Request r) key v w h)
    go false h = same_filled q r v w h

pub same_mark : (key : List ℕ) (n : ℕ) (o p : Option Mark) → MarkWhole o → MarkWhole p → IsKeptAt n o → IsKeptAt n p → mark_part key o ≡ mark_part key p → o ≡ p
unfolding mark_part
same_mark key n None None v w f g e = refl
same_mark key n None (Some q) v w f g e = absurd (omega (arith, f, g))
same_mark key n (Some q) None v w f g e = absurd (omega (arith, f, g))
same_mark key n (Some q) (Some r) v w f g e =
    let pairs = ok_same (sym (read_spell q key v) ∙ ap marks.read_mark e ∙ read_spell r key w) in
    ap (λ (x : Mark × List ℕ). Some x.0) pairs

abbrev fields : ℕ → ℕ → List ℕ → ℕ → ℕ → ℕ → ℕ → ℕ → ℤ → ℤ → ℕ → ℕ → ℕ → Fields
fields d p key x y z n i t u c o f = record { device = d; phase = p; key = key; ascending = x; descending = y; refunded = z; pieces = n; number = i; deadline = t; last_day = u; customer = c; origin = o; pending = f }

-- the numbers of a record fit if those that were written do, whatever represents the days
pub fits_of : (s : State) (flag x y : ℕ) → Fit head_table (head 2 s) → length s.key ≡ 32 → flag ≡ flag_of s.pending
    → Fit (middle_table 2) (s.registers.ascending ∷ s.registers.descending ∷ s.registers.refunded ∷ s.registers.pieces ∷ s.number ∷ x ∷ y ∷ s.customer ∷ s.origin ∷ flag ∷ [])
    → FitsSigned w32 s.deadline → FitsSigned w32 s.last_day → Ranges s
fits_of s flag x y head key is f ft fu =
    let deadline : Fits32 w32 (cast_unsigned w32 s.deadline) = Fits-of_z ft in
    let last : Fits32 w32 (cast_unsigned w32 s.last_day) = Fits-of_z fu in
    record {
      head = head;
      key = key;
      middle = (
        f.0,
        (
          f.1.0,
          (
            f.1.1.0,
            (
              f.1.1.1.0,
              (
                f.1.1.1.1.0,
                (
                  omega (arith, deadline),
                  (
                    omega (arith, last),
                    (
                      f.1.1.1.1.1.1.1.0,
                      (
                        f.1.1.1.1.1.1.1.1.0,
                        (subst (λ n. n < 2 ^ 8) is f.1.1.1.1.1.1.1.1.1.0, tt),
                      ),
                    ),
                  ),
                ),
              ),
            ),
          ),
        ),
      );
      deadline = ft;
      last_day = fu;
    }

abbrev state : ℕ → Phase → List ℕ → ℕ → ℕ → ℕ → ℕ → ℕ → ℤ → ℤ → ℕ → ℕ → Option Request → Option Mark → State
state d p key x y z k n t u c o q m = record {
  device = d;
  phase = p;
  key = key;
  registers = record { ascending = x; descending = y; refunded = z; pieces = k };
  number = n;
  deadline = t;
  last_day = u;
  customer = c;
  origin = o;
  pending = q;
  mark = m;
}

-- no two records have one spelling in a version
pub one_spelled : (v : ℕ) (s t : State) → Spells v s → Spells v t → spelled v s ≡ spelled v t → s ≡ t
one_spelled v s t gs gt e =
    let hs = gs.holds in
    let ht = gt.holds in
    let ps = parts_of v s (spelled v t) gs e in
    let pt = parts_of v t (spelled v t) gt refl in
    let f : fields_of v s ≡ fields_of v t = sym ps.fields ∙ pt.fields in
    let key : s.key ≡ t.key = ap (λ (x : Fields). x.key) f in
    let pieces : s.registers.pieces ≡ t.registers.pieces = ap (λ (x : Fields). x.pieces) f in
    let phase : s.phase ≡ t.phase = same_byte v s.phase t.phase hs.phase ht.phase (ap (λ (x : Fields). x.phase) f) in
    let pending : s.pending ≡ t.pending =
    same_pending v s.key s.pending t.pending (whole_pending s.device s.number s.phase s.registers s.pending hs.pending) (whole_pending t.device t.number t.phase t.registers t.pending ht.pending)
    (ap (λ (x : Fields). x.pending) f) (sym ps.pending ∙ pt.pending ∙ ap (λ k. pending_part v k t.pending) (sym key)) in
    let mark : s.mark ≡ t.mark =
    same_mark s.key s.registers.pieces s.mark t.mark (whole_mark s.device s.registers s.mark hs.mark) (whole_mark t.device t.registers t.mark ht.mark)
    (mark_kept_at s.device s.registers s.mark hs.mark) (subst (λ n. IsKeptAt n t.mark) (sym pieces) (mark_kept_at t.device t.registers t.mark ht.mark))
    (sym ps.mark ∙ pt.mark ∙ ap (λ k. mark_part k t.mark) (sym key)) in
    let device : s.device ≡ t.device = ap (λ (x : Fields). x.device) f in
    let ascending : s.registers.ascending ≡ t.registers.ascending = ap (λ (x : Fields). x.ascending) f in
    let descending : s.registers.descending ≡ t.registers.descending = ap (λ (x : Fields). x.descending) f in
    let refunded : s.registers.refunded ≡ t.registers.refunded = ap (λ (x : Fields). x.refunded) f in
    let number : s.number ≡ t.number = ap (λ (x : Fields). x.number) f in
    let deadline : s.deadline ≡ t.deadline = ap (λ (x : Fields). x.deadline) f in
    let last : s.last_day ≡ t.last_day = ap (λ (x : Fields). x.last_day) f in
    let customer : s.customer ≡ t.customer = ap (λ (x : Fields). x.customer) f in
    let origin : s.origin ≡ t.origin = ap (λ (x : Fields). x.origin) f in
    let whole : state s.device s.phase s.key s.registers.ascending s.registers.descending s.registers.refunded s.registers.pieces s.number s.deadline s.last_day s.customer s.origin s.pending s.mark
    ≡ state t.device t.phase t.key t.registers.ascending t.registers.descending t.registers.refunded t.registers.pieces t.number t.deadline t.last_day t.customer t.origin t.pending t.mark = cc in
    whole

-- == both versions ==

-- the byte of the phase
byte_of_phase : (v : ℕ) (s : State) (bytes : List ℕ) → Parts v s bytes → get_or bytes 4 0 ≡ phase_byte v s.phase
unfolding fields_at
byte_of_phase v s bytes p = sym (byte_of 4 bytes) ∙ ap (λ (f : Fields). f.phase) p.fields

pub stored_code : (p : Phase) → is_stored p ≡ true → (1 ≤ phase_code p) × (phase_code p ≤ 4)
stored_code Manufactured h = (omega arith, omega arith)
stored_code Authorised h = (omega arith, omega arith)
stored_code InService h = (omega arith, omega arith)
stored_code Withdrawn h = (omega arith, omega arith)
stored_code Blank h = absurd (true≢false (sym h))
stored_code Locked h = absurd (true≢false (sym h))

-- what version 1 can spell fits its fields
pub old_fits : (s : State) → Holds s → Ranges s → IsOld s → RangesIn 1 s
old_fits s h r old =
    let within = old.total in
    let code = stored_code s.phase h.phase in
    let f = r.middle in
    record {
      head = (r.head.0, (omega (arith, code.1), tt));
      key = r.key;
      middle = (omega (arith, within), (omega (arith, within), (omega (arith, within), f.1.1.1)));
      deadline = r.deadline;
      last_day = r.last_day;
    }

pub spells_old : (s : State) → Holds s → Ranges s → IsOld s → Spells 1 s
spells_old s h r old = record { holds = h; fits = old_fits s h r old; old = λ _. old }

pub spells_new : (s : State) → Holds s → Ranges s → Spells 2 s
spells_new s h r = record { holds = h; fits = r; old = λ e. absurd (omega (arith, e)) }

-- the byte of the phase shows the version
pub byte_old : (s : State) (bytes : List ℕ) → Spells 1 s → spelled 1 s ≡ bytes → get_or bytes 4 0 < 16
byte_old s bytes g e =
    let code = stored_code s.phase g.holds.phase in
    omega (arith, byte_of_phase 1 s bytes (parts_of 1 s bytes g e), code.1)

pub byte_new : (s : State) (bytes : List ℕ) → Spells 2 s → spelled 2 s ≡ bytes → 16 ≤ get_or bytes 4 0
byte_new s bytes g e = omega (arith, byte_of_phase 2 s bytes (parts_of 2 s bytes g e))

-- the byte of the phase is not low in a payload of version 2, and not high in one of version 1
pub not_second : (payload : List ℕ) (s : State) → get_or payload 4 0 < 16 → ReadsAs payload s → (IsOld s → spelled 1 s ≡ payload → ⊥) → ⊥
not_second payload s low r none = go r.reads
  where
    go : (bytes_of s ≡ payload) ⊎ (IsOld s × (spelled 1 s ≡ payload)) → ⊥
    go (inl e) = absurd (omega (arith, low, byte_new s payload (spells_new s r.holds r.fits) e))
    go (inr e) = none e.0 e.1

pub not_first : (payload : List ℕ) (s : State) → 16 ≤ get_or payload 4 0 → ReadsAs payload s → (bytes_of s ≡ payload → ⊥) → ⊥
not_first payload s high r none = go r.reads
  where
    go : (bytes_of s ≡ payload) ⊎ (IsOld s × (spelled 1 s ≡ payload)) → ⊥
    go (inl e) = none e
    go (inr e) = absurd (omega (arith, high, byte_old s payload (spells_old s r.holds r.fits e.0) e.1))

-- A PAYLOAD READS AS ONE RECORD
pub one_reading : (payload : List ℕ) (s t : State) → ReadsAs payload s → ReadsAs payload t → s ≡ t
one_reading payload s t a b = go a.reads b.reads
  where
    new : (x : State) → ReadsAs payload x → Spells 2 x
    new x r = spells_new x r.holds r.fits

    old : (x : State) → ReadsAs payload x → IsOld x → Spells 1 x
    old x r o = spells_old x r.holds r.fits o

    go : (bytes_of s ≡ payload) ⊎ (IsOld s × (spelled 1 s ≡ payload)) → (bytes_of t ≡ payload) ⊎ (IsOld t × (spelled 1 t ≡ payload)) → s ≡ t
    go (inl x) (inl y) = one_spelled 2 s t (new s a) (new t b) (x ∙ sym y)
    go (inl x) (inr y) = absurd (omega (arith, byte_new s payload (new s a) x, byte_old t payload (old t b y.0) y.1))
    go (inr x) (inl y) = absurd (omega (arith, byte_new t payload (new t b) y, byte_old s payload (old s a x.0) x.1))
    go (inr x) (inr y) = one_spelled 1 s t (old s a x.0) (old t b y.0) (x.1 ∙ sym y.1)

pub one_payload : (s t : State) → Holds s → Holds t → Ranges s → Ranges t
    → (bytes_of s ≡ bytes_of t → s ≡ t) × (IsOld s → IsOld t → spelled 1 s ≡ spelled 1 t → s ≡ t)
one_payload s t hs ht rs rt = (
  λ e. one_spelled 2 s t (spells_new s hs rs) (spells_new t ht rt) e,
  λ a b e. one_spelled 1 s t (spells_old s hs rs a) (spells_old t ht rt b) e,
)

-- == the fields, as they are read one by one ==

pub byte_number : (n : ℕ) (bytes : List ℕ) → get_or bytes n 0 ≡ number One (take 1 (drop n bytes))
byte_number n bytes = sym (byte_of n bytes)

pub signed_number : (r : ℤ) (n : ℕ) → r ≡ cast_signed w32 n → cast_signed w32 (cast_unsigned w32 r) ≡ cast_signed w32 n
signed_number r n e = to_z-of_z w32 r (subst (FitsSigned w32) (sym e) (read_sfits w32 n)) ∙ e

pub fields_read : (v : ℕ) (bytes key : List ℕ) (d p x y z k n c o f : ℕ) (t u : ℤ)
    → d ≡ get_or (values 0 head_table bytes) 0 0 → p ≡ get_or (values 0 head_table bytes) 1 0 → key ≡ take 32 (drop 5 bytes)
    → x ≡ get_or (values 37 (middle_table v) bytes) 0 0 → y ≡ get_or (values 37 (middle_table v) bytes) 1 0 → z ≡ get_or (values 37 (middle_table v) bytes) 2 0
    → k ≡ get_or (values 37 (middle_table v) bytes) 3 0 → n ≡ get_or (values 37 (middle_table v) bytes) 4 0
    → t ≡ cast_signed w32 (get_or (values 37 (middle_table v) bytes) 5 0) → u ≡ cast_signed w32 (get_or (values 37 (middle_table v) bytes) 6 0)
    → c ≡ get_or (values 37 (middle_table v) bytes) 7 0 → o ≡ get_or (values 37 (middle_table v) bytes) 8 0 → f ≡ get_or (values 37 (middle_table v) bytes) 9 0
    → ◌≡◌ {A = Fields} (record { device = d; phase = p; key = key; ascending = x; descending = y; refunded = z; pieces = k; number = n; deadline = t; last_day = u; customer = c; origin = o; pending = f }) (fields_at v bytes)
unfolding fields_at
fields_read v bytes key d p x y z k n c o f t u hd hp hk hx hy hz hn hm ht hu hc ho hf = cc
