-- A job and its bytes: they fall into the numbers, the tops and the mark, and these make them.
use Rattle.std.proofs.Common.{◌≡◌, ℕ, ◌+◌, ◌≤◌, List, [], ◌∷◌, ◌++◌, length, take, drop, get_or, replicate, Option, Some, None, Ok, refl, sym, ap, ap₂, ◌∙◌, subst, arith, length-append, append_assoc}
use Rattle.std.proofs.Props.{props}
use Rattle.std.proofs.Math.Logic.{∥∥₁_elim}
use Rattle.std.specs.Prelude.{IfSome}
use Rattle.std.proofs.lemmas.List.{drop_at, take_at, take-append-drop, drop-drop, drop-replicate, take_all, length-drop, nil_from_length}
use Rattle.bench_base.specs.declared.words.JobState.{JobState}
use Rattle.bench_base.specs.declared.words.JobState.TheVariants as state
use Rattle.bench_base.specs.Table.{One, Two, Four, number, row, values, Fit, IsBytes}
use Rattle.bench_base.proofs.Tables.{row_values, values_row, values_fit, length_row}
use Rattle.indicium.specs.declared.Mark.{Mark}
use Rattle.indicium.specs.Marks.{read_mark}
use Rattle.psd_wire.proofs.Readings.{byte_of, mark_long}
use Rattle.host_jobs.specs.declared.rows.JobRow.{JobRow}
use Rattle.host_jobs.specs.Soundness.{IsSoundJob, Holds}
use Rattle.host_jobs.specs.Payload.{state_byte, head_table, head, tops_table, head_part, tops_part, mark_part, job_bytes, JobFits, JobReadsAs}
use Rattle.host_jobs.specs.PayloadLaws.{PayloadLaws}

-- == marks ==

-- the last 64 bytes
pub end_of : (bytes : List ℕ) → length bytes ≡ 115 → (take 64 (drop 51 bytes) ≡ drop 51 bytes) × (length (take 64 (drop 51 bytes)) ≡ 64)
end_of bytes l =
    let long : length (drop 51 bytes) ≡ 64 = length-drop 51 bytes ∙ omega (arith, l) in
    let all : take 64 (drop 51 bytes) ≡ drop 51 bytes = take_all 64 (drop 51 bytes) (omega (arith, long)) in
    (all, ap length all ∙ long)

zeros_unread : (found : Mark × List ℕ) → read_mark (replicate 64 0) ≡ Ok found → ⊥
unfolding read_mark
zeros_unread found e = cc

-- a mark has 64 bytes, not all of them zero
abbrev pub IsSome64 : List ℕ → Type 0
IsSome64 x = (replicate 64 0 ≡ x → ⊥) × (length x ≡ 64)

some64_prop : (x : List ℕ) → IsProp (IsSome64 x)
some64_prop x = hlevel props

pub mark_some : (r : JobRow) (x : List ℕ) → Holds r x → IsSome64 x
mark_some r x h = ∥∥₁_elim h.mark (some64_prop x) (λ m. (λ zeros. zeros_unread (m.mark, m.code) (ap read_mark zeros ∙ m.reads), mark_long x (m.mark, m.code) m.reads))

pub marks_some : (r : JobRow) (o : Option (List ℕ)) → IfSome o (Holds r) → IfSome o IsSome64
marks_some r None h = tt
marks_some r (Some x) h = mark_some r x h

part_long : (o : Option (List ℕ)) → IfSome o IsSome64 → length (mark_part o) ≡ 64
unfolding mark_part
part_long None h = refl
part_long (Some x) h = h.1

one_mark : (o p : Option (List ℕ)) → IfSome o IsSome64 → IfSome p IsSome64 → mark_part o ≡ mark_part p → o ≡ p
unfolding mark_part
one_mark None None h k e = refl
one_mark None (Some y) h k e = absurd (k.0 e)
one_mark (Some x) None h k e = absurd (h.0 (sym e))
one_mark (Some x) (Some y) h k e = ap (λ (z : List ℕ). Some z) e

-- == the parts of the bytes ==

-- the numbers, the tops and the mark
pub record Parts (r : JobRow) (bytes : List ℕ) : Type 0 where
  pub numbers : values 0 head_table bytes ≡ head r
  pub tops : values 19 tops_table bytes ≡ r.tops
  pub mark : drop 51 bytes ≡ mark_part r.indicium

pub parts : (r : JobRow) (bytes : List ℕ) → JobReadsAs bytes r → Parts r bytes
unfolding job_bytes head_part tops_part
parts r bytes h = record {
  numbers = ap (values 0 head_table) (sym h.reads) ∙ values_row head_table (head r) [] (row tops_table r.tops ++ mark_part r.indicium) 0 refl h.fits.head;
  tops = ap (values 19 tops_table) (sym h.reads) ∙ values_row tops_table r.tops (row head_table (head r)) (mark_part r.indicium) 19 long h.fits.tops;
  mark =
      ap (drop 51) (sym h.reads)
      ∙ sym (drop-drop 32 19 (row head_table (head r) ++ (row tops_table r.tops ++ mark_part r.indicium)))
      ∙ ap (drop 32) (drop_at (row head_table (head r)) (row tops_table r.tops ++ mark_part r.indicium) 19 long)
      ∙ drop_at (row tops_table r.tops) (mark_part r.indicium) 32 (length_row tops_table r.tops h.fits.tops);
}
  where
    long : length (row head_table (head r)) ≡ 19
    long = length_row head_table (head r) h.fits.head

pub made : (r : JobRow) (bytes : List ℕ) → length bytes ≡ 115 → IsBytes bytes → IsSoundJob r → Parts r bytes → JobReadsAs bytes r
unfolding job_bytes head_part tops_part
made r bytes l h sound are = record {
  sound = sound;
  fits = record { head = subst (Fit head_table) are.numbers (values_fit head_table 0 bytes h); tops = subst (Fit tops_table) are.tops (values_fit tops_table 19 bytes h) };
  reads =
      ap₂ (λ x y. x ++ y) (ap (row head_table) (sym are.numbers) ∙ row_values head_table 0 bytes (omega (arith, l)) h)
      (ap₂ (λ x y. x ++ y) (ap (row tops_table) (sym are.tops) ∙ row_values tops_table 19 bytes (omega (arith, l)) h) (sym are.mark)
      ∙ ap (λ x. take 32 (drop 19 bytes) ++ x) (sym (drop-drop 32 19 bytes)) ∙ take-append-drop 32 (drop 19 bytes))
      ∙ take-append-drop 19 bytes;
}

-- == one job ==

byte_state : (s t : JobState) → state_byte s ≡ state_byte t → s ≡ t
byte_state state.Ordered state.Ordered e = refl
byte_state state.Held state.Held e = refl
byte_state state.Begun state.Begun e = refl
byte_state state.Closed state.Closed e = refl
byte_state state.Ordered state.Held e = absurd (omega (arith, e))
byte_state state.Ordered state.Begun e = absurd (omega (arith, e))
byte_state state.Ordered state.Closed e = absurd (omega (arith, e))
byte_state state.Held state.Ordered e = absurd (omega (arith, e))
byte_state state.Held state.Begun e = absurd (omega (arith, e))
byte_state state.Held state.Closed e = absurd (omega (arith, e))
byte_state state.Begun state.Ordered e = absurd (omega (arith, e))
byte_state state.Begun state.Held e = absurd (omega (arith, e))
byte_state state.Begun state.Closed e = absurd (omega (arith, e))
byte_state state.Closed state.Ordered e = absurd (omega (arith, e))
byte_state state.Closed state.Held e = absurd (omega (arith, e))
byte_state state.Closed state.Begun e = absurd (omega (arith, e))

pub state_in : (s : JobState) → (1 ≤ state_byte s) × (state_byte s ≤ 4)
state_in state.Ordered = (omega arith, omega arith)
state_in state.Held = (omega arith, omega arith)
state_in state.Begun = (omega arith, omega arith)
state_in state.Closed = (omega arith, omega arith)

-- jobs of the same parts are one job
pub same_job : (r s : JobRow) (bytes : List ℕ) → Parts r bytes → Parts s bytes → IfSome r.indicium IsSome64 → IfSome s.indicium IsSome64 → r ≡ s
same_job r s bytes a b some some' =
    let e : head r ≡ head s = sym a.numbers ∙ b.numbers in
    let job : r.job ≡ s.job = ap (λ vs. get_or vs 0 0) e in
    let device : r.device ≡ s.device = ap (λ vs. get_or vs 1 0) e in
    let piece : r.piece ≡ s.piece = ap (λ vs. get_or vs 2 0) e in
    let postage : r.postage ≡ s.postage = ap (λ vs. get_or vs 3 0) e in
    let class : r.class ≡ s.class = ap (λ vs. get_or vs 4 0) e in
    let state : r.state ≡ s.state = byte_state r.state s.state (ap (λ vs. get_or vs 5 0) e) in
    let tops : r.tops ≡ s.tops = sym a.tops ∙ b.tops in
    let indicium : r.indicium ≡ s.indicium = one_mark r.indicium s.indicium some some' (sym a.mark ∙ b.mark) in
    λ i. record { job = job i; device = device i; piece = piece i; postage = postage i; class = class i; state = state i; tops = tops i; indicium = indicium i }

pub one_job : (payload : List ℕ) (r s : JobRow) → JobReadsAs payload r → JobReadsAs payload s → r ≡ s
one_job payload r s a b = same_job r s payload (parts r payload a) (parts s payload b) (marks_some r r.indicium a.sound.holds) (marks_some s s.indicium b.sound.holds)

pub written_job : (r : JobRow) → IsSoundJob r → JobFits r → JobReadsAs (job_bytes r) r
written_job r sound fits = record { sound = sound; fits = fits; reads = refl }

pub length_job : (payload : List ℕ) (r : JobRow) → JobReadsAs payload r → length payload ≡ 115
unfolding job_bytes head_part tops_part
length_job payload r h =
    let long = part_long r.indicium (marks_some r r.indicium h.sound.holds) in
    let one = length_row head_table (head r) h.fits.head in
    let two = length_row tops_table r.tops h.fits.tops in
    omega (arith, ap length (sym h.reads), length-append (row head_table (head r)) (row tops_table r.tops ++ mark_part r.indicium), length-append (row tops_table r.tops) (mark_part r.indicium), long, one, two)

pub payload_laws : PayloadLaws
payload_laws = record { one = one_job; written = written_job; long = length_job }

-- == the numbers, read one by one ==

pub numbers_read : (bytes : List ℕ) (j d p a k : ℕ) (s : JobState) → j ≡ number Four (take 4 bytes) → d ≡ number Four (take 4 (drop 4 bytes)) → p ≡ number Four (take 4 (drop 8 bytes))
    → a ≡ number Four (take 4 (drop 12 bytes)) → k ≡ number Two (take 2 (drop 16 bytes)) → state_byte s ≡ get_or bytes 18 0
    → values 0 head_table bytes ≡ j ∷ d ∷ p ∷ a ∷ k ∷ state_byte s ∷ []
numbers_read bytes j d p a k s hj hd hp ha hk hs =
    let byte : number One (take 1 (drop 18 bytes)) ≡ state_byte s = byte_of 18 bytes ∙ sym hs in
    cc

pub job_number : (r : JobRow) (bytes : List ℕ) → JobReadsAs bytes r → number Four (take 4 bytes) ≡ r.job
job_number r bytes h = ap (λ vs. get_or vs 0 0) (parts r bytes h).numbers

pub device_number : (r : JobRow) (bytes : List ℕ) → JobReadsAs bytes r → number Four (take 4 (drop 4 bytes)) ≡ r.device
device_number r bytes h = ap (λ vs. get_or vs 1 0) (parts r bytes h).numbers

pub state_number : (r : JobRow) (bytes : List ℕ) → JobReadsAs bytes r → get_or bytes 18 0 ≡ state_byte r.state
state_number r bytes h = sym (byte_of 18 bytes) ∙ ap (λ vs. get_or vs 5 0) (parts r bytes h).numbers

-- == the parts, laid one after the other ==

pub laid : (head tops mark b1 b2 b3 : List ℕ) → length head ≡ 19 → length tops ≡ 32 → length mark ≡ 64
    → b1 ≡ take 0 (replicate 115 0) ++ (head ++ drop (0 + length head) (replicate 115 0))
    → b2 ≡ take 19 b1 ++ (tops ++ drop (19 + length tops) b1)
    → b3 ≡ take 51 b2 ++ (mark ++ drop (51 + length mark) b2)
    → b3 ≡ head ++ (tops ++ mark)
laid head tops mark b1 b2 b3 lh lt lm e1 e2 e3 =
    let places : 19 + length tops ≡ 51 = omega (arith, lt) in
    let none : 0 + length head ≡ 19 = omega (arith, lh) in
    let s1 : b1 ≡ head ++ replicate 96 0 = e1 ∙ ap (λ n. head ++ drop n (replicate 115 0)) none ∙ ap (λ (x : List ℕ). head ++ x) (drop-replicate 19 115 0) in
    let s2 : b2 ≡ head ++ (tops ++ drop 51 b1) = e2 ∙ ap (λ x. x ++ (tops ++ drop (19 + length tops) b1)) (ap (take 19) s1 ∙ take_at head (replicate 96 0) 19 lh) ∙ ap (λ n. head ++ (tops ++ drop n b1)) places in
    let front : take 51 b2 ≡ head ++ tops =
    ap (take 51) (s2 ∙ sym (append_assoc head tops (drop 51 b1))) ∙ take_at (head ++ tops) (drop 51 b1) 51 (omega (arith, length-append head tops, lh, lt)) in
    let long : length b2 ≤ 115 =
    omega (arith, ap length s2, length-append head (tops ++ drop 51 b1), length-append tops (drop 51 b1), length-drop 51 b1, ap length s1, length-append head (replicate 96 0), lh, lt) in
    let end : drop (51 + length mark) b2 ≡ [] = nil_from_length (drop (51 + length mark) b2) (omega (arith, length-drop (51 + length mark) b2, long, lm)) in
    e3 ∙ ap₂ (λ x y. x ++ (mark ++ y)) front end ∙ append_assoc head tops (mark ++ []) ∙ ap (λ x. head ++ (tops ++ x)) (whole mark)
  where
    whole : (l : List ℕ) → l ++ [] ≡ l
    whole [] = refl
    whole (x ∷ l) = ap (λ (y : List ℕ). x ∷ y) (whole l)
