-- A script is checked, one line after another.
use Rattle.std.proofs.Common.{◌≡◌, ◌≢◌, inl, inr, ℕ, ◌+◌, ◌<◌, min, Bool, true, false, ◌&&◌, true≢false, List, [], ◌∷◌, ◌++◌, length, take, flat_map, codes, Option, Result, Ok, Err, IfOk, OnOk, refl, sym, ◌∙◌, ap, subst, arith, append_assoc, append-nil}
use Rattle.std.proofs.lemmas.Grind.{flat_map-append}
use Rattle.std.proofs.lemmas.List.{length-append, length-take, flat_map_more}
use Rattle.std.proofs.KnownBytes.{Consumes-nil, Consumes-trans, Appends-nil, Appends-trans}
use Rattle.std.specs.Io.KnownBytes.{Consumes, Appends, IsAtEnd}
use Rattle.std.specs.List.{AllByRecursion}
use Rattle.line_runs.specs.declared.lines.LineRead.{LineRead}
use Rattle.line_runs.specs.declared.lines.LineRead.TheVariants as read
use Rattle.line_runs.specs.Lines.{ended, ReadsLine}
use Rattle.script_check.specs.Checks as has
use Rattle.script_check.specs.Checks.{Report, at_line, texts_of, LineHas, LinesHave, IsPassed, EndHas, Writes, Checks}
use Rattle.script_check.specs.Texts.{line_text}
use Rattle.script_check.specs.Turns.{LineSteps, LooksAt, LooksBehind, LooksOver, Passes, Ends, Steps, Progress}
use Rattle.script_check.specs.declared.{fault.Fault.Fault, script.CheckFail.CheckFail, script.Checked.Checked, script.Step.Step, script.Step.TheVariants.On, script.Step.TheVariants.Over}
use Rattle.script_check.specs.declared.fault.Fault.TheVariants as fault

-- == what is written ==

both_true : (x y : Bool) → x ≡ true → y ≡ true → x && y ≡ true
both_true true true a b = refl
both_true true false a b = b
both_true false y a b = a

both_parts : (x y : Bool) → x && y ≡ true → (x ≡ true) × (y ≡ true)
both_parts true y is = (refl, is)
both_parts false y is = absurd (true≢false (sym is))

pub and_false : (x : Bool) → false ≡ x && false
and_false true = refl
and_false false = refl

none_of_both : (a b : List Report) → a ++ b ≡ [] → (a ≡ []) × (b ≡ [])
none_of_both [] b is = (refl, is)
none_of_both (r ∷ a) b is = let wrong : r ∷ (a ++ b) ≡ [] = is in absurd (cc)

pub writes_none : (t : Option (List ℕ)) → Writes [] true t t
writes_none t = record { written = Appends-nil t; right = (λ is. refl, λ is. refl) }

pub writes_one : (number : ℕ) (f : Fault) (t0 t1 : Option (List ℕ)) → Appends t0 t1 (line_text number f) → Writes (at_line number f ∷ []) false t0 t1
writes_one number f t0 t1 told = record {
  written = subst (λ (l : List ℕ). Appends t0 t1 l) (sym (append-nil (line_text number f))) told;
  right = (λ is. absurd (true≢false (sym is)), λ is. let wrong : at_line number f ∷ [] ≡ [] = is in absurd (cc));
}

pub writes_more : (a b : List Report) (x y z : Bool) (t0 t1 t2 : Option (List ℕ)) → Writes a x t0 t1 → Writes b y t1 t2 → z ≡ x && y → Writes (a ++ b) z t0 t2
writes_more a b x y z t0 t1 t2 w u is = record {
  written = subst (λ (l : List ℕ). Appends t0 t2 l) (sym (flat_map-append (λ (r : Report). line_text r.line r.fault) a b)) (Appends-trans t0 t1 t2 (texts_of a) (texts_of b) w.written u.written);
  right = (
    λ right. let both = both_parts x y (sym is ∙ right) in ap (λ (l : List Report). l ++ b) (w.right.0 both.0) ∙ u.right.0 both.1,
    λ none. let both = none_of_both a b none in is ∙ both_true x y (w.right.1 both.0) (u.right.1 both.1),
  );
}

-- == lines that were passed ==

have_more : (number : ℕ) (lines : List (List ℕ)) (line : List ℕ) (a b : List Report) → LinesHave number lines a → LineHas (number + length lines) line b → LinesHave number (lines ++ line ∷ []) (a ++ b)
have_more number [] line a b have has =
    (b, [], ap (λ (l : List Report). l ++ b) have ∙ sym (append-nil b), subst (λ (n : ℕ). LineHas n line b) (omega arith) has, refl)
have_more number (l ∷ lines) line a b have has =
    let w = have in
    (w.0, w.1 ++ b, ap (λ (r : List Report). r ++ b) w.2 ∙ append_assoc w.0 w.1 b, w.3, have_more (number + 1) lines line w.1 b w.4 (subst (λ (n : ℕ). LineHas n line b) (omega arith) has))

each_more : (a : List (List ℕ)) (line : List ℕ) → AllByRecursion IsPassed a → IsPassed line → AllByRecursion IsPassed (a ++ line ∷ [])
each_more [] line all is = (is, tt)
each_more (l ∷ a) line all is = (all.0, each_more a line all.1 is)

pub progress_none : (l t : Option (List ℕ)) → Progress 0 true l l t t
progress_none l t = record { passed = []; each = tt; number = refl; consumed = Consumes-nil l; reports = []; have = refl; writes = writes_none t }

module _ (count : ℕ) (x y z : Bool) (l0 l1 l2 t0 t1 t2 : Option (List ℕ)) (p : Progress count x l0 l1 t0 t1) (is : z ≡ x && y) where
  pub progress_more : Passes (count + 1) y l1 l2 t1 t2 → Progress (count + 1) z l0 l2 t0 t2
  progress_more n = record {
    passed = p.passed ++ n.line ∷ [];
    each = each_more p.passed n.line p.each n.passed;
    number = length-append p.passed (n.line ∷ []) ∙ ap (λ (i : ℕ). i + 1) p.number;
    consumed = subst (λ (b : List ℕ). Consumes l0 l2 b) (flat_map_more ended [] p.passed n.line) (Consumes-trans l0 l1 l2 (flat_map ended p.passed) (ended n.line) p.consumed n.consumed);
    reports = p.reports ++ n.looks.reports;
    have = have_more 1 p.passed n.line p.reports n.looks.reports p.have (subst (λ (i : ℕ). LineHas i n.line n.looks.reports) (omega (arith, p.number)) n.looks.has);
    writes = writes_more p.reports n.looks.reports x y z t0 t1 t2 p.writes n.looks.writes is;
  }

  pub checks : Ends (count + 1) y l1 l2 t1 t2 → (c : Checked) → c.is_well_formed ≡ z → c.lines ≡ min (count + 1) 1000000 → Checks c l0 l2 t0 t2
  checks e c same lines = record {
    bytes = flat_map ended p.passed ++ e.bytes;
    consumed = Consumes-trans l0 l1 l2 (flat_map ended p.passed) e.bytes p.consumed e.consumed;
    reports = p.reports ++ e.reports;
    has = record {
      passed = p.passed;
      each = p.each;
      before = p.reports;
      have = p.have;
      rest = e.bytes;
      last = e.reports;
      end = subst (λ (i : ℕ). EndHas (i + 1) (IsAtEnd l2) e.bytes e.reports) (sym p.number) e.end;
      bytes_are = refl;
      reports_are = refl;
      lines_are = lines ∙ ap (λ (i : ℕ). min (i + 1) 1000000) (sym p.number);
    };
    writes = writes_more p.reports e.reports x y c.is_well_formed t0 t1 t2 p.writes e.writes (same ∙ is);
  }

-- == one line ==

-- what was taken of a source for a line that was read so
abbrev pub ReadAs : Option (List ℕ) → Option (List ℕ) → List ℕ → LineRead → Type 0
ReadAs left0 left1 buf r = (bytes : List ℕ) × Consumes left0 left1 bytes × ReadsLine r bytes buf (IsAtEnd left1)

-- the check is over with one fault
module _ (number line : ℕ) (f : Fault) (l0 l1 t0 t1 : Option (List ℕ)) where
  pub over_told : (bytes : List ℕ) → Consumes l0 l1 bytes → EndHas number (IsAtEnd l1) bytes (at_line line f ∷ []) → (r : Result Step CheckFail) → IfOk r (λ s. s ≡ Over false) → OnOk r (Appends t0 t1 (line_text line f))
      → IfOk r (Steps number l0 l1 t0 t1)
  over_told bytes consumed end (Ok step) is told =
      subst (λ (s : Step). Steps number l0 l1 t0 t1 s) (sym is) (record { bytes = bytes; consumed = consumed; reports = at_line line f ∷ []; end = end; writes = writes_one line f t0 t1 told })
  over_told bytes consumed end (Err fail) is told = tt

module _ (number : ℕ) (buf : List ℕ) (l0 l1 t0 t1 : Option (List ℕ)) (r : Result Step CheckFail) where
  pub over_long : ReadAs l0 l1 buf read.Long → IfOk r (λ s. s ≡ Over false) → OnOk r (Appends t0 t1 (line_text number fault.Long)) → IfOk r (Steps number l0 l1 t0 t1)
  over_long taken = over_told number number fault.Long l0 l1 t0 t1 taken.0 taken.1 (has.long taken.2.0 taken.2.1) r

  pub over_missing : ReadAs l0 l1 buf read.End → IfOk r (λ s. s ≡ Over false) → OnOk r (Appends t0 t1 (line_text number fault.NoEnd)) → IfOk r (Steps number l0 l1 t0 t1)
  over_missing taken = over_told number number fault.NoEnd l0 l1 t0 t1 taken.0 taken.1 (has.missing taken.2.0 taken.2.1) r

  pub over_unended : (len : ℕ) (is_ended : Bool) → is_ended ≡ false → ReadAs l0 l1 buf (read.Line len is_ended) → take len buf ≡ codes "end" → IfOk r (λ s. s ≡ Over false)
      → OnOk r (Appends t0 t1 (line_text number fault.NoLineEnd)) → IfOk r (Steps number l0 l1 t0 t1)
  over_unended len is_ended same taken is =
      let w = subst (λ (b : Bool). ReadAs l0 l1 buf (read.Line len b)) same taken in
      over_told number number fault.NoLineEnd l0 l1 t0 t1 w.0 w.1 (has.unended (w.2.2.0 ∙ is) w.2.2.2) r

-- a line that is not `end`
module _ (number : ℕ) (buf : List ℕ) (len : ℕ) (l0 l1 t0 t1 : Option (List ℕ)) (other : take len buf ≢ codes "end") where
  passed_line : ReadAs l0 l1 buf (read.Line len true) → IsPassed (take len buf)
  passed_line taken = record { one = taken.2.1; short = omega (arith, taken.2.0, length-take len buf); not_end = other }

  last_line : ReadAs l0 l1 buf (read.Line len false) → IsPassed (take len buf)
  last_line taken = record { one = taken.2.1; short = omega (arith, taken.2.0, length-take len buf); not_end = other }

  of_step : (is_ended : Bool) → ReadAs l0 l1 buf (read.Line len is_ended) → (s : Step) → LineSteps number (take len buf) is_ended t0 t1 s → Steps number l0 l1 t0 t1 s
  of_step true taken (On right) looks = record { line = take len buf; passed = passed_line taken; consumed = subst (λ (b : List ℕ). Consumes l0 l1 b) taken.2.2 taken.1; looks = looks }
  of_step true taken (Over right) looks = absurd looks
  of_step false taken (On right) looks = absurd looks
  of_step false taken (Over right) looks = record {
    bytes = take len buf;
    consumed = subst (λ (b : List ℕ). Consumes l0 l1 b) taken.2.2.0 taken.1;
    reports = looks.0 ++ (at_line number fault.NoLineEnd ∷ at_line (number + 1) fault.NoEnd ∷ []);
    end = has.last looks.0 (last_line taken) taken.2.2.1 looks.1 taken.2.2.2;
    writes = looks.2;
  }

  pub line_steps : (is_ended : Bool) → ReadAs l0 l1 buf (read.Line len is_ended) → (r : Result Step CheckFail) → IfOk r (LineSteps number (take len buf) is_ended t0 t1) → IfOk r (Steps number l0 l1 t0 t1)
  line_steps is_ended taken (Ok step) looks = of_step is_ended taken step looks
  line_steps is_ended taken (Err fail) looks = tt

-- a last line without a line end
writes_two : (number : ℕ) (t0 t1 : Option (List ℕ)) → Appends t0 t1 (line_text number fault.NoLineEnd ++ line_text (number + 1) fault.NoEnd)
    → Writes (at_line number fault.NoLineEnd ∷ at_line (number + 1) fault.NoEnd ∷ []) false t0 t1
writes_two number t0 t1 told = record {
  written = subst (λ (l : List ℕ). Appends t0 t1 (line_text number fault.NoLineEnd ++ l)) (sym (append-nil (line_text (number + 1) fault.NoEnd))) told;
  right = (λ is. absurd (true≢false (sym is)), λ is. let wrong : at_line number fault.NoLineEnd ∷ at_line (number + 1) fault.NoEnd ∷ [] ≡ [] = is in absurd (cc));
}

pub last_steps : (number : ℕ) (line : List ℕ) (right : Bool) (t0 t1 t2 : Option (List ℕ)) → LooksAt number line right t0 t1 → (r : Result Step CheckFail) → IfOk r (λ s. s ≡ Over false)
    → OnOk r (Appends t1 t2 (line_text number fault.NoLineEnd ++ line_text (number + 1) fault.NoEnd)) → IfOk r (LineSteps number line false t0 t2)
last_steps number line right t0 t1 t2 looks (Ok step) is told = subst (λ (s : Step). LineSteps number line false t0 t2 s) (sym is) (
  looks.reports,
  looks.has,
  writes_more looks.reports (at_line number fault.NoLineEnd ∷ at_line (number + 1) fault.NoEnd ∷ []) right false false t0 t1 t2 looks.writes (writes_two number t1 t2 told) (and_false right),
)
last_steps number line right t0 t1 t2 looks (Err fail) is told = tt

pub both_told : (a b : List ℕ) (t0 t1 t2 : Option (List ℕ)) → Appends t0 t1 a → (r : Result Step CheckFail) → OnOk r (Appends t1 t2 b) → OnOk r (Appends t0 t2 (a ++ b))
both_told a b t0 t1 t2 first (Ok step) second = Appends-trans t0 t1 t2 a b first second
both_told a b t0 t1 t2 first (Err fail) second = tt

-- `end`, and what is after it
ends_with : (number : ℕ) (buf : List ℕ) (len : ℕ) (is_ended right : Bool) (l0 l1 l2 t0 t1 : Option (List ℕ)) → is_ended ≡ true → ReadAs l0 l1 buf (read.Line len is_ended) → take len buf ≡ codes "end"
    → LooksBehind (number + 1) right l1 l2 t0 t1 → Ends number right l0 l2 t0 t1
ends_with number buf len is_ended right l0 l1 l2 t0 t1 same taken is b =
    let w = subst (λ (e : Bool). ReadAs l0 l1 buf (read.Line len e)) same taken in
    let first : w.0 ≡ ended (codes "end") = w.2.2 ∙ ap ended is in
    record {
      bytes = w.0 ++ b.bytes;
      consumed = Consumes-trans l0 l1 l2 w.0 b.bytes w.1 b.consumed;
      reports = b.reports;
      end = elim b.so [
        | inl none ↦
            subst (λ (r : List Report). EndHas number (IsAtEnd l2) (w.0 ++ b.bytes) r) (sym none.2)
            (has.ends (ap (λ (x : List ℕ). w.0 ++ x) none.0 ∙ append-nil w.0 ∙ first) none.1)
        | inr some ↦
            subst (λ (r : List Report). EndHas number (IsAtEnd l2) (w.0 ++ b.bytes) r) (sym some.1)
            (has.goes_on b.bytes (ap (λ (x : List ℕ). x ++ b.bytes) first) some.0)
      ];
      writes = b.writes;
    }

-- nothing is after `end`
pub nothing_behind : (number : ℕ) (buf : List ℕ) (l0 l1 t0 : Option (List ℕ)) → ReadAs l0 l1 buf read.End → LooksBehind number true l0 l1 t0 t0
nothing_behind number buf l0 l1 t0 r = record { bytes = r.0; consumed = r.1; reports = []; so = inl (r.2.0, r.2.1, refl); writes = writes_none t0 }

-- something is after `end`
module _ (number : ℕ) (buf : List ℕ) (l0 l1 t0 t1 : Option (List ℕ)) where
  module _ (result : Result Bool CheckFail) (wrong : IfOk result (λ right. right ≡ false)) (told : OnOk result (Appends t0 t1 (line_text number fault.BehindEnd))) where
    something : (bytes : List ℕ) → Consumes l0 l1 bytes → 0 < length bytes → IfOk result (λ right. LooksBehind number right l0 l1 t0 t1)
    something bytes consumed more = by result wrong told
      where
        by : (r : Result Bool CheckFail) → IfOk r (λ right. right ≡ false) → OnOk r (Appends t0 t1 (line_text number fault.BehindEnd)) → IfOk r (λ right. LooksBehind number right l0 l1 t0 t1)
        by (Ok right) is put = subst (λ (b : Bool). LooksBehind number b l0 l1 t0 t1) (sym is) (record {
          bytes = bytes;
          consumed = consumed;
          reports = at_line number fault.BehindEnd ∷ [];
          so = inr (more, refl);
          writes = writes_one number fault.BehindEnd t0 t1 put;
        })
        by (Err fail) is put = tt

    some_bytes : (len : ℕ) (is_ended : Bool) (r : ReadAs l0 l1 buf (read.Line len is_ended)) → 0 < length r.0
    some_bytes len true r = let long : length r.0 ≡ length (take len buf) + 1 = ap (λ (l : List ℕ). length l) r.2.2 ∙ length-append (take len buf) (10 ∷ []) in omega (arith, long)
    some_bytes len false r = let long : length r.0 ≡ length (take len buf) = ap (λ (l : List ℕ). length l) r.2.2.0 in omega (arith, long, r.2.2.1)

    pub line_behind : (len : ℕ) (is_ended : Bool) → ReadAs l0 l1 buf (read.Line len is_ended) → IfOk result (λ right. LooksBehind number right l0 l1 t0 t1)
    line_behind len is_ended r = something r.0 r.1 (some_bytes len is_ended r)

    pub long_behind : ReadAs l0 l1 buf read.Long → IfOk result (λ right. LooksBehind number right l0 l1 t0 t1)
    long_behind r = something r.0 r.1 (omega (arith, r.2.1))

-- `end` was read, and what is after it was looked at
pub over_end : (number : ℕ) (buf : List ℕ) (len : ℕ) (is_ended : Bool) (l0 l1 l2 t0 t1 : Option (List ℕ)) → is_ended ≡ true → ReadAs l0 l1 buf (read.Line len is_ended) → take len buf ≡ codes "end"
    → (r : Result Step CheckFail) → IfOk r (LooksOver (number + 1) l1 l2 t0 t1) → IfOk r (Steps number l0 l2 t0 t1)
over_end number buf len is_ended l0 l1 l2 t0 t1 same taken is (Ok (On right)) looks = absurd looks
over_end number buf len is_ended l0 l1 l2 t0 t1 same taken is (Ok (Over right)) looks = ends_with number buf len is_ended right l0 l1 l2 t0 t1 same taken is looks
over_end number buf len is_ended l0 l1 l2 t0 t1 same taken is (Err fail) looks = tt

-- a million lines were passed
pub too_long : (count : ℕ) (right : Bool) (l0 l1 t0 t1 t2 : Option (List ℕ)) → Progress count right l0 l1 t0 t1 → count ≡ 1000000 → Appends t1 t2 (line_text 1000000 fault.TooLong) → (c : Checked) → c.is_well_formed ≡ false → c.lines ≡ 1000000
    → Checks c l0 l1 t0 t2
too_long count right l0 l1 t0 t1 t2 p all told c wrong lines =
    checks count right false false l0 l1 l1 t0 t1 t2 p (and_false right)
    (record { bytes = []; consumed = Consumes-nil l1; reports = at_line 1000000 fault.TooLong ∷ []; end = has.too_long refl (omega (arith, all)); writes = writes_one 1000000 fault.TooLong t1 t2 told })
    c wrong (omega (arith, all, lines))
