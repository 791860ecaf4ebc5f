-- Lines that were taken of the report, one after another.
use Rattle.std.proofs.Common.{◌≡◌, ℕ, ◌+◌, List, [], ◌∷◌, ◌++◌, length, flat_map, Bool, true, Option, Result, Ok, Err, refl, sym, ◌∙◌, ap, subst, append-nil, arith}
use Rattle.std.proofs.lemmas.Grind.{flat_map-append}
use Rattle.std.proofs.lemmas.List.{length-append}
use Rattle.std.proofs.KnownBytes.{Consumes-nil, Consumes-trans}
use Rattle.std.specs.Io.KnownBytes.{Consumes}
use Rattle.std.specs.List.{AllByRecursion}
use Rattle.line_runs.specs.declared.lines.LineRead.TheVariants as read
use Rattle.line_runs.specs.Lines.{IsOneLine, ended}
use Rattle.trace_runs.specs.Counted.{TookLines, HasAnswers}
use Rattle.trace_runs.specs.Takes.{EndsAfter, AnswerTakes, answers_at, answers_behind}
use Rattle.trace_runs.specs.declared.{verdict.Ending.Ending, verdict.Verdict.Verdict}
use Rattle.trace_runs.proofs.WasRead.{ReadAs}

each_of_both : (a b : List (List ℕ)) → AllByRecursion IsOneLine a → AllByRecursion IsOneLine b → AllByRecursion IsOneLine (a ++ b)
each_of_both [] b one two = two
each_of_both (line ∷ a) b one two = (one.0, each_of_both a b one.1 two)

pub took_none : (left : Option (List ℕ)) → TookLines 0 left left
took_none left = record { lines = []; each = tt; many = refl; taken = Consumes-nil left }

pub took_more : (a b c : Option (List ℕ)) (m k n : ℕ) → TookLines m a b → TookLines k b c → n ≡ m + k → TookLines n a c
took_more a b c m k n t u is = record {
  lines = t.lines ++ u.lines;
  each = each_of_both t.lines u.lines t.each u.each;
  many = length-append t.lines u.lines ∙ ap (λ (i : ℕ). i + length u.lines) t.many ∙ ap (λ (i : ℕ). m + i) u.many ∙ sym is;
  taken = subst (λ (x : List ℕ). Consumes a c x) (sym (flat_map-append ended t.lines u.lines)) (Consumes-trans a b c (flat_map ended t.lines) (flat_map ended u.lines) t.taken u.taken);
}

-- the end of the report was read
pub took_end : (a b : Option (List ℕ)) (buf : List ℕ) → ReadAs a b buf read.End → TookLines 0 a b
took_end a b buf r = record { lines = []; each = tt; many = refl; taken = subst (λ (x : List ℕ). Consumes a b x) r.2.0 r.1 }

took_line : (a b : Option (List ℕ)) (line bytes : List ℕ) → Consumes a b bytes → IsOneLine line → bytes ≡ ended line → TookLines 1 a b
took_line a b line bytes consumed one is = record {
  lines = line ∷ [];
  each = (one, tt);
  many = refl;
  taken = subst (λ (x : List ℕ). Consumes a b x) (is ∙ sym (append-nil (ended line))) consumed;
}

-- a line was read for an event, and nothing more
pub line_taken : (a b c : Option (List ℕ)) (buf : List ℕ) (len : ℕ) (is_ended : Bool) (result : Result ℕ Verdict) → is_ended ≡ true → ReadAs a b buf (read.Line len is_ended) → AnswerTakes 0 b c result
    → AnswerTakes 1 a c result
line_taken a b c buf len is_ended result same taken then =
    let r = subst (λ (e : Bool). ReadAs a b buf (read.Line len e)) same taken in
    by (took_line a b _ r.0 r.1 r.2.1 r.2.2) result then
  where
    by : TookLines 1 a b → (x : Result ℕ Verdict) → AnswerTakes 0 b c x → AnswerTakes 1 a c x
    by line (Ok used) t = took_more a b c 1 0 1 line t refl
    by line (Err v) t = λ end is. let w = t end is in (w.0, took_more a b c 1 0 1 line w.1 refl)

-- what a script that ended so took of the report
pub took_at_end : (end : Ending) (count : ℕ) (a b : Option (List ℕ)) (v : Verdict) → count ≡ answers_at end → EndsAfter end count a b v → HasAnswers (answers_behind v) a b v
took_at_end end count a b v is ends = λ e lawful.
    let w = ends e lawful in
    subst (λ (n : ℕ). TookLines n a b) (is ∙ ap answers_at (sym w.0) ∙ sym (ap answers_behind lawful)) w.1

-- the lines before the end of a script, and those that it took
pub answers_with : (a b c : Option (List ℕ)) (m k n : ℕ) (v : Verdict) → TookLines m a b → HasAnswers (answers_behind v) b c v → k ≡ answers_behind v → n ≡ m + k → HasAnswers n a c v
answers_with a b c m k n v before ends same is = λ end lawful. took_more a b c m k n before (subst (λ (i : ℕ). TookLines i b c) (sym same) (ends end lawful)) is

pub answers_then : (a b c : Option (List ℕ)) (m : ℕ) (end : Ending) (v : Verdict) → TookLines m a b → EndsAfter end 0 b c v → HasAnswers m a c v
answers_then a b c m end v before ends = λ e lawful. took_more a b c m 0 m before (ends e lawful).1 (omega arith)
