use Rattle.std.proofs.Common.{◌++◌, ◌∷◌, [], ◌∙◌, ap, List, ℕ, take, Result, Ok, Err}
use Rattle.std.specs.Prelude.{OnErr}
use Rattle.line_extensions.proofs.Texts.{cut_off}
use Rattle.line_extensions.proofs.replying.put_line.Goals as goal

on_err : {A E P Q : Type 0} (r : Result A E) → (P → Q) → OnErr r P → OnErr r Q
on_err (Ok x) f h = h
on_err (Err e) f h = f h

pub returns-clause-err : goal.returns-clause-err
returns-clause-err g c =
    on_err c.put_text.result (λ w. (
      take w.0 c.as_slice.result.now,
      w.2,
      cut_off _ _ w.0 w.1 (c.as_slice.ensures ∙ c.push.ensures ∙ ap (λ (t : List ℕ). t ++ 10 ∷ []) c.put_reply.ensures.value),
    )) c.put_text.ensures.err
