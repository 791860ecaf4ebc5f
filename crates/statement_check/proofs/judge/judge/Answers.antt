use Rattle.std.proofs.Common.{◌≡◌, Result, Ok, Err, arith}
use Rattle.std.specs.Prelude.{IfOk, OnErr}
use Rattle.statement_check.proofs.Turns.{progress_more, judged, unread}
use Rattle.statement_check.proofs.judge.judge.Goals as goal

on_err : {T E : Type 0} (r : Result T E) (P : Type 0) → P → OnErr r P
on_err (Ok x) P h = tt
on_err (Err e) P h = h

if_ok : {T E : Type 0} (r : Result T E) (P Q : T → Type 0) → ((x : T) → P x → Q x) → IfOk r P → IfOk r Q
if_ok (Ok x) P Q f h = f x h
if_ok (Err e) P Q f h = tt

if_err : {T E : Type 0} (r : Result T E) (P Q : Type 0) → (P → Q) → OnErr r P → OnErr r Q
if_err (Ok x) P Q f h = tt
if_err (Err e) P Q f h = f h

pub returns-in_err-next-clause-unread : goal.returns-in_err-next-clause-unread
returns-in_err-next-clause-unread g c =
    on_err c.from_residual.result _ (unread c.loop-count.count c.loop-count.place _ _ _ (omega (arith, c.loop-count-test.true)) c.loop-count.invariant.progress c.in_err-next.ensures.part)

pub returns-in-Ends-clause-judged : goal.returns-in-Ends-clause-judged
returns-in-Ends-clause-judged g c =
    judged c.in-Ends.verdict c.loop-count.count c.loop-count.place _ _ _ c.loop-count.invariant.progress (rw c.in-Ends.is at c.in_ok-next.ensures.turned)

pub loop-count-preserved : goal.loop-count-preserved
loop-count-preserved g c = record {
  progress = progress_more c.loop-count.count c.loop-count.place c.in-Goes.next _ _ _ c.loop-count.invariant.progress (rw c.in-Goes.is at c.in_ok-next.ensures.turned);
  later = omega (arith, c.loop-count.invariant.later, c.in_ok-next.ensures.cause.later);
}

pub returns-clause-judged : goal.returns-clause-judged
returns-clause-judged g c =
    let all : c.loop-count.count ≡ 10002 = omega (arith, c.loop-count-test.false, c.loop-count.auto.count-end) in
    if_ok c.take_last.result _ _ (λ v ends. judged v c.loop-count.count c.loop-count.place _ _ _ c.loop-count.invariant.progress (rw (← all) at ends)) c.take_last.ensures.ends

pub returns-clause-unread : goal.returns-clause-unread
returns-clause-unread g c =
    if_err c.take_last.result _ _ (λ part. unread c.loop-count.count c.loop-count.place _ _ _ (omega (arith, c.loop-count.auto.count-end)) c.loop-count.invariant.progress part) c.take_last.ensures.part
