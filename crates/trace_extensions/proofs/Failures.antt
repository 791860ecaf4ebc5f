-- What a failure of a node is not, and its text; and which event is asked for.
use Rattle.std.proofs.Common.{◌≡◌, inl, inr, ℕ, List, [], get_or, sym, ap, ◌∙◌, arith}
use Rattle.bench_base.specs.declared.{words.Node.Node, events.Event.Event, events.Reply.Reply}
use Rattle.bench_base.specs.declared.events.Reply.TheVariants as r
use Rattle.bench_base.specs.Questions.{IsAccepted, IsSentDebit}
use Rattle.script_text.specs.Texts.{reply_words, text_of}
use Rattle.line_extensions.specs.declared.{extension.Next.TheVariants.Step, extension.Next.TheVariants.Say}
use Rattle.trace_bench.specs.Prefixes.{IsFailure}
use Rattle.trace_extensions.specs.Models.{AreFailures}
use Rattle.trace_extensions.proofs.Settled.{TellsOf}

-- == what is asked for ==

-- what answers asks for no event
pub no_event : (e : Event) → Step e ≡ Say → ⊥
no_event e is = cc is

-- a step is of one event
pub same_event : (e d : Event) → Step e ≡ Step d → e ≡ d
same_event e d is = cc is

-- == failures ==

-- an acceptance is no failure
pub accepted_fine : (reply : Reply) → IsAccepted reply → (m : Node) → IsFailure reply m → ⊥
accepted_fine reply is m (inl p) = let two : r.Accepted is.0 is.1 is.2 is.3 ≡ r.Power m = sym is.4 ∙ p in cc
accepted_fine reply is m (inr p) = let two : r.Accepted is.0 is.1 is.2 is.3 ≡ r.Fault m = sym is.4 ∙ p in cc

-- a debit that was sent is no failure
pub sent_fine : (reply : Reply) → IsSentDebit reply → (m : Node) → IsFailure reply m → ⊥
sent_fine reply is m (inl p) = let two : r.SentDebit is.0 is.1 ≡ r.Power m = sym is.2 ∙ p in cc
sent_fine reply is m (inr p) = let two : r.SentDebit is.0 is.1 ≡ r.Fault m = sym is.2 ∙ p in cc

-- the text of a failure is not empty
no_empty : (m : Node) (reply : Reply) → [] ≡ text_of reply → IsFailure reply m → ⊥
unfolding reply_words
no_empty m reply is (inl p) = let first : 0 ≡ 112 = ap (λ (l : List ℕ). get_or l 0 0) is ∙ ap (λ (x : Reply). get_or (text_of x) 0 0) p in omega (arith, first)
no_empty m reply is (inr p) = let first : 0 ≡ 102 = ap (λ (l : List ℕ). get_or l 0 0) is ∙ ap (λ (x : Reply). get_or (text_of x) 0 0) p in omega (arith, first)

-- where a line tells a failure of this node by its text
pub text_failures : (m : Node) → AreFailures (λ number line reply. TellsOf m line reply)
text_failures m = record {
  node = m;
  fails = λ number line reply told. told.1;
  one_line = λ number line other reply one two. one.0 ∙ sym two.0;
  none = λ number reply told. no_empty m reply told.0 told.1;
}
