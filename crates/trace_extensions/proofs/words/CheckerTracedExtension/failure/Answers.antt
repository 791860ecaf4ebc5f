use Rattle.std.proofs.Common.{◌≡◌, ◌∙◌, ◌++◌, List, ℕ, Some, None, sym, ap}
use Rattle.std.proofs.lemmas.Bool.Decides.{Decides-eqb}
use Rattle.std.proofs.lemmas.Slice.Eq.{strip_prefix_is}
use Rattle.bench_base.specs.declared.{words.Node.TheVariants.Verifier, events.Reply.Reply}
use Rattle.script_text.specs.Texts.{text_of}
use Rattle.mail_manifest.specs.Texts.{no_piece_text}
use Rattle.trace_bench.specs.Prefixes.{IsFailure}
use Rattle.trace_extensions.specs.ManifestModel.{no_piece_front}
use Rattle.trace_extensions.proofs.Compared.{same_rest}
use Rattle.trace_extensions.proofs.ManifestModel.{front_text}
use Rattle.trace_extensions.proofs.Settled.{if_none, if_some}
use Rattle.trace_extensions.proofs.words.CheckerTracedExtension.failure.Goals as goal

pub returns-in-Some-clause-found : goal.returns-in-Some-clause-found
returns-in-Some-clause-found c =
    let is = strip_prefix_is Decides-eqb c.args.line.now c.as_slice.result.now (Some c.in-Some.text) c.in-Some.ensures.cases in
    let front : c.as_slice.result.now ≡ no_piece_front c.args.step = c.as_slice.ensures ∙ c.no_piece.ensures in
    if_some c.failure_of.result (λ reply. (c.in-Some.text.now ≡ text_of reply) × IsFailure reply Verifier) (λ reply. (c.args.line.now ≡ no_piece_text c.args.step reply) × IsFailure reply Verifier) (λ reply w. (is ∙ ap (λ (l : List ℕ). l ++ c.in-Some.text.now) front ∙ ap (λ (l : List ℕ). no_piece_front c.args.step ++ l) w.0 ∙ sym (front_text c.args.step reply), w.1)) c.failure_of.ensures.found

pub returns-in-Some-clause-none : goal.returns-in-Some-clause-none
returns-in-Some-clause-none c =
    let is = strip_prefix_is Decides-eqb c.args.line.now c.as_slice.result.now (Some c.in-Some.text) c.in-Some.ensures.cases in
    let front : c.as_slice.result.now ≡ no_piece_front c.args.step = c.as_slice.ensures ∙ c.no_piece.ensures in
    if_none c.failure_of.result ((reply : Reply) → c.in-Some.text.now ≡ text_of reply → IsFailure reply Verifier → ⊥) ((reply : Reply) → (c.args.line.now ≡ no_piece_text c.args.step reply) × IsFailure reply Verifier → ⊥) (λ none reply fails.
    none reply (same_rest (no_piece_front c.args.step) c.in-Some.text.now (text_of reply) (sym (is ∙ ap (λ (l : List ℕ). l ++ c.in-Some.text.now) front) ∙ fails.0 ∙ front_text c.args.step reply)) fails.1)
    c.failure_of.ensures.none

pub returns-in-None-clause-none : goal.returns-in-None-clause-none
returns-in-None-clause-none c = λ reply fails.
    let never = strip_prefix_is Decides-eqb c.args.line.now c.as_slice.result.now None c.in-None.ensures.cases in
    let front : c.as_slice.result.now ≡ no_piece_front c.args.step = c.as_slice.ensures ∙ c.no_piece.ensures in
    never (text_of reply) (fails.0 ∙ front_text c.args.step reply ∙ ap (λ (l : List ℕ). l ++ text_of reply) (sym front))
