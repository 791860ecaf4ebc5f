use Rattle.std.proofs.Common.{◌≡◌, ◌∙◌, inl, inr, ◌++◌, List, ℕ, Some, None, drop, length, refl, sym, ap, append_assoc, true≢false}
use Rattle.std.proofs.lemmas.Bool.Decides.{Decides-eqb}
use Rattle.std.proofs.lemmas.Slice.Eq.{starts_is, strip_prefix_is}
use Rattle.bench_base.specs.declared.{words.Node.TheVariants.Verifier, events.Reply.Reply}
use Rattle.bench_base.specs.declared.events.Reply.TheVariants as r
use Rattle.script_text.specs.Texts.{text_of}
use Rattle.mail_manifest.specs.Texts.{no_piece_text}
use Rattle.trace_bench.specs.Stopping.{IsPrefixOf}
use Rattle.trace_extensions.specs.ManifestModel.{no_piece_front}
use Rattle.trace_extensions.proofs.Compared.{same_rest}
use Rattle.trace_extensions.proofs.ManifestModel.{front_text}
use Rattle.trace_extensions.proofs.Settled.{fronts, if_none, if_some}
use Rattle.trace_extensions.proofs.words.CheckerTracedExtension.failure_in.Goals as goal

-- bytes that begin what is behind the front begin the line
past_front : (number : ℕ) (prefix rest : List ℕ) (reply : Reply) → prefix ≡ no_piece_front number ++ rest → IsPrefixOf rest (text_of reply) → IsPrefixOf prefix (no_piece_text number reply)
past_front number prefix rest reply is p =
    (p.0, front_text number reply ∙ ap (λ (l : List ℕ). no_piece_front number ++ l) p.1 ∙ sym (append_assoc (no_piece_front number) rest p.0) ∙ ap (λ (l : List ℕ). l ++ p.0) (sym is))

pub returns-then-starts_with-clause-found : goal.returns-then-starts_with-clause-found
returns-then-starts_with-clause-found c =
    let front : c.as_slice.result.now ≡ no_piece_front c.args.step = c.as_slice.ensures ∙ c.no_piece-front.ensures in
    let is = (starts_is Decides-eqb c.as_slice.result.now c.args.prefix.now c.starts_with.result c.starts_with.ensures.value).0 c.if-starts_with.true in
    let rest = drop (length c.args.prefix.now) c.as_slice.result.now in (
      no_piece_text c.args.step (r.Power Verifier),
      (refl, inl refl),
      (
        rest ++ text_of (r.Power Verifier),
        front_text c.args.step (r.Power Verifier) ∙ ap (λ (l : List ℕ). l ++ text_of (r.Power Verifier)) (sym front ∙ is) ∙ append_assoc c.args.prefix.now rest (text_of (r.Power Verifier)),
      ),
    )

pub returns-in-Some-clause-found : goal.returns-in-Some-clause-found
returns-in-Some-clause-found c =
    let is = strip_prefix_is Decides-eqb c.args.prefix.now c.as_slice-2.result.now (Some c.in-Some.text) c.in-Some.ensures.cases in
    let front : c.as_slice-2.result.now ≡ no_piece_front c.args.step = c.as_slice-2.ensures ∙ c.no_piece-front.ensures in
    if_some c.failure_with.result _ _ (λ reply w. (no_piece_text c.args.step reply, (refl, w.1), past_front c.args.step c.args.prefix.now c.in-Some.text.now reply (is ∙ ap (λ (l : List ℕ). l ++ c.in-Some.text.now) front) w.0)) c.failure_with.ensures.found

pub returns-in-Some-clause-none : goal.returns-in-Some-clause-none
returns-in-Some-clause-none c =
    let is = strip_prefix_is Decides-eqb c.args.prefix.now c.as_slice-2.result.now (Some c.in-Some.text) c.in-Some.ensures.cases in
    let front : c.as_slice-2.result.now ≡ no_piece_front c.args.step = c.as_slice-2.ensures ∙ c.no_piece-front.ensures in
    if_none c.failure_with.result _ _ (λ never line reply fails p. never reply (
      p.0,
      same_rest (no_piece_front c.args.step) (text_of reply) (c.in-Some.text.now ++ p.0)
          (sym (front_text c.args.step reply) ∙ sym fails.0 ∙ p.1 ∙ ap (λ (l : List ℕ). l ++ p.0) (is ∙ ap (λ (l : List ℕ). l ++ c.in-Some.text.now) front) ∙ append_assoc (no_piece_front c.args.step) c.in-Some.text.now p.0),
    ) fails.1) c.failure_with.ensures.none

pub returns-in-None-clause-none : goal.returns-in-None-clause-none
returns-in-None-clause-none c = λ line reply fails p.
    let never = strip_prefix_is Decides-eqb c.args.prefix.now c.as_slice-2.result.now None c.in-None.ensures.cases in
    let long : c.as_slice-2.result.now ≡ no_piece_front c.args.step = c.as_slice-2.ensures ∙ c.no_piece-front.ensures in
    let front : c.as_slice.result.now ≡ no_piece_front c.args.step = c.as_slice.ensures ∙ c.no_piece-front.ensures in
    let within = starts_is Decides-eqb c.as_slice.result.now c.args.prefix.now c.starts_with.result c.starts_with.ensures.value in
    elim (fronts c.args.prefix.now (no_piece_front c.args.step) p.0 (text_of reply) (sym p.1 ∙ fails.0 ∙ front_text c.args.step reply)) [
      | inl w ↦ true≢false (sym (within.1 w.0 (front ∙ w.1)) ∙ c.if-starts_with.false)
      | inr w ↦ never w.0 (w.1 ∙ ap (λ (l : List ℕ). l ++ w.0) (sym long))
    ]
