use Rattle.std.proofs.Common.{inl, inr, ℕ, List, ◌++◌, true≢false, refl, sym, ap, ◌∙◌}
use Rattle.std.specs.Prelude.{codes}
use Rattle.std.proofs.lemmas.Bool.Decides.{Decides-eqb}
use Rattle.std.proofs.lemmas.Slice.Eq.{starts_is}
use Rattle.bench_base.specs.declared.events.Reply.{Reply}
use Rattle.mail_manifest.specs.Texts.{no_piece_text}
use Rattle.script_text.proofs.EachReply.{one_reply_of}
use Rattle.trace_bench.specs.Stopping.{IsPrefixOf}
use Rattle.trace_extensions.proofs.ManifestModel.{manifest_tells}
use Rattle.line_extensions.specs.declared.extension.Next.TheVariants.{Say}
use Rattle.trace_extensions.specs.ManifestModel.{ManifestFails, manifest_model}
use Rattle.trace_extensions.proofs.Settled.{fronts, settled_by, told_none, idle_say}
use Rattle.trace_extensions.proofs.words.CheckerTracedExtension.is_in_doubt.Goals as goal

-- the text of a failure of the verifier begins so
piece_begins : (n : ℕ) (x : Reply) → IsPrefixOf (codes "manifest no piece ") (no_piece_text n x)
unfolding no_piece_text
piece_begins n x = (_, refl)

pub returns-else-starts_with-clause-settled : goal.returns-else-starts_with-clause-settled
returns-else-starts_with-clause-settled c = λ no τ old new line text more steps did first desk are begins.
    let front : List ℕ = codes "manifest no piece " in
    let short = starts_is Decides-eqb c.as_slice-front.result.now c.args.prefix.now c.starts_with.result c.starts_with.ensures.value in
    let long = starts_is Decides-eqb c.args.prefix.now c.as_slice-front.result.now c.starts_with-else-starts_with.result c.starts_with-else-starts_with.ensures.value in
    let within : IsPrefixOf c.args.prefix.now front → ⊥ = λ p. true≢false (sym (short.1 p.0 (c.as_slice-front.ensures ∙ p.1)) ∙ c.if-starts_with.false) in
    let past : IsPrefixOf front c.args.prefix.now → ⊥ = λ p. true≢false (sym (long.1 p.0 (p.1 ∙ ap (λ (l : List ℕ). l ++ p.0) (sym c.as_slice-front.ensures))) ∙ no) in
    settled_by ManifestFails (manifest_model.texts new.desk) text c.args.prefix.now more steps are
    (λ n x fails. let p = piece_begins n x in elim (fronts c.args.prefix.now front begins.0 p.0 (sym begins.1 ∙ fails.0 ∙ p.1)) [ inl w ↦ within w | inr w ↦ past w ])
    (λ n x fails. let p = piece_begins n x in past (p.0, fails.0 ∙ p.1)) (manifest_tells one_reply_of τ old new line steps did)

pub returns-in-Say-clause-settled : goal.returns-in-Say-clause-settled
returns-in-Say-clause-settled c = λ no τ old new line text more steps did first desk are begins.
    told_none manifest_model τ old new line steps c.args.first.now ManifestFails c.args.prefix.now Say did first c.in-Say.is

pub returns-in-Say-clause-idle : goal.returns-in-Say-clause-idle
returns-in-Say-clause-idle c = λ no none τ old new line steps next did first desk.
    idle_say manifest_model τ old new line steps c.args.first.now next did first c.in-Say.is tt
