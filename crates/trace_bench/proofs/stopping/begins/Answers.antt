use Rattle.std.proofs.Common.{◌≡◌, length, drop, sym, ◌∙◌}
use Rattle.std.proofs.lemmas.Bool.Decides.{Decides-eqb}
use Rattle.std.proofs.lemmas.Slice.Eq.{starts_is}
use Rattle.script_text.specs.Texts.{text_of}
use Rattle.trace_bench.proofs.stopping.begins.Goals as goal

pub returns-clause-exact : goal.returns-clause-exact
returns-clause-exact c =
    let prefix = c.args.prefix.now in
    let same : c.as_slice.result.now ≡ text_of c.args.reply.now = c.as_slice.ensures ∙ c.put_reply.ensures.value in
    let d = starts_is Decides-eqb c.as_slice.result.now prefix c.starts_with.result c.starts_with.ensures.value in
    (λ starts. (drop (length prefix) c.as_slice.result.now, sym same ∙ d.0 starts), λ is. d.1 is.0 (same ∙ is.1))
