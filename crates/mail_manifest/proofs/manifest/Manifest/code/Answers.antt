use Rattle.std.proofs.Common.{◌∙◌, ap, sym, List, ℕ}
use Rattle.hmac_core.specs.Hmac.{hmac}
use Rattle.mail_manifest.proofs.Marks.{text_again}
use Rattle.mail_manifest.proofs.manifest.Manifest.code.Goals as goal

pub returns : goal.returns
returns c =
    let m = c.args.self.now in
    c.hmac256.ensures ∙ ap (λ (text : List ℕ). hmac m.opening.key text) (c.deref.ensures.value ∙ sym (text_again m.pieces m.text.items m.long _ m.head))
