use Rattle.std.proofs.Common.{ap, sym, ◌∙◌, refl, arith}
use Rattle.hmac_core.specs.Hmac.{hmac}
use Rattle.indicium.specs.Marks.{body}
use Rattle.indicium.specs.declared.Mark.{Mark}
use Rattle.psd_state.specs.State.{State}
use Rattle.psd_state.proofs.Kept.{debit_holds}
use Rattle.psd_state.proofs.record.DevRec.debit_new.Goals as goal

pub invariant_of-franked : goal.invariant_of-franked
invariant_of-franked c =
    let is = c.mark_for-mark.ensures.value in (
      debit_holds _ _ c.args.command.now.postage c.mark_for-mark.result c.self.invariant.0 (sym c.in-None.ensures) c.in-Ok.ensures.exact c.in-Ok.ensures.sound
          refl refl refl refl refl c.mark_for-mark.ensures.whole (ap (λ (k : Mark). k.device) is)
          (ap (λ (k : Mark). k.piece) is ∙ omega (arith, c.if-from.false, c.from.ensures, c.from-2.ensures, c.pieces-pieces.ensures.value))
          (ap (λ (k : Mark). k.ascending) is),
      sym (c.code_by-code.ensures ∙ ap (λ key. hmac key (body c.mark_for-mark.result)) (c.requires.key ∙ sym (ap (λ (s : State). s.key) c.self.view_is))),
    )

pub returns-clause-sound : goal.returns-clause-sound
returns-clause-sound c =
    let is = c.mark_for-mark.ensures.value in
    debit_holds _ _ c.args.command.now.postage c.mark_for-mark.result c.self.invariant.0 (sym c.in-None.ensures) c.in-Ok.ensures.exact c.in-Ok.ensures.sound
    refl refl refl refl refl c.mark_for-mark.ensures.whole (ap (λ (k : Mark). k.device) is)
    (ap (λ (k : Mark). k.piece) is ∙ omega (arith, c.if-from.false, c.from.ensures, c.from-2.ensures, c.pieces-pieces.ensures.value))
    (ap (λ (k : Mark). k.ascending) is)
