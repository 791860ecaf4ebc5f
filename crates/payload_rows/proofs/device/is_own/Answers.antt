use Rattle.std.proofs.Common.{inl, sym, ◌∙◌, ap}
use Rattle.psd_state.specs.State.{State}
use Rattle.psd_state.proofs.Parted.{one_reading}
use Rattle.payload_rows.proofs.device.is_own.Goals as goal

pub returns-in-Some-clause-yes : goal.returns-in-Some-clause-yes
returns-in-Some-clause-yes c is = ap (λ (s : State). s.device) (sym (c.same_record.ensures.yes is)) ∙ c.in-Some.ensures.found.0

pub returns-in-Some-clause-no : goal.returns-in-Some-clause-no
returns-in-Some-clause-no c is own =
    c.same_record.ensures.no is
    (one_reading c.write_payload.result c.in-Some.read c.args.kept.now c.in-Some.ensures.found.1
    (record { holds = c.write_payload.ensures.sound; fits = c.write_payload.ensures.fits; reads = inl (sym c.write_payload.ensures.value) }))

pub returns-in-None-clause-no : goal.returns-in-None-clause-no
returns-in-None-clause-no c is own =
    c.in-None.ensures.none c.args.kept.now own
    (record { holds = c.write_payload.ensures.sound; fits = c.write_payload.ensures.fits; reads = inl (sym c.write_payload.ensures.value) })
