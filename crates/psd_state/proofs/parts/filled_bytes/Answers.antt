use Rattle.std.proofs.Common.{◌++◌, length, drop, replicate, refl, sym, ap, ◌∙◌, arith}
use Rattle.std.proofs.lemmas.List.{length-take-le}
use Rattle.psd_wire.specs.declared.message.Message.TheVariants as m
use Rattle.psd_wire.proofs.Readings.{length_coded_body}
use Rattle.psd_state.proofs.Read.{filled_made}
use Rattle.psd_state.proofs.parts.filled_bytes.Goals as goal

pub slice_bounds-bytes-end : goal.slice_bounds-bytes-end
slice_bounds-bytes-end c =
    let is = c.as_slice-body.ensures ∙ c.write_body-note.ensures in
    omega (arith, ap length is, length_coded_body (m.Request c.args.request.now) refl c.requires)

pub slice_bounds-copy_from_slice-end : goal.slice_bounds-copy_from_slice-end
slice_bounds-copy_from_slice-end c =
    let is = c.as_slice-body.ensures ∙ c.write_body-note.ensures in
    sym (length-take-le (length c.as_slice-body.result.now) (replicate 55 0) (omega (arith, ap length is, length_coded_body (m.Request c.args.request.now) refl c.requires)))

pub copy_from_slice-requires : goal.copy_from_slice-requires
copy_from_slice-requires c =
    let is = c.as_slice-body.ensures ∙ c.write_body-note.ensures in
    length-take-le (length c.as_slice-body.result.now) (replicate 55 0) (omega (arith, ap length is, length_coded_body (m.Request c.args.request.now) refl c.requires))

pub returns : goal.returns
returns c =
    let is = c.as_slice-body.ensures ∙ c.write_body-note.ensures in
    let short = length_coded_body (m.Request c.args.request.now) refl c.requires in
    ap (λ n. c.copy_from_slice.new.self ++ drop n (replicate 55 0)) (ap length is)
    ∙ filled_made c.args.request.now c.copy_from_slice.new.self short (c.copy_from_slice.ensures.after ∙ is)
