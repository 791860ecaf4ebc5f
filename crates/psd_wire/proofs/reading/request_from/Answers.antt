use Rattle.std.proofs.Common.{if◌then◌else◌, get_or, eq-eqb, ne_eqb, sym, ap, ◌∙◌}
use Rattle.bench_base.specs.Table.{Four, Eight, values}
use Rattle.psd_wire.specs.Grammar.{request_in, request_table, request_at}
use Rattle.psd_wire.proofs.reading.request_from.Goals as goal

pub returns-then-bytes-eq1 : goal.returns-then-bytes-eq1
unfolding request_at
returns-then-bytes-eq1 c =
    c.first_request.ensures
    ∙ ap (λ b. request_in (values 0 (request_table (if b then Four else Eight)) c.args.bytes.now)) (sym (eq-eqb (get_or c.args.bytes.now 0 0) 1 c.if-bytes-eq1.true))

pub returns-else-bytes-eq1 : goal.returns-else-bytes-eq1
unfolding request_at
returns-else-bytes-eq1 c =
    c.second_request.ensures
    ∙ ap (λ b. request_in (values 0 (request_table (if b then Four else Eight)) c.args.bytes.now)) (sym (ne_eqb (get_or c.args.bytes.now 0 0) 1 c.if-bytes-eq1.false))
