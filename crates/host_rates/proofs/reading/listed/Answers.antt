use Rattle.std.proofs.Common.{◌∙◌}
use Rattle.toml.specs.View.{view}
use Rattle.host_rates.specs.Reading.{listed}
use Rattle.host_rates.proofs.Views.{listed_each, read_none, read_one, read_stop, read_all, failed}
use Rattle.host_rates.proofs.reading.listed.Goals as goal

pub loop-value-init : goal.loop-value-init
loop-value-init g c = rw c.new-items.ensures.items (read_none (g.T.Item.item_of c.args.zones) c.deref-value-items.result.now)

pub loop-value-preserved : goal.loop-value-preserved
loop-value-preserved g c = rw c.in_ok-push.ensures.items (read_one c.loop-value.invariant c.loop-value-test.true c.value-item.is c.in_ok-item.ensures.exact)

pub returns-in_err-item : goal.returns-in_err-item
returns-in_err-item g c =
    let f = g.T.Item.item_of c.args.zones in
    let d = view c.args.value.now in
    let all = listed_each f d c.as_array.result (λ v. v.now.items) c.as_array.ensures c.in_ok-values.ensures.ok_part c.deref-value-items.ensures.value in
    record {
      exact = failed (λ v. v.items) c.from_residual-in_err-item.result c.in_err-item.field-0.0 (listed f d) (f (view c.value-item.result)) c.from_residual-in_err-item.ensures.1 c.in_err-item.ensures.exact
          (λ none. all ∙ read_stop c.loop-value.invariant c.loop-value-test.true c.value-item.is none);
    }

pub returns : goal.returns
returns g c =
    let all = listed_each (g.T.Item.item_of c.args.zones) (view c.args.value.now) c.as_array.result (λ v. v.now.items) c.as_array.ensures c.in_ok-values.ensures.ok_part c.deref-value-items.ensures.value in
    record { exact = all ∙ read_all c.loop-value.invariant c.loop-value-test.false }
