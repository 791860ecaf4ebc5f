use Rattle.psd_device.specs.DeviceView.{seen_of}
use Rattle.psd_device.specs.Knows.{kept}
use Rattle.psd_device.proofs.Performs.{keeps_next}
use Rattle.psd_device.proofs.device.Device.perform.Goals as goal

pub perform-requires : goal.perform-requires
perform-requires g c = record { runs = record { on = c.args.self.now.runs; size = c.args.self.now.room }; fits = λ works commit x a is. tt }

pub returns : goal.returns
returns g c =
    let e = c.perform.ensures.performs in
    record {
      performed = e.performed;
      next = λ works. keeps_next (seen_of c.args.self.now) c.args.act (λ commit x a. e.next commit x a works);
      number = e.name;
      kept = kept c.perform.new.self.node;
      size = e.size;
      wear = e.beside;
    }

pub invariant_of-self : goal.invariant_of-self
invariant_of-self g c = record { runs = c.perform.ensures.runs.on; room = c.perform.ensures.runs.size }
