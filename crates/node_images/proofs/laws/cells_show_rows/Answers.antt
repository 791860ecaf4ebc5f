use Rattle.centre_protocol.specs.Payloads as centre
use Rattle.host_node.specs.Payloads as host
use Rattle.verifier.specs.Payload as verifier
use Rattle.node_images.proofs.Join.{joins}
use Rattle.node_images.proofs.laws.cells_show_rows.Goals as goal

pub returns-clause-centre : goal.returns-clause-centre
returns-clause-centre c = joins 192 72 centre.IsPayloadOf

pub returns-clause-host : goal.returns-clause-host
returns-clause-host c = joins 115 1024 host.IsPayloadOf

pub returns-clause-verifier : goal.returns-clause-verifier
returns-clause-verifier c = joins 2056 1032 verifier.IsPayloadOf
