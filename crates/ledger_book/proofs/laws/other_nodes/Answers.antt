use Rattle.ledger_book.proofs.Frames.{device_apart, centre_apart, customer_apart, job_apart, host_apart, verifier_apart}
use Rattle.ledger_book.proofs.laws.other_nodes.Goals as goal

pub returns : goal.returns
returns c = record { device = device_apart; centre = centre_apart; customer = customer_apart; job = job_apart; host = host_apart; verifier = verifier_apart }
