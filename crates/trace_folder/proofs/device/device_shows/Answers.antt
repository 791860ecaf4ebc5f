use Rattle.std.proofs.Common.{take, arith}
use Rattle.bench_base.specs.declared.sizes.TheConstants.{DEVICE_BYTES}
use Rattle.trace_folder.specs.Images.{DeviceImageIs}
use Rattle.trace_folder.specs.declared.shows.Shows.{Shows}
use Rattle.trace_folder.proofs.Nodes.{of_taken, none_found, one_cell}
use Rattle.trace_folder.proofs.device.device_shows.Goals as goal

pub returns-in-Ok-clause-shows : goal.returns-in-Ok-clause-shows
returns-in-Ok-clause-shows g c =
    of_taken (λ image. DeviceImageIs c.args.device c.args.traced.now image c.of_cell.result) DEVICE_BYTES _ _ c.fill_whole.new.buffer c.in-Ok.ensures.taken (omega (arith, c.fill_whole.ensures.long, c.told-buffer))
    (one_cell _ _ c.device_cell.result c.of_cell.result c.of_cell.ensures c.device_cell.ensures)

pub returns-in-Err-clause-shows : goal.returns-in-Err-clause-shows
returns-in-Err-clause-shows g c = none_found {T = Shows} (λ bytes s. DeviceImageIs c.args.device c.args.traced.now (take DEVICE_BYTES bytes) s) _ c.in-Err.fail
