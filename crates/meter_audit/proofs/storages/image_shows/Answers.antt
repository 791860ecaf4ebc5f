use Rattle.meter_audit.proofs.storages.image_shows.Goals as goal

pub device_shows-requires : goal.device_shows-requires
device_shows-requires c = record { settled = c.requires.ready.devices _ _ c.device_node.ensures }
