use Rattle.std.proofs.Common.{◌≡◌, take}
use Rattle.std.specs.List.{flat_map}
use Rattle.reservations.specs.Reading.{descriptor_of}
use Rattle.reservations.specs.Seen.{value_of}
use Rattle.reservations.proofs.table.Table.full_status.Given as goal

abbrev pub invariant-loop-x : goal.invariant-loop-x
invariant-loop-x l = l.bytes.items ≡ flat_map (descriptor_of (value_of l.self)) (take l.x-index l.x-items)
