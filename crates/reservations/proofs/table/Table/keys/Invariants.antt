use Rattle.std.proofs.Common.{◌≡◌, take}
use Rattle.std.specs.List.{flat_map}
use Rattle.reservations.specs.Reading.{key_bytes}
use Rattle.reservations.proofs.table.Table.keys.Given as goal

abbrev pub invariant-loop-x : goal.invariant-loop-x
invariant-loop-x l = l.keys.items ≡ flat_map key_bytes (take l.x-index l.x-items)
