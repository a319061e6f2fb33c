use Rattle.std.proofs.Common.{◌≡◌, length, map}
use Rattle.array_files.proofs.disks.open.Given as goal

abbrev pub invariant-loop-unit : goal.invariant-loop-unit
invariant-loop-unit g l =
    (length l.array.units.items ≡ l.unit)
    × (map (λ new. new.unit.device.file.node) l.array.units.items ≡ map (λ preparer. preparer.node) l.array.preparers.items)
