use Rattle.std.proofs.Common.{◌≡◌, map}
use Rattle.array_files.proofs.timed.start_timed.Given as goal

abbrev pub invariant-loop-part : goal.invariant-loop-part
invariant-loop-part g l =
    map (λ new. new.unit.device.node) l.array.units.items ≡ map (λ preparer. preparer.node) l.array.preparers.items
