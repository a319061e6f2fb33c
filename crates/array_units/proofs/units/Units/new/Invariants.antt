use Rattle.std.proofs.Common.{◌≡◌, length, drop}
use Rattle.array_units.specs.Places.{AreInOrder}
use Rattle.array_units.proofs.units.Units.new.Given as goal

abbrev pub invariant-loop-place : goal.invariant-loop-place
invariant-loop-place g l = (l.new.items ≡ drop l._place l.initial.new.items) × (length l.units.items ≡ l._place)
    × AreInOrder l.units.items
