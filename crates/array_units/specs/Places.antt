-- The place of a unit.
use Rattle.std.specs.Prelude.{◌≡◌, ℕ, List, Some, slice_get}
use Rattle.crossbeam_utils.specs.declared.cache_padded.CachePadded.{CachePadded}
use Rattle.crossbeam_utils.specs.Padded.{padded_value}
use Rattle.array_units.specs.declared.any_unit.AnyUnit.{AnyUnit}
use Rattle.array_units.specs.declared.any_unit.AnyUnit.TheVariants as units

abbrev pub place_of : {B R O N : Type 0} → AnyUnit B R O N → ℕ
place_of (units.Zero unit) = 0
place_of (units.One unit) = 1
place_of (units.Two unit) = 2
place_of (units.Three unit) = 3
place_of (units.Four unit) = 4
place_of (units.Five unit) = 5
place_of (units.Six unit) = 6
place_of (units.Seven unit) = 7

-- each unit stands at its place
abbrev pub AreInOrder : {B R O N : Type 0} → List (CachePadded (AnyUnit B R O N)) → Type 0
AreInOrder units = (place : ℕ) (unit : CachePadded (AnyUnit _ _ _ _)) → slice_get units place ≡ Some unit
    → place_of (padded_value unit) ≡ place
