-- Which threads serve at which desk.
use Rattle.std.specs.Prelude.{◌≡◌, List, [], ◌∷◌, map}
use Rattle.std.specs.declared.thread.PromisedHandle.{PromisedHandle}
use Rattle.scsi_types.specs.declared.names.Group.{Group}
use Rattle.portal.specs.declared.lanes.AtDesk.{AtDesk}

-- these are the lanes of a group's desk: four
abbrev pub AreLanesOf : Group → List (PromisedHandle Group AtDesk) → Type 0
AreLanesOf group lanes = map (λ lane. lane.promise.group) lanes ≡ group ∷ group ∷ group ∷ group ∷ []
