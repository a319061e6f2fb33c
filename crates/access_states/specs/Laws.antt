-- Words in which the laws over the access change are said.
use Rattle.std.specs.Prelude.{◌≡◌, List, ℕ, IsOkAnd, Option, Result, Ok}
use Rattle.scsi_types.specs.Nexus.{other_group}
use Rattle.scsi_types.specs.declared.names.Group.{Group}
use Rattle.scsi_types.specs.declared.names.Group.TheVariants.{One, Two}
use Rattle.access_states.specs.declared.list.AsetFault.{AsetFault}
use Rattle.access_states.specs.declared.list.Named.{Named}
use Rattle.access_states.specs.declared.state.AccessState.{AccessState}
use Rattle.access_states.specs.declared.state.Cause.{Cause}
use Rattle.access_states.specs.AccessMap.{AccessMapValue, group_access, owner_of}
use Rattle.access_states.specs.Change.{access_after}
use Rattle.access_states.specs.List.{named_by}

abbrev pub named_for : Named → Group → Option AccessState
named_for named One = named.one
named_for named Two = named.two

-- the list is taken; this group then owns the unit, and the other has this state
abbrev pub OwnsBeside : Result AccessMapValue AsetFault → Group → AccessState → Type 0
OwnsBeside taken owner state =
    IsOkAnd taken (λ new. (owner_of new ≡ owner) × ((group_access new (other_group owner)).state ≡ state))

-- the list was taken: it names these states, and leads from the old ones to the new
pub record IsTaken (cause : Cause) (old : AccessMapValue) (bytes : List ℕ) (named : Named)
    (new : AccessMapValue) : Type 0 where
  pub reads : named_by bytes ≡ Ok named
  pub taken : access_after cause old bytes ≡ Ok new
