-- The access states of a unit's two target port groups (SPC-4, 5.15.2).
use Rattle.std.specs.Prelude.{Bool, not, if◌then◌else◌, None}
use Rattle.scsi_types.specs.declared.names.Group.{Group}
use Rattle.scsi_types.specs.declared.names.Group.TheVariants.{One, Two}
use Rattle.access_states.specs.declared.state.AccessState.{AccessState}
use Rattle.access_states.specs.declared.state.AccessState.TheVariants.{ActiveOptimized, ActiveNonOptimized}
use Rattle.access_states.specs.declared.state.GroupAccess.{GroupAccess}
use Rattle.access_states.specs.State.{is_optimized}

-- the state of each group, and what altered it last
pub record AccessMapValue : Type 0 where
  pub one : GroupAccess
  pub two : GroupAccess

abbrev pub group_access : AccessMapValue → Group → GroupAccess
group_access map One = map.one
group_access map Two = map.two

-- just one of two states is active/optimized
abbrev pub just_one_optimized : AccessState → AccessState → Bool
just_one_optimized one two = if is_optimized one then not (is_optimized two) else is_optimized two

abbrev pub has_one_owner : AccessMapValue → Bool
has_one_owner map = just_one_optimized map.one.state map.two.state

-- the owner: the group that is active/optimized
abbrev pub owner_of : AccessMapValue → Group
owner_of map = if is_optimized map.one.state then One else Two

-- a state that nothing has altered
abbrev pub unaltered : AccessState → GroupAccess
unaltered state = record { state = state; altered = None }

-- as a unit opens: its preferred group is active/optimized, the other active/non-optimized
abbrev pub opening_access : Group → AccessMapValue
opening_access One = record { one = unaltered ActiveOptimized; two = unaltered ActiveNonOptimized }
opening_access Two = record { one = unaltered ActiveNonOptimized; two = unaltered ActiveOptimized }
