-- The state of one logical unit, as every initiator may think of it (SAM-5, 4.5.19): what does not rest on its
-- medium, which is said of every device, and the blocks.
use Rattle.std.specs.Prelude.{ℕ, ◌+◌, ◌%◌, Bool, false, nat_eq, if◌then◌else◌, List, [], ◌∷◌}
use Rattle.access_states.specs.AccessMap.{AccessMapValue, opening_access}
use Rattle.scsi_types.specs.declared.names.Group.{Group}
use Rattle.scsi_types.specs.declared.names.Group.TheVariants.{One, Two}
use Rattle.scsi_types.specs.declared.names.Place.{Place}
use Rattle.aptpl_file.specs.Lasts.{FileValue}
use Rattle.registrants.specs.Registry.{RecordValue, RegistryValue, powered_on}
use Rattle.unit_control.specs.declared.sessions.Attached.{Attached}
use Rattle.unit_control.specs.Sessions.{told}

-- all of a unit but its blocks
pub record ControlValue : Type 0 where
  -- the unit's number, how many units there are, and the array's number
  pub place : Place
  -- how many blocks the unit has
  pub total : ℕ
  -- the access state of each group, of which just one is active/optimized (SPC-4, 5.15.2)
  pub access : AccessMapValue
  -- who is registered with it, and who holds its reservation
  pub registry : RegistryValue
  -- the records of registrations of which a crash leaves one, and whether the last save failed (SPC-4, 5.13.5)
  pub lasting : List RecordValue
  pub doubt : Bool
  -- the sessions that are attached, by ascending id
  pub sessions : List Attached
  -- the number of entries so far
  pub count : ℕ

-- the session was told its first attention
abbrev pub tell : ControlValue → ℕ → ControlValue
tell c session = record c { sessions = told c.sessions session }

-- the unit model: the blocks have 512 bytes each
pub record UnitState : Type 0 where
  pub control : ControlValue
  pub blocks : List (List ℕ)

abbrev pub unit_of : ControlValue → List (List ℕ) → UnitState
unit_of control blocks = record { control = control; blocks = blocks }

-- the preferred group of a unit (SPC-4, 5.15.2.1): the first for the units of even number
abbrev pub preferred : ℕ → Group
preferred unit = if nat_eq (unit % 2) 0 then One else Two

-- a unit at this place with so many blocks, as it opens where this record had lasted
abbrev pub opening_control : Place → ℕ → RecordValue → ControlValue
opening_control place total lasted =
    record {
      place = place;
      total = total;
      access = opening_access (preferred place.unit);
      registry = powered_on lasted;
      lasting = lasted ∷ [];
      doubt = false;
      sessions = [];
      count = 0;
    }

abbrev pub opening : Place → ℕ → List (List ℕ) → RecordValue → UnitState
opening place total blocks lasted = record { control = opening_control place total lasted; blocks = blocks }

-- What contracts see of a unit: its devices as they are, and the rest of its state. The opener opens the device for the
-- controller that takes it over; what is to outlast a loss of power is saved in the registration file.
pub record UnitValue (B R O : Type 0) : Type 0 where
  pub device : B
  pub opener : O
  pub file : FileValue R
  pub control : ControlValue

-- the state of a unit whose device has these contents
abbrev pub state_of : {B R O : Type 0} → (B → List (List ℕ)) → UnitValue B R O → UnitState
state_of contents u = record { control = u.control; blocks = contents u.device }

-- how often one of its devices has failed: what is counted as a failure is named here alone
abbrev pub failures_of : {B R O : Type 0} → (B → ℕ) → (O → ℕ) → (R → ℕ) → UnitValue B R O → ℕ
failures_of failures opens_failed file_failures u =
    failures u.device + opens_failed u.opener + file_failures u.file.device
