-- Who is told what (SPC-4, 5.13.11): the unit attention condition that each registrant but the sender gets.
use Rattle.std.specs.Prelude.{nat_eq, if◌then◌else◌, List, [], Option, Some, None}
use Rattle.std.specs.List.{filter_map, find}
use Rattle.std.specs.Option.{option_map}
use Rattle.scsi_types.specs.Nexus.{Nexus}
use Rattle.scsi_types.specs.declared.attention.UnitAttention.{UnitAttention}
use Rattle.scsi_types.specs.declared.attention.UnitAttention.TheVariants.{ReservationsReleased, RegistrationsPreempted}
use Rattle.reservations.specs.declared.notice.Notice.{Notice}
use Rattle.reservations.specs.declared.notice.Notice.TheVariants.{Nothing, ToAll, ToOtherPorts, OfPreempted}
use Rattle.registrants.specs.declared.registrant.Registrant.{Registrant}
use Rattle.reservations.specs.declared.notice.Telling.{Telling}
use Rattle.registrants.specs.Nexus.{same_nexus, same_port}

-- what a registrant is told that is not the sender: of a preempted key, who lost its registration hears of that, and the
-- others of a changed type
abbrev pub code_for : Nexus → Notice → Registrant → Option UnitAttention
code_for sender Nothing x = None
code_for sender (ToAll code) x = Some code
code_for sender (ToOtherPorts code) x = if same_port x.nexus.port sender.port then None else Some code
code_for sender (OfPreempted preempted type_changed) x =
    if nat_eq x.key preempted then Some RegistrationsPreempted else if type_changed then Some ReservationsReleased else None

-- the sender hears nothing; each other registrant what the notice has for it
abbrev pub code_of : Nexus → Notice → Registrant → Option UnitAttention
code_of sender notice x = if same_nexus x.nexus sender then None else code_for sender notice x

-- a unit attention condition that is to be established for a nexus
pub record Told : Type 0 where
  pub nexus : Nexus
  pub code : UnitAttention

abbrev pub told_as : Nexus → UnitAttention → Told
told_as nexus code = record { nexus = nexus; code = code }

abbrev pub telling_of : Nexus → Notice → Registrant → Option Told
telling_of sender notice x = option_map (told_as x.nexus) (code_of sender notice x)

abbrev pub told_of : Nexus → Notice → List Registrant → List Told
told_of sender Nothing registrants = []
told_of sender (ToAll code) registrants = filter_map (telling_of sender (ToAll code)) registrants
told_of sender (ToOtherPorts code) registrants = filter_map (telling_of sender (ToOtherPorts code)) registrants
told_of sender (OfPreempted preempted type_changed) registrants =
    filter_map (telling_of sender (OfPreempted preempted type_changed)) registrants

-- who is told what of the registrants that there were
abbrev pub tellings : Telling → List Registrant → List Told
tellings t registrants = told_of t.sender t.notice registrants

-- what a session of this nexus is told
abbrev pub code_told : List Told → Nexus → Option UnitAttention
code_told told nexus = option_map (λ (t : Told). t.code) (find (λ (t : Told). same_nexus t.nexus nexus) told)
