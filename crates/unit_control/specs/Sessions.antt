-- The sessions that are attached to a unit: a map from a session's id to its nexus, its next serial, and the unit
-- attention conditions that wait to be told to it (SAM-5, 5.14).
use Rattle.std.specs.Prelude.{ℕ, ◌+◌, ◌≤◌, Bool, not, nat_eq, if◌then◌else◌, List, [], ◌∷◌, drop, filter, map}
use Rattle.std.specs.Prelude.{slice_get, Option, Some, None}
use Rattle.std.specs.Option.{option_map}
use Rattle.registrants.specs.Nexus.{same_nexus}
use Rattle.scsi_types.specs.Nexus.{Nexus}
use Rattle.scsi_types.specs.declared.attention.UnitAttention.{UnitAttention}
use Rattle.scsi_types.specs.declared.attention.UnitAttention.TheVariants.{PowerOn}
use Rattle.scsi_types.specs.declared.names.Group.TheVariants.{One}
use Rattle.unit_control.specs.declared.sessions.Attached.{Attached}

-- An item of the map, which goes by ascending id, has the id, the nexus, the serial of the next command, and what is pending. Its nexus:
abbrev pub nexus_of : Attached → Nexus
nexus_of a = record { port = a.port; group = a.group }

-- a session of this nexus, with this id, that had no command yet: it is to be told of the power on (SAM-5, 5.14)
abbrev pub attached : Nexus → ℕ → Attached
attached nexus id = record { id = id; port = nexus.port; group = nexus.group; next = 1; pending = PowerOn ∷ [] }

-- the session of this id
abbrev pub session_of : List Attached → ℕ → Option Attached
session_of [] id = None
session_of (a ∷ rest) id = if nat_eq a.id id then Some a else session_of rest id

-- the serial of its next command, where it is attached
abbrev pub next_of : List Attached → ℕ → Option ℕ
next_of sessions id = option_map (λ a. a.next) (session_of sessions id)

-- what is pending for it, the oldest first; nothing is for a session that is not attached
abbrev pub pending_in : Option Attached → List UnitAttention
pending_in None = []
pending_in (Some a) = a.pending

abbrev pub pending_of : List Attached → ℕ → List UnitAttention
pending_of sessions id = pending_in (session_of sessions id)

-- the condition that it is told next
abbrev pub first_pending : List Attached → ℕ → Option UnitAttention
first_pending sessions id = slice_get (pending_of sessions id) 0

-- its nexus; of one that is not attached an empty name, so that each id has one
abbrev pub nexus_in : Option Attached → Nexus
nexus_in None = record { port = record { name = []; isid = 0 }; group = One }
nexus_in (Some a) = nexus_of a

abbrev pub sender_of : List Attached → ℕ → Nexus
sender_of sessions id = nexus_in (session_of sessions id)

-- the nexus of the session that attached last, of those that are attached still
abbrev pub last_nexus : List Attached → Nexus
last_nexus [] = nexus_in None
last_nexus (a ∷ []) = nexus_of a
last_nexus (a ∷ b ∷ rest) = last_nexus (b ∷ rest)

-- its next serial is at most the count of entries
abbrev pub HasCountedSerial : ℕ → Attached → Type 0
HasCountedSerial count a = a.next ≤ count

-- ---- one session changes

abbrev pub changed : (Attached → Attached) → List Attached → ℕ → List Attached
changed f [] id = []
changed f (a ∷ rest) id = if nat_eq a.id id then f a ∷ rest else a ∷ changed f rest id

-- it had one command more
abbrev pub one_command_more : Attached → Attached
one_command_more a = record a { next = a.next + 1 }

abbrev pub command_counted : List Attached → ℕ → List Attached
command_counted sessions id = changed one_command_more sessions id

-- it was told its first condition, which is pending no more
abbrev pub report_first : Attached → Attached
report_first a = record a { pending = drop 1 a.pending }

abbrev pub told : List Attached → ℕ → List Attached
told sessions id = changed report_first sessions id

-- ---- all sessions change

-- the session of this id ended
abbrev pub ended : List Attached → ℕ → List Attached
ended sessions id = filter (λ a. not (nat_eq a.id id)) sessions

-- a change of every session but the one of this id, where one asked for it
abbrev pub of_others : (Attached → Attached) → Option ℕ → Attached → Attached
of_others f None a = f a
of_others f (Some id) a = if nat_eq a.id id then a else f a

-- it is to be told of a reset, and of nothing before it: the condition is that of a power on, 29/00, which covers a reset too
abbrev pub tell_reset : Attached → Attached
tell_reset a = record a { pending = PowerOn ∷ [] }

-- the unit was reset by the session of this id
abbrev pub reset_established : ℕ → Attached → Attached
reset_established id a = of_others tell_reset (Some id) a

abbrev pub all_reset : List Attached → ℕ → List Attached
all_reset sessions id = map (reset_established id) sessions

-- ---- the session of a nexus

abbrev pub is_of : Nexus → Attached → Bool
is_of nexus a = same_nexus (nexus_of a) nexus

-- the sessions but that of this nexus
abbrev pub without : Nexus → List Attached → List Attached
without nexus sessions = filter (λ a. not (is_of nexus a)) sessions
