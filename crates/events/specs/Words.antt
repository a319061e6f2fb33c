-- The words of the log: one name each, of lower-case letters, or what the standard calls it.
use Rattle.std.specs.Prelude.{ℕ, nat_eq, if◌then◌else◌, List, [], ◌∷◌, codes}
use Rattle.events.specs.declared.words.SessionType.{SessionType}
use Rattle.events.specs.declared.words.SessionType.TheVariants as session_types
use Rattle.events.specs.declared.words.Stayed.{Stayed}
use Rattle.events.specs.declared.words.Stayed.TheVariants as stayeds
use Rattle.events.specs.declared.words.Access.{Access}
use Rattle.events.specs.declared.words.Access.TheVariants as accesses
use Rattle.events.specs.declared.words.Action.{Action}
use Rattle.events.specs.declared.words.Action.TheVariants as actions
use Rattle.events.specs.declared.words.Operation.{Operation}
use Rattle.events.specs.declared.words.Operation.TheVariants as operations
use Rattle.events.specs.declared.words.Part.{Part}
use Rattle.events.specs.declared.words.Part.TheVariants as parts
use Rattle.events.specs.declared.words.Call.{Call}
use Rattle.events.specs.declared.words.Call.TheVariants as calls
use Rattle.events.specs.declared.words.Resource.{Resource}
use Rattle.events.specs.declared.words.Resource.TheVariants as resources
use Rattle.events.specs.declared.words.Unusable.{Unusable}
use Rattle.events.specs.declared.words.Unusable.TheVariants as unusables

abbrev pub session_type_text : SessionType → List ℕ
session_type_text session_types.Normal = codes "normal"
session_type_text session_types.Discovery = codes "discovery"

abbrev pub stayed_text : Stayed → List ℕ
stayed_text stayeds.NotOpened = codes "not_opened"
stayed_text stayeds.BadList = codes "bad_list"
stayed_text stayeds.Gone = codes "gone"

-- the code of an access state (SPC-4, 6.27)
abbrev pub access_text : Access → List ℕ
access_text accesses.Optimized = codes "0"
access_text accesses.NonOptimized = codes "1"
access_text accesses.Standby = codes "2"
access_text accesses.Unavailable = codes "3"
access_text accesses.Unnamed = codes "unnamed"

abbrev pub action_text : Action → List ℕ
action_text actions.Register = codes "register"
action_text actions.Reserve = codes "reserve"
action_text actions.Release = codes "release"
action_text actions.Clear = codes "clear"
action_text actions.Preempt = codes "preempt"
action_text actions.PreemptAndAbort = codes "preempt_and_abort"
action_text actions.RegisterAndIgnore = codes "register_and_ignore_existing_key"

abbrev pub operation_text : Operation → List ℕ
operation_text operations.Read = codes "read"
operation_text operations.Write = codes "write"
operation_text operations.CompareAndWrite = codes "compare_and_write"
operation_text operations.SynchronizeCache = codes "synchronize_cache"
operation_text operations.ReserveOut = codes "persistent_reserve_out"
operation_text operations.SetGroups = codes "set_target_port_groups"
operation_text operations.Other = codes "other"

abbrev pub part_text : Part → List ℕ
part_text parts.Disk = codes "disk"
part_text parts.Registrations = codes "registrations"

abbrev pub call_text : Call → List ℕ
call_text calls.Open = codes "open"
call_text calls.Seek = codes "seek"
call_text calls.Read = codes "read"
call_text calls.Write = codes "write"
call_text calls.Flush = codes "flush"

abbrev pub resource_text : Resource → List ℕ
resource_text resources.Memory = codes "memory"
resource_text resources.Thread = codes "thread"
resource_text resources.Descriptor = codes "descriptor"
resource_text resources.Connection = codes "connection"

abbrev pub unusable_text : Unusable → List ℕ
unusable_text unusables.NotThere = codes "not_there"
unusable_text unusables.NotOpened = codes "not_opened"
unusable_text unusables.Length = codes "length_no_multiple_of_512"
unusable_text unusables.Empty = codes "empty"
unusable_text unusables.TooLong = codes "too_long"
unusable_text unusables.InUse = codes "in_use"
unusable_text unusables.NotLocked = codes "not_locked"
unusable_text unusables.NotMade = codes "not_made"
unusable_text unusables.NotARegistrationFile = codes "no_registration_file"
unusable_text unusables.Version = codes "unknown_version"
unusable_text unusables.Failed = codes "device_failed"
unusable_text unusables.Forgotten = codes "forgotten_by_a_reboot"
unusable_text unusables.NoMemory = codes "no_memory"

-- ---- numbers that have names

-- the name that stands beside a number in a table
abbrev pub named : List (ℕ × List ℕ) → ℕ → List ℕ
named [] n = codes "other"
named (row ∷ rows) n = if nat_eq n row.0 then row.1 else named rows n

-- what a Login Response says by its Status-Class and Status-Detail (RFC 7143, 11.13.5)
abbrev pub statuses : List (ℕ × List ℕ)
statuses =
    (0x0200, codes "Initiator error")
    ∷ (0x0201, codes "Authentication failure")
    ∷ (0x0202, codes "Authorization failure")
    ∷ (0x0203, codes "Not found")
    ∷ (0x0204, codes "Target removed")
    ∷ (0x0205, codes "Unsupported version")
    ∷ (0x0206, codes "Too many connections")
    ∷ (0x0207, codes "Missing parameter")
    ∷ (0x0208, codes "Can't include in session")
    ∷ (0x0209, codes "Session type not supported")
    ∷ (0x020a, codes "Session does not exist")
    ∷ (0x020b, codes "Invalid during login")
    ∷ (0x0300, codes "Target error")
    ∷ (0x0301, codes "Service unavailable")
    ∷ (0x0302, codes "Out of resources") ∷ []

abbrev pub status_text : ℕ → List ℕ
status_text n = named statuses n

-- what a Reject says by its reason (RFC 7143, 11.17.1)
abbrev pub rejects : List (ℕ × List ℕ)
rejects =
    (0x04, codes "Protocol Error")
    ∷ (0x05, codes "Command not supported")
    ∷ (0x09, codes "Invalid PDU field") ∷ []

abbrev pub reject_text : ℕ → List ℕ
reject_text n = named rejects n

-- the names of errors of the system, as Linux numbers them
abbrev pub errors : List (ℕ × List ℕ)
errors =
    (0, codes "none")
    ∷ (1, codes "EPERM")
    ∷ (2, codes "ENOENT")
    ∷ (5, codes "EIO")
    ∷ (6, codes "ENXIO")
    ∷ (9, codes "EBADF")
    ∷ (11, codes "EAGAIN")
    ∷ (12, codes "ENOMEM")
    ∷ (13, codes "EACCES")
    ∷ (16, codes "EBUSY")
    ∷ (19, codes "ENODEV")
    ∷ (20, codes "ENOTDIR")
    ∷ (21, codes "EISDIR")
    ∷ (22, codes "EINVAL")
    ∷ (23, codes "ENFILE")
    ∷ (24, codes "EMFILE")
    ∷ (27, codes "EFBIG")
    ∷ (28, codes "ENOSPC")
    ∷ (30, codes "EROFS")
    ∷ (36, codes "ENAMETOOLONG")
    ∷ (40, codes "ELOOP")
    ∷ (61, codes "ENODATA")
    ∷ (67, codes "ENOLINK")
    ∷ (84, codes "EILSEQ")
    ∷ (92, codes "ENOPROTOOPT")
    ∷ (95, codes "EOPNOTSUPP")
    ∷ (98, codes "EADDRINUSE")
    ∷ (99, codes "EADDRNOTAVAIL")
    ∷ (110, codes "ETIMEDOUT")
    ∷ (116, codes "ESTALE")
    ∷ (121, codes "EREMOTEIO")
    ∷ (122, codes "EDQUOT") ∷ []

abbrev pub error_text : ℕ → List ℕ
error_text n = named errors n
