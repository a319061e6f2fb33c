-- What the bytes of a registration file are read as, part by part.
use Rattle.std.specs.Prelude.{◌≡◌, ℕ, ◌+◌, ◌*◌, Bool, true, not, nat_eq, if◌then◌else◌, IsTrue, List, [], ◌∷◌, length, take, drop, slice_index, Option, Some, ◌&&◌}
use Rattle.std.specs.Prelude.{Result, Ok, Err}
use Rattle.std.specs.List.{AllByRecursion, find, flat_map, slice_get}
use Rattle.std.specs.Option.{option_map}
use Rattle.scsi_types.specs.Nexus.{Nexus}
use Rattle.scsi_types.specs.declared.names.Group.TheVariants.{One}
use Rattle.registrants.specs.declared.registrant.Registrant.{Registrant}
use Rattle.registrants.specs.Nexus.{other_nexus}
use Rattle.registrants.specs.Registry.{RecordValue, IsAscending, IsListed, IsRecord, holder_of}
use Rattle.aptpl_format.specs.declared.entry.Entry.{Entry}
use Rattle.aptpl_format.specs.declared.slot.Slot.{Slot}
use Rattle.aptpl_format.specs.declared.version.FileVersion.{FileVersion}
use Rattle.aptpl_format.specs.declared.fault.OpenFault.{OpenFault}
use Rattle.aptpl_format.specs.declared.fault.OpenFault.TheVariants.{NotARegFile, Version, DeviceFailed, NoMemory}
use Rattle.aptpl_format.specs.Format.{entry_bytes, entry_length, group_of, place_of, root_block, root_name, slot_bytes}
use Rattle.aptpl_format.specs.Format.{type_byte, version_bytes}

-- two bytes are a version
pub record IsVersion (bytes : List ℕ) : Type 0 where
  pub version : FileVersion
  pub is : bytes ≡ version_bytes version

-- the block names no slot, or is the root of another version
abbrev pub IsRootRefusal : List ℕ → OpenFault → Type 0
IsRootRefusal root NotARegFile =
    ((version : FileVersion) (slot : Slot) → root ≡ root_block version slot → ⊥)
    × (take 8 root ≡ root_name → IsVersion (take 2 (drop 8 root)))
IsRootRefusal root Version = (take 8 root ≡ root_name) × (IsVersion (take 2 (drop 8 root)) → ⊥)
IsRootRefusal root DeviceFailed = ⊥
IsRootRefusal root NoMemory = ⊥

-- such a refusal is for what is not so; the device may have failed, and there may have been no memory
abbrev pub IsRefusalOf : OpenFault → Type 0 → Type 0
IsRefusalOf NotARegFile nothing = nothing
IsRefusalOf Version nothing = ⊥
IsRefusalOf DeviceFailed nothing = Unit {0}
IsRefusalOf NoMemory nothing = Unit {0}

-- registrants as a record has them
pub record AreEntries (xs : List Registrant) : Type 0 where
  pub ascending : IsAscending xs
  pub keys : AllByRecursion (λ (x : Registrant). IsTrue (not (nat_eq x.key 0))) xs
  pub listed : AllByRecursion IsListed xs

-- ---- entries

-- an entry as a record has it
pub record IsEntry (e : Entry) : Type 0 where
  pub listed : IsListed e.registrant
  pub keyed : IsTrue (not (nat_eq e.registrant.key 0))
  pub first : e.both ≡ true → e.registrant.nexus.group ≡ One

-- the registrant of the same port through the other group, with the same key
abbrev pub second_of : Registrant → Registrant
second_of x = record { nexus = other_nexus x.nexus; key = x.key }

-- the registrants that an entry stands for
abbrev pub covered_by : Registrant → Bool → List Registrant
covered_by x both = if both then x ∷ second_of x ∷ [] else x ∷ []

abbrev pub covered : Entry → List Registrant
covered e = covered_by e.registrant e.both

-- the bytes of an entry in a slot
abbrev pub entry_part : List ℕ → ℕ → List ℕ
entry_part bytes i = take entry_length (drop (512 + 256 * i) bytes)

-- the bytes spell these entries, so many in all
pub record SpellsEntries (bytes : List ℕ) (count : ℕ) (es : List Entry) : Type 0 where
  pub all : AllByRecursion IsEntry es
  pub long : length es ≡ count
  pub each : (i : ℕ) (e : Entry) → slice_get es i ≡ Some e → entry_part bytes i ≡ entry_bytes e
  pub registrants : AreEntries (flat_map covered es)

-- ---- the reservation

-- the registered nexus with this place and group
abbrev pub holder_in : FileVersion → ℕ → ℕ → List Registrant → Option Nexus
holder_in version place group xs =
    option_map (λ (x : Registrant). x.nexus)
    (find (λ (x : Registrant). nat_eq (place_of version (Some x.nexus) xs) place
    && nat_eq (group_of version (Some x.nexus)) group) xs)

-- a record of these registrants whose reservation a slot spells
pub record HasReservation (version : FileVersion) (bytes : List ℕ) (xs : List Registrant) (r : RecordValue) : Type 0 where
  pub lasting : IsRecord r.aptpl r.registrants r.reservation
  pub registrants : r.registrants ≡ xs
  pub is_code : slice_index bytes 10 ≡ type_byte r.reservation
  pub is_place : slice_index bytes 11 ≡ place_of version (holder_of r.reservation) r.registrants
  pub is_group : slice_index bytes 12 ≡ group_of version (holder_of r.reservation)

-- ---- records

-- the bytes spell this record
pub record Spells (version : FileVersion) (bytes : List ℕ) (r : RecordValue) : Type 0 where
  pub lasting : IsRecord r.aptpl r.registrants r.reservation
  pub spelled : bytes ≡ slot_bytes version r

-- the device did not fail
abbrev pub DeviceAnswered : {T : Type 0} → Result T OpenFault → Type 0
DeviceAnswered (Ok t) = Unit {0}
DeviceAnswered (Err NotARegFile) = Unit {0}
DeviceAnswered (Err Version) = Unit {0}
DeviceAnswered (Err DeviceFailed) = ⊥
DeviceAnswered (Err NoMemory) = Unit {0}
