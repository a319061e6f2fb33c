-- The bytes of a registration file, versions 1 and 2. Numbers are big-endian, and what is written is filled up with zeros.
-- Block 0 is the root, which names a slot; a slot is 33 blocks, from block 1 or from block 34 on.
use Rattle.std.specs.Prelude.{ℕ, ◌+◌, ◌-◌, ◌*◌, Bool, true, false, ◌&&◌, nat_eq, if◌then◌else◌, List}
use Rattle.std.specs.Prelude.{[], ◌∷◌, ◌++◌, length, take, drop, replicate, Option, Some, None}
use Rattle.std.specs.List.{flat_map, position}
use Rattle.std.specs.Option.{unwrap_or}
use Rattle.byteorder.specs.Endian.{big_bytes}
use Rattle.scsi_types.specs.Nexus.{Nexus, group_number}
use Rattle.scsi_types.specs.declared.names.Group.{Group}
use Rattle.scsi_types.specs.declared.names.Group.TheVariants.{One, Two}
use Rattle.registrants.specs.declared.registrant.Registrant.{Registrant}
use Rattle.registrants.specs.declared.registrant.Reservation.{Reservation}
use Rattle.registrants.specs.Kind.{type_code}
use Rattle.registrants.specs.Nexus.{same_group, same_nexus, same_port}
use Rattle.registrants.specs.Registry.{RecordValue, holder_of}
use Rattle.block_file.specs.declared.blocks.TheConstants.{BLOCK_LENGTH}
use Rattle.aptpl_format.specs.declared.entry.Entry.{Entry}
use Rattle.aptpl_format.specs.declared.slot.Slot.{Slot}
use Rattle.aptpl_format.specs.declared.slot.Slot.TheVariants.{First, Second}
use Rattle.aptpl_format.specs.declared.version.FileVersion.{FileVersion}
use Rattle.aptpl_format.specs.declared.version.FileVersion.TheVariants.{Version1, Version2}

-- ---- its numbers

-- the blocks of the file, and those of one slot
abbrev pub file_blocks : ℕ
file_blocks = 67

abbrev pub slot_blocks : ℕ
slot_blocks = 33

-- `ALUAREG1`, with which the root begins, and `ALUASLT1`, with which a slot does
abbrev pub root_name : List ℕ
root_name = 65 ∷ 76 ∷ 85 ∷ 65 ∷ 82 ∷ 69 ∷ 71 ∷ 49 ∷ []

abbrev pub slot_name : List ℕ
slot_name = 65 ∷ 76 ∷ 85 ∷ 65 ∷ 83 ∷ 76 ∷ 84 ∷ 49 ∷ []

-- the version
abbrev pub version_bytes : FileVersion → List ℕ
version_bytes Version1 = 0 ∷ 1 ∷ []
version_bytes Version2 = 0 ∷ 2 ∷ []

-- the bytes of a slot, and of an entry
abbrev pub slot_length : ℕ
slot_length = 16896

abbrev pub entry_length : ℕ
entry_length = 256

-- the place of a holder, where none is named
abbrev pub no_holder : ℕ
no_holder = 255

-- so many bytes: these, and zeros
abbrev pub padded : ℕ → List ℕ → List ℕ
padded n bytes = bytes ++ replicate (n - length bytes) 0

-- ---- the two slots

abbrev pub slot_number : Slot → ℕ
slot_number First = 0
slot_number Second = 1

abbrev pub first_block : Slot → ℕ
first_block slot = 1 + slot_blocks * slot_number slot

abbrev pub other_slot : Slot → Slot
other_slot First = Second
other_slot Second = First

-- ---- the root: its name, the version, and the slot

unfoldable pub root_block : FileVersion → Slot → List ℕ
root_block version slot = padded BLOCK_LENGTH (root_name ++ version_bytes version ++ slot_number slot ∷ [])

-- ---- the entries of registrants

-- the two nexuses of one port, with one key
abbrev pub is_pair : Registrant → Registrant → Bool
is_pair x y =
    same_group x.nexus.group One && same_group y.nexus.group Two && same_port x.nexus.port y.nexus.port
    && nat_eq x.key y.key

-- these two have one entry: in version 2 a pair has
abbrev pub has_pair : FileVersion → Registrant → Registrant → Bool
has_pair Version1 x y = false
has_pair Version2 x y = is_pair x y

-- Each registrant has an entry of its own, but those that have one together. The registrants stand in order, and so do
-- the two nexuses of a port stand one behind the other.
abbrev pub entries_of : FileVersion → List Registrant → List Entry
entries_of version [] = []
entries_of version (x ∷ []) = record { registrant = x; both = false } ∷ []
entries_of version (x ∷ y ∷ xs) =
    if has_pair version x y then record { registrant = x; both = true } ∷ entries_of version xs
    else record { registrant = x; both = false } ∷ entries_of version (y ∷ xs)

-- the entry of a nexus: of both groups, it is that of each nexus of its port
abbrev pub covers : Nexus → Entry → Bool
covers nexus e =
    if e.both then same_port e.registrant.nexus.port nexus.port else same_nexus e.registrant.nexus nexus

-- ---- a slot's first block: its name, aptpl, the count of entries, the type, the place of the holder's entry, and in
-- ---- version 2 the holder's group

abbrev pub aptpl_byte : Bool → ℕ
aptpl_byte true = 1
aptpl_byte false = 0

abbrev pub type_byte : Option Reservation → ℕ
type_byte None = 0
type_byte (Some held) = type_code held.kind

-- types 7 and 8 name no holder
abbrev pub place_of : FileVersion → Option Nexus → List Registrant → ℕ
place_of version None registrants = no_holder
place_of version (Some holder) registrants =
    unwrap_or (position (covers holder) (entries_of version registrants)) no_holder

abbrev pub group_of : FileVersion → Option Nexus → ℕ
group_of version None = 0
group_of Version1 (Some holder) = 0
group_of Version2 (Some holder) = group_number holder.group

unfoldable pub header_block : FileVersion → RecordValue → List ℕ
header_block version r = padded BLOCK_LENGTH
    (slot_name ++ aptpl_byte r.aptpl ∷ length (entries_of version r.registrants) ∷ type_byte r.reservation
    ∷ place_of version (holder_of r.reservation) r.registrants ∷ group_of version (holder_of r.reservation) ∷ [])

-- ---- an entry: the key, the group, which is 3 for both, the ISID, the length of the name, and the name

abbrev pub group_code : Group → Bool → ℕ
group_code group both = if both then 3 else group_number group

unfoldable pub entry_bytes : Entry → List ℕ
entry_bytes e = padded entry_length
    (big_bytes 8 e.registrant.key ++ big_bytes 2 (group_code e.registrant.nexus.group e.both)
    ++ big_bytes 6 e.registrant.nexus.port.isid
    ++ length e.registrant.nexus.port.name ∷ e.registrant.nexus.port.name)

-- ---- a slot: its first block, and the entries one behind the other; the one spelling of a record

unfoldable pub slot_bytes : FileVersion → RecordValue → List ℕ
slot_bytes version r =
    padded slot_length (header_block version r ++ flat_map entry_bytes (entries_of version r.registrants))

abbrev pub part_at : List ℕ → ℕ → List ℕ
part_at bytes k = take BLOCK_LENGTH (drop (BLOCK_LENGTH * k) bytes)

abbrev pub slot_block : FileVersion → RecordValue → ℕ → List ℕ
slot_block version r k = part_at (slot_bytes version r) k
