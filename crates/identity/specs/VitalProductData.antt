-- Vital product data (SPC-4, 7.8; SBC-3, Block Limits VPD page).
use Rattle.std.specs.Prelude.{ℕ, suc, zero, ◌+◌, ◌/◌, ◌%◌, ◌^◌, List, [], ◌∷◌, ◌++◌, length, nat_lt, if◌then◌else◌}
use Rattle.scsi_types.specs.Cdb.{most_blocks, most_compared}
use Rattle.scsi_types.specs.Nexus.{group_number}
use Rattle.scsi_types.specs.declared.names.Group.{Group}
use Rattle.scsi_types.specs.declared.names.Place.{Place}
use Rattle.identity.specs.Inquiry.{disk, peripheral_row}
use Rattle.identity.specs.Table.{Row, Byte, Shared, Number, Characters, Reserved, bits, flag, spell}

-- a page of vital product data of a disk: its code, how many bytes follow, and these
abbrev pub vital_product_data : ℕ → List Row → List Row
vital_product_data code rows =
    peripheral_row disk
    ∷ Byte "PAGE CODE" code
    ∷ Number "PAGE LENGTH" 2 (length (spell rows))
    ∷ rows

-- the Supported VPD Pages page
abbrev pub supported_pages : List Row
supported_pages =
    vital_product_data 0x00
    (Byte "Supported VPD Pages" 0x00
    ∷ Byte "Unit Serial Number" 0x80
    ∷ Byte "Device Identification" 0x83
    ∷ Byte "Block Limits" 0xB0
    ∷ [])

-- a digit, as 0 to 9 and a to f
abbrev pub digit : ℕ → ℕ
digit value = if nat_lt value 10 then 0x30 + value else 0x57 + value

-- so many digits of a number in a base, the lowest of them last
abbrev pub digits : ℕ → ℕ → ℕ → List ℕ
digits base zero number = []
digits base (suc k) number = digit (number / base ^ k % base) ∷ digits base k number

-- the Unit Serial Number page: the array and the unit
abbrev pub serial_number : Place → List Row
serial_number place =
    vital_product_data 0x80
    (Characters "PRODUCT SERIAL NUMBER (array)" (digits 16 8 place.array)
    ∷ Characters "PRODUCT SERIAL NUMBER (unit)" (digits 10 2 place.unit)
    ∷ [])

-- what a designator names (ASSOCIATION): the logical unit, or the target port by which the command came
pub data Association : Type 0 where
  LogicalUnit : Association
  TargetPort : Association

-- PROTOCOL IDENTIFIER, PIV and ASSOCIATION: an iSCSI port, where it is a port
abbrev pub association_fields : Association → ℕ × ℕ × ℕ
association_fields LogicalUnit = (0x0, 0, 0x0)
association_fields TargetPort = (0x5, 1, 0x1)

-- a designation descriptor with a binary designator of a type
abbrev pub designation : Association → ℕ → List Row → List Row
designation association designator_type designator =
    let fields : ℕ × ℕ × ℕ = association_fields association in
    Shared (bits "PROTOCOL IDENTIFIER" 4 fields.0 ∷ bits "CODE SET" 4 0x1 ∷ [])
    ∷ Shared (flag "PIV" fields.1 ∷ flag "Reserved" 0 ∷ bits "ASSOCIATION" 2 fields.2
    ∷ bits "DESIGNATOR TYPE" 4 designator_type ∷ [])
    ∷ Reserved 1
    ∷ Byte "DESIGNATOR LENGTH" (length (spell designator))
    ∷ designator

-- the logical unit by an NAA designator, locally assigned: the array and the unit
abbrev pub unit_designation : Place → List Row
unit_designation place =
    designation LogicalUnit 0x3
    (Shared (bits "NAA" 4 0x3 ∷ bits "LOCALLY ADMINISTERED VALUE" 4 0 ∷ [])
    ∷ Byte "LOCALLY ADMINISTERED VALUE" 0
    ∷ Number "LOCALLY ADMINISTERED VALUE (array)" 4 place.array
    ∷ Byte "LOCALLY ADMINISTERED VALUE" 0
    ∷ Byte "LOCALLY ADMINISTERED VALUE (unit)" place.unit
    ∷ [])

-- the port by its relative target port identifier
abbrev pub port_designation : Group → List Row
port_designation group =
    designation TargetPort 0x4 (Reserved 2 ∷ Number "RELATIVE TARGET PORT IDENTIFIER" 2 (group_number group) ∷ [])

-- the port by its target port group
abbrev pub group_designation : Group → List Row
group_designation group = designation TargetPort 0x5 (Reserved 2 ∷ Number "TARGET PORT GROUP" 2 (group_number group) ∷ [])

-- the Device Identification page
abbrev pub device_identification : Place → Group → List Row
device_identification place group =
    vital_product_data 0x83 (unit_designation place ++ port_designation group ++ group_designation group)

-- the Block Limits page (SBC-3): neither UNMAP nor WRITE SAME
abbrev pub block_limits : List Row
block_limits =
    vital_product_data 0xB0
    (Shared (bits "Reserved" 7 0 ∷ flag "WSNZ" 0 ∷ [])
    ∷ Byte "MAXIMUM COMPARE AND WRITE LENGTH" most_compared
    ∷ Number "OPTIMAL TRANSFER LENGTH GRANULARITY" 2 1
    ∷ Number "MAXIMUM TRANSFER LENGTH" 4 most_blocks
    ∷ Number "OPTIMAL TRANSFER LENGTH" 4 most_blocks
    ∷ Number "MAXIMUM PREFETCH LENGTH" 4 0
    ∷ Number "MAXIMUM UNMAP LBA COUNT" 4 0
    ∷ Number "MAXIMUM UNMAP BLOCK DESCRIPTOR COUNT" 4 0
    ∷ Number "OPTIMAL UNMAP GRANULARITY" 4 0
    ∷ Number "UGAVALID and UNMAP GRANULARITY ALIGNMENT" 4 0
    ∷ Number "MAXIMUM WRITE SAME LENGTH" 8 0
    ∷ Reserved 20
    ∷ [])
