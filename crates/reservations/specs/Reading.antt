-- The data of PERSISTENT RESERVE IN (SPC-4, 6.15), before it is cut to the allocation length.
use Rattle.std.specs.Prelude.{ℕ, ◌+◌, ◌-◌, ◌/◌, ◌%◌, Bool, nat_lt, if◌then◌else◌, List, [], ◌∷◌, ◌++◌, length}
use Rattle.std.specs.Prelude.{replicate, Option, Some, None}
use Rattle.std.specs.List.{flat_map}
use Rattle.std.specs.Option.{unwrap_or}
use Rattle.byteorder.specs.Endian.{big_bytes}
use Rattle.scsi_types.specs.Nexus.{Port, group_number}
use Rattle.registrants.specs.declared.registrant.Registrant.{Registrant}
use Rattle.registrants.specs.declared.registrant.Reservation.{Reservation}
use Rattle.registrants.specs.Kind.{type_code}
use Rattle.registrants.specs.Registry.{RegistryValue, key_in, is_held_by}

-- PRGENERATION, ADDITIONAL LENGTH, and the bytes that it counts
abbrev pub counted_bytes : ℕ → List ℕ → List ℕ
counted_bytes generation bytes = big_bytes 4 generation ++ big_bytes 4 (length bytes) ++ bytes

-- READ KEYS: the key of each registrant
abbrev pub key_bytes : Registrant → List ℕ
key_bytes x = big_bytes 8 x.key

abbrev pub keys_bytes : RegistryValue → List ℕ
keys_bytes r = counted_bytes r.generation (flat_map key_bytes r.registrants)

-- READ RESERVATION: the holder's key, where types 7 and 8 name none and have 0; obsolete and reserved bytes; SCOPE, which
-- is 0, and TYPE; obsolete bytes
abbrev pub reservation_bytes_of : Option Reservation → List Registrant → List ℕ
reservation_bytes_of None registrants = []
reservation_bytes_of (Some held) registrants =
    big_bytes 8 (unwrap_or (key_in registrants held.holder) 0) ++ 0 ∷ 0 ∷ 0 ∷ 0 ∷ 0 ∷ type_code held.kind ∷ 0 ∷ 0 ∷ []

abbrev pub reservation_bytes : RegistryValue → List ℕ
reservation_bytes r = counted_bytes r.generation (reservation_bytes_of r.reservation r.registrants)

-- REPORT CAPABILITIES: LENGTH 8; ATP_C and PTPL_C; TMV with PTPL_A; the mask of the six types; reserved bytes
abbrev pub capabilities_bytes : Bool → List ℕ
capabilities_bytes aptpl = 0x00 ∷ 0x08 ∷ 0x05 ∷ (if aptpl then 0x81 else 0x80) ∷ 0xEA ∷ 0x01 ∷ 0x00 ∷ 0x00 ∷ []

-- ---- READ FULL STATUS

-- a hexadecimal digit, with small letters
abbrev pub digit : ℕ → ℕ
digit d = if nat_lt d 10 then 0x30 + d else 0x57 + d

abbrev pub two_digits : ℕ → List ℕ
two_digits b = digit (b / 16) ∷ digit (b % 16) ∷ []

-- the name of an initiator port: the InitiatorName, `,i,0x`, the ISID's twelve digits, and a zero
unfoldable pub port_text : Port → List ℕ
port_text p = p.name ++ 0x2C ∷ 0x69 ∷ 0x2C ∷ 0x30 ∷ 0x78 ∷ flat_map two_digits (big_bytes 6 p.isid) ++ 0 ∷ []

-- with zeros to a multiple of 4 bytes; that makes at least the 20 bytes that a TransportID has
unfoldable pub padded : List ℕ → List ℕ
padded text = text ++ replicate ((4 - length text % 4) % 4) 0

-- the TransportID of an iSCSI initiator port (SPC-4, 7.6.4.6): FORMAT CODE 01b with PROTOCOL IDENTIFIER 5h, a reserved
-- byte, ADDITIONAL LENGTH, and the name
unfoldable pub transport_id : Port → List ℕ
transport_id p = 0x45 ∷ 0x00 ∷ big_bytes 2 (length (padded (port_text p))) ++ padded (port_text p)

-- a full status descriptor: the key, reserved bytes, R_HOLDER, SCOPE and TYPE, reserved bytes, the relative target port,
-- ADDITIONAL DESCRIPTOR LENGTH and the TransportID
unfoldable pub descriptor_bytes : ℕ → ℕ → ℕ → ℕ → List ℕ → List ℕ
descriptor_bytes key r_holder scope_and_type relative_port id =
    big_bytes 8 key ++ 0 ∷ 0 ∷ 0 ∷ 0 ∷ r_holder ∷ scope_and_type ∷ 0 ∷ 0 ∷ 0 ∷ 0 ∷ big_bytes 2 relative_port
    ++ big_bytes 4 (length id) ++ id

abbrev pub held_type : Option Reservation → ℕ
held_type None = 0
held_type (Some held) = type_code held.kind

abbrev pub holding_or : ℕ → RegistryValue → Registrant → ℕ
holding_or value r x = if is_held_by r.reservation r.registrants x.nexus then value else 0

abbrev pub descriptor_of : RegistryValue → Registrant → List ℕ
descriptor_of r x =
    descriptor_bytes x.key (holding_or 1 r x) (holding_or (held_type r.reservation) r x) (group_number x.nexus.group)
    (transport_id x.nexus.port)

abbrev pub full_status_bytes : RegistryValue → List ℕ
full_status_bytes r = counted_bytes r.generation (flat_map (descriptor_of r) r.registrants)
