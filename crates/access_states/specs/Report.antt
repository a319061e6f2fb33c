-- REPORT TARGET PORT GROUPS data (SPC-4, 6.37), in the format without an extended header.
use Rattle.std.specs.Prelude.{ℕ, ◌+◌, List, [], ◌∷◌, ◌++◌, length}
use Rattle.byteorder.specs.Endian.{big_bytes}
use Rattle.scsi_types.specs.Nexus.{group_number}
use Rattle.scsi_types.specs.declared.names.Group.{Group}
use Rattle.scsi_types.specs.declared.names.Group.TheVariants.{One, Two}
use Rattle.access_states.specs.declared.state.GroupAccess.{GroupAccess}
use Rattle.access_states.specs.AccessMap.{AccessMapValue}
use Rattle.access_states.specs.State.{state_code, status_code}

-- PREF, the highest bit of the byte whose low half is ASYMMETRIC ACCESS STATE
abbrev pub pref_bit : Group → Group → ℕ
pref_bit One One = 0x80
pref_bit One Two = 0x00
pref_bit Two One = 0x00
pref_bit Two Two = 0x80

-- the supported states: U_SUP, S_SUP, AN_SUP and AO_SUP
abbrev pub supported_states : ℕ
supported_states = 0x0F

-- a target port group descriptor: PREF and ASYMMETRIC ACCESS STATE; the supported states; TARGET PORT GROUP; a reserved
-- byte; STATUS CODE; a vendor specific byte; TARGET PORT COUNT, and the descriptor of the one port: two reserved bytes and
-- the RELATIVE TARGET PORT IDENTIFIER, which is the number of its group
abbrev pub group_descriptor : Group → Group → GroupAccess → List ℕ
group_descriptor preferred group access =
    (pref_bit preferred group + state_code access.state) ∷ supported_states ∷ 0 ∷ group_number group ∷ 0
    ∷ status_code access.altered ∷ 0 ∷ 1 ∷ 0 ∷ 0 ∷ 0 ∷ group_number group ∷ []

abbrev pub group_descriptors : Group → AccessMapValue → List ℕ
group_descriptors preferred map = group_descriptor preferred One map.one ++ group_descriptor preferred Two map.two

-- RETURN DATA LENGTH, and the descriptor of each group
unfoldable pub report_bytes : Group → AccessMapValue → List ℕ
report_bytes preferred map = big_bytes 4 (length (group_descriptors preferred map)) ++ group_descriptors preferred map
