-- Standard INQUIRY data (SPC-4, 6.6.2).
use Rattle.std.specs.Prelude.{ℕ, List, [], ◌∷◌, codes}
use Rattle.identity.specs.Table.{Row, Byte, Shared, Characters, bits, flag}

-- what stands behind the logical unit number
pub record Peripheral : Type 0 where
  pub qualifier : ℕ
  pub device_type : ℕ

-- a direct access block device, which is connected
abbrev pub disk : Peripheral
disk = record { qualifier = 0x0; device_type = 0x00 }

-- nothing: no device can be there
abbrev pub nothing : Peripheral
nothing = record { qualifier = 0x3; device_type = 0x1F }

-- the byte in which INQUIRY data of every page begins
abbrev pub peripheral_row : Peripheral → Row
peripheral_row p = Shared (bits "PERIPHERAL QUALIFIER" 3 p.qualifier ∷ bits "PERIPHERAL DEVICE TYPE" 5 p.device_type ∷ [])

-- SPC-4; implicit and explicit asymmetric logical unit access; several ports; command queuing
abbrev pub standard_inquiry : Peripheral → List Row
standard_inquiry peripheral =
    peripheral_row peripheral
    ∷ Shared (flag "RMB" 0 ∷ flag "LU_CONG" 0 ∷ bits "Reserved" 6 0 ∷ [])
    ∷ Byte "VERSION" 0x06
    ∷ Shared (bits "Reserved" 2 0 ∷ flag "NORMACA" 0 ∷ flag "HISUP" 1 ∷ bits "RESPONSE DATA FORMAT" 4 0x2 ∷ [])
    ∷ Byte "ADDITIONAL LENGTH" 31
    ∷ Shared (flag "SCCS" 0 ∷ flag "ACC" 0 ∷ bits "TPGS" 2 3 ∷ flag "3PC" 0 ∷ bits "Reserved" 2 0 ∷ flag "PROTECT" 0 ∷ [])
    ∷ Shared (flag "Obsolete" 0 ∷ flag "ENCSERV" 0 ∷ flag "VS" 0 ∷ flag "MULTIP" 1 ∷ bits "Obsolete" 4 0 ∷ [])
    ∷ Shared (bits "Obsolete" 6 0 ∷ flag "CMDQUE" 1 ∷ flag "VS" 0 ∷ [])
    ∷ Characters "T10 VENDOR IDENTIFICATION" (codes "TWINCTL ")
    ∷ Characters "PRODUCT IDENTIFICATION" (codes "ALUA DISK       ")
    ∷ Characters "PRODUCT REVISION LEVEL" (codes "0001")
    ∷ []
