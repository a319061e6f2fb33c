-- READ CAPACITY data of a unit of so many blocks.
use Rattle.std.specs.Prelude.{ℕ, ◌-◌, List, [], ◌∷◌}
use Rattle.identity.specs.Table.{Row, Byte, Shared, Number, Reserved, bits, flag}

-- the bytes of a block
abbrev pub block_length : ℕ
block_length = 512

-- READ CAPACITY (10) parameter data (SBC-3, READ CAPACITY (10) command)
abbrev pub capacity_10 : ℕ → List Row
capacity_10 blocks =
    Number "RETURNED LOGICAL BLOCK ADDRESS" 4 (blocks - 1)
    ∷ Number "LOGICAL BLOCK LENGTH IN BYTES" 4 block_length
    ∷ []

-- READ CAPACITY (16) parameter data (SBC-3, READ CAPACITY (16) command): no protection information, one logical block a
-- physical block, no provisioning management, block 0 aligned
abbrev pub capacity_16 : ℕ → List Row
capacity_16 blocks =
    Number "RETURNED LOGICAL BLOCK ADDRESS" 8 (blocks - 1)
    ∷ Number "LOGICAL BLOCK LENGTH IN BYTES" 4 block_length
    ∷ Shared (bits "Reserved" 4 0 ∷ bits "P_TYPE" 3 0 ∷ flag "PROT_EN" 0 ∷ [])
    ∷ Shared (bits "P_I_EXPONENT" 4 0 ∷ bits "LOGICAL BLOCKS PER PHYSICAL BLOCK EXPONENT" 4 0 ∷ [])
    ∷ Shared (flag "LBPME" 0 ∷ flag "LBPRZ" 0 ∷ bits "LOWEST ALIGNED LOGICAL BLOCK ADDRESS (high)" 6 0 ∷ [])
    ∷ Byte "LOWEST ALIGNED LOGICAL BLOCK ADDRESS (low)" 0
    ∷ Reserved 16
    ∷ []
