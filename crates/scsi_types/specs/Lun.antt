-- Logical unit numbers (SAM-5, 4.7.5 to 4.7.7): peripheral and flat addressing of units 0 to 255.
use Rattle.std.specs.Prelude.{◌≡◌, ◌⊎◌, ℕ, List, [], ◌∷◌, Option, Some, None}

-- eight bytes that address this unit in the first level
abbrev pub IsLunOf : List ℕ → ℕ → Type 0
IsLunOf bytes unit = (bytes ≡ 0x00 ∷ unit ∷ 0 ∷ 0 ∷ 0 ∷ 0 ∷ 0 ∷ 0 ∷ [])
    ⊎ (bytes ≡ 0x40 ∷ unit ∷ 0 ∷ 0 ∷ 0 ∷ 0 ∷ 0 ∷ 0 ∷ [])

-- the unit that the bytes name, or none where they name none
abbrev pub NamesUnit : List ℕ → Option ℕ → Type 0
NamesUnit bytes (Some unit) = IsLunOf bytes unit
NamesUnit bytes None = (unit : ℕ) → IsLunOf bytes unit → ⊥
