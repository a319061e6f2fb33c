-- Where two runs of bytes differ first (SBC-3, COMPARE AND WRITE command: the INFORMATION field).
use Rattle.std.specs.Prelude.{◌==◌, ℕ, not, List, Option, position, zip}

-- the offset of the first byte that differs, where one does
abbrev pub first_difference : List ℕ → List ℕ → Option ℕ
first_difference xs ys = position (λ pair. not (pair.0 == pair.1)) (zip xs ys)
