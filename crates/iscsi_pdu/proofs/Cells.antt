-- A field of as many bytes as the list has.
use Rattle.std.proofs.Common.{◌≡◌, ℕ, zero, suc, List, [], ◌∷◌, length, refl, ap, arith}
use Rattle.iscsi_pdu.specs.Spelling.{cells}

pub cells-whole : (n : ℕ) (l : List ℕ) → length l ≡ n → l ≡ cells n l
cells-whole zero [] h = refl
cells-whole zero (x ∷ xs) h = absurd (omega arith)
cells-whole (suc n) [] h = absurd (omega arith)
cells-whole (suc n) (x ∷ xs) h = ap (λ (l : List ℕ). x ∷ l) (cells-whole n xs (omega arith))
