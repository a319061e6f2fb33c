-- Eight bytes, of which the last six are known.
use Rattle.std.proofs.Common.{◌≡◌, ℕ, List, [], ◌∷◌, length, take, drop, get_or, arith}
use Rattle.std.proofs.lemmas.List.{take_all}

pub last_six : (bytes six : List ℕ) → length bytes ≡ 8 → take 6 (drop 2 bytes) ≡ six
    → bytes ≡ get_or bytes 0 0 ∷ get_or bytes 1 0 ∷ six
last_six [] six n h = absurd (omega arith)
last_six (a ∷ []) six n h = absurd (omega arith)
last_six (a ∷ b ∷ rest) six n h = let whole = take_all 6 rest (omega arith) in cc
