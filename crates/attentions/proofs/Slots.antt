-- The first so many of five slots.
use Rattle.std.proofs.Common.{◌≡◌, ℕ, zero, suc, ◌+◌, ◌-◌, ◌<◌, ◌≤◌, List, [], ◌∷◌, ◌++◌, length, take, drop}
use Rattle.std.proofs.Common.{set, false, true, length-take-le, refl, arith}
use Rattle.std.proofs.lemmas.Grind.{common_steps}
use Rattle.std.proofs.lemmas.List.{take_more_set}
use Rattle.scsi_types.specs.declared.attention.UnitAttention.{UnitAttention}
use Rattle.attentions.specs.Queue.{is_pending, without_repeats}
use Rattle.attentions.proofs.Repeats.{room}

pub none_taken : {X : Type 0} (n : ℕ) (slots : List X) → n ≤ length slots → take n slots ≡ [] → n ≡ 0
none_taken zero slots le h = refl
none_taken (suc n) [] le h = absurd (omega arith)
none_taken (suc n) (x ∷ slots) le h = absurd cc

pub first_set : {X : Type 0} (slots : List X) (x : X) → 0 < length slots → take 1 (set slots 0 x) ≡ x ∷ []
first_set [] x h = absurd (omega arith)
first_set (y ∷ slots) x h = refl

-- after the first slot went behind the others
pub rotated : {X : Type 0} (n : ℕ) (slots : List X) → 0 < n → n ≤ length slots
    → take (n - 1) (drop 1 slots ++ take 1 slots) ≡ drop 1 (take n slots)
rotated n slots lt le = grind (arith, common_steps)

-- what the slots hold: five, of which so many are taken, by conditions of which none is there twice
pub record Holds (n : ℕ) (slots : List UnitAttention) : Type 0 where
  pub five : length slots ≡ 5
  pub within : n ≤ 5
  pub distinct : without_repeats (take n slots) ≡ true

-- a condition that does not wait has a slot
pub free : (n : ℕ) (slots : List UnitAttention) (code : UnitAttention) → Holds n slots
    → is_pending (take n slots) code ≡ false → n < 5
free n slots code h fresh =
    let fits : n ≤ length slots = omega (arith, h.five, h.within) in
    omega (arith, room code (take n slots) h.distinct fresh, length-take-le n slots fits)

-- it is put there
pub put : (n : ℕ) (slots : List UnitAttention) (code : UnitAttention) → Holds n slots
    → is_pending (take n slots) code ≡ false → take (n + 1) (set slots n code) ≡ take n slots ++ code ∷ []
put n slots code h fresh = take_more_set slots n code (omega (arith, h.five, free n slots code h fresh))
