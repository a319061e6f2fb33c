-- Laws of disks as lists of blocks, for the proofs of those who write and read them.
use Rattle.std.proofs.Common.{◌≡◌, ◌⊎◌, inl, inr, ℕ, ◌+◌, ◌-◌, ◌<◌, ◌≤◌, List, []}
use Rattle.std.proofs.Common.{◌++◌, length, get_or, take, drop, refl, ◌∙◌, ap}
use Rattle.std.proofs.Common.{arith, append_assoc, length-append, length-take, length-drop}
use Rattle.std.proofs.lemmas.Bool.{cases_lt}
use Rattle.std.proofs.lemmas.Grind.{common_steps}
use Rattle.std.proofs.lemmas.List.{take-append-drop}
use Rattle.std.proofs.lemmas.List.{get_or-drop, get_or-take, get_or-append_right, append-nil}
use Rattle.block_file.specs.Disk.{block_at, written, Between, IsNewAt}

get_or-append_left : (xs ys : List (List ℕ)) (i : ℕ) (d : List ℕ) → i < length xs
    → get_or (xs ++ ys) i d ≡ get_or xs i d
get_or-append_left xs ys i d lt = grind (arith, common_steps)

module _ (disk blocks : List (List ℕ)) (first : ℕ) (fits : first + length blocks ≤ length disk) where
  regrouped : written disk first blocks ≡ take first disk ++ (blocks ++ drop (first + length blocks) disk)
  regrouped = append_assoc (take first disk) blocks (drop (first + length blocks) disk)

  front_long : length (take first disk) ≡ first
  front_long = omega (arith, length-take first disk)

  -- a write keeps the number of blocks
  pub length-written : length (written disk first blocks) ≡ length disk
  length-written =
      omega (
        arith,
        front_long,
        length-append (take first disk ++ blocks) (drop (first + length blocks) disk),
        length-append (take first disk) blocks,
        length-drop (first + length blocks) disk,
      )

  -- the blocks before the range
  pub written_before : (k : ℕ) → k < first → block_at (written disk first blocks) k ≡ block_at disk k
  written_before k lt =
      ap (λ (d : List (List ℕ)). get_or d k []) regrouped
      ∙ get_or-append_left (take first disk) (blocks ++ drop (first + length blocks) disk) k []
      (omega (arith, front_long))
      ∙ get_or-take first disk k [] lt

  -- the blocks of the range
  pub written_inside : (k : ℕ) → first ≤ k → k < first + length blocks
      → block_at (written disk first blocks) k ≡ block_at blocks (k - first)
  written_inside k ge lt =
      ap (λ (d : List (List ℕ)). get_or d k []) regrouped
      ∙ get_or-append_right (take first disk) (blocks ++ drop (first + length blocks) disk) first k [] front_long ge
      ∙ get_or-append_left blocks (drop (first + length blocks) disk) (k - first) [] (omega arith)

  -- the blocks behind the range
  pub written_behind : (k : ℕ) → first + length blocks ≤ k → block_at (written disk first blocks) k ≡ block_at disk k
  written_behind k past =
      let e : first + length blocks + (k - first - length blocks) ≡ k = omega arith in
      ap (λ (d : List (List ℕ)). get_or d k []) regrouped
      ∙ get_or-append_right (take first disk) (blocks ++ drop (first + length blocks) disk) first k [] front_long
      (omega arith)
      ∙ get_or-append_right blocks (drop (first + length blocks) disk) (length blocks) (k - first) [] refl (omega arith)
      ∙ get_or-drop (first + length blocks) disk (k - first - length blocks) [] ∙ ap (λ (m : ℕ). get_or disk m []) e

  each_block : (k : ℕ) → (k < first) ⊎ (first ≤ k) → (k < first + length blocks) ⊎ (first + length blocks ≤ k)
      → (block_at (written disk first blocks) k ≡ block_at disk k)
      ⊎ IsNewAt first blocks k (block_at (written disk first blocks) k)
  each_block k (inl lt) _ = inl (written_before k lt)
  each_block k (inr ge) (inl lt) = inr (record { from = ge; below = lt; is = written_inside k ge lt })
  each_block k (inr ge) (inr past) = inl (written_behind k past)

  -- a whole write is one of the states that a stopped write may leave
  pub between_written : Between disk first blocks (written disk first blocks)
  between_written =
      record {
        as_long = length-written;
        each = λ k. each_block k (cases_lt k first) (cases_lt k (first + length blocks));
      }

-- no block is written
pub written_none : (disk : List (List ℕ)) (first : ℕ) → written disk first [] ≡ disk
written_none disk first =
    let e : first + 0 ≡ first = omega arith in
    ap (λ (d : List (List ℕ)). d ++ drop (first + 0) disk) (append-nil (take first disk))
    ∙ ap (λ (m : ℕ). take first disk ++ drop m disk) e ∙ take-append-drop first disk
