-- The writes of a slot and of a root.
use Rattle.std.proofs.Common.{◌≡◌, inl, inr, ⊎_elim, ℕ, ◌+◌, ◌-◌, ◌/◌, ◌<◌, ◌≤◌, List, [], ◌∷◌, length}
use Rattle.std.proofs.Common.{◌∙◌, ap, arith}
use Rattle.registrants.specs.Registry.{RecordValue}
use Rattle.block_file.specs.Cut.{cut, run_of}
use Rattle.block_file.specs.CutLaws.{cut_at, length-cut, run_of_one}
use Rattle.block_file.specs.Disk.{block_at, or_new, written, IsNewAt, NoMore, Only}
use Rattle.block_file.specs.DiskLaws.{written_inside}
use Rattle.aptpl_format.specs.declared.slot.Slot.{Slot}
use Rattle.aptpl_format.specs.Format.{first_block, part_at, root_block, slot_block}
use Rattle.aptpl_file.specs.Lasts.{RootLasts, SlotLasts}
use Rattle.aptpl_file.proofs.LastsLaws.{slot_within}
use Rattle.aptpl_format.specs.declared.version.FileVersion.{FileVersion}
use Rattle.aptpl_file.specs.Writes.{beside_slot}

module _ (slot : Slot) (bytes : List ℕ) (long : length bytes ≡ 16896) (first : ℕ) (at : first ≡ first_block slot) where
  as_many : length (run_of bytes) ≡ 33
  as_many = let e : length bytes / 512 ≡ 33 = omega (arith, long) in
      ap (λ (m : ℕ). length (cut m bytes)) e ∙ length-cut 33 bytes

  -- the slot's blocks were written, and nothing else may stand there
  pub slot_lasts : (v : FileVersion) (r : RecordValue) (old : List (List ℕ)) (may_hold : ℕ → List ℕ → Type 0) → 67 ≤ length old
      → ((k : ℕ) → k < 33 → part_at bytes k ≡ slot_block v r k) → Only (written old first (run_of bytes)) may_hold
      → SlotLasts may_hold v slot r
  slot_lasts v r old may_hold room spelled only k value lt held =
      let within : first_block slot + 32 < 67 = slot_within slot 32 (omega arith) in
      let e : length bytes / 512 ≡ 33 = omega (arith, long) in
      let place : first_block slot + k - first ≡ k = omega (arith, at) in
      only (first_block slot + k) value held
      ∙ written_inside old (run_of bytes) first (omega (arith, as_many, at)) (first_block slot + k)
      (omega (arith, at)) (omega (arith, as_many, at))
      ∙ ap (λ (m : ℕ). block_at (cut m bytes) (first_block slot + k - first)) e
      ∙ ap (block_at (cut 33 bytes)) place ∙ cut_at 33 bytes k lt ∙ spelled k lt

  -- what a crash may leave beside the slot
  pub new_beside : (may_hold : ℕ → List ℕ → Type 0) → NoMore (beside_slot slot may_hold) (or_new first (run_of bytes) may_hold)
  new_beside may_hold k value may =
      ⊎_elim (λ m. inl m)
      (λ (n : IsNewAt first (run_of bytes) k value).
      let b = n.below in
      let f = n.from in inr (record { from = omega (arith, at, f); below = omega (arith, as_many, at, b) }))
      may

-- the root was written, and nothing else may stand there
pub root_lasts : (version : FileVersion) (slot : Slot) (root : List ℕ) (old : List (List ℕ)) (may_hold : ℕ → List ℕ → Type 0)
    → root ≡ root_block version slot → length root ≡ 512 → 67 ≤ length old → Only (written old 0 (run_of root)) may_hold
    → RootLasts may_hold version slot
root_lasts version slot root old may_hold is size room only value held =
    only 0 value held
    ∙ ap (λ (blocks : List (List ℕ)). block_at (written old 0 blocks) 0) (run_of_one root size)
    ∙ written_inside old (root ∷ []) 0 (omega arith) 0 (omega arith) (omega arith) ∙ is
