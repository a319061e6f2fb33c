-- A stop inside the making of a registration file.
use Rattle.std.proofs.Common.{◌≡◌, inl, inr, ⊎_elim, ℕ, ◌≤◌, List, [], ◌∷◌, ◌∙◌, subst, arith}
use Rattle.registrants.specs.Registry.{IsRecord}
use Rattle.block_file.specs.Disk.{block_at, or_new, IsNewAt, MayLeave, NoMore}
use Rattle.block_file.specs.Moment.{StopsAmong}
use Rattle.block_file.proofs.MomentLaws.{no_time, then_elapses}
use Rattle.aptpl_format.specs.declared.slot.Slot.TheVariants.{First}
use Rattle.aptpl_format.specs.declared.version.FileVersion.TheVariants.{Version2}
use Rattle.aptpl_format.specs.Format.{root_block}
use Rattle.aptpl_file.specs.Formatting.{nothing, LeftInFormat, StopsInFormat}
use Rattle.aptpl_file.specs.Lasts.{SlotLasts}
use Rattle.aptpl_file.proofs.LastsLaws.{slot_left}
use Rattle.aptpl_file.specs.Writes.{beside_slot}
use Rattle.aptpl_file.proofs.Stops.{slot_beside}

module _ (size size' : ℕ) (may mid : ℕ → List ℕ → Type 0) (same : size' ≡ size) (room : 67 ≤ size)
    (within : NoMore (beside_slot First may) mid) (spelled : SlotLasts mid Version2 First nothing)
    (lasting : IsRecord nothing.aptpl nothing.registrants nothing.reservation) where
  -- while the root is written
  under_root : (disk : List (List ℕ)) → MayLeave size' (or_new 0 (root_block Version2 First ∷ []) mid) disk
      → LeftInFormat size may disk
  under_root disk left = ⊎_elim
      (λ (old : mid 0 (block_at disk 0)). inl (record {
        as_long = left.as_long ∙ same;
        each = λ k lt. ⊎_elim
            (λ (m : mid k (block_at disk k)). within k (block_at disk k) m)
            (λ (n : IsNewAt 0 (root_block Version2 First ∷ []) k (block_at disk k)).
            let b = n.below in let z : 0 ≡ k = omega arith in
            subst (λ (j : ℕ). beside_slot First may j (block_at disk j)) z (within 0 (block_at disk 0) old))
            (left.each k (omega arith));
      }))
      (λ (new : IsNewAt 0 (root_block Version2 First ∷ []) 0 (block_at disk 0)). inr (record {
        blocks = omega (arith, left.as_long, room, same);
        lasting = lasting;
        version = Version2;
        slot = First;
        root = new.is;
        spelled = slot_left size' (or_new 0 (root_block Version2 First ∷ []) mid) disk (omega arith) left Version2 First nothing
            (slot_beside mid (root_block Version2 First) Version2 First nothing spelled);
      }))
      (left.each 0 (omega arith))

-- the calls of a format
pub stops_in_format : {D : Type 0} (moment : D → ℕ) (left_since : D → ℕ → List (List ℕ) → Type 0) (size : D → ℕ)
    (may_hold : D → ℕ → List ℕ → Type 0) (old mid new : D) → size mid ≡ size old → 67 ≤ size old
    → NoMore (beside_slot First (may_hold old)) (may_hold mid) → SlotLasts (may_hold mid) Version2 First nothing
    → IsRecord nothing.aptpl nothing.registrants nothing.reservation
    → StopsAmong moment left_since size (beside_slot First (may_hold old)) old mid
    → StopsAmong moment left_since size (or_new 0 (root_block Version2 First ∷ []) (may_hold mid)) mid new
    → StopsInFormat moment left_since size may_hold old new
stops_in_format moment left_since size may_hold old mid new same room within spelled lasting first second =
    then_elapses (moment old) (moment mid) (moment new) (left_since old) (left_since mid) (left_since new)
    (LeftInFormat (size old) (may_hold old)) (MayLeave (size mid) (or_new 0 (root_block Version2 First ∷ []) (may_hold mid)))
    (then_elapses (moment old) (moment old) (moment mid) (left_since old) (left_since old) (left_since mid)
    (LeftInFormat (size old) (may_hold old)) (MayLeave (size old) (beside_slot First (may_hold old)))
    (no_time (moment old) (left_since old) (LeftInFormat (size old) (may_hold old))) first (λ disk left. inl left))
    second
    (under_root (size old) (size mid) (may_hold old) (may_hold mid) same room within spelled lasting)
