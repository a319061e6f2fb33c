-- What a power loss may leave of a device that was worked on.
use Rattle.std.proofs.Common.{◌≡◌, ℕ, Bool, List, Option, Some, None, sym, subst, ap, ◌∙◌}
use Rattle.std.specs.Prelude.{IsTrue}
use Rattle.block_file.specs.Disk.{NoMore, or_new, range_bytes}
use Rattle.block_file.specs.Moment.{StopsAmong}
use Rattle.block_file.proofs.MomentLaws.{stops_then}
use Rattle.compare_write.specs.Difference.{first_difference}
use Rattle.compare_write.proofs.DifferenceLaws.{differs_nowhere}
use Rattle.compare_write.specs.Ends.{IsCompareEnd, IsSyncEnd, OnMiscompare, OnUnwritten, OnWriting}
use Rattle.compare_write.specs.Instances.{compare_instance, write_instance}
use Rattle.compare_write.specs.declared.end.MediumEnd.{MediumEnd}
use Rattle.compare_write.specs.declared.end.MediumEnd.TheVariants as ends
use Rattle.unit_control.specs.Choice.{ReadFailed, WriteFailed}
use Rattle.unit_control.specs.Crash.{LeavesAmong, holds_after, holds_compared}
use Rattle.unit_control.specs.Medium.{Range, Compares, difference_in}
use Rattle.unit_control.specs.Worked.{choice_at}

module _ {D : Type 0} (claims_moments : Bool) (moment : D → ℕ) (left_since : D → ℕ → List (List ℕ) → Type 0)
    (size : D → ℕ) (may_hold : D → ℕ → List ℕ → Type 0) where
  abbrev Left : (ℕ → List ℕ → Type 0) → D → D → Type 0
  Left values old new = LeavesAmong claims_moments moment left_since size may_hold values old new

  -- calls, and then more that add nothing
  pub left_then : (values : ℕ → List ℕ → Type 0) (old mid new : D) → size mid ≡ size old → Left values old mid
      → Left (may_hold mid) mid new → Left values old new
  left_then values old mid new same first second = record {
    crash = λ k v h. first.crash k v (second.crash k v h);
    stop = λ h. stops_then moment left_since size old mid new values (may_hold mid) (first.stop h) (second.stop h) same
        first.crash;
  }

  -- ---- a compare, and a write where nothing differs

  pub unwritten_left : (old new : D) (end : MediumEnd) → OnUnwritten end (NoMore (may_hold old) (may_hold new))
      → (IsTrue claims_moments → OnUnwritten end (StopsAmong moment left_since size (may_hold old) old new))
      → OnUnwritten end (Left (may_hold old) old new)
  unwritten_left old new ends.Done crash stop = tt
  unwritten_left old new (ends.Miscompare at) crash stop = record { crash = crash; stop = stop }
  unwritten_left old new ends.ReadFailed crash stop = record { crash = crash; stop = stop }
  unwritten_left old new ends.WriteFailed crash stop = tt
  unwritten_left old new ends.FlushFailed crash stop = tt

  module _ (blocks : List (List ℕ)) (r : Range) (bytes : List ℕ) (fua : Bool) (old new : D) (after : List (List ℕ)) where
    abbrev equal : Type 0
    equal = range_bytes blocks r.lba r.blocks ≡ compare_instance r.blocks bytes

    abbrev wrote : ℕ → List ℕ → Type 0
    wrote = or_new r.lba (write_instance r.blocks bytes) (may_hold old)

    written_left : equal → Left wrote old new
        → Left (holds_compared (difference_in blocks r bytes) r bytes (may_hold old)) old new
    written_left same left =
        let none : difference_in blocks r bytes ≡ None =
        ap (λ (h : List ℕ). first_difference h (compare_instance r.blocks bytes)) same
        ∙ differs_nowhere (compare_instance r.blocks bytes) in
        subst (λ (o : Option ℕ). Left (holds_compared o r bytes (may_hold old)) old new) (sym none) left

    pub compare_left : (end : MediumEnd) → IsCompareEnd end → OnWriting end equal
        → OnMiscompare end (λ at. difference_in blocks r bytes ≡ Some at)
        → OnUnwritten end (Left (may_hold old) old new) → Left wrote old new
        → Left (holds_after blocks (Compares r bytes fua) (choice_at end after) (may_hold old)) old new
    compare_left ends.Done is same differs unwritten left = written_left same left
    compare_left (ends.Miscompare at) is same differs unwritten left =
        subst (λ (o : Option ℕ). Left (holds_compared o r bytes (may_hold old)) old new) (sym differs) unwritten
    compare_left ends.ReadFailed is same differs unwritten left = unwritten
    compare_left ends.WriteFailed is same differs unwritten left = left
    compare_left ends.FlushFailed is same differs unwritten left = absurd is

    pub flushed_left : (end : MediumEnd) → IsSyncEnd end → equal → Left wrote old new
        → Left (holds_after blocks (Compares r bytes fua) (choice_at end after) (may_hold old)) old new
    flushed_left ends.Done is same left = written_left same left
    flushed_left ends.FlushFailed is same left = left
    flushed_left (ends.Miscompare at) is same left = absurd is
    flushed_left ends.ReadFailed is same left = absurd is
    flushed_left ends.WriteFailed is same left = absurd is
