-- What is read after a write.
use Rattle.std.proofs.Common.{◌≡◌, ℕ, ◌+◌, ◌*◌, ◌≤◌, Bool, List, length, take, Option, Some, None, Ok, ap, arith}
use Rattle.block_file.specs.Cut.{cut}
use Rattle.block_file.specs.Disk.{written, range_bytes}
use Rattle.block_file.proofs.ReadBack.{written_is_read}
use Rattle.scsi_types.specs.ReplyValue.{ReplyValue, good}
use Rattle.scsi_types.specs.declared.names.Group.{Group}
use Rattle.scsi_types.specs.declared.command.Command.TheVariants.{Read, Write}
use Rattle.unit_control.specs.State.{UnitState}
use Rattle.unit_control.specs.Choice.{Fine}
use Rattle.unit_control.specs.Medium.{Range}
use Rattle.unit_control.specs.Entry.{Command, after, reply_to}
use Rattle.unit_control.specs.Refusal.{refusal, request}
use Rattle.unit_state.proofs.Order.{ranged, within}

-- a READ after the WRITE
module _ (s : UnitState) (session serial : ℕ) (by_group : Group) (reader next : ℕ) (through : Group) (lba blocks : ℕ)
    (fua past : Bool) (bytes none : List ℕ) where
  abbrev wrote : UnitState
  wrote = after s (Command session serial by_group (Ok (Write lba blocks fua)) bytes Fine)

  abbrev range : Range
  range = record { lba = lba; blocks = blocks }

  pub read_after : length s.blocks ≡ s.control.total
      → refusal s.control (request session (Ok (Write lba blocks fua)) bytes) ≡ None
      → refusal wrote.control (request reader (Ok (Read lba blocks past)) none) ≡ None
      → reply_to wrote (Command reader next through (Ok (Read lba blocks past)) none Fine) ≡ Some
      (good (take (512 * blocks) bytes))
  read_after whole h reads =
      let inside : lba + blocks ≤ s.control.total =
      within s.control.total range (ranged s.control (request session (Ok (Write lba blocks fua)) bytes) h) in
      let read : range_bytes (written s.blocks lba (cut blocks bytes)) lba blocks ≡ take (512 * blocks) bytes =
      written_is_read s.blocks lba blocks bytes (omega (arith, whole, inside)) in
      rw reads (rw h (ap (λ (b : List ℕ). let o : Option ReplyValue = Some (good b) in o) read))
