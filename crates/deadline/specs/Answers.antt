-- What the thread of a device answers: that the device was called so, and how that ended.
use Rattle.std.specs.Prelude.{◌≡◌, ◌<◌, ◌≤◌, ◌+◌, ◌*◌, ◌⊎◌, ℕ, ◌/◌, Bool, IsTrue, List, [], false, length, min}
use Rattle.block_file.specs.declared.blocks.Blocks as of_blocks
use Rattle.block_file.specs.declared.blocks.TheConstants.{BLOCK_LENGTH}
use Rattle.block_file.specs.declared.opener.Opener as of_opener
use Rattle.block_file.specs.Cut.{run_of}
use Rattle.block_file.specs.Disk.{range_bytes, written, Only}
use Rattle.block_file.specs.Failures.{last_count}
use Rattle.disk_files.specs.Lasting.{IsSettled}
use Rattle.disk_preparer.specs.declared.Node.{Node}
use Rattle.disk_preparer.specs.declared.OnDisk as of_place
use Rattle.disk_preparer.specs.Beside.{was_read}
use Rattle.deadline.specs.declared.request.Wanted.{Wanted}
use Rattle.deadline.specs.declared.request.Wanted.TheVariants.{Read, Write, Flush, Open}

-- What a thread is asked, or was, as contracts see it, and the number of its asking. What was answered is of this file, and so many
-- writes of the device had ended by then.
pub record RequestValue : Type 0 where
  pub serial : ℕ
  pub wanted : Wanted
  pub bytes : List ℕ
  pub disk : Node
  pub writes : ℕ
  pub is_done : Bool

-- What a device that a thread keeps says of itself and of its calls (`FileDevice`), and what opens it anew, by the names of their traits.
pub record Calls (B O : Type 0) : Type 1 where
  pub blocks : of_blocks.Ghosts B
  pub place : of_place.Ghosts B
  pub has_read : Node → ℕ → List ℕ → Type 0
  pub has_written : Node → ℕ → List ℕ → Type 0
  pub lasts : Node → ℕ → Type 0
  pub writes : B → ℕ
  pub is_lost : B → Bool
  pub opener : of_opener.Ghosts O B

abbrev pub calls : {B O : Type 0} → of_blocks.Ghosts B → of_place.Ghosts B → (Node → ℕ → List ℕ → Type 0)
    → (Node → ℕ → List ℕ → Type 0) → (Node → ℕ → Type 0) → (B → ℕ) → (B → Bool) → of_opener.Ghosts O B → Calls B O
calls blocks place has_read has_written lasts writes is_lost opener = record {
  blocks = blocks;
  place = place;
  has_read = has_read;
  has_written = has_written;
  lasts = lasts;
  writes = writes;
  is_lost = is_lost;
  opener = opener;
}

module _ {B O : Type 0} (c : Calls B O) where
  -- the device of this file gave these bytes, from this block on
  pub record HasRead (disk : Node) (first : ℕ) (bytes : List ℕ) : Type 0 where
    pub device : B
    pub over : c.place.disk device ≡ disk
    pub said : c.has_read disk (BLOCK_LENGTH * first) bytes
    pub read : IsTrue c.blocks.claims → bytes ≡ range_bytes (c.blocks.contents device) first (length bytes / BLOCK_LENGTH)

  -- These blocks are what the device gave; or they were read beside it by a read that began when so many of its writes had come back, as
  -- many as have now. So none has come back since.
  abbrev pub WereGiven : Node → ℕ → ℕ → List ℕ → Type 0
  WereGiven disk first writes blocks =
      HasRead disk first blocks ⊎ ((writes < last_count) × IsTrue (was_read disk first writes blocks))

  -- these bytes were written to this file, from this block on, by a write of the device that was the last of so many which have ended
  pub record HasWritten (disk : Node) (first : ℕ) (bytes : List ℕ) (writes : ℕ) : Type 0 where
    pub before : B
    pub after : B
    pub over : c.place.disk before ≡ disk
    pub said : c.has_written disk (BLOCK_LENGTH * first) bytes
    pub ended : c.writes after ≡ writes
    pub last : writes ≡ min (c.writes before + 1) last_count
    pub wrote : IsTrue c.blocks.claims → c.blocks.contents after ≡ written (c.blocks.contents before) first (run_of bytes)

  -- the device of this file, of which no flush had failed, was flushed: a flush of the file has ended well that began behind so many of
  -- its writes, or behind more
  pub record HasFlushed (disk : Node) (writes : ℕ) : Type 0 where
    pub before : B
    pub after : B
    pub over : c.place.disk before ≡ disk
    pub sound : c.is_lost before ≡ false
    pub settled : IsSettled (c.lasts disk) writes
    pub lasts : IsTrue c.blocks.claims → Only (c.blocks.contents before) (c.blocks.may_hold after)

  -- the device of this file, of which so many writes had ended, or more, was opened anew
  pub record HasOpened (disk : Node) (writes : ℕ) : Type 0 where
    pub before : B
    pub after : B
    pub over : c.place.disk before ≡ disk
    pub enough : writes ≤ c.writes before
    pub anew : c.opener.opened before after

  -- What was wanted was done, of this file. Behind it so many writes had ended.
  abbrev pub HasAnswered : Node → ℕ → Wanted → List ℕ → Type 0
  HasAnswered disk writes (Read first) bytes = HasRead disk first bytes
  HasAnswered disk writes (Write first) bytes = HasWritten disk first bytes writes
  HasAnswered disk writes (Flush behind) bytes = HasFlushed disk behind
  HasAnswered disk writes (Open behind) bytes = HasOpened disk behind

-- the bytes that a thread is given to write
abbrev pub given_to : Wanted → List ℕ → List ℕ
given_to (Write first) bytes = bytes
given_to (Read first) bytes = []
given_to (Flush behind) bytes = []
given_to (Open behind) bytes = []
