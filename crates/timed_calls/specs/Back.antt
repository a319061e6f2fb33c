-- That somebody has looked how many writes of a device had come back. The word stands for its name: only the proof of the look cites what
-- gives it.
use Rattle.std.specs.Prelude.{ℕ, List, IsTrue}
use Rattle.disk_preparer.specs.declared.Node.{Node}
use Rattle.disk_preparer.specs.Beside.{was_read, a_read_beside_says}

-- Somebody has looked how many writes of the device of this disk had come back: so many. No value keeps this, so only a call in which
-- somebody looks says so.
pub had_come_back : Node → ℕ → Type 0
had_come_back disk writes = Unit {0}

-- ---- what a look gives

pub a_look_says : (disk : Node) (writes : ℕ) → had_come_back disk writes
unfolding had_come_back
a_look_says disk writes = tt

-- ---- What a read gives that was made behind a look: these bytes were read of this disk, by whatever count they were stamped; so the look
-- may stand for it. Only the proof of a call cites it that is given the look, and then reads.

pub a_read_behind_a_look_says : (disk : Node) (first writes look : ℕ) (bytes : List ℕ)
    → IsTrue (was_read disk first writes bytes) → had_come_back disk look → IsTrue (was_read disk first look bytes)
a_read_behind_a_look_says disk first writes look bytes read looked = a_read_beside_says disk first look bytes
