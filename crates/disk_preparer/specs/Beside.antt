-- What is said of a read beside a device. The word stands for its name: only the proof of a call that reads so cites what gives it.
use Rattle.std.specs.Prelude.{ℕ, Bool, true, List, IsTrue, refl}
use Rattle.disk_preparer.specs.declared.Node.{Node}

-- These bytes were read of a disk, from this block on, by a read that began when so many writes of its device had ended.
pub was_read : Node → ℕ → ℕ → List ℕ → Bool
was_read disk first writes bytes = true

-- ---- what a read gives, behind a look at how many writes the device has told

pub a_read_beside_says : (disk : Node) (first writes : ℕ) (bytes : List ℕ)
    → IsTrue (was_read disk first writes bytes)
unfolding was_read
a_read_beside_says disk first writes bytes = refl
