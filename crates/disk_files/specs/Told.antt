-- What a device tells those who flush its file beside it, and that they have looked. These words stand for their names: only the proofs of
-- the calls that give them cite what does (`flushes`).
use Rattle.std.specs.Prelude.{ℕ, Bool, true, IsTrue, refl}
use Rattle.disk_preparer.specs.declared.Node.{Node}
use Rattle.disk_files.specs.Lasting.{IsSettled}

-- these flushes were told that so many writes of the device had ended
pub has_told : {S : Type 0} → S → ℕ → Bool
has_told flushes writes = true

-- Who flushes a file has looked how many writes its device has told: so many. No value keeps this, so only a call in which somebody looks
-- says so.
pub were_told : Node → ℕ → Type 0
were_told node writes = Unit {0}

-- a flush of a file is done that began when all writes had ended which its device had told, as was looked behind the asking for it
pub record HasFlushed (node : Node) (lasts : ℕ → Type 0) : Type 0 where
  pub writes : ℕ
  pub told : were_told node writes
  pub settled : IsSettled lasts writes

-- ---- what a call gives

pub a_tell_says : {S : Type 0} (flushes : S) (writes : ℕ) → IsTrue (has_told flushes writes)
unfolding has_told
a_tell_says flushes writes = refl

pub a_look_says : (node : Node) (writes : ℕ) → were_told node writes
unfolding were_told
a_look_says node writes = tt
