-- What is said of calls on a file of the system. These words stand for their names: only the proofs of the wrapper round the handle
-- (`system`) cite what gives them.
use Rattle.std.specs.Prelude.{ℕ, Bool, true, List, IsTrue, refl}
use Rattle.disk_preparer.specs.declared.Node.{Node}

-- these bytes were read from an offset of a file on
pub has_read : Node → ℕ → List ℕ → Type 0
has_read node offset bytes = Unit {0}

-- these bytes were written from an offset of a file on
pub has_written : Node → ℕ → List ℕ → Type 0
has_written node offset bytes = Unit {0}

-- so many writes of a device have ended
pub ended : ℕ → Bool
ended writes = true

-- a flush of a file ended well that began behind so many writes
pub lasts : Node → ℕ → Type 0
lasts node writes = Unit {0}

-- a file has this name: it was given to it, or opened by it
pub is_named : {S : Type 0} → S → Type 0
is_named name = Unit {0}

-- a flush of a folder ended well that began when a file had this name
pub name_lasts : {S : Type 0} → S → S → Type 0
name_lasts folder name = Unit {0}

pub none_has_ended : IsTrue (ended 0)
unfolding ended
none_has_ended = refl

-- ---- what a call gives that ended so

pub a_read_says : (node : Node) (offset : ℕ) (bytes : List ℕ) → has_read node offset bytes
unfolding has_read
a_read_says node offset bytes = tt

pub a_write_says : (node : Node) (offset : ℕ) (bytes : List ℕ) → has_written node offset bytes
unfolding has_written
a_write_says node offset bytes = tt

pub a_write_ends : (writes : ℕ) → IsTrue (ended writes)
unfolding ended
a_write_ends writes = refl

pub a_flush_says : (node : Node) (writes : ℕ) → lasts node writes
unfolding lasts
a_flush_says node writes = tt

pub a_rename_says : {S : Type 0} (name : S) → is_named name
unfolding is_named
a_rename_says name = tt

pub an_open_says : {S : Type 0} (name : S) → is_named name
unfolding is_named
an_open_says name = tt

pub a_flush_of_a_folder_says : {S : Type 0} (folder name : S) → name_lasts folder name
unfolding name_lasts
a_flush_of_a_folder_says folder name = tt
