-- Crashes at some moment since an earlier one.
use Rattle.std.specs.Prelude.{◌⊎◌, ◌↔◌, ℕ, ◌≤◌, List}
use Rattle.block_file.specs.Disk.{MayLeave}

-- Time goes on by one call: a crash since a moment may have left what it may have left before the call, or
-- what it may leave after it, and all of the former.
pub record Elapses (before now : ℕ) (past since : ℕ → List (List ℕ) → Type 0)
    (may_leave : List (List ℕ) → Type 0) : Type 0 where
  pub later : before ≤ now
  pub nothing_else : (t : ℕ) (disk : List (List ℕ)) → t ≤ before → since t disk → past t disk ⊎ may_leave disk
  pub keeps : (t : ℕ) (disk : List (List ℕ)) → t ≤ before → past t disk → since t disk

-- a crash since a moment may have left just what it might have
abbrev pub LeavesTheSame : (ℕ → List (List ℕ) → Type 0) → (ℕ → List (List ℕ) → Type 0) → Type 0
LeavesTheSame past since = (t : ℕ) (disk : List (List ℕ)) → since t disk ↔ past t disk

-- what a call on a device makes of that: its moment, what a crash since one may have left, its size, and what a
-- crash now may hold, before the call and after it
abbrev pub TimePasses : {D : Type 0} → (D → ℕ) → (D → ℕ → List (List ℕ) → Type 0) → (D → ℕ)
    → (D → ℕ → List ℕ → Type 0) → D → D → Type 0
TimePasses moment left_since size may_hold old new =
    Elapses (moment old) (moment new) (left_since old) (left_since new) (MayLeave (size new) (may_hold new))

-- what several calls make of it: a stop inside them leaves a disk whose blocks hold such values
abbrev pub StopsAmong : {D : Type 0} → (D → ℕ) → (D → ℕ → List (List ℕ) → Type 0) → (D → ℕ) → (ℕ → List ℕ → Type 0)
    → D → D → Type 0
StopsAmong moment left_since size values old new =
    Elapses (moment old) (moment new) (left_since old) (left_since new) (MayLeave (size old) values)
