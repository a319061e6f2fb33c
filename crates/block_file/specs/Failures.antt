-- Failures and their count.
use Rattle.std.specs.Prelude.{◌≡◌, ℕ, ◌-◌, ◌^◌, ◌<◌, ◌≤◌, Result, IsOk}

-- where a count ends: there it stays, and says nothing any more
abbrev pub last_count : ℕ
last_count = 2 ^ 64 - 1

-- the count rises exactly where the fact fails
pub record Tells (before now : ℕ) (done : Type 0) : Type 0 where
  pub later : before ≤ now
  pub stays : before < last_count → done → now ≡ before
  pub rises : before < last_count → (done → ⊥) → before < now

-- a call fails exactly where the count rises
abbrev pub Counts : {T E : Type 0} → ℕ → ℕ → Result T E → Type 0
Counts before now result = Tells before now (IsOk result)

-- A device of this type can fail: there is a state in which its count is higher than in this one, its last value apart.
-- One that never fails has no such state. The state need not be one that was reached.
pub record CanFail {B : Type 0} (failures : B → ℕ) (before : B) : Type 0 where
  pub after : B
  pub told : Tells (failures before) (failures after) ⊥
