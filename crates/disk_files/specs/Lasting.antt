-- What a flush has made last.
use Rattle.std.specs.Prelude.{◌≤◌, ℕ}

-- a flush that succeeded began behind so many writes of the device, or behind more
pub record IsSettled (lasts : ℕ → Type 0) (writes : ℕ) : Type 0 where
  pub count : ℕ
  pub enough : writes ≤ count
  pub flushed : lasts count
