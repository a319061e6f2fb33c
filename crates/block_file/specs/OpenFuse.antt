-- A fuse before an opener: it passes some opens on, and fails each one after them.
use Rattle.std.specs.Prelude.{◌≡◌, ℕ, ◌+◌, IsErr, Result, min}
use Rattle.block_file.specs.Failures.{Counts, last_count}

-- the opener, how many opens are yet to be passed on, and how many the fuse failed
pub record OpenFuse (O : Type 0) : Type 0 where
  pub inner : O
  pub left : ℕ
  pub failed : ℕ

-- nothing was opened yet
abbrev pub unopened : {O : Type 0} → O → ℕ → OpenFuse O
unopened inner opens = record { inner = inner; left = opens; failed = 0 }

-- the failures of the opener, and those of the fuse
abbrev pub all_opens_failed : {O : Type 0} → (O → ℕ) → OpenFuse O → ℕ
all_opens_failed opens_failed fuse = min (opens_failed fuse.inner + fuse.failed) last_count

-- an open that is passed on: it is one of those left, and fails where the opener fails
pub record PassesOpen {O T E : Type 0} (opens_failed : O → ℕ) (old new : OpenFuse O)
    (result : Result T E) : Type 0 where
  pub left : new.left + 1 ≡ old.left
  pub failed : new.failed ≡ old.failed
  pub counts : Counts (opens_failed old.inner) (opens_failed new.inner) result

-- an open that the fuse fails and counts, where none is left: the opener is not asked
pub record FailsOpen {O T E : Type 0} (old new : OpenFuse O) (result : Result T E) : Type 0 where
  pub err : IsErr result
  pub inner : new.inner ≡ old.inner
  pub left : new.left ≡ 0
  pub failed : new.failed ≡ min (old.failed + 1) last_count
