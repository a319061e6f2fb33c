-- What contracts see of a counted reader or writer.
use Rattle.session_rules.specs.Words.{ℕ}

-- the reader or writer, and how often it failed
pub record WatchedValue (S : Type 0) : Type 0 where
  pub inner : S
  pub failed : ℕ
