-- The connections whose login is not over.
use Rattle.std.specs.Prelude.{ℕ}

-- how many wait for its end, and how many threads serve such connections, also those that were closed
pub record LoginsValue : Type 0 where
  pub waiting : ℕ
  pub threads : ℕ

-- no more than so many wait
abbrev pub most_logins : ℕ
most_logins = 128

-- no more threads than so many serve them
abbrev pub most_threads : ℕ
most_threads = 256
