-- Readers and writers that count their failures.
use Rattle.std.specs.Io.KnownBytes.{Appends}
use Rattle.std.specs.Prelude.{◌≡◌, ◌<◌, ◌≤◌}
use Rattle.session_rules.specs.Words.{ℕ, List, length, Option, take, Result, Ok, Err}
use Rattle.session_stream.specs.declared.source.Unread.{Unread, TheVariants.Failed, TheVariants.Silence}

-- where a count of failures ends: there it stays, and says nothing any more
abbrev pub last_failure : ℕ
last_failure = 18446744073709551615

-- the count went up, unless it was at its end
pub record Rises (before now : ℕ) : Type 0 where
  pub later : before ≤ now
  pub rises : before < last_failure → before < now

-- a call fails exactly where the count rises
abbrev pub Counted : {T E : Type 0} → ℕ → ℕ → Result T E → Type 0
Counted before now (Ok x) = now ≡ before
Counted before now (Err e) = Rises before now

-- a read that nothing came for is no failure
abbrev pub CountedRead : {T : Type 0} → ℕ → ℕ → Result T Unread → Type 0
CountedRead before now (Ok x) = now ≡ before
CountedRead before now (Err Failed) = Rises before now
CountedRead before now (Err Silence) = now ≡ before

-- the bytes of a writer, where they are known, grow by a beginning of these: by so many at least
abbrev pub AppendsFrom : Option (List ℕ) → Option (List ℕ) → ℕ → List ℕ → Type 0
AppendsFrom old new least bytes = (n : ℕ) × (least ≤ n) × (n ≤ length bytes) × Appends old new (take n bytes)

-- or by any
abbrev pub AppendsFront : Option (List ℕ) → Option (List ℕ) → List ℕ → Type 0
AppendsFront old new bytes = (n : ℕ) × Appends old new (take n bytes)
