-- Bytes of a file at an offset.
use Rattle.std.specs.Prelude.{ℕ, ◌+◌, ◌≤◌, List, ◌++◌, length, take, drop}

-- so many bytes from an offset on lie in the file
abbrev pub LiesIn : List ℕ → ℕ → ℕ → Type 0
LiesIn file offset len = offset + len ≤ length file

-- the file with these bytes over those from an offset on
abbrev pub put : List ℕ → ℕ → List ℕ → List ℕ
put file offset part = take offset file ++ (part ++ drop (offset + length part) file)
