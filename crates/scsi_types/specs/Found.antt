-- What a value is found by.
use Rattle.std.specs.Prelude.{Option, Some, None}

-- a value of which this holds, or there is none
abbrev pub IsFoundBy : {A : Type 0} → (A → Type 0) → Option A → Type 0
IsFoundBy {A} holds None = (x : A) → holds x → ⊥
IsFoundBy {A} holds (Some x) = holds x
