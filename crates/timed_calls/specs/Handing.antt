-- Where a request is that two hand to each other, and what is known of it at both ends.
use Rattle.std.specs.Prelude.{◌≡◌, ◌⊎◌, ◌==◌, ◌||◌, ℕ, Bool, true, false, List, [], ◌∷◌, Option, None, Some, MatchBool, map, if◌then◌else◌}
use mathlib.Core.Option.{Option as Slot, some, none}
use Rattle.atomic_table.specs.Table.{State, Me, Step}
use Rattle.timed_calls.specs.declared.handing.Known.{Known}

-- the turns in which it is the thread's to take, and those in which it is back with whoever asks
abbrev pub is_asked_at : ℕ → Bool
is_asked_at turn = turn == 1 || turn == 2 || turn == 6

abbrev pub is_back_at : ℕ → Bool
is_back_at turn = turn == 3 || turn == 4

-- what each end knows at the start
abbrev pub alone : Known
alone = record { role = 0; holds = false; serial = 0; given = [] }

abbrev pub asker : Known
asker = record { role = 1; holds = false; serial = 0; given = [] }

abbrev pub thread : Known
thread = record { role = 2; holds = false; serial = 0; given = [] }

-- the words, of which one is the turn
abbrev pub words_at : ℕ → List ℕ
words_at turn = 0 ∷ 0 ∷ 0 ∷ 0 ∷ 0 ∷ 0 ∷ 0 ∷ 0 ∷ turn ∷ 0 ∷ 0 ∷ 0 ∷ 0 ∷ 0 ∷ 0 ∷ 0 ∷ []

module _ {E : Type 0} (serial : E → ℕ) (given : E → List ℕ) where
  -- a request is the one that is known
  abbrev pub Fits : Option E → Known → Type 0
  Fits None k = Unit {0}
  Fits (Some e) k = (serial e ≡ k.serial) × (given e ≡ k.given)

  -- It lies in the slot; or who asks has it, and it is not asked; or the thread has it, and it is not back. What the thread has is what
  -- was handed over last.
  abbrev pub Lies : ℕ → Slot (Option E) → Known → Known → Type 0
  Lies turn slot a b =
      ((x : Option E) × (slot ≡ some x) × Fits x a × (a.holds ≡ false) × (b.holds ≡ false))
      ⊎ (((slot ≡ none) × (a.holds ≡ true) × (b.holds ≡ false) × (is_asked_at turn ≡ false))
      ⊎ ((slot ≡ none) × (a.holds ≡ false) × (b.holds ≡ true) × (b.serial ≡ a.serial) × (b.given ≡ a.given) × (is_back_at turn ≡ false)))

  abbrev pub table_at : ℕ → Slot (Option E) → List Known → State (Option E) Known
  table_at turn slot views = record { words = words_at turn; homes = slot ∷ []; views = views }

  -- there are two ends, or one that is alone
  abbrev pub Kept : State (Option E) Known → Type 0
  Kept s =
      (s ≡ table_at 3 (some None) (alone ∷ []))
      ⊎ ((turn : ℕ) × (slot : Slot (Option E)) × (a : Known) × (b : Known)
      × (s ≡ table_at turn slot (a ∷ b ∷ [])) × (a.role ≡ 1) × (b.role ≡ 2) × Lies turn slot a b)

  -- what a step tells: the end has taken the request, where it was its to take, and knows it
  abbrev pub Takes : Step (Option E) → Me (Option E) Known → ℕ → Me (Option E) Known → Type 0
  Takes st m n w =
      MatchBool (is_asked_at n)
      ((x : Option E) × (w.1 ≡ (0, x) ∷ []) × (w.0.role ≡ 2) × (w.0.holds ≡ true) × Fits x w.0)
      (w ≡ m)

  -- what came back is what had been handed over
  abbrev pub TakesBack : Step (Option E) → Me (Option E) Known → ℕ → Me (Option E) Known → Type 0
  TakesBack st m n w =
      MatchBool (is_back_at n)
      ((x : Option E) × (w.1 ≡ (0, x) ∷ []) × (w.0.role ≡ 1) × (w.0.holds ≡ true) × Fits x m.0)
      (w ≡ m)

  abbrev pub FirstFits : List (ℕ × Option E) → Known → Type 0
  FirstFits [] k = Unit {0}
  FirstFits (x ∷ xs) k = Fits x.1 k

  -- it was handed over, and is known
  abbrev pub HandsOver : Step (Option E) → Me (Option E) Known → ℕ → Me (Option E) Known → Type 0
  HandsOver st m n w = (w.1 ≡ []) × (w.0.role ≡ 1) × (w.0.holds ≡ false) × FirstFits m.1 w.0

-- it was handed back
abbrev pub Gives : {E : Type 0} → Step (Option E) → Me (Option E) Known → ℕ → Me (Option E) Known → Type 0
Gives st m n w = (w.1 ≡ []) × (w.0.role ≡ 2) × (w.0.holds ≡ false)

-- an end that has the slot carries it alone; else it carries none
abbrev pub IsOut : {E : Type 0} → Bool → List (ℕ × Option E) → Type 0
IsOut holds carried = map (λ x. x.0) carried ≡ (if holds then 0 ∷ [] else [])
