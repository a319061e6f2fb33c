-- What a session's pass has seen, and what a call makes of it.
use Rattle.std.specs.Prelude.{◌≡◌, ◌≢◌, ℕ, List, [], ◌∷◌, ◌++◌, Option, Some, None}
use mathlib.Core.List.{IsPrefix}
use Rattle.status.specs.Views.{counted}
use Rattle.unit_lock.specs.declared.machine.Refused.{Refused}
use Rattle.unit_lock.specs.declared.machine.Refused.TheVariants.{Gone, Moved, NoMemory}

-- the history that is there
abbrev pub held : {E : Type 0} → Option (List E) → List E
held (Some log) = log
held None = []

-- a session, the serial of its next command, and the history that its pass has seen
pub record Known (E : Type 0) : Type 0 where
  pub session : ℕ
  pub serial : ℕ
  pub seen : List E

-- a pass of the unit at a place
pub record PlacedPass (E : Type 0) : Type 0 where
  pub place : ℕ
  pub pass : Known E

-- a pass whose right is in hand, and the whole history
pub record Visiting (E : Type 0) : Type 0 where
  pub pass : Known E
  pub all : List E

-- why a command is no entry: its session is gone; another group owns the unit, which did not serve it; or it takes memory
abbrev pub IsCause : {G : Type 0} → Type 0 → (G → Type 0) → Type 0 → G → Refused G → Type 0
IsCause gone owner wants by_group Gone = gone
IsCause gone owner wants by_group (Moved to) = owner to × (by_group ≢ to)
IsCause gone owner wants by_group NoMemory = wants

-- What a call that is an entry leaves of a pass: the pass has seen a legal history, which begins with all that it had seen,
-- has no other new entry of the session's own, and ends with this entry.
abbrev pub IsAdded : {E : Type 0} → (ℕ → E → ℕ) → (List E → Type 0) → Known E → Known E → (List E → E → Type 0) → Type 0
IsAdded own legal before after P =
    (between : List _) × (e : _) × (counted own before.session between ≡ 0)
    × (after.seen ≡ (before.seen ++ between) ++ e ∷ []) × legal after.seen × P (before.seen ++ between) e

-- What the end of a session leaves, which is an entry: the history that was seen begins with all that its pass had seen, has no
-- other new entry of the session's own, and ends with this entry.
abbrev pub IsEnded : {E : Type 0} → (ℕ → E → ℕ) → (List E → Type 0) → Known E → List E → E → Type 0
IsEnded own legal before history end = IsAdded own legal before (record before { seen = history }) (λ h e. e ≡ end)

-- What is locked was what the beginning of a history leaves, and is what the history leaves that has one entry more; and this
-- is so of both.
pub record IsBetween {E X : Type 0} (after : List E → X → Type 0) (history : List E) (P : X → X → Type 0) : Type 0 where
  pub earlier : List E
  pub entry : E
  pub ends : history ≡ earlier ++ entry ∷ []
  pub old : X
  pub new : X
  pub before : after earlier old
  pub behind : after history new
  pub is : P old new

-- It was what a history leaves, before a call that is no entry and behind it; and this is so of both.
pub record IsBeside {E X : Type 0} (after : List E → X → Type 0) (history : List E) (P : X → X → Type 0) : Type 0 where
  pub old : X
  pub new : X
  pub before : after history old
  pub behind : after history new
  pub is : P old new

-- What a call that is none leaves: the pass has seen a legal history, which begins with all that it had seen and has no new
-- entry of the session's own.
abbrev pub IsRefused : {E : Type 0} → (ℕ → E → ℕ) → (List E → Type 0) → Known E → Known E → Type 0
IsRefused own legal before after =
    IsPrefix before.seen after.seen × (counted own before.session after.seen ≡ counted own before.session before.seen)
    × legal after.seen × (after.session ≡ before.session) × (after.serial ≡ before.serial)
