-- The place of a session among those that are attached.
use Rattle.std.specs.Prelude.{◌≡◌, ℕ, ◌<◌, List, length, take, None, slice_get, slice_set, IfSome, IsSome}
use Rattle.unit_control.specs.declared.sessions.Attached.{Attached}
use Rattle.unit_control.specs.State.{ControlValue}
use Rattle.unit_control.specs.Sessions.{session_of, changed}

-- new is old, where the session at this place changed so
abbrev pub IsChangedAt : (Attached → Attached) → List Attached → ℕ → List Attached → Type 0
IsChangedAt f old at new = IfSome (slice_get old at) (λ a. new ≡ slice_set old at (f a))

-- the first place of the session
pub record IsPlaceOf (sessions : List Attached) (id at : ℕ) : Type 0 where
  pub below : at < length sessions
  pub there : IsSome (slice_get sessions at)
  pub first : session_of (take at sessions) id ≡ None
  pub found : session_of sessions id ≡ slice_get sessions at
  pub changes : (f : Attached → Attached)
      → IfSome (slice_get sessions at) (λ a. changed f sessions id ≡ slice_set sessions at (f a))

-- what serving a command leaves as it was, whatever else changes
pub record Stays (old new : ControlValue) (session at : ℕ) : Type 0 where
  pub total : new.total ≡ old.total
  pub count : new.count ≡ old.count
  pub place : IsPlaceOf new.sessions session at

-- the same, for whatever session sent it
pub record StaysAll (old new : ControlValue) : Type 0 where
  pub total : new.total ≡ old.total
  pub count : new.count ≡ old.count
  pub place : (session at : ℕ) → IsPlaceOf old.sessions session at → IsPlaceOf new.sessions session at
