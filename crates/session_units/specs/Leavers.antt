-- All sessions that have left a unit, together: what each of them asked and was told stands in one history.
use Rattle.std.specs.Prelude.{◌≡◌, ◌⊎◌, ℕ, List, [], ◌∷◌, length}
use mathlib.Core.List.{IsPrefix}
use Rattle.scsi_types.specs.Nexus.{Nexus}
use Rattle.unit_control.specs.State.{UnitState}
use Rattle.unit_control.specs.Entry.{Entry}
use Rattle.session_units.specs.Entries.{AreAlike, Done, HasDone}
use Rattle.session_units.specs.Late.{Late, never}
use Rattle.session_units.specs.Units.{Claims, any_device}

-- a unit that opened in this state, over such devices, behind such a gate
module _ (claims : Claims) (late : Late) (s : UnitState) where
  -- A session that has left the unit: its nexus, what it has done there, and the history that it hands out.
  pub record Leaver : Type 0 where
    pub nexus : Nexus
    pub done : List Done
    pub history : List Entry
    pub has_done : HasDone claims late s nexus done history

  -- its number, the place of its Attach
  abbrev pub number_of : Leaver → ℕ
  number_of one = length one.has_done.before

  -- Two sessions of one unit: they have two numbers, and of the histories that they hand out one begins the other.
  abbrev pub AreTwo : Leaver → Leaver → Type 0
  AreTwo one other =
      (number_of one ≡ number_of other → ⊥) × (IsPrefix one.history other.history ⊎ IsPrefix other.history one.history)

  -- the number of one of them
  abbrev pub IsOneOf : List Leaver → ℕ → Type 0
  IsOneOf [] session = ⊥
  IsOneOf (one ∷ more) session = (session ≡ number_of one) ⊎ IsOneOf more session

  -- What this session has done stands in this history as it was asked and told, over any device: in a beginning of it, which differs
  -- from what the session has seen in own entries of these sessions alone.
  pub record StandsIn (told : List Entry) (leavers : List Leaver) (one : Leaver) : Type 0 where
    pub beginning : List Entry
    pub begins : IsPrefix beginning told
    pub alike : AreAlike (IsOneOf leavers) s one.history beginning
    pub has_done : HasDone any_device never s one.nexus one.done beginning
    pub number : length has_done.before ≡ number_of one
