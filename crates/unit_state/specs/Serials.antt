-- The serials of a history: what its length and its commands say of the sessions that are attached behind it.
use Rattle.std.specs.Prelude.{◌≡◌, ℕ, ◌+◌, ◌<◌, ◌≤◌, Bool, false, nat_eq, List, [], length, Some}
use Rattle.std.specs.List.{count_by}
use Rattle.unit_control.specs.State.{ControlValue}
use Rattle.unit_control.specs.Sessions.{next_of}
use Rattle.unit_control.specs.Entry.{Entry, Attach, Detach, Reset, Move, Command}

-- the entry is a command of this session
abbrev pub is_command_of : ℕ → Entry → Bool
is_command_of id (Attach nexus) = false
is_command_of id (Detach session) = false
is_command_of id (Reset session) = false
is_command_of id (Move list choice) = false
is_command_of id (Command session serial by asked bytes choice) = nat_eq session id

-- how many commands of a session stand in a history
abbrev pub commands_of : ℕ → List Entry → ℕ
commands_of id history = count_by (is_command_of id) history

-- as a unit opens, nobody is attached and there is no entry
pub record IsOpening (c : ControlValue) : Type 0 where
  pub sessions : c.sessions ≡ []
  pub count : c.count ≡ 0

-- Behind a history: the count is its length; of each session that is attached the next serial is one more than the number of
-- its commands, and the id is the place of an entry; and a session that is still to come has no command.
pub record IsNumbered (history : List Entry) (c : ControlValue) : Type 0 where
  pub count : c.count ≡ length history
  pub next : (id serial : ℕ) → next_of c.sessions id ≡ Some serial → serial ≡ commands_of id history + 1
  pub id : (id serial : ℕ) → next_of c.sessions id ≡ Some serial → id < length history
  pub none : (id : ℕ) → length history ≤ id → commands_of id history ≡ 0
