-- How a session keeps the commands that wait for data.
use Rattle.std.specs.Prelude.{◌≡◌, ◌+◌, ◌-◌, ◌≤◌, ◌∷◌, ◌++◌}
use Rattle.session_rules.specs.Words.{ℕ, min, Some, IsTrue, List, length, Result, Means, need_of, Command, CdbFault, CommandHeader}
use Rattle.session_rules.specs.Words.{R2tHeader}
use Rattle.session_tasks.specs.declared.collecting.{R2tWith.R2tWith, Collected.Collected}
use Rattle.session_rules.specs.{Window.wrap, Transfer.data_for, Tasks.Collecting}

-- the one thing that the command's CDB asks for
pub record IsAskedBy (p : CommandHeader) (asked : Result Command CdbFault) : Type 0 where
  pub means : Means p.cdb asked
  pub only : (other : Result Command CdbFault) → Means p.cdb other → other ≡ asked

-- a Data-Out more
abbrev pub fed : Collecting → List ℕ → Collecting
fed c d = record c { bytes = c.bytes ++ d; data_sn = wrap (c.data_sn + 1) }

-- this stands there, between what stands before it and behind it
pub record StandsAt (cs : List Collecting) (at : ℕ) (this : Collecting) : Type 0 where
  pub front : List Collecting
  pub back : List Collecting
  pub whole : cs ≡ front ++ (this ∷ back)
  pub place : length front ≡ at

-- how many bytes the command needs
abbrev pub NeedIs : CommandHeader → ℕ → Type 0
NeedIs p need = (asked : Result Command CdbFault) → Means p.cdb asked → need ≡ need_of asked

-- A command that has to collect so many bytes: its buffer has room for them, no more have come, and its R2T does not pass
-- them.
pub record IsSlot (p : CommandHeader) (asked : Result Command CdbFault) (need came capacity : ℕ)
    (r2t : R2tHeader) : Type 0 where
  pub asked_by : IsAskedBy p asked
  pub need_is : need ≡ need_of asked
  pub writes : IsTrue p.write
  pub expected : need ≤ p.expected_length
  pub room : need ≤ capacity
  pub held : came ≤ need
  pub within : r2t.offset + r2t.desired_length ≤ need

-- the R2T of a command that needs so many bytes and has had so many R2Ts, where so many bytes have come
abbrev pub r2t_for : CommandHeader → ℕ → ℕ → ℕ → R2tWith → R2tHeader
r2t_for p need came count sent_with = record {
  lun = p.lun;
  task_tag = p.task_tag;
  transfer_tag = sent_with.transfer_tag;
  numbers = sent_with.numbers;
  r2t_sn = count;
  offset = came;
  desired_length = min sent_with.burst (need - came);
}

-- a command that waits, to which this R2T went out, as so many did
abbrev pub waits : CommandHeader → List ℕ → R2tHeader → ℕ → Collecting
waits p bytes r2t count =
    record { command = p; bytes = bytes; outstanding = Some r2t; r2t_count = count; data_sn = 0 }

-- a command begins to wait
abbrev pub begun : CommandHeader → ℕ → List ℕ → R2tWith → Collecting
begun p need d sent_with = waits p d (r2t_for p need (length d) 0 sent_with) 1

-- it waits no more
pub record IsFinished (c : Collecting) (f : Collected) : Type 0 where
  pub command_is : f.command ≡ c.command
  pub asked_by : IsAskedBy c.command f.asked
  pub need_is : f.need ≡ need_of f.asked
  pub bytes_are : f.bytes.items ≡ data_for c.command (need_of f.asked) c.bytes
