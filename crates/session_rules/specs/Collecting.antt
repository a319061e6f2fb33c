-- How the data of a command is collected (RFC 7143, 4.2.4.2, 11.7 and 11.8): its immediate data, then by R2T.
use Rattle.std.specs.List.{slice_get}
use Rattle.std.specs.Prelude.{◌≡◌, ◌+◌, ◌-◌, ◌<◌, ◌≤◌, ◌∷◌}
use Rattle.session_rules.specs.Words.{ℕ, min, Bool, true, false, not, IsTrue, List, [], length, take, Option, Some, Result, sum_by, Means}
use Rattle.session_rules.specs.Words.{need_of, NamesUnit, Command, CdbFault, CommandHeader, DataOutHeader, R2tHeader, TargetAnswer}
use Rattle.session_rules.specs.{Asking.Asking, Asking.served, Transfer.data_for, Window.wrap}
use Rattle.session_rules.specs.Tasks.{Task, Collecting, has_ended, was_dropped, gathered, r2ts, command_calls}

-- a write that expects to send all that it needs, and whose immediate data is less
pub record HasToCollect (p : CommandHeader) (need immediate : ℕ) : Type 0 where
  pub writes : IsTrue p.write
  pub expected : need ≤ p.expected_length
  pub short : immediate < need

abbrev pub sizes : List R2tHeader → ℕ
sizes rs = sum_by (λ r. r.desired_length) rs

-- The R2T at a place among those of a command that needs so many bytes, of which so many were immediate and so many
-- have come: its bytes stand behind those of the R2Ts before it, as many as a burst has, and it goes out when these have all come.
pub record IsR2tAt (burst : ℕ) (p : CommandHeader) (need immediate came : ℕ) (rs : List R2tHeader) (i : ℕ)
    (r : R2tHeader) : Type 0 where
  pub number : r.r2t_sn ≡ wrap i
  pub place : r.offset ≡ immediate + sizes (take i rs)
  pub size : r.desired_length ≡ min burst (need - r.offset)
  pub some : 0 < r.desired_length
  pub turn : r.offset ≤ came
  pub tag : r.task_tag ≡ p.task_tag
  pub lun : r.lun ≡ p.lun

-- how far the R2Ts go
abbrev pub r2ts_end : ℕ → List R2tHeader → ℕ
r2ts_end immediate rs = immediate + sizes rs

-- The call of a command: of the unit that its LUN names, for what its CDB asks, with its data, once; of a write that
-- expects to send what it needs all of it, which its immediate data and its R2Ts tile.
pub record IsCalledFor (p : CommandHeader) (asked : Result Command CdbFault) (immediate : ℕ) (bytes : List ℕ)
    (rs : List R2tHeader) (ended : Bool) (c : Asking) : Type 0 where
  pub ends : ended ≡ true
  pub unit : Option ℕ
  pub names : NamesUnit p.lun unit
  pub answer : TargetAnswer
  pub call_is : c ≡ served unit asked (data_for p (need_of asked) bytes) answer
  pub all : IsTrue p.write → need_of asked ≤ p.expected_length → need_of asked ≤ length bytes
  pub tiled : IsTrue p.write → need_of asked ≤ p.expected_length
      → min immediate (need_of asked) + sizes rs ≡ need_of asked
  pub no_r2ts : (HasToCollect p (need_of asked) immediate → ⊥) → rs ≡ []

-- A command that was not called is one that has to collect, and no byte came behind the last of its R2Ts; while it collects
-- an R2T is outstanding.
pub record IsUncalled (p : CommandHeader) (need immediate : ℕ) (bytes : List ℕ) (rs : List R2tHeader)
    (ended : Bool) : Type 0 where
  pub collects : HasToCollect p need immediate
  pub within : length bytes ≤ r2ts_end immediate rs
  pub waits : ended ≡ false → length bytes < r2ts_end immediate rs

abbrev pub HasCalls : CommandHeader → Result Command CdbFault → ℕ → List ℕ → List R2tHeader → Bool → List Asking → Type 0
HasCalls p asked immediate bytes rs ended [] = IsUncalled p (need_of asked) immediate bytes rs ended
HasCalls p asked immediate bytes rs ended (c ∷ []) = IsCalledFor p asked immediate bytes rs ended c
HasCalls p asked immediate bytes rs ended (c ∷ (d ∷ cs)) = ⊥

-- what is right of a command with these R2Ts and calls so far, of whose data so much came
pub record IsCollected (burst : ℕ) (p : CommandHeader) (asked : Result Command CdbFault) (immediate : ℕ)
    (bytes : List ℕ) (rs : List R2tHeader) (ended : Bool) (cs : List Asking) : Type 0 where
  pub each_r2t : (i : ℕ) (r : R2tHeader) → slice_get rs i ≡ Some r
      → IsR2tAt burst p (need_of asked) immediate (length bytes) rs i r
  pub outcome : HasCalls p asked immediate bytes rs ended cs

-- one that ended without a call, and that was not dropped, had no R2T: it was turned away before any went out
abbrev pub IsTurnedAwayAtOnce : Bool → Bool → List Asking → List R2tHeader → Type 0
IsTurnedAwayAtOnce ended dropped cs rs = ended ≡ true → dropped ≡ false → cs ≡ [] → rs ≡ []

-- a task is right: by what its CDB asks for
pub record IsRightTask (burst : ℕ) (k : Task) : Type 0 where
  pub asked : Result Command CdbFault
  pub means : Means k.command.cdb asked
  pub right : IsCollected burst k.command asked (length k.segment) (gathered k) (r2ts k.own) (has_ended k)
      (command_calls k.own)
  pub turned_away : IsTurnedAwayAtOnce (has_ended k) (was_dropped k) (command_calls k.own) (r2ts k.own)

-- A Data-Out continues the R2T that is outstanding (11.7): its Target Transfer Tag, the next DataSN, the next byte, and
-- none past its range.
pub record Continues (c : Collecting) (x : DataOutHeader) (d : List ℕ) : Type 0 where
  pub r2t : R2tHeader
  pub outstanding : c.outstanding ≡ Some r2t
  pub transfer : x.transfer_tag ≡ r2t.transfer_tag
  pub number : x.data_sn ≡ c.data_sn
  pub place : x.offset ≡ length c.bytes
  pub within : x.offset + length d ≤ r2t.offset + r2t.desired_length

-- the next R2T of a command, behind so many, where so many bytes have come
pub record IsNext (burst : ℕ) (p : CommandHeader) (need came i : ℕ) (r : R2tHeader) : Type 0 where
  pub number : r.r2t_sn ≡ wrap i
  pub place : r.offset ≡ came
  pub size : r.desired_length ≡ min burst (need - came)
  pub tag : r.task_tag ≡ p.task_tag
  pub lun : r.lun ≡ p.lun

-- the commands that wait: immediate ones, and numbered ones, by which the window shrinks
abbrev pub is_immediate : Collecting → Bool
is_immediate c = c.command.immediate

abbrev pub shrinks_window : Collecting → Bool
shrinks_window c = not c.command.immediate
