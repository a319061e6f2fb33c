-- Which tasks a task management function drops (RFC 7143, 11.5.1).
use Rattle.std.specs.Prelude.{◌==◌, ◌&&◌, ◌||◌, if◌then◌else◌, ◌∷◌}
use Rattle.session_rules.specs.Words.{ℕ, nat_lt, bytes_eq, drop, slice_index, Bool, false, List, [], CommandHeader, ManagementHeader}
use Rattle.session_rules.specs.Words.{TaskFunction, AbortTask, AbortTaskSet, LogicalUnitReset, TaskReassign, Other}
use Rattle.session_rules.specs.Codes.{abort_task, abort_task_set, logical_unit_reset, task_reassign}

-- the function with this code (11.5.1)
abbrev pub function_of : ℕ → TaskFunction
function_of code =
    if code == abort_task then AbortTask
    else (if code == abort_task_set then AbortTaskSet
    else (if code == logical_unit_reset then LogicalUnitReset
    else (if code == task_reassign then TaskReassign else Other)))

-- the second LUN names the unit that the first one names, by peripheral or flat addressing (SAM-5, 4.7.5 to 4.7.7)
abbrev pub is_same_unit : List ℕ → List ℕ → Bool
is_same_unit a b = (slice_index b 0 == 0x00 || slice_index b 0 == 0x40) && bytes_eq (drop 1 a) (drop 1 b)

-- Of the tasks that collect their data ABORT TASK drops that of its referenced tag; ABORT TASK SET and LOGICAL UNIT RESET
-- drop those of the unit.
abbrev pub drops_by : TaskFunction → ManagementHeader → CommandHeader → Bool
drops_by AbortTask x p = x.referenced_tag == p.task_tag
drops_by AbortTaskSet x p = is_same_unit x.lun p.lun
drops_by LogicalUnitReset x p = is_same_unit x.lun p.lun
drops_by TaskReassign x p = false
drops_by Other x p = false

abbrev pub drops : ManagementHeader → CommandHeader → Bool
drops x p = drops_by (function_of x.function) x p

-- a LUN that names one of so many units, from unit 0 on, by peripheral or flat addressing
abbrev pub names_one_of : ℕ → List ℕ → Bool
names_one_of units lun =
    (slice_index lun 0 == 0x00 || slice_index lun 0 == 0x40)
    && bytes_eq (drop 2 lun) (0 ∷ 0 ∷ 0 ∷ 0 ∷ 0 ∷ 0 ∷ []) && nat_lt (slice_index lun 1) units
