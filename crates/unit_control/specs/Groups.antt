-- REPORT and SET TARGET PORT GROUPS and moves as a unit does them (SPC-4, 5.15.2, 6.37 and 6.45): what a parameter list
-- makes of the unit, when its blocks are opened for another controller, and who hears of it.
use Rattle.std.specs.Prelude.{ℕ, Bool, false, ◌||◌, if◌then◌else◌, List, map, take, Option, is_some, Result, Ok, Err}
use Rattle.access_states.specs.AccessMap.{AccessMapValue}
use Rattle.access_states.specs.Change.{access_after, change_between, is_changed}
use Rattle.access_states.specs.Report.{report_bytes}
use Rattle.access_states.specs.declared.list.AsetFault.{AsetFault}
use Rattle.access_states.specs.declared.list.AsetFault.TheVariants.{Length}
use Rattle.access_states.specs.declared.state.Cause.TheVariants.{Explicit, Implicit}
use Rattle.attentions.specs.Queue.{established}
use Rattle.scsi_types.specs.Cdb.{is_group_list}
use Rattle.scsi_types.specs.declared.attention.UnitAttention.TheVariants.{AccessStateChanged}
use Rattle.scsi_types.specs.declared.command.Command.{Command}
use Rattle.scsi_types.specs.declared.command.CdbFault.{CdbFault}
use Rattle.scsi_types.specs.declared.names.Group.TheVariants.{One, Two}
use Rattle.unit_control.specs.declared.sessions.Attached.{Attached}
use Rattle.unit_control.specs.declared.sessions.News.{News}
use Rattle.unit_control.specs.declared.sessions.News.TheVariants.{Reset, AccessChange}
use Rattle.unit_control.specs.Sessions.{of_others, tell_reset}
use Rattle.unit_control.specs.Ops.{ParameterList, NoList, ReserveList, GroupsList, list_asked}
use Rattle.unit_control.specs.State.{ControlValue, preferred}

-- ---- what a list makes of the access states

-- that of a SET TARGET PORT GROUPS, which is so many of the bytes that came
abbrev pub set_by : ControlValue → ℕ → List ℕ → Result AccessMapValue AsetFault
set_by c list_length bytes =
    if is_group_list list_length then access_after Explicit c.access (take list_length bytes) else Err Length

-- that of a move, which the array makes by itself
abbrev pub move_by : ControlValue → List ℕ → Result AccessMapValue AsetFault
move_by c list = access_after Implicit c.access list

abbrev pub IsTaken : Result AccessMapValue AsetFault → Type 0
IsTaken (Ok new) = Unit {0}
IsTaken (Err fault) = ⊥

-- ---- when the blocks are opened

-- another group owns the unit then
abbrev pub is_moved : AccessMapValue → AccessMapValue → Bool
is_moved old new = is_some (change_between old new).owner

abbrev pub is_moved_by : AccessMapValue → Result AccessMapValue AsetFault → Bool
is_moved_by old (Ok new) = is_moved old new
is_moved_by old (Err fault) = false

-- the command changes the owner: the blocks are opened for the new one first
abbrev pub opens_by : ControlValue → ParameterList → List ℕ → Bool
opens_by c NoList bytes = false
opens_by c (ReserveList list_length) bytes = false
opens_by c (GroupsList list_length) bytes = is_moved_by c.access (set_by c list_length bytes)

abbrev pub is_opening : ControlValue → Result Command CdbFault → List ℕ → Bool
is_opening c asked bytes = opens_by c (list_asked asked) bytes

-- ---- who hears of it, and what is left

-- the condition waits behind the others (SAM-5, 5.14)
abbrev pub tell_change : Attached → Attached
tell_change a = record a { pending = established a.pending AccessStateChanged }

-- it is told to every session but the one that asked for the change (SPC-4, 5.15.2.1)
abbrev pub hear_change : Option ℕ → Attached → Attached
hear_change by_session a = of_others tell_change by_session a

-- what each of the others is told
abbrev pub tell_news : News → Attached → Attached
tell_news Reset a = tell_reset a
tell_news AccessChange a = tell_change a

-- where the state of a group is another
abbrev pub change_heard : Bool → Option ℕ → List Attached → List Attached
change_heard changed by sessions = if changed then map (hear_change by) sessions else sessions

abbrev pub is_any_changed : AccessMapValue → AccessMapValue → Bool
is_any_changed old new = is_changed old new One || is_changed old new Two

-- the unit with these access states, set by this session or by none
abbrev pub with_access : ControlValue → Option ℕ → AccessMapValue → ControlValue
with_access c by new =
    record c { access = new; sessions = change_heard (is_any_changed c.access new) by c.sessions }

-- what a list leaves: one that is not taken changes nothing
abbrev pub after_change : ControlValue → Option ℕ → Result AccessMapValue AsetFault → ControlValue
after_change c by (Ok new) = with_access c by new
after_change c by (Err fault) = c

-- ---- REPORT TARGET PORT GROUPS data

abbrev pub report_by : ControlValue → List ℕ
report_by c = report_bytes (preferred c.place.unit) c.access
