-- Why a command is refused: rules in order, of which the first that applies decides. They look at what does not rest
-- on the medium, and at the request.
use Rattle.std.specs.Prelude.{◌≡◌, ℕ, ◌+◌, ◌&&◌, ◌||◌, Bool, nat_eq, true, false, nat_lt, nat_le, if◌then◌else◌}
use Rattle.std.specs.Prelude.{List, [], ◌∷◌, length, Option, Some, None, Result, Ok, Err}
use Rattle.std.specs.Option.{option_map, option_or}
use Rattle.access_states.specs.AccessMap.{AccessMapValue, group_access}
use Rattle.access_states.specs.Change.{fault_sense}
use Rattle.access_states.specs.State.{refusal_in}
use Rattle.access_states.specs.declared.list.AsetFault.{AsetFault}
use Rattle.access_states.specs.declared.state.AccessState.{AccessState}
use Rattle.scsi_types.specs.declared.traits.Access.{Access}
use Rattle.reservations.specs.Access.{is_let_through, party_of}
use Rattle.scsi_types.specs.Nexus.{Nexus}
use Rattle.scsi_types.specs.ReplyValue.{ReplyValue, check, conflict}
use Rattle.scsi_types.specs.Cdb.{need_of}
use Rattle.scsi_types.specs.Attention.{attention_sense}
use Rattle.scsi_types.specs.Sense.{invalid_opcode, invalid_field_in_cdb, lba_out_of_range}
use Rattle.scsi_types.specs.Sense.{saving_parameters_not_supported, parameter_list_length_error}
use Rattle.scsi_types.specs.declared.attention.UnitAttention.{UnitAttention}
use Rattle.scsi_types.specs.declared.command.Op.{Op}
use Rattle.scsi_types.specs.declared.command.Command.{Command}
use Rattle.scsi_types.specs.declared.sense.Sense.{Sense}
use Rattle.scsi_types.specs.declared.command.CdbFault.{CdbFault}
use Rattle.scsi_types.specs.declared.command.CdbFault.TheVariants.{UnknownOpcode, BadField}
use Rattle.unit_control.specs.declared.refusal.Refusal.{Refusal}
use Rattle.scsi_types.specs.declared.pages.PageControl.{PageControl}
use Rattle.scsi_types.specs.declared.pages.PageControl.TheVariants.{Current, Changeable, Default, Saved}
use Rattle.unit_control.specs.declared.refusal.Refusal.TheVariants.{Attention, Conflict, Check}
use Rattle.unit_control.specs.State.{ControlValue, tell}
use Rattle.unit_control.specs.Sessions.{first_pending, sender_of}
use Rattle.unit_control.specs.Groups.{set_by}
use Rattle.unit_control.specs.Ops.{ParameterList, NoList, ReserveList, GroupsList, kind_asked, list_asked}
use Rattle.unit_control.specs.Ops.{Parameter, NoParameter, ListParameter, PageParameter, access_of, parameter_of, passes_attention}
use Rattle.unit_control.specs.Limits.{reserve_list_length}
use Rattle.unit_control.specs.Medium.{Range, is_too_long, range_of, work_asked, work_of}

-- a command as the rules judge it: who sent it, what it asks, and the data that came
pub record Request : Type 0 where
  pub session : ℕ
  pub asked : Result Command CdbFault
  pub bytes : List ℕ

abbrev pub request : ℕ → Result Command CdbFault → List ℕ → Request
request session asked bytes = record { session = session; asked = asked; bytes = bytes }

-- the answer of a refusal
abbrev pub refusal_reply : Refusal → ReplyValue
refusal_reply (Attention attention) = check (attention_sense attention)
refusal_reply Conflict = conflict
refusal_reply (Check s) = check s

-- what a refusal changes: an attention that is told with it is pending no more; else nothing
abbrev pub refusal_control : ControlValue → ℕ → Refusal → ControlValue
refusal_control c session (Attention attention) = tell c session
refusal_control c session Conflict = c
refusal_control c session (Check s) = c

-- a rule answers a command that it refuses
abbrev pub Rule : Type 0
Rule = ControlValue → Request → Option Refusal

-- an attention is pending, and the command is none that it lets pass (SAM-5, 5.14)
abbrev pub attention_by : Option UnitAttention → Bool → Option Refusal
attention_by None passes = None
attention_by (Some attention) true = None
attention_by (Some attention) false = Some (Attention attention)

abbrev pub attention_rule : Rule
attention_rule c r = attention_by (first_pending c.sessions r.session) (passes_attention (kind_asked r.asked))

-- the opcode is that of no command
abbrev pub opcode_by : Option Op → Option Refusal
opcode_by None = Some (Check invalid_opcode)
opcode_by (Some op) = None

abbrev pub opcode_rule : Rule
opcode_rule c r = opcode_by (kind_asked r.asked)

-- The group by which the session's commands come is in a state in which its ports serve no command of this kind, whatever its fields
-- (SPC-4, 5.15.2.4).
abbrev pub access_by : AccessState → Option Op → Option Refusal
access_by state None = None
access_by state (Some op) = option_map Check (refusal_in state op)

-- the access state of the group by which the session's commands come
abbrev pub state_for : ControlValue → ℕ → AccessState
state_for c session = (group_access c.access (sender_of c.sessions session).group).state

abbrev pub access_rule : Rule
access_rule c r = access_by (state_for c r.session) (kind_asked r.asked)

-- The reservation does not let the nexus do to the medium what the command does (SPC-4, 5.13.1). First whether it does.
abbrev pub is_let : ControlValue → Nexus → Access → Bool
is_let c nexus access = is_let_through c.registry.reservation (party_of c.registry nexus) access

abbrev pub conflict_by : Bool → Option Refusal
conflict_by true = None
conflict_by false = Some Conflict

abbrev pub conflict_rule : Rule
conflict_rule c r = conflict_by (is_let c (sender_of c.sessions r.session) (access_of (kind_asked r.asked)))

-- A field of the CDB is bad, or less data came than the command needs. `decode` gives no command with more blocks than it may have, so
-- `is_too_long` holds of none that it gives: it refuses one that is handed in without a CDB.
abbrev pub field_by : Result Command CdbFault → List ℕ → Option Refusal
field_by (Ok command) bytes =
    if nat_lt (length bytes) (need_of (Ok command)) || is_too_long (work_of command bytes) then Some (Check invalid_field_in_cdb) else None
field_by (Err (BadField op)) bytes = Some (Check invalid_field_in_cdb)
field_by (Err UnknownOpcode) bytes = None

abbrev pub field_rule : Rule
field_rule c r = field_by r.asked r.bytes

-- saved values of mode pages: none are saved (SPC-4, 6.13.1)
abbrev pub is_saved : PageControl → Bool
is_saved Current = false
is_saved Changeable = false
is_saved Default = false
is_saved Saved = true

abbrev pub saved_in : Parameter → Bool
saved_in NoParameter = false
saved_in (ListParameter list) = false
saved_in (PageParameter control) = is_saved control

abbrev pub asks_saved : Result Command CdbFault → Bool
asks_saved (Ok command) = saved_in (parameter_of command)
asks_saved (Err fault) = false

abbrev pub saved_rule : Rule
saved_rule c r = if asks_saved r.asked then Some (Check saving_parameters_not_supported) else None

-- the LBA or the range passes the end, the LBA of an empty range too (SBC-3, READ (10) command)
abbrev pub past_end_by : ℕ → Range → Option Refusal
past_end_by total r = if nat_lt r.lba total && nat_le (r.lba + r.blocks) total then None else Some (Check lba_out_of_range)

abbrev pub range_by : ℕ → Option Range → Option Refusal
range_by total None = None
range_by total (Some r) = past_end_by total r

abbrev pub range_rule : Rule
range_rule c r = range_by c.total (range_of (work_asked r.asked r.bytes))

-- the parameter list of PERSISTENT RESERVE OUT has 24 bytes (SPC-4, 6.16.1)
abbrev pub reserve_list_by : ℕ → Option Refusal
reserve_list_by list_length = if nat_eq list_length reserve_list_length then None else Some (Check parameter_list_length_error)

-- the list of SET TARGET PORT GROUPS is one that the access states can follow (SPC-4, 6.45)
abbrev pub groups_list_by : Result AccessMapValue AsetFault → Option Refusal
groups_list_by (Ok new) = None
groups_list_by (Err fault) = Some (Check (fault_sense fault))

-- the parameter list of a command is none that it may have; a command without one has nothing to refuse
abbrev pub refused_list : ControlValue → ParameterList → List ℕ → Option Refusal
refused_list c NoList bytes = None
refused_list c (ReserveList list_length) bytes = reserve_list_by list_length
refused_list c (GroupsList list_length) bytes = groups_list_by (set_by c list_length bytes)

-- the same of what was asked, where a CDB of no command has no list
abbrev pub list_by : ControlValue → Result Command CdbFault → List ℕ → Option Refusal
list_by c asked bytes = refused_list c (list_asked asked) bytes

abbrev pub list_rule : Rule
list_rule c r = list_by c r.asked r.bytes

-- the rules in their order, which `docs/PROFILE.md` has as a table, "Status and sense, in order", lines 2 to 9
abbrev pub rules_of_unit : List Rule
rules_of_unit =
    attention_rule ∷ opcode_rule ∷ access_rule ∷ conflict_rule ∷ field_rule ∷ saved_rule ∷ range_rule ∷ list_rule ∷ []

-- the first rule that refuses answers
abbrev pub first_refusal : List Rule → ControlValue → Request → Option Refusal
first_refusal [] c r = None
first_refusal (rule ∷ rules) c r = option_or (rule c r) (first_refusal rules c r)

-- the refusal of a command before the device is asked
abbrev pub refusal : ControlValue → Request → Option Refusal
refusal c r = first_refusal rules_of_unit c r

-- No unit attention is to be told to the session first, and its command is one of this kind.
pub record IsJudged (c : ControlValue) (session : ℕ) (asked : Result Command CdbFault) (op : Op) : Type 0 where
  pub nothing_first : first_pending c.sessions session ≡ None
  pub kind : kind_asked asked ≡ Some op

-- The ports of the session's group may not serve a command that is judged so.
pub record IsNotServed (c : ControlValue) (session : ℕ) (asked : Result Command CdbFault) (op : Op)
    (s : Sense) : Type 0 where
  pub judged : IsJudged c session asked op
  pub not_served : refusal_in (state_for c session) op ≡ Some s

-- The ports of the session's group may serve it, and the reservation does not let the session do so.
pub record IsKeptOut (c : ControlValue) (session : ℕ) (asked : Result Command CdbFault) (op : Op) : Type 0 where
  pub judged : IsJudged c session asked op
  pub served : refusal_in (state_for c session) op ≡ None
  pub not_let : is_let c (sender_of c.sessions session) (access_of (Some op)) ≡ false
