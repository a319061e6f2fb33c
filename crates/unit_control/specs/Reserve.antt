-- PERSISTENT RESERVE IN and OUT as a unit serves them (SPC-4, 5.13, 6.15 and 6.16): the parameter list, the data, and
-- what the table of service actions in `reservations` makes of the unit.
use Rattle.std.specs.Prelude.{◌≡◌, ℕ, ◌/◌, ◌%◌, ◌==◌, ◌<◌, ◌≤◌, Bool, false, true, List, [], ◌∷◌, ◌++◌, drop}
use Rattle.std.specs.Prelude.{map, length, slice_index, All, Contains, Option, Some, None}
use Rattle.byteorder.specs.Endian.{big_number}
use Rattle.attentions.specs.Queue.{established}
use Rattle.reservations.specs.declared.request.PrOut.{PrOut}
use Rattle.reservations.specs.Notice.{Told, code_told}
use Rattle.reservations.specs.Reading.{keys_bytes, reservation_bytes, capabilities_bytes, full_status_bytes}
use Rattle.registrants.specs.Registry.{RecordValue, RegistryValue, to_last}
use Rattle.reservations.specs.Table.{Effect, Done, Conflicting, Refused}
use Rattle.reservations.specs.Table.{effect_of, illegal_request}
use Rattle.scsi_types.specs.ReplyValue.{ReplyValue, good, check, conflict}
use Rattle.scsi_types.specs.declared.attention.UnitAttention.{UnitAttention}
use Rattle.scsi_types.specs.declared.command.Command.{Command}
use Rattle.scsi_types.specs.declared.reservation.PrInAction.{PrInAction}
use Rattle.scsi_types.specs.declared.reservation.PrInAction.TheVariants.{ReadKeys, ReadReservation, ReportCapabilities, ReadFullStatus}
use Rattle.scsi_types.specs.declared.reservation.PrOutAction.{PrOutAction}
use Rattle.unit_control.specs.Limits.{all_tg_pt_flag, aptpl_flag, reserve_list_length, spec_i_pt_flag}
use Rattle.unit_control.specs.declared.sessions.Attached.{Attached}
use Rattle.unit_control.specs.Groups.{IsTaken, set_by}
use Rattle.unit_control.specs.Choice.{Choice, Fine, ReadFailed, WriteFailed, OpenFailed, SaveFailed}
use Rattle.unit_control.specs.Medium.{Finding, Done as Found, Differs, ReadError, WriteError, OpenError, SaveError, reply_by}
use Rattle.unit_control.specs.Ops.{ParameterList, NoList, ReserveList, GroupsList, list_of}
use Rattle.unit_control.specs.State.{ControlValue}
use Rattle.unit_control.specs.Sessions.{nexus_of, sender_of}

-- ---- the parameter list of PERSISTENT RESERVE OUT (SPC-4, 6.16.3)

-- a flag of byte 20, by its value
abbrev pub flag_of : ℕ → List ℕ → Bool
flag_of value list = slice_index list 20 / value % 2 == 1

-- RESERVATION KEY, SERVICE ACTION RESERVATION KEY, and the flags, with the fields of the CDB
abbrev pub pr_out : PrOutAction → ℕ → ℕ → List ℕ → PrOut
pr_out action scope kind list =
    record {
      action = action;
      scope = scope;
      kind = kind;
      key = big_number 8 list;
      sakey = big_number 8 (drop 8 list);
      spec_i_pt = flag_of spec_i_pt_flag list;
      all_tg_pt = flag_of all_tg_pt_flag list;
      aptpl = flag_of aptpl_flag list;
    }

-- the list of the command came whole, and is one that is taken
abbrev pub IsWhole : ControlValue → ParameterList → List ℕ → Type 0
IsWhole c NoList bytes = Unit {0}
IsWhole c (ReserveList list_length) bytes = reserve_list_length ≤ length bytes
IsWhole c (GroupsList list_length) bytes = IsTaken (set_by c list_length bytes)

abbrev pub HasList : ControlValue → Command → List ℕ → Type 0
HasList c command bytes = IsWhole c (list_of command) bytes

-- ---- what it does

abbrev pub effect_by : ControlValue → ℕ → PrOut → Effect
effect_by c session asked = effect_of c.registry (sender_of c.sessions session) asked

-- how its effect is answered
abbrev pub effect_reply : Effect → ReplyValue
effect_reply (Done new told) = good []
effect_reply Conflicting = conflict
effect_reply (Refused asc ascq) = check (illegal_request asc ascq)

-- The condition that a session hears of waits behind the others (SAM-5, 5.14). It is the one that is told to its nexus; a
-- condition for a nexus of which no session is attached is told to nobody.
abbrev pub with_heard : Option UnitAttention → List UnitAttention → List UnitAttention
with_heard None pending = pending
with_heard (Some code) pending = established pending code

abbrev pub hear : List Told → Attached → Attached
hear told a = record a { pending = with_heard (code_told told (nexus_of a)) a.pending }

abbrev pub all_heard : List Told → List Attached → List Attached
all_heard told sessions = map (hear told) sessions

-- and what it leaves: only GOOD changes anything, and a crash leaves just the record to last of what is there then
abbrev pub after_effect : ControlValue → Effect → ControlValue
after_effect c (Done new told) =
    record c { registry = new; lasting = to_last new ∷ []; doubt = false; sessions = all_heard told c.sessions }
after_effect c Conflicting = c
after_effect c (Refused asc ascq) = c

-- ---- what is saved before it does that

-- The save of this record may fail: it is asked for unless a crash leaves just this record already, and the last save
-- did not fail. A crash then leaves one of the records that it might have left before, or this one.
pub record MaySave (c : ControlValue) (saved : RecordValue) (after : List RecordValue) : Type 0 where
  pub needed : c.lasting ≡ saved ∷ [] → c.doubt ≡ true
  pub some : 0 < length after
  pub among : All (Contains (c.lasting ++ saved ∷ [])) after

abbrev pub MayFailToSave : ControlValue → Effect → List RecordValue → Type 0
MayFailToSave c (Done new told) after = MaySave c (to_last new) after
MayFailToSave c Conflicting after = ⊥
MayFailToSave c (Refused asc ascq) after = ⊥

-- the record is saved first
abbrev pub after_saved : ControlValue → Effect → Choice → ControlValue
after_saved c effect (SaveFailed after) = record c { lasting = after; doubt = true }
after_saved c effect Fine = after_effect c effect
after_saved c effect ReadFailed = after_effect c effect
after_saved c effect (WriteFailed after) = after_effect c effect
after_saved c effect OpenFailed = after_effect c effect

abbrev pub saved_reply : Effect → Finding → ReplyValue
saved_reply effect SaveError = reply_by SaveError
saved_reply effect (Found bytes) = effect_reply effect
saved_reply effect (Differs at) = effect_reply effect
saved_reply effect ReadError = effect_reply effect
saved_reply effect WriteError = effect_reply effect
saved_reply effect OpenError = effect_reply effect

-- ---- the data of PERSISTENT RESERVE IN (SPC-4, 6.15)

abbrev pub in_data : RegistryValue → PrInAction → List ℕ
in_data r ReadKeys = keys_bytes r
in_data r ReadReservation = reservation_bytes r
in_data r ReportCapabilities = capabilities_bytes r.aptpl
in_data r ReadFullStatus = full_status_bytes r
