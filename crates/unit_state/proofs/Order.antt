-- Rules that refuse a command, or do not.
use Rattle.std.proofs.Common.{◌≡◌, ℕ, ◌+◌, ◌≤◌, Bool, true, false, ◌||◌, nat_lt, nat_eq, if◌then◌else◌, List}
use Rattle.std.proofs.Common.{length, Option, Some, None, Result, Ok, Err, refl, sym, arith}
use Rattle.std.specs.Option.{option_map, option_or}
use Rattle.std.proofs.lemmas.Bool.Decides.{nat_tests}
use Rattle.access_states.specs.AccessMap.{AccessMapValue}
use Rattle.access_states.specs.State.{is_served, not_accessible}
use Rattle.access_states.specs.declared.list.AsetFault.{AsetFault}
use Rattle.access_states.specs.declared.list.AsetFault.TheVariants.{Length, BadList}
use Rattle.access_states.specs.declared.state.AccessState.{AccessState}
use Rattle.access_states.specs.declared.state.AccessState.TheVariants.{ActiveOptimized, ActiveNonOptimized, Standby, Unavailable}
use Rattle.registrants.specs.Registry.{RecordValue}
use Rattle.scsi_types.specs.declared.command.Op.{Op}
use Rattle.scsi_types.specs.Attention.{attention_sense}
use Rattle.scsi_types.specs.Cdb.{need_of}
use Rattle.scsi_types.specs.ReplyValue.{check}
use Rattle.scsi_types.specs.declared.attention.UnitAttention.{UnitAttention}
use Rattle.scsi_types.specs.declared.attention.UnitAttention.TheVariants.{PowerOn, ReservationsPreempted}
use Rattle.scsi_types.specs.declared.attention.UnitAttention.TheVariants.{ReservationsReleased}
use Rattle.scsi_types.specs.declared.attention.UnitAttention.TheVariants.{RegistrationsPreempted}
use Rattle.scsi_types.specs.declared.attention.UnitAttention.TheVariants.{AccessStateChanged}
use Rattle.scsi_types.specs.declared.command.Command.{Command as ScsiCommand}
use Rattle.scsi_types.specs.declared.command.Command.TheVariants as commands
use Rattle.scsi_types.specs.declared.command.CdbFault.{CdbFault}
use Rattle.scsi_types.specs.declared.command.CdbFault.TheVariants.{UnknownOpcode, BadField}
use Rattle.unit_control.specs.declared.refusal.Refusal.{Refusal}
use Rattle.unit_control.specs.declared.refusal.Refusal.TheVariants.{Attention, Conflict, Check}
use Rattle.unit_control.specs.State.{ControlValue}
use Rattle.unit_control.specs.Choice.{Fine, choice_of}
use Rattle.unit_control.specs.Medium.{Range, Fits, is_too_long, range_of, work_of, work_asked}
use Rattle.unit_control.specs.Groups.{IsTaken, set_by}
use Rattle.unit_control.specs.Ops.{kind_asked}
use Rattle.unit_control.specs.Reserve.{HasList}
use Rattle.unit_control.specs.Refusal.{Request, request, refusal, refusal_reply, attention_by, attention_rule}
use Rattle.unit_control.specs.Refusal.{conflict_by, conflict_rule, opcode_by, opcode_rule, access_by}
use Rattle.unit_control.specs.Refusal.{access_rule, state_for, field_by, field_rule, saved_rule, range_rule}
use Rattle.unit_control.specs.Refusal.{range_by, past_end_by, asks_saved, groups_list_by, list_by, list_rule}
use Rattle.unit_control.specs.Route.{IsAdmitted, IsRefused}

-- ---- no refusal tells of a failure

abbrev IsQuiet : Option Refusal → Type 0
IsQuiet o =
    (refused : Refusal) → o ≡ Some refused → (after : List (List ℕ)) (lasting : List RecordValue)
    → choice_of (refusal_reply refused) after lasting ≡ Fine

quiet_none : IsQuiet None
quiet_none refused is after lasting = absurd (cc)

quiet_some : (a : Refusal)
    → ((after : List (List ℕ)) (lasting : List RecordValue) → choice_of (refusal_reply a) after lasting ≡ Fine)
    → IsQuiet (Some a)
quiet_some a quiet refused is after lasting = let e : refused ≡ a = cc in rw e (quiet after lasting)

quiet_or : (a b : Option Refusal) → IsQuiet a → IsQuiet b → IsQuiet (option_or a b)
quiet_or None b qa qb = qb
quiet_or (Some s) b qa qb = qa

quiet_unless : (test : Bool) (a : Refusal) → IsQuiet (Some a) → IsQuiet (if test then None else Some a)
quiet_unless true a q = quiet_none
quiet_unless false a q = q

quiet_if : (test : Bool) (a : Refusal) → IsQuiet (Some a) → IsQuiet (if test then Some a else None)
quiet_if true a q = q
quiet_if false a q = quiet_none

attention_is_fine : (attention : UnitAttention) (after : List (List ℕ)) (lasting : List RecordValue)
    → choice_of (check (attention_sense attention)) after lasting ≡ Fine
attention_is_fine PowerOn after lasting = refl
attention_is_fine ReservationsPreempted after lasting = refl
attention_is_fine ReservationsReleased after lasting = refl
attention_is_fine RegistrationsPreempted after lasting = refl
attention_is_fine AccessStateChanged after lasting = refl

quiet_attention : (first : Option UnitAttention) (passes : Bool) → IsQuiet (attention_by first passes)
quiet_attention None passes = quiet_none
quiet_attention (Some attention) true = quiet_none
quiet_attention (Some attention) false = quiet_some (Attention attention) (attention_is_fine attention)

quiet_conflict : (lets : Bool) → IsQuiet (conflict_by lets)
quiet_conflict true = quiet_none
quiet_conflict false = quiet_some Conflict (λ after lasting. refl)

quiet_field : (asked : Result ScsiCommand CdbFault) (bytes : List ℕ) → IsQuiet (field_by asked bytes)
quiet_field (Ok command) bytes =
    quiet_if (nat_lt (length bytes) (need_of (Ok command)) || is_too_long (work_of command bytes)) _ (quiet_some _ (λ after lasting. refl))
quiet_field (Err (BadField op)) bytes = quiet_some _ (λ after lasting. refl)
quiet_field (Err UnknownOpcode) bytes = quiet_none

quiet_range : (total : ℕ) (range : Option Range) → IsQuiet (range_by total range)
quiet_range total None = quiet_none
quiet_range total (Some r) = quiet_unless _ _ (quiet_some _ (λ after lasting. refl))

quiet_opcode : (kind : Option Op) → IsQuiet (opcode_by kind)
quiet_opcode None = quiet_some _ (λ after lasting. refl)
quiet_opcode (Some op) = quiet_none

quiet_states : (served : Bool) (state : AccessState)
    → IsQuiet (option_map Check (if served then None else not_accessible state))
quiet_states true state = quiet_none
quiet_states false ActiveOptimized = quiet_none
quiet_states false ActiveNonOptimized = quiet_none
quiet_states false Standby = quiet_some _ (λ after lasting. refl)
quiet_states false Unavailable = quiet_some _ (λ after lasting. refl)

quiet_access : (state : AccessState) (kind : Option Op) → IsQuiet (access_by state kind)
quiet_access state None = quiet_none
quiet_access state (Some op) = quiet_states (is_served state op) state

quiet_groups : (r : Result AccessMapValue AsetFault) → IsQuiet (groups_list_by r)
quiet_groups (Ok new) = quiet_none
quiet_groups (Err Length) = quiet_some _ (λ after lasting. refl)
quiet_groups (Err BadList) = quiet_some _ (λ after lasting. refl)

quiet_list : (c : ControlValue) (asked : Result ScsiCommand CdbFault) (bytes : List ℕ) → IsQuiet (list_by c asked bytes)
quiet_list c (Err fault) bytes = quiet_none
quiet_list c (Ok commands.TestUnitReady) bytes = quiet_none
quiet_list c (Ok (commands.RequestSense n)) bytes = quiet_none
quiet_list c (Ok (commands.Inquiry page n)) bytes = quiet_none
quiet_list c (Ok (commands.ModeSense header control page n)) bytes = quiet_none
quiet_list c (Ok commands.ReadCapacity10) bytes = quiet_none
quiet_list c (Ok (commands.ReadCapacity16 n)) bytes = quiet_none
quiet_list c (Ok (commands.Read lba n fua)) bytes = quiet_none
quiet_list c (Ok (commands.Write lba n fua)) bytes = quiet_none
quiet_list c (Ok (commands.CompareAndWrite lba n fua)) bytes = quiet_none
quiet_list c (Ok (commands.SynchronizeCache lba n)) bytes = quiet_none
quiet_list c (Ok (commands.PersistentReserveIn action n)) bytes = quiet_none
quiet_list c (Ok (commands.PersistentReserveOut action scope kind n)) bytes =
    quiet_unless (nat_eq n 24) _ (quiet_some _ (λ after lasting. refl))
quiet_list c (Ok (commands.ReportLuns select n)) bytes = quiet_none
quiet_list c (Ok (commands.ReportTargetPortGroups n)) bytes = quiet_none
quiet_list c (Ok (commands.SetTargetPortGroups n)) bytes = quiet_groups (set_by c n bytes)

quiet_rules : (c : ControlValue) (r : Request) → IsQuiet (refusal c r)
quiet_rules c r =
    quiet_or (attention_rule c r) _ (quiet_attention _ _)
    (quiet_or (opcode_rule c r) _ (quiet_opcode (kind_asked r.asked))
    (quiet_or (access_rule c r) _ (quiet_access (state_for c r.session) (kind_asked r.asked))
    (quiet_or (conflict_rule c r) _ (quiet_conflict _)
    (quiet_or (field_rule c r) _ (quiet_field r.asked r.bytes)
    (quiet_or (saved_rule c r) _ (quiet_if (asks_saved r.asked) _ (quiet_some _ (λ after lasting. refl)))
    (quiet_or (range_rule c r) _ (quiet_range c.total (range_of (work_asked r.asked r.bytes)))
    (quiet_or (list_rule c r) None (quiet_list c r.asked r.bytes) quiet_none)))))))

pub refused_by : (c : ControlValue) (r : Request) (refused : Refusal) → Some refused ≡ refusal c r → IsRefused c r refused
refused_by c r refused is = record { refuses = sym is; fine = quiet_rules c r refused (sym is) }

-- ---- where nothing refuses a command, no rule did

none_left : (a b : Option Refusal) → option_or a b ≡ None → a ≡ None
none_left None b h = refl
none_left (Some a) b h = absurd (cc)

none_right : (a b : Option Refusal) → option_or a b ≡ None → b ≡ None
none_right None b h = h
none_right (Some a) b h = absurd (cc)

module _ (c : ControlValue) (r : Request) (none : refusal c r ≡ None) where
  abbrev of_range : Option Refusal
  of_range = option_or (range_rule c r) (option_or (list_rule c r) None)

  abbrev of_field : Option Refusal
  of_field = option_or (field_rule c r) (option_or (saved_rule c r) of_range)

  abbrev of_access : Option Refusal
  of_access = option_or (access_rule c r) (option_or (conflict_rule c r) of_field)

  behind_opcode : of_access ≡ None
  behind_opcode = none_right (opcode_rule c r) of_access
      (none_right (attention_rule c r) (option_or (opcode_rule c r) of_access) none)

  behind_kind : of_field ≡ None
  behind_kind =
      none_right (conflict_rule c r) of_field
      (none_right (access_rule c r) (option_or (conflict_rule c r) of_field) behind_opcode)

  behind_saved : of_range ≡ None
  behind_saved = none_right (saved_rule c r) of_range
      (none_right (field_rule c r) (option_or (saved_rule c r) of_range) behind_kind)

  pub known : opcode_rule c r ≡ None
  known = none_left (opcode_rule c r) of_access
      (none_right (attention_rule c r) (option_or (opcode_rule c r) of_access) none)

  pub whole : field_rule c r ≡ None
  whole = none_left (field_rule c r) (option_or (saved_rule c r) of_range) behind_kind

  pub ranged : range_rule c r ≡ None
  ranged = none_left (range_rule c r) (option_or (list_rule c r) None) behind_saved

  pub listed : list_rule c r ≡ None
  listed = none_left (list_rule c r) None (none_right (range_rule c r) (option_or (list_rule c r) None) behind_saved)

-- a CDB that asks for nothing is refused
known_fault : (fault : CdbFault) (bytes : List ℕ) → opcode_by (kind_asked (Err fault)) ≡ None
    → field_by (Err fault) bytes ≡ None → ⊥
known_fault UnknownOpcode bytes known whole = cc
known_fault (BadField op) bytes known whole = cc

pub asks_something : (c : ControlValue) (session : ℕ) (asked : Result ScsiCommand CdbFault) (bytes : List ℕ)
    (fault : CdbFault) → None ≡ refusal c (request session asked bytes) → asked ≡ Err fault → ⊥
asks_something c session asked bytes fault none is =
    let nothing : refusal c (request session (Err fault) bytes) ≡ None = rw is at (sym none) in
    known_fault fault bytes (known c (request session (Err fault) bytes) nothing)
    (whole c (request session (Err fault) bytes) nothing)

-- ---- what lets a command through

pub within : (total : ℕ) (r : Range) → past_end_by total r ≡ None → r.lba + r.blocks ≤ total
within total r h = grind (arith, nat_tests)

not_if : (test : Bool) (a : Refusal) → (if test then Some a else None) ≡ None → test ≡ false
not_if true a h = absurd (cc)
not_if false a h = refl

not_unless : (test : Bool) (a : Refusal) (b : Option Refusal) → (if test then b else Some a) ≡ None → test ≡ true
not_unless true a b h = refl
not_unless false a b h = absurd (cc)

neither : (a b : Bool) → (a || b) ≡ false → (a ≡ false) × (b ≡ false)
neither true b h = absurd (cc)
neither false b h = (refl, h)

not_bad : (command : ScsiCommand) (bytes : List ℕ) → field_by (Ok command) bytes ≡ None
    → (nat_lt (length bytes) (need_of (Ok command)) ≡ false) × (is_too_long (work_of command bytes) ≡ false)
not_bad command bytes h = neither _ _ (not_if _ _ h)

enough : (command : ScsiCommand) (bytes : List ℕ) → field_by (Ok command) bytes ≡ None → need_of (Ok command) ≤ length bytes
enough command bytes h =
    let not_short : nat_lt (length bytes) (need_of (Ok command)) ≡ false = (not_bad command bytes h).0 in
    grind (arith, nat_tests)

few : (most n : ℕ) → nat_lt most n ≡ false → n ≤ most
few most n h = grind (arith, nat_tests)

fitting : (total : ℕ) (command : ScsiCommand) (bytes : List ℕ) → need_of (Ok command) ≤ length bytes
    → is_too_long (work_of command bytes) ≡ false
    → range_by total (range_of (work_of command bytes)) ≡ None → Fits total (work_of command bytes)
fitting total commands.TestUnitReady bytes le short h = tt
fitting total (commands.RequestSense n) bytes le short h = tt
fitting total (commands.Inquiry page n) bytes le short h = tt
fitting total (commands.ModeSense header control page n) bytes le short h = tt
fitting total commands.ReadCapacity10 bytes le short h = tt
fitting total (commands.ReadCapacity16 n) bytes le short h = tt
fitting total (commands.Read lba n fua) bytes le short h = within total (record { lba = lba; blocks = n }) h
fitting total (commands.Write lba n fua) bytes le short h = (within total (record { lba = lba; blocks = n }) h, omega arith)
fitting total (commands.CompareAndWrite lba n fua) bytes le short h =
    (within total (record { lba = lba; blocks = n }) h, omega arith, few 32 n short)
fitting total (commands.SynchronizeCache lba n) bytes le short h = tt
fitting total (commands.PersistentReserveIn action n) bytes le short h = tt
fitting total (commands.PersistentReserveOut action scope kind n) bytes le short h = tt
fitting total (commands.ReportLuns select n) bytes le short h = tt
fitting total (commands.ReportTargetPortGroups n) bytes le short h = tt
fitting total (commands.SetTargetPortGroups n) bytes le short h = tt

taken : (r : Result AccessMapValue AsetFault) → groups_list_by r ≡ None → IsTaken r
taken (Ok new) h = tt
taken (Err fault) h = absurd (cc)

listing : (c : ControlValue) (command : ScsiCommand) (bytes : List ℕ) → need_of (Ok command) ≤ length bytes
    → list_by c (Ok command) bytes ≡ None → HasList c command bytes
listing c commands.TestUnitReady bytes le h = tt
listing c (commands.RequestSense n) bytes le h = tt
listing c (commands.Inquiry page n) bytes le h = tt
listing c (commands.ModeSense header control page n) bytes le h = tt
listing c commands.ReadCapacity10 bytes le h = tt
listing c (commands.ReadCapacity16 n) bytes le h = tt
listing c (commands.Read lba n fua) bytes le h = tt
listing c (commands.Write lba n fua) bytes le h = tt
listing c (commands.CompareAndWrite lba n fua) bytes le h = tt
listing c (commands.SynchronizeCache lba n) bytes le h = tt
listing c (commands.PersistentReserveIn action n) bytes le h = tt
listing c (commands.PersistentReserveOut action scope kind n) bytes le h =
    let is : nat_eq n 24 ≡ true = not_unless (nat_eq n 24) _ _ h in
    rw is at le
listing c (commands.ReportLuns select n) bytes le h = tt
listing c (commands.ReportTargetPortGroups n) bytes le h = tt
listing c (commands.SetTargetPortGroups n) bytes le h = taken (set_by c n bytes) h

pub admitted : (c : ControlValue) (session : ℕ) (asked : Result ScsiCommand CdbFault) (bytes : List ℕ)
    (command : ScsiCommand) → None ≡ refusal c (request session asked bytes) → asked ≡ Ok command → IsAdmitted c
    (request session asked bytes) command
admitted c session asked bytes command none is =
    let nothing : refusal c (request session (Ok command) bytes) ≡ None = rw is at (sym none) in
    let r : Request = request session (Ok command) bytes in
    let le : need_of (Ok command) ≤ length bytes = enough command bytes (whole c r nothing) in
    record {
      asks = is;
      unrefused = sym none;
      fits = fitting c.total command bytes le (not_bad command bytes (whole c r nothing)).1 (ranged c r nothing);
      list = listing c command bytes le (listed c r nothing);
    }

-- ---- the rules one after the other

pub in_order : (a b c d e own : Option Refusal)
    → option_or (option_or (option_or (option_or (option_or a b) c) d) e) own
    ≡ option_or a (option_or b (option_or c (option_or d (option_or e own))))
in_order (Some x) b c d e own = refl
in_order None (Some x) c d e own = refl
in_order None None (Some x) d e own = refl
in_order None None None (Some x) e own = refl
in_order None None None None (Some x) own = refl
in_order None None None None None own = refl
