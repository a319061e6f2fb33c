-- Laws of the serials of a history, through every kind of entry.
use Rattle.std.proofs.Common.{◌≡◌, ◌≢◌, ⊎_elim, ℕ, ◌+◌, ◌<◌, ◌≤◌, Bool, true, false, not, nat_eq, List, [], ◌∷◌}
use Rattle.std.proofs.Common.{◌++◌, length, length-append, append_assoc, append-nil, Option, Some, None, refl, sym}
use Rattle.std.proofs.Common.{ap, subst, if◌then◌else◌, filter, ◌∙◌, arith, Result}
use Rattle.std.proofs.lemmas.Bool.Decides.{eqb_tells}
use Rattle.std.proofs.lemmas.List.Sums.{sum_by_push}
use Rattle.scsi_types.specs.Nexus.{Nexus}
use Rattle.scsi_types.specs.declared.names.Group.{Group}
use Rattle.scsi_types.specs.declared.command.Command.{Command as ScsiCommand}
use Rattle.scsi_types.specs.declared.command.CdbFault.{CdbFault}
use Rattle.unit_control.specs.declared.sessions.Attached.{Attached}
use Rattle.unit_control.specs.State.{ControlValue, UnitState}
use Rattle.unit_control.specs.Sessions.{attached, ended, reset_established, is_of, next_of, command_counted, without}
use Rattle.unit_control.specs.Choice.{Choice}
use Rattle.unit_control.specs.Groups.{move_by}
use Rattle.unit_control.specs.Refusal.{Request, request, refusal}
use Rattle.unit_control.specs.Entry.{Entry, Attach, Detach, Reset, Move, Command, IsPossible, after, control_after, control_with}
use Rattle.unit_state.specs.History.{state_after, IsLegal}
use Rattle.unit_state.proofs.CommandLaws.{serials, serial_in, next_in, serials_mapped, serials_after_change}
use Rattle.unit_state.proofs.CommandLaws.{serials_kept, kept_count, count_after_change}
use Rattle.unit_state.specs.Serials.{is_command_of, commands_of, IsOpening, IsNumbered}

-- ---- a history with one entry more

longer : (past : List Entry) (e : Entry) → length (past ++ e ∷ []) ≡ length past + 1
longer past e = length-append past (e ∷ [])

pub commands-snoc : (id : ℕ) (past : List Entry) (e : Entry)
    → commands_of id (past ++ e ∷ []) ≡ commands_of id past + (if is_command_of id e then 1 else 0)
commands-snoc id past e = sum_by_push (λ (x : Entry). if is_command_of id x then 1 else 0) past e

pub no_command : (id : ℕ) (past : List Entry) (e : Entry) → is_command_of id e ≡ false
    → commands_of id (past ++ e ∷ []) ≡ commands_of id past
no_command id past e is = let c = commands-snoc id past e in let n = rw is at c in omega arith

pub one_command : (id : ℕ) (past : List Entry) (e : Entry) → is_command_of id e ≡ true
    → commands_of id (past ++ e ∷ []) ≡ commands_of id past + 1
one_command id past e is = let c = commands-snoc id past e in let n = rw is at c in omega arith

-- ---- the sessions behind a history: no id stands there twice

pub record IsSlot (past : List Entry) (p : ℕ × ℕ) (rest : List (ℕ × ℕ)) : Type 0 where
  pub next : p.1 ≡ commands_of p.0 past + 1
  pub below : p.0 < length past
  pub once : serial_in rest p.0 ≡ None

abbrev pub AreSlots : List Entry → List (ℕ × ℕ) → Type 0
AreSlots past [] = Unit {0}
AreSlots past (p ∷ rest) = IsSlot past p rest × AreSlots past rest

not_some : (n : ℕ) → (let o : Option ℕ = Some n in o) ≡ None → ⊥
not_some n h = cc

-- the first of an id
found : (past : List Entry) (ps : List (ℕ × ℕ)) (id n : ℕ) → AreSlots past ps → serial_in ps id ≡ Some n
    → (n ≡ commands_of id past + 1) × (id < length past)
found past [] id n slots h = absurd (cc)
found past (p ∷ rest) id n slots h =
    ⊎_elim
    (λ (t : (nat_eq p.0 id ≡ true) × (p.0 ≡ id)).
    let here : (let o : Option ℕ = Some p.1 in o) ≡ Some n = rw t.0 at h in
    let same : p.1 ≡ n = cc in (
      sym same ∙ slots.0.next ∙ ap (λ (i : ℕ). commands_of i past + 1) t.1,
      subst (λ (i : ℕ). i < length past) t.1 slots.0.below,
    ))
    (λ (f : (nat_eq p.0 id ≡ false) × (p.0 ≢ id)). found past rest id n slots.1 (rw f.0 at h))
    (eqb_tells p.0 id)

-- another id is not there
absent_behind : (p : ℕ × ℕ) (rest : List (ℕ × ℕ)) (id : ℕ) → serial_in (p ∷ rest) id ≡ None
    → (p.0 ≢ id) × (serial_in rest id ≡ None)
absent_behind p rest id none =
    ⊎_elim
    (λ (t : (nat_eq p.0 id ≡ true) × (p.0 ≡ id)). absurd (not_some p.1 (rw t.0 at none)))
    (λ (f : (nat_eq p.0 id ≡ false) × (p.0 ≢ id)). (f.1, rw f.0 at none))
    (eqb_tells p.0 id)

absent_front : (p : ℕ × ℕ) (rest : List (ℕ × ℕ)) (id : ℕ) → p.0 ≢ id → serial_in rest id ≡ None
    → serial_in (p ∷ rest) id ≡ None
absent_front p rest id other none =
    ⊎_elim
    (λ (t : (nat_eq p.0 id ≡ true) × (p.0 ≡ id)). absurd (other t.1))
    (λ (f : (nat_eq p.0 id ≡ false) × (p.0 ≢ id)). rw f.0 none)
    (eqb_tells p.0 id)

-- ---- sessions end

kept_absent : (keeps : Bool) (a : Attached) (xs : List Attached) (id : ℕ) → a.id ≢ id → serial_in (serials xs) id ≡ None
    → serial_in (serials (if keeps then a ∷ xs else xs)) id ≡ None
kept_absent true a xs id other none = absent_front (a.id, a.next) (serials xs) id other none
kept_absent false a xs id other none = none

filter_absent : (test : Attached → Bool) (xs : List Attached) (id : ℕ) → serial_in (serials xs) id ≡ None
    → serial_in (serials (filter test xs)) id ≡ None
filter_absent test [] id none = refl
filter_absent test (a ∷ xs) id none =
    let other = absent_behind (a.id, a.next) (serials xs) id none in
    kept_absent (test a) a (filter test xs) id other.0 (filter_absent test xs id other.1)

kept_slots : (past : List Entry) (keeps : Bool) (a : Attached) (xs : List Attached)
    → IsSlot past (a.id, a.next) (serials xs) → AreSlots past (serials xs)
    → AreSlots past (serials (if keeps then a ∷ xs else xs))
kept_slots past true a xs slot slots = (slot, slots)
kept_slots past false a xs slot slots = slots

filter_slots : (past : List Entry) (test : Attached → Bool) (xs : List Attached) → AreSlots past (serials xs)
    → AreSlots past (serials (filter test xs))
filter_slots past test [] slots = tt
filter_slots past test (a ∷ xs) slots =
    kept_slots past (test a) a (filter test xs)
    (record {
      next = slots.0.next;
      below = slots.0.below;
      once = filter_absent test xs a.id slots.0.once;
    })
    (filter_slots past test xs slots.1)

-- ---- entries of others

slot_longer : (past : List Entry) (e : Entry) (p : ℕ × ℕ) (rest more : List (ℕ × ℕ)) → is_command_of p.0 e ≡ false
    → serial_in more p.0 ≡ None → IsSlot past p rest → IsSlot (past ++ e ∷ []) p more
slot_longer past e p rest more other once slot =
    let l = longer past e in
    let n = no_command p.0 past e other in
    let m = slot.next in
    let b = slot.below in
    record { next = omega arith; below = omega arith; once = once }

-- an entry that is no command
quiet_slots : (past : List Entry) (e : Entry) (ps : List (ℕ × ℕ)) → ((id : ℕ) → is_command_of id e ≡ false)
    → AreSlots past ps → AreSlots (past ++ e ∷ []) ps
quiet_slots past e [] quiet slots = tt
quiet_slots past e (p ∷ rest) quiet slots =
    (slot_longer past e p rest rest (quiet p.0) slots.0.once slots.0, quiet_slots past e rest quiet slots.1)

-- a command of a session that is not among these
other_slots : (past : List Entry) (e : Entry) (session : ℕ) (ps : List (ℕ × ℕ))
    → ((id : ℕ) → session ≢ id → is_command_of id e ≡ false) → serial_in ps session ≡ None
    → AreSlots past ps → AreSlots (past ++ e ∷ []) ps
other_slots past e session [] others none slots = tt
other_slots past e session (p ∷ rest) others none slots =
    let other = absent_behind p rest session none in (
      slot_longer past e p rest rest (others p.0 (λ h. other.0 (sym h))) slots.0.once slots.0,
      other_slots past e session rest others other.1 slots.1,
    )

-- ---- a command of a session

counted_absent : (xs : List Attached) (session id : ℕ) → serial_in (serials xs) id ≡ None
    → serial_in (serials (command_counted xs session)) id ≡ None
counted_absent [] session id none = refl
counted_absent (a ∷ xs) session id none =
    let other = absent_behind (a.id, a.next) (serials xs) id none in
    ⊎_elim
    (λ (t : (nat_eq a.id session ≡ true) × (a.id ≡ session)).
    rw t.0 (absent_front (a.id, a.next + 1) (serials xs) id other.0 other.1))
    (λ (f : (nat_eq a.id session ≡ false) × (a.id ≢ session)).
    rw f.0 (absent_front (a.id, a.next) (serials (command_counted xs session)) id other.0
    (counted_absent xs session id other.1)))
    (eqb_tells a.id session)

slot_counted : (past : List Entry) (e : Entry) (id next : ℕ) (rest : List (ℕ × ℕ)) → is_command_of id e ≡ true
    → IsSlot past (id, next) rest → IsSlot (past ++ e ∷ []) (id, next + 1) rest
slot_counted past e id next rest own slot =
    let l = longer past e in
    let n = one_command id past e own in
    let m = slot.next in
    let b = slot.below in
    record { next = omega arith; below = omega arith; once = slot.once }

counted_slots : (past : List Entry) (e : Entry) (session : ℕ) (xs : List Attached) → is_command_of session e ≡ true
    → ((id : ℕ) → session ≢ id → is_command_of id e ≡ false) → AreSlots past (serials xs)
    → AreSlots (past ++ e ∷ []) (serials (command_counted xs session))
counted_slots past e session [] own others slots = tt
counted_slots past e session (a ∷ xs) own others slots =
    ⊎_elim
    (λ (t : (nat_eq a.id session ≡ true) × (a.id ≡ session)).
    rw t.0 (
      slot_counted past e a.id a.next (serials xs) (ap (λ (i : ℕ). is_command_of i e) t.1 ∙ own) slots.0,
      other_slots past e session (serials xs) others
          (ap (λ (i : ℕ). serial_in (serials xs) i) (sym t.1) ∙ slots.0.once) slots.1,
    ))
    (λ (f : (nat_eq a.id session ≡ false) × (a.id ≢ session)).
    rw f.0 (
      slot_longer past e (a.id, a.next) (serials xs) (serials (command_counted xs session))
          (others a.id (λ h. f.1 (sym h))) (counted_absent xs session a.id slots.0.once) slots.0,
      counted_slots past e session xs own others slots.1,
    ))
    (eqb_tells a.id session)

-- ---- a session attaches

joined_absent : (xs : List Attached) (nexus : Nexus) (new id : ℕ) → new ≢ id → serial_in (serials xs) id ≡ None
    → serial_in (serials (xs ++ attached nexus new ∷ [])) id ≡ None
joined_absent [] nexus new id other none = absent_front (new, 1) [] id other refl
joined_absent (a ∷ xs) nexus new id other none =
    let behind = absent_behind (a.id, a.next) (serials xs) id none in
    absent_front (a.id, a.next) (serials (xs ++ attached nexus new ∷ [])) id behind.0
    (joined_absent xs nexus new id other behind.1)

joined_slots : (past : List Entry) (e : Entry) (nexus : Nexus) (new : ℕ) (xs : List Attached)
    → ((id : ℕ) → is_command_of id e ≡ false) → new ≡ length past → commands_of new past ≡ 0 → AreSlots past (serials xs)
    → AreSlots (past ++ e ∷ []) (serials (xs ++ attached nexus new ∷ []))
joined_slots past e nexus new [] quiet is none slots =
    let l = longer past e in
    let n = no_command new past e (quiet new) in
    (record { next = omega arith; below = omega arith; once = refl }, tt)
joined_slots past e nexus new (a ∷ xs) quiet is none slots =
    let b = slots.0.below in (
      slot_longer past e (a.id, a.next) (serials xs) (serials (xs ++ attached nexus new ∷ [])) (quiet a.id)
          (joined_absent xs nexus new a.id (λ h. absurd (omega (arith, h, b, is))) slots.0.once) slots.0,
      joined_slots past e nexus new xs quiet is none slots.1,
    )

-- ---- one entry more

record Numbers (past : List Entry) (c : ControlValue) : Type 0 where
  pub count : c.count ≡ length past
  pub slots : AreSlots past (serials c.sessions)
  pub none : (id : ℕ) → length past ≤ id → commands_of id past ≡ 0

none_longer : (past : List Entry) (e : Entry) (id : ℕ) → is_command_of id e ≡ false
    → (length past ≤ id → commands_of id past ≡ 0) → length (past ++ e ∷ []) ≤ id → commands_of id (past ++ e ∷ []) ≡ 0
none_longer past e id quiet none le =
    let l = longer past e in
    let before : commands_of id past ≡ 0 = none (omega arith) in
    no_command id past e quiet ∙ before

quiet_numbers : (past : List Entry) (e : Entry) (c new : ControlValue) → ((id : ℕ) → is_command_of id e ≡ false)
    → new.count ≡ c.count + 1 → AreSlots (past ++ e ∷ []) (serials new.sessions) → Numbers past c
    → Numbers (past ++ e ∷ []) new
quiet_numbers past e c new quiet counts slots k =
    let l = longer past e in
    let n = k.count in
    record { count = omega arith; slots = slots; none = λ id. none_longer past e id (quiet id) (k.none id) }

same_slots : (past : List Entry) (e : Entry) (old new : List Attached) → ((id : ℕ) → is_command_of id e ≡ false)
    → serials new ≡ serials old → AreSlots past (serials old) → AreSlots (past ++ e ∷ []) (serials new)
same_slots past e old new quiet same slots =
    subst (λ (ps : List (ℕ × ℕ)). AreSlots (past ++ e ∷ []) ps) (sym same) (quiet_slots past e (serials old) quiet slots)

reset_keeps : (session : ℕ) (a : Attached)
    → ((reset_established session a).id ≡ a.id) × ((reset_established session a).next ≡ a.next)
reset_keeps session a =
    ⊎_elim
    (λ (t : (nat_eq a.id session ≡ true) × (a.id ≡ session)). rw t.0 (refl, refl))
    (λ (f : (nat_eq a.id session ≡ false) × (a.id ≢ session)). rw f.0 (refl, refl))
    (eqb_tells a.id session)

own_command : (session : ℕ) → nat_eq session session ≡ true
own_command session =
    ⊎_elim (λ (t : (nat_eq session session ≡ true) × (session ≡ session)). t.0)
    (λ (f : (nat_eq session session ≡ false) × (session ≢ session)). absurd (f.1 refl)) (eqb_tells session session)

others_command : (session id : ℕ) → session ≢ id → nat_eq session id ≡ false
others_command session id other =
    ⊎_elim (λ (t : (nat_eq session id ≡ true) × (session ≡ id)). absurd (other t.1))
    (λ (f : (nat_eq session id ≡ false) × (session ≢ id)). f.0) (eqb_tells session id)

command_numbers : (past : List Entry) (c : ControlValue) (session serial : ℕ) (by_group : Group)
    (asked : Result ScsiCommand CdbFault) (bytes : List ℕ) (choice : Choice) → next_of c.sessions session ≡ Some serial
    → Numbers past c → Numbers (past ++ Command session serial by_group asked bytes choice ∷ [])
    (control_after c (Command session serial by_group asked bytes choice))
command_numbers past c session serial by_group asked bytes choice next k =
    let e : Entry = Command session serial by_group asked bytes choice in
    let r : Request = request session asked bytes in
    let left : ControlValue = control_with (refusal c r) c r choice in
    let l = longer past e in
    let n = k.count in
    let kept : left.count ≡ c.count = kept_count (refusal c r) c r choice in
    let there = found past (serials c.sessions) session serial k.slots (sym (next_in c.sessions session) ∙ next) in
    let below = there.1 in
    record {
      count = omega arith;
      slots = counted_slots past e session left.sessions (own_command session) (others_command session)
          (subst (λ (ps : List (ℕ × ℕ)). AreSlots past ps) (sym (serials_kept (refusal c r) c r choice)) k.slots);
      none = λ id le.
          none_longer past e id (others_command session id (λ h. absurd (omega (arith, h, below, le, l)))) (k.none id) le;
    }

number_step : (claims : Bool) (past : List Entry) (s : UnitState) (e : Entry) → IsPossible claims s e
    → Numbers past s.control → Numbers (past ++ e ∷ []) (control_after s.control e)
number_step claims past s (Attach nexus) is k =
    let c = s.control in
    let new = k.none c.count (omega (arith, k.count)) in
    quiet_numbers past (Attach nexus) c (control_after c (Attach nexus)) (λ id. refl) refl
    (joined_slots past (Attach nexus) nexus c.count (without nexus c.sessions) (λ id. refl) k.count new
    (filter_slots past (λ a. not (is_of nexus a)) c.sessions k.slots)) k
number_step claims past s (Detach session) is k =
    let c = s.control in
    quiet_numbers past (Detach session) c (control_after c (Detach session)) (λ id. refl) refl
    (quiet_slots past (Detach session) (serials (ended c.sessions session)) (λ id. refl)
    (filter_slots past (λ a. not (nat_eq a.id session)) c.sessions k.slots)) k
number_step claims past s (Reset session) is k =
    let c = s.control in
    quiet_numbers past (Reset session) c (control_after c (Reset session)) (λ id. refl) refl
    (same_slots past (Reset session) c.sessions (control_after c (Reset session)).sessions (λ id. refl)
    (serials_mapped (reset_established session) (reset_keeps session) c.sessions) k.slots) k
number_step claims past s (Move list choice) is k =
    let c = s.control in
    quiet_numbers past (Move list choice) c (control_after c (Move list choice)) (λ id. refl)
    (ap (λ (n : ℕ). n + 1) (count_after_change c None (move_by c list)))
    (same_slots past (Move list choice) c.sessions (control_after c (Move list choice)).sessions (λ id. refl)
    (serials_after_change c None (move_by c list)) k.slots) k
number_step claims past s (Command session serial by_group asked bytes choice) is k =
    command_numbers past s.control session serial by_group asked bytes choice is.next.next k

numbers_after : (claims : Bool) (past : List Entry) (s : UnitState) (history : List Entry) → IsLegal claims s history
    → Numbers past s.control → Numbers (past ++ history) (state_after s history).control
numbers_after claims past s [] legal k = subst (λ (p : List Entry). Numbers p s.control) (sym (append-nil past)) k
numbers_after claims past s (e ∷ history) legal k =
    subst (λ (p : List Entry). Numbers p (state_after (after s e) history).control) (append_assoc past (e ∷ []) history)
    (numbers_after claims (past ++ e ∷ []) (after s e) history legal.1 (number_step claims past s e legal.0 k))

-- behind a legal history that began as a unit opens
pub numbered : (claims : Bool) (s : UnitState) (history : List Entry) → IsOpening s.control → IsLegal claims s history
    → IsNumbered history (state_after s history).control
numbered claims s history opens legal =
    let start : Numbers [] s.control = record {
      count = opens.count;
      slots = subst (λ (ss : List Attached). AreSlots [] (serials ss)) (sym opens.sessions) tt;
      none = λ id le. refl;
    } in
    let k = numbers_after claims [] s history legal start in
    let sessions = (state_after s history).control.sessions in
    record {
      count = k.count;
      next = λ id serial h. (found history (serials sessions) id serial k.slots (sym (next_in sessions id) ∙ h)).0;
      id = λ id serial h. (found history (serials sessions) id serial k.slots (sym (next_in sessions id) ∙ h)).1;
      none = k.none;
    }
