-- Laws of commands, for those who serve them.
use Rattle.std.proofs.Common.{◌≡◌, ◌≢◌, ⊎_elim, ℕ, ◌+◌, Bool, true, false, nat_eq, map, List, [], ◌∷◌, Option}
use Rattle.std.proofs.Common.{Some, None, Result, Ok, Err, refl, sym, ap, if◌then◌else◌, ◌∙◌}
use Rattle.std.proofs.lemmas.Bool.Decides.{eqb_tells}
use Rattle.access_states.specs.AccessMap.{AccessMapValue}
use Rattle.access_states.specs.declared.list.AsetFault.{AsetFault}
use Rattle.registrants.specs.Registry.{RecordValue, RegistryValue}
use Rattle.reservations.specs.Notice.{Told}
use Rattle.reservations.specs.Table.{Effect, Done, Conflicting, Refused}
use Rattle.scsi_types.specs.declared.names.Group.{Group}
use Rattle.scsi_types.specs.declared.command.Command.{Command as ScsiCommand}
use Rattle.scsi_types.specs.declared.command.Command.TheVariants as commands
use Rattle.scsi_types.specs.declared.command.CdbFault.{CdbFault}
use Rattle.unit_control.specs.declared.refusal.Refusal.{Refusal}
use Rattle.unit_control.specs.declared.refusal.Refusal.TheVariants.{Attention, Conflict, Check}
use Rattle.unit_control.specs.declared.sessions.Attached.{Attached}
use Rattle.unit_control.specs.State.{ControlValue, tell}
use Rattle.unit_control.specs.Choice.{Choice, Fine, ReadFailed, WriteFailed, OpenFailed, SaveFailed}
use Rattle.unit_control.specs.Groups.{after_change, change_heard, hear_change, is_any_changed, set_by, with_access}
use Rattle.unit_control.proofs.GroupsLaws.{change_keeps}
use Rattle.unit_control.specs.Refusal.{Request, request, refusal}
use Rattle.unit_control.specs.Reserve.{all_heard, after_effect, after_saved, effect_by, hear, pr_out}
use Rattle.unit_control.specs.Saving.{with_doubt}
use Rattle.unit_control.specs.Sessions.{next_of, command_counted, told}
use Rattle.unit_control.specs.Entry.{Command, IsNext, control_with, control_after, left_asked, left_groups}

-- the serial of a session that had one command more
pub next_counted : (sessions : List Attached) (id serial : ℕ) → next_of sessions id ≡ Some serial
    → next_of (command_counted sessions id) id ≡ Some (serial + 1)
next_counted [] id serial h = absurd (cc)
next_counted (a ∷ rest) id serial h =
    ⊎_elim
    (λ (t : (nat_eq a.id id ≡ true) × (a.id ≡ id)).
    let here : Some a.next ≡ Some serial = rw t.0 at h in
    let e : a.next ≡ serial = cc in
    rw t.0 (rw t.0 (ap (λ (m : ℕ). let o : Option ℕ = Some (m + 1) in o) e)))
    (λ (f : (nat_eq a.id id ≡ false) × (a.id ≢ id)). rw f.0 (rw f.0 (next_counted rest id serial (rw f.0 at h))))
    (eqb_tells a.id id)

-- ---- serials that stay

-- the sessions by their ids and the serials of their next commands
abbrev pub serials : List Attached → List (ℕ × ℕ)
serials [] = []
serials (a ∷ rest) = (a.id, a.next) ∷ serials rest

abbrev pub serial_in : List (ℕ × ℕ) → ℕ → Option ℕ
serial_in [] id = None
serial_in (p ∷ rest) id = if nat_eq p.0 id then Some p.1 else serial_in rest id

pub next_in : (sessions : List Attached) (id : ℕ) → next_of sessions id ≡ serial_in (serials sessions) id
next_in [] id = refl
next_in (a ∷ rest) id =
    ⊎_elim (λ (t : (nat_eq a.id id ≡ true) × (a.id ≡ id)). rw t.0 refl)
    (λ (f : (nat_eq a.id id ≡ false) × (a.id ≢ id)). rw f.0 (next_in rest id))
    (eqb_tells a.id id)

same_front : (i j m n : ℕ) (xs ys : List (ℕ × ℕ)) → i ≡ j → m ≡ n → xs ≡ ys → (i, m) ∷ xs ≡ (j, n) ∷ ys
same_front i j m n xs ys ids nexts rest = rw (ids, nexts, rest) refl

-- one that was told an attention keeps its own
serials_told : (sessions : List Attached) (id : ℕ) → serials (told sessions id) ≡ serials sessions
serials_told [] id = refl
serials_told (a ∷ rest) id =
    ⊎_elim (λ (t : (nat_eq a.id id ≡ true) × (a.id ≡ id)). rw t.0 refl)
    (λ (f : (nat_eq a.id id ≡ false) × (a.id ≢ id)).
    rw f.0 (same_front a.id a.id a.next a.next _ _ refl refl (serials_told rest id)))
    (eqb_tells a.id id)

-- as does every session where all keep their ids and serials
pub serials_mapped : (f : Attached → Attached) → ((a : Attached) → ((f a).id ≡ a.id) × ((f a).next ≡ a.next))
    → (sessions : List Attached) → serials (map f sessions) ≡ serials sessions
serials_mapped f keeps [] = refl
serials_mapped f keeps (a ∷ rest) =
    same_front _ _ _ _ _ _ (keeps a).0 (keeps a).1 (serials_mapped f keeps rest)

-- one that hears of a PERSISTENT RESERVE OUT does
serials_heard : (codes : List Told) (sessions : List Attached) → serials (all_heard codes sessions) ≡ serials sessions
serials_heard codes sessions = serials_mapped (hear codes) (λ a. (refl, refl)) sessions

-- and, where access states change, those who hear of it
serials_changed : (is : Bool) (by_session : Option ℕ) (sessions : List Attached)
    → serials (change_heard is by_session sessions) ≡ serials sessions
serials_changed true by_session sessions = serials_mapped (hear_change by_session) (change_keeps by_session) sessions
serials_changed false by_session sessions = refl

-- ---- what stays through every command

-- It stays where a session is told, where a registry or access states are put in force, and where a save fails.
record IsUntouched {T : Type 0} (of : ControlValue → T) (c : ControlValue) : Type 0 where
  told : (session : ℕ) → of (tell c session) ≡ of c
  in_force : (new : RegistryValue) (codes : List Told) → of (after_effect c (Done new codes)) ≡ of c
  changed : (by_session : Option ℕ) (new : AccessMapValue) → of (with_access c by_session new) ≡ of c
  doubted : (after : List RecordValue) → of (with_doubt c after) ≡ of c

module _ {T : Type 0} (of : ControlValue → T) (c : ControlValue) (stays : IsUntouched of c) where
  stays_changed : (by_session : Option ℕ) (r : Result AccessMapValue AsetFault) → of (after_change c by_session r) ≡ of c
  stays_changed by_session (Ok new) = stays.changed by_session new
  stays_changed by_session (Err fault) = refl

  stays_groups : (session list_length : ℕ) (bytes : List ℕ) (choice : Choice)
      → of (left_groups c session list_length bytes choice) ≡ of c
  stays_groups session list_length bytes OpenFailed = refl
  stays_groups session list_length bytes Fine = stays_changed (Some session) (set_by c list_length bytes)
  stays_groups session list_length bytes ReadFailed = stays_changed (Some session) (set_by c list_length bytes)
  stays_groups session list_length bytes (WriteFailed after) = stays_changed (Some session) (set_by c list_length bytes)
  stays_groups session list_length bytes (SaveFailed after) = stays_changed (Some session) (set_by c list_length bytes)

  stays_in_effect : (e : Effect) → of (after_effect c e) ≡ of c
  stays_in_effect (Done new codes) = stays.in_force new codes
  stays_in_effect Conflicting = refl
  stays_in_effect (Refused asc ascq) = refl

  stays_saved : (e : Effect) (choice : Choice) → of (after_saved c e choice) ≡ of c
  stays_saved e Fine = stays_in_effect e
  stays_saved e ReadFailed = stays_in_effect e
  stays_saved e (WriteFailed after) = stays_in_effect e
  stays_saved e OpenFailed = stays_in_effect e
  stays_saved e (SaveFailed after) = stays.doubted after

  stays_left : (session : ℕ) (asked : Result ScsiCommand CdbFault) (bytes : List ℕ) (choice : Choice)
      → of (left_asked c session asked bytes choice) ≡ of c
  stays_left session (Err fault) bytes choice = refl
  stays_left session (Ok (commands.RequestSense allocation)) bytes choice = stays.told session
  stays_left session (Ok (commands.PersistentReserveOut action scope kind list_length)) bytes choice =
      stays_saved (effect_by c session (pr_out action scope kind bytes)) choice
  stays_left session (Ok commands.TestUnitReady) bytes choice = refl
  stays_left session (Ok (commands.Inquiry page allocation)) bytes choice = refl
  stays_left session (Ok (commands.ModeSense header control page allocation)) bytes choice = refl
  stays_left session (Ok commands.ReadCapacity10) bytes choice = refl
  stays_left session (Ok (commands.ReadCapacity16 allocation)) bytes choice = refl
  stays_left session (Ok (commands.Read lba blocks fua)) bytes choice = refl
  stays_left session (Ok (commands.Write lba blocks fua)) bytes choice = refl
  stays_left session (Ok (commands.CompareAndWrite lba blocks fua)) bytes choice = refl
  stays_left session (Ok (commands.SynchronizeCache lba blocks)) bytes choice = refl
  stays_left session (Ok (commands.PersistentReserveIn action allocation)) bytes choice = refl
  stays_left session (Ok (commands.ReportLuns select allocation)) bytes choice = refl
  stays_left session (Ok (commands.ReportTargetPortGroups allocation)) bytes choice = refl
  stays_left session (Ok (commands.SetTargetPortGroups list_length)) bytes choice =
      stays_groups session list_length bytes choice

  -- what a command leaves before it is counted
  stays_with : (refused : Option Refusal) (r : Request) (choice : Choice) → of (control_with refused c r choice) ≡ of c
  stays_with (Some (Attention a)) r choice = stays.told r.session
  stays_with (Some Conflict) r choice = refl
  stays_with (Some (Check s)) r choice = refl
  stays_with None r choice = stays_left r.session r.asked r.bytes choice

-- all ids and serials stay
serials_stay : (c : ControlValue) → IsUntouched (λ (d : ControlValue). serials d.sessions) c
serials_stay c = record {
  told = λ session. serials_told c.sessions session;
  in_force = λ new codes. serials_heard codes c.sessions;
  changed = λ by_session new. serials_changed (is_any_changed c.access new) by_session c.sessions;
  doubted = λ after. refl;
}

pub serials_after_change : (c : ControlValue) (by_session : Option ℕ) (r : Result AccessMapValue AsetFault)
    → serials (after_change c by_session r).sessions ≡ serials c.sessions
serials_after_change c by_session r =
    stays_changed (λ (d : ControlValue). serials d.sessions) c (serials_stay c) by_session r

pub serials_kept : (refused : Option Refusal) (c : ControlValue) (r : Request) (choice : Choice)
    → serials (control_with refused c r choice).sessions ≡ serials c.sessions
serials_kept refused c r choice = stays_with (λ (d : ControlValue). serials d.sessions) c (serials_stay c) refused r choice

pub next_kept : (refused : Option Refusal) (c : ControlValue) (r : Request) (choice : Choice)
    → next_of (control_with refused c r choice).sessions r.session ≡ next_of c.sessions r.session
next_kept refused c r choice =
    next_in (control_with refused c r choice).sessions r.session
    ∙ ap (λ (ps : List (ℕ × ℕ)). serial_in ps r.session) (serials_kept refused c r choice)
    ∙ sym (next_in c.sessions r.session)

-- and the count of entries
count_stays : (c : ControlValue) → IsUntouched (λ (d : ControlValue). d.count) c
count_stays c = record {
  told = λ session. refl;
  in_force = λ new codes. refl;
  changed = λ by_session new. refl;
  doubted = λ after. refl;
}

pub count_after_change : (c : ControlValue) (by_session : Option ℕ) (r : Result AccessMapValue AsetFault)
    → (after_change c by_session r).count ≡ c.count
count_after_change c by_session r = stays_changed (λ (d : ControlValue). d.count) c (count_stays c) by_session r

pub kept_count : (refused : Option Refusal) (c : ControlValue) (r : Request) (choice : Choice)
    → (control_with refused c r choice).count ≡ c.count
kept_count refused c r choice = stays_with (λ (d : ControlValue). d.count) c (count_stays c) refused r choice

module _ (c : ControlValue) (session serial : ℕ) (by_group : Group) (asked : Result ScsiCommand CdbFault)
    (bytes : List ℕ) (choice : Choice) where
  abbrev r : Request
  r = request session asked bytes

  -- behind a command its session's next serial is one more
  pub next_after : IsNext c session serial
      → next_of (control_after c (Command session serial by_group asked bytes choice)).sessions session
      ≡ Some (serial + 1)
  next_after is =
      next_counted (control_with (refusal c r) c r choice).sessions session serial
      (next_kept (refusal c r) c r choice ∙ is.next)

  -- and the history has one entry more
  pub count_after : (control_after c (Command session serial by_group asked bytes choice)).count ≡ c.count + 1
  count_after = ap (λ (n : ℕ). n + 1) (kept_count (refusal c r) c r choice)
