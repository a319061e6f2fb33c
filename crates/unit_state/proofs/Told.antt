-- What commands, resets and ends leave of a session: its serial, and what is pending for it.
use Rattle.std.proofs.Common.{◌≡◌, ◌≢◌, ⊎_elim, ℕ, ◌+◌, Bool, true, false, nat_eq, eq-eqb, List, [], ◌∷◌}
use Rattle.std.proofs.Common.{drop, Option, Some, None, IsSome, refl, sym, ◌∙◌, ap, arith, slice_get}
use Rattle.std.specs.Prelude.{IsTrue}
use Rattle.std.specs.Option.{option_map}
use Rattle.std.proofs.lemmas.Bool.Decides.{eqb_tells}
use Rattle.attentions.specs.Queue.{established, is_pending, without_repeats}
use Rattle.reservations.specs.declared.request.PrOut.{PrOut}
use Rattle.reservations.specs.Notice.{Told, code_told}
use Rattle.registrants.specs.Registry.{RegistryValue}
use Rattle.reservations.specs.Table.{effect_of}
use Rattle.scsi_types.specs.Nexus.{Nexus}
use Rattle.reservations.specs.Table.{Effect, Done, Conflicting, Refused}
use Rattle.unit_control.specs.Reserve.{hear, after_effect, effect_by}
use Rattle.scsi_types.specs.declared.attention.UnitAttention.{UnitAttention}
use Rattle.scsi_types.specs.declared.attention.UnitAttention.TheVariants.{AccessStateChanged, PowerOn}
use Rattle.unit_control.specs.declared.sessions.Attached.{Attached}
use Rattle.unit_control.specs.State.{ControlValue}
use Rattle.unit_control.specs.Choice.{Choice}
use Rattle.unit_control.specs.Sessions.{session_of, sender_of, nexus_in, next_of, pending_in, pending_of}
use Rattle.unit_control.specs.Sessions.{one_command_more, command_counted, report_first, told, ended, reset_established, all_reset}
use Rattle.unit_control.specs.Refusal.{Request, refusal}
use Rattle.unit_control.specs.Entry.{IsNext, control_with}
use Rattle.unit_state.proofs.CommandLaws.{next_counted, next_kept}
use Rattle.unit_control.proofs.GroupsLaws.{change_keeps}
use Rattle.unit_control.specs.Groups.{change_heard, hear_change}
use Rattle.unit_control.proofs.Places.{session_changed, session_mapped, has_id}

-- ---- serials

-- a serial that was taken is not taken again
pub taken_once : (c : ControlValue) (r : Request) (choice : Choice) (serial : ℕ) → IsNext c r.session serial
    → next_of (command_counted (control_with (refusal c r) c r choice).sessions r.session) r.session ≡ Some serial → ⊥
taken_once c r choice serial is again =
    let once : next_of (command_counted (control_with (refusal c r) c r choice).sessions r.session) r.session
    ≡ Some (serial + 1) =
    next_counted (control_with (refusal c r) c r choice).sessions r.session serial
    (next_kept (refusal c r) c r choice ∙ is.next) in
    let same : serial ≡ serial + 1 = cc in
    omega arith

-- ---- attentions

pending_told_in : (old mid new : Option Attached) → mid ≡ option_map report_first old → new ≡ option_map one_command_more mid
    → pending_in new ≡ drop 1 (pending_in old)
pending_told_in None mid new is then_is = rw (then_is, is) refl
pending_told_in (Some a) mid new is then_is = rw (then_is, is) refl

-- a session that was told its first attention has the others
pub pending_told : (sessions : List Attached) (id : ℕ)
    → pending_of (command_counted (told sessions id) id) id ≡ drop 1 (pending_of sessions id)
pending_told sessions id =
    pending_told_in (session_of sessions id) (session_of (told sessions id) id)
    (session_of (command_counted (told sessions id) id) id)
    (session_changed report_first (λ a. refl) sessions id)
    (session_changed one_command_more (λ a. refl) (told sessions id) id)

pub told_no_more : (codes : List UnitAttention) (attention : UnitAttention) → IsTrue (without_repeats codes)
    → slice_get codes 0 ≡ Some attention → is_pending (drop 1 codes) attention ≡ false
told_no_more [] attention apart first = absurd (cc)
told_no_more (code ∷ later) attention apart first =
    let is : code ≡ attention = cc in
    rw (sym is) (grind arith)

heard_none : (told : List Told) (o : Option Attached) → code_told told (nexus_in o) ≡ None
    → pending_in (option_map (hear told) o) ≡ pending_in o
heard_none told None none = refl
heard_none told (Some a) none = rw none refl

-- where the sender is told nothing, its session has nothing more pending
pub own_after : ((r : RegistryValue) (n : Nexus) (q : PrOut) (new : RegistryValue) (told : List Told)
    → effect_of r n q ≡ Done new told → code_told told n ≡ None)
    → (c : ControlValue) (session : ℕ) (asked : PrOut) (e : Effect) → effect_by c session asked ≡ e
    → pending_of (after_effect c e).sessions session ≡ pending_of c.sessions session
own_after untold c session asked (Done new told) is =
    ap pending_in (session_mapped (hear told) (λ a. refl) c.sessions session)
    ∙ heard_none told (session_of c.sessions session) (untold c.registry (sender_of c.sessions session) asked new told is)
own_after untold c session asked Conflicting is = refl
own_after untold c session asked (Refused asc ascq) is = refl

-- ---- resets and ends

reset_keeps : (id : ℕ) (a : Attached) → (reset_established id a).id ≡ a.id
reset_keeps id a =
    ⊎_elim (λ (t : (nat_eq a.id id ≡ true) × (a.id ≡ id)). rw t.0 refl)
    (λ (n : (nat_eq a.id id ≡ false) × (a.id ≢ id)). rw n.0 refl) (eqb_tells a.id id)

same_id : (sessions : List Attached) (id : ℕ) (a : Attached) → session_of sessions id ≡ Some a → nat_eq a.id id ≡ true
same_id sessions id a h = eq-eqb a.id id (has_id sessions id a h)

reset_own_in : (sessions : List Attached) (id : ℕ) (o : Option Attached) → session_of sessions id ≡ o
    → pending_in (option_map (reset_established id) o) ≡ pending_in o
reset_own_in sessions id None h = refl
reset_own_in sessions id (Some a) h = rw (same_id sessions id a h) refl

-- who asks for a reset is told what it was to be told
pub reset_own : (sessions : List Attached) (id : ℕ) → pending_of (all_reset sessions id) id ≡ pending_of sessions id
reset_own sessions id =
    ap pending_in (session_mapped (reset_established id) (reset_keeps id) sessions id)
    ∙ reset_own_in sessions id (session_of sessions id) refl

other_id : (a : Attached) (id other : ℕ) → other ≢ id → nat_eq a.id other ≡ true → nat_eq a.id id ≡ false
other_id a id other apart is =
    ⊎_elim (λ (t : (nat_eq a.id id ≡ true) × (a.id ≡ id)).
    ⊎_elim (λ (u : (nat_eq a.id other ≡ true) × (a.id ≡ other)). absurd (apart (sym u.1 ∙ t.1)))
    (λ (n : (nat_eq a.id other ≡ false) × (a.id ≢ other)). absurd (let e = is in cc)) (eqb_tells a.id other))
    (λ (n : (nat_eq a.id id ≡ false) × (a.id ≢ id)). n.0) (eqb_tells a.id id)

reset_other_in : (sessions : List Attached) (id other : ℕ) (o : Option Attached) → other ≢ id
    → session_of sessions other ≡ o → IsSome o → pending_in (option_map (reset_established id) o) ≡ PowerOn ∷ []
reset_other_in sessions id other None apart h there = absurd (cc)
reset_other_in sessions id other (Some a) apart h there = rw (other_id a id other apart (same_id sessions other a h)) refl

-- every other session is told of the reset alone
pub reset_other : (sessions : List Attached) (id other : ℕ) → other ≢ id → IsSome (session_of sessions other)
    → pending_of (all_reset sessions id) other ≡ PowerOn ∷ []
reset_other sessions id other apart there =
    ap pending_in (session_mapped (reset_established id) (reset_keeps id) sessions other)
    ∙ reset_other_in sessions id other (session_of sessions other) apart refl there

-- ---- changes of access states

hears_id : (by_session : Option ℕ) (a : Attached) → (hear_change by_session a).id ≡ a.id
hears_id by_session a = (change_keeps by_session a).0

own_change_in : (sessions : List Attached) (id : ℕ) (o : Option Attached) → session_of sessions id ≡ o
    → pending_in (option_map (hear_change (Some id)) o) ≡ pending_in o
own_change_in sessions id None h = refl
own_change_in sessions id (Some a) h = rw (same_id sessions id a h) refl

-- who asks for a change is told what it was to be told
pub change_own : (is : Bool) (sessions : List Attached) (id : ℕ)
    → pending_of (change_heard is (Some id) sessions) id ≡ pending_of sessions id
change_own true sessions id =
    ap pending_in (session_mapped (hear_change (Some id)) (hears_id (Some id)) sessions id) ∙ own_change_in sessions id
    (session_of sessions id) refl
change_own false sessions id = refl

other_change_in : (sessions : List Attached) (id other : ℕ) (o : Option Attached) → other ≢ id
    → session_of sessions other ≡ o → IsSome o
    → pending_in (option_map (hear_change (Some id)) o) ≡ established (pending_in o) AccessStateChanged
other_change_in sessions id other None apart h there = absurd (cc)
other_change_in sessions id other (Some a) apart h there = rw (other_id a id other apart (same_id sessions other a h)) refl

-- every other session is told of it
pub change_other : (is : Bool) (sessions : List Attached) (id other : ℕ) → other ≢ id → is ≡ true
    → IsSome (session_of sessions other)
    → pending_of (change_heard is (Some id) sessions) other ≡ established (pending_of sessions other) AccessStateChanged
change_other true sessions id other apart is_any there =
    ap pending_in (session_mapped (hear_change (Some id)) (hears_id (Some id)) sessions other)
    ∙ other_change_in sessions id other (session_of sessions other) apart refl there
change_other false sessions id other apart is_any there = absurd (cc)

moved_in : (o : Option Attached) → IsSome o
    → pending_in (option_map (hear_change None) o) ≡ established (pending_in o) AccessStateChanged
moved_in None there = absurd (cc)
moved_in (Some a) there = refl

-- and every session where nobody asked for it
pub change_moved : (is : Bool) (sessions : List Attached) (other : ℕ) → is ≡ true → IsSome (session_of sessions other)
    → pending_of (change_heard is None sessions) other ≡ established (pending_of sessions other) AccessStateChanged
change_moved true sessions other is_any there =
    ap pending_in (session_mapped (hear_change None) (hears_id None) sessions other)
    ∙ moved_in (session_of sessions other) there
change_moved false sessions other is_any there = absurd (cc)

-- a session that ended is not attached
pub ended_gone : (sessions : List Attached) (id : ℕ) → session_of (ended sessions id) id ≡ None
ended_gone [] id = refl
ended_gone (x ∷ xs) id =
    ⊎_elim (λ (t : (nat_eq x.id id ≡ true) × (x.id ≡ id)). rw t.0 (ended_gone xs id))
    (λ (n : (nat_eq x.id id ≡ false) × (x.id ≢ id)). rw n.0 (rw n.0 (ended_gone xs id)))
    (eqb_tells x.id id)
