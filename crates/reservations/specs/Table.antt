-- What a PERSISTENT RESERVE OUT does (SPC-4, 5.13 and 6.16): the table of what is asked of the registry, the nexus that asks and
-- the request, in this order, and of what each row does then.
use Rattle.std.specs.Prelude.{◌≡◌, ℕ, Bool, true, false, not, ◌&&◌, ◌||◌, nat_eq, nat_lt}
use Rattle.std.specs.Prelude.{List, [], ◌∷◌, length, Option, Some, None, is_some, if◌then◌else◌}
use Rattle.std.specs.List.{list_any}
use Rattle.std.specs.Option.{option_map}
use Rattle.scsi_types.specs.Nexus.{Nexus}
use Rattle.scsi_types.specs.Reservation.{out_code}
use Rattle.scsi_types.specs.Sense.{insufficient_registration_resources, invalid_field_in_cdb, invalid_field_in_parameter_list}
use Rattle.scsi_types.specs.Sense.{invalid_release_of_persistent_reservation, sense}
use Rattle.scsi_types.specs.declared.sense.Sense.{Sense}
use Rattle.scsi_types.specs.declared.reservation.PrOutAction.{PrOutAction}
use Rattle.scsi_types.specs.declared.reservation.PrOutAction.TheVariants.{Register, Reserve, Release, Clear}
use Rattle.scsi_types.specs.declared.reservation.PrOutAction.TheVariants.{Preempt, PreemptAndAbort}
use Rattle.scsi_types.specs.declared.reservation.PrOutAction.TheVariants.{RegisterAndIgnoreExistingKey}
use Rattle.scsi_types.specs.declared.attention.UnitAttention.TheVariants.{ReservationsPreempted}
use Rattle.scsi_types.specs.declared.attention.UnitAttention.TheVariants.{ReservationsReleased}
use Rattle.scsi_types.specs.declared.attention.UnitAttention.TheVariants.{RegistrationsPreempted}
use Rattle.reservations.specs.declared.notice.Notice.{Notice}
use Rattle.reservations.specs.declared.notice.Notice.TheVariants.{Nothing, ToAll, ToOtherPorts, OfPreempted}
use Rattle.registrants.specs.declared.registrant.Registrant.{Registrant}
use Rattle.registrants.specs.declared.registrant.Reservation.{Reservation}
use Rattle.reservations.specs.declared.request.PrEnd.{PrEnd}
use Rattle.reservations.specs.declared.request.PrEnd.TheVariants.{Good, Conflict, Illegal}
use Rattle.reservations.specs.declared.request.PrOut.{PrOut}
use Rattle.registrants.specs.Kind.{is_of_registrants, type_of}
use Rattle.registrants.specs.Nexus.{other_nexus}
use Rattle.reservations.specs.Notice.{Told, told_of, tellings}
use Rattle.registrants.specs.Registry.{RegistryValue, key_of, is_registered, is_key, is_held_by}
use Rattle.registrants.specs.Registry.{is_sole_holder, is_holders_key, is_held_by_all, is_of_code, made_by}
use Rattle.registrants.specs.Registry.{others, only, without_key}
use Rattle.registrants.specs.Registry.{most_registrants, registered_by, without_others_of_key, left_to, counted}

-- ---- words of the conditions

-- SCOPE is the logical unit, and TYPE a type
abbrev pub names_type : PrOut → Bool
names_type q = nat_eq q.scope 0 && is_some (type_of q.kind)

-- the service action is one of these
abbrev pub is_among : List PrOutAction → PrOutAction → Bool
is_among actions action = list_any (λ (a : PrOutAction). nat_eq (out_code a) (out_code action)) actions

-- the two service actions that register
abbrev pub is_registering : PrOutAction → Bool
is_registering action = is_among (Register ∷ RegisterAndIgnoreExistingKey ∷ []) action

-- the service actions that PRGENERATION counts (SPC-4, 5.13.3): all but RESERVE and RELEASE
abbrev pub is_counted : PrOutAction → Bool
is_counted action = not (is_among (Reserve ∷ Release ∷ []) action)

-- a RESERVE with a field that it may not have
abbrev pub is_bad_reserve : PrOutAction → PrOut → Bool
is_bad_reserve Register q = false
is_bad_reserve Reserve q = not (names_type q)
is_bad_reserve Release q = false
is_bad_reserve Clear q = false
is_bad_reserve Preempt q = false
is_bad_reserve PreemptAndAbort q = false
is_bad_reserve RegisterAndIgnoreExistingKey q = false

-- The RESERVATION KEY that an action must show, by the key with which its nexus is registered: REGISTER of an
-- unregistered nexus shows 0, REGISTER AND IGNORE EXISTING KEY anything, and every other action the nexus's own key.
abbrev pub shows_key : PrOutAction → Option ℕ → ℕ → Bool
shows_key Register None key = nat_eq key 0
shows_key RegisterAndIgnoreExistingKey None key = true
shows_key RegisterAndIgnoreExistingKey (Some own) key = true
shows_key Reserve None key = false
shows_key Release None key = false
shows_key Clear None key = false
shows_key Preempt None key = false
shows_key PreemptAndAbort None key = false
shows_key Register (Some own) key = nat_eq key own
shows_key Reserve (Some own) key = nat_eq key own
shows_key Release (Some own) key = nat_eq key own
shows_key Clear (Some own) key = nat_eq key own
shows_key Preempt (Some own) key = nat_eq key own
shows_key PreemptAndAbort (Some own) key = nat_eq key own

abbrev pub IsPreempting : PrOutAction → Type 0
IsPreempting Register = ⊥
IsPreempting Reserve = ⊥
IsPreempting Release = ⊥
IsPreempting Clear = ⊥
IsPreempting Preempt = Unit {0}
IsPreempting PreemptAndAbort = Unit {0}
IsPreempting RegisterAndIgnoreExistingKey = ⊥

-- PREEMPT of the reservation: its only holder's key, or 0 where every registrant holds
abbrev pub is_preempting_holder : RegistryValue → PrOut → Bool
is_preempting_holder r q = is_holders_key r.reservation r.registrants q.sakey

abbrev pub is_preempting_all : RegistryValue → PrOut → Bool
is_preempting_all r q = is_held_by_all r.reservation && nat_eq q.sakey 0

abbrev pub is_preempting_reservation : RegistryValue → PrOut → Bool
is_preempting_reservation r q = is_preempting_holder r q || is_preempting_all r q

-- the nexus holds the reservation, or one of the request's type
abbrev pub holds : RegistryValue → Nexus → Bool
holds r n = is_held_by r.reservation r.registrants n

abbrev pub holds_its_type : RegistryValue → Nexus → PrOut → Bool
holds_its_type r n q = is_held_by r.reservation r.registrants n && is_of_code r.reservation q.kind

-- SCOPE and TYPE are those of the reservation that there is
abbrev pub names_it : RegistryValue → PrOut → Bool
names_it r q = nat_eq q.scope 0 && is_of_code r.reservation q.kind

-- ---- what a request ends in

-- GOOD, with the registry afterwards and who is told what; RESERVATION CONFLICT; or ILLEGAL REQUEST with this additional
-- sense code and qualifier. After a refusal the registry is as it was.
pub data Effect : Type 0 where
  Done : RegistryValue → List Told → Effect
  Conflicting : Effect
  Refused : ℕ → ℕ → Effect

-- the sense of a refusal: its key is ILLEGAL REQUEST (4.5.6)
abbrev pub illegal_request : ℕ → ℕ → Sense
illegal_request asc ascq = sense 0x05 asc ascq

abbrev pub refused_with : Sense → Effect
refused_with s = Refused s.asc s.ascq

-- the reservation of the request's type, made by the nexus
abbrev pub asked_for : Nexus → PrOut → Option Reservation
asked_for n q = option_map (made_by n) (type_of q.kind)

-- of the end of a reservation others hear where it is of types 5 to 8
abbrev pub told_at_end : Notice → Option Reservation → Notice
told_at_end notice None = Nothing
told_at_end notice (Some held) = if is_of_registrants held.kind then notice else Nothing

-- the other registered nexuses hear of it
abbrev pub of_end : Option Reservation → Notice
of_end held = told_at_end (ToAll ReservationsReleased) held

-- where the sender's port goes whole, each registrant of another port, which is who is registered afterwards
abbrev pub of_end_elsewhere : Option Reservation → Notice
of_end_elsewhere held = told_at_end (ToOtherPorts ReservationsReleased) held

-- they hear of it where it ended
abbrev pub if_ended : RegistryValue → Notice → Notice
if_ended new notice = if is_some new.reservation then Nothing else notice

-- the registry in which just these registrants are left
abbrev pub left_with : List Registrant → RegistryValue → RegistryValue
left_with xs r = record r { registrants = xs; reservation = left_to xs r.reservation }

-- ---- REGISTER, and REGISTER AND IGNORE EXISTING KEY (5.13.7, 5.13.11.2)

-- the nexus is registered no more, and if it alone holds the reservation, that ends
abbrev pub unregistered : RegistryValue → Nexus → RegistryValue
unregistered r n =
    if is_sole_holder r.reservation n then record r { registrants = others n r.registrants; reservation = None }
    else left_with (others n r.registrants) r

-- the key 0 takes a registration away, where there is one; another key is that of the nexus from now on
abbrev pub registration : RegistryValue → Nexus → PrOut → RegistryValue
registration r n q =
    if nat_eq q.sakey 0 then (if is_registered r.registrants n then record (unregistered r n) { aptpl = q.aptpl } else r)
    else record r { registrants = registered_by n q.sakey r.registrants; aptpl = q.aptpl }

-- a key finds no room where too many were registered then
abbrev pub is_too_much : PrOut → RegistryValue → Bool
is_too_much q new = not (nat_eq q.sakey 0) && nat_lt most_registrants (length new.registrants)

-- PRGENERATION counts the request once
abbrev pub registered : RegistryValue → Nexus → PrOut → RegistryValue → Notice → Effect
registered r n q new notice =
    if is_too_much q new then refused_with insufficient_registration_resources
    else Done (counted new) (told_of n (if_ended new notice) r.registrants)

-- ALL_TG_PT (6.16.3): the registration is made for the sender's nexus, and then for the other nexus of its port
abbrev pub of_port : RegistryValue → Nexus → PrOut → RegistryValue
of_port r n q = registration (registration r n q) (other_nexus n) q

abbrev pub registering_one : RegistryValue → Nexus → PrOut → Effect
registering_one r n q = registered r n q (registration r n q) (of_end r.reservation)

abbrev pub registering_port : RegistryValue → Nexus → PrOut → Effect
registering_port r n q = registered r n q (of_port r n q) (of_end_elsewhere r.reservation)

abbrev pub registering : RegistryValue → Nexus → PrOut → Effect
registering r n q = if q.all_tg_pt then registering_port r n q else registering_one r n q

-- ---- RESERVE (5.13.9) and RELEASE (5.13.11.2)

-- a holder may ask for what it has; else nobody may hold
abbrev pub reserving : RegistryValue → Nexus → PrOut → Effect
reserving r n q =
    if is_some r.reservation then
    (if holds_its_type r n q then Done r [] else Conflicting)
    else Done (record r { reservation = asked_for n q }) []

-- who does not hold has nothing to release; who does has to name the reservation's scope and type
abbrev pub releasing : RegistryValue → Nexus → PrOut → Effect
releasing r n q =
    if holds r n then
    (if names_it r q then Done (record r { reservation = None }) (told_of n (of_end r.reservation) r.registrants)
    else refused_with invalid_release_of_persistent_reservation)
    else Done r []

-- ---- CLEAR, PREEMPT, and PREEMPT AND ABORT (5.13.11.3 to 5.13.11.5)

abbrev pub clearing : RegistryValue → Nexus → PrOut → Effect
clearing r n q =
    Done (counted (record r { registrants = []; reservation = None })) (told_of n (ToAll ReservationsPreempted) r.registrants)

-- the only holder and all with its key go, and the sender holds
abbrev pub preempting_holder : RegistryValue → Nexus → PrOut → Effect
preempting_holder r n q =
    Done (counted (record r { registrants = without_others_of_key n q.sakey r.registrants; reservation = asked_for n q }))
    (told_of n (OfPreempted q.sakey (not (is_of_code r.reservation q.kind))) r.registrants)

-- all others go, and the sender holds
abbrev pub preempting_all : RegistryValue → Nexus → PrOut → Effect
preempting_all r n q =
    Done (counted (record r { registrants = only n r.registrants; reservation = asked_for n q }))
    (told_of n (ToAll RegistrationsPreempted) r.registrants)

-- all with the key go, and the reservation stays while it has a holder
abbrev pub preempting_registrants : RegistryValue → Nexus → PrOut → Effect
preempting_registrants r n q =
    Done (counted (left_with (without_key q.sakey r.registrants) r))
    (told_of n (OfPreempted q.sakey false) r.registrants)

-- the key may be that of the only holder, or 0 where all registrants hold; else somebody is registered with it
abbrev pub preempting : RegistryValue → Nexus → PrOut → Effect
preempting r n q =
    if is_preempting_reservation r q then
    (if names_type q then (if is_preempting_holder r q then preempting_holder r n q else preempting_all r n q)
    else refused_with invalid_field_in_cdb)
    else if nat_eq q.sakey 0 then refused_with invalid_field_in_parameter_list
    else if is_key r.registrants q.sakey then preempting_registrants r n q
    else Conflicting

-- ---- the whole table

abbrev pub effect_of_action : PrOutAction → RegistryValue → Nexus → PrOut → Effect
effect_of_action Register r n q = registering r n q
effect_of_action Reserve r n q = reserving r n q
effect_of_action Release r n q = releasing r n q
effect_of_action Clear r n q = clearing r n q
effect_of_action Preempt r n q = preempting r n q
effect_of_action PreemptAndAbort r n q = preempting r n q
effect_of_action RegisterAndIgnoreExistingKey r n q = registering r n q

-- a RESERVE with a field that it may not have, SPEC_I_PT, or a key that is not the one to show; else what the action does
abbrev pub effect_of : RegistryValue → Nexus → PrOut → Effect
effect_of r n q =
    if is_bad_reserve q.action q then refused_with invalid_field_in_cdb
    else if q.spec_i_pt then refused_with invalid_field_in_parameter_list
    else if shows_key q.action (key_of r.registrants n) q.key then effect_of_action q.action r n q
    else Conflicting

-- a call that ends so has this effect: a refusal leaves the registry as it was
abbrev pub HasEffect : PrEnd → Effect → RegistryValue → RegistryValue → Type 0
HasEffect (Good telling) e old new = e ≡ Done new (tellings telling old.registrants)
HasEffect Conflict e old new = (e ≡ Conflicting) × (new ≡ old)
HasEffect (Illegal s) e old new = (e ≡ refused_with s) × (s ≡ illegal_request s.asc s.ascq) × (new ≡ old)
