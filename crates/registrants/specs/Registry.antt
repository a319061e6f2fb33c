-- The registrations and the reservation of a logical unit (SPC-4, 5.13).
use Rattle.std.specs.Prelude.{◌≡◌, ◌<◌, ◌≤◌, ℕ, ◌+◌, ◌%◌, ◌^◌, Bool, true, false, not, ◌&&◌, ◌||◌, nat_eq}
use Rattle.std.specs.Prelude.{if◌then◌else◌, IsTrue, List, [], ◌∷◌, ◌++◌, length, map, filter, Option, Some}
use Rattle.std.specs.Prelude.{None, is_some}
use Rattle.std.specs.List.{AllByRecursion, find, list_any}
use Rattle.std.specs.Option.{option_map}
use Rattle.std.specs.Ordering.{is_lt, is_gt}
use Rattle.std.specs.declared.cmp.Ordering.TheVariants.{Less}
use Rattle.scsi_types.specs.Nexus.{IsPortName, Nexus}
use Rattle.registrants.specs.declared.kind.ReservationType.{ReservationType}
use Rattle.registrants.specs.declared.registrant.Registrant.{Registrant}
use Rattle.registrants.specs.declared.registrant.Reservation.{Reservation}
use Rattle.registrants.specs.Kind.{is_of_all_registrants, type_code}
use Rattle.registrants.specs.Nexus.{same_nexus, nexus_cmp}

-- the most registrants of a unit
abbrev pub most_registrants : ℕ
most_registrants = 64

-- The registrants are a map from nexus to key by its entries, in ascending order of nexuses. `generation` is
-- PRGENERATION.
pub record RegistryValue : Type 0 where
  pub registrants : List Registrant
  pub reservation : Option Reservation
  pub aptpl : Bool
  pub generation : ℕ

-- the key with which a nexus is registered
abbrev pub key_of : List Registrant → Nexus → Option ℕ
key_of registrants nexus =
    option_map (λ (x : Registrant). x.key) (find (λ (x : Registrant). same_nexus x.nexus nexus) registrants)

abbrev pub is_registered : List Registrant → Nexus → Bool
is_registered registrants nexus = is_some (key_of registrants nexus)

-- some nexus is registered with the key
abbrev pub is_key : List Registrant → ℕ → Bool
is_key registrants key = list_any (λ (x : Registrant). nat_eq x.key key) registrants

-- ---- who holds

-- the nexus that alone holds the reservation: the holder of types 1, 3, 5 and 6
abbrev pub holder_of : Option Reservation → Option Nexus
holder_of None = None
holder_of (Some held) = held.holder

abbrev pub is_the : Option Nexus → Nexus → Bool
is_the None nexus = false
is_the (Some holder) nexus = same_nexus holder nexus

abbrev pub is_sole_holder : Option Reservation → Nexus → Bool
is_sole_holder reservation nexus = is_the (holder_of reservation) nexus

-- every registrant holds: types 7 and 8
abbrev pub is_held_by_all : Option Reservation → Bool
is_held_by_all None = false
is_held_by_all (Some held) = is_of_all_registrants held.kind

abbrev pub is_held_by : Option Reservation → List Registrant → Nexus → Bool
is_held_by reservation registrants nexus =
    is_sole_holder reservation nexus || (is_held_by_all reservation && is_registered registrants nexus)

-- the key of the nexus that alone holds
abbrev pub key_in : List Registrant → Option Nexus → Option ℕ
key_in registrants None = None
key_in registrants (Some holder) = key_of registrants holder

abbrev pub is_own : Option ℕ → ℕ → Bool
is_own None key = false
is_own (Some own) key = nat_eq own key

abbrev pub is_holders_key : Option Reservation → List Registrant → ℕ → Bool
is_holders_key reservation registrants key = is_own (key_in registrants (holder_of reservation)) key

abbrev pub reserved_type : Option Reservation → Option ReservationType
reserved_type reservation = option_map (λ (held : Reservation). held.kind) reservation

-- the reservation that there is has the type of this code
abbrev pub is_of_code : Option Reservation → ℕ → Bool
is_of_code None code = false
is_of_code (Some held) code = nat_eq (type_code held.kind) code

-- ---- what changes

-- a reservation of this type, made by this nexus
abbrev pub made_by : Nexus → ReservationType → Reservation
made_by nexus kind = record { kind = kind; holder = if is_of_all_registrants kind then None else Some nexus }

-- the registrants with this one among them, in its place
abbrev pub joined_by : Nexus → ℕ → List Registrant → List Registrant
joined_by nexus key registrants =
    filter (λ (x : Registrant). is_lt (nexus_cmp x.nexus nexus)) registrants
    ++ record { nexus = nexus; key = key } ∷ filter (λ (x : Registrant). is_gt (nexus_cmp x.nexus nexus)) registrants

-- the nexus has this key from now on
abbrev pub rekeyed : Nexus → ℕ → Registrant → Registrant
rekeyed nexus key x = if same_nexus x.nexus nexus then record x { key = key } else x

abbrev pub with_key_of : Nexus → ℕ → List Registrant → List Registrant
with_key_of nexus key registrants = map {A = Registrant} (rekeyed nexus key) registrants

-- the nexus is registered with this key, whatever key it had
abbrev pub registered_by : Nexus → ℕ → List Registrant → List Registrant
registered_by nexus key registrants =
    if is_registered registrants nexus then with_key_of nexus key registrants else joined_by nexus key registrants

-- all but the nexus
abbrev pub others : Nexus → List Registrant → List Registrant
others nexus registrants = filter (λ (x : Registrant). not (same_nexus x.nexus nexus)) registrants

-- the nexus alone
abbrev pub only : Nexus → List Registrant → List Registrant
only nexus registrants = filter (λ (x : Registrant). same_nexus x.nexus nexus) registrants

-- all but those with the key
abbrev pub without_key : ℕ → List Registrant → List Registrant
without_key key registrants = filter (λ (x : Registrant). not (nat_eq x.key key)) registrants

-- all but the other nexuses with the key
abbrev pub without_others_of_key : Nexus → ℕ → List Registrant → List Registrant
without_others_of_key nexus key registrants =
    filter (λ (x : Registrant). same_nexus x.nexus nexus || not (nat_eq x.key key)) registrants

-- a reservation that every registrant holds ends with the last of them; another stays
abbrev pub left_to : List Registrant → Option Reservation → Option Reservation
left_to [] reservation = if is_held_by_all reservation then None else reservation
left_to (x ∷ registrants) reservation = reservation

-- PRGENERATION goes up by one, and from its last value to 0
abbrev pub counted : RegistryValue → RegistryValue
counted r = record r { generation = (r.generation + 1) % 2 ^ 32 }

-- ---- what holds of every registry

-- in strictly ascending order, so that no nexus stands there twice
abbrev pub IsAscending : List Registrant → Type 0
IsAscending [] = Unit {0}
IsAscending (x ∷ xs) = AllByRecursion (λ (y : Registrant). nexus_cmp x.nexus y.nexus ≡ Less) xs × IsAscending xs

-- a reservation of types 1, 3, 5 and 6 is held by one nexus, which is registered; one of types 7 and 8 by every
-- registrant, and there is one
abbrev pub is_any : List Registrant → Bool
is_any [] = false
is_any (x ∷ xs) = true

abbrev pub is_rightly_held : ReservationType → Option Nexus → List Registrant → Bool
is_rightly_held kind None registrants = is_of_all_registrants kind && is_any registrants
is_rightly_held kind (Some holder) registrants = not (is_of_all_registrants kind) && is_registered registrants holder

abbrev pub is_sound_hold : Option Reservation → List Registrant → Bool
is_sound_hold None registrants = true
is_sound_hold (Some held) registrants = is_rightly_held held.kind held.holder registrants

pub record IsSound (registrants : List Registrant) (reservation : Option Reservation) : Type 0 where
  pub ascending : IsAscending registrants
  pub few : length registrants ≤ most_registrants
  pub keys : AllByRecursion (λ (x : Registrant). IsTrue (not (nat_eq x.key 0))) registrants
  pub held : IsTrue (is_sound_hold reservation registrants)

-- nobody is registered
abbrev pub empty : RegistryValue
empty = record { registrants = []; reservation = None; aptpl = false; generation = 0 }

-- ---- what lasts

-- what a restart finds of a registry
pub record RecordValue : Type 0 where
  pub aptpl : Bool
  pub registrants : List Registrant
  pub reservation : Option Reservation

-- nothing lasts where aptpl is not set, else the registrants and the reservation
abbrev pub to_last : RegistryValue → RecordValue
to_last r =
    if r.aptpl then record { aptpl = true; registrants = r.registrants; reservation = r.reservation }
    else record { aptpl = false; registrants = []; reservation = None }

-- without aptpl there is nothing
abbrev pub is_lasting : Bool → List Registrant → Option Reservation → Bool
is_lasting true registrants reservation = true
is_lasting false [] None = true
is_lasting false [] (Some held) = false
is_lasting false (x ∷ xs) reservation = false

-- a registrant as it can be written down: a port as iSCSI names one, and a key of 8 bytes
pub record IsListed (x : Registrant) : Type 0 where
  pub port : IsPortName x.nexus.port
  pub key : x.key < 2 ^ 64

pub record IsRecord (aptpl : Bool) (registrants : List Registrant) (reservation : Option Reservation) : Type 0 where
  pub sound : IsSound registrants reservation
  pub lasting : IsTrue (is_lasting aptpl registrants reservation)
  pub listed : AllByRecursion IsListed registrants

-- power on with what lasted: PRGENERATION begins at 0
abbrev pub powered_on : RecordValue → RegistryValue
powered_on lasted =
    record { registrants = lasted.registrants; reservation = lasted.reservation; aptpl = lasted.aptpl; generation = 0 }
