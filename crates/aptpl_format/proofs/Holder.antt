-- The reservation of a slot, by its type and by its holder's place and group.
use Rattle.std.proofs.Common.{◌≡◌, ⊎_elim, ℕ, Bool, true, false, not, ◌&&◌, nat_eq}
use Rattle.std.proofs.Common.{List, [], ◌∷◌, Option, Some, None, slice_index, refl, sym, ◌∙◌, ap, arith}
use Rattle.std.proofs.lemmas.Bool.{cases_Bool, eq-eqb}
use Rattle.std.specs.List.{find}
use Rattle.std.specs.Option.{option_map}
use Rattle.scsi_types.specs.Nexus.{Nexus}
use Rattle.registrants.specs.declared.kind.ReservationType.{ReservationType}
use Rattle.registrants.specs.declared.kind.ReservationType.TheVariants.{WriteExclusive}
use Rattle.registrants.specs.declared.registrant.Registrant.{Registrant}
use Rattle.registrants.specs.declared.registrant.Reservation.{Reservation}
use Rattle.registrants.specs.Kind.{is_of_all_registrants, type_code, type_of}
use Rattle.registrants.specs.Nexus.{same_nexus}
use Rattle.registrants.specs.Registry.{RecordValue, holder_of, is_any, is_registered, is_rightly_held, is_sound_hold}
use Rattle.aptpl_format.specs.declared.version.FileVersion.{FileVersion}
use Rattle.aptpl_format.specs.Format.{group_of, place_of, type_byte}
use Rattle.aptpl_format.specs.Reads.{HasReservation, Spells, holder_in}
use Rattle.aptpl_format.proofs.Entries.{both, found_passes, nexus_itself, one_nexus, one_place}
use Rattle.aptpl_format.proofs.Header.{type_read, place_read, group_read}

-- ---- who is found

abbrev is_at : FileVersion → ℕ → ℕ → List Registrant → Registrant → Bool
is_at v place group xs x =
    nat_eq (place_of v (Some x.nexus) xs) place && nat_eq (group_of v (Some x.nexus)) group

-- a registrant that is found is registered
registered_found : (p : Registrant → Bool) (xs : List Registrant) (x : Registrant) → find p xs ≡ Some x
    → is_registered xs x.nexus ≡ true
registered_found p [] x is = absurd (cc)
registered_found p (y ∷ ys) x is = ⊎_elim
    (λ (same : same_nexus y.nexus x.nexus ≡ true). rw same refl)
    (λ (other : same_nexus y.nexus x.nexus ≡ false). ⊎_elim
    (λ (passes : p y ≡ true).
    let here = rw passes at is in
    let e : y ≡ x = cc in
    let itself : same_nexus y.nexus x.nexus ≡ true =
    ap (λ (z : Registrant). same_nexus z.nexus x.nexus) e ∙ nexus_itself x.nexus in
    absurd (cc))
    (λ (fails : p y ≡ false). let there = rw fails at is in rw other (registered_found p ys x there))
    (cases_Bool (p y)))
    (cases_Bool (same_nexus y.nexus x.nexus))

-- a registered nexus is found by whatever it passes
record IsFound (p : Registrant → Bool) (xs : List Registrant) : Type 0 where
  x : Registrant
  found : find p xs ≡ Some x

some_passes : (p : Registrant → Bool) (xs : List Registrant) (n : Nexus) → is_registered xs n ≡ true
    → ((x : Registrant) → x.nexus ≡ n → p x ≡ true) → IsFound p xs
some_passes p [] n registered all = absurd (cc)
some_passes p (y ∷ ys) n registered all = ⊎_elim
    (λ (passes : p y ≡ true). record { x = y; found = rw passes refl })
    (λ (fails : p y ≡ false). ⊎_elim
    (λ (same : same_nexus y.nexus n ≡ true).
    let passes = all y (one_nexus y.nexus n same) in absurd (cc))
    (λ (other : same_nexus y.nexus n ≡ false).
    let rest = rw other at registered in
    let more = some_passes p ys n rest all in
    record { x = more.x; found = rw fails more.found })
    (cases_Bool (same_nexus y.nexus n)))
    (cases_Bool (p y))

same_number : (a b : ℕ) → a ≡ b → nat_eq a b ≡ true
same_number a b e = eq-eqb a b e

number_same : (a b : ℕ) → nat_eq a b ≡ true → a ≡ b
number_same a b e = grind (arith, e)

-- the nexus of a place and a group is found, and is found registered
pub nexus_found : (v : FileVersion) (xs : List Registrant) (n : Nexus) (place group : ℕ) → is_registered xs n ≡ true
    → place ≡ place_of v (Some n) xs → group ≡ group_of v (Some n) → holder_in v place group xs ≡ Some n
nexus_found v xs n place group registered is_place is_group =
    let p = is_at v place group xs in
    let at_n : (x : Registrant) → x.nexus ≡ n → p x ≡ true =
    λ x same.
    let a : nat_eq (place_of v (Some x.nexus) xs) place ≡ true =
    same_number (place_of v (Some x.nexus) xs) place
    (ap (λ (m : Nexus). place_of v (Some m) xs) same ∙ sym is_place) in
    let b : nat_eq (group_of v (Some x.nexus)) group ≡ true =
    same_number (group_of v (Some x.nexus)) group (ap (λ (m : Nexus). group_of v (Some m)) same ∙ sym is_group) in
    rw (a, b) refl in
    let f = some_passes p xs n registered at_n in
    let parts = both (nat_eq (place_of v (Some f.x.nexus) xs) place) (nat_eq (group_of v (Some f.x.nexus)) group)
    (found_passes p xs f.x f.found) in
    let same : f.x.nexus ≡ n =
    one_place v xs f.x.nexus n (registered_found p xs f.x f.found) registered
    (number_same (place_of v (Some f.x.nexus) xs) place parts.0 ∙ is_place)
    (number_same (group_of v (Some f.x.nexus)) group parts.1 ∙ is_group) in
    ap (option_map (λ (x : Registrant). x.nexus)) f.found ∙ ap Some same

mapped : (p : Registrant → Bool) (xs : List Registrant) (o : Option Registrant) (n : Nexus) → find p xs ≡ o
    → option_map (λ (x : Registrant). x.nexus) o ≡ Some n → is_registered xs n ≡ true
mapped p xs None n is e = absurd (cc)
mapped p xs (Some x) n is e =
    let same : x.nexus ≡ n = cc in
    ap (is_registered xs) (sym same) ∙ registered_found p xs x is

pub holder_registered : (v : FileVersion) (xs : List Registrant) (n : Nexus) (place group : ℕ)
    → holder_in v place group xs ≡ Some n → is_registered xs n ≡ true
holder_registered v xs n place group is =
    mapped (is_at v place group xs) xs (find (is_at v place group xs) xs) n refl is

-- ---- the reservation

pub type_back : (k : ReservationType) → type_of (type_code k) ≡ Some k
type_back WriteExclusive = refl
type_back other = refl

same_kind : (a b : ReservationType) → type_code a ≡ type_code b → a ≡ b
same_kind a b e = let f : Some a ≡ Some b = sym (type_back a) ∙ ap type_of e ∙ type_back b in cc

some_code : (k : ReservationType) → type_code k ≡ 0 → ⊥
some_code k e = let f : Some k ≡ type_of 0 = sym (type_back k) ∙ ap type_of e in cc

same_holder : (v : FileVersion) (kind : ReservationType) (m n : Option Nexus) (xs : List Registrant)
    → is_rightly_held kind m xs ≡ true → is_rightly_held kind n xs ≡ true → place_of v m xs ≡ place_of v n xs
    → group_of v m ≡ group_of v n → m ≡ n
same_holder v kind None None xs rm rn at group = refl
same_holder v kind None (Some n) xs rm rn at group =
    let all = both (is_of_all_registrants kind) (is_any xs) rm in
    let one = both (not (is_of_all_registrants kind)) (is_registered xs n) rn in
    let a = all.0 in let b = one.0 in absurd (cc)
same_holder v kind (Some m) None xs rm rn at group =
    let all = both (is_of_all_registrants kind) (is_any xs) rn in
    let one = both (not (is_of_all_registrants kind)) (is_registered xs m) rm in
    let a = all.0 in let b = one.0 in absurd (cc)
same_holder v kind (Some m) (Some n) xs rm rn at group =
    ap Some (one_place v xs m n (both (not (is_of_all_registrants kind)) (is_registered xs m) rm).1
    (both (not (is_of_all_registrants kind)) (is_registered xs n) rn).1 at group)

pub same_reservation : (v : FileVersion) (a b : Option Reservation) (xs : List Registrant) → is_sound_hold a xs ≡ true
    → is_sound_hold b xs ≡ true → type_byte a ≡ type_byte b
    → place_of v (holder_of a) xs ≡ place_of v (holder_of b) xs
    → group_of v (holder_of a) ≡ group_of v (holder_of b) → a ≡ b
same_reservation v None None xs sa sb code at group = refl
same_reservation v None (Some b) xs sa sb code at group = absurd (some_code b.kind (sym code))
same_reservation v (Some a) None xs sa sb code at group = absurd (some_code a.kind code)
same_reservation v (Some a) (Some b) xs sa sb code at group =
    let kind : a.kind ≡ b.kind = same_kind a.kind b.kind code in
    let holder : a.holder ≡ b.holder =
    same_holder v b.kind a.holder b.holder xs
    (ap (λ (k : ReservationType). is_rightly_held k a.holder xs) (sym kind) ∙ sa) sb at group in
    λ t. Some (record { kind = kind t; holder = holder t })

-- the holder of a reservation of types 1, 3, 5 and 6 is found by its place and group
pub record IsHeldBy (kind : ReservationType) (v : FileVersion) (place group : ℕ) (xs : List Registrant)
    (held : Option Reservation) : Type 0 where
  pub n : Nexus
  pub found : holder_in v place group xs ≡ Some n
  pub is : held ≡ Some (record { kind = kind; holder = Some n })

held_by : (kind k : ReservationType) (holder : Option Nexus) (v : FileVersion) (place group : ℕ) (xs : List Registrant)
    → is_rightly_held k holder xs ≡ true → place ≡ place_of v holder xs → group ≡ group_of v holder → k ≡ kind
    → is_of_all_registrants kind ≡ false
    → IsHeldBy kind v place group xs (Some (record { kind = k; holder = holder }))
held_by kind k None v place group xs right at in_group is one =
    let all = both (is_of_all_registrants k) (is_any xs) right in
    let e : is_of_all_registrants k ≡ false = ap is_of_all_registrants is ∙ one in
    absurd (cc)
held_by kind k (Some n) v place group xs right at in_group is one =
    let named = both (not (is_of_all_registrants k)) (is_registered xs n) right in
    record {
      n = n;
      found = nexus_found v xs n place group named.1 at in_group;
      is = λ t. Some (record { kind = is t; holder = Some n });
    }

held_at : (kind : ReservationType) (v : FileVersion) (code place group : ℕ) (xs : List Registrant)
    (held : Option Reservation) → is_sound_hold held xs ≡ true → code ≡ type_byte held
    → place ≡ place_of v (holder_of held) xs → group ≡ group_of v (holder_of held) → type_of code ≡ Some kind
    → is_of_all_registrants kind ≡ false → IsHeldBy kind v place group xs held
held_at kind v code place group xs None sound is_code at in_group found one =
    let none : type_of 0 ≡ Some kind = ap type_of (sym is_code) ∙ found in absurd (cc)
held_at kind v code place group xs (Some held) sound is_code at in_group found one =
    let e : Some held.kind ≡ Some kind = sym (type_back held.kind) ∙ ap type_of (sym is_code) ∙ found in
    let same : held.kind ≡ kind = cc in
    held_by kind held.kind held.holder v place group xs sound at in_group same one

pub reservation_at : (kind : ReservationType) (v : FileVersion) (bytes : List ℕ) (xs : List Registrant) (r : RecordValue)
    → HasReservation v bytes xs r → type_of (slice_index bytes 10) ≡ Some kind → is_of_all_registrants kind ≡ false
    → IsHeldBy kind v (slice_index bytes 11) (slice_index bytes 12) xs r.reservation
reservation_at kind v bytes xs r has found one =
    held_at kind v (slice_index bytes 10) (slice_index bytes 11) (slice_index bytes 12) xs r.reservation
    (ap (is_sound_hold r.reservation) (sym has.registrants) ∙ has.lasting.sound.held) has.is_code
    (has.is_place ∙ ap (place_of v (holder_of r.reservation)) has.registrants) has.is_group found one

-- that of a record that the bytes spell
pub has_reservation : (v : FileVersion) (bytes : List ℕ) (xs : List Registrant) (r : RecordValue) → Spells v bytes r
    → r.registrants ≡ xs → HasReservation v bytes xs r
has_reservation v bytes xs r s same = record {
  lasting = s.lasting;
  registrants = same;
  is_code = ap (λ (b : List ℕ). slice_index b 10) s.spelled ∙ type_read v r;
  is_place = ap (λ (b : List ℕ). slice_index b 11) s.spelled ∙ place_read v r;
  is_group = ap (λ (b : List ℕ). slice_index b 12) s.spelled ∙ group_read v r;
}
