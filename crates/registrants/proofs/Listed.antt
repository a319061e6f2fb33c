-- Registrants that are listed in order, few and with keys: what keeps them so.
use Rattle.std.proofs.Common.{◌≡◌, ⊎_elim, ℕ, suc, ◌≤◌, Bool, true, false, not, nat_eq, List, [], ◌∷◌}
use Rattle.std.proofs.Common.{◌+◌, ◌++◌, if◌then◌else◌, length, filter, refl, ◌∙◌, ap, arith, Option, IsTrue}
use Rattle.std.proofs.lemmas.Bool.{cases_Bool}
use Rattle.std.proofs.lemmas.List.Edits.{length-insert}
use Rattle.std.specs.List.{AllByRecursion}
use Rattle.std.specs.Ordering.{is_lt, is_gt, ordering_reverse}
use Rattle.std.specs.declared.cmp.Ordering.{Ordering}
use Rattle.std.specs.declared.cmp.Ordering.TheVariants.{Less, Equal, Greater}
use Rattle.scsi_types.specs.Nexus.{Nexus}
use Rattle.registrants.specs.declared.registrant.Registrant.{Registrant}
use Rattle.registrants.specs.declared.registrant.Reservation.{Reservation}
use Rattle.registrants.specs.Nexus.{same_nexus, nexus_cmp}
use Rattle.registrants.specs.Registry.{IsAscending, IsSound, is_registered, is_sound_hold, joined_by, most_registrants}
use Rattle.registrants.specs.Registry.{registered_by, rekeyed, with_key_of}
use Rattle.registrants.proofs.Insert.{before, behind, insert_is, length_before, found_first, out_of_rest, none_before}
use Rattle.registrants.proofs.Order.{nexus_total}

-- ---- what a filter keeps

pub all_filter : (P : Registrant → Type 0) (p : Registrant → Bool) (xs : List Registrant) → AllByRecursion P xs
    → AllByRecursion P (filter p xs)
all_filter P p [] all = tt
all_filter P p (x ∷ xs) all =
    ⊎_elim (λ (t : p x ≡ true). rw t (all.0, all_filter P p xs all.1))
    (λ (f : p x ≡ false). rw f (all_filter P p xs all.1)) (cases_Bool (p x))

ascending_filter : (p : Registrant → Bool) (xs : List Registrant) → IsAscending xs → IsAscending (filter p xs)
ascending_filter p [] a = tt
ascending_filter p (x ∷ xs) a =
    let rest = ascending_filter p xs a.1 in
    ⊎_elim (λ (t : p x ≡ true). rw t (all_filter (λ (y : Registrant). nexus_cmp x.nexus y.nexus ≡ Less) p xs a.0, rest))
    (λ (f : p x ≡ false). rw f rest)
    (cases_Bool (p x))

length_filter : (p : Registrant → Bool) (xs : List Registrant) → length (filter p xs) ≤ length xs
length_filter p [] = omega arith
length_filter p (x ∷ xs) =
    let rest = length_filter p xs in
    ⊎_elim (λ (t : p x ≡ true). rw t (omega arith)) (λ (f : p x ≡ false). rw f (omega arith)) (cases_Bool (p x))

-- what is true of the registrants whoever holds
pub record AreRegistrants (xs : List Registrant) : Type 0 where
  pub ascending : IsAscending xs
  pub few : length xs ≤ most_registrants
  pub keys : AllByRecursion (λ (x : Registrant). IsTrue (not (nat_eq x.key 0))) xs

pub listed_of : (xs : List Registrant) (res : Option Reservation) → IsSound xs res → AreRegistrants xs
listed_of xs res s = record { ascending = s.ascending; few = s.few; keys = s.keys }

pub sound_of : (xs : List Registrant) (res : Option Reservation) → AreRegistrants xs → is_sound_hold res xs ≡ true
    → IsSound xs res
sound_of xs res l held = record { ascending = l.ascending; few = l.few; keys = l.keys; held = held }

pub listed_filter : (p : Registrant → Bool) (xs : List Registrant) → AreRegistrants xs → AreRegistrants (filter p xs)
listed_filter p xs l =
    let short = length_filter p xs in
    record {
      ascending = ascending_filter p xs l.ascending;
      few = omega (arith, short, l.few);
      keys = all_filter (λ (x : Registrant). IsTrue (not (nat_eq x.key 0))) p xs l.keys;
    }

-- ---- one registrant more

pub all_append : (P : Registrant → Type 0) (xs ys : List Registrant) → AllByRecursion P xs → AllByRecursion P ys
    → AllByRecursion P (xs ++ ys)
all_append P [] ys a b = b
all_append P (x ∷ xs) ys a b = (a.0, all_append P xs ys a.1 b)

above_all : (n x : Nexus) (xs : List Registrant) → nexus_cmp n x ≡ Less
    → AllByRecursion (λ (y : Registrant). nexus_cmp x y.nexus ≡ Less) xs
    → AllByRecursion (λ (y : Registrant). nexus_cmp n y.nexus ≡ Less) xs
above_all n x [] h all = tt
above_all n x (y ∷ ys) h all = (nexus_total.trans n x y.nexus h all.0, above_all n x ys h all.1)

ascending_by : (n : Nexus) (key : ℕ) (x : Registrant) (xs : List Registrant) (o : Ordering) → nexus_cmp x.nexus n ≡ o
    → IsAscending (x ∷ xs) → is_registered (x ∷ xs) n ≡ false → IsAscending (joined_by n key xs)
    → IsAscending (joined_by n key (x ∷ xs))
ascending_by n key x xs Less is a out rest =
    let P : Registrant → Type 0 = λ (y : Registrant). nexus_cmp x.nexus y.nexus ≡ Less in
    let front = all_filter P (λ (y : Registrant). is_lt (nexus_cmp y.nexus n)) xs a.0 in
    let back = all_filter P (λ (y : Registrant). is_gt (nexus_cmp y.nexus n)) xs a.0 in
    rw is (all_append P (before n xs) (record { nexus = n; key = key } ∷ behind n xs) front (is, back), rest)
ascending_by n key x xs Equal is a out rest = absurd (found_first n x.nexus xs x refl out is)
ascending_by n key x xs Greater is a out rest =
    let none = none_before n x.nexus xs is a.0 in
    let below : nexus_cmp n x.nexus ≡ Less = nexus_total.antisymm n x.nexus ∙ ap ordering_reverse is in
    rw is (rw (none.0, none.1) ((below, above_all n x.nexus xs below a.0), a))

ascending_joined : (n : Nexus) (key : ℕ) (xs : List Registrant) → IsAscending xs → is_registered xs n ≡ false
    → IsAscending (joined_by n key xs)
ascending_joined n key [] a out = (tt, tt)
ascending_joined n key (x ∷ xs) a out =
    ascending_by n key x xs (nexus_cmp x.nexus n) refl a out (ascending_joined n key xs a.1 (out_of_rest n xs x out))

-- ---- another key

pub rekeyed_nexus : (n : Nexus) (key : ℕ) (x : Registrant) → (rekeyed n key x).nexus ≡ x.nexus
rekeyed_nexus n key x =
    ⊎_elim (λ (t : same_nexus x.nexus n ≡ true). rw t refl)
    (λ (f : same_nexus x.nexus n ≡ false). rw f refl) (cases_Bool (same_nexus x.nexus n))

all_rekeyed : (n : Nexus) (key : ℕ) (m : Nexus) (xs : List Registrant)
    → AllByRecursion (λ (y : Registrant). nexus_cmp m y.nexus ≡ Less) xs
    → AllByRecursion (λ (y : Registrant). nexus_cmp m y.nexus ≡ Less) (with_key_of n key xs)
all_rekeyed n key m [] all = tt
all_rekeyed n key m (x ∷ xs) all = (rw (rekeyed_nexus n key x) all.0, all_rekeyed n key m xs all.1)

ascending_rekeyed : (n : Nexus) (key : ℕ) (xs : List Registrant) → IsAscending xs → IsAscending (with_key_of n key xs)
ascending_rekeyed n key [] a = tt
ascending_rekeyed n key (x ∷ xs) a =
    (rw (rekeyed_nexus n key x) (all_rekeyed n key x.nexus xs a.0), ascending_rekeyed n key xs a.1)

keys_rekeyed : (n : Nexus) (key : ℕ) (xs : List Registrant) → nat_eq key 0 ≡ false
    → AllByRecursion (λ (x : Registrant). IsTrue (not (nat_eq x.key 0))) xs
    → AllByRecursion (λ (x : Registrant). IsTrue (not (nat_eq x.key 0))) (with_key_of n key xs)
keys_rekeyed n key [] nonzero all = tt
keys_rekeyed n key (x ∷ xs) nonzero all = (
  ⊎_elim (λ (t : same_nexus x.nexus n ≡ true). rw t (rw nonzero refl))
      (λ (f : same_nexus x.nexus n ≡ false). rw f all.0) (cases_Bool (same_nexus x.nexus n)),
  keys_rekeyed n key xs nonzero all.1,
)

length_rekeyed : (n : Nexus) (key : ℕ) (xs : List Registrant) → length (with_key_of n key xs) ≡ length xs
length_rekeyed n key [] = refl
length_rekeyed n key (x ∷ xs) = ap suc (length_rekeyed n key xs)

-- ---- registered, whatever key it had

pub ascending_registered : (n : Nexus) (key : ℕ) (xs : List Registrant) → IsAscending xs
    → IsAscending (registered_by n key xs)
ascending_registered n key xs a =
    ⊎_elim (λ (t : is_registered xs n ≡ true). rw t (ascending_rekeyed n key xs a))
    (λ (f : is_registered xs n ≡ false). rw f (ascending_joined n key xs a f)) (cases_Bool (is_registered xs n))

abbrev pub HaveKeys : List Registrant → Type 0
HaveKeys xs = AllByRecursion (λ (x : Registrant). IsTrue (not (nat_eq x.key 0))) xs

keys_joined : (n : Nexus) (key : ℕ) (xs : List Registrant) → nat_eq key 0 ≡ false → HaveKeys xs
    → HaveKeys (joined_by n key xs)
keys_joined n key xs nonzero all =
    let P : Registrant → Type 0 = λ (x : Registrant). IsTrue (not (nat_eq x.key 0)) in
    all_append P (before n xs) (record { nexus = n; key = key } ∷ behind n xs)
    (all_filter P (λ (y : Registrant). is_lt (nexus_cmp y.nexus n)) xs all)
    (rw nonzero refl, all_filter P (λ (y : Registrant). is_gt (nexus_cmp y.nexus n)) xs all)

pub keys_registered : (n : Nexus) (key : ℕ) (xs : List Registrant) → nat_eq key 0 ≡ false → HaveKeys xs
    → HaveKeys (registered_by n key xs)
keys_registered n key xs nonzero all =
    ⊎_elim (λ (t : is_registered xs n ≡ true). rw t (keys_rekeyed n key xs nonzero all))
    (λ (f : is_registered xs n ≡ false). rw f (keys_joined n key xs nonzero all)) (cases_Bool (is_registered xs n))

-- how many a nexus adds
abbrev pub missing : List Registrant → Nexus → ℕ
missing xs n = if is_registered xs n then 0 else 1

pub length_registered : (n : Nexus) (key : ℕ) (xs : List Registrant) → IsAscending xs
    → length (registered_by n key xs) ≡ length xs + missing xs n
length_registered n key xs a =
    ⊎_elim (λ (t : is_registered xs n ≡ true). rw t (omega (arith, length_rekeyed n key xs)))
    (λ (f : is_registered xs n ≡ false).
    let it : Registrant = record { nexus = n; key = key } in
    let long = length-insert xs (length (before n xs)) it (length_before n xs) in
    let same = ap (length {A = Registrant}) (insert_is n key xs a f) in
    rw f (omega (arith, long, same)))
    (cases_Bool (is_registered xs n))
