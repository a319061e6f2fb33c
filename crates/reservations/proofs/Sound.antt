-- Each request leaves a sound registry.
use Rattle.std.proofs.Common.{◌≡◌, ⊎_elim, ℕ, ◌≤◌, true, false, not, ◌||◌, nat_eq, List, [], ◌∷◌, ◌++◌, length, refl, sym}
use Rattle.std.proofs.lemmas.Bool.{cases_Bool, ltb-false}
use Rattle.std.proofs.Common.{◌∙◌, ap, subst, arith, Option, Some, None}
use Rattle.scsi_types.specs.Nexus.{Nexus}
use Rattle.registrants.specs.declared.registrant.Registrant.{Registrant}
use Rattle.registrants.specs.declared.registrant.Reservation.{Reservation}
use Rattle.reservations.specs.declared.request.PrEnd.{PrEnd}
use Rattle.reservations.specs.declared.request.PrEnd.TheVariants.{Good, Conflict, Illegal}
use Rattle.reservations.specs.declared.request.PrOut.{PrOut}
use Rattle.registrants.specs.Kind.{type_of}
use Rattle.registrants.specs.Nexus.{other_nexus, same_nexus}
use Rattle.reservations.specs.Notice.{Told, tellings}
use Rattle.registrants.specs.Registry.{RegistryValue, IsSound, key_of, key_in, is_own, is_holders_key}
use Rattle.registrants.specs.Registry.{is_the, is_registered, is_sole_holder, is_any, joined_by, left_to, most_registrants, others, registered_by}
use Rattle.registrants.specs.Registry.{with_key_of, without_key, without_others_of_key, only}
use Rattle.reservations.specs.Table.{Done, HasEffect, effect_of, is_too_much, of_port, registration}
use Rattle.registrants.proofs.Held.{hold_kept, left_held, made_held, registered_only}
use Rattle.registrants.proofs.Held.{registered_others, registered_preempting, registered_registered}
use Rattle.registrants.proofs.Held.{registered_without_key}
use Rattle.registrants.proofs.Listed.{AreRegistrants, ascending_registered, keys_registered, length_registered, listed_filter, listed_of}
use Rattle.registrants.proofs.Listed.{sound_of}
use Rattle.reservations.proofs.Actions.{Ends, each_action, preempts_so, registers_so, releases_so, reserves_so, split}

-- ---- what the conditions say

-- a holder that is not the nexus
not_named : (n : Nexus) (res : Option Reservation) (r : Reservation) (h : Nexus) → is_sole_holder res n ≡ false
    → res ≡ Some r → r.holder ≡ Some h → same_nexus h n ≡ false
not_named n res r h other is there =
    let named : is_sole_holder (Some r) n ≡ false = ap (λ (o : Option Reservation). is_sole_holder o n) (sym is) ∙ other in
    ap (λ (o : Option Nexus). is_the o n) (sym there) ∙ named

-- a holder whose key is another
not_its_key : (key : ℕ) (xs : List Registrant) (res : Option Reservation) (r : Reservation) (h : Nexus)
    → is_holders_key res xs key ≡ false → res ≡ Some r → r.holder ≡ Some h → is_own (key_of xs h) key ≡ false
not_its_key key xs res r h other is there =
    let named : is_holders_key (Some r) xs key ≡ false =
    ap (λ (o : Option Reservation). is_holders_key o xs key) (sym is) ∙ other in
    ap (λ (o : Option Nexus). is_own (key_in xs o) key) (sym there) ∙ named

any_joined : (n : Nexus) (key : ℕ) (xs : List Registrant) → is_any (joined_by n key xs) ≡ true
any_joined n key xs = behind_any _ _ _
  where
    behind_any : (front : List Registrant) (x : Registrant) (back : List Registrant) → is_any (front ++ x ∷ back) ≡ true
    behind_any [] x back = refl
    behind_any (y ∷ front) x back = refl

any_rekeyed : (n : Nexus) (key : ℕ) (xs : List Registrant) → is_any xs ≡ true → is_any (with_key_of n key xs) ≡ true
any_rekeyed n key [] any = any
any_rekeyed n key (x ∷ xs) any = refl

any_in : (n : Nexus) (key : ℕ) (xs : List Registrant) → is_any xs ≡ true → is_any (registered_by n key xs) ≡ true
any_in n key xs any =
    ⊎_elim (λ (t : is_registered xs n ≡ true). rw t (any_rekeyed n key xs any))
    (λ (f : is_registered xs n ≡ false). rw f (any_joined n key xs)) (cases_Bool (is_registered xs n))

-- ---- a registration

abbrev Sound : RegistryValue → Type 0
Sound r = IsSound r.registrants r.reservation

sound_without : (r : RegistryValue) (n : Nexus) (q : PrOut) → nat_eq q.sakey 0 ≡ true → Sound r → Sound (registration r n q)
sound_without r n q zero s =
    let rest = listed_filter (λ (x : Registrant). not (same_nexus x.nexus n)) r.registrants (listed_of _ _ s) in
    split (is_registered r.registrants n)
    (λ in_it. split (is_sole_holder r.reservation n)
    (λ holds. rw (zero, in_it, holds) (sound_of (others n r.registrants) None rest refl))
    (λ other. rw (zero, in_it, other)
    (sound_of (others n r.registrants) (left_to (others n r.registrants) r.reservation) rest
    (left_held r.reservation r.registrants (others n r.registrants) s.held
    (λ held h there is h_in. registered_others h n r.registrants h_in (not_named n r.reservation held h other there is))))))
    (λ out. rw (zero, out) s)

sound_with : (n : Nexus) (key : ℕ) (xs : List Registrant) (res : Option Reservation) → nat_eq key 0 ≡ false → IsSound xs res
    → length (registered_by n key xs) ≤ 64 → IsSound (registered_by n key xs) res
sound_with n key xs res some s few =
    sound_of (registered_by n key xs) res
    (record {
      ascending = ascending_registered n key xs s.ascending;
      few = few;
      keys = keys_registered n key xs some s.keys;
    })
    (hold_kept res xs (registered_by n key xs) s.held (any_in n key xs)
    (λ held h there is in_it. registered_registered h n key xs s.ascending in_it))

fits : (q : PrOut) (new : RegistryValue) → is_too_much q new ≡ false → nat_eq q.sakey 0 ≡ false
    → length new.registrants ≤ 64
fits q new much some = ltb-false most_registrants (length new.registrants) (rw some at much)

sound_one : (r : RegistryValue) (n : Nexus) (q : PrOut) → Sound r → is_too_much q (registration r n q) ≡ false
    → Sound (registration r n q)
sound_one r n q s much =
    split (nat_eq q.sakey 0) (λ zero. sound_without r n q zero s)
    (λ some. rw some (sound_with n q.sakey r.registrants r.reservation some s (rw some at (fits q (registration r n q) much some))))

-- for the second nexus there is room only where there was for the first
sound_port : (r : RegistryValue) (n : Nexus) (q : PrOut) → Sound r → is_too_much q (of_port r n q) ≡ false
    → Sound (of_port r n q)
sound_port r n q s much =
    let m = other_nexus n in
    split (nat_eq q.sakey 0) (λ zero. sound_without (registration r n q) m q zero (sound_without r n q zero s))
    (λ some.
    let mid = registered_by n q.sakey r.registrants in
    let few : length (registered_by m q.sakey mid) ≤ 64 = rw some at (fits q (of_port r n q) much some) in
    let longer = length_registered m q.sakey mid (ascending_registered n q.sakey r.registrants s.ascending) in
    rw some (sound_with m q.sakey mid r.reservation some
    (sound_with n q.sakey r.registrants r.reservation some s (omega (arith, few, longer))) few))

-- ---- a request

abbrev Stays : RegistryValue → List Told → Type 0
Stays new told = Sound new

nothing_listed : AreRegistrants []
nothing_listed = record { ascending = tt; few = omega arith; keys = tt }

pub effect_sound : (r : RegistryValue) (n : Nexus) (q : PrOut) (new : RegistryValue) (told : List Told)
    → effect_of r n q ≡ Done new told → Sound r → Sound new
effect_sound r n q new told is s =
    let P = Ends Stays in
    let l = listed_of _ _ s in
    subst P is (each_action P r n q (record {
      refused = λ asc ascq. tt;
      conflicting = λ other. tt;
      registers = λ a. registers_so Stays r n q (λ notice much. sound_one r n q s much) (λ notice much. sound_port r n q s much);
      reserves = λ a shown. reserves_so P r n q tt s
          (sound_of r.registrants _ l (made_held n (type_of q.kind) r.registrants shown));
      releases = λ a. releases_so P r n q (λ asc ascq. tt) s (sound_of r.registrants None l refl);
      clears = λ a. sound_of [] None nothing_listed refl;
      preempts = λ a shown. preempts_so P r n q (λ asc ascq. tt) tt
          (sound_of (without_others_of_key n q.sakey r.registrants) _
          (listed_filter (λ (x : Registrant). same_nexus x.nexus n || not (nat_eq x.key q.sakey)) r.registrants l)
          (made_held n (type_of q.kind) (without_others_of_key n q.sakey r.registrants)
          (registered_preempting n q.sakey r.registrants shown)))
          (λ h. sound_of (only n r.registrants) _ (listed_filter (λ (x : Registrant). same_nexus x.nexus n) r.registrants l)
          (made_held n (type_of q.kind) (only n r.registrants) (registered_only n r.registrants shown)))
          (λ others.
          sound_of (without_key q.sakey r.registrants) (left_to (without_key q.sakey r.registrants) r.reservation)
          (listed_filter (λ (x : Registrant). not (nat_eq x.key q.sakey)) r.registrants l)
          (left_held r.reservation r.registrants (without_key q.sakey r.registrants) s.held
          (λ held h there is in_it. registered_without_key h q.sakey r.registrants in_it
          (not_its_key q.sakey r.registrants r.reservation held h others there is))));
    }))

-- a call that ends so leaves the registry sound
pub stays_sound : (end : PrEnd) (old new : RegistryValue) (n : Nexus) (q : PrOut)
    → HasEffect end (effect_of old n q) old new → IsSound old.registrants old.reservation
    → IsSound new.registrants new.reservation
stays_sound (Good telling) old new n q is s = effect_sound old n q new (tellings telling old.registrants) is s
stays_sound Conflict old new n q is s = subst Sound (sym is.1) s
stays_sound (Illegal sense) old new n q is s = subst Sound (sym is.2) s
