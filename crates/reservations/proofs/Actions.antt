-- What holds of a refusal, and of what each action does, holds of each request.
use Rattle.std.proofs.Common.{◌≡◌, ⊎_elim, Bool, true, false, nat_eq, if◌then◌else◌, List, [], refl, Option, Some, None, is_some, ℕ}
use Rattle.std.proofs.lemmas.Bool.{cases_Bool}
use Rattle.scsi_types.specs.Nexus.{Nexus}
use Rattle.reservations.specs.declared.notice.Notice.{Notice}
use Rattle.reservations.specs.Notice.{Told, told_of}
use Rattle.scsi_types.specs.declared.reservation.PrOutAction.{PrOutAction}
use Rattle.scsi_types.specs.declared.reservation.PrOutAction.TheVariants.{Register, Reserve, Release, Clear}
use Rattle.scsi_types.specs.declared.reservation.PrOutAction.TheVariants.{Preempt, PreemptAndAbort}
use Rattle.scsi_types.specs.declared.reservation.PrOutAction.TheVariants.{RegisterAndIgnoreExistingKey}
use Rattle.reservations.specs.declared.request.PrOut.{PrOut}
use Rattle.registrants.specs.Registry.{RegistryValue, counted, is_key, is_registered, key_of}
use Rattle.reservations.specs.Table.{Effect, Done, Conflicting, Refused, IsPreempting, is_too_much, of_port, registration, asked_for, clearing, effect_of, effect_of_action, holds, holds_its_type, of_end}
use Rattle.reservations.specs.Table.{is_bad_reserve, is_preempting_all, is_preempting_holder, is_registering}
use Rattle.reservations.specs.Table.{names_it, names_type, preempting, preempting_all, preempting_holder, preempting_registrants}
use Rattle.reservations.specs.Table.{registering, releasing, reserving, shows_key}

pub split : {C : Type 0} (b : Bool) → (b ≡ true → C) → (b ≡ false → C) → C
split b f g = ⊎_elim f g (cases_Bool b)

-- who shows its key is registered
pub own_shown : (own : Option ℕ) (key : ℕ) → shows_key Reserve own key ≡ true → is_some own ≡ true
own_shown None key shown = absurd (cc)
own_shown (Some own) key shown = refl

own_preempting : (action : PrOutAction) (own : Option ℕ) (key : ℕ) → IsPreempting action → shows_key action own key ≡ true
    → is_some own ≡ true
own_preempting Preempt None key is shown = absurd (cc)
own_preempting Preempt (Some own) key is shown = refl
own_preempting PreemptAndAbort None key is shown = absurd (cc)
own_preempting PreemptAndAbort (Some own) key is shown = refl
own_preempting Register own key is shown = absurd is
own_preempting Reserve own key is shown = absurd is
own_preempting Release own key is shown = absurd is
own_preempting Clear own key is shown = absurd is
own_preempting RegisterAndIgnoreExistingKey own key is shown = absurd is

-- what is said of a registry that is left, and of who is told what, holds of an end
abbrev pub Ends : (RegistryValue → List Told → Type 0) → Effect → Type 0
Ends Q (Done new told) = Q new told
Ends Q Conflicting = Unit {0}
Ends Q (Refused asc ascq) = Unit {0}

-- ---- what holds of what each action does

pub record OfActions (P : Effect → Type 0) (r : RegistryValue) (n : Nexus) (q : PrOut) : Type 0 where
  pub refused : (asc ascq : ℕ) → P (Refused asc ascq)
  pub conflicting : shows_key q.action (key_of r.registrants n) q.key ≡ false → P Conflicting
  pub registers : is_registering q.action ≡ true → P (registering r n q)
  pub reserves : q.action ≡ Reserve → is_registered r.registrants n ≡ true → P (reserving r n q)
  pub releases : q.action ≡ Release → P (releasing r n q)
  pub clears : q.action ≡ Clear → P (clearing r n q)
  pub preempts : IsPreempting q.action → is_registered r.registrants n ≡ true → P (preempting r n q)

by_action : (action : PrOutAction) (P : Effect → Type 0) (r : RegistryValue) (n : Nexus) (q : PrOut) → q.action ≡ action
    → OfActions P r n q → shows_key action (key_of r.registrants n) q.key ≡ true → P (effect_of_action action r n q)
by_action Register P r n q is o shown = o.registers (rw is refl)
by_action Reserve P r n q is o shown = o.reserves is (own_shown (key_of r.registrants n) q.key shown)
by_action Release P r n q is o shown = o.releases is
by_action Clear P r n q is o shown = o.clears is
by_action Preempt P r n q is o shown =
    o.preempts (rw is tt) (own_preempting Preempt (key_of r.registrants n) q.key tt shown)
by_action PreemptAndAbort P r n q is o shown =
    o.preempts (rw is tt) (own_preempting PreemptAndAbort (key_of r.registrants n) q.key tt shown)
by_action RegisterAndIgnoreExistingKey P r n q is o shown = o.registers (rw is refl)

in_order : (P : Effect → Type 0) (a b c : Bool) (x y z w : Effect) → P x → P y → (c ≡ true → P z) → (c ≡ false → P w)
    → P (if a then x else if b then y else if c then z else w)
in_order P true b c x y z w first second third last = first
in_order P false true c x y z w first second third last = second
in_order P false false true x y z w first second third last = third refl
in_order P false false false x y z w first second third last = last refl

pub each_action : (P : Effect → Type 0) (r : RegistryValue) (n : Nexus) (q : PrOut) → OfActions P r n q
    → P (effect_of r n q)
each_action P r n q o =
    in_order P (is_bad_reserve q.action q) q.spec_i_pt (shows_key q.action (key_of r.registrants n) q.key) _ _ _ _
    (o.refused 0x24 0x00) (o.refused 0x26 0x00) (by_action q.action P r n q refl o) o.conflicting

-- ---- the same within an action

pub registers_so : (Q : RegistryValue → List Told → Type 0) (r : RegistryValue) (n : Nexus) (q : PrOut)
    → ((notice : Notice) → is_too_much q (registration r n q) ≡ false
    → Q (counted (registration r n q)) (told_of n notice r.registrants))
    → ((notice : Notice) → is_too_much q (of_port r n q) ≡ false
    → Q (counted (of_port r n q)) (told_of n notice r.registrants)) → Ends Q (registering r n q)
registers_so Q r n q one both =
    split q.all_tg_pt
    (λ all. split (is_too_much q (of_port r n q)) (λ full. rw (all, full) tt) (λ fits. rw (all, fits) (both _ fits)))
    (λ alone. split (is_too_much q (registration r n q)) (λ full. rw (alone, full) tt)
    (λ fits. rw (alone, fits) (one _ fits)))

pub reserves_so : (P : Effect → Type 0) (r : RegistryValue) (n : Nexus) (q : PrOut) → P Conflicting
    → P (Done r []) → P (Done (record r { reservation = asked_for n q }) []) → P (reserving r n q)
reserves_so P r n q conflicts again reserves =
    split (is_some r.reservation)
    (λ there. split (holds_its_type r n q) (λ same. rw (there, same) again) (λ other. rw (there, other) conflicts))
    (λ free. rw free reserves)

pub releases_so : (P : Effect → Type 0) (r : RegistryValue) (n : Nexus) (q : PrOut) → ((asc ascq : ℕ) → P (Refused asc ascq))
    → P (Done r []) → P (Done (record r { reservation = None }) (told_of n (of_end r.reservation) r.registrants))
    → P (releasing r n q)
releases_so P r n q refused nothing releases =
    split (holds r n)
    (λ held. split (names_it r q) (λ named. rw (held, named) releases) (λ other. rw (held, other) (refused 0x26 0x04)))
    (λ not_held. rw not_held nothing)

pub preempts_so : (P : Effect → Type 0) (r : RegistryValue) (n : Nexus) (q : PrOut) → ((asc ascq : ℕ) → P (Refused asc ascq))
    → P Conflicting → P (preempting_holder r n q) → (is_preempting_all r q ≡ true → P (preempting_all r n q))
    → (is_preempting_holder r q ≡ false → P (preempting_registrants r n q)) → P (preempting r n q)
preempts_so P r n q refused conflicts holder all registrants =
    split (is_preempting_holder r q)
    (λ its. split (names_type q) (λ named. rw (its, named) holder) (λ other. rw (its, other) (refused 0x24 0x00)))
    (λ others. split (is_preempting_all r q)
    (λ of_all. split (names_type q) (λ named. rw (others, of_all, named) (all of_all))
    (λ other. rw (others, of_all, other) (refused 0x24 0x00)))
    (λ one. split (nat_eq q.sakey 0) (λ zero. rw (others, one, zero) (refused 0x26 0x00))
    (λ some. split (is_key r.registrants q.sakey) (λ victims. rw (others, one, some, victims) (registrants others))
    (λ nobody. rw (others, one, some, nobody) conflicts))))
