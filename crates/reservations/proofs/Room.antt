-- Room for the nexuses that a request registers.
use Rattle.std.proofs.Common.{◌≡◌, ⊎_elim, ℕ, ◌+◌, ◌-◌, ◌<◌, ◌≤◌, Bool, true, false, not, nat_eq, nat_lt, List, length}
use Rattle.std.proofs.Common.{if◌then◌else◌, refl, sym, subst, ap, ◌∙◌, arith}
use Rattle.std.proofs.Math.Dec.{leb}
use Rattle.std.proofs.lemmas.Bool.{ltb-false, ne_eqb}
use Rattle.std.proofs.lemmas.Bool.Decides.{leb_tells}
use Rattle.scsi_types.specs.Nexus.{Nexus, other_group}
use Rattle.scsi_types.specs.Sense.{insufficient_registration_resources}
use Rattle.scsi_types.specs.declared.names.Group.{Group}
use Rattle.scsi_types.specs.declared.names.Group.TheVariants.{One, Two}
use Rattle.registrants.specs.declared.registrant.Registrant.{Registrant}
use Rattle.registrants.specs.Nexus.{other_nexus, same_group, same_nexus}
use Rattle.registrants.specs.Registry.{IsAscending, RegistryValue, counted, is_registered, registered_by}
use Rattle.reservations.specs.declared.request.PrOut.{PrOut}
use Rattle.reservations.specs.Notice.{told_of}
use Rattle.reservations.specs.Table.{Done, if_ended, is_too_much, of_end, of_end_elsewhere, of_port, registering_one, registering_port, registration}
use Rattle.reservations.specs.Table.{refused_with}
use Rattle.registrants.proofs.Held.{registered_beside}
use Rattle.registrants.proofs.Listed.{ascending_registered, length_registered, missing}

two_groups : (g : Group) → same_group g (other_group g) ≡ false
two_groups One = refl
two_groups Two = refl

two_nexuses : (n : Nexus) → same_nexus n (other_nexus n) ≡ false
two_nexuses n = rw (two_groups n.group) refl

-- with both nexuses of a port there are as many more as were not registered
pub length_port : (n : Nexus) (key : ℕ) (xs : List Registrant) → IsAscending xs
    → length (registered_by (other_nexus n) key (registered_by n key xs)) ≡ length xs + (missing xs n + missing xs (other_nexus n))
length_port n key xs a =
    let one = length_registered n key xs a in
    let two = length_registered (other_nexus n) key (registered_by n key xs) (ascending_registered n key xs a) in
    let same : missing (registered_by n key xs) (other_nexus n) ≡ missing xs (other_nexus n) =
    ap (λ (b : Bool). if b then 0 else 1) (registered_beside (other_nexus n) n key xs a (two_nexuses n)) in
    omega (arith, one, two, same)

pub room_is : (len more n : ℕ) → n ≡ len + more → more ≤ 64 → leb len (64 - more) ≡ not (nat_lt 64 n)
room_is len more n is few =
    ⊎_elim
    (λ (t : (leb len (64 - more) ≡ true) × (len ≤ 64 - more)).
    ⊎_elim (λ (u : (leb 65 n ≡ true) × (65 ≤ n)). absurd (omega (arith, t.1, u.1, is, few)))
    (λ (u : (leb 65 n ≡ false) × (n < 65)). t.0 ∙ sym (ap not u.0)) (leb_tells 65 n))
    (λ (f : (leb len (64 - more) ≡ false) × (64 - more < len)).
    ⊎_elim (λ (u : (leb 65 n ≡ true) × (65 ≤ n)). f.0 ∙ sym (ap not u.0))
    (λ (u : (leb 65 n ≡ false) × (n < 65)). absurd (omega (arith, f.1, u.1, is, few))) (leb_tells 65 n))
    (leb_tells len (64 - more))

-- ---- what a registration ends in

pub not_too_much : (q : PrOut) (new : RegistryValue) → q.sakey ≡ 0 → is_too_much q new ≡ false
not_too_much q new zero = rw zero refl

-- what the code's check says
told : (a b : Bool) → b ≡ not a → a ≡ not b
told true b is = rw is refl
told false b is = rw is refl

pub told_one : (xs : List Registrant) (n : Nexus) (one : ℕ) (room more : Bool) → one ≡ missing xs n
    → room ≡ not (nat_lt 64 (length xs + one)) → room ≡ more → nat_lt 64 (length xs + missing xs n) ≡ not more
told_one xs n one room more is says there =
    ap (λ (k : ℕ). nat_lt 64 (length xs + k)) (sym is) ∙ told _ room says ∙ ap not there

pub told_port : (xs : List Registrant) (n m : Nexus) (one other : ℕ) (room more : Bool) → one ≡ missing xs n
    → other ≡ missing xs m → m ≡ other_nexus n → room ≡ not (nat_lt 64 (length xs + (one + other))) → room ≡ more
    → nat_lt 64 (length xs + (missing xs n + missing xs (other_nexus n))) ≡ not more
told_port xs n m one other room more first second is says there =
    sym (rw (first, second, is) refl) ∙ told (nat_lt 64 (length xs + (one + other))) room says ∙ ap not there

pub too_much_one : (r : RegistryValue) (n : Nexus) (q : PrOut) (much : Bool) → IsAscending r.registrants
    → (q.sakey ≡ 0 → ⊥) → nat_lt 64 (length r.registrants + missing r.registrants n) ≡ much
    → is_too_much q (registration r n q) ≡ much
too_much_one r n q much a some is =
    rw (ne_eqb q.sakey 0 some) (ap (nat_lt 64) (length_registered n q.sakey r.registrants a) ∙ is)

pub too_much_port : (r : RegistryValue) (n : Nexus) (q : PrOut) (much : Bool) → IsAscending r.registrants
    → (q.sakey ≡ 0 → ⊥)
    → nat_lt 64 (length r.registrants + (missing r.registrants n + missing r.registrants (other_nexus n))) ≡ much
    → is_too_much q (of_port r n q) ≡ much
too_much_port r n q much a some is =
    rw (ne_eqb q.sakey 0 some) (ap (nat_lt 64) (length_port n q.sakey r.registrants a) ∙ is)

pub full_one : (r : RegistryValue) (n : Nexus) (q : PrOut) → is_too_much q (registration r n q) ≡ true
    → registering_one r n q ≡ refused_with insufficient_registration_resources
full_one r n q much = rw much refl

pub full_port : (r : RegistryValue) (n : Nexus) (q : PrOut) → is_too_much q (of_port r n q) ≡ true
    → registering_port r n q ≡ refused_with insufficient_registration_resources
full_port r n q much = rw much refl

-- the value between the call that registers and the one that counts is `new`
pub done_one : (r new : RegistryValue) (n : Nexus) (q : PrOut) → new ≡ registration r n q
    → is_too_much q (registration r n q) ≡ false
    → registering_one r n q ≡ Done (counted new) (told_of n (if_ended new (of_end r.reservation)) r.registrants)
done_one r new n q is much = rw (is, much) refl

pub done_port : (r mid new : RegistryValue) (n : Nexus) (q : PrOut) → mid ≡ registration r n q
    → new ≡ registration mid (other_nexus n) q → is_too_much q (of_port r n q) ≡ false
    → registering_port r n q ≡ Done (counted new) (told_of n (if_ended new (of_end_elsewhere r.reservation)) r.registrants)
done_port r mid new n q first second much = rw (second, first, much) refl

-- ---- between the two registrations of a port

pub with_key : (r new : RegistryValue) (n : Nexus) (q : PrOut) → new ≡ registration r n q → nat_eq q.sakey 0 ≡ false
    → registered_by n q.sakey r.registrants ≡ new.registrants
with_key r new n q is some = rw (is, some) refl

pub room_second : (n m : Nexus) (key : ℕ) (xs ys : List Registrant) (capacity : ℕ) → m ≡ other_nexus n → IsAscending xs
    → nat_lt 64 (length xs + (missing xs n + missing xs (other_nexus n))) ≡ false → 64 ≤ capacity
    → registered_by n key xs ≡ ys → is_registered ys m ≡ false → length ys < capacity
room_second n m key xs ys capacity is a room enough with_it out =
    let zs = registered_by n key xs in
    let there : is_registered zs (other_nexus n) ≡ false =
    subst (λ (ws : List Registrant). is_registered ws (other_nexus n) ≡ false) (sym with_it)
    (subst (λ (o : Nexus). is_registered ys o ≡ false) is out) in
    let beside = sym (registered_beside (other_nexus n) n key xs a (two_nexuses n)) ∙ there in
    let one : missing xs (other_nexus n) ≡ 1 = rw beside refl in
    let first = length_registered n key xs a in
    let long : length zs ≡ length ys = ap (length {A = Registrant}) with_it in
    let few = ltb-false 64 (length xs + (missing xs n + missing xs (other_nexus n))) room in
    omega (arith, first, long, few, one, enough)
