-- What is known of access states that a list has led to.
use Rattle.std.proofs.Common.{◌≡◌, ◌≢◌, ℕ, Bool, true, false, if◌then◌else◌, List, Option}
use Rattle.std.proofs.Common.{Some, None, Result, Ok, Err}
use Rattle.std.proofs.Common.{IsTrue, IsOkAnd, refl, sym, ◌∙◌, ap, subst, arith}
use Rattle.std.proofs.lemmas.Grind.{common_steps}
use Rattle.scsi_types.specs.Nexus.{other_group}
use Rattle.scsi_types.specs.declared.names.Group.{Group}
use Rattle.scsi_types.specs.declared.names.Group.TheVariants.{One, Two}
use Rattle.access_states.specs.declared.list.Named.{Named}
use Rattle.access_states.specs.declared.list.AsetFault.{AsetFault}
use Rattle.access_states.specs.declared.state.AccessState.{AccessState}
use Rattle.access_states.specs.declared.state.AccessState.TheVariants.{ActiveOptimized, ActiveNonOptimized, Standby, Unavailable}
use Rattle.access_states.specs.declared.state.Cause.{Cause}
use Rattle.access_states.specs.declared.state.GroupAccess.{GroupAccess}
use Rattle.access_states.specs.AccessMap.{AccessMapValue, group_access, has_one_owner, just_one_optimized, owner_of}
use Rattle.access_states.specs.Change.{access_after, after_named, altered_to, becomes_optimized, next_state, map_after, with_one_owner}
use Rattle.access_states.specs.Laws.{IsTaken, OwnsBeside, named_for}
use Rattle.access_states.specs.List.{named_by}
use Rattle.access_states.specs.State.{is_optimized, same_state}

same : (a b : AccessState) → same_state a b ≡ true → a ≡ b
same ActiveOptimized ActiveOptimized h = refl
same ActiveNonOptimized ActiveNonOptimized h = refl
same Standby Standby h = refl
same Unavailable Unavailable h = refl
same a b h = absurd (grind arith)

itself : (a : AccessState) → same_state a a ≡ true
itself ActiveOptimized = refl
itself ActiveNonOptimized = refl
itself Standby = refl
itself Unavailable = refl

-- one owner is left, and the states are those of the list
pub is_new : (map new : AccessMapValue) → with_one_owner map ≡ Ok new → (has_one_owner new ≡ true) × (map ≡ new)
is_new map new h = grind (arith, common_steps)

-- the access of a group, by whether it has the state already
abbrev pub put : Cause → GroupAccess → AccessState → Bool → GroupAccess
put cause old state has = if has then old else record { state = state; altered = Some cause }

pub altered_state : (cause : Cause) (old : GroupAccess) (state : AccessState)
    → (altered_to cause old state).state ≡ state
altered_state cause old state =
    elim (same_state state old.state) as (λ b. same_state state old.state ≡ b → (put cause old state b).state ≡ state) [
      | true ↦ λ e. sym (same state old.state e)
      | false ↦ λ e. refl
    ] refl

-- the new states, of a list that names these
taken : (cause : Cause) (old new : AccessMapValue) (bytes : List ℕ) (named : Named) → named_by bytes ≡ Ok named
    → access_after cause old bytes ≡ Ok new → with_one_owner (map_after cause old named) ≡ Ok new
unfolding access_after
taken cause old new bytes named reads h = subst (λ r. after_named cause old r ≡ Ok new) reads h

pub leads : (cause : Cause) (old new : AccessMapValue) (bytes : List ℕ) (named : Named) → IsTaken cause old bytes named new
    → map_after cause old named ≡ new
leads cause old new bytes named l =
    (is_new (map_after cause old named) new (taken cause old new bytes named l.reads l.taken)).1

-- the same, whatever the list names
pub from : (cause : Cause) (old new : AccessMapValue) (r : Result Named AsetFault) → after_named cause old r ≡ Ok new
    → (named : Named) × (map_after cause old named ≡ new) × (has_one_owner new ≡ true)
from cause old new (Ok named) h = let n = is_new (map_after cause old named) new h in (named, n.1, n.0)
from cause old new (Err fault) h = absurd (grind arith)

pub from_list : (cause : Cause) (old new : AccessMapValue) (bytes : List ℕ) → access_after cause old bytes ≡ Ok new
    → (named : Named) × (map_after cause old named ≡ new) × (has_one_owner new ≡ true)
unfolding access_after
from_list cause old new bytes h = from cause old new (named_by bytes) h

-- ---- the laws, of states that an accepted list leads to

pub obeyed : (cause : Cause) (old : AccessMapValue) (named : Named) (g : Group) (state : AccessState)
    → named_for named g ≡ Some state → (group_access (map_after cause old named) g).state ≡ state
obeyed cause old named One state h =
    altered_state cause old.one (next_state old.one.state named.one old.two.state named.two)
    ∙ ap (λ a. next_state old.one.state a old.two.state named.two) h
obeyed cause old named Two state h =
    altered_state cause old.two (next_state old.two.state named.two old.one.state named.one)
    ∙ ap (λ a. next_state old.two.state a old.one.state named.one) h

unmoved : (cause : Cause) (old : GroupAccess) → altered_to cause old old.state ≡ old
unmoved cause old = ap (put cause old old.state) (itself old.state)

altered : (cause : Cause) (old : GroupAccess) (state : AccessState) → (altered_to cause old state).state ≢ old.state
    → (altered_to cause old state).altered ≡ Some cause
altered cause old state h =
    elim (same_state state old.state) as (λ b. same_state state old.state ≡ b
    → (put cause old state b).altered ≡ Some cause) [
      | true ↦ λ e. absurd (h (altered_state cause old state ∙ same state old.state e))
      | false ↦ λ e. refl
    ] refl

kept : (cause : Cause) (old : GroupAccess) (state : AccessState) → (altered_to cause old state).state ≡ old.state
    → altered_to cause old state ≡ old
kept cause old state h =
    ap (λ s. altered_to cause old s) (sym (altered_state cause old state) ∙ h) ∙ unmoved cause old

pub altered_by : (cause : Cause) (old : AccessMapValue) (named : Named) (g : Group)
    → (group_access (map_after cause old named) g).state ≢ (group_access old g).state
    → (group_access (map_after cause old named) g).altered ≡ Some cause
altered_by cause old named One h = altered cause old.one (next_state old.one.state named.one old.two.state named.two) h
altered_by cause old named Two h = altered cause old.two (next_state old.two.state named.two old.one.state named.one) h

pub kept_as : (cause : Cause) (old : AccessMapValue) (named : Named) (g : Group)
    → (group_access (map_after cause old named) g).state ≡ (group_access old g).state
    → group_access (map_after cause old named) g ≡ group_access old g
kept_as cause old named One h = kept cause old.one (next_state old.one.state named.one old.two.state named.two) h
kept_as cause old named Two h = kept cause old.two (next_state old.two.state named.two old.one.state named.one) h

pub nothing_named : (cause : Cause) (old : AccessMapValue) → IsTrue (has_one_owner old)
    → with_one_owner (map_after cause old (record { one = None; two = None })) ≡ Ok old
nothing_named cause old h = grind (arith, common_steps, unmoved cause old.one, unmoved cause old.two, h)

-- active/non-optimized where the other becomes active/optimized, else as it was
abbrev or_less : AccessState → Bool → AccessState
or_less own b = if b then ActiveNonOptimized else own

was_not : (old : AccessState) (named : Option AccessState) → becomes_optimized old named ≡ true
    → is_optimized old ≡ false
was_not old None h = absurd (grind arith)
was_not old (Some state) h = grind (arith, common_steps)

-- one that is not named and owned the unit, where the other becomes active/optimized
owned_one : (old : AccessMapValue) (t : Option AccessState) → IsTrue (has_one_owner old)
    → becomes_optimized old.two.state t ≡ true
    → owner_of old ≡ One
owned_one old t one h = grind (arith, common_steps, one, was_not old.two.state t h)

owned_two : (old : AccessMapValue) (t : Option AccessState) → IsTrue (has_one_owner old)
    → becomes_optimized old.one.state t ≡ true
    → owner_of old ≡ Two
owned_two old t one h = grind (arith, common_steps, one, was_not old.one.state t h)

-- the access of a group that is not named, by whether the other becomes active/optimized
lost : (cause : Cause) (own : GroupAccess) (named : Option AccessState) (other : AccessState) (named_other : Option AccessState)
    → named ≡ None → becomes_optimized other named_other ≡ true
    → (altered_to cause own (next_state own.state named other named_other)).state ≡ ActiveNonOptimized
lost cause own named other named_other none e =
    altered_state cause own (next_state own.state named other named_other)
    ∙ ap (λ a. next_state own.state a other named_other) none ∙ ap (or_less own.state) e

left_alone : (cause : Cause) (own : GroupAccess) (named : Option AccessState) (other : AccessState)
    (named_other : Option AccessState) → named ≡ None → becomes_optimized other named_other ≡ false
    → altered_to cause own (next_state own.state named other named_other) ≡ own
left_alone cause own named other named_other none e =
    ap (λ a. altered_to cause own (next_state own.state a other named_other)) none
    ∙ ap (λ b. altered_to cause own (or_less own.state b)) e ∙ unmoved cause own

-- what stays and what gives way, where a group is not named
abbrev pub Stays : AccessMapValue → AccessMapValue → Group → Type 0
Stays old new g = (owner_of old ≡ g → owner_of new ≡ g) → group_access new g ≡ group_access old g

abbrev pub GivesWay : AccessMapValue → AccessMapValue → Group → Type 0
GivesWay old new g = owner_of old ≡ g → owner_of new ≢ g → (group_access new g).state ≡ ActiveNonOptimized

abbrev pub IsLeft : AccessMapValue → AccessMapValue → Group → Type 0
IsLeft old new g = Stays old new g × GivesWay old new g

-- an active/non-optimized group does not own the unit, and an owner whose access stays owns it still
no_owner : (new : AccessMapValue) (g : Group) → has_one_owner new ≡ true
    → (group_access new g).state ≡ ActiveNonOptimized → owner_of new ≢ g
no_owner new One is state owner = grind (arith, common_steps, is, state, owner)
no_owner new Two is state owner = grind (arith, common_steps, is, state, owner)

owner_still : (old new : AccessMapValue) (g : Group) → IsTrue (has_one_owner old) → has_one_owner new ≡ true
    → is_optimized (group_access new g).state ≡ is_optimized (group_access old g).state
    → owner_of old ≡ g → owner_of new ≡ g
owner_still old new One was is same owned = grind (arith, common_steps, same, owned, was, is)
owner_still old new Two was is same owned = grind (arith, common_steps, same, owned, was, is)

-- by whether the other becomes active/optimized
left_by : (old new : AccessMapValue) (g : Group) (other : Bool) → IsTrue (has_one_owner old) → has_one_owner new ≡ true
    → (other ≡ true → (owner_of old ≡ g) × ((group_access new g).state ≡ ActiveNonOptimized))
    → (other ≡ false → group_access new g ≡ group_access old g) → IsLeft old new g
left_by old new g true was is lost kept =
    let l = lost refl in (λ owner. absurd (no_owner new g is l.1 (owner l.0)), λ owned other. l.1)
left_by old new g false was is lost kept =
    let k = kept refl in
    let same = ap (λ (a : GroupAccess). is_optimized a.state) k in
    (λ owner. k, λ owned other. absurd (other (owner_still old new g was is same owned)))

pub unnamed : (cause : Cause) (old : AccessMapValue) (named : Named) (g : Group) → IsTrue (has_one_owner old)
    → has_one_owner (map_after cause old named) ≡ true → named_for named g ≡ None
    → IsLeft old (map_after cause old named) g
unnamed cause old named One was is none =
    left_by old (map_after cause old named) One (becomes_optimized old.two.state named.two) was is
    (λ e. (owned_one old named.two was e, lost cause old.one named.one old.two.state named.two none e))
    (left_alone cause old.one named.one old.two.state named.two none)
unnamed cause old named Two was is none =
    left_by old (map_after cause old named) Two (becomes_optimized old.one.state named.one) was is
    (λ e. (owned_two old named.one was e, lost cause old.two named.two old.one.state named.one none e))
    (left_alone cause old.two named.two old.one.state named.one none)

pub unnamed_of : (cause : Cause) (old new : AccessMapValue) (list : List ℕ) (named : Named) (g : Group)
    → IsTrue (has_one_owner old)
    → IsTaken cause old list named new → named_for named g ≡ None → IsLeft old new g
unnamed_of cause old new list named g was l h =
    let e = leads cause old new list named l in
    let is = (is_new (map_after cause old named) new (taken cause old new list named l.reads l.taken)).0 in
    subst (λ (m : AccessMapValue). has_one_owner m ≡ true → IsLeft old m g) e
    (λ one. unnamed cause old named g was one h) is

-- ---- moves

-- a list that names this group as active/optimized: alone, or beside the other one in this state
abbrev only : Group → Named
only One = record { one = Some ActiveOptimized; two = None }
only Two = record { one = None; two = Some ActiveOptimized }

abbrev beside : Group → AccessState → Named
beside One other = record { one = Some ActiveOptimized; two = Some other }
beside Two other = record { one = Some other; two = Some ActiveOptimized }

-- a group that is active/optimized owns the unit where the other is not
owns : (new : AccessMapValue) (g : Group) → (group_access new g).state ≡ ActiveOptimized
    → is_optimized (group_access new (other_group g)).state ≡ false → IsOkAnd (with_one_owner new) (λ m. owner_of m ≡ g)
owns new One own other = grind (arith, common_steps)
owns new Two own other = grind (arith, common_steps)

owns_beside : (new : AccessMapValue) (g : Group) (other : AccessState) → is_optimized other ≡ false
    → (group_access new g).state ≡ ActiveOptimized → (group_access new (other_group g)).state ≡ other
    → OwnsBeside (with_one_owner new) g other
owns_beside new One other way own is = grind (arith, common_steps)
owns_beside new Two other way own is = grind (arith, common_steps)

-- the other of a group that becomes active/optimized is not
given_way : (own other : AccessState) → IsTrue (just_one_optimized own other)
    → is_optimized (next_state other None own (Some ActiveOptimized)) ≡ false
given_way own other was = grind (arith, common_steps, was)

either_way : (one two : AccessState) → IsTrue (just_one_optimized one two) → IsTrue (just_one_optimized two one)
either_way one two was = grind (arith, common_steps, was)

pub moved_to : (cause : Cause) (old : AccessMapValue) (g : Group) → IsTrue (has_one_owner old)
    → IsOkAnd (with_one_owner (map_after cause old (only g))) (λ m. owner_of m ≡ g)
moved_to cause old One was =
    owns (map_after cause old (only One)) One (altered_state cause old.one ActiveOptimized)
    (ap is_optimized (altered_state cause old.two (next_state old.two.state None old.one.state (Some ActiveOptimized)))
    ∙ given_way old.one.state old.two.state was)
moved_to cause old Two was =
    owns (map_after cause old (only Two)) Two (altered_state cause old.two ActiveOptimized)
    (ap is_optimized (altered_state cause old.one (next_state old.one.state None old.two.state (Some ActiveOptimized)))
    ∙ given_way old.two.state old.one.state (either_way old.one.state old.two.state was))

-- a list that names both groups, one of them active/optimized and the other not, is taken
pub moved_beside : (cause : Cause) (old : AccessMapValue) (g : Group) (other : AccessState) → is_optimized other ≡ false
    → OwnsBeside (with_one_owner (map_after cause old (beside g other))) g other
moved_beside cause old One other way =
    owns_beside (map_after cause old (beside One other)) One other way
    (altered_state cause old.one ActiveOptimized) (altered_state cause old.two other)
moved_beside cause old Two other way =
    owns_beside (map_after cause old (beside Two other)) Two other way
    (altered_state cause old.two ActiveOptimized) (altered_state cause old.one other)
