-- The place of a session among those that are attached.
use Rattle.std.proofs.Common.{◌≡◌, ◌≢◌, ⊎_elim, ℕ, zero, suc, ◌+◌, ◌<◌, ◌≤◌, true, false, not, List, []}
use Rattle.std.proofs.Common.{◌∷◌, ◌++◌, length, length-set, get_or, set, take, drop, map, refl, sym, ◌∙◌, ap}
use Rattle.std.proofs.Common.{arith, add-one, Some, None, Option, IfSome, IsSome, All, nat_eq, eq-eqb}
use Rattle.std.proofs.Common.{slice_get}
use Rattle.std.specs.Option.{option_map}
use Rattle.std.proofs.lemmas.Bool.Decides.{eqb_tells}
use Rattle.std.proofs.lemmas.Grind.{common_steps}
use Rattle.std.proofs.lemmas.List.{take_more, set-set, take-set, take-map, get_or-map, length-map}
use Rattle.std.proofs.lemmas.Option.{get_or_from_slice_get}
use Rattle.std.proofs.lemmas.List.Elements.{All-filter, All-map, All-push}
use Rattle.std.proofs.lemmas.List.Filters.{length-filter_both}
use Rattle.scsi_types.specs.Nexus.{Nexus}
use Rattle.unit_control.specs.declared.sessions.Attached.{Attached}
use Rattle.reservations.specs.Notice.{Told}
use Rattle.unit_control.specs.Sessions.{HasCountedSerial, is_of, session_of, changed, ended}
use Rattle.unit_control.specs.Sessions.{reset_established, all_reset, without}
use Rattle.unit_control.specs.Groups.{hear_change}
use Rattle.unit_control.specs.Reserve.{all_heard, hear}
use Rattle.unit_control.specs.Places.{IsChangedAt, IsPlaceOf}

absent_append : (xs ys : List Attached) (id : ℕ) → session_of xs id ≡ None → session_of ys id ≡ None
    → session_of (xs ++ ys) id ≡ None
absent_append [] ys id none_x none_y = none_y
absent_append (x ∷ xs) ys id none_x none_y =
    ⊎_elim (λ (t : (nat_eq x.id id ≡ true) × (x.id ≡ id)). absurd (let b = rw t.0 at none_x in cc))
    (λ (f : (nat_eq x.id id ≡ false) × (x.id ≢ id)). rw f.0 (absent_append xs ys id (rw f.0 at none_x) none_y))
    (eqb_tells x.id id)

absent_one : (a : Attached) (id : ℕ) → (a.id ≡ id → ⊥) → session_of (a ∷ []) id ≡ None
absent_one a id other =
    ⊎_elim (λ (t : (nat_eq a.id id ≡ true) × (a.id ≡ id)). absurd (other t.1))
    (λ (f : (nat_eq a.id id ≡ false) × (a.id ≢ id)). rw f.0 refl) (eqb_tells a.id id)

-- the session is not among the first ones, and not the one behind them
pub absent_more : (sessions : List Attached) (id k : ℕ) (a : Attached) → a ≡ get_or sessions k a → k < length sessions
    → (a.id ≡ id → ⊥) → session_of (take k sessions) id ≡ None → session_of (take (k + 1) sessions) id ≡ None
absent_more sessions id k a is lt other none =
    rw (take_more sessions k a lt)
    (absent_append (take k sessions) (get_or sessions k a ∷ []) id none (rw (← is) (absent_one a id other)))

-- one place further back
behind : (f : Attached → Attached) (x : Attached) (xs : List Attached) (id k : ℕ) (o : Option Attached)
    → IfSome o (λ a. changed f xs id ≡ set xs k (f a)) → IfSome o (λ a. x ∷ changed f xs id ≡ x ∷ set xs k (f a))
behind f x xs id k None h = tt
behind f x xs id k (Some a) h = ap (λ (ss : List Attached). x ∷ ss) h

-- the session is at this place, and not before it
pub is_place : (sessions : List Attached) (id k : ℕ) (a : Attached) → a ≡ get_or sessions k a → k < length sessions
    → a.id ≡ id → session_of (take k sessions) id ≡ None → IsPlaceOf sessions id k
is_place [] id k a is lt same none = absurd (omega arith)
is_place (x ∷ xs) id zero a is lt same none =
    let here : x.id ≡ id = ap (λ (a : Attached). a.id) (sym is) ∙ same in
    let test : nat_eq x.id id ≡ true = eq-eqb x.id id here in
    record { below = lt; there = refl; first = none; found = rw test refl; changes = λ f. rw test refl }
is_place (x ∷ xs) id (suc k) a is lt same none =
    ⊎_elim (λ (t : (nat_eq x.id id ≡ true) × (x.id ≡ id)). absurd (let b = rw t.0 at none in cc))
    (λ (f : (nat_eq x.id id ≡ false) × (x.id ≢ id)).
    let rest = is_place xs id k a is (omega arith) same (rw f.0 at none) in
    record {
      below = lt;
      there = rest.there;
      first = none;
      found = rw f.0 rest.found;
      changes = λ g. rw f.0 (behind g x xs id k (slice_get xs k) (rest.changes g));
    })
    (eqb_tells x.id id)

joined : (f : Attached → Attached) (xs ys zs : List Attached) (k : ℕ) (o : Option Attached) → IsSome o
    → IfSome o (λ a. ys ≡ set xs k (f a)) → IfSome o (λ a. zs ≡ set xs k (f a)) → zs ≡ ys
joined f xs ys zs k None there a b = absurd (cc)
joined f xs ys zs k (Some s) there a b = b ∙ sym a

-- the session at its place changed so
pub changed_at : (f : Attached → Attached) (sessions new : List Attached) (id k : ℕ) → IsPlaceOf sessions id k
    → IsChangedAt f sessions k new → new ≡ changed f sessions id
changed_at f sessions new id k place is =
    joined f sessions (changed f sessions id) new k (slice_get sessions k) place.there (place.changes f) is

-- what a change that keeps ids leaves of a session
pub session_changed : (f : Attached → Attached) → ((a : Attached) → (f a).id ≡ a.id)
    → (sessions : List Attached) (id : ℕ)
    → session_of (changed f sessions id) id ≡ option_map f (session_of sessions id)
session_changed f keeps [] id = refl
session_changed f keeps (x ∷ xs) id =
    ⊎_elim (λ (t : (nat_eq x.id id ≡ true) × (x.id ≡ id)). rw t.0 (rw (keeps x) (rw t.0 refl)))
    (λ (n : (nat_eq x.id id ≡ false) × (x.id ≢ id)). rw n.0 (rw n.0 (session_changed f keeps xs id)))
    (eqb_tells x.id id)

-- two changes of one session
changed_twice : (f g : Attached → Attached) → ((a : Attached) → (f a).id ≡ a.id) → (sessions : List Attached) (id : ℕ)
    → changed g (changed f sessions id) id ≡ changed (λ a. g (f a)) sessions id
changed_twice f g keeps [] id = refl
changed_twice f g keeps (x ∷ xs) id =
    ⊎_elim (λ (t : (nat_eq x.id id ≡ true) × (x.id ≡ id)). rw t.0 (rw (keeps x) (rw t.0 refl)))
    (λ (n : (nat_eq x.id id ≡ false)
    × (x.id ≢ id)). rw n.0 (rw n.0 (ap (λ (ss : List Attached). x ∷ ss) (changed_twice f g keeps xs id))))
    (eqb_tells x.id id)

got_set : (xs : List Attached) (k : ℕ) (a : Attached) → k < length xs → slice_get (set xs k a) k ≡ Some a
got_set [] k a lt = absurd (omega arith)
got_set (x ∷ xs) zero a lt = refl
got_set (x ∷ xs) (suc k) a lt = got_set xs k a (omega arith)

stays_with : (f : Attached → Attached) → ((a : Attached) → (f a).id ≡ a.id)
    → (xs new : List Attached) (id k : ℕ) (o : Option Attached) → IsSome o → k < length xs
    → session_of (take k xs) id ≡ None → session_of xs id ≡ o
    → ((g : Attached → Attached) → IfSome o (λ a. changed g xs id ≡ set xs k (g a))) → new ≡ changed f xs id
    → IsPlaceOf new id k
stays_with f keeps xs new id k None there lt first found changes is = absurd (cc)
stays_with f keeps xs new id k (Some a) there lt first found changes is =
    let here : new ≡ set xs k (f a) = is ∙ changes f in
    let got : slice_get new k ≡ Some (f a) = ap (λ (ss : List Attached). slice_get ss k) here ∙ got_set xs k (f a) lt in
    record {
      below = omega (arith, ap length here, length-set xs k (f a));
      there = rw got refl;
      first =
          ap (λ (ss : List Attached). session_of (take k ss) id) here ∙ ap (λ (ss : List Attached). session_of ss id)
          (take-set xs k (f a)) ∙ first;
      found = ap (λ (ss : List Attached). session_of ss id) is ∙ session_changed f keeps xs id
          ∙ ap (option_map f) found ∙ sym got;
      changes = λ g. rw got (ap (λ (ss : List Attached). changed g ss id) is ∙ changed_twice f g keeps xs id
          ∙ changes (λ b. g (f b)) ∙ sym (ap (λ (ss : List Attached). set ss k (g (f a))) here
          ∙ set-set xs k (f a) (g (f a))));
    }

-- a session stays at its place where its id stays
pub place_stays : (f : Attached → Attached) → ((a : Attached) → (f a).id ≡ a.id)
    → (sessions new : List Attached) (id k : ℕ) → IsPlaceOf sessions id k → new ≡ changed f sessions id
    → IsPlaceOf new id k
place_stays f keeps sessions new id k place is =
    stays_with f keeps sessions new id k (slice_get sessions k) place.there place.below place.first place.found
    place.changes is

-- ---- changes of all sessions that keep their ids

pub session_mapped : (f : Attached → Attached) → ((a : Attached) → (f a).id ≡ a.id)
    → (sessions : List Attached) (id : ℕ) → session_of (map f sessions) id ≡ option_map f (session_of sessions id)
session_mapped f keeps [] id = refl
session_mapped f keeps (x ∷ xs) id =
    ⊎_elim
    (λ (t : (nat_eq x.id id ≡ true) × (x.id ≡ id)).
    let test : nat_eq (f x).id id ≡ true = ap (λ (i : ℕ). nat_eq i id) (keeps x) ∙ t.0 in
    rw (t.0, test) refl)
    (λ (n : (nat_eq x.id id ≡ false) × (x.id ≢ id)).
    let test : nat_eq (f x).id id ≡ false = ap (λ (i : ℕ). nat_eq i id) (keeps x) ∙ n.0 in
    rw (n.0, test) (session_mapped f keeps xs id))
    (eqb_tells x.id id)

-- the session of an id has it
pub has_id : (sessions : List Attached) (id : ℕ) (a : Attached) → session_of sessions id ≡ Some a → a.id ≡ id
has_id [] id a h = absurd (cc)
has_id (x ∷ xs) id a h =
    ⊎_elim (λ (t : (nat_eq x.id id ≡ true) × (x.id ≡ id)). let e : Some x ≡ Some a = rw t.0 at h in let is : x ≡ a =
    cc in rw (sym is) t.1)
    (λ (n : (nat_eq x.id id ≡ false) × (x.id ≢ id)). has_id xs id a (rw n.0 at h))
    (eqb_tells x.id id)

mapped_with : (f : Attached → Attached) → ((a : Attached) → (f a).id ≡ a.id)
    → (xs : List Attached) (id k : ℕ) (o : Option Attached) → IsSome o → slice_get xs k ≡ o → k < length xs
    → session_of (take k xs) id ≡ None → session_of xs id ≡ o → IsPlaceOf (map f xs) id k
mapped_with f keeps xs id k None there at lt first found = absurd (cc)
mapped_with f keeps xs id k (Some a) there at lt first found =
    let here : f a ≡ get_or (map f xs) k (f a) =
    sym (get_or-map f xs k a (f a) lt ∙ ap f (get_or_from_slice_get xs k a a at)) in
    let before : session_of (take k (map f xs)) id ≡ None =
    ap (λ (ss : List Attached). session_of ss id) (take-map f k xs) ∙ session_mapped f keeps (take k xs) id
    ∙ ap (option_map f) first in
    is_place (map f xs) id k (f a) here (omega (arith, length-map xs f)) (keeps a ∙ has_id xs id a found) before

pub place_mapped : (f : Attached → Attached) → ((a : Attached) → (f a).id ≡ a.id)
    → (sessions : List Attached) (id k : ℕ) → IsPlaceOf sessions id k → IsPlaceOf (map f sessions) id k
place_mapped f keeps sessions id k place =
    mapped_with f keeps sessions id k (slice_get sessions k) place.there refl place.below place.first place.found

-- no more sessions stay than there are
pub fewer : (nexus : Nexus) (sessions : List Attached) → length (without nexus sessions) ≤ length sessions
fewer nexus sessions = omega
    (arith, length-filter_both (λ a. not (is_of nexus a)) (λ a. not (not (is_of nexus a))) (λ a. refl) sessions)

-- no serial passes the count
fit_later : (count : ℕ) (a : Attached) → HasCountedSerial count a → HasCountedSerial (count + 1) a
fit_later count a h = omega (arith, h)

pub serials_fit : (nexus : Nexus) (sessions : List Attached) (count : ℕ) (new : Attached) → new.next ≡ 1
    → All (HasCountedSerial count) sessions → All (HasCountedSerial (count + 1)) (without nexus sessions ++ new ∷ [])
serials_fit nexus sessions count new first fit =
    All-push (HasCountedSerial (count + 1)) (without nexus sessions) new
    (All-filter (λ a. not (is_of nexus a)) (HasCountedSerial (count + 1)) sessions
    (λ k d lt. fit_later count (get_or sessions k d) (fit k d lt)))
    (omega (arith, first))

pub serials_fit_ended : (id : ℕ) (sessions : List Attached) (count : ℕ) → All (HasCountedSerial count) sessions
    → All (HasCountedSerial (count + 1)) (ended sessions id)
serials_fit_ended id sessions count fit =
    All-filter (λ a. not (nat_eq a.id id)) (HasCountedSerial (count + 1)) sessions
    (λ k d lt. fit_later count (get_or sessions k d) (fit k d lt))

reset_keeps_fit : (id count : ℕ) (a : Attached) → HasCountedSerial count a → HasCountedSerial (count + 1) (reset_established id a)
reset_keeps_fit id count a h =
    let later = fit_later count a h in
    ⊎_elim (λ (t : (nat_eq a.id id ≡ true) × (a.id ≡ id)). rw t.0 later)
    (λ (n : (nat_eq a.id id ≡ false) × (a.id ≢ id)). rw n.0 later)
    (eqb_tells a.id id)

pub serials_fit_heard : (told : List Told) (sessions : List Attached) (count : ℕ) → All (HasCountedSerial count) sessions
    → All (HasCountedSerial count) (all_heard told sessions)
serials_fit_heard told sessions count fit =
    All-map (HasCountedSerial count) (hear told) sessions (λ k d lt. fit k d lt)

change_keeps_fit : (by_session : Option ℕ) (count : ℕ) (a : Attached) → HasCountedSerial count a
    → HasCountedSerial count (hear_change by_session a)
change_keeps_fit None count a h = h
change_keeps_fit (Some id) count a h =
    ⊎_elim (λ (t : (nat_eq a.id id ≡ true) × (a.id ≡ id)). rw t.0 h)
    (λ (n : (nat_eq a.id id ≡ false) × (a.id ≢ id)). rw n.0 h)
    (eqb_tells a.id id)

pub serials_fit_changed : (by_session : Option ℕ) (sessions : List Attached) (count : ℕ) → All (HasCountedSerial count) sessions
    → All (HasCountedSerial count) (map (hear_change by_session) sessions)
serials_fit_changed by_session sessions count fit =
    All-map (HasCountedSerial count) (hear_change by_session) sessions
    (λ k d lt. change_keeps_fit by_session count (get_or sessions k d) (fit k d lt))

pub serials_fit_reset : (id : ℕ) (sessions : List Attached) (count : ℕ) → All (HasCountedSerial count) sessions
    → All (HasCountedSerial (count + 1)) (all_reset sessions id)
serials_fit_reset id sessions count fit =
    All-map (HasCountedSerial (count + 1)) (reset_established id) sessions
    (λ k d lt. reset_keeps_fit id count (get_or sessions k d) (fit k d lt))

-- ---- a change of all, one by one

-- the one at an index changed, behind those before it
one_changed : (f : Attached → Attached) (xs : List Attached) (k : ℕ) (x : Attached) → k < length xs
    → x ≡ get_or (map f (take k xs) ++ drop k xs) k x
    → set (map f (take k xs) ++ drop k xs) k (f x) ≡ map f (take (suc k) xs) ++ drop (suc k) xs
one_changed f [] k x lt is = absurd (omega arith)
one_changed f (y ∷ ys) zero x lt is = rw (sym is) refl
one_changed f (y ∷ ys) (suc k) x lt is = ap (λ (ss : List Attached). f y ∷ ss) (one_changed f ys k x (omega arith) is)

pub next_changed : (f : Attached → Attached) (xs items : List Attached) (k : ℕ) (x : Attached)
    → items ≡ map f (take k xs) ++ drop k xs → k < length xs → x ≡ get_or items k x
    → set items k (f x) ≡ map f (take (k + 1) xs) ++ drop (k + 1) xs
next_changed f xs items k x so_far lt is =
    let here : x ≡ get_or (map f (take k xs) ++ drop k xs) k x = is ∙ ap (λ (ss : List Attached). get_or ss k x) so_far in
    rw add-one (ap (λ (ss : List Attached). set ss k (f x)) so_far ∙ one_changed f xs k x lt here)

pub all_changed : (f : Attached → Attached) (xs : List Attached) (k : ℕ) → length xs ≤ k
    → map f (take k xs) ++ drop k xs ≡ map f xs
all_changed f [] zero le = refl
all_changed f [] (suc k) le = refl
all_changed f (y ∷ ys) zero le = absurd (omega arith)
all_changed f (y ∷ ys) (suc k) le = ap (λ (ss : List Attached). f y ∷ ss) (all_changed f ys k (omega arith))

front : (xs ys : List Attached) (n : ℕ) → length xs ≡ n → take n (xs ++ ys) ≡ xs
front xs ys n long = grind (arith, common_steps)

-- the whole vector, written back
pub written_back : (f : Attached → Attached) (old now items : List Attached) (n k : ℕ) → now ≡ old → length now ≡ n
    → items ≡ map f (take k now) ++ drop k now → length items ≡ length now → length now ≤ k
    → take n (items ++ drop (length items) old) ≡ map f old
written_back f old now items n k same long so_far kept le =
    front items (drop (length items) old) n (kept ∙ long) ∙ so_far ∙ all_changed f now k le ∙ ap (map f) same
