-- Lists of conditions of which none is there twice.
use Rattle.std.proofs.Common.{◌≡◌, ℕ, zero, suc, ◌+◌, ◌<◌, ◌≤◌, true, false, List, [], ◌∷◌, ◌++◌, length}
use Rattle.std.proofs.Common.{get_or, drop, length-append, Contains, if◌then◌else◌, refl, sym, arith}
use Rattle.std.proofs.lemmas.Grind.{common_steps}
use Rattle.scsi_types.specs.declared.attention.UnitAttention.{UnitAttention}
use Rattle.scsi_types.specs.declared.attention.UnitAttention.TheVariants.{PowerOn, ReservationsPreempted}
use Rattle.scsi_types.specs.declared.attention.UnitAttention.TheVariants.{ReservationsReleased}
use Rattle.scsi_types.specs.declared.attention.UnitAttention.TheVariants.{RegistrationsPreempted}
use Rattle.scsi_types.specs.declared.attention.UnitAttention.TheVariants.{AccessStateChanged}
use Rattle.attentions.specs.Queue.{same_attention, is_pending, without_repeats, established}

pub same_self : (a : UnitAttention) → same_attention a a ≡ true
same_self PowerOn = refl
same_self ReservationsPreempted = refl
same_self ReservationsReleased = refl
same_self RegistrationsPreempted = refl
same_self AccessStateChanged = refl

pub same_is : (a b : UnitAttention) → same_attention a b ≡ true → a ≡ b
same_is PowerOn PowerOn h = refl
same_is ReservationsPreempted ReservationsPreempted h = refl
same_is ReservationsReleased ReservationsReleased h = refl
same_is RegistrationsPreempted RegistrationsPreempted h = refl
same_is AccessStateChanged AccessStateChanged h = refl
same_is a b h = absurd cc

-- how often a condition is there
abbrev times : UnitAttention → List UnitAttention → ℕ
times code [] = 0
times code (x ∷ xs) = (if same_attention code x then 1 else 0) + times code xs

absent : (code : UnitAttention) (xs : List UnitAttention) → is_pending xs code ≡ false → times code xs ≡ 0
absent code [] h = refl
absent code (x ∷ xs) h = grind (arith, absent code xs)

once : (code : UnitAttention) (xs : List UnitAttention) → without_repeats xs ≡ true → times code xs ≤ 1
once code [] h = omega arith
once code (x ∷ xs) h = grind (arith, once code xs, absent x xs, same_is code x)

-- each condition is one of the five
by_kind : (xs : List UnitAttention)
    → length xs ≡ times PowerOn xs + times ReservationsPreempted xs + times ReservationsReleased xs
    + times RegistrationsPreempted xs + times AccessStateChanged xs
by_kind [] = refl
by_kind (PowerOn ∷ xs) = omega (arith, by_kind xs)
by_kind (ReservationsPreempted ∷ xs) = omega (arith, by_kind xs)
by_kind (ReservationsReleased ∷ xs) = omega (arith, by_kind xs)
by_kind (RegistrationsPreempted ∷ xs) = omega (arith, by_kind xs)
by_kind (AccessStateChanged ∷ xs) = omega (arith, by_kind xs)

pub at_most_five : (xs : List UnitAttention) → without_repeats xs ≡ true → length xs ≤ 5
at_most_five xs h =
    let a = once PowerOn xs h in
    let b = once ReservationsPreempted xs h in
    let c = once ReservationsReleased xs h in
    let d = once RegistrationsPreempted xs h in
    let e = once AccessStateChanged xs h in
    omega (arith, by_kind xs)

room_of : (code : UnitAttention) (xs : List UnitAttention) → times code xs ≡ 0 → times PowerOn xs ≤ 1
    → times ReservationsPreempted xs ≤ 1
    → times ReservationsReleased xs ≤ 1 → times RegistrationsPreempted xs ≤ 1 → times AccessStateChanged xs ≤ 1
    → length xs < 5
room_of PowerOn xs z a b c d e = omega (arith, by_kind xs)
room_of ReservationsPreempted xs z a b c d e = omega (arith, by_kind xs)
room_of ReservationsReleased xs z a b c d e = omega (arith, by_kind xs)
room_of RegistrationsPreempted xs z a b c d e = omega (arith, by_kind xs)
room_of AccessStateChanged xs z a b c d e = omega (arith, by_kind xs)

-- a condition that does not wait has room
pub room : (code : UnitAttention) (xs : List UnitAttention) → without_repeats xs ≡ true → is_pending xs code ≡ false
    → length xs < 5
room code xs h fresh =
    room_of code xs (absent code xs fresh) (once PowerOn xs h) (once ReservationsPreempted xs h)
    (once ReservationsReleased xs h) (once RegistrationsPreempted xs h) (once AccessStateChanged xs h)

same_either_way : (a b : UnitAttention) → same_attention a b ≡ false → same_attention b a ≡ false
same_either_way PowerOn PowerOn h = h
same_either_way ReservationsPreempted ReservationsPreempted h = h
same_either_way ReservationsReleased ReservationsReleased h = h
same_either_way RegistrationsPreempted RegistrationsPreempted h = h
same_either_way AccessStateChanged AccessStateChanged h = h
same_either_way a b h = refl

not_behind : (x code : UnitAttention) (xs : List UnitAttention) → is_pending xs x ≡ false → same_attention x code ≡ false
    → is_pending (xs ++ code ∷ []) x ≡ false
not_behind x code [] h k = grind (arith, k)
not_behind x code (y ∷ ys) h k = grind (arith, not_behind x code ys, k)

-- one more at the end
pub one_more : (code : UnitAttention) (xs : List UnitAttention) → without_repeats xs ≡ true
    → is_pending xs code ≡ false → without_repeats (xs ++ code ∷ []) ≡ true
one_more code [] h fresh = refl
one_more code (x ∷ xs) h fresh = grind (arith, one_more code xs, not_behind x code xs, same_either_way code x)

pub kept : (xs : List UnitAttention) (code : UnitAttention) → without_repeats xs ≡ true
    → without_repeats (established xs code) ≡ true
kept xs code h = grind (arith, one_more code xs)

-- the first goes
pub rest : (x : UnitAttention) (xs : List UnitAttention) → without_repeats (x ∷ xs) ≡ true → without_repeats xs ≡ true
rest x xs h = grind arith

not_there : (x : UnitAttention) (xs : List UnitAttention) (k : ℕ) (d : UnitAttention) → is_pending xs x ≡ false
    → k < length xs → x ≡ get_or xs k d → ⊥
not_there x [] k d h lt e = absurd (omega arith)
not_there x (y ∷ ys) zero d h lt e = grind (arith, same_self x)
not_there x (y ∷ ys) (suc k) d h lt e = not_there x ys k d (grind arith) (omega arith) e

pub apart : (xs : List UnitAttention) → without_repeats xs ≡ true → (i j : ℕ) (d : UnitAttention) → i < j
    → j < length xs → get_or xs i d ≡ get_or xs j d → ⊥
apart [] h i j d lt lj e = absurd (omega arith)
apart (x ∷ xs) h i zero d lt lj e = absurd (omega arith)
apart (x ∷ xs) h zero (suc j) d lt lj e = not_there x xs j d (grind arith) (omega arith) e
apart (x ∷ xs) h (suc i) (suc j) d lt lj e = apart xs (rest x xs h) i j d (omega arith) (omega arith) e

there : (xs : List UnitAttention) (code : UnitAttention) → is_pending xs code ≡ true → Contains xs code
there [] code h = absurd cc
there (x ∷ xs) code h = elim (same_attention code x) as (λ b. same_attention code x ≡ b → Contains (x ∷ xs) code) [
  | true ↦ λ e. (0, omega arith, sym (same_is code x e))
  | false ↦ λ e. let later = there xs code (grind arith) in (suc later.0, omega arith, later.2)
] refl

pub waits : (xs : List UnitAttention) (code : UnitAttention) → Contains (established xs code) code
waits xs code = elim (is_pending xs code) as (λ b. is_pending xs code ≡ b
    → Contains (if b then xs else xs ++ code ∷ []) code) [
      | true ↦ λ e. there xs code e
      | false ↦ λ e. (length xs, grind (arith, length-append xs (code ∷ [])), grind (arith, common_steps))
    ] refl

pub rest_of : (xs : List UnitAttention) → without_repeats xs ≡ true → without_repeats (drop 1 xs) ≡ true
rest_of [] h = refl
rest_of (x ∷ xs) h = rest x xs h

pub goes_behind : (xs : List UnitAttention) (code : UnitAttention) → is_pending xs code ≡ false
    → xs ++ code ∷ [] ≡ established xs code
goes_behind xs code h = grind (arith, h)
