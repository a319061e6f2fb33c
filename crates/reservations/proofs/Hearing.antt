-- What a nexus is told, registrant by registrant.
use Rattle.std.proofs.Common.{◌≡◌, ⊎_elim, ℕ, ◌+◌, ◌<◌, true, false, if◌then◌else◌, List, [], ◌∷◌, length, drop, get_or}
use Rattle.std.proofs.Common.{refl, sym, ◌∙◌, ap, Option, Some, None}
use Rattle.std.proofs.lemmas.Bool.{cases_Bool}
use Rattle.std.proofs.lemmas.List.{drop_more}
use Rattle.std.specs.List.{cons_option, filter_map}
use Rattle.std.specs.Option.{option_map, option_or}
use Rattle.scsi_types.specs.Nexus.{Nexus}
use Rattle.scsi_types.specs.declared.attention.UnitAttention.{UnitAttention}
use Rattle.reservations.specs.declared.notice.Notice.{Notice}
use Rattle.reservations.specs.declared.notice.Notice.TheVariants.{Nothing, ToAll, ToOtherPorts, OfPreempted}
use Rattle.reservations.specs.declared.notice.Telling.{Telling}
use Rattle.registrants.specs.declared.registrant.Registrant.{Registrant}
use Rattle.registrants.specs.Nexus.{same_nexus}
use Rattle.reservations.specs.Notice.{Told, code_of, code_told, told_as, told_of, telling_of, tellings}

-- ---- who is told what, as one list

nothing_told : (n : Nexus) (xs : List Registrant) → [] ≡ filter_map (telling_of n Nothing) xs
nothing_told n [] = refl
nothing_told n (x ∷ xs) =
    ⊎_elim (λ (t : same_nexus x.nexus n ≡ true). rw t (nothing_told n xs))
    (λ (f : same_nexus x.nexus n ≡ false). rw f (nothing_told n xs)) (cases_Bool (same_nexus x.nexus n))

pub told_are : (n : Nexus) (notice : Notice) (xs : List Registrant) → told_of n notice xs ≡ filter_map (telling_of n notice) xs
told_are n Nothing xs = nothing_told n xs
told_are n (ToAll code) xs = refl
told_are n (ToOtherPorts code) xs = refl
told_are n (OfPreempted key changed) xs = refl

-- ---- the first that is heard

abbrev pub heard_of : Nexus → Telling → Registrant → Option UnitAttention
heard_of n t x = if same_nexus x.nexus n then code_of t.sender t.notice x else None

abbrev pub first_heard : Nexus → Telling → List Registrant → Option UnitAttention
first_heard n t [] = None
first_heard n t (x ∷ xs) = option_or (heard_of n t x) (first_heard n t xs)

heard_one : (n m : Nexus) (code : Option UnitAttention) (rest : List Told)
    → code_told (cons_option (option_map (told_as m) code) rest) n
    ≡ option_or (if same_nexus m n then code else None) (code_told rest n)
heard_one n m None rest =
    ⊎_elim (λ (t : same_nexus m n ≡ true). rw t refl) (λ (f : same_nexus m n ≡ false). rw f refl)
    (cases_Bool (same_nexus m n))
heard_one n m (Some code) rest =
    ⊎_elim (λ (t : same_nexus m n ≡ true). rw t refl) (λ (f : same_nexus m n ≡ false). rw f refl)
    (cases_Bool (same_nexus m n))

first_is : (n : Nexus) (t : Telling) (xs : List Registrant)
    → code_told (filter_map (telling_of t.sender t.notice) xs) n ≡ first_heard n t xs
first_is n t [] = refl
first_is n t (x ∷ xs) =
    heard_one n x.nexus (code_of t.sender t.notice x) (filter_map (telling_of t.sender t.notice) xs)
    ∙ ap (option_or (heard_of n t x)) (first_is n t xs)

pub told_first : (n : Nexus) (t : Telling) (xs : List Registrant) → code_told (tellings t xs) n ≡ first_heard n t xs
told_first n t xs =
    ap (λ (ts : List Told). code_told ts n) (told_are t.sender t.notice xs) ∙ first_is n t xs

-- ---- a loop that looks for it

stepped : (n : Nexus) (t : Telling) (xs : List Registrant) (i : ℕ) (x : Registrant) → i < length xs → x ≡ get_or xs i x
    → first_heard n t (drop i xs) ≡ option_or (heard_of n t x) (first_heard n t (drop (i + 1) xs))
stepped n t xs i x lt is =
    ap (first_heard n t) (drop_more xs i x lt)
    ∙ ap (λ (y : Registrant). option_or (heard_of n t y) (first_heard n t (drop (i + 1) xs))) (sym is)

pub heard_later : (n : Nexus) (t : Telling) (xs : List Registrant) (i : ℕ) (x : Registrant) → i < length xs
    → x ≡ get_or xs i x → heard_of n t x ≡ None → first_heard n t xs ≡ first_heard n t (drop i xs)
    → first_heard n t xs ≡ first_heard n t (drop (i + 1) xs)
heard_later n t xs i x lt is none so_far =
    so_far ∙ stepped n t xs i x lt is ∙ ap (λ (o : Option UnitAttention). option_or o (first_heard n t (drop (i + 1) xs))) none

pub heard_here : (n : Nexus) (t : Telling) (xs : List Registrant) (i : ℕ) (x : Registrant) (code : UnitAttention)
    → i < length xs → x ≡ get_or xs i x → heard_of n t x ≡ Some code
    → first_heard n t xs ≡ first_heard n t (drop i xs) → Some code ≡ code_told (tellings t xs) n
heard_here n t xs i x code lt is one so_far =
    sym (told_first n t xs ∙ so_far ∙ stepped n t xs i x lt is
    ∙ ap (λ (o : Option UnitAttention). option_or o (first_heard n t (drop (i + 1) xs))) one)
