-- Where runs of bytes differ first, and where they do not.
use Rattle.std.proofs.Common.{◌≡◌, ◌≢◌, ⊎_elim, MatchOption, ℕ, zero, suc, ◌-◌, ◌<◌, true, false, nat_eq}
use Rattle.std.proofs.Common.{List, [], ◌∷◌, length, get_or, Option, Some, None, refl, sym, arith}
use Rattle.std.proofs.lemmas.Bool.Decides.{eqb_tells, nat_tests}
use Rattle.std.proofs.lemmas.Grind.{common_steps}
use Rattle.compare_write.specs.Difference.{first_difference}

at_once : (x y : ℕ) (xs ys : List ℕ) → x ≢ y → first_difference (x ∷ xs) (y ∷ ys) ≡ Some 0
at_once x y xs ys ne = grind (arith, common_steps, nat_tests)

none_behind : (x y : ℕ) (xs ys : List ℕ) → first_difference (x ∷ xs) (y ∷ ys) ≡ None
    → (x ≡ y) × (first_difference xs ys ≡ None)
none_behind x y xs ys h = (grind (arith, common_steps, nat_tests), grind (arith, common_steps, nat_tests))

some_behind : (x y : ℕ) (xs ys : List ℕ) (at : ℕ) → x ≡ y → first_difference (x ∷ xs) (y ∷ ys) ≡ Some at
    → (at ≡ suc (at - 1)) × (first_difference xs ys ≡ Some (at - 1))
some_behind x y xs ys at e h = (grind (arith, common_steps, nat_tests), grind (arith, common_steps, nat_tests))

some_at_once : (x y : ℕ) (xs ys : List ℕ) (at : ℕ) → x ≢ y → first_difference (x ∷ xs) (y ∷ ys) ≡ Some at → at ≡ 0
some_at_once x y xs ys at ne h = grind (arith, common_steps, nat_tests)

-- runs of one length that differ nowhere are equal
pub none_differs : (xs ys : List ℕ) → length xs ≡ length ys → first_difference xs ys ≡ None → xs ≡ ys
none_differs [] [] long h = refl
none_differs [] (y ∷ ys) long h = absurd (omega arith)
none_differs (x ∷ xs) [] long h = absurd (omega arith)
none_differs (x ∷ xs) (y ∷ ys) long h =
    let back = none_behind x y xs ys h in
    let tail : xs ≡ ys = none_differs xs ys (omega arith) back.1 in
    let head : x ≡ y = back.0 in
    cc

-- equal runs differ nowhere
pub differs_nowhere : (xs : List ℕ) → first_difference xs xs ≡ None
differs_nowhere [] = refl
differs_nowhere (x ∷ xs) = let rest = differs_nowhere xs in grind (arith, common_steps, nat_tests)

-- at the first difference the runs differ, and before it they agree
pub within_both : (xs ys : List ℕ) (at : ℕ) → first_difference xs ys ≡ Some at → (at < length xs) × (at < length ys)
within_both [] ys at h = absurd (cc)
within_both (x ∷ xs) [] at h = absurd (cc)
within_both (x ∷ xs) (y ∷ ys) at h =
    ⊎_elim
    (λ (t : (nat_eq x y ≡ true) × (x ≡ y)).
    let back = some_behind x y xs ys at t.1 h in let inner = within_both xs ys (at - 1) back.1 in
    let one = back.0 in let left = inner.0 in let right = inner.1 in (omega arith, omega arith))
    (λ (f : (nat_eq x y ≡ false) × (x ≢ y)). let here = some_at_once x y xs ys at f.1 h in (omega arith, omega arith))
    (eqb_tells x y)

pub differs_at : (xs ys : List ℕ) (at : ℕ) → first_difference xs ys ≡ Some at → get_or xs at 0 ≢ get_or ys at 0
differs_at [] ys at h = absurd (cc)
differs_at (x ∷ xs) [] at h = absurd (cc)
differs_at (x ∷ xs) (y ∷ ys) at h =
    ⊎_elim
    (λ (t : (nat_eq x y ≡ true) × (x ≡ y)).
    let back = some_behind x y xs ys at t.1 h in rw back.0 (differs_at xs ys (at - 1) back.1))
    (λ (f : (nat_eq x y ≡ false) × (x ≢ y)). let here = some_at_once x y xs ys at f.1 h in rw here f.1)
    (eqb_tells x y)

pub agrees_before : (xs ys : List ℕ) (at : ℕ) → first_difference xs ys ≡ Some at → (k : ℕ) → k < at
    → get_or xs k 0 ≡ get_or ys k 0
agrees_before [] ys at h k lt = absurd (cc)
agrees_before (x ∷ xs) [] at h k lt = absurd (cc)
agrees_before (x ∷ xs) (y ∷ ys) at h zero lt =
    ⊎_elim (λ (t : (nat_eq x y ≡ true) × (x ≡ y)). t.1)
    (λ (f : (nat_eq x y ≡ false) × (x ≢ y)). let here = some_at_once x y xs ys at f.1 h in absurd (omega arith))
    (eqb_tells x y)
agrees_before (x ∷ xs) (y ∷ ys) at h (suc k) lt =
    ⊎_elim
    (λ (t : (nat_eq x y ≡ true) × (x ≡ y)).
    let back =
    some_behind x y xs ys at t.1 h in let one = back.0 in agrees_before xs ys (at - 1) back.1 k (omega arith))
    (λ (f : (nat_eq x y ≡ false) × (x ≢ y)). let here = some_at_once x y xs ys at f.1 h in absurd (omega arith))
    (eqb_tells x y)
