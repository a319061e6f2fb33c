-- A list with one element more, or with one place written.
use Rattle.std.proofs.Common.{◌≡◌, ◌≢◌, ◌⊎◌, inl, inr, ⊎_elim, ℕ, zero, suc, ◌+◌, List, [], ◌∷◌, ◌++◌, length, Option}
use Rattle.std.proofs.Common.{Some, true, false, nat_eq, refl, sym, ap, arith, ◌∙◌, length-append}
use Rattle.std.proofs.lemmas.Bool.Decides.{eqb_tells}
use Rattle.std.specs.Prelude.{slice_get, slice_set}

module _ {X : Type 0} where
  pub get_last : (xs : List X) (e : X) → slice_get (xs ++ e ∷ []) (length xs) ≡ Some e
  get_last [] e = refl
  get_last (x ∷ xs) e = get_last xs e

  pub get_kept : (xs : List X) (e : X) (n : ℕ) (a : X) → slice_get xs n ≡ Some a → slice_get (xs ++ e ∷ []) n ≡ Some a
  get_kept [] e n a is = absurd (cc)
  get_kept (x ∷ xs) e zero a is = is
  get_kept (x ∷ xs) e (suc n) a is = get_kept xs e n a is

  pub some_same : (a b : X) → (let o : Option X = Some a in o) ≡ Some b → a ≡ b
  some_same a b is = cc

  pub get_pushed : (xs : List X) (e : X) (n : ℕ) (a : X) → slice_get (xs ++ e ∷ []) n ≡ Some a
      → (slice_get xs n ≡ Some a) ⊎ ((n ≡ length xs) × (e ≡ a))
  get_pushed [] e zero a is = inr (refl, some_same e a is)
  get_pushed [] e (suc n) a is = absurd (cc)
  get_pushed (x ∷ xs) e zero a is = inl is
  get_pushed (x ∷ xs) e (suc n) a is =
      ⊎_elim (λ (o : slice_get xs n ≡ Some a). inl o)
      (λ (t : (n ≡ length xs) × (e ≡ a)). inr (let m = t.0 in omega arith, t.1)) (get_pushed xs e n a is)

  pub get_written : (xs : List X) (n : ℕ) (x a : X) → slice_get xs n ≡ Some a → slice_get (slice_set xs n x) n ≡ Some x
  get_written [] n x a is = absurd (cc)
  get_written (y ∷ xs) zero x a is = refl
  get_written (y ∷ xs) (suc n) x a is = get_written xs n x a is

  pub get_other : (xs : List X) (n m : ℕ) (x : X) → n ≢ m → slice_get (slice_set xs n x) m ≡ slice_get xs m
  get_other [] n m x other = refl
  get_other (y ∷ xs) zero zero x other = absurd (other refl)
  get_other (y ∷ xs) zero (suc m) x other = refl
  get_other (y ∷ xs) (suc n) zero x other = refl
  get_other (y ∷ xs) (suc n) (suc m) x other = get_other xs n m x (λ (is : n ≡ m). other (ap (λ (k : ℕ). suc k) is))

  -- what stands in a list in which one place was written
  pub get_set : (xs : List X) (n m : ℕ) (x a y : X) → slice_get xs n ≡ Some a → slice_get (slice_set xs n x) m ≡ Some y
      → ((n ≡ m) × (x ≡ y)) ⊎ ((n ≢ m) × (slice_get xs m ≡ Some y))
  get_set xs n m x a y there is =
      ⊎_elim
      (λ (t : (nat_eq n m ≡ true) × (n ≡ m)). inl (
        t.1,
        some_same x y (sym (get_written xs n x a there)
            ∙ (ap (λ (k : ℕ). slice_get (slice_set xs n x) k) t.1 ∙ is)),
      ))
      (λ (f : (nat_eq n m ≡ false) × (n ≢ m)). inr (f.1, sym (get_other xs n m x f.1) ∙ is)) (eqb_tells n m)

  pub longer : (xs : List X) (e : X) → length (xs ++ e ∷ []) ≡ length xs + 1
  longer xs e = length-append xs (e ∷ [])

  pub set_same : (xs : List X) (n : ℕ) (a : X) → slice_get xs n ≡ Some a → slice_set xs n a ≡ xs
  set_same [] n a is = refl
  set_same (x ∷ xs) zero a is = ap (λ (y : X). y ∷ xs) (some_same a x (sym is))
  set_same (x ∷ xs) (suc n) a is = ap (λ (ys : List X). x ∷ ys) (set_same xs n a is)
