-- Moves in the places where they are kept.
use Rattle.std.proofs.Common.{◌≡◌, ◌<◌, ℕ, zero, suc, List, [], ◌∷◌, ◌++◌, length, Option, Some, None}
use Rattle.std.proofs.Common.{refl, arith, ap, sym, ◌∙◌}
use Rattle.std.specs.Prelude.{slice_set}
use Rattle.failover.specs.Mover.{AreFirst, kept_in}

module _ {X : Type 0} where
  -- where nothing is kept, no place behind an empty one is taken
  pub none_first : (xs : List (Option X)) → kept_in xs ≡ [] → AreFirst xs
  none_first [] none = tt
  none_first (None ∷ xs) none = none
  none_first (Some x ∷ xs) none = absurd (cc)

  -- one more goes to the first place that is empty, behind all others
  pub one_more : (xs : List (Option X)) (n : ℕ) (x : X) → AreFirst xs → n ≡ length (kept_in xs) → n < length xs
      → (kept_in (slice_set xs n (Some x)) ≡ kept_in xs ++ x ∷ []) × AreFirst (slice_set xs n (Some x))
  one_more [] n x first at lt = absurd (omega (arith, lt))
  one_more (None ∷ xs) zero x first at lt = (ap (λ ys. x ∷ ys) first ∙ ap (λ ys. ys ++ x ∷ []) (sym first), none_first xs first)
  one_more (None ∷ xs) (suc n) x first at lt = absurd (omega (arith, at, ap length first))
  one_more (Some y ∷ xs) zero x first at lt = absurd (omega (arith, at))
  one_more (Some y ∷ xs) (suc n) x first at lt =
      let more = one_more xs n x first (omega (arith, at)) (omega (arith, lt)) in (ap (λ ys. y ∷ ys) more.0, more.1)

  pub length_written : (xs : List X) (n : ℕ) (x : X) → length (slice_set xs n x) ≡ length xs
  length_written [] n x = refl
  length_written (y ∷ xs) zero x = refl
  length_written (y ∷ xs) (suc n) x = let e = length_written xs n x in omega (arith, e)
