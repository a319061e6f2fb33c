-- One more unit that went down.
use Rattle.std.proofs.Common.{◌≡◌, ◌<◌, ◌≤◌, ◌+◌, ⊎_elim, ℕ, zero, suc, List, [], ◌∷◌, ◌++◌, length, Some}
use Rattle.std.proofs.Common.{refl, arith, ap, subst, ◌∙◌}
use Rattle.std.proofs.lemmas.Bool.{cases_lt}
use Rattle.std.proofs.lemmas.List.{length-append}
use Rattle.std.specs.Prelude.{slice_get, Ok}
use Rattle.access_states.specs.declared.change.Change.{Change}
use Rattle.scsi_types.specs.declared.names.Group.{Group}
use Rattle.failover.specs.Mover.{Move}
use Rattle.failover.specs.Down.{AreDown, IsAsked}

module _ {X : Type 0} where
  get_last : (xs : List X) (x : X) (n : ℕ) → length xs ≡ n → slice_get (xs ++ x ∷ []) n ≡ Some x
  get_last [] x zero e = refl
  get_last [] x (suc n) e = absurd (omega (arith, e))
  get_last (y ∷ xs) x zero e = absurd (omega (arith, e))
  get_last (y ∷ xs) x (suc n) e = get_last xs x n (omega (arith, e))

  get_kept : (xs : List X) (x : X) (n : ℕ) (a : X) → slice_get xs n ≡ Some a → slice_get (xs ++ x ∷ []) n ≡ Some a
  get_kept [] x n a is = absurd (grind (arith, is))
  get_kept (y ∷ xs) x zero a is = is
  get_kept (y ∷ xs) x (suc n) a is = get_kept xs x n a is

module _ (made : Move → Type 0) (controller : Group) where
  -- where the first n units went down, and the next does, so did the first n + 1
  pub one_more_down : (n : ℕ) (moves : List Move) (m : Move) (told : Change) → AreDown made controller n moves
      → IsAsked made controller n m → m.end ≡ Ok told → AreDown made controller (n + 1) (moves ++ m ∷ [])
  one_more_down n moves m told down asked is = record {
    few = length-append moves (m ∷ []) ∙ ap (λ k. k + 1) down.few;
    each = λ place bound.
        ⊎_elim
        (λ (before : place < n). let t = down.each place before in (t.0, get_kept moves m place t.0 t.1, t.2, t.3))
        (λ (from : n ≤ place).
        let e : n ≡ place = omega (arith, bound, from) in
        subst (λ (p : ℕ). (a : Move) × (slice_get (moves ++ m ∷ []) p ≡ Some a) × IsAsked made controller p a
        × ((t : Change) × (a.end ≡ Ok t))) e
        (m, get_last moves m n down.few, asked, (told, is)))
        (cases_lt place n);
  }
