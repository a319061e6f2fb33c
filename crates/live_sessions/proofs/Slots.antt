-- A list in which one place was written, and a target in which it was that of a unit.
use Rattle.std.proofs.Common.{◌≡◌, ◌≢◌, ℕ, zero, suc, ◌+◌, ◌<◌, ◌≤◌, All, Bool, false, true, List, [], ◌∷◌, length, Option, Some, None, refl, ap, arith}
use Rattle.std.proofs.Common.{Result, ⊎_elim, subst, sym, ◌∙◌}
use Rattle.std.proofs.lemmas.List.Elements.{All-set}
use Rattle.std.proofs.lemmas.Bool.{cases_lt}
use Rattle.std.proofs.lemmas.List.{get_or-set_other, get_or-set_same, length-set}
use Rattle.std.proofs.lemmas.Option.{get_or_from_slice_get, slice_get-get_or, slice_get_past, slice_get_within}
use Rattle.std.specs.Prelude.{IfSome, MatchOption, slice_get, slice_set}
use Rattle.scsi_types.specs.declared.command.Command.{Command as ScsiCommand}
use Rattle.scsi_types.specs.declared.command.CdbFault.{CdbFault}
use Rattle.session_rules.specs.declared.target.TargetAnswer.{TargetAnswer}
use Rattle.session_rules.specs.declared.target.ResetAnswer.{ResetAnswer}
use Rattle.session_rules.specs.declared.target.ResetAnswer.TheVariants as resets
use Rattle.unit_control.specs.State.{UnitState}
use Rattle.session_units.specs.Late.{Late}
use Rattle.session_units.specs.Submitted.{At, IsResetAnswer, IsServed, IsTwice}
use Rattle.session_units.specs.Units.{Claims}
use Rattle.live_sessions.specs.Target.{TargetValue}

module _ {X : Type 0} where
  -- what stands in a list in which one place was written: there what was written, elsewhere what stood there before
  pub get_written : (xs : List X) (n : ℕ) (x a : X) → slice_get xs n ≡ Some a → slice_get (slice_set xs n x) n ≡ Some x
  get_written xs n x a is =
      let lt = slice_get_within xs n a is in
      slice_get-get_or (slice_set xs n x) n x (omega (arith, lt, length-set xs n x)) ∙ ap Some (get_or-set_same xs n x x lt)

  pub get_other : (xs : List X) (n m : ℕ) (x b : X) → n ≢ m → slice_get (slice_set xs n x) m ≡ Some b → slice_get xs m ≡ Some b
  get_other xs n m x b other is =
      slice_get-get_or xs m b (omega (arith, slice_get_within (slice_set xs n x) m b is, length-set xs n x))
      ∙ ap Some (sym (get_or-set_other xs n m x b (λ e. other (sym e))) ∙ get_or_from_slice_get (slice_set xs n x) m b b is)

  -- what stands at a place that there is
  pub there : (xs : List X) (n : ℕ) → n < length xs → (a : X) × (slice_get xs n ≡ Some a)
  there [] n lt = absurd (omega (arith, lt))
  there (y ∷ xs) zero lt = (y, refl)
  there (y ∷ xs) (suc n) lt = there xs n (omega (arith, lt))

  -- and there is none in an empty list
  pub nowhere : (xs : List X) (n : ℕ) (a : X) → xs ≡ [] → slice_get xs n ≡ Some a → ⊥
  nowhere [] n a none is = absurd (cc)
  nowhere (x ∷ xs) n a none is = absurd (cc)

  -- nothing where there is no place
  beyond : (xs : List X) (n : ℕ) → (n < length xs → false ≡ true) → slice_get xs n ≡ None
  beyond xs n less = ⊎_elim (λ lt. let e : false ≡ true = less lt in absurd (cc)) (slice_get_past xs n) (cases_lt n (length xs))

  -- what is said of what stands at a place is said of the list
  at_place : (xs : List X) (n : ℕ) (a : X) (P : Type 0) (Q : X → Type 0) → slice_get xs n ≡ Some a → Q a
      → MatchOption (slice_get xs n) P Q
  at_place xs n a P Q is q = subst (λ (o : Option X). MatchOption o P Q) (sym is) q

-- where no place of the unit's number is, what is said of that is said
pub at_no_unit : (now old : TargetValue) (place unit : ℕ) (P : Type 0) (Q : At → Type 0) → now ≡ old → place ≡ unit
    → (place < length now.at → false ≡ true) → P → MatchOption (slice_get old.at unit) P Q
at_no_unit now old place unit P Q is named less p =
    subst (λ (t : TargetValue). MatchOption (slice_get t.at unit) P Q) is
    (subst (λ (n : ℕ). MatchOption (slice_get now.at n) P Q) named
    (subst (λ (o : Option At). MatchOption o P Q) (sym (beyond now.at place less)) p))

-- What stands at a place is at one of so many units, where all are.
pub placed_at : (units : ℕ) (at : List At) (n : ℕ) (a : At) → All (λ a. a.place < units) at → slice_get at n ≡ Some a → a.place < units
placed_at units at n a all is =
    subst (λ (x : At). x.place < units) (get_or_from_slice_get at n a a is) (all n a (slice_get_within at n a is))

-- Where one place was written by a session that stays at its unit, all that is always so of a target is so still.
pub still_placed : {C H : Type 0} (units capacity : ℕ) (slot : Option C) (begun : Bool) (at : List At) (seen : List H) (n : ℕ)
    (a after : At) → slice_get at n ≡ Some a → after.place ≡ a.place
    → All (λ a. a.place < units) at × (length seen + length at ≤ capacity)
    × IfSome slot (λ _. (begun ≡ false) × (at ≡ []) × (seen ≡ []))
    → All (λ a. a.place < units) (slice_set at n after) × (length seen + length (slice_set at n after) ≤ capacity)
    × IfSome slot (λ _. (begun ≡ false) × (slice_set at n after ≡ []) × (seen ≡ []))
still_placed units capacity (Some c) begun at seen n a after here stays is = absurd (nowhere at n a is.2.1 here)
still_placed units capacity None begun at seen n a after here stays is =
    let e = length-set at n after in
    let count = is.1 in (
      All-set (λ a. a.place < units) at n after
          (subst (λ (p : ℕ). p < units) (sym stays) (placed_at units at n a is.0 here)) is.0,
      omega (arith, e, count),
      tt,
    )

-- a session that is served, or resets its unit, stays at it
pub served_stays : (claims : Claims) (late : Late) (opening : ℕ → UnitState) (a : At) (asked : Result ScsiCommand CdbFault) (bytes : List ℕ)
    (answer : TargetAnswer) (after : At) → IsServed claims late opening a asked bytes answer after → after.place ≡ a.place
served_stays claims late opening a asked bytes answer after is =
    ⊎_elim (λ o. o.0.place) (λ (t : IsTwice claims late opening a asked bytes is.end after). t.again.place ∙ t.once.place) is.calls

pub reset_stays : (claims : Claims) (opening : ℕ → UnitState) (a : At) (answer : ResetAnswer) (after : At)
    → IsResetAnswer claims opening a answer after → after.place ≡ a.place
reset_stays claims opening a resets.Done after is = is.place
reset_stays claims opening a resets.Gone after is = is.place
reset_stays claims opening a resets.Failed after is = absurd is

-- What was done at the place of a unit was done by the session at that unit, and to no other.
pub at_unit : (now old : TargetValue) (place unit : ℕ) (a after : At) (P : Type 0) (Q : At → At → Type 0) → now ≡ old
    → place ≡ unit → slice_get now.at place ≡ Some a → Q a after
    → MatchOption (slice_get old.at unit) P (λ a. (after' : At) × Q a after'
    × (record now { at = slice_set now.at place after } ≡ record old { at = slice_set old.at unit after' }))
at_unit now old place unit a after P Q is named here did =
    subst (λ (t : TargetValue). MatchOption (slice_get t.at unit) P (λ a. (after' : At) × Q a after'
    × (record now { at = slice_set now.at place after } ≡ record t { at = slice_set t.at unit after' }))) is
    (subst (λ (n : ℕ). MatchOption (slice_get now.at n) P (λ a. (after' : At) × Q a after'
    × (record now { at = slice_set now.at place after } ≡ record now { at = slice_set now.at n after' }))) named
    (at_place now.at place a P _ here (after, did, refl)))
