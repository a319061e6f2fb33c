-- Units under their names.
use Rattle.std.proofs.Common.{◌≡◌, ◌⊎◌, inl, inr, ⊎_elim, ℕ, zero, suc, ◌+◌, ◌<◌, List, [], ◌∷◌, ◌++◌, length, Option, Some, slice_get, slice_index_or, drop}
use Rattle.std.proofs.Common.{refl, sym, ap, ◌∙◌, subst, arith, length-append}
use Rattle.atomic_table.specs.Seated.{TableId}
use Rattle.crossbeam_utils.specs.declared.cache_padded.CachePadded.{CachePadded}
use Rattle.crossbeam_utils.specs.Padded.{padded_value}
use Rattle.logbook.specs.Pages.{Book}
use Rattle.unit_control.specs.State.{UnitState}
use Rattle.array_units.specs.declared.any_unit.AnyUnit.{AnyUnit}
use Rattle.unit_history.specs.declared.new_unit.NewUnit.{NewUnit}
use Rattle.unit_history.specs.Naming.{IsNamed, IsNamedAt, book_in, table_in, opening_in}
use Rattle.array_units.specs.Places.{AreInOrder, place_of}

module _ {B R O : Type 0} (book : ℕ → Book) (table : ℕ → TableId) (opening : ℕ → UnitState) (contents : B → List (List ℕ)) where
  pub named_at : (units : List (NewUnit B R O)) (place : ℕ) (new : NewUnit B R O) → IsNamed book table opening contents units
      → slice_get units place ≡ Some new → IsNamedAt book table opening contents place new
  named_at units place new n h = record {
    book_is = sym (ap (λ (f : ℕ → Book). f place) n.book_is ∙ ap book_in h);
    table_is = sym (ap (λ (f : ℕ → TableId). f place) n.table_is ∙ ap table_in h);
    opening_is = ap (λ (f : ℕ → UnitState). f place) n.opening_is ∙ ap (opening_in contents) h;
  }

pub get_drop : {A : Type 0} (xs : List A) (place : ℕ) (x : A) → slice_get (drop place xs) 0 ≡ Some x
    → slice_get xs place ≡ Some x
get_drop xs zero x h = h
get_drop [] (suc place) x h = h
get_drop (y ∷ xs) (suc place) x h = get_drop xs place x h

first_is : {A : Type 0} (xs : List A) (x : A) → 0 < length xs → x ≡ slice_index_or xs 0 x → slice_get xs 0 ≡ Some x
first_is [] x lt e = absurd (omega arith)
first_is (y ∷ xs) x lt e = ap (λ (z : _). let o : Option _ = Some z in o) (sym e)

pub removed : {A : Type 0} (all rest : List A) (place : ℕ) (x : A) → rest ≡ drop place all → 0 < length rest
    → x ≡ slice_index_or rest 0 x → slice_get all place ≡ Some x
removed all rest place x is lt e =
    get_drop all place x (subst (λ (l : List _). slice_get l 0 ≡ Some x) is (first_is rest x lt e))

at_end : {A : Type 0} (l : List A) (a b : A) (j : ℕ) → slice_get (l ++ a ∷ []) j ≡ Some b
    → (slice_get l j ≡ Some b) ⊎ ((j ≡ length l) × (a ≡ b))
at_end [] a b zero h = inr (refl, cc)
at_end [] a b (suc j) h = absurd (cc)
at_end (x ∷ xs) a b zero h = inl h
at_end (x ∷ xs) a b (suc j) h = ⊎_elim inl (λ t. inr (ap suc t.0, t.1)) (at_end xs a b j h)

pub pushed : {B R O N : Type 0} (units : List (CachePadded (AnyUnit B R O N))) (unit : CachePadded (AnyUnit B R O N))
    → AreInOrder units → place_of (padded_value unit) ≡ length units → AreInOrder (units ++ unit ∷ [])
pushed units unit order is = λ place u h.
    ⊎_elim (λ (was : slice_get units place ≡ Some u). order place u was)
    (λ (t : (place ≡ length units) × (unit ≡ u)). ap (λ (c : CachePadded _). place_of (padded_value c)) (sym t.1)
    ∙ (is ∙ sym t.0))
    (at_end units unit u place h)

pub placed : {B R O N : Type 0} (units new : List (CachePadded (AnyUnit B R O N))) (unit : CachePadded (AnyUnit B R O N))
    (place : ℕ) → new ≡ units ++ unit ∷ [] → length units ≡ place → AreInOrder units
    → place_of (padded_value unit) ≡ place → (length new ≡ place + 1) × AreInOrder new
placed units new unit place is len order at = (
  ap length is ∙ (length-append units (unit ∷ []) ∙ ap (λ (n : ℕ). n + 1) len),
  subst (λ (l : List (CachePadded (AnyUnit _ _ _ _))). AreInOrder l) (sym is) (pushed units unit order (at ∙ sym len)),
)
