-- One more unit that is as it opens.
use Rattle.std.proofs.Common.{◌≡◌, ◌≤◌, ◌+◌, ℕ, zero, suc, List, [], ◌∷◌, ◌++◌, length, Bool, true, false, slice_index_or}
use Rattle.std.proofs.Common.{arith, ap, sym, ◌∙◌}
use Rattle.std.proofs.lemmas.List.{append-nil, length-append, length-map, map-append}
use Rattle.std.proofs.lemmas.List.Elements.{All-append, All-cons, All-nil}
use Rattle.std.specs.Prelude.{Ok, if◌then◌else◌}
use Rattle.access_states.specs.declared.change.Change.{Change}
use Rattle.scsi_types.specs.declared.names.Group.{Group}
use Rattle.failover.specs.Mover.{Move}
use Rattle.failover.specs.Up.{AreUp, IsAskedUp, chosen_below, up_list}
use Rattle.unit_control.specs.State.{preferred}

at_most_one : (place : ℕ) (is : Bool) → length (if is then place ∷ [] else []) ≤ 1
at_most_one place true = omega (arith)
at_most_one place false = omega (arith)

-- of the first n places at most n are chosen
few_chosen : (chosen : List Bool) (n : ℕ) → length (chosen_below chosen n) ≤ n
few_chosen chosen zero = omega (arith)
few_chosen chosen (suc n) =
    let few = few_chosen chosen n in
    let one = at_most_one n (slice_index_or chosen n false) in
    omega (arith, few, one, length-append (chosen_below chosen n) (if slice_index_or chosen n false then n ∷ [] else []))

one_more_place : (chosen : List Bool) (n : ℕ) (is : Bool) → slice_index_or chosen n false ≡ is
    → chosen_below chosen (n + 1) ≡ chosen_below chosen n ++ (if is then n ∷ [] else [])
one_more_place chosen n is e =
    let s : n + 1 ≡ suc n = omega (arith) in
    ap (chosen_below chosen) s ∙ ap (λ (b : Bool). chosen_below chosen n ++ (if b then n ∷ [] else [])) e

module _ (made : Move → Type 0) (chosen : List Bool) (n : ℕ) (moves : List Move) (up : AreUp made chosen n moves) where
  -- there is room for one more where more than n go in
  pub few_moves : length moves ≤ n
  few_moves =
      let few = few_chosen chosen n in
      omega (arith, few, ap length up.places, length-map moves (λ (m : Move). m.place))

  pub one_more_up : (m : Move) (told : Change) → m.place ≡ n → slice_index_or chosen n false ≡ true → IsAskedUp made chosen m
      → m.end ≡ Ok told → AreUp made chosen (n + 1) (moves ++ m ∷ [])
  one_more_up m told place is asked end =
      let P : Move → Type 0 = λ a. IsAskedUp made chosen a × ((t : Change) × (a.end ≡ Ok t)) in
      record {
        places = map-append (λ (a : Move). a.place) moves (m ∷ []) ∙ ap (λ (ps : List ℕ). ps ++ m.place ∷ []) up.places
            ∙ ap (λ (p : ℕ). chosen_below chosen n ++ p ∷ []) place ∙ sym (one_more_place chosen n true is);
        each = All-append P moves (m ∷ []) up.each (All-cons P m [] (asked, (told, end)) (All-nil P));
      }

  pub one_not_chosen : slice_index_or chosen n false ≡ false → AreUp made chosen (n + 1) moves
  one_not_chosen is = record {
    places = up.places ∙ sym (append-nil (chosen_below chosen n)) ∙ sym (one_more_place chosen n false is);
    each = up.each;
  }

-- the list that prefers as a place does is that of a move of the place
pub list_of_place : (m : Move) (n : ℕ) (list : List ℕ) (group : Group) → m.place ≡ n → m.list ≡ list → list ≡ up_list group
    → group ≡ preferred n → m.list ≡ up_list (preferred m.place)
list_of_place m n list group place is up prefers =
    is ∙ up ∙ ap up_list prefers ∙ ap (λ (p : ℕ). up_list (preferred p)) (sym place)
