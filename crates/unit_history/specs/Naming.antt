-- The names of units: which word counts a unit's history, which table its board stands in, and the state that it opened in.
use Rattle.std.specs.Prelude.{◌≡◌, ℕ, List, Option, Some, None, slice_get}
use Rattle.atomic_table.specs.Seated.{TableId}
use Rattle.logbook.specs.Pages.{Book}
use Rattle.unit_sequence.specs.Rights.{no_book, no_table}
use Rattle.unit_control.specs.State.{UnitState, state_of}
use Rattle.unit_entries.specs.Histories.{no_state}
use Rattle.unit_history.specs.declared.new_unit.NewUnit.{NewUnit}

module _ {B R O : Type 0} where
  -- these are the names of a unit at its place
  pub record IsNamedAt (book : ℕ → Book) (table : ℕ → TableId) (opening : ℕ → UnitState) (contents : B → List (List ℕ))
      (place : ℕ) (new : NewUnit B R O) : Type 0 where
    pub book_is : new.posted.history.seen.book ≡ book place
    pub table_is : new.posted.board.cell.table.shared.table_id ≡ table place
    pub opening_is : opening place ≡ state_of contents new.unit

  -- ---- what units have, by their places: the names that are picked for an array of them

  abbrev pub book_in : Option (NewUnit B R O) → Book
  book_in (Some new) = new.posted.history.seen.book
  book_in None = no_book

  abbrev pub table_in : Option (NewUnit B R O) → TableId
  table_in (Some new) = new.posted.board.cell.table.shared.table_id
  table_in None = no_table

  abbrev pub opening_in : (B → List (List ℕ)) → Option (NewUnit B R O) → UnitState
  opening_in contents (Some new) = state_of contents new.unit
  opening_in contents None = no_state

  abbrev pub book_of : List (NewUnit B R O) → ℕ → Book
  book_of units place = book_in (slice_get units place)

  abbrev pub table_of : List (NewUnit B R O) → ℕ → TableId
  table_of units place = table_in (slice_get units place)

  abbrev pub opening_of : (B → List (List ℕ)) → List (NewUnit B R O) → ℕ → UnitState
  opening_of contents units place = opening_in contents (slice_get units place)

  -- the names of an array are those of its units
  pub record IsNamed (book : ℕ → Book) (table : ℕ → TableId) (opening : ℕ → UnitState) (contents : B → List (List ℕ))
      (units : List (NewUnit B R O)) : Type 0 where
    pub book_is : book ≡ book_of units
    pub table_is : table ≡ table_of units
    pub opening_is : opening ≡ opening_of contents units
