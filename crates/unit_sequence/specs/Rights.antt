-- The word that counts a history's entries, and the one right to number an entry.
use Rattle.std.specs.Prelude.{◌≡◌, ℕ, suc, List, [], ◌∷◌, ◌++◌, length, true, false, cond, Some}
use base.Fml.{Fml, fsep}
use base.Share.{quarter, three_quarters}
use Rattle.atomic_table.specs.Seated.{TableId}
use Rattle.logbook.specs.Pages.{Cell, Step, View, Book, Named}
use Rattle.logbook.specs.Kept.{part, fact}
use Rattle.unit_sequence.specs.declared.right.Answer.{Answer}

-- the names of a word and of a board that were not made
abbrev pub no_book : Book
no_book = record { number = 0; log_name = 0; cells_name = 0 }

abbrev pub no_table : TableId
no_table = record { words = 0; slots = 0; views_name = 0; atom = 0; block = 0; offset = 0; slot_names = [] }

-- the word that is tracked in a book
abbrev pub word_of : Book → Named
word_of b = record { tracked = true; key = 0; book = b }

abbrev pub no_answer : Answer
no_answer = record { found = 0; added = false }

abbrev pub first_of : List ℕ → ℕ
first_of [] = 0
first_of (n ∷ names) = n

-- a quarter of the count of entries is the right's, and the rest is the word's
abbrev pub right_owns : ℕ → ℕ → Fml
right_owns name count = part name 0 quarter count

abbrev pub counts : {E : Type 0} → List ℕ → List E → Fml
counts names log = part (first_of names) 0 three_quarters (length log)

abbrev pub count_after : Answer → ℕ
count_after r = cond r.added (suc r.found) r.found

-- a step of the right's holder finds the length of the history, and adds its entry or nothing
abbrev pub AddsEntry : {E : Type 0} → E → List E → List E → Answer → Type 0
AddsEntry ask before after r = (r.found ≡ length before) × (after ≡ cond r.added (before ++ ask ∷ []) before)

-- behind it the holder has the right again, and knows that the history was as long as it had counted
abbrev pub gained : {E : Type 0} → List ℕ → List E → Answer → Fml
gained names about r = fsep (fact (r.found ≡ length about)) (right_owns (first_of names) (count_after r))

-- the word is the length of the history
abbrev pub IsCounted : {E : Type 0} → List Cell → List E → Type 0
IsCounted cells log = cells ≡ (length log, true) ∷ (0, true) ∷ []

-- the holder's step ran on a history of the length found; where that is the length that it expects, its entry was added to
-- all that it had seen
abbrev pub Numbered : {E : Type 0} → Step E → View E Answer → ℕ → View E Answer → Type 0
Numbered s v found w = (r : Answer) × (w.1.1 ≡ Some r) × (r.found ≡ found)
    × (found ≡ s.old → (r.added ≡ true) × (w.0 ≡ v.0 ++ s.ask ∷ []))

-- it ran on the history that was then seen, and added nothing
abbrev pub AddedNothing : {E : Type 0} → Step E → View E Answer → ℕ → View E Answer → Type 0
AddedNothing s v found w = (r : Answer) × (w.1.1 ≡ Some r) × (r.found ≡ length w.0) × (r.added ≡ false)
