-- What is known at each seat of a board (its view), what a session's right says, and the rule that the words of a board keep.
use Rattle.std.specs.Prelude.{◌≡◌, ℕ, ◌<◌, ◌≤◌, ◌⊎◌, List, [], ◌∷◌, length, true, false, Some, None}
use Rattle.std.specs.List.{sum_by}
use mathlib.Core.List.{IsPrefix}
use mathlib.Core.Option.{some}
use lib.ListN.{get_elem?}
use Rattle.status.specs.declared.law.View.{View}
use Rattle.status.specs.declared.row.Row.{Row}

-- a row as the board's words
abbrev pub words_of : Row → List ℕ
words_of r = r.entries ∷ r.owner ∷ r.states.0 ∷ r.states.1 ∷ r.generation ∷ r.registrants ∷ r.kind ∷ []

-- how many of a history's entries are so marked for a session
abbrev pub counted : {E : Type 0} → (ℕ → E → ℕ) → ℕ → List E → ℕ
counted mark session history = sum_by (mark session) history

-- what a session's right says: it has counted its own entries, and its commands among them
pub record Claim : Type 0 where
  pub session : ℕ
  pub count : ℕ
  pub commands : ℕ

-- what was published, beside a session's right in hand
pub record Handed (E : Type 0) : Type 0 where
  pub seen : List E
  pub claim : Claim

-- a session's right, at a place of the array
pub record PlacedClaim : Type 0 where
  pub place : ℕ
  pub claim : Claim

-- A view has eight fields. `unborn`: nothing is published yet. `publishes`: it is the publisher's. `from`: the state in which the
-- history opened, where that is known. `seen`: the beginning of the history that it knows. `claims`: it has a session's right, that of
-- `session`, which has counted `count` own entries and `commands` commands among them.
module _ {E S : Type 0} where
  -- before the board was opened
  abbrev pub first_view : View E S
  first_view = record { unborn = true; publishes = false; from = None; seen = []; claims = false; session = 0; count = 0; commands = 0 }

  -- who publishes has seen all that was published
  abbrev pub publisher : S → List E → View E S
  publisher s log = record { unborn = false; publishes = true; from = Some s; seen = log; claims = false; session = 0; count = 0; commands = 0 }

  -- who publishes, with a session's right in hand
  abbrev pub holder : S → List E → Claim → View E S
  holder s log c = record { unborn = false; publishes = true; from = Some s; seen = log; claims = true; session = c.session; count = c.count; commands = c.commands }

  -- who only reads
  abbrev pub reader : S → List E → View E S
  reader s log = record { unborn = false; publishes = false; from = Some s; seen = log; claims = false; session = 0; count = 0; commands = 0 }

  -- a seat that has nothing but a session's right
  abbrev pub right : Claim → View E S
  right c = record { unborn = false; publishes = false; from = None; seen = []; claims = true; session = c.session; count = c.count; commands = c.commands }

  -- a seat whose right was taken: nothing is known there, and the board is open
  abbrev pub nobody : View E S
  nobody = record { unborn = false; publishes = false; from = None; seen = []; claims = false; session = 0; count = 0; commands = 0 }

  -- ---- what becomes of views that are split or joined

  -- a new reader, which splits from v
  abbrev pub reading : View E S → View E S
  reading v = record { unborn = false; publishes = false; from = v.from; seen = v.seen; claims = false; session = 0; count = 0; commands = 0 }

  -- v, with the right of w in hand
  abbrev pub holding : View E S → View E S → View E S
  holding v w = record { unborn = false; publishes = v.publishes; from = v.from; seen = v.seen; claims = w.claims; session = w.session; count = w.count; commands = w.commands }

  -- v without the right in its hand
  abbrev pub bare : View E S → View E S
  bare v = record { unborn = false; publishes = v.publishes; from = v.from; seen = v.seen; claims = false; session = 0; count = 0; commands = 0 }

  -- that right alone
  abbrev pub right_of : View E S → View E S
  right_of v = record { unborn = false; publishes = false; from = None; seen = []; claims = v.claims; session = v.session; count = v.count; commands = v.commands }

  -- the right that a view claims
  abbrev pub claim_of : View E S → Claim
  claim_of v = record { session = v.session; count = v.count; commands = v.commands }

-- an entry of this session's own
pub record IsOwn {E : Type 0} (own command : ℕ → E → ℕ) (session : ℕ) (e : E) : Type 0 where
  pub one : own session e ≡ 1
  pub others : (other : ℕ) → (other ≡ session → ⊥) → (own other e ≡ 0) × (command other e ≡ 0)

-- an entry of no session's own
abbrev pub IsFree : {E : Type 0} → (ℕ → E → ℕ) → (ℕ → E → ℕ) → E → Type 0
IsFree own command e = (session : ℕ) → (own session e ≡ 0) × (command session e ≡ 0)

-- ---- the rule of the board

module _ {E S : Type 0} (own command : ℕ → E → ℕ) where
  -- What is known of the view at a seat: what it has seen begins what was published; the publisher's is all of it; a right
  -- has counted all of its session's entries.
  pub record Fits (seat : ℕ) (from : S) (log : List E) (at : ℕ) (v : View E S) : Type 0 where
    pub fresh : v.unborn ≡ false
    pub opened : (s : S) → v.from ≡ Some s → s ≡ from
    pub begins : IsPrefix v.seen log
    pub whole : v.publishes ≡ true → (at ≡ seat) × (v.seen ≡ log)
    pub counts : v.claims ≡ true
        → (v.session < length log) × (counted own v.session log ≡ v.count) × (counted command v.session log ≡ v.commands)

  module _ (legal : S → List E → Type 0) (words_at : S → List E → List ℕ) where
    -- The words are the row of the history that was published, which is legal; no entry counts for a session whose number is not given yet;
    -- what is known at each seat fits; and no two seats have one session's right.
    pub record Kept (words : List ℕ) (views : List (View E S)) : Type 0 where
      pub seat : ℕ
      pub from : S
      pub log : List E
      pub words_are : words ≡ words_at from log
      pub is_legal : legal from log
      pub later : (s : ℕ) → length log ≤ s → (counted own s log ≡ 0) × (counted command s log ≡ 0)
      pub fits : (at : ℕ) (v : View E S) → get_elem? views at ≡ some v → Fits seat from log at v
      pub once : (i j : ℕ) (v w : View E S) → get_elem? views i ≡ some v → get_elem? views j ≡ some w
          → v.claims ≡ true → w.claims ≡ true → v.session ≡ w.session → i ≡ j

    -- the board was not opened, or is kept so
    abbrev pub IsBoard : List ℕ → List (View E S) → Type 0
    IsBoard words views = (views ≡ first_view ∷ []) ⊎ Kept words views

-- the words of each history's row
abbrev pub worded : {E S : Type 0} → (S → List E → Row) → S → List E → List ℕ
worded rows s log = words_of (rows s log)

-- A reader has looked: it has seen a legal history that begins with what it had seen, and whose row the words were.
abbrev pub Looked : {E S : Type 0} → S → (S → List E → Type 0) → (S → List E → Row)
    → View E S → List ℕ → List ℕ → View E S → Type 0
Looked s legal rows v before after w =
    (w ≡ reader s w.seen) × IsPrefix v.seen w.seen × (before ≡ worded rows s w.seen) × legal s w.seen

-- the publisher learns that the right in its hand has counted all of the session's entries
abbrev pub Learned : {E S : Type 0} → (ℕ → E → ℕ) → (ℕ → E → ℕ) → View E S → List ℕ → List ℕ → View E S → Type 0
Learned own command v before after w =
    (w ≡ v) × (counted own v.session v.seen ≡ v.count) × (counted command v.session v.seen ≡ v.commands)
