-- What is answered to pairs (RFC 7143, 6.2).
use Rattle.std.specs.Prelude.{ℕ, codes, if◌then◌else◌, List, [], ◌∷◌, ◌++◌, Option, Some, None}
use Rattle.login.specs.Text.{Pair, spelled}
use Rattle.login.specs.Value.{agreed, value_text, is_declared}
use Rattle.login.specs.Table.{row_of, key_named}
use Rattle.login.specs.declared.key.Key.{Key}
use Rattle.login.specs.declared.value.Rule.{Rule}
use Rattle.login.specs.declared.value.Value.{Value}

-- a value that is not of its form or out of range is rejected, and one that is declared is not answered
abbrev pub verdict : Rule → Option Value → Option (List ℕ)
verdict rule None = Some (codes "Reject")
verdict rule (Some value) = if is_declared rule then None else Some (value_text value)

abbrev pub verdict_on : Option Key → List ℕ → Option (List ℕ)
verdict_on None value = Some (codes "NotUnderstood")
verdict_on (Some key) value = verdict (row_of key).rule (agreed (row_of key).rule value)

-- the value that a pair is answered with, if it is answered
unfoldable pub verdict_of : List ℕ → List ℕ → Option (List ℕ)
verdict_of key value = verdict_on (key_named key) value

abbrev pub answer_text : List ℕ → Option (List ℕ) → List ℕ
answer_text key None = []
answer_text key (Some value) = spelled key value

-- the answers, in the order of the pairs that they answer
abbrev pub answers : List Pair → List ℕ
answers [] = []
answers (p ∷ ps) = answer_text p.key (verdict_of p.key p.value) ++ answers ps
