-- What the text of a Text request comes to.
use Rattle.std.specs.Prelude.{◌≡◌, ℕ, ◌+◌, ◌<◌, ◌≤◌, Bool, true, false, List, ◌++◌, length}
use Rattle.std.specs.declared.net.SocketAddrV4.{SocketAddrV4}
use Rattle.login.specs.Text.{pairs}
use Rattle.login.specs.Targets.{answers_of, is_bad_request, target_text}
use Rattle.login.specs.declared.status.SessionType.{SessionType}
use Rattle.login.specs.declared.within.TextAnswer.{TextAnswer}
use Rattle.login.specs.declared.within.TextAnswer.TheVariants as within
use Rattle.login.specs.declared.targets.TextEnd.{TextEnd}
use Rattle.login.specs.declared.targets.TextEnd.TheVariants.{Answer, Fault, NoMemory}

-- a fault just where the text is none; else the answers to its pairs in order, unless memory was short
abbrev pub IsTextEnd : TextEnd → List ℕ → SessionType → List SocketAddrV4 → List SocketAddrV4 → List ℕ → Type 0
IsTextEnd (Answer answer) target kind first second text =
    (is_bad_request text ≡ false)
    × (answer.items ≡ answers_of target kind (target_text target first second) (pairs text))
IsTextEnd Fault target kind first second text = is_bad_request text ≡ true
IsTextEnd NoMemory target kind first second text = is_bad_request text ≡ false

-- these bytes were appended, within the room; or they do not have so much
abbrev pub IsPutWithin : Bool → ℕ → List ℕ → List ℕ → List ℕ → Type 0
IsPutWithin true most old new bytes = (new ≡ old ++ bytes) × (length new ≤ most)
IsPutWithin false most old new bytes = most < length old + length bytes

-- a fault just where the text is none; else the answers to its pairs in order, just where they are within the room
abbrev pub IsTextAnswer : TextAnswer → ℕ → List ℕ → List ℕ → List ℕ → Type 0
IsTextAnswer within.Answered most out answers text =
    (is_bad_request text ≡ false) × (out ≡ answers) × (length answers ≤ most)
IsTextAnswer within.Fault most out answers text = is_bad_request text ≡ true
IsTextAnswer within.TooLong most out answers text = (is_bad_request text ≡ false) × (most < length answers)
