-- How two sides agree on the value of a key (RFC 7143, 6.2).
use Rattle.std.specs.Prelude.{ℕ, min, max, Bool, true, false, ◌&&◌, ◌||◌, codes, decimal}
use Rattle.std.specs.Prelude.{if◌then◌else◌, List, [], Option, Some, None, option_map}
use Rattle.login.specs.Number.{number_within, flag_in, is_listed}
use Rattle.login.specs.declared.value.Word.{Word}
use Rattle.login.specs.declared.value.Word.TheVariants.{Unused, Rfc3720}
use Rattle.login.specs.declared.value.Rule.{Rule}
use Rattle.login.specs.declared.value.Rule.TheVariants.{Least, Greatest, Declared, Either, Both, Listed, Kept, Refused}
use Rattle.login.specs.declared.value.Value.{Value}
use Rattle.login.specs.declared.value.Value.TheVariants.{Number, Flag, Unset}
use Rattle.login.specs.declared.value.Value.TheVariants.{Word as Chosen}

abbrev pub word_text : Word → List ℕ
word_text Unused = codes "None"
word_text Rfc3720 = codes "RFC3720"

-- What both sides agree on where one offers this value; None where it is not of the key's form or out of its range.
abbrev pub agreed : Rule → List ℕ → Option Value
agreed (Least limits) value = option_map (λ n. Number (min n limits.own)) (number_within limits value)
agreed (Greatest limits) value = option_map (λ n. Number (max n limits.own)) (number_within limits value)
agreed (Declared limits) value = option_map (λ n. Number n) (number_within limits value)
agreed (Either own) value = option_map (λ b. Flag (b || own)) (flag_in value)
agreed (Both own) value = option_map (λ b. Flag (b && own)) (flag_in value)
agreed (Listed word) value = if is_listed (word_text word) value then Some (Chosen word) else None
agreed Kept value = Some Unset
agreed Refused value = None

-- how an agreed value is written in an answer
abbrev pub value_text : Value → List ℕ
value_text (Number n) = decimal n
value_text (Flag true) = codes "Yes"
value_text (Flag false) = codes "No"
value_text (Chosen word) = word_text word
value_text Unset = []

-- what one side declares is not answered
abbrev pub is_declared : Rule → Bool
is_declared (Declared limits) = true
is_declared Kept = true
is_declared (Least limits) = false
is_declared (Greatest limits) = false
is_declared (Either own) = false
is_declared (Both own) = false
is_declared (Listed word) = false
is_declared Refused = false
