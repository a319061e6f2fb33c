-- Why a login is refused (RFC 7143, 6.3 and 11.13.5): rules in order, of which the first that applies decides.
use Rattle.std.specs.Prelude.{ℕ, ◌+◌, Bool, true, false, not, ◌&&◌, ◌||◌, ◌==◌, nat_lt, is_none, is_some, bytes_eq}
use Rattle.std.specs.Prelude.{codes, count_by, if◌then◌else◌, List, [], ◌∷◌, length, Option, Some, None}
use Rattle.login.specs.Text.{Pair, is_byte, is_text, pairs, found}
use Rattle.login.specs.Number.{is_listed}
use Rattle.login.specs.Table.{row_of, key_named}
use Rattle.login.specs.Progress.{Progress}
use Rattle.scsi_types.specs.Nexus.{longest_name}
use Rattle.login.specs.declared.key.Key.{Key}
use Rattle.login.specs.declared.key.Key.TheVariants as Of
use Rattle.login.specs.declared.status.LoginFlags.{LoginFlags}
use Rattle.login.specs.declared.status.LoginStatus.TheVariants.{InitiatorError, AuthenticationFailure}
use Rattle.login.specs.declared.status.LoginStatus.TheVariants.{NotFound, UnsupportedVersion}
use Rattle.login.specs.declared.status.LoginStatus.TheVariants.{MissingParameter, SessionTypeNotSupported}
use Rattle.login.specs.declared.status.SessionType.{SessionType}
use Rattle.login.specs.declared.status.SessionType.TheVariants.{Normal, Discovery}
use Rattle.login.specs.declared.status.LoginRefusal.{LoginRefusal}
use Rattle.login.specs.declared.status.LoginRefusal.TheVariants.{Refused, NamesSession}

-- a rule judges the flags of a request and its text, joined with those of its run
abbrev pub Rule : Type 0
Rule = Progress → LoginFlags → List ℕ → Option LoginRefusal

abbrev pub when : Bool → LoginRefusal → Option LoginRefusal
when applies refusal = if applies then Some refusal else None

-- what the pairs say of a key
abbrev pub value_said : Key → List Pair → Option (List ℕ)
value_said key ps = found (row_of key).name ps

-- The stages are 0 security, 1 operational and 3 full feature (RFC 7143, 11.12.3). A request is of 0 or 1, and of the current one.
abbrev pub is_stage : Option ℕ → ℕ → Bool
is_stage None asked = nat_lt asked 2
is_stage (Some current) asked = nat_lt asked 2 && asked == current

-- the transitions that T may ask for
abbrev pub may_go : ℕ → ℕ → Bool
may_go from to = (from == 0 && to == 1) || (from == 0 && to == 3) || (from == 1 && to == 3)

-- T with C, another stage than the current one, or with T a transition that there is not
abbrev pub has_wrong_flags : Option ℕ → LoginFlags → Bool
has_wrong_flags stage f =
    (f.transit && f.continues) || not (is_stage stage f.current_stage)
    || (f.transit && not (may_go f.current_stage f.next_stage))

-- a negotiation has at most 8192 bytes of text and 64 pairs, each of which ends in a zero byte
abbrev pub is_too_long : List ℕ → List ℕ → Bool
is_too_long said text =
    nat_lt 8192 (length said + length text) || nat_lt 64 (count_by (is_byte 0) said + count_by (is_byte 0) text)

-- what the first request said of these keys stands: a later one may say them again, and is not heard
abbrev pub stands_from_first : Option Key → Bool
stands_from_first (Some Of.InitiatorName) = true
stands_from_first (Some Of.InitiatorAlias) = true
stands_from_first (Some Of.TargetName) = true
stands_from_first (Some Of.SessionType) = true
stands_from_first _ = false

abbrev pub has_key : List ℕ → List Pair → Bool
has_key key ps = is_some (found key ps)

-- a key of these pairs stands in earlier ones or again behind it
abbrev pub has_repeated : Bool → List Pair → List Pair → Bool
has_repeated first said [] = false
has_repeated first said (p ∷ ps) =
    ((first || not (stands_from_first (key_named p.key))) && (has_key p.key said || has_key p.key ps))
    || has_repeated first said ps

-- a name has at least so many bytes, and no more than a name may have
abbrev pub has_bad_length : ℕ → Option (List ℕ) → Bool
has_bad_length least None = false
has_bad_length least (Some name) = nat_lt (length name) least || nat_lt longest_name (length name)

abbrev pub has_bad_name : List Pair → Bool
has_bad_name ps = has_bad_length 1 (value_said Of.InitiatorName ps) || has_bad_length 0 (value_said Of.TargetName ps)

-- the session type: Normal where nothing is said
abbrev pub kind_said : Option (List ℕ) → Option SessionType
kind_said None = Some Normal
kind_said (Some value) =
    if bytes_eq value (codes "Normal") then Some Normal
    else (if bytes_eq value (codes "Discovery") then Some Discovery else None)

abbrev pub session_type_of : List Pair → Option SessionType
session_type_of ps = kind_said (value_said Of.SessionType ps)

abbrev pub needs_target : Option SessionType → Bool
needs_target (Some Normal) = true
needs_target (Some Discovery) = false
needs_target None = false

abbrev pub is_other : List ℕ → Option (List ℕ) → Bool
is_other target None = false
is_other target (Some name) = not (bytes_eq name target)

-- AuthMethod without None
abbrev pub wants_authentication : Option (List ℕ) → Bool
wants_authentication None = false
wants_authentication (Some methods) = not (is_listed (codes "None") methods)

-- the rules, in the order of their lists
abbrev pub flags_rule : Rule
flags_rule s f text = when (has_wrong_flags s.stage f) (Refused InitiatorError)

abbrev pub version_rule : Rule
version_rule s f text = when (not (f.version_min == 0)) (Refused UnsupportedVersion)

abbrev pub length_rule : Rule
length_rule s f text = when (is_too_long s.said text) (Refused InitiatorError)

abbrev pub form_rule : Rule
form_rule s f text = when (not (is_text text)) (Refused InitiatorError)

abbrev pub repeated_rule : Rule
repeated_rule s f text = when (has_repeated (is_none s.kind) (pairs s.said) (pairs text)) (Refused InitiatorError)

abbrev pub name_rule : Rule
name_rule s f text = when (has_bad_name (pairs text)) (Refused InitiatorError)

abbrev pub initiator_rule : Rule
initiator_rule s f text = when (is_none (value_said Of.InitiatorName (pairs text))) (Refused MissingParameter)

abbrev pub kind_rule : Rule
kind_rule s f text = when (is_none (session_type_of (pairs text))) (Refused SessionTypeNotSupported)

abbrev pub target_rule : Rule
target_rule s f text =
    when (needs_target (session_type_of (pairs text)) && is_none (value_said Of.TargetName (pairs text)))
    (Refused MissingParameter)

abbrev pub other_target_rule : Rule
other_target_rule s f text = when (is_other s.target (value_said Of.TargetName (pairs text))) (Refused NotFound)

abbrev pub session_rule : Rule
session_rule s f text = when (not (f.tsih == 0)) NamesSession

abbrev pub authentication_rule : Rule
authentication_rule s f text =
    when (wants_authentication (value_said Of.AuthMethod (pairs text))) (Refused AuthenticationFailure)

-- of a request with C, whose text goes on; of the first request that ends a run; and of a later one
abbrev pub rules_of_part : List Rule
rules_of_part = flags_rule ∷ length_rule ∷ []

abbrev pub rules_of_names : List Rule
rules_of_names = initiator_rule ∷ kind_rule ∷ target_rule ∷ other_target_rule ∷ session_rule ∷ authentication_rule ∷ []

abbrev pub rules_of_first : List Rule
rules_of_first = version_rule ∷ length_rule ∷ form_rule ∷ repeated_rule ∷ name_rule ∷ rules_of_names

abbrev pub rules_of_later : List Rule
rules_of_later = length_rule ∷ form_rule ∷ repeated_rule ∷ authentication_rule ∷ []

abbrev pub rules_for : Progress → LoginFlags → List Rule
rules_for s f =
    if f.continues then rules_of_part
    else flags_rule ∷ (if is_none s.kind then rules_of_first else rules_of_later)

-- the first of two that applies
abbrev pub or_else : Option LoginRefusal → Option LoginRefusal → Option LoginRefusal
or_else (Some a) b = Some a
or_else None b = b

abbrev pub first_refusal : List Rule → Progress → LoginFlags → List ℕ → Option LoginRefusal
first_refusal [] s f text = None
first_refusal (rule ∷ rules) s f text = or_else (rule s f text) (first_refusal rules s f text)

unfoldable pub refusal_in : Progress → LoginFlags → List ℕ → Option LoginRefusal
refusal_in s f text = first_refusal (rules_for s f) s f text
