-- Numbers, booleans and lists as text (RFC 7143, 6.1).
use Rattle.std.specs.Prelude.{ℕ, ◌+◌, ◌*◌, Bool, true, false, ◌&&◌, ◌||◌, ◌==◌, nat_lt, nat_le, bytes_eq}
use Rattle.std.specs.Prelude.{codes, if◌then◌else◌, List, [], ◌∷◌, drop, slice_index, Option, Some, None}
use Rattle.std.specs.List.{slice_split, list_any}
use Rattle.std.specs.Char.{digit_value}
use Rattle.login.specs.Text.{is_byte}
use Rattle.login.specs.declared.value.Limits.{Limits}

-- the number that digits in a base spell behind one that was read; None where one of them is no digit
abbrev pub read_on : ℕ → ℕ → List ℕ → Option ℕ
read_on base n [] = Some n
read_on base n (c ∷ cs) = if nat_lt (digit_value c) base then read_on base (n * base + digit_value c) cs else None

abbrev pub digits_in : ℕ → List ℕ → Option ℕ
digits_in base [] = None
digits_in base (c ∷ cs) = read_on base 0 (c ∷ cs)

-- whether a value begins with `0x` or `0X`
abbrev pub is_hexadecimal : List ℕ → Bool
is_hexadecimal value = slice_index value 0 == 48 && (slice_index value 1 == 120 || slice_index value 1 == 88)

-- a number: decimal, or hexadecimal behind `0x`
abbrev pub number_in : List ℕ → Option ℕ
number_in value = if is_hexadecimal value then digits_in 16 (drop 2 value) else digits_in 10 value

abbrev pub within : ℕ → ℕ → Option ℕ → Option ℕ
within low high None = None
within low high (Some n) = if nat_le low n && nat_le n high then Some n else None

-- a number within the limits of its key
unfoldable pub number_within : Limits → List ℕ → Option ℕ
number_within limits value = within limits.low limits.high (number_in value)

-- a boolean: `Yes` or `No`
unfoldable pub flag_in : List ℕ → Option Bool
flag_in value =
    if bytes_eq value (codes "Yes") then Some true
    else (if bytes_eq value (codes "No") then Some false else None)

-- whether a word is among those of a list, which commas part
unfoldable pub is_listed : List ℕ → List ℕ → Bool
is_listed word value = list_any (λ item. bytes_eq item word) (slice_split (is_byte 44) value)
