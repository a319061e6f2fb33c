-- Text (RFC 7143, 6.1): pairs `key=value`, each with a zero byte behind it.
use Rattle.std.specs.Prelude.{ℕ, ◌<◌, ◌≢◌, All, Bool, true, ◌&&◌, ◌==◌, nat_lt, bytes_eq}
use Rattle.std.specs.Prelude.{if◌then◌else◌, List, [], ◌∷◌, ◌++◌, length, Option, Some, None}
use Rattle.std.specs.List.{slice_split, before_first, after_first, position_or_len}

pub record Pair : Type 0 where
  pub key : List ℕ
  pub value : List ℕ

abbrev pub is_byte : ℕ → ℕ → Bool
is_byte c b = b == c

-- the key stands before the first `=`, the value behind it
abbrev pub pair_of : List ℕ → Pair
pair_of part = record { key = before_first (is_byte 61) part; value = after_first (is_byte 61) part }

-- the pairs of a text that was cut at its zero bytes: each part but the last is one
abbrev pub pairs_of : List (List ℕ) → List Pair
pairs_of [] = []
pairs_of (part ∷ []) = []
pairs_of (part ∷ next ∷ more) = pair_of part ∷ pairs_of (next ∷ more)

unfoldable pub pairs : List ℕ → List Pair
pairs text = pairs_of (slice_split (is_byte 0) text)

-- a pair has an `=`, and a key of 1 to 63 bytes
abbrev pub is_pair : List ℕ → Bool
is_pair part =
    let key = position_or_len (is_byte 61) part in
    nat_lt key (length part) && (nat_lt 0 key && nat_lt key 64)

-- each part but the last is a pair, and nothing stands behind the last zero byte
abbrev pub are_pairs : List (List ℕ) → Bool
are_pairs [] = true
are_pairs (part ∷ []) = length part == 0
are_pairs (part ∷ next ∷ more) = is_pair part && are_pairs (next ∷ more)

unfoldable pub is_text : List ℕ → Bool
is_text text = are_pairs (slice_split (is_byte 0) text)

-- the value of the first pair with this key
abbrev pub found : List ℕ → List Pair → Option (List ℕ)
found key [] = None
found key (p ∷ ps) = if bytes_eq p.key key then Some p.value else found key ps

-- what a pair is spelled by
abbrev pub spelled : List ℕ → List ℕ → List ℕ
spelled key value = key ++ (61 ∷ []) ++ value ++ (0 ∷ [])

abbrev pub text_of : List Pair → List ℕ
text_of [] = []
text_of (p ∷ ps) = spelled p.key p.value ++ text_of ps

-- a pair that text can spell: a key of 1 to 63 bytes without `=` and zero, and a value without zero
pub record IsPair (p : Pair) : Type 0 where
  pub some : 0 < length p.key
  pub short : length p.key < 64
  pub key : All (λ b. (b ≢ 61) × (b ≢ 0)) p.key
  pub value : All (λ b. b ≢ 0) p.value

abbrev pub ArePairs : List Pair → Type 0
ArePairs [] = Unit {0}
ArePairs (p ∷ ps) = IsPair p × ArePairs ps
