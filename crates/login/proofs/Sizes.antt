-- How long a response may be.
use Rattle.std.proofs.Common.{◌≡◌, ℕ, ◌+◌, ◌*◌, ◌<◌, ◌≤◌, min, max, List, [], ◌∷◌, ◌++◌, Bool, true, false, ◌&&◌, ◌||◌}
use Rattle.std.proofs.Common.{length, refl, ap, arith, length-append, Option, Some, None}
use Rattle.std.specs.Prelude.{option_map, decimal, nat_lt, count_by, find, if◌then◌else◌}
use Rattle.std.specs.List.{slice_split, join_with_byte, position_or_len}
use Rattle.std.proofs.lemmas.Bool.Decides.{nat_tests}
use Rattle.std.proofs.lemmas.Fmt.{length-decimal-le}
use Rattle.std.proofs.lemmas.List.{length-take}
use Rattle.std.proofs.lemmas.List.Splits.{length-slice_split, join_with_byte-slice_split}
use Rattle.login.specs.Text.{Pair, spelled, is_byte, pair_of, pairs_of, pairs}
use Rattle.login.specs.Number.{number_within, flag_in, is_listed}
use Rattle.login.specs.Value.{agreed, value_text, word_text}
use Rattle.login.specs.Answer.{verdict, verdict_on, verdict_of, answer_text, answers}
use Rattle.login.specs.Table.{own_data_segment, row_of, keys, key_named, has_name}
use Rattle.login.specs.Progress.{Progress}
use Rattle.login.specs.Refusal.{is_too_long}
use Rattle.login.specs.Request.{response, group_text, length_text, tells_length, kind_after}
use Rattle.login.specs.declared.key.Key.{Key}
use Rattle.login.specs.declared.status.SessionType.{SessionType}
use Rattle.login.specs.declared.status.SessionType.TheVariants.{Normal, Discovery}
use Rattle.login.specs.declared.status.LoginFlags.{LoginFlags}
use Rattle.login.specs.declared.value.Word.{Word}
use Rattle.login.specs.declared.value.Word.TheVariants.{Unused, Rfc3720}
use Rattle.login.specs.declared.value.Limits.{Limits}
use Rattle.login.specs.declared.value.Rule.{Rule}
use Rattle.login.specs.declared.value.Rule.TheVariants.{Least, Greatest, Declared, Either, Both, Listed, Kept, Refused}
use Rattle.login.specs.declared.value.Value.TheVariants.{Number, Flag}
use Rattle.login.specs.declared.value.Value.TheVariants.{Word as Chosen}
use Rattle.login.proofs.Agreed.{ranges}

-- a rule's numbers have at most 10 digits
abbrev is_low : ℕ → Bool
is_low n = nat_lt n 10000000000

abbrev is_small : Rule → Bool
is_small (Least limits) = is_low limits.own
is_small (Greatest limits) = is_low limits.own && is_low limits.high
is_small (Declared limits) = true
is_small (Either own) = true
is_small (Both own) = true
is_small (Listed word) = true
is_small Kept = true
is_small Refused = true

abbrev all_small : List Key → Bool
all_small [] = true
all_small (k ∷ ks) = is_small (row_of k).rule && all_small ks

abbrev small_in : Option Key → Bool
small_in None = true
small_in (Some k) = is_small (row_of k).rule

both_are : (a b : Bool) → (a && b) ≡ true → (a ≡ true) × (b ≡ true)
both_are true b h = (refl, h)
both_are false b h = cc

small_found : (name : List ℕ) (ks : List Key) → all_small ks ≡ true → small_in (find (has_name name) ks) ≡ true
small_found name [] h = refl
small_found name (k ∷ ks) h =
    let two = both_are (is_small (row_of k).rule) (all_small ks) h in
    elim (has_name name k) as (λ v. small_in (if v then Some k else find (has_name name) ks) ≡ true)
    [ true ↦ two.0 | false ↦ small_found name ks two.1 ]

small_named : (name : List ℕ) → small_in (key_named name) ≡ true
unfolding key_named
small_named name = small_found name keys refl

-- a value in an answer has at most 13 bytes
abbrev IsShort : Option (List ℕ) → Type 0
IsShort None = Unit {0}
IsShort (Some value) = length value ≤ 13

digits_fit : (n : ℕ) → n < 10000000000 → length (decimal n) ≤ 13
digits_fit n h = let k : length (decimal n) ≤ 10 = length-decimal-le 10 n (omega arith) h (omega arith) in omega arith

low_is : (n : ℕ) → is_low n ≡ true → n < 10000000000
low_is n h = grind (arith, nat_tests)

least_short : (limits : Limits) (o : Option ℕ) → limits.own < 10000000000
    → IsShort (verdict (Least limits) (option_map (λ n. Number (min n limits.own)) o))
least_short limits None h = omega arith
least_short limits (Some n) h = digits_fit (min n limits.own) (omega arith)

greatest_short : (limits : Limits) (o : Option ℕ) → limits.own < 10000000000
    → ((n : ℕ) → o ≡ Some n → n < 10000000000)
    → IsShort (verdict (Greatest limits) (option_map (λ n. Number (max n limits.own)) o))
greatest_short limits None h k = omega arith
greatest_short limits (Some n) h k = let m : n < 10000000000 = k n refl in digits_fit (max n limits.own) (omega arith)

declared_short : (limits : Limits) (o : Option ℕ) → IsShort (verdict (Declared limits) (option_map (λ n. Number n) o))
declared_short limits None = omega arith
declared_short limits (Some n) = tt

flag_short : (b : Bool) → length (value_text (Flag b)) ≤ 13
flag_short true = omega arith
flag_short false = omega arith

either_short : (own : Bool) (f : Bool → Bool) (o : Option Bool)
    → IsShort (verdict (Either own) (option_map (λ b. Flag (f b)) o))
either_short own f None = omega arith
either_short own f (Some b) = flag_short (f b)

both_short : (own : Bool) (f : Bool → Bool) (o : Option Bool) → IsShort (verdict (Both own) (option_map (λ b. Flag (f b)) o))
both_short own f None = omega arith
both_short own f (Some b) = flag_short (f b)

word_short : (word : Word) → length (word_text word) ≤ 13
word_short Unused = omega arith
word_short Rfc3720 = omega arith

listed_short : (word : Word) (b : Bool) → IsShort (verdict (Listed word) (if b then Some (Chosen word) else None))
listed_short word true = word_short word
listed_short word false = omega arith

verdict_short : (rule : Rule) (value : List ℕ) → is_small rule ≡ true → IsShort (verdict rule (agreed rule value))
verdict_short (Least limits) value h = least_short limits (number_within limits value) (low_is limits.own h)
verdict_short (Greatest limits) value h =
    let two = both_are (is_low limits.own) (is_low limits.high) h in
    let high : limits.high < 10000000000 = low_is limits.high two.1 in
    greatest_short limits (number_within limits value) (low_is limits.own two.0)
    (λ n e. let r : n ≤ limits.high = (ranges limits value n e).1 in omega arith)
verdict_short (Declared limits) value h = declared_short limits (number_within limits value)
verdict_short (Either own) value h = either_short own (λ b. b || own) (flag_in value)
verdict_short (Both own) value h = both_short own (λ b. b && own) (flag_in value)
verdict_short (Listed word) value h = listed_short word (is_listed (word_text word) value)
verdict_short Kept value h = tt
verdict_short Refused value h = omega arith

verdict_on_short : (key : Option Key) (value : List ℕ) → small_in key ≡ true → IsShort (verdict_on key value)
verdict_on_short None value h = omega arith
verdict_on_short (Some k) value h = verdict_short (row_of k).rule value h

spelled_length : (key value : List ℕ) → length (spelled key value) ≡ length key + length value + 2
spelled_length key value =
    let a : length (spelled key value) ≡ length ((key ++ (61 ∷ [])) ++ value) + 1 =
    length-append ((key ++ (61 ∷ [])) ++ value) (0 ∷ []) in
    omega (arith, length-append (key ++ (61 ∷ [])) value, length-append key (61 ∷ []))

answer_within : (key : List ℕ) (value : Option (List ℕ)) → IsShort value → length (answer_text key value) ≤ length key + 15
answer_within key None h = omega arith
answer_within key (Some value) h =
    let e : length (answer_text key (Some value)) ≡ length key + length value + 2 = spelled_length key value in
    omega arith

answer_short : (p : Pair) → length (answer_text p.key (verdict_of p.key p.value)) ≤ length p.key + 15
unfolding verdict_of
answer_short p = answer_within p.key (verdict_of p.key p.value)
    (verdict_on_short (key_named p.key) p.value (small_named p.key))

key_within : (part : List ℕ) → length (pair_of part).key ≤ length part
key_within part = omega (arith, length-take (position_or_len (is_byte 61) part) part)

parts_short : (part : List ℕ) (parts : List (List ℕ))
    → length (answers (pairs_of (part ∷ parts))) ≤ length (join_with_byte 0 (part ∷ parts)) + 14 * length parts
parts_short part [] = omega arith
parts_short part (next ∷ more) =
    let p : Pair = pair_of part in
    let behind : List ℕ = answers (pairs_of (next ∷ more)) in
    let here : List ℕ = answer_text p.key (verdict_of p.key p.value) in
    let joined : List ℕ = join_with_byte 0 (next ∷ more) in
    let rest : length behind ≤ length joined + 14 * length more = parts_short next more in
    let first : length here ≤ length p.key + 15 = answer_short p in
    let key : length p.key ≤ length part = key_within part in
    omega (arith, length-append here behind, length-append part (0 ∷ joined))

all_short : (parts : List (List ℕ)) (n : ℕ) → length parts ≡ n + 1
    → length (answers (pairs_of parts)) ≤ length (join_with_byte 0 parts) + 14 * n
all_short [] n e = absurd (omega arith)
all_short (part ∷ parts) n e = let h = parts_short part parts in omega arith

-- the answer to a pair is at most 14 bytes longer than the pair
pub answers_short : (text : List ℕ) → length (answers (pairs text)) ≤ length text + 14 * count_by (is_byte 0) text
unfolding pairs
answers_short text =
    let parts : List (List ℕ) = slice_split (is_byte 0) text in
    let h : length (answers (pairs_of parts)) ≤ length (join_with_byte 0 parts) + 14 * count_by (is_byte 0) text =
    all_short parts (count_by (is_byte 0) text) (length-slice_split (is_byte 0) text) in
    omega (arith, h, ap length (join_with_byte-slice_split 0 text))

group_short : (tag : ℕ) (before now : Option SessionType) → tag < 65536 → length (group_text tag before now) ≤ 27
group_short tag None (Some Normal) h =
    let k : length (decimal tag) ≤ 5 = length-decimal-le 5 tag (omega arith) (omega arith) (omega arith) in
    omega (arith, length-append (decimal tag) (0 ∷ []))
group_short tag None (Some Discovery) h = omega arith
group_short tag None None h = omega arith
group_short tag (Some kind) now h = omega arith

length_short : (tells : Bool) → length (length_text tells) ≤ 31
length_short true =
    let k : length (decimal own_data_segment) ≤ 5 =
    length-decimal-le 5 own_data_segment (omega arith) (omega arith) (omega arith) in
    omega (arith, length-append (decimal own_data_segment) (0 ∷ []))
length_short false = omega arith

long_test : (said text nulls more : ℕ) → (nat_lt 8192 (said + text) || nat_lt 64 (nulls + more)) ≡ false
    → (text ≤ 8192) × (more ≤ 64)
long_test said text nulls more h = (grind (arith, nat_tests), grind (arith, nat_tests))

-- a response to text that is not too long
pub response_short : (s : Progress) (f : LoginFlags) (said text : List ℕ) → s.tag < 65536 → is_too_long said text ≡ false
    → length (response s f (pairs text)) ≤ 9216
response_short s f said text tag h =
    let two = long_test (length said) (length text) (count_by (is_byte 0) said) (count_by (is_byte 0) text) h in
    let bytes : length text ≤ 8192 = two.0 in
    let nulls : count_by (is_byte 0) text ≤ 64 = two.1 in
    let group : List ℕ = group_text s.tag s.kind (kind_after s.kind (pairs text)) in
    let own : List ℕ = length_text (tells_length s f) in
    let there : length (answers (pairs text)) ≤ length text + 14 * count_by (is_byte 0) text = answers_short text in
    let a : length group ≤ 27 = group_short s.tag s.kind (kind_after s.kind (pairs text)) tag in
    let b : length own ≤ 31 = length_short (tells_length s f) in
    let e : length (response s f (pairs text)) ≡ length (group ++ own) + length (answers (pairs text)) =
    length-append (group ++ own) (answers (pairs text)) in
    omega (arith, length-append group own)

-- there is room for it in memory that is empty
pub response_room : (s : Progress) (f : LoginFlags) (text out : List ℕ) (room : ℕ) → s.tag < 65536
    → is_too_long s.said s.run_text ≡ false → text ≡ s.run_text → length out ≡ 0 → 9216 ≤ room
    → length out + length (response s f (pairs text)) ≤ room
response_room s f text out room tag h e empty large =
    let k : length (response s f (pairs s.run_text)) ≤ 9216 = response_short s f s.said s.run_text tag h in
    omega (arith, ap (λ (t : List ℕ). length (response s f (pairs t))) e)

pub response_put : (s : Progress) (f : LoginFlags) (text out put : List ℕ) → s.tag < 65536
    → is_too_long s.said s.run_text ≡ false → text ≡ s.run_text → length out ≡ 0
    → put ≡ out ++ response s f (pairs text) → length put ≤ 9216
response_put s f text out put tag h e empty all =
    let k : length out + length (response s f (pairs text)) ≤ 9216 =
    response_room s f text out 9216 tag h e empty (omega arith) in
    omega (arith, ap length all, length-append out (response s f (pairs text)))
