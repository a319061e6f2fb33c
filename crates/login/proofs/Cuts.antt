-- A text and a list, part by part.
use Rattle.std.proofs.Common.{◌≡◌, ℕ, ◌<◌, List, [], ◌∷◌, Bool, true, false, ◌&&◌, ◌||◌, length, refl, sym, ap, ◌∙◌, arith}
use Rattle.std.specs.Prelude.{bytes_eq, nat_eq}
use Rattle.std.specs.List.{slice_split, before_first, after_first, position_or_len, list_any}
use Rattle.std.proofs.lemmas.Bool.Decides.{nat_tests}
use Rattle.std.proofs.lemmas.List.Splits.{slice_split_first, slice_split_none, length-slice_split}
use Rattle.std.proofs.lemmas.List.Sums.{fails_before_first}
use Rattle.login.specs.Text.{Pair, is_byte, pair_of, pairs_of, pairs, is_pair, are_pairs, is_text}
use Rattle.login.specs.Number.{is_listed}

-- where no byte is found, the whole is one part
all_else : (c : ℕ) (bs : List ℕ) → position_or_len (is_byte c) bs ≡ length bs → slice_split (is_byte c) bs ≡ bs ∷ []
all_else c bs e = slice_split_none (is_byte c) bs (λ k d lt. fails_before_first (is_byte c) bs k d (omega (arith, e)))

pub not_byte : (c b : ℕ) → (b ≡ c → ⊥) → is_byte c b ≡ false
not_byte c b h = grind (arith, nat_tests)

pub this_byte : (c b : ℕ) → b ≡ c → is_byte c b ≡ true
this_byte c b h = grind (arith, nat_tests)

pub some_part : (c : ℕ) (bs : List ℕ) → 0 < length (slice_split (is_byte c) bs)
some_part c bs = omega (arith, length-slice_split (is_byte c) bs)

pub pairs_of_more : (part : List ℕ) (parts : List (List ℕ)) → 0 < length parts
    → pairs_of (part ∷ parts) ≡ pair_of part ∷ pairs_of parts
pairs_of_more part [] none = absurd (omega arith)
pairs_of_more part (next ∷ more) some = refl

pub are_pairs_more : (part : List ℕ) (parts : List (List ℕ)) → 0 < length parts
    → are_pairs (part ∷ parts) ≡ (is_pair part && are_pairs parts)
are_pairs_more part [] none = absurd (omega arith)
are_pairs_more part (next ∷ more) some = refl

-- the first part of a text and what stands behind it are told by the place of the first zero byte
pub pairs_first : (text part rest key value : List ℕ) → position_or_len (is_byte 0) text < length text
    → part ≡ before_first (is_byte 0) text → rest ≡ after_first (is_byte 0) text
    → key ≡ before_first (is_byte 61) part → value ≡ after_first (is_byte 61) part
    → pairs text ≡ record { key = key; value = value } ∷ pairs rest
unfolding pairs
pairs_first text part rest key value some p r k v =
    let first : pair_of part ≡ record { key = key; value = value } = rw (k, v) refl in
    let cut : slice_split (is_byte 0) text ≡ part ∷ slice_split (is_byte 0) rest =
    slice_split_first (is_byte 0) text 0 some ∙ rw (p, r) refl in
    ap pairs_of cut ∙ pairs_of_more part (slice_split (is_byte 0) rest) (some_part 0 rest)
    ∙ ap (λ (x : Pair). x ∷ pairs_of (slice_split (is_byte 0) rest)) first

pub pairs_none : (text : List ℕ) → position_or_len (is_byte 0) text ≡ length text → pairs text ≡ []
unfolding pairs
pairs_none text none = ap pairs_of (all_else 0 text none)

pub is_text_first : (text part rest : List ℕ) → position_or_len (is_byte 0) text < length text
    → part ≡ before_first (is_byte 0) text → rest ≡ after_first (is_byte 0) text
    → is_text text ≡ (is_pair part && is_text rest)
unfolding is_text
is_text_first text part rest some p r =
    let cut : slice_split (is_byte 0) text ≡ part ∷ slice_split (is_byte 0) rest =
    slice_split_first (is_byte 0) text 0 some ∙ rw (p, r) refl in
    ap are_pairs cut ∙ are_pairs_more part (slice_split (is_byte 0) rest) (some_part 0 rest)

pub is_text_none : (text : List ℕ) → position_or_len (is_byte 0) text ≡ length text
    → is_text text ≡ (nat_eq (length text) 0)
unfolding is_text
is_text_none text none = ap are_pairs (all_else 0 text none)

or_false : (b : Bool) → (b || false) ≡ b
or_false true = refl
or_false false = refl

pub is_listed_first : (word list item rest : List ℕ) → position_or_len (is_byte 44) list < length list
    → item ≡ before_first (is_byte 44) list → rest ≡ after_first (is_byte 44) list
    → is_listed word list ≡ (bytes_eq item word || is_listed word rest)
unfolding is_listed
is_listed_first word list item rest some p r =
    let cut : slice_split (is_byte 44) list ≡ item ∷ slice_split (is_byte 44) rest =
    slice_split_first (is_byte 44) list 0 some ∙ rw (p, r) refl in
    ap (list_any (λ x. bytes_eq x word)) cut

pub is_listed_none : (word list : List ℕ) → position_or_len (is_byte 44) list ≡ length list
    → is_listed word list ≡ bytes_eq list word
unfolding is_listed
is_listed_none word list none = ap (list_any (λ item. bytes_eq item word)) (all_else 44 list none)
    ∙ or_false (bytes_eq list word)

-- a test of the first part decides, or leaves it to the rest
pub and_false : (a b whole all : Bool) → whole ≡ (a && b) → a ≡ false → whole ≡ all → false ≡ all
and_false a b whole all e f s = sym (e ∙ ap (λ (x : Bool). x && b) f) ∙ s

pub and_true : (a b whole all : Bool) → whole ≡ (a && b) → a ≡ true → whole ≡ all → b ≡ all
and_true a b whole all e t s = sym (e ∙ ap (λ (x : Bool). x && b) t) ∙ s

pub or_true : (a b whole all : Bool) → whole ≡ (a || b) → a ≡ true → whole ≡ all → true ≡ all
or_true a b whole all e t s = sym (e ∙ ap (λ (x : Bool). x || b) t) ∙ s

pub or_left : (a b whole all : Bool) → whole ≡ (a || b) → a ≡ false → whole ≡ all → b ≡ all
or_left a b whole all e f s = sym (e ∙ ap (λ (x : Bool). x || b) f) ∙ s
