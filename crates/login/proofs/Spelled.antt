-- Pairs that are spelled are read again, and a text is what its pairs spell.
use Rattle.std.proofs.Common.{◌≡◌, ◌≢◌, ℕ, zero, suc, ◌+◌, ◌<◌, List, [], ◌∷◌, ◌++◌, Bool, true, false, ◌&&◌}
use Rattle.std.proofs.Common.{length, get_or, take, drop, refl, sym, ap, ◌∙◌, arith, append_assoc}
use Rattle.std.proofs.Common.{length-append, drop-cons, add-one}
use Rattle.std.specs.Prelude.{nat_lt, ◌==◌}
use Rattle.std.specs.List.{All, slice_split, before_first, after_first, position_or_len, join_with_byte}
use Rattle.std.proofs.Math.ListN.{get_or-append}
use Rattle.std.proofs.Math.Seq.{take-append_seam, drop-append-add, get_or-append_seam}
use Rattle.std.proofs.lemmas.Bool.Decides.{nat_tests}
use Rattle.std.proofs.lemmas.List.{take-append-drop}
use Rattle.std.proofs.lemmas.List.Elements.{All-append}
use Rattle.std.proofs.lemmas.List.Splits.{slice_split_at, join_with_byte-slice_split}
use Rattle.std.proofs.lemmas.List.Sums.{position_or_len_is, passes_at_first}
use Rattle.login.specs.Text.{Pair, IsPair, ArePairs, is_byte, pair_of, pairs_of, pairs, is_pair, are_pairs, is_text, text_of}
use Rattle.login.proofs.Cuts.{not_byte, this_byte, some_part, pairs_of_more, are_pairs_more}

all_one : (P : ℕ → Type 0) (x : ℕ) → P x → All P (x ∷ [])
all_one P x h zero d lt = h
all_one P x h (suc k) d lt = absurd (omega arith)

-- the first of a byte stands behind bytes that are others
place : (c : ℕ) (xs ys : List ℕ) → All (λ b. b ≢ c) xs → position_or_len (is_byte c) (xs ++ c ∷ ys) ≡ length xs
place c xs ys others =
    position_or_len_is (is_byte c) (xs ++ c ∷ ys) (length xs) 0 (omega (arith, length-append xs (c ∷ ys)))
    (λ k lt. not_byte c _ (λ e. others k 0 lt (sym (get_or-append xs (c ∷ ys) 0 k lt) ∙ e)))
    (λ lt. this_byte c _ (get_or-append_seam xs c ys 0))

-- the part of a pair is read as the pair
part_of : Pair → List ℕ
part_of p = p.key ++ 61 ∷ p.value

pair_of_part : (p : Pair) → IsPair p → pair_of (part_of p) ≡ p
unfolding part_of
pair_of_part p h =
    let part : List ℕ = p.key ++ 61 ∷ p.value in
    let n : position_or_len (is_byte 61) part ≡ length p.key = place 61 p.key p.value (λ k d lt. (h.key k d lt).0) in
    let key : before_first (is_byte 61) part ≡ p.key = ap (λ (m : ℕ). take m part) n
    ∙ take-append_seam p.key (61 ∷ p.value) in
    let value : after_first (is_byte 61) part ≡ p.value = ap (λ (m : ℕ). drop (m + 1) part) n
    ∙ drop-append-add p.key (61 ∷ p.value) 1 in
    let made : List ℕ → List ℕ → Pair = λ a b. record { key = a; value = b } in
    ap (λ (a : List ℕ). made a (after_first (is_byte 61) part)) key ∙ ap (λ (b : List ℕ). made p.key b) value

fits : (n len : ℕ) → n < len → 0 < n → n < 64 → (nat_lt n len && (nat_lt 0 n && nat_lt n 64)) ≡ true
fits n len a b c = grind (arith, nat_tests)

is_pair_part : (p : Pair) → IsPair p → is_pair (part_of p) ≡ true
unfolding part_of
is_pair_part p h =
    let part : List ℕ = p.key ++ 61 ∷ p.value in
    let n : position_or_len (is_byte 61) part ≡ length p.key = place 61 p.key p.value (λ k d lt. (h.key k d lt).0) in
    ap (λ (m : ℕ). nat_lt m (length part) && (nat_lt 0 m && nat_lt m 64)) n
    ∙ fits (length p.key) (length part) (omega (arith, length-append p.key (61 ∷ p.value))) h.some h.short

no_zero : (p : Pair) → IsPair p → All (λ b. is_byte 0 b ≡ false) (part_of p)
unfolding part_of
no_zero p h =
    let P : ℕ → Type 0 = λ b. is_byte 0 b ≡ false in
    All-append P p.key (61 ∷ p.value) (λ k d lt. not_byte 0 _ ((h.key k d lt).1))
    (All-append P (61 ∷ []) p.value (all_one P 61 refl) (λ k d lt. not_byte 0 _ (h.value k d lt)))

text_of_more : (p : Pair) (ps : List Pair) → text_of (p ∷ ps) ≡ part_of p ++ 0 ∷ text_of ps
unfolding part_of
text_of_more p ps = simp append_assoc

split_more : (p : Pair) (ps : List Pair) → IsPair p
    → slice_split (is_byte 0) (text_of (p ∷ ps)) ≡ part_of p ∷ slice_split (is_byte 0) (text_of ps)
split_more p ps h = ap (slice_split (is_byte 0)) (text_of_more p ps)
    ∙ slice_split_at (is_byte 0) (part_of p) 0 (text_of ps) (no_zero p h) refl

-- What pairs spell is a text, and is read as those pairs.
pub again : (ps : List Pair) → ArePairs ps → (is_text (text_of ps) ≡ true) × (pairs (text_of ps) ≡ ps)
unfolding is_text pairs
again [] h = (refl, refl)
again (p ∷ ps) h =
    let parts : List (List ℕ) = slice_split (is_byte 0) (text_of ps) in
    let more = split_more p ps h.0 in
    let some : 0 < length parts = some_part 0 (text_of ps) in
    let rest = again ps h.1 in (
      ap are_pairs more ∙ are_pairs_more (part_of p) parts some
          ∙ ap (λ (x : Bool). x && is_text (text_of ps)) (is_pair_part p h.0) ∙ rest.0,
      ap pairs_of more ∙ pairs_of_more (part_of p) parts some
          ∙ ap (λ (x : Pair). x ∷ pairs (text_of ps)) (pair_of_part p h.0) ∙ ap (λ (x : List Pair). p ∷ x) rest.1,
    )

inside : (n len : ℕ) (b : Bool) → (nat_lt n len && b) ≡ true → n < len
inside n len b h = grind (arith, nat_tests)

is_this : (c b : ℕ) → is_byte c b ≡ true → b ≡ c
is_this c b h = grind (arith, nat_tests)

part_again : (part : List ℕ) → is_pair part ≡ true → part_of (pair_of part) ≡ part
unfolding part_of
part_again part h =
    let n : ℕ = position_or_len (is_byte 61) part in
    let lt : n < length part = inside n (length part) (nat_lt 0 n && nat_lt n 64) h in
    let hit : get_or part n 0 ≡ 61 = is_this 61 (get_or part n 0) (passes_at_first (is_byte 61) part 0 lt) in
    let tail : 61 ∷ drop (n + 1) part ≡ drop n part =
    sym (drop-cons part n 0 lt ∙ ap (λ (b : ℕ). b ∷ drop (suc n) part) hit
    ∙ ap (λ (k : ℕ). 61 ∷ drop k part) (sym (add-one n))) in
    ap (λ (x : List ℕ). take n part ++ x) tail ∙ take-append-drop n part

both_parts : (a b : Bool) → (a && b) ≡ true → (a ≡ true) × (b ≡ true)
both_parts true b h = (refl, h)
both_parts false b h = cc

not_zero : (n : ℕ) → (suc n == 0) ≡ true → ⊥
not_zero n h = grind (arith, nat_tests)

join_again : (part : List ℕ) (parts : List (List ℕ)) → are_pairs (part ∷ parts) ≡ true
    → text_of (pairs_of (part ∷ parts)) ≡ join_with_byte 0 (part ∷ parts)
join_again [] [] h = refl
join_again (b ∷ bs) [] h = absurd (not_zero (length bs) h)
join_again part (next ∷ more) h =
    let two = both_parts (is_pair part) (are_pairs (next ∷ more)) h in
    text_of_more (pair_of part) (pairs_of (next ∷ more))
    ∙ ap (λ (x : List ℕ). x ++ 0 ∷ text_of (pairs_of (next ∷ more))) (part_again part two.0)
    ∙ ap (λ (x : List ℕ). part ++ 0 ∷ x) (join_again next more two.1)

join_all : (parts : List (List ℕ)) → 0 < length parts → are_pairs parts ≡ true
    → text_of (pairs_of parts) ≡ join_with_byte 0 parts
join_all [] some h = absurd (omega arith)
join_all (part ∷ parts) some h = join_again part parts h

pub spelled_again : (text : List ℕ) → is_text text ≡ true → text_of (pairs text) ≡ text
unfolding is_text pairs
spelled_again text h = join_all (slice_split (is_byte 0) text) (some_part 0 text) h ∙ join_with_byte-slice_split 0 text
