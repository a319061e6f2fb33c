-- Numbers digit by digit.
use Rattle.std.proofs.Common.{◌≡◌, ℕ, ◌+◌, ◌*◌, ◌<◌, ◌≤◌, List, [], ◌∷◌, suc, Bool, true, false, length}
use Rattle.std.proofs.Common.{get_or, drop, refl, sym, ap, ◌∙◌, drop-cons, add-one, arith, Option, Some, None}
use Rattle.std.specs.Prelude.{nat_lt, if◌then◌else◌}
use Rattle.std.specs.Char.{digit_value}
use Rattle.std.proofs.lemmas.Bool.Decides.{nat_tests}
use Rattle.std.proofs.Math.Nat.{le-mul_of_pos_right}
use Rattle.login.specs.Number.{read_on, within}

-- a number does not shrink by further digits
pub beyond : (base n most : ℕ) (cs : List ℕ) → 0 < base → most < n → within 0 most (read_on base n cs) ≡ None
beyond base n most [] some more = grind (arith, nat_tests)
beyond base n most (c ∷ cs) some more =
    let grown : n ≤ n * base = le-mul_of_pos_right n some in
    let go : within 0 most (read_on base (n * base + digit_value c) cs) ≡ None =
    beyond base (n * base + digit_value c) most cs some (omega arith) in
    elim (nat_lt (digit_value c) base) as
    (λ v. within 0 most (if v then read_on base (n * base + digit_value c) cs else None)
    ≡ None) [ true ↦ go | false ↦ refl ]

-- a number within the higher limit, and the lower one
pub raised : (low high n : ℕ) (o : Option ℕ) → within 0 high o ≡ Some n → low ≤ n → within low high o ≡ Some n
raised low high n None e h = cc
raised low high n (Some m) e h = grind (arith, nat_tests)

pub raised_below : (low high n : ℕ) (o : Option ℕ) → within 0 high o ≡ Some n → n < low → within low high o ≡ None
raised_below low high n None e h = refl
raised_below low high n (Some m) e h = grind (arith, nat_tests)

pub raised_none : (low high : ℕ) (o : Option ℕ) → within 0 high o ≡ None → within low high o ≡ None
raised_none low high None e = refl
raised_none low high (Some m) e = grind (arith, nat_tests)

digit_first : (base n d c : ℕ) (cs : List ℕ) → digit_value c ≡ d → d < base
    → read_on base n (c ∷ cs) ≡ read_on base (n * base + d) cs
digit_first base n d c cs e small =
    let yes : nat_lt (digit_value c) base ≡ true = grind (arith, nat_tests) in
    ap (λ (v : Bool). if v then read_on base (n * base + digit_value c) cs else None) yes
    ∙ ap (λ (x : ℕ). read_on base (n * base + x) cs) e

-- one digit more
pub digit_more : (base n d : ℕ) (cs : List ℕ) (i : ℕ) → i < length cs → digit_value (get_or cs i 0) ≡ d → d < base
    → read_on base n (drop i cs) ≡ read_on base (n * base + d) (drop (i + 1) cs)
digit_more base n d cs i lt e small =
    ap (read_on base n) (drop-cons cs i 0 lt) ∙ digit_first base n d (get_or cs i 0) (drop (suc i) cs) e small
    ∙ ap (λ (k : ℕ). read_on base (n * base + d) (drop k cs)) (sym (add-one i))
