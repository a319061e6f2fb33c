-- A loop that appends what each item of a list gives.
use Rattle.std.proofs.Common.{◌≡◌, ℕ, ◌+◌, ◌<◌, List, [], ◌++◌, length, take, get_or, ap, ◌∙◌}
use Rattle.std.proofs.lemmas.List.{take_more, flat_map_more}
use Rattle.std.specs.List.{flat_map}
use Rattle.registrants.specs.declared.registrant.Registrant.{Registrant}

pub appended_more : (f : Registrant → List ℕ) (xs : List Registrant) (i : ℕ) (x : Registrant) (bytes : List ℕ)
    → i < length xs → x ≡ get_or xs i x → bytes ≡ flat_map f (take i xs) → bytes ++ f x ≡ flat_map f (take (i + 1) xs)
appended_more f xs i x bytes lt is so_far =
    ap (λ (y : Registrant). bytes ++ f y) is
    ∙ rw (take_more xs i x lt) (rw so_far (flat_map_more f [] (take i xs) (get_or xs i x)))
