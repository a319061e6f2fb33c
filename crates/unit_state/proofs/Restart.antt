-- What a restart finds.
use Rattle.std.proofs.Common.{◌≡◌, ℕ, List, ◌∷◌, [], ⊎_elim, arith, subst}
use Rattle.std.specs.Prelude.{Contains}
use Rattle.std.proofs.lemmas.List.Elements.{All-contains_itself, Contains-append_right}
use Rattle.aptpl_file.specs.Holds.{Holds, HoldsOneOf}
use Rattle.registrants.specs.Registry.{RecordValue}

pub found_among : (disk : List (List ℕ)) (found : RecordValue)
    → ((r : RecordValue) → Holds disk r → r ≡ found) → (named : List RecordValue) → HoldsOneOf named disk
    → Contains named found
found_among disk found one [] holds = absurd holds
found_among disk found one (r ∷ rs) holds = ⊎_elim
    (λ (here : Holds disk r). subst (λ (x : RecordValue). Contains (r ∷ rs) x) (one r here)
    (All-contains_itself (r ∷ rs) 0 r (omega arith)))
    (λ (there : HoldsOneOf rs disk). Contains-append_right (r ∷ []) rs found (found_among disk found one rs there))
    holds
