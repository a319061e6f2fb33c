use Rattle.std.proofs.Common.{◌==◌, ◌&&◌, ◌||◌, ◌≡◌, ◌⊎◌, ◌∙◌, ◌-◌, ℕ, Bool, List, refl, sym, ap, ap₂, inl, inr, slice_index_or, take, drop}
use Rattle.std.proofs.Common.{length}
use Rattle.std.proofs.lemmas.List.{take_rest}
use Rattle.session_rules.specs.Words.{bytes_eq, slice_index}
use Rattle.session_tasks.proofs.task_management.is_same_unit.Goals as goal

addressed : (b : List ℕ) (same : Bool) → (slice_index_or b 0 0 ≡ 0) ⊎ (slice_index_or b 0 0 ≡ 64)
    → same ≡ ((slice_index b 0 == 0x00 || slice_index b 0 == 0x40) && same)
addressed b same (inl e) = rw e refl
addressed b same (inr e) = rw e refl

rest_of : (xs : List ℕ) → length xs ≡ 8 → take 7 (drop 1 xs) ≡ drop 1 xs
rest_of xs e = ap (λ (n : ℕ). take (n - 1) (drop 1 xs)) (sym e) ∙ take_rest xs 1

pub returns-in-0 : goal.returns-in-0
returns-in-0 c =
    c.eq.ensures ∙ ap₂ bytes_eq (rest_of c.args.named.now c.told-named) (rest_of c.args.other.now c.told-other)
    ∙ addressed c.args.other.now (bytes_eq (drop 1 c.args.named.now) (drop 1 c.args.other.now)) c.in-0.is
