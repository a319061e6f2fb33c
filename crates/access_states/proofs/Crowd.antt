-- More than two descriptors name a group twice, or one that is not there.
use Rattle.std.proofs.Common.{◌≡◌, ◌≢◌, ℕ, ◌-◌, ◌*◌, ◌/◌, ◌⊎◌, ◌%◌, ◌≤◌, suc, zero, Bool, true, false}
use Rattle.std.proofs.Common.{List, ◌∷◌, length, map, Err, refl, arith}
use Rattle.std.proofs.lemmas.Grind.{common_steps}
use Rattle.std.specs.List.{range_with_len}
use Rattle.scsi_types.specs.Cdb.{is_group_list}
use Rattle.access_states.specs.declared.list.Descriptor.{Descriptor}
use Rattle.access_states.specs.declared.list.AsetFault.TheVariants.{BadList}
use Rattle.access_states.specs.List.{is_group, is_repeated, is_proper, named_by, descriptor_at, descriptors_of}

not_true : (b : Bool) → (b ≡ true → ⊥) → b ≡ false
not_true true h = absurd (h refl)
not_true false h = refl

proper : (d : Descriptor) (later : List Descriptor) → is_proper (d ∷ later) ≡ true
    → (is_group d.group ≡ true) × (is_repeated later d.group ≡ false) × (is_proper later ≡ true)
proper d later h = grind (arith, common_steps)

one_of_two : (n : ℕ) → is_group n ≡ true → (n ≡ 1) ⊎ (n ≡ 2)
one_of_two n h = grind (arith, common_steps)

others : (b c : Descriptor) (rest : List Descriptor) (n : ℕ) → is_repeated (b ∷ c ∷ rest) n ≡ false
    → (b.group ≢ n) × (c.group ≢ n)
others b c rest n h = grind (arith, common_steps)

other : (c : Descriptor) (rest : List Descriptor) (n : ℕ) → is_repeated (c ∷ rest) n ≡ false → c.group ≢ n
other c rest n h = grind (arith, common_steps)

crowded : (a b c : ℕ) → (a ≡ 1) ⊎ (a ≡ 2) → (b ≡ 1) ⊎ (b ≡ 2) → (c ≡ 1) ⊎ (c ≡ 2) → b ≢ a → c ≢ a → c ≢ b → ⊥
crowded a b c x y z ba ca cb = grind arith

not_proper : (a b c : Descriptor) (rest : List Descriptor) → is_proper (a ∷ b ∷ c ∷ rest) ≡ true → ⊥
not_proper a b c rest h =
    let first = proper a (b ∷ c ∷ rest) h in
    let second = proper b (c ∷ rest) first.2 in
    let third = proper c rest second.2 in
    let apart = others b c rest a.group first.1 in
    crowded a.group b.group c.group (one_of_two a.group first.0) (one_of_two b.group second.0) (one_of_two c.group third.0)
    apart.0 apart.1 (other c rest b.group second.1)

three : (a b c : Descriptor) (rest : List Descriptor) → is_proper (a ∷ b ∷ c ∷ rest) ≡ false
three a b c rest = not_true (is_proper (a ∷ b ∷ c ∷ rest)) (not_proper a b c rest)

crowd : (f : ℕ → Descriptor) (n : ℕ) → 3 ≤ n → is_proper (map f (range_with_len 1 n)) ≡ false
crowd f zero h = absurd (omega arith)
crowd f (suc zero) h = absurd (omega arith)
crowd f (suc (suc zero)) h = absurd (omega arith)
crowd f (suc (suc (suc n))) h = three (f 1) (f 2) (f 3) (map f (range_with_len 4 n))

-- a list of another length than 0, 4, 8 and 12 bytes
many : (bytes : List ℕ) → length bytes % 4 ≡ 0 → length bytes ≢ 0 → length bytes ≢ 4 → length bytes ≢ 8
    → length bytes ≢ 12
    → is_proper (descriptors_of bytes) ≡ false
many bytes whole no0 no4 no8 no12 =
    crowd (λ place. descriptor_at bytes (4 * place)) (length bytes / 4 - 1) (omega (arith, whole, no0, no4, no8, no12))

pub refused : (bytes : List ℕ) → is_group_list (length bytes) ≡ true → length bytes ≢ 0 → length bytes ≢ 4
    → length bytes ≢ 8 → length bytes ≢ 12 → named_by bytes ≡ Err BadList
refused bytes whole no0 no4 no8 no12 =
    grind (arith, common_steps, many bytes (grind (arith, whole)) no0 no4 no8 no12, whole)
