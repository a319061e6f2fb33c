-- What is read of a range that was written.
use Rattle.std.proofs.Common.{◌≡◌, ℕ, zero, suc, ◌+◌, ◌*◌, ◌<◌, ◌≤◌, List, [], ◌∷◌, ◌++◌, length, take, drop}
use Rattle.std.proofs.Common.{flat_map, refl, sym, ◌∙◌, ap, arith, append_assoc, length-take, length-drop}
use Rattle.std.proofs.Math.Seq.{take-add}
use Rattle.std.proofs.lemmas.List.{drop_at, drop-drop, get_or-drop, get_or-take, take_at}
use Rattle.block_file.specs.Cut.{cut}
use Rattle.block_file.specs.CutLaws.{length-cut}
use Rattle.block_file.specs.Disk.{block_at, written, range_bytes}

-- the blocks that bytes make, joined again
pub joined_front : (n : ℕ) (bytes : List ℕ) → flat_map (λ b. b) (cut n bytes) ≡ take (512 * n) bytes
joined_front zero bytes = refl
joined_front (suc n) bytes =
    let e : 512 + 512 * n ≡ 512 * suc n = omega arith in
    ap (λ (r : List ℕ). take 512 bytes ++ r) (joined_front n (drop 512 bytes)) ∙ sym (take-add 512 (512 * n) bytes)
    ∙ ap (λ (m : ℕ). take m bytes) e

-- the blocks of the range are those that were written
pub read_back : (disk blocks : List (List ℕ)) (first : ℕ) → first + length blocks ≤ length disk
    → take (length blocks) (drop first (written disk first blocks)) ≡ blocks
read_back disk blocks first fits =
    let rest = drop (first + length blocks) disk in
    ap (λ (d : List (List ℕ)). take (length blocks) (drop first d)) (append_assoc (take first disk) blocks rest)
    ∙ ap (λ (d : List (List ℕ)). take (length blocks) d)
    (drop_at (take first disk) (blocks ++ rest) first (omega (arith, length-take first disk)))
    ∙ take_at blocks rest (length blocks) refl

-- and its bytes too
pub written_is_read : (disk : List (List ℕ)) (first n : ℕ) (bytes : List ℕ) → first + n ≤ length disk
    → range_bytes (written disk first (cut n bytes)) first n ≡ take (512 * n) bytes
written_is_read disk first n bytes fits =
    let long = length-cut n bytes in
    ap (λ (m : ℕ). flat_map (λ b. b) (take m (drop first (written disk first (cut n bytes))))) (sym long)
    ∙ ap (flat_map (λ b. b)) (read_back disk (cut n bytes) first (omega (arith, long))) ∙ joined_front n bytes

-- a block of blocks that are joined, each of which has its length
joined_part : (blocks : List (List ℕ)) (k : ℕ)
    → ((j : ℕ) → j < length blocks → length (block_at blocks j) ≡ 512) → k < length blocks
    → take 512 (drop (512 * k) (flat_map (λ b. b) blocks)) ≡ block_at blocks k
joined_part [] k wide lt = absurd (omega arith)
joined_part (b ∷ bs) zero wide lt = take_at b (flat_map (λ x. x) bs) 512 (wide 0 (omega arith))
joined_part (b ∷ bs) (suc k) wide lt =
    let e : 512 * suc k ≡ 512 + 512 * k = omega arith in
    ap (λ (m : ℕ). take 512 (drop m (b ++ flat_map (λ x. x) bs))) e
    ∙ ap (take 512)
    (sym (drop-drop (512 * k) 512 (b ++ flat_map (λ x. x) bs))
    ∙ ap (drop (512 * k)) (drop_at b (flat_map (λ x. x) bs) 512 (wide 0 (omega arith))))
    ∙ joined_part bs k (λ j small. wide (suc j) (omega arith)) (omega arith)

-- a block of a range that was read
pub range_part : (disk : List (List ℕ)) (first n k : ℕ)
    → ((j : ℕ) → j < length disk → length (block_at disk j) ≡ 512) → first + n ≤ length disk → k < n
    → take 512 (drop (512 * k) (range_bytes disk first n)) ≡ block_at disk (first + k)
range_part disk first n k wide fits lt =
    let blocks = take n (drop first disk) in
    let long : length blocks ≡ n = omega (arith, length-take n (drop first disk), length-drop first disk) in
    let at = λ (j : ℕ) (small : j < n). get_or-take n (drop first disk) j [] small ∙ get_or-drop first disk j [] in
    joined_part blocks k (λ j small. ap length (at j (omega (arith, small, long))) ∙ wide (first + j) (omega (arith, small, long)))
    (omega (arith, long, lt)) ∙ at k lt
