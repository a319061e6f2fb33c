-- Laws of bytes that are cut into blocks.
use Rattle.std.proofs.Common.{◌≡◌, ◌⊎◌, inl, inr, ⊎_elim, ℕ, zero, suc, ◌+◌, ◌-◌, ◌*◌, ◌/◌, ◌<◌, ◌≤◌, List, [], ◌∷◌}
use Rattle.std.proofs.Common.{◌++◌, length, min, get_or, take, drop, replicate, flat_map, refl, sym, ◌∙◌}
use Rattle.std.proofs.Common.{ap, subst, arith, append_assoc, length-take, length-drop}
use Rattle.std.proofs.lemmas.Bool.{cases_lt}
use Rattle.std.proofs.lemmas.List.{take_all, drop-drop, take-append-le, drop-append-le, take-append-drop, get_or-take}
use Rattle.std.proofs.lemmas.List.{take-take, drop-take, take-replicate, drop-replicate, length-take-le}
use Rattle.block_file.specs.Cut.{cut, run_of, IsRun}
use Rattle.block_file.specs.Disk.{block_at, written, range_bytes, Between, IsNewAt}
use Rattle.block_file.specs.DiskLaws.{between_written}

pub length-cut : (n : ℕ) (bytes : List ℕ) → length (cut n bytes) ≡ n
length-cut zero bytes = refl
length-cut (suc n) bytes = ap suc (length-cut n (drop 512 bytes))

-- the block at a place
pub cut_at : (n : ℕ) (bytes : List ℕ) (k : ℕ) → k < n → block_at (cut n bytes) k ≡ take 512 (drop (512 * k) bytes)
cut_at zero bytes k lt = absurd (omega arith)
cut_at (suc n) bytes zero lt = refl
cut_at (suc n) bytes (suc k) lt =
    let e : 512 + 512 * k ≡ 512 * suc k = omega arith in
    cut_at n (drop 512 bytes) k (omega arith)
    ∙ ap (take 512) (drop-drop (512 * k) 512 bytes ∙ ap (λ (m : ℕ). drop m bytes) e)

-- each block that whole bytes make has 512
pub length-cut_at : (n : ℕ) (bytes : List ℕ) (k : ℕ) → length bytes ≡ 512 * n → k < n
    → length (block_at (cut n bytes) k) ≡ 512
length-cut_at n bytes k long lt = ap length (cut_at n bytes k lt)
    ∙ (let e : length (take 512 (drop (512 * k) bytes)) ≡ 512 =
    omega (arith, length-take 512 (drop (512 * k) bytes), length-drop (512 * k) bytes, long, lt) in e)

-- one block is a run
pub run_of_one : (block : List ℕ) → length block ≡ 512 → run_of block ≡ block ∷ []
run_of_one block long =
    let e : length block / 512 ≡ 1 = omega (arith, long) in
    ap (λ (m : ℕ). cut m block) e ∙ ap (λ (b : List ℕ). b ∷ []) (take_all 512 block (omega (arith, long)))

-- zero bytes make zero blocks
pub cut_zeros : (n : ℕ) → cut n (replicate (512 * n) 0) ≡ replicate n (replicate 512 0)
cut_zeros zero = refl
cut_zeros (suc n) =
    let e : 512 * suc n - 512 ≡ 512 * n = omega arith in
    ap (λ (b : List ℕ). b ∷ cut n (drop 512 (replicate (512 * suc n) 0)))
    (take-replicate 512 (512 * suc n) 0 (omega arith))
    ∙ ap (λ (d : List ℕ). replicate 512 0 ∷ cut n d)
    (drop-replicate 512 (512 * suc n) 0 ∙ ap (λ (m : ℕ). replicate m 0) e)
    ∙ ap (λ (bs : List (List ℕ)). replicate 512 0 ∷ bs) (cut_zeros n)

-- two parts of the bytes
pub cut-append : (m n : ℕ) (xs ys : List ℕ) → length xs ≡ 512 * m → cut (m + n) (xs ++ ys) ≡ cut m xs ++ cut n ys
cut-append zero n [] ys long = let e : 0 + n ≡ n = omega arith in ap (λ (k : ℕ). cut k ys) e
cut-append zero n (x ∷ xs) ys long = absurd (omega arith)
cut-append (suc m) n xs ys long =
    let e : suc m + n ≡ suc (m + n) = omega arith in
    let front : take 512 (xs ++ ys) ≡ take 512 xs = take-append-le 512 xs ys (omega arith) in
    let back : drop 512 (xs ++ ys) ≡ drop 512 xs ++ ys = drop-append-le 512 xs ys (omega arith) in
    ap (λ (k : ℕ). cut k (xs ++ ys)) e
    ∙ ap (λ (b : List ℕ). b ∷ cut (m + n) (drop 512 (xs ++ ys))) front
    ∙ ap (λ (r : List ℕ). take 512 xs ∷ cut (m + n) r) back
    ∙ ap (λ (bs : List (List ℕ)). take 512 xs ∷ bs)
    (cut-append m n (drop 512 xs) ys (omega (arith, length-drop 512 xs)))

-- the blocks, joined again
pub joined_cut : (n : ℕ) (bytes : List ℕ) → length bytes ≡ 512 * n → flat_map (λ b. b) (cut n bytes) ≡ bytes
joined_cut zero [] long = refl
joined_cut zero (x ∷ xs) long = absurd (omega arith)
joined_cut (suc n) bytes long =
    ap (λ (r : List ℕ). take 512 bytes ++ r) (joined_cut n (drop 512 bytes) (omega (arith, length-drop 512 bytes)))
    ∙ take-append-drop 512 bytes

-- the blocks from a place on, and those before it
pub drop-cut : (k r : ℕ) (bytes : List ℕ) → drop k (cut (k + r) bytes) ≡ cut r (drop (512 * k) bytes)
drop-cut zero r bytes = let e : 0 + r ≡ r = omega arith in ap (λ (m : ℕ). cut m bytes) e
drop-cut (suc k) r bytes =
    let e : suc k + r ≡ suc (k + r) = omega arith in
    let f : 512 + 512 * k ≡ 512 * suc k = omega arith in
    ap (λ (m : ℕ). drop (suc k) (cut m bytes)) e ∙ drop-cut k r (drop 512 bytes)
    ∙ ap (cut r) (drop-drop (512 * k) 512 bytes ∙ ap (λ (m : ℕ). drop m bytes) f)

pub take-cut : (k r : ℕ) (bytes : List ℕ) → take k (cut (k + r) bytes) ≡ cut k (take (512 * k) bytes)
take-cut zero r bytes = refl
take-cut (suc k) r bytes =
    let e : suc k + r ≡ suc (k + r) = omega arith in
    let f : 512 * suc k ≡ 512 + 512 * k = omega arith in
    ap (λ (m : ℕ). take (suc k) (cut m bytes)) e
    ∙ ap (λ (bs : List (List ℕ)). take 512 bytes ∷ bs) (take-cut k r (drop 512 bytes))
    ∙ ap (λ (b : List ℕ). b ∷ cut k (take (512 * k) (drop 512 bytes)))
    (sym (take-take 512 (512 * suc k) bytes (omega arith)))
    ∙ ap (λ (r : List ℕ). take 512 (take (512 * suc k) bytes) ∷ cut k r)
    (sym (ap (λ (m : ℕ). drop 512 (take m bytes)) f ∙ drop-take 512 (512 * k) bytes))

-- a range of whole blocks is written
pub cut-written : (first n rest : ℕ) (old bytes : List ℕ) → length old ≡ 512 * (first + (n + rest))
    → length bytes ≡ 512 * n
    → cut (first + (n + rest)) (take (512 * first) old ++ (bytes ++ drop (512 * (first + n)) old))
    ≡ written (cut (first + (n + rest)) old) first (cut n bytes)
cut-written first n rest old bytes long size =
    let whole = cut (first + (n + rest)) old in
    let split : first + (n + rest) ≡ first + n + rest = omega arith in
    let long_blocks : n ≡ length (cut n bytes) = sym (length-cut n bytes) in
    cut-append first (n + rest) (take (512 * first) old) (bytes ++ drop (512 * (first + n)) old)
    (omega (arith, length-take (512 * first) old))
    ∙ ap (λ (bs : List (List ℕ)). cut first (take (512 * first) old) ++ bs)
    (cut-append n rest bytes (drop (512 * (first + n)) old) size)
    ∙ ap (λ (bs : List (List ℕ)). bs ++ (cut n bytes ++ cut rest (drop (512 * (first + n)) old)))
    (sym (take-cut first (n + rest) old))
    ∙ ap (λ (bs : List (List ℕ)). take first whole ++ (cut n bytes ++ bs))
    (sym (ap (λ (m : ℕ). drop (first + n) (cut m old)) split ∙ drop-cut (first + n) rest old))
    ∙ ap (λ (m : ℕ). take first whole ++ (cut n bytes ++ drop (first + m) whole)) long_blocks
    ∙ sym (append_assoc (take first whole) (cut n bytes) (drop (first + length (cut n bytes)) whole))

-- a run is read
pub read_run_is : (count first len : ℕ) (bytes out : List ℕ) → length bytes ≡ 512 * count → IsRun count first len
    → out ≡ take (512 * first + len - 512 * first) (drop (512 * first) bytes)
    → out ≡ range_bytes (cut count bytes) first (len / 512)
read_run_is count first len bytes out long run is =
    let n = len / 512 in
    let rest = count - first - n in
    let size : 512 * first + len - 512 * first ≡ 512 * n = omega (arith, run.whole) in
    let e : count ≡ first + (n + rest) = omega (arith, run.within) in
    let from = drop (512 * first) bytes in
    is ∙ ap (λ (m : ℕ). take m from) size
    ∙ sym (joined_cut n (take (512 * n) from)
    (omega (arith, run.within, length-take (512 * n) from, length-drop (512 * first) bytes)))
    ∙ ap (flat_map (λ b. b)) (sym (take-cut n rest from))
    ∙ ap (λ (bs : List (List ℕ)). flat_map (λ b. b) (take n bs)) (sym (drop-cut first (n + rest) bytes))
    ∙ ap (λ (m : ℕ). range_bytes (cut m bytes) first n) (sym e)

-- a run is written
pub write_run_is : (count first : ℕ) (old new bytes : List ℕ) → length old ≡ 512 * count
    → IsRun count first (length bytes)
    → new ≡ take (512 * first) old ++ (bytes ++ drop (512 * first + length bytes) old)
    → cut count new ≡ written (cut count old) first (run_of bytes)
write_run_is count first old new bytes long run is =
    let n = length bytes / 512 in
    let rest = count - first - n in
    let e : count ≡ first + (n + rest) = omega (arith, run.within) in
    let f : 512 * first + length bytes ≡ 512 * (first + n) = omega (arith, run.whole) in
    ap (cut count) (is ∙ ap (λ (m : ℕ). take (512 * first) old ++ (bytes ++ drop m old)) f)
    ∙ ap (λ (m : ℕ). cut m (take (512 * first) old ++ (bytes ++ drop (512 * (first + n)) old))) e
    ∙ cut-written first n rest old bytes (omega (arith, long, e)) (omega (arith, run.whole))
    ∙ ap (λ (m : ℕ). written (cut m old) first (cut n bytes)) (sym e)

-- and what that leaves, and adds to what a crash leaves
pub between_run : (count first : ℕ) (old bytes : List ℕ) (new : List (List ℕ)) → IsRun count first (length bytes)
    → new ≡ written (cut count old) first (run_of bytes) → Between (cut count old) first (run_of bytes) new
between_run count first old bytes new run is =
    subst (Between (cut count old) first (run_of bytes)) (sym is)
    (between_written (cut count old) (run_of bytes) first
    (omega (arith, run.within, length-cut count old, length-cut (length bytes / 512) bytes)))

pub adds_run : (disk : List (List ℕ)) (first : ℕ) (blocks new : List (List ℕ)) → Between disk first blocks new
    → (k : ℕ) (value : List ℕ) → value ≡ block_at new k → (value ≡ block_at disk k) ⊎ IsNewAt first blocks k value
adds_run disk first blocks new between k value is =
    subst (λ (v : List ℕ). (v ≡ block_at disk k) ⊎ IsNewAt first blocks k v) (sym is) (between.each k)

-- the first blocks of a run
pub front_is : (m : ℕ) (bytes : List ℕ) → m ≤ length bytes / 512
    → run_of (take (512 * m) bytes) ≡ take m (run_of bytes)
front_is m bytes le =
    let n = length bytes / 512 in
    let long : length (take (512 * m) bytes) / 512 ≡ m =
    omega (arith, length-take-le (512 * m) bytes (omega (arith, le))) in
    let e : m + (n - m) ≡ n = omega (arith, le) in
    ap (λ (k : ℕ). cut k (take (512 * m) bytes)) long ∙ sym (take-cut m (n - m) bytes)
    ∙ ap (λ (k : ℕ). take m (cut k bytes)) e

pub front_new : (first m : ℕ) (bytes : List ℕ) (k : ℕ) (value : List ℕ) → m ≤ length bytes / 512
    → IsNewAt first (run_of (take (512 * m) bytes)) k value → IsNewAt first (run_of bytes) k value
front_new first m bytes k value le new =
    let long : length (run_of (take (512 * m) bytes)) ≡ m =
    ap length (front_is m bytes le)
    ∙ length-take-le m (run_of bytes) (omega (arith, le, length-cut (length bytes / 512) bytes)) in
    let from = new.from in
    let below : k < first + m = omega (arith, new.below, long) in
    record {
      from = from;
      below = omega (arith, below, le, length-cut (length bytes / 512) bytes);
      is = new.is ∙ ap (λ (bs : List (List ℕ)). get_or bs (k - first) []) (front_is m bytes le)
          ∙ get_or-take m (run_of bytes) (k - first) [] (omega (arith, below, from));
    }

pub front_between : (first m : ℕ) (bytes : List ℕ) (old new : List (List ℕ)) → m ≤ length bytes / 512
    → Between old first (run_of (take (512 * m) bytes)) new → Between old first (run_of bytes) new
front_between first m bytes old new le between = record {
  as_long = between.as_long;
  each = λ k. ⊎_elim (λ o. inl o) (λ n. inr (front_new first m bytes k _ le n)) (between.each k);
}

-- so many blocks of a run, or all of it
pub front_lands : (lands m : ℕ) (bytes : List ℕ) → m ≡ min lands (length bytes / 512)
    → run_of (take (512 * m) bytes) ≡ take lands (run_of bytes)
front_lands lands m bytes is =
    let n = length bytes / 512 in
    let long : length (run_of bytes) ≡ n = length-cut n bytes in
    front_is m bytes (omega (arith, is))
    ∙ ⊎_elim
    (λ (lt : lands < n).
    let e : m ≡ lands = omega (arith, is, lt) in ap (λ (k : ℕ). take k (run_of bytes)) e)
    (λ (ge : n ≤ lands).
    take_all m (run_of bytes) (omega (arith, is, ge, long))
    ∙ sym (take_all lands (run_of bytes) (omega (arith, ge, long))))
    (cases_lt lands n)

-- the first bytes, so many blocks, as a run
pub run_of_front : (n : ℕ) (bytes : List ℕ) → 512 * n ≤ length bytes → run_of (take (512 * n) bytes) ≡ cut n bytes
run_of_front n bytes le =
    let long : length (take (512 * n) bytes) / 512 ≡ n = omega (arith, length-take-le (512 * n) bytes le) in
    let e : n + 0 ≡ n = omega arith in
    ap (λ (k : ℕ). cut k (take (512 * n) bytes)) long ∙ sym (take-cut n 0 bytes)
    ∙ ap (λ (k : ℕ). take n (cut k bytes)) e ∙ take_all n (cut n bytes) (omega (arith, length-cut n bytes))
