-- A file as whole blocks: what is read and written at the offset of a block is a run of blocks.
use Rattle.std.proofs.Common.{◌≡◌, ◌⊎◌, inl, inr, ⊎_elim, ℕ, ◌+◌, ◌-◌, ◌*◌, ◌/◌, ◌<◌, List, ◌++◌, length, take, drop}
use Rattle.std.proofs.Common.{sym, ◌∙◌, ap, subst, arith, length-append, length-take, length-drop}
use Rattle.block_file.specs.Cut.{cut, run_of, IsRun}
use Rattle.block_file.specs.CutLaws.{length-cut, length-cut_at, cut_at, read_run_is, write_run_is, between_run}
use Rattle.block_file.specs.Disk.{block_at, written, range_bytes, Between, Adds, IsNewAt}
use Rattle.disk_files.specs.Backing.{LiesIn, put}

module _ (count : ℕ) (file : List ℕ) (long : length file ≡ 512 * count) where
  same_count : length file / 512 ≡ count
  same_count = omega (arith, long)

  -- it has so many blocks, each of its length
  pub as_many : length (run_of file) ≡ count
  as_many = length-cut (length file / 512) file ∙ same_count

  pub as_wide : (k : ℕ) → k < count → length (block_at (run_of file) k) ≡ 512
  as_wide k lt = length-cut_at (length file / 512) file k (omega (arith, long)) (omega (arith, long, lt))

  -- each at its place
  pub block_is : (k : ℕ) → k < count → block_at (run_of file) k ≡ take 512 (drop (512 * k) file)
  block_is k lt = cut_at (length file / 512) file k (omega (arith, long, lt))

  pub lies_before : (k : ℕ) → k < count → k < length file / 512
  lies_before k lt = omega (arith, long, lt)

  module _ (first offset : ℕ) (at : offset ≡ 512 * first) where
    run_lies : (len : ℕ) → IsRun count first len → LiesIn file offset len
    run_lies len run = omega (arith, long, at, run.whole, run.within)

    -- a run is read
    pub run_is_read : (len : ℕ) (out : List ℕ) → IsRun count first len
        → (LiesIn file offset len → out ≡ take len (drop offset file)) → out ≡ range_bytes (run_of file) first (len / 512)
    run_is_read len out run is =
        let e : len ≡ 512 * first + len - 512 * first = omega arith in
        read_run_is count first len file out long run
        (is (run_lies len run) ∙ ap (λ (m : ℕ). take m (drop offset file)) e
        ∙ ap (λ (m : ℕ). take (512 * first + len - 512 * first) (drop m file)) at)
        ∙ ap (λ (m : ℕ). range_bytes (cut m file) first (len / 512)) (sym same_count)

    module _ (part : List ℕ) (run : IsRun count first (length part)) where
      length-put_run : length (put file offset part) ≡ 512 * count
      length-put_run =
          omega (
            arith,
            long,
            run_lies (length part) run,
            length-append (take offset file) (part ++ drop (offset + length part) file),
            length-append part (drop (offset + length part) file),
            length-take offset file,
            length-drop (offset + length part) file,
          )

      -- a run is written
      run_is_put : run_of (put file offset part) ≡ written (run_of file) first (run_of part)
      run_is_put =
          let e : length (put file offset part) / 512 ≡ count = omega (arith, length-put_run) in
          ap (λ (m : ℕ). cut m (put file offset part)) e
          ∙ write_run_is count first file (put file offset part) part long run (ap (λ (m : ℕ). put file m part) at)
          ∙ ap (λ (m : ℕ). written (cut m file) first (run_of part)) (sym same_count)

      pub run_is_written : (new : List ℕ) → (LiesIn file offset (length part) → new ≡ put file offset part)
          → run_of new ≡ written (run_of file) first (run_of part)
      run_is_written new is = ap run_of (is (run_lies (length part) run)) ∙ run_is_put

      all_of_it : Between (run_of file) first (run_of part) (run_of (put file offset part))
      all_of_it =
          subst (λ (m : ℕ). Between (cut m file) first (run_of part) (run_of (put file offset part))) (sym same_count)
          (between_run count first file part (run_of (put file offset part)) run
          (run_is_put ∙ ap (λ (m : ℕ). written (cut m file) first (run_of part)) same_count))

      -- a block of the whole write is the one that was there, or of the run
      block_of_it : (k : ℕ) (value : List ℕ) → IsNewAt 0 (run_of (put file offset part)) k value
          → (value ≡ block_at (run_of file) k) ⊎ IsNewAt first (run_of part) k value
      block_of_it k value new =
          let e : k - 0 ≡ k = omega arith in
          subst (λ (v : List ℕ). (v ≡ block_at (run_of file) k) ⊎ IsNewAt first (run_of part) k v)
          (sym (new.is ∙ ap (λ (m : ℕ). block_at (run_of (put file offset part)) m) e)) (all_of_it.each k)

      -- of a write that failed each block is old or new
      pub run_is_torn : (new : List ℕ)
          → (LiesIn file offset (length part) → Between (run_of file) 0 (run_of (put file offset part)) (run_of new))
          → Between (run_of file) first (run_of part) (run_of new)
      run_is_torn new is =
          let torn = is (run_lies (length part) run) in
          record {
            as_long = torn.as_long;
            each = λ k. ⊎_elim (λ old. inl old) (λ n. block_of_it k (block_at (run_of new) k) n) (torn.each k);
          }

      -- and a crash may leave no more than it might, or the new ones
      pub run_adds : (old new : ℕ → List ℕ → Type 0)
          → ((k : ℕ) → k < length file / 512 → old k (block_at (run_of file) k))
          → (LiesIn file offset (length part) → Adds 0 (run_of (put file offset part)) old new)
          → Adds first (run_of part) old new
      run_adds old new now adds k value held =
          ⊎_elim (λ o. inl o)
          (λ n.
          let below : k < length file / 512 = omega (
            arith,
            long,
            length-put_run,
            n.below,
            length-cut (length (put file offset part) / 512) (put file offset part),
          ) in
          ⊎_elim (λ is. inl (subst (old k) (sym is) (now k below))) (λ m. inr m) (block_of_it k value n))
          (adds (run_lies (length part) run) k value held)

-- what a call says of an offset it says of the same offset
pub said_at : (says : ℕ → List ℕ → Type 0) (offset at : ℕ) (bytes : List ℕ) → offset ≡ at → says offset bytes → says at bytes
said_at says offset at bytes e said = subst (λ (m : ℕ). says m bytes) e said
