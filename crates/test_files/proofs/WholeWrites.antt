-- What a write that was done leaves of a file whose sectors a crash leaves as they were flushed or as they are.
use Rattle.std.proofs.Common.{◌≡◌, ◌⊎◌, inl, inr, ⊎_elim, ℕ, ◌-◌, ◌/◌, ◌<◌, ◌≤◌, List, [], length}
use Rattle.std.proofs.Common.{sym, ◌∙◌, ap, subst, arith}
use Rattle.std.proofs.lemmas.Bool.{cases_lt}
use Rattle.std.proofs.lemmas.List.{get_or_past}
use Rattle.block_file.specs.Cut.{run_of}
use Rattle.block_file.specs.CutLaws.{length-cut}
use Rattle.block_file.specs.Disk.{block_at, Between, IsNewAt}

module _ (old new : List ℕ) (long : length new ≡ length old) where
  as_many : length (run_of new) ≡ length (run_of old)
  as_many = length-cut (length new / 512) new ∙ ap (λ (n : ℕ). n / 512) long ∙ sym (length-cut (length old / 512) old)

  sector : (k : ℕ) → (k < length (run_of new)) ⊎ (length (run_of new) ≤ k)
      → (block_at (run_of new) k ≡ block_at (run_of old) k) ⊎ IsNewAt 0 (run_of new) k (block_at (run_of new) k)
  sector k (inl lt) =
      let e : k ≡ k - 0 = omega arith in
      inr (record { from = omega arith; below = omega (arith, lt); is = ap (λ (m : ℕ). block_at (run_of new) m) e })
  sector k (inr past) =
      inl (get_or_past (run_of new) k [] past ∙ sym (get_or_past (run_of old) k [] (omega (arith, past, as_many))))

  -- each sector is that of the whole
  pub is_done : (whole : List ℕ) → new ≡ whole → Between (run_of old) 0 (run_of whole) (run_of new)
  is_done whole is =
      subst (λ (w : List ℕ). Between (run_of old) 0 (run_of w) (run_of new)) is
      (record { as_long = as_many; each = λ k. sector k (cases_lt k (length (run_of new))) })

  -- and a crash leaves no other
  pub done_adds : (lasting whole : List ℕ) → new ≡ whole → (k : ℕ) (value : List ℕ)
      → (value ≡ block_at (run_of new) k) ⊎ (value ≡ block_at (run_of lasting) k)
      → ((value ≡ block_at (run_of old) k) ⊎ (value ≡ block_at (run_of lasting) k)) ⊎ IsNewAt 0 (run_of whole) k value
  done_adds lasting whole is k value (inl now) =
      ⊎_elim (λ o. inl (inl (now ∙ o))) (λ n. inr (subst (IsNewAt 0 (run_of whole) k) (sym now) n))
      ((is_done whole is).each k)
  done_adds lasting whole is k value (inr last) = inl (inr last)
