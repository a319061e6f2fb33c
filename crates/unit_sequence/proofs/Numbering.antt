-- The steps of the right's holder.
use Rattle.std.proofs.Common.{◌≡◌, ℕ, ◌+◌, ◌<◌, ◌==◌, Bool, true, false, List, [], ◌∷◌, ◌++◌, length, refl, ap, sym}
use Rattle.std.proofs.Common.{subst, arith, inr, length-append, None, Some}
use Rattle.std.proofs.lemmas.List.{append-nil}
use Rattle.std.proofs.lemmas.Bool.Decides.{nat_tests}
use mathlib.Core.List.{IsPrefix}
use prog.Atomic.{either}
use Rattle.logbook.specs.Pages.{Cell, cell, keeps, no_nib, step, Moves, Goes}
use Rattle.unit_sequence.specs.declared.right.Answer.{Answer}
use Rattle.unit_sequence.specs.Rights.{IsCounted, AddsEntry, Numbered, AddedNothing}
use Rattle.unit_sequence.proofs.Beginnings.{prefix_whole}

abbrev shown : {E : Type 0} → List E → List E
shown log = log

abbrev answer : ℕ → Bool → Answer
answer n b = record { found = n; added = b }

module _ {E : Type 0} where
  goes : (log v : List E) (e : E) → IsPrefix v log → (b : Bool) → (length log == length v) ≡ b
      → Goes IsCounted shown (AddsEntry e) 0 (v, (no_nib, None)) (λ n. either (n == length v) (length v + 1) n)
      (Numbered (step 0 (length v) (length v + 1) e) (v, (no_nib, None))) ((length log, true) ∷ (0, true) ∷ []) log
  goes log v e pre true is =
      let here : length v ≡ length log = grind (arith, nat_tests) in
      let same : v ≡ log = prefix_whole v log pre (omega (arith, here)) in
      let n : either (length log == length v) (length v + 1) (length log) ≡ length (log ++ e ∷ []) =
      rw is (omega (arith, here, length-append log (e ∷ []))) in (
        keeps,
        e ∷ [],
        Some (answer (length log) true),
        tt,
        ap (λ (k : ℕ). (k, true) ∷ (0, true) ∷ []) n,
        inr (answer (length log) true, refl, refl, (refl, refl)),
        (answer (length log) true, refl, refl, (λ _. (refl, ap (λ l. l ++ e ∷ []) (sym same)))),
      )
  goes log v e pre false is =
      let all : log ++ [] ≡ log = append-nil log in
      let n : either (length log == length v) (length v + 1) (length log) ≡ length (log ++ []) =
      rw is (ap length (sym all)) in (
        keeps,
        [],
        Some (answer (length log) false),
        tt,
        ap (λ (k : ℕ). (k, true) ∷ (0, true) ∷ []) n,
        inr (answer (length log) false, refl, refl, (refl, all)),
        (answer (length log) false, refl, refl, (λ h. absurd (grind (arith, nat_tests)))),
      )

  pub adds_moves : (v : List E) (e : E) (old : ℕ) → old ≡ length v
      → Moves IsCounted shown (AddsEntry e) 0 (v, (no_nib, None)) (λ n. either (n == old) (old + 1) n)
      (Numbered (step 0 old (old + 1) e) (v, (no_nib, None)))
  adds_moves v e old len = rw len (λ cs log kept pre away.
      let P : List Cell → Type 0 = λ c. (0 < length c) × ((cell c 0).1 ≡ true)
      × Goes IsCounted shown (AddsEntry e) 0 (v, (no_nib, None)) (λ n. either (n == length v) (length v + 1) n)
      (Numbered (step 0 (length v) (length v + 1) e) (v, (no_nib, None))) c log in
      subst P (sym kept) (omega arith, refl, goes log v e pre (length log == length v) refl))

  pub looks_moves : (v : List E) (e : E)
      → Moves IsCounted shown (AddsEntry e) 0 (v, (no_nib, None)) (λ n. n) (AddedNothing (step 0 0 0 e) (v, (no_nib, None)))
  looks_moves v e cs log kept pre away =
      let P : List Cell → Type 0 = λ c. (0 < length c) × ((cell c 0).1 ≡ true)
      × Goes IsCounted shown (AddsEntry e) 0 (v, (no_nib, None)) (λ n. n) (AddedNothing (step 0 0 0 e) (v, (no_nib, None))) c log in
      let all : log ++ [] ≡ log = append-nil log in
      let here : Goes IsCounted shown (AddsEntry e) 0 (v, (no_nib, None)) (λ n. n) (AddedNothing (step 0 0 0 e) (v, (no_nib, None)))
      ((length log, true) ∷ (0, true) ∷ []) log = (
        keeps,
        [],
        Some (answer (length log) false),
        tt,
        ap (λ (k : List E). (length k, true) ∷ (0, true) ∷ []) (sym all),
        inr (answer (length log) false, refl, refl, (refl, all)),
        (answer (length log) false, refl, ap length (sym all), refl),
      ) in
      subst P (sym kept) (omega arith, refl, here)
