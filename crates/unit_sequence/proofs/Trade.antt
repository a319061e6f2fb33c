-- The right goes into an update, and comes back with it.
use Rattle.std.proofs.Common.{◌≡◌, ℕ, suc, Bool, true, false, cond, List, [], ◌∷◌, ◌++◌, length, sym, refl, ap, ◌∙◌, subst, arith, length-append}
use seplogic.Ra.Ura.{Ura}
use base.Fraction.{full_share}
use base.Share.{quarter, three_quarters}
use base.Logic.{SProp, ent, sep, wand, all, upd, all_i, upd_i, emp, via}
use base.Fml.{Fml, ftrue, fsep, fex}
use types.Logic.{Logic, sem}
use types.Owned.{basic}
use types.Keyed.{entries_new, entries_take, entries_from}
use types.Kit.{‵, raw, ◌⊛◌, some, given, later, ◌$◌, ◌∵◌, !, qed, by, move, keep, drop, split, fjoin, fpack, learn, pick, assume, suffices, settle, done, use0, use1, use2}
use types.Kit.{rewrite, await, updating, now, show}
use denote.Steps.{nothing}
use types.Keyed.{entry_keyless}
use Rattle.logbook.specs.Pages.{Calm}
use Rattle.logbook.specs.Kept.{part, halved, offer}
use Rattle.logbook.proofs.Roster.{resets, joined}
use Rattle.unit_sequence.specs.declared.right.Answer.{Answer}
use Rattle.unit_sequence.specs.Rights.{first_of, right_owns, counts, count_after, gained, AddsEntry}

pub calm : {E : Type 0} (names : List ℕ) → Calm {E = E} (counts names)
calm names xs = entry_keyless halved (first_of names) 0 _

counted : {E : Type 0} (b : Bool) (found : ℕ) (xs ys : List E) (ask : E) → found ≡ length xs → ys ≡ cond b (xs ++ ask ∷ []) xs → length ys ≡ cond b (suc found) found
counted true found xs ys ask h e = let q = length-append xs (ask ∷ []) in let p = ap length e in omega arith
counted false found xs ys ask h e = ap length e ∙ sym h

module _ {M : Type 1} {𝓤 : Ura M} (𝓛 : Logic 𝓤) where
  abbrev Pr : Type 2
  Pr = SProp 𝓤

  pub trades : {E : Type 0} (names : List ℕ) (log : List E) (ask : E)
      → ent 𝓤 (sem 𝓛 (right_owns (first_of names) (length log))) (sem 𝓛 (offer (counts names) (AddsEntry ask) (gained names log)))
  trades {E} names log ask =
      let δ : ℕ = first_of names in let n : ℕ = length log in
      let Z : List E × List E × Answer → Pr = λ z. sep 𝓤 (sem 𝓛 (counts names z.1)) (sem 𝓛 (gained names log z.2)) in
      let N : List E × List E × Answer → Pr = λ z. wand 𝓤 (sem 𝓛 (counts names z.0)) (upd 𝓤 (Z z)) in
      all_i 𝓤 (λ (z : List E × List E × Answer). all 𝓤 (λ (_ : AddsEntry ask z.0 z.1 z.2). N z)) (λ z. all_i 𝓤 (λ (_ : AddsEntry ask z.0 z.1 z.2). N z) (λ m.
      let u : ℕ = length z.1 in
      qed 𝓛 (‵ (right_owns δ n) ∷ []) ∵ assume ! (‵ (counts names z.0)) $ move ! (1 ∷ 0 ∷ []) $
      use2 𝓛 (given (n ≡ length z.0) (‵ (part δ 0 full_share n))) (joined 𝓛 δ 0 n (length z.0)) $ learn ! (λ same.
      use1 𝓛 (raw (upd 𝓤 (sep 𝓤 (sem 𝓛 (part δ 0 quarter u)) (sem 𝓛 (part δ 0 three_quarters u))))) (resets 𝓛 δ 0 n u) $
      settle 𝓛 (Z z) (‵ (part δ 0 quarter u) ⊛ ‵ (part δ 0 three_quarters u)) $ split ! $
      suffices ! _ (upd_i 𝓤 (Z z)) $
      rewrite ! 0 (λ (k : ℕ). ‵ (part δ 0 quarter k)) (counted z.2.added z.2.found z.0 z.1 ask m.0 m.1) refl $
      nothing ! $ fpack ! (z.2.found ≡ n) (λ _. ftrue) (m.0 ∙ sym same) $ fjoin ! $ move ! (1 ∷ 0 ∷ []) $ done !)))
