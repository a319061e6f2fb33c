-- What came between two beginnings of one history.
use Rattle.std.proofs.Common.{◌≡◌, ℕ, ◌+◌, ◌≤◌, arith, subst, List, [], ◌∷◌, ◌++◌, sym, ap, ◌∙◌, append_assoc}
use Rattle.std.proofs.lemmas.List.Sums.{sum_by-append}
use mathlib.Core.List.{IsPrefix}
use Rattle.status.specs.Views.{counted}
use Rattle.unit_lock.specs.Calls.{Known, IsAdded}

pub counted_prefix : {E : Type 0} (m : ℕ → E → ℕ) (s : ℕ) (xs ys : List E) → IsPrefix xs ys → counted m s xs ≤ counted m s ys
counted_prefix m s xs ys p = subst (λ l. counted m s xs ≤ counted m s l) p.1 (let q = sum_by-append (m s) xs p.0 in omega arith)

-- where as many were counted before, none came between
no_more : {E : Type 0} (m : ℕ → E → ℕ) (s n : ℕ) (xs ys : List E) → (p : IsPrefix xs ys) → n ≤ counted m s xs
    → counted m s ys ≡ n → counted m s p.0 ≡ 0
no_more m s n xs ys p le e =
    let q = sum_by-append (m s) xs p.0 in
    let r = ap (counted m s) p.1 in
    omega arith

-- a call that added an entry
pub added : {E : Type 0} (m : ℕ → E → ℕ) (legal : List E → Type 0) (P : List E → E → Type 0) (before after : Known E)
    (n : ℕ) (h : List E) (e : E) → IsPrefix before.seen h → n ≤ counted m before.session before.seen
    → counted m before.session h ≡ n → after.seen ≡ h ++ e ∷ [] → legal after.seen → P h e
    → IsAdded m legal before after P
added m legal P before after n h e p le is end may says = (
  p.0,
  e,
  no_more m before.session n before.seen h p le is,
  end ∙ ap (λ (l : List _). l ++ e ∷ []) (sym p.1),
  may,
  subst (λ (l : List _). P l e) (sym p.1) says,
)
