-- One more of a list of which something holds at each place.
use Rattle.std.proofs.Common.{◌≡◌, ◌⊎◌, List, [], ◌∷◌, ◌++◌, refl, ap, inl, inr}
use Rattle.session_rules.specs.Words.{AllByRecursion}
use Rattle.session_rules.specs.{Turn.Turn, Legal.AtEachOf, Legal.AtEach}

-- where a list is cut, and one is put together of a front and one element more
module _ {A : Type 0} where
  split_one : (ts : List A) (t : A) (before : List A) (u : A) (behind : List A)
      → ts ++ t ∷ [] ≡ before ++ (u ∷ behind)
      → ((rest : List A) × (ts ≡ before ++ (u ∷ rest))) ⊎ ((before ≡ ts) × (u ≡ t))
  split_one [] t [] u behind e = inr (refl, let same : u ≡ t = cc in same)
  split_one [] t (x ∷ []) u behind e = absurd (cc)
  split_one [] t (x ∷ (y ∷ before)) u behind e = absurd (cc)
  split_one (x ∷ ts) t [] u behind e = let same : x ≡ u = cc in inl (ts, ap (λ (z : A). z ∷ ts) same)
  split_one (x ∷ ts) t (y ∷ before) u behind e =
      let same : x ≡ y = cc in
      let rest : ts ++ t ∷ [] ≡ before ++ (u ∷ behind) = cc in
      elim (split_one ts t before u behind rest) [
        | inl w ↦ inl (w.0, let front : x ∷ ts ≡ y ∷ (before ++ (u ∷ w.0)) = cc in front)
        | inr w ↦ inr (let front : y ∷ before ≡ x ∷ ts = cc in front, w.1)
      ]

  pub at_each_of_more : (P : List A → A → Type 0) (ts : List A) (t : A) → AtEachOf P ts → P ts t
      → AtEachOf P (ts ++ t ∷ [])
  at_each_of_more P ts t each here before u behind e = elim (split_one ts t before u behind e) [
    | inl w ↦ each before u w.0 w.1
    | inr w ↦ rw (w.0, w.1) here
  ]

  pub at_each_of_none : (P : List A → A → Type 0) → AtEachOf P []
  at_each_of_none P [] u behind e = absurd (cc)
  at_each_of_none P (x ∷ before) u behind e = absurd (cc)

pub at_each_more : (P : List Turn → Turn → Type 0) (ts : List Turn) (t : Turn) → AtEach P ts → P ts t
    → AtEach P (ts ++ t ∷ [])
at_each_more P ts t each here = at_each_of_more P ts t each here

pub at_each_none : (P : List Turn → Turn → Type 0) → AtEach P []
at_each_none P = at_each_of_none P

pub all_append : {A : Type 0} (P : A → Type 0) (xs ys : List A) → AllByRecursion P xs → AllByRecursion P ys
    → AllByRecursion P (xs ++ ys)
all_append P [] ys h k = k
all_append P (x ∷ xs) ys h k = (h.0, all_append P xs ys h.1 k)
