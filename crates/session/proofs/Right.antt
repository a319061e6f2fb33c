-- What is right of a task stays right: laws on its R2Ts and its data.
use Rattle.std.proofs.Common.{◌≡◌, ◌⊎◌, ℕ, zero, suc, ◌+◌, ◌<◌, ◌≤◌, List, [], ◌∷◌, ◌++◌, Option, Some, None, length, take, refl}
use Rattle.std.proofs.Common.{ap, ◌∙◌, inl, inr, arith}
use Rattle.std.proofs.lemmas.{List.append-nil, List.take-append-le, List.take_all, List.Sums.sum_by_push, Option.slice_get_within}
use Rattle.session_rules.specs.Words.{slice_get, last_or, CommandHeader, R2tHeader}
use Rattle.session_rules.specs.Collecting.{sizes, r2ts_end, IsR2tAt, IsNext}

-- nothing stands in an empty list
pub none_at : {X : Type 0} (k : ℕ) (x : X) → slice_get {X = X} [] k ≡ Some x → ⊥
none_at zero x e = absurd (cc)
none_at (suc k) x e = absurd (cc)

pub get_more : {X : Type 0} (xs : List X) (y : X) (k : ℕ) (x : X) → slice_get (xs ++ y ∷ []) k ≡ Some x
    → (slice_get xs k ≡ Some x) ⊎ ((k ≡ length xs) × (x ≡ y))
get_more [] y zero x e = inr (refl, cc)
get_more [] y (suc k) x e = absurd (cc)
get_more (z ∷ xs) y zero x e = inl e
get_more (z ∷ xs) y (suc k) x e = elim (get_more xs y k x e) [ inl w ↦ inl w | inr w ↦ inr (ap suc w.0, w.1) ]

-- the last of a list, behind its front
last_is : {X : Type 0} (xs : List X) (x y : X) → last_or (Some x) xs ≡ Some y → (front : List X) × (x ∷ xs ≡ front ++ y ∷ [])
    × (slice_get (x ∷ xs) (length front) ≡ Some y)
last_is {X} [] x y e = let same : x ≡ y = cc in ([], ap (λ (z : X). z ∷ []) same, e)
last_is {X} (z ∷ xs) x y e = let w = last_is xs z y e in (x ∷ w.0, ap (λ (zs : List X). x ∷ zs) w.1, w.2)

pub last_push : {X : Type 0} (xs : List X) (o : Option X) (y : X) → last_or o (xs ++ y ∷ []) ≡ Some y
last_push [] o y = refl
last_push (x ∷ xs) o y = last_push xs (Some x) y

sizes_more : (rs : List R2tHeader) (r : R2tHeader) → sizes (rs ++ r ∷ []) ≡ sizes rs + r.desired_length
sizes_more rs r = sum_by_push (λ x. x.desired_length) rs r

front_of : {X : Type 0} (xs : List X) (x : X) → take (length xs) (xs ++ x ∷ []) ≡ xs
front_of xs x = take-append-le (length xs) xs (x ∷ []) (omega arith) ∙ take_all (length xs) xs (omega arith)

module _ (burst : ℕ) (p : CommandHeader) (need immediate came : ℕ) (rs : List R2tHeader)
    (each_r2t : (i : ℕ) (r : R2tHeader) → slice_get rs i ≡ Some r → IsR2tAt burst p need immediate came rs i r) where
  -- the last R2T ends where the R2Ts end
  last_request : (xs : List R2tHeader) (r : R2tHeader) → rs ≡ xs → last_or None xs ≡ Some r
      → (i : ℕ) × IsR2tAt burst p need immediate came rs i r × (sizes rs ≡ sizes (take i rs) + r.desired_length)
  last_request [] r is e = absurd (cc)
  last_request (x ∷ xs) r is e =
      let w = last_is xs x r e in
      let whole : rs ≡ w.0 ++ r ∷ [] = is ∙ w.1 in (
        length w.0,
        each_r2t (length w.0) r (rw is w.2),
        rw (whole, front_of w.0 r) (sizes_more w.0 r),
      )

  pub end_is : (r : R2tHeader) → last_or None rs ≡ Some r → r2ts_end immediate rs ≡ r.offset + r.desired_length
  end_is r e = let w = last_request rs r refl e in omega (arith, w.1.place, w.2)

  -- they do not go beyond the need
  pub within_need : (r : R2tHeader) → last_or None rs ≡ Some r → r2ts_end immediate rs ≤ need
  within_need r e = let w = last_request rs r refl e in omega (arith, end_is r e, w.1.size, w.1.some)

  -- more data, or more R2Ts behind these
  on : (now : ℕ) (more : List R2tHeader) → came ≤ now → (i : ℕ) (r : R2tHeader) → slice_get rs i ≡ Some r
      → IsR2tAt burst p need immediate now (rs ++ more) i r
  on now more less i r e =
      let q = each_r2t i r e in
      record {
        number = q.number;
        place = rw (take-append-le i rs more (omega (arith, slice_get_within rs i r e))) q.place;
        size = q.size;
        some = q.some;
        turn = omega (arith, q.turn, less);
        tag = q.tag;
        lun = q.lun;
      }

  pub more_data : (now : ℕ) → came ≤ now → (i : ℕ) (r : R2tHeader) → slice_get rs i ≡ Some r
      → IsR2tAt burst p need immediate now rs i r
  more_data now less i r e = rw (← append-nil rs) (on now [] less i r e)

  -- one R2T more
  pub more_r2ts : (n : R2tHeader) → 0 < burst → came ≡ r2ts_end immediate rs → came < need
      → IsNext burst p need came (length rs) n
      → (i : ℕ) (r : R2tHeader) → slice_get (rs ++ n ∷ []) i ≡ Some r
      → IsR2tAt burst p need immediate came (rs ++ n ∷ []) i r
  more_r2ts n some all short next i r e = elim (get_more rs n i r e) [
    | inl w ↦ on came (n ∷ []) (omega arith) i r w
    | inr w ↦ rw (w.0, w.1) (record {
      number = next.number;
      place = rw (front_of rs n) (next.place ∙ all);
      size = rw next.place next.size;
      some = omega (arith, next.size, short, some);
      turn = omega (arith, next.place);
      tag = next.tag;
      lun = next.lun;
    })
  ]

  pub reaches : (n : R2tHeader) → 0 < burst → came ≡ r2ts_end immediate rs → came < need
      → IsNext burst p need came (length rs) n
      → came < r2ts_end immediate (rs ++ n ∷ [])
  reaches n some all short next = omega (arith, sizes_more rs n, next.size, short, all, some)
