-- Each step keeps what the passes know.
use Rattle.std.proofs.Common.{◌≡◌, ◌≢◌, ◌⊎◌, ℕ, zero, suc, ◌+◌, ◌<◌, ◌≤◌, Bool, List, [], ◌∷◌, ◌++◌, length, set, true, false, true≢false, refl, sym, ap, ◌∙◌, subst, inl, inr, ⊎_elim, arith, length-append, append_assoc, Option, Some, None}
use mathlib.Core.Option.{some, some-ne-none, some-injective}
use mathlib.Core.List.{IsPrefix}
use lib.ListN.{get_elem?}
use Rattle.std.proofs.lemmas.List.Sums.{sum_by-append}
use Rattle.crossbeam_utils.specs.Register.{Turns, Forks, Merges}
use Rattle.atomic_table.proofs.Lists.{at_set, at_snoc, set_again}
use Rattle.status.specs.declared.law.View.{View}
use Rattle.status.specs.declared.row.Row.{Row}
use Rattle.status.specs.Views.{Claim, claim_of, counted, first_view, publisher, holder, reader, right, nobody, reading, holding, bare, right_of}
use Rattle.status.specs.Views.{IsOwn, IsFree, Fits, Kept, IsBoard, Looked, Learned, worded}

off : false ≡ true → ⊥
off e = true≢false (sym e)

not_some : {S : Type 0} (s : S) → (let n : Option S = None in n) ≡ Some s → ⊥
not_some s e = cc

same_some : {S : Type 0} (s t : S) → (let o : Option S = Some s in o) ≡ Some t → t ≡ s
same_some s t e = cc

pub prefix_self : {A : Type 0} (xs : List A) → IsPrefix xs xs
prefix_self [] = ([], refl)
prefix_self (x ∷ xs) = (let r = prefix_self xs in r.0, ap (λ ys. x ∷ ys) (prefix_self xs).1)

prefix_on : {A : Type 0} (xs ys zs : List A) → IsPrefix xs ys → IsPrefix xs (ys ++ zs)
prefix_on xs ys zs p = (p.0 ++ zs, sym (append_assoc xs p.0 zs) ∙ ap (λ w. w ++ zs) p.1)

-- the last of a longer list, or one of it
at_end : {A : Type 0} (l : List A) (a b : A) (j : ℕ) → get_elem? (l ++ a ∷ []) j ≡ some b → (get_elem? l j ≡ some b) ⊎ ((j ≡ length l) × (a ≡ b))
at_end [] a b zero e = inr (refl, some-injective a b e)
at_end [] a b (suc j) e = absurd (some-ne-none b (sym e))
at_end (x ∷ xs) a b zero e = inl e
at_end (x ∷ xs) a b (suc j) e = ⊎_elim inl (λ t. inr (ap suc t.0, t.1)) (at_end xs a b j e)

set_swap : {A : Type 0} (l : List A) (i j : ℕ) (a b : A) → i ≢ j → set (set l i a) j b ≡ set (set l j b) i a
set_swap [] i j a b n = refl
set_swap (x ∷ xs) zero zero a b n = absurd (n refl)
set_swap (x ∷ xs) zero (suc j) a b n = refl
set_swap (x ∷ xs) (suc i) zero a b n = refl
set_swap (x ∷ xs) (suc i) (suc j) a b n = ap (λ ys. x ∷ ys) (set_swap xs i j a b (λ e. n (ap suc e)))

module _ {E S : Type 0} (own command : ℕ → E → ℕ) (legal : S → List E → Type 0) (rows_of : S → List E → Row) where
  abbrev rows : S → List E → List ℕ
  rows = worded rows_of

  abbrev V : Type 0
  V = View E S

  abbrev K : List ℕ → List V → Type 0
  K = Kept own command legal rows

  abbrev B : List ℕ → List V → Type 0
  B = IsBoard own command legal rows

  abbrev F : ℕ → S → List E → ℕ → V → Type 0
  F = Fits own command

  -- a pass of a board that was not opened is its only one
  newborn : (by : ℕ) (v : V) (views : List V) → views ≡ first_view ∷ [] → get_elem? views by ≡ some v → v.unborn ≡ false → ⊥
  newborn zero v views is at fresh = let e : v ≡ first_view = sym (some-injective _ _ (sym (ap (λ (l : List V). get_elem? l 0) is) ∙ at)) in true≢false (sym (ap (λ (z : V). z.unborn) e) ∙ fresh)
  newborn (suc by) v views is at fresh = absurd (some-ne-none v (sym (sym (ap (λ (l : List V). get_elem? l (suc by)) is) ∙ at)))

  turned : (by : ℕ) (v : V) (f : List ℕ → List ℕ) (told : V → List ℕ → List ℕ → V → Type 0) → v.unborn ≡ false → Turns K by v f told → Turns B by v f told
  turned by v f told fresh t = λ words views h at.
      ⊎_elim (λ (only : views ≡ first_view ∷ []). absurd (newborn by v views only at fresh))
      (λ (k : K words views). let r = t words views k at in (r.0, inr r.1, r.2)) h

  turned_as : (by : ℕ) (v h : V) (f : List ℕ → List ℕ) (told : V → List ℕ → List ℕ → V → Type 0) → v ≡ h → h.unborn ≡ false → Turns K by h f told → Turns B by v f told
  turned_as by v h f told is fresh t = subst (λ (u : V). Turns B by u f told) (sym is) (turned by h f told fresh t)

  becomes_as : (by : ℕ) (v h to : V) (new : List ℕ) → v ≡ h → h.unborn ≡ false → Turns K by h (λ _. new) (λ _ x y w. w ≡ to) → Turns B by v (λ _. new) (λ _ x y w. w ≡ to)
  becomes_as by v h to new is fresh t = turned_as by v h (λ _. new) (λ _ x y w. w ≡ to) is fresh t

  forked : (by : ℕ) (v l r : V) → v.unborn ≡ false → Forks K by v l r → Forks B by v l r
  forked by v l r fresh t = λ words views h at.
      ⊎_elim (λ (only : views ≡ first_view ∷ []). absurd (newborn by v views only at fresh))
      (λ (k : K words views). inr (t words views k at)) h

  merged : (by : ℕ) (v : V) (other : ℕ) (w both spent : V) → v.unborn ≡ false → Merges K by v other w both spent → Merges B by v other w both spent
  merged by v other w both spent fresh t = λ words views h at apart there.
      ⊎_elim (λ (only : views ≡ first_view ∷ []). absurd (newborn by v views only at fresh))
      (λ (k : K words views). inr (t words views k at apart there)) h

  -- the claim of a view that changes is one that it had, or is new to all
  abbrev Claims : List V → ℕ → V → Type 0
  Claims views by w = w.claims ≡ true → (j : ℕ) (u : V) → j ≢ by → get_elem? views j ≡ some u → u.claims ≡ true → u.session ≡ w.session → ⊥

  abbrev Once : List V → Type 0
  Once views = (i j : ℕ) (v u : V) → get_elem? views i ≡ some v → get_elem? views j ≡ some u → v.claims ≡ true → u.claims ≡ true → v.session ≡ u.session → i ≡ j

  once_set : (views : List V) (by : ℕ) (w : V) → Once views → Claims views by w → Once (set views by w)
  once_set views by w once apart = λ i j v u ei ej cv cu s.
      ⊎_elim
      (λ (x : (i ≡ by) × (w ≡ v)). ⊎_elim
      (λ (y : (j ≡ by) × (w ≡ u)). x.0 ∙ sym y.0)
      (λ (y : (j ≢ by) × (get_elem? views j ≡ some u)). absurd (apart (ap (λ (z : V). z.claims) x.1 ∙ cv) j u y.0 y.1 cu (sym s ∙ sym (ap (λ (z : V). z.session) x.1))))
      (at_set views by j w u ej))
      (λ (x : (i ≢ by) × (get_elem? views i ≡ some v)). ⊎_elim
      (λ (y : (j ≡ by) × (w ≡ u)). absurd (apart (ap (λ (z : V). z.claims) y.1 ∙ cu) i v x.0 x.1 cv (s ∙ sym (ap (λ (z : V). z.session) y.1))))
      (λ (y : (j ≢ by) × (get_elem? views j ≡ some u)). once i j v u x.1 y.1 cv cu s)
      (at_set views by j w u ej))
      (at_set views by i w v ei)

  -- other views, at the same log
  with_views : (words : List ℕ) (views new : List V) (k : K words views)
      → ((j : ℕ) (u : V) → get_elem? new j ≡ some u → F k.seat k.from k.log j u) → Once new → K words new
  with_views words views new k fits once =
      record { seat = k.seat; from = k.from; log = k.log; words_are = k.words_are; is_legal = k.is_legal; later = k.later; fits = fits; once = once }

  -- one view changes
  same_log : (words : List ℕ) (views : List V) (k : K words views) (by : ℕ) (w : V) → F k.seat k.from k.log by w → Claims views by w → K words (set views by w)
  same_log words views k by w fit apart =
      with_views words views (set views by w) k
      (λ j u e. ⊎_elim
      (λ (x : (j ≡ by) × (w ≡ u)). subst (λ (y : ℕ × V). F k.seat k.from k.log y.0 y.1) (λ i. (sym x.0 i, x.1 i)) fit)
      (λ (x : (j ≢ by) × (get_elem? views j ≡ some u)). k.fits j u x.1)
      (at_set views by j w u e))
      (once_set views by w k.once apart)

  -- a reader looks
  pub looks : (by : ℕ) (s : S) (seen : List E) → Turns K by (reader s seen) (λ x. x) (Looked s legal rows_of)
  looks by s seen words views k at =
      let mine = k.fits by (reader s seen) at in
      let from : s ≡ k.from = mine.opened s refl in (
        reader s k.log,
        same_log words views k by (reader s k.log) record { fresh = refl; opened = λ t e. same_some s t e ∙ from; begins = prefix_self k.log; whole = λ e. absurd (off e); counts = λ e. absurd (off e) } (λ e. absurd (off e)),
        (refl, mine.begins, k.words_are ∙ ap (λ (t : S). rows t k.log) (sym from), subst (λ (t : S). legal t k.log) (sym from) k.is_legal),
      )

  pub looks_as : (by : ℕ) (v : V) (s : S) → v ≡ reader s v.seen → Turns B by v (λ x. x) (Looked s legal rows_of)
  looks_as by v s is = turned_as by v (reader s v.seen) (λ x. x) (Looked s legal rows_of) is refl (looks by s v.seen)

  -- a new pass
  one_more : (words : List ℕ) (views : List V) (k : K words views) (w : V) → ((j : ℕ) → F k.seat k.from k.log j w)
      → (w.claims ≡ true → (j : ℕ) (u : V) → get_elem? views j ≡ some u → u.claims ≡ true → u.session ≡ w.session → ⊥)
      → K words (views ++ w ∷ [])
  one_more words views k w fit apart =
      with_views words views (views ++ w ∷ []) k
      (λ j u e. ⊎_elim (λ was. k.fits j u was) (λ (same : w ≡ u). subst (λ (z : V). F k.seat k.from k.log j z) same (fit j)) (at_snoc views w u j e))
      (λ i j v u ei ej cv cu s.
      ⊎_elim
      (λ (x : get_elem? views i ≡ some v). ⊎_elim
      (λ (y : get_elem? views j ≡ some u). k.once i j v u x y cv cu s)
      (λ (y : (j ≡ length views) × (w ≡ u)). absurd (apart (ap (λ (z : V). z.claims) y.1 ∙ cu) i v x cv (s ∙ sym (ap (λ (z : V). z.session) y.1))))
      (at_end views w u j ej))
      (λ (x : (i ≡ length views) × (w ≡ v)). ⊎_elim
      (λ (y : get_elem? views j ≡ some u). absurd (apart (ap (λ (z : V). z.claims) x.1 ∙ cv) j u y cu (sym s ∙ sym (ap (λ (z : V). z.session) x.1))))
      (λ (y : (j ≡ length views) × (w ≡ u)). x.0 ∙ sym y.0)
      (at_end views w u j ej))
      (at_end views w v i ei))

  -- a new reader
  forks_reader : (by : ℕ) (v : V) → Forks K by v v (reading v)
  forks_reader by v words views k at =
      let mine = k.fits by v at in
      let more = one_more words views k (reading v) (λ j. record { fresh = refl; opened = mine.opened; begins = mine.begins; whole = λ e. absurd (off e); counts = λ e. absurd (off e) }) (λ e. absurd (off e)) in
      subst (λ (l : List V). K words (l ++ reading v ∷ [])) (sym (set_again views by v at)) more

  pub forks_reader_as : (by : ℕ) (v : V) → v.unborn ≡ false → Forks B by v v (reading v)
  forks_reader_as by v fresh = forked by v v (reading v) fresh (forks_reader by v)

  -- the right goes out
  forks_right : (by : ℕ) (s : S) (log : List E) (g : Claim) → Forks K by (holder s log g) (bare (holder s log g)) (right_of (holder s log g))
  unfolding same_log with_views
  forks_right by s log g words views k at =
      let v = holder s log g in
      let mine = k.fits by v at in
      let less = same_log words views k by (bare v) record { fresh = refl; opened = mine.opened; begins = mine.begins; whole = mine.whole; counts = λ e. absurd (off e) } (λ e. absurd (off e)) in
      one_more words (set views by (bare v)) less (right_of v)
      (λ j. record { fresh = refl; opened = λ x e. absurd (not_some x e); begins = (k.log, refl); whole = λ e. absurd (off e); counts = mine.counts })
      (λ _ j u e c same. ⊎_elim
      (λ (x : (j ≡ by) × (bare v ≡ u)). off (ap (λ (z : V). z.claims) x.1 ∙ c))
      (λ (x : (j ≢ by) × (get_elem? views j ≡ some u)). x.0 (k.once j by u v x.1 at c refl same))
      (at_set views by j (bare v) u e))

  -- the right comes in
  merges_right : (by : ℕ) (s : S) (log : List E) (other : ℕ) (g : Claim) → Merges K by (publisher s log) other (right g) (holding (publisher s log) (right g)) nobody
  unfolding same_log with_views
  merges_right by s log other g words views k at apart there =
      let v = publisher s log in
      let u = right g in
      let w = holding v u in
      let mine = k.fits by v at in
      let theirs : get_elem? views other ≡ some u = ⊎_elim (λ (t : (other ≡ by) × (w ≡ u)). absurd (apart t.0)) (λ (t : (other ≢ by) × (get_elem? views other ≡ some u)). t.1) (at_set views by other w u there) in
      let claim = k.fits other u theirs in
      let less = same_log words views k other nobody record { fresh = refl; opened = λ x e. absurd (not_some x e); begins = (k.log, refl); whole = λ e. absurd (off e); counts = λ e. absurd (off e) } (λ e. absurd (off e)) in
      let more = same_log words (set views other nobody) less by w record { fresh = refl; opened = mine.opened; begins = mine.begins; whole = mine.whole; counts = claim.counts }
      (λ _ j x far e c same. ⊎_elim
      (λ (t : (j ≡ other) × (nobody ≡ x)). off (ap (λ (z : V). z.claims) t.1 ∙ c))
      (λ (t : (j ≢ other) × (get_elem? views j ≡ some x)). t.0 (k.once j other x u t.1 theirs c refl same))
      (at_set views other j nobody x e)) in
      subst (λ (l : List V). K words l) (set_swap views other by nobody w (λ e. apart e)) more

  pub forks_right_as : (by : ℕ) (v : V) (s : S) → v ≡ holder s v.seen (claim_of v) → Forks B by v (bare v) (right_of v)
  forks_right_as by v s is =
      let h = holder s v.seen (claim_of v) in
      subst (λ (u : V). Forks B by u (bare u) (right_of u)) (sym is) (forked by h (bare h) (right_of h) refl (forks_right by s v.seen (claim_of v)))

  pub merges_right_as : (by : ℕ) (v : V) (other : ℕ) (u : V) (s : S) → v ≡ publisher s v.seen → u ≡ right (claim_of u) → Merges B by v other u (holding v u) nobody
  merges_right_as by v other u s is isu =
      let p = publisher s v.seen in
      let r = right (claim_of u) in
      subst (λ (q : V × V). Merges B by q.0 other q.1 (holding q.0 q.1) nobody) (λ i. (sym is i, sym isu i)) (merged by p other r (holding p r) nobody refl (merges_right by s v.seen other (claim_of u)))

  counted-snoc : (m : ℕ → E → ℕ) (s : ℕ) (log : List E) (e : E) → counted m s (log ++ e ∷ []) ≡ counted m s log + m s e
  counted-snoc m s log e = omega (arith, sum_by-append (m s) log (e ∷ []))

  -- the publisher adds an entry
  grows : (words new : List ℕ) (views : List V) (k : K words views) (by : ℕ) (v w : V) (e : E) → get_elem? views by ≡ some v → v.publishes ≡ true
      → new ≡ rows k.from (k.log ++ e ∷ []) → legal k.from (k.log ++ e ∷ [])
      → ((s : ℕ) → length (k.log ++ e ∷ []) ≤ s → (own s e ≡ 0) × (command s e ≡ 0))
      → ((j : ℕ) (u : V) → j ≢ by → get_elem? views j ≡ some u → u.claims ≡ true → (own u.session e ≡ 0) × (command u.session e ≡ 0))
      → F k.seat k.from (k.log ++ e ∷ []) by w → Claims views by w → K new (set views by w)
  unfolding same_log
  grows words new views k by v w e at pub_ words_are is_legal later same fit apart =
      let log' = k.log ++ e ∷ [] in
      let others : (j : ℕ) (u : V) → j ≢ by → get_elem? views j ≡ some u → F k.seat k.from log' j u = λ j u far h.
      let f = k.fits j u h in
      record {
        fresh = f.fresh;
        opened = f.opened;
        begins = prefix_on u.seen k.log (e ∷ []) f.begins;
        whole = λ p. absurd (far ((f.whole p).0 ∙ sym ((k.fits by v at).whole pub_).0));
        counts = λ c. let b = f.counts c in let z = same j u far h c in (
          let l = b.0 in omega (arith, length-append k.log (e ∷ [])),
          let q = counted-snoc own u.session k.log e in let x = b.1 in let y = z.0 in omega arith,
          let q = counted-snoc command u.session k.log e in let x = b.2 in let y = z.1 in omega arith,
        );
      } in
      record {
        seat = k.seat;
        from = k.from;
        log = log';
        words_are = words_are;
        is_legal = is_legal;
        later = λ s le.
            let z = k.later s (omega (arith, length-append k.log (e ∷ []))) in
            let o = later s le in (
              let q = counted-snoc own s k.log e in let x = z.0 in let y = o.0 in omega arith,
              let q = counted-snoc command s k.log e in let x = z.1 in let y = o.1 in omega arith,
            );
        fits = λ j u h. ⊎_elim
            (λ (x : (j ≡ by) × (w ≡ u)). subst (λ (y : ℕ × V). F k.seat k.from log' y.0 y.1) (λ i. (sym x.0 i, x.1 i)) fit)
            (λ (x : (j ≢ by) × (get_elem? views j ≡ some u)). others j u x.0 x.1)
            (at_set views by j w u h);
        once = once_set views by w k.once apart;
      }

  -- who publishes, with a right in hand or none
  abbrev working : S → List E → Bool → Claim → V
  working s log claims g = record { unborn = false; publishes = true; from = Some s; seen = log; claims = claims; session = g.session; count = g.count; commands = g.commands }

  -- The entry may come behind what is kept: it is of no session to come and of no right at another seat, and this view of the publisher has
  -- counted it.
  abbrev MayFollow : (words : List ℕ) (views : List V) → K words views → ℕ → E → V → Type 0
  MayFollow words views k by e w =
      ((r : ℕ) → length (k.log ++ e ∷ []) ≤ r → (own r e ≡ 0) × (command r e ≡ 0))
      × ((j : ℕ) (u : V) → j ≢ by → get_elem? views j ≡ some u → u.claims ≡ true → (own u.session e ≡ 0) × (command u.session e ≡ 0))
      × (w.claims ≡ true → (w.session < length (k.log ++ e ∷ [])) × (counted own w.session (k.log ++ e ∷ []) ≡ w.count)
      × (counted command w.session (k.log ++ e ∷ []) ≡ w.commands))
      × Claims views by w

  extends : (by : ℕ) (s : S) (log : List E) (e : E) (new : List ℕ) (b c : Bool) (g h : Claim) → legal s (log ++ e ∷ []) → new ≡ rows s (log ++ e ∷ [])
      → ((words : List ℕ) (views : List V) (k : K words views) → log ≡ k.log → get_elem? views by ≡ some (working s log b g)
      → MayFollow words views k by e (working s (log ++ e ∷ []) c h))
      → Turns K by (working s log b g) (λ _. new) (λ v x y w. w ≡ working s (log ++ e ∷ []) c h)
  extends by s log e new b c g h legal_ row_ may words views k at =
      let v = working s log b g in
      let w = working s (log ++ e ∷ []) c h in
      let mine = k.fits by v at in
      let all : log ≡ k.log = (mine.whole refl).1 in
      let from : s ≡ k.from = mine.opened s refl in
      let same : (let p : S × List E = (s, log) in p) ≡ (k.from, k.log) = (λ j. (from j, all j)) in
      let next = may words views k all at in (
        w,
        grows words new views k by v w e at refl
            (row_ ∙ ap (λ (p : S × List E). rows p.0 (p.1 ++ e ∷ [])) same)
            (subst (λ (p : S × List E). legal p.0 (p.1 ++ e ∷ [])) same legal_)
            next.0
            next.1
            record {
              fresh = refl;
              opened = λ x h. same_some s x h ∙ from;
              begins = subst (λ l. IsPrefix (l ++ e ∷ []) (k.log ++ e ∷ [])) (sym all) (prefix_self (k.log ++ e ∷ []));
              whole = λ _. ((mine.whole refl).0, ap (λ l. l ++ e ∷ []) all);
              counts = next.2;
            }
            next.3,
        refl,
      )

  adds : (by : ℕ) (s : S) (log : List E) (g : Claim) (e : E) (new : List ℕ) → IsOwn own command g.session e → legal s (log ++ e ∷ []) → new ≡ rows s (log ++ e ∷ [])
      → Turns K by (holder s log g) (λ _. new) (λ v x y w. w ≡ holder s (log ++ e ∷ []) (record { session = g.session; count = g.count + 1; commands = g.commands + command g.session e }))
  adds by s log g e new is_own legal_ row_ =
      extends by s log e new true true g (record { session = g.session; count = g.count + 1; commands = g.commands + command g.session e }) legal_ row_ (λ words views k all at.
      let v = holder s log g in
      let claim = (k.fits by v at).counts refl in
      let below = claim.0 in
      let long = length-append k.log (e ∷ []) in (
        λ r le. is_own.others r (λ h. let b = below in omega (arith, long, h)),
        λ j u far h c. is_own.others u.session (λ m. far (k.once j by u v h at c refl m)),
        λ _. (
          let b = below in omega (arith, long),
          let q = counted-snoc own g.session k.log e in let z = claim.1 in let o = is_own.one in omega arith,
          let q = counted-snoc command g.session k.log e in let z = claim.2 in omega arith,
        ),
        λ _ j u far h c m. far (k.once j by u v h at c refl m),
      ))

  attaches : (by : ℕ) (s : S) (log : List E) (e : E) (new : List ℕ) → IsFree own command e → legal s (log ++ e ∷ []) → new ≡ rows s (log ++ e ∷ [])
      → Turns K by (publisher s log) (λ _. new) (λ v x y w. w ≡ holder s (log ++ e ∷ []) (record { session = length log; count = 0; commands = 0 }))
  attaches by s log e new is_free legal_ row_ =
      extends by s log e new false true (record { session = 0; count = 0; commands = 0 }) (record { session = length log; count = 0; commands = 0 }) legal_ row_ (λ words views k all at.
      let as_long : length log ≡ length k.log = ap length all in
      let long = length-append k.log (e ∷ []) in
      let none = k.later (length log) (omega (arith, as_long)) in
      let free = is_free (length log) in (
        λ r le. is_free r,
        λ j u far h c. is_free u.session,
        λ _. (
          omega (arith, long, as_long),
          let q = counted-snoc own (length log) k.log e in let z = none.0 in let o = free.0 in omega arith,
          let q = counted-snoc command (length log) k.log e in let z = none.1 in let o = free.1 in omega arith,
        ),
        λ _ j u far h c m. let b = ((k.fits j u h).counts c).0 in absurd (omega (arith, as_long, m)),
      ))

  learns : (by : ℕ) (s : S) (log : List E) (g : Claim) → Turns K by (holder s log g) (λ x. x) (Learned own command)
  learns by s log g words views k at =
      let v = holder s log g in
      let mine = k.fits by v at in
      let all : log ≡ k.log = (mine.whole refl).1 in
      let claim = mine.counts refl in
      (v, subst (λ (l : List V). K words l) (sym (set_again views by v at)) k, (refl, ap (counted own g.session) all ∙ claim.1, ap (counted command g.session) all ∙ claim.2))

  -- the moves, at a view that is known
  pub adds_as : (by : ℕ) (v : V) (s : S) (e : E) (new : List ℕ) → v ≡ holder s v.seen (claim_of v) → IsOwn own command v.session e → legal s (v.seen ++ e ∷ []) → new ≡ rows s (v.seen ++ e ∷ [])
      → Turns B by v (λ _. new) (λ _ x y w. w ≡ holder s (v.seen ++ e ∷ []) (record { session = v.session; count = v.count + 1; commands = v.commands + command v.session e }))
  adds_as by v s e new is o l r =
      becomes_as by v (holder s v.seen (claim_of v)) _ new is refl (adds by s v.seen (claim_of v) e new o l r)

  pub attaches_as : (by : ℕ) (v : V) (s : S) (e : E) (new : List ℕ) → v ≡ publisher s v.seen → IsFree own command e → legal s (v.seen ++ e ∷ []) → new ≡ rows s (v.seen ++ e ∷ [])
      → Turns B by v (λ _. new) (λ _ x y w. w ≡ holder s (v.seen ++ e ∷ []) (record { session = length v.seen; count = 0; commands = 0 }))
  attaches_as by v s e new is o l r =
      becomes_as by v (publisher s v.seen) _ new is refl (attaches by s v.seen e new o l r)

  pub learns_as : (by : ℕ) (v : V) (s : S) → v ≡ holder s v.seen (claim_of v) → Turns B by v (λ x. x) (Learned own command)
  learns_as by v s is =
      turned_as by v (holder s v.seen (claim_of v)) (λ x. x) (Learned own command) is refl (learns by s v.seen (claim_of v))

  begun : (s : S) (words : List ℕ) → words ≡ rows s [] → legal s [] → K words (publisher s [] ∷ [])
  begun s words is may = record { seat = 0; from = s; log = []; words_are = is; is_legal = may; later = λ s le. (refl, refl); fits = one; once = alone }
    where
      one : (by : ℕ) (v : V) → get_elem? (publisher s [] ∷ []) by ≡ some v → F 0 s [] by v
      one zero v e = subst (F 0 s [] 0) (some-injective _ _ e) record { fresh = refl; opened = λ t h. same_some s t h; begins = ([], refl); whole = λ _. (refl, refl); counts = λ c. absurd (off c) }
      one (suc by) v e = absurd (some-ne-none v (sym e))

      alone : (i j : ℕ) (v w : V) → get_elem? (publisher s [] ∷ []) i ≡ some v → get_elem? (publisher s [] ∷ []) j ≡ some w → v.claims ≡ true → w.claims ≡ true → v.session ≡ w.session → i ≡ j
      alone zero zero v w ei ej cv cw m = refl
      alone zero (suc j) v w ei ej cv cw m = absurd (some-ne-none w (sym ej))
      alone (suc i) j v w ei ej cv cw m = absurd (some-ne-none v (sym ei))

  -- the first row
  set_first : (by : ℕ) (w : V) → get_elem? (first_view ∷ []) by ≡ some (first_view {E = E} {S = S}) → set (first_view ∷ []) by w ≡ w ∷ []
  set_first zero w e = refl
  set_first (suc by) w e = absurd (some-ne-none first_view (sym e))

  opens : (by : ℕ) (s : S) (new : List ℕ) → legal s [] → new ≡ rows s [] → Turns B by first_view (λ _. new) (λ v x y w. w ≡ publisher s [])
  opens by s new may is = λ words views h at. (
    publisher s [],
    ⊎_elim
        (λ (only : views ≡ first_view ∷ []).
        inr (subst (λ (l : List V). K new l)
        (sym (ap (λ (l : List V). set l by (publisher s [])) only ∙ set_first by (publisher s []) (sym (ap (λ (l : List V). get_elem? l by) only) ∙ at)))
        (begun s new is may)))
        (λ (k : K words views). absurd (true≢false ((k.fits by first_view at).fresh)))
        h,
    refl,
  )

  pub opens_as : (by : ℕ) (v : V) (s : S) (new : List ℕ) → v ≡ first_view → legal s [] → new ≡ rows s [] → Turns B by v (λ _. new) (λ _ x y w. w ≡ publisher s [])
  opens_as by v s new is may r = subst (λ (u : V). Turns B by u (λ _. new) (λ _ x y w. w ≡ publisher s [])) (sym is) (opens by s new may r)
