-- Where a command stands among those that wait.
use Rattle.std.proofs.Common.{◌≡◌, ℕ, zero, suc, ◌+◌, ◌<◌, ◌≤◌, Bool, true, false, List, [], ◌∷◌, ◌++◌, length, take, drop, refl, sym, ap}
use Rattle.std.proofs.Common.{◌∙◌, arith, get_or, Some, None, ap₂}
use Rattle.std.proofs.Math.{ListN.set, Numerals.suc-eq-add-one, Seq.take-append_seam, Seq.drop-append-add, Seq.set-append_seam}
use Rattle.std.proofs.lemmas.{Bool.eq-eqb, List.take_all, List.take-append-drop, List.length-take-le, List.drop_more}
use Rattle.std.proofs.lemmas.List.{get_or_at}
use Rattle.session_rules.specs.Words.{list_any, find}
use Rattle.session_rules.{proofs.Tasks.neither, specs.Tasks.Collecting, specs.Tasks.has_tag}
use Rattle.session_tasks.specs.Slots.{StandsAt}

pub stands_there : (items old : List Collecting) (i : ℕ) (x : Collecting) → items ≡ old → i < length old
    → x ≡ get_or items i x
    → StandsAt old i x
stands_there items old i x same within there = record {
  front = take i old;
  back = drop (i + 1) old;
  whole = cc (take-append-drop i old, drop_more old i x within);
  place = length-take-le i old (omega (arith, within));
}

-- the first with this tag is the one before which none has it
found_first : (tag : ℕ) (cs : List Collecting) (i : ℕ) (d : Collecting) → i < length cs
    → list_any (has_tag tag) (take i cs) ≡ false
    → has_tag tag (get_or cs i d) ≡ true → find (has_tag tag) cs ≡ Some (get_or cs i d)
found_first tag [] i d within none here = absurd (omega (arith, within))
found_first tag (c ∷ cs) zero d within none here = rw here refl
found_first tag (c ∷ cs) (suc i) d within none here =
    let w = neither (has_tag tag c) (list_any (has_tag tag) (take i cs)) none in
    rw w.0 (found_first tag cs i d (omega (arith, within)) w.1 here)

pub found_there : (tag : ℕ) (items old : List Collecting) (i : ℕ) (x : Collecting) → items ≡ old → i < length old
    → x ≡ get_or items i x
    → list_any (has_tag tag) (take i old) ≡ false → x.command.task_tag ≡ tag → find (has_tag tag) old ≡ Some x
found_there tag items old i x same within there none is =
    let here : get_or old i x ≡ x = cc in
    found_first tag old i x within none (eq-eqb _ tag (ap (λ (c : Collecting). c.command.task_tag) here ∙ is)) ∙ ap Some here

none_there : (tag : ℕ) (cs : List Collecting) → list_any (has_tag tag) cs ≡ false → find (has_tag tag) cs ≡ None
none_there tag [] e = refl
none_there tag (c ∷ cs) e =
    let w = neither (has_tag tag c) (list_any (has_tag tag) cs) e in rw w.0 (none_there tag cs w.1)

pub none_of_all : (tag : ℕ) (cs : List Collecting) (n : ℕ) → length cs ≤ n
    → list_any (has_tag tag) (take n cs) ≡ false → find (has_tag tag) cs ≡ None
none_of_all tag cs n all none = none_there tag cs (ap (list_any (has_tag tag)) (sym (take_all n cs all)) ∙ none)

-- two that stand at one place are one
pub stands_one : (cs : List Collecting) (i : ℕ) (x y : Collecting) → StandsAt cs i x → StandsAt cs i y → x ≡ y
stands_one cs i x y a b = cc (get_or_at a.front x a.back x i a.place, get_or_at b.front y b.back x i b.place)

-- a list that stands so: the one there, the others, and one that was changed in its place
module _ (items front back : List Collecting) (i : ℕ) (this : Collecting) (whole : items ≡ front ++ (this ∷ back))
    (place : length front ≡ i) where
  pub there : (d : Collecting) → get_or items i d ≡ this
  there d = rw whole (get_or_at front this back d i place)

  pub others : take i items ++ drop (suc i) items ≡ front ++ back
  others = rw (whole, ← place) (ap₂ (λ (xs ys : List Collecting). xs ++ ys) (take-append_seam front (this ∷ back))
      (ap (λ (n : ℕ). drop n (front ++ (this ∷ back))) (suc-eq-add-one (length front)) ∙ drop-append-add front (this ∷ back) 1))

  pub changed : (f : Collecting → Collecting) (old new : Collecting) → new ≡ f old → old ≡ get_or items i old
      → set items i new ≡ front ++ (f this ∷ back)
  changed f old new e is = rw (e, is ∙ there old, whole, ← place) (set-append_seam front this back (f this))
