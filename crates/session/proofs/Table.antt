-- What a turn makes of all tasks of a session, and of those that wait for data.
use Rattle.std.proofs.Common.{◌≡◌, ◌⊎◌, ℕ, ◌<◌, Bool, true, false, List, [], ◌∷◌, ◌++◌, Option, map, refl, sym, ap, subst, ◌∙◌}
use Rattle.std.proofs.Common.{inl, inr, Some, None, ◌==◌, ◌||◌, ◌&&◌, not, if◌then◌else◌}
use Rattle.std.proofs.lemmas.{List.Elements.filter_map-append, Grind.flat_map-append}
use Rattle.std.proofs.lemmas.Bool.{eq-eqb, eqb-true, eqb-false, ne_eqb}
use Rattle.session_rules.specs.Words.{AllByRecursion, filter, filter_map, flat_map, list_any, cons_option, CommandHeader}
use Rattle.session_rules.specs.Words.{DataOutHeader, ManagementHeader, Initiator, ScsiCommand, DataOut, TaskManagementRequest}
use Rattle.session_rules.specs.{declared.verdict.Verdict.TheVariants.Accepted, Asking.Asking, Turn.Incoming, Turn.pdu, Turn.Out}
use Rattle.session_rules.specs.{Turn.Turn, Drops.drops, Drops.names_one_of, Collecting.IsRightTask}
use Rattle.session_rules.specs.Tasks.{r2ts_of, touches, Task, has_ended, Collecting, collected, collecting_of, has_tag}
use Rattle.session_rules.proofs.{Tasks.with_turn, Tasks.extended, Tasks.extended_by, AtEach.all_append}
use Rattle.session.proofs.{Dropping.keeps, Steps.Becomes, Steps.dropped}

-- ---- what a turn makes of all tasks, one by one

module _ (units : ℕ) (u : Turn) where
  -- a task that has ended, or that the turn does not concern, stays as it was
  ended_stays : (k : Task) → has_ended k ≡ true → extended units u k ≡ k
  ended_stays k e = ap (λ (b : Bool). extended_by u (touches units k.command u) b k) e ∙ by_case (touches units k.command u) where
    by_case : (b : Bool) → extended_by u b true k ≡ k
    by_case true = refl
    by_case false = refl

  other_stays : (k : Task) → touches units k.command u ≡ false → extended units u k ≡ k
  other_stays k e = ap (λ (b : Bool). extended_by u b (has_ended k) k) e

  touched_is : (k : Task) → has_ended k ≡ false → touches units k.command u ≡ true → extended units u k ≡ with_turn k u
  touched_is k e f = rw (f, e) refl

  still : (ks : List Task) → ((p : CommandHeader) → touches units p u ≡ false) → map (extended units u) ks ≡ ks
  still [] f = refl
  still (k ∷ ks) f = rw (other_stays k (f k.command), still ks f) refl

  -- Each open task that the turn concerns stays right and leaves these in its place: so do all, where P holds of those that wait.
  module _ (burst : ℕ) (f : Collecting → List Collecting) (P : Collecting → Type 0)
      (touch : (k : Task) → IsRightTask burst k → has_ended k ≡ false → touches units k.command u ≡ true → P (collected k)
      → IsRightTask burst (with_turn k u) × (cons_option (collecting_of (with_turn k u)) [] ≡ f (collected k)))
      (other : (k : Task) → touches units k.command u ≡ false → f (collected k) ≡ collected k ∷ []) where
    abbrev Changed : List Task → Type 0
    Changed ks =
        AllByRecursion (IsRightTask burst) (map (extended units u) ks)
        × (filter_map collecting_of (map (extended units u) ks) ≡ flat_map f (filter_map collecting_of ks))

    joined : (o : Option Collecting) (new cs out : List Collecting) → cons_option o [] ≡ new → cs ≡ out
        → cons_option o cs ≡ new ++ out
    joined None new cs out e g = rw (← e) g
    joined (Some c) new cs out e g = rw (← e, g) refl

    open_changes : (k : Task) (t : Bool) → touches units k.command u ≡ t → has_ended k ≡ false → IsRightTask burst k
        → P (collected k)
        → IsRightTask burst (extended units u k) × (cons_option (collecting_of (extended units u k)) [] ≡ f (collected k))
    open_changes k true t e right here = rw (touched_is k e t) (touch k right e t here)
    open_changes k false t e right here = rw (other_stays k t) (right, rw (e, other k t) refl)

    one : (k : Task) (ks : List Task) (b : Bool) → has_ended k ≡ b → IsRightTask burst k
        → AllByRecursion P (cons_option (if b then None else Some (collected k)) (filter_map collecting_of ks))
        → (AllByRecursion P (filter_map collecting_of ks) → Changed ks) → Changed (k ∷ ks)
    one k ks true e right all rest = rw (ended_stays k e) ((right, (rest all).0), rw e (rest all).1)
    one k ks false e right all rest =
        let now = open_changes k (touches units k.command u) refl e right all.0 in
        let behind = rest all.1 in
        ((now.0, behind.0), joined (collecting_of (extended units u k)) _ _ _ now.1 behind.1 ∙ rw e refl)

    changed : (ks : List Task) → AllByRecursion (IsRightTask burst) ks → AllByRecursion P (filter_map collecting_of ks)
        → Changed ks
    changed [] right all = (tt, refl)
    changed (k ∷ ks) right all = one k ks (has_ended k) refl right.0 all (λ behind. changed ks right.1 behind)

-- ---- no two tasks that wait have one tag

abbrev HasNone : ℕ → List Collecting → Type 0
HasNone tag cs = AllByRecursion (λ c. has_tag tag c ≡ false) cs

abbrev pub IsUnique : List Collecting → Type 0
IsUnique [] = Unit {0}
IsUnique (c ∷ cs) = HasNone c.command.task_tag cs × IsUnique cs

other_tag : (a b : ℕ) → (a == b) ≡ false → (b == a) ≡ false
other_tag a b e = ne_eqb b a (λ f. eqb-false a b e (sym f))

none_append : (g : ℕ) (xs ys : List Collecting) → HasNone g xs → HasNone g ys → HasNone g (xs ++ ys)
none_append g xs ys h k = all_append (λ (c : Collecting). has_tag g c ≡ false) xs ys h k

none_front : (g : ℕ) (xs ys : List Collecting) → HasNone g (xs ++ ys) → HasNone g xs × HasNone g ys
none_front g [] ys h = (tt, h)
none_front g (x ∷ xs) ys h = let w = none_front g xs ys h.1 in ((h.0, w.0), w.1)

apart : (front : List Collecting) (c : Collecting) (back : List Collecting) → IsUnique (front ++ (c ∷ back))
    → HasNone c.command.task_tag front × HasNone c.command.task_tag back
apart [] c back u = (tt, u.0)
apart (x ∷ front) c back u =
    let w = apart front c back u.1 in
    ((other_tag c.command.task_tag x.command.task_tag (none_front x.command.task_tag front (c ∷ back) u.0).1.0, w.0), w.1)

-- in place of one comes none, or one with its tag
abbrev pub InPlace : ℕ → List Collecting → Type 0
InPlace g new = (new ≡ []) ⊎ ((c : Collecting) × (new ≡ c ∷ []) × (c.command.task_tag ≡ g))

none_new : (g h : ℕ) (new : List Collecting) → (g == h) ≡ false → InPlace g new → HasNone h new
none_new g h new e (inl w) = rw w tt
none_new g h new e (inr w) = rw w.1 (rw w.2 e, tt)

in_front : (g : ℕ) (new cs : List Collecting) → InPlace g new → HasNone g cs → IsUnique cs → IsUnique (new ++ cs)
in_front g new cs (inl w) n u = rw w u
in_front g new cs (inr w) n u = rw w.1 (rw w.2 n, u)

module _ (f : Collecting → List Collecting) (place : (c : Collecting) → InPlace c.command.task_tag (f c)) where
  none_changed : (g : ℕ) (cs : List Collecting) → HasNone g cs → HasNone g (flat_map f cs)
  none_changed g [] n = tt
  none_changed g (c ∷ cs) n =
      none_append g (f c) (flat_map f cs) (none_new c.command.task_tag g (f c) n.0 (place c)) (none_changed g cs n.1)

  unique_changed : (cs : List Collecting) → IsUnique cs → IsUnique (flat_map f cs)
  unique_changed [] u = tt
  unique_changed (c ∷ cs) u =
      in_front c.command.task_tag (f c) (flat_map f cs) (place c) (none_changed c.command.task_tag cs u.0) (unique_changed cs u.1)

added : (new : List Collecting) (g : ℕ) (cs : List Collecting) → InPlace g new → HasNone g cs → IsUnique cs
    → IsUnique (cs ++ new)
added new g [] (inl w) none u = rw w tt
added new g [] (inr w) none u = rw w.1 (tt, tt)
added new g (x ∷ cs) p none u = (
  none_append x.command.task_tag cs new u.0 (none_new g x.command.task_tag new (other_tag x.command.task_tag g none.0) p),
  added new g cs p none.1 u.1,
)

none_of_any : (g : ℕ) (cs : List Collecting) → list_any (has_tag g) cs ≡ false → HasNone g cs
none_of_any g [] e = tt
none_of_any g (c ∷ cs) e = let w = neither (has_tag g c) e in (w.0, none_of_any g cs w.1) where
  neither : (b : Bool) → (b || list_any (has_tag g) cs) ≡ false → (b ≡ false) × (list_any (has_tag g) cs ≡ false)
  neither true e = absurd (cc)
  neither false e = (refl, e)

-- ---- these come in the place of those that pass a test

module _ (test : Collecting → Bool) (new : List Collecting) where
  abbrev swapped : Collecting → List Collecting
  swapped c = if test c then new else c ∷ []

  swapped_place : ((c : Collecting) → test c ≡ true → InPlace c.command.task_tag new) → (c : Collecting)
      → InPlace c.command.task_tag (swapped c)
  swapped_place p c = one (test c) refl where
    one : (b : Bool) → test c ≡ b → InPlace c.command.task_tag (if b then new else c ∷ [])
    one true e = p c e
    one false e = inr (c, refl, refl)

  same : (cs : List Collecting) → AllByRecursion (λ c. test c ≡ false) cs → flat_map swapped cs ≡ cs
  same [] n = refl
  same (c ∷ cs) n = rw (n.0, same cs n.1) refl

  swapped_one : (front : List Collecting) (this : Collecting) (back : List Collecting)
      → AllByRecursion (λ c. test c ≡ false) front → test this ≡ true → AllByRecursion (λ c. test c ≡ false) back
      → flat_map swapped (front ++ (this ∷ back)) ≡ front ++ (new ++ back)
  swapped_one front this back n e m = rw (flat_map-append, same front n, e, same back m) refl

  -- the one that passes
  abbrev IsThis : Collecting → Collecting → Type 0
  IsThis this c = test c ≡ true → c ≡ this

  none_is : (this : Collecting) (cs : List Collecting) → AllByRecursion (λ c. test c ≡ false) cs
      → AllByRecursion (IsThis this) cs
  none_is this [] n = tt
  none_is this (c ∷ cs) n = (λ e. absurd (cc (n.0)), none_is this cs n.1)

-- with none in their place the others are kept
others_kept : (test : Collecting → Bool) (cs : List Collecting) → flat_map (swapped test []) cs ≡ filter (λ c. not (test c)) cs
others_kept test [] = refl
others_kept test (c ∷ cs) = rw (others_kept test cs) (one (test c)) where
  one : (b : Bool) → (if b then [] else c ∷ []) ++ filter (λ d. not (test d)) cs
      ≡ (if not b then c ∷ filter (λ d. not (test d)) cs else filter (λ d. not (test d)) cs)
  one true = refl
  one false = refl

-- ---- what a turn makes of all tasks

-- between two turns: each task is right, these wait, and no two of them have one tag
pub record IsKept (burst : ℕ) (ks : List Task) (cs : List Collecting) : Type 0 where
  pub right : AllByRecursion (IsRightTask burst) ks
  pub tied : filter_map collecting_of ks ≡ cs
  pub unique : IsUnique cs

abbrev accepts : Incoming → Option Asking → List Out → Turn
accepts came call outs = record { came = came; verdict = Accepted; call = call; sent = outs }

module _ (units burst : ℕ) (some : 0 < burst) (ks : List Task) (cs : List Collecting) (kept : IsKept burst ks cs) where
  -- a turn that concerns none and begins none
  pub nothing_comes : (u : Turn) → ((p : CommandHeader) → touches units p u ≡ false)
      → IsKept burst (map (extended units u) ks) cs
  nothing_comes u f = rw (still units u ks f) kept

  pub command_comes : (b : List ℕ) (p : CommandHeader) (d : List ℕ) (call : Option Asking) (outs : List Out)
      (new : List Collecting) → list_any (has_tag p.task_tag) cs ≡ false → InPlace p.task_tag new
      → let u : Turn = record { came = pdu b (Initiator (ScsiCommand p)) d; verdict = Accepted; call = call; sent = outs } in
      let k : Task = record { command = p; segment = d; own = u ∷ [] } in
      Becomes burst k new → IsKept burst (map (extended units u) ks ++ k ∷ []) (cs ++ new)
  command_comes b p d call outs new fresh place o =
      rw (still units (accepts (pdu b (Initiator (ScsiCommand p)) d) call outs) ks (λ q. refl)) (record {
        right = all_append (IsRightTask burst) ks _ kept.right (o.0, tt);
        tied = rw (filter_map-append, kept.tied, o.1) refl;
        unique = added new p.task_tag cs place (none_of_any p.task_tag cs fresh) kept.unique;
      })

  -- a Data-Out of this, in whose place these wait behind it
  pub data_comes : (b : List ℕ) (x : DataOutHeader) (d : List ℕ) (call : Option Asking) (outs : List Out)
      (front : List Collecting) (this : Collecting) (back new : List Collecting) → cs ≡ front ++ (this ∷ back)
      → this.command.task_tag ≡ x.task_tag → InPlace this.command.task_tag new
      → let u : Turn = record { came = pdu b (Initiator (DataOut x)) d; verdict = Accepted; call = call; sent = outs } in
      ((k : Task) → IsRightTask burst k → has_ended k ≡ false → collected k ≡ this → Becomes burst (with_turn k u) new)
      → IsKept burst (map (extended units u) ks) (front ++ (new ++ back))
  data_comes b x d call outs front this back new is tag place touch =
      let test : Collecting → Bool = has_tag x.task_tag in
      let whole : IsUnique (front ++ (this ∷ back)) = subst IsUnique is kept.unique in
      let none = apart front this back whole in
      let before = subst (λ (g : ℕ). HasNone g front) tag none.0 in
      let behind = subst (λ (g : ℕ). HasNone g back) tag none.1 in
      let tied : filter_map collecting_of ks ≡ front ++ (this ∷ back) = kept.tied ∙ is in
      let w = changed units (accepts (pdu b (Initiator (DataOut x)) d) call outs) burst (swapped test new)
      (IsThis test new this)
      (λ k right lasts tagged here. let g = touch k right lasts (here tagged) in (g.0, g.1 ∙ rw tagged refl))
      (λ k e. rw e refl) ks kept.right
      (rw tied (all_append (IsThis test new this) front (this ∷ back)
      (none_is test new this front before) (λ e. refl, none_is test new this back behind))) in
      let after : front ++ (new ++ back) ≡ flat_map (swapped test new) (front ++ (this ∷ back)) =
      sym (swapped_one test new front this back before (eq-eqb this.command.task_tag x.task_tag tag) behind) in
      record {
        right = w.0;
        tied = w.1 ∙ ap (flat_map (swapped test new)) tied ∙ sym after;
        unique = rw after (unique_changed (swapped test new) (swapped_place test new
            (λ c e. rw (eqb-true c.command.task_tag x.task_tag e, ← tag) place)) (front ++ (this ∷ back)) whole);
      }

  pub management_comes : (b : List ℕ) (x : ManagementHeader) (d : List ℕ) (call : Option Asking) (outs : List Out)
      → r2ts_of outs ≡ []
      → IsKept burst (map (extended units (accepts (pdu b (Initiator (TaskManagementRequest x)) d) call outs)) ks)
      (filter (keeps units x) cs)
  management_comes b x d call outs no_r2t =
      let came : Incoming = pdu b (Initiator (TaskManagementRequest x)) d in
      let test : Collecting → Bool = λ c. drops x c.command && names_one_of units x.lun in
      let w = changed units (accepts came call outs) burst (swapped test []) (λ _. Unit {0})
      (λ k right open_task t _. let g = dropped burst k open_task right Accepted came call outs refl refl no_r2t in
      (g.0, g.1 ∙ rw t refl)) (λ k e. rw e refl) ks kept.right (all_hold (filter_map collecting_of ks)) in
      record {
        right = w.0;
        tied = w.1 ∙ ap (flat_map (swapped test [])) kept.tied ∙ others_kept test cs;
        unique = rw (← others_kept test cs)
            (unique_changed (swapped test []) (swapped_place test [] (λ c e. inl refl)) cs kept.unique);
      } where
        all_hold : (xs : List Collecting) → AllByRecursion (λ _. Unit {0}) xs
        all_hold [] = tt
        all_hold (c ∷ xs) = (tt, all_hold xs)
