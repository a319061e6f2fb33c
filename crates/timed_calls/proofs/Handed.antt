-- Each step of a handover keeps its rule.
use Rattle.std.proofs.Common.{◌≡◌, ◌⊎◌, inl, inr, ℕ, zero, suc, Bool, true, false, List, [], ◌∷◌, Option, None, Some, map, length, get_or, ⊎_elim, ◌+◌, ◌++◌, ◌≢◌, eqb, ne_eqb}
use Rattle.std.proofs.Common.{sym, refl, ◌∙◌, ap, subst, arith}
use mathlib.Core.Option.{Option as Slot, some, none, some-injective, some-ne-none}
use mathlib.Core.Bool.{true≢false}
use lib.ListN.{get_elem?}
use prog.Atomic.{either}
use mathlib.Core.Logic.{dite}
use native.Mathlib.Decide.{ℕ_discrete}
use Rattle.std.specs.Prelude.{MatchBool, slice_set, slice_index, ◌||◌}
use Rattle.atomic_table.proofs.Lists.{exchanged}
use Rattle.atomic_table.specs.Table.{State, Me, Step, Act, keeps, takes, gives, Valid, Allows, Splits, homes_after, carried_after, stepped, step, rest, opening}
use Rattle.timed_calls.specs.declared.handing.Known.{Known}
use Rattle.timed_calls.specs.Handing.{Kept, Lies, Fits, FirstFits, Takes, TakesBack, HandsOver, Gives, IsOut, alone, asker, thread}
use Rattle.timed_calls.specs.Handing.{is_asked_at, is_back_at, table_at, words_at}

clash : {X : Type 0} (b : Bool) → b ≡ true → b ≡ false → X
clash b is isnt = absurd (true≢false (sym is ∙ isnt))

-- of two views that of an end stands where its end is
first_of : (a b v : Known) (id : ℕ) → get_elem? (a ∷ b ∷ []) id ≡ some v → v.role ≡ 1 → b.role ≡ 2 → (id ≡ 0) × (a ≡ v)
first_of a b v zero at one two = (refl, some-injective a v at)
first_of a b v (suc zero) at one two = absurd (omega (arith, ap (λ (k : Known). k.role) (some-injective b v at), one, two))
first_of a b v (suc (suc id)) at one two = absurd (some-ne-none v (sym at))

second_of : (a b v : Known) (id : ℕ) → get_elem? (a ∷ b ∷ []) id ≡ some v → v.role ≡ 2 → a.role ≡ 1 → (id ≡ 1) × (b ≡ v)
second_of a b v zero at two one = absurd (omega (arith, ap (λ (k : Known). k.role) (some-injective a v at), one, two))
second_of a b v (suc zero) at two one = (refl, some-injective b v at)
second_of a b v (suc (suc id)) at two one = absurd (some-ne-none v (sym at))

only_of : (v : Known) (id : ℕ) → get_elem? (alone ∷ []) id ≡ some v → (id ≡ 0) × (alone ≡ v)
only_of v zero at = (refl, some-injective alone v at)
only_of v (suc id) at = absurd (some-ne-none v (sym at))

-- where it is asked, it is not back
not_back : (n : ℕ) → n ≢ 3 → n ≢ 4 → is_back_at n ≡ false
not_back n three four = λ i. ne_eqb n 3 three i || ne_eqb n 4 four i

asked_not_back : (n : ℕ) → is_asked_at n ≡ true → is_back_at n ≡ false
asked_not_back n e =
    dite (ℕ_discrete n 3) (λ is. clash (is_asked_at n) e (subst (λ (k : ℕ). is_asked_at k ≡ false) (sym is) refl))
    (λ three.
    dite (ℕ_discrete n 4) (λ is. clash (is_asked_at n) e (subst (λ (k : ℕ). is_asked_at k ≡ false) (sym is) refl))
    (λ four. not_back n three four))

back_not_asked : (n : ℕ) → is_back_at n ≡ true → is_asked_at n ≡ false
back_not_asked n e =
    dite (ℕ_discrete n 3) (λ is. subst (λ (k : ℕ). is_asked_at k ≡ false) (sym is) refl)
    (λ three.
    dite (ℕ_discrete n 4) (λ is. subst (λ (k : ℕ). is_asked_at k ≡ false) (sym is) refl)
    (λ four. clash (is_back_at n) e (not_back n three four)))

-- what a turn becomes that is changed from one to another
changed : (is : ℕ → Bool) (old new : ℕ) → is new ≡ false → (n : ℕ) → is n ≡ false → is (either (eqb n old) new n) ≡ false
changed is old new h n e = exchanged n old new (λ k. is k ≡ false) (λ _. h) (λ _. e)

module _ {E : Type 0} (serial : E → ℕ) (given : E → List ℕ) where
  abbrev pub K : State (Option E) Known → Type 0
  K = Kept serial given

  -- what a step of one end owes, over the place of the request
  abbrev pub Owes : (Known → Known → ℕ → Slot (Option E) → Type 0) → ℕ → List (ℕ × Option E) → ℕ → Slot (Option E) → Known
      → (ℕ → Me (Option E) Known → Type 0) → Known → (ℕ → ℕ) → Type 0
  Owes lies role c turn slot other then v f =
      (w : Known) × (act : Act (Option E)) × (after : Slot (Option E)) × Valid (slot ∷ []) c act
      × (homes_after (slot ∷ []) c act ≡ after ∷ []) × (w.role ≡ role) × lies w other (f turn) after × then turn (w, carried_after c act)

  -- an end that leaves the request where it is
  stays : (lies : Known → Known → ℕ → Slot (Option E) → Type 0) (role : ℕ) (c : List (ℕ × Option E)) (turn : ℕ) (slot : Slot (Option E))
      (other v : Known) (then : ℕ → Me (Option E) Known → Type 0) (f : ℕ → ℕ) → v.role ≡ role → lies v other (f turn) slot
      → then turn (v, c) → Owes lies role c turn slot other then v f
  stays lies role c turn slot other v then f is there told = (v, keeps, slot, tt, refl, is, there, told)

  abbrev pub LiesFirst : Known → Known → ℕ → Slot (Option E) → Type 0
  LiesFirst a b turn slot = Lies serial given turn slot a b

  abbrev pub LiesSecond : Known → Known → ℕ → Slot (Option E) → Type 0
  LiesSecond b a turn slot = Lies serial given turn slot a b

  abbrev pub Steps : ℕ → Known → List (ℕ × Option E) → (ℕ → ℕ) → (ℕ → Me (Option E) Known → Type 0) → State (Option E) Known → ℕ → Type 0
  Steps slots v c f then s id =
      (w : Known) × (a : Act (Option E)) × Valid s.homes c a × K (stepped s 8 (f (slice_index s.words 8)) id c w a)
      × then (slice_index s.words 8) (w, carried_after c a)

  first_steps : (v : Known) (c : List (ℕ × Option E)) (f : ℕ → ℕ) (then : ℕ → Me (Option E) Known → Type 0) (turn : ℕ)
      (slot : Slot (Option E)) (b : Known) → b.role ≡ 2 → Owes LiesFirst 1 c turn slot b then v f
      → Steps 1 v c f then (table_at serial given turn slot (v ∷ b ∷ [])) 0
  first_steps v c f then turn slot b two r = (
    r.0,
    r.1,
    r.3,
    inr (
      f turn,
      r.2,
      r.0,
      b,
      (λ i. record { words = words_at (f turn); homes = r.4 i; views = r.0 ∷ b ∷ [] }),
      r.5,
      two,
      r.6,
    ),
    r.7,
  )

  second_steps : (v : Known) (c : List (ℕ × Option E)) (f : ℕ → ℕ) (then : ℕ → Me (Option E) Known → Type 0) (turn : ℕ)
      (slot : Slot (Option E)) (a : Known) → a.role ≡ 1 → Owes LiesSecond 2 c turn slot a then v f
      → Steps 1 v c f then (table_at serial given turn slot (a ∷ v ∷ [])) 1
  second_steps v c f then turn slot a one r = (
    r.0,
    r.1,
    r.3,
    inr (
      f turn,
      r.2,
      a,
      r.0,
      (λ i. record { words = words_at (f turn); homes = r.4 i; views = a ∷ r.0 ∷ [] }),
      one,
      r.5,
      r.6,
    ),
    r.7,
  )

  pub asker_step : (id : ℕ) (v : Known) (c : List (ℕ × Option E)) (f : ℕ → ℕ) (then : ℕ → Me (Option E) Known → Type 0)
      → v.role ≡ 1
      → ((turn : ℕ) (slot : Slot (Option E)) (b : Known) → LiesFirst v b turn slot → Owes LiesFirst 1 c turn slot b then v f)
      → Allows K 1 id (v, c) 8 f then
  asker_step id v c f then one step s (inl e) long at room =
      let here = only_of v id (subst (λ (x : State (Option E) Known). get_elem? x.views id ≡ some v) e at) in
      absurd (omega (arith, ap (λ (k : Known). k.role) here.1, one))
  asker_step id v c f then one step s (inr t) long at room =
      let here = first_of t.2 t.3 v id (subst (λ (x : State (Option E) Known). get_elem? x.views id ≡ some v) t.4 at) one t.6 in
      let lies : LiesFirst v t.3 t.0 t.1 = subst (λ (k : Known). LiesFirst k t.3 t.0 t.1) here.1 t.7 in
      let is : table_at serial given t.0 t.1 (v ∷ t.3 ∷ []) ≡ s =
      ap (λ (k : Known). table_at serial given t.0 t.1 (k ∷ t.3 ∷ [])) (sym here.1) ∙ sym t.4 in
      subst (λ (n : ℕ). Steps 1 v c f then s n) (sym here.0)
      (subst (λ (x : State (Option E) Known). Steps 1 v c f then x 0) is
      (first_steps v c f then t.0 t.1 t.3 t.6 (step t.0 t.1 t.3 lies)))

  pub thread_step : (id : ℕ) (v : Known) (c : List (ℕ × Option E)) (f : ℕ → ℕ) (then : ℕ → Me (Option E) Known → Type 0)
      → v.role ≡ 2
      → ((turn : ℕ) (slot : Slot (Option E)) (a : Known) → LiesSecond v a turn slot → Owes LiesSecond 2 c turn slot a then v f)
      → Allows K 1 id (v, c) 8 f then
  thread_step id v c f then two step s (inl e) long at room =
      let here = only_of v id (subst (λ (x : State (Option E) Known). get_elem? x.views id ≡ some v) e at) in
      absurd (omega (arith, ap (λ (k : Known). k.role) here.1, two))
  thread_step id v c f then two step s (inr t) long at room =
      let here = second_of t.2 t.3 v id (subst (λ (x : State (Option E) Known). get_elem? x.views id ≡ some v) t.4 at) two t.5 in
      let lies : LiesSecond v t.2 t.0 t.1 = subst (λ (k : Known). LiesSecond k t.2 t.0 t.1) here.1 t.7 in
      let is : table_at serial given t.0 t.1 (t.2 ∷ v ∷ []) ≡ s =
      ap (λ (k : Known). table_at serial given t.0 t.1 (t.2 ∷ k ∷ [])) (sym here.1) ∙ sym t.4 in
      subst (λ (n : ℕ). Steps 1 v c f then s n) (sym here.0)
      (subst (λ (x : State (Option E) Known). Steps 1 v c f then x 1) is
      (second_steps v c f then t.0 t.1 t.2 t.5 (step t.0 t.1 t.2 lies)))

  abbrev pub GotBack : Me (Option E) Known → Me (Option E) Known → Type 0
  GotBack m w = (x : Option E) × (w.1 ≡ (0, x) ∷ []) × (w.0.role ≡ 1) × (w.0.holds ≡ true) × Fits serial given x m.0

  abbrev pub Got : Me (Option E) Known → Type 0
  Got w = (x : Option E) × (w.1 ≡ (0, x) ∷ []) × (w.0.role ≡ 2) × (w.0.holds ≡ true) × Fits serial given x w.0

  tells_back : (m w : Me (Option E) Known) (n : ℕ) → is_back_at n ≡ true → GotBack m w → MatchBool (is_back_at n) (GotBack m w) (w ≡ m)
  tells_back m w n e got = subst (λ (q : Bool). MatchBool q (GotBack m w) (w ≡ m)) (sym e) got

  tells_not_back : (m : Me (Option E) Known) (n : ℕ) → is_back_at n ≡ false → MatchBool (is_back_at n) (GotBack m m) (m ≡ m)
  tells_not_back m n e = subst (λ (q : Bool). MatchBool q (GotBack m m) (m ≡ m)) (sym e) refl

  tells_got : (m w : Me (Option E) Known) (n : ℕ) → is_asked_at n ≡ true → Got w → MatchBool (is_asked_at n) (Got w) (w ≡ m)
  tells_got m w n e got = subst (λ (q : Bool). MatchBool q (Got w) (w ≡ m)) (sym e) got

  tells_not_got : (m : Me (Option E) Known) (n : ℕ) → is_asked_at n ≡ false → MatchBool (is_asked_at n) (Got m) (m ≡ m)
  tells_not_got m n e = subst (λ (q : Bool). MatchBool q (Got m) (m ≡ m)) (sym e) refl

  -- ---- who asks

  -- the turn changes, and what it becomes is not that the request is back
  pub asker_stays : (id : ℕ) (v : Known) (c : List (ℕ × Option E)) (f : ℕ → ℕ) → v.role ≡ 1 → v.holds ≡ false
      → ((n : ℕ) → is_back_at n ≡ false → is_back_at (f n) ≡ false) → Allows K 1 id (v, c) 8 f (λ n w. w ≡ (v, c))
  asker_stays id v c f one away kept =
      asker_step id v c f (λ n w. w ≡ (v, c)) one
      (λ turn slot b lies.
      let now = stays LiesFirst 1 c turn slot b v (λ n w. w ≡ (v, c)) f one in
      ⊎_elim (λ home. now (inl home) refl)
      (λ out.
      ⊎_elim (λ mine. clash v.holds mine.1 away)
      (λ theirs. now (inr (inr (theirs.0, theirs.1, theirs.2, theirs.3, theirs.4, kept turn theirs.5))) refl)
      out)
      lies)

  -- nobody asks any more
  pub asker_ends : (id : ℕ) (v : Known) (c : List (ℕ × Option E)) → v.role ≡ 1
      → Allows K 1 id (v, c) 8 (λ _. 5) (λ _ w. w ≡ (v, c))
  asker_ends id v c one =
      asker_step id v c (λ _. 5) (λ n w. w ≡ (v, c)) one
      (λ turn slot b lies.
      let now = stays LiesFirst 1 c turn slot b v (λ n w. w ≡ (v, c)) (λ _. 5) one in
      ⊎_elim (λ home. now (inl home) refl)
      (λ out.
      ⊎_elim (λ mine. now (inr (inl (mine.0, mine.1, mine.2, refl))) refl)
      (λ theirs. now (inr (inr (theirs.0, theirs.1, theirs.2, theirs.3, theirs.4, refl))) refl)
      out)
      lies)

  asker_takes_at : (st : Step (Option E)) (v : Known) (turn : ℕ) (slot : Slot (Option E)) (b : Known) → v.role ≡ 1 → v.holds ≡ false
      → LiesFirst v b turn slot → (is : Bool) → is_back_at turn ≡ is
      → Owes LiesFirst 1 [] turn slot b (λ n w. TakesBack serial given st (v, []) n w) v (λ n. n)
  asker_takes_at st v turn slot b one away (inl home) true e = (
    record { role = 1; holds = true; serial = v.serial; given = v.given },
    takes 0 home.0,
    none,
    ap some home.1,
    refl,
    refl,
    inr (inl (refl, refl, home.4, back_not_asked turn e)),
    tells_back (v, []) (record { role = 1; holds = true; serial = v.serial; given = v.given }, (0, home.0) ∷ []) turn e
        (home.0, refl, refl, refl, home.2),
  )
  asker_takes_at st v turn slot b one away (inr (inl mine)) true e = clash v.holds mine.1 away
  asker_takes_at st v turn slot b one away (inr (inr theirs)) true e = clash (is_back_at turn) e theirs.5
  asker_takes_at st v turn slot b one away lies false e =
      stays LiesFirst 1 [] turn slot b v (λ n w. TakesBack serial given st (v, []) n w) (λ n. n) one lies (tells_not_back (v, []) turn e)

  pub asker_takes : (st : Step (Option E)) (id : ℕ) (v : Known) → v.role ≡ 1 → v.holds ≡ false
      → Allows K 1 id (v, []) 8 (λ n. n) (TakesBack serial given st (v, []))
  asker_takes st id v one away =
      asker_step id v [] (λ n. n) (TakesBack serial given st (v, [])) one
      (λ turn slot b lies. asker_takes_at st v turn slot b one away lies (is_back_at turn) refl)

  abbrev pub known_of : ℕ → Option E → Known
  known_of role None = record { role = role; holds = false; serial = 0; given = [] }
  known_of role (Some e) = record { role = role; holds = false; serial = serial e; given = given e }

  fits_known : (role : ℕ) (x : Option E) → Fits serial given x (known_of role x)
  fits_known role None = tt
  fits_known role (Some e) = (refl, refl)

  known_role : (role : ℕ) (x : Option E) → ((known_of role x).role ≡ role) × ((known_of role x).holds ≡ false)
  known_role role None = (refl, refl)
  known_role role (Some e) = (refl, refl)

  pub asker_hands : (st : Step (Option E)) (id : ℕ) (v : Known) (x : Option E) → v.role ≡ 1 → v.holds ≡ true
      → Allows K 1 id (v, (0, x) ∷ []) 8 (λ _. 1) (HandsOver serial given st (v, (0, x) ∷ []))
  asker_hands st id v x one here =
      asker_step id v ((0, x) ∷ []) (λ _. 1) (HandsOver serial given st (v, (0, x) ∷ [])) one
      (λ turn slot b lies.
      let k = known_role 1 x in
      ⊎_elim (λ home. clash v.holds here home.3)
      (λ out.
      ⊎_elim
      (λ mine. (
        known_of 1 x,
        gives,
        some x,
        tt,
        refl,
        k.0,
        inl (x, refl, fits_known 1 x, k.1, mine.2),
        (refl, k.0, k.1, fits_known 1 x),
      ))
      (λ theirs. clash v.holds here theirs.1) out)
      lies)

  -- ---- the thread

  pub thread_stays : (id : ℕ) (v : Known) (c : List (ℕ × Option E)) (f : ℕ → ℕ) → v.role ≡ 2 → v.holds ≡ false
      → ((n : ℕ) → is_asked_at n ≡ false → is_asked_at (f n) ≡ false) → Allows K 1 id (v, c) 8 f (λ n w. w ≡ (v, c))
  thread_stays id v c f two away kept =
      thread_step id v c f (λ n w. w ≡ (v, c)) two
      (λ turn slot a lies.
      let now = stays LiesSecond 2 c turn slot a v (λ n w. w ≡ (v, c)) f two in
      ⊎_elim (λ home. now (inl home) refl)
      (λ out.
      ⊎_elim (λ mine. now (inr (inl (mine.0, mine.1, mine.2, kept turn mine.3))) refl)
      (λ theirs. clash v.holds theirs.2 away) out)
      lies)

  thread_takes_at : (st : Step (Option E)) (v : Known) (turn : ℕ) (slot : Slot (Option E)) (a : Known) → v.role ≡ 2 → v.holds ≡ false
      → LiesSecond v a turn slot → (is : Bool) → is_asked_at turn ≡ is
      → Owes LiesSecond 2 [] turn slot a (λ n w. Takes serial given st (v, []) n w) v (λ n. n)
  thread_takes_at st v turn slot a two away (inl home) true e = (
    record { role = 2; holds = true; serial = a.serial; given = a.given },
    takes 0 home.0,
    none,
    ap some home.1,
    refl,
    refl,
    inr (inr (refl, home.3, refl, refl, refl, asked_not_back turn e)),
    tells_got (v, []) (record { role = 2; holds = true; serial = a.serial; given = a.given }, (0, home.0) ∷ []) turn e
        (home.0, refl, refl, refl, fits_as home.0 a home.2),
  )
    where
      fits_as : (x : Option E) (k : Known) → Fits serial given x k
          → Fits serial given x (record { role = 2; holds = true; serial = k.serial; given = k.given })
      fits_as None k f = tt
      fits_as (Some y) k f = f
  thread_takes_at st v turn slot a two away (inr (inl mine)) true e = clash (is_asked_at turn) e mine.3
  thread_takes_at st v turn slot a two away (inr (inr theirs)) true e = clash v.holds theirs.2 away
  thread_takes_at st v turn slot a two away lies false e =
      stays LiesSecond 2 [] turn slot a v (λ n w. Takes serial given st (v, []) n w) (λ n. n) two lies (tells_not_got (v, []) turn e)

  pub thread_takes : (st : Step (Option E)) (id : ℕ) (v : Known) → v.role ≡ 2 → v.holds ≡ false
      → Allows K 1 id (v, []) 8 (λ n. n) (Takes serial given st (v, []))
  thread_takes st id v two away =
      thread_step id v [] (λ n. n) (Takes serial given st (v, [])) two
      (λ turn slot a lies. thread_takes_at st v turn slot a two away lies (is_asked_at turn) refl)

  fits_back : (x : Option E) (a v : Known) → Fits serial given x v → v.serial ≡ a.serial → v.given ≡ a.given → Fits serial given x a
  fits_back None a v f s g = tt
  fits_back (Some e) a v f s g = (f.0 ∙ s, f.1 ∙ g)

  pub thread_gives : (st : Step (Option E)) (id : ℕ) (v : Known) (x : Option E) → v.role ≡ 2 → v.holds ≡ true → Fits serial given x v
      → Allows K 1 id (v, (0, x) ∷ []) 8 (λ _. 3) (Gives st (v, (0, x) ∷ []))
  thread_gives st id v x two here fits =
      thread_step id v ((0, x) ∷ []) (λ _. 3) (Gives st (v, (0, x) ∷ [])) two
      (λ turn slot a lies.
      ⊎_elim (λ home. clash v.holds here home.4)
      (λ out.
      ⊎_elim (λ mine. clash v.holds here mine.2)
      (λ theirs. (
        record { role = 2; holds = false; serial = v.serial; given = v.given },
        gives,
        some x,
        tt,
        refl,
        refl,
        inl (x, refl, fits_back x a v fits theirs.3 theirs.4, theirs.1, refl),
        (refl, refl, refl),
      ))
      out)
      lies)

  -- ---- the start

  pub begins : (id : ℕ) (v : Known) → v ≡ alone → Splits K id v asker thread
  begins id v is s (inl e) at =
      let here = only_of v id (subst (λ (x : State (Option E) Known). get_elem? x.views id ≡ some v) e at) in
      subst (λ (n : ℕ). K (record { words = s.words; homes = s.homes; views = slice_set s.views n asker ++ thread ∷ [] })) (sym here.0)
      (subst (λ (x : State (Option E) Known). K (record { words = x.words; homes = x.homes; views = slice_set x.views 0 asker ++ thread ∷ [] }))
      (sym e) (inr (3, some None, asker, thread, refl, refl, refl, inl (None, refl, tt, refl, refl))))
  begins id v is s (inr t) at =
      absurd (one_of t.2 t.3 v id (subst (λ (x : State (Option E) Known). get_elem? x.views id ≡ some v) t.4 at) is t.5 t.6)
    where
      one_of : (a b k : Known) (n : ℕ) → get_elem? (a ∷ b ∷ []) n ≡ some k → k ≡ alone → a.role ≡ 1 → b.role ≡ 2 → ⊥
      one_of a b k zero at lone one two = omega (arith, ap (λ (y : Known). y.role) (some-injective a k at ∙ lone), one)
      one_of a b k (suc zero) at lone one two = omega (arith, ap (λ (y : Known). y.role) (some-injective b k at ∙ lone), two)
      one_of a b k (suc (suc n)) at lone one two = some-ne-none k (sym at)

-- ---- what an end carries

pub out_one : {E : Type 0} (holds : Bool) (c : List (ℕ × Option E)) → IsOut holds c → holds ≡ true
    → (x : Option E) × (c ≡ (0, x) ∷ [])
out_one true [] out is = let n : 0 ≡ 1 = ap length out in absurd (omega (arith, n))
out_one true (y ∷ []) out is = (y.1, ap (λ (l : List ℕ). (get_or l 0 0, y.1) ∷ []) out)
out_one true (y ∷ z ∷ ys) out is = let n : suc (suc (length (map (λ (p : ℕ × _). p.0) ys))) ≡ 1 = ap length out in absurd (omega (arith, n))
out_one false c out is = clash true refl (sym is)

pub out_none : {E : Type 0} (holds : Bool) (c : List (ℕ × Option E)) → IsOut holds c → holds ≡ false → c ≡ []
out_none true c out is = clash true refl is
out_none false [] out is = refl
out_none false (y ∷ ys) out is = let n : suc (length (map (λ (p : ℕ × _). p.0) ys)) ≡ 0 = ap length out in absurd (omega (arith, n))

-- ---- the same, of an end as it stands

module _ {E : Type 0} (serial : E → ℕ) (given : E → List ℕ) (slots id : ℕ) (m : Me (Option E) Known) (one : slots ≡ 1) where
  abbrev pub May : (ℕ → ℕ) → (ℕ → Me (Option E) Known → Type 0) → Type 0
  May f then = Allows (Kept serial given) slots id m 8 f then

  of_one : (f : ℕ → ℕ) (then : ℕ → Me (Option E) Known → Type 0) → Allows (Kept serial given) 1 id m 8 f then → May f then
  of_one f then a = subst (λ (n : ℕ). Allows (Kept serial given) n id m 8 f then) (sym one) a

  abbrev pub any : Step (Option E)
  any = step 1 8 0 0 none

  pub may_change : (old new : ℕ) → m.0.role ≡ 1 → m.0.holds ≡ false → is_back_at new ≡ false
      → May (λ n. either (eqb n old) new n) (λ n w. w ≡ m)
  may_change old new role away back =
      of_one (λ n. either (eqb n old) new n) (λ n w. w ≡ m) (asker_stays serial given id m.0 m.1 (λ n. either (eqb n old) new n) role away (changed is_back_at old new back))

  pub may_end : m.0.role ≡ 1 → May (λ _. 5) (λ _ w. w ≡ m)
  may_end role = of_one (λ _. 5) (λ _ w. w ≡ m) (asker_ends serial given id m.0 m.1 role)

  pub may_take_back : (holds : Bool) → m.0.role ≡ 1 → m.0.holds ≡ holds → holds ≡ false → IsOut holds m.1
      → May (λ n. n) (TakesBack serial given any m)
  may_take_back holds role known away out =
      of_one (λ n. n) (TakesBack serial given any m)
      (subst (λ (c : List (ℕ × Option E)). Allows (Kept serial given) 1 id (m.0, c) 8 (λ n. n) (TakesBack serial given any (m.0, c)))
      (sym (out_none holds m.1 out away)) (asker_takes serial given any id m.0 role (known ∙ away)))

  pub may_hand_over : (x : Option E) → m.0.role ≡ 1 → m.0.holds ≡ true → m.1 ≡ (0, x) ∷ []
      → May (λ _. 1) (HandsOver serial given any m)
  may_hand_over x role here out =
      of_one (λ _. 1) (HandsOver serial given any m)
      (subst (λ (c : List (ℕ × Option E)). Allows (Kept serial given) 1 id (m.0, c) 8 (λ _. 1) (HandsOver serial given any (m.0, c)))
      (sym out) (asker_hands serial given any id m.0 x role here))

  pub may_rest : (old new : ℕ) → m.0.role ≡ 2 → m.0.holds ≡ false → is_asked_at new ≡ false
      → May (λ n. either (eqb n old) new n) (λ n w. w ≡ m)
  may_rest old new role away asked =
      of_one (λ n. either (eqb n old) new n) (λ n w. w ≡ m) (thread_stays serial given id m.0 m.1 (λ n. either (eqb n old) new n) role away (changed is_asked_at old new asked))

  pub may_take : (holds : Bool) → m.0.role ≡ 2 → m.0.holds ≡ holds → holds ≡ false → IsOut holds m.1
      → May (λ n. n) (Takes serial given any m)
  may_take holds role known away out =
      of_one (λ n. n) (Takes serial given any m)
      (subst (λ (c : List (ℕ × Option E)). Allows (Kept serial given) 1 id (m.0, c) 8 (λ n. n) (Takes serial given any (m.0, c)))
      (sym (out_none holds m.1 out away)) (thread_takes serial given any id m.0 role (known ∙ away)))

  pub may_give : (x : Option E) → m.0.role ≡ 2 → m.0.holds ≡ true → m.1 ≡ (0, x) ∷ [] → Fits serial given x m.0
      → May (λ _. 3) (Gives any m)
  may_give x role here out fits =
      of_one (λ _. 3) (Gives any m)
      (subst (λ (c : List (ℕ × Option E)). Allows (Kept serial given) 1 id (m.0, c) 8 (λ _. 3) (Gives any (m.0, c)))
      (sym out) (thread_gives serial given any id m.0 x role here fits))

-- ---- the slot, once it is written

module _ {E : Type 0} where
  pub carries : (m w : Me (Option E) Known) (x y : Option E) → w.1 ≡ (0, x) ∷ [] → m ≡ (w.0, (0, y) ∷ rest w.1) → m.1 ≡ (0, y) ∷ []
  carries m w x y had now =
      ap (λ (k : Me (Option E) Known). k.1) now ∙ ap (λ (cs : List (ℕ × Option E)). (0, y) ∷ rest cs) had

  pub may_put : (c : List (ℕ × Option E)) (x : Option E) → c ≡ (0, x) ∷ [] → (old : Option E) × (c ≡ (0, old) ∷ rest c)
  may_put c x had = (x, had ∙ ap (λ (cs : List (ℕ × Option E)). (0, x) ∷ rest cs) (sym had))

-- ---- a new handover

pub opens : {E : Type 0} (serial : E → ℕ) (given : E → List ℕ) (slots : List (Option E)) → slots ≡ None ∷ []
    → Kept serial given (opening (words_at 3) slots alone)
opens serial given slots is =
    inl (λ i. record { words = words_at 3; homes = map some (is i); views = alone ∷ [] })

pub begins_so : {E : Type 0} (serial : E → ℕ) (given : E → List ℕ) (id : ℕ) (m : Me (Option E) Known) → m ≡ (alone, [])
    → Splits (Kept serial given) id m.0 asker thread
begins_so {E = E} serial given id m is = begins serial given id m.0 (ap (λ (k : Me (Option E) Known). k.0) is)
