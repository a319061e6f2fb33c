-- The entries of registrants.
use Rattle.std.proofs.Common.{◌≡◌, ⊎_elim, ℕ, zero, suc, ◌+◌, ◌<◌, ◌≤◌, Bool, true, false, not, ◌&&◌, nat_eq}
use Rattle.std.proofs.Common.{IsTrue, List, [], ◌∷◌, length, Some, refl, sym, ◌∙◌, ap, subst, arith}
use Rattle.std.proofs.lemmas.Bool.{cases_Bool, eq-eqb}
use Rattle.std.proofs.lemmas.List.Folds.{find_at}
use Rattle.std.proofs.lemmas.Option.{slice_get_within}
use Rattle.std.specs.Cmp.Lexicographic.{same_text}
use Rattle.std.specs.List.{AllByRecursion, find, flat_map, position, position_or_len, slice_get}
use Rattle.std.specs.Option.{unwrap_or}
use lib.Pointwise.{pointwise}
use Rattle.scsi_types.specs.Nexus.{Nexus, Port, group_number}
use Rattle.scsi_types.specs.declared.names.Group.{Group}
use Rattle.scsi_types.specs.declared.names.Group.TheVariants.{One, Two}
use Rattle.registrants.specs.declared.registrant.Registrant.{Registrant}
use Rattle.registrants.specs.Nexus.{other_nexus, same_group, same_port, same_nexus}
use Rattle.registrants.specs.Registry.{IsListed, is_registered}
use Rattle.aptpl_format.specs.declared.entry.Entry.{Entry}
use Rattle.aptpl_format.specs.declared.version.FileVersion.{FileVersion}
use Rattle.aptpl_format.specs.declared.version.FileVersion.TheVariants.{Version1, Version2}
use Rattle.aptpl_format.specs.Format.{covers, entries_of, group_of, has_pair, is_pair, place_of}
use Rattle.aptpl_format.specs.Reads.{IsEntry, covered, second_of}
use Rattle.aptpl_format.proofs.Taken.{equal_to_itself}

-- ---- one nexus

pub both : (a b : Bool) → a && b ≡ true → (a ≡ true) × (b ≡ true)
both true b h = (refl, h)
both false b h = absurd (cc)

neither : (a b : Bool) → b ≡ false → a && b ≡ false
neither true b h = h
neither false b h = refl

pub one_group : (a b : Group) → same_group a b ≡ true → a ≡ b
one_group One One h = refl
one_group Two Two h = refl
one_group One Two h = absurd (cc)
one_group Two One h = absurd (cc)

pub one_port : (p q : Port) → same_port p q ≡ true → p ≡ q
one_port p q h =
    let port = both (nat_eq p.isid q.isid) (pointwise nat_eq p.name q.name) h in
    let name : p.name ≡ q.name = same_text p.name q.name (sym port.1) in
    let isid : p.isid ≡ q.isid = grind (arith, port.0) in
    λ t. record { name = name t; isid = isid t }

pub one_nexus : (m n : Nexus) → same_nexus m n ≡ true → m ≡ n
one_nexus m n h =
    let parts = both (same_group m.group n.group) (same_port m.port n.port) h in
    let port : m.port ≡ n.port = one_port m.port n.port parts.1 in
    let group : m.group ≡ n.group = one_group m.group n.group parts.0 in
    λ t. record { port = port t; group = group t }

group_itself : (a : Group) → same_group a a ≡ true
group_itself One = refl
group_itself Two = refl

pub nexus_itself : (n : Nexus) → same_nexus n n ≡ true
nexus_itself n =
    rw (group_itself n.group, eq-eqb n.port.isid n.port.isid refl, equal_to_itself n.port.name) refl

-- ---- a pair

record IsPair (x y : Registrant) : Type 0 where
  group : x.nexus.group ≡ One
  port : x.nexus.port ≡ y.nexus.port
  is : second_of x ≡ y

pair_is : (x y : Registrant) → is_pair x y ≡ true → IsPair x y
pair_is x y h =
    let a = both (same_group x.nexus.group One && same_group y.nexus.group Two && same_port x.nexus.port y.nexus.port)
    (nat_eq x.key y.key) h in
    let b = both (same_group x.nexus.group One && same_group y.nexus.group Two)
    (same_port x.nexus.port y.nexus.port) a.0 in
    let c = both (same_group x.nexus.group One) (same_group y.nexus.group Two) b.0 in
    let first : x.nexus.group ≡ One = one_group x.nexus.group One c.0 in
    let second : y.nexus.group ≡ Two = one_group y.nexus.group Two c.1 in
    let port : x.nexus.port ≡ y.nexus.port = one_port x.nexus.port y.nexus.port b.1 in
    let key : x.key ≡ y.key = grind (arith, a.1) in
    let group : (other_nexus x.nexus).group ≡ y.nexus.group =
    ap (λ (g : Group). (other_nexus (record { port = x.nexus.port; group = g })).group) first ∙ sym second in
    record {
      group = first;
      port = port;
      is = λ t. record { nexus = record { port = port t; group = group t }; key = key t };
    }

has_pair_is : (v : FileVersion) (x y : Registrant) → has_pair v x y ≡ true → IsPair x y
has_pair_is Version1 x y h = absurd (cc)
has_pair_is Version2 x y h = pair_is x y h

-- ---- the entries stand for the registrants

pub stand_for : (v : FileVersion) (xs : List Registrant) → flat_map covered (entries_of v xs) ≡ xs
stand_for v [] = refl
stand_for v (x ∷ []) = refl
stand_for v (x ∷ y ∷ xs) = ⊎_elim
    (λ (yes : has_pair v x y ≡ true).
    let p = has_pair_is v x y yes in let tail = stand_for v xs in let e = p.is in
    rw yes (λ t. x ∷ e t ∷ tail t))
    (λ (no : has_pair v x y ≡ false). let tail = stand_for v (y ∷ xs) in rw no (λ t. x ∷ tail t))
    (cases_Bool (has_pair v x y))

pub entries_are : (v : FileVersion) (xs : List Registrant) → AllByRecursion IsListed xs
    → AllByRecursion (λ (x : Registrant). IsTrue (not (nat_eq x.key 0))) xs → AllByRecursion IsEntry (entries_of v xs)
entries_are v [] listed keyed = tt
entries_are v (x ∷ []) listed keyed =
    (record { listed = listed.0; keyed = keyed.0; first = λ h. absurd (cc) }, tt)
entries_are v (x ∷ y ∷ xs) listed keyed = ⊎_elim
    (λ (yes : has_pair v x y ≡ true).
    let p = has_pair_is v x y yes in
    rw yes (record { listed = listed.0; keyed = keyed.0; first = λ h. p.group }, entries_are v xs listed.1.1 keyed.1.1))
    (λ (no : has_pair v x y ≡ false).
    rw no (
      record { listed = listed.0; keyed = keyed.0; first = λ h. absurd (cc) },
      entries_are v (y ∷ xs) listed.1 keyed.1,
    ))
    (cases_Bool (has_pair v x y))

pub as_few : (v : FileVersion) (xs : List Registrant) → length (entries_of v xs) ≤ length xs
as_few v [] = omega arith
as_few v (x ∷ []) = omega arith
as_few v (x ∷ y ∷ xs) = ⊎_elim
    (λ (yes : has_pair v x y ≡ true). let h = as_few v xs in rw yes (omega (arith, h)))
    (λ (no : has_pair v x y ≡ false). let h = as_few v (y ∷ xs) in rw no (omega (arith, h)))
    (cases_Bool (has_pair v x y))

alone_in_1 : (xs : List Registrant) → AllByRecursion (λ (e : Entry). e.both ≡ false) (entries_of Version1 xs)
alone_in_1 [] = tt
alone_in_1 (x ∷ []) = (refl, tt)
alone_in_1 (x ∷ y ∷ xs) = (refl, alone_in_1 (y ∷ xs))

-- ---- the entry of a nexus

pub all_got : {X : Type 0} (P : X → Type 0) (xs : List X) (i : ℕ) (x : X) → AllByRecursion P xs → slice_get xs i ≡ Some x
    → P x
all_got P [] i x all is = absurd (cc)
all_got P (y ∷ ys) zero x all is = let e : y ≡ x = cc in subst P e all.0
all_got P (y ∷ ys) (suc i) x all is = all_got P ys i x all.1 is

pub found_passes : {X : Type 0} (p : X → Bool) (xs : List X) (x : X) → find p xs ≡ Some x → p x ≡ true
found_passes p [] x is = absurd (cc)
found_passes p (y ∷ ys) x is =
    ⊎_elim (λ (passes : p y ≡ true). let here = rw passes at is in let e : y ≡ x = cc in ap p (sym e) ∙ passes)
    (λ (fails : p y ≡ false). let there = rw fails at is in found_passes p ys x there)
    (cases_Bool (p y))

record StandsIn (v : FileVersion) (xs : List Registrant) (m : Nexus) : Type 0 where
  e : Entry
  found : find (covers m) (entries_of v xs) ≡ Some e

past_pair : (v : FileVersion) (x y : Registrant) (xs : List Registrant) (m : Nexus) (e : Entry)
    → has_pair v x y ≡ true → same_port x.nexus.port m.port ≡ false → find (covers m) (entries_of v xs) ≡ Some e
    → find (covers m) (entries_of v (x ∷ y ∷ xs)) ≡ Some e
past_pair v x y xs m e pair other found = rw (pair, other) found

past_one : (v : FileVersion) (x y : Registrant) (xs : List Registrant) (m : Nexus) (e : Entry)
    → has_pair v x y ≡ false → same_nexus x.nexus m ≡ false → find (covers m) (entries_of v (y ∷ xs)) ≡ Some e
    → find (covers m) (entries_of v (x ∷ y ∷ xs)) ≡ Some e
past_one v x y xs m e single other found = rw (single, other) found

in_rest : (x y : Registrant) (xs : List Registrant) (m : Nexus) → same_nexus x.nexus m ≡ false
    → same_nexus y.nexus m ≡ false → is_registered (x ∷ y ∷ xs) m ≡ true → is_registered xs m ≡ true
in_rest x y xs m x_no y_no h = rw (x_no, y_no) at h

in_tail : (x : Registrant) (xs : List Registrant) (m : Nexus) → same_nexus x.nexus m ≡ false
    → is_registered (x ∷ xs) m ≡ true → is_registered xs m ≡ true
in_tail x xs m x_no h = rw x_no at h

stands_in : (v : FileVersion) (xs : List Registrant) (m : Nexus) → is_registered xs m ≡ true → StandsIn v xs m
stands_in v [] m h = absurd (cc)
stands_in v (x ∷ []) m h = ⊎_elim
    (λ (yes : same_nexus x.nexus m ≡ true).
    record { e = record { registrant = x; both = false }; found = rw yes refl })
    (λ (no : same_nexus x.nexus m ≡ false). let none = rw no at h in absurd (cc))
    (cases_Bool (same_nexus x.nexus m))
stands_in v (x ∷ y ∷ xs) m h = ⊎_elim
    (λ (pair : has_pair v x y ≡ true).
    let p = has_pair_is v x y pair in
    ⊎_elim
    (λ (yes : same_port x.nexus.port m.port ≡ true).
    record { e = record { registrant = x; both = true }; found = rw (pair, yes) refl })
    (λ (no : same_port x.nexus.port m.port ≡ false).
    let not_y : same_port y.nexus.port m.port ≡ false =
    ap (λ (q : Port). same_port q m.port) (sym p.port) ∙ no in
    let x_no : same_nexus x.nexus m ≡ false = neither (same_group x.nexus.group m.group) _ no in
    let y_no : same_nexus y.nexus m ≡ false = neither (same_group y.nexus.group m.group) _ not_y in
    let s = stands_in v xs m (in_rest x y xs m x_no y_no h) in
    record { e = s.e; found = past_pair v x y xs m s.e pair no s.found })
    (cases_Bool (same_port x.nexus.port m.port)))
    (λ (single : has_pair v x y ≡ false).
    ⊎_elim
    (λ (yes : same_nexus x.nexus m ≡ true).
    record { e = record { registrant = x; both = false }; found = rw (single, yes) refl })
    (λ (no : same_nexus x.nexus m ≡ false).
    let s = stands_in v (y ∷ xs) m (in_tail x (y ∷ xs) m no h) in
    record { e = s.e; found = past_one v x y xs m s.e single no s.found })
    (cases_Bool (same_nexus x.nexus m)))
    (cases_Bool (has_pair v x y))

placed : (p : Entry → Bool) (es : List Entry) (k : ℕ) → position_or_len p es ≡ k → k < length es
    → unwrap_or (position p es) 255 ≡ k
placed p es k is within = grind (arith, is, within)

unplaced : (p : Entry → Bool) (es : List Entry) → position_or_len p es ≡ length es → unwrap_or (position p es) 255 ≡ 255
unplaced p es is = grind (arith, is)

-- the entry at the place of a registered nexus covers it
pub record StandsAt (v : FileVersion) (xs : List Registrant) (m : Nexus) : Type 0 where
  pub e : Entry
  pub there : slice_get (entries_of v xs) (place_of v (Some m) xs) ≡ Some e
  pub covered : covers m e ≡ true

pub stands_at : (v : FileVersion) (xs : List Registrant) (m : Nexus) → is_registered xs m ≡ true → StandsAt v xs m
stands_at v xs m registered =
    let s = stands_in v xs m registered in
    let there : slice_get (entries_of v xs) (position_or_len (covers m) (entries_of v xs)) ≡ Some s.e =
    sym (find_at (covers m) (entries_of v xs)) ∙ s.found in
    let within : position_or_len (covers m) (entries_of v xs) < length (entries_of v xs) =
    slice_get_within (entries_of v xs) (position_or_len (covers m) (entries_of v xs)) s.e there in
    let place : place_of v (Some m) xs ≡ position_or_len (covers m) (entries_of v xs) =
    placed (covers m) (entries_of v xs) (position_or_len (covers m) (entries_of v xs)) refl within in
    record {
      e = s.e;
      there = ap (slice_get (entries_of v xs)) place ∙ there;
      covered = found_passes (covers m) (entries_of v xs) s.e s.found;
    }

one_alone : (e : Entry) (m n : Nexus) → e.both ≡ false → covers m e ≡ true → covers n e ≡ true → m ≡ n
one_alone e m n alone cm cn =
    let em = rw alone at cm in let en = rw alone at cn in
    sym (one_nexus e.registrant.nexus m em) ∙ one_nexus e.registrant.nexus n en

same_number : (a b : Group) → group_number a ≡ group_number b → a ≡ b
same_number One One e = refl
same_number Two Two e = refl
same_number One Two e = absurd (cc)
same_number Two One e = absurd (cc)

one_of_both : (e : Entry) (m n : Nexus) → e.both ≡ true → covers m e ≡ true → covers n e ≡ true
    → group_number m.group ≡ group_number n.group → m ≡ n
one_of_both e m n two cm cn groups =
    let em = rw two at cm in let en = rw two at cn in
    let port : m.port ≡ n.port =
    sym (one_port e.registrant.nexus.port m.port em) ∙ one_port e.registrant.nexus.port n.port en in
    let group : m.group ≡ n.group = same_number m.group n.group groups in
    λ t. record { port = port t; group = group t }

one_covered : (v : FileVersion) (xs : List Registrant) (i : ℕ) (e : Entry) (m n : Nexus)
    → slice_get (entries_of v xs) i ≡ Some e → covers m e ≡ true → covers n e ≡ true
    → group_of v (Some m) ≡ group_of v (Some n) → m ≡ n
one_covered Version1 xs i e m n there cm cn groups =
    one_alone e m n
    (all_got (λ (x : Entry). x.both ≡ false) (entries_of Version1 xs) i e (alone_in_1 xs) there) cm cn
one_covered Version2 xs i e m n there cm cn groups = ⊎_elim
    (λ (two : e.both ≡ true). one_of_both e m n two cm cn groups)
    (λ (alone : e.both ≡ false). one_alone e m n alone cm cn)
    (cases_Bool e.both)

-- a place and a group are those of one registered nexus
pub one_place : (v : FileVersion) (xs : List Registrant) (m n : Nexus) → is_registered xs m ≡ true
    → is_registered xs n ≡ true → place_of v (Some m) xs ≡ place_of v (Some n) xs
    → group_of v (Some m) ≡ group_of v (Some n) → m ≡ n
one_place v xs m n rm rn places groups =
    let a = stands_at v xs m rm in
    let b = stands_at v xs n rn in
    let e : Some a.e ≡ Some b.e = sym a.there ∙ ap (slice_get (entries_of v xs)) places ∙ b.there in
    let same : b.e ≡ a.e = cc in
    one_covered v xs (place_of v (Some m) xs) a.e m n a.there a.covered (ap (covers n) (sym same) ∙ b.covered) groups

-- ---- a place that is counted

pub no_place : (v : FileVersion) (m : Nexus) (xs : List Registrant)
    → position_or_len (covers m) (entries_of v xs) ≡ length (entries_of v xs) → place_of v (Some m) xs ≡ 255
no_place v m xs is = unplaced (covers m) (entries_of v xs) is

pub none_left : (p : Entry → Bool) (es : List Entry) → length es ≡ 0 → position_or_len p es ≡ 0
none_left p [] none = refl
none_left p (e ∷ es) none = absurd (omega (arith, none))
