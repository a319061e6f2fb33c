-- A session that does not begin.
use Rattle.std.proofs.Common.{◌≡◌, ℕ, Bool, false, true, List, [], ◌∷◌, ◌++◌, ◌+◌, length, map, Option, Some, None}
use Rattle.std.proofs.Common.{arith, refl, sym, ap, ◌∙◌, subst, append-nil}
use Rattle.std.proofs.lemmas.List.{map-append}
use Rattle.std.specs.Prelude.{IfSome, MatchOption}
use Rattle.login.specs.declared.status.SessionType.{SessionType}
use Rattle.login.specs.declared.status.SessionType.TheVariants.{Normal, Discovery}
use Rattle.registrants.specs.Nexus.{through}
use Rattle.scsi_types.specs.Nexus.{IsPortName, Port, Nexus}
use Rattle.unit_control.specs.State.{UnitState}
use Rattle.live_sessions.specs.Sessions.{Sayings}
use Rattle.session_units.specs.Units.{Claims}
use Rattle.session_units.specs.Submitted.{At}
use Rattle.live_sessions.specs.Target.{TargetValue, Sight, AreAttached, IsCauseOf, IsFullAt, IsJoined, IsGrounded, IsRefused, IsTurnedBack, Leaves, fault_of}
use Rattle.live_sessions.specs.Target.{HasBegun, IsOfUnits, IsUnnamed, is_taken}
use Rattle.live_sessions.specs.declared.live.EnterFault.{EnterFault}
use Rattle.live_sessions.specs.declared.live.EnterFault.TheVariants as enters
use Rattle.live_sessions.specs.declared.target.BeginFault.{BeginFault}
use Rattle.live_sessions.specs.declared.target.BeginFault.TheVariants as faults

module _ (claims : Claims) (opening : ℕ → UnitState) where
  -- before it was attached to a unit
  unattached : (nexus : Nexus) (kind : SessionType) (units : ℕ) (seen : List Sight) (fault : BeginFault)
      → IsCauseOf claims opening nexus kind units [] fault [] → IsTurnedBack claims opening nexus kind units fault seen seen
  unattached nexus kind units seen fault cause =
      record {
        at = [];
        attached = tt;
        left = [];
        over = tt;
        full = [];
        cause = cause;
        ends = sym (append-nil seen) ∙ sym (append-nil (seen ++ []));
      }

  -- for want of memory
  pub at_once : (nexus : Nexus) (kind : SessionType) (units : ℕ) (seen : List Sight)
      → IsTurnedBack claims opening nexus kind units faults.NoMemory seen seen
  at_once nexus kind units seen = unattached nexus kind units seen faults.NoMemory refl

  -- for its connection, which was over when its turn came
  pub too_late : (nexus : Nexus) (units : ℕ) (seen : List Sight)
      → IsTurnedBack claims opening nexus Normal units faults.Left seen seen
  too_late nexus units seen = unattached nexus Normal units seen faults.Left (refl, refl, refl)

  -- for what its port's name lacks, or for want of memory
  pub unnamed : (nexus : Nexus) (kind : SessionType) (units : ℕ) (seen : List Sight) (fault : BeginFault)
      → IsUnnamed nexus.port fault → IsTurnedBack claims opening nexus kind units fault seen seen
  unnamed nexus kind units seen faults.Begun is = absurd is
  unnamed nexus kind units seen faults.NoPortName is = unattached nexus kind units seen faults.NoPortName (refl, refl, is)
  unnamed nexus kind units seen (faults.NoRoom unit) is = absurd is
  unnamed nexus kind units seen faults.Left is = absurd is
  unnamed nexus kind units seen faults.NoTsih is = absurd is
  unnamed nexus kind units seen faults.NoNumber is = absurd is
  unnamed nexus kind units seen faults.NoMemory is = at_once nexus kind units seen

  -- one that is attached to no unit
  alone : (nexus : Nexus) (units : ℕ) (fault : EnterFault) → IsCauseOf claims opening nexus Discovery units [] (fault_of fault) []
  alone nexus units enters.NoTsih = (refl, refl)
  alone nexus units enters.NoNumber = (refl, refl)
  alone nexus units enters.NoMemory = refl

  pub at_none : (nexus : Nexus) (units : ℕ) (seen : List Sight) (fault : EnterFault)
      → IsTurnedBack claims opening nexus Discovery units (fault_of fault) seen seen
  at_none nexus units seen fault = unattached nexus Discovery units seen (fault_of fault) (alone nexus units fault)

  -- at a unit behind those that it was attached to, and has left
  pub at_a_unit : {H : Type 0} (f : H → Sight) (nexus : Nexus) (units unit : ℕ) (at : List At) (old : List Sight) (mid new : List H)
      (full : Option H) (fault : BeginFault)
      → MatchOption full ((fault ≡ faults.NoMemory) × (new ≡ mid)) (λ one. (fault ≡ faults.NoRoom unit) × (new ≡ mid ++ one ∷ []))
      → IfSome full (λ s. IsFullAt claims opening nexus unit (f s)) → Leaves claims opening at old (map f mid)
      → AreAttached claims opening nexus 0 at → length at ≡ unit
      → IsTurnedBack claims opening nexus Normal units fault old (map f new)
  at_a_unit f nexus units unit at old mid new None fault is full leaves attached count =
      record {
        at = at;
        attached = attached;
        left = leaves.seen;
        over = leaves.over;
        full = [];
        cause = subst (λ (x : BeginFault). IsCauseOf claims opening nexus Normal units at x []) (sym is.0) refl;
        ends = ap (map f) is.1 ∙ leaves.ends ∙ sym (append-nil (old ++ leaves.seen));
      }
  at_a_unit f nexus units unit at old mid new (Some one) fault is full leaves attached count =
      record {
        at = at;
        attached = attached;
        left = leaves.seen;
        over = leaves.over;
        full = f one ∷ [];
        cause = subst (λ (x : BeginFault). IsCauseOf claims opening nexus Normal units at x (f one ∷ [])) (sym is.0)
            (refl, count, (f one, refl, full));
        ends = ap (map f) is.1 ∙ map-append f mid (one ∷ []) ∙ ap (λ (l : List Sight). l ++ f one ∷ []) leaves.ends;
      }

  -- why one that is attached to all units does not live
  cause_of : (nexus : Nexus) (units : ℕ) (at : List At) (fault : EnterFault) → IsJoined claims opening Normal nexus units at
      → IsCauseOf claims opening nexus Normal units at (fault_of fault) []
  cause_of nexus units at enters.NoTsih joined = (joined, refl)
  cause_of nexus units at enters.NoNumber joined = (joined, refl)
  cause_of nexus units at enters.NoMemory joined = refl

  pub behind_all : (nexus : Nexus) (units : ℕ) (at : List At) (old new : List Sight) (fault : EnterFault)
      → IsJoined claims opening Normal nexus units at → Leaves claims opening at old new
      → IsTurnedBack claims opening nexus Normal units (fault_of fault) old new
  behind_all nexus units at old new fault joined leaves =
      record {
        at = at;
        attached = joined.1;
        left = leaves.seen;
        over = leaves.over;
        full = [];
        cause = cause_of nexus units at fault joined;
        ends = leaves.ends ∙ sym (append-nil (old ++ leaves.seen));
      }

-- nothing is said of what is in a slot from which it was taken
pub taken : {C : Type 0} (slot : Option C) (P : C → Type 0) → is_taken slot ≡ true → IfSome slot P
taken (Some c) P is = let e : false ≡ true = is in absurd (cc)
taken None P is = tt

-- where it was not asked, it had not begun
pub fresh_of : {C X H : Type 0} (slot : Option C) (one : C) (begun : Bool) (at : List X) (seen : List H) → slot ≡ Some one
    → IfSome slot (λ _. (begun ≡ false) × (at ≡ []) × (seen ≡ [])) → (begun ≡ false) × (at ≡ []) × (seen ≡ [])
fresh_of (Some c) one begun at seen is fresh = fresh
fresh_of None one begun at seen is fresh = absurd (cc)

-- a cause that lies in the units stands by itself
pub grounds_of_units : (table : Sayings) (asked : Bool) (fault : BeginFault) → IsOfUnits fault → IsGrounded table asked fault
grounds_of_units table asked faults.Begun is = absurd is
grounds_of_units table asked faults.NoPortName is = absurd is
grounds_of_units table asked (faults.NoRoom unit) is = tt
grounds_of_units table asked faults.Left is = absurd is
grounds_of_units table asked faults.NoTsih is = absurd is
grounds_of_units table asked faults.NoNumber is = absurd is
grounds_of_units table asked faults.NoMemory is = tt

-- so does one that lies in the port's name
pub grounds_of_unnamed : (table : Sayings) (asked : Bool) (port : Port) (fault : BeginFault) → IsUnnamed port fault
    → IsGrounded table asked fault
grounds_of_unnamed table asked port faults.Begun is = absurd is
grounds_of_unnamed table asked port faults.NoPortName is = tt
grounds_of_unnamed table asked port (faults.NoRoom unit) is = tt
grounds_of_unnamed table asked port faults.Left is = absurd is
grounds_of_unnamed table asked port faults.NoTsih is = absurd is
grounds_of_unnamed table asked port faults.NoNumber is = absurd is
grounds_of_unnamed table asked port faults.NoMemory is = tt

-- what stands behind the table's cause
pub grounds_of : (table : Sayings) (asked : Bool) (fault : EnterFault) → table.refused fault → IsGrounded table asked (fault_of fault)
grounds_of table asked enters.NoTsih said = said
grounds_of table asked enters.NoNumber said = said
grounds_of table asked enters.NoMemory said = tt

-- one that was asked before is as it was
pub asked_twice : (claims : Claims) (table : Sayings) (opening : ℕ → UnitState) {C : Type 0} (now old : TargetValue) (port : Port)
    (kind : SessionType) (slot : Option C) → now ≡ old → now.asked ≡ true → slot ≡ None
    → IsRefused claims table opening old port kind faults.Begun (record now { asked = is_taken slot })
asked_twice claims table opening now old port kind slot is asked none =
    subst (λ o. IsRefused claims table opening old port kind faults.Begun (record now { asked = is_taken o })) (sym none)
    (subst (λ (t : TargetValue). IsRefused claims table opening t port kind faults.Begun (record now { asked = true })) is (record {
      turned_back = record {
        at = [];
        attached = tt;
        left = [];
        over = tt;
        full = [];
        cause = (refl, refl);
        ends = sym (append-nil now.seen) ∙ sym (append-nil (now.seen ++ []));
      };
      grounds = asked;
      again = λ _. sym (ap (λ (b : Bool). record now { asked = b }) asked);
      rest = refl;
    }))

-- the target of a session that was asked, before that
pub unasked : (now : TargetValue) → now.asked ≡ true → now ≡ record (record now { asked = false }) { asked = true }
unasked now asked = ap (λ (b : Bool). record now { asked = b }) asked

-- The target of a session that was not asked before, and had not begun, as it is then.
module _ (claims : Claims) (table : Sayings) (opening : ℕ → UnitState) (old now : TargetValue)
    (is : now ≡ record old { asked = true }) where
  -- it may not begin
  pub turned_back : (port : Port) (kind : SessionType) (fault : BeginFault) (at : List At) (before seen : List Sight)
      → old.begun ≡ false → at ≡ old.at → before ≡ old.seen → IsGrounded table old.asked fault
      → IsTurnedBack claims opening (through port now.group) kind now.units fault before seen
      → IsRefused claims table opening old port kind fault (record now { at = at; seen = seen })
  turned_back port kind fault at before seen fresh stays same grounds back =
      record {
        turned_back = subst (λ (l : List Sight). IsTurnedBack claims opening (through port old.group) kind old.units fault l seen) same
            (subst (λ (t : TargetValue). IsTurnedBack claims opening (through port t.group) kind t.units fault before seen) is back);
        grounds = grounds;
        again = λ (begun : old.begun ≡ true). let e : true ≡ false = sym begun ∙ fresh in absurd (cc);
        rest = ap (λ (t : TargetValue). record t { at = at; seen = seen }) is
            ∙ ap (λ (l : List At). record old { asked = true; at = l; seen = seen }) stays;
      }

  -- or it begins
  pub has_begun : (port : Port) (kind : SessionType) (number tsih : ℕ) (at : List At) (seen : List Sight) → IsPortName port
      → old.asked ≡ false → (old.begun ≡ false) × (old.at ≡ []) × (old.seen ≡ []) → seen ≡ old.seen
      → IsJoined claims opening kind (through port now.group) now.units at
      → table.entered (through port now.group) kind number tsih
      → HasBegun claims table opening old port kind tsih
      (record now { begun = true; number = Some number; at = at; seen = seen })
  has_begun port kind number tsih at seen name first fresh same joined entered =
      record {
        name = name;
        first = first;
        fresh = fresh;
        joined = subst (λ (t : TargetValue). IsJoined claims opening kind (through port t.group) t.units at) is joined;
        number = number;
        entered = subst (λ (t : TargetValue). table.entered (through port t.group) kind number tsih) is entered;
        rest = ap (λ (t : TargetValue). record t { begun = true; number = Some number; at = at; seen = seen }) is
            ∙ ap (λ (l : List Sight). record old { asked = true; begun = true; number = Some number; at = at; seen = l }) same;
      }

nothing : {X : Type 0} (xs : List X) → length xs ≡ 0 → xs ≡ []
nothing [] e = refl
nothing (x ∷ xs) e = absurd (omega (arith, e))

-- where it was not asked, it was at no unit, and had seen none: so at its end it sees none
pub still_fresh : {C X H : Type 0} (slot : Option C) (begun : Bool) (at after : List X) (old new : List H)
    → IfSome slot (λ _. (begun ≡ false) × (at ≡ []) × (old ≡ [])) → after ≡ [] → length new ≡ length old + length at
    → IfSome slot (λ _. (begun ≡ false) × (after ≡ []) × (new ≡ []))
still_fresh (Some c) begun at after old new is none count =
    (is.0, none, nothing new (omega (arith, count, ap length is.1, ap length is.2)))
still_fresh None begun at after old new is none count = tt
