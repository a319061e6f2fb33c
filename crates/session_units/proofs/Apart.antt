-- Whose entry is whose: a session's own are those with its number, which is the place of its Attach.
use Rattle.std.proofs.Common.{◌≡◌, ◌≢◌, ℕ, zero, suc, ◌≤◌, Bool, true, false, nat_eq, cond, List, [], ◌∷◌, ◌++◌, length, take}
use Rattle.std.proofs.Common.{Option, Some, None, refl, sym, ap, ◌∙◌, subst, append_assoc, ⊎_elim, arith, length-append}
use Rattle.std.proofs.lemmas.Bool.{false≢true}
use Rattle.std.proofs.lemmas.Bool.Decides.{eqb_tells}
use Rattle.std.proofs.lemmas.List.{take_at}
use Rattle.std.specs.Option.{option_map}
use Rattle.std.specs.Prelude.{◌⊎◌, IsSome, slice_get}
use mathlib.Core.List.{IsPrefix}
use Rattle.scsi_types.specs.Nexus.{Nexus}
use Rattle.status.specs.Views.{counted}
use Rattle.unit_control.specs.State.{UnitState}
use Rattle.unit_control.specs.Sessions.{next_of, session_of}
use Rattle.unit_control.specs.declared.sessions.Attached.{Attached}
use Rattle.unit_control.specs.Entry.{Entry, Attach, Detach, Reset, Move, Command, IsPossible}
use Rattle.unit_state.specs.History.{state_after, IsLegal}
use Rattle.unit_state.specs.Serials.{IsNumbered, IsOpening}
use Rattle.unit_entries.specs.Histories.{is_own, own}
use Rattle.session_units.specs.Units.{Claims}
use Rattle.session_units.specs.Late.{Late}
use Rattle.session_units.specs.Entries.{Done, HasDone, IsAttachOf}
use Rattle.session_units.proofs.AsTold.{legal_front, legal_back}
use Rattle.session_units.proofs.Chains.{one_more}

-- ---- one number

same_number : (id n : ℕ) → nat_eq id n ≡ true → id ≡ n
same_number id n is =
    ⊎_elim (λ (t : (nat_eq id n ≡ true) × (id ≡ n)). t.1)
    (λ (f : (nat_eq id n ≡ false) × (id ≢ n)). absurd (false≢true (sym f.0 ∙ is))) (eqb_tells id n)

another_number : (id n : ℕ) → (id ≡ n → ⊥) → ◌≡◌ {A = ℕ} (cond (nat_eq id n) 1 0) 0
another_number id n other =
    ⊎_elim (λ (t : (nat_eq id n ≡ true) × (id ≡ n)). absurd (other t.1))
    (λ (f : (nat_eq id n ≡ false) × (id ≢ n)). ap {B = ℕ} (λ (b : Bool). cond b 1 0) f.0) (eqb_tells id n)

-- an entry that is the own of two is that of one
pub one_session : (one two : ℕ) (e : Entry) → is_own one e ≡ true → is_own two e ≡ true → one ≡ two
one_session one two (Attach nexus) first second = absurd (false≢true first)
one_session one two (Detach id) first second = sym (same_number id one first) ∙ same_number id two second
one_session one two (Reset id) first second = sym (same_number id one first) ∙ same_number id two second
one_session one two (Move list choice) first second = absurd (false≢true first)
one_session one two (Command id serial by asked bytes choice) first second =
    sym (same_number id one first) ∙ same_number id two second

-- ---- one place

module _ {X : Type 0} where
  at_end : (before rest : List X) (x : X) → slice_get (before ++ x ∷ rest) (length before) ≡ Some x
  at_end [] rest x = refl
  at_end (y ∷ before) rest x = at_end before rest x

  further : (h more : List X) (n : ℕ) (x : X) → slice_get h n ≡ Some x → slice_get (h ++ more) n ≡ Some x
  further [] more n x is = absurd (cc)
  further (y ∷ h) more zero x is = is
  further (y ∷ h) more (suc n) x is = further h more n x is

  in_longer : (h k : List X) (n : ℕ) (x : X) → IsPrefix h k → slice_get h n ≡ Some x → slice_get k n ≡ Some x
  in_longer h k n x begins is = subst (λ (l : List X). slice_get l n ≡ Some x) begins.1 (further h begins.0 n x is)

one_nexus : (history : List Entry) (n : ℕ) (nexus other : Nexus) → slice_get history n ≡ Some (Attach nexus)
    → slice_get history n ≡ Some (Attach other) → nexus ≡ other
one_nexus history n nexus other first second = cc

-- of two histories of one unit the Attach at a place is of one nexus
pub one_attach : (nexus other : Nexus) (session : ℕ) (one two : List Entry) → IsPrefix one two ⊎ IsPrefix two one
    → IsAttachOf nexus session one → IsAttachOf other session two → nexus ≡ other
one_attach nexus other session one two both first second =
    ⊎_elim
    (λ (p : IsPrefix one two). one_nexus two session nexus other (in_longer one two session (Attach nexus) p first.stands) second.stands)
    (λ (p : IsPrefix two one). one_nexus one session nexus other first.stands (in_longer two one session (Attach other) p second.stands))
    both

-- ---- who is still to come has no entry

serial_of : (sessions : List Attached) (id : ℕ) → IsSome (session_of sessions id) → (serial : ℕ) × (next_of sessions id ≡ Some serial)
serial_of sessions id is = by (session_of sessions id) is
  where
    by : (o : Option Attached) → IsSome o → (serial : ℕ) × (option_map (λ (a : Attached). a.next) o ≡ Some serial)
    by None some = absurd (cc)
    by (Some a) some = (a.next, refl)

module _ (claims : Bool) (s : UnitState) (opens : IsOpening s.control)
    (numbered : (history : List Entry) → IsLegal claims s history → IsNumbered history (state_after s history).control) where
  none_yet : (past : List Entry) (e : Entry) (n : ℕ) → IsLegal claims s past → IsPossible claims (state_after s past) e → length past ≤ n
      → own n e ≡ 0
  none_yet past (Attach nexus) n legal possible le = refl
  none_yet past (Move list choice) n legal possible le = refl
  none_yet past (Detach id) n legal possible le =
      let it = serial_of (state_after s past).control.sessions id possible.attached in
      let below = (numbered past legal).id id it.0 it.1 in
      another_number id n (λ (is : id ≡ n). omega (arith, is, below, le))
  none_yet past (Reset id) n legal possible le =
      let it = serial_of (state_after s past).control.sessions id possible.attached in
      let below = (numbered past legal).id id it.0 it.1 in
      another_number id n (λ (is : id ≡ n). omega (arith, is, below, le))
  none_yet past (Command id serial by asked bytes choice) n legal possible le =
      let below = (numbered past legal).id id serial possible.next.next in
      another_number id n (λ (is : id ≡ n). omega (arith, is, below, le))

  none_of_later : (past more : List Entry) (n : ℕ) → IsLegal claims s (past ++ more) → length (past ++ more) ≤ n
      → counted own n more ≡ 0
  none_of_later past [] n legal le = refl
  none_of_later past (e ∷ more) n legal le =
      let l = length-append past (e ∷ more) in
      let short : length past ≤ n = omega (arith, l, le) in
      let first = none_yet past e n (legal_front claims s past (e ∷ more) legal) (legal_back claims s past (e ∷ more) legal).0 short in
      let a = append_assoc past (e ∷ []) more in
      let others = none_of_later (past ++ e ∷ []) more n (subst (λ (h : List Entry). IsLegal claims s h) (sym a) legal)
      (subst (λ (h : List Entry). length h ≤ n) (sym a) le) in
      let q = one_more n e more in omega (arith, first, others, q)

-- what a session has done at a unit names its own Attach
pub names_its_attach : (claims : Claims) (late : Late) (s : UnitState) (nexus : Nexus) (done : List Done) (history : List Entry)
    → ((h : List Entry) → IsOpening s.control → IsLegal claims.contents s h → IsNumbered h (state_after s h).control)
    → (is : HasDone claims late s nexus done history) → IsAttachOf nexus (length is.before) history
names_its_attach claims late s nexus done history numbered is =
    let e : history ≡ is.before ++ Attach nexus ∷ (is.behind ++ is.rest) =
    is.is ∙ append_assoc (is.before ++ Attach nexus ∷ []) is.behind is.rest
    ∙ append_assoc is.before (Attach nexus ∷ []) (is.behind ++ is.rest) in
    let rest : List Entry = Attach nexus ∷ (is.behind ++ is.rest) in
    let legal : IsLegal claims.contents s is.before =
    legal_front claims.contents s is.before rest (subst (λ (h : List Entry). IsLegal claims.contents s h) e is.legal.legal) in
    let all : length is.before ≤ length is.before = omega arith in
    let none : counted own (length is.before) is.before ≡ 0 =
    none_of_later claims.contents s is.legal.opens (λ (h : List Entry) (l : IsLegal claims.contents s h). numbered h is.legal.opens l)
    [] is.before (length is.before) legal all in
    record {
      stands = subst (λ (h : List Entry). slice_get h (length is.before) ≡ Some (Attach nexus)) (sym e)
          (at_end is.before (is.behind ++ is.rest) (Attach nexus));
      none_before = subst (λ (h : List Entry). counted own (length is.before) h ≡ 0)
          (sym (ap (λ (h : List Entry). take (length is.before) h) e ∙ take_at is.before rest (length is.before) refl)) none;
    }
