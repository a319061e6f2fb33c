-- The session's serial is the unit's next.
use Rattle.std.proofs.Common.{◌≡◌, ◌≢◌, ℕ, ◌+◌, ◌<◌, ◌≤◌, ⊎_elim, true, false, nat_eq, List, [], ◌∷◌, Option, Some, None}
use Rattle.std.proofs.Common.{Result, refl, sym, ap, ◌∙◌, arith}
use Rattle.std.specs.Prelude.{IsSome}
use Rattle.std.specs.Option.{option_map}
use Rattle.std.proofs.lemmas.Bool.Decides.{eqb_tells}
use Rattle.std.proofs.lemmas.Bool.{cases_lt}
use Rattle.block_file.specs.declared.mem.MemBlocks.{MemBlocks}
use Rattle.block_file.specs.declared.opener.KeepOpener.{KeepOpener}
use Rattle.scsi_types.specs.ReplyValue.{ReplyValue}
use Rattle.scsi_types.specs.declared.names.Group.{Group}
use Rattle.scsi_types.specs.declared.command.Command.{Command as ScsiCommand}
use Rattle.scsi_types.specs.declared.command.CdbFault.{CdbFault}
use Rattle.unit_control.specs.Limits.{last_length}
use Rattle.session_rules.specs.declared.target.ResetAnswer.{ResetAnswer}
use Rattle.session_rules.specs.declared.target.ResetAnswer.TheVariants as resets
use Rattle.session_rules.specs.declared.target.TargetAnswer.{TargetAnswer}
use Rattle.session_rules.specs.declared.target.TargetAnswer.TheVariants.{Replied, Outside, Busy, Gone}
use Rattle.unit_control.specs.State.{ControlValue, UnitValue}
use Rattle.unit_control.specs.Choice.{Choice, choice_of}
use Rattle.unit_control.specs.declared.sessions.Attached.{Attached}
use Rattle.unit_control.specs.Sessions.{session_of, next_of, all_reset}
use Rattle.unit_control.specs.Entry.{Reset, Command, IsNext, IsAttached, control_after}
use Rattle.unit_state.proofs.CommandLaws.{next_after, count_after}
use Rattle.once_target.specs.OneUnit.{Call, Device, TargetValue, IsSame, IsCommand, IsTargetAnswer, IsResetBy}

-- one that has its serial and is gone has no room
pub gone_late : (c : ControlValue) (session serial : ℕ) → next_of c.sessions session ≡ Some serial
    → (IsNext c session serial → ⊥)
    → last_length ≤ c.count
gone_late c session serial next gone =
    ⊎_elim (λ (lt : c.count < last_length). absurd (gone (record { room = lt; next = next })))
    (λ (le : last_length ≤ c.count). le) (cases_lt c.count last_length)

-- behind a command its serial is the next again
pub ready_next : (c new : ControlValue) (session serial : ℕ) (by_group : Group) (asked : Result ScsiCommand CdbFault)
    (bytes : List ℕ) (choice : Choice) → IsNext c session serial
    → new ≡ control_after c (Command session serial by_group asked bytes choice)
    → next_of new.sessions session ≡ Some (serial + 1)
ready_next c new session serial by_group asked bytes choice is after =
    ap (λ (d : ControlValue). next_of d.sessions session) after ∙ next_after c session serial by_group asked bytes choice is

-- behind a reset of its own its serial is the same
next_reset : (sessions : List Attached) (by_session session : ℕ)
    → next_of (all_reset sessions by_session) session ≡ next_of sessions session
next_reset [] by_session session = refl
next_reset (a ∷ rest) by_session session =
    ⊎_elim (λ (own : (nat_eq a.id by_session ≡ true) × (a.id ≡ by_session)). rw own.0
    (⊎_elim (λ (t : (nat_eq a.id session ≡ true) × (a.id ≡ session)). rw t.0 refl)
    (λ (f : (nat_eq a.id session ≡ false) × (a.id ≢ session)). rw f.0 (next_reset rest by_session session))
    (eqb_tells a.id session)))
    (λ (other : (nat_eq a.id by_session ≡ false) × (a.id ≢ by_session)). rw other.0
    (⊎_elim (λ (t : (nat_eq a.id session ≡ true) × (a.id ≡ session)). rw t.0 refl)
    (λ (f : (nat_eq a.id session ≡ false) × (a.id ≢ session)). rw f.0 (next_reset rest by_session session))
    (eqb_tells a.id session)))
    (eqb_tells a.id by_session)

pub ready_reset : (c new : ControlValue) (session serial : ℕ) → next_of c.sessions session ≡ Some serial
    → new ≡ control_after c (Reset session) → next_of new.sessions session ≡ Some serial
ready_reset c new session serial next after = ap (λ (d : ControlValue). next_of d.sessions session) after
    ∙ next_reset c.sessions session session ∙ next

-- one that is attached and cannot reset has no room
is_attached : (o : Option Attached) (serial : ℕ) → option_map (λ a. a.next) o ≡ Some serial → IsSome o
is_attached None serial next = absurd (cc)
is_attached (Some a) serial next = refl

pub reset_late : (c : ControlValue) (session serial : ℕ) → next_of c.sessions session ≡ Some serial
    → (IsAttached c session → ⊥)
    → last_length ≤ c.count
reset_late c session serial next gone =
    ⊎_elim (λ (lt : c.count < last_length). absurd
    (gone (record { room = lt; attached = is_attached (session_of c.sessions session) serial next })))
    (λ (le : last_length ≤ c.count). le) (cases_lt c.count last_length)

-- ---- what a target answered

abbrev some : ℕ → Option ℕ
some n = Some n

module _ {B : Type 0} (old new : TargetValue B) where
  -- behind nothing the session's serial is the next still
  pub ready_same : IsSame old new → next_of old.unit.control.sessions old.at.session ≡ Some old.at.serial
      → next_of new.unit.control.sessions new.at.session ≡ Some new.at.serial
  ready_same same next =
      ap (λ (u : UnitValue B MemBlocks KeepOpener). next_of u.control.sessions new.at.session) same.unit
      ∙ ap (λ (n : ℕ). next_of old.unit.control.sessions n) same.session ∙ next ∙ sym (ap some same.serial)

  -- and no serial passes the count of entries, which never falls
  pub fits_same : IsSame old new → old.at.serial ≤ old.unit.control.count → new.at.serial ≤ new.unit.control.count
  fits_same same fits =
      let e : new.unit.control.count ≡ old.unit.control.count =
      ap (λ (u : UnitValue B MemBlocks KeepOpener). u.control.count) same.unit in
      let f : new.at.serial ≡ old.at.serial = same.serial in omega arith

  pub grows_same : IsSame old new → old.unit.control.count ≤ new.unit.control.count
  grows_same same =
      let e : new.unit.control.count ≡ old.unit.control.count =
      ap (λ (u : UnitValue B MemBlocks KeepOpener). u.control.count) same.unit in omega arith

module _ {B : Type 0} (d : Device B) (f : Device MemBlocks) (old new : TargetValue B) where
  -- what one fact tells of a session that is gone, another tells that follows
  pub answered_over : (late also : Type 0) → (late → also) → (call : Call) (a : TargetAnswer)
      → IsTargetAnswer late d f old call a new → IsTargetAnswer also d f old call a new
  answered_over late also follows call (Replied reply) k = k
  answered_over late also follows call (Outside reply) k = k
  answered_over late also follows call Busy k = k
  answered_over late also follows call Gone k = (k.0, k.1, follows k.2)

  -- behind an answer the session's serial is the next still
  pub ready_answered : (late : Type 0) (call : Call) (a : TargetAnswer)
      → next_of old.unit.control.sessions old.at.session ≡ Some old.at.serial
      → IsTargetAnswer late d f old call a new
      → next_of new.unit.control.sessions new.at.session ≡ Some new.at.serial
  ready_answered late call (Replied reply) next k =
      let by_owner : TargetValue B = k.1 in
      let done = k.3 in
      let choice : Choice = choice_of reply (d.contents new.unit.device) new.unit.control.lasting in
      ap (λ (n : ℕ). next_of new.unit.control.sessions n) done.session
      ∙ ready_next by_owner.unit.control new.unit.control by_owner.at.session by_owner.at.serial by_owner.at.by
      call.asked call.bytes choice done.step.possible.next done.step.control
      ∙ sym (ap some done.serial)
  ready_answered late call (Outside reply) next k = ready_same old new k.2 next
  ready_answered late call Busy next k = ready_same old new k.1 next
  ready_answered late call Gone next k = ready_same old new k.1 next

  -- no serial passes the count of entries, which never falls
  module _ (late : Type 0) (call : Call) where
    counted : (reply : ReplyValue) → (by_owner : TargetValue B) → IsSame old by_owner
        → IsCommand d f by_owner new call reply
        → new.unit.control.count ≡ old.unit.control.count + 1
    counted reply by_owner same done =
        ap (λ (c : ControlValue). c.count) done.step.control
        ∙ count_after by_owner.unit.control by_owner.at.session by_owner.at.serial by_owner.at.by call.asked call.bytes
        (choice_of reply (d.contents new.unit.device) new.unit.control.lasting)
        ∙ ap (λ (u : UnitValue B MemBlocks KeepOpener). u.control.count + 1) same.unit

    pub fits_answered : (a : TargetAnswer) → old.at.serial ≤ old.unit.control.count
        → IsTargetAnswer late d f old call a new
        → new.at.serial ≤ new.unit.control.count
    fits_answered (Replied reply) fits k =
        let e = counted reply k.1 k.2 k.3 in
        let g : new.at.serial ≡ old.at.serial + 1 = k.3.serial ∙ ap (λ (n : ℕ). n + 1) k.2.serial in omega arith
    fits_answered (Outside reply) fits k = fits_same old new k.2 fits
    fits_answered Busy fits k = fits_same old new k.1 fits
    fits_answered Gone fits k = fits_same old new k.1 fits

module _ {B : Type 0} (late : Type 0) (old new : TargetValue B) (number : ℕ) where
  pub reset_over : (also : Type 0) → (late → also) → (a : ResetAnswer) → IsResetBy late old number a new
      → IsResetBy also old number a new
  reset_over also follows resets.Done k = k
  reset_over also follows resets.Gone k = (k.0, k.1, follows k.2)
  reset_over also follows resets.Failed k = k

  pub ready_reset_by : (a : ResetAnswer) → next_of old.unit.control.sessions old.at.session ≡ Some old.at.serial
      → new.at ≡ old.at
      → IsResetBy late old number a new
      → next_of new.unit.control.sessions new.at.session ≡ Some new.at.serial
  ready_reset_by resets.Done next stays k =
      rw stays (ready_reset old.unit.control new.unit.control old.at.session old.at.serial next k.1.control)
  ready_reset_by resets.Gone next stays k = ready_same old new k.1 next
  ready_reset_by resets.Failed next stays k = ready_same old new k.1 next

  pub grows_reset_by : (a : ResetAnswer) → IsResetBy late old number a new → old.unit.control.count ≤ new.unit.control.count
  grows_reset_by resets.Done k = let e : new.unit.control.count ≡ old.unit.control.count + 1 =
      ap (λ (d : ControlValue). d.count) k.1.control in omega arith
  grows_reset_by resets.Gone k = grows_same old new k.1
  grows_reset_by resets.Failed k = grows_same old new k.1
