-- What a power loss may leave of a unit's devices.
use Rattle.std.proofs.Common.{◌≡◌, inl, ℕ, Bool, false, List, ◌++◌, Option, Some, None, refl, sym, subst, arith}
use Rattle.std.specs.Prelude.{IsTrue}
use Rattle.aptpl_file.specs.Holds.{HoldsOneOf}
use Rattle.aptpl_file.specs.Lasts.{LastsAmong, StopLeavesOneOf}
use Rattle.block_file.specs.Disk.{NoMore}
use Rattle.block_file.proofs.MomentLaws.{no_time}
use Rattle.compare_write.specs.declared.end.MediumEnd.{MediumEnd}
use Rattle.registrants.specs.Registry.{RecordValue}
use Rattle.reservations.specs.declared.request.PrOut.{PrOut}
use Rattle.scsi_types.specs.ReplyValue.{ReplyValue}
use Rattle.scsi_types.specs.declared.command.Command.{Command}
use Rattle.scsi_types.specs.declared.command.Command.TheVariants.{PersistentReserveOut}
use Rattle.scsi_types.specs.declared.reservation.PrOutAction.{PrOutAction}
use Rattle.unit_control.specs.declared.refusal.Refusal.{Refusal}
use Rattle.unit_control.specs.Choice.{Choice, Fine, ReadFailed, WriteFailed, OpenFailed, SaveFailed, choice_of}
use Rattle.unit_control.specs.Crash.{HoldsAsBefore, LeavesAmong, holds_after, holds_compared, holds_with, saved_by, saved_of, saved_with}
use Rattle.unit_control.specs.Medium.{Work, Range, Nothing, Reads, Writes, Compares, Flushes, difference_in, reply_by}
use Rattle.unit_control.specs.Refusal.{Request, refusal}
use Rattle.unit_control.specs.Reserve.{effect_by, pr_out}
use Rattle.unit_control.specs.State.{ControlValue, UnitValue}
use Rattle.unit_state.specs.Step.{asks_medium}
use Rattle.unit_control.specs.Worked.{choice_at, finding_at}
use Rattle.unit_control.proofs.WorkLoss.{left_then}
use Rattle.unit_control.proofs.Works.{told_choice}

-- ---- one device

module _ {D : Type 0} (claims_moments : Bool) (moment : D → ℕ) (left_since : D → ℕ → List (List ℕ) → Type 0)
    (size : D → ℕ) (may_hold : D → ℕ → List ℕ → Type 0) where
  abbrev Left : (ℕ → List ℕ → Type 0) → D → D → Type 0
  Left values old new = LeavesAmong claims_moments moment left_since size may_hold values old new

  -- no call
  pub none_left : (values : ℕ → List ℕ → Type 0) (d : D) → NoMore values (may_hold d) → Left values d d
  none_left values d within = record { crash = within; stop = λ h. no_time (moment d) (left_since d) _ }

  -- a device that holds the same
  pub kept_left : (old new : D) → HoldsAsBefore moment left_since may_hold old new → Left (may_hold old) old new
  kept_left old new kept = record {
    crash = λ k v h. (kept.crash k v).0 h;
    stop = λ h. record {
      later = omega (arith, kept.same_moment);
      nothing_else = λ t disk le left. inl ((kept.time t disk).0 left);
      keeps = λ t disk le left. (kept.time t disk).1 left;
    };
  }

  -- a work adds to what might be there
  within_after : (blocks : List (List ℕ)) (work : Work) (choice : Choice) (may : ℕ → List ℕ → Type 0)
      → NoMore (holds_after blocks work choice may) may
  within_after blocks Nothing choice may = λ k v h. h
  within_after blocks (Reads r flushed) choice may = λ k v h. h
  within_after blocks (Writes r bytes flushed) choice may = λ k v h. inl h
  within_after blocks (Compares r bytes flushed) Fine may = by_difference (difference_in blocks r bytes) where
    by_difference : (o : Option ℕ) → NoMore (holds_compared o r bytes may) may
    by_difference None = λ k v h. inl h
    by_difference (Some at) = λ k v h. h
  within_after blocks (Compares r bytes flushed) ReadFailed may = λ k v h. h
  within_after blocks (Compares r bytes flushed) (WriteFailed after) may = λ k v h. inl h
  within_after blocks (Compares r bytes flushed) OpenFailed may = λ k v h. h
  within_after blocks (Compares r bytes flushed) (SaveFailed records) may = λ k v h. h
  within_after blocks (Flushes r) choice may = λ k v h. h

  pub idle_left : (blocks : List (List ℕ)) (work : Work) (choice : Choice) (d : D)
      → Left (holds_after blocks work choice (may_hold d)) d d
  idle_left blocks work choice d = none_left _ d (within_after blocks work choice (may_hold d))

  pub opened_left : (blocks : List (List ℕ)) (work : Work) (choice : Choice) (old new : D)
      → HoldsAsBefore moment left_since may_hold old new
      → Left (holds_after blocks work choice (may_hold old)) old new
  opened_left blocks work choice old new kept =
      left_then claims_moments moment left_since size may_hold _ old old new refl (idle_left blocks work choice old) (kept_left old new kept)

  pub as_before : (old new : D) → new ≡ old → HoldsAsBefore moment left_since may_hold old new
  as_before old new same = rw same (record {
    same_moment = refl;
    crash = λ k v. (λ h. h, λ h. h);
    time = λ t disk. (λ h. h, λ h. h);
  })

  -- ---- as it is answered

  pub refused_left : (refused : Option Refusal) (blocks : List (List ℕ)) (work : Work) (choice : Choice) (d : D)
      → Left (holds_with refused blocks work choice (may_hold d)) d d
  refused_left None blocks work choice d = idle_left blocks work choice d
  refused_left (Some refused) blocks work choice d = none_left _ d (λ k v h. h)

  pub compared_left : (blocks : List (List ℕ)) (r : Range) (bytes : List ℕ) (fua : Bool) (old new : D)
      (after : List (List ℕ)) (end : MediumEnd) (kept : List ℕ) (lasting : List RecordValue) (reply : ReplyValue)
      → reply ≡ reply_by (finding_at end kept)
      → Left (holds_after blocks (Compares r bytes fua) (choice_at end after) (may_hold old)) old new
      → Left (holds_after blocks (Compares r bytes fua) (choice_of reply after lasting) (may_hold old)) old new
  compared_left blocks r bytes fua old new after end kept lasting reply is left =
      rw (is, told_choice end kept after lasting) left

  pub step_left : {R O : Type 0} (claims : Bool) (contents : D → List (List ℕ)) (inside seen : UnitValue D R O) (r : Request)
      (work : Work) (reply : ReplyValue) (lasting now : List RecordValue) (new : D) → inside ≡ seen → now ≡ lasting
      → (IsTrue claims → Left (holds_with (refusal inside.control r) (contents inside.device) work
      (choice_of reply (contents new) lasting) (may_hold inside.device)) inside.device new)
      → IsTrue claims → Left (holds_with (refusal seen.control r) (contents seen.device) work
      (choice_of reply (contents new) now) (may_hold seen.device)) seen.device new
  step_left {R = R} {O = O} claims contents inside seen r work reply lasting now new same last left =
      subst (λ (u : UnitValue D R O). IsTrue claims → Left (holds_with (refusal u.control r) (contents u.device) work
      (choice_of reply (contents new) now) (may_hold u.device)) u.device new) same
      (subst (λ (l : List RecordValue). IsTrue claims → Left (holds_with (refusal inside.control r) (contents inside.device)
      work (choice_of reply (contents new) l) (may_hold inside.device)) inside.device new) (sym last) left)

  pub same_seen : {R O : Type 0} (claims : Bool) (inside seen : UnitValue D R O) (r : Request) (new : D) → inside ≡ seen
      → (asks_medium inside.control r ≡ false → IsTrue claims → HoldsAsBefore moment left_since may_hold inside.device new)
      → asks_medium seen.control r ≡ false → IsTrue claims → HoldsAsBefore moment left_since may_hold seen.device new
  same_seen {R = R} {O = O} claims inside seen r new same kept =
      subst (λ (u : UnitValue D R O). asks_medium u.control r ≡ false → IsTrue claims
      → HoldsAsBefore moment left_since may_hold u.device new) same kept

-- ---- the registration file

pub stop_seen : {B R O : Type 0} (claims moments : Bool) (moment : R → ℕ) (left_since : R → ℕ → List (List ℕ) → Type 0)
    (size : R → ℕ) (may_hold : R → ℕ → List ℕ → Type 0) (inside seen : UnitValue B R O) (r : Request) (new : R)
    → inside ≡ seen
    → (IsTrue claims → IsTrue moments → LastsAmong size may_hold inside.file inside.control.lasting
    → StopLeavesOneOf moment left_since (saved_with (refusal inside.control r) inside.control r ++ inside.control.lasting)
    inside.file.device new)
    → (IsTrue claims → LastsAmong size may_hold inside.file inside.control.lasting) → IsTrue claims → IsTrue moments
    → StopLeavesOneOf moment left_since (saved_with (refusal seen.control r) seen.control r ++ seen.control.lasting)
    seen.file.device new
stop_seen {B = B} {R = R} {O = O} claims moments moment left_since size may_hold inside seen r new same stop lasts h m =
    subst (λ (u : UnitValue B R O). StopLeavesOneOf moment left_since (saved_with (refusal u.control r) u.control r
    ++ u.control.lasting) u.file.device new) same (stop h m (lasts h))

module _ {D : Type 0} (moment : D → ℕ) (left_since : D → ℕ → List (List ℕ) → Type 0) where
  pub no_stop : (records : List RecordValue) (old new : D) → new ≡ old → StopLeavesOneOf moment left_since records old new
  no_stop records old new same = rw same (no_time (moment old) (left_since old) (HoldsOneOf records))

  pub reserved_stop : (c : ControlValue) (session : ℕ) (command : Command) (action : PrOutAction) (scope kind n : ℕ)
      (bytes : List ℕ) (asked : PrOut) (old new : D) → command ≡ PersistentReserveOut action scope kind n
      → asked ≡ pr_out action scope kind bytes
      → StopLeavesOneOf moment left_since (saved_by (effect_by c session asked) ++ c.lasting) old new
      → StopLeavesOneOf moment left_since (saved_of c session command bytes ++ c.lasting) old new
  reserved_stop c session command action scope kind n bytes asked old new is same stop =
      rw is (subst (λ (q : PrOut). StopLeavesOneOf moment left_since (saved_by (effect_by c session q) ++ c.lasting) old new) same stop)
