-- Commands that were served: what each of them tells of reply, choice and control.
use Rattle.std.proofs.Common.{◌≡◌, ℕ, Bool, List, [], Ok, refl, sym, ap, subst, ⊎_elim}
use Rattle.std.specs.Prelude.{IsTrue}
use Rattle.compare_write.specs.declared.end.MediumEnd.{MediumEnd}
use Rattle.reservations.specs.Table.{Effect, Done as Reserved, Conflicting, Refused}
use Rattle.scsi_types.specs.declared.reservation.PrOutAction.{PrOutAction}
use Rattle.registrants.specs.Registry.{RecordValue}
use Rattle.unit_control.specs.Reserve.{MayFailToSave, after_effect, effect_by, effect_reply, pr_out}
use Rattle.unit_control.specs.Saving.{IsReserved, with_doubt}
use Rattle.scsi_types.specs.ReplyValue.{ReplyValue, good, check}
use Rattle.scsi_types.specs.Sense.{internal_target_failure}
use Rattle.scsi_types.specs.declared.command.Command.{Command}
use Rattle.scsi_types.specs.declared.command.Command.TheVariants as commands
use Rattle.unit_control.specs.Answer.{IsPerformed}
use Rattle.unit_control.specs.State.{ControlValue, unit_of}
use Rattle.unit_control.specs.Choice.{Choice, Fine, ReadFailed, WriteFailed, OpenFailed, SaveFailed, choice_of}
use Rattle.unit_control.specs.Entry.{MayCome, described, left_by, returned_by}
use Rattle.unit_state.specs.Step.{is_describing}
use Rattle.unit_control.specs.Medium.{Work, MayChoose, Nothing, Reads, Writes, Compares, Flushes}
use Rattle.unit_control.specs.Medium.{Finding, Done, SaveError, reply_by}
use Rattle.unit_control.specs.Medium.{work_of}
use Rattle.unit_control.specs.Worked.{IsWorked, choice_at, finding_at}
use Rattle.unit_control.proofs.Works.{told_choice}
use Rattle.reservations.specs.declared.request.PrOut.{PrOut}
use Rattle.scsi_types.specs.declared.command.Command.TheVariants.{PersistentReserveOut}

-- ---- commands on the medium

no_open : (work : Work) → MayChoose work OpenFailed → ⊥
no_open Nothing may = may
no_open (Reads r flushed) may = may
no_open (Writes r bytes flushed) may = may
no_open (Compares r bytes flushed) may = may
no_open (Flushes r) may = may

no_save : (work : Work) (records : List RecordValue) → MayChoose work (SaveFailed records) → ⊥
no_save Nothing records may = may
no_save (Reads r flushed) records may = may
no_save (Writes r bytes flushed) records may = may
no_save (Compares r bytes flushed) records may = may
no_save (Flushes r) records may = may

-- what the medium may come to a command may
may_come : (c : ControlValue) (session : ℕ) (command : Command) (bytes : List ℕ) (choice : Choice)
    → MayChoose (work_of command bytes) choice → MayCome c session (Ok command) bytes choice
may_come c session command bytes Fine may = tt
may_come c session command bytes ReadFailed may = may
may_come c session command bytes (WriteFailed blocks) may = may
may_come c session command bytes OpenFailed may = absurd (no_open (work_of command bytes) may)
may_come c session command bytes (SaveFailed records) may = absurd (no_save (work_of command bytes) records may)

-- one that the medium answers
pub medium_served : (claims : Bool) (c now : ControlValue) (old new : List (List ℕ)) (session : ℕ) (command : Command)
    (bytes read kept : List ℕ) (end : MediumEnd) (reply : ReplyValue)
    → ((finding : Finding) → returned_by c session command bytes finding ≡ reply_by finding)
    → ((choice : Choice) → left_by c session command bytes choice ≡ c) → now ≡ c
    → IsWorked claims old new (work_of command bytes) end read → kept ≡ read → reply ≡ reply_by (finding_at end kept)
    → IsPerformed claims (unit_of c old) (unit_of now new) session command bytes reply
medium_served claims c now old new session command bytes read kept end reply medium leaves same_control worked same is =
    rw (is, same, same_control) (record {
      finding = finding_at end read;
      chosen = rw (told_choice end read new c.lasting) (may_come c session command bytes (choice_at end new) worked.chosen);
      may = rw (told_choice end read new c.lasting) worked.may;
      torn = rw (told_choice end read new c.lasting) worked.torn;
      told = rw (told_choice end read new c.lasting) worked.told;
      leaves = rw (told_choice end read new c.lasting) worked.leaves;
      control = sym (leaves (choice_of (reply_by (finding_at end read)) new c.lasting));
      answers = sym (medium (finding_at end read));
    })

-- one that does nothing on the medium
pub other_served : (claims : Bool) (c now : ControlValue) (blocks : List (List ℕ)) (session : ℕ) (command : Command)
    (bytes : List ℕ) (reply : ReplyValue) → work_of command bytes ≡ Nothing → choice_of reply blocks now.lasting ≡ Fine
    → now ≡ left_by c session command bytes Fine
    → reply ≡ returned_by c session command bytes (Done [])
    → IsPerformed claims (unit_of c blocks) (unit_of now blocks) session command bytes reply
other_served claims c now blocks session command bytes reply nothing fine leaves is = rw fine (record {
  finding = Done [];
  chosen = tt;
  may = rw nothing refl;
  torn = λ h. tt;
  told = rw nothing (λ h. refl);
  leaves = rw nothing (λ h. refl);
  control = leaves;
  answers = is;
})

pub good_served : (claims : Bool) (c now : ControlValue) (blocks : List (List ℕ)) (session : ℕ) (command : Command)
    (bytes told : List ℕ) (reply : ReplyValue) → work_of command bytes ≡ Nothing → returned_by c session command bytes
    (Done []) ≡ good told → now ≡ left_by c session command bytes Fine → reply ≡ good told
    → IsPerformed claims (unit_of c blocks) (unit_of now blocks) session command bytes reply
good_served claims c now blocks session command bytes told reply nothing returns leaves is =
    rw is (other_served claims c now blocks session command bytes (good told) nothing refl leaves (sym returns))

-- ---- PERSISTENT RESERVE OUT

pub effect_is_fine : (e : Effect) (blocks : List (List ℕ)) (lasting : List RecordValue)
    → choice_of (effect_reply e) blocks lasting ≡ Fine
effect_is_fine (Reserved new told) blocks lasting = refl
effect_is_fine Conflicting blocks lasting = refl
effect_is_fine (Refused asc ascq) blocks lasting = refl

module _ (claims : Bool) (c now : ControlValue) (blocks : List (List ℕ)) (session : ℕ) (action : PrOutAction)
    (scope kind n : ℕ) (bytes : List ℕ) where
  abbrev effect : Effect
  effect = effect_by c session (pr_out action scope kind bytes)

  reserved : (reply : ReplyValue) → now ≡ after_effect c effect → reply ≡ effect_reply effect
      → IsPerformed claims (unit_of c blocks) (unit_of now blocks) session
      (commands.PersistentReserveOut action scope kind n) bytes reply
  reserved reply leaves is =
      other_served claims c now blocks session (commands.PersistentReserveOut action scope kind n) bytes reply refl
      (rw is (effect_is_fine effect blocks now.lasting)) leaves is

  unsaved : (reply : ReplyValue) → MayFailToSave c effect now.lasting → now ≡ with_doubt c now.lasting
      → reply ≡ check internal_target_failure
      → IsPerformed claims (unit_of c blocks) (unit_of now blocks) session
      (commands.PersistentReserveOut action scope kind n) bytes reply
  unsaved reply may leaves is = rw is (record {
    finding = SaveError;
    chosen = may;
    may = refl;
    torn = λ h. tt;
    told = λ h. refl;
    leaves = λ h. refl;
    control = leaves;
    answers = refl;
  })

  pub reserved_served : (reply : ReplyValue) → IsReserved c effect now reply
      → IsPerformed claims (unit_of c blocks) (unit_of now blocks) session
      (commands.PersistentReserveOut action scope kind n) bytes reply
  reserved_served reply is = ⊎_elim
      (λ (done : (now ≡ after_effect c effect) × (reply ≡ effect_reply effect)). reserved reply done.0 done.1)
      (λ (lost : MayFailToSave c effect now.lasting × (now ≡ with_doubt c now.lasting)
      × (reply ≡ check internal_target_failure)). unsaved reply lost.0 lost.1 lost.2)
      is

pub reserved_ok : (claims : Bool) (c now : ControlValue) (blocks : List (List ℕ)) (session : ℕ)
    (command : Command) (action : PrOutAction) (scope kind n : ℕ) (bytes : List ℕ) (asked : PrOut)
    (reply : ReplyValue) → command ≡ PersistentReserveOut action scope kind n
    → asked ≡ pr_out action scope kind bytes → IsReserved c (effect_by c session asked) now reply
    → IsPerformed claims (unit_of c blocks) (unit_of now blocks) session command bytes reply
reserved_ok claims c now blocks session command action scope kind n bytes asked reply is same ends =
    rw is (reserved_served claims c now blocks session action scope kind n bytes reply
    (subst (λ (q : PrOut). IsReserved c (effect_by c session q) now reply) same ends))

-- ---- commands of which the unit only tells

pub described_served : (claims : Bool) (c : ControlValue) (blocks : List (List ℕ)) (session : ℕ) (command : Command)
    (bytes told : List ℕ) (reply : ReplyValue) → IsTrue (is_describing command) → told ≡ described c session command
    → reply ≡ good told
    → IsPerformed claims (unit_of c blocks) (unit_of c blocks) session command bytes reply
described_served claims c blocks session (commands.Inquiry page n) bytes told reply d is said =
    good_served claims c c blocks session _ bytes told reply refl (ap good (sym is)) refl said
described_served claims c blocks session (commands.ModeSense header control page n) bytes told reply d is said =
    good_served claims c c blocks session _ bytes told reply refl (ap good (sym is)) refl said
described_served claims c blocks session (commands.ReportLuns select n) bytes told reply d is said =
    good_served claims c c blocks session _ bytes told reply refl (ap good (sym is)) refl said
described_served claims c blocks session commands.ReadCapacity10 bytes told reply d is said =
    good_served claims c c blocks session _ bytes told reply refl (ap good (sym is)) refl said
described_served claims c blocks session (commands.ReadCapacity16 n) bytes told reply d is said =
    good_served claims c c blocks session _ bytes told reply refl (ap good (sym is)) refl said
described_served claims c blocks session (commands.PersistentReserveIn action n) bytes told reply d is said =
    good_served claims c c blocks session _ bytes told reply refl (ap good (sym is)) refl said
described_served claims c blocks session (commands.ReportTargetPortGroups n) bytes told reply d is said =
    good_served claims c c blocks session _ bytes told reply refl (ap good (sym is)) refl said
described_served claims c blocks session (commands.SetTargetPortGroups n) bytes told reply d is said = absurd (cc)
described_served claims c blocks session commands.TestUnitReady bytes told reply d is said = absurd (cc)
described_served claims c blocks session (commands.RequestSense n) bytes told reply d is said = absurd (cc)
described_served claims c blocks session (commands.PersistentReserveOut action scope kind n) bytes told reply d is
    said = absurd (cc)
described_served claims c blocks session (commands.Read lba n fua) bytes told reply d is said = absurd (cc)
described_served claims c blocks session (commands.Write lba n fua) bytes told reply d is said = absurd (cc)
described_served claims c blocks session (commands.CompareAndWrite lba n fua) bytes told reply d is said = absurd (cc)
described_served claims c blocks session (commands.SynchronizeCache lba n) bytes told reply d is said = absurd (cc)
