-- A step of the unit is an entry of the model.
use Rattle.std.specs.Prelude.{IsTrue}
use Rattle.std.proofs.Common.{◌≡◌, ℕ, Bool, List, [], None, Ok, Result, refl, sym, subst, ap, ◌∙◌}
use Rattle.access_states.specs.AccessMap.{owner_of}
use Rattle.aptpl_file.specs.Lasts.{EachOutcomeHolds, FileValue, LastsAmong}
use Rattle.aptpl_file.proofs.LastsLaws.{each_outcome_holds}
use Rattle.registrants.specs.Registry.{RecordValue}
use Rattle.scsi_types.specs.ReplyValue.{ReplyValue, check}
use Rattle.scsi_types.specs.Sense.{unrecovered_read_error}
use Rattle.scsi_types.specs.declared.status.Status.TheVariants.{Good}
use Rattle.scsi_types.specs.declared.names.Group.{Group}
use Rattle.scsi_types.specs.declared.command.Command.{Command as ScsiCommand}
use Rattle.scsi_types.specs.declared.command.CdbFault.{CdbFault}
use Rattle.unit_control.specs.declared.refusal.Refusal.{Refusal}
use Rattle.unit_control.specs.declared.refusal.Refusal.TheVariants.{Attention, Conflict, Check}
use Rattle.unit_control.specs.State.{ControlValue, UnitState, UnitValue, state_of, unit_of}
use Rattle.unit_control.specs.Choice.{Choice, Fine, choice_of}
use Rattle.unit_control.specs.Medium.{Work}
use Rattle.unit_control.specs.Refusal.{Request, request, refusal, refusal_reply, refusal_control}
use Rattle.unit_control.specs.Route.{IsRefused}
use Rattle.unit_control.specs.Entry.{Entry, Command, IsNext, count_command}
use Rattle.unit_control.specs.Answer.{IsAnswerWith, IsAnswer, IsPerformed, Lasts}
use Rattle.unit_state.specs.Answered.{LacksMemory}
use Rattle.unit_state.specs.Step.{IsStep, WhereRefused, TakesMemory, entry_of}

-- a command that a rule refuses
pub refused_answer : (claims : Bool) (old new : ControlValue) (before now : List (List ℕ)) (r : Request)
    (refused : Refusal) (reply : ReplyValue) → IsRefused old r refused → reply ≡ refusal_reply refused → new
    ≡ refusal_control old r.session refused → now ≡ before
    → IsAnswer claims (unit_of old before) (unit_of new now) r reply
refused_answer claims old new before now r refused reply is told control same = rw (is.refuses, told, same) (record {
  chosen = is.fine before new.lasting;
  torn = λ h. tt;
  control = control;
  blocks = λ h. refl;
  answer = refl;
})

-- a command that did what it asks
pub done_answer : (claims : Bool) (old new : UnitState) (command : ScsiCommand) (bytes : List ℕ) (reply : ReplyValue)
    (session : ℕ) → IsPerformed claims old new session command bytes reply
    → IsAnswerWith claims old new (request session (Ok command) bytes) None
    (choice_of reply new.blocks new.control.lasting) reply
done_answer claims old new command bytes reply session done = record {
  chosen = done.chosen;
  torn = done.torn;
  control = done.control;
  blocks = done.leaves;
  answer = record { finding = done.finding; may = done.may; is = done.answers; told = done.told };
}

-- an answer, and one command more of its session, is a step
pub answered_step : (claims : Bool) (old mid new : UnitState) (session serial : ℕ) (by_group : Group)
    (asked : Result ScsiCommand CdbFault) (bytes : List ℕ) (reply : ReplyValue) → IsNext old.control session serial
    → by_group ≡ owner_of old.control.access → IsAnswer claims old mid (request session asked bytes) reply → new.blocks
    ≡ mid.blocks → new.control ≡ count_command mid.control session
    → IsStep claims old new (entry_of session serial by_group asked bytes reply new) reply
answered_step claims old mid new session serial by_group asked bytes reply next owner k same control =
    let last : new.control.lasting ≡ mid.control.lasting = ap (λ (c : ControlValue). c.lasting) control in
    let chose : choice_of reply mid.blocks mid.control.lasting ≡ choice_of reply new.blocks new.control.lasting =
    ap (λ (b : List (List ℕ)). choice_of reply b mid.control.lasting) (sym same)
    ∙ ap (choice_of reply new.blocks) (sym last) in
    subst (λ (choice : Choice). IsStep claims old new
    (Command session serial by_group asked bytes choice) reply) chose (record {
      possible = record { next = next; owner = owner; chosen = k.chosen; torn = k.torn };
      control = control ∙ ap (λ (c : ControlValue). count_command c session) k.control;
      blocks = λ h. same ∙ k.blocks h;
      answer = k.answer;
    })

-- ---- the parts of a unit, and its value

pub step_seen : {B R O : Type 0} (claims : Bool) (contents : B → List (List ℕ)) (inside seen : UnitValue B R O)
    (new : UnitState) (entry : Entry) (reply : ReplyValue) → inside ≡ seen → IsStep claims
    (state_of contents inside) new entry reply → IsStep claims (state_of contents seen) new entry reply
step_seen {B = B} {R = R} {O = O} claims contents inside seen new entry reply same step =
    subst (λ (u : UnitValue B R O). IsStep claims (state_of contents u) new entry reply) same step

pub lacking_seen : {B R O : Type 0} (inside seen new : UnitValue B R O) (r : Request) → inside ≡ seen
    → LacksMemory (refusal inside.control r) r inside new → TakesMemory seen.control r
lacking_seen {B = B} {R = R} {O = O} inside seen new r same lacks =
    subst (λ (u : UnitValue B R O). TakesMemory u.control r) same
    (record { unrefused = lacks.unrefused; takes = lacks.takes })

pub unreached_seen : {B R O : Type 0} (inside seen : UnitValue B R O) (r : Request) (new : B) → inside ≡ seen
    → WhereRefused (refusal inside.control r) (new ≡ inside.device)
    → WhereRefused (refusal seen.control r) (new ≡ seen.device)
unreached_seen {B = B} {R = R} {O = O} inside seen r new same is =
    subst (λ (u : UnitValue B R O). WhereRefused (refusal u.control r) (new ≡ u.device)) same is

-- a crash leaves one of the records that the unit says
pub restarts : {B : Type 0} (size : B → ℕ) (may_hold : B → ℕ → List ℕ → Type 0) (file : FileValue B)
    (records said : List RecordValue) → LastsAmong size may_hold file records → said ≡ records
    → EachOutcomeHolds (size file.device) (may_hold file.device) said
restarts size may_hold file records said lasts same =
    subst (EachOutcomeHolds (size file.device) (may_hold file.device)) (sym same)
    (each_outcome_holds size may_hold file records lasts)

pub restart_seen : {B R O : Type 0} (claims : Bool) (size : R → ℕ) (may_hold : R → ℕ → List ℕ → Type 0)
    (inside seen : UnitValue B R O) → inside ≡ seen →
    (IsTrue claims → LastsAmong size may_hold inside.file inside.control.lasting)
    → IsTrue claims → EachOutcomeHolds (size seen.file.device) (may_hold seen.file.device) seen.control.lasting
restart_seen {B = B} {R = R} {O = O} claims size may_hold inside seen same lasts h =
    subst (λ (u : UnitValue B R O). EachOutcomeHolds (size u.file.device)
    (may_hold u.file.device) u.control.lasting) same
    (each_outcome_holds size may_hold inside.file inside.control.lasting (lasts h))

pub restart_closed : {B R O : Type 0} (claims : Bool) (size : R → ℕ) (may_hold : R → ℕ → List ℕ → Type 0)
    (inside seen : UnitValue B R O) (device : R) → device ≡ inside.file.device → inside ≡ seen →
    (IsTrue claims → LastsAmong size may_hold inside.file inside.control.lasting)
    → IsTrue claims → EachOutcomeHolds (size device) (may_hold device) seen.control.lasting
restart_closed {B = B} {R = R} {O = O} claims size may_hold inside seen device is same lasts h =
    subst (λ (d : R). EachOutcomeHolds (size d) (may_hold d) seen.control.lasting)
    (sym (is ∙ ap (λ (u : UnitValue B R O). u.file.device) same))
    (restart_seen claims size may_hold inside seen same lasts h)

-- ---- a refusal is no reply that tells of the medium

not_good : (refused : Refusal) → (refusal_reply refused).status ≡ Good → ⊥
not_good (Attention attention) is = absurd (cc)
not_good Conflict is = absurd (cc)
not_good (Check s) is = absurd (cc)

pub refused_lasts : (blocks : List (List ℕ)) (may_hold : ℕ → List ℕ → Type 0) (work : Work) (refused : Refusal)
    (reply : ReplyValue)
    → ((after : List (List ℕ)) (lasting : List RecordValue) → choice_of (refusal_reply refused) after lasting ≡ Fine)
    → reply ≡ refusal_reply refused → Lasts blocks may_hold work reply
refused_lasts blocks may_hold work refused reply fine says = record {
  good = λ status flushed. absurd (not_good refused (ap (λ (a : ReplyValue). a.status) (sym says) ∙ status));
  unread = λ is first.
      absurd (let same : choice_of (check unrecovered_read_error) [] [] ≡ Fine =
      ap (λ (a : ReplyValue). choice_of a [] []) (sym is ∙ says) ∙ fine [] [] in cc);
}
