-- What is said of an answer, made of what is said of its parts.
use Rattle.std.proofs.Common.{◌≡◌, ◌≢◌, ℕ, ◌+◌, ◌<◌, Bool, List, Option, Some, None, Ok, Err, Result, IfOk, OnErr, refl, sym, subst, ap, arith}
use Rattle.std.specs.Prelude.{◌&&◌, ◌++◌, false, true, IsTrue}
use Rattle.access_states.specs.AccessMap.{AccessMapValue, owner_of}
use Rattle.aptpl_file.specs.Lasts.{FileValue, LastsAmong, StopLeavesOneOf}
use Rattle.block_file.specs.Failures.{Tells}
use Rattle.block_file.specs.declared.blocks.Blocks as device
use Rattle.block_file.specs.declared.opener.Opener as opening
use Rattle.scsi_types.specs.ReplyValue.{ReplyValue}
use Rattle.scsi_types.specs.declared.command.Command.{Command}
use Rattle.scsi_types.specs.declared.command.CdbFault.{CdbFault}
use Rattle.unit_control.specs.declared.refusal.Refusal.{Refusal}
use Rattle.unit_control.specs.Answer.{IsPerformed, Lasts}
use Rattle.unit_control.specs.Choice.{Choice, Fine, IsFine, choice_of}
use Rattle.unit_control.specs.Counts.{AreCounted, Counters, counters}
use Rattle.unit_control.specs.Crash.{HoldsAsBefore, LeavesAmong, holds_after, saved_of}
use Rattle.unit_control.specs.Groups.{is_opening}
use Rattle.unit_control.specs.Medium.{Work, Nothing, is_medium, work_asked, work_of}
use Rattle.unit_control.specs.Places.{Stays}
use Rattle.unit_control.specs.Refusal.{Request, request, refusal, refusal_control, refusal_reply}
use Rattle.unit_control.specs.Route.{IsAdmitted, IsRefused}
use Rattle.unit_control.specs.State.{ControlValue, UnitState, UnitValue, unit_of}
use Rattle.unit_control.proofs.Changes.{first_claims, second_claims}
use Rattle.unit_state.specs.Answered.{HasLeft, HasReplied, LacksMemory, unit_over}
use Rattle.unit_state.specs.Step.{MayTake, WhereRefused, is_reserving}
use Rattle.unit_state.specs.declared.devices.UnitDevices.{UnitDevices}
use Rattle.unit_state.proofs.PowerLoss.{as_before, idle_left, no_stop, opened_left, refused_left}
use Rattle.unit_state.proofs.Steps.{done_answer, refused_answer, refused_lasts}

-- ---- a command that no rule refuses

-- what is said of the command is said of what was asked
as_asked : (c : ControlValue) (session : ℕ) (asked : Result Command CdbFault) (bytes : List ℕ) (command : Command)
    (P : Option Refusal → Request → Type 0) → IsAdmitted c (request session asked bytes) command
    → P None (request session (Ok command) bytes)
    → P (refusal c (request session asked bytes)) (request session asked bytes)
as_asked c session asked bytes command P is done =
    let named : P None (request session asked bytes) =
    subst (λ (a : Result Command CdbFault). P None (request session a bytes)) (sym is.asks) done in
    subst (λ (o : Option Refusal). P o (request session asked bytes)) (sym is.unrefused) named

module _ {B R O : Type 0} (c : ControlValue) (session : ℕ) (asked : Result Command CdbFault) (bytes : List ℕ)
    (command : Command) (old new : UnitValue B R O) where
  pub left_as_asked : (blocks : device.Ghosts B) (registrations : device.Ghosts R) (opens : opening.Ghosts O B) (at : ℕ)
      → IsAdmitted c (request session asked bytes) command
      → HasLeft blocks registrations opens None (request session (Ok command) bytes) at old new
      → HasLeft blocks registrations opens (refusal c (request session asked bytes)) (request session asked bytes) at old new
  left_as_asked blocks registrations opens at is left =
      as_asked c session asked bytes command
      (λ (o : Option Refusal) (r : Request). HasLeft blocks registrations opens o r at old new) is left

  pub replied_as_asked : {E : Type 0} (blocks : device.Ghosts B) (registrations : device.Ghosts R)
      (opens : opening.Ghosts O B) (result : Result ReplyValue E)
      → IsAdmitted c (request session asked bytes) command
      → IfOk result (HasReplied blocks registrations opens None (request session (Ok command) bytes) old new)
      → IfOk result (HasReplied blocks registrations opens (refusal c (request session asked bytes))
      (request session asked bytes) old new)
  replied_as_asked blocks registrations opens result is replied =
      as_asked c session asked bytes command
      (λ (o : Option Refusal) (r : Request). IfOk result (HasReplied blocks registrations opens o r old new)) is replied

  pub lacking_as_asked : {T E : Type 0} (result : Result T E) → IsAdmitted c (request session asked bytes) command
      → OnErr result (LacksMemory None (request session (Ok command) bytes) old new)
      → OnErr result (LacksMemory (refusal c (request session asked bytes)) (request session asked bytes) old new)
  lacking_as_asked result is lacks =
      as_asked c session asked bytes command
      (λ (o : Option Refusal) (r : Request). OnErr result (LacksMemory o r old new)) is lacks

-- ---- counts

no_failure : (n : ℕ) (done : Type 0) → done → Tells n n done
no_failure n done is = record { later = omega arith; stays = λ room d. refl; rises = λ room failed. absurd (failed is) }

no_failures : (cs : Counters) (choice : Choice) → choice ≡ Fine → AreCounted cs cs choice
no_failures cs choice is = rw is (record {
  reads = no_failure _ _ refl;
  writes = no_failure _ _ refl;
  opens = no_failure _ _ refl;
  saves = no_failure _ _ refl;
})

-- the other counts stay
counts_in : (others before after sum_before sum_after : ℕ) (done : Type 0) → sum_before ≡ others + before
    → sum_after ≡ others + after → Tells before after done → Tells sum_before sum_after done
counts_in others before after sum_before sum_after done is_before is_after t = record {
  later = let le = t.later in omega arith;
  stays = λ room d. let same : after ≡ before = t.stays (omega arith) d in omega arith;
  rises = λ room failed. let up : before < after = t.rises (omega arith) failed in omega arith;
}

abbrev unit_from : {B R O : Type 0} → B → O → FileValue R → ControlValue → UnitValue B R O
unit_from device opener file control = record { device = device; opener = opener; file = file; control = control }

-- ---- what is served

-- of a type that claims less, less is said
served_under : (claims more : Bool) (old new : UnitState) (session : ℕ) (command : Command) (bytes : List ℕ)
    (reply : ReplyValue) → (IsTrue claims → IsTrue more) → IsPerformed more old new session command bytes reply
    → IsPerformed claims old new session command bytes reply
served_under claims more old new session command bytes reply under s = record {
  finding = s.finding;
  chosen = s.chosen;
  may = s.may;
  torn = λ h. s.torn (under h);
  told = λ h. s.told (under h);
  leaves = λ h. s.leaves (under h);
  control = s.control;
  answers = s.answers;
}

-- a command that does nothing on the medium promises nothing of it
nothing_lasts : (blocks : List (List ℕ)) (may_hold : ℕ → List ℕ → Type 0) (work : Work) (reply : ReplyValue)
    → work ≡ Nothing → Lasts blocks may_hold work reply
nothing_lasts blocks may_hold work reply is = rw is (record {
  good = λ status flushed. absurd (cc);
  unread = λ told first. absurd (cc);
})

reached : (refused : Option Refusal) (P : Type 0) → P → WhereRefused refused P
reached (Some refused) P h = h
reached None P h = tt

module _ {B R O : Type 0} (blocks : device.Ghosts B) (registrations : device.Ghosts R) (opens : opening.Ghosts O B) where
  -- ---- a command that a rule refuses

  pub refusal_leaves : (refused : Option Refusal) (r : Request) (at : ℕ) (d : UnitDevices B R O) (c now : ControlValue)
      → Stays c now r.session at → now.access ≡ c.access → now.lasting ≡ c.lasting
      → HasLeft blocks registrations opens refused r at (unit_over d c) (unit_over d now)
  refusal_leaves refused r at d c now stays access lasting = record {
    size = refl;
    stays = stays;
    kept = λ h lasts. rw lasting lasts;
    unreached = reached refused _ refl;
    idle = λ none closed. refl;
    unopened = λ closed. refl;
    unsaved = λ none. refl;
    opened = λ other. absurd (other (ap (λ (a : AccessMapValue). owner_of a) access));
    same = λ none h. as_before blocks.claims_moments blocks.moment blocks.left_since blocks.size blocks.may_hold _ _ refl;
    stop = λ h m lasts. no_stop registrations.moment registrations.left_since _ _ _ refl;
  }

  pub refusal_replies : (r : Request) (refused : Refusal) (reply : ReplyValue) (d : UnitDevices B R O) (c now : ControlValue)
      → IsRefused c r refused → reply ≡ refusal_reply refused → now ≡ refusal_control c r.session refused
      → HasReplied blocks registrations opens (refusal c r) r (unit_over d c) (unit_over d now) reply
  refusal_replies r refused reply d c now is says told =
      let fine : choice_of reply (blocks.contents d.device) now.lasting ≡ Fine =
      subst (λ (a : ReplyValue). choice_of a (blocks.contents d.device) now.lasting ≡ Fine) (sym says) (is.fine _ _) in
      record {
        answered =
            refused_answer _ c now (blocks.contents d.device) (blocks.contents d.device) r refused reply is says told refl;
        counted = no_failures _ _ fine;
        fine = no_failure _ _ (rw fine refl);
        lasts = λ h. refused_lasts _ _ _ refused reply is.fine says;
        left = λ h. refused_left blocks.claims_moments blocks.moment blocks.left_since blocks.size blocks.may_hold
            (refusal c r) (blocks.contents d.device) (work_asked r.asked r.bytes) _ d.device;
      }

  -- ---- SET TARGET PORT GROUPS: the device is opened anew, or stays

  module _ (session at : ℕ) (command : Command) (bytes : List ℕ) (c now : ControlValue) (old new : B) (before after : O)
      (file : FileValue R) where
    pub groups_leave : blocks.size new ≡ blocks.size old → Stays c now session at → now.lasting ≡ c.lasting
        → (is_opening c (Ok command) bytes ≡ false → after ≡ before)
        → (is_opening c (Ok command) bytes ≡ false → new ≡ old)
        → (owner_of now.access ≢ owner_of c.access → opens.opened old new)
        → (IsTrue opens.claims → HoldsAsBefore blocks.moment blocks.left_since blocks.may_hold old new)
        → HasLeft blocks registrations opens None (request session (Ok command) bytes) at
        (unit_from old before file c) (unit_from new after file now)
    groups_leave size stays lasting unopened idle opened kept = record {
      size = size;
      stays = stays;
      kept = λ h lasts. rw lasting lasts;
      unreached = tt;
      idle = λ none closed. idle closed;
      unopened = unopened;
      unsaved = λ none. refl;
      opened = opened;
      same = λ none h. kept h;
      stop = λ h m lasts. no_stop registrations.moment registrations.left_since _ _ _ refl;
    }

    pub groups_reply : (reply : ReplyValue) → work_of command bytes ≡ Nothing
        → IsPerformed (opens.claims && blocks.claims) (unit_of c (blocks.contents old)) (unit_of now (blocks.contents new))
        session command bytes reply
        → ((saves : ℕ) → AreCounted
        (counters (blocks.reads_failed old) (blocks.writes_failed old) (opens.opens_failed before) saves)
        (counters (blocks.reads_failed new) (blocks.writes_failed new) (opens.opens_failed after) saves)
        (choice_of reply (blocks.contents new) now.lasting))
        → blocks.failures new ≡ blocks.failures old
        → Tells (opens.opens_failed before) (opens.opens_failed after)
        (IsFine (choice_of reply (blocks.contents new) now.lasting))
        → (IsTrue opens.claims → HoldsAsBefore blocks.moment blocks.left_since blocks.may_hold old new)
        → HasReplied blocks registrations opens None (request session (Ok command) bytes)
        (unit_from old before file c)
        (unit_from new after file now) reply
    groups_reply reply nothing served counted stays fine kept = record {
      answered = done_answer _ _ _ _ _ _ _ served;
      counted = counted _;
      fine = counts_in (blocks.failures old + registrations.failures file.device) (opens.opens_failed before)
          (opens.opens_failed after) _ _ _ (omega arith) (omega arith) fine;
      lasts = λ h. nothing_lasts _ _ _ reply nothing;
      left = λ h. opened_left blocks.claims_moments blocks.moment blocks.left_since blocks.size blocks.may_hold
          (blocks.contents old) (work_of command bytes) _ old new (kept (first_claims _ _ h));
    }

  -- ---- PERSISTENT RESERVE OUT: the file is saved, or stays

  module _ (session at : ℕ) (command : Command) (bytes : List ℕ) (c now : ControlValue) (d : B) (o : O)
      (before after : FileValue R) where
    pub reserve_leaves : is_reserving (Ok command) ≡ true → Stays c now session at
        → (IsTrue registrations.claims → LastsAmong registrations.size registrations.may_hold before c.lasting
        → LastsAmong registrations.size registrations.may_hold after now.lasting)
        → now.access ≡ c.access
        → (IsTrue registrations.claims → IsTrue registrations.claims_moments
        → LastsAmong registrations.size registrations.may_hold before c.lasting
        → StopLeavesOneOf registrations.moment registrations.left_since (saved_of c session command bytes ++ c.lasting)
        before.device after.device)
        → HasLeft blocks registrations opens None (request session (Ok command) bytes) at
        (unit_from d o before c) (unit_from d o after now)
    reserve_leaves reserving stays kept access stop = record {
      size = refl;
      stays = stays;
      kept = kept;
      unreached = tt;
      idle = λ none closed. refl;
      unopened = λ closed. refl;
      unsaved = λ none. absurd (cc);
      opened = λ other. absurd (other (ap (λ (a : AccessMapValue). owner_of a) access));
      same = λ none h. as_before blocks.claims_moments blocks.moment blocks.left_since blocks.size blocks.may_hold _ _ refl;
      stop = stop;
    }

    pub reserve_replies : (reply : ReplyValue) → work_of command bytes ≡ Nothing
        → IsPerformed (opens.claims && blocks.claims) (unit_of c (blocks.contents d)) (unit_of now (blocks.contents d))
        session command bytes reply
        → ((contents : List (List ℕ)) (reads writes opened : ℕ) → AreCounted
        (counters reads writes opened (registrations.failures before.device))
        (counters reads writes opened (registrations.failures after.device)) (choice_of reply contents now.lasting))
        → ((contents : List (List ℕ)) → Tells (registrations.failures before.device) (registrations.failures after.device)
        (IsFine (choice_of reply contents now.lasting)))
        → HasReplied blocks registrations opens None (request session (Ok command) bytes)
        (unit_from d o before c)
        (unit_from d o after now) reply
    reserve_replies reply nothing served counted fine = record {
      answered = done_answer _ _ _ _ _ _ _ served;
      counted = counted _ _ _ _;
      fine = counts_in (blocks.failures d + opens.opens_failed o) (registrations.failures before.device)
          (registrations.failures after.device) _ _ _ refl refl (fine _);
      lasts = λ h. nothing_lasts _ _ _ reply nothing;
      left = λ h. idle_left blocks.claims_moments blocks.moment blocks.left_since blocks.size blocks.may_hold
          (blocks.contents d) (work_of command bytes) _ d;
    }

  -- ---- any other command: neither the opener nor the file is asked

  module _ (session at : ℕ) (command : Command) (bytes : List ℕ) (c now : ControlValue) (old new : B) (o : O)
      (file : FileValue R) where
    pub performing_leaves : blocks.size new ≡ blocks.size old → Stays c now session at → now.lasting ≡ c.lasting
        → now.access ≡ c.access → (is_medium (work_of command bytes) ≡ false → new ≡ old)
        → HasLeft blocks registrations opens None (request session (Ok command) bytes) at
        (unit_from old o file c) (unit_from new o file now)
    performing_leaves size stays lasting access idle = record {
      size = size;
      stays = stays;
      kept = λ h lasts. rw lasting lasts;
      unreached = tt;
      idle = λ none closed. idle none;
      unopened = λ closed. refl;
      unsaved = λ none. refl;
      opened = λ other. absurd (other (ap (λ (a : AccessMapValue). owner_of a) access));
      same = λ none h. as_before blocks.claims_moments blocks.moment blocks.left_since blocks.size blocks.may_hold _ _
          (idle none);
      stop = λ h m lasts. no_stop registrations.moment registrations.left_since _ _ _ refl;
    }

    pub performing_replies : {E : Type 0} (result : Result ReplyValue E)
        → IfOk result (IsPerformed blocks.claims (unit_of c (blocks.contents old)) (unit_of now (blocks.contents new)) session
        command bytes)
        → ((opened saved : ℕ) → IfOk result (λ reply. AreCounted
        (counters (blocks.reads_failed old) (blocks.writes_failed old) opened saved)
        (counters (blocks.reads_failed new) (blocks.writes_failed new) opened saved)
        (choice_of reply (blocks.contents new) now.lasting)))
        → IfOk result (λ reply. Tells (blocks.failures old) (blocks.failures new)
        (IsFine (choice_of reply (blocks.contents new) now.lasting)))
        → (IsTrue blocks.claims → IfOk result (Lasts (blocks.contents new) (blocks.may_hold new) (work_of command bytes)))
        → (IsTrue blocks.claims → IfOk result (λ reply. LeavesAmong blocks.claims_moments blocks.moment blocks.left_since
        blocks.size blocks.may_hold (holds_after (blocks.contents old) (work_of command bytes)
        (choice_of reply (blocks.contents new) now.lasting) (blocks.may_hold old)) old new))
        → IfOk result (HasReplied blocks registrations opens None (request session (Ok command) bytes)
        (unit_from old o file c)
        (unit_from new o file now))
    performing_replies (Ok reply) served counted fine lasts left = record {
      answered =
          done_answer _ _ _ _ _ _ _ (served_under _ _ _ _ _ _ _ _ (second_claims opens.claims blocks.claims) served);
      counted = counted _ _;
      fine = counts_in (opens.opens_failed o + registrations.failures file.device) (blocks.failures old)
          (blocks.failures new) _ _ _ (omega arith) (omega arith) fine;
      lasts = lasts;
      left = λ h. left (second_claims _ _ h);
    }
    performing_replies (Err e) served counted fine lasts left = tt

    pub performing_lacks : {T E : Type 0} (result : Result T E) → OnErr result ((new ≡ old) × (now ≡ c))
        → OnErr result (MayTake (Ok command)) → OnErr result (LacksMemory None (request session (Ok command) bytes)
        (unit_from old o file c)
        (unit_from new o file now))
    performing_lacks (Ok x) same memory = tt
    performing_lacks (Err e) same memory = record {
      unchanged = rw (same.0, same.1) refl;
      unrefused = refl;
      takes = memory;
    }
