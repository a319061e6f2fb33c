-- The calls of a session are the commands of one legal history of its unit.
use Rattle.std.proofs.Common.{◌≡◌, ℕ, zero, suc, ◌+◌, ◌<◌, ◌≤◌, List, [], ◌∷◌, length, Bool, true, false, Option, Some, None, refl, sym, ap, subst, ◌∙◌, arith, cond}
use Rattle.std.specs.Prelude.{IsTrue, IsSome, slice_get, Result, take, drop}
use Rattle.std.proofs.lemmas.List.Sums.{sum_by-cons}
use Rattle.aptpl_file.specs.Lasts.{EachOutcomeHolds}
use Rattle.block_file.specs.Disk.{Only}
use Rattle.block_file.specs.Failures.{Tells}
use Rattle.block_file.specs.declared.mem.MemBlocks.{MemBlocks}
use Rattle.block_file.specs.declared.opener.KeepOpener.{KeepOpener}
use Rattle.scsi_types.specs.ReplyValue.{ReplyValue}
use Rattle.scsi_types.specs.declared.names.Group.{Group}
use Rattle.scsi_types.specs.declared.command.Command.{Command as ScsiCommand}
use Rattle.scsi_types.specs.declared.command.CdbFault.{CdbFault}
use Rattle.session_rules.specs.Asking.{Asking, began, lives, served, reset, over}
use Rattle.session_rules.specs.declared.target.ResetAnswer.{ResetAnswer}
use Rattle.session_rules.specs.declared.target.ResetAnswer.TheVariants as resets
use Rattle.session_rules.specs.declared.target.TargetAnswer.{TargetAnswer}
use Rattle.session_rules.specs.declared.target.TargetAnswer.TheVariants.{Replied, Outside, Busy, Gone}
use Rattle.session_rules.specs.declared.end.End.{End}
use Rattle.std.specs.Prelude.{map, ◌++◌}
use Rattle.std.specs.Io.KnownBytes.{IsAtEnd}
use Rattle.login.specs.declared.status.SessionType.TheVariants.{Normal}
use Rattle.session_rules.specs.declared.target_record.TargetRecord.{TargetRecord}
use Rattle.session_rules.specs.declared.opening.Opening.TheVariants.{FullFeature}
use Rattle.session_rules.specs.declared.start.Start.{Start}
use Rattle.session_rules.specs.Ends.{EndsBy}
use Rattle.session_rules.specs.LoginPhase.{LoginTurn}
use Rattle.session_rules.specs.Phases.{Exchange, exchanges, of_login, of_turn, incoming, asked}
use Rattle.session_rules.specs.Setting.{setting_of}
use Rattle.session.specs.Transcript.{Written, IsTranscribed}
use Rattle.session_rules.specs.Turn.{Spells, Leads}
use Rattle.unit_control.specs.Limits.{last_length}
use Rattle.unit_control.specs.State.{ControlValue, UnitState, UnitValue, state_of}
use Rattle.unit_control.specs.Choice.{Choice, Fine, ReadFailed, WriteFailed, OpenFailed, SaveFailed, IsFine, choice_of}
use Rattle.unit_control.specs.Entry.{Entry, Reset, Command, IsAttached, IsPossible, IsReplyTo, control_after, blocks_after, after}
use Rattle.unit_state.proofs.EntryLaws.{possible_over, reply_over}
use Rattle.unit_state.specs.History.{state_after, IsLegal, IsReplyAt, has_failed, failed_entries}
use Rattle.unit_state.specs.Step.{IsStep, entry_of}
use Rattle.unit_control.specs.declared.refusal.Refusal.{Refusal}
use Rattle.unit_control.specs.Refusal.{refusal, request}
use Rattle.unit_state.specs.Step.{WhereRefused}
use Rattle.once_target.specs.OneUnit.{Call, Device, TargetValue, IsSame, IsCommand, IsBusy, IsTargetAnswer, IsResetBy, LeadsOn}
use Rattle.once_target.specs.Once.{RepliedCall, EnteredCall, replied, was_reset, entered_by, entered, IsEntryOf, AreCommands}
use Rattle.once_target.specs.Once.{IsAnswerable, AreAnswerable, AreCounted, AreUnreached, IsUnreached, IsFlushed}
use Rattle.once_target.specs.Once.{Streams, IsBegun, IsOnce, begun}

-- ---- failures: one command more in front

failed_more : (e : Entry) (history : List Entry)
    → failed_entries (e ∷ history) ≡ cond (has_failed e) 1 0 + failed_entries history
failed_more e history = sum_by-cons (λ x. cond (has_failed x) 1 0) e history

counted_failed : (before mid now : ℕ) (done : Type 0) (e : Entry) (history : List Entry) → has_failed e ≡ true → (done → ⊥)
    → Tells before mid done → AreCounted mid now history → AreCounted before now (e ∷ history)
counted_failed before mid now done e history failed undone t k =
    let more : failed_entries (e ∷ history) ≡ 1 + failed_entries history =
    failed_more e history ∙ ap (λ (b : Bool). cond b 1 0 + failed_entries history) failed in
    record {
      later = omega (arith, t.later, k.later);
      at_most = λ room. let up : before < mid = t.rises (omega (arith, t.later, k.later)) undone in let rest = k.at_most room in
          omega (arith, more);
      only = λ room none. absurd (omega (arith, more));
    }

not_fine : false ≡ true → ⊥
not_fine e = cc

counted_more : (before mid now session serial : ℕ) (by_group : Group) (asked : Result ScsiCommand CdbFault)
    (bytes : List ℕ) (choice : Choice) (history : List Entry)
    → Tells before mid (IsFine choice) → AreCounted mid now history
    → AreCounted before now (Command session serial by_group asked bytes choice ∷ history)
counted_more before mid now session serial by_group asked bytes Fine history t k = record {
  later = omega (arith, t.later, k.later);
  at_most = λ room. let same : mid ≡ before = t.stays (omega (arith, t.later, k.later)) refl in let rest =
      k.at_most room in omega (arith, failed_more (Command session serial by_group asked bytes Fine) history);
  only = λ room none. let same : mid ≡ before =
      t.stays (omega (arith, t.later, k.later)) refl in let rest : now ≡ mid =
      k.only room (omega (arith, failed_more (Command session serial by_group asked bytes Fine) history)) in omega
      arith;
}
counted_more before mid now session serial by_group asked bytes ReadFailed history t k =
    counted_failed before mid now _ (Command _ _ _ _ _ ReadFailed) history refl not_fine t k
counted_more before mid now session serial by_group asked bytes (WriteFailed after) history t k =
    counted_failed before mid now _ (Command _ _ _ _ _ (WriteFailed after)) history refl not_fine t k
counted_more before mid now session serial by_group asked bytes OpenFailed history t k =
    counted_failed before mid now _ (Command _ _ _ _ _ OpenFailed) history refl not_fine t k
counted_more before mid now session serial by_group asked bytes (SaveFailed records) history t k =
    counted_failed before mid now _ (Command _ _ _ _ _ (SaveFailed records)) history refl not_fine t k

-- the opener and the registration file never fail, so that the device alone counts
tells_alone : (before now : ℕ) (done : Type 0) → Tells (before + 0 + 0) (now + 0 + 0) done → Tells before now done
tells_alone before now done t = record {
  later = omega (arith, t.later);
  stays = λ room d. let same : now + 0 + 0 ≡ before + 0 + 0 = t.stays (omega arith) d in omega arith;
  rises = λ room failed. let up : before + 0 + 0 < now + 0 + 0 = t.rises (omega arith) failed in omega arith;
}

abbrev none_asked : List Asking
none_asked = []

module _ {B : Type 0} (d : Device B) (f : Device MemBlocks) where
  -- the model's state is the unit's
  pub record Matches (s : UnitState) (x : TargetValue B) : Type 0 where
    pub control : s.control ≡ x.unit.control
    pub blocks : IsTrue d.claims → s.blocks ≡ d.contents x.unit.device

  same_unit : (s : UnitState) (x mid : TargetValue B) → mid.unit ≡ x.unit → Matches s x → Matches s mid
  same_unit s x mid e m = record {
    control = m.control ∙ ap (λ (u : UnitValue B MemBlocks KeepOpener). u.control) (sym e);
    blocks = λ h. m.blocks h ∙ ap (λ (u : UnitValue B MemBlocks KeepOpener). d.contents u.device) (sym e);
  }

  module _ (s : UnitState) (x mid : TargetValue B) (m : Matches s x) (e : Entry) (reply : ReplyValue)
      (step : IsStep d.claims (state_of d.contents x.unit) (state_of d.contents mid.unit) e reply) where
    possible_here : IsPossible d.claims s e
    possible_here = subst (λ (c : ControlValue). IsPossible d.claims
        (record { control = c; blocks = s.blocks }) e) (sym m.control)
        (possible_over d.claims x.unit.control (d.contents x.unit.device) s.blocks m.blocks e step.possible)

    replied_here : IsReplyTo d.claims s e reply
    replied_here = subst (λ (c : ControlValue). IsReplyTo d.claims
        (record { control = c; blocks = s.blocks }) e reply) (sym m.control)
        (reply_over d.claims x.unit.control (d.contents x.unit.device) s.blocks m.blocks e reply step.answer)

    matches_after : Matches (after s e) mid
    matches_after = record {
      control = ap (λ (c : ControlValue). control_after c e) m.control ∙ sym step.control;
      blocks = λ h.
          ap (λ (c : ControlValue). blocks_after (record { control = c; blocks = s.blocks }) e) m.control
          ∙ ap (λ (b : List (List ℕ)). blocks_after (record { control = x.unit.control; blocks = b }) e) (m.blocks h)
          ∙ sym (step.blocks h);
    }

  -- behind a call that is flushed, while no later entry reaches the device, it holds what it made to last
  abbrev Lasting : UnitState → List Asking → List Entry → B → Type 0
  Lasting s cs history device = IsTrue d.claims → (k : ℕ) (call : RepliedCall)
      → slice_get (entered cs) k ≡ Some (replied call)
      → IsFlushed call → AreUnreached (state_after s (take (suc k) history)) (drop (suc k) history)
      → Only (d.contents device) (d.may_hold device)

  -- a legal history from this state of the model, of which these calls are the commands
  pub record Story (s : UnitState) (x x' : TargetValue B) (cs : List Asking) : Type 0 where
    pub history : List Entry
    pub legal : IsLegal d.claims s history
    pub commands : AreCommands d.claims s cs history
    pub answers : AreAnswerable s cs history
    pub counted : AreCounted (d.failures x.unit.device) (d.failures x'.unit.device) history
    pub unreached : AreUnreached s history → x'.unit.device ≡ x.unit.device
    pub control : (state_after s history).control ≡ x'.unit.control
    pub ends : IsTrue d.claims → d.contents x'.unit.device ≡ (state_after s history).blocks
    pub lasting : Lasting s cs history x'.unit.device

  -- the first of the calls
  first_is : (c call : Asking) (cs : List Asking) → slice_get (c ∷ cs) 0 ≡ Some call → c ≡ call
  first_is c call cs e = cc

  -- ---- a call that was replied is the next entry

  module _ (s : UnitState) (cs : List Asking) (e : Entry) (this : Asking) (this_call : EnteredCall)
      (mine : IsEntryOf e this_call)
      (told : (c : RepliedCall) → this_call ≡ replied c
      → IsReplyTo d.claims s e c.reply) (same : entered (this ∷ cs) ≡ this_call ∷ entered cs) where
    entry_here : (history : List Entry) → AreCommands d.claims (after s e) cs history → (k : ℕ) (call : EnteredCall)
        → slice_get (this_call ∷ entered cs) k ≡ Some call
        → (g : Entry) × (slice_get (e ∷ history) k ≡ Some g) × IsEntryOf g call
    entry_here history rest zero call at = let eq : this_call ≡ call = cc in (e, refl, subst (IsEntryOf e) eq mine)
    entry_here history rest (suc k) call at = rest.entry k call at

    reply_here : (history : List Entry) → AreCommands d.claims (after s e) cs history → (k : ℕ) (call : RepliedCall)
        → slice_get (this_call ∷ entered cs) k ≡ Some (replied call)
        → IsReplyAt d.claims s (e ∷ history) k call.reply
    reply_here history rest zero call at = let eq : this_call ≡ replied call = cc in told call eq
    reply_here history rest (suc k) call at = rest.reply k call at

    commands_more : (history : List Entry) → AreCommands d.claims (after s e) cs history
        → AreCommands d.claims s (this ∷ cs) (e ∷ history)
    commands_more history rest = record {
      as_many = ap suc rest.as_many ∙ sym (ap length same);
      entry = λ k call at. entry_here history rest k call
          (subst (λ (xs : List EnteredCall). slice_get xs k ≡ Some call) same at);
      reply = λ k call at. reply_here history rest k call
          (subst (λ (xs : List EnteredCall). slice_get xs k ≡ Some (replied call)) same at);
    }

    -- this call is flushed, or a later one is
    lasting_more : (history : List Entry) (device : B)
        → ((call : RepliedCall) → this_call ≡ replied call → IsTrue d.claims → IsFlushed call
        → AreUnreached (after s e) history → Only (d.contents device) (d.may_hold device))
        → Lasting (after s e) cs history device → Lasting s (this ∷ cs) (e ∷ history) device
    lasting_more history device here rest h zero call at flushed left =
        let at' : slice_get (this_call ∷ entered cs) 0 ≡ Some (replied call) =
        subst (λ (xs : List EnteredCall). slice_get xs 0 ≡ Some (replied call)) same at in
        let eq : this_call ≡ replied call = cc in here call eq h flushed left
    lasting_more history device here rest h (suc k) call at flushed left =
        rest h k call (subst (λ (xs : List EnteredCall). slice_get xs (suc k) ≡ Some (replied call)) same at) flushed left

  entered_more : (e : Entry) (s : UnitState) (c : Asking) (cs : List Asking) (history : List Entry)
      (call : EnteredCall) → entered_by c ≡ Some call → IsAnswerable s c → AreAnswerable (after s e) cs history
      → AreAnswerable s (c ∷ cs) (e ∷ history)
  entered_more e s c cs history call some here rest zero call' at =
      subst (λ (a : Asking). IsAnswerable s a) (first_is c call' cs at) here
  entered_more e s c cs history call some here rest (suc k) call' at = rw some (rest k call' at)

  -- ---- any other call is none

  others_past : (s : UnitState) (c : Asking) (cs : List Asking) (history : List Entry) → entered_by c ≡ None
      → IsAnswerable s c → AreAnswerable s cs history → AreAnswerable s (c ∷ cs) history
  others_past s c cs history none here rest zero call at =
      subst (λ (a : Asking). IsAnswerable s a) (first_is c call cs at) here
  others_past s c cs history none here rest (suc k) call at = rw none (rest k call at)

  -- such a call leaves all as it was
  past : (s : UnitState) (x mid x' : TargetValue B) (cs : List Asking) (c : Asking) → entered_by c ≡ None
      → IsAnswerable s c → entered (c ∷ cs) ≡ entered cs → IsSame x mid → Story s mid x' cs → Story s x x' (c ∷ cs)
  past s x mid x' cs c none here same_calls same k = record {
    history = k.history;
    legal = k.legal;
    commands = record {
      as_many = rw same_calls k.commands.as_many;
      entry = rw same_calls k.commands.entry;
      reply = rw same_calls k.commands.reply;
    };
    answers = others_past s c cs k.history none here k.answers;
    counted = subst (λ (u : UnitValue B MemBlocks KeepOpener). AreCounted (d.failures u.device)
        (d.failures x'.unit.device) k.history) same.unit k.counted;
    unreached = λ left. k.unreached left ∙ ap (λ (u : UnitValue B MemBlocks KeepOpener). u.device) same.unit;
    control = k.control;
    ends = k.ends;
    lasting = rw same_calls k.lasting;
  }

  -- a command that a rule refuses did not reach the device
  left_alone : (o : Option Refusal) (P : Type 0) → WhereRefused o P → IsSome o → P
  left_alone (Some refused) P k some = k
  left_alone None P k some = absurd (cc)

  module _ (asked : Result ScsiCommand CdbFault) (bytes : List ℕ) (reply : ReplyValue) (s : UnitState)
      (x mid : TargetValue B) (zero_is : x.at.session ≡ 0) (m : Matches s x) where
    abbrev call_here : Call
    call_here = record { unit = Some 0; asked = asked; bytes = bytes }

    unreached_here : (unit : Option ℕ)
        → IsCommand d f x mid (record { unit = unit; asked = asked; bytes = bytes }) reply
        → IsSome (refusal s.control (request 0 asked bytes)) → mid.unit.device ≡ x.unit.device
    unreached_here unit done some =
        left_alone (refusal x.unit.control (request 0 asked bytes)) (mid.unit.device ≡ x.unit.device)
        (subst (λ (n : ℕ). WhereRefused (refusal x.unit.control (request n asked bytes))
        (mid.unit.device ≡ x.unit.device)) zero_is done.lasting.unreached)
        (subst (λ (c : ControlValue). IsSome (refusal c (request 0 asked bytes))) m.control some)

  next : (unit : Option ℕ) (asked : Result ScsiCommand CdbFault) (bytes : List ℕ) (a : TargetAnswer)
      (cs : List Asking) (s : UnitState) (x mid x' : TargetValue B) → x.at.session ≡ 0 → Matches s x
      → IsTargetAnswer (last_length ≤ x.unit.control.count) d f x (record { unit = unit; asked = asked; bytes = bytes }) a mid
      → ((s' : UnitState) → mid.at.session ≡ 0 → Matches s' mid → Story s' mid x' cs)
      → Story s x x' (served unit asked bytes a ∷ cs)
  next unit asked bytes (Replied reply) cs s x mid x' zero_is m led rest =
      let by_owner : TargetValue B = led.1 in
      let same = led.2 in
      let done = led.3 in
      let m' : Matches s by_owner = same_unit s x by_owner same.unit m in
      let mine : by_owner.at.session ≡ 0 = same.session ∙ zero_is in
      let choice : Choice = choice_of reply (d.contents mid.unit.device) mid.unit.control.lasting in
      let entry : Entry = Command 0 by_owner.at.serial by_owner.at.by asked bytes choice in
      let step : IsStep d.claims (state_of d.contents by_owner.unit) (state_of d.contents mid.unit) entry reply =
      subst (λ (n : ℕ). IsStep d.claims (state_of d.contents by_owner.unit) (state_of d.contents mid.unit)
      (entry_of n by_owner.at.serial by_owner.at.by asked bytes reply (state_of d.contents mid.unit)) reply)
      mine done.step in
      let call : RepliedCall = record { asked = asked; bytes = bytes; reply = reply } in
      let here : Asking = served unit asked bytes (Replied reply) in
      let told : (c : RepliedCall) → replied call ≡ replied c → IsReplyTo d.claims s entry c.reply =
      (λ c same_call. let same_one : call ≡ c =
      cc in subst (λ (z : RepliedCall). IsReplyTo d.claims s entry z.reply) same_one
      (replied_here s by_owner mid m' entry reply step)) in
      let k = rest (after s entry) (done.session ∙ mine) (matches_after s by_owner mid m' entry reply step) in
      record {
        history = entry ∷ k.history;
        legal = (possible_here s by_owner mid m' entry reply step, k.legal);
        commands = commands_more s cs entry here (replied call) (refl, refl, refl) told refl k.history k.commands;
        answers = entered_more entry s here cs k.history (replied call) refl led.0 k.answers;
        counted = counted_more (d.failures x.unit.device) (d.failures mid.unit.device)
            (d.failures x'.unit.device) 0 by_owner.at.serial by_owner.at.by asked bytes choice k.history
            (subst (λ (u : UnitValue B MemBlocks KeepOpener). Tells (d.failures u.device) (d.failures mid.unit.device)
            (IsFine choice)) same.unit (tells_alone (d.failures by_owner.unit.device) (d.failures mid.unit.device)
            (IsFine choice) done.fine)) k.counted;
        unreached = λ left. k.unreached left.1 ∙ unreached_here asked bytes reply s by_owner mid mine m' unit done left.0
            ∙ ap (λ (u : UnitValue B MemBlocks KeepOpener). u.device) same.unit;
        control = k.control;
        ends = k.ends;
        lasting = lasting_more s cs entry here (replied call) (refl, refl, refl) told refl k.history x'.unit.device
            (λ c same_call h flushed left. let same_one : call ≡ c = cc in let g : IsFlushed call =
            subst (λ (z : RepliedCall). IsFlushed z) (sym same_one) flushed in
            subst (λ (b : B). Only (d.contents b) (d.may_hold b)) (sym (k.unreached left))
            ((done.lasting.lasts h).good g.good g.flushed)) k.lasting;
      }
  next unit asked bytes (Outside reply) cs s x mid x' zero_is m led rest =
      past s x mid x' cs (served unit asked bytes (Outside reply)) refl (led.0, led.1) refl led.2
      (rest s (led.2.session ∙ zero_is) (same_unit s x mid led.2.unit m))
  next unit asked bytes Busy cs s x mid x' zero_is m led rest =
      let call : Call = record { unit = unit; asked = asked; bytes = bytes } in
      past s x mid x' cs (served unit asked bytes Busy) refl
      (subst (λ (c : ControlValue). IsBusy c 0 call) (sym m.control)
      (subst (λ (n : ℕ). IsBusy x.unit.control n call) zero_is led.0)) refl led.1
      (rest s (led.1.session ∙ zero_is) (same_unit s x mid led.1.unit m))
  next unit asked bytes Gone cs s x mid x' zero_is m led rest =
      past s x mid x' cs (served unit asked bytes Gone) refl
      (led.0, subst (λ (c : ControlValue). last_length ≤ c.count) (sym m.control) led.2) refl led.1
      (rest s (led.1.session ∙ zero_is) (same_unit s x mid led.1.unit m))

  -- ---- a reset is the next entry

  counted_reset : (session before now : ℕ) (history : List Entry) → AreCounted before now history
      → AreCounted before now (Reset session ∷ history)
  counted_reset session before now history k = record {
    later = k.later;
    at_most = λ room. let rest = k.at_most room in omega (arith, failed_more (Reset session) history);
    only = λ room none. k.only room (omega (arith, failed_more (Reset session) history));
  }

  reset_next : (unit : ℕ) (a : ResetAnswer) (cs : List Asking) (s : UnitState) (x mid x' : TargetValue B)
      → x.at.session ≡ 0 → Matches s x
      → IsResetBy (last_length ≤ x.unit.control.count) x unit a mid
      → ((s' : UnitState) → mid.at.session ≡ 0 → Matches s' mid → Story s' mid x' cs) → Story s x x' (reset unit a ∷ cs)
  reset_next unit resets.Done cs s x mid x' zero_is m led rest =
      let done = led.1 in
      let control : s.control ≡ x.unit.control = m.control in
      let here : (after s (Reset 0)).control ≡ mid.unit.control =
      ap (λ (c : ControlValue). control_after c (Reset 0)) control
      ∙ ap (λ (n : ℕ). control_after x.unit.control (Reset n)) (sym zero_is) ∙ sym done.control in
      let this : Asking = reset unit resets.Done in
      let k = rest (after s (Reset 0)) (done.session
      ∙ zero_is) (record { control = here; blocks = λ h. m.blocks h ∙ ap d.contents (sym done.device) }) in
      record {
        history = Reset 0 ∷ k.history;
        legal = (
          subst (λ (c : ControlValue). IsAttached c 0) (sym control)
              (subst (λ (n : ℕ). IsAttached x.unit.control n) zero_is done.possible),
          k.legal,
        );
        commands = commands_more s cs (Reset 0) this was_reset refl (λ c same_call. absurd (cc)) refl k.history k.commands;
        answers = entered_more (Reset 0) s this cs k.history was_reset refl led.0 k.answers;
        counted = counted_reset 0 (d.failures x.unit.device) (d.failures x'.unit.device) k.history
            (subst (λ (b : B). AreCounted (d.failures b) (d.failures x'.unit.device) k.history) done.device k.counted);
        unreached = λ left. k.unreached left.1 ∙ done.device;
        control = k.control;
        ends = k.ends;
        lasting = lasting_more s cs (Reset 0) this was_reset refl (λ c same_call. absurd (cc)) refl k.history
            x'.unit.device (λ c same_call h flushed left. absurd (cc)) k.lasting;
      }
  reset_next unit resets.Gone cs s x mid x' zero_is m led rest =
      past s x mid x' cs (reset unit resets.Gone) refl
      (led.0, subst (λ (c : ControlValue). last_length ≤ c.count) (sym m.control) led.2) refl led.1
      (rest s (led.1.session ∙ zero_is) (same_unit s x mid led.1.unit m))
  reset_next unit resets.Failed cs s x mid x' zero_is m led rest =
      past s x mid x' cs (reset unit resets.Failed) refl led.0 refl led.1 (rest s (led.1.session
      ∙ zero_is) (same_unit s x mid led.1.unit m))

  asked_next : (c : Asking) (cs : List Asking) (s : UnitState) (x mid x' : TargetValue B) → x.at.session ≡ 0 → Matches s x
      → LeadsOn d f x c mid
      → ((s' : UnitState) → mid.at.session ≡ 0 → Matches s' mid → Story s' mid x' cs) → Story s x x' (c ∷ cs)
  asked_next (began port kind a) cs s x mid x' zero_is m led rest =
      past s x mid x' cs (began port kind a) refl led.0 refl led.1 (rest s (led.1.session
      ∙ zero_is) (same_unit s x mid led.1.unit m))
  asked_next (lives tsih port a) cs s x mid x' zero_is m led rest =
      past s x mid x' cs (lives tsih port a) refl led.0 refl led.1 (rest s (led.1.session
      ∙ zero_is) (same_unit s x mid led.1.unit m))
  asked_next over cs s x mid x' zero_is m led rest =
      past s x mid x' cs over refl tt refl led (rest s (led.session ∙ zero_is) (same_unit s x mid led.unit m))
  asked_next (served unit asked bytes a) cs s x mid x' zero_is m led rest =
      next unit asked bytes a cs s x mid x' zero_is m led rest
  asked_next (reset unit a) cs s x mid x' zero_is m led rest = reset_next unit a cs s x mid x' zero_is m led rest

  no_call : (k : ℕ) (call : Asking) → slice_get none_asked k ≡ Some call → ⊥
  no_call zero call at = cc
  no_call (suc k) call at = cc

  none_at : (k : ℕ) (call : EnteredCall) → slice_get (entered none_asked) k ≡ Some call → ⊥
  none_at zero call at = cc
  none_at (suc k) call at = cc

  pub story : (cs : List Asking) (s : UnitState) (x x' : TargetValue B) → x.at.session ≡ 0 → Matches s x
      → Leads (LeadsOn d f) cs x x' → Story s x x' cs
  story [] s x x' zero_is m same = record {
    history = [];
    legal = tt;
    commands = record {
      as_many = refl;
      entry = λ k call at. absurd (none_at k call at);
      reply =
          λ k call at. absurd (none_at k (replied call) at);
    };
    answers = λ k call at. absurd (no_call k call at);
    counted = rw same (record { later = omega arith; at_most = λ room. omega arith; only = λ room none. refl });
    unreached = λ left. ap (λ (y : TargetValue B). y.unit.device) same;
    control = m.control ∙ sym (ap (λ (y : TargetValue B). y.unit.control) same);
    ends = λ h. ap (λ (y : TargetValue B). d.contents y.unit.device) same ∙ sym (m.blocks h);
    lasting = λ h k call at flushed left. absurd (none_at k (replied call) at);
  }
  story (c ∷ cs) s x x' zero_is m led =
      asked_next c cs s x led.0 x' zero_is m led.1 (λ s' z m'. story cs s' led.0 x' z m' led.2)

-- the whole of it
pub is_once : {B : Type 0} (me : TargetRecord) (start : Start) (d : Device B) (f : Device MemBlocks) (streams : Streams)
    (blocks : B) (handed : B × MemBlocks) (x x' : TargetValue B) (end : End)
    → IsBegun d f blocks x
    → IsTranscribed (LeadsOn d f) 1 me (FullFeature Normal start) streams.left streams.left_after streams.held
    streams.held_after x x' end
    → handed ≡ (x'.unit.device, x'.unit.file.device)
    → EachOutcomeHolds (f.size handed.1) (f.may_hold handed.1) x'.unit.control.lasting
    → IsOnce (setting_of 1 me Normal start) d f streams blocks end handed.0 handed.1
is_once {B = B} me start d f streams blocks handed x x' end first t closed restart =
    let device : B = handed.0 in
    let file : MemBlocks = handed.1 in
    let begun_here : Matches d f (begun d blocks) x = record {
      control = sym first.control;
      blocks = λ h. ap d.contents (sym first.device);
    } in
    let passed = t.passed in
    let turns = passed.transcript.turns in
    let es : exchanges passed.transcript ≡ map of_turn turns =
    ap (λ (ls : List LoginTurn). map of_login ls ++ map of_turn turns) passed.lawful.0 in
    let led = subst (λ (z : List Exchange). Leads (LeadsOn d f) (asked z) x t.at_end) es passed.led in
    let k = story d f (asked (map of_turn turns)) (begun d blocks) x t.at_end first.session begun_here led in
    let same : x'.unit ≡ t.at_end.unit = t.told.unit in
    let at_end : device ≡ t.at_end.unit.device =
    ap (λ (h : B × MemBlocks). h.0) closed ∙ ap (λ (u : UnitValue B MemBlocks KeepOpener). u.device) same in
    record {
      transcript = turns;
      served = record {
        spelled = passed.spelled;
        rest = passed.rest;
        lawful = passed.lawful.1;
        ends = subst (λ (z : List Exchange). EndsBy z passed.rest (length passed.spelled + length passed.rest)
            (IsAtEnd streams.left_after) end) es passed.ends;
        spells = subst (λ (z : List Exchange). Spells (incoming z) passed.spelled) es passed.spells;
        read = passed.read;
        written = subst (λ (z : List Exchange). Written end streams.held streams.held_after z) es passed.written;
      };
      run = record {
        first = x;
        last = t.at_end;
        begins = first;
        led = led;
        device_is = at_end;
        file_is = ap (λ (h : B × MemBlocks). h.1) closed ∙ ap (λ (u : UnitValue B MemBlocks KeepOpener). u.file.device) same;
      };
      history = k.history;
      legal = (
        record {
          room = omega arith;
          sessions = omega arith;
        },
        (
          record {
            next = record { room = omega arith; next = refl };
            owner =
                refl;
            chosen = refl;
            torn = λ h. tt;
          },
          k.legal,
        ),
      );
      commands = k.commands;
      answers = k.answers;
      counted = subst (λ (b : B). AreCounted (d.failures b) (d.failures device) k.history) first.device
          (subst (λ (b : B). AreCounted (d.failures x.unit.device) (d.failures b) k.history) (sym at_end) k.counted);
      unreached = λ left. at_end ∙ k.unreached left ∙ first.device;
      blocks_after = λ h. ap d.contents at_end ∙ k.ends h;
      lasting = record {
        blocks = λ h n call at flushed left. subst (λ (b : B). Only (d.contents b) (d.may_hold b)) (sym at_end)
            (k.lasting h n call at flushed left);
        records = λ h. subst (λ (c : ControlValue). EachOutcomeHolds (f.size file) (f.may_hold file) c.lasting)
            (ap (λ (u : UnitValue B MemBlocks KeepOpener). u.control) same ∙ sym k.control) restart;
      };
    }
