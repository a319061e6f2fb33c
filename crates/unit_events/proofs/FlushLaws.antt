-- A command whose flush came behind it could stand, as it was asked, in the place of its entry.
use Rattle.std.proofs.Common.{◌≡◌, ℕ, ◌+◌, ◌-◌, ◌<◌, ◌≤◌, Bool, false, ◌&&◌, cond, List, [], ◌∷◌, ◌++◌}
use Rattle.std.proofs.Common.{Option, Some, None, Result, Ok, refl, sym, ap, ◌∙◌, subst, ⊎_elim, inl, inr, arith}
use Rattle.std.proofs.lemmas.Bool.{false≢true, and_from, and_left, and_right, cases_lt, lt-ltb, le-ltb, le-leb, lt-leb}
use Rattle.std.specs.Prelude.{IsTrue, nat_lt, nat_le}
use Rattle.std.specs.Option.{option_or}
use Rattle.access_states.specs.declared.state.AccessState.{AccessState}
use Rattle.access_states.specs.declared.state.AccessState.TheVariants.{ActiveOptimized, ActiveNonOptimized, Standby, Unavailable}
use Rattle.block_file.specs.DiskLaws.{written_none}
use Rattle.scsi_types.specs.ReplyValue.{ReplyValue, check}
use Rattle.scsi_types.specs.Sense.{lba_out_of_range, write_error}
use Rattle.scsi_types.specs.declared.names.Group.{Group}
use Rattle.scsi_types.specs.declared.command.Command.{Command as ScsiCommand}
use Rattle.scsi_types.specs.declared.command.CdbFault.{CdbFault}
use Rattle.scsi_types.specs.declared.command.Op.TheVariants as ops
use Rattle.scsi_types.specs.declared.status.Status.TheVariants.{Good}
use Rattle.unit_control.specs.declared.refusal.Refusal.{Refusal}
use Rattle.unit_control.specs.declared.refusal.Refusal.TheVariants.{Attention, Conflict, Check}
use Rattle.unit_control.specs.State.{ControlValue, UnitState}
use Rattle.unit_control.specs.Choice.{Choice, Fine, WriteFailed}
use Rattle.unit_control.specs.Entry.{Entry, Attach, Detach, Reset, Move, Command, CanChoose, IsPossible, IsReplyTo, IsReplyWith, MayCome, after, blocks_with}
use Rattle.unit_control.specs.Entry.{control_with, left_control, count_command, returned}
use Rattle.unit_state.specs.History.{state_after, IsLegal}
use Rattle.unit_control.specs.Medium.{Finding, MayFind, WriteError, left, work_of}
use Rattle.unit_control.specs.Refusal.{Request, request, refusal, refusal_reply, access_by, attention_rule, conflict_rule, field_rule, list_rule, opcode_rule}
use Rattle.unit_control.specs.Refusal.{past_end_by, saved_rule, state_for}
use Rattle.unit_entries.specs.Histories.{IsHistory, IsToldBehind}
use Rattle.unit_events.specs.Flushes.{Flushing, writes, compares, synchronizes, asked_by, served_by, HasLateFlush, IsToldBehindFlush, IsUnflushed}

-- ---- commands without their flush

-- ---- the end of a history

pub reply_at_end : (claims : Bool) (s : UnitState) (h : List Entry) (e : Entry) (reply : ReplyValue) → IsToldBehind claims s h e reply
    → IsReplyTo claims (state_after s h) e reply
reply_at_end claims s [] e reply is = is
reply_at_end claims s (x ∷ h) e reply is = reply_at_end claims (after s x) h e reply is

pub told_at_end : (claims : Bool) (s : UnitState) (h : List Entry) (e : Entry) (reply : ReplyValue)
    → IsReplyTo claims (state_after s h) e reply → IsToldBehind claims s h e reply
told_at_end claims s [] e reply is = is
told_at_end claims s (x ∷ h) e reply is = told_at_end claims (after s x) h e reply is

pub possible_at_end : (claims : Bool) (s : UnitState) (h : List Entry) (e : Entry) → IsLegal claims s (h ++ e ∷ [])
    → IsPossible claims (state_after s h) e
possible_at_end claims s [] e is = is.0
possible_at_end claims s (x ∷ h) e is = possible_at_end claims (after s x) h e is.1

-- ---- another entry in its place

pub weaker : (claims : Bool) (s : UnitState) (e : Entry) → IsPossible claims s e → IsPossible false s e
weaker claims s (Attach nexus) is = is
weaker claims s (Detach session) is = is
weaker claims s (Reset session) is = is
weaker claims s (Move list choice) is = is
weaker claims s (Command session serial by asked bytes choice) is =
    record { next = is.next; owner = is.owner; chosen = is.chosen; torn = λ (h : IsTrue false). absurd (false≢true h) }

pub all_weaker : (claims : Bool) (s : UnitState) (h : List Entry) → IsLegal claims s h → IsLegal false s h
all_weaker claims s [] is = tt
all_weaker claims s (e ∷ h) is = (weaker claims s e is.0, all_weaker claims (after s e) h is.1)

legal_in_place : (claims : Bool) (s : UnitState) (h rest : List Entry) (e f : Entry) → IsLegal claims s ((h ++ e ∷ []) ++ rest)
    → IsPossible false (state_after s h) f → after (state_after s h) f ≡ after (state_after s h) e
    → IsLegal false s ((h ++ f ∷ []) ++ rest)
legal_in_place claims s [] rest e f is possible same =
    (possible, subst (λ (x : UnitState). IsLegal false x rest) (sym same) (all_weaker claims (after s e) rest is.1))
legal_in_place claims s (x ∷ h) rest e f is possible same =
    (weaker claims s x is.0, legal_in_place claims (after s x) h rest e f is.1 possible same)

pub in_place : (claims : Bool) (s : UnitState) (h rest : List Entry) (e f : Entry) → IsHistory claims s ((h ++ e ∷ []) ++ rest)
    → IsPossible false (state_after s h) f → after (state_after s h) f ≡ after (state_after s h) e
    → IsHistory false s ((h ++ f ∷ []) ++ rest)
in_place claims s h rest e f is possible same =
    record { opens = is.opens; legal = legal_in_place claims s h rest e f is.legal possible same }

pub leads_in_place : (s : UnitState) (h rest : List Entry) (e f : Entry) → after (state_after s h) f ≡ after (state_after s h) e
    → state_after s ((h ++ f ∷ []) ++ rest) ≡ state_after s ((h ++ e ∷ []) ++ rest)
leads_in_place s [] rest e f same = ap (λ (x : UnitState). state_after x rest) same
leads_in_place s (x ∷ h) rest e f same = leads_in_place (after s x) h rest e f same

-- ---- both are refused alike

access_same : (state : AccessState) → access_by state (Some ops.SynchronizeCache) ≡ access_by state (Some ops.Write)
access_same ActiveOptimized = refl
access_same ActiveNonOptimized = refl
access_same Standby = refl
access_same Unavailable = refl

-- a range lies before the end where its last block does
inside_same : (total lba blocks : ℕ) → (nat_lt lba total && nat_le (lba + blocks) total)
    ≡ (nat_lt (lba + (blocks - 1)) total && nat_le (lba + (blocks - 1) + 0) total)
inside_same total lba blocks =
    ⊎_elim
    (λ (lt : lba + (blocks - 1) < total).
    and_from (nat_lt lba total) (nat_le (lba + blocks) total) (lt-ltb lba total (omega (arith, lt)))
    (le-leb (lba + blocks) total (omega (arith, lt)))
    ∙ sym (and_from (nat_lt (lba + (blocks - 1)) total) (nat_le (lba + (blocks - 1) + 0) total)
    (lt-ltb (lba + (blocks - 1)) total lt) (le-leb (lba + (blocks - 1) + 0) total (omega (arith, lt)))))
    (λ (le : total ≤ lba + (blocks - 1)).
    outside_first le
    ∙ sym (and_left (nat_lt (lba + (blocks - 1)) total) (nat_le (lba + (blocks - 1) + 0) total)
    (le-ltb (lba + (blocks - 1)) total le)))
    (cases_lt (lba + (blocks - 1)) total)
  where
    outside_first : total ≤ lba + (blocks - 1) → (nat_lt lba total && nat_le (lba + blocks) total) ≡ false
    outside_first le =
        ⊎_elim (λ (lt : lba < total).
        and_right (nat_lt lba total) (nat_le (lba + blocks) total) (lt-leb (lba + blocks) total (omega (arith, le, lt))))
        (λ (no : total ≤ lba). and_left (nat_lt lba total) (nat_le (lba + blocks) total) (le-ltb lba total no))
        (cases_lt lba total)

outside_same : (total lba blocks : ℕ) → past_end_by total (record { lba = lba; blocks = blocks })
    ≡ past_end_by total (record { lba = lba + (blocks - 1); blocks = 0 })
outside_same total lba blocks =
    ap (λ (inside : Bool). cond inside None (Some (Check lba_out_of_range))) (inside_same total lba blocks)

module _ (c : ControlValue) (session : ℕ) (bytes : List ℕ) where
  abbrev pub asked : Flushing → Request
  asked f = request session (Ok (asked_by f)) bytes

  abbrev pub served : Flushing → Request
  served f = request session (Ok (served_by f)) bytes

  -- what the rules say, by what two of them do
  abbrev by_two : Request → Option Refusal → Option Refusal → Option Refusal
  by_two r access range =
      option_or (attention_rule c r) (option_or (opcode_rule c r) (option_or access (option_or (conflict_rule c r)
      (option_or (field_rule c r) (option_or (saved_rule c r) (option_or range (option_or (list_rule c r) None)))))))

  pub refusal_same : (f : Flushing) → refusal c (asked f) ≡ refusal c (served f)
  refusal_same (writes lba blocks) = refl
  refusal_same (compares lba blocks) = refl
  refusal_same (synchronizes lba blocks) =
      let r = served (synchronizes lba blocks) in
      ap (λ (access : Option Refusal). by_two r access (past_end_by c.total (record { lba = lba; blocks = blocks })))
      (access_same (state_for c session))
      ∙ ap (λ (range : Option Refusal). by_two r (access_by (state_for c session) (Some ops.Write)) range)
      (outside_same c.total lba blocks)

  -- ---- what it may come to, leaves and is answered

  may_come : (f : Flushing) (choice : Choice) → MayCome c session (Ok (served_by f)) bytes choice
      → MayCome c session (Ok (asked_by f)) bytes choice
  may_come f Fine is = tt
  may_come (writes lba blocks) choice is = is
  may_come (compares lba blocks) choice is = is
  may_come (synchronizes lba blocks) choice is = is

  may_fail : (f : Flushing) (after : List (List ℕ)) → MayCome c session (Ok (asked_by f)) bytes (WriteFailed after)
  may_fail (writes lba blocks) after = tt
  may_fail f after = tt

  may_find : (f : Flushing) (choice : Choice) (finding : Finding) → MayFind (work_of (served_by f) bytes) choice finding
      → MayFind (work_of (asked_by f) bytes) choice finding
  may_find (writes lba blocks) Fine finding is = is
  may_find (compares lba blocks) Fine finding is = is
  may_find (synchronizes lba blocks) Fine finding is = is
  may_find f choice finding is = is

  left_same : (f : Flushing) (choice : Choice) (blocks : List (List ℕ))
      → left blocks (work_of (asked_by f) bytes) choice ≡ left blocks (work_of (served_by f) bytes) choice
  left_same (writes lba count) Fine blocks = refl
  left_same (compares lba count) Fine blocks = refl
  left_same (synchronizes lba count) Fine blocks = sym (written_none blocks (lba + (count - 1)))
  left_same f choice blocks = refl

  left_failed : (f : Flushing) (blocks after : List (List ℕ)) → left blocks (work_of (asked_by f) bytes) (WriteFailed after) ≡ after
  left_failed (writes lba count) blocks after = refl
  left_failed f blocks after = refl

  control_kept : (f : Flushing) (choice : Choice) → left_control c (asked f) choice ≡ c
  control_kept (writes lba count) choice = refl
  control_kept f choice = refl

  control_kept_served : (f : Flushing) (choice : Choice) → left_control c (served f) choice ≡ c
  control_kept_served (writes lba count) choice = refl
  control_kept_served f choice = refl

  returned_same : (f : Flushing) (finding : Finding) → returned c (served f) finding ≡ returned c (asked f) finding
  returned_same (writes lba count) finding = refl
  returned_same f finding = refl

  finds_error : (f : Flushing) (after : List (List ℕ)) → MayFind (work_of (asked_by f) bytes) (WriteFailed after) WriteError
  finds_error (writes lba count) after = refl
  finds_error f after = refl

  returns_error : (f : Flushing) → check write_error ≡ returned c (asked f) WriteError
  returns_error (writes lba count) = refl
  returns_error f = refl

  -- ---- with a refusal, or none

  control_with_same : (f : Flushing) (choice : Choice) (o : Option Refusal)
      → control_with o c (asked f) choice ≡ control_with o c (served f) choice
  control_with_same f choice (Some refused) = refl
  control_with_same f choice None = control_kept f choice ∙ sym (control_kept_served f choice)

  blocks_with_same : (f : Flushing) (choice : Choice) (blocks : List (List ℕ)) (o : Option Refusal)
      → blocks_with o blocks (work_of (asked_by f) bytes) choice ≡ blocks_with o blocks (work_of (served_by f) bytes) choice
  blocks_with_same f choice blocks (Some refused) = refl
  blocks_with_same f choice blocks None = left_same f choice blocks

  chosen_same : (f : Flushing) (choice : Choice) (o : Option Refusal) → CanChoose o c (served f) choice → CanChoose o c (asked f) choice
  chosen_same f choice (Some refused) is = is
  chosen_same f choice None is = may_come f choice is

-- a refusal is not GOOD
not_good : (refused : Refusal) → (refusal_reply refused).status ≡ Good → ⊥
not_good (Attention attention) is = absurd (cc)
not_good Conflict is = absurd (cc)
not_good (Check sense) is = absurd (cc)

module _ (claims : Bool) (now : UnitState) (session serial : ℕ) (by : Group) (bytes : List ℕ) (choice : Choice) (f : Flushing) where
  abbrev pub c : ControlValue
  c = now.control

  abbrev pub was : Entry
  was = Command session serial by (Ok (served_by f)) bytes choice

  abbrev pub as_asked : Choice → Entry
  as_asked end = Command session serial by (Ok (asked_by f)) bytes end

  same_refusal : refusal c (asked c session bytes f) ≡ refusal c (served c session bytes f)
  same_refusal = refusal_same c session bytes f

  leads : (end : Choice)
      → control_with (refusal c (asked c session bytes f)) c (asked c session bytes f) end
      ≡ control_with (refusal c (served c session bytes f)) c (served c session bytes f) choice
      → blocks_with (refusal c (asked c session bytes f)) now.blocks (work_of (asked_by f) bytes) end
      ≡ blocks_with (refusal c (served c session bytes f)) now.blocks (work_of (served_by f) bytes) choice
      → after now (as_asked end) ≡ after now was
  leads end controls blocks =
      ap (λ (x : ControlValue). with_blocks (count_command x session)
      (blocks_with (refusal c (asked c session bytes f)) now.blocks (work_of (asked_by f) bytes) end)) controls
      ∙ ap (λ (b : List (List ℕ)). with_blocks (count_command
      (control_with (refusal c (served c session bytes f)) c (served c session bytes f) choice) session) b) blocks
    where
      with_blocks : ControlValue → List (List ℕ) → UnitState
      with_blocks x b = record { control = x; blocks = b }

  -- it is possible as it was asked, with each choice that it then may come to
  possible_as : (end : Choice) → CanChoose (refusal c (asked c session bytes f)) c (asked c session bytes f) end
      → IsPossible claims now was → IsPossible false now (as_asked end)
  possible_as end chosen is =
      record { next = is.next; owner = is.owner; chosen = chosen; torn = λ (h : IsTrue false). absurd (false≢true h) }

  -- with the reply of its entry
  pub possible_so : IsPossible claims now was → IsPossible false now (as_asked choice)
  possible_so is =
      possible_as choice
      (subst (λ (o : Option Refusal). CanChoose o c (asked c session bytes f) choice) (sym same_refusal)
      (chosen_same c session bytes f choice (refusal c (served c session bytes f)) is.chosen)) is

  pub same_so : after now (as_asked choice) ≡ after now was
  same_so =
      leads choice
      (ap (λ (o : Option Refusal). control_with o c (asked c session bytes f) choice) same_refusal
      ∙ control_with_same c session bytes f choice (refusal c (served c session bytes f)))
      (ap (λ (o : Option Refusal). blocks_with o now.blocks (work_of (asked_by f) bytes) choice) same_refusal
      ∙ blocks_with_same c session bytes f choice now.blocks (refusal c (served c session bytes f)))

  pub told_so : (reply : ReplyValue) → IsReplyTo claims now was reply → IsReplyTo false now (as_asked choice) reply
  told_so reply is =
      subst (λ (o : Option Refusal). IsReplyWith o false now (asked c session bytes f) choice reply) (sym same_refusal)
      (with_it (refusal c (served c session bytes f)) is)
    where
      with_it : (o : Option Refusal) → IsReplyWith o claims now (served c session bytes f) choice reply
          → IsReplyWith o false now (asked c session bytes f) choice reply
      with_it (Some refused) is = is
      with_it None is =
          record {
            finding = is.finding;
            may = may_find c session bytes f choice is.finding is.may;
            is = is.is ∙ returned_same c session bytes f is.finding;
            told = λ (h : IsTrue false). absurd (false≢true h);
          }

  -- where its flush has failed

  abbrev pub lost : Choice
  lost = WriteFailed (blocks_with (refusal c (served c session bytes f)) now.blocks (work_of (served_by f) bytes) choice)

  unrefused : (reply : ReplyValue) → reply.status ≡ Good → IsReplyTo claims now was reply → refusal c (served c session bytes f) ≡ None
  unrefused reply good is = by_it (refusal c (served c session bytes f)) is
    where
      by_it : (o : Option Refusal) → IsReplyWith o claims now (served c session bytes f) choice reply → o ≡ None
      by_it (Some refused) is = absurd (not_good refused (sym (ap (λ (r : ReplyValue). r.status) is) ∙ good))
      by_it None is = refl

  module _ (none : refusal c (served c session bytes f) ≡ None) where
    none_asked : refusal c (asked c session bytes f) ≡ None
    none_asked = same_refusal ∙ none

    pub possible_lost : IsPossible claims now was → IsPossible false now (as_asked lost)
    possible_lost is =
        possible_as lost
        (subst (λ (o : Option Refusal). CanChoose o c (asked c session bytes f) lost) (sym none_asked)
        (may_fail c session bytes f (blocks_with (refusal c (served c session bytes f)) now.blocks (work_of (served_by f) bytes) choice))) is

    pub same_lost : after now (as_asked lost) ≡ after now was
    same_lost =
        leads lost
        (ap (λ (o : Option Refusal). control_with o c (asked c session bytes f) lost) none_asked
        ∙ control_kept c session bytes f lost ∙ sym (control_kept_served c session bytes f choice)
        ∙ sym (ap (λ (o : Option Refusal). control_with o c (served c session bytes f) choice) none))
        (ap (λ (o : Option Refusal). blocks_with o now.blocks (work_of (asked_by f) bytes) lost) none_asked
        ∙ left_failed c session bytes f now.blocks
        (blocks_with (refusal c (served c session bytes f)) now.blocks (work_of (served_by f) bytes) choice))

    pub told_lost : IsReplyTo false now (as_asked lost) (check write_error)
    told_lost =
        subst (λ (o : Option Refusal). IsReplyWith o false now (asked c session bytes f) lost (check write_error)) (sym none_asked)
        (record {
          finding = WriteError;
          may = finds_error c session bytes f
              (blocks_with (refusal c (served c session bytes f)) now.blocks (work_of (served_by f) bytes) choice);
          is = returns_error c session bytes f;
          told = λ (h : IsTrue false). absurd (false≢true h);
        })

-- ---- the entry of a command whose flush came behind it

module _ (claims : Bool) (lasts : Type 0) (s : UnitState) (h : List Entry) (session serial : ℕ) (by : Group) (bytes : List ℕ)
    (choice : Choice) (f : Flushing)
    (possible : IsPossible claims (state_after s h) (Command session serial by (Ok (served_by f)) bytes choice)) where
  abbrev pub now : UnitState
  now = state_after s h

  abbrev pub it : Entry
  it = Command session serial by (Ok (served_by f)) bytes choice

  abbrev pub Shows : ReplyValue → Type 0
  Shows told = HasLateFlush claims lasts s h session serial by (Ok (served_by f)) bytes choice (Ok (asked_by f)) told

  replied_so : (reply : ReplyValue) → (reply.status ≡ Good → lasts) → IsReplyTo claims now it reply → Shows reply
  replied_so reply behind is =
      record {
        unflushed = (f, refl, refl);
        end = choice;
        possible = possible_so claims now session serial by bytes choice f possible;
        same = same_so claims now session serial by bytes choice f;
        answered = told_at_end false s h (as_asked claims now session serial by bytes choice f choice) reply
            (told_so claims now session serial by bytes choice f reply is);
        first = reply;
        replied_first = told_at_end claims s h it reply is;
        told_is = inl (refl, behind);
      }

  lost_so : (reply : ReplyValue) → reply.status ≡ Good → IsReplyTo claims now it reply → Shows (check write_error)
  lost_so reply good is =
      let none = unrefused claims now session serial by bytes choice f reply good is in
      record {
        unflushed = (f, refl, refl);
        end = lost claims now session serial by bytes choice f;
        possible = possible_lost claims now session serial by bytes choice f none possible;
        same = same_lost claims now session serial by bytes choice f none;
        answered = told_at_end false s h (as_asked claims now session serial by bytes choice f (lost claims now session serial by bytes choice f))
            (check write_error) (told_lost claims now session serial by bytes choice f none);
        first = reply;
        replied_first = told_at_end claims s h it reply is;
        told_is = inr (good, refl);
      }

  pub has_late_flush : (reply told : ReplyValue) → IsToldBehind claims s h it reply → IsToldBehindFlush lasts reply told → Shows told
  has_late_flush reply told is ended =
      let here = reply_at_end claims s h it reply is in
      ⊎_elim
      (λ (so : (told ≡ reply) × (reply.status ≡ Good → lasts)).
      subst (λ (r : ReplyValue). Shows r) (sym so.0) (replied_so reply so.1 here))
      (λ (failed : (reply.status ≡ Good) × (told ≡ check write_error)).
      subst (λ (r : ReplyValue). Shows r) (sym failed.1) (lost_so reply failed.0 here)) ended

-- of a command and what its unit was asked in its place
pub late_flush_of : (claims : Bool) (lasts : Type 0) (s : UnitState) (h : List Entry) (session serial : ℕ) (by : Group) (bytes : List ℕ)
    (choice : Choice) (asked served : Result ScsiCommand CdbFault) → IsUnflushed asked served
    → IsPossible claims (state_after s h) (Command session serial by served bytes choice) → (reply told : ReplyValue)
    → IsToldBehind claims s h (Command session serial by served bytes choice) reply → IsToldBehindFlush lasts reply told
    → HasLateFlush claims lasts s h session serial by served bytes choice asked told
late_flush_of claims lasts s h session serial by bytes choice asked served off possible reply told is ended =
    subst (λ (a : Result ScsiCommand CdbFault). HasLateFlush claims lasts s h session serial by served bytes choice a told) (sym off.1)
    (subst
    (λ (v : Result ScsiCommand CdbFault). HasLateFlush claims lasts s h session serial by v bytes choice (Ok (asked_by off.0)) told)
    (sym off.2)
    (has_late_flush claims lasts s h session serial by bytes choice off.0
    (subst (λ (v : Result ScsiCommand CdbFault). IsPossible claims (state_after s h) (Command session serial by v bytes choice)) off.2
    possible)
    reply told
    (subst (λ (v : Result ScsiCommand CdbFault). IsToldBehind claims s h (Command session serial by v bytes choice) reply) off.2 is)
    ended))

-- ---- what is known of the flush

pub told_by : (one two : Type 0) (reply told : ReplyValue) → (one → two) → IsToldBehindFlush one reply told → IsToldBehindFlush two reply told
told_by one two reply told more is =
    ⊎_elim (λ (so : (told ≡ reply) × (reply.status ≡ Good → one)). inl (so.0, λ (good : reply.status ≡ Good). more (so.1 good)))
    (λ (failed : (reply.status ≡ Good) × (told ≡ check write_error)). inr failed) is

pub late_by : (claims : Bool) (one two : Type 0) (s : UnitState) (h : List Entry) (session serial : ℕ) (by : Group)
    (served : Result ScsiCommand CdbFault) (bytes : List ℕ) (choice : Choice) (asked : Result ScsiCommand CdbFault) (told : ReplyValue)
    → (one → two) → HasLateFlush claims one s h session serial by served bytes choice asked told
    → HasLateFlush claims two s h session serial by served bytes choice asked told
late_by claims one two s h session serial by served bytes choice asked told more is = record {
  unflushed = is.unflushed;
  end = is.end;
  possible = is.possible;
  same = is.same;
  answered = is.answered;
  first = is.first;
  replied_first = is.replied_first;
  told_is = told_by one two is.first told more is.told_is;
}
