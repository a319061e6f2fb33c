-- Histories with one entry more.
use Rattle.std.proofs.Common.{◌≡◌, ◌↔◌, ℕ, zero, suc, Bool, true, List, [], ◌∷◌, ◌++◌, length, ◌<◌, Option}
use Rattle.std.proofs.Common.{Some, None, refl, sym, ap, ◌∙◌, ◌+◌, ◌≤◌, if◌then◌else◌, arith}
use Rattle.std.proofs.lemmas.List.Sums.{count_by-le-length, sum_by_push}
use Rattle.scsi_types.specs.Nexus.{Nexus}
use Rattle.scsi_types.specs.ReplyValue.{ReplyValue}
use Rattle.unit_control.specs.declared.refusal.Refusal.{Refusal}
use Rattle.unit_control.specs.declared.sessions.Attached.{Attached}
use Rattle.unit_control.specs.Sessions.{attached, last_nexus, nexus_of, without}
use Rattle.unit_control.specs.State.{ControlValue, UnitState}
use Rattle.unit_control.specs.Choice.{Choice}
use Rattle.unit_control.specs.Medium.{found, work_asked}
use Rattle.unit_control.specs.Refusal.{Request, request, refusal}
use Rattle.unit_control.specs.Entry.{Entry, Attach, Detach, Reset, Move, Command, IsPossible, IsReplyTo}
use Rattle.unit_control.specs.Entry.{IsReplyWith, after, control_after, reply_to, reply_with, returned}
use Rattle.unit_state.specs.History.{state_after, IsLegal, reply_at, IsReplyAt, has_failed, failed_entries}

-- its state is that after the last entry
pub state_after-snoc : (s : UnitState) (history : List Entry) (entry : Entry)
    → state_after s (history ++ entry ∷ []) ≡ after (state_after s history) entry
state_after-snoc s [] entry = refl
state_after-snoc s (e ∷ history) entry = state_after-snoc (after s e) history entry

-- it is legal where that before is, and the last entry is possible in the state that it gives
pub IsLegal-snoc : (claims : Bool) (s : UnitState) (history : List Entry) (entry : Entry)
    → IsLegal claims s (history ++ entry ∷ [])
    ↔ (IsLegal claims s history × IsPossible claims (state_after s history) entry)
IsLegal-snoc claims s [] entry = (λ legal. (tt, legal.0), λ both. (both.1, tt))
IsLegal-snoc claims s (e ∷ history) entry =
    let rest = IsLegal-snoc claims (after s e) history entry in
    (λ legal. ((legal.0, (rest.0 legal.1).0), (rest.0 legal.1).1), λ both. (both.0.0, rest.1 (both.0.1, both.1)))

-- its last reply is that of the last entry
pub reply_at-snoc : (s : UnitState) (history : List Entry) (entry : Entry)
    → reply_at s (history ++ entry ∷ []) (length history) ≡ reply_to (state_after s history) entry
reply_at-snoc s [] entry = refl
reply_at-snoc s (e ∷ history) entry = reply_at-snoc (after s e) history entry

-- and the replies before it stay
pub reply_at-before : (s : UnitState) (history : List Entry) (entry : Entry) (i : ℕ) → i < length history
    → reply_at s (history ++ entry ∷ []) i ≡ reply_at s history i
reply_at-before s [] entry i lt = absurd (omega arith)
reply_at-before s (e ∷ history) entry zero lt = refl
reply_at-before s (e ∷ history) entry (suc i) lt = reply_at-before (after s e) history entry i (omega arith)

-- over a disk that keeps what it claims there is one reply to each command
decided_with : (refused : Option Refusal) (s : UnitState) (r : Request) (choice : Choice) (reply : ReplyValue)
    → IsReplyWith refused true s r choice reply
    → reply_with refused s.control r (found s.blocks (work_asked r.asked r.bytes) choice) ≡ reply
decided_with (Some a) s r choice reply is = sym is
decided_with None s r choice reply is = ap (returned s.control r) (sym (is.told refl)) ∙ sym is.is

decided_by : (s : UnitState) (entry : Entry) (reply : ReplyValue) → IsReplyTo true s entry reply
    → reply_to s entry ≡ Some reply
decided_by s (Attach nexus) reply is = absurd is
decided_by s (Detach session) reply is = absurd is
decided_by s (Reset session) reply is = absurd is
decided_by s (Move list choice) reply is = absurd is
decided_by s (Command session serial by_group asked bytes choice) reply is =
    let r = request session asked bytes in
    ap (λ (a : ReplyValue). let o : Option ReplyValue = Some a in o)
    (decided_with (refusal s.control r) s r choice reply is)

pub decided : (s : UnitState) (history : List Entry) (i : ℕ) (reply : ReplyValue) → IsReplyAt true s history i reply
    → reply_at s history i ≡ Some reply
decided s [] i reply is = absurd is
decided s (e ∷ history) zero reply is = decided_by s e reply is
decided s (e ∷ history) (suc i) reply is = decided (after s e) history i reply is

-- ---- the entries that failed

-- one more, where the last entry did
pub failed-snoc : (history : List Entry) (entry : Entry)
    → failed_entries (history ++ entry ∷ []) ≡ failed_entries history + (if has_failed entry then 1 else 0)
failed-snoc history entry = sum_by_push (λ (e : Entry). if has_failed e then 1 else 0) history entry

-- and no more than there are entries
pub failed-le-length : (history : List Entry) → failed_entries history ≤ length history
failed-le-length history = count_by-le-length has_failed history

-- ---- the session that attached last

pub last_nexus-snoc : (sessions : List Attached) (a : Attached) → last_nexus (sessions ++ a ∷ []) ≡ nexus_of a
last_nexus-snoc [] a = refl
last_nexus-snoc (x ∷ []) a = refl
last_nexus-snoc (x ∷ y ∷ sessions) a = last_nexus-snoc (y ∷ sessions) a

pub last_attached : (c : ControlValue) (nexus : Nexus)
    → last_nexus (control_after c (Attach nexus)).sessions ≡ nexus
last_attached c nexus = last_nexus-snoc (without nexus c.sessions) (attached nexus c.count)
