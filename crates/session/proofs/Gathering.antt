-- What a turn makes of the tasks: as the session made it.
use Rattle.std.proofs.Common.{◌==◌, ◌||◌, if◌then◌else◌, ◌≡◌, ℕ, ◌+◌, ◌<◌, Bool, true, false, List, [], ◌∷◌, ◌++◌, Option, Some, None, map}
use Rattle.std.proofs.Common.{length, refl, arith, sym, ap, subst, ◌∙◌, inl, inr}
use Rattle.std.proofs.lemmas.{Bool.eqb-true, List.append-nil}
use Rattle.session_rules.specs.Words.{Result, nat_lt, list_any, find, option_to_list, Means, Command, CdbFault, CommandHeader, Initiator}
use Rattle.session_rules.specs.Words.{NopOut, ScsiCommand, DataOut, TaskManagementRequest, TextRequest, LogoutRequest, Header}
use Rattle.session_rules.specs.Words.{ManagementHeader}
use Rattle.session_rules.specs.{Collecting.Continues, Asking.Asking, Turn.Incoming, Turn.pdu, Turn.Out, Turn.Turn}
use Rattle.session_rules.specs.{Setting.Setting, Setting.discovers, Standing.Standing, Transfer.expected_transfer, Nop.nop_answer}
use Rattle.session_rules.specs.{Legal.bhs_of, TaskManagement.management_answer, TaskManagement.reset_response}
use Rattle.session_rules.specs.declared.target.TargetAnswer.{TargetAnswer}
use Rattle.session_rules.specs.declared.target.TargetAnswer.TheVariants.{Gone}
use Rattle.session_rules.specs.declared.verdict.Verdict.{Verdict}
use Rattle.session_rules.specs.declared.verdict.Verdict.TheVariants.{Accepted, Full, Ignored, Gap, Refused}
use Rattle.session_rules.specs.declared.verdict.TheConstants.{RESERVED_TAG}
use Rattle.session_rules.specs.declared.end.End.{End}
use Rattle.session_rules.specs.declared.task_function.ManagementOutcome.{ManagementOutcome, TheVariants.Respond, TheVariants.Reset}
use Rattle.session_rules.specs.Tasks.{r2ts_of, touches, has_tag, ends, Task, Collecting, accepted_command, begun_by, tasks}
use Rattle.session_rules.specs.Verdict.{IsJudged, IsJudgedPdu, verdict_of, most_immediate}
use Rattle.session_rules.proofs.Tasks.{with_turn, no_more, extended, tasks_more, not_full}
use Rattle.session_full_feature.proofs.{Turns.ran}
use Rattle.session.proofs.{Dropping.kept_is, Dropping.no_r2t_managed}
use Rattle.session.proofs.Steps.{Becomes, opened_rest, opened, fed_rest, fed}
use Rattle.session.proofs.Table.{InPlace, IsKept, nothing_comes, command_comes, data_comes, management_comes}
use Rattle.session_full_feature.specs.Counters.{Counters, after_number, after_collecting, after_answer, after_reply, next_numbers}
use Rattle.session_full_feature.specs.{Step.Step, Step.says, Step.Runs, MakesTurn.TurnOf}
use Rattle.session_full_feature.specs.Machine.{Makes, Calls, OnOpened, calls, sends_first_r2t, turns_away, OnFed, fills, sends_next_r2t, calls_now}
use Rattle.session_full_feature.specs.Machine.{OnManagedBy, OnTaken, OnFullPdu, OnUnaccepted, OnIncoming}

-- ---- what waits behind a step

keeps_waiting : (answer : TargetAnswer) (m : Counters) → (after_reply answer m).standing.collecting ≡ m.standing.collecting
keeps_waiting Gone m = refl
keeps_waiting answer m = refl

module _ (b : List ℕ) (step : Step) (s mid s' : Counters) (call : Option Asking) (outs : List Out)
    (runs : Runs b step mid call outs s') where
  -- those that wait, where nothing was called, and where a command was
  stays : (said : List Out) (end : Option End) → step ≡ says said end → s'.standing.collecting ≡ mid.standing.collecting
  stays said end e = ap (λ (z : Counters). z.standing.collecting) (ran b step (says said end) mid call outs s' e runs).next_is

  answered_stays : (p : CommandHeader) (asked : Result Command CdbFault) (bytes : List ℕ) → Calls p asked bytes step
      → s'.standing.collecting ≡ mid.standing.collecting
  answered_stays p asked bytes k =
      let r = ran b step _ mid call outs s' k.step_is runs in
      ap (λ (z : Counters). z.standing.collecting) r.1.next_is ∙ keeps_waiting r.0 mid

  opened_waits : (p : CommandHeader) (asked : Result Command CdbFault) (d : List ℕ) (on : OnOpened s p asked d step mid)
      → (s'.standing.collecting ≡ s.standing.collecting ++ opened_rest on) × InPlace p.task_tag (opened_rest on)
  opened_waits p asked d (calls h k next) = (
    answered_stays p asked d k ∙ ap (λ (z : Counters). z.standing.collecting) next ∙ sym (append-nil s.standing.collecting),
    inl refl,
  )
  opened_waits p asked d (sends_first_r2t h next e k) =
      (stays _ _ e ∙ ap (λ (z : Counters). z.standing.collecting) k.next_is, inr (_, refl, refl))
  opened_waits p asked d (turns_away h k) = (
    stays _ _ k.step_is ∙ ap (λ (z : Counters). z.standing.collecting) k.next_is ∙ sym (append-nil s.standing.collecting),
    inl refl,
  )

  fed_waits : (front : List Collecting) (this : Collecting) (back : List Collecting) (asked : Result Command CdbFault)
      (d : List ℕ) (end : ℕ) (on : OnFed s front this back asked d end step mid)
      → (s'.standing.collecting ≡ front ++ (fed_rest on ++ back)) × InPlace this.command.task_tag (fed_rest on)
  fed_waits front this back asked d end (fills h k) =
      (stays _ _ k.step_is ∙ ap (λ (z : Counters). z.standing.collecting) k.next_is, inr (_, refl, refl))
  fed_waits front this back asked d end (sends_next_r2t all short next e k) =
      (stays _ _ e ∙ ap (λ (z : Counters). z.standing.collecting) k.next_is, inr (_, refl, refl))
  fed_waits front this back asked d end (calls_now h k next) = (
    answered_stays this.command asked (this.bytes ++ d) k ∙ ap (λ (z : Counters). z.standing.collecting) next,
    inl refl,
  )

-- a command that is accepted has a tag of its own
not_refused : (turn gap discovers reserved known long more : Bool)
    → (if turn then (if discovers || (reserved || known || long || more) then Refused 4 else Accepted)
    else (if gap then Gap else Ignored)) ≡ Accepted → known ≡ false
not_refused turn gap discovers reserved false long more e = refl
not_refused true gap true reserved true long more e = absurd (let f : Refused 4 ≡ Accepted = e in cc)
not_refused true gap false true true long more e = absurd (let f : Refused 4 ≡ Accepted = e in cc)
not_refused true gap false false true long more e = absurd (let f : Refused 4 ≡ Accepted = e in cc)
not_refused false true discovers reserved true long more e = absurd (let f : Gap ≡ Accepted = e in cc)
not_refused false false discovers reserved true long more e = absurd (let f : Ignored ≡ Accepted = e in cc)

pub fresh_tag : (m : Setting) (s : Standing) (p : CommandHeader) (d : List ℕ) → Accepted ≡ verdict_of m s p d
    → list_any (has_tag p.task_tag) s.collecting ≡ false
fresh_tag m s p d e =
    not_refused _ _ (discovers m.kind) (p.task_tag == RESERVED_TAG) (list_any (has_tag p.task_tag) s.collecting)
    (nat_lt (expected_transfer p) (length d)) (nat_lt (most_immediate m.start.lengths) (length d)) (not_full _ _ (sym e))

found_tag : (tag : ℕ) (cs : List Collecting) (c : Collecting) → find (has_tag tag) cs ≡ Some c → c.command.task_tag ≡ tag
found_tag tag [] c e = absurd (let f : None ≡ Some c = e in cc)
found_tag tag (x ∷ cs) c e = one (has_tag tag x) refl e (found_tag tag cs c) where
  one : (b : Bool) → has_tag tag x ≡ b → (if b then Some x else find (has_tag tag) cs) ≡ Some c
      → (find (has_tag tag) cs ≡ Some c → c.command.task_tag ≡ tag) → c.command.task_tag ≡ tag
  one true f g rest = let same : x ≡ c =
      cc in subst (λ (z : Collecting). z.command.task_tag ≡ tag) same (eqb-true x.command.task_tag tag f)
  one false f g rest = rest g

-- ---- each turn

answer_keeps : (outs : List Out) (m : Counters) → (after_answer outs m).standing.collecting ≡ m.standing.collecting
answer_keeps [] m = refl
answer_keeps (o ∷ outs) m = refl

module _ (b : List ℕ) (step : Step) (s mid s' : Counters) (call : Option Asking) (outs : List Out)
    (runs : Runs b step mid call outs s') (some : 0 < s.setting.start.lengths.burst) (ks : List Task)
    (kept : IsKept s.setting.start.lengths.burst ks s.standing.collecting) where
  abbrev this_turn : Incoming → Verdict → Turn
  this_turn came v = record { came = came; verdict = v; call = call; sent = outs }

  abbrev Keeps : Incoming → Verdict → Type 0
  Keeps came v =
      let t = this_turn came v in
      let begins = option_to_list (begun_by s.setting.units (accepted_command v came) t []) in
      IsKept s.setting.start.lengths.burst (map (extended s.setting.units t) ks ++ begins) s'.standing.collecting

  quiet : (came : Incoming) (v : Verdict) → accepted_command v came ≡ None
      → ((p : CommandHeader) → touches s.setting.units p (this_turn came v) ≡ false)
      → s'.standing.collecting ≡ s.standing.collecting → Keeps came v
  quiet came v none untouched same =
      rw (none, same, append-nil) (nothing_comes s.setting.units s.setting.start.lengths.burst some ks s.standing.collecting
      kept (this_turn came v) untouched)

  stayed : (said : List Out) (end : Option End) (next : Counters) → Makes (says said end) next step mid
      → s'.standing.collecting ≡ next.standing.collecting
  stayed said end next k =
      stays b step s mid s' call outs runs said end k.step_is ∙ ap (λ (z : Counters). z.standing.collecting) k.next_is

  managed_keeps : (x : ManagementHeader) (m : ManagementOutcome) (n : Counters) → OnManagedBy m n x step mid
      → (r2ts_of outs ≡ []) × (s'.standing.collecting ≡ n.standing.collecting)
  managed_keeps x (Respond code) n k =
      let r = ran b step _ mid call outs s' k.step_is runs in
      (rw r.sent_is refl, stayed _ _ _ k)
  managed_keeps x (Reset unit) n k =
      let r = ran b step _ mid call outs s' k.step_is runs in (
        rw r.1.sent_is (no_r2t_managed (next_numbers mid) x (reset_response r.0)),
        ap (λ (z : Counters). z.standing.collecting) r.1.next_is
            ∙ answer_keeps (management_answer (next_numbers mid) x (reset_response r.0)) mid
            ∙ ap (λ (z : Counters). z.standing.collecting) k.next_is,
      )

  taken_keeps : (h : Header) (d : List ℕ) → IsJudgedPdu s.setting s.standing h d Accepted → OnTaken s h d step mid
      → Keeps (pdu b h d) Accepted
  taken_keeps (Initiator (ScsiCommand p)) d judged k =
      let t : Turn = this_turn (pdu b (Initiator (ScsiCommand p)) d) Accepted in
      let o = opened_waits b step s mid s' call outs runs p k.asked d k.by in
      rw (o.0, no_more ends t (ends t))
      (command_comes s.setting.units s.setting.start.lengths.burst some ks s.standing.collecting kept b p d
      call outs (opened_rest k.by) (fresh_tag s.setting s.standing p d judged) o.1
      (opened s some b p d k.asked k.asked_by.means mid s' step call outs runs k.by))
  taken_keeps (Initiator (DataOut x)) d judged k =
      let t : Turn = this_turn (pdu b (Initiator (DataOut x)) d) Accepted in
      let o = fed_waits b step s mid s' call outs runs k.front k.this k.back k.asked d _ k.by in
      rw (o.0, append-nil)
      (data_comes s.setting.units s.setting.start.lengths.burst some ks s.standing.collecting kept b x d call outs
      k.front k.this k.back (fed_rest k.by) k.whole (found_tag x.task_tag s.standing.collecting k.this k.found) o.1
      (λ task right lasts is. subst (λ (c : Collecting). (q : Continues c x d)
      → (on : OnFed s k.front c k.back k.asked d (q.r2t.offset + q.r2t.desired_length) step mid)
      → Becomes s.setting.start.lengths.burst (with_turn task t) (fed_rest on)) is
      (λ q. fed s some task lasts right b x d q mid s' step call outs runs k.asked
      (sym (k.asked_by.only right.asked (subst (λ (c : Collecting). Means c.command.cdb right.asked) is right.means)))
      k.front k.back) k.continues k.by))
  taken_keeps (Initiator (NopOut p)) d judged k =
      quiet (pdu b (Initiator (NopOut p)) d) Accepted refl (λ q. refl)
      (stayed _ _ _ k ∙ answer_keeps (nop_answer (next_numbers (after_number p.immediate s)) s.setting.start.lengths p d) _)
  taken_keeps (Initiator (LogoutRequest p)) d judged k =
      quiet (pdu b (Initiator (LogoutRequest p)) d) Accepted refl (λ q. refl) (stayed _ _ _ k)
  taken_keeps (Initiator (TextRequest p)) d judged k =
      quiet (pdu b (Initiator (TextRequest p)) d) Accepted refl (λ q. refl) (stayed _ _ _ k)
  taken_keeps (Initiator (TaskManagementRequest x)) d judged k =
      let w = managed_keeps x k.management (after_collecting k.kept (after_number x.immediate s)) k.managed in
      rw (w.1, ← kept_is s.setting.units s.standing.collecting x k.management k.kept k.comes_to, append-nil)
      (management_comes s.setting.units s.setting.start.lengths.burst some ks s.standing.collecting kept b x d call outs w.0)
  taken_keeps h d judged k = absurd k

  full_keeps : (h : Header) (d : List ℕ) → OnFullPdu s h step mid → Keeps (pdu b h d) Full
  full_keeps (Initiator (ScsiCommand p)) d k =
      quiet (pdu b (Initiator (ScsiCommand p)) d) Full refl (λ q. refl) (stayed _ _ _ k.sends)
  full_keeps h d k = absurd k

  unaccepted_keeps : (v : Verdict) (came : Incoming) → OnUnaccepted v s step mid → Keeps came v
  unaccepted_keeps Accepted came k = absurd k
  unaccepted_keeps Full came k = absurd k
  unaccepted_keeps (Refused reason) came k =
      quiet came (Refused reason) refl (λ q. refl) (ap (λ (z : Counters). z.standing.collecting)
      ((ran b step _ mid call outs s' k.step_is runs).next_is ∙ k.next_is))
  unaccepted_keeps v came k = quiet came v refl (λ q. refl) (stayed _ _ _ k)

turn_keeps : (came : Incoming) (v : Verdict) (s mid s' : Counters) (step : Step) (call : Option Asking) (outs : List Out)
    (some : 0 < s.setting.start.lengths.burst) (ks : List Task)
    (kept : IsKept s.setting.start.lengths.burst ks s.standing.collecting) → IsJudged s.setting s.standing came v
    → OnIncoming v s came step mid → (runs : Runs (bhs_of came) step mid call outs s')
    → Keeps (bhs_of came) step s mid s' call outs runs some ks kept came v
turn_keeps (pdu b h d) Accepted s mid s' step call outs some ks kept judged k runs =
    taken_keeps b step s mid s' call outs runs some ks kept h d judged k
turn_keeps (pdu b h d) Full s mid s' step call outs some ks kept judged k runs =
    full_keeps b step s mid s' call outs runs some ks kept h d k
turn_keeps came v s mid s' step call outs some ks kept judged k runs =
    unaccepted_keeps (bhs_of came) step s mid s' call outs runs some ks kept v came k

-- the tasks behind a turn more, and those that wait
pub kept_more : (s s' : Counters) (ts : List Turn) (t : Turn) (came : Incoming)
    → IsKept s.setting.start.lengths.burst (tasks s.setting.units ts) s.standing.collecting → TurnOf s came t s'
    → IsKept s.setting.start.lengths.burst (tasks s.setting.units (ts ++ t ∷ [])) s'.standing.collecting
kept_more s s' ts t came kept m =
    rw (tasks_more s.setting.units ts t)
    (turn_keeps t.came t.verdict s m.mid s' m.step t.call t.sent (omega (arith, s.setting.start.lengths.bursts))
    (tasks s.setting.units ts) kept (rw (← m.came_is) at m.judged) (rw (← m.came_is) at m.made) (rw (← m.came_is) at m.runs))
