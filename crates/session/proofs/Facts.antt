-- What is judged of a turn holds of each turn that the session makes.
use Rattle.std.proofs.Common.{◌==◌, not, ◌++◌, ◌≡◌, ℕ, ◌<◌, ◌↔◌, Bool, true, false, List, [], ◌∷◌, Option, Some, None, length, refl, sym}
use Rattle.std.proofs.Common.{ap, ap₂, ◌∙◌, inl, inr, IsTrue, Result, nat_lt, if◌then◌else◌, take}
use Rattle.std.proofs.Math.Seq.{take-nil}
use Rattle.std.proofs.lemmas.Bool.{ltb-true, lt-ltb}
use Rattle.session_rules.specs.Words.{AllByRecursion, list_any, find, option_map, Means, need_of, Command, CdbFault, Sense, CommandHeader}
use Rattle.session_rules.specs.Words.{DataOutHeader, R2tHeader, ResponseHeader, Numbers, Header, Initiator, NopOut, ScsiCommand, DataOut}
use Rattle.session_rules.specs.Words.{TaskManagementRequest, TextRequest, LogoutRequest, R2t, Reject, ManagementHeader, status_code}
use Rattle.scsi_types.specs.declared.status.Status.{Status}
use Rattle.session_full_feature.specs.{declared.response.Completion.Completion, Step.Step, Step.Runs, Step.IsRun}
use Rattle.session_full_feature.specs.Counters.{Counters, after_status, after_collecting, after_r2t, after_reply, next_numbers, after_number}
use Rattle.session_full_feature.specs.Counters.{after_answer}
use Rattle.session_full_feature.specs.AnswerPdus.{response_for, reply_with, reply_to, busy, task_set_full}
use Rattle.session_full_feature.specs.Machine.{Waits, OnOpened, calls, sends_first_r2t, turns_away, OnFed, fills, sends_next_r2t, calls_now}
use Rattle.session_full_feature.specs.Machine.{OnTaken, OnFullPdu, OnUnaccepted, OnIncoming, OnManagedBy}
use Rattle.session.proofs.RequestFacts.{OutFacts, TaskFacts, TurnFacts, silent, one_out, nobody, commands_of, moved, some_or_none}
use Rattle.session.proofs.RequestFacts.{one_facts, management_facts, no_command}
use Rattle.session_rules.specs.declared.task_function.ManagementOutcome.{ManagementOutcome, TheVariants.Respond, TheVariants.Reset}
use Rattle.session_rules.specs.TaskManagement.{IsManagement, management_answer, reset_response}
use Rattle.session_full_feature.proofs.{Turns.ran}
use Rattle.session.proofs.{Right.none_at}
use Rattle.session.proofs.ReadSegments.{outs_of, OutsFacts, answer_facts, outs_tiled}
use Rattle.session_rules.specs.{Asking.Asking, Asking.served, Turn.Incoming, Turn.pdu, Turn.Out, Codes.reserved_tag, Asking.reset}
use Rattle.session_rules.specs.{Window.takes_number, Standing.numbers_at, Requests.IsRequestAnswered, Verdict.IsJudged, DataIn.data_ins}
use Rattle.session_rules.specs.{DataIn.Tiles, Legal.IsOfCommand, Legal.IsSentFor, Legal.bhs_of}
use Rattle.session_rules.specs.declared.target.TargetAnswer.{TargetAnswer}
use Rattle.session_rules.specs.declared.target.TargetAnswer.TheVariants.{Replied, Outside, Busy, Gone}
use Rattle.session_rules.specs.declared.verdict.Verdict.{Verdict}
use Rattle.session_rules.specs.declared.verdict.Verdict.TheVariants.{Accepted, Full, Refused}
use Rattle.session_rules.specs.Tasks.{is_response, r2ts_of, has_tag, Collecting}
use Rattle.session_rules.specs.Transfer.{expected_transfer, transfer_of, sent_data}
use Rattle.session_rules.specs.Answered.{Outcome, by_target, no_buffer, set_full, outcome_uncalled, outcome_of, command_at, Answered}
use Rattle.session_rules.specs.Answered.{answered_by, answered_in, ServesCommands, IsCalled, outcome_data}
use Rattle.session_rules.specs.Response.{responses, HasOneResponse, IsAnsweredAs, IsTelling, IsToldAs, sense_part}
use Rattle.session_stream.specs.Pdus.{data_ins_for}

abbrev none_data : List ℕ
none_data = []

less : (a b : ℕ) → IsTrue (nat_lt a b) ↔ (a < b)
less a b = (λ e. ltb-true a b e, λ h. lt-ltb a b h)

abbrev told : Status → Option Sense → Completion
told status sense = record { status = status; sense = sense }

-- ---- a command is answered: by what is known of the turn, and by the PDUs that go out

-- what is known of a turn of a command, which is immediate or takes a number
record IsTurnOf (s : Counters) (came : Incoming) (v : Verdict) (call : Option Asking) (p : CommandHeader)
    (immediate : Bool) : Type 0 where
  judged : IsJudged s.setting s.standing came v
  who : command_at s.standing came ≡ Some p
  called : IsCalled s.setting s.standing v came call
  kinds : (outs : List Out) → AllByRecursion (λ o. IsOfCommand o.header) outs → (v ≡ Full → r2ts_of outs ≡ [])
      → IsSentFor v came outs
  no_request : (outs : List Out) → IsRequestAnswered s.setting s.standing v came call outs
  numbered : takes_number v came ≡ not immediate

module _ (s : Counters) (cs : List Collecting) (immediate : Bool) (came : Incoming) (v : Verdict) (call : Option Asking)
    (p : CommandHeader) (asked : Result Command CdbFault) (means : Means p.cdb asked)
    (t : IsTurnOf s came v call p immediate) where
  -- its counters but for the status
  abbrev m : Counters
  m = after_collecting cs (after_number immediate s)

  facts : (outs : List Out) (s' : Counters) → s'.setting ≡ m.setting → s'.standing.exp_cmd_sn ≡ m.standing.exp_cmd_sn
      → AllByRecursion (λ o. IsOfCommand o.header) outs → (v ≡ Full → r2ts_of outs ≡ []) → OutFacts s s' came outs
      → TaskFacts s.setting.start.lengths (answered_in s.standing came v call outs) outs → TurnFacts s s' came v call outs
  facts outs s' setting cmd all none sends task = record {
    judged = t.judged;
    called = t.called;
    kinds = t.kinds outs all none;
    requests = t.no_request outs;
    setting_is = setting;
    commands = rw (cmd, t.numbered) (commands_of immediate s.standing.exp_cmd_sn);
    sends = sends;
    task = task;
  }

  -- it is answered so, or not
  answered_so : (outs : List Out) (w : Option Outcome) → outcome_of v came call outs ≡ w
      → answered_in s.standing came v call outs ≡ answered_by w (Some p) outs
  answered_so outs w e = ap₂ (λ (o : Option CommandHeader) (u : Option Outcome). answered_by u o outs) t.who e

  module _ (outcome : Outcome) (completion : Completion) where
    abbrev sent_bytes : List ℕ
    sent_bytes = sent_data p (outcome_data outcome)

    abbrev transfer : ℕ
    transfer = transfer_of p (need_of asked) (length (outcome_data outcome))

    abbrev sense : List ℕ
    sense = sense_part completion.sense

    abbrev the_response : ResponseHeader
    the_response = response_for (numbers_at m.stat_sn m.standing) p transfer
        (length (data_ins_for (numbers_at 0 m.standing) p.task_tag m.setting.start.lengths sent_bytes)) completion

    abbrev the_outs : List Out
    the_outs = outs_of m.standing p.task_tag m.setting.start.lengths sent_bytes the_response sense (length sent_bytes) 0 0

    are : OutsFacts m.standing p.task_tag m.setting.start.lengths sent_bytes the_response sense
    are = answer_facts m p (need_of asked) (outcome_data outcome) completion

    one_response : HasOneResponse p the_outs
    one_response = record {
      front = data_ins_for (numbers_at 0 m.standing) p.task_tag m.setting.start.lengths sent_bytes;
      last = the_response;
      segment = sense;
      own_is = refl;
      no_other = are.front;
      tag = refl;
    }

    abbrev the_answered : Answered
    the_answered = record { command = p; outcome = outcome; own = the_outs }

    reply_facts : outcome_of v came call the_outs ≡ Some outcome → (HasOneResponse p the_outs → IsAnsweredAs p outcome the_outs)
        → (IsTelling (status_code completion.status) sense the_response sense → IsToldAs outcome the_response sense)
        → TurnFacts s (after_status m) came v call the_outs
    reply_facts outcome_is answered told =
        let who : answered_in s.standing came v call the_outs ≡ Some the_answered =
        answered_so the_outs (Some outcome) outcome_is in
        facts the_outs (after_status m) refl refl are.kinds (λ full. are.r2ts) (record {
          windows = are.windows (record { expects = refl; reaches = refl });
          transfers = rw are.r2ts tt;
          carried = are.carried s.setting came (completion.sense, refl);
          statuses = inr (refl, are.statuses);
          tags = inl (refl, are.r2ts);
        }) (rw who (record {
          answered = answered one_response;
          tiled = outs_tiled m.standing p.task_tag m.setting.start.lengths sent_bytes the_response sense p refl;
          counted = rw are.responses_are (are.count, tt);
          residual = rw are.responses_are (
            asked,
            means,
            (
              record {
                underflow = less transfer (expected_transfer p);
                overflow = less (expected_transfer p) transfer;
                count = refl;
              },
              tt,
            ),
          );
          told = rw are.responses_are (told (record { response = refl; status_is = refl; sense_is = refl }), tt);
        }))

  gone_tiles : (r : Bool) → Tiles s.setting.start.lengths p [] (if r then take p.expected_length none_data else none_data)
  gone_tiles true = rw take-nil (record { joined = refl; each = λ k h e f. absurd (none_at k (h, e) f) })
  gone_tiles false = record { joined = refl; each = λ k h e f. absurd (none_at k (h, e) f) }

  gone_facts : outcome_of v came call [] ≡ Some (by_target Gone) → TurnFacts s m came v call []
  gone_facts outcome_is =
      facts [] m refl refl tt (λ full. refl) (silent refl refl)
      (rw (answered_so [] (Some (by_target Gone)) outcome_is) (record {
        answered = refl;
        tiled = gone_tiles p.read;
        counted = tt;
        residual = (asked, means, tt);
        told = tt;
      }))

  -- by the target's answer
  by_target_facts : v ≡ Accepted
      → (answer : TargetAnswer) (unit : Option ℕ) (wants : Result Command CdbFault) (bytes : List ℕ)
      → (outs : List Out) (s' : Counters)
      → IsRun (Some (served unit wants bytes answer)) (reply_to m p (need_of asked) answer) (after_reply answer m) call outs s'
      → TurnFacts s s' came v call outs
  by_target_facts accepted answer unit wants bytes outs s' k =
      moved refl k.sent_is k.next_is
      (by answer (λ o. ap₂ (λ (w : Verdict) (c : Option Asking). outcome_of w came c o) accepted k.call_is)) where
        by : (answer : TargetAnswer) → ((o : List Out) → outcome_of v came call o ≡ Some (by_target answer))
            → TurnFacts s (after_reply answer m) came v call (reply_to m p (need_of asked) answer)
        by (Replied a) so = reply_facts (by_target (Replied a)) (told a.status a.sense) (so _) (λ o. o) (λ o. o)
        by (Outside a) so = reply_facts (by_target (Outside a)) (told a.status a.sense) (so _) (λ o. o) (λ o. o)
        by Busy so = reply_facts (by_target Busy) busy (so _) (λ o. o) (λ o. o)
        by Gone so = gone_facts (so [])

  -- without a call: there was no buffer, or the task set is full
  no_buffer_facts : v ≡ Accepted → call ≡ None
      → ((outs : List Out)
      → outcome_uncalled came outs ≡ (if list_any (λ o. is_response o.header) outs then Some no_buffer else None))
      → (outs : List Out) (s' : Counters)
      → outs ≡ reply_with m p (need_of asked) [] busy → s' ≡ after_status m
      → TurnFacts s s' came v call outs
  no_buffer_facts accepted none own_turn outs s' is next =
      let outcome_is : outcome_of v came call (the_outs no_buffer busy) ≡ Some no_buffer =
      ap₂ (λ (w : Verdict) (c : Option Asking). outcome_of w came c (the_outs no_buffer busy)) accepted none
      ∙ own_turn (the_outs no_buffer busy) ∙ ap (λ (b : Bool). if b then Some no_buffer else None) (are no_buffer busy).ended in
      moved refl is next (reply_facts no_buffer busy outcome_is (λ o. o) (λ o. o))

  full_facts : v ≡ Full → (outs : List Out) (s' : Counters) → outs ≡ reply_with m p (need_of asked) [] task_set_full
      → s' ≡ after_status m
      → TurnFacts s s' came v call outs
  full_facts full outs s' is next =
      moved refl is next (reply_facts set_full task_set_full
      (ap (λ (w : Verdict). outcome_of w came call (the_outs set_full task_set_full)) full) (λ o. o) (λ o. o))

  -- nothing, or the next R2T, goes out
  unanswered : v ≡ Accepted → call ≡ None → (outs : List Out) → outcome_uncalled came outs ≡ None → responses outs ≡ []
      → data_ins outs ≡ [] → TaskFacts s.setting.start.lengths (answered_in s.standing came v call outs) outs
  unanswered accepted none outs e no_response no_data =
      nobody (answered_so outs None (ap₂ (λ (w : Verdict) (c : Option Asking). outcome_of w came c outs) accepted none ∙ e))
      no_response no_data

  waits_facts : v ≡ Accepted → call ≡ None → outcome_uncalled came [] ≡ None → TurnFacts s m came v call []
  waits_facts accepted none e =
      facts [] m refl refl tt (λ full. refl) (silent refl refl) (unanswered accepted none [] e refl refl)

  r2t_facts : (mid s' : Counters) (waiting : List Collecting) (need bytes count : ℕ) (next : R2tHeader) (outs : List Out)
      → v ≡ Accepted → outcome_uncalled came (record { header = R2t next; bytes = [] } ∷ []) ≡ None
      → Waits m waiting p need bytes count next mid
      → IsRun None (record { header = R2t next; bytes = [] } ∷ []) mid call outs s' → TurnFacts s s' came v call outs
  r2t_facts mid s' waiting need bytes count next outs accepted e k r =
      moved refl r.sent_is (r.next_is ∙ k.next_is)
      (facts (record { header = R2t next; bytes = [] } ∷ []) (after_r2t (after_collecting waiting m)) refl refl (tt, tt)
      (λ full. absurd (let f : Accepted ≡ Full = sym accepted ∙ full in cc)) (record {
        windows = (rw k.numbers (record { expects = refl; reaches = refl }), tt);
        transfers = (record { transfer = k.transfer; status = ap (λ (z : Numbers). z.stat_sn) k.numbers }, tt);
        carried = (refl, tt);
        statuses = inl (refl, refl);
        tags = inr (refl, next, refl);
      }) (unanswered accepted r.call_is (record { header = R2t next; bytes = [] } ∷ []) e refl refl))

-- ---- a SCSI Command, and a Data-Out

command_turn : (s : Counters) (b : List ℕ) (p : CommandHeader) (d : List ℕ) (call : Option Asking) → ServesCommands call
    → IsJudged s.setting s.standing (pdu b (Initiator (ScsiCommand p)) d) Accepted
    → IsTurnOf s (pdu b (Initiator (ScsiCommand p)) d) Accepted call p p.immediate
command_turn s b p d call serves judged = record {
  judged = judged;
  who = refl;
  called = serves;
  kinds = λ outs all none. all;
  no_request = λ outs. tt;
  numbered = refl;
}

data_turn : (s : Counters) (b : List ℕ) (x : DataOutHeader) (d : List ℕ) (call : Option Asking) (this : Collecting)
    → ServesCommands call → IsJudged s.setting s.standing (pdu b (Initiator (DataOut x)) d) Accepted
    → find (has_tag x.task_tag) s.standing.collecting ≡ Some this
    → IsTurnOf s (pdu b (Initiator (DataOut x)) d) Accepted call this.command true
data_turn s b x d call this serves judged found = record {
  judged = judged;
  who = ap (option_map (λ (c : Collecting). c.command)) found;
  called = serves;
  kinds = λ outs all none. all;
  no_request = λ outs. tt;
  numbered = refl;
}

module _ (b : List ℕ) (s mid s' : Counters) (step : Step) (call : Option Asking) (outs : List Out)
    (runs : Runs b step mid call outs s') where
  abbrev Facts : Verdict → Header → List ℕ → Type 0
  Facts v h d = IsJudged s.setting s.standing (pdu b h d) v → TurnFacts s s' (pdu b h d) v call outs

  opened_facts : (p : CommandHeader) (d : List ℕ) (asked : Result Command CdbFault) → Means p.cdb asked
      → OnOpened s p asked d step mid → Facts Accepted (Initiator (ScsiCommand p)) d
  opened_facts p d asked means (calls h k next) judged =
      let r = ran b step _ _ call outs s' k.step_is (rw next at runs) in
      by_target_facts s s.standing.collecting p.immediate _ Accepted call p asked means
      (command_turn s b p d call (rw r.1.call_is tt) judged) refl r.0 _ _ _ outs s' r.1
  opened_facts p d asked means (sends_first_r2t h next e k) judged =
      let r = ran b step _ mid call outs s' e runs in
      r2t_facts s s.standing.collecting p.immediate _ Accepted call p asked means
      (command_turn s b p d call (rw r.call_is tt) judged) mid s' _ _ _ _ next outs refl refl k r
  opened_facts p d asked means (turns_away h k) judged =
      let r = ran b step _ mid call outs s' k.step_is runs in
      no_buffer_facts s s.standing.collecting p.immediate _ Accepted call p asked means
      (command_turn s b p d call (rw r.call_is tt) judged) refl r.call_is (λ os. refl) outs s' r.sent_is
      (r.next_is ∙ k.next_is)

  fed_facts : (x : DataOutHeader) (d : List ℕ) (front : List Collecting) (this : Collecting) (back : List Collecting)
      (end : ℕ) (asked : Result Command CdbFault) → Means this.command.cdb asked
      → find (has_tag x.task_tag) s.standing.collecting ≡ Some this
      → OnFed s front this back asked d end step mid → Facts Accepted (Initiator (DataOut x)) d
  fed_facts x d front this back end asked means found (fills h k) judged =
      let r = ran b step _ mid call outs s' k.step_is runs in
      moved refl r.sent_is (r.next_is ∙ k.next_is) (waits_facts s _ true _ Accepted call this.command asked means
      (data_turn s b x d call this (rw r.call_is tt) judged found) refl r.call_is refl)
  fed_facts x d front this back end asked means found (sends_next_r2t all short next e k) judged =
      let r = ran b step _ mid call outs s' e runs in
      r2t_facts s s.standing.collecting true _ Accepted call this.command asked means
      (data_turn s b x d call this (rw r.call_is tt) judged found) mid s' _ _ _ _ next outs refl refl k r
  fed_facts x d front this back end asked means found (calls_now h k next) judged =
      let r = ran b step _ _ call outs s' k.step_is (rw next at runs) in
      by_target_facts s (front ++ back) true _ Accepted call this.command asked means
      (data_turn s b x d call this (rw r.1.call_is tt) judged found) refl r.0 _ _ _ outs s' r.1

  managed_by : (m : ManagementOutcome) (kept : List Collecting) (p : ManagementHeader) (d : List ℕ)
      → IsManagement s.setting.units s.standing.collecting p m kept
      → OnManagedBy m (after_collecting kept (after_number p.immediate s)) p step mid
      → Facts Accepted (Initiator (TaskManagementRequest p)) d
  managed_by (Respond code) kept p d comes_to k judged =
      let r = ran b step _ mid call outs s' k.step_is runs in
      moved r.call_is r.sent_is (r.next_is ∙ k.next_is) (management_facts s b p d None judged kept (Some code)
      (record { management = Respond code; comes_to = comes_to; managed = (refl, refl) }))
  managed_by (Reset unit) kept p d comes_to k judged =
      let r = ran b step _ mid call outs s' k.step_is runs in
      let next = after_collecting kept (after_number p.immediate s) in
      let same = λ (z : Counters). after_answer (management_answer (next_numbers z) p (reset_response r.0)) z in
      moved r.1.call_is
      (r.1.sent_is ∙ ap (λ (z : Counters). management_answer (next_numbers z) p (reset_response r.0)) k.next_is)
      (r.1.next_is ∙ ap same k.next_is) (management_facts s b p d (Some (reset unit r.0)) judged kept (reset_response r.0)
      (record { management = Reset unit; comes_to = comes_to; managed = (r.0, refl, refl) }))

  taken_facts : (h : Header) (d : List ℕ) → OnTaken s h d step mid → Facts Accepted h d
  taken_facts (Initiator (ScsiCommand p)) d k judged = opened_facts p d k.asked k.asked_by.means k.by judged
  taken_facts (Initiator (DataOut x)) d k judged =
      fed_facts x d k.front k.this k.back _ k.asked k.asked_by.means k.found k.by judged
  taken_facts (Initiator (TaskManagementRequest p)) d k judged = managed_by k.management k.kept p d k.comes_to k.managed judged
  taken_facts (Initiator (NopOut p)) d k judged =
      let r = ran b step _ mid call outs s' k.step_is runs in
      moved r.call_is r.sent_is (r.next_is ∙ k.next_is)
      (some_or_none s s.standing.collecting (pdu b (Initiator (NopOut p)) d) p.immediate None judged refl
      (λ own. no_command None own) refl (λ own. tt) _
      (record { expects = refl; reaches = refl }) refl refl refl refl refl (p.task_tag == reserved_tag) (_, refl))
  taken_facts (Initiator (TextRequest p)) d k judged =
      let r = ran b step _ mid call outs s' k.step_is runs in
      moved r.call_is r.sent_is (r.next_is ∙ k.next_is)
      (one_facts s s.standing.collecting (pdu b (Initiator (TextRequest p)) d) p.immediate None judged refl
      (λ own. no_command None own) refl (λ own. tt) _
      (record { expects = refl; reaches = refl }) refl refl refl refl refl (_, refl))
  taken_facts (Initiator (LogoutRequest p)) d k judged =
      let r = ran b step _ mid call outs s' k.step_is runs in
      moved r.call_is r.sent_is (r.next_is ∙ k.next_is)
      (one_facts s s.standing.collecting (pdu b (Initiator (LogoutRequest p)) d) p.immediate None judged refl
      (λ own. no_command None own) refl (λ own. tt) _
      (record { expects = refl; reaches = refl }) refl refl refl refl refl (_, refl))
  taken_facts h d k judged = absurd k

  full_pdu_facts : (h : Header) (d : List ℕ) → OnFullPdu s h step mid → Facts Full h d
  full_pdu_facts (Initiator (ScsiCommand p)) d k judged =
      let r = ran b step _ mid call outs s' k.sends.step_is runs in
      full_facts s s.standing.collecting true (pdu b (Initiator (ScsiCommand p)) d) Full call p k.asked k.means (record {
        judged = judged;
        who = refl;
        called = r.call_is;
        kinds = λ os all none. (all, none refl);
        no_request = λ os. tt;
        numbered = refl;
      }) refl outs s' r.sent_is (r.next_is ∙ k.sends.next_is)
  full_pdu_facts h d k judged = absurd k

  unaccepted_facts : (v : Verdict) (came : Incoming) → bhs_of came ≡ b → OnUnaccepted v s step mid
      → IsJudged s.setting s.standing came v → TurnFacts s s' came v call outs
  unaccepted_facts Accepted came e k judged = absurd k
  unaccepted_facts Full came e k judged = absurd k
  unaccepted_facts (Refused reason) came e k judged =
      let r = ran b step _ mid call outs s' k.step_is runs in
      moved r.call_is (r.sent_is ∙ ap (λ (z : List ℕ). record {
        header = Reject (record { reason = reason; numbers = next_numbers s });
        bytes = z;
      } ∷ []) (sym e)) (r.next_is ∙ k.next_is) (record {
        judged = judged;
        called = refl;
        kinds = (next_numbers s, refl);
        requests = tt;
        setting_is = refl;
        commands = inl (refl, refl);
        sends = one_out (record { expects = refl; reaches = refl }) refl refl refl refl refl;
        task = nobody refl refl refl;
      })
  unaccepted_facts v came e k judged =
      let r = ran b step _ mid call outs s' k.step_is runs in
      moved r.call_is r.sent_is (r.next_is ∙ k.next_is) (record {
        judged = judged;
        called = refl;
        kinds = refl;
        requests = tt;
        setting_is = refl;
        commands = inl (refl, refl);
        sends = silent refl refl;
        task = nobody refl refl refl;
      })

pub made_facts : (came : Incoming) (v : Verdict) (s mid s' : Counters) (step : Step) (call : Option Asking)
    (outs : List Out) → IsJudged s.setting s.standing came v → OnIncoming v s came step mid
    → Runs (bhs_of came) step mid call outs s' → TurnFacts s s' came v call outs
made_facts (pdu b h d) Accepted s mid s' step call outs judged k runs = taken_facts b s mid s' step call outs runs h d k judged
made_facts (pdu b h d) Full s mid s' step call outs judged k runs = full_pdu_facts b s mid s' step call outs runs h d k judged
made_facts came v s mid s' step call outs judged k runs =
    unaccepted_facts (bhs_of came) s mid s' step call outs runs v came refl k judged
