-- What a turn of the session is: the step that it makes, run with the target's answer.
use Rattle.std.proofs.Common.{◌≡◌, ◌∙◌, ℕ, List, Option, Some, None, refl, sym, ap, subst}
use Rattle.session_rules.specs.Words.{Header, Initiator, NopOut, ScsiCommand, DataOut, TaskManagementRequest, TextRequest, LogoutRequest}
use Rattle.session_full_feature.specs.{Counters.Counters, MakesTurn.MakesTurn}
use Rattle.session_full_feature.specs.Step.{Step, says, rejects, serves, resets, end_of, telling, IsRun, Runs}
use Rattle.session_full_feature.specs.Machine.{OnOpened, calls, sends_first_r2t, turns_away, OnFed, fills, sends_next_r2t, calls_now}
use Rattle.session_full_feature.specs.Machine.{OnManagedBy, OnTaken, OnFullPdu, OnUnaccepted, OnIncoming}
use Rattle.session_stream.specs.{declared.pdus.Pdus.Pdus, Outbox.OutboxValue, Outbox.IsQueued, Pdus.sent_by}
use Rattle.session_rules.specs.{Asking.Asking, Causes.end_by_reject, Verdict.IsJudged, Legal.end_after, Legal.end_of_call, Legal.bhs_of}
use Rattle.session_rules.specs.declared.end.End.{End}
use Rattle.session_rules.specs.declared.task_function.ManagementOutcome.{ManagementOutcome, TheVariants.Respond, TheVariants.Reset}
use Rattle.session_rules.specs.declared.verdict.Verdict.{Verdict}
use Rattle.session_rules.specs.declared.verdict.Verdict.TheVariants.{Accepted, Full, Refused}
use Rattle.session_rules.specs.Turn.{Incoming, pdu, Out, bytes_of, IsLed}
use Rattle.session_stream.specs.declared.pdus.Pdus.TheVariants as pdus

-- what is said of a step is said of what it is
pub ran : (b : List ℕ) (step wanted : Step) (s : Counters) (call : Option Asking) (sent : List Out) (s' : Counters)
    → step ≡ wanted → Runs b step s call sent s' → Runs b wanted s call sent s'
ran b step wanted s call sent s' e k = subst (λ (z : Step). Runs b z s call sent s') e k

-- what goes out by itself is run without a call
pub run_said : (b : List ℕ) (x : Pdus) (end : Option End) (s : Counters) → Runs b (telling x end) s None (sent_by b x) s
run_said b (pdus.Reject r) end s = record { call_is = refl; sent_is = refl; next_is = refl }
run_said b x end s = record { call_is = refl; sent_is = refl; next_is = refl }

-- a call that was answered so is run, where these PDUs tell its answer
pub run_so : (asked : Asking) (b : List ℕ) (x : Pdus) (end wanted : Option End) (outs : List Out) (next s' : Counters)
    → telling x end ≡ says outs wanted → s' ≡ next → IsRun (Some asked) outs next (Some asked) (sent_by b x) s'
run_so asked b x end wanted outs next s' told next_is = record {
  call_is = refl;
  sent_is = (ran b _ (says outs wanted) next None (sent_by b x) next told (run_said b x end next)).sent_is;
  next_is = next_is;
}

-- ---- the end of a turn is that of its step, or of its call

abbrev pub end_with : List ℕ → Step → Option Asking → Option End
end_with b (says outs end) call = end_of b (says outs end)
end_with b (rejects r) call = end_of b (rejects r)
end_with b (serves p need unit asked bytes) call = end_of_call call
end_with b (resets p unit) call = end_of_call call

pub end_said : (b : List ℕ) (x : Pdus) (end : Option End) → end_of b (telling x end) ≡ end_with b (telling x end) None
end_said b (pdus.Reject r) end = refl
end_said b x end = refl

module _ (b : List ℕ) (s mid s' : Counters) (call : Option Asking) (sent : List Out) where
  plain : (step wanted : Step) → step ≡ wanted → end_with b wanted None ≡ None → Runs b step mid call sent s'
      → end_with b step call ≡ end_of_call call
  plain (says outs end) wanted e none k = ap (λ (z : Step). end_with b z None) e ∙ none ∙ ap end_of_call (sym k.call_is)
  plain (rejects r) wanted e none k = ap (λ (z : Step). end_with b z None) e ∙ none ∙ ap end_of_call (sym k.call_is)
  plain step wanted e none k = refl

  module _ (step : Step) (runs : Runs b step mid call sent s') where
    opened_ends : (p : _) (asked : _) (d : List ℕ) → OnOpened s p asked d step mid → end_with b step call ≡ end_of_call call
    opened_ends p asked d (calls h k next) = plain step _ k.step_is refl runs
    opened_ends p asked d (sends_first_r2t h next e k) = plain step _ e refl runs
    opened_ends p asked d (turns_away h k) = plain step _ k.step_is refl runs

    fed_ends : (front : _) (this : _) (back : _) (asked : _) (d : List ℕ) (end : ℕ)
        → OnFed s front this back asked d end step mid → end_with b step call ≡ end_of_call call
    fed_ends front this back asked d end (fills h k) = plain step _ k.step_is refl runs
    fed_ends front this back asked d end (sends_next_r2t all short next e k) = plain step _ e refl runs
    fed_ends front this back asked d end (calls_now h k next) = plain step _ k.step_is refl runs

    managed_ends : (m : ManagementOutcome) (c : Counters) (p : _) → OnManagedBy m c p step mid
        → end_with b step call ≡ end_of_call call
    managed_ends (Respond response) c p k = plain step _ k.step_is refl runs
    managed_ends (Reset unit) c p k = plain step _ k.step_is refl runs

    taken_ends : (h : Header) (d : List ℕ) → OnTaken s h d step mid
        → end_with b step call ≡ end_after Accepted (pdu b h d) call
    taken_ends (Initiator (NopOut p)) d k = plain step _ k.step_is refl runs
    taken_ends (Initiator (ScsiCommand p)) d k = opened_ends p k.asked d k.by
    taken_ends (Initiator (DataOut x)) d k = fed_ends k.front k.this k.back k.asked d _ k.by
    taken_ends (Initiator (TaskManagementRequest p)) d k = managed_ends k.management _ p k.managed
    taken_ends (Initiator (TextRequest p)) d k = plain step _ k.step_is refl runs
    taken_ends (Initiator (LogoutRequest p)) d k = ap (λ (z : Step). end_with b z call) k.step_is
    taken_ends h d k = absurd k

    full_ends : (h : Header) → OnFullPdu s h step mid → end_with b step call ≡ None
    full_ends (Initiator (ScsiCommand p)) k = ap (λ (z : Step). end_with b z call) k.sends.step_is
    full_ends h k = absurd k

    unaccepted_ends : (v : Verdict) (came : Incoming) → bhs_of came ≡ b → OnUnaccepted v s step mid
        → end_with b step call ≡ end_after v came call
    unaccepted_ends Accepted came e k = absurd k
    unaccepted_ends Full came e k = absurd k
    unaccepted_ends (Refused reason) came e k = ap (λ (z : Step). end_with b z call) k.step_is
        ∙ ap (λ (z : List ℕ). Some (end_by_reject reason z)) (sym e)
    unaccepted_ends v came e k = ap (λ (z : Step). end_with b z call) k.step_is

    ends : (came : Incoming) (v : Verdict) → bhs_of came ≡ b → OnIncoming v s came step mid
        → end_with b step call ≡ end_after v came call
    ends (pdu bhs h d) Accepted e k = taken_ends h d k
    ends (pdu bhs h d) Full e k = full_ends h k
    ends came v e k = unaccepted_ends v came e k

-- the turn
pub turn_of : {T : Type 0} (leads : T → Asking → T → Type 0) (s mid s' : Counters) (x x' : T)
    (held held' : Option (List ℕ)) (before now : ℕ) (o o' : OutboxValue) (came : Incoming) (v : Verdict) (step : Step)
    (call : Option Asking) (sent : List Out) (wanted : Option End)
    → IsJudged s.setting s.standing came v → OnIncoming v s came step mid → Runs (bhs_of came) step mid call sent s'
    → IsLed leads call x x' → IsQueued held held' before now o o' (bytes_of sent) → wanted ≡ end_with (bhs_of came) step call
    → MakesTurn leads s s' x x' held held' before now o o' came wanted
turn_of leads s mid s' x x' held held' before now o o' came v step call sent wanted judged made runs led queued is = record {
  turn = record { came = came; verdict = v; call = call; sent = sent };
  made = record { came_is = refl; judged = judged; step = step; mid = mid; made = made; runs = runs };
  led = led;
  queued = queued;
  wanted_is = is ∙ ends (bhs_of came) s mid s' call sent step runs came v refl made;
}
