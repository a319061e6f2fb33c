-- What follows of a legal transcript.
use Rattle.std.proofs.Common.{◌≡◌, ℕ, ◌+◌, ◌≤◌, min, Bool, true, false, List, [], ◌∷◌, ◌++◌, Option, Some, None, length, take, refl, ap}
use Rattle.std.proofs.Common.{◌∙◌, arith, length-append, ◌||◌, IsTrue, Result, slice_get, if◌then◌else◌}
use Rattle.std.proofs.lemmas.List.{length-take, Elements.filter_map-append}
use Rattle.session_rules.specs.Words.{AllByRecursion, filter, cons_option, list_any, Initiator, ScsiCommand, TargetHeader, ScsiResponse}
use Rattle.session_rules.specs.Words.{CommandHeader, Lengths, TargetAnswer, Replied, Outside, Busy, Gone, Verdict, Accepted, Full}
use Rattle.session_rules.specs.Words.{Command, CdbFault}
use Rattle.session_rules.specs.{Setting.Setting, Asking.Asking, Asking.served, Window.wrap, Standing.Standing, Standing.standing}
use Rattle.session_rules.specs.{DataIn.data_ins, DataIn.joined_data, Following.IsCallTurn, Turn.Incoming, Turn.pdu}
use Rattle.session_rules.specs.{Turn.Out, Turn.Turn, Turn.sent, Tasks.is_response, Tasks.is_management, Tasks.finds_gone, Tasks.touches}
use Rattle.session_rules.specs.{Tasks.ends, Tasks.through, Tasks.Task, Tasks.accepted_command, Tasks.begun_by, Tasks.tasks}
use Rattle.session_rules.specs.Answered.{Outcome, by_target, no_buffer, set_full, outcome_of, command_at, answered_by, answered_in}
use Rattle.session_rules.specs.Answered.{reply_data}
use Rattle.session_rules.specs.Response.{response_with, responses, HasOneResponse, IsAnsweredBy, IsAnsweredAs}
use Rattle.session_rules.specs.Legal.{AtEach, Lawful, status_numbers, IsAnsweredTask, IsTiledTask}
use Rattle.session_rules.proofs.Tasks.{neither}

pub consecutive : (setting : Setting) (ts : List Turn) (k n next : ℕ) → Lawful setting ts
    → slice_get (status_numbers (sent ts)) k ≡ Some n → slice_get (status_numbers (sent ts)) (k + 1) ≡ Some next
    → next ≡ wrap (n + 1)
consecutive setting ts k n next l here there =
    let one : n ≡ wrap (setting.start.stat_sn + k) = l.numbered k n here in
    let two : next ≡ wrap (setting.start.stat_sn + (k + 1)) = l.numbered (k + 1) next there in
    omega (arith, one, two)

-- ---- one response at most

one_length : (p : CommandHeader) (own : List Out) → HasOneResponse p own → length (responses own) ≡ 1
one_length p own k = rw (k.own_is, filter_map-append, k.no_other) refl

turn_count : (outcome : Option Outcome) (p : Option CommandHeader) (own : List Out)
    → IsAnsweredTask (answered_by outcome p own) own → length (responses own) ≤ 1
turn_count (Some (by_target Gone)) (Some p) own k = omega (arith, ap length k)
turn_count (Some outcome) (Some p) own k = omega (arith, one_length p own k)
turn_count outcome p own k = omega (arith, ap length k)

pub answered_once : (setting : Setting) (ts : List Turn) → Lawful setting ts
    → AtEach (λ before t. length (responses t.sent) ≤ 1) ts
answered_once setting ts l before t behind e =
    turn_count (outcome_of t.verdict t.came t.call t.sent) (command_at (standing setting before) t.came) t.sent
    (l.answered before t behind e)

pub unaccepted : (setting : Setting) (ts : List Turn) → Lawful setting ts
    → AtEach (λ before t. (t.verdict ≡ Accepted → ⊥) → (t.verdict ≡ Full → ⊥) → responses t.sent ≡ []) ts
unaccepted setting ts l before t behind e = by_verdict t.verdict (l.answered before t behind e) where
  by_verdict : (v : Verdict) → IsAnsweredTask (answered_in (standing setting before) t.came v t.call t.sent) t.sent
      → (v ≡ Accepted → ⊥) → (v ≡ Full → ⊥) → responses t.sent ≡ []
  by_verdict Accepted k never full = absurd (never refl)
  by_verdict Full k never full = absurd (full refl)
  by_verdict v k never full = k

-- ---- one response at most in all turns of a command

responses_more : (t : Turn) (ts : List Turn)
    → length (responses (sent (t ∷ ts))) ≡ length (responses t.sent) + length (responses (sent ts))
responses_more t ts = ap length (filter_map-append (λ o. response_with o.header o.bytes) t.sent (sent ts))
    ∙ length-append (responses t.sent) (responses (sent ts))

no_one : (h : TargetHeader) (d : List ℕ) → is_response h ≡ false → response_with h d ≡ None
no_one (ScsiResponse r) d e = absurd (let f : true ≡ false = e in cc)
no_one h d e = refl

none_sent : (outs : List Out) → list_any (λ o. is_response o.header) outs ≡ false → responses outs ≡ []
none_sent [] e = refl
none_sent (o ∷ outs) e =
    let w = neither (is_response o.header) (list_any (λ z. is_response z.header) outs) e in
    rw (no_one o.header o.bytes w.0) (none_sent outs w.1)

abbrev HasOneAtMost : Turn → Type 0
HasOneAtMost t = length (responses t.sent) ≤ 1

through_one : (us : List Turn) → AllByRecursion HasOneAtMost us → length (responses (sent (through ends us))) ≤ 1
through_one [] all = omega arith
through_one (t ∷ us) all = one (ends t) refl (through_one us all.1) where
  one : (b : Bool) → ends t ≡ b → length (responses (sent (through ends us))) ≤ 1
      → length (responses (sent (t ∷ (if b then [] else through ends us)))) ≤ 1
  one true e rest = omega (arith, responses_more t [], all.0)
  one false e rest = omega (
    arith,
    responses_more t (through ends us),
    ap length
        (none_sent t.sent (neither (list_any (λ o. is_response o.header) t.sent) (is_management t.came)
        (neither (list_any (λ o. is_response o.header) t.sent || is_management t.came) (finds_gone t.call) e).0).0),
    rest,
  )

all_filter : (test : Turn → Bool) (us : List Turn) → AllByRecursion HasOneAtMost us
    → AllByRecursion HasOneAtMost (filter test us)
all_filter test [] all = tt
all_filter test (t ∷ us) all = one (test t) (all_filter test us all.1) where
  one : (b : Bool) → AllByRecursion HasOneAtMost (filter test us)
      → AllByRecursion HasOneAtMost (if b then t ∷ filter test us else filter test us)
  one true rest = (all.0, rest)
  one false rest = rest

begun_once : (units : ℕ) (c : Option (CommandHeader × List ℕ)) (t : Turn) (behind : List Turn) (ks : List Task) → HasOneAtMost t
    → AllByRecursion HasOneAtMost behind → AllByRecursion (λ k. length (responses (sent k.own)) ≤ 1) ks
    → AllByRecursion (λ k. length (responses (sent k.own)) ≤ 1) (cons_option (begun_by units c t behind) ks)
begun_once units None t behind ks here all rest = rest
begun_once units (Some c) t behind ks here all rest =
    (through_one (t ∷ filter (touches units c.0) behind) (here, all_filter (touches units c.0) behind all), rest)

tasks_once : (units : ℕ) (ts : List Turn) → AllByRecursion HasOneAtMost ts
    → AllByRecursion (λ k. length (responses (sent k.own)) ≤ 1) (tasks units ts)
tasks_once units [] all = tt
tasks_once units (t ∷ behind) all =
    begun_once units (accepted_command t.verdict t.came) t behind (tasks units behind) all.0 all.1 (tasks_once units behind all.1)

each_of_all : (ts : List Turn) → AtEach (λ before t. HasOneAtMost t) ts → AllByRecursion HasOneAtMost ts
each_of_all [] each = tt
each_of_all (t ∷ ts) each = (
  each [] t ts refl,
  each_of_all ts
      (λ before u behind e. each (t ∷ before) u behind (ap (λ (us : List Turn). t ∷ us) e)),
)

pub command_once : (setting : Setting) (ts : List Turn) → Lawful setting ts
    → AllByRecursion (λ k. length (responses (sent k.own)) ≤ 1) (tasks setting.units ts)
command_once setting ts l = tasks_once setting.units ts (each_of_all ts (answered_once setting ts l))

-- ---- the data of a read

pub read_data : (setting : Setting) (ts : List Turn) → Lawful setting ts
    → AtEach (λ before t. (p : CommandHeader) (answer : TargetAnswer) → IsCallTurn t p answer → IsTrue p.read
    → joined_data (data_ins t.sent) ≡ take p.expected_length (reply_data answer)) ts
read_data setting ts l before t behind e p answer is reads =
    let k = rw (is.accepted, is.came, is.called) at (l.tiled before t behind e) in
    k.joined ∙ ap (λ (b : Bool). if b then take p.expected_length (reply_data answer) else []) reads

pub read_size : (setting : Setting) (ts : List Turn) → Lawful setting ts
    → AtEach (λ before t. (p : CommandHeader) (answer : TargetAnswer) → IsCallTurn t p answer → IsTrue p.read
    → length (joined_data (data_ins t.sent)) ≡ min p.expected_length (length (reply_data answer))) ts
read_size setting ts l before t behind e p answer is reads =
    ap length (read_data setting ts l before t behind e p answer is reads)
    ∙ length-take p.expected_length (reply_data answer)
