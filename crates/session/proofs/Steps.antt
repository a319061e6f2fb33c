-- What a turn makes of the one task that it touches.
use Rattle.std.proofs.Common.{◌||◌, if◌then◌else◌, ◌≡◌, ◌⊎◌, ℕ, ◌+◌, ◌-◌, ◌<◌, ◌≤◌, min, Bool, true, false, IsTrue, List, [], ◌∷◌, ◌++◌}
use Rattle.std.proofs.Common.{Option, Some, None, length, refl, sym, ap, subst, ◌∙◌, inl, inr, arith, length-append, append_assoc}
use Rattle.std.proofs.lemmas.{Grind.flat_map-append}
use Rattle.std.proofs.lemmas.List.{append-nil, Elements.filter_map-append, Folds.list_any-append}
use Rattle.session_rules.specs.Words.{slice_get, Result, last_or, flat_map, list_any, cons_option, Means, need_of, Command, CdbFault}
use Rattle.session_rules.specs.Words.{CommandHeader, DataOutHeader, R2tHeader, R2t, Initiator, ScsiCommand, DataOut, NamesUnit}
use Rattle.session_rules.specs.{Asking.Asking, Asking.served, Transfer.data_for}
use Rattle.session_rules.specs.{Turn.Incoming, Turn.pdu, Turn.Out, Turn.Turn, Turn.sent, Window.wrap}
use Rattle.session_rules.specs.declared.verdict.Verdict.{Verdict, TheVariants.Accepted}
use Rattle.session_rules.specs.declared.target.TargetAnswer.{TargetAnswer}
use Rattle.session_rules.specs.declared.target.TargetAnswer.TheVariants.{Replied, Outside, Busy, Gone}
use Rattle.session_rules.specs.Tasks.{data_out_with, is_management, r2t_with, r2ts_of, ends, Task, has_ended, data_outs, r2ts}
use Rattle.session_rules.specs.Tasks.{command_call, command_calls, gathered, is_response, sends_r2t, behind_last, finds_gone}
use Rattle.session_rules.specs.Tasks.{Collecting, collected, collecting_of}
use Rattle.session_rules.specs.Collecting.{sizes, r2ts_end, IsR2tAt, IsUncalled, HasCalls, IsCollected, IsTurnedAwayAtOnce}
use Rattle.session_rules.specs.Collecting.{IsRightTask, IsNext, Continues, HasToCollect}
use Rattle.session_rules.proofs.Tasks.{with_turn}
use Rattle.session_full_feature.specs.{Counters.Counters, Counters.after_command}
use Rattle.session_full_feature.specs.AnswerPdus.{reply_to, busy as out_of_room}
use Rattle.session_full_feature.specs.Step.{Step, Runs, IsRun}
use Rattle.session_full_feature.specs.Machine.{Calls, OnOpened, calls, sends_first_r2t, turns_away, OnFed, fills, sends_next_r2t, calls_now}
use Rattle.session_full_feature.proofs.{Turns.ran}
use Rattle.session.proofs.{ReadSegments.answer_facts}
use Rattle.session.proofs.Right.{none_at, last_push, end_is, within_need, more_data, more_r2ts, reaches}
use Rattle.session_tasks.specs.Slots.{waits}
use Rattle.session_tasks.specs.Slots as slots

-- ---- one turn more of a list of turns

pub sent_more : (own : List Turn) (u : Turn) → sent (own ++ u ∷ []) ≡ sent own ++ u.sent
sent_more own u = flat_map-append (λ t. t.sent) own (u ∷ []) ∙ ap (λ (o : List Out). sent own ++ o) (append-nil u.sent)

pub r2ts_more : (own : List Turn) (u : Turn) → r2ts (own ++ u ∷ []) ≡ r2ts own ++ r2ts_of u.sent
r2ts_more own u = ap r2ts_of (sent_more own u) ∙ filter_map-append (λ o. r2t_with o.header) (sent own) u.sent

calls_more : (own : List Turn) (u : Turn)
    → command_calls (own ++ u ∷ []) ≡ command_calls own ++ cons_option (command_call u) []
calls_more own u = filter_map-append command_call own (u ∷ [])

data_outs_more : (own : List Turn) (u : Turn)
    → data_outs (own ++ u ∷ []) ≡ data_outs own ++ cons_option (data_out_with u.came) []
data_outs_more own u = filter_map-append (λ t. data_out_with t.came) own (u ∷ [])

ended_more : (own : List Turn) (u : Turn) → list_any ends (own ++ u ∷ []) ≡ (list_any ends own || (ends u || false))
ended_more own u = list_any-append ends own (u ∷ [])

abbrev manages : Turn → Bool
manages t = is_management t.came

dropped_more : (own : List Turn) (u : Turn)
    → list_any manages (own ++ u ∷ []) ≡ (list_any manages own || (manages u || false))
dropped_more own u = list_any-append manages own (u ∷ [])

-- one that was called has a call
has_call : (cs : List Asking) (call : Option Asking) (c : Asking) → call ≡ Some c → cs ++ cons_option call [] ≡ [] → ⊥
has_call [] None c e f = cc
has_call cs call c e f = cc

is_dropped : (a b : Bool) → b ≡ true → (a || (b || false)) ≡ false → ⊥
is_dropped false false e f = cc
is_dropped a b e f = cc

behind_step : (u : Turn) (x : Turn) (b c d e : Bool) (rest ts : List Turn) → b ≡ (c || (d || false))
    → rest ≡ (if d then [] else (ts ++ u ∷ [])) → (own : List Turn)
    → (if b then rest else (if e then own ++ u ∷ [] else x ∷ (own ++ u ∷ [])))
    ≡ (if d then [] else ((if c then ts else (if e then own else x ∷ own)) ++ u ∷ []))
behind_step u x b true d e rest ts f g own = rw f g
behind_step u x b false true e rest ts f g own = rw f g
behind_step u x b false false true rest ts f g own = rw f refl
behind_step u x b false false false rest ts f g own = rw f refl

behind_more : (own : List Turn) (u : Turn)
    → behind_last sends_r2t (own ++ u ∷ []) ≡ (if sends_r2t u then [] else (behind_last sends_r2t own ++ u ∷ []))
behind_more [] u = refl
behind_more (x ∷ own) u =
    behind_step u x (list_any sends_r2t (own ++ u ∷ [])) (list_any sends_r2t own) (sends_r2t u) (sends_r2t x)
    (behind_last sends_r2t (own ++ u ∷ [])) (behind_last sends_r2t own)
    (list_any-append sends_r2t own (u ∷ [])) (behind_more own u) own

-- the data with one turn more
gathered_more : (k : Task) (u : Turn)
    → gathered (with_turn k u) ≡ gathered k ++ flat_map (λ x. x.1) (cons_option (data_out_with u.came) [])
gathered_more k u =
    ap (λ (xs : List (DataOutHeader × List ℕ)). k.segment ++ flat_map (λ x. x.1) xs) (data_outs_more k.own u)
    ∙ ap (λ (b : List ℕ). k.segment ++ b)
    (flat_map-append (λ (x : DataOutHeader × List ℕ). x.1) (data_outs k.own)
    (cons_option (data_out_with u.came) []))
    ∙ sym (append_assoc k.segment (flat_map (λ x. x.1) (data_outs k.own))
    (flat_map (λ x. x.1) (cons_option (data_out_with u.came) [])))

-- what is known of a task that has not ended
pub record IsOpen (burst : ℕ) (k : Task) (asked : Result Command CdbFault) : Type 0 where
  pub no_calls : command_calls k.own ≡ []
  pub each_r2t : (i : ℕ) (r : R2tHeader) → slice_get (r2ts k.own) i ≡ Some r
      → IsR2tAt burst k.command (need_of asked) (length k.segment) (length (gathered k)) (r2ts k.own) i r
  pub uncalled : IsUncalled k.command (need_of asked) (length k.segment) (gathered k) (r2ts k.own) false

waiting_of : (p : CommandHeader) (asked : Result Command CdbFault) (imm : ℕ) (bytes : List ℕ) (rs : List R2tHeader)
    (cs : List Asking)
    → HasCalls p asked imm bytes rs false cs → (cs ≡ []) × IsUncalled p (need_of asked) imm bytes rs false
waiting_of p asked imm bytes rs [] k = (refl, k)
waiting_of p asked imm bytes rs (c ∷ []) k = absurd (let e : false ≡ true = k.ends in cc)
waiting_of p asked imm bytes rs (c ∷ (d ∷ cs)) k = absurd k

pub open_of : (burst : ℕ) (k : Task) → has_ended k ≡ false → (right : IsRightTask burst k) → IsOpen burst k right.asked
open_of burst k e right =
    let w = waiting_of k.command right.asked (length k.segment) (gathered k) (r2ts k.own) (command_calls k.own)
    (subst (λ (b : Bool). HasCalls k.command right.asked (length k.segment) (gathered k) (r2ts k.own) b
    (command_calls k.own)) e right.right.outcome) in
    record { no_calls = w.0; each_r2t = right.right.each_r2t; uncalled = w.1 }

-- ---- the touched task with one turn more

-- what it becomes: it is right, and this of it waits
abbrev pub Becomes : ℕ → Task → List Collecting → Type 0
Becomes burst k new = IsRightTask burst k × (cons_option (collecting_of k) [] ≡ new)

-- it is called, and ends: what goes out answers it
record IsCalledNow (p : CommandHeader) (asked : Result Command CdbFault) (bytes : List ℕ) (call : Option Asking)
    (outs : List Out) : Type 0 where
  unit : Option ℕ
  names : NamesUnit p.lun unit
  answer : TargetAnswer
  call_is : call ≡ Some (served unit asked (data_for p (need_of asked) bytes) answer)
  no_r2t : r2ts_of outs ≡ []
  ends : (list_any (λ o. is_response o.header) outs ≡ true) ⊎ (finds_gone call ≡ true)

or_true : (b c : Bool) → (b ≡ true) ⊎ (c ≡ true) → (b || false || c) ≡ true
or_true false false (inl e) = e
or_true false false (inr e) = e
or_true b c e = refl

module _ (burst : ℕ) (k : Task) (open_task : has_ended k ≡ false) (u : Turn) where
  abbrev bytes_in : List ℕ
  bytes_in = flat_map (λ (x : DataOutHeader × List ℕ). x.1) (cons_option (data_out_with u.came) [])

  right_now : (asked : Result Command CdbFault) → Means k.command.cdb asked
      → IsCollected burst k.command asked (length k.segment) (gathered k ++ bytes_in) (r2ts k.own ++ r2ts_of u.sent)
      (ends u || false)
      (command_calls k.own ++ cons_option (command_call u) [])
      → IsTurnedAwayAtOnce (ends u || false) (list_any manages k.own || (manages u || false))
      (command_calls k.own ++ cons_option (command_call u) []) (r2ts k.own ++ r2ts_of u.sent)
      → IsRightTask burst (with_turn k u)
  right_now asked means right away = record {
    asked = asked;
    means = means;
    right = rw (r2ts_more k.own u, gathered_more k u, calls_more k.own u, ended_more k.own u, open_task) right;
    turned_away = rw (r2ts_more k.own u, calls_more k.own u, ended_more k.own u, dropped_more k.own u, open_task) away;
  }

  collected_is : (rs : List R2tHeader) (bytes : List ℕ) (n : ℕ) → r2ts k.own ++ r2ts_of u.sent ≡ rs
      → gathered k ++ bytes_in ≡ bytes
      → wrap (length (data_outs (behind_last sends_r2t (k.own ++ u ∷ [])))) ≡ n → ends u ≡ false
      → cons_option (collecting_of (with_turn k u)) []
      ≡ record {
        command = k.command;
        bytes = bytes;
        outstanding = last_or None rs;
        r2t_count = wrap (length rs);
        data_sn = n;
      } ∷ []
  collected_is rs bytes n e f g h = rw (ended_more k.own u, open_task, h, r2ts_more k.own u, e, gathered_more k u, f, g) refl

  ended_is : ends u ≡ true → cons_option (collecting_of (with_turn k u)) [] ≡ []
  ended_is h = rw (ended_more k.own u, open_task, h) refl

  -- these are its data with those of the turn
  module _ (asked : Result Command CdbFault) (means : Means k.command.cdb asked) (no_calls : command_calls k.own ≡ [])
      (bytes : List ℕ) (joined_is : gathered k ++ bytes_in ≡ bytes)
      (each_r2t : (i : ℕ) (r : R2tHeader) → slice_get (r2ts k.own) i ≡ Some r
      → IsR2tAt burst k.command (need_of asked) (length k.segment) (length bytes) (r2ts k.own) i r) where
    asked_more : (some : 0 < burst) (n : R2tHeader) → u.sent ≡ record { header = R2t n; bytes = [] } ∷ []
        → command_call u ≡ None → ends u ≡ false → HasToCollect k.command (need_of asked) (length k.segment)
        → length bytes ≡ r2ts_end (length k.segment) (r2ts k.own) → length bytes < need_of asked
        → IsNext burst k.command (need_of asked) (length bytes) (length (r2ts k.own)) n
        → wrap (length (data_outs (behind_last sends_r2t (k.own ++ u ∷ [])))) ≡ 0
        → Becomes burst (with_turn k u) (waits k.command bytes n (wrap (length (r2ts k.own) + 1)) ∷ [])
    asked_more some n out none on collects all short next count =
        let far = reaches burst k.command (need_of asked) (length k.segment) (length bytes) (r2ts k.own) each_r2t n some all
        short next in
        let rs : r2ts k.own ++ r2ts_of u.sent ≡ r2ts k.own ++ n ∷ [] = ap (λ (z : List Out). r2ts k.own ++ r2ts_of z) out in (
          right_now asked means
              (rw (rs, joined_is, none, append-nil (command_calls k.own), no_calls, on) (record {
                each_r2t = more_r2ts burst k.command (need_of asked) (length k.segment) (length bytes) (r2ts k.own)
                    each_r2t n some all short next;
                outcome = record { collects = collects; within = omega (arith, far); waits = λ e. far };
              })) (rw on (λ e f g. absurd (cc e))),
          rw (last_push (r2ts k.own) None n, length-append (r2ts k.own) (n ∷ [])) at
              (collected_is (r2ts k.own ++ n ∷ []) bytes 0 rs joined_is count on),
        )

    -- it ends without a call
    ended_unserved : r2ts_of u.sent ≡ [] → command_call u ≡ None → ends u ≡ true
        → HasToCollect k.command (need_of asked) (length k.segment) → length bytes ≤ r2ts_end (length k.segment) (r2ts k.own)
        → ((list_any manages k.own || (manages u || false)) ≡ false → r2ts k.own ≡ []) → Becomes burst (with_turn k u) []
    ended_unserved none uncalled over collects within away = (
      right_now asked means
          (rw (none, append-nil (r2ts k.own), joined_is, uncalled, append-nil (command_calls k.own), no_calls, over) (record {
            each_r2t = each_r2t;
            outcome = record { collects = collects; within = within; waits = λ f. absurd (cc f) };
          })) (λ _ f g. rw (none, append-nil (r2ts k.own)) (away f)),
      ended_is over,
    )

    -- it is called, with all its data
    ended_served : IsCalledNow k.command asked bytes u.call u.sent → manages u ≡ false
        → (IsTrue k.command.write → need_of asked ≤ k.command.expected_length → need_of asked ≤ length bytes)
        → (IsTrue k.command.write → need_of asked ≤ k.command.expected_length
        → min (length k.segment) (need_of asked) + sizes (r2ts k.own) ≡ need_of asked)
        → ((HasToCollect k.command (need_of asked) (length k.segment) → ⊥) → r2ts k.own ≡ [])
        → Becomes burst (with_turn k u) []
    ended_served c plain all tiled no_r2ts =
        let over : ends u ≡ true = rw plain (or_true (list_any (λ o. is_response o.header) u.sent) (finds_gone u.call) c.ends) in
        let called : command_call u ≡ Some (served c.unit asked (data_for k.command (need_of asked) bytes) c.answer) =
        rw plain c.call_is in (
          right_now asked means
              (rw (c.no_r2t, append-nil (r2ts k.own), joined_is, no_calls, over, called) (record {
                each_r2t = each_r2t;
                outcome = record {
                  ends = refl;
                  unit = c.unit;
                  names = c.names;
                  answer = c.answer;
                  call_is = refl;
                  all = all;
                  tiled = tiled;
                  no_r2ts = no_r2ts;
                };
              })) (λ _ f g. absurd (has_call (command_calls k.own) (command_call u) _ called g)),
          ended_is over,
        )

-- the longest burst of a session
abbrev burst_of : Counters → ℕ
burst_of s = s.setting.start.lengths.burst

-- ---- an answer ends it, and has no R2T

abbrev Ends : Option Asking → List Out → Type 0
Ends call outs = (r2ts_of outs ≡ []) × ((list_any (λ o. is_response o.header) outs ≡ true) ⊎ (finds_gone call ≡ true))

answered_ends : (m next : Counters) (p : CommandHeader) (need : ℕ) (answer : TargetAnswer) (call : Option Asking)
    (unit : Option ℕ) (wants : Result Command CdbFault) (bytes : List ℕ) (outs : List Out) (s' : Counters)
    → IsRun (Some (served unit wants bytes answer)) (reply_to m p need answer) next call outs s' → Ends call outs
answered_ends m next p need (Replied a) call unit wants bytes outs s' k =
    let w = answer_facts m p need a.bytes (record { status = a.status; sense = a.sense }) in
    rw k.sent_is (w.r2ts, inl w.ended)
answered_ends m next p need (Outside a) call unit wants bytes outs s' k =
    let w = answer_facts m p need a.bytes (record { status = a.status; sense = a.sense }) in
    rw k.sent_is (w.r2ts, inl w.ended)
answered_ends m next p need Busy call unit wants bytes outs s' k =
    let w = answer_facts m p need [] out_of_room in rw k.sent_is (w.r2ts, inl w.ended)
answered_ends m next p need Gone call unit wants bytes outs s' k = rw k.sent_is (refl, inr (rw k.call_is refl))

called_now : (b : List ℕ) (step : Step) (mid s' : Counters) (call : Option Asking) (outs : List Out) (p : CommandHeader)
    (asked : Result Command CdbFault) (bytes : List ℕ) → Calls p asked bytes step → Runs b step mid call outs s'
    → IsCalledNow p asked bytes call outs
called_now b step mid s' call outs p asked bytes k runs =
    let r = ran b step _ mid call outs s' k.step_is runs in
    let e = answered_ends mid _ p (need_of asked) r.0 call _ _ _ outs s' r.1 in
    record { unit = k.unit; names = k.names; answer = r.0; call_is = r.1.call_is; no_r2t = e.0; ends = e.1 }

-- ---- a Data-Out comes for it

wrap_more : (n : ℕ) → wrap (wrap n + 1) ≡ wrap (n + 1)
wrap_more n = omega arith

-- what waits of a command behind its Data-Out
abbrev pub fed_rest : {s : Counters} {front : List Collecting} {this : Collecting} {back : List Collecting}
    {asked : Result Command CdbFault} {d : List ℕ} {end : ℕ} {step : Step} {mid : Counters}
    → OnFed s front this back asked d end step mid → List Collecting
fed_rest {this = this} {d = d} (fills h k) = slots.fed this d ∷ []
fed_rest {this = this} {d = d} (sends_next_r2t all short next e k) =
    waits this.command (this.bytes ++ d) next (wrap (this.r2t_count + 1)) ∷ []
fed_rest (calls_now h k next) = []

module _ (s : Counters) (some : 0 < s.setting.start.lengths.burst) (k : Task) (open_task : has_ended k ≡ false)
    (right : IsRightTask s.setting.start.lengths.burst k) (b : List ℕ) (x : DataOutHeader) (d : List ℕ)
    (continues : Continues (collected k) x d) where
  abbrev data_turn : Option Asking → List Out → Turn
  data_turn call outs = record { came = pdu b (Initiator (DataOut x)) d; verdict = Accepted; call = call; sent = outs }

  abbrev known : IsOpen (burst_of s) k right.asked
  known = open_of (burst_of s) k open_task right

  abbrev joined : List ℕ
  joined = gathered k ++ d

  abbrev need : ℕ
  need = need_of right.asked

  abbrev imm : ℕ
  imm = length k.segment

  longer : length (gathered k) ≤ length joined
  longer = omega (arith, length-append (gathered k) d)

  abbrev each_r2t_now : (i : ℕ) (r : R2tHeader) → slice_get (r2ts k.own) i ≡ Some r
      → IsR2tAt (burst_of s) k.command need imm (length joined) (r2ts k.own) i r
  each_r2t_now = more_data (burst_of s) k.command need imm (length (gathered k)) (r2ts k.own) known.each_r2t
      (length joined) longer

  abbrev end_at : r2ts_end imm (r2ts k.own) ≡ continues.r2t.offset + continues.r2t.desired_length
  end_at = end_is (burst_of s) k.command need imm (length (gathered k))
      (r2ts k.own) known.each_r2t continues.r2t continues.outstanding

  in_range : length joined ≤ r2ts_end imm (r2ts k.own)
  in_range = omega (arith, length-append (gathered k) d, continues.place, continues.within, end_at)

  joined_is : gathered k ++ (d ++ []) ≡ joined
  joined_is = ap (λ (z : List ℕ). gathered k ++ z) (append-nil d)

  -- what a session makes of a task: by the R2T that is outstanding, for what the CDB asks
  pub fed : (mid s' : Counters) (step : Step) (call : Option Asking) (outs : List Out) → Runs b step mid call outs s'
      → (asked : Result Command CdbFault) → asked ≡ right.asked → (front back : List Collecting)
      (on : OnFed s front (collected k) back asked d (continues.r2t.offset + continues.r2t.desired_length) step mid)
      → Becomes (burst_of s) (with_turn k (data_turn call outs)) (fed_rest on)
  fed mid s' step call outs runs asked e front back (fills h w) =
      let r = ran b step _ mid call outs s' w.step_is runs in
      let t : Turn = data_turn None [] in
      rw (r.call_is, r.sent_is, wrap_more (length (data_outs (behind_last sends_r2t k.own)))) (
        right_now (burst_of s) k open_task t right.asked right.means
            (rw (append-nil (r2ts k.own), append-nil d, append-nil (command_calls k.own), known.no_calls) (record {
              each_r2t = each_r2t_now;
              outcome = record { collects = known.uncalled.collects; within = in_range; waits = λ e. omega (arith, h, end_at) };
            })) (λ e f g. absurd (cc e)),
        collected_is (burst_of s) k open_task t (r2ts k.own) joined
            (wrap (length (data_outs (behind_last sends_r2t k.own)) + 1)) (append-nil (r2ts k.own))
            (ap (λ (z : List ℕ). gathered k ++ z) (append-nil d))
            (ap (λ (us : List Turn). wrap (length (data_outs us))) (behind_more k.own t)
            ∙ ap (λ (z : List (DataOutHeader × List ℕ)). wrap (length z))
            (data_outs_more (behind_last sends_r2t k.own) t)
            ∙ ap wrap (length-append (data_outs (behind_last sends_r2t k.own)) ((x, d) ∷ []))) refl,
      )
  fed mid s' step call outs runs asked e front back (sends_next_r2t all short next is w) =
      let r = ran b step _ mid call outs s' is runs in
      rw (r.call_is, r.sent_is, wrap_more (length (r2ts k.own)))
      (asked_more (burst_of s) k open_task (data_turn None (record { header = R2t next; bytes = [] } ∷ [])) right.asked
      right.means known.no_calls joined joined_is each_r2t_now some next refl refl refl known.uncalled.collects
      (all ∙ sym end_at) (omega (arith, short, ap need_of e)) (record {
        number = omega (arith, w.is_next.number);
        place = w.is_next.place;
        size = w.is_next.size ∙ ap (λ (z : Result Command CdbFault). min (burst_of s) (need_of z - length joined)) e;
        tag = w.is_next.tag;
        lun = w.is_next.lun;
      }) (ap (λ (us : List Turn). wrap (length (data_outs us))) (behind_more k.own _)))
  fed mid s' step call outs runs asked e front back (calls_now h w next) =
      let all : need ≤ length joined = omega (arith, h, ap need_of e) in
      ended_served (burst_of s) k open_task (data_turn call outs) right.asked right.means known.no_calls joined joined_is
      each_r2t_now (subst (λ (z : Result Command CdbFault). IsCalledNow k.command z joined call outs) e
      (called_now b step mid s' call outs k.command asked joined w runs)) refl (λ _ _. all)
      (λ _ _. omega (
        arith,
        known.uncalled.collects.short,
        in_range,
        all,
        within_need (burst_of s) k.command need imm (length joined) (r2ts k.own) each_r2t_now continues.r2t
            continues.outstanding,
      )) (λ f. absurd (f known.uncalled.collects))

-- ---- it is dropped

module _ (burst : ℕ) (k : Task) (open_task : has_ended k ≡ false) (right : IsRightTask burst k) (v : Verdict)
    (came : Incoming)
    (call : Option Asking) (outs : List Out) where
  abbrev drop_turn : Turn
  drop_turn = record { came = came; verdict = v; call = call; sent = outs }

  any_or : (a c : Bool) → (a || true || c) ≡ true
  any_or true c = refl
  any_or false c = refl

  pub dropped : is_management came ≡ true → data_out_with came ≡ None → r2ts_of outs ≡ []
      → Becomes burst (with_turn k drop_turn) []
  dropped managed no_data no_r2t =
      let o = open_of burst k open_task right in
      let e : ends drop_turn ≡ true =
      ap (λ (b : Bool). list_any (λ (z : Out). is_response z.header) outs || b || finds_gone call) managed
      ∙ any_or (list_any (λ (z : Out). is_response z.header) outs) (finds_gone call) in
      ended_unserved burst k open_task drop_turn right.asked right.means o.no_calls (gathered k)
      (rw no_data (append-nil (gathered k))) o.each_r2t no_r2t (ap (λ (b : Bool). if b then None else call) managed) e
      o.uncalled.collects o.uncalled.within (λ f. absurd (is_dropped (list_any manages k.own) (is_management came) managed f))

-- ---- a command comes

-- what waits of a command that was accepted
abbrev pub opened_rest : {s : Counters} {p : CommandHeader} {asked : Result Command CdbFault} {d : List ℕ} {step : Step}
    {mid : Counters} → OnOpened s p asked d step mid → List Collecting
opened_rest (calls h k next) = []
opened_rest {p = p} {d = d} (sends_first_r2t h next e k) = waits p d next 1 ∷ []
opened_rest (turns_away h k) = []

module _ (s : Counters) (some : 0 < s.setting.start.lengths.burst) (b : List ℕ) (p : CommandHeader) (d : List ℕ)
    (asked : Result Command CdbFault) (means : Means p.cdb asked) where
  abbrev command_turn : Option Asking → List Out → Turn
  command_turn call outs = record {
    came = pdu b (Initiator (ScsiCommand p)) d;
    verdict = Accepted;
    call = call;
    sent = outs;
  }

  abbrev opening : Option Asking → List Out → Task
  opening call outs = record { command = p; segment = d; own = command_turn call outs ∷ [] }

  none_requested : (i : ℕ) (r : R2tHeader) → slice_get [] i ≡ Some r
      → IsR2tAt (burst_of s) p (need_of asked) (length d) (length d) [] i r
  none_requested i r e = absurd (none_at i r e)

  abbrev empty : Task
  empty = record { command = p; segment = d; own = [] }

  none_yet : (d ++ []) ++ [] ≡ d
  none_yet = append-nil (d ++ []) ∙ append-nil d

  pub opened : (mid s' : Counters) (step : Step) (call : Option Asking) (outs : List Out) → Runs b step mid call outs s'
      → (on : OnOpened s p asked d step mid) → Becomes (burst_of s) (opening call outs) (opened_rest on)
  opened mid s' step call outs runs (calls h k next) =
      let enough : IsTrue p.write → need_of asked ≤ p.expected_length → need_of asked ≤ length d =
      λ w f. let some : length d < need_of asked → ⊥ = λ short. h (record { writes = w; expected = f; short = short }) in
      omega arith in
      ended_served (burst_of s) empty refl (command_turn call outs) asked means refl d none_yet none_requested
      (called_now b step mid s' call outs p asked d k runs) refl enough (λ w f. omega (arith, enough w f)) (λ f. refl)
  opened mid s' step call outs runs (sends_first_r2t h next e k) =
      let r = ran b step _ mid call outs s' e runs in
      rw (r.call_is, r.sent_is)
      (asked_more (burst_of s) empty refl (command_turn None (record { header = R2t next; bytes = [] } ∷ [])) asked means refl
      d none_yet none_requested some next refl refl refl h (omega arith) h.short k.is_next refl)
  opened mid s' step call outs runs (turns_away h k) =
      let r = ran b step _ mid call outs s' k.step_is runs in
      let w = answer_facts (after_command p s) p (need_of asked) [] out_of_room in
      ended_unserved (burst_of s) empty refl (command_turn call outs) asked means refl d none_yet none_requested
      (rw r.sent_is w.r2ts) r.call_is (rw r.sent_is (ap (λ (z : Bool). z || false || finds_gone call) w.ended)) h (omega arith) (λ f. refl)
