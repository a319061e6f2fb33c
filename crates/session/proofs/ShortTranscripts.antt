-- Of short transcripts that differ, one is legal.
use Rattle.std.proofs.Common.{◌≡◌, ℕ, ◌-◌, ◌<◌, min, true, false, List, [], ◌∷◌, Option, Some, None, refl, sym, ap, subst, ◌∙◌, inl, inr}
use Rattle.std.proofs.Common.{arith}
use Rattle.std.proofs.lemmas.{Bool.false_from_ne_true, List.append-nil}
use Rattle.session_rules.specs.Words.{Result, last_or, need_of, NamesUnit, good, Command, CdbFault, Numbers, TargetHeader, ScsiResponse}
use Rattle.session_rules.specs.Words.{DataIn, Reject, DataOutHeader, DataInHeader, ResponseHeader, R2tHeader}
use Rattle.session_rules.specs.{Asking.Asking, Asking.served, Turn.Out, Turn.Turn, Legal.Lawful, Legal.bhs_of, Verdict.IsJudged}
use Rattle.session_rules.specs.declared.target.TargetAnswer.TheVariants.{Replied}
use Rattle.session_rules.specs.declared.verdict.Verdict.{Verdict, TheVariants.Accepted, TheVariants.Refused}
use Rattle.session_rules.specs.Examples.{example, unit_0, numbers_with, out, ping, pong, read_header, three_bytes, read, the_data_in}
use Rattle.session_rules.specs.Examples.{the_response, unanswered, write_header, write, the_r2t, turned_away, leave, reject, the_reject}
use Rattle.session_rules.proofs.AtEach.{at_each_none}
use Rattle.session_tasks.specs.Slots.{IsAskedBy, waits}
use Rattle.session_full_feature.specs.{Step.Step, Step.serves, Step.says_r2t, Step.Runs, Machine.OnIncoming, Machine.calls, Machine.sends_first_r2t}
use Rattle.session_full_feature.specs.Counters.{Counters, begun, after_status, after_number, after_r2t, after_collecting}
use Rattle.session.proofs.{Right.last_push, Lawful.stands_none, Lawful.stands_more}

-- ---- one turn that the session makes is lawful

one_turn : (t : Turn) (step : Step) (mid s' : Counters) → IsJudged example (begun example).standing t.came t.verdict
    → OnIncoming t.verdict (begun example) t.came step mid → Runs (bhs_of t.came) step mid t.call t.sent s'
    → Lawful example (t ∷ [])
one_turn t step mid s' judged made runs =
    (stands_more example [] t t.came (begun example) s'
    (stands_none example (begun example) (omega arith) (omega arith) refl) (at_each_none _)
    (record { came_is = refl; judged = judged; step = step; mid = mid; made = made; runs = runs })).lawful

same_numbers : (n : Numbers) (a b c : ℕ) → n.stat_sn ≡ a → n.exp_cmd_sn ≡ b → n.max_cmd_sn ≡ c
    → n ≡ record { stat_sn = a; exp_cmd_sn = b; max_cmd_sn = c }
same_numbers n a b c e f g = λ i. record { stat_sn = e i; exp_cmd_sn = f i; max_cmd_sn = g i }

-- ---- a NOP-Out

pub ping_lawful : Lawful example (ping Accepted None (pong (numbers_with 3 39)) (1 ∷ 2 ∷ []) ∷ [])
ping_lawful =
    one_turn (ping Accepted None (pong (numbers_with 3 39)) (1 ∷ 2 ∷ [])) _ (after_status (after_number false (begun example)))
    _ refl (record { step_is = refl; next_is = refl }) (record { call_is = refl; sent_is = refl; next_is = refl })

pub ping_is : (v : Verdict) (call : Option Asking) (h : TargetHeader) (d : List ℕ) → Lawful example (ping v call h d ∷ [])
    → (v ≡ Accepted) × (call ≡ None) × (h ≡ pong (numbers_with 3 39)) × (d ≡ 1 ∷ 2 ∷ [])
ping_is v call h d l =
    let judged : v ≡ Accepted = l.judged [] (ping v call h d) [] refl in
    let now = subst (λ (w : Verdict). Lawful example (ping w call h d ∷ [])) judged l in
    let q = now.requests [] (ping Accepted call h d) [] refl in
    let one : out h d ≡ out (pong q.0) (1 ∷ 2 ∷ []) = cc (q.1) in
    let header_is : h ≡ pong q.0 = ap (λ (o : Out). o.header) one in
    let same = subst (λ (z : TargetHeader). Lawful example (ping Accepted call z d ∷ [])) header_is now in
    let w = (same.windows [] (ping Accepted call (pong q.0) d) [] refl).0 in (
      judged,
      now.called [] (ping Accepted call h d) [] refl,
      header_is ∙ ap pong (same_numbers q.0 3 8 39 (same.numbered 0 q.0.stat_sn refl) w.expects w.reaches),
      ap (λ (o : Out). o.bytes) one,
    )

-- ---- a read

pub read_lawful : (cdb : List ℕ) (asked : Result Command CdbFault) → IsAskedBy (read_header cdb) asked
    → Lawful example (read cdb (Some 0) asked [] the_data_in three_bytes the_response [] ∷ [])
read_lawful cdb asked is =
    one_turn (read cdb (Some 0) asked [] the_data_in three_bytes the_response [])
    (serves (read_header cdb) (need_of asked) (Some 0) asked []) (after_number false (begun example)) _ refl
    (record {
      asked = asked;
      asked_by = is;
      by = calls (λ k. let e : false ≡ true = k.writes in cc)
          (record { unit = Some 0; names = inl refl; step_is = refl }) refl;
    })
    (Replied (good three_bytes), record { call_is = refl; sent_is = refl; next_is = refl })

named_unit : (unit : Option ℕ) → NamesUnit unit_0 unit → unit ≡ Some 0
named_unit None none = absurd (none 0 (inl refl))
named_unit (Some u) (inl e) = cc
named_unit (Some u) (inr e) = absurd (cc)

pub read_is : (cdb : List ℕ) (unit : Option ℕ) (asked : Result Command CdbFault) (bytes : List ℕ) (h : DataInHeader)
    (d : List ℕ) (r : ResponseHeader) (e : List ℕ) → Lawful example (read cdb unit asked bytes h d r e ∷ [])
    → (unit ≡ Some 0) × (bytes ≡ []) × (h ≡ the_data_in) × (d ≡ three_bytes) × (r ≡ the_response) × (e ≡ [])
read_is cdb unit asked bytes h d r e l =
    let t : Turn = read cdb unit asked bytes h d r e in
    let k = (l.collected [] t [] refl).0 in
    let c = k.right.outcome in
    let same : served unit asked bytes (Replied (good three_bytes)) ≡ served c.unit k.asked [] c.answer = c.call_is in
    let unit_is : unit ≡ c.unit = cc in
    let data_is : d ≡ three_bytes = sym (append-nil d) ∙ (l.tiled [] t [] refl).joined in
    let s = (l.tiled [] t [] refl).each 0 h d refl in
    let told = (l.told [] t [] refl).0 in
    let left = (l.residual [] t [] refl).2.0 in
    let w = l.windows [] t [] refl in
    let one = l.answered [] t [] refl in
    let whole = ap (last_or None) one.own_is ∙ last_push one.front None (out (ScsiResponse one.last) one.segment) in
    let last : out (ScsiResponse r) e ≡ out (ScsiResponse one.last) one.segment = cc in
    let header_is : ScsiResponse r ≡ ScsiResponse one.last = ap (λ (o : Out). o.header) last in
    let response_is : r ≡ one.last = cc in (
      unit_is ∙ named_unit c.unit c.names,
      cc,
      λ i. record {
        last = s.last.1 (rw (s.place, data_is) refl) i;
        task_tag = s.tag i;
        transfer_tag = s.no_transfer i;
        numbers = same_numbers h.numbers 0 8 39 s.no_status w.0.expects w.0.reaches i;
        data_sn = s.number i;
        offset = s.place i;
      },
      data_is,
      λ i. record {
        overflow = false_from_ne_true r.overflow (λ o. let k : 4 < 3 = left.overflow.0 o in omega (arith, k)) i;
        underflow = left.underflow.1 (omega arith) i;
        response = told.response i;
        status = told.status_is i;
        task_tag = (ap (λ (z : ResponseHeader). z.task_tag) response_is ∙ one.tag) i;
        numbers = same_numbers r.numbers 3 8 39 (l.numbered 0 r.numbers.stat_sn refl) w.1.0.expects w.1.0.reaches i;
        exp_data_sn = (l.counted [] t [] refl).0 i;
        residual = left.count i;
      },
      told.sense_is,
    )

pub not_unanswered : (cdb : List ℕ) (unit : Option ℕ) (asked : Result Command CdbFault) (bytes : List ℕ) (h : DataInHeader)
    (d : List ℕ) → Lawful example (unanswered cdb unit asked bytes h d ∷ []) → ⊥
not_unanswered cdb unit asked bytes h d l =
    let one = l.answered [] (unanswered cdb unit asked bytes h d) [] refl in
    let whole = ap (last_or None) one.own_is ∙ last_push one.front None (out (ScsiResponse one.last) one.segment) in
    let last : out (DataIn h) d ≡ out (ScsiResponse one.last) one.segment = cc in
    let header_is : DataIn h ≡ ScsiResponse one.last = ap (λ (o : Out). o.header) last in cc

-- ---- a write that waits for its data

pub write_lawful : (cdb : List ℕ) (asked : Result Command CdbFault) → IsAskedBy (write_header cdb) asked
    → need_of asked ≡ 4 → Lawful example (write cdb the_r2t [] ∷ [])
write_lawful cdb asked is need =
    let t : Turn = write cdb the_r2t [] in
    let mid : Counters = after_collecting (waits (write_header cdb) [] the_r2t 1 ∷ []) (after_number false (begun example)) in
    one_turn t (says_r2t the_r2t) (after_r2t mid) _ refl
    (record {
      asked = asked;
      asked_by = is;
      by = sends_first_r2t (record { writes = refl; expected = omega (arith, need); short = omega (arith, need) }) the_r2t refl
          (record {
            is_next = record { number = refl; place = refl; size = rw need refl; tag = refl; lun = refl };
            transfer = refl;
            numbers = refl;
            next_is = refl;
          });
    })
    (record { call_is = refl; sent_is = refl; next_is = refl })

four : (size need offset : ℕ) → size ≡ min 262144 (need - offset) → need ≡ 4 → offset ≡ 0 → size ≡ 4
four size need offset e f g = omega (arith, e, f, g)

pub write_is : (cdb : List ℕ) (asked : Result Command CdbFault) → IsAskedBy (write_header cdb) asked → need_of asked ≡ 4
    → (r : R2tHeader) (e : List ℕ) → Lawful example (write cdb r e ∷ []) → (r ≡ the_r2t) × (e ≡ [])
write_is cdb asked is need r e l =
    let t : Turn = write cdb r e in
    let k = (l.collected [] t [] refl).0 in
    let q = k.right.each_r2t 0 r refl in
    let w = (l.windows [] t [] refl).0 in
    let x = (l.transfers [] t [] refl).0 in (
      λ i. record {
        lun = q.lun i;
        task_tag = q.tag i;
        transfer_tag = x.transfer i;
        numbers = same_numbers r.numbers 3 8 38 x.status w.expects w.reaches i;
        r2t_sn = q.number i;
        offset = q.place i;
        desired_length = four r.desired_length (need_of k.asked) r.offset q.size
            (ap need_of (is.only k.asked k.means) ∙ need) q.place i;
      },
      (l.carried [] t [] refl).0,
    )

-- its data is not answered without a call
pub not_turned_away : (cdb : List ℕ) (x : DataOutHeader) (d : List ℕ) (r : ResponseHeader)
    → Lawful example (write cdb the_r2t [] ∷ turned_away x d r ∷ []) → ⊥
not_turned_away cdb x d r l = let none = l.answered (write cdb the_r2t [] ∷ []) (turned_away x d r) [] refl in cc

-- ---- an end

pub leave_lawful : Lawful example (leave ∷ [])
leave_lawful =
    one_turn leave _ (after_status (after_number false (begun example))) _ refl (record { step_is = refl; next_is = refl })
    (record { call_is = refl; sent_is = refl; next_is = refl })

pub nothing_behind : (t : Turn) → Lawful example (leave ∷ t ∷ []) → ⊥
nothing_behind t l = let e = l.ends (leave ∷ []) t [] refl [] leave [] refl in cc

-- ---- a Reject

pub reject_lawful : (h : TargetHeader) (bhs : List ℕ)
    → Lawful example (reject h bhs (Refused 5) None (the_reject bhs) ∷ [])
reject_lawful h bhs =
    one_turn (reject h bhs (Refused 5) None (the_reject bhs)) _ (after_status (begun example)) _ refl
    (record { step_is = refl; next_is = refl }) (record { call_is = refl; sent_is = refl; next_is = refl })

pub reject_is : (h : TargetHeader) (bhs : List ℕ) (v : Verdict) (call : Option Asking) (outs : List Out)
    → Lawful example (reject h bhs v call outs ∷ [])
    → (v ≡ Refused 5) × (call ≡ None) × (outs ≡ the_reject bhs)
reject_is h bhs v call outs l =
    let judged : v ≡ Refused 5 = l.judged [] (reject h bhs v call outs) [] refl in
    let now = subst (λ (w : Verdict). Lawful example (reject h bhs w call outs ∷ [])) judged l in
    let k = now.kinds [] (reject h bhs (Refused 5) call outs) [] refl in
    let same = subst (λ (z : List Out). Lawful example (reject h bhs (Refused 5) call z ∷ [])) k.1 now in
    let w = (same.windows [] (reject h bhs (Refused 5) call _) [] refl).0 in (
      judged,
      now.called [] (reject h bhs (Refused 5) call outs) [] refl,
      k.1 ∙ ap (λ (n : Numbers). out (Reject (record { reason = 5; numbers = n })) bhs ∷ [])
          (same_numbers k.0 3 7 38 (same.numbered 0 k.0.stat_sn refl) w.expects w.reaches),
    )
