-- What is known between two turns of a session, and how a turn, a read and an end carry it on.
use Rattle.std.proofs.Common.{if◌then◌else◌, Bool, true, false, ◌≡◌, ◌⊎◌, ℕ, ◌+◌, ◌<◌, ◌≤◌, List, [], ◌∷◌, ◌++◌, Option, Some, None, length}
use Rattle.std.proofs.Common.{take, drop, refl, sym, ap, subst, ◌∙◌, arith, inl, inr, append_assoc, length-append, length-take-le}
use Rattle.std.proofs.Common.{length-take}
use Rattle.std.proofs.lemmas.{List.append-nil, List.nil_from_length, List.take-append-drop, List.map-append, List.take-take}
use Rattle.std.proofs.lemmas.{List.Elements.filter_map-append, Grind.flat_map-append}
use Rattle.std.proofs.KnownBytes.{Appends-nil, Consumes-trans, Consumes-kept, Consumes-nil}
use Rattle.std.specs.Io.KnownBytes.{Keeps, Appends, Consumes, IsAtEnd}
use Rattle.session_rules.specs.Words.{cons_option, Initiator, Target, InitiatorHeader, LoginRequest, LogoutRequest, PduFault, BHS_LENGTH}
use Rattle.session_rules.specs.Words.{Numbers, Progress}
use Rattle.login.specs.{Status.code_of, declared.status.LoginStatus.LoginStatus}
use Rattle.iscsi_pdu.specs.declared.header.Pdu.{Pdu}
use Rattle.session_rules.specs.{Logout.closes as closes_session, Asking.Asking, Asking.served, Asking.reset, Legal.end_of_call}
use Rattle.session_rules.specs.{Legal.bhs_of, Legal.end_after, Legal.IsSentFor, LoginPhase.LoginStanding, LoginPhase.login_end}
use Rattle.session_rules.specs.LoginPhase.{LoginTurn, HasOutcome, IsLoginTurn, login_numbers, login_outs, out, refusal_of}
use Rattle.session_rules.specs.Causes.{status_of}
use Rattle.session_rules.specs.declared.{target.TargetAnswer.TheVariants.Gone, target_record.TargetRecord.TargetRecord, opening.Opening.Opening}
use Rattle.session_rules.specs.declared.{login_outcome.LoginOutcome.LoginOutcome}
use Rattle.session_rules.specs.declared.end.End.{End, TheVariants.EndOfInput, TheVariants.InputFailed, TheVariants.OutputFailed}
use Rattle.session_rules.specs.declared.end.End.TheVariants.{Rejected, Gap, LoginRefused, Reinstated, LoggedOut}
use Rattle.session_rules.specs.declared.verdict.Verdict.{Verdict, TheVariants.Accepted, TheVariants.Refused}
use Rattle.session_rules.specs.Turn.{Incoming, pdu, faulty, Out, bytes_of, Spells, Leads, IsLed}
use Rattle.session_rules.specs.Ends.{NoneWhole, StandsBehind, ToldByLoginResponse, TellsCause, EndsWith, most_bytes, EndsBy}
use Rattle.session_rules.specs.Phases.{Transcript, Exchange, exchanges, incoming, asked, outgoing, NoneEnds, IsLawful}
use Rattle.session_full_feature.specs.Counters.{Counters}
use Rattle.session_stream.specs.{declared.outbox.TheConstants.ENOUGH_TO_WRITE}
use Rattle.session_stream.specs.Source.{AppendsFrom, Rises}
use Rattle.session_stream.specs.Outbox.{OutboxValue, IsOut, IsAllOut, IsClosed, IsClosedAs}
use Rattle.session_stream.proofs.Queues.{took, all_out_at_last, broke}
use Rattle.session.specs.{Front.IsWhole, Front.IsFaulty, Inbox.Filled}
use Rattle.session.specs.Stream.{PhasesValue, ExchangeOf, MakesExchange}
use Rattle.session.specs.Transcript.{but_last, Written, IsPassed, IsFailureOf, HasPassed}
use Rattle.session.proofs.Facts.{made_facts}
use Rattle.session.proofs.Exchanges.{all_more, PhaseStands, lawful_now, one_more}
use Rattle.session_rules.specs.declared.target.ResetAnswer.TheVariants as resets
use Rattle.session_rules.specs.declared.login_outcome.LoginOutcome.TheVariants as outcomes
use Rattle.session_rules.specs.declared.verdict.Verdict.TheVariants as verdicts

-- ---- what was read, what the target was asked, and what went out

spells_append : (is js : List Incoming) (b c : List ℕ) → Spells is b → Spells js c → Spells (is ++ js) (b ++ c)
spells_append [] js b c k l = rw k l
spells_append (pdu bhs h d ∷ is) js b c k l = (
  k.0 ++ c,
  record {
    front = k.1.front;
    cut = ap (λ (z : List ℕ). z ++ c) k.1.cut ∙ append_assoc k.1.front k.0 c;
    is_pdu = k.1.is_pdu;
    bhs_is = k.1.bhs_is;
  },
  spells_append is js k.0 c k.2 l,
)
spells_append (faulty f bhs ∷ is) js b c k l = spells_append is js b c k l

led_more : {T : Type 0} (leads : T → Asking → T → Type 0) (cs : List Asking) (call : Option Asking) (x m y : T)
    → Leads leads cs x m → IsLed leads call m y → Leads leads (cs ++ cons_option call []) x y
led_more leads [] None x m y k l = l ∙ k
led_more {T} leads [] (Some c) x m y k l = (y, subst (λ (z : T). leads z c y) k l, refl)
led_more leads (c ∷ cs) call x m y k l = (k.0, k.1, led_more leads cs call k.0 m y k.2 l)

-- so many bytes are all that the turns before the last sent, but what may wait
abbrev pub Covers : ℕ → List Exchange → Type 0
Covers least es = length (bytes_of (outgoing (but_last es))) < least + ENOUGH_TO_WRITE

but_last_of : (es : List Exchange) (e : Exchange) → but_last (es ++ e ∷ []) ≡ es
but_last_of [] e = refl
but_last_of (x ∷ []) e = refl
but_last_of (x ∷ (y ∷ es)) e = ap (λ (z : List Exchange). x ∷ z) (but_last_of (y ∷ es) e)

-- ---- the end that a turn calls for

abbrev pub IsCalledFor : Option End → Type 0
IsCalledFor (Some EndOfInput) = ⊥
IsCalledFor (Some InputFailed) = ⊥
IsCalledFor (Some OutputFailed) = ⊥
IsCalledFor called = Unit {0}

ends_by_call : (call : Option Asking) → IsCalledFor (end_of_call call)
ends_by_call (Some (served unit asked bytes Gone)) = tt
ends_by_call (Some (served unit asked bytes answer)) = tt
ends_by_call (Some (reset unit resets.Gone)) = tt
ends_by_call (Some (reset unit answer)) = tt
ends_by_call call = tt

turn_ends_so : (v : Verdict) (came : Incoming) (call : Option Asking) → IsCalledFor (end_after v came call)
turn_ends_so Accepted (pdu b (Initiator (LogoutRequest p)) d) call =
    elim (closes_session p) as (λ closes. IsCalledFor (if closes then Some LoggedOut else None)) [ true ↦ tt | false ↦ tt ]
turn_ends_so Accepted came call = ends_by_call call
turn_ends_so v came call = tt

login_ends_so : (bhs : List ℕ) (o : LoginOutcome) → IsCalledFor (login_end bhs o)
login_ends_so bhs outcomes.GoesOn = tt
login_ends_so bhs o = tt

ends_so : (login : Option LoginStanding) (s : Counters) (came : Incoming) (e : Exchange) (p' : PhasesValue)
    → ExchangeOf (record { login = login; counters = s }) came e p' → IsCalledFor e.end
ends_so None s came e p' made = rw made.exchange_is (turn_ends_so made.turn.verdict made.turn.came made.turn.call)
ends_so (Some v) s came e p' made = rw made.exchange_is (login_ends_so (bhs_of made.turn.came) made.turn.outcome)

-- ---- what goes out with it tells its cause

call_tells : (call : Option Asking) (came : Incoming) (sent : List Out) → TellsCause (end_of_call call) came sent
call_tells (Some (served unit asked bytes Gone)) came sent = tt
call_tells (Some (served unit asked bytes answer)) came sent = tt
call_tells (Some (reset unit resets.Gone)) came sent = tt
call_tells (Some (reset unit answer)) came sent = tt
call_tells call came sent = tt

turn_tells : (v : Verdict) (came : Incoming) (call : Option Asking) (sent : List Out) → IsSentFor v came sent
    → TellsCause (end_after v came call) came sent
turn_tells Accepted (pdu b (Initiator (LogoutRequest p)) d) call sent k =
    elim (closes_session p) as (λ closes. TellsCause (if closes then Some LoggedOut else None)
    (pdu b (Initiator (LogoutRequest p)) d) sent) [ true ↦ tt | false ↦ tt ]
turn_tells Accepted came call sent k = call_tells call came sent
turn_tells verdicts.Gap came call sent k = k
turn_tells (Refused reason) came call sent k = record { numbers = k.0; sent_is = k.1; opcode_is = refl; tag_is = refl }
turn_tells v came call sent k = tt

refusal_tells : (n : Numbers) (h : InitiatorHeader) (status : LoginStatus)
    → ToldByLoginResponse (out (refusal_of n h status) []) (status_of (code_of status).class (code_of status).detail)
refusal_tells n (LoginRequest p) status = record { response = _; sent_is = refl; status_is = refl }
refusal_tells n h status = record { response = _; sent_is = refl; status_is = refl }

outcome_tells : (n : Numbers) (s : Progress) (came : Incoming) (call : Option Asking) (o : LoginOutcome)
    → HasOutcome s came call o → TellsCause (login_end (bhs_of came) o) came (login_outs n s came o)
outcome_tells n s came call outcomes.GoesOn k = tt
outcome_tells n s came call (outcomes.Begun tsih) k = tt
outcome_tells n s (pdu b (Initiator (LoginRequest p)) d) call (outcomes.Refused status) k = refusal_tells n (LoginRequest p) status
outcome_tells n s (pdu b (Initiator h) d) call (outcomes.Refused status) k = refusal_tells n h status
outcome_tells n s (pdu b (Target h) d) call (outcomes.Refused status) k = cc
outcome_tells n s (faulty f b) call (outcomes.Refused status) k = cc
outcome_tells n s (pdu b (Initiator (LoginRequest p)) d) call (outcomes.Rejected reason) k =
    record { numbers = n; sent_is = refl; opcode_is = refl; tag_is = refl }
outcome_tells n s (pdu b (Initiator h) d) call (outcomes.Rejected reason) k =
    record { numbers = n; sent_is = refl; opcode_is = refl; tag_is = refl }
outcome_tells n s came call (outcomes.Rejected reason) k =
    record { numbers = n; sent_is = refl; opcode_is = refl; tag_is = refl }

login_tells : (v : LoginStanding) (l : LoginTurn) → IsLoginTurn v l
    → TellsCause (login_end (bhs_of l.came) l.outcome) l.came l.sent
login_tells v l k = rw k.answered (outcome_tells (login_numbers v l.came) v.progress l.came l.call l.outcome k.comes_to)

tells_so : (login : Option LoginStanding) (s : Counters) (came : Incoming) (e : Exchange) (p' : PhasesValue)
    → ExchangeOf (record { login = login; counters = s }) came e p' → TellsCause e.end e.came e.sent
tells_so None s came e p' made =
    let t = made.turn in
    rw made.exchange_is (turn_tells t.verdict t.came t.call t.sent
    (made_facts t.came t.verdict s made.made.mid p'.counters made.made.step t.call t.sent
    (rw (← made.made.came_is) at made.made.judged) (rw (← made.made.came_is) at made.made.made)
    (rw (← made.made.came_is) at made.made.runs)).kinds)
tells_so (Some v) s came e p' made = rw made.exchange_is (login_tells v made.turn made.made)

-- no turn calls for an end, or the last alone does
abbrev pub HowItEnds : Option End → List Exchange → List ℕ → Type 0
HowItEnds None es rest = NoneEnds es
HowItEnds (Some end) es rest = IsCalledFor (Some end) × EndsWith es rest (Some end)

ends_more : (wanted : Option End) (es : List Exchange) (e : Exchange) (rest : List ℕ) → NoneEnds es
    → StandsBehind e.came rest → wanted ≡ e.end → IsCalledFor e.end → TellsCause e.end e.came e.sent
    → HowItEnds wanted (es ++ e ∷ []) rest
ends_more None es e rest none stands is called told = all_more (λ (x : Exchange). x.end ≡ None) es e none (sym is)
ends_more (Some end) es e rest none stands is called told = (
  subst IsCalledFor (sym is) called,
  record {
    front = es;
    last = e;
    whole = refl;
    goes_on = none;
    stands = stands;
    ends = sym is;
    told = subst (λ (z : Option End). TellsCause z e.came e.sent) (sym is) told;
  },
)

ends_by : (end : End) (es : List Exchange) (rest : List ℕ) (taken : ℕ) (at_end : Type 0) → HowItEnds (Some end) es rest
    → EndsBy es rest taken at_end end
ends_by (Rejected reason opcode tag) es rest taken at_end k = k.1
ends_by Gap es rest taken at_end k = k.1
ends_by (LoginRefused status) es rest taken at_end k = k.1
ends_by Reinstated es rest taken at_end k = k.1
ends_by LoggedOut es rest taken at_end k = k.1
ends_by end es rest taken at_end k = absurd k.0

cut_by : (wanted : Option End) (es : List Exchange) (rest : List ℕ) → HowItEnds wanted es rest
    → NoneEnds es ⊎ ((end : Option End) × EndsWith es rest end)
cut_by None es rest k = inl k
cut_by (Some end) es rest k = inr (Some end, k.1)

written_all : (end : End) (held held' : Option (List ℕ)) (es : List Exchange) → (end ≡ OutputFailed → ⊥)
    → Appends held held' (bytes_of (outgoing es)) → Written end held held' es
written_all OutputFailed held held' es other k = absurd (other refl)
written_all end held held' es other k = k

failed_not : {cause end : End} {before now : ℕ} → (end ≡ cause → ⊥) → now ≡ before → IsFailureOf cause before now end
failed_not other same = record { rises = λ e. absurd (other e); stays = λ _. same }

failed_so : {cause : End} {before now : ℕ} → Rises before now → IsFailureOf cause before now cause
failed_so up = record { rises = λ _. up; stays = λ other. absurd (other refl) }

-- ---- what is known behind some turns, the last of which calls for this end, or none

pub record Running {T : Type 0} (leads : T → Asking → T → Type 0) (units : ℕ) (me : TargetRecord) (opening : Opening)
    (left left' held held' : Option (List ℕ)) (before now : ℕ) (o : OutboxValue) (x x' : T) (p : PhasesValue)
    (waiting : List ℕ) (reads : ℕ) (wanted : Option End) : Type 0 where
  pub transcript : Transcript
  pub lawful : IsLawful units me opening transcript
  pub stands : wanted ≡ None → PhaseStands units me opening transcript p.login p.counters
  pub es : List Exchange
  pub es_are : exchanges transcript ≡ es
  pub spelled : List ℕ
  pub ends : HowItEnds wanted es waiting
  pub spells : Spells (incoming es) spelled
  pub read : Consumes left left' (spelled ++ waiting)
  pub least : ℕ
  pub written : IsOut held held' before now o least (bytes_of (outgoing es))
  pub covers : Covers least es
  pub led : Leads leads (asked es) x x'
  pub many : reads ≤ length spelled + length waiting

pub starts : {T : Type 0} (leads : T → Asking → T → Type 0) (units : ℕ) (me : TargetRecord) (opening : Opening)
    (left held : Option (List ℕ)) (n : ℕ) (o : OutboxValue) (x : T) (p : PhasesValue) (waiting : List ℕ)
    → PhaseStands units me opening (record { logins = []; turns = [] }) p.login p.counters
    → o ≡ record { waiting = []; failed = false } → waiting ≡ []
    → Running leads units me opening left left held held n n o x x p waiting 0 None
starts leads units me opening left held n o x p waiting stands o_is empty = rw (o_is, empty) (record {
  transcript = record { logins = []; turns = [] };
  lawful = lawful_now units me opening (record { logins = []; turns = [] }) p.login p.counters stands;
  stands = λ _. stands;
  es = [];
  es_are = refl;
  spelled = [];
  ends = tt;
  spells = refl;
  read = Consumes-nil left;
  least = 0;
  written = (refl, [], Appends-nil held, refl, omega arith);
  covers = omega arith;
  led = refl;
  many = omega arith;
})

module _ {T : Type 0} {leads : T → Asking → T → Type 0} {units : ℕ} {me : TargetRecord} {opening : Opening}
    {left left' held held' : Option (List ℕ)} {before now : ℕ} {o : OutboxValue} {x x' : T} {p : PhasesValue}
    {waiting : List ℕ} {reads : ℕ} {wanted : Option End}
    (r : Running leads units me opening left left' held held' before now o x x' p waiting reads wanted) where
  -- the session ends, with all written, or at a sink that failed
  passed : (held'' : Option (List ℕ)) (end : End)
      → EndsBy r.es waiting (length r.spelled + length waiting) (IsAtEnd left') end
      → Written end held held'' r.es → IsPassed leads units me opening left left' held held'' x x' end
  passed held'' end ends written = record {
    transcript = r.transcript;
    spelled = r.spelled;
    rest = waiting;
    lawful = r.lawful;
    ends = rw r.es_are ends;
    spells = rw r.es_are r.spells;
    read = r.read;
    written = rw r.es_are written;
    led = rw r.es_are r.led;
  }

  module _ (held'' : Option (List ℕ)) (now' first here : ℕ) where
    abbrev Over : End → Type 0
    Over end = HasPassed leads units me opening left left' held held'' first here before now' x x' end

    all_out : (end : End) → (end ≡ OutputFailed → ⊥) → IsFailureOf InputFailed first here end
        → EndsBy r.es waiting (length r.spelled + length waiting) (IsAtEnd left') end
        → Appends held held'' (bytes_of (outgoing r.es)) → now' ≡ before → Over end
    all_out end other input ends all same = record {
      passed = passed held'' end ends (written_all end held held'' r.es other all);
      input_failed = input;
      output_failed = failed_not other same;
    }

    cut_off : here ≡ first → AppendsFrom held held'' r.least (bytes_of (outgoing r.es)) → Rises before now'
        → Over OutputFailed
    cut_off same k up = record {
      passed = passed held'' OutputFailed (cut_by wanted r.es waiting r.ends)
          (record { taken = k.0; within = k.2; went_out = k.3; not_before = omega (arith, r.covers, k.1) });
      input_failed = failed_not (λ e. cc) same;
      output_failed = failed_so up;
    }

    closes : (end result : End) → (end ≡ InputFailed → ⊥) → (end ≡ OutputFailed → ⊥)
        → EndsBy r.es waiting (length r.spelled + length waiting) (IsAtEnd left') end → here ≡ first
        → IsClosed held held'' before now' r.least (bytes_of (outgoing r.es)) end result → Over result
    closes end result in_not out_not ends same (inl w) = rw w.0 (all_out end out_not (failed_not in_not same) ends w.1 w.2)
    closes end result in_not out_not ends same (inr w) = rw w.0 (cut_off same w.1 w.2)

    pub turn_ends : (end result : End) → wanted ≡ Some end → here ≡ first → IsClosedAs held' held'' now now' o end result
        → Over result
    turn_ends end result is same close =
        let k = subst (λ (w : Option End). HowItEnds w r.es waiting) is r.ends in
        closes end result (λ e. subst (λ (z : End). IsCalledFor (Some z)) e k.0)
        (λ e. subst (λ (z : End). IsCalledFor (Some z)) e k.0) (ends_by end r.es waiting _ _ k) same
        (close held before r.least (bytes_of (outgoing r.es)) r.written)

  pub sink_failed : (first here : ℕ) → o.failed ≡ true → here ≡ first → Over held' now first here OutputFailed
  sink_failed first here failed same =
      let b = broke held held' before now o.waiting r.least (bytes_of (outgoing r.es)) o.failed failed r.written in
      cut_off held' now first here same b.0 b.1

module _ {T : Type 0} {leads : T → Asking → T → Type 0} {units : ℕ} {me : TargetRecord} {opening : Opening}
    {left left' held held' : Option (List ℕ)} {before now : ℕ} {o : OutboxValue} {x x' : T} {p : PhasesValue}
    {waiting : List ℕ} {reads : ℕ}
    (r : Running leads units me opening left left' held held' before now o x x' p waiting reads None) where
  -- a turn: what came stands in front of what waited
  turned : {held'' : Option (List ℕ)} {now' : ℕ} {o' : OutboxValue} {x'' : T} {p' : PhasesValue} {came : Incoming}
      {wanted : Option End} → o.failed ≡ false → length o.waiting < ENOUGH_TO_WRITE
      → MakesExchange leads p p' x' x'' held' held'' now now' o o' came wanted
      → (front rest : List ℕ) → waiting ≡ front ++ rest → Spells (came ∷ []) front → StandsBehind came rest
      → Running leads units me opening left left' held held'' before now' o' x x'' p' rest reads wanted
  turned {p' = p'} {came} {wanted} serves few t front rest cut spells stands =
      let more = one_more units me opening r.transcript came t.exchange p.login p.counters p' (r.stands refl) t.made in
      let gone = took held held' before now o.waiting r.least (bytes_of (outgoing r.es)) o.failed serves r.written in
      record {
        transcript = more.transcript;
        lawful = more.lawful;
        stands = λ none. more.stands (sym t.wanted_is ∙ none);
        es = r.es ++ t.exchange ∷ [];
        es_are = more.exchanges_are ∙ ap (λ (z : List Exchange). z ++ t.exchange ∷ []) r.es_are;
        spelled = r.spelled ++ front;
        ends = ends_more wanted r.es t.exchange rest r.ends (rw more.came_is stands) t.wanted_is
            (ends_so p.login p.counters came t.exchange p' t.made) (tells_so p.login p.counters came t.exchange p' t.made);
        spells = rw (map-append, more.came_is)
            (spells_append (incoming r.es) (came ∷ []) r.spelled front r.spells spells);
        read = rw (append_assoc, ← cut) r.read;
        least = gone.0;
        written = simp (flat_map-append, append-nil) (t.queued held before gone.0 (bytes_of (outgoing r.es)) gone.1);
        covers = rw (but_last_of r.es t.exchange) (omega (arith, gone.2, few));
        led = rw filter_map-append (led_more leads (asked r.es) t.exchange.call x x' _ r.led t.led);
        many = omega (arith, r.many, length-append r.spelled front, ap length cut, length-append front rest);
      }

  pub pdu_came : {held'' : Option (List ℕ)} {now' : ℕ} {o' : OutboxValue} {x'' : T} {p' : PhasesValue}
      {wanted : Option End} {b bhs : List ℕ} {q : Pdu} {n : ℕ} → o.failed ≡ false → length o.waiting < ENOUGH_TO_WRITE
      → b ≡ waiting → IsWhole b bhs q n
      → MakesExchange leads p p' x' x'' held' held'' now now' o o' (pdu bhs q.header q.«data».now) wanted
      → Running leads units me opening left left' held held'' before now' o' x x'' p' (drop n waiting) reads wanted
  pdu_came {b = b} {n = n} serves few same w t =
      let front : take n b ≡ take n waiting = ap (take n) same in
      turned serves few t (take n waiting) (drop n waiting) (sym (take-append-drop n waiting)) (
        [],
        record {
          front = take n waiting;
          cut = sym (append-nil (take n waiting));
          is_pdu = rw (← front) w.spelled;
          bhs_is = rw (← front) (take-take BHS_LENGTH n b (omega (arith, w.spelled.long, length-take-le n b w.within)) ∙ sym w.bhs_is);
        },
        refl,
      ) tt

  pub fault_came : {held'' : Option (List ℕ)} {now' : ℕ} {o' : OutboxValue} {x'' : T} {p' : PhasesValue}
      {wanted : Option End} {b bhs : List ℕ} {f : PduFault} → o.failed ≡ false → length o.waiting < ENOUGH_TO_WRITE
      → b ≡ waiting → IsFaulty b bhs f
      → MakesExchange leads p p' x' x'' held' held'' now now' o o' (faulty f bhs) wanted
      → Running leads units me opening left left' held held'' before now' o' x x'' p' waiting reads wanted
  fault_came {b = b} serves few same w t =
      turned serves few t [] waiting refl refl
      (rw (← same) (w.stands, omega (arith, ap length w.bhs_is, w.long, length-take BHS_LENGTH b), w.bhs_is))

  -- what waits is written; more came, or the input is at its end
  stays : {left'' held'' : Option (List ℕ)} {now' : ℕ} {o' : OutboxValue} {waiting' : List ℕ} (reads' : ℕ)
      → Consumes left left'' (r.spelled ++ waiting')
      → IsOut held held'' before now' o' r.least (bytes_of (outgoing r.es))
      → reads' ≤ length r.spelled + length waiting'
      → Running leads units me opening left left'' held held'' before now' o' x x' p waiting' reads' None
  stays reads' read written many = record {
    transcript = r.transcript;
    lawful = r.lawful;
    stands = r.stands;
    es = r.es;
    es_are = r.es_are;
    spelled = r.spelled;
    ends = r.ends;
    spells = r.spells;
    read = read;
    least = r.least;
    written = written;
    covers = r.covers;
    led = r.led;
    many = many;
  }

  pub flushed : (held'' : Option (List ℕ)) (now' : ℕ) (o' : OutboxValue) → IsAllOut held' held'' now now' o o'
      → Running leads units me opening left left' held held'' before now' o' x x' p waiting reads None
  flushed held'' now' o' w = stays reads r.read (w held before r.least (bytes_of (outgoing r.es)) r.written) r.many

  pub more_came : {left'' : Option (List ℕ)} {waiting' : List ℕ} {n : ℕ} → Filled left' left'' waiting waiting' n
      → (reads' : ℕ) → reads' ≤ reads + n
      → Running leads units me opening left left'' held held' before now o x x' p waiting' reads' None
  more_came f reads' less = stays reads' (rw (f.grown, ← append_assoc) (Consumes-trans _ _ _ _ _ r.read f.read)) r.written
      (omega (arith, r.many, ap length f.grown, length-append waiting f.more, f.count, less))

  -- an end that no turn calls for
  module _ (first here : ℕ) where
    module _ (empty : o.waiting ≡ []) (serves : o.failed ≡ false) (left'' : Option (List ℕ)) (none : NoneWhole waiting) where
      ends_here : (end : End) → (end ≡ OutputFailed → ⊥) → IsFailureOf InputFailed first here end
          → Consumes left left'' (r.spelled ++ waiting)
          → EndsBy r.es waiting (length r.spelled + length waiting) (IsAtEnd left'') end
          → HasPassed leads units me opening left left'' held held' first here before now x x' end
      unfolding stays
      ends_here end other input read ends =
          let w = all_out_at_last held held' before now o.waiting r.least (bytes_of (outgoing r.es)) o.failed empty serves r.written in
          all_out (stays reads read r.written r.many) held' now first here end other input ends w.0 w.1

      pub input_ended : {waiting' : List ℕ} {n : ℕ} → Filled left' left'' waiting waiting' n → n ≡ 0 → here ≡ first
          → HasPassed leads units me opening left left'' held held' first here before now x x' EndOfInput
      input_ended f nothing same =
          let no_more : f.more ≡ [] = nil_from_length f.more (f.count ∙ nothing) in
          ends_here EndOfInput (λ e. cc) (failed_not (λ e. cc) same)
          (rw (no_more, append-nil) at (Consumes-trans _ _ _ _ _ r.read f.read)) (r.ends, inl (f.end nothing, none))

      pub input_failed : Keeps left' left'' → Rises first here
          → HasPassed leads units me opening left left'' held held' first here before now x x' InputFailed
      input_failed kept up = ends_here InputFailed (λ e. cc) (failed_so up) (Consumes-kept _ _ _ _ r.read kept) (r.ends, none)

    pub taken_all : (held'' : Option (List ℕ)) (now' : ℕ) (result : End) → most_bytes ≤ reads → here ≡ first
        → IsClosedAs held' held'' now now' o EndOfInput result → Over r held'' now' first here result
    taken_all held'' now' result many same close =
        closes r held'' now' first here EndOfInput result (λ e. cc) (λ e. cc)
        (r.ends, inr (omega (arith, many, r.many))) same
        (close held before r.least (bytes_of (outgoing r.es)) r.written)
