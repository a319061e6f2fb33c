-- What one turn of a login comes to.
use Rattle.std.proofs.Common.{Bool, ◌≡◌, ℕ, List, [], ◌∷◌, ◌++◌, Option, Some, None, refl, sym, ap, subst, subst₂, ◌∙◌, ◌+◌}
use Rattle.session_rules.specs.Words.{Port, LoginHeader, Progress, Ending, Finished, Stopped, after, kind_in, option_or, unwrap_or}
use Rattle.session_rules.specs.Words.{PduFault, Header, Numbers, Reject}
use Rattle.session_rules.specs.{Asking.Asking, Asking.began, Asking.lives, Handle.HasHandle, Standing.numbers_for, Turn.IsLed, Turn.pdu}
use Rattle.session_rules.specs.{Turn.faulty, Turn.Out, Turn.bytes_of, Verdict.reason_of, Window.wrap}
use Rattle.session_rules.specs.declared.login_outcome.LoginOutcome.{LoginOutcome, TheVariants.Rejected}
use Rattle.session_rules.specs.declared.target.BeginAnswer.{BeginAnswer}
use Rattle.session_rules.specs.LoginPhase.{flags_of, port_of, outcome_of_begin, outcome_of_lives, IsNegotiated, HasOutcome, LoginStanding}
use Rattle.session_rules.specs.LoginPhase.{progress_after, cmd_sn_in, login_numbers, login_outs}
use Rattle.session_stream.specs.{declared.pdus.Pdus.Pdus, Pdus.sent_by, Outbox.OutboxValue, Outbox.IsQueued}
use Rattle.session_login.specs.MakesLoginTurn.{IsResponseTextOf, MakesLoginTurn}
use Rattle.login.specs.declared.status.LoginRefusal.TheVariants as refusals

abbrev pub port_with : ℕ → List ℕ → Port
port_with isid name = record { name = name; isid = isid }

-- what a request comes to, with what the target is asked
module _ {T : Type 0} (leads : T → Asking → T → Type 0) (x y : T) (s : Progress) (p : LoginHeader) (d : List ℕ)
    (o : LoginOutcome) where
  abbrev Comes : Ending → Type 0
  Comes e = (call : Option Asking) × IsLed leads call x y × IsNegotiated s p d e call o

  pub accepted : (text : List ℕ) (e : Ending) (now : Progress) → Finished text ≡ e → now ≡ after s (flags_of p) d
      → (answer : BeginAnswer) × leads x (began (port_of p now.said) (kind_in now.kind) answer) y × HasHandle answer
      × (o ≡ outcome_of_begin answer)
      → Comes e
  accepted text e now is same k =
      let asked : leads x (began (port_of p (after s (flags_of p) d).said) (kind_in (after s (flags_of p) d).kind) k.0) y =
      subst (λ (z : Progress). leads x (began (port_of p z.said) (kind_in z.kind) k.0) y) same k.1 in
      subst Comes is (
        Some (began (port_of p (after s (flags_of p) d).said) (kind_in (after s (flags_of p) d).kind) k.0),
        asked,
        (k.0, refl, k.2, k.3),
      )

  pub named : (e : Ending) (port : Port) → Stopped refusals.NamesSession ≡ e → port ≡ port_of p (s.run_text ++ d)
      → (answer : Bool) × leads x (lives p.tsih port answer) y × (o ≡ outcome_of_lives answer) → Comes e
  named e port is same k =
      let asked : leads x (lives p.tsih (port_of p (s.run_text ++ d)) k.0) y =
      subst (λ (z : Port). leads x (lives p.tsih z k.0) y) same k.1 in
      subst Comes is (Some (lives p.tsih (port_of p (s.run_text ++ d)) k.0), asked, (k.0, refl, k.2))

-- ---- a turn of a login, of its steps

abbrev taken_by : LoginStanding → Option ℕ → LoginStanding
taken_by v m = record { progress = v.progress; first = option_or v.first m; stat_sn = wrap (v.stat_sn + 1) }

module _ {T : Type 0} (leads : T → Asking → T → Type 0) (v mid : LoginStanding) (x y : T)
    (held held' : Option (List ℕ)) (before now : ℕ) (o o' : OutboxValue) (bhs : List ℕ) (n : Numbers) (m : Option ℕ)
    (numbers : n ≡ numbers_for v.stat_sn (unwrap_or (option_or v.first m) 0) 0) (taken : mid ≡ taken_by v m) where
  -- of a PDU
  pub logged : (v' : LoginStanding) (h : Header) (d : List ℕ) (outcome : LoginOutcome) (text stands : List ℕ)
      (pdus : Pdus) → m ≡ cmd_sn_in (pdu bhs h d)
      → (call : Option Asking) × IsLed leads call x y × HasOutcome mid.progress (pdu bhs h d) call outcome
      → v' ≡ record mid { progress = progress_after mid.progress (pdu bhs h d) }
      → text ≡ stands → IsResponseTextOf mid.progress h d outcome stands
      → ((s : Progress) (b e : List ℕ) → IsResponseTextOf s h e outcome text → sent_by b pdus ≡ login_outs n s (pdu b h e) outcome)
      → IsQueued held held' before now o o' (bytes_of (sent_by bhs pdus))
      → MakesLoginTurn leads v v' x y held held' before now o o' (pdu bhs h d) outcome
  logged v' h d outcome text stands pdus cmd comes state same_text has_text outs queued =
      let same : mid.progress ≡ v.progress = ap (λ (w : LoginStanding). w.progress) taken in
      let number : n ≡ login_numbers v (pdu bhs h d) = numbers
      ∙ ap (λ (k : Option ℕ). numbers_for v.stat_sn (unwrap_or (option_or v.first k) 0) 0) cmd in
      let sends : sent_by bhs pdus ≡ login_outs (login_numbers v (pdu bhs h d)) v.progress (pdu bhs h d) outcome =
      outs v.progress bhs d (subst₂ (λ (s : Progress) (t : List ℕ). IsResponseTextOf s h d outcome t) same (sym same_text) has_text)
      ∙ ap (λ (k : Numbers). login_outs k v.progress (pdu bhs h d) outcome) number in
      record {
        turn = record {
          came = pdu bhs h d;
          call = comes.0;
          outcome = outcome;
          sent = login_outs (login_numbers v (pdu bhs h d)) v.progress (pdu bhs h d) outcome;
        };
        came_is = refl;
        outcome_is = refl;
        made = record {
          comes_to = subst (λ (s : Progress). HasOutcome s (pdu bhs h d) comes.0 outcome) same comes.2;
          answered = refl;
        };
        next = state ∙ ap (λ (w : LoginStanding). record w { progress = progress_after w.progress (pdu bhs h d) }) taken
            ∙ ap (λ (k : Option ℕ). record (taken_by v k) { progress = progress_after v.progress (pdu bhs h d) }) cmd;
        led = comes.1;
        queued = subst (λ (outs : List Out). IsQueued held held' before now o o' (bytes_of outs)) sends queued;
      }

  -- of a fault
  pub faulted : (f : PduFault) (reason : ℕ) → m ≡ None → reason ≡ reason_of f → y ≡ x
      → IsQueued held held' before now o o'
      (bytes_of (record { header = Reject (record { reason = reason; numbers = n }); bytes = bhs } ∷ []))
      → MakesLoginTurn leads v mid x y held held' before now o o' (faulty f bhs) (Rejected (reason_of f))
  faulted f reason none is same queued =
      let number : n ≡ login_numbers v (faulty f bhs) = numbers
      ∙ ap (λ (k : Option ℕ). numbers_for v.stat_sn (unwrap_or (option_or v.first k) 0) 0) none in
      record {
        turn = record {
          came = faulty f bhs;
          call = None;
          outcome = Rejected (reason_of f);
          sent = login_outs (login_numbers v (faulty f bhs)) v.progress (faulty f bhs) (Rejected (reason_of f));
        };
        came_is = refl;
        outcome_is = refl;
        made = record { comes_to = (refl, refl); answered = refl };
        next = taken ∙ ap (λ (k : Option ℕ). taken_by v k) none;
        led = same;
        queued = subst₂ (λ (k : Numbers) (r : ℕ). IsQueued held held' before now o o'
            (bytes_of (record { header = Reject (record { reason = r; numbers = k }); bytes = bhs } ∷ [])))
            number is queued;
      }
