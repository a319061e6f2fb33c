-- One turn more of a whole session, in its login or behind it.
use Rattle.std.proofs.Common.{Bool, true, false, ◌≡◌, ℕ, ◌+◌, List, [], ◌∷◌, ◌++◌, Option, Some, None, length, map, refl, ap, ◌∙◌, arith}
use Rattle.std.proofs.Common.{inl, inr, append_assoc, length-append, sym, ◌<◌}
use Rattle.std.proofs.lemmas.List.{append-nil, map-append}
use Rattle.session_rules.specs.Words.{AllByRecursion, option_or, Progress, beginning, kind_in, SessionType}
use Rattle.session_rules.specs.{Asking.Asking, Setting.Setting, Setting.setting_of, Turn.Incoming, Turn.Turn, Window.wrap}
use Rattle.session_rules.specs.declared.{end.End.End, target_record.TargetRecord.TargetRecord, login_outcome.LoginOutcome.LoginOutcome}
use Rattle.session_rules.specs.declared.{start.Start.Start}
use Rattle.session_rules.specs.declared.opening.Opening.{Opening, TheVariants.Login, TheVariants.FullFeature}
use Rattle.session_rules.specs.Legal.{bhs_of, end_after, GoesOn, Lawful}
use Rattle.session_rules.specs.LoginPhase.{LoginTurn, LoginStanding, progress_after, progress_behind, cmd_sn_in, first_cmd_sn}
use Rattle.session_rules.specs.LoginPhase.{login_standing, login_after, IsLoginTurn, login_end, begins, IsStart}
use Rattle.session_rules.specs.Phases.{Transcript, Exchange, of_login, exchanges, NoneEnds, NoneBegins, IsLogin, IsLawful, of_turn}
use Rattle.session_rules.proofs.AtEach.{all_append, at_each_more, at_each_none, at_each_of_more, at_each_of_none}
use Rattle.session_stream.specs.Outbox.{OutboxValue}
use Rattle.session_login.specs.MakesLoginTurn.{MakesLoginTurn}
use Rattle.session_full_feature.specs.{Counters.Counters, Counters.begun, MakesTurn.MakesTurn}
use Rattle.session.proofs.Lawful.{Stands, stands_more, stands_none}
use Rattle.session.specs.Stream.{PhasesValue, NextPhase, ExchangeOf, OpensWith, IsFresh, MakesExchange}

pub all_more : {A : Type 0} (P : A → Type 0) (xs : List A) (x : A) → AllByRecursion P xs → P x
    → AllByRecursion P (xs ++ x ∷ [])
all_more P xs x k here = all_append P xs (x ∷ []) k (here, tt)

-- ---- what one turn of either phase comes to

abbrev phases_of : Option LoginStanding → Counters → PhasesValue
phases_of login s = record { login = login; counters = s }

module _ {T : Type 0} {leads : T → Asking → T → Type 0} {x y : T} {held held' : Option (List ℕ)} {before now : ℕ}
    {o o' : OutboxValue} {came : Incoming} {wanted : Option End} where
  pub by_turn : {login : Option LoginStanding} {s s' : Counters} → login ≡ None
      → MakesTurn leads s s' x y held held' before now o o' came wanted
      → MakesExchange leads (phases_of login s) (phases_of login s') x y held held' before now o o' came wanted
  by_turn is k = rw is (record {
    exchange = of_turn k.turn;
    made = record { turn = k.turn; made = k.made; exchange_is = refl; next = refl };
    led = k.led;
    queued = k.queued;
    wanted_is = k.wanted_is;
  })

  module _ {v v' : LoginStanding} {s : Counters} {p' : PhasesValue} {outcome : LoginOutcome}
      (k : MakesLoginTurn leads v v' x y held held' before now o o' came outcome) (is : wanted ≡ login_end (bhs_of came) outcome) where
    pub by_login : (b : Bool) → begins outcome ≡ b → NextPhase b v' (phases_of (Some v) s) p'
        → MakesExchange leads (phases_of (Some v) s) p' x y held held' before now o o' came wanted
    by_login b begin next = record {
      exchange = of_login k.turn;
      made = record {
        turn = k.turn;
        came_is = k.came_is;
        made = k.made;
        exchange_is = refl;
        next = rw (k.outcome_is, begin, ← k.next) next;
      };
      led = k.led;
      queued = k.queued;
      wanted_is = rw (k.came_is, k.outcome_is) is;
    }

    -- the session begins; while it logged in, nothing waited
    pub begins_now : {login : Option LoginStanding} {p : PhasesValue} {start : Start} {kind : SessionType} {s' : Counters}
        → phases_of login s ≡ p → login ≡ Some v → IsFresh p → begins outcome ≡ true → IsStart v' start
        → start.exp_cmd_sn < 4294967296 → start.stat_sn < 4294967296 → kind ≡ kind_in v'.progress.kind
        → (s.standing.collecting ≡ [] → s' ≡ begun (record (s.setting) { kind = kind; start = start })) → p' ≡ phases_of None s'
        → MakesExchange leads (phases_of (Some v) s) p' x y held held' before now o o' came wanted
    begins_now {login} {p} {start} {kind} {s'} same some fresh begin behind cmd stat kind_is next here =
        let none = rw (← same, some) at fresh in
        by_login true begin (start, behind, cmd, stat, rw (← kind_is) (here ∙ ap (phases_of None) (next none)))

-- ---- what stands behind one turn of a login more

progress_more : (s : Progress) (ls : List LoginTurn) (l : LoginTurn)
    → progress_behind s (ls ++ l ∷ []) ≡ progress_after (progress_behind s ls) l.came
progress_more s [] l = refl
progress_more s (k ∷ ls) l = progress_more (progress_after s k.came) ls l

first_more : (ls : List LoginTurn) (l : LoginTurn)
    → first_cmd_sn (ls ++ l ∷ []) ≡ option_or (first_cmd_sn ls) (cmd_sn_in l.came)
first_more [] l = elim (cmd_sn_in l.came) as (λ a. option_or a None ≡ a) [ None ↦ refl | Some n ↦ refl ]
first_more (k ∷ ls) l = rw (first_more ls l) (elim (cmd_sn_in k.came) as (λ a. option_or a
    (option_or (first_cmd_sn ls) (cmd_sn_in l.came)) ≡ option_or (option_or a (first_cmd_sn ls)) (cmd_sn_in l.came)) [
      | None ↦ refl
      | Some n ↦ refl
    ])

stat_more : (ls : List LoginTurn) (l : LoginTurn) → wrap (wrap (1 + length ls) + 1) ≡ wrap (1 + length (ls ++ l ∷ []))
stat_more ls l = omega (arith, length-append ls (l ∷ []))

login_more : (target : List ℕ) (tag : ℕ) (ls : List LoginTurn) (l : LoginTurn)
    → login_after (login_standing target tag ls) l.came ≡ login_standing target tag (ls ++ l ∷ [])
login_more target tag ls l = rw (progress_more (beginning target tag) ls l, first_more ls l, stat_more ls l) refl

-- ---- what is known between two turns

-- a login that goes on, of a session for which full feature phase waits
pub record LogsIn (units : ℕ) (me : TargetRecord) (tag : ℕ) (c : Transcript) (v : LoginStanding) (s : Counters) : Type 0 where
  pub is_login : IsLogin me.target_name.now tag c.logins
  pub none_begins : NoneBegins c.logins
  pub none_ends : NoneEnds (map of_login c.logins)
  pub no_turns : c.turns ≡ []
  pub standing_is : v ≡ login_standing me.target_name.now tag c.logins
  pub kind : SessionType
  pub start : Start
  pub waits : s ≡ begun (setting_of units me kind start)

-- full feature phase, with this setting behind its login
pub record Serves (units : ℕ) (me : TargetRecord) (opening : Opening) (c : Transcript) (s : Counters) : Type 0 where
  pub setting : Setting
  pub behind : (ts : List Turn) → Lawful setting ts → IsLawful units me opening (record { logins = c.logins; turns = ts })
  pub stands : Stands setting c.turns s
  pub goes_on : GoesOn c.turns

abbrev pub PhaseStands : ℕ → TargetRecord → Opening → Transcript → Option LoginStanding → Counters → Type 0
PhaseStands units me opening c None s = Serves units me opening c s
PhaseStands units me (Login tag) c (Some v) s = LogsIn units me tag c v s
PhaseStands units me (FullFeature kind start) c (Some v) s = ⊥

pub lawful_now : (units : ℕ) (me : TargetRecord) (opening : Opening) (c : Transcript)
    (login : Option LoginStanding) (s : Counters) → PhaseStands units me opening c login s → IsLawful units me opening c
lawful_now units me opening c None s k = k.behind c.turns k.stands.lawful
lawful_now units me (Login tag) c (Some v) s k = (k.is_login, inl k.no_turns)
lawful_now units me (FullFeature kind start) c (Some v) s k = absurd k

-- nothing waits while it logs in
fresh_next : (b : Bool) (v : LoginStanding) (p p' : PhasesValue) → p.counters.standing.collecting ≡ []
    → NextPhase b v p p' → IsFresh p'
fresh_next false v p p' k next = rw next k
fresh_next true v p p' k next = rw next.4 tt

pub fresh_more : (login : Option LoginStanding) (s : Counters) (came : Incoming) (e : Exchange) (p' : PhasesValue)
    → IsFresh (record { login = login; counters = s })
    → ExchangeOf (record { login = login; counters = s }) came e p' → IsFresh p'
fresh_more None s came e p' k made = rw made.next tt
fresh_more (Some v) s came e p' k made = fresh_next (begins made.turn.outcome) (login_after v came) _ p' k made.next

-- ---- one turn more

pub record More (units : ℕ) (me : TargetRecord) (opening : Opening) (c : Transcript) (came : Incoming) (e : Exchange)
    (p' : PhasesValue) : Type 0 where
  pub transcript : Transcript
  pub exchanges_are : exchanges transcript ≡ exchanges c ++ e ∷ []
  pub lawful : IsLawful units me opening transcript
  pub stands : e.end ≡ None → PhaseStands units me opening transcript p'.login p'.counters
  pub came_is : e.came ≡ came

-- of a login
module _ (units : ℕ) (me : TargetRecord) (tag : ℕ) (c : Transcript) (v : LoginStanding) (s : Counters)
    (k : LogsIn units me tag c v s) (came : Incoming) (l : LoginTurn) (came_is : l.came ≡ came)
    (made : IsLoginTurn v l) where
  abbrev logged : Transcript
  logged = record { logins = c.logins ++ l ∷ []; turns = [] }

  login_now : IsLogin me.target_name.now tag logged.logins
  login_now = record {
    turns = at_each_of_more _ c.logins l k.is_login.turns (rw k.standing_is at made);
    none_begun = at_each_of_more _ c.logins l k.is_login.none_begun k.none_begins;
    ends = at_each_of_more _ c.logins l k.is_login.ends k.none_ends;
  }

  standing_now : login_after v came ≡ login_standing me.target_name.now tag logged.logins
  standing_now = rw (k.standing_is, ← came_is) (login_more me.target_name.now tag c.logins l)

  by_next : (p' : PhasesValue) (b : Bool) → begins l.outcome ≡ b
      → NextPhase b (login_after v came) (record { login = Some v; counters = s }) p'
      → login_end (bhs_of l.came) l.outcome ≡ None → PhaseStands units me (Login tag) logged p'.login p'.counters
  by_next p' false is next on = rw next (record {
    is_login = login_now;
    none_begins = all_more (λ (u : LoginTurn). begins u.outcome ≡ false) c.logins l k.none_begins is;
    none_ends = rw map-append (all_more (λ (x : Exchange). x.end ≡ None) (map of_login c.logins) (of_login l) k.none_ends on);
    no_turns = refl;
    standing_is = standing_now;
    kind = k.kind;
    start = k.start;
    waits = k.waits;
  })
  by_next p' true is next on =
      let kind : SessionType = kind_in (login_after v came).progress.kind in
      rw next.4 (record {
        setting = setting_of units me kind next.0;
        behind = λ ts lawful. (
          login_now,
          inr (
            kind,
            next.0,
            record {
              began = record { front = c.logins; last = l; whole = refl; begun = is };
              kind_is = ap (λ (w : LoginStanding). kind_in w.progress.kind) standing_now;
              start_is = rw standing_now at next.1;
            },
            lawful,
          ),
        );
        stands = stands_none (setting_of units me kind next.0) _ next.2 next.3 (rw k.waits refl);
        goes_on = at_each_none (λ _ u. end_after u.verdict u.came u.call ≡ None);
      })

  logged_more : (e : Exchange) (p' : PhasesValue) → e ≡ of_login l
      → NextPhase (begins l.outcome) (login_after v came) (record { login = Some v; counters = s }) p'
      → More units me (Login tag) c came e p'
  logged_more e p' is next = rw is (record {
    transcript = logged;
    exchanges_are = rw (k.no_turns, append-nil, append-nil, map-append) refl;
    lawful = (login_now, inl refl);
    stands = by_next p' (begins l.outcome) refl next;
    came_is = came_is;
  })

-- of either phase
pub one_more : (units : ℕ) (me : TargetRecord) (opening : Opening) (c : Transcript) (came : Incoming) (e : Exchange)
    (login : Option LoginStanding) (s : Counters) (p' : PhasesValue) → PhaseStands units me opening c login s
    → ExchangeOf (record { login = login; counters = s }) came e p' → More units me opening c came e p'
one_more units me opening c came e None s p' k made =
    let now = stands_more k.setting c.turns made.turn came s p'.counters k.stands k.goes_on made.made in
    record {
      transcript = record { logins = c.logins; turns = c.turns ++ made.turn ∷ [] };
      exchanges_are = rw (made.exchange_is, map-append, append_assoc) refl;
      lawful = k.behind (c.turns ++ made.turn ∷ []) now.lawful;
      stands = λ on. rw made.next (record {
        setting = k.setting;
        behind = k.behind;
        stands = now;
        goes_on = at_each_more (λ _ u. end_after u.verdict u.came u.call ≡ None) c.turns made.turn k.goes_on
            (rw made.exchange_is at on);
      });
      came_is = rw made.exchange_is made.made.came_is;
    }
one_more units me (Login tag) c came e (Some v) s p' k made =
    logged_more units me tag c v s k came made.turn made.came_is made.made e p' made.exchange_is made.next
one_more units me (FullFeature kind start) c came e (Some v) s p' k made = absurd k

-- before anything came
pub stands_opened : (units : ℕ) (me : TargetRecord) (opening : Opening) (p : PhasesValue) → OpensWith units me opening p
    → PhaseStands units me opening (record { logins = []; turns = [] }) p.login p.counters
stands_opened units me (Login tag) p k = rw k.0 (record {
  is_login = record {
    turns = at_each_of_none _;
    none_begun = at_each_of_none _;
    ends = at_each_of_none _;
  };
  none_begins = tt;
  none_ends = tt;
  no_turns = refl;
  standing_is = refl;
  kind = k.1;
  start = k.2;
  waits = k.3;
})
stands_opened units me (FullFeature kind start) p k = rw k.0 (record {
  setting = setting_of units me kind start;
  behind = λ ts lawful. (refl, lawful);
  stands = stands_none (setting_of units me kind start) p.counters k.2 k.3 k.1;
  goes_on = at_each_none (λ _ u. end_after u.verdict u.came u.call ≡ None);
})
