-- What one turn makes of session, target and sink.
use Rattle.std.specs.Prelude.{◌≡◌, ◌<◌}
use Rattle.session_rules.specs.Words.{ℕ, Bool, [], false, true, List, Option, Some, None, IfSome, MatchOption, kind_in}
use Rattle.session_rules.specs.Words.{SessionType}
use Rattle.session_rules.specs.{Asking.Asking, Setting.setting_of, Phases.Exchange, Phases.of_login, Phases.of_turn}
use Rattle.session_rules.specs.declared.{end.End.End, target_record.TargetRecord.TargetRecord, start.Start.Start}
use Rattle.session_rules.specs.declared.opening.Opening.{Opening, TheVariants.Login, TheVariants.FullFeature}
use Rattle.session_rules.specs.Turn.{Incoming, Turn, bytes_of, IsLed}
use Rattle.session_rules.specs.LoginPhase.{LoginTurn, LoginStanding, login_standing, login_after, IsLoginTurn, begins, IsStart}
use Rattle.session_full_feature.specs.{Counters.Counters, Counters.begun, MakesTurn.TurnOf}
use Rattle.session_stream.specs.Outbox.{OutboxValue, IsQueued}

-- ---- both phases

-- what stands behind the turns of a login that goes on; and the session, which waits for its end
pub record PhasesValue : Type 0 where
  pub login : Option LoginStanding
  pub counters : Counters

-- a session that begins so
abbrev pub OpensWith : ℕ → TargetRecord → Opening → PhasesValue → Type 0
OpensWith units me (Login tag) p =
    (p.login ≡ Some (login_standing me.target_name.now tag []))
    × (kind : SessionType) × (start : Start) × (p.counters ≡ begun (setting_of units me kind start))
OpensWith units me (FullFeature kind start) p =
    (p.login ≡ None) × (p.counters ≡ begun (setting_of units me kind start))
    × (start.exp_cmd_sn < 4294967296) × (start.stat_sn < 4294967296)

-- while the login goes on, nothing waits in full feature phase
abbrev pub IsFresh : PhasesValue → Type 0
IsFresh p = IfSome p.login (λ v. p.counters.standing.collecting ≡ [])

-- the login goes on; or full feature phase begins with what it came to
abbrev pub NextPhase : Bool → LoginStanding → PhasesValue → PhasesValue → Type 0
NextPhase false v p p' = p' ≡ record { login = Some v; counters = p.counters }
NextPhase true v p p' =
    (start : Start) × IsStart v start × (start.exp_cmd_sn < 4294967296) × (start.stat_sn < 4294967296)
    × (p' ≡ record {
      login = None;
      counters = begun (record (p.counters.setting) { kind = kind_in v.progress.kind; start = start });
    })

-- what one turn makes of both phases
pub record LoginExchange (v : LoginStanding) (p : PhasesValue) (came : Incoming) (e : Exchange)
    (p' : PhasesValue) : Type 0 where
  pub turn : LoginTurn
  pub came_is : turn.came ≡ came
  pub made : IsLoginTurn v turn
  pub exchange_is : e ≡ of_login turn
  pub next : NextPhase (begins turn.outcome) (login_after v came) p p'

pub record FeatureExchange (p : PhasesValue) (came : Incoming) (e : Exchange) (p' : PhasesValue) : Type 0 where
  pub turn : Turn
  pub made : TurnOf p.counters came turn p'.counters
  pub exchange_is : e ≡ of_turn turn
  pub next : p'.login ≡ None

abbrev pub ExchangeOf : PhasesValue → Incoming → Exchange → PhasesValue → Type 0
ExchangeOf p came e p' = MatchOption p.login (FeatureExchange p came e p') (λ v. LoginExchange v p came e p')

pub record MakesExchange {T : Type 0} (leads : T → Asking → T → Type 0)
    (p p' : PhasesValue) (target target' : T) (held held' : Option (List ℕ)) (before now : ℕ) (o o' : OutboxValue)
    (came : Incoming) (wanted : Option End) : Type 0 where
  pub exchange : Exchange
  pub made : ExchangeOf p came exchange p'
  pub led : IsLed leads exchange.call target target'
  pub queued : IsQueued held held' before now o o' (bytes_of exchange.sent)
  pub wanted_is : wanted ≡ exchange.end
