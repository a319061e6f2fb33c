-- One turn of a login: what came, what it comes to, what the target is asked, and what goes out.
use Rattle.std.specs.Prelude.{◌≡◌}
use Rattle.session_rules.specs.Words.{ℕ, List, Option, Header, Initiator, LoginRequest, Progress, Ending, answer_to}
use Rattle.session_rules.specs.{Asking.Asking, Turn.Incoming, Turn.bytes_of, Turn.IsLed}
use Rattle.session_rules.specs.declared.login_outcome.LoginOutcome.{LoginOutcome}
use Rattle.session_rules.specs.declared.login_outcome.LoginOutcome.TheVariants.{GoesOn, Begun, Refused, Rejected}
use Rattle.session_rules.specs.LoginPhase.{flags_of, ending_text, LoginTurn, LoginStanding, login_after, IsLoginTurn}
use Rattle.session_stream.specs.Outbox.{OutboxValue, IsQueued}

-- where a Login Request is answered, this is the text of its Login Response
abbrev pub IsResponseText : Ending → LoginOutcome → List ℕ → Type 0
IsResponseText e GoesOn text = text ≡ ending_text e
IsResponseText e (Begun tsih) text = text ≡ ending_text e
IsResponseText e (Refused status) text = Unit {0}
IsResponseText e (Rejected reason) text = Unit {0}

-- the same of any PDU; of one that is no Login Request nothing is said
abbrev pub IsResponseTextOf : Progress → Header → List ℕ → LoginOutcome → List ℕ → Type 0
IsResponseTextOf s (Initiator (LoginRequest p)) d outcome text = IsResponseText (answer_to s (flags_of p) d) outcome text
IsResponseTextOf s h d outcome text = Unit {0}

-- A turn of login phase, target and outbox, as `MakesTurn` is one of full feature phase. `held` is what the sink has, `failures` how often
-- it has failed.
pub record MakesLoginTurn {T : Type 0} (leads : T → Asking → T → Type 0)
    (v v' : LoginStanding) (target target' : T) (held held' : Option (List ℕ)) (failures failures' : ℕ) (outbox outbox' : OutboxValue)
    (came : Incoming) (outcome : LoginOutcome) : Type 0 where
  pub turn : LoginTurn
  pub came_is : turn.came ≡ came
  pub outcome_is : turn.outcome ≡ outcome
  pub made : IsLoginTurn v turn
  pub next : v' ≡ login_after v came
  pub led : IsLed leads turn.call target target'
  pub queued : IsQueued held held' failures failures' outbox outbox' (bytes_of turn.sent)
