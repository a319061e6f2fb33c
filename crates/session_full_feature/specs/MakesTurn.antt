-- What one turn of full feature phase is, and what it makes of session, target and outbox.
use Rattle.std.specs.Prelude.{◌≡◌}
use Rattle.session_rules.specs.Words.{ℕ, List, Option}
use Rattle.session_rules.specs.{declared.end.End.End, Asking.Asking, Verdict.IsJudged, Legal.end_after, Legal.bhs_of}
use Rattle.session_rules.specs.Turn.{Incoming, Turn, bytes_of, IsLed}
use Rattle.session_full_feature.specs.{Counters.Counters, Step.Step, Step.Runs, Machine.OnIncoming}
use Rattle.session_stream.specs.Outbox.{OutboxValue, IsQueued}

-- what a session makes of what came: a step, which is run with the target's answer
pub record TurnOf (s : Counters) (came : Incoming) (t : Turn) (s' : Counters) : Type 0 where
  pub came_is : t.came ≡ came
  pub judged : IsJudged s.setting s.standing came t.verdict
  pub step : Step
  pub mid : Counters
  pub made : OnIncoming t.verdict s came step mid
  pub runs : Runs (bhs_of came) step mid t.call t.sent s'

-- a turn of session, target and outbox: what came, what the session made of it, what the target was asked and where that
-- led it, the bytes that are to go out, and the end that it calls for; `held` is what the sink has, `failures` how often it has failed
pub record MakesTurn {T : Type 0} (leads : T → Asking → T → Type 0)
    (s s' : Counters) (target target' : T) (held held' : Option (List ℕ)) (failures failures' : ℕ) (outbox outbox' : OutboxValue)
    (came : Incoming) (wanted : Option End) : Type 0 where
  pub turn : Turn
  pub made : TurnOf s came turn s'
  pub led : IsLed leads turn.call target target'
  pub queued : IsQueued held held' failures failures' outbox outbox' (bytes_of turn.sent)
  pub wanted_is : wanted ≡ end_after turn.verdict turn.came turn.call
