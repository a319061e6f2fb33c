-- What a session asks its target.
use Rattle.session_rules.specs.Words.{ℕ, Bool, List, Option, Result, Port, Command, CdbFault, SessionType}
use Rattle.session_rules.specs.Words.{TargetAnswer, ResetAnswer, BeginAnswer}

-- A question with its answer. Began: the initiator port and the kind of a session that is to begin. Lives: a Target Session
-- Identifying Handle (TSIH), and the port whose session it is to be. Served: the unit that the LUN names, what the CDB asks
-- for, the data. Reset: the unit. Over: the session has ended, which has no answer.
pub data Asking : Type 0 where
  began : Port → SessionType → BeginAnswer → Asking
  lives : ℕ → Port → Bool → Asking
  served : Option ℕ → Result Command CdbFault → List ℕ → TargetAnswer → Asking
  reset : ℕ → ResetAnswer → Asking
  over : Asking
