-- The Target Session Identifying Handle (TSIH) of a session that begins (RFC 7143, 11.13.3).
use Rattle.std.specs.Prelude.{◌<◌}
use Rattle.session_rules.specs.Words.{BeginAnswer}
use Rattle.session_rules.specs.declared.target.BeginAnswer.TheVariants.{Begun, Refused}

-- it is not 0, which names no session
abbrev pub HasHandle : BeginAnswer → Type 0
HasHandle (Begun tsih) = 0 < tsih
HasHandle Refused = Unit {0}
