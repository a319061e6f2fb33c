-- Logout (RFC 7143, 11.14 and 11.15).
use Rattle.std.specs.Prelude.{if◌then◌else◌, ◌∷◌}
use Rattle.session_rules.specs.Words.{Bool, nat_le, List, [], LogoutHeader, Numbers, LogoutResponse}
use Rattle.session_rules.specs.{Codes.closed, Codes.recovery_not_supported, Codes.time_to_wait, Codes.time_to_retain, Turn.Out}

-- reason 0 closes the session, and 1 its connection, which is its only one
abbrev pub closes : LogoutHeader → Bool
closes p = nat_le p.reason 1

-- any other reason asks for a recovery that is not served
abbrev pub logout_answer : Numbers → LogoutHeader → List Out
logout_answer n p = record {
  header = LogoutResponse (record {
    response = if closes p then closed else recovery_not_supported;
    task_tag = p.task_tag;
    numbers = n;
    time_to_wait = time_to_wait;
    time_to_retain = time_to_retain;
  });
  bytes = [];
} ∷ []
