-- How far a login has come (RFC 7143, 6.3).
use Rattle.std.specs.Prelude.{ℕ, Bool, false, List, [], Option, None}
use Rattle.login.specs.declared.status.SessionType.{SessionType}

pub record Progress : Type 0 where
  -- the target's own name, and the tag of the portal group by which the login came
  pub target : List ℕ
  pub tag : ℕ
  -- the current stage, once a request came
  pub stage : Option ℕ
  -- the session type, once a request without C was answered
  pub kind : Option SessionType
  -- whether the target has declared its MaxRecvDataSegmentLength
  pub length_declared : Bool
  -- the text of the requests that were answered, but for those that wait
  pub said : List ℕ
  -- the text of the requests with C that wait for the last of their run
  pub run_text : List ℕ

abbrev pub beginning : List ℕ → ℕ → Progress
beginning target tag = record {
  target = target;
  tag = tag;
  stage = None;
  kind = None;
  length_declared = false;
  said = [];
  run_text = [];
}
