-- What a login request is answered, and how far the login has come then (RFC 7143, 6.3).
use Rattle.std.specs.Prelude.{ℕ, Bool, not, ◌&&◌, ◌||◌, ◌==◌, codes, decimal, if◌then◌else◌}
use Rattle.std.specs.Prelude.{List, [], ◌++◌, Option, Some, None, unwrap_or}
use Rattle.login.specs.Text.{Pair, pairs, spelled}
use Rattle.login.specs.Answer.{answers}
use Rattle.login.specs.Table.{own_data_segment}
use Rattle.login.specs.Progress.{Progress}
use Rattle.login.specs.Refusal.{refusal_in, session_type_of, value_said}
use Rattle.login.specs.declared.key.Key.TheVariants as Of
use Rattle.login.specs.declared.status.LoginFlags.{LoginFlags}
use Rattle.login.specs.declared.status.SessionType.{SessionType}
use Rattle.login.specs.declared.status.SessionType.TheVariants.{Normal, Discovery}
use Rattle.login.specs.declared.status.LoginRefusal.{LoginRefusal}
use Rattle.login.specs.declared.negotiation.LoginEnd.{LoginEnd}
use Rattle.login.specs.declared.negotiation.LoginEnd.TheVariants.{GoesOn, Accepted, Refused, NamesSession}
use Rattle.login.specs.declared.status.LoginRefusal.TheVariants as Refusals

-- An answer with its text, after which the login goes on or is over; or the end of a login that is refused.
pub data Ending : Type 0 where
  Answered : List ℕ → Ending
  Finished : List ℕ → Ending
  Stopped : LoginRefusal → Ending

-- the stage behind a request
abbrev pub next_stage : LoginFlags → ℕ
next_stage f = if f.transit then f.next_stage else f.current_stage

-- the session type, as the first request said it
abbrev pub kind_after : Option SessionType → List Pair → Option SessionType
kind_after (Some kind) ps = Some kind
kind_after None ps = session_type_of ps

-- TargetPortalGroupTag, in the response of a normal session to its first request
abbrev pub group_text : ℕ → Option SessionType → Option SessionType → List ℕ
group_text tag None (Some Normal) = spelled (codes "TargetPortalGroupTag") (decimal tag)
group_text tag None (Some Discovery) = []
group_text tag None None = []
group_text tag (Some kind) now = []

-- MaxRecvDataSegmentLength, in the first response of stage 1
abbrev pub length_text : Bool → List ℕ
length_text tells = if tells then spelled (codes "MaxRecvDataSegmentLength") (decimal own_data_segment) else []

abbrev pub tells_length : Progress → LoginFlags → Bool
tells_length s f = not s.length_declared && f.current_stage == 1

-- the text of a response: what the target says by itself, then the answers
abbrev pub response : Progress → LoginFlags → List Pair → List ℕ
response s f ps =
    group_text s.tag s.kind (kind_after s.kind ps) ++ length_text (tells_length s f) ++ answers ps

abbrev pub answer_by : Option LoginRefusal → LoginFlags → List ℕ → Ending
answer_by (Some refusal) f text = Stopped refusal
answer_by None f text =
    if f.continues then Answered []
    else (if next_stage f == 3 then Finished text else Answered text)

-- what a request is answered; a request with C is answered with nothing, until the last of its run
unfoldable pub answer_to : Progress → LoginFlags → List ℕ → Ending
answer_to s f text = let whole = s.run_text ++ text in answer_by (refusal_in s f whole) f (response s f (pairs whole))

abbrev pub passed : Progress → LoginFlags → List ℕ → Progress
passed s f whole =
    if f.continues then record s { stage = Some f.current_stage; run_text = whole }
    else record s {
      stage = Some (next_stage f);
      kind = kind_after s.kind (pairs whole);
      length_declared = s.length_declared || f.current_stage == 1;
      said = s.said ++ whole;
      run_text = [];
    }

abbrev pub after_by : Option LoginRefusal → Progress → LoginFlags → List ℕ → Progress
after_by (Some refusal) s f whole = s
after_by None s f whole = passed s f whole

-- how far the login has come behind a request; a refusal changes nothing
unfoldable pub after : Progress → LoginFlags → List ℕ → Progress
after s f text = let whole = s.run_text ++ text in after_by (refusal_in s f whole) s f whole

-- what the end of a request tells, with this text as its response
abbrev pub told : LoginEnd → List ℕ → Ending
told GoesOn text = Answered text
told Accepted text = Finished text
told (Refused status) text = Stopped (Refusals.Refused status)
told NamesSession text = Stopped Refusals.NamesSession

-- the InitiatorName that pairs say, empty where they say none
abbrev pub initiator_of : List Pair → List ℕ
initiator_of ps = unwrap_or (value_said Of.InitiatorName ps) []

-- the session type, Normal where none is said yet
abbrev pub kind_in : Option SessionType → SessionType
kind_in (Some kind) = kind
kind_in None = Normal
