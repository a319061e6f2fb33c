-- What the code keeps of what is on its way.
use Rattle.std.specs.Prelude.{ℕ, ◌<◌, length, vec_capacity, Option, Some, None}
use Rattle.world.specs.Traffic.{Traffic, ended_in, handed_in, in_hand, lane_in, waits_in}
use Rattle.unit_events.specs.declared.job.Job.{Job}
use Rattle.world.specs.declared.records.Records.{Records}
use Rattle.world.specs.declared.records.Way.{Way}
use Rattle.world.specs.declared.records.Way.TheVariants as ways
use Rattle.world.specs.declared.session.Session.{Session}
use Rattle.world.specs.declared.session.Stage.{Stage}
use Rattle.world.specs.declared.session.Stage.TheVariants.{InLane, Ended, Answered}
use Rattle.world.specs.declared.session.Turn.{Turn}
use Rattle.world.specs.declared.session.Turn.TheVariants as turns

abbrev pub traffic_of : Records → Traffic
traffic_of r = record {
  sessions = r.sessions.items;
  one = r.one;
  two = r.two;
  one_is_closed = r.one_is_closed;
  two_is_closed = r.two_is_closed;
  notes = r.notes.items;
}

-- one session and one note more find room
pub record HasRoom (r : Records) : Type 0 where
  pub sessions : length r.sessions.items < vec_capacity r.sessions
  pub notes : length r.notes.items < vec_capacity r.notes

-- a job that is sent to the desk of its group, or that the session's worker has in hand
abbrev pub sent : Way → ℕ → Traffic → ℕ → Session → Job → Traffic
sent ways.Desk count t n x job = handed_in count t n x job
sent ways.Hand count t n x job = in_hand count t n x job

-- a command that is at the stage that is asked for goes on, and any other stays where it is
abbrev pub on_from : {A : Type 0} → Option A → (A → Stage) → Stage → Stage
on_from None to stage = stage
on_from (Some a) to stage = to a

abbrev pub turned : Turn → Stage → Stage
turned turns.ToLane stage = on_from (waits_in stage) (λ job. InLane job) stage
turned (turns.End end) stage = on_from (lane_in stage) (λ job. Ended job end) stage
turned turns.Post stage = on_from (ended_in stage) (λ a. Answered a.0 a.1) stage
