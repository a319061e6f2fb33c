-- What each event makes of the world: of the histories of its units, by their places, and of what is on its way.
use Rattle.std.specs.Prelude.{◌≡◌, ◌⊎◌, ℕ, ◌+◌, ◌<◌, ◌≤◌, Bool, nat_eq, if◌then◌else◌, List, [], ◌∷◌, ◌++◌, length}
use Rattle.std.specs.Prelude.{MatchOption, slice_get}
use Rattle.unit_lock.specs.Calls.{IsCause}
use Rattle.registrants.specs.Nexus.{through}
use Rattle.unit_control.specs.State.{UnitState}
use Rattle.unit_control.specs.Choice.{Choice, Fine}
use Rattle.unit_control.specs.Entry.{Entry, Attach, Detach, Reset, Move, Command}
use Rattle.unit_state.specs.Serials.{IsOpening}
use Rattle.unit_state.specs.declared.unit.MoveFault.{MoveFault}
use Rattle.unit_entries.specs.Histories.{IsHistory, IsToldBehind}
use Rattle.unit_entries.specs.NoEntry.{IsFull, IsSessionGone, IsOwner, StaysBehind, TakesMemoryBehind}
use Rattle.world.specs.Traffic.{Traffic, at_stage, attached, begun, closed, given, collected, flush_ended, new_job, no_traffic}
use Rattle.world.specs.Traffic.{IsBegunAgain, IsHanded, IsSubmittedAgain, IsTakenBack, posted, submitted, taken}
use Rattle.world.specs.declared.event.Event.{Event}
use Rattle.world.specs.declared.event.Event.TheVariants as events
use Rattle.unit_events.specs.declared.job.Job.{Job}
use Rattle.unit_events.specs.declared.job.End.{End}
use Rattle.unit_events.specs.declared.job.End.TheVariants.{Replied, Refused as IsRefused}
use Rattle.world.specs.declared.session.Session.{Session}
use Rattle.world.specs.declared.session.Stage.{Stage}
use Rattle.world.specs.declared.session.Stage.TheVariants.{Idle, Waits, InLane, Ended, Answered, Flushes, Returned}

-- where the world stands: the history of each unit, by its place, and what is on its way
pub record Scene : Type 0 where
  pub past : ℕ → List Entry
  pub traffic : Traffic

abbrev pub scene : (ℕ → List Entry) → Traffic → Scene
scene past traffic = record { past = past; traffic = traffic }

-- one entry more in the history of the unit at a place
abbrev pub with_entry : (ℕ → List Entry) → ℕ → Entry → ℕ → List Entry
with_entry past place e at = if nat_eq at place then past at ++ e ∷ [] else past at

-- how many entries the unit of a session has had
abbrev pub count_at : Scene → Session → ℕ
count_at w x = length (w.past x.place)

-- only what is on its way changes
abbrev pub with_traffic : Scene → Traffic → Scene
with_traffic w t = scene w.past t

-- what a session that is there makes of what is on its way, or may make of it; else nothing changes
abbrev pub acted : Scene → ℕ → (Session → Traffic) → Scene
acted w n act = with_traffic w (given w.traffic (slice_get w.traffic.sessions n) act)

abbrev pub MayAct : Scene → ℕ → (Session → Traffic → Type 0) → Scene → Type 0
MayAct w n Act new =
    MatchOption (slice_get w.traffic.sessions n) (new ≡ w) (λ x. (t : Traffic) × Act x t × (new ≡ with_traffic w t))

module _ (claims : Bool) (units : ℕ) (opening : ℕ → UnitState) where
  -- the unit at a place takes this entry: its history stays legal
  abbrev pub Takes : (ℕ → List Entry) → ℕ → Entry → Type 0
  Takes past place e = (place < units) × IsHistory claims (opening place) (past place ++ e ∷ [])

  -- One entry more, or none where there is no such unit or it shows why.
  abbrev pub IsEntry : Scene → ℕ → Entry → Traffic → Type 0 → Scene → Type 0
  IsEntry w place e t why new =
      (Takes w.past place e × (new ≡ scene (with_entry w.past place e) t)) ⊎ (((units ≤ place) ⊎ why) × (new ≡ w))

  -- The unit serves a command as its next entry, whose reply this is; or refuses it and shows why.
  abbrev pub IsServed : Scene → Session → Job → End → (ℕ → List Entry) → Type 0
  IsServed w x job (Replied reply at next) past =
      (choice : Choice) × (at ≡ length (w.past x.place)) × (next ≡ x.next + 1)
      × (past ≡ with_entry w.past x.place (Command x.id x.next job.by_group job.asked job.bytes choice))
      × Takes w.past x.place (Command x.id x.next job.by_group job.asked job.bytes choice)
      × IsToldBehind claims (opening x.place) (w.past x.place) (Command x.id x.next job.by_group job.asked job.bytes choice) reply
  IsServed w x job (IsRefused why) past =
      (past ≡ w.past)
      × IsCause (IsSessionGone (opening x.place) (w.past x.place) x.id) (IsOwner (opening x.place) (w.past x.place))
      (TakesMemoryBehind (opening x.place) (w.past x.place) x.id job.asked job.bytes) job.by_group why

  abbrev pub IsServing : Scene → ℕ → Session → Stage → Scene → Type 0
  IsServing w n x Idle new = new ≡ w
  IsServing w n x (Waits job) new = new ≡ w
  IsServing w n x (InLane job) new =
      ((end : End) × IsServed w x job end new.past × (new.traffic ≡ at_stage w.traffic n x (Ended job end)))
      ⊎ ((units ≤ x.place) × (new ≡ w))
  IsServing w n x (Ended job end) new = new ≡ w
  IsServing w n x (Answered job end) new = new ≡ w
  IsServing w n x (Flushes flush) new = new ≡ w
  IsServing w n x (Returned job) new = new ≡ w

  -- A session that is there ends, or resets its unit, by this entry; else nothing changes.
  abbrev pub IsOfSession : Scene → ℕ → (ℕ → Entry) → Scene → Type 0
  IsOfSession w n entry new =
      MatchOption (slice_get w.traffic.sessions n) (new ≡ w)
      (λ x. IsEntry w x.place (entry x.id) w.traffic (IsSessionGone (opening x.place) (w.past x.place) x.id) new)

  -- The step of each event. What can't happen changes nothing.
  abbrev pub IsStep : Scene → Event → Scene → Type 0
  IsStep w (events.Attach place port group) new =
      IsEntry w place (Attach (through port group)) (attached w.traffic place (length (w.past place)))
      (IsFull (opening place) (w.past place) (through port group)) new
  IsStep w (events.Detach n) new = IsOfSession w n (λ id. Detach id) new
  IsStep w (events.Reset n) new = IsOfSession w n (λ id. Reset id) new
  IsStep w (events.Move place list) new =
      IsEntry w place (Move list Fine) w.traffic
      ((why : MoveFault) × StaysBehind (opening place) (w.past place) list why) new
  IsStep w (events.Submit n by_group asked bytes is_late) new =
      (job : Job) × IsHanded is_late (new_job by_group asked bytes) job
      × (new ≡ acted w n (λ x. submitted (count_at w x) w.traffic n x job))
  IsStep w (events.SubmitAgain n is_late) new = MayAct w n (λ x. IsSubmittedAgain (count_at w x) is_late w.traffic n x) new
  IsStep w (events.Begin n by_group asked bytes is_late) new =
      (job : Job) × IsHanded is_late (new_job by_group asked bytes) job
      × (new ≡ acted w n (λ x. begun (count_at w x) w.traffic n x job))
  IsStep w (events.BeginAgain n is_late) new = MayAct w n (λ x. IsBegunAgain (count_at w x) is_late w.traffic n x) new
  IsStep w (events.TakeBack n) new = MayAct w n (λ x. IsTakenBack w.traffic n x) new
  IsStep w (events.Close group) new = new ≡ with_traffic w (closed w.traffic group)
  IsStep w (events.Take group) new = new ≡ with_traffic w (taken w.traffic group)
  IsStep w (events.Serve n) new =
      MatchOption (slice_get w.traffic.sessions n) (new ≡ w) (λ x. IsServing w n x x.stage new)
  IsStep w (events.Post n) new = new ≡ acted w n (λ x. posted w.traffic n x)
  IsStep w (events.Collect n) new = new ≡ acted w n (λ x. collected (count_at w x) w.traffic n x)
  IsStep w (events.EndFlush n is_done) new = new ≡ acted w n (λ x. flush_ended (count_at w x) w.traffic n x is_done)

  -- the steps of a list of events, one behind the other
  abbrev pub AreSteps : Scene → List Event → Scene → Type 0
  AreSteps w [] new = new ≡ w
  AreSteps w (e ∷ events) new = (next : Scene) × IsStep w e next × AreSteps next events new

-- nothing has happened
abbrev pub start : Scene
start = scene (λ place. []) no_traffic

-- These events led here, from units that opened in these states.
pub record IsReached (claims : Bool) (units : ℕ) (opening : ℕ → UnitState) (w : Scene) : Type 0 where
  pub opens : (place : ℕ) → IsOpening (opening place).control
  pub events : List Event
  pub steps : AreSteps claims units opening start events w
