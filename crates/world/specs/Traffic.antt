-- What is on its way in the array, and what an event makes of it.
use Rattle.std.specs.Prelude.{◌≡◌, ◌⊎◌, ◌||◌, MatchOption, ℕ, Bool, true, false, nat_eq, if◌then◌else◌, List, [], ◌∷◌, ◌++◌, length, Option, Some, None}
use Rattle.std.specs.Prelude.{IsTrue, Result, slice_get, slice_set}
use Rattle.std.specs.List.{remove}
use Rattle.unit_lock.specs.declared.machine.Refused.TheVariants.{Gone as IsGone, Moved, NoMemory}
use Rattle.scsi_types.specs.declared.command.Command.{Command as ScsiCommand}
use Rattle.scsi_types.specs.declared.command.CdbFault.{CdbFault}
use Rattle.scsi_types.specs.declared.names.Group.{Group}
use Rattle.scsi_types.specs.declared.names.Group.TheVariants.{One, Two}
use Rattle.scsi_types.specs.ReplyValue.{ReplyValue, check}
use Rattle.scsi_types.specs.Sense.{write_error}
use Rattle.scsi_types.specs.declared.status.Status.{Status}
use Rattle.scsi_types.specs.declared.status.Status.TheVariants as statuses
use Rattle.unit_events.specs.Flushes.{IsUnflushed}
use Rattle.world.specs.declared.note.Note.{Note}
use Rattle.world.specs.declared.note.What.{What}
use Rattle.world.specs.declared.note.What.TheVariants.{Submitted, FlushBegan, Replied as HasReply, Settled, Busy, Gone}
use Rattle.unit_events.specs.declared.job.Job.{Job}
use Rattle.unit_events.specs.declared.job.End.{End}
use Rattle.unit_events.specs.declared.job.End.TheVariants.{Replied, Refused as IsRefused}
use Rattle.world.specs.declared.session.Flush.{Flush}
use Rattle.world.specs.declared.session.Session.{Session}
use Rattle.world.specs.declared.session.Stage.{Stage}
use Rattle.world.specs.declared.session.Stage.TheVariants.{Idle, Waits, InLane, Ended, Answered, Flushes, Returned}

-- the sessions, in the order in which they attached; by group, the sessions whose jobs wait at its desk, the first one first,
-- and whether it is closed; and what was submitted and collected so far
pub record Traffic : Type 0 where
  pub sessions : List Session
  pub one : List ℕ
  pub two : List ℕ
  pub one_is_closed : Bool
  pub two_is_closed : Bool
  pub notes : List Note

-- nobody has attached
abbrev pub no_traffic : Traffic
no_traffic =
    record { sessions = []; one = []; two = []; one_is_closed = false; two_is_closed = false; notes = [] }

abbrev pub waiting : Traffic → Group → List ℕ
waiting t One = t.one
waiting t Two = t.two

abbrev pub with_waiting : Traffic → Group → List ℕ → Traffic
with_waiting t One sessions = record t { one = sessions }
with_waiting t Two sessions = record t { two = sessions }

abbrev pub is_closed : Traffic → Group → Bool
is_closed t One = t.one_is_closed
is_closed t Two = t.two_is_closed

-- from now on the desk of a group takes no job
abbrev pub closed : Traffic → Group → Traffic
closed t One = record t { one_is_closed = true }
closed t Two = record t { two_is_closed = true }

-- a command that a session hands in for the first time, as it was asked
abbrev pub new_job : Group → Result ScsiCommand CdbFault → List ℕ → Job
new_job by_group asked bytes =
    record { by_group = by_group; asked = asked; bytes = bytes; is_second = false; late = None }

-- The unit is asked this in place of a command, whose flush is left to come behind it.
abbrev pub put_off : Job → Result ScsiCommand CdbFault → Job
put_off job served = record job { asked = served; late = Some job.asked }

-- A command is handed in as it was asked; or, where flushes may be left to come behind their commands, it may be put off its own.
abbrev pub IsHanded : Bool → Job → Job → Type 0
IsHanded is_late job handed =
    (handed ≡ job)
    ⊎ (IsTrue is_late × ((served : Result ScsiCommand CdbFault) × IsUnflushed job.asked served × (handed ≡ put_off job served)))

-- what its session asked, by what is kept of it where it was put off
abbrev pub asked_of : Option (Result ScsiCommand CdbFault) → Result ScsiCommand CdbFault → Result ScsiCommand CdbFault
asked_of None asked = asked
asked_of (Some first) asked = first

-- the command as it was asked
abbrev pub as_asked : Job → Job
as_asked job = record job { asked = asked_of job.late job.asked; late = None }

-- a session whose id is this place of its unit's history has no command yet
abbrev pub attached : Traffic → ℕ → ℕ → Traffic
attached t place id =
    record t { sessions = t.sessions ++ record { place = place; id = id; next = 1; stage = Idle } ∷ [] }

-- the session at a place of the list
abbrev pub with_session : Traffic → ℕ → Session → Traffic
with_session t n x = record t { sessions = slice_set t.sessions n x }

-- its command is there now
abbrev pub at_stage : Traffic → ℕ → Session → Stage → Traffic
at_stage t n x stage = with_session t n (record x { stage = stage })

-- what a session did, where its unit has had so many entries
abbrev pub note_of : ℕ → Session → What → Note
note_of count x what = record { place = x.place; session = x.id; serial = x.next; count = count; what = what }

abbrev pub noted : Traffic → Note → Traffic
noted t note = record t { notes = t.notes ++ note ∷ [] }

-- the session is free for another command, which has this serial
abbrev pub free : Session → ℕ → Session
free x serial = record x { next = serial; stage = Idle }

-- a command that ended in BUSY, or whose session was gone: its serial is not used up
abbrev pub given_up : ℕ → Traffic → ℕ → Session → What → Traffic
given_up count t n x what = noted (with_session t n (free x x.next)) (note_of count x what)

-- A job goes to the desk of its group, behind all that wait there. Where the desk is closed, or 64 wait, it ends in BUSY.
abbrev pub handed_in : ℕ → Traffic → ℕ → Session → Job → Traffic
handed_in count t n x job =
    if is_closed t job.by_group || nat_eq (length (waiting t job.by_group)) 64
    then given_up count t n x Busy
    else with_waiting (noted (at_stage t n x (Waits job)) (note_of count x Submitted)) job.by_group
    (waiting t job.by_group ++ n ∷ [])

-- The session's worker takes a command in hand itself, past those that wait at the desk of its group. Where the desk is closed, it
-- ends in BUSY.
abbrev pub in_hand : ℕ → Traffic → ℕ → Session → Job → Traffic
in_hand count t n x job =
    if is_closed t job.by_group
    then given_up count t n x Busy
    else noted (at_stage t n x (InLane job)) (note_of count x Submitted)

-- ---- what there is at the stages that an event asks for; at any other there is none

abbrev pub is_idle : Stage → Bool
is_idle Idle = true
is_idle _ = false

abbrev pub waits_in : Stage → Option Job
waits_in (Waits job) = Some job
waits_in _ = None

abbrev pub lane_in : Stage → Option Job
lane_in (InLane job) = Some job
lane_in _ = None

abbrev pub ended_in : Stage → Option (Job × End)
ended_in (Ended job end) = Some (job, end)
ended_in _ = None

abbrev pub answered_in : Stage → Option (Job × End)
answered_in (Answered job end) = Some (job, end)
answered_in _ = None

abbrev pub returned_in : Stage → Option Job
returned_in (Returned job) = Some job
returned_in _ = None

abbrev pub flush_in : Stage → Option Flush
flush_in (Flushes flush) = Some flush
flush_in _ = None

-- ---- the events of a session, which is there, at a stage that they ask for; else nothing changes

abbrev pub given : {A : Type 0} → Traffic → Option A → (A → Traffic) → Traffic
given t None act = t
given t (Some a) act = act a

-- a new command is handed in by a session that has none on its way
abbrev pub submitted : ℕ → Traffic → ℕ → Session → Job → Traffic
submitted count t n x job = if is_idle x.stage then handed_in count t n x job else t

-- or the worker serves it at once
abbrev pub begun : ℕ → Traffic → ℕ → Session → Job → Traffic
begun count t n x job = if is_idle x.stage then in_hand count t n x job else t

-- One that came to Moved is handed in once more, and may be put off its flush anew; else nothing changes.
abbrev pub IsAgain : (Traffic → ℕ → Session → Job → Traffic) → Bool → Traffic → ℕ → Session → Traffic → Type 0
IsAgain send is_late t n x new =
    MatchOption (returned_in x.stage) (new ≡ t)
    (λ job. (handed : Job) × IsHanded is_late job handed × (new ≡ send t n x handed))

abbrev pub IsSubmittedAgain : ℕ → Bool → Traffic → ℕ → Session → Traffic → Type 0
IsSubmittedAgain count = IsAgain (handed_in count)

abbrev pub IsBegunAgain : ℕ → Bool → Traffic → ℕ → Session → Traffic → Type 0
IsBegunAgain count = IsAgain (in_hand count)

-- the worker takes back the job that waits at this place of the desk
abbrev pub taken_back : Traffic → ℕ → Session → Job → ℕ → Traffic
taken_back t n x job at =
    with_waiting (at_stage t n x (InLane job)) job.by_group (remove (waiting t job.by_group) at)

-- its job waits somewhere at the desk, and no lane has taken it; else nothing changes
abbrev pub IsTakenBack : Traffic → ℕ → Session → Traffic → Type 0
IsTakenBack t n x new =
    MatchOption (waits_in x.stage) (new ≡ t)
    (λ job. ((at : ℕ) × (slice_get (waiting t job.by_group) at ≡ Some n) × (new ≡ taken_back t n x job at))
    ⊎ (((at : ℕ) → slice_get (waiting t job.by_group) at ≡ Some n → ⊥) × (new ≡ t)))

-- a lane takes the job that waits first at a desk
abbrev pub in_lane : Traffic → ℕ → Session → Traffic
in_lane t n x = given t (waits_in x.stage) (λ job. at_stage t n x (InLane job))

abbrev pub taken_from : Traffic → Group → List ℕ → Traffic
taken_from t group [] = t
taken_from t group (n ∷ rest) =
    let left = with_waiting t group rest in given left (slice_get t.sessions n) (λ x. in_lane left n x)

abbrev pub taken : Traffic → Group → Traffic
taken t group = taken_from t group (waiting t group)

-- has its unit serve it
abbrev pub ended : Traffic → ℕ → Session → End → Traffic
ended t n x end = given t (lane_in x.stage) (λ job. at_stage t n x (Ended job end))

-- and posts its answer
abbrev pub posted : Traffic → ℕ → Session → Traffic
posted t n x = given t (ended_in x.stage) (λ a. at_stage t n x (Answered a.0 a.1))

-- ---- a reply

abbrev pub is_good : Status → Bool
is_good statuses.Good = true
is_good statuses.CheckCondition = false
is_good statuses.Busy = false
is_good statuses.ReservationConflict = false
is_good statuses.TaskSetFull = false

-- The session is told this of its command, which is as it was asked, in place of the reply of the entry at a place, and whether a
-- flush was done behind the entry.
abbrev pub settled : ℕ → Traffic → ℕ → Session → Job → ReplyValue → ℕ → ℕ → Bool → Traffic
settled count t n x job told place next is_flushed =
    noted (with_session t n (free x next)) (note_of count x (Settled job told place is_flushed))

-- Behind GOOD a flush begins, and the session waits for its end. Any other reply it is told at once.
abbrev pub put_off_heard : ℕ → Traffic → ℕ → Session → Job → ReplyValue → ℕ → ℕ → Traffic
put_off_heard count t n x job reply place next =
    if is_good reply.status
    then noted (at_stage t n x (Flushes (record { job = job; reply = reply; place = place; next = next })))
    (note_of count x FlushBegan)
    else settled count t n x job reply place next false

-- with what its session asked, where the flush of that comes behind it
abbrev pub replied : ℕ → Traffic → ℕ → Session → Job → Option (Result ScsiCommand CdbFault) → ReplyValue → ℕ → ℕ → Traffic
replied count t n x job None reply place next =
    noted (with_session t n (free x next)) (note_of count x (HasReply job reply place))
replied count t n x job (Some asked) reply place next =
    put_off_heard count t n x (record job { asked = asked; late = None }) reply place next

-- The session collects the answer to its job. With a reply comes the serial of its next command. After the first Moved it may
-- hand the command in, as it was asked, at the desk of the group that this names; the second ends in BUSY.
abbrev pub heard : ℕ → Traffic → ℕ → Session → Job → End → Traffic
heard count t n x job (Replied reply place next) = replied count t n x job job.late reply place next
heard count t n x job (IsRefused IsGone) = given_up count t n x Gone
heard count t n x job (IsRefused NoMemory) = given_up count t n x Busy
heard count t n x job (IsRefused (Moved to)) =
    if job.is_second
    then given_up count t n x Busy
    else at_stage t n x (Returned (record (as_asked job) { by_group = to; is_second = true }))

abbrev pub collected : ℕ → Traffic → ℕ → Session → Traffic
collected count t n x = given t (answered_in x.stage) (λ a. heard count t n x a.0 a.1)

-- The flush on its way behind a session's command has ended: it is told GOOD where it was done, and else that it has failed.
abbrev pub told_behind : Bool → ReplyValue → ReplyValue
told_behind true reply = reply
told_behind false reply = check write_error

abbrev pub flush_ended : ℕ → Traffic → ℕ → Session → Bool → Traffic
flush_ended count t n x is_done =
    given t (flush_in x.stage)
    (λ f. settled count t n x f.job (told_behind is_done f.reply) f.place f.next is_done)
