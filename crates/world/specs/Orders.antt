-- What holds of the world over every list of events.
use Rattle.std.specs.Prelude.{◌≡◌, ℕ, ◌<◌, ◌≤◌, Bool, true, List, [], ◌∷◌, ◌++◌, length, Result, Some, None, slice_get}
use Rattle.scsi_types.specs.ReplyValue.{ReplyValue}
use Rattle.scsi_types.specs.declared.names.Group.{Group}
use Rattle.unit_control.specs.State.{UnitState}
use Rattle.scsi_types.specs.declared.command.Command.{Command as ScsiCommand}
use Rattle.scsi_types.specs.declared.command.CdbFault.{CdbFault}
use Rattle.unit_control.specs.Choice.{Choice}
use Rattle.unit_control.specs.Entry.{Entry, Command}
use Rattle.unit_state.specs.History.{IsReplyAt}
use Rattle.unit_entries.specs.Histories.{IsCommand, IsHistory}
use Rattle.unit_events.specs.Flushes.{HasLateFlush}
use Rattle.world.specs.Events.{Scene}
use Rattle.world.specs.declared.note.Note.{Note}
use Rattle.world.specs.declared.note.What.{What}
use Rattle.world.specs.declared.note.What.TheVariants.{Submitted, FlushBegan, Replied as HasReply, Settled, Busy, Gone}
use Rattle.unit_events.specs.declared.job.Job.{Job}

-- the entry at a place is a command of this session with this serial
abbrev pub IsEntryAt : List Entry → ℕ → ℕ → ℕ → Type 0
IsEntryAt history at session serial =
    (e : Entry) × (slice_get history at ≡ Some e)
    × ((group : Group) × (asked : _) × (bytes : List ℕ) × IsCommand session serial group asked bytes e)

-- it did not come to an entry
abbrev pub IsNone : What → Type 0
IsNone Submitted = ⊥
IsNone FlushBegan = ⊥
IsNone (HasReply job reply at) = ⊥
IsNone (Settled job told at is_flushed) = ⊥
IsNone Busy = Unit {0}
IsNone Gone = Unit {0}

-- the session was told a reply, which is that of the entry at this place, or was told in its place
abbrev pub IsToldAt : What → ℕ → Type 0
IsToldAt Submitted place = ⊥
IsToldAt FlushBegan place = ⊥
IsToldAt (HasReply job reply at) place = at ≡ place
IsToldAt (Settled job told at is_flushed) place = at ≡ place
IsToldAt Busy place = ⊥
IsToldAt Gone place = ⊥

-- two notes of one session
abbrev pub AreOfOne : Note → Note → Type 0
AreOfOne a b = (a.place ≡ b.place) × (a.session ≡ b.session)

-- this note stands at this place of the list
abbrev pub IsNoted : List Note → ℕ → Note → Type 0
IsNoted notes i a = slice_get notes i ≡ Some a

-- a submit of the same command stands behind a place of the list, made when the history had at most so many entries
abbrev pub IsSubmittedBehind : List Note → ℕ → Note → ℕ → Type 0
IsSubmittedBehind notes i a count =
    (j : ℕ) × (b : Note) × (i < j) × IsNoted notes j b × (b.what ≡ Submitted) × AreOfOne a b × (b.serial ≡ a.serial)
    × (b.count ≤ count)

-- Before a place of the list a flush began behind the same command, when the history had the entry at this place.
abbrev pub IsFlushedBehind : List Note → ℕ → Note → ℕ → Type 0
IsFlushedBehind notes i a at =
    (j : ℕ) × (b : Note) × (j < i) × IsNoted notes j b × (b.what ≡ FlushBegan) × AreOfOne a b × (b.serial ≡ a.serial)
    × (at < b.count)

-- The entry at a place stands for this command of a session, whose flush came behind it, and which was told this.
pub record IsSettledAt (claims : Bool) (lasts : Type 0) (s : UnitState) (history : List Entry) (session serial : ℕ) (job : Job)
    (told : ReplyValue) (at : ℕ) : Type 0 where
  pub before : List Entry
  pub behind : List Entry
  pub served : Result ScsiCommand CdbFault
  pub choice : Choice
  pub is : history ≡ (before ++ Command session serial job.by_group served job.bytes choice ∷ []) ++ behind
  pub place : at ≡ length before
  pub stands : HasLateFlush claims lasts s before session serial job.by_group served job.bytes choice job.asked told

-- Over every list of events:
pub record IsOrderly (claims : Bool) (opening : ℕ → UnitState) (w : Scene) : Type 0 where
  -- the history of each unit is legal;
  pub legal : (place : ℕ) → IsHistory claims (opening place) (w.past place)
  -- each reply that a session collected is that of the entry of its own command, as it was asked, unless its flush came behind it;
  pub own : (i : ℕ) (a : Note) (job : Job) (reply : ReplyValue) (at : ℕ) → IsNoted w.traffic.notes i a
      → a.what ≡ HasReply job reply at
      → (job.late ≡ None) × ((e : Entry) × (slice_get (w.past a.place) at ≡ Some e)
      × IsCommand a.session a.serial job.by_group job.asked job.bytes e)
      × IsReplyAt claims (opening a.place) (w.past a.place) at reply
  -- where its flush came behind it, the command as it was asked could stand in the place of its entry, answered as the session was told:
  -- GOOD only where a flush was done that had begun behind the entry;
  pub late : (i : ℕ) (a : Note) (job : Job) (told : ReplyValue) (at : ℕ) (is_flushed : Bool) → IsNoted w.traffic.notes i a
      → a.what ≡ Settled job told at is_flushed
      → IsSettledAt claims ((is_flushed ≡ true) × IsFlushedBehind w.traffic.notes i a at) (opening a.place) (w.past a.place)
      a.session a.serial job told at
  -- a session's serial is that of one entry at most;
  pub once : (place session serial at other : ℕ) → IsEntryAt (w.past place) at session serial
      → IsEntryAt (w.past place) other session serial → at ≡ other
  -- a command that ended without a reply has none: an entry with its serial is of a command submitted behind that end;
  pub none : (i at : ℕ) (a : Note) → IsNoted w.traffic.notes i a → IsNone a.what
      → IsEntryAt (w.past a.place) at a.session a.serial → IsSubmittedBehind w.traffic.notes i a at
  -- and the entry of a command that a session submitted behind a reply stands behind that of the reply.
  pub later : (i j at place : ℕ) (a b : Note) → i < j → IsNoted w.traffic.notes i a → IsToldAt a.what at
      → IsNoted w.traffic.notes j b → b.what ≡ Submitted → AreOfOne a b
      → IsEntryAt (w.past b.place) place b.session b.serial → at < place
