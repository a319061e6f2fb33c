-- What carries the order of a world through its steps, of the unit at one place.
use Rattle.std.proofs.Common.{◌≡◌, ◌≢◌, ◌⊎◌, inl, inr, ⊎_elim, ℕ, zero, suc, ◌+◌, ◌<◌, ◌≤◌, Bool, true, false, nat_eq}
use Rattle.std.proofs.Common.{List, [], ◌∷◌, ◌++◌, length, Some, None, Result, refl, sym, ap, subst, ◌∙◌, arith, append_assoc}
use Rattle.std.specs.Prelude.{MatchOption, slice_get, slice_set}
use Rattle.std.proofs.lemmas.Bool.Decides.{eqb_tells}
use Rattle.std.proofs.lemmas.List.Sums.{sum_by_push}
use Rattle.std.proofs.lemmas.Option.{slice_get_within}
use Rattle.status.specs.Views.{counted}
use Rattle.scsi_types.specs.ReplyValue.{ReplyValue}
use Rattle.scsi_types.specs.declared.names.Group.{Group}
use Rattle.scsi_types.specs.declared.command.Command.{Command as ScsiCommand}
use Rattle.scsi_types.specs.declared.command.CdbFault.{CdbFault}
use Rattle.scsi_types.specs.declared.status.Status.TheVariants.{Good}
use Rattle.unit_control.specs.State.{UnitState}
use Rattle.unit_control.specs.Entry.{Entry, Attach, Detach, Reset, Move, Command, after}
use Rattle.unit_state.specs.History.{IsReplyAt}
use Rattle.unit_entries.specs.Histories.{IsCommand, command}
use Rattle.unit_events.specs.Flushes.{IsUnflushed}
use Rattle.unit_events.proofs.FlushLaws.{late_by}
use Rattle.world.specs.Orders.{IsEntryAt, IsFlushedBehind, IsNone, IsNoted, IsSettledAt, IsSubmittedBehind}
use Rattle.world.specs.declared.note.Note.{Note}
use Rattle.world.specs.declared.note.What.{What}
use Rattle.world.specs.declared.note.What.TheVariants.{Submitted, FlushBegan, Replied as HasReply, Settled, Busy, Gone}
use Rattle.unit_events.specs.declared.job.Job.{Job}
use Rattle.unit_events.specs.declared.job.End.{End}
use Rattle.unit_events.specs.declared.job.End.TheVariants.{Replied, Refused as IsRefused}
use Rattle.world.specs.declared.session.Flush.{Flush}
use Rattle.world.specs.declared.session.Session.{Session}
use Rattle.world.specs.declared.session.Stage.{Stage}
use Rattle.world.specs.declared.session.Stage.TheVariants.{Idle, Waits, InLane, Ended, Answered, Flushes, Returned}
use Rattle.world.proofs.Lists.{get_kept, get_pushed, get_set, longer}

-- ---- entries

-- the entry is this session's command with this serial
abbrev pub IsOf : Entry → ℕ → ℕ → Type 0
IsOf e session serial =
    (group : Group) × (asked : Result ScsiCommand CdbFault) × (bytes : List ℕ) × IsCommand session serial group asked bytes e

abbrev pub commands : ℕ → List Entry → ℕ
commands session h = counted command session h

pub commands_pushed : (session : ℕ) (h : List Entry) (e : Entry) → commands session (h ++ e ∷ []) ≡ commands session h + command session e
commands_pushed session h e = sum_by_push (command session) h e

same : (i : ℕ) → nat_eq i i ≡ true
same i = ⊎_elim (λ (t : (nat_eq i i ≡ true) × (i ≡ i)). t.0) (λ (f : (nat_eq i i ≡ false) × (i ≢ i)). absurd (f.1 refl)) (eqb_tells i i)

-- such an entry counts
pub counts : (e : Entry) (session serial : ℕ) → IsOf e session serial → command session e ≡ 1
counts e session serial of =
    let one : command session (Command session serial of.0 of.1 of.2 of.3.0) ≡ 1 = rw (same session) refl in
    ap (command session) of.3.1 ∙ one

-- and no other
pub counts_or_not : (e : Entry) (session : ℕ) → (command session e ≡ 0) ⊎ ((serial : ℕ) × IsOf e session serial)
counts_or_not (Attach nexus) session = inl refl
counts_or_not (Detach id) session = inl refl
counts_or_not (Reset id) session = inl refl
counts_or_not (Move list choice) session = inl refl
counts_or_not (Command id serial group asked bytes choice) session =
    ⊎_elim
    (λ (t : (nat_eq id session ≡ true) × (id ≡ session)). inr (
      serial,
      (
        group,
        asked,
        bytes,
        (
          choice,
          ap (λ (i : ℕ). let c : Entry = Command i serial group asked bytes choice in c) t.1,
        ),
      ),
    ))
    (λ (f : (nat_eq id session ≡ false) × (id ≢ session)). inl (rw f.0 refl)) (eqb_tells id session)

entry_pushed : (h : List Entry) (e : Entry) (at session serial : ℕ) → IsEntryAt (h ++ e ∷ []) at session serial
    → IsEntryAt h at session serial ⊎ ((at ≡ length h) × IsOf e session serial)
entry_pushed h e at session serial of =
    ⊎_elim (λ (o : slice_get h at ≡ Some of.0). inl (of.0, o, of.2))
    (λ (t : (at ≡ length h) × (e ≡ of.0)). inr (t.0, subst (λ (x : Entry). IsOf x session serial) (sym t.1) of.2))
    (get_pushed h e at of.0 of.1)

pub reply_kept : (claims : Bool) (s : UnitState) (h : List Entry) (e : Entry) (at : ℕ) (reply : ReplyValue)
    → IsReplyAt claims s h at reply → IsReplyAt claims s (h ++ e ∷ []) at reply
reply_kept claims s [] e at reply is = absurd is
reply_kept claims s (x ∷ h) e zero reply is = is
reply_kept claims s (x ∷ h) e (suc at) reply is = reply_kept claims (after s x) h e at reply is

-- ---- the unit

-- no serial passes its session's count of commands, none stands twice, and a session to come has none
pub record UnitOk (h : List Entry) : Type 0 where
  pub below : (at session serial : ℕ) → IsEntryAt h at session serial → serial ≤ commands session h
  pub once : (at other session serial : ℕ) → IsEntryAt h at session serial → IsEntryAt h other session serial → at ≡ other
  pub none : (session : ℕ) → length h ≤ session → commands session h ≡ 0

pub no_entry : UnitOk []
no_entry = record {
  below = λ at session serial of. let n = of.1 in absurd (cc);
  once = λ at other session serial of also. let n = of.1 in absurd (cc);
  none = λ session le. refl;
}

-- the entry has the next serial of a session that there is
abbrev pub Fits : List Entry → Entry → Type 0
Fits h e = (session serial : ℕ) → IsOf e session serial → (commands session h + 1 ≡ serial) × (session < length h)

module _ (h : List Entry) (e : Entry) (fits : Fits h e) (ok : UnitOk h) where
  below_more : (at session serial : ℕ) → IsEntryAt (h ++ e ∷ []) at session serial → serial ≤ commands session (h ++ e ∷ [])
  below_more at session serial of =
      let more = commands_pushed session h e in
      ⊎_elim (λ (o : IsEntryAt h at session serial). let le = ok.below at session serial o in omega arith)
      (λ (t : (at ≡ length h) × IsOf e session serial).
      let f = (fits session serial t.1).0 in let one = counts e session serial t.1 in omega arith)
      (entry_pushed h e at session serial of)

  apart : (at session serial : ℕ) → IsEntryAt h at session serial → IsOf e session serial → ⊥
  apart at session serial o t =
      let le = ok.below at session serial o in let f = (fits session serial t).0 in absurd (omega arith)

  once_more : (at other session serial : ℕ) → IsEntryAt (h ++ e ∷ []) at session serial
      → IsEntryAt (h ++ e ∷ []) other session serial → at ≡ other
  once_more at other session serial of also =
      ⊎_elim
      (λ (o : IsEntryAt h at session serial).
      ⊎_elim (λ (p : IsEntryAt h other session serial). ok.once at other session serial o p)
      (λ (u : (other ≡ length h) × IsOf e session serial). absurd (apart at session serial o u.1))
      (entry_pushed h e other session serial also))
      (λ (t : (at ≡ length h) × IsOf e session serial).
      ⊎_elim (λ (p : IsEntryAt h other session serial). absurd (apart other session serial p t.1))
      (λ (u : (other ≡ length h) × IsOf e session serial). t.0 ∙ sym u.0)
      (entry_pushed h e other session serial also))
      (entry_pushed h e at session serial of)

  none_more : (session : ℕ) → length (h ++ e ∷ []) ≤ session → commands session (h ++ e ∷ []) ≡ 0
  none_more session le =
      let l = longer h e in
      let more = commands_pushed session h e in
      let before = ok.none session (omega arith) in
      ⊎_elim (λ (z : command session e ≡ 0). let y = z in omega arith)
      (λ (t : (serial : ℕ) × IsOf e session serial). let f = (fits session t.0 t.1).1 in absurd (omega arith))
      (counts_or_not e session)

  pub unit_grows : UnitOk (h ++ e ∷ [])
  unit_grows = record { below = below_more; once = once_more; none = none_more }

-- ---- its sessions, and what was noted of it

-- the session's serial is the next
abbrev pub IsUnserved : List Entry → Session → Type 0
IsUnserved h x = commands x.id h + 1 ≡ x.next

-- a submit of its command was noted, and no end of it behind that
pub record IsHandedIn (h : List Entry) (notes : List Note) (unit_at id next : ℕ) : Type 0 where
  pub place : ℕ
  pub note : Note
  pub there : IsNoted notes place note
  pub is : note.what ≡ Submitted
  pub unit : note.place ≡ unit_at
  pub session : note.session ≡ id
  pub serial : note.serial ≡ next
  pub count : note.count ≤ length h
  pub last : (i : ℕ) (a : Note) → IsNoted notes i a → IsNone a.what → a.place ≡ unit_at → a.session ≡ id
      → a.serial ≡ next → i < place

-- a flush began behind its command, when the history had the entry at this place
abbrev pub HasBegun : List Note → ℕ → ℕ → ℕ → ℕ → Type 0
HasBegun notes unit_at id serial at =
    (j : ℕ) × (b : Note) × IsNoted notes j b × (b.what ≡ FlushBegan) × (unit_at ≡ b.place) × (id ≡ b.session) × (b.serial ≡ serial)
    × (at < b.count)

-- its unit is asked what may stand in the place of what was asked
abbrev pub JobOk : Job → Type 0
JobOk job = MatchOption job.late (Unit {0}) (λ asked. IsUnflushed asked job.asked)

-- its command is the entry at a place, with this reply
pub record HasEntry (claims : Bool) (s : UnitState) (h : List Entry) (id serial : ℕ) (by : Group)
    (asked : Result ScsiCommand CdbFault) (bytes : List ℕ) (reply : ReplyValue) (at : ℕ) : Type 0 where
  pub entry : Entry
  pub there : slice_get h at ≡ Some entry
  pub is : IsCommand id serial by asked bytes entry
  pub replies : IsReplyAt claims s h at reply

-- the entry of a command behind which a flush is on its way
pub record FlushOk (claims : Bool) (s : UnitState) (h : List Entry) (notes : List Note) (unit_at id serial : ℕ) (flush : Flush)
    : Type 0 where
  pub served : Result ScsiCommand CdbFault
  pub unflushed : IsUnflushed flush.job.asked served
  pub count : commands id h ≡ serial
  pub next : flush.next ≡ serial + 1
  pub entry : HasEntry claims s h id serial flush.job.by_group served flush.job.bytes flush.reply flush.place
  pub good : flush.reply.status ≡ Good
  pub began : HasBegun notes unit_at id serial flush.place

module _ (claims : Bool) (s : UnitState) where
  abbrev pub EndOk : List Entry → Session → Job → End → Type 0
  EndOk h x job (Replied reply at next) =
      (commands x.id h ≡ x.next) × (next ≡ x.next + 1)
      × HasEntry claims s h x.id x.next job.by_group job.asked job.bytes reply at × JobOk job
  EndOk h x job (IsRefused why) = IsUnserved h x

  abbrev pub StageOk : List Entry → List Note → Session → Stage → Type 0
  StageOk h notes x Idle = IsUnserved h x
  StageOk h notes x (Waits job) = IsUnserved h x × IsHandedIn h notes x.place x.id x.next × JobOk job
  StageOk h notes x (InLane job) = IsUnserved h x × IsHandedIn h notes x.place x.id x.next × JobOk job
  StageOk h notes x (Ended job end) = EndOk h x job end
  StageOk h notes x (Answered job end) = EndOk h x job end
  StageOk h notes x (Flushes flush) = FlushOk claims s h notes x.place x.id x.next flush
  StageOk h notes x (Returned job) = IsUnserved h x × JobOk job

  -- what is known of the flush of a command that was told so
  abbrev pub Lasts : List Note → ℕ → Note → ℕ → Bool → Type 0
  Lasts notes i a at is_flushed = (is_flushed ≡ true) × IsFlushedBehind notes i a at

  abbrev pub WhatOk : List Entry → List Note → ℕ → Note → What → Type 0
  WhatOk h notes i a Submitted = (at : ℕ) → IsEntryAt h at a.session a.serial → a.count ≤ at
  WhatOk h notes i a FlushBegan = Unit {0}
  WhatOk h notes i a (HasReply job reply at) =
      (at < a.count) × HasEntry claims s h a.session a.serial job.by_group job.asked job.bytes reply at × (job.late ≡ None)
  WhatOk h notes i a (Settled job told at is_flushed) =
      (at < a.count) × IsSettledAt claims (Lasts notes i a at is_flushed) s h a.session a.serial job told at
  WhatOk h notes i a Busy = (at : ℕ) → IsEntryAt h at a.session a.serial → IsSubmittedBehind notes i a at
  WhatOk h notes i a Gone = (at : ℕ) → IsEntryAt h at a.session a.serial → IsSubmittedBehind notes i a at

  pub record Sound (place : ℕ) (h : List Entry) (sessions : List Session) (notes : List Note) : Type 0 where
    pub unit : UnitOk h
    pub id : (n : ℕ) (x : Session) → slice_get sessions n ≡ Some x → x.place ≡ place → x.id < length h
    pub stage : (n : ℕ) (x : Session) → slice_get sessions n ≡ Some x → x.place ≡ place → StageOk h notes x x.stage
    pub apart : (n m : ℕ) (x y : Session) → slice_get sessions n ≡ Some x → slice_get sessions m ≡ Some y → x.place ≡ place
        → y.place ≡ place → x.id ≡ y.id → n ≡ m
    pub count : (i : ℕ) (a : Note) → IsNoted notes i a → a.place ≡ place → a.count ≤ length h
    pub what : (i : ℕ) (a : Note) → IsNoted notes i a → a.place ≡ place → WhatOk h notes i a a.what
    pub rising : (i j : ℕ) (a b : Note) → i < j → IsNoted notes i a → IsNoted notes j b → a.place ≡ place → b.place ≡ place
        → a.count ≤ b.count

  -- ---- a session changes

  module _ (place : ℕ) (h : List Entry) (sessions : List Session) (notes : List Note) (n : ℕ) (old new : Session)
      (sound : Sound place h sessions notes) (there : slice_get sessions n ≡ Some old) (unit : new.place ≡ old.place)
      (id : new.id ≡ old.id) where
    abbrev written : List Session
    written = slice_set sessions n new

    pub id_written : (m : ℕ) (x : Session) → slice_get written m ≡ Some x → x.place ≡ place → x.id < length h
    id_written m x is at =
        ⊎_elim
        (λ (t : (n ≡ m) × (new ≡ x)).
        subst (λ (i : ℕ). i < length h) (sym id ∙ ap (λ (y : Session). y.id) t.1)
        (sound.id n old there (sym unit ∙ (ap (λ (y : Session). y.place) t.1 ∙ at))))
        (λ (o : (n ≢ m) × (slice_get sessions m ≡ Some x)). sound.id m x o.1 at)
        (get_set sessions n m new old x there is)

    -- what stood there before, by its place and id
    before : (m : ℕ) (x : Session) → slice_get written m ≡ Some x
        → (y : Session) × (slice_get sessions m ≡ Some y) × (y.place ≡ x.place) × (y.id ≡ x.id)
    before m x is =
        ⊎_elim
        (λ (t : (n ≡ m) × (new ≡ x)). (
          old,
          ap (λ (k : ℕ). slice_get sessions k) (sym t.0) ∙ there,
          sym unit ∙ ap (λ (y : Session). y.place) t.1,
          sym id ∙ ap (λ (y : Session). y.id) t.1,
        ))
        (λ (o : (n ≢ m) × (slice_get sessions m ≡ Some x)). (x, o.1, refl, refl)) (get_set sessions n m new old x there is)

    pub apart_written : (m k : ℕ) (x y : Session) → slice_get written m ≡ Some x → slice_get written k ≡ Some y → x.place ≡ place
        → y.place ≡ place → x.id ≡ y.id → m ≡ k
    apart_written m k x y is also at here one =
        let b = before m x is in
        let c = before k y also in
        sound.apart m k b.0 c.0 b.1 c.1 (b.2 ∙ at) (c.2 ∙ here) (b.3 ∙ (one ∙ sym c.3))

    pub session_changes : (old.place ≡ place → StageOk h notes new new.stage) → Sound place h (slice_set sessions n new) notes
    session_changes stage = record {
      unit = sound.unit;
      id = id_written;
      stage = λ m x is at.
          ⊎_elim
          (λ (t : (n ≡ m) × (new ≡ x)). subst (λ (y : Session). StageOk h notes y y.stage) t.1
          (stage (sym unit ∙ (ap (λ (y : Session). y.place) t.1 ∙ at))))
          (λ (o : (n ≢ m) × (slice_get sessions m ≡ Some x)). sound.stage m x o.1 at)
          (get_set sessions n m new old x there is);
      apart = apart_written;
      count = sound.count;
      what = sound.what;
      rising = sound.rising;
    }

  -- ---- a note more

  submitted_kept : (notes : List Note) (new : Note) (i : ℕ) (a : Note) (at : ℕ) → IsSubmittedBehind notes i a at
      → IsSubmittedBehind (notes ++ new ∷ []) i a at
  submitted_kept notes new i a at o = (o.0, o.1, o.2, get_kept notes new o.0 o.1 o.3, o.4, o.5, o.6, o.7)

  flushed_kept : (notes : List Note) (new : Note) (i : ℕ) (a : Note) (at : ℕ) → IsFlushedBehind notes i a at
      → IsFlushedBehind (notes ++ new ∷ []) i a at
  flushed_kept notes new i a at o = (o.0, o.1, o.2, get_kept notes new o.0 o.1 o.3, o.4, o.5, o.6, o.7)

  settled_by : (one two : Type 0) (h : List Entry) (id serial : ℕ) (job : Job) (told : ReplyValue) (at : ℕ) → (one → two)
      → IsSettledAt claims one s h id serial job told at → IsSettledAt claims two s h id serial job told at
  settled_by one two h id serial job told at more o = record {
    before = o.before;
    behind = o.behind;
    served = o.served;
    choice = o.choice;
    is = o.is;
    place = o.place;
    stands = late_by claims one two s o.before id serial job.by_group o.served job.bytes o.choice job.asked told more o.stands;
  }

  what_kept : (h : List Entry) (notes : List Note) (new : Note) (i : ℕ) (a : Note) (what : What) → WhatOk h notes i a what
      → WhatOk h (notes ++ new ∷ []) i a what
  what_kept h notes new i a Submitted ok = ok
  what_kept h notes new i a FlushBegan ok = ok
  what_kept h notes new i a (HasReply job reply at) ok = ok
  what_kept h notes new i a (Settled job told at is_flushed) ok = (
    ok.0,
    settled_by (Lasts notes i a at is_flushed) (Lasts (notes ++ new ∷ []) i a at is_flushed) h a.session a.serial job told at
        (λ (l : Lasts notes i a at is_flushed). (l.0, flushed_kept notes new i a at l.1)) ok.1,
  )
  what_kept h notes new i a Busy ok = λ at of. submitted_kept notes new i a at (ok at of)
  what_kept h notes new i a Gone ok = λ at of. submitted_kept notes new i a at (ok at of)

  -- the note is no end of this session's command
  abbrev pub IsOther : Note → Session → Type 0
  IsOther new x = IsNone new.what → new.place ≡ x.place → new.session ≡ x.id → new.serial ≡ x.next → ⊥

  handed_in_kept : (h : List Entry) (notes : List Note) (new : Note) (x : Session) → IsOther new x → IsHandedIn h notes x.place x.id x.next
      → IsHandedIn h (notes ++ new ∷ []) x.place x.id x.next
  handed_in_kept h notes new x other o = record {
    place = o.place;
    note = o.note;
    is = o.is;
    unit = o.unit;
    session = o.session;
    serial = o.serial;
    count = o.count;
    there = get_kept notes new o.place o.note o.there;
    last = λ i a is none unit id serial.
        ⊎_elim (λ (before : IsNoted notes i a). o.last i a before none unit id serial)
        (λ (t : (i ≡ length notes) × (new ≡ a)). absurd (other (subst (λ (b : Note). IsNone b.what) (sym t.1) none)
        (ap (λ (b : Note). b.place) t.1 ∙ unit) (ap (λ (b : Note). b.session) t.1 ∙ id)
        (ap (λ (b : Note). b.serial) t.1 ∙ serial)))
        (get_pushed notes new i a is);
  }

  -- only of a command that is on its way
  abbrev pub OnItsWay : Stage → Type 0 → Type 0
  OnItsWay Idle P = Unit {0}
  OnItsWay (Waits job) P = P
  OnItsWay (InLane job) P = P
  OnItsWay (Ended job end) P = Unit {0}
  OnItsWay (Answered job end) P = Unit {0}
  OnItsWay (Flushes flush) P = Unit {0}
  OnItsWay (Returned job) P = Unit {0}

  begun_kept : (notes : List Note) (new : Note) (unit_at id serial at : ℕ) → HasBegun notes unit_at id serial at
      → HasBegun (notes ++ new ∷ []) unit_at id serial at
  begun_kept notes new unit_at id serial at o = (o.0, o.1, get_kept notes new o.0 o.1 o.2, o.3, o.4, o.5, o.6, o.7)

  flush_noted : (h : List Entry) (notes : List Note) (new : Note) (unit_at id serial : ℕ) (flush : Flush)
      → FlushOk claims s h notes unit_at id serial flush → FlushOk claims s h (notes ++ new ∷ []) unit_at id serial flush
  flush_noted h notes new unit_at id serial flush o = record {
    served = o.served;
    unflushed = o.unflushed;
    count = o.count;
    next = o.next;
    entry = o.entry;
    good = o.good;
    began = begun_kept notes new unit_at id serial flush.place o.began;
  }

  stage_noted : (h : List Entry) (notes : List Note) (new : Note) (x : Session) (stage : Stage)
      → OnItsWay stage (IsOther new x) → StageOk h notes x stage → StageOk h (notes ++ new ∷ []) x stage
  stage_noted h notes new x Idle other ok = ok
  stage_noted h notes new x (Waits job) other ok = (ok.0, handed_in_kept h notes new x other ok.1, ok.2)
  stage_noted h notes new x (InLane job) other ok = (ok.0, handed_in_kept h notes new x other ok.1, ok.2)
  stage_noted h notes new x (Ended job (Replied reply at next)) other ok = ok
  stage_noted h notes new x (Ended job (IsRefused why)) other ok = ok
  stage_noted h notes new x (Answered job (Replied reply at next)) other ok = ok
  stage_noted h notes new x (Answered job (IsRefused why)) other ok = ok
  stage_noted h notes new x (Flushes flush) other ok = flush_noted h notes new x.place x.id x.next flush ok
  stage_noted h notes new x (Returned job) other ok = ok

  module _ (place : ℕ) (h : List Entry) (sessions : List Session) (notes : List Note) (new : Note)
      (sound : Sound place h sessions notes)
      (fits : new.place ≡ place → (new.count ≡ length h) × WhatOk h (notes ++ new ∷ []) (length notes) new new.what)
      (others : (n : ℕ) (x : Session) → slice_get sessions n ≡ Some x → x.place ≡ place
      → OnItsWay x.stage (IsOther new x)) where
    is_new : (a : Note) → new ≡ a → a.place ≡ place → new.place ≡ place
    is_new a is at = ap (λ (b : Note). b.place) is ∙ at

    rising_more : (i j : ℕ) (a b : Note) → i < j → IsNoted (notes ++ new ∷ []) i a → IsNoted (notes ++ new ∷ []) j b
        → a.place ≡ place → b.place ≡ place → a.count ≤ b.count
    rising_more i j a b lt is also at here =
        ⊎_elim
        (λ (p : IsNoted notes i a).
        ⊎_elim (λ (q : IsNoted notes j b). sound.rising i j a b lt p q at here)
        (λ (u : (j ≡ length notes) × (new ≡ b)).
        let le = sound.count i a p at in
        let l : new.count ≡ length h = (fits (is_new b u.1 here)).0 in
        let same : new.count ≡ b.count = ap (λ (x : Note). x.count) u.1 in omega arith)
        (get_pushed notes new j b also))
        (λ (t : (i ≡ length notes) × (new ≡ a)).
        let m = t.0 in
        ⊎_elim
        (λ (q : IsNoted notes j b). let w = slice_get_within notes j b q in absurd (omega arith))
        (λ (u : (j ≡ length notes) × (new ≡ b)). let k = u.0 in absurd (omega arith)) (get_pushed notes new j b also))
        (get_pushed notes new i a is)

    pub note_added : Sound place h sessions (notes ++ new ∷ [])
    note_added = record {
      unit = sound.unit;
      id = sound.id;
      stage = λ n x is at. stage_noted h notes new x x.stage (others n x is at) (sound.stage n x is at);
      apart = sound.apart;
      count = λ i a is at.
          ⊎_elim (λ (o : IsNoted notes i a). sound.count i a o at)
          (λ (t : (i ≡ length notes) × (new ≡ a)).
          let l : new.count ≡ length h = (fits (is_new a t.1 at)).0 in
          let same : new.count ≡ a.count = ap (λ (x : Note). x.count) t.1 in omega arith)
          (get_pushed notes new i a is);
      what = λ i a is at.
          ⊎_elim (λ (o : IsNoted notes i a). what_kept h notes new i a a.what (sound.what i a o at))
          (λ (t : (i ≡ length notes) × (new ≡ a)).
          subst (λ (b : Note). WhatOk h (notes ++ new ∷ []) i b b.what) t.1
          (subst (λ (k : ℕ). WhatOk h (notes ++ new ∷ []) k new new.what) (sym t.0) (fits (is_new a t.1 at)).1))
          (get_pushed notes new i a is);
      rising = rising_more;
    }

  -- ---- an entry more

  entry_stays : (h : List Entry) (e : Entry) (id serial : ℕ) (by : Group) (asked : Result ScsiCommand CdbFault) (bytes : List ℕ)
      (reply : ReplyValue) (at : ℕ) → HasEntry claims s h id serial by asked bytes reply at
      → HasEntry claims s (h ++ e ∷ []) id serial by asked bytes reply at
  entry_stays h e id serial by asked bytes reply at o = record {
    entry = o.entry;
    there = get_kept h e at o.entry o.there;
    is = o.is;
    replies = reply_kept claims s h e at reply o.replies;
  }

  unserved_kept : (h : List Entry) (e : Entry) (x : Session) → command x.id e ≡ 0 → IsUnserved h x → IsUnserved (h ++ e ∷ []) x
  unserved_kept h e x none ok = let more = commands_pushed x.id h e in let z = none in omega arith

  handed_in_later : (h : List Entry) (e : Entry) (notes : List Note) (x : Session) → IsHandedIn h notes x.place x.id x.next
      → IsHandedIn (h ++ e ∷ []) notes x.place x.id x.next
  handed_in_later h e notes x o = record {
    place = o.place;
    note = o.note;
    there = o.there;
    is = o.is;
    unit = o.unit;
    session = o.session;
    serial = o.serial;
    count = let l = longer h e in let c = o.count in omega arith;
    last = o.last;
  }

  end_kept : (h : List Entry) (e : Entry) (x : Session) (job : Job) (end : End) → command x.id e ≡ 0 → EndOk h x job end
      → EndOk (h ++ e ∷ []) x job end
  end_kept h e x job (Replied reply at next) none ok = (
    let more = commands_pushed x.id h e in let z = none in let k = ok.0 in omega arith,
    ok.1,
    entry_stays h e x.id x.next job.by_group job.asked job.bytes reply at ok.2,
    ok.3,
  )
  end_kept h e x job (IsRefused why) none ok = unserved_kept h e x none ok

  pub stage_kept : (h : List Entry) (e : Entry) (notes : List Note) (x : Session) (stage : Stage) → command x.id e ≡ 0
      → StageOk h notes x stage → StageOk (h ++ e ∷ []) notes x stage
  stage_kept h e notes x Idle none ok = unserved_kept h e x none ok
  stage_kept h e notes x (Waits job) none ok = (unserved_kept h e x none ok.0, handed_in_later h e notes x ok.1, ok.2)
  stage_kept h e notes x (InLane job) none ok = (unserved_kept h e x none ok.0, handed_in_later h e notes x ok.1, ok.2)
  stage_kept h e notes x (Ended job end) none ok = end_kept h e x job end none ok
  stage_kept h e notes x (Answered job end) none ok = end_kept h e x job end none ok
  stage_kept h e notes x (Flushes flush) none ok = record {
    served = ok.served;
    unflushed = ok.unflushed;
    count = let more = commands_pushed x.id h e in let z = none in let k = ok.count in omega arith;
    next = ok.next;
    entry = entry_stays h e x.id x.next flush.job.by_group ok.served flush.job.bytes flush.reply flush.place ok.entry;
    good = ok.good;
    began = ok.began;
  }
  stage_kept h e notes x (Returned job) none ok = (unserved_kept h e x none ok.0, ok.1)

  settled_later : (lasts : Type 0) (h : List Entry) (e : Entry) (id serial : ℕ) (job : Job) (told : ReplyValue) (at : ℕ)
      → IsSettledAt claims lasts s h id serial job told at → IsSettledAt claims lasts s (h ++ e ∷ []) id serial job told at
  settled_later lasts h e id serial job told at o =
      let it : Entry = Command id serial job.by_group o.served job.bytes o.choice in
      record {
        before = o.before;
        behind = o.behind ++ e ∷ [];
        served = o.served;
        choice = o.choice;
        is = ap (λ (z : List Entry). z ++ e ∷ []) o.is ∙ append_assoc (o.before ++ it ∷ []) o.behind (e ∷ []);
        place = o.place;
        stands = o.stands;
      }

  -- an end of a command has its submit behind it where the entry is such a command
  abbrev pub HasSubmits : ℕ → List Entry → Entry → List Note → Type 0
  HasSubmits place h e notes =
      (i : ℕ) (a : Note) → IsNoted notes i a → IsNone a.what → a.place ≡ place → IsOf e a.session a.serial
      → IsSubmittedBehind notes i a (length h)

  module _ (place : ℕ) (h : List Entry) (e : Entry) (notes : List Note) (submits : HasSubmits place h e notes) where
    ended_more : (i : ℕ) (a : Note) → IsNoted notes i a → IsNone a.what → a.place ≡ place
        → ((at : ℕ) → IsEntryAt h at a.session a.serial → IsSubmittedBehind notes i a at)
        → (at : ℕ) → IsEntryAt (h ++ e ∷ []) at a.session a.serial → IsSubmittedBehind notes i a at
    ended_more i a is none unit ok at of =
        ⊎_elim (λ (o : IsEntryAt h at a.session a.serial). ok at o)
        (λ (t : (at ≡ length h) × IsOf e a.session a.serial).
        subst (λ (k : ℕ). IsSubmittedBehind notes i a k) (sym t.0) (submits i a is none unit t.1))
        (entry_pushed h e at a.session a.serial of)

    pub what_later : (i : ℕ) (a : Note) (what : What) → a.what ≡ what → IsNoted notes i a → a.place ≡ place
        → a.count ≤ length h → WhatOk h notes i a what → WhatOk (h ++ e ∷ []) notes i a what
    what_later i a Submitted same is unit le ok = λ at of.
        ⊎_elim (λ (o : IsEntryAt h at a.session a.serial). ok at o)
        (λ (t : (at ≡ length h) × IsOf e a.session a.serial). let m = t.0 in omega arith)
        (entry_pushed h e at a.session a.serial of)
    what_later i a FlushBegan same is unit le ok = ok
    what_later i a (HasReply job reply at) same is unit le ok =
        (ok.0, entry_stays h e a.session a.serial job.by_group job.asked job.bytes reply at ok.1, ok.2)
    what_later i a (Settled job told at is_flushed) same is unit le ok =
        (ok.0, settled_later (Lasts notes i a at is_flushed) h e a.session a.serial job told at ok.1)
    what_later i a Busy same is unit le ok = ended_more i a is (subst (λ (w : What). IsNone w) (sym same) tt) unit ok
    what_later i a Gone same is unit le ok = ended_more i a is (subst (λ (w : What). IsNone w) (sym same) tt) unit ok

  -- the unit has an entry more, behind which its sessions are these
  pub entry_added : (place : ℕ) (h : List Entry) (e : Entry) (sessions after : List Session) (notes : List Note)
      → Sound place h sessions notes → Fits h e → HasSubmits place h e notes
      → ((n : ℕ) (x : Session) → slice_get after n ≡ Some x → x.place ≡ place → x.id < length (h ++ e ∷ []))
      → ((n : ℕ) (x : Session) → slice_get after n ≡ Some x → x.place ≡ place → StageOk (h ++ e ∷ []) notes x x.stage)
      → ((n m : ℕ) (x y : Session) → slice_get after n ≡ Some x → slice_get after m ≡ Some y → x.place ≡ place
      → y.place ≡ place → x.id ≡ y.id → n ≡ m)
      → Sound place (h ++ e ∷ []) after notes
  entry_added place h e sessions after notes sound fits submits ids stages apart_now = record {
    unit = unit_grows h e fits sound.unit;
    id = ids;
    stage = stages;
    apart = apart_now;
    count = λ i a is at. let l = longer h e in let c = sound.count i a is at in omega arith;
    what = λ i a is at. what_later place h e notes submits i a a.what refl is at (sound.count i a is at) (sound.what i a is at);
    rising = sound.rising;
  }

  -- an entry that is no command
  pub quiet_entry : (place : ℕ) (h : List Entry) (e : Entry) (sessions : List Session) (notes : List Note)
      → ((session : ℕ) → command session e ≡ 0) → Sound place h sessions notes → Sound place (h ++ e ∷ []) sessions notes
  quiet_entry place h e sessions notes quiet sound =
      let no = λ (session serial : ℕ) (of : IsOf e session serial).
      let one = counts e session serial of in let z = quiet session in absurd (omega arith) in
      entry_added place h e sessions sessions notes sound (λ session serial of. absurd (no session serial of))
      (λ i a is none unit of. absurd (no a.session a.serial of))
      (λ n x is at. let l = longer h e in let b = sound.id n x is at in omega arith)
      (λ n x is at. stage_kept h e notes x x.stage (quiet x.id) (sound.stage n x is at)) sound.apart
