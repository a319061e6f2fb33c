-- A call of the unit is one entry more of whatever history leads to it.
use Rattle.std.proofs.Common.{◌≡◌, ◌≢◌, ◌⊎◌, inl, inr, ⊎_elim, ℕ, ◌+◌, ◌<◌, ◌≤◌, ◌^◌, nat_eq, Bool, true, false, not}
use Rattle.std.proofs.Common.{if◌then◌else◌, ◌&&◌, List, [], ◌∷◌, ◌++◌, length, Option, Some, None, Result, Ok, Err, refl, sym, ap}
use Rattle.std.proofs.Common.{◌∙◌, subst, arith}
use Rattle.std.specs.Prelude.{IsSome, IsTrue}
use Rattle.std.proofs.lemmas.Bool.Decides.{eqb_tells}
use Rattle.access_states.specs.AccessMap.{AccessMapValue}
use Rattle.access_states.specs.Change.{change_between}
use Rattle.access_states.specs.declared.change.Change.{Change}
use Rattle.block_file.specs.Failures.{Tells, last_count}
use Rattle.scsi_types.specs.Nexus.{Nexus}
use Rattle.scsi_types.specs.ReplyValue.{ReplyValue}
use Rattle.scsi_types.specs.declared.names.Group.{Group}
use Rattle.scsi_types.specs.declared.command.Command.{Command as ScsiCommand}
use Rattle.scsi_types.specs.declared.command.CdbFault.{CdbFault}
use Rattle.status.specs.Views.{counted, IsOwn}
use Rattle.unit_control.specs.Limits.{last_length}
use Rattle.unit_control.specs.declared.sessions.Attached.{Attached}
use Rattle.unit_state.specs.declared.unit.MoveFault.{MoveFault}
use Rattle.unit_state.specs.declared.unit.MoveFault.TheVariants as faults
use Rattle.unit_control.specs.State.{ControlValue, UnitState, UnitValue, unit_of, state_of, failures_of}
use Rattle.unit_control.specs.Choice.{Choice, Fine, is_fine, choice_of}
use Rattle.unit_control.specs.Sessions.{ended, last_nexus, next_of, session_of}
use Rattle.unit_control.specs.Entry.{Entry, Attach, Detach, Reset, Move, Command, HasRoom, IsAttached, IsNext, IsPossible, IsReplyTo}
use Rattle.unit_control.specs.Entry.{after, blocks_after, control_after}
use Rattle.unit_state.proofs.EntryLaws.{possible_over, reply_over}
use Rattle.unit_state.specs.History.{state_after, IsReplyAt, has_failed, failed_entries}
use Rattle.unit_state.proofs.HistoryLaws.{state_after-snoc, IsLegal-snoc, failed-snoc, failed-le-length, last_attached}
use Rattle.unit_state.specs.Moves.{IsMove}
use Rattle.unit_state.specs.Serials.{IsNumbered, IsOpening, commands_of}
use Rattle.unit_state.proofs.SerialLaws.{numbered}
use Rattle.unit_state.specs.Step.{IsStep, entry_of}
use Rattle.unit_entries.specs.Histories.{IsHistory, IsBehind, IsToldBehind, own, command}
use Rattle.unit_entries.specs.NoEntry.{IsFull, IsSessionGone, IsUnattached}
use Rattle.unit_entries.specs.Histories.{IsMoveTold}

-- ---- whose entries they are

same : (i : ℕ) → nat_eq i i ≡ true
same i = ⊎_elim (λ (t : (nat_eq i i ≡ true) × (i ≡ i)). t.0) (λ (f : (nat_eq i i ≡ false) × (i ≢ i)). absurd (f.1 refl)) (eqb_tells i i)

other : (i r : ℕ) → (r ≡ i → ⊥) → nat_eq i r ≡ false
other i r n = ⊎_elim (λ (t : (nat_eq i r ≡ true) × (i ≡ r)). absurd (n (sym t.1))) (λ (f : (nat_eq i r ≡ false) × (i ≢ r)). f.0) (eqb_tells i r)

pub own_command : (i n : ℕ) (g : Group) (asked : Result ScsiCommand CdbFault) (bytes : List ℕ) (choice : Choice)
    → IsOwn own command i (Command i n g asked bytes choice)
own_command i n g asked bytes choice =
    record { one = rw (same i) refl; others = λ r m. (rw (other i r m) refl, rw (other i r m) refl) }

-- ---- the room of an entry

room_of : (claims : Bool) (s : UnitState) (e : Entry) → IsPossible claims s e → s.control.count < last_length
room_of claims s (Attach nexus) p = p.room
room_of claims s (Detach i) p = p.room
room_of claims s (Reset i) p = p.room
room_of claims s (Move list choice) p = p.room
room_of claims s (Command i n g asked bytes choice) p = p.next.room

numbers : (claims : Bool) (s : UnitState) (h : List Entry) → IsHistory claims s h → IsNumbered h (state_after s h).control
numbers claims s h l = numbered claims s h l.opens l.legal

-- ---- what a history shows of a session

some_of : (o : Option ℕ) → IsSome o → (n : ℕ) × (o ≡ Some n)
some_of None f = absurd (cc)
some_of (Some n) f = (n, refl)

gone_by : (c : ControlValue) (i : ℕ) (o : Option Attached) → session_of c.sessions i ≡ o → (IsAttached c i → ⊥)
    → (session_of c.sessions i ≡ None) ⊎ (last_length ≤ c.count)
gone_by c i None is n = inl is
gone_by c i (Some a) is n =
    let full : c.count < last_length → ⊥ = λ room. n record { room = room; attached = rw is refl } in
    inr (omega (arith, full))

pub gone : (s : UnitState) (h : List Entry) (c : ControlValue) (i : ℕ) → c ≡ (state_after s h).control
    → (IsAttached c i → ⊥) → IsSessionGone s h i
gone s h c i is n =
    let at = (state_after s h).control in
    gone_by at i (session_of at.sessions i) refl (subst (λ (x : ControlValue). IsAttached x i → ⊥) is n)

pub full : (s : UnitState) (h : List Entry) (c : ControlValue) (nexus : Nexus) → c ≡ (state_after s h).control
    → (HasRoom c nexus → ⊥) → IsFull s h nexus
full s h c nexus is n = subst (λ (x : ControlValue). HasRoom x nexus → ⊥) is n

session_next : (sessions : List Attached) (i : ℕ) (o : Option Attached) → session_of sessions i ≡ o → IsSome o
    → (n : ℕ) × (next_of sessions i ≡ Some n)
session_next sessions i None is some = absurd (cc)
session_next sessions i (Some a) is some = (a.next, rw is refl)

-- a session that is attached has the serial behind its commands
pub gone_next : (claims : Bool) (s : UnitState) (h : List Entry) (c : ControlValue) (i n : ℕ) → IsHistory claims s h
    → c ≡ (state_after s h).control → counted command i h + 1 ≡ n → (IsNext c i n → ⊥) → IsSessionGone s h i
gone_next claims s h c i n l is serial f =
    let at = (state_after s h).control in
    gone s h at i refl (λ (a : IsAttached at i).
    let o = session_next at.sessions i (session_of at.sessions i) refl a.attached in
    let k : o.0 ≡ commands_of i h + 1 = (numbers claims s h l).next i o.0 o.1 in
    let m : o.0 ≡ n = k ∙ serial in
    subst (λ (x : ControlValue). IsNext x i n → ⊥) is f
    (record { room = a.room; next = o.1 ∙ ap (λ (x : ℕ). let p : Option ℕ = Some x in p) m }))

filtered : (keeps : Bool) (a : Attached) (xs : List Attached) (i : ℕ) → keeps ≡ not (nat_eq a.id i) → session_of xs i ≡ None
    → session_of (if keeps then a ∷ xs else xs) i ≡ None
filtered true a xs i is none =
    ⊎_elim (λ (t : (nat_eq a.id i ≡ true) × (a.id ≡ i)). absurd (let x : true ≡ not true = is ∙ ap not t.0 in cc))
    (λ (f : (nat_eq a.id i ≡ false) × (a.id ≢ i)). rw f.0 none) (eqb_tells a.id i)
filtered false a xs i is none = none

ended_absent : (xs : List Attached) (i : ℕ) → session_of (ended xs i) i ≡ None
ended_absent [] i = refl
ended_absent (a ∷ xs) i = filtered (not (nat_eq a.id i)) a (ended xs i) i refl (ended_absent xs i)

-- the entry at the end of a history is answered as it is behind that
told_at : (claims : Bool) (s : UnitState) (h : List Entry) (e : Entry) (reply : ReplyValue)
    → IsReplyTo claims (state_after s h) e reply → IsReplyAt claims s (h ++ e ∷ []) (length h) reply
told_at claims s [] e reply is = is
told_at claims s (x ∷ h) e reply is = told_at claims (after s x) h e reply is

-- ---- failures

abbrev fails : Bool → ℕ
fails fine = if not fine then 1 else 0

-- the devices have counted the failure that the entry tells of
told_failure : (h : List Entry) (before now : ℕ) (fine : Bool) → failed_entries h ≤ before → length h + 1 ≤ last_count
    → Tells before now (IsTrue fine) → failed_entries h + fails fine ≤ now
told_failure h before now true le long t = let x = t.later in omega arith
told_failure h before now false le long t =
    bound (failed_entries h) before now (length h) le (failed-le-length h) long t.later (λ lt. t.rises lt (λ f. absurd (cc)))
  where
    bound : (f b n len : ℕ) → f ≤ b → f ≤ len → len + 1 ≤ last_count → b ≤ n → (b < last_count → b < n) → f + 1 ≤ n
    bound f b n len fb fl ll bn r = grind (arith, r)

-- ---- one entry more

and_right : (a b : Bool) → IsTrue (a && b) → IsTrue b
and_right true b h = h
and_right false b h = absurd (cc)

module _ {B R O : Type 0} (claims : Bool) (contents : B → List (List ℕ)) (failures : B → ℕ) (opens_failed : O → ℕ)
    (file_failures : R → ℕ) where
  abbrev Is : UnitState → List Entry → UnitValue B R O → Type 0
  Is = IsBehind claims contents failures opens_failed file_failures

  abbrev count : UnitValue B R O → ℕ
  count = failures_of failures opens_failed file_failures

  abbrev Done : UnitState → List Entry → Entry → UnitValue B R O → Type 0
  Done s h e new = IsHistory claims s (h ++ e ∷ []) × Is s (h ++ e ∷ []) new × (length h + 1 < 2 ^ 64)

  -- the state of the unit is that behind the history, where the device claims its blocks
  state_is : (s : UnitState) (h : List Entry) (u : UnitValue B R O) → Is s h u → IsTrue claims → state_of contents u ≡ state_after s h
  state_is s h u a c = λ i. record { control = a.control i; blocks = a.blocks c i }

  possible_at : (s : UnitState) (h : List Entry) (u : UnitValue B R O) (e : Entry) → Is s h u
      → IsPossible claims (state_of contents u) e → IsPossible claims (state_after s h) e
  possible_at s h u e a p =
      let at = state_after s h in
      possible_over claims at.control (contents u.device) at.blocks (λ c. sym (a.blocks c)) e
      (subst (λ (x : ControlValue). IsPossible claims (unit_of x (contents u.device)) e) a.control p)

  reply_behind : (s : UnitState) (h : List Entry) (u : UnitValue B R O) (e : Entry) (reply : ReplyValue) → Is s h u
      → IsReplyTo claims (state_of contents u) e reply → IsToldBehind claims s h e reply
  reply_behind s h u e reply a p =
      let at = state_after s h in
      told_at claims s h e reply
      (reply_over claims at.control (contents u.device) at.blocks (λ c. sym (a.blocks c)) e reply
      (subst (λ (x : ControlValue). IsReplyTo claims (unit_of x (contents u.device)) e reply) a.control p))

  stepped : (s : UnitState) (h : List Entry) (old new : UnitValue B R O) (e : Entry) → IsHistory claims s h → Is s h old
      → IsPossible claims (state_of contents old) e → new.control ≡ control_after old.control e
      → (IsTrue claims → contents new.device ≡ blocks_after (state_of contents old) e)
      → (length h + 1 ≤ last_count → failed_entries h + (if has_failed e then 1 else 0) ≤ count new) → Done s h e new
  stepped s h old new e l a p control blocks fails =
      let at = state_after s h in
      let may = possible_at s h old e a p in
      let n = (numbers claims s h l).count in
      let room = room_of claims at e may in
      let f = fails (omega arith) in
      let q = failed-snoc h e in
      let end = state_after-snoc s h e in (
        record { opens = l.opens; legal = (IsLegal-snoc claims s h e).1 (l.legal, may) },
        record {
          control = control ∙ (ap (λ (x : ControlValue). control_after x e) a.control ∙ ap (λ (x : UnitState). x.control) (sym end));
          blocks = λ c. blocks c
              ∙ (ap (λ (x : UnitState). blocks_after x e) (state_is s h old a c) ∙ ap (λ (x : UnitState). x.blocks) (sym end));
          failed = omega arith;
        },
        omega arith,
      )

  -- an entry that leaves the devices alone
  quiet : (s : UnitState) (h : List Entry) (old new : UnitValue B R O) (e : Entry) → IsHistory claims s h → Is s h old
      → IsPossible claims (state_of contents old) e → new.control ≡ control_after old.control e
      → new.device ≡ old.device → new.opener ≡ old.opener → new.file ≡ old.file
      → blocks_after (state_of contents old) e ≡ contents old.device → has_failed e ≡ false → Done s h e new
  quiet s h old new e l a p control device opener file blocks none =
      let d = ap failures device in
      let o = ap opens_failed opener in
      let r = ap (λ x. file_failures x.device) file in
      let f = a.failed in
      stepped s h old new e l a p control (λ c. ap contents device ∙ sym blocks)
      (λ long. rw none (omega arith))

  -- a call that is none
  pub stays : (s : UnitState) (h : List Entry) (old new : UnitValue B R O) → Is s h old → new.control ≡ old.control
      → (IsTrue claims → contents new.device ≡ contents old.device) → count old ≤ count new → Is s h new
  stays s h old new a control blocks more = record {
    control = control ∙ a.control;
    blocks = λ c. blocks c ∙ a.blocks c;
    failed = let f = a.failed in omega arith;
  }

  pub attach_done : (old new : UnitValue B R O) (nexus : Nexus) (id : ℕ) → HasRoom old.control nexus → id ≡ old.control.count
      → new.control ≡ control_after old.control (Attach nexus) → new.device ≡ old.device → new.opener ≡ old.opener
      → new.file ≡ old.file → (s : UnitState) (h : List Entry) → IsHistory claims s h → Is s h old
      → (id ≡ length h) × IsHistory claims s (h ++ Attach nexus ∷ []) × Is s (h ++ Attach nexus ∷ []) new × (length h + 1 < 2 ^ 64)
  attach_done old new nexus id room is control device opener file s h l a =
      let d = quiet s h old new (Attach nexus) l a room control device opener file refl refl in
      (is ∙ (ap (λ (x : ControlValue). x.count) a.control ∙ (numbers claims s h l).count), d.0, d.1, d.2)

  pub detach_done : (old new : UnitValue B R O) (i : ℕ) → IsAttached old.control i
      → new.control ≡ control_after old.control (Detach i) → new.device ≡ old.device → new.opener ≡ old.opener
      → new.file ≡ old.file → (s : UnitState) (h : List Entry) → IsHistory claims s h → Is s h old
      → IsHistory claims s (h ++ Detach i ∷ []) × Is s (h ++ Detach i ∷ []) new × IsUnattached s (h ++ Detach i ∷ []) i × (length h + 1 < 2 ^ 64)
  detach_done old new i was control device opener file s h l a =
      let d = quiet s h old new (Detach i) l a was control device opener file refl refl in
      let end = state_after-snoc s h (Detach i) in (
        d.0,
        d.1,
        subst (λ (x : UnitState). session_of x.control.sessions i ≡ None) (sym end) (ended_absent (state_after s h).control.sessions i),
        d.2,
      )

  pub reset_done : (old new : UnitValue B R O) (i : ℕ) → IsAttached old.control i
      → new.control ≡ control_after old.control (Reset i) → new.device ≡ old.device → new.opener ≡ old.opener
      → new.file ≡ old.file → (s : UnitState) (h : List Entry) → IsHistory claims s h → Is s h old
      → IsHistory claims s (h ++ Reset i ∷ []) × Is s (h ++ Reset i ∷ []) new × (length h + 1 < 2 ^ 64)
  reset_done old new i was control device opener file s h l a =
      quiet s h old new (Reset i) l a was control device opener file refl refl

  pub move_done : (old new : UnitValue B R O) (list : List ℕ) (told : Change) (moved : Result Change MoveFault)
      → moved ≡ Ok told → IsMove claims (state_of contents old) (state_of contents new) list moved
      → Tells (count old) (count new) (moved ≢ Err faults.OpenFailed)
      → (s : UnitState) (h : List Entry) → IsHistory claims s h → Is s h old
      → IsHistory claims s (h ++ Move list Fine ∷ []) × Is s (h ++ Move list Fine ∷ []) new × IsMoveTold s h list told
      × (length h + 1 < 2 ^ 64)
  move_done old new list told moved is all tells s h l a =
      let m = subst (λ (x : Result Change MoveFault). IsMove claims (state_of contents old) (state_of contents new) list x) is all in
      let f = a.failed in
      let t = tells.later in
      let d = stepped s h old new (Move list Fine) l a m.possible m.control m.blocks (λ long. omega arith) in (
        d.0,
        d.1,
        m.tells
            ∙ ap (λ (x : AccessMapValue × AccessMapValue). change_between x.0 x.1) (λ i. ((a.control i).access, (d.1.control i).access)),
        d.2,
      )

  pub step_done : (old new : UnitValue B R O) (i n : ℕ) (g : Group) (asked : Result ScsiCommand CdbFault) (bytes : List ℕ)
      (reply : ReplyValue)
      → IsStep claims (state_of contents old) (state_of contents new) (entry_of i n g asked bytes reply (state_of contents new)) reply
      → Tells (count old) (count new) (IsTrue (is_fine (choice_of reply (contents new.device) new.control.lasting)))
      → (s : UnitState) (h : List Entry) → IsHistory claims s h → Is s h old
      → IsHistory claims s (h ++ entry_of i n g asked bytes reply (state_of contents new) ∷ [])
      × Is s (h ++ entry_of i n g asked bytes reply (state_of contents new) ∷ []) new
      × IsToldBehind claims s h (entry_of i n g asked bytes reply (state_of contents new)) reply × (length h + 1 < 2 ^ 64)
  step_done old new i n g asked bytes reply st tells s h l a =
      let e = entry_of i n g asked bytes reply (state_of contents new) in
      let fine = is_fine (choice_of reply (contents new.device) new.control.lasting) in
      let d = stepped s h old new e l a st.possible st.control st.blocks
      (λ long. told_failure h (count old) (count new) fine a.failed long tells) in
      (d.0, d.1, reply_behind s h old e reply a st.answer, d.2)

  -- the entry of the session that attached last
  pub joined_last : (c new : ControlValue) (nexus : Nexus) → new ≡ control_after c (Attach nexus)
      → (let e : Entry = Attach (last_nexus new.sessions) in e) ≡ Attach nexus
  joined_last c new nexus is = ap (λ (x : ControlValue). let e : Entry = Attach (last_nexus x.sessions) in e) is
      ∙ ap (λ (n : Nexus). let e : Entry = Attach n in e) (last_attached c nexus)

  pub gone_cause : (old : UnitValue B R O) (i n : ℕ) → (IsNext old.control i n → ⊥) → (s : UnitState) (h : List Entry)
      → IsHistory claims s h → Is s h old → counted command i h + 1 ≡ n → IsSessionGone s h i
  gone_cause old i n f s h l a serial = gone_next claims s h old.control i n l a.control serial f

  -- ---- a unit of which nothing was asked yet

  pub opens_history : (s : UnitState) (u : UnitValue B R O) → s ≡ state_of contents u → IsOpening u.control
      → IsHistory claims s []
  opens_history s u is opens =
      record { opens = subst (λ (x : UnitState). IsOpening x.control) (sym is) opens; legal = tt }

  pub opens_behind : (s : UnitState) (u : UnitValue B R O) → s ≡ state_of contents u → Is s [] u
  opens_behind s u is = record {
    control = ap (λ (x : UnitState). x.control) (sym is);
    blocks = λ c. ap (λ (x : UnitState). x.blocks) (sym is);
    failed = omega arith;
  }
