-- Each event keeps what carries the order of a world, of the unit at one place.
use Rattle.std.proofs.Common.{◌≡◌, ◌≢◌, ◌⊎◌, ◌||◌, ⊎_elim, ℕ, ◌+◌, ◌<◌, Bool, true, false, nat_eq, if◌then◌else◌}
use Rattle.std.proofs.Common.{List, [], ◌∷◌, ◌++◌, length, Some, Result, refl, sym, ap, subst, ◌∙◌, arith}
use Rattle.std.specs.Prelude.{IsTrue, MatchOption, slice_get, slice_set}
use Rattle.std.specs.List.{remove}
use Rattle.std.proofs.lemmas.Option.{slice_get_within}
use Rattle.scsi_types.specs.ReplyValue.{ReplyValue}
use Rattle.scsi_types.specs.Nexus.{Nexus}
use Rattle.scsi_types.specs.declared.names.Group.{Group}
use Rattle.scsi_types.specs.declared.names.Group.TheVariants.{One, Two}
use Rattle.unit_control.specs.State.{UnitState}
use Rattle.unit_control.specs.Choice.{Choice}
use Rattle.unit_control.specs.Entry.{Entry, Attach, Command}
use Rattle.unit_entries.specs.Histories.{IsToldBehind, command}
use Rattle.scsi_types.specs.declared.command.Command.{Command as ScsiCommand}
use Rattle.scsi_types.specs.declared.command.CdbFault.{CdbFault}
use Rattle.unit_events.specs.Flushes.{IsUnflushed}
use Rattle.world.specs.Orders.{IsEntryAt, IsNone, IsNoted}
use Rattle.world.specs.Traffic.{Traffic, IsAgain, IsHanded, IsTakenBack, at_stage, attached, begun, closed}
use Rattle.world.specs.Traffic.{ended_in, free, given, given_up, handed_in, in_hand, in_lane}
use Rattle.world.specs.Traffic.{is_closed, is_idle, note_of, noted, posted, put_off, returned_in}
use Rattle.world.specs.Traffic.{submitted, taken_back, waiting, waits_in, with_waiting}
use Rattle.world.specs.declared.note.Note.{Note}
use Rattle.world.specs.declared.note.What.{What}
use Rattle.world.specs.declared.note.What.TheVariants.{Submitted, FlushBegan, Replied as HasReply, Settled, Busy, Gone}
use Rattle.unit_events.specs.declared.job.Job.{Job}
use Rattle.unit_events.specs.declared.job.End.{End}
use Rattle.unit_events.specs.declared.job.End.TheVariants.{Replied}
use Rattle.world.specs.declared.session.Session.{Session}
use Rattle.world.specs.declared.session.Stage.{Stage}
use Rattle.world.specs.declared.session.Stage.TheVariants.{Idle, Waits, InLane, Ended, Answered, Flushes, Returned}
use Rattle.world.proofs.Lists.{get_last, get_pushed, get_set, longer}
use Rattle.world.proofs.Sound.{IsOf, IsUnserved, IsHandedIn, EndOk, StageOk, WhatOk, Sound, IsOther}
use Rattle.world.proofs.Sound.{OnItsWay, session_changes, id_written, apart_written, note_added, entry_added}
use Rattle.world.proofs.Sound.{stage_kept, counts, counts_or_not, commands_pushed, JobOk}

pub on_its_way : (claims : Bool) (s : UnitState) (stage : Stage) (P : Type 0) → P → OnItsWay claims s stage P
on_its_way claims s Idle P p = tt
on_its_way claims s (Waits job) P p = p
on_its_way claims s (InLane job) P p = p
on_its_way claims s (Ended job end) P p = tt
on_its_way claims s (Answered job end) P p = tt
on_its_way claims s (Flushes flush) P p = tt
on_its_way claims s (Returned job) P p = tt

-- what is handed in for a command
pub handed_ok : (is_late : Bool) (job handed : Job) → JobOk job → IsHanded is_late job handed → JobOk handed
handed_ok is_late job handed ok is =
    ⊎_elim (λ (same : handed ≡ job). subst (λ (j : Job). JobOk j) (sym same) ok)
    (λ (off : IsTrue is_late × ((served : Result ScsiCommand CdbFault) × IsUnflushed job.asked served × (handed ≡ put_off job served))).
    subst (λ (j : Job). JobOk j) (sym off.1.2) off.1.1) is

module _ (claims : Bool) (s : UnitState) (place : ℕ) (h : List Entry) where
  abbrev pub IsSound : Traffic → Type 0
  IsSound t = Sound claims s place h t.sessions t.notes

  pub sound_waiting : (t : Traffic) (group : Group) (xs : List ℕ) → IsSound t → IsSound (with_waiting t group xs)
  sound_waiting t One xs sound = sound
  sound_waiting t Two xs sound = sound

  pub sound_closed : (t : Traffic) (group : Group) → IsSound t → IsSound (closed t group)
  sound_closed t One sound = sound
  sound_closed t Two sound = sound

  -- no entry has the serial of a session whose command was not served
  unserved_none : (t : Traffic) (x : Session) (at : ℕ) → IsSound t → IsUnserved h x → IsEntryAt h at x.id x.next → ⊥
  unserved_none t x at sound unserved of =
      let le = sound.unit.below at x.id x.next of in absurd (omega arith)

  -- ---- what a session does

  module _ (t : Traffic) (n : ℕ) (x : Session) (sound : IsSound t) (there : slice_get t.sessions n ≡ Some x) where
    pub to_stage : (stage : Stage) → (x.place ≡ place → StageOk claims s h t.notes (record x { stage = stage }) stage)
        → IsSound (at_stage t n x stage)
    to_stage stage ok =
        session_changes claims s place h t.sessions t.notes n x (record x { stage = stage }) sound there refl refl ok

    ended_what : (count : ℕ) (what : What) → IsNone what → IsUnserved h x
        → WhatOk claims s h (t.notes ++ note_of count x what ∷ []) (length t.notes) (note_of count x what) what
    ended_what count Submitted none unserved = absurd none
    ended_what count FlushBegan none unserved = absurd none
    ended_what count (HasReply job reply at) none unserved = absurd none
    ended_what count (Settled job told at is_flushed) none unserved = absurd none
    ended_what count Busy none unserved = λ at of. absurd (unserved_none t x at sound unserved of)
    ended_what count Gone none unserved = λ at of. absurd (unserved_none t x at sound unserved of)

    pub sound_given_up : (count : ℕ) (what : What) → IsNone what → (x.place ≡ place → count ≡ length h)
        → (x.place ≡ place → IsUnserved h x) → IsSound (given_up count t n x what)
    sound_given_up count what none is unserved =
        let new = free x x.next in
        let idle = session_changes claims s place h t.sessions t.notes n x new sound there refl refl unserved in
        note_added claims s place h (slice_set t.sessions n new) t.notes (note_of count x what) idle
        (λ at. (is at, ended_what count what none (unserved at)))
        (λ m y other at.
        ⊎_elim
        (λ (same : (n ≡ m) × (new ≡ y)).
        subst (λ (z : Session). OnItsWay claims s z.stage (IsOther claims s (note_of count x what) z)) same.1 tt)
        (λ (o : (n ≢ m) × (slice_get t.sessions m ≡ Some y)).
        on_its_way claims s y.stage (IsOther claims s (note_of count x what) y)
        (λ no unit id serial. absurd (o.0 (sound.apart n m x y there o.1 (unit ∙ at) at id))))
        (get_set t.sessions n m new x y there other))

    -- a submit was noted, and its command goes on from there
    submit_noted : (count : ℕ) (stage : Stage) → (x.place ≡ place → count ≡ length h) → (x.place ≡ place → IsUnserved h x)
        → (x.place ≡ place → IsUnserved h x × IsHandedIn h (t.notes ++ note_of count x Submitted ∷ []) x.place x.id x.next
        → StageOk claims s h (t.notes ++ note_of count x Submitted ∷ []) (record x { stage = stage }) stage)
        → IsSound (noted (at_stage t n x stage) (note_of count x Submitted))
    submit_noted count stage is unserved ok =
        let note = note_of count x Submitted in
        let told : Sound claims s place h t.sessions (t.notes ++ note ∷ []) =
        note_added claims s place h t.sessions t.notes note sound
        (λ at. (is at, λ k of. absurd (unserved_none t x k sound (unserved at) of)))
        (λ m y other at. on_its_way claims s y.stage (IsOther claims s note y) (λ no unit id serial. absurd no)) in
        session_changes claims s place h t.sessions (t.notes ++ note ∷ []) n x (record x { stage = stage }) told there refl refl
        (λ at. ok at (
          unserved at,
          record {
            place = length t.notes;
            note = note;
            there = get_last t.notes note;
            is = refl;
            unit = refl;
            session = refl;
            serial = refl;
            count = let c = is at in omega arith;
            last = λ i a noted none unit id serial.
                ⊎_elim (λ (o : IsNoted t.notes i a). slice_get_within t.notes i a o)
                (λ (u : (i ≡ length t.notes) × (note ≡ a)).
                let no : ⊥ = subst (λ (b : Note). IsNone b.what) (sym u.1) none in absurd no)
                (get_pushed t.notes note i a noted);
          },
        ))

    handed : (count : ℕ) (job : Job) (full : Bool) → (x.place ≡ place → count ≡ length h)
        → (x.place ≡ place → IsUnserved h x) → (x.place ≡ place → JobOk job)
        → IsSound (if full
        then given_up count t n x Busy
        else with_waiting (noted (at_stage t n x (Waits job)) (note_of count x Submitted)) job.by_group
        (waiting t job.by_group ++ n ∷ []))
    handed count job true is unserved ok = sound_given_up count Busy tt is unserved
    handed count job false is unserved ok =
        sound_waiting (noted (at_stage t n x (Waits job)) (note_of count x Submitted)) job.by_group
        (waiting t job.by_group ++ n ∷ []) (submit_noted count (Waits job) is unserved (λ at p. (p.0, p.1, ok at)))

    at_once : (count : ℕ) (job : Job) (shut : Bool) → (x.place ≡ place → count ≡ length h)
        → (x.place ≡ place → IsUnserved h x) → (x.place ≡ place → JobOk job)
        → IsSound (if shut
        then given_up count t n x Busy
        else noted (at_stage t n x (InLane job)) (note_of count x Submitted))
    at_once count job true is unserved ok = sound_given_up count Busy tt is unserved
    at_once count job false is unserved ok = submit_noted count (InLane job) is unserved (λ at p. (p.0, p.1, ok at))

    pub sound_in_hand : (count : ℕ) (job : Job) → (x.place ≡ place → count ≡ length h)
        → (x.place ≡ place → IsUnserved h x) → (x.place ≡ place → JobOk job) → IsSound (in_hand count t n x job)
    sound_in_hand count job is unserved ok = at_once count job (is_closed t job.by_group) is unserved ok

    pub sound_handed_in : (count : ℕ) (job : Job) → (x.place ≡ place → count ≡ length h)
        → (x.place ≡ place → IsUnserved h x) → (x.place ≡ place → JobOk job) → IsSound (handed_in count t n x job)
    sound_handed_in count job is unserved ok =
        handed count job (is_closed t job.by_group || nat_eq (length (waiting t job.by_group)) 64) is unserved ok

    -- by the stage of its command
    pub stage_is : (stage : Stage) → x.stage ≡ stage → x.place ≡ place → StageOk claims s h t.notes x stage
    stage_is stage is at = subst (λ (z : Stage). StageOk claims s h t.notes x z) is (sound.stage n x there at)

    where_idle : (new : Traffic) (stage : Stage) → (stage ≡ Idle → IsSound new) → IsSound (if is_idle stage then new else t)
    where_idle new Idle ok = ok refl
    where_idle new (Waits other) ok = sound
    where_idle new (InLane other) ok = sound
    where_idle new (Ended other end) ok = sound
    where_idle new (Answered other end) ok = sound
    where_idle new (Flushes flush) ok = sound
    where_idle new (Returned other) ok = sound

    pub sound_submitted : (count : ℕ) (job : Job) → (x.place ≡ place → count ≡ length h)
        → (x.place ≡ place → JobOk job)
        → IsSound (submitted count t n x job)
    sound_submitted count job c ok =
        where_idle (handed_in count t n x job) x.stage (λ is. sound_handed_in count job c (λ at. stage_is Idle is at) ok)

    pub sound_begun : (count : ℕ) (job : Job) → (x.place ≡ place → count ≡ length h)
        → (x.place ≡ place → JobOk job) → IsSound (begun count t n x job)
    sound_begun count job c ok =
        where_idle (in_hand count t n x job) x.stage (λ is. sound_in_hand count job c (λ at. stage_is Idle is at) ok)

    -- a command that came to Moved goes on once more
    abbrev Sent : (Traffic → ℕ → Session → Job → Traffic) → Bool → Traffic → Job → Type 0
    Sent send is_late new job = (handed : Job) × IsHanded is_late job handed × (new ≡ send t n x handed)

    again_or_not : (send : Traffic → ℕ → Session → Job → Traffic) (is_late : Bool) (new : Traffic) (stage : Stage) → x.stage ≡ stage
        → ((job : Job) → (x.place ≡ place → IsUnserved h x) → (x.place ≡ place → JobOk job) → IsSound (send t n x job))
        → MatchOption (returned_in stage) (new ≡ t) (Sent send is_late new) → IsSound new
    again_or_not send is_late new Idle is sends did = subst IsSound (sym did) sound
    again_or_not send is_late new (Waits job) is sends did = subst IsSound (sym did) sound
    again_or_not send is_late new (InLane job) is sends did = subst IsSound (sym did) sound
    again_or_not send is_late new (Ended job end) is sends did = subst IsSound (sym did) sound
    again_or_not send is_late new (Answered job end) is sends did = subst IsSound (sym did) sound
    again_or_not send is_late new (Flushes flush) is sends did = subst IsSound (sym did) sound
    again_or_not send is_late new (Returned job) is sends did =
        subst IsSound (sym did.2)
        (sends did.0 (λ at. (stage_is (Returned job) is at).0)
        (λ at. handed_ok is_late job did.0 (stage_is (Returned job) is at).1 did.1))

    pub sound_submitted_again : (count : ℕ) (is_late : Bool) (new : Traffic) → (x.place ≡ place → count ≡ length h)
        → IsAgain (handed_in count) is_late t n x new → IsSound new
    sound_submitted_again count is_late new c did =
        again_or_not (handed_in count) is_late new x.stage refl (λ job unserved ok. sound_handed_in count job c unserved ok) did

    pub sound_begun_again : (count : ℕ) (is_late : Bool) (new : Traffic) → (x.place ≡ place → count ≡ length h)
        → IsAgain (in_hand count) is_late t n x new → IsSound new
    sound_begun_again count is_late new c did =
        again_or_not (in_hand count) is_late new x.stage refl (λ job unserved ok. sound_in_hand count job c unserved ok) did

    abbrev Back : Traffic → Job → Type 0
    Back new job = ((at : ℕ) × (slice_get (waiting t job.by_group) at ≡ Some n) × (new ≡ taken_back t n x job at))
        ⊎ (((at : ℕ) → slice_get (waiting t job.by_group) at ≡ Some n → ⊥) × (new ≡ t))

    back_or_not : (new : Traffic) (stage : Stage) → x.stage ≡ stage → MatchOption (waits_in stage) (new ≡ t) (Back new)
        → IsSound new
    back_or_not new Idle is did = subst IsSound (sym did) sound
    back_or_not new (Waits job) is did =
        ⊎_elim
        (λ (b : (at : ℕ) × (slice_get (waiting t job.by_group) at ≡ Some n) × (new ≡ taken_back t n x job at)).
        subst IsSound (sym b.2)
        (sound_waiting (at_stage t n x (InLane job)) job.by_group (remove (waiting t job.by_group) b.0)
        (to_stage (InLane job) (λ at. stage_is (Waits job) is at))))
        (λ (b : ((at : ℕ) → slice_get (waiting t job.by_group) at ≡ Some n → ⊥) × (new ≡ t)).
        subst IsSound (sym b.1) sound) did
    back_or_not new (InLane job) is did = subst IsSound (sym did) sound
    back_or_not new (Ended job end) is did = subst IsSound (sym did) sound
    back_or_not new (Answered job end) is did = subst IsSound (sym did) sound
    back_or_not new (Flushes flush) is did = subst IsSound (sym did) sound
    back_or_not new (Returned job) is did = subst IsSound (sym did) sound

    pub sound_taken_back : (new : Traffic) → IsTakenBack t n x new → IsSound new
    sound_taken_back new did = back_or_not new x.stage refl did

    waits_or_not : (stage : Stage) → x.stage ≡ stage → IsSound (given t (waits_in stage) (λ job. at_stage t n x (InLane job)))
    waits_or_not Idle is = sound
    waits_or_not (Waits job) is = to_stage (InLane job) (λ at. stage_is (Waits job) is at)
    waits_or_not (InLane job) is = sound
    waits_or_not (Ended job end) is = sound
    waits_or_not (Answered job end) is = sound
    waits_or_not (Flushes flush) is = sound
    waits_or_not (Returned job) is = sound

    pub sound_in_lane : IsSound (in_lane t n x)
    sound_in_lane = waits_or_not x.stage refl

    ended_or_not : (stage : Stage) → x.stage ≡ stage
        → IsSound (given t (ended_in stage) (λ a. at_stage t n x (Answered a.0 a.1)))
    ended_or_not Idle is = sound
    ended_or_not (Waits job) is = sound
    ended_or_not (InLane job) is = sound
    ended_or_not (Ended job end) is = to_stage (Answered job end) (λ at. stage_is (Ended job end) is at)
    ended_or_not (Answered job end) is = sound
    ended_or_not (Flushes flush) is = sound
    ended_or_not (Returned job) is = sound

    pub sound_posted : IsSound (posted t n x)
    sound_posted = ended_or_not x.stage refl

    -- a lane's answer where its unit added no entry
    pub sound_ended : (job : Job) (end : End) → (x.place ≡ place → EndOk claims s h x job end)
        → IsSound (at_stage t n x (Ended job end))
    sound_ended job end ok = to_stage (Ended job end) ok

    -- and where it added one
    module _ (job : Job) (reply : ReplyValue) (choice : Choice) (at : x.place ≡ place) (unserved : IsUnserved h x)
        (handed_over : IsHandedIn h t.notes x.place x.id x.next) (put : JobOk job) where
      abbrev e : Entry
      e = Command x.id x.next job.by_group job.asked job.bytes choice

      is_own : (session serial : ℕ) → IsOf e session serial → (x.id ≡ session) × (x.next ≡ serial)
      is_own session serial of = let is = of.3.1 in (cc, cc)

      others : (y : Session) → y.id ≢ x.id → command y.id e ≡ 0
      others y other =
          ⊎_elim (λ (z : command y.id e ≡ 0). z)
          (λ (o : (serial : ℕ) × IsOf e y.id serial). absurd (other (sym (is_own y.id o.0 o.1).0)))
          (counts_or_not e y.id)

      pub sound_served : IsToldBehind claims s h e reply
          → Sound claims s place (h ++ e ∷ []) (slice_set t.sessions n (record x { stage = Ended job (Replied reply (length h) (x.next + 1)) })) t.notes
      sound_served told =
          let new = record x { stage = Ended job (Replied reply (length h) (x.next + 1)) } in
          entry_added claims s place h e t.sessions (slice_set t.sessions n new) t.notes sound
          (λ session serial of.
          let is = is_own session serial of in (
            subst (λ (i : ℕ). IsUnserved h (record x { id = i; next = serial })) is.0
                (subst (λ (k : ℕ). IsUnserved h (record x { next = k })) is.1 unserved),
            subst (λ (i : ℕ). i < length h) is.0 (sound.id n x there at),
          ))
          (λ i a noted none unit of.
          let is = is_own a.session a.serial of in (
            handed_over.place,
            handed_over.note,
            handed_over.last i a noted none (unit ∙ sym at) (sym is.0) (sym is.1),
            handed_over.there,
            handed_over.is,
            (unit ∙ (sym at ∙ sym handed_over.unit), sym is.0 ∙ sym handed_over.session),
            handed_over.serial ∙ is.1,
            handed_over.count,
          ))
          (λ m y is here.
          let l = longer h e in
          let b = id_written claims s place h t.sessions t.notes n x new sound there refl refl m y is here in omega arith)
          (λ m y is here.
          ⊎_elim
          (λ (same : (n ≡ m) × (new ≡ y)).
          subst (λ (z : Session). StageOk claims s (h ++ e ∷ []) t.notes z z.stage) same.1 (
            let more = commands_pushed x.id h e in
                let one = counts e x.id x.next (job.by_group, job.asked, job.bytes, (choice, refl)) in
                omega arith,
            refl,
            record { entry = e; there = get_last h e; is = (choice, refl); replies = told },
            put,
          ))
          (λ (o : (n ≢ m) × (slice_get t.sessions m ≡ Some y)).
          stage_kept claims s h e t.notes y y.stage
          (others y (λ (same : y.id ≡ x.id). o.0 (sound.apart n m x y there o.1 at here (sym same))))
          (sound.stage m y o.1 here))
          (get_set t.sessions n m new x y there is))
          (apart_written claims s place h t.sessions t.notes n x new sound there refl refl)

  -- ---- a session attaches

  pub sound_elsewhere : (t : Traffic) (k id : ℕ) → IsSound t → k ≢ place → IsSound (attached t k id)
  sound_elsewhere t k id sound other =
      let new : Session = record { place = k; id = id; next = 1; stage = Idle } in
      let was = λ (n : ℕ) (x : Session) (is : slice_get (t.sessions ++ new ∷ []) n ≡ Some x) (at : x.place ≡ place).
      ⊎_elim {C = slice_get t.sessions n ≡ Some x} (λ (o : slice_get t.sessions n ≡ Some x). o)
      (λ (u : (n ≡ length t.sessions) × (new ≡ x)). absurd (other (ap (λ (y : Session). y.place) u.1 ∙ at)))
      (get_pushed t.sessions new n x is) in
      record {
        unit = sound.unit;
        id = λ n x is at. sound.id n x (was n x is at) at;
        stage = λ n x is at. sound.stage n x (was n x is at) at;
        apart = λ n m x y is also at here same. sound.apart n m x y (was n x is at) (was m y also here) at here same;
        count = sound.count;
        what = sound.what;
        rising = sound.rising;
      }

  pub sound_attached : (t : Traffic) (nexus : Nexus) → IsSound t
      → Sound claims s place (h ++ Attach nexus ∷ []) (attached t place (length h)).sessions t.notes
  sound_attached t nexus sound =
      let e : Entry = Attach nexus in
      let new : Session = record { place = place; id = length h; next = 1; stage = Idle } in
      let l = longer h e in
      let no = λ (session serial : ℕ) (of : IsOf e session serial). let one : command session e ≡ 1 = counts e session serial of in
      let bad : ⊥ = omega arith in bad in
      let old = λ (n m : ℕ) (x y : Session) (is : slice_get t.sessions n ≡ Some x) (at : x.place ≡ place) (new_is : new ≡ y)
      (same : x.id ≡ y.id).
      let b = sound.id n x is at in
      let k : length h ≡ y.id = ap (λ (z : Session). z.id) new_is in absurd (omega arith) in
      entry_added claims s place h e t.sessions (t.sessions ++ new ∷ []) t.notes sound
      (λ session serial of. absurd (no session serial of)) (λ i a is none unit of. absurd (no a.session a.serial of))
      (λ n x is at.
      ⊎_elim (λ (o : slice_get t.sessions n ≡ Some x). let b = sound.id n x o at in omega arith)
      (λ (u : (n ≡ length t.sessions) × (new ≡ x)).
      let k : length h ≡ x.id = ap (λ (z : Session). z.id) u.1 in omega arith)
      (get_pushed t.sessions new n x is))
      (λ n x is at.
      ⊎_elim
      (λ (o : slice_get t.sessions n ≡ Some x). stage_kept claims s h e t.notes x x.stage refl (sound.stage n x o at))
      (λ (u : (n ≡ length t.sessions) × (new ≡ x)).
      subst (λ (z : Session). StageOk claims s (h ++ e ∷ []) t.notes z z.stage) u.1
      (let none = sound.unit.none (length h) (omega arith) in let more = commands_pushed (length h) h e in omega arith))
      (get_pushed t.sessions new n x is))
      (λ n m x y is also at here same.
      ⊎_elim
      (λ (o : slice_get t.sessions n ≡ Some x).
      ⊎_elim (λ (p : slice_get t.sessions m ≡ Some y). sound.apart n m x y o p at here same)
      (λ (u : (m ≡ length t.sessions) × (new ≡ y)). absurd (old n m x y o at u.1 same))
      (get_pushed t.sessions new m y also))
      (λ (u : (n ≡ length t.sessions) × (new ≡ x)).
      ⊎_elim (λ (p : slice_get t.sessions m ≡ Some y). absurd (old m n y x p here u.1 (sym same)))
      (λ (v : (m ≡ length t.sessions) × (new ≡ y)). u.0 ∙ sym v.0) (get_pushed t.sessions new m y also))
      (get_pushed t.sessions new n x is))
