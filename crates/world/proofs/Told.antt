-- What a session is told of its command keeps what carries the order of a world, of the unit at one place.
use Rattle.std.proofs.Common.{◌≡◌, ℕ, ◌+◌, ◌<◌, Bool, true, false, if◌then◌else◌}
use Rattle.std.proofs.Common.{List, [], ◌∷◌, ◌++◌, length, Option, Some, None, Result, inl, inr, refl, sym, ap, subst, ◌∙◌, arith}
use Rattle.std.specs.Prelude.{MatchOption, slice_get, slice_set}
use Rattle.std.proofs.lemmas.Option.{slice_get_within}
use Rattle.unit_lock.specs.declared.machine.Refused.TheVariants.{Gone as IsGone, Moved, NoMemory}
use Rattle.scsi_types.specs.ReplyValue.{ReplyValue}
use Rattle.scsi_types.specs.declared.names.Group.{Group}
use Rattle.unit_control.specs.State.{UnitState}
use Rattle.unit_control.specs.Entry.{Entry}
use Rattle.unit_state.specs.History.{IsLegal}
use Rattle.scsi_types.specs.declared.command.Command.{Command as ScsiCommand}
use Rattle.scsi_types.specs.declared.command.CdbFault.{CdbFault}
use Rattle.scsi_types.specs.declared.status.Status.{Status}
use Rattle.scsi_types.specs.declared.status.Status.TheVariants as statuses
use Rattle.unit_events.specs.Flushes.{IsToldBehindFlush, IsUnflushed}
use Rattle.world.specs.Orders.{IsNone}
use Rattle.world.specs.Traffic.{Traffic, answered_in, as_asked, at_stage}
use Rattle.world.specs.Traffic.{collected, flush_ended, flush_in, free, given, given_up, heard}
use Rattle.world.specs.Traffic.{is_good, note_of, noted, replied}
use Rattle.world.specs.Traffic.{settled, told_behind, with_session}
use Rattle.world.specs.declared.note.What.{What}
use Rattle.world.specs.declared.note.What.TheVariants.{FlushBegan, Replied as HasReply, Settled, Busy, Gone}
use Rattle.unit_events.specs.declared.job.Job.{Job}
use Rattle.unit_events.specs.declared.job.End.{End}
use Rattle.unit_events.specs.declared.job.End.TheVariants.{Replied, Refused as IsRefused}
use Rattle.world.specs.declared.session.Flush.{Flush}
use Rattle.world.specs.declared.session.Session.{Session}
use Rattle.world.specs.declared.session.Stage.{Stage}
use Rattle.world.specs.declared.session.Stage.TheVariants.{Idle, Waits, InLane, Ended, Answered, Flushes, Returned}
use Rattle.world.proofs.Lists.{get_kept, get_last}
use Rattle.world.proofs.Sound.{IsUnserved, EndOk, WhatOk, Sound, IsOther}
use Rattle.world.proofs.Sound.{session_changes, note_added}
use Rattle.world.proofs.Sound.{commands, FlushOk, HasEntry, Lasts}
use Rattle.world.proofs.Placed.{settled_at}
use Rattle.world.proofs.Steps.{IsSound as IsSoundAt, on_its_way, sound_given_up, stage_is, to_stage}

good_is : (status : Status) → is_good status ≡ true → status ≡ statuses.Good
good_is statuses.Good is = refl
good_is statuses.CheckCondition is = absurd (cc)
good_is statuses.Busy is = absurd (cc)
good_is statuses.ReservationConflict is = absurd (cc)
good_is statuses.TaskSetFull is = absurd (cc)

module _ (claims : Bool) (s : UnitState) (place : ℕ) (h : List Entry) where
  abbrev IsSound : Traffic → Type 0
  IsSound t = IsSoundAt claims s place h t

  module _ (t : Traffic) (n : ℕ) (x : Session) (sound : IsSound t) (there : slice_get t.sessions n ≡ Some x) where
    -- a session is told what its command came to
    told_so : (count next : ℕ) (what : What) → (IsNone what → ⊥) → (x.place ≡ place → count ≡ length h)
        → (x.place ≡ place → (commands x.id h ≡ x.next) × (next ≡ x.next + 1))
        → (x.place ≡ place → WhatOk claims s h (t.notes ++ note_of count x what ∷ []) (length t.notes) (note_of count x what) what)
        → IsSound (noted (with_session t n (free x next)) (note_of count x what))
    told_so count next what some is counts_of ok =
        let new = free x next in
        let note = note_of count x what in
        let idle = session_changes claims s place h t.sessions t.notes n x new sound there refl refl
        (λ at. ap (λ (m : ℕ). m + 1) (counts_of at).0 ∙ sym (counts_of at).1) in
        note_added claims s place h (slice_set t.sessions n new) t.notes note idle (λ at. (is at, ok at))
        (λ m y other at. on_its_way claims s y.stage (IsOther claims s note y) (λ no unit id serial. absurd (some no)))

    -- the entry stands before the note
    entry_before : (count k : ℕ) (by : Group) (asked : Result ScsiCommand CdbFault) (bytes : List ℕ) (reply : ReplyValue)
        → count ≡ length h → HasEntry claims s h x.id x.next by asked bytes reply k → k < count
    entry_before count k by asked bytes reply is ok =
        let lt = slice_get_within h k ok.entry ok.there in let c = is in omega arith

    -- in place of the reply of its entry
    abbrev HasServedSo : Job → Result ScsiCommand CdbFault → ReplyValue → ℕ → ℕ → Type 0
    HasServedSo job served reply k next =
        (commands x.id h ≡ x.next) × (next ≡ x.next + 1)
        × HasEntry claims s h x.id x.next job.by_group served job.bytes reply k × IsUnflushed job.asked served

    sound_settled : (count : ℕ) (job : Job) (reply told : ReplyValue) (k next : ℕ) (is_flushed : Bool) → IsLegal claims s h
        → (x.place ≡ place → count ≡ length h)
        → (x.place ≡ place → (served : Result ScsiCommand CdbFault) × HasServedSo job served reply k next)
        → (x.place ≡ place → IsToldBehindFlush (Lasts claims s (t.notes ++ note_of count x (Settled job told k is_flushed) ∷ []) (length t.notes)
        (note_of count x (Settled job told k is_flushed)) k is_flushed) reply told)
        → IsSound (settled count t n x job told k next is_flushed)
    sound_settled count job reply told k next is_flushed legal is ok ended =
        let note = note_of count x (Settled job told k is_flushed) in
        told_so count next (Settled job told k is_flushed) (λ no. no) is (λ at. ((ok at).1.0, (ok at).1.1))
        (λ at. (
          entry_before count k job.by_group (ok at).0 job.bytes reply (is at) (ok at).1.2,
          settled_at claims (Lasts claims s (t.notes ++ note ∷ []) (length t.notes) note k is_flushed) s h x.id x.next job (ok at).0 reply
              told k legal (ok at).1.3 (ok at).1.2 (ended at),
        ))

    -- a flush begins behind it
    flush_begun : (count : ℕ) (flush : Flush) → (x.place ≡ place → count ≡ length h)
        → (x.place ≡ place → (served : Result ScsiCommand CdbFault) × HasServedSo flush.job served flush.reply flush.place flush.next)
        → flush.reply.status ≡ statuses.Good
        → IsSound (noted (at_stage t n x (Flushes flush)) (note_of count x FlushBegan))
    flush_begun count flush is ok good =
        let note = note_of count x FlushBegan in
        let told : Sound claims s place h t.sessions (t.notes ++ note ∷ []) =
        note_added claims s place h t.sessions t.notes note sound (λ at. (is at, tt))
        (λ m y other at. on_its_way claims s y.stage (IsOther claims s note y) (λ no unit id serial. absurd no)) in
        session_changes claims s place h t.sessions (t.notes ++ note ∷ []) n x (record x { stage = Flushes flush }) told there refl refl
        (λ at. record {
          served = (ok at).0;
          unflushed = (ok at).1.3;
          count = (ok at).1.0;
          next = (ok at).1.1;
          entry = (ok at).1.2;
          good = good;
          began = (
            length t.notes,
            note,
            get_last t.notes note,
            refl,
            refl,
            refl,
            refl,
            entry_before count flush.place flush.job.by_group (ok at).0 flush.job.bytes flush.reply (is at) (ok at).1.2,
          );
        })

    put_off_or_not : (count : ℕ) (job : Job) (reply : ReplyValue) (k next : ℕ) (good : Bool) → is_good reply.status ≡ good
        → IsLegal claims s h → (x.place ≡ place → count ≡ length h)
        → (x.place ≡ place → (served : Result ScsiCommand CdbFault) × HasServedSo job served reply k next)
        → IsSound (if good
        then noted (at_stage t n x (Flushes (record { job = job; reply = reply; place = k; next = next })))
        (note_of count x FlushBegan)
        else settled count t n x job reply k next false)
    put_off_or_not count job reply k next true is_so legal is ok =
        flush_begun count (record { job = job; reply = reply; place = k; next = next }) is ok (good_is reply.status is_so)
    put_off_or_not count job reply k next false is_so legal is ok =
        sound_settled count job reply reply k next false legal is ok
        (λ at. inl (
          refl,
          λ (good : reply.status ≡ statuses.Good).
              let yes : is_good reply.status ≡ true = ap is_good good in absurd (cc),
        ))

    sound_replied : (count : ℕ) (job : Job) (late : Option (Result ScsiCommand CdbFault)) → job.late ≡ late → (reply : ReplyValue)
        (k next : ℕ) → IsLegal claims s h → (x.place ≡ place → count ≡ length h)
        → (x.place ≡ place → EndOk claims s h x job (Replied reply k next))
        → IsSound (replied count t n x job late reply k next)
    sound_replied count job None is_late reply k next legal is ok =
        told_so count next (HasReply job reply k) (λ no. no) is (λ at. ((ok at).0, (ok at).1))
        (λ at. (entry_before count k job.by_group job.asked job.bytes reply (is at) (ok at).2, (ok at).2, is_late))
    sound_replied count job (Some asked) is_late reply k next legal is ok =
        put_off_or_not count (record job { asked = asked; late = None }) reply k next (is_good reply.status) refl legal is
        (λ at. (
          job.asked,
          (
            (ok at).0,
            (ok at).1,
            (ok at).2,
            subst (λ (o : Option (Result ScsiCommand CdbFault)). MatchOption o (Unit {0}) (λ a. IsUnflushed a job.asked)) is_late
                (ok at).3,
          ),
        ))

    sound_moved : (count : ℕ) (job : Job) (to : Group) (second : Bool) → (x.place ≡ place → count ≡ length h)
        → (x.place ≡ place → IsUnserved h x)
        → IsSound (if second
        then given_up count t n x Busy
        else at_stage t n x (Returned (record (as_asked job) { by_group = to; is_second = true })))
    sound_moved count job to true is unserved = sound_given_up claims s place h t n x sound there count Busy tt is unserved
    sound_moved count job to false is unserved =
        to_stage claims s place h t n x sound there (Returned (record (as_asked job) { by_group = to; is_second = true })) (λ at. (unserved at, tt))

    sound_heard : (count : ℕ) (job : Job) (end : End) → IsLegal claims s h → (x.place ≡ place → count ≡ length h)
        → (x.place ≡ place → EndOk claims s h x job end) → IsSound (heard count t n x job end)
    sound_heard count job (Replied reply k next) legal is ok = sound_replied count job job.late refl reply k next legal is ok
    sound_heard count job (IsRefused IsGone) legal is ok = sound_given_up claims s place h t n x sound there count Gone tt is ok
    sound_heard count job (IsRefused NoMemory) legal is ok = sound_given_up claims s place h t n x sound there count Busy tt is ok
    sound_heard count job (IsRefused (Moved to)) legal is ok = sound_moved count job to job.is_second is ok

    answered_or_not : (count : ℕ) (stage : Stage) → x.stage ≡ stage → IsLegal claims s h → (x.place ≡ place → count ≡ length h)
        → IsSound (given t (answered_in stage) (λ a. heard count t n x a.0 a.1))
    answered_or_not count Idle is legal c = sound
    answered_or_not count (Waits job) is legal c = sound
    answered_or_not count (InLane job) is legal c = sound
    answered_or_not count (Ended job end) is legal c = sound
    answered_or_not count (Answered job end) is legal c =
        sound_heard count job end legal c (λ at. stage_is claims s place h t n x sound there (Answered job end) is at)
    answered_or_not count (Flushes flush) is legal c = sound
    answered_or_not count (Returned job) is legal c = sound

    pub sound_collected : (count : ℕ) → IsLegal claims s h → (x.place ≡ place → count ≡ length h) → IsSound (collected count t n x)
    sound_collected count legal c = answered_or_not count x.stage refl legal c

    -- the flush behind its command ends
    ended_so : (count : ℕ) (flush : Flush) (is_done : Bool) → count ≡ length h
        → FlushOk claims s h t.notes x.place x.id x.next flush
        → IsToldBehindFlush (Lasts claims s
        (t.notes ++ note_of count x (Settled flush.job (told_behind is_done flush.reply) flush.place is_done) ∷ []) (length t.notes)
        (note_of count x (Settled flush.job (told_behind is_done flush.reply) flush.place is_done)) flush.place is_done) flush.reply
        (told_behind is_done flush.reply)
    ended_so count flush true is ok =
        let b = ok.began in
        inl (
          refl,
          λ (good : flush.reply.status ≡ statuses.Good). (
            refl,
            (
              b.0,
              b.1,
              slice_get_within t.notes b.0 b.1 b.2,
              get_kept t.notes (note_of count x (Settled flush.job flush.reply flush.place true)) b.0 b.1 b.2,
              b.3,
              (b.4, b.5),
              b.6,
              b.7,
            ),
          ),
        )
    ended_so count flush false is ok = inr (ok.good, refl)

    flushes_or_not : (count : ℕ) (is_done : Bool) (stage : Stage) → x.stage ≡ stage → IsLegal claims s h
        → (x.place ≡ place → count ≡ length h)
        → IsSound (given t (flush_in stage)
        (λ f. settled count t n x f.job (told_behind is_done f.reply) f.place f.next is_done))
    flushes_or_not count is_done Idle is legal c = sound
    flushes_or_not count is_done (Waits job) is legal c = sound
    flushes_or_not count is_done (InLane job) is legal c = sound
    flushes_or_not count is_done (Ended job end) is legal c = sound
    flushes_or_not count is_done (Answered job end) is legal c = sound
    flushes_or_not count is_done (Returned job) is legal c = sound
    flushes_or_not count is_done (Flushes f) is legal c =
        let ok = stage_is claims s place h t n x sound there (Flushes f) is in
        sound_settled count f.job f.reply (told_behind is_done f.reply) f.place f.next is_done legal c
        (λ at. ((ok at).served, ((ok at).count, (ok at).next, (ok at).entry, (ok at).unflushed)))
        (λ at. ended_so count f is_done (c at) (ok at))

    pub sound_flush_ended : (count : ℕ) (is_done : Bool) → IsLegal claims s h → (x.place ≡ place → count ≡ length h)
        → IsSound (flush_ended count t n x is_done)
    sound_flush_ended count is_done legal c = flushes_or_not count is_done x.stage refl legal c
