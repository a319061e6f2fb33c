-- The order of a world holds over every list of events.
use Rattle.std.proofs.Common.{◌≡◌, ◌≢◌, ◌⊎◌, ⊎_elim, ℕ, ◌+◌, ◌<◌, ◌≤◌, Bool, true, false, nat_eq}
use Rattle.std.proofs.Common.{List, [], ◌∷◌, ◌++◌, length, Option, Some, None, refl, sym, ap, subst, ◌∙◌, arith}
use Rattle.std.specs.Prelude.{MatchOption, slice_get}
use Rattle.std.proofs.lemmas.Bool.Decides.{eqb_tells}
use Rattle.registrants.specs.Nexus.{through}
use Rattle.scsi_types.specs.declared.names.Group.{Group}
use Rattle.scsi_types.specs.declared.names.Group.TheVariants.{One, Two}
use Rattle.unit_control.specs.State.{UnitState}
use Rattle.unit_control.specs.Choice.{Fine}
use Rattle.unit_control.specs.Entry.{Entry, Attach, Detach, Reset, Move, Command}
use Rattle.unit_state.specs.Serials.{IsOpening}
use Rattle.unit_entries.specs.Histories.{IsHistory, command}
use Rattle.world.specs.Traffic.{Traffic, at_stage, attached, closed, given, in_lane, new_job, taken_from, waiting, with_waiting}
use Rattle.world.specs.Events.{Scene, scene, with_entry, with_traffic, Takes, IsEntry, IsServed, IsServing, IsStep, AreSteps, IsReached, count_at, start}
use Rattle.world.specs.Orders.{IsEntryAt, IsNone, IsNoted, IsOrderly, IsSubmittedBehind, IsToldAt}
use Rattle.world.specs.declared.event.Event.{Event}
use Rattle.world.specs.declared.event.Event.TheVariants as events
use Rattle.world.specs.declared.note.Note.{Note}
use Rattle.world.specs.declared.note.What.{What}
use Rattle.world.specs.declared.note.What.TheVariants.{Submitted, FlushBegan, Replied as HasReply, Settled, Busy, Gone}
use Rattle.unit_events.specs.declared.job.Job.{Job}
use Rattle.unit_events.specs.declared.job.End.{End}
use Rattle.unit_events.specs.declared.job.End.TheVariants.{Replied, Refused as IsRefused}
use Rattle.world.specs.declared.session.Session.{Session}
use Rattle.world.specs.declared.session.Stage.{Stage}
use Rattle.world.specs.declared.session.Stage.TheVariants.{Idle, Waits, InLane, Ended, Answered, Flushes, Returned}
use Rattle.world.proofs.Sound.{Sound, no_entry, quiet_entry, StageOk, IsUnserved, WhatOk}
use Rattle.world.proofs.Steps.{sound_attached, sound_begun, sound_begun_again, sound_closed, sound_elsewhere, sound_submitted}
use Rattle.world.proofs.Told.{sound_collected, sound_flush_ended}
use Rattle.world.proofs.Steps.{handed_ok, sound_submitted_again, sound_in_lane, sound_taken_back}
use Rattle.world.proofs.Steps.{sound_posted, sound_ended, sound_served, sound_waiting}

module _ (claims : Bool) (units : ℕ) (opening : ℕ → UnitState) where
  abbrev SoundAt : ℕ → List Entry → Traffic → Type 0
  SoundAt place h t = Sound claims (opening place) place h t.sessions t.notes

  -- what carries the order, of every unit
  pub record Holds (w : Scene) : Type 0 where
    pub legal : (place : ℕ) → IsHistory claims (opening place) (w.past place)
    pub sound : (place : ℕ) → SoundAt place (w.past place) w.traffic
    pub beyond : (place : ℕ) → units ≤ place → w.past place ≡ []

  -- only what is on its way changes
  quiet : (w : Scene) (t : Traffic) → Holds w → ((place : ℕ) → SoundAt place (w.past place) t) → Holds (with_traffic w t)
  quiet w t holds sound = record { legal = holds.legal; sound = sound; beyond = holds.beyond }

  -- a session does what it may
  does : (w : Scene) (o : Option Session) (act : Session → Traffic) → Holds w
      → ((place : ℕ) (x : Session) → o ≡ Some x → SoundAt place (w.past place) (act x))
      → Holds (with_traffic w (given w.traffic o act))
  does w None act holds sound = holds
  does w (Some x) act holds sound = quiet w (act x) holds (λ place. sound place x refl)

  -- one entry more
  module _ (w : Scene) (k : ℕ) (e : Entry) (t : Traffic) (holds : Holds w) (takes : Takes claims units opening w.past k e)
      (here : SoundAt k (w.past k ++ e ∷ []) t) (elsewhere : (place : ℕ) → k ≢ place → SoundAt place (w.past place) t) where
    legal_at : (place : ℕ) → IsHistory claims (opening place) (with_entry w.past k e place)
    legal_at place =
        ⊎_elim
        (λ (same : (nat_eq place k ≡ true) × (place ≡ k)).
        rw same.0 (subst (λ (p : ℕ). IsHistory claims (opening p) (w.past p ++ e ∷ [])) (sym same.1) takes.1))
        (λ (other : (nat_eq place k ≡ false) × (place ≢ k)). rw other.0 (holds.legal place)) (eqb_tells place k)

    sound_at : (place : ℕ) → SoundAt place (with_entry w.past k e place) t
    sound_at place =
        ⊎_elim
        (λ (same : (nat_eq place k ≡ true) × (place ≡ k)).
        rw same.0 (subst (λ (p : ℕ). SoundAt p (w.past p ++ e ∷ []) t) (sym same.1) here))
        (λ (other : (nat_eq place k ≡ false) × (place ≢ k)).
        rw other.0 (elsewhere place (λ (is : k ≡ place). other.1 (sym is)))) (eqb_tells place k)

    none_beyond : (place : ℕ) → units ≤ place → with_entry w.past k e place ≡ []
    none_beyond place le =
        ⊎_elim
        (λ (same : (nat_eq place k ≡ true) × (place ≡ k)).
        let lt = takes.0 in let is = same.1 in absurd (omega arith))
        (λ (other : (nat_eq place k ≡ false) × (place ≢ k)). rw other.0 (holds.beyond place le)) (eqb_tells place k)

    entered : Holds (scene (with_entry w.past k e) t)
    entered = record { legal = legal_at; sound = sound_at; beyond = none_beyond }

  -- an entry that is no command, or none
  quiet_entered : (w new : Scene) (k : ℕ) (e : Entry) (why : Type 0) → ((session : ℕ) → command session e ≡ 0) → Holds w
      → IsEntry claims units opening w k e w.traffic why new → Holds new
  quiet_entered w new k e why none holds step =
      ⊎_elim
      (λ (did : Takes claims units opening w.past k e × (new ≡ scene (with_entry w.past k e) w.traffic)).
      subst Holds (sym did.1)
      (entered w k e w.traffic holds did.0
      (quiet_entry claims (opening k) k (w.past k) e w.traffic.sessions w.traffic.notes none (holds.sound k))
      (λ place other. holds.sound place)))
      (λ (did : ((units ≤ k) ⊎ why) × (new ≡ w)). subst Holds (sym did.1) holds) step

  attach_holds : (w new : Scene) (k : ℕ) (e : Entry) (why : Type 0) (sound : SoundAt k (w.past k ++ e ∷ [])
      (attached w.traffic k (length (w.past k)))) → Holds w
      → IsEntry claims units opening w k e (attached w.traffic k (length (w.past k))) why new → Holds new
  attach_holds w new k e why sound holds step =
      let t = attached w.traffic k (length (w.past k)) in
      ⊎_elim
      (λ (did : Takes claims units opening w.past k e × (new ≡ scene (with_entry w.past k e) t)).
      subst Holds (sym did.1)
      (entered w k e t holds did.0 sound
      (λ place other. sound_elsewhere claims (opening place) place (w.past place) w.traffic k (length (w.past k))
      (holds.sound place) other)))
      (λ (did : ((units ≤ k) ⊎ why) × (new ≡ w)). subst Holds (sym did.1) holds) step

  -- the unit of a session serves its command, or refuses it
  module _ (w : Scene) (n : ℕ) (x : Session) (holds : Holds w) (there : slice_get w.traffic.sessions n ≡ Some x) where
    pub stage_at : (stage : Stage) → x.stage ≡ stage → StageOk claims (opening x.place) (w.past x.place) w.traffic.notes x stage
    stage_at stage is =
        subst (λ (z : Stage). StageOk claims (opening x.place) (w.past x.place) w.traffic.notes x z) is
        ((holds.sound x.place).stage n x there refl)

    unserved_at : (place : ℕ) → x.place ≡ place → IsUnserved (w.past x.place) x → IsUnserved (w.past place) x
    unserved_at place at is = subst (λ (p : ℕ). IsUnserved (w.past p) x) at is

    ended : (job : Job) → x.stage ≡ InLane job → (new : Scene) (end : End) → IsServed claims units opening w x job end new.past
        → new.traffic ≡ at_stage w.traffic n x (Ended job end) → Holds new
    ended job is new (Replied reply at next) served traffic =
        let e : Entry = Command x.id x.next job.by_group job.asked job.bytes served.0 in
        let ok = stage_at (InLane job) is in
        let h = w.past x.place in
        let to : Traffic = at_stage w.traffic n x (Ended job (Replied reply (length h) (x.next + 1))) in
        let same : to ≡ at_stage w.traffic n x (Ended job (Replied reply at next)) =
        (λ i. at_stage w.traffic n x (Ended job (Replied reply (sym served.1 i) (sym served.2 i)))) in
        let new_is : scene (with_entry w.past x.place e) to ≡ new =
        (λ i. record { past = sym served.3 i; traffic = (same ∙ sym traffic) i }) in
        subst Holds new_is
        (entered w x.place e to holds served.4
        (sound_served claims (opening x.place) x.place h w.traffic n x (holds.sound x.place) there job reply served.0 refl
        ok.0 ok.1 ok.2 served.5)
        (λ place other. sound_ended claims (opening place) place (w.past place) w.traffic n x (holds.sound place) there job
        (Replied reply (length h) (x.next + 1)) (λ at_it. absurd (other at_it))))
    ended job is new (IsRefused why) served traffic =
        let ok = stage_at (InLane job) is in
        let to : Traffic = at_stage w.traffic n x (Ended job (IsRefused why)) in
        let new_is : with_traffic w to ≡ new = (λ i. record { past = sym served.0 i; traffic = sym traffic i }) in
        subst Holds new_is
        (quiet w to holds
        (λ place. sound_ended claims (opening place) place (w.past place) w.traffic n x (holds.sound place) there job
        (IsRefused why) (λ at. unserved_at place at ok.0)))

    serving : (stage : Stage) → x.stage ≡ stage → (new : Scene) → IsServing claims units opening w n x stage new → Holds new
    serving Idle is new step = subst Holds (sym step) holds
    serving (Waits job) is new step = subst Holds (sym step) holds
    serving (InLane job) is new step =
        ⊎_elim
        (λ (did : (end : End) × IsServed claims units opening w x job end new.past
        × (new.traffic ≡ at_stage w.traffic n x (Ended job end))). ended job is new did.0 did.1 did.2)
        (λ (did : (units ≤ x.place) × (new ≡ w)). subst Holds (sym did.1) holds) step
    serving (Ended job end) is new step = subst Holds (sym step) holds
    serving (Answered job end) is new step = subst Holds (sym step) holds
    serving (Flushes flush) is new step = subst Holds (sym step) holds
    serving (Returned job) is new step = subst Holds (sym step) holds

  -- of a session that may not be there
  of_session : (w new : Scene) (o : Option Session) (P : Session → Type 0) → Holds w → MatchOption o (new ≡ w) P
      → ((x : Session) → o ≡ Some x → P x → Holds new) → Holds new
  of_session w new None P holds step act = subst Holds (sym step) holds
  of_session w new (Some x) P holds step act = act x refl step

  taking : (w : Scene) (t : Traffic) → ((place : ℕ) → SoundAt place (w.past place) t) → (o : Option Session) (n : ℕ)
      → slice_get t.sessions n ≡ o → (place : ℕ) → SoundAt place (w.past place) (given t o (λ x. in_lane t n x))
  taking w t sound None n is place = sound place
  taking w t sound (Some x) n is place =
      sound_in_lane claims (opening place) place (w.past place) t n x (sound place) is

  same_sessions : (t : Traffic) (group : Group) (xs : List ℕ) → (with_waiting t group xs).sessions ≡ t.sessions
  same_sessions t One xs = refl
  same_sessions t Two xs = refl

  take_holds : (w : Scene) (group : Group) (xs : List ℕ) → Holds w → Holds (with_traffic w (taken_from w.traffic group xs))
  take_holds w group [] holds = holds
  take_holds w group (n ∷ rest) holds =
      let left = with_waiting w.traffic group rest in
      quiet w (taken_from w.traffic group (n ∷ rest)) holds
      (taking w left
      (λ place. sound_waiting claims (opening place) place (w.past place) w.traffic group rest (holds.sound place))
      (slice_get w.traffic.sessions n) n (ap (λ (ss : List Session). slice_get ss n) (same_sessions w.traffic group rest)))

  count_is : (w : Scene) (x : Session) (place : ℕ) → x.place ≡ place → count_at w x ≡ length (w.past place)
  count_is w x place at = ap (λ (p : ℕ). length (w.past p)) at

  -- each event keeps it
  pub step_holds : (w new : Scene) (event : Event) → IsStep claims units opening w event new → Holds w → Holds new
  step_holds w new (events.Attach k port group) step holds =
      attach_holds w new k (Attach (through port group)) _
      (sound_attached claims (opening k) k (w.past k) w.traffic (through port group) (holds.sound k)) holds step
  step_holds w new (events.Detach n) step holds =
      of_session w new (slice_get w.traffic.sessions n) _ holds step
      (λ x is did. quiet_entered w new x.place (Detach x.id) _ (λ session. refl) holds did)
  step_holds w new (events.Reset n) step holds =
      of_session w new (slice_get w.traffic.sessions n) _ holds step
      (λ x is did. quiet_entered w new x.place (Reset x.id) _ (λ session. refl) holds did)
  step_holds w new (events.Move k list) step holds =
      quiet_entered w new k (Move list Fine) _ (λ session. refl) holds step
  step_holds w new (events.Submit n group asked bytes is_late) step holds =
      subst Holds (sym step.2)
      (does w (slice_get w.traffic.sessions n) _ holds
      (λ place x is. sound_submitted claims (opening place) place (w.past place) w.traffic n x (holds.sound place) is _
      step.0 (count_is w x place) (λ at. handed_ok is_late (new_job group asked bytes) step.0 tt step.1)))
  step_holds w new (events.SubmitAgain n is_late) step holds =
      of_session w new (slice_get w.traffic.sessions n) _ holds step
      (λ x is did. subst Holds (sym did.2)
      (quiet w did.0 holds
      (λ place. sound_submitted_again claims (opening place) place (w.past place) w.traffic n x (holds.sound place) is _
      is_late did.0 (count_is w x place) did.1)))
  step_holds w new (events.Begin n group asked bytes is_late) step holds =
      subst Holds (sym step.2)
      (does w (slice_get w.traffic.sessions n) _ holds
      (λ place x is. sound_begun claims (opening place) place (w.past place) w.traffic n x (holds.sound place) is _
      step.0 (count_is w x place) (λ at. handed_ok is_late (new_job group asked bytes) step.0 tt step.1)))
  step_holds w new (events.BeginAgain n is_late) step holds =
      of_session w new (slice_get w.traffic.sessions n) _ holds step
      (λ x is did. subst Holds (sym did.2)
      (quiet w did.0 holds
      (λ place. sound_begun_again claims (opening place) place (w.past place) w.traffic n x (holds.sound place) is _
      is_late did.0 (count_is w x place) did.1)))
  step_holds w new (events.TakeBack n) step holds =
      of_session w new (slice_get w.traffic.sessions n) _ holds step
      (λ x is did. subst Holds (sym did.2)
      (quiet w did.0 holds
      (λ place. sound_taken_back claims (opening place) place (w.past place) w.traffic n x (holds.sound place) is did.0 did.1)))
  step_holds w new (events.Close group) step holds =
      subst Holds (sym step)
      (quiet w (closed w.traffic group) holds
      (λ place. sound_closed claims (opening place) place (w.past place) w.traffic group (holds.sound place)))
  step_holds w new (events.Take group) step holds =
      subst Holds (sym step) (take_holds w group (waiting w.traffic group) holds)
  step_holds w new (events.Serve n) step holds =
      of_session w new (slice_get w.traffic.sessions n) _ holds step
      (λ x is did. serving w n x holds is x.stage refl new did)
  step_holds w new (events.Post n) step holds =
      subst Holds (sym step)
      (does w (slice_get w.traffic.sessions n) _ holds
      (λ place x is. sound_posted claims (opening place) place (w.past place) w.traffic n x (holds.sound place) is))
  step_holds w new (events.Collect n) step holds =
      subst Holds (sym step)
      (does w (slice_get w.traffic.sessions n) _ holds
      (λ place x is. sound_collected claims (opening place) place (w.past place) w.traffic n x (holds.sound place) is _
      (holds.legal place).legal (count_is w x place)))
  step_holds w new (events.EndFlush n is_done) step holds =
      subst Holds (sym step)
      (does w (slice_get w.traffic.sessions n) _ holds
      (λ place x is. sound_flush_ended claims (opening place) place (w.past place) w.traffic n x (holds.sound place) is _
      is_done (holds.legal place).legal (count_is w x place)))

  steps_hold : (w new : Scene) (events : List Event) → AreSteps claims units opening w events new → Holds w → Holds new
  steps_hold w new [] is holds = subst Holds (sym is) holds
  steps_hold w new (event ∷ events) is holds = steps_hold is.0 new events is.2 (step_holds w is.0 event is.1 holds)

  start_holds : ((place : ℕ) → IsOpening (opening place).control) → Holds start
  start_holds opens = record {
    legal = λ place. record { opens = opens place; legal = tt };
    sound = λ place. record {
      unit = no_entry;
      id = λ n x is at. absurd (cc);
      stage = λ n x is at. absurd (cc);
      apart = λ n m x y is also at here same. absurd (cc);
      count = λ i a is at. absurd (cc);
      what = λ i a is at. absurd (cc);
      rising = λ i j a b lt is also at here. absurd (cc);
    };
    beyond = λ place le. refl;
  }

  pub reached_holds : (w : Scene) → IsReached claims units opening w → Holds w
  reached_holds w is = steps_hold start w is.events is.steps (start_holds is.opens)

  -- ---- the five sentences

  module _ (w : Scene) (holds : Holds w) where
    what_of : (i : ℕ) (a : Note) (what : What) → IsNoted w.traffic.notes i a → a.what ≡ what
        → WhatOk claims (opening a.place) (w.past a.place) w.traffic.notes i a what
    what_of i a what is same =
        subst (λ (z : What). WhatOk claims (opening a.place) (w.past a.place) w.traffic.notes i a z) same
        ((holds.sound a.place).what i a is refl)

    none_of : (i at : ℕ) (a : Note) (what : What) → IsNone what → WhatOk claims (opening a.place) (w.past a.place) w.traffic.notes i a what
        → IsEntryAt (w.past a.place) at a.session a.serial → IsSubmittedBehind w.traffic.notes i a at
    none_of i at a Submitted none ok of = absurd none
    none_of i at a FlushBegan none ok of = absurd none
    none_of i at a (HasReply job reply k) none ok of = absurd none
    none_of i at a (Settled job told k is_flushed) none ok of = absurd none
    none_of i at a Busy none ok of = ok at of
    none_of i at a Gone none ok of = ok at of

    -- what was told stands behind the entry
    told_of : (i at : ℕ) (a : Note) (what : What) → IsToldAt what at
        → WhatOk claims (opening a.place) (w.past a.place) w.traffic.notes i a what → at < a.count
    told_of i at a Submitted told ok = absurd told
    told_of i at a FlushBegan told ok = absurd told
    told_of i at a (HasReply job reply k) told ok = subst (λ (m : ℕ). m < a.count) told ok.0
    told_of i at a (Settled job reply k is_flushed) told ok = subst (λ (m : ℕ). m < a.count) told ok.0
    told_of i at a Busy told ok = absurd told
    told_of i at a Gone told ok = absurd told

    pub orderly : IsOrderly claims opening w
    orderly = record {
      legal = holds.legal;
      own = λ i a job reply at is what.
          let of = what_of i a (HasReply job reply at) is what in
          let ok = of.1 in (of.2, (ok.entry, ok.there, ok.is), ok.replies);
      once = λ place session serial at other. (holds.sound place).unit.once at other session serial;
      none = λ i at a is none of. none_of i at a a.what none ((holds.sound a.place).what i a is refl) of;
      late = λ i a job told at is_flushed is what. (what_of i a (Settled job told at is_flushed) is what).1;
      later = λ i j at place a b lt is told also submitted one of.
          let first = told_of i at a a.what told ((holds.sound a.place).what i a is refl) in
          let last = what_of j b Submitted also submitted place of in
          let rises = (holds.sound b.place).rising i j a b lt is also one.0 refl in omega arith;
    }
