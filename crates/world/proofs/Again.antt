-- A session whose command is looked at before it goes on.
use Rattle.std.proofs.Common.{◌≡◌, ◌||◌, ℕ, Bool, true, false, nat_eq, if◌then◌else◌, List, [], ◌∷◌, ◌++◌, length, Option, Some, None, Result}
use Rattle.std.proofs.Common.{refl, sym, ap, subst, ◌∙◌, ◌⊎◌, inl, inr}
use Rattle.std.specs.List.{remove}
use Rattle.std.specs.Prelude.{IfSome, MatchOption, ◌<◌, slice_get, slice_index_or, slice_set}
use Rattle.std.proofs.lemmas.Option.{slice_get_read}
use Rattle.std.proofs.lemmas.List.{set-set}
use Rattle.unit_lock.specs.declared.machine.Refused.TheVariants.{Gone as IsGone, Moved, NoMemory}
use Rattle.scsi_types.specs.declared.names.Group.{Group}
use Rattle.scsi_types.specs.declared.names.Group.TheVariants.{One, Two}
use Rattle.world.specs.Records.{on_from, sent}
use Rattle.world.specs.declared.records.Way.{Way}
use Rattle.world.specs.declared.records.Way.TheVariants as ways
use Rattle.scsi_types.specs.ReplyValue.{ReplyValue}
use Rattle.scsi_types.specs.declared.command.Command.{Command as ScsiCommand}
use Rattle.scsi_types.specs.declared.command.CdbFault.{CdbFault}
use Rattle.world.specs.Traffic.{Traffic, as_asked, at_stage, given, given_up, heard, is_closed, is_good, note_of, noted, waiting}
use Rattle.world.specs.Traffic.{IsAgain, IsHanded, IsTakenBack, flush_in, in_lane, replied, returned_in, settled, taken_back}
use Rattle.world.specs.Traffic.{told_behind, waits_in, with_waiting}
use Rattle.world.specs.declared.session.Flush.{Flush}
use Rattle.world.specs.declared.note.What.{What}
use Rattle.world.specs.declared.note.What.TheVariants.{Submitted, FlushBegan, Replied as HasReply, Settled, Busy, Gone}
use Rattle.unit_events.specs.declared.job.Job.{Job}
use Rattle.unit_events.specs.declared.job.End.{End}
use Rattle.unit_events.specs.declared.job.End.TheVariants.{Replied, Refused as IsRefused}
use Rattle.world.specs.declared.session.Session.{Session}
use Rattle.world.specs.declared.session.Stage.{Stage}
use Rattle.world.specs.declared.session.Stage.TheVariants.{Flushes, Idle, InLane, Waits, Returned}
use Rattle.world.proofs.Lists.{get_written, set_same}

pub there_is : {X : Type 0} (xs : List X) (n : ℕ) (x : X) → n < length xs → x ≡ slice_index_or xs n x → slice_get xs n ≡ Some x
there_is xs n x lt is = slice_get_read xs (length xs) n x refl lt is

module _ (t : Traffic) (n : ℕ) (x : Session) (stage : Stage) where
  abbrev seen : Session
  seen = record x { stage = stage }

  abbrev then_at : Traffic
  then_at = at_stage t n x stage

  -- it is put back
  pub put_back : {A : Type 0} (in_stage : Session → Option A) (act : Session → A → Traffic) → slice_get t.sessions n ≡ Some x
      → in_stage x ≡ None → stage ≡ x.stage
      → then_at ≡ given t (slice_get t.sessions n) (λ y. given t (in_stage y) (act y))
  put_back in_stage act there none same =
      rw (there, none)
      (ap (λ (xs : List Session). record t { sessions = xs })
      (ap (λ (s : Stage). slice_set t.sessions n (record x { stage = s })) same ∙ set_same t.sessions n x there))

  twice : (y : Session) → slice_set (slice_set t.sessions n seen) n y ≡ slice_set t.sessions n y
  twice y = set-set t.sessions n seen y

  given_up_again : (count : ℕ) (what : What) → given_up count then_at n seen what ≡ given_up count t n x what
  given_up_again count what =
      ap (λ (xs : List Session). record t { sessions = xs; notes = t.notes ++ note_of count x what ∷ [] })
      (twice (record x { stage = Idle }))

  -- a job that goes behind these that wait, where its session stands so
  abbrev queued : Traffic → Session → ℕ → Job → Bool → List ℕ → List ℕ → Traffic
  queued now y count job full one two =
      if full
      then given_up count now n y Busy
      else record t {
        sessions = slice_set now.sessions n (record x { stage = Waits job });
        one = one;
        two = two;
        notes = t.notes ++ note_of count x Submitted ∷ [];
      }

  handed : (count : ℕ) (job : Job) (full : Bool) (one two : List ℕ)
      → queued then_at seen count job full one two ≡ queued t x count job full one two
  handed count job true one two = given_up_again count Busy
  handed count job false one two =
      ap (λ (xs : List Session). record t { sessions = xs; one = one; two = two; notes = t.notes ++ note_of count x Submitted ∷ [] })
      (twice (record x { stage = Waits job }))

  handed_to : (count : ℕ) (job : Job) (group : Group)
      → (let a : Traffic = if is_closed then_at group || nat_eq (length (waiting then_at group)) 64
      then given_up count then_at n seen Busy
      else with_waiting (noted (at_stage then_at n seen (Waits job)) (note_of count seen Submitted)) group
      (waiting then_at group ++ n ∷ []) in a)
      ≡ (if is_closed t group || nat_eq (length (waiting t group)) 64
      then given_up count t n x Busy
      else with_waiting (noted (at_stage t n x (Waits job)) (note_of count x Submitted)) group (waiting t group ++ n ∷ []))
  handed_to count job One = handed count job (t.one_is_closed || nat_eq (length t.one) 64) (t.one ++ n ∷ []) t.two
  handed_to count job Two = handed count job (t.two_is_closed || nat_eq (length t.two) 64) t.one (t.two ++ n ∷ [])

  held : (count : ℕ) (job : Job) (shut : Bool)
      → (let a : Traffic = if shut
      then given_up count then_at n seen Busy
      else noted (at_stage then_at n seen (InLane job)) (note_of count seen Submitted) in a)
      ≡ (if shut then given_up count t n x Busy else noted (at_stage t n x (InLane job)) (note_of count x Submitted))
  held count job true = given_up_again count Busy
  held count job false =
      ap (λ (xs : List Session). record t { sessions = xs; notes = t.notes ++ note_of count x Submitted ∷ [] })
      (twice (record x { stage = InLane job }))

  held_by : (count : ℕ) (job : Job) (group : Group)
      → (let a : Traffic = if is_closed then_at group
      then given_up count then_at n seen Busy
      else noted (at_stage then_at n seen (InLane job)) (note_of count seen Submitted) in a)
      ≡ (if is_closed t group
      then given_up count t n x Busy
      else noted (at_stage t n x (InLane job)) (note_of count x Submitted))
  held_by count job One = held count job t.one_is_closed
  held_by count job Two = held count job t.two_is_closed

  moved_again : (count : ℕ) (after : Job) (second : Bool)
      → (let a : Traffic = if second then given_up count then_at n seen Busy else at_stage then_at n seen (Returned after) in a)
      ≡ (if second then given_up count t n x Busy else at_stage t n x (Returned after))
  moved_again count after true = given_up_again count Busy
  moved_again count after false =
      ap (λ (xs : List Session). record t { sessions = xs }) (twice (record x { stage = Returned after }))

  pub settled_again : (count : ℕ) (job : Job) (told : ReplyValue) (at next : ℕ) (is_flushed : Bool)
      → settled count then_at n seen job told at next is_flushed ≡ settled count t n x job told at next is_flushed
  settled_again count job told at next is_flushed =
      ap (λ (xs : List Session).
      record t { sessions = xs; notes = t.notes ++ note_of count x (Settled job told at is_flushed) ∷ [] })
      (twice (record x { next = next; stage = Idle }))

  put_off_again : (count : ℕ) (job : Job) (reply : ReplyValue) (at next : ℕ) (good : Bool)
      → (let a : Traffic = if good
      then noted (at_stage then_at n seen (Flushes (record { job = job; reply = reply; place = at; next = next })))
      (note_of count seen FlushBegan)
      else settled count then_at n seen job reply at next false in a)
      ≡ (if good
      then noted (at_stage t n x (Flushes (record { job = job; reply = reply; place = at; next = next })))
      (note_of count x FlushBegan)
      else settled count t n x job reply at next false)
  put_off_again count job reply at next true =
      ap (λ (xs : List Session). record t { sessions = xs; notes = t.notes ++ note_of count x FlushBegan ∷ [] })
      (twice (record x { stage = Flushes (record { job = job; reply = reply; place = at; next = next }) }))
  put_off_again count job reply at next false = settled_again count job reply at next false

  replied_again : (count : ℕ) (job : Job) (late : Option (Result ScsiCommand CdbFault)) (reply : ReplyValue) (at next : ℕ)
      → replied count then_at n seen job late reply at next ≡ replied count t n x job late reply at next
  replied_again count job None reply at next =
      ap (λ (xs : List Session). record t { sessions = xs; notes = t.notes ++ note_of count x (HasReply job reply at) ∷ [] })
      (twice (record x { next = next; stage = Idle }))
  replied_again count job (Some asked) reply at next =
      put_off_again count (record job { asked = asked; late = None }) reply at next (is_good reply.status)

  heard_again : (count : ℕ) (job : Job) (end : End) → heard count then_at n seen job end ≡ heard count t n x job end
  heard_again count job (Replied reply at next) = replied_again count job job.late reply at next
  heard_again count job (IsRefused IsGone) = given_up_again count Gone
  heard_again count job (IsRefused NoMemory) = given_up_again count Busy
  heard_again count job (IsRefused (Moved to)) =
      moved_again count (record (as_asked job) { by_group = to; is_second = true }) job.is_second

  -- it goes on
  pub goes_on : {A : Type 0} (in_stage : Session → Option A) (act : Traffic → Session → A → Traffic) (a : A) (new : Traffic)
      → slice_get t.sessions n ≡ Some x → in_stage x ≡ Some a → act then_at seen a ≡ act t x a
      → IfSome (slice_get then_at.sessions n) (λ y. new ≡ act then_at y a)
      → new ≡ given t (slice_get t.sessions n) (λ y. given t (in_stage y) (act t y))
  goes_on in_stage act a new there is again did =
      let done : new ≡ act then_at seen a =
      subst (λ (o : Option Session). IfSome o (λ y. new ≡ act then_at y a)) (get_written t.sessions n seen x there) did in
      rw (there, is) (done ∙ again)

  sent_again : (way : Way) (count : ℕ) (job : Job) → sent way count then_at n seen job ≡ sent way count t n x job
  sent_again ways.Desk count job = handed_to count job job.by_group
  sent_again ways.Hand count job = held_by count job job.by_group

  -- a command that came to Moved is sent once more
  pub sends_again : (way : Way) (count : ℕ) (is_late : Bool) (job handed : Job) (new : Traffic)
      → slice_get t.sessions n ≡ Some x → returned_in x.stage ≡ Some job → IsHanded is_late job handed
      → IfSome (slice_get then_at.sessions n) (λ y. new ≡ sent way count then_at n y handed)
      → MatchOption (slice_get t.sessions n) (new ≡ t) (λ y. IsAgain (sent way count) is_late t n y new)
  sends_again way count is_late job handed new there is put did =
      let done : new ≡ sent way count then_at n seen handed =
      subst (λ (o : Option Session). IfSome o (λ y. new ≡ sent way count then_at n y handed)) (get_written t.sessions n seen x there) did in
      rw (there, is) (handed, put, done ∙ sent_again way count handed)

  pub sends_none : (way : Way) (count : ℕ) (is_late : Bool) → slice_get t.sessions n ≡ Some x → returned_in x.stage ≡ None
      → stage ≡ x.stage → MatchOption (slice_get t.sessions n) (then_at ≡ t) (λ y. IsAgain (sent way count) is_late t n y then_at)
  sends_none way count is_late there none same =
      rw (there, none)
      (ap (λ (xs : List Session). record t { sessions = xs })
      (ap (λ (s : Stage). slice_set t.sessions n (record x { stage = s })) same ∙ set_same t.sessions n x there))

  pub hears_it : (in_stage : Session → Option (Job × End)) (count : ℕ) (job : Job) (end : End) (new : Traffic)
      → slice_get t.sessions n ≡ Some x → in_stage x ≡ Some (job, end)
      → IfSome (slice_get then_at.sessions n) (λ y. new ≡ heard count then_at n y job end)
      → new ≡ given t (slice_get t.sessions n) (λ y. given t (in_stage y) (λ a. heard count t n y a.0 a.1))
  hears_it in_stage count job end new there is did =
      goes_on in_stage (λ u y a. heard count u n y a.0 a.1) (job, end) new there is (heard_again count job end) did

  pub settles_it : (count : ℕ) (is_done : Bool) (flush : Flush) (new : Traffic)
      → slice_get t.sessions n ≡ Some x → flush_in x.stage ≡ Some flush
      → IfSome (slice_get then_at.sessions n)
      (λ y. new ≡ settled count then_at n y flush.job (told_behind is_done flush.reply) flush.place flush.next is_done)
      → new ≡ given t (slice_get t.sessions n) (λ y. given t (flush_in y.stage)
      (λ f. settled count t n y f.job (told_behind is_done f.reply) f.place f.next is_done))
  settles_it count is_done flush new there is did =
      goes_on (λ y. flush_in y.stage)
      (λ u y f. settled count u n y f.job (told_behind is_done f.reply) f.place f.next is_done) flush new there is
      (settled_again count flush.job (told_behind is_done flush.reply) flush.place flush.next is_done) did

-- ---- a job that is taken back from its desk

module _ (t : Traffic) (n : ℕ) (x : Session) (group : Group) (there : slice_get t.sessions n ≡ Some x) where
  put : (job : Job) (g : Group) (rest : List ℕ) → waits_in x.stage ≡ Some job
      → given (with_waiting t g rest) (slice_get (with_waiting t g rest).sessions n) (λ y. in_lane (with_waiting t g rest) n y)
      ≡ with_waiting (at_stage t n x (InLane job)) g rest
  put job One rest is = rw (there, is) refl
  put job Two rest is = rw (there, is) refl

  back_by : (at : ℕ) (new : Traffic) (o : Option Job) → waits_in x.stage ≡ o
      → MatchOption o ⊥ (λ job. job.by_group ≡ group) → slice_get (waiting t group) at ≡ Some n
      → new ≡ given (with_waiting t group (remove (waiting t group) at))
      (slice_get (with_waiting t group (remove (waiting t group) at)).sessions n)
      (λ y. in_lane (with_waiting t group (remove (waiting t group) at)) n y)
      → MatchOption o (new ≡ t)
      (λ job. ((at : ℕ) × (slice_get (waiting t job.by_group) at ≡ Some n) × (new ≡ taken_back t n x job at))
      ⊎ (((at : ℕ) → slice_get (waiting t job.by_group) at ≡ Some n → ⊥) × (new ≡ t)))
  back_by at new None is asks waits did = absurd asks
  back_by at new (Some job) is asks waits did =
      inl (
        at,
        subst (λ (g : Group). slice_get (waiting t g) at ≡ Some n) (sym asks) waits,
        subst (λ (g : Group). new ≡ with_waiting (at_stage t n x (InLane job)) g (remove (waiting t g) at)) (sym asks)
            (did ∙ put job group (remove (waiting t group) at) is),
      )

  pub took_back : (at : ℕ) (mid new : Traffic) → MatchOption (waits_in x.stage) ⊥ (λ job. job.by_group ≡ group)
      → slice_get (waiting t group) at ≡ Some n → mid ≡ with_waiting t group (remove (waiting t group) at)
      → new ≡ given mid (slice_get mid.sessions n) (λ y. in_lane mid n y)
      → MatchOption (slice_get t.sessions n) (new ≡ t) (λ y. IsTakenBack t n y new)
  took_back at mid new asks waits left did =
      rw there (back_by at new (waits_in x.stage) refl asks waits
      (subst (λ (u : Traffic). new ≡ given u (slice_get u.sessions n) (λ y. in_lane u n y)) left did))

  not_by : (o : Option Job) → MatchOption o ⊥ (λ job. job.by_group ≡ group)
      → ((at : ℕ) → slice_get (waiting t group) at ≡ Some n → ⊥)
      → MatchOption o (t ≡ t)
      (λ job. ((at : ℕ) × (slice_get (waiting t job.by_group) at ≡ Some n) × (t ≡ taken_back t n x job at))
      ⊎ (((at : ℕ) → slice_get (waiting t job.by_group) at ≡ Some n → ⊥) × (t ≡ t)))
  not_by None asks nowhere = refl
  not_by (Some job) asks nowhere =
      inr (subst (λ (g : Group). (at : ℕ) → slice_get (waiting t g) at ≡ Some n → ⊥) (sym asks) nowhere, refl)

  pub took_nothing : MatchOption (waits_in x.stage) ⊥ (λ job. job.by_group ≡ group)
      → ((at : ℕ) → slice_get (waiting t group) at ≡ Some n → ⊥)
      → MatchOption (slice_get t.sessions n) (t ≡ t) (λ y. IsTakenBack t n y t)
  took_nothing asks nowhere = rw there (not_by (waits_in x.stage) asks nowhere)

-- ---- a command that goes on where it is at the stage that is asked for

module _ {A : Type 0} (t : Traffic) (n : ℕ) (to : A → Stage) where
  on_or_not : (x : Session) (o : Option A) → slice_get t.sessions n ≡ Some x
      → at_stage t n x (on_from o to x.stage) ≡ given t o (λ a. at_stage t n x (to a))
  on_or_not x None there = ap (λ (xs : List Session). record t { sessions = xs }) (set_same t.sessions n x there)
  on_or_not x (Some a) there = refl

  went_by : (in_stage : Stage → Option A) (o : Option Session) → slice_get t.sessions n ≡ o
      → given t o (λ x. at_stage t n x (on_from (in_stage x.stage) to x.stage))
      ≡ given t o (λ x. given t (in_stage x.stage) (λ a. at_stage t n x (to a)))
  went_by in_stage None there = refl
  went_by in_stage (Some x) there = on_or_not x (in_stage x.stage) there

  pub went_on : (in_stage : Stage → Option A)
      → given t (slice_get t.sessions n) (λ x. at_stage t n x (on_from (in_stage x.stage) to x.stage))
      ≡ given t (slice_get t.sessions n) (λ x. given t (in_stage x.stage) (λ a. at_stage t n x (to a)))
  went_on in_stage = went_by in_stage (slice_get t.sessions n) refl
