-- What an event makes of the histories of a world.
use Rattle.std.proofs.Common.{◌≡◌, inl, inr, ⊎_elim, ℕ, ◌+◌, ◌<◌, ◌≤◌, Bool, true, false, nat_eq, zero, suc}
use Rattle.std.proofs.Common.{List, [], ◌∷◌, ◌++◌, length, Option, Some, None, refl, sym, ap, subst, ◌∙◌, arith, ◌≢◌}
use Rattle.std.specs.Prelude.{All, IfSome, OnErr, OnOk, Result, Ok, Err, slice_index_or, take, MatchOption, slice_get, slice_set}
use Rattle.std.proofs.lemmas.Bool.Decides.{eqb_tells}
use Rattle.std.proofs.lemmas.Option.{get_or_from_slice_get, slice_get_within}
use Rattle.unit_state.specs.Serials.{IsOpening}
use Rattle.unit_control.specs.State.{UnitState, UnitValue, state_of}
use Rattle.unit_control.specs.Entry.{Entry, Attach, Command}
use Rattle.registrants.specs.Nexus.{through}
use Rattle.scsi_types.specs.Nexus.{Port}
use Rattle.scsi_types.specs.declared.names.Group.{Group}
use Rattle.std.proofs.lemmas.List.{length-set, take_more}
use Rattle.unit_entries.specs.Histories.{IsBehind, IsHistory, no_state}
use Rattle.world.specs.Traffic.{Traffic, IsAgain, IsTakenBack, at_stage, attached, ended, given, no_traffic}
use Rattle.world.specs.Events.{Scene, scene, count_at, with_entry, with_traffic, start, IsEntry, IsReached, IsServed, IsStep, AreSteps}
use Rattle.world.specs.Worlds.{WorldValue, opened, opening_of, AllHappen, AreBehind, Stands, Happens, IsCountAt, IsCountOf}
use Rattle.unit_events.specs.Entries.{IsUnitAttach, IsUnitEntry, IsUnitServed, IsUnitServing}
use Rattle.unit_events.proofs.Counted.{counts_all}
use Rattle.world.specs.declared.event.Event.{Event}
use Rattle.world.specs.declared.event.Event.TheVariants as events
use Rattle.unit_events.specs.declared.job.Job.{Job}
use Rattle.unit_events.specs.declared.job.End.{End}
use Rattle.unit_events.specs.declared.job.End.TheVariants.{Replied, Refused as IsRefused}
use Rattle.world.specs.declared.session.Session.{Session}
use Rattle.world.specs.declared.session.Stage.TheVariants.{InLane, Ended}
use Rattle.world.proofs.Lists.{get_set}
use Rattle.world.proofs.Order.{Holds, orderly, reached_holds, stage_at}
use Rattle.world.specs.Orders.{IsOrderly}

pub of_err : {T F P : Type 0} (r : Result T F) → P → OnErr r P
of_err (Ok value) p = tt
of_err (Err why) p = p

pub on_done : {T F P Q : Type 0} (r : Result T F) → OnOk r P → (P → Q) → OnOk r Q
on_done (Ok value) p f = f p
on_done (Err why) p f = tt

module _ (claims : Bool) (units : ℕ) (opening : ℕ → UnitState) where
  pub steps_pushed : (w mid new : Scene) (events : List Event) (e : Event) → AreSteps claims units opening w events mid
      → IsStep claims units opening mid e new → AreSteps claims units opening w (events ++ e ∷ []) new
  steps_pushed w mid new [] e are is = (new, subst (λ (x : Scene). IsStep claims units opening x e new) are is, refl)
  steps_pushed w mid new (x ∷ events) e are is = (are.0, are.1, steps_pushed are.0 mid new events e are.2 is)

  pub reached_more : (w new : Scene) (e : Event) → IsReached claims units opening w → IsStep claims units opening w e new
      → IsReached claims units opening new
  reached_more w new e reached is = record {
    opens = reached.opens;
    events = reached.events ++ e ∷ [];
    steps = steps_pushed start w new reached.events e reached.steps is;
  }

-- what a job that is taken back makes of the world
pub back_step : (claims : Bool) (units : ℕ) (opening : ℕ → UnitState) (past : ℕ → List Entry) (t : Traffic) (n : ℕ) (new : Traffic)
    (o : Option Session) → MatchOption o (new ≡ t) (λ x. IsTakenBack t n x new)
    → MatchOption o (scene past new ≡ scene past t)
    (λ x. (u : Traffic) × IsTakenBack t n x u × (scene past new ≡ with_traffic (scene past t) u))
back_step claims units opening past t n new None did = ap (λ (u : Traffic). scene past u) did
back_step claims units opening past t n new (Some x) did = (new, did, refl)

module _ {B R O : Type 0} (claims : Bool) (contents : B → List (List ℕ)) (failures : B → ℕ) (opens_failed : O → ℕ)
    (file_failures : R → ℕ) where
  abbrev Is : UnitState → List Entry → UnitValue B R O → Type 0
  Is = IsBehind claims contents failures opens_failed file_failures

  -- ---- a new world

  none_opens : IsOpening no_state.control
  none_opens = record { sessions = refl; count = refl }

  open_at : (units : List (UnitValue B R O)) (place : ℕ) → All (λ u. IsOpening u.control) units
      → (o : Option (UnitValue B R O)) → slice_get units place ≡ o → IsOpening (opened contents o).control
  open_at units place all None is = none_opens
  open_at units place all (Some u) is =
      subst (λ (v : UnitValue B R O). IsOpening v.control) (get_or_from_slice_get units place u u is)
      (all place u (slice_get_within units place u is))

  all_open : (units : List (UnitValue B R O)) → All (λ u. IsOpening u.control) units → (place : ℕ)
      → IsOpening (opening_of contents units place).control
  all_open units all place = open_at units place all (slice_get units place) refl

  pub stands_new : (units : List (UnitValue B R O)) → All (λ u. IsOpening u.control) units
      → Stands claims contents failures opens_failed file_failures (opening_of contents units) (λ place. [])
      (record { units = units; traffic = no_traffic })
  stands_new units all = record {
    reached = record { opens = all_open units all; events = []; steps = refl };
    behind = λ place u is.
        let same : state_of contents u ≡ opening_of contents units place =
        ap (λ (o : Option (UnitValue B R O)). opened contents o) (sym is) in
        record {
          control = ap (λ (x : UnitState). x.control) same;
          blocks = λ h. ap (λ (x : UnitState). x.blocks) same;
          failed = omega arith;
        };
  }

  -- ---- what an event makes of it

  abbrev World : Type 0
  World = WorldValue B R O

  abbrev Does : Event → World → World → Type 0
  Does event old new = Happens claims contents failures opens_failed file_failures event old new

  abbrev Step : World → (ℕ → UnitState) → (ℕ → List Entry) → Event → Scene → Type 0
  Step old opening past event new = IsStep claims (length old.units) opening (scene past old.traffic) event new

  abbrev Standing : (ℕ → UnitState) → (ℕ → List Entry) → World → Type 0
  Standing = Stands claims contents failures opens_failed file_failures

  pub holds : (opening : ℕ → UnitState) (past : ℕ → List Entry) (old : World) → Standing opening past old
      → Holds claims (length old.units) opening (scene past old.traffic)
  holds opening past old stands =
      reached_holds claims (length old.units) opening (scene past old.traffic) stands.reached

  -- nothing
  pub nothing : (event : Event) (v : World)
      → ((opening : ℕ → UnitState) (past : ℕ → List Entry) → Step v opening past event (scene past v.traffic)) → Does event v v
  nothing event v step = λ opening past stands. (past, step opening past, stands, refl)

  -- only what is on its way changes
  pub traffic_goes : (event : Event) (old : World) (t : Traffic)
      → ((opening : ℕ → UnitState) (past : ℕ → List Entry) → Standing opening past old
      → Step old opening past event (scene past t))
      → Does event old (record { units = old.units; traffic = t })
  traffic_goes event old t step = λ opening past stands. (
    past,
    step opening past stands,
    record {
      reached = reached_more claims (length old.units) opening (scene past old.traffic) (scene past t) event stands.reached
          (step opening past stands);
      behind = stands.behind;
    },
    refl,
  )

  -- and of a call that leaves the units
  pub quiet_goes : (event : Event) (old new : World) (t : Traffic) → new.units ≡ old.units → new.traffic ≡ t
      → ((opening : ℕ → UnitState) (past : ℕ → List Entry) → Standing opening past old
      → Step old opening past event (scene past t))
      → Does event old new
  quiet_goes event old new t units traffic step =
      let same : record { units = old.units; traffic = t } ≡ new = λ i. record { units = sym units i; traffic = sym traffic i } in
      subst (λ (v : World). Does event old v) same (traffic_goes event old t step)

  -- how many entries a unit has had
  past_end : (us : List (UnitValue B R O)) (k : ℕ) → slice_get us k ≡ None → length us ≤ k
  past_end [] k none = omega arith
  past_end (u ∷ us) zero none = absurd (cc)
  past_end (u ∷ us) (suc k) none = let le = past_end us k none in omega arith

  module _ (opening : ℕ → UnitState) (past : ℕ → List Entry) (old : World) (place count : ℕ)
      (stands : Standing opening past old) where
    by_unit : (o : Option (UnitValue B R O)) → slice_get old.units place ≡ o
        → MatchOption o (count ≡ 0) (λ u. count ≡ u.control.count) → count ≡ length (past place)
    by_unit None none zero_is =
        zero_is ∙ ap (λ (h : List Entry). length h)
        (sym ((holds opening past old stands).beyond place (past_end old.units place none)))
    by_unit (Some u) there count_of =
        count_of ∙ counts_all claims contents failures opens_failed file_failures (opening place) (past place) u ((holds opening past old stands).legal place)
        (stands.behind place u there)

    pub count_is : IsCountAt old place count → count ≡ length (past place)
    count_is is = by_unit (slice_get old.units place) refl is

  -- what a session does where its unit has had so many entries
  module _ (event : Event) (old new : World) (n count : ℕ) (act : ℕ → Session → Traffic)
      (is : IsCountOf old n count) (units : new.units ≡ old.units)
      (traffic : new.traffic ≡ given old.traffic (slice_get old.traffic.sessions n) (act count))
      (to : (opening : ℕ → UnitState) (past : ℕ → List Entry)
      → Step old opening past event (scene past
      (given old.traffic (slice_get old.traffic.sessions n) (λ x. act (count_at (scene past old.traffic) x) x)))) where
    same_act : (opening : ℕ → UnitState) (past : ℕ → List Entry) → Standing opening past old → (o : Option Session)
        → IfSome o (λ x. IsCountAt old x.place count)
        → given old.traffic o (λ x. act (count_at (scene past old.traffic) x) x) ≡ given old.traffic o (act count)
    same_act opening past stands None counted = refl
    same_act opening past stands (Some x) counted =
        ap (λ (m : ℕ). act m x) (sym (count_is opening past old x.place count stands counted))

    pub counted_goes : Does event old new
    counted_goes =
        quiet_goes event old new (given old.traffic (slice_get old.traffic.sessions n) (act count)) units traffic
        (λ opening past stands. subst (λ (t : Traffic). Step old opening past event (scene past t))
        (same_act opening past stands (slice_get old.traffic.sessions n) is) (to opening past))

  -- and a command of it that goes on once more
  module _ (event : Event) (old new : World) (n count : ℕ) (is_late : Bool)
      (send : ℕ → Traffic → ℕ → Session → Job → Traffic) (is : IsCountOf old n count) (units : new.units ≡ old.units)
      (traffic : MatchOption (slice_get old.traffic.sessions n) (new.traffic ≡ old.traffic)
      (λ x. IsAgain (send count) is_late old.traffic n x new.traffic)) where
    abbrev Again : (ℕ → List Entry) → Option Session → Scene → Type 0
    Again past o to =
        MatchOption o (to ≡ scene past old.traffic)
        (λ x. (t : Traffic) × IsAgain (send (count_at (scene past old.traffic) x)) is_late old.traffic n x t
        × (to ≡ with_traffic (scene past old.traffic) t))

    went : (opening : ℕ → UnitState) (past : ℕ → List Entry) → Standing opening past old → (o : Option Session)
        → IfSome o (λ x. IsCountAt old x.place count)
        → MatchOption o (new.traffic ≡ old.traffic) (λ x. IsAgain (send count) is_late old.traffic n x new.traffic)
        → Again past o (scene past new.traffic)
    went opening past stands None counted did = ap (λ (t : Traffic). scene past t) did
    went opening past stands (Some x) counted did = (
      new.traffic,
      subst (λ (m : ℕ). IsAgain (send m) is_late old.traffic n x new.traffic)
          (count_is opening past old x.place count stands counted) did,
      refl,
    )

    pub again_goes : ((opening : ℕ → UnitState) (past : ℕ → List Entry)
        → Again past (slice_get old.traffic.sessions n) (scene past new.traffic)
        → Step old opening past event (scene past new.traffic))
        → Does event old new
    again_goes to =
        quiet_goes event old new new.traffic units refl
        (λ opening past stands. to opening past (went opening past stands (slice_get old.traffic.sessions n) is traffic))

  -- a unit has one entry more, or shows why not
  module _ (old : World) (k : ℕ) (u new : UnitValue B R O) (there : slice_get old.units k ≡ Some u)
      (opening : ℕ → UnitState) (past : ℕ → List Entry) (stands : Standing opening past old) where
    abbrev after : List (UnitValue B R O)
    after = slice_set old.units k new

    pub behind_entry : (e : Entry) → Is (opening k) (past k ++ e ∷ []) new
        → AreBehind claims contents failures opens_failed file_failures opening (with_entry past k e) after
    behind_entry e is place v at =
        ⊎_elim
        (λ (same : (nat_eq place k ≡ true) × (place ≡ k)).
        rw same.0
        (⊎_elim
        (λ (here : (k ≡ place) × (new ≡ v)).
        subst (λ (x : UnitValue B R O). Is (opening place) (past place ++ e ∷ []) x) here.1
        (subst (λ (p : ℕ). Is (opening p) (past p ++ e ∷ []) new) (sym same.1) is))
        (λ (other : (k ≢ place) × (slice_get old.units place ≡ Some v)). absurd (other.0 (sym same.1)))
        (get_set old.units k place new u v there at)))
        (λ (other : (nat_eq place k ≡ false) × (place ≢ k)).
        rw other.0
        (⊎_elim (λ (here : (k ≡ place) × (new ≡ v)). absurd (other.1 (sym here.0)))
        (λ (o : (k ≢ place) × (slice_get old.units place ≡ Some v)). stands.behind place v o.1)
        (get_set old.units k place new u v there at)))
        (eqb_tells place k)

    pub behind_same : Is (opening k) (past k) new
        → AreBehind claims contents failures opens_failed file_failures opening past after
    behind_same is place v at =
        ⊎_elim
        (λ (here : (k ≡ place) × (new ≡ v)).
        subst (λ (x : UnitValue B R O). Is (opening place) (past place) x) here.1
        (subst (λ (p : ℕ). Is (opening p) (past p) new) here.0 is))
        (λ (o : (k ≢ place) × (slice_get old.units place ≡ Some v)). stands.behind place v o.1)
        (get_set old.units k place new u v there at)

  -- the world that is left
  abbrev left : World → ℕ → UnitValue B R O → Traffic → World
  left old k new t = record { units = slice_set old.units k new; traffic = t }

  stands_left : (old : World) (k : ℕ) (new : UnitValue B R O) (t : Traffic) (opening : ℕ → UnitState)
      (past after : ℕ → List Entry) (event : Event) → Standing opening past old → Step old opening past event (scene after t)
      → AreBehind claims contents failures opens_failed file_failures opening after (slice_set old.units k new)
      → Standing opening after (left old k new t)
  stands_left old k new t opening past after event stands step behind = record {
    reached = subst (λ (m : ℕ). IsReached claims m opening (scene after t)) (sym (length-set old.units k new))
        (reached_more claims (length old.units) opening (scene past old.traffic) (scene after t) event stands.reached step);
    behind = behind;
  }

  abbrev Entering : World → ℕ → Entry → Traffic → (UnitState → List Entry → Type 0) → Event → Type 0
  Entering old k e t why event = (opening : ℕ → UnitState) (past : ℕ → List Entry) (new : Scene)
      → IsEntry claims (length old.units) opening (scene past old.traffic) k e t (why (opening k) (past k)) new
      → Step old opening past event new

  -- a call of a unit that is one entry or none
  pub unit_goes : (event : Event) (old : World) (k : ℕ) (u new : UnitValue B R O) (e : Entry)
      (why : UnitState → List Entry → Type 0) → slice_get old.units k ≡ Some u
      → IsUnitEntry claims contents failures opens_failed file_failures e why u new → Entering old k e old.traffic why event
      → Does event old (left old k new old.traffic)
  unit_goes event old k u new e why there is to = λ opening past stands.
      let h = holds opening past old stands in
      ⊎_elim
      (λ (did : IsHistory claims (opening k) (past k ++ e ∷ []) × Is (opening k) (past k ++ e ∷ []) new).
      let step = to opening past (scene (with_entry past k e) old.traffic)
      (inl ((slice_get_within old.units k u there, did.0), refl)) in (
        with_entry past k e,
        step,
        stands_left old k new old.traffic opening past (with_entry past k e) event stands step
            (behind_entry old k u new there opening past stands e did.1),
        length-set old.units k new,
      ))
      (λ (did : why (opening k) (past k) × Is (opening k) (past k) new).
      let step = to opening past (scene past old.traffic) (inr (inr did.0, refl)) in (
        past,
        step,
        stands_left old k new old.traffic opening past past event stands step
            (behind_same old k u new there opening past stands did.1),
        length-set old.units k new,
      ))
      (is (opening k) (past k) (h.legal k) (stands.behind k u there))

  -- a session that attached
  pub attach_goes : (old : World) (k id : ℕ) (port : Port) (group : Group) (u new : UnitValue B R O)
      → slice_get old.units k ≡ Some u
      → IsUnitAttach claims contents failures opens_failed file_failures (through port group) (Some id) u new
      → (t : Traffic) → t ≡ attached old.traffic k id → Does (events.Attach k port group) old (left old k new t)
  attach_goes old k id port group u new there is t same = λ opening past stands.
      let e : Entry = Attach (through port group) in
      let h = holds opening past old stands in
      let did = is (opening k) (past k) (h.legal k) (stands.behind k u there) in
      let step : Step old opening past (events.Attach k port group) (scene (with_entry past k e) t) =
      inl (
        (slice_get_within old.units k u there, did.1),
        ap (λ (z : Traffic). scene (with_entry past k e) z) (same ∙ ap (λ (m : ℕ). attached old.traffic k m) did.0),
      ) in (
        with_entry past k e,
        step,
        stands_left old k new t opening past (with_entry past k e) (events.Attach k port group) stands step
            (behind_entry old k u new there opening past stands e did.2),
        length-set old.units k new,
      )

  -- and one for which there is no room
  pub attach_refused : (old : World) (k : ℕ) (port : Port) (group : Group) (u new : UnitValue B R O)
      → slice_get old.units k ≡ Some u
      → IsUnitAttach claims contents failures opens_failed file_failures (through port group) None u new
      → Does (events.Attach k port group) old (left old k new old.traffic)
  attach_refused old k port group u new there is = λ opening past stands.
      let h = holds opening past old stands in
      let did = is (opening k) (past k) (h.legal k) (stands.behind k u there) in
      let step : Step old opening past (events.Attach k port group) (scene past old.traffic) =
      inr (inr did.1, refl) in (
        past,
        step,
        stands_left old k new old.traffic opening past past (events.Attach k port group) stands step
            (behind_same old k u new there opening past stands did.0),
        length-set old.units k new,
      )

  -- a command that a lane has served
  module _ (old : World) (n : ℕ) (x : Session) (job : Job) (u new : UnitValue B R O)
      (session : slice_get old.traffic.sessions n ≡ Some x) (stage : x.stage ≡ InLane job)
      (there : slice_get old.units x.place ≡ Some u) where
    abbrev to : End → Traffic
    to end = at_stage old.traffic n x (Ended job end)

    by_end : (end : End) (opening : ℕ → UnitState) (past : ℕ → List Entry) → Standing opening past old
        → IsUnitServed claims contents failures opens_failed file_failures (opening x.place) (past x.place) x.id x.next job new end
        → (after : ℕ → List Entry) × Step old opening past (events.Serve n) (scene after (to end))
        × Standing opening after (left old x.place new (to end))
        × (length (slice_set old.units x.place new) ≡ length old.units)
    by_end (Replied reply at next) opening past stands did =
        let e : Entry = Command x.id x.next job.by_group job.asked job.bytes did.0 in
        let end : End = Replied reply at next in
        let served : IsServed claims (length old.units) opening (scene past old.traffic) x job end (with_entry past x.place e) =
        (did.0, did.1, did.2, refl, (slice_get_within old.units x.place u there, did.3), did.5) in
        let step : Step old opening past (events.Serve n) (scene (with_entry past x.place e) (to end)) =
        rw (session, stage) (inl (end, served, refl)) in (
          with_entry past x.place e,
          step,
          stands_left old x.place new (to end) opening past (with_entry past x.place e) (events.Serve n) stands step
              (behind_entry old x.place u new there opening past stands e did.4),
          length-set old.units x.place new,
        )
    by_end (IsRefused why) opening past stands did =
        let end : End = IsRefused why in
        let served : IsServed claims (length old.units) opening (scene past old.traffic) x job end past = (refl, did.1) in
        let step : Step old opening past (events.Serve n) (scene past (to end)) =
        rw (session, stage) (inl (end, served, refl)) in (
          past,
          step,
          stands_left old x.place new (to end) opening past past (events.Serve n) stands step
              (behind_same old x.place u new there opening past stands did.0),
          length-set old.units x.place new,
        )

    served_goes : (end : End) → IsUnitServing claims contents failures opens_failed file_failures x.id x.next job u new end
        → Does (events.Serve n) old (left old x.place new (to end))
    served_goes end is = λ opening past stands.
        let h = holds opening past old stands in
        by_end end opening past stands
        (is (opening x.place) (past x.place) (h.legal x.place) (stands.behind x.place u there)
        (stage_at claims (length old.units) opening (scene past old.traffic) n x h session (InLane job) stage).0)

    ended_is : (end : End) → given old.traffic (slice_get old.traffic.sessions n) (λ y. ended old.traffic n y end) ≡ to end
    ended_is end = rw (session, stage) refl

    pub serve_goes : (end : End) (t : Traffic)
        → IsUnitServing claims contents failures opens_failed file_failures x.id x.next job u new end
        → t ≡ given old.traffic (slice_get old.traffic.sessions n) (λ y. ended old.traffic n y end)
        → Does (events.Serve n) old (left old x.place new t)
    serve_goes end t is goes =
        subst (λ (z : Traffic). Does (events.Serve n) old (left old x.place new z)) (sym (goes ∙ ended_is end)) (served_goes end is)

  -- ---- a list of events

  abbrev AllDo : List Event → World → World → Type 0
  AllDo events old new = AllHappen claims contents failures opens_failed file_failures events old new

  order : (opening : ℕ → UnitState) (past : ℕ → List Entry) (v : World) → Standing opening past v
      → IsOrderly claims opening (scene past v.traffic)
  order opening past v stands =
      orderly claims (length v.units) opening (scene past v.traffic) (holds opening past v stands)

  pub none_happen : (v : World) → AllDo [] v v
  none_happen v = λ opening past stands. (past, refl, stands, order opening past v stands, refl)

  pub one_more : (old mid new : World) (events : List Event) (e : Event) → AllDo events old mid → Does e mid new
      → AllDo (events ++ e ∷ []) old new
  one_more old mid new events e did does = λ opening past stands.
      let d = did opening past stands in
      let s = does opening d.0 d.2 in (
        s.0,
        steps_pushed claims (length old.units) opening (scene past old.traffic) (scene d.0 mid.traffic) (scene s.0 new.traffic)
            events e d.1
            (subst (λ (m : ℕ). IsStep claims m opening (scene d.0 mid.traffic) e (scene s.0 new.traffic)) d.4 s.1),
        s.2,
        order opening s.0 new s.2,
        s.3 ∙ d.4,
      )

  -- the event at a place of a list, behind those before it
  pub so_far : (old mid new : World) (events : List Event) (i : ℕ) (e : Event) → i < length events
      → e ≡ slice_index_or events i e → AllDo (take i events) old mid → Does e mid new → AllDo (take (i + 1) events) old new
  so_far old mid new events i e lt is did does =
      let more : take i events ++ e ∷ [] ≡ take (i + 1) events =
      ap (λ (x : Event). take i events ++ x ∷ []) is ∙ sym (take_more events i e lt) in
      subst (λ (es : List Event). AllDo es old new) more (one_more old mid new (take i events) e did does)
