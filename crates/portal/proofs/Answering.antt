-- What a session has asked of units is answered by their histories.
use Rattle.std.proofs.Common.{◌≡◌, ◌≢◌, ℕ, zero, suc, ◌+◌, ◌<◌, ◌≤◌, Bool, true, false, nat_eq, List, [], ◌∷◌, ◌++◌, length, cond}
use Rattle.std.proofs.Common.{Option, Some, None, Result, refl, sym, ap, ◌∙◌, subst, append_assoc, append-nil, ⊎_elim, inl, inr, arith}
use Rattle.std.proofs.lemmas.Bool.Decides.{eqb_tells}
use Rattle.std.proofs.lemmas.Bool.{cases_lt}
use Rattle.std.proofs.lemmas.Grind.{flat_map-append}
use Rattle.std.proofs.lemmas.List.{length-set}
use Rattle.std.specs.Prelude.{◌⊎◌, slice_get, slice_set, MatchOption}
use Rattle.login.specs.declared.status.SessionType.{SessionType}
use Rattle.login.specs.declared.status.SessionType.TheVariants.{Normal, Discovery}
use Rattle.registrants.specs.Nexus.{through}
use Rattle.scsi_types.specs.Nexus.{Port, Nexus}
use Rattle.scsi_types.specs.declared.names.Group.{Group}
use Rattle.scsi_types.specs.declared.command.Command.{Command as ScsiCommand}
use Rattle.scsi_types.specs.declared.command.CdbFault.{CdbFault}
use Rattle.session_rules.specs.Asking.{Asking, began, lives, served, reset, over}
use Rattle.session_rules.specs.Phases.{asked, exchanges}
use Rattle.session.specs.Transcript.{IsTranscribed}
use Rattle.session_rules.specs.Turn.{Leads}
use Rattle.session_rules.specs.declared.end.End.{End}
use Rattle.session_rules.specs.declared.target_record.TargetRecord.{TargetRecord}
use Rattle.session_rules.specs.declared.opening.Opening.TheVariants.{Login}
use Rattle.session_rules.specs.declared.target.BeginAnswer.TheVariants.{Begun, Refused}
use Rattle.session_rules.specs.declared.target.TargetAnswer.{TargetAnswer}
use Rattle.session_rules.specs.declared.target.TargetAnswer.TheVariants.{Replied, Outside, Busy, Gone}
use Rattle.session_rules.specs.declared.target.ResetAnswer.{ResetAnswer}
use Rattle.session_rules.specs.declared.target.ResetAnswer.TheVariants as resets
use Rattle.unit_control.specs.State.{UnitState}
use Rattle.unit_control.specs.Entry.{Entry, Attach}
use Rattle.unit_entries.specs.Histories.{IsHistory}
use Rattle.session_units.specs.Late.{Late, late_at}
use Rattle.live_sessions.specs.Sessions.{Sayings}
use Rattle.session_units.specs.Units.{Claims}
use Rattle.session_units.specs.Submitted.{At, IsServed, IsResetAnswer}
use Rattle.session_units.specs.Entries.{Done, done_by, reset_by, of_unit, done_in, done_at, AreEntries, HasDone, HasDoneNothing, IsEnd, IsNormal}
use Rattle.session_units.specs.Entries.{AreAnswered}
use Rattle.live_sessions.specs.Target.{TargetValue, Sight, IsAbsent, IsAttachedTo, AreAttached, AreOver, HasBegun, IsOver, IsOverAt, IsRefused}
use Rattle.live_sessions.specs.Target.{IsServedAt, IsResetIn, LeadsOn, unbegun}
use Rattle.live_sessions.specs.declared.target.BeginFault.{BeginFault}
use Rattle.portal.specs.Worker.{IsSession}
use Rattle.scsi_types.specs.Nexus.{group_number}
use Rattle.session_units.proofs.Chains.{both_of, GrowsAt, grows_served, grows_reset_at}
use Rattle.live_sessions.proofs.Retiring.{Ended, ended, over_at, over_none}
use Rattle.live_sessions.proofs.Slots.{get_written, get_other, nowhere, there}

either_none : (b : Bool) (ds : List Done) → ds ≡ [] → cond b ds [] ≡ []
either_none true ds is = is
either_none false ds is = refl

nothing_of : (unit named : ℕ) → of_unit unit named [] ≡ []
nothing_of unit named = either_none (nat_eq named unit) [] refl

-- one question more
at_more : (unit : ℕ) (asks : List Asking) (ask : Asking) → done_at unit (asks ++ ask ∷ []) ≡ done_at unit asks ++ done_in unit ask
at_more unit asks ask =
    flat_map-append (done_in unit) asks (ask ∷ []) ∙ ap (λ (ds : List Done). done_at unit asks ++ ds) (append-nil (done_in unit ask))

at_same : (unit : ℕ) (asks : List Asking) (ask : Asking) → done_in unit ask ≡ [] → done_at unit (asks ++ ask ∷ []) ≡ done_at unit asks
at_same unit asks ask is =
    at_more unit asks ask ∙ ap (λ (ds : List Done). done_at unit asks ++ ds) is ∙ append-nil (done_at unit asks)

-- where it began among them
began_on : (asks : List Asking) (ask : Asking) (front : List Asking) (first : Asking) (rest : List Asking) → asks ≡ front ++ first ∷ rest
    → asks ++ ask ∷ [] ≡ front ++ first ∷ (rest ++ ask ∷ [])
began_on asks ask front first rest is =
    ap (λ (l : List Asking). l ++ ask ∷ []) is ∙ append_assoc front (first ∷ rest) (ask ∷ [])

module _ (claims : Claims) (late : Late) (opening : ℕ → UnitState) where
  -- the session at a unit has done this since it attached
  record DoneAt (nexus : Nexus) (unit : ℕ) (done : List Done) (a : At) : Type 0 where
    place : a.place ≡ unit
    before : List Entry
    behind : List Entry
    seen : a.pass.seen ≡ (before ++ Attach nexus ∷ []) ++ behind
    session : a.pass.session ≡ length before
    legal : IsHistory claims.contents (opening unit) a.pass.seen
    entries : AreEntries claims (late_at late unit) (opening unit) (length before) (before ++ Attach nexus ∷ []) done behind

  done_first : (nexus : Nexus) (unit : ℕ) (a : At) → IsAttachedTo claims opening nexus unit a → DoneAt nexus unit [] a
  done_first nexus unit a is =
      record {
        place = is.place;
        before = is.attached.0;
        behind = [];
        seen = is.attached.1 ∙ sym (append-nil (is.attached.0 ++ Attach nexus ∷ []));
        session = is.attached.2;
        legal = is.attached.4;
        entries = refl;
      }

  done_more : (nexus : Nexus) (unit : ℕ) (done more : List Done) (a b : At) → DoneAt nexus unit done a → GrowsAt claims late opening a b more
      → DoneAt nexus unit (done ++ more) b
  done_more nexus unit done more a b is grows =
      let g = grows.grown in
      record {
        place = grows.place ∙ is.place;
        before = is.before;
        behind = is.behind ++ g.more;
        seen = g.seen ∙ ap (λ (h : List Entry). h ++ g.more) is.seen
            ∙ append_assoc (is.before ++ Attach nexus ∷ []) is.behind g.more;
        session = g.session ∙ is.session;
        legal = subst (λ (n : ℕ). IsHistory claims.contents (opening n) b.pass.seen) is.place g.legal;
        entries = both_of claims (late_at late unit) (opening unit) (length is.before) (is.before ++ Attach nexus ∷ []) done is.behind more g.more
            is.entries
            (subst (λ (h : List Entry). AreEntries claims (late_at late unit) (opening unit) (length is.before) h more g.more) is.seen
            (subst (λ (n : ℕ). AreEntries claims (late_at late unit) (opening unit) n a.pass.seen more g.more) is.session
            (subst (λ (n : ℕ). AreEntries claims (late_at late n) (opening n) a.pass.session a.pass.seen more g.more) is.place g.entries)));
      }

  has_done : (nexus : Nexus) (unit : ℕ) (done : List Done) (a : At) (one : Sight) → DoneAt nexus unit done a
      → IsOverAt claims opening a one
      → HasDone claims (late_at late unit) (opening unit) nexus done one.1
  has_done nexus unit done a one is left =
      let e : Ended claims (opening unit) a.pass one.1 =
      subst (λ (n : ℕ). Ended claims (opening n) a.pass one.1) is.place (ended claims (opening a.place) a.pass one.1 left.1) in
      record {
        before = is.before;
        behind = is.behind;
        rest = e.rest;
        legal = e.legal;
        is = e.is ∙ ap (λ (h : List Entry). h ++ e.rest) is.seen;
        entries = is.entries;
        ends = subst (λ (n : ℕ). IsEnd n e.rest) is.session e.last;
        left = subst (λ (n : ℕ). claims.left (opening unit) n one.1) is.session
            (subst (λ (n : ℕ). claims.left (opening n) a.pass.session one.1) is.place left.1.1);
      }

  attached_at : (nexus : Nexus) (first : ℕ) (at : List At) (n : ℕ) (a : At) → AreAttached claims opening nexus first at
      → slice_get at n ≡ Some a
      → IsAttachedTo claims opening nexus (first + n) a
  attached_at nexus first [] n a are is = absurd (cc)
  attached_at nexus first (b ∷ at) zero a are is =
      let e : b ≡ a = cc in
      subst (λ (k : ℕ). IsAttachedTo claims opening nexus k a) (omega arith)
      (subst (λ (x : At). IsAttachedTo claims opening nexus first x) e are.0)
  attached_at nexus first (b ∷ at) (suc n) a are is =
      subst (λ (k : ℕ). IsAttachedTo claims opening nexus k a) (omega arith) (attached_at nexus (first + 1) at n a are.1 is)

module _ (claims : Claims) (table : Sayings) (late : Late) (opening : ℕ → UnitState) (units : ℕ) (group : Group) where
  record Fresh (asks : List Asking) (t : TargetValue) : Type 0 where
    begun : t.begun ≡ false
    at : t.at ≡ []
    nothing : HasDoneNothing asks

  record Idle (asks : List Asking) (t : TargetValue) : Type 0 where
    begun : t.begun ≡ true
    at : t.at ≡ []
    answered : AreAnswered claims late opening units group asks t.seen

  record Running (asks : List Asking) (t : TargetValue) : Type 0 where
    begun : t.begun ≡ true
    unseen : t.seen ≡ []
    port : Port
    tsih : ℕ
    front : List Asking
    rest : List Asking
    began_is : asks ≡ front ++ began port Normal (Begun tsih) ∷ rest
    count : length t.at ≡ units
    at : (unit : ℕ) (a : At) → slice_get t.at unit ≡ Some a
        → DoneAt claims late opening (through port group) unit (done_at unit asks) a
    none : (unit : ℕ) → units ≤ unit → done_at unit asks ≡ []

  -- where a session is behind what it has asked
  pub record Standing (asks : List Asking) (t : TargetValue) : Type 0 where
    units_is : t.units ≡ units
    group_is : t.group ≡ group
    stage : Fresh asks t ⊎ (Idle asks t ⊎ Running asks t)

  -- ---- a question by which nothing is done

  abbrev Idles : Asking → Type 0
  Idles ask = (unit : ℕ) → done_in unit ask ≡ []

  nothing_more : (asks : List Asking) (ask : Asking) → Idles ask → HasDoneNothing asks → HasDoneNothing (asks ++ ask ∷ [])
  nothing_more asks ask idles nothing = λ (unit : ℕ). at_same unit asks ask (idles unit) ∙ nothing unit

  answered_more : (asks : List Asking) (ask : Asking) (seen : List Sight) → Idles ask
      → AreAnswered claims late opening units group asks seen
      → AreAnswered claims late opening units group (asks ++ ask ∷ []) seen
  answered_more asks ask seen idles answered =
      ⊎_elim (λ (n : HasDoneNothing asks). inl (nothing_more asks ask idles n))
      (λ (r : IsNormal claims late opening units group asks seen). inr (record {
        port = r.port;
        tsih = r.tsih;
        front = r.front;
        rest = r.rest ++ ask ∷ [];
        began_is = began_on asks ask r.front (began r.port Normal (Begun r.tsih)) r.rest r.began_is;
        done = λ (unit : ℕ) (lt : unit < units).
            let d = r.done unit lt in (
              d.0,
              d.1,
              d.2,
              subst (λ (ds : List Done). HasDone claims (late_at late unit) (opening unit) (through r.port group) ds d.0.1)
                  (sym (at_same unit asks ask (idles unit))) d.3,
            );
        none = λ (unit : ℕ) (le : units ≤ unit). at_same unit asks ask (idles unit) ∙ r.none unit le;
      })) answered

  -- a session that runs and was asked once more runs on, at the units as they are behind that
  runs_on : (asks : List Asking) (ask : Asking) (t : TargetValue) (at : List At) (r : Running asks t) → length at ≡ length t.at
      → ((unit : ℕ) (a : At) → slice_get at unit ≡ Some a
      → DoneAt claims late opening (through r.port group) unit (done_at unit (asks ++ ask ∷ [])) a)
      → ((unit : ℕ) → units ≤ unit → done_at unit asks ≡ [] → done_at unit (asks ++ ask ∷ []) ≡ [])
      → Running (asks ++ ask ∷ []) (record t { at = at })
  runs_on asks ask t at r count done none =
      record {
        begun = r.begun;
        unseen = r.unseen;
        port = r.port;
        tsih = r.tsih;
        front = r.front;
        rest = r.rest ++ ask ∷ [];
        began_is = began_on asks ask r.front (began r.port Normal (Begun r.tsih)) r.rest r.began_is;
        count = count ∙ r.count;
        at = done;
        none = λ (unit : ℕ) (le : units ≤ unit). none unit le (r.none unit le);
      }

  running_more : (asks : List Asking) (ask : Asking) (t : TargetValue) → Idles ask → Running asks t → Running (asks ++ ask ∷ []) t
  running_more asks ask t idles r =
      runs_on asks ask t t.at r refl
      (λ (unit : ℕ) (a : At) (here : slice_get t.at unit ≡ Some a).
      subst (λ (ds : List Done). DoneAt claims late opening (through r.port group) unit ds a)
      (sym (at_same unit asks ask (idles unit))) (r.at unit a here))
      (λ (unit : ℕ) (le : units ≤ unit) (none : done_at unit asks ≡ []). at_same unit asks ask (idles unit) ∙ none)

  kept : (asks : List Asking) (ask : Asking) (t new : TargetValue) → Idles ask → new ≡ t → Standing asks t
      → Standing (asks ++ ask ∷ []) new
  kept asks ask t new idles is standing =
      subst (λ (x : TargetValue). Standing (asks ++ ask ∷ []) x) (sym is) (record {
        units_is = standing.units_is;
        group_is = standing.group_is;
        stage = ⊎_elim
            (λ (f : Fresh asks t). inl (record { begun = f.begun; at = f.at; nothing = nothing_more asks ask idles f.nothing }))
            (⊎_elim (λ (i : Idle asks t). inr (inl (record {
              begun = i.begun;
              at = i.at;
              answered = answered_more asks ask t.seen idles i.answered;
            })))
            (λ (r : Running asks t). inr (inr (running_more asks ask t idles r)))) standing.stage;
      })

  -- ---- something is done at a unit

  module _ (asks : List Asking) (ask : Asking) (t : TargetValue) (n : ℕ) (a after : At) (done : List Done)
      (here : slice_get t.at n ≡ Some a) (lt : n < units) (grows : GrowsAt claims late opening a after done)
      (does : (unit : ℕ) → done_in unit ask ≡ of_unit unit n done) where
    done_here : (nexus : Nexus) (unit : ℕ) (b : At) → nat_eq n unit ≡ true → n ≡ unit
        → slice_get (slice_set t.at n after) unit ≡ Some b
        → ((u : ℕ) (x : At) → slice_get t.at u ≡ Some x → DoneAt claims late opening nexus u (done_at u asks) x)
        → DoneAt claims late opening nexus unit (done_at unit (asks ++ ask ∷ [])) b
    done_here nexus unit b hit is at before =
        let written : slice_get (slice_set t.at n after) unit ≡ Some after =
        subst (λ (k : ℕ). slice_get (slice_set t.at n after) k ≡ Some after) is (get_written t.at n after a here) in
        let e : after ≡ b = some_is after b (sym written ∙ at) in
        let d : done_in unit ask ≡ done = does unit ∙ ap (λ (c : Bool). cond c done []) hit in
        subst (λ (x : At). DoneAt claims late opening nexus unit (done_at unit (asks ++ ask ∷ [])) x) e
        (subst (λ (ds : List Done). DoneAt claims late opening nexus unit ds after)
        (sym (at_more unit asks ask ∙ ap (λ (ds : List Done). done_at unit asks ++ ds) d))
        (done_more claims late opening nexus unit (done_at unit asks) done a after
        (before unit a (subst (λ (k : ℕ). slice_get t.at k ≡ Some a) is here)) grows))
      where
        some_is : (x y : At) → Some x ≡ Some y → x ≡ y
        some_is x y is = cc

    done_there : (nexus : Nexus) (unit : ℕ) (b : At) → nat_eq n unit ≡ false → n ≢ unit
        → slice_get (slice_set t.at n after) unit ≡ Some b
        → ((u : ℕ) (x : At) → slice_get t.at u ≡ Some x → DoneAt claims late opening nexus u (done_at u asks) x)
        → DoneAt claims late opening nexus unit (done_at unit (asks ++ ask ∷ [])) b
    done_there nexus unit b miss other at before =
        let d : done_in unit ask ≡ [] = does unit ∙ ap (λ (c : Bool). cond c done []) miss in
        subst (λ (ds : List Done). DoneAt claims late opening nexus unit ds b) (sym (at_same unit asks ask d))
        (before unit b (get_other t.at n unit after b other at))

    none_there : (unit : ℕ) → units ≤ unit → done_at unit asks ≡ [] → done_at unit (asks ++ ask ∷ []) ≡ []
    none_there unit le none =
        ⊎_elim (λ (y : (nat_eq n unit ≡ true) × (n ≡ unit)). let e = y.1 in absurd (omega (arith, lt, le, e)))
        (λ (o : (nat_eq n unit ≡ false) × (n ≢ unit)).
        at_same unit asks ask (does unit ∙ ap (λ (c : Bool). cond c done []) o.0) ∙ none) (eqb_tells n unit)

    running_on : Running asks t → Running (asks ++ ask ∷ []) (record t { at = slice_set t.at n after })
    running_on r =
        runs_on asks ask t (slice_set t.at n after) r (length-set t.at n after)
        (λ (unit : ℕ) (b : At) (at : slice_get (slice_set t.at n after) unit ≡ Some b).
        ⊎_elim (λ (y : (nat_eq n unit ≡ true) × (n ≡ unit)). done_here (through r.port group) unit b y.0 y.1 at r.at)
        (λ (o : (nat_eq n unit ≡ false) × (n ≢ unit)). done_there (through r.port group) unit b o.0 o.1 at r.at)
        (eqb_tells n unit)) none_there

    -- a session that is attached to no unit has done nothing
    not_at : t.at ≡ [] → ⊥
    not_at none = nowhere t.at n a none here

    pub stepped : Standing asks t → Standing (asks ++ ask ∷ []) (record t { at = slice_set t.at n after })
    stepped standing =
        record {
          units_is = standing.units_is;
          group_is = standing.group_is;
          stage = ⊎_elim (λ (f : Fresh asks t). absurd (not_at f.at))
              (⊎_elim (λ (i : Idle asks t). absurd (not_at i.at)) (λ (r : Running asks t). inr (inr (running_on r))))
              standing.stage;
        }

  -- ---- each question

  absent_nothing : (asked : Result ScsiCommand CdbFault) (bytes : List ℕ) (answer : TargetAnswer) → IsAbsent asked answer
      → done_by asked bytes answer ≡ []
  absent_nothing asked bytes (Replied reply) is = absurd is
  absent_nothing asked bytes (Outside reply) is = refl
  absent_nothing asked bytes Busy is = refl
  absent_nothing asked bytes Gone is = refl

  served_in : (asks : List Asking) (t new : TargetValue) (n : ℕ) (asked : Result ScsiCommand CdbFault) (bytes : List ℕ)
      (answer : TargetAnswer) → n < units → IsServedAt claims late opening t n asked bytes answer new → Standing asks t
      → Standing (asks ++ served (Some n) asked bytes answer ∷ []) new
  served_in asks t new n asked bytes answer lt is standing = by (slice_get t.at n) refl is
    where
      ask : Asking
      ask = served (Some n) asked bytes answer

      by : (o : Option At) → slice_get t.at n ≡ o
          → MatchOption o ((answer ≡ Gone) × (new ≡ t))
          (λ a. (after : At) × IsServed claims late opening a asked bytes answer after × (new ≡ record t { at = slice_set t.at n after }))
          → Standing (asks ++ ask ∷ []) new
      by None here gone =
          kept asks ask t new
          (λ (unit : ℕ). ap (λ (x : TargetAnswer). of_unit unit n (done_by asked bytes x)) gone.0 ∙ nothing_of unit n) gone.1 standing
      by (Some a) here done =
          subst (λ (x : TargetValue). Standing (asks ++ ask ∷ []) x) (sym done.2)
          (stepped asks ask t n a done.0 (done_by asked bytes answer) here lt
          (grows_served claims late opening a done.0 asked bytes answer done.1) (λ (unit : ℕ). refl) standing)

  reset_in : (asks : List Asking) (t new : TargetValue) (n : ℕ) (answer : ResetAnswer) → n < units
      → IsResetIn claims opening t n answer new → Standing asks t
      → Standing (asks ++ reset n answer ∷ []) new
  reset_in asks t new n answer lt is standing = by (slice_get t.at n) refl is
    where
      ask : Asking
      ask = reset n answer

      by : (o : Option At) → slice_get t.at n ≡ o
          → MatchOption o ((answer ≡ resets.Gone) × (new ≡ t))
          (λ a. (after : At) × IsResetAnswer claims opening a answer after × (new ≡ record t { at = slice_set t.at n after }))
          → Standing (asks ++ ask ∷ []) new
      by None here gone =
          kept asks ask t new
          (λ (unit : ℕ). ap (λ (x : ResetAnswer). of_unit unit n (reset_by x)) gone.0 ∙ nothing_of unit n) gone.1 standing
      by (Some a) here done =
          subst (λ (x : TargetValue). Standing (asks ++ ask ∷ []) x) (sym done.2)
          (stepped asks ask t n a done.0 (reset_by answer) here lt
          (grows_reset_at claims late opening a done.0 answer done.1) (λ (unit : ℕ). refl) standing)

  -- a session begins
  begun_as : (asks : List Asking) (t new : TargetValue) (port : Port) (kind : SessionType) (tsih : ℕ) → Standing asks t
      → HasBegun claims table opening t port kind tsih new → HasDoneNothing asks
      → Fresh (asks ++ began port kind (Begun tsih) ∷ []) new ⊎ (Idle (asks ++ began port kind (Begun tsih) ∷ []) new
      ⊎ Running (asks ++ began port kind (Begun tsih) ∷ []) new)
  begun_as asks t new port Normal tsih standing is nothing =
      inr (inr (record {
        begun = ap (λ (x : TargetValue). x.begun) is.rest;
        unseen = ap (λ (x : TargetValue). x.seen) is.rest ∙ is.fresh.2;
        port = port;
        tsih = tsih;
        front = asks;
        rest = [];
        began_is = refl;
        count = is.joined.0 ∙ standing.units_is;
        at = λ (unit : ℕ) (a : At) (here : slice_get new.at unit ≡ Some a).
            subst (λ (ds : List Done). DoneAt claims late opening (through port group) unit ds a)
            (sym (at_same unit asks (began port Normal (Begun tsih)) refl ∙ nothing unit))
            (done_first claims late opening (through port group) unit a
            (subst (λ (g : Group). IsAttachedTo claims opening (through port g) unit a) standing.group_is
            (subst (λ (k : ℕ). IsAttachedTo claims opening (through port t.group) k a) (omega arith)
            (attached_at claims late opening (through port t.group) 0 new.at unit a is.joined.1 here))));
        none = λ (unit : ℕ) (le : units ≤ unit). at_same unit asks (began port Normal (Begun tsih)) refl ∙ nothing unit;
      }))
  begun_as asks t new port Discovery tsih standing is nothing =
      inr (inl (record {
        begun = ap (λ (x : TargetValue). x.begun) is.rest;
        at = is.joined;
        answered = inl (nothing_more asks (began port Discovery (Begun tsih)) (λ (unit : ℕ). refl) nothing);
      }))

  begins : (asks : List Asking) (t new : TargetValue) (port : Port) (kind : SessionType) (tsih : ℕ) → Standing asks t
      → HasBegun claims table opening t port kind tsih new
      → Standing (asks ++ began port kind (Begun tsih) ∷ []) new
  begins asks t new port kind tsih standing is =
      record {
        units_is = ap (λ (x : TargetValue). x.units) is.rest ∙ standing.units_is;
        group_is = ap (λ (x : TargetValue). x.group) is.rest ∙ standing.group_is;
        stage = ⊎_elim (λ (f : Fresh asks t). begun_as asks t new port kind tsih standing is f.nothing)
            (⊎_elim (λ (i : Idle asks t). absurd (not_again i.begun)) (λ (r : Running asks t). absurd (not_again r.begun)))
            standing.stage;
      }
    where
      not_again : t.begun ≡ true → ⊥
      not_again before = let e : true ≡ false = sym before ∙ is.fresh.0 in absurd (cc)

  -- it does not begin
  turned_back : (asks : List Asking) (t new : TargetValue) (port : Port) (kind : SessionType) (fault : BeginFault)
      → IsRefused claims table opening t port kind fault new → Standing asks t
      → Standing (asks ++ began port kind Refused ∷ []) new
  turned_back asks t new port kind fault is standing =
      ⊎_elim (λ (f : Fresh asks t). record {
        units_is = ap (λ (x : TargetValue). x.units) is.rest ∙ standing.units_is;
        group_is = ap (λ (x : TargetValue). x.group) is.rest ∙ standing.group_is;
        stage = inl (record {
          begun = ap (λ (x : TargetValue). x.begun) is.rest ∙ f.begun;
          at = ap (λ (x : TargetValue). x.at) is.rest ∙ f.at;
          nothing = nothing_more asks (began port kind Refused) (λ (unit : ℕ). refl) f.nothing;
        });
      })
      (⊎_elim (λ (i : Idle asks t). as_it_was i.begun) (λ (r : Running asks t). as_it_was r.begun)) standing.stage
    where
      as_it_was : t.begun ≡ true → Standing (asks ++ began port kind Refused ∷ []) new
      as_it_was before = kept asks (began port kind Refused) t new (λ (unit : ℕ). refl) (is.again before) standing

  -- ---- a session is over

  -- what a running session has done stands in the histories that were seen
  ran : (asks : List Asking) (t : TargetValue) (seen : List Sight) → Running asks t → AreOver claims opening t.at seen
      → AreAnswered claims late opening units group asks seen
  ran asks t seen is left =
      inr (record {
        port = is.port;
        tsih = is.tsih;
        front = is.front;
        rest = is.rest;
        began_is = is.began_is;
        done = λ (unit : ℕ) (lt : unit < units).
            let here = there t.at unit (subst (λ (n : ℕ). unit < n) (sym is.count) lt) in
            let one = over_at claims opening t.at seen unit here.0 left here.1 in
            let at = is.at unit here.0 here.1 in (
              one.0,
              one.1,
              one.2.0 ∙ at.place,
              has_done claims late opening (through is.port group) unit (done_at unit asks) here.0 one.0 at one.2,
            );
        none = is.none;
      })

  module _ (asks : List Asking) (t new : TargetValue) (is : IsOver claims table opening t new) where
    nowhere_now : new.at ≡ []
    nowhere_now = ap (λ (x : TargetValue). x.at) is.rest

    begun_is : new.begun ≡ t.begun
    begun_is = ap (λ (x : TargetValue). x.begun) is.rest

    idle_still : Idle asks t → Idle (asks ++ over ∷ []) new
    idle_still i =
        let none = over_none claims opening t.at is.ended.seen i.at is.ended.over in
        let same : new.seen ≡ t.seen = is.ended.ends ∙ ap (λ (l : List Sight). t.seen ++ l) none ∙ append-nil t.seen in
        record {
          begun = begun_is ∙ i.begun;
          at = nowhere_now;
          answered = answered_more asks over new.seen (λ (unit : ℕ). refl)
              (subst (λ (l : List Sight). AreAnswered claims late opening units group asks l) (sym same) i.answered);
        }

    idle_now : Running asks t → Idle (asks ++ over ∷ []) new
    idle_now r =
        let all : is.ended.seen ≡ new.seen = sym (is.ended.ends ∙ ap (λ (l : List Sight). l ++ is.ended.seen) r.unseen) in
        record {
          begun = begun_is ∙ r.begun;
          at = nowhere_now;
          answered = answered_more asks over new.seen (λ (unit : ℕ). refl) (ran asks t new.seen r
              (subst (λ (l : List Sight). AreOver claims opening t.at l) all is.ended.over));
        }

    ends : Standing asks t → Fresh (asks ++ over ∷ []) new ⊎ Idle (asks ++ over ∷ []) new
    ends standing =
        ⊎_elim (λ (f : Fresh asks t). inl (record {
          begun = begun_is ∙ f.begun;
          at = nowhere_now;
          nothing = nothing_more asks over (λ (unit : ℕ). refl) f.nothing;
        }))
        (⊎_elim (λ (i : Idle asks t). inr (idle_still i)) (λ (r : Running asks t). inr (idle_now r))) standing.stage

    over_on : Standing asks t → Standing (asks ++ over ∷ []) new
    over_on standing =
        record {
          units_is = ap (λ (x : TargetValue). x.units) is.rest ∙ standing.units_is;
          group_is = ap (λ (x : TargetValue). x.group) is.rest ∙ standing.group_is;
          stage = ⊎_elim (λ (f : Fresh (asks ++ over ∷ []) new). inl f)
              (λ (i : Idle (asks ++ over ∷ []) new). inr (inl i)) (ends standing);
        }

    pub answered_at_last : Standing asks t → AreAnswered claims late opening units group (asks ++ over ∷ []) new.seen
    answered_at_last standing =
        ⊎_elim (λ (f : Fresh (asks ++ over ∷ []) new). inl f.nothing) (λ (i : Idle (asks ++ over ∷ []) new). i.answered)
        (ends standing)

  step : (asks : List Asking) (ask : Asking) (t new : TargetValue) → Standing asks t → LeadsOn claims table late opening t ask new
      → Standing (asks ++ ask ∷ []) new
  step asks (began port kind (Begun tsih)) t new standing is = begins asks t new port kind tsih standing is
  step asks (began port kind Refused) t new standing is = turned_back asks t new port kind is.0 is.1 standing
  step asks (lives tsih port answer) t new standing is =
      kept asks (lives tsih port answer) t new (λ (unit : ℕ). refl) is.1 standing
  step asks (served None asked bytes answer) t new standing is =
      kept asks (served None asked bytes answer) t new (λ (unit : ℕ). refl) is.1 standing
  step asks (served (Some n) asked bytes answer) t new standing is =
      ⊎_elim (λ (lt : n < units).
      served_in asks t new n asked bytes answer lt (is.0 (subst (λ (k : ℕ). n < k) (sym standing.units_is) lt)) standing)
      (λ (le : units ≤ n).
      let away = is.1 (subst (λ (k : ℕ). k ≤ n) (sym standing.units_is) le) in
      kept asks (served (Some n) asked bytes answer) t new
      (λ (unit : ℕ). ap (λ (ds : List Done). of_unit unit n ds) (absent_nothing asked bytes answer away.0) ∙ nothing_of unit n)
      away.1 standing) (cases_lt n units)
  step asks (reset n answer) t new standing is =
      ⊎_elim (λ (lt : n < units).
      reset_in asks t new n answer lt (is.0 (subst (λ (k : ℕ). n < k) (sym standing.units_is) lt)) standing)
      (λ (le : units ≤ n).
      let away = is.1 (subst (λ (k : ℕ). k ≤ n) (sym standing.units_is) le) in
      kept asks (reset n answer) t new
      (λ (unit : ℕ). ap (λ (x : ResetAnswer). of_unit unit n (reset_by x)) away.0 ∙ nothing_of unit n)
      away.1 standing) (cases_lt n units)
  step asks over t new standing is = over_on asks t new is standing

  led : (asks more : List Asking) (t new : TargetValue) → Standing asks t → Leads (LeadsOn claims table late opening) more t new
      → Standing (asks ++ more) new
  led asks [] t new standing is =
      subst (λ (l : List Asking). Standing l new) (sym (append-nil asks))
      (subst (λ (x : TargetValue). Standing asks x) (sym is) standing)
  led asks (c ∷ more) t new standing is =
      subst (λ (l : List Asking). Standing l new) (append_assoc asks (c ∷ []) more)
      (led (asks ++ c ∷ []) more is.0 new (step asks c t is.0 standing is.1) is.2)

  pub answered_all : (asks : List Asking) (mid new : TargetValue) → Leads (LeadsOn claims table late opening) asks (unbegun units group) mid
      → IsOver claims table opening mid new
      → AreAnswered claims late opening units group (asks ++ over ∷ []) new.seen
  answered_all asks mid new is ends =
      answered_at_last asks mid new ends (led [] asks (unbegun units group) mid
      (record { units_is = refl; group_is = refl; stage = inl (record { begun = refl; at = refl; nothing = λ (unit : ℕ). refl }) })
      is)

  pub session_of : (me : TargetRecord) (left left' held held' : Option (List ℕ)) (after : TargetValue) (end : End) (seen : List Sight)
      → IsTranscribed (LeadsOn claims table late opening) units me (Login (group_number group)) left left' held held' (unbegun units group) after end
      → seen ≡ after.seen
      → IsSession claims table late opening units group me left left' held held' end seen
  session_of me left left' held held' after end seen is same =
      record {
        after = after;
        transcribed = is;
        seen_is = same;
        answered = subst (λ (l : List Sight). AreAnswered claims late opening units group (asked (exchanges is.passed.transcript) ++ over ∷ []) l)
            (sym same) (answered_all (asked (exchanges is.passed.transcript)) is.at_end after is.passed.led is.told);
      }
