-- What calls one after another add to what a session's pass has seen.
use Rattle.std.proofs.Common.{◌≡◌, ◌≢◌, ℕ, ◌+◌, Bool, true, false, nat_eq, List, [], ◌∷◌, ◌++◌, cond}
use Rattle.std.proofs.Common.{Result, Ok, Err, refl, sym, ap, ◌∙◌, subst, append_assoc, append-nil, ⊎_elim, inl, inr, arith}
use Rattle.std.proofs.lemmas.Bool.Decides.{eqb_tells}
use Rattle.std.proofs.lemmas.List.Sums.{sum_by-append}
use Rattle.std.specs.Prelude.{MatchBool, IsTrue}
use Rattle.scsi_types.specs.ReplyValue.{ReplyValue, check}
use Rattle.scsi_types.specs.Sense.{write_error}
use Rattle.scsi_types.specs.declared.status.Status.TheVariants.{Good}
use Rattle.scsi_types.specs.declared.names.Group.{Group}
use Rattle.scsi_types.specs.declared.command.Command.{Command as ScsiCommand}
use Rattle.scsi_types.specs.declared.command.CdbFault.{CdbFault}
use Rattle.session_rules.specs.declared.target.TargetAnswer.{TargetAnswer}
use Rattle.session_rules.specs.declared.target.ResetAnswer.{ResetAnswer}
use Rattle.session_rules.specs.declared.target.ResetAnswer.TheVariants as resets
use Rattle.unit_control.specs.State.{UnitState}
use Rattle.status.specs.Views.{counted}
use Rattle.unit_lock.specs.Calls.{Known, PlacedPass, IsRefused}
use Rattle.forwarding.specs.declared.desk.DeskFault.TheVariants as desks
use Rattle.unit_lock.specs.declared.machine.Refused.TheVariants as refusals
use Rattle.unit_control.specs.Entry.{Entry, Command}
use Rattle.unit_entries.specs.Histories.{IsHistory, IsCommand, IsToldBehind, is_own, own}
use Rattle.unit_history.specs.Calls.{HasServed}
use Rattle.unit_events.specs.Flushes.{Flushing, asked_by, served_by, IsToldBehindFlush}
use Rattle.session_units.specs.Late.{Late, late_at, IsToldEnd}
use Rattle.session_units.specs.Units.{Claims, IsSubmitted, IsResetBy}
use Rattle.session_units.specs.Submitted.{At, held_of, IsOnce, IsSettled, IsTwice, IsServed, IsResetAnswer, answer_of, is_moved}
use Rattle.session_units.specs.declared.units.Unserved.{Unserved}
use Rattle.session_units.specs.declared.units.Unserved.TheVariants.{ByUnit, ByDesk}
use Rattle.unit_events.proofs.FlushLaws.{has_late_flush, possible_at_end, told_by}
use Rattle.session_units.specs.Entries.{Done, replied, was_reset, done_by, reset_by, AreEntries, IsEntry, IsNextDone}

pub itself : (n : ℕ) → nat_eq n n ≡ true
itself n = ⊎_elim (λ (t : (nat_eq n n ≡ true) × (n ≡ n)). t.0)
    (λ (f : (nat_eq n n ≡ false) × (n ≢ n)). absurd (f.1 refl)) (eqb_tells n n)

pub one_more : (session : ℕ) (e : Entry) (more : List Entry) → counted own session (e ∷ more) ≡ own session e + counted own session more
one_more session e more = let q = sum_by-append (own session) (e ∷ []) more in omega arith

-- of what came behind what was seen no entry is the session's own, where it has as many as before
pub none_own : (session : ℕ) (seen more history : List Entry) → seen ++ more ≡ history
    → counted own session history ≡ counted own session seen → counted own session more ≡ 0
none_own session seen more history is same =
    let q = sum_by-append (own session) seen more in
    let r = ap (counted own session) is in
    omega arith

module _ (claims : Claims) (late : Late) (s : UnitState) (session : ℕ) where
  -- entries of others alone are none of its own
  pub none_of : (before more : List Entry) → counted own session more ≡ 0 → AreEntries claims late s session before [] more
  none_of before [] none = refl
  none_of before (e ∷ more) none =
      by (is_own session e) refl (λ (others : counted own session more ≡ 0). none_of (before ++ e ∷ []) more others)
    where
      by : (b : Bool) → is_own session e ≡ b
          → (counted own session more ≡ 0 → AreEntries claims late s session (before ++ e ∷ []) [] more)
          → MatchBool b
          (IsNextDone claims late s before e [] (λ rest. AreEntries claims late s session (before ++ e ∷ []) rest more))
          (AreEntries claims late s session (before ++ e ∷ []) [] more)
      by true is rest =
          let one : own session e ≡ 1 = ap (λ (b : Bool). cond b 1 0) is in
          let q = one_more session e more in absurd (omega (arith, none))
      by false is rest = let q = one_more session e more in rest (omega (arith, none))

  -- two rows of entries, one behind the other
  pub both_of : (before : List Entry) (done : List Done) (one : List Entry) (after : List Done) (two : List Entry)
      → AreEntries claims late s session before done one → AreEntries claims late s session (before ++ one) after two
      → AreEntries claims late s session before (done ++ after) (one ++ two)
  both_of before done [] after two is next =
      subst (λ (ds : List Done). AreEntries claims late s session before (ds ++ after) two) (sym is)
      (subst (λ (h : List Entry). AreEntries claims late s session h after two) (append-nil before) next)
  both_of before done (e ∷ one) after two is next =
      by (is_own session e) done is
      (λ (ds : List Done) (those : AreEntries claims late s session (before ++ e ∷ []) ds one).
      both_of (before ++ e ∷ []) ds one after two those
      (subst (λ (h : List Entry). AreEntries claims late s session h after two) (sym (append_assoc before (e ∷ []) one)) next))
    where
      by : (b : Bool) (ds : List Done)
          → MatchBool b
          (IsNextDone claims late s before e ds (λ rest. AreEntries claims late s session (before ++ e ∷ []) rest one))
          (AreEntries claims late s session (before ++ e ∷ []) ds one)
          → ((some : List Done) → AreEntries claims late s session (before ++ e ∷ []) some one
          → AreEntries claims late s session (before ++ e ∷ []) (some ++ after) (one ++ two))
          → MatchBool b
          (IsNextDone claims late s before e (ds ++ after) (λ rest. AreEntries claims late s session (before ++ e ∷ []) rest (one ++ two)))
          (AreEntries claims late s session (before ++ e ∷ []) (ds ++ after) (one ++ two))
      by true [] first rest = absurd first
      by true (d ∷ ds) first rest = (first.0, rest ds first.1)
      by false ds first rest = rest ds first

  -- one of its own
  pub one_of : (before : List Entry) (e : Entry) (d : Done) → is_own session e ≡ true → IsEntry claims late s before e d
      → AreEntries claims late s session before (d ∷ []) (e ∷ [])
  one_of before e d own is =
      subst (λ (b : Bool). MatchBool b
      (IsNextDone claims late s before e (d ∷ []) (λ rest. AreEntries claims late s session (before ++ e ∷ []) rest []))
      (AreEntries claims late s session (before ++ e ∷ []) (d ∷ []) [])) (sym own) (is, refl)

module _ (claims : Claims) (late : Late) (s : UnitState) where
  -- the pass has seen more, of which these are the session's own
  pub record Grows (old new : Known Entry) (done : List Done) : Type 0 where
    pub more : List Entry
    pub seen : new.seen ≡ old.seen ++ more
    pub legal : IsHistory claims.contents s new.seen
    pub session : new.session ≡ old.session
    pub entries : AreEntries claims late s old.session old.seen done more

  pub grows_twice : (a b c : Known Entry) (done after : List Done) → Grows a b done → Grows b c after → Grows a c (done ++ after)
  grows_twice a b c done after first next =
      record {
        more = first.more ++ next.more;
        seen = next.seen ∙ ap (λ (h : List Entry). h ++ next.more) first.seen ∙ append_assoc a.seen first.more next.more;
        legal = next.legal;
        session = next.session ∙ first.session;
        entries = both_of claims late s a.session a.seen done first.more after next.more first.entries
            (subst (λ (h : List Entry). AreEntries claims late s a.session h after next.more) first.seen
            (subst (λ (n : ℕ). AreEntries claims late s n b.seen after next.more) first.session next.entries));
      }

  pub grows_later : (old new : Known Entry) → IsRefused own (IsHistory claims.contents s) old new → Grows old new []
  grows_later old new is =
      record {
        more = is.0.0;
        seen = sym is.0.1;
        legal = is.2;
        session = is.3;
        entries = none_of claims late s old.session old.seen is.0.0 (none_own old.session old.seen is.0.0 new.seen is.0.1 is.1);
      }

  -- a pass that is as it was
  grows_not : (old new : Known Entry) → (new ≡ old) × IsHistory claims.contents s old.seen → Grows old new []
  grows_not old new is =
      subst (λ (p : Known Entry). Grows old p []) (sym is.0)
      (record { more = []; seen = sym (append-nil old.seen); legal = is.1; session = refl; entries = refl })

  grows_added : (old new : Known Entry) (between : List Entry) (e : Entry) (d : Done) → counted own old.session between ≡ 0
      → new.seen ≡ (old.seen ++ between) ++ e ∷ [] → IsHistory claims.contents s new.seen → new.session ≡ old.session
      → is_own old.session e ≡ true → IsEntry claims late s (old.seen ++ between) e d
      → Grows old new (d ∷ [])
  grows_added old new between e d none seen legal session is_its entry =
      record {
        more = between ++ e ∷ [];
        seen = seen ∙ append_assoc old.seen between (e ∷ []);
        legal = legal;
        session = session;
        entries = both_of claims late s old.session old.seen [] between (d ∷ []) (e ∷ [])
            (none_of claims late s old.session old.seen between none)
            (one_of claims late s old.session (old.seen ++ between) e d is_its entry);
      }

  module _ (asked : Result ScsiCommand CdbFault) (bytes : List ℕ) where
    -- the entry is this command, with this reply
    command_is : (before : List Entry) (session serial : ℕ) (by_group : Group) (reply : ReplyValue) (e : Entry)
        → IsCommand session serial by_group asked bytes e → IsToldBehind claims.contents s before e reply
        → IsEntry claims late s before e (replied asked bytes reply)
    command_is before session serial by_group reply e is told =
        let c : Entry = Command session serial by_group asked bytes is.0 in
        subst (λ (x : Entry). IsEntry claims late s before x (replied asked bytes reply)) (sym is.1)
        (refl, inl (refl, subst (λ (x : Entry). IsToldBehind claims.contents s before x reply) is.1 told))

    own_command : (session serial : ℕ) (by_group : Group) (e : Entry) → IsCommand session serial by_group asked bytes e
        → is_own session e ≡ true
    own_command session serial by_group e is = subst (λ (x : Entry). is_own session x ≡ true) (sym is.1) (itself session)

    grows_replied : (old new : Known Entry) (by_group : Group) (reply : ReplyValue)
        → HasServed claims.contents s old new by_group asked bytes reply
        → Grows old new (replied asked bytes reply ∷ [])
    grows_replied old new by_group reply is =
        let a = is.0 in
        grows_added old new a.0 a.1 (replied asked bytes reply) a.2 a.3 a.4 is.1.0
        (own_command old.session old.serial by_group a.1 a.5.0)
        (command_is (old.seen ++ a.0) old.session old.serial by_group reply a.1 a.5.0 a.5.1)

    pub grows_submitted : (old new : Known Entry) (by_group : Group) (end : Result ReplyValue Unserved)
        → IsSubmitted claims s old by_group asked bytes end new
        → Grows old new (done_by asked bytes (answer_of end))
    grows_submitted old new by_group (Ok reply) is = grows_replied old new by_group reply is.0
    grows_submitted old new by_group (Err (ByUnit refusals.Gone)) is = grows_later old new is.0
    grows_submitted old new by_group (Err (ByUnit (refusals.Moved owner))) is = grows_later old new is.0
    grows_submitted old new by_group (Err (ByUnit refusals.NoMemory)) is = grows_later old new is.0
    grows_submitted old new by_group (Err (ByDesk desks.Full)) is = grows_not old new is
    grows_submitted old new by_group (Err (ByDesk desks.Closed)) is = grows_not old new is
    grows_submitted old new by_group (Err (ByDesk desks.NoMemory)) is = grows_not old new is

    nothing_unserved : (why : Unserved) → done_by asked bytes (answer_of (Err why)) ≡ []
    nothing_unserved (ByUnit refusals.Gone) = refl
    nothing_unserved (ByUnit (refusals.Moved owner)) = refl
    nothing_unserved (ByUnit refusals.NoMemory) = refl
    nothing_unserved (ByDesk desks.Full) = refl
    nothing_unserved (ByDesk desks.Closed) = refl
    nothing_unserved (ByDesk desks.NoMemory) = refl

    -- what has moved has done nothing
    pub nothing_moved : (end : Result ReplyValue Unserved) → is_moved end ≡ true → done_by asked bytes (answer_of end) ≡ []
    nothing_moved (Ok reply) is = absurd (cc)
    nothing_moved (Err (ByUnit refusals.Gone)) is = refl
    nothing_moved (Err (ByUnit (refusals.Moved owner))) is = refl
    nothing_moved (Err (ByUnit refusals.NoMemory)) is = refl
    nothing_moved (Err (ByDesk desks.Full)) is = refl
    nothing_moved (Err (ByDesk desks.Closed)) is = refl
    nothing_moved (Err (ByDesk desks.NoMemory)) is = refl

  -- a command whose flush came behind it
  module _ (f : Flushing) (bytes : List ℕ) (is_late : IsTrue late.is_late) (old new : Known Entry) (by_group : Group) (place : ℕ) where
    abbrev behind : PlacedPass Entry
    behind = record { place = place; pass = new }

    late_is : (before : List Entry) (reply told : ReplyValue) (e : Entry)
        → IsCommand old.session old.serial by_group (Ok (served_by f)) bytes e → IsToldBehind claims.contents s before e reply
        → new.seen ≡ before ++ e ∷ [] → IsHistory claims.contents s new.seen → IsToldBehindFlush (late.lasts behind) reply told
        → IsEntry claims late s before e (replied (Ok (asked_by f)) bytes told)
    late_is before reply told e is replied_is seen legal ended =
        let c : Entry = Command old.session old.serial by_group (Ok (served_by f)) bytes is.0 in
        let seen_c : new.seen ≡ before ++ c ∷ [] = subst (λ (x : Entry). new.seen ≡ before ++ x ∷ []) is.1 seen in
        subst (λ (x : Entry). IsEntry claims late s before x (replied (Ok (asked_by f)) bytes told)) (sym is.1) (
          refl,
          inr (record {
            is_late = is_late;
            stands = has_late_flush claims.contents
                ((pass : PlacedPass Entry) × (pass.pass.seen ≡ before ++ c ∷ []) × late.lasts pass) s before old.session old.serial
                by_group bytes is.0 f
                (possible_at_end claims.contents s before c
                (subst (λ (h : List Entry). IsHistory claims.contents s h) seen_c legal).legal) reply told
                (subst (λ (x : Entry). IsToldBehind claims.contents s before x reply) is.1 replied_is)
                (told_by (late.lasts behind) ((pass : PlacedPass Entry) × (pass.pass.seen ≡ before ++ c ∷ []) × late.lasts pass)
                reply told (λ (lasts : late.lasts behind). (behind, seen_c, lasts)) ended);
          }),
        )

    grows_told : (reply told : ReplyValue) → HasServed claims.contents s old new by_group (Ok (served_by f)) bytes reply
        → IsToldBehindFlush (late.lasts behind) reply told → Grows old new (replied (Ok (asked_by f)) bytes told ∷ [])
    grows_told reply told is ended =
        let a = is.0 in
        grows_added old new a.0 a.1 (replied (Ok (asked_by f)) bytes told) a.2 a.3 a.4 is.1.0
        (own_command (Ok (served_by f)) bytes old.session old.serial by_group a.1 a.5.0)
        (late_is (old.seen ++ a.0) reply told a.1 a.5.0 a.5.1 a.3 a.4 ended)

    pub grows_settled : (first end : Result ReplyValue Unserved) → IsSubmitted claims s old by_group (Ok (served_by f)) bytes first new
        → IsToldEnd (late.lasts behind) first end → Grows old new (done_by (Ok (asked_by f)) bytes (answer_of end))
    grows_settled (Ok reply) (Ok told) is ended = grows_told reply told is.0 ended
    grows_settled (Ok reply) (Err why) is ended = absurd ended
    grows_settled (Err why) (Ok told) is ended = absurd ended
    grows_settled (Err why) (Err same) is ended =
        subst (λ (ds : List Done). Grows old new ds)
        (nothing_unserved (Ok (served_by f)) bytes why ∙ sym (nothing_unserved (Ok (asked_by f)) bytes same))
        (grows_submitted (Ok (served_by f)) bytes old new by_group (Err why) is)

  pub grows_reset : (old new : Known Entry) (done : Bool) → IsResetBy claims s old done new
      → Grows old new (reset_by (cond done resets.Done resets.Gone))
  grows_reset old new true is =
      let a = is.0 in
      grows_added old new a.0 a.1 was_reset a.2 a.3 a.4 is.1
      (subst (λ (x : Entry). is_own old.session x ≡ true) (sym a.5) (itself old.session))
      (subst (λ (x : Entry). IsEntry claims late s (old.seen ++ a.0) x was_reset) (sym a.5) tt)
  grows_reset old new false is = grows_later old new is.0

-- what is told for more than is said
told_for : (one other : Type 0) → (one → other) → (first end : Result ReplyValue Unserved) → IsToldEnd one first end → IsToldEnd other first end
told_for one other gives (Ok reply) (Ok told) is =
    ⊎_elim (λ (so : (told ≡ reply) × (reply.status ≡ Good → one)). inl (so.0, λ (good : reply.status ≡ Good). gives (so.1 good)))
    (λ (lost : (reply.status ≡ Good) × (told ≡ check write_error)). inr lost) is
told_for one other gives (Ok reply) (Err why) is = is
told_for one other gives (Err why) (Ok told) is = is
told_for one other gives (Err why) (Err same) is = is

module _ (claims : Claims) (late : Late) (opening : ℕ → UnitState) where
  -- a session at one unit, which stays the same
  pub record GrowsAt (old new : At) (done : List Done) : Type 0 where
    pub place : new.place ≡ old.place
    pub grown : Grows claims (late_at late old.place) (opening old.place) old.pass new.pass done

  grows_once : (old new : At) (asked : Result ScsiCommand CdbFault) (bytes : List ℕ) (end : Result ReplyValue Unserved)
      → IsOnce claims late opening old asked bytes end new
      → GrowsAt old new (done_by asked bytes (answer_of end))
  grows_once old new asked bytes end is =
      record {
        place = is.place;
        grown = ⊎_elim
            (λ (call : IsSubmitted claims (opening old.place) old.pass old.by_group asked bytes end new.pass).
            grows_submitted claims (late_at late old.place) (opening old.place) asked bytes old.pass new.pass old.by_group end call)
            (λ (call : IsSettled claims late opening (held_of old) old.by_group asked bytes end (held_of new)). settled call) is.call;
      }
    where
      settled : IsSettled claims late opening (held_of old) old.by_group asked bytes end (held_of new)
          → Grows claims (late_at late old.place) (opening old.place) old.pass new.pass (done_by asked bytes (answer_of end))
      settled call =
          let f = call.unflushed.0 in
          subst (λ (x : Result ScsiCommand CdbFault). Grows claims (late_at late old.place) (opening old.place) old.pass new.pass
          (done_by x bytes (answer_of end))) (sym call.unflushed.1)
          (grows_settled claims (late_at late old.place) (opening old.place) f bytes call.is_late old.pass new.pass old.by_group new.place call.first end
          (subst (λ (x : Result ScsiCommand CdbFault). IsSubmitted claims (opening old.place) old.pass old.by_group x bytes call.first
          new.pass) call.unflushed.2 call.call)
          (told_for (late.lasts (held_of new)) ((new.place ≡ old.place) × late.lasts (held_of new))
          (λ (lasts : late.lasts (held_of new)). (is.place, lasts)) call.first end call.told))

  grows_again : (old new : At) (asked : Result ScsiCommand CdbFault) (bytes : List ℕ) (end : Result ReplyValue Unserved)
      → IsTwice claims late opening old asked bytes end new
      → GrowsAt old new (done_by asked bytes (answer_of end))
  grows_again old new asked bytes end is =
      let one = grows_once old is.between asked bytes is.first is.once in
      let two = grows_once is.between new asked bytes end is.again in
      record {
        place = two.place ∙ one.place;
        grown = grows_twice claims (late_at late old.place) (opening old.place) old.pass is.between.pass new.pass [] (done_by asked bytes (answer_of end))
            (subst (λ (ds : List Done). Grows claims (late_at late old.place) (opening old.place) old.pass is.between.pass ds)
            (nothing_moved claims (late_at late old.place) (opening old.place) asked bytes is.first is.moved) one.grown)
            (subst (λ (n : ℕ). Grows claims (late_at late n) (opening n) is.between.pass new.pass (done_by asked bytes (answer_of end))) one.place
            two.grown);
      }

  pub grows_served : (old new : At) (asked : Result ScsiCommand CdbFault) (bytes : List ℕ) (answer : TargetAnswer)
      → IsServed claims late opening old asked bytes answer new
      → GrowsAt old new (done_by asked bytes answer)
  grows_served old new asked bytes answer is =
      subst (λ (a : TargetAnswer). GrowsAt old new (done_by asked bytes a)) (sym is.answer_is)
      (⊎_elim (λ (once : IsOnce claims late opening old asked bytes is.end new × (is_moved is.end ≡ false)).
      grows_once old new asked bytes is.end once.0)
      (λ (twice : IsTwice claims late opening old asked bytes is.end new). grows_again old new asked bytes is.end twice)
      is.calls)

  pub grows_reset_at : (old new : At) (answer : ResetAnswer) → IsResetAnswer claims opening old answer new
      → GrowsAt old new (reset_by answer)
  grows_reset_at old new resets.Done is =
      record { place = is.place; grown = grows_reset claims (late_at late old.place) (opening old.place) old.pass new.pass true is.call }
  grows_reset_at old new resets.Gone is =
      record { place = is.place; grown = grows_reset claims (late_at late old.place) (opening old.place) old.pass new.pass false is.call }
  grows_reset_at old new resets.Failed is = absurd is
