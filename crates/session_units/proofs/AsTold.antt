-- What a session has done behind a gate that flushes late, it has done in a history of the model as it was asked and told.
use Rattle.std.proofs.Common.{◌≡◌, ℕ, Bool, true, false, List, [], ◌∷◌, ◌++◌, length, Option, Some, None}
use Rattle.std.proofs.Common.{refl, sym, ap, ◌∙◌, subst, append_assoc, ⊎_elim, inl, inr}
use Rattle.std.proofs.lemmas.Bool.{false≢true}
use Rattle.std.specs.Prelude.{◌⊎◌, IsTrue, MatchBool}
use Rattle.scsi_types.specs.Nexus.{Nexus}
use Rattle.scsi_types.specs.ReplyValue.{ReplyValue}
use Rattle.unit_control.specs.declared.refusal.Refusal.{Refusal}
use Rattle.unit_control.specs.State.{UnitState}
use Rattle.unit_control.specs.Entry.{Entry, Attach, Detach, Reset, Move, Command, IsPossible, IsReplyTo, IsReplyWith, after}
use Rattle.unit_state.specs.History.{state_after, IsLegal}
use Rattle.unit_control.specs.Refusal.{refusal, request}
use Rattle.unit_entries.specs.Histories.{IsHistory, IsToldBehind, is_own}
use Rattle.session_units.specs.Units.{Claims, any_device}
use Rattle.session_units.specs.Late.{Late, never}
use Rattle.session_units.specs.Entries.{Done, replied, was_reset, AreAlike, AreEntries, HasDone, IsEntry, IsLate, IsNextDone}
use Rattle.unit_events.proofs.FlushLaws.{all_weaker, reply_at_end, told_at_end, weaker}

-- ---- histories

behind_one : (s : UnitState) (h : List Entry) (e : Entry) → state_after s (h ++ e ∷ []) ≡ after (state_after s h) e
behind_one s [] e = refl
behind_one s (x ∷ h) e = behind_one (after s x) h e

-- a history is legal where its beginning is, and what follows is in the state behind that
pub legal_front : (claims : Bool) (s : UnitState) (h more : List Entry) → IsLegal claims s (h ++ more) → IsLegal claims s h
legal_front claims s [] more is = tt
legal_front claims s (x ∷ h) more is = (is.0, legal_front claims (after s x) h more is.1)

pub legal_back : (claims : Bool) (s : UnitState) (h more : List Entry) → IsLegal claims s (h ++ more) → IsLegal claims (state_after s h) more
legal_back claims s [] more is = is
legal_back claims s (x ∷ h) more is = legal_back claims (after s x) h more is.1

pub legal_both : (claims : Bool) (s : UnitState) (h more : List Entry) → IsLegal claims s h → IsLegal claims (state_after s h) more
    → IsLegal claims s (h ++ more)
legal_both claims s [] more is next = next
legal_both claims s (x ∷ h) more is next = (is.0, legal_both claims (after s x) h more is.1 next)

pub alike_itself : (sessions : ℕ → Type 0) (s : UnitState) (h : List Entry) → AreAlike sessions s h h
alike_itself sessions s [] = tt
alike_itself sessions s (e ∷ h) = (inl refl, refl, alike_itself sessions (after s e) h)

-- both lead to one state
pub alike_leads : (sessions : ℕ → Type 0) (s : UnitState) (h k : List Entry) → AreAlike sessions s h k → state_after s k ≡ state_after s h
alike_leads sessions s [] [] is = refl
alike_leads sessions s [] (f ∷ k) is = absurd is
alike_leads sessions s (e ∷ h) [] is = absurd is
alike_leads sessions s (e ∷ h) (f ∷ k) is =
    ap (λ (x : UnitState). state_after x k) is.1 ∙ alike_leads sessions (after s e) h k is.2

-- and stay alike before and behind what is the same
pub alike_both : (sessions : ℕ → Type 0) (s : UnitState) (h k more some : List Entry) → AreAlike sessions s h k
    → AreAlike sessions (state_after s h) more some → AreAlike sessions s (h ++ more) (k ++ some)
alike_both sessions s [] [] more some is next = next
alike_both sessions s [] (f ∷ k) more some is next = absurd is
alike_both sessions s (e ∷ h) [] more some is next = absurd is
alike_both sessions s (e ∷ h) (f ∷ k) more some is next =
    (is.0, is.1, alike_both sessions (after s e) h k more some is.2 next)

-- ---- a reply over any device

reply_weaker : (claims : Bool) (s : UnitState) (e : Entry) (reply : ReplyValue) → IsReplyTo claims s e reply → IsReplyTo false s e reply
reply_weaker claims s (Attach nexus) reply is = is
reply_weaker claims s (Detach session) reply is = is
reply_weaker claims s (Reset session) reply is = is
reply_weaker claims s (Move list choice) reply is = is
reply_weaker claims s (Command session serial by asked bytes choice) reply is =
    by_it (refusal s.control (request session asked bytes)) is
  where
    by_it : (o : Option Refusal) → IsReplyWith o claims s (request session asked bytes) choice reply
        → IsReplyWith o false s (request session asked bytes) choice reply
    by_it (Some refused) is = is
    by_it None is =
        record { finding = is.finding; may = is.may; is = is.is; told = λ (h : IsTrue false). absurd (false≢true h) }

-- and behind another history that leads to the same state
told_behind : (claims : Bool) (s : UnitState) (h k : List Entry) (e : Entry) (reply : ReplyValue) → state_after s k ≡ state_after s h
    → IsToldBehind claims s h e reply → IsToldBehind false s k e reply
told_behind claims s h k e reply same is =
    told_at_end false s k e reply (subst (λ (x : UnitState). IsReplyTo false x e reply) (sym same)
    (reply_weaker claims (state_after s h) e reply (reply_at_end claims s h e reply is)))

-- ---- entries as they were asked and told

module _ (claims : Claims) (late : Late) (s : UnitState) (session : ℕ) where
  abbrev Said : List Entry → List Done → List Entry → List Entry → Type 0
  Said front done behind rest =
      (told : List Entry) × AreEntries any_device never s session front done told × IsLegal false (state_after s front) (told ++ rest)
      × AreAlike (λ n. n ≡ session) (state_after s front) behind told

  -- an entry in whose place this one stands
  record Stands (h k : List Entry) (e : Entry) (d : Done) : Type 0 where
    it : Entry
    own : is_own session it ≡ true
    entry : IsEntry any_device never s k it d
    possible : IsPossible false (state_after s k) it
    leads : state_after s (k ++ it ∷ []) ≡ state_after s (h ++ e ∷ [])

  leads_on : (h k : List Entry) (e f : Entry) → state_after s k ≡ state_after s h
      → after (state_after s h) f ≡ after (state_after s h) e → state_after s (k ++ f ∷ []) ≡ state_after s (h ++ e ∷ [])
  leads_on h k e f same is =
      behind_one s k f ∙ ap (λ (x : UnitState). after x f) same ∙ is ∙ sym (behind_one s h e)

  possible_behind : (h k : List Entry) (e : Entry) → state_after s k ≡ state_after s h
      → IsPossible claims.contents (state_after s h) e → IsPossible false (state_after s k) e
  possible_behind h k e same is =
      subst (λ (x : UnitState). IsPossible false x e) (sym same) (weaker claims.contents (state_after s h) e is)

  stands : (h k : List Entry) (e : Entry) (d : Done) → state_after s k ≡ state_after s h → is_own session e ≡ true
      → IsPossible claims.contents (state_after s h) e → IsEntry claims late s h e d
      → Stands h k e d
  stands h k (Attach nexus) d same own possible is = absurd is
  stands h k (Detach id) d same own possible is = absurd is
  stands h k (Move list choice) d same own possible is = absurd is
  stands h k (Reset id) (replied asked bytes reply) same own possible is = absurd is
  stands h k (Command id serial by asked bytes choice) was_reset same own possible is = absurd is
  stands h k (Reset id) was_reset same own possible is =
      record {
        it = Reset id;
        own = own;
        entry = tt;
        possible = possible_behind h k (Reset id) same possible;
        leads = leads_on h k (Reset id) (Reset id) same refl;
      }
  stands h k (Command id serial by asked bytes choice) (replied told came reply) same own possible is =
      ⊎_elim
      (λ (exact : (told ≡ asked) × IsToldBehind claims.contents s h (Command id serial by asked bytes choice) reply). record {
        it = Command id serial by asked bytes choice;
        own = own;
        entry = (is.0, inl (exact.0, told_behind claims.contents s h k (Command id serial by asked bytes choice) reply same exact.1));
        possible = possible_behind h k (Command id serial by asked bytes choice) same possible;
        leads = leads_on h k (Command id serial by asked bytes choice) (Command id serial by asked bytes choice) same refl;
      })
      (λ (is_late : IsLate claims late s h id serial by asked bytes choice told reply). record {
        it = Command id serial by told bytes is_late.stands.end;
        own = own;
        entry = (is.0, inl (refl, told_behind false s h k (Command id serial by told bytes is_late.stands.end) reply same is_late.stands.answered));
        possible = subst (λ (x : UnitState). IsPossible false x (Command id serial by told bytes is_late.stands.end)) (sym same) is_late.stands.possible;
        leads = leads_on h k (Command id serial by asked bytes choice) (Command id serial by told bytes is_late.stands.end) same is_late.stands.same;
      }) is.1

  said : (h k : List Entry) (done : List Done) (behind rest : List Entry) → state_after s k ≡ state_after s h
      → AreEntries claims late s session h done behind → IsLegal claims.contents (state_after s h) (behind ++ rest)
      → Said k done behind rest
  said h k done [] rest same are legal = (
    [],
    are,
    subst (λ (x : UnitState). IsLegal false x rest) (sym same) (all_weaker claims.contents (state_after s h) rest legal),
    tt,
  )
  said h k done (e ∷ behind) rest same are legal =
      by (is_own session e) refl done are
      (λ (f : Entry) (ds : List Done) (leads : state_after s (k ++ f ∷ []) ≡ state_after s (h ++ e ∷ []))
      (those : AreEntries claims late s session (h ++ e ∷ []) ds behind).
      said (h ++ e ∷ []) (k ++ f ∷ []) ds behind rest leads those
      (subst (λ (x : UnitState). IsLegal claims.contents x (behind ++ rest)) (sym (behind_one s h e)) legal.1))
    where
      -- with this entry, its own or not
      with_it : (f : Entry) (ds all : List Done) → IsPossible false (state_after s k) f
          → ((f ≡ e) ⊎ ((n : ℕ) × (n ≡ session) × (is_own n e ≡ true) × (is_own n f ≡ true)))
          → after (state_after s k) f ≡ after (state_after s k) e
          → ((more : List Entry) → AreEntries any_device never s session (k ++ f ∷ []) ds more
          → AreEntries any_device never s session k all (f ∷ more))
          → Said (k ++ f ∷ []) ds behind rest → Said k all (e ∷ behind) rest
      with_it f ds all possible alike led first next = (
        f ∷ next.0,
        first next.0 next.1,
        (possible, subst (λ (x : UnitState). IsLegal false x (next.0 ++ rest)) (behind_one s k f) next.2),
        (alike, led, subst (λ (x : UnitState). AreAlike (λ n. n ≡ session) x behind next.0) (behind_one s k f ∙ led) next.3),
      )

      other : is_own session e ≡ false → (ds : List Done) → Said (k ++ e ∷ []) ds behind rest → Said k ds (e ∷ behind) rest
      other own ds next =
          with_it e ds ds (possible_behind h k e same legal.0) (inl refl) refl
          (λ (more : List Entry) (is : AreEntries any_device never s session (k ++ e ∷ []) ds more).
          subst (λ (b : Bool). MatchBool b
          (IsNextDone any_device never s k e ds (λ left. AreEntries any_device never s session (k ++ e ∷ []) left more))
          (AreEntries any_device never s session (k ++ e ∷ []) ds more)) (sym own) is) next

      its_own : is_own session e ≡ true → (d : Done) (ds : List Done) (f : Entry) → is_own session f ≡ true
          → IsEntry any_device never s k f d → IsPossible false (state_after s k) f
          → after (state_after s k) f ≡ after (state_after s k) e
          → Said (k ++ f ∷ []) ds behind rest → Said k (d ∷ ds) (e ∷ behind) rest
      its_own own d ds f own_f entry possible led next =
          with_it f ds (d ∷ ds) possible (inr (session, refl, own, own_f)) led
          (λ (more : List Entry) (is : AreEntries any_device never s session (k ++ f ∷ []) ds more).
          subst (λ (b : Bool). MatchBool b
          (IsNextDone any_device never s k f (d ∷ ds) (λ left. AreEntries any_device never s session (k ++ f ∷ []) left more))
          (AreEntries any_device never s session (k ++ f ∷ []) (d ∷ ds) more)) (sym own_f) (entry, is)) next

      by : (b : Bool) → is_own session e ≡ b → (ds : List Done)
          → MatchBool b
          (IsNextDone claims late s h e ds (λ left. AreEntries claims late s session (h ++ e ∷ []) left behind))
          (AreEntries claims late s session (h ++ e ∷ []) ds behind)
          → ((f : Entry) (left : List Done) → state_after s (k ++ f ∷ []) ≡ state_after s (h ++ e ∷ [])
          → AreEntries claims late s session (h ++ e ∷ []) left behind → Said (k ++ f ∷ []) left behind rest)
          → Said k ds (e ∷ behind) rest
      by true own [] first next = absurd first
      by true own (d ∷ ds) first next =
          let it = stands h k e d same own legal.0 first.0 in
          its_own own d ds it.it it.own it.entry it.possible
          (sym (behind_one s k it.it) ∙ it.leads ∙ behind_one s h e ∙ ap (λ (x : UnitState). after x e) (sym same))
          (next it.it ds it.leads first.1)
      by false own ds first next =
          other own ds (next e ds (leads_on h k e e same refl) first)

  -- what a session of this nexus has done
  pub as_told : (nexus : Nexus) (done : List Done) (before behind rest : List Entry)
      → IsHistory claims.contents s (((before ++ Attach nexus ∷ []) ++ behind) ++ rest)
      → AreEntries claims late s session (before ++ Attach nexus ∷ []) done behind
      → (told : List Entry) × IsHistory false s (((before ++ Attach nexus ∷ []) ++ told) ++ rest)
      × AreEntries any_device never s session (before ++ Attach nexus ∷ []) done told
      × AreAlike (λ n. n ≡ session) s (((before ++ Attach nexus ∷ []) ++ behind) ++ rest)
      (((before ++ Attach nexus ∷ []) ++ told) ++ rest)
  as_told nexus done before behind rest is are =
      let front : List Entry = before ++ Attach nexus ∷ [] in
      let whole : IsLegal claims.contents s (front ++ (behind ++ rest)) =
      subst (λ (h : List Entry). IsLegal claims.contents s h) (append_assoc front behind rest) is.legal in
      let t = said front front done behind rest refl are (legal_back claims.contents s front (behind ++ rest) whole) in (
        t.0,
        record {
          opens = is.opens;
          legal = subst (λ (h : List Entry). IsLegal false s h) (sym (append_assoc front t.0 rest))
              (legal_both false s front (t.0 ++ rest)
              (all_weaker claims.contents s front (legal_front claims.contents s front (behind ++ rest) whole)) t.2);
        },
        t.1,
        alike_both (λ n. n ≡ session) s (front ++ behind) (front ++ t.0) rest rest
            (alike_both (λ n. n ≡ session) s front front behind t.0 (alike_itself (λ n. n ≡ session) s front) t.3)
            (alike_itself (λ n. n ≡ session) (state_after s (front ++ behind)) rest),
      )

-- all that is said of it, over any device and with no late flush, and with the same number
pub has_done_as_told : (claims : Claims) (late : Late) (s : UnitState) (nexus : Nexus) (done : List Done) (history : List Entry)
    → (is : HasDone claims late s nexus done history)
    → (told : List Entry) × (again : HasDone any_device never s nexus done told) × (length again.before ≡ length is.before)
    × AreAlike (λ n. n ≡ length is.before) s history told
has_done_as_told claims late s nexus done history is =
    let t = as_told claims late s (length is.before) nexus done is.before is.behind is.rest
    (subst (λ (h : List Entry). IsHistory claims.contents s h) is.is is.legal) is.entries in (
      ((is.before ++ Attach nexus ∷ []) ++ t.0) ++ is.rest,
      record {
        before = is.before;
        behind = t.0;
        rest = is.rest;
        legal = t.1;
        is = refl;
        entries = t.2;
        ends = is.ends;
        left = tt;
      },
      refl,
      subst (λ (h : List Entry). AreAlike (λ n. n ≡ length is.before) s h (((is.before ++ Attach nexus ∷ []) ++ t.0) ++ is.rest))
          (sym is.is) t.3,
    )
