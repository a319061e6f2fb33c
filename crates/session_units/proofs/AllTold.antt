-- What the sessions of a unit have done, each behind a gate that flushes late, stands in one history as they asked and were told.
use Rattle.std.proofs.Common.{◌≡◌, ℕ, suc, Bool, true, false, List, [], ◌∷◌, ◌++◌, length, cond}
use Rattle.std.proofs.Common.{refl, sym, ap, ◌∙◌, subst, append_assoc, append-nil, ⊎_elim, inl, inr, arith}
use Rattle.std.proofs.lemmas.Bool.{false≢true}
use Rattle.std.proofs.lemmas.List.Elements.{All-nil, All-cons, All-head, All-tail}
use Rattle.std.specs.Prelude.{◌⊎◌, MatchBool, All, AllPairs}
use mathlib.Core.List.{IsPrefix}
use Rattle.scsi_types.specs.Nexus.{Nexus}
use Rattle.status.specs.Views.{counted}
use Rattle.unit_control.specs.State.{UnitState}
use Rattle.unit_control.specs.Entry.{Entry, Attach, Detach, Reset, Move, Command, IsReplyTo, after}
use Rattle.unit_state.specs.History.{state_after, IsLegal}
use Rattle.unit_entries.specs.Histories.{is_own, own}
use Rattle.session_units.specs.Units.{Claims, any_device}
use Rattle.session_units.specs.Late.{Late, never}
use Rattle.session_units.specs.Leavers.{Leaver, AreTwo, IsOneOf, StandsIn, number_of}
use Rattle.session_units.specs.Entries.{Done, replied, was_reset, AreAlike, AreEntries, HasDone, IsEntry, IsEnd, IsLate, IsNextDone}
use Rattle.session_units.proofs.Apart.{one_session}
use Rattle.session_units.proofs.AsTold.{alike_both, alike_itself, alike_leads, has_done_as_told, legal_back, legal_both, legal_front}
use Rattle.session_units.proofs.Chains.{itself, one_more}
use Rattle.unit_events.proofs.FlushLaws.{all_weaker, reply_at_end, told_at_end}

-- ---- histories that are alike

abbrev Pair : (ℕ → Type 0) → Entry → Entry → Type 0
Pair sessions e f = (f ≡ e) ⊎ ((n : ℕ) × sessions n × (is_own n e ≡ true) × (is_own n f ≡ true))

pair_more : (some all : ℕ → Type 0) (e f : Entry) → ((n : ℕ) → some n → all n) → Pair some e f → Pair all e f
pair_more some all e f more is =
    ⊎_elim (λ (same : f ≡ e). inl same)
    (λ (p : (n : ℕ) × some n × (is_own n e ≡ true) × (is_own n f ≡ true)). inr (p.0, more p.0 p.1, p.2, p.3)) is

pair_back : (sessions : ℕ → Type 0) (e f : Entry) → Pair sessions e f → Pair sessions f e
pair_back sessions e f is =
    ⊎_elim (λ (same : f ≡ e). inl (sym same))
    (λ (p : (n : ℕ) × sessions n × (is_own n e ≡ true) × (is_own n f ≡ true)). inr (p.0, p.1, p.3, p.2)) is

pair_then : (some all : ℕ → Type 0) (e f g : Entry) → ((n : ℕ) → some n → all n) → Pair all e f → Pair some f g → Pair all e g
pair_then some all e f g more first second =
    ⊎_elim (λ (same : g ≡ f). subst (λ (x : Entry). Pair all e x) (sym same) first)
    (λ (q : (n : ℕ) × some n × (is_own n f ≡ true) × (is_own n g ≡ true)).
    ⊎_elim
    (λ (same : f ≡ e). inr (q.0, more q.0 q.1, subst (λ (x : Entry). is_own q.0 x ≡ true) same q.2, q.3))
    (λ (p : (n : ℕ) × all n × (is_own n e ≡ true) × (is_own n f ≡ true)).
    inr (p.0, p.1, p.2, subst (λ (n : ℕ). is_own n g ≡ true) (one_session q.0 p.0 f q.2 p.3) q.3)) first) second

-- an entry of another session's is the same in both
pair_apart : (sessions : ℕ → Type 0) (session : ℕ) (e f : Entry) → (sessions session → ⊥) → Pair sessions e f
    → (f ≡ e) ⊎ ((is_own session e ≡ false) × (is_own session f ≡ false))
pair_apart sessions session e f other is =
    ⊎_elim (λ (same : f ≡ e). inl same)
    (λ (p : (n : ℕ) × sessions n × (is_own n e ≡ true) × (is_own n f ≡ true)).
    inr (not_own p.0 p.1 e p.2 (is_own session e) refl, not_own p.0 p.1 f p.3 (is_own session f) refl)) is
  where
    not_own : (n : ℕ) → sessions n → (x : Entry) → is_own n x ≡ true → (b : Bool) → is_own session x ≡ b → is_own session x ≡ false
    not_own n is x owned true same = absurd (other (subst sessions (one_session n session x owned same) is))
    not_own n is x owned false same = same

alike_more : (some all : ℕ → Type 0) (s : UnitState) (h k : List Entry) → ((n : ℕ) → some n → all n) → AreAlike some s h k
    → AreAlike all s h k
alike_more some all s [] [] more is = tt
alike_more some all s [] (f ∷ k) more is = absurd is
alike_more some all s (e ∷ h) [] more is = absurd is
alike_more some all s (e ∷ h) (f ∷ k) more is = (pair_more some all e f more is.0, is.1, alike_more some all (after s e) h k more is.2)

alike_back : (sessions : ℕ → Type 0) (s : UnitState) (h k : List Entry) → AreAlike sessions s h k → AreAlike sessions s k h
alike_back sessions s [] [] is = tt
alike_back sessions s [] (f ∷ k) is = absurd is
alike_back sessions s (e ∷ h) [] is = absurd is
alike_back sessions s (e ∷ h) (f ∷ k) is = (
  pair_back sessions e f is.0,
  sym is.1,
  subst (λ (x : UnitState). AreAlike sessions x k h) (sym is.1) (alike_back sessions (after s e) h k is.2),
)

alike_then : (some all : ℕ → Type 0) (s : UnitState) (h k l : List Entry) → ((n : ℕ) → some n → all n) → AreAlike all s h k
    → AreAlike some s k l → AreAlike all s h l
alike_then some all s [] [] [] more first second = tt
alike_then some all s [] [] (g ∷ l) more first second = absurd second
alike_then some all s [] (f ∷ k) l more first second = absurd first
alike_then some all s (e ∷ h) [] l more first second = absurd first
alike_then some all s (e ∷ h) (f ∷ k) [] more first second = absurd second
alike_then some all s (e ∷ h) (f ∷ k) (g ∷ l) more first second = (
  pair_then some all e f g more first.0 second.0,
  second.1 ∙ first.1,
  alike_then some all (after s e) h k l more first.2
      (subst (λ (x : UnitState). AreAlike some x k l) first.1 second.2),
)

-- the two parts of what is alike to two parts
record Parts (sessions : ℕ → Type 0) (s : UnitState) (one two whole : List Entry) : Type 0 where
  first : List Entry
  second : List Entry
  is : whole ≡ first ++ second
  is_first : AreAlike sessions s one first
  is_second : AreAlike sessions (state_after s one) two second

parts : (sessions : ℕ → Type 0) (s : UnitState) (one two whole : List Entry) → AreAlike sessions s (one ++ two) whole
    → Parts sessions s one two whole
parts sessions s [] two whole is = record { first = []; second = whole; is = refl; is_first = tt; is_second = is }
parts sessions s (e ∷ one) two [] is = absurd is
parts sessions s (e ∷ one) two (f ∷ whole) is =
    let p = parts sessions (after s e) one two whole is.2 in
    record {
      first = f ∷ p.first;
      second = p.second;
      is = ap (λ (h : List Entry). f ∷ h) p.is;
      is_first = (is.0, is.1, p.is_first);
      is_second = p.is_second;
    }

alike_length : (sessions : ℕ → Type 0) (s : UnitState) (h k : List Entry) → AreAlike sessions s h k → length k ≡ length h
alike_length sessions s [] [] is = refl
alike_length sessions s [] (f ∷ k) is = absurd is
alike_length sessions s (e ∷ h) [] is = absurd is
alike_length sessions s (e ∷ h) (f ∷ k) is = ap suc (alike_length sessions (after s e) h k is.2)

-- what is alike to one entry that is no session's own
alike_one : (sessions : ℕ → Type 0) (s : UnitState) (e : Entry) (k : List Entry) → ((n : ℕ) → sessions n → is_own n e ≡ false)
    → AreAlike sessions s (e ∷ []) k → k ≡ e ∷ []
alike_one sessions s e [] none is = absurd is
alike_one sessions s e (f ∷ []) none is =
    ⊎_elim (λ (same : f ≡ e). ap (λ (x : Entry). x ∷ []) same)
    (λ (p : (n : ℕ) × sessions n × (is_own n e ≡ true) × (is_own n f ≡ true)). absurd (false≢true (sym (none p.0 p.1) ∙ p.2))) is.0
alike_one sessions s e (f ∷ g ∷ k) none is = absurd is.2

-- ---- what one session has done, in states

module _ (s : UnitState) where
  -- what an entry stands for behind one history it stands for behind another that leaves the same state
  same_entry : (h k : List Entry) (e : Entry) (d : Done) → state_after s k ≡ state_after s h → IsEntry any_device never s h e d
      → IsEntry any_device never s k e d
  same_entry h k (Attach nexus) d same is = absurd is
  same_entry h k (Detach session) d same is = absurd is
  same_entry h k (Reset session) (replied asked bytes reply) same is = absurd is
  same_entry h k (Reset session) was_reset same is = tt
  same_entry h k (Move list choice) d same is = absurd is
  same_entry h k (Command session serial by asked bytes choice) was_reset same is = absurd is
  same_entry h k (Command session serial by asked bytes choice) (replied told came reply) same is =
      ⊎_elim
      (λ (exact : (told ≡ asked) × _). (
        is.0,
        inl (
          exact.0,
          told_at_end false s k (Command session serial by asked bytes choice) reply
              (subst (λ (x : UnitState). IsReplyTo false x (Command session serial by asked bytes choice) reply) (sym same)
              (reply_at_end false s h (Command session serial by asked bytes choice) reply exact.1)),
        ),
      ))
      (λ (late : IsLate any_device never s h session serial by asked bytes choice told reply). absurd (false≢true late.is_late)) is.1

  module _ (session : ℕ) (sessions : ℕ → Type 0) (other : sessions session → ⊥) where
    -- its entries are its own in a history that differs from this one in entries of others alone
    stay : (h k : List Entry) (done : List Done) (behind again : List Entry) → state_after s k ≡ state_after s h
        → AreAlike sessions (state_after s h) behind again → AreEntries any_device never s session h done behind
        → AreEntries any_device never s session k done again
    stay h k done [] [] same alike are = are
    stay h k done [] (f ∷ again) same alike are = absurd alike
    stay h k done (e ∷ behind) [] same alike are = absurd alike
    stay h k done (e ∷ behind) (f ∷ again) same alike are =
        by (is_own session e) refl done are
        (λ (ds : List Done) (those : AreEntries any_device never s session (h ++ e ∷ []) ds behind).
        stay (h ++ e ∷ []) (k ++ f ∷ []) ds behind again
        (behind_one k f ∙ ap (λ (x : UnitState). after x f) same ∙ alike.1 ∙ sym (behind_one h e))
        (subst (λ (x : UnitState). AreAlike sessions x behind again) (sym (behind_one h e)) alike.2) those)
      where
        behind_one : (l : List Entry) (x : Entry) → state_after s (l ++ x ∷ []) ≡ after (state_after s l) x
        behind_one l x = one l s
          where
            one : (l : List Entry) (t : UnitState) → state_after t (l ++ x ∷ []) ≡ after (state_after t l) x
            one [] t = refl
            one (y ∷ l) t = one l (after t y)

        owner : (b : Bool) → is_own session e ≡ b → is_own session f ≡ b
        owner b is =
            ⊎_elim (λ (eq : f ≡ e). ap (λ (x : Entry). is_own session x) eq ∙ is)
            (λ (p : (is_own session e ≡ false) × (is_own session f ≡ false)). p.1 ∙ sym p.0 ∙ is)
            (pair_apart sessions session e f other alike.0)

        it : (d : Done) → is_own session e ≡ true → IsEntry any_device never s h e d → IsEntry any_device never s k f d
        it d is entry =
            ⊎_elim
            (λ (eq : f ≡ e). subst (λ (x : Entry). IsEntry any_device never s k x d) (sym eq)
            (same_entry h k e d same entry))
            (λ (p : (is_own session e ≡ false) × (is_own session f ≡ false)). absurd (false≢true (sym p.0 ∙ is)))
            (pair_apart sessions session e f other alike.0)

        by : (b : Bool) → is_own session e ≡ b → (ds : List Done)
            → MatchBool b
            (IsNextDone any_device never s h e ds (λ left. AreEntries any_device never s session (h ++ e ∷ []) left behind))
            (AreEntries any_device never s session (h ++ e ∷ []) ds behind)
            → ((left : List Done) → AreEntries any_device never s session (h ++ e ∷ []) left behind
            → AreEntries any_device never s session (k ++ f ∷ []) left again)
            → AreEntries any_device never s session k ds (f ∷ again)
        by true is [] first next = absurd first
        by true is (d ∷ ds) first next =
            subst (λ (b : Bool). MatchBool b
            (IsNextDone any_device never s k f (d ∷ ds) (λ left. AreEntries any_device never s session (k ++ f ∷ []) left again))
            (AreEntries any_device never s session (k ++ f ∷ []) (d ∷ ds) again)) (sym (owner true is))
            (it d is first.0, next ds first.1)
        by false is ds first next =
            subst (λ (b : Bool). MatchBool b
            (IsNextDone any_device never s k f ds (λ left. AreEntries any_device never s session (k ++ f ∷ []) left again))
            (AreEntries any_device never s session (k ++ f ∷ []) ds again)) (sym (owner false is)) (next ds first)

    -- it has as many of its own
    as_many : (x : UnitState) (h k : List Entry) → AreAlike sessions x h k → counted own session k ≡ counted own session h
    as_many x [] [] alike = refl
    as_many x [] (f ∷ k) alike = absurd alike
    as_many x (e ∷ h) [] alike = absurd alike
    as_many x (e ∷ h) (f ∷ k) alike =
        let one : own session f ≡ own session e =
        ⊎_elim (λ (eq : f ≡ e). ap (λ (y : Entry). own session y) eq)
        (λ (p : (is_own session e ≡ false) × (is_own session f ≡ false)). ap (λ (b : Bool). cond b 1 0) (p.1 ∙ sym p.0))
        (pair_apart sessions session e f other alike.0) in
        let rest = as_many (after x e) h k alike.2 in
        let p = one_more session e h in
        let q = one_more session f k in omega (arith, one, rest, p, q)

    -- and its end
    last : (x : UnitState) (rest again : List Entry) → AreAlike sessions x rest again → IsEnd session rest → IsEnd session again
    last x rest again alike is =
        ⊎_elim (λ (none : counted own session rest ≡ 0). inl (as_many x rest again alike ∙ none))
        (λ (d : (others : List Entry) × (counted own session others ≡ 0) × (rest ≡ others ++ Detach session ∷ [])).
        let p = parts sessions x d.0 (Detach session ∷ []) again
        (subst (λ (h : List Entry). AreAlike sessions x h again) d.2 alike) in
        inr (
          p.first,
          as_many x d.0 p.first p.is_first ∙ d.1,
          p.is ∙ ap (λ (h : List Entry). p.first ++ h)
              (alike_one sessions (state_after x d.0) (Detach session) p.second none p.is_second),
        )) is
      where
        none : (n : ℕ) → sessions n → is_own n (Detach session) ≡ false
        none n is = by (is_own n (Detach session)) refl
          where
            by : (b : Bool) → is_own n (Detach session) ≡ b → is_own n (Detach session) ≡ false
            by true owned = absurd (other (subst sessions (one_session n session (Detach session) owned (itself session)) is))
            by false owned = owned

-- what a session has done, and its number
record DoneBy (s : UnitState) (nexus : Nexus) (done : List Done) (number : ℕ) (history : List Entry) : Type 0 where
  has_done : HasDone any_device never s nexus done history
  is_number : length has_done.before ≡ number

-- it has done so in each history that differs from this one in entries of others alone
done_again : (s : UnitState) (sessions : ℕ → Type 0) (nexus : Nexus) (done : List Done) (number : ℕ) (h k : List Entry)
    → (sessions number → ⊥) → AreAlike sessions s h k → IsLegal false s k → DoneBy s nexus done number h → DoneBy s nexus done number k
done_again s sessions nexus done number h k other alike legal is =
    let d = is.has_done in
    let id : ℕ = length d.before in
    let end : List Entry = Attach nexus ∷ [] in
    let front : List Entry = d.before ++ end in
    let not : (sessions id → ⊥) = λ (one : sessions id). other (subst sessions is.is_number one) in
    let p = parts sessions s (front ++ d.behind) d.rest k (subst (λ (l : List Entry). AreAlike sessions s l k) d.is alike) in
    let q = parts sessions s front d.behind p.first p.is_first in
    let r = parts sessions s d.before end q.first q.is_first in
    let attached : q.first ≡ r.first ++ end =
    r.is ∙ ap (λ (l : List Entry). r.first ++ l)
    (alike_one sessions (state_after s d.before) (Attach nexus) r.second (λ n one. refl) r.is_second) in
    let as_long : length r.first ≡ id = alike_length sessions s d.before r.first r.is_first in
    let leads : state_after s (r.first ++ end) ≡ state_after s front =
    subst (λ (l : List Entry). state_after s l ≡ state_after s front) attached (alike_leads sessions s front q.first q.is_first) in
    record {
      has_done = record {
        before = r.first;
        behind = q.second;
        rest = p.second;
        legal = record { opens = d.legal.opens; legal = legal };
        is = p.is ∙ ap (λ (l : List Entry). l ++ p.second) (q.is ∙ ap (λ (l : List Entry). l ++ q.second) attached);
        entries = subst (λ (n : ℕ). AreEntries any_device never s n (r.first ++ end) done q.second) (sym as_long)
            (stay s id sessions not front (r.first ++ end) done d.behind q.second leads q.is_second d.entries);
        ends = subst (λ (n : ℕ). IsEnd n p.second) (sym as_long)
            (last s id sessions not (state_after s (front ++ d.behind)) d.rest p.second p.is_second d.ends);
        left = tt;
      };
      is_number = as_long ∙ is.is_number;
    }

-- ---- two histories that are alike to one, joined

record Joined (one : ℕ) (sessions : ℕ → Type 0) (s : UnitState) (t k : List Entry) : Type 0 where
  both : List Entry
  legal : IsLegal false s both
  beside_others : AreAlike (λ n. n ≡ one) s t both
  beside_one : AreAlike sessions s k both

abbrev Owned : ℕ → Entry → Entry → Type 0
Owned one e f = (n : ℕ) × (n ≡ one) × (is_own n e ≡ true) × (is_own n f ≡ true)

-- the own entries of one from the second one, all others from the first one
join : (one : ℕ) (sessions : ℕ → Type 0) (s : UnitState) (h t k : List Entry) → (sessions one → ⊥) → AreAlike sessions s h t
    → AreAlike (λ n. n ≡ one) s h k → IsLegal false s t → IsLegal false s k → Joined one sessions s t k
join one sessions s [] [] [] other to_t to_k legal_t legal_k = record { both = []; legal = tt; beside_others = tt; beside_one = tt }
join one sessions s [] [] (g ∷ k) other to_t to_k legal_t legal_k = absurd to_k
join one sessions s [] (f ∷ t) k other to_t to_k legal_t legal_k = absurd to_t
join one sessions s (e ∷ h) [] k other to_t to_k legal_t legal_k = absurd to_t
join one sessions s (e ∷ h) (f ∷ t) [] other to_t to_k legal_t legal_k = absurd to_k
join one sessions s (e ∷ h) (f ∷ t) (g ∷ k) other to_t to_k legal_t legal_k =
    let rest = join one sessions (after s e) h t k other to_t.2 to_k.2
    (subst (λ (x : UnitState). IsLegal false x t) to_t.1 legal_t.1) (subst (λ (x : UnitState). IsLegal false x k) to_k.1 legal_k.1) in
    ⊎_elim (λ (same : g ≡ e). of_others rest same) (λ (owned : Owned one e g). of_one rest owned) to_k.0
  where
    of_others : Joined one sessions (after s e) t k → g ≡ e → Joined one sessions s (f ∷ t) (g ∷ k)
    of_others rest same =
        record {
          both = f ∷ rest.both;
          legal = (legal_t.0, subst (λ (x : UnitState). IsLegal false x rest.both) (sym to_t.1) rest.legal);
          beside_others = (
            inl refl,
            refl,
            subst (λ (x : UnitState). AreAlike (λ n. n ≡ one) x t rest.both) (sym to_t.1) rest.beside_others,
          );
          beside_one = (
            subst (λ (x : Entry). Pair sessions x f) (sym same) to_t.0,
            to_t.1 ∙ sym to_k.1,
            subst (λ (x : UnitState). AreAlike sessions x k rest.both) (sym to_k.1) rest.beside_one,
          );
        }

    of_one : Joined one sessions (after s e) t k → Owned one e g → Joined one sessions s (f ∷ t) (g ∷ k)
    of_one rest owned =
        record {
          both = g ∷ rest.both;
          legal = (legal_k.0, subst (λ (x : UnitState). IsLegal false x rest.both) (sym to_k.1) rest.legal);
          beside_others = (
            ⊎_elim (λ (same : f ≡ e). subst (λ (x : Entry). Pair (λ n. n ≡ one) x g) (sym same) to_k.0)
                (λ (p : (n : ℕ) × sessions n × (is_own n e ≡ true) × (is_own n f ≡ true)).
                absurd (other (subst sessions (one_session p.0 owned.0 e p.2 owned.2 ∙ owned.1) p.1))) to_t.0,
            to_k.1 ∙ sym to_t.1,
            subst (λ (x : UnitState). AreAlike (λ n. n ≡ one) x t rest.both) (sym to_t.1) rest.beside_others,
          );
          beside_one = (
            inl refl,
            refl,
            subst (λ (x : UnitState). AreAlike sessions x k rest.both) (sym to_k.1) rest.beside_one,
          );
        }

-- ---- all sessions

pairs_head : {X : Type 0} (R : X → X → Type 0) (x : X) (xs : List X) → AllPairs R (x ∷ xs) → All (R x) xs
pairs_head R x xs all = λ k d inside. all 0 (suc k) d (omega arith) (omega (arith, inside))

pairs_tail : {X : Type 0} (R : X → X → Type 0) (x : X) (xs : List X) → AllPairs R (x ∷ xs) → AllPairs R xs
pairs_tail R x xs all = λ i j d less inside. all (suc i) (suc j) d (omega (arith, less)) (omega (arith, inside))

module _ (claims : Claims) (late : Late) (s : UnitState) where
  abbrev One : Type 0
  One = Leaver claims late s

  abbrev number : One → ℕ
  number one = number_of claims late s one

  abbrev Numbers : List One → ℕ → Type 0
  Numbers some = IsOneOf claims late s some

  abbrev Stands : List Entry → List One → One → Type 0
  Stands told some one = StandsIn claims late s told some one

  -- another session of the unit, as an item of a list
  is_another : (one : One) (some : List One) → All (AreTwo claims late s one) some → Numbers some (number one) → ⊥
  is_another one [] two is = is
  is_another one (other ∷ some) two is =
      ⊎_elim (λ (same : number one ≡ number other). (All-head (AreTwo claims late s one) other some two).0 same)
      (λ (rest : Numbers some (number one)). is_another one some (All-tail (AreTwo claims late s one) other some two) rest) is

  -- a history beside which each of these is one of the same unit
  abbrev Beside : List Entry → One → Type 0
  Beside history one = IsPrefix one.history history ⊎ IsPrefix history one.history

  record Told (some : List One) : Type 0 where
    seen : List Entry
    told : List Entry
    legal : IsLegal false s told
    alike : AreAlike (Numbers some) s seen told
    longest : (history : List Entry) → All (Beside history) some → IsPrefix seen history ⊎ IsPrefix history seen
    each : All (Stands told some) some

  -- what the others have done, in a history that goes on to the end of what this one has seen
  record Longer (one : One) (some : List One) : Type 0 where
    seen : List Entry
    told : List Entry
    legal : IsLegal false s told
    alike : AreAlike (Numbers some) s seen told
    longest : (history : List Entry) → All (Beside history) (one ∷ some) → IsPrefix seen history ⊎ IsPrefix history seen
    within : IsPrefix one.history seen
    each : All (Stands told some) some

  stands_in_longer : (told more : List Entry) (some : List One) (one : One) → Stands told some one → Stands (told ++ more) some one
  stands_in_longer told more some one is =
      record {
        beginning = is.beginning;
        begins = (
          is.begins.0 ++ more,
          sym (append_assoc is.beginning is.begins.0 more) ∙ ap (λ (h : List Entry). h ++ more) is.begins.1,
        );
        alike = is.alike;
        has_done = is.has_done;
        number = is.number;
      }

  -- the others' are the longer ones, or this one's is
  longer : (one : One) (some : List One) → Told some → All (AreTwo claims late s one) some → Longer one some
  longer one some t two =
      ⊎_elim
      (λ (shorter : IsPrefix t.seen one.history).
      let end : List Entry = shorter.0 in
      let legal : IsLegal claims.contents s (t.seen ++ end) =
      subst (λ (h : List Entry). IsLegal claims.contents s h) (sym shorter.1) one.has_done.legal.legal in
      let behind : IsLegal false (state_after s t.seen) end =
      all_weaker claims.contents (state_after s t.seen) end (legal_back claims.contents s t.seen end legal) in
      record {
        seen = one.history;
        told = t.told ++ end;
        legal = legal_both false s t.told end t.legal
            (subst (λ (x : UnitState). IsLegal false x end) (sym (alike_leads (Numbers some) s t.seen t.told t.alike)) behind);
        alike = subst (λ (h : List Entry). AreAlike (Numbers some) s h (t.told ++ end)) shorter.1
            (alike_both (Numbers some) s t.seen t.told end end t.alike (alike_itself (Numbers some) (state_after s t.seen) end));
        longest = λ history beside. All-head (Beside history) one some beside;
        within = ([], append-nil one.history);
        each = λ k d inside. stands_in_longer t.told end some _ (t.each k d inside);
      })
      (λ (is : IsPrefix one.history t.seen). record {
        seen = t.seen;
        told = t.told;
        legal = t.legal;
        alike = t.alike;
        longest = λ history beside. t.longest history (All-tail (Beside history) one some beside);
        within = is;
        each = t.each;
      })
      (t.longest one.history (λ k d inside. ⊎_elim (λ p. inr p) (λ p. inl p) (two k d inside).1))

  -- with what this one has done, in place of its entries
  with_one : (one : One) (some : List One) → All (AreTwo claims late s one) some → Longer one some → Told (one ∷ some)
  with_one one some two l =
      let all : (ℕ → Type 0) = Numbers (one ∷ some) in
      let mine : (ℕ → Type 0) = λ n. n ≡ number one in
      let not : (Numbers some (number one) → ⊥) = is_another one some two in
      let t = has_done_as_told claims late s one.nexus one.done one.history one.has_done in
      let p = parts (Numbers some) s one.history l.within.0 l.told
      (subst (λ (h : List Entry). AreAlike (Numbers some) s h l.told) (sym l.within.1) l.alike) in
      let legal : IsLegal false s (p.first ++ p.second) = subst (λ (h : List Entry). IsLegal false s h) p.is l.legal in
      let j = join (number one) (Numbers some) s one.history p.first t.0 not p.is_first t.3
      (legal_front false s p.first p.second legal) t.1.legal.legal in
      let whole : List Entry = j.both ++ p.second in
      let whole_legal : IsLegal false s whole =
      legal_both false s j.both p.second j.legal
      (subst (λ (x : UnitState). IsLegal false x p.second) (sym (alike_leads mine s p.first j.both j.beside_others))
      (legal_back false s p.first p.second legal)) in
      let beside : AreAlike mine s l.told whole =
      subst (λ (h : List Entry). AreAlike mine s h whole) (sym p.is)
      (alike_both mine s p.first j.both p.second p.second j.beside_others (alike_itself mine (state_after s p.first) p.second)) in
      record {
        seen = l.seen;
        told = whole;
        legal = whole_legal;
        alike = alike_then mine all s l.seen l.told whole (λ n is. inl is)
            (alike_more (Numbers some) all s l.seen l.told (λ n is. inr is) l.alike) beside;
        longest = l.longest;
        each = All-cons (Stands whole (one ∷ some)) one some
            (of_one t p.first j whole p.second refl not)
            (λ k d inside. of_other _ whole whole_legal beside (two k d inside) (l.each k d inside));
      }
    where
      of_one : (t : (told : List Entry) × (again : HasDone any_device never s one.nexus one.done told)
          × (length again.before ≡ number one) × AreAlike (λ n. n ≡ number one) s one.history told) (first : List Entry)
          → (j : Joined (number one) (Numbers some) s first t.0) (whole rest : List Entry) → whole ≡ j.both ++ rest
          → (Numbers some (number one) → ⊥) → Stands whole (one ∷ some) one
      of_one t first j whole rest is not =
          let again = done_again s (Numbers some) one.nexus one.done (number one) t.0 j.both not j.beside_one j.legal
          (record { has_done = t.1; is_number = t.2 }) in
          record {
            beginning = j.both;
            begins = (rest, sym is);
            alike = alike_then (Numbers some) (Numbers (one ∷ some)) s one.history t.0 j.both (λ n is. inr is)
                (alike_more (λ n. n ≡ number one) (Numbers (one ∷ some)) s one.history t.0 (λ n is. inl is) t.3) j.beside_one;
            has_done = again.has_done;
            number = again.is_number;
          }

      of_other : (other : One) (whole : List Entry) → IsLegal false s whole → AreAlike (λ n. n ≡ number one) s l.told whole
          → AreTwo claims late s one other → Stands l.told some other → Stands whole (one ∷ some) other
      of_other other whole legal beside apart is =
          let p = parts (λ n. n ≡ number one) s is.beginning is.begins.0 whole
          (subst (λ (h : List Entry). AreAlike (λ n. n ≡ number one) s h whole) (sym is.begins.1) beside) in
          let again = done_again s (λ n. n ≡ number one) other.nexus other.done (number other) is.beginning p.first
          (λ (same : number other ≡ number one). apart.0 (sym same)) p.is_first
          (legal_front false s p.first p.second (subst (λ (h : List Entry). IsLegal false s h) p.is legal))
          (record { has_done = is.has_done; is_number = is.number }) in
          record {
            beginning = p.first;
            begins = (p.second, sym p.is);
            alike = alike_then (λ n. n ≡ number one) (Numbers (one ∷ some)) s other.history is.beginning p.first (λ n is. inl is)
                (alike_more (Numbers some) (Numbers (one ∷ some)) s other.history is.beginning (λ n is. inr is) is.alike) p.is_first;
            has_done = again.has_done;
            number = again.is_number;
          }

  all_of : (some : List One) → AllPairs (AreTwo claims late s) some → Told some
  all_of [] two =
      record {
        seen = [];
        told = [];
        legal = tt;
        alike = tt;
        longest = λ history beside. inl (history, refl);
        each = All-nil (Stands [] []);
      }
  all_of (one ∷ some) two =
      let apart : All (AreTwo claims late s one) some = pairs_head (AreTwo claims late s) one some two in
      with_one one some apart (longer one some (all_of some (pairs_tail (AreTwo claims late s) one some two)) apart)

  pub all_told : (some : List One) → AllPairs (AreTwo claims late s) some
      → (told : List Entry) × IsLegal false s told × All (StandsIn claims late s told some) some
  all_told some two = let t = all_of some two in (t.told, t.legal, t.each)
