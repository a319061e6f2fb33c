-- A session that ended at a unit, or was gone there.
use Rattle.std.proofs.Common.{◌≡◌, ℕ, All, zero, suc, ◌<◌, length, remove, append-nil, List, [], ◌∷◌, ◌++◌, Some}
use Rattle.std.proofs.Common.{refl, sym, ap, ◌∙◌, subst, append_assoc, ⊎_elim, inl, inr, arith}
use Rattle.std.proofs.lemmas.List.Elements.{All-tail}
use Rattle.std.specs.Prelude.{slice_get, slice_index_or}
use Rattle.unit_lock.specs.Calls.{Known}
use Rattle.unit_history.specs.Calls.{HasRetired, WasGone}
use Rattle.unit_entries.specs.Histories.{IsHistory}
use Rattle.unit_control.specs.Entry.{Entry, Detach}
use Rattle.unit_control.specs.State.{UnitState}
use Rattle.session_units.specs.Units.{Claims, IsRetired}
use Rattle.session_units.specs.Entries.{IsEnd}
use Rattle.session_units.specs.Submitted.{At}
use Rattle.live_sessions.specs.Target.{Sight, AreOver, IsOverAt}
use Rattle.session_units.proofs.Chains.{none_own}

module _ (claims : Claims) (s : UnitState) where
  -- behind all that its pass had seen there is nothing of its own but its end
  pub record Ended (old : Known Entry) (history : List Entry) : Type 0 where
    pub rest : List Entry
    pub is : history ≡ old.seen ++ rest
    pub legal : IsHistory claims.contents s history
    pub last : IsEnd old.session rest

  by_end : (old : Known Entry) (history : List Entry) → HasRetired claims.contents s old history → Ended old history
  by_end old history is =
      let a = is.0 in
      record {
        rest = a.0 ++ Detach old.session ∷ [];
        is = a.3 ∙ append_assoc old.seen a.0 (a.1 ∷ []) ∙ ap (λ (e : Entry). old.seen ++ (a.0 ++ e ∷ [])) a.5;
        legal = a.4;
        last = inr (a.0, a.2, refl);
      }

  by_another : (old new : Known Entry) (history : List Entry) → new.seen ≡ history → WasGone claims.contents s old new
      → Ended old history
  by_another old new history seen is =
      let r = is.0 in
      record {
        rest = r.0.0;
        is = sym seen ∙ sym r.0.1;
        legal = subst (λ (h : List Entry). IsHistory claims.contents s h) seen r.2;
        last = inl (none_own old.session old.seen r.0.0 new.seen r.0.1 r.1);
      }

  pub ended : (old : Known Entry) (history : List Entry) → IsRetired claims s old history → Ended old history
  ended old history is =
      ⊎_elim (λ (d : HasRetired claims.contents s old history). by_end old history d)
      (λ (g : (new : Known Entry) × (new.seen ≡ history) × WasGone claims.contents s old new).
      by_another old g.0 history g.1 g.2) is.0

-- what is so of all is so of those behind the first
pub all_left : {X : Type 0} (P : X → Type 0) (xs : List X) → All P xs → All P (remove xs 0)
all_left P [] all = all
all_left P (x ∷ xs) all = All-tail P x xs all

module _ (claims : Claims) (opening : ℕ → UnitState) where
  -- one unit more
  pub over_more : (at : List At) (seen : List Sight) (a : At) (one : Sight) → AreOver claims opening at seen
      → IsOverAt claims opening a one
      → AreOver claims opening (at ++ a ∷ []) (seen ++ one ∷ [])
  over_more [] [] a one are here = (here, tt)
  over_more [] (o ∷ seen) a one are here = absurd are
  over_more (b ∷ at) [] a one are here = absurd are
  over_more (b ∷ at) (o ∷ seen) a one are here = (are.0, over_more at seen a one are.1 here)

  -- what was seen of the unit at a place
  pub over_at : (at : List At) (seen : List Sight) (n : ℕ) (a : At) → AreOver claims opening at seen → slice_get at n ≡ Some a
      → (one : Sight) × (slice_get seen n ≡ Some one) × IsOverAt claims opening a one
  over_at [] seen n a are is = absurd (cc)
  over_at (b ∷ at) [] n a are is = absurd are
  over_at (b ∷ at) (one ∷ seen) zero a are is =
      let e : b ≡ a = cc in (one, refl, subst (λ (x : At). IsOverAt claims opening x one) e are.0)
  over_at (b ∷ at) (one ∷ seen) (suc n) a are is = over_at at seen n a are.1 is

  -- nothing where it was at none
  pub over_none : (at : List At) (seen : List Sight) → at ≡ [] → AreOver claims opening at seen → seen ≡ []
  over_none [] [] none are = refl
  over_none [] (one ∷ seen) none are = absurd are
  over_none (a ∷ at) seen none are = absurd (cc)

  -- So far it is over at the first of these units, and what was seen there is kept.
  pub record SoFar (all left : List At) (old now : List Sight) : Type 0 where
    pub done : List At
    pub seen : List Sight
    pub parts : all ≡ done ++ left
    pub over : AreOver claims opening done seen
    pub kept : now ≡ old ++ seen

  pub none_yet : (all : List At) (old : List Sight) → SoFar all all old old
  none_yet all old = record { done = []; seen = []; parts = refl; over = tt; kept = sym (append-nil old) }

  -- one unit more
  pub one_more : (all left : List At) (old now : List Sight) (a : At) (one : Sight) → 0 < length left
      → a ≡ slice_index_or left 0 a → SoFar all left old now → IsOverAt claims opening a one
      → SoFar all (remove left 0) old (now ++ one ∷ [])
  one_more all [] old now a one some is so here = absurd (omega (arith, some))
  one_more all (b ∷ left) old now a one some is so here =
      record {
        done = so.done ++ b ∷ [];
        seen = so.seen ++ one ∷ [];
        parts = so.parts ∙ sym (append_assoc so.done (b ∷ []) left);
        over = over_more so.done so.seen b one so.over (subst (λ (x : At). IsOverAt claims opening x one) is here);
        kept = ap (λ (l : List Sight). l ++ one ∷ []) so.kept ∙ append_assoc old so.seen (one ∷ []);
      }
