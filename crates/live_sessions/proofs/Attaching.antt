-- One unit more.
use Rattle.std.proofs.Common.{◌≡◌, ℕ, ◌+◌, ◌<◌, All, List, [], ◌∷◌, ◌++◌, length, length-append, subst, sym, arith}
use Rattle.std.proofs.lemmas.List.Elements.{All-push}
use Rattle.scsi_types.specs.Nexus.{Nexus}
use Rattle.unit_control.specs.State.{UnitState}
use Rattle.session_units.specs.Units.{Claims}
use Rattle.session_units.specs.Submitted.{At}
use Rattle.live_sessions.specs.Target.{AreAttached, IsAttachedTo}

module _ (claims : Claims) (opening : ℕ → UnitState) (nexus : Nexus) where
  -- a session that is attached to units in order is attached to the next one too
  pub attached_more : (unit : ℕ) (at : List At) (a : At) → AreAttached claims opening nexus unit at
      → IsAttachedTo claims opening nexus (unit + length at) a
      → AreAttached claims opening nexus unit (at ++ a ∷ [])
  attached_more unit [] a before here =
      (subst (λ (n : ℕ). IsAttachedTo claims opening nexus n a) (omega arith) here, tt)
  attached_more unit (b ∷ at) a before here = (
    before.0,
    attached_more (unit + 1) at a before.1
        (subst (λ (n : ℕ). IsAttachedTo claims opening nexus n a) (omega arith) here),
  )

  -- behind as many units as there are numbers before
  pub attached_next : (unit : ℕ) (at : List At) (a : At) → length at ≡ unit → AreAttached claims opening nexus 0 at
      → IsAttachedTo claims opening nexus unit a
      → AreAttached claims opening nexus 0 (at ++ a ∷ [])
  attached_next unit at a count before here =
      attached_more 0 at a before (subst (λ (n : ℕ). IsAttachedTo claims opening nexus n a) (omega (arith, count)) here)

  -- so to one unit more
  pub record Onward (units unit : ℕ) (at : List At) : Type 0 where
    pub count : length at ≡ unit + 1
    pub attached : AreAttached claims opening nexus 0 at
    pub placed : All (λ a. a.place < units) at

  pub onward : (units unit : ℕ) (at : List At) (a : At) → unit < units → length at ≡ unit
      → AreAttached claims opening nexus 0 at → All (λ a. a.place < units) at
      → IsAttachedTo claims opening nexus unit a
      → Onward units unit (at ++ a ∷ [])
  onward units unit at a lt count before placed here =
      record {
        count = grind (arith, length-append);
        attached = attached_next unit at a count before here;
        placed = All-push (λ a. a.place < units) at a placed (subst (λ (n : ℕ). n < units) (sym here.place) lt);
      }
