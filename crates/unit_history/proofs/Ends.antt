-- Several facts of one end of a call.
use Rattle.std.proofs.Common.{◌≡◌, ℕ, List, [], ◌∷◌, ◌++◌, Result, Ok, Err}
use Rattle.std.specs.Prelude.{IfOk, IfErr}
use Rattle.access_states.specs.declared.change.Change.{Change}
use Rattle.unit_lock.specs.Calls.{IsBeside, IsBetween}
use Rattle.unit_state.specs.declared.unit.MoveFault.{MoveFault}
use Rattle.unit_control.specs.Choice.{Fine}
use Rattle.unit_control.specs.Entry.{Entry, Move}
use Rattle.unit_control.specs.State.{UnitState}
use Rattle.unit_history.specs.Calls.{HasMoved, HasStayed, IsLeft}
use Rattle.unit_entries.specs.NoEntry.{StaysBehind}
use Rattle.unit_entries.specs.Histories.{IsMoveTold}
use Rattle.unit_entries.specs.Devices.{Devices, HaveMoved, claims_of}
use Rattle.unit_entries.specs.Histories.{IsHistory}

pub ok_both : {T E : Type 0} (P Q : T → Type 0) (r : Result T E) → IfOk r P → IfOk r Q → IfOk r (λ x. P x × Q x)
ok_both P Q (Ok x) p q = (p, q)
ok_both P Q (Err e) p q = tt

pub err_both : {T E : Type 0} (P Q : E → Type 0) (r : Result T E) → IfErr r P → IfErr r Q → IfErr r (λ x. P x × Q x)
err_both P Q (Ok x) p q = tt
err_both P Q (Err e) p q = (p, q)

module _ {B R O : Type 0} (d : Devices B R O) (s : UnitState) (list : List ℕ) (history : List Entry) where
  pub has_moved : (end : Result Change MoveFault) → IsHistory (claims_of d) s history
      → IfOk end (λ told. (h : List Entry) × (history ≡ h ++ Move list Fine ∷ []) × IsMoveTold s h list told)
      → IfOk end (λ told. IsBetween (IsLeft d s) history (λ old new. HaveMoved d old new end))
      → IfOk end (λ told. HasMoved d s list history told)
  has_moved (Ok told) legal ends moved = record { legal = legal; ends = ends; moved = moved }
  has_moved (Err why) legal ends moved = tt

  pub has_stayed : (end : Result Change MoveFault) → IsHistory (claims_of d) s history
      → IfErr end (λ why. StaysBehind s history list why)
      → IfErr end (λ why. IsBeside (IsLeft d s) history (λ old new. HaveMoved d old new end))
      → IfErr end (λ why. HasStayed d s list history why)
  has_stayed (Ok told) legal stays kept = tt
  has_stayed (Err why) legal stays kept = record { legal = legal; stays = stays; kept = kept }
