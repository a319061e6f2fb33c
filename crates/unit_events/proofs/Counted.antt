-- A unit has counted the entries of its history.
use Rattle.std.proofs.Common.{◌≡◌, ℕ, Bool, List, length, ap, ◌∙◌}
use Rattle.unit_state.proofs.SerialLaws.{numbered}
use Rattle.unit_control.specs.State.{ControlValue, UnitState, UnitValue}
use Rattle.unit_control.specs.Entry.{Entry}
use Rattle.unit_entries.specs.Histories.{IsBehind, IsHistory}

module _ {B R O : Type 0} (claims : Bool) (contents : B → List (List ℕ)) (failures : B → ℕ) (opens_failed : O → ℕ)
    (file_failures : R → ℕ) where
  pub counts_all : (s : UnitState) (h : List Entry) (u : UnitValue B R O) → IsHistory claims s h
      → IsBehind claims contents failures opens_failed file_failures s h u → u.control.count ≡ length h
  counts_all s h u legal is =
      ap (λ (c : ControlValue). c.count) is.control ∙ (numbered claims s h legal.opens legal.legal).count
