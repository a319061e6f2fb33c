-- A command that came by another group is submitted once more, to the owner.
use Rattle.std.proofs.Common.{◌≡◌, ℕ, List, Option, Some, Result, refl, sym, subst, ◌∙◌}
use Rattle.access_states.specs.AccessMap.{owner_of}
use Rattle.block_file.specs.declared.mem.MemBlocks.{MemBlocks}
use Rattle.block_file.specs.declared.opener.KeepOpener.{KeepOpener}
use Rattle.scsi_types.specs.ReplyValue.{ReplyValue}
use Rattle.scsi_types.specs.declared.names.Group.{Group}
use Rattle.scsi_types.specs.declared.command.Command.{Command as ScsiCommand}
use Rattle.scsi_types.specs.declared.command.CdbFault.{CdbFault}
use Rattle.unit_control.specs.Entry.{IsNext}
use Rattle.unit_control.specs.State.{UnitValue}
use Rattle.unit_control.specs.Refusal.{request}
use Rattle.unit_state.specs.Step.{TakesMemory}
use Rattle.unit_state.specs.declared.unit.StepEnd.{StepEnd}
use Rattle.unit_state.specs.declared.unit.StepEnd.TheVariants.{Reply, Gone, Moved, NoMemory}
use Rattle.once_target.specs.OneUnit.{Call, Device, TargetValue, IsCommand, IsSame, IsStepped, IsOwnStep}

module _ {B : Type 0} (d : Device B) (f : Device MemBlocks) (old mid new : TargetValue B) (call : Call) where
  joined : IsSame old mid → IsSame mid new → IsSame old new
  joined a b = record { session = b.session ∙ a.session; serial = b.serial ∙ a.serial; unit = b.unit ∙ a.unit }

  -- what is gone behind nothing was gone before
  gone_here : IsSame old mid → (IsNext mid.unit.control mid.at.session mid.at.serial → ⊥)
      → IsNext old.unit.control old.at.session old.at.serial → ⊥
  gone_here same gone =
      subst (λ (u : UnitValue B MemBlocks KeepOpener). IsNext u.control old.at.session old.at.serial → ⊥) same.unit
      (subst (λ (n : ℕ). IsNext mid.unit.control n old.at.serial
      → ⊥) same.session (subst (λ (n : ℕ). IsNext mid.unit.control mid.at.session n → ⊥) same.serial gone))

  pub twice : (end : StepEnd) → IsSame old mid → mid.at.by ≡ owner_of mid.unit.control.access
      → IsStepped d f mid call end new → IsOwnStep d f old call end new
  twice (Reply reply) same owner k = (mid, same, k)
  twice Gone same owner k = (joined same k.0, gone_here same k.1)
  twice (Moved to) same owner k = absurd (k.1 owner)
  twice NoMemory same owner k = (
    joined same k.0,
    subst (λ (u : UnitValue B MemBlocks KeepOpener). TakesMemory u.control
        (request old.at.session call.asked call.bytes)) same.unit
        (subst (λ (n : ℕ). TakesMemory mid.unit.control (request n call.asked call.bytes)) same.session k.1),
  )

  pub at_once : (end : StepEnd) → ((to : Group) → end ≡ Moved to → ⊥)
      → IsStepped d f old call end new → IsOwnStep d f old call end new
  at_once (Reply reply) stays k = (old, record { session = refl; serial = refl; unit = refl }, k)
  at_once Gone stays k = k
  at_once (Moved to) stays k = absurd (stays to refl)
  at_once NoMemory stays k = k

-- a step of the unit was asked of the unit that is there
pub numbered : {B : Type 0} (d : Device B) (f : Device MemBlocks) (old new : TargetValue B) (number : Option ℕ)
    (asked : Result ScsiCommand CdbFault) (bytes : List ℕ) (reply : ReplyValue) → number ≡ Some 0
    → IsCommand d f old new (record { unit = Some 0; asked = asked; bytes = bytes }) reply
    → IsCommand d f old new (record { unit = number; asked = asked; bytes = bytes }) reply
numbered d f old new number asked bytes reply is k =
    subst (λ (n : Option ℕ). IsCommand d f old new (record { unit = n; asked = asked; bytes = bytes }) reply) (sym is) k
