-- The forms of command descriptor blocks.
use Rattle.std.specs.Prelude.{◌≡◌, ℕ, ◌%◌, List, slice_index}
use Rattle.scsi_types.specs.declared.command.Op.{Op}
use Rattle.scsi_types.specs.declared.command.Op.TheVariants as ops
use Rattle.scsi_types.specs.declared.form.CdbForm.{CdbForm}
use Rattle.scsi_types.specs.declared.form.CdbForm.TheVariants as forms

-- a CDB with this operation code
abbrev pub IsOpcode : List ℕ → ℕ → Type 0
IsOpcode cdb opcode = slice_index cdb 0 ≡ opcode

-- a CDB with this operation code and service action, the low five bits of byte 1 (SPC-4, 4.2.5.2)
pub record IsAction (cdb : List ℕ) (opcode action : ℕ) : Type 0 where
  pub opcode_is : slice_index cdb 0 ≡ opcode
  pub action_is : slice_index cdb 1 % 32 ≡ action

-- the operation code of each form, and its service action where several commands have that code
-- (SPC-4, 6.1; SBC-3, 5.1)
abbrev pub HasForm : List ℕ → CdbForm → Type 0
HasForm cdb forms.TestUnitReady = IsOpcode cdb 0x00
HasForm cdb forms.RequestSense = IsOpcode cdb 0x03
HasForm cdb forms.Read6 = IsOpcode cdb 0x08
HasForm cdb forms.Write6 = IsOpcode cdb 0x0A
HasForm cdb forms.Inquiry = IsOpcode cdb 0x12
HasForm cdb forms.ModeSense6 = IsOpcode cdb 0x1A
HasForm cdb forms.ReadCapacity10 = IsOpcode cdb 0x25
HasForm cdb forms.Read10 = IsOpcode cdb 0x28
HasForm cdb forms.Write10 = IsOpcode cdb 0x2A
HasForm cdb forms.SynchronizeCache10 = IsOpcode cdb 0x35
HasForm cdb forms.ModeSense10 = IsOpcode cdb 0x5A
HasForm cdb forms.PersistentReserveIn = IsOpcode cdb 0x5E
HasForm cdb forms.PersistentReserveOut = IsOpcode cdb 0x5F
HasForm cdb forms.Read16 = IsOpcode cdb 0x88
HasForm cdb forms.CompareAndWrite = IsOpcode cdb 0x89
HasForm cdb forms.Write16 = IsOpcode cdb 0x8A
HasForm cdb forms.SynchronizeCache16 = IsOpcode cdb 0x91
HasForm cdb forms.ReadCapacity16 = IsAction cdb 0x9E 0x10
HasForm cdb forms.ReportLuns = IsOpcode cdb 0xA0
HasForm cdb forms.ReportTargetPortGroups = IsAction cdb 0xA3 0x0A
HasForm cdb forms.SetTargetPortGroups = IsAction cdb 0xA4 0x0A

-- the kind of command that has this form
abbrev pub op_of : CdbForm → Op
op_of forms.TestUnitReady = ops.TestUnitReady
op_of forms.RequestSense = ops.RequestSense
op_of forms.Read6 = ops.Read
op_of forms.Write6 = ops.Write
op_of forms.Inquiry = ops.Inquiry
op_of forms.ModeSense6 = ops.ModeSense
op_of forms.ReadCapacity10 = ops.ReadCapacity
op_of forms.Read10 = ops.Read
op_of forms.Write10 = ops.Write
op_of forms.SynchronizeCache10 = ops.SynchronizeCache
op_of forms.ModeSense10 = ops.ModeSense
op_of forms.PersistentReserveIn = ops.PersistentReserveIn
op_of forms.PersistentReserveOut = ops.PersistentReserveOut
op_of forms.Read16 = ops.Read
op_of forms.CompareAndWrite = ops.CompareAndWrite
op_of forms.Write16 = ops.Write
op_of forms.SynchronizeCache16 = ops.SynchronizeCache
op_of forms.ReadCapacity16 = ops.ReadCapacity
op_of forms.ReportLuns = ops.ReportLuns
op_of forms.ReportTargetPortGroups = ops.ReportTargetPortGroups
op_of forms.SetTargetPortGroups = ops.SetTargetPortGroups
