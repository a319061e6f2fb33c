-- What a command descriptor block asks for.
use Rattle.std.specs.Prelude.{◌≡◌, ℕ, ◌+◌, ◌-◌, ◌*◌, ◌^◌, ◌/◌, ◌%◌, ◌==◌, ◌≤◌, ◌&&◌, nat_le, Bool, false, if◌then◌else◌}
use Rattle.std.specs.Prelude.{List, drop, slice_index, Option, Some, None, Result, Ok, Err}
use Rattle.byteorder.specs.Endian.{big_number}
use Rattle.scsi_types.specs.declared.form.CdbForm.{CdbForm}
use Rattle.scsi_types.specs.declared.form.CdbForm.TheVariants as forms
use Rattle.scsi_types.specs.declared.command.Command.{Command}
use Rattle.scsi_types.specs.declared.command.Command.TheVariants.{TestUnitReady, RequestSense, Inquiry, ModeSense}
use Rattle.scsi_types.specs.declared.command.Command.TheVariants.{ReadCapacity10, ReadCapacity16, Read, Write}
use Rattle.scsi_types.specs.declared.command.Command.TheVariants.{CompareAndWrite, SynchronizeCache, ReportLuns}
use Rattle.scsi_types.specs.declared.command.Command.TheVariants.{PersistentReserveIn, PersistentReserveOut}
use Rattle.scsi_types.specs.declared.command.Command.TheVariants.{ReportTargetPortGroups, SetTargetPortGroups}
use Rattle.scsi_types.specs.declared.command.CdbFault.{CdbFault}
use Rattle.scsi_types.specs.declared.command.CdbFault.TheVariants.{UnknownOpcode, BadField}
use Rattle.scsi_types.specs.declared.medium.Transfer.{Transfer}
use Rattle.scsi_types.specs.declared.pages.InquiryPage.{InquiryPage}
use Rattle.scsi_types.specs.declared.pages.ModeHeader.{ModeHeader}
use Rattle.scsi_types.specs.declared.pages.ModeHeader.TheVariants.{Six, Ten}
use Rattle.scsi_types.specs.declared.pages.PageControl.{PageControl}
use Rattle.scsi_types.specs.declared.pages.ModePage.{ModePage}
use Rattle.scsi_types.specs.declared.pages.LunSelect.{LunSelect}
use Rattle.scsi_types.specs.declared.reservation.PrInAction.{PrInAction}
use Rattle.scsi_types.specs.declared.reservation.PrOutAction.{PrOutAction}
use Rattle.scsi_types.specs.declared.reservation.PrOutAction.TheVariants.{Reserve}
use Rattle.scsi_types.specs.Form.{HasForm, op_of}
use Rattle.scsi_types.specs.Found.{IsFoundBy}
use Rattle.scsi_types.specs.Pages.{IsInquiryPage, control_code, mode_page_code, select_code}
use Rattle.scsi_types.specs.Reservation.{in_code, out_code, IsReservationType}

-- a byte of the CDB, and the number in the bytes from one to another, the first the highest
abbrev pub byte : ℕ → List ℕ → ℕ
byte at cdb = slice_index cdb at

abbrev pub field : ℕ → ℕ → List ℕ → ℕ
field from to cdb = big_number (to + 1 - from) (drop from cdb)

-- READ (6) and WRITE (6): 21 bits of LBA, and a length of 0 that stands for 256 blocks (SBC-3, READ (6) command)
abbrev pub lba_6 : List ℕ → ℕ
lba_6 cdb = field 1 3 cdb % 2 ^ 21

abbrev pub blocks_6 : List ℕ → ℕ
blocks_6 cdb = if byte 4 cdb == 0 then 256 else byte 4 cdb

-- RDPROTECT or WRPROTECT, the highest three bits of byte 1
abbrev pub protect_of : List ℕ → ℕ
protect_of cdb = byte 1 cdb / 32

-- FUA, a bit of byte 1
abbrev pub fua_of : List ℕ → Bool
fua_of cdb = byte 1 cdb / 8 % 2 == 1

-- the most blocks of a READ or WRITE, and of a COMPARE AND WRITE (SBC-3, Block Limits VPD page)
abbrev pub most_blocks : ℕ
most_blocks = 2048

abbrev pub most_compared : ℕ
most_compared = 32

-- a transfer that the array takes: no protection information, and no more blocks than the most
pub record IsGoodTransfer (cdb : List ℕ) (blocks most : ℕ) : Type 0 where
  pub unprotected : protect_of cdb ≡ 0
  pub within : blocks ≤ most

-- the fields of a READ or a WRITE with this LBA and length, where the array takes it
abbrev pub HasTransfer : List ℕ → ℕ → ℕ → Option Transfer → Type 0
HasTransfer cdb lba blocks None = IsGoodTransfer cdb blocks most_blocks → ⊥
HasTransfer cdb lba blocks (Some t) =
    IsGoodTransfer cdb blocks most_blocks × (t ≡ record { lba = lba; blocks = blocks; fua = fua_of cdb })

-- a READ, a WRITE or a COMPARE AND WRITE of so many blocks from this LBA on
abbrev pub Transfers : (ℕ → ℕ → Bool → Command) → ℕ → List ℕ → ℕ → ℕ → Command → Type 0
Transfers kind most cdb lba blocks c = IsGoodTransfer cdb blocks most × (c ≡ kind lba blocks (fua_of cdb))

-- a MODE SENSE for this page control and page: PC and PAGE CODE share byte 2, and no page has subpages
-- (SPC-4, 6.13.1)
pub record IsModeSense (cdb : List ℕ) (control : PageControl) (page : ModePage) : Type 0 where
  pub control_is : byte 2 cdb / 64 ≡ control_code control
  pub page_is : byte 2 cdb % 64 ≡ mode_page_code page
  pub no_subpage : byte 3 cdb ≡ 0

abbrev pub SensesMode : ModeHeader → ℕ → List ℕ → Command → Type 0
SensesMode header allocation cdb c =
    (control : PageControl) × (page : ModePage) × IsModeSense cdb control page
    × (c ≡ ModeSense header control page allocation)

-- a PERSISTENT RESERVE OUT of this action, whose SCOPE and TYPE share byte 2: a RESERVE is of a logical unit and
-- of a type that there is (SPC-4, 6.16.1)
pub record IsReserveOut (cdb : List ℕ) (action : PrOutAction) : Type 0 where
  pub action_is : byte 1 cdb % 32 ≡ out_code action
  pub scope : action ≡ Reserve → byte 2 cdb / 16 ≡ 0
  pub kind : action ≡ Reserve → IsReservationType (byte 2 cdb % 16)

-- The table of commands: what a CDB of each form asks for, by its fields, where these are good. A form for which
-- no command stands here has a bad field.
abbrev pub Asks : CdbForm → List ℕ → Command → Type 0
Asks forms.TestUnitReady cdb c = c ≡ TestUnitReady
Asks forms.RequestSense cdb c = (byte 1 cdb % 2 ≡ 0) × (c ≡ RequestSense (byte 4 cdb))
Asks forms.Read6 cdb c = c ≡ Read (lba_6 cdb) (blocks_6 cdb) false
Asks forms.Write6 cdb c = c ≡ Write (lba_6 cdb) (blocks_6 cdb) false
Asks forms.Inquiry cdb c =
    (page : InquiryPage) × IsInquiryPage (byte 1 cdb % 2) (byte 2 cdb) page × (c ≡ Inquiry page (field 3 4 cdb))
Asks forms.ModeSense6 cdb c = SensesMode Six (byte 4 cdb) cdb c
Asks forms.ReadCapacity10 cdb c = c ≡ ReadCapacity10
Asks forms.Read10 cdb c = Transfers Read most_blocks cdb (field 2 5 cdb) (field 7 8 cdb) c
Asks forms.Write10 cdb c = Transfers Write most_blocks cdb (field 2 5 cdb) (field 7 8 cdb) c
Asks forms.SynchronizeCache10 cdb c = c ≡ SynchronizeCache (field 2 5 cdb) (field 7 8 cdb)
Asks forms.ModeSense10 cdb c = SensesMode Ten (field 7 8 cdb) cdb c
Asks forms.PersistentReserveIn cdb c =
    (action : PrInAction) × (byte 1 cdb % 32 ≡ in_code action) × (c ≡ PersistentReserveIn action (field 7 8 cdb))
Asks forms.PersistentReserveOut cdb c =
    (action : PrOutAction) × IsReserveOut cdb action
    × (c ≡ PersistentReserveOut action (byte 2 cdb / 16) (byte 2 cdb % 16) (field 5 8 cdb))
Asks forms.Read16 cdb c = Transfers Read most_blocks cdb (field 2 9 cdb) (field 10 13 cdb) c
Asks forms.CompareAndWrite cdb c = Transfers CompareAndWrite most_compared cdb (field 2 9 cdb) (byte 13 cdb) c
Asks forms.Write16 cdb c = Transfers Write most_blocks cdb (field 2 9 cdb) (field 10 13 cdb) c
Asks forms.SynchronizeCache16 cdb c = c ≡ SynchronizeCache (field 2 9 cdb) (field 10 13 cdb)
Asks forms.ReadCapacity16 cdb c = c ≡ ReadCapacity16 (field 10 13 cdb)
Asks forms.ReportLuns cdb c =
    (select : LunSelect) × (byte 2 cdb ≡ select_code select) × (c ≡ ReportLuns select (field 6 9 cdb))
Asks forms.ReportTargetPortGroups cdb c = (byte 1 cdb / 32 ≡ 0) × (c ≡ ReportTargetPortGroups (field 6 9 cdb))
Asks forms.SetTargetPortGroups cdb c = c ≡ SetTargetPortGroups (field 6 9 cdb)

-- a CDB of this form asks for this command, or has a bad field
abbrev pub Decodes : CdbForm → List ℕ → Option Command → Type 0
Decodes form cdb = IsFoundBy (Asks form cdb)

-- the CDB asks for this: a command of its form, or none of its form's commands, or it has none of the forms
abbrev pub Means : List ℕ → Result Command CdbFault → Type 0
Means cdb (Ok c) = (form : CdbForm) × HasForm cdb form × Asks form cdb c
Means cdb (Err (BadField op)) = (form : CdbForm) × HasForm cdb form × Decodes form cdb None × (op ≡ op_of form)
Means cdb (Err UnknownOpcode) = (form : CdbForm) → HasForm cdb form → ⊥

-- a length that the parameter list of SET TARGET PORT GROUPS may have: four bytes, and four for each of 64 groups at
-- most
abbrev pub is_group_list : ℕ → Bool
is_group_list list_length = list_length % 4 == 0 && nat_le list_length 260

-- the bytes of data that a command needs from its initiator; a CDB that asks for nothing needs none
abbrev pub need_of : Result Command CdbFault → ℕ
need_of (Ok TestUnitReady) = 0
need_of (Ok (RequestSense allocation)) = 0
need_of (Ok (Inquiry page allocation)) = 0
need_of (Ok (ModeSense header control page allocation)) = 0
need_of (Ok ReadCapacity10) = 0
need_of (Ok (ReadCapacity16 allocation)) = 0
need_of (Ok (Read lba blocks fua)) = 0
need_of (Ok (Write lba blocks fua)) = 512 * blocks
need_of (Ok (CompareAndWrite lba blocks fua)) = 1024 * blocks
need_of (Ok (SynchronizeCache lba blocks)) = 0
need_of (Ok (PersistentReserveIn action allocation)) = 0
need_of (Ok (PersistentReserveOut action scope kind list_length)) = if list_length == 24 then 24 else 0
need_of (Ok (ReportLuns select allocation)) = 0
need_of (Ok (ReportTargetPortGroups allocation)) = 0
need_of (Ok (SetTargetPortGroups list_length)) = if is_group_list list_length then list_length else 0
need_of (Err fault) = 0
