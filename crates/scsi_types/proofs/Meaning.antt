-- A CDB asks for one thing.
use Rattle.std.proofs.Common.{◌≡◌, ℕ, ◌==◌, if◌then◌else◌, List, get_or, Result, Ok, Err, refl, sym, ap, ◌∙◌, arith}
use Rattle.std.proofs.lemmas.Bool.Decides.{nat_tests}
use Rattle.scsi_types.specs.declared.form.CdbForm.{CdbForm}
use Rattle.scsi_types.specs.declared.form.CdbForm.TheVariants as forms
use Rattle.scsi_types.specs.declared.command.Command.{Command}
use Rattle.scsi_types.specs.declared.command.CdbFault.{CdbFault}
use Rattle.scsi_types.specs.declared.command.CdbFault.TheVariants.{UnknownOpcode, BadField}
use Rattle.scsi_types.specs.declared.pages.InquiryPage.{InquiryPage}
use Rattle.scsi_types.specs.declared.pages.PageControl.{PageControl}
use Rattle.scsi_types.specs.declared.pages.ModeHeader.{ModeHeader}
use Rattle.scsi_types.specs.declared.pages.ModePage.{ModePage}
use Rattle.scsi_types.specs.declared.pages.LunSelect.{LunSelect}
use Rattle.scsi_types.specs.declared.reservation.PrInAction.{PrInAction}
use Rattle.scsi_types.specs.declared.reservation.PrOutAction.{PrOutAction}
use Rattle.scsi_types.specs.Reservation.{in_code, out_code}
use Rattle.scsi_types.specs.Form.{HasForm, op_of}
use Rattle.scsi_types.specs.Pages.{IsInquiryPage, control_code, mode_page_code, select_code}
use Rattle.scsi_types.specs.Cdb.{Asks, Means, SensesMode}

-- the form with an operation code
form_at : ℕ → CdbForm
form_at n =
    if n == 0x00 then forms.TestUnitReady else if n == 0x03 then forms.RequestSense else
    if n == 0x08 then forms.Read6 else if n == 0x0A then forms.Write6 else if n == 0x12 then forms.Inquiry else
    if n == 0x1A then forms.ModeSense6 else if n == 0x25 then forms.ReadCapacity10 else
    if n == 0x28 then forms.Read10 else if n == 0x2A then forms.Write10 else
    if n == 0x35 then forms.SynchronizeCache10 else if n == 0x5A then forms.ModeSense10 else
    if n == 0x5E then forms.PersistentReserveIn else if n == 0x5F then forms.PersistentReserveOut else
    if n == 0x88 then forms.Read16 else if n == 0x89 then forms.CompareAndWrite else
    if n == 0x8A then forms.Write16 else if n == 0x91 then forms.SynchronizeCache16 else
    if n == 0x9E then forms.ReadCapacity16 else if n == 0xA0 then forms.ReportLuns else
    if n == 0xA3 then forms.ReportTargetPortGroups else forms.SetTargetPortGroups

form-is : (cdb : List ℕ) (form : CdbForm) → HasForm cdb form → form_at (get_or cdb 0 0) ≡ form
unfolding form_at
form-is cdb form h = grind (arith, nat_tests, h)

-- a CDB has one form
pub one_form : (cdb : List ℕ) (a b : CdbForm) → HasForm cdb a → HasForm cdb b → a ≡ b
one_form cdb a b p q = sym (form-is cdb a p) ∙ form-is cdb b q

-- a code names one page, page control or choice
one_inquiry : (evpd code : ℕ) (a b : InquiryPage) → IsInquiryPage evpd code a → IsInquiryPage evpd code b → a ≡ b
one_inquiry evpd code a b p q = grind (arith, p, q)

one_control : (a b : PageControl) → control_code a ≡ control_code b → a ≡ b
one_control a b e = grind (arith, e)

one_mode : (a b : ModePage) → mode_page_code a ≡ mode_page_code b → a ≡ b
one_mode a b e = grind (arith, e)

one_select : (a b : LunSelect) → select_code a ≡ select_code b → a ≡ b
one_select a b e = grind (arith, e)

one_sense : (header : ModeHeader) (n : ℕ) (cdb : List ℕ) (c d : Command)
    → SensesMode header n cdb c → SensesMode header n cdb d → c ≡ d
one_sense header n cdb c d p q =
    let control : p.0 ≡ q.0 = one_control p.0 q.0 (sym p.2.control_is ∙ q.2.control_is) in
    let page : p.1 ≡ q.1 = one_mode p.1 q.1 (sym p.2.page_is ∙ q.2.page_is) in
    let first = p.3 in
    let second = q.3 in
    cc

one_in : (a b : PrInAction) → in_code a ≡ in_code b → a ≡ b
one_in a b e = grind (arith, e)

one_out : (a b : PrOutAction) → out_code a ≡ out_code b → a ≡ b
one_out a b e = grind (arith, e)

-- a CDB of a form asks for one command
one_command : (form : CdbForm) (cdb : List ℕ) (c d : Command) → Asks form cdb c → Asks form cdb d → c ≡ d
one_command forms.TestUnitReady cdb c d p q = p ∙ sym q
one_command forms.RequestSense cdb c d p q = p.1 ∙ sym q.1
one_command forms.Read6 cdb c d p q = p ∙ sym q
one_command forms.Write6 cdb c d p q = p ∙ sym q
one_command forms.Inquiry cdb c d p q =
    let page : p.0 ≡ q.0 = one_inquiry _ _ p.0 q.0 p.1 q.1 in
    let first = p.2 in
    let second = q.2 in
    cc
one_command forms.ModeSense6 cdb c d p q = one_sense _ _ cdb c d p q
one_command forms.ReadCapacity10 cdb c d p q = p ∙ sym q
one_command forms.Read10 cdb c d p q = p.1 ∙ sym q.1
one_command forms.Write10 cdb c d p q = p.1 ∙ sym q.1
one_command forms.SynchronizeCache10 cdb c d p q = p ∙ sym q
one_command forms.ModeSense10 cdb c d p q = one_sense _ _ cdb c d p q
one_command forms.PersistentReserveIn cdb c d p q =
    let action : p.0 ≡ q.0 = one_in p.0 q.0 (sym p.1 ∙ q.1) in
    let first = p.2 in
    let second = q.2 in
    cc
one_command forms.PersistentReserveOut cdb c d p q =
    let action : p.0 ≡ q.0 = one_out p.0 q.0 (sym p.1.action_is ∙ q.1.action_is) in
    let first = p.2 in
    let second = q.2 in
    cc
one_command forms.Read16 cdb c d p q = p.1 ∙ sym q.1
one_command forms.CompareAndWrite cdb c d p q = p.1 ∙ sym q.1
one_command forms.Write16 cdb c d p q = p.1 ∙ sym q.1
one_command forms.SynchronizeCache16 cdb c d p q = p ∙ sym q
one_command forms.ReadCapacity16 cdb c d p q = p ∙ sym q
one_command forms.ReportLuns cdb c d p q =
    let select : p.0 ≡ q.0 = one_select p.0 q.0 (sym p.1 ∙ q.1) in
    let first = p.2 in
    let second = q.2 in
    cc
one_command forms.ReportTargetPortGroups cdb c d p q = p.1 ∙ sym q.1
one_command forms.SetTargetPortGroups cdb c d p q = p ∙ sym q

pub one_meaning : (cdb : List ℕ) (a b : Result Command CdbFault) → Means cdb a → Means cdb b → a ≡ b
one_meaning cdb (Ok c) (Ok d) p q =
    let same : p.0 ≡ q.0 = one_form cdb p.0 q.0 p.1 q.1 in
    let command : c ≡ d = one_command q.0 cdb c d (rw same at p.2) q.2 in
    cc
one_meaning cdb (Ok c) (Err (BadField op)) p q = absurd (q.2 c (rw (one_form cdb p.0 q.0 p.1 q.1) at p.2))
one_meaning cdb (Ok c) (Err UnknownOpcode) p q = absurd (q p.0 p.1)
one_meaning cdb (Err (BadField op)) (Ok d) p q = absurd (p.2 d (rw (one_form cdb q.0 p.0 q.1 p.1) at q.2))
one_meaning cdb (Err (BadField o)) (Err (BadField u)) p q =
    let same : p.0 ≡ q.0 = one_form cdb p.0 q.0 p.1 q.1 in
    let op : o ≡ u = p.3 ∙ ap op_of same ∙ sym q.3 in
    cc
one_meaning cdb (Err (BadField op)) (Err UnknownOpcode) p q = absurd (q p.0 p.1)
one_meaning cdb (Err UnknownOpcode) (Ok d) p q = absurd (p q.0 q.1)
one_meaning cdb (Err UnknownOpcode) (Err (BadField op)) p q = absurd (p q.0 q.1)
one_meaning cdb (Err UnknownOpcode) (Err UnknownOpcode) p q = refl
