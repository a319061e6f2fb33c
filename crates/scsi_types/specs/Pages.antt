-- The codes of what INQUIRY, MODE SENSE and REPORT LUNS are asked to tell.
use Rattle.std.specs.Prelude.{◌≡◌, ℕ}
use Rattle.scsi_types.specs.declared.pages.InquiryPage.{InquiryPage}
use Rattle.scsi_types.specs.declared.pages.InquiryPage.TheVariants as inquiry
use Rattle.scsi_types.specs.declared.pages.PageControl.{PageControl}
use Rattle.scsi_types.specs.declared.pages.PageControl.TheVariants as controls
use Rattle.scsi_types.specs.declared.pages.ModePage.{ModePage}
use Rattle.scsi_types.specs.declared.pages.ModePage.TheVariants as modes
use Rattle.scsi_types.specs.declared.pages.LunSelect.{LunSelect}
use Rattle.scsi_types.specs.declared.pages.LunSelect.TheVariants as selects

-- the EVPD bit and the PAGE CODE of each page of INQUIRY data (SPC-4, 6.6.1 and 7.8)
abbrev pub IsInquiryPage : ℕ → ℕ → InquiryPage → Type 0
IsInquiryPage evpd code inquiry.Standard = (evpd ≡ 0) × (code ≡ 0x00)
IsInquiryPage evpd code inquiry.SupportedPages = (evpd ≡ 1) × (code ≡ 0x00)
IsInquiryPage evpd code inquiry.UnitSerialNumber = (evpd ≡ 1) × (code ≡ 0x80)
IsInquiryPage evpd code inquiry.DeviceIdentification = (evpd ≡ 1) × (code ≡ 0x83)
IsInquiryPage evpd code inquiry.BlockLimits = (evpd ≡ 1) × (code ≡ 0xB0)

-- PC (SPC-4, 6.13.1)
abbrev pub control_code : PageControl → ℕ
control_code controls.Current = 0
control_code controls.Changeable = 1
control_code controls.Default = 2
control_code controls.Saved = 3

-- the PAGE CODE of each mode page, and of all (SPC-4, 6.13.1 and 7.5)
abbrev pub mode_page_code : ModePage → ℕ
mode_page_code modes.Caching = 0x08
mode_page_code modes.Control = 0x0A
mode_page_code modes.All = 0x3F

-- SELECT REPORT (SPC-4, 6.33)
abbrev pub select_code : LunSelect → ℕ
select_code selects.Units = 0
select_code selects.WellKnown = 1
select_code selects.All = 2
