-- MODE SENSE parameter data (SPC-4, 7.5; SBC-3, mode parameters for direct access block devices).
use Rattle.std.specs.Prelude.{ℕ, ◌+◌, List, [], ◌∷◌, ◌++◌, length}
use Rattle.scsi_types.specs.Pages.{mode_page_code}
use Rattle.scsi_types.specs.declared.pages.ModeHeader.{ModeHeader}
use Rattle.scsi_types.specs.declared.pages.ModeHeader.TheVariants.{Six, Ten}
use Rattle.scsi_types.specs.declared.pages.PageControl.{PageControl}
use Rattle.scsi_types.specs.declared.pages.PageControl.TheVariants.{Current, Changeable, Default, Saved}
use Rattle.scsi_types.specs.declared.pages.ModePage.{ModePage}
use Rattle.scsi_types.specs.declared.pages.ModePage.TheVariants.{Caching, Control, All}
use Rattle.identity.specs.Table.{Row, Byte, Shared, Number, Reserved, bits, flag, spell}

-- what a page control shows of a page's parameters (SPC-4, 6.13.1): they keep their default values, so the mask of those
-- that may be changed has no bit set. None are saved, and a unit refuses to tell saved values.
abbrev pub shown : PageControl → List Row → List Row
shown Current parameters = parameters
shown Changeable parameters = Reserved (length (spell parameters)) ∷ []
shown Default parameters = parameters
shown Saved parameters = parameters

-- a mode page (SPC-4, 7.5.7): its code, how many bytes follow, and these
abbrev pub mode_page : PageControl → ModePage → List Row → List Row
mode_page control page parameters =
    Shared (flag "PS" 0 ∷ flag "SPF" 0 ∷ bits "PAGE CODE" 6 (mode_page_code page) ∷ [])
    ∷ Byte "PAGE LENGTH" (length (spell parameters))
    ∷ shown control parameters

-- the Caching mode page (SBC-3): the write cache is enabled
abbrev pub caching : List Row
caching =
    Shared (flag "IC" 0 ∷ flag "ABPF" 0 ∷ flag "CAP" 0 ∷ flag "DISC" 0
    ∷ flag "SIZE" 0 ∷ flag "WCE" 1 ∷ flag "MF" 0 ∷ flag "RCD" 0 ∷ [])
    ∷ Shared (bits "DEMAND READ RETENTION PRIORITY" 4 0 ∷ bits "WRITE RETENTION PRIORITY" 4 0 ∷ [])
    ∷ Number "DISABLE PRE-FETCH TRANSFER LENGTH" 2 0
    ∷ Number "MINIMUM PRE-FETCH" 2 0
    ∷ Number "MAXIMUM PRE-FETCH" 2 0
    ∷ Number "MAXIMUM PRE-FETCH CEILING" 2 0
    ∷ Shared (flag "FSW" 0 ∷ flag "LBCSS" 0 ∷ flag "DRA" 0 ∷ bits "VS" 2 0 ∷ bits "SYNC_PROG" 2 0 ∷ flag "NV_DIS" 0 ∷ [])
    ∷ Byte "NUMBER OF CACHE SEGMENTS" 0
    ∷ Number "CACHE SEGMENT SIZE" 2 0
    ∷ Reserved 4
    ∷ []

-- the Control mode page (SPC-4, 7.5): commands may be reordered
abbrev pub control_page : List Row
control_page =
    Shared (bits "TST" 3 0 ∷ flag "TMF_ONLY" 0 ∷ flag "DPICZ" 0 ∷ flag "D_SENSE" 0 ∷ flag "GLTSD" 0 ∷ flag "RLEC" 0 ∷ [])
    ∷ Shared (bits "QUEUE ALGORITHM MODIFIER" 4 1 ∷ flag "NUAR" 0 ∷ bits "QERR" 2 0 ∷ flag "Obsolete" 0 ∷ [])
    ∷ Shared (flag "VS" 0 ∷ flag "RAC" 0 ∷ bits "UA_INTLCK_CTRL" 2 0 ∷ flag "SWP" 0 ∷ bits "Obsolete" 3 0 ∷ [])
    ∷ Shared (flag "ATO" 0 ∷ flag "TAS" 0 ∷ flag "ATMPE" 0 ∷ flag "RWWP" 0
    ∷ flag "Reserved" 0 ∷ bits "AUTOLOAD MODE" 3 0 ∷ [])
    ∷ Number "Obsolete" 2 0
    ∷ Number "BUSY TIMEOUT PERIOD" 2 0
    ∷ Number "EXTENDED SELF-TEST COMPLETION TIME" 2 0
    ∷ []

-- the pages that are asked for, in ascending order of their codes
abbrev pub mode_pages : PageControl → ModePage → List Row
mode_pages control Caching = mode_page control Caching caching
mode_pages control Control = mode_page control Control control_page
mode_pages control All = mode_page control Caching caching ++ mode_page control Control control_page

-- the DEVICE-SPECIFIC PARAMETER of a direct access block device (SBC-3): DPO and FUA are taken
abbrev pub device_specific : Row
device_specific = Shared (flag "WP" 0 ∷ bits "Reserved" 2 0 ∷ flag "DPOFUA" 1 ∷ bits "Reserved" 4 0 ∷ [])

-- the mode parameter header (SPC-4, 7.5.5) before so many bytes of pages, without block descriptors
abbrev pub mode_header : ModeHeader → ℕ → List Row
mode_header Six pages =
    Byte "MODE DATA LENGTH" (3 + pages)
    ∷ Byte "MEDIUM TYPE" 0
    ∷ device_specific
    ∷ Byte "BLOCK DESCRIPTOR LENGTH" 0
    ∷ []
mode_header Ten pages =
    Number "MODE DATA LENGTH" 2 (6 + pages)
    ∷ Byte "MEDIUM TYPE" 0
    ∷ device_specific
    ∷ Shared (bits "Reserved" 7 0 ∷ flag "LONGLBA" 0 ∷ [])
    ∷ Reserved 1
    ∷ Number "BLOCK DESCRIPTOR LENGTH" 2 0
    ∷ []

abbrev pub mode_data : ModeHeader → PageControl → ModePage → List Row
mode_data header control page = mode_header header (length (spell (mode_pages control page))) ++ mode_pages control page
