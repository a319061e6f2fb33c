-- The INQUIRY data of a unit that is there (SPC-4, 6.6), for a command that came by this target port group.
use Rattle.std.specs.Prelude.{List}
use Rattle.scsi_types.specs.declared.names.Group.{Group}
use Rattle.scsi_types.specs.declared.names.Place.{Place}
use Rattle.scsi_types.specs.declared.pages.InquiryPage.{InquiryPage}
use Rattle.scsi_types.specs.declared.pages.InquiryPage.TheVariants.{Standard, SupportedPages, UnitSerialNumber}
use Rattle.scsi_types.specs.declared.pages.InquiryPage.TheVariants.{DeviceIdentification, BlockLimits}
use Rattle.identity.specs.Table.{Row}
use Rattle.identity.specs.Inquiry.{disk, standard_inquiry}
use Rattle.identity.specs.VitalProductData.{supported_pages, serial_number, device_identification, block_limits}

abbrev pub inquiry_data : Place → Group → InquiryPage → List Row
inquiry_data place group Standard = standard_inquiry disk
inquiry_data place group SupportedPages = supported_pages
inquiry_data place group UnitSerialNumber = serial_number place
inquiry_data place group DeviceIdentification = device_identification place group
inquiry_data place group BlockLimits = block_limits
