-- What a target answers for a logical unit that is not there (SPC-4, 6.6.1 and 6.39; SAM-5, 5.11).
use Rattle.std.specs.Prelude.{Result, Ok, Err}
use Rattle.scsi_types.specs.ReplyValue.{ReplyValue, good, check}
use Rattle.scsi_types.specs.Sense.{sense_bytes, invalid_field_in_cdb, logical_unit_not_supported}
use Rattle.scsi_types.specs.declared.command.Command.{Command}
use Rattle.scsi_types.specs.declared.command.Command.TheVariants.{Inquiry, RequestSense}
use Rattle.scsi_types.specs.declared.command.CdbFault.{CdbFault}
use Rattle.scsi_types.specs.declared.command.CdbFault.TheVariants.{BadField}
use Rattle.scsi_types.specs.declared.command.Op.TheVariants as ops
use Rattle.scsi_types.specs.declared.pages.InquiryPage.TheVariants as pages
use Rattle.identity.specs.Table.{cut, spell}
use Rattle.identity.specs.Inquiry.{nothing, standard_inquiry}

-- INQUIRY tells that nothing is there, and has no other page to tell; REQUEST SENSE tells in its data what every other
-- command is refused with
abbrev pub absent_reply : Result Command CdbFault → ReplyValue
absent_reply (Ok (Inquiry pages.Standard allocation)) = good (cut allocation (spell (standard_inquiry nothing)))
absent_reply (Ok (Inquiry page allocation)) = check invalid_field_in_cdb
absent_reply (Err (BadField ops.Inquiry)) = check invalid_field_in_cdb
absent_reply (Ok (RequestSense allocation)) = good (cut allocation (sense_bytes logical_unit_not_supported))
absent_reply (Err (BadField ops.RequestSense)) = check invalid_field_in_cdb
absent_reply asked = check logical_unit_not_supported
