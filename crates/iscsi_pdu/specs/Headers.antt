-- The headers of PDUs from one place: an initiator's and a target's, by the kinds of PDU, and what that of each kind holds. This
-- file passes them on in its own crate alone: a crate above takes them by their own paths.
pub use Rattle.iscsi_pdu.specs.declared.header.{Header.Header, InitiatorHeader.InitiatorHeader, TargetHeader.TargetHeader}
pub use Rattle.iscsi_pdu.specs.declared.header.Header.TheVariants.{Initiator, Target}
pub use Rattle.iscsi_pdu.specs.declared.header.InitiatorHeader.TheVariants.{NopOut, ScsiCommand, TaskManagementRequest}
pub use Rattle.iscsi_pdu.specs.declared.header.InitiatorHeader.TheVariants.{LoginRequest, TextRequest, DataOut}
pub use Rattle.iscsi_pdu.specs.declared.header.InitiatorHeader.TheVariants.{LogoutRequest}
pub use Rattle.iscsi_pdu.specs.declared.header.TargetHeader.TheVariants.{NopIn, ScsiResponse, TaskManagementResponse}
pub use Rattle.iscsi_pdu.specs.declared.header.TargetHeader.TheVariants.{LoginResponse, TextResponse, DataIn}
pub use Rattle.iscsi_pdu.specs.declared.header.TargetHeader.TheVariants.{LogoutResponse, R2t, Reject}
pub use Rattle.iscsi_pdu.specs.declared.header.{NopOut.NopOut as NopOutHeader}
pub use Rattle.iscsi_pdu.specs.declared.header.{ScsiCommand.ScsiCommand as ScsiCommandHeader}
pub use Rattle.iscsi_pdu.specs.declared.header.{TaskManagementRequest.TaskManagementRequest as TaskManagementRequestHeader}
pub use Rattle.iscsi_pdu.specs.declared.header.{LoginRequest.LoginRequest as LoginRequestHeader}
pub use Rattle.iscsi_pdu.specs.declared.header.{TextRequest.TextRequest as TextRequestHeader}
pub use Rattle.iscsi_pdu.specs.declared.header.{DataOut.DataOut as DataOutHeader}
pub use Rattle.iscsi_pdu.specs.declared.header.{LogoutRequest.LogoutRequest as LogoutRequestHeader}
pub use Rattle.iscsi_pdu.specs.declared.header.{NopIn.NopIn as NopInHeader}
pub use Rattle.iscsi_pdu.specs.declared.header.{ScsiResponse.ScsiResponse as ScsiResponseHeader}
pub use Rattle.iscsi_pdu.specs.declared.header.{TaskManagementResponse.TaskManagementResponse as TaskManagementResponseHeader}
pub use Rattle.iscsi_pdu.specs.declared.header.{LoginResponse.LoginResponse as LoginResponseHeader}
pub use Rattle.iscsi_pdu.specs.declared.header.{TextResponse.TextResponse as TextResponseHeader}
pub use Rattle.iscsi_pdu.specs.declared.header.{DataIn.DataIn as DataInHeader}
pub use Rattle.iscsi_pdu.specs.declared.header.{LogoutResponse.LogoutResponse as LogoutResponseHeader}
pub use Rattle.iscsi_pdu.specs.declared.header.{R2t.R2t as R2tHeader, Reject.Reject as RejectHeader}
