-- The words that a session's rules are told in, from one place: std's, those of PDUs and commands, and the types here. A crate
-- above takes the types here by their own paths: this file passes them on in its own crate alone.
pub use Rattle.std.specs.Prelude.{not, nat_lt, nat_le, bytes_eq, ℕ, zero, suc, min, Bool, true, false, IsTrue, List, [], length, take, drop}
pub use Rattle.std.specs.Prelude.{map, replicate, slice_get, slice_index, Option, Some, None, is_some, IfSome, MatchOption, Result, Ok, Err}
pub use Rattle.std.specs.List.{AllByRecursion, list_any, filter, filter_map, flat_map, find, cons_option, last_or, count_by, sum_by}
pub use Rattle.std.specs.Option.{option_or, option_map, option_to_list, unwrap_or}
pub use Rattle.iscsi_pdu.specs.{Fault.Stands, Number.bhs_length, Number.max_data_segment_length, Number.three_at, Pdu.IsPdu}
pub use Rattle.iscsi_pdu.specs.{Spelling.spelling}
pub use Rattle.iscsi_pdu.specs.declared.{TheConstants.BHS_LENGTH, fault.PduFault.PduFault}
pub use Rattle.iscsi_pdu.specs.declared.header.{Header.Header, InitiatorHeader.InitiatorHeader, TargetHeader.TargetHeader}
pub use Rattle.iscsi_pdu.specs.declared.header.{NopOut.NopOut as NopOutHeader, ScsiCommand.ScsiCommand as CommandHeader}
pub use Rattle.iscsi_pdu.specs.declared.header.{TaskManagementRequest.TaskManagementRequest as ManagementHeader}
pub use Rattle.iscsi_pdu.specs.declared.header.{LoginRequest.LoginRequest as LoginHeader, TextRequest.TextRequest as TextHeader}
pub use Rattle.iscsi_pdu.specs.declared.header.{DataOut.DataOut as DataOutHeader, LogoutRequest.LogoutRequest as LogoutHeader}
pub use Rattle.iscsi_pdu.specs.declared.header.{DataIn.DataIn as DataInHeader, ScsiResponse.ScsiResponse as ResponseHeader}
pub use Rattle.iscsi_pdu.specs.declared.header.{R2t.R2t as R2tHeader, Numbers.Numbers, CommandNumbers.CommandNumbers}
pub use Rattle.iscsi_pdu.specs.declared.header.Header.TheVariants.{Initiator, Target}
pub use Rattle.iscsi_pdu.specs.declared.header.InitiatorHeader.TheVariants.{NopOut, ScsiCommand, TaskManagementRequest, LoginRequest}
pub use Rattle.iscsi_pdu.specs.declared.header.InitiatorHeader.TheVariants.{TextRequest, DataOut, LogoutRequest}
pub use Rattle.iscsi_pdu.specs.declared.header.TargetHeader.TheVariants.{NopIn, ScsiResponse, TaskManagementResponse, LoginResponse}
pub use Rattle.iscsi_pdu.specs.declared.header.TargetHeader.TheVariants.{TextResponse, DataIn, LogoutResponse, R2t, Reject}
pub use Rattle.login.specs.{Progress.Progress, Progress.beginning, Table.own_data_segment, Text.pairs}
pub use Rattle.login.specs.Request.{kind_in, after, answer_to, Ending, Finished, Stopped}
pub use Rattle.login.specs.declared.status.{SessionType.SessionType, SessionType.TheVariants.Normal, LoginFlags.LoginFlags}
pub use Rattle.login.specs.declared.status.LoginStatus.TheVariants.{InvalidDuringLogin}
pub use Rattle.scsi_types.specs.{Cdb.need_of, Cdb.Means, Lun.NamesUnit, Nexus.Port, ReplyValue.good, Status.status_code}
pub use Rattle.scsi_types.specs.declared.{command.Command.Command, command.CdbFault.CdbFault, sense.Sense.Sense}
pub use Rattle.session_rules.specs.declared.{end.End.End, target_record.TargetRecord.TargetRecord, lengths.Lengths.Lengths, opening.Opening.Opening}
pub use Rattle.session_rules.specs.declared.{start.Start.Start, verdict.Verdict.Verdict, login_outcome.LoginOutcome.LoginOutcome}
pub use Rattle.session_rules.specs.declared.target.{TargetAnswer.TargetAnswer, BeginAnswer.BeginAnswer, ResetAnswer.ResetAnswer}
pub use Rattle.session_rules.specs.declared.task_function.{ManagementOutcome.ManagementOutcome, TaskFunction.TaskFunction}
pub use Rattle.session_rules.specs.declared.end.End.TheVariants.{EndOfInput, InputFailed, OutputFailed, Reinstated, LoggedOut}
pub use Rattle.session_rules.specs.declared.opening.Opening.TheVariants.{Login, FullFeature}
pub use Rattle.session_rules.specs.declared.target.TargetAnswer.TheVariants.{Replied, Outside, Busy, Gone}
pub use Rattle.session_rules.specs.declared.task_function.ManagementOutcome.TheVariants.{Respond, Reset}
pub use Rattle.session_rules.specs.declared.task_function.TaskFunction.TheVariants.{AbortTask, AbortTaskSet, LogicalUnitReset}
pub use Rattle.session_rules.specs.declared.task_function.TaskFunction.TheVariants.{TaskReassign, Other}
pub use Rattle.session_rules.specs.declared.verdict.Verdict.TheVariants.{Accepted, Ignored, Refused, Full, Gap}
