-- The PDUs of an answer: its Data-In, and the SCSI Response.
use Rattle.std.specs.Prelude.{◌∷◌, ◌++◌}
use Rattle.session_rules.specs.Words.{ℕ, nat_lt, List, [], length, None, status_code, CommandHeader, ResponseHeader, Numbers, ScsiResponse}
use Rattle.session_full_feature.specs.{declared.response.Completion.Completion, Counters.Counters}
use Rattle.session_rules.specs.{Codes.completed, Turn.Out, Response.sense_part, Standing.numbers_at}
use Rattle.session_rules.specs.declared.target.TargetAnswer.{TargetAnswer}
use Rattle.session_rules.specs.declared.target.TargetAnswer.TheVariants.{Replied, Outside, Busy, Gone}
use Rattle.session_rules.specs.Transfer.{expected_transfer, sent_data, transfer_of, residual_count}
use Rattle.session_stream.specs.Pdus.{data_ins_for}
use Rattle.scsi_types.specs.declared.status.Status.TheVariants as statuses

-- the SCSI Response that tells this, behind so many Data-In, for data of this length
abbrev pub response_for : Numbers → CommandHeader → ℕ → ℕ → Completion → ResponseHeader
response_for numbers p transfer data_ins completion = record {
  overflow = nat_lt (expected_transfer p) transfer;
  underflow = nat_lt transfer (expected_transfer p);
  response = completed;
  status = status_code completion.status;
  task_tag = p.task_tag;
  numbers = numbers;
  exp_data_sn = data_ins;
  residual = residual_count (expected_transfer p) transfer;
}

-- the PDUs of an answer with this data
abbrev pub reply_with : Counters → CommandHeader → ℕ → List ℕ → Completion → List Out
reply_with s p need bytes completion =
    let segments = data_ins_for (numbers_at 0 s.standing) p.task_tag s.setting.start.lengths (sent_data p bytes) in
    let transfer = transfer_of p need (length bytes) in
    let response = response_for (numbers_at s.stat_sn s.standing) p transfer (length segments) completion in
    segments ++ record { header = ScsiResponse response; bytes = sense_part completion.sense } ∷ []

-- a command for whose data there is no buffer, or that finds the task set full
abbrev pub busy : Completion
busy = record { status = statuses.Busy; sense = None }

abbrev pub task_set_full : Completion
task_set_full = record { status = statuses.TaskSetFull; sense = None }

-- the PDUs that tell the target's answer; none where the session is gone
abbrev pub reply_to : Counters → CommandHeader → ℕ → TargetAnswer → List Out
reply_to s p need (Replied a) = reply_with s p need a.bytes (record { status = a.status; sense = a.sense })
reply_to s p need (Outside a) = reply_with s p need a.bytes (record { status = a.status; sense = a.sense })
reply_to s p need Busy = reply_with s p need [] busy
reply_to s p need Gone = []
