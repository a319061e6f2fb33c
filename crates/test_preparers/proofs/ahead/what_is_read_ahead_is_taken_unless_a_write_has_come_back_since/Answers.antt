use denote.Param.Send.{sendable}
use Rattle.std.proofs.Crossing.{crosses}
use Rattle.file_preparer.proofs.Sent.{files_cross}
use Rattle.test_preparers.proofs.ahead.what_is_read_ahead_is_taken_unless_a_write_has_come_back_since.Goals as goal

pub start-requires-send-P : goal.start-requires-send-P
start-requires-send-P g _ κs = search (files_cross, sendable, crosses) depth 20

pub start-requires-sync-P : goal.start-requires-sync-P
start-requires-sync-P g _ κs = search (files_cross, sendable, crosses) depth 20

pub timed-device-requires-send-B : goal.timed-device-requires-send-B
timed-device-requires-send-B g _ κs = search (files_cross, sendable, crosses) depth 20
