use denote.Param.Send.{sendable}
use Rattle.std.proofs.Crossing.{crosses}
use Rattle.disk_files.proofs.Sent.{files_cross}
use Rattle.test_files.proofs.kept.opened_by_threads.Goals as goal

pub timed-requires-send-B : goal.timed-requires-send-B
timed-requires-send-B g _ κs _ = search (files_cross, sendable, crosses) depth 20

pub timed-requires-send-F : goal.timed-requires-send-F
timed-requires-send-F g _ κs _ = search (files_cross, sendable, crosses) depth 20
