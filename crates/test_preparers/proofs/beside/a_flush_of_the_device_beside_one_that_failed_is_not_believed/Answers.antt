use denote.Param.Send.{sendable}
use Rattle.std.proofs.Crossing.{crosses}
use Rattle.disk_files.proofs.Sent.{files_cross}
use Rattle.test_preparers.proofs.beside.a_flush_of_the_device_beside_one_that_failed_is_not_believed.Goals as goal

pub neither_is_done-requires-send-B : goal.neither_is_done-requires-send-B
neither_is_done-requires-send-B g _ κs = search (files_cross, sendable, crosses) depth 20
