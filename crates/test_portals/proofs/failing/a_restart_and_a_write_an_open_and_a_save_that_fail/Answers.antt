use denote.Param.Send.{sendable}
use Rattle.std.proofs.Crossing.{crosses}
use Rattle.disk_files.proofs.Sent.{files_cross}
use Rattle.test_portals.proofs.failing.a_restart_and_a_write_an_open_and_a_save_that_fail.Goals as goal

pub run_twice-requires-send-B : goal.run_twice-requires-send-B
run_twice-requires-send-B g _ κs = search (files_cross, sendable, crosses) depth 20

pub run_twice-requires-send-F : goal.run_twice-requires-send-F
run_twice-requires-send-F g _ κs = search (files_cross, sendable, crosses) depth 20

pub run_twice-requires-sync-B : goal.run_twice-requires-sync-B
run_twice-requires-sync-B g _ κs = search (files_cross, sendable, crosses) depth 20

pub run_twice-requires-sync-F : goal.run_twice-requires-sync-F
run_twice-requires-sync-F g _ κs = search (files_cross, sendable, crosses) depth 20
