use denote.Param.Send.{sendable}
use Rattle.std.proofs.Crossing.{crosses}
use Rattle.file_preparer.proofs.Sent.{files_cross}
use Rattle.test_array.proofs.whole.units_have_their_files_and_portals_their_groups.Goals as goal

pub serve-end-requires-send-B : goal.serve-end-requires-send-B
serve-end-requires-send-B g _ κs = search (files_cross, sendable, crosses) depth 20

pub serve-end-requires-send-F : goal.serve-end-requires-send-F
serve-end-requires-send-F g _ κs = search (files_cross, sendable, crosses) depth 20

pub serve-end-requires-send-P : goal.serve-end-requires-send-P
serve-end-requires-send-P g _ κs = search (files_cross, sendable, crosses) depth 20

pub serve-end-requires-sync-B : goal.serve-end-requires-sync-B
serve-end-requires-sync-B g _ κs = search (files_cross, sendable, crosses) depth 20

pub serve-end-requires-sync-F : goal.serve-end-requires-sync-F
serve-end-requires-sync-F g _ κs = search (files_cross, sendable, crosses) depth 20

pub serve-end-requires-sync-P : goal.serve-end-requires-sync-P
serve-end-requires-sync-P g _ κs = search (files_cross, sendable, crosses) depth 20

-- The preparer at each place is of the file that the unit there is over.

pub serve-end-requires-clause-disks : goal.serve-end-requires-clause-disks
serve-end-requires-clause-disks g c κs = c.in-Ok.ensures.disks
