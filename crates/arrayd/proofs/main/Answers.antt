use denote.Param.Send.{sendable}
use Rattle.std.proofs.Crossing.{crosses}
use Rattle.file_preparer.proofs.Sent.{files_cross}
use Rattle.arrayd.proofs.main.Goals as goal

-- What goes to threads: no fact of what main has done before is of use, and there are too many of them to look at.

pub serve_timed-served-requires-send-B : goal.serve_timed-served-requires-send-B
serve_timed-served-requires-send-B g _ κs = search (files_cross, sendable, crosses) depth 20

pub serve_timed-served-requires-send-F : goal.serve_timed-served-requires-send-F
serve_timed-served-requires-send-F g _ κs = search (files_cross, sendable, crosses) depth 20

pub serve_timed-served-requires-send-P : goal.serve_timed-served-requires-send-P
serve_timed-served-requires-send-P g _ κs = search (files_cross, sendable, crosses) depth 20

pub serve_timed-served-requires-sync-B : goal.serve_timed-served-requires-sync-B
serve_timed-served-requires-sync-B g _ κs = search (files_cross, sendable, crosses) depth 20

pub serve_timed-served-requires-sync-F : goal.serve_timed-served-requires-sync-F
serve_timed-served-requires-sync-F g _ κs = search (files_cross, sendable, crosses) depth 20

pub serve_timed-served-requires-sync-P : goal.serve_timed-served-requires-sync-P
serve_timed-served-requires-sync-P g _ κs = search (files_cross, sendable, crosses) depth 20

pub serve-served-requires-send-B : goal.serve-served-requires-send-B
serve-served-requires-send-B g _ κs = search (files_cross, sendable, crosses) depth 20

pub serve-served-requires-send-F : goal.serve-served-requires-send-F
serve-served-requires-send-F g _ κs = search (files_cross, sendable, crosses) depth 20

pub serve-served-requires-send-P : goal.serve-served-requires-send-P
serve-served-requires-send-P g _ κs = search (files_cross, sendable, crosses) depth 20

pub serve-served-requires-sync-B : goal.serve-served-requires-sync-B
serve-served-requires-sync-B g _ κs = search (files_cross, sendable, crosses) depth 20

pub serve-served-requires-sync-F : goal.serve-served-requires-sync-F
serve-served-requires-sync-F g _ κs = search (files_cross, sendable, crosses) depth 20

pub serve-served-requires-sync-P : goal.serve-served-requires-sync-P
serve-served-requires-sync-P g _ κs = search (files_cross, sendable, crosses) depth 20

-- The preparer at each place is of the file that the unit there is over.

pub serve-served-requires-clause-disks : goal.serve-served-requires-clause-disks
serve-served-requires-clause-disks g c κs = c.in-Ok-open.ensures.disks
