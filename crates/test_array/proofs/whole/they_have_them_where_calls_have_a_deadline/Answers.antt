use denote.Param.Send.{sendable}
use Rattle.std.proofs.Crossing.{crosses}
use Rattle.file_preparer.proofs.Sent.{files_cross}
use Rattle.test_array.proofs.whole.they_have_them_where_calls_have_a_deadline.Goals as goal

pub serve_timed-end-requires-send-B : goal.serve_timed-end-requires-send-B
serve_timed-end-requires-send-B g _ κs = search (files_cross, sendable, crosses) depth 20

pub serve_timed-end-requires-send-F : goal.serve_timed-end-requires-send-F
serve_timed-end-requires-send-F g _ κs = search (files_cross, sendable, crosses) depth 20

pub serve_timed-end-requires-send-P : goal.serve_timed-end-requires-send-P
serve_timed-end-requires-send-P g _ κs = search (files_cross, sendable, crosses) depth 20

pub serve_timed-end-requires-sync-B : goal.serve_timed-end-requires-sync-B
serve_timed-end-requires-sync-B g _ κs = search (files_cross, sendable, crosses) depth 20

pub serve_timed-end-requires-sync-F : goal.serve_timed-end-requires-sync-F
serve_timed-end-requires-sync-F g _ κs = search (files_cross, sendable, crosses) depth 20

pub serve_timed-end-requires-sync-P : goal.serve_timed-end-requires-sync-P
serve_timed-end-requires-sync-P g _ κs = search (files_cross, sendable, crosses) depth 20
