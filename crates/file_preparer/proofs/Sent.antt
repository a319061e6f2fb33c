-- Preparers of files may be held by several threads: their parts lie too deep for one search.
use denote.RattleType.{RattleType}
use denote.Param.Send.{IsSend, IsSync, recorded_send, recorded_sync, struct_send, struct_sync, sendable}
use denote.Struct.Declared.{shape}
use Rattle.std.proofs.Crossing.{crosses}
use Rattle.disk_files.proofs.Sent.{blocks_send, blocks_sync, flushes_send, named_send, named_sync}
use Rattle.disk_files.proofs.file_log.FileLog.TheSendSync.{the_send as file_log_send, the_sync as file_log_sync}
use Rattle.disk_files.proofs.flushes.Flushes.TheSendSync.{the_sync as flushes_sync}
use Rattle.disk_files.specs.declared.backing.BackingFile.{Ghosts as Backing}
use Rattle.disk_files.specs.declared.backing.Counted.{Ghosts as Counting}
use Rattle.file_preparer.proofs.backlog.Backlog.TheSendSync.{the_send as backlog_send, the_sync as backlog_sync}
use Rattle.file_preparer.specs.contracts.preparer.FilePreparer.{the_row as preparer_row, the_type as preparer_type}

pub preparer_send : (R F : RattleType) (b : Backing F.Denot) (c : Counting F.Denot) → IsSend R → IsSend F
    → IsSend (preparer_row R F b c)
preparer_send R F b c s t = recorded_send _ _ _ (preparer_type R F b c).to_one (struct_send (shape (preparer_type R F b c)) (
  search sendable,
  (
    search (sendable, crosses) depth 20,
    (
      search (sendable, crosses) depth 20,
      (
        search (file_log_send, sendable, crosses) depth 20,
        (
          search (flushes_send, flushes_sync, sendable, crosses) depth 20,
          (
            search (sendable, crosses) depth 20,
            (
              search (sendable, crosses) depth 20,
              (
                search (backlog_send, sendable, crosses) depth 20,
                (search (sendable, crosses) depth 20, (search (sendable, crosses) depth 20, tt)),
              ),
            ),
          ),
        ),
      ),
    ),
  ),
))

pub preparer_sync : (R F : RattleType) (b : Backing F.Denot) (c : Counting F.Denot) → IsSync R → IsSend F
    → IsSync (preparer_row R F b c)
preparer_sync R F b c s t = recorded_sync _ _ _ (preparer_type R F b c).to_one (struct_sync (shape (preparer_type R F b c)) (
  search sendable,
  (
    search (sendable, crosses) depth 20,
    (
      search (sendable, crosses) depth 20,
      (
        search (file_log_sync, sendable, crosses) depth 20,
        (
          search (flushes_send, flushes_sync, sendable, crosses) depth 20,
          (
            search (sendable, crosses) depth 20,
            (
              search (sendable, crosses) depth 20,
              (
                search (backlog_sync, sendable, crosses) depth 20,
                (search (sendable, crosses) depth 20, (search (sendable, crosses) depth 20, tt)),
              ),
            ),
          ),
        ),
      ),
    ),
  ),
))

-- With `sendable` and `crosses`, for search: of files as devices, and of their preparers.
pub ruleset files_cross = (tt, blocks_send, blocks_sync, named_send, named_sync, preparer_send, preparer_sync)
