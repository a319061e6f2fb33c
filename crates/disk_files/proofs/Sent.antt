-- Devices over files may be held by several threads: their parts lie too deep for one search.
use denote.RattleType.{RattleType}
use denote.Param.Send.{IsSend, IsSync, recorded_send, recorded_sync, struct_send, struct_sync, sendable}
use denote.Struct.Declared.{shape}
use denote.Struct.Struct.{Struct}
use Rattle.std.proofs.Crossing.{crosses}
use Rattle.std.specs.declared.fs.File.{File}
use Rattle.std.specs.declared.io.traits.Read.{Ghosts as Reading}
use Rattle.std.specs.declared.io.traits.Seek.{Ghosts as Seeking}
use Rattle.std.specs.declared.io.traits.Write.{Ghosts as Writing}
use Rattle.disk_files.proofs.file_log.FileLog.TheSendSync.{the_send as file_log_send, the_sync as file_log_sync}
use Rattle.disk_files.proofs.flushes.Flushes.TheSendSync.{the_sync as flushes_sync}
use Rattle.disk_files.specs.contracts.blocks.FileBlocks.{the_row as blocks_row, the_type as blocks_type}
use Rattle.disk_files.specs.contracts.flushes.Flushes.{the_row as flushes_row, the_type as flushes_type}
use Rattle.disk_files.specs.contracts.named.NamedBlocks.{the_row as named_row, the_type as named_type}
use Rattle.disk_files.specs.contracts.system.SystemFile.{the_row as system_row}
use Rattle.disk_files.specs.contracts.system.SystemFileBackingFile.TheImpl.{ghosts as backing}
use Rattle.disk_files.specs.contracts.system.SystemFileCounted.TheImpl.{ghosts as counted}
use Rattle.disk_files.specs.declared.backing.BackingFile.{Ghosts as Backing}
use Rattle.disk_files.specs.declared.backing.Counted.{Ghosts as Counting}

pub flushes_send : (F : RattleType) (b : Backing F.Denot) (c : Counting F.Denot) → IsSend F → IsSend (flushes_row F b c)
flushes_send F b c s = recorded_send _ _ _ (flushes_type F b c).to_one (struct_send (shape (flushes_type F b c)) (
  search (sendable, crosses) depth 20,
  (
    search (sendable, crosses) depth 20,
    (
      search (sendable, crosses) depth 20,
      (
        search (sendable, crosses) depth 20,
        (search (sendable, crosses) depth 20, (search (sendable, crosses) depth 20, tt)),
      ),
    ),
  ),
))

system_send : IsSend system_row
system_send = search (sendable, crosses) depth 20

system_sync : IsSync system_row
system_sync = search (sendable, crosses) depth 20

blocks_parts : (F : RattleType) (b : Backing F.Denot) (c : Counting F.Denot) → IsSend F
    → IsSend (Struct (shape (blocks_type F b c)))
blocks_parts F b c s = struct_send (shape (blocks_type F b c)) (
  search sendable,
  (
    search (sendable, crosses) depth 20,
    (
      search (sendable, crosses) depth 20,
      (
        search (sendable, crosses) depth 20,
        (
          search (flushes_send, flushes_sync, sendable, crosses) depth 20,
          (search (file_log_send, sendable, crosses) depth 20, tt),
        ),
      ),
    ),
  ),
)

blocks_shared : (F : RattleType) (b : Backing F.Denot) (c : Counting F.Denot) → IsSend F → IsSync F
    → IsSync (Struct (shape (blocks_type F b c)))
blocks_shared F b c s y = struct_sync (shape (blocks_type F b c)) (
  search sendable,
  (
    search (sendable, crosses) depth 20,
    (
      search (sendable, crosses) depth 20,
      (
        search (sendable, crosses) depth 20,
        (
          search (flushes_send, flushes_sync, sendable, crosses) depth 20,
          (search (file_log_sync, sendable, crosses) depth 20, tt),
        ),
      ),
    ),
  ),
)

pub blocks_send : (F : RattleType) (b : Backing F.Denot) (c : Counting F.Denot) → IsSend F → IsSend (blocks_row F b c)
blocks_send F b c s = recorded_send _ _ _ (blocks_type F b c).to_one (blocks_parts F b c s)

pub blocks_sync : (F : RattleType) (b : Backing F.Denot) (c : Counting F.Denot) → IsSend F → IsSync F → IsSync (blocks_row F b c)
blocks_sync F b c s y = recorded_sync _ _ _ (blocks_type F b c).to_one (blocks_shared F b c s y)

pub named_send : (R H : RattleType) (r : Reading File) (w : Writing File) (k : Seeking File) (h : Reading H.Denot) → IsSend R
    → IsSend (named_row R H r w k h)
named_send R H r w k h s = recorded_send _ _ _ (named_type R H r w k h).to_one (struct_send (shape (named_type R H r w k h)) (
  search sendable,
  (
    blocks_parts system_row backing counted system_send,
    (
      search (sendable, crosses) depth 20,
      (search (sendable, crosses) depth 20, (search sendable, tt)),
    ),
  ),
))

pub named_sync : (R H : RattleType) (r : Reading File) (w : Writing File) (k : Seeking File) (h : Reading H.Denot) → IsSync R
    → IsSync (named_row R H r w k h)
named_sync R H r w k h s = recorded_sync _ _ _ (named_type R H r w k h).to_one (struct_sync (shape (named_type R H r w k h)) (
  search sendable,
  (
    blocks_shared system_row backing counted system_send system_sync,
    (
      search (sendable, crosses) depth 20,
      (search (sendable, crosses) depth 20, (search sendable, tt)),
    ),
  ),
))

-- With `sendable` and `crosses`, for search.
pub ruleset files_cross = (tt, blocks_send, blocks_sync, named_send, named_sync)
