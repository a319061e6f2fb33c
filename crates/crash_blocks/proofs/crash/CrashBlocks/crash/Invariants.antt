use Rattle.std.proofs.Common.{◌≡◌, ◌*◌, ◌<◌, ℕ, length, reverse, IsTrue}
use Rattle.block_file.specs.Cut.{cut}
use Rattle.block_file.specs.Disk.{block_at}
use Rattle.crash_blocks.specs.Events.{runs_fit}
use Rattle.crash_blocks.specs.Values.{picked_of, values_of}
use Rattle.crash_blocks.proofs.crash.CrashBlocks.crash.Given as goal

abbrev pub invariant-loop-k : goal.invariant-loop-k
invariant-loop-k l = record {
  size : l.inner.count ≡ l.fn.self.inner.count;
  picked : (j : ℕ) → j < l.k → block_at (cut l.inner.count l.inner.bytes.items) j
      ≡ picked_of l.pick (values_of (cut l.fn.self.inner.count l.start.items) (reverse l.events.items) j) j;
}
