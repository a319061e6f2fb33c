use Rattle.std.proofs.Common.{◌≡◌, ◌*◌, ◌<◌, ◌≤◌, ℕ, length, reverse, take, IsTrue}
use Rattle.block_file.specs.Cut.{cut}
use Rattle.crash_blocks.specs.Events.{runs_fit}
use Rattle.crash_blocks.specs.Values.{HasPast}
use Rattle.crash_blocks.proofs.pick.gone_through.Given as goal

abbrev pub invariant-loop-place : goal.invariant-loop-place
invariant-loop-place l = record {
  few : l.past.written ≤ l.place;
  past : (size : ℕ) → length l.start ≡ 512 * size → l.k < size → IsTrue (runs_fit size (reverse l.events))
      → HasPast (cut size l.start) (reverse (take l.place l.events)) l.k l.wanted l.past;
}
