use Rattle.std.proofs.Common.{◌≡◌, ◌≤◌, length, take}
use Rattle.std.specs.Io.KnownBytes.{Appends}
use Rattle.session.proofs.watched.WatchedSink.write_whole.Given as goal

abbrev pub invariant-loop : goal.invariant-loop
invariant-loop g l = record {
  in_range : l.sent ≤ length l.bytes;
  written : Appends (g.W.Write.contents l.fn.self.inner) (g.W.Write.contents l.self-inside.inner) (take l.sent l.bytes);
  count : l.self-inside.failed ≡ l.fn.self.failed;
}
