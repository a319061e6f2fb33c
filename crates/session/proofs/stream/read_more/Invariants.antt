use Rattle.std.proofs.Common.{◌≡◌}
use Rattle.std.specs.Io.KnownBytes.{Keeps}
use Rattle.session.proofs.stream.read_more.Given as goal

abbrev pub invariant-loop : goal.invariant-loop
invariant-loop g l = record {
  inbox : l.inbox ≡ l.fn.inbox;
  outbox : l.outbox ≡ l.fn.outbox;
  phases : l.phases ≡ l.fn.phases;
  kept : Keeps (g.S.Source.left l.fn.source) (g.S.Source.left l.source);
  served : g.S.Source.failures l.source ≡ g.S.Source.failures l.fn.source;
}
