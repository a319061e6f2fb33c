use Rattle.std.proofs.Common.{◌≡◌, ◌≤◌, length, map, take, vec_capacity}
use Rattle.portal.specs.Server.{named_by}
use Rattle.portal.proofs.server.named.Given as goal

abbrev pub invariant-loop-portal : goal.invariant-loop-portal
invariant-loop-portal l =
    (l.told.items ≡ map (named_by l.reached) (take l.portal-index l.portals))
    × (length l.portals ≤ vec_capacity l.told)
