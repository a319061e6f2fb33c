use Rattle.std.proofs.Common.{◌≡◌, ◌++◌, drop}
use Rattle.login.specs.Targets.{addresses}
use Rattle.login.proofs.targets.put_addresses.Given as goal

abbrev pub invariant-loop-portal : goal.invariant-loop-portal
invariant-loop-portal l = l.out.items ++ addresses l.tag (drop l.portal-index l.portals) ≡ l.initial.out.items
    ++ addresses l.tag l.portals
