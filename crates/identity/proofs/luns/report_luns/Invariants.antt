use Rattle.std.proofs.Common.{◌≡◌, ◌*◌, ◌-◌, ◌≤◌, ◌++◌, replicate}
use Rattle.identity.specs.Table.{spell}
use Rattle.identity.specs.Luns.{luns_below}
use Rattle.identity.proofs.LunList.{head}
use Rattle.identity.proofs.luns.report_luns.Given as goal

abbrev pub invariant-loop-unit : goal.invariant-loop-unit
invariant-loop-unit l =
    (l.unit ≤ l.units) × (l.list ≡ head l.units ++ spell (luns_below l.unit) ++ replicate (8 * (255 - l.unit)) 0)
