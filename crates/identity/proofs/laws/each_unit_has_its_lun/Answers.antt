use Rattle.std.proofs.Common.{inl}
use Rattle.identity.specs.Luns.{selected}
use Rattle.identity.proofs.LunList.{listed}
use Rattle.identity.proofs.laws.each_unit_has_its_lun.Goals as goal

pub returns : goal.returns
returns c = λ place select unit below. inl (listed (selected place select) unit below)
