use Rattle.array_units.specs.Rows.{a_read_says}
use Rattle.array_units.proofs.any_unit.Seated.read.Goals as goal

pub returns : goal.returns
returns g c =
    record {
      shown = record { history = c.read.new.seat; legal = c.read.ensures.legal; row_is = c.read.ensures.row };
      before = _;
      begins = c.read.ensures.seen;
      read = a_read_says _ _ _ _;
    }
