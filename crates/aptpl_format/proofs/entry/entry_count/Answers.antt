use Rattle.std.proofs.Common.{arith}
use Rattle.aptpl_format.proofs.Entries.{as_few}
use Rattle.aptpl_format.proofs.entry.entry_count.Goals as goal

pub loop-k-init : goal.loop-k-init
loop-k-init c = record {
  total = omega arith;
  few = omega (arith, as_few c.args.version c.args.registrants.now, c.requires);
  small = omega arith;
}
