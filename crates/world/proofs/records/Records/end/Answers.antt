use Rattle.std.proofs.Common.{◌∙◌}
use Rattle.world.specs.Records.{traffic_of}
use Rattle.world.specs.Traffic.{lane_in}
use Rattle.world.specs.declared.session.Stage.TheVariants.{Ended}
use Rattle.world.proofs.Again.{went_on}
use Rattle.world.proofs.records.Records.end.Goals as goal

pub returns : goal.returns
returns c = c.turn.ensures ∙ went_on (traffic_of c.args.self.now) c.args.n (λ job. Ended job c.args.end) lane_in
