use Rattle.std.proofs.Common.{◌∙◌}
use Rattle.world.specs.Records.{traffic_of}
use Rattle.world.specs.Traffic.{waits_in}
use Rattle.world.specs.declared.session.Stage.TheVariants.{InLane}
use Rattle.world.proofs.Again.{went_on}
use Rattle.world.proofs.records.Records.to_lane.Goals as goal

pub returns : goal.returns
returns c = c.turn.ensures ∙ went_on (traffic_of c.args.self.now) c.args.n (λ job. InLane job) waits_in
