use Rattle.std.proofs.Common.{◌∙◌}
use Rattle.world.specs.Records.{traffic_of}
use Rattle.world.specs.Traffic.{ended_in}
use Rattle.world.specs.declared.session.Stage.TheVariants.{Answered}
use Rattle.world.proofs.Again.{went_on}
use Rattle.world.proofs.records.Records.post.Goals as goal

pub returns : goal.returns
returns c = c.turn.ensures ∙ went_on (traffic_of c.args.self.now) c.args.n (λ a. Answered a.0 a.1) ended_in
