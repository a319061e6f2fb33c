use Rattle.world.specs.Records.{traffic_of}
use Rattle.world.proofs.Again.{took_back, took_nothing}
use Rattle.world.proofs.records.Records.take_back.Goals as goal

pub returns : goal.returns
returns c =
    took_back (traffic_of c.args.self.now) c.args.n c.in-Some.session.now c.in-Some-waits_at.group c.in-Some.ensures
    c.in-Some-index_of.at _ _ c.in-Some-waits_at.ensures c.in-Some-index_of.ensures.there c.take_at.ensures c.to_lane.ensures

pub returns-in_default-index_of : goal.returns-in_default-index_of
returns-in_default-index_of c =
    took_nothing (traffic_of c.args.self.now) c.args.n c.in-Some.session.now c.in-Some-waits_at.group c.in-Some.ensures
    c.in-Some-waits_at.ensures c.in_default-index_of.ensures.nowhere
