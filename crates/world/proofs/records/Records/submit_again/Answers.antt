use Rattle.std.proofs.Common.{sym}
use Rattle.world.specs.Records.{traffic_of}
use Rattle.world.proofs.Again.{sends_again, sends_none, there_is}
use Rattle.world.proofs.records.Records.submit_again.Goals as goal

pub returns-in-Some-take_returned : goal.returns-in-Some-take_returned
returns-in-Some-take_returned c =
    sends_again (traffic_of c.args.self.now) c.args.n c.in-Some.session.now c.take_returned.new.self c.args.way c.args.count
    c.args.is_late _ _ _
    (there_is c.args.self.now.sessions.items c.args.n c.in-Some.session.now c.in-Some.ensures.item.3.0 c.in-Some.ensures.item.1)
    (sym c.in-Some-take_returned.ensures.job) c.handed.ensures c.send.ensures

pub returns-in_default-take_returned : goal.returns-in_default-take_returned
returns-in_default-take_returned c =
    sends_none (traffic_of c.args.self.now) c.args.n c.in-Some.session.now c.take_returned.new.self c.args.way c.args.count
    c.args.is_late
    (there_is c.args.self.now.sessions.items c.args.n c.in-Some.session.now c.in-Some.ensures.item.3.0 c.in-Some.ensures.item.1)
    (sym c.in_default-take_returned.ensures.job) c.in_default-take_returned.ensures.none
