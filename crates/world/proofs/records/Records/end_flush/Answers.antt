use Rattle.std.proofs.Common.{sym}
use Rattle.world.specs.Records.{traffic_of}
use Rattle.world.specs.Traffic.{flush_in, settled, told_behind}
use Rattle.world.proofs.Again.{put_back, settles_it, there_is}
use Rattle.world.proofs.records.Records.end_flush.Goals as goal

pub returns-in-Some-take_flush : goal.returns-in-Some-take_flush
returns-in-Some-take_flush c =
    settles_it (traffic_of c.args.self.now) c.args.n c.in-Some.session.now c.take_flush.new.self c.args.count c.args.is_done _ _
    (there_is c.args.self.now.sessions.items c.args.n c.in-Some.session.now c.in-Some.ensures.item.3.0 c.in-Some.ensures.item.1)
    (sym c.in-Some-take_flush.ensures.flush) c.settle.ensures

pub returns-in_default-take_flush : goal.returns-in_default-take_flush
returns-in_default-take_flush c =
    let t = traffic_of c.args.self.now in
    put_back t c.args.n c.in-Some.session.now c.take_flush.new.self (λ x. flush_in x.stage)
    (λ y f. settled c.args.count t c.args.n y f.job (told_behind c.args.is_done f.reply) f.place f.next c.args.is_done)
    (there_is c.args.self.now.sessions.items c.args.n c.in-Some.session.now c.in-Some.ensures.item.3.0 c.in-Some.ensures.item.1)
    (sym c.in_default-take_flush.ensures.flush) c.in_default-take_flush.ensures.none
