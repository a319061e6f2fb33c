use Rattle.std.proofs.Common.{sym}
use Rattle.world.specs.Records.{traffic_of}
use Rattle.world.specs.Traffic.{answered_in, heard}
use Rattle.world.proofs.Again.{hears_it, put_back, there_is}
use Rattle.world.proofs.records.Records.collect.Goals as goal

pub returns-in-Some-take_answered : goal.returns-in-Some-take_answered
returns-in-Some-take_answered c =
    hears_it (traffic_of c.args.self.now) c.args.n c.in-Some.session.now c.take_answered.new.self
    (λ x. answered_in x.stage) c.args.count _ _ _ (there_is c.args.self.now.sessions.items c.args.n c.in-Some.session.now c.in-Some.ensures.item.3.0 c.in-Some.ensures.item.1) (sym c.in-Some-take_answered.ensures.job)
    c.hear.ensures

pub returns-in_default-take_answered : goal.returns-in_default-take_answered
returns-in_default-take_answered c =
    let t = traffic_of c.args.self.now in
    put_back t c.args.n c.in-Some.session.now c.take_answered.new.self (λ x. answered_in x.stage)
    (λ y a. heard c.args.count t c.args.n y a.0 a.1) (there_is c.args.self.now.sessions.items c.args.n c.in-Some.session.now c.in-Some.ensures.item.3.0 c.in-Some.ensures.item.1)
    (sym c.in_default-take_answered.ensures.job) c.in_default-take_answered.ensures.none
