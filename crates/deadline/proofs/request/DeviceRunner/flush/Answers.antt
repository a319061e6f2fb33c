use Rattle.std.proofs.Common.{refl, rules}
use Rattle.deadline.proofs.Given.{settled_with_fewer}
use Rattle.deadline.proofs.request.DeviceRunner.flush.Goals as goal

pub returns-in-Ok : goal.returns-in-Ok
returns-in-Ok g c =
    let device = c.args.self.now.blocks in
    λ t. record {
      before = device;
      after = c.flush_of.new.self;
      over = refl;
      sound = c.in-Ok.ensures.sound;
      settled = settled_with_fewer _ _ _ (search rules) c.in-Ok.ensures.lasts;
      lasts = c.in-Ok.ensures.durable;
    }
