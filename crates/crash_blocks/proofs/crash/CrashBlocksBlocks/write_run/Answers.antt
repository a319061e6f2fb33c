use Rattle.std.proofs.Common.{rules, refl}
use Rattle.crash_blocks.specs.Moments.{elapsed_by, stands_by, adds_event}
use Rattle.crash_blocks.proofs.crash.CrashBlocksBlocks.write_run.Goals as goal

pub returns-in_default-push-clause-time : goal.returns-in_default-push-clause-time
returns-in_default-push-clause-time c = λ h. stands_by _ _ _ _ _ refl (search rules)

pub returns-clause-time : goal.returns-clause-time
returns-clause-time c = λ h. elapsed_by _ _ _ c.args.self.now.events.items _ c.in-Ok.event c.write_run.ensures.size (search rules)

pub returns-clause-crash : goal.returns-clause-crash
returns-clause-crash c = λ h. adds_event c.args.self.now.inner.count c.write_run.new.self.count c.args.self.now.start.items c.args.self.now.events.items c.push.new.self.items c.in-Ok.event c.args.first c.args.bytes.now c.write_run.ensures.size (search rules) c.in-Ok.ensures
