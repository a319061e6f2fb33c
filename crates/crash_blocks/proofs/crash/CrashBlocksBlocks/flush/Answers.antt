use Rattle.std.proofs.Common.{rules, refl}
use Rattle.crash_blocks.specs.declared.event.Event.TheVariants.{Flush}
use Rattle.crash_blocks.specs.Moments.{elapsed_by, stands_by, on_ok, only_flushed}
use Rattle.crash_blocks.proofs.crash.CrashBlocksBlocks.flush.Goals as goal

pub returns-in_default-clause-time : goal.returns-in_default-clause-time
returns-in_default-clause-time c = λ h. stands_by _ _ _ _ _ refl (search rules)

pub returns-clause-time : goal.returns-clause-time
returns-clause-time c = λ h. elapsed_by _ _ _ _ _ Flush (search rules) (search rules)

pub returns-clause-durable : goal.returns-clause-durable
returns-clause-durable c = λ h. on_ok c.flush.result (only_flushed _ _ _ c.args.self.now.events.items c.push.new.self.items _ (search rules) (search rules) c.args.self.now.is)
