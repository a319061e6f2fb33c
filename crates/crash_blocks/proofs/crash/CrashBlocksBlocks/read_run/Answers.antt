use Rattle.std.proofs.Common.{rules, refl}
use Rattle.crash_blocks.specs.Moments.{stands_by}
use Rattle.crash_blocks.proofs.crash.CrashBlocksBlocks.read_run.Goals as goal

pub returns-clause-time : goal.returns-clause-time
returns-clause-time c = λ h. stands_by _ _ _ _ _ (search rules) refl
