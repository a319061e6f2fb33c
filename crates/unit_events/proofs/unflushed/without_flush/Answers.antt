use Rattle.std.proofs.Common.{rules}
use Rattle.unit_events.specs.Flushes.{writes, compares, synchronizes}
use Rattle.unit_events.proofs.unflushed.without_flush.Goals as goal

pub returns-in-Ok-Write-default-default-true : goal.returns-in-Ok-Write-default-default-true
returns-in-Ok-Write-default-default-true c =
    let k = c.in-Ok-Write-default-default-true in (writes k.lba k.blocks, search rules, search rules)

pub returns-in-Ok-CompareAndWrite-default-default-true :
    goal.returns-in-Ok-CompareAndWrite-default-default-true
returns-in-Ok-CompareAndWrite-default-default-true c =
    let k = c.in-Ok-CompareAndWrite-default-default-true in (compares k.lba k.blocks, search rules, search rules)

pub returns-in_ok-last-in-Ok-SynchronizeCache : goal.returns-in_ok-last-in-Ok-SynchronizeCache
returns-in_ok-last-in-Ok-SynchronizeCache c =
    let k = c.in-Ok-SynchronizeCache in (synchronizes k.lba k.blocks, search rules, search rules)
