use Rattle.std.proofs.lemmas.Grind.{common_steps}
use Rattle.std.proofs.Common.{inr, arith}
use Rattle.disk_files.proofs.blocks.FileBlocksBlocks.read_into.Goals as goal

pub returns-then-holds_now-clause-said : goal.returns-then-holds_now-clause-said
returns-then-holds_now-clause-said g c =
    inr (c.holds_now.ensures.behind c.if-holds_now.true, c.holds_now.ensures.read c.if-holds_now.true)

pub returns-clause-many : goal.returns-clause-many
returns-clause-many g c = grind (arith, common_steps) steps 4000000

pub returns-clause-said : goal.returns-clause-said
returns-clause-said g c = grind (arith, common_steps) steps 4000000

pub returns-clause-read : goal.returns-clause-read
returns-clause-read g c = grind (arith, common_steps) steps 4000000
