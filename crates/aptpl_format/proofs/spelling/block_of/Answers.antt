use Rattle.std.proofs.Common.{◌∙◌}
use Rattle.aptpl_format.proofs.Padding.{put_first}
use Rattle.aptpl_format.proofs.spelling.block_of.Goals as goal

pub returns : goal.returns
returns c = c.put.ensures ∙ put_first 512 c.args.bytes.now
