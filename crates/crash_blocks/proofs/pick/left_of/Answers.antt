use Rattle.crash_blocks.proofs.ValuesLaws.{found_at}
use Rattle.crash_blocks.proofs.pick.left_of.Goals as goal

pub returns : goal.returns
returns c = λ size long lt fit.
    found_at c.args.pick _ c.args.k _ _ c.gone_through-written.result c.gone_through.result c.place.result
    (c.gone_through-written.ensures size long lt fit) c.place.ensures (c.gone_through.ensures size long lt fit)
