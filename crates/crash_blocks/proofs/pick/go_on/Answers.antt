use Rattle.std.proofs.Common.{refl, sym}
use Rattle.crash_blocks.proofs.ValuesLaws.{write_more}
use Rattle.crash_blocks.proofs.pick.go_on.Goals as goal

pub returns-in-Write-clause-past : goal.returns-in-Write-clause-past
returns-in-Write-clause-past c =
    write_more c.args.event.now c.in-Write.first _ c.deref.result.now c.args.k c.args.wanted c.args.past.now c.write_on.new.past c.in-Write.is c.deref.ensures.value c.write_on.ensures.past
