use Rattle.std.proofs.Common.{ap, length, arith, length-append}
use Rattle.session_rules.specs.Words.{spelling, Target}
use Rattle.session_stream.proofs.outbox.append.Goals as goal

pub returns-clause-long : goal.returns-clause-long
returns-clause-long c =
    let grown = ap length c.in-Ok.ensures.ok in
    omega (
      arith,
      grown,
      length-append c.args.bytes.now.items (spelling (Target c.args.header) c.args.segment.now),
      c.in-Ok.ensures.size,
    )
