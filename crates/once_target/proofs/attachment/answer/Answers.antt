use Rattle.std.proofs.Common.{◌≡◌, Some, rules}
use Rattle.once_target.proofs.Owners.{numbered}
use Rattle.once_target.proofs.attachment.answer.Goals as goal

pub returns-in-Reply : goal.returns-in-Reply
returns-in-Reply g c =
    let is : c.args.number ≡ Some 0 = search rules in (
      is,
      c.in-Reply.ensures.0,
      c.in-Reply.ensures.1,
      numbered _ _ _ _ _ _ _ _ is c.in-Reply.ensures.2,
    )
