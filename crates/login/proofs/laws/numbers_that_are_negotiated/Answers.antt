use Rattle.login.proofs.Agreed.{ranges, least, greatest}
use Rattle.login.proofs.laws.numbers_that_are_negotiated.Goals as goal

pub returns : goal.returns
returns c = record { range = ranges; least = least; greatest = greatest }
