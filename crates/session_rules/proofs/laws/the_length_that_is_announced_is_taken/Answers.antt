use Rattle.std.proofs.Common.{refl}
use Rattle.session_rules.proofs.Announced.{taken}
use Rattle.session_rules.proofs.laws.the_length_that_is_announced_is_taken.Goals as goal

pub returns : goal.returns
returns c = record { announced = refl; taken = taken; no_less = λ b s. s.3 }
