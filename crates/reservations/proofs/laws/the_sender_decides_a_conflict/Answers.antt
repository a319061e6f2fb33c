use Rattle.reservations.proofs.EveryRequest.{by_the_sender}
use Rattle.reservations.proofs.laws.the_sender_decides_a_conflict.Goals as goal

pub returns : goal.returns
returns c = λ r n q registers is. by_the_sender r n q registers is
