use Rattle.reservations.proofs.EveryRequest.{untold}
use Rattle.reservations.proofs.laws.the_sender_is_not_told.Goals as goal

pub returns : goal.returns
returns c = λ r n q new told is. untold r n q new told is
