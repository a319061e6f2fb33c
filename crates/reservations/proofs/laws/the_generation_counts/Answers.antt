use Rattle.reservations.proofs.EveryRequest.{counts}
use Rattle.reservations.proofs.laws.the_generation_counts.Goals as goal

pub returns : goal.returns
returns c = λ r n q new told is. counts r n q new told is
