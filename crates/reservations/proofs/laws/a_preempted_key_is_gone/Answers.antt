use Rattle.reservations.proofs.EveryRequest.{key_gone}
use Rattle.reservations.proofs.laws.a_preempted_key_is_gone.Goals as goal

pub returns : goal.returns
returns c = λ r n q new told m preempts asked is k. key_gone r n q new told preempts asked is m k
