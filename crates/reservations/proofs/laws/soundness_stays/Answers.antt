use Rattle.reservations.proofs.Sound.{effect_sound}
use Rattle.reservations.proofs.laws.soundness_stays.Goals as goal

pub returns : goal.returns
returns c = λ r n q new told is sound. effect_sound r n q new told is sound
