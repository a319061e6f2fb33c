use Rattle.attentions.proofs.Repeats.{at_most_five}
use Rattle.attentions.proofs.laws.at_most_five_wait.Goals as goal

pub returns : goal.returns
returns c = at_most_five
