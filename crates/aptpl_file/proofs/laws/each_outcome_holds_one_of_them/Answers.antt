use Rattle.aptpl_file.proofs.LastsLaws.{each_outcome_holds}
use Rattle.aptpl_file.proofs.laws.each_outcome_holds_one_of_them.Goals as goal

pub returns : goal.returns
returns g c = λ file records lasts.
    each_outcome_holds g.B.Blocks.size g.B.Blocks.may_hold file records lasts
