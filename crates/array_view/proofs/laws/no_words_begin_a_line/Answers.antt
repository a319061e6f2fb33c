-- What stands before the name is plain, whichever of the two it is.
use Rattle.std.proofs.Common.{refl}
use Rattle.std.specs.Prelude.{codes}
use Rattle.array_view.proofs.Plain.{heading}
use Rattle.array_view.proofs.laws.no_words_begin_a_line.Goals as goal

pub returns-clause-help : goal.returns-clause-help
returns-clause-help c = heading (codes "# HELP ") c.args.name.now c.args.words.now refl

pub returns-clause-kind : goal.returns-clause-kind
returns-clause-kind c = heading (codes "# TYPE ") c.args.name.now c.args.words.now refl
