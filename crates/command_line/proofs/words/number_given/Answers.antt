use Rattle.std.specs.Str.Parse.{ExplainsUnsignedError, HasUnsignedDigitsIfOk, ParsesUnsigned}
use Rattle.clap.specs.Words.{found_of}
use Rattle.command_line.proofs.Given.{number_case}
use Rattle.command_line.proofs.words.number_given.Goals as goal

pub returns : goal.returns
returns c = number_case 32 (λ bs r. ParsesUnsigned 32 10 bs r × ExplainsUnsignedError 10 bs r × HasUnsignedDigitsIfOk bs r)
    (found_of c.args.matches.now) c.args.id.now c.get_one.result c.get_one.ensures.none c.get_one.ensures.value (λ u x g. g.0)
