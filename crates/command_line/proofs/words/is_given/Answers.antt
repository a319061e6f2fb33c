use Rattle.std.proofs.Common.{◌∙◌}
use Rattle.clap.specs.Words.{first_of, found_of, rows_of}
use Rattle.clap.proofs.WalkLemmas.{first_value-rows}
use Rattle.command_line.proofs.Given.{flag_case, no_flag}
use Rattle.command_line.proofs.words.is_given.Goals as goal

pub returns-in-Some : goal.returns-in-Some
returns-in-Some c = flag_case (first_of c.args.id.now (rows_of (found_of c.args.matches.now))) c.in-Some.text.now c.eq.result (c.in-Some.ensures ∙ first_value-rows (found_of c.args.matches.now) c.args.id.now) c.eq.ensures

pub returns-in-None : goal.returns-in-None
returns-in-None c = no_flag (first_of c.args.id.now (rows_of (found_of c.args.matches.now))) (c.in-None.ensures ∙ first_value-rows (found_of c.args.matches.now) c.args.id.now)
