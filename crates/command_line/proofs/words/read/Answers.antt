use Rattle.std.proofs.Common.{sym, subst, List}
use Rattle.std.proofs.lemmas.Result.{IfOk-weaker}
use Rattle.clap.specs.Words.{Row, found_of, rows_of}
use Rattle.command_line.specs.Words.{Gives, meaning_of}
use Rattle.command_line.specs.declared.words.Options.{Options}
use Rattle.command_line.proofs.words.read.Goals as goal

pub returns-clause-asked : goal.returns-clause-asked
returns-clause-asked c = IfOk-weaker _ _ _ (λ (options : Options) (given : Gives (rows_of (found_of c.in_ok-matches.matches)) (meaning_of options)). record {
  parsed = c.in_ok-matches.ensures.ok.1;
  given = subst (λ (found : List Row). Gives found (meaning_of options)) c.in_ok-matches.ensures.ok.0 given;
}) c.options_in.ensures.asked

pub returns-clause-wrong : goal.returns-clause-wrong
returns-clause-wrong c = λ is m asks. c.options_in.ensures.wrong is m
    (subst (λ (found : List Row). Gives found m) (sym c.in_ok-matches.ensures.ok.0) asks.given)
