use Rattle.std.proofs.Common.{ap, sym, refl, map, ◌≡◌, ◌∙◌, true}
use Rattle.std.specs.String.{string_bytes}
use Rattle.clap.specs.Words.{App, app_of, fault_of, is_simple, is_simple_and_free, matches_of}
use Rattle.clap.proofs.OnLiterals.{clap_on_literals}
use Rattle.command_line.specs.Words.{arrayd}
use Rattle.command_line.proofs.words.matched.Goals as goal

simple : is_simple arrayd ≡ true
unfolding clap_on_literals
simple = refl

free : is_simple_and_free arrayd ≡ true
unfolding clap_on_literals
free = refl

pub returns-in-Ok-clause-ok : goal.returns-in-Ok-clause-ok
returns-in-Ok-clause-ok c =
    let is : app_of c.in_ok-command.command ≡ arrayd = c.in_ok-command.ensures in (
      (c.in-Ok.ensures.matches (ap is_simple is ∙ simple)).0 ∙ ap (λ (a : App). matches_of a (map string_bytes c.args.words.now)) is,
      ap (λ (a : App). fault_of a (map string_bytes c.args.words.now)) (sym is) ∙ c.in-Ok.ensures.kinds (ap is_simple_and_free is ∙ free),
    )
