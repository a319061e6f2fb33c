use Rattle.std.proofs.Common.{ap, ap₂, ◌≡◌, ◌∙◌}
use Rattle.std.specs.Prelude.{Some}
use Rattle.std.proofs.lemmas.Result.{IfOk-weaker}
use Rattle.clap.specs.declared.builder.command.Command.{Command}
use Rattle.clap.specs.Words.{AddsArg, rule_of, with_rule}
use Rattle.clap.specs.declared.builder.value_parser.ValueParser.{ValueParser}
use Rattle.command_line.specs.Words.{array}
use Rattle.command_line.proofs.words.array_command.Goals as goal

pub returns : goal.returns
returns c =
    let array_is : rule_of c.number.result ≡ array = c.number.ensures.rule ∙ ap (λ (p : ValueParser). record array { parser = Some p }) c.arrays.ensures in
    let s1 = c.in_ok-arg.ensures.shape c.flag.ensures.local ∙ ap₂ with_rule c.new.ensures.app c.flag.ensures.rule in
    let s2 = c.in_ok-arg-2.ensures.shape c.option.ensures.local ∙ ap₂ with_rule s1 c.option.ensures.rule in
    IfOk-weaker _ _ _ (λ (command : Command) (h : AddsArg c.in_ok-arg-2.field-0 c.number.result command). h.shape c.number.ensures.local ∙ ap₂ with_rule s2 array_is) c.arg-3.ensures
