use Rattle.std.proofs.Common.{ap, ap₂, ◌≡◌, ◌∙◌}
use Rattle.std.specs.Prelude.{Some}
use Rattle.std.proofs.lemmas.Result.{IfOk-weaker}
use Rattle.clap.specs.declared.builder.command.Command.{Command}
use Rattle.clap.specs.Words.{AddsArg, rule_of, with_rule}
use Rattle.clap.specs.declared.builder.value_parser.ValueParser.{ValueParser}
use Rattle.command_line.specs.Words.{port, portals}
use Rattle.command_line.proofs.words.command.Goals as goal

pub returns : goal.returns
returns c =
    let port_is : rule_of c.number.result ≡ port = c.number.ensures.rule ∙ ap (λ (p : ValueParser). record port { parser = Some p }) c.ports.ensures in
    let portals_is : rule_of c.number-2.result ≡ portals = c.number-2.ensures.rule ∙ ap (λ (p : ValueParser). record portals { parser = Some p }) c.counts.ensures in
    let s1 = c.in_ok-arg.ensures.shape c.option.ensures.local ∙ ap₂ with_rule c.in_ok-array_command.ensures c.option.ensures.rule in
    let s2 = c.in_ok-arg-2.ensures.shape c.number.ensures.local ∙ ap₂ with_rule s1 port_is in
    let s3 = c.in_ok-arg-3.ensures.shape c.number-2.ensures.local ∙ ap₂ with_rule s2 portals_is in
    IfOk-weaker _ _ _ (λ (command : Command) (h : AddsArg c.in_ok-arg-3.field-0 c.rest.result command). h.shape c.rest.ensures.local ∙ ap₂ with_rule s3 c.rest.ensures.rule) c.arg-4.ensures
