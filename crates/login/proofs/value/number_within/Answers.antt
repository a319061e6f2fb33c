use Rattle.std.proofs.Common.{sym, ◌∙◌}
use Rattle.login.specs.Number.{number_within, number_in}
use Rattle.login.proofs.Numbers.{raised, raised_below, raised_none}
use Rattle.login.proofs.value.number_within.Goals as goal

pub returns-in-Some : goal.returns-in-Some
unfolding number_within
returns-in-Some c =
    sym (raised c.args.limits.low c.args.limits.high c.in-Some.number (number_in c.args.value.now)
    (sym c.number_at_most.ensures ∙ c.in-Some.is) c.if-limits-number.true)

pub returns-in_default : goal.returns-in_default
unfolding number_within
returns-in_default c =
    sym (raised_below c.args.limits.low c.args.limits.high c.in-Some.number (number_in c.args.value.now)
    (sym c.number_at_most.ensures ∙ c.in-Some.is) c.if-limits-number.false)

pub returns-in_default-2 : goal.returns-in_default-2
unfolding number_within
returns-in_default-2 c =
    sym (raised_none c.args.limits.low c.args.limits.high (number_in c.args.value.now) (sym c.number_at_most.ensures
    ∙ c.in_default.is))
