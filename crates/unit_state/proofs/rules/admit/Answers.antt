use Rattle.std.proofs.Common.{sym, ◌∙◌}
use Rattle.unit_state.proofs.Order.{admitted, asks_something, refused_by}
use Rattle.unit_state.proofs.rules.admit.Goals as goal

pub returns-in-Some : goal.returns-in-Some
returns-in-Some c = refused_by _ _ _ (sym c.in-Some.is ∙ c.first_refusal.ensures)

pub returns : goal.returns
returns c = admitted _ _ _ _ _ (sym c.in_default.is ∙ c.first_refusal.ensures) c.in-Ok.is

pub unreachable-requires : goal.unreachable-requires
unreachable-requires c =
    asks_something c.args.control.now c.args.sender.session c.args.asked c.args.bytes.now c.in-Err.field-0
    (sym c.in_default.is ∙ c.first_refusal.ensures) c.in-Err.is
