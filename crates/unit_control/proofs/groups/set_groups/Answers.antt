use Rattle.std.proofs.lemmas.Grind.{common_steps, elements, pieces}
use Rattle.std.proofs.Common.{◌∙◌, ap, sym, arith, rules}
use Rattle.scsi_types.specs.ReplyValue.{good}
use Rattle.unit_control.proofs.Changes.{first_claims, set_served}
use Rattle.unit_control.proofs.groups.set_groups.Goals as goal

pub returns-in-Ok-change-clause-served : goal.returns-in-Ok-change-clause-served
returns-in-Ok-change-clause-served g c =
    set_served _ _ _ _ _ _ _ _ c.in-Ok.access _ (sym c.states_asked.ensures ∙ c.in-Ok.is) c.in-Ok-change.ensures.changed
    (λ h. c.in-Ok-change.ensures.contents (first_claims _ _ h)) (c.good.ensures ∙ ap good c.new.ensures.items)

pub returns-in-Ok-change-clause-stays : goal.returns-in-Ok-change-clause-stays
returns-in-Ok-change-clause-stays g c = search (pieces, arith) depth 5 fits 300

pub returns-in-Ok-change-clause-unopened : goal.returns-in-Ok-change-clause-unopened
returns-in-Ok-change-clause-unopened g c = grind (arith, common_steps, g.met.B.Blocks.fits, g.met.B.Blocks.summed, g.met.B.Blocks.bounded, g.met.B.Blocks.sized, g.met.B.Blocks.wide, g.met.B.Blocks.is_outcome, g.met.B.Blocks.counts_now, g.met.B.Blocks.only_now) steps 2000000

pub returns-in-Ok-change-clause-counted : goal.returns-in-Ok-change-clause-counted
returns-in-Ok-change-clause-counted g c = search rules

pub returns-in-Ok-change-clause-fine : goal.returns-in-Ok-change-clause-fine
returns-in-Ok-change-clause-fine g c = grind (arith, elements) steps 2000000

pub returns-in-Err-clause-stays : goal.returns-in-Err-clause-stays
returns-in-Err-clause-stays g c = grind (arith, common_steps, g.met.B.Blocks.fits, g.met.B.Blocks.summed, g.met.B.Blocks.bounded, g.met.B.Blocks.sized, g.met.B.Blocks.wide, g.met.B.Blocks.is_outcome, g.met.B.Blocks.counts_now, g.met.B.Blocks.only_now) steps 2000000

pub returns-in-Err-clause-served : goal.returns-in-Err-clause-served
returns-in-Err-clause-served g c = search (pieces, arith) depth 5 fits 300

pub returns-in-Err-clause-counted : goal.returns-in-Err-clause-counted
returns-in-Err-clause-counted g c = grind (arith, common_steps, g.met.B.Blocks.fits, g.met.B.Blocks.summed, g.met.B.Blocks.bounded, g.met.B.Blocks.sized, g.met.B.Blocks.wide, g.met.B.Blocks.is_outcome, g.met.B.Blocks.counts_now, g.met.B.Blocks.only_now) steps 2000000

pub returns-in-Err-clause-fine : goal.returns-in-Err-clause-fine
returns-in-Err-clause-fine g c = grind (arith, elements) steps 2000000
