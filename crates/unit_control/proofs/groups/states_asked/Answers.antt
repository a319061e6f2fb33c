use Rattle.std.proofs.Common.{◌∙◌, refl, sym}
use Rattle.std.proofs.lemmas.List.{take_min}
use Rattle.unit_control.proofs.Changes.{set_is}
use Rattle.unit_control.proofs.groups.states_asked.Goals as goal

pub returns : goal.returns
returns c =
    set_is c.args.control.now c.args.list_length c.args.bytes.now _ (sym c.is_group_list.ensures
    ∙ c.if-not-is_group_list.false)
    (c.after.ensures ∙ rw (c.access.ensures, c.min-end.ensures, take_min c.args.list_length c.args.bytes.now) refl)
