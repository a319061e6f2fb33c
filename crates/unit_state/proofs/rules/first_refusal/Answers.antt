use Rattle.unit_control.specs.Refusal.{Request, request, attention_rule, opcode_rule, access_rule, conflict_rule, field_rule}
use Rattle.unit_state.proofs.Order.{in_order}
use Rattle.unit_state.proofs.rules.first_refusal.Goals as goal

pub returns : goal.returns
returns c =
    let r : Request = request c.args.sender.session c.args.asked.now c.args.bytes.now in
    let kind = c.kind_asked-kind.ensures in
    let of = c.args.control.now in
    rw (
      c.or-5.ensures,
      c.or-4.ensures,
      c.or-3.ensures,
      c.or-2.ensures,
      c.or.ensures,
      c.attention.ensures,
      c.opcode.ensures,
      c.access.ensures,
      c.conflict.ensures,
      c.field.ensures,
      c.own.ensures c.args.sender.session,
      kind,
    )
    (in_order (attention_rule of r) (opcode_rule of r) (access_rule of r) (conflict_rule of r) (field_rule of r) _)
