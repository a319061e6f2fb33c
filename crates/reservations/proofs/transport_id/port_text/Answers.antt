use Rattle.std.proofs.Common.{append_assoc}
use Rattle.reservations.specs.Reading.{port_text}
use Rattle.reservations.proofs.transport_id.port_text.Goals as goal

pub returns : goal.returns
unfolding port_text
returns c =
    simp (
      c.in_ok-push.ensures.items,
      c.in_ok-push_digits.ensures,
      c.in_ok-extend_from_slice.ensures.items,
      c.in_ok-text.ensures.items,
      c.name.ensures.name,
      c.to_be_bytes-isid.ensures,
      c.isid.ensures.isid,
      append_assoc,
    )
