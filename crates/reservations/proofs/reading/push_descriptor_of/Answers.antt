use Rattle.std.proofs.Common.{append_assoc}
use Rattle.reservations.specs.Reading.{descriptor_bytes}
use Rattle.reservations.proofs.reading.push_descriptor_of.Goals as goal

pub returns : goal.returns
unfolding descriptor_bytes
returns c =
    simp (
      c.in_ok-extend_from_slice-5.ensures.items,
      c.in_ok-extend_from_slice-4.ensures.items,
      c.in_ok-extend_from_slice-3.ensures.items,
      c.in_ok-extend_from_slice-2.ensures.items,
      c.in_ok-extend_from_slice.ensures.items,
      c.to_be_bytes.ensures,
      c.to_be_bytes-2.ensures,
      c.to_be_bytes-length.ensures,
      append_assoc,
    )
