-- The BHS that is written of an initiator's header says that header. The last clause stands for each other kind, and is checked at each.
use Rattle.std.proofs.Common.{ℕ}
use Rattle.iscsi_pdu.specs.Headers.{InitiatorHeader, NopOut}
use Rattle.iscsi_pdu.specs.Fields.{HasInitiatorFields}
use Rattle.iscsi_pdu.specs.Spelling.{initiator_bhs}
use Rattle.iscsi_pdu.specs.Range.{IsInitiatorInRange}
use Rattle.iscsi_pdu.proofs.Back.{backs, command_numbers-back, immediate-back, opcode-back}
use Rattle.iscsi_pdu.proofs.Back.{lone_immediate-back, lone_opcode-back, read-back, write-back, attribute-back}
use Rattle.iscsi_pdu.proofs.Back.{seven-back, text_last-back, text_continues-back}

ruleset initiators = (
  backs,
  command_numbers-back,
  immediate-back,
  opcode-back,
  lone_immediate-back,
  lone_opcode-back,
  read-back,
  write-back,
  attribute-back,
  seven-back,
  text_last-back,
  text_continues-back,
)

pub initiator-says : (h : InitiatorHeader) (n : ℕ) → IsInitiatorInRange h → HasInitiatorFields (initiator_bhs h n) h
unfolding initiator_bhs
initiator-says (NopOut p) n r = search initiators
initiator-says h n r = search initiators
