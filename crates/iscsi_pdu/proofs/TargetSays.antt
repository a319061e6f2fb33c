-- The BHS that is written of a target's header says that header. The last clause stands for each other kind, and is checked at each.
use Rattle.std.proofs.Common.{ℕ}
use Rattle.iscsi_pdu.specs.Headers.{TargetHeader, NopIn}
use Rattle.iscsi_pdu.specs.Fields.{HasTargetFields}
use Rattle.iscsi_pdu.specs.Spelling.{target_bhs}
use Rattle.iscsi_pdu.specs.Range.{IsTargetInRange}
use Rattle.iscsi_pdu.proofs.Back.{backs, numbers-back, overflow-back, underflow-back}

ruleset targets = (backs, numbers-back, overflow-back, underflow-back)

pub target-says : (h : TargetHeader) (n : ℕ) → IsTargetInRange h → HasTargetFields (target_bhs h n) h
unfolding target_bhs
target-says (NopIn p) n r = search targets
target-says h n r = search targets
