-- A BHS says one header.
use Rattle.std.proofs.Common.{◌≡◌, ℕ, List, arith}
use Rattle.iscsi_pdu.specs.Headers.{InitiatorHeader}
use Rattle.iscsi_pdu.specs.Headers.{TargetHeader}
use Rattle.iscsi_pdu.specs.Fields.{opcode_of, HasInitiatorFields, HasTargetFields}
use Rattle.iscsi_pdu.specs.Fault.{IsInitiatorOpcode, IsTargetOpcode}

pub one-initiator : (b : List ℕ) (h k : InitiatorHeader) → HasInitiatorFields b h → HasInitiatorFields b k → h ≡ k
one-initiator b h k x y = grind (arith, x, y)

pub initiator-opcode : (b : List ℕ) (h : InitiatorHeader) → HasInitiatorFields b h → IsInitiatorOpcode (opcode_of b)
initiator-opcode b h f = grind (arith, f)

pub one-target : (b : List ℕ) (h k : TargetHeader) → HasTargetFields b h → HasTargetFields b k → h ≡ k
one-target b h k x y = grind (arith, x, y)

pub target-opcode : (b : List ℕ) (h : TargetHeader) → HasTargetFields b h → IsTargetOpcode (opcode_of b)
target-opcode b h f = grind (arith, f)
