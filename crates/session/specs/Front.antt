-- What stands at the front of bytes.
use Rattle.std.specs.Prelude.{◌≡◌, ◌<◌, ◌≤◌}
use Rattle.session_rules.specs.Words.{ℕ, List, length, take, IsPdu, Stands, PduFault, bhs_length}
use Rattle.iscsi_pdu.specs.declared.{header.Pdu.Pdu, TheConstants.LONGEST_PDU}
use Rattle.session_rules.specs.Ends.{NoneWhole}
use Rattle.session.specs.declared.front.Front.{Front, TheVariants.Whole, TheVariants.Faulty, TheVariants.Partial}

-- a PDU that the first bytes spell, with its basic header segment
pub record IsWhole (b bhs : List ℕ) (p : Pdu) (taken : ℕ) : Type 0 where
  pub bhs_is : bhs ≡ take bhs_length b
  pub within : taken ≤ length b
  pub spelled : IsPdu (take taken b) p.header p.«data».now

-- a fault, with its basic header segment
pub record IsFaulty (b bhs : List ℕ) (f : PduFault) : Type 0 where
  pub bhs_is : bhs ≡ take bhs_length b
  pub long : length bhs ≡ bhs_length
  pub stands : Stands b f

-- a PDU; a fault with its whole header segment; or neither, which is shorter than the longest PDU
abbrev pub IsFront : List ℕ → Front → Type 0
IsFront b (Whole bhs p taken) = IsWhole b bhs.now p taken
IsFront b (Faulty bhs f) = IsFaulty b bhs.now f
IsFront b Partial = NoneWhole b × (length b < LONGEST_PDU)
