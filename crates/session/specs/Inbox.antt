-- What one read puts behind the bytes that wait.
use Rattle.std.specs.Io.KnownBytes.{Consumes, IsAtEnd}
use Rattle.std.specs.Prelude.{◌≡◌, ◌≤◌, ◌++◌}
use Rattle.session_rules.specs.Words.{ℕ, List, length, Option}
use Rattle.iscsi_pdu.specs.declared.TheConstants.{LONGEST_PDU}
use Rattle.session.specs.declared.inbox.TheConstants.{INBOX_CAPACITY}

-- n bytes more wait, which the source gave; none come only at its end
pub record Filled (left left' : Option (List ℕ)) (old new : List ℕ) (n : ℕ) : Type 0 where
  pub more : List ℕ
  pub grown : new ≡ old ++ more
  pub count : length more ≡ n
  pub read : Consumes left left' more
  pub end : n ≡ 0 → IsAtEnd left'

-- where the bytes that wait lie in the memory, which has room for a PDU at least
pub record Waits (start filled : ℕ) (memory : List ℕ) : Type 0 where
  pub order : start ≤ filled
  pub within : filled ≤ length memory
  pub least : LONGEST_PDU ≤ length memory
  pub most : length memory ≤ INBOX_CAPACITY
