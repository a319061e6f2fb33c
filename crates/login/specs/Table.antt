-- The keys of a login (RFC 7143, 13), a row each: its name, the rule by which its value is found, and its default.
use Rattle.std.specs.Prelude.{ℕ, Bool, true, false, bytes_eq, codes, find, List, [], ◌∷◌, Option, Some, None, unwrap_or}
use Rattle.login.specs.Text.{Pair, found}
use Rattle.login.specs.Value.{agreed}
use Rattle.login.specs.declared.key.Key.{Key}
use Rattle.login.specs.declared.key.Key.TheVariants as Of
use Rattle.login.specs.declared.value.Word.TheVariants.{Unused, Rfc3720}
use Rattle.login.specs.declared.value.Limits.{Limits}
use Rattle.login.specs.declared.value.Rule.{Rule}
use Rattle.login.specs.declared.value.Rule.TheVariants.{Least, Greatest, Declared, Either, Both, Listed, Kept, Refused}
use Rattle.login.specs.declared.value.Value.{Value}
use Rattle.login.specs.declared.value.Value.TheVariants.{Number, Flag, Word, Unset}

pub record KeyRule : Type 0 where
  pub name : List ℕ
  pub rule : Rule
  pub default : Value

-- a key whose value is a number from `low` to `high`, of which the target offers `own`
abbrev pub limits : ℕ → ℕ → ℕ → Limits
limits low high own = record { low = low; high = high; own = own }

-- the most bytes of a data segment that the target takes: what it declares (13.12)
abbrev pub own_data_segment : ℕ
own_data_segment = 65536

abbrev pub row : List ℕ → Rule → Value → KeyRule
row name rule default = record { name = name; rule = rule; default = default }

-- A list of words is agreed on where the target's word is in it. A number has its range and the target's own offer; a
-- boolean has the target's own offer. The own length of a data segment is said by the target in stage 1.
abbrev pub row_of : Key → KeyRule
row_of Of.AuthMethod = row (codes "AuthMethod") (Listed Unused) Unset
row_of Of.HeaderDigest = row (codes "HeaderDigest") (Listed Unused) (Word Unused)
row_of Of.DataDigest = row (codes "DataDigest") (Listed Unused) (Word Unused)
row_of Of.InitialR2T = row (codes "InitialR2T") (Either true) (Flag true)
row_of Of.ImmediateData = row (codes "ImmediateData") (Both true) (Flag true)
row_of Of.MaxBurstLength = row (codes "MaxBurstLength") (Least (limits 512 16777215 262144)) (Number 262144)
row_of Of.FirstBurstLength = row (codes "FirstBurstLength") (Least (limits 512 16777215 65536)) (Number 65536)
row_of Of.MaxRecvDataSegmentLength =
    row (codes "MaxRecvDataSegmentLength") (Declared (limits 512 16777215 own_data_segment)) (Number 8192)
row_of Of.MaxConnections = row (codes "MaxConnections") (Least (limits 1 65535 1)) (Number 1)
row_of Of.MaxOutstandingR2T = row (codes "MaxOutstandingR2T") (Least (limits 1 65535 1)) (Number 1)
row_of Of.DefaultTime2Wait = row (codes "DefaultTime2Wait") (Greatest (limits 0 3600 2)) (Number 2)
row_of Of.DefaultTime2Retain = row (codes "DefaultTime2Retain") (Least (limits 0 3600 0)) (Number 20)
row_of Of.DataPDUInOrder = row (codes "DataPDUInOrder") (Either true) (Flag true)
row_of Of.DataSequenceInOrder = row (codes "DataSequenceInOrder") (Either true) (Flag true)
row_of Of.ErrorRecoveryLevel = row (codes "ErrorRecoveryLevel") (Least (limits 0 2 0)) (Number 0)
row_of Of.TaskReporting = row (codes "TaskReporting") (Listed Rfc3720) (Word Rfc3720)
row_of Of.IFMarker = row (codes "IFMarker") (Both false) (Flag false)
row_of Of.OFMarker = row (codes "OFMarker") (Both false) (Flag false)
row_of Of.IFMarkInt = row (codes "IFMarkInt") Refused Unset
row_of Of.OFMarkInt = row (codes "OFMarkInt") Refused Unset
row_of Of.InitiatorName = row (codes "InitiatorName") Kept Unset
row_of Of.InitiatorAlias = row (codes "InitiatorAlias") Kept Unset
row_of Of.TargetName = row (codes "TargetName") Kept Unset
row_of Of.SessionType = row (codes "SessionType") Kept Unset
row_of Of.TargetPortalGroupTag = row (codes "TargetPortalGroupTag") Kept Unset

abbrev pub keys : List Key
keys =
    Of.AuthMethod ∷ Of.HeaderDigest ∷ Of.DataDigest ∷ Of.InitialR2T ∷ Of.ImmediateData ∷ Of.MaxBurstLength
    ∷ Of.FirstBurstLength ∷ Of.MaxRecvDataSegmentLength ∷ Of.MaxConnections ∷ Of.MaxOutstandingR2T
    ∷ Of.DefaultTime2Wait ∷ Of.DefaultTime2Retain
    ∷ Of.DataPDUInOrder ∷ Of.DataSequenceInOrder ∷ Of.ErrorRecoveryLevel ∷ Of.TaskReporting ∷ Of.IFMarker ∷ Of.OFMarker
    ∷ Of.IFMarkInt ∷ Of.OFMarkInt ∷ Of.InitiatorName ∷ Of.InitiatorAlias ∷ Of.TargetName ∷ Of.SessionType
    ∷ Of.TargetPortalGroupTag ∷ []

abbrev pub has_name : List ℕ → Key → Bool
has_name name key = bytes_eq (row_of key).name name

-- the key of this name, if it is known
unfoldable pub key_named : List ℕ → Option Key
key_named name = find (has_name name) keys

-- The value of a key that is in force after these pairs: the agreed one, or the default where the key was not
-- offered, or was offered with a value that is not of its form or out of its range.
abbrev pub value_after : KeyRule → Option (List ℕ) → Value
value_after r None = r.default
value_after r (Some value) = unwrap_or (agreed r.rule value) r.default

unfoldable pub in_force : Key → List Pair → Value
in_force key ps = value_after (row_of key) (found (row_of key).name ps)
