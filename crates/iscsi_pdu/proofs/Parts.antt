-- The length of the data segment and the additional segment in the BHS that is written of a header.
use Rattle.std.proofs.Common.{◌≡◌, ℕ, ◌^◌, ◌<◌, List, ◌++◌, length, drop, ap, ◌∙◌, arith}
use Rattle.std.specs.Prelude.{slice_index}
use Rattle.byteorder.specs.Endian.{big_number, big_bytes}
use Rattle.byteorder.specs.Numbers.{big_number-reads_back}
use Rattle.iscsi_pdu.specs.Headers.{Header, Initiator, Target, InitiatorHeader}
use Rattle.iscsi_pdu.specs.Headers.{TargetHeader}
use Rattle.iscsi_pdu.specs.Number.{three_at}
use Rattle.iscsi_pdu.specs.Spelling.{initiator_bhs, target_bhs, bhs}

pub record HasParts (b : List ℕ) (n : ℕ) : Type 0 where
  pub long : length b ≡ 48
  pub no_ahs : slice_index b 4 ≡ 0
  pub told : drop 5 b ≡ big_bytes 3 n ++ drop 8 b

initiator-parts : (h : InitiatorHeader) (n : ℕ) → HasParts (initiator_bhs h n) n
unfolding initiator_bhs
initiator-parts h n = record { long = grind arith; no_ahs = grind arith; told = grind arith }

target-parts : (h : TargetHeader) (n : ℕ) → HasParts (target_bhs h n) n
unfolding target_bhs
target-parts h n = record { long = grind arith; no_ahs = grind arith; told = grind arith }

pub has-parts : (h : Header) (n : ℕ) → HasParts (bhs h n) n
has-parts (Initiator h) n = initiator-parts h n
has-parts (Target h) n = target-parts h n

pub told-length : (b : List ℕ) (n : ℕ) → HasParts b n → n < 2 ^ 24 → three_at b 5 ≡ n
unfolding three_at
told-length b n p lt = ap (big_number 3) p.told ∙ big_number-reads_back 3 n (drop 8 b) lt
