-- Bits and numbers at their places in a basic header segment (BHS), the first byte the highest; and its length.
use Rattle.std.specs.Prelude.{ℕ, ◌/◌, ◌%◌, Bool, List, drop, nat_eq, slice_index}
use Rattle.byteorder.specs.Endian.{big_number}

-- the bytes of a BHS (RFC 7143, 11.2.1)
abbrev pub bhs_length : ℕ
bhs_length = 48

-- the most bytes of a data segment: what a target takes, as its MaxRecvDataSegmentLength tells (13.12), and what it sends
abbrev pub max_data_segment_length : ℕ
max_data_segment_length = 65536

-- the bit of this value in the byte at a place
abbrev pub bit : List ℕ → ℕ → ℕ → Bool
bit b at value = nat_eq (slice_index b at / value % 2) 1

unfoldable pub half_at : List ℕ → ℕ → ℕ
half_at b at = big_number 2 (drop at b)

unfoldable pub three_at : List ℕ → ℕ → ℕ
three_at b at = big_number 3 (drop at b)

unfoldable pub word_at : List ℕ → ℕ → ℕ
word_at b at = big_number 4 (drop at b)
