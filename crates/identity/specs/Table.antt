-- The tables in which SPC-4 and SBC-3 lay out the data of a command: each field with its name, its width and its value.
use Rattle.std.specs.Prelude.{ℕ, ◌+◌, ◌*◌, ◌^◌, nat_eq, nat_lt, Bool, true, ◌&&◌, List, [], ◌∷◌, ◌++◌, replicate, take}
use Prim.Native.String.{String}
use Rattle.byteorder.specs.Endian.{big_bytes}

-- a field that shares its byte with others: its name, its width in bits, its value
pub record BitField : Type 0 where
  pub name : String
  pub width : ℕ
  pub value : ℕ

abbrev pub bits : String → ℕ → ℕ → BitField
bits name width value = record { name = name; width = width; value = value }

abbrev pub flag : String → ℕ → BitField
flag name value = bits name 1 value

-- a row of a table: a byte; the fields that share a byte, the highest first; a number of so many bytes; characters; so
-- many bytes that are reserved
pub data Row : Type 0 where
  Byte : String → ℕ → Row
  Shared : List BitField → Row
  Number : String → ℕ → ℕ → Row
  Characters : String → List ℕ → Row
  Reserved : ℕ → Row

-- these fields below those whose bits are `high`
abbrev pub packed : ℕ → List BitField → ℕ
packed high [] = high
packed high (field ∷ fields) = packed (high * 2 ^ field.width + field.value) fields

abbrev pub row_bytes : Row → List ℕ
row_bytes (Byte name value) = value ∷ []
row_bytes (Shared fields) = packed 0 fields ∷ []
row_bytes (Number name width value) = big_bytes width value
row_bytes (Characters name text) = text
row_bytes (Reserved width) = replicate width 0

-- the bytes of a table, row by row
abbrev pub spell : List Row → List ℕ
spell [] = []
spell (row ∷ rows) = row_bytes row ++ spell rows

-- no more than the ALLOCATION LENGTH is returned, and the length fields stay as they are (SPC-4, 4.2.5.6)
abbrev pub cut : ℕ → List ℕ → List ℕ
cut allocation bytes = take allocation bytes

-- the fields that share a byte have eight bits, and the value of each fits its width
abbrev pub width_of : List BitField → ℕ
width_of [] = 0
width_of (field ∷ fields) = field.width + width_of fields

abbrev pub fit : List BitField → Bool
fit [] = true
fit (field ∷ fields) = nat_lt field.value (2 ^ field.width) && fit fields

abbrev pub are_bytes : List Row → Bool
are_bytes [] = true
are_bytes (Shared fields ∷ rows) = nat_eq (width_of fields) 8 && fit fields && are_bytes rows
are_bytes (row ∷ rows) = are_bytes rows
