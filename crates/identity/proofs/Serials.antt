-- Serial numbers tell their units apart.
use Rattle.std.proofs.Common.{◌≡◌, ℕ, ◌/◌, ◌%◌, ◌<◌, ◌^◌, get_or, ap, arith}
use Rattle.scsi_types.specs.declared.names.Place.{Place}
use Rattle.identity.specs.Table.{spell}
use Rattle.identity.specs.VitalProductData.{digit, serial_number}

digit_is : (a b : ℕ) → a < 16 → b < 16 → digit a ≡ digit b → a ≡ b
digit_is a b a16 b16 e = grind (arith, e)

pub serials_differ : (place other : Place) → place.array < 2 ^ 32 → other.array < 2 ^ 32 → place.unit < 100
    → other.unit < 100 → spell (serial_number place) ≡ spell (serial_number other)
    → (place.array ≡ other.array) × (place.unit ≡ other.unit)
serials_differ place other fits fits' below below' e =
    let same : (k : ℕ) → get_or (spell (serial_number place)) k 0 ≡ get_or (spell (serial_number other)) k 0 =
    λ k. ap (λ s. get_or s k 0) e in
    let a : ℕ = place.array in
    let b : ℕ = other.array in
    let d7 : a / 268435456 % 16 ≡ b / 268435456 % 16 = digit_is _ _ (omega arith) (omega arith) (same 4) in
    let d6 : a / 16777216 % 16 ≡ b / 16777216 % 16 = digit_is _ _ (omega arith) (omega arith) (same 5) in
    let d5 : a / 1048576 % 16 ≡ b / 1048576 % 16 = digit_is _ _ (omega arith) (omega arith) (same 6) in
    let d4 : a / 65536 % 16 ≡ b / 65536 % 16 = digit_is _ _ (omega arith) (omega arith) (same 7) in
    let d3 : a / 4096 % 16 ≡ b / 4096 % 16 = digit_is _ _ (omega arith) (omega arith) (same 8) in
    let d2 : a / 256 % 16 ≡ b / 256 % 16 = digit_is _ _ (omega arith) (omega arith) (same 9) in
    let d1 : a / 16 % 16 ≡ b / 16 % 16 = digit_is _ _ (omega arith) (omega arith) (same 10) in
    let d0 : a / 1 % 16 ≡ b / 1 % 16 = digit_is _ _ (omega arith) (omega arith) (same 11) in
    let u1 : place.unit / 10 % 10 ≡ other.unit / 10 % 10 = digit_is _ _ (omega arith) (omega arith) (same 12) in
    let u0 : place.unit / 1 % 10 ≡ other.unit / 1 % 10 = digit_is _ _ (omega arith) (omega arith) (same 13) in
    (omega arith, omega arith)
