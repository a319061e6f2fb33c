-- No data segment is longer than was announced.
use Rattle.std.proofs.Common.{ℕ, ◌+◌, ◌-◌, ◌≤◌, List, length, drop, ap, arith, length-take}
use Rattle.session_rules.specs.Words.{own_data_segment, IsPdu, bhs_length, three_at, Header}

pub taken : (b d : List ℕ) (h : Header) → IsPdu b h d → length d ≤ own_data_segment
taken b d h p =
    let n : ℕ = three_at b 5 in
    omega (arith, ap length p.same_data, length-take (bhs_length + n - bhs_length) (drop bhs_length b), p.limit)
