use Rattle.std.proofs.Common.{◌≡◌, ◌≤◌, drop}
use Rattle.login.specs.Number.{read_on}
use Rattle.login.proofs.value.digits_at_most.Given as goal

-- the number so far, of the digits before the place
abbrev pub invariant-loop-byte : goal.invariant-loop-byte
invariant-loop-byte l = (l.number ≤ l.most)
    × (read_on l.base l.number (drop l.byte-index l.digits) ≡ read_on l.base 0 l.digits)
