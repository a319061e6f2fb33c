-- One call of a device after another, and the count of failures over them.
use Rattle.std.proofs.Common.{◌≡◌, ℕ, ◌<◌, ◌∙◌, Result, Ok, Err, OnOk, true, false, arith}
use Rattle.block_file.specs.Failures.{Counts, Tells, last_count}

-- a call that the count does not tell as failed was done
pub was_done : {T E P : Type 0} (before now : ℕ) (result : Result T E) → Counts before now result → before < last_count
    → now ≡ before → OnOk result P → P
was_done before now (Ok t) counts room same p = p
was_done before now (Err e) counts room same p =
    let up : before < now = counts.rises room (λ (done : false ≡ true). cc) in absurd (omega arith)
