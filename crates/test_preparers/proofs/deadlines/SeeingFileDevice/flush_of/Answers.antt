use Rattle.std.proofs.Common.{ℕ, Result, Ok, Err, OnOk, arith}
use Rattle.block_file.specs.Failures.{last_count}
use Rattle.disk_files.specs.Lasting.{IsSettled}
use Rattle.test_preparers.proofs.deadlines.SeeingFileDevice.flush_of.Goals as goal

-- what is said of no file
settled : {T E : Type 0} (r : Result T E) → OnOk r (IsSettled (λ (writes : ℕ). Unit {0}) last_count)
settled (Ok value) = record { count = last_count; enough = omega (arith); flushed = tt }
settled (Err why) = tt

pub returns-clause-lasts : goal.returns-clause-lasts
returns-clause-lasts g c = settled c.flush.result
