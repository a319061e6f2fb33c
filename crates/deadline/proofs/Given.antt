-- What was written is what was given to be written, and a flush behind more writes is one behind fewer.
use Rattle.std.proofs.Common.{◌≡◌, ◌≤◌, ℕ, List, sym, ap, subst, arith}
use Rattle.disk_files.specs.Lasting.{IsSettled}
use Rattle.disk_preparer.specs.declared.Node.{Node}
use Rattle.deadline.specs.Answers.{Calls, given_to, HasWritten}
use Rattle.deadline.specs.declared.request.Wanted.{Wanted}
use Rattle.deadline.specs.declared.request.Wanted.TheVariants.{Write}

pub given_written : {B O : Type 0} (c : Calls B O) (disk : Node) (first writes : ℕ) (wanted : Wanted) (bytes : List ℕ)
    → wanted ≡ Write first → HasWritten c disk first bytes writes → HasWritten c disk first (given_to wanted bytes) writes
given_written c disk first writes wanted bytes is written =
    subst (λ (given : List ℕ). HasWritten c disk first given writes) (sym (ap (λ (w : Wanted). given_to w bytes) is)) written

pub settled_with_fewer : (lasts : ℕ → Type 0) (writes more : ℕ) → writes ≤ more → IsSettled lasts more → IsSettled lasts writes
settled_with_fewer lasts writes more le s =
    record { count = s.count; enough = omega (arith, le, s.enough); flushed = s.flushed }
